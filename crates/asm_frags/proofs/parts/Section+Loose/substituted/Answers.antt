-- The fields and the items stand where they stood.
use Rattle.std.proofs.Common.{◌≡◌, length, map, rules}
use Rattle.asm_frags.specs.Substituting.{substituted_field, laid_item}
use Rattle.asm_frags.proofs.SubstitutingLemmas.{all_back, fields_substituted, behind_at_zero}
use Rattle.asm_frags.proofs.parts.Section+Loose.substituted.Goals as goal

pub invariant_of-result : goal.invariant_of-result
invariant_of-result g c =
    let substitute = g.R.Substitution.substitute c.args.substitution.now in
    let long : length c.self.inside.fields.items ≡ c.self.inside.fields.len = search rules in
    let made : c.substitute_fields.new.fields ≡ map (substituted_field substitute) c.self.inside.fields.items = search rules in
    let laid : c.in_ok-items.items ≡ map laid_item c.self.inside.items = search rules in (
      fields_substituted substitute c.self.inside.bytes.items c.self.inside.fields.items _ c.self.invariant.0
          (all_back (substituted_field substitute) c.self.inside.fields.items c.substitute_fields.new.fields c.self.inside.fields.len long made),
      behind_at_zero (length c.self.inside.bytes.items) c.self.inside.items c.in_ok-items.items c.self.invariant.1 laid,
    )
