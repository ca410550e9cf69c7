-- The new item stands behind the bytes that are there, and its field over none of them.
use Rattle.std.proofs.Common.{true, ◌≡◌, [], ◌∷◌, ◌++◌, length, refl, rules}
use Rattle.asm_frags.specs.declared.fields.Field.{Field}
use Rattle.asm_frags.specs.declared.fields.FieldSize.TheVariants.{Four}
use Rattle.asm_frags.specs.Fields.{growth_role}
use Rattle.asm_frags.proofs.PlainLemmas.{growing_put_last}
use Rattle.asm_frags.proofs.parts.Section+Loose.put_growing.Goals as goal

pub invariant_of-self-2 : goal.invariant_of-self-2
invariant_of-self-2 c =
    let bytes = c.self.inside.bytes.items in
    let field : Field = record { pos = c.args.pos; item = c.len-item.result; offset = c.len-offset.result; section = c.args.number; size = Four; role = growth_role c.args.kind c.args.suffix; in_item = true; form = c.args.form } in
    let at : c.len-offset.result ≡ length bytes = search rules in
    let every : c.push.new.self.items ≡ c.self.inside.fields.items ++ field ∷ [] = search rules in
    let put : c.add.new.self ≡ c.self.inside.items ++ c.behind.result ∷ [] = search rules in
    let new : c.behind.result.offset ≡ length bytes = search rules in
    growing_put_last bytes c.self.inside.fields.items c.push.new.self.items field c.self.inside.items c.add.new.self c.behind.result c.self.invariant.0 c.self.invariant.1 at every new put refl
