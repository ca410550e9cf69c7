-- The new field stands over zeros, and a new run stands behind the bytes that were there.
use Rattle.std.proofs.Common.{false, ◌≡◌, ◌+◌, ◌^◌, ◌≤◌, [], ◌∷◌, ◌++◌, length, replicate, rules}
use Rattle.asm_frags.specs.declared.fields.Field.{Field}
use Rattle.asm_frags.specs.Fields.{width}
use Rattle.asm_frags.specs.SoundItems.{AreBehind}
use Rattle.asm_frags.proofs.PlainLemmas.{field_put_last, behind_last}
use Rattle.asm_frags.proofs.parts.Section+Loose.put_field.Goals as goal
use Rattle.asm_frags.proofs.parts.Section+Loose.put_field.Goals.{then-not-ends_in_run+in_ok-add, else-not-ends_in_run}

pub invariant_of-self-2 : goal.invariant_of-self-2
invariant_of-self-2 c =
    let bytes = c.self.inside.bytes.items in
    let field : Field = record { pos = c.args.pos; item = c.len-item.result; offset = c.len-offset.result; section = c.args.number; size = c.args.size; role = c.args.role; in_item = false; form = c.args.form } in
    let small : length bytes + width c.args.size ≤ 2 ^ 33 = search rules in
    let at : c.len-offset.result ≡ length bytes = search rules in
    elim c.if-not-ends_in_run.branch [
      | then-not-ends_in_run+in_ok-add w ↦
          let all : c.extend_from_slice.new.self.items ≡ bytes ++ replicate (width c.args.size) 0 = search rules in
          let every : c.push.new.self.items ≡ c.self.inside.fields.items ++ field ∷ [] = search rules in
          let put : c.if-not-ends_in_run.self-inside.items ≡ c.self.inside.items ++ w.behind.result ∷ [] = search rules in
          let new : w.behind.result.offset ≡ length bytes = search rules in
          let behind : AreBehind (length bytes) c.if-not-ends_in_run.self-inside.items =
          behind_last (length bytes) c.self.inside.items c.if-not-ends_in_run.self-inside.items w.behind.result c.self.invariant.1 new put in
          field_put_last bytes c.extend_from_slice.new.self.items c.self.inside.fields.items c.push.new.self.items field c.if-not-ends_in_run.self-inside.items
          c.self.invariant.0 behind small at all every
      | else-not-ends_in_run w ↦
          let all : c.extend_from_slice.new.self.items ≡ bytes ++ replicate (width c.args.size) 0 = search rules in
          let every : c.push.new.self.items ≡ c.self.inside.fields.items ++ field ∷ [] = search rules in
          let behind : AreBehind (length bytes) c.if-not-ends_in_run.self-inside.items = search rules in
          field_put_last bytes c.extend_from_slice.new.self.items c.self.inside.fields.items c.push.new.self.items field c.if-not-ends_in_run.self-inside.items
          c.self.invariant.0 behind small at all every
    ]
