use Rattle.std.proofs.Common.{Bool, if◌then◌else◌, refl, ap, ◌∙◌}
use Rattle.x86_table.specs.Bytes.{has_rex}
use Rattle.x86_table.specs.Fields.{fields_of}
use Rattle.x86_decode.specs.RowSlots.{slot_by}
use Rattle.x86_decode.proofs.ShownInstructions.{in_order, in_other_order, made_shows}
use Rattle.x86_decode.proofs.SingleRows.{single_row}
use Rattle.x86_decode.proofs.instructions.insn_of.Goals as goal

pub returns : goal.returns
returns c =
    let r = c.args.front.now.row.now in
    let p = fields_of c.args.front.now.parts in
    let one = c.slot_by-one.ensures ∙ ap (λ (rex : Bool). slot_by rex p r.first) c.has_rex-rex.ensures in
    let other = c.slot_by-other.ensures ∙ ap (λ (rex : Bool). slot_by rex p r.second) c.has_rex-rex.ensures in
    let a = slot_by (has_rex r p) p r.first in
    let b = slot_by (has_rex r p) p r.second in
    made_shows (record {
      name = r.name;
      size = r.size;
      «prefix» = p.«prefix»;
      first = c.either-first.result;
      second = c.either-second.result;
      third = c.slot_by-third.result;
      address = c.address_by-address.result;
      immediate = c.immediate_of-immediate.result;
      displacement = c.in_ok-displacement.displacement;
    }) r p c.args.front.now.len (single_row r c.requires.of_row.there) c.requires.of_row.counted (record {
      name = refl;
      size = refl;
      «prefix» = refl;
      first = c.either-first.ensures ∙ ap (λ (turned : Bool). if turned then c.slot_by-other.result else c.slot_by-one.result) c.turns-turned.ensures
          ∙ in_order r a b c.slot_by-one.result c.slot_by-other.result one other;
      second = c.either-second.ensures ∙ ap (λ (turned : Bool). if turned then c.slot_by-one.result else c.slot_by-other.result) c.turns-turned.ensures
          ∙ in_other_order r a b c.slot_by-one.result c.slot_by-other.result one other;
      third = c.slot_by-third.ensures ∙ ap (λ (rex : Bool). slot_by rex p r.third) c.has_rex-rex.ensures;
      address = c.address_by-address.ensures;
      immediate = c.immediate_of-immediate.ensures;
      displacement = c.in_ok-displacement.ensures;
    })
