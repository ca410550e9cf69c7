use Rattle.std.proofs.Common.{rules, ap, ◌∙◌}
use Rattle.x86_insn.specs.Views.{view_of}
use Rattle.x86_table.specs.Fields.{located}
use Rattle.x86_parts.specs.Building.{segment_of, place_of}
use Rattle.x86_parts.proofs.Picks.{built_from}
use Rattle.x86_parts.proofs.building.built.Goals as goal

pub returns : goal.returns
returns c = built_from c.args.row.now (view_of c.args.insn.now c.args.values.now) c.segment_at.result c.reg_part-reg.result c.low_part-low.result c.rex_bits-bits.result
    (located c.args.laid.now.displacement c.place_at-place.result) c.held_part.result _
    (c.segment_at.ensures ∙ ap segment_of c.rm_slot-rm.ensures)
    c.reg_part-reg.ensures
    c.low_part-low.ensures
    (c.place_at-place.ensures ∙ ap place_of c.rm_slot-rm.ensures)
    c.held_part.ensures
    c.rex_bits-bits.ensures.value
    (search rules)
