-- A part that is popped is the innermost.
use Rattle.std.proofs.Common.{rules, Some, ap, sym, ◌∙◌}
use Rattle.macro_blocks.specs.Frames.{level_of}
use Rattle.asm_macro.specs.Expansion.{after_call}
use Rattle.asm_macro.specs.OpenParts.{levels_of}
use Rattle.asm_macro.proofs.ShallowLists.{left_few}
use Rattle.asm_macro.proofs.Stacks.{exits_call, exits_more, exits_none, no_levels, popped}
use Rattle.asm_macro.proofs.definitions.leave_call.Goals as goal

pub parts-preserved : goal.parts-preserved
parts-preserved c =
    let outer = popped c.parts.frames.items c.pop.new.self.items (Some c.in-Some.outer) (search rules) in
    let more = exits_more (level_of c.in-Some.outer) (levels_of c.pop.new.self.items) (search rules) in
    record { after = sym more ∙ ap after_call (sym outer) ∙ c.parts.invariant.after; few = search rules; shallow = λ few. left_few c.parts.frames.items c.pop.new.self.items (Some c.in-Some.outer) (search rules) (c.parts.invariant.shallow few) }

pub returns-then-is_call-clause-after : goal.returns-then-is_call-clause-after
returns-then-is_call-clause-after c =
    let outer = popped c.parts.frames.items c.pop.new.self.items (Some c.in-Some.outer) (search rules) in
    let here = exits_call (level_of c.in-Some.outer) (levels_of c.pop.new.self.items) (search rules) in
    sym c.parts.invariant.after ∙ ap after_call outer ∙ here

pub returns-then-is_call-clause-few : goal.returns-then-is_call-clause-few
returns-then-is_call-clause-few c = λ few. left_few c.parts.frames.items c.pop.new.self.items (Some c.in-Some.outer) (search rules) (c.parts.invariant.shallow few)

pub returns-clause-after : goal.returns-clause-after
returns-clause-after c =
    sym c.parts.invariant.after ∙ ap after_call (no_levels c.parts.frames.items (search rules)) ∙ exits_none
