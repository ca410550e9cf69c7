-- A text without a byte, and the copies.
use Rattle.std.proofs.Common.{◌≡◌, List, [], ℕ, ◌++◌, ap, ◌∙◌}
use Rattle.asm_lines.specs.NextStatements.{TokenStatement}
use Rattle.macro_blocks.specs.declared.blocks.Ending.TheVariants as ending
use Rattle.macro_blocks.specs.declared.places.Place.TheVariants.{At}
use Rattle.macro_blocks.specs.Levels.{level_with}
use Rattle.macro_blocks.specs.Places.{is_whole, left_in}
use Rattle.macro_blocks.specs.Copies.{each_of, later_of}
use Rattle.macro_blocks.proofs.Lefts.{empty_whole, empty_left}
use Rattle.macro_blocks.proofs.frames.Frame.of_copies.Goals as goal

pub made-requires-clause-whole : goal.made-requires-clause-whole
made-requires-clause-whole c =
    let empty : c.in_ok-text.text.value ≡ [] = c.in_ok-text.ensures.ok ∙ c.new-nothing.ensures ∙ c.new.ensures.items in
    ap (λ text. is_whole text 0) empty ∙ empty_whole

pub returns : goal.returns
returns c =
    let empty : c.in_ok-text.text.value ≡ [] = c.in_ok-text.ensures.ok ∙ c.new-nothing.ensures ∙ c.new.ensures.items in
    c.made.ensures ∙ ap (λ (text : List ℕ). level_with c.args.call_number ending.Repeat (left_in (At c.args.pos) text 0 ++ later_of (At c.args.pos) text 0 c.args.each)) empty
    ∙ ap (λ (left : List TokenStatement). level_with c.args.call_number ending.Repeat (left ++ each_of (At c.args.pos) c.args.each)) (empty_left (At c.args.pos))
