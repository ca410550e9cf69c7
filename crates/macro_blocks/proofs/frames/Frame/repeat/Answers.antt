-- The text from its beginning on, and its copies.
use Rattle.std.proofs.Common.{List, ℕ, ◌≡◌, ◌++◌, ◌-◌, ap, subst, ◌∙◌, arith, rules}
use Rattle.asm_lines.specs.NextStatements.{HasNoLineFault}
use Rattle.macro_blocks.specs.declared.blocks.Ending.TheVariants as ending
use Rattle.macro_blocks.specs.declared.places.Place.TheVariants.{At}
use Rattle.macro_blocks.specs.Levels.{level_with}
use Rattle.macro_blocks.specs.Places.{left_in}
use Rattle.macro_blocks.specs.Copies.{later_of}
use Rattle.macro_blocks.specs.Frames.{level_of}
use Rattle.macro_blocks.proofs.MadeFrames.{made_repeat, made_none}
use Rattle.macro_blocks.proofs.frames.Frame.repeat.Goals as goal

pub returns-then-count-eq0 : goal.returns-then-count-eq0
returns-then-count-eq0 c =
    made_none c.args.pos c.args.body.items c.args.count c.args.call_number c.none.result (level_of c.in_ok-of_copies.field-0) (subst (HasNoLineFault 0) c.new-text.ensures c.in_ok-check_text.ensures) c.none.ensures.values c.none.ensures.next c.if-count-eq0.true c.in_ok-of_copies.ensures

pub returns : goal.returns
returns c =
    let text : c.in_ok-text.text.value ≡ c.args.body.items = search rules in
    let made = c.made.ensures ∙ ap (λ (t : List ℕ). level_with c.args.call_number ending.Repeat (left_in (At c.args.pos) t 0 ++ later_of (At c.args.pos) t (c.args.count - 1) c.none-each.result)) text in
    made_repeat c.args.pos c.args.body.items c.args.count c.args.call_number c.none-each.result (level_of c.made.result) (subst (HasNoLineFault 0) c.new-text.ensures c.in_ok-check_text.ensures) c.none-each.ensures.values c.none-each.ensures.next (omega arith) made
