-- What calls and repeats make is what is left of their frames.
use Rattle.std.proofs.Common.{◌≡◌, ℕ, ◌-◌, ◌<◌, List, [], ◌++◌, Option, Some, Result, Ok, sym, ap, ◌∙◌}
use Rattle.std.proofs.lemmas.List.{append-nil}
use Rattle.asm_base.specs.declared.positions.Pos.{Pos}
use Rattle.asm_lines.specs.NextStatements.{TokenStatement, HasNoLineFault}
use Rattle.macro_words.specs.declared.causes.MacroCause.{MacroCause}
use Rattle.macro_words.specs.Statements.{made_statements}
use Rattle.macro_blocks.specs.declared.blocks.Ending.TheVariants as ending
use Rattle.macro_blocks.specs.declared.copies.EachCopy.{EachCopy}
use Rattle.macro_blocks.specs.declared.places.Place.TheVariants.{At}
use Rattle.macro_blocks.specs.Blocks.{repeated}
use Rattle.macro_blocks.specs.Levels.{Level, level_with, entered, copies_of}
use Rattle.macro_blocks.specs.Places.{left_in}
use Rattle.macro_blocks.specs.Copies.{each_of, later_of}
use Rattle.macro_blocks.proofs.CopyLemmas.{one_more}
use Rattle.macro_blocks.proofs.Lefts.{none_later}
use Rattle.macro_blocks.proofs.MadeCopies.{whole_made}

-- a call
pub made_call : (pos : Pos) (text : List ℕ) (number : ℕ) (each : EachCopy) (level : Level) → HasNoLineFault 0 text → each.line.values.items ≡ [] → each.next ≡ 0
    → level ≡ level_with (Some number) ending.Call (left_in (At pos) text 0 ++ later_of (At pos) text 0 each) → entered (Some number) ending.Call (made_statements pos text) ≡ Ok level
made_call pos text number each level whole none next is =
    ap (entered (Some number) ending.Call) (whole_made pos text whole)
    ∙ ap (λ (left : List TokenStatement). Ok (level_with (Some number) ending.Call left)) (sym (none_later (At pos) text each (left_in (At pos) text 0) none next))
    ∙ ap (λ (l : Level). Ok l) (sym is)

-- a repeat
pub made_repeat : (pos : Pos) (text : List ℕ) (count : ℕ) (number : Option ℕ) (each : EachCopy) (level : Level) → HasNoLineFault 0 text → each.line.values.items ≡ [] → each.next ≡ 0 → 0 < count
    → level ≡ level_with number ending.Repeat (left_in (At pos) text 0 ++ later_of (At pos) text (count - 1) each) → entered number ending.Repeat (copies_of count (made_statements pos text)) ≡ Ok level
made_repeat pos text count number each level whole none next some is =
    let copy = left_in (At pos) text 0 in
    let nothing : each_of (At pos) each ≡ [] = none_later (At pos) text each [] none next in
    ap (λ (made : Result (List TokenStatement) MacroCause). entered number ending.Repeat (copies_of count made)) (whole_made pos text whole)
    ∙ ap (λ (left : List TokenStatement). Ok (level_with number ending.Repeat left)) (one_more count copy some)
    ∙ ap (λ (left : List TokenStatement). Ok (level_with number ending.Repeat (copy ++ left))) (sym (ap (λ (l : List TokenStatement). repeated (count - 1) copy ++ l) nothing ∙ append-nil (repeated (count - 1) copy)))
    ∙ ap (λ (l : Level). Ok l) (sym is)

-- a repeat of no copy
pub made_none : (pos : Pos) (text : List ℕ) (count : ℕ) (number : Option ℕ) (each : EachCopy) (level : Level) → HasNoLineFault 0 text → each.line.values.items ≡ [] → each.next ≡ 0 → count ≡ 0
    → level ≡ level_with number ending.Repeat (each_of (At pos) each) → entered number ending.Repeat (copies_of count (made_statements pos text)) ≡ Ok level
made_none pos text count number each level whole none next zero is =
    let nothing : each_of (At pos) each ≡ [] = none_later (At pos) text each [] none next in
    ap (λ (made : Result (List TokenStatement) MacroCause). entered number ending.Repeat (copies_of count made)) (whole_made pos text whole)
    ∙ ap (λ n. Ok (level_with number ending.Repeat (repeated n (left_in (At pos) text 0)))) zero
    ∙ ap (λ (left : List TokenStatement). Ok (level_with number ending.Repeat left)) (sym nothing)
    ∙ ap (λ (l : Level). Ok l) (sym is)
