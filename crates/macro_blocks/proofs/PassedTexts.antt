-- What a search in a text says of what is left.
use Rattle.std.proofs.Common.{◌≡◌, ℕ, ◌≤◌, List, [], ◌++◌, length, map, IfOk, Option, Some, None, Result, Ok, Err, sym, ap, ◌∙◌, arith}
use Rattle.std.specs.List.{filter_map}
use Rattle.std.proofs.Math.ListN.{drop_of_length-le}
use Rattle.std.proofs.lemmas.List.{append-nil}
use Rattle.asm_base.specs.Dividing.{pieces_from}
use Rattle.asm_lines.specs.Intervals.{intervals_of, trimmed}
use Rattle.asm_lines.specs.Statements.{statement_in}
use Rattle.asm_lines.specs.NextStatements.{TokenStatement, in_tokens, statements_left}
use Rattle.macro_words.specs.Statements.{word_in, operands_in}
use Rattle.macro_blocks.specs.declared.frames.Branch.{Branch}
use Rattle.macro_blocks.specs.declared.frames.Frame.{Frame}
use Rattle.macro_blocks.specs.declared.places.Place.{Place}
use Rattle.macro_blocks.specs.declared.searching.Search.{Search}
use Rattle.macro_blocks.specs.declared.searching.Stop.{Stop}
use Rattle.macro_blocks.specs.Places.{file_of, standing, left_in}
use Rattle.macro_blocks.specs.Copies.{later_of}
use Rattle.macro_blocks.specs.Searches.{Verdict, found_by, verdict_by, StopsIn, PassesAll, PassesUpTo}
use Rattle.macro_blocks.specs.Frames.{level_of, IsSamePart, IsSameText}
use Rattle.macro_blocks.specs.Passing.{EndsBefore, EndsIn}
use Rattle.macro_blocks.proofs.Heads.{same_left, same_later}

-- no statement is left at the end of a text
pub end_of_text : (place : Place) (text : List ℕ) (at : ℕ) → at ≡ length text → left_in place text at ≡ []
unfolding left_in statements_left pieces_from trimmed
end_of_text place text at is =
    let past : length text ≤ at = omega (arith, is) in
    ap (λ rest. map (standing place) (map in_tokens (filter_map (statement_in (file_of place) text) (intervals_of (pieces_from 0 at rest))))) (drop_of_length-le text past)

-- all is passed up to the end
pub passes_to_end : (verdict : Verdict) (place : Place) (text : List ℕ) (from until : ℕ) (before after : Search) → until ≡ length text → PassesUpTo verdict place text from until before after → PassesAll verdict before after (left_in place text from)
passes_to_end verdict place text from until before after end passes ys =
    ap (λ l. found_by verdict before (l ++ ys)) (passes.cut ∙ ap (λ l. passes.front ++ l) (end_of_text place text until end) ∙ append-nil passes.front) ∙ passes.passed ys

-- the search ends in the text
pub stops_level : (verdict : Verdict) (before after : Search) (frame now : Frame) (stop : Stop) → StopsIn verdict frame.place frame.text.value frame.at before after stop → IsSameText frame now → now.at ≡ stop.at
    → EndsBefore verdict before after (level_of frame).statements (level_of now).statements (record { pos = stop.pos; verdict = stop.verdict })
unfolding level_of
stops_level verdict before after frame now stop stops same at =
    let later = later_of frame.place frame.text.value frame.alike frame.each in
    record {
      statement = stops.statement;
      found = stops.found later ∙ ap (λ rest. Some (record { text = after.text.items; stop = stops.statement; rest = rest }))
          (ap (λ l. l ++ later) (sym (same_left frame now stop.at same at)) ∙ ap (λ l. left_in now.place now.text.value now.at ++ l) (sym (same_later frame now same)));
      pos = stops.pos;
      answers = stops.answers;
    }

-- the search ends behind what was passed
pub ends_behind : (verdict : Verdict) (first before after : Search) (statements later rest : List TokenStatement) (branch : Option Branch) → found_by verdict first statements ≡ found_by verdict before later → before.block ≡ first.block
    → EndsIn verdict before after later rest branch → EndsIn verdict first after statements rest branch
ends_behind verdict first before after statements later rest None passed block ends = passed ∙ ends
ends_behind verdict first before after statements later rest (Some branch) passed block ends = record {
  statement = ends.statement;
  found = passed ∙ ends.found;
  pos = ends.pos;
  answers = ap (λ b. verdict_by b verdict (word_in ends.statement) (operands_in ends.statement)) (sym block) ∙ ends.answers;
}

-- what is left of the text is passed, and what is to come is searched
pub passed_here : (verdict : Verdict) (before after : Search) (frame now : Frame) → PassesAll verdict before after (left_in frame.place frame.text.value frame.at) → IsSameText frame now
    → found_by verdict before (level_of frame).statements ≡ found_by verdict after (later_of now.place now.text.value now.alike now.each)
unfolding level_of
passed_here verdict before after frame now passes same =
    passes (later_of frame.place frame.text.value frame.alike frame.each) ∙ ap (found_by verdict after) (sym (same_later frame now same))

pub both_same : (a b c : Frame) → IsSamePart a b → IsSamePart b c → IsSamePart a c
both_same a b c one two = record { place = two.place ∙ one.place; ends = two.ends ∙ one.ends; opened = two.opened ∙ one.opened; number = two.number ∙ one.number }

-- the same text and the same copies
pub left_again : (a b : Frame) (at : ℕ) → IsSamePart a b → b.text.value ≡ a.text.value → left_in b.place b.text.value at ≡ left_in a.place a.text.value at
left_again a b at same text = ap (λ p. left_in p b.text.value at) same.place ∙ ap (λ t. left_in a.place t at) text

pub later_again : (a b : Frame) (alike : ℕ) → IsSamePart a b → b.text.value ≡ a.text.value → b.each ≡ a.each → later_of b.place b.text.value alike b.each ≡ later_of a.place a.text.value alike a.each
later_again a b alike same text each = ap (λ p. later_of p b.text.value alike b.each) same.place ∙ ap (λ t. later_of a.place t alike b.each) text ∙ ap (later_of a.place a.text.value alike) each

-- so it is with what was asked for, unless memory was refused
pub ends_behind_ok : {E : Type 0} (result : Result (Option Branch) E) (verdict : Verdict) (first before after : Search) (statements later rest : List TokenStatement) → found_by verdict first statements ≡ found_by verdict before later → before.block ≡ first.block
    → IfOk result (λ branch. EndsIn verdict before after later rest branch) → IfOk result (λ branch. EndsIn verdict first after statements rest branch)
ends_behind_ok (Ok branch) verdict first before after statements later rest passed block ends = ends_behind verdict first before after statements later rest branch passed block ends
ends_behind_ok (Err e) verdict first before after statements later rest passed block ends = tt
