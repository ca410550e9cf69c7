-- A text is searched statement by statement.
use Rattle.std.proofs.Common.{◌≡◌, ℕ, ◌≤◌, true, List, [], ◌∷◌, ◌++◌, length, sym, ap, ◌∙◌}
use Rattle.std.proofs.lemmas.List.{append_assoc}
use Rattle.asm_lines.specs.LineNumbers.{line_of}
use Rattle.asm_lines.specs.NextStatements.{TokenStatement}
use Rattle.macro_words.specs.Statements.{pos_of, word_in, operands_in}
use Rattle.macro_blocks.specs.declared.places.Place.{Place}
use Rattle.macro_blocks.specs.declared.searching.Search.{Search}
use Rattle.macro_blocks.specs.declared.searching.Stop.{Stop}
use Rattle.macro_blocks.specs.Places.{left_in, is_whole}
use Rattle.macro_blocks.specs.Searches.{Verdict, verdict_by, found_by, EndsAt, StopsIn, PassesAll, PassesUpTo}

module _ (verdict : Verdict) (place : Place) (text : List ℕ) (from : ℕ) (before : Search) where
  -- a statement more is passed
  pub passed_on : (at next : ℕ) (now after : Search) (s : TokenStatement) → PassesUpTo verdict place text from at before now → left_in place text at ≡ s ∷ left_in place text next
      → ((rest : List TokenStatement) → found_by verdict now (s ∷ rest) ≡ found_by verdict after rest) → PassesUpTo verdict place text from next before after
  passed_on at next now after s so_far first passes = record {
    front = so_far.front ++ s ∷ [];
    cut = so_far.cut ∙ ap (λ left. so_far.front ++ left) first ∙ sym (append_assoc so_far.front (s ∷ []) (left_in place text next));
    passed = λ ys. ap (found_by verdict before) (append_assoc so_far.front (s ∷ []) ys) ∙ so_far.passed (s ∷ ys) ∙ passes ys;
  }

  -- the search goes on behind what was passed
  passed_front : (at : ℕ) (now : Search) (ys : List TokenStatement) → PassesUpTo verdict place text from at before now → found_by verdict before (left_in place text from ++ ys) ≡ found_by verdict now (left_in place text at ++ ys)
  passed_front at now ys so_far =
      ap (λ left. found_by verdict before (left ++ ys)) so_far.cut ∙ ap (found_by verdict before) (append_assoc so_far.front (left_in place text at) ys) ∙ so_far.passed (left_in place text at ++ ys)

  -- nothing is left
  pub passed_all : (at : ℕ) (now : Search) → PassesUpTo verdict place text from at before now → left_in place text at ≡ [] → PassesAll verdict before now (left_in place text from)
  passed_all at now so_far none ys = passed_front at now ys so_far ∙ ap (λ left. found_by verdict now (left ++ ys)) none

  -- the search ends at the next statement
  pub stopped_in : (at : ℕ) (now after : Search) (s : TokenStatement) (stop : Stop) → PassesUpTo verdict place text from at before now → left_in place text at ≡ s ∷ left_in place text stop.at → EndsAt verdict now after s stop.verdict
      → now.block ≡ before.block → stop.pos ≡ pos_of s → stop.at ≤ length text → stop.line ≡ line_of text stop.at → is_whole text stop.at ≡ true → StopsIn verdict place text from before after stop
  stopped_in at now after s stop so_far first ends block pos within line whole = record {
    statement = s;
    found = λ ys. passed_front at now ys so_far ∙ ap (λ left. found_by verdict now (left ++ ys)) first ∙ ends.found (left_in place text stop.at ++ ys);
    pos = pos;
    answers = ap (λ b. verdict_by b verdict (word_in s) (operands_in s)) (sym block) ∙ ends.answers;
    within = within;
    line = line;
    whole = whole;
  }
