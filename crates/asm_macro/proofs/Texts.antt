-- Statements that are taken off a part one after the other.
use Rattle.std.proofs.Common.{◌≡◌, inl, ℕ, ◌+◌, List, [], ◌∷◌, Option, None, Result, Ok, Err, refl, sym, ap, subst, ◌∙◌}
use Rattle.asm_base.specs.Inputs.{Contents}
use Rattle.asm_base.specs.declared.positions.Pos.{Pos}
use Rattle.asm_lines.specs.NextStatements.{TokenStatement}
use Rattle.macro_blocks.specs.Levels.{Level, with_statements}
use Rattle.macro_words.specs.declared.causes.MacroCause.TheVariants.{UnclosedBlock}
use Rattle.macro_words.specs.Conditions.{Knowledge}
use Rattle.macro_words.specs.Statements.{behind_labels}
use Rattle.asm_macro.specs.declared.faults.ExpandFault.{ExpandFault}
use Rattle.asm_macro.specs.declared.faults.ExpandFault.TheVariants.{Expansion, NoMemory}
use Rattle.asm_macro.specs.declared.turned.Turned.{Turned}
use Rattle.asm_macro.specs.declared.turned.Turned.TheVariants as turned
use Rattle.asm_macro.specs.Expansion as list
use Rattle.asm_macro.specs.Expansion.{State, under, turn}
use Rattle.asm_macro.specs.Placing.{Step, goes, untold, placed_by_turn, steps}
use Rattle.asm_macro.specs.Starts.{files_of}
use Rattle.asm_macro.specs.Heads.{IsHead}
use Rattle.asm_macro.specs.Readings.{InputAs, HasRead, HasStopped}
use Rattle.asm_macro.specs.Running.{Runs, RunsFrom, HandsOut, headed}
use Rattle.asm_macro.proofs.FilesGrow.{files_grow}
use Rattle.asm_macro.proofs.Runs.{steps_one, steps_more, after_turns}
use Rattle.asm_macro.proofs.Turnings.{handed_runs, untold_runs}
use Rattle.asm_macro.proofs.Wholes.{read_none, stopped_by, stopped_without}

-- a part without statements and without open conditionals is at its end
closed_turn : (known : Knowledge) (contents : Option Contents) (level : Level) (state : State) → level.statements ≡ [] → level.open_at ≡ [] → turn known contents (under level state) ≡ list.goes state
unfolding turn
closed_turn known contents level state none closed = rw (none, closed) refl

open_turn : (known : Knowledge) (contents : Option Contents) (level : Level) (state : State) (first : Pos) (others : List Pos) → level.statements ≡ [] → level.open_at ≡ first ∷ others
    → turn known contents (under level state) ≡ list.fails UnclosedBlock first
unfolding turn
open_turn known contents level state first others none is = rw (none, is) refl

module _ {S F : Type 0} (placed : S → TokenStatement → Result S F) (known : S → Knowledge) (contents : Option Contents) where
  -- memory was refused
  pub runs_without : (start now : State) (placer other : S) (left : Level) (input : InputAs) → now.files ≡ start.files → RunsFrom {F = F} placed known contents start placer (Err NoMemory) left now other input input
  runs_without start now placer other left input same =
      (0, record { comes = tt; uses = subst (λ names. HasStopped {F = F} NoMemory (files_of (steps placed known contents 0 start placer)) start.files names input input) (sym same) (stopped_without _ start.files input (files_grow placed known contents 0 start placer)) })

  module _ (start : State) (first : S) where
    -- the list that some turns left, with a statement at its head
    more_head : (n : ℕ) (before now : Level) (s : TokenStatement) (state : State) (placer : S) → steps placed known contents n start first ≡ goes (under before state) placer
        → before ≡ with_statements (s ∷ now.statements) now → steps placed known contents n start first ≡ goes (headed s now state) placer
    more_head n before now s state placer done is = done ∙ ap (λ l. goes (under l state) placer) is

    -- what comes of its head
    pub text_more : (n : ℕ) (before now left : Level) (s : TokenStatement) (state after : State) (placer other : S) (result : Result Turned (ExpandFault F)) (input used : InputAs)
        → steps placed known contents n start first ≡ goes (under before state) placer → before ≡ with_statements (s ∷ now.statements) now → state.files ≡ start.files
        → RunsFrom placed known contents (headed s now state) placer result left after other input used
        → RunsFrom placed known contents start first result left after other input used
    text_more n before now left s state after placer other result input used done is names later =
        let P : Step S F → Type 0 = λ x. Runs result x left after other start.files input used in
        let Q : List (List ℕ) → Type 0 = λ old. (k : ℕ) × Runs result (steps placed known contents k (headed s now state) placer) left after other old input used in
        let further : Q start.files = subst Q names later in
        after_turns placed known contents P n start first (headed s now state) placer (inl (more_head n before now s state placer done is)) (untold_runs result _ left after other start.files input used further.1) further

    -- a statement more is placed
    pub text_next : (n : ℕ) (before now : Level) (s : TokenStatement) (state after : State) (placer other : S)
        → steps placed known contents n start first ≡ goes (under before state) placer → before ≡ with_statements (s ∷ now.statements) now
        → IsHead None (behind_labels s.tokens) state.macros → HandsOut {F = F} placed s (Ok tt) state placer after other
        → (k : ℕ) × (steps placed known contents k start first ≡ goes (under now after) other)
    text_next n before now s state after placer other done is plain handed =
        (n + 1, steps_more placed known contents n 1 start first (headed s now state) placer (more_head n before now s state placer done is) ∙ handed_runs placed known contents s now state after placer other plain handed)

    -- no statement is left
    pub text_ends : (n : ℕ) (before : Level) (left : Level) (state : State) (placer : S) (input : InputAs)
        → steps placed known contents n start first ≡ goes (under before state) placer → before.statements ≡ [] → before.open_at ≡ [] → state.files ≡ start.files
        → RunsFrom placed known contents start first (Ok turned.Leaves) left state placer input input
    text_ends n before left state placer input done none closed names =
        let here = closed_turn (known placer) contents before state none closed in (
          n + 1,
          record {
            comes = inl (steps_more placed known contents n 1 start first (under before state) placer done ∙ steps_one placed known contents (under before state) placer ∙ ap (placed_by_turn placed state.files placer) here);
            uses = subst (λ these. HasRead start.files these input input) (sym names) (read_none start.files input);
          },
        )

    pub text_unclosed : (n : ℕ) (before left : Level) (state : State) (placer : S) (input : InputAs) (pos : Pos) (others : List Pos)
        → steps placed known contents n start first ≡ goes (under before state) placer → before.statements ≡ [] → before.open_at ≡ pos ∷ others → state.files ≡ start.files
        → RunsFrom placed known contents start first (Err (Expansion UnclosedBlock pos)) left state placer input input
    text_unclosed n before left state placer input pos others done none is names =
        let here = open_turn (known placer) contents before state pos others none is in (
          n + 1,
          record {
            comes = inl (steps_more placed known contents n 1 start first (under before state) placer done ∙ steps_one placed known contents (under before state) placer ∙ ap (placed_by_turn placed state.files placer) here);
            uses = subst (λ these. HasStopped {F = F} (Expansion UnclosedBlock pos) (files_of (steps placed known contents (n + 1) start first)) start.files these input input) (sym names) (stopped_by UnclosedBlock pos _ start.files input (files_grow placed known contents (n + 1) start first) (λ e. absurd cc));
          },
        )

    -- the next copy begins
    pub text_stays : (n : ℕ) (before left : Level) (state : State) (placer : S) (input : InputAs)
        → steps placed known contents n start first ≡ goes (under before state) placer → left ≡ before → state.files ≡ start.files
        → RunsFrom placed known contents start first (Ok turned.Stays) left state placer input input
    text_stays n before left state placer input done same names = (
      n,
      record {
        comes = inl (done ∙ ap (λ l. goes (under l state) placer) (sym same));
        uses = subst (λ these. HasRead start.files these input input) (sym names) (read_none start.files input);
      },
    )
