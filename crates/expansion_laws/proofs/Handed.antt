-- What a list that is spelled in bytes hands out, and what is placed of it.
use Rattle.std.proofs.Common.{◌&&◌, ℕ, zero, suc, Bool, true, false, cond, List, [], ◌∷◌, Option, None, Result, Ok, Err, IfOk, All, map}
use Rattle.std.proofs.lemmas.List.Elements.{All-nil, All-cons, All-head, All-map, All-tail, All-weaker}
use Rattle.asm_base.specs.Inputs.{Contents}
use Rattle.asm_base.specs.Tokens.{SpelledToken}
use Rattle.asm_lines.specs.NextStatements.{TokenStatement, in_tokens}
use Rattle.asm_lines.specs.Statements.{StatementAt, statements_of}
use Rattle.asm_lines.specs.declared.faults.LineCause.{LineCause}
use Rattle.asm_operands.specs.Operands.{is_label}
use Rattle.macro_blocks.specs.declared.blocks.Ending.TheVariants as ending
use Rattle.macro_blocks.specs.Levels.{level_with}
use Rattle.macro_words.specs.Conditions.{Knowledge}
use Rattle.asm_macro.specs.Expansion.{State, Turn, hands, goes, ended, fails, breaks, misses, untold, started, turn}
use Rattle.asm_macro.specs.Placing.{behind_placed, handed, handed_from}
use Rattle.asm_place.specs.Bodies.{body_of, front, labels_of}
use Rattle.asm_place.specs.Instructions.{behind_labels}
use Rattle.asm_functions.specs.FollowedSource.{is_frame_body, placed_part}
use Rattle.form_laws.specs.Numbers.{IsInBytes, IsSpelled, TokensAreInBytes}
use Rattle.expansion_laws.specs.Handing.{AreToldBytes, HandsBytes, HandsSpelled, PartsAreSpelled}
use Rattle.expansion_laws.proofs.Elements.{either_all}
use Rattle.expansion_laws.proofs.Heads.{IsList, IsMacro, IsPart, Kept, turn_kept}
use Rattle.expansion_laws.proofs.Lines.{IsLine, lines_in_bytes, tokens_spelled}

module _ {S F : Type 0} (placed : S → TokenStatement → Result S F) (known : S → Knowledge) (contents : Option Contents) where
  -- whatever the list is, so many turns hand out statements that are spelled in bytes
  abbrev Hands : ℕ → Type 0
  Hands n = (state : State) (placer : S) → IsList state → All IsSpelled (handed placed known contents n state placer)

  behind_one : (n : ℕ) (state : State) (result : Result S F) → Hands n → IsList state → All IsSpelled (behind_placed (handed placed known contents n) state result)
  behind_one n state (Ok placer) more is = more state placer is
  behind_one n state (Err fault) more is = All-nil IsSpelled

  by_turn : (n : ℕ) (placer : S) (t : Turn) → Hands n → Kept t → All IsSpelled (handed_from placed (handed placed known contents n) placer t)
  unfolding Kept
  by_turn n placer (hands s state) more kept = All-cons IsSpelled s _ kept.0 (behind_one n state (placed placer s) more kept.1)
  by_turn n placer (goes state) more kept = more state placer kept
  by_turn n placer ended more kept = All-nil IsSpelled
  by_turn n placer (fails cause pos) more kept = All-nil IsSpelled
  by_turn n placer (breaks name fault) more kept = All-nil IsSpelled
  by_turn n placer (misses name) more kept = All-nil IsSpelled
  by_turn n placer untold more kept = All-nil IsSpelled

  all_spelled : TokensAreInBytes → AreToldBytes contents → (n : ℕ) → Hands n
  unfolding handed
  all_spelled read files zero state placer is = All-nil IsSpelled
  all_spelled read files (suc n) state placer is =
      by_turn n placer (turn (known placer) contents state) (all_spelled read files n) (turn_kept read (known placer) contents state files is)

  pub hand_spelled : TokensAreInBytes → (files : List (List ℕ)) (statements : List TokenStatement) (placer : S) → HandsSpelled placed known files statements contents placer
  hand_spelled read files statements placer n told all =
      all_spelled read told n (started files statements) placer
      (record { parts = All-cons IsPart (level_with None ending.File statements) [] all (All-nil IsPart); macros = All-nil IsMacro })

  of_lines : TokensAreInBytes → (files : List (List ℕ)) (placer : S) (n : ℕ) (lines : Result (List StatementAt) LineCause) → AreToldBytes contents → IfOk lines (All IsLine)
      → IfOk lines (λ statements. All IsSpelled (handed placed known contents n (started files (map in_tokens statements)) placer))
  of_lines read files placer n (Ok statements) told all = hand_spelled read files (map in_tokens statements) placer n told (tokens_spelled read statements all)
  of_lines read files placer n (Err cause) told all = tt

  pub hand_bytes : TokensAreInBytes → (files : List (List ℕ)) (placer : S) → HandsBytes placed known files contents placer
  hand_bytes read files placer n file source told all = of_lines read files placer n (statements_of file source) told (lines_in_bytes file source all)

-- WHAT IS PLACED OF STATEMENTS

labels_spelled : (tokens : List SpelledToken) → All IsInBytes tokens → All IsInBytes (labels_of tokens)
unfolding labels_of
labels_spelled [] all = all
labels_spelled (first ∷ []) all = All-nil IsInBytes
labels_spelled (first ∷ second ∷ rest) all =
    let later = All-tail IsInBytes first (second ∷ rest) all in
    either_all IsInBytes (is_label first second) (first ∷ second ∷ labels_of rest) []
    (All-cons IsInBytes first (second ∷ labels_of rest) (All-head IsInBytes first (second ∷ rest) all)
    (All-cons IsInBytes second (labels_of rest) (All-head IsInBytes second rest later) (labels_spelled rest (All-tail IsInBytes second rest later))))
    (All-nil IsInBytes)

part_spelled : (asked : Bool) (s : TokenStatement) → IsSpelled s → IsSpelled (placed_part asked s)
part_spelled asked s is = by (asked && is_frame_body (body_of (behind_labels s.tokens)))
  where
    by : (test : Bool) → IsSpelled (cond test (front s) s)
    by true = labels_spelled s.tokens is
    by false = is

pub parts_spelled : PartsAreSpelled
parts_spelled asked statements all = All-map IsSpelled (placed_part asked) statements (All-weaker IsSpelled (λ s. IsSpelled (placed_part asked s)) (part_spelled asked) statements all)
