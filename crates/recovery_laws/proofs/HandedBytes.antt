-- The statements of a source that is bytes are spelled in bytes.
use Rattle.std.proofs.Common.{ℕ, List, [], ◌∷◌, All, map, Option, Some, Result, Ok, Err}
use Rattle.std.specs.Result.{IfOk}
use Rattle.std.proofs.lemmas.List.Elements.{All-nil}
use Rattle.asm_base.specs.Inputs.{Contents}
use Rattle.asm_lines.specs.NextStatements.{in_tokens}
use Rattle.asm_lines.specs.Statements.{StatementAt, statements_of}
use Rattle.asm_lines.specs.declared.faults.LineCause.{LineCause}
use Rattle.asm_macro.specs.Expansion.{started}
use Rattle.asm_macro.specs.Placing.{handed, most_turns}
use Rattle.asm_functions.specs.FollowedSource.{FollowedSource}
use Rattle.expansion_laws.specs.Handing.{IsBytes, AreBytes, HandsBytes}
use Rattle.form_laws.specs.Numbers.{IsSpelled}
use Rattle.asm_front.specs.Assembly.{main_file, nothing_yet, placed_after, told_of, handed_by}
use Rattle.source_ends.specs.Ending.{Flags}

by_lines : (flags : Flags) (contents : Contents) (name : List ℕ) (lines : Result (List StatementAt) LineCause)
    → IfOk lines (λ statements. All IsSpelled (handed placed_after told_of (Some contents) most_turns (started (name ∷ []) (map in_tokens statements)) (nothing_yet flags)))
    → All IsSpelled (handed_by flags contents name lines)
by_lines flags contents name (Ok statements) all = all
by_lines flags contents name (Err cause) all = All-nil IsSpelled

pub handed_spelled : ((files : List (List ℕ)) (contents : Option Contents) (placer : FollowedSource) → HandsBytes placed_after told_of files contents placer)
    → (flags : Flags) (contents : Contents) (name source : List ℕ) → AreBytes contents → IsBytes source → All IsSpelled (handed_by flags contents name (statements_of main_file source))
handed_spelled hands flags contents name source bytes text =
    by_lines flags contents name (statements_of main_file source) (hands (name ∷ []) (Some contents) (nothing_yet flags) most_turns main_file source bytes text)
