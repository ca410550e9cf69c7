-- From what was read and what came of it to the answer of a call of `assemble`.
use Rattle.std.proofs.Common.{◌≡◌, ℕ, ◌≤◌, inl, inr, List, [], ◌∷◌, Option, None, Some, Result, Ok, Err, refl, sym, ap, subst, arith}
use Rattle.asm_base.specs.Inputs.{Contents}
use Rattle.asm_lines.specs.Statements.{StatementAt, statements_of}
use Rattle.asm_lines.specs.declared.faults.LineCause.{LineCause}
use Rattle.macro_words.specs.Statements.{line_cause}
use Rattle.macro_words.specs.Files.{line_of_cause}
use Rattle.asm_macro.specs.Placing.{Step, goes, ended, fails, refused, misses, untold, expansion}
use Rattle.asm_macro.specs.Expanding.{Comes, IsExpansion, CountsMisses}
use Rattle.asm_macro.specs.declared.faults.ExpandFault.{ExpandFault}
use Rattle.asm_macro.specs.declared.faults.ExpandFault.TheVariants as expand
use Rattle.asm_place.specs.Sources.{pos_at}
use Rattle.asm_place.specs.declared.place_faults.FaultAt.{FaultAt}
use Rattle.asm_functions.specs.FollowedSource.{FollowedSource}
use Rattle.source_ends.specs.Ending.{Flags}
use Rattle.asm_front.specs.Assembly.{Assembly, missing, main_file, shown_files, placed_after, told_of, nothing_yet, assembly_by, known_by, expansion_of}
use Rattle.asm_front.specs.Answering.{IsAnswered, IsAnswer, AssemblesText, CountsText}
use Rattle.asm_front.specs.Outcome.{AssemblesAs, AssemblesKnown, CountsKnown}
use Rattle.asm_front.specs.declared.answers.Assembled.{Assembled}
use Rattle.asm_front.specs.declared.answers.AsmFault.{AsmFault}
use Rattle.asm_front.specs.declared.answers.AsmFault.TheVariants.{Source, Read, NoMemory}

-- what was answered by an assembly is the answer for it
pub answered : (assembly : Assembly) (result : Result Assembled AsmFault) → IsAnswered assembly result → AssemblesAs assembly result
answered assembly (Ok made) so = so
answered assembly (Err (Source fault pos notes files)) so = so
answered assembly (Err Read) so = tt
answered assembly (Err NoMemory) so = tt

-- the same by what came
came_known : (flags : Flags) (name : List ℕ) (got : Step FollowedSource FaultAt) (result : Result Assembled AsmFault) → IsAnswered (assembly_by flags name got) result
    → AssemblesKnown (known_by flags name got) result
came_known flags name (ended files f) result so = answered (assembly_by flags name (ended files f)) result so
came_known flags name (fails files cause pos f) result so = answered (assembly_by flags name (fails files cause pos f)) result so
came_known flags name (refused files fault) result so = answered (assembly_by flags name (refused files fault)) result so
came_known flags name (misses files) result so = answered (assembly_by flags name (misses files)) result so
came_known flags name (goes state f) result so = answered (assembly_by flags name (goes state f)) result so
came_known flags name untold result so = tt

-- an answer for what came is one for what was wanted
for_wanted : (flags : Flags) (name : List ℕ) (wanted got : Step FollowedSource FaultAt) (result : Result Assembled AsmFault) → Comes wanted got
    → IsAnswered (assembly_by flags name got) result → AssemblesKnown (known_by flags name wanted) result
for_wanted flags name wanted got result (inl is) so = subst (λ step. AssemblesKnown (known_by flags name step) result) (sym is) (came_known flags name got result so)
for_wanted flags name wanted got result (inr is) so = subst (λ step. AssemblesKnown (known_by flags name step) result) (sym is) tt

-- nothing but a want of memory is answered where nothing came
for_none : (assembly : Option Assembly) (result : Result Assembled AsmFault) → IsAnswered (missing []) result → AssemblesKnown assembly result
for_none assembly (Ok made) so = absurd cc
for_none assembly (Err (Source fault pos notes files)) so = absurd cc
for_none None (Err Read) so = tt
for_none (Some known) (Err Read) so = tt
for_none None (Err NoMemory) so = tt
for_none (Some known) (Err NoMemory) so = tt

-- a fault of the input says nothing of the source, nor does a want of memory
pub read_known : (assembly : Option Assembly) → AssemblesKnown assembly (Err Read)
read_known None = tt
read_known (Some known) = tt

pub memory_known : (assembly : Option Assembly) → AssemblesKnown assembly (Err NoMemory)
memory_known None = tt
memory_known (Some known) = tt

-- a count that is the same
pub same_count : (assembly : Option Assembly) (before now : ℕ) → now ≡ before → CountsKnown assembly before now
same_count None before now same = omega arith
same_count (Some known) before now same = inl same

-- a count never falls
pub never_falls : (assembly : Option Assembly) (before now : ℕ) → CountsKnown assembly before now → before ≤ now
never_falls None before now counts = counts
never_falls (Some known) before now (inl same) = omega arith
never_falls (Some known) before now (inr risen) = risen.1

-- the count of starts of what has no contents, by what came
missed : (flags : Flags) (name : List ℕ) (wanted : Step FollowedSource FaultAt) (before now : ℕ) → CountsMisses wanted before now → CountsKnown (known_by flags name wanted) before now
missed flags name wanted before now (inl same) = same_count (known_by flags name wanted) before now same
missed flags name wanted before now (inr (inl risen)) =
    subst (λ step. CountsKnown (known_by flags name step) before now) (sym risen.0.1) (inr ((shown_files name risen.0.0, refl), risen.1, risen.2))
missed flags name wanted before now (inr (inr none)) = subst (λ step. CountsKnown (known_by flags name step) before now) (sym none.0) none.1

module _ (flags : Flags) (name : List ℕ) where
  -- what comes of these lines
  abbrev of_lines : Option Contents → Result (List StatementAt) LineCause → Step FollowedSource FaultAt
  of_lines contents lines = expansion placed_after told_of contents (name ∷ []) (nothing_yet flags) lines

  -- the fault of the lines comes before all statements
  pub lines_fault : (contents : Option Contents) (lines : Result (List StatementAt) LineCause) (cause : LineCause) → lines ≡ Err cause
      → of_lines contents lines ≡ fails (name ∷ []) (line_cause cause) (pos_at main_file (line_of_cause cause)) (nothing_yet flags)
  unfolding expansion
  lines_fault contents (Ok statements) cause is = absurd cc
  lines_fault contents (Err other) cause is = ap (λ c. fails (name ∷ []) (line_cause c) (pos_at main_file (line_of_cause c)) (nothing_yet flags)) cc

  -- the answer for what expansion answered is that for the text
  by_expanded : (contents : Option Contents) (lines : Result (List StatementAt) LineCause) (files : List (List ℕ)) (placed : FollowedSource) (expanded : Result (Unit {0}) (ExpandFault FaultAt))
      (result : Result Assembled AsmFault) → IsExpansion (of_lines contents lines) lines expanded files placed → IsAnswer flags name files placed expanded result
      → AssemblesKnown (known_by flags name (of_lines contents lines)) result
  by_expanded contents lines files placed (Ok u) result came so = for_wanted flags name (of_lines contents lines) (ended files placed) result came so
  by_expanded contents lines files placed (Err (expand.Lines cause)) result came so =
      for_wanted flags name (of_lines contents lines) (fails (name ∷ []) (line_cause cause) (pos_at main_file (line_of_cause cause)) (nothing_yet flags)) result
      (inl (lines_fault contents lines cause came)) so
  by_expanded contents lines files placed (Err (expand.Expansion cause pos)) result came so =
      for_wanted flags name (of_lines contents lines) (fails files cause pos placed) result came so
  by_expanded contents lines files placed (Err (expand.Placing fault)) result came so = for_wanted flags name (of_lines contents lines) (refused files fault) result came so
  by_expanded contents lines files placed (Err expand.Read) result came so =
      subst (λ r. AssemblesKnown (known_by flags name (of_lines contents lines)) r) (sym so) (read_known (known_by flags name (of_lines contents lines)))
  by_expanded contents lines files placed (Err expand.NoMemory) result came so = for_none (known_by flags name (of_lines contents lines)) result so

  -- the same of a call that began with nothing placed and the source alone
  pub text_answered : (contents : Option Contents) (text : List ℕ) (begun files : List (List ℕ)) (start placed : FollowedSource) (expanded : Result (Unit {0}) (ExpandFault FaultAt)) (result : Result Assembled AsmFault)
      → begun ≡ name ∷ [] → start ≡ nothing_yet flags → IsExpansion (expansion placed_after told_of contents begun start (statements_of main_file text)) (statements_of main_file text) expanded files placed
      → IsAnswer flags name files placed expanded result → AssemblesText flags contents name text result
  unfolding expansion_of
  text_answered contents text begun files start placed expanded result named empty came so =
      by_expanded contents (statements_of main_file text) files placed expanded result
      (subst (λ (first : FollowedSource). IsExpansion (expansion placed_after told_of contents (name ∷ []) first (statements_of main_file text)) (statements_of main_file text) expanded files placed) empty
      (subst (λ (names : List (List ℕ)). IsExpansion (expansion placed_after told_of contents names start (statements_of main_file text)) (statements_of main_file text) expanded files placed) named came)) so

  -- the count of starts of what has no contents
  pub text_missed : (contents : Option Contents) (text : List ℕ) (begun : List (List ℕ)) (start : FollowedSource) (before now : ℕ) → begun ≡ name ∷ [] → start ≡ nothing_yet flags
      → CountsMisses (expansion placed_after told_of contents begun start (statements_of main_file text)) before now → CountsText flags contents name text before now
  unfolding expansion_of
  text_missed contents text begun start before now named empty counts =
      missed flags name (of_lines contents (statements_of main_file text)) before now
      (subst (λ (first : FollowedSource). CountsMisses (expansion placed_after told_of contents (name ∷ []) first (statements_of main_file text)) before now) empty
      (subst (λ (names : List (List ℕ)). CountsMisses (expansion placed_after told_of contents names start (statements_of main_file text)) before now) named counts))
