-- The files that a run starts: how often one is not there, and how they are read.
use Rattle.std.proofs.Common.{◌≡◌, ℕ, ◌+◌, ◌*◌, ◌≤◌, inl, inr, List, [], ◌++◌, drop, length, Option, None, Some, Ok, refl, sym, ap, ◌∙◌, subst, append-nil, append_assoc, arith}
use Rattle.std.specs.Option.{option_map}
use Rattle.asm_base.specs.History.{FileEvent, happened}
use Rattle.asm_base.specs.Inputs.{Contents}
use Rattle.asm_base.specs.WholeFile.{most_bytes}
use Rattle.source_ends.specs.Synthesis.{Synthesis}
use Rattle.source_ends.specs.Ending.{Flags}
use Rattle.asm_front.specs.Sources.{MainSource, file, given, name_of, started_for, source_in}
use Rattle.asm_front.specs.Assembly.{Assembly, assembled, faulty, included_by, assembly_of, file_assembly, main_assembly}
use Rattle.asm_front.specs.Assembly as assembly
use Rattle.asm_front.specs.Outcome.{AssemblesKnown, CountsKnown, CountsMissed, CountsMissingFiles, CountsMisses, NamesFiles, ReadsFiles, StartsFiles, StartsFirst, StartsKnown, StopsAtEnd, TakesFiles}
use Rattle.asm_front.specs.Outcome as front
use Rattle.asm_front.specs.declared.answers.Assembled.{Assembled}
use Rattle.asm_macro.specs.Starts.{IsFront}
use Rattle.source_runs.specs.Answers.{CountsMissingOutcome, IncludesThese, ReadsAll, ReadsToEnd, StartsFront, StartsThese}
use Rattle.source_runs.specs.Outcome.{Outcome, usage, missing, refused, object, flags_by, main_of_invocation, source_outcome, invocation_outcome}
use Rattle.run_words.specs.Words.{Invocation}

-- WHAT IS NOT THERE

of_assembly : (invocation : Invocation) (answer : Assembly) (before now : ℕ) → CountsMissed answer before now → CountsMissingOutcome (Some (source_outcome invocation answer)) before now
of_assembly invocation (assembled made files) before now (inl same) = same
of_assembly invocation (assembled made files) before now (inr risen) = let is = risen.0.1 in absurd cc
of_assembly invocation (faulty first files) before now (inl same) = same
of_assembly invocation (faulty first files) before now (inr risen) = let is = risen.0.1 in absurd cc
of_assembly invocation (assembly.missing files) before now (inl same) = inr same
of_assembly invocation (assembly.missing files) before now (inr risen) = inl (risen.1, risen.2)

of_known : (invocation : Invocation) (known : Option Assembly) (before now : ℕ) → CountsKnown known before now → CountsMissingOutcome (option_map (source_outcome invocation) known) before now
of_known invocation None before now counts = counts
of_known invocation (Some answer) before now counts = of_assembly invocation answer before now counts

of_file : (invocation : Invocation) (flags : Flags) (contents : Contents) (name : List ℕ) (source : Option (List ℕ)) (before now : ℕ)
    → CountsMissingFiles flags contents name source before now → CountsMissingOutcome (Some (source_outcome invocation (file_assembly flags contents name source))) before now
of_file invocation flags contents name None before now counts = inl counts
of_file invocation flags contents name (Some source) before now counts = of_assembly invocation (assembly_of flags contents name source) before now counts

-- the count of starts of what has no contents is that of the outcome
pub missed : (contents : Option Contents) (invocation : Invocation) (held : Synthesis) (before now : ℕ)
    → CountsMisses (flags_by invocation held) contents (main_of_invocation invocation) before now → CountsMissingOutcome (invocation_outcome invocation held contents) before now
missed None invocation held before now counts = of_known invocation (main_assembly (flags_by invocation held) None (main_of_invocation invocation)) before now counts
missed (Some contents) invocation held before now counts =
    of_file invocation (flags_by invocation held) contents (name_of (main_of_invocation invocation)) (source_in contents (main_of_invocation invocation)) before now counts

none_of : (outcome : Option Outcome) (n : ℕ) → CountsMissingOutcome outcome n n
none_of None n = omega arith
none_of (Some usage) n = refl
none_of (Some (missing included)) n = inr refl
none_of (Some (refused messages included)) n = refl
none_of (Some (object name bytes messages summary included)) n = refl

-- nothing was started
pub none_started : (contents : Option Contents) (invocation : Invocation) (held : Synthesis) (n : ℕ) → CountsMissingOutcome (invocation_outcome invocation held contents) n n
none_started contents invocation held n = none_of (invocation_outcome invocation held contents) n

-- WHAT IS READ WHERE THERE IS AN OBJECT

-- the files that were started are those of the outcome
of_made : (invocation : Invocation) (known : Option Assembly) (made : Assembled) → AssemblesKnown known (Ok made) → IncludesThese (option_map (source_outcome invocation) known) (drop 1 made.files)
of_made invocation None made assembles = tt
of_made invocation (Some answer) made assembles =
    subst (λ (one : Assembly). IncludesThese (Some (source_outcome invocation one)) (drop 1 made.files)) (sym assembles) refl

-- so many bytes were taken of them
taken_of : (main : MainSource) (made : Assembled) (taken taken_after : ℕ) → NamesFiles (name_of main) (Ok made) → TakesFiles main (Ok made) taken taken_after
    → taken_after ≤ taken + (most_bytes + 1) * length (started_for main ++ drop 1 made.files)
taken_of (file name) made taken taken_after files takes =
    let count : length made.files ≡ length (drop 1 made.files) + 1 = ap length files ∙ omega arith in
    omega (arith, takes.1, count)
taken_of (given text) made taken taken_after files takes = takes.1

-- each file that was started was read to its end
pub all_read : (contents : Option Contents) (invocation : Invocation) (held : Synthesis) (made : Assembled) (before now : Option (List FileEvent)) (taken taken_after : ℕ)
    → AssemblesKnown (main_assembly (flags_by invocation held) contents (main_of_invocation invocation)) (Ok made) → NamesFiles (name_of (main_of_invocation invocation)) (Ok made)
    → ReadsFiles (main_of_invocation invocation) (Ok made) before now → TakesFiles (main_of_invocation invocation) (Ok made) taken taken_after
    → ReadsAll (invocation_outcome invocation held contents) (main_of_invocation invocation) before now taken taken_after
all_read contents invocation held made before now taken taken_after assembles files reads takes = record {
  included = drop 1 made.files;
  these = of_made invocation (main_assembly (flags_by invocation held) contents (main_of_invocation invocation)) made assembles;
  history = reads;
  at_most = taken_of (main_of_invocation invocation) made taken taken_after files takes;
}

-- and the one that was started last is at its end
pub stopped : (main other : MainSource) (made : Assembled) (before now : Option (List ℕ)) → main ≡ other → StopsAtEnd main (Ok made) before now → ReadsToEnd other before now
stopped main other made before now same stops = subst (λ m. ReadsToEnd m before now) same (by_main main stops)
  where
    by_main : (m : MainSource) → StopsAtEnd m (Ok made) before now → ReadsToEnd m before now
    by_main (file name) is = is
    by_main (given text) is = is

-- THE FIRST OF THEM, ON EVERY ANSWER

-- the same behind the file of the main source
behind : (own these included : List (List ℕ)) → IsFront these included → IsFront (own ++ these) (own ++ included)
behind own these included is = (is.0, ap (λ more. own ++ more) is.1 ∙ sym (append_assoc own these is.0))

-- the files of the assembly are those of the outcome
these_of : (invocation : Invocation) (answer : Assembly) (main : MainSource) (these : List (List ℕ)) → IsFront these (included_by answer)
    → StartsThese (Some (source_outcome invocation answer)) main (started_for main ++ these)
these_of invocation (assembled made files) main these is = behind (started_for main) these (drop 1 files) is
these_of invocation (faulty first files) main these is = behind (started_for main) these (drop 1 files) is
these_of invocation (assembly.missing files) main these is = behind (started_for main) these (drop 1 files) is

these_of_known : (invocation : Invocation) (known : Option Assembly) (main : MainSource) (these : List (List ℕ)) → StartsKnown known these
    → StartsThese (option_map (source_outcome invocation) known) main (started_for main ++ these)
these_of_known invocation None main these is = (these, ([], sym (append-nil (started_for main ++ these))))
these_of_known invocation (Some answer) main these is = these_of invocation answer main these is

these_of_file : (invocation : Invocation) (flags : Flags) (contents : Contents) (name : List ℕ) (source : Option (List ℕ)) (main : MainSource) (these : List (List ℕ))
    → StartsFirst flags contents name source these → StartsThese (Some (source_outcome invocation (file_assembly flags contents name source))) main (started_for main ++ these)
these_of_file invocation flags contents name None main these is =
    behind (started_for main) these [] ([], sym is ∙ sym (append-nil these))
these_of_file invocation flags contents name (Some source) main these is = these_of invocation (assembly_of flags contents name source) main these is

-- the main source was started, and the first of the files that it starts
pub starts_front : (contents : Option Contents) (invocation : Invocation) (held : Synthesis) (before now : Option (List FileEvent)) (taken taken_after : ℕ)
    → StartsFiles (flags_by invocation held) contents (main_of_invocation invocation) before now taken taken_after
    → StartsFront (invocation_outcome invocation held contents) (main_of_invocation invocation) before now taken taken_after
starts_front contents invocation held before now taken taken_after is = record {
  started = started_for (main_of_invocation invocation) ++ is.included;
  these = these_known contents is.these;
  reads = is.reads;
}
  where
    these_known : (known : Option Contents) → front.StartsThese (flags_by invocation held) known (main_of_invocation invocation) is.included
        → StartsThese (invocation_outcome invocation held known) (main_of_invocation invocation) (started_for (main_of_invocation invocation) ++ is.included)
    these_known None these =
        these_of_known invocation (main_assembly (flags_by invocation held) None (main_of_invocation invocation)) (main_of_invocation invocation) is.included these
    these_known (Some known) these =
        these_of_file invocation (flags_by invocation held) known (name_of (main_of_invocation invocation)) (source_in known (main_of_invocation invocation))
        (main_of_invocation invocation) is.included these

nothing_happened : (known : Option (List FileEvent)) → known ≡ happened known []
nothing_happened None = refl
nothing_happened (Some events) = ap Some (sym (append-nil events))

none_these : (outcome : Option Outcome) (main : MainSource) → StartsThese outcome main []
none_these None main = ([], (started_for main ++ [], refl))
none_these (Some usage) main = refl
none_these (Some (missing included)) main = (started_for main ++ included, refl)
none_these (Some (refused messages included)) main = (started_for main ++ included, refl)
none_these (Some (object output bytes messages summary included)) main = (started_for main ++ included, refl)

-- nothing was started
pub starts_none : (outcome : Option Outcome) (main : MainSource) (known : Option (List FileEvent)) (taken : ℕ) → StartsFront outcome main known known taken taken
starts_none outcome main known taken =
    record { started = []; these = none_these outcome main; reads = record { front = (0, nothing_happened known); whole = omega arith; at_most = omega arith } }
