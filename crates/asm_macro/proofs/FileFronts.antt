-- Fronts of the files that are started, and of what happens where they are read.
use Rattle.std.proofs.Common.{◌≡◌, ℕ, ◌+◌, ◌*◌, ◌≤◌, List, [], ◌∷◌, ◌++◌, length, take, Option, None, Some, refl, sym, ap, ◌∙◌, arith, append_assoc, append-nil, length-append}
use Rattle.std.proofs.Math.Seq.{take-length, take-append-add}
use Rattle.std.proofs.lemmas.Grind.{flat_map-append}
use Rattle.asm_base.specs.History.{FileEvent, HappensInFront, happened, whole_file, whole_files}
use Rattle.asm_base.specs.WholeFile.{most_bytes}
use Rattle.asm_macro.specs.Starts.{StartedFiles, these, lacking, unknown, AreBegun, AreFirst, IsFront, ReadsFront}

-- all are a front of themselves
pub all_front : (names : List (List ℕ)) → IsFront names names
all_front names = ([], sym (append-nil names))

pub front_more : (names more : List (List ℕ)) → IsFront names (names ++ more)
front_more names more = (more, refl)

pub front_of_front : (one other all : List (List ℕ)) → IsFront one other → IsFront other all → IsFront one all
front_of_front one other all first second =
    (first.0 ++ second.0, second.1 ∙ ap (λ names. names ++ second.0) first.1 ∙ append_assoc one first.0 second.0)

-- a front of the first that are started
pub first_of_front : (one other : List (List ℕ)) (files : StartedFiles) → IsFront one other → AreFirst other files → AreFirst one files
first_of_front one other (these all) front first = front_of_front one other all front first
first_of_front one other (lacking all) front first = front_of_front one other all front first
first_of_front one other unknown front first = tt

-- the same names before both
pub front_behind : (names one all : List (List ℕ)) → IsFront one all → IsFront (names ++ one) (names ++ all)
front_behind names one all front = (front.0, ap (λ more. names ++ more) front.1 ∙ sym (append_assoc names one front.0))

-- none more was being started, or one
pub none_begun : AreBegun [] []
none_begun = (all_front [], omega arith)

pub one_begun : (name : List ℕ) → AreBegun [] (name ∷ [])
one_begun name = ((name ∷ [], refl), omega arith)

pub all_begun : (names : List (List ℕ)) → AreBegun names names
all_begun names = (all_front names, omega arith)

pub begun_behind : (names more begun : List (List ℕ)) → AreBegun more begun → AreBegun (names ++ more) (names ++ begun)
begun_behind names more begun is =
    let all = length-append names begun in
    let some = length-append names more in
    let one = is.1 in
    (front_behind names more begun is.0, omega (arith, all, some, one))

-- nothing happened
pub nothing_happened : (known : Option (List FileEvent)) → known ≡ happened known []
nothing_happened None = refl
nothing_happened (Some events) = ap Some (sym (append-nil events))

-- some events, and others behind them
twice_happened : (known : Option (List FileEvent)) (one other : List FileEvent) → happened (happened known one) other ≡ happened known (one ++ other)
twice_happened None one other = refl
twice_happened (Some events) one other = ap Some (append_assoc events one other)

pub both_happened : (known : Option (List FileEvent)) (one other : List (List ℕ)) → happened (happened known (whole_files one)) (whole_files other) ≡ happened known (whole_files (one ++ other))
both_happened known one other =
    twice_happened known (whole_files one) (whole_files other) ∙ ap (happened known) (sym (flat_map-append whole_file one other))

-- two events for each file
pub two_each : (names : List (List ℕ)) → length (whole_files names) ≡ 2 * length names
two_each [] = refl
two_each (name ∷ names) =
    let more = length-append (whole_file name) (whole_files names) in
    let rest = two_each names in
    omega (arith, more, rest)

-- no file was started
pub reads_none : (known : Option (List FileEvent)) (taken : ℕ) → ReadsFront [] known known taken taken
reads_none known taken = record { front = (0, nothing_happened known); whole = omega arith; at_most = omega arith }

-- each was read to its end
pub reads_all : (names : List (List ℕ)) (before now : Option (List FileEvent)) (taken after : ℕ) → now ≡ happened before (whole_files names) → after ≤ taken + (most_bytes + 1) * length names
    → ReadsFront names before now taken after
reads_all names before now taken after same most =
    let count = two_each names in
    record { front = (length (whole_files names), same ∙ ap (happened before) (sym (take-length (whole_files names)))); whole = omega (arith, count); at_most = most }

-- one file, or a front of it
pub reads_one : (name : List ℕ) (before now : Option (List FileEvent)) (taken after : ℕ) → HappensInFront (whole_file name) before now → after ≤ taken + (most_bytes + 1)
    → ReadsFront (name ∷ []) before now taken after
reads_one name before now taken after front most = record { front = front; whole = omega arith; at_most = omega (arith, most) }

-- behind files that were read to their end
pub reads_behind : (one other : List (List ℕ)) (before at now : Option (List FileEvent)) (taken between after : ℕ) → at ≡ happened before (whole_files one) → between ≤ taken + (most_bytes + 1) * length one
    → ReadsFront other at now between after → ReadsFront (one ++ other) before now taken after
reads_behind one other before at now taken between after same most reads =
    let n = reads.front.0 in
    let count = length-append one other in
    let events = two_each one in
    let few = reads.whole in
    let more = reads.at_most in
    let here = ap (λ known. happened known (take n (whole_files other))) same ∙ twice_happened before (whole_files one) (take n (whole_files other))
    ∙ ap (happened before) (sym (ap (take (length (whole_files one) + n)) (flat_map-append whole_file one other) ∙ take-append-add (whole_files one) (whole_files other) n)) in
    record {
      front = (length (whole_files one) + n, reads.front.1 ∙ here);
      whole = omega (arith, count, events, few);
      at_most = omega (arith, count, most, more);
    }
