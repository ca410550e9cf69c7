-- What the words of a command line stand for, by what reading its file answers.
use Rattle.std.proofs.Common.{◌≡◌, ℕ, ◌≤◌, ◌<◌, nat_le, Bool, true, false, cond, List, [], ◌∷◌, ◌++◌, Option, None, Some, option_map, Result, Ok, Err, length, take, inl, inr, ◌⊎◌, refl, sym, ap, ◌∙◌, subst, append-nil, arith}
use Rattle.std.proofs.lemmas.Bool.Decides.{nat_tests}
use Rattle.asm_base.specs.Inputs.{Contents}
use Rattle.asm_base.specs.WholeFile.{ReadsFile, ReadsName, most_bytes}
use Rattle.asm_base.specs.declared.reading.TextFault.{TextFault}
use Rattle.asm_base.specs.declared.reading.TextFault.TheVariants as fault
use Rattle.dis_words.specs.Words.{Invocation, usage_text}
use Rattle.dis_run.specs.Outcome.{Outcome, usage, missing, refused, listed, file_outcome, too_large_text, CommandHolds}

-- THE OUTCOME OF A FILE

few_listed : (i : Invocation) (bytes : List ℕ) → length bytes ≤ most_bytes → file_outcome i (Some bytes) ≡ listed i.intel bytes
few_listed i bytes few = let test : nat_le (length bytes) most_bytes ≡ true = grind (arith, nat_tests) in rw test refl

many_refused : (i : Invocation) (bytes : List ℕ) → most_bytes < length bytes → file_outcome i (Some bytes) ≡ refused (too_large_text i.file)
many_refused i bytes many = let test : nat_le (length bytes) most_bytes ≡ false = grind (arith, nat_tests) in rw test refl

-- a file that was read is listed
pub read_listed : (P : Outcome → Type 0) (i : Invocation) (contents : Option Contents) (text : List ℕ) (rest : Option (List ℕ)) → ReadsName contents i.file (Ok text) rest
    → P (listed i.intel text) → CommandHolds (Some i) contents P
read_listed P i None text rest reads holds = tt
read_listed P i (Some contents) text rest reads holds = by (contents i.file) refl reads
  where
    by : (found : Option (List ℕ)) → contents i.file ≡ found → ReadsFile found (Ok text) rest → P (file_outcome i (contents i.file))
    by None is reads = absurd reads
    by (Some bytes) is reads = subst P (ap (listed i.intel) reads.0 ∙ sym (few_listed i bytes reads.1) ∙ ap (file_outcome i) (sym is)) holds

-- and one that is too large is refused
pub large_refused : (P : Outcome → Type 0) (i : Invocation) (contents : Option Contents) (rest : Option (List ℕ)) → ReadsName contents i.file (Err fault.TooLarge) rest
    → P (refused (too_large_text i.file)) → CommandHolds (Some i) contents P
large_refused P i None rest reads holds = tt
large_refused P i (Some contents) rest reads holds = by (contents i.file) refl reads
  where
    by : (found : Option (List ℕ)) → contents i.file ≡ found → ReadsFile found (Err fault.TooLarge) rest → P (file_outcome i (contents i.file))
    by None is reads = absurd reads
    by (Some bytes) is reads = subst P (sym (many_refused i bytes reads) ∙ ap (file_outcome i) (sym is)) holds

-- what holds of each thing that a file may stand for
pub all_hold : (P : Outcome → Type 0) (i : Invocation) (contents : Option Contents) → P missing → ((message : List ℕ) → P (refused message))
    → ((flag : Bool) (bytes : List ℕ) → P (listed flag bytes)) → CommandHolds (Some i) contents P
all_hold P i None gone large there = tt
all_hold P i (Some contents) gone large there = by (contents i.file)
  where
    by : (found : Option (List ℕ)) → P (file_outcome i found)
    by None = gone
    by (Some bytes) = size (nat_le (length bytes) most_bytes)
      where
        size : (b : Bool) → P (cond b (listed i.intel bytes) (refused (too_large_text i.file)))
        size true = there i.intel bytes
        size false = large (too_large_text i.file)
