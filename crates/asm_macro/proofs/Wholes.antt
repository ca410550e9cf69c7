-- The answers of words that read nothing, as answers of the whole expansion.
use Rattle.std.proofs.Common.{◌≡◌, ◌≢◌, inl, ℕ, List, [], Result, Ok, Err, refl, sym, ap, subst, arith}
use Rattle.std.proofs.lemmas.List.{append-nil}
use Rattle.asm_base.specs.declared.refusals.Refusal.{Refusal}
use Rattle.asm_base.specs.declared.refusals.Refusal.TheVariants as refusal
use Rattle.asm_base.specs.declared.positions.Pos.{Pos}
use Rattle.macro_words.specs.declared.causes.MacroCause.{MacroCause}
use Rattle.macro_words.specs.declared.causes.MacroCause.TheVariants.{FileTooLarge}
use Rattle.macro_blocks.specs.Levels.{Level}
use Rattle.asm_macro.specs.declared.faults.ExpandFault.{ExpandFault}
use Rattle.asm_macro.specs.declared.faults.ExpandFault.TheVariants.{Expansion, Placing, NoMemory}
use Rattle.asm_macro.specs.declared.turned.MacroFault.{MacroFault}
use Rattle.asm_macro.specs.declared.turned.Turned.{Turned}
use Rattle.asm_macro.specs.declared.turned.Turned.TheVariants as turned
use Rattle.asm_macro.specs.Expansion.{State, Turn}
use Rattle.asm_macro.specs.Readings.{InputAs, HasRead, HasStopped, Uses}
use Rattle.asm_macro.specs.Starts.{StartedFiles, AreFirst}
use Rattle.asm_macro.specs.Turning.{FailsSo, IsRewriting, IsTurn, IsWhole}
use Rattle.asm_macro.proofs.FileFronts.{none_begun, nothing_happened, reads_none}

-- what becomes of the head, said of the whole expansion
pub rewrites : {F : Type 0} (answer : Result Turned (Refusal MacroFault)) (got : Result Turned (ExpandFault F)) (wanted : Turn) (level : Level) (old : List (List ℕ)) (now : State)
    → IsWhole answer got → IsTurn answer wanted level now → now.files ≡ old → IsRewriting got wanted level old now
rewrites {F} (Ok turned.Stays) got wanted level old now whole is same = subst (λ r. IsRewriting r wanted level old now) (sym whole) (inl is)
rewrites {F} (Ok (turned.Enters inner)) got wanted level old now whole is same = subst (λ r. IsRewriting r wanted level old now) (sym whole) (inl is)
rewrites {F} (Ok turned.Leaves) got wanted level old now whole is same = subst (λ r. IsRewriting r wanted level old now) (sym whole) (inl is)
rewrites {F} (Err (refusal.Fault fault)) got wanted level old now whole is same =
    subst (λ r. IsRewriting r wanted level old now) (sym whole.0) (subst (λ t. FailsSo t old fault.cause fault.pos now.files) (sym is) (refl, refl, same))
rewrites {F} (Err refusal.NoMemory) got wanted level old now whole is same = subst (λ r. IsRewriting r wanted level old now) (sym whole) tt

-- nothing was read
pub read_none : (names : List (List ℕ)) (input : InputAs) → HasRead names names input input
read_none names input =
    record { more = []; names = sym (append-nil names); contents = refl; faults = refl; missing = refl; later = omega arith; taken = omega arith; history = nothing_happened input.history; whole = λ ends. ends }

-- a fault that came without reading
pub stopped_by : {F : Type 0} (cause : MacroCause) (pos : Pos) (wanted : StartedFiles) (names : List (List ℕ)) (input : InputAs) → AreFirst names wanted → cause ≢ FileTooLarge
    → HasStopped {F = F} (Expansion cause pos) wanted names names input input
stopped_by cause pos wanted names input first own =
    record {
      more = [];
      names = sym (append-nil names);
      contents = refl;
      cause = refl;
      missing = inl refl;
      found = refl;
      later = omega arith;
      begun = [];
      started = none_begun;
      first = subst (λ front. AreFirst front wanted) (sym (append-nil names)) first;
      reads = reads_none input.history input.taken;
      too_large = λ is. absurd (own is);
    }

pub stopped_without : {F : Type 0} (wanted : StartedFiles) (names : List (List ℕ)) (input : InputAs) → AreFirst names wanted → HasStopped {F = F} NoMemory wanted names names input input
stopped_without wanted names input first =
    record {
      more = [];
      names = sym (append-nil names);
      contents = refl;
      cause = refl;
      missing = inl refl;
      found = refl;
      later = omega arith;
      begun = [];
      started = none_begun;
      first = subst (λ front. AreFirst front wanted) (sym (append-nil names)) first;
      reads = reads_none input.history input.taken;
      too_large = tt;
    }

pub stopped_placing : {F : Type 0} (fault : F) (wanted : StartedFiles) (names : List (List ℕ)) (input : InputAs) → AreFirst names wanted → HasStopped {F = F} (Placing fault) wanted names names input input
stopped_placing fault wanted names input first =
    record {
      more = [];
      names = sym (append-nil names);
      contents = refl;
      cause = refl;
      missing = inl refl;
      found = refl;
      later = omega arith;
      begun = [];
      started = none_begun;
      first = subst (λ front. AreFirst front wanted) (sym (append-nil names)) first;
      reads = reads_none input.history input.taken;
      too_large = tt;
    }

-- a word that reads nothing
pub uses_none : {F : Type 0} (answer : Result Turned (Refusal MacroFault)) (got : Result Turned (ExpandFault F)) (wanted : StartedFiles) (old new : List (List ℕ)) (input : InputAs)
    → IsWhole answer got → new ≡ old → AreFirst old wanted → Uses got wanted old new input input
uses_none {F} (Ok turned) got wanted old new input whole same first =
    subst (λ r. Uses r wanted old new input input) (sym whole) (subst (λ names. HasRead old names input input) (sym same) (read_none old input))
uses_none {F} (Err (refusal.Fault fault)) got wanted old new input whole same first =
    subst (λ r. Uses r wanted old new input input) (sym whole.0) (subst (λ names. HasStopped {F = F} (Expansion fault.cause fault.pos) wanted old names input input) (sym same) (stopped_by fault.cause fault.pos wanted old input first whole.1))
uses_none {F} (Err refusal.NoMemory) got wanted old new input whole same first =
    subst (λ r. Uses r wanted old new input input) (sym whole) (subst (λ names. HasStopped {F = F} NoMemory wanted old names input input) (sym same) (stopped_without wanted old input first))
