-- Padding is no-operations, and these do nothing.
use Rattle.std.proofs.Common.{◌≡◌, ℕ, zero, suc, ◌+◌, ◌*◌, ◌/◌, ◌%◌, ◌<◌, List, [], ◌∷◌, ◌++◌, drop, length, sum, replicate, refl, sym, ap, subst, arith, append_assoc, ◌∙◌}
use Rattle.std.specs.List.{concat, fold}
use Rattle.std.proofs.lemmas.List.{drop-drop}
use Rattle.item_bytes.specs.NoOperations.{no_operation, no_operations}
use Rattle.x86_table.specs.Reads.{ReadsOneWay}
use Rattle.x86_table.specs.WorkedReadings.{WorkedReadings}
use Rattle.insn_effects.specs.Actions.{other, nowhere}
use Rattle.insn_effects.specs.Decoding.{action_of}
use Rattle.x86_steps.specs.Readings.{Reading, IsReading}
use Rattle.x86_steps.specs.Steps.{Does}
use Rattle.step_readings.specs.NoOperations.{DoesNothing, ReadsNothing, last_length, PaddingIsLong, PaddingDoesNothing, FilledDoesNothing}
use Rattle.step_readings.proofs.Nops.{IsNop, single, double, three, four, five, six, seven, eight, nine}

-- whatever is read where a no-operation stands does nothing
nothing : ReadsOneWay → (bytes code rest : List ℕ) (place : ℕ) (r : Reading) → IsNop bytes → drop place code ≡ bytes ++ rest → IsReading code place r
    → DoesNothing (length bytes) r
nothing one bytes code rest place r is stands h =
    let same = one h.front bytes h.rest rest r.insn is.insn h.reads is.reads (sym h.stands ∙ stands) in
    let acts : action_of r.insn ≡ other is.written nowhere = ap action_of same.0 ∙ is.action in
    record {
      long = sym h.long ∙ ap length same.1;
      goes = λ next s t d. (subst (λ x. Does x next s t) acts d).goes;
      registers = λ next s t d q k. (subst (λ x. Does x next s t) acts d).changes.0 q (is.none q k);
      memory = λ next s t d. (subst (λ x. Does x next s t) acts d).changes.1;
    }

-- what stands after a piece
after : (bytes code rest : List ℕ) (place : ℕ) → drop place code ≡ bytes ++ rest → drop (place + length bytes) code ≡ rest
after bytes code rest place stands = sym (drop-drop (length bytes) place code) ∙ ap (drop (length bytes)) stands ∙ beyond bytes rest
  where
    beyond : (front back : List ℕ) → drop (length front) (front ++ back) ≡ back
    beyond [] back = refl
    beyond (x ∷ front) back = beyond front back

-- a no-operation, and others after it
piece : ReadsOneWay → (bytes lengths code rest : List ℕ) (n place : ℕ) → n ≡ length bytes → IsNop bytes → drop place code ≡ bytes ++ rest
    → ((next : ℕ) → drop next code ≡ rest → ReadsNothing code lengths next) → ReadsNothing code (n ∷ lengths) place
piece one bytes lengths code rest n place long is stands others =
    subst (λ k. ReadsNothing code (k ∷ lengths) place) (sym long)
    ((record { bytes = length bytes; insn = is.insn }, record { front = bytes; rest = rest; stands = stands; reads = is.reads; long = refl }), (λ r h. nothing one bytes code rest place r is stands h), others (place + length bytes) (after bytes code rest place stands))

-- the last one of padding
last : ReadsOneWay → WorkedReadings → (n place : ℕ) (code rest : List ℕ) → n < 9 → drop place code ≡ no_operation n ++ rest → ReadsNothing code (last_length n) place
unfolding no_operation
last one worked zero place code rest low stands = tt
last one worked (suc zero) place code rest low stands = piece one (no_operation 1) [] code rest 1 place refl (single worked.nop) stands (λ next e. tt)
last one worked (suc (suc zero)) place code rest low stands = piece one (no_operation 2) [] code rest 2 place refl (double worked.xchg_word) stands (λ next e. tt)
last one worked (suc (suc (suc zero))) place code rest low stands = piece one (no_operation 3) [] code rest 3 place refl three stands (λ next e. tt)
last one worked (suc (suc (suc (suc zero)))) place code rest low stands = piece one (no_operation 4) [] code rest 4 place refl four stands (λ next e. tt)
last one worked (suc (suc (suc (suc (suc zero))))) place code rest low stands = piece one (no_operation 5) [] code rest 5 place refl five stands (λ next e. tt)
last one worked (suc (suc (suc (suc (suc (suc zero)))))) place code rest low stands = piece one (no_operation 6) [] code rest 6 place refl six stands (λ next e. tt)
last one worked (suc (suc (suc (suc (suc (suc (suc zero))))))) place code rest low stands = piece one (no_operation 7) [] code rest 7 place refl seven stands (λ next e. tt)
last one worked (suc (suc (suc (suc (suc (suc (suc (suc zero)))))))) place code rest low stands = piece one (no_operation 8) [] code rest 8 place refl eight stands (λ next e. tt)
last one worked (suc (suc (suc (suc (suc (suc (suc (suc (suc n))))))))) place code rest low stands = absurd (omega arith)

nine_long : 9 ≡ length (no_operation 9)
unfolding no_operation
nine_long = refl

-- so many of nine bytes, and what stands after them
nines : ReadsOneWay → (count place : ℕ) (tail lengths code rest : List ℕ) → drop place code ≡ (concat (replicate count (no_operation 9)) ++ tail) ++ rest
    → ((next : ℕ) → drop next code ≡ tail ++ rest → ReadsNothing code lengths next) → ReadsNothing code (replicate count 9 ++ lengths) place
nines one zero place tail lengths code rest stands others = others place stands
nines one (suc count) place tail lengths code rest stands others =
    let front = no_operation 9 in
    let more = concat (replicate count (no_operation 9)) in
    let parted : drop place code ≡ front ++ ((more ++ tail) ++ rest) =
    stands ∙ ap (λ x. x ++ rest) (append_assoc front more tail) ∙ append_assoc front (more ++ tail) rest in
    piece one front (replicate count 9 ++ lengths) code ((more ++ tail) ++ rest) 9 place nine_long nine parted
    (λ next e. nines one count next tail lengths code rest e others)

pub padding : ReadsOneWay → WorkedReadings → PaddingDoesNothing
unfolding no_operations
padding one worked size place code rest stands =
    nines one (size / 9) place (no_operation (size % 9)) (last_length (size % 9)) code rest stands
    (λ next e. last one worked (size % 9) next code rest (omega arith) e)

pub filling : ReadsOneWay → WorkedReadings → FilledDoesNothing
filling one worked zero place code rest stands = tt
filling one worked (suc size) place code rest stands =
    piece one (0x90 ∷ []) (replicate size 1) code (replicate size 0x90 ++ rest) 1 place refl (single worked.nop) stands
    (λ next e. filling one worked size next code rest e)

-- how long it is
last_sum : (n : ℕ) → sum (last_length n) ≡ n
last_sum zero = refl
last_sum (suc n) = omega arith

-- a sum that begins with a number
sum_after : (n : ℕ) (xs : List ℕ) → fold ◌+◌ n xs ≡ n + sum xs
sum_after n [] = omega arith
sum_after n (x ∷ xs) =
    let far = sum_after (n + x) xs in
    let near = sum_after (0 + x) xs in
    omega arith

nines_sum : (count : ℕ) (lengths : List ℕ) → sum (replicate count 9 ++ lengths) ≡ count * 9 + sum lengths
nines_sum zero lengths = omega arith
nines_sum (suc count) lengths =
    let more = nines_sum count lengths in
    let first : sum (replicate (suc count) 9 ++ lengths) ≡ 9 + sum (replicate count 9 ++ lengths) = sum_after 9 (replicate count 9 ++ lengths) in
    omega arith

pub long : PaddingIsLong
long size =
    let whole = nines_sum (size / 9) (last_length (size % 9)) in
    let part = last_sum (size % 9) in
    omega arith
