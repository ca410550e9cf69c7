-- Held bytes with repetitions between them.
use Rattle.std.proofs.Common.{◌≡◌, ℕ, ◌+◌, ◌≤◌, cond, List, [], ◌∷◌, ◌++◌, Result, Ok, Err, length, take, drop, refl, ap, sym, ◌∙◌, arith, append_assoc, append-nil, length-drop, take_all}
use Rattle.std.specs.Prelude.{OnOk, is_ok}
use Rattle.std.proofs.lemmas.List.{take-append-le, drop-append-le, drop_all}
use Rattle.std.proofs.lemmas.List.Sums.{sum_by-cons, sum_by-append}
use Rattle.elf_file.specs.declared.file_pieces.Between.{Between}
use Rattle.elf_file.specs.Pieces.{mixed, held_before}

held_first : (one : Between) (between : List Between) → held_before (one ∷ between) ≡ one.held + held_before between
held_first one between = sum_by-cons (λ (b : Between). b.held) one between

-- bytes more stand behind the last repetition
pub mixed_more : (bytes more : List ℕ) (between : List Between) → held_before between ≤ length bytes → mixed (bytes ++ more) between ≡ mixed bytes between ++ more
mixed_more bytes more [] few = refl
mixed_more bytes more (one ∷ between) few =
    let held = one.held in
    let sum : held_before (one ∷ between) ≡ held + held_before between = held_first one between in
    let inside : held ≤ length bytes = omega (arith, sum, few) in
    let fewer : held_before between ≤ length (drop held bytes) = omega (arith, sum, few, length-drop held bytes) in
    let rest : mixed (drop held (bytes ++ more)) between ≡ mixed (drop held bytes) between ++ more =
    ap (λ (xs : List ℕ). mixed xs between) (drop-append-le held bytes more inside) ∙ mixed_more (drop held bytes) more between fewer in
    ap (λ (xs : List ℕ). xs ++ (one.repetition ++ mixed (drop held (bytes ++ more)) between)) (take-append-le held bytes more inside)
    ∙ ap (λ (xs : List ℕ). take held bytes ++ (one.repetition ++ xs)) rest
    ∙ ap (λ (xs : List ℕ). take held bytes ++ xs) (sym (append_assoc one.repetition (mixed (drop held bytes) between) more))
    ∙ sym (append_assoc (take held bytes) (one.repetition ++ mixed (drop held bytes) between) more)

-- a repetition behind all held bytes
pub mixed_last : (bytes : List ℕ) (between : List Between) (one : Between) → held_before between + one.held ≡ length bytes
    → mixed bytes (between ++ one ∷ []) ≡ mixed bytes between ++ one.repetition
mixed_last bytes [] one all =
    let whole : length bytes ≤ one.held = omega arith in
    ap (λ (xs : List ℕ). xs ++ (one.repetition ++ drop one.held bytes)) (take_all one.held bytes whole)
    ∙ ap (λ (xs : List ℕ). bytes ++ (one.repetition ++ xs)) (drop_all one.held bytes whole) ∙ ap (λ (xs : List ℕ). bytes ++ xs) (append-nil one.repetition)
mixed_last bytes (first ∷ between) one all =
    let held = first.held in
    let sum : held_before (first ∷ between) ≡ held + held_before between = held_first first between in
    let left : held_before between + one.held ≡ length (drop held bytes) = omega (arith, sum, all, length-drop held bytes) in
    ap (λ (xs : List ℕ). take held bytes ++ (first.repetition ++ xs)) (mixed_last (drop held bytes) between one left)
    ∙ ap (λ (xs : List ℕ). take held bytes ++ xs) (sym (append_assoc first.repetition (mixed (drop held bytes) between) one.repetition))
    ∙ sym (append_assoc (take held bytes) (first.repetition ++ mixed (drop held bytes) between) one.repetition)

-- how many held bytes stand before a repetition, and before one more
pub held_push : (between : List Between) (one : Between) → held_before (between ++ one ∷ []) ≡ held_before between + one.held
held_push between one =
    sum_by-append (λ (b : Between). b.held) between (one ∷ []) ∙ (let e : held_before between + held_before (one ∷ []) ≡ held_before between + one.held = ap (λ n. held_before between + n) (held_first one [] ∙ (let z : one.held + 0 ≡ one.held = omega arith in z)) in e)

-- bytes that are held behind all repetitions, unless memory is refused
pub held_more : {T E : Type 0} (result : Result T E) (held more new : List ℕ) (between : List Between) → held_before between ≤ length held → new ≡ cond (is_ok result) (held ++ more) held
    → OnOk result (mixed new between ≡ mixed held between ++ more)
held_more (Ok done) held more new between few is = ap (λ (bytes : List ℕ). mixed bytes between) is ∙ mixed_more held more between few
held_more (Err fault) held more new between few is = tt
