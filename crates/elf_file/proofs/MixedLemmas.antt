-- Held bytes with repetitions between them.
use Rattle.std.proofs.Common.{◌≡◌, ℕ, ◌+◌, ◌-◌, ◌<◌, ◌≤◌, min, List, [], ◌∷◌, ◌++◌, length, take, drop, refl, ap, sym, ◌∙◌, arith, append_assoc, length-append, length-drop, drop-drop, get_or}
use Rattle.std.specs.Prelude.{slice_range}
use Rattle.std.proofs.lemmas.List.{at_drop_all, take_rest, length-take, take_min, drop_min}
use Rattle.std.proofs.lemmas.List.Sums.{sum_by-cons}
use Rattle.elf_file.specs.declared.file_pieces.Between.{Between}
use Rattle.elf_file.specs.declared.file_pieces.Mixed.{Mixed}
use Rattle.elf_file.specs.Pieces.{mixed, mixed_bytes, repeated_size}
use Rattle.elf_file.proofs.LoopSteps.{next_is}

-- held and repeated bytes are all
pub mixed_long : (bytes : List ℕ) (between : List Between) → length (mixed bytes between) ≡ length bytes + repeated_size between
mixed_long bytes [] = omega arith
mixed_long bytes (one ∷ between) =
    let held = one.held in
    let rest = mixed_long (drop held bytes) between in
    let sum : repeated_size (one ∷ between) ≡ length one.repetition + repeated_size between = sum_by-cons (λ (b : Between). length b.repetition) one between in
    let text : mixed bytes (one ∷ between) ≡ take held bytes ++ (one.repetition ++ mixed (drop held bytes) between) = refl in
    ap length text ∙ omega (
      arith,
      length-append (take held bytes) (one.repetition ++ mixed (drop held bytes) between),
      length-append one.repetition (mixed (drop held bytes) between),
      length-take held bytes,
      length-drop held bytes,
      rest,
      sum,
    )

-- the held bytes before the next repetition, as far as there are any
pub next_held : (bytes : List ℕ) (at held upto : ℕ) → at ≤ length bytes → upto ≡ at + min held (length bytes - at)
    → (slice_range bytes at upto ≡ take held (drop at bytes)) × (drop held (drop at bytes) ≡ drop upto bytes)
next_held bytes at held upto inside is =
    let few = min held (length (drop at bytes)) in
    let long : length (drop at bytes) ≡ length bytes - at = length-drop at bytes in
    let size : upto - at ≡ few = is_few long in (
      ap (λ n. take n (drop at bytes)) size ∙ take_min held (drop at bytes),
      sym (drop_min held (drop at bytes)) ∙ drop-drop few at bytes ∙ ap (λ n. drop n bytes) (sum_few long),
    )
  where
    is_few : length (drop at bytes) ≡ length bytes - at → upto - at ≡ min held (length (drop at bytes))
    is_few long = let e : upto - at ≡ min held (length bytes - at) = omega arith in e ∙ ap (min held) (sym long)

    sum_few : length (drop at bytes) ≡ length bytes - at → at + min held (length (drop at bytes)) ≡ upto
    sum_few long = ap (λ n. at + min held n) long ∙ sym is

-- what is left begins with the held bytes before the next repetition, and that
pub mixed_next : (bytes : List ℕ) (between : List Between) (i at upto : ℕ) (one : Between) → i < length between → one ≡ get_or between i one → at ≤ length bytes
    → upto ≡ at + min one.held (length bytes - at)
    → mixed (drop at bytes) (drop i between) ≡ (slice_range bytes at upto ++ one.repetition) ++ mixed (drop upto bytes) (drop (i + 1) between)
mixed_next bytes between i at upto one inside is within there =
    let next = next_held bytes at one.held upto within there in
    let more = drop (i + 1) between in
    next_is (mixed (drop at bytes)) between i one inside is
    ∙ ap (λ (xs : List ℕ). xs ++ (one.repetition ++ mixed (drop one.held (drop at bytes)) more)) (sym next.0)
    ∙ ap (λ (xs : List ℕ). slice_range bytes at upto ++ (one.repetition ++ mixed xs more)) next.1
    ∙ sym (append_assoc (slice_range bytes at upto) one.repetition (mixed (drop upto bytes) more))

-- behind the last repetition stand the bytes that are left
pub mixed_rest : (bytes : List ℕ) (between : List Between) (i at : ℕ) → length between ≤ i → mixed (drop at bytes) (drop i between) ≡ take (length bytes - at) (drop at bytes)
mixed_rest bytes between i at all = at_drop_all (mixed (drop at bytes)) between i all ∙ sym (take_rest bytes at)

-- the same held bytes and repetitions
pub mixed_same : (held : Mixed) (bytes : List ℕ) (between : List Between) → bytes ≡ held.bytes.items → between ≡ held.between.items → mixed bytes between ≡ mixed_bytes held
mixed_same held bytes between same these = ap (λ (xs : List ℕ). mixed xs between) same ∙ ap (mixed held.bytes.items) these
