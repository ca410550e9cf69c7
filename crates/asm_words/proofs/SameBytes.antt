-- Bytes that are equal by their first four and their last four.
use Rattle.std.proofs.Common.{◌≡◌, ℕ, ◌+◌, ◌-◌, ◌≤◌, ◌&&◌, List, ◌++◌, length, take, drop, sym, ap, ◌∙◌, arith}
use Rattle.std.specs.Str.{bytes_eq}
use Rattle.std.specs.Cmp.{both_ways}
use Rattle.std.proofs.lemmas.Bool.{and_parts, and_from}
use Rattle.std.proofs.lemmas.List.{take-append-drop, drop-drop}
use Rattle.std.proofs.lemmas.Slice.Eq.{bytes_eq-Decides}

-- what stands behind the first four of them
behind_four : (xs : List ℕ) → 4 ≤ length xs → length xs ≤ 8 → drop (8 - length xs) (drop (length xs - 4) xs) ≡ drop 4 xs
behind_four xs enough few =
    let four : (length xs - 4) + (8 - length xs) ≡ 4 = omega (arith, enough, few) in
    drop-drop (8 - length xs) (length xs - 4) xs ∙ ap (λ n. drop n xs) four

-- four to eight bytes are equal where their first four and their last four are
same_by_ends : (xs ys : List ℕ) → length xs ≡ length ys → 4 ≤ length xs → length xs ≤ 8 → take 4 xs ≡ take 4 ys
    → drop (length xs - 4) xs ≡ drop (length ys - 4) ys → xs ≡ ys
same_by_ends xs ys same enough few front back =
    let rest : drop 4 xs ≡ drop 4 ys =
    sym (behind_four xs enough few)
    ∙ (ap (drop (8 - length xs)) back
    ∙ (ap (λ n. drop (8 - n) (drop (length ys - 4) ys)) same
    ∙ behind_four ys (omega (arith, enough, same)) (omega (arith, few, same)))) in
    sym (take-append-drop 4 xs) ∙ (ap (λ part. part ++ drop 4 xs) front ∙ (ap (λ part. take 4 ys ++ part) rest ∙ take-append-drop 4 ys))

-- and only there
pub ends_say : (xs ys front here back there : List ℕ) → length xs ≡ length ys → length xs ≤ 8 → 4 ≤ length xs
    → front ≡ take 4 xs → here ≡ take 4 ys → back ≡ drop (length xs - 4) xs → there ≡ drop (length ys - 4) ys
    → (bytes_eq front here && bytes_eq back there) ≡ bytes_eq xs ys
ends_say xs ys front here back there same few enough f h b t =
    both_ways _ _
    (λ are. let parts = and_parts _ _ are in
    (bytes_eq-Decides xs ys).1 (same_by_ends xs ys same enough few
    (sym f ∙ ((bytes_eq-Decides front here).0 parts.0 ∙ h))
    (sym b ∙ ((bytes_eq-Decides back there).0 parts.1 ∙ t))))
    (λ are. let whole : xs ≡ ys = (bytes_eq-Decides xs ys).0 are in
    and_from _ _
    ((bytes_eq-Decides front here).1 (f ∙ (ap (take 4) whole ∙ sym h)))
    ((bytes_eq-Decides back there).1 (b ∙ (ap (λ zs. drop (length zs - 4) zs) whole ∙ sym t))))
