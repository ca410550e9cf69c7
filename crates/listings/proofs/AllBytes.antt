-- The lines of a listing show all bytes.
use Rattle.std.proofs.Common.{◌≡◌, ℕ, zero, suc, ◌+◌, ◌-◌, ◌<◌, ◌≤◌, List, [], ◌∷◌, ◌++◌, Option, None, Some, All, length, take, drop, flat_map, refl, sym, ap, ◌∙◌, subst, arith, length-take, length-drop, take-append-drop, drop-drop, take-take, drop_of_length-le}
use Rattle.std.proofs.lemmas.List.{drop_all}
use Rattle.std.proofs.lemmas.List.Elements.{All-nil, All-cons}
use Rattle.x86_decode.specs.declared.fronts.Front.{Front}
use Rattle.listings.specs.Lines.{Line, IsLineAt, AreLines, line_length}
use Rattle.listings.specs.Listings.{AllBytesAreListed, IsInPlace, IsListing}

-- as many bytes as were taken are taken
taken_again : (n : ℕ) (left : List ℕ) → take (length (take n left)) left ≡ take n left
taken_again zero left = refl
taken_again (suc n) [] = refl
taken_again (suc n) (byte ∷ left) = ap (λ l. byte ∷ l) (taken_again n left)

in_place : (bytes : List ℕ) (at : ℕ) (line : Line) → IsLineAt bytes at line → IsInPlace bytes line
in_place bytes at line is =
    is.bytes ∙ sym (taken_again (line_length line.front) (drop at bytes))
    ∙ ap (λ l. take (length l) (drop at bytes)) (sym is.bytes) ∙ ap (λ n. take (length line.bytes) (drop n bytes)) (sym is.offset)

all_in_place : (bytes : List ℕ) (at : ℕ) (lines : List Line) (end : ℕ) → AreLines bytes at lines end → All (IsInPlace bytes) lines
all_in_place bytes at [] end are = All-nil (IsInPlace bytes)
all_in_place bytes at (line ∷ lines) end are =
    All-cons (IsInPlace bytes) line lines (in_place bytes at line are.0) (all_in_place bytes (at + length line.bytes) lines end are.1)

-- the lines from an offset on show what is left there
all_left : (bytes : List ℕ) (at : ℕ) (lines : List Line) → AreLines bytes at lines (length bytes) → flat_map (λ line. line.bytes) lines ≡ drop at bytes
all_left bytes at [] ends = sym (drop_of_length-le bytes {i = at} (omega arith))
all_left bytes at (line ∷ lines) are =
    let first : line.bytes ≡ take (length line.bytes) (drop at bytes) =
    in_place bytes at line are.0 ∙ ap (λ n. take (length line.bytes) (drop n bytes)) are.0.offset in
    let rest : flat_map (λ l. l.bytes) lines ≡ drop (length line.bytes) (drop at bytes) =
    all_left bytes (at + length line.bytes) lines are.1 ∙ sym (drop-drop (length line.bytes) at bytes) in
    ap (λ l. l ++ flat_map (λ l. l.bytes) lines) first ∙ ap (λ l. take (length line.bytes) (drop at bytes) ++ l) rest
    ∙ take-append-drop (length line.bytes) (drop at bytes)

pub all_bytes : AllBytesAreListed
all_bytes = record {
  bytes = λ bytes lines is. all_left bytes 0 lines is;
  places = λ bytes lines is. all_in_place bytes 0 lines (length bytes) is;
}
