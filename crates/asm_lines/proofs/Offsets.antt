-- An offset is known by the pieces from there on.
use Rattle.std.proofs.Common.{◌≡◌, ℕ, ◌≤◌, List, [], ◌∷◌, length, drop, refl, sym, ap, ◌∙◌, arith}
use Rattle.std.proofs.lemmas.List.{length-drop}
use Rattle.asm_base.specs.Pieces.{Piece}
use Rattle.asm_base.specs.Dividing.{pieces_from}
use Rattle.asm_lines.specs.Scan.{pieces_at}

-- where the first of the pieces begins, or the end where there is none
abbrev start_or : ℕ → List Piece → ℕ
start_or end [] = end
start_or end (piece ∷ pieces) = piece.start

starts_at : (end at : ℕ) (bytes : List ℕ) → (length bytes ≡ 0 → end ≡ at) → start_or end (pieces_from 0 at bytes) ≡ at
unfolding pieces_from
starts_at end at [] none = none refl
starts_at end at (byte ∷ rest) none = refl

pub same_offset : (source : List ℕ) (one other : ℕ) → one ≤ length source → other ≤ length source → pieces_at source one ≡ pieces_at source other → one ≡ other
same_offset source one other one_fits other_fits same =
    sym (starts_at (length source) one (drop one source) (λ none. omega (arith, length-drop one source, none)))
    ∙ ap (start_or (length source)) same
    ∙ starts_at (length source) other (drop other source) (λ none. omega (arith, length-drop other source, none))
