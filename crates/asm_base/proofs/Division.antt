-- Every text has one division into pieces, and no other.
use Rattle.std.proofs.Common.{◌≡◌, ℕ, zero, suc, ◌+◌, ◌-◌, ◌≤◌, List, [], ◌∷◌, ◌++◌, length, drop, refl, ap, ◌∙◌, arith, add-zero, drop_at, take_at}
use Rattle.std.proofs.lemmas.List.{length-append}
use Rattle.asm_base.specs.declared.pieces.PieceKind.{PieceKind}
use Rattle.asm_base.specs.Pieces.{Piece, IsPiece, IsDivisionFrom, IsDivision}
use Rattle.asm_base.specs.Dividing.{piece_kind, piece_length, pieces_from, pieces_of}
use Rattle.asm_base.proofs.DivisionFirst.{is_first}
use Rattle.asm_base.proofs.DivisionSome.{Front, front}

-- the bytes that are left out are those of the piece before
pieces_from-drop : (left_out start : ℕ) (bytes : List ℕ) → pieces_from left_out start bytes ≡ pieces_from 0 (start + left_out) (drop left_out bytes)
unfolding pieces_from
pieces_from-drop zero start bytes = rw add-zero
pieces_from-drop (suc n) start [] = refl
pieces_from-drop (suc n) start (byte ∷ rest) =
    let e : suc start + n ≡ start + suc n = omega arith in
    pieces_from-drop n (suc start) rest ∙ ap (λ k. pieces_from 0 k (drop n rest)) e

abbrev piece_of : PieceKind → List ℕ → ℕ → Piece
piece_of kind bytes start = record { kind = kind; bytes = bytes; start = start }

-- the first piece, and those of what follows it
divided : (start first : ℕ) (more rest : List ℕ) (kind : PieceKind) → piece_kind first (more ++ rest) ≡ kind → piece_length kind (more ++ rest) ≡ suc (length more)
    → pieces_from 0 start (first ∷ more ++ rest) ≡ piece_of kind (first ∷ more) start ∷ pieces_from 0 (start + suc (length more)) rest
unfolding pieces_from
divided start first more rest kind kind_is length_is =
    let less : suc (length more) - 1 ≡ length more = omega arith in
    let further : suc start + length more ≡ start + suc (length more) = omega arith in
    rw (kind_is, length_is, less, take_at more rest (length more) refl, pieces_from-drop (length more) (suc start) (more ++ rest), drop_at more rest (length more) refl, further) refl

-- a piece comes first, and then the pieces of what follows it
pieces_from-piece : (start : ℕ) (kind : PieceKind) (bytes rest : List ℕ) → IsPiece kind bytes rest
    → pieces_from 0 start (bytes ++ rest) ≡ piece_of kind bytes start ∷ pieces_from 0 (start + length bytes) rest
pieces_from-piece start kind bytes rest piece =
    let first = is_first kind bytes rest piece in
    rw first.bytes_is (divided start first.first first.more rest kind first.kind_is first.length_is)

only_from : (start : ℕ) (text : List ℕ) (pieces : List Piece) → IsDivisionFrom start text pieces → pieces ≡ pieces_from 0 start text
unfolding pieces_from
only_from start text [] nothing = rw nothing refl
only_from start text (piece ∷ pieces) division =
    let later = only_from (start + length piece.bytes) division.0 pieces division.4 in
    let same : piece ≡ piece_of piece.kind piece.bytes start = ap (piece_of piece.kind piece.bytes) division.2 in
    let whole = pieces_from-piece start piece.kind piece.bytes division.0 division.3 in
    rw (division.1, whole, ← same, ← later) refl

-- with the piece in front, where what follows it is divided
with_front : (start : ℕ) (text : List ℕ) (here : Front text) → IsDivisionFrom (start + length here.bytes) here.rest (pieces_from 0 (start + length here.bytes) here.rest)
    → IsDivisionFrom start text (pieces_from 0 start text)
with_front start text here later = rw (here.text_is, pieces_from-piece start here.kind here.bytes here.rest here.piece) (here.rest, refl, refl, here.piece, later)

-- the fuel is as much as the bytes are many
some_from : (fuel start : ℕ) (text : List ℕ) → length text ≤ fuel → IsDivisionFrom start text (pieces_from 0 start text)
unfolding pieces_from
some_from fuel start [] enough = refl
some_from zero start (first ∷ rest) enough = absurd (omega arith)
some_from (suc fuel) start (first ∷ rest) enough =
    let here = front first rest in
    let is = is_first here.kind here.bytes here.rest here.piece in
    let shorter : length here.rest ≤ fuel = omega (arith, length-append here.bytes here.rest, ap length here.text_is, ap length is.bytes_is) in
    with_front start (first ∷ rest) here (some_from fuel (start + length here.bytes) here.rest shorter)

pub divides : (text : List ℕ) → IsDivision text (pieces_of text)
divides text = some_from (length text) 0 text (omega arith)

pub only_division : (text : List ℕ) (pieces : List Piece) → IsDivision text pieces → pieces ≡ pieces_of text
only_division = only_from 0
