-- The piece in front of a text, by the law that every text is one list of pieces.
use Rattle.std.proofs.Common.{◌≡◌, ℕ, suc, ◌+◌, ◌≤◌, Bool, true, false, cond, not, ◌==◌, ◌&&◌, ◌||◌, List, [], ◌∷◌, ◌++◌, length, take, drop, length-append, refl, sym, ap, subst, ◌∙◌, arith}
use Rattle.std.proofs.lemmas.Bool.{ne_eqb}
use Rattle.std.proofs.lemmas.List.{length-take}
use Rattle.std.proofs.lemmas.List.Sums.{prefix_len-le-length}
use Rattle.asm_base.specs.ByteClasses.{is_feed, begins_with}
use Rattle.asm_base.specs.Pieces.{Piece, IsPiece, IsDivision, IsDivisionFrom, IsQuoted, empty, plain, escape}
use Rattle.asm_base.specs.Dividing.{comment_length, quoted_length, first_piece, piece_kind, piece_length, pieces_from, pieces_of}
use Rattle.asm_base.specs.declared.pieces.PieceKind.{PieceKind}
use Rattle.asm_base.specs.declared.pieces.PieceKind.TheVariants.{LineComment, BlockComment, OpenComment, Character, String, OpenString}

-- every text is its list of pieces, and no other
pub record OneDivision : Type 0 where
  pub some : (text : List ℕ) → IsDivision text (pieces_of text)
  pub only : (text : List ℕ) (pieces : List Piece) → IsDivision text pieces → pieces ≡ pieces_of text

-- what a comment and a string hold before they close
comment_within : (inner after : List ℕ) → comment_length ((inner ++ 42 ∷ 47 ∷ []) ++ after) ≤ length inner
unfolding comment_length
comment_within [] after = omega arith
comment_within (byte ∷ inner) after =
    let text = (inner ++ 42 ∷ 47 ∷ []) ++ after in
    let later = comment_within inner after in
    elim (byte == 42 && begins_with 47 text) as (λ b. cond b 0 (suc (comment_length text)) ≤ suc (length inner)) [ true ↦ omega arith | false ↦ omega arith ]

string_within : (inner after : List ℕ) → IsQuoted inner → quoted_length false ((inner ++ 34 ∷ []) ++ after) ≤ length inner
unfolding quoted_length
string_within _ after empty = omega arith
string_within _ after (plain byte inner no_feed no_quote no_escape quoted) =
    let later = string_within inner after quoted in
    rw (no_feed, ne_eqb byte 34 no_quote, ne_eqb byte 92 no_escape) (omega arith)
string_within _ after (escape byte inner no_feed quoted) = let later = string_within inner after quoted in rw no_feed (omega arith)

quoted_within : (escaped : Bool) (bytes : List ℕ) → quoted_length escaped bytes ≤ length bytes
unfolding quoted_length
quoted_within escaped [] = omega arith
quoted_within true (byte ∷ rest) = let later = quoted_within false rest in elim (is_feed byte) as (λ b. cond b 0 (suc (quoted_length false rest)) ≤ suc (length rest)) [ true ↦ omega arith | false ↦ omega arith ]
quoted_within false (byte ∷ rest) =
    let later = quoted_within (byte == 92) rest in
    elim (is_feed byte || byte == 34) as (λ b. cond b 0 (suc (quoted_length (byte == 92) rest)) ≤ suc (length rest)) [ true ↦ omega arith | false ↦ omega arith ]

within_by : (kind : PieceKind) (first : ℕ) (rest bytes after : List ℕ) → first ∷ rest ≡ bytes ++ after → IsPiece kind bytes after → piece_length kind rest ≤ 1 + length rest
unfolding piece_length
within_by LineComment first rest bytes after whole is = omega (arith, prefix_len-le-length (λ b. not (is_feed b)) rest)
within_by BlockComment first rest bytes after whole is =
    let rest_is : rest ≡ 42 ∷ ((is.0 ++ 42 ∷ 47 ∷ []) ++ after) = ap (drop 1) (whole ∙ ap (λ these. these ++ after) is.1) in
    rw rest_is (omega (arith, comment_within is.0 after, length-append (is.0 ++ 42 ∷ 47 ∷ []) after, length-append is.0 (42 ∷ 47 ∷ [])))
within_by OpenComment first rest bytes after whole is = omega arith
within_by Character first rest bytes after whole is =
    let rest_is : rest ≡ is.0 ∷ after = ap (drop 1) (whole ∙ ap (λ these. these ++ after) is.1) in
    omega (arith, ap length rest_is)
within_by String first rest bytes after whole is =
    let rest_is : rest ≡ (is.0 ++ 34 ∷ []) ++ after = ap (drop 1) (whole ∙ ap (λ these. these ++ after) is.1) in
    rw rest_is (omega (arith, string_within is.0 after is.2, length-append (is.0 ++ 34 ∷ []) after, length-append is.0 (34 ∷ [])))
within_by OpenString first rest bytes after whole is = omega (arith, quoted_within false rest)
within_by _ first rest bytes after whole is = omega arith

-- a division from one offset on is one from another, but for where its pieces stand
abbrev piece_of : PieceKind → List ℕ → ℕ → Piece
piece_of kind bytes start = record { kind = kind; bytes = bytes; start = start }

moved : (from to : ℕ) (text : List ℕ) (pieces : List Piece) → IsDivisionFrom from text pieces → (others : List Piece) × IsDivisionFrom to text others
moved from to text [] is = ([], is)
moved from to text (piece ∷ pieces) (rest, text_is, start_is, is, division) =
    let later = moved (from + length piece.bytes) (to + length piece.bytes) rest pieces division in
    (piece_of piece.kind piece.bytes to ∷ later.0, (rest, text_is, refl, is, later.1))

-- the first piece by the grammar
pub record IsFront (first : ℕ) (rest : List ℕ) : Type 0 where
  pub kind : PieceKind
  pub more : List ℕ
  pub after : List ℕ
  pub rest_is : rest ≡ more ++ after
  pub piece : IsPiece kind (first ∷ more) after
  pub kind_is : piece_kind first rest ≡ kind
  pub length_is : piece_length (piece_kind first rest) rest ≡ suc (length more)

module _ (law : OneDivision) where
  -- a piece lies within its text
  pub piece_within : (first : ℕ) (rest : List ℕ) → piece_length (piece_kind first rest) rest ≤ 1 + length rest
  unfolding pieces_from
  piece_within first rest = let here = law.some (first ∷ rest) in within_by (piece_kind first rest) first rest _ here.0 here.1 here.3

  -- no piece is empty
  pub never_empty : (kind : PieceKind) (rest : List ℕ) → IsPiece kind ([]) rest → ⊥
  never_empty kind rest is = let more = ap length (law.only rest (piece_of kind ([]) 0 ∷ pieces_of rest) (rest, refl, refl, is, law.some rest)) in absurd (omega arith)

  -- a piece by the grammar is the one in front
  pub same_front : (first : ℕ) (more after : List ℕ) (kind : PieceKind) → IsPiece kind (first ∷ more) after → (piece_kind first (more ++ after) ≡ kind) × (piece_length kind (more ++ after) ≡ suc (length more))
  unfolding pieces_from
  same_front first more after kind is =
      let later = moved 0 (0 + length (first ∷ more)) after (pieces_of after) (law.some after) in
      let same = law.only (first ∷ more ++ after) (piece_of kind (first ∷ more) 0 ∷ later.0) (after, refl, refl, is, later.1) in
      let heads : piece_of kind (first ∷ more) 0 ≡ first_piece 0 first (more ++ after) = cc in
      let kind_is : kind ≡ piece_kind first (more ++ after) = ap (λ p. p.kind) heads in
      let n = piece_length (piece_kind first (more ++ after)) (more ++ after) in
      let long : length (first ∷ more) ≡ length (take n (first ∷ more ++ after)) = ap (λ p. length p.bytes) heads in
      let whole : n ≡ suc (length more) = omega (arith, long, length-take n (first ∷ more ++ after), piece_within first (more ++ after), length-append more after) in
      (sym kind_is, ap (λ k. piece_length k (more ++ after)) kind_is ∙ whole)

  pub by_grammar : (first : ℕ) (rest : List ℕ) → IsFront first rest
  unfolding pieces_from
  by_grammar first rest =
      let here = law.some (first ∷ rest) in
      let n = piece_length (piece_kind first rest) rest in
      by_bytes (take n (first ∷ rest)) refl here.0 here.1 here.3
    where
      by_bytes : (bytes : List ℕ) → take (piece_length (piece_kind first rest) rest) (first ∷ rest) ≡ bytes → (after : List ℕ) → first ∷ rest ≡ bytes ++ after → IsPiece (piece_kind first rest) bytes after → IsFront first rest
      by_bytes [] bytes_is after whole is = absurd (never_empty (piece_kind first rest) after is)
      by_bytes (byte ∷ more) bytes_is after whole is =
          let head : byte ≡ first = cc in
          let rest_is : rest ≡ more ++ after = ap (drop 1) whole in
          record {
            kind = piece_kind first rest;
            more = more;
            after = after;
            rest_is = rest_is;
            piece = subst (λ b. IsPiece (piece_kind first rest) (b ∷ more) after) head is;
            kind_is = refl;
            length_is = omega (arith, ap length bytes_is, length-take (piece_length (piece_kind first rest) rest) (first ∷ rest), piece_within first rest);
          }
