-- A piece is the first piece of what it stands before.
use Rattle.std.proofs.Common.{◌≡◌, ℕ, suc, ◌<◌, Bool, true, false, eqb, ◌==◌, ◌&&◌, ◌||◌, List, [], ◌∷◌, ◌++◌, length, refl, sym, ap, ◌∙◌, arith, lt-ltb, le-ltb, ne_eqb, drop_at, append_assoc}
use Rattle.std.proofs.lemmas.Bool.{false≢true, or_parts}
use Rattle.std.proofs.lemmas.List.{length-append, append-nil}
use Rattle.asm_base.specs.declared.pieces.PieceKind.{PieceKind}
use Rattle.asm_base.specs.declared.pieces.PieceKind.TheVariants.{LineFeed, Semicolon, Blank, LineComment, BlockComment, OpenComment, Character, String, OpenString, Other}
use Rattle.asm_base.specs.ByteClasses.{is_feed, is_blank, begins_with, line_goes_on}
use Rattle.asm_base.specs.Pieces.{is_blank_before, EndsLine, has_close, IsQuoted, IsOpenQuoted, begins_class, IsPiece}
use Rattle.asm_base.specs.Dividing.{comment_kind, string_kind, piece_kind, piece_length}
use Rattle.asm_base.proofs.DivisionEnds.{ends_line-no_quote, line_length-whole, comment_length-closed_by, comment_length-open, quoted_length-closed_by, quoted_length-open}

-- these bytes are the first piece before what follows them
pub record IsFirst (kind : PieceKind) (bytes rest : List ℕ) : Type 0 where
  pub first : ℕ
  pub more : List ℕ
  pub bytes_is : bytes ≡ first ∷ more
  pub kind_is : piece_kind first (more ++ rest) ≡ kind
  pub length_is : piece_length kind (more ++ rest) ≡ suc (length more)

-- what is no blank is not a byte that is one
not_blank : (byte other : ℕ) (rest : List ℕ) → is_blank_before other rest ≡ false → is_blank_before byte rest ≡ true → eqb byte other ≡ false
not_blank byte other rest none blank = ne_eqb byte other (λ same. false≢true (sym none ∙ ap (λ b. is_blank_before b rest) (sym same) ∙ blank))

blank-no_feed : (byte : ℕ) (rest : List ℕ) → is_blank_before byte rest ≡ true → eqb byte 10 ≡ false
unfolding is_blank
blank-no_feed byte rest blank = not_blank byte 10 rest refl blank

blank-no_semicolon : (byte : ℕ) (rest : List ℕ) → is_blank_before byte rest ≡ true → eqb byte 59 ≡ false
unfolding is_blank
blank-no_semicolon byte rest blank = not_blank byte 59 rest refl blank

blank_kind : (byte : ℕ) (rest : List ℕ) → is_blank_before byte rest ≡ true → piece_kind byte rest ≡ Blank
unfolding piece_kind
blank_kind byte rest blank = rw (blank-no_feed byte rest blank, blank-no_semicolon byte rest blank, blank) refl

-- what begins with `/*`, by what follows that
block_kind : (inner rest : List ℕ) → has_close (inner ++ 42 ∷ []) ≡ false → comment_kind (inner ++ 42 ∷ 47 ∷ rest) ≡ BlockComment
block_kind inner rest open_before =
    let shorter : length inner < length (inner ++ 42 ∷ 47 ∷ rest) = rw length-append (omega arith) in
    rw (comment_length-closed_by inner rest open_before, lt-ltb _ _ shorter) refl

open_kind : (inner : List ℕ) → has_close inner ≡ false → comment_kind inner ≡ OpenComment
open_kind inner never = rw (comment_length-open inner never, le-ltb (length inner) (length inner) (omega arith)) refl

-- what begins with `"`, by what follows that
closed_kind : (inner rest : List ℕ) → IsQuoted inner → string_kind (inner ++ 34 ∷ rest) ≡ String
closed_kind inner rest quoted = rw (quoted_length-closed_by inner rest quoted, drop_at inner (34 ∷ rest) (length inner) refl) refl

unclosed_kind : (inner rest : List ℕ) → IsOpenQuoted inner → EndsLine rest → string_kind (inner ++ rest) ≡ OpenString
unclosed_kind inner rest quoted ends = rw (quoted_length-open inner rest quoted ends, drop_at inner rest (length inner) refl, ends_line-no_quote rest ends) refl

-- where none of seven tests holds, each fails
none_of : (a b c d e f g : Bool) → (a || b || c || d || e || f || g) ≡ false → (a ≡ false) × (b ≡ false) × (c ≡ false) × (d ≡ false) × (e ≡ false) × (f ≡ false) × (g ≡ false)
none_of a b c d e f g none =
    let to_f = or_parts (a || b || c || d || e || f) g none in
    let to_e = or_parts (a || b || c || d || e) f to_f.0 in
    let to_d = or_parts (a || b || c || d) e to_e.0 in
    let to_c = or_parts (a || b || c) d to_d.0 in
    let to_b = or_parts (a || b) c to_c.0 in
    let to_a = or_parts a b to_b.0 in
    (to_a.0, to_a.1, to_b.1, to_c.1, to_d.1, to_e.1, to_f.1)

other_kind : (byte : ℕ) (rest : List ℕ) → begins_class byte rest ≡ false → piece_kind byte rest ≡ Other
unfolding piece_kind
other_kind byte rest none =
    let tests = none_of (is_feed byte) (byte == 59) (is_blank_before byte rest) (byte == 35) (byte == 47 && begins_with 42 rest) (byte == 39 && line_goes_on rest) (byte == 34) none in
    rw (tests.0, tests.1, tests.2, tests.3, tests.4, tests.5, tests.6) refl

pub is_first : (kind : PieceKind) (bytes rest : List ℕ) → IsPiece kind bytes rest → IsFirst kind bytes rest
unfolding piece_kind piece_length is_blank
is_first LineFeed bytes rest e = record { first = 10; more = []; bytes_is = e; kind_is = refl; length_is = refl }
is_first Semicolon bytes rest e = record { first = 59; more = []; bytes_is = e; kind_is = refl; length_is = refl }
is_first Blank bytes rest p = record { first = p.0; more = []; bytes_is = p.1; kind_is = blank_kind p.0 rest p.2; length_is = refl }
is_first LineComment bytes rest p =
    record { first = 35; more = p.0; bytes_is = p.1; kind_is = refl; length_is = rw (line_length-whole p.0 rest p.2 p.3) (omega arith) }
is_first BlockComment bytes rest p =
    let behind : (p.0 ++ 42 ∷ 47 ∷ []) ++ rest ≡ p.0 ++ 42 ∷ 47 ∷ rest = append_assoc p.0 (42 ∷ 47 ∷ []) rest in
    record {
      first = 47;
      more = 42 ∷ p.0 ++ 42 ∷ 47 ∷ [];
      bytes_is = p.1;
      kind_is = rw behind (block_kind p.0 rest p.2);
      length_is = rw (behind, comment_length-closed_by p.0 rest p.2, length-append) (omega arith);
    }
is_first OpenComment bytes rest p =
    record { first = 47; more = 42 ∷ p.0; bytes_is = p.1; kind_is = rw (p.3, append-nil p.0) (open_kind p.0 p.2); length_is = rw (p.3, append-nil p.0) (omega arith) }
is_first Character bytes rest p = record { first = 39; more = p.0 ∷ []; bytes_is = p.1; kind_is = rw p.2 refl; length_is = refl }
is_first String bytes rest p =
    let behind : (p.0 ++ 34 ∷ []) ++ rest ≡ p.0 ++ 34 ∷ rest = append_assoc p.0 (34 ∷ []) rest in
    record {
      first = 34;
      more = p.0 ++ 34 ∷ [];
      bytes_is = p.1;
      kind_is = rw behind (closed_kind p.0 rest p.2);
      length_is = rw (behind, quoted_length-closed_by p.0 rest p.2, length-append) (omega arith);
    }
is_first OpenString bytes rest p =
    record {
      first = 34;
      more = p.0;
      bytes_is = p.1;
      kind_is = unclosed_kind p.0 rest p.2 p.3;
      length_is = rw (quoted_length-open p.0 rest p.2 p.3) (omega arith);
    }
is_first Other bytes rest p = record { first = p.0; more = []; bytes_is = p.1; kind_is = other_kind p.0 rest p.2; length_is = refl }
