-- A piece stands in front of every text that has a byte.
use Rattle.std.proofs.Common.{◌≡◌, ℕ, true, false, eqb, ◌==◌, ◌&&◌, ◌⊎◌, List, [], ◌∷◌, ◌++◌, inl, inr, refl, sym, ap, ◌∙◌, append_assoc, eqb-true}
use Rattle.std.proofs.lemmas.Bool.{false≢true, eqb-false, and_parts, or_from, cases_Bool, not-true}
use Rattle.std.proofs.lemmas.List.{append-nil}
use Rattle.std.proofs.lemmas.List.Elements.{All-nil, All-cons}
use Rattle.asm_base.specs.declared.pieces.PieceKind.{PieceKind}
use Rattle.asm_base.specs.declared.pieces.PieceKind.TheVariants.{LineFeed, Semicolon, Blank, LineComment, BlockComment, OpenComment, Character, String, OpenString, Other}
use Rattle.asm_base.specs.ByteClasses.{is_feed, begins_with, line_goes_on}
use Rattle.asm_base.specs.Pieces.{is_blank_before, EndsLine, IsOnLine, has_close, IsQuoted, empty, plain, escape, IsOpenQuoted, IsPiece}
use Rattle.asm_base.proofs.DivisionEnds.{begins_with-before}

-- a piece stands in front of the text
pub record Front (text : List ℕ) : Type 0 where
  pub kind : PieceKind
  pub bytes : List ℕ
  pub rest : List ℕ
  pub text_is : text ≡ bytes ++ rest
  pub piece : IsPiece kind bytes rest

-- the text up to the end of its first line
record FirstLine (text : List ℕ) : Type 0 where
  inner : List ℕ
  rest : List ℕ
  text_is : text ≡ inner ++ rest
  line : IsOnLine inner
  ends : EndsLine rest

first_line : (text : List ℕ) → FirstLine text
first_line [] = record { inner = []; rest = []; text_is = refl; line = All-nil (λ byte. is_feed byte ≡ false); ends = refl }
first_line (byte ∷ text) = elim (cases_Bool (is_feed byte)) [
  | inl feed ↦ record { inner = []; rest = byte ∷ text; text_is = refl; line = All-nil (λ b. is_feed b ≡ false); ends = rw feed refl }
  | inr no_feed ↦
      let later = first_line text in
      record {
        inner = byte ∷ later.inner;
        rest = later.rest;
        text_is = ap (λ bytes. byte ∷ bytes) later.text_is;
        line = All-cons (λ b. is_feed b ≡ false) byte later.inner no_feed later.line;
        ends = later.ends;
      }
]

-- the text up to its first `*/`
record FirstClose (text : List ℕ) : Type 0 where
  inner : List ℕ
  rest : List ℕ
  text_is : text ≡ inner ++ 42 ∷ 47 ∷ rest
  open_before : has_close (inner ++ 42 ∷ []) ≡ false

close_here : (byte : ℕ) (text : List ℕ) → (eqb byte 42 && begins_with 47 text) ≡ true → FirstClose (byte ∷ text)
close_here byte [] close = absurd (false≢true (and_parts (eqb byte 42) false close).1)
close_here byte (next ∷ rest) close =
    let parts = and_parts (eqb byte 42) (eqb next 47) close in
    record { inner = []; rest = rest; text_is = rw (eqb-true byte 42 parts.0, eqb-true next 47 parts.1) refl; open_before = refl }

close_later : (byte : ℕ) (text : List ℕ) → (eqb byte 42 && begins_with 47 text) ≡ false → FirstClose text → FirstClose (byte ∷ text)
close_later byte text none later =
    let before = begins_with-before 47 42 later.inner (47 ∷ later.rest) in
    let here : (eqb byte 42 && begins_with 47 (later.inner ++ 42 ∷ [])) ≡ false = rw (← before, ← later.text_is) none in
    record {
      inner = byte ∷ later.inner;
      rest = later.rest;
      text_is = ap (λ bytes. byte ∷ bytes) later.text_is;
      open_before = or_from _ _ here later.open_before;
    }

first_close : (text : List ℕ) → (has_close text ≡ false) ⊎ FirstClose text
first_close [] = inl refl
first_close (byte ∷ text) = elim (cases_Bool (eqb byte 42 && begins_with 47 text)) [
  | inl close ↦ inr (close_here byte text close)
  | inr none ↦ elim (first_close text) [ inl never ↦ inl (or_from _ _ none never) | inr later ↦ inr (close_later byte text none later) ]
]

-- the text up to the `"` that closes a string
record ClosedString (text : List ℕ) : Type 0 where
  inner : List ℕ
  rest : List ℕ
  text_is : text ≡ inner ++ 34 ∷ rest
  quoted : IsQuoted inner

-- the text up to the end of the line of a string that nothing closes
record UnclosedString (text : List ℕ) : Type 0 where
  inner : List ℕ
  rest : List ℕ
  text_is : text ≡ inner ++ rest
  quoted : IsOpenQuoted inner
  ends : EndsLine rest

abbrev HasString : List ℕ → Type 0
HasString text = ClosedString text ⊎ UnclosedString text

-- what goes in front of what a string holds goes in front of the string
string_later : (more : List ℕ) → ((inner : List ℕ) → IsQuoted inner → IsQuoted (more ++ inner)) → (text : List ℕ) → HasString text → HasString (more ++ text)
string_later more goes text (inl closed) =
    inl (record {
      inner = more ++ closed.inner;
      rest = closed.rest;
      text_is = ap (λ t. more ++ t) closed.text_is ∙ sym (append_assoc more closed.inner (34 ∷ closed.rest));
      quoted = goes closed.inner closed.quoted;
    })
string_later more goes text (inr unclosed) =
    inr (record {
      inner = more ++ unclosed.inner;
      rest = unclosed.rest;
      text_is = ap (λ t. more ++ t) unclosed.text_is ∙ sym (append_assoc more unclosed.inner unclosed.rest);
      quoted = elim unclosed.quoted [
        | inl quoted ↦ inl (goes unclosed.inner quoted)
        | inr last ↦ inr (more ++ last.0, ap (λ t. more ++ t) last.1 ∙ sym (append_assoc more last.0 (92 ∷ [])), goes last.0 last.2)
      ];
      ends = unclosed.ends;
    })

-- the line of a string ends here
string_ends : (text : List ℕ) → EndsLine text → HasString text
string_ends text ends = inr (record { inner = []; rest = text; text_is = refl; quoted = inl empty; ends = ends })

-- the line of a string ends behind a backslash
escape_ends : (text : List ℕ) → EndsLine text → HasString (92 ∷ text)
escape_ends text ends = inr (record { inner = 92 ∷ []; rest = text; text_is = refl; quoted = inr ([], refl, empty); ends = ends })

-- a string, and one behind a backslash
strings : (text : List ℕ) → HasString text × HasString (92 ∷ text)
strings [] = (string_ends [] refl, escape_ends [] refl)
strings (byte ∷ text) = elim (cases_Bool (is_feed byte)) [
  | inl feed ↦ (string_ends (byte ∷ text) (rw feed refl), escape_ends (byte ∷ text) (rw feed refl))
  | inr no_feed ↦
      let later = strings text in
      let escaped : HasString (92 ∷ byte ∷ text) = string_later (92 ∷ byte ∷ []) (λ inner. escape byte inner no_feed) text later.0 in
      elim (cases_Bool (eqb byte 34)) [
        | inl quote ↦ (inl (record { inner = []; rest = text; text_is = rw (eqb-true byte 34 quote) refl; quoted = empty }), escaped)
        | inr no_quote ↦ elim (cases_Bool (eqb byte 92)) [
          | inl backslash ↦ (rw (eqb-true byte 92 backslash) later.1, escaped)
          | inr no_backslash ↦ (string_later (byte ∷ []) (λ inner. plain byte inner no_feed (eqb-false byte 34 no_quote) (eqb-false byte 92 no_backslash)) text later.0, escaped)
        ]
      ]
]

-- a piece of one byte
one_byte : (kind : PieceKind) (byte : ℕ) (rest : List ℕ) → IsPiece kind (byte ∷ []) rest → Front (byte ∷ rest)
one_byte kind byte rest piece = record { kind = kind; bytes = byte ∷ []; rest = rest; text_is = refl; piece = piece }

line_front : (rest : List ℕ) → Front (35 ∷ rest)
line_front rest =
    let first = first_line rest in
    record { kind = LineComment; bytes = 35 ∷ first.inner; rest = first.rest; text_is = ap (λ t. 35 ∷ t) first.text_is; piece = (first.inner, refl, first.line, first.ends) }

comment_front : (inner : List ℕ) → Front (47 ∷ 42 ∷ inner)
comment_front inner = elim (first_close inner) [
  | inl never ↦ record { kind = OpenComment; bytes = 47 ∷ 42 ∷ inner; rest = []; text_is = sym (append-nil (47 ∷ 42 ∷ inner)); piece = (inner, refl, never, refl) }
  | inr close ↦ record {
    kind = BlockComment;
    bytes = 47 ∷ 42 ∷ close.inner ++ 42 ∷ 47 ∷ [];
    rest = close.rest;
    text_is = ap (λ t. 47 ∷ 42 ∷ t) (close.text_is ∙ sym (append_assoc close.inner (42 ∷ 47 ∷ []) close.rest));
    piece = (close.inner, refl, close.open_before);
  }
]

comment_begins : (rest : List ℕ) → begins_with 42 rest ≡ true → Front (47 ∷ rest)
comment_begins [] star = absurd (false≢true star)
comment_begins (next ∷ inner) star = rw (eqb-true next 42 star) (comment_front inner)

character_begins : (rest : List ℕ) → line_goes_on rest ≡ true → Front (39 ∷ rest)
character_begins [] on_line = absurd (false≢true on_line)
character_begins (next ∷ rest) on_line = record { kind = Character; bytes = 39 ∷ next ∷ []; rest = rest; text_is = refl; piece = (next, refl, not-true (is_feed next) on_line) }

string_front : (rest : List ℕ) → Front (34 ∷ rest)
string_front rest = elim (strings rest).0 [
  | inl closed ↦ record {
    kind = String;
    bytes = 34 ∷ closed.inner ++ 34 ∷ [];
    rest = closed.rest;
    text_is = ap (λ t. 34 ∷ t) (closed.text_is ∙ sym (append_assoc closed.inner (34 ∷ []) closed.rest));
    piece = (closed.inner, refl, closed.quoted);
  }
  | inr unclosed ↦ record {
    kind = OpenString;
    bytes = 34 ∷ unclosed.inner;
    rest = unclosed.rest;
    text_is = ap (λ t. 34 ∷ t) unclosed.text_is;
    piece = (unclosed.inner, refl, unclosed.quoted, unclosed.ends);
  }
]

pub front : (first : ℕ) (rest : List ℕ) → Front (first ∷ rest)
front first rest = elim (cases_Bool (is_feed first)) [
  | inl feed ↦ one_byte LineFeed first rest (ap (λ byte. byte ∷ []) (eqb-true first 10 feed))
  | inr no_feed ↦ elim (cases_Bool (first == 59)) [
    | inl semicolon ↦ one_byte Semicolon first rest (ap (λ byte. byte ∷ []) (eqb-true first 59 semicolon))
    | inr no_semicolon ↦ elim (cases_Bool (is_blank_before first rest)) [
      | inl blank ↦ one_byte Blank first rest (first, refl, blank)
      | inr no_blank ↦ elim (cases_Bool (first == 35)) [
        | inl hash ↦ rw (eqb-true first 35 hash) (line_front rest)
        | inr no_hash ↦ elim (cases_Bool (first == 47 && begins_with 42 rest)) [
          | inl slash ↦ let parts = and_parts (first == 47) (begins_with 42 rest) slash in rw (eqb-true first 47 parts.0) (comment_begins rest parts.1)
          | inr no_slash ↦ elim (cases_Bool (first == 39 && line_goes_on rest)) [
            | inl quote ↦ let parts = and_parts (first == 39) (line_goes_on rest) quote in rw (eqb-true first 39 parts.0) (character_begins rest parts.1)
            | inr no_quote ↦ elim (cases_Bool (first == 34)) [
              | inl double ↦ rw (eqb-true first 34 double) (string_front rest)
              | inr no_double ↦ one_byte Other first rest (first, refl, rw (no_feed, no_semicolon, no_blank, no_hash, no_slash, no_quote, no_double) refl)
            ]
          ]
        ]
      ]
    ]
  ]
]
