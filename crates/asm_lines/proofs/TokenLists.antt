-- Every text is one list of tokens by their grammar, and no other.
use Rattle.std.proofs.Common.{◌≡◌, ℕ, zero, suc, ◌+◌, ◌-◌, ◌≤◌, Bool, true, false, List, [], ◌∷◌, ◌++◌, length, refl, sym, ap, subst, ◌∙◌, arith, drop_at, take_at}
use Rattle.std.proofs.lemmas.List.{length-append}
use Rattle.asm_base.specs.Pieces.{is_space}
use Rattle.asm_base.specs.Dividing.{piece_kind, piece_length}
use Rattle.asm_base.specs.Tokens.{SpelledToken, token_kind, token_length, tokens_from, tokens_of}
use Rattle.asm_base.specs.declared.pieces.PieceKind.{PieceKind}
use Rattle.asm_base.specs.declared.tokens.TokenKind.{TokenKind}
use Rattle.asm_lines.specs.TokenGrammar.{AreTokens, nothing, space, token}
use Rattle.asm_lines.proofs.Fronts.{tokens_left}
use Rattle.asm_lines.proofs.FirstPieces.{OneDivision, by_grammar, never_empty, same_front}
use Rattle.asm_lines.proofs.TokenFronts.{first_token_is, front_token}

abbrev token_of : TokenKind → List ℕ → ℕ → SpelledToken
token_of kind bytes start = record { kind = kind; bytes = bytes; start = start }

-- the tokens behind a space in front
behind_space : (start first : ℕ) (more rest : List ℕ) (kind : PieceKind) → piece_kind first (more ++ rest) ≡ kind → piece_length kind (more ++ rest) ≡ suc (length more) → is_space kind ≡ true
    → tokens_from 0 start (first ∷ more ++ rest) ≡ tokens_from 0 (start + suc (length more)) rest
unfolding tokens_from
behind_space start first more rest kind kind_is length_is is_one =
    let less : suc (length more) - 1 ≡ length more = omega arith in
    let further : suc start + length more ≡ start + suc (length more) = omega arith in
    rw (kind_is, is_one, length_is, less, tokens_left (length more) (suc start) (more ++ rest), drop_at more rest (length more) refl, further) refl

-- the token in front, and those behind it
behind_token : (start first : ℕ) (more rest : List ℕ) (kind : TokenKind) → is_space (piece_kind first (more ++ rest)) ≡ false → token_kind first (more ++ rest) ≡ kind → token_length kind first (more ++ rest) ≡ suc (length more)
    → tokens_from 0 start (first ∷ more ++ rest) ≡ token_of kind (first ∷ more) start ∷ tokens_from 0 (start + suc (length more)) rest
unfolding tokens_from
behind_token start first more rest kind no_space kind_is length_is =
    let less : suc (length more) - 1 ≡ length more = omega arith in
    let further : suc start + length more ≡ start + suc (length more) = omega arith in
    rw (no_space, kind_is, length_is, less, take_at more rest (length more) refl, tokens_left (length more) (suc start) (more ++ rest), drop_at more rest (length more) refl, further) refl

only_from : OneDivision → (start : ℕ) (text : List ℕ) (tokens : List SpelledToken) → AreTokens start text tokens → tokens ≡ tokens_from 0 start text
unfolding tokens_from
only_from law _ _ _ (nothing start) = refl
only_from law _ _ _ (space start text tokens kind [] rest text_is piece is_one later) = absurd (never_empty law kind rest piece)
only_from law _ _ _ (space start text tokens kind (first ∷ more) rest text_is piece is_one later) =
    let same = same_front law first more rest kind piece in
    let behind = behind_space start first more rest kind same.0 same.1 is_one in
    only_from law (start + length (first ∷ more)) rest tokens later ∙ sym behind ∙ ap (tokens_from 0 start) (sym text_is)
only_from law _ _ _ (token start text tokens kind bytes rest text_is is later) =
    let first = first_token_is law kind bytes rest is in
    let behind = behind_token start first.first first.more rest kind first.no_space first.kind_is first.length_is in
    ap (λ these. token_of kind bytes start ∷ these) (only_from law (start + length bytes) rest tokens later)
    ∙ ap (λ these. token_of kind these start ∷ tokens_from 0 (start + length these) rest) first.bytes_is ∙ sym behind ∙ ap (λ these. tokens_from 0 start (these ++ rest)) (sym first.bytes_is) ∙ ap (tokens_from 0 start) (sym text_is)

-- some list of tokens; the fuel is as much as the bytes are many
abbrev Some_tokens : ℕ → List ℕ → Type 0
Some_tokens start text = (tokens : List SpelledToken) × AreTokens start text tokens

with_token : OneDivision → (start first : ℕ) (rest : List ℕ) → ((after : List ℕ) (next : ℕ) → length after ≤ length rest → Some_tokens next after) → is_space (piece_kind first rest) ≡ false → Some_tokens start (first ∷ rest)
with_token law start first rest later no_space =
    let here = front_token law first rest no_space in
    let is = first_token_is law here.kind here.bytes here.rest here.token in
    let shorter : length here.rest ≤ length rest = omega (arith, length-append here.bytes here.rest, ap length here.text_is, ap length is.bytes_is) in
    let behind = later here.rest (start + length here.bytes) shorter in
    (token_of here.kind here.bytes start ∷ behind.0, token start (first ∷ rest) behind.0 here.kind here.bytes here.rest here.text_is here.token behind.1)

with_space : OneDivision → (start first : ℕ) (rest : List ℕ) → ((after : List ℕ) (next : ℕ) → length after ≤ length rest → Some_tokens next after) → is_space (piece_kind first rest) ≡ true → Some_tokens start (first ∷ rest)
with_space law start first rest later is_one =
    let here = by_grammar law first rest in
    let shorter : length here.after ≤ length rest = omega (arith, length-append here.more here.after, ap length here.rest_is) in
    let behind = later here.after (start + length (first ∷ here.more)) shorter in
    (behind.0, space start (first ∷ rest) behind.0 here.kind (first ∷ here.more) here.after (ap (λ these. first ∷ these) here.rest_is) here.piece (ap is_space (sym here.kind_is) ∙ is_one) behind.1)

some_from : OneDivision → (fuel start : ℕ) (text : List ℕ) → length text ≤ fuel → Some_tokens start text
some_from law fuel start [] enough = ([], nothing start)
some_from law zero start (first ∷ rest) enough = absurd (omega arith)
some_from law (suc fuel) start (first ∷ rest) enough = by_class (λ after next fits. some_from law fuel next after (omega (arith, fits))) (is_space (piece_kind first rest)) refl
  where
    by_class : ((after : List ℕ) (next : ℕ) → length after ≤ length rest → Some_tokens next after) → (is_one : Bool) → is_space (piece_kind first rest) ≡ is_one → Some_tokens start (first ∷ rest)
    by_class later true is = with_space law start first rest later is
    by_class later false is = with_token law start first rest later is

pub some_tokens : OneDivision → (bytes : List ℕ) → AreTokens 0 bytes (tokens_of bytes)
some_tokens law bytes =
    let some = some_from law (length bytes) 0 bytes (omega arith) in
    subst (AreTokens 0 bytes) (only_from law 0 bytes some.0 some.1) some.1

pub only_tokens : OneDivision → (bytes : List ℕ) (one other : List SpelledToken) → AreTokens 0 bytes one → AreTokens 0 bytes other → one ≡ other
only_tokens law bytes one other is also = only_from law 0 bytes one is ∙ sym (only_from law 0 bytes other also)
