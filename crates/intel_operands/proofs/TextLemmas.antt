-- Lists of tokens: the last one, and those before a comma.
use Rattle.std.proofs.Common.{◌≡◌, suc, ◌+◌, ◌-◌, ◌==◌, Bool, true, false, not, List, [], ◌∷◌, ◌++◌, Some, Result, Ok, Err, length, take, slice_get, refl, sym, ap, subst, ◌∙◌, arith, inl, inr, length-append}
use Rattle.std.proofs.lemmas.Bool.{eqb-true, cases_Bool, and_parts, and_from}
use Rattle.std.specs.List.{list_all}
use Rattle.asm_base.specs.Tokens.{SpelledToken}
use Rattle.att_operands.specs.Marks.{mark_by, ends_by}
use Rattle.att_operands.specs.Spells.{IsMark}
use Rattle.intel_sums.specs.Sums.{but_last}
use Rattle.intel_operands.specs.OperandTexts.{closes_bracket, is_no_comma, up_to_comma}
use Rattle.intel_operands.specs.Spells.{HasNoComma, ends}

pub some_is : {A : Type 0} {m n : A} → Some m ≡ Some n → m ≡ n
some_is h = cc

pub ok_is : {A F : Type 0} {m n : A} → (let given : Result A F = Ok m in given ≡ Ok n) → m ≡ n
ok_is h = cc

pub err_is : {A F : Type 0} {m n : F} → (let given : Result A F = Err m in given ≡ Err n) → m ≡ n
err_is h = cc

-- THE LAST TOKEN

pub last_is : (before : List SpelledToken) (closing : SpelledToken) → slice_get (before ++ (closing ∷ [])) (length before) ≡ Some closing
last_is [] closing = refl
last_is (token ∷ before) closing = last_is before closing

pub front_is : (before : List SpelledToken) (closing : SpelledToken) → take (length before) (before ++ (closing ∷ [])) ≡ before
front_is [] closing = refl
front_is (token ∷ before) closing = ap (λ (ts : List SpelledToken). token ∷ ts) (front_is before closing)

one_less : (before : List SpelledToken) (closing : SpelledToken) → length (before ++ (closing ∷ [])) - 1 ≡ length before
one_less before closing = let all = length-append before (closing ∷ []) in omega arith

-- a text that closes by `]`
pub closed : (before text : List SpelledToken) (closing : SpelledToken) → IsMark 93 closing → text ≡ before ++ (closing ∷ []) → closes_bracket text ≡ true
unfolding closes_bracket
closed before text closing is stands =
    rw (stands, one_less before closing, last_is before closing, is) refl

pub without_last : (before text : List SpelledToken) (closing : SpelledToken) → text ≡ before ++ (closing ∷ []) → but_last text ≡ before
without_last before text closing stands = rw (stands, one_less before closing) (front_is before closing)

-- the text with its last token apart
pub record Closed (text : List SpelledToken) : Type 0 where
  pub before : List SpelledToken
  pub closing : SpelledToken
  pub is : IsMark 93 closing
  pub stands : text ≡ before ++ (closing ∷ [])

-- the tokens with the last apart
record Last (text : List SpelledToken) : Type 0 where
  before : List SpelledToken
  closing : SpelledToken
  stands : text ≡ before ++ (closing ∷ [])

last_of : (token : SpelledToken) (rest : List SpelledToken) → Last (token ∷ rest)
last_of token [] = record { before = []; closing = token; stands = refl }
last_of token (next ∷ rest) =
    let more = last_of next rest in
    record { before = token ∷ more.before; closing = more.closing; stands = ap (λ (ts : List SpelledToken). token ∷ ts) more.stands }

closed_by : (text before : List SpelledToken) (closing : SpelledToken) → text ≡ before ++ (closing ∷ []) → closes_bracket text ≡ true → mark_by (Some closing) ≡ 93
unfolding closes_bracket
closed_by text before closing stands is =
    eqb-true (mark_by (Some closing)) 93 (rw (stands, one_less before closing, last_is before closing) at is)

nothing_open : closes_bracket [] ≡ false
unfolding closes_bracket mark_by
nothing_open = refl

pub closing_apart : (text : List SpelledToken) → closes_bracket text ≡ true → Closed text
closing_apart [] is = absurd (let none = nothing_open in cc)
closing_apart (token ∷ rest) is =
    let apart = last_of token rest in
    record { before = apart.before; closing = apart.closing; is = closed_by (token ∷ rest) apart.before apart.closing apart.stands is; stands = apart.stands }

-- UP TO A COMMA

comma_ends : (token : SpelledToken) (rest : List SpelledToken) → ends (token ∷ rest) ≡ true → is_no_comma token ≡ false
unfolding ends_by is_no_comma
comma_ends token rest is = rw is refl

nothing_before : (behind : List SpelledToken) → ends behind ≡ true → up_to_comma behind ≡ 0
nothing_before [] is = refl
nothing_before (token ∷ rest) is = let comma = comma_ends token rest is in rw comma refl

-- a text without a comma, behind which a comma or nothing stands, is what stands before the comma
pub all_before : (text behind : List SpelledToken) → HasNoComma text → ends behind ≡ true → up_to_comma (text ++ behind) ≡ length text
all_before [] behind apart is = nothing_before behind is
all_before (token ∷ text) behind apart is =
    let parts = and_parts (is_no_comma token) (list_all is_no_comma text) apart in
    let here = parts.0 in
    let rest = all_before text behind parts.1 is in
    rw (here, rest) (omega arith)

pub taken : (text behind : List SpelledToken) → take (length text) (text ++ behind) ≡ text
taken [] behind = refl
taken (token ∷ text) behind = ap (λ (ts : List SpelledToken). token ∷ ts) (taken text behind)

-- tokens with what stands before a comma apart
pub record Front (tokens : List SpelledToken) : Type 0 where
  pub behind : List SpelledToken
  pub stands : tokens ≡ take (up_to_comma tokens) tokens ++ behind
  pub apart : HasNoComma (take (up_to_comma tokens) tokens)
  pub ended : ends behind ≡ true
  pub size : length (take (up_to_comma tokens) tokens) ≡ up_to_comma tokens

comma_here : (token : SpelledToken) (rest : List SpelledToken) → is_no_comma token ≡ false → ends (token ∷ rest) ≡ true
unfolding ends_by is_no_comma
comma_here token rest is = elim (cases_Bool (mark_by (Some token) == 44)) [
  | inl t ↦ t
  | inr f ↦ absurd (let bad : not (mark_by (Some token) == 44) ≡ true = rw f refl in cc)
]

nothing_ends : ends [] ≡ true
unfolding ends_by
nothing_ends = refl

front_by : (token : SpelledToken) (tokens : List SpelledToken) (b : Bool) → is_no_comma token ≡ b → Front tokens → Front (token ∷ tokens)
front_by token tokens true here rest =
    let counted : up_to_comma (token ∷ tokens) ≡ 1 + up_to_comma tokens = rw here refl in
    let next : up_to_comma (token ∷ tokens) ≡ suc (up_to_comma tokens) = counted ∙ omega arith in
    let own : take (up_to_comma (token ∷ tokens)) (token ∷ tokens) ≡ token ∷ take (up_to_comma tokens) tokens = rw next refl in
    record {
      behind = rest.behind;
      stands = ap (λ (ts : List SpelledToken). token ∷ ts) rest.stands ∙ ap (λ (ts : List SpelledToken). ts ++ rest.behind) (sym own);
      apart = subst HasNoComma (sym own) (and_from (is_no_comma token) (list_all is_no_comma (take (up_to_comma tokens) tokens)) here rest.apart);
      ended = rest.ended;
      size = ap length own ∙ ap suc rest.size ∙ sym next;
    }
front_by token tokens false here rest =
    let next : up_to_comma (token ∷ tokens) ≡ 0 = rw here refl in
    let own : take (up_to_comma (token ∷ tokens)) (token ∷ tokens) ≡ [] = rw next refl in
    record {
      behind = token ∷ tokens;
      stands = ap (λ (ts : List SpelledToken). ts ++ (token ∷ tokens)) (sym own);
      apart = subst HasNoComma (sym own) refl;
      ended = comma_here token tokens here;
      size = ap length own ∙ sym next;
    }

pub front_of_tokens : (tokens : List SpelledToken) → Front tokens
front_of_tokens [] = record { behind = []; stands = refl; apart = refl; ended = nothing_ends; size = refl }
front_of_tokens (token ∷ tokens) = front_by token tokens (is_no_comma token) refl (front_of_tokens tokens)
