-- The value of a form where something stands in place of the address of one of its symbols.
use Rattle.std.proofs.Common.{◌≡◌, ℕ, ◌+◌, ◌*◌, ◌^◌, ◌==◌, Bool, true, false, cond, List, [], ◌∷◌, refl, ap, arith, add-mul, zero-mul}
use Rattle.std.proofs.lemmas.Bool.Decides.{nat_tests}
use Rattle.std.proofs.lemmas.Nat.{mul-mod_first}
use Rattle.asm_expr.specs.declared.forms.Term.{Term}
use Rattle.asm_expr.specs.Forms.{Form, wrapped}
use Rattle.asm_expr.specs.FormValues.{value_by, terms_value, form_value}
use Rattle.asm_expr.specs.Knowledge.{Told, absent, constant, label, form}
use Rattle.asm_expr.specs.Coefficients.{counted_as, times, coefficient}
use Rattle.elf_symbols.specs.declared.targets.Target.TheVariants.{OfSymbol}
use Rattle.object_laws.specs.LinkedValues.{told_but, given_put, value_with}

module _ (begins given : ℕ → ℕ) (told : ℕ → Told) (named put : ℕ) where
  -- what the symbol is worth that is named, and what each symbol is worth where this is put for that one
  abbrev old : ℕ
  old = value_by begins given named (told named)

  abbrev new : ℕ → ℕ
  new index = value_by begins (given_put (OfSymbol named) put given) index (told_but (OfSymbol named) told index)

  -- the other symbols are worth what they were
  other_worth : (symbol : ℕ) → (symbol == named) ≡ false → (t : Told) → value_by begins (given_put (OfSymbol named) put given) symbol t ≡ value_by begins given symbol t
  other_worth symbol is (label stretch at) = refl
  other_worth symbol is absent = rw is refl
  other_worth symbol is (constant number) = rw is refl
  other_worth symbol is (form made) = rw is refl

  -- the one is worth what is put for it
  named_worth : (symbol : ℕ) → (symbol == named) ≡ true → value_by begins (given_put (OfSymbol named) put given) symbol absent ≡ put
  named_worth symbol is = rw is refl

  one_replaced : (symbol count : ℕ) (b : Bool) → (symbol == named) ≡ b
      → count * value_by begins (given_put (OfSymbol named) put given) symbol (cond b absent (told symbol)) + cond b count 0 * old
      ≡ count * value_by begins given symbol (told symbol) + cond b count 0 * put
  one_replaced symbol count true is =
      let same : symbol ≡ named = grind (arith, nat_tests) in
      let now = named_worth symbol is in
      let before : value_by begins given symbol (told symbol) ≡ old = ap (λ (i : ℕ). value_by begins given i (told i)) same in
      rw (now, before) (omega arith)
  one_replaced symbol count false is =
      let now = other_worth symbol is (told symbol) in
      let first = zero-mul old in
      let second = zero-mul put in
      rw now (omega arith)

  terms_replaced : (terms : List Term) → terms_value begins (given_put (OfSymbol named) put given) (told_but (OfSymbol named) told) terms + times named terms * old
      ≡ terms_value begins given told terms + times named terms * put
  terms_replaced [] = omega arith
  terms_replaced (term ∷ terms) =
      let one = one_replaced term.symbol term.coefficient (term.symbol == named) refl in
      let later = terms_replaced terms in
      let first = add-mul (counted_as named term.symbol term.coefficient) (times named terms) old in
      let second = add-mul (counted_as named term.symbol term.coefficient) (times named terms) put in
      omega arith

  -- a symbol that counts once, modulo 2 ^ 64
  once : (n value : ℕ) → wrapped n ≡ 1 → wrapped (n * value) ≡ wrapped value
  once n value is =
      let first = mul-mod_first n value (2 ^ 64) in
      let all : wrapped (wrapped n * value) ≡ wrapped value = rw is (omega arith) in
      omega arith

  pub replaced : (made : Form) → coefficient made named ≡ 1
      → wrapped (value_with begins given told (OfSymbol named) put made + old) ≡ wrapped (form_value begins given told made + put)
  replaced made is =
      let terms = terms_replaced made.terms in
      let before = once (times named made.terms) old is in
      let after = once (times named made.terms) put is in
      omega arith
