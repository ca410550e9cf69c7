-- The forms of sums of symbols that stand for themselves.
use Rattle.std.proofs.Common.{◌≡◌, ℕ, ◌+◌, ◌==◌, true, false, List, [], ◌∷◌, Some, None, refl, arith}
use Rattle.std.proofs.lemmas.Bool.Decides.{nat_tests}
use Rattle.asm_expr.specs.declared.forms.Term.{Term}
use Rattle.asm_expr.specs.Forms.{Form, wrapped, term_of, symbol_form, constant_form, joined, signed, with_terms}
use Rattle.asm_expr.specs.Knowledge.{Told, absent, constant, label, form, Knowledge}
use Rattle.asm_expr.specs.Linear.{form_by, form_of}
use Rattle.asm_expr.specs.Settled.{spot_by, cancelled_number, put_all, settled}
use Rattle.asm_uses.specs.declared.sums.Operand.{Operand}
use Rattle.asm_uses.specs.declared.sums.Operand.TheVariants.{Number, Symbol, Here}
use Rattle.asm_uses.specs.SumForms.{operand_symbol, operand_form, stands_for_itself}

-- a symbol that stands for itself is its own form
pub itself_by : (told : ℕ → Told) (symbol : ℕ) (found : Told) → stands_for_itself found ≡ true → form_by told symbol found ≡ symbol_form symbol
itself_by told symbol absent is = refl
itself_by told symbol (constant number) is = cc
itself_by told symbol (label stretch at) is = refl
itself_by told symbol (form made) is = cc

itself : (told : ℕ → Told) (meant symbol : ℕ) → Some meant ≡ Some symbol → stands_for_itself (told symbol) ≡ true → form_of told meant ≡ symbol_form symbol
itself told meant symbol is alone =
    let same : meant ≡ symbol = cc in
    rw same (itself_by told symbol (told symbol) alone)

-- an operand whose symbol stands for itself is that symbol's form
pub symbol_alone : (known : Knowledge) (operand : Operand) (symbol : ℕ) → operand_symbol known operand ≡ Some symbol
    → stands_for_itself (known.told symbol) ≡ true → operand_form known operand ≡ symbol_form symbol
symbol_alone known (Number value) symbol is alone = cc
symbol_alone known (Symbol index) symbol is alone = itself known.told _ symbol is alone
symbol_alone known Here symbol is alone = itself known.told _ symbol is alone

-- a term that counts stays where it stands alone
no_number : (told : Told) (coefficient : ℕ) → (wrapped coefficient == 0) ≡ false → cancelled_number (spot_by told coefficient ∷ []) (spot_by told coefficient) ≡ None
no_number (label stretch at) coefficient counts =
    let same : (stretch == stretch) ≡ true = grind (arith, nat_tests) in
    let zero : 0 + coefficient ≡ coefficient = omega arith in
    rw (same, zero, counts) refl
no_number _ coefficient counts = refl

pub one_stays : (told : ℕ → Told) (term : Term) (total : ℕ) → (wrapped term.coefficient == 0) ≡ false
    → (let whole : Form = record { terms = term ∷ []; constant = total } in whole ≡ settled told whole)
unfolding settled put_all
one_stays told term total counts = rw (no_number (told term.symbol) term.coefficient counts)

-- a number that is added to a symbol, or taken off, stays
pub number_more : (told : ℕ → Told) (symbol number : ℕ)
    → joined false (symbol_form symbol) (constant_form number) ≡ settled told (joined false (symbol_form symbol) (constant_form number))
unfolding with_terms
number_more told symbol number = one_stays told (term_of symbol 1) _ refl

pub number_less : (told : ℕ → Told) (symbol number : ℕ)
    → joined false (symbol_form symbol) (constant_form (signed true number)) ≡ settled told (joined true (symbol_form symbol) (constant_form number))
unfolding with_terms
number_less told symbol number = one_stays told (term_of symbol 1) _ refl
