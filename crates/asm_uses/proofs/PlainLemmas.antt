-- Sums of symbols whose forms are the same wherever a statement stands.
use Rattle.std.proofs.Common.{◌≡◌, ℕ, ◌==◌, ◌||◌, Bool, map, true, false, [], ◌∷◌, Option, None, Some, refl, sym, ap, ◌∙◌}
use Rattle.asm_expr.specs.Forms.{Form, term_of, symbol_form, constant_form, joined, signed, wrapped, with_term, with_terms}
use Rattle.asm_expr.specs.Knowledge.{Told, constant, Knowledge}
use Rattle.asm_expr.specs.Linear.{form_by, form_of}
use Rattle.asm_expr.specs.declared.forms.Term.{Term}
use Rattle.asm_expr.specs.Settled.{settled, put_all, put_one, spot_of, cancelled_number}
use Rattle.asm_symbols.specs.Looking.{told}
use Rattle.asm_symbols.specs.SymbolMap.{SymbolMap}
use Rattle.asm_uses.specs.declared.plain_sums.Plain.TheVariants as plain
use Rattle.asm_uses.specs.declared.sums.Operand.TheVariants.{Number, Symbol}
use Rattle.asm_uses.specs.declared.sums.Added.TheVariants.{Nothing, Plus, Minus}
use Rattle.asm_uses.specs.Places.{uses_place}
use Rattle.asm_uses.specs.PlainSums.{IsElsewhere, IsPlain}
use Rattle.asm_uses.specs.SumForms.{stands_for_itself}
use Rattle.asm_uses.proofs.SumLemmas.{itself_by, one_stays}
use Rattle.asm_uses.proofs.SumLemmas as sums

-- a symbol elsewhere that is known as a number is that number
elsewhere_form : (map : SymbolMap) (known : Knowledge) (symbol : ℕ) → IsElsewhere map known symbol → form_of known.told symbol ≡ form_by known.told symbol (told map symbol)
elsewhere_form map known symbol is = ap (form_by known.told symbol) is.told

itself : (map : SymbolMap) (known : Knowledge) (symbol : ℕ) → IsElsewhere map known symbol → stands_for_itself (told map symbol) ≡ true
    → form_of known.told symbol ≡ symbol_form symbol
itself map known symbol is alone = elsewhere_form map known symbol is ∙ itself_by known.told symbol (told map symbol) alone

free_by : (b c : Bool) → b ≡ false → c ≡ false → (b || c) ≡ false
free_by true c is more = cc
free_by false c is more = more

-- the form of two symbols depends on what is known of them alone
apart_by : (told other : ℕ → Told) (one second : ℕ) (b : Bool) → (one == second) ≡ b → told one ≡ other one → told second ≡ other second
    → settled told (joined true (symbol_form one) (symbol_form second)) ≡ settled other (joined true (symbol_form one) (symbol_form second))
unfolding settled put_all with_term with_terms
apart_by told other one second true same first more = rw same refl
apart_by told other one second false same first more = rw (same, first, more) refl

-- two terms of which some have cancelled stay, and a number that is added to them cancels nothing
two_still : (told : ℕ → Told) (one other : Term) (first second : Option ℕ) (total number : ℕ) → (wrapped one.coefficient == 0) ≡ false → (wrapped other.coefficient == 0) ≡ false
    → cancelled_number (map (spot_of told) (one ∷ other ∷ [])) (spot_of told one) ≡ first
    → cancelled_number (map (spot_of told) (one ∷ other ∷ [])) (spot_of told other) ≡ second
    → (let moved = joined false (put_one (put_one (constant_form total) one first) other second) (constant_form number) in moved ≡ settled told moved)
unfolding with_terms settled put_all
two_still told one other None None total number some more here there = rw (here, there) refl
two_still told one other None (Some at) total number some more here there = one_stays told one _ some
two_still told one other (Some at) None total number some more here there = one_stays told other _ more
two_still told one other (Some at) (Some behind) total number some more here there = refl

apart_settled : (told : ℕ → Told) (one second number : ℕ) (b : Bool) → (one == second) ≡ b
    → (let moved = joined false (settled told (joined true (symbol_form one) (symbol_form second))) (constant_form number) in moved ≡ settled told moved)
unfolding settled put_all with_term with_terms
apart_settled told one second number true same = rw same refl
apart_settled told one second number false same = rw same (two_still told (term_of one 1) (term_of second _) _ _ _ number refl refl refl refl)

apart_still : (told other : ℕ → Told) (one second number : ℕ) → told one ≡ other one → told second ≡ other second
    → (let moved = joined false (settled other (joined true (symbol_form one) (symbol_form second))) (constant_form number) in moved ≡ settled told moved)
apart_still told other one second number first more =
    rw (← apart_by told other one second (one == second) refl first more) (apart_settled told one second number (one == second) refl)

put_free : (place : ℕ) (made : Form) (one other : Term) (first second : Option ℕ) → made.terms ≡ [] → (one.symbol == place) ≡ false → (other.symbol == place) ≡ false
    → uses_place place (put_one (put_one made one first) other second) ≡ false
put_free place made one other None None empty here there = rw empty (free_by _ _ here (free_by _ _ there refl))
put_free place made one other None (Some more) empty here there = rw empty (free_by _ _ here refl)
put_free place made one other (Some number) None empty here there = rw empty (free_by _ _ there refl)
put_free place made one other (Some number) (Some more) empty here there = rw empty refl

apart_free : (told : ℕ → Told) (place one other : ℕ) (b : Bool) → (one == other) ≡ b → (one == place) ≡ false → (other == place) ≡ false
    → uses_place place (settled told (joined true (symbol_form one) (symbol_form other))) ≡ false
unfolding settled put_all with_term with_terms
apart_free told place one other true same here there = rw same refl
apart_free told place one other false same here there = rw same (put_free place _ (term_of one 1) (term_of other _) _ _ refl here there)

module _ (map : SymbolMap) where
  pub number_alone : (symbol number : ℕ) → told map symbol ≡ constant number → IsPlain map (Symbol symbol) Nothing (plain.Number number)
  unfolding with_terms settled put_all
  number_alone symbol number is = record {
    form = λ known at more. elsewhere_form map known symbol at ∙ ap (form_by known.told symbol) is;
    free = λ known at more. refl;
    still = λ known at more by. refl;
  }

  pub symbol_alone : (symbol : ℕ) → stands_for_itself (told map symbol) ≡ true → IsPlain map (Symbol symbol) Nothing (plain.Moved symbol 0)
  unfolding with_terms
  symbol_alone symbol is = record {
    form = λ known at more. itself map known symbol at is;
    free = λ known at more. free_by _ _ at.other refl;
    still = λ known at more by. one_stays known.told (term_of symbol 1) _ refl;
  }

  pub number_more : (symbol number : ℕ) → stands_for_itself (told map symbol) ≡ true → IsPlain map (Symbol symbol) (Plus (Number number)) (plain.Moved symbol number)
  unfolding with_terms
  number_more symbol number is = record {
    form = λ known at more. ap (λ made. settled known.told (joined false made (constant_form number))) (itself map known symbol at is) ∙ sym (sums.number_more known.told symbol number);
    free = λ known at more. free_by _ _ at.other refl;
    still = λ known at more by. one_stays known.told (term_of symbol 1) _ refl;
  }

  pub number_less : (symbol number : ℕ) → stands_for_itself (told map symbol) ≡ true
      → IsPlain map (Symbol symbol) (Minus (Number number)) (plain.Moved symbol (signed true number))
  unfolding with_terms
  number_less symbol number is = record {
    form = λ known at more. ap (λ made. settled known.told (joined true made (constant_form number))) (itself map known symbol at is) ∙ sym (sums.number_less known.told symbol number);
    free = λ known at more. free_by _ _ at.other refl;
    still = λ known at more by. one_stays known.told (term_of symbol 1) _ refl;
  }

  pub symbol_less : (symbol other : ℕ) → stands_for_itself (told map symbol) ≡ true → stands_for_itself (told map other) ≡ true
      → IsPlain map (Symbol symbol) (Minus (Symbol other)) (plain.Apart symbol other)
  symbol_less symbol other is more_is = record {
    form = λ known at more.
        ap (λ made. settled known.told (joined true made (form_of known.told other))) (itself map known symbol at is)
        ∙ (ap (λ made. settled known.told (joined true (symbol_form symbol) made)) (itself map known other more more_is)
        ∙ apart_by known.told (told map) symbol other (symbol == other) refl at.told more.told);
    free = λ known at more. apart_free (told map) known.place symbol other (symbol == other) refl at.other more.other;
    still = λ known at more by. apart_still known.told (told map) symbol other by at.told more.told;
  }
