-- The fields of pointers to one symbol.
use Rattle.std.proofs.Common.{◌≡◌, ℕ, ◌-◌, ◌^◌, ◌==◌, Bool, true, false, List, [], ◌∷◌, ap, ◌∙◌, refl, arith}
use Rattle.std.specs.Prelude.{if◌then◌else◌}
use Rattle.std.proofs.lemmas.Bool.Decides.{nat_tests}
use Rattle.asm_expr.specs.declared.forms.Term.{Term}
use Rattle.asm_expr.specs.Forms.{Form, term_of, symbol_form, with_term, with_terms, plus_times}
use Rattle.asm_frags.specs.Fields.{own_place}
use Rattle.cfi_rows.specs.Pointers.{is_relative}
use Rattle.eh_frame.specs.Commons.{pointer_field, pointer_form}
use Rattle.piece_laws.specs.Pointers.{one_symbol, OneSymbolsStay}
use Rattle.frame_laws.specs.NamedSymbols.{SymbolsAreNamed}

-- one symbol and a number, less the own place or not
terms_are : (own : Bool) (symbol constant : ℕ) → (symbol == own_place) ≡ false → (let target : Form = record { terms = term_of symbol 1 ∷ []; constant = constant } in
    (if own then plus_times target (2 ^ 64 - 1) (symbol_form own_place) else target).terms ≡ one_symbol symbol own)
unfolding plus_times with_terms with_term
terms_are true symbol constant apart = rw apart refl
terms_are false symbol constant apart = refl

pub symbols_are_named : OneSymbolsStay → SymbolsAreNamed
symbols_are_named stays map laid number section offset pointer symbol leads held =
    let apart : (symbol == own_place) ≡ false = (let few = leads.few in let there = leads.there in grind (arith, nat_tests)) in
    let own : Bool = is_relative pointer.encoding in
    let target : Form = pointer.target in
    let is : (pointer_form pointer).terms ≡ one_symbol symbol own =
    ap (λ (terms : List Term). (pointer_form (record pointer { target = record target { terms = terms } })).terms) leads.terms ∙ terms_are own symbol target.constant apart in
    ap (λ (form : Form). form.terms)
    (stays map laid number section offset (pointer_field pointer.encoding) (pointer_form pointer) symbol own leads.few leads.unassigned is held) ∙ is
