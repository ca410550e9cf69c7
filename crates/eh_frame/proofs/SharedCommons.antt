-- Procedures share a CIE exactly where they have one personality, and their pointers are written alike.
use Rattle.std.proofs.Common.{◌≡◌, ℕ, ◌==◌, ◌&&◌, Bool, true, false, List, [], ◌∷◌, Option, None, Some, refl, sym, ap, ◌∙◌, arith, eqb-true}
use Rattle.std.proofs.lemmas.Bool.Decides.{nat_tests}
use Rattle.std.proofs.lemmas.Option.{same_Some}
use Rattle.asm_expr.specs.declared.forms.Term.{Term}
use Rattle.asm_expr.specs.Forms.{Form}
use Rattle.cfi_directives.specs.declared.frames.Frame.{Frame}
use Rattle.cfi_directives.specs.declared.frames.Pointer.{Pointer}
use Rattle.cfi_rows.specs.declared.commons.CommonForm.{CommonForm}
use Rattle.cfi_rows.specs.declared.pointers.PointerEncoding.{PointerEncoding}
use Rattle.cfi_rows.specs.declared.pointers.PointerEncoding.TheVariants.{Absolute8, Unsigned4, Signed4, Relative4, Indirect4, Relative8, Indirect8}
use Rattle.cfi_rows.specs.Pointers.{encoding_byte, encoding_of}
use Rattle.eh_frame.specs.Commons.{encoding_if, form_of, same_term, same_terms, same_form, same_encoding, same_pointer, share_common}
use Rattle.eh_frame.specs.Sharing.{SharingIsEquality}

-- WHAT IS TOLD ALIKE IS THE SAME

-- both sides of a test that holds
both : (a b : Bool) → (a && b) ≡ true → (a ≡ true) × (b ≡ true)
both true b is = (refl, is)
both false b is = absurd (let none : ⊥ = cc in none)

-- a byte says one encoding
byte_says : (encoding : PointerEncoding) → encoding_of (encoding_byte encoding) ≡ Some encoding
unfolding encoding_of
byte_says Absolute8 = refl
byte_says Unsigned4 = refl
byte_says Signed4 = refl
byte_says Relative4 = refl
byte_says Indirect4 = refl
byte_says Relative8 = refl
byte_says Indirect8 = refl

encoding_same : (one other : PointerEncoding) → (encoding_byte one == encoding_byte other) ≡ true → one ≡ other
encoding_same one other is =
    same_Some one other (sym (byte_says one) ∙ ap encoding_of (eqb-true (encoding_byte one) (encoding_byte other) is) ∙ byte_says other)

encodings_same : (one other : Option PointerEncoding) → same_encoding one other ≡ true → one ≡ other
encodings_same None None is = refl
encodings_same None (Some other) is = absurd (let none : ⊥ = cc in none)
encodings_same (Some one) None is = absurd (let none : ⊥ = cc in none)
encodings_same (Some one) (Some other) is = ap (λ e. Some e) (encoding_same one other is)

term_same : (one other : Term) → same_term one other ≡ true → one ≡ other
term_same one other is =
    let parts = both (one.symbol == other.symbol) (one.coefficient == other.coefficient) is in
    ap (λ symbol. record one { symbol = symbol }) (eqb-true one.symbol other.symbol parts.0)
    ∙ ap (λ coefficient. record other { coefficient = coefficient }) (eqb-true one.coefficient other.coefficient parts.1)

terms_same : (terms others : List Term) → same_terms terms others ≡ true → terms ≡ others
terms_same [] [] is = refl
terms_same [] (other ∷ others) is = absurd (let none : ⊥ = cc in none)
terms_same (one ∷ terms) [] is = absurd (let none : ⊥ = cc in none)
terms_same (one ∷ terms) (other ∷ others) is =
    let parts = both (same_term one other) (same_terms terms others) is in
    ap (λ first. first ∷ terms) (term_same one other parts.0) ∙ ap (λ rest. other ∷ rest) (terms_same terms others parts.1)

form_same : (one other : Form) → same_form one other ≡ true → one ≡ other
form_same one other is =
    let parts = both (one.constant == other.constant) (same_terms one.terms other.terms) is in
    ap (λ constant. record one { constant = constant }) (eqb-true one.constant other.constant parts.0)
    ∙ ap (λ terms. record other { terms = terms }) (terms_same one.terms other.terms parts.1)

pointers_same : (one other : Option Pointer) → same_pointer one other ≡ true → one ≡ other
pointers_same None None is = refl
pointers_same None (Some other) is = absurd (let none : ⊥ = cc in none)
pointers_same (Some one) None is = absurd (let none : ⊥ = cc in none)
pointers_same (Some one) (Some other) is =
    let parts = both (encoding_byte one.encoding == encoding_byte other.encoding) (same_form one.target other.target) is in
    ap (λ encoding. Some (record one { encoding = encoding })) (encoding_same one.encoding other.encoding parts.0)
    ∙ ap (λ target. Some (record other { target = target })) (form_same one.target other.target parts.1)

personality_same : (one other : Frame) → share_common one other ≡ true → one.personality ≡ other.personality
personality_same one other is =
    pointers_same one.personality other.personality
    (both (same_encoding (encoding_if one.lsda) (encoding_if other.lsda)) (same_pointer one.personality other.personality) is).1

forms_same : (one other : Frame) → share_common one other ≡ true → form_of one ≡ form_of other
forms_same one other is =
    let parts = both (same_encoding (encoding_if one.lsda) (encoding_if other.lsda)) (same_pointer one.personality other.personality) is in
    ap (λ (p : Option Pointer). record (form_of one) { personality = encoding_if p }) (pointers_same one.personality other.personality parts.1)
    ∙ ap (λ lsda. record (form_of other) { lsda = lsda }) (encodings_same (encoding_if one.lsda) (encoding_if other.lsda) parts.0)

-- AND THE OTHER WAY ROUND

-- both sides hold
and_both : (a b : Bool) → a ≡ true → b ≡ true → (a && b) ≡ true
and_both a b one other = ap (λ a. a && b) one ∙ other

number_self : (n : ℕ) → (n == n) ≡ true
number_self n = grind (arith, nat_tests)

terms_self : (terms : List Term) → same_terms terms terms ≡ true
terms_self [] = refl
terms_self (term ∷ terms) =
    and_both (same_term term term) (same_terms terms terms)
    (and_both (term.symbol == term.symbol) (term.coefficient == term.coefficient) (number_self term.symbol) (number_self term.coefficient)) (terms_self terms)

encoding_self : (encoding : Option PointerEncoding) → same_encoding encoding encoding ≡ true
encoding_self None = refl
encoding_self (Some encoding) = number_self (encoding_byte encoding)

pointer_self : (pointer : Option Pointer) → same_pointer pointer pointer ≡ true
pointer_self None = refl
pointer_self (Some pointer) =
    and_both (encoding_byte pointer.encoding == encoding_byte pointer.encoding) (same_form pointer.target pointer.target) (number_self (encoding_byte pointer.encoding))
    (and_both (pointer.target.constant == pointer.target.constant) (same_terms pointer.target.terms pointer.target.terms) (number_self pointer.target.constant)
    (terms_self pointer.target.terms))

shared_from : (one other : Frame) → one.personality ≡ other.personality → form_of one ≡ form_of other → share_common one other ≡ true
shared_from one other personality form =
    and_both (same_encoding (encoding_if one.lsda) (encoding_if other.lsda)) (same_pointer one.personality other.personality)
    (ap (λ (form : CommonForm). same_encoding (encoding_if one.lsda) form.lsda) (sym form) ∙ encoding_self (encoding_if one.lsda))
    (ap (same_pointer one.personality) (sym personality) ∙ pointer_self one.personality)

pub sharing_is_equality : SharingIsEquality
sharing_is_equality one other =
    ((λ shared. (personality_same one other shared, forms_same one other shared)), (λ same. shared_from one other same.0 same.1))

-- procedures that share a CIE share it with the same others
pub shared_alike : (one frame other : Frame) → share_common frame other ≡ true → share_common one frame ≡ share_common one other
shared_alike one frame other shared =
    ap (λ (form : CommonForm). same_encoding (encoding_if one.lsda) form.lsda && same_pointer one.personality frame.personality) (forms_same frame other shared)
    ∙ ap (λ (p : Option Pointer). same_encoding (encoding_if one.lsda) (encoding_if other.lsda) && same_pointer one.personality p) (personality_same frame other shared)

-- each shares its own
pub shared_self : (frame : Frame) → share_common frame frame ≡ true
shared_self frame = shared_from frame frame refl refl
