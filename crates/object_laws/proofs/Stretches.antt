-- A label does not stand twice in what is left of a form, once added and once taken away: its stretch would cancel.
use Rattle.std.proofs.Common.{◌≡◌, ℕ, ◌+◌, ◌^◌, ◌==◌, ◌<◌, Bool, true, false, cond, List, [], ◌∷◌, ◌++◌, map, None, Some, refl, sym, ap, ◌∙◌, arith}
use Rattle.std.proofs.lemmas.Bool.Decides.{nat_tests}
use Rattle.std.proofs.lemmas.List.Sums.{sum_by-cons}
use Rattle.asm_expr.specs.declared.forms.Term.{Term}
use Rattle.asm_expr.specs.Forms.{Form, wrapped, term_of, constant_form}
use Rattle.asm_expr.specs.Knowledge.{Told, absent, constant, label, form}
use Rattle.asm_expr.specs.Settled.{spot_by, spot_of, counted_in, stretch_sum, cancelled_number, put_one, put_all, settled}
use Rattle.elf_object.specs.Relocations.{minus_one}

module _ (told : ℕ → Told) (stretch : ℕ) where
  -- how often the labels of the stretch count in terms
  abbrev pub labels : List Term → ℕ
  labels [] = 0
  labels (term ∷ terms) = counted_in stretch (spot_of told term) + labels terms

  labels_sum : (terms : List Term) → stretch_sum stretch (map (spot_of told) terms) ≡ labels terms
  labels_sum [] = refl
  labels_sum (term ∷ terms) =
      let one = sum_by-cons (counted_in stretch) (spot_of told term) (map (spot_of told) terms) in
      let later = labels_sum terms in
      omega arith

  labels_push : (terms : List Term) (term : Term) → labels (terms ++ (term ∷ [])) ≡ labels terms + counted_in stretch (spot_of told term)
  labels_push [] term = omega arith
  labels_push (first ∷ terms) term = let later = labels_push terms term in omega arith

  module _ (all : List Term) (goes : Bool) (is : (wrapped (stretch_sum stretch (map (spot_of told) all)) == 0) ≡ goes) where
    -- a label that stays counts, and one that goes does not
    put_label : (b : Bool) (made : Form) (term : Term) (other at : ℕ) → told term.symbol ≡ label other at → (wrapped (stretch_sum other (map (spot_of told) all)) == 0) ≡ b
        → labels (put_one made term (cond b (Some at) None)).terms ≡ labels made.terms + cond goes 0 (cond (other == stretch) term.coefficient 0)
    put_label b made term other at known cancels = by b (other == stretch) goes refl refl refl cancels
      where
        by : (b own g : Bool) → b ≡ b → (other == stretch) ≡ own → goes ≡ g → (wrapped (stretch_sum other (map (spot_of told) all)) == 0) ≡ b
            → labels (put_one made term (cond b (Some at) None)).terms ≡ labels made.terms + cond g 0 (cond own term.coefficient 0)
        by true true true _ own g cancels = omega arith
        by true true false _ own g cancels =
            let same : other ≡ stretch = grind (arith, nat_tests) in
            let there : (wrapped (stretch_sum stretch (map (spot_of told) all)) == 0) ≡ true = rw same at cancels in
            absurd (let e : false ≡ true = sym (is ∙ g) ∙ there in cc)
        by true false true _ own g cancels = omega arith
        by true false false _ own g cancels = omega arith
        by false true true _ own g cancels =
            let same : other ≡ stretch = grind (arith, nat_tests) in
            let there : (wrapped (stretch_sum stretch (map (spot_of told) all)) == 0) ≡ false = rw same at cancels in
            absurd (let e : true ≡ false = sym (is ∙ g) ∙ there in cc)
        by false true false _ own g cancels =
            labels_push made.terms term ∙ ap (λ (n : ℕ). labels made.terms + n) (ap (λ (t : Told). counted_in stretch (spot_by t term.coefficient)) known ∙ ap (λ (b : Bool). cond b term.coefficient 0) own)
        by false false true _ own g cancels =
            labels_push made.terms term ∙ ap (λ (n : ℕ). labels made.terms + n) (ap (λ (t : Told). counted_in stretch (spot_by t term.coefficient)) known ∙ ap (λ (b : Bool). cond b term.coefficient 0) own)
        by false false false _ own g cancels =
            labels_push made.terms term ∙ ap (λ (n : ℕ). labels made.terms + n) (ap (λ (t : Told). counted_in stretch (spot_by t term.coefficient)) known ∙ ap (λ (b : Bool). cond b term.coefficient 0) own)

    nothing_more : (n : ℕ) → n ≡ n + cond goes 0 0
    nothing_more n = by goes
      where
        by : (b : Bool) → n ≡ n + cond b 0 0
        by true = omega arith
        by false = omega arith

    put_term : (made : Form) (term : Term) (t : Told) → told term.symbol ≡ t
        → labels (put_one made term (cancelled_number (map (spot_of told) all) (spot_by t term.coefficient))).terms ≡ labels made.terms + cond goes 0 (counted_in stretch (spot_by t term.coefficient))
    put_term made term (label other at) known = put_label (wrapped (stretch_sum other (map (spot_of told) all)) == 0) made term other at known refl
    put_term made term absent known = stays known
      where
        stays : told term.symbol ≡ absent → labels (made.terms ++ (term ∷ [])) ≡ labels made.terms + cond goes 0 0
        stays known =
            labels_push made.terms term ∙ ap (λ (t : Told). labels made.terms + counted_in stretch (spot_by t term.coefficient)) known ∙ (let none = nothing_more (labels made.terms) in omega arith)
    put_term made term (constant number) known =
        labels_push made.terms term ∙ ap (λ (t : Told). labels made.terms + counted_in stretch (spot_by t term.coefficient)) known ∙ (let none = nothing_more (labels made.terms) in omega arith)
    put_term made term (form other) known =
        labels_push made.terms term ∙ ap (λ (t : Told). labels made.terms + counted_in stretch (spot_by t term.coefficient)) known ∙ (let none = nothing_more (labels made.terms) in omega arith)

    put_labels : (made : Form) (terms : List Term) → labels (put_all (map (spot_of told) all) told made terms).terms ≡ labels made.terms + cond goes 0 (labels terms)
    unfolding put_all
    put_labels made [] = nothing_more (labels made.terms)
    put_labels made (term ∷ terms) =
        let one = put_term made term (told term.symbol) refl in
        let later = put_labels (put_one made term (cancelled_number (map (spot_of told) all) (spot_of told term))) terms in
        later ∙ ap (λ (n : ℕ). n + cond goes 0 (labels terms)) one ∙ together goes (labels made.terms) (counted_in stretch (spot_of told term)) (labels terms)
      where
        together : (b : Bool) (before one more : ℕ) → before + cond b 0 one + cond b 0 more ≡ before + cond b 0 (one + more)
        together true before one more = omega arith
        together false before one more = omega arith

-- the labels of a stretch in a form that is left are all of them, or none
left_labels : (told : ℕ → Told) (stretch : ℕ) (made : Form) (goes : Bool) → (wrapped (labels told stretch made.terms) == 0) ≡ goes
    → labels told stretch (settled told made).terms ≡ cond goes 0 (labels told stretch made.terms)
unfolding settled
left_labels told stretch made goes is =
    let sums = labels_sum told stretch made.terms in
    let there : (wrapped (stretch_sum stretch (map (spot_of told) made.terms)) == 0) ≡ goes = rw sums is in
    let put = put_labels told stretch made.terms goes there (constant_form made.constant) made.terms in
    omega arith

-- the labels that are left do not cancel
left_stays : (told : ℕ → Told) (stretch : ℕ) (made : Form) → 0 < labels told stretch (settled told made).terms → wrapped (labels told stretch (settled told made).terms) ≡ 0 → ⊥
left_stays told stretch made some none = by (wrapped (labels told stretch made.terms) == 0) refl
  where
    by : (b : Bool) → (wrapped (labels told stretch made.terms) == 0) ≡ b → ⊥
    by true is = let left = left_labels told stretch made true is in omega arith
    by false is =
        let left = left_labels told stretch made false is in
        let zero : wrapped (labels told stretch made.terms) ≡ 0 = ap wrapped (sym left) ∙ none in
        let test : (wrapped (labels told stretch made.terms) == 0) ≡ true = grind (arith, nat_tests) in
        absurd cc

-- a label and the same label taken away are not what is left of a form
pub not_itself : (told : ℕ → Told) (made : Form) (index stretch at : ℕ) → told index ≡ label stretch at
    → labels told stretch (settled told made).terms ≡ labels told stretch (term_of index 1 ∷ term_of index minus_one ∷ []) → ⊥
not_itself told made index stretch at known is =
    let self : (stretch == stretch) ≡ true = grind (arith, nat_tests) in
    let all : labels told stretch (term_of index 1 ∷ term_of index minus_one ∷ []) ≡ 2 ^ 64 = rw (known, self) refl in
    left_stays told stretch made (omega arith) (ap wrapped (is ∙ all))
