-- One look finds the register that the list of names has.
use Rattle.std.proofs.Common.{◌≡◌, ◌<◌, ℕ, zero, suc, ◌==◌, ◌&&◌, List, [], ◌∷◌, Bool, true, false, not, nat_lt, eq-eqb, subst, cond, Option, Some, None, option_map, map, get_or, slice_get, refl, sym, ap, ◌∙◌, arith, inl, inr}
use Rattle.std.proofs.lemmas.Bool.{and_parts, eqb-true, ltb-true, cases_Bool}
use Rattle.std.proofs.lemmas.Str.Ascii.{lowercase_is, lowercase-lowercase}
use Rattle.std.specs.Cmp.{both_ways}
use Rattle.std.specs.List.{find, list_all}
use Rattle.std.specs.Char.{to_ascii_lowercase}
use Rattle.std.specs.Str.{str_to_ascii_lowercase}
use Rattle.std.specs.Cmp.Lexicographic.{bytes_decides}
use Rattle.att_operands.specs.declared.registers.NamedRegister.{NamedRegister}
use Rattle.att_operands.specs.declared.registers.RegisterSlot.{RegisterSlot}
use Rattle.att_operands.specs.Registers.{RegisterName, register_names, has_text, register_of}
use Rattle.att_operands.specs.Slots.{the_slots, number_of, key_of, slot_of, if_key, held_by}

-- what the first name of this number names
abbrev named_by : ℕ → List RegisterName → Option NamedRegister
named_by key [] = None
named_by key (name ∷ names) = cond (key_of name.text == key) (Some name.named) (named_by key names)

-- each name stands in the slot of its number
placed : map (λ (name : RegisterName). slice_get the_slots (slot_of (key_of name.text))) register_names
    ≡ map (λ (name : RegisterName). let slot : RegisterSlot = (key_of name.text, name.named) in Some slot) register_names
unfolding the_slots register_names slot_of number_of
placed = refl

-- what a slot has is a name of its number, or it has none
listed : map (λ (slot : RegisterSlot). named_by slot.0 register_names) the_slots
    ≡ map (λ (slot : RegisterSlot). cond (slot.0 == 0) None (Some slot.1)) the_slots
unfolding the_slots register_names number_of
listed = refl

none_unnumbered : named_by 0 register_names ≡ None
unfolding register_names number_of
none_unnumbered = refl

same_at : {A B : Type 0} (f g : A → B) (xs : List A) (i : ℕ) (x : A) → map f xs ≡ map g xs → slice_get xs i ≡ Some x → f x ≡ g x
same_at f g [] i x all is = cc
same_at f g (y ∷ xs) zero x all is = let same : y ≡ x = cc in let heads : f y ≡ g y = cc in cc
same_at f g (y ∷ xs) (suc i) x all is = let tails : map f xs ≡ map g xs = cc in same_at f g xs i x tails is

-- where the slot has another number, no name has the number
none_named : (key : ℕ) (names : List RegisterName)
    → map (λ (name : RegisterName). slice_get the_slots (slot_of (key_of name.text))) names
    ≡ map (λ (name : RegisterName). let slot : RegisterSlot = (key_of name.text, name.named) in Some slot) names
    → if_key key (slice_get the_slots (slot_of key)) ≡ None → named_by key names ≡ None
none_named key [] all none = refl
none_named key (name ∷ names) all none =
    elim (cases_Bool (key_of name.text == key)) [
      | inl t ↦ absurd (
          let same : key_of name.text ≡ key = eqb-true (key_of name.text) key t in
          let slot : RegisterSlot = (key_of name.text, name.named) in
          let here : slice_get the_slots (slot_of (key_of name.text)) ≡ Some slot = cc in
          let there : slice_get the_slots (slot_of key) ≡ Some slot = subst (λ (k : ℕ). slice_get the_slots (slot_of k) ≡ Some slot) same here in
          let some : if_key key (slice_get the_slots (slot_of key)) ≡ Some name.named = rw there (rw t refl) in
          cc)
      | inr f ↦ (let tails : map (λ (name : RegisterName). slice_get the_slots (slot_of (key_of name.text))) names
          ≡ map (λ (name : RegisterName). let slot : RegisterSlot = (key_of name.text, name.named) in Some slot) names = cc in rw f (none_named key names tails none))
    ]

-- what is held in a slot, by what the slot has
held_at : (key : ℕ) (found : Option RegisterSlot) → (key == 0) ≡ false → slice_get the_slots (slot_of key) ≡ found → if_key key found ≡ named_by key register_names
held_at key None some at = sym (none_named key register_names placed (rw at refl))
held_at key (Some slot) some at =
    elim (cases_Bool (slot.0 == key)) [
      | inl t ↦ (
          let same : slot.0 ≡ key = eqb-true slot.0 key t in
          let both = same_at (λ (slot : RegisterSlot). named_by slot.0 register_names) (λ (slot : RegisterSlot). cond (slot.0 == 0) None (Some slot.1)) the_slots (slot_of key) slot listed at in
          let filled : (slot.0 == 0) ≡ false = rw same some in
          rw t (rw (← same) (sym (rw filled at both))))
      | inr f ↦ rw f (sym (none_named key register_names placed (rw at (rw f refl))))
    ]

-- what is held by a number is what the first name of the number names
held_is : (key : ℕ) → held_by key ≡ named_by key register_names
held_is key = elim (cases_Bool (key == 0)) [
  | inl z ↦ (let zero_is : key ≡ 0 = eqb-true key 0 z in rw zero_is (sym none_unnumbered))
  | inr s ↦ rw s (held_at key (slice_get the_slots (slot_of key)) s refl)
]

-- each of them is a byte
abbrev AreBytes : List ℕ → Type 0
AreBytes [] = Unit {0}
AreBytes (byte ∷ bytes) = (byte < 256) × AreBytes bytes

-- texts of one number are one text
one_text : (one other : List ℕ) → AreBytes one → AreBytes other → (number_of other ≡ 0 → ⊥) → number_of one ≡ number_of other → one ≡ other
unfolding number_of
one_text [] other p q some is = absurd (some (sym is))
one_text (a ∷ []) other p q some is = absurd (some (sym is))
one_text (a ∷ b ∷ []) [] p q some is = absurd (some refl)
one_text (a ∷ b ∷ []) (v ∷ []) p q some is = absurd (some refl)
one_text (a ∷ b ∷ []) (v ∷ w ∷ []) p q some is = let same_a : a ≡ v = omega arith in let same_b : b ≡ w = omega arith in cc
one_text (a ∷ b ∷ []) (v ∷ w ∷ x ∷ []) p q some is = absurd (omega arith)
one_text (a ∷ b ∷ []) (v ∷ w ∷ x ∷ y ∷ []) p q some is = absurd (omega arith)
one_text (a ∷ b ∷ []) (v ∷ w ∷ x ∷ y ∷ z ∷ []) p q some is = absurd (omega arith)
one_text (a ∷ b ∷ []) (v ∷ w ∷ x ∷ y ∷ z ∷ more ∷ others) p q some is = absurd (some refl)
one_text (a ∷ b ∷ c ∷ []) [] p q some is = absurd (some refl)
one_text (a ∷ b ∷ c ∷ []) (v ∷ []) p q some is = absurd (some refl)
one_text (a ∷ b ∷ c ∷ []) (v ∷ w ∷ []) p q some is = absurd (omega arith)
one_text (a ∷ b ∷ c ∷ []) (v ∷ w ∷ x ∷ []) p q some is = let same_a : a ≡ v = omega arith in let same_b : b ≡ w = omega arith in let same_c : c ≡ x = omega arith in cc
one_text (a ∷ b ∷ c ∷ []) (v ∷ w ∷ x ∷ y ∷ []) p q some is = absurd (omega arith)
one_text (a ∷ b ∷ c ∷ []) (v ∷ w ∷ x ∷ y ∷ z ∷ []) p q some is = absurd (omega arith)
one_text (a ∷ b ∷ c ∷ []) (v ∷ w ∷ x ∷ y ∷ z ∷ more ∷ others) p q some is = absurd (some refl)
one_text (a ∷ b ∷ c ∷ d ∷ []) [] p q some is = absurd (some refl)
one_text (a ∷ b ∷ c ∷ d ∷ []) (v ∷ []) p q some is = absurd (some refl)
one_text (a ∷ b ∷ c ∷ d ∷ []) (v ∷ w ∷ []) p q some is = absurd (omega arith)
one_text (a ∷ b ∷ c ∷ d ∷ []) (v ∷ w ∷ x ∷ []) p q some is = absurd (omega arith)
one_text (a ∷ b ∷ c ∷ d ∷ []) (v ∷ w ∷ x ∷ y ∷ []) p q some is = let same_a : a ≡ v = omega arith in let same_b : b ≡ w = omega arith in let same_c : c ≡ x = omega arith in let same_d : d ≡ y = omega arith in cc
one_text (a ∷ b ∷ c ∷ d ∷ []) (v ∷ w ∷ x ∷ y ∷ z ∷ []) p q some is = absurd (omega arith)
one_text (a ∷ b ∷ c ∷ d ∷ []) (v ∷ w ∷ x ∷ y ∷ z ∷ more ∷ others) p q some is = absurd (some refl)
one_text (a ∷ b ∷ c ∷ d ∷ e ∷ []) [] p q some is = absurd (some refl)
one_text (a ∷ b ∷ c ∷ d ∷ e ∷ []) (v ∷ []) p q some is = absurd (some refl)
one_text (a ∷ b ∷ c ∷ d ∷ e ∷ []) (v ∷ w ∷ []) p q some is = absurd (omega arith)
one_text (a ∷ b ∷ c ∷ d ∷ e ∷ []) (v ∷ w ∷ x ∷ []) p q some is = absurd (omega arith)
one_text (a ∷ b ∷ c ∷ d ∷ e ∷ []) (v ∷ w ∷ x ∷ y ∷ []) p q some is = absurd (omega arith)
one_text (a ∷ b ∷ c ∷ d ∷ e ∷ []) (v ∷ w ∷ x ∷ y ∷ z ∷ []) p q some is = let same_a : a ≡ v = omega arith in let same_b : b ≡ w = omega arith in let same_c : c ≡ x = omega arith in let same_d : d ≡ y = omega arith in let same_e : e ≡ z = omega arith in cc
one_text (a ∷ b ∷ c ∷ d ∷ e ∷ []) (v ∷ w ∷ x ∷ y ∷ z ∷ more ∷ others) p q some is = absurd (some refl)
one_text (a ∷ b ∷ c ∷ d ∷ e ∷ more ∷ others) other p q some is = absurd (some (sym is))

low_byte : (byte : ℕ) → byte < 256 → to_ascii_lowercase byte < 256
low_byte byte fits = grind (arith, lowercase_is byte)

-- bytes in lower case are bytes
lower_bytes : (text : List ℕ) → ((i : ℕ) → get_or text i 0 < 256) → AreBytes (str_to_ascii_lowercase text)
lower_bytes [] fits = tt
lower_bytes (byte ∷ bytes) fits = (low_byte byte (fits 0), lower_bytes bytes (λ i. fits (suc i)))

are_bytes : (bytes : List ℕ) → list_all (λ byte. nat_lt byte 256) bytes ≡ true → AreBytes bytes
are_bytes [] all = tt
are_bytes (byte ∷ bytes) all = let parts = and_parts (nat_lt byte 256) (list_all (λ byte. nat_lt byte 256) bytes) all in (ltb-true byte 256 parts.0, are_bytes bytes parts.1)

-- the name has a number, and its text in lower case is of bytes
abbrev is_short : RegisterName → Bool
is_short name = not (key_of name.text == 0) && list_all (λ byte. nat_lt byte 256) (str_to_ascii_lowercase name.text)

all_short : list_all is_short register_names ≡ true
unfolding register_names number_of
all_short = refl

-- the first name of a text's number is the first of the text
named_is : (text : List ℕ) (names : List RegisterName) → AreBytes (str_to_ascii_lowercase text) → list_all is_short names ≡ true
    → named_by (key_of text) names ≡ option_map (λ (name : RegisterName). name.named) (find (has_text text) names)
named_is text [] bytes all = refl
named_is text (name ∷ names) bytes all =
    let parts = and_parts (is_short name) (list_all is_short names) all in
    let own = and_parts (not (key_of name.text == 0)) (list_all (λ byte. nat_lt byte 256) (str_to_ascii_lowercase name.text)) parts.0 in
    let decides = bytes_decides (str_to_ascii_lowercase text) (str_to_ascii_lowercase name.text) in
    let numbered : key_of name.text ≡ 0 → ⊥ = (λ none. absurd (let zero : (key_of name.text == 0) ≡ true = rw none refl in let bad : not true ≡ true = rw zero at own.0 in cc)) in
    let later = named_is text names bytes parts.1 in
    let same : (key_of name.text == key_of text) ≡ has_text text name = both_ways (key_of name.text == key_of text) (has_text text name)
    (λ t. decides.1 (one_text (str_to_ascii_lowercase text) (str_to_ascii_lowercase name.text) bytes (are_bytes (str_to_ascii_lowercase name.text) own.1) numbered (sym (eqb-true (key_of name.text) (key_of text) t))))
    (λ t. eq-eqb (key_of name.text) (key_of text) (ap number_of (sym (decides.0 t)))) in
    elim (cases_Bool (has_text text name)) [
      | inl t ↦ rw (same, t) refl
      | inr f ↦ rw (same, f) later
    ]

-- what is held by the number of a text is what the text names
pub register_found : (text : List ℕ) → ((i : ℕ) → get_or text i 0 < 256) → held_by (key_of text) ≡ register_of text
unfolding register_of
register_found text fits = held_is (key_of text) ∙ named_is text register_names (lower_bytes text fits) all_short

text_bytes : (text : List ℕ) → ((i : ℕ) → get_or text i 0 < 256) → AreBytes text
text_bytes [] fits = tt
text_bytes (byte ∷ bytes) fits = (fits 0, text_bytes bytes (λ i. fits (suc i)))

lower_twice : (text : List ℕ) → str_to_ascii_lowercase (str_to_ascii_lowercase text) ≡ str_to_ascii_lowercase text
lower_twice [] = refl
lower_twice (byte ∷ bytes) = let first = lowercase-lowercase byte in let rest = lower_twice bytes in cc

-- a text whose own number is that of a name is in lower case
lower_already : (text : List ℕ) (named : NamedRegister) (names : List RegisterName) → AreBytes text → list_all is_short names ≡ true
    → named_by (number_of text) names ≡ Some named → str_to_ascii_lowercase text ≡ text
lower_already text named [] bytes all some = cc
lower_already text named (name ∷ names) bytes all some =
    let parts = and_parts (is_short name) (list_all is_short names) all in
    let own = and_parts (not (key_of name.text == 0)) (list_all (λ byte. nat_lt byte 256) (str_to_ascii_lowercase name.text)) parts.0 in
    let numbered : key_of name.text ≡ 0 → ⊥ = (λ none. absurd (let zero : (key_of name.text == 0) ≡ true = rw none refl in let bad : not true ≡ true = rw zero at own.0 in cc)) in
    elim (cases_Bool (key_of name.text == number_of text)) [
      | inl t ↦ (
          let same : text ≡ str_to_ascii_lowercase name.text =
          one_text text (str_to_ascii_lowercase name.text) bytes (are_bytes (str_to_ascii_lowercase name.text) own.1) numbered (sym (eqb-true (key_of name.text) (number_of text) t)) in
          ap str_to_ascii_lowercase same ∙ lower_twice name.text ∙ sym same)
      | inr f ↦ lower_already text named names bytes parts.1 (rw f at some)
    ]

-- what is held by the own number of a text is what the text names
pub own_found : (text : List ℕ) (named : NamedRegister) → ((i : ℕ) → get_or text i 0 < 256) → held_by (number_of text) ≡ Some named → Some named ≡ register_of text
own_found text named fits found =
    let low = lower_already text named register_names (text_bytes text fits) all_short (sym (held_is (number_of text)) ∙ found) in
    sym found ∙ ap (λ (t : List ℕ). held_by (number_of t)) (sym low) ∙ register_found text fits
