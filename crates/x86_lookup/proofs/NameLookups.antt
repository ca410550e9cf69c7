-- One look finds the mnemonic that the list has.
use Rattle.std.proofs.Common.{◌≡◌, ◌<◌, ℕ, ◌+◌, ◌*◌, ◌%◌, ◌^◌, List, [], ◌∷◌, true, Option, Some, None, slice_get, refl, arith, zero, suc, sym, ap, subst, ◌∙◌, inl, inr}
use Rattle.std.proofs.lemmas.Bool.{and_parts, eqb-true, cases_Bool, cases_order}
use Rattle.std.proofs.lemmas.Str.Ascii.{lowercase_is}
use Rattle.std.specs.Char.{to_ascii_lowercase}
use Rattle.std.specs.List.{find}
use Rattle.std.specs.Str.{str_eq_ignore_ascii_case, str_to_ascii_lowercase}
use Rattle.std.specs.Cmp.Lexicographic.{bytes_decides}
use Rattle.x86_lookup.specs.declared.names.Named.{Named}
use Rattle.x86_lookup.specs.Names.{the_att_names, the_intel_names, the_att_slots, the_intel_slots, text_of, has_text, mixed, slot_at, slot_of, if_text, name_at, name_by, is_index, all_placed}

att_placed : all_placed the_att_slots 0 the_att_names ≡ true
unfolding the_att_slots the_att_names slot_of
att_placed = refl

intel_placed : all_placed the_intel_slots 0 the_intel_names ≡ true
unfolding the_intel_slots the_intel_names slot_of
intel_placed = refl

some_is : {A : Type 0} {m n : A} → Some m ≡ Some n → m ≡ n
some_is h = cc

-- a text is itself in either case
pub same_text : (text own : List ℕ) → text ≡ own → true ≡ str_eq_ignore_ascii_case text own
same_text text own e = sym ((bytes_decides (str_to_ascii_lowercase text) (str_to_ascii_lowercase own)).1 (ap str_to_ascii_lowercase e))

-- letters of both cases have one hash
same_letter : (c : ℕ) → to_ascii_lowercase c % 32 ≡ c % 32
same_letter c = elim (cases_order c 65) [
  | inl e ↦ (let lower : to_ascii_lowercase c ≡ c + 32 = (lowercase_is c).0 (omega arith, omega arith) in rw lower (omega arith))
  | inr (inl lt) ↦ ap (λ n. n % 32) ((lowercase_is c).1 lt)
  | inr (inr gt) ↦ (elim (cases_order 90 c) [
    | inl e ↦ (let lower : to_ascii_lowercase c ≡ c + 32 = (lowercase_is c).0 (omega arith, omega arith) in rw lower (omega arith))
    | inr (inl above) ↦ ap (λ n. n % 32) ((lowercase_is c).2 above)
    | inr (inr below) ↦ (let lower : to_ascii_lowercase c ≡ c + 32 = (lowercase_is c).0 (omega arith, omega arith) in rw lower (omega arith))
  ])
]

mixed-lowercase : (hash : ℕ) (text : List ℕ) → mixed hash (str_to_ascii_lowercase text) ≡ mixed hash text
mixed-lowercase hash [] = refl
mixed-lowercase hash (c ∷ text) =
    ap (λ (low : ℕ). mixed ((hash + low) % 2 ^ 64 * 11400714819323198485 % 2 ^ 64) (str_to_ascii_lowercase text)) (same_letter c)
    ∙ mixed-lowercase ((hash + c % 32) % 2 ^ 64 * 11400714819323198485 % 2 ^ 64) text

-- texts that differ in case alone have one index
one_slot : (slots text other : List ℕ) → str_eq_ignore_ascii_case text other ≡ true → slot_of slots text ≡ slot_of slots other
unfolding slot_of
one_slot slots text other h =
    let lower = (bytes_decides (str_to_ascii_lowercase text) (str_to_ascii_lowercase other)).0 h in
    ap (slot_at slots) (sym (mixed-lowercase 0 text) ∙ ap (mixed 0) lower ∙ mixed-lowercase 0 other)

index_is : (found : Option ℕ) (i : ℕ) → is_index found i ≡ true → found ≡ Some i
index_is None i h = cc
index_is (Some k) i h = ap Some (eqb-true k i h)

-- a mnemonic with the text stands at the text's index
at_index : (slots text : List ℕ) (named : Named) (i : ℕ) → is_index (slot_of slots (text_of named)) i ≡ true → has_text text named ≡ true → slot_of slots text ≡ Some i
at_index slots text named i h t = one_slot slots text (text_of named) t ∙ index_is (slot_of slots (text_of named)) i h

none_behind : (slots text : List ℕ) (names : List Named) (i k : ℕ) → all_placed slots i names ≡ true → slot_of slots text ≡ Some k → k < i → find (has_text text) names ≡ None
none_behind slots text [] i k a s l = refl
none_behind slots text (named ∷ names) i k a s l =
    let p = and_parts (is_index (slot_of slots (text_of named)) i) (all_placed slots (i + 1) names) a in
    elim (cases_Bool (has_text text named)) [
      | inl t ↦ (let same : k ≡ i = some_is (sym s ∙ at_index slots text named i p.0 t) in absurd (omega arith))
      | inr f ↦ rw f (none_behind slots text names (i + 1) k p.1 s (omega arith))
    ]

found_at : (slots text : List ℕ) (names : List Named) (i j k : ℕ) → all_placed slots i names ≡ true → slot_of slots text ≡ Some k → k ≡ i + j → find (has_text text) names ≡ if_text text (slice_get names j)
found_at slots text [] i j k a s e = refl
found_at slots text (named ∷ names) i zero k a s e =
    let p = and_parts (is_index (slot_of slots (text_of named)) i) (all_placed slots (i + 1) names) a in
    elim (cases_Bool (has_text text named)) [
      | inl t ↦ rw t refl
      | inr f ↦ rw f (none_behind slots text names (i + 1) k p.1 s (omega arith))
    ]
found_at slots text (named ∷ names) i (suc j) k a s e =
    let p = and_parts (is_index (slot_of slots (text_of named)) i) (all_placed slots (i + 1) names) a in
    elim (cases_Bool (has_text text named)) [
      | inl t ↦ (let same : k ≡ i = some_is (sym s ∙ at_index slots text named i p.0 t) in absurd (omega arith))
      | inr f ↦ rw f (found_at slots text names (i + 1) j k p.1 s (omega arith))
    ]

none_at : (slots text : List ℕ) (names : List Named) (i : ℕ) → all_placed slots i names ≡ true → slot_of slots text ≡ None → find (has_text text) names ≡ None
none_at slots text [] i a s = refl
none_at slots text (named ∷ names) i a s =
    let p = and_parts (is_index (slot_of slots (text_of named)) i) (all_placed slots (i + 1) names) a in
    elim (cases_Bool (has_text text named)) [
      | inl t ↦ (let bad : None ≡ Some i = sym s ∙ at_index slots text named i p.0 t in cc)
      | inr f ↦ rw f (none_at slots text names (i + 1) p.1 s)
    ]

found_by : (names : List Named) (slots text : List ℕ) (found : Option ℕ) → all_placed slots 0 names ≡ true → slot_of slots text ≡ found → name_at names text found ≡ find (has_text text) names
found_by names slots text None a s = sym (none_at slots text names 0 a s)
found_by names slots text (Some k) a s = sym (found_at slots text names 0 k k a s (omega arith))

found : (names : List Named) (slots text : List ℕ) → all_placed slots 0 names ≡ true → name_by names slots text ≡ find (has_text text) names
unfolding slot_of
found names slots text a = found_by names slots text (slot_of slots text) a refl

pub att_found : (text : List ℕ) → name_by the_att_names the_att_slots text ≡ find (has_text text) the_att_names
att_found text = found the_att_names the_att_slots text att_placed

pub intel_found : (text : List ℕ) → name_by the_intel_names the_intel_slots text ≡ find (has_text text) the_intel_names
intel_found text = found the_intel_names the_intel_slots text intel_placed

-- each mnemonic stands at the index by its text
placed_at : (slots : List ℕ) (names : List Named) (i j k : ℕ) (named : Named) → all_placed slots i names ≡ true → slice_get names j ≡ Some named → k ≡ i + j
    → is_index (slot_of slots (text_of named)) k ≡ true
placed_at slots [] i j k named a e s = cc
placed_at slots (one ∷ names) i zero k named a e s =
    let p = and_parts (is_index (slot_of slots (text_of one)) i) (all_placed slots (i + 1) names) a in
    let here : i ≡ k = omega arith in
    let own : is_index (slot_of slots (text_of named)) i ≡ true = subst (λ (n : Named). is_index (slot_of slots (text_of n)) i ≡ true) (some_is e) p.0 in
    subst (λ (n : ℕ). is_index (slot_of slots (text_of named)) n ≡ true) here own
placed_at slots (one ∷ names) i (suc j) k named a e s =
    let p = and_parts (is_index (slot_of slots (text_of one)) i) (all_placed slots (i + 1) names) a in
    placed_at slots names (i + 1) j k named p.1 e (omega arith)

-- no two mnemonics have one text: each is found by its own
pub att_whole : (i : ℕ) (named : Named) (text : List ℕ) → slice_get the_att_names i ≡ Some named → has_text text named ≡ true → find (has_text text) the_att_names ≡ Some named
att_whole i named text e t =
    let slot : slot_of the_att_slots text ≡ Some i = at_index the_att_slots text named i (placed_at the_att_slots the_att_names 0 i i named att_placed e (omega arith)) t in
    found_at the_att_slots text the_att_names 0 i i att_placed slot (omega arith) ∙ ap (if_text text) e ∙ rw t refl
