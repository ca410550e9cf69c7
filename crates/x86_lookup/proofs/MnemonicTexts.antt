-- The mnemonics of AT&T syntax are complete: the rows' own names are among them, and a letter fixes the size of each that fixes none.
use Rattle.std.proofs.Common.{◌≡◌, ℕ, ◌+◌, ◌-◌, ◌==◌, ◌&&◌, ◌||◌, List, [], ◌∷◌, ◌++◌, take, length, map, Bool, true, false, not, cond, Option, Some, None, option_map, slice_get, refl, arith, zero, suc, sym, ap, subst, ◌∙◌, inl, inr, length-append}
use Rattle.std.proofs.lemmas.Bool.{and_parts, and_from, or_parts, or_left, cases_Bool, eq-eqb, not-false}
use Rattle.std.proofs.lemmas.List.{length-map, take-map}
use Rattle.std.proofs.lemmas.Option.{slice_get-map}
use Rattle.std.specs.Char.{to_ascii_lowercase}
use Rattle.std.specs.List.{find, list_all}
use Rattle.std.specs.Str.{str_to_ascii_lowercase, bytes_eq}
use Rattle.std.specs.Cmp.Lexicographic.{bytes_decides}
use Rattle.x86_table.specs.declared.mnemonics.integers.TheConstants.{MOV}
use Rattle.x86_lookup.specs.declared.names.Named.{Named}
use Rattle.x86_lookup.specs.Ranges.{the_spans, span_of}
use Rattle.x86_lookup.specs.Names.{the_att_names, the_intel_names, the_att_slots, text_of, has_text, has_rows, name_by}
use Rattle.x86_lookup.specs.Mnemonics.{letter_size, fixed_by, last_size, stem, of_size, whole_mnemonic, fixing, or_lettered, att_mnemonic, IsNoName, IsText, whole, with_letter, IsTextExactly, are_alike, is_known, is_or_move, names_sized, is_sized_in, LettersFix}
use Rattle.x86_lookup.proofs.NameLookups.{att_found, att_whole}

some_is : {A : Type 0} {m n : A} → Some m ≡ Some n → m ≡ n
some_is h = cc

-- SEARCHES

found_one : (p : Named → Bool) (xs : List Named) (x : Named) → find p xs ≡ Some x → (j : ℕ) × (slice_get xs j ≡ Some x) × (p x ≡ true)
found_one p [] x h = cc
found_one p (y ∷ xs) x h = elim (cases_Bool (p y)) [
  | inl t ↦
      let same : y ≡ x = some_is (rw t at h) in
      (0, ap Some same, subst (λ (z : Named). p z ≡ true) same t)
  | inr f ↦
      let rest = found_one p xs x (rw f at h) in
      (suc rest.0, rest.1, rest.2)
]

none_passes : (p : Named → Bool) (xs : List Named) (j : ℕ) (x : Named) → find p xs ≡ None → slice_get xs j ≡ Some x → p x ≡ false
none_passes p [] j x h e = cc
none_passes p (y ∷ xs) zero x h e = elim (cases_Bool (p y)) [
  | inl t ↦ (let bad : Some y ≡ None = rw t at h in cc)
  | inr f ↦ subst (λ (z : Named). p z ≡ false) (some_is e) f
]
none_passes p (y ∷ xs) (suc j) x h e = elim (cases_Bool (p y)) [
  | inl t ↦ (let bad : Some y ≡ None = rw t at h in cc)
  | inr f ↦ none_passes p xs j x (rw f at h) e
]

none_found : (p : Named → Bool) (xs : List Named) → ((j : ℕ) (x : Named) → slice_get xs j ≡ Some x → p x ≡ false) → find p xs ≡ None
none_found p [] h = refl
none_found p (y ∷ xs) h = let f = h 0 y refl in rw f (none_found p xs (λ j x e. h (suc j) x e))

pub holds_at : (p : Named → Bool) (xs : List Named) (i : ℕ) (x : Named) → list_all p xs ≡ true → slice_get xs i ≡ Some x → p x ≡ true
holds_at p [] i x a e = cc
holds_at p (y ∷ xs) zero x a e = subst (λ (z : Named). p z ≡ true) (some_is e) (and_parts (p y) (list_all p xs) a).0
holds_at p (y ∷ xs) (suc i) x a e = holds_at p xs i x (and_parts (p y) (list_all p xs) a).1 e

all_alike : (p q : Named → Bool) (xs : List Named) → ((x : Named) → p x ≡ q x) → list_all p xs ≡ list_all q xs
all_alike p q [] h = refl
all_alike p q (x ∷ xs) h = ap (λ (b : Bool). b && list_all p xs) (h x) ∙ ap (λ (b : Bool). q x && b) (all_alike p q xs h)

-- a mnemonic that has the text is found, and the one that is found has it
pub whole_at : (i : ℕ) (named : Named) (text : List ℕ) → slice_get the_att_names i ≡ Some named → has_text text named ≡ true → whole_mnemonic text ≡ Some named
unfolding whole_mnemonic
whole_at i named text e t = att_whole i named text e t

pub whole_found : (text : List ℕ) (named : Named) → whole_mnemonic text ≡ Some named → (i : ℕ) × (slice_get the_att_names i ≡ Some named) × (has_text text named ≡ true)
unfolding whole_mnemonic
whole_found text named h = found_one (has_text text) the_att_names named h

pub no_name : (text : List ℕ) → whole_mnemonic text ≡ None → IsNoName text
unfolding whole_mnemonic
no_name text h i named e = none_passes (has_text text) the_att_names i named h e

none_whole : (text : List ℕ) → IsNoName text → whole_mnemonic text ≡ None
unfolding whole_mnemonic
none_whole text h = none_found (has_text text) the_att_names h

-- what is looked up is what the table has
looked_up : (text : List ℕ) → name_by the_att_names the_att_slots text ≡ whole_mnemonic text
unfolding whole_mnemonic
looked_up text = att_found text

-- LAST LETTERS

at_end : (xs : List ℕ) (x n : ℕ) → n ≡ length xs → slice_get (xs ++ (x ∷ [])) n ≡ Some x
at_end [] x zero h = refl
at_end [] x (suc n) h = absurd (omega arith)
at_end (y ∷ xs) x zero h = absurd (omega arith)
at_end (y ∷ xs) x (suc n) h = at_end xs x n (omega arith)

front : (xs : List ℕ) (x n : ℕ) → n ≡ length xs → take n (xs ++ (x ∷ [])) ≡ xs
front [] x zero h = refl
front [] x (suc n) h = absurd (omega arith)
front (y ∷ xs) x zero h = absurd (omega arith)
front (y ∷ xs) x (suc n) h = ap (λ (rest : List ℕ). y ∷ rest) (front xs x n (omega arith))

last_is : (text short : List ℕ) (letter : ℕ) → text ≡ short ++ (letter ∷ []) → last_size text ≡ letter_size (to_ascii_lowercase letter)
last_is text short letter is =
    let count : length text ≡ length short + 1 = ap length is ∙ length-append short (letter ∷ []) in
    ap (λ (t : List ℕ). fixed_by (slice_get t (length text - 1))) is ∙ ap fixed_by (at_end short letter (length text - 1) (omega arith))

stem_is : (text short : List ℕ) (letter : ℕ) → text ≡ short ++ (letter ∷ []) → stem text ≡ short
stem_is text short letter is =
    let count : length text ≡ length short + 1 = ap length is ∙ length-append short (letter ∷ []) in
    ap (λ (t : List ℕ). take (length text - 1) t) is ∙ front short letter (length text - 1) (omega arith)

back : (xs : List ℕ) (n x : ℕ) → length xs ≡ n + 1 → slice_get xs n ≡ Some x → xs ≡ take n xs ++ (x ∷ [])
back [] n x c e = cc
back (y ∷ []) zero x c e = ap (λ (z : ℕ). z ∷ []) (some_is e)
back (y ∷ z ∷ xs) zero x c e = absurd (omega arith)
back (y ∷ xs) (suc n) x c e = ap (λ (rest : List ℕ). y ∷ rest) (back xs n x (omega arith) e)

-- a text whose last letter fixes a size
parts : (text : List ℕ) (last : Option ℕ) → slice_get text (length text - 1) ≡ last → (fixed_by last == 0) ≡ false → (letter : ℕ) × (text ≡ stem text ++ (letter ∷ [])) × (last ≡ Some letter)
parts text None e h = cc
parts [] (Some letter) e h = cc
parts (y ∷ xs) (Some letter) e h = (letter, back (y ∷ xs) (length (y ∷ xs) - 1) letter (omega arith) e, refl)

-- TEXTS OF A MNEMONIC

fixed_so : (size : ℕ) (named : Named) → (size == 0) ≡ false → (named.size == 0) ≡ true → fixing size (Some named) ≡ Some (of_size named size)
fixed_so size named fixes unfixed = rw (fixes, unfixed) refl

pub is_text : (text : List ℕ) (named : Named) → IsText text named → att_mnemonic text ≡ Some named
unfolding att_mnemonic
is_text _ _ (whole text i named e t) = ap (or_lettered text) (whole_at i named text e t)
is_text _ _ (with_letter text short letter size i named none is says fixes e t unfixed) =
    let last : last_size text ≡ size = last_is text short letter is ∙ says in
    let base : whole_mnemonic (stem text) ≡ Some named = ap whole_mnemonic (stem_is text short letter is) ∙ whole_at i named short e t in
    ap (or_lettered text) (none_whole text none) ∙ ap (λ (n : ℕ). fixing n (whole_mnemonic (stem text))) last ∙ ap (fixing size) base ∙ fixed_so size named fixes unfixed

by_letter : (text : List ℕ) (named base : Named) (b : Bool) → IsNoName text → whole_mnemonic (stem text) ≡ Some base
    → ((last_size text == 0) || not (base.size == 0)) ≡ b → cond b None (Some (of_size base (last_size text))) ≡ Some named → IsText text named
by_letter text named base true none stems test h = cc
by_letter text named base false none stems test h =
    let p = or_parts (last_size text == 0) (not (base.size == 0)) test in
    let one = whole_found (stem text) base stems in
    let split = parts text (slice_get text (length text - 1)) refl p.0 in
    subst (IsText text) (some_is h)
    (with_letter text (stem text) split.0 (last_size text) one.0 base none split.1 (sym (ap fixed_by split.2)) p.0 one.1 one.2 (not-false (base.size == 0) p.1))

by_stem : (text : List ℕ) (named : Named) (base : Option Named) → IsNoName text → whole_mnemonic (stem text) ≡ base → fixing (last_size text) base ≡ Some named → IsText text named
by_stem text named None none stems h = cc
by_stem text named (Some base) none stems h = by_letter text named base ((last_size text == 0) || not (base.size == 0)) none stems refl h

by_whole : (text : List ℕ) (named : Named) (found : Option Named) → whole_mnemonic text ≡ found → or_lettered text found ≡ Some named → IsText text named
by_whole text named None is h = by_stem text named (whole_mnemonic (stem text)) (no_name text is) refl h
by_whole text named (Some own) is h =
    let one = whole_found text own is in
    subst (IsText text) (some_is h) (whole text one.0 own one.1 one.2)

pub text_found : (text : List ℕ) (named : Named) → att_mnemonic text ≡ Some named → IsText text named
unfolding att_mnemonic
text_found text named h = by_whole text named (whole_mnemonic text) refl h

pub texts_exactly : (text : List ℕ) (named : Named) → IsTextExactly text named
texts_exactly text named = record { found = text_found text named; is = is_text text named }

-- THE ROWS' OWN NAMES

-- what is found for the mnemonic names the same rows, unless its size is 32 bits
abbrev known_by : Named → Option Named → Bool
known_by named found = (named.size == 32) || are_alike named found

known_looked_up : list_all (λ named. known_by named (name_by the_att_names the_att_slots (text_of named))) the_intel_names ≡ true
unfolding the_att_names the_att_slots the_intel_names
known_looked_up = refl

pub all_known : list_all is_known the_intel_names ≡ true
all_known =
    sym (all_alike (λ named. known_by named (name_by the_att_names the_att_slots (text_of named))) is_known the_intel_names (λ named. ap (known_by named) (looked_up (text_of named))))
    ∙ known_looked_up

-- LETTERS

-- what the last letter fixes, by the text in lower case
abbrev size_of : Option ℕ → ℕ
size_of None = 0
size_of (Some letter) = letter_size letter

lower_fixes : (last : Option ℕ) → fixed_by last ≡ size_of (option_map to_ascii_lowercase last)
lower_fixes None = refl
lower_fixes (Some letter) = refl

-- the operand size that the last letter of a text in lower case fixes
abbrev low_size : List ℕ → ℕ
low_size low = size_of (slice_get low (length low - 1))

last_low : (text : List ℕ) → last_size text ≡ low_size (str_to_ascii_lowercase text)
last_low text =
    lower_fixes (slice_get text (length text - 1)) ∙ ap size_of (sym (slice_get-map to_ascii_lowercase text (length text - 1)))
    ∙ ap (λ (n : ℕ). size_of (slice_get (map to_ascii_lowercase text) (n - 1))) (sym (length-map text to_ascii_lowercase))

same_last : (one other : List ℕ) → str_to_ascii_lowercase one ≡ str_to_ascii_lowercase other → last_size one ≡ last_size other
same_last one other h = last_low one ∙ ap low_size h ∙ sym (last_low other)

-- the mnemonic whose text in lower case is this one
abbrev low_mnemonic : List ℕ → Option Named
low_mnemonic low = find (λ named. bytes_eq low (str_to_ascii_lowercase (text_of named))) the_att_names

same_whole : (one other : List ℕ) → str_to_ascii_lowercase one ≡ str_to_ascii_lowercase other → whole_mnemonic one ≡ whole_mnemonic other
unfolding whole_mnemonic
same_whole one other h = ap low_mnemonic h

low_stem : (text : List ℕ) → str_to_ascii_lowercase (stem text) ≡ stem (str_to_ascii_lowercase text)
low_stem text =
    sym (take-map to_ascii_lowercase (length text - 1) text) ∙ ap (λ (n : ℕ). take (n - 1) (map to_ascii_lowercase text)) (sym (length-map text to_ascii_lowercase))

same_stem : (one other : List ℕ) → str_to_ascii_lowercase one ≡ str_to_ascii_lowercase other → str_to_ascii_lowercase (stem one) ≡ str_to_ascii_lowercase (stem other)
same_stem one other h = low_stem one ∙ ap stem h ∙ sym (low_stem other)

same_text : (text own : List ℕ) → bytes_eq (str_to_ascii_lowercase text) (str_to_ascii_lowercase own) ≡ true → str_to_ascii_lowercase text ≡ str_to_ascii_lowercase own
same_text text own h = (bytes_decides (str_to_ascii_lowercase text) (str_to_ascii_lowercase own)).0 h

-- a mnemonic of so many bits by its last letter agrees with the one that has the rest of its text
abbrev fits_stem : ℕ → Named → Option Named → Bool
fits_stem size found None = true
fits_stem size found (Some named) = not (named.size == 0) || names_sized named size found

-- the same of a mnemonic whose last letter may fix no size
abbrev fits : ℕ → Named → Option Named → Bool
fits size found base = cond (size == 0) true (fits_stem size found base)

all_fit : list_all (λ found. fits (last_size (text_of found)) found (name_by the_att_names the_att_slots (stem (text_of found)))) the_att_names ≡ true
unfolding the_att_names the_att_slots the_spans span_of
all_fit = refl

own_size : (named : Named) (size : ℕ) → names_sized named size (of_size named size) ≡ true
own_size named size =
    or_left ((named.name.0 == named.name.0) && (size == size)) ((is_or_move named.rule && ((named.name.0 == MOV) && (size == 64))) || not (has_rows (of_size named size)))
    (and_from (named.name.0 == named.name.0) (size == size) (eq-eqb named.name.0 named.name.0 refl) (eq-eqb size size refl))

fits_so : (a b c : Bool) → a ≡ false → b ≡ true → cond a true (not b || c) ≡ true → c ≡ true
fits_so true b c fixes unfixed h = cc
fits_so false false c fixes unfixed h = cc
fits_so false true c fixes unfixed h = h

pub fixed_in : (text : List ℕ) (letter : ℕ) (named : Named) (found : Option Named) → whole_mnemonic text ≡ Some named → (named.size == 0) ≡ true
    → (letter_size (to_ascii_lowercase letter) == 0) ≡ false → whole_mnemonic (text ++ (letter ∷ [])) ≡ found
    → is_sized_in named (letter_size (to_ascii_lowercase letter)) (or_lettered (text ++ (letter ∷ [])) found) ≡ true
fixed_in text letter named None names unfixed fixes is =
    let size : ℕ = letter_size (to_ascii_lowercase letter) in
    let longer : List ℕ = text ++ (letter ∷ []) in
    let base : whole_mnemonic (stem longer) ≡ Some named = ap whole_mnemonic (stem_is longer text letter refl) ∙ names in
    let made : fixing (last_size longer) (whole_mnemonic (stem longer)) ≡ Some (of_size named size) =
    ap (λ (n : ℕ). fixing n (whole_mnemonic (stem longer))) (last_is longer text letter refl) ∙ ap (fixing size) base ∙ fixed_so size named fixes unfixed in
    ap (is_sized_in named size) made ∙ own_size named size
fixed_in text letter named (Some found) names unfixed fixes is =
    let size : ℕ = letter_size (to_ascii_lowercase letter) in
    let longer : List ℕ = text ++ (letter ∷ []) in
    let one = whole_found longer found is in
    let alike : str_to_ascii_lowercase (text_of found) ≡ str_to_ascii_lowercase longer = sym (same_text longer (text_of found) one.2) in
    let last : last_size (text_of found) ≡ size = same_last (text_of found) longer alike ∙ last_is longer text letter refl in
    let base : name_by the_att_names the_att_slots (stem (text_of found)) ≡ Some named =
    looked_up (stem (text_of found)) ∙ same_whole (stem (text_of found)) text (same_stem (text_of found) longer alike ∙ ap str_to_ascii_lowercase (stem_is longer text letter refl)) ∙ names in
    let here : fits (last_size (text_of found)) found (name_by the_att_names the_att_slots (stem (text_of found))) ≡ true =
    holds_at (λ other. fits (last_size (text_of other)) other (name_by the_att_names the_att_slots (stem (text_of other)))) the_att_names one.0 found all_fit one.1 in
    let so : fits size found (Some named) ≡ true =
    sym (ap (λ (n : ℕ). fits n found (name_by the_att_names the_att_slots (stem (text_of found)))) last ∙ ap (fits size found) base) ∙ here in
    fits_so (size == 0) (named.size == 0) (names_sized named size found) fixes unfixed so

pub letters_fix : LettersFix
unfolding att_mnemonic
letters_fix text letter named names unfixed fixes = fixed_in text letter named (whole_mnemonic (text ++ (letter ∷ []))) names unfixed fixes refl
