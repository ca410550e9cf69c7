-- Bytes that read as a form are its CIE.
use Rattle.std.proofs.Common.{◌≡◌, ◌⊎◌, inl, inr, ℕ, ◌+◌, ◌*◌, ◌%◌, ◌≤◌, ◌==◌, ◌&&◌, Bool, true, false, List, [], ◌∷◌, ◌++◌, length, Option, None, Some, is_some, if◌then◌else◌, nat_le, refl, sym, ◌∙◌, ap, subst, arith, eqb-true}
use Rattle.std.specs.Prelude.{take, drop}
use Rattle.std.specs.Option.{option_map, option_and_then}
use Rattle.std.specs.Str.{bytes_eq}
use Rattle.std.proofs.lemmas.Bool.{and_parts, leb-true, or_cases}
use Rattle.std.proofs.lemmas.List.{append_assoc, length-append, length-take-le, take-append-drop}
use Rattle.std.proofs.lemmas.Option.{none-some, same_Some}
use Rattle.std.proofs.lemmas.Slice.Eq.{bytes_eq-Decides}
use Rattle.cfi_rows.specs.declared.commons.CommonForm.{CommonForm}
use Rattle.cfi_rows.specs.declared.pointers.PointerEncoding.{PointerEncoding}
use Rattle.cfi_rows.specs.declared.pointers.PointerEncoding.TheVariants.{Absolute8, Unsigned4, Signed4, Relative4, Indirect4, Relative8, Indirect8}
use Rattle.cfi_rows.specs.Pointers.{encoding_of, size_if}
use Rattle.cfi_rows.specs.Commons.{behind, behind_length, behind_letters, behind_pointer, common_length, common_of, counted_common, data_length, encoding_bytes_if, encoding_in, ended_form, form_in, is_common_code, letter_if, letter_of, with_data, with_letters, IsCommonOf}
use Rattle.cfi_entries.proofs.CommonLemmas.{code_of, whole}
use Rattle.cfi_entries.proofs.EncodingLemmas.{said_by_byte}

-- what was let through, what a step was made from, and what was made into something else
guarded : {A : Type 0} (b : Bool) (due : Option A) (made : A) → (if b then due else None) ≡ Some made → (b ≡ true) × (due ≡ Some made)
guarded true due made is = (refl, is)
guarded false due made is = absurd (none-some made is)

stepped : {A B : Type 0} (step : A → Option B) (due : Option A) (made : B) → option_and_then step due ≡ Some made
    → (a : A) × (due ≡ Some a) × (step a ≡ Some made)
stepped step (Some a) made is = (a, refl, is)
stepped step None made is = absurd (none-some made is)

mapped : {A B : Type 0} (make : A → B) (due : Option A) (made : B) → option_map make due ≡ Some made → (a : A) × (due ≡ Some a) × (make a ≡ made)
mapped make (Some a) made is = (a, refl, same_Some (make a) made is)
mapped make None made is = absurd (none-some made is)

-- bytes that have to stand here do
behind_is : (due bytes rest : List ℕ) → behind due bytes ≡ Some rest → bytes ≡ due ++ rest
behind_is due bytes rest is =
    let parts = guarded (nat_le (length due) (length bytes) && bytes_eq (take (length due) bytes) due) (Some (drop (length due) bytes)) rest is in
    let same = (bytes_eq-Decides (take (length due) bytes) due).0
    (and_parts (nat_le (length due) (length bytes)) (bytes_eq (take (length due) bytes) due) parts.0).1 in
    sym (take-append-drop (length due) bytes)
    ∙ (ap (λ front. front ++ drop (length due) bytes) same ∙ ap (λ rest. due ++ rest) (same_Some (drop (length due) bytes) rest parts.1))

-- a letter stands here where it is found
abbrev letter_found : ℕ → Bool → List ℕ
letter_found letter said = if said then letter ∷ [] else []

letter_is : (letter : ℕ) (bytes : List ℕ) → bytes ≡ letter_found letter (letter_of letter bytes).0 ++ (letter_of letter bytes).1
letter_is letter [] = refl
letter_is letter (byte ∷ rest) = by (byte == letter) refl
  where
    found : Bool → Bool × List ℕ
    found b = if b then (true, rest) else (false, byte ∷ rest)

    by : (b : Bool) → (byte == letter) ≡ b → byte ∷ rest ≡ letter_found letter (found b).0 ++ (found b).1
    by true is = ap (λ first. first ∷ rest) (eqb-true byte letter is)
    by false is = refl

letter_there : (letter : ℕ) (encoding : Option PointerEncoding) → letter_found letter (is_some encoding) ≡ letter_if letter encoding
letter_there letter None = refl
letter_there letter (Some encoding) = refl

-- an encoding stands here just where it is said
encoding_is : (said : Bool) (bytes rest : List ℕ) (encoding : Option PointerEncoding) → encoding_in said bytes ≡ Some (encoding, rest)
    → (bytes ≡ encoding_bytes_if encoding ++ rest) × (said ≡ is_some encoding)
encoding_is false bytes rest encoding is =
    let same = same_Some (None, bytes) (encoding, rest) is in
    subst (λ (found : Option PointerEncoding × List ℕ). (bytes ≡ encoding_bytes_if found.0 ++ found.1) × (false ≡ is_some found.0)) same (refl, refl)
encoding_is true [] rest encoding is = absurd (none-some (encoding, rest) is)
encoding_is true (byte ∷ bytes) rest encoding is =
    let made = mapped (λ encoding. (Some encoding, bytes)) (encoding_of byte) (encoding, rest) is in
    subst (λ (found : Option PointerEncoding × List ℕ). (byte ∷ bytes ≡ encoding_bytes_if found.0 ++ found.1) × (true ≡ is_some found.0)) made.2
    (ap (λ first. first ∷ bytes) (said_by_byte byte made.0 made.1), refl)

-- and the pointer behind it has the size that it says
abbrev PointerIs : Bool → List ℕ → Option PointerEncoding × List ℕ → Type 0
PointerIs said bytes found =
    (pointer : List ℕ) × (length pointer ≡ size_if found.0) × (bytes ≡ encoding_bytes_if found.0 ++ (pointer ++ found.1)) × (said ≡ is_some found.0)

pointer_is : (said : Bool) (bytes : List ℕ) (found : Option PointerEncoding × List ℕ) → option_and_then behind_pointer (encoding_in said bytes) ≡ Some found
    → PointerIs said bytes found
pointer_is said bytes found is =
    let first = stepped behind_pointer (encoding_in said bytes) found is in
    let size = size_if first.0.0 in
    let rest = first.0.1 in
    let encoded = encoding_is said bytes rest first.0.0 first.1 in
    let passed = guarded (nat_le size (length rest)) (Some (first.0.0, drop size rest)) found first.2 in
    subst (PointerIs said bytes) (same_Some (first.0.0, drop size rest) found passed.1) (
      take size rest,
      length-take-le size rest (leb-true size (length rest) passed.0),
      encoded.0 ∙ ap (λ rest. encoding_bytes_if first.0.0 ++ rest) (sym (take-append-drop size rest)),
      encoded.1,
    )

-- the augmentation data of a form
abbrev data_of : CommonForm → List ℕ → List ℕ
data_of form pointer = encoding_bytes_if form.personality ++ (pointer ++ (encoding_bytes_if form.lsda ++ 0x1b ∷ []))

record IsSaid (personality lsda : Bool) (bytes : List ℕ) (form : CommonForm) : Type 0 where
  pointer : List ℕ
  sized : length pointer ≡ size_if form.personality
  same : bytes ≡ data_of form pointer
  names : personality ≡ is_some form.personality
  tables : lsda ≡ is_some form.lsda

form_in_is : (personality lsda : Bool) (bytes : List ℕ) (form : CommonForm) → form_in personality lsda bytes ≡ Some form → IsSaid personality lsda bytes form
form_in_is personality lsda bytes form is =
    let outer = stepped (λ (one : Option PointerEncoding × List ℕ). option_and_then (ended_form one.0) (encoding_in lsda one.1))
    (option_and_then behind_pointer (encoding_in personality bytes)) form is in
    let one = outer.0 in
    let front = pointer_is personality bytes one outer.1 in
    let inner = stepped (ended_form one.0) (encoding_in lsda one.1) form outer.2 in
    let other = inner.0 in
    let back = encoding_is lsda one.1 other.1 other.0 inner.1 in
    let ended = guarded (bytes_eq other.1 (0x1b ∷ [])) (Some (record { personality = one.0; lsda = other.0 })) form inner.2 in
    let last = (bytes_eq-Decides other.1 (0x1b ∷ [])).0 ended.0 in
    subst (IsSaid personality lsda bytes) (same_Some (record { personality = one.0; lsda = other.0 }) form ended.1) (record {
      pointer = front.0;
      sized = front.1;
      same = front.2 ∙ ap (λ rest. encoding_bytes_if one.0 ++ (front.0 ++ rest)) (back.0 ∙ ap (λ rest. encoding_bytes_if other.0 ++ rest) last);
      names = front.3;
      tables = back.1;
    })

-- what follows the letters
abbrev after_letters : List ℕ → List ℕ → List ℕ
after_letters bytes code = length bytes ∷ (bytes ++ code)

record IsData (personality lsda : Bool) (bytes : List ℕ) (made : CommonForm × List ℕ) : Type 0 where
  said : List ℕ
  holds : IsSaid personality lsda said made.0
  same : bytes ≡ after_letters said made.1
  is_code : is_common_code made.1 ≡ true

with_data_is : (personality lsda : Bool) (bytes : List ℕ) (made : CommonForm × List ℕ) → with_data personality lsda bytes ≡ Some made
    → IsData personality lsda bytes made
with_data_is personality lsda [] made is = absurd (none-some made is)
with_data_is personality lsda (size ∷ rest) made is =
    let passed = guarded (nat_le size (length rest) && is_common_code (drop size rest))
    (option_map (λ form. (form, drop size rest)) (form_in personality lsda (take size rest))) made is in
    let parts = and_parts (nat_le size (length rest)) (is_common_code (drop size rest)) passed.0 in
    let formed = mapped (λ form. (form, drop size rest)) (form_in personality lsda (take size rest)) made passed.1 in
    subst (IsData personality lsda (size ∷ rest)) formed.2 (record {
      said = take size rest;
      holds = form_in_is personality lsda (take size rest) formed.0 formed.1;
      same = ap (λ n. n ∷ rest) (sym (length-take-le size rest (leb-true size (length rest) parts.0)))
          ∙ ap (λ all. length (take size rest) ∷ all) (sym (take-append-drop size rest));
      is_code = parts.1;
    })

-- what follows the length, from the form, the pointer and the instructions on
abbrev rest_of : CommonForm → List ℕ → List ℕ → List ℕ
rest_of form pointer code = behind_length form ++ (pointer ++ (encoding_bytes_if form.lsda ++ 0x1b ∷ code))

abbrev with_names : CommonForm → List ℕ → List ℕ
with_names form rest = letter_if 0x50 form.personality ++ (letter_if 0x4c form.lsda ++ 0x52 ∷ 0x00 ∷ 0x01 ∷ 0x78 ∷ 0x10 ∷ rest)

record IsLettered (bytes : List ℕ) (made : CommonForm × List ℕ) : Type 0 where
  pointer : List ℕ
  sized : length pointer ≡ size_if made.0.personality
  same : bytes ≡ with_names made.0 (after_letters (data_of made.0 pointer) made.1)
  is_code : is_common_code made.1 ≡ true

with_letters_is : (bytes : List ℕ) (made : CommonForm × List ℕ) → with_letters bytes ≡ Some made → IsLettered bytes made
with_letters_is bytes made is =
    let first = letter_of 0x50 bytes in
    let second = letter_of 0x4c first.1 in
    let fixed = 0x52 ∷ 0x00 ∷ 0x01 ∷ 0x78 ∷ 0x10 ∷ [] in
    let inner = stepped (with_data first.0 second.0) (behind fixed second.1) made is in
    let held = with_data_is first.0 second.0 inner.0 made inner.2 in
    let found = held.holds in
    record {
      pointer = found.pointer;
      sized = found.sized;
      same = letter_is 0x50 bytes
          ∙ (ap (λ front. front ++ first.1) (ap (letter_found 0x50) found.names ∙ letter_there 0x50 made.0.personality)
          ∙ ap (λ rest. letter_if 0x50 made.0.personality ++ rest)
          (letter_is 0x4c first.1
          ∙ (ap (λ front. front ++ second.1) (ap (letter_found 0x4c) found.tables ∙ letter_there 0x4c made.0.lsda)
          ∙ ap (λ rest. letter_if 0x4c made.0.lsda ++ rest)
          (behind_is fixed second.1 inner.0 inner.1
          ∙ ap (λ rest. fixed ++ rest) (held.same ∙ ap (λ bytes. after_letters bytes made.1) found.same)))));
      is_code = held.is_code;
    }

-- the augmentation data has the length that the form says
data_sized : (form : CommonForm) (pointer : List ℕ) → length pointer ≡ size_if form.personality → length (data_of form pointer) ≡ data_length form
data_sized form pointer sized =
    omega (
      arith,
      sized,
      length-append (encoding_bytes_if form.personality) (pointer ++ (encoding_bytes_if form.lsda ++ 0x1b ∷ [])),
      length-append pointer (encoding_bytes_if form.lsda ++ 0x1b ∷ []),
      length-append (encoding_bytes_if form.lsda) (0x1b ∷ []),
    )

-- and the instructions stand behind it
data_code : (form : CommonForm) (pointer code : List ℕ)
    → data_of form pointer ++ code ≡ encoding_bytes_if form.personality ++ (pointer ++ (encoding_bytes_if form.lsda ++ 0x1b ∷ code))
data_code form pointer code =
    append_assoc (encoding_bytes_if form.personality) (pointer ++ (encoding_bytes_if form.lsda ++ 0x1b ∷ [])) code
    ∙ ap (λ rest. encoding_bytes_if form.personality ++ rest)
    (append_assoc pointer (encoding_bytes_if form.lsda ++ 0x1b ∷ []) code
    ∙ ap (λ rest. pointer ++ rest) (append_assoc (encoding_bytes_if form.lsda) (0x1b ∷ []) code))

-- all that follows the length is that of the form
laid : (form : CommonForm) (pointer code : List ℕ) → length pointer ≡ size_if form.personality
    → 0x00 ∷ 0x00 ∷ 0x00 ∷ 0x00 ∷ 0x01 ∷ 0x7a ∷ with_names form (after_letters (data_of form pointer) code) ≡ rest_of form pointer code
laid form pointer code sized =
    ap (λ rest. 0x00 ∷ 0x00 ∷ 0x00 ∷ 0x00 ∷ 0x01 ∷ 0x7a ∷ rest)
    (ap (λ n. with_names form (n ∷ (data_of form pointer ++ code))) (data_sized form pointer sized)
    ∙ (ap (λ rest. with_names form (data_length form ∷ rest)) (data_code form pointer code)
    ∙ (ap (λ rest. letter_if 0x50 form.personality ++ rest) (sym (append_assoc (letter_if 0x4c form.lsda) (behind_letters form) behind_pointer_bytes))
    ∙ sym (append_assoc (letter_if 0x50 form.personality) (letter_if 0x4c form.lsda ++ behind_letters form) behind_pointer_bytes))))
  where
    behind_pointer_bytes : List ℕ
    behind_pointer_bytes = pointer ++ (encoding_bytes_if form.lsda ++ 0x1b ∷ code)

-- the instructions with two nops or without, and which of the two a length lets through
abbrev padded : Bool → List ℕ
padded b = 0x0c ∷ 0x07 ∷ 0x08 ∷ 0x90 ∷ 0x01 ∷ (if b then 0x00 ∷ 0x00 ∷ [] else [])

is_padded : (code : List ℕ) → is_common_code code ≡ true → (b : Bool) × (code ≡ padded b)
is_padded code is = by (or_cases (bytes_eq code (padded false)) (bytes_eq code (padded true)) is)
  where
    by : (bytes_eq code (padded false) ≡ true) ⊎ (bytes_eq code (padded true) ≡ true) → (b : Bool) × (code ≡ padded b)
    by (inl same) = (false, (bytes_eq-Decides code (padded false)).0 same)
    by (inr same) = (true, (bytes_eq-Decides code (padded true)).0 same)

one_padding : (b due : Bool) (count all : ℕ) → count + length (padded due) ≡ all + length (padded b) → count % 4 ≡ 0 → all % 4 ≡ 0 → padded b ≡ padded due
one_padding false false count all same one other = refl
one_padding true true count all same one other = refl
one_padding false true count all same one other = absurd (let none : ⊥ = omega (arith, same, one, other) in none)
one_padding true false count all same one other = absurd (let none : ⊥ = omega (arith, same, one, other) in none)

-- the lengths of what is read and of the form are the same but for those of the instructions
lengths : (form : CommonForm) (pointer code : List ℕ) → length pointer ≡ size_if form.personality
    → length (rest_of form pointer code) + length (code_of form) ≡ common_length form + length code
lengths form pointer code sized =
    omega (
      arith,
      sized,
      length-append (behind_length form) (pointer ++ (encoding_bytes_if form.lsda ++ 0x1b ∷ code)),
      length-append pointer (encoding_bytes_if form.lsda ++ 0x1b ∷ code),
      length-append (encoding_bytes_if form.lsda) (0x1b ∷ code),
      length-append (encoding_bytes_if form.lsda) (0x1b ∷ code_of form),
    )

size_small : (encoding : PointerEncoding) → size_if (Some encoding) ≤ 8
size_small Absolute8 = omega arith
size_small Unsigned4 = omega arith
size_small Signed4 = omega arith
size_small Relative4 = omega arith
size_small Indirect4 = omega arith
size_small Relative8 = omega arith
size_small Indirect8 = omega arith

-- so the length has one byte that is not 0
length_small : (personality lsda : Option PointerEncoding) → common_length (record { personality = personality; lsda = lsda }) ≤ 32
length_small None None = omega arith
length_small None (Some lsda) = omega arith
length_small (Some personality) None = omega (arith, size_small personality)
length_small (Some personality) (Some lsda) = omega (arith, size_small personality)

one_byte : (a b c d due : ℕ) (rest : List ℕ) → a + b * 256 + c * 65536 + d * 16777216 ≡ due → due ≤ 32
    → a ∷ b ∷ c ∷ d ∷ rest ≡ due ∷ 0x00 ∷ 0x00 ∷ 0x00 ∷ rest
one_byte a b c d due rest is small =
    ap (λ n. n ∷ b ∷ c ∷ d ∷ rest) (let one : a ≡ due = omega (arith, is, small) in one)
    ∙ (ap (λ n. due ∷ n ∷ c ∷ d ∷ rest) (let none : b ≡ 0 = omega (arith, is, small) in none)
    ∙ (ap (λ n. due ∷ 0x00 ∷ n ∷ d ∷ rest) (let none : c ≡ 0 = omega (arith, is, small) in none)
    ∙ ap (λ n. due ∷ 0x00 ∷ 0x00 ∷ n ∷ rest) (let none : d ≡ 0 = omega (arith, is, small) in none)))

-- what follows the length, where the length counts it and is a multiple of 4
record IsCounted (count : ℕ) (bytes : List ℕ) (form : CommonForm) (code : List ℕ) : Type 0 where
  pointer : List ℕ
  sized : length pointer ≡ size_if form.personality
  same : bytes ≡ rest_of form pointer (code_of form)
  instructions : code ≡ code_of form
  counts : count ≡ common_length form

-- the nops are those of the form
code_is : (count : ℕ) (bytes : List ℕ) (form : CommonForm) (pointer code : List ℕ) → length pointer ≡ size_if form.personality
    → count ≡ length bytes → count % 4 ≡ 0 → bytes ≡ rest_of form pointer code → is_common_code code ≡ true → code ≡ code_of form
code_is count bytes form pointer code sized counts fours same is =
    let shape = is_padded code is in
    let due = length (encoding_bytes_if form.personality) == length (encoding_bytes_if form.lsda) in
    shape.1 ∙ one_padding shape.0 due count (common_length form)
    (omega (arith, counts, ap length same, lengths form pointer code sized, ap length shape.1)) fours (whole form pointer sized).1

counted_is : (count : ℕ) (bytes : List ℕ) (form : CommonForm) (code : List ℕ) → counted_common (count, bytes) ≡ Some (form, code)
    → IsCounted count bytes form code
counted_is count bytes form code is =
    let first : List ℕ = 0x00 ∷ 0x00 ∷ 0x00 ∷ 0x00 ∷ 0x01 ∷ 0x7a ∷ [] in
    let passed = guarded ((count == length bytes) && (count % 4 == 0)) (option_and_then with_letters (behind first bytes)) (form, code) is in
    let parts = and_parts (count == length bytes) (count % 4 == 0) passed.0 in
    let inner = stepped with_letters (behind first bytes) (form, code) passed.1 in
    let found = with_letters_is inner.0 (form, code) inner.2 in
    let same : bytes ≡ rest_of form found.pointer code =
    behind_is first bytes inner.0 inner.1 ∙ (ap (λ rest. first ++ rest) found.same ∙ laid form found.pointer code found.sized) in
    let counts : count ≡ length bytes = eqb-true count (length bytes) parts.0 in
    let codes : code ≡ code_of form = code_is count bytes form found.pointer code found.sized counts (eqb-true (count % 4) 0 parts.1) same found.is_code in
    record {
      pointer = found.pointer;
      sized = found.sized;
      same = same ∙ ap (rest_of form found.pointer) codes;
      instructions = codes;
      counts = omega (arith, counts, ap length same, lengths form found.pointer code found.sized, ap length codes);
    }

-- bytes that read are the CIE of the form, and of no other
pub only : (cie : List ℕ) (form : CommonForm) (code : List ℕ) → common_of cie ≡ Some (form, code) → IsCommonOf cie form code
unfolding common_of
only [] form code is = absurd (none-some (form, code) is)
only (a ∷ []) form code is = absurd (none-some (form, code) is)
only (a ∷ b ∷ []) form code is = absurd (none-some (form, code) is)
only (a ∷ b ∷ c ∷ []) form code is = absurd (none-some (form, code) is)
only (a ∷ b ∷ c ∷ d ∷ bytes) form code is =
    let found = counted_is (a + b * 256 + c * 65536 + d * 16777216) bytes form code is in
    record {
      pointer = found.pointer;
      sized = found.sized;
      whole = one_byte a b c d (common_length form) bytes found.counts (length_small form.personality form.lsda)
          ∙ ap (λ rest. common_length form ∷ 0x00 ∷ 0x00 ∷ 0x00 ∷ rest) found.same;
      instructions = found.instructions;
    }
