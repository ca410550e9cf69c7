-- The common entries of an `.eh_frame` section (psABI, section 4.2.4; LSB 5.0, "The Common Information Entry Format").
use Rattle.std.specs.Prelude.{◌≡◌, ℕ, ◌+◌, ◌%◌, Bool, true, false, List, [], ◌∷◌, ◌++◌, Option, None, Some, length, take, drop, nat_le, ◌==◌, if◌then◌else◌, ◌&&◌, ◌||◌}
use Rattle.std.specs.Option.{option_map, option_and_then}
use Rattle.std.specs.Str.{bytes_eq}
use Rattle.cfi_rows.specs.declared.commons.CommonForm.{CommonForm}
use Rattle.cfi_rows.specs.declared.pointers.PointerEncoding.{PointerEncoding}
use Rattle.cfi_rows.specs.Instructions.{four_bytes_of}
use Rattle.cfi_rows.specs.Pointers.{encoding_byte, encoding_of, size_if}

-- an entry that says neither a personality nor LSDAs
abbrev pub plain_form : CommonForm
plain_form = record { personality = None; lsda = None }

-- the letter, where there is an encoding
abbrev pub letter_if : ℕ → Option PointerEncoding → List ℕ
letter_if letter None = []
letter_if letter (Some encoding) = letter ∷ []

-- the byte of an encoding, where there is one
abbrev pub encoding_bytes_if : Option PointerEncoding → List ℕ
encoding_bytes_if None = []
encoding_bytes_if (Some encoding) = encoding_byte encoding ∷ []

-- two nops, where the entry has to have them to come to a multiple of 4 bytes
abbrev pub common_padding : CommonForm → List ℕ
common_padding form = if length (encoding_bytes_if form.personality) == length (encoding_bytes_if form.lsda) then 0x00 ∷ 0x00 ∷ [] else []

-- the length of the augmentation data: an encoding and the pointer to the personality, the encoding of the pointers to LSDAs, and that of the places of
-- code
abbrev pub data_length : CommonForm → ℕ
data_length form = length (encoding_bytes_if form.personality) + size_if form.personality + length (encoding_bytes_if form.lsda) + 1

-- what stands behind the pointer to the personality: pointers to code have 4 bytes and count from their own place; def_cfa rsp 8, offset of column 16 at -8
abbrev pub common_tail : CommonForm → List ℕ
common_tail form = encoding_bytes_if form.lsda ++ 0x1b ∷ 0x0c ∷ 0x07 ∷ 0x08 ∷ 0x90 ∷ 0x01 ∷ common_padding form

-- what stands behind the letters: that of the places of code, the end, code alignment 1, data alignment -8, return address in column 16, and the data up to
-- the pointer to the personality
abbrev pub behind_letters : CommonForm → List ℕ
behind_letters form = 0x52 ∷ 0x00 ∷ 0x01 ∷ 0x78 ∷ 0x10 ∷ data_length form ∷ encoding_bytes_if form.personality

-- what stands between the length and the pointer to the personality: this is a common entry, version 1, and the augmentation, which has data
abbrev pub behind_length : CommonForm → List ℕ
behind_length form =
    0x00 ∷ 0x00 ∷ 0x00 ∷ 0x00 ∷ 0x01 ∷ 0x7a ∷ (letter_if 0x50 form.personality ++ (letter_if 0x4c form.lsda ++ behind_letters form))

-- the length, which does not count its own four bytes
abbrev pub common_length : CommonForm → ℕ
common_length form = length (behind_length form) + size_if form.personality + length (common_tail form)

-- what stands before the pointer to the personality
abbrev pub common_head : CommonForm → List ℕ
common_head form = common_length form ∷ 0x00 ∷ 0x00 ∷ 0x00 ∷ behind_length form

-- the common entry of a form, with these bytes as its pointer to the personality
abbrev pub common_entry : CommonForm → List ℕ → List ℕ
common_entry form pointer = common_head form ++ (pointer ++ common_tail form)

-- the one that says neither a personality nor LSDAs
abbrev pub common_bytes : List ℕ
common_bytes =
    0x14 ∷ 0x00 ∷ 0x00 ∷ 0x00 ∷ 0x00 ∷ 0x00 ∷ 0x00 ∷ 0x00 ∷ 0x01 ∷ 0x7a ∷ 0x52 ∷ 0x00 ∷ 0x01 ∷ 0x78 ∷ 0x10 ∷ 0x01 ∷ 0x1b
    ∷ 0x0c ∷ 0x07 ∷ 0x08 ∷ 0x90 ∷ 0x01 ∷ 0x00 ∷ 0x00 ∷ []

-- what follows these bytes, where a list begins with them
abbrev pub behind : List ℕ → List ℕ → Option (List ℕ)
behind due bytes =
    if nat_le (length due) (length bytes) && bytes_eq (take (length due) bytes) due then Some (drop (length due) bytes) else None

-- whether a letter stands here, and what follows
abbrev pub letter_of : ℕ → List ℕ → Bool × List ℕ
letter_of letter [] = (false, [])
letter_of letter (byte ∷ rest) = if byte == letter then (true, rest) else (false, byte ∷ rest)

-- an encoding, if one is said, and what follows
abbrev pub encoding_in : Bool → List ℕ → Option (Option PointerEncoding × List ℕ)
encoding_in false said = Some (None, said)
encoding_in true [] = None
encoding_in true (byte ∷ said) = option_map (λ encoding. (Some encoding, said)) (encoding_of byte)

-- what follows a pointer of this encoding, whatever it is
abbrev pub behind_pointer : Option PointerEncoding × List ℕ → Option (Option PointerEncoding × List ℕ)
behind_pointer (encoding, said) = if nat_le (size_if encoding) (length said) then Some (encoding, drop (size_if encoding) said) else None

-- the data ends with the encoding of the places of code
abbrev pub ended_form : Option PointerEncoding → Option PointerEncoding × List ℕ → Option CommonForm
ended_form personality (lsda, said) = if bytes_eq said (0x1b ∷ []) then Some (record { personality = personality; lsda = lsda }) else None

-- the form by the augmentation data, where a personality and LSDAs are said or not
abbrev pub form_in : Bool → Bool → List ℕ → Option CommonForm
form_in personality lsda said =
    option_and_then (λ one. option_and_then (ended_form one.0) (encoding_in lsda one.1)) (option_and_then behind_pointer (encoding_in personality said))

-- the instructions of a CIE, with two nops of padding or without: that the length is a multiple of 4 (`counted_common`) lets just one of the two through for
-- each form
abbrev pub is_common_code : List ℕ → Bool
is_common_code code =
    bytes_eq code (0x0c ∷ 0x07 ∷ 0x08 ∷ 0x90 ∷ 0x01 ∷ []) || bytes_eq code (0x0c ∷ 0x07 ∷ 0x08 ∷ 0x90 ∷ 0x01 ∷ 0x00 ∷ 0x00 ∷ [])

-- the form and the instructions, which stand behind the data
abbrev pub split_data : Bool → Bool → ℕ → List ℕ → Option (CommonForm × List ℕ)
split_data personality lsda size rest =
    if nat_le size (length rest) && is_common_code (drop size rest)
    then option_map (λ form. (form, drop size rest)) (form_in personality lsda (take size rest)) else None

-- the same behind the letters: the length of the data stands before it
abbrev pub with_data : Bool → Bool → List ℕ → Option (CommonForm × List ℕ)
with_data personality lsda [] = None
with_data personality lsda (size ∷ rest) = split_data personality lsda size rest

-- the same from the letters on
abbrev pub with_letters : List ℕ → Option (CommonForm × List ℕ)
with_letters bytes =
    let personality = letter_of 0x50 bytes in let lsda = letter_of 0x4c personality.1 in
    option_and_then (with_data personality.0 lsda.0) (behind (0x52 ∷ 0x00 ∷ 0x01 ∷ 0x78 ∷ 0x10 ∷ []) lsda.1)

-- the same from behind the length on, which counts it and is a multiple of 4
abbrev pub counted_common : ℕ × List ℕ → Option (CommonForm × List ℕ)
counted_common (count, rest) =
    if (count == length rest) && (count % 4 == 0)
    then option_and_then with_letters (behind (0x00 ∷ 0x00 ∷ 0x00 ∷ 0x00 ∷ 0x01 ∷ 0x7a ∷ []) rest) else None

-- the form of a CIE, and its instructions. There is one just where the bytes are the CIE of a form, byte for byte but for the pointer to the personality, which
-- may be any bytes, as many as its encoding says; and it is that form (`common_entries_read`, clauses `form` and `only`)
unfoldable pub common_of : List ℕ → Option (CommonForm × List ℕ)
common_of cie = option_and_then counted_common (four_bytes_of cie)

-- the bytes are the CIE of a form, with some pointer to the personality, and these are its instructions
pub record IsCommonOf (cie : List ℕ) (form : CommonForm) (code : List ℕ) : Type 0 where
  pub pointer : List ℕ
  pub sized : length pointer ≡ size_if form.personality
  pub whole : cie ≡ common_entry form pointer
  pub instructions : code ≡ 0x0c ∷ 0x07 ∷ 0x08 ∷ 0x90 ∷ 0x01 ∷ common_padding form
