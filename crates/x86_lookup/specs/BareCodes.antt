-- The codes of instructions without operands, as they are looked up.
use Rattle.std.specs.Prelude.{ℕ, List, Option, Some, None, option_map, slice_get, take}
use Rattle.x86_lookup.specs.declared.bare_codes.Code.{Code}
use Rattle.x86_lookup.specs.declared.bare_codes.TheConstants.{CODES, ATT_CODES}
use Rattle.x86_lookup.specs.declared.names.Named.{Named}
use Rattle.x86_lookup.specs.Names.{the_att_names, the_att_slots, mixed, name_at, slot_at}

-- the codes of the rows without operands
unfoldable pub the_codes : List Code
the_codes = CODES

-- of each mnemonic the number of its code
unfoldable pub the_att_codes : List ℕ
the_att_codes = ATT_CODES

-- the bytes of a code
abbrev pub code_bytes : Code → List ℕ
code_bytes code = take code.length code.padded

-- the bytes of the code of this number
abbrev pub code_of_number : ℕ → Option (List ℕ)
code_of_number number = option_map code_bytes (slice_get the_codes number)

-- the bytes of the code of the number that stands there
abbrev pub code_of : Option ℕ → Option (List ℕ)
code_of None = None
code_of (Some number) = code_of_number number

-- the bytes of the mnemonic at the index, which was found to have the text, or not
abbrev pub code_if : Option Named → ℕ → Option (List ℕ)
code_if None index = None
code_if (Some named) index = code_of (slice_get the_att_codes index)

-- the bytes of the mnemonic at the index, if it has the text
abbrev pub code_at : List ℕ → Option ℕ → Option (List ℕ)
code_at text None = None
code_at text (Some index) = code_if (name_at the_att_names text (Some index)) index

-- the bytes of the mnemonic at the index of the text
abbrev pub code_by : List ℕ → Option (List ℕ)
code_by text = code_at text (slot_at the_att_slots (mixed 0 text))
