-- The names of rows by their mnemonics, in either case.
use Rattle.std.specs.Prelude.{◌+◌, ◌*◌, ◌/◌, ◌%◌, ◌^◌, ◌==◌, ◌&&◌, ◌∷◌, [], ℕ, nat_lt, List, Bool, true, false, not, Option, Some, None, slice_get, take, drop, if◌then◌else◌}
use Rattle.std.specs.List.{list_all}
use Rattle.std.specs.Char.{to_ascii_lowercase}
use Rattle.std.specs.Str.{str_eq_ignore_ascii_case}
use Rattle.x86_lookup.specs.declared.names.Named.{Named}
use Rattle.x86_lookup.specs.declared.att_mnemonics.TheConstants.{ATT_NAMES}
use Rattle.x86_lookup.specs.declared.intel_mnemonics.TheConstants.{INTEL_NAMES}
use Rattle.x86_lookup.specs.declared.slots.TheConstants.{ATT_SLOTS, INTEL_SLOTS}
use Rattle.x86_lookup.specs.Ranges.{span_of, by_size}

-- the mnemonics of AT&T syntax
unfoldable pub the_att_names : List Named
the_att_names = ATT_NAMES

-- the mnemonics of Intel syntax
unfoldable pub the_intel_names : List Named
the_intel_names = INTEL_NAMES

-- where the mnemonics of AT&T syntax stand
unfoldable pub the_att_slots : List ℕ
the_att_slots = ATT_SLOTS

-- where the mnemonics of Intel syntax stand
unfoldable pub the_intel_slots : List ℕ
the_intel_slots = INTEL_SLOTS

-- the text of a mnemonic
abbrev pub text_of : Named → List ℕ
text_of named = take named.length named.padded

-- the mnemonic has this text, in either case
abbrev pub has_text : List ℕ → Named → Bool
has_text text named = str_eq_ignore_ascii_case text (text_of named)

-- the mnemonic names the rows of this number and fixes this size
abbrev pub is_of : ℕ → ℕ → Named → Bool
is_of name size named = (named.name.0 == name) && (named.size == size)

-- the hash of a text, by the low five bits of its bytes, in which the cases of letters are alike
abbrev pub mixed : ℕ → List ℕ → ℕ
mixed hash [] = hash
mixed hash (byte ∷ bytes) = mixed ((hash + byte % 32) % 2 ^ 64 * 11400714819323198485 % 2 ^ 64) bytes

-- the index behind a shift
abbrev pub slot_behind : List ℕ → ℕ → Option ℕ → Option ℕ
slot_behind slots hash None = None
slot_behind slots hash (Some shift) = slice_get slots (256 + (hash / 2 ^ 32 % 1024 + shift) % 1024)

-- the index by a hash: a shift by its highest byte, and then the index itself
abbrev pub slot_at : List ℕ → ℕ → Option ℕ
slot_at slots hash = slot_behind slots hash (slice_get slots (hash / 2 ^ 56))

-- the index by a text
unfoldable pub slot_of : List ℕ → List ℕ → Option ℕ
slot_of slots text = slot_at slots (mixed 0 text)

-- the mnemonic, if it has the text
abbrev pub if_text : List ℕ → Option Named → Option Named
if_text text None = None
if_text text (Some named) = if has_text text named then Some named else None

-- the mnemonic at the index, if it has the text
abbrev pub name_at : List Named → List ℕ → Option ℕ → Option Named
name_at names text None = None
name_at names text (Some index) = if_text text (slice_get names index)

-- the mnemonic of the text at its index
abbrev pub name_by : List Named → List ℕ → List ℕ → Option Named
name_by names slots text = name_at names text (slot_at slots (mixed 0 text))

-- the index is this one
abbrev pub is_index : Option ℕ → ℕ → Bool
is_index None i = false
is_index (Some index) i = index == i

-- each mnemonic stands at the index by its text
abbrev pub all_placed : List ℕ → ℕ → List Named → Bool
all_placed slots i [] = true
all_placed slots i (named ∷ names) = is_index (slot_of slots (text_of named)) i && all_placed slots (i + 1) names

-- rows have the mnemonic's name, and its size where it fixes one
abbrev pub has_rows : Named → Bool
has_rows named = if named.size == 0 then nat_lt (span_of named.name.0).first (span_of named.name.0).quad_end
    else nat_lt (by_size (span_of named.name.0) named.size).start (by_size (span_of named.name.0) named.size).stop

-- the text has no blank, no capital letter and at least one byte, and blanks stand behind it
abbrev pub is_whole : Named → Bool
is_whole named = nat_lt 0 named.length && (list_all (λ byte. not (byte == 32) && (to_ascii_lowercase byte == byte)) (text_of named)
    && list_all (λ byte. byte == 32) (drop named.length named.padded))
