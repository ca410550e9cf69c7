-- Instructions without operands, by their mnemonics in AT&T syntax, and their bytes.
use Rattle.std.specs.Prelude.{◌≡◌, ◌==◌, ◌&&◌, ◌||◌, ℕ, List, Bool, true, false, Option, Some, None, option_map, slice_get}
use Rattle.std.specs.List.{find, list_all}
use Rattle.x86_insn.specs.declared.insns.Prefix.TheVariants as prefix
use Rattle.x86_insn.specs.Views.{View, absent}
use Rattle.x86_table.specs.declared.forms.Row.{Row}
use Rattle.x86_table.specs.Rows.{the_rows}
use Rattle.x86_table.specs.Fields.{Fields, nowhere}
use Rattle.x86_table.specs.Bytes.{bytes_of}
use Rattle.x86_table.specs.Reads.{Reads}
use Rattle.x86_lookup.specs.declared.names.Named.{Named}
use Rattle.x86_lookup.specs.Names.{the_att_names, has_text}
use Rattle.x86_lookup.specs.Writing.{is_absent}

-- the row takes no operand
abbrev pub takes_no_operand : Row → Bool
takes_no_operand r = is_absent r.first && (is_absent r.second && is_absent r.third)

-- the row has the mnemonic's name, and its size where it fixes one
abbrev pub is_row_of : Named → Row → Bool
is_row_of named r = (r.name.0 == named.name.0) && ((named.size == 0) || (r.size == named.size))

-- the row of the mnemonic that takes no operand
abbrev pub bare_row : Named → Option Row
bare_row named = find (λ r. takes_no_operand r && is_row_of named r) the_rows

-- the fields of an instruction without operands and prefix words
abbrev pub no_fields : Fields
no_fields = record { «prefix» = prefix.Absent; segment = None; bare_rex = false; reg = 0; low = 0; place = nowhere; held = Some 0 }

-- the bytes of a row without operands
abbrev pub bare_bytes : Row → List ℕ
bare_bytes r = bytes_of r no_fields

-- the instruction without operands of the row
abbrev pub bare_view : Row → View
bare_view r = record { name = r.name; size = r.size; «prefix» = prefix.Absent; first = absent; second = absent; third = absent }

-- an instruction, and bytes for it
pub record Coded : Type 0 where
  pub insn : View
  pub bytes : List ℕ

-- the instruction without operands of the row, and its bytes
abbrev pub bare_coded : Row → Coded
bare_coded r = record { insn = bare_view r; bytes = bare_bytes r }

-- the same of the row of a mnemonic, where that has one
abbrev pub bare_of : Option Named → Option Coded
bare_of None = None
bare_of (Some named) = option_map bare_coded (bare_row named)

-- the instruction without operands whose mnemonic has this text, in either case, if there is one
unfoldable pub bare_instruction : List ℕ → Option Coded
bare_instruction text = bare_of (find (has_text text) the_att_names)

-- its bytes
abbrev pub bare_code : List ℕ → Option (List ℕ)
bare_code text = option_map (λ coded. coded.bytes) (bare_instruction text)

-- the bytes of an instruction without operands read as it
abbrev pub BareCodesRead : Type 0
BareCodesRead = (text : List ℕ) (coded : Coded) → bare_instruction text ≡ Some coded → Reads coded.bytes coded.insn

-- not all of them are 0
abbrev pub BareCodesStand : Type 0
BareCodesStand = (text : List ℕ) (coded : Coded) → bare_instruction text ≡ Some coded → list_all (λ byte. byte == 0) coded.bytes ≡ false

-- of the rows without operands no two are a mnemonic's
abbrev pub BareRowsAreAlone : Type 0
BareRowsAreAlone = (k i j : ℕ) (named : Named) (r s : Row) → slice_get the_att_names k ≡ Some named → slice_get the_rows i ≡ Some r → slice_get the_rows j ≡ Some s
    → (takes_no_operand r && is_row_of named r) ≡ true → (takes_no_operand s && is_row_of named s) ≡ true → i ≡ j
