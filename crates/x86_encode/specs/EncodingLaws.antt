-- What the encoding of an instruction gives.
use Rattle.std.specs.Prelude.{◌≡◌, ◌&&◌, Bool, None, Some, false, slice_get, true, ℕ, Ok}
use Rattle.x86_insn.specs.declared.insns.Insn.{Insn}
use Rattle.x86_insn.specs.declared.insns.Prefix.TheVariants as prefix
use Rattle.x86_table.specs.declared.forms.Row.{Row}
use Rattle.x86_table.specs.declared.forms.Pattern.{Pattern}
use Rattle.x86_table.specs.declared.forms.Pattern.TheVariants as pattern
use Rattle.x86_table.specs.Bytes.{bytes_of}
use Rattle.x86_table.specs.Fields.{nowhere, Fields}
use Rattle.x86_table.specs.Rows.{the_rows}
use Rattle.x86_insn.specs.declared.amounts.Values.{Values}
use Rattle.x86_insn.specs.Views.{absent, View, view_of}
use Rattle.x86_encode.specs.Answers.{Encodes, Fills, Notes, Placed}
use Rattle.x86_parts.specs.Codes.{meant}
use Rattle.x86_encode.specs.Encoding.{encoding_of}
use Rattle.x86_encode.specs.Faults.{HasCause}

-- the least bytes that mean the instruction, or a fault where none do
abbrev pub EncodingsCode : Type 0
EncodingsCode = (shape : Values → View) (values : Values) → Encodes (meant (shape values)) (encoding_of shape values)

-- with any values that the fields hold, the bytes read as the instruction with these values
abbrev pub EncodingsFill : Type 0
EncodingsFill = (shape : Values → View) (values : Values) → Fills (meant (shape values)) (encoding_of shape values)

-- the fields are those of a row and of fields by which the bytes mean the instruction
abbrev pub EncodingsNote : Type 0
EncodingsNote = (shape : Values → View) (values : Values) → Notes (meant (shape values)) (encoding_of shape values)

-- each field is that of the operand at its position
abbrev pub EncodingsPlace : Type 0
EncodingsPlace = (shape : Values → View) (values : Values) → Placed (meant (shape values)) (encoding_of shape values)

-- of an instruction of the program, why no bytes mean it
abbrev pub EncodingsCause : Type 0
EncodingsCause = (insn : Insn) (values : Values) → HasCause insn values (encoding_of (view_of insn) values)

-- WITHOUT OPERANDS

-- no operand stands there
abbrev pub is_absent : Pattern → Bool
is_absent pattern.Absent = true
is_absent (pattern.RegMem c n) = false
is_absent (pattern.Reg c) = false
is_absent (pattern.Low c) = false
is_absent (pattern.Accumulator c) = false
is_absent pattern.Cl = false
is_absent pattern.One = false
is_absent pattern.Immediate = false
is_absent pattern.Target = false

-- the row has no operands
abbrev pub is_bare : Row → Bool
is_bare r = is_absent r.first && (is_absent r.second && is_absent r.third)

-- the fields of an instruction without operands
abbrev pub no_fields : Fields
no_fields = record { «prefix» = prefix.Absent; segment = None; bare_rex = false; reg = 0; low = 0; place = nowhere; held = Some 0 }

-- the instruction has the row's name and size, and neither operands nor a prefix word
pub record IsBareAs (r : Row) (insn : View) : Type 0 where
  pub name : insn.name.0 ≡ r.name.0
  pub size : insn.size ≡ r.size
  pub words : insn.«prefix» ≡ prefix.Absent
  pub first : insn.first ≡ absent
  pub second : insn.second ≡ absent
  pub third : insn.third ≡ absent

-- the encoding of such an instruction is the bytes of its row of the table
abbrev pub BareRowsCode : Type 0
BareRowsCode = (shape : Values → View) (values : Values) (i : ℕ) (r : Row) → slice_get the_rows i ≡ Some r → is_bare r ≡ true → IsBareAs r (shape values)
    → encoding_of shape values ≡ Ok (record { bytes = bytes_of r no_fields; displacement = None; immediate = None })
