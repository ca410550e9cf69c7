-- Fields of values that are not known now, and the bytes with values in them.
use Rattle.std.specs.Prelude.{◌≡◌, ◌+◌, ◌-◌, ◌*◌, ◌%◌, ◌^◌, ◌==◌, ◌∷◌, ◌++◌, ◌||◌, if◌then◌else◌, Bool, List, None, Option, Some, [], drop, false, length, nat_lt, take, true, ℕ}
use Rattle.std.specs.Int.{to_le_bytes, w16, w32, w64}
use Rattle.x86_insn.specs.declared.insns.Base.{Base}
use Rattle.x86_insn.specs.declared.insns.Prefix.{Prefix}
use Rattle.x86_table.specs.declared.forms.Row.{Row}
use Rattle.x86_table.specs.declared.forms.Immediate.{Immediate}
use Rattle.x86_table.specs.declared.forms.Pattern.{Pattern}
use Rattle.x86_parts.specs.declared.encoded.Field.{Field}
use Rattle.x86_insn.specs.declared.amounts.FieldKind.{FieldKind}
use Rattle.x86_parts.specs.declared.encoded.Position.{Position}
use Rattle.x86_insn.specs.declared.insns.Base.TheVariants as base
use Rattle.x86_table.specs.declared.forms.Immediate.TheVariants as immediate
use Rattle.x86_insn.specs.declared.amounts.FieldKind.TheVariants as kind
use Rattle.x86_table.specs.declared.forms.Pattern.TheVariants as pattern
use Rattle.x86_parts.specs.declared.encoded.Position.TheVariants as position
use Rattle.x86_insn.specs.Views.{Seen, absent, register, immediate as shown_immediate, memory, target, View, displaced}
use Rattle.x86_table.specs.Bytes.{has_rex, bytes_of}
use Rattle.x86_table.specs.Fields.{Location, nowhere, direct, from_rip, bare, based, Fields}
use Rattle.x86_table.specs.Fits.{is_signed}
use Rattle.x86_table.specs.Reads.{shown, meaning, ReadsRow}
use Rattle.x86_parts.specs.Codes.{plain_immediate, OrderedRow}
use Rattle.x86_parts.specs.Keys.{immediate_length}

-- what a field may hold: a number of its bits, signed or not, modulo 2^64; where it is sign-extended, a signed one; and any in an item that takes as
-- many bytes as the number needs
abbrev pub kind_holds : FieldKind → ℕ → ℕ → Bool
kind_holds kind.Plain size v = nat_lt v (2 ^ (8 * size)) || is_signed (8 * size) 64 v
kind_holds kind.Signed size v = is_signed (8 * size) 64 v
kind_holds kind.Address size v = is_signed (8 * size) 64 v
kind_holds kind.Branch size v = is_signed (8 * size) 64 v
kind_holds kind.Number size v = true

-- the value is one that the field holds, if there is one
abbrev pub field_holds : Option Field → ℕ → Bool
field_holds None v = true
field_holds (Some f) v = kind_holds f.kind f.size v

-- the low bytes of a number, little-endian
abbrev pub low_bytes : ℕ → ℕ → List ℕ
low_bytes size v = if size == 1 then (v % 256) ∷ [] else (if size == 2 then to_le_bytes w16 (v % 2 ^ 16) else (if size == 4 then to_le_bytes w32 (v % 2 ^ 32) else to_le_bytes w64 (v % 2 ^ 64)))

-- the bytes with a value in their field
abbrev pub filled : Option Field → ℕ → List ℕ → List ℕ
filled None v bytes = bytes
filled (Some f) v bytes = take f.at bytes ++ (low_bytes f.size v ++ drop (f.at + f.size) bytes)

-- a number in place of one that is not known
abbrev pub known_as : ℕ → Option ℕ → Option ℕ
known_as v None = Some v
known_as v (Some w) = Some w

-- a displacement counted from the instruction's first byte where rip is the base
abbrev pub counted : ℕ → Base → ℕ → ℕ
counted length base.Absent v = v
counted length base.Rip v = (v + length) % 2 ^ 64
counted length (base.Of b) v = v

-- an operand with these numbers in place of values that are not known, in an instruction of so many bytes
abbrev pub valued : ℕ → ℕ → ℕ → Seen → Seen
valued length v w absent = absent
valued length v w (register r) = register r
valued length v w (shown_immediate d) = shown_immediate (known_as w d)
valued length v w (memory a d) = memory a (known_as (counted length a.base v) (displaced a.base d))
valued length v w (target d) = target (Some ((w + length) % 2 ^ 64))

-- an operand as a row shows it: an immediate modulo the operand size
abbrev pub exact : Immediate → Pattern → Seen → Seen
exact i pattern.Absent o = o
exact i (pattern.RegMem c n) o = o
exact i (pattern.Reg c) o = o
exact i (pattern.Low c) o = o
exact i (pattern.Accumulator c) o = o
exact i pattern.Cl o = o
exact i pattern.One o = o
exact i pattern.Immediate o = plain_immediate i o
exact i pattern.Target o = o

-- the fields of a row show just this instruction, an immediate modulo the operand size
pub record Shows (r : Row) (p : Fields) (name : ℕ) (size : ℕ) (prefixed : Prefix) (first second third : Seen) : Type 0 where
  pub name_is : name ≡ r.name.0
  pub size_is : size ≡ r.size
  pub prefix_is : prefixed ≡ p.«prefix»
  pub first_is : exact r.immediate r.first first ≡ shown (has_rex r p) (length (bytes_of r p)) p r.first
  pub second_is : exact r.immediate r.second second ≡ shown (has_rex r p) (length (bytes_of r p)) p r.second
  pub third_is : exact r.immediate r.third third ≡ shown (has_rex r p) (length (bytes_of r p)) p r.third

-- the bytes read, and what they read as is the instruction with these operands, an immediate modulo the operand size
pub record ReadsAs (bytes : List ℕ) (insn : View) (first second third : Seen) : Type 0 where
  pub row : ℕ
  pub r : Row
  pub p : Fields
  pub reads : ReadsRow bytes (meaning r p) row r p
  pub shows : Shows r p insn.name.0 insn.size insn.«prefix» first second third

-- bytes, with the fields of the values that are not known now
pub record Coding : Type 0 where
  pub bytes : List ℕ
  pub displacement : Option Field
  pub immediate : Option Field

-- with any values that the fields hold, the bytes read as the instruction with these values
abbrev pub FieldsFill : View → Coding → Type 0
FieldsFill insn made = (v w : ℕ) → field_holds made.displacement v ≡ true → field_holds made.immediate w ≡ true
    → ReadsAs (filled made.immediate w (filled made.displacement v made.bytes)) insn
    (valued (length made.bytes) v w insn.first) (valued (length made.bytes) v w insn.second) (valued (length made.bytes) v w insn.third)

-- THE FIELDS OF A ROW

-- that of a displacement which stands so far in
abbrev pub moved_field : ℕ → Position → Location → Option Field
moved_field at here nowhere = None
moved_field at here (direct n) = None
moved_field at here (from_rip None) = Some (record { at = at; size = 4; kind = kind.Address; position = here })
moved_field at here (from_rip (Some v)) = None
moved_field at here (bare i None) = Some (record { at = at; size = 4; kind = kind.Signed; position = here })
moved_field at here (bare i (Some v)) = None
moved_field at here (based b i s w None) = Some (record { at = at; size = 4; kind = kind.Signed; position = here })
moved_field at here (based b i s w (Some v)) = None

-- how an immediate or a distance stands
abbrev pub kind_of : Immediate → FieldKind
kind_of immediate.Absent = kind.Plain
kind_of immediate.Byte = kind.Plain
kind_of immediate.Count = kind.Plain
kind_of immediate.Sext16 = kind.Signed
kind_of immediate.Sext32 = kind.Signed
kind_of immediate.Sext64 = kind.Signed
kind_of immediate.Word = kind.Plain
kind_of immediate.Long = kind.Plain
kind_of immediate.LongSext = kind.Signed
kind_of immediate.Quad = kind.Plain
kind_of immediate.Rel8 = kind.Branch
kind_of immediate.Short = kind.Branch
kind_of immediate.Rel32 = kind.Branch

-- that of an immediate or a distance which stands so far in
abbrev pub held_field : ℕ → Position → Immediate → Option ℕ → Option Field
held_field at here i None = Some (record { at = at; size = immediate_length i; kind = kind_of i; position = here })
held_field at here i (Some v) = None

-- WHOSE A FIELD IS

-- the operand is in memory
abbrev pub in_memory : Seen → Bool
in_memory absent = false
in_memory (register r) = false
in_memory (shown_immediate v) = false
in_memory (memory a d) = true
in_memory (target v) = false

-- the operand is an immediate or a branch target
abbrev pub holds_number : Seen → Bool
holds_number absent = false
holds_number (register r) = false
holds_number (shown_immediate v) = true
holds_number (memory a d) = false
holds_number (target v) = true

-- the operand at a position
abbrev pub operand_in : View → Position → Seen
operand_in insn position.First = insn.first
operand_in insn position.Second = insn.second
operand_in insn position.Third = insn.third

-- the first position, if the first passes, else the second, if that does, else the third
abbrev pub position_by : Bool → Bool → Position
position_by true b = position.First
position_by false true = position.Second
position_by false false = position.Third

-- the operand at the field's position passes
abbrev pub FieldAt : (Seen → Bool) → View → Option Field → Type 0
FieldAt test insn None = Unit {0}
FieldAt test insn (Some f) = test (operand_in insn f.position) ≡ true

-- the fields are those of a row and of fields by which the bytes mean the instruction, where they end and whose they are
pub record Noted (insn : View) (made : Coding) : Type 0 where
  pub row : ℕ
  pub r : Row
  pub p : Fields
  pub here : Position
  pub there : Position
  pub means : OrderedRow made.bytes insn row r p
  pub moved : made.displacement ≡ moved_field (length made.bytes - immediate_length r.immediate - 4) here p.place
  pub held : made.immediate ≡ held_field (length made.bytes - immediate_length r.immediate) there r.immediate p.held
