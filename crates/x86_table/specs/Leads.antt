-- What stands before an opcode is told from it, byte by byte (Intel SDM, volume 2, section 2.1), and which rows share a head.
use Rattle.std.specs.Prelude.{◌≡◌, ◌≢◌, ◌<◌, ◌+◌, ◌/◌, ◌%◌, ℕ, true, Option, Some, None, slice_get}
use Rattle.x86_table.specs.declared.forms.Map.{Map}
use Rattle.x86_table.specs.declared.forms.Map.TheVariants as map
use Rattle.x86_table.specs.declared.forms.Row.{Row}
use Rattle.x86_table.specs.Rows.{the_rows}
use Rattle.x86_table.specs.Fields.{Fields}
use Rattle.x86_table.specs.Bytes.{first_byte, size_byte, repeat_byte, lock_byte, place_x, place_b, rex_bits, rex_byte}
use Rattle.x86_table.specs.Fits.{fields_fit}
use Rattle.x86_table.specs.Heads.{span, share_head, rank}

-- the byte, where it stands, has this rank
abbrev pub HasRank : ℕ → Option ℕ → Type 0
HasRank k None = Unit {0}
HasRank k (Some b) = rank b ≡ k

-- the byte is none of those that stand before an opcode of this map
abbrev pub NeverLeads : Map → ℕ → Type 0
NeverLeads map.One o = rank o ≡ 7
NeverLeads map.Two o = (o ≢ 56) × (o ≢ 58)
NeverLeads map.Three38 o = Unit {0}
NeverLeads map.Three3A o = Unit {0}

-- each byte before the opcode has the rank of its place, and the opcode is none of them
pub record Leads (r : Row) (p : Fields) : Type 0 where
  pub first : HasRank 1 (first_byte p.segment p.«prefix»)
  pub size : HasRank 2 (size_byte r.lead.operand_size)
  pub repeat : HasRank 3 (repeat_byte r.lead.repeat p.«prefix»)
  pub lock : HasRank 4 (lock_byte p.«prefix»)
  pub rex : HasRank 5 (rex_byte (rex_bits r p) p.bare_rex)
  pub opcode : NeverLeads r.map (r.code + p.low % 8)

-- so it is for fields that fit a row of the table
abbrev pub LeadsInOrder : Type 0
LeadsInOrder = (i : ℕ) (r : Row) (p : Fields) → slice_get the_rows i ≡ Some r → fields_fit r p ≡ true → Leads r p

-- the numbers of registers have four bits: three in the opcode, ModRM and SIB, and one in REX
pub record AreNarrow (r : Row) (p : Fields) : Type 0 where
  pub reg : p.reg < 16
  pub low : p.low < 16
  pub in_opcode : p.low % 8 < span r.shape
  pub x : place_x p.place < 2
  pub b : place_b p.place + p.low / 8 < 2

-- so it is for fields that fit a row
abbrev pub FieldsAreNarrow : Type 0
FieldsAreNarrow = (r : Row) (p : Fields) → fields_fit r p ≡ true → AreNarrow r p

-- rows of the table that share a head are one
abbrev pub HeadsTellRows : Type 0
HeadsTellRows = (i j : ℕ) (r s : Row) → slice_get the_rows i ≡ Some r → slice_get the_rows j ≡ Some s
    → share_head r s ≡ true → share_head s r ≡ true → i ≡ j
