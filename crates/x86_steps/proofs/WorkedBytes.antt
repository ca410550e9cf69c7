-- The bytes of worked instructions read as these.
use Rattle.std.proofs.Common.{ℕ, Bool, true, false, Some, None, refl}
use Rattle.x86_insn.specs.declared.insns.Index.TheVariants as index
use Rattle.x86_insn.specs.declared.insns.Prefix.TheVariants as prefix
use Rattle.x86_insn.specs.declared.registers.Class.TheVariants as class
use Rattle.x86_table.specs.declared.parts.Width.TheVariants as width
use Rattle.x86_table.specs.declared.forms.Destinations.{Destinations}
use Rattle.x86_table.specs.declared.forms.Destinations.TheVariants as destinations
use Rattle.x86_table.specs.declared.forms.Immediate.{Immediate}
use Rattle.x86_table.specs.declared.forms.Immediate.TheVariants as immediate
use Rattle.x86_table.specs.declared.forms.Implied.{Implied}
use Rattle.x86_table.specs.declared.forms.Implied.TheVariants as implied
use Rattle.x86_table.specs.declared.forms.Map.TheVariants as map
use Rattle.x86_table.specs.declared.forms.Pattern.{Pattern}
use Rattle.x86_table.specs.declared.forms.Pattern.TheVariants as pattern
use Rattle.x86_table.specs.declared.forms.Repeat.TheVariants as repeat
use Rattle.x86_table.specs.declared.forms.Rm.TheVariants as rm
use Rattle.x86_table.specs.declared.forms.Row.{Row}
use Rattle.x86_table.specs.declared.forms.Shape.{Shape}
use Rattle.x86_table.specs.declared.forms.Shape.TheVariants as shape
use Rattle.x86_table.specs.declared.forms.StoreKind.{StoreKind}
use Rattle.x86_table.specs.declared.forms.StoreKind.TheVariants as store
use Rattle.x86_table.specs.declared.forms.Words.{Words}
use Rattle.x86_table.specs.declared.forms.Words.TheVariants as words
use Rattle.x86_table.specs.declared.mnemonics.integers.TheConstants.{ADD, LEA, LEAVE, POP, POPF, PUSH, PUSHF, SUB}
use Rattle.x86_table.specs.Bytes.{bytes_of, rex_bits, rex_byte}
use Rattle.x86_table.specs.Fields.{Fields, Location, nowhere, direct, based}
use Rattle.x86_table.specs.Fits.{fits, fields_fit}
use Rattle.x86_table.specs.Reads.{meaning}
use Rattle.x86_table.specs.Rows.{the_rows}
use Rattle.x86_steps.specs.WorkedReadings.{WorkedReadings}

-- a row of 64 bits of the first map
abbrev row : (name : ℕ) → (wide : Bool) → (code : ℕ) → Shape → (first second : Pattern) → Immediate → Words → Destinations → Implied → StoreKind → Row
row name wide code form first second number lead written implied_ones stored = record {
  name = record { 0 = name };
  size = 64;
  lead = record { operand_size = false; repeat = repeat.Absent; wide = wide };
  map = map.One;
  code = code;
  shape = form;
  first = first;
  second = second;
  third = pattern.Absent;
  immediate = number;
  words = lead;
  outputs = record { destinations = written; implied = implied_ones; store = stored };
}

-- a register or the digit of an opcode, a place and an immediate
abbrev fields : (reg : ℕ) → Location → (held : ℕ) → Fields
fields reg place held =
    record { «prefix» = prefix.Absent; segment = None; bare_rex = false; reg = reg; low = 0; place = place; held = Some held }

-- 8(%rsp)
abbrev over_top : Location
over_top = based 4 index.Absent true width.Byte (Some 8)

pub readings : WorkedReadings
unfolding the_rows bytes_of rex_bits rex_byte fits fields_fit meaning
readings = record {
  leaves = (
    537,
    row LEAVE false 0xc9 shape.Plain pattern.Absent pattern.Absent immediate.Absent words.Absent destinations.Nothing implied.RspRbp store.Absent,
    fields 0 nowhere 0,
    record { found = refl; fit = refl; held_known = refl; place_known = refl; bytes_are = refl; insn_is = refl },
  );
  pushes_flags = (
    203,
    row PUSHF false 0x9c shape.Plain pattern.Absent pattern.Absent immediate.Absent words.Absent destinations.Nothing implied.Rsp store.PushQuad,
    fields 0 nowhere 0,
    record { found = refl; fit = refl; held_known = refl; place_known = refl; bytes_are = refl; insn_is = refl },
  );
  pops_flags = (
    204,
    row POPF false 0x9d shape.Plain pattern.Absent pattern.Absent immediate.Absent words.Absent destinations.Nothing implied.Rsp store.Absent,
    fields 0 nowhere 0,
    record { found = refl; fit = refl; held_known = refl; place_known = refl; bytes_are = refl; insn_is = refl },
  );
  pushes = (
    199,
    row PUSH false 0xff (shape.Digit 6 rm.Any) (pattern.RegMem class.Quad 8) pattern.Absent immediate.Absent words.Absent destinations.Nothing implied.Rsp store.PushQuad,
    fields 6 over_top 0,
    record { found = refl; fit = refl; held_known = refl; place_known = refl; bytes_are = refl; insn_is = refl },
  );
  pops = (
    202,
    row POP false 0x8f (shape.Digit 0 rm.Any) (pattern.RegMem class.Quad 8) pattern.Absent immediate.Absent words.Absent destinations.First implied.Rsp store.Operand,
    fields 0 over_top 0,
    record { found = refl; fit = refl; held_known = refl; place_known = refl; bytes_are = refl; insn_is = refl },
  );
  address = (
    194,
    row LEA true 0x8d (shape.Slash rm.Memory) (pattern.Reg class.Quad) (pattern.RegMem class.Quad 0) immediate.Absent words.Absent destinations.First implied.Absent store.Operand,
    fields 5 over_top 0,
    record { found = refl; fit = refl; held_known = refl; place_known = refl; bytes_are = refl; insn_is = refl },
  );
  raises = (
    16,
    row ADD true 0x83 (shape.Digit 0 rm.Any) (pattern.RegMem class.Quad 8) pattern.Immediate immediate.Sext64 words.Lock destinations.First implied.Absent store.Operand,
    fields 0 (direct 4) 24,
    record { found = refl; fit = refl; held_known = refl; place_known = refl; bytes_are = refl; insn_is = refl },
  );
  lowers = (
    111,
    row SUB true 0x83 (shape.Digit 5 rm.Any) (pattern.RegMem class.Quad 8) pattern.Immediate immediate.Sext64 words.Lock destinations.First implied.Absent store.Operand,
    fields 5 (direct 4) 24,
    record { found = refl; fit = refl; held_known = refl; place_known = refl; bytes_are = refl; insn_is = refl },
  );
}
