-- The bytes of the four instructions read as these.
use Rattle.std.proofs.Common.{ℕ, Bool, true, false, [], ◌∷◌, Some, None, refl}
use Rattle.x86_insn.specs.declared.insns.Prefix.TheVariants as prefix
use Rattle.x86_insn.specs.declared.registers.Class.TheVariants as class
use Rattle.x86_table.specs.declared.forms.Destinations.{Destinations}
use Rattle.x86_table.specs.declared.forms.Destinations.TheVariants as destinations
use Rattle.x86_table.specs.declared.forms.Immediate.TheVariants as immediate
use Rattle.x86_table.specs.declared.forms.Implied.{Implied}
use Rattle.x86_table.specs.declared.forms.Implied.TheVariants as implied
use Rattle.x86_table.specs.declared.forms.Map.TheVariants as map
use Rattle.x86_table.specs.declared.forms.Pattern.{Pattern}
use Rattle.x86_table.specs.declared.forms.Pattern.TheVariants as pattern
use Rattle.x86_table.specs.declared.forms.Repeat.TheVariants as repeat
use Rattle.x86_table.specs.declared.forms.Rm.TheVariants as rm
use Rattle.x86_table.specs.declared.forms.Row.{Row}
use Rattle.x86_table.specs.declared.forms.Shape.{Shape}
use Rattle.x86_table.specs.declared.forms.Shape.TheVariants as shape
use Rattle.x86_table.specs.declared.forms.StoreKind.{StoreKind}
use Rattle.x86_table.specs.declared.forms.StoreKind.TheVariants as store
use Rattle.x86_table.specs.declared.forms.Words.TheVariants as words
use Rattle.x86_table.specs.declared.mnemonics.integers.TheConstants.{MOV, POP, PUSH, RET}
use Rattle.x86_table.specs.Bytes.{bytes_of, rex_bits, rex_byte}
use Rattle.x86_table.specs.Fields.{Fields, Location, nowhere, direct}
use Rattle.x86_table.specs.Fits.{fits, fields_fit}
use Rattle.x86_table.specs.Reads.{Reads, meaning}
use Rattle.x86_table.specs.Rows.{the_rows}
use Rattle.x86_steps.specs.WorkedSteps.{push_frame, set_frame, pop_frame, return}

-- a row of 64 bits without a prefix and an immediate
abbrev row : (name : ℕ) → (wide : Bool) → (code : ℕ) → Shape → (first second : Pattern) → Destinations → Implied → StoreKind → Row
row name wide code form first second written implied_ones stored = record {
  name = record { 0 = name };
  size = 64;
  lead = record { operand_size = false; repeat = repeat.Absent; wide = wide };
  map = map.One;
  code = code;
  shape = form;
  first = first;
  second = second;
  third = pattern.Absent;
  immediate = immediate.Absent;
  words = words.Absent;
  outputs = record { destinations = written; implied = implied_ones; store = stored };
}

-- two registers, the second one in the opcode or in the place
abbrev fields : (reg low : ℕ) → Location → Fields
fields reg low place = record { «prefix» = prefix.Absent; segment = None; bare_rex = false; reg = reg; low = low; place = place; held = Some 0 }

pub push_reads : Reads (85 ∷ []) push_frame
unfolding the_rows bytes_of rex_bits rex_byte fits fields_fit meaning
push_reads = (
  196,
  row PUSH false 0x50 shape.Low (pattern.Low class.Quad) pattern.Absent destinations.Nothing implied.Rsp store.PushQuad,
  fields 0 5 nowhere,
  record { found = refl; fit = refl; held_known = refl; place_known = refl; bytes_are = refl; insn_is = refl },
)

pub mov_reads : Reads (72 ∷ 137 ∷ 229 ∷ []) set_frame
unfolding the_rows bytes_of rex_bits rex_byte fits fields_fit meaning
mov_reads = (
  188,
  row MOV true 0x89 (shape.Slash rm.Any) (pattern.RegMem class.Quad 8) (pattern.Reg class.Quad) destinations.First implied.Absent store.Operand,
  fields 4 0 (direct 5),
  record { found = refl; fit = refl; held_known = refl; place_known = refl; bytes_are = refl; insn_is = refl },
)

pub pop_reads : Reads (93 ∷ []) pop_frame
unfolding the_rows bytes_of rex_bits rex_byte fits fields_fit meaning
pop_reads = (
  201,
  row POP false 0x58 shape.Low (pattern.Low class.Quad) pattern.Absent destinations.First implied.Rsp store.Operand,
  fields 0 5 nowhere,
  record { found = refl; fit = refl; held_known = refl; place_known = refl; bytes_are = refl; insn_is = refl },
)

pub ret_reads : Reads (195 ∷ []) return
unfolding the_rows bytes_of rex_bits rex_byte fits fields_fit meaning
ret_reads = (
  535,
  row RET false 0xc3 shape.Plain pattern.Absent pattern.Absent destinations.Nothing implied.Absent store.Absent,
  fields 0 0 nowhere,
  record { found = refl; fit = refl; held_known = refl; place_known = refl; bytes_are = refl; insn_is = refl },
)
