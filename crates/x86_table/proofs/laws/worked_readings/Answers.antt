use Rattle.std.proofs.Common.{refl, true, false, Some, None}
use Rattle.x86_insn.specs.declared.registers.Class.TheVariants as class
use Rattle.x86_insn.specs.declared.insns.Prefix.TheVariants as prefix
use Rattle.x86_insn.specs.declared.insns.Segment.TheVariants as segment
use Rattle.x86_insn.specs.declared.insns.Index.TheVariants as index
use Rattle.x86_table.specs.declared.forms.Repeat.TheVariants as repeat
use Rattle.x86_table.specs.declared.forms.Map.TheVariants as map
use Rattle.x86_table.specs.declared.forms.Rm.TheVariants as rm
use Rattle.x86_table.specs.declared.forms.Shape.TheVariants as shape
use Rattle.x86_table.specs.declared.forms.Pattern.TheVariants as pattern
use Rattle.x86_table.specs.declared.forms.Immediate.TheVariants as immediate
use Rattle.x86_table.specs.declared.forms.Words.TheVariants as words
use Rattle.x86_table.specs.declared.forms.Destinations.TheVariants as destinations
use Rattle.x86_table.specs.declared.forms.Implied.TheVariants as implied
use Rattle.x86_table.specs.declared.forms.StoreKind.TheVariants as store
use Rattle.x86_table.specs.declared.parts.Width.TheVariants as width
use Rattle.x86_table.specs.Rows.{the_rows}
use Rattle.x86_table.specs.Fields.{nowhere, direct, from_rip, bare, based}
use Rattle.x86_table.specs.Bytes.{bytes_of, rex_bits, rex_byte}
use Rattle.x86_table.specs.Fits.{fits, fields_fit}
use Rattle.x86_table.specs.Reads.{meaning}
use Rattle.x86_table.proofs.laws.worked_readings.Goals as goal

pub returns : goal.returns
unfolding the_rows bytes_of rex_bits rex_byte fits fields_fit meaning
returns c = record {
  add = (11, record { name = record { 0 = 0 }; size = 32; lead = record { operand_size = false; repeat = repeat.Absent; wide = false }; map = map.One; code = 131; shape = (shape.Digit 0 rm.Any); first = (pattern.RegMem class.Long 4); second = pattern.Immediate; third = pattern.Absent; immediate = immediate.Sext32; words = words.Lock; outputs = record { destinations = destinations.First; implied = implied.Absent; store = store.Operand } }, record { «prefix» = prefix.Absent; segment = None; bare_rex = false; reg = 0; low = 0; place = direct 0; held = Some 4294967295 }, record { found = refl; fit = refl; held_known = refl; place_known = refl; bytes_are = refl; insn_is = refl });
  mov = (189, record { name = record { 0 = 12 }; size = 64; lead = record { operand_size = false; repeat = repeat.Absent; wide = true }; map = map.One; code = 139; shape = (shape.Slash rm.Any); first = (pattern.Reg class.Quad); second = (pattern.RegMem class.Quad 8); third = pattern.Absent; immediate = immediate.Absent; words = words.Absent; outputs = record { destinations = destinations.First; implied = implied.Absent; store = store.Operand } }, record { «prefix» = prefix.Absent; segment = None; bare_rex = false; reg = 0; low = 0; place = based 3 (index.By 1 2) true width.Byte (Some 8); held = Some 0 }, record { found = refl; fit = refl; held_known = refl; place_known = refl; bytes_are = refl; insn_is = refl });
  cmpxchg = (385, record { name = record { 0 = 46 }; size = 32; lead = record { operand_size = false; repeat = repeat.Absent; wide = false }; map = map.Two; code = 177; shape = (shape.Slash rm.Any); first = (pattern.RegMem class.Long 4); second = (pattern.Reg class.Long); third = pattern.Absent; immediate = immediate.Absent; words = words.Lock; outputs = record { destinations = destinations.First; implied = implied.Rax; store = store.Operand } }, record { «prefix» = prefix.Lock; segment = None; bare_rex = false; reg = 1; low = 0; place = based 7 index.Absent false width.Absent (Some 0); held = Some 0 }, record { found = refl; fit = refl; held_known = refl; place_known = refl; bytes_are = refl; insn_is = refl });
  mov_fs = (189, record { name = record { 0 = 12 }; size = 64; lead = record { operand_size = false; repeat = repeat.Absent; wide = true }; map = map.One; code = 139; shape = (shape.Slash rm.Any); first = (pattern.Reg class.Quad); second = (pattern.RegMem class.Quad 8); third = pattern.Absent; immediate = immediate.Absent; words = words.Absent; outputs = record { destinations = destinations.First; implied = implied.Absent; store = store.Operand } }, record { «prefix» = prefix.Absent; segment = Some segment.Fs; bare_rex = false; reg = 0; low = 0; place = bare index.Absent (Some 0); held = Some 0 }, record { found = refl; fit = refl; held_known = refl; place_known = refl; bytes_are = refl; insn_is = refl });
  movzx = (458, record { name = record { 0 = 82 }; size = 32; lead = record { operand_size = false; repeat = repeat.Absent; wide = false }; map = map.Two; code = 182; shape = (shape.Slash rm.Any); first = (pattern.Reg class.Long); second = (pattern.RegMem class.Byte 1); third = pattern.Absent; immediate = immediate.Absent; words = words.Absent; outputs = record { destinations = destinations.First; implied = implied.Absent; store = store.Operand } }, record { «prefix» = prefix.Absent; segment = None; bare_rex = true; reg = 0; low = 0; place = direct 4; held = Some 0 }, record { found = refl; fit = refl; held_known = refl; place_known = refl; bytes_are = refl; insn_is = refl });
  movzx_high = (458, record { name = record { 0 = 82 }; size = 32; lead = record { operand_size = false; repeat = repeat.Absent; wide = false }; map = map.Two; code = 182; shape = (shape.Slash rm.Any); first = (pattern.Reg class.Long); second = (pattern.RegMem class.Byte 1); third = pattern.Absent; immediate = immediate.Absent; words = words.Absent; outputs = record { destinations = destinations.First; implied = implied.Absent; store = store.Operand } }, record { «prefix» = prefix.Absent; segment = None; bare_rex = false; reg = 0; low = 0; place = direct 4; held = Some 0 }, record { found = refl; fit = refl; held_known = refl; place_known = refl; bytes_are = refl; insn_is = refl });
  addsd = (608, record { name = record { 0 = 175 }; size = 0; lead = record { operand_size = false; repeat = repeat.F2; wide = false }; map = map.Two; code = 88; shape = (shape.Slash rm.Any); first = (pattern.Reg class.Xmm); second = (pattern.RegMem class.Xmm 8); third = pattern.Absent; immediate = immediate.Absent; words = words.Absent; outputs = record { destinations = destinations.First; implied = implied.Absent; store = store.Operand } }, record { «prefix» = prefix.Absent; segment = None; bare_rex = false; reg = 9; low = 0; place = direct 1; held = Some 0 }, record { found = refl; fit = refl; held_known = refl; place_known = refl; bytes_are = refl; insn_is = refl });
  pshufb = (751, record { name = record { 0 = 303 }; size = 0; lead = record { operand_size = true; repeat = repeat.Absent; wide = false }; map = map.Three38; code = 0; shape = (shape.Slash rm.Any); first = (pattern.Reg class.Xmm); second = (pattern.RegMem class.Xmm 16); third = pattern.Absent; immediate = immediate.Absent; words = words.Absent; outputs = record { destinations = destinations.First; implied = implied.Absent; store = store.Operand } }, record { «prefix» = prefix.Absent; segment = None; bare_rex = false; reg = 0; low = 0; place = direct 1; held = Some 0 }, record { found = refl; fit = refl; held_known = refl; place_known = refl; bytes_are = refl; insn_is = refl });
  crc32 = (830, record { name = record { 0 = 373 }; size = 64; lead = record { operand_size = false; repeat = repeat.F2; wide = true }; map = map.Three38; code = 241; shape = (shape.Slash rm.Any); first = (pattern.Reg class.Quad); second = (pattern.RegMem class.Quad 8); third = pattern.Absent; immediate = immediate.Absent; words = words.Absent; outputs = record { destinations = destinations.First; implied = implied.Absent; store = store.Operand } }, record { «prefix» = prefix.Absent; segment = None; bare_rex = false; reg = 3; low = 0; place = direct 0; held = Some 0 }, record { found = refl; fit = refl; held_known = refl; place_known = refl; bytes_are = refl; insn_is = refl });
  pextrw = (749, record { name = record { 0 = 301 }; size = 0; lead = record { operand_size = true; repeat = repeat.Absent; wide = false }; map = map.Three3A; code = 21; shape = (shape.Slash rm.Any); first = (pattern.RegMem class.Long 2); second = (pattern.Reg class.Xmm); third = pattern.Immediate; immediate = immediate.Count; words = words.Absent; outputs = record { destinations = destinations.First; implied = implied.Absent; store = store.Operand } }, record { «prefix» = prefix.Absent; segment = None; bare_rex = false; reg = 0; low = 0; place = based 0 index.Absent false width.Absent (Some 0); held = Some 1 }, record { found = refl; fit = refl; held_known = refl; place_known = refl; bytes_are = refl; insn_is = refl });
  not = (215, record { name = record { 0 = 21 }; size = 32; lead = record { operand_size = false; repeat = repeat.Absent; wide = false }; map = map.One; code = 247; shape = (shape.Digit 2 rm.Any); first = (pattern.RegMem class.Long 4); second = pattern.Absent; third = pattern.Absent; immediate = immediate.Absent; words = words.Lock; outputs = record { destinations = destinations.First; implied = implied.Absent; store = store.Operand } }, record { «prefix» = prefix.Absent; segment = None; bare_rex = false; reg = 2; low = 0; place = direct 0; held = Some 0 }, record { found = refl; fit = refl; held_known = refl; place_known = refl; bytes_are = refl; insn_is = refl });
  nop = (164, record { name = record { 0 = 9 }; size = 0; lead = record { operand_size = false; repeat = repeat.Absent; wide = false }; map = map.One; code = 144; shape = shape.Plain; first = pattern.Absent; second = pattern.Absent; third = pattern.Absent; immediate = immediate.Absent; words = words.Absent; outputs = record { destinations = destinations.Nothing; implied = implied.Absent; store = store.Absent } }, record { «prefix» = prefix.Absent; segment = None; bare_rex = false; reg = 0; low = 0; place = nowhere; held = Some 0 }, record { found = refl; fit = refl; held_known = refl; place_known = refl; bytes_are = refl; insn_is = refl });
  xchg = (172, record { name = record { 0 = 11 }; size = 32; lead = record { operand_size = false; repeat = repeat.Absent; wide = false }; map = map.One; code = 144; shape = shape.LowNotFirst; first = (pattern.Accumulator class.Long); second = (pattern.Low class.Long); third = pattern.Absent; immediate = immediate.Absent; words = words.Absent; outputs = record { destinations = destinations.FirstAndSecond; implied = implied.Absent; store = store.Operand } }, record { «prefix» = prefix.Absent; segment = None; bare_rex = false; reg = 0; low = 8; place = nowhere; held = Some 0 }, record { found = refl; fit = refl; held_known = refl; place_known = refl; bytes_are = refl; insn_is = refl });
  xchg_word = (170, record { name = record { 0 = 11 }; size = 16; lead = record { operand_size = true; repeat = repeat.Absent; wide = false }; map = map.One; code = 144; shape = shape.Low; first = (pattern.Accumulator class.Word); second = (pattern.Low class.Word); third = pattern.Absent; immediate = immediate.Absent; words = words.Absent; outputs = record { destinations = destinations.FirstAndSecond; implied = implied.Absent; store = store.Operand } }, record { «prefix» = prefix.Absent; segment = None; bare_rex = false; reg = 0; low = 0; place = nowhere; held = Some 0 }, record { found = refl; fit = refl; held_known = refl; place_known = refl; bytes_are = refl; insn_is = refl });
  call = (494, record { name = record { 0 = 98 }; size = 64; lead = record { operand_size = false; repeat = repeat.Absent; wide = false }; map = map.One; code = 232; shape = shape.Plain; first = pattern.Target; second = pattern.Absent; third = pattern.Absent; immediate = immediate.Rel32; words = words.Absent; outputs = record { destinations = destinations.Nothing; implied = implied.Absent; store = store.Absent } }, record { «prefix» = prefix.Absent; segment = None; bare_rex = false; reg = 0; low = 0; place = nowhere; held = Some 2 }, record { found = refl; fit = refl; held_known = refl; place_known = refl; bytes_are = refl; insn_is = refl });
  lea = (194, record { name = record { 0 = 14 }; size = 64; lead = record { operand_size = false; repeat = repeat.Absent; wide = true }; map = map.One; code = 141; shape = (shape.Slash rm.Memory); first = (pattern.Reg class.Quad); second = (pattern.RegMem class.Quad 0); third = pattern.Absent; immediate = immediate.Absent; words = words.Absent; outputs = record { destinations = destinations.First; implied = implied.Absent; store = store.Operand } }, record { «prefix» = prefix.Absent; segment = None; bare_rex = false; reg = 0; low = 0; place = from_rip (Some 18446744073709551614); held = Some 0 }, record { found = refl; fit = refl; held_known = refl; place_known = refl; bytes_are = refl; insn_is = refl });
  xchg_second = (173, record { name = record { 0 = 11 }; size = 32; lead = record { operand_size = false; repeat = repeat.Absent; wide = false }; map = map.One; code = 135; shape = (shape.Slash rm.Any); first = (pattern.RegMem class.Long 4); second = (pattern.Reg class.Long); third = pattern.Absent; immediate = immediate.Absent; words = words.Lock; outputs = record { destinations = destinations.FirstAndSecond; implied = implied.Absent; store = store.Operand } }, record { «prefix» = prefix.Absent; segment = None; bare_rex = false; reg = 0; low = 0; place = direct 1; held = Some 0 }, record { found = refl; fit = refl; held_known = refl; place_known = refl; bytes_are = refl; insn_is = refl });
  xchg_first = (173, record { name = record { 0 = 11 }; size = 32; lead = record { operand_size = false; repeat = repeat.Absent; wide = false }; map = map.One; code = 135; shape = (shape.Slash rm.Any); first = (pattern.RegMem class.Long 4); second = (pattern.Reg class.Long); third = pattern.Absent; immediate = immediate.Absent; words = words.Lock; outputs = record { destinations = destinations.FirstAndSecond; implied = implied.Absent; store = store.Operand } }, record { «prefix» = prefix.Absent; segment = None; bare_rex = false; reg = 1; low = 0; place = direct 0; held = Some 0 }, record { found = refl; fit = refl; held_known = refl; place_known = refl; bytes_are = refl; insn_is = refl });
  xchg_byte = (169, record { name = record { 0 = 11 }; size = 8; lead = record { operand_size = false; repeat = repeat.Absent; wide = false }; map = map.One; code = 134; shape = (shape.Slash rm.Any); first = (pattern.RegMem class.Byte 1); second = (pattern.Reg class.Byte); third = pattern.Absent; immediate = immediate.Absent; words = words.Lock; outputs = record { destinations = destinations.FirstAndSecond; implied = implied.Absent; store = store.Operand } }, record { «prefix» = prefix.Absent; segment = None; bare_rex = false; reg = 0; low = 0; place = direct 3; held = Some 0 }, record { found = refl; fit = refl; held_known = refl; place_known = refl; bytes_are = refl; insn_is = refl });
  mov_rip = (187, record { name = record { 0 = 12 }; size = 32; lead = record { operand_size = false; repeat = repeat.Absent; wide = false }; map = map.One; code = 199; shape = (shape.Digit 0 rm.Any); first = (pattern.RegMem class.Long 4); second = pattern.Immediate; third = pattern.Absent; immediate = immediate.Long; words = words.Absent; outputs = record { destinations = destinations.First; implied = implied.Absent; store = store.Operand } }, record { «prefix» = prefix.Absent; segment = None; bare_rex = false; reg = 0; low = 0; place = from_rip (Some 0); held = Some 5 }, record { found = refl; fit = refl; held_known = refl; place_known = refl; bytes_are = refl; insn_is = refl });
  rep_movs = (474, record { name = record { 0 = 93 }; size = 8; lead = record { operand_size = false; repeat = repeat.Absent; wide = false }; map = map.One; code = 164; shape = shape.Plain; first = pattern.Absent; second = pattern.Absent; third = pattern.Absent; immediate = immediate.Absent; words = words.Rep; outputs = record { destinations = destinations.Nothing; implied = implied.RsiRdi; store = store.Unfixed } }, record { «prefix» = prefix.Rep; segment = None; bare_rex = false; reg = 0; low = 0; place = nowhere; held = Some 0 }, record { found = refl; fit = refl; held_known = refl; place_known = refl; bytes_are = refl; insn_is = refl });
  repe_cmps = (478, record { name = record { 0 = 94 }; size = 8; lead = record { operand_size = false; repeat = repeat.Absent; wide = false }; map = map.One; code = 166; shape = shape.Plain; first = pattern.Absent; second = pattern.Absent; third = pattern.Absent; immediate = immediate.Absent; words = words.Repe; outputs = record { destinations = destinations.Nothing; implied = implied.RsiRdi; store = store.Absent } }, record { «prefix» = prefix.Repe; segment = None; bare_rex = false; reg = 0; low = 0; place = nowhere; held = Some 0 }, record { found = refl; fit = refl; held_known = refl; place_known = refl; bytes_are = refl; insn_is = refl });
  repne_scas = (490, record { name = record { 0 = 97 }; size = 8; lead = record { operand_size = false; repeat = repeat.Absent; wide = false }; map = map.One; code = 174; shape = shape.Plain; first = pattern.Absent; second = pattern.Absent; third = pattern.Absent; immediate = immediate.Absent; words = words.Repe; outputs = record { destinations = destinations.Nothing; implied = implied.Rdi; store = store.Absent } }, record { «prefix» = prefix.Repne; segment = None; bare_rex = false; reg = 0; low = 0; place = nowhere; held = Some 0 }, record { found = refl; fit = refl; held_known = refl; place_known = refl; bytes_are = refl; insn_is = refl });
  notrack_jmp = (498, record { name = record { 0 = 99 }; size = 64; lead = record { operand_size = false; repeat = repeat.Absent; wide = false }; map = map.One; code = 255; shape = (shape.Digit 4 rm.Any); first = (pattern.RegMem class.Quad 8); second = pattern.Absent; third = pattern.Absent; immediate = immediate.Absent; words = words.Notrack; outputs = record { destinations = destinations.Nothing; implied = implied.Absent; store = store.Absent } }, record { «prefix» = prefix.Notrack; segment = None; bare_rex = false; reg = 4; low = 0; place = direct 0; held = Some 0 }, record { found = refl; fit = refl; held_known = refl; place_known = refl; bytes_are = refl; insn_is = refl });
  mov_sib = (185, record { name = record { 0 = 12 }; size = 32; lead = record { operand_size = false; repeat = repeat.Absent; wide = false }; map = map.One; code = 139; shape = (shape.Slash rm.Any); first = (pattern.Reg class.Long); second = (pattern.RegMem class.Long 4); third = pattern.Absent; immediate = immediate.Absent; words = words.Absent; outputs = record { destinations = destinations.First; implied = implied.Absent; store = store.Operand } }, record { «prefix» = prefix.Absent; segment = None; bare_rex = false; reg = 0; low = 0; place = based 0 index.Absent true width.Absent (Some 0); held = Some 0 }, record { found = refl; fit = refl; held_known = refl; place_known = refl; bytes_are = refl; insn_is = refl });
  pause = (168, record { name = record { 0 = 10 }; size = 0; lead = record { operand_size = false; repeat = repeat.F3; wide = false }; map = map.One; code = 144; shape = shape.Plain; first = pattern.Absent; second = pattern.Absent; third = pattern.Absent; immediate = immediate.Absent; words = words.Absent; outputs = record { destinations = destinations.Nothing; implied = implied.Absent; store = store.Absent } }, record { «prefix» = prefix.Absent; segment = None; bare_rex = false; reg = 0; low = 0; place = nowhere; held = Some 0 }, record { found = refl; fit = refl; held_known = refl; place_known = refl; bytes_are = refl; insn_is = refl });
}
