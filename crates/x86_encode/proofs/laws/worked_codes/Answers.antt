use Rattle.std.proofs.Common.{refl}
use Rattle.x86_table.specs.Bytes.{bytes_of, rex_bits, rex_byte}
use Rattle.x86_table.specs.Fits.{fits, fields_fit}
use Rattle.x86_table.specs.Rows.{the_rows}
use Rattle.x86_parts.specs.Building.{pick, without_rex, built, shows, takes}
use Rattle.x86_encode.specs.Encoding.{shortest_row, coding_by, fault_of, encoding_of}
use Rattle.x86_encode.proofs.Worked.{worked_code, worked_none}
use Rattle.x86_encode.proofs.laws.worked_codes.Goals as goal

pub returns-clause-codes : goal.returns-clause-codes
unfolding the_rows bytes_of rex_bits rex_byte fits fields_fit pick without_rex built shows takes shortest_row coding_by
returns-clause-codes c = record {
  mov = worked_code _ _ _ _ _ refl;
  mov_quad = worked_code _ _ _ _ _ refl;
  movabs = worked_code _ _ _ _ _ refl;
  add = worked_code _ _ _ _ _ refl;
  add_negative = worked_code _ _ _ _ _ refl;
  add_unknown = worked_code _ _ _ _ _ refl;
  push = worked_code _ _ _ _ _ refl;
  at_rbp = worked_code _ _ _ _ _ refl;
  at_rsp = worked_code _ _ _ _ _ refl;
  at_r13 = worked_code _ _ _ _ _ refl;
  at_index = worked_code _ _ _ _ _ refl;
  cmpxchg = worked_code _ _ _ _ _ refl;
  at_fs = worked_code _ _ _ _ _ refl;
  movzx = worked_code _ _ _ _ _ refl;
  addsd = worked_code _ _ _ _ _ refl;
  lea = worked_code _ _ _ _ _ refl;
  movl = worked_code _ _ _ _ _ refl;
  call = worked_code _ _ _ _ _ refl;
  shl = worked_code _ _ _ _ _ refl;
  xchg = worked_code _ _ _ _ _ refl;
  xchg_same = worked_code _ _ _ _ _ refl;
  pshufb = worked_code _ _ _ _ _ refl;
  roundsd = worked_code _ _ _ _ _ refl;
  pextrw = worked_code _ _ _ _ _ refl;
  pextrw_store = worked_code _ _ _ _ _ refl;
  crc32 = worked_code _ _ _ _ _ refl;
  movbe = worked_code _ _ _ _ _ refl;
  wide = worked_none _ refl;
  mixed = worked_none _ refl;
  lock_register = worked_none _ refl;
}

pub returns-clause-encodings : goal.returns-clause-encodings
unfolding the_rows bytes_of rex_bits rex_byte fits fields_fit pick without_rex built shows takes shortest_row coding_by fault_of encoding_of
returns-clause-encodings c = record {
  mov = refl;
  lea = refl;
  call = refl;
  xchg = refl;
  mixed = refl;
  wide = refl;
  unknown = refl;
}
