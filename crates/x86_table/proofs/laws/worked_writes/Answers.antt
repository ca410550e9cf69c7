use Rattle.std.proofs.Common.{refl}
use Rattle.x86_table.specs.Rows.{the_rows}
use Rattle.x86_table.proofs.laws.worked_writes.Goals as goal

pub returns : goal.returns
unfolding the_rows
returns c = record {
  add = refl;
  cmp = refl;
  test = refl;
  nop = refl;
  xchg = refl;
  mov = refl;
  lea = refl;
  push_64 = refl;
  push_16 = refl;
  pop = refl;
  pushf = refl;
  popf = refl;
  mul_8 = refl;
  mul_64 = refl;
  idiv = refl;
  shl = refl;
  bt = refl;
  bts = refl;
  bswap = refl;
  cmpxchg = refl;
  xadd = refl;
  cmpxchg8b = refl;
  cmpxchg16b = refl;
  seto = refl;
  cmovo = refl;
  cdqe = refl;
  cqo = refl;
  movs = refl;
  cmps = refl;
  stos = refl;
  lods = refl;
  scas = refl;
  call = refl;
  jmp = refl;
  loop_insn = refl;
  jrcxz = refl;
  ret = refl;
  leave = refl;
  syscall = refl;
  cpuid = refl;
  rdtsc = refl;
  int_insn = refl;
  ldmxcsr = refl;
  stmxcsr = refl;
  movnti_32 = refl;
  movnti_64 = refl;
  lahf = refl;
  sahf = refl;
  ucomisd = refl;
  ptest = refl;
  pcmpestrm = refl;
  pcmpistri = refl;
}
