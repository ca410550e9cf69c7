-- What some instructions write beside flags, by the Intel manual (volume 2, chapters 3 and 4).
use Rattle.std.specs.Prelude.{◌≡◌, ◌==◌, ◌&&◌, ◌∷◌, [], ℕ, List, Option, Some, None, if◌then◌else◌}
use Rattle.x86_table.specs.declared.forms.Outputs.{Outputs}
use Rattle.x86_table.specs.declared.forms.Destinations.{Destinations}
use Rattle.x86_table.specs.declared.forms.Destinations.TheVariants as destinations
use Rattle.x86_table.specs.declared.forms.Implied.{Implied}
use Rattle.x86_table.specs.declared.forms.Implied.TheVariants as implied
use Rattle.x86_table.specs.declared.forms.StoreKind.{StoreKind}
use Rattle.x86_table.specs.declared.forms.StoreKind.TheVariants as kind
use Rattle.x86_table.specs.declared.mnemonics.integers.TheConstants.{ADD, BSWAP, BT, BTS, CALL, CDQE, CMOVO, CMP, CMPS, CMPXCHG, CMPXCHG16B, CMPXCHG8B, CPUID, CQO, IDIV, INT, JMP, JRCXZ, LAHF, LDMXCSR, LEA, LEAVE, LODS, LOOP, MOV, MOVNTI, MOVS, MUL, NOP, POP, POPF, PUSH, PUSHF, RDTSC, RET, SAHF, SCAS, SETO, SHL, STMXCSR, STOS, SYSCALL, TEST, XADD, XCHG}
use Rattle.x86_table.specs.declared.mnemonics.vectors.TheConstants.{PCMPESTRM, PCMPISTRI, PTEST, UCOMISD}
use Rattle.x86_table.specs.declared.forms.Row.{Row}
use Rattle.x86_table.specs.Rows.{the_rows}

-- what the first row of the name and the size says that it writes
abbrev pub first_writes : ℕ → ℕ → List Row → Option Outputs
first_writes name size [] = None
first_writes name size (r ∷ rows) = if (r.name.0 == name) && (r.size == size) then Some r.outputs else first_writes name size rows

-- what a row writes
abbrev pub writing : Destinations → Implied → StoreKind → Option Outputs
writing operands own memory = Some (record { destinations = operands; implied = own; store = memory })

-- these write so
pub record WorkedWrites : Type 0 where
  -- the first operand
  pub add : first_writes ADD 32 the_rows ≡ writing destinations.First implied.Absent kind.Operand
  -- nothing
  pub cmp : first_writes CMP 32 the_rows ≡ writing destinations.Nothing implied.Absent kind.Absent
  -- nothing
  pub test : first_writes TEST 32 the_rows ≡ writing destinations.Nothing implied.Absent kind.Absent
  -- nothing
  pub nop : first_writes NOP 0 the_rows ≡ writing destinations.Nothing implied.Absent kind.Absent
  -- both operands
  pub xchg : first_writes XCHG 64 the_rows ≡ writing destinations.FirstAndSecond implied.Absent kind.Operand
  -- the first operand
  pub mov : first_writes MOV 64 the_rows ≡ writing destinations.First implied.Absent kind.Operand
  -- the first operand
  pub lea : first_writes LEA 64 the_rows ≡ writing destinations.First implied.Absent kind.Operand
  -- rsp, 8 bytes of the stack
  pub push_64 : first_writes PUSH 64 the_rows ≡ writing destinations.Nothing implied.Rsp kind.PushQuad
  -- rsp, 2 bytes of the stack
  pub push_16 : first_writes PUSH 16 the_rows ≡ writing destinations.Nothing implied.Rsp kind.PushWord
  -- the first operand, rsp
  pub pop : first_writes POP 64 the_rows ≡ writing destinations.First implied.Rsp kind.Operand
  -- rsp, 8 bytes of the stack
  pub pushf : first_writes PUSHF 64 the_rows ≡ writing destinations.Nothing implied.Rsp kind.PushQuad
  -- rsp
  pub popf : first_writes POPF 64 the_rows ≡ writing destinations.Nothing implied.Rsp kind.Absent
  -- rax
  pub mul_8 : first_writes MUL 8 the_rows ≡ writing destinations.Nothing implied.Rax kind.Absent
  -- rax, rdx
  pub mul_64 : first_writes MUL 64 the_rows ≡ writing destinations.Nothing implied.RaxRdx kind.Absent
  -- rax, rdx
  pub idiv : first_writes IDIV 32 the_rows ≡ writing destinations.Nothing implied.RaxRdx kind.Absent
  -- the first operand
  pub shl : first_writes SHL 32 the_rows ≡ writing destinations.First implied.Absent kind.Operand
  -- nothing
  pub bt : first_writes BT 32 the_rows ≡ writing destinations.Nothing implied.Absent kind.Absent
  -- the first operand, where that is memory, at an unfixed address
  pub bts : first_writes BTS 32 the_rows ≡ writing destinations.First implied.Absent kind.BitString
  -- the first operand
  pub bswap : first_writes BSWAP 64 the_rows ≡ writing destinations.First implied.Absent kind.Operand
  -- the first operand, rax
  pub cmpxchg : first_writes CMPXCHG 32 the_rows ≡ writing destinations.First implied.Rax kind.Operand
  -- both operands
  pub xadd : first_writes XADD 32 the_rows ≡ writing destinations.FirstAndSecond implied.Absent kind.Operand
  -- the first operand, rax, rdx
  pub cmpxchg8b : first_writes CMPXCHG8B 0 the_rows ≡ writing destinations.First implied.RaxRdx kind.Operand
  -- the first operand, rax, rdx
  pub cmpxchg16b : first_writes CMPXCHG16B 0 the_rows ≡ writing destinations.First implied.RaxRdx kind.Operand
  -- the first operand
  pub seto : first_writes SETO 8 the_rows ≡ writing destinations.First implied.Absent kind.Operand
  -- the first operand
  pub cmovo : first_writes CMOVO 32 the_rows ≡ writing destinations.First implied.Absent kind.Operand
  -- rax
  pub cdqe : first_writes CDQE 0 the_rows ≡ writing destinations.Nothing implied.Rax kind.Absent
  -- rdx
  pub cqo : first_writes CQO 0 the_rows ≡ writing destinations.Nothing implied.Rdx kind.Absent
  -- rsi, rdi, memory at an unfixed address
  pub movs : first_writes MOVS 8 the_rows ≡ writing destinations.Nothing implied.RsiRdi kind.Unfixed
  -- rsi, rdi
  pub cmps : first_writes CMPS 8 the_rows ≡ writing destinations.Nothing implied.RsiRdi kind.Absent
  -- rdi, memory at an unfixed address
  pub stos : first_writes STOS 64 the_rows ≡ writing destinations.Nothing implied.Rdi kind.Unfixed
  -- rax, rsi
  pub lods : first_writes LODS 8 the_rows ≡ writing destinations.Nothing implied.RaxRsi kind.Absent
  -- rdi
  pub scas : first_writes SCAS 8 the_rows ≡ writing destinations.Nothing implied.Rdi kind.Absent
  -- nothing
  pub call : first_writes CALL 64 the_rows ≡ writing destinations.Nothing implied.Absent kind.Absent
  -- nothing
  pub jmp : first_writes JMP 64 the_rows ≡ writing destinations.Nothing implied.Absent kind.Absent
  -- rcx
  pub loop_insn : first_writes LOOP 64 the_rows ≡ writing destinations.Nothing implied.Rcx kind.Absent
  -- nothing
  pub jrcxz : first_writes JRCXZ 64 the_rows ≡ writing destinations.Nothing implied.Absent kind.Absent
  -- nothing
  pub ret : first_writes RET 64 the_rows ≡ writing destinations.Nothing implied.Absent kind.Absent
  -- rsp, rbp
  pub leave : first_writes LEAVE 64 the_rows ≡ writing destinations.Nothing implied.RspRbp kind.Absent
  -- rax, rcx, r11, memory at an unfixed address
  pub syscall : first_writes SYSCALL 0 the_rows ≡ writing destinations.Nothing implied.RaxRcxR11 kind.Unfixed
  -- rax, rbx, rcx, rdx
  pub cpuid : first_writes CPUID 0 the_rows ≡ writing destinations.Nothing implied.RaxRbxRcxRdx kind.Absent
  -- rax, rdx
  pub rdtsc : first_writes RDTSC 0 the_rows ≡ writing destinations.Nothing implied.RaxRdx kind.Absent
  -- rax, memory at an unfixed address
  pub int_insn : first_writes INT 0 the_rows ≡ writing destinations.Nothing implied.Rax kind.Unfixed
  -- nothing
  pub ldmxcsr : first_writes LDMXCSR 0 the_rows ≡ writing destinations.Nothing implied.Absent kind.Absent
  -- the first operand
  pub stmxcsr : first_writes STMXCSR 0 the_rows ≡ writing destinations.First implied.Absent kind.Operand
  -- the first operand
  pub movnti_32 : first_writes MOVNTI 32 the_rows ≡ writing destinations.First implied.Absent kind.Operand
  -- the first operand
  pub movnti_64 : first_writes MOVNTI 64 the_rows ≡ writing destinations.First implied.Absent kind.Operand
  -- rax
  pub lahf : first_writes LAHF 0 the_rows ≡ writing destinations.Nothing implied.Rax kind.Absent
  -- nothing
  pub sahf : first_writes SAHF 0 the_rows ≡ writing destinations.Nothing implied.Absent kind.Absent
  -- nothing
  pub ucomisd : first_writes UCOMISD 0 the_rows ≡ writing destinations.Nothing implied.Absent kind.Absent
  -- nothing
  pub ptest : first_writes PTEST 0 the_rows ≡ writing destinations.Nothing implied.Absent kind.Absent
  -- xmm0
  pub pcmpestrm : first_writes PCMPESTRM 0 the_rows ≡ writing destinations.Nothing implied.Xmm0 kind.Absent
  -- rcx
  pub pcmpistri : first_writes PCMPISTRI 0 the_rows ≡ writing destinations.Nothing implied.Rcx kind.Absent
