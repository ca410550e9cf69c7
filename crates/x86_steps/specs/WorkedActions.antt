-- What some instructions do, worked out by hand from the Intel manual (volume 2, chapters 3 and 4).
use Rattle.std.specs.Prelude.{◌≡◌, ◌-◌, ◌^◌, ◌==◌, ◌||◌, ℕ, Bool, true, false, None, Some}
use Rattle.x86_insn.specs.declared.insns.Prefix.TheVariants as prefix
use Rattle.x86_insn.specs.declared.registers.Class.TheVariants as class
use Rattle.x86_insn.specs.Views.{View, absent, immediate, memory, target}
use Rattle.x86_lookup.specs.declared.writing.Store.TheVariants as store
use Rattle.x86_lookup.specs.Writing.{writes_general}
use Rattle.x86_table.specs.declared.mnemonics.integers.TheConstants.{ADD, CALL, CMPXCHG16B, CPUID, HLT, JE, JMP, LEA, LEAVE, LOOP, MOV, MOVS, POP, POPF, PUSH, PUSHF, RET, SETE, SUB, SYSCALL, XCHG}
use Rattle.x86_table.specs.declared.mnemonics.vectors.TheConstants.{MOVAPS, PXOR}
use Rattle.insn_effects.specs.Actions.{in_operand, push, push_flags, pop, pop_flags, push_word, pop_word, leave, mov, lea, plus, jump, call, ends, other}
use Rattle.insn_effects.specs.Decoding.{action_of}
use Rattle.insn_effects.specs.Listed.{writes_of}
use Rattle.insn_effects.specs.Worked.{insn, part, quad, at_base}
use Rattle.x86_steps.specs.Steps.{is_popped}

-- these are just such actions
pub record WorkedActions : Type 0 where
  -- push %rbp
  pub pushes : action_of (insn PUSH 64 (quad 5) absent) ≡ push (quad 5)
  -- pushf
  pub pushes_flags : action_of (insn PUSHF 64 absent absent) ≡ push_flags
  -- pop %rbp
  pub pops : action_of (insn POP 64 (quad 5) absent) ≡ pop (quad 5)
  -- popf
  pub pops_flags : action_of (insn POPF 64 absent absent) ≡ pop_flags
  -- leave
  pub leaves : action_of (insn LEAVE 64 absent absent) ≡ leave
  -- mov %rsp,%rbp
  pub moves : action_of (insn MOV 64 (quad 5) (quad 4)) ≡ mov (quad 5) (quad 4)
  -- mov %rbx,16(%rsp)
  pub stores : action_of (insn MOV 64 (memory (at_base 4) (Some 16)) (quad 3))
      ≡ mov (memory (at_base 4) (Some 16)) (quad 3)
  -- mov %al,16(%rsp): one byte, and no register
  pub narrow : action_of (insn MOV 8 (memory (at_base 4) (Some 16)) (part class.Byte 0))
      ≡ other (λ q. false) (in_operand (at_base 4) (Some 16) 1)
  -- lea 8(%rsp),%rbp
  pub address : action_of (insn LEA 64 (quad 5) (memory (at_base 4) (Some 8)))
      ≡ lea 5 (at_base 4) (Some 8)
  -- add $24,%rsp
  pub raises : action_of (insn ADD 64 (quad 4) (immediate (Some 24))) ≡ plus 4 (Some 24)
  -- sub $24,%rsp
  pub lowers : action_of (insn SUB 64 (quad 4) (immediate (Some 24))) ≡ plus 4 (Some (2 ^ 64 - 24))
  -- sub $g,%rsp: a number that is not known
  pub lowers_so_far : action_of (insn SUB 64 (quad 4) (immediate None)) ≡ plus 4 None
  -- jmp . + 7
  pub jumps : action_of (insn JMP 64 (target (Some 7)) absent) ≡ jump (Some 7) false (λ q. false)
  -- je . + 7
  pub branches : action_of (insn JE 64 (target (Some 7)) absent) ≡ jump (Some 7) true (λ q. false)
  -- call . + 7
  pub calls : action_of (insn CALL 64 (target (Some 7)) absent) ≡ call
  -- ret
  pub returns : action_of (insn RET 64 absent absent) ≡ ends
  -- hlt
  pub halts : action_of (insn HLT 0 absent absent) ≡ ends
  -- jmp *%rax
  pub lost : action_of (insn JMP 64 (quad 0) absent) ≡ ends
  -- pushw %bp
  pub pushes_word : action_of (insn PUSH 16 (part class.Word 5) absent) ≡ push_word
  -- popw %bp
  pub pops_word : action_of (insn POP 16 (part class.Word 5) absent) ≡ pop_word (part class.Word 5)

-- the general-purpose registers that an instruction writes
abbrev pub registers_of : View → ℕ → Bool
registers_of v = writes_general (writes_of v)

-- rep movsq
abbrev pub rep_movs : View
rep_movs = record (insn MOVS 64 absent absent) { «prefix» = prefix.Rep }

-- cmpxchg16b 8(%rsp)
abbrev pub compare_pair : View
compare_pair = insn CMPXCHG16B 0 (memory (at_base 4) (Some 8)) absent

-- and these write just such registers and bytes
pub record WorkedLists : Type 0 where
  -- loop . + 7: rcx
  pub loops : (q : ℕ) → registers_of (insn LOOP 64 (target (Some 7)) absent) q ≡ (q == 1)
  -- cpuid: rbx, and not rbp
  pub cpuid_rbx : registers_of (insn CPUID 0 absent absent) 3 ≡ true
  pub cpuid_rbp : registers_of (insn CPUID 0 absent absent) 5 ≡ false
  -- xchg %rbx,%r12: both
  pub exchanges_rbx : registers_of (insn XCHG 64 (quad 3) (quad 12)) 3 ≡ true
  pub exchanges_r12 : registers_of (insn XCHG 64 (quad 3) (quad 12)) 12 ≡ true
  -- pushw %bp: rsp and two bytes, as its action says
  pub word_pushed : (q : ℕ) → registers_of (insn PUSH 16 (part class.Word 5) absent) q ≡ (q == 4)
  pub word_stored : (writes_of (insn PUSH 16 (part class.Word 5) absent)).store ≡ store.Stack 2
  -- popw %bp: rsp and rbp, as its action says
  pub word_popped : (q : ℕ) → registers_of (insn POP 16 (part class.Word 5) absent) q
      ≡ is_popped (part class.Word 5) q
  -- movaps %xmm1,%xmm4 and pxor %xmm5,%xmm5: none, though rsp and rbp have these numbers
  pub vector_moved : (q : ℕ) → registers_of (insn MOVAPS 0 (part class.Xmm 4) (part class.Xmm 1)) q
      ≡ false
  pub vector_cleared : (q : ℕ) → registers_of (insn PXOR 0 (part class.Xmm 5) (part class.Xmm 5)) q
      ≡ false
  -- mov %al,%ah and sete %ch: rax and rcx, though ah and ch have the numbers of rsp and rbp
  pub high_moved : (q : ℕ) → registers_of (insn MOV 8 (part class.High 4) (part class.Byte 0)) q
      ≡ (q == 0)
  pub high_set : (q : ℕ) → registers_of (insn SETE 8 (part class.High 5) absent) q ≡ (q == 1)
  -- rep movsq: rsi, rdi and rcx, and any bytes
  pub repeated : (q : ℕ) → registers_of rep_movs q ≡ (((q == 6) || (q == 7)) || (q == 1))
  pub repeated_stored : (writes_of rep_movs).store ≡ store.Unfixed
  -- syscall: rax, rcx and r11, and any bytes
  pub system_called : (q : ℕ) → registers_of (insn SYSCALL 0 absent absent) q
      ≡ ((q == 0) || ((q == 1) || (q == 11)))
  pub system_stored : (writes_of (insn SYSCALL 0 absent absent)).store ≡ store.Unfixed
  -- cmpxchg16b 8(%rsp): rax and rdx, and 16 bytes
  pub compared : (q : ℕ) → registers_of compare_pair q ≡ ((q == 0) || (q == 2))
  pub compared_stored : (writes_of compare_pair).store ≡ store.Operand 16
