-- What is followed of some instructions, worked out by hand from the Intel manual (volume 2, chapters 3 and 4). Registers have their numbers among the
-- seven: rsp 0, rbx 1, rbp 2, r12 to r15 3 to 6; bits of those that are written: 1, 2, 4, 8 to 64.
use Rattle.std.specs.Prelude.{◌≡◌, ◌-◌, ◌^◌, ◌||◌, ℕ, Bool, true, false, Option, None, Some, [], ◌∷◌}
use Rattle.std.specs.List.{list_all}
use Rattle.x86_insn.specs.declared.registers.Class.{Class}
use Rattle.x86_insn.specs.declared.registers.Class.TheVariants as class
use Rattle.x86_insn.specs.declared.insns.Prefix.TheVariants as prefix
use Rattle.x86_insn.specs.declared.insns.Segment.TheVariants as segment
use Rattle.x86_insn.specs.declared.insns.Base.TheVariants as base
use Rattle.x86_insn.specs.declared.insns.Index.TheVariants as index
use Rattle.x86_insn.specs.declared.insns.Address.{Address}
use Rattle.x86_insn.specs.Views.{Seen, absent, register, immediate, memory, target, View}
use Rattle.x86_table.specs.declared.mnemonics.integers.TheConstants.{ADD, AND, BSWAP, BTS, CALL, CMOVE, CMP, CMPXCHG, CPUID, CQO, ENDBR64, HLT, IMUL, INC, INT3, JA, JAE, JB, JBE, JE, JG, JGE, JL, JLE, JMP, JNE, JNO, JNP, JNS, JO, JP, JRCXZ, JS, LEA, LEAVE, LOOP, LOOPE, LOOPNE, MOV, MOVABS, MOVNTI, MOVS, MUL, NEG, NOP, POP, POPF, PUSH, PUSHF, RET, SETE, SHL, SUB, SYSCALL, TEST, UD2, XADD, XCHG, XOR}
use Rattle.x86_table.specs.declared.mnemonics.vectors.TheConstants.{MOVAPS, MOVQ}
use Rattle.insn_effects.specs.Decoding.{is_branch, action_of}
use Rattle.insn_effects.specs.Effects.{effect_of}
use Rattle.insn_effects.specs.Flows.{Flow, onward, jumps, calls, through, returns, stops, flow_of, is_unsupported}
use Rattle.insn_effects.specs.Quiet.{implies_some}
use Rattle.insn_effects.specs.Followed.{FollowedStore, FollowedLoad, Followed, followed, wrote}

-- an instruction without a prefix and a third operand
abbrev pub insn : ℕ → ℕ → Seen → Seen → View
insn name size first second =
    record { name = record { 0 = name }; size = size; «prefix» = prefix.Absent; first = first; second = second; third = absent }

-- a register, of this class
abbrev pub part : Class → ℕ → Seen
part kind n = register (record { class = kind; number = n })

-- a register of 64 bits
abbrev pub quad : ℕ → Seen
quad n = part class.Quad n

-- an address of a base alone
abbrev pub at_base : ℕ → Address
at_base n = record { segment = None; base = base.Of n; index = index.Absent }

-- of a base and rax as its index
abbrev pub at_index : ℕ → Address
at_index n = record { segment = None; base = base.Of n; index = index.By 0 0 }

-- of a base in the segment of fs
abbrev pub in_fs : ℕ → Address
in_fs n = record { segment = Some segment.Fs; base = base.Of n; index = index.Absent }

-- of rip alone
abbrev pub at_rip : Address
at_rip = record { segment = None; base = base.Rip; index = index.Absent }

-- only that registers are written is followed
abbrev pub writes : ℕ → Followed
writes bits = wrote bits None

-- nothing is followed
abbrev pub nothing : Followed
nothing = writes 0

-- a register gets what another holds, and a number more
abbrev pub moves_to : (to base add : ℕ) → Followed
moves_to to held add = record { moves = Some (record { to = to; base = held; add = add }); written = 0; stores = None; loads = None; calls = false }

-- bytes at a displacement from a base
abbrev pub storing : (base displacement size register : ℕ) → FollowedStore
storing held displacement size saved = record { base = held; displacement = displacement; size = size; register = saved }

-- only that bytes are stored is followed
abbrev pub stores_at : (base displacement size register : ℕ) → Followed
stores_at held displacement size saved = wrote 0 (Some (storing held displacement size saved))

-- a register and the place that it is loaded from
abbrev pub loading : (base displacement register : ℕ) → FollowedLoad
loading held displacement loaded = record { base = held; displacement = displacement; register = loaded }

-- a register is loaded, and registers are written
abbrev pub loads_from : (written base displacement register : ℕ) → Followed
loads_from written held displacement loaded =
    record { moves = None; written = written; stores = None; loads = Some (loading held displacement loaded); calls = false }

-- rsp goes down by 8, and a register is stored there, or others
abbrev pub pushes : ℕ → Followed
pushes saved = record {
  moves = Some (record { to = 0; base = 0; add = 2 ^ 64 - 8 });
  written = 0;
  stores = Some (storing 0 (2 ^ 64 - 8) 8 saved);
  loads = None;
  calls = false;
}

-- rsp goes up by 8
abbrev pub pops : ℕ → Option FollowedLoad → Followed
pops written loaded =
    record { moves = Some (record { to = 0; base = 0; add = 8 }); written = written; stores = None; loads = loaded; calls = false }

-- rsp goes up by 8, and 8 bytes are stored
abbrev pub pops_to : (base displacement : ℕ) → Followed
pops_to held displacement = record {
  moves = Some (record { to = 0; base = 0; add = 8 });
  written = 0;
  stores = Some (storing held displacement 8 7);
  loads = None;
  calls = false;
}

-- the return address is stored
abbrev pub calling : Followed
calling = record { moves = None; written = 0; stores = Some (storing 0 (2 ^ 64 - 8) 8 7); loads = None; calls = true }

-- what is followed, where control goes, and that the use of the stack is not supported
pub record Shown : Type 0 where
  pub effect : Followed
  pub flow : Flow
  pub unsupported : Bool

-- of an instruction
abbrev pub shown : View → Shown
shown v = record { effect = followed (effect_of (action_of v)); flow = flow_of v; unsupported = is_unsupported v }

-- the same by hand
abbrev pub does : Followed → Flow → Bool → Shown
does effect flow unsupported = record { effect = effect; flow = flow; unsupported = unsupported }

-- pushes, pops, calls and returns
pub record WorkedStack : Type 0 where
  -- push %rbx
  pub push_rbx : shown (insn PUSH 64 (quad 3) absent) ≡ does (pushes 1) onward false
  -- push %r12
  pub push_r12 : shown (insn PUSH 64 (quad 12) absent) ≡ does (pushes 3) onward false
  -- push %rax: not callee-saved
  pub push_rax : shown (insn PUSH 64 (quad 0) absent) ≡ does (pushes 7) onward false
  -- push %rsp
  pub push_rsp : shown (insn PUSH 64 (quad 4) absent) ≡ does (pushes 7) onward false
  -- push $5
  pub push_number : shown (insn PUSH 64 (immediate (Some 5)) absent) ≡ does (pushes 7) onward false
  -- push 8(%rsp)
  pub push_memory : shown (insn PUSH 64 (memory (at_base 4) (Some 8)) absent) ≡ does (pushes 7) onward false
  -- pushw %ax: as a push of 64 bits, and not supported
  pub push_word : shown (insn PUSH 16 (part class.Word 0) absent) ≡ does (pushes 7) onward true
  -- pushw %bx: no copy
  pub push_word_rbx : shown (insn PUSH 16 (part class.Word 3) absent) ≡ does (pushes 7) onward true
  -- pushf
  pub push_flags : shown (insn PUSHF 64 absent absent) ≡ does (pushes 7) onward false
  -- pop %rbx
  pub pop_rbx : shown (insn POP 64 (quad 3) absent) ≡ does (pops 2 (Some (loading 0 0 1))) onward false
  -- pop %rbp
  pub pop_rbp : shown (insn POP 64 (quad 5) absent) ≡ does (pops 4 (Some (loading 0 0 2))) onward false
  -- pop %r15
  pub pop_r15 : shown (insn POP 64 (quad 15) absent) ≡ does (pops 64 (Some (loading 0 0 6))) onward false
  -- pop %rax
  pub pop_rax : shown (insn POP 64 (quad 0) absent) ≡ does (pops 0 None) onward false
  -- pop %rsp
  pub pop_rsp : shown (insn POP 64 (quad 4) absent) ≡ does (pops 0 None) onward true
  -- pop 8(%rsp): rsp counts after its rise
  pub pop_top : shown (insn POP 64 (memory (at_base 4) (Some 8)) absent) ≡ does (pops_to 0 16) onward false
  -- pop -8(%rsp): where rsp was before its rise
  pub pop_below : shown (insn POP 64 (memory (at_base 4) (Some (2 ^ 64 - 8))) absent) ≡ does (pops_to 0 0) onward false
  -- pop -8(%rbp)
  pub pop_base : shown (insn POP 64 (memory (at_base 5) (Some (2 ^ 64 - 8))) absent) ≡ does (pops_to 2 (2 ^ 64 - 8)) onward false
  -- pop (%rbx,%rax,1)
  pub pop_index : shown (insn POP 64 (memory (at_index 3) (Some 0)) absent) ≡ does (pops 0 None) onward false
  -- pop %fs:8(%rsp): the base of fs may be any number
  pub pop_segment : shown (insn POP 64 (memory (in_fs 4) (Some 8)) absent) ≡ does (pops 0 None) onward false
  -- pop (%rax)
  pub pop_other : shown (insn POP 64 (memory (at_base 0) (Some 0)) absent) ≡ does (pops 0 None) onward false
  -- popw %bx: rbx is written, and loaded with no copy
  pub pop_word : shown (insn POP 16 (part class.Word 3) absent) ≡ does (pops 2 None) onward true
  -- popw %sp
  pub pop_word_rsp : shown (insn POP 16 (part class.Word 4) absent) ≡ does (pops 0 None) onward true
  -- popf
  pub pop_flags : shown (insn POPF 64 absent absent) ≡ does (pops 0 None) onward false
  -- leave
  pub leave_insn : shown (insn LEAVE 64 absent absent) ≡ does (record { moves = Some (record { to = 0; base = 2; add = 8 }); written = 4; stores = None; loads = Some (loading 2 0 2); calls = false }) onward false
  -- call g
  pub call_target : shown (insn CALL 64 (target None) absent) ≡ does calling calls false
  -- call *%rax
  pub call_register : shown (insn CALL 64 (quad 0) absent) ≡ does calling onward false
  -- call *8(%rbx)
  pub call_memory : shown (insn CALL 64 (memory (at_base 3) (Some 8)) absent) ≡ does calling onward false
  -- ret
  pub ret_insn : shown (insn RET 64 absent absent) ≡ does nothing returns false
  -- ret $8
  pub ret_bytes : shown (insn RET 64 (immediate (Some 8)) absent) ≡ does nothing returns true
  -- ret $0: of no bytes, and not supported either
  pub ret_nothing : shown (insn RET 64 (immediate (Some 0)) absent) ≡ does nothing returns true

-- jumps, and what does nothing that is followed
pub record WorkedFlows : Type 0 where
  -- jmp g
  pub jmp_target : shown (insn JMP 64 (target None) absent) ≡ does nothing (jumps false) false
  -- jmp *%rax
  pub jmp_register : shown (insn JMP 64 (quad 0) absent) ≡ does nothing through false
  -- jmp *(%rsp)
  pub jmp_memory : shown (insn JMP 64 (memory (at_base 4) (Some 0)) absent) ≡ does nothing through false
  -- jo g
  pub jo_target : shown (insn JO 64 (target None) absent) ≡ does nothing (jumps true) false
  -- je g
  pub je_target : shown (insn JE 64 (target None) absent) ≡ does nothing (jumps true) false
  -- jg g
  pub jg_target : shown (insn JG 64 (target None) absent) ≡ does nothing (jumps true) false
  -- loop g: rcx is none of the seven
  pub loop_target : shown (insn LOOP 64 (target None) absent) ≡ does nothing (jumps true) false
  -- loopne g
  pub loopne_target : shown (insn LOOPNE 64 (target None) absent) ≡ does nothing (jumps true) false
  -- loope g
  pub loope_target : shown (insn LOOPE 64 (target None) absent) ≡ does nothing (jumps true) false
  -- jrcxz g
  pub jrcxz_target : shown (insn JRCXZ 64 (target None) absent) ≡ does nothing (jumps true) false
  -- ud2
  pub ud2_insn : shown (insn UD2 0 absent absent) ≡ does nothing stops false
  -- hlt
  pub hlt_insn : shown (insn HLT 0 absent absent) ≡ does nothing stops false
  -- int3
  pub int3_insn : shown (insn INT3 0 absent absent) ≡ does nothing onward false
  -- nop
  pub nop_insn : shown (insn NOP 0 absent absent) ≡ does nothing onward false
  -- endbr64
  pub endbr64_insn : shown (insn ENDBR64 0 absent absent) ≡ does nothing onward false
  -- syscall
  pub syscall_insn : shown (insn SYSCALL 0 absent absent) ≡ does nothing onward false

-- moves, addresses and sums
pub record WorkedMoves : Type 0 where
  -- mov %rsp,%rbp
  pub mov_rsp_rbp : shown (insn MOV 64 (quad 5) (quad 4)) ≡ does (moves_to 2 0 0) onward false
  -- mov %r12,%rsp
  pub mov_r12_rsp : shown (insn MOV 64 (quad 4) (quad 12)) ≡ does (moves_to 0 3 0) onward false
  -- mov %rax,%rbx
  pub mov_rax_rbx : shown (insn MOV 64 (quad 3) (quad 0)) ≡ does (writes 2) onward false
  -- mov %rbx,%rax
  pub mov_rbx_rax : shown (insn MOV 64 (quad 0) (quad 3)) ≡ does nothing onward false
  -- mov $1,%rbx
  pub mov_number : shown (insn MOV 64 (quad 3) (immediate (Some 1))) ≡ does (writes 2) onward false
  -- mov %rbx,16(%rsp)
  pub mov_store : shown (insn MOV 64 (memory (at_base 4) (Some 16)) (quad 3)) ≡ does (stores_at 0 16 8 1) onward false
  -- mov %rax,(%rsp)
  pub mov_store_rax : shown (insn MOV 64 (memory (at_base 4) (Some 0)) (quad 0)) ≡ does (stores_at 0 0 8 7) onward false
  -- mov %rsp,(%rsp): none of the six is saved
  pub mov_store_rsp : shown (insn MOV 64 (memory (at_base 4) (Some 0)) (quad 4)) ≡ does (stores_at 0 0 8 7) onward false
  -- movq $5,-8(%r15)
  pub mov_store_number : shown (insn MOV 64 (memory (at_base 15) (Some (2 ^ 64 - 8))) (immediate (Some 5))) ≡ does (stores_at 6 (2 ^ 64 - 8) 8 7) onward false
  -- mov %rbx,(%rsp,%rax,1)
  pub mov_store_index : shown (insn MOV 64 (memory (at_index 4) (Some 0)) (quad 3)) ≡ does nothing onward false
  -- mov %rbx,%fs:(%rsp)
  pub mov_store_segment : shown (insn MOV 64 (memory (in_fs 4) (Some 0)) (quad 3)) ≡ does nothing onward false
  -- mov %rbx,g(%rsp), g not known
  pub mov_store_later : shown (insn MOV 64 (memory (at_base 4) None) (quad 3)) ≡ does nothing onward false
  -- mov 16(%rsp),%rbx
  pub mov_load : shown (insn MOV 64 (quad 3) (memory (at_base 4) (Some 16))) ≡ does (loads_from 2 0 16 1) onward false
  -- mov (%rbx),%rbx: the address counts rbx as it was
  pub mov_load_base : shown (insn MOV 64 (quad 3) (memory (at_base 3) (Some 0))) ≡ does (loads_from 2 1 0 1) onward false
  -- mov (%rbp),%rsp
  pub mov_load_rsp : shown (insn MOV 64 (quad 4) (memory (at_base 5) (Some 0))) ≡ does (writes 1) onward false
  -- mov (%rax),%rbx
  pub mov_load_other : shown (insn MOV 64 (quad 3) (memory (at_base 0) (Some 0))) ≡ does (writes 2) onward false
  -- mov %edi,%ebx: the whole register is written
  pub mov_long : shown (insn MOV 32 (part class.Long 3) (part class.Long 7)) ≡ does (writes 2) onward false
  -- mov %al,%bh: rbx in part
  pub mov_high : shown (insn MOV 8 (part class.High 7) (part class.Byte 0)) ≡ does (writes 2) onward false
  -- mov %al,16(%rsp): one byte
  pub mov_byte : shown (insn MOV 8 (memory (at_base 4) (Some 16)) (part class.Byte 0)) ≡ does (stores_at 0 16 1 7) onward false
  -- mov %bl,16(%rsp): not the whole register
  pub mov_byte_rbx : shown (insn MOV 8 (memory (at_base 4) (Some 16)) (part class.Byte 3)) ≡ does (stores_at 0 16 1 7) onward false
  -- lea 8(%rsp),%rbp
  pub lea_top : shown (insn LEA 64 (quad 5) (memory (at_base 4) (Some 8))) ≡ does (moves_to 2 0 8) onward false
  -- lea (%rsp,%rax,1),%rbp
  pub lea_index : shown (insn LEA 64 (quad 5) (memory (at_index 4) (Some 0))) ≡ does (writes 4) onward false
  -- lea %fs:8(%rsp),%rbp: an address without the base of its segment
  pub lea_segment : shown (insn LEA 64 (quad 5) (memory (in_fs 4) (Some 8))) ≡ does (moves_to 2 0 8) onward false
  -- lea 8(%rip),%rbx
  pub lea_rip : shown (insn LEA 64 (quad 3) (memory at_rip (Some 8))) ≡ does (writes 2) onward false
  -- lea 8(%rsp),%rax
  pub lea_other : shown (insn LEA 64 (quad 0) (memory (at_base 4) (Some 8))) ≡ does nothing onward false
  -- lea 8(%rsp),%ebp
  pub lea_long : shown (insn LEA 32 (part class.Long 5) (memory (at_base 4) (Some 8))) ≡ does (writes 4) onward false
  -- add $24,%rsp
  pub add_number : shown (insn ADD 64 (quad 4) (immediate (Some 24))) ≡ does (moves_to 0 0 24) onward false
  -- add $8,%esp
  pub add_long : shown (insn ADD 32 (part class.Long 4) (immediate (Some 8))) ≡ does (writes 1) onward false
  -- add 8(%rsp),%rsp
  pub add_loaded : shown (insn ADD 64 (quad 4) (memory (at_base 4) (Some 8))) ≡ does (writes 1) onward false
  -- sub $24,%rsp
  pub sub_number : shown (insn SUB 64 (quad 4) (immediate (Some 24))) ≡ does (moves_to 0 0 (2 ^ 64 - 24)) onward false
  -- sub $0,%rsp
  pub sub_nothing : shown (insn SUB 64 (quad 4) (immediate (Some 0))) ≡ does (moves_to 0 0 0) onward false
  -- sub $-8,%rsp
  pub sub_negative : shown (insn SUB 64 (quad 4) (immediate (Some (2 ^ 64 - 8)))) ≡ does (moves_to 0 0 8) onward false
  -- sub $g,%rsp, g not known
  pub sub_later : shown (insn SUB 64 (quad 4) (immediate None)) ≡ does (writes 1) onward false
  -- sub %rax,%rsp
  pub sub_register : shown (insn SUB 64 (quad 4) (quad 0)) ≡ does (writes 1) onward false
  -- addq $1,16(%rsp)
  pub add_memory : shown (insn ADD 64 (memory (at_base 4) (Some 16)) (immediate (Some 1))) ≡ does (stores_at 0 16 8 7) onward false

-- other instructions
pub record WorkedOthers : Type 0 where
  -- and $-32,%rsp
  pub and_number : shown (insn AND 64 (quad 4) (immediate (Some (2 ^ 64 - 32)))) ≡ does (writes 1) onward false
  -- xor %ebx,%ebx
  pub xor_long : shown (insn XOR 32 (part class.Long 3) (part class.Long 3)) ≡ does (writes 2) onward false
  -- cmp %rax,%rsp: only flags
  pub cmp_rsp : shown (insn CMP 64 (quad 4) (quad 0)) ≡ does nothing onward false
  -- test %rbx,%rbx
  pub test_rbx : shown (insn TEST 64 (quad 3) (quad 3)) ≡ does nothing onward false
  -- inc %r13
  pub inc_r13 : shown (insn INC 64 (quad 13) absent) ≡ does (writes 16) onward false
  -- negl 4(%rbp)
  pub neg_memory : shown (insn NEG 32 (memory (at_base 5) (Some 4)) absent) ≡ does (stores_at 2 4 4 7) onward false
  -- mul %rbx: rax and rdx
  pub mul_rbx : shown (insn MUL 64 (quad 3) absent) ≡ does nothing onward false
  -- imul %rax,%rbx
  pub imul_rbx : shown (insn IMUL 64 (quad 3) (quad 0)) ≡ does (writes 2) onward false
  -- shl $3,%rbx
  pub shl_rbx : shown (insn SHL 64 (quad 3) (immediate (Some 3))) ≡ does (writes 2) onward false
  -- xchg %rbx,%r12
  pub xchg_both : shown (insn XCHG 64 (quad 3) (quad 12)) ≡ does (writes 10) onward false
  -- xchg %rsp,%rbp: no copies
  pub xchg_rsp : shown (insn XCHG 64 (quad 5) (quad 4)) ≡ does (writes 5) onward false
  -- xchg %rbx,(%rsp): no copy
  pub xchg_memory : shown (insn XCHG 64 (memory (at_base 4) (Some 0)) (quad 3)) ≡ does (wrote 2 (Some (storing 0 0 8 7))) onward false
  -- xadd %rbx,(%rsp)
  pub xadd_memory : shown (insn XADD 64 (memory (at_base 4) (Some 0)) (quad 3)) ≡ does (wrote 2 (Some (storing 0 0 8 7))) onward false
  -- cmpxchg %rbx,(%rsp)
  pub cmpxchg_memory : shown (insn CMPXCHG 64 (memory (at_base 4) (Some 0)) (quad 3)) ≡ does (stores_at 0 0 8 7) onward false
  -- movnti %rax,(%rsp)
  pub movnti_memory : shown (insn MOVNTI 64 (memory (at_base 4) (Some 0)) (quad 0)) ≡ does (stores_at 0 0 8 7) onward false
  -- bts %rax,(%rsp): the bit moves the address
  pub bts_memory : shown (insn BTS 64 (memory (at_base 4) (Some 0)) (quad 0)) ≡ does nothing onward false
  -- sete 3(%rsp)
  pub sete_memory : shown (insn SETE 8 (memory (at_base 4) (Some 3)) absent) ≡ does (stores_at 0 3 1 7) onward false
  -- cmove %rax,%rbx
  pub cmove_rbx : shown (insn CMOVE 64 (quad 3) (quad 0)) ≡ does (writes 2) onward false
  -- bswap %rbx
  pub bswap_rbx : shown (insn BSWAP 64 (quad 3) absent) ≡ does (writes 2) onward false
  -- cpuid: rbx among others
  pub cpuid_insn : shown (insn CPUID 0 absent absent) ≡ does (writes 2) onward false
  -- cqo
  pub cqo_insn : shown (insn CQO 0 absent absent) ≡ does nothing onward false
  -- movsq: at an address that no operand shows
  pub movs_insn : shown (insn MOVS 64 absent absent) ≡ does nothing onward false
  -- movabs $5,%rbx: no copy
  pub movabs_rbx : shown (insn MOVABS 64 (quad 3) (immediate (Some 5))) ≡ does (writes 2) onward false
  -- movaps %xmm0,-16(%rbp)
  pub movaps_store : shown (insn MOVAPS 0 (memory (at_base 5) (Some (2 ^ 64 - 16))) (part class.Xmm 0)) ≡ does (stores_at 2 (2 ^ 64 - 16) 16 7) onward false
  -- movq %xmm3,8(%rsp)
  pub movq_store : shown (insn MOVQ 0 (memory (at_base 4) (Some 8)) (part class.Xmm 3)) ≡ does (stores_at 0 8 8 7) onward false
  -- movq %xmm0,%rbx
  pub movq_rbx : shown (insn MOVQ 0 (quad 3) (part class.Xmm 0)) ≡ does (writes 2) onward false

-- names that are read by ranges of their numbers: all that are meant are in a range, and it has no more numbers
pub record WorkedRanges : Type 0 where
  -- 16 jumps with a condition
  pub conditions : list_all is_branch (JO ∷ JNO ∷ JB ∷ JAE ∷ JE ∷ JNE ∷ JBE ∷ JA ∷ JS ∷ JNS ∷ JP ∷ JNP ∷ JL ∷ JGE ∷ JLE ∷ JG ∷ []) ≡ true
  pub no_more_conditions : JG - JO ≡ 15
  -- 4 jumps that count in rcx
  pub counting : list_all is_branch (LOOPNE ∷ LOOPE ∷ LOOP ∷ JRCXZ ∷ []) ≡ true
  pub no_more_counting : JRCXZ - LOOPNE ≡ 3
  -- neither `jmp`, `call` nor `ret`
  pub no_branches : (is_branch JMP || (is_branch CALL || is_branch RET)) ≡ false
  -- 4 pushes and pops
  pub on_stack : list_all implies_some (PUSH ∷ POP ∷ PUSHF ∷ POPF ∷ []) ≡ true
  pub no_more_on_stack : POPF - PUSH ≡ 3

-- all of these
pub record WorkedEffects : Type 0 where
  pub ranges : WorkedRanges
  pub stack : WorkedStack
  pub flows : WorkedFlows
  pub moves : WorkedMoves
  pub others : WorkedOthers
