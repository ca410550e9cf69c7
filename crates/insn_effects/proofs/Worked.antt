-- The worked effects, computed.
use Rattle.std.proofs.Common.{refl}
use Rattle.x86_table.specs.Rows.{the_rows}
use Rattle.insn_effects.specs.Listed.{admits_head, writes_by_head}
use Rattle.insn_effects.specs.Decoding.{action_of}
use Rattle.insn_effects.specs.Worked.{WorkedStack, WorkedFlows, WorkedMoves, WorkedOthers, WorkedRanges, WorkedEffects}

stack_worked : WorkedStack
unfolding the_rows admits_head writes_by_head action_of
stack_worked = record {
  push_rbx = refl;
  push_r12 = refl;
  push_rax = refl;
  push_rsp = refl;
  push_number = refl;
  push_memory = refl;
  push_word = refl;
  push_word_rbx = refl;
  push_flags = refl;
  pop_rbx = refl;
  pop_rbp = refl;
  pop_r15 = refl;
  pop_rax = refl;
  pop_rsp = refl;
  pop_top = refl;
  pop_below = refl;
  pop_base = refl;
  pop_index = refl;
  pop_segment = refl;
  pop_other = refl;
  pop_word = refl;
  pop_word_rsp = refl;
  pop_flags = refl;
  leave_insn = refl;
  call_target = refl;
  call_register = refl;
  call_memory = refl;
  ret_insn = refl;
  ret_bytes = refl;
  ret_nothing = refl;
}

flows_worked : WorkedFlows
unfolding the_rows admits_head writes_by_head action_of
flows_worked = record {
  jmp_target = refl;
  jmp_register = refl;
  jmp_memory = refl;
  jo_target = refl;
  je_target = refl;
  jg_target = refl;
  loop_target = refl;
  loopne_target = refl;
  loope_target = refl;
  jrcxz_target = refl;
  ud2_insn = refl;
  hlt_insn = refl;
  int3_insn = refl;
  nop_insn = refl;
  endbr64_insn = refl;
  syscall_insn = refl;
}

moves_worked : WorkedMoves
unfolding the_rows admits_head writes_by_head action_of
moves_worked = record {
  mov_rsp_rbp = refl;
  mov_r12_rsp = refl;
  mov_rax_rbx = refl;
  mov_rbx_rax = refl;
  mov_number = refl;
  mov_store = refl;
  mov_store_rax = refl;
  mov_store_rsp = refl;
  mov_store_number = refl;
  mov_store_index = refl;
  mov_store_segment = refl;
  mov_store_later = refl;
  mov_load = refl;
  mov_load_base = refl;
  mov_load_rsp = refl;
  mov_load_other = refl;
  mov_long = refl;
  mov_high = refl;
  mov_byte = refl;
  mov_byte_rbx = refl;
  lea_top = refl;
  lea_index = refl;
  lea_segment = refl;
  lea_rip = refl;
  lea_other = refl;
  lea_long = refl;
  add_number = refl;
  add_long = refl;
  add_loaded = refl;
  sub_number = refl;
  sub_nothing = refl;
  sub_negative = refl;
  sub_later = refl;
  sub_register = refl;
  add_memory = refl;
}

others_worked : WorkedOthers
unfolding the_rows admits_head writes_by_head action_of
others_worked = record {
  and_number = refl;
  xor_long = refl;
  cmp_rsp = refl;
  test_rbx = refl;
  inc_r13 = refl;
  neg_memory = refl;
  mul_rbx = refl;
  imul_rbx = refl;
  shl_rbx = refl;
  xchg_both = refl;
  xchg_rsp = refl;
  xchg_memory = refl;
  xadd_memory = refl;
  cmpxchg_memory = refl;
  movnti_memory = refl;
  bts_memory = refl;
  sete_memory = refl;
  cmove_rbx = refl;
  bswap_rbx = refl;
  cpuid_insn = refl;
  cqo_insn = refl;
  movs_insn = refl;
  movabs_rbx = refl;
  movaps_store = refl;
  movq_store = refl;
  movq_rbx = refl;
}

ranges_worked : WorkedRanges
ranges_worked = record {
  conditions = refl;
  no_more_conditions = refl;
  counting = refl;
  no_more_counting = refl;
  no_branches = refl;
  on_stack = refl;
  no_more_on_stack = refl;
}

pub worked : WorkedEffects
worked = record { ranges = ranges_worked; stack = stack_worked; flows = flows_worked; moves = moves_worked; others = others_worked }
