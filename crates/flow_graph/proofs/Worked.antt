-- The worked graphs, computed.
use Rattle.std.proofs.Common.{refl}
use Rattle.asm_expr.specs.Forms.{with_term, with_terms, plus_times}
use Rattle.assigned_forms.specs.Expanding.{plus_terms, expanded_within, expanded}
use Rattle.assigned_forms.specs.Linked.{linked_map, linked}
use Rattle.flow_graph.specs.Targets.{field_target}
use Rattle.flow_graph.specs.Nodes.{nodes_of}
use Rattle.flow_graph.specs.Walks.{successors, successor_lists}
use Rattle.flow_graph.specs.Worked.{WorkedFunctions, WorkedJumps, WorkedBranches, WorkedCalls, WorkedEnds, WorkedGraphs}

-- each by computing
functions_worked : WorkedFunctions
unfolding with_term with_terms plus_times plus_terms expanded_within expanded linked_map linked field_target nodes_of successors successor_lists
functions_worked = record {
  nothing = refl;
  straight = refl;
  branch = refl;
  branch_on = refl;
  loop = refl;
  no_bytes = refl;
  ends = refl;
}

jumps_worked : WorkedJumps
unfolding with_term with_terms plus_times plus_terms expanded_within expanded linked_map linked field_target nodes_of successors successor_lists
jumps_worked = record {
  jmp_inside = refl;
  jmp_start = refl;
  jmp_weak = refl;
  jmp_plt = refl;
  jmp_assigned = refl;
  jmp_alias = refl;
  jmp_of_alias = refl;
  jmp_end = refl;
  jmp_elsewhere = refl;
  jmp_undefined = refl;
  jmp_undefined_plt = refl;
  jmp_weak_outside = refl;
  jmp_sum = refl;
  jmp_behind = refl;
  jmp_back = refl;
  jmp_number = refl;
  jmp_through = refl;
}

branches_worked : WorkedBranches
unfolding with_term with_terms plus_times plus_terms expanded_within expanded linked_map linked field_target nodes_of successors successor_lists
branches_worked = record {
  je_inside = refl;
  je_weak = refl;
  je_undefined = refl;
  je_behind = refl;
}

calls_worked : WorkedCalls
unfolding with_term with_terms plus_times plus_terms expanded_within expanded linked_map linked field_target nodes_of successors successor_lists
calls_worked = record {
  call_undefined = refl;
  call_start = refl;
  call_inside = refl;
  call_alias = refl;
  call_behind = refl;
  call_through = refl;
}

ends_worked : WorkedEnds
unfolding with_term with_terms plus_times plus_terms expanded_within expanded linked_map linked field_target nodes_of successors successor_lists
ends_worked = record {
  push_last = refl;
  je_last = refl;
  call_bare = refl;
}

-- all of them
pub worked : WorkedGraphs
worked = record { functions = functions_worked; jumps = jumps_worked; branches = branches_worked; calls = calls_worked; ends = ends_worked }
