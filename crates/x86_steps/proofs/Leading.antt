-- What an instruction does goes where its flow leads.
use Rattle.std.proofs.Common.{◌≡◌, ℕ, ◌-◌, ◌^◌, ◌==◌, ◌||◌, Bool, true, false, cond, Option}
use Rattle.x86_insn.specs.Views.{Seen, absent, register, immediate, memory, target, View}
use Rattle.x86_lookup.specs.Writing.{writes_general}
use Rattle.x86_table.specs.declared.mnemonics.integers.TheConstants.{ADD, CALL, HLT, JMP, LEA, LEAVE, MOV, POP, POPF, PUSH, PUSHF, RET, SUB, UD2}
use Rattle.insn_effects.specs.Actions.{Action, push, push_flags, pop, pop_flags, push_word, pop_word, leave, mov, call, ends}
use Rattle.insn_effects.specs.Decoding.{by_writes, lea_of, plus_of, quad_action, sized_action, jump_to, is_branch, flow_action, action_of}
use Rattle.insn_effects.specs.Flows.{Flow, onward, returns, stops, jump_flow, call_flow, flow_of}
use Rattle.insn_effects.specs.Listed.{writes_of}
use Rattle.x86_steps.specs.States.{State}
use Rattle.x86_steps.specs.Steps.{Goes, Does}
use Rattle.x86_steps.specs.Leading.{distance_of, Leads}

-- the action leads on
record IsOnward (x : Action) : Type 0 where
  goes : (next : ℕ) (s t : State) → Goes x next s t → t.place ≡ next

-- what the action does leads there
record IsLed (x : Action) (flow : Flow) (d : Option ℕ) : Type 0 where
  leads : (next : ℕ) (s t : State) → Does x next s t → Leads flow d s.place next t.place

lea_onward : (o p : Seen) (x : Action) → IsOnward x → IsOnward (lea_of o p x)
lea_onward absent p x h = h
lea_onward (immediate n) p x h = h
lea_onward (memory a d) p x h = h
lea_onward (target d) p x h = h
lea_onward (register r) absent x h = h
lea_onward (register r) (register q) x h = h
lea_onward (register r) (immediate n) x h = h
lea_onward (register r) (memory a d) x h = record { goes = λ next s t g. g }
lea_onward (register r) (target d) x h = h

plus_onward : (o p : Seen) (amount : ℕ → ℕ) (x : Action) → IsOnward x → IsOnward (plus_of o p amount x)
plus_onward absent p m x h = h
plus_onward (immediate n) p m x h = h
plus_onward (memory a d) p m x h = h
plus_onward (target d) p m x h = h
plus_onward (register r) absent m x h = h
plus_onward (register r) (register q) m x h = h
plus_onward (register r) (immediate n) m x h = record { goes = λ next s t g. g }
plus_onward (register r) (memory a d) m x h = h
plus_onward (register r) (target d) m x h = h

quad_onward : (n : ℕ) (o p : Seen) (x : Action) → IsOnward x → IsOnward (quad_action n o p x)
quad_onward n o p x k = by_tests (n == PUSH) (n == POP) (n == PUSHF) (n == POPF) (n == LEAVE) (n == MOV) (n == LEA) (n == ADD) (n == SUB)
  where
    by_tests : (a b c d e f i j l : Bool) → IsOnward
        (cond a (push o) (cond b (pop o) (cond c push_flags (cond d pop_flags (cond e leave (cond f (mov o p)
        (cond i (lea_of o p x) (cond j (plus_of o p (λ n. n) x) (cond l (plus_of o p (λ n. 2 ^ 64 - n) x) x)))))))))
    by_tests true b c d e f i j l = record { goes = λ next s t g. g }
    by_tests false true c d e f i j l = record { goes = λ next s t g. g }
    by_tests false false true d e f i j l = record { goes = λ next s t g. g }
    by_tests false false false true e f i j l = record { goes = λ next s t g. g }
    by_tests false false false false true f i j l = record { goes = λ next s t g. g }
    by_tests false false false false false true i j l = record { goes = λ next s t g. g }
    by_tests false false false false false false true j l = lea_onward o p x k
    by_tests false false false false false false false true l = plus_onward o p (λ n. n) x k
    by_tests false false false false false false false false true = plus_onward o p (λ n. 2 ^ 64 - n) x k
    by_tests false false false false false false false false false = k

sized_onward : (n : ℕ) (o : Seen) (x : Action) → IsOnward x → IsOnward (sized_action n o x)
sized_onward n o x k = by_tests (n == PUSH) (n == POP)
  where
    by_tests : (a b : Bool) → IsOnward (cond a push_word (cond b (pop_word o) x))
    by_tests true b = record { goes = λ next s t g. g }
    by_tests false true = record { goes = λ next s t g. g }
    by_tests false false = k

rest_onward : (n : ℕ) (wide : Bool) (o p : Seen) (x : Action) → IsOnward x → IsOnward (cond wide (quad_action n o p x) (sized_action n o x))
rest_onward n true o p x k = quad_onward n o p x k
rest_onward n false o p x k = sized_onward n o x k

jump_led : (o : Seen) (falls : Bool) (written : ℕ → Bool) → IsLed (jump_to o falls written) (jump_flow o falls) (distance_of o)
jump_led absent b w = record { leads = λ next s t d. d.changes }
jump_led (register r) b w = record { leads = λ next s t d. d.changes }
jump_led (immediate n) b w = record { leads = λ next s t d. d.changes }
jump_led (memory a n) b w = record { leads = λ next s t d. d.changes }
jump_led (target n) b w = record { leads = λ next s t d. d.goes }

call_led : (o : Seen) (d : Option ℕ) → IsLed call (call_flow o) d
call_led absent d = record { leads = λ next s t d. d.goes }
call_led (register r) d = record { leads = λ next s t d. d.goes }
call_led (immediate n) d = record { leads = λ next s t d. d.goes }
call_led (memory a n) d = record { leads = λ next s t d. d.goes }
call_led (target n) d = record { leads = λ next s t d. d.goes }

flow_led : (n : ℕ) (o : Seen) (written : ℕ → Bool) (x : Action) → IsOnward x → IsLed (flow_action n o written x)
    (cond (n == JMP) (jump_flow o false) (cond (is_branch n) (jump_flow o true) (cond (n == CALL) (call_flow o)
    (cond (n == RET) returns (cond ((n == UD2) || (n == HLT)) stops onward))))) (distance_of o)
flow_led n o w x k = by_tests (n == JMP) (is_branch n) (n == CALL) (n == RET) ((n == UD2) || (n == HLT))
  where
    by_tests : (a b c d e : Bool) → IsLed
        (cond a (jump_to o false w) (cond b (jump_to o true w) (cond c call (cond (d || e) ends x))))
        (cond a (jump_flow o false) (cond b (jump_flow o true) (cond c (call_flow o) (cond d returns (cond e stops onward))))) (distance_of o)
    by_tests true b c d e = jump_led o false w
    by_tests false true c d e = jump_led o true w
    by_tests false false true d e = call_led o (distance_of o)
    by_tests false false false true e = record { leads = λ next s t d. d.changes }
    by_tests false false false false true = record { leads = λ next s t d. d.changes }
    by_tests false false false false false = record { leads = λ next s t d. k.goes next s t d.goes }

view_led : (v : View) → IsLed (action_of v) (flow_of v) (distance_of v.first)
unfolding action_of
view_led v = flow_led v.name.0 v.first (writes_general (writes_of v))
    (cond (v.size == 64) (quad_action v.name.0 v.first v.second (by_writes v)) (sized_action v.name.0 v.first (by_writes v)))
    (rest_onward v.name.0 (v.size == 64) v.first v.second (by_writes v) (record { goes = λ next s t g. g }))

-- whatever an instruction does goes where its flow leads
pub led : (v : View) (next : ℕ) (s t : State) → Does (action_of v) next s t → Leads (flow_of v) (distance_of v.first) s.place next t.place
led v next s t d = (view_led v).leads next s t d
