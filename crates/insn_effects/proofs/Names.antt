-- What an instruction does, by tests on its name.
use Rattle.std.proofs.Common.{◌≡◌, ◌≢◌, ℕ, ◌==◌, ◌||◌, Bool, true, false, not, refl, arith, ap, subst, ◌∙◌}
use Rattle.std.proofs.lemmas.Bool.Decides.{nat_tests}
use Rattle.x86_insn.specs.Views.{Seen, View}
use Rattle.x86_lookup.specs.Writing.{writes_general}
use Rattle.x86_table.specs.declared.mnemonics.integers.TheConstants.{CALL, HLT, JMP, POP, PUSH, RET, UD2}
use Rattle.insn_effects.specs.declared.effects.Effect.{Effect}
use Rattle.insn_effects.specs.Actions.{Action, call, ends}
use Rattle.insn_effects.specs.Listed.{writes_of}
use Rattle.insn_effects.specs.Decoding.{by_writes, quad_action, sized_action, jump_to, is_branch, action_of}
use Rattle.insn_effects.specs.Effects.{effect_of}
use Rattle.insn_effects.specs.Flows.{Flow, onward, returns, stops, jump_flow, call_flow, is_absent, is_unsupported_of, flow_of, is_unsupported}
use Rattle.insn_effects.specs.Followed.{Shows}

-- no push or pop
neither : (name : ℕ) (wide : Bool) (first : Seen) → (name == PUSH) ≡ false → (name == POP) ≡ false → is_unsupported_of name wide first ≡ false
neither name true first a b = rw b refl
neither name false first a b = rw (a, b) refl

unsupported_as : (v : View) → (v.name.0 == RET) ≡ false → is_unsupported v ≡ is_unsupported_of v.name.0 (v.size == 64) v.first
unsupported_as v r = rw r refl

supported : (v : View) → (v.name.0 == RET) ≡ false → (v.name.0 == PUSH) ≡ false → (v.name.0 == POP) ≡ false → is_unsupported v ≡ false
supported v r a b = unsupported_as v r ∙ neither v.name.0 (v.size == 64) v.first a b

-- the effect is that of the instruction
abbrev pub IsOf : View → Effect → Type 0
IsOf v e = Shows e (effect_of (action_of v)) (flow_of v) (is_unsupported v)

by_parts : (e : Effect) (a b : Action) (f g : Flow) (u w : Bool) → a ≡ b → f ≡ g → u ≡ w → Shows e (effect_of b) g w → Shows e (effect_of a) f u
by_parts e a b f g u w p q r h = rw (p, q, r) h

test_is : (n m : ℕ) → n ≡ m → (n == m) ≡ true
test_is n m h = grind (arith, nat_tests)

test_not : (n m k : ℕ) → n ≡ m → (m == k) ≡ false → (n == k) ≡ false
test_not n m k h g = rw h g

test_other : (n m : ℕ) → n ≢ m → (n == m) ≡ false
test_other n m h = grind (arith, nat_tests)

jmp_action : (v : View) → (v.name.0 == JMP) ≡ true → action_of v ≡ jump_to v.first false (writes_general (writes_of v))
unfolding action_of
jmp_action v a = rw a refl

jmp_flow : (v : View) → (v.name.0 == JMP) ≡ true → flow_of v ≡ jump_flow v.first false
jmp_flow v a = rw a refl

pub by_jmp : (v : View) (e : Effect) → v.name.0 ≡ JMP → Shows e (effect_of (jump_to v.first false (writes_general (writes_of v)))) (jump_flow v.first false) false → IsOf v e
by_jmp v e n h =
    let t = test_is v.name.0 JMP n in
    by_parts e (action_of v) (jump_to v.first false (writes_general (writes_of v))) (flow_of v) (jump_flow v.first false) (is_unsupported v) false
    (jmp_action v t) (jmp_flow v t) (supported v (test_not v.name.0 JMP RET n refl) (test_not v.name.0 JMP PUSH n refl) (test_not v.name.0 JMP POP n refl)) h

branch_action : (v : View) → (v.name.0 == JMP) ≡ false → is_branch v.name.0 ≡ true → action_of v ≡ jump_to v.first true (writes_general (writes_of v))
unfolding action_of
branch_action v a b = rw (a, b) refl

branch_flow : (v : View) → (v.name.0 == JMP) ≡ false → is_branch v.name.0 ≡ true → flow_of v ≡ jump_flow v.first true
branch_flow v a b = rw (a, b) refl

no_branch : (n m : ℕ) → is_branch n ≡ true → is_branch m ≡ false → (n == m) ≡ false
no_branch n m a b = by_test (n == m) refl
  where
    by_test : (t : Bool) → (n == m) ≡ t → t ≡ false
    by_test false e = refl
    by_test true e = let same : n ≡ m = grind (arith, nat_tests) in let bad : is_branch m ≡ true = subst (λ (x : ℕ). is_branch x ≡ true) same a in cc

pub by_branch : (v : View) (e : Effect) → v.name.0 ≢ JMP → is_branch v.name.0 ≡ true
    → Shows e (effect_of (jump_to v.first true (writes_general (writes_of v)))) (jump_flow v.first true) false → IsOf v e
by_branch v e n b h =
    let t = test_other v.name.0 JMP n in
    by_parts e (action_of v) (jump_to v.first true (writes_general (writes_of v))) (flow_of v) (jump_flow v.first true) (is_unsupported v) false
    (branch_action v t b) (branch_flow v t b) (supported v (no_branch v.name.0 RET b refl) (no_branch v.name.0 PUSH b refl) (no_branch v.name.0 POP b refl)) h

call_action : (v : View) → (v.name.0 == JMP) ≡ false → is_branch v.name.0 ≡ false → (v.name.0 == CALL) ≡ true → action_of v ≡ call
unfolding action_of
call_action v a b c = rw (a, b, c) refl

call_goes : (v : View) → (v.name.0 == JMP) ≡ false → is_branch v.name.0 ≡ false → (v.name.0 == CALL) ≡ true → flow_of v ≡ call_flow v.first
call_goes v a b c = rw (a, b, c) refl

pub by_call : (v : View) (e : Effect) → is_branch v.name.0 ≡ false → v.name.0 ≡ CALL → Shows e (effect_of call) (call_flow v.first) false → IsOf v e
by_call v e b n h =
    let t = test_is v.name.0 CALL n in
    let a = test_not v.name.0 CALL JMP n refl in
    by_parts e (action_of v) call (flow_of v) (call_flow v.first) (is_unsupported v) false
    (call_action v a b t) (call_goes v a b t) (supported v (test_not v.name.0 CALL RET n refl) (test_not v.name.0 CALL PUSH n refl) (test_not v.name.0 CALL POP n refl)) h

ret_action : (v : View) → (v.name.0 == JMP) ≡ false → is_branch v.name.0 ≡ false → (v.name.0 == CALL) ≡ false → (v.name.0 == RET) ≡ true → action_of v ≡ ends
unfolding action_of
ret_action v a b c d = rw (a, b, c, d) refl

ret_flow : (v : View) → (v.name.0 == JMP) ≡ false → is_branch v.name.0 ≡ false → (v.name.0 == CALL) ≡ false → (v.name.0 == RET) ≡ true → flow_of v ≡ returns
ret_flow v a b c d = rw (a, b, c, d) refl

ret_unsupported : (v : View) → (v.name.0 == RET) ≡ true → is_unsupported v ≡ not (is_absent v.first)
ret_unsupported v a = rw a refl

pub by_ret : (v : View) (e : Effect) → is_branch v.name.0 ≡ false → v.name.0 ≡ RET → Shows e (effect_of ends) returns (not (is_absent v.first)) → IsOf v e
by_ret v e b n h =
    let t = test_is v.name.0 RET n in
    let a = test_not v.name.0 RET JMP n refl in
    let c = test_not v.name.0 RET CALL n refl in
    by_parts e (action_of v) ends (flow_of v) returns (is_unsupported v) (not (is_absent v.first)) (ret_action v a b c t) (ret_flow v a b c t) (ret_unsupported v t) h

-- the tests before a stop
record IsNoJump (v : View) : Type 0 where
  jmp : (v.name.0 == JMP) ≡ false
  branch : is_branch v.name.0 ≡ false
  call : (v.name.0 == CALL) ≡ false
  ret : (v.name.0 == RET) ≡ false

stop_action : (v : View) → IsNoJump v → ((v.name.0 == UD2) || (v.name.0 == HLT)) ≡ true → action_of v ≡ ends
unfolding action_of
stop_action v j d = rw (j.jmp, j.branch, j.call, j.ret, d) refl

stop_flow : (v : View) → IsNoJump v → ((v.name.0 == UD2) || (v.name.0 == HLT)) ≡ true → flow_of v ≡ stops
stop_flow v j d = rw (j.jmp, j.branch, j.call, j.ret, d) refl

no_stop : (n m : ℕ) → ((n == UD2) || (n == HLT)) ≡ true → ((m == UD2) || (m == HLT)) ≡ false → (n == m) ≡ false
no_stop n m a b = by_test (n == m) refl
  where
    by_test : (t : Bool) → (n == m) ≡ t → t ≡ false
    by_test false e = refl
    by_test true e = let same : n ≡ m = grind (arith, nat_tests) in let bad : ((m == UD2) || (m == HLT)) ≡ true = subst (λ (x : ℕ). ((x == UD2) || (x == HLT)) ≡ true) same a in cc

no_jump : (v : View) → v.name.0 ≢ JMP → is_branch v.name.0 ≡ false → v.name.0 ≢ CALL → v.name.0 ≢ RET → IsNoJump v
no_jump v a b c d = record { jmp = test_other v.name.0 JMP a; branch = b; call = test_other v.name.0 CALL c; ret = test_other v.name.0 RET d }

pub by_stop : (v : View) (e : Effect) → v.name.0 ≢ JMP → is_branch v.name.0 ≡ false → v.name.0 ≢ CALL → v.name.0 ≢ RET → ((v.name.0 == UD2) || (v.name.0 == HLT)) ≡ true
    → Shows e (effect_of ends) stops false → IsOf v e
by_stop v e a b c d s h =
    let j = no_jump v a b c d in
    by_parts e (action_of v) ends (flow_of v) stops (is_unsupported v) false (stop_action v j s) (stop_flow v j s)
    (supported v j.ret (no_stop v.name.0 PUSH s refl) (no_stop v.name.0 POP s refl)) h

on_flow : (v : View) → IsNoJump v → ((v.name.0 == UD2) || (v.name.0 == HLT)) ≡ false → flow_of v ≡ onward
on_flow v j d = rw (j.jmp, j.branch, j.call, j.ret, d) refl

quad_is : (v : View) → IsNoJump v → ((v.name.0 == UD2) || (v.name.0 == HLT)) ≡ false → (v.size == 64) ≡ true → action_of v ≡ quad_action v.name.0 v.first v.second (by_writes v)
unfolding action_of
quad_is v j d s = rw (j.jmp, j.branch, j.call, j.ret, d, s) refl

other_is : (v : View) → IsNoJump v → ((v.name.0 == UD2) || (v.name.0 == HLT)) ≡ false → (v.size == 64) ≡ false → action_of v ≡ sized_action v.name.0 v.first (by_writes v)
unfolding action_of
other_is v j d s = rw (j.jmp, j.branch, j.call, j.ret, d, s) refl

pub by_quad : (v : View) (e : Effect) → v.name.0 ≢ JMP → is_branch v.name.0 ≡ false → v.name.0 ≢ CALL → v.name.0 ≢ RET → ((v.name.0 == UD2) || (v.name.0 == HLT)) ≡ false → v.size ≡ 64
    → Shows e (effect_of (quad_action v.name.0 v.first v.second (by_writes v))) onward (is_unsupported_of v.name.0 true v.first) → IsOf v e
by_quad v e a b c d s n h =
    let j = no_jump v a b c d in
    let t = test_is v.size 64 n in
    by_parts e (action_of v) (quad_action v.name.0 v.first v.second (by_writes v)) (flow_of v) onward (is_unsupported v) (is_unsupported_of v.name.0 true v.first)
    (quad_is v j s t) (on_flow v j s) (unsupported_as v j.ret ∙ ap (λ (w : Bool). is_unsupported_of v.name.0 w v.first) t) h

pub by_other : (v : View) (e : Effect) → v.name.0 ≢ JMP → is_branch v.name.0 ≡ false → v.name.0 ≢ CALL → v.name.0 ≢ RET → ((v.name.0 == UD2) || (v.name.0 == HLT)) ≡ false → v.size ≢ 64
    → Shows e (effect_of (sized_action v.name.0 v.first (by_writes v))) onward (is_unsupported_of v.name.0 false v.first) → IsOf v e
by_other v e a b c d s n h =
    let j = no_jump v a b c d in
    let t = test_other v.size 64 n in
    by_parts e (action_of v) (sized_action v.name.0 v.first (by_writes v)) (flow_of v) onward (is_unsupported v) (is_unsupported_of v.name.0 false v.first)
    (other_is v j s t) (on_flow v j s) (unsupported_as v j.ret ∙ ap (λ (w : Bool). is_unsupported_of v.name.0 w v.first) t) h
