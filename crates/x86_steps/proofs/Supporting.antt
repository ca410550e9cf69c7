use Rattle.std.proofs.Common.{◌≡◌, ℕ, ◌-◌, ◌^◌, ◌==◌, ◌&&◌, ◌||◌, Bool, true, false, not, cond, if◌then◌else◌}
use Rattle.x86_insn.specs.Views.{Seen, absent, register, immediate, memory, target, View}
use Rattle.x86_lookup.specs.Writing.{writes_general}
use Rattle.x86_table.specs.declared.mnemonics.integers.TheConstants.{ADD, CALL, HLT, JMP, LEA, LEAVE, MOV, POP, POPF, PUSH, PUSHF, RET, SUB, UD2}
use Rattle.insn_effects.specs.Actions.{Action, push, push_flags, pop, pop_flags, push_word, pop_word, leave, mov, call, ends}
use Rattle.insn_effects.specs.Decoding.{by_writes, lea_of, plus_of, quad_action, sized_action, jump_to, is_branch, flow_action, action_of}
use Rattle.insn_effects.specs.Flows.{is_absent, is_rsp, is_unsupported_of, is_unsupported}
use Rattle.insn_effects.specs.Listed.{writes_of}
use Rattle.x86_steps.specs.Acts.{IsSupportedUse}

lea_supported : (o p : Seen) (x : Action) → IsSupportedUse x → IsSupportedUse (lea_of o p x)
lea_supported absent p x h = h
lea_supported (immediate n) p x h = h
lea_supported (memory a d) p x h = h
lea_supported (target d) p x h = h
lea_supported (register r) absent x h = h
lea_supported (register r) (register q) x h = h
lea_supported (register r) (immediate n) x h = h
lea_supported (register r) (memory a d) x h = tt
lea_supported (register r) (target d) x h = h

plus_supported : (o p : Seen) (amount : ℕ → ℕ) (x : Action) → IsSupportedUse x → IsSupportedUse (plus_of o p amount x)
plus_supported absent p m x h = h
plus_supported (immediate n) p m x h = h
plus_supported (memory a d) p m x h = h
plus_supported (target d) p m x h = h
plus_supported (register r) absent m x h = h
plus_supported (register r) (register q) m x h = h
plus_supported (register r) (immediate n) m x h = tt
plus_supported (register r) (memory a d) m x h = h
plus_supported (register r) (target d) m x h = h

jump_supported : (o : Seen) (falls : Bool) (written : ℕ → Bool) → IsSupportedUse (jump_to o falls written)
jump_supported absent b w = tt
jump_supported (register r) b w = tt
jump_supported (immediate n) b w = tt
jump_supported (memory a d) b w = tt
jump_supported (target d) b w = tt

quad_supported : (n : ℕ) (o p : Seen) (x : Action) → IsSupportedUse x → is_unsupported_of n true o ≡ false → IsSupportedUse (quad_action n o p x)
quad_supported n o p x k h = by_tests (n == PUSH) (n == POP) (n == PUSHF) (n == POPF) (n == LEAVE) (n == MOV) (n == LEA) (n == ADD) (n == SUB) h
  where
    by_tests : (a b c d e f i j l : Bool) → (b && is_rsp o) ≡ false → IsSupportedUse
        (cond a (push o) (cond b (pop o) (cond c push_flags (cond d pop_flags (cond e leave (cond f (mov o p)
        (cond i (lea_of o p x) (cond j (plus_of o p (λ n. n) x) (cond l (plus_of o p (λ n. 2 ^ 64 - n) x) x)))))))))
    by_tests true b c d e f i j l h = tt
    by_tests false true c d e f i j l h = h
    by_tests false false true d e f i j l h = tt
    by_tests false false false true e f i j l h = tt
    by_tests false false false false true f i j l h = tt
    by_tests false false false false false true i j l h = tt
    by_tests false false false false false false true j l h = lea_supported o p x k
    by_tests false false false false false false false true l h = plus_supported o p (λ n. n) x k
    by_tests false false false false false false false false true h = plus_supported o p (λ n. 2 ^ 64 - n) x k
    by_tests false false false false false false false false false h = k

sized_supported : (n : ℕ) (o : Seen) (x : Action) → IsSupportedUse x → is_unsupported_of n false o ≡ false → IsSupportedUse (sized_action n o x)
sized_supported n o x k h = by_tests (n == PUSH) (n == POP) h
  where
    by_tests : (a b : Bool) → (a || b) ≡ false → IsSupportedUse (cond a push_word (cond b (pop_word o) x))
    by_tests true b h = cc
    by_tests false true h = cc
    by_tests false false h = k

rest_supported : (n : ℕ) (wide : Bool) (o p : Seen) (x : Action) → IsSupportedUse x → is_unsupported_of n wide o ≡ false
    → IsSupportedUse (cond wide (quad_action n o p x) (sized_action n o x))
rest_supported n true o p x k h = quad_supported n o p x k h
rest_supported n false o p x k h = sized_supported n o x k h

flow_supported : (n : ℕ) (o : Seen) (written : ℕ → Bool) (unsupported : Bool) (x : Action) → (unsupported ≡ false → IsSupportedUse x)
    → (if n == RET then not (is_absent o) else unsupported) ≡ false → IsSupportedUse (flow_action n o written x)
flow_supported n o w u x k h = by_tests (n == JMP) (is_branch n) (n == CALL) (n == RET) ((n == UD2) || (n == HLT)) h
  where
    by_tests : (a b c d e : Bool) → cond d (not (is_absent o)) u ≡ false → IsSupportedUse
        (cond a (jump_to o false w) (cond b (jump_to o true w) (cond c call (cond (d || e) ends x))))
    by_tests true b c d e h = jump_supported o false w
    by_tests false true c d e h = jump_supported o true w
    by_tests false false true d e h = tt
    by_tests false false false true e h = tt
    by_tests false false false false true h = tt
    by_tests false false false false false h = k h

-- what counts as a supported use of the stack is one
pub supported : (v : View) → is_unsupported v ≡ false → IsSupportedUse (action_of v)
unfolding action_of
supported v h = flow_supported v.name.0 v.first (writes_general (writes_of v)) (is_unsupported_of v.name.0 (v.size == 64) v.first)
    (cond (v.size == 64) (quad_action v.name.0 v.first v.second (by_writes v)) (sized_action v.name.0 v.first (by_writes v)))
    (λ e. rest_supported v.name.0 (v.size == 64) v.first v.second (by_writes v) tt e) h
