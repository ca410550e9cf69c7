use Rattle.std.proofs.Common.{◌≡◌, ℕ, ◌-◌, ◌^◌, ◌==◌, ◌&&◌, ◌||◌, Bool, true, false, cond, Option, Some, None, option_map, refl, sym, ap, subst, inl}
use Rattle.x86_insn.specs.declared.insns.Segment.{Segment}
use Rattle.x86_insn.specs.declared.insns.Address.{Address}
use Rattle.x86_insn.specs.Views.{Seen, absent, register, immediate, memory, target, View}
use Rattle.x86_lookup.specs.declared.writing.Store.{Store}
use Rattle.x86_lookup.specs.declared.writing.Store.TheVariants as store
use Rattle.x86_lookup.specs.declared.writing.Writes.{Writes}
use Rattle.x86_lookup.specs.Writing.{writes_general}
use Rattle.x86_table.specs.declared.mnemonics.integers.TheConstants.{ADD, CALL, HLT, JMP, LEA, LEAVE, MOV, POP, POPF, PUSH, PUSHF, RET, SUB, UD2}
use Rattle.x86_steps.specs.Memory.{word_at}
use Rattle.x86_steps.specs.States.{State, Keeps, raised_by, raised}
use Rattle.x86_steps.specs.Operands.{Is, sum_of, base_value, index_value, offset_of, place_of, sum_with, Shows, Gets}
use Rattle.insn_effects.specs.Actions.{Action, push, push_flags, pop, pop_flags, push_word, pop_word, leave, mov, lea, plus, jump, call, ends}
use Rattle.x86_steps.specs.Steps.{StoresAt, is_popped, Jumps, Changes, Goes, Does, falls_in}
use Rattle.insn_effects.specs.Effects.{in_segment}
use Rattle.insn_effects.specs.Listed.{slot_of, head_of, writes_by_head, writes_of}
use Rattle.insn_effects.specs.Decoding.{stored_in, stored_by, by_writes, lea_of, plus_of, quad_action, sized_action, jump_to, is_branch, flow_action, action_of}
use Rattle.x86_steps.specs.Fillings.{FillsNumber, Fills, FillsView, is_counted}

-- the one action does no more than the other
pub record Covers (x y : Action) : Type 0 where
  pub changes : (s t : State) → Changes x s t → Changes y s t
  pub goes : (next : ℕ) (s t : State) → Goes x next s t → Goes y next s t
  pub falls : falls_in x ≡ falls_in y

itself : (x : Action) → Covers x x
itself x = record { falls = refl; changes = λ s t h. h; goes = λ next s t h. h }

-- NUMBERS

is_filled : (k n : Option ℕ) (p : ℕ) → FillsNumber k n → Is n p → Is k p
is_filled None n p f i = tt
is_filled (Some k) n p f i = subst (λ o. Is o p) f i

sum_filled : (b : Option ℕ) (i : ℕ) (k n : Option ℕ) (p : ℕ) → FillsNumber k n → Is (sum_of b i n) p → Is (sum_of b i k) p
sum_filled None i k n p f h = tt
sum_filled (Some b) i None n p f h = tt
sum_filled (Some b) i (Some k) n p f h = subst (λ o. Is (sum_of (Some b) i o) p) f h

offset_filled : (s : State) (a : Address) (k n : Option ℕ) (p : ℕ) → FillsNumber k n → Is (offset_of s a n) p → Is (offset_of s a k) p
offset_filled s a k n p f h = sum_filled (base_value s a.base) (index_value s a.index) k n p f h

place_filled : (s : State) (a : Address) (k n : Option ℕ) (p : ℕ) → FillsNumber k n → Is (place_of s a n) p → Is (place_of s a k) p
place_filled s a k n p f h = by_segment a.segment h
  where
    by_segment : (g : Option Segment) → Is (in_segment g (offset_of s a n)) p → Is (in_segment g (offset_of s a k)) p
    by_segment None i = offset_filled s a k n p f i
    by_segment (Some g) i = tt

-- OPERANDS

same_slot : (counts : Bool) (o u : Seen) → Fills counts o u → slot_of u ≡ slot_of o
same_slot counts absent u f = ap slot_of f
same_slot counts (register r) u f = ap slot_of f
same_slot counts (immediate k) u f = ap slot_of f.1
same_slot counts (memory a k) u f = ap slot_of f.1
same_slot counts (target k) u f = ap slot_of f.1

shows_filled : (o u : Seen) (s : State) (v : ℕ) → Fills true o u → Shows s u v → Shows s o v
shows_filled absent u s v f h = tt
shows_filled (register r) u s v f h = subst (λ x. Shows s x v) f h
shows_filled (immediate k) u s v f h = is_filled k f.0 v f.2 (subst (λ x. Shows s x v) f.1 h)
shows_filled (memory a k) u s v f h = let g = subst (λ x. Shows s x v) f.1 h in (g.0, place_filled s a k f.0 g.0 f.2 g.1, g.2)
shows_filled (target k) u s v f h = tt

gets_filled : (counts : Bool) (o u : Seen) (v : ℕ) (s t : State) → Fills counts o u → Gets u v s t → Gets o v s t
gets_filled counts absent u v s t f h = subst (λ x. Gets x v s t) f h
gets_filled counts (register r) u v s t f h = subst (λ x. Gets x v s t) f h
gets_filled counts (immediate k) u v s t f h = subst (λ x. Gets x v s t) f.1 h
gets_filled counts (memory a k) u v s t f h = let g = subst (λ x. Gets x v s t) f.1 h in (g.0, place_filled s a k f.0 g.0 f.2 g.1, g.2)
gets_filled counts (target k) u v s t f h = subst (λ x. Gets x v s t) f.1 h

stored_filled : (counts : Bool) (o u : Seen) (n : ℕ) (s t : State) → Fills counts o u → StoresAt (stored_in u n) s t → StoresAt (stored_in o n) s t
stored_filled counts absent u n s t f h = subst (λ x. StoresAt (stored_in x n) s t) f h
stored_filled counts (register r) u n s t f h = subst (λ x. StoresAt (stored_in x n) s t) f h
stored_filled counts (immediate k) u n s t f h = subst (λ x. StoresAt (stored_in x n) s t) f.1 h
stored_filled counts (memory a k) u n s t f h =
    let g = subst (λ x. StoresAt (stored_in x n) s t) f.1 h in (g.0, place_filled s a k f.0 g.0 f.2 g.1, g.2)
stored_filled counts (target k) u n s t f h = subst (λ x. StoresAt (stored_in x n) s t) f.1 h

stores_filled : (counts : Bool) (o u : Seen) (to : Store) (s t : State) → Fills counts o u → StoresAt (stored_by u to) s t → StoresAt (stored_by o to) s t
stores_filled counts o u store.Absent s t f h = h
stores_filled counts o u (store.Operand n) s t f h = stored_filled counts o u n s t f h
stores_filled counts o u (store.Stack n) s t f h = h
stores_filled counts o u store.Unfixed s t f h = tt

-- WHAT IS WRITTEN

same_head : (v w : View) → FillsView v w → head_of w ≡ head_of v
same_head v w f =
    let a = f.name in
    let b = f.size in
    let c = f.words in
    let d = same_slot ((v.size == 64) && is_counted v.name.0) v.first w.first f.first in
    let e = same_slot ((v.size == 64) && is_counted v.name.0) v.second w.second f.second in
    let g = same_slot ((v.size == 64) && is_counted v.name.0) v.third w.third f.third in
    cc

same_writes : (v w : View) → FillsView v w → writes_of w ≡ writes_of v
same_writes v w f = ap writes_by_head (same_head v w f)

writes_cover : (v w : View) → FillsView v w → Covers (by_writes w) (by_writes v)
writes_cover v w f = record {
  falls = refl;
  goes = λ next s t h. h;
  changes = λ s t h.
      let same = same_writes v w f in
      let g = subst (λ (x : Writes). Keeps (writes_general x) s t × StoresAt (stored_by w.first x.store) s t) same h in
      (g.0, stores_filled ((v.size == 64) && is_counted v.name.0) v.first w.first (writes_of v).store s t f.first g.1);
}

-- BY NAME

push_covers : (o u : Seen) → Fills true o u → Covers (push u) (push o)
push_covers o u f = record { falls = refl; goes = λ next s t h. h; changes = λ s t h. (h.0, shows_filled o u s h.0 f h.1, h.2) }

pop_covers : (counts : Bool) (o u : Seen) → Fills counts o u → Covers (pop u) (pop o)
pop_covers counts o u f = record { falls = refl; goes = λ next s t h. h; changes = λ s t h. gets_filled counts o u (word_at s.memory (s.registers 4)) (raised s) t f h }

mov_covers : (o u p q : Seen) → Fills true o u → Fills true p q → Covers (mov u q) (mov o p)
mov_covers o u p q f g = record { falls = refl; goes = λ next s t h. h; changes = λ s t h. (h.0, shows_filled p q s h.0 g h.1, gets_filled true o u h.0 s t f h.2) }

lea_covers : (counts : Bool) (o u p q : Seen) (x y : Action) → Fills counts o u → Fills counts p q → Covers y x → Covers (lea_of u q y) (lea_of o p x)
lea_covers counts absent u p q x y f g c = subst (λ z. Covers (lea_of z q y) x) (sym f) c
lea_covers counts (immediate k) u p q x y f g c = subst (λ z. Covers (lea_of z q y) x) (sym f.1) c
lea_covers counts (memory a k) u p q x y f g c = subst (λ z. Covers (lea_of z q y) x) (sym f.1) c
lea_covers counts (target k) u p q x y f g c = subst (λ z. Covers (lea_of z q y) x) (sym f.1) c
lea_covers counts (register r) u absent q x y f g c = subst (λ z. Covers (lea_of z q y) x) (sym f) (subst (λ z. Covers (lea_of (register r) z y) x) (sym g) c)
lea_covers counts (register r) u (register p) q x y f g c = subst (λ z. Covers (lea_of z q y) x) (sym f) (subst (λ z. Covers (lea_of (register r) z y) x) (sym g) c)
lea_covers counts (register r) u (immediate k) q x y f g c = subst (λ z. Covers (lea_of z q y) x) (sym f) (subst (λ z. Covers (lea_of (register r) z y) x) (sym g.1) c)
lea_covers counts (register r) u (target k) q x y f g c = subst (λ z. Covers (lea_of z q y) x) (sym f) (subst (λ z. Covers (lea_of (register r) z y) x) (sym g.1) c)
lea_covers counts (register r) u (memory a k) q x y f g c =
    subst (λ z. Covers (lea_of z q y) (lea r.number a k)) (sym f) (subst (λ z. Covers (lea_of (register r) z y) (lea r.number a k)) (sym g.1)
    (record { falls = refl; goes = λ next s t h. h; changes = λ s t h. (h.0, offset_filled s a k g.0 h.0 g.2 h.1, h.2) }))

amount_filled : (s : State) (r v : ℕ) (amount : ℕ → ℕ) (k n : Option ℕ) → FillsNumber k n → Is (sum_with s r (option_map amount n)) v → Is (sum_with s r (option_map amount k)) v
amount_filled s r v amount None n f h = tt
amount_filled s r v amount (Some k) n f h = subst (λ o. Is (sum_with s r (option_map amount o)) v) f h

plus_covers : (o u p q : Seen) (amount : ℕ → ℕ) (x y : Action) → Fills true o u → Fills true p q → Covers y x → Covers (plus_of u q amount y) (plus_of o p amount x)
plus_covers absent u p q m x y f g c = subst (λ z. Covers (plus_of z q m y) x) (sym f) c
plus_covers (immediate k) u p q m x y f g c = subst (λ z. Covers (plus_of z q m y) x) (sym f.1) c
plus_covers (memory a k) u p q m x y f g c = subst (λ z. Covers (plus_of z q m y) x) (sym f.1) c
plus_covers (target k) u p q m x y f g c = subst (λ z. Covers (plus_of z q m y) x) (sym f.1) c
plus_covers (register r) u absent q m x y f g c = subst (λ z. Covers (plus_of z q m y) x) (sym f) (subst (λ z. Covers (plus_of (register r) z m y) x) (sym g) c)
plus_covers (register r) u (register p) q m x y f g c = subst (λ z. Covers (plus_of z q m y) x) (sym f) (subst (λ z. Covers (plus_of (register r) z m y) x) (sym g) c)
plus_covers (register r) u (memory a k) q m x y f g c = subst (λ z. Covers (plus_of z q m y) x) (sym f) (subst (λ z. Covers (plus_of (register r) z m y) x) (sym g.1) c)
plus_covers (register r) u (target k) q m x y f g c = subst (λ z. Covers (plus_of z q m y) x) (sym f) (subst (λ z. Covers (plus_of (register r) z m y) x) (sym g.1) c)
plus_covers (register r) u (immediate k) q m x y f g c =
    subst (λ z. Covers (plus_of z q m y) (plus r.number (option_map m k))) (sym f)
    (subst (λ z. Covers (plus_of (register r) z m y) (plus r.number (option_map m k))) (sym g.1)
    (record { falls = refl; goes = λ next s t h. h; changes = λ s t h. (h.0, amount_filled s r.number h.0 m k g.0 g.2 h.1, h.2) }))

jumps_filled : (k n : Option ℕ) (falls : Bool) (next : ℕ) (s t : State) → FillsNumber k n → Jumps n falls next s t → Jumps k falls next s t
jumps_filled None n falls next s t f h = inl tt
jumps_filled (Some k) n falls next s t f h = subst (λ o. Jumps o falls next s t) f h

jump_covers : (counts : Bool) (o u : Seen) (falls : Bool) (written : ℕ → Bool) → Fills counts o u → Covers (jump_to u falls written) (jump_to o falls written)
jump_covers counts absent u b w f = subst (λ z. Covers (jump_to z b w) ends) (sym f) (itself _)
jump_covers counts (register r) u b w f = subst (λ z. Covers (jump_to z b w) ends) (sym f) (itself _)
jump_covers counts (immediate k) u b w f = subst (λ z. Covers (jump_to z b w) ends) (sym f.1) (itself _)
jump_covers counts (memory a k) u b w f = subst (λ z. Covers (jump_to z b w) ends) (sym f.1) (itself _)
jump_covers counts (target k) u b w f =
    subst (λ z. Covers (jump_to z b w) (jump k b w)) (sym f.1) (record { falls = refl; changes = λ s t h. h; goes = λ next s t h. jumps_filled k f.0 b next s t f.2 h })

quad_covers : (n : ℕ) (o u p q : Seen) (x y : Action) → Fills (is_counted n) o u → Fills (is_counted n) p q → Covers y x → Covers (quad_action n u q y) (quad_action n o p x)
quad_covers n o u p q x y f g k = by_tests (n == PUSH) (n == POP) (n == PUSHF) (n == POPF) (n == LEAVE) (n == MOV) (n == LEA) (n == ADD) (n == SUB) f g
  where
    by_tests : (a b c d e h i j l : Bool) → Fills (a || (h || (j || l))) o u → Fills (a || (h || (j || l))) p q → Covers
        (cond a (push u) (cond b (pop u) (cond c push_flags (cond d pop_flags (cond e leave (cond h (mov u q)
        (cond i (lea_of u q y) (cond j (plus_of u q (λ n. n) y) (cond l (plus_of u q (λ n. 2 ^ 64 - n) y) y)))))))))
        (cond a (push o) (cond b (pop o) (cond c push_flags (cond d pop_flags (cond e leave (cond h (mov o p)
        (cond i (lea_of o p x) (cond j (plus_of o p (λ n. n) x) (cond l (plus_of o p (λ n. 2 ^ 64 - n) x) x)))))))))
    by_tests true b c d e h i j l f g = push_covers o u f
    by_tests false true c d e h i j l f g = pop_covers (h || (j || l)) o u f
    by_tests false false true d e h i j l f g = itself push_flags
    by_tests false false false true e h i j l f g = itself pop_flags
    by_tests false false false false true h i j l f g = itself leave
    by_tests false false false false false true i j l f g = mov_covers o u p q f g
    by_tests false false false false false false true j l f g = lea_covers (j || l) o u p q x y f g k
    by_tests false false false false false false false true l f g = plus_covers o u p q (λ n. n) x y f g k
    by_tests false false false false false false false false true f g = plus_covers o u p q (λ n. 2 ^ 64 - n) x y f g k
    by_tests false false false false false false false false false f g = k

flow_covers : (n : ℕ) (counts : Bool) (o u : Seen) (written : ℕ → Bool) (x y : Action) → Fills counts o u → Covers y x → Covers (flow_action n u written y) (flow_action n o written x)
flow_covers n counts o u w x y f k = by_tests (n == JMP) (is_branch n) (n == CALL) ((n == RET) || ((n == UD2) || (n == HLT)))
  where
    by_tests : (a b c d : Bool) → Covers
        (cond a (jump_to u false w) (cond b (jump_to u true w) (cond c call (cond d ends y))))
        (cond a (jump_to o false w) (cond b (jump_to o true w) (cond c call (cond d ends x))))
    by_tests true b c d = jump_covers counts o u false w f
    by_tests false true c d = jump_covers counts o u true w f
    by_tests false false true d = itself call
    by_tests false false false true = itself ends
    by_tests false false false false = k

same_popped : (counts : Bool) (o u : Seen) → Fills counts o u → is_popped u ≡ is_popped o
same_popped counts absent u f = ap is_popped f
same_popped counts (register r) u f = ap is_popped f
same_popped counts (immediate k) u f = ap is_popped f.1
same_popped counts (memory a k) u f = ap is_popped f.1
same_popped counts (target k) u f = ap is_popped f.1

pop_word_covers : (counts : Bool) (o u : Seen) → Fills counts o u → Covers (pop_word u) (pop_word o)
pop_word_covers counts o u f = record {
  falls = refl;
  goes = λ next s t h. h;
  changes = λ s t h.
      (subst (λ written. Keeps written s t) (same_popped counts o u f) h.0, stored_filled counts o u 2 (raised_by 2 s) t f h.1);
}

word_covers : (n : ℕ) (counts : Bool) (o u : Seen) (x y : Action) → Fills counts o u → Covers y x → Covers (sized_action n u y) (sized_action n o x)
word_covers n counts o u x y f k = by_tests (n == PUSH) (n == POP)
  where
    by_tests : (a b : Bool) → Covers (cond a push_word (cond b (pop_word u) y)) (cond a push_word (cond b (pop_word o) x))
    by_tests true b = itself push_word
    by_tests false true = pop_word_covers counts o u f
    by_tests false false = k

sized_covers : (n : ℕ) (counts : Bool) (o u p q : Seen) (x y : Action) → Fills (counts && is_counted n) o u → Fills (counts && is_counted n) p q → Covers y x
    → Covers (cond counts (quad_action n u q y) (sized_action n u y)) (cond counts (quad_action n o p x) (sized_action n o x))
sized_covers n true o u p q x y f g c = quad_covers n o u p q x y f g c
sized_covers n false o u p q x y f g c = word_covers n false o u x y f c

by_parts : (n : ℕ) (counts : Bool) (o u p q : Seen) (written : ℕ → Bool) (x y : Action) → Fills (counts && is_counted n) o u → Fills (counts && is_counted n) p q → Covers y x
    → Covers (flow_action n u written (cond counts (quad_action n u q y) (sized_action n u y))) (flow_action n o written (cond counts (quad_action n o p x) (sized_action n o x)))
by_parts n counts o u p q written x y f g c =
    flow_covers n (counts && is_counted n) o u written (cond counts (quad_action n o p x) (sized_action n o x)) (cond counts (quad_action n u q y) (sized_action n u y)) f (sized_covers n counts o u p q x y f g c)

pub actions_cover : (v w : View) → FillsView v w → Covers (action_of w) (action_of v)
unfolding action_of
actions_cover v w f =
    let W : View → ℕ → ℕ → Writes → Action = λ u n m z. flow_action n u.first (writes_general z) (cond (m == 64) (quad_action n u.first u.second (by_writes u)) (sized_action n u.first (by_writes u))) in
    subst (λ n. Covers (W w n w.size (writes_of w)) (W v v.name.0 v.size (writes_of v))) (sym f.name)
    (subst (λ m. Covers (W w v.name.0 m (writes_of w)) (W v v.name.0 v.size (writes_of v))) (sym f.size)
    (subst (λ z. Covers (W w v.name.0 v.size z) (W v v.name.0 v.size (writes_of v))) (sym (same_writes v w f))
    (by_parts v.name.0 (v.size == 64) v.first w.first v.second w.second (writes_general (writes_of v)) (by_writes v) (by_writes w) f.first f.second (writes_cover v w f))))

-- an instruction does no more with any numbers in place of those that are not known
pub fillings_covered : (v w : View) (next : ℕ) (s t : State) → FillsView v w → Does (action_of w) next s t → Does (action_of v) next s t
fillings_covered v w next s t f h = let c = actions_cover v w f in record { goes = c.goes next s t h.goes; changes = c.changes s t h.changes }

pub fillings_fall : (v w : View) → FillsView v w → falls_in (action_of w) ≡ falls_in (action_of v)
fillings_fall v w f = (actions_cover v w f).falls
