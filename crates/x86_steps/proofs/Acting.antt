use Rattle.std.proofs.Common.{◌≡◌, ℕ, ◌+◌, ◌-◌, ◌^◌, ◌≢◌, ◌==◌, ◌||◌, Bool, true, false, cond, List, Option, Some, None, option_map, refl, sym, ap, subst, add-zero, lit<, arith, ◌∙◌}
use Rattle.std.proofs.lemmas.Bool.Decides.{nat_tests}
use Rattle.x86_insn.specs.declared.insns.Segment.{Segment}
use Rattle.x86_insn.specs.declared.insns.Base.{Base}
use Rattle.x86_insn.specs.declared.insns.Base.TheVariants as base
use Rattle.x86_insn.specs.declared.insns.Index.{Index}
use Rattle.x86_insn.specs.declared.insns.Index.TheVariants as index
use Rattle.x86_insn.specs.declared.insns.Address.{Address}
use Rattle.x86_insn.specs.Views.{Seen, absent, register, immediate, memory, target}
use Rattle.x86_steps.specs.Memory.{Cell, byte_at, word_at, SameOutside}
use Rattle.x86_steps.specs.States.{State, IsRanged, Same, Sets, with_register, raised}
use Rattle.x86_steps.specs.Operands.{Is, sum_of, base_value, index_value, offset_of, place_of, sum_with, Shows, Gets}
use Rattle.insn_effects.specs.Actions.{Stored, nowhere, in_operand, on_stack, anywhere, Action, push, push_flags, pop, pop_flags, push_word, pop_word, leave, mov, lea, plus, jump, call, ends, other}
use Rattle.insn_effects.specs.declared.places.Based.{Based}
use Rattle.insn_effects.specs.Flows.{is_rsp}
use Rattle.insn_effects.specs.Followed.{wrap}
use Rattle.x86_steps.specs.Steps.{Pushes, Pops, StoresAt, Changes}
use Rattle.insn_effects.specs.Effects.{in_segment, based, effect_of, unless_index, based_on, offset_on, place_on, store_to, register_in, no_effect, written_effect, move_effect, move_by, push_effect, pop_effect, pop_from, risen, load_of, mov_effect, move_from, store_of}
use Rattle.x86_steps.specs.Acts.{Acts, StoresBy, SavesAt, SavesBy, IsSupportedUse}

apart : (q r : ℕ) → (q == r) ≡ false → q ≢ r
apart q r h = grind (arith, nat_tests)

apart_both : (q a b : ℕ) → ((q == a) || (q == b)) ≡ false → (q ≢ a) × (q ≢ b)
apart_both q a b h = grind (arith, nat_tests)

pub written_self : (q : ℕ) → (q == q) ≡ true
written_self q = grind (arith, nat_tests)

pub written_second : (q a : ℕ) → ((q == a) || (q == q)) ≡ true
written_second q a = grind (arith, nat_tests)

not_same : (q r : ℕ) → q ≢ r → (q == r) ≡ false
not_same q r h = grind (arith, nat_tests)

-- registers of a state with one changed
at_register : (r v q : ℕ) (s : State) → q ≢ r → (with_register r v s).registers q ≡ s.registers q
at_register r v q s h = ap (λ b. cond b v (s.registers q)) (not_same q r h)

own_register : (r v : ℕ) (s : State) → (with_register r v s).registers r ≡ v
own_register r v s = ap (λ b. cond b v (s.registers r)) (written_self r)

pub same_word : (m : List Cell) (a b : ℕ) → wrap a ≡ wrap b → word_at m a ≡ word_at m b
unfolding word_at
same_word m a b h =
    let e1 : wrap (a + 1) ≡ wrap (b + 1) = omega arith in
    let e2 : wrap (a + 2) ≡ wrap (b + 2) = omega arith in
    let e3 : wrap (a + 3) ≡ wrap (b + 3) = omega arith in
    let e4 : wrap (a + 4) ≡ wrap (b + 4) = omega arith in
    let e5 : wrap (a + 5) ≡ wrap (b + 5) = omega arith in
    let e6 : wrap (a + 6) ≡ wrap (b + 6) = omega arith in
    let e7 : wrap (a + 7) ≡ wrap (b + 7) = omega arith in
    cc

shifted : (a b k : ℕ) → wrap a ≡ wrap b → wrap (a + k) ≡ wrap (b + k)
shifted a b k h = omega arith

-- the same bytes by another number for their address
pub moved_outside : (before after : List Cell) (a b n : ℕ) → wrap a ≡ wrap b → SameOutside a n before after → SameOutside b n before after
moved_outside before after a b n e h x apart_from = h x (λ k l same. apart_from k l (same ∙ shifted a b k e))

wrapped : (x : ℕ) → wrap (wrap x) ≡ wrap x
wrapped x = omega arith

-- an address of base and displacement alone is what these give
offset_is : (a : Address) (d : Option ℕ) (s : State) (x : Based) → offset_on a d ≡ Some x → offset_of s a d ≡ Some (wrap (s.registers x.base + x.displacement))
offset_is a d s x h = by_index a.index a.base d h
  where
    by_index : (i : Index) (b : Base) (d : Option ℕ) → unless_index i (based_on b d) ≡ Some x → sum_of (base_value s b) (index_value s i) d ≡ Some (wrap (s.registers x.base + x.displacement))
    by_index (index.By n scale) b d e = cc
    by_index index.Absent base.Absent d e = cc
    by_index index.Absent base.Rip d e = cc
    by_index index.Absent (base.Of b) None e = cc
    by_index index.Absent (base.Of b) (Some n) e =
        let one : b ≡ x.base = cc in
        let two : n ≡ x.displacement = cc in
        let zero_index : s.registers b + 0 + n ≡ s.registers b + n = omega arith in
        cc

place_is : (a : Address) (d : Option ℕ) (s : State) (x : Based) → place_on a d ≡ Some x → place_of s a d ≡ Some (wrap (s.registers x.base + x.displacement))
place_is a d s x h = by_segment a.segment h
  where
    by_segment : (g : Option Segment) → in_segment g (offset_on a d) ≡ Some x → in_segment g (offset_of s a d) ≡ Some (wrap (s.registers x.base + x.displacement))
    by_segment None e = offset_is a d s x e
    by_segment (Some g) e = cc

is_known : (o : Option ℕ) (n p : ℕ) → o ≡ Some n → Is o p → p ≡ n
is_known o n p e h = subst (λ x. Is x p) e h

-- stores at an operand
stores_there : (o : Option Based) (a : Address) (d : Option ℕ) (n p : ℕ) (s t : State) → place_on a d ≡ o → Is (place_of s a d) p → SameOutside p n s.memory t.memory → StoresBy (store_to n o) s t
stores_there None a d n p s t e i h = tt
stores_there (Some x) a d n p s t e i h =
    let at : p ≡ wrap (s.registers x.base + x.displacement) = is_known (place_of s a d) _ p (place_is a d s x e) i in
    let same : wrap p ≡ wrap (s.registers x.base + x.displacement) = omega arith in
    moved_outside s.memory t.memory p (s.registers x.base + x.displacement) n same h

-- PUSHES

pushed_saves : (o : Seen) (v : ℕ) (s t : State) → Shows s o v → Pushes v s t → SavesBy (register_in o) (based 4 (2 ^ 64 - 8) 8) s t
pushed_saves absent v s t h p = tt
pushed_saves (register r) v s t h p =
    (same_word t.memory (s.registers 4 + (2 ^ 64 - 8)) (wrap (s.registers 4 + (2 ^ 64 - 8))) (sym (wrapped (s.registers 4 + (2 ^ 64 - 8)))) ∙ p.gets ∙ h, lit< tt)
pushed_saves (immediate n) v s t h p = tt
pushed_saves (memory a d) v s t h p = tt
pushed_saves (target d) v s t h p = tt

pushed : (saves : Option ℕ) (v : ℕ) (s t : State) → Pushes v s t → SavesBy saves (based 4 (2 ^ 64 - 8) 8) s t → Acts (push_effect saves) s t
pushed saves v s t p saved = record {
  moves = p.registers 4;
  kept = λ q _ h. p.registers q ∙ at_register 4 (wrap (s.registers 4 + (2 ^ 64 - 8))) q s (apart q 4 h);
  loads = tt;
  stores = moved_outside s.memory t.memory (wrap (s.registers 4 + (2 ^ 64 - 8))) (s.registers 4 + (2 ^ 64 - 8)) 8 (wrapped (s.registers 4 + (2 ^ 64 - 8))) p.others;
  saves = saved;
}

-- POPS

raised_alone : (s t : State) → Same (raised s) t → Acts (move_effect 4 4 8) s t
raised_alone s t p = record {
  moves = p.registers 4;
  kept = λ q _ h. p.registers q ∙ at_register 4 (wrap (s.registers 4 + 8)) q s (apart q 4 h);
  loads = tt;
  stores = p.memory;
  saves = tt;
}

risen_place : (x y d : ℕ) → y ≡ wrap (x + 8) → wrap (y + d) ≡ wrap (x + (d + 8))
risen_place x y d h = omega arith

risen_store : (o : Option Based) (n : ℕ) (s t : State) → StoresBy (store_to n o) (raised s) t → StoresBy (store_to n (option_map risen o)) s t
risen_store None n s t h = tt
risen_store (Some x) n s t h = by_test (x.base == 4) refl h
  where
    by_test : (b : Bool) → (x.base == 4) ≡ b → SameOutside (cond b (wrap (s.registers 4 + 8)) (s.registers x.base) + x.displacement) n s.memory t.memory → SameOutside (s.registers x.base + cond b (x.displacement + 8) x.displacement) n s.memory t.memory
    by_test true e g =
        let top : x.base ≡ 4 = grind (arith, nat_tests) in
        let same : s.registers x.base ≡ s.registers 4 = ap s.registers top in
        let place : wrap (wrap (s.registers 4 + 8) + x.displacement) ≡ wrap (s.registers x.base + (x.displacement + 8)) = omega arith in
        moved_outside s.memory t.memory (wrap (s.registers 4 + 8) + x.displacement) (s.registers x.base + (x.displacement + 8)) n place g
    by_test false e g = g

popped_from : (base r : ℕ) (s u t : State) → u.registers 4 ≡ s.registers base → ((q : ℕ) → q ≢ 4 → u.registers q ≡ s.registers q) → u.memory ≡ s.memory → r ≢ 4 → Sets r (word_at u.memory (u.registers 4)) (raised u) t → Acts (pop_from base r) s t
popped_from base r s u t top others same n p = record {
  moves = p.others 4 (λ e. n (sym e)) ∙ ap (λ x. wrap (x + 8)) top;
  kept = λ q _ h. let a = apart_both q 4 r h in p.others q a.1 ∙ at_register 4 (wrap (u.registers 4 + 8)) q u a.0 ∙ others q a.0;
  loads = (p.gets ∙ ap (λ m. word_at m (u.registers 4)) same ∙ ap (word_at s.memory) (top ∙ sym (add-zero (s.registers base))), written_second r 4);
  stores = λ b. p.memory b ∙ ap (λ m. byte_at m b) same;
  saves = tt;
}

popped : (o : Seen) (s t : State) → is_rsp o ≡ false → Pops o s t → Acts (pop_effect o) s t
popped absent s t i p = raised_alone s t p
popped (register r) s t i p = popped_from 4 r.number s s t refl (λ q h. refl) refl (apart r.number 4 i) p
popped (immediate n) s t i p = raised_alone s t p
popped (memory a d) s t i p = record {
  moves = p.2.registers 4;
  kept = λ q _ h. p.2.registers q ∙ at_register 4 (wrap (s.registers 4 + 8)) q s (apart q 4 h);
  loads = tt;
  stores = risen_store (place_on a d) 8 s t (stores_there (place_on a d) a d 8 p.0 (raised s) t refl p.1 p.2.others);
  saves = tt;
}
popped (target d) s t i p = raised_alone s t p

-- MOVES

still : (s t : State) → Same s t → Acts no_effect s t
still s t p = record { moves = tt; kept = λ q _ h. p.registers q; loads = tt; stores = p.memory; saves = tt }

set_alone : (r v : ℕ) (s t : State) → Sets r v s t → Acts (written_effect r) s t
set_alone r v s t p = record { moves = tt; kept = λ q _ h. p.others q (apart q r h); loads = tt; stores = p.memory; saves = tt }

set_sum : (r b d v : ℕ) (s t : State) → v ≡ wrap (s.registers b + d) → Sets r v s t → Acts (move_effect r b d) s t
set_sum r b d v s t e p = record { moves = p.gets ∙ e; kept = λ q _ h. p.others q (apart q r h); loads = tt; stores = p.memory; saves = tt }

loaded : (o : Option Based) (r v p : ℕ) (a : Address) (d : Option ℕ) (s t : State) → place_on a d ≡ o → Is (place_of s a d) p → v ≡ word_at s.memory p → Sets r v s t → Acts (record (written_effect r) { loads = option_map (load_of r) o }) s t
loaded None r v p a d s t e i w g = record { moves = tt; kept = λ q _ h. g.others q (apart q r h); loads = tt; stores = g.memory; saves = tt }
loaded (Some x) r v p a d s t e i w g =
    let at : p ≡ wrap (s.registers x.base + x.displacement) = is_known (place_of s a d) _ p (place_is a d s x e) i in
    let same : wrap p ≡ wrap (s.registers x.base + x.displacement) = omega arith in
    record {
      moves = tt;
      kept = λ q _ h. g.others q (apart q r h);
      loads = (g.gets ∙ w ∙ same_word s.memory p (s.registers x.base + x.displacement) same, written_self r);
      stores = g.memory;
      saves = tt;
    }

moved_from : (r v : ℕ) (from : Seen) (s t : State) → IsRanged s → Shows s from v → Sets r v s t → Acts (move_from r from) s t
moved_from r v absent s t range h p = set_alone r v s t p
moved_from r v (register q) s t range h p = set_sum r q.number 0 v s t (let k = range q.number in omega arith) p
moved_from r v (immediate n) s t range h p = set_alone r v s t p
moved_from r v (memory a d) s t range h p = loaded (place_on a d) r v h.0 a d s t refl h.1 h.2 p
moved_from r v (target d) s t range h p = set_alone r v s t p

stored_word : (o : Option Based) (a : Address) (d : Option ℕ) (r p : ℕ) (s t : State) → place_on a d ≡ o → Is (place_of s a d) p → word_at t.memory p ≡ s.registers r → SavesAt (store_to 8 o) r s t
stored_word None a d r p s t e i w = tt
stored_word (Some x) a d r p s t e i w =
    let at : p ≡ wrap (s.registers x.base + x.displacement) = is_known (place_of s a d) _ p (place_is a d s x e) i in
    let same : wrap (s.registers x.base + x.displacement) ≡ wrap p = omega arith in
    (same_word t.memory (s.registers x.base + x.displacement) p same ∙ w, lit< tt)

stored_saves : (from : Seen) (a : Address) (d : Option ℕ) (v p : ℕ) (s t : State) → Is (place_of s a d) p → word_at t.memory p ≡ v → Shows s from v → SavesBy (register_in from) (store_to 8 (place_on a d)) s t
stored_saves absent a d v p s t i w h = tt
stored_saves (register r) a d v p s t i w h = stored_word (place_on a d) a d r.number p s t refl i (w ∙ h)
stored_saves (immediate n) a d v p s t i w h = tt
stored_saves (memory b e) a d v p s t i w h = tt
stored_saves (target e) a d v p s t i w h = tt

mov_acts : (to from : Seen) (v : ℕ) (s t : State) → IsRanged s → Shows s from v → Gets to v s t → Acts (mov_effect to from) s t
mov_acts absent from v s t range h g = still s t g
mov_acts (register r) from v s t range h g = moved_from r.number v from s t range h g
mov_acts (immediate n) from v s t range h g = still s t g
mov_acts (memory a d) from v s t range h g = record {
  moves = tt;
  kept = λ q _ e. g.2.registers q;
  loads = tt;
  stores = stores_there (place_on a d) a d 8 g.0 s t refl g.1 g.2.others;
  saves = stored_saves from a d v g.0 s t g.1 g.2.gets h;
}
mov_acts (target d) from v s t range h g = still s t g

lea_acts : (o : Option Based) (to v : ℕ) (a : Address) (d : Option ℕ) (s t : State) → offset_on a d ≡ o → Is (offset_of s a d) v → Sets to v s t → Acts (move_by to o) s t
lea_acts None to v a d s t e i g = set_alone to v s t g
lea_acts (Some x) to v a d s t e i g =
    set_sum to x.base x.displacement v s t (is_known (offset_of s a d) _ v (offset_is a d s x e) i) g

plus_acts : (to : ℕ) (n : Option ℕ) (v : ℕ) (s t : State) → Is (sum_with s to n) v → Sets to v s t → Acts (effect_of (plus to n)) s t
plus_acts to None v s t i g = set_alone to v s t g
plus_acts to (Some n) v s t i g = set_sum to to n v s t (let e = i in omega arith) g

-- ALL OTHERS

stores_by : (stored : Stored) (s t : State) → StoresAt stored s t → StoresBy (store_of stored) s t
stores_by nowhere s t h = h
stores_by (in_operand a d n) s t h = stores_there (place_on a d) a d n h.0 s t refl h.1 h.2
stores_by (on_stack n) s t h = h
stores_by anywhere s t h = tt

-- whatever an instruction does is of its effect
pub acts : (insn : Action) (s t : State) → IsRanged s → IsSupportedUse insn → Changes insn s t → Acts (effect_of insn) s t
acts (push o) s t range i p = pushed (register_in o) p.0 s t p.2 (pushed_saves o p.0 s t p.1 p.2)
acts push_flags s t range i p = pushed None p.0 s t p.1 tt
acts (pop o) s t range i p = popped o s t i p
acts pop_flags s t range i p = raised_alone s t p
acts push_word s t range i p = absurd i
acts (pop_word o) s t range i p = absurd i
acts leave s t range i p = popped_from 5 5 s (with_register 4 (s.registers 5) s) t refl (λ q h. at_register 4 (s.registers 5) q s h) refl (λ e. absurd (omega arith)) p
acts (mov to from) s t range i p = mov_acts to from p.0 s t range p.1 p.2
acts (lea to a d) s t range i p = lea_acts (offset_on a d) to p.0 a d s t refl p.1 p.2
acts (plus to n) s t range i p = plus_acts to n p.0 s t p.1 p.2
acts (jump d falls written) s t range i p = record { moves = tt; kept = λ q _ h. p.0 q h; loads = tt; stores = p.1; saves = tt }
acts call s t range i p = record { moves = refl; loads = refl; saves = refl }
acts ends s t range i p = absurd p
acts (other written stored) s t range i p = record { moves = tt; kept = λ q _ h. p.0 q h; loads = tt; stores = stores_by stored s t p.1; saves = tt }
