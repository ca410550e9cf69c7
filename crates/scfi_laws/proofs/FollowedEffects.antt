-- A step of an effect does what is followed of it.
use Rattle.std.proofs.Common.{◌≡◌, ◌+◌, ◌<◌, ◌==◌, ◌||◌, ℕ, Bool, true, false, cond, Option, Some, None, List, refl, sym, ap, subst, ◌∙◌, arith}
use Rattle.std.proofs.lemmas.Bool.Decides.{nat_tests}
use Rattle.insn_effects.specs.Seven.{number_of, kept_number, bits_of}
use Rattle.insn_effects.specs.Effects.{Move, Load, Store, none, based, unfollowed, StackEffect}
use Rattle.insn_effects.specs.Followed.{wrap, FollowedMove, followed_move, followed_store, followed_load, saved_number, written_beside, followed}
use Rattle.stack_depths.specs.Distances.{has_bit}
use Rattle.stack_facts.specs.Places.{is_saved, moves_to, stored_by}
use Rattle.scfi_pass.specs.Faults.{at_exit}
use Rattle.scfi_pass.specs.Tables.{Analyzed}
use Rattle.x86_steps.specs.Memory.{Cell, word_at, SameMemory, SameOutside}
use Rattle.x86_steps.specs.States.{State}
use Rattle.x86_steps.specs.Acts.{is_tracked, MovesBy, LoadsBy, StoresBy, SavesBy, ActsUnless}
use Rattle.scfi_laws.specs.Performing.{processor_number, held, PerformsMove, PerformsLoad, PerformsStore, PerformsSave, PerformsUnless, EffectsAreFollowed}
use Rattle.scfi_laws.proofs.Numbers.{each_of_seven, numbered, found, counted}
use Rattle.scfi_laws.specs.Executions.{frame_address, KeepsUnless, KeepsAt}
use Rattle.scfi_laws.specs.ItemLaws.{QuietStepsKeep}
use Rattle.scfi_laws.proofs.Words.{same_word, same_memory}

-- a register is one of the seven
abbrev IsOne : ℕ → Type 0
IsOne n = (number_of n == 7) ≡ false

-- what it holds
held_found : (s : State) (n : ℕ) → IsOne n → held s (number_of n) ≡ s.registers n
held_found s n one = ap s.registers (found n (λ is. let none : ⊥ = cc in none))

-- tests that fail
neither : (a b : Bool) → (a || b) ≡ false → (a ≡ false) × (b ≡ false)
neither true b h = cc
neither false b h = (refl, h)

-- a move
move_followed : (m : Option Move) (s t : State) → MovesBy m s t → PerformsMove (followed_move m) s t
move_followed None s t h = tt
move_followed (Some m) s t h = by ((number_of m.to == 7) || (number_of m.base == 7)) refl
  where
    by : (b : Bool) → ((number_of m.to == 7) || (number_of m.base == 7)) ≡ b
        → PerformsMove (cond b None (Some (record { to = number_of m.to; base = number_of m.base; add = wrap m.add }))) s t
    by true is = tt
    by false is =
        let two = neither (number_of m.to == 7) (number_of m.base == 7) is in
        let small : wrap (s.registers m.base + m.add) ≡ wrap (s.registers m.base + wrap m.add) = omega arith in
        held_found t m.to two.0 ∙ h ∙ small ∙ ap (λ x. wrap (x + wrap m.add)) (sym (held_found s m.base two.1))

-- a callee-saved register is one of the seven
one_of_six : (n : ℕ) → (kept_number (number_of n) == 7) ≡ false → (kept_number (number_of n) ≡ number_of n) × IsOne n
one_of_six n = by (number_of n) (number_of n == 0) refl
  where
    by : (i : ℕ) (b : Bool) → (i == 0) ≡ b → (cond b 7 i == 7) ≡ false → (cond b 7 i ≡ i) × ((i == 7) ≡ false)
    by i true is h = cc
    by i false is h = (refl, h)

-- a load
load_followed : (l : Option Load) (written : ℕ → Bool) (s t : State) → LoadsBy l written s t → PerformsLoad (followed_load l) s t
load_followed None written s t h = tt
load_followed (Some l) written s t h = by ((number_of l.base == 7) || (kept_number (number_of l.register) == 7)) refl
  where
    by : (b : Bool) → ((number_of l.base == 7) || (kept_number (number_of l.register) == 7)) ≡ b
        → PerformsLoad (cond b None (Some (record { base = number_of l.base; displacement = wrap l.displacement; register = kept_number (number_of l.register) }))) s t
    by true is = tt
    by false is =
        let two = neither (number_of l.base == 7) (kept_number (number_of l.register) == 7) is in
        let six = one_of_six l.register two.1 in
        let small : wrap (s.registers l.base + l.displacement) ≡ wrap (s.registers l.base + wrap l.displacement) = omega arith in
        ap (held t) six.0 ∙ held_found t l.register six.1 ∙ h.0 ∙ same_word s.memory (s.registers l.base + l.displacement) (s.registers l.base + wrap l.displacement) small
        ∙ ap (λ x. word_at s.memory (x + wrap l.displacement)) (sym (held_found s l.base two.0))

-- bytes outside of a piece, whose address is the same modulo 2 ^ 64
outside_same : (before after : List Cell) (a b size : ℕ) → wrap a ≡ wrap b → SameOutside a size before after → SameOutside b size before after
outside_same before after a b size same h = λ p far. h p (λ k low is. far k low (is ∙ shifted a b k same))
  where
    shifted : (a b k : ℕ) → wrap a ≡ wrap b → wrap (a + k) ≡ wrap (b + k)
    shifted a b k same = omega arith

-- a store
store_followed : (to : Store) (saves : Option ℕ) (s t : State) → StoresBy to s t → PerformsStore (followed_store to saves) s t
store_followed none saves s t h = tt
store_followed unfollowed saves s t h = tt
store_followed (based b d n) saves s t h = by (number_of b == 7) refl
  where
    by : (c : Bool) → (number_of b == 7) ≡ c
        → PerformsStore (cond c None (Some (record { base = number_of b; displacement = wrap d; size = n; register = saved_number saves }))) s t
    by true is = tt
    by false is =
        let small : wrap (s.registers b + d) ≡ wrap (s.registers b + wrap d) = omega arith in
        subst (λ x. SameOutside (x + wrap d) n s.memory t.memory) (sym (held_found s b is)) (outside_same s.memory t.memory (s.registers b + d) (s.registers b + wrap d) n small h)

-- a register that is saved
save_followed : (to : Store) (saves : Option ℕ) (s t : State) → SavesBy saves to s t → PerformsSave (followed_store to saves) s t
save_followed none saves s t h = tt
save_followed unfollowed saves s t h = tt
save_followed (based b d n) saves s t h = by (number_of b == 7) refl
  where
    some_saved : (saves : Option ℕ) → SavesBy saves (based b d n) s t → is_saved (saved_number saves) ≡ true → word_at t.memory (s.registers b + d) ≡ held s (saved_number saves)
    some_saved None h is = cc
    some_saved (Some r) h is =
        let six = one_of_six r (grind (arith, nat_tests)) in
        h.0 ∙ sym (ap (held s) six.0 ∙ held_found s r six.1)

    by : (c : Bool) → (number_of b == 7) ≡ c
        → PerformsSave (cond c None (Some (record { base = number_of b; displacement = wrap d; size = n; register = saved_number saves }))) s t
    by true is = tt
    by false is = λ saved.
        let small : wrap (s.registers b + wrap d) ≡ wrap (s.registers b + d) = omega arith in
        ap (λ x. word_at t.memory (x + wrap d)) (held_found s b is) ∙ same_word t.memory (s.registers b + wrap d) (s.registers b + d) small ∙ some_saved saves h saved

-- the seven are tracked
tracked : (q : ℕ) → q < 7 → is_tracked (processor_number q) ≡ true
tracked = each_of_seven (λ q. is_tracked (processor_number q) ≡ true) refl refl refl refl refl refl refl

-- a register that is not written in another way, and is not the one that moves, is not written
unwritten : (m : Option FollowedMove) (written : ℕ → Bool) (q : ℕ) → q < 7 → moves_to m q ≡ false → has_bit (bits_of (written_beside m written)) q ≡ false → written (processor_number q) ≡ false
unwritten None written q low still bit = sym (counted written q low) ∙ bit
unwritten (Some m) written q low still bit =
    let none : written_beside (Some m) written (processor_number q) ≡ false = sym (counted (written_beside (Some m) written) q low) ∙ bit in
    let other : (m.to == number_of (processor_number q)) ≡ false = ap (λ n. m.to == n) (numbered q low) ∙ still in
    ap (λ b. cond b false (written (processor_number q))) (sym other) ∙ none

acted_followed : (c : Bool) (e : StackEffect) (s t : State) → ActsUnless c e s t → PerformsUnless c (followed e) s t
acted_followed true e s t h = tt
acted_followed false e s t h = record {
  moves = move_followed e.moves s t h.moves;
  kept = λ q low still bit. h.kept (processor_number q) (tracked q low) (unwritten (followed_move e.moves) e.written q low still bit);
  loads = load_followed e.loads e.written s t h.loads;
  stores = store_followed e.stores e.saves s t h.stores;
  saves = save_followed e.stores e.saves s t h.saves;
}

pub effects_followed : EffectsAreFollowed
effects_followed e s t h = acted_followed e.calls e s t h

-- a step that stores nowhere keeps all memory
quiet : (c : Bool) (a : Analyzed) (e : StackEffect) (start s t : State) → c ≡ false → e.stores ≡ none → ActsUnless c e s t → KeepsAt c (followed e) a start s t
quiet true a e start s t is nowhere acts = cc
quiet false a e start s t is nowhere acts =
    let same : SameMemory s.memory t.memory = subst (λ to. StoresBy to s t) nowhere acts.stores in
    subst (λ to. KeepsUnless (stored_by (followed_store to e.saves) (a.distances s.place)) (a.facts s.place) start s t) (sym nowhere) (record {
      return_address = same_memory s.memory t.memory (frame_address start + at_exit) same;
      slots = λ n r stands. same_memory s.memory t.memory (frame_address start + n) same;
    })

pub quiet_steps_keep : QuietStepsKeep
quiet_steps_keep a e start s t nowhere still acts = quiet e.calls a e start s t still nowhere acts
