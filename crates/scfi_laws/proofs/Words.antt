-- The 8 bytes at an address, where some bytes stay.
use Rattle.std.proofs.Common.{◌≡◌, ℕ, ◌+◌, ◌<◌, ◌≤◌, true, false, List, ◌∙◌, add-zero, lit<, arith}
use Rattle.std.proofs.lemmas.Bool.Decides.{nat_tests}
use Rattle.insn_effects.specs.Followed.{wrap}
use Rattle.stack_facts.specs.Places.{gap, overlaps}
use Rattle.x86_steps.specs.Memory.{Cell, word_at, byte_at, SameMemory, SameOutside}

-- where each of the 8 bytes stays, so do all
same_bytes : (before after : List Cell) (a : ℕ) → ((k : ℕ) → k < 8 → byte_at after (wrap (a + k)) ≡ byte_at before (wrap (a + k))) → word_at after a ≡ word_at before a
unfolding word_at
same_bytes before after a h =
    let e0 : byte_at after (wrap a) ≡ byte_at before (wrap a) = rw add-zero at (h 0 (lit< tt)) in
    let e1 : byte_at after (wrap (a + 1)) ≡ byte_at before (wrap (a + 1)) = h 1 (lit< tt) in
    let e2 : byte_at after (wrap (a + 2)) ≡ byte_at before (wrap (a + 2)) = h 2 (lit< tt) in
    let e3 : byte_at after (wrap (a + 3)) ≡ byte_at before (wrap (a + 3)) = h 3 (lit< tt) in
    let e4 : byte_at after (wrap (a + 4)) ≡ byte_at before (wrap (a + 4)) = h 4 (lit< tt) in
    let e5 : byte_at after (wrap (a + 5)) ≡ byte_at before (wrap (a + 5)) = h 5 (lit< tt) in
    let e6 : byte_at after (wrap (a + 6)) ≡ byte_at before (wrap (a + 6)) = h 6 (lit< tt) in
    let e7 : byte_at after (wrap (a + 7)) ≡ byte_at before (wrap (a + 7)) = h 7 (lit< tt) in
    cc

-- where all memory stays
pub same_memory : (before after : List Cell) (a : ℕ) → SameMemory before after → word_at after a ≡ word_at before a
same_memory before after a h = same_bytes before after a (λ k _. h (wrap (a + k)))

-- bytes of two pieces that lie apart are not at one address
apart_places : (x a b size j k : ℕ) → size ≤ gap a b → 8 ≤ gap b a → j < size → k < 8 → wrap (x + b + k) ≡ wrap (x + a + j) → ⊥
apart_places x a b size j k h g u v e = omega arith

-- pieces that do not overlap lie apart
not_overlapping : (a size b : ℕ) → overlaps a size b ≡ false → (size ≤ gap a b) × (8 ≤ gap b a)
unfolding overlaps
not_overlapping a size b h = grind (arith, nat_tests)

-- bytes from a place on overlap the word there
pub overlaps_itself : (a size : ℕ) → 0 < size → overlaps a size a ≡ true
unfolding overlaps
overlaps_itself a size h =
    let g : gap a a ≡ 0 = omega arith in
    grind (arith, nat_tests)

-- where all stays but a piece that does not overlap it
pub same_outside : (before after : List Cell) (address x a size b : ℕ) → wrap address ≡ wrap (x + a) → overlaps a size b ≡ false → SameOutside address size before after → word_at after (x + b) ≡ word_at before (x + b)
same_outside before after address x a size b e o h =
    let n = not_overlapping a size b o in
    same_bytes before after (x + b) (λ k u. h (wrap (x + b + k)) (λ j v same. apart_places x a b size j k n.0 n.1 v u (same ∙ shifted address x a j e)))
  where
    shifted : (address x a j : ℕ) → wrap address ≡ wrap (x + a) → wrap (address + j) ≡ wrap (x + a + j)
    shifted address x a j e = omega arith

-- at addresses that are the same modulo 2 ^ 64
pub same_word : (m : List Cell) (a b : ℕ) → wrap a ≡ wrap b → word_at m a ≡ word_at m b
unfolding word_at
same_word m a b h =
    let e1 : wrap (a + 1) ≡ wrap (b + 1) = omega arith in
    let e2 : wrap (a + 2) ≡ wrap (b + 2) = omega arith in
    let e3 : wrap (a + 3) ≡ wrap (b + 3) = omega arith in
    let e4 : wrap (a + 4) ≡ wrap (b + 4) = omega arith in
    let e5 : wrap (a + 5) ≡ wrap (b + 5) = omega arith in
    let e6 : wrap (a + 6) ≡ wrap (b + 6) = omega arith in
    let e7 : wrap (a + 7) ≡ wrap (b + 7) = omega arith in
    cc
