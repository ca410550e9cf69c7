-- Bytes that may stand are read off one by one, by their ranks.
use Rattle.std.proofs.Common.{◌≡◌, ◌≢◌, ◌<◌, ℕ, ◌+◌, ◌==◌, ◌&&◌, ◌||◌, nat_lt, List, [], ◌∷◌, ◌++◌, Bool, true, false, not, cond, if◌then◌else◌, Option, Some, None, refl, arith, zero, suc, eq-eqb, sym, ap, ◌∙◌, inl, inr, ◌⊎◌}
use Rattle.std.proofs.lemmas.Bool.{cases_order, eqb-true, not-true, lt-ltb, le-leb, and_parts}
use Rattle.x86_insn.specs.declared.insns.Prefix.{Prefix}
use Rattle.x86_insn.specs.declared.insns.Prefix.TheVariants as prefix
use Rattle.x86_insn.specs.declared.insns.Segment.{Segment}
use Rattle.x86_insn.specs.declared.insns.Segment.TheVariants as segment
use Rattle.x86_table.specs.declared.forms.Repeat.{Repeat}
use Rattle.x86_table.specs.declared.forms.Repeat.TheVariants as repeat
use Rattle.x86_table.specs.declared.forms.Map.{Map}
use Rattle.x86_table.specs.declared.forms.Map.TheVariants as map
use Rattle.x86_table.specs.declared.forms.Words.{Words}
use Rattle.x86_table.specs.declared.forms.Words.TheVariants as words
use Rattle.x86_table.specs.Fields.{Location}
use Rattle.x86_table.specs.Bytes.{opt, notrack_byte, first_byte, size_byte, word_byte, repeat_byte, lock_byte, rex_byte, escape_byte, second_escape}
use Rattle.x86_table.specs.Fits.{takes_none, may_rep, may_repe, may_repne, may_notrack, prefix_fits}
use Rattle.x86_table.specs.Heads.{takes_f2, takes_f3, rank, none_leads, none_escapes, opcode_stands}

pub both : {a b : Bool} → (a && b) ≡ true → (a ≡ true) × (b ≡ true)
both {a} {b} h = and_parts a b h

-- the list is empty or its first byte comes after k
abbrev pub Above : ℕ → List ℕ → Type 0
Above k [] = Unit {0}
Above k (x ∷ xs) = k < rank x

-- the byte has the place k, or what follows comes after k
abbrev pub Guarded : ℕ → Option ℕ → List ℕ → Type 0
Guarded k None xs = Above k xs
Guarded k (Some v) xs = rank v ≡ k

pub above : (k m : ℕ) (a : Option ℕ) (xs : List ℕ) → m < k → Guarded k a xs → Above m (opt a ++ xs)
above k m None [] lt g = tt
above k m None (x ∷ xs) lt g = omega arith
above k m (Some v) xs lt g = omega arith

pub peel : (k : ℕ) (a b : Option ℕ) (xs ys : List ℕ) → Guarded k a xs → Guarded k b ys → opt a ++ xs ≡ opt b ++ ys → (a ≡ b) × (xs ≡ ys)
peel k None None xs ys f g h = (refl, h)
peel k None (Some v) [] ys f g h = cc
peel k None (Some v) (x ∷ xs) ys f g h = let e : x ≡ v = cc in let r : rank x ≡ rank v = ap rank e in absurd (omega arith)
peel k (Some v) None xs [] f g h = cc
peel k (Some v) None xs (y ∷ ys) f g h = let e : v ≡ y = cc in let r : rank v ≡ rank y = ap rank e in absurd (omega arith)
peel k (Some v) (Some w) xs ys f g h = (cc, cc)

pub last_one : (o n k : ℕ) → none_leads o n ≡ true → k < n → rank (o + k) ≡ 7
last_one o zero k h lt = absurd (omega arith)
last_one o (suc n) k h lt =
    let p = both {a = rank (o + n) == 7} {b = none_leads o n} h in
    elim (cases_order k n) [
      | inl e ↦ rw e (eqb-true (rank (o + n)) 7 p.0)
      | inr (inl l) ↦ last_one o n k p.1 l
      | inr (inr g) ↦ absurd (omega arith)
    ]

pub guard_size : (b : Bool) (xs : List ℕ) → Above 2 xs → Guarded 2 (size_byte b) xs
guard_size true xs h = refl
guard_size false xs h = h

guard_notrack : (p : Prefix) (xs : List ℕ) → Above 1 xs → Guarded 1 (notrack_byte p) xs
guard_notrack prefix.Absent xs h = h
guard_notrack prefix.Lock xs h = h
guard_notrack prefix.Rep xs h = h
guard_notrack prefix.Repe xs h = h
guard_notrack prefix.Repne xs h = h
guard_notrack prefix.Notrack xs h = refl

pub guard_first : (s : Option Segment) (p : Prefix) (xs : List ℕ) → Above 1 xs → Guarded 1 (first_byte s p) xs
guard_first (Some segment.Fs) p xs h = refl
guard_first (Some segment.Gs) p xs h = refl
guard_first None p xs h = guard_notrack p xs h

guard_word : (p : Prefix) (xs : List ℕ) → Above 3 xs → Guarded 3 (word_byte p) xs
guard_word prefix.Absent xs h = h
guard_word prefix.Lock xs h = h
guard_word prefix.Rep xs h = refl
guard_word prefix.Repe xs h = refl
guard_word prefix.Repne xs h = refl
guard_word prefix.Notrack xs h = h

pub guard_rep : (e : Repeat) (p : Prefix) (xs : List ℕ) → Above 3 xs → Guarded 3 (repeat_byte e p) xs
guard_rep repeat.F2 p xs h = refl
guard_rep repeat.F3 p xs h = refl
guard_rep repeat.Absent p xs h = guard_word p xs h

pub guard_lock : (p : Prefix) (xs : List ℕ) → Above 4 xs → Guarded 4 (lock_byte p) xs
guard_lock prefix.Absent xs h = h
guard_lock prefix.Lock xs h = refl
guard_lock prefix.Rep xs h = h
guard_lock prefix.Repe xs h = h
guard_lock prefix.Repne xs h = h
guard_lock prefix.Notrack xs h = h

rex_rank : (bits : ℕ) → bits < 16 → rank (64 + bits) ≡ 5
rex_rank bits h = rw (le-leb 64 (64 + bits) (omega arith), lt-ltb (64 + bits) 80 (omega arith)) refl

pub guard_rex : (bits : ℕ) (plain : Bool) (xs : List ℕ) → bits < 16 → Above 5 xs → Guarded 5 (rex_byte bits plain) xs
unfolding rex_byte
guard_rex bits plain xs lt h = guard_cond (nat_lt 0 bits || plain) bits xs lt h
  where
    guard_cond : (b : Bool) (bits : ℕ) (xs : List ℕ) → bits < 16 → Above 5 xs → Guarded 5 (if b then Some (64 + bits) else None) xs
    guard_cond true bits xs lt h = rex_rank bits lt
    guard_cond false bits xs lt h = h

pub guard_opcode : (m : Map) (o n k : ℕ) (xs : List ℕ) → opcode_stands m o n ≡ true → k < n → Guarded 6 (escape_byte m) (opt (second_escape m) ++ ((o + k) ∷ xs))
guard_opcode map.One o n k xs h lt = let e : rank (o + k) ≡ 7 = last_one o n k h lt in omega arith
guard_opcode map.Two o n k xs h lt = refl
guard_opcode map.Three38 o n k xs h lt = refl
guard_opcode map.Three3A o n k xs h lt = refl

-- no opcode of the second map is the second byte of an escape
pub no_escape : (o n k : ℕ) → none_escapes o n ≡ true → k < n → (o + k ≢ 56) × (o + k ≢ 58)
no_escape o zero k h lt = absurd (omega arith)
no_escape o (suc n) k h lt =
    let p = both {a = not (o + n == 56 || o + n == 58)} {b = none_escapes o n} h in
    elim (cases_order k n) [
      | inl e ↦ rw e (neither (o + n) (not-true (o + n == 56 || o + n == 58) p.0))
      | inr (inl l) ↦ no_escape o n k p.1 l
      | inr (inr g) ↦ absurd (omega arith)
    ]
  where
    neither : (x : ℕ) → (x == 56 || x == 58) ≡ false → (x ≢ 56) × (x ≢ 58)
    neither x e = (λ f. absurd (left x f e), λ f. absurd (right x f e))
      where
        left : (x : ℕ) → x ≡ 56 → (x == 56 || x == 58) ≡ false → ⊥
        left x f e = cc_left (x == 56) (x == 58) (eq-eqb x 56 f) e
          where
            cc_left : (a b : Bool) → a ≡ true → (a || b) ≡ false → ⊥
            cc_left true b g h = cc
            cc_left false b g h = cc

        right : (x : ℕ) → x ≡ 58 → (x == 56 || x == 58) ≡ false → ⊥
        right x f e = cc_right (x == 56) (x == 58) (eq-eqb x 58 f) e
          where
            cc_right : (a b : Bool) → b ≡ true → (a || b) ≡ false → ⊥
            cc_right true b g h = cc
            cc_right false true g h = cc
            cc_right false false g h = cc

-- what the bytes say of the prefix words
some_is : {A : Type 0} {m n : A} → Some m ≡ Some n → m ≡ n
some_is h = cc

apart_numbers : (m n : ℕ) → (m < n) ⊎ (n < m) → m ≡ n → ⊥
apart_numbers m n (inl l) e = omega arith
apart_numbers m n (inr l) e = omega arith

-- `rep` and `repe` stand with different rows
not_both : (a : Words) → may_rep a ≡ true → may_repe a ≡ true → ⊥
not_both words.Absent g h = cc
not_both words.Lock g h = cc
not_both words.Rep g h = cc
not_both words.Repe g h = cc
not_both words.Notrack g h = cc

pub prefix_same : (e : Repeat) (w : Words) (p q : Prefix) (s t : Option Segment) (l m : Location) → prefix_fits e w p s l ≡ true → prefix_fits e w q t m ≡ true
    → notrack_byte p ≡ notrack_byte q → word_byte p ≡ word_byte q → lock_byte p ≡ lock_byte q → p ≡ q
prefix_same e w prefix.Absent prefix.Absent s t l m f g a b c = refl
prefix_same e w prefix.Absent prefix.Lock s t l m f g a b c = cc
prefix_same e w prefix.Absent prefix.Rep s t l m f g a b c = cc
prefix_same e w prefix.Absent prefix.Repe s t l m f g a b c = cc
prefix_same e w prefix.Absent prefix.Repne s t l m f g a b c = cc
prefix_same e w prefix.Absent prefix.Notrack s t l m f g a b c = cc
prefix_same e w prefix.Lock prefix.Absent s t l m f g a b c = cc
prefix_same e w prefix.Lock prefix.Lock s t l m f g a b c = refl
prefix_same e w prefix.Lock prefix.Rep s t l m f g a b c = cc
prefix_same e w prefix.Lock prefix.Repe s t l m f g a b c = cc
prefix_same e w prefix.Lock prefix.Repne s t l m f g a b c = cc
prefix_same e w prefix.Lock prefix.Notrack s t l m f g a b c = cc
prefix_same e w prefix.Rep prefix.Absent s t l m f g a b c = cc
prefix_same e w prefix.Rep prefix.Lock s t l m f g a b c = cc
prefix_same e w prefix.Rep prefix.Rep s t l m f g a b c = refl
prefix_same e w prefix.Rep prefix.Repe s t l m f g a b c = absurd (not_both w (and_parts (may_rep w) (takes_none e) f).0 (and_parts (may_repe w) (takes_none e) g).0)
prefix_same e w prefix.Rep prefix.Repne s t l m f g a b c = absurd (apart_numbers 243 242 (inr (omega arith)) (some_is b))
prefix_same e w prefix.Rep prefix.Notrack s t l m f g a b c = cc
prefix_same e w prefix.Repe prefix.Absent s t l m f g a b c = cc
prefix_same e w prefix.Repe prefix.Lock s t l m f g a b c = cc
prefix_same e w prefix.Repe prefix.Rep s t l m f g a b c = absurd (not_both w (and_parts (may_rep w) (takes_none e) g).0 (and_parts (may_repe w) (takes_none e) f).0)
prefix_same e w prefix.Repe prefix.Repe s t l m f g a b c = refl
prefix_same e w prefix.Repe prefix.Repne s t l m f g a b c = absurd (apart_numbers 243 242 (inr (omega arith)) (some_is b))
prefix_same e w prefix.Repe prefix.Notrack s t l m f g a b c = cc
prefix_same e w prefix.Repne prefix.Absent s t l m f g a b c = cc
prefix_same e w prefix.Repne prefix.Lock s t l m f g a b c = cc
prefix_same e w prefix.Repne prefix.Rep s t l m f g a b c = absurd (apart_numbers 242 243 (inl (omega arith)) (some_is b))
prefix_same e w prefix.Repne prefix.Repe s t l m f g a b c = absurd (apart_numbers 242 243 (inl (omega arith)) (some_is b))
prefix_same e w prefix.Repne prefix.Repne s t l m f g a b c = refl
prefix_same e w prefix.Repne prefix.Notrack s t l m f g a b c = cc
prefix_same e w prefix.Notrack prefix.Absent s t l m f g a b c = cc
prefix_same e w prefix.Notrack prefix.Lock s t l m f g a b c = cc
prefix_same e w prefix.Notrack prefix.Rep s t l m f g a b c = cc
prefix_same e w prefix.Notrack prefix.Repe s t l m f g a b c = cc
prefix_same e w prefix.Notrack prefix.Repne s t l m f g a b c = cc
prefix_same e w prefix.Notrack prefix.Notrack s t l m f g a b c = refl

no_true : (b : Bool) → (b && false) ≡ true → ⊥
no_true true h = cc
no_true false h = cc

no_notrack : (s : Segment) (e : Repeat) (a : Words) (p : Prefix) (l : Location) → prefix_fits e a p (Some s) l ≡ true → notrack_byte p ≡ None
no_notrack s e a prefix.Absent l h = refl
no_notrack s e a prefix.Lock l h = refl
no_notrack s e a prefix.Rep l h = refl
no_notrack s e a prefix.Repe l h = refl
no_notrack s e a prefix.Repne l h = refl
no_notrack s e a prefix.Notrack l h = absurd (no_true (may_notrack a) h)

never_fs : (p : Prefix) (n : ℕ) → 62 < n → notrack_byte p ≡ Some n → ⊥
never_fs prefix.Absent n lt h = cc
never_fs prefix.Lock n lt h = cc
never_fs prefix.Rep n lt h = cc
never_fs prefix.Repe n lt h = cc
never_fs prefix.Repne n lt h = cc
never_fs prefix.Notrack n lt h = (let e : 62 ≡ n = cc in omega arith)

pub first_same : (s t : Option Segment) (p q : Prefix) (e f : Repeat) (a b : Words) (l m : Location) → prefix_fits e a p s l ≡ true → prefix_fits f b q t m ≡ true
    → first_byte s p ≡ first_byte t q → (s ≡ t) × (notrack_byte p ≡ notrack_byte q)
first_same None None p q e f a b l m g h i = (refl, i)
first_same None (Some segment.Fs) p q e f a b l m g h i = absurd (never_fs p 100 (omega arith) i)
first_same None (Some segment.Gs) p q e f a b l m g h i = absurd (never_fs p 101 (omega arith) i)
first_same (Some segment.Fs) None p q e f a b l m g h i = absurd (never_fs q 100 (omega arith) (sym i))
first_same (Some segment.Gs) None p q e f a b l m g h i = absurd (never_fs q 101 (omega arith) (sym i))
first_same (Some segment.Fs) (Some segment.Fs) p q e f a b l m g h i = (refl, no_notrack segment.Fs e a p l g ∙ sym (no_notrack segment.Fs f b q m h))
first_same (Some segment.Gs) (Some segment.Gs) p q e f a b l m g h i = (refl, no_notrack segment.Gs e a p l g ∙ sym (no_notrack segment.Gs f b q m h))
first_same (Some segment.Fs) (Some segment.Gs) p q e f a b l m g h i = absurd (apart_numbers 100 101 (inl (omega arith)) (some_is i))
first_same (Some segment.Gs) (Some segment.Fs) p q e f a b l m g h i = absurd (apart_numbers 101 100 (inr (omega arith)) (some_is i))

pub size_same : (a b : Bool) → size_byte a ≡ size_byte b → a ≡ b
size_same true true h = refl
size_same false false h = refl
size_same true false h = cc
size_same false true h = cc

-- which repeat byte stands, and that the row takes it
abbrev pub Stands : Option ℕ → Repeat → Words → Type 0
Stands o e a = (o ≡ None) × (takes_none e ≡ true) ⊎ ((o ≡ Some 242) × (takes_f2 e a ≡ true) ⊎ (o ≡ Some 243) × (takes_f3 e a ≡ true))

of_rep : (a : Words) → may_rep a ≡ true → (may_rep a || may_repe a) ≡ true
of_rep a h = rw h refl

of_repe : (a : Words) → may_repe a ≡ true → (may_rep a || may_repe a) ≡ true
of_repe words.Absent h = cc
of_repe words.Lock h = cc
of_repe words.Rep h = cc
of_repe words.Repe h = refl
of_repe words.Notrack h = cc

pub stands : (e : Repeat) (a : Words) (p : Prefix) (s : Option Segment) (l : Location) → prefix_fits e a p s l ≡ true → Stands (repeat_byte e p) e a
stands repeat.F2 a p s l h = inr (inl (refl, refl))
stands repeat.F3 a p s l h = inr (inr (refl, refl))
stands repeat.Absent a prefix.Absent s l h = inl (refl, refl)
stands repeat.Absent a prefix.Lock s l h = inl (refl, refl)
stands repeat.Absent a prefix.Rep s l h = inr (inr (refl, of_rep a (both {a = may_rep a} {b = true} h).0))
stands repeat.Absent a prefix.Repe s l h = inr (inr (refl, of_repe a (both {a = may_repe a} {b = true} h).0))
stands repeat.Absent a prefix.Repne s l h = inr (inl (refl, (both {a = may_repne a} {b = true} h).0))
stands repeat.Absent a prefix.Notrack s l h = inl (refl, refl)

-- of one row: which prefix word stands
no_word : (e : Repeat) (b : Bool) → takes_none e ≡ false → (b && takes_none e) ≡ true → ⊥
no_word e true h i = cc
no_word e false h i = cc

own_none : (e : Repeat) (a : Words) (p : Prefix) (s : Option Segment) (l : Location) → takes_none e ≡ false → prefix_fits e a p s l ≡ true → word_byte p ≡ None
own_none e a prefix.Absent s l n h = refl
own_none e a prefix.Lock s l n h = refl
own_none e a prefix.Rep s l n h = absurd (no_word e (may_rep a) n h)
own_none e a prefix.Repe s l n h = absurd (no_word e (may_repe a) n h)
own_none e a prefix.Repne s l n h = absurd (no_word e (may_repne a) n h)
own_none e a prefix.Notrack s l n h = refl

pub word_same : (e : Repeat) (a : Words) (p q : Prefix) (s t : Option Segment) (l m : Location) → prefix_fits e a p s l ≡ true → prefix_fits e a q t m ≡ true
    → repeat_byte e p ≡ repeat_byte e q → word_byte p ≡ word_byte q
word_same repeat.Absent a p q s t l m g h i = i
word_same repeat.F2 a p q s t l m g h i = own_none repeat.F2 a p s l refl g ∙ sym (own_none repeat.F2 a q t m refl h)
word_same repeat.F3 a p q s t l m g h i = own_none repeat.F3 a p s l refl g ∙ sym (own_none repeat.F3 a q t m refl h)

rex_some : (m : ℕ) (a : Bool) → rex_byte (suc m) a ≡ Some (64 + suc m)
unfolding rex_byte
rex_some m a = rw (lt-ltb 0 (suc m) (omega arith)) refl

rex_none : (a : Bool) → rex_byte 0 a ≡ cond {A = Option ℕ} a (Some 64) None
unfolding rex_byte
rex_none a = refl

not_plain : (m : ℕ) (a : Bool) → (not a || (suc m == 0)) ≡ true → a ≡ false
not_plain m true h = (let e = eqb-true (suc m) 0 h in absurd (omega arith))
not_plain m false h = refl

zero_only : (a : Bool) (n : ℕ) → cond {A = Option ℕ} a (Some 64) None ≡ Some (64 + suc n) → ⊥
zero_only true n h = let e : 64 ≡ 64 + suc n = some_is h in omega arith
zero_only false n h = cc

plain_same : (a b : Bool) → cond {A = Option ℕ} a (Some 64) None ≡ cond {A = Option ℕ} b (Some 64) None → a ≡ b
plain_same true true h = refl
plain_same false false h = refl
plain_same true false h = cc
plain_same false true h = cc

pub rex_same : (m n : ℕ) (a b : Bool) → (not a || (m == 0)) ≡ true → (not b || (n == 0)) ≡ true → rex_byte m a ≡ rex_byte n b → (m ≡ n) × (a ≡ b)
rex_same zero zero a b g h i = (refl, plain_same a b (sym (rex_none a) ∙ i ∙ rex_none b))
rex_same zero (suc n) a b g h i = absurd (zero_only a n (sym (rex_none a) ∙ i ∙ rex_some n b))
rex_same (suc m) zero a b g h i = absurd (zero_only b m (sym (rex_none b) ∙ sym i ∙ rex_some m a))
rex_same (suc m) (suc n) a b g h i =
    let e : 64 + suc m ≡ 64 + suc n = some_is (sym (rex_some m a) ∙ i ∙ rex_some n b) in
    (omega arith, not_plain m a g ∙ sym (not_plain n b h))

pub byte_same : (v w : ℕ) (xs ys : List ℕ) → v ∷ xs ≡ w ∷ ys → (v ≡ w) × (xs ≡ ys)
byte_same v w xs ys h = (cc, cc)

-- in the second map the byte is no second byte of an escape
abbrev pub IsOpcode : Map → ℕ → Type 0
IsOpcode map.One x = Unit {0}
IsOpcode map.Two x = (x ≢ 56) × (x ≢ 58)
IsOpcode map.Three38 x = Unit {0}
IsOpcode map.Three3A x = Unit {0}

pub is_opcode : (m : Map) (o n k : ℕ) → opcode_stands m o n ≡ true → k < n → IsOpcode m (o + k)
is_opcode map.One o n k h lt = tt
is_opcode map.Two o n k h lt = no_escape o n k h lt
is_opcode map.Three38 o n k h lt = tt
is_opcode map.Three3A o n k h lt = tt

-- the bytes before the opcode tell its map
pub map_same : (m n : Map) (x y : ℕ) (xs ys : List ℕ) → IsOpcode m x → IsOpcode n y → escape_byte m ≡ escape_byte n
    → opt (second_escape m) ++ (x ∷ xs) ≡ opt (second_escape n) ++ (y ∷ ys) → (m ≡ n) × (x ∷ xs ≡ y ∷ ys)
map_same map.One map.One x y xs ys f g e h = (refl, h)
map_same map.One map.Two x y xs ys f g e h = cc
map_same map.One map.Three38 x y xs ys f g e h = cc
map_same map.One map.Three3A x y xs ys f g e h = cc
map_same map.Two map.One x y xs ys f g e h = cc
map_same map.Two map.Two x y xs ys f g e h = (refl, h)
map_same map.Two map.Three38 x y xs ys f g e h = absurd (f.0 (byte_same x 56 xs (y ∷ ys) h).0)
map_same map.Two map.Three3A x y xs ys f g e h = absurd (f.1 (byte_same x 58 xs (y ∷ ys) h).0)
map_same map.Three38 map.One x y xs ys f g e h = cc
map_same map.Three38 map.Two x y xs ys f g e h = absurd (g.0 (sym (byte_same 56 y (x ∷ xs) ys h).0))
map_same map.Three38 map.Three38 x y xs ys f g e h = (refl, (byte_same 56 56 (x ∷ xs) (y ∷ ys) h).1)
map_same map.Three38 map.Three3A x y xs ys f g e h = absurd (apart_numbers 56 58 (inl (omega arith)) (byte_same 56 58 (x ∷ xs) (y ∷ ys) h).0)
map_same map.Three3A map.One x y xs ys f g e h = cc
map_same map.Three3A map.Two x y xs ys f g e h = absurd (g.1 (sym (byte_same 58 y (x ∷ xs) ys h).0))
map_same map.Three3A map.Three38 x y xs ys f g e h = absurd (apart_numbers 58 56 (inr (omega arith)) (byte_same 58 56 (x ∷ xs) (y ∷ ys) h).0)
map_same map.Three3A map.Three3A x y xs ys f g e h = (refl, (byte_same 58 58 (x ∷ xs) (y ∷ ys) h).1)
