-- What a row shows of an instruction with its values is the instruction, with an immediate modulo the operand size.
use Rattle.std.proofs.Common.{◌≡◌, ℕ, ◌+◌, ◌-◌, ◌/◌, ◌%◌, ◌^◌, ◌<◌, ◌==◌, ◌&&◌, nat_le, Bool, true, false, cond, List, length, Option, Some, None, refl, sym, ap, subst, arith, ◌∙◌}
use Rattle.std.proofs.lemmas.Bool.Decides.{nat_tests}
use Rattle.x86_insn.specs.declared.insns.Base.{Base}
use Rattle.x86_insn.specs.Views.{Seen, absent, register, immediate, memory, target, View, displaced}
use Rattle.x86_table.specs.declared.forms.Pattern.{Pattern}
use Rattle.x86_table.specs.declared.forms.Pattern.TheVariants as pattern
use Rattle.x86_table.specs.declared.forms.Immediate.{Immediate}
use Rattle.x86_table.specs.declared.forms.Row.{Row}
use Rattle.x86_table.specs.Bytes.{has_rex, bytes_of}
use Rattle.x86_table.specs.Fields.{Fields}
use Rattle.x86_table.specs.Reads.{shown, is_register, is_accumulator, change_places, meaning, Reads}
use Rattle.x86_parts.specs.Codes.{last_of, reduced, plain_immediate}
use Rattle.x86_encode.specs.Exchanges.{turned, turned_if, exchanges}
use Rattle.x86_parts.specs.Filling.{known_as, counted, valued, exact, ReadsAs}
use Rattle.x86_encode.specs.Answers.{InOrder}
use Rattle.x86_steps.specs.Fillings.{FillsNumber, FillsWhere, Fills, FillsView, is_counted}
use Rattle.step_readings.specs.Filled.{IsPlain, IsPlainView}
use Rattle.step_readings.proofs.RowFacts.{last_counts}

-- an instruction with these numbers in place of those that are not known
abbrev pub valued_view : ℕ → ℕ → ℕ → View → View
valued_view long v w insn =
    record insn { first = valued long v w insn.first; second = valued long v w insn.second; third = valued long v w insn.third }

known_fills : (k : Option ℕ) (w : ℕ) → FillsNumber k (known_as w k)
known_fills None w = tt
known_fills (Some k) w = refl

itself_fills : (k : Option ℕ) → FillsNumber k k
itself_fills None = tt
itself_fills (Some k) = refl

counts_fill : (wide : Bool) (k n : Option ℕ) → FillsNumber k n → FillsWhere wide k n
counts_fill true k n f = f
counts_fill false k n f = tt

moved_fills : (b : Base) (d : Option ℕ) (n v : ℕ) → displaced b d ≡ d → FillsNumber d (known_as (counted n b v) (displaced b d))
moved_fills b d n v e = subst (λ x. FillsNumber d (known_as (counted n b v) x)) (sym e) (known_fills d (counted n b v))

-- an operand with values in place of those that are not known
valued_fills : (wide : Bool) (n v w : ℕ) (o : Seen) → IsPlain o → Fills wide o (valued n v w o)
valued_fills wide n v w absent p = refl
valued_fills wide n v w (register r) p = refl
valued_fills wide n v w (immediate k) p = (known_as w k, refl, counts_fill wide k (known_as w k) (known_fills k w))
valued_fills wide n v w (memory a d) p = (known_as (counted n a.base v) (displaced a.base d), refl, moved_fills a.base d n v p)
valued_fills wide n v w (target d) p = (Some ((w + n) % 2 ^ 64), refl, subst (λ x. FillsNumber x (Some ((w + n) % 2 ^ 64))) (sym p) tt)

same_number : (a b : Option ℕ) → immediate a ≡ immediate b → a ≡ b
same_number a b e = cc

at_most : (k last : ℕ) → last ≡ 2 ^ 64 - 1 → k < 2 ^ 64 → nat_le k last ≡ true
at_most k last e h = grind (arith, nat_tests)

-- an immediate that is_counted is its own remainder
whole : (last k : ℕ) → last ≡ 2 ^ 64 - 1 → k < 2 ^ 64 → reduced last k ≡ immediate (Some k)
whole last k e h = ap (λ b. cond b (immediate (Some k)) (cond (nat_le (2 ^ 64 - 1 - last / 2) k) (immediate (Some (k - (2 ^ 64 - 1 - last)))) absent)) (at_most k last e h)

-- of the operand with its values
same_fills : (wide : Bool) (o : Seen) → Fills wide o o
same_fills wide absent = refl
same_fills wide (register r) = refl
same_fills wide (immediate k) = (k, refl, counts_fill wide k k (itself_fills k))
same_fills wide (memory a k) = (k, refl, itself_fills k)
same_fills wide (target k) = (k, refl, itself_fills k)

immediate_fills : (wide : Bool) (last k : ℕ) (held : Option ℕ) → k < 2 ^ 64 → (wide ≡ true → last ≡ 2 ^ 64 - 1) → reduced last k ≡ immediate held → FillsWhere wide (Some k) held
immediate_fills false last k held p c e = tt
immediate_fills true last k held p c e = same_number held (Some k) (sym e ∙ whole last k (c refl) p)

-- an operand as a row shows it
held_fills : (wide : Bool) (i : Immediate) (n v w : ℕ) (o : Seen) (held : Option ℕ) → IsPlain o → w < 2 ^ 64 → (wide ≡ true → last_of i ≡ 2 ^ 64 - 1) → plain_immediate i (valued n v w o) ≡ immediate held → Fills wide (valued n v w o) (immediate held)
held_fills wide i n v w absent held p l c e = sym e
held_fills wide i n v w (register r) held p l c e = sym e
held_fills wide i n v w (immediate None) held p l c e = (held, refl, immediate_fills wide (last_of i) w held l c e)
held_fills wide i n v w (immediate (Some k)) held p l c e = (held, refl, immediate_fills wide (last_of i) k held p c e)
held_fills wide i n v w (memory a d) held p l c e = subst (Fills wide (valued n v w (memory a d))) e (same_fills wide (valued n v w (memory a d)))
held_fills wide i n v w (target d) held p l c e = subst (Fills wide (valued n v w (target d))) e (same_fills wide (valued n v w (target d)))

row_fills : (wide : Bool) (r : Pattern) (i : Immediate) (n v w : ℕ) (o : Seen) (rex : Bool) (len : ℕ) (f : Fields) → IsPlain o → w < 2 ^ 64 → (wide ≡ true → last_of i ≡ 2 ^ 64 - 1) → exact i r (valued n v w o) ≡ shown rex len f r → Fills wide (valued n v w o) (shown rex len f r)
row_fills wide pattern.Absent i n v w o rex len f p l c e = subst (Fills wide (valued n v w o)) e (same_fills wide (valued n v w o))
row_fills wide (pattern.RegMem x y) i n v w o rex len f p l c e = subst (Fills wide (valued n v w o)) e (same_fills wide (valued n v w o))
row_fills wide (pattern.Reg x) i n v w o rex len f p l c e = subst (Fills wide (valued n v w o)) e (same_fills wide (valued n v w o))
row_fills wide (pattern.Low x) i n v w o rex len f p l c e = subst (Fills wide (valued n v w o)) e (same_fills wide (valued n v w o))
row_fills wide (pattern.Accumulator x) i n v w o rex len f p l c e = subst (Fills wide (valued n v w o)) e (same_fills wide (valued n v w o))
row_fills wide pattern.Cl i n v w o rex len f p l c e = subst (Fills wide (valued n v w o)) e (same_fills wide (valued n v w o))
row_fills wide pattern.One i n v w o rex len f p l c e = subst (Fills wide (valued n v w o)) e (same_fills wide (valued n v w o))
row_fills wide pattern.Immediate i n v w o rex len f p l c e = held_fills wide i n v w o f.held p l c e
row_fills wide pattern.Target i n v w o rex len f p l c e = subst (Fills wide (valued n v w o)) e (same_fills wide (valued n v w o))

-- EXCHANGES

filled_register : (wide : Bool) (o u : Seen) → Fills wide o u → is_register u ≡ is_register o
filled_register wide absent u f = ap is_register f
filled_register wide (register r) u f = ap is_register f
filled_register wide (immediate k) u f = ap is_register f.1
filled_register wide (memory a k) u f = ap is_register f.1
filled_register wide (target k) u f = ap is_register f.1

filled_accumulator : (wide : Bool) (o u : Seen) → Fills wide o u → is_accumulator u ≡ is_accumulator o
filled_accumulator wide absent u f = ap is_accumulator f
filled_accumulator wide (register r) u f = ap is_accumulator f
filled_accumulator wide (immediate k) u f = ap is_accumulator f.1
filled_accumulator wide (memory a k) u f = ap is_accumulator f.1
filled_accumulator wide (target k) u f = ap is_accumulator f.1

-- what a row shows of an instruction, in its order
pub record InRow (u : View) (r : Row) (f : Fields) : Type 0 where
  pub name : r.name.0 ≡ u.name.0
  pub size : r.size ≡ u.size
  pub words : f.«prefix» ≡ u.«prefix»
  pub first : Fills ((u.size == 64) && is_counted u.name.0) u.first (shown (has_rex r f) (length (bytes_of r f)) f r.first)
  pub second : Fills ((u.size == 64) && is_counted u.name.0) u.second (shown (has_rex r f) (length (bytes_of r f)) f r.second)
  pub third : Fills ((u.size == 64) && is_counted u.name.0) u.third (shown (has_rex r f) (length (bytes_of r f)) f r.third)

in_row : (u : View) (bytes : List ℕ) (n v w : ℕ) → IsPlainView u → w < 2 ^ 64 → (x : ReadsAs bytes u (valued n v w u.first) (valued n v w u.second) (valued n v w u.third)) → InRow (valued_view n v w u) x.r x.p
in_row u bytes n v w p l x = record {
  name = sym x.shows.name_is;
  size = sym x.shows.size_is;
  words = sym x.shows.prefix_is;
  first = row_fills _ x.r.first x.r.immediate n v w u.first (has_rex x.r x.p) (length (bytes_of x.r x.p)) x.p p.first l last x.shows.first_is;
  second = row_fills _ x.r.second x.r.immediate n v w u.second (has_rex x.r x.p) (length (bytes_of x.r x.p)) x.p p.second l last x.shows.second_is;
  third = row_fills _ x.r.third x.r.immediate n v w u.third (has_rex x.r x.p) (length (bytes_of x.r x.p)) x.p p.third l last x.shows.third_is;
}
  where
    last : ((u.size == 64) && is_counted u.name.0) ≡ true → last_of x.r.immediate ≡ 2 ^ 64 - 1
    last h = last_counts x.row x.r x.reads.found (subst (λ k. ((k == 64) && is_counted x.r.name.0) ≡ true) x.shows.size_is (subst (λ k. ((u.size == 64) && is_counted k) ≡ true) x.shows.name_is h))

places_change : (u : View) (r : Row) (f : Fields) → InRow u r f
    → change_places r (shown (has_rex r f) (length (bytes_of r f)) f r.first) (shown (has_rex r f) (length (bytes_of r f)) f r.second) ≡ exchanges u
places_change u r f x =
    let a = x.name in
    let b = filled_register _ u.first _ x.first in
    let c = filled_accumulator _ u.second _ x.second in
    cc

-- what a row shows is the instruction with its values, in the order in which it was written
meant_fills : (b : Bool) (v : View) (r : Row) (f : Fields) → exchanges (turned_if b v) ≡ b → InRow (turned_if b v) r f → FillsView v (meaning r f)
unfolding meaning
meant_fills false v r f e x =
    let c = places_change v r f x ∙ e in
    record {
      name = x.name;
      size = x.size;
      words = x.words;
      third = x.third;
      first = subst (λ z. Fills ((v.size == 64) && is_counted v.name.0) v.first (cond z (shown (has_rex r f) (length (bytes_of r f)) f r.second) (shown (has_rex r f) (length (bytes_of r f)) f r.first))) (sym c) x.first;
      second = subst (λ z. Fills ((v.size == 64) && is_counted v.name.0) v.second (cond z (shown (has_rex r f) (length (bytes_of r f)) f r.first) (shown (has_rex r f) (length (bytes_of r f)) f r.second))) (sym c) x.second;
    }
meant_fills true v r f e x =
    let c = places_change (turned v) r f x ∙ e in
    record {
      name = x.name;
      size = x.size;
      words = x.words;
      third = x.third;
      first = subst (λ z. Fills ((v.size == 64) && is_counted v.name.0) v.first (cond z (shown (has_rex r f) (length (bytes_of r f)) f r.second) (shown (has_rex r f) (length (bytes_of r f)) f r.first))) (sym c) x.second;
      second = subst (λ z. Fills ((v.size == 64) && is_counted v.name.0) v.second (cond z (shown (has_rex r f) (length (bytes_of r f)) f r.first) (shown (has_rex r f) (length (bytes_of r f)) f r.second))) (sym c) x.first;
    }

plain_turned : (b : Bool) (v : View) → IsPlainView v → IsPlainView (turned_if b v)
plain_turned true v p = record { first = p.second; second = p.first; third = p.third }
plain_turned false v p = p

-- values change neither registers nor whether an operand is one
valued_turned : (b : Bool) (n v w : ℕ) (u : View) → valued_view n v w (turned_if b u) ≡ turned_if b (valued_view n v w u)
valued_turned true n v w u = refl
valued_turned false n v w u = refl

valued_exchanges : (n v w : ℕ) (u : View) → IsPlainView u → exchanges (valued_view n v w u) ≡ exchanges u
valued_exchanges n v w u p =
    let a = filled_register true u.first _ (valued_fills true n v w u.first p.first) in
    let b = filled_accumulator true u.second _ (valued_fills true n v w u.second p.second) in
    cc

pub view_fills : (n v w : ℕ) (u : View) → IsPlainView u → FillsView u (valued_view n v w u)
view_fills n v w u p = record {
  name = refl;
  size = refl;
  words = refl;
  first = valued_fills _ n v w u.first p.first;
  second = valued_fills _ n v w u.second p.second;
  third = valued_fills _ n v w u.third p.third;
}

-- the bytes read as an instruction with numbers in place of those that the values leave unknown: none but immediates that do not count
pub record Found (insn : View) (bytes : List ℕ) : Type 0 where
  pub read : View
  pub reads : Reads bytes read
  pub fills : FillsView insn read

pub filled_reads : (insn : View) (bytes : List ℕ) (n v w : ℕ) → IsPlainView insn → w < 2 ^ 64
    → InOrder (λ u. ReadsAs bytes u (valued n v w u.first) (valued n v w u.second) (valued n v w u.third)) insn → Found (valued_view n v w insn) bytes
filled_reads insn bytes n v w p l x =
    let u = turned_if x.0 insn in
    let row = in_row u bytes n v w (plain_turned x.0 insn p) l x.2 in
    let order : exchanges (turned_if x.0 (valued_view n v w insn)) ≡ x.0 =
    ap exchanges (sym (valued_turned x.0 n v w insn)) ∙ valued_exchanges n v w u (plain_turned x.0 insn p) ∙ x.1 in
    let turned_row = subst (λ z. InRow z x.2.r x.2.p) (valued_turned x.0 n v w insn) row in
    record {
      read = meaning x.2.r x.2.p;
      reads = (x.2.row, x.2.r, x.2.p, x.2.reads);
      fills = meant_fills x.0 (valued_view n v w insn) x.2.r x.2.p order turned_row;
    }
