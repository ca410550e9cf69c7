-- The operands that fields are of.
use Rattle.std.proofs.Common.{◌≡◌, ◌-◌, ◌/◌, ◌^◌, ◌⊎◌, ◌∙◌, if◌then◌else◌, Bool, None, Option, Some, ap, false, inl, inr, nat_le, refl, subst, sym, true, ℕ}
use Rattle.std.proofs.lemmas.Bool.{both_ways}
use Rattle.x86_table.specs.declared.forms.Row.{Row}
use Rattle.x86_table.specs.declared.forms.Immediate.{Immediate}
use Rattle.x86_table.specs.declared.forms.Shape.{Shape}
use Rattle.x86_table.specs.declared.forms.Pattern.{Pattern}
use Rattle.x86_parts.specs.declared.found.Found.{Found}
use Rattle.x86_parts.specs.declared.encoded.Field.{Field}
use Rattle.x86_parts.specs.declared.encoded.Position.{Position}
use Rattle.x86_table.specs.declared.forms.Immediate.TheVariants as immediate
use Rattle.x86_table.specs.declared.forms.Pattern.TheVariants as pattern
use Rattle.x86_table.specs.declared.forms.Shape.TheVariants as shape
use Rattle.x86_insn.specs.Views.{Seen, absent, register, immediate as shown_immediate, memory, target, View}
use Rattle.x86_table.specs.Fields.{Location, nowhere, direct, from_rip, bare, based, Fields, located}
use Rattle.x86_table.specs.Fits.{is_memory}
use Rattle.x86_parts.specs.Building.{is_rm, is_held, chosen, pick, held_of, rm_operand, held_in, place_of, without_rex, built}
use Rattle.x86_parts.specs.Codes.{last_of, plain_immediate, plain_target, plain_memory, normal}
use Rattle.x86_parts.specs.Filling.{moved_field, held_field, in_memory, holds_number, operand_in, position_by, FieldAt}
use Rattle.x86_encode.proofs.Search.{Taking}

at_by : (test : Seen → Bool) (insn : View) (a b : Bool) → test insn.first ≡ a → test insn.second ≡ b → (test insn.first ≡ true) ⊎ ((test insn.second ≡ true) ⊎ (test insn.third ≡ true))
    → test (operand_in insn (position_by a b)) ≡ true
at_by test insn true b e f s = e
at_by test insn false true e f s = f
at_by test insn false false e f (inl x) = absurd (both_ways (test insn.first) e x)
at_by test insn false false e f (inr (inl x)) = absurd (both_ways (test insn.second) f x)
at_by test insn false false e f (inr (inr x)) = x

-- a test that passes what a role takes, passes an operand
chosen_one : (test : Seen → Bool) (a b c : Bool) (x y z : Seen) → test absent ≡ false → test (chosen a b c x y z) ≡ true → (test x ≡ true) ⊎ ((test y ≡ true) ⊎ (test z ≡ true))
chosen_one test true b c x y z n h = inl h
chosen_one test false true c x y z n h = inr (inl h)
chosen_one test false false true x y z n h = inr (inr h)
chosen_one test false false false x y z n h = absurd (both_ways (test absent) n h)

memory_plain : (o : Seen) → in_memory (plain_memory o) ≡ true → in_memory o ≡ true
memory_plain absent h = cc
memory_plain (register r) h = cc
memory_plain (shown_immediate v) h = cc
memory_plain (memory a d) h = refl
memory_plain (target v) h = cc

memory_reduced : (last : ℕ) (v : ℕ) (t u : Bool) → in_memory (if t then shown_immediate (Some v) else (if u then shown_immediate (Some (v - (2 ^ 64 - 1 - last))) else absent)) ≡ false
memory_reduced last v true u = refl
memory_reduced last v false true = refl
memory_reduced last v false false = refl

memory_immediate : (i : Immediate) (o : Seen) → in_memory (plain_immediate i o) ≡ true → in_memory o ≡ true
memory_immediate i absent h = cc
memory_immediate i (register r) h = cc
memory_immediate i (shown_immediate None) h = cc
memory_immediate i (shown_immediate (Some v)) h = absurd (both_ways _ (memory_reduced (last_of i) v (nat_le v (last_of i)) (nat_le (2 ^ 64 - 1 - last_of i / 2) v)) h)
memory_immediate i (memory a d) h = refl
memory_immediate i (target v) h = cc

memory_target : (o : Seen) → in_memory (plain_target o) ≡ true → in_memory o ≡ true
memory_target absent h = cc
memory_target (register r) h = cc
memory_target (shown_immediate v) h = cc
memory_target (memory a d) h = refl
memory_target (target v) h = cc

memory_normal : (i : Immediate) (q : Pattern) (o : Seen) → in_memory (normal i q o) ≡ true → in_memory o ≡ true
memory_normal i pattern.Absent o h = h
memory_normal i (pattern.RegMem c n) o h = memory_plain o h
memory_normal i (pattern.Reg c) o h = h
memory_normal i (pattern.Low c) o h = h
memory_normal i (pattern.Accumulator c) o h = h
memory_normal i pattern.Cl o h = h
memory_normal i pattern.One o h = h
memory_normal i pattern.Immediate o h = memory_immediate i o h
memory_normal i pattern.Target o h = memory_target o h

number_plain : (o : Seen) → holds_number (plain_memory o) ≡ true → holds_number o ≡ true
number_plain absent h = cc
number_plain (register r) h = cc
number_plain (shown_immediate v) h = refl
number_plain (memory a d) h = cc
number_plain (target v) h = refl

number_immediate : (i : Immediate) (o : Seen) → holds_number (plain_immediate i o) ≡ true → holds_number o ≡ true
number_immediate i absent h = cc
number_immediate i (register r) h = cc
number_immediate i (shown_immediate v) h = refl
number_immediate i (memory a d) h = cc
number_immediate i (target v) h = refl

number_target : (o : Seen) → holds_number (plain_target o) ≡ true → holds_number o ≡ true
number_target absent h = cc
number_target (register r) h = cc
number_target (shown_immediate v) h = refl
number_target (memory a d) h = cc
number_target (target v) h = refl

number_normal : (i : Immediate) (q : Pattern) (o : Seen) → holds_number (normal i q o) ≡ true → holds_number o ≡ true
number_normal i pattern.Absent o h = h
number_normal i (pattern.RegMem c n) o h = number_plain o h
number_normal i (pattern.Reg c) o h = h
number_normal i (pattern.Low c) o h = h
number_normal i (pattern.Accumulator c) o h = h
number_normal i pattern.Cl o h = h
number_normal i pattern.One o h = h
number_normal i pattern.Immediate o h = number_immediate i o h
number_normal i pattern.Target o h = number_target o h

either_of : {A B C D E F : Type 0} → (A → D) → (B → E) → (C → F) → A ⊎ (B ⊎ C) → D ⊎ (E ⊎ F)
either_of f g h (inl a) = inl (f a)
either_of f g h (inr (inl b)) = inr (inl (g b))
either_of f g h (inr (inr c)) = inr (inr (h c))

picked_memory : (f : Pattern → Bool) (r : Row) (insn : View) → in_memory (pick f r insn) ≡ true → in_memory (operand_in insn (position_by (in_memory insn.first) (in_memory insn.second))) ≡ true
unfolding pick
picked_memory f r insn h = at_by in_memory insn (in_memory insn.first) (in_memory insn.second) refl refl
    (either_of (memory_normal r.immediate r.first insn.first) (memory_normal r.immediate r.second insn.second) (memory_normal r.immediate r.third insn.third)
    (chosen_one in_memory (f r.first) (f r.second) (f r.third) _ _ _ refl h))

picked_number : (f : Pattern → Bool) (r : Row) (insn : View) → holds_number (pick f r insn) ≡ true → holds_number (operand_in insn (position_by (holds_number insn.first) (holds_number insn.second))) ≡ true
unfolding pick
picked_number f r insn h = at_by holds_number insn (holds_number insn.first) (holds_number insn.second) refl refl
    (either_of (number_normal r.immediate r.first insn.first) (number_normal r.immediate r.second insn.second) (number_normal r.immediate r.third insn.third)
    (chosen_one holds_number (f r.first) (f r.second) (f r.third) _ _ _ refl h))

place_memory : (o : Seen) → is_memory (place_of o) ≡ true → in_memory o ≡ true
place_memory absent h = cc
place_memory (register r) h = cc
place_memory (shown_immediate v) h = cc
place_memory (memory a d) h = refl
place_memory (target v) h = cc

rm_memory : (m : Shape) (o : Seen) → is_memory (place_of (rm_operand m o)) ≡ true → in_memory o ≡ true
rm_memory shape.Plain o h = cc
rm_memory shape.Low o h = cc
rm_memory shape.LowNotFirst o h = cc
rm_memory (shape.Fixed b) o h = cc
rm_memory (shape.Digit d m) o h = place_memory o h
rm_memory (shape.Slash m) o h = place_memory o h

moved_in : (at : ℕ) (here : Position) (insn : View) (p : Location) → (is_memory p ≡ true → in_memory (operand_in insn here) ≡ true) → FieldAt in_memory insn (moved_field at here p)
moved_in at here insn nowhere k = tt
moved_in at here insn (direct n) k = tt
moved_in at here insn (from_rip None) k = k refl
moved_in at here insn (from_rip (Some v)) k = tt
moved_in at here insn (bare i None) k = k refl
moved_in at here insn (bare i (Some v)) k = tt
moved_in at here insn (based b i s w None) k = k refl
moved_in at here insn (based b i s w (Some v)) k = tt

held_number : (o : Seen) → None ≡ held_of o → holds_number o ≡ true
held_number absent h = cc
held_number (register r) h = cc
held_number (shown_immediate v) h = refl
held_number (memory a d) h = cc
held_number (target v) h = refl

none_held : (i : Immediate) (o : Seen) → None ≡ held_in i o → holds_number o ≡ true
none_held immediate.Absent o h = cc
none_held immediate.Byte o h = held_number o h
none_held immediate.Count o h = held_number o h
none_held immediate.Sext16 o h = held_number o h
none_held immediate.Sext32 o h = held_number o h
none_held immediate.Sext64 o h = held_number o h
none_held immediate.Word o h = held_number o h
none_held immediate.Long o h = held_number o h
none_held immediate.LongSext o h = held_number o h
none_held immediate.Quad o h = held_number o h
none_held immediate.Rel8 o h = held_number o h
none_held immediate.Short o h = held_number o h
none_held immediate.Rel32 o h = held_number o h

held_at : (at : ℕ) (here : Position) (insn : View) (i : Immediate) (d : Option ℕ) → (None ≡ d → holds_number (operand_in insn here) ≡ true) → FieldAt holds_number insn (held_field at here i d)
held_at at here insn i None k = k refl
held_at at here insn i (Some v) k = tt

built_place : (r : Row) (insn : View) → (built r insn).place ≡ place_of (rm_operand r.shape (pick is_rm r insn))
unfolding built without_rex
built_place r insn = refl

built_held : (r : Row) (insn : View) → (built r insn).held ≡ held_in r.immediate (pick is_held r insn)
unfolding built without_rex
built_held r insn = refl

pub moved_placed : (at : ℕ) (insn : View) (x : Found) (r : Row) (moved : Option Field) → Taking insn x r
    → moved ≡ moved_field at (position_by (in_memory insn.first) (in_memory insn.second)) (located x.parts.displacement x.parts.place) → FieldAt in_memory insn moved
moved_placed at insn x r moved t e =
    let p : located x.parts.displacement x.parts.place ≡ place_of (rm_operand r.shape (pick is_rm r insn)) = ap (λ (y : Fields). y.place) t.parts_are ∙ built_place r insn in
    subst (λ (f : Option Field). FieldAt in_memory insn f) (sym e)
    (moved_in at (position_by (in_memory insn.first) (in_memory insn.second)) insn (located x.parts.displacement x.parts.place)
    (λ m. picked_memory is_rm r insn (rm_memory r.shape (pick is_rm r insn) (subst (λ (y : Location). is_memory y ≡ true) p m))))

pub held_placed : (at : ℕ) (insn : View) (x : Found) (r : Row) (held : Option Field) → Taking insn x r
    → held ≡ held_field at (position_by (holds_number insn.first) (holds_number insn.second)) r.immediate x.parts.immediate → FieldAt holds_number insn held
held_placed at insn x r held t e =
    let p : x.parts.immediate ≡ held_in r.immediate (pick is_held r insn) = ap (λ (y : Fields). y.held) t.parts_are ∙ built_held r insn in
    subst (λ (f : Option Field). FieldAt holds_number insn f) (sym e)
    (held_at at (position_by (holds_number insn.first) (holds_number insn.second)) insn r.immediate x.parts.immediate
    (λ n. picked_number is_held r insn (none_held r.immediate (pick is_held r insn) (n ∙ p))))
