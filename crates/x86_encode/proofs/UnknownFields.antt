-- A field of an encoding stands for a value that is not known, unless it holds a distance.
use Rattle.std.proofs.Common.{◌≡◌, ℕ, ◌-◌, ◌/◌, ◌^◌, ◌||◌, ◌&&◌, ◌⊎◌, inl, inr, nat_le, not, Bool, true, false, Option, Some, None, Result, Ok, Err, refl, sym, ap, ◌∙◌, subst, length}
use Rattle.std.specs.Prelude.{if◌then◌else◌}
use Rattle.std.proofs.lemmas.Bool.{and_parts, or_cases}
use Rattle.x86_insn.specs.declared.amounts.Values.{Values}
use Rattle.x86_insn.specs.declared.insns.Address.{Address}
use Rattle.x86_insn.specs.declared.insns.Base.{Base}
use Rattle.x86_insn.specs.declared.insns.Base.TheVariants as base
use Rattle.x86_insn.specs.declared.insns.Index.{Index}
use Rattle.x86_insn.specs.declared.insns.Segment.{Segment}
use Rattle.x86_insn.specs.Views.{Seen, absent, register, immediate as shown_immediate, memory, target, View, displaced}
use Rattle.x86_table.specs.declared.forms.Immediate.{Immediate}
use Rattle.x86_table.specs.declared.forms.Immediate.TheVariants as immediate
use Rattle.x86_table.specs.declared.forms.Pattern.{Pattern}
use Rattle.x86_table.specs.declared.forms.Pattern.TheVariants as pattern
use Rattle.x86_table.specs.declared.forms.Shape.{Shape}
use Rattle.x86_table.specs.declared.forms.Shape.TheVariants as shape
use Rattle.x86_table.specs.declared.forms.Row.{Row}
use Rattle.x86_table.specs.Bytes.{has_rex, bytes_of}
use Rattle.x86_table.specs.Fields.{Location, nowhere, direct, from_rip, bare, based, Fields}
use Rattle.x86_table.specs.Fits.{place_fits, immediate_fits}
use Rattle.x86_table.specs.Reads.{memory_shown, place_shown, shown}
use Rattle.x86_parts.specs.declared.encoded.EncodeFault.{EncodeFault}
use Rattle.x86_parts.specs.declared.encoded.Field.{Field}
use Rattle.x86_insn.specs.declared.amounts.FieldKind.TheVariants as kind
use Rattle.x86_parts.specs.declared.encoded.Position.{Position}
use Rattle.x86_encode.specs.Answers.{Notes}
use Rattle.x86_parts.specs.Building.{is_rm, is_held, has, has_low, has_reg, has_rm, has_held, is_low, is_reg, is_shaped}
use Rattle.x86_parts.specs.Codes.{last_of, plain_immediate, plain_memory, normal, Means, meant}
use Rattle.x86_encode.specs.Encoding.{encoding_of}
use Rattle.x86_encode.specs.Exchanges.{turned_if}
use Rattle.x86_encode.specs.Faults.{is_value, kind_fits, kinds_fit}
use Rattle.x86_encode.specs.FieldPlaces.{is_rip, lacks_number, lacks_displacement, any_operand, Unknown}
use Rattle.x86_parts.specs.Filling.{Coding, moved_field, kind_of, held_field, Noted}
use Rattle.x86_parts.specs.Keys.{immediate_length}
use Rattle.x86_encode.proofs.Best.{shaped_at}
use Rattle.x86_encode.proofs.Encodings.{notes}
use Rattle.x86_encode.proofs.Fitted.{no_location, fit_of}
use Rattle.x86_encode.proofs.Values.{kinds_at}

-- THE IMMEDIATE

reduced_none : (last x : ℕ) (t u : Bool)
    → (if t then shown_immediate (Some x) else (if u then shown_immediate (Some (x - (2 ^ 64 - 1 - last))) else absent)) ≡ shown_immediate None → ⊥
reduced_none last x true u is = cc
reduced_none last x false true is = cc
reduced_none last x false false is = cc

-- an immediate that shows none is none
immediate_none : (i : Immediate) (o : Seen) → plain_immediate i o ≡ shown_immediate None → o ≡ shown_immediate None
immediate_none i absent is = absurd cc
immediate_none i (register r) is = absurd cc
immediate_none i (shown_immediate None) is = refl
immediate_none i (shown_immediate (Some x)) is = absurd (reduced_none (last_of i) x (nat_le x (last_of i)) (nat_le (2 ^ 64 - 1 - last_of i / 2) x) is)
immediate_none i (memory a d) is = absurd cc
immediate_none i (target d) is = absurd cc

branch_kind : (i : Immediate) → immediate_fits i None ≡ true → not (is_value i) ≡ true → kind_of i ≡ kind.Branch
branch_kind immediate.Absent fits is = absurd cc
branch_kind immediate.Byte fits is = absurd cc
branch_kind immediate.Count fits is = absurd cc
branch_kind immediate.Sext16 fits is = absurd cc
branch_kind immediate.Sext32 fits is = absurd cc
branch_kind immediate.Sext64 fits is = absurd cc
branch_kind immediate.Word fits is = absurd cc
branch_kind immediate.Long fits is = absurd cc
branch_kind immediate.LongSext fits is = absurd cc
branch_kind immediate.Quad fits is = absurd cc
branch_kind immediate.Rel8 fits is = refl
branch_kind immediate.Short fits is = refl
branch_kind immediate.Rel32 fits is = refl

-- the operand that holds a number which is not known
slot_none : (rex : Bool) (len : ℕ) (i : Immediate) (p : Fields) (q : Pattern) (o : Seen) → immediate_fits i None ≡ true → p.held ≡ None → kind_fits i q ≡ true
    → normal i q o ≡ shown rex len p q → is_held q ≡ true → (kind_of i ≡ kind.Branch) ⊎ (lacks_number o ≡ true)
slot_none rex len i p pattern.Absent o fits none kinds is holds = absurd cc
slot_none rex len i p (pattern.RegMem c n) o fits none kinds is holds = absurd cc
slot_none rex len i p (pattern.Reg c) o fits none kinds is holds = absurd cc
slot_none rex len i p (pattern.Low c) o fits none kinds is holds = absurd cc
slot_none rex len i p (pattern.Accumulator c) o fits none kinds is holds = absurd cc
slot_none rex len i p pattern.Cl o fits none kinds is holds = absurd cc
slot_none rex len i p pattern.One o fits none kinds is holds = absurd cc
slot_none rex len i p pattern.Immediate o fits none kinds is holds = inr (ap lacks_number (immediate_none i o (is ∙ ap shown_immediate none)))
slot_none rex len i p pattern.Target o fits none kinds is holds = inl (branch_kind i fits kinds)

role_there : (a b : Bool) → (not a || b) ≡ true → a ≡ true → b ≡ true
role_there true b h k = h
role_there false b h k = absurd cc

held_there : (i : Immediate) → immediate_fits i None ≡ true → has_held i ≡ true
held_there immediate.Absent fits = absurd cc
held_there immediate.Byte fits = refl
held_there immediate.Count fits = refl
held_there immediate.Sext16 fits = refl
held_there immediate.Sext32 fits = refl
held_there immediate.Sext64 fits = refl
held_there immediate.Word fits = refl
held_there immediate.Long fits = refl
held_there immediate.LongSext fits = refl
held_there immediate.Quad fits = refl
held_there immediate.Rel8 fits = refl
held_there immediate.Short fits = refl
held_there immediate.Rel32 fits = refl

-- the roles of a row that has an immediate or a place
abbrev low_role : Row → Bool
low_role r = not (has_low r.shape) || has is_low r

-- a row with ModRM.reg has a pattern for it
abbrev reg_role : Row → Bool
reg_role r = not (has_reg r.shape) || has is_reg r

-- a row with ModRM.rm has a pattern for it
abbrev rm_role : Row → Bool
rm_role r = not (has_rm r.shape) || has is_rm r

-- a row with an immediate has a pattern for it
abbrev held_role : Row → Bool
held_role r = not (has_held r.immediate) || has is_held r

roles_of : (r : Row) → is_shaped r ≡ true → (rm_role r ≡ true) × (held_role r ≡ true)
roles_of r is =
    let a = and_parts (low_role r) (reg_role r && (rm_role r && held_role r)) is in
    let b = and_parts (reg_role r) (rm_role r && held_role r) a.1 in
    let c = and_parts (rm_role r) (held_role r) b.1 in
    (c.0, c.1)

or_left : (a b : Bool) → a ≡ true → (a || b) ≡ true
or_left true b is = refl
or_left false b is = absurd cc

or_right : (a b : Bool) → b ≡ true → (a || b) ≡ true
or_right true b is = refl
or_right false b is = is

-- what is so of the operand that a test of patterns finds
one_picked : (f : Pattern → Bool) (test : Seen → Bool) (Q : Type 0) (r : Row) (insn : View) → has f r ≡ true → (f r.first ≡ true → Q ⊎ (test insn.first ≡ true))
    → (f r.second ≡ true → Q ⊎ (test insn.second ≡ true))
    → (f r.third ≡ true → Q ⊎ (test insn.third ≡ true)) → Q ⊎ (any_operand test insn ≡ true)
one_picked f test Q r insn some first second third = elim (or_cases (f r.first) (f r.second || f r.third) some) [
  | inl a ↦ elim (first a) [ inl q ↦ inl q | inr p ↦ inr (or_left (test insn.first) (test insn.second || test insn.third) p) ]
  | inr rest ↦ elim (or_cases (f r.second) (f r.third) rest) [
    | inl b ↦ elim (second b) [
      | inl q ↦ inl q
      | inr p ↦ inr (or_right (test insn.first) (test insn.second || test insn.third) (or_left (test insn.second) (test insn.third) p))
    ]
    | inr c ↦ elim (third c) [
      | inl q ↦ inl q
      | inr p ↦ inr (or_right (test insn.first) (test insn.second || test insn.third) (or_right (test insn.second) (test insn.third) p))
    ]
  ]
]

held_none : (r : Row) (p : Fields) (insn : View) → Means r p insn → is_shaped r ≡ true → kinds_fit r ≡ true → immediate_fits r.immediate None ≡ true
    → p.held ≡ None
    → (kind_of r.immediate ≡ kind.Branch) ⊎ (any_operand lacks_number insn ≡ true)
held_none r p insn means shaped kinds fits none =
    let role = role_there (has_held r.immediate) (has is_held r) (roles_of r shaped).1 (held_there r.immediate fits) in
    let all = and_parts _ _ kinds in
    let first = and_parts (kind_fits r.immediate r.first) (kind_fits r.immediate r.second && kind_fits r.immediate r.third) all.0 in
    let others = and_parts (kind_fits r.immediate r.second) (kind_fits r.immediate r.third) first.1 in
    let rex = has_rex r p in
    let len = length (bytes_of r p) in
    one_picked is_held lacks_number (kind_of r.immediate ≡ kind.Branch) r insn role
    (slot_none rex len r.immediate p r.first insn.first fits none first.0 means.first)
    (slot_none rex len r.immediate p r.second insn.second fits none others.0 means.second)
    (slot_none rex len r.immediate p r.third insn.third fits none others.1 means.third)

-- THE PLACE

memory_lacks : (a : Address) (d : Option ℕ) (b other : Base) → a.base ≡ b → b ≡ other → is_rip other ≡ false → displaced b d ≡ None
    → lacks_displacement (memory a d) ≡ true
memory_lacks a None b other at same far none = ap not (ap is_rip at ∙ ap is_rip same ∙ far)
memory_lacks a (Some v) base.Absent other at same far none = absurd cc
memory_lacks a (Some v) base.Rip other at same far none = absurd (let rip : true ≡ false = ap is_rip same ∙ far in cc)
memory_lacks a (Some v) (base.Of n) other at same far none = absurd cc

base_shown : Seen → Base
base_shown absent = base.Absent
base_shown (register r) = base.Absent
base_shown (shown_immediate v) = base.Absent
base_shown (memory a d) = a.base
base_shown (target v) = base.Absent

moved_shown : Seen → Option ℕ
moved_shown absent = None
moved_shown (register r) = None
moved_shown (shown_immediate v) = None
moved_shown (memory a d) = d
moved_shown (target v) = None

-- what shows an address whose displacement is not known, and whose base is not rip
shows_open : (o : Seen) (segment : Option Segment) (b : Base) (index : Index) → is_rip b ≡ false → plain_memory o ≡ memory_shown segment b index None
    → lacks_displacement o ≡ true
unfolding base_shown moved_shown
shows_open absent segment b index far is = absurd cc
shows_open (register r) segment b index far is = absurd cc
shows_open (shown_immediate v) segment b index far is = absurd cc
shows_open (memory a d) segment b index far is = memory_lacks a d a.base b refl (ap base_shown is) far (ap moved_shown is)
shows_open (target v) segment b index far is = absurd cc

slot_open : (at : ℕ) (here : Position) (rex : Bool) (len : ℕ) (i : Immediate) (p : Fields) (place : Location) (q : Pattern) (o : Seen) (field : Field)
    → p.place ≡ place
    → moved_field at here place ≡ Some field → normal i q o ≡ shown rex len p q → is_rm q ≡ true → (field.kind ≡ kind.Address) ⊎ (lacks_displacement o ≡ true)
slot_open at here rex len i p place pattern.Absent o field are there is holds = absurd cc
slot_open at here rex len i p place (pattern.Reg c) o field are there is holds = absurd cc
slot_open at here rex len i p place (pattern.Low c) o field are there is holds = absurd cc
slot_open at here rex len i p place (pattern.Accumulator c) o field are there is holds = absurd cc
slot_open at here rex len i p place pattern.Cl o field are there is holds = absurd cc
slot_open at here rex len i p place pattern.One o field are there is holds = absurd cc
slot_open at here rex len i p place pattern.Immediate o field are there is holds = absurd cc
slot_open at here rex len i p place pattern.Target o field are there is holds = absurd cc
slot_open at here rex len i p nowhere (pattern.RegMem c n) o field are there is holds = absurd cc
slot_open at here rex len i p (direct m) (pattern.RegMem c n) o field are there is holds = absurd cc
slot_open at here rex len i p (from_rip None) (pattern.RegMem c n) o field are there is holds = inl cc
slot_open at here rex len i p (from_rip (Some v)) (pattern.RegMem c n) o field are there is holds = absurd cc
slot_open at here rex len i p (bare k None) (pattern.RegMem c n) o field are there is holds =
    inr (shows_open o p.segment base.Absent k refl (is ∙ ap (place_shown rex c len p.segment) are))
slot_open at here rex len i p (bare k (Some v)) (pattern.RegMem c n) o field are there is holds = absurd cc
slot_open at here rex len i p (based b k s w None) (pattern.RegMem c n) o field are there is holds =
    inr (shows_open o p.segment (base.Of b) k refl (is ∙ ap (place_shown rex c len p.segment) are))
slot_open at here rex len i p (based b k s w (Some v)) (pattern.RegMem c n) o field are there is holds = absurd cc

no_rm : {C : Type 0} (at : ℕ) (here : Position) (place : Location) (field : Field) → place ≡ nowhere → moved_field at here place ≡ Some field → C
no_rm at here place field none there = absurd (rm_absurd (sym (ap (moved_field at here) none) ∙ there))
  where
    rm_absurd : None ≡ Some field → ⊥
    rm_absurd is = cc

rm_there : (at : ℕ) (here : Position) (m : Shape) (place : Location) (field : Field) → place_fits m place ≡ true → moved_field at here place ≡ Some field
    → has_rm m ≡ true
rm_there at here shape.Plain place field fits there = no_rm at here place field (no_location place fits) there
rm_there at here shape.Low place field fits there = no_rm at here place field (no_location place fits) there
rm_there at here shape.LowNotFirst place field fits there = no_rm at here place field (no_location place fits) there
rm_there at here (shape.Fixed b) place field fits there = no_rm at here place field (no_location place fits) there
rm_there at here (shape.Digit d m) place field fits there = refl
rm_there at here (shape.Slash m) place field fits there = refl

place_open : (at : ℕ) (here : Position) (r : Row) (p : Fields) (insn : View) (field : Field) → Means r p insn → is_shaped r ≡ true
    → place_fits r.shape p.place ≡ true
    → moved_field at here p.place ≡ Some field → (field.kind ≡ kind.Address) ⊎ (any_operand lacks_displacement insn ≡ true)
place_open at here r p insn field means shaped fits there =
    let role = role_there (has_rm r.shape) (has is_rm r) (roles_of r shaped).0 (rm_there at here r.shape p.place field fits there) in
    let rex = has_rex r p in
    let len = length (bytes_of r p) in
    one_picked is_rm lacks_displacement (field.kind ≡ kind.Address) r insn role
    (slot_open at here rex len r.immediate p p.place r.first insn.first field refl there means.first)
    (slot_open at here rex len r.immediate p p.place r.second insn.second field refl there means.second)
    (slot_open at here rex len r.immediate p p.place r.third insn.third field refl there means.third)

-- THE INSTRUCTION

held_is_none : (at : ℕ) (here : Position) (i : Immediate) (d : Option ℕ) (field : Field) → held_field at here i d ≡ Some field → (d ≡ None) × (field.kind ≡ kind_of i)
held_is_none at here i None field there = (refl, cc)
held_is_none at here i (Some v) field there = absurd cc

-- the order of the first two operands does not matter
turned_back : (a b c : Bool) → (b || (a || c)) ≡ true → (a || (b || c)) ≡ true
turned_back true b c is = refl
turned_back false true c is = refl
turned_back false false c is = is

in_either_order : (test : Seen → Bool) (exchanged : Bool) (insn : View) → any_operand test (turned_if exchanged insn) ≡ true → any_operand test insn ≡ true
in_either_order test true insn is = turned_back (test insn.first) (test insn.second) (test insn.third) is
in_either_order test false insn is = is

module _ (insn : View) (made : Coding) (exchanged : Bool) (noted : Noted (turned_if exchanged insn) made) (field : Field) where
  abbrev r : Row
  r = noted.r

  abbrev p : Fields
  p = noted.p

  displacement_open : made.displacement ≡ Some field → (field.kind ≡ kind.Address) ⊎ (any_operand lacks_displacement insn ≡ true)
  displacement_open is =
      elim (place_open _ noted.here r p (turned_if exchanged insn) field noted.means.means (shaped_at noted.row r noted.means.found)
      (fit_of r p noted.means.fit).place (sym noted.moved ∙ is)) [
        | inl address ↦ inl address
        | inr one ↦ inr (in_either_order lacks_displacement exchanged insn one)
      ]

  immediate_open : made.immediate ≡ Some field → (field.kind ≡ kind.Branch) ⊎ (any_operand lacks_number insn ≡ true)
  immediate_open is =
      let none = held_is_none (length made.bytes - immediate_length r.immediate) noted.there r.immediate p.held field (sym noted.held ∙ is) in
      elim (held_none r p (turned_if exchanged insn) noted.means.means (shaped_at noted.row r noted.means.found) (kinds_at noted.row r noted.means.found)
      (subst (λ d. immediate_fits r.immediate d ≡ true) none.0 (fit_of r p noted.means.fit).held) none.0) [
        | inl branch ↦ inl (none.1 ∙ branch)
        | inr one ↦ inr (in_either_order lacks_number exchanged insn one)
      ]

unknown_by : (insn : View) (answer : Result Coding EncodeFault) → Notes insn answer → Unknown insn answer
unknown_by insn (Ok made) noted = record {
  displacement = λ field is. displacement_open insn made noted.0 noted.2 field is;
  immediate = λ field is. immediate_open insn made noted.0 noted.2 field is;
}
unknown_by insn (Err cause) noted = tt

-- a field of an encoding stands for a value that is not known, unless it holds a distance
pub fields_unknown : (shape : Values → View) (values : Values) → Unknown (meant (shape values)) (encoding_of shape values)
fields_unknown shape values = unknown_by (meant (shape values)) (encoding_of shape values) (notes shape values)
