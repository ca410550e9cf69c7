-- Where an instruction with a target first has an encoding, it has no other operand, and the encoding one field, with the distance to the target: by the rows
-- of the table.
use Rattle.std.proofs.Common.{◌≡◌, ℕ, zero, suc, ◌-◌, ◌&&◌, ◌||◌, Bool, true, false, not, List, [], ◌∷◌, Option, None, Some, Ok, length, refl, sym, ap, ◌∙◌, subst}
use Rattle.std.specs.Prelude.{◌==◌, slice_get}
use Rattle.std.proofs.lemmas.Bool.{and_parts}
use Rattle.x86_insn.specs.declared.amounts.Values.{Values}
use Rattle.x86_insn.specs.Views.{Seen, absent, target, View}
use Rattle.x86_table.specs.declared.forms.Immediate.{Immediate}
use Rattle.x86_table.specs.declared.forms.Pattern.{Pattern}
use Rattle.x86_table.specs.declared.forms.Pattern.TheVariants as pattern
use Rattle.x86_table.specs.declared.forms.Row.{Row}
use Rattle.x86_table.specs.declared.mnemonics.integers.TheConstants.{XCHG}
use Rattle.x86_table.specs.Bytes.{has_rex, bytes_of}
use Rattle.x86_table.specs.Fields.{Location, nowhere, direct, from_rip, bare, based, Fields}
use Rattle.x86_table.specs.Reads.{from_start, shown, is_register, is_accumulator}
use Rattle.x86_table.specs.Rows.{the_rows}
use Rattle.x86_parts.specs.declared.encoded.Field.{Field as CodedField}
use Rattle.x86_encode.specs.Answers.{Notes}
use Rattle.x86_parts.specs.Codes.{normal, meant}
use Rattle.x86_encode.specs.Encoding.{encoding_of}
use Rattle.x86_encode.specs.EncodingLaws.{is_absent, EncodingsNote}
use Rattle.x86_encode.specs.Exchanges.{exchanges, turned}
use Rattle.x86_parts.specs.Filling.{Coding, kind_of, held_field, Noted}
use Rattle.x86_parts.specs.Keys.{immediate_length}

-- a branch target
abbrev is_target : Pattern → Bool
is_target pattern.Absent = false
is_target (pattern.RegMem c n) = false
is_target (pattern.Reg c) = false
is_target (pattern.Low c) = false
is_target (pattern.Accumulator c) = false
is_target pattern.Cl = false
is_target pattern.One = false
is_target pattern.Immediate = false
is_target pattern.Target = true

-- of a row with a target first it is the one operand
abbrev row_lone : Row → Bool
row_lone r = not (is_target r.first) || (is_absent r.second && is_absent r.third)

abbrev rows_lone : List Row → Bool
rows_lone [] = true
rows_lone (r ∷ rows) = row_lone r && rows_lone rows

all_lone : rows_lone the_rows ≡ true
unfolding the_rows
all_lone = refl

at_index : (rows : List Row) (i : ℕ) (r : Row) → rows_lone rows ≡ true → slice_get rows i ≡ Some r → row_lone r ≡ true
at_index [] i r all is = absurd cc
at_index (x ∷ rows) zero r all is =
    let same : x ≡ r = cc in
    subst (λ y. row_lone y ≡ true) same (and_parts (row_lone x) (rows_lone rows) all).0
at_index (x ∷ rows) (suc i) r all is = at_index rows i r (and_parts (row_lone x) (rows_lone rows) all).1 is

-- a number that is not known shows that none is held
none_held : (long : ℕ) (held : Option ℕ) → target None ≡ target (from_start long held) → held ≡ None
none_held long None is = refl
none_held long (Some v) is = absurd cc

-- the row of an operand that is a target shows a target, which is not held
target_shown : (rex : Bool) (long : ℕ) (p : Fields) (i : Immediate) (at : Pattern) → normal i at (target None) ≡ shown rex long p at → (is_target at ≡ true) × (p.held ≡ None)
target_shown rex long p i pattern.Absent is = absurd cc
target_shown rex long p i (pattern.RegMem c n) is = by p.place is
  where
    by : (place : Location) → target None ≡ shown rex long (record p { place = place }) (pattern.RegMem c n) → (false ≡ true) × (p.held ≡ None)
    by nowhere same = absurd cc
    by (direct number) same = absurd cc
    by (from_rip d) same = absurd cc
    by (bare index d) same = absurd cc
    by (based b index s w d) same = absurd cc
target_shown rex long p i (pattern.Reg c) is = absurd cc
target_shown rex long p i (pattern.Low c) is = absurd cc
target_shown rex long p i (pattern.Accumulator c) is = absurd cc
target_shown rex long p i pattern.Cl is = absurd cc
target_shown rex long p i pattern.One is = absurd cc
target_shown rex long p i pattern.Immediate is = absurd cc
target_shown rex long p i pattern.Target is = (refl, none_held long p.held is)

-- the row of no operand shows none
none_shown : (rex : Bool) (long : ℕ) (p : Fields) (i : Immediate) (at : Pattern) (o : Seen) → is_absent at ≡ true → normal i at o ≡ shown rex long p at → o ≡ absent
none_shown rex long p i pattern.Absent o none is = is
none_shown rex long p i (pattern.RegMem c n) o none is = absurd cc
none_shown rex long p i (pattern.Reg c) o none is = absurd cc
none_shown rex long p i (pattern.Low c) o none is = absurd cc
none_shown rex long p i (pattern.Accumulator c) o none is = absurd cc
none_shown rex long p i pattern.Cl o none is = absurd cc
none_shown rex long p i pattern.One o none is = absurd cc
none_shown rex long p i pattern.Immediate o none is = absurd cc
none_shown rex long p i pattern.Target o none is = absurd cc

parts_by : (b c d : Bool) → b ≡ true → (not b || (c && d)) ≡ true → (c ≡ true) × (d ≡ true)
parts_by true true true is all = (refl, refl)
parts_by true true false is all = absurd cc
parts_by true false d is all = absurd cc
parts_by false c d is all = absurd cc

-- the other operands are none, and the encoding has a field for what is not known
pub record IsAlone (insn : View) (made : Coding) : Type 0 where
  pub second : insn.second ≡ absent
  pub third : insn.third ≡ absent
  pub field : CodedField
  pub held : made.immediate ≡ Some field

-- by a row
noted_alone : (insn : View) (made : Coding) → Noted insn made → insn.first ≡ target None → IsAlone insn made
noted_alone insn made noted first =
    let r = noted.r in
    let p = noted.p in
    let means = noted.means.means in
    let rex = has_rex r p in
    let long = length (bytes_of r p) in
    let lone = at_index the_rows noted.row r all_lone noted.means.found in
    let shows = target_shown rex long p r.immediate r.first (ap (normal r.immediate r.first) (sym first) ∙ means.first) in
    let none = parts_by (is_target r.first) (is_absent r.second) (is_absent r.third) shows.0 lone in
    let at = length made.bytes - immediate_length r.immediate in
    record {
      second = none_shown rex long p r.immediate r.second insn.second none.0 means.second;
      third = none_shown rex long p r.immediate r.third insn.third none.1 means.third;
      field = record { at = at; size = immediate_length r.immediate; kind = kind_of r.immediate; position = noted.there };
      held = noted.held ∙ ap (held_field at noted.there r.immediate) shows.1;
    }

-- a target is no accumulator, so `xchg` exchanges nothing
not_turned : (test one : Bool) (o : Seen) → o ≡ target None → (test && (one && is_accumulator o)) ≡ false
not_turned true true o is = ap is_accumulator is
not_turned true false o is = refl
not_turned false one o is = refl

pub target_alone : EncodingsNote → (shape : Values → View) (values : Values) (made : Coding) → encoding_of shape values ≡ Ok made → (shape values).first ≡ target None
    → IsAlone (meant (shape values)) made
target_alone note shape values made is first = by (subst (Notes (meant (shape values))) is (note shape values))
  where
    by : Notes (meant (shape values)) (Ok made) → IsAlone (meant (shape values)) made
    by (false, test, noted) = noted_alone (meant (shape values)) made noted first
    by (true, test, noted) =
        let stays : exchanges (turned (meant (shape values))) ≡ false =
        not_turned ((meant (shape values)).name.0 == XCHG) (is_register (shape values).second) (shape values).first first in
        absurd cc
