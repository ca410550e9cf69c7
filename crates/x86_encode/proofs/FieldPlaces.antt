-- The fields of an encoding stand apart, within its bytes and behind the first one.
use Rattle.std.proofs.Common.{◌≡◌, ℕ, ◌+◌, ◌-◌, ◌≤◌, ◌&&◌, nat_lt, inl, inr, Bool, true, false, List, length, Option, None, Some, Result, Ok, Err, refl, sym, ap, ◌∙◌, arith}
use Rattle.std.proofs.lemmas.Bool.{and_parts}
use Rattle.std.proofs.lemmas.Option.{none-some, same_Some}
use Rattle.x86_insn.specs.declared.amounts.Values.{Values}
use Rattle.x86_insn.specs.declared.insns.Index.{Index}
use Rattle.x86_insn.specs.Views.{View}
use Rattle.x86_table.specs.declared.forms.Immediate.{Immediate}
use Rattle.x86_table.specs.declared.forms.Immediate.TheVariants as immediate
use Rattle.x86_table.specs.declared.forms.Shape.{Shape}
use Rattle.x86_table.specs.declared.forms.Shape.TheVariants as shape
use Rattle.x86_table.specs.declared.forms.Row.{Row}
use Rattle.x86_table.specs.declared.parts.Width.{Width}
use Rattle.x86_table.specs.declared.parts.Width.TheVariants as of_width
use Rattle.x86_table.specs.Fields.{Location, nowhere, direct, from_rip, bare, based, Fields}
use Rattle.x86_table.specs.Fits.{is_nowhere, index_fits, sib_fits, mode_fits, displacement_fits, some_place_fits, rm_fits, place_fits, immediate_fits}
use Rattle.x86_parts.specs.declared.encoded.EncodeFault.{EncodeFault}
use Rattle.x86_parts.specs.declared.encoded.Field.{Field}
use Rattle.x86_parts.specs.declared.encoded.Position.{Position}
use Rattle.x86_insn.specs.declared.amounts.FieldKind.{FieldKind}
use Rattle.x86_insn.specs.declared.amounts.FieldKind.TheVariants as kind
use Rattle.x86_encode.specs.Answers.{Notes}
use Rattle.x86_parts.specs.Codes.{meant}
use Rattle.x86_encode.specs.Encoding.{encoding_of}
use Rattle.x86_encode.specs.Exchanges.{turned_if}
use Rattle.x86_encode.specs.FieldPlaces.{IsWidth, IsLast, AreApart, Apart}
use Rattle.x86_parts.specs.Filling.{Coding, moved_field, kind_of, held_field, Noted}
use Rattle.x86_parts.specs.Keys.{place_length, modrm_length, immediate_length, length_by}
use Rattle.x86_encode.proofs.Encodings.{notes}
use Rattle.x86_encode.proofs.Fitted.{no_location, fit_of}
use Rattle.x86_encode.proofs.Length.{length_is}

-- a field of a displacement has 4 bytes, and ModRM, SIB and displacement have at least 5 then
record HasRoom (at room : ℕ) (field : Field) : Type 0 where
  at_is : field.at ≡ at
  size_is : field.size ≡ 4
  long : 5 ≤ room

module _ (at : ℕ) (here : Position) (field : Field) where
  moved_is : (kind : FieldKind) (room : ℕ) → 5 ≤ room → Some (record { at = at; size = 4; kind = kind; position = here }) ≡ Some field → HasRoom at room field
  moved_is kind room long is =
      let same = same_Some (record { at = at; size = 4; kind = kind; position = here }) field is in
      record { at_is = ap (λ (f : Field). f.at) (sym same); size_is = ap (λ (f : Field). f.size) (sym same); long = long }

  based_room : (b : ℕ) (i : Index) (s : Bool) (w : Width) (d : Option ℕ) → displacement_fits w d ≡ true → moved_field at here (based b i s w d) ≡ Some field
      → HasRoom at (place_length (based b i s w d)) field
  based_room b i s of_width.Absent None fits is = absurd cc
  based_room b i s of_width.Byte None fits is = absurd cc
  based_room b i true of_width.Long None fits is = moved_is kind.Signed 6 (omega arith) is
  based_room b i false of_width.Long None fits is = moved_is kind.Signed 5 (omega arith) is
  based_room b i s w (Some v) fits is = absurd (none-some field is)

  place_room : (p : Location) → some_place_fits p ≡ true → moved_field at here p ≡ Some field → HasRoom at (place_length p) field
  place_room nowhere fits is = absurd (none-some field is)
  place_room (direct n) fits is = absurd (none-some field is)
  place_room (from_rip None) fits is = moved_is kind.Address 5 (omega arith) is
  place_room (from_rip (Some v)) fits is = absurd (none-some field is)
  place_room (bare i None) fits is = moved_is kind.Signed 6 (omega arith) is
  place_room (bare i (Some v)) fits is = absurd (none-some field is)
  place_room (based b i s w d) fits is =
      let p = and_parts (nat_lt b 16) (index_fits i && (sib_fits s i b && (mode_fits w b && displacement_fits w d))) fits in
      let q = and_parts (index_fits i) (sib_fits s i b && (mode_fits w b && displacement_fits w d)) p.1 in
      let r = and_parts (sib_fits s i b) (mode_fits w b && displacement_fits w d) q.1 in
      let u = and_parts (mode_fits w b) (displacement_fits w d) r.1 in
      based_room b i s w d u.1 is

  no_room : {C : Type 0} (p : Location) → is_nowhere p ≡ true → moved_field at here p ≡ Some field → C
  no_room p fits is = absurd (none-some field (ap (moved_field at here) (sym (no_location p fits)) ∙ is))

  shape_room : (m : Shape) (p : Location) → place_fits m p ≡ true → moved_field at here p ≡ Some field → HasRoom at (modrm_length m p) field
  shape_room shape.Plain p fits is = no_room p fits is
  shape_room shape.Low p fits is = no_room p fits is
  shape_room shape.LowNotFirst p fits is = no_room p fits is
  shape_room (shape.Fixed b) p fits is = no_room p fits is
  shape_room (shape.Digit d m) p fits is = place_room p (and_parts (some_place_fits p) (rm_fits m p) fits).0 is
  shape_room (shape.Slash m) p fits is = place_room p (and_parts (some_place_fits p) (rm_fits m p) fits).0 is

-- an immediate whose value is not known has a width
has_width : (i : Immediate) → immediate_fits i None ≡ true → IsWidth (immediate_length i)
has_width immediate.Absent fits = absurd cc
has_width immediate.Byte fits = inl refl
has_width immediate.Count fits = inl refl
has_width immediate.Sext16 fits = inl refl
has_width immediate.Sext32 fits = inl refl
has_width immediate.Sext64 fits = inl refl
has_width immediate.Word fits = inr (inl refl)
has_width immediate.Long fits = inr (inr (inl refl))
has_width immediate.LongSext fits = inr (inr (inl refl))
has_width immediate.Quad fits = inr (inr (inr refl))
has_width immediate.Rel8 fits = inl refl
has_width immediate.Short fits = inl refl
has_width immediate.Rel32 fits = inr (inr (inl refl))

held_last : (end : ℕ) (here : Position) (field : Field) (i : Immediate) (d : Option ℕ) → immediate_length i ≤ end → immediate_fits i d ≡ true
    → held_field (end - immediate_length i) here i d ≡ Some field → IsLast end (immediate_length i) field
held_last end here field i (Some v) long fits is = absurd (none-some field is)
held_last end here field i None long fits is =
    let same = same_Some (record { at = end - immediate_length i; size = immediate_length i; kind = kind_of i; position = here }) field is in
    let at : field.at ≡ end - immediate_length i = ap (λ (f : Field). f.at) (sym same) in
    record { size = ap (λ (f : Field). f.size) (sym same); at = omega (arith, at, long); width = has_width i fits }

long_by : (r : Row) (p : Fields) → 1 + immediate_length r.immediate + modrm_length r.shape p.place ≤ length_by r p
unfolding length_by
long_by r p = omega arith

noted_apart : (insn : View) (made : Coding) → Noted insn made → AreApart made
noted_apart insn made noted =
    let r = noted.r in
    let p = noted.p in
    let n = length made.bytes in
    let k = immediate_length r.immediate in
    let fit = fit_of r p noted.means.fit in
    let long = long_by r p in
    let all : n ≡ length_by r p = ap (λ (xs : List ℕ). length xs) noted.means.bytes_are ∙ length_is r p in
    record {
      last = k;
      behind = omega (arith, long, all);
      displacement = λ field is.
          let room = shape_room (n - k - 4) noted.here field r.shape p.place fit.place (sym noted.moved ∙ is) in
          let at = room.at_is in
          let long_room = room.long in
          record { size = room.size_is; at = omega (arith, long, all, at, long_room); behind = omega (arith, long, all, at, long_room) };
      immediate = λ field is. held_last n noted.there field r.immediate p.held (omega (arith, long, all)) fit.held (sym noted.held ∙ is);
    }

apart_by : (insn : View) (answer : Result Coding EncodeFault) → Notes insn answer → Apart answer
apart_by insn (Ok made) noted = noted_apart (turned_if noted.0 insn) made noted.2
apart_by insn (Err cause) noted = tt

-- the fields of an encoding stand in order and apart, within its bytes and behind the first one
pub fields_apart : (shape : Values → View) (values : Values) → Apart (encoding_of shape values)
fields_apart shape values = apart_by (meant (shape values)) (encoding_of shape values) (notes shape values)
