-- The values of fields, put in place one after the other.
use Rattle.std.proofs.Common.{◌≡◌, ℕ, ◌+◌, ◌-◌, ◌<◌, ◌≤◌, Bool, true, false, cond, List, [], ◌∷◌, ◌++◌, length, get_or, drop, take, replicate, take-append-drop, length-append, length-drop, refl, sym, ap, ◌∙◌, subst, arith, append_assoc, drop-drop, take-add}
use Rattle.std.specs.Prelude.{slice_range}
use Rattle.std.proofs.Math.Seq.{take-append_seam, drop-append_seam}
use Rattle.std.proofs.lemmas.List.{at_drop_more, at_drop_all, length-take-le}
use Rattle.std.proofs.lemmas.List.Folds.{drop_split}
use Rattle.asm_frags.specs.declared.fields.Field.{Field}
use Rattle.asm_frags.specs.declared.fields.FieldSize.{FieldSize}
use Rattle.asm_frags.specs.declared.fields.FieldSize.TheVariants.{One, Two, Four, Eight}
use Rattle.asm_frags.specs.Fields.{width, low_bytes}
use Rattle.asm_frags.specs.PlainBytes.{covered, field_end, FieldsStand}
use Rattle.asm_symbols.specs.SymbolMap.{SymbolMap}
use Rattle.asm_relax.specs.Settling.{LaidSections}
use Rattle.elf_object.specs.Contents.{held_bytes, field_bytes, filled}
use Rattle.elf_object.proofs.ItemBytes.{held_length}
use Rattle.elf_object.proofs.FieldLemmas.{fields_step}

-- so many of the fields are in place in these bytes, and from the end of the last one on nothing is changed
pub record IsPatched (map : SymbolMap) (sections : LaidSections) (bytes : List ℕ) (fields : List Field) (i : ℕ) (patched : List ℕ) : Type 0 where
  pub from : ℕ
  pub within : from ≤ length bytes
  pub long : length patched ≡ length bytes
  pub same : drop from patched ≡ drop from bytes
  pub stand : FieldsStand bytes from (drop i fields)
  pub left : take from patched ++ filled map sections bytes from (drop i fields) ≡ filled map sections bytes 0 fields

zeros_low : (size : FieldSize) → replicate (width size) 0 ≡ low_bytes size 0
unfolding low_bytes
zeros_low One = refl
zeros_low Two = refl
zeros_low Four = refl
zeros_low Eight = refl

zeros_held : (field : Field) → replicate (covered field) 0 ≡ held_bytes field 0
zeros_held field = by field.in_item
  where
    by : (b : Bool) → replicate (cond b 0 (width field.size)) 0 ≡ cond b [] (low_bytes field.size 0)
    by true = refl
    by false = zeros_low field.size

-- before the first field
pub none_patched : (map : SymbolMap) (sections : LaidSections) (bytes patched : List ℕ) (fields : List Field) → patched ≡ bytes → FieldsStand bytes 0 fields
    → IsPatched map sections bytes fields 0 patched
none_patched map sections bytes patched fields same stand = record {
  from = 0;
  within = omega arith;
  long = ap length same;
  same = same;
  stand = stand;
  left = refl;
}

head_stands : (map : SymbolMap) (sections : LaidSections) (bytes patched : List ℕ) (fields : List Field) (i : ℕ) (field : Field)
    → i < length fields → field ≡ get_or fields i field → (done : IsPatched map sections bytes fields i patched)
    → FieldsStand bytes done.from (field ∷ drop (i + 1) fields)
head_stands map sections bytes patched fields i field inside is done =
    let head : drop i fields ≡ field ∷ drop (i + 1) fields = at_drop_more (λ fs. fs) fields i field inside ∙ ap (λ f. f ∷ drop (i + 1) fields) (sym is) in
    subst (FieldsStand bytes done.from) head done.stand

-- behind an offset the same bytes stand
behind : (patched bytes : List ℕ) (from at : ℕ) → from ≤ at → drop from patched ≡ drop from bytes → drop at patched ≡ drop at bytes
behind patched bytes from at later same =
    let sum : from + (at - from) ≡ at = omega arith in
    ap (λ n. drop n patched) (sym sum) ∙ sym (drop-drop (at - from) from patched) ∙ ap (drop (at - from)) same ∙ drop-drop (at - from) from bytes ∙ ap (λ n. drop n bytes) sum

-- the next field stands within the bytes, over zeros
pub next_blank : (map : SymbolMap) (sections : LaidSections) (bytes patched : List ℕ) (fields : List Field) (i : ℕ) (field : Field)
    → i < length fields → field ≡ get_or fields i field → IsPatched map sections bytes fields i patched
    → (field_end field ≤ length patched) × (slice_range patched field.offset (field_end field) ≡ held_bytes field 0)
next_blank map sections bytes patched fields i field inside is done =
    let here = head_stands map sections bytes patched fields i field inside is done in
    let size = field_end field - field.offset in (
      subst (λ n. field_end field ≤ n) (sym done.long) here.1.within,
      ap (take size) (behind patched bytes done.from field.offset here.0 done.same) ∙ here.1.zeros ∙ zeros_held field,
    )

front_more : (patched bytes : List ℕ) (from at : ℕ) → from ≤ at → drop from patched ≡ drop from bytes → take at patched ≡ take from patched ++ slice_range bytes from at
front_more patched bytes from at later same =
    let sum : from + (at - from) ≡ at = omega arith in
    ap (λ n. take n patched) (sym sum) ∙ take-add from (at - from) patched ∙ ap (λ (xs : List ℕ). take from patched ++ take (at - from) xs) same

-- a field more is in place
pub one_patched : (map : SymbolMap) (sections : LaidSections) (bytes patched new : List ℕ) (fields : List Field) (i : ℕ) (field : Field)
    → i < length fields → field ≡ get_or fields i field → IsPatched map sections bytes fields i patched
    → new ≡ take field.offset patched ++ (field_bytes map sections field ++ drop (field_end field) patched) → IsPatched map sections bytes fields (i + 1) new
one_patched map sections bytes patched new fields i field inside is done put =
    let here = head_stands map sections bytes patched fields i field inside is done in
    let value = field_bytes map sections field in
    let end = field_end field in
    let front = take field.offset patched ++ value in
    let there : end ≤ length patched = subst (λ n. end ≤ n) (sym done.long) here.1.within in
    let first : length (take field.offset patched) ≡ field.offset = length-take-le field.offset patched (omega arith) in
    let wide : length value ≡ covered field = held_length field _ in
    let size : length front ≡ end = length-append (take field.offset patched) value ∙ rw (first, wide) refl in
    let text : new ≡ front ++ drop end patched = put ∙ sym (append_assoc (take field.offset patched) value (drop end patched)) in
    let before : take end new ≡ front = ap (λ n. take n new) (sym size) ∙ ap (take (length front)) text ∙ take-append_seam front (drop end patched) in
    let after : drop end new ≡ drop end patched = ap (λ n. drop n new) (sym size) ∙ ap (drop (length front)) text ∙ drop-append_seam front (drop end patched) in
    let later : done.from ≤ end = omega (arith, here.0) in
    let more : take field.offset patched ≡ take done.from patched ++ slice_range bytes done.from field.offset = front_more patched bytes done.from field.offset here.0 done.same in
    let step = fields_step map sections bytes fields i done.from (covered field) field (take done.from patched) (take field.offset patched) front _ inside is refl done.stand more refl done.left in
    record {
      from = end;
      within = here.1.within;
      long = ap length text ∙ length-append front (drop end patched) ∙ (let e : length front + length (drop end patched) ≡ length bytes = omega (arith, size, there, length-drop end patched, done.long) in e);
      same = after ∙ behind patched bytes done.from end later done.same;
      stand = step.1;
      left = ap (λ (xs : List ℕ). xs ++ filled map sections bytes end (drop (i + 1) fields)) before ∙ step.2;
    }

-- all fields are in place
pub all_patched : (map : SymbolMap) (sections : LaidSections) (bytes patched : List ℕ) (fields : List Field) (i : ℕ) → length fields ≤ i
    → IsPatched map sections bytes fields i patched → patched ≡ filled map sections bytes 0 fields
unfolding filled
all_patched map sections bytes patched fields i all done =
    sym (take-append-drop done.from patched) ∙ ap (λ (xs : List ℕ). take done.from patched ++ xs) (done.same ∙ sym (at_drop_all (filled map sections bytes done.from) fields i all)) ∙ done.left

-- where no value is put zeros stand
pub blank_stays : (bytes : List ℕ) (at end : ℕ) (zeros : List ℕ) → at ≤ end → slice_range bytes at end ≡ zeros → bytes ≡ take at bytes ++ (zeros ++ drop end bytes)
blank_stays bytes at end zeros later is =
    sym (take-append-drop at bytes) ∙ ap (λ (xs : List ℕ). take at bytes ++ xs) (drop_split bytes at end later ∙ ap (λ (xs : List ℕ). xs ++ drop end bytes) is)
