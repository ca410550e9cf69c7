-- The bytes and fields of an instruction, put one after the other, are put as a whole.
use Rattle.std.proofs.Common.{◌≡◌, ℕ, zero, suc, ◌+◌, ◌-◌, ◌≤◌, ◌<◌, Bool, true, false, cond, List, [], ◌∷◌, ◌++◌, map, length, drop, set, Option, None, Some, Result, Ok, Err, refl, sym, ap, ◌∙◌, subst, slice_get, arith, append-nil, append_assoc, length-append, length-drop}
use Rattle.std.specs.Prelude.{◌&&◌, not, slice_range}
use Rattle.std.specs.List.{list_all}
use Rattle.std.proofs.lemmas.List.{length-take}
use Rattle.std.proofs.lemmas.Option.{same_Some}
use Rattle.asm_base.specs.declared.positions.Pos.{Pos}
use Rattle.asm_base.specs.Refusals.{◌>>=◌}
use Rattle.asm_expr.specs.Forms.{Form}
use Rattle.item_contents.specs.declared.contents.Content.TheVariants.{Run}
use Rattle.asm_base.specs.declared.causes.FragCause.{FragCause}
use Rattle.asm_base.specs.declared.causes.FragCause.TheVariants as frag
use Rattle.asm_frags.specs.declared.fields.Field.{Field}
use Rattle.asm_frags.specs.declared.fields.FieldSize.{FieldSize}
use Rattle.asm_frags.specs.declared.roles.FieldRole.{FieldRole}
use Rattle.asm_frags.specs.Fields.{width}
use Rattle.item_contents.specs.Zeros.{is_zero}
use Rattle.asm_frags.specs.Writing.{LooseItem, LooseSection, ends_in_run, new_item, item_behind, with_item, with_run, with_bytes, with_field, takes_zeros_alone, bytes_put, field_put}
use Rattle.asm_frags.specs.Sections.{with_section_or_fault, put_into_there}
use Rattle.asm_operands.specs.LayerFaults.{of_sections}
use Rattle.asm_values.specs.State.{Placed, put_section, put_bytes_into, put_field_into, put_bytes, put_field}
use Rattle.asm_place.specs.declared.codes.CodeField.{CodeField}
use Rattle.asm_place.specs.Coding.{put_rest, put_code}
use Rattle.asm_place.specs.CodePlaces.{with_held, zeros_in, AreApart, field_in, with_code}
use Rattle.asm_place.proofs.GrowthLemmas.{get_set, set_twice, zeros_long, run_keeps}
use Rattle.asm_place.proofs.StatementSplits.{err-ok, same_Ok, both_ok}

-- a run that is put last is last
last_run : (items : List LooseItem) (item : LooseItem) → ends_in_run (items ++ item ∷ []) ≡ ends_in_run (item ∷ [])
last_run [] item = refl
last_run (one ∷ []) item = refl
last_run (one ∷ other ∷ items) item = last_run (other ∷ items) item

run_test : (test : Bool) (pos : Pos) (section : LooseSection) → ends_in_run section.items ≡ test
    → ends_in_run (cond test section (with_item (new_item pos Run) section)).items ≡ true
run_test true pos section is = is
run_test false pos section is = last_run section.items (item_behind (length section.bytes) (new_item pos Run))

-- a number of elements from a list that has as many
pub slice_long : (bytes : List ℕ) (from to : ℕ) → from ≤ to → to ≤ length bytes → length (slice_range bytes from to) ≡ to - from
slice_long bytes from to up within = length-take (to - from) (drop from bytes) ∙ (let long = length-drop from bytes in omega arith)

unless_test : {A E : Type 0} (test : Bool) (fault : E) (made answer : A) → cond test (Err fault) (Ok made) ≡ Ok answer → made ≡ answer
unless_test true fault made answer is = err-ok fault answer is
unless_test false fault made answer is = same_Ok made answer is

-- fields that are apart begin within the bytes
pub apart_inside : (from end : ℕ) (fields : List CodeField) → AreApart from end fields → from ≤ end
apart_inside from end [] apart = apart
apart_inside from end (field ∷ fields) apart = let later = apart_inside (field.at + width field.size) end fields apart.1 in omega (arith, later, apart.0)

-- nothing is put where no section is
section_none : {C : Type 0} (put : LooseSection → Result LooseSection FragCause) (number : ℕ) (placed next : Placed) → slice_get placed.sections number ≡ None
    → put_section put number placed ≡ Ok next → C
section_none put number placed next none is =
    err-ok _ next (sym (ap (λ found. of_sections (put_into_there put placed.sections number found) >>= λ sections. Ok
    (record placed { sections = sections })) none) ∙ is)

rest_none : {C : Type 0} (pos : Pos) (more : List ℕ) (placed next : Placed) → 0 < length more → slice_get placed.sections placed.current ≡ None
    → put_rest pos more placed ≡ Ok next → C
unfolding put_bytes_into
rest_none pos [] placed next some none is = absurd (omega (arith, some))
rest_none pos (byte ∷ more) placed next some none is = section_none (bytes_put pos (byte ∷ more)) placed.current placed next none is

pub code_none : {C : Type 0} (pos : Pos) (code : List ℕ) (fields : List CodeField) (placed next : Placed) → AreApart 1 (length code) fields
    → slice_get placed.sections placed.current ≡ None
    → put_code pos code 0 fields placed ≡ Ok next → C
unfolding put_code
code_none pos code [] placed next apart none is = rest_none pos code placed next (omega (arith, apart)) none is
code_none pos code (field ∷ fields) placed next apart none is =
    both_ok (put_rest pos (slice_range code 0 field.at) placed >>= put_field pos field.size field.role field.form)
    (put_code pos code (field.at + width field.size) fields) next is (λ held held_is next_is.
    both_ok (put_rest pos (slice_range code 0 field.at) placed) (put_field pos field.size field.role field.form) held held_is (λ put put_is field_is.
    let later = apart_inside (field.at + width field.size) (length code) fields apart.1 in
    let counted = slice_long code 0 field.at (omega arith) (omega (arith, later)) in
    let at : length (slice_range code 0 field.at) ≡ field.at = omega (arith, counted) in
    rest_none pos (slice_range code 0 field.at) placed put (omega (arith, at, apart.0)) none put_is))

-- a section that is set to itself
pub set_same : (sections : List LooseSection) (number : ℕ) (section : LooseSection) → slice_get sections number ≡ Some section
    → set sections number section ≡ sections
set_same [] number section there = refl
set_same (one ∷ sections) zero section there = ap (λ s. s ∷ sections) (sym (same_Some one section there))
set_same (one ∷ sections) (suc number) section there = ap (λ rest. one ∷ rest) (set_same sections number section there)

-- what is apart from a place on is so from one before it
pub apart_before : (from earlier end : ℕ) (fields : List CodeField) → earlier ≤ from → AreApart from end fields → AreApart earlier end fields
apart_before from earlier end [] less apart = omega (arith, less, apart)
apart_before from earlier end (field ∷ fields) less apart = (omega (arith, less, apart.0), apart.1)

module _ (before : List LooseSection) (number : ℕ) (section : LooseSection) (there : slice_get before number ≡ Some section) where
  -- the section of the number has become this one, and is the current one
  pub record Becomes (new : LooseSection) (placed : Placed) : Type 0 where
    pub sections : placed.sections ≡ set before number new
    pub current : placed.current ≡ number

  put_made : (put : LooseSection → Result LooseSection FragCause) (into : LooseSection) (answer : Result LooseSection FragCause)
      (sections new : List LooseSection) → put into ≡ answer
      → of_sections (with_section_or_fault sections number answer) ≡ Ok new → (made : LooseSection) × (put into ≡ Ok made) × (new ≡ set sections number made)
  put_made put into (Ok made) sections new gives is = (made, gives, sym (same_Ok _ new is))
  put_made put into (Err fault) sections new gives is = err-ok _ new is

  put_there : (put : LooseSection → Result LooseSection FragCause) (into : LooseSection) (sections : List LooseSection) (found : Option LooseSection)
      (new : List LooseSection) → found ≡ Some into
      → of_sections (put_into_there put sections number found) ≡ Ok new → (made : LooseSection) × (put into ≡ Ok made) × (new ≡ set sections number made)
  put_there put into sections None new at is = err-ok _ new is
  put_there put into sections (Some found) new at is =
      let same : found ≡ into = ap (λ (o : Option LooseSection). elim o [ Some s ↦ s | None ↦ found ]) at in
      subst (λ (s : LooseSection). (made : LooseSection) × (put s ≡ Ok made) × (new ≡ set sections number made)) same
      (put_made put found (put found) sections new refl is)

  -- something is put into the section
  put_becomes : (put : LooseSection → Result LooseSection FragCause) (old : LooseSection) (placed next : Placed) → Becomes old placed
      → put_section put number placed ≡ Ok next
      → (made : LooseSection) × (put old ≡ Ok made) × Becomes made next
  put_becomes put old placed next has is =
      let found : slice_get placed.sections number ≡ Some old = ap (λ (s : List LooseSection). slice_get s number) has.sections
      ∙ get_set before number section old there in
      both_ok _ _ next is (λ sections put_is next_is.
      let made = put_there put old placed.sections (slice_get placed.sections number) sections found put_is in
      let same = same_Ok _ next next_is in (
        made.0,
        made.1,
        record {
          sections = ap (λ (p : Placed). p.sections) (sym same) ∙ made.2 ∙ ap (λ (s : List LooseSection). set s number made.0) has.sections
              ∙ set_twice before number old made.0;
          current = ap (λ (p : Placed). p.current) (sym same) ∙ has.current;
        },
      ))

  bytes_becomes : (pos : Pos) (more : List ℕ) (old : LooseSection) (placed next : Placed) → Becomes old placed → put_bytes pos more placed ≡ Ok next
      → Becomes (with_bytes pos more old) next
  unfolding put_bytes_into
  bytes_becomes pos more old placed next has is =
      let made = put_becomes (bytes_put pos more) old placed next has (subst (λ n. put_section (bytes_put pos more) n placed ≡ Ok next) has.current is) in
      subst (λ new. Becomes new next) (sym (unless_test (takes_zeros_alone old && not (list_all is_zero more)) frag.BadSection
      (with_bytes pos more old) made.0 made.1)) made.2

  field_becomes : (pos : Pos) (size : FieldSize) (role : FieldRole) (form : Form) (old : LooseSection) (placed next : Placed) → Becomes old placed
      → put_field pos size role form placed ≡ Ok next
      → Becomes (with_field pos number size role form old) next
  unfolding put_field_into
  field_becomes pos size role form old placed next has is =
      let made = put_becomes (field_put pos number size role form) old placed next has
      (subst (λ n. put_section (field_put pos n size role form) n placed ≡ Ok next) has.current is) in
      subst (λ new. Becomes new next) (sym (unless_test (takes_zeros_alone old) frag.BadSection
      (with_field pos number size role form old) made.0 made.1)) made.2

  module _ (pos : Pos) where
    -- the section with a run last, and these bytes and fields more
    abbrev begun : List ℕ → List Field → LooseSection
    begun bytes fields = record (with_run pos section) { bytes = section.bytes ++ bytes; fields = section.fields ++ fields }

    same_begun : (b1 b2 : List ℕ) (f1 f2 : List Field) → section.bytes ++ b1 ≡ section.bytes ++ b2 → f1 ≡ f2 → begun b1 f1 ≡ begun b2 f2
    same_begun b1 b2 f1 f2 bytes fields =
        ap (λ b. record (with_run pos section) { bytes = b; fields = section.fields ++ f1 }) bytes ∙ ap (λ f. begun b2 f) fields

    run_again : (bytes : List ℕ) (fields : List Field) → with_run pos (begun bytes fields) ≡ begun bytes fields
    run_again bytes fields =
        ap (λ test. cond test (begun bytes fields) (with_item (new_item pos Run) (begun bytes fields))) (run_test (ends_in_run section.items) pos section refl)

    abbrev place : CodeField → Field
    place field = field_in pos number (length (with_run pos section).items) (length section.bytes) field

    first_bytes : (more : List ℕ) → with_bytes pos more section ≡ begun more []
    first_bytes more =
        ap (λ f. record (with_run pos section) { bytes = section.bytes ++ more; fields = f })
        (run_keeps (λ s. s.fields) pos section refl ∙ sym (append-nil section.fields))

    -- a section with the bytes that it has, and these, and with these fields
    abbrev ending : LooseSection → List ℕ → List Field → LooseSection
    ending run bytes fields = record run { bytes = bytes; fields = fields }

    more_bytes : (bytes more : List ℕ) (fields : List Field) → with_bytes pos more (begun bytes fields) ≡ begun (bytes ++ more) fields
    more_bytes bytes more fields =
        ap {A = LooseSection} (λ run. ending run ((section.bytes ++ bytes) ++ more) run.fields) (run_again bytes fields)
        ∙ ap (λ b. ending (with_run pos section) b (section.fields ++ fields)) (append_assoc section.bytes bytes more)

    -- a field at this offset, behind so many items
    abbrev field_behind : ℕ → ℕ → CodeField → Field
    field_behind items bytes field =
        record { pos = pos; item = items; offset = bytes; section = number; size = field.size; role = field.role; in_item = false; form = field.form }

    more_field : (bytes : List ℕ) (fields : List Field) (field : CodeField) → length bytes ≡ field.at
        → with_field pos number field.size field.role field.form (begun bytes fields) ≡ begun (bytes ++ zeros_in field) (fields ++ place field ∷ [])
    more_field bytes fields field at =
        let run = with_run pos section in
        let offset : length (section.bytes ++ bytes) ≡ length section.bytes + field.at = length-append section.bytes bytes ∙ ap
        (λ n. length section.bytes + n) at in
        ap {A = LooseSection} (λ last. ending last ((section.bytes ++ bytes) ++ zeros_in field)
        ((section.fields ++ fields) ++ field_behind (length last.items) (length (section.bytes ++ bytes)) field ∷ [])) (run_again bytes fields)
        ∙ (ap (λ n. ending run ((section.bytes ++ bytes) ++ zeros_in field) ((section.fields ++ fields) ++ field_behind (length run.items) n field ∷ [])) offset
        ∙ (ap (λ b. ending run b ((section.fields ++ fields) ++ place field ∷ [])) (append_assoc section.bytes bytes (zeros_in field))
        ∙ ap (λ f. ending run (section.bytes ++ (bytes ++ zeros_in field)) f) (append_assoc section.fields fields (place field ∷ []))))

    -- plain bytes: the first ones, which are there, and those behind others
    first_rest : (more : List ℕ) (placed next : Placed) → 0 < length more → Becomes section placed → put_rest pos more placed ≡ Ok next
        → Becomes (begun more []) next
    first_rest [] placed next some has is = absurd (omega (arith, some))
    first_rest (byte ∷ more) placed next some has is =
        subst (λ new. Becomes new next) (first_bytes (byte ∷ more)) (bytes_becomes pos (byte ∷ more) section placed next has is)

    next_rest : (bytes more : List ℕ) (fields : List Field) (placed next : Placed) → Becomes (begun bytes fields) placed → put_rest pos more placed ≡ Ok next
        → Becomes (begun (bytes ++ more) fields) next
    next_rest bytes [] fields placed next has is =
        subst (λ p. Becomes (begun (bytes ++ []) fields) p) (same_Ok placed next is) (subst (λ b. Becomes (begun b fields) placed) (sym (append-nil bytes)) has)
    next_rest bytes (byte ∷ more) fields placed next has is =
        subst (λ new. Becomes new next) (more_bytes bytes (byte ∷ more) fields) (bytes_becomes pos (byte ∷ more) (begun bytes fields) placed next has is)

    -- what is put from a place on
    abbrev Puts : List ℕ → ℕ → List CodeField → Type 0
    Puts code from fields =
        (bytes : List ℕ) (over : List Field) (placed next : Placed) → length bytes ≡ from → Becomes
        (begun bytes over) placed → put_code pos code from fields placed ≡ Ok next
        → Becomes (begun (bytes ++ with_held zeros_in code from fields) (over ++ map place fields)) next

    -- a field, and what is put behind it
    field_puts : (code : List ℕ) (field : CodeField) (fields : List CodeField) → Puts code (field.at + width field.size) fields
        → (bytes : List ℕ) (over : List Field) (placed next : Placed)
        → length bytes ≡ field.at → Becomes (begun bytes over) placed
        → (put_field pos field.size field.role field.form placed >>= put_code pos code (field.at + width field.size) fields) ≡ Ok next
        → Becomes (begun (bytes ++ (zeros_in field ++ with_held zeros_in code (field.at + width field.size) fields))
        (over ++ place field ∷ map place fields)) next
    field_puts code field fields later bytes over placed next at has is =
        both_ok _ _ next is (λ held held_is next_is.
        let long : length (bytes ++ zeros_in field) ≡ field.at + width field.size =
        length-append bytes (zeros_in field) ∙ (ap (λ n. n + length (zeros_in field)) at ∙ ap (λ n. field.at + n) (zeros_long field.size)) in
        let one : Becomes (begun (bytes ++ zeros_in field) (over ++ place field ∷ [])) held =
        subst (λ new. Becomes new held) (more_field bytes over field at)
        (field_becomes pos field.size field.role field.form (begun bytes over) placed held has held_is) in
        let rest = with_held zeros_in code (field.at + width field.size) fields in
        subst (λ new. Becomes new next) (same_begun _ _ _ _ (ap (λ b. section.bytes ++ b) (append_assoc bytes (zeros_in field) rest))
        (append_assoc over (place field ∷ []) (map place fields)))
        (later (bytes ++ zeros_in field) (over ++ place field ∷ []) held next long one next_is))

    code_puts : (code : List ℕ) (from : ℕ) (fields : List CodeField) → AreApart from (length code) fields → Puts code from fields
    unfolding put_code
    code_puts code from [] apart bytes over placed next long has is =
        subst (λ f. Becomes (begun (bytes ++ drop from code) f) next) (sym (append-nil over)) (next_rest bytes (drop from code) over placed next has is)
    code_puts code from (field ∷ fields) apart bytes over placed next long has is =
        both_ok _ _ next is (λ held held_is next_is.
        both_ok _ _ held held_is (λ put put_is field_is.
        let slice = slice_range code from field.at in
        let later = apart_inside (field.at + width field.size) (length code) fields apart.1 in
        let inside : field.at ≤ length code = omega (arith, later) in
        let at : length (bytes ++ slice) ≡ field.at = length-append bytes slice
        ∙ (let s = slice_long code from field.at apart.0 inside in omega (arith, s, long, apart.0)) in
        let rest = zeros_in field ++ with_held zeros_in code (field.at + width field.size) fields in
        subst (λ new. Becomes new next) (same_begun _ _ _ _ (ap (λ b. section.bytes ++ b) (append_assoc bytes slice rest)) refl)
        (field_puts code field fields (code_puts code (field.at + width field.size) fields apart.1) (bytes ++ slice) over put next at
        (next_rest bytes slice over placed put has put_is)
        (ap (λ r. r >>= put_code pos code (field.at + width field.size) fields) field_is ∙ next_is))))

    -- the bytes and the fields of an instruction, whose first byte stands in no field
    pub code_put : (code : List ℕ) (fields : List CodeField) → AreApart 1 (length code) fields → (placed next : Placed) → Becomes section placed
        → put_code pos code 0 fields placed ≡ Ok next
        → Becomes (with_code pos number code fields section) next
    unfolding put_code
    code_put code [] apart placed next has is = first_rest code placed next (omega (arith, apart)) has is
    code_put code (field ∷ fields) apart placed next has is =
        both_ok _ _ next is (λ held held_is next_is.
        both_ok _ _ held held_is (λ put put_is field_is.
        let slice = slice_range code 0 field.at in
        let later = apart_inside (field.at + width field.size) (length code) fields apart.1 in
        let inside : field.at ≤ length code = omega (arith, later) in
        let counted = slice_long code 0 field.at (omega arith) inside in
        let at : length slice ≡ field.at = omega (arith, counted) in
        field_puts code field fields (code_puts code (field.at + width field.size) fields apart.1) slice [] put next at
        (first_rest slice placed put (omega (arith, at, apart.0)) has put_is)
        (ap (λ r. r >>= put_code pos code (field.at + width field.size) fields) field_is ∙ next_is)))
