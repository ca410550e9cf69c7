-- Plain bytes that are put one after the other are put at once.
use Rattle.std.proofs.Common.{◌≡◌, ℕ, ◌≤◌, ◌&&◌, not, Bool, true, false, cond, List, [], ◌∷◌, ◌++◌, length, Option, None, Some, Result, Ok, Err, refl, sym, ap, ◌∙◌, slice_get, set, arith, append_assoc}
use Rattle.std.specs.List.{list_all}
use Rattle.std.proofs.lemmas.List.Folds.{list_all-append}
use Rattle.asm_base.specs.Refusals.{◌>>=◌}
use Rattle.asm_base.specs.declared.positions.Pos.{Pos}
use Rattle.item_contents.specs.declared.contents.Content.TheVariants.{Run}
use Rattle.asm_base.specs.declared.causes.FragCause.{FragCause}
use Rattle.asm_base.specs.declared.causes.FragCause.TheVariants.{BadSection}
use Rattle.item_contents.specs.Zeros.{is_zero}
use Rattle.asm_frags.specs.Sections.{with_section_or_fault, put_into_there, put_into}
use Rattle.item_contents.specs.Contents.{is_run}
use Rattle.asm_frags.specs.Writing.{LooseItem, LooseSection, ends_in_run, new_item, takes_zeros_alone, with_item, with_run, with_bytes, bytes_put}
use Rattle.asm_operands.specs.declared.place_faults.PlaceCause.{PlaceCause}
use Rattle.asm_values.specs.ConstantData.{put_any}
use Rattle.asm_operands.specs.LayerFaults.{of_sections}
use Rattle.asm_values.specs.State.{Placed, put_section, put_bytes_into, put_bytes}
use Rattle.asm_values.proofs.SetLemmas.{get_set, set_twice, run_keeps}

-- a run that is last is the last item
ends_in_last : (items : List LooseItem) (item : LooseItem) → is_run item.content ≡ true → ends_in_run (items ++ item ∷ []) ≡ true
ends_in_last [] item is = is
ends_in_last (first ∷ []) item is = is
ends_in_last (first ∷ second ∷ items) item is = ends_in_last (second ∷ items) item is

ends_by : (test : Bool) (pos : Pos) (section : LooseSection) → ends_in_run section.items ≡ test
    → ends_in_run (cond test section (with_item (new_item pos Run) section)).items ≡ true
ends_by true pos section is = is
ends_by false pos section is = ends_in_last section.items _ refl

run_ends : (pos : Pos) (section : LooseSection) → ends_in_run (with_run pos section).items ≡ true
run_ends pos section = ends_by (ends_in_run section.items) pos section refl

-- bytes behind bytes
bytes_behind : (pos : Pos) (one two : List ℕ) (section : LooseSection) → with_bytes pos two (with_bytes pos one section) ≡ with_bytes pos (one ++ two) section
bytes_behind pos one two section =
    let first = with_bytes pos one section in
    ap (λ test. record (cond test first (with_item (new_item pos Run) first)) { bytes = (section.bytes ++ one) ++ two }) (run_ends pos section)
    ∙ ap (λ bytes. record (with_run pos section) { bytes = bytes }) (append_assoc section.bytes one two)

module _ (pos : Pos) (one two : List ℕ) where
  -- the first may be refused, and then the second
  by_tests : (zeros first second : Bool) (between last : LooseSection) → bytes_put pos two between ≡ cond (zeros && not second) (Err BadSection) (Ok last)
      → (cond (zeros && not first) (Err BadSection) (Ok between) >>= bytes_put pos two) ≡ cond (zeros && not (first && second)) (Err BadSection) (Ok last)
  by_tests true true second between last is = is
  by_tests true false second between last is = refl
  by_tests false first second between last is = is

  section_twice : (section : LooseSection) → (bytes_put pos one section >>= bytes_put pos two) ≡ bytes_put pos (one ++ two) section
  section_twice section =
      let zeros = takes_zeros_alone section in
      let between = with_bytes pos one section in
      let last = with_bytes pos (one ++ two) section in
      by_tests zeros (list_all is_zero one) (list_all is_zero two) between last
      (ap (λ test. cond (test && not (list_all is_zero two)) (Err BadSection) (Ok (with_bytes pos two between))) (run_keeps takes_zeros_alone pos section refl)
      ∙ ap (λ new. cond (zeros && not (list_all is_zero two)) (Err BadSection) (Ok new)) (bytes_behind pos one two section))
      ∙ ap (λ test. cond (zeros && not test) (Err BadSection) (Ok last)) (sym (list_all-append is_zero one two))

-- two things that are put into one section
module _ (first second both : LooseSection → Result LooseSection FragCause) (same : (section : LooseSection) → (first section >>= second) ≡ both section) where
  last_put : (sections : List LooseSection) (number : ℕ) (between : LooseSection) (last : Result LooseSection FragCause)
      → with_section_or_fault (set sections number between) number last ≡ with_section_or_fault sections number last
  last_put sections number between (Ok new) = ap Ok (set_twice sections number between new)
  last_put sections number between (Err fault) = refl

  between_put : (sections : List LooseSection) (number : ℕ) (section : LooseSection) (between : Result LooseSection FragCause) → slice_get sections number ≡ Some section
      → (with_section_or_fault sections number between >>= λ made. put_into second made number) ≡ with_section_or_fault sections number (between >>= second)
  between_put sections number section (Ok new) there =
      ap (put_into_there second (set sections number new) number) (get_set sections number section new there) ∙ last_put sections number new (second new)
  between_put sections number section (Err fault) there = refl

  there_twice : (sections : List LooseSection) (number : ℕ) (found : Option LooseSection) → slice_get sections number ≡ found
      → (put_into_there first sections number found >>= λ made. put_into second made number) ≡ put_into_there both sections number found
  there_twice sections number None there = refl
  there_twice sections number (Some section) there =
      between_put sections number section (first section) there ∙ ap (with_section_or_fault sections number) (same section)

  placed_twice : (number : ℕ) (placed : Placed) (between : Result (List LooseSection) FragCause)
      → ((of_sections between >>= λ sections. Ok (record placed { sections = sections })) >>= λ made. put_section second number made)
      ≡ (of_sections (between >>= λ sections. put_into second sections number) >>= λ sections. Ok (record placed { sections = sections }))
  placed_twice number placed (Ok sections) = refl
  placed_twice number placed (Err fault) = refl

  put_twice : (number : ℕ) (placed : Placed) → (put_section first number placed >>= λ made. put_section second number made) ≡ put_section both number placed
  put_twice number placed =
      placed_twice number placed (put_into first placed.sections number)
      ∙ ap (λ answer. of_sections answer >>= λ sections. Ok (record placed { sections = sections }))
      (there_twice placed.sections number (slice_get placed.sections number) refl)

-- the current section stays the current one
same_current : (pos : Pos) (two : List ℕ) (placed : Placed) (answer : Result (List LooseSection) PlaceCause)
    → ((answer >>= λ sections. Ok (record placed { sections = sections })) >>= put_bytes pos two)
    ≡ ((answer >>= λ sections. Ok (record placed { sections = sections })) >>= λ made. put_bytes_into pos placed.current two made)
same_current pos two placed (Ok sections) = refl
same_current pos two placed (Err fault) = refl

bytes_twice : (pos : Pos) (one two : List ℕ) (placed : Placed) → (put_bytes pos one placed >>= put_bytes pos two) ≡ put_bytes pos (one ++ two) placed
unfolding put_bytes_into
bytes_twice pos one two placed =
    same_current pos two placed (of_sections (put_into (bytes_put pos one) placed.sections placed.current))
    ∙ put_twice (bytes_put pos one) (bytes_put pos two) (bytes_put pos (one ++ two)) (section_twice pos one two) placed.current placed

pub some_put : (pos : Pos) (bytes : List ℕ) (placed : Placed) → 1 ≤ length bytes → put_any pos bytes placed ≡ put_bytes pos bytes placed
some_put pos [] placed some = absurd (omega arith)
some_put pos (byte ∷ bytes) placed some = refl

-- the same where nothing may be put first
pub any_twice : (pos : Pos) (one two : List ℕ) (placed : Placed) → 1 ≤ length two → (put_any pos one placed >>= put_bytes pos two) ≡ put_any pos (one ++ two) placed
any_twice pos [] two placed some = sym (some_put pos two placed some)
any_twice pos (byte ∷ one) two placed some = bytes_twice pos (byte ∷ one) two placed
