-- What an alignment puts.
use Rattle.std.proofs.Common.{◌≡◌, ℕ, ◌+◌, Bool, true, false, cond, List, Option, Some, None, Ok, Err, length, set, refl, sym, ap, subst, ◌∙◌, length-append}
use Rattle.std.specs.Prelude.{◌&&◌, not, slice_get}
use Rattle.asm_base.specs.Tokens.{SpelledToken}
use Rattle.asm_base.specs.declared.positions.Pos.{Pos}
use Rattle.asm_base.specs.declared.causes.FragCause.TheVariants as frag
use Rattle.asm_frags.specs.Sections.{with_section_or_fault, put_into_there}
use Rattle.asm_frags.specs.Writing.{LooseSection, ends_in_run, new_item, takes_zeros_alone, with_item, item_put}
use Rattle.item_contents.specs.declared.contents.Content.{Content}
use Rattle.item_contents.specs.declared.contents.Content.TheVariants.{Align, Run}
use Rattle.item_contents.specs.Contents.{is_known_zeros}
use Rattle.asm_operands.specs.LayerFaults.{of_sections}
use Rattle.asm_operands.specs.Operands.{operands_of}
use Rattle.asm_operands.specs.declared.up_to_three.UpToThree.{UpToThree}
use Rattle.asm_uses.specs.declared.tables.Naming.{Naming}
use Rattle.asm_relax.specs.Placing.{shift_of}
use Rattle.asm_operands.specs.Expressions.{up_to_three_listed, up_to_three_trees, up_to_three_forms, up_to_three_constants}
use Rattle.asm_values.specs.State.{Placed, with_table, with_names, known_here, push_item, push_into}
use Rattle.asm_values.specs.Data.{with_named}
use Rattle.asm_values.specs.KnownOperands.{KnownOperands, known_operands}
use Rattle.asm_words.specs.declared.directives.AlignedBy.{AlignedBy}
use Rattle.asm_words.specs.Paddings.{aligned_log, most_added, align_of, padding_of}
use Rattle.asm_items.specs.Alignments.{is_code, put_align, place_align}
use Rattle.asm_place.specs.JumpPlaces.{items_so_far}
use Rattle.place_laws.specs.Ends.{end_in, items_in, size_at}
use Rattle.place_laws.specs.Alignments.{IsItemPut, IsAlignPut, AlignmentsStand, RunsMoveNothing}
use Rattle.place_laws.proofs.Elements.{err-ok, same_Ok, both_ok}
use Rattle.place_laws.proofs.Moving.{run_moves, ends_move}
use Rattle.place_laws.proofs.Standing.{only, so_far_is}

-- how many items there are with a run last
run_items : (test : Bool) (pos : Pos) (section : LooseSection)
    → length (cond test section (with_item (new_item pos Run) section)).items ≡ cond test (length section.items) (length section.items + 1)
run_items true pos section = refl
run_items false pos section = length-append section.items _

module _ (pos : Pos) (content : Content) where
  item_test : (sections new : List LooseSection) (number : ℕ) (section : LooseSection) (test : Bool)
      → of_sections (with_section_or_fault sections number (cond test (Err frag.BadSection) (Ok (with_item (new_item pos content) section)))) ≡ Ok new
      → new ≡ set sections number (with_item (new_item pos content) section)
  item_test sections new number section true is = err-ok _ new is
  item_test sections new number section false is = sym (same_Ok _ new is)

  item_found : (before : Placed) (found : Option LooseSection) (after : Placed) → slice_get before.sections before.current ≡ found
      → of_sections (put_into_there (item_put (new_item pos content)) before.sections before.current found) ≡ Ok after.sections → IsItemPut pos content before after
  item_found before None after there is = err-ok _ after.sections is
  item_found before (Some section) after there is =
      record {
        section = section;
        there = there;
        put = item_test before.sections after.sections before.current section (takes_zeros_alone section && not (is_known_zeros content)) is;
      }

  item_last : (before after : Placed) → push_item pos content before ≡ Ok after → IsItemPut pos content before after
  unfolding push_into
  item_last before after is =
      both_ok _ _ after is (λ sections pushed made.
      let same : sections ≡ after.sections = ap (λ (p : Placed). p.sections) (same_Ok _ after made) in
      item_found before (slice_get before.sections before.current) after refl
      (subst (λ s. of_sections (put_into_there (item_put (new_item pos content)) before.sections before.current (slice_get before.sections before.current)) ≡ Ok s) same pushed))

  -- and its names are allowed
  named_put : (naming : Naming) (before after : Placed) → with_named pos naming content before ≡ Ok after → IsItemPut pos content before after
  named_put naming before after is =
      both_ok _ _ after is (λ pushed one rest. both_ok _ _ after rest (λ table two made.
      let same : pushed.sections ≡ after.sections = ap (λ (p : Placed). p.sections) (same_Ok (with_table pushed table) after made) in
      let put = item_last before pushed one in
      record { section = put.section; there = put.there; put = sym same ∙ put.put }))

-- the operands that are known change neither the sections nor which is the current one
pub record Keeps (before : Placed) (given : KnownOperands) : Type 0 where
  pub sections : given.placed.sections ≡ before.sections
  pub current : given.placed.current ≡ before.current

known_keeps : (pos : Pos) (before : Placed) (most : ℕ) (operands : List (List SpelledToken)) (given : KnownOperands) → known_operands pos before most operands ≡ Ok given → Keeps before given
unfolding known_operands
known_keeps pos before most operands given is =
    both_ok (up_to_three_trees most operands) _ given is (λ trees one rest.
    both_ok (up_to_three_forms (known_here (with_names pos (up_to_three_listed trees) before)) trees) _ given rest (λ forms two more.
    both_ok (up_to_three_constants forms) _ given more (λ values three made.
    let same = same_Ok _ given made in
    record { sections = ap (λ (g : KnownOperands). g.placed.sections) (sym same); current = ap (λ (g : KnownOperands). g.placed.current) (sym same) })))

-- the alignment of these values
align_put : (pos : Pos) (by : AlignedBy) (naming : Naming) (values : UpToThree ℕ) (before after : Placed) → put_align pos by naming values before ≡ Ok after → IsAlignPut pos before after
unfolding align_of
align_put pos by naming values before after is =
    both_ok _ _ after is (λ item made put.
    both_ok (aligned_log by values.first) _ item made (λ log one rest. both_ok (most_added log values.third) _ item rest (λ most two last.
    let same = same_Ok _ item last in
    record {
      held = record { log = log; most = most; padding = padding_of (is_code before.sections before.current) values.second };
      fill = values.second;
      padding = refl;
      put = subst (λ c. IsItemPut pos c before after) (sym same) (named_put pos item naming before after put);
    })))

same_item : (pos : Pos) (content : Content) (before moved after : Placed) → moved.sections ≡ before.sections → moved.current ≡ before.current
    → IsItemPut pos content moved after → IsItemPut pos content before after
same_item pos content before moved after sections current put = record {
  section = put.section;
  there = ap (λ (all : List LooseSection). slice_get all before.current) (sym sections) ∙ ap (λ n. slice_get moved.sections n) (sym current) ∙ put.there;
  put = put.put ∙ ap (λ (all : List LooseSection). set all moved.current (with_item (new_item pos content) put.section)) sections
      ∙ ap (λ n. set before.sections n (with_item (new_item pos content) put.section)) current;
}

align_is : (pos : Pos) (by : AlignedBy) (tokens : List SpelledToken) (before after : Placed) → place_align pos by tokens before ≡ Ok after → IsAlignPut pos before after
unfolding place_align
align_is pos by tokens before after is =
    both_ok _ _ after is (λ given known rest.
    let keeps = known_keeps pos before 3 (operands_of tokens) given known in
    let put = align_put pos by given.naming given.values given.placed after rest in
    record {
      held = put.held;
      fill = put.fill;
      padding = put.padding ∙ ap (λ (all : List LooseSection). padding_of (is_code all given.placed.current) put.fill) keeps.sections
          ∙ ap (λ n. padding_of (is_code before.sections n) put.fill) keeps.current;
      put = same_item pos (Align put.held) before given.placed after keeps.sections keeps.current put.put;
    })

pub alignments_stand : AlignmentsStand
alignments_stand laid pos by tokens before placed is =
    let align = align_is pos by tokens before placed is in
    let put = align.put in
    let items = items_in laid before.current in
    let item = new_item pos (Align align.held) in
    let new = with_item item put.section in
    record {
      put = align;
      moves = only laid before.sections placed.sections before.current put.section new put.there put.put (size_at items (items_so_far before))
          (ends_move.item item put.section items ∙ ap (λ n. end_in items put.section + size_at items n) (sym (so_far_is before put.section put.there)));
    }

pub runs_move_nothing : RunsMoveNothing
runs_move_nothing pos section items first =
    ap (λ n. shift_of n 0 items) (sym (run_items (ends_in_run section.items) pos section)) ∙ run_moves pos section items first.each
