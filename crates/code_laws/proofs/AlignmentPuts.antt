-- What an alignment puts, with the padding of the fill that is said.
use Rattle.std.proofs.Common.{◌≡◌, ℕ, Bool, true, false, cond, List, Option, Some, None, Result, Ok, Err, set, refl, sym, ap, subst, ◌∙◌}
use Rattle.std.specs.Prelude.{◌&&◌, not, slice_get}
use Rattle.asm_base.specs.Refusals.{◌>>=◌}
use Rattle.asm_base.specs.Tokens.{SpelledToken}
use Rattle.asm_base.specs.declared.positions.Pos.{Pos}
use Rattle.asm_base.specs.declared.causes.FragCause.TheVariants as frag
use Rattle.asm_frags.specs.Sections.{with_section_or_fault, put_into_there}
use Rattle.asm_frags.specs.Writing.{LooseSection, new_item, takes_zeros_alone, with_item, item_put}
use Rattle.item_contents.specs.declared.contents.Content.{Content}
use Rattle.item_contents.specs.declared.contents.Content.TheVariants.{Align}
use Rattle.item_contents.specs.Contents.{is_known_zeros}
use Rattle.item_contents.specs.ItemParts.{AlignOf}
use Rattle.asm_operands.specs.LayerFaults.{of_sections}
use Rattle.asm_operands.specs.Operands.{operands_of}
use Rattle.asm_operands.specs.declared.up_to_three.UpToThree.{UpToThree}
use Rattle.asm_uses.specs.declared.tables.Naming.{Naming}
use Rattle.asm_operands.specs.Expressions.{up_to_three_listed, up_to_three_trees, up_to_three_forms, up_to_three_constants}
use Rattle.asm_values.specs.State.{Placed, with_table, with_names, known_here, push_item, push_into}
use Rattle.asm_values.specs.Data.{with_named}
use Rattle.asm_values.specs.KnownOperands.{KnownOperands, known_operands}
use Rattle.asm_words.specs.declared.directives.AlignedBy.{AlignedBy}
use Rattle.asm_words.specs.Paddings.{aligned_log, most_added, align_of, padding_of}
use Rattle.asm_items.specs.Alignments.{is_code, put_align, place_align}
use Rattle.asm_place.specs.Effects.{fill_in, fill_said}
use Rattle.place_laws.specs.Alignments.{IsItemPut}

module _ {A E : Type 0} where
  err-ok : {C : Type 0} (fault : E) (x : A) → ◌≡◌ {A = Result A E} (Err fault) (Ok x) → C
  err-ok fault x is = absurd (cc)

  same_Ok : (x y : A) → ◌≡◌ {A = Result A E} (Ok x) (Ok y) → x ≡ y
  same_Ok x y is = ap (λ (r : Result A E). elim r [ Ok made ↦ made | Err fault ↦ x ]) is

module _ {A B E C : Type 0} where
  -- two steps that answer: the first does, and so does the second from there
  both_ok : (r : Result A E) (f : A → Result B E) (y : B) → (r >>= f) ≡ Ok y → ((x : A) → r ≡ Ok x → f x ≡ Ok y → C) → C
  both_ok (Ok x) f y is go = go x refl is
  both_ok (Err fault) f y is go = err-ok fault y is

module _ (pos : Pos) (content : Content) where
  item_test : (sections new : List LooseSection) (number : ℕ) (section : LooseSection) (test : Bool)
      → of_sections (with_section_or_fault sections number (cond test (Err frag.BadSection) (Ok (with_item (new_item pos content) section)))) ≡ Ok new
      → new ≡ set sections number (with_item (new_item pos content) section)
  item_test sections new number section true is = err-ok _ new is
  item_test sections new number section false is = sym (same_Ok _ new is)

  item_found : (before : Placed) (found : Option LooseSection) (after : Placed) → slice_get before.sections before.current ≡ found
      → of_sections (put_into_there (item_put (new_item pos content)) before.sections before.current found) ≡ Ok after.sections → IsItemPut pos content before after
  item_found before None after there is = err-ok _ after.sections is
  item_found before (Some section) after there is =
      record {
        section = section;
        there = there;
        put = item_test before.sections after.sections before.current section (takes_zeros_alone section && not (is_known_zeros content)) is;
      }

  item_last : (before after : Placed) → push_item pos content before ≡ Ok after → IsItemPut pos content before after
  unfolding push_into
  item_last before after is =
      both_ok _ _ after is (λ sections pushed made.
      let same : sections ≡ after.sections = ap (λ (p : Placed). p.sections) (same_Ok _ after made) in
      item_found before (slice_get before.sections before.current) after refl
      (subst (λ s. of_sections (put_into_there (item_put (new_item pos content)) before.sections before.current (slice_get before.sections before.current)) ≡ Ok s) same pushed))

  -- and its names are allowed
  named_put : (naming : Naming) (before after : Placed) → with_named pos naming content before ≡ Ok after → IsItemPut pos content before after
  named_put naming before after is =
      both_ok _ _ after is (λ pushed one rest. both_ok _ _ after rest (λ table two made.
      let same : pushed.sections ≡ after.sections = ap (λ (p : Placed). p.sections) (same_Ok (with_table pushed table) after made) in
      let put = item_last before pushed one in
      record { section = put.section; there = put.there; put = sym same ∙ put.put }))

-- the operands that are known change neither the sections nor which is the current one
record Keeps (before : Placed) (given : KnownOperands) : Type 0 where
  sections : given.placed.sections ≡ before.sections
  current : given.placed.current ≡ before.current

known_keeps : (pos : Pos) (before : Placed) (most : ℕ) (operands : List (List SpelledToken)) (given : KnownOperands) → known_operands pos before most operands ≡ Ok given → Keeps before given
unfolding known_operands
known_keeps pos before most operands given is =
    both_ok (up_to_three_trees most operands) _ given is (λ trees one rest.
    both_ok (up_to_three_forms (known_here (with_names pos (up_to_three_listed trees) before)) trees) _ given rest (λ forms two more.
    both_ok (up_to_three_constants forms) _ given more (λ values three made.
    let same = same_Ok _ given made in
    record { sections = ap (λ (g : KnownOperands). g.placed.sections) (sym same); current = ap (λ (g : KnownOperands). g.placed.current) (sym same) })))

-- the alignment that is put, with this padding
pub record IsAligned (pos : Pos) (fill : Option ℕ) (before after : Placed) : Type 0 where
  pub held : AlignOf
  pub padding : held.padding ≡ padding_of (is_code before.sections before.current) fill
  pub put : IsItemPut pos (Align held) before after

align_put : (pos : Pos) (by : AlignedBy) (naming : Naming) (values : UpToThree ℕ) (before after : Placed) → put_align pos by naming values before ≡ Ok after
    → IsAligned pos values.second before after
unfolding align_of
align_put pos by naming values before after is =
    both_ok _ _ after is (λ item made put.
    both_ok (aligned_log by values.first) _ item made (λ log one rest. both_ok (most_added log values.third) _ item rest (λ most two last.
    let same = same_Ok _ item last in
    record {
      held = record { log = log; most = most; padding = padding_of (is_code before.sections before.current) values.second };
      padding = refl;
      put = subst (λ c. IsItemPut pos c before after) (sym same) (named_put pos item naming before after put);
    })))

same_item : (pos : Pos) (content : Content) (before moved after : Placed) → moved.sections ≡ before.sections → moved.current ≡ before.current
    → IsItemPut pos content moved after → IsItemPut pos content before after
same_item pos content before moved after sections current put = record {
  section = put.section;
  there = ap (λ (all : List LooseSection). slice_get all before.current) (sym sections) ∙ ap (λ n. slice_get moved.sections n) (sym current) ∙ put.there;
  put = put.put ∙ ap (λ (all : List LooseSection). set all moved.current (with_item (new_item pos content) put.section)) sections
      ∙ ap (λ n. set before.sections n (with_item (new_item pos content) put.section)) current;
}

-- so with the fill that is said
pub align_is : (pos : Pos) (by : AlignedBy) (tokens : List SpelledToken) (before after : Placed) → place_align pos by tokens before ≡ Ok after
    → IsAligned pos (fill_said pos tokens before) before after
unfolding place_align
align_is pos by tokens before after is =
    both_ok _ _ after is (λ given known rest.
    let keeps = known_keeps pos before 3 (operands_of tokens) given known in
    let put = align_put pos by given.naming given.values given.placed after rest in
    record {
      held = put.held;
      padding = put.padding ∙ ap (λ (all : List LooseSection). padding_of (is_code all given.placed.current) given.values.second) keeps.sections
          ∙ ap (λ n. padding_of (is_code before.sections n) given.values.second) keeps.current
          ∙ ap (λ found. padding_of (is_code before.sections before.current) (fill_in found)) (sym known);
      put = same_item pos (Align put.held) before given.placed after keeps.sections keeps.current put.put;
    })
