-- What is put into sections, and which are entered: sections are only added to.
use Rattle.std.proofs.Common.{◌≡◌, ◌≢◌, ℕ, Bool, List, [], ◌∷◌, ◌++◌, Option, None, Some, Result, Ok, Err, inl, inr, refl, sym, subst, All, slice_get}
use Rattle.std.specs.Prelude.{◌&&◌, not}
use Rattle.std.specs.List.{list_all}
use Rattle.asm_base.specs.declared.positions.Pos.{Pos}
use Rattle.asm_base.specs.Tokens.{SpelledToken}
use Rattle.asm_expr.specs.Forms.{Form}
use Rattle.item_contents.specs.declared.contents.Content.{Content}
use Rattle.asm_base.specs.declared.causes.FragCause.{FragCause}
use Rattle.asm_frags.specs.declared.fields.FieldSize.{FieldSize}
use Rattle.item_contents.specs.Zeros.{is_zero}
use Rattle.item_contents.specs.Contents.{is_known_zeros}
use Rattle.asm_frags.specs.declared.roles.FieldRole.{FieldRole}
use Rattle.x86_insn.specs.declared.amounts.Suffix.{Suffix}
use Rattle.item_contents.specs.declared.kinds.Growth.{Growth}
use Rattle.asm_frags.specs.Writing.{LooseSection, new_item, takes_zeros_alone, with_item, with_bytes, with_field, with_growing, bytes_put, field_put, item_put, growing_put}
use Rattle.asm_frags.specs.Sections.{with_section_or_fault, put_into_there}
use Rattle.asm_declarations.specs.declared.section_changes.Header.{Header}
use Rattle.asm_values.specs.declared.stacks.Entered.{Entered}
use Rattle.asm_operands.specs.LayerFaults.{of_sections}
use Rattle.asm_operands.specs.Operands.{operands_of}
use Rattle.asm_values.specs.State.{Placed, with_table, with_names, known_here, put_section, put_bytes_into, put_field_into, put_growing_into, push_into}
use Rattle.asm_words.specs.SectionWords.{SectionWords, section_words, said_group}
use Rattle.asm_declarations.specs.SectionChanges.{with_current, option_trees, with_signature, entered_as, entered_for, enter_words, place_section, entered_now, place_pushed, back_to, popped, entry_size_in}
use Rattle.asm_place.specs.SourceSizes.{IsNoGroup}
use Rattle.asm_place.proofs.EnteredSections.{IsEntered, as_entered, for_entered}
use Rattle.asm_place.proofs.SectionKinds.{headed}
use Rattle.asm_place.proofs.GrowthLemmas.{Adds, IsAdded, adds_nothing, adds_to, adds_section, item_added, bytes_added, field_added, growing_added}
use Rattle.asm_uses.specs.Tables.{naming_of, allowed}
use Rattle.asm_place.proofs.Walks.{Fine, made, refused, weaker, step, after, either}
use Rattle.asm_place.proofs.ProcedureSteps.{Steps, leads_by, still, grown}

-- something is put into a section
module _ (put : LooseSection → Result LooseSection FragCause) (puts : (section : LooseSection) → Fine (IsAdded section) (put section)) where
  -- one that is found
  put_adds : (sections : List LooseSection) (number : ℕ) (section : LooseSection) (new : Result LooseSection FragCause) → slice_get sections number ≡ Some section
      → Fine (IsAdded section) new → Fine (Adds sections) (of_sections (with_section_or_fault sections number new))
  put_adds sections number section (Ok new) there added = made _ (adds_to sections number section new there added.holds)
  put_adds sections number section (Err fault) there added = refused _

  -- the section of a number, if it is there
  pub there_adds : (sections : List LooseSection) (number : ℕ) (found : Option LooseSection) → slice_get sections number ≡ found
      → Fine (Adds sections) (of_sections (put_into_there put sections number found))
  there_adds sections number None there = refused _
  there_adds sections number (Some section) there = put_adds sections number section (put section) there (puts section)

  -- what was placed leads to what is put
  put_steps : (number : ℕ) (placed : Placed) → Steps placed (put_section put number placed)
  put_steps number placed =
      step (there_adds placed.sections number (slice_get placed.sections number) refl)
      (λ sections adds. made (record placed { sections = sections }) (leads_by placed.sections sections placed.procedures placed.lines adds))

-- bytes
pub bytes_steps : (pos : Pos) (number : ℕ) (bytes : List ℕ) (placed : Placed) → Steps placed (put_bytes_into pos number bytes placed)
unfolding put_bytes_into
bytes_steps pos number bytes placed =
    put_steps (bytes_put pos bytes)
    (λ section. either (takes_zeros_alone section && not (list_all is_zero bytes)) (refused _) (made (with_bytes pos bytes section) (bytes_added pos bytes section)))
    number placed

-- a field
pub field_steps : (pos : Pos) (number : ℕ) (size : FieldSize) (role : FieldRole) (form : Form) (placed : Placed) → Steps placed (put_field_into pos number size role form placed)
unfolding put_field_into
field_steps pos number size role form placed =
    put_steps (field_put pos number size role form)
    (λ section. either (takes_zeros_alone section) (refused _)
    (made (with_field pos number size role form section) (field_added pos number size role form section))) number placed

-- an item
pub push_steps : (pos : Pos) (number : ℕ) (item : Content) (placed : Placed) → Steps placed (push_into pos number item placed)
unfolding push_into
push_steps pos number item placed =
    put_steps (item_put (new_item pos item))
    (λ section. either (takes_zeros_alone section && not (is_known_zeros item)) (refused _)
    (made (with_item (new_item pos item) section) (item_added (new_item pos item) section))) number placed

-- an item that grows
pub growing_steps : (pos : Pos) (number : ℕ) (kind : Growth) (suffix : Option Suffix) (form : Form) (placed : Placed)
    → Steps placed (put_growing_into pos number kind suffix form placed)
unfolding put_growing_into
growing_steps pos number kind suffix form placed =
    put_steps (growing_put pos number kind suffix form)
    (λ section. either (takes_zeros_alone section) (refused _)
    (made (with_growing pos number kind suffix form section) (growing_added pos number kind suffix form section))) number placed

-- a section that is entered
pub is_added : (sections : List LooseSection) (pair : List LooseSection × ℕ) → IsEntered sections pair → Adds sections pair.0
is_added sections pair is = elim is [
  | inl old ↦ subst (Adds sections) (sym old.same) (adds_nothing sections)
  | inr new ↦ subst (Adds sections) (sym new.last) (adds_section sections new.section new.fields new.items new.few new.short new.signed new.other)
]

-- by its name
pub entered_adds : (sections : List LooseSection) (name : List ℕ) (header : Header) → header.kind ≢ 17 → Fine (λ pair. Adds sections pair.0) (entered_as sections name header)
entered_adds sections name header other = weaker (as_entered sections name header (λ all. other)) (λ pair is. is_added sections pair is)

-- in a group, if in one
pub grouped_adds : (sections : List LooseSection) (group : Option (List ℕ × Bool)) (name : List ℕ) (header : Header) → (All IsNoGroup sections → header.kind ≢ 17)
    → Fine (λ pair. Adds sections pair.0) (entered_for group sections name header)
grouped_adds sections group name header other = weaker (for_entered sections group name header other) (λ pair is. is_added sections pair is)

-- `.section` by its words
enter_steps : (pos : Pos) (words : SectionWords) (placed : Placed) → Steps placed (enter_words pos words placed)
unfolding enter_words
enter_steps pos words placed =
    let trees = option_trees words.entry_size in
    let named = with_signature pos words.signature (with_names pos trees placed) in
    after (entry_size_in (known_here named) words.entry_size)
    (λ size. step (headed placed.sections words size) (λ header other. after (said_group words) (λ group. step (grouped_adds placed.sections group words.name header other)
    (λ pair adds. after (allowed (naming_of trees placed.table) named.table)
    (λ table. made (with_table (with_current pair.1 (record named { sections = pair.0 })) table) (leads_by placed.sections pair.0 placed.procedures placed.lines adds))))))

-- and by its tokens
pub section_steps : (pos : Pos) (tokens : List SpelledToken) (placed : Placed) → Steps placed (place_section pos tokens placed)
unfolding place_section
section_steps pos tokens placed = after (section_words (operands_of tokens)) (λ words. enter_steps pos words placed)

-- `.pushsection`
pub pushed_steps : (pos : Pos) (tokens : List SpelledToken) (placed : Placed) → Steps placed (place_pushed pos tokens placed)
unfolding place_pushed
pushed_steps pos tokens placed =
    grown placed (section_steps pos tokens placed) (λ entered. made (record entered { stack = entered.stack ++ entered_now placed ∷ [] }) (still entered))

-- a section that is come back to
back_steps : (entered : Option Entered) (placed : Placed) → Steps placed (back_to entered placed)
back_steps None placed = refused _
back_steps (Some entered) placed = made _ (still placed)

-- `.popsection`
pub popped_steps : (placed : Placed) → Steps placed (popped placed)
unfolding popped
popped_steps placed = back_steps _ placed
