-- A section that something is put into, among the others.
use Rattle.std.proofs.Common.{◌≡◌, ℕ, ◌&&◌, not, Bool, true, false, cond, List, Option, Some, Result, Ok, Err, refl, sym, ap, ◌∙◌, get_or, set, slice_get}
use Rattle.std.specs.List.{list_all}
use Rattle.std.proofs.lemmas.List.{set-get_or}
use Rattle.asm_base.specs.declared.positions.Pos.{Pos}
use Rattle.asm_expr.specs.Forms.{Form}
use Rattle.asm_base.specs.declared.refusals.Refusal.{Refusal}
use Rattle.asm_base.specs.declared.refusals.Refusal.TheVariants.{Fault, NoMemory}
use Rattle.asm_base.specs.Refusals.{FailsLast}
use Rattle.asm_base.specs.declared.causes.FragCause.{FragCause}
use Rattle.asm_base.specs.declared.causes.FragCause.TheVariants.{BadSection}
use Rattle.asm_frags.specs.declared.fields.FieldSize.{FieldSize}
use Rattle.asm_frags.specs.declared.roles.FieldRole.{FieldRole}
use Rattle.x86_insn.specs.declared.amounts.Suffix.{Suffix}
use Rattle.item_contents.specs.declared.kinds.Growth.{Growth}
use Rattle.item_contents.specs.declared.contents.Content.TheVariants.{Run}
use Rattle.item_contents.specs.Zeros.{is_zero}
use Rattle.item_contents.specs.Contents.{is_known_zeros}
use Rattle.asm_frags.specs.SectionOf.{SectionOf}
use Rattle.asm_frags.specs.Sound.{heading_of}
use Rattle.asm_frags.specs.Writing.{LooseItem, LooseSection, ends_in_run, new_item, with_item, with_run, with_bytes, with_field, with_growing, takes_zeros_alone, bytes_put, field_put, growing_put, item_put}
use Rattle.asm_frags.specs.Answers.{Changes}
use Rattle.asm_frags.specs.Sections.{with_section_or_fault, put_into}

module _ {Item : Type 0} where
  made_heading : (b : Bool) (old made new : SectionOf Item) → heading_of made ≡ heading_of old → cond b (Err BadSection) (Ok made) ≡ Ok new → heading_of new ≡ heading_of old
  made_heading true old made new same is = absurd cc
  made_heading false old made new same is = let alike : made ≡ new = cc in ap heading_of (sym alike) ∙ same

  -- a section keeps its heading where what is put into it, unless it is refused, keeps it
  pub heading_kept : (b : Bool) (old made new : SectionOf Item) (answer : Result (Unit {0}) (Refusal FragCause)) → heading_of made ≡ heading_of old
      → Changes old new answer (cond b (Err BadSection) (Ok made)) → heading_of new ≡ heading_of old
  heading_kept b old made new (Ok done) same changed = made_heading b old made new same changed
  heading_kept b old made new (Err refusal) same changed = ap heading_of changed.1

  refused_replaced : (sections : List (SectionOf Item)) (number : ℕ) (refusal : Refusal FragCause) (due : Result (SectionOf Item) FragCause)
      → FailsLast refusal due → FailsLast refusal (with_section_or_fault sections number due)
  refused_replaced sections number (Fault fault) due fails = ap (with_section_or_fault sections number) fails
  refused_replaced sections number NoMemory (Ok section) ok = ok
  refused_replaced sections number NoMemory (Err fault) ok = ok

  same_place : (sections : List (SectionOf Item)) (number : ℕ) (old new d : SectionOf Item) → old ≡ get_or sections number d → new ≡ old → set sections number new ≡ sections
  same_place sections number old new d there same = ap (set sections number) (same ∙ there) ∙ set-get_or sections number d

  -- what the section answers is what the sections answer
  pub put_changes : (put : SectionOf Item → Result (SectionOf Item) FragCause) (sections : List (SectionOf Item)) (number : ℕ) (old new d : SectionOf Item)
      (answer : Result (Unit {0}) (Refusal FragCause)) → slice_get sections number ≡ Some old → old ≡ get_or sections number d → Changes old new answer (put old)
      → Changes sections (set sections number new) answer (put_into put sections number)
  put_changes put sections number old new d answer found there changed = rw found (by_answer answer changed)
    where
      by_answer : (answer : Result (Unit {0}) (Refusal FragCause)) → Changes old new answer (put old) → Changes sections (set sections number new) answer (with_section_or_fault sections number (put old))
      by_answer (Ok done) changed = ap (with_section_or_fault sections number) changed
      by_answer (Err refusal) changed = (refused_replaced sections number refusal (put old) changed.0, same_place sections number old new d there changed.1)

either_heading : (b : Bool) (old made : LooseSection) → heading_of made ≡ heading_of old → heading_of (cond b old made) ≡ heading_of old
either_heading true old made same = refl
either_heading false old made same = same

pub run_heading : (pos : Pos) (section : LooseSection) → heading_of (with_run pos section) ≡ heading_of section
run_heading pos section = either_heading (ends_in_run section.items) section (with_item (new_item pos Run) section) refl

module _ (old new : LooseSection) (answer : Result (Unit {0}) (Refusal FragCause)) where
  -- a section that an item is put into keeps its heading
  pub item_heading : (item : LooseItem) → Changes old new answer (item_put item old) → heading_of new ≡ heading_of old
  item_heading item = heading_kept (takes_zeros_alone old && not (is_known_zeros item.content)) old (with_item item old) new answer refl

  -- a section that bytes are put into keeps its heading
  pub bytes_heading : (pos : Pos) (more : List ℕ) → Changes old new answer (bytes_put pos more old) → heading_of new ≡ heading_of old
  bytes_heading pos more = heading_kept (takes_zeros_alone old && not (list_all is_zero more)) old (with_bytes pos more old) new answer (run_heading pos old)

  -- a section that a field is put into keeps its heading
  pub field_heading : (pos : Pos) (number : ℕ) (size : FieldSize) (role : FieldRole) (form : Form) → Changes old new answer (field_put pos number size role form old) → heading_of new ≡ heading_of old
  field_heading pos number size role form = heading_kept (takes_zeros_alone old) old (with_field pos number size role form old) new answer (run_heading pos old)

  -- a section that an item is put into that grows keeps its heading
  pub growing_heading : (pos : Pos) (number : ℕ) (kind : Growth) (suffix : Option Suffix) (form : Form) → Changes old new answer (growing_put pos number kind suffix form old) → heading_of new ≡ heading_of old
  growing_heading pos number kind suffix form = heading_kept (takes_zeros_alone old) old (with_growing pos number kind suffix form old) new answer refl
