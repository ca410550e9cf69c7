-- What is put into a section that takes more than zeros is put there, and the section goes on taking it.
use Rattle.std.proofs.Common.{◌≡◌, ℕ, ◌<◌, Bool, true, false, List, length, Option, None, Some, Result, Ok, if◌then◌else◌, refl, sym, ap, subst, ◌∙◌}
use Rattle.std.specs.Prelude.{IsSomeAnd, slice_set}
use Rattle.std.specs.List.{slice_get}
use Rattle.std.proofs.lemmas.List.{length-set, get_or-set_same}
use Rattle.std.proofs.lemmas.Option.{slice_get-get_or}
use Rattle.asm_base.specs.declared.positions.Pos.{Pos}
use Rattle.asm_base.specs.declared.refusals.Refusal.{Refusal}
use Rattle.asm_base.specs.declared.refusals.Refusal.TheVariants.{Fault, NoMemory}
use Rattle.asm_base.specs.Refusals.{FailsLast}
use Rattle.asm_expr.specs.Forms.{Form}
use Rattle.asm_base.specs.declared.causes.FragCause.{FragCause}
use Rattle.asm_frags.specs.declared.fields.FieldSize.{FieldSize}
use Rattle.asm_frags.specs.declared.roles.FieldRole.{FieldRole}
use Rattle.asm_frags.specs.Addresses.{changed_there, changed_at}
use Rattle.asm_frags.specs.Sections.{with_section_or_fault, put_into_there, put_into}
use Rattle.asm_frags.specs.Writing.{LooseItem, LooseSection, ends_in_run, new_item, with_item, with_bytes, with_field, with_growing, takes_zeros_alone, bytes_put, field_put, growing_put, item_put}
use Rattle.item_contents.specs.declared.contents.Content.TheVariants.{Run}
use Rattle.item_contents.specs.declared.kinds.Growth.{Growth}
use Rattle.table_pieces.specs.Pieces.{Takes}

-- what is put into each section that takes more than zeros, changed so
abbrev Puts : (LooseSection → Result LooseSection FragCause) → (LooseSection → LooseSection) → Type 0
Puts put change = (held : LooseSection) → takes_zeros_alone held ≡ false → put held ≡ Ok (change held)

-- the change keeps the type of the section
abbrev KeepsType : (LooseSection → LooseSection) → Type 0
KeepsType change = (held : LooseSection) → takes_zeros_alone held ≡ false → takes_zeros_alone (change held) ≡ false

module _ (section : ℕ) (sections : List LooseSection) (takes : Takes section sections) where
  put_so : (put : LooseSection → Result LooseSection FragCause) (change : LooseSection → LooseSection) → Puts put change
      → put_into put sections section ≡ Ok (changed_at change sections section)
  put_so put change puts = by (slice_get sections section) refl takes.filled
    where
      by : (found : Option LooseSection) → slice_get sections section ≡ found → IsSomeAnd found (λ held. takes_zeros_alone held ≡ false)
          → put_into put sections section ≡ Ok (changed_at change sections section)
      by None is filled = absurd filled
      by (Some held) is filled =
          ap (put_into_there put sections section) is ∙ ap (with_section_or_fault sections section) (puts held filled)
          ∙ sym (ap (λ found. Ok (changed_there change sections section found)) is)

  kept_so : (change : LooseSection → LooseSection) → KeepsType change → Takes section (changed_at change sections section)
  kept_so change keeps = by (slice_get sections section) refl takes.filled
    where
      by : (found : Option LooseSection) → slice_get sections section ≡ found → IsSomeAnd found (λ held. takes_zeros_alone held ≡ false)
          → Takes section (changed_at change sections section)
      by None is filled = absurd filled
      by (Some held) is filled = subst (λ (found : Option LooseSection). Takes section (changed_there change sections section found)) (sym is) (set_takes held filled)
        where
          set_takes : (held : LooseSection) → takes_zeros_alone held ≡ false → Takes section (slice_set sections section (change held))
          set_takes held filled =
              let long : section < length (slice_set sections section (change held)) = subst (λ (n : ℕ). section < n) (sym (length-set sections section (change held))) takes.within in
              let there : slice_get (slice_set sections section (change held)) section ≡ Some (change held) =
              slice_get-get_or (slice_set sections section (change held)) section held long ∙ ap Some (get_or-set_same sections section (change held) held takes.within) in
              record {
                within = long;
                filled = subst (λ (found : Option LooseSection). IsSomeAnd found (λ held. takes_zeros_alone held ≡ false)) (sym there) (keeps held filled);
              }

wanting : (made : List LooseSection) (due : Result (List LooseSection) FragCause) (refusal : Refusal FragCause) → due ≡ Ok made → FailsLast refusal due → refusal ≡ NoMemory
wanting made due (Fault fault) is fails = absurd (let none : ⊥ = cc in none)
wanting made due NoMemory is fails = refl

-- each piece is put where zeros are not all that is taken, and keeps the type of the section
module _ (pos : Pos) where
  bytes_go : (bytes : List ℕ) → Puts (bytes_put pos bytes) (with_bytes pos bytes)
  bytes_go bytes held filled = rw filled refl

  run_kept : (held : LooseSection) (in_run : Bool) → takes_zeros_alone (if in_run then held else with_item (new_item pos Run) held) ≡ takes_zeros_alone held
  run_kept held true = refl
  run_kept held false = refl

  bytes_keep : (bytes : List ℕ) → KeepsType (with_bytes pos bytes)
  bytes_keep bytes held filled = run_kept held (ends_in_run held.items) ∙ filled

  field_goes : (number : ℕ) (size : FieldSize) (role : FieldRole) (form : Form) → Puts (field_put pos number size role form) (with_field pos number size role form)
  field_goes number size role form held filled = rw filled refl

  field_keeps : (number : ℕ) (size : FieldSize) (role : FieldRole) (form : Form) → KeepsType (with_field pos number size role form)
  field_keeps number size role form held filled = run_kept held (ends_in_run held.items) ∙ filled

  growing_goes : (number : ℕ) (kind : Growth) (form : Form) → Puts (growing_put pos number kind None form) (with_growing pos number kind None form)
  growing_goes number kind form held filled = rw filled refl

  growing_keeps : (number : ℕ) (kind : Growth) (form : Form) → KeepsType (with_growing pos number kind None form)
  growing_keeps number kind form held filled = filled

item_goes : (item : LooseItem) → Puts (item_put item) (with_item item)
item_goes item held filled = rw filled refl

item_keeps : (item : LooseItem) → KeepsType (with_item item)
item_keeps item held filled = filled

module _ (section : ℕ) (old : List LooseSection) (put : LooseSection → Result LooseSection FragCause) (change : LooseSection → LooseSection) where
  -- what a call made
  made_so : (new : List LooseSection) → Takes section old → Puts put change → put_into put old section ≡ Ok new → new ≡ changed_at change old section
  made_so new takes puts is =
      let same : Ok new ≡ Ok (changed_at change old section) = sym is ∙ put_so section old takes put change puts in
      cc

  takes_so : (new : List LooseSection) → Takes section old → Puts put change → KeepsType change → put_into put old section ≡ Ok new → Takes section new
  takes_so new takes puts keeps is = subst (Takes section) (sym (made_so new takes puts is)) (kept_so section old takes change keeps)

  wants_so : (refusal : Refusal FragCause) → Takes section old → Puts put change → FailsLast refusal (put_into put old section) → refusal ≡ NoMemory
  wants_so refusal takes puts fails = wanting (changed_at change old section) (put_into put old section) refusal (put_so section old takes put change puts) fails

module _ (section : ℕ) (pos : Pos) (old : List LooseSection) where
  pub bytes_are_put : (bytes : List ℕ) (new : List LooseSection) → Takes section old → put_into (bytes_put pos bytes) old section ≡ Ok new
      → new ≡ changed_at (with_bytes pos bytes) old section
  bytes_are_put bytes new takes = made_so section old (bytes_put pos bytes) (with_bytes pos bytes) new takes (bytes_go pos bytes)

  pub bytes_are_taken : (bytes : List ℕ) (new : List LooseSection) → Takes section old → put_into (bytes_put pos bytes) old section ≡ Ok new → Takes section new
  bytes_are_taken bytes new takes = takes_so section old (bytes_put pos bytes) (with_bytes pos bytes) new takes (bytes_go pos bytes) (bytes_keep pos bytes)

  pub bytes_want : (bytes : List ℕ) (refusal : Refusal FragCause) → Takes section old → FailsLast refusal (put_into (bytes_put pos bytes) old section) → refusal ≡ NoMemory
  bytes_want bytes refusal takes = wants_so section old (bytes_put pos bytes) (with_bytes pos bytes) refusal takes (bytes_go pos bytes)

  pub field_is_put : (number : ℕ) (size : FieldSize) (role : FieldRole) (form : Form) (new : List LooseSection) → Takes section old
      → put_into (field_put pos number size role form) old section ≡ Ok new → new ≡ changed_at (with_field pos number size role form) old section
  field_is_put number size role form new takes =
      made_so section old (field_put pos number size role form) (with_field pos number size role form) new takes (field_goes pos number size role form)

  pub field_is_taken : (number : ℕ) (size : FieldSize) (role : FieldRole) (form : Form) (new : List LooseSection) → Takes section old
      → put_into (field_put pos number size role form) old section ≡ Ok new → Takes section new
  field_is_taken number size role form new takes =
      takes_so section old (field_put pos number size role form) (with_field pos number size role form) new takes (field_goes pos number size role form)
      (field_keeps pos number size role form)

  pub field_wants : (number : ℕ) (size : FieldSize) (role : FieldRole) (form : Form) (refusal : Refusal FragCause) → Takes section old
      → FailsLast refusal (put_into (field_put pos number size role form) old section) → refusal ≡ NoMemory
  field_wants number size role form refusal takes =
      wants_so section old (field_put pos number size role form) (with_field pos number size role form) refusal takes (field_goes pos number size role form)

  pub growing_is_put : (number : ℕ) (kind : Growth) (form : Form) (new : List LooseSection) → Takes section old
      → put_into (growing_put pos number kind None form) old section ≡ Ok new → new ≡ changed_at (with_growing pos number kind None form) old section
  growing_is_put number kind form new takes =
      made_so section old (growing_put pos number kind None form) (with_growing pos number kind None form) new takes (growing_goes pos number kind form)

  pub growing_is_taken : (number : ℕ) (kind : Growth) (form : Form) (new : List LooseSection) → Takes section old
      → put_into (growing_put pos number kind None form) old section ≡ Ok new → Takes section new
  growing_is_taken number kind form new takes =
      takes_so section old (growing_put pos number kind None form) (with_growing pos number kind None form) new takes (growing_goes pos number kind form)
      (growing_keeps pos number kind form)

  pub growing_wants : (number : ℕ) (kind : Growth) (form : Form) (refusal : Refusal FragCause) → Takes section old
      → FailsLast refusal (put_into (growing_put pos number kind None form) old section) → refusal ≡ NoMemory
  growing_wants number kind form refusal takes =
      wants_so section old (growing_put pos number kind None form) (with_growing pos number kind None form) refusal takes (growing_goes pos number kind form)

module _ (section : ℕ) (item : LooseItem) (old : List LooseSection) where
  pub item_is_put : (new : List LooseSection) → Takes section old → put_into (item_put item) old section ≡ Ok new → new ≡ changed_at (with_item item) old section
  item_is_put new takes = made_so section old (item_put item) (with_item item) new takes (item_goes item)

  pub item_is_taken : (new : List LooseSection) → Takes section old → put_into (item_put item) old section ≡ Ok new → Takes section new
  item_is_taken new takes = takes_so section old (item_put item) (with_item item) new takes (item_goes item) (item_keeps item)

  pub item_wants : (refusal : Refusal FragCause) → Takes section old → FailsLast refusal (put_into (item_put item) old section) → refusal ≡ NoMemory
  item_wants refusal takes = wants_so section old (item_put item) (with_item item) refusal takes (item_goes item)
