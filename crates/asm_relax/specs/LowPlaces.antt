-- How far up the places of a section stand that is not too large.
use Rattle.std.specs.Prelude.{◌≡◌, ℕ, ◌+◌, ◌^◌, ◌<◌, ◌≤◌, All, length}
use Rattle.asm_expr.specs.Forms.{wrapped}
use Rattle.asm_frags.specs.declared.fields.Field.{Field}
use Rattle.asm_frags.specs.declared.fields.FieldSize.TheVariants.{Four}
use Rattle.asm_frags.specs.declared.items.Frag.{Frag}
use Rattle.asm_frags.specs.SectionOf.{SectionOf}
use Rattle.asm_relax.specs.Final.{shift_in}
use Rattle.asm_relax.specs.RangeChecks.{end_shift}

-- each item of the section stands behind fewer than 2^64 plain bytes
abbrev pub StandLow : {P : Type 0} → SectionOf (Frag P ℕ) → Type 0
StandLow section = All (λ item. item.offset < 2 ^ 64) section.items

-- the first items of the section, however many, move what stands behind them by no more than all move the end
abbrev pub MovesOn : {P : Type 0} → SectionOf (Frag P ℕ) → Type 0
MovesOn section = StandLow section → (before : ℕ) → shift_in section.items before ≤ end_shift section.items

-- no place of the section stands above 2^30
abbrev pub KeepsLow : {P : Type 0} → SectionOf (Frag P ℕ) → Type 0
KeepsLow section = StandLow section → (before : ℕ) → length section.bytes + shift_in section.items before ≤ 2 ^ 30

-- no more plain bytes than the section has stand before the one place and the other
pub record StandWithin {P : Type 0} (section : SectionOf (Frag P ℕ)) (first second : ℕ) : Type 0 where
  pub place : first ≤ length section.bytes
  pub other : second ≤ length section.bytes

-- the field has four bytes, the number of its form is from -2^29 to 2^29, and fewer than 2^8 bytes follow it in its instruction
pub record IsSmall (field : Field) : Type 0 where
  pub size : field.size ≡ Four
  pub constant : wrapped (field.form.constant + 2 ^ 29) ≤ 2 ^ 30
  pub behind : field.role.behind < 2 ^ 8
