-- The common entry of a form reads as it.
use Rattle.std.proofs.Common.{◌≡◌, ℕ, ◌+◌, ◌%◌, List, [], ◌∷◌, length, Option, None, Some, refl, ap, ◌∙◌, arith}
use Rattle.std.specs.Option.{option_and_then}
use Rattle.cfi_rows.specs.declared.commons.CommonForm.{CommonForm}
use Rattle.cfi_rows.specs.declared.pointers.PointerEncoding.{PointerEncoding}
use Rattle.cfi_rows.specs.declared.pointers.PointerEncoding.TheVariants.{Absolute8, Unsigned4, Signed4, Relative4, Indirect4, Relative8, Indirect8}
use Rattle.cfi_rows.specs.Instructions.{extended, nop_or_advance, state_or_cfa}
use Rattle.cfi_rows.specs.Rows.{blank, common_row}
use Rattle.cfi_entries.specs.Places.{row_in_force}
use Rattle.cfi_rows.specs.Pointers.{encoding_of, size_if}
use Rattle.cfi_rows.specs.Commons.{common_of, common_bytes, common_entry, common_length, common_padding, plain_form}
use Rattle.cfi_entries.specs.Entries.{initial_row}

-- the instructions of the common entry of a form
abbrev pub code_of : CommonForm → List ℕ
code_of form = 0x0c ∷ 0x07 ∷ 0x08 ∷ 0x90 ∷ 0x01 ∷ common_padding form

-- the entry reads
abbrev Reads : Option PointerEncoding → Option PointerEncoding → List ℕ → Type 0
Reads personality lsda pointer =
    let form : CommonForm = record { personality = personality; lsda = lsda } in common_of (common_entry form pointer) ≡ Some (form, code_of form)

-- a list of four
four : (P : List ℕ → Type 0) → ((a b c d : ℕ) → P (a ∷ b ∷ c ∷ d ∷ [])) → (pointer : List ℕ) → length pointer ≡ 4 → P pointer
four P all (a ∷ b ∷ c ∷ d ∷ []) is = all a b c d
four P all [] is = absurd (let none : ⊥ = omega (arith, is) in none)
four P all (a ∷ []) is = absurd (let none : ⊥ = omega (arith, is) in none)
four P all (a ∷ b ∷ []) is = absurd (let none : ⊥ = omega (arith, is) in none)
four P all (a ∷ b ∷ c ∷ []) is = absurd (let none : ⊥ = omega (arith, is) in none)
four P all (a ∷ b ∷ c ∷ d ∷ more ∷ rest) is = absurd (let none : ⊥ = omega (arith, is) in none)

-- a list of eight
eight : (P : List ℕ → Type 0) → ((a b c d e f g h : ℕ) → P (a ∷ b ∷ c ∷ d ∷ e ∷ f ∷ g ∷ h ∷ [])) → (pointer : List ℕ) → length pointer ≡ 8 → P pointer
eight P all (a ∷ b ∷ c ∷ d ∷ e ∷ f ∷ g ∷ h ∷ []) is = all a b c d e f g h
eight P all [] is = absurd (let none : ⊥ = omega (arith, is) in none)
eight P all (a ∷ []) is = absurd (let none : ⊥ = omega (arith, is) in none)
eight P all (a ∷ b ∷ []) is = absurd (let none : ⊥ = omega (arith, is) in none)
eight P all (a ∷ b ∷ c ∷ []) is = absurd (let none : ⊥ = omega (arith, is) in none)
eight P all (a ∷ b ∷ c ∷ d ∷ []) is = absurd (let none : ⊥ = omega (arith, is) in none)
eight P all (a ∷ b ∷ c ∷ d ∷ e ∷ []) is = absurd (let none : ⊥ = omega (arith, is) in none)
eight P all (a ∷ b ∷ c ∷ d ∷ e ∷ f ∷ []) is = absurd (let none : ⊥ = omega (arith, is) in none)
eight P all (a ∷ b ∷ c ∷ d ∷ e ∷ f ∷ g ∷ []) is = absurd (let none : ⊥ = omega (arith, is) in none)
eight P all (a ∷ b ∷ c ∷ d ∷ e ∷ f ∷ g ∷ h ∷ more ∷ rest) is = absurd (let none : ⊥ = omega (arith, is) in none)

-- an empty list
none : (P : List ℕ → Type 0) → P [] → (pointer : List ℕ) → length pointer ≡ 0 → P pointer
none P one [] is = one
none P one (more ∷ rest) is = absurd (let none : ⊥ = omega (arith, is) in none)

-- the entry reads whatever the encoding of pointers to LSDAs is
any_lsda : (personality : Option PointerEncoding) (pointer : List ℕ)
    → Reads personality None pointer → Reads personality (Some Absolute8) pointer → Reads personality (Some Unsigned4) pointer → Reads personality (Some Signed4) pointer
    → Reads personality (Some Relative4) pointer → Reads personality (Some Indirect4) pointer → Reads personality (Some Relative8) pointer
    → Reads personality (Some Indirect8) pointer → (lsda : Option PointerEncoding) → Reads personality lsda pointer
any_lsda personality pointer a b c d e f g h None = a
any_lsda personality pointer a b c d e f g h (Some Absolute8) = b
any_lsda personality pointer a b c d e f g h (Some Unsigned4) = c
any_lsda personality pointer a b c d e f g h (Some Signed4) = d
any_lsda personality pointer a b c d e f g h (Some Relative4) = e
any_lsda personality pointer a b c d e f g h (Some Indirect4) = f
any_lsda personality pointer a b c d e f g h (Some Relative8) = g
any_lsda personality pointer a b c d e f g h (Some Indirect8) = h

reads : (personality lsda : Option PointerEncoding) (pointer : List ℕ) → length pointer ≡ size_if personality → Reads personality lsda pointer
unfolding common_of encoding_of
reads None lsda = none (Reads None lsda) (any_lsda None [] refl refl refl refl refl refl refl refl lsda)
reads (Some Absolute8) lsda = eight (Reads (Some Absolute8) lsda) (λ a b c d e f g h. any_lsda (Some Absolute8) (a ∷ b ∷ c ∷ d ∷ e ∷ f ∷ g ∷ h ∷ []) refl refl refl refl refl refl refl refl lsda)
reads (Some Unsigned4) lsda = four (Reads (Some Unsigned4) lsda) (λ a b c d. any_lsda (Some Unsigned4) (a ∷ b ∷ c ∷ d ∷ []) refl refl refl refl refl refl refl refl lsda)
reads (Some Signed4) lsda = four (Reads (Some Signed4) lsda) (λ a b c d. any_lsda (Some Signed4) (a ∷ b ∷ c ∷ d ∷ []) refl refl refl refl refl refl refl refl lsda)
reads (Some Relative4) lsda = four (Reads (Some Relative4) lsda) (λ a b c d. any_lsda (Some Relative4) (a ∷ b ∷ c ∷ d ∷ []) refl refl refl refl refl refl refl refl lsda)
reads (Some Indirect4) lsda = four (Reads (Some Indirect4) lsda) (λ a b c d. any_lsda (Some Indirect4) (a ∷ b ∷ c ∷ d ∷ []) refl refl refl refl refl refl refl refl lsda)
reads (Some Relative8) lsda = eight (Reads (Some Relative8) lsda) (λ a b c d e f g h. any_lsda (Some Relative8) (a ∷ b ∷ c ∷ d ∷ e ∷ f ∷ g ∷ h ∷ []) refl refl refl refl refl refl refl refl lsda)
reads (Some Indirect8) lsda = eight (Reads (Some Indirect8) lsda) (λ a b c d e f g h. any_lsda (Some Indirect8) (a ∷ b ∷ c ∷ d ∷ e ∷ f ∷ g ∷ h ∷ []) refl refl refl refl refl refl refl refl lsda)

-- the entry of a form reads as it, whatever the pointer to the personality is
pub common_reads : (form : CommonForm) (pointer : List ℕ) → length pointer ≡ size_if form.personality
    → common_of (common_entry form pointer) ≡ Some (form, 0x0c ∷ 0x07 ∷ 0x08 ∷ 0x90 ∷ 0x01 ∷ common_padding form)
common_reads form pointer is = reads form.personality form.lsda pointer is

-- its instructions give the row where a procedure begins
pub code_row : (form : CommonForm) → row_in_force blank 0 (code_of form) ≡ Some common_row
unfolding row_in_force extended nop_or_advance state_or_cfa
code_row form = by form.personality form.lsda
  where
    by : (personality lsda : Option PointerEncoding) → row_in_force blank 0 (code_of (record { personality = personality; lsda = lsda })) ≡ Some common_row
    by None None = refl
    by None (Some lsda) = refl
    by (Some personality) None = refl
    by (Some personality) (Some lsda) = refl

pub common_rows : (form : CommonForm) (pointer : List ℕ) → length pointer ≡ size_if form.personality → initial_row (common_entry form pointer) ≡ Some common_row
common_rows form pointer is =
    ap (option_and_then (λ (common : CommonForm × List ℕ). row_in_force blank 0 common.1)) (common_reads form pointer is) ∙ code_row form

pub plain_bytes : common_entry plain_form [] ≡ common_bytes
plain_bytes = refl

-- its length counts what follows, and is a multiple of 4
abbrev IsWhole : Option PointerEncoding → Option PointerEncoding → List ℕ → Type 0
IsWhole personality lsda pointer =
    let form : CommonForm = record { personality = personality; lsda = lsda } in
    (length (common_entry form pointer) ≡ 4 + common_length form) × (common_length form % 4 ≡ 0)

is_whole : (personality lsda : Option PointerEncoding) (pointer : List ℕ) → length pointer ≡ size_if personality → IsWhole personality lsda pointer
is_whole None None = none (IsWhole None None) (refl, refl)
is_whole None (Some lsda) = none (IsWhole None (Some lsda)) (refl, refl)
is_whole (Some Absolute8) None = eight (IsWhole (Some Absolute8) None) (λ a b c d e f g h. (refl, refl))
is_whole (Some Absolute8) (Some lsda) = eight (IsWhole (Some Absolute8) (Some lsda)) (λ a b c d e f g h. (refl, refl))
is_whole (Some Unsigned4) None = four (IsWhole (Some Unsigned4) None) (λ a b c d. (refl, refl))
is_whole (Some Unsigned4) (Some lsda) = four (IsWhole (Some Unsigned4) (Some lsda)) (λ a b c d. (refl, refl))
is_whole (Some Signed4) None = four (IsWhole (Some Signed4) None) (λ a b c d. (refl, refl))
is_whole (Some Signed4) (Some lsda) = four (IsWhole (Some Signed4) (Some lsda)) (λ a b c d. (refl, refl))
is_whole (Some Relative4) None = four (IsWhole (Some Relative4) None) (λ a b c d. (refl, refl))
is_whole (Some Relative4) (Some lsda) = four (IsWhole (Some Relative4) (Some lsda)) (λ a b c d. (refl, refl))
is_whole (Some Indirect4) None = four (IsWhole (Some Indirect4) None) (λ a b c d. (refl, refl))
is_whole (Some Indirect4) (Some lsda) = four (IsWhole (Some Indirect4) (Some lsda)) (λ a b c d. (refl, refl))
is_whole (Some Relative8) None = eight (IsWhole (Some Relative8) None) (λ a b c d e f g h. (refl, refl))
is_whole (Some Relative8) (Some lsda) = eight (IsWhole (Some Relative8) (Some lsda)) (λ a b c d e f g h. (refl, refl))
is_whole (Some Indirect8) None = eight (IsWhole (Some Indirect8) None) (λ a b c d e f g h. (refl, refl))
is_whole (Some Indirect8) (Some lsda) = eight (IsWhole (Some Indirect8) (Some lsda)) (λ a b c d e f g h. (refl, refl))

pub whole : (form : CommonForm) (pointer : List ℕ) → length pointer ≡ size_if form.personality
    → (length (common_entry form pointer) ≡ 4 + common_length form) × (common_length form % 4 ≡ 0)
whole form pointer is = is_whole form.personality form.lsda pointer is
