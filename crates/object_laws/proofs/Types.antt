-- The types of the kinds of relocations, and what they are for each field.
use Rattle.std.proofs.Common.{◌≡◌, ℕ, ◌*◌, ◌^◌, ◌==◌, ◌<◌, ◌&&◌, not, Bool, true, false, Option, None, Some, refl, sym, ◌∙◌, subst, arith}
use Rattle.std.specs.Prelude.{◌≢◌}
use Rattle.std.proofs.lemmas.Bool.Decides.{nat_tests}
use Rattle.asm_frags.specs.declared.fields.FieldSize.{FieldSize}
use Rattle.asm_frags.specs.declared.fields.FieldSize.TheVariants.{One, Two, Four, Eight}
use Rattle.asm_frags.specs.Fields.{width, is_distance, holds, fits, fits_signed}
use Rattle.elf_object.specs.declared.relocations.RelocationKind.{RelocationKind}
use Rattle.elf_object.specs.declared.relocations.RelocationKind.TheVariants.{Direct64, Pc32, Plt32, GotPcRel, Direct32, Signed32, Direct16, Pc16, Direct8, Pc8, GotTpOff, TpOff32, Pc64}
use Rattle.elf_object.specs.Relocations.{kind_number, sized_kind, signed_kind, branch_kind, plain_kind, entry_kind, linkage_kind, offset_kind, kind_by}
use Rattle.x86_insn.specs.declared.amounts.FieldKind.{FieldKind}
use Rattle.x86_insn.specs.declared.amounts.FieldKind.TheVariants as field
use Rattle.x86_insn.specs.declared.amounts.Suffix.{Suffix}
use Rattle.x86_insn.specs.declared.amounts.Suffix.TheVariants as suffix
use Rattle.object_laws.specs.RelocationTypes.{symbol_address, linkage_entry, table_entry, thread_entry, thread_offset, Check, unsaid, zero_extended, sign_extended, RelocationType, absolute, relative, relocation_types, relocation_type}
use Rattle.object_laws.specs.FieldTypes.{is_sign_extended, IsVerified}
use Rattle.object_laws.specs.Suffixes.{is_branch, operand_by}

-- the row of each kind
abbrev pub row_of : RelocationKind → RelocationType
row_of Direct64 = absolute 8 symbol_address unsaid
row_of Pc32 = relative 4 symbol_address
row_of Plt32 = relative 4 linkage_entry
row_of GotPcRel = relative 4 table_entry
row_of Direct32 = absolute 4 symbol_address zero_extended
row_of Signed32 = absolute 4 symbol_address sign_extended
row_of Direct16 = absolute 2 symbol_address unsaid
row_of Pc16 = relative 2 symbol_address
row_of Direct8 = absolute 1 symbol_address unsaid
row_of Pc8 = relative 1 symbol_address
row_of GotTpOff = relative 4 thread_entry
row_of TpOff32 = absolute 4 thread_offset unsaid
row_of Pc64 = relative 8 symbol_address

pub numbered : (kind : RelocationKind) → relocation_type (kind_number kind) ≡ Some (row_of kind)
unfolding relocation_types
numbered Direct64 = refl
numbered Pc32 = refl
numbered Plt32 = refl
numbered GotPcRel = refl
numbered Direct32 = refl
numbered Signed32 = refl
numbered Direct16 = refl
numbered Pc16 = refl
numbered Direct8 = refl
numbered Pc8 = refl
numbered GotTpOff = refl
numbered TpOff32 = refl
numbered Pc64 = refl

-- the field extends what is verified as the linker does
abbrev pub is_alike : Check → FieldKind → Bool
is_alike unsaid kind = true
is_alike zero_extended kind = not (is_sign_extended kind)
is_alike sign_extended kind = is_sign_extended kind

-- a branch of four bytes to a symbol that is not local
abbrev pub is_led_by : FieldKind → FieldSize → Bool → Bool
is_led_by kind size local = is_branch kind && (width size == 4) && not local

-- the kind has the bytes of the field and a check like it, takes P where that is taken, and for the symbol what the field
-- asks for
abbrev pub IsRight : Option Suffix → Bool → Bool → FieldKind → FieldSize → RelocationKind → Type 0
IsRight behind led taken kind size found =
    ((row_of found).bytes ≡ width size) × (is_alike (row_of found).check kind ≡ true) × ((row_of found).relative ≡ taken) × ((row_of found).operand ≡ operand_by behind led)

relative_right : (kind : FieldKind) (size : FieldSize) → IsRight None false true kind size (sized_kind true size)
relative_right kind One = (refl, refl, refl, refl)
relative_right kind Two = (refl, refl, refl, refl)
relative_right kind Four = (refl, refl, refl, refl)
relative_right kind Eight = (refl, refl, refl, refl)

absolute_right : (size : FieldSize) → IsRight None false false field.Plain size (sized_kind false size)
absolute_right One = (refl, refl, refl, refl)
absolute_right Two = (refl, refl, refl, refl)
absolute_right Four = (refl, refl, refl, refl)
absolute_right Eight = (refl, refl, refl, refl)

signed_right : (size : FieldSize) → IsRight None false false field.Signed size (signed_kind false size)
signed_right One = (refl, refl, refl, refl)
signed_right Two = (refl, refl, refl, refl)
signed_right Four = (refl, refl, refl, refl)
signed_right Eight = (refl, refl, refl, refl)

branch_right : (local : Bool) (size : FieldSize) → IsRight None (is_led_by field.Branch size local) true field.Branch size (branch_kind local size)
branch_right true One = (refl, refl, refl, refl)
branch_right true Two = (refl, refl, refl, refl)
branch_right true Four = (refl, refl, refl, refl)
branch_right true Eight = (refl, refl, refl, refl)
branch_right false One = (refl, refl, refl, refl)
branch_right false Two = (refl, refl, refl, refl)
branch_right false Four = (refl, refl, refl, refl)
branch_right false Eight = (refl, refl, refl, refl)

-- what is found is what was chosen
chosen_right : (P : RelocationKind → Type 0) (chosen found : RelocationKind) → Some chosen ≡ Some found → P chosen → P found
chosen_right P chosen found e is = let same : chosen ≡ found = cc in subst P same is

plain_right : (taken : Bool) (kind : FieldKind) (local : Bool) (size : FieldSize) (found : RelocationKind) → plain_kind taken kind local size ≡ Some found
    → IsRight None (is_led_by kind size local) taken kind size found
plain_right true field.Plain local size found e = chosen_right (IsRight None false true field.Plain size) (sized_kind true size) found e (relative_right field.Plain size)
plain_right false field.Plain local size found e = chosen_right (IsRight None false false field.Plain size) (sized_kind false size) found e (absolute_right size)
plain_right true field.Signed local size found e = chosen_right (IsRight None false true field.Signed size) (sized_kind true size) found e (relative_right field.Signed size)
plain_right false field.Signed local size found e = chosen_right (IsRight None false false field.Signed size) (signed_kind false size) found e (signed_right size)
plain_right true field.Address local size found e = chosen_right (IsRight None false true field.Address size) (sized_kind true size) found e (relative_right field.Address size)
plain_right false field.Address local size found e = absurd cc
plain_right true field.Branch local size found e =
    chosen_right (IsRight None (is_led_by field.Branch size local) true field.Branch size) (branch_kind local size) found e (branch_right local size)
plain_right false field.Branch local size found e = absurd cc
plain_right taken field.Number local size found e = absurd cc

linkage_right : (led taken : Bool) (kind : FieldKind) (size : FieldSize) (found : RelocationKind) → linkage_kind taken kind size ≡ Some found → IsRight (Some suffix.Plt) led taken kind size found
linkage_right led true field.Branch Four found e = chosen_right (IsRight (Some suffix.Plt) led true field.Branch Four) Plt32 found e (refl, refl, refl, refl)
linkage_right led true field.Branch One found e = absurd cc
linkage_right led true field.Branch Two found e = absurd cc
linkage_right led true field.Branch Eight found e = absurd cc
linkage_right led false field.Branch size found e = absurd cc
linkage_right led taken field.Plain size found e = absurd cc
linkage_right led taken field.Signed size found e = absurd cc
linkage_right led taken field.Address size found e = absurd cc
linkage_right led taken field.Number size found e = absurd cc

-- an entry of the global offset table stands at a distance from rip
entry_right : (behind : Option Suffix) (led taken : Bool) (kind : FieldKind) (size : FieldSize) (entry found : RelocationKind) → IsRight behind led true field.Address Four entry
    → entry_kind taken kind size entry ≡ Some found → IsRight behind led taken kind size found
entry_right behind led true field.Address Four entry found is e = chosen_right (IsRight behind led true field.Address Four) entry found e is
entry_right behind led true field.Address One entry found is e = absurd cc
entry_right behind led true field.Address Two entry found is e = absurd cc
entry_right behind led true field.Address Eight entry found is e = absurd cc
entry_right behind led false field.Address size entry found is e = absurd cc
entry_right behind led taken field.Plain size entry found is e = absurd cc
entry_right behind led taken field.Signed size entry found is e = absurd cc
entry_right behind led taken field.Branch size entry found is e = absurd cc
entry_right behind led taken field.Number size entry found is e = absurd cc

offset_right : (led taken : Bool) (kind : FieldKind) (size : FieldSize) (found : RelocationKind) → offset_kind taken kind size ≡ Some found → IsRight (Some suffix.TpOff) led taken kind size found
offset_right led false field.Plain Four found e = chosen_right (IsRight (Some suffix.TpOff) led false field.Plain Four) TpOff32 found e (refl, refl, refl, refl)
offset_right led false field.Plain One found e = absurd cc
offset_right led false field.Plain Two found e = absurd cc
offset_right led false field.Plain Eight found e = absurd cc
offset_right led true field.Plain size found e = absurd cc
offset_right led false field.Signed Four found e = chosen_right (IsRight (Some suffix.TpOff) led false field.Signed Four) TpOff32 found e (refl, refl, refl, refl)
offset_right led false field.Signed One found e = absurd cc
offset_right led false field.Signed Two found e = absurd cc
offset_right led false field.Signed Eight found e = absurd cc
offset_right led true field.Signed size found e = absurd cc
offset_right led taken field.Address size found e = absurd cc
offset_right led taken field.Branch size found e = absurd cc
offset_right led taken field.Number size found e = absurd cc

-- each kind that a field can have is right for it
pub kind_right : (behind : Option Suffix) (taken : Bool) (kind : FieldKind) (local : Bool) (size : FieldSize) (found : RelocationKind) → kind_by behind taken kind local size ≡ Some found
    → IsRight behind (is_led_by kind size local) taken kind size found
kind_right None taken kind local size found e = plain_right taken kind local size found e
kind_right (Some suffix.Plt) taken kind local size found e = linkage_right (is_led_by kind size local) taken kind size found e
kind_right (Some suffix.GotPcRel) taken kind local size found e = entry_right (Some suffix.GotPcRel) (is_led_by kind size local) taken kind size GotPcRel found (refl, refl, refl, refl) e
kind_right (Some suffix.GotTpOff) taken kind local size found e = entry_right (Some suffix.GotTpOff) (is_led_by kind size local) taken kind size GotTpOff found (refl, refl, refl, refl) e
kind_right (Some suffix.TpOff) taken kind local size found e = offset_right (is_led_by kind size local) taken kind size found e

-- a distance always has its place taken from the sum
pub no_distance : (behind : Option Suffix) (kind : FieldKind) (local : Bool) (size : FieldSize) (found : RelocationKind) → kind_by behind false kind local size ≡ Some found
    → is_distance kind ≡ false
no_distance behind field.Plain local size found e = refl
no_distance behind field.Signed local size found e = refl
no_distance behind field.Number local size found e = refl
no_distance None field.Address local size found e = absurd cc
no_distance (Some suffix.Plt) field.Address local size found e = absurd cc
no_distance (Some suffix.GotPcRel) field.Address local size found e = absurd cc
no_distance (Some suffix.GotTpOff) field.Address local size found e = absurd cc
no_distance (Some suffix.TpOff) field.Address local size found e = absurd cc
no_distance None field.Branch local size found e = absurd cc
no_distance (Some suffix.Plt) field.Branch local size found e = absurd cc
no_distance (Some suffix.GotPcRel) field.Branch local size found e = absurd cc
no_distance (Some suffix.GotTpOff) field.Branch local size found e = absurd cc
no_distance (Some suffix.TpOff) field.Branch local size found e = absurd cc

-- WHAT IS VERIFIED IS HELD

fits_plain : (size : FieldSize) (value : ℕ) → value < 2 ^ (8 * width size) → fits size value ≡ true
unfolding fits
fits_plain One value low = grind (arith, nat_tests)
fits_plain Two value low = grind (arith, nat_tests)
fits_plain Four value low = grind (arith, nat_tests)
fits_plain Eight value low = refl

fits_both : (size : FieldSize) (value : ℕ) → IsVerified sign_extended (width size) value → (fits size value ≡ true) × (fits_signed size value ≡ true)
unfolding fits fits_signed
fits_both One value low = grind (arith, nat_tests)
fits_both Two value low = grind (arith, nat_tests)
fits_both Four value low = grind (arith, nat_tests)
fits_both Eight value low = (refl, refl)

sign_held : (kind : FieldKind) (size : FieldSize) (value : ℕ) → IsVerified sign_extended (width size) value → holds kind size value ≡ true
sign_held field.Plain size value low = (fits_both size value low).0
sign_held field.Signed size value low = (fits_both size value low).1
sign_held field.Address size value low = (fits_both size value low).1
sign_held field.Branch size value low = (fits_both size value low).1
sign_held field.Number size value low = refl

pub verified_held : (check : Check) (kind : FieldKind) (size : FieldSize) (value : ℕ) → is_alike check kind ≡ true → IsVerified check (width size) value → holds kind size value ≡ true
verified_held unsaid kind size value alike none = absurd none
verified_held zero_extended field.Plain size value alike low = fits_plain size value low
verified_held zero_extended field.Signed size value alike low = absurd cc
verified_held zero_extended field.Address size value alike low = absurd cc
verified_held zero_extended field.Branch size value alike low = absurd cc
verified_held zero_extended field.Number size value alike low = refl
verified_held sign_extended kind size value alike low = sign_held kind size value low

-- a check extends the field by its sign exactly where the processor does
pub no_zeros : (check : Check) (kind : FieldKind) → is_alike check kind ≡ true → is_sign_extended kind ≡ true → check ≢ zero_extended
no_zeros unsaid kind alike signs = λ e. absurd cc
no_zeros sign_extended kind alike signs = λ e. absurd cc
no_zeros zero_extended kind alike signs = λ e. absurd (by (is_sign_extended kind) signs alike)
  where
    by : (b : Bool) → b ≡ true → not b ≡ true → ⊥
    by true is other = absurd cc
    by false is other = absurd cc

pub no_sign : (check : Check) (kind : FieldKind) → is_alike check kind ≡ true → is_sign_extended kind ≡ false → check ≢ sign_extended
no_sign unsaid kind alike plain = λ e. absurd cc
no_sign zero_extended kind alike plain = λ e. absurd cc
no_sign sign_extended kind alike plain = λ e. absurd (let both : true ≡ false = sym alike ∙ plain in cc)
