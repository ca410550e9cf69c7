-- Where the distance to a label leads.
use Rattle.std.proofs.Common.{◌≡◌, ℕ, ◌+◌, ◌-◌, ◌*◌, ◌^◌, ◌==◌, ◌<◌, true, false, cond, List, [], ◌∷◌, Some, refl, sym, ap, ◌∙◌, arith}
use Rattle.std.specs.Prelude.{option_map}
use Rattle.std.proofs.lemmas.Bool.Decides.{nat_tests}
use Rattle.asm_expr.specs.Forms.{Form, wrapped, term_of}
use Rattle.asm_expr.specs.Knowledge.{Told, absent, label}
use Rattle.asm_expr.specs.Settled.{settled, constant_left}
use Rattle.asm_symbols.specs.SymbolMap.{SymbolMap}
use Rattle.asm_frags.specs.declared.fields.Field.{Field}
use Rattle.asm_frags.specs.declared.fields.FieldSize.{FieldSize}
use Rattle.asm_frags.specs.declared.fields.FieldSize.TheVariants.{One, Two, Four, Eight}
use Rattle.asm_frags.specs.declared.items.Frag.{Frag}
use Rattle.asm_frags.specs.Fields.{width, own_place}
use Rattle.asm_frags.specs.SectionOf.{SectionOf}
use Rattle.item_rows.specs.Links.{is_linked}
use Rattle.asm_relax.specs.Final.{final_told}
use Rattle.asm_relax.specs.FieldValues.{field_address, place_label, place_told, told_in_field, less, counted, held_value, instruction_end, DistancesLead}
use Rattle.asm_relax.proofs.PairLemmas.{beside_is}

-- a symbol and a number, less another symbol
abbrev pub both_of : ℕ → ℕ → ℕ → Form
both_of one other number = record { terms = term_of one 1 ∷ term_of other (2 ^ 64 - 1) ∷ []; constant = number }

-- the number that is left of them
abbrev pub left_of : ℕ → ℕ → ℕ → ℕ
left_of at origin number = wrapped (wrapped (number + wrapped (1 * at)) + wrapped ((2 ^ 64 - 1) * origin))

pub both_cancel : (told : ℕ → Told) (stretch at origin one other number : ℕ) → told one ≡ label stretch at → told other ≡ label stretch origin
    → constant_left (settled told (both_of one other number)) ≡ Some (left_of at origin number)
both_cancel told stretch at origin one other number is also =
    let same : (stretch == stretch) ≡ true = grind (arith, nat_tests) in
    sym (beside_is told number (term_of one 1) (term_of other (2 ^ 64 - 1)) refl (omega arith) stretch at is (label stretch origin) also) ∙ (rw same refl)

module _ {P : Type 0} (map : SymbolMap) (sections : List (SectionOf (Frag P ℕ))) (field : Field) where
  pub told_else : (symbol : ℕ) → (symbol == own_place) ≡ false → told_in_field map sections field symbol ≡ final_told map sections symbol
  unfolding told_in_field
  told_else symbol differs = ap (λ b. cond b (place_told map sections field) (final_told map sections symbol)) differs

  pub told_own : is_linked map field ≡ false → told_in_field map sections field own_place ≡ place_label sections field
  unfolding told_in_field
  told_own free = ap (λ b. cond b absent (place_label sections field)) free

short : (size : FieldSize) → width size < 9
short One = omega arith
short Two = omega arith
short Four = omega arith
short Eight = omega arith

leads : (at origin number taken : ℕ) → taken < 2 ^ 64 → wrapped (origin + taken + less (left_of at origin number) taken) ≡ wrapped (at + number)
leads at origin number taken small = omega arith

pub distances_lead : DistancesLead
unfolding held_value
distances_lead map sections field symbol number address is free differs there =
    let place = field_address sections field in
    let told = told_in_field map sections field in
    let taken = width field.size + field.role.behind in
    let value = left_of address place number in
    let made : constant_left (settled told field.form) ≡ Some value =
    ap (λ (f : Form). constant_left (settled told f)) is.form ∙ both_cancel told field.section address place symbol own_place number (told_else map sections field symbol differs ∙ there) (told_own map sections field free) in
    let counts : counted field.size field.role value ≡ less value taken =
    ap (λ b. cond b (less value (cond b taken 0)) value) is.kind in
    let low = short field.size in
    let small : taken < 2 ^ 64 = let behind = is.behind in omega arith in (
      less value taken,
      ap (option_map (counted field.size field.role)) made ∙ ap Some counts,
      ap (λ n. wrapped (n + less value taken)) (let e : instruction_end sections field ≡ place + taken = omega arith in e)
          ∙ leads address place number taken small,
    )
