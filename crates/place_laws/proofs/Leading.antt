-- What a distance leads to, from the end of its instruction.
use Rattle.std.proofs.Common.{◌≡◌, ℕ, ◌+◌, ◌<◌, true, false, cond, ap, ◌∙◌, arith}
use Rattle.asm_expr.specs.Forms.{wrapped}
use Rattle.asm_symbols.specs.SymbolMap.{SymbolMap}
use Rattle.asm_frags.specs.declared.fields.Field.{Field}
use Rattle.asm_frags.specs.declared.fields.FieldSize.{FieldSize}
use Rattle.asm_frags.specs.declared.fields.FieldSize.TheVariants.{One, Two, Four, Eight}
use Rattle.asm_frags.specs.Fields.{width}
use Rattle.asm_relax.specs.FieldValues.{less, field_address, instruction_end, DistancesLead}
use Rattle.asm_relax.specs.Final.{address_of}
use Rattle.asm_relax.specs.Settling.{LaidSections}
use Rattle.place_laws.specs.Branches.{IsBranchTo, Leads, BranchesLead}

short : (size : FieldSize) → width size < 9
short One = omega arith
short Two = omega arith
short Four = omega arith
short Eight = omega arith

-- from the end of the instruction
from_end : (stop place size value target : ℕ) → wrapped stop ≡ wrapped (place + size) → wrapped (stop + value) ≡ wrapped target
    → wrapped (place + wrapped (value + size)) ≡ wrapped target
from_end stop place size value target same leads = omega arith

module _ (lead : DistancesLead) (map : SymbolMap) (sections : LaidSections) (field : Field) (symbol number address place size : ℕ)
    (is : IsBranchTo map sections field symbol number address) where
  leads_by : wrapped (instruction_end sections field) ≡ wrapped (place + size) → Leads map sections field place size (address + number)
  leads_by same =
      let found = lead map sections field symbol number address is.distance is.free is.apart is.known in
      record {
        value = found.0;
        held = found.1;
        leads = from_end (instruction_end sections field) place size found.0 (address + number) same found.2;
      }

  over_by : (at : ℕ) → field.in_item ≡ false → address_of sections field.section field.item field.offset ≡ wrapped (place + at)
      → at + width field.size + field.role.behind ≡ size → wrapped (instruction_end sections field) ≡ wrapped (place + size)
  over_by at out there long =
      let begins : field_address sections field ≡ wrapped (place + at) =
      ap (λ b. cond b (less (address_of sections field.section field.item field.offset) (width field.size)) (address_of sections field.section field.item field.offset)) out ∙ there in
      let adds : wrapped (wrapped (place + at) + width field.size + field.role.behind) ≡ wrapped (place + size) = omega (arith, long) in
      ap (λ n. wrapped (n + width field.size + field.role.behind)) begins ∙ adds

  within_by : field.in_item ≡ true → field.role.behind ≡ 0 → address_of sections field.section field.item field.offset ≡ wrapped (place + size)
      → wrapped (instruction_end sections field) ≡ wrapped (place + size)
  within_by inside none there =
      let begins : field_address sections field ≡ less (wrapped (place + size)) (width field.size) =
      ap (λ b. cond b (less (address_of sections field.section field.item field.offset) (width field.size)) (address_of sections field.section field.item field.offset)) inside
      ∙ ap (λ n. less n (width field.size)) there in
      let low = short field.size in
      let adds : wrapped (less (wrapped (place + size)) (width field.size) + width field.size + 0) ≡ wrapped (place + size) = omega (arith, low) in
      ap (λ n. wrapped (n + width field.size + field.role.behind)) begins
      ∙ ap (λ n. wrapped (less (wrapped (place + size)) (width field.size) + width field.size + n)) none ∙ adds

pub branches_lead : DistancesLead → BranchesLead
branches_lead lead = record {
  over = λ map sections field symbol number address place size at is out there long.
      leads_by lead map sections field symbol number address place size is (over_by lead map sections field symbol number address place size is at out there long);
  within = λ map sections field symbol number address place size is inside none there.
      leads_by lead map sections field symbol number address place size is (within_by lead map sections field symbol number address place size is inside none there);
}
