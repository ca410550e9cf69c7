-- A new section for a table.
use Rattle.std.proofs.Common.{◌≡◌, ℕ, ◌+◌, Bool, true, false, nat_lt, List, [], ◌∷◌, ◌++◌, length, Option, Some, Result, Ok, Err, if◌then◌else◌, refl, sym, ap, subst, ◌∙◌, arith, length-append}
use Rattle.std.specs.Prelude.{IsSomeAnd}
use Rattle.std.specs.List.{slice_get}
use Rattle.asm_base.specs.declared.causes.FragCause.{FragCause}
use Rattle.asm_base.specs.declared.causes.FragCause.TheVariants.{BadSection}
use Rattle.asm_frags.specs.Groups.{counted}
use Rattle.asm_frags.specs.Sections.{table_last}
use Rattle.asm_frags.specs.Writing.{LooseSection, takes_zeros_alone}
use Rattle.table_pieces.specs.Pieces.{Takes}
use Rattle.eh_frame.specs.Placing.{new_table}

-- the sections with the new one, if there is room for it
abbrev if_room : List LooseSection → Bool → Result (ℕ × List LooseSection) FragCause
if_room old room = if room then Ok (length old, old ++ new_table ∷ []) else Err BadSection

module _ (old new : List LooseSection) (number : ℕ) where
  by_room : (room : Bool) → if_room old room ≡ Ok (number, new)
      → (number ≡ length old) × (new ≡ old ++ new_table ∷ [])
  by_room true is =
      let same : (number, new) ≡ (length old, old ++ new_table ∷ []) = cc in
      (ap (λ (pair : ℕ × List LooseSection). pair.0) same, ap (λ (pair : ℕ × List LooseSection). pair.1) same)
  by_room false is = absurd cc

  added : table_last old new_table ≡ Ok (number, new)
      → (number ≡ length old) × (new ≡ old ++ new_table ∷ [])
  added is = by_room (nat_lt (counted old + 0) 30005) is

  pub table_added : table_last old new_table ≡ Ok (number, new) → new ≡ old ++ new_table ∷ []
  table_added is = (added is).1

  pub table_number : table_last old new_table ≡ Ok (number, new) → number ≡ length old
  table_number is = (added is).0

get_last : (xs : List LooseSection) (x : LooseSection) → slice_get (xs ++ x ∷ []) (length xs) ≡ Some x
get_last [] x = refl
get_last (y ∷ xs) x = get_last xs x

last_takes : (old : List LooseSection) → Takes (length old) (old ++ new_table ∷ [])
last_takes old = record {
  within = let long : length (old ++ new_table ∷ []) ≡ length old + 1 = length-append old (new_table ∷ []) in omega arith;
  filled = subst (λ (found : Option LooseSection). IsSomeAnd found (λ held. takes_zeros_alone held ≡ false)) (sym (get_last old new_table)) refl;
}

pub table_takes : (old new : List LooseSection) (number : ℕ) → table_last old new_table ≡ Ok (number, new) → Takes number new
table_takes old new number is =
    let parts : (number ≡ length old) × (new ≡ old ++ new_table ∷ []) = added old new number is in
    subst (λ (n : ℕ). Takes n new) (sym parts.0) (subst (Takes (length old)) (sym parts.1) (last_takes old))
