-- Where an immediate counts, the table's rows hold all its 64 bits.
use Rattle.std.proofs.Common.{◌≡◌, ℕ, ◌-◌, ◌^◌, ◌==◌, ◌&&◌, ◌||◌, not, Bool, true, false, List, [], ◌∷◌, Some, zero, suc, slice_get, refl, subst, arith}
use Rattle.std.proofs.lemmas.Bool.Decides.{nat_tests}
use Rattle.x86_table.specs.declared.forms.Row.{Row}
use Rattle.x86_table.specs.Rows.{the_rows}
use Rattle.x86_parts.specs.Codes.{last_of}
use Rattle.x86_steps.specs.Fillings.{is_counted}

-- where an immediate is_counted, it has 64 bits
abbrev pub row_counts : Row → Bool
row_counts r = not ((r.size == 64) && is_counted r.name.0) || (last_of r.immediate == 2 ^ 64 - 1)

abbrev pub rows_count : List Row → Bool
rows_count [] = true
rows_count (r ∷ rows) = row_counts r && rows_count rows

all_count : rows_count the_rows ≡ true
unfolding the_rows
all_count = refl

both : (a b : Bool) → (a && b) ≡ true → (a ≡ true) × (b ≡ true)
both true b h = (refl, h)
both false b h = cc

at_index : (rows : List Row) (i : ℕ) (r : Row) → rows_count rows ≡ true → slice_get rows i ≡ Some r → row_counts r ≡ true
at_index [] i r h g = cc
at_index (x ∷ rows) zero r h g = let b = both (row_counts x) (rows_count rows) h in let same : x ≡ r = cc in subst (λ y. row_counts y ≡ true) same b.0
at_index (x ∷ rows) (suc i) r h g = let b = both (row_counts x) (rows_count rows) h in at_index rows i r b.1 g

pub last_counts : (i : ℕ) (r : Row) → slice_get the_rows i ≡ Some r → ((r.size == 64) && is_counted r.name.0) ≡ true → last_of r.immediate ≡ 2 ^ 64 - 1
last_counts i r h c = by_test (at_index the_rows i r all_count h)
  where
    by_test : row_counts r ≡ true → last_of r.immediate ≡ 2 ^ 64 - 1
    by_test e =
        let f : (not true || (last_of r.immediate == 2 ^ 64 - 1)) ≡ true = subst (λ b. (not b || (last_of r.immediate == 2 ^ 64 - 1)) ≡ true) c e in
        grind (arith, nat_tests)
