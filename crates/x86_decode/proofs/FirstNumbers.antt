-- The first of rows by their indices, one index after the other.
use Rattle.std.proofs.Common.{◌≡◌, ℕ, Bool, true, false, cond, List, ◌∷◌, Option, Some, None, slice_get, refl, sym, ap, ◌∙◌}
use Rattle.x86_table.specs.declared.forms.Row.{Row}
use Rattle.x86_table.specs.Rows.{the_rows}
use Rattle.x86_decode.specs.Slots.{first_number, pick, only}

by_pass : (b : Bool) (r row : Row) (rest : Option Row) → cond b (Some r) None ≡ Some row → cond b (Some r) rest ≡ Some row
by_pass true r row rest is = is
by_pass false r row rest is = cc

by_fail : (b : Bool) (r : Row) (rest : Option Row) → (let none : Option Row = None in cond b (Some r) none ≡ none) → cond b (Some r) rest ≡ rest
by_fail true r rest is = cc
by_fail false r rest is = refl

picked : (p : Row → Bool) (found : Option Row) (row : Row) (rest : Option Row) → only p found ≡ Some row → pick p found rest ≡ Some row
picked p None row rest is = cc
picked p (Some r) row rest is = by_pass (p r) r row rest is

passed : (p : Row → Bool) (found rest : Option Row) → (let none : Option Row = None in only p found ≡ none) → pick p found rest ≡ rest
passed p None rest is = refl
passed p (Some r) rest is = by_fail (p r) r rest is

pub one_first : (p : Row → Bool) (n : ℕ) (numbers all : List ℕ) (row : Row) → all ≡ n ∷ numbers → only p (slice_get the_rows n) ≡ Some row → Some row ≡ first_number p all
one_first p n numbers all row all_are is = sym (ap (first_number p) all_are ∙ picked p (slice_get the_rows n) row (first_number p numbers) is)

pub none_first : (p : Row → Bool) (n : ℕ) (numbers all : List ℕ) (result : Option Row) → all ≡ n ∷ numbers → (let none : Option Row = None in only p (slice_get the_rows n) ≡ none) → result ≡ first_number p numbers → result ≡ first_number p all
none_first p n numbers all result all_are is later = later ∙ sym (ap (first_number p) all_are ∙ passed p (slice_get the_rows n) (first_number p numbers) is)
