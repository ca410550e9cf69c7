-- A row that is found by its slot is one of the table that admits the head.
use Rattle.std.proofs.Common.{◌≡◌, ℕ, List, [], ◌∷◌, Bool, true, Option, Some, None, IfSome, option_map, sym, inl, inr}
use Rattle.std.proofs.lemmas.Bool.{cases_Bool}
use Rattle.x86_table.specs.declared.forms.Map.{Map}
use Rattle.x86_table.specs.declared.forms.Row.{Row}
use Rattle.x86_table.specs.Rows.{the_rows}
use Rattle.x86_decode.specs.declared.rows.TableRow.{TableRow}
use Rattle.x86_decode.specs.Heads.{Head}
use Rattle.x86_decode.specs.Admitting.{admits}
use Rattle.x86_decode.specs.Decoding.{first_row}
use Rattle.x86_decode.specs.Views.{IsAdmitted}
use Rattle.x86_decode.proofs.Soundness.{stands_there}

first_passes : (p : Row → Bool) (rows : List Row) (r : Row) → first_row p rows ≡ Some r → p r ≡ true
first_passes p [] r h = cc
first_passes p (s ∷ rows) r h = elim (cases_Bool (p s)) [
  | inl t ↦ let own : Some s ≡ Some r = rw t at h in let same : s ≡ r = cc in rw (← same) t
  | inr f ↦ let later : first_row p rows ≡ Some r = rw f at h in first_passes p rows r later
]

pub taken : (m : Map) (h : Head) (o : ℕ) (tail : List ℕ) (found : Option TableRow) → option_map (λ (found : TableRow). found.row.now) found ≡ first_row (admits m h o tail) the_rows
    → IfSome found (λ found. IsAdmitted m h o tail found.row.now)
taken m h o tail None e = tt
taken m h o tail (Some found) e = record {
  there = stands_there (admits m h o tail) the_rows found.row.now (sym e);
  admitted = first_passes (admits m h o tail) the_rows found.row.now (sym e);
}
