-- Two rows of one item are one, and so are two lists of rows.
use Rattle.std.proofs.Common.{◌≡◌, ℕ, ◌+◌, ◌⊎◌, inl, inr, Bool, true, false, Option, Some, None, List, [], ◌∷◌, length, refl, sym, ap, subst, ◌∙◌, arith}
use Rattle.std.proofs.lemmas.Bool.{cases_Bool}
use Rattle.stack_depths.specs.Distances.{Distances}
use Rattle.stack_facts.specs.Places.{is_slot_place}
use Rattle.stack_facts.specs.Facts.{Fact, slot}
use Rattle.scfi_pass.specs.declared.rows.Cfa.{Cfa}
use Rattle.scfi_pass.specs.declared.rows.StackRow.{StackRow}
use Rattle.scfi_pass.specs.Rows.{cfa_of, IsRuleOf, IsRow}
use Rattle.scfi_pass.specs.Tables.{Analyzed, IsAnalyzed, IsNextRow, AreRowsFrom}
use Rattle.synthesis_laws.proofs.SlotPlaces.{slot_placed, highest}

-- slots lie at their places
abbrev pub ArePlaced : (Fact → Bool) → Type 0
ArePlaced stands = (n r : ℕ) → stands (slot n r) ≡ true → is_slot_place n ≡ true

module _ (stands : Fact → Bool) (placed : ArePlaced stands) where
  -- two rules of a register
  same_rule : (r : ℕ) (a b : Option ℕ) → IsRuleOf stands r a → IsRuleOf stands r b → a ≡ b
  same_rule r None None x y = refl
  same_rule r None (Some n) x y = absurd (let not : stands (slot n r) ≡ false = x.0 n in let is : stands (slot n r) ≡ true = y.0 in let none : ⊥ = cc in none)
  same_rule r (Some n) None x y = absurd (let not : stands (slot n r) ≡ false = y.0 n in let is : stands (slot n r) ≡ true = x.0 in let none : ⊥ = cc in none)
  same_rule r (Some n) (Some m) x y = ap Some (highest n m (placed n r x.0) (placed m r y.0) (x.1 m y.0) (y.1 n x.0))

  -- what is there is one
  same_cfa : (o : Option Cfa) (a b : Cfa) → o ≡ Some a → o ≡ Some b → a ≡ b
  same_cfa o a b x y = cc

  -- two rows
  pub same_row : (known : Distances) (a b : StackRow) → IsRow known stands a → IsRow known stands b → a ≡ b
  same_row known a b x y =
      ap (λ v. record a { cfa = v }) (same_cfa (cfa_of known) a.cfa b.cfa x.cfa y.cfa)
      ∙ ap (λ v. record a { cfa = b.cfa; rbx = v }) (same_rule 1 a.rbx b.rbx x.rbx y.rbx)
      ∙ ap (λ v. record a { cfa = b.cfa; rbx = b.rbx; rbp = v }) (same_rule 2 a.rbp b.rbp x.rbp y.rbp)
      ∙ ap (λ v. record b { r12 = v; r13 = a.r13; r14 = a.r14; r15 = a.r15 }) (same_rule 3 a.r12 b.r12 x.r12 y.r12)
      ∙ ap (λ v. record b { r13 = v; r14 = a.r14; r15 = a.r15 }) (same_rule 4 a.r13 b.r13 x.r13 y.r13)
      ∙ ap (λ v. record b { r14 = v; r15 = a.r15 }) (same_rule 5 a.r14 b.r14 x.r14 y.r14)
      ∙ ap (λ v. record b { r15 = v }) (same_rule 6 a.r15 b.r15 x.r15 y.r15)

module _ (a : Analyzed) (is : IsAnalyzed a) where
  -- slots lie at their places at each item
  pub placed_at : (j : ℕ) → ArePlaced (a.facts j)
  placed_at j = slot_placed a.nodes a.items a.distances a.facts is.facts j

  -- two rows behind one row
  same_next : (j : ℕ) (before one other : StackRow) → IsNextRow a j before one → IsNextRow a j before other → one ≡ other
  same_next j before one other x y = by (cases_Bool (a.reached j))
    where
      by : (a.reached j ≡ true) ⊎ (a.reached j ≡ false) → one ≡ other
      by (inl reached) = same_row (a.facts j) (placed_at j) (a.distances j) one other (x.0 reached) (y.0 reached)
      by (inr not) = x.1 not ∙ sym (y.1 not)

  -- there is a row of each item
  pub rows_counted : (j : ℕ) (before : StackRow) (rows : List StackRow) → AreRowsFrom a j before rows → j + length rows ≡ length a.items
  rows_counted j before [] are = let e : j ≡ length a.items = are in omega arith
  rows_counted j before (row ∷ rows) are = let e = rows_counted (j + 1) row rows are.1 in omega arith

  -- two lists of rows
  pub same_rows : (j : ℕ) (before : StackRow) (one other : List StackRow) → AreRowsFrom a j before one → AreRowsFrom a j before other → one ≡ other
  same_rows j before [] [] x y = refl
  same_rows j before [] (row ∷ rows) x y =
      absurd (let e : j ≡ length a.items = x in let c = rows_counted j before (row ∷ rows) y in let none : ⊥ = omega arith in none)
  same_rows j before (row ∷ rows) [] x y =
      absurd (let e : j ≡ length a.items = y in let c = rows_counted j before (row ∷ rows) x in let none : ⊥ = omega arith in none)
  same_rows j before (row ∷ rows) (other ∷ others) x y =
      let same = same_next j before row other x.0 y.0 in
      let From : StackRow → Type 0 = λ r. AreRowsFrom a (j + 1) r rows in
      ap (λ r. r ∷ rows) same ∙ ap (λ l. other ∷ l) (same_rows (j + 1) other rows others (subst From same x.1) y.1)
