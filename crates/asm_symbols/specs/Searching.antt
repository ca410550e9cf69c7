-- How code looks for a form that leads back to a symbol: the symbols seen so far, and those that one more form names.
use Rattle.std.specs.Prelude.{ℕ, Bool, ◌==◌, nat_eq, nat_lt, List, [], ◌∷◌, Option, None, Some, if◌then◌else◌}
use Rattle.indexmap.specs.IndexSet.{insert_key}
use Rattle.asm_expr.specs.declared.forms.Term.{Term}
use Rattle.asm_expr.specs.Forms.{Form}

-- the symbols seen after a step; none where the symbol that is looked for was named
abbrev pub seen_unless : Bool → List ℕ → Option (List ℕ)
seen_unless named seen = if named then None else Some seen

-- the symbols seen, and one more, if it is one of so many; none where it is the symbol that is looked for
abbrev pub seen_one : ℕ → ℕ → ℕ → List ℕ → Option (List ℕ)
seen_one count target index seen =
    if index == target then None else Some (if nat_lt index count then insert_key nat_eq seen index else seen)

-- the step after those of which none is the symbol that is looked for
abbrev pub seen_then : (List ℕ → Option (List ℕ)) → Option (List ℕ) → Option (List ℕ)
seen_then later None = None
seen_then later (Some seen) = later seen

-- the symbols seen, and those that the terms name
unfoldable pub seen_with : ℕ → ℕ → List Term → List ℕ → Option (List ℕ)
seen_with count target [] seen = Some seen
seen_with count target (term ∷ terms) seen = seen_then (λ more. seen_with count target terms more) (seen_one count target term.symbol seen)

-- the same of the form of a symbol, if it has one
abbrev pub seen_behind : ℕ → ℕ → Option Form → List ℕ → Option (List ℕ)
seen_behind count target None seen = Some seen
seen_behind count target (Some form) seen = seen_with count target form.terms seen
