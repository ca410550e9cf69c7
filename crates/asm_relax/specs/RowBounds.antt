-- What the plan of rows keeps, so that it is that of the sections.
use Rattle.std.specs.Prelude.{◌≡◌, ℕ, ◌^◌, ◌<◌, List, All, length}
use Rattle.asm_symbols.specs.SymbolMap.{SymbolMap}
use Rattle.asm_frags.specs.declared.items.Frag.{Frag}
use Rattle.asm_frags.specs.SectionOf.{SectionOf}
use Rattle.row_plans.specs.Plans as levels
use Rattle.item_rows.specs.ItemRows.{rows_of}
use Rattle.asm_relax.specs.declared.plan_states.PlanState.{PlanState}
use Rattle.asm_relax.specs.declared.plan_states.PlanState.TheVariants.{Fresh, LaidOut, Refused}

-- the rows of a fresh plan are at their lowest levels
abbrev pub IsFreshWhere : PlanState → List ℕ → Type 0
IsFreshWhere Fresh levels = All (λ level. level ≡ 0) levels
IsFreshWhere LaidOut levels = Unit {0}
IsFreshWhere Refused levels = Unit {0}

-- the plan of rows is that of the sections: fewer than 2^32 rows, so that each has a number of 32 bits
pub record IsPlanFor {P Address : Type 0} (map : SymbolMap) (sections : List (SectionOf (Frag P Address))) (plan : levels.PlanOf) (state : PlanState) : Type 0 where
  pub rows : plan.rows ≡ rows_of map sections
  pub few : length plan.rows < 2 ^ 32
  pub fresh : IsFreshWhere state plan.levels
