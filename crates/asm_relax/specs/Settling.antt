-- From the sections of a source to their layout.
use Rattle.std.specs.Prelude.{◌≡◌, ℕ, ◌<◌, ◌≤◌, List, length, slice_index, Option, None, Some, Result, Ok, Err}
use Rattle.asm_symbols.specs.SymbolMap.{SymbolMap}
use Rattle.asm_frags.specs.declared.phases.Laid.{Laid}
use Rattle.asm_frags.specs.declared.items.Frag.{Frag}
use Rattle.asm_frags.specs.SectionOf.{SectionOf}
use Rattle.asm_frags.specs.Writing.{LooseSection}
use Rattle.asm_frags.specs.Substituting.{laid_sections}
use Rattle.item_rows.specs.ItemRows.{rows_of, levels_of}
use Rattle.asm_relax.specs.declared.faults.LayoutFault.{LayoutFault}
use Rattle.assigned_forms.specs.Linked.{linked}
use Rattle.level_ranks.specs.Ranks.{IsLayout}
use Rattle.asm_levels.specs.Needs.{need, tops}
use Rattle.asm_relax.specs.Layout.{laid_by}
use Rattle.asm_relax.specs.declared.plan_states.PlanState.{PlanState}
use Rattle.asm_relax.specs.declared.plan_states.PlanState.TheVariants.{Fresh}
use Rattle.asm_relax.specs.RangeChecks.{first_fault}

-- the sections of a source
abbrev pub LooseSections : Type 0
LooseSections = List LooseSection

-- an item with an address
abbrev pub LaidItem : Type 0
LaidItem = Frag Laid ℕ

-- the sections of a layout
abbrev pub LaidSections : Type 0
LaidSections = List (SectionOf LaidItem)

-- a plan of a layout: the symbols, the sections with assigned symbols but weak aliases expanded in their fields, and whether these are laid out
pub record PlanOf : Type 0 where
  pub map : SymbolMap
  pub sections : LaidSections
  pub state : PlanState

-- the sections with assigned symbols but weak aliases expanded in their fields, at address 0
unfoldable pub planned : SymbolMap → LooseSections → LaidSections
planned map sections = laid_sections (linked map) sections

-- a plan of these sections
abbrev pub plan_of : SymbolMap → LooseSections → PlanOf
plan_of map sections = record { map = map; sections = planned map sections; state = Fresh }

-- the value, or the fault where there is one
abbrev pub unless : {A E : Type 0} → Option E → A → Result A E
unless None made = Ok made
unless (Some fault) made = Err fault

-- the sections laid out with each row at its level in the layout
unfoldable pub settled_sections : SymbolMap → LaidSections → LaidSections
settled_sections map sections = laid_by map (levels_of (rows_of map sections)) sections

-- the layout of a plan, or its first fault
abbrev pub settled_plan : SymbolMap → LaidSections → Result LaidSections LayoutFault
settled_plan map sections = unless (first_fault map (settled_sections map sections)) (settled_sections map sections)

-- the layout of the sections of a source, or its first fault
abbrev pub layout_of : SymbolMap → LooseSections → Result LaidSections LayoutFault
layout_of map sections = settled_plan map (planned map sections)

-- the sections are laid out by the levels of the one ranking, which are reached in this number of rounds, and no row needs more than its level
pub record IsLaidOut (map : SymbolMap) (sections laid : LaidSections) (rounds : ℕ) : Type 0 where
  pub levels : List ℕ
  pub layout : IsLayout (need (rows_of map sections)) (tops (rows_of map sections)) levels rounds
  pub enough : (index : ℕ) → index < length (rows_of map sections) → slice_index (need (rows_of map sections) levels) index ≤ slice_index levels index
  pub placed : laid ≡ laid_by map levels sections

-- the answer is that of the definition, and where there is no fault, so are the sections
abbrev pub Settles : {T : Type 0} → LaidSections → Result T LayoutFault → Result LaidSections LayoutFault → Type 0
Settles laid (Ok done) due = due ≡ Ok laid
Settles laid (Err fault) due = due ≡ Err fault
