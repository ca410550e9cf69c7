-- Symbols that have a place, the sections in which they stand, and the symbols that forms name; and the fields of sections.
use Rattle.std.specs.Prelude.{◌≡◌, ℕ, ◌≤◌, ◌<◌, ◌⊎◌, true, List, [], ◌∷◌, All, Option, None, Some, length, slice_get}
use Rattle.asm_expr.specs.declared.forms.Term.{Term}
use Rattle.asm_expr.specs.Forms.{Form}
use Rattle.asm_expr.specs.declared.naming.Name.{Name}
use Rattle.asm_expr.specs.declared.naming.Name.TheVariants as naming
use Rattle.asm_frags.specs.declared.fields.Field.{Field}
use Rattle.asm_frags.specs.Writing.{LooseSection}
use Rattle.asm_symbols.specs.Assigning.{NoFormLeadsBack}
use Rattle.asm_symbols.specs.declared.entries.Binding.{Binding}
use Rattle.asm_symbols.specs.declared.entries.Meaning.{Meaning}
use Rattle.asm_symbols.specs.declared.entries.Meaning.TheVariants.{Undefined, Label, Common, Space, Assigned}
use Rattle.asm_symbols.specs.declared.entries.Symbol.{Symbol}
use Rattle.x86_insn.specs.declared.amounts.FieldKind.TheVariants.{Branch}
use Rattle.asm_uses.specs.Places.{here_name}
use Rattle.cfi_directives.specs.declared.frames.Frame.{Frame}
use Rattle.cfi_directives.specs.Meant.{stop_of}
use Rattle.cfi_directives.specs.Procedures.{frames_of}
use Rattle.asm_values.specs.State.{Placed}
use Rattle.asm_place.specs.Coding.{from_own_place}

-- the section of this number is there, with at least so many items
pub record HasItems (sections : List LooseSection) (number items : ℕ) : Type 0 where
  pub section : LooseSection
  pub there : slice_get sections number ≡ Some section
  pub enough : items ≤ length section.items

-- no term is of a symbol with a number above this one
abbrev pub AreUpTo : ℕ → List Term → Type 0
AreUpTo last [] = Unit {0}
AreUpTo last (term ∷ terms) = (term.symbol ≤ last) × AreUpTo last terms

-- a label, or space of the object, stands in a section that is there, behind some of its items; the form of an assigned symbol names no symbol above
-- this number
abbrev pub MeaningStands : List LooseSection → ℕ → Meaning → Type 0
MeaningStands sections last Undefined = Unit {0}
MeaningStands sections last (Label spot) = HasItems sections spot.place.section spot.place.place.item
MeaningStands sections last (Common size align) = Unit {0}
MeaningStands sections last (Space spot) = HasItems sections spot.place.section spot.place.place.item
MeaningStands sections last (Assigned form) = AreUpTo last form.terms

-- a name that statements give: a text, or a numeric label
abbrev pub IsGiven : Name → Type 0
IsGiven (naming.Plain text) = Unit {0}
IsGiven (naming.Numeric number instance) = Unit {0}
IsGiven (naming.Place section item offset) = ⊥

-- what is bound so, and is this, has a name that statements give; only a label may have the name of a place, which is its own, and is local then
abbrev pub NameStands : Name → Option Binding → Meaning → Type 0
NameStands name binding Undefined = IsGiven name
NameStands name binding (Label spot) = IsGiven name ⊎ ((name ≡ here_name spot) × (binding ≡ None))
NameStands name binding (Common size align) = IsGiven name
NameStands name binding (Space spot) = IsGiven name
NameStands name binding (Assigned form) = IsGiven name

-- what the symbol is stands so, and so does its name
abbrev pub SymbolStands : List LooseSection → ℕ → Symbol → Type 0
SymbolStands sections last symbol = MeaningStands sections last symbol.meaning × NameStands symbol.name symbol.binding symbol.meaning

-- each symbol that has a place stands so, forms name symbols that are there, or the next one, and a symbol with the name of a place is a local label there;
-- no form leads back to its symbol
pub record SymbolsStand (sections : List LooseSection) (symbols : List Symbol) : Type 0 where
  pub each : All (SymbolStands sections (length symbols)) symbols
  pub forward : NoFormLeadsBack symbols

-- the form is that of a target, less the place of the field that holds it; the target names no symbol above this number
pub record HoldsTarget (last : ℕ) (form : Form) : Type 0 where
  pub target : Form
  pub form_is : form ≡ from_own_place target
  pub named : AreUpTo last target.terms

-- the field is one of the section of this number; where it stands in the item of a direct jump, it holds a target
pub record IsOwnField (last number : ℕ) (field : Field) : Type 0 where
  pub own : field.section ≡ number
  pub target : field.in_item ≡ true → field.role.kind ≡ Branch → HoldsTarget last field.form

-- so is each field of each section
abbrev pub FieldsAreOwn : ℕ → List LooseSection → Type 0
FieldsAreOwn last sections = (number : ℕ) (section : LooseSection) → slice_get sections number ≡ Some section → All (IsOwnField last number) section.fields

-- each place of a procedure stands in its section, behind some of its items
pub record ProcedureStands (sections : List LooseSection) (frame : Frame) : Type 0 where
  pub start : HasItems sections frame.section frame.start.item
  pub stop : HasItems sections frame.section (stop_of frame).item
  pub ops : All (λ placed. HasItems sections frame.section placed.place.item) frame.ops

-- the sections are there that statements put into or come back to, and so are the first three; each symbol that has a place stands in its section,
-- forms name symbols that are there, or the next one, and lead back to none, a symbol with the name of a place is a local label there, the places of procedures
-- stand in their sections, and each field is its section's, and holds a target where it is a jump's
pub record PlacesStand (placed : Placed) : Type 0 where
  pub current : HasItems placed.sections placed.current 0
  pub previous : HasItems placed.sections placed.previous 0
  pub stack : All (λ entered. HasItems placed.sections entered.current 0 × HasItems placed.sections entered.previous 0) placed.stack
  pub first : (number : ℕ) → number < 3 → HasItems placed.sections number 0
  pub symbols : SymbolsStand placed.sections placed.table.symbols.symbols
  pub procedures : All (ProcedureStands placed.sections) (frames_of placed.procedures)
  pub fields : FieldsAreOwn (length placed.table.symbols.symbols) placed.sections
