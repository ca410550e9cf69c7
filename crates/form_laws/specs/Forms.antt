-- What the forms of assigned symbols and of instructions name, in all that statements place.
use Rattle.std.specs.Prelude.{◌≡◌, ℕ, Bool, List, ◌∷◌, Some, Ok, length}
use Rattle.asm_expr.specs.Forms.{Form}
use Rattle.asm_lines.specs.NextStatements.{TokenStatement}
use Rattle.x86_insn.specs.declared.amounts.FieldKind.{FieldKind}
use Rattle.att_insns.specs.InsnTexts.{InsnText}
use Rattle.asm_values.specs.State.{Placed, nothing_placed}
use Rattle.asm_place.specs.Coding.{forms_of, held_form}
use Rattle.asm_place.specs.CodePlaces.{ValueForms, insn_in, labelled, known_in}
use Rattle.asm_place.specs.Sources.{pos_at, place_all}
use Rattle.flow_graph.specs.AddedLabels.{AreBelow, AreBelowOrOwn, FormsAreThere}

-- at the beginning of a source the forms of assigned symbols name symbols that are there
abbrev pub FormsBeginThere : Type 0
FormsBeginThere = (no_warn : Bool) → FormsAreThere (nothing_placed no_warn).table.symbols

-- and whatever statements are placed, it stays so
abbrev pub FormsStayThere : Type 0
FormsStayThere = (statements : List TokenStatement) (before placed : Placed)
    → place_all statements before ≡ Ok placed → FormsAreThere before.table.symbols
    → FormsAreThere placed.table.symbols

-- the forms of the values of an instruction name none but these first symbols
pub record AreValuesBelow (count : ℕ) (forms : ValueForms) : Type 0 where
  pub immediate : AreBelow count forms.immediate.terms
  pub displacement : AreBelow count forms.displacement.terms

-- those of an instruction that is placed name symbols that are there in the end
abbrev pub ValuesAreThere : Type 0
ValuesAreThere = (s : TokenStatement) (later : List TokenStatement) (before whole labels : Placed)
    (text : InsnText) (forms : ValueForms) → FormsAreThere before.table.symbols
    → insn_in before.syntax s ≡ Some text
    → labelled (pos_at s.file s.line) s.tokens before ≡ Ok labels
    → forms_of (known_in (pos_at s.file s.line) text labels) text.immediate.tree
    text.displacement.tree ≡ Ok forms → place_all (s ∷ later) before ≡ Ok whole
    → AreValuesBelow (length whole.table.symbols.symbols) forms

-- a field of any kind that holds such a form names the same symbols, or its own place besides
abbrev pub HeldFormsAreThere : Type 0
HeldFormsAreThere = (count : ℕ) (kind : FieldKind) (form : Form) → AreBelow count form.terms
    → AreBelowOrOwn count (held_form kind form).terms
