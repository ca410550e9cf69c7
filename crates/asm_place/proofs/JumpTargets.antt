-- The targets of direct jumps name symbols that are there.
use Rattle.std.proofs.Common.{◌≡◌, ◌≤◌, List, ◌∷◌, Some, Ok, sym, ap, ◌∙◌, arith}
use Rattle.std.proofs.lemmas.Result.{IfOk-at_ok}
use Rattle.asm_base.specs.Refusals.{◌>>=◌}
use Rattle.asm_base.specs.Tokens.{SpelledToken}
use Rattle.asm_base.specs.declared.positions.Pos.{Pos}
use Rattle.asm_lines.specs.NextStatements.{TokenStatement}
use Rattle.asm_expr.specs.Trees.{Tree}
use Rattle.asm_uses.specs.Tables.{naming_of}
use Rattle.asm_values.specs.State.{Placed, with_names}
use Rattle.att_insns.specs.InsnTexts.{InsnText}
use Rattle.amount_forms.specs.Amounts.{in_text_order}
use Rattle.asm_place.specs.Coding.{shape_in, place_insn, place_text}
use Rattle.asm_place.specs.Placing.{has_wide_label, place_unlabelled, place_labelled, place_tokens}
use Rattle.asm_place.specs.Sources.{pos_at, place, place_all}
use Rattle.asm_place.specs.Instructions.{behind_labels}
use Rattle.asm_place.specs.CodePlaces.{insn_written, insn_in, labelled}
use Rattle.asm_place.specs.JumpPlaces.{IsJump}
use Rattle.asm_place.specs.SymbolPlaces.{AreUpTo, PlacesStand}
use Rattle.asm_place.proofs.Walks.{TablesKeep}
use Rattle.asm_place.proofs.InstructionLaws.{wide_ok, located_ok, first_placed}
use Rattle.asm_place.proofs.CodeLaws.{labels_split, behind_is}
use Rattle.asm_place.proofs.ForwardForms.{LeadsAreFound}
use Rattle.asm_place.proofs.NamedSymbols.{up_to_more}
use Rattle.asm_place.proofs.TargetForms.{displacement_up}
use Rattle.asm_place.proofs.PlaceSteps.{count, Closes, names_gain}
use Rattle.asm_place.proofs.PlaceWalk.{trees_walk, labels_walk, statements_walk, kept_by}

-- where the labels in front of an instruction are placed, the rest of its statement is
rest_is : (pos : Pos) (tokens : List SpelledToken) (text : InsnText) (placed labels next : Placed) → insn_written placed.syntax (behind_labels tokens) ≡ Some text
    → labelled pos tokens placed ≡ Ok labels → place_tokens pos tokens placed ≡ Ok next → place_text pos text labels ≡ Ok next
unfolding place_tokens
rest_is pos tokens text placed labels next written labels_are is =
    let whole = sym (labels_split pos tokens placed) ∙ wide_ok (has_wide_label tokens) (place_labelled pos tokens placed) next is in
    let behind = sym (ap (λ r. r >>= place_unlabelled pos (behind_labels tokens)) labels_are) ∙ whole in
    sym (behind_is pos tokens text placed labels labels_are written) ∙ behind

module _ (tables : TablesKeep) (leads : LeadsAreFound) (s : TokenStatement) (later : List TokenStatement) (placed whole : Placed) (text : InsnText) (stands : PlacesStand placed)
    (jump : IsJump (pos_at s.file s.line) s.tokens text placed) where
  abbrev trees : List Tree
  trees = in_text_order jump.labels.syntax text.immediate.tree text.displacement.tree

  abbrev named : Placed
  named = with_names (pos_at s.file s.line) trees jump.labels

  named_stands : PlacesStand named
  named_stands =
      let labels = kept_by placed jump.labels (labelled (pos_at s.file s.line) s.tokens placed) jump.labels_are (labels_walk (pos_at s.file s.line) s.tokens placed stands) in
      (names_gain (pos_at s.file s.line) trees jump.labels labels.stands).stands

  -- no symbol goes behind the statement
  fewer : (next : Placed) → place s placed ≡ Ok next → place_all later next ≡ Ok whole → insn_in placed.syntax s ≡ Some text → count named ≤ count whole
  unfolding place place_insn
  fewer next is later_is written =
      let pos = pos_at s.file s.line in
      let tokens = located_ok s placed.notes (place_tokens pos s.tokens placed) next is in
      let rest = rest_is pos s.tokens text placed jump.labels next written jump.labels_are tokens in
      let naming = naming_of trees jump.labels.table in
      let first = IfOk-at_ok (Closes naming.before named) rest (trees_walk pos (shape_in text) naming text.immediate.tree text.displacement.tree named named_stands).holds in
      let last = kept_by next whole (place_all later next) later_is (statements_walk tables leads later next first.stands) in
      let more = first.more in
      let still = last.more in
      omega (arith, more, still)

  -- the form of its target names symbols that are there, or the next one
  pub target_named : place_all (s ∷ later) placed ≡ Ok whole → insn_in placed.syntax s ≡ Some text → AreUpTo (count whole) jump.forms.displacement.terms
  target_named is written =
      first_placed s later placed whole is (λ next next_is later_is.
      up_to_more (count named) (count whole) jump.forms.displacement.terms (fewer next next_is later_is written)
      (displacement_up named text.immediate.tree text.displacement.tree jump.forms named_stands jump.forms_are))
