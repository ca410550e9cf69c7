-- Placing keeps it so that each symbol that has a place stands in its section.
use Rattle.std.proofs.Common.{◌≡◌, ℕ, Bool, List, [], ◌∷◌, Option, None, Some, Result, Ok, Err, refl}
use Rattle.std.specs.Prelude.{◌&&◌, ◌+◌, ◌^◌, ◌≤◌, not, drop, slice_range, codes}
use Rattle.std.proofs.lemmas.Result.{IfOk-at_ok}
use Rattle.asm_operands.specs.declared.place_faults.PlaceCause.{PlaceCause}
use Rattle.asm_operands.specs.declared.place_faults.PlaceCause.TheVariants.{NumberTooWide, UnknownMnemonic}
use Rattle.asm_base.specs.declared.notes.Noted.{Noted}
use Rattle.asm_base.specs.declared.positions.Pos.{Pos}
use Rattle.asm_base.specs.Tokens.{SpelledToken}
use Rattle.asm_lines.specs.NextStatements.{TokenStatement}
use Rattle.asm_frags.specs.SectionOf.{new_section}
use Rattle.item_contents.specs.declared.kinds.Growth.TheVariants.{Jump}
use Rattle.item_bytes.specs.declared.jumps.Condition.{Condition}
use Rattle.asm_frags.specs.Fields.{width}
use Rattle.asm_frags.specs.Sections.{section_flags}
use Rattle.asm_symbols.specs.declared.entries.Definition.TheVariants.{Label}
use Rattle.asm_symbols.specs.Defining.{defined}
use Rattle.asm_operands.specs.Operands.{is_name, names_symbol, is_dot, is_assignment, begins_with_dot, is_label}
use Rattle.asm_uses.specs.Places.{end_naming}
use Rattle.asm_values.specs.State.{Placed, with_table, with_names, here, known_here}
use Rattle.asm_place.specs.Placing.{place_body, place_label, place_tokens, place_labelled, has_wide_label}
use Rattle.asm_expr.specs.Trees.{Tree}
use Rattle.x86_encode.specs.Encoding.{encoding_of}
use Rattle.att_operands.specs.declared.faults.OperandCause.{OperandCause}
use Rattle.att_insns.specs.InsnTexts.{InsnText}
use Rattle.asm_place.specs.declared.codes.InsnForms.{InsnForms}
use Rattle.asm_place.specs.declared.codes.CodeField.{CodeField}
use Rattle.amount_forms.specs.Amounts.{in_text_order}
use Rattle.asm_place.specs.Coding.{InsnShape, shape_in, values_in, of_operands, of_code, fields_of, put_rest, put_code, keeps_place, put_coded, put_by_jump, put_insn, insn_of_trees, from_own_place, place_insn, place_read, lone_code, insn_by, place_coded, place_instruction}
use Rattle.asm_place.specs.CodePlaces.{labelled}
use Rattle.asm_place.specs.Sources.{pos_at, located, place, place_all}
use Rattle.asm_place.proofs.Walks.{TablesKeep, Fine, made, refused, step, after, either}
use Rattle.asm_uses.specs.declared.tables.Naming.{Naming}
use Rattle.asm_uses.specs.Tables.{naming_of}
use Rattle.std.proofs.Common.{zero, suc, ◌<◌, arith}
use Rattle.std.proofs.lemmas.List.Elements.{All-nil}
use Rattle.asm_frags.specs.Sections.{first_sections}
use Rattle.asm_values.specs.State.{nothing_placed}
use Rattle.asm_place.specs.SymbolPlaces.{AreUpTo, HasItems, SymbolStands, ProcedureStands, PlacesStand}
use Rattle.asm_place.proofs.ForwardForms.{LeadsAreFound, forward_none}
use Rattle.asm_place.proofs.OwnFields.{fields_begin}
use Rattle.asm_place.proofs.SymbolLimits.{AreFit, fit_few}
use Rattle.asm_place.proofs.SymbolTables.{onto, label_stand, change_stand, defined_stand}
use Rattle.asm_place.proofs.PlaceSteps.{count, Stays, Closes, Walks, closes_on, closed, walked, unmoved, EntryStands, table_stays, names_gain, spot_stands, table_close, bytes_walk, field_walk, growing_walk}
use Rattle.asm_place.proofs.TargetForms.{forms_up}
use Rattle.asm_place.proofs.DirectivePlaces.{here_stand, dot_walk, assignment_walk, directive_walk}

-- INSTRUCTIONS

-- the bytes behind the last field
rest_walk : (pos : Pos) (bytes : List ℕ) (placed : Placed) → PlacesStand placed → Walks placed (put_rest pos bytes placed)
rest_walk pos [] placed stands = made placed (unmoved placed stands)
rest_walk pos (byte ∷ bytes) placed stands = bytes_walk pos placed.current (byte ∷ bytes) placed stands

-- the bytes of an instruction and its fields
put_code_walk : (pos : Pos) (bytes : List ℕ) (from : ℕ) (fields : List CodeField) (placed : Placed) → PlacesStand placed → Walks placed (put_code pos bytes from fields placed)
unfolding put_code
put_code_walk pos bytes from [] placed stands = rest_walk pos (drop from bytes) placed stands
put_code_walk pos bytes from (field ∷ fields) placed stands =
    walked placed (walked placed (rest_walk pos (slice_range bytes from field.at) placed stands)
    (λ put now. field_walk pos put.current field.size field.role field.form put now))
    (λ held now. put_code_walk pos bytes (field.at + width field.size) fields held now)

-- by its encoding
put_coded_walk : (pos : Pos) (shape : InsnShape) (forms : InsnForms) (placed : Placed) → PlacesStand placed → Walks placed (put_coded pos shape forms placed)
unfolding put_coded
put_coded_walk pos shape forms placed stands =
    after (of_code (encoding_of shape.view (values_in forms))) (λ coding. put_code_walk pos coding.bytes 0 (fields_of shape forms coding) placed stands)

-- a direct jump is an item that grows
by_jump_walk : (jump : Option (Option Condition)) (pos : Pos) (shape : InsnShape) (forms : InsnForms) (placed : Placed) → AreUpTo (count placed) forms.displacement.terms
    → PlacesStand placed → Walks placed (put_by_jump jump pos shape forms placed)
by_jump_walk None pos shape forms placed named stands = put_coded_walk pos shape forms placed stands
by_jump_walk (Some condition) pos shape forms placed named stands =
    growing_walk pos placed.current (Jump condition) shape.displacement (from_own_place forms.displacement) placed
    (λ branch. record { target = forms.displacement; form_is = refl; named = named }) stands

-- either
put_insn_walk : (pos : Pos) (shape : InsnShape) (forms : InsnForms) (placed : Placed) → AreUpTo (count placed) forms.displacement.terms → PlacesStand placed
    → Walks placed (put_insn pos shape forms placed)
unfolding put_insn
put_insn_walk pos shape forms placed named stands = by_jump_walk shape.jump pos shape forms placed named stands

-- once its names have symbols
pub trees_walk : (pos : Pos) (shape : InsnShape) (naming : Naming) (own moved : Tree) (named : Placed) → PlacesStand named
    → Fine (Closes naming.before named) (insn_of_trees pos shape naming own moved named)
trees_walk pos shape naming own moved named stands =
    step (forms_up named own moved stands)
    (λ forms up. step (put_insn_walk pos shape forms named up stands)
    (λ put stays. closes_on naming.before named put _ stays
    (table_close naming.before put (end_naming pos naming (here named) (keeps_place (known_here named).place forms) put.table) stays.stands (here_stand pos naming (keeps_place (known_here named).place forms) named put stands stays))))

-- an instruction by its values
insn_walk : (pos : Pos) (shape : InsnShape) (own moved : Tree) (placed : Placed) → PlacesStand placed → Walks placed (place_insn pos shape own moved placed)
unfolding place_insn
insn_walk pos shape own moved placed stands =
    let trees = in_text_order placed.syntax own moved in
    let named = with_names pos trees placed in
    let names = names_gain pos trees placed stands in
    closed placed named _ names (trees_walk pos shape (naming_of trees placed.table) own moved named names.stands)

-- one that was read
read_walk : (pos : Pos) (read : Result InsnText OperandCause) (placed : Placed) → PlacesStand placed → Walks placed (place_read pos read placed)
read_walk pos read placed stands =
    after (of_operands read) (λ text. insn_walk pos (shape_in text) text.immediate.tree text.displacement.tree placed stands)

-- one by its mnemonic alone, or any other
coded_walk : (pos : Pos) (code : Option (List ℕ)) (tokens : List SpelledToken) (placed : Placed) → PlacesStand placed → Walks placed (place_coded pos code tokens placed)
coded_walk pos None tokens placed stands = read_walk pos (insn_by placed.syntax tokens) placed stands
coded_walk pos (Some bytes) tokens placed stands = bytes_walk pos placed.current bytes placed stands

-- and by its tokens
instruction_walk : (pos : Pos) (tokens : List SpelledToken) (placed : Placed) → PlacesStand placed → Walks placed (place_instruction pos tokens placed)
unfolding place_instruction
instruction_walk pos tokens placed stands = coded_walk pos (lone_code placed.syntax tokens) tokens placed stands

-- STATEMENTS

-- a label
label_walk : (pos : Pos) (token : SpelledToken) (placed : Placed) → PlacesStand placed → Walks placed (place_label pos token placed)
unfolding place_label
label_walk pos token placed stands =
    step (step (label_stand placed.sections pos token placed.table)
    (λ pair kept. onto placed.sections placed.table pair.0 (λ t. t) kept.0
    (change_stand placed.sections (λ map index. defined map index (Label (here placed))) pair
    (defined_stand placed.sections (Label (here placed)) (λ last. spot_stands placed.sections placed.current stands.current) pair.0.symbols pair.1))))
    (λ table kept. dot_walk (is_dot token) placed (with_table placed table) (table_stays placed table kept stands))

-- labels one after the other
pub labels_walk : (pos : Pos) (tokens : List SpelledToken) (placed : Placed) → PlacesStand placed → Walks placed (labelled pos tokens placed)
unfolding labelled
labels_walk pos [] placed stands = made _ (unmoved placed stands)
labels_walk pos (token ∷ []) placed stands = made _ (unmoved placed stands)
labels_walk pos (first ∷ second ∷ rest) placed stands =
    either (is_label first second) (walked placed (label_walk pos first placed stands) (λ labels now. labels_walk pos rest labels now)) (made _ (unmoved placed stands))

-- what a step that is done keeps
pub kept_by : {E : Type 0} (before after : Placed) (answer : Result Placed E) → answer ≡ Ok after → Walks before answer → Stays before after
kept_by before after answer is walk = IfOk-at_ok (Stays before) is walk.holds

-- the first three sections are there
first_there : (no_warn : Bool) (number : ℕ) → number < 3 → HasItems (nothing_placed no_warn).sections number 0
unfolding first_sections
first_there no_warn zero few = record { section = new_section (codes ".text") (section_flags 6) 1 0; there = refl; enough = omega arith }
first_there no_warn (suc zero) few = record { section = new_section (codes ".data") (section_flags 3) 1 0; there = refl; enough = omega arith }
first_there no_warn (suc (suc zero)) few = record { section = new_section (codes ".bss") (section_flags 3) 8 0; there = refl; enough = omega arith }
first_there no_warn (suc (suc (suc number))) few = absurd (omega (arith, few))

-- so it is at the beginning
pub places_begin : (no_warn : Bool) → PlacesStand (nothing_placed no_warn)
places_begin no_warn = record {
  current = first_there no_warn 0 (omega arith);
  previous = first_there no_warn 0 (omega arith);
  stack = All-nil (EntryStands (nothing_placed no_warn).sections);
  first = first_there no_warn;
  symbols = record { each = All-nil (SymbolStands (nothing_placed no_warn).sections 0); forward = forward_none };
  procedures = All-nil (ProcedureStands (nothing_placed no_warn).sections);
  fields = fields_begin 0;
}

module _ (tables : TablesKeep) (leads : LeadsAreFound) where
  body_walk : (pos : Pos) (first : SpelledToken) (rest : List SpelledToken) (placed : Placed) → PlacesStand placed → Walks placed (place_body pos first rest placed)
  unfolding place_body
  body_walk pos first rest placed stands =
      either (names_symbol first && is_assignment rest) (assignment_walk leads pos first (drop 1 rest) placed stands)
      (either (not (is_name first)) (refused UnknownMnemonic)
      (either (begins_with_dot first.bytes) (directive_walk tables leads pos first.bytes rest placed stands) (instruction_walk pos (first ∷ rest) placed stands)))

  -- labels, and what stands behind them
  labelled_walk : (pos : Pos) (tokens : List SpelledToken) (placed : Placed) → PlacesStand placed → Walks placed (place_labelled pos tokens placed)
  unfolding place_labelled
  labelled_walk pos [] placed stands = made _ (unmoved placed stands)
  labelled_walk pos (first ∷ []) placed stands = body_walk pos first [] placed stands
  labelled_walk pos (first ∷ second ∷ rest) placed stands =
      either (is_label first second) (walked placed (label_walk pos first placed stands) (λ labels now. labelled_walk pos rest labels now))
      (body_walk pos first (second ∷ rest) placed stands)

  -- a statement
  tokens_walk : (pos : Pos) (tokens : List SpelledToken) (placed : Placed) → PlacesStand placed → Walks placed (place_tokens pos tokens placed)
  unfolding place_tokens
  tokens_walk pos tokens placed stands = either (has_wide_label tokens) (refused NumberTooWide) (labelled_walk pos tokens placed stands)

  -- in its place
  located_walk : (s : TokenStatement) (notes : List Noted) (before : Placed) (answer : Result Placed PlaceCause) → Walks before answer → Walks before (located s notes answer)
  located_walk s notes before (Ok more) steps = made more steps.holds
  located_walk s notes before (Err fault) steps = refused _

  -- a statement in its place
  place_walk : (s : TokenStatement) (placed : Placed) → PlacesStand placed → Walks placed (place s placed)
  unfolding place
  place_walk s placed stands = located_walk s placed.notes placed _ (tokens_walk (pos_at s.file s.line) s.tokens placed stands)

  -- all of them
  pub statements_walk : (statements : List TokenStatement) (placed : Placed) → PlacesStand placed → Walks placed (place_all statements placed)
  unfolding place_all
  statements_walk [] placed stands = made _ (unmoved placed stands)
  statements_walk (s ∷ later) placed stands = walked placed (place_walk s placed stands) (statements_walk later)

  -- placing keeps it so
  pub places_kept : (statements : List TokenStatement) (before placed : Placed) → place_all statements before ≡ Ok placed → PlacesStand before → PlacesStand placed
  places_kept statements before placed is stands = (kept_by before placed (place_all statements before) is (statements_walk statements before stands)).stands

  -- symbols and files are always within the limits
  pub symbols_fit : (statements : List TokenStatement) (no_warn : Bool) (placed : Placed) → place_all statements (nothing_placed no_warn) ≡ Ok placed → AreFit placed.table.symbols
  symbols_fit statements no_warn placed is =
      (kept_by (nothing_placed no_warn) placed (place_all statements (nothing_placed no_warn)) is (statements_walk statements (nothing_placed no_warn) (places_begin no_warn))).fits
      refl

  -- so there are never more than 2^24 symbols
  pub symbols_few : (statements : List TokenStatement) (no_warn : Bool) (placed : Placed) → place_all statements (nothing_placed no_warn) ≡ Ok placed → count placed ≤ 2 ^ 24
  symbols_few statements no_warn placed is = fit_few placed.table.symbols (symbols_fit statements no_warn placed is)
