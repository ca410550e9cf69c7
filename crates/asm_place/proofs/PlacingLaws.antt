-- Placing only adds to sections, and none of its faults is one of reading a file.
use Rattle.std.proofs.Common.{◌≡◌, ℕ, Bool, false, List, [], ◌∷◌, Option, None, Some, Result, Ok, Err, refl}
use Rattle.std.specs.Prelude.{◌&&◌, ◌+◌, not, drop, slice_range}
use Rattle.std.proofs.lemmas.Result.{IfOk-at_ok, IfErr-at_err}
use Rattle.asm_operands.specs.declared.place_faults.PlaceCause.{PlaceCause}
use Rattle.asm_operands.specs.declared.place_faults.PlaceCause.TheVariants.{BadExpression, NumberTooWide, ExpressionTooDeep, DivisionByZero, ValueNotKnown, NotASumOfSymbols, ErrorDirective, UnknownMnemonic, UnknownDirective, BadOperand, NoSuchForm, UnknownOperandSize, OutOfRange, BadSection, SymbolAlreadyDefined, BadSymbolUse, CfiOutsideProcedure, UnbalancedCfiState, UnassignedFileNumber, FileNumberInUse}
use Rattle.asm_base.specs.declared.notes.Noted.{Noted}
use Rattle.asm_base.specs.declared.positions.Pos.{Pos}
use Rattle.asm_base.specs.Tokens.{SpelledToken}
use Rattle.asm_lines.specs.NextStatements.{TokenStatement}
use Rattle.item_contents.specs.declared.kinds.Growth.TheVariants.{Jump}
use Rattle.item_bytes.specs.declared.jumps.Condition.{Condition}
use Rattle.asm_frags.specs.Fields.{width}
use Rattle.asm_symbols.specs.declared.entries.Definition.TheVariants.{Label}
use Rattle.asm_symbols.specs.Defining.{defined}
use Rattle.asm_base.specs.Refusals.{◌>>=◌}
use Rattle.asm_operands.specs.Operands.{is_name, names_symbol, is_dot, is_assignment, begins_with_dot, is_label}
use Rattle.asm_uses.specs.Places.{end_naming}
use Rattle.asm_values.specs.State.{Placed, with_table, with_names, here, known_here, nothing_placed}
use Rattle.asm_place.specs.Placing.{place_body, place_label, place_tokens, place_labelled, has_wide_label}
use Rattle.asm_uses.specs.Labels.{label_symbol}
use Rattle.asm_expr.specs.Trees.{Tree}
use Rattle.x86_encode.specs.Encoding.{encoding_of}
use Rattle.att_operands.specs.declared.faults.OperandCause.{OperandCause}
use Rattle.att_insns.specs.InsnTexts.{InsnText}
use Rattle.asm_place.specs.declared.codes.InsnForms.{InsnForms}
use Rattle.asm_place.specs.declared.codes.CodeField.{CodeField}
use Rattle.amount_forms.specs.Amounts.{in_text_order}
use Rattle.asm_place.specs.Coding.{InsnShape, shape_in, forms_of, values_in, of_operands, of_code, fields_of, put_rest, put_code, keeps_place, put_coded, put_by_jump, put_insn, from_own_place, place_insn, place_read, lone_code, insn_by, place_coded, place_instruction}
use Rattle.asm_place.specs.Sources.{pos_at, located, place, place_all}
use Rattle.asm_place.specs.declared.place_faults.FaultAt.{FaultAt}
use Rattle.asm_place.specs.Faults.{is_file_too_large, is_too_large, statement_fault}
use Rattle.section_laws.specs.Within.{AreWithin, PutsStayWithin}
use Rattle.asm_place.specs.Instructions.{Grows}
use Rattle.asm_place.specs.SourceSizes.{AreFewSections}
use Rattle.asm_place.proofs.GrowthLemmas.{nothing_within, nothing_few}
use Rattle.asm_uses.specs.Tables.{changed_by, naming_of}
use Rattle.asm_place.proofs.Walks.{TablesKeep, made, refused, after, either}
use Rattle.asm_place.proofs.ProcedureSteps.{DirectivesKeep, nothing_fit, Led, Steps, still, grown, stand_in_order}
use Rattle.asm_place.specs.LinePlaces.{LinesFollow}
use Rattle.asm_place.specs.ProcedurePlaces.{StandInOrder}
use Rattle.asm_place.specs.SymbolPlaces.{PlacesStand}
use Rattle.asm_place.proofs.SectionSteps.{bytes_steps, field_steps, growing_steps}
use Rattle.asm_place.proofs.DirectiveSteps.{dot_steps, assignment_steps, directive_steps}

-- instructions
rest_steps : (pos : Pos) (bytes : List ℕ) (placed : Placed) → Steps placed (put_rest pos bytes placed)
rest_steps pos [] placed = made placed (still placed)
rest_steps pos (byte ∷ bytes) placed = bytes_steps pos placed.current (byte ∷ bytes) placed

-- the bytes of an instruction and its fields
put_code_steps : (pos : Pos) (bytes : List ℕ) (from : ℕ) (fields : List CodeField) (placed : Placed) → Steps placed (put_code pos bytes from fields placed)
unfolding put_code
put_code_steps pos bytes from [] placed = rest_steps pos (drop from bytes) placed
put_code_steps pos bytes from (field ∷ fields) placed =
    grown placed (grown placed (rest_steps pos (slice_range bytes from field.at) placed)
    (λ put. field_steps pos put.current field.size field.role field.form put))
    (λ held. put_code_steps pos bytes (field.at + width field.size) fields held)

-- by its encoding
put_coded_steps : (pos : Pos) (shape : InsnShape) (forms : InsnForms) (placed : Placed) → Steps placed (put_coded pos shape forms placed)
unfolding put_coded
put_coded_steps pos shape forms placed =
    after (of_code (encoding_of shape.view (values_in forms))) (λ coding. put_code_steps pos coding.bytes 0 (fields_of shape forms coding) placed)

-- a direct jump is an item that grows
put_by_jump_steps : (jump : Option (Option Condition)) (pos : Pos) (shape : InsnShape) (forms : InsnForms) (placed : Placed)
    → Steps placed (put_by_jump jump pos shape forms placed)
put_by_jump_steps None pos shape forms placed = put_coded_steps pos shape forms placed
put_by_jump_steps (Some condition) pos shape forms placed =
    growing_steps pos placed.current (Jump condition) shape.displacement (from_own_place forms.displacement) placed

-- either
put_insn_steps : (pos : Pos) (shape : InsnShape) (forms : InsnForms) (placed : Placed) → Steps placed (put_insn pos shape forms placed)
unfolding put_insn
put_insn_steps pos shape forms placed = put_by_jump_steps shape.jump pos shape forms placed

-- an instruction by its values
insn_steps : (pos : Pos) (shape : InsnShape) (own moved : Tree) (placed : Placed) → Steps placed (place_insn pos shape own moved placed)
unfolding place_insn
insn_steps pos shape own moved placed =
    let trees = in_text_order placed.syntax own moved in
    let named = with_names pos trees placed in
    after (forms_of (known_here named) own moved)
    (λ forms. grown placed (put_insn_steps pos shape forms named)
    (λ put. after (end_naming pos (naming_of trees placed.table) (here named) (keeps_place (known_here named).place forms) put.table)
    (λ table. made (with_table put table) (still put))))

-- one that was read
read_steps : (pos : Pos) (read : Result InsnText OperandCause) (placed : Placed) → Steps placed (place_read pos read placed)
read_steps pos read placed =
    after (of_operands read) (λ text. insn_steps pos (shape_in text) text.immediate.tree text.displacement.tree placed)

-- one by its mnemonic alone, or any other
coded_steps : (pos : Pos) (code : Option (List ℕ)) (tokens : List SpelledToken) (placed : Placed) → Steps placed (place_coded pos code tokens placed)
coded_steps pos None tokens placed = read_steps pos (insn_by placed.syntax tokens) placed
coded_steps pos (Some bytes) tokens placed = bytes_steps pos placed.current bytes placed

-- and by its tokens
instruction_steps : (pos : Pos) (tokens : List SpelledToken) (placed : Placed) → Steps placed (place_instruction pos tokens placed)
unfolding place_instruction
instruction_steps pos tokens placed = coded_steps pos (lone_code placed.syntax tokens) tokens placed

module _ (tables : TablesKeep) where
  -- statements
  body_steps : (pos : Pos) (first : SpelledToken) (rest : List SpelledToken) (placed : Placed) → Steps placed (place_body pos first rest placed)
  unfolding place_body
  body_steps pos first rest placed =
      either (names_symbol first && is_assignment rest) (assignment_steps pos first (drop 1 rest) placed)
      (either (not (is_name first)) (refused UnknownMnemonic)
      (either (begins_with_dot first.bytes) (directive_steps tables pos first.bytes rest placed) (instruction_steps pos (first ∷ rest) placed)))

  -- a label
  label_steps : (pos : Pos) (token : SpelledToken) (placed : Placed) → Steps placed (place_label pos token placed)
  unfolding place_label
  label_steps pos token placed =
      after (label_symbol pos token placed.table >>= changed_by (λ map index. defined map index (Label (here placed))))
      (λ table. dot_steps (is_dot token) placed (with_table placed table) (still placed))

  -- labels one after the other, and what stands behind them
  labelled_steps : (pos : Pos) (tokens : List SpelledToken) (placed : Placed) → Steps placed (place_labelled pos tokens placed)
  unfolding place_labelled
  labelled_steps pos [] placed = made _ (still placed)
  labelled_steps pos (first ∷ []) placed = body_steps pos first [] placed
  labelled_steps pos (first ∷ second ∷ rest) placed =
      either (is_label first second) (grown placed (label_steps pos first placed) (λ labels. labelled_steps pos rest labels))
      (body_steps pos first (second ∷ rest) placed)

  -- a statement
  tokens_steps : (pos : Pos) (tokens : List SpelledToken) (placed : Placed) → Steps placed (place_tokens pos tokens placed)
  unfolding place_tokens
  tokens_steps pos tokens placed = either (has_wide_label tokens) (refused NumberTooWide) (labelled_steps pos tokens placed)

  -- the same of statements in their places
  located_steps : (s : TokenStatement) (notes : List Noted) (before : Placed) (answer : Result Placed PlaceCause) → Steps before answer → Steps before (located s notes answer)
  located_steps s notes before (Ok more) steps = made more steps.holds
  located_steps s notes before (Err fault) steps = refused _

  -- a statement in its place
  place_steps : (s : TokenStatement) (placed : Placed) → Steps placed (place s placed)
  unfolding place
  place_steps s placed = located_steps s placed.notes placed _ (tokens_steps (pos_at s.file s.line) s.tokens placed)

  -- all of them
  statements_steps : (statements : List TokenStatement) (placed : Placed) → Steps placed (place_all statements placed)
  unfolding place_all
  statements_steps [] placed = made _ (still placed)
  statements_steps (s ∷ later) placed = grown placed (place_steps s placed) (statements_steps later)

  -- placing only adds to sections, and keeps procedures fit
  all_led : (statements : List TokenStatement) (before placed : Placed) → place_all statements before ≡ Ok placed → Led before placed
  all_led statements before placed is = IfOk-at_ok (Led before) is (statements_steps statements before).holds

  -- so each section grows,
  pub all_grow : (statements : List TokenStatement) (before placed : Placed) → place_all statements before ≡ Ok placed → Grows before.sections placed.sections
  all_grow statements before placed is = (all_led statements before placed is).adds.grows

  -- and keeps its fields and items within its bytes
  pub all_within : PutsStayWithin → (statements : List TokenStatement) (before placed : Placed) → place_all statements before ≡ Ok placed → AreWithin before.sections → AreWithin placed.sections
  all_within law statements before placed is = (all_led statements before placed is).adds.within law

  -- few sections with short names stay so
  pub all_few : (statements : List TokenStatement) (no_warn : Bool) (placed : Placed) → place_all statements (nothing_placed no_warn) ≡ Ok placed → AreFewSections placed.sections
  all_few statements no_warn placed is = (all_led statements (nothing_placed no_warn) placed is).adds.few (nothing_few no_warn)

  -- the procedures of all statements stand in order
  pub all_in_order : DirectivesKeep → PutsStayWithin → (statements : List TokenStatement) (no_warn : Bool) (placed : Placed) → place_all statements (nothing_placed no_warn) ≡ Ok placed
      → PlacesStand placed → StandInOrder placed.sections placed.procedures
  all_in_order laws law statements no_warn placed is stands =
      stand_in_order placed.sections placed.procedures stands.procedures
      ((all_led statements (nothing_placed no_warn) placed is).fit laws law (nothing_within no_warn) (nothing_fit (nothing_placed no_warn).sections))

  -- and the line table goes on
  pub all_follow : (statements : List TokenStatement) (before placed : Placed) → place_all statements before ≡ Ok placed → LinesFollow before placed
  all_follow statements before placed is =
      let rows = (all_led statements before placed is).rows in
      record { directives = rows.directives; taken = rows.taken; fit = rows.fit; stand = rows.stand; rise = rows.rise }

-- no fault of placing is that a file is too large
not_of_reading : (tokens : List SpelledToken) (fault : PlaceCause) → is_too_large (statement_fault tokens fault) ≡ false
not_of_reading tokens BadExpression = refl
not_of_reading tokens NumberTooWide = refl
not_of_reading tokens ExpressionTooDeep = refl
not_of_reading tokens DivisionByZero = refl
not_of_reading tokens ValueNotKnown = refl
not_of_reading tokens NotASumOfSymbols = refl
not_of_reading tokens ErrorDirective = refl
not_of_reading tokens UnknownMnemonic = refl
not_of_reading tokens UnknownDirective = refl
not_of_reading tokens BadOperand = refl
not_of_reading tokens NoSuchForm = refl
not_of_reading tokens UnknownOperandSize = refl
not_of_reading tokens OutOfRange = refl
not_of_reading tokens BadSection = refl
not_of_reading tokens SymbolAlreadyDefined = refl
not_of_reading tokens BadSymbolUse = refl
not_of_reading tokens CfiOutsideProcedure = refl
not_of_reading tokens UnbalancedCfiState = refl
not_of_reading tokens UnassignedFileNumber = refl
not_of_reading tokens FileNumberInUse = refl

-- so it is with a fault in its place
located_fault : (s : TokenStatement) (notes : List Noted) (answer : Result Placed PlaceCause) (stop : FaultAt) → located s notes answer ≡ Err stop → is_file_too_large stop.fault ≡ false
located_fault s notes (Ok more) stop is = cc
located_fault s notes (Err fault) stop is = IfErr-at_err (λ (at : FaultAt). is_file_too_large at.fault ≡ false) is (not_of_reading s.tokens fault)

-- and with the first of two steps
first_fault : (r : Result Placed FaultAt) (f : Placed → Result Placed FaultAt) (stop : FaultAt)
    → (r ≡ Err stop → is_file_too_large stop.fault ≡ false) → ((x : Placed) → f x ≡ Err stop → is_file_too_large stop.fault ≡ false)
    → (r >>= f) ≡ Err stop → is_file_too_large stop.fault ≡ false
first_fault (Ok x) f stop first later is = later x is
first_fault (Err fault) f stop first later is = first is

-- no fault of placing says that a file is too large
pub no_fault_of_reading : (statements : List TokenStatement) (before : Placed) (stop : FaultAt) → place_all statements before ≡ Err stop → is_file_too_large stop.fault ≡ false
unfolding place_all place
no_fault_of_reading [] before stop is = cc
no_fault_of_reading (s ∷ later) before stop is =
    first_fault (place s before) (place_all later) stop
    (located_fault s before.notes (place_tokens (pos_at s.file s.line) s.tokens before) stop)
    (λ placed. no_fault_of_reading later placed stop) is
