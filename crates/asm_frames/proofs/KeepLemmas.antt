-- What a `.cfi_` directive changes: the procedures, and of the symbols what naming its expressions does.
use Rattle.std.proofs.Common.{◌≡◌, ℕ, Bool, true, false, cond, List, [], ◌∷◌, map, Option, Result, Ok, Err, refl, ap, ◌∙◌, length, arith}
use Rattle.std.specs.Prelude.{◌&&◌, ◌||◌, nat_le, codes}
use Rattle.std.specs.Result.{IfOk}
use Rattle.std.proofs.lemmas.Bool.{le-leb}
use Rattle.std.specs.Str.{bytes_eq}
use Rattle.asm_base.specs.declared.positions.Pos.{Pos}
use Rattle.asm_base.specs.Refusals.{◌>>=◌}
use Rattle.asm_base.specs.Tokens.{SpelledToken}
use Rattle.asm_expr.specs.Forms.{Form}
use Rattle.asm_expr.specs.Trees.{Tree}
use Rattle.asm_operands.specs.declared.place_faults.PlaceCause.{PlaceCause}
use Rattle.asm_operands.specs.declared.place_faults.PlaceCause.TheVariants.{BadOperand, BadSymbolUse}
use Rattle.asm_operands.specs.declared.up_to_three.UpToThree.{UpToThree}
use Rattle.asm_operands.specs.Expressions.{up_to_three_listed, up_to_three_trees, up_to_three_forms, up_to_three_constants}
use Rattle.asm_operands.specs.Operands.{operands_of, is_name, each}
use Rattle.asm_operands.specs.Results.{all_steps}
use Rattle.asm_symbols.specs.Interning.{is_within_limits}
use Rattle.asm_uses.specs.declared.tables.Naming.{Naming}
use Rattle.asm_symbols.specs.declared.entries.Spot.{Spot}
use Rattle.asm_uses.specs.Places.{name_here, end_naming}
use Rattle.asm_uses.specs.Tables.{Table, with_trees, are_meant, naming_of, allowed}
use Rattle.asm_values.specs.KnownOperands.{KnownOperands, known_operands}
use Rattle.asm_values.specs.State.{Placed, with_names, with_table, here, known_here}
use Rattle.asm_words.specs.declared.directives.FrameDirective.{FrameDirective}
use Rattle.asm_words.specs.declared.directives.FrameDirective.TheVariants as frame
use Rattle.cfi_directives.specs.declared.faults.CfiCause.{CfiCause}
use Rattle.cfi_directives.specs.declared.faults.CfiCause.TheVariants.{OutOfRange, CfiOutsideProcedure, UnbalancedCfiState}
use Rattle.cfi_directives.specs.declared.lines.CfiLine.{CfiLine}
use Rattle.cfi_directives.specs.declared.lines.CfiLine.TheVariants.{StartProc, EndProc, Row, Point}
use Rattle.cfi_directives.specs.declared.frames.Pointer.{Pointer}
use Rattle.cfi_directives.specs.declared.lines.PointerKind.{PointerKind}
use Rattle.cfi_directives.specs.declared.lines.PointerKind.TheVariants.{Personality, Lsda}
use Rattle.cfi_directives.specs.declared.lines.RowDirective.TheVariants as row
use Rattle.cfi_directives.specs.declared.registers.DwarfRegister.{DwarfRegister}
use Rattle.cfi_directives.specs.Procedures.{Procedures}
use Rattle.cfi_directives.specs.Taking.{taken, taken_from}
use Rattle.asm_frames.specs.declared.words.OffsetWord.{OffsetWord}
use Rattle.asm_frames.specs.declared.words.OffsetWord.TheVariants as offset
use Rattle.asm_frames.specs.declared.words.RuleWord.{RuleWord}
use Rattle.asm_frames.specs.declared.words.RuleWord.TheVariants as rule
use Rattle.asm_frames.specs.declared.words.SlotWord.{SlotWord}
use Rattle.asm_frames.specs.declared.words.SlotWord.TheVariants as slot
use Rattle.asm_frames.specs.Keeping.{line_here, OnlyNames}
use Rattle.asm_frames.specs.Lines.{signed, slot_row, offset_row, rule_row}
use Rattle.asm_frames.specs.Operands.{register_in, next_register, one_register, two_registers}
use Rattle.asm_frames.specs.Placing.{with_procedures, taken_here, refused_by, end_taking, take_named, taken_over, take_line, take_rule, place_bare, place_sections, place_offset, place_slot, place_cfa_register, place_register, place_each, place_some, place_rules, place_pointer, place_frame}
use Rattle.asm_frames.specs.Pointers.{pointer_in, pointer_trees, keeps_place}

-- what holds of all that a step makes
record Leaves {A E : Type 0} (P : A → Type 0) (result : Result A E) : Type 0 where
  pub holds : IfOk result P

made : {A E : Type 0} {P : A → Type 0} (x : A) → P x → Leaves {E = E} P (Ok x)
made x is = record { holds = is }

refused : {A E : Type 0} {P : A → Type 0} (fault : E) → Leaves {A = A} P (Err fault)
refused fault = record { holds = tt }

-- a step after another
after : {A B E : Type 0} {Q : B → Type 0} (r : Result A E) {f : A → Result B E} → ((x : A) → Leaves Q (f x)) → Leaves Q (r >>= f)
after (Ok x) later = later x
after (Err fault) later = refused fault

-- where no name comes the table is allowed as it is
nothing_named : (table : Table) → allowed (naming_of [] table) table ≡ Ok table
unfolding allowed are_meant
nothing_named table =
    ap (λ few. cond (few || is_within_limits table.symbols) (Ok table) (Err BadSymbolUse))
    (le-leb (length table.symbols.symbols) (length table.symbols.symbols) (omega arith))

-- names that are allowed, where no form keeps the place
end_allowed : (pos : Pos) (naming : Naming) (spot : Spot) (table next : Table) → allowed naming table ≡ Ok next → end_naming pos naming spot false table ≡ Ok next
unfolding name_here
end_allowed pos naming spot table next is = ap (λ (names : Result Table PlaceCause). names >>= name_here pos spot false) is

-- a directive that is taken in front of others
taken_more : (placed : Placed) (line : CfiLine) (lines : List CfiLine) (procedures next last : Procedures) → taken line (here placed).place procedures ≡ Ok next
    → taken_from next (map (line_here placed) lines) ≡ Ok last → taken_from procedures (map (line_here placed) (line ∷ lines)) ≡ Ok last
taken_more placed line lines procedures next last is later =
    ap (λ (taken : Result Procedures CfiCause). taken >>= λ next. taken_from next (map (line_here placed) lines)) is ∙ later

-- what a motive needs to hold of what is placed
module _ (P : Placed → Type 0) (pos : Pos) (placed : Placed)
    (holds : (trees : List Tree) (lines : List CfiLine) (procedures : Procedures) (keeps : Bool) (table : Table)
    → taken_from placed.procedures (map (line_here placed) lines) ≡ Ok procedures
    → (let named = with_names pos trees placed in end_naming pos (naming_of trees placed.table) (here named) keeps named.table ≡ Ok table)
    → P (with_procedures (with_table (with_names pos trees placed) table) procedures)) where
  -- a directive without expressions
  unnamed : (lines : List CfiLine) (procedures : Procedures) → taken_from placed.procedures (map (line_here placed) lines) ≡ Ok procedures → P (with_procedures placed procedures)
  unfolding with_trees
  unnamed lines procedures is =
      holds [] lines procedures false placed.table is (end_allowed pos (naming_of [] placed.table) (here placed) placed.table placed.table (nothing_named placed.table))

  line_keeps : (line : CfiLine) → Leaves P (take_line line placed)
  unfolding take_line
  line_keeps line = by (taken_here line placed) refl
    where
      by : (made : Result Procedures CfiCause) → taken_here line placed ≡ made → Leaves P (taken_over placed made)
      by (Ok procedures) is = made _ (unnamed (line ∷ []) procedures (taken_more placed line [] placed.procedures procedures procedures is refl))
      by (Err cause) is = refused _

  bare_keeps : (line : CfiLine) (tokens : List SpelledToken) → Leaves P (place_bare line tokens placed)
  bare_keeps line [] = line_keeps line
  bare_keeps line (token ∷ rest) = refused _

  sections_keep : (tokens : List SpelledToken) → Leaves P (place_sections tokens placed)
  sections_keep [] = refused _
  sections_keep (token ∷ []) = by (is_name token && bytes_eq token.bytes (codes ".eh_frame"))
    where
      by : (test : Bool) → Leaves P (cond test (Ok placed) (Err BadOperand))
      by true = made _ (unnamed [] placed.procedures refl)
      by false = refused _
  sections_keep (token ∷ more ∷ rest) = refused _

  -- a directive with expressions
  named_keeps : (trees : List Tree) (line : CfiLine) → Leaves P (take_named (naming_of trees placed.table) line (with_names pos trees placed))
  unfolding take_named
  named_keeps trees line = by (taken_here line named) refl (allowed naming named.table) refl
    where
      named : Placed
      named = with_names pos trees placed

      naming : Naming
      naming = naming_of trees placed.table

      named_refused : (cause : CfiCause) (names : Result Table PlaceCause) → Leaves P (refused_by cause names)
      named_refused OutOfRange names = refused _
      named_refused CfiOutsideProcedure names = after names (λ table. refused _)
      named_refused UnbalancedCfiState names = after names (λ table. refused _)

      by : (made : Result Procedures CfiCause) → taken_here line named ≡ made → (names : Result Table PlaceCause) → allowed naming named.table ≡ names
          → Leaves P (end_taking named names made)
      by (Ok procedures) took (Ok table) is =
          made _ (holds trees (line ∷ []) procedures false table (taken_more placed line [] placed.procedures procedures procedures took refl)
          (end_allowed pos naming (here named) named.table table is))
      by (Ok procedures) took (Err fault) is = refused _
      by (Err cause) took names is = named_refused cause names

  known_keeps : (operands : List (List SpelledToken)) (line : ℕ → CfiLine)
      → Leaves P (known_operands pos placed 1 operands >>= λ given. take_named given.naming (line given.values.first) given.placed)
  unfolding known_operands
  known_keeps operands line = by (up_to_three_trees 1 operands)
    where
      named : UpToThree Tree → Placed
      named trees = with_names pos (up_to_three_listed trees) placed

      given_by : UpToThree Tree → UpToThree ℕ → KnownOperands
      given_by trees values = record { naming = naming_of (up_to_three_listed trees) placed.table; placed = named trees; values = values }

      take : KnownOperands → Result Placed PlaceCause
      take given = take_named given.naming (line given.values.first) given.placed

      by_values : (trees : UpToThree Tree) (r : Result (UpToThree ℕ) PlaceCause) → Leaves P ((r >>= λ values. Ok (given_by trees values)) >>= take)
      by_values trees (Ok values) = named_keeps (up_to_three_listed trees) (line values.first)
      by_values trees (Err fault) = refused _

      by_forms : (trees : UpToThree Tree) (r : Result (UpToThree Form) PlaceCause)
          → Leaves P ((r >>= λ forms. up_to_three_constants forms >>= λ values. Ok (given_by trees values)) >>= take)
      by_forms trees (Ok forms) = by_values trees (up_to_three_constants forms)
      by_forms trees (Err fault) = refused _

      by : (r : Result (UpToThree Tree) PlaceCause)
          → Leaves P ((r >>= λ trees. up_to_three_forms (known_here (named trees)) trees >>= λ forms. up_to_three_constants forms >>= λ values. Ok (given_by trees values)) >>= take)
      by (Ok trees) = by_forms trees (up_to_three_forms (known_here (named trees)) trees)
      by (Err fault) = refused _

  -- a pointer is taken behind the names of its expressions
  point_keeps : (trees : List Tree) (line : CfiLine) (keeps : Bool) (table : Table)
      → (let named = with_names pos trees placed in end_naming pos (naming_of trees placed.table) (here named) keeps named.table ≡ Ok table)
      → Leaves P (take_line line (with_table (with_names pos trees placed) table))
  unfolding take_line
  point_keeps trees line keeps table is = by (taken_here line (with_table (with_names pos trees placed) table)) refl
    where
      named : Placed
      named = with_table (with_names pos trees placed) table

      by : (made : Result Procedures CfiCause) → taken_here line named ≡ made → Leaves P (taken_over named made)
      by (Ok procedures) took = made _ (holds trees (line ∷ []) procedures keeps table (taken_more placed line [] placed.procedures procedures procedures took refl) is)
      by (Err cause) took = refused _

  ended_keeps : (kind : PointerKind) (trees : List Tree) (pointer : Option Pointer) (keeps : Bool) (names : Result Table PlaceCause)
      → (let named = with_names pos trees placed in end_naming pos (naming_of trees placed.table) (here named) keeps named.table ≡ names)
      → Leaves P (names >>= λ table. take_line (Point kind pointer) (with_table (with_names pos trees placed) table))
  ended_keeps kind trees pointer keeps (Ok table) is = point_keeps trees (Point kind pointer) keeps table is
  ended_keeps kind trees pointer keeps (Err fault) is = refused _

  -- a directive of a pointer
  pointer_keeps : (kind : PointerKind) (tokens : List SpelledToken) → Leaves P (place_pointer kind pos tokens placed)
  unfolding place_pointer
  pointer_keeps kind tokens =
      after (pointer_trees (operands_of tokens))
      (λ trees. after (up_to_three_forms (known_here (with_names pos (up_to_three_listed trees) placed)) trees)
      (λ forms. after (pointer_in forms)
      (λ pointer. ended_keeps kind (up_to_three_listed trees) pointer
      (keeps_place (known_here (with_names pos (up_to_three_listed trees) placed)).place forms.second) _ refl)))

  offset_keeps : (word : OffsetWord) (tokens : List SpelledToken) → Leaves P (place_offset word pos tokens placed)
  unfolding place_offset
  offset_keeps word tokens = known_keeps (operands_of tokens) (λ value. Row (offset_row word (signed value)))

  slot_keeps : (word : SlotWord) (tokens : List SpelledToken) → Leaves P (place_slot word pos tokens placed)
  unfolding place_slot
  slot_keeps word tokens = after (next_register (known_here placed) (operands_of tokens)) (λ one. known_keeps one.1 (λ value. Row (slot_row word one.0 (signed value))))

  cfa_register_keeps : (tokens : List SpelledToken) → Leaves P (place_cfa_register tokens placed)
  unfolding place_cfa_register
  cfa_register_keeps tokens = after (one_register (known_here placed) (operands_of tokens)) (λ register. line_keeps (Row (row.DefCfaRegister register)))

  register_keeps : (tokens : List SpelledToken) → Leaves P (place_register tokens placed)
  unfolding place_register
  register_keeps tokens = after (two_registers (known_here placed) (operands_of tokens)) (λ pair. line_keeps (Row (row.Register pair.0 pair.1)))

  rules_taken : (word : RuleWord) (registers : List DwarfRegister) (procedures : Procedures)
      → ((lines : List CfiLine) (last : Procedures) → taken_from procedures (map (line_here placed) lines) ≡ Ok last → P (with_procedures placed last))
      → Leaves P (all_steps (take_rule word) registers (with_procedures placed procedures))
  unfolding all_steps take_line
  rules_taken word [] procedures keeps = made _ (keeps [] procedures refl)
  rules_taken word (register ∷ registers) procedures keeps =
      by (taken_here line (with_procedures placed procedures)) refl (rules_taken word registers)
    where
      line : CfiLine
      line = Row (rule_row word register)

      by : (made : Result Procedures CfiCause) → taken_here line (with_procedures placed procedures) ≡ made
          → ((next : Procedures)
          → ((lines : List CfiLine) (last : Procedures) → taken_from next (map (line_here placed) lines) ≡ Ok last → P (with_procedures placed last))
          → Leaves P (all_steps (take_rule word) registers (with_procedures placed next)))
          → Leaves P (taken_over (with_procedures placed procedures) made >>= all_steps (take_rule word) registers)
      by (Ok next) is later = later next (λ lines last more. keeps (line ∷ lines) last (taken_more placed line lines procedures next last is more))
      by (Err cause) is later = refused _

  some_keep : (word : RuleWord) (operands : List (List SpelledToken)) → Leaves P (place_some word operands placed)
  unfolding place_each
  some_keep word [] = refused _
  some_keep word (operand ∷ operands) =
      after (each (register_in (known_here placed)) (operand ∷ operands)) (λ registers. rules_taken word registers placed.procedures unnamed)

  rules_keep : (word : RuleWord) (tokens : List SpelledToken) → Leaves P (place_rules word tokens placed)
  unfolding place_rules
  rules_keep word tokens = some_keep word (operands_of tokens)

  by_word : (directive : FrameDirective) (tokens : List SpelledToken) → Leaves P (place_frame directive pos tokens placed)
  unfolding place_frame
  by_word frame.StartProc tokens = bare_keeps (StartProc pos) tokens
  by_word frame.EndProc tokens = bare_keeps EndProc tokens
  by_word frame.Sections tokens = sections_keep tokens
  by_word frame.DefCfa tokens = slot_keeps slot.DefCfa tokens
  by_word frame.DefCfaRegister tokens = cfa_register_keeps tokens
  by_word frame.DefCfaOffset tokens = offset_keeps offset.DefCfaOffset tokens
  by_word frame.AdjustCfaOffset tokens = offset_keeps offset.AdjustCfaOffset tokens
  by_word frame.Offset tokens = slot_keeps slot.Offset tokens
  by_word frame.RelOffset tokens = slot_keeps slot.RelOffset tokens
  by_word frame.ValOffset tokens = slot_keeps slot.ValOffset tokens
  by_word frame.Register tokens = register_keeps tokens
  by_word frame.RememberState tokens = bare_keeps (Row row.RememberState) tokens
  by_word frame.RestoreState tokens = bare_keeps (Row row.RestoreState) tokens
  by_word frame.Restore tokens = rules_keep rule.Restore tokens
  by_word frame.Undefined tokens = rules_keep rule.Undefined tokens
  by_word frame.SameValue tokens = rules_keep rule.SameValue tokens
  by_word frame.Personality tokens = pointer_keeps Personality tokens
  by_word frame.Lsda tokens = pointer_keeps Lsda tokens

  -- what holds of all that a directive may leave holds of what it places
  pub frame_keeps : (directive : FrameDirective) (tokens : List SpelledToken) → IfOk (place_frame directive pos tokens placed) P
  frame_keeps directive tokens = (by_word directive tokens).holds

-- a directive names expressions and changes procedures, and nothing else
pub only_names : (directive : FrameDirective) (pos : Pos) (tokens : List SpelledToken) (placed : Placed)
    → IfOk (place_frame directive pos tokens placed) (OnlyNames pos placed)
only_names directive pos tokens placed =
    frame_keeps (OnlyNames pos placed) pos placed
    (λ trees lines procedures keeps table taken names. record {
      trees = trees;
      lines = lines;
      procedures = procedures;
      keeps = keeps;
      table = table;
      names = names;
      taken = taken;
      is = refl;
    })
    directive tokens
