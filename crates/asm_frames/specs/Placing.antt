-- What the `.cfi_` directives place (GNU as manual, "CFI directives"; DWARF 5, section 6.4).
use Rattle.std.specs.Prelude.{◌&&◌, List, [], ◌∷◌, codes, Result, Ok, Err, if◌then◌else◌}
use Rattle.std.specs.Str.{bytes_eq}
use Rattle.asm_base.specs.declared.positions.Pos.{Pos}
use Rattle.asm_base.specs.Refusals.{◌>>=◌}
use Rattle.asm_base.specs.Tokens.{SpelledToken}
use Rattle.asm_operands.specs.declared.place_faults.PlaceCause.{PlaceCause}
use Rattle.asm_operands.specs.declared.place_faults.PlaceCause.TheVariants as placing
use Rattle.asm_expr.specs.Forms.{Form}
use Rattle.asm_operands.specs.declared.up_to_three.UpToThree.{UpToThree}
use Rattle.asm_operands.specs.Expressions.{up_to_three_listed, up_to_three_forms}
use Rattle.asm_operands.specs.Operands.{operands_of, is_name, each}
use Rattle.asm_operands.specs.Results.{all_steps}
use Rattle.asm_uses.specs.declared.tables.Naming.{Naming}
use Rattle.asm_uses.specs.Places.{end_naming}
use Rattle.asm_uses.specs.Tables.{Table, allowed, naming_of}
use Rattle.asm_values.specs.KnownOperands.{known_operands}
use Rattle.asm_values.specs.State.{Placed, with_names, with_table, here, known_here}
use Rattle.asm_words.specs.declared.directives.FrameDirective.{FrameDirective}
use Rattle.asm_words.specs.declared.directives.FrameDirective.TheVariants as frame
use Rattle.cfi_directives.specs.declared.faults.CfiCause.{CfiCause}
use Rattle.cfi_directives.specs.declared.faults.CfiCause.TheVariants.{OutOfRange, CfiOutsideProcedure, UnbalancedCfiState}
use Rattle.cfi_directives.specs.declared.lines.CfiLine.{CfiLine}
use Rattle.cfi_directives.specs.declared.lines.CfiLine.TheVariants.{StartProc, EndProc, Row, Point}
use Rattle.cfi_directives.specs.declared.frames.Pointer.{Pointer}
use Rattle.cfi_directives.specs.declared.lines.PointerKind.{PointerKind}
use Rattle.cfi_directives.specs.declared.lines.PointerKind.TheVariants.{Personality, Lsda}
use Rattle.cfi_directives.specs.declared.lines.RowDirective.TheVariants as row
use Rattle.cfi_directives.specs.declared.registers.DwarfRegister.{DwarfRegister}
use Rattle.cfi_directives.specs.Procedures.{Procedures}
use Rattle.cfi_directives.specs.Taking.{taken}
use Rattle.asm_frames.specs.declared.words.OffsetWord.{OffsetWord}
use Rattle.asm_frames.specs.declared.words.OffsetWord.TheVariants as offset
use Rattle.asm_frames.specs.declared.words.RuleWord.{RuleWord}
use Rattle.asm_frames.specs.declared.words.RuleWord.TheVariants as rule
use Rattle.asm_frames.specs.declared.words.SlotWord.{SlotWord}
use Rattle.asm_frames.specs.declared.words.SlotWord.TheVariants as slot
use Rattle.asm_frames.specs.Lines.{signed, slot_row, offset_row, rule_row}
use Rattle.asm_frames.specs.Pointers.{pointer_in, pointer_trees, keeps_place}
use Rattle.asm_frames.specs.Operands.{register_in, next_register, one_register, two_registers}

-- the fault of a directive as one of placing
abbrev pub frame_fault : CfiCause → PlaceCause
frame_fault OutOfRange = placing.OutOfRange
frame_fault CfiOutsideProcedure = placing.CfiOutsideProcedure
frame_fault UnbalancedCfiState = placing.UnbalancedCfiState

-- what is placed, with these procedures
abbrev pub with_procedures : Placed → Procedures → Placed
with_procedures placed procedures = record placed { procedures = procedures }

-- what a directive at this place makes of the procedures
abbrev pub taken_here : CfiLine → Placed → Result Procedures CfiCause
taken_here line placed = taken line (here placed).place placed.procedures

-- a fault of the number comes before those of the names of operands, and any other fault after them
abbrev pub refused_by : CfiCause → Result Table PlaceCause → Result Placed PlaceCause
refused_by OutOfRange names = Err placing.OutOfRange
refused_by CfiOutsideProcedure names = names >>= λ table. Err placing.CfiOutsideProcedure
refused_by UnbalancedCfiState names = names >>= λ table. Err placing.UnbalancedCfiState

-- the procedures are taken over where the names of operands are allowed
abbrev pub end_taking : Placed → Result Table PlaceCause → Result Procedures CfiCause → Result Placed PlaceCause
end_taking named names (Ok procedures) = names >>= λ table. Ok (with_procedures (with_table named table) procedures)
end_taking named names (Err cause) = refused_by cause names

-- a directive of these operands
unfoldable pub take_named : Naming → CfiLine → Placed → Result Placed PlaceCause
take_named naming line named = end_taking named (allowed naming named.table) (taken_here line named)

-- a directive without expressions names nothing
abbrev pub taken_over : Placed → Result Procedures CfiCause → Result Placed PlaceCause
taken_over placed (Ok procedures) = Ok (with_procedures placed procedures)
taken_over placed (Err cause) = Err (frame_fault cause)

-- such a directive
unfoldable pub take_line : CfiLine → Placed → Result Placed PlaceCause
take_line line placed = taken_over placed (taken_here line placed)

-- a directive without operands
abbrev pub place_bare : CfiLine → List SpelledToken → Placed → Result Placed PlaceCause
place_bare line [] placed = take_line line placed
place_bare line (token ∷ rest) placed = Err placing.BadOperand

-- `.cfi_sections`: frame tables go into `.eh_frame`, and nowhere else
abbrev pub place_sections : List SpelledToken → Placed → Result Placed PlaceCause
place_sections [] placed = Err placing.BadOperand
place_sections (token ∷ []) placed = if is_name token && bytes_eq token.bytes (codes ".eh_frame") then Ok placed else Err placing.BadOperand
place_sections (token ∷ more ∷ rest) placed = Err placing.BadOperand

-- a directive of an offset
unfoldable pub place_offset : OffsetWord → Pos → List SpelledToken → Placed → Result Placed PlaceCause
place_offset word pos tokens placed =
    known_operands pos placed 1 (operands_of tokens) >>= λ given.
    take_named given.naming (Row (offset_row word (signed given.values.first))) given.placed

-- a directive of a register and an offset
unfoldable pub place_slot : SlotWord → Pos → List SpelledToken → Placed → Result Placed PlaceCause
place_slot word pos tokens placed =
    next_register (known_here placed) (operands_of tokens) >>= λ one. known_operands pos placed 1 one.1 >>= λ given.
    take_named given.naming (Row (slot_row word one.0 (signed given.values.first))) given.placed

-- `.cfi_def_cfa_register`: one register
unfoldable pub place_cfa_register : List SpelledToken → Placed → Result Placed PlaceCause
place_cfa_register tokens placed =
    one_register (known_here placed) (operands_of tokens) >>= λ register. take_line (Row (row.DefCfaRegister register)) placed

-- `.cfi_register`: two registers
unfoldable pub place_register : List SpelledToken → Placed → Result Placed PlaceCause
place_register tokens placed =
    two_registers (known_here placed) (operands_of tokens) >>= λ pair. take_line (Row (row.Register pair.0 pair.1)) placed

-- what a directive says of this register
abbrev pub take_rule : RuleWord → DwarfRegister → Placed → Result Placed PlaceCause
take_rule word register placed = take_line (Row (rule_row word register)) placed

-- the same of a register that is an operand
unfoldable pub place_one : RuleWord → List SpelledToken → Placed → Result Placed PlaceCause
place_one word operand placed = register_in (known_here placed) operand >>= λ register. take_rule word register placed

-- the same of each register, one after the other: all are read before the first is taken
unfoldable pub place_each : RuleWord → List (List SpelledToken) → Placed → Result Placed PlaceCause
place_each word operands placed =
    each (register_in (known_here placed)) operands >>= λ registers. all_steps (take_rule word) registers placed

-- there is at least one
abbrev pub place_some : RuleWord → List (List SpelledToken) → Placed → Result Placed PlaceCause
place_some word [] placed = Err placing.BadOperand
place_some word (operand ∷ operands) placed = place_each word (operand ∷ operands) placed

-- a directive of one or more registers
unfoldable pub place_rules : RuleWord → List SpelledToken → Placed → Result Placed PlaceCause
place_rules word tokens placed = place_some word (operands_of tokens) placed

-- the symbol of the place is kept, and the pointer taken where the names of operands are allowed
abbrev pub end_pointer : PointerKind → Pos → Naming → UpToThree Form → Placed → Result Placed PlaceCause
end_pointer kind pos naming forms named =
    pointer_in forms >>= λ pointer.
    end_naming pos naming (here named) (keeps_place (known_here named).place forms.second) named.table >>= λ table.
    take_line (Point kind pointer) (with_table named table)

-- a directive of a pointer: an encoding, which has to be known, and what the pointer leads to
unfoldable pub place_pointer : PointerKind → Pos → List SpelledToken → Placed → Result Placed PlaceCause
place_pointer kind pos tokens placed =
    pointer_trees (operands_of tokens) >>= λ trees.
    let named = with_names pos (up_to_three_listed trees) placed in
    up_to_three_forms (known_here named) trees >>= λ forms.
    end_pointer kind pos (naming_of (up_to_three_listed trees) placed.table) forms named

-- a `.cfi_` directive
unfoldable pub place_frame : FrameDirective → Pos → List SpelledToken → Placed → Result Placed PlaceCause
place_frame frame.StartProc pos tokens placed = place_bare (StartProc pos) tokens placed
place_frame frame.EndProc pos tokens placed = place_bare EndProc tokens placed
place_frame frame.Sections pos tokens placed = place_sections tokens placed
place_frame frame.DefCfa pos tokens placed = place_slot slot.DefCfa pos tokens placed
place_frame frame.DefCfaRegister pos tokens placed = place_cfa_register tokens placed
place_frame frame.DefCfaOffset pos tokens placed = place_offset offset.DefCfaOffset pos tokens placed
place_frame frame.AdjustCfaOffset pos tokens placed = place_offset offset.AdjustCfaOffset pos tokens placed
place_frame frame.Offset pos tokens placed = place_slot slot.Offset pos tokens placed
place_frame frame.RelOffset pos tokens placed = place_slot slot.RelOffset pos tokens placed
place_frame frame.ValOffset pos tokens placed = place_slot slot.ValOffset pos tokens placed
place_frame frame.Register pos tokens placed = place_register tokens placed
place_frame frame.RememberState pos tokens placed = place_bare (Row row.RememberState) tokens placed
place_frame frame.RestoreState pos tokens placed = place_bare (Row row.RestoreState) tokens placed
place_frame frame.Restore pos tokens placed = place_rules rule.Restore tokens placed
place_frame frame.Undefined pos tokens placed = place_rules rule.Undefined tokens placed
place_frame frame.SameValue pos tokens placed = place_rules rule.SameValue tokens placed
place_frame frame.Personality pos tokens placed = place_pointer Personality pos tokens placed
place_frame frame.Lsda pos tokens placed = place_pointer Lsda pos tokens placed
