-- Directives and what they mean, worked out by hand (GNU as manual, "CFI directives"; DWARF 5, section 6.4).
use Rattle.std.specs.Prelude.{◌≡◌, ℕ, ◌+◌, ◌-◌, ℤ, pos, neg_ℤ, ◌^◌, List, [], ◌∷◌, map, replicate, Option, Some, None, Ok, Err}
use Rattle.std.proofs.Common.{lit<}
use Rattle.asm_base.specs.declared.positions.Pos.{Pos}
use Rattle.cfi_rows.specs.Rows.{common_row, with_cfa, with_rule}
use Rattle.cfi_entries.specs.Written.{written}
use Rattle.cfi_rows.specs.declared.rows.CfaRow.{CfaRow}
use Rattle.cfi_rows.specs.declared.rows.CfiOp.{CfiOp}
use Rattle.cfi_rows.specs.declared.rows.CfiOp.TheVariants as op
use Rattle.cfi_rows.specs.declared.rows.Rule.TheVariants as rule
use Rattle.cfi_directives.specs.declared.faults.CfiCause.{CfiCause}
use Rattle.cfi_directives.specs.declared.faults.CfiCause.TheVariants.{OutOfRange, CfiOutsideProcedure, UnbalancedCfiState}
use Rattle.cfi_directives.specs.declared.frames.Frame.{Frame}
use Rattle.cfi_directives.specs.declared.frames.PlacedOp.{PlacedOp}
use Rattle.cfi_directives.specs.declared.lines.CfiLine.{CfiLine}
use Rattle.cfi_directives.specs.declared.lines.CfiLine.TheVariants.{StartProc, EndProc, Row, Point}
use Rattle.cfi_directives.specs.declared.lines.PointerKind.TheVariants.{Personality, Lsda}
use Rattle.cfi_directives.specs.declared.frames.Pointer.{Pointer}
use Rattle.cfi_rows.specs.declared.pointers.PointerEncoding.TheVariants.{Relative4, Indirect4}
use Rattle.asm_expr.specs.Forms.{symbol_form}
use Rattle.cfi_directives.specs.declared.lines.RowDirective.{RowDirective}
use Rattle.cfi_directives.specs.declared.lines.RowDirective.TheVariants.{DefCfa, DefCfaRegister, DefCfaOffset, AdjustCfaOffset, Offset, RelOffset, ValOffset, Register, RememberState, RestoreState, Restore, Undefined, SameValue}
use Rattle.asm_base.specs.declared.places.Place.{Place}
use Rattle.asm_base.specs.declared.places.SectionPlace.{SectionPlace}
use Rattle.cfi_directives.specs.declared.registers.DwarfRegister.{DwarfRegister}
use Rattle.cfi_directives.specs.Meant.{row_meant}
use Rattle.cfi_directives.specs.Procedures.{with_pointer}
use Rattle.cfi_directives.specs.Taking.{PlacedLine, procedures_of}

-- rbx
abbrev pub rbx : DwarfRegister
rbx = record { number = 3; within = lit< tt }

-- rbp
abbrev pub rbp : DwarfRegister
rbp = record { number = 6; within = lit< tt }

-- rsp
abbrev pub rsp : DwarfRegister
rsp = record { number = 7; within = lit< tt }

-- a number below 0
abbrev pub minus : ℕ → ℤ
minus number = neg_ℤ (pos number)

-- so many plain bytes into a section
abbrev pub at_byte : ℕ → Place
at_byte offset = record { item = 1; offset = offset }

-- that place in the first section
abbrev pub in_text : ℕ → SectionPlace
in_text offset = record { section = 0; place = at_byte offset }

-- all procedures begin at one line of the source
abbrev pub at_line : Pos
at_line = record { file = 0; line = 1 }

-- a procedure begins there
abbrev pub start : ℕ → PlacedLine
start offset = record { line = StartProc at_line; at = in_text offset }

-- a procedure ends there
abbrev pub stop : ℕ → PlacedLine
stop offset = record { line = EndProc; at = in_text offset }

-- a directive there
abbrev pub row : ℕ → RowDirective → PlacedLine
row offset directive = record { line = Row directive; at = in_text offset }

-- a directive at its beginning
abbrev pub line : CfiLine → PlacedLine
line what = record { line = what; at = in_text 0 }

-- a pointer to the first symbol, from its own place
abbrev pub near : Pointer
near = record { encoding = Relative4; target = symbol_form 0 }

-- one to where a pointer to the second symbol stands
abbrev pub indirect : Pointer
indirect = record { encoding = Indirect4; target = symbol_form 1 }

-- a line in another section
abbrev pub line_elsewhere : CfiLine → PlacedLine
line_elsewhere line = record { line = line; at = record { section = 1; place = at_byte 0 } }

-- a directive of a procedure in another section
abbrev pub elsewhere : RowDirective → PlacedLine
elsewhere directive = line_elsewhere (Row directive)

-- an instruction so many bytes into the section
abbrev pub placed : ℕ → CfiOp → PlacedOp
placed offset op = record { place = at_byte offset; op = op }

-- a procedure from a place, and up to one, if it has ended
abbrev pub frame : ℕ → Option ℕ → List PlacedOp → Frame
frame from None ops = record { pos = at_line; section = 0; start = at_byte from; stop = None; personality = None; lsda = None; ops = ops }
frame from (Some to) ops = record { pos = at_line; section = 0; start = at_byte from; stop = Some (at_byte to); personality = None; lsda = None; ops = ops }

-- a procedure without instructions in another section
abbrev pub frame_elsewhere : Frame
frame_elsewhere = record { pos = at_line; section = 1; start = at_byte 0; stop = Some (at_byte 0); personality = None; lsda = None; ops = [] }

-- the lines make these procedures, the last of which is open or not
abbrev pub Make : List PlacedLine → List Frame → Option Frame → Type 0
Make lines closed begun = procedures_of lines ≡ Ok (record { closed = closed; begun = begun })

-- in a procedure the directives say these instructions, all at its beginning
abbrev pub Say : List RowDirective → List CfiOp → Type 0
Say directives ops = Make (start 0 ∷ map (row 0) directives) [] (Some (frame 0 None (map (placed 0) ops)))

-- the last of the lines is refused
abbrev pub Refuse : List PlacedLine → CfiCause → Type 0
Refuse lines cause = procedures_of lines ≡ Err cause

-- a function with a frame pointer, as a compiler writes it
abbrev pub framed : List PlacedLine
framed =
    start 0 ∷ row 1 (DefCfaOffset (pos 16)) ∷ row 1 (Offset rbp (minus 16)) ∷ row 4 (DefCfaRegister rbp) ∷ row 5 (DefCfa rsp (pos 8)) ∷ stop 6 ∷ []

-- its instructions
abbrev pub framed_ops : List PlacedOp
framed_ops =
    placed 1 (op.DefCfaOffset (pos 16)) ∷ placed 1 (op.Set 6 (rule.Offset (minus 16))) ∷ placed 4 (op.DefCfaRegister 6) ∷ placed 5 (op.DefCfa 7 (pos 8)) ∷ []

-- the row with the CFA at rsp + 16, and rbp at -16
abbrev pub pushed : CfaRow
pushed = with_rule (with_cfa common_row 7 (pos 16)) 6 (rule.Offset (minus 16))

-- an instruction 16 bytes further on
abbrev pub further : PlacedOp → PlacedOp
further op = record op { place = at_byte (16 + op.place.offset) }

-- the row of that function so far from its beginning, where it begins 16 bytes into a section that stands at 4096
abbrev pub framed_row : ℕ → Option CfaRow
framed_row at = row_meant (λ at. 4096 + at.place.offset) (frame 16 (Some 22) (map further framed_ops)) at

-- what these directives mean
pub record WorkedDirectives : Type 0 where
  pub whole : Make framed (frame 0 (Some 6) framed_ops ∷ []) None
  pub rows : map framed_row (0 ∷ 1 ∷ 3 ∷ 4 ∷ 5 ∷ 6 ∷ [])
      ≡ Some common_row ∷ Some pushed ∷ Some pushed ∷ Some (with_cfa pushed 6 (pos 16)) ∷ Some (with_cfa pushed 7 (pos 8)) ∷ None ∷ []
  pub two : Make (start 0 ∷ stop 3 ∷ start 16 ∷ stop 16 ∷ []) (frame 0 (Some 3) [] ∷ frame 16 (Some 16) [] ∷ []) None
  pub in_two_sections : Make (start 0 ∷ stop 3 ∷ line_elsewhere (StartProc at_line) ∷ line_elsewhere EndProc ∷ [])
      (frame 0 (Some 3) [] ∷ frame_elsewhere ∷ []) None
  pub slot : Say (Offset rbx (minus 24) ∷ []) (op.Set 3 (rule.Offset (minus 24)) ∷ [])
  pub slot_bytes : written (op.Set 3 (rule.Offset (minus 24))) ≡ Some (0x83 ∷ 0x03 ∷ [])
  pub no_slot : Refuse (start 0 ∷ row 0 (Offset rbx (minus 20)) ∷ []) OutOfRange
  pub no_slot_outside : Refuse (row 0 (Offset rbx (minus 20)) ∷ []) OutOfRange
  pub no_slot_elsewhere : Refuse (start 0 ∷ elsewhere (Offset rbx (minus 20)) ∷ []) OutOfRange
  pub no_value : Refuse (start 0 ∷ row 0 (ValOffset rbx (pos 4)) ∷ []) OutOfRange
  pub plain : Say (DefCfaOffset (pos 12) ∷ []) (op.DefCfaOffset (pos 12) ∷ [])
  pub below : Say (DefCfa rsp (minus 16) ∷ []) (op.DefCfa 7 (minus 16) ∷ [])
  pub below_odd : Refuse (start 0 ∷ row 0 (DefCfa rsp (minus 12)) ∷ []) OutOfRange
  pub relative : Say (DefCfaOffset (pos 16) ∷ RelOffset rbp (pos 0) ∷ []) (op.DefCfaOffset (pos 16) ∷ op.Set 6 (rule.Offset (minus 16)) ∷ [])
  pub relative_at_first : Say (RelOffset rbp (pos 0) ∷ []) (op.Set 6 (rule.Offset (minus 8)) ∷ [])
  pub relative_far : Refuse (start 0 ∷ row 0 (RelOffset rbp (minus (2 ^ 63))) ∷ []) OutOfRange
  pub relative_outside : Refuse (row 0 (RelOffset rbp (pos 0)) ∷ []) CfiOutsideProcedure
  pub adjusted : Say (DefCfaOffset (pos 16) ∷ AdjustCfaOffset (pos 8) ∷ []) (op.DefCfaOffset (pos 16) ∷ op.DefCfaOffset (pos 24) ∷ [])
  pub adjusted_far : Refuse (start 0 ∷ row 0 (AdjustCfaOffset (pos (2 ^ 63 - 8))) ∷ []) OutOfRange
  pub adjusted_outside : Refuse (row 0 (AdjustCfaOffset (pos 8)) ∷ []) CfiOutsideProcedure
  pub restored : Say (RememberState ∷ DefCfaOffset (pos 32) ∷ RestoreState ∷ AdjustCfaOffset (pos 8) ∷ [])
      (op.Remember ∷ op.DefCfaOffset (pos 32) ∷ op.RestoreState ∷ op.DefCfaOffset (pos 16) ∷ [])
  pub rules : Say (Restore rbx ∷ Undefined rbp ∷ SameValue rsp ∷ Register rbx rbp ∷ ValOffset rbp (minus 8) ∷ [])
      (op.Restore 3 ∷ op.Set 6 rule.Undefined ∷ op.Set 7 rule.SameValue ∷ op.Set 3 (rule.Register 6) ∷ op.Set 6 (rule.ValueOffset (minus 8)) ∷ [])
  pub pointed : Make (start 0 ∷ line (Point Personality (Some indirect)) ∷ line (Point Lsda (Some near)) ∷ stop 1 ∷ [])
      (with_pointer Lsda (Some near) (with_pointer Personality (Some indirect) (frame 0 (Some 1) [])) ∷ []) None
  pub pointed_again : Make (start 0 ∷ line (Point Lsda (Some near)) ∷ line (Point Lsda (Some indirect)) ∷ [])
      [] (Some (with_pointer Lsda (Some indirect) (frame 0 None [])))
  pub unpointed : Make (start 0 ∷ line (Point Lsda (Some near)) ∷ line (Point Lsda None) ∷ []) [] (Some (frame 0 None []))
  pub pointed_elsewhere : Refuse (start 0 ∷ line_elsewhere (Point Lsda None) ∷ []) UnbalancedCfiState
  pub pointed_outside : Refuse (line (Point Personality (Some near)) ∷ []) CfiOutsideProcedure
  pub many : Refuse (start 0 ∷ replicate 17 (row 0 RememberState)) UnbalancedCfiState
  pub unremembered : Refuse (start 0 ∷ row 0 RestoreState ∷ []) UnbalancedCfiState
  pub within : Refuse (start 0 ∷ start 0 ∷ []) UnbalancedCfiState
  pub within_elsewhere : Refuse (start 0 ∷ line_elsewhere (StartProc at_line) ∷ []) UnbalancedCfiState
  pub stop_elsewhere : Refuse (start 0 ∷ line_elsewhere EndProc ∷ []) UnbalancedCfiState
  pub other_section : Refuse (start 0 ∷ elsewhere (DefCfaOffset (pos 16)) ∷ []) UnbalancedCfiState
  pub row_outside : Refuse (row 0 (DefCfaOffset (pos 16)) ∷ []) CfiOutsideProcedure
  pub stop_outside : Refuse (stop 0 ∷ []) CfiOutsideProcedure
  pub stop_twice : Refuse (start 0 ∷ stop 0 ∷ stop 0 ∷ []) CfiOutsideProcedure
