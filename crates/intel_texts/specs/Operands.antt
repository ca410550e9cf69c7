-- The texts of operands in Intel syntax (GNU as manual, "AT&T Syntax versus Intel Syntax" and "Memory References").
use Rattle.std.specs.Prelude.{ℕ, ◌^◌, ◌==◌, List, [], ◌∷◌, ◌++◌, Option, Some, None, codes, if◌then◌else◌}
use Rattle.std.specs.Fmt.{decimal}
use Rattle.x86_insn.specs.declared.registers.Class.TheVariants as class
use Rattle.x86_insn.specs.declared.insns.Segment.{Segment}
use Rattle.x86_insn.specs.declared.insns.Segment.TheVariants as segment
use Rattle.x86_insn.specs.declared.insns.Base.{Base}
use Rattle.x86_insn.specs.declared.insns.Base.TheVariants as base
use Rattle.x86_insn.specs.declared.insns.Index.{Index}
use Rattle.x86_insn.specs.declared.insns.Index.TheVariants as index
use Rattle.x86_insn.specs.declared.insns.Address.{Address}
use Rattle.x86_insn.specs.Views.{Seen, absent, register, immediate, memory, target}
use Rattle.att_texts.specs.Pieces.{PrintedPiece, word, mark, blank}
use Rattle.att_texts.specs.Numbers.{is_positive, number_pieces, place_pieces, value_of}
use Rattle.att_texts.specs.AttOperands.{register_text}

-- a word of a size, and PTR
abbrev pub sized_by : List ℕ → List PrintedPiece
sized_by text = word text ∷ blank ∷ word (codes "PTR") ∷ blank ∷ []

-- the words for so many bytes of memory; where these do not count there are none
abbrev pub size_pieces : ℕ → List PrintedPiece
size_pieces bytes =
    if bytes == 1 then sized_by (codes "BYTE")
    else (if bytes == 2 then sized_by (codes "WORD")
    else (if bytes == 4 then sized_by (codes "DWORD")
    else (if bytes == 8 then sized_by (codes "QWORD")
    else (if bytes == 16 then sized_by (codes "XMMWORD") else []))))

-- a segment and its `:`
abbrev pub segment_pieces : Option Segment → List PrintedPiece
segment_pieces None = []
segment_pieces (Some segment.Fs) = word (codes "fs") ∷ mark 58 ∷ []
segment_pieces (Some segment.Gs) = word (codes "gs") ∷ mark 58 ∷ []

-- a 64-bit register
abbrev pub quad_piece : ℕ → PrintedPiece
quad_piece number = word (register_text class.Quad number)

-- an index and its scale
abbrev pub index_pieces : ℕ → ℕ → List PrintedPiece
index_pieces number scale = quad_piece number ∷ mark 42 ∷ word (decimal (2 ^ scale)) ∷ []

-- an index after a base
abbrev pub more_pieces : Index → List PrintedPiece
more_pieces index.Absent = []
more_pieces (index.By number scale) = mark 43 ∷ index_pieces number scale

-- a number that is added to what is before it: none where it is 0
abbrev pub added_pieces : ℕ → List PrintedPiece
added_pieces value =
    if value == 0 then [] else (if is_positive 64 value then mark 43 ∷ number_pieces 64 value else number_pieces 64 value)

-- what the brackets hold: a base, an index with its scale, and what is added to them
abbrev pub sum_pieces : Base → Index → ℕ → List PrintedPiece
sum_pieces base.Absent index.Absent value = number_pieces 64 value
sum_pieces base.Absent (index.By number scale) value = index_pieces number scale ++ added_pieces value
sum_pieces base.Rip i value = word (codes "rip") ∷ mark 43 ∷ place_pieces value
sum_pieces (base.Of number) i value = quad_piece number ∷ (more_pieces i ++ added_pieces value)

-- memory after its size and its segment
abbrev pub bracket_pieces : Address → ℕ → List PrintedPiece
bracket_pieces place value = mark 91 ∷ (sum_pieces place.base place.index value ++ (mark 93 ∷ []))

-- memory of so many bytes
abbrev pub memory_pieces : ℕ → Address → ℕ → List PrintedPiece
memory_pieces bytes place value = size_pieces bytes ++ (segment_pieces place.segment ++ bracket_pieces place value)

-- an operand of an instruction whose immediate has so many bits and whose memory so many bytes
abbrev pub operand_pieces : ℕ → ℕ → Seen → List PrintedPiece
operand_pieces bits bytes absent = []
operand_pieces bits bytes (register reg) = word (register_text reg.class reg.number) ∷ []
operand_pieces bits bytes (immediate value) = number_pieces bits (value_of value)
operand_pieces bits bytes (memory place value) = memory_pieces bytes place (value_of value)
operand_pieces bits bytes (target value) = place_pieces (value_of value)
