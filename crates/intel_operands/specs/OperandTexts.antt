-- The operand that tokens are, read from the left: what it is as a text and how many bits of memory it says, or its fault.
use Rattle.std.specs.Prelude.{◌≡◌, ℕ, ◌+◌, ◌-◌, ◌==◌, ◌&&◌, ◌||◌, not, nat_lt, Bool, true, List, [], ◌∷◌, take, drop, length, Option, Some, None, Result, Ok, Err, slice_get, is_some, if◌then◌else◌}
use Rattle.std.specs.List.{list_any, prefix_len}
use Rattle.asm_base.specs.Tokens.{SpelledToken}
use Rattle.x86_insn.specs.declared.registers.Reg.{Reg}
use Rattle.x86_insn.specs.declared.insns.Segment.{Segment}
use Rattle.x86_insn.specs.declared.insns.Base.TheVariants as base
use Rattle.x86_insn.specs.declared.insns.Index.TheVariants as index
use Rattle.x86_insn.specs.declared.insns.Address.{Address}
use Rattle.att_operands.specs.declared.faults.OperandCause.{OperandCause}
use Rattle.att_operands.specs.declared.faults.OperandCause.TheVariants.{BadOperand}
use Rattle.att_operands.specs.declared.registers.NamedRegister.{NamedRegister}
use Rattle.att_operands.specs.declared.registers.NamedRegister.TheVariants as named
use Rattle.att_operands.specs.Marks.{mark_by, mark_at}
use Rattle.att_operands.specs.Addresses.{register_by}
use Rattle.att_operands.specs.Values.{ValueText, ReadText, value_at}
use Rattle.att_operands.specs.OperandTexts.{OperandText, register, immediate, memory, target, no_displacement, IsOperandOf}
use Rattle.att_operands.specs.Spells.{in_segment}
use Rattle.intel_sums.specs.Parts.{address_of}
use Rattle.intel_sums.specs.Sums.{SumSoFar, no_sum, sum_of, is_whole, is_register, but_last}
use Rattle.intel_operands.specs.declared.operands.SizedOperand.{SizedOperand}
use Rattle.intel_operands.specs.declared.operands.FoundOperand.{FoundOperand}
use Rattle.intel_operands.specs.Words.{bits_in, offset_words}
use Rattle.intel_operands.specs.Symbols.{has_symbol, names_place}

-- an operand as its text, and how many bits of memory it says, or 0
pub record SizedText : Type 0 where
  pub operand : OperandText
  pub bits : ℕ

-- an operand that says no size
abbrev pub unsized : OperandText → SizedText
unsized operand = record { operand = operand; bits = 0 }

-- an operand in memory that says so many bits
abbrev pub in_memory : ℕ → Address → ValueText → SizedText
in_memory bits address held = record { operand = memory address held; bits = bits }

-- THE VALUE OF AN OPERAND

-- a value that is the whole text
abbrev pub ending : List SpelledToken → Result ReadText OperandCause → Result ValueText OperandCause
ending text (Ok found) = if found.next == length text then Ok found.text else Err BadOperand
ending text (Err fault) = Err fault

-- the value that is the whole text
unfoldable pub value_of : List SpelledToken → Result ValueText OperandCause
value_of text = ending text (value_at text 0)

-- one of the tokens names a register
unfoldable pub has_register : List SpelledToken → Bool
has_register text = list_any is_register text

-- WHAT STANDS ROUND IT

-- An operand without the value that it shows, and the text of this.
pub data Outline : Type 0 where
  -- a register
  lone : Reg → Outline
  -- an immediate behind `OFFSET`
  held : List SpelledToken → Outline
  -- a value that stands alone
  bare : List SpelledToken → Outline
  -- memory of so many bits at an address, without a displacement
  stands : ℕ → Address → Outline
  -- the same with a displacement
  moved : ℕ → Address → List SpelledToken → Outline

-- the first token, if it is the only one
abbrev pub only : List SpelledToken → Option SpelledToken
only [] = None
only (token ∷ []) = Some token
only (first ∷ second ∷ rest) = None

-- the register that was named
abbrev pub register_in : Option NamedRegister → Option Reg
register_in None = None
register_in (Some (named.Plain reg)) = Some reg
register_in (Some named.Rip) = None
register_in (Some (named.Segment segment)) = None

-- the segment that was named
abbrev pub segment_in : Option NamedRegister → Option Segment
segment_in None = None
segment_in (Some (named.Plain reg)) = None
segment_in (Some named.Rip) = None
segment_in (Some (named.Segment segment)) = Some segment

-- the register that the text is
unfoldable pub lone_register : List SpelledToken → Option Reg
lone_register text = register_in (register_by (only text))

-- the segment in front, behind which a `:` stands
unfoldable pub segment_of : List SpelledToken → Option Segment
segment_of text = if mark_at text 1 == 58 then segment_in (register_by (slice_get text 0)) else None

-- a `[` stands in the text
unfoldable pub has_bracket : List SpelledToken → Bool
has_bracket text = list_any (λ token. mark_by (Some token) == 91) text

-- the text closes by `]`
unfoldable pub closes_bracket : List SpelledToken → Bool
closes_bracket text = mark_at text (length text - 1) == 93

-- the text is memory in the brackets of an indirect branch, as `[SIZE PTR ..]`
abbrev pub is_nested : List SpelledToken → Bool
is_nested text = (mark_at text 0 == 91) && nat_lt 0 (bits_in (drop 1 text))

-- the text says that it is memory: by a size, a segment or a bracket
abbrev pub is_memory : List SpelledToken → Bool
is_memory text = nat_lt 0 (bits_in text) || (is_some (segment_of text) || has_bracket text)

-- the text that is left of a sum, which a `+` may lead that stands for the bracket
abbrev pub unled : List SpelledToken → List SpelledToken
unled [] = []
unled (token ∷ rest) = if mark_by (Some token) == 43 then rest else token ∷ rest

-- the text of the displacement, of what is left of a sum that begins so
abbrev pub displacement_in : ℕ → List SpelledToken → List SpelledToken
displacement_in mark text = if mark == 91 then unled text else text

-- memory at this address, with what is left of a sum that begins with this mark
abbrev pub summed_at : ℕ → ℕ → Address → List SpelledToken → Outline
summed_at bits mark address [] = stands bits address
summed_at bits mark address (token ∷ rest) = moved bits address (displacement_in mark (token ∷ rest))

-- memory at the address of a sum, if it has one
abbrev pub summed_by : ℕ → ℕ → List SpelledToken → Option Address → Option Outline
summed_by bits mark text None = None
summed_by bits mark text (Some address) = Some (summed_at bits mark address text)

-- memory as a sum that was read, which begins with this mark
abbrev pub summed : ℕ → ℕ → Option Segment → Result SumSoFar OperandCause → Option Outline
summed bits mark segment (Err fault) = None
summed bits mark segment (Ok sum) = if is_whole sum then summed_by bits mark sum.text (address_of segment sum.parts) else None

-- memory in brackets
unfoldable pub bracketed : ℕ → Option Segment → List SpelledToken → Option Outline
bracketed bits segment text =
    if closes_bracket text then summed bits (mark_at text 0) segment (sum_of (Ok no_sum) (but_last text)) else None

-- a value without brackets may be memory: in a segment any, elsewhere a symbol to which numbers may be added
abbrev pub is_placed : Option Segment → List SpelledToken → Bool
is_placed None text = names_place text
is_placed (Some segment) text = true

-- memory behind its size and its segment
abbrev pub placed : ℕ → Option Segment → List SpelledToken → Option Outline
placed bits segment text =
    if has_bracket text then bracketed bits segment text
    else (if has_register text then None
    else (if is_placed segment text then Some (moved bits (in_segment segment base.Absent index.Absent) text) else None))

-- memory behind its size, in a segment if it is written
abbrev pub segmented : ℕ → List SpelledToken → Option Segment → Option Outline
segmented bits text None = placed bits None text
segmented bits text (Some segment) = placed bits (Some segment) (drop 2 text)

-- memory, with a size if it is written
unfoldable pub sized : List SpelledToken → Option Outline
sized text = if nat_lt 0 (bits_in text) then segmented (bits_in text) (drop 2 text) (segment_of (drop 2 text)) else segmented 0 text (segment_of text)

-- memory, which further brackets may stand round
abbrev pub memory_of : List SpelledToken → Option Outline
memory_of text = if is_nested text then (if closes_bracket text then sized (drop 1 (but_last text)) else None) else sized text

-- a value without a mark
abbrev pub bare_of : List SpelledToken → Option Outline
bare_of text = if has_register text then None else Some (bare text)

-- a value behind words that say that it is an address
abbrev pub held_of : List SpelledToken → Option Outline
held_of text = if has_register text then None else Some (held text)

-- an operand that is no register
abbrev pub other_of : List SpelledToken → Option Outline
other_of text =
    if nat_lt 0 (offset_words text) then held_of (drop (offset_words text) text)
    else (if is_memory text then memory_of text else bare_of text)

-- an operand that is a register, or another
abbrev pub outline_by : List SpelledToken → Option Reg → Option Outline
outline_by text None = other_of text
outline_by text (Some reg) = Some (lone reg)

-- what stands round the value of the operand that the text is
unfoldable pub outline_of : List SpelledToken → Option Outline
outline_of text = outline_by text (lone_register text)

-- THE OPERAND

-- an immediate
abbrev pub as_immediate : Result ValueText OperandCause → Result SizedText OperandCause
as_immediate (Ok text) = Ok (unsized (immediate text))
as_immediate (Err fault) = Err fault

-- memory of so many bits at an address, with this displacement
abbrev pub as_memory : ℕ → Address → Result ValueText OperandCause → Result SizedText OperandCause
as_memory bits address (Ok text) = Ok (in_memory bits address text)
as_memory bits address (Err fault) = Err fault

-- the operand of a value that stands alone: the target of a branch; else memory, if it is a symbol to which numbers may be added, and an immediate, if no symbol
-- stands in it
abbrev pub bare_operand : Bool → Bool → Bool → ValueText → Result SizedText OperandCause
bare_operand branch place symbol text =
    if branch then Ok (unsized (target text))
    else (if place then Ok (in_memory 0 (in_segment None base.Absent index.Absent) text)
    else (if symbol then Err BadOperand else Ok (unsized (immediate text))))

-- the same of a value that was read
abbrev pub as_bare : Bool → Bool → Bool → Result ValueText OperandCause → Result SizedText OperandCause
as_bare branch place symbol (Ok text) = bare_operand branch place symbol text
as_bare branch place symbol (Err fault) = Err fault

-- the operand with its value, of a branch or of another instruction
abbrev pub with_value : Bool → Outline → Result SizedText OperandCause
with_value branch (lone reg) = Ok (unsized (register reg))
with_value branch (held text) = as_immediate (value_of text)
with_value branch (bare text) = as_bare branch (names_place text) (has_symbol text) (value_of text)
with_value branch (stands bits address) = Ok (in_memory bits address no_displacement)
with_value branch (moved bits address text) = as_memory bits address (value_of text)

-- the operand by what stands round its value
abbrev pub outlined : Bool → Option Outline → Result SizedText OperandCause
outlined branch None = Err BadOperand
outlined branch (Some outline) = with_value branch outline

-- the operand that the text is, of a branch or of another instruction; where nothing stands, it is none
unfoldable pub operand_of : Bool → List SpelledToken → Result SizedText OperandCause
operand_of branch [] = Err BadOperand
operand_of branch (token ∷ rest) = outlined branch (outline_of (token ∷ rest))

-- AMONG OTHER TOKENS

-- the token is no comma
unfoldable pub is_no_comma : SpelledToken → Bool
is_no_comma token = not (mark_by (Some token) == 44)

-- how many tokens stand before the first comma
abbrev pub up_to_comma : List SpelledToken → ℕ
up_to_comma tokens = prefix_len is_no_comma tokens

-- an operand that was read, how many bits of memory it says, and the place behind it
pub record ReadPart : Type 0 where
  pub sized : SizedText
  pub next : ℕ

-- an operand that was read, and the place behind it
abbrev pub part : ℕ → SizedText → ReadPart
part next sized = record { sized = sized; next = next }

-- the operand that ends at this place
abbrev pub ended : ℕ → Result SizedText OperandCause → Result ReadPart OperandCause
ended next (Ok sized) = Ok (part next sized)
ended next (Err fault) = Err fault

-- the operand from this place up to a comma or the end
unfoldable pub operand_at : Bool → List SpelledToken → ℕ → Result ReadPart OperandCause
operand_at branch tokens at =
    ended (at + up_to_comma (drop at tokens)) (operand_of branch (take (up_to_comma (drop at tokens)) (drop at tokens)))

-- the operand has this text
pub record IsSized (found : SizedOperand) (due : SizedText) : Type 0 where
  pub operand : IsOperandOf found.operand due.operand
  pub bits : found.bits ≡ due.bits

-- the operand has the text that was read, and ends where that ends
pub record IsPartRead (found : FoundOperand) (due : ReadPart) : Type 0 where
  pub operand : IsOperandOf found.operand due.sized.operand
  pub bits : found.bits ≡ due.sized.bits
  pub next : found.next ≡ due.next
