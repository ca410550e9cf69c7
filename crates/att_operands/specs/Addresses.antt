-- The address of a memory operand, as it is written: `(base)`, `(base,index)`, `(base,index,scale)`, `(,index)`, `(,index,scale)` or `(,1)`.
use Rattle.std.specs.Prelude.{ℕ, ◌+◌, ◌==◌, Bool, true, false, List, Option, Some, None, Result, Ok, Err, slice_get, if◌then◌else◌}
use Rattle.asm_base.specs.Tokens.{SpelledToken}
use Rattle.asm_base.specs.declared.tokens.TokenKind.{TokenKind}
use Rattle.asm_base.specs.declared.tokens.TokenKind.TheVariants.{Digits}
use Rattle.asm_expr.specs.declared.faults.ExprCause.{ExprCause}
use Rattle.expr_texts.specs.Numbers.{spelled_number}
use Rattle.x86_insn.specs.declared.registers.Class.{Class}
use Rattle.x86_insn.specs.declared.registers.Class.TheVariants.{Quad}
use Rattle.x86_insn.specs.declared.insns.Base.{Base}
use Rattle.x86_insn.specs.declared.insns.Base.TheVariants as base
use Rattle.x86_insn.specs.declared.insns.Index.{Index}
use Rattle.x86_insn.specs.declared.insns.Index.TheVariants as index
use Rattle.att_operands.specs.declared.registers.NamedRegister.{NamedRegister}
use Rattle.att_operands.specs.declared.registers.NamedRegister.TheVariants.{Plain, Rip, Segment}
use Rattle.att_operands.specs.declared.addresses.ReadAddress.{ReadAddress}
use Rattle.att_operands.specs.Registers.{register_of}
use Rattle.att_operands.specs.Marks.{mark_at}

-- what the token names as a register
abbrev pub register_by : Option SpelledToken → Option NamedRegister
register_by None = None
register_by (Some token) = register_of token.bytes

-- the register behind a `%` at this place
abbrev pub register_at : List SpelledToken → ℕ → Option NamedRegister
register_at tokens at = if mark_at tokens at == 37 then register_by (slice_get tokens (at + 1)) else None

-- a 64-bit register may be a base
abbrev pub base_of : Class → ℕ → Option Base
base_of Quad number = Some (base.Of number)
base_of _ number = None

-- the base that was named: a 64-bit register, or rip
abbrev pub base_by : Option NamedRegister → Option Base
base_by None = None
base_by (Some (Plain reg)) = base_of reg.class reg.number
base_by (Some Rip) = Some base.Rip
base_by (Some (Segment segment)) = None

-- a 64-bit register other than rsp may be an index
abbrev pub index_of : Class → ℕ → Option ℕ
index_of Quad number = if number == 4 then None else Some number
index_of _ number = None

-- the register that was named as an index
abbrev pub index_by : Option NamedRegister → Option ℕ
index_by None = None
index_by (Some (Plain reg)) = index_of reg.class reg.number
index_by (Some Rip) = None
index_by (Some (Segment segment)) = None

-- rip stands without an index
abbrev pub takes_index : Base → Bool
takes_index base.Absent = true
takes_index base.Rip = false
takes_index (base.Of number) = true

-- the binary logarithm of a scale
abbrev pub scale_of : ℕ → Option ℕ
scale_of number = if number == 1 then Some 0 else (if number == 2 then Some 1 else (if number == 4 then Some 2 else (if number == 8 then Some 3 else None)))

-- the same of what digits spell
abbrev pub scale_in : Result ℕ ExprCause → Option ℕ
scale_in (Ok number) = scale_of number
scale_in (Err fault) = None

-- the same of a token, which has to be digits
abbrev pub scale_kind : TokenKind → List ℕ → Option ℕ
scale_kind Digits bytes = scale_in (spelled_number bytes)
scale_kind _ bytes = None

-- the scale that a token writes, by its logarithm
unfoldable pub scale_by : Option SpelledToken → Option ℕ
scale_by None = None
scale_by (Some token) = scale_kind token.kind token.bytes

-- an address that was read, and the place behind it
abbrev pub read_address : Base → Index → ℕ → ReadAddress
read_address base index next = record { base = base; index = index; next = next }

-- an address that has to close at this place
abbrev pub closed_at : List SpelledToken → Base → Index → ℕ → Option ReadAddress
closed_at tokens base index at = if mark_at tokens at == 41 then Some (read_address base index (at + 1)) else None

-- the address of a base, an index and a scale
abbrev pub scaled_by : List SpelledToken → Base → ℕ → Option ℕ → ℕ → Option ReadAddress
scaled_by tokens base number None at = None
scaled_by tokens base number (Some scale) at = closed_at tokens base (index.By number scale) at

-- the address of a base and an index, and a scale if it is written
abbrev pub indexed_by : List SpelledToken → Base → Option ℕ → ℕ → Option ReadAddress
indexed_by tokens base None at = None
indexed_by tokens base (Some number) at =
    if mark_at tokens at == 44 then scaled_by tokens base number (scale_by (slice_get tokens (at + 1))) (at + 2)
    else closed_at tokens base (index.By number 0) at

-- the address of a base, with the index at this place
unfoldable pub index_at : List SpelledToken → Base → ℕ → Option ReadAddress
index_at tokens base at = indexed_by tokens base (index_by (register_at tokens at)) (at + 2)

-- the address of a base, and of an index if it is written
abbrev pub based_by : List SpelledToken → Option Base → ℕ → Option ReadAddress
based_by tokens None at = None
based_by tokens (Some base) at =
    if mark_at tokens at == 44 then (if takes_index base then index_at tokens base (at + 1) else None)
    else closed_at tokens base index.Absent at

-- the address of no base and no index, behind a scale, which has to be 1
abbrev pub lone_by : List SpelledToken → Option ℕ → ℕ → Option ReadAddress
lone_by tokens None at = None
lone_by tokens (Some scale) at = if scale == 0 then closed_at tokens base.Absent index.Absent at else None

-- the address without a base, behind its comma: an index, or the scale 1 alone
abbrev pub unbased_at : List SpelledToken → ℕ → Option ReadAddress
unbased_at tokens at =
    if mark_at tokens at == 37 then index_at tokens base.Absent at else lone_by tokens (scale_by (slice_get tokens at)) (at + 1)

-- the address behind the `(` before this place
unfoldable pub address_at : List SpelledToken → ℕ → Option ReadAddress
address_at tokens at =
    if mark_at tokens at == 44 then unbased_at tokens (at + 1)
    else based_by tokens (base_by (register_at tokens at)) (at + 2)
