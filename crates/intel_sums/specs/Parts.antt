-- The registers in the brackets of memory, and the address that they make (Intel SDM, volume 1, section 3.7.5).
use Rattle.std.specs.Prelude.{ℕ, ◌==◌, ◌||◌, Bool, true, false, List, Option, Some, None, slice_get, if◌then◌else◌}
use Rattle.asm_base.specs.Tokens.{SpelledToken}
use Rattle.x86_insn.specs.declared.registers.Class.{Class}
use Rattle.x86_insn.specs.declared.registers.Class.TheVariants as class
use Rattle.x86_insn.specs.declared.insns.Segment.{Segment}
use Rattle.x86_insn.specs.declared.insns.Base.{Base}
use Rattle.x86_insn.specs.declared.insns.Base.TheVariants as base
use Rattle.x86_insn.specs.declared.insns.Index.TheVariants as index
use Rattle.x86_insn.specs.declared.insns.Address.{Address}
use Rattle.att_operands.specs.declared.registers.NamedRegister.{NamedRegister}
use Rattle.att_operands.specs.declared.registers.NamedRegister.TheVariants as named
use Rattle.att_operands.specs.Marks.{mark_by, mark_at}
use Rattle.att_operands.specs.Addresses.{register_by, base_by, index_by, takes_index, scale_by}
use Rattle.intel_sums.specs.declared.parts.Part.{Part}
use Rattle.intel_sums.specs.declared.parts.Part.TheVariants.{Plain, Scaled}
use Rattle.intel_sums.specs.declared.parts.Parts.{Parts}
use Rattle.intel_sums.specs.declared.parts.Parts.TheVariants.{Nothing, One, Two, More}
use Rattle.intel_sums.specs.declared.parts.FoundPart.{FoundPart}

-- a part of a sum ends: at a `+`, at a `-`, or where nothing stands
unfoldable pub part_ends : Option SpelledToken → Bool
part_ends None = true
part_ends (Some token) = (mark_by (Some token) == 43) || (mark_by (Some token) == 45)

-- a part of so many tokens
abbrev pub found_part : Part → ℕ → FoundPart
found_part part length = record { part = part; length = length }

-- the register with this scale, behind which a part has to end
abbrev pub scaled_part : NamedRegister → Option SpelledToken → Option ℕ → Option FoundPart
scaled_part named behind None = None
scaled_part named behind (Some scale) = if part_ends behind then Some (found_part (Scaled named scale) 3) else None

-- the part that begins with this register: it stands alone, or is taken times a scale
abbrev pub named_part : List SpelledToken → NamedRegister → Option FoundPart
named_part text named =
    if part_ends (slice_get text 1) then Some (found_part (Plain named) 1)
    else (if mark_at text 1 == 42 then scaled_part named (slice_get text 3) (scale_by (slice_get text 2)) else None)

-- the part that begins with a scale, which is taken times this register
abbrev pub times_part : List SpelledToken → Option NamedRegister → Option FoundPart
times_part text None = None
times_part text (Some named) = scaled_part named (slice_get text 3) (scale_by (slice_get text 0))

-- the part in front, whose first token names this
abbrev pub part_by : List SpelledToken → Option NamedRegister → Option FoundPart
part_by text None = if mark_at text 1 == 42 then times_part text (register_by (slice_get text 2)) else None
part_by text (Some named) = named_part text named

-- the register in front of the tokens, or the register and its scale, if they are a part of the sum
unfoldable pub part_in : List SpelledToken → Option FoundPart
part_in text = part_by text (register_by (slice_get text 0))

-- a part more
abbrev pub with_part : Parts → Part → Parts
with_part Nothing part = One part
with_part (One first) part = Two first part
with_part (Two first second) part = More
with_part More part = More

-- a 64-bit register of this number is rsp
abbrev pub is_rsp_of : Class → ℕ → Bool
is_rsp_of class.Quad number = number == 4
is_rsp_of _ number = false

-- rsp
abbrev pub is_rsp : NamedRegister → Bool
is_rsp (named.Plain reg) = is_rsp_of reg.class reg.number
is_rsp named.Rip = false
is_rsp (named.Segment segment) = false

-- the address in this segment with this base and no index
abbrev pub based : Option Segment → Option Base → Option Address
based segment None = None
based segment (Some base) = Some (record { segment = segment; base = base; index = index.Absent })

-- the address with this index and scale
abbrev pub indexed : Option Segment → Base → Option ℕ → ℕ → Option Address
indexed segment base None scale = None
indexed segment base (Some number) scale =
    if takes_index base then Some (record { segment = segment; base = base; index = index.By number scale }) else None

-- the address with this base, and an index and its scale
abbrev pub both_by : Option Segment → Option Base → Option ℕ → ℕ → Option Address
both_by segment None number scale = None
both_by segment (Some base) number scale = indexed segment base number scale

-- the same of the registers that are named
abbrev pub both : Option Segment → NamedRegister → NamedRegister → ℕ → Option Address
both segment base index scale = both_by segment (base_by (Some base)) (index_by (Some index)) scale

-- the address of one part
abbrev pub one_address : Option Segment → Part → Option Address
one_address segment (Plain named) = based segment (base_by (Some named))
one_address segment (Scaled named scale) = indexed segment base.Absent (index_by (Some named)) scale

-- the address of two parts: of two unscaled registers the first is the base, but rsp always is
abbrev pub two_address : Option Segment → Part → Part → Option Address
two_address segment (Plain first) (Plain second) = if is_rsp second then both segment second first 0 else both segment first second 0
two_address segment (Plain first) (Scaled second scale) = both segment first second scale
two_address segment (Scaled first scale) (Plain second) = both segment second first scale
two_address segment (Scaled first scale) (Scaled second other) = None

-- the address that the parts make, if they make one
unfoldable pub address_of : Option Segment → Parts → Option Address
address_of segment Nothing = Some (record { segment = segment; base = base.Absent; index = index.Absent })
address_of segment (One part) = one_address segment part
address_of segment (Two first second) = two_address segment first second
address_of segment More = None
