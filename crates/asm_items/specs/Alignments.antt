-- Alignments (GNU as manual, ".p2align", ".align", ".balign").
use Rattle.std.specs.Prelude.{ℕ, ◌==◌, Bool, false, List, bit_and, Result, slice_get}
use Rattle.std.specs.Option.{option_map_or}
use Rattle.asm_base.specs.declared.positions.Pos.{Pos}
use Rattle.asm_base.specs.Refusals.{◌>>=◌}
use Rattle.asm_base.specs.Tokens.{SpelledToken}
use Rattle.asm_frags.specs.Writing.{LooseSection}
use Rattle.asm_operands.specs.declared.place_faults.PlaceCause.{PlaceCause}
use Rattle.asm_operands.specs.declared.up_to_three.UpToThree.{UpToThree}
use Rattle.asm_operands.specs.Operands.{operands_of}
use Rattle.asm_uses.specs.declared.tables.Naming.{Naming}
use Rattle.asm_words.specs.declared.directives.AlignedBy.{AlignedBy}
use Rattle.asm_words.specs.Paddings.{align_of}
use Rattle.asm_values.specs.Data.{with_named}
use Rattle.asm_values.specs.KnownOperands.{known_operands}
use Rattle.asm_values.specs.State.{Placed}

-- the section holds code: it has the flag `SHF_EXECINSTR` (gABI, "Section Attribute Flags")
abbrev pub holds_code : LooseSection → Bool
holds_code section = bit_and section.flags.0 4 == 4

-- the same of the section of this number
unfoldable pub is_code : List LooseSection → ℕ → Bool
is_code sections number = option_map_or holds_code (slice_get sections number) false

-- the alignment of these values in the current section, and then the names of its operands are allowed or refused
abbrev pub put_align : Pos → AlignedBy → Naming → UpToThree ℕ → Placed → Result Placed PlaceCause
put_align pos by naming values placed =
    align_of by (is_code placed.sections placed.current) values >>= λ item. with_named pos naming item placed

-- an alignment: all of its operands have to be known
unfoldable pub place_align : Pos → AlignedBy → List SpelledToken → Placed → Result Placed PlaceCause
place_align pos by tokens placed =
    known_operands pos placed 3 (operands_of tokens) >>= λ given. put_align pos by given.naming given.values given.placed
