-- The section that a statement without labels puts into.
use Rattle.std.specs.Prelude.{ℕ, codes, Option, None, Some}
use Rattle.asm_declarations.specs.Commons.{bss}
use Rattle.asm_frags.specs.SectionOf.{section_number}
use Rattle.asm_values.specs.State.{Placed}
use Rattle.asm_words.specs.declared.directives.Directive.{Directive}
use Rattle.asm_words.specs.declared.directives.Directive.TheVariants as directive
use Rattle.asm_place.specs.declared.bodies.Body.{Body}
use Rattle.asm_place.specs.declared.bodies.Body.TheVariants as body

-- the section that a directive may put into, where it is one that is there before: data, space and alignments go into the current one, the space of
-- symbols into `.bss`, and the text of `.ident` into `.comment`
abbrev pub section_of_directive : Directive → Placed → Option ℕ
section_of_directive (directive.Data size) placed = Some placed.current
section_of_directive (directive.Strings ended) placed = Some placed.current
section_of_directive (directive.Leb128 signed) placed = Some placed.current
section_of_directive directive.Zero placed = Some placed.current
section_of_directive directive.Skip placed = Some placed.current
section_of_directive directive.Fill placed = Some placed.current
section_of_directive (directive.Align by) placed = Some placed.current
section_of_directive directive.Org placed = Some placed.current
section_of_directive directive.Comm placed = Some bss
section_of_directive directive.Lcomm placed = Some bss
section_of_directive directive.Ident placed = section_number (codes ".comment") placed.sections
section_of_directive _ placed = None

-- the section that a statement without labels may put into, by what it is: an instruction goes into the current one
abbrev pub section_put : Body → Placed → Option ℕ
section_put (body.Directed (Some found)) placed = section_of_directive found placed
section_put body.Instruction placed = Some placed.current
section_put _ placed = None
