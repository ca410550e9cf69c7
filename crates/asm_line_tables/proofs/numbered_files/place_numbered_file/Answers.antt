-- What is placed by the number alone is what the directive places.
use Rattle.std.proofs.Common.{map, subst}
use Rattle.asm_base.specs.Refusals.{Gives}
use Rattle.asm_base.specs.Tokens.{spelled}
use Rattle.asm_values.specs.PlacedBy.{placed_by}
use Rattle.asm_line_tables.proofs.ConstantFileLemmas.{file_so}
use Rattle.asm_line_tables.proofs.numbered_files.place_numbered_file.Goals as goal

pub returns-in-Some-clause-placed : goal.returns-in-Some-clause-placed
returns-in-Some-clause-placed c =
    subst (Gives (placed_by c.place_file_number.new.assembler) c.place_file_number.result)
    (file_so c.args.pos (map spelled c.args.tokens.now) _ c.in-Some.found.value (placed_by c.args.assembler.now) c.in-Some.ensures.number)
    c.place_file_number.ensures.placed
