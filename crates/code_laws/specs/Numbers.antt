-- Numbers that are known in the instructions of a source.
use Rattle.std.specs.Prelude.{Bool, List, All}
use Rattle.asm_lines.specs.NextStatements.{TokenStatement}
use Rattle.asm_functions.specs.FollowedSource.{nothing_followed}
use Rattle.form_laws.specs.Numbers.{IsSpelled}
use Rattle.code_laws.specs.Functions.{InsnsAreNumbered}

-- where tokens are spelled in bytes, these have 64 bits
abbrev pub NumbersAreKnown : Type 0
NumbersAreKnown = (statements : List TokenStatement) (no_warn asked : Bool)
    → All IsSpelled statements
    → InsnsAreNumbered statements (nothing_followed no_warn asked)
