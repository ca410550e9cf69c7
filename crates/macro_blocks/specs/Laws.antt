-- What holds of every search for the end of a block.
use Rattle.std.specs.Prelude.{◌≡◌, ℕ, Bool, true, List, ◌++◌, None}
use Rattle.asm_lines.specs.NextStatements.{TokenStatement}
use Rattle.macro_blocks.specs.declared.blocks.Block.{Block}
use Rattle.macro_blocks.specs.Blocks.{ends_at, cut, repeated}

-- a search stops at the end of its block
abbrev pub StopsAtEnds : Block → (TokenStatement → Bool) → Type 0
StopsAtEnds b stop = (s : TokenStatement) → ends_at b s ≡ true → stop s ≡ true

-- a search that does not end in one copy's length of statements, from a place in a copy on, ends in no further copy
abbrev pub StaysOpen : Block → (TokenStatement → Bool) → List TokenStatement → List TokenStatement → ℕ → Type 0
StaysOpen b stop front back copies =
    cut b stop 0 (back ++ front) ≡ None → cut b stop 0 (back ++ repeated copies (front ++ back)) ≡ None
