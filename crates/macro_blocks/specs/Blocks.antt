-- Blocks, found by counting how deep they nest.
use Rattle.std.specs.Prelude.{ℕ, zero, suc, ◌+◌, ◌-◌, ◌==◌, ◌&&◌, Bool, true, false, List, [], ◌∷◌, ◌++◌, if◌then◌else◌, Option, Some, None}
use Rattle.asm_lines.specs.NextStatements.{TokenStatement}
use Rattle.macro_blocks.specs.declared.blocks.Block.{Block}
use Rattle.macro_blocks.specs.declared.blocks.Block.TheVariants as block
use Rattle.macro_words.specs.declared.words.Word.{Word}
use Rattle.macro_words.specs.declared.words.Word.TheVariants as word
use Rattle.macro_words.specs.Statements.{word_in}
use Rattle.macro_words.specs.Conditions.{Knowledge}
use Rattle.macro_words.specs.Branches.{verdict, is_not_false}

-- the word begins a block of this kind
abbrev pub begins : Block → Word → Bool
begins block.Conditional (word.If condition) = true
begins block.Repeat word.Repeat = true
begins block.Repeat word.EachValue = true
begins block.Repeat word.EachCharacter = true
begins block.Macro word.Macro = true
begins _ _ = false

-- the word ends one
abbrev pub ends : Block → Word → Bool
ends block.Conditional word.EndIf = true
ends block.Repeat word.EndRepeat = true
ends block.Macro word.EndMacro = true
ends _ _ = false

-- a test of the word of a statement, if it has one
abbrev pub of_word : (Word → Bool) → Option Word → Bool
of_word test None = false
of_word test (Some one) = test one

-- a statement of this word ends the block
abbrev pub ends_at : Block → TokenStatement → Bool
ends_at b statement = of_word (ends b) (word_in statement)

-- how many blocks are open behind a statement of this word, before which so many are
abbrev pub depth_by : Block → ℕ → Option Word → ℕ
depth_by b deep one =
    if of_word (begins b) one then deep + 1 else (if of_word (ends b) one then deep - 1 else deep)

-- the same of a statement
unfoldable pub depth_behind : Block → ℕ → TokenStatement → ℕ
depth_behind b deep statement = depth_by b deep (word_in statement)

-- with nothing open inside, a block stops where this test holds
unfoldable pub stops : (TokenStatement → Bool) → ℕ → TokenStatement → Bool
stops stop deep statement = deep == 0 && stop statement

-- what is inside a block, the statement that ends it, and what stands behind that
pub record Cut : Type 0 where
  pub inside : List TokenStatement
  pub stop : TokenStatement
  pub rest : List TokenStatement

-- the same, with a statement more inside
abbrev pub with_first : TokenStatement → Option Cut → Option Cut
with_first statement None = None
with_first statement (Some c) = Some (record { inside = statement ∷ c.inside; stop = c.stop; rest = c.rest })

-- the block whose inside begins here, so many further blocks being open; none where it is not closed
unfoldable pub cut : Block → (TokenStatement → Bool) → ℕ → List TokenStatement → Option Cut
cut b stop deep [] = None
cut b stop deep (statement ∷ rest) =
    if stops stop deep statement then Some (record { inside = []; stop = statement; rest = rest })
    else with_first statement (cut b stop (depth_behind b deep statement) rest)

-- a branch that is not chosen ends at its conditional's end, and where one begins that is chosen or whose condition has a fault
abbrev pub ends_branch : Knowledge → TokenStatement → Bool
ends_branch known statement =
    if of_word (ends block.Conditional) (word_in statement) then true else is_not_false (verdict known statement)

-- a block up to its end
abbrev pub cut_block : Block → List TokenStatement → Option Cut
cut_block b statements = cut b (ends_at b) 0 statements

-- a branch that is not chosen
abbrev pub cut_branch : Knowledge → List TokenStatement → Option Cut
cut_branch known statements = cut block.Conditional (ends_branch known) 0 statements

-- these statements so many times
abbrev pub repeated : ℕ → List TokenStatement → List TokenStatement
repeated zero statements = []
repeated (suc n) statements = statements ++ repeated n statements
