-- What is known of symbols and names at a place.
use Rattle.std.specs.Prelude.{ℕ}
use Rattle.asm_expr.specs.declared.trees.Written.{Written}
use Rattle.asm_expr.specs.declared.knowledge.Look.{Look}
use Rattle.asm_expr.specs.declared.knowledge.Look.TheVariants as look
use Rattle.asm_expr.specs.Forms.{Form}

-- a symbol is known as nothing, a constant, a label of a stretch, or an assigned symbol's form
pub data Told : Type 0 where
  absent : Told
  constant : ℕ → Told
  label : (stretch at : ℕ) → Told
  form : Form → Told

-- what a look of the program tells
abbrev pub told_by : Look → Told
told_by look.Absent = absent
told_by (look.Constant number) = constant number
told_by (look.Label stretch at) = label stretch at
told_by (look.Form linear) = form linear.now

-- what is known at a place: of each symbol, which symbol a name means there, and which one is the place itself; two names mean one symbol
-- only where they are one name, and none means the symbol that is the place
pub record Knowledge : Type 0 where
  pub told : ℕ → Told
  pub meant : Written → ℕ
  pub place : ℕ
