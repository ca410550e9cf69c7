-- The linear form of an expression, and whether its value is known.
use Rattle.std.specs.Prelude.{ℕ, List, [], ◌∷◌, Result, Ok, Err}
use Rattle.asm_expr.specs.declared.faults.ExprCause.{ExprCause}
use Rattle.asm_expr.specs.declared.faults.ExprCause.TheVariants.{NotASumOfSymbols, ValueNotKnown}
use Rattle.asm_expr.specs.declared.forms.Term.{Term}
use Rattle.asm_expr.specs.declared.trees.UnaryOp.{UnaryOp}
use Rattle.asm_expr.specs.declared.trees.UnaryOp.TheVariants.{Minus, Complement}
use Rattle.asm_expr.specs.declared.trees.BinaryOp.{BinaryOp}
use Rattle.asm_expr.specs.declared.trees.BinaryOp.TheVariants.{Add, Sub}
use Rattle.asm_expr.specs.Trees.{Tree, number, name, here, unary, binary}
use Rattle.asm_expr.specs.Forms.{Form, constant_form, symbol_form, sum_of, difference_of}
use Rattle.asm_expr.specs.Knowledge.{Told, absent, constant, label, form, Knowledge}
use Rattle.asm_expr.specs.Settled.{settled}
use Rattle.asm_expr.specs.Arithmetic.{complement, combined}
use Rattle.asm_base.specs.Refusals.{◌>>=◌}

-- what a symbol stands for: itself once, unless it is a constant or an assigned one, whose form's symbols are looked at for labels alone
abbrev pub form_by : (ℕ → Told) → ℕ → Told → Form
form_by told own absent = symbol_form own
form_by told own (constant n) = constant_form n
form_by told own (label stretch at) = symbol_form own
form_by told own (form made) = settled told made

-- what a symbol stands for at a place
abbrev pub form_of : (ℕ → Told) → ℕ → Form
form_of told own = form_by told own (told own)

-- the constant of a form that has no symbols
abbrev pub constant_or : ExprCause → List Term → ℕ → Result ℕ ExprCause
constant_or fault [] n = Ok n
constant_or fault (term ∷ terms) n = Err fault

-- the constant of a form, where an operator wants one
abbrev pub constant_of : Form → Result ℕ ExprCause
constant_of made = constant_or NotASumOfSymbols made.terms made.constant

-- minus is taken of any form, and the complement of a constant alone
unfoldable pub unary_form : (ℕ → Told) → UnaryOp → Form → Result Form ExprCause
unary_form told Minus made = Ok (settled told (difference_of (constant_form 0) made))
unary_form told Complement made = constant_of made >>= λ n. Ok (constant_form (complement n))

-- an operator between constants: the first fault counts
abbrev pub constant_binary : BinaryOp → Form → Form → Result Form ExprCause
constant_binary op one other = constant_of one >>= (λ a. constant_of other >>= (λ b. combined op a b >>= (λ n. Ok (constant_form n))))

-- sums and differences are made of any forms, and all else of constants alone
unfoldable pub binary_form : (ℕ → Told) → BinaryOp → Form → Form → Result Form ExprCause
binary_form told Add one other = Ok (settled told (sum_of one other))
binary_form told Sub one other = Ok (settled told (difference_of one other))
binary_form told op one other = constant_binary op one other

-- the linear form of an expression, or the first fault: operands come from left to right, then the operator
unfoldable pub linear : Knowledge → Tree → Result Form ExprCause
linear known (number value) = Ok (constant_form value)
linear known (name written) = Ok (form_of known.told (known.meant written))
linear known here = Ok (form_of known.told known.place)
linear known (unary op operand) = linear known operand >>= unary_form known.told op
linear known (binary op left right) = linear known left >>= (λ one. linear known right >>= (λ other. binary_form known.told op one other))

-- the value of a form, which is known where it has no symbols
abbrev pub value_of : Form → Result ℕ ExprCause
value_of made = constant_or ValueNotKnown made.terms made.constant

-- the value of an expression
abbrev pub known_now : Knowledge → Tree → Result ℕ ExprCause
known_now known tree = linear known tree >>= value_of
