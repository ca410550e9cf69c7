-- What directives say of pointers (GNU as manual, "CFI directives"; LSB 5.0, "DWARF Exception Header Encoding").
use Rattle.std.specs.Prelude.{ℕ, ◌==◌, Bool, false, List, [], ◌∷◌, Option, None, Some, Result, Ok, Err, if◌then◌else◌}
use Rattle.asm_base.specs.Refusals.{◌>>=◌}
use Rattle.asm_base.specs.Tokens.{SpelledToken}
use Rattle.asm_expr.specs.Forms.{Form}
use Rattle.asm_expr.specs.Trees.{Tree}
use Rattle.asm_operands.specs.declared.place_faults.PlaceCause.{PlaceCause}
use Rattle.asm_operands.specs.declared.place_faults.PlaceCause.TheVariants.{BadExpression, BadOperand, OutOfRange}
use Rattle.asm_operands.specs.declared.up_to_three.UpToThree.{UpToThree}
use Rattle.asm_operands.specs.Expressions.{constant_in, expression_of, no_more}
use Rattle.asm_uses.specs.Places.{uses_place}
use Rattle.cfi_directives.specs.declared.frames.Pointer.{Pointer}
use Rattle.cfi_rows.specs.declared.pointers.PointerEncoding.{PointerEncoding}
use Rattle.cfi_rows.specs.Pointers as pointers

-- an encoding, and at most one expression more, which is not empty where its comma stands
unfoldable pub pointer_trees : List (List SpelledToken) → Result (UpToThree Tree) PlaceCause
pointer_trees [] = Err BadExpression
pointer_trees (encoding ∷ []) = expression_of encoding >>= λ tree. Ok (record { first = tree; second = None; third = None })
pointer_trees (encoding ∷ target ∷ operands) =
    expression_of encoding >>= λ tree. expression_of target >>= λ there. no_more operands (record { first = tree; second = Some there; third = None })

-- the encoding that a number says
abbrev pub found_encoding : Option PointerEncoding → Result PointerEncoding PlaceCause
found_encoding None = Err OutOfRange
found_encoding (Some encoding) = Ok encoding

-- the same, by the number
abbrev pub encoding_of : ℕ → Result PointerEncoding PlaceCause
encoding_of number = found_encoding (pointers.encoding_of number)

-- no pointer, which leads to nothing
abbrev pub no_pointer : Option Form → Result (Option Pointer) PlaceCause
no_pointer None = Ok None
no_pointer (Some target) = Err BadOperand

-- a pointer of this encoding, which has to lead to something
abbrev pub pointer_to : Option Form → PointerEncoding → Result (Option Pointer) PlaceCause
pointer_to None encoding = Err BadExpression
pointer_to (Some target) encoding = Ok (Some (record { encoding = encoding; target = target }))

-- the pointer of the encoding of this number; 0xff says that there is none
abbrev pub pointer_of : ℕ → Option Form → Result (Option Pointer) PlaceCause
pointer_of number target = if number == 0xff then no_pointer target else encoding_of number >>= pointer_to target

-- the pointer that the forms of the operands say: the number of an encoding, which has to be known, and what the pointer leads to
abbrev pub pointer_in : UpToThree Form → Result (Option Pointer) PlaceCause
pointer_in forms = constant_in forms.first >>= λ number. pointer_of number forms.second

-- a form that may be missing keeps the place
abbrev pub keeps_place : ℕ → Option Form → Bool
keeps_place place None = false
keeps_place place (Some form) = uses_place place form
