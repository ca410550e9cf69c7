-- The names of symbols.
use Rattle.std.specs.Prelude.{◌==◌, ◌&&◌, Bool, false}
use Rattle.std.specs.Str.{bytes_eq}
use Rattle.asm_expr.specs.declared.naming.Name.{Name}
use Rattle.asm_expr.specs.declared.naming.Name.TheVariants.{Plain, Numeric, Place}

-- both are one name
abbrev pub same_name : Name → Name → Bool
same_name (Plain text) (Plain others) = bytes_eq text others
same_name (Numeric number instance) (Numeric others last) = number == others && instance == last
same_name (Place section item offset) (Place others last bytes) = section == others && item == last && offset == bytes
same_name _ _ = false
