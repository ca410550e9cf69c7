-- The names that are local to a file.
use Rattle.std.specs.Prelude.{Bool, true, nat_eq, codes}
use Rattle.std.specs.List.{starts_with}
use Rattle.asm_expr.specs.declared.naming.Name.{Name}
use Rattle.asm_expr.specs.declared.naming.Name.TheVariants.{Plain, Numeric, Place}

-- numeric labels, places, and names that begin with `.L`
abbrev pub is_file_local : Name → Bool
is_file_local (Plain text) = starts_with nat_eq text (codes ".L")
is_file_local (Numeric number instance) = true
is_file_local (Place section item offset) = true
