-- What relocations name: sections and symbols.
use Rattle.std.specs.Prelude.{Bool, List}

-- a mark for each section and for each symbol that is named, and for each symbol that is named as thread-local
pub record NamedOf : Type 0 where
  pub sections : List Bool
  pub symbols : List Bool
  pub thread_locals : List Bool
