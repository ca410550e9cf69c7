-- What was said on the two channels of a console.
use Rattle.std.specs.Prelude.{ℕ, List, ◌++◌}
use Rattle.asm_base.specs.declared.outside.Channel.{Channel}
use Rattle.asm_base.specs.declared.outside.Channel.TheVariants.{Out, Err}

-- what was said on standard output, and on standard error
pub record Said : Type 0 where
  pub out : List ℕ
  pub err : List ℕ

-- the channel has the piece more
abbrev pub after_say : Channel → List ℕ → Said → Said
after_say Out piece said = record { out = said.out ++ piece; err = said.err }
after_say Err piece said = record { out = said.out; err = said.err ++ piece }
