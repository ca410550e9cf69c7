-- How many tokens stand in front that are one parameter, and what is read so far.
use Rattle.std.specs.Prelude.{◌≡◌, ℕ, suc, ◌<◌, ◌≤◌, List, [], ◌∷◌, ◌++◌, length, drop, if◌then◌else◌, Result, Ok, Err}
use Rattle.asm_base.specs.Tokens.{SpelledToken}
use Rattle.asm_base.specs.declared.refusals.Refusal.{Refusal}
use Rattle.asm_base.specs.Refusals.{◌>>=◌, Fails}
use Rattle.macro_texts.specs.declared.causes.MacroLineCause.{MacroLineCause}
use Rattle.macro_texts.specs.Parameters.{ParameterAs, goes_on, parameter_parts, each_parameter}

-- how many tokens the first parameter has
abbrev pub part_length : List SpelledToken → ℕ
part_length [] = 0
part_length (token ∷ []) = 1
part_length (token ∷ next ∷ rest) = if goes_on token next then suc (part_length (next ∷ rest)) else 1

-- these, and then what the rest gives
abbrev pub behind : {A : Type 0} → List A → Result (List A) MacroLineCause → Result (List A) MacroLineCause
behind front rest = rest >>= λ others. Ok (front ++ others)

-- one parameter more is read, of so many tokens: what all give is what those so far and the others give
pub record IsFirstRead (old new : List ParameterAs) (tokens : List SpelledToken) (n : ℕ) : Type 0 where
  pub some : 0 < n
  pub within : n ≤ length tokens
  pub gives : behind new (each_parameter (parameter_parts (drop n tokens))) ≡ behind old (each_parameter (parameter_parts tokens))

-- the first parameter is read, or has a fault
abbrev pub ReadsFirst : List ParameterAs → List ParameterAs → List SpelledToken → Result ℕ (Refusal MacroLineCause) → Type 0
ReadsFirst old new tokens (Ok n) = IsFirstRead old new tokens n
ReadsFirst old new tokens (Err refusal) = Fails refusal (behind old (each_parameter (parameter_parts tokens)))
