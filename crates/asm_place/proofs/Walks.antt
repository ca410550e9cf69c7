-- Steps one after the other: what is known of what they make.
use Rattle.std.proofs.Common.{◌≡◌, refl, Bool, true, false, cond, List, Result, Ok, Err}
use Rattle.std.specs.Result.{IfOk}
use Rattle.asm_base.specs.Refusals.{◌>>=◌}
use Rattle.asm_base.specs.Tokens.{SpelledToken}
use Rattle.asm_base.specs.declared.positions.Pos.{Pos}
use Rattle.asm_words.specs.declared.directives.FrameDirective.{FrameDirective}
use Rattle.asm_values.specs.State.{Placed}
use Rattle.asm_frames.specs.Placing.{place_frame}
use Rattle.asm_frames.specs.Keeping.{OnlyNames}
use Rattle.asm_line_tables.specs.Placing.{place_loc, place_numbered_file}
use Rattle.asm_line_tables.specs.Keeping.{OnlyLines}

-- what is known of what a step makes
pub record Fine {A E : Type 0} (P : A → Type 0) (result : Result A E) : Type 0 where
  pub holds : IfOk result P

-- a step that makes this
pub made : {A E : Type 0} {P : A → Type 0} (x : A) → P x → Fine {E = E} P (Ok x)
made x is = record { holds = is }

-- a step that is refused makes nothing
pub refused : {A E : Type 0} {P : A → Type 0} (fault : E) → Fine {A = A} P (Err fault)
refused fault = record { holds = tt }

-- what is known by a law
pub known : {A E : Type 0} {P : A → Type 0} (result : Result A E) → IfOk result P → Fine P result
known result is = record { holds = is }

-- and what follows from what is known
pub weaker : {A E : Type 0} {P Q : A → Type 0} {r : Result A E} → Fine P r → ((x : A) → P x → Q x) → Fine Q r
weaker {r = Ok x} first more = made x (more x first.holds)
weaker {r = Err fault} first more = refused fault

-- a step after another
pub step : {A B E : Type 0} {P : A → Type 0} {Q : B → Type 0} {r : Result A E} {f : A → Result B E}
    → Fine P r → ((x : A) → P x → Fine Q (f x)) → Fine Q (r >>= f)
step {r = Ok x} first later = later x first.holds
step {r = Err fault} first later = refused fault

-- a step after one that makes no sections
pub after : {A B E : Type 0} {Q : B → Type 0} (r : Result A E) {f : A → Result B E} → ((x : A) → Fine Q (f x)) → Fine Q (r >>= f)
after (Ok x) later = later x
after (Err fault) later = refused fault

-- what the laws of the directives of frame tables and of line tables say
pub record TablesKeep : Type 0 where
  pub frames : (directive : FrameDirective) (pos : Pos) (tokens : List SpelledToken) (placed : Placed) → IfOk (place_frame directive pos tokens placed) (OnlyNames pos placed)
  pub rows : (pos : Pos) (tokens : List SpelledToken) (placed : Placed) → IfOk (place_loc pos tokens placed) (OnlyLines pos placed)
  pub files : (pos : Pos) (tokens : List SpelledToken) (placed : Placed) → IfOk (place_numbered_file pos tokens placed) (OnlyLines pos placed)

-- two branches, whatever the test says
pub either : {A E : Type 0} {P : A → Type 0} (test : Bool) {r s : Result A E} → Fine P r → Fine P s → Fine P (cond test r s)
either true one other = one
either false one other = other

-- the same where each branch knows what the test says
pub either_by : {A E : Type 0} {P : A → Type 0} (test : Bool) {r s : Result A E} → (test ≡ true → Fine P r) → (test ≡ false → Fine P s) → Fine P (cond test r s)
either_by true one other = one refl
either_by false one other = other refl
