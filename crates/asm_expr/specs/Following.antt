-- What is answered by other answers: the first refusal among these, or what is due for their values.
use Rattle.std.specs.Prelude.{◌≡◌, Result, Ok, Err}
use Rattle.asm_base.specs.declared.refusals.Refusal.{Refusal}
use Rattle.asm_base.specs.Refusals.{Returns}

-- the answer that follows on one: its refusal, or what is due for its value
abbrev pub Follows : {A B F : Type 0} → Result A (Refusal F) → (A → Result B F) → Result B (Refusal F) → Type 0
Follows (Ok value) due answer = Returns answer (due value)
Follows (Err refusal) due answer = answer ≡ Err refusal

-- the answer that follows on two, of which the refusal of the first goes first
abbrev pub FollowsBoth : {A B C F : Type 0} → Result A (Refusal F) → Result B (Refusal F) → (A → B → Result C F) → Result C (Refusal F) → Type 0
FollowsBoth (Ok value) other due answer = Follows other (due value) answer
FollowsBoth (Err refusal) other due answer = answer ≡ Err refusal
