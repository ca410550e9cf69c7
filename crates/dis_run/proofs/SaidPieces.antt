-- What saying a text piece by piece makes of what was said.
use Rattle.std.proofs.Common.{◌≡◌, ℕ, ◌+◌, List, [], ◌++◌, Option, None, Some, take, drop, refl, sym, ap, append-nil, append_assoc}
use Rattle.std.specs.Option.{option_map}
use Rattle.std.proofs.Math.Seq.{take-add}
use Rattle.asm_base.specs.Console.{Said, after_say}
use Rattle.asm_base.specs.declared.outside.Channel.{Channel}
use Rattle.asm_base.specs.declared.outside.Channel.TheVariants.{Out, Err}

-- both channels by their bytes
abbrev said_of : List ℕ → List ℕ → Said
said_of out err = record { out = out; err = err }

-- where nothing is said, all stays
pub after_say-nil : (to : Channel) (said : Said) → after_say to [] said ≡ said
after_say-nil Out said = ap (λ out. said_of out said.err) (append-nil said.out)
after_say-nil Err said = ap (λ err. said_of said.out err) (append-nil said.err)

-- two pieces, one after the other, are said as one
pub after_say-append : (to : Channel) (a b : List ℕ) (said : Said) → after_say to (a ++ b) said ≡ after_say to b (after_say to a said)
after_say-append Out a b said = ap (λ out. said_of out said.err) (sym (append_assoc said.out a b))
after_say-append Err a b said = ap (λ err. said_of said.out err) (sym (append_assoc said.err a b))

-- the same, known or not
pub said-nil : (to : Channel) (said : Option Said) → option_map (after_say to []) said ≡ said
said-nil to None = refl
said-nil to (Some said) = ap Some (after_say-nil to said)

pub said-append : (to : Channel) (a b : List ℕ) (said : Option Said) →
    option_map (after_say to (a ++ b)) said ≡ option_map (after_say to b) (option_map (after_say to a) said)
said-append to a b None = refl
said-append to a b (Some said) = ap Some (after_say-append to a b said)

-- a front of what is left is said after what was before it
pub said_on : (to : Channel) (text piece : List ℕ) (at n : ℕ) (before now after : Option Said) →
    now ≡ option_map (after_say to (take at text)) before →
    after ≡ option_map (after_say to piece) now →
    piece ≡ take n (drop at text) →
    after ≡ option_map (after_say to (take (at + n) text)) before
said_on to text piece at n before now after so_far more same =
    rw (take-add at n text, said-append to (take at text) (take n (drop at text)) before, ← so_far, ← same) more
