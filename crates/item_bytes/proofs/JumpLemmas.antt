-- That jumps are made of bytes.
use Rattle.std.proofs.Common.{ℕ, ◌+◌, ◌^◌, ◌<◌, Bool, true, false, Option, Some, None, All, ◌∷◌, rules, arith}
use Rattle.std.proofs.lemmas.List.Elements.{All-cons}
use Rattle.item_bytes.specs.declared.jumps.Condition.{Condition}
use Rattle.item_bytes.specs.Jumps.{number_of, low_four, jump_bytes}

-- the condition test field has four bits
four_bits : (condition : Condition) → number_of condition < 2 ^ 4
four_bits = search rules

four_bytes : (distance : ℕ) → All (λ byte. byte < 2 ^ 8) (low_four distance)
four_bytes = search rules

pub are_bytes : (condition : Option Condition) (near : Bool) (distance : ℕ) → All (λ byte. byte < 2 ^ 8) (jump_bytes condition near distance)
unfolding jump_bytes
are_bytes None true distance = search rules
are_bytes None false distance = search rules
are_bytes (Some condition) true distance =
    let small = four_bits condition in
    let opcode = All-cons (λ byte. byte < 2 ^ 8) (0x80 + number_of condition) (low_four distance) (omega arith) (four_bytes distance) in
    All-cons (λ byte. byte < 2 ^ 8) 0x0f ((0x80 + number_of condition) ∷ low_four distance) (omega arith) opcode
are_bytes (Some condition) false distance = let small = four_bits condition in search rules
