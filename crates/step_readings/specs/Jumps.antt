-- What is read where a direct jump stands, short or near.
use Rattle.std.specs.Prelude.{◌≡◌, ◌+◌, ◌%◌, ◌^◌, ◌++◌, ◌<◌, ℕ, Bool, true, List, Option, None, Some, drop, length, get_or}
use Rattle.item_bytes.specs.declared.jumps.Condition.{Condition}
use Rattle.item_bytes.specs.Jumps.{jump_bytes, jump_distance}
use Rattle.jump_laws.specs.JumpReadings.{jump_name}
use Rattle.x86_insn.specs.declared.insns.Prefix.TheVariants as prefix
use Rattle.x86_insn.specs.Views.{View, absent, target}
use Rattle.step_readings.specs.Held.{AreBytes}
use Rattle.step_readings.specs.Obeying.{IsObeyed}

-- the direct jump under a condition, or under none, whose target is not known
abbrev pub jump_of : Option Condition → View
jump_of condition = record {
  name = record { 0 = jump_name condition };
  size = 64;
  «prefix» = prefix.Absent;
  first = target None;
  second = absent;
  third = absent;
}

-- from its first byte on it leads over its own bytes and the distance in them
abbrev pub led_over : (near : Bool) → List ℕ → ℕ
led_over near bytes = (jump_distance near bytes + length bytes) % 2 ^ 64

-- where the bytes of a jump stand, it is obeyed
abbrev pub JumpsObey : Type 0
JumpsObey = (condition : Option Condition) (near : Bool) (distance place : ℕ) (code rest : List ℕ)
    → drop place code ≡ jump_bytes condition near distance ++ rest
    → IsObeyed (jump_of condition) (jump_bytes condition near distance)
    (Some (led_over near (jump_bytes condition near distance))) code place

-- the bytes of a near jump once a linker has put a distance into its last four are those of a near
-- jump over another distance
abbrev pub LoadedJumpsAreJumps : Type 0
LoadedJumpsAreJumps = (condition : Option Condition) (distance : ℕ) (loaded : List ℕ)
    → length loaded ≡ length (jump_bytes condition true distance) → AreBytes loaded
    → ((k : ℕ) → k + 4 < length loaded
    → get_or (jump_bytes condition true distance) k 0 ≡ get_or loaded k 0)
    → (other : ℕ) × (jump_bytes condition true other ≡ loaded)
