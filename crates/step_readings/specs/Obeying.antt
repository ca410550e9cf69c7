-- Bytes that do no more than an instruction says.
use Rattle.std.specs.Prelude.{◌≡◌, ◌++◌, ℕ, false, List, Option, drop, length}
use Rattle.x86_insn.specs.Views.{View}
use Rattle.x86_table.specs.Reads.{Reads}
use Rattle.insn_effects.specs.Decoding.{action_of}
use Rattle.insn_effects.specs.Effects.{effect_of}
use Rattle.insn_effects.specs.Flows.{flow_of, is_unsupported}
use Rattle.x86_parts.specs.Codes.{meant}
use Rattle.x86_steps.specs.States.{State, IsRanged}
use Rattle.x86_steps.specs.Steps.{Does}
use Rattle.x86_steps.specs.Acts.{Acts}
use Rattle.x86_steps.specs.Fillings.{FillsView}
use Rattle.x86_steps.specs.Leading.{distance_of, Leads}
use Rattle.x86_steps.specs.Readings.{Reading, IsReading, HasReading}

-- what is read is as long as the bytes, acts by the effect of the instruction, where its use of the
-- stack is supported, has the flow of the instruction, and goes where that leads with this distance
pub record Obeys (insn : View) (bytes : List ℕ) (distance : Option ℕ) (r : Reading) : Type 0 where
  pub long : r.bytes ≡ length bytes
  pub acts : (next : ℕ) (s t : State) → IsRanged s → is_unsupported insn ≡ false
      → Does (action_of r.insn) next s t → Acts (effect_of (action_of insn)) s t
  pub flow : flow_of r.insn ≡ flow_of insn
  pub leads : (next : ℕ) (s t : State) → Does (action_of r.insn) next s t
      → Leads (flow_of insn) distance s.place next t.place

-- something is read at the place, and whatever it is obeys the instruction
pub record IsObeyed (insn : View) (bytes : List ℕ) (distance : Option ℕ) (code : List ℕ)
    (place : ℕ) : Type 0 where
  pub read : HasReading code place
  pub obeys : (r : Reading) → IsReading code place r → Obeys insn bytes distance r

-- where bytes stand that read as the instruction with some numbers in place of those that are not
-- known, the instruction is obeyed. Of a `mov` that is written as `movabs` they read as that
abbrev pub ReadBytesObey : Type 0
ReadBytesObey = (insn read : View) (bytes code rest : List ℕ) (place : ℕ)
    → FillsView (meant insn) read → Reads bytes read → drop place code ≡ bytes ++ rest
    → IsObeyed insn bytes (distance_of read.first) code place
