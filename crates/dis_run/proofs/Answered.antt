-- What the answers of a run promise of what its command stands for.
use Rattle.std.proofs.Common.{◌≡◌, ℕ, Bool, true, false, List, Option, None, Some, Result, Ok, Err, ◌⊎◌, inl, inr, refl, sym, arith}
use Rattle.asm_base.specs.Console.{Said}
use Rattle.asm_base.specs.Counts.{HasRisen, IsQuiet}
use Rattle.asm_base.specs.Inputs.{Contents}
use Rattle.asm_base.specs.WholeFile.{ReadsName}
use Rattle.asm_base.specs.declared.reading.TextFault.TheVariants as fault
use Rattle.asm_base.specs.declared.statuses.Status.{Status}
use Rattle.asm_base.specs.declared.statuses.Status.TheVariants.{Done, SourceFault, Usage, ReadFault, WriteFault, NoMemory}
use Rattle.x86_decode.specs.declared.fronts.Front.{Front}
use Rattle.dis_words.specs.Words.{Invocation}
use Rattle.dis_run.specs.Outcome.{Outcome, usage, missing, refused, listed, too_large_text, CommandHolds}
use Rattle.dis_run.specs.Answers.{Answers, Completes, IsListed, text_for}
use Rattle.dis_run.proofs.Spoken.{none_said}
use Rattle.dis_run.proofs.Outcomes.{read_listed, large_refused, all_hold}

module _ (att intel : Front → List ℕ) (i : Invocation) (contents : Option Contents) where
  listed_by : (status : Status) (bytes : List ℕ) (before after : Option Said) → IsListed (text_for att intel i.intel) bytes status before after
      → Answers att intel (listed i.intel bytes) status before after
  listed_by Done bytes before after is = is
  listed_by SourceFault bytes before after is = is
  listed_by Usage bytes before after is = is
  listed_by ReadFault bytes before after is = absurd is
  listed_by WriteFault bytes before after is = is
  listed_by NoMemory bytes before after is = is

  pub listed_answers : (status : Status) (text : List ℕ) (rest : Option (List ℕ)) (before after : Option Said) → ReadsName contents i.file (Ok text) rest
      → IsListed (text_for att intel i.intel) text status before after
      → CommandHolds (Some i) contents (λ outcome. Answers att intel outcome status before after)
  listed_answers status text rest before after reads is =
      read_listed (λ outcome. Answers att intel outcome status before after) i contents text rest reads (listed_by status text before after is)

  pub refused_answers : (status : Status) (rest : Option (List ℕ)) (before after : Option Said) → ReadsName contents i.file (Err fault.TooLarge) rest
      → Answers att intel (refused (too_large_text i.file)) status before after
      → CommandHolds (Some i) contents (λ outcome. Answers att intel outcome status before after)
  refused_answers status rest before after reads is = large_refused (λ outcome. Answers att intel outcome status before after) i contents rest reads is

  pub fault_answers : (before after : Option Said) → after ≡ before → CommandHolds (Some i) contents (λ outcome. Answers att intel outcome ReadFault before after)
  fault_answers before after same = all_hold (λ outcome. Answers att intel outcome ReadFault before after) i contents same (λ message. same) (λ flag bytes. same)

  pub memory_answers : (before after : Option Said) → after ≡ before → CommandHolds (Some i) contents (λ outcome. Answers att intel outcome NoMemory before after)
  memory_answers before after same =
      all_hold (λ outcome. Answers att intel outcome NoMemory before after) i contents same (λ message. same)
      (λ flag bytes. none_said (text_for att intel flag) bytes 0 before after same)

  listed_status : (status : Status) (bytes : List ℕ) (before after : Option Said) → IsListed (text_for att intel i.intel) bytes status before after
      → (status ≡ WriteFault) ⊎ Completes (listed i.intel bytes) status
  listed_status Done bytes before after is = inr (inl refl)
  listed_status SourceFault bytes before after is = absurd is
  listed_status Usage bytes before after is = absurd is
  listed_status ReadFault bytes before after is = absurd is
  listed_status WriteFault bytes before after is = inl refl
  listed_status NoMemory bytes before after is = inr (inr refl)

  pub listed_completes : (status : Status) (text : List ℕ) (rest : Option (List ℕ)) (before after : Option Said) → ReadsName contents i.file (Ok text) rest
      → IsListed (text_for att intel i.intel) text status before after
      → (status ≡ ReadFault) ⊎ (status ≡ WriteFault) ⊎ CommandHolds (Some i) contents (λ outcome. Completes outcome status)
  listed_completes status text rest before after reads is = elim (listed_status status text before after is) [
    | inl failed ↦ inr (inl failed)
    | inr done ↦ inr (inr (read_listed (λ outcome. Completes outcome status) i contents text rest reads done))
  ]

pub refused_completes : (i : Invocation) (contents : Option Contents) (status : Status) (rest : Option (List ℕ)) → ReadsName contents i.file (Err fault.TooLarge) rest
    → (status ≡ WriteFault) ⊎ Completes (refused (too_large_text i.file)) status
    → (status ≡ ReadFault) ⊎ (status ≡ WriteFault) ⊎ CommandHolds (Some i) contents (λ outcome. Completes outcome status)
refused_completes i contents status rest reads is = elim is [
  | inl failed ↦ inr (inl failed)
  | inr done ↦ inr (inr (large_refused (λ outcome. Completes outcome status) i contents rest reads done))
]

pub memory_completes : (i : Invocation) (contents : Option Contents)
    → CommandHolds (Some i) contents (λ outcome. Completes outcome NoMemory)
memory_completes i contents = all_hold (λ outcome. Completes outcome NoMemory) i contents refl (λ message. inr refl) (λ flag bytes. inr refl)

-- a count that is quiet has not risen
quiet_holds : (before now : ℕ) → HasRisen before now → IsQuiet before now → ⊥
quiet_holds before now risen quiet = omega (arith, risen, quiet)

-- where no call failed, the answer is that of what the command stands for
pub quiet_completes : (P : Type 0) (status : Status) (f g c d : ℕ) → (status ≡ ReadFault → HasRisen f g) → (status ≡ WriteFault → HasRisen c d)
    → (status ≡ ReadFault) ⊎ (status ≡ WriteFault) ⊎ P → IsQuiet f g → IsQuiet c d → P
quiet_completes P status f g c d read write is inputs console = elim is [
  | inl fault ↦ absurd (quiet_holds f g (read fault) inputs)
  | inr other ↦ elim other [ inl fault ↦ absurd (quiet_holds c d (write fault) console) | inr holds ↦ holds ]
]
