-- What is said and made of an answer of the assembly, whole or in part, by what the main source stands for.
use Rattle.std.proofs.Common.{◌≡◌, ℕ, List, Option, None, Some, Ok, Err, [], drop, is_some, length, refl, sym, ap, ap₂, ◌∙◌, inl, inr, subst, arith}
use Rattle.std.specs.Option.{option_map}
use Rattle.std.proofs.Math.Seq.{take-length}
use Rattle.asm_base.specs.Console.{Said, after_say}
use Rattle.asm_base.specs.Output.{Made}
use Rattle.asm_base.specs.Messages.{refusal, remarks}
use Rattle.asm_base.specs.declared.outside.Channel.{Channel}
use Rattle.asm_base.specs.declared.outside.Channel.TheVariants as channel
use Rattle.asm_base.specs.declared.faults.Fault.{Fault}
use Rattle.asm_base.specs.declared.notes.Noted.{Noted}
use Rattle.asm_base.specs.declared.positions.Pos.{Pos}
use Rattle.asm_front.specs.declared.answers.Assembled.{Assembled}
use Rattle.asm_front.specs.declared.answers.AsmFault.TheVariants.{Source}
use Rattle.source_ends.specs.declared.ending.Counts.{Counts}
use Rattle.asm_front.specs.Assembly.{Assembly}
use Rattle.asm_front.specs.Outcome.{AssemblesAs, AssemblesKnown}
use Rattle.run_words.specs.Words.{Invocation}
use Rattle.source_runs.specs.Summary.{summary_by}
use Rattle.source_runs.specs.Outcome.{refused, object, source_outcome}
use Rattle.source_runs.specs.Answers.{Effects, SaidFront, SaidAll, SaidInPart, Refuses, RefusesInPart, MakesFileInPart, MakesInPart, MakesObject, IsDone, IsSourceFault, IsWriteFault, is_summed}

-- WHAT IS SAID

-- a front of the messages is one of what is to be said
pub front_said : (messages : List ℕ) (summary : Option (List ℕ)) (before after : Option Said) → SaidFront channel.Err messages before after → SaidInPart messages summary before after
front_said messages None before after says = says
front_said messages (Some text) before after says = inl says

-- a text that was said is a front of itself
whole : (to : Channel) (text : List ℕ) (before after : Option Said) → after ≡ option_map (after_say to text) before → SaidFront to text before after
whole to text before after says = (length text, omega arith, says ∙ ap (λ front. option_map (after_say to front) before) (sym (take-length text)))

all_said : (messages : List ℕ) (summary : Option (List ℕ)) (before after : Option Said) → SaidAll messages summary before after → SaidInPart messages summary before after
all_said messages None before after says = whole channel.Err messages before after says
all_said messages (Some text) before after says = inr (whole channel.Out text (option_map (after_say channel.Err messages) before) after says)

-- all was said, and then the file was made in part
pub delivered_in_part : (output bytes messages : List ℕ) (summary : Option (List ℕ)) (before said : Option Said) (made after : Option Made) →
    SaidAll messages summary before said → MakesFileInPart output bytes made after →
    MakesInPart output bytes messages summary (record { said = before; said_after = said; made = made; made_after = after })
delivered_in_part output bytes messages summary before said made after says in_part = elim in_part [
  | inl same ↦ inl (all_said messages summary before said says, same)
  | inr begun ↦ inr (says, begun)
]

-- THE ANSWERS OF THE ASSEMBLY

-- there is a summary where one is asked for
summed : (self_load : Option ℕ) (counts : Counts) (size : ℕ) → is_some (summary_by self_load counts size) ≡ is_some self_load
summed None counts size = refl
summed (Some functions) counts size = refl

module _ (invocation : Invocation) where
  -- what a source of this assembly stands for, where the answer is this object
  object_of : (assembly : Assembly) (made : Assembled) (messages : List ℕ) (summary : Option (List ℕ)) → AssemblesAs assembly (Ok made)
      → messages ≡ remarks made.files made.notes → summary ≡ summary_by invocation.self_load made.counts (length made.object)
      → source_outcome invocation assembly ≡ object invocation.object made.object messages summary (drop 1 made.files)
  object_of assembly made messages summary is same sums =
      ap (source_outcome invocation) is ∙ ap₂ (λ said sum. object invocation.object made.object said sum (drop 1 made.files)) (sym same) (sym sums)

  -- and where it is this fault
  fault_of : (assembly : Assembly) (fault : Fault) (pos : Pos) (notes : List Noted) (files : List (List ℕ)) (text : List ℕ)
      → AssemblesAs assembly (Err (Source fault pos notes files)) → text ≡ refusal files notes fault pos → source_outcome invocation assembly ≡ refused text (drop 1 files)
  fault_of assembly fault pos notes files text is same = ap (source_outcome invocation) is ∙ ap (λ said. refused said (drop 1 files)) (sym same)

  summed_so : (made : Assembled) (summary : Option (List ℕ)) → summary ≡ summary_by invocation.self_load made.counts (length made.object)
      → is_some summary ≡ is_summed (Some invocation)
  summed_so made summary sums = ap is_some sums ∙ summed invocation.self_load made.counts (length made.object)

  -- all was said and the object was made
  pub delivered : (known : Option Assembly) (made : Assembled) (messages : List ℕ) (summary : Option (List ℕ)) (e : Effects) → AssemblesKnown known (Ok made)
      → messages ≡ remarks made.files made.notes → summary ≡ summary_by invocation.self_load made.counts (length made.object)
      → MakesObject invocation.object made.object messages summary e → IsDone (Some invocation) (option_map (source_outcome invocation) known) e
  delivered None made messages summary e assembles same sums makes = (made.object, messages, summary, summed_so made summary sums, makes)
  delivered (Some assembly) made messages summary e assembles same sums makes =
      subst (λ o. IsDone (Some invocation) (Some o) e) (sym (object_of assembly made messages summary assembles same sums)) makes

  -- or only in part
  pub made_in_part : (known : Option Assembly) (made : Assembled) (messages : List ℕ) (summary : Option (List ℕ)) (e : Effects) → AssemblesKnown known (Ok made)
      → messages ≡ remarks made.files made.notes → summary ≡ summary_by invocation.self_load made.counts (length made.object)
      → MakesInPart invocation.object made.object messages summary e → IsWriteFault (Some invocation) (option_map (source_outcome invocation) known) e
  made_in_part None made messages summary e assembles same sums makes = (made.object, messages, summary, summed_so made summary sums, makes)
  made_in_part (Some assembly) made messages summary e assembles same sums makes =
      subst (λ o. IsWriteFault (Some invocation) (Some o) e) (sym (object_of assembly made messages summary assembles same sums)) makes

  -- the messages of a fault were said
  pub refused_whole : (known : Option Assembly) (fault : Fault) (pos : Pos) (notes : List Noted) (files : List (List ℕ)) (text : List ℕ) (e : Effects)
      → AssemblesKnown known (Err (Source fault pos notes files)) → text ≡ refusal files notes fault pos → Refuses text e
      → IsSourceFault (option_map (source_outcome invocation) known) e
  refused_whole None fault pos notes files text e assembles same refuses = (text, refuses)
  refused_whole (Some assembly) fault pos notes files text e assembles same refuses =
      subst (λ o. IsSourceFault (Some o) e) (sym (fault_of assembly fault pos notes files text assembles same)) refuses

  -- or only in part: where it is not known what the source stands for, as a front of what some source says without a summary, or with one
  pub refused_in_part : (known : Option Assembly) (fault : Fault) (pos : Pos) (notes : List Noted) (files : List (List ℕ)) (text : List ℕ) (e : Effects)
      → AssemblesKnown known (Err (Source fault pos notes files)) → text ≡ refusal files notes fault pos → RefusesInPart text e
      → IsWriteFault (Some invocation) (option_map (source_outcome invocation) known) e
  refused_in_part None fault pos notes files text e assembles same refuses = some_summary invocation.self_load refl
    where
      some_summary : (self_load : Option ℕ) → invocation.self_load ≡ self_load → IsWriteFault (Some invocation) None e
      some_summary None is = ([], text, None, sym (ap is_some is), inl refuses)
      some_summary (Some functions) is = ([], text, Some [], sym (ap is_some is), inl (inl refuses.0, refuses.1))
  refused_in_part (Some assembly) fault pos notes files text e assembles same refuses =
      subst (λ o. IsWriteFault (Some invocation) (Some o) e) (sym (fault_of assembly fault pos notes files text assembles same)) refuses
