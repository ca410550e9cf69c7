-- Instructions of any kind but direct jumps.
use Rattle.std.proofs.Common.{◌≡◌, ℕ, ◌==◌, ◌&&◌, ◌||◌, nat_lt, nat_le, is_some, List, ◌∷◌, cond, Bool, true, false, Option, Some, None, Ok, refl, sym, ap, ◌∙◌, subst, arith}
use Rattle.std.proofs.lemmas.Bool.Decides.{nat_tests}
use Rattle.std.proofs.lemmas.Option.{none-some, same_Some}
use Rattle.asm_base.specs.Tokens.{SpelledToken}
use Rattle.asm_base.specs.declared.positions.Pos.{Pos}
use Rattle.item_bytes.specs.declared.jumps.Condition.{Condition}
use Rattle.asm_values.specs.State.{Placed}
use Rattle.att_insns.specs.InsnTexts.{InsnText}
use Rattle.x86_insn.specs.declared.amounts.Values.{Values}
use Rattle.x86_insn.specs.declared.insns.Slot.{Slot}
use Rattle.x86_insn.specs.declared.insns.Slot.TheVariants as slot
use Rattle.x86_insn.specs.Views.{Seen, target, View}
use Rattle.x86_table.specs.declared.mnemonics.integers.TheConstants.{JMP, JO, JG, LOOPNE, JRCXZ}
use Rattle.x86_lookup.specs.BareInstructions.{Coded}
use Rattle.insn_effects.specs.Decoding.{is_branch}
use Rattle.insn_effects.specs.Flows.{Flow, jump_flow, flow_of}
use Rattle.item_readings.specs.Items.{IsItemOf}
use Rattle.asm_place.specs.Coding.{forms_of, values_in, view_in, seen_in, is_target, is_absent, is_bare, jump_named}
use Rattle.asm_place.specs.Placing.{place_tokens}
use Rattle.asm_place.specs.Instructions.{behind_labels, instruction_written}
use Rattle.asm_place.specs.CodePlaces.{BeginsAsInstruction, insn_written, is_instruction, jump_in, known_in}
use Rattle.asm_place.specs.JumpPlaces.{IsJumpPut}
use Rattle.code_laws.specs.Codes.{EncodingsAreLaid, IsNoJump, IsLaidPlain}
use Rattle.code_laws.specs.Bare.{BareInstructionsAreLaid}
use Rattle.code_laws.specs.Instructions.{BareInstructionsAreSeen, InstructionsAreLaid}
use Rattle.code_laws.proofs.Views.{none_behind, none_labelled, same_Ok, written_is_read, seen_is}

-- what is known of each kind
pub record Facts : Type 0 where
  pub told : (pos : Pos) (tokens : List SpelledToken) (first : SpelledToken) (rest : List SpelledToken) (before placed : Placed) → behind_labels tokens ≡ first ∷ rest
      → BeginsAsInstruction first rest → place_tokens pos tokens before ≡ Ok placed → is_instruction before.syntax (behind_labels tokens) ≡ true
  pub jump : (pos : Pos) (tokens : List SpelledToken) (before placed : Placed) (text : InsnText) (condition : Option Condition)
      → insn_written before.syntax (behind_labels tokens) ≡ Some text → jump_in text ≡ Some condition → place_tokens pos tokens before ≡ Ok placed
      → IsJumpPut pos tokens text condition before placed
  pub code : EncodingsAreLaid
  pub bare : BareInstructionsAreLaid
  pub seen : BareInstructionsAreSeen

-- DIRECT JUMPS

in_range : (n a b : ℕ) → (nat_lt n a || nat_lt b n) ≡ false → (nat_le a n && nat_le n b) ≡ true
in_range n a b is = grind (arith, nat_tests)

named_goes : (name : ℕ) (is_jump is_other branch : Bool) (condition : Option Condition) (others : Option (Option Condition)) (rest : Flow) (d : Option ℕ)
    → (is_other ≡ false → branch ≡ true) → cond is_jump (Some None) (cond is_other None others) ≡ Some condition
    → IsNoJump (cond is_jump (jump_flow (target d) false) (cond branch (jump_flow (target d) true) rest)) → ⊥
named_goes name true is_other branch condition others rest d known is goes = goes
named_goes name false true branch condition others rest d known is goes = absurd (none-some condition is)
named_goes name false false branch condition others rest d known is goes =
    subst (λ b. IsNoJump (cond b (jump_flow (target d) true) rest)) (known refl) goes

first_target : (text : InsnText) (values : Values) (s : Slot) → is_target s ≡ true → seen_in text values s ≡ target None
first_target text values slot.Absent is = absurd (cc)
first_target text values (slot.Register reg) is = absurd (cc)
first_target text values slot.Immediate is = absurd (cc)
first_target text values slot.Memory is = absurd (cc)
first_target text values slot.Target is = refl

both_tests : (a b c d e : Bool) (found : Option (Option Condition)) (condition : Option Condition)
    → cond (a && (b && (c && (d && e)))) found None ≡ Some condition → (c ≡ true) × (found ≡ Some condition)
both_tests true true true true true found condition is = (refl, is)
both_tests false b c d e found condition is = absurd (none-some condition is)
both_tests true false c d e found condition is = absurd (none-some condition is)
both_tests true true false d e found condition is = absurd (none-some condition is)
both_tests true true true false e found condition is = absurd (none-some condition is)
both_tests true true true true false found condition is = absurd (none-some condition is)

-- control goes from a direct jump by one
jump_goes : (text : InsnText) (values : Values) (condition : Option Condition) → jump_in text ≡ Some condition → IsNoJump (flow_of (view_in text values)) → ⊥
jump_goes text values condition is goes =
    let parts =
    both_tests (is_bare text.«prefix») (text.size == 64) (is_target text.first) (is_absent text.second) (is_absent text.third) (jump_named text.name.0) condition is in
    let first = first_target text values text.first parts.0 in
    let name = text.name.0 in
    named_goes name (name == JMP) (nat_lt name JO || nat_lt JG name) (is_branch name) condition _ _ None
    (λ inside. ap (λ b. b || (nat_le LOOPNE name && nat_le name JRCXZ)) (in_range name JO JG inside)) parts.1
    (subst (λ (s : Seen). IsNoJump (flow_of (record (view_in text values) { first = s }))) first goes)

-- INSTRUCTIONS

some_of : {X : Type 0} (found : Option X) → is_some found ≡ true → (x : X) × (found ≡ Some x)
some_of None is = absurd (cc)
some_of (Some x) is = (x, refl)

second_of : {X : Type 0} (found : Option X) (other : Bool) → found ≡ None → (is_some found || other) ≡ true → other ≡ true
second_of None other none is = is
second_of (Some x) other none is = absurd (none-some x (sym none))

pub instructions_are_laid : Facts → InstructionsAreLaid
instructions_are_laid facts symbols laid pos first rest before placed code insn item node starts no_label begins is within l seen numbered of_item none =
    by_written (instruction_written before.syntax (first ∷ rest)) refl
  where
    behind : behind_labels (first ∷ rest) ≡ (first ∷ rest)
    behind = none_behind (first ∷ rest) no_label

    written : is_instruction before.syntax (first ∷ rest) ≡ true
    written = ap (is_instruction before.syntax) (sym behind) ∙ facts.told pos (first ∷ rest) first rest before placed behind begins is

    by_jump : (text : InsnText) → insn_written before.syntax (first ∷ rest) ≡ Some text → (jump : Option (Option Condition)) → jump_in text ≡ jump
        → IsLaidPlain laid before placed starts code item node
    by_jump text found None no_jump =
        facts.code symbols laid pos (first ∷ rest) text before placed code insn item node starts no_label found no_jump is within l seen numbered of_item none
    by_jump text found (Some condition) jump =
        let put = (facts.jump pos (first ∷ rest) before placed text condition (ap (insn_written before.syntax) behind ∙ found) jump is).jump in
        let labels : put.labels ≡ before = same_Ok put.labels before (sym put.labels_are ∙ none_labelled pos (first ∷ rest) before no_label) in
        let view = view_in text (values_in put.forms) in
        let view_is : insn ≡ view =
        same_Some insn view
        (sym seen ∙ seen_is pos (first ∷ rest) text before put.forms (written_is_read before.syntax (first ∷ rest) text found)
        (ap (λ (there : Placed). forms_of (known_in pos text there) text.immediate.tree text.displacement.tree) (sym labels) ∙ put.forms_are)) in
        absurd (jump_goes text (values_in put.forms) condition jump (subst (λ (v : View). IsNoJump (flow_of v)) view_is none))

    by_written : (bare : Option Coded) → instruction_written before.syntax (first ∷ rest) ≡ bare → IsLaidPlain laid before placed starts code item node
    by_written (Some coded) bare =
        let same : insn ≡ coded.insn = same_Some insn coded.insn (sym seen ∙ facts.seen pos (first ∷ rest) before coded bare) in
        facts.bare symbols laid pos (first ∷ rest) coded before placed code item node starts (ap (instruction_written before.syntax) behind ∙ bare) is within l
        (subst (λ (v : View). IsItemOf v item node) same of_item)
    by_written None bare =
        let found = some_of (insn_written before.syntax (first ∷ rest)) (second_of (instruction_written before.syntax (first ∷ rest)) (is_some (insn_written before.syntax (first ∷ rest))) bare written) in
        by_jump found.0 found.1 (jump_in found.0) refl
