-- What is seen of an instruction that was read is what is seen of its text.
use Rattle.std.proofs.Common.{◌≡◌, Bool, true, false, List, Option, Some, None, refl, Result, Ok, Err, ap, ◌∙◌, subst}
use Rattle.std.specs.Result.{OnOk}
use Rattle.asm_base.specs.Tokens.{SpelledToken}
use Rattle.asm_base.specs.declared.positions.Pos.{Pos}
use Rattle.asm_base.specs.declared.refusals.Refusal.{Refusal}
use Rattle.asm_operands.specs.declared.place_faults.PlaceCause.{PlaceCause}
use Rattle.asm_values.specs.State.{Placed, with_table, with_names, known_here}
use Rattle.x86_insn.specs.Amounts.{amount_tree}
use Rattle.x86_insn.specs.Views.{View}
use Rattle.x86_insn.specs.declared.insns.Insn.{Insn}
use Rattle.asm_words.specs.declared.directives.Syntax.TheVariants.{Att}
use Rattle.att_operands.specs.declared.faults.OperandCause.{OperandCause}
use Rattle.att_operands.specs.Values.{GivesSo}
use Rattle.att_insns.specs.InsnTexts.{InsnText, IsInsnOf}
use Rattle.insn_effects.specs.declared.effects.Effect.{Effect}
use Rattle.amount_forms.specs.Amounts.{trees_of, InsnFits}
use Rattle.asm_place.specs.Coding.{shape_in, shape_of, forms_of, lone_code, lone_asked}
use Rattle.asm_place.specs.Amounts.{FitsThere}
use Rattle.asm_place.specs.Effects.{no_values, view_formed, view_amounts, view_read, view_lone, ShowsInsn, ShowsAsked}
use Rattle.asm_place.proofs.AmountTrees.{same_shape, same_forms, same_tables}

-- by the trees of its amounts it is the same instruction as by its text
same_view : (pos : Pos) (insn : Insn) (text : InsnText) (placed : Placed) → IsInsnOf insn text
    → InsnFits (known_here (with_names pos (trees_of placed.syntax insn) placed)) insn
    → view_amounts pos insn placed ≡ view_read pos (Ok text) placed
same_view pos insn text placed is fits =
    let known = known_here (with_names pos (trees_of placed.syntax insn) placed) in
    let own = text.immediate.tree in
    let moved = text.displacement.tree in
    ap (λ shape. view_formed shape (forms_of known (amount_tree insn.immediate.amount) (amount_tree insn.displacement.amount))) (same_shape insn text is)
    ∙ (ap (view_formed (shape_in text)) (same_forms pos insn text placed is known fits)
    ∙ ap (λ table. view_formed (shape_in text) (forms_of (known_here (with_table placed table)) own moved)) (same_tables pos insn text placed is placed.syntax))

-- so the effect that was asked for is that of the text
pub read_shown : {T : Type 0} (pos : Pos) (insn : Insn) (due : Result InsnText OperandCause) (placed : Placed) (asked : Bool) (effect : Effect)
    (result : Result T (Refusal PlaceCause))
    → (let read : Result Insn (Refusal OperandCause) = Ok insn in GivesSo IsInsnOf read due)
    → FitsThere result pos insn placed → OnOk result (ShowsAsked asked (view_amounts pos insn placed) effect)
    → OnOk result (ShowsAsked asked (view_read pos due placed) effect)
read_shown pos insn (Ok text) placed asked effect (Ok done) is fits shown =
    subst (λ view. ShowsAsked asked view effect) (same_view pos insn text placed is fits) shown
read_shown pos insn (Ok text) placed asked effect (Err refusal) is fits shown = tt
read_shown pos insn (Err cause) placed asked effect result is fits shown = absurd is

-- a mnemonic that stands alone and was read has the effect of its text
pub lone_shown : (insn : Insn) (due : Result InsnText OperandCause) (effect : Effect)
    → (let read : Result Insn (Refusal OperandCause) = Ok insn in GivesSo IsInsnOf read due)
    → ShowsInsn (Some ((shape_of insn).view no_values)) effect → ShowsInsn (view_lone due) effect
lone_shown insn (Ok text) effect is shown = subst (λ shape. ShowsInsn (Some (shape.view no_values)) effect) (same_shape insn text is) shown
lone_shown insn (Err cause) effect is shown = absurd is

-- an effect that is shown is shown whether or not it is asked for
pub shown_asked : {T : Type 0} (asked : Bool) (view : Option View) (effect : Effect) (result : Result T (Refusal PlaceCause)) → ShowsInsn view effect
    → OnOk result (ShowsAsked asked view effect)
shown_asked true view effect (Ok done) shown = shown
shown_asked false view effect (Ok done) shown = tt
shown_asked asked view effect (Err refusal) shown = tt

-- where no mnemonic stands alone, none does whether or not that is asked
pub none_asked : (asked : Bool) (tokens : List SpelledToken) → lone_code Att tokens ≡ None → lone_asked asked tokens ≡ None
none_asked true tokens none = none
none_asked false tokens none = refl
