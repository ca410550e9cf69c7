-- Numbers that are known in the instructions of a source have 64 bits.
use Rattle.std.proofs.Common.{◌≡◌, ◌<◌, ◌++◌, ℕ, Bool, true, false, cond, List, [], ◌∷◌, map, Option, None, Some, Result, Ok, Err, refl, sym, ap, subst}
use Rattle.std.specs.Prelude.{◌^◌, ◌&&◌, All}
use Rattle.std.proofs.lemmas.List.Elements.{All-nil, All-cons, All-head, All-tail}
use Rattle.std.proofs.lemmas.Option.{none-some, same_Some}
use Rattle.asm_base.specs.Refusals.{◌>>=◌}
use Rattle.asm_base.specs.Tokens.{SpelledToken}
use Rattle.asm_base.specs.declared.positions.Pos.{Pos}
use Rattle.asm_expr.specs.declared.faults.ExprCause.TheVariants.{ValueNotKnown}
use Rattle.asm_expr.specs.declared.forms.Term.{Term}
use Rattle.asm_expr.specs.Linear.{constant_or}
use Rattle.asm_lines.specs.NextStatements.{TokenStatement}
use Rattle.asm_operands.specs.declared.place_faults.PlaceCause.{PlaceCause}
use Rattle.x86_insn.specs.declared.amounts.Values.{Values}
use Rattle.x86_insn.specs.declared.insns.Slot.{Slot}
use Rattle.x86_insn.specs.declared.insns.Slot.TheVariants as slot
use Rattle.x86_insn.specs.Knowing.{if_known}
use Rattle.x86_insn.specs.Views.{View}
use Rattle.att_operands.specs.declared.faults.OperandCause.{OperandCause}
use Rattle.att_insns.specs.InsnTexts.{InsnText}
use Rattle.asm_values.specs.State.{Placed, nothing_placed}
use Rattle.asm_place.specs.Bodies.{labels_of, body_of, front}
use Rattle.asm_place.specs.Coding.{shape_in, forms_of, seen_in, view_in, lone_code, insn_by, values_in}
use Rattle.asm_place.specs.CodePlaces.{ValueForms, known_in}
use Rattle.asm_place.specs.Effects.{no_values, view_formed, view_coded, insn_view}
use Rattle.asm_place.specs.Instructions.{behind_labels}
use Rattle.asm_place.specs.Sources.{pos_at, place, place_all}
use Rattle.asm_functions.specs.FollowedSource.{FollowedSource, nothing_followed, follow_all, is_frame_body, placed_part}
use Rattle.step_readings.specs.Filled.{IsNumber}
use Rattle.form_laws.specs.Numbers.{IsInBytes, IsSpelled, FormsFit, FormsBeginFitting, FormsStayFitting, ValuesFit}
use Rattle.code_laws.specs.Codes.{IsNumbered, AreNumbered}

-- VIEWS

known_number : (terms : List Term) (n : ℕ) → n < 2 ^ 64 → IsNumber (if_known (constant_or ValueNotKnown terms n))
known_number [] n low = low
known_number (term ∷ terms) n low = tt

seen_numbered : (text : InsnText) (values : Values) (shown : Slot) → IsNumber values.immediate → IsNumbered (seen_in text values shown)
seen_numbered text values slot.Absent low = tt
seen_numbered text values (slot.Register reg) low = tt
seen_numbered text values slot.Immediate low = low
seen_numbered text values slot.Memory low = tt
seen_numbered text values slot.Target low = tt

view_numbered : (text : InsnText) (values : Values) → IsNumber values.immediate → AreNumbered (view_in text values)
view_numbered text values low = record {
  first = seen_numbered text values text.first low;
  second = seen_numbered text values text.second low;
  third = seen_numbered text values text.third low;
}

module _ (law : ValuesFit) (pos : Pos) (tokens : List SpelledToken) (placed : Placed) (insn : View) (spelled : All IsInBytes tokens) (fit : FormsFit placed.table.symbols) where
  formed_numbered : (text : InsnText) (answer : Result ValueForms PlaceCause) → insn_by placed.syntax tokens ≡ Ok text
      → forms_of (known_in pos text placed) text.immediate.tree text.displacement.tree ≡ answer → view_formed (shape_in text) answer ≡ Some insn → AreNumbered insn
  formed_numbered text (Ok forms) read are is =
      let low = (law pos tokens text placed forms spelled fit read are).immediate in
      subst AreNumbered (same_Some (view_in text (values_in forms)) insn is)
      (view_numbered text (values_in forms) (known_number forms.immediate.terms forms.immediate.constant low))
  formed_numbered text (Err cause) read are is = absurd (none-some insn is)

  coded_numbered : (lone : Option (List ℕ)) (read : Result InsnText OperandCause) → insn_by placed.syntax tokens ≡ read → view_coded pos lone read placed ≡ Some insn → AreNumbered insn
  coded_numbered (Some bytes) (Ok text) are is = subst AreNumbered (same_Some (view_in text no_values) insn is) (view_numbered text no_values tt)
  coded_numbered (Some bytes) (Err cause) are is = absurd (none-some insn is)
  coded_numbered None (Ok text) are is = formed_numbered text (forms_of (known_in pos text placed) text.immediate.tree text.displacement.tree) are refl is
  coded_numbered None (Err cause) are is = absurd (none-some insn is)

  -- what is seen of an instruction
  seen_is_numbered : insn_view pos tokens placed ≡ Some insn → AreNumbered insn
  seen_is_numbered is = coded_numbered (lone_code placed.syntax tokens) (insn_by placed.syntax tokens) refl is

-- STATEMENTS

module _ {X : Type 0} (P : X → Type 0) where
  all_first : (xs ys : List X) → All P (xs ++ ys) → All P xs
  all_first [] ys all = All-nil P
  all_first (x ∷ xs) ys all = All-cons P x xs (All-head P x (xs ++ ys) all) (all_first xs ys (All-tail P x (xs ++ ys) all))

  all_last : (xs ys : List X) → All P (xs ++ ys) → All P ys
  all_last [] ys all = all
  all_last (x ∷ xs) ys all = all_last xs ys (All-tail P x (xs ++ ys) all)

-- what the laws say that are used
pub record Numbering : Type 0 where
  pub following : (statements : List TokenStatement) (before f : FollowedSource) → follow_all statements before ≡ Ok f
      → place_all (map (placed_part before.asked) statements) before.placed ≡ Ok f.placed
  pub split : (tokens : List SpelledToken) → labels_of tokens ++ behind_labels tokens ≡ tokens
  pub begins : FormsBeginFitting
  pub stays : FormsStayFitting
  pub values : ValuesFit

module _ (facts : Numbering) where
  -- the labels of a statement, and what stands behind them
  front_spelled : (tokens : List SpelledToken) → All IsInBytes tokens → All IsInBytes (labels_of tokens)
  front_spelled tokens all = all_first IsInBytes (labels_of tokens) (behind_labels tokens) (subst (All IsInBytes) (sym (facts.split tokens)) all)

  back_spelled : (tokens : List SpelledToken) → All IsInBytes tokens → All IsInBytes (behind_labels tokens)
  back_spelled tokens all = all_last IsInBytes (labels_of tokens) (behind_labels tokens) (subst (All IsInBytes) (sym (facts.split tokens)) all)

  part_spelled : (b : Bool) (s : TokenStatement) → IsSpelled s → IsSpelled (cond b (front s) s)
  part_spelled true s all = front_spelled s.tokens all
  part_spelled false s all = all

  parts_spelled : (asked : Bool) (statements : List TokenStatement) → All IsSpelled statements → All IsSpelled (map (placed_part asked) statements)
  parts_spelled asked [] all = All-nil IsSpelled
  parts_spelled asked (s ∷ later) all =
      All-cons IsSpelled (placed_part asked s) (map (placed_part asked) later)
      (part_spelled (asked && is_frame_body (body_of (behind_labels s.tokens))) s (All-head IsSpelled s later all))
      (parts_spelled asked later (All-tail IsSpelled s later all))

  -- labels alone
  one_placed : (s : TokenStatement) (before after : Placed) → place s before ≡ Ok after → place_all (s ∷ []) before ≡ Ok after
  unfolding place_all
  one_placed s before after is = ap (λ (r : Result Placed _). r >>= place_all []) is

  -- so it is with each instruction
  pub numbers_are_known : (statements : List TokenStatement) (no_warn asked : Bool) → All IsSpelled statements
      → (earlier : List TokenStatement) (s : TokenStatement) (later : List TokenStatement) (before : FollowedSource) (labels : Placed) (insn : View)
      → statements ≡ earlier ++ s ∷ later → follow_all earlier (nothing_followed no_warn asked) ≡ Ok before → place (front s) before.placed ≡ Ok labels
      → insn_view (pos_at s.file s.line) (behind_labels s.tokens) labels ≡ Some insn → AreNumbered insn
  numbers_are_known statements no_warn asked all earlier s later before labels insn whole before_is labels_are view =
      let split = subst (All IsSpelled) whole all in
      let one = All-head IsSpelled s later (all_last IsSpelled earlier (s ∷ later) split) in
      let fit = facts.stays (map (placed_part asked) earlier) (nothing_placed no_warn) before.placed (parts_spelled asked earlier (all_first IsSpelled earlier (s ∷ later) split))
      (facts.following earlier (nothing_followed no_warn asked) before before_is) (facts.begins no_warn) in
      let labelled = facts.stays (front s ∷ []) before.placed labels (All-cons IsSpelled (front s) [] (front_spelled s.tokens one) (All-nil IsSpelled))
      (one_placed (front s) before.placed labels labels_are) fit in
      seen_is_numbered facts.values (pos_at s.file s.line) (behind_labels s.tokens) labels insn (back_spelled s.tokens one) labelled view
