-- The forms of instructions that are placed name symbols that are there in the end.
use Rattle.std.proofs.Common.{◌≡◌, ◌<◌, ◌≤◌, ◌⊎◌, inl, inr, ℕ, Bool, true, false, cond, ◌||◌, List, [], ◌∷◌, Option, None, Some, Result, Ok, Err, refl, sym, ap, subst, ◌∙◌, arith}
use Rattle.std.specs.Prelude.{◌&&◌, not}
use Rattle.std.proofs.lemmas.Option.{none-some, same_Some}
use Rattle.asm_base.specs.Refusals.{◌>>=◌}
use Rattle.asm_base.specs.Tokens.{SpelledToken}
use Rattle.asm_base.specs.declared.notes.Noted.{Noted}
use Rattle.asm_base.specs.declared.positions.Pos.{Pos}
use Rattle.asm_expr.specs.declared.forms.Term.{Term}
use Rattle.asm_expr.specs.Forms.{Form, symbol_form}
use Rattle.asm_expr.specs.Trees.{Tree}
use Rattle.asm_frags.specs.Fields.{own_place}
use Rattle.asm_lines.specs.NextStatements.{TokenStatement}
use Rattle.asm_operands.specs.declared.place_faults.PlaceCause.{PlaceCause}
use Rattle.asm_operands.specs.declared.place_faults.PlaceCause.TheVariants.{NumberTooWide}
use Rattle.asm_operands.specs.Operands.{is_name, is_dot, names_symbol, is_assignment, begins_with_dot, is_label}
use Rattle.asm_operands.specs.Expressions.{form_in}
use Rattle.asm_symbols.specs.declared.entries.Definition.TheVariants.{Label}
use Rattle.asm_symbols.specs.Defining.{defined}
use Rattle.asm_uses.specs.Labels.{label_symbol}
use Rattle.asm_uses.specs.Places.{uses_place}
use Rattle.asm_uses.specs.Tables.{changed_by, naming_of}
use Rattle.asm_values.specs.State.{Placed, with_table, with_names, here, known_here, unless_dot}
use Rattle.asm_words.specs.declared.directives.Syntax.{Syntax}
use Rattle.asm_words.specs.declared.directives.Syntax.TheVariants.{Att, Intel}
use Rattle.amount_forms.specs.Amounts.{in_text_order}
use Rattle.att_operands.specs.declared.faults.OperandCause.{OperandCause}
use Rattle.att_insns.specs.InsnTexts.{InsnText}
use Rattle.x86_insn.specs.declared.amounts.FieldKind.{FieldKind}
use Rattle.x86_insn.specs.declared.amounts.FieldKind.TheVariants as kind
use Rattle.asm_place.specs.Coding.{shape_in, forms_of, from_own_place, held_form, keeps_place, put_named, place_insn, place_text, place_read, lone_code, insn_by, place_coded, place_instruction}
use Rattle.asm_place.specs.CodePlaces.{ValueForms, text_read, insn_written, insn_in, labelled, known_in}
use Rattle.asm_place.specs.Instructions.{behind_labels}
use Rattle.asm_place.specs.Placing.{place_body, place_label, place_unlabelled, place_labelled, place_tokens, has_wide_label}
use Rattle.asm_place.specs.Sources.{pos_at, located, place, place_all}
use Rattle.flow_graph.specs.AddedLabels.{NamesOnly, AreBelow, AreBelowOrOwn, FormsAreThere}
use Rattle.form_laws.specs.Forms.{AreValuesBelow}
use Rattle.form_laws.proofs.Assigning.{labels_walk}
use Rattle.form_laws.proofs.Below.{all_more}
use Rattle.form_laws.proofs.Linear.{only_weaker, plus_only}
use Rattle.form_laws.proofs.Naming.{EachName, IsMeant, both_meant}
use Rattle.form_laws.proofs.Placing.{names_stay, named_closes}
use Rattle.form_laws.proofs.TableWalks.{TablesKeep}
use Rattle.form_laws.proofs.Steps.{Fine, made, refused, weaker, step, after, either, held, err-ok, same_Ok, both_ok}
use Rattle.form_laws.proofs.There.{count, IsHere, form_here, second_true, closes_below, there_kept}

-- THE STATEMENT

two_steps : {A E : Type 0} (first : Result A E) (f g more : A → Result A E) → ((x : A) → f x ≡ (g x >>= more)) → (first >>= f) ≡ ((first >>= g) >>= more)
two_steps (Ok x) f g more same = same x
two_steps (Err fault) f g more same = refl

-- a statement is its labels, and then what stands behind them
label_splits : (test : Bool) (pos : Pos) (first second : SpelledToken) (rest : List SpelledToken) (placed : Placed)
    → ((labels : Placed) → place_labelled pos rest labels ≡ (labelled pos rest labels >>= place_unlabelled pos (behind_labels rest)))
    → cond test (place_label pos first placed >>= (λ labels. place_labelled pos rest labels)) (place_body pos first (second ∷ rest) placed)
    ≡ (cond test (place_label pos first placed >>= (λ labels. labelled pos rest labels)) (Ok placed) >>= place_unlabelled pos
    (cond test (behind_labels rest) (first ∷ second ∷ rest)))
unfolding place_unlabelled
label_splits true pos first second rest placed again =
    two_steps (place_label pos first placed) (λ labels. place_labelled pos rest labels) (λ labels. labelled pos rest labels)
    (place_unlabelled pos (behind_labels rest)) again
label_splits false pos first second rest placed again = refl

labels_split : (pos : Pos) (tokens : List SpelledToken) (placed : Placed)
    → place_labelled pos tokens placed ≡ (labelled pos tokens placed >>= place_unlabelled pos (behind_labels tokens))
unfolding place_labelled labelled behind_labels place_unlabelled
labels_split pos [] placed = refl
labels_split pos (first ∷ []) placed = refl
labels_split pos (first ∷ second ∷ rest) placed = label_splits (is_label first second) pos first second rest placed (labels_split pos rest)

-- labels keep the syntax
abbrev KeepsSyntax : Placed → Placed → Type 0
KeepsSyntax before after = after.syntax ≡ before.syntax

dot_keeps : (dot : Bool) (before placed : Placed) → KeepsSyntax before placed → Fine (KeepsSyntax before) (unless_dot dot placed)
dot_keeps true before placed keeps = refused _
dot_keeps false before placed keeps = made placed keeps

label_keeps : (pos : Pos) (token : SpelledToken) (placed : Placed) → Fine (KeepsSyntax placed) (place_label pos token placed)
unfolding place_label
label_keeps pos token placed =
    after (label_symbol pos token placed.table >>= changed_by (λ map index. defined map index (Label (here placed))))
    (λ table. dot_keeps (is_dot token) placed (with_table placed table) refl)

labels_keep : (pos : Pos) (tokens : List SpelledToken) (placed : Placed) → Fine (KeepsSyntax placed) (labelled pos tokens placed)
unfolding labelled
labels_keep pos [] placed = made _ refl
labels_keep pos (token ∷ []) placed = made _ refl
labels_keep pos (first ∷ second ∷ rest) placed =
    either (is_label first second)
    (step (label_keeps pos first placed) (λ labels same. weaker (labels_keep pos rest labels) (λ after later. later ∙ same)))
    (made _ refl)

-- what stands behind the labels is the instruction
body_test : (assigns named dotted : Bool) (written : Option InsnText) (text : InsnText) (assignment unnamed directive instruction : Result Placed PlaceCause)
    → cond assigns None (cond (named && not dotted) written None) ≡ Some text
    → (written ≡ Some text) × (cond assigns assignment (cond (not named) unnamed (cond dotted directive instruction)) ≡ instruction)
body_test true named dotted written text assignment unnamed directive instruction is = absurd (none-some text is)
body_test false true true written text assignment unnamed directive instruction is = absurd (none-some text is)
body_test false true false written text assignment unnamed directive instruction is = (is, refl)
body_test false false dotted written text assignment unnamed directive instruction is = absurd (none-some text is)

read_is : (pos : Pos) (lone : Option (List ℕ)) (read : Result InsnText OperandCause) (text : InsnText) (placed : Placed) (tokens : List SpelledToken)
    → insn_by placed.syntax tokens ≡ read
    → text_read lone read ≡ Some text → place_coded pos lone tokens placed ≡ place_text pos text placed
read_is pos (Some bytes) read text placed tokens of is = absurd (none-some text is)
read_is pos None (Ok found) text placed tokens of is =
    ap (λ r. place_read pos r placed) of ∙ ap (λ t. place_text pos t placed) (same_Some found text is)
read_is pos None (Err fault) text placed tokens of is = absurd (none-some text is)

no_tokens : {C : Type 0} (syntax : Syntax) (text : InsnText) → insn_written syntax [] ≡ Some text → C
unfolding insn_written
no_tokens syntax text is = absurd (none-some text is)

body_is : (pos : Pos) (first : SpelledToken) (rest : List SpelledToken) (text : InsnText) (placed : Placed)
    → insn_written placed.syntax (first ∷ rest) ≡ Some text → place_body pos first rest placed ≡ place_text pos text placed
unfolding insn_written place_body place_instruction
body_is pos first rest text placed is =
    let tokens = first ∷ rest in
    let lone = lone_code placed.syntax tokens in
    let read = insn_by placed.syntax tokens in
    let parts = body_test (names_symbol first && is_assignment rest) (is_name first) (begins_with_dot first.bytes) (text_read lone read) text _ _ _ _ is in
    parts.1 ∙ read_is pos lone read text placed tokens refl parts.0

unlabelled_is : (pos : Pos) (tokens : List SpelledToken) (text : InsnText) (placed : Placed) → insn_written placed.syntax tokens ≡ Some text
    → place_unlabelled pos tokens placed ≡ place_text pos text placed
unfolding place_unlabelled
unlabelled_is pos [] text placed is = no_tokens placed.syntax text is
unlabelled_is pos (first ∷ rest) text placed is = body_is pos first rest text placed is

wide_ok : (wide : Bool) (answer : Result Placed PlaceCause) (placed : Placed) → cond wide (Err NumberTooWide) answer ≡ Ok placed → answer ≡ Ok placed
wide_ok true answer placed is = err-ok _ placed is
wide_ok false answer placed is = is

located_ok : (s : TokenStatement) (notes : List Noted) (answer : Result Placed PlaceCause) (next : Placed) → located s notes answer ≡ Ok next → answer ≡ Ok next
located_ok s notes (Ok more) next is = ap Ok (same_Ok more next is)
located_ok s notes (Err fault) next is = err-ok _ next is

-- the instruction is placed behind its labels
rest_is : (pos : Pos) (tokens : List SpelledToken) (text : InsnText) (placed labels next : Placed) → insn_written placed.syntax (behind_labels tokens) ≡ Some text
    → labelled pos tokens placed ≡ Ok labels → place_tokens pos tokens placed ≡ Ok next → place_text pos text labels ≡ Ok next
unfolding place_tokens
rest_is pos tokens text placed labels next written labels_are is =
    let keeps : labels.syntax ≡ placed.syntax = held {P = KeepsSyntax placed} labels labels_are (labels_keep pos tokens placed) in
    let whole = sym (labels_split pos tokens placed) ∙ wide_ok (has_wide_label tokens) (place_labelled pos tokens placed) next is in
    let behind = sym (ap (λ r. r >>= place_unlabelled pos (behind_labels tokens)) labels_are) ∙ whole in
    sym (unlabelled_is pos (behind_labels tokens) text labels (ap (λ syntax. insn_written syntax (behind_labels tokens)) keeps ∙ written)) ∙ behind

statement_is : (s : TokenStatement) (text : InsnText) (placed labels next : Placed) → insn_in placed.syntax s ≡ Some text
    → labelled (pos_at s.file s.line) s.tokens placed ≡ Ok labels → place s placed ≡ Ok next → place_text (pos_at s.file s.line) text labels ≡ Ok next
unfolding place
statement_is s text placed labels next written labels_are is =
    rest_is (pos_at s.file s.line) s.tokens text placed labels next written labels_are
    (located_ok s placed.notes (place_tokens (pos_at s.file s.line) s.tokens placed) next is)

-- ITS FORMS

-- the names of both values are symbols
order_meant : (pos : Pos) (syntax : Syntax) (own moved : Tree) (placed : Placed)
    → EachName (IsMeant (with_names pos (in_text_order syntax own moved) placed).table.symbols) own
    × EachName (IsMeant (with_names pos (in_text_order syntax own moved) placed).table.symbols) moved
order_meant pos Att own moved placed = both_meant pos own moved placed.table
order_meant pos Intel own moved placed = let both = both_meant pos moved own placed.table in (both.1, both.0)

-- both forms name symbols that are there, or the place
record AreHere (named : Placed) (forms : ValueForms) : Type 0 where
  immediate : NamesOnly (IsHere named) forms.immediate.terms
  displacement : NamesOnly (IsHere named) forms.displacement.terms

values_here : (named : Placed) (own moved : Tree) (forms : ValueForms) → FormsAreThere named.table.symbols
    → EachName (IsMeant named.table.symbols) own → EachName (IsMeant named.table.symbols) moved → forms_of (known_here named) own moved ≡ Ok forms → AreHere named forms
values_here named own moved forms there first second is =
    both_ok (form_in (known_here named) own) _ forms is (λ one one_is more.
    both_ok (form_in (known_here named) moved) _ forms more (λ other other_is made_is.
    subst (AreHere named) (same_Ok _ forms made_is)
    (record { immediate = form_here named own one there first one_is; displacement = form_here named moved other there second other_is })))

module _ (pos : Pos) (text : InsnText) (labels : Placed) where
  abbrev trees : List Tree
  trees = in_text_order labels.syntax text.immediate.tree text.displacement.tree

  abbrev named : Placed
  named = with_names pos trees labels

  -- what is placed is put with these forms
  put_is : (forms : ValueForms) (next : Placed) → forms_of (known_in pos text labels) text.immediate.tree text.displacement.tree ≡ Ok forms → place_text pos text labels ≡ Ok next
      → put_named pos (shape_in text) (naming_of trees labels.table) forms named ≡ Ok next
  unfolding place_insn
  put_is forms next forms_are is =
      sym (ap (λ (r : Result ValueForms PlaceCause). r >>= λ those. put_named pos (shape_in text) (naming_of trees labels.table) those named) forms_are) ∙ is

  -- so they name symbols that are there in the end
  text_below : (forms : ValueForms) (next : Placed) (many : ℕ) → FormsAreThere labels.table.symbols
      → forms_of (known_in pos text labels) text.immediate.tree text.displacement.tree ≡ Ok forms → place_text pos text labels ≡ Ok next → count next ≤ many
      → AreValuesBelow many forms
  text_below forms next many there forms_are is more =
      let closes = held next (put_is forms next forms_are is) (named_closes pos (shape_in text) (naming_of trees labels.table) forms named) in
      let names = order_meant pos labels.syntax text.immediate.tree text.displacement.tree labels in
      let here = values_here named text.immediate.tree text.displacement.tree forms
      (there_kept labels.table.symbols named.table.symbols (names_stay pos trees labels) there) names.0 names.1 forms_are in
      let grown = closes.kept.more in
      record {
        immediate = closes_below named many forms.immediate.terms here.immediate (omega (arith, grown, more))
            (λ uses. let low = closes.placed (first_uses uses) in omega (arith, low, more));
        displacement = closes_below named many forms.displacement.terms here.displacement (omega (arith, grown, more))
            (λ uses. let low = closes.placed (second_uses uses) in omega (arith, low, more));
      }
    where
      first_uses : uses_place (known_here named).place forms.immediate ≡ true → keeps_place (known_here named).place forms ≡ true
      first_uses uses = ap (λ (b : Bool). b || uses_place (known_here named).place forms.displacement) uses

      second_uses : uses_place (known_here named).place forms.displacement ≡ true → keeps_place (known_here named).place forms ≡ true
      second_uses uses = second_true (uses_place (known_here named).place forms.immediate) (uses_place (known_here named).place forms.displacement) uses

pub values_there : TablesKeep → (s : TokenStatement) (later : List TokenStatement) (before whole labels : Placed) (text : InsnText) (forms : ValueForms)
    → FormsAreThere before.table.symbols → insn_in before.syntax s ≡ Some text → labelled (pos_at s.file s.line) s.tokens before ≡ Ok labels
    → forms_of (known_in (pos_at s.file s.line) text labels) text.immediate.tree text.displacement.tree ≡ Ok forms → place_all (s ∷ later) before ≡ Ok whole
    → AreValuesBelow (count whole) forms
unfolding place_all
values_there tables s later before whole labels text forms there written labels_are forms_are is =
    both_ok (place s before) (place_all later) whole is
    (λ next next_is later_is.
    let kept = held labels labels_are (labels_walk (pos_at s.file s.line) s.tokens before) in
    text_below (pos_at s.file s.line) text labels forms next (count whole) (there_kept before.table.symbols labels.table.symbols kept there) forms_are
    (statement_is s text before labels next written labels_are next_is) (all_more tables later next whole later_is))

-- ITS FIELDS

or_own : (count' : ℕ) (terms : List Term) → AreBelow count' terms → AreBelowOrOwn count' terms
or_own count' terms all = only_weaker (λ symbol. symbol < count') (λ symbol. (symbol < count') ⊎ (symbol ≡ own_place)) (λ symbol low. inl low) terms all

from_own : (count' : ℕ) (form : Form) → AreBelow count' form.terms → AreBelowOrOwn count' (from_own_place form).terms
from_own count' form all =
    plus_only (λ symbol. (symbol < count') ⊎ (symbol ≡ own_place)) form _ (symbol_form own_place) (or_own count' form.terms all) (inr refl, tt)

-- what a field holds of a form names the same symbols, or its own place besides
pub held_there : (count' : ℕ) (kind : FieldKind) (form : Form) → AreBelow count' form.terms → AreBelowOrOwn count' (held_form kind form).terms
held_there count' kind.Plain form all = or_own count' form.terms all
held_there count' kind.Signed form all = or_own count' form.terms all
held_there count' kind.Address form all = from_own count' form all
held_there count' kind.Branch form all = from_own count' form all
held_there count' kind.Number form all = or_own count' form.terms all
