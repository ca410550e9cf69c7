-- The numbers in the forms of assigned symbols and of instructions have 64 bits, where tokens are spelled in bytes.
use Rattle.std.proofs.Common.{◌≡◌, ◌⊎◌, inl, inr, Bool, List, [], ◌∷◌, Some, Ok, subst}
use Rattle.std.specs.Prelude.{All}
use Rattle.std.proofs.lemmas.List.Elements.{All-head, All-tail}
use Rattle.std.proofs.lemmas.Option.{none-some}
use Rattle.asm_base.specs.Tokens.{SpelledToken}
use Rattle.asm_base.specs.declared.positions.Pos.{Pos}
use Rattle.asm_expr.specs.Forms.{Form}
use Rattle.asm_expr.specs.Trees.{Tree}
use Rattle.asm_lines.specs.NextStatements.{TokenStatement}
use Rattle.asm_operands.specs.Expressions.{form_in}
use Rattle.asm_symbols.specs.SymbolMap.{SymbolMap}
use Rattle.asm_symbols.specs.Assigning.{form_at}
use Rattle.asm_values.specs.Sizes.{with_words}
use Rattle.asm_values.specs.State.{Placed, nothing_placed, with_names, known_here}
use Rattle.asm_words.specs.declared.directives.Syntax.{Syntax}
use Rattle.asm_words.specs.declared.directives.Syntax.TheVariants.{Att, Intel}
use Rattle.amount_forms.specs.Amounts.{in_text_order}
use Rattle.att_insns.specs.InsnTexts.{InsnText}
use Rattle.asm_place.specs.Coding.{forms_of, insn_by}
use Rattle.asm_place.specs.CodePlaces.{ValueForms, known_in}
use Rattle.asm_place.specs.Sources.{place, place_all}
use Rattle.form_laws.specs.Numbers.{IsInBytes, IsSpelled, FormsFit, AreValuesFitting}
use Rattle.form_laws.proofs.Assigning.{IsAssigned, Comes, statement_comes}
use Rattle.form_laws.proofs.AttTexts.{att_fits}
use Rattle.form_laws.proofs.AttTexts as att
use Rattle.form_laws.proofs.Fitting.{Fits, NumbersFit, form_fits_here}
use Rattle.form_laws.proofs.IntelTexts.{intel_fits}
use Rattle.form_laws.proofs.IntelTexts as intel
use Rattle.form_laws.proofs.Maps.{Keeps, form_written}
use Rattle.form_laws.proofs.Placing.{names_stay, words_stay}
use Rattle.form_laws.proofs.TableWalks.{TablesKeep}
use Rattle.form_laws.proofs.Steps.{same_Ok, both_ok}
use Rattle.form_laws.proofs.Texts.{IsFitting}
use Rattle.form_laws.proofs.Trees.{ReadIsWritten, expression_fits}

fit_kept : (before after : SymbolMap) → Keeps before after → FormsFit before → FormsFit after
fit_kept before after kept fit index form is = fit index form (kept.forms index form is)

module _ (law : ReadIsWritten) where
  -- the form of an assignment
  assigned_fits : (tokens : List SpelledToken) (before after : Placed) → All IsInBytes tokens → FormsFit before.table.symbols → IsAssigned tokens before after
      → FormsFit after.table.symbols
  assigned_fits tokens before after all fit is index form has =
      by (form_written is.form (with_words is.pos is.words is.there).table.symbols.symbols is.at index form (is.later.forms index form has))
    where
      named_fit : FormsFit (with_words is.pos is.words is.there).table.symbols
      named_fit =
          fit_kept is.there.table.symbols (with_words is.pos is.words is.there).table.symbols (words_stay is.pos is.words is.there)
          (fit_kept before.table.symbols is.there.table.symbols is.first fit)

      by : ((index ≡ is.at) × (is.form ≡ form)) ⊎ (form_at (with_words is.pos is.words is.there).table.symbols.symbols index ≡ Some form) → Fits form.constant
      by (inl this) =
          subst (λ (f : Form). Fits f.constant) this.1
          (form_fits_here (with_words is.pos is.words is.there) is.words.tree is.form named_fit (expression_fits law is.read.read is.words.tree (is.read.among all) is.read.reads)
          is.form_is)
      by (inr stood) = named_fit index form stood

  comes_fit : (tokens : List SpelledToken) (before after : Placed) → All IsInBytes tokens → FormsFit before.table.symbols → Comes tokens before after → FormsFit after.table.symbols
  comes_fit tokens before after all fit (inl stays) = fit_kept before.table.symbols after.table.symbols stays fit
  comes_fit tokens before after all fit (inr is) = assigned_fits tokens before after all fit is

  -- whatever statements are placed
  pub stay_fitting : TablesKeep → (statements : List TokenStatement) (before placed : Placed) → All IsSpelled statements → place_all statements before ≡ Ok placed
      → FormsFit before.table.symbols → FormsFit placed.table.symbols
  unfolding place_all
  stay_fitting tables [] before placed all is fit = subst (λ (p : Placed). FormsFit p.table.symbols) (same_Ok before placed is) fit
  stay_fitting tables (s ∷ later) before placed all is fit =
      both_ok (place s before) (place_all later) placed is
      (λ next next_is later_is.
      stay_fitting tables later next placed (All-tail IsSpelled s later all) later_is
      (comes_fit s.tokens before next (All-head IsSpelled s later all) fit (statement_comes tables s before next next_is)))

-- at the beginning
pub begin_fitting : (no_warn : Bool) → FormsFit (nothing_placed no_warn).table.symbols
begin_fitting no_warn index form is = absurd (none-some form is)

-- INSTRUCTIONS

read_fits : att.ReadIsSpelled → intel.ReadIsSpelled → (syntax : Syntax) (tokens : List SpelledToken) (text : InsnText) → All IsInBytes tokens → insn_by syntax tokens ≡ Ok text
    → IsFitting text
read_fits first second Att tokens text all is = att_fits first tokens text all is
read_fits first second Intel tokens text all is = intel_fits second tokens text all is

values_by : (named : Placed) (own moved : Tree) (forms : ValueForms) → FormsFit named.table.symbols → NumbersFit own → NumbersFit moved
    → forms_of (known_here named) own moved ≡ Ok forms → AreValuesFitting forms
values_by named own moved forms fit first second is =
    both_ok (form_in (known_here named) own) _ forms is (λ one one_is more.
    both_ok (form_in (known_here named) moved) _ forms more (λ other other_is made_is.
    subst AreValuesFitting (same_Ok _ forms made_is)
    (record { immediate = form_fits_here named own one fit first one_is; displacement = form_fits_here named moved other fit second other_is })))

pub values_fit : att.ReadIsSpelled → intel.ReadIsSpelled → (pos : Pos) (tokens : List SpelledToken) (text : InsnText) (placed : Placed) (forms : ValueForms) → All IsInBytes tokens
    → FormsFit placed.table.symbols → insn_by placed.syntax tokens ≡ Ok text
    → forms_of (known_in pos text placed) text.immediate.tree text.displacement.tree ≡ Ok forms → AreValuesFitting forms
values_fit first second pos tokens text placed forms all fit read is =
    let trees = in_text_order placed.syntax text.immediate.tree text.displacement.tree in
    let fits = read_fits first second placed.syntax tokens text all read in
    values_by (with_names pos trees placed) text.immediate.tree text.displacement.tree forms
    (fit_kept placed.table.symbols (with_names pos trees placed).table.symbols (names_stay pos trees placed) fit) fits.immediate fits.displacement is
