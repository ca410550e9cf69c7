-- The forms of assigned symbols name symbols that are there, whatever statements are placed.
use Rattle.std.proofs.Common.{◌≡◌, ◌<◌, ◌≤◌, ◌⊎◌, inl, inr, Bool, List, [], ◌∷◌, Some, Ok, subst, arith}
use Rattle.std.proofs.lemmas.Option.{none-some}
use Rattle.asm_base.specs.Tokens.{SpelledToken}
use Rattle.asm_expr.specs.Forms.{Form}
use Rattle.asm_lines.specs.NextStatements.{TokenStatement}
use Rattle.asm_symbols.specs.declared.entries.Meaning.TheVariants.{Assigned}
use Rattle.asm_symbols.specs.SymbolMap.{with_meaning}
use Rattle.asm_symbols.specs.Assigning.{form_at}
use Rattle.asm_uses.specs.Tables.{with_name}
use Rattle.asm_values.specs.Sizes.{with_words}
use Rattle.asm_values.specs.State.{Placed, nothing_placed}
use Rattle.asm_place.specs.Sources.{place, place_all}
use Rattle.flow_graph.specs.AddedLabels.{AreBelow, FormsAreThere}
use Rattle.form_laws.proofs.Assigning.{IsAssigned, Comes, statement_comes}
use Rattle.form_laws.proofs.Linear.{only_weaker}
use Rattle.form_laws.proofs.Maps.{changed_long, form_written}
use Rattle.form_laws.proofs.Naming.{tree_meant}
use Rattle.form_laws.proofs.Placing.{words_stay}
use Rattle.form_laws.proofs.TableWalks.{TablesKeep}
use Rattle.form_laws.proofs.Steps.{same_Ok, both_ok}
use Rattle.form_laws.proofs.There.{count, form_here, closes_below, there_kept}

-- how many symbols there are once an assignment has its names
assigned_more : (tokens : List SpelledToken) (before after : Placed) (is : IsAssigned tokens before after) → count (with_words is.pos is.words is.there) ≤ count after
assigned_more tokens before after is =
    let named = with_words is.pos is.words is.there in
    let long = changed_long (with_meaning (Assigned is.form)) named.table.symbols.symbols is.at in
    let more = is.later.more in
    omega (arith, long, more)

-- a statement takes no symbol away
comes_more : (tokens : List SpelledToken) (before after : Placed) → Comes tokens before after → count before ≤ count after
comes_more tokens before after (inl stays) = stays.more
comes_more tokens before after (inr is) =
    let first = is.first.more in
    let named = (words_stay is.pos is.words is.there).more in
    let last = assigned_more tokens before after is in
    omega (arith, first, named, last)

-- the form of an assignment names symbols that are there
assigned_there : (tokens : List SpelledToken) (before after : Placed) → FormsAreThere before.table.symbols → IsAssigned tokens before after → FormsAreThere after.table.symbols
assigned_there tokens before after old is index form has =
    by (form_written is.form (with_words is.pos is.words is.there).table.symbols.symbols is.at index form (is.later.forms index form has))
  where
    named_there : FormsAreThere (with_words is.pos is.words is.there).table.symbols
    named_there =
        there_kept is.there.table.symbols (with_words is.pos is.words is.there).table.symbols (words_stay is.pos is.words is.there)
        (there_kept before.table.symbols is.there.table.symbols is.first old)

    by : ((index ≡ is.at) × (is.form ≡ form)) ⊎ (form_at (with_words is.pos is.words is.there).table.symbols.symbols index ≡ Some form) → AreBelow (count after) form.terms
    by (inl this) =
        subst (λ (f : Form). AreBelow (count after) f.terms) this.1
        (closes_below (with_words is.pos is.words is.there) (count after) is.form.terms
        (form_here (with_words is.pos is.words is.there) is.words.tree is.form named_there
        (tree_meant is.pos is.words.tree (with_name is.pos is.words.name is.there.table)) is.form_is)
        (assigned_more tokens before after is) is.placed)
    by (inr stood) =
        let more = assigned_more tokens before after is in
        only_weaker (λ symbol. symbol < count (with_words is.pos is.words is.there)) (λ symbol. symbol < count after) (λ symbol low. omega (arith, low, more)) form.terms
        (named_there index form stood)

comes_there : (tokens : List SpelledToken) (before after : Placed) → FormsAreThere before.table.symbols → Comes tokens before after → FormsAreThere after.table.symbols
comes_there tokens before after old (inl stays) = there_kept before.table.symbols after.table.symbols stays old
comes_there tokens before after old (inr is) = assigned_there tokens before after old is

-- whatever statements are placed
pub stay_there : TablesKeep → (statements : List TokenStatement) (before placed : Placed) → place_all statements before ≡ Ok placed → FormsAreThere before.table.symbols
    → FormsAreThere placed.table.symbols
unfolding place_all
stay_there tables [] before placed is old = subst (λ (p : Placed). FormsAreThere p.table.symbols) (same_Ok before placed is) old
stay_there tables (s ∷ later) before placed is old =
    both_ok (place s before) (place_all later) placed is
    (λ next next_is later_is. stay_there tables later next placed later_is (comes_there s.tokens before next old (statement_comes tables s before next next_is)))

-- at the beginning
pub begin_there : (no_warn : Bool) → FormsAreThere (nothing_placed no_warn).table.symbols
begin_there no_warn index form is = absurd (none-some form is)

-- symbols do not go
pub all_more : TablesKeep → (statements : List TokenStatement) (before placed : Placed) → place_all statements before ≡ Ok placed → count before ≤ count placed
unfolding place_all
all_more tables [] before placed is = subst (λ (p : Placed). count before ≤ count p) (same_Ok before placed is) (omega arith)
all_more tables (s ∷ later) before placed is =
    both_ok (place s before) (place_all later) placed is
    (λ next next_is later_is.
    let first = comes_more s.tokens before next (statement_comes tables s before next next_is) in
    let last = all_more tables later next placed later_is in
    omega (arith, first, last))
