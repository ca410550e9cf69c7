-- Labels behind all symbols change no target whose form names only what was there.
use Rattle.std.proofs.Common.{◌≡◌, ◌<◌, ℕ, zero, suc, ◌+◌, ◌⊎◌, inl, inr, Bool, true, false, cond, ◌==◌, ◌&&◌, ◌||◌, not, List, [], ◌∷◌, ◌++◌, length, map, Option, None, Some, is_some, refl, sym, ap, ◌∙◌, subst, arith, length-append}
use Rattle.std.specs.Prelude.{slice_get, filter, if◌then◌else◌, All}
use Rattle.std.specs.List.{list_any}
use Rattle.std.specs.Option.{option_map, option_map_or, option_and_then}
use Rattle.std.proofs.lemmas.List.Elements.{All-head, All-tail}
use Rattle.std.proofs.lemmas.Option.{slice_get-map}
use Rattle.asm_expr.specs.declared.forms.Term.{Term}
use Rattle.asm_expr.specs.Forms.{Form, wrapped, term_of, is_kept, constant_form, before_terms, with_term, with_terms, scaled_term, plus_times}
use Rattle.asm_frags.specs.Fields.{own_place}
use Rattle.asm_frags.specs.declared.fields.Field.{Field}
use Rattle.asm_symbols.specs.declared.entries.Symbol.{Symbol}
use Rattle.asm_symbols.specs.Assigning.{form_of, form_at, Leads, straight, further, NoFormLeadsBack}
use Rattle.asm_symbols.specs.Attributes.{is_weak}
use Rattle.asm_symbols.specs.SymbolMap.{SymbolMap}
use Rattle.assigned_forms.specs.Expanding.{form_or_symbol, replacement, plus_terms, with_replaced, is_assigned, names_assigned, expanded_within, expanded}
use Rattle.assigned_forms.specs.Opened.{opened_if}
use Rattle.assigned_forms.specs.Linked.{has_place, is_one_place, comes_to_place, is_weak_alias, linked_map, linked}
use Rattle.code_functions.specs.declared.items.CodeItem.{CodeItem}
use Rattle.insn_effects.specs.Followed.{flow_by}
use Rattle.flow_graph.specs.declared.targets.Target.TheVariants.{Unknown}
use Rattle.flow_graph.specs.Targets.{lone_term, is_of_symbol, lone_symbol, is_weak_at, names_weak, by_plt, is_preemptible, meaning_target, symbol_target, field_target}
use Rattle.flow_graph.specs.Nodes.{node_by, node_of, nodes_of}
use Rattle.flow_graph.specs.AddedLabels.{IsStrongLabel, NamesOnly, AreBelow, AreBelowOrOwn, IsLabelled, FieldIsThere}

-- WHAT IS NAMED

module _ (Holds : ℕ → Type 0) where
  before_only : (b : Bool) (term : Term) (rest : List Term) → Holds term.symbol → NamesOnly Holds rest → NamesOnly Holds (cond b (term ∷ rest) rest)
  before_only true term rest one all = (one, all)
  before_only false term rest one all = all

  with_only : (terms : List Term) (more : Term) → NamesOnly Holds terms → Holds more.symbol → NamesOnly Holds (with_term terms more)
  unfolding with_term
  with_only [] more all one = before_only (is_kept more) more [] one tt
  with_only (term ∷ rest) more all one = by (term.symbol == more.symbol) (with_only rest more all.1 one)
    where
      by : (b : Bool) → NamesOnly Holds (with_term rest more)
          → NamesOnly Holds (cond b (before_terms (term_of term.symbol (wrapped (term.coefficient + more.coefficient))) rest) (term ∷ with_term rest more))
      by true later =
          before_only (is_kept (term_of term.symbol (wrapped (term.coefficient + more.coefficient)))) (term_of term.symbol (wrapped (term.coefficient + more.coefficient))) rest all.0 all.1
      by false later = (all.0, later)

  scaled_only : (factor : ℕ) (terms others : List Term) → NamesOnly Holds terms → NamesOnly Holds others → NamesOnly Holds (with_terms terms (map (scaled_term factor) others))
  unfolding with_terms
  scaled_only factor terms [] all more = all
  scaled_only factor terms (other ∷ others) all more =
      scaled_only factor (with_term terms (scaled_term factor other)) others (with_only terms (scaled_term factor other) all more.0) more.1

  plus_only : (made : Form) (factor : ℕ) (other : Form) → NamesOnly Holds made.terms → NamesOnly Holds other.terms → NamesOnly Holds (plus_times made factor other).terms
  unfolding plus_times
  plus_only made factor other all more = scaled_only factor made.terms other.terms all more

  module _ (symbols : SymbolMap) (forms : (index : ℕ) (form : Form) → form_at symbols.symbols index ≡ Some form → NamesOnly Holds form.terms) where
    replaced_only : (becomes : Form → Form) → ((form : Form) → NamesOnly Holds form.terms → NamesOnly Holds (becomes form).terms) → (symbol : ℕ) → Holds symbol
        → NamesOnly Holds (replacement becomes symbols symbol).terms
    replaced_only becomes keeps symbol holds = by (form_at symbols.symbols symbol) (forms symbol)
      where
        by : (found : Option Form) → ((form : Form) → found ≡ Some form → NamesOnly Holds form.terms) → NamesOnly Holds (form_or_symbol symbol (option_map becomes found)).terms
        by None each = (holds, tt)
        by (Some form) each = keeps form (each form refl)

    plus_terms_only : (becomes : Form → Form) → ((form : Form) → NamesOnly Holds form.terms → NamesOnly Holds (becomes form).terms) → (made : Form) (terms : List Term)
        → NamesOnly Holds made.terms → NamesOnly Holds terms → NamesOnly Holds (plus_terms (replacement becomes symbols) made terms).terms
    unfolding plus_terms
    plus_terms_only becomes keeps made [] all more = all
    plus_terms_only becomes keeps made (term ∷ terms) all more =
        plus_terms_only becomes keeps (plus_times made term.coefficient (replacement becomes symbols term.symbol)) terms
        (plus_only made term.coefficient (replacement becomes symbols term.symbol) all (replaced_only becomes keeps term.symbol more.0)) more.1

    either_only : (b : Bool) (one other : Form) → NamesOnly Holds one.terms → NamesOnly Holds other.terms → NamesOnly Holds (cond b one other).terms
    either_only true one other first second = first
    either_only false one other first second = second

    within_only : (bound : ℕ) (form : Form) → NamesOnly Holds form.terms → NamesOnly Holds (expanded_within bound symbols form).terms
    unfolding expanded_within
    within_only zero form all = all
    within_only (suc bound) form all =
        either_only (names_assigned symbols form) (with_replaced (replacement (λ next. expanded_within bound symbols next) symbols) form) form
        (plus_terms_only (λ next. expanded_within bound symbols next) (within_only bound) (constant_form form.constant) form.terms tt all) all

    -- an expansion names what the form and the forms of symbols do
    expanded_only : (form : Form) → NamesOnly Holds form.terms → NamesOnly Holds (expanded symbols form).terms
    unfolding expanded
    expanded_only form all = within_only (suc (length symbols.symbols)) form all

-- what holds of each symbol that is named
only_weaker : (Holds Also : ℕ → Type 0) → ((symbol : ℕ) → Holds symbol → Also symbol) → (terms : List Term) → NamesOnly Holds terms → NamesOnly Also terms
only_weaker Holds Also more [] all = tt
only_weaker Holds Also more (term ∷ terms) all = (more term.symbol all.0, only_weaker Holds Also more terms all.1)

-- EXPANSIONS BY FORMS ALONE

-- the law of expanded forms that is used
pub record AreExact (symbols : SymbolMap) : Type 0 where
  pub sum : (form : Form) → names_assigned symbols form ≡ true → expanded symbols form ≡ with_replaced (replacement (expanded symbols) symbols) form
  pub none : (form : Form) → names_assigned symbols form ≡ false → expanded symbols form ≡ form

-- expansions are exact where no form leads back
abbrev pub ForwardIsExact : Type 0
ForwardIsExact = (symbols : SymbolMap) → NoFormLeadsBack symbols.symbols → AreExact symbols

plus_same : (replaces others : ℕ → Form) → ((symbol : ℕ) → replaces symbol ≡ others symbol) → (made : Form) (terms : List Term)
    → plus_terms replaces made terms ≡ plus_terms others made terms
unfolding plus_terms
plus_same replaces others same made [] = refl
plus_same replaces others same made (term ∷ terms) =
    ap (λ (f : Form). plus_terms replaces (plus_times made term.coefficient f) terms) (same term.symbol)
    ∙ plus_same replaces others same (plus_times made term.coefficient (others term.symbol)) terms

becomes_same : (one other : Form → Form) → ((form : Form) → one form ≡ other form) → (symbol : ℕ) (found : Option Form)
    → form_or_symbol symbol (option_map one found) ≡ form_or_symbol symbol (option_map other found)
becomes_same one other same symbol None = refl
becomes_same one other same symbol (Some form) = same form

module _ (before after : SymbolMap) (forms : (index : ℕ) → form_at after.symbols index ≡ form_at before.symbols index) where
  assigned_same : (terms : List Term) → list_any (is_assigned after) terms ≡ list_any (is_assigned before) terms
  assigned_same [] = refl
  assigned_same (term ∷ terms) =
      ap (λ (o : Option Form). is_some o || list_any (is_assigned after) terms) (forms term.symbol)
      ∙ ap (λ (b : Bool). is_assigned before term || b) (assigned_same terms)

  replaced_same : (one other : Form → Form) → ((form : Form) → one form ≡ other form) → (symbol : ℕ) → replacement one after symbol ≡ replacement other before symbol
  replaced_same one other same symbol =
      ap (λ (o : Option Form). form_or_symbol symbol (option_map one o)) (forms symbol) ∙ becomes_same one other same symbol (form_at before.symbols symbol)

  step_same : (one other : Form → Form) → ((form : Form) → one form ≡ other form) → (form : Form)
      → (if names_assigned after form then with_replaced (replacement one after) form else form)
      ≡ (if names_assigned before form then with_replaced (replacement other before) form else form)
  step_same one other same form =
      ap (λ (b : Bool). if b then with_replaced (replacement one after) form else form) (assigned_same form.terms)
      ∙ ap (λ (f : Form). if names_assigned before form then f else form)
      (plus_same (replacement one after) (replacement other before) (replaced_same one other same) (constant_form form.constant) form.terms)

  -- with the same bound
  within_same : (bound : ℕ) (form : Form) → expanded_within bound after form ≡ expanded_within bound before form
  unfolding expanded_within
  within_same zero form = refl
  within_same (suc bound) form = step_same (λ next. expanded_within bound after next) (λ next. expanded_within bound before next) (within_same bound) form

  bound_same : (form : Form) → expanded after form ≡ expanded_within (suc (length after.symbols)) before form
  unfolding expanded
  bound_same form = within_same (suc (length after.symbols)) form

module _ (symbols : SymbolMap) (exact : AreExact symbols) where
  -- a bound more changes nothing
  again : (form : Form) (b : Bool) → names_assigned symbols form ≡ b
      → expanded_within (suc (suc (length symbols.symbols))) symbols form
      ≡ cond b (with_replaced (replacement (λ next. expanded_within (suc (length symbols.symbols)) symbols next) symbols) form) form
  unfolding expanded_within
  again form b is = ap (λ (t : Bool). cond t (with_replaced (replacement (λ next. expanded_within (suc (length symbols.symbols)) symbols next) symbols) form) form) is

  more_by : (form : Form) (b : Bool) → names_assigned symbols form ≡ b
      → cond b (with_replaced (replacement (λ next. expanded_within (suc (length symbols.symbols)) symbols next) symbols) form) form
      ≡ expanded_within (suc (length symbols.symbols)) symbols form
  unfolding expanded
  more_by form true is = sym (exact.sum form is)
  more_by form false is = sym (exact.none form is)

  one_more : (form : Form) → expanded_within (suc (suc (length symbols.symbols))) symbols form ≡ expanded_within (suc (length symbols.symbols)) symbols form
  one_more form = again form (names_assigned symbols form) refl ∙ more_by form (names_assigned symbols form) refl

  next_same : (one other : ℕ) → ((form : Form) → expanded_within one symbols form ≡ expanded_within other symbols form) → (form : Form)
      → expanded_within (suc one) symbols form ≡ expanded_within (suc other) symbols form
  unfolding expanded_within
  next_same one other same form = step_same symbols symbols (λ index. refl) (λ next. expanded_within one symbols next) (λ next. expanded_within other symbols next) same form

  -- nor do more of them
  enough : (extra bound : ℕ) → bound ≡ suc (length symbols.symbols) + extra → (form : Form) → expanded_within bound symbols form ≡ expanded symbols form
  unfolding expanded
  enough zero bound is form = let same : bound ≡ suc (length symbols.symbols) = omega (arith, is) in ap (λ (n : ℕ). expanded_within n symbols form) same
  enough (suc extra) zero is form = absurd (omega (arith, is))
  enough (suc extra) (suc bound) is form =
      next_same bound (suc (length symbols.symbols)) (enough extra bound (omega (arith, is))) form ∙ one_more form

-- maps whose symbols have the same forms expand forms alike
expanded_same : (before after : SymbolMap) (extra : ℕ) → AreExact before → ((index : ℕ) → form_at after.symbols index ≡ form_at before.symbols index)
    → length after.symbols ≡ length before.symbols + extra → (form : Form) → expanded after form ≡ expanded before form
expanded_same before after extra exact forms long form =
    bound_same before after forms form ∙ enough before exact extra (suc (length after.symbols)) (omega (arith, long)) form

-- LABELS

-- what is the same of a label and of no symbol is the same of the symbols at an index
kept_by : {X : Type 0} (f : Option Symbol → X) → ((label : Symbol) → IsStrongLabel label → f (Some label) ≡ f None) → (symbols labels : List Symbol) → All IsStrongLabel labels
    → (index : ℕ) → f (slice_get (symbols ++ labels) index) ≡ f (slice_get symbols index)
kept_by f same [] [] each index = refl
kept_by f same [] (label ∷ labels) each zero = same label (All-head IsStrongLabel label labels each)
kept_by f same [] (label ∷ labels) each (suc index) = kept_by f same [] labels (All-tail IsStrongLabel label labels each) index
kept_by f same (symbol ∷ symbols) labels each zero = refl
kept_by f same (symbol ∷ symbols) labels each (suc index) = kept_by f same symbols labels each index

front_there : (symbols labels : List Symbol) (index : ℕ) → index < length symbols → slice_get (symbols ++ labels) index ≡ slice_get symbols index
front_there [] labels index low = absurd (omega (arith, low))
front_there (symbol ∷ symbols) labels zero low = refl
front_there (symbol ∷ symbols) labels (suc index) low = front_there symbols labels index (omega (arith, low))

-- a label has no form, also where it counts as undefined
no_form : (label : Symbol) → IsStrongLabel label → form_of label.meaning ≡ None
no_form label is = ap form_of is.means

no_opened_form : (b : Bool) (label : Symbol) → IsStrongLabel label → form_of (opened_if b label).meaning ≡ None
no_opened_form true label is = refl
no_opened_form false label is = no_form label is

-- what leads nowhere new leads back nowhere
led_before : (old new : List Symbol) → ((index : ℕ) (form : Form) → form_at new index ≡ Some form → form_at old index ≡ Some form) → (form : Form) (index : ℕ)
    → Leads new form index → Leads old form index
led_before old new kept form index (straight last named) = straight last named
led_before old new kept form index (further middle last next leads is named) = further middle last next (led_before old new kept form middle leads) (kept middle next is) named

forward_where : (old new : List Symbol) → ((index : ℕ) (form : Form) → form_at new index ≡ Some form → form_at old index ≡ Some form) → NoFormLeadsBack old → NoFormLeadsBack new
forward_where old new kept forward index form is leads = forward index form (kept index form is) (led_before old new kept form index leads)

-- the form of a symbol at an index of the linked map
abbrev linked_by : SymbolMap → Option Symbol → Option Form
linked_by symbols found = option_and_then (λ symbol. form_of symbol.meaning) (option_map (λ symbol. opened_if (is_weak_alias symbols symbol) symbol) found)

linked_at : (symbols : SymbolMap) (index : ℕ) → form_at (linked_map symbols).symbols index ≡ linked_by symbols (slice_get symbols.symbols index)
unfolding linked_map
linked_at symbols index = ap (option_and_then (λ (s : Symbol). form_of s.meaning)) (slice_get-map (λ symbol. opened_if (is_weak_alias symbols symbol) symbol) symbols.symbols index)

mapped_long : (change : Symbol → Symbol) (symbols : List Symbol) → length (map change symbols) ≡ length symbols
mapped_long change [] = refl
mapped_long change (symbol ∷ symbols) = ap suc (mapped_long change symbols)

linked_long : (symbols : SymbolMap) → length (linked_map symbols).symbols ≡ length symbols.symbols
unfolding linked_map
linked_long symbols = mapped_long (λ symbol. opened_if (is_weak_alias symbols symbol) symbol) symbols.symbols

linked_stood : (symbols : SymbolMap) (index : ℕ) (form : Form) → form_at (linked_map symbols).symbols index ≡ Some form → form_at symbols.symbols index ≡ Some form
linked_stood symbols index form is = by (slice_get symbols.symbols index) (sym (linked_at symbols index) ∙ is)
  where
    opened : (b : Bool) (symbol : Symbol) → form_of (opened_if b symbol).meaning ≡ Some form → form_of symbol.meaning ≡ Some form
    opened true symbol has = absurd cc
    opened false symbol has = has

    by : (found : Option Symbol) → linked_by symbols found ≡ Some form → option_and_then (λ symbol. form_of symbol.meaning) found ≡ Some form
    by None has = absurd cc
    by (Some symbol) has = opened (is_weak_alias symbols symbol) symbol has

module _ (exact : ForwardIsExact) (before after : SymbolMap) (gets : IsLabelled before after) where
  abbrev labels : List Symbol
  labels = gets.adds.labels

  abbrev count : ℕ
  count = length before.symbols

  kept : {X : Type 0} (f : Option Symbol → X) → ((label : Symbol) → IsStrongLabel label → f (Some label) ≡ f None) → (index : ℕ)
      → f (slice_get after.symbols index) ≡ f (slice_get before.symbols index)
  kept f same index =
      ap (λ (all : List Symbol). f (slice_get all index)) gets.adds.all ∙ kept_by f same before.symbols labels gets.adds.each index

  there : (index : ℕ) → index < count → slice_get after.symbols index ≡ slice_get before.symbols index
  there index low = ap (λ (all : List Symbol). slice_get all index) gets.adds.all ∙ front_there before.symbols labels index low

  long : length after.symbols ≡ count + length labels
  long = ap (λ (all : List Symbol). length all) gets.adds.all ∙ length-append before.symbols labels

  -- forms and expansions stay
  forms_stay : (index : ℕ) → form_at after.symbols index ≡ form_at before.symbols index
  forms_stay = kept (option_and_then (λ (symbol : Symbol). form_of symbol.meaning)) no_form

  expansions_stay : (form : Form) → expanded after form ≡ expanded before form
  expansions_stay = expanded_same before after (length labels) (exact before gets.forward) forms_stay long

  -- weak symbols stay
  weak_stay : (index : ℕ) → is_weak_at after index ≡ is_weak_at before index
  weak_stay = kept (λ (found : Option Symbol). option_map_or (λ (symbol : Symbol). is_weak symbol.binding) found false) (λ label is. is.strong)

  weak_names_stay : (terms : List Term) → list_any (λ term. is_weak_at after term.symbol) terms ≡ list_any (λ term. is_weak_at before term.symbol) terms
  weak_names_stay [] = refl
  weak_names_stay (term ∷ terms) =
      ap (λ (b : Bool). b || list_any (λ term. is_weak_at after term.symbol) terms) (weak_stay term.symbol)
      ∙ ap (λ (b : Bool). is_weak_at before term.symbol || b) (weak_names_stay terms)

  -- so do places of terms that were there
  placed_stay : (terms : List Term) → AreBelow count terms → is_one_place after terms ≡ is_one_place before terms
  placed_stay [] all = refl
  placed_stay (term ∷ []) all =
      ap (λ (found : Option Symbol). (term.coefficient == 1) && option_map_or (λ (symbol : Symbol). has_place symbol.meaning) found false) (there term.symbol all.0)
  placed_stay (one ∷ other ∷ terms) all = refl

  -- and weak aliases
  alias_stays : (symbol : Symbol) (index : ℕ) → slice_get before.symbols index ≡ Some symbol → is_weak_alias after symbol ≡ is_weak_alias before symbol
  alias_stays symbol index is =
      ap (λ (b : Bool). is_weak symbol.binding && b)
      (by (form_of symbol.meaning) (λ form has. gets.there index form (ap (option_and_then (λ (s : Symbol). form_of s.meaning)) is ∙ has)))
    where
      by : (found : Option Form) → ((form : Form) → found ≡ Some form → AreBelow count form.terms)
          → comes_to_place after (option_map (expanded after) found) ≡ comes_to_place before (option_map (expanded before) found)
      by None each = refl
      by (Some form) each =
          ap (λ (f : Form). is_one_place after f.terms) (expansions_stay form)
          ∙ placed_stay (expanded before form).terms (expanded_only (λ symbol. symbol < count) before gets.there form (each form refl))

  linked_stay : (index : ℕ) → form_at (linked_map after).symbols index ≡ form_at (linked_map before).symbols index
  linked_stay index =
      linked_at after index
      ∙ kept (linked_by after) (λ label is. no_opened_form (is_weak_alias after label) label is) index
      ∙ by (slice_get before.symbols index) refl
      ∙ sym (linked_at before index)
    where
      by : (found : Option Symbol) → slice_get before.symbols index ≡ found → linked_by after found ≡ linked_by before found
      by None is = refl
      by (Some symbol) is = ap (λ (b : Bool). form_of (opened_if b symbol).meaning) (alias_stays symbol index is)

  -- what is left to the linker stays
  linked_forms_stay : (form : Form) → linked after form ≡ linked before form
  unfolding linked
  linked_forms_stay form =
      expanded_same (linked_map before) (linked_map after) (length labels)
      (exact (linked_map before) (forward_where before.symbols (linked_map before).symbols (linked_stood before) gets.forward)) linked_stay
      (linked_long after ∙ long ∙ ap (λ (n : ℕ). n + length labels) (sym (linked_long before))) form

  preemptible_stays : (field : Field) → is_preemptible after field ≡ is_preemptible before field
  preemptible_stays field =
      ap (λ (f : Form). by_plt field.role.suffix || names_weak after f) (linked_forms_stay field.form)
      ∙ ap (λ (b : Bool). by_plt field.role.suffix || b) (weak_names_stay (linked before field.form).terms)

  -- the one symbol of a form is there
  one_below : (term : Term) (rest : List Term) → (term.symbol < count) ⊎ (term.symbol ≡ own_place) → AreBelow count rest → AreBelow count (cond (is_of_symbol term) (term ∷ rest) rest)
  one_below term rest (inl low) all = before_only (λ symbol. symbol < count) (is_of_symbol term) term rest low all
  one_below term rest (inr own) all =
      let left_out : is_of_symbol term ≡ false = ap (λ (n : ℕ). not (n == own_place)) own in
      subst (λ (b : Bool). AreBelow count (cond b (term ∷ rest) rest)) (sym left_out) all

  symbols_below : (terms : List Term) → AreBelowOrOwn count terms → AreBelow count (filter is_of_symbol terms)
  symbols_below [] all = tt
  symbols_below (term ∷ terms) all = one_below term (filter is_of_symbol terms) all.0 (symbols_below terms all.1)

  lone_low : (terms : List Term) (index : ℕ) → AreBelow count terms → lone_term terms ≡ Some index → index < count
  lone_low [] index all is = absurd cc
  lone_low (term ∷ []) index all is = by (term.coefficient == 1) is
    where
      by : (b : Bool) → (if b then Some term.symbol else None) ≡ Some index → index < count
      by true has = let same : term.symbol ≡ index = cc in subst (λ (n : ℕ). n < count) same all.0
      by false has = absurd cc
  lone_low (one ∷ other ∷ terms) index all is = absurd cc

  lone_there : (form : Form) (index : ℕ) → AreBelowOrOwn count form.terms → lone_symbol form ≡ Some index → index < count
  lone_there form index all is = by (form.constant == 0) is
    where
      by : (b : Bool) → (if b then lone_term (filter is_of_symbol form.terms) else None) ≡ Some index → index < count
      by true has = lone_low (filter is_of_symbol form.terms) index (symbols_below form.terms all) has
      by false has = absurd cc

  symbol_stays : (section : ℕ) (items : List CodeItem) (preemptible : Bool) (found : Option ℕ) → ((index : ℕ) → found ≡ Some index → index < count)
      → symbol_target after section items preemptible found ≡ symbol_target before section items preemptible found
  symbol_stays section items preemptible None low = refl
  symbol_stays section items preemptible (Some index) low =
      ap (λ (o : Option Symbol). option_map_or (λ (symbol : Symbol). meaning_target section items preemptible symbol.meaning) o Unknown) (there index (low index refl))

  -- a field leads to what it led to
  pub target_stays : (section : ℕ) (items : List CodeItem) (field : Field) → AreBelowOrOwn count field.form.terms
      → field_target after section items field ≡ field_target before section items field
  unfolding field_target
  target_stays section items field all =
      ap (λ (f : Form). symbol_target after section items (is_preemptible after field) (lone_symbol f)) (expansions_stay field.form)
      ∙ ap (λ (b : Bool). symbol_target after section items b (lone_symbol (expanded before field.form))) (preemptible_stays field)
      ∙ symbol_stays section items (is_preemptible before field) (lone_symbol (expanded before field.form))
      (λ index is. lone_there (expanded before field.form) index
      (expanded_only (λ symbol. (symbol < count) ⊎ (symbol ≡ own_place)) before
      (λ at form has. only_weaker (λ symbol. symbol < count) (λ symbol. (symbol < count) ⊎ (symbol ≡ own_place)) (λ symbol low. inl low) form.terms (gets.there at form has))
      field.form all) is)

  -- and the node of an item stays
  pub node_stays : (section : ℕ) (fields : List Field) (items : List CodeItem) (item : CodeItem) → FieldIsThere before fields item
      → node_of after section fields items item ≡ node_of before section fields items item
  node_stays section fields items item are = ap (node_by (flow_by item.effect.role)) (by (option_and_then (slice_get fields) item.field) are)
    where
      by : (found : Option Field) → ((field : Field) → found ≡ Some field → AreBelowOrOwn count field.form.terms)
          → option_map_or (field_target after section items) found Unknown ≡ option_map_or (field_target before section items) found Unknown
      by None each = refl
      by (Some field) each = target_stays section items field (each field refl)

  -- so do those of all items
  all_stay : (section : ℕ) (fields : List Field) (items those : List CodeItem) → All (FieldIsThere before fields) those
      → map (node_of after section fields items) those ≡ map (node_of before section fields items) those
  all_stay section fields items [] each = refl
  all_stay section fields items (item ∷ those) each =
      ap (λ node. node ∷ map (node_of after section fields items) those) (node_stays section fields items item (All-head (FieldIsThere before fields) item those each))
      ∙ ap (λ nodes. node_of before section fields items item ∷ nodes) (all_stay section fields items those (All-tail (FieldIsThere before fields) item those each))

  pub nodes_stay : (section : ℕ) (fields : List Field) (items : List CodeItem) → All (FieldIsThere before fields) items
      → nodes_of after section fields items ≡ nodes_of before section fields items
  unfolding nodes_of
  nodes_stay section fields items each = all_stay section fields items items each
