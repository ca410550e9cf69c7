-- The names that statements give symbols are texts and numeric labels: a symbol that has any other name, which is that of a place, is a label there.
use Rattle.std.proofs.Common.{◌≡◌, ℕ, suc, ◌+◌, Bool, true, false, cond, inl, List, [], ◌∷◌, All, Option, None, Some, refl, sym, ap, subst, ◌∙◌, arith}
use Rattle.std.specs.Prelude.{slice_get, option_and_then, option_map}
use Rattle.std.proofs.lemmas.List.Elements.{All-nil, All-cons}
use Rattle.std.proofs.lemmas.Option.{none-some, same_Some}
use Rattle.asm_base.specs.Tokens.{SpelledToken}
use Rattle.asm_expr.specs.declared.naming.Name.{Name}
use Rattle.asm_expr.specs.declared.naming.Name.TheVariants as naming
use Rattle.asm_expr.specs.Names.{same_name}
use Rattle.asm_expr.specs.declared.trees.Written.{Written}
use Rattle.asm_expr.specs.declared.trees.Written.TheVariants.{Plain, Back, Next}
use Rattle.asm_operands.specs.declared.place_faults.PlaceCause.{PlaceCause}
use Rattle.asm_operands.specs.Expressions.{first_tree, no_more}
use Rattle.asm_operands.specs.NamedTrees.{plain_of, NamedTree, named_tree}
use Rattle.asm_operands.specs.Operands.{name_of, each, needed}
use Rattle.asm_symbols.specs.declared.entries.Binding.{Binding}
use Rattle.asm_symbols.specs.declared.entries.Meaning.{Meaning}
use Rattle.asm_symbols.specs.declared.entries.Meaning.TheVariants as meaning
use Rattle.asm_symbols.specs.declared.entries.Symbol.{Symbol}
use Rattle.asm_base.specs.declared.causes.SymCause.TheVariants.{SymbolAlreadyDefined, BadSymbolUse}
use Rattle.asm_symbols.specs.Assigning.{is_dot, form_fault_of, form_fault_at}
use Rattle.asm_symbols.specs.Counting.{meant_name}
use Rattle.asm_symbols.specs.SymbolMap.{SymbolMap, names, index_of}
use Rattle.asm_words.specs.declared.symbol_kinds.NamedKind.{NamedKind}
use Rattle.asm_words.specs.SymbolKinds.{kind_of, named_kind}
use Rattle.asm_place.specs.SymbolPlaces.{IsGiven, NameStands}
use Rattle.asm_place.proofs.Walks.{Fine, made, refused, step, after}

-- WHAT HAS A NAME

-- with a name that statements give a symbol may be anything
pub given_stands : (name : Name) (binding : Option Binding) (meant : Meaning) → IsGiven name → NameStands name binding meant
given_stands name binding meaning.Undefined given = given
given_stands name binding (meaning.Label spot) given = inl given
given_stands name binding (meaning.Common size align) given = given
given_stands name binding (meaning.Space spot) given = given
given_stands name binding (meaning.Assigned form) given = given

-- the symbol at this index has such a name
abbrev pub GivenAt : SymbolMap → ℕ → Type 0
GivenAt map index = (symbol : Symbol) → slice_get map.symbols index ≡ Some symbol → IsGiven symbol.name

-- what has the same name as one that statements give has such a name
same_given : (name first : Name) → same_name name first ≡ true → IsGiven name → IsGiven first
same_given name (naming.Plain text) is given = tt
same_given name (naming.Numeric number instance) is given = tt
same_given (naming.Plain text) (naming.Place section item offset) is given = absurd cc
same_given (naming.Numeric number instance) (naming.Place section item offset) is given = absurd cc
same_given (naming.Place own place behind) (naming.Place section item offset) is given = absurd given

further_given : (first : Symbol) (rest : List Symbol) (index : ℕ) (symbol : Symbol) (found : Option ℕ)
    → ((number : ℕ) → found ≡ Some number → slice_get rest number ≡ Some symbol → IsGiven symbol.name)
    → option_map (λ index. index + 1) found ≡ Some index → slice_get (first ∷ rest) index ≡ Some symbol → IsGiven symbol.name
further_given first rest index symbol None below is there = absurd (none-some index is)
further_given first rest index symbol (Some number) below is there =
    let next : number + 1 ≡ index = same_Some (number + 1) index is in
    let step : index ≡ suc number = omega (arith, next) in
    below number refl (subst (λ (i : ℕ). slice_get (first ∷ rest) i ≡ Some symbol) step there)

first_given : (name : Name) (first : Symbol) (rest : List Symbol) (index : ℕ) (symbol : Symbol) (same : Bool) (found : Option ℕ) → IsGiven name
    → same_name name first.name ≡ same → ((number : ℕ) → found ≡ Some number → slice_get rest number ≡ Some symbol → IsGiven symbol.name)
    → cond same (Some 0) (option_map (λ index. index + 1) found) ≡ Some index → slice_get (first ∷ rest) index ≡ Some symbol → IsGiven symbol.name
first_given name first rest index symbol true found given same below is there =
    let zero_is : 0 ≡ index = same_Some 0 index is in
    subst (λ (s : Symbol). IsGiven s.name) (same_Some first symbol (subst (λ (i : ℕ). slice_get (first ∷ rest) i ≡ Some symbol) (sym zero_is) there))
    (same_given name first.name same given)
first_given name first rest index symbol false found given same below is there = further_given first rest index symbol found below is there

-- so has the symbol that is found by one
pub found_given : (name : Name) → IsGiven name → (symbols : List Symbol) (index : ℕ) → index_of name (names symbols) ≡ Some index
    → (symbol : Symbol) → slice_get symbols index ≡ Some symbol → IsGiven symbol.name
found_given name given [] index is symbol there = absurd (none-some index is)
found_given name given (first ∷ rest) index is symbol there =
    first_given name first rest index symbol (same_name name first.name) (index_of name (names rest)) given refl
    (λ number at stands. found_given name given rest number at symbol stands) is there

-- a symbol that takes a form has such a name: a label takes none
name_takes : (name : Name) (binding : Option Binding) (meant : Meaning) (once : Bool) → cond (is_dot name) (Some BadSymbolUse) (form_fault_of meant once) ≡ None → NameStands name binding meant → IsGiven name
name_takes (naming.Plain text) binding meant once is named = tt
name_takes (naming.Numeric number instance) binding meant once is named = tt
name_takes (naming.Place section item offset) binding meaning.Undefined once is named = named
name_takes (naming.Place section item offset) binding (meaning.Label spot) once is named = absurd (none-some SymbolAlreadyDefined (sym is))
name_takes (naming.Place section item offset) binding (meaning.Common size align) once is named = named
name_takes (naming.Place section item offset) binding (meaning.Space spot) once is named = named
name_takes (naming.Place section item offset) binding (meaning.Assigned form) once is named = named

pub form_takes : (map : SymbolMap) (index : ℕ) (once : Bool) (symbol : Symbol) → slice_get map.symbols index ≡ Some symbol → form_fault_at map index once ≡ None
    → NameStands symbol.name symbol.binding symbol.meaning → IsGiven symbol.name
unfolding form_fault_at
form_takes map index once symbol there is =
    name_takes symbol.name symbol.binding symbol.meaning once
    (sym (ap (λ (found : Option Symbol). option_and_then (λ (one : Symbol). cond (is_dot one.name) (Some BadSymbolUse) (form_fault_of one.meaning once)) found) there) ∙ is)

-- NAMES OF STATEMENTS

-- the name that is meant is a text or a numeric label
pub meant_given : (counts : List (ℕ × ℕ)) (written : Written) → IsGiven (meant_name counts written)
meant_given counts (Plain text) = tt
meant_given counts (Back number) = tt
meant_given counts (Next number) = tt

plain_given : (operand : List SpelledToken) → Fine IsGiven (plain_of operand)
unfolding plain_of
plain_given operand = after (name_of operand) (λ name. made (naming.Plain name) tt)

-- names that are listed
pub names_given : (operands : List (List SpelledToken)) → Fine (All IsGiven) (each plain_of operands)
unfolding each
names_given [] = made [] (All-nil IsGiven)
names_given (operand ∷ operands) =
    step (plain_given operand) (λ name given. step (names_given operands) (λ names all. made (name ∷ names) (All-cons IsGiven name names given all)))

last_of : {A : Type 0} {P : A → Type 0} (operands : List (List SpelledToken)) (done : A) → P done → Fine {E = PlaceCause} P (no_more operands done)
last_of [] done is = made done is
last_of (operand ∷ operands) done is = refused _

-- a name and a kind
pub kind_given : (operands : List (List SpelledToken)) → Fine (λ (words : NamedKind). IsGiven words.name) (named_kind operands)
unfolding named_kind
kind_given operands =
    after (needed name_of operands)
    (λ name. after (needed kind_of name.1) (λ kind. last_of {P = λ (words : NamedKind). IsGiven words.name} kind.1 (record { name = naming.Plain name.0; kind = kind.0 }) tt))

-- a name and an expression
pub tree_given : (operands : List (List SpelledToken)) → Fine (λ (words : NamedTree). IsGiven words.name) (named_tree operands)
unfolding named_tree
tree_given operands =
    after (needed name_of operands)
    (λ name. after (first_tree name.1) (λ tree. last_of {P = λ (words : NamedTree). IsGiven words.name} tree.1 (record { name = naming.Plain name.0; tree = tree.0 }) tt))
