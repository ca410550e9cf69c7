-- Sums whose names are symbols: their forms, of which none of the names is the place.
use Rattle.std.proofs.Common.{◌≡◌, ℕ, suc, ◌+◌, ◌<◌, ◌==◌, Bool, not, map, true, false, cond, List, [], ◌∷◌, length, Option, None, Some, unwrap_or, Ok, refl, sym, ap, ◌∙◌, arith}
use Rattle.std.specs.Option.{option_map}
use Rattle.std.proofs.lemmas.Bool.Decides.{nat_tests}
use Rattle.asm_expr.specs.declared.naming.Name.{Name}
use Rattle.asm_expr.specs.declared.naming.Name.TheVariants as naming
use Rattle.asm_expr.specs.declared.trees.Written.{Written}
use Rattle.asm_expr.specs.declared.trees.Written.TheVariants as written
use Rattle.asm_expr.specs.Knowledge.{label, Knowledge}
use Rattle.asm_expr.specs.Names.{same_name}
use Rattle.asm_operands.specs.declared.sums.Summand.{Summand}
use Rattle.asm_operands.specs.declared.sums.Summand.TheVariants as summands
use Rattle.asm_operands.specs.declared.sums.Addend.{Addend}
use Rattle.asm_operands.specs.declared.sums.Addend.TheVariants as addends
use Rattle.asm_symbols.specs.declared.entries.Spot.{Spot}
use Rattle.asm_symbols.specs.declared.entries.Symbol.{Symbol as NamedSymbol}
use Rattle.asm_symbols.specs.Counting.{meant_name}
use Rattle.asm_symbols.specs.Interning.{number_of}
use Rattle.asm_symbols.specs.Looking.{told}
use Rattle.asm_symbols.specs.SymbolMap.{SymbolMap, names, index_of}
use Rattle.asm_uses.specs.declared.plain_sums.Plain.{Plain}
use Rattle.asm_uses.specs.declared.plain_sums.Plain.TheVariants as plain
use Rattle.asm_uses.specs.declared.sums.Operand.{Operand}
use Rattle.asm_uses.specs.declared.sums.Operand.TheVariants.{Number, Symbol, Here}
use Rattle.asm_uses.specs.declared.sums.Added.{Added}
use Rattle.asm_uses.specs.declared.sums.Added.TheVariants.{Nothing, Plus, Minus}
use Rattle.asm_uses.specs.Places.{known_at, uses_place, here_name}
use Rattle.asm_uses.specs.PlainSums.{plain_form, IsElsewhere, StandsElsewhere, AddsElsewhere, NamesElsewhere, IsPlain}
use Rattle.asm_operands.specs.declared.sums.Sum.{Sum}
use Rattle.asm_operands.specs.Sums.{sum_tree}
use Rattle.asm_operands.specs.Expressions.{form_in}
use Rattle.asm_uses.specs.declared.sums.SymbolSum.{SymbolSum}
use Rattle.asm_uses.specs.SumForms.{sum_form}
use Rattle.asm_uses.specs.SymbolSums.{IsSymbol, IsOperand, IsAdded, IsNamed}
use Rattle.asm_values.proofs.SumLemmas as sums

-- the name is not that of a place
abbrev NamesNoPlace : Name → Type 0
NamesNoPlace (naming.Plain text) = Unit {0}
NamesNoPlace (naming.Numeric number instance) = Unit {0}
NamesNoPlace (naming.Place section item offset) = ⊥

means_no_place : (counts : List (ℕ × ℕ)) (meant : Written) → NamesNoPlace (meant_name counts meant)
means_no_place counts (written.Plain text) = record {}
means_no_place counts (written.Back number) = record {}
means_no_place counts (written.Next number) = record {}

-- a name and a place are not both one name
not_both : (name first : Name) (section item offset : ℕ) → NamesNoPlace name → same_name name first ≡ true → same_name (naming.Place section item offset) first ≡ true → ⊥
not_both (naming.Plain text) (naming.Plain others) section item offset plainly one other = cc
not_both (naming.Plain text) (naming.Numeric others last) section item offset plainly one other = cc
not_both (naming.Plain text) (naming.Place others last bytes) section item offset plainly one other = cc
not_both (naming.Numeric number instance) (naming.Plain others) section item offset plainly one other = cc
not_both (naming.Numeric number instance) (naming.Numeric others last) section item offset plainly one other = cc
not_both (naming.Numeric number instance) (naming.Place others last bytes) section item offset plainly one other = cc
not_both (naming.Place sections items offsets) first section item offset plainly one other = absurd plainly

first_apart : (a b : Bool) (one other : Option ℕ) (at : ℕ) → (a ≡ true → b ≡ true → ⊥) → ((i : ℕ) → one ≡ Some i → other ≡ Some i → ⊥)
    → cond a (Some 0) (option_map (λ i. i + 1) one) ≡ Some at → cond b (Some 0) (option_map (λ i. i + 1) other) ≡ Some at → ⊥
first_apart true true one other at not later first second = not refl refl
first_apart true false one None at not later first second = cc
first_apart true false one (Some j) at not later first second =
    let zero : 0 ≡ at = cc in
    let more : j + 1 ≡ at = cc in
    absurd (omega arith)
first_apart false true None other at not later first second = cc
first_apart false true (Some i) other at not later first second =
    let zero : 0 ≡ at = cc in
    let more : i + 1 ≡ at = cc in
    absurd (omega arith)
first_apart false false None other at not later first second = cc
first_apart false false (Some i) None at not later first second = cc
first_apart false false (Some i) (Some j) at not later first second =
    let one : i + 1 ≡ at = cc in
    let more : j + 1 ≡ at = cc in
    let same : j ≡ i = omega arith in
    later i refl (ap Some same)

-- they are not found at one index
found_apart : (name : Name) (section item offset : ℕ) → NamesNoPlace name → (ns : List Name) (at : ℕ) → index_of name ns ≡ Some at
    → index_of (naming.Place section item offset) ns ≡ Some at → ⊥
found_apart name section item offset plainly [] at one other = cc
found_apart name section item offset plainly (first ∷ ns) at one other =
    first_apart (same_name name first) (same_name (naming.Place section item offset) first) _ _ at (not_both name first section item offset plainly)
    (found_apart name section item offset plainly ns) one other

-- a name that is found stands within the symbols
first_within : (b : Bool) (found : Option ℕ) (n at : ℕ) → ((i : ℕ) → found ≡ Some i → i < n) → cond b (Some 0) (option_map (λ i. i + 1) found) ≡ Some at → at < suc n
first_within true found n at within is = let zero : 0 ≡ at = cc in omega arith
first_within false None n at within is = cc
first_within false (Some i) n at within is = let low = within i refl in let next : i + 1 ≡ at = cc in omega arith

index_of-within : (name : Name) (symbols : List NamedSymbol) (at : ℕ) → index_of name (names symbols) ≡ Some at → at < length symbols
index_of-within name [] at is = cc
index_of-within name (first ∷ symbols) at is =
    first_within (same_name name first.name) (index_of name (names symbols)) (length symbols) at (index_of-within name symbols) is

differ : (at other : ℕ) → (at ≡ other → ⊥) → (at == other) ≡ false
differ at other apart = by (at == other) refl
  where
    by : (b : Bool) → (at == other) ≡ b → b ≡ false
    by false is = refl
    by true is = let same : at ≡ other = grind (arith, nat_tests) in absurd (apart same)

module _ (map : SymbolMap) (spot : Spot) where
  number_apart : (name : Name) (at : ℕ) (found : Option ℕ) → NamesNoPlace name → index_of name (names map.symbols) ≡ Some at
      → index_of (here_name spot) (names map.symbols) ≡ found → (at == unwrap_or found (length map.symbols)) ≡ false
  number_apart name at None plainly is there =
      let inside = index_of-within name map.symbols at is in
      differ at (length map.symbols) (λ same. omega arith)
  number_apart name at (Some place) plainly is there =
      differ at place (λ same. found_apart name spot.place.section spot.place.place.item spot.place.place.offset plainly (names map.symbols) at is (there ∙ ap Some (sym same)))

  apart : (name : Name) (at : ℕ) → NamesNoPlace name → index_of name (names map.symbols) ≡ Some at → (at == number_of map (here_name spot)) ≡ false
  unfolding number_of
  apart name at plainly is = number_apart name at (index_of (here_name spot) (names map.symbols)) plainly is refl

  -- a symbol that was named is not the place
  symbol_elsewhere : (meant : Written) (operand : Operand) → IsSymbol map meant operand → StandsElsewhere map (known_at map spot) operand
  symbol_elsewhere meant (Symbol index) is =
      let other = apart (meant_name map.counts meant) index (means_no_place map.counts meant) is in
      record {
        told = ap (λ b. cond b (label spot.stretch spot.at) (told map index)) other;
        other = other;
      }
  symbol_elsewhere meant (Number value) is = absurd is
  symbol_elsewhere meant Here is = absurd is

  pub operand_elsewhere : (summand : Summand) (operand : Operand) → IsOperand map summand operand → StandsElsewhere map (known_at map spot) operand
  operand_elsewhere (summands.Number value) (Number other) is = record {}
  operand_elsewhere (summands.Number value) (Symbol index) is = cc
  operand_elsewhere (summands.Number value) Here is = record {}
  operand_elsewhere (summands.Name token) operand is = symbol_elsewhere (written.Plain token.now.bytes.now) operand is
  operand_elsewhere (summands.Back digits) operand is = symbol_elsewhere (written.Back digits) operand is
  operand_elsewhere (summands.Next digits) operand is = symbol_elsewhere (written.Next digits) operand is
  operand_elsewhere summands.Here (Number other) is = record {}
  operand_elsewhere summands.Here (Symbol index) is = cc
  operand_elsewhere summands.Here Here is = record {}

  pub added_elsewhere : (addend : Addend) (added : Added) → IsAdded map addend added → AddsElsewhere map (known_at map spot) added
  added_elsewhere addends.Nothing Nothing is = record {}
  added_elsewhere addends.Nothing (Plus operand) is = absurd is
  added_elsewhere addends.Nothing (Minus operand) is = absurd is
  added_elsewhere (addends.Plus summand) Nothing is = record {}
  added_elsewhere (addends.Plus summand) (Plus operand) is = operand_elsewhere summand operand is
  added_elsewhere (addends.Plus summand) (Minus operand) is = absurd is
  added_elsewhere (addends.Minus summand) Nothing is = record {}
  added_elsewhere (addends.Minus summand) (Plus operand) is = absurd is
  added_elsewhere (addends.Minus summand) (Minus operand) is = operand_elsewhere summand operand is

-- the form of a sum whose names are symbols of the map is that of its tree, and none of them is the place
module _ (map : SymbolMap) (spot : Spot) (sum : Sum) (named : SymbolSum) (is : IsNamed map sum named) where
  pub named_form : form_in (known_at map spot) (sum_tree sum) ≡ Ok (sum_form (known_at map spot) named)
  named_form = sums.sum_linear map (number_of map (here_name spot)) spot sum named is

  pub named_elsewhere : NamesElsewhere map (known_at map spot) named
  named_elsewhere = record {
    first = operand_elsewhere map spot sum.first named.first is.first;
    second = added_elsewhere map spot sum.second named.second is.second;
  }

-- then the form is the plain one, if one is found, and does not keep the place
module _ (map : SymbolMap) (known : Knowledge) (named : SymbolSum) (is : NamesElsewhere map known named) (found : Plain) (plain : IsPlain map named.first named.second found) where
  pub plain_sum : sum_form known named ≡ plain_form (told map) found
  unfolding sum_form
  plain_sum = plain.form known is.first is.second

  pub plain_free : uses_place known.place (plain_form (told map) found) ≡ false
  plain_free = plain.free known is.first is.second

-- the symbol of a text is not the place
pub text_elsewhere : (map : SymbolMap) (spot : Spot) (text : List ℕ) (index : ℕ) → index_of (naming.Plain text) (names map.symbols) ≡ Some index
    → IsElsewhere map (known_at map spot) index
text_elsewhere map spot text index is = symbol_elsewhere map spot (written.Plain text) (Symbol index) is
