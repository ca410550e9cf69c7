-- Copies that are still to come.
use Rattle.std.proofs.Common.{◌≡◌, ℕ, zero, suc, ◌+◌, ◌-◌, ◌<◌, ◌≤◌, true, false, ◌&&◌, Bool, List, [], ◌∷◌, ◌++◌, length, drop, get_or, refl, sym, ap, ◌∙◌, arith}
use Rattle.std.proofs.Math.ListN.{drop_of_length-le}
use Rattle.std.proofs.Math.Seq.{drop-cons, drop-nil}
use Rattle.std.proofs.lemmas.List.{drop-map}
use Rattle.std.specs.Global.{Vec}
use Rattle.asm_lines.specs.LineNumbers.{line_of}
use Rattle.asm_lines.specs.NextStatements.{TokenStatement}
use Rattle.macro_texts.specs.RepeatsSeen.{texts}
use Rattle.macro_blocks.specs.declared.copies.EachCopy.{EachCopy}
use Rattle.macro_blocks.specs.declared.places.Place.{Place}
use Rattle.macro_blocks.specs.Blocks.{repeated}
use Rattle.macro_blocks.specs.Levels.{put_value}
use Rattle.macro_blocks.specs.Places.{left_in, each_left, is_whole, all_whole}
use Rattle.macro_blocks.specs.Copies.{each_from, each_of, IsNextText}

-- a text begins on line 1
pub first_line : (text : List ℕ) → 1 ≡ line_of text 0
unfolding line_of
first_line text = refl

both_true : (a b : Bool) → (a && b) ≡ true → (a ≡ true) × (b ≡ true)
both_true true b is = (refl, is)
both_true false b is = absurd cc

-- one copy and the others are all copies
pub one_more : (copies : ℕ) (statements : List TokenStatement) → 0 < copies → repeated copies statements ≡ statements ++ repeated (copies - 1) statements
one_more zero statements some = absurd (omega arith)
one_more (suc n) statements some = let same : suc n - 1 ≡ n = omega arith in rw same refl

-- copies of nothing are nothing
pub no_statements : (copies : ℕ) → repeated copies [] ≡ []
no_statements zero = refl
no_statements (suc n) = no_statements n

-- where no value is left no copy is
pub none_each : (place : Place) (each : EachCopy) → length each.line.values.items ≤ each.next → each_of place each ≡ []
none_each place each past =
    let none : drop each.next each.line.values.items ≡ [] = drop_of_length-le each.line.values.items past in
    let all : drop each.next (texts each.line.values.items) ≡ [] = drop-map (λ (value : Vec ℕ). value.items) each.next each.line.values.items ∙ ap texts none in
    rw all refl

-- the values from the next one on
next_value : (each : EachCopy) (value : Vec ℕ) → each.next < length each.line.values.items → value ≡ get_or each.line.values.items each.next value
    → drop each.next (texts each.line.values.items) ≡ value.items ∷ drop (each.next + 1) (texts each.line.values.items)
next_value each value more is =
    let first = drop-cons each.line.values.items each.next value more in
    let one : each.next + 1 ≡ suc each.next = omega arith in
    drop-map (λ (v : Vec ℕ). v.items) each.next each.line.values.items ∙ ap texts (first ∙ ap (λ v. v ∷ drop (suc each.next) each.line.values.items) (sym is))
    ∙ ap (λ vs. value.items ∷ vs) (sym (drop-map (λ (v : Vec ℕ). v.items) (suc each.next) each.line.values.items) ∙ ap (λ n. drop n (texts each.line.values.items)) (sym one))

-- the text of the next copy
pub next_text : (each : EachCopy) (value : Vec ℕ) (text : List ℕ) → each.next < length each.line.values.items → value ≡ get_or each.line.values.items each.next value
    → text ≡ put_value each.line.name.items each.number each.body.items value.items → all_whole each.line.name.items each.number each.body.items (drop each.next (texts each.line.values.items)) ≡ true
    → IsNextText each text
next_text each value text more is made whole =
    let values = next_value each value more is in
    let all = sym (ap (all_whole each.line.name.items each.number each.body.items) values) ∙ whole in
    let both = both_true (is_whole (put_value each.line.name.items each.number each.body.items value.items) 0) (all_whole each.line.name.items each.number each.body.items (drop (each.next + 1) (texts each.line.values.items))) all in
    record {
      whole = ap (λ t. is_whole t 0) made ∙ both.0;
      statements = λ place. ap (each_left place each.line.name.items each.number each.body.items) values ∙ ap (λ t. left_in place t 0 ++ each_from place each (each.next + 1)) (sym made);
    }

-- the copies behind the next one have no fault either
pub whole_behind : (name body : List ℕ) (number next : ℕ) (values : List (List ℕ)) → all_whole name number body (drop next values) ≡ true → all_whole name number body (drop (next + 1) values) ≡ true
whole_behind name body number next [] whole = ap (all_whole name number body) (drop-nil (next + 1))
whole_behind name body number zero (value ∷ values) whole = (both_true (is_whole (put_value name number body value) 0) (all_whole name number body values) whole).1
whole_behind name body number (suc next) (value ∷ values) whole =
    let one : suc next + 1 ≡ suc (next + 1) = omega arith in
    rw one (whole_behind name body number next values whole)
