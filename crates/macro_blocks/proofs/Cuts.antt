-- Searches for the end of a block, where the list is passed statement by statement.
use Rattle.std.proofs.Common.{◌≡◌, ℕ, zero, suc, ◌+◌, ◌-◌, Bool, true, false, nat_eq, ◌⊎◌, inl, inr, List, [], ◌∷◌, ◌++◌, Option, Some, None, refl, sym, ap, ◌∙◌, arith}
use Rattle.std.proofs.lemmas.List.{append_assoc, append-nil}
use Rattle.std.proofs.lemmas.Bool.Decides.{nat_tests}
use Rattle.asm_lines.specs.NextStatements.{TokenStatement}
use Rattle.macro_blocks.specs.declared.blocks.Block.{Block}
use Rattle.macro_words.specs.Statements.{word_in}
use Rattle.macro_blocks.specs.Blocks.{Cut, begins, ends, of_word, depth_behind, stops, with_first, cut, repeated}
use Rattle.macro_blocks.specs.Laws.{StopsAtEnds}

-- with these statements inside, before the others
abbrev with_front : List TokenStatement → Option Cut → Option Cut
with_front [] found = found
with_front (s ∷ rest) found = with_first s (with_front rest found)

front_of_none : (xs : List TokenStatement) → with_front xs None ≡ None
front_of_none [] = refl
front_of_none (s ∷ rest) = ap (with_first s) (front_of_none rest)

first_none : (s : TokenStatement) (found : Option Cut) → with_first s found ≡ None → found ≡ None
first_none s None is = refl
first_none s (Some c) is = absurd cc

pub either : (test : Bool) → (test ≡ true) ⊎ (test ≡ false)
either true = inl refl
either false = inr refl

module _ (b : Block) (stop : TokenStatement → Bool) where
  pub cut_stops : (deep : ℕ) (s : TokenStatement) (rest : List TokenStatement) → stops stop deep s ≡ true → cut b stop deep (s ∷ rest) ≡ Some (record { inside = []; stop = s; rest = rest })
  unfolding cut
  cut_stops deep s rest is = rw is refl

  pub cut_goes : (deep : ℕ) (s : TokenStatement) (rest : List TokenStatement) → stops stop deep s ≡ false → cut b stop deep (s ∷ rest) ≡ with_first s (cut b stop (depth_behind b deep s) rest)
  unfolding cut
  cut_goes deep s rest is = rw is refl

  pub cut_nothing : (deep : ℕ) → cut b stop deep [] ≡ None
  unfolding cut
  cut_nothing deep = refl

  -- how many blocks are open behind all of these
  abbrev depth_through : ℕ → List TokenStatement → ℕ
  depth_through deep [] = deep
  depth_through deep (s ∷ rest) = depth_through (depth_behind b deep s) rest

  -- what does not close is inside, whatever stands behind it
  passed : (xs : List TokenStatement) (deep : ℕ) (ys : List TokenStatement) → cut b stop deep xs ≡ None → cut b stop deep (xs ++ ys) ≡ with_front xs (cut b stop (depth_through deep xs) ys)
  passed [] deep ys none = refl
  passed (s ∷ rest) deep ys none =
      elim (either (stops stop deep s)) [
        | inl is ↦ absurd (let found = cut_stops deep s rest is in cc)
        | inr is ↦
            let inner = first_none s (cut b stop (depth_behind b deep s) rest) (sym (cut_goes deep s rest is) ∙ none) in
            cut_goes deep s (rest ++ ys) is ∙ ap (with_first s) (passed rest (depth_behind b deep s) ys inner)
      ]

  -- the front of what does not close does not close
  pub front_open : (xs ys : List TokenStatement) (deep : ℕ) → cut b stop deep (xs ++ ys) ≡ None → cut b stop deep xs ≡ None
  front_open [] ys deep none = cut_nothing deep
  front_open (s ∷ rest) ys deep none =
      elim (either (stops stop deep s)) [
        | inl is ↦ absurd (let found = cut_stops deep s (rest ++ ys) is in cc)
        | inr is ↦
            let inner = first_none s (cut b stop (depth_behind b deep s) (rest ++ ys)) (sym (cut_goes deep s (rest ++ ys) is) ∙ none) in
            cut_goes deep s rest is ∙ ap (with_first s) (front_open rest ys (depth_behind b deep s) inner)
      ]

  module _ (closes : StopsAtEnds b stop) where
    stops_not : (deep : ℕ) (s : TokenStatement) → stops stop (deep + 1) s ≡ false
    unfolding stops
    stops_not deep s =
        let some : nat_eq (deep + 1) 0 ≡ false = grind (arith, nat_tests) in
        rw some refl

    stops_at : (s : TokenStatement) → of_word (ends b) (word_in s) ≡ true → stops stop 0 s ≡ true
    unfolding stops
    stops_at s is = closes s is

    not_ended : (deep : ℕ) (s : TokenStatement) → of_word (ends b) (word_in s) ≡ true → stops stop deep s ≡ false → deep + 1 - 1 ≡ deep - 1 + 1
    not_ended zero s ended is = absurd (let found = stops_at s ended in cc)
    not_ended (suc n) s ended is = omega arith

    -- with one more block open, the depth behind a statement at which the search goes on is one more
    deeper_behind : (deep : ℕ) (s : TokenStatement) → stops stop deep s ≡ false → depth_behind b (deep + 1) s ≡ depth_behind b deep s + 1
    unfolding depth_behind
    deeper_behind deep s is =
        elim (either (of_word (begins b) (word_in s))) [
          | inl begun ↦ rw begun refl
          | inr begun ↦ elim (either (of_word (ends b) (word_in s))) [
            | inl ended ↦ let same : deep + 1 - 1 ≡ deep - 1 + 1 = not_ended deep s ended is in rw (begun, ended) same
            | inr ended ↦ rw (begun, ended) refl
          ]
        ]

    -- what does not close does not close with one more block open,
    deeper : (xs : List TokenStatement) (deep : ℕ) → cut b stop deep xs ≡ None → cut b stop (deep + 1) xs ≡ None
    deeper [] deep none = cut_nothing (deep + 1)
    deeper (s ∷ rest) deep none =
        elim (either (stops stop deep s)) [
          | inl is ↦ absurd (let found = cut_stops deep s rest is in cc)
          | inr is ↦
              let inner = first_none s (cut b stop (depth_behind b deep s) rest) (sym (cut_goes deep s rest is) ∙ none) in
              let more = deeper rest (depth_behind b deep s) inner in
              cut_goes (deep + 1) s rest (stops_not deep s) ∙ ap (λ d. with_first s (cut b stop d rest)) (deeper_behind deep s is) ∙ ap (with_first s) more
        ]

    -- nor with any number of them
    any_deeper : (xs : List TokenStatement) (deep : ℕ) → cut b stop 0 xs ≡ None → cut b stop deep xs ≡ None
    any_deeper xs zero none = none
    any_deeper xs (suc deep) none =
        let more : suc deep ≡ deep + 1 = omega arith in
        rw more (deeper xs deep (any_deeper xs deep none))

    -- what one copy's length does not close, no further copy closes
    pub copies_open : (front back : List TokenStatement) (copies : ℕ) → cut b stop 0 (back ++ front) ≡ None → cut b stop 0 (back ++ repeated copies (front ++ back)) ≡ None
    copies_open front back zero none = rw (append-nil back) (front_open back front 0 none)
    copies_open front back (suc n) none =
        let again = any_deeper (back ++ repeated n (front ++ back)) (depth_through 0 (back ++ front)) (copies_open front back n none) in
        let parts : back ++ ((front ++ back) ++ repeated n (front ++ back)) ≡ (back ++ front) ++ (back ++ repeated n (front ++ back)) = simp append_assoc in
        ap (cut b stop 0) parts ∙ passed (back ++ front) 0 (back ++ repeated n (front ++ back)) none ∙ ap (with_front (back ++ front)) again ∙ front_of_none (back ++ front)
