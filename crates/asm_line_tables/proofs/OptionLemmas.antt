-- Options one after the other.
use Rattle.std.proofs.Common.{◌≡◌, ◌≤◌, ◌+◌, ◌-◌, ℕ, zero, suc, List, [], ◌∷◌, map, length, drop, Option, None, Some, Result, Ok, Err, refl, sym, ap, ◌∙◌, arith}
use Rattle.std.proofs.lemmas.List.{length-drop, length-map, drop-map}
use Rattle.asm_base.specs.Refusals.{◌>>=◌}
use Rattle.asm_base.specs.Tokens.{SpelledToken}
use Rattle.asm_expr.specs.Trees.{Tree}
use Rattle.asm_operands.specs.declared.place_faults.PlaceCause.{PlaceCause}
use Rattle.asm_operands.specs.Expressions.{expression_of}
use Rattle.asm_line_tables.specs.declared.words.LocOption.{LocOption}
use Rattle.asm_line_tables.specs.declared.words.LocOption.TheVariants.{Mark, Value}
use Rattle.asm_line_tables.specs.Parts.{front_length, front, behind_front, option_of}
use Rattle.asm_line_tables.specs.Words.{LocWords, marked, valued, option_read, option_length, options_from}

-- what is left out of the front
left_out_first : (count : ℕ) (words : LocWords) (tokens : List SpelledToken) → options_from count words tokens ≡ options_from 0 words (drop count tokens)
left_out_first zero words tokens = refl
left_out_first (suc count) words [] = refl
left_out_first (suc count) words (token ∷ rest) = left_out_first count words rest

-- the options behind what was read
more : LocWords × List SpelledToken → Result LocWords PlaceCause
more read = options_from 0 read.0 read.1

by_option : (option : Option LocOption) (words : LocWords) (rest : List SpelledToken)
    → (option_read option rest words >>= λ (read : LocWords × List SpelledToken). options_from (option_length option rest) read.0 rest)
    ≡ (option_read option rest words >>= more)
unfolding more
by_option None words rest = refl
by_option (Some (Mark mark)) words rest = refl
by_option (Some (Value kind)) words rest = by (expression_of (front rest))
  where
    by : (tree : Result Tree PlaceCause)
        → ((tree >>= λ tree. Ok (valued kind tree words, behind_front rest)) >>= λ (read : LocWords × List SpelledToken). options_from (front_length rest) read.0 rest)
        ≡ ((tree >>= λ tree. Ok (valued kind tree words, behind_front rest)) >>= more)
    by (Ok tree) = left_out_first (front_length rest) (valued kind tree words) rest
    by (Err fault) = refl

ok_parts : {A : Type 0} (one other : A) → ◌≡◌ {A = Result A PlaceCause} (Ok one) (Ok other) → one ≡ other
ok_parts one other is = cc

-- what stands behind an option is left of what stands behind its name
read_behind : (option : Option LocOption) (words next : LocWords) (rest behind : List SpelledToken) → option_read option rest words ≡ Ok (next, behind)
    → behind ≡ drop (option_length option rest) rest
read_behind None words next rest behind is = absurd cc
read_behind (Some (Mark mark)) words next rest behind is =
    sym (ap (λ (read : LocWords × List SpelledToken). read.1) (ok_parts (marked mark words, rest) (next, behind) is))
read_behind (Some (Value kind)) words next rest behind is = by (expression_of (front rest)) is
  where
    by : (tree : Result Tree PlaceCause) → ◌>>=◌ {B = LocWords × List SpelledToken} tree (λ tree. Ok (valued kind tree words, behind_front rest)) ≡ Ok (next, behind)
        → behind ≡ behind_front rest
    by (Ok tree) is = sym (ap (λ (read : LocWords × List SpelledToken). read.1) (ok_parts (valued kind tree words, behind_front rest) (next, behind) is))
    by (Err fault) is = absurd cc

none_dropped : {X : Type 0} (count : ℕ) → drop {A = X} count [] ≡ []
none_dropped zero = refl
none_dropped (suc count) = refl

none_fewer : (n : ℕ) → n - n ≡ 0
none_fewer n = omega arith

none_more : (n : ℕ) → n ≡ 0 + n
none_more n = omega arith

one_more : (first second : ℕ) → suc (first + second) ≡ suc first + second
one_more first second = omega arith

one_fewer : (all some : ℕ) → some ≤ all → suc all - some ≡ suc (all - some)
one_fewer all some few = omega arith

module _ {X : Type 0} where
  -- the last ones of a list by how many they are
  drop_again : (count : ℕ) (xs : List X) → drop (length xs - length (drop count xs)) xs ≡ drop count xs
  drop_again zero xs = ap (λ n. drop n xs) (none_fewer (length xs))
  drop_again (suc count) [] = refl
  drop_again (suc count) (x ∷ xs) =
      ap (λ n. drop n (x ∷ xs)) (one_fewer (length xs) (length (drop count xs)) (omega (arith, length-drop count xs))) ∙ drop_again count xs

  drop_more : (first second : ℕ) (xs : List X) → drop second (drop first xs) ≡ drop (first + second) xs
  drop_more zero second xs = ap (λ n. drop n xs) (none_more second)
  drop_more (suc first) second [] = none_dropped second ∙ sym (none_dropped (suc first + second))
  drop_more (suc first) second (x ∷ xs) = drop_more first second xs ∙ ap (λ n. drop n (x ∷ xs)) (one_more first second)

module _ {X : Type 0} (spell : X → SpelledToken) (tokens rest behind : List X) (name : X) (at : ℕ) (front_is : drop at tokens ≡ name ∷ rest) where
  spelled_front : map spell (drop at tokens) ≡ spell name ∷ map spell rest
  spelled_front = ap (map spell) front_is

  -- what is left, by how many tokens it is
  pub left_by : (count : ℕ) → map spell behind ≡ drop count (map spell rest) → map spell (drop (length tokens - length behind) tokens) ≡ map spell behind
  left_by count is =
      let all : List SpelledToken = map spell tokens in
      let last : map spell behind ≡ drop (at + suc count) all =
      is ∙ ap (drop (suc count)) (sym (drop-map spell at tokens ∙ spelled_front)) ∙ drop_more at (suc count) all in
      sym (drop-map spell (length tokens - length behind) tokens)
      ∙ ap (λ n. drop n all) (ap (λ n. n - length behind) (sym (length-map tokens spell)) ∙ ap (λ n. length all - n) (sym (length-map behind spell) ∙ ap length last))
      ∙ drop_again (at + suc count) all ∙ sym last

  module _ (words : LocWords) where
    -- the options are read on behind one
    pub step_on : (next : LocWords) → option_read (option_of (spell name)) (map spell rest) words ≡ Ok (next, map spell behind)
        → options_from 0 next (map spell (drop (length tokens - length behind) tokens)) ≡ options_from 0 words (map spell (drop at tokens))
    unfolding more
    step_on next read =
        ap (options_from 0 next) (left_by (option_length (option_of (spell name)) (map spell rest)) (read_behind (option_of (spell name)) words next (map spell rest) (map spell behind) read))
        ∙ sym (ap (options_from 0 words) spelled_front ∙ by_option (option_of (spell name)) words (map spell rest) ∙ ap (λ read. read >>= more) read)

    -- a fault of one is that of all
    pub fault_on : (fault : PlaceCause) → option_read (option_of (spell name)) (map spell rest) words ≡ Err fault
        → options_from 0 words (map spell (drop at tokens)) ≡ Err fault
    fault_on fault read = ap (options_from 0 words) spelled_front ∙ by_option (option_of (spell name)) words (map spell rest) ∙ ap (λ read. read >>= more) read

-- no option is left
pub none_on : {X : Type 0} (spell : X → SpelledToken) (left : List X) (words : LocWords) → length left ≡ 0 → options_from 0 words (map spell left) ≡ Ok words
none_on spell [] words none = refl
none_on spell (token ∷ rest) words none = absurd (omega arith)

-- an option, and those behind it
pub option_and_more : (words : LocWords) (token : SpelledToken) (rest : List SpelledToken)
    → options_from 0 words (token ∷ rest) ≡ (option_read (option_of token) rest words >>= λ (read : LocWords × List SpelledToken). options_from 0 read.0 read.1)
unfolding more
option_and_more words token rest = by_option (option_of token) words rest
