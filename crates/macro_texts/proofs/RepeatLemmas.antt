-- The values of a repeat, one after the other.
use Rattle.std.proofs.Common.{◌≡◌, ℕ, ◌<◌, nat_le, false, List, [], ◌∷◌, ◌++◌, length, drop, map, sym, ap, ◌∙◌, append_assoc, arith, refl}
use Rattle.std.specs.List.{position_or_len}
use Rattle.asm_base.specs.Tokens.{SpelledToken}
use Rattle.asm_operands.specs.Operands.{is_comma}
use Rattle.macro_texts.specs.ArgumentsSeen.{passed_length}
use Rattle.macro_texts.specs.Repeats.{first_value, values_of}
use Rattle.macro_texts.specs.RepeatsSeen.{IsValueRead}
use Rattle.macro_texts.proofs.ArgumentLemmas.{later_is, behind_comma, passed_some, passed_fits}

-- one value, in front of the others
value_gives : (made : List (List ℕ)) (token : SpelledToken) (rest : List SpelledToken)
    → (made ++ first_value (token ∷ rest) ∷ []) ++ values_of (drop (passed_length false (token ∷ rest)) (token ∷ rest)) ≡ made ++ values_of (token ∷ rest)
value_gives made token rest =
    let others = ap values_of (behind_comma (token ∷ rest)) ∙ ap (map first_value) (sym (later_is (token ∷ rest))) in
    append_assoc made (first_value (token ∷ rest) ∷ []) (values_of (drop (passed_length false (token ∷ rest)) (token ∷ rest)))
    ∙ ap (λ xs. made ++ first_value (token ∷ rest) ∷ xs) others

pub value_read : (made now : List (List ℕ)) (one : List ℕ) (tokens : List SpelledToken) (n : ℕ) → 0 < length tokens → one ≡ first_value tokens → now ≡ made ++ one ∷ [] → n ≡ passed_length false tokens
    → IsValueRead made now tokens n
value_read made now one [] n some is now_is n_is = absurd (omega arith)
value_read made now one (token ∷ rest) n some is now_is n_is =
    let tokens = token ∷ rest in
    let test = nat_le (length tokens) (position_or_len is_comma tokens) in
    record {
      some = rw n_is (passed_some false test (length tokens) (position_or_len is_comma tokens) (omega arith));
      within = rw n_is (passed_fits false test (length tokens) (position_or_len is_comma tokens) refl);
      gives = rw (now_is, is, n_is) (value_gives made token rest);
    }
