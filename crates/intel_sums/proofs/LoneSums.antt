-- Usual sums are read so.
use Rattle.std.proofs.Common.{◌≡◌, ℕ, ◌==◌, not, Bool, true, false, List, [], ◌∷◌, Some, None, length, map, slice_get, refl, ap, arith}
use Rattle.std.proofs.lemmas.Bool.{eqb-true}
use Rattle.asm_base.specs.declared.tokens.Token.{Token}
use Rattle.asm_base.specs.declared.tokens.TokenKind.{TokenKind}
use Rattle.asm_base.specs.declared.tokens.TokenKind.TheVariants as kind
use Rattle.asm_base.specs.Tokens.{SpelledToken, spelled}
use Rattle.att_operands.specs.declared.registers.NamedRegister.{NamedRegister}
use Rattle.att_operands.specs.Registers.{register_of}
use Rattle.att_operands.specs.Marks.{mark_byte, mark_by, mark_at}
use Rattle.att_operands.specs.Addresses.{register_by}
use Rattle.intel_sums.specs.declared.parts.Part.TheVariants.{Plain}
use Rattle.intel_sums.specs.declared.parts.Parts.TheVariants.{Nothing, One}
use Rattle.intel_sums.specs.Parts.{part_ends}
use Rattle.intel_sums.specs.Sums.{is_loose, is_register_of, is_register, adds}
use Rattle.intel_sums.specs.Spells.{alone, WritesSum, done, register_next, other}
use Rattle.intel_sums.specs.LoneSums.{is_calm_of, is_calm, is_calm_by, IsLoneSum, IsFoundIn}
use Rattle.intel_sums.specs.SumLaws.{Stays}
use Rattle.intel_sums.proofs.SumTexts.{sum_reads}

minus_bytes : (bytes : List ℕ) → (mark_byte bytes == 45) ≡ true → bytes ≡ 45 ∷ []
minus_bytes [] is = cc
minus_bytes (byte ∷ []) is = ap (λ (b : ℕ). b ∷ []) (eqb-true byte 45 is)
minus_bytes (first ∷ second ∷ rest) is = cc

refused : (b : Bool) → not b ≡ true → b ≡ false
refused false is = refl
refused true is = cc

stays_by : (kind : TokenKind) (bytes : List ℕ) (start : ℕ) → is_calm_of kind bytes ≡ true → Stays (record { kind = kind; bytes = bytes; start = start })
unfolding mark_by is_register is_loose
stays_by kind.Name bytes start is = let none = refused (is_register_of kind.Name bytes) is in record { no_bracket = refl; no_plus = refl; no_comma = refl; right = rw none refl; level = refl }
stays_by kind.Digits bytes start is = record { no_bracket = refl; no_plus = refl; no_comma = refl; right = refl; level = refl }
stays_by kind.Character bytes start is = cc
stays_by kind.String bytes start is = cc
stays_by kind.Operator bytes start is =
    let minus = minus_bytes bytes is in
    record { no_bracket = rw minus refl; no_plus = rw minus refl; no_comma = rw minus refl; right = rw minus refl; level = rw minus refl }
stays_by kind.Other bytes start is = cc

pub stays : (token : SpelledToken) → is_calm token ≡ true → Stays token
unfolding is_calm
stays token is = stays_by token.kind token.bytes token.start is

nothing_ends : part_ends None ≡ true
unfolding part_ends
nothing_ends = refl

minus_ends : (token : SpelledToken) → mark_by (Some token) ≡ 45 → part_ends (Some token) ≡ true
unfolding part_ends
minus_ends token is = rw is refl

minus_stays : (token : SpelledToken) → mark_by (Some token) ≡ 45 → is_calm token ≡ true → Stays token
minus_stays token is calm = stays token calm

-- a register behind a bracket, with these tokens behind it
bracketed : (opening word : SpelledToken) (named : NamedRegister) (left behind : List SpelledToken) → mark_by (Some opening) ≡ 91 → register_of word.bytes ≡ Some named
    → part_ends (slice_get behind 0) ≡ true → WritesSum true 0 (One (Plain named)) (One (Plain named)) left behind
    → WritesSum false 0 Nothing (One (Plain named)) left (opening ∷ word ∷ behind)
bracketed opening word named left behind opens names ended rest =
    let signs : adds false (mark_by (Some opening)) ≡ true = rw opens refl in
    register_next false opening (Plain named) Nothing (One (Plain named)) left (word ∷ []) behind (opening ∷ word ∷ behind) signs (alone named word names) ended rest refl

-- a token before the bracket
before : (token : SpelledToken) (named : NamedRegister) (left behind : List SpelledToken) → is_calm token ≡ true → WritesSum false 0 Nothing (One (Plain named)) left behind
    → WritesSum false 0 Nothing (One (Plain named)) (token ∷ left) (token ∷ behind)
before token named left behind calm rest =
    let own = stays token calm in
    other false 0 0 token Nothing (One (Plain named)) left behind own.no_bracket own.right own.level rest

-- and behind it
after : (token : SpelledToken) (named : NamedRegister) (left behind : List SpelledToken) → is_calm token ≡ true → WritesSum true 0 (One (Plain named)) (One (Plain named)) left behind
    → WritesSum true 0 (One (Plain named)) (One (Plain named)) (token ∷ left) (token ∷ behind)
after token named left behind calm rest =
    let own = stays token calm in
    other true 0 0 token (One (Plain named)) (One (Plain named)) left behind own.no_plus own.right own.level rest

reads : (named : NamedRegister) (left text : List SpelledToken) → WritesSum false 0 Nothing (One (Plain named)) left text → IsLoneSum text named left
reads named left text writes = sum_reads false 0 Nothing (One (Plain named)) left text [] writes

-- `[register]`
pub alone_is : (tokens : List Token) (named : NamedRegister) → length tokens ≡ 3 → mark_at (map spelled tokens) 0 ≡ 91 → register_by (slice_get (map spelled tokens) 1) ≡ Some named
    → IsFoundIn tokens (record { named = named; from = 0; to = 0 })
alone_is [] named size opens names = absurd (omega arith)
alone_is (a ∷ []) named size opens names = absurd (omega arith)
alone_is (a ∷ b ∷ []) named size opens names = absurd (omega arith)
alone_is (a ∷ b ∷ c ∷ []) named size opens names = record {
  order = omega arith;
  within = omega arith;
  sum = reads named [] (spelled a ∷ spelled b ∷ []) (bracketed (spelled a) (spelled b) named [] [] opens names nothing_ends (done (One (Plain named))));
}
alone_is (a ∷ b ∷ c ∷ d ∷ more) named size opens names = absurd (omega arith)

-- `x[register]`
pub one_before_is : (tokens : List Token) (named : NamedRegister) → length tokens ≡ 4 → is_calm_by (slice_get (map spelled tokens) 0) ≡ true → mark_at (map spelled tokens) 1 ≡ 91
    → register_by (slice_get (map spelled tokens) 2) ≡ Some named → IsFoundIn tokens (record { named = named; from = 0; to = 1 })
one_before_is [] named size calm opens names = absurd (omega arith)
one_before_is (a ∷ []) named size calm opens names = absurd (omega arith)
one_before_is (a ∷ b ∷ []) named size calm opens names = absurd (omega arith)
one_before_is (a ∷ b ∷ c ∷ []) named size calm opens names = absurd (omega arith)
one_before_is (a ∷ b ∷ c ∷ d ∷ []) named size calm opens names = record {
  order = omega arith;
  within = omega arith;
  sum = reads named (spelled a ∷ []) (spelled a ∷ spelled b ∷ spelled c ∷ [])
      (before (spelled a) named [] (spelled b ∷ spelled c ∷ []) calm (bracketed (spelled b) (spelled c) named [] [] opens names nothing_ends (done (One (Plain named)))));
}
one_before_is (a ∷ b ∷ c ∷ d ∷ e ∷ more) named size calm opens names = absurd (omega arith)

-- `-8[register]`
pub two_before_is : (tokens : List Token) (named : NamedRegister) → length tokens ≡ 5 → is_calm_by (slice_get (map spelled tokens) 0) ≡ true → is_calm_by (slice_get (map spelled tokens) 1) ≡ true
    → mark_at (map spelled tokens) 2 ≡ 91 → register_by (slice_get (map spelled tokens) 3) ≡ Some named → IsFoundIn tokens (record { named = named; from = 0; to = 2 })
two_before_is [] named size calm also opens names = absurd (omega arith)
two_before_is (a ∷ []) named size calm also opens names = absurd (omega arith)
two_before_is (a ∷ b ∷ []) named size calm also opens names = absurd (omega arith)
two_before_is (a ∷ b ∷ c ∷ []) named size calm also opens names = absurd (omega arith)
two_before_is (a ∷ b ∷ c ∷ d ∷ []) named size calm also opens names = absurd (omega arith)
two_before_is (a ∷ b ∷ c ∷ d ∷ e ∷ []) named size calm also opens names = record {
  order = omega arith;
  within = omega arith;
  sum = reads named (spelled a ∷ spelled b ∷ []) (spelled a ∷ spelled b ∷ spelled c ∷ spelled d ∷ [])
      (before (spelled a) named (spelled b ∷ []) (spelled b ∷ spelled c ∷ spelled d ∷ []) calm
      (before (spelled b) named [] (spelled c ∷ spelled d ∷ []) also (bracketed (spelled c) (spelled d) named [] [] opens names nothing_ends (done (One (Plain named))))));
}
two_before_is (a ∷ b ∷ c ∷ d ∷ e ∷ f ∷ more) named size calm also opens names = absurd (omega arith)

-- `[register-8]`
pub two_behind_is : (tokens : List Token) (named : NamedRegister) → length tokens ≡ 5 → mark_at (map spelled tokens) 0 ≡ 91 → register_by (slice_get (map spelled tokens) 1) ≡ Some named
    → mark_at (map spelled tokens) 2 ≡ 45 → is_calm_by (slice_get (map spelled tokens) 2) ≡ true → is_calm_by (slice_get (map spelled tokens) 3) ≡ true
    → IsFoundIn tokens (record { named = named; from = 2; to = 4 })
two_behind_is [] named size opens names minus own calm = absurd (omega arith)
two_behind_is (a ∷ []) named size opens names minus own calm = absurd (omega arith)
two_behind_is (a ∷ b ∷ []) named size opens names minus own calm = absurd (omega arith)
two_behind_is (a ∷ b ∷ c ∷ []) named size opens names minus own calm = absurd (omega arith)
two_behind_is (a ∷ b ∷ c ∷ d ∷ []) named size opens names minus own calm = absurd (omega arith)
two_behind_is (a ∷ b ∷ c ∷ d ∷ e ∷ []) named size opens names minus own calm = record {
  order = omega arith;
  within = omega arith;
  sum = reads named (spelled c ∷ spelled d ∷ []) (spelled a ∷ spelled b ∷ spelled c ∷ spelled d ∷ [])
      (bracketed (spelled a) (spelled b) named (spelled c ∷ spelled d ∷ []) (spelled c ∷ spelled d ∷ []) opens names (minus_ends (spelled c) minus)
      (after (spelled c) named (spelled d ∷ []) (spelled d ∷ []) own (after (spelled d) named [] [] calm (done (One (Plain named))))));
}
two_behind_is (a ∷ b ∷ c ∷ d ∷ e ∷ f ∷ more) named size opens names minus own calm = absurd (omega arith)
