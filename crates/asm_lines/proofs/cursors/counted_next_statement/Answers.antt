-- The next statement, the end, or a fault.
use Rattle.std.proofs.Common.{ℕ, ◌≡◌, ◌≤◌, ◌++◌, List, length, take, drop, subst, sym, ap, ◌∙◌, refl, arith}
use Rattle.std.proofs.lemmas.Bool.{ltb-false, ltb-true}
use Rattle.std.proofs.Math.Seq.{take-append_seam}
use Rattle.asm_base.specs.declared.tokens.Token.{Token}
use Rattle.asm_lines.specs.NextStatements.{IsNext}
use Rattle.asm_lines.specs.StatementTokens.{first_tokens_from}
use Rattle.asm_lines.proofs.Skipping.{next_end, next_long, next_whole, next_unclosed}
use Rattle.asm_lines.proofs.cursors.counted_next_statement.Goals as goal

-- the tokens are those that the slots have
written : (n : ℕ) (slots items : List Token) → length slots ≡ n → take n (slots ++ drop (length slots) items) ≡ slots
written n slots items long = ap (λ k. take k (slots ++ drop (length slots) items)) (sym long) ∙ take-append_seam slots (drop (length slots) items)

pub loop-next-init : goal.loop-next-init
loop-next-init g c =
    let begin = c.in-Some.point.at in
    record {
      read = record {
        within = omega arith;
        begins = omega arith;
        room = omega arith;
        line = c.in-Some.ensures.skips.skipped.line;
        tokens = ap (λ n. first_tokens_from 0 n (drop begin c.args.source.now)) (omega arith);
        later = refl;
        closed = refl;
        short = omega arith;
      };
      looks = omega (arith, c.in-Some.ensures.passed);
    }

pub returns-then-point-source-clause-stands : goal.returns-then-point-source-clause-stands
returns-then-point-source-clause-stands g c = next_end c.args.source.now c.args.from c.in-Some.point c.in-Some.ensures.skips c.if-point-source.true

pub returns-then-is_too_long-clause-stands : goal.returns-then-is_too_long-clause-stands
returns-then-is_too_long-clause-stands g c =
    let known = c.in-Whole.ensures.read.1 in
    let long = sym (c.is_too_long.ensures.long known.closed known.short) ∙ c.if-is_too_long.true in
    next_long c.args.source.now c.args.from c.in-Some.point c.in-Some.ensures.skips c.if-point-source.false (ltb-true _ _ long)

pub returns-in-Whole-clause-stands : goal.returns-in-Whole-clause-stands
returns-in-Whole-clause-stands g c =
    let read = c.in-Whole.ensures.read in
    let known = read.1 in
    let count = c.in-Whole.count in
    let slots = c.read_tokens.new.slots in
    let fits = sym (c.is_too_long.ensures.long known.closed known.short) ∙ c.if-is_too_long.false in
    let Stands : List Token → Type 0 = λ tokens. (count ≤ length tokens) × IsNext c.args.source.now c.args.from (take count tokens) c.in-Some.point.line c.in-Whole.next c.in-Whole.there in
    subst Stands (sym (written c.loop-next.tokens.len slots c.loop-next.tokens.items (c.in-Whole.ensures.len ∙ c.as_mut_slice.ensures.len)))
    (read.0, next_whole (record { some = c.one_division.ensures.some; only = c.one_division.ensures.only }) c.args.source.now c.args.from c.in-Some.point (take count slots) c.in-Whole.next c.in-Whole.there c.in-Some.ensures.skips c.if-point-source.false known (ltb-false _ _ fits))

pub returns-in-Unclosed-clause-stands : goal.returns-in-Unclosed-clause-stands
returns-in-Unclosed-clause-stands g c = next_unclosed c.args.source.now c.args.from c.in-Some.point c.in-Some.ensures.skips c.in-Unclosed.ensures.read
