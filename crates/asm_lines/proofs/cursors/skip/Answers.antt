-- A space or an end of a statement is passed, or something does not close.
use Rattle.std.proofs.Common.{◌≡◌, ◌+◌, ◌-◌, take, drop, slice_index_or, min, sym, ap, ◌∙◌, arith, inl, inr}
use Rattle.std.specs.Prelude.{count_by}
use Rattle.std.proofs.lemmas.List.{drop_more}
use Rattle.asm_base.specs.ByteClasses.{is_feed}
use Rattle.asm_base.specs.Pieces.{is_space, ends_statement}
use Rattle.asm_base.specs.declared.pieces.PieceKind.TheVariants as piece
use Rattle.asm_lines.specs.LineNumbers.{last_line}
use Rattle.asm_lines.proofs.Pieces.{one_off, line_more}
use Rattle.asm_lexemes.specs.Lexemes.{is_unclosed, makes_tokens}
use Rattle.asm_lines.proofs.PlainBytes.{plain_kind}
use Rattle.asm_lines.proofs.LineFeeds.{is_on_line, line_over_feed, line_over_piece}
use Rattle.asm_lines.proofs.TokenSteps.{blank_one, feed_one, one_length, semicolon_one}
use Rattle.asm_lines.proofs.Skipping.{skip_over, skip_unclosed}
use Rattle.asm_lines.proofs.cursors.skip.Goals as goal

pub returns-then-is_plain-clause-skips : goal.returns-then-is_plain-clause-skips
returns-then-is_plain-clause-skips g c =
    let s = c.args.source.now in
    let at = c.loop-at.at in
    let front = drop_more s at 0 (omega arith) in
    let plain = sym c.is_plain.ensures ∙ c.if-is_plain.true in
    record {
      skipped = c.loop-at.invariant.skipped;
      begins = inr (record { first = slice_index_or s at 0; rest = drop (at + 1) s; front = front; makes = ap makes_tokens (plain_kind _ (drop (at + 1) s) plain) });
    }

pub loop-at-preserved-in-LineEnd : goal.loop-at-preserved-in-LineEnd
loop-at-preserved-in-LineEnd g c =
    let s = c.args.source.now in
    let at = c.loop-at.at in
    let front = drop_more s at 0 (omega arith) in
    let kind = c.in-LineEnd.ensures.stands in
    let one = one_length _ _ piece.LineFeed kind (feed_one _) in
    record {
      skipped = skip_over s c.args.from at (at + 1) c.loop-at.line _ _ (one_off s _ _ _ 1 front one (omega arith)) (record { closes = ap is_unclosed kind; which = inl (ap ends_statement kind) })
          (line_over_feed c.one_division.ensures.some s _ _ _ c.loop-at.line _ front kind c.line_after-line.ensures c.loop-at.invariant.skipped.line) (omega arith) (omega arith) c.loop-at.invariant.skipped;
      looks = omega arith;
    }

pub loop-at-preserved-in-StatementEnd : goal.loop-at-preserved-in-StatementEnd
loop-at-preserved-in-StatementEnd g c =
    let s = c.args.source.now in
    let at = c.loop-at.at in
    let front = drop_more s at 0 (omega arith) in
    let kind = c.in-StatementEnd.ensures.stands in
    let one = one_length _ _ piece.Semicolon kind (semicolon_one _) in
    record {
      skipped = skip_over s c.args.from at (at + 1) c.loop-at.line _ _ (one_off s _ _ _ 1 front one (omega arith)) (record { closes = ap is_unclosed kind; which = inl (ap ends_statement kind) })
          (line_over_piece c.one_division.ensures.some s _ _ _ 1 c.loop-at.line front (ap is_on_line kind) one c.loop-at.invariant.skipped.line) (omega arith) (omega arith) c.loop-at.invariant.skipped;
      looks = omega arith;
    }

pub loop-at-preserved-in-Blank : goal.loop-at-preserved-in-Blank
loop-at-preserved-in-Blank g c =
    let s = c.args.source.now in
    let at = c.loop-at.at in
    let front = drop_more s at 0 (omega arith) in
    let kind = c.in-Blank.ensures.stands in
    let one = one_length _ _ piece.Blank kind (blank_one _) in
    record {
      skipped = skip_over s c.args.from at (at + 1) c.loop-at.line _ _ (one_off s _ _ _ 1 front one (omega arith)) (record { closes = ap is_unclosed kind; which = inr (ap ends_statement kind, ap is_space kind) })
          (line_over_piece c.one_division.ensures.some s _ _ _ 1 c.loop-at.line front (ap is_on_line kind) one c.loop-at.invariant.skipped.line) (omega arith) (omega arith) c.loop-at.invariant.skipped;
      looks = omega arith;
    }

pub loop-at-preserved-in-LineComment : goal.loop-at-preserved-in-LineComment
loop-at-preserved-in-LineComment g c =
    let s = c.args.source.now in
    let at = c.loop-at.at in
    let front = drop_more s at 0 (omega arith) in
    let stands = c.in-LineComment.ensures.stands in
    let fits = c.in-LineComment.ensures.fits in
    record {
      skipped = skip_over s c.args.from at (at + c.in-LineComment.length) c.loop-at.line _ _ (one_off s _ _ _ _ front stands.1 fits.0) (record { closes = ap is_unclosed stands.0; which = inr (ap ends_statement stands.0, ap is_space stands.0) })
          (line_over_piece c.one_division.ensures.some s _ _ _ _ c.loop-at.line front (ap is_on_line stands.0) stands.1 c.loop-at.invariant.skipped.line) (omega (arith, fits.1)) (omega arith) c.loop-at.invariant.skipped;
      looks = omega (arith, fits.0);
    }

pub loop-at-preserved : goal.loop-at-preserved
loop-at-preserved g c =
    let s = c.args.source.now in
    let at = c.loop-at.at in
    let front = drop_more s at 0 (omega arith) in
    let stands = c.in-BlockComment.ensures.stands in
    let fits = c.in-BlockComment.ensures.fits in
    let count : at + c.in-BlockComment.length - at ≡ c.in-BlockComment.length = omega arith in
    let part = ap (λ n. min (c.loop-at.line + count_by is_feed (take n (drop at s))) last_line) count in
    record {
      skipped = skip_over s c.args.from at (at + c.in-BlockComment.length) c.loop-at.line _ _ (one_off s _ _ _ _ front stands.1 fits.0) (record { closes = ap is_unclosed stands.0; which = inr (ap ends_statement stands.0, ap is_space stands.0) })
          (line_more s at c.in-BlockComment.length c.loop-at.line _ c.loop-at.invariant.skipped.line (c.line_behind-line.ensures ∙ part)) (omega (arith, fits.1)) (omega arith) c.loop-at.invariant.skipped;
      looks = omega (arith, fits.0);
    }

pub returns-in-Unclosed-clause-skips : goal.returns-in-Unclosed-clause-skips
returns-in-Unclosed-clause-skips g c =
    let s = c.args.source.now in
    let at = c.loop-at.at in
    let front = drop_more s at 0 (omega arith) in
    skip_unclosed s c.args.from at _ _ _ front c.in-Unclosed.ensures.stands c.loop-at.invariant.skipped
