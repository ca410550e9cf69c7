-- A space, a token or the end of the statement comes next.
use Rattle.std.proofs.Common.{◌≡◌, ◌+◌, ◌-◌, ◌≤◌, length, take, drop, min, sym, ap, ◌∙◌, refl, arith}
use Rattle.std.specs.Prelude.{count_by}
use Rattle.std.proofs.lemmas.List.{drop_more, length-drop}
use Rattle.asm_base.specs.ByteClasses.{is_feed}
use Rattle.asm_base.specs.Pieces.{ends_statement}
use Rattle.asm_base.specs.declared.pieces.PieceKind.TheVariants as piece
use Rattle.asm_lines.specs.LineNumbers.{last_line}
use Rattle.asm_lines.proofs.Pieces.{line_more}
use Rattle.asm_lines.proofs.TokenPieces.{token_run, pieces_of_token}
use Rattle.asm_lines.proofs.LineFeeds.{is_on_line, line_over_feed, line_over_piece, line_over_token}
use Rattle.asm_lines.proofs.Moves.{never_closes, over_blank, over_comment, over_token, stops_at, stops_behind}
use Rattle.asm_lines.proofs.TokenSteps.{blank_one, feed_one, one_length, own_step, own_whole, own_with_token, semicolon_one, token_on_line}
use Rattle.asm_lines.proofs.passing.pass_statement.Goals as goal

pub returns-in-LineEnd-clause-passes : goal.returns-in-LineEnd-clause-passes
returns-in-LineEnd-clause-passes g c =
    let s = c.args.source.now in
    let at = c.loop-at.at in
    let front = drop_more s at 0 (omega arith) in
    let kind = c.in-LineEnd.ensures.stands in
    let stop = stops_at s _ _ _ front (ap ends_statement kind) (one_length _ _ piece.LineFeed kind (feed_one _)) in
    let known = c.loop-at.invariant in
    record {
      later = sym stop.later ∙ known.later;
      closed = sym known.closed ∙ stop.closed;
      own = sym (stop.owns c.loop-at.own _) ∙ known.owns ∙ own_whole _;
      line = line_over_feed c.one_division.ensures.some s _ _ _ c.loop-at.line _ front kind c.line_after.ensures known.line;
      within = omega arith;
      more = omega arith;
    }

pub returns-in-StatementEnd-clause-passes : goal.returns-in-StatementEnd-clause-passes
returns-in-StatementEnd-clause-passes g c =
    let s = c.args.source.now in
    let at = c.loop-at.at in
    let front = drop_more s at 0 (omega arith) in
    let kind = c.in-StatementEnd.ensures.stands in
    let one = one_length _ _ piece.Semicolon kind (semicolon_one _) in
    let stop = stops_at s _ _ _ front (ap ends_statement kind) one in
    let known = c.loop-at.invariant in
    record {
      later = sym stop.later ∙ known.later;
      closed = sym known.closed ∙ stop.closed;
      own = sym (stop.owns c.loop-at.own _) ∙ known.owns ∙ own_whole _;
      line = line_over_piece c.one_division.ensures.some s _ _ _ 1 c.loop-at.line front (ap is_on_line kind) one known.line;
      within = omega arith;
      more = omega arith;
    }

pub loop-at-preserved-in-Blank : goal.loop-at-preserved-in-Blank
loop-at-preserved-in-Blank g c =
    let s = c.args.source.now in
    let at = c.loop-at.at in
    let front = drop_more s at 0 (omega arith) in
    let kind = c.in-Blank.ensures.stands in
    let move = over_blank s at _ _ 0 c.loop-at.own (at - c.args.begin - c.loop-at.comments) front kind in
    let known = c.loop-at.invariant in
    record {
      within = omega arith;
      begins = omega (arith, known.begins);
      looks = omega (arith, known.looks);
      line = line_over_piece c.one_division.ensures.some s _ _ _ 1 _ front (ap is_on_line kind) (one_length _ _ piece.Blank kind (blank_one _)) known.line;
      later = sym move.later ∙ known.later;
      closed = sym move.closed ∙ known.closed;
      owns = own_step _ _ _ _ _ _ (omega arith) move.owns known.owns;
    }

pub loop-at-preserved-in-LineComment : goal.loop-at-preserved-in-LineComment
loop-at-preserved-in-LineComment g c =
    let s = c.args.source.now in
    let at = c.loop-at.at in
    let front = drop_more s at 0 (omega arith) in
    let stands = c.in-LineComment.ensures.stands in
    let fits = c.in-LineComment.ensures.fits in
    let move = over_comment s _ _ _ _ 0 c.loop-at.own (at - c.args.begin - c.loop-at.comments) piece.LineComment front stands.0 refl refl refl refl stands.1 fits.0 in
    let known = c.loop-at.invariant in
    record {
      within = omega (arith, fits.1);
      begins = omega (arith, known.begins);
      looks = omega (arith, known.looks, fits.0);
      line = line_over_piece c.one_division.ensures.some s _ _ _ _ _ front (ap is_on_line stands.0) stands.1 known.line;
      later = sym move.later ∙ known.later;
      closed = sym move.closed ∙ known.closed;
      owns = own_step _ _ _ _ _ _ (omega arith) move.owns known.owns;
    }

pub loop-at-preserved-in-BlockComment : goal.loop-at-preserved-in-BlockComment
loop-at-preserved-in-BlockComment g c =
    let s = c.args.source.now in
    let at = c.loop-at.at in
    let front = drop_more s at 0 (omega arith) in
    let stands = c.in-BlockComment.ensures.stands in
    let fits = c.in-BlockComment.ensures.fits in
    let move = over_comment s _ _ _ _ 0 c.loop-at.own (at - c.args.begin - c.loop-at.comments) piece.BlockComment front stands.0 refl refl refl refl stands.1 fits.0 in
    let known = c.loop-at.invariant in
    let count : at + c.in-BlockComment.length - at ≡ c.in-BlockComment.length = omega arith in
    let part = ap (λ n. min (c.loop-at.line + count_by is_feed (take n (drop at s))) last_line) count in
    record {
      within = omega (arith, fits.1);
      begins = omega (arith, known.begins);
      looks = omega (arith, known.looks, fits.0);
      line = line_more s at c.in-BlockComment.length c.loop-at.line _ known.line (c.line_behind-line.ensures ∙ part);
      later = sym move.later ∙ known.later;
      closed = sym move.closed ∙ known.closed;
      owns = own_step _ _ _ _ _ _ (omega arith) move.owns known.owns;
    }

pub loop-at-preserved : goal.loop-at-preserved
loop-at-preserved g c =
    let s = c.args.source.now in
    let at = c.loop-at.at in
    let front = drop_more s at 0 (omega arith) in
    let n = c.in-Token.length in
    let stands = c.in-Token.ensures.stands in
    let fits = c.in-Token.ensures.fits in
    let parts = pieces_of_token s _ _ _ _ front stands.0 stands.2 fits.0 (omega (arith, fits.1, length-drop (at + 1) s)) in
    let passed = at - c.args.begin - c.loop-at.comments in
    let move = over_token s at n 0 c.loop-at.own passed fits.0 parts in
    let known = c.loop-at.invariant in
    let owned : passed + n ≡ at + n - c.args.begin - c.loop-at.comments = omega (arith, known.begins) in
    record {
      within = omega (arith, fits.1);
      begins = omega (arith, known.begins);
      looks = omega (arith, known.looks, fits.0);
      line = line_over_token c.one_division.ensures.some s _ _ _ _ _ front (token_on_line _ stands.0) (token_run s _ _ _ _ front stands.0 stands.2) known.line;
      later = sym move.later ∙ known.later;
      closed = sym move.closed ∙ known.closed;
      owns = own_with_token _ _ _ _ _ owned move.owns known.owns;
    }

pub returns-in-Unclosed-clause-passes : goal.returns-in-Unclosed-clause-passes
returns-in-Unclosed-clause-passes g c =
    let s = c.args.source.now in
    let at = c.loop-at.at in
    let front = drop_more s at 0 (omega arith) in
    sym c.loop-at.invariant.closed ∙ never_closes s _ _ _ front c.in-Unclosed.ensures.stands

pub returns-clause-passes : goal.returns-clause-passes
returns-clause-passes g c =
    let s = c.args.source.now in
    let past : length s ≤ c.loop-at.at = omega arith in
    let stop = stops_behind s c.loop-at.at past in
    let known = c.loop-at.invariant in
    record {
      later = sym stop.later ∙ known.later;
      closed = sym known.closed ∙ stop.closed;
      own = sym (stop.owns c.loop-at.own _) ∙ known.owns ∙ own_whole _;
      line = known.line;
      within = known.within;
      more = omega arith;
    }
