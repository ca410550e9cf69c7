-- A space, a token or the end of the statement comes next.
use Rattle.std.proofs.Common.{◌≡◌, ◌+◌, ◌-◌, ◌<◌, ◌≤◌, ◌++◌, length, map, take, drop, min, sym, ap, subst, ◌∙◌, refl, arith}
use Rattle.std.specs.Prelude.{count_by}
use Rattle.std.proofs.lemmas.List.{drop_more, length-drop, length-set, take_all, take_more_set}
use Rattle.asm_base.specs.ByteClasses.{is_feed}
use Rattle.asm_base.specs.Pieces.{is_space, ends_statement}
use Rattle.asm_base.specs.declared.pieces.PieceKind.TheVariants as piece
use Rattle.asm_base.specs.Tokens.{spelled}
use Rattle.asm_lines.specs.LineNumbers.{last_line}
use Rattle.asm_lines.specs.StatementTokens.{first_tokens_from}
use Rattle.asm_lines.proofs.Pieces.{line_more}
use Rattle.asm_lines.proofs.TokenPieces.{token_run, pieces_of_token}
use Rattle.asm_lines.proofs.LineFeeds.{is_on_line, line_over_feed, line_over_piece, line_over_token}
use Rattle.asm_lines.proofs.Moves.{never_closes, no_tokens, no_tokens_left, over_blank, over_comment, over_token, stops_at, stops_behind}
use Rattle.asm_lines.proofs.TokenSteps.{all_read, blank_one, feed_one, one_length, semicolon_one, short_end, short_step, space_read_at, token_read_at, token_on_line}
use Rattle.asm_lines.proofs.statement_tokens.read_tokens.Goals as goal

pub loop-at-init : goal.loop-at-init
loop-at-init g c =
    let known = c.requires.read in
    record {
      within = known.within;
      begins = known.begins;
      room = known.room;
      len = refl;
      looks = omega arith;
      line = known.line;
      tokens = known.tokens;
      later = known.later;
      closed = known.closed;
      short = known.short;
    }

pub returns-in-LineEnd-clause-read : goal.returns-in-LineEnd-clause-read
returns-in-LineEnd-clause-read g c =
    let s = c.args.source.now in
    let at = c.loop-at.at in
    let front = drop_more s at 0 (omega arith) in
    let kind = c.in-LineEnd.ensures.stands in
    let stop = stops_at s _ _ _ front (ap ends_statement kind) (one_length _ _ piece.LineFeed kind (feed_one _)) in
    let known = c.loop-at.invariant in (
      known.room,
      record {
        tokens = all_read _ _ _ known.tokens (no_tokens s _ _ _ _ front (ap ends_statement kind));
        later = sym stop.later ∙ known.later;
        closed = sym known.closed ∙ stop.closed;
        short = omega (arith, known.short, short_end _ (stop.owns 0 0));
        line = line_over_feed c.one_division.ensures.some s _ _ _ c.loop-at.line _ front kind c.line_after.ensures known.line;
        within = omega arith;
        more = omega arith;
      },
    )

pub returns-in-StatementEnd-clause-read : goal.returns-in-StatementEnd-clause-read
returns-in-StatementEnd-clause-read g c =
    let s = c.args.source.now in
    let at = c.loop-at.at in
    let front = drop_more s at 0 (omega arith) in
    let kind = c.in-StatementEnd.ensures.stands in
    let one = one_length _ _ piece.Semicolon kind (semicolon_one _) in
    let stop = stops_at s _ _ _ front (ap ends_statement kind) one in
    let known = c.loop-at.invariant in (
      known.room,
      record {
        tokens = all_read _ _ _ known.tokens (no_tokens s _ _ _ _ front (ap ends_statement kind));
        later = sym stop.later ∙ known.later;
        closed = sym known.closed ∙ stop.closed;
        short = omega (arith, known.short, short_end _ (stop.owns 0 0));
        line = line_over_piece c.one_division.ensures.some s _ _ _ 1 c.loop-at.line front (ap is_on_line kind) one known.line;
        within = omega arith;
        more = omega arith;
      },
    )

pub loop-at-preserved-in-Blank : goal.loop-at-preserved-in-Blank
loop-at-preserved-in-Blank g c =
    let s = c.args.source.now in
    let at = c.loop-at.at in
    let front = drop_more s at 0 (omega arith) in
    let kind = c.in-Blank.ensures.stands in
    let move = over_blank s _ _ _ 0 0 0 front kind in
    let one = one_length _ _ piece.Blank kind (blank_one _) in
    let known = c.loop-at.invariant in
    record {
      within = omega arith;
      begins = omega (arith, known.begins);
      looks = omega (arith, known.looks);
      room = known.room;
      len = known.len;
      line = line_over_piece c.one_division.ensures.some s _ _ _ 1 _ front (ap is_on_line kind) one known.line;
      tokens = space_read_at _ _ s c.args.begin _ _ _ 1 (omega arith) front (ap is_space kind) (ap ends_statement kind) one known.tokens;
      later = sym move.later ∙ known.later;
      closed = sym move.closed ∙ known.closed;
      short = omega (arith, known.short, short_step 0 1 1 _ _ move.owns (omega arith) (omega arith));
    }

pub loop-at-preserved-in-LineComment : goal.loop-at-preserved-in-LineComment
loop-at-preserved-in-LineComment g c =
    let s = c.args.source.now in
    let at = c.loop-at.at in
    let front = drop_more s at 0 (omega arith) in
    let stands = c.in-LineComment.ensures.stands in
    let fits = c.in-LineComment.ensures.fits in
    let move = over_comment s _ _ _ _ 0 0 0 piece.LineComment front stands.0 refl refl refl refl stands.1 fits.0 in
    let known = c.loop-at.invariant in
    record {
      within = omega (arith, fits.1);
      begins = omega (arith, known.begins);
      looks = omega (arith, known.looks, fits.0);
      room = known.room;
      len = known.len;
      line = line_over_piece c.one_division.ensures.some s _ _ _ _ _ front (ap is_on_line stands.0) stands.1 known.line;
      tokens = space_read_at _ _ s c.args.begin _ _ _ _ (omega arith) front (ap is_space stands.0) (ap ends_statement stands.0) stands.1 known.tokens;
      later = sym move.later ∙ known.later;
      closed = sym move.closed ∙ known.closed;
      short = omega (arith, known.short, short_step 0 0 c.in-LineComment.length _ _ move.owns (omega arith) (omega arith));
    }

pub loop-at-preserved-in-BlockComment : goal.loop-at-preserved-in-BlockComment
loop-at-preserved-in-BlockComment g c =
    let s = c.args.source.now in
    let at = c.loop-at.at in
    let front = drop_more s at 0 (omega arith) in
    let stands = c.in-BlockComment.ensures.stands in
    let fits = c.in-BlockComment.ensures.fits in
    let move = over_comment s _ _ _ _ 0 0 0 piece.BlockComment front stands.0 refl refl refl refl stands.1 fits.0 in
    let known = c.loop-at.invariant in
    let count : at + c.in-BlockComment.length - at ≡ c.in-BlockComment.length = omega arith in
    let part = ap (λ n. min (c.loop-at.line + count_by is_feed (take n (drop at s))) last_line) count in
    record {
      within = omega (arith, fits.1);
      begins = omega (arith, known.begins);
      looks = omega (arith, known.looks, fits.0);
      room = known.room;
      len = known.len;
      line = line_more s at c.in-BlockComment.length c.loop-at.line _ known.line (c.line_behind-line.ensures ∙ part);
      tokens = space_read_at _ _ s c.args.begin _ _ _ _ (omega arith) front (ap is_space stands.0) (ap ends_statement stands.0) stands.1 known.tokens;
      later = sym move.later ∙ known.later;
      closed = sym move.closed ∙ known.closed;
      short = omega (arith, known.short, short_step 0 0 c.in-BlockComment.length _ _ move.owns (omega arith) (omega arith));
    }

pub loop-at-preserved : goal.loop-at-preserved
loop-at-preserved g c =
    let s = c.args.source.now in
    let at = c.loop-at.at in
    let front = drop_more s at 0 (omega arith) in
    let n = c.in-Token.length in
    let stands = c.in-Token.ensures.stands in
    let fits = c.in-Token.ensures.fits in
    let parts = pieces_of_token s _ _ _ _ front stands.0 stands.2 fits.0 (omega (arith, fits.1, length-drop (at + 1) s)) in
    let move = over_token s _ _ 0 0 0 fits.0 parts in
    let known = c.loop-at.invariant in
    let room : c.loop-at.count < length c.loop-at.slots = omega arith in
    let long = length-set c.loop-at.slots c.loop-at.count _ in
    let count : at + n - at ≡ n = omega arith in
    let part : take (at + n - at) (drop at s) ≡ take n (drop at s) = ap (λ k. take k (drop at s)) count in
    record {
      within = omega (arith, fits.1);
      begins = omega (arith, known.begins, fits.0);
      looks = omega (arith, known.looks, fits.0);
      room = rw long (omega arith);
      len = long ∙ known.len;
      line = line_over_token c.one_division.ensures.some s _ _ _ _ _ front (token_on_line _ stands.0) (token_run s _ _ _ _ front stands.0 stands.2) known.line;
      tokens = token_read_at _ _ _ s c.args.begin at _ _ n _ (omega arith) front stands.0 stands.2 (take_more_set c.loop-at.slots c.loop-at.count _ room) stands.1 part refl known.tokens;
      later = sym move.later ∙ known.later;
      closed = sym move.closed ∙ known.closed;
      short = omega (arith, known.short, short_step (0 + n) (0 + n) n _ _ move.owns (omega arith) (omega arith));
    }

pub returns-in-Unclosed-clause-read : goal.returns-in-Unclosed-clause-read
returns-in-Unclosed-clause-read g c =
    let s = c.args.source.now in
    let at = c.loop-at.at in
    let front = drop_more s at 0 (omega arith) in
    sym c.loop-at.invariant.closed ∙ never_closes s _ _ _ front c.in-Unclosed.ensures.stands

pub returns-clause-read : goal.returns-clause-read
returns-clause-read g c =
    let s = c.args.source.now in
    let past : length s ≤ c.loop-at.at = omega arith in
    let stop = stops_behind s c.loop-at.at past in
    let known = c.loop-at.invariant in (
      known.room,
      record {
        tokens = all_read _ _ _ known.tokens (no_tokens_left s _ _ past);
        later = sym stop.later ∙ known.later;
        closed = sym known.closed ∙ stop.closed;
        short = omega (arith, known.short, short_end _ (stop.owns 0 0));
        line = known.line;
        within = known.within;
        more = omega arith;
      },
    )

pub returns-then-count-slots-clause-read : goal.returns-then-count-slots-clause-read
returns-then-count-slots-clause-read g c = λ read room put.
    let s = c.args.source.now in
    let at = c.loop-at.at in
    let front = drop_more s at 0 (omega arith) in
    let n = c.in-Token.length in
    let stands = c.in-Token.ensures.stands in
    let fits = c.in-Token.ensures.fits in
    let parts = pieces_of_token s _ _ _ _ front stands.0 stands.2 fits.0 (omega (arith, fits.1, length-drop (at + 1) s)) in
    let move = over_token s _ _ 0 0 0 fits.0 parts in
    let known = c.loop-at.invariant in
    let all : take c.loop-at.count c.loop-at.slots ≡ c.loop-at.slots = take_all c.loop-at.count c.loop-at.slots (omega arith) in
    let count : at + n - at ≡ n = omega arith in
    let part : take (at + n - at) (drop at s) ≡ take n (drop at s) = ap (λ k. take k (drop at s)) count in
    let made = subst (λ slots. map spelled slots ++ first_tokens_from 0 (at - c.args.begin) (drop at s) ≡ first_tokens_from 0 0 (drop c.args.begin s)) all known.tokens in
    record {
      within = omega (arith, fits.1);
      begins = omega (arith, known.begins, fits.0);
      room = omega (arith, room);
      line = line_over_token c.one_division.ensures.some s _ _ _ _ _ front (token_on_line _ stands.0) (token_run s _ _ _ _ front stands.0 stands.2) known.line;
      tokens = token_read_at c.loop-at.slots _ _ s c.args.begin at _ _ n _ (omega arith) front stands.0 stands.2 put stands.1 part refl made;
      later = sym move.later ∙ known.later;
      closed = sym move.closed ∙ known.closed;
      short = omega (arith, known.short, short_step (0 + n) (0 + n) n _ _ move.owns (omega arith) (omega arith));
    }
