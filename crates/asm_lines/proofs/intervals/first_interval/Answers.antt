-- Each piece adds to what is known, until one ends the statement.
use Rattle.std.proofs.Common.{◌≡◌, ◌+◌, ◌∷◌, length, take, drop, min, sym, ap, subst, ◌∙◌, arith}
use Rattle.std.specs.Prelude.{count_by}
use Rattle.std.proofs.lemmas.List.{length-drop, take_rest}
use Rattle.asm_base.specs.ByteClasses.{is_feed}
use Rattle.asm_lines.specs.LineNumbers.{last_line}
use Rattle.std.specs.List.{prefix_len}
use Rattle.std.proofs.lemmas.List.Sums.{prefix_len-le-length}
use Rattle.asm_base.specs.Dividing.{is_plain}
use Rattle.asm_lines.specs.declared.intervals.PieceAt.{PieceAt}
use Rattle.asm_lines.specs.Scan.{EndsBy, scanned}
use Rattle.asm_lines.proofs.PlainRuns.{later_plain, line_of_run, scan_plain}
use Rattle.asm_lines.proofs.Pieces.{scan_more, later_more, scan_ends, later_ends, scan_at_end, later_at_end, line_more}
use Rattle.asm_lines.proofs.intervals.first_interval.Goals as goal

pub returns-then-ends_statement-clause-scan : goal.returns-then-ends_statement-clause-scan
returns-then-ends_statement-clause-scan g c =
    let source = c.args.source.now in
    let front : drop c.loop-first.at source ≡ c.in-Some.first.now ∷ c.in-Some.rest.now = sym (take_rest source c.loop-first.at) ∙ c.in-Some.ensures.cases.0 in
    let piece = c.first_piece-piece.ensures in
    scan_ends source _ _ _ _ _ _ _ front piece.length piece.progress piece.kind (sym c.ends_statement.ensures ∙ c.if-ends_statement.true) c.loop-first.invariant.scan

pub returns-then-ends_statement-clause-pieces : goal.returns-then-ends_statement-clause-pieces
returns-then-ends_statement-clause-pieces g c =
    let source = c.args.source.now in
    let front : drop c.loop-first.at source ≡ c.in-Some.first.now ∷ c.in-Some.rest.now = sym (take_rest source c.loop-first.at) ∙ c.in-Some.ensures.cases.0 in
    let piece = c.first_piece-piece.ensures in
    later_ends source _ _ _ _ _ _ front piece.length piece.progress piece.kind (sym c.ends_statement.ensures ∙ c.if-ends_statement.true) c.loop-first.invariant.later

pub returns-then-ends_statement-clause-line : goal.returns-then-ends_statement-clause-line
returns-then-ends_statement-clause-line g c =
    let part = ap (λ n. min (c.loop-first.line + count_by is_feed (take n (drop c.loop-first.at c.args.source.now))) last_line) (omega arith) in
    line_more c.args.source.now c.loop-first.at c.first_piece-piece.result.length c.loop-first.line _ c.loop-first.invariant.line (c.line_behind-line_there.ensures ∙ part)

pub loop-first-preserved-then-plain-gt0 : goal.loop-first-preserved-then-plain-gt0
loop-first-preserved-then-plain-gt0 g c =
    let source = c.args.source.now in
    let run : c.plain_length-plain.result ≡ prefix_len is_plain (drop c.loop-first.at source) = c.plain_length-plain.ensures.value ∙ ap (prefix_len is_plain) (take_rest source c.loop-first.at) in
    let known = c.with-scan.ensures.value ∙ ap (scanned c.loop-first.scan) c.plain_run.ensures in
    record {
      within = omega (arith, length-drop c.loop-first.at source, prefix_len-le-length is_plain (drop c.loop-first.at source));
      line = line_of_run source c.loop-first.at c.plain_length-plain.result c.loop-first.line (omega arith) c.loop-first.invariant.line;
      scan = scan_plain source c.loop-first.at c.plain_length-plain.result c.loop-first.line c.loop-first.scan _ _ c.if-plain-gt0.true run c.loop-first.invariant.line known c.loop-first.invariant.scan;
      later = later_plain source c.loop-first.at c.plain_length-plain.result _ run c.loop-first.invariant.later;
      ends = subst (λ (piece : PieceAt). EndsBy (piece.start + piece.length) c.with-scan.result.span) c.plain_run.ensures c.with-scan.ensures.within;
      begins = omega arith;
      looks = omega (arith, c.if-plain-gt0.true);
    }

pub loop-first-preserved : goal.loop-first-preserved
loop-first-preserved g c =
    let source = c.args.source.now in
    let front : drop c.loop-first.at source ≡ c.in-Some.first.now ∷ c.in-Some.rest.now = sym (take_rest source c.loop-first.at) ∙ c.in-Some.ensures.cases.0 in
    let piece = c.first_piece-piece.ensures in
    let goes_on = sym c.ends_statement.ensures ∙ c.if-ends_statement.false in
    let part = ap (λ n. min (c.loop-first.line + count_by is_feed (take n (drop c.loop-first.at source))) last_line) (omega arith) in
    record {
      within = omega (arith, length-drop c.loop-first.at source, ap length front, piece.within);
      line = line_more source c.loop-first.at c.first_piece-piece.result.length c.loop-first.line _ c.loop-first.invariant.line (c.line_behind-line_there.ensures ∙ part);
      scan = scan_more source _ _ _ _ c.loop-first.line _ _ _ _ front piece.length piece.progress piece.within piece.kind c.loop-first.invariant.line goes_on c.with-scan-in-Some.ensures.value c.loop-first.invariant.scan;
      later = later_more source _ _ _ _ _ _ front piece.length piece.progress piece.kind goes_on c.loop-first.invariant.later;
      ends = c.with-scan-in-Some.ensures.within;
      begins = omega arith;
      looks = omega (arith, piece.progress);
    }

pub returns-clause-scan : goal.returns-clause-scan
returns-clause-scan g c =
    let source = c.args.source.now in
    let nothing : length (drop c.loop-first.at source) ≡ 0 = rw take_rest at c.in_default.ensures.cases in
    scan_at_end source c.loop-first.at _ _ (omega (arith, length-drop c.loop-first.at source)) c.loop-first.invariant.scan

pub returns-clause-pieces : goal.returns-clause-pieces
returns-clause-pieces g c =
    let source = c.args.source.now in
    let nothing : length (drop c.loop-first.at source) ≡ 0 = rw take_rest at c.in_default.ensures.cases in
    later_at_end source c.loop-first.at _ (omega (arith, length-drop c.loop-first.at source)) c.loop-first.invariant.later
