-- Each interval adds its statement, and the first fault ends the loop.
use Rattle.std.proofs.Common.{◌≡◌, ◌++◌, Some, None, Ok, Err, length, map, sym, ap, ◌∙◌, refl, arith}
use Rattle.std.proofs.lemmas.List.{map-append, append-nil}
use Rattle.std.specs.List.{filter_map}
use Rattle.asm_base.specs.declared.refusals.Refusal.TheVariants.{Fault}
use Rattle.asm_base.specs.Dividing.{pieces_of}
use Rattle.asm_lines.specs.Intervals.{intervals_of}
use Rattle.asm_lines.specs.Faults.{earlier}
use Rattle.asm_lines.specs.Statements.{statement_in, statements_of}
use Rattle.asm_lines.specs.LineNumbers.{line_of}
use Rattle.asm_lines.specs.Seen.{seen}
use Rattle.asm_lines.specs.Scan.{first_interval, found_by_scan, interval_found, pieces_at, statement_by_span}
use Rattle.asm_lines.proofs.Scans.{scanned_fault, scanned_statement}
use Rattle.asm_lines.proofs.Steps.{answer_err, answer_ok, by_grammar, found_stop, long_end, long_step, no_found, open_end, open_step, statements_end, statements_step}
use Rattle.asm_lines.proofs.reading.read_statements.Goals as goal

pub loop-at-init : goal.loop-at-init
unfolding line_of
loop-at-init g c =
    let source = c.as_bytes-source.result.now in
    record { line = refl; within = omega arith; looks = omega arith; unclosed = refl; long = refl; statements = ap (λ done. map seen done ++ filter_map (statement_in c.args.file source) (intervals_of (pieces_of source))) c.new-items.ensures.items }

pub returns-in-Some : goal.returns-in-Some
returns-in-Some g c =
    let source = c.as_bytes-source.result.now in
    let interval = first_interval (pieces_at source c.loop-at.at) in
    let fault : interval_found source interval ≡ Some c.in-Some.found = sym (scanned_fault source interval) ∙ ap found_by_scan (sym c.first_interval-interval.ensures.scan) ∙ sym c.in-Some.ensures in
    let whole = found_stop source c.loop-at.at c.in-Some.found _ _ fault c.loop-at.invariant.unclosed c.loop-at.invariant.long in
    let first = ap (λ nul. earlier nul (Some c.in-Some.found)) (sym c.nul_found-nul.ensures) ∙ sym c.earlier.ensures in
    let value = ap (statements_of c.args.file) (sym c.as_bytes-source.ensures) ∙ answer_err c.args.file source c.earlier.result (Some c.in-Some.found) whole first in
    record { grammar = by_grammar c.args.file c.args.text.now (Err (Fault c.earlier.result.fault)) c.one_division.ensures.only value; value = value; looks = omega (arith, ap length c.as_bytes-source.ensures) }

pub loop-at-preserved-in_ok-push : goal.loop-at-preserved-in_ok-push
loop-at-preserved-in_ok-push g c =
    let source = c.as_bytes-source.result.now in
    let read = c.first_interval-interval.ensures in
    let interval = first_interval (pieces_at source c.loop-at.at) in
    let none : interval_found source interval ≡ None = sym (scanned_fault source interval) ∙ ap found_by_scan (sym read.scan) ∙ sym c.in_default.ensures in
    let statement = c.in-Some-statement_by_span.ensures ∙ ap (λ scan. statement_by_span c.args.file source scan.span) read.scan ∙ scanned_statement c.args.file source interval in
    record {
      line = read.line;
      within = read.within;
      looks = omega (arith, read.looks);
      unclosed = open_step source c.loop-at.at c.first_interval-interval.result.next _ read.pieces none c.loop-at.invariant.unclosed;
      long = long_step source c.loop-at.at c.first_interval-interval.result.next _ read.pieces none c.loop-at.invariant.long;
      statements = statements_step c.args.file source c.loop-at.at c.first_interval-interval.result.next (map seen c.loop-at.items.items) _ _ (Some (seen c.in-Some-statement_by_span.statement)) read.pieces statement (ap (map seen) c.in_ok-push.ensures.items ∙ map-append seen c.loop-at.items.items _) c.loop-at.invariant.statements;
    }

pub loop-at-preserved : goal.loop-at-preserved
loop-at-preserved g c =
    let source = c.as_bytes-source.result.now in
    let read = c.first_interval-interval.ensures in
    let interval = first_interval (pieces_at source c.loop-at.at) in
    let none : interval_found source interval ≡ None = sym (scanned_fault source interval) ∙ ap found_by_scan (sym read.scan) ∙ sym c.in_default.ensures in
    let statement = c.in_default-statement_by_span.ensures ∙ ap (λ scan. statement_by_span c.args.file source scan.span) read.scan ∙ scanned_statement c.args.file source interval in
    record {
      line = read.line;
      within = read.within;
      looks = omega (arith, read.looks);
      unclosed = open_step source c.loop-at.at c.first_interval-interval.result.next _ read.pieces none c.loop-at.invariant.unclosed;
      long = long_step source c.loop-at.at c.first_interval-interval.result.next _ read.pieces none c.loop-at.invariant.long;
      statements = statements_step c.args.file source c.loop-at.at c.first_interval-interval.result.next (map seen c.loop-at.items.items) (map seen c.loop-at.items.items) _ None read.pieces statement (sym (append-nil (map seen c.loop-at.items.items))) c.loop-at.invariant.statements;
    }

pub returns-in-Some-nul : goal.returns-in-Some-nul
returns-in-Some-nul g c =
    let source = c.as_bytes-source.result.now in
    let none = no_found _ _ (open_end source c.loop-at.at _ c.loop-at-test.false c.loop-at.invariant.unclosed) (long_end source c.loop-at.at _ c.loop-at-test.false c.loop-at.invariant.long) in
    let first = ap (λ nul. earlier nul None) (sym c.nul_found-nul.ensures ∙ c.in-Some-nul.is) in
    let value = ap (statements_of c.args.file) (sym c.as_bytes-source.ensures) ∙ answer_err c.args.file source c.in-Some-nul.found None none first in
    record { grammar = by_grammar c.args.file c.args.text.now (Err (Fault c.in-Some-nul.found.fault)) c.one_division.ensures.only value; value = value; looks = omega (arith, ap length c.as_bytes-source.ensures) }

pub returns : goal.returns
returns g c =
    let source = c.as_bytes-source.result.now in
    let none = no_found _ _ (open_end source c.loop-at.at _ c.loop-at-test.false c.loop-at.invariant.unclosed) (long_end source c.loop-at.at _ c.loop-at-test.false c.loop-at.invariant.long) in
    let value = ap (statements_of c.args.file) (sym c.as_bytes-source.ensures) ∙ answer_ok c.args.file source _ none (sym c.nul_found-nul.ensures ∙ c.in-None.is) (statements_end c.args.file source c.loop-at.at _ _ c.loop-at-test.false c.loop-at.invariant.statements) in
    record { grammar = by_grammar c.args.file c.args.text.now (Ok (map seen c.loop-at.items.items)) c.one_division.ensures.only value; value = value; looks = omega (arith, ap length c.as_bytes-source.ensures) }
