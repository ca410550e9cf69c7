-- The row has one level, or a span within a section, or another.
use Rattle.std.proofs.Common.{◌≡◌, length, get_or, sym, ◌∙◌, arith}
use Rattle.std.proofs.lemmas.List.{get_or_default}
use Rattle.asm_levels.proofs.WatchLemmas.{one_level, wide_more, entries_more}
use Rattle.asm_levels.proofs.watching.Watchers.watch.Goals as goal

pub returns-then-top-eq0-clause-first : goal.returns-then-top-eq0-clause-first
returns-then-top-eq0-clause-first c =
    let rows = c.args.all.rows.now in
    let row = get_or rows c.args.row c.index-all-row.result in
    let old = c.args.self.now.entries in
    one_level rows c.args.all.ends.now old.rows.items old.nodes.items old.heads.items old.links.items old.follows.items c.args.self.now.wide.items c.args.row row c.requires.inside
    (get_or_default rows c.args.row c.index-all-row.result row c.requires.inside) (sym c.top.ensures ∙ c.if-top-eq0.true) c.requires.first

pub returns-in_ok-push-in-None-clause-first : goal.returns-in_ok-push-in-None-clause-first
returns-in_ok-push-in-None-clause-first c =
    let rows = c.args.all.rows.now in
    let row = get_or rows c.args.row c.index-all-row.result in
    let old = c.args.self.now.entries in
    rw c.in_ok-push-in-None.ensures.items
    (wide_more rows c.args.all.ends.now old.rows.items old.nodes.items old.heads.items old.links.items old.follows.items c.args.self.now.wide.items c.args.row row c.requires.inside
    (get_or_default rows c.args.row c.index-all-row.result row c.requires.inside) (λ none. c.if-top-eq0.false (c.top.ensures ∙ none)) c.requires.first)

pub returns-in_ok-run-in-Some-clause-first : goal.returns-in_ok-run-in-Some-clause-first
returns-in_ok-run-in-Some-clause-first c =
    let rows = c.args.all.rows.now in
    let row = get_or rows c.args.row c.index-all-row.result in
    let old = c.args.self.now.entries in
    let made = c.add_run.new.entries in
    let one = c.in_ok-run-in-Some.ensures in
    let same : length made.heads.items ≡ length old.heads.items = (let long = made.heads.ok.0 in let other = old.heads.ok.0 in let kept = c.add_run.ensures.nodes in omega arith) in
    entries_more rows c.args.all.ends.now old.rows.items old.nodes.items old.heads.items old.links.items old.follows.items c.args.self.now.wide.items
    made.rows.items made.nodes.items made.heads.items made.links.items made.follows.items c.args.row c.in-Some.start c.in-Some.end row c.requires.inside
    (get_or_default rows c.args.row c.index-all-row.result row c.requires.inside) (λ none. c.if-top-eq0.false (c.top.ensures ∙ none))
    c.in-Some.ensures.span c.in-Some.ensures.section one.more same one.follows one.own c.requires.first
