-- The search finds the symbol, or sees all that the form leads to.
use Rattle.std.proofs.Common.{◌≤◌, ◌<◌, length, sym, ap, ◌∙◌, arith, option_copied}
use Rattle.asm_symbols.proofs.SearchLemmas.{searching_start, starting_back, searching_step, searching_back, searching_within, searching_few, searching_done}
use Rattle.asm_symbols.proofs.LeadsBackLemmas.{leads_is_back, leads_not_back}
use Rattle.asm_symbols.proofs.symbol_map.Symbols.search_back.Goals as goal

pub returns-then-branch-clause-leads : goal.returns-then-branch-clause-leads
returns-then-branch-clause-leads c =
    starting_back c.args.self.now.symbols c.args.form.now c.args.id (rw (c.terms.ensures.terms, c.requires, c.if-branch.true) at c.in_ok-see.ensures.value)

pub symbols-init : goal.symbols-init
symbols-init c =
    searching_start c.args.self.now.symbols c.args.form.now c.args.id c.see.new.seen.keys (rw (c.terms.ensures.terms, c.requires, c.if-branch.false) at c.in_ok-see.ensures.value)

pub see_behind-requires : goal.see_behind-requires
see_behind-requires c =
    let there = sym c.get_index.ensures.key ∙ ap option_copied c.unwrap.ensures in
    rw c.new-middle.ensures (searching_within c.args.self.now.symbols c.args.form.now c.args.id c.symbols.seen.keys c.symbols.at c.symbols.invariant c.unwrap.result.now there)

pub returns-then-branch-2-clause-leads : goal.returns-then-branch-2-clause-leads
returns-then-branch-2-clause-leads c =
    let there = sym c.get_index.ensures.key ∙ ap option_copied c.unwrap.ensures in
    searching_back c.args.self.now.symbols c.args.form.now c.args.id c.symbols.seen.keys c.symbols.at c.symbols.invariant c.unwrap.result.now there
    (rw (c.new-middle.ensures, c.if-branch-2.true) at c.in_ok-see_behind.ensures.value)

pub symbols-preserved : goal.symbols-preserved
symbols-preserved c =
    let there = sym c.get_index.ensures.key ∙ ap option_copied c.unwrap.ensures in
    searching_step c.args.self.now.symbols c.args.form.now c.args.id c.symbols.seen.keys c.see_behind.new.seen.keys c.symbols.at c.unwrap.result.now c.symbols.invariant there
    (rw (c.new-middle.ensures, c.if-branch-2.false) at c.in_ok-see_behind.ensures.value)

pub symbols-smaller : goal.symbols-smaller
symbols-smaller c =
    let few = searching_few c.args.self.now.symbols c.args.form.now c.args.id c.symbols.seen.keys c.symbols.at c.symbols.invariant c.len.ensures.unique in
    let inside : c.symbols.at < length c.symbols.seen.keys = omega (arith, c.len.ensures.len) in
    omega (arith, few)

pub returns-clause-leads : goal.returns-clause-leads
returns-clause-leads c =
    let all : length c.symbols.seen.keys ≤ c.symbols.at = omega (arith, c.len.ensures.len) in
    searching_done c.args.self.now.symbols c.args.form.now c.args.id c.symbols.seen.keys c.symbols.at c.symbols.invariant all

pub returns-then-branch-clause-value : goal.returns-then-branch-clause-value
returns-then-branch-clause-value c = leads_is_back c.args.self.now.symbols c.args.form.now c.args.id (returns-then-branch-clause-leads c)

pub returns-then-branch-2-clause-value : goal.returns-then-branch-2-clause-value
returns-then-branch-2-clause-value c = leads_is_back c.args.self.now.symbols c.args.form.now c.args.id (returns-then-branch-2-clause-leads c)

pub returns-clause-value : goal.returns-clause-value
returns-clause-value c = leads_not_back c.args.self.now.symbols c.args.form.now c.args.id (returns-clause-leads c)
