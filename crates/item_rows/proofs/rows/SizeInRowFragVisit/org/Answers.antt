-- An `.org` counts from its own row or from one before it.
use Rattle.std.proofs.Common.{◌≡◌, ◌-◌, refl, rules}
use Rattle.item_rows.proofs.RowFitting.{org_fits}
use Rattle.item_rows.proofs.rows.SizeInRowFragVisit.org.Goals as goal

pub returns : goal.returns
returns c =
    let from : c.saturating_sub.result ≡ c.args.self.now.number - (c.args.self.now.index - c.args.held.now.from) = search rules in (
      rw (from, c.ahead.ensures.ahead, c.behind.ensures) refl,
      rw from (org_fits c.args.self.now.rows.count c.args.self.now.number (c.args.self.now.index - c.args.held.now.from) c.ahead.result c.behind.result c.ahead.ensures.within),
    )
