-- One more entry.
use Rattle.std.proofs.Common.{◌≡◌, ◌<◌, length, get_or, ◌∙◌, arith}
use Rattle.std.proofs.lemmas.List.{get_or_default}
use Rattle.asm_levels.proofs.LinkLemmas.{have_more}
use Rattle.asm_levels.proofs.watching.Entries.add.Goals as goal

pub returns-clause-more : goal.returns-clause-more
returns-clause-more c =
    let heads = c.args.self.now.heads.items in
    let long = c.args.self.now.heads.ok.0 in
    let inside : c.args.node < length heads = omega arith in
    let before : c.index-before.result.now ≡ get_or heads c.args.node 0 = c.index-before.ensures ∙ get_or_default heads c.args.node _ 0 inside in
    let number : c.len-number.result ≡ length c.args.self.now.rows.items = c.len-number.ensures ∙ c.args.self.now.rows.ok.0 in
    rw (c.in_ok-push.ensures.items, c.in_ok-push-2.ensures.items, c.in_ok-push-3.ensures.items, number, before)
    (have_more (length c.args.all.rows.now) c.args.self.now.rows.items c.args.self.now.nodes.items heads c.args.self.now.links.items c.args.node c.args.row
    c.requires.linked inside c.requires.inside)
