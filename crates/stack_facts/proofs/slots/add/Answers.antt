use Rattle.std.proofs.Common.{◌≡◌, ap, sym, ◌∙◌, arith}
use Rattle.stack_facts.specs.Sets.{place_of}
use Rattle.stack_facts.proofs.SlotLemmas.{added}
use Rattle.stack_facts.proofs.slots.add.Goals as goal

pub returns-in_ok-push : goal.returns-in_ok-push
returns-in_ok-push c =
    let s = c.args.slot in
    let p : place_of c.args.slots.now.items s.distance s.register ≡ c.place_of.result = ap (λ xs. place_of xs s.distance s.register) (sym c.deref.ensures.value) ∙ sym c.place_of.ensures.value in
    let t = c.if-place_of-len.true in
    let l = c.len.ensures in
    let k = c.args.slots.now.ok.0 in
    added c.args.slots.now.items c.push.new.self.items s c.requires.plain c.requires.saved
    (omega arith)
    c.in_ok-push.ensures.items
