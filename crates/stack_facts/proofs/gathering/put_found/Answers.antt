use Rattle.std.proofs.Common.{ap, ◌∙◌}
use Rattle.stack_facts.specs.Facts.{is_at}
use Rattle.stack_facts.proofs.GatherLemmas.{put_may}
use Rattle.stack_facts.proofs.gathering.put_found.Goals as goal

pub returns-in_ok-push-in-Some-clause-may : goal.returns-in_ok-push-in-Some-clause-may
returns-in_ok-push-in-Some-clause-may c =
    put_may c.args.slots.now.items c.push.new.self.items c.in-Some.slot c.requires.may (λ n r h. c.requires.saved n r (ap (λ o. is_at o n r) c.in-Some.is ∙ h)) c.in_ok-push-in-Some.ensures.items
