-- One more has none.
use Rattle.std.proofs.Common.{◌≡◌, ◌++◌, [], ◌∷◌, ap, ◌∙◌, arith}
use Rattle.std.proofs.lemmas.List.{replicate_more}
use Rattle.assigned_forms.specs.declared.expanding.Expansion.TheVariants.{Absent}
use Rattle.assigned_forms.proofs.ExpansionLemmas.{map_absent}
use Rattle.assigned_forms.proofs.expanding.MadeForms.none.Goals as goal

pub loop-preserved : goal.loop-preserved
loop-preserved c = c.in_ok-push.ensures.items ∙ ap (λ xs. xs ++ Absent ∷ []) c.loop.invariant ∙ replicate_more c.loop.counter Absent

pub returns : goal.returns
returns c = let all : c.loop.counter ≡ c.args.count = omega arith in rw (c.loop.invariant, all) (map_absent c.args.count)
