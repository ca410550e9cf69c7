use Rattle.target_laws.proofs.TargetFields.{branches_have_targets, targets_are_alone}
use Rattle.target_laws.proofs.branches.branches_have_targets.Goals as goal

pub returns-clause-first : goal.returns-clause-first
returns-clause-first c = branches_have_targets

pub returns-clause-alone : goal.returns-clause-alone
returns-clause-alone c = targets_are_alone c.encodings_are_codes.ensures.notes c.encodings_are_codes.ensures.positions c.fields_stand_apart.ensures.values
