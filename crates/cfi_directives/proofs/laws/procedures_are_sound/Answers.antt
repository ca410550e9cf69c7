-- Each clause is a lemma on the definitions.
use Rattle.cfi_directives.proofs.SoundLemmas.{kept_sound, all_sound}
use Rattle.cfi_directives.proofs.laws.procedures_are_sound.Goals as goal

pub returns-clause-kept : goal.returns-clause-kept
returns-clause-kept c = kept_sound

pub returns-clause-all : goal.returns-clause-all
returns-clause-all c = all_sound
