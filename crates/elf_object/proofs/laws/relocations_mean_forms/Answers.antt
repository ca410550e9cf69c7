-- Where the symbols of the form stand, and what cancels.
use Rattle.elf_object.proofs.RelocationLemmas.{relocations_mean}
use Rattle.elf_object.proofs.laws.relocations_mean_forms.Goals as goal

pub returns : goal.returns
returns c = relocations_mean c.cancelled_labels_keep_the_value.ensures
