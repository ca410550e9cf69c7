-- The laws hold.
use Rattle.elf_object.proofs.OneRelocation as law
use Rattle.elf_object.proofs.laws.fields_have_one_relocation.Goals as goal

pub returns : goal.returns
returns c = record {
  all = law.relocations_are_of_fields;
  said = law.said_have_one;
  valueless = law.valueless_have_one;
  valued = law.values_have_none;
}
