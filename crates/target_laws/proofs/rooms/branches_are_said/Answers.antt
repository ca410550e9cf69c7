use Rattle.target_laws.proofs.Suffixes.{branches_are_said}
use Rattle.target_laws.proofs.rooms.branches_are_said.Goals as goal

pub returns : goal.returns
returns c =
    branches_are_said (record {
      layouts = c.layouts_keep_sections.ensures;
      settle = c.whole_stretches_cancel.ensures;
      valueless = c.fields_have_one_relocation.ensures.valueless;
    })
