-- The section keeps its heading, and one item of it has the address and the size.
use Rattle.std.proofs.Common.{◌<◌, length, ap, ◌∙◌}
use Rattle.asm_frags.specs.Addresses.{section_laid_at}
use Rattle.asm_frags.specs.Sound.{heading_of}
use Rattle.asm_frags.proofs.NamedLemmas.{replaced_there}
use Rattle.asm_frags.proofs.AddressLemmas.{changed_is}
use Rattle.asm_frags.proofs.section_list.Sections+Laid.lay.Goals as goal

pub invariant_of-self : goal.invariant_of-self
invariant_of-self c =
    replaced_there _ _ _ c.self.inside.sections.items c.args.section c.lay.new.self c.index_mut.result.now c.self.invariant
    (ap heading_of c.lay.ensures ∙ ap heading_of c.index_mut.ensures.value)

pub returns-clause-sections : goal.returns-clause-sections
returns-clause-sections c =
    let within : c.args.section < length c.self.inside.sections.items = rw c.self.view_is c.requires.section in
    rw (← c.self.view_is, c.lay.ensures)
    (changed_is (λ section. section_laid_at section c.args.item c.args.address c.args.size) c.self.inside.sections.items c.args.section c.index_mut.result.now within c.index_mut.ensures.value)
