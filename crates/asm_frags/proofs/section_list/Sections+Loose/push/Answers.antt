-- The section keeps its heading, and its answer is that of all sections.
use Rattle.std.proofs.Common.{◌≡◌, ◌<◌, Some, length, slice_get, sym, ◌∙◌, ap}
use Rattle.std.proofs.lemmas.Option.{slice_get-get_or}
use Rattle.asm_frags.specs.Sound.{heading_of}
use Rattle.asm_frags.specs.Writing.{item_put}
use Rattle.asm_frags.proofs.NamedLemmas.{replaced_there}
use Rattle.asm_frags.proofs.PushLemmas.{item_heading, put_changes}
use Rattle.asm_frags.proofs.section_list.Sections+Loose.push.Goals as goal

pub invariant_of-self : goal.invariant_of-self
invariant_of-self c =
    let old = c.index_mut-section.result.now in
    let named : heading_of c.put.new.self ≡ heading_of old = item_heading old c.put.new.self c.put.result c.args.item c.put.ensures in
    replaced_there _ _ _ c.self.inside.sections.items c.args.section c.put.new.self old c.self.invariant (named ∙ ap heading_of c.index_mut-section.ensures.value)

pub returns : goal.returns
returns c =
    let old = c.index_mut-section.result.now in
    let within : c.args.section < length c.self.inside.sections.items = rw c.self.view_is c.requires in
    let found : slice_get c.self.inside.sections.items c.args.section ≡ Some old = slice_get-get_or c.self.inside.sections.items c.args.section old within ∙ ap Some (sym c.index_mut-section.ensures.value) in
    let changed = put_changes (item_put c.args.item) c.self.inside.sections.items c.args.section old c.put.new.self old c.put.result found c.index_mut-section.ensures.value c.put.ensures in
    rw (← c.self.view_is) changed
