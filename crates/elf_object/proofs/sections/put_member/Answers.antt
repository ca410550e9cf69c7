-- The list of the group is found by its signature.
use Rattle.std.proofs.Common.{ℕ, List, ap₂, length, flat_map, subst, sym, ◌<◌, ◌++◌, ◌∙◌}
use Rattle.std.specs.Global.{Vec}
use Rattle.asm_frags.specs.Groups.{groups_of, has_signature}
use Rattle.elf_file.specs.Fields.{word}
use Rattle.elf_object.specs.declared.relocations.Relocation.{Relocation}
use Rattle.elf_object.specs.Sections.{own_headers}
use Rattle.elf_object.proofs.GroupLemmas.{place_within, member_there}
use Rattle.elf_object.proofs.sections.put_member.Goals as goal

pub returns-in_ok-put_headers : goal.returns-in_ok-put_headers
returns-in_ok-put_headers c =
    let groups = groups_of c.args.sections.now in
    let place = c.in-Some-group_index.place in
    let found = sym c.in-Some-group_index.ensures in
    let inside : place < length c.args.lists.now.items = subst (λ n. place < n) (sym c.requires.long) (place_within (has_signature c.as_bytes.result.now) place groups found) in
    let was = c.index_mut.result.now in
    let put = c.in_ok-put_headers.ensures ∙ ap₂ (λ (front : Vec ℕ) (own : List Relocation). front.items ++ flat_map word (own_headers c.args.index own)) c.index_mut.ensures.value c.deref.ensures.value in
    member_there c.args.lists.now.items groups c.args.held.now.source.now.group c.in-Some.group.now c.as_bytes.result.now place c.put_headers.new.list was
    (flat_map word (own_headers c.args.index c.args.held.now.relocations.items)) (sym c.in-Some.ensures) c.as_bytes.ensures found inside put
