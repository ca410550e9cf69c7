-- No section yet.
use Rattle.std.proofs.Common.{◌≡◌, ℕ, List, ◌++◌, sym, ap, ◌∙◌, arith, length, map}
use Rattle.std.proofs.lemmas.List.{length-map}
use Rattle.std.specs.Global.{Vec}
use Rattle.asm_frags.specs.declared.groups.Group.{Group}
use Rattle.asm_frags.specs.Groups.{groups_of}
use Rattle.elf_file.specs.Sections.{group_bytes}
use Rattle.elf_file.specs.Views.{section_view}
use Rattle.elf_file.specs.declared.sections.FileSection.{FileSection}
use Rattle.elf_symbols.specs.Views.{numbers_view}
use Rattle.elf_object.specs.Sections.{members_from}
use Rattle.elf_object.specs.Views.{relocations_in}
use Rattle.elf_object.proofs.GroupLemmas.{entries_listed, listing_entries}
use Rattle.elf_object.proofs.sections.group_sections.Goals as goal

pub loop-list-init : goal.loop-list-init
loop-list-init c =
    let sections = c.args.sections.now in
    let groups = groups_of sections in
    let found = map relocations_in c.args.held.now in
    let numbers = numbers_view c.args.numbers.now in
    let given = c.into_iter-list-iterator.ensures.into_iter_gives in
    let made = c.in_ok-lists.ensures in
    let long : length c.in_ok-lists.lists.items ≡ length groups =
    sym (length-map c.in_ok-lists.lists.items (λ (list : Vec ℕ). list.items)) ∙ ap length made ∙ length-map groups (λ (group : Group). group_bytes group.comdat (members_from group.signature c.args.first sections found)) in
    let first = c.requires.first in
    let within = c.requires.within in
    let rest = c.into_iter-list-iterator.result.rest.items in
    let left : length rest ≡ length c.in_ok-lists.lists.items = ap length given.0 in
    let words : ℕ → List (List ℕ) = λ index. map (λ (group : Group). group_bytes group.comdat (members_from group.signature index sections found)) groups in
    record {
      below = omega (arith, left, long, first, within);
      left = ap (λ (out : List FileSection). map section_view out ++ listing_entries numbers c.args.symbols 0 (map (λ (list : Vec ℕ). list.items) rest)) c.in_ok-out.ensures.items
          ∙ ap (λ (lists : List (Vec ℕ)). listing_entries numbers c.args.symbols 0 (map (λ (list : Vec ℕ). list.items) lists)) given.0
          ∙ ap (listing_entries numbers c.args.symbols 0) made ∙ ap (λ index. listing_entries numbers c.args.symbols 0 (words index)) first
          ∙ entries_listed numbers c.args.symbols sections found 0 groups;
    }
