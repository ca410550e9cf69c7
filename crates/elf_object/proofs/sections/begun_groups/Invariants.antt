-- The lists so far, and those to come, are all.
use Rattle.std.proofs.Common.{◌≡◌, ◌++◌, [], drop, map}
use Rattle.asm_frags.specs.Groups.{groups_of}
use Rattle.elf_file.specs.Sections.{group_bytes}
use Rattle.elf_object.proofs.sections.begun_groups.Given as goal

abbrev pub invariant-loop-index : goal.invariant-loop-index
invariant-loop-index l =
    map (λ list. list.items) l.lists.items ++ map (λ group. group_bytes group.comdat []) (drop l.index (groups_of l.sections))
    ≡ map (λ group. group_bytes group.comdat []) (groups_of l.sections)
