-- One more group.
use Rattle.std.proofs.Common.{List, ℕ, [], ◌∷◌, ◌+◌, ◌≡◌, sym, ap, ◌∙◌, add-one, drop, map}
use Rattle.std.specs.Global.{Vec}
use Rattle.asm_frags.specs.declared.groups.Group.{Group}
use Rattle.asm_frags.specs.Groups.{groups_of}
use Rattle.elf_file.specs.Sections.{group_bytes}
use Rattle.elf_object.proofs.LoopSteps.{pushed}
use Rattle.elf_object.proofs.GroupLemmas.{group_left}
use Rattle.elf_object.proofs.sections.begun_groups.Goals as goal

pub loop-index-preserved : goal.loop-index-preserved
loop-index-preserved c =
    let groups = groups_of c.args.sections.now in
    let index = c.loop-index.index in
    let group : Group = record { signature = c.group-comdat.result.0.now; comdat = c.group-comdat.result.1 } in
    let first : Group → List ℕ = λ one. group_bytes one.comdat [] in
    let left : map first (drop index groups) ≡ first group ∷ map first (drop (index + 1) groups) =
    ap (map first) (group_left groups index group c.group-comdat.ensures ∙ ap (λ n. group ∷ drop n groups) (sym (add-one index))) in
    let is : c.in_ok-from_slice.field-0.items ≡ first group = c.in_ok-from_slice.ensures.items ∙ c.first_word.ensures in
    pushed (λ (list : Vec ℕ). list.items) c.loop-index.lists.items c.push.new.self.items c.in_ok-from_slice.field-0 (first group) (map first (drop index groups)) (map first (drop (index + 1) groups)) _
    is c.in_ok-push.ensures.items left c.loop-index.invariant
