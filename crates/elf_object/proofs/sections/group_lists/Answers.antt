-- One more section.
use Rattle.std.proofs.Common.{List, ℕ, [], ◌≡◌, sym, ap, ◌∙◌, arith, length, map}
use Rattle.std.proofs.lemmas.List.{length-map}
use Rattle.std.proofs.lemmas.List.{at_drop_all}
use Rattle.std.specs.Global.{Vec}
use Rattle.asm_frags.specs.declared.groups.Group.{Group}
use Rattle.asm_frags.specs.Groups.{groups_of}
use Rattle.elf_file.specs.Sections.{group_bytes}
use Rattle.elf_object.specs.Sections.{header_count}
use Rattle.elf_object.specs.Views.{relocations_in, source_of}
use Rattle.elf_object.proofs.GroupLemmas.{lists_begin, lists_end, lists_step, member_long, count_few, completed}
use Rattle.elf_object.proofs.sections.group_lists.Goals as goal

pub loop-section-init : goal.loop-section-init
loop-section-init c =
    let groups = groups_of c.args.sections.now in
    let found = map relocations_in c.args.held.now in
    let first = c.args.first in
    let begun = c.in_ok-lists.ensures in
    record {
      below = omega arith;
      long = sym (length-map c.in_ok-lists.lists.items (λ (list : Vec ℕ). list.items)) ∙ ap length begun ∙ length-map groups (λ (group : Group). group_bytes group.comdat []);
      left = ap (λ (lists : List (List ℕ)). completed lists groups first (map source_of c.args.held.now) found) begun
          ∙ ap (λ sections. completed (map (λ (group : Group). group_bytes group.comdat []) groups) groups first sections found) c.requires.sources
          ∙ lists_begin groups first c.args.sections.now found;
    }

pub loop-section-preserved : goal.loop-section-preserved
loop-section-preserved c =
    let groups = groups_of c.args.sections.now in
    let held = c.args.held.now in
    let i = c.loop-section.section-index in
    let index = c.loop-section.index in
    let section = c.section-item.result in
    let lists : List (List ℕ) = map (λ (list : Vec ℕ). list.items) c.loop-section.lists.items in
    let put = c.in_ok-put_member.ensures in
    let count : c.header_count-index.result ≡ header_count section.relocations.items = c.header_count-index.ensures ∙ ap header_count c.deref.ensures.value in
    let few = count_few section.relocations.items in
    let below = c.loop-section.invariant.below in
    let long = sym (length-map c.put_member.new.lists.items (λ (list : Vec ℕ). list.items)) ∙ ap length put ∙ member_long lists groups section.source.now.group _
    ∙ length-map c.loop-section.lists.items (λ (list : Vec ℕ). list.items) in
    record {
      below = omega (arith, count, few, below);
      long = long ∙ c.loop-section.invariant.long;
      left = lists_step source_of relocations_in lists _ c.args.sections.now index c.header_count-index.result i held section _ put count c.loop-section-test.true c.section-item.is
          c.loop-section.invariant.left;
    }

pub returns : goal.returns
returns c =
    let groups = groups_of c.args.sections.now in
    let held = c.args.held.now in
    let i = c.loop-section.section-index in
    let lists : List (List ℕ) = map (λ (list : Vec ℕ). list.items) c.loop-section.lists.items in
    let long : length lists ≡ length groups = length-map c.loop-section.lists.items (λ (list : Vec ℕ). list.items) ∙ c.loop-section.invariant.long in
    sym (lists_end lists groups c.loop-section.index long)
    ∙ sym (at_drop_all (λ these. completed lists groups c.loop-section.index (map source_of these) (map relocations_in these)) held i c.loop-section-test.false) ∙ c.loop-section.invariant.left
