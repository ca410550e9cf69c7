-- The marks of one more section, and at the end nothing is left to mark.
use Rattle.std.proofs.Common.{◌≡◌, ◌<◌, Bool, List, length, map, refl, sym, subst, ◌∙◌}
use Rattle.std.proofs.lemmas.List.{length-map}
use Rattle.elf_object.specs.declared.contents.HeldSection.{HeldSection}
use Rattle.elf_object.specs.declared.relocations.Relocation.{Relocation}
use Rattle.elf_symbols.specs.declared.targets.Target.TheVariants.{OfSection, OfSymbol}
use Rattle.elf_object.specs.Marking.{mark_at}
use Rattle.elf_object.specs.Naming.{is_named, is_named_by, is_thread_named, is_thread_named_by, named_of}
use Rattle.elf_symbols.specs.Views.{named_view}
use Rattle.elf_object.specs.Views.{relocations_in}
use Rattle.elf_object.proofs.MarkLemmas.{all_marked, mark_step, named_are}
use Rattle.elf_object.proofs.naming.named_by.Goals as goal

pub loop-section-preserved : goal.loop-section-preserved
loop-section-preserved c =
    let marks = c.loop-section.named in
    let new = c.mark_all.new.named in
    let found = c.deref.result.now in
    let step = λ (names : List Relocation → Bool). mark_step names c.args.held.now c.loop-section.section-index c.section-item.result found in
    record {
      all_sections = c.mark_all.ensures.same_sections ∙ c.loop-section.invariant.all_sections;
      all_symbols = c.mark_all.ensures.same_symbols ∙ c.loop-section.invariant.all_symbols;
      all_threads = c.mark_all.ensures.same_threads ∙ c.loop-section.invariant.all_threads;
      sections = λ n low. step (is_named_by (OfSection n)) (mark_at marks.sections.items n) (mark_at new.sections.items n) _ c.loop-section-test.true c.section-item.is c.deref.ensures.value
          (c.mark_all.ensures.sections n (subst (λ m. n < m) (sym c.loop-section.invariant.all_sections) low)) (c.loop-section.invariant.sections n low);
      symbols = λ i low. step (is_named_by (OfSymbol i)) (mark_at marks.symbols.items i) (mark_at new.symbols.items i) _ c.loop-section-test.true c.section-item.is c.deref.ensures.value
          (c.mark_all.ensures.symbols i (subst (λ m. i < m) (sym c.loop-section.invariant.all_symbols) low)) (c.loop-section.invariant.symbols i low);
      thread_locals = λ i low. step (is_thread_named_by (OfSymbol i)) (mark_at marks.thread_locals.items i) (mark_at new.thread_locals.items i) _ c.loop-section-test.true c.section-item.is
          c.deref.ensures.value (c.mark_all.ensures.thread_locals i (subst (λ m. i < m) (sym c.loop-section.invariant.all_threads) low)) (c.loop-section.invariant.thread_locals i low);
    }

pub returns : goal.returns
unfolding named_of
returns c =
    let held = c.args.held.now in
    let found = map relocations_in held in
    let long : length found ≡ length held = length-map held relocations_in in
    let sections = all_marked (λ n. is_named found (OfSection n)) (λ n (left : List HeldSection). is_named (map relocations_in left) (OfSection n)) held c.loop-section.section-index
    c.loop-section.named.sections.items (length found) (c.loop-section.invariant.all_sections ∙ sym long) c.loop-section-test.false (λ n. refl)
    (λ n low. c.loop-section.invariant.sections n (subst (λ m. n < m) long low)) in
    let symbols = all_marked (λ i. is_named found (OfSymbol i)) (λ i (left : List HeldSection). is_named (map relocations_in left) (OfSymbol i)) held c.loop-section.section-index
    c.loop-section.named.symbols.items c.args.symbols c.loop-section.invariant.all_symbols c.loop-section-test.false (λ i. refl) c.loop-section.invariant.symbols in
    let threads = all_marked (λ i. is_thread_named found (OfSymbol i)) (λ i (left : List HeldSection). is_thread_named (map relocations_in left) (OfSymbol i)) held c.loop-section.section-index
    c.loop-section.named.thread_locals.items c.args.symbols c.loop-section.invariant.all_threads c.loop-section-test.false (λ i. refl) c.loop-section.invariant.thread_locals in
    named_are (named_view c.loop-section.named) _ _ _ sections symbols threads
