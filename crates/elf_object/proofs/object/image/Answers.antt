-- The sections of the file are those of the definition.
use Rattle.std.proofs.Common.{◌≡◌, List, length, map, sym, ap, subst, ◌∙◌}
use Rattle.std.proofs.lemmas.List.{length-map}
use Rattle.std.specs.Result.{IfOk}
use Rattle.asm_frags.specs.Groups.{groups_of}
use Rattle.elf_file.specs.Image.{file_with}
use Rattle.elf_object.specs.Image.{before_names, image_with}
use Rattle.elf_object.specs.declared.contents.HeldSection.{HeldSection}
use Rattle.elf_object.specs.Naming.{named_of}
use Rattle.elf_file.specs.Sections.{SectionEntry}
use Rattle.elf_file.specs.Views.{section_view}
use Rattle.elf_object.specs.Sections.{source_section, group_entries, next_header, header_indices_from}
use Rattle.elf_symbols.specs.SymbolTable.{table_of}
use Rattle.elf_symbols.specs.Views.{symbol_view, numbers_view, named_view}
use Rattle.elf_object.specs.Views.{held_entry, relocations_in}
use Rattle.elf_object.proofs.MarkLemmas.{named_long, threads_long}
use Rattle.elf_object.proofs.FittingNumbers.{numbers_fit}
use Rattle.elf_object.proofs.ImageLemmas.{sections_made}
use Rattle.elf_object.proofs.object.image.Goals as goal

pub list_symbols-requires-clause-marks : goal.list_symbols-requires-clause-marks
list_symbols-requires-clause-marks c = named_long (named_view c.in_ok-named.named) _ _ c.in_ok-named.ensures ∙ c.len.ensures

pub list_symbols-requires-clause-threads : goal.list_symbols-requires-clause-threads
list_symbols-requires-clause-threads c = threads_long (named_view c.in_ok-named.named) _ _ c.in_ok-named.ensures ∙ c.len.ensures

pub returns : goal.returns
unfolding image_with
returns c =
    let symbols = c.args.at.symbols.now in
    let sections = c.args.at.sections.now in
    let held = c.args.held.items in
    let found = map relocations_in held in
    let named : named_view c.in_ok-named.named ≡ named_of found (length symbols.symbols) =
    c.in_ok-named.ensures ∙ ap (λ (these : List HeldSection). named_of (map relocations_in these) c.len.result) c.deref.ensures.value ∙ ap (named_of found) c.len.ensures in
    let first = c.first_header-first.result in
    let next = c.in_ok-headers.ensures.next ∙ ap (λ (these : List HeldSection). next_header first (map relocations_in these)) c.deref-2.ensures.value in
    let indices = c.deref-3.ensures.value ∙ c.in_ok-headers.ensures.indices ∙ ap (λ (these : List HeldSection). header_indices_from first (map relocations_in these)) c.deref-2.ensures.value in
    let groups = c.in_ok-sections.ensures ∙ ap (λ (these : List HeldSection). group_entries (numbers_view c.in_ok-listing.listing.numbers) c.in_ok-headers.headers.next sections (map relocations_in these) 0
    (groups_of sections)) c.deref-5.ensures.value in
    let placed = c.in_ok-put_sections.ensures in
    let listed = ap (map symbol_view) c.deref-4.ensures.value ∙ c.in_ok-listing.ensures.symbols in
    let made = sections_made symbols sections found (named_view c.in_ok-named.named) (numbers_view c.in_ok-listing.listing.numbers) first c.in_ok-headers.headers.next c.in_ok-listing.listing.first_other
    c.deref-3.result.now c.in_ok-table.table.entries.items c.in_ok-table.table.strings.items (map symbol_view c.deref-4.result.now) (map held_entry held)
    c.in_ok-sections.sections.items c.put_sections.new.out.items c.push.new.self.items c.push-2.new.self.items c.symbol_section.result c.string_section.result
    c.in_ok-listing.ensures.numbers c.first_header-first.ensures.value next c.in_ok-listing.ensures.first_other indices listed c.requires.entries c.in_ok-table.ensures.entries c.in_ok-table.ensures.strings
    groups placed c.symbol_section.ensures c.in_ok-push.ensures.items c.string_section.ensures c.in_ok-push-2.ensures.items in
    let whole = made ∙ ap (before_names symbols sections found) named in
    let long : length sections ≡ length found =
    sym (length-map sections (source_section symbols sections)) ∙ sym (ap length c.requires.entries) ∙ length-map held held_entry ∙ sym (length-map held relocations_in) in
    record {
      file = subst (λ (ss : List SectionEntry). IfOk c.laid_file.result (λ f. f ≡ file_with ss)) whole c.laid_file.ensures.file;
      numbers = numbers_fit symbols sections found (map section_view c.push-2.new.self.items) (map symbol_view c.deref-4.result.now) c.laid_file.result c.requires.flagged whole long
          (listed ∙ ap (table_of symbols sections) named) c.in_ok-table.ensures.numbers c.laid_file.ensures.file c.laid_file.ensures.numbers c.laid_file.ensures.size;
    }
