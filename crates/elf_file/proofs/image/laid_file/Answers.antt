-- The file by its parts.
use Rattle.std.proofs.Common.{rules, ◌∙◌}
use Rattle.elf_file.proofs.LayingLemmas.{file_made, numbers_before}
use Rattle.elf_file.proofs.image.laid_file.Goals as goal

pub returns-clause-file : goal.returns-clause-file
returns-clause-file c =
    file_made c.args.sections.items c.deref.result.now c.push.new.self.items c.string_section.result c.deref-2.result.now c.elf_header-header.result c.in_ok-names.names.bytes.items
    c.in_ok-laid.laid.pieces _ c.in_ok-laid.laid.headers c.in_ok-laid.laid.end _
    c.deref.ensures.value c.in_ok-names.ensures.bytes (c.deref-2.ensures.value ∙ c.in_ok-names.ensures.offsets) c.string_section.ensures c.in_ok-push.ensures.items
    (search rules) c.elf_header-header.ensures c.in_ok-laid.ensures.ends c.in_ok-laid.ensures.pieces c.in_ok-laid.ensures.headers (c.into_list.ensures ∙ c.in_ok-put.ensures)

pub returns-clause-numbers : goal.returns-clause-numbers
returns-clause-numbers c = numbers_before c.args.sections.items c.push.new.self.items c.string_section.result c.in_ok-push.ensures.items c.in_ok-laid.ensures.numbers
