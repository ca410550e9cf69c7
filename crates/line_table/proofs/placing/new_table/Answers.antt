-- The section is new, and has the name of line tables and no flags.
use Rattle.std.proofs.Common.{◌≡◌, ℕ, List, codes, sym, ◌∙◌, ap}
use Rattle.asm_frags.specs.declared.flags.SectionFlags.{SectionFlags}
use Rattle.asm_frags.specs.SectionOf.{new_section}
use Rattle.asm_frags.specs.Sections.{section_flags, table_last}
use Rattle.line_table.proofs.NewTable.{table_added, table_takes}
use Rattle.line_table.proofs.placing.new_table.Goals as goal

pub returns-in-Ok-clause-ok : goal.returns-in-Ok-clause-ok
returns-in-Ok-clause-ok c =
    let name : c.new-name.result ≡ codes ".debug_line" = c.new-name.ensures ∙ c.in_ok-from_slice.ensures.items in
    let flags : c.empty.result ≡ section_flags 0 = ap section_flags (c.empty.ensures tt) in
    table_added c.args.sections.now c.add_table.new.self c.in-Ok.number
    (ap (λ (name : List ℕ). table_last c.args.sections.now (new_section name (section_flags 0) 1 0)) (sym name)
    ∙ ap (λ (flags : SectionFlags). table_last c.args.sections.now (new_section c.new-name.result flags 1 0)) (sym flags) ∙ c.in-Ok.ensures)

pub returns-in-Ok-clause-takes : goal.returns-in-Ok-clause-takes
returns-in-Ok-clause-takes c =
    let name : c.new-name.result ≡ codes ".debug_line" = c.new-name.ensures ∙ c.in_ok-from_slice.ensures.items in
    let flags : c.empty.result ≡ section_flags 0 = ap section_flags (c.empty.ensures tt) in
    table_takes c.args.sections.now c.add_table.new.self c.in-Ok.number
    (ap (λ (name : List ℕ). table_last c.args.sections.now (new_section name (section_flags 0) 1 0)) (sym name)
    ∙ ap (λ (flags : SectionFlags). table_last c.args.sections.now (new_section c.new-name.result flags 1 0)) (sym flags) ∙ c.in-Ok.ensures)
