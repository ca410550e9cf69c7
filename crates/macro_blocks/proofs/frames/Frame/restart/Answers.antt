-- The next copy is the first of those to come.
use Rattle.std.proofs.Common.{◌++◌, ◌-◌, sym, ap, ◌∙◌}
use Rattle.std.proofs.lemmas.List.{append_assoc}
use Rattle.macro_blocks.specs.Blocks.{repeated}
use Rattle.macro_blocks.specs.Places.{left_in}
use Rattle.macro_blocks.specs.Copies.{each_of}
use Rattle.macro_blocks.specs.Frames.{level_of}
use Rattle.macro_blocks.proofs.CopyLemmas.{first_line, one_more}
use Rattle.macro_blocks.proofs.frames.Frame.restart.Goals as goal

pub invariant_of-self-clause-line_there : goal.invariant_of-self-clause-line_there
invariant_of-self-clause-line_there c = first_line c.args.self.now.text.value

pub returns-clause-statements : goal.returns-clause-statements
unfolding level_of
returns-clause-statements c =
    let f = c.args.self.now in
    let copy = left_in f.place f.text.value 0 in
    sym (append_assoc copy (repeated (f.alike - 1) copy) (each_of f.place f.each)) ∙ ap (λ l. l ++ each_of f.place f.each) (sym (one_more f.alike copy c.requires))
