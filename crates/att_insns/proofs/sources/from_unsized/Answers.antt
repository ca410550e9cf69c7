use Rattle.x86_lookup.specs.declared.form_sizes.FormSize.TheVariants as sizes
use Rattle.att_insns.proofs.SizesLeft.{unsized_answer, unsized_made}
use Rattle.att_insns.proofs.sources.from_unsized.Goals as goal

pub returns-in-Absent : goal.returns-in-Absent
returns-in-Absent c = λ i d has. unsized_made (tt {0}) c.args.insn.now i d c.word_name.result has c.word_name.ensures c.in-Absent.ensures

pub returns-in-One : goal.returns-in-One
returns-in-One c = λ i d has. unsized_answer c.args.insn.now i d c.word_name.result (sizes.One _) c.word_name.ensures c.in-One.ensures

pub returns-in-Several : goal.returns-in-Several
returns-in-Several c = λ i d has. unsized_answer c.args.insn.now i d c.word_name.result sizes.Several c.word_name.ensures c.in-Several.ensures
