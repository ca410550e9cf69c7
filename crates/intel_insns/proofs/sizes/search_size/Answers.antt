use Rattle.x86_lookup.specs.declared.form_sizes.FormSize.TheVariants as sizes
use Rattle.att_insns.specs.InsnTexts.{text_of}
use Rattle.intel_insns.proofs.SizesLeft.{left_is, none_made, size_made}
use Rattle.intel_insns.proofs.sizes.search_size.Goals as goal

pub returns-in-Absent : goal.returns-in-Absent
returns-in-Absent c = λ i d has. none_made (tt {0}) c.args.bits c.args.insn.now i d has c.in-Absent.ensures

pub returns-in-One : goal.returns-in-One
returns-in-One c = λ i d has. size_made (tt {0}) c.args.bits c.in-One.size c.args.insn.now i d has c.in-One.ensures

pub returns-in-Several : goal.returns-in-Several
returns-in-Several c = λ i d has. left_is c.args.bits (text_of c.args.insn.now i d) sizes.Several c.in-Several.ensures
