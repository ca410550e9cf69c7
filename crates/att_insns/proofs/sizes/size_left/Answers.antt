use Rattle.x86_lookup.specs.declared.form_sizes.FormSize.TheVariants as sizes
use Rattle.att_insns.proofs.SizesLeft.{left_is}
use Rattle.att_insns.proofs.sizes.size_left.Goals as goal

pub returns-in-Absent : goal.returns-in-Absent
returns-in-Absent c = left_is c.args.insn.now.name.0 c.args.insn.now.first c.args.insn.now.second c.args.insn.now.third sizes.Absent c.in-Absent.ensures

pub returns-in-One : goal.returns-in-One
returns-in-One c = left_is c.args.insn.now.name.0 c.args.insn.now.first c.args.insn.now.second c.args.insn.now.third (sizes.One c.in-One.size) c.in-One.ensures

pub returns-in-Several : goal.returns-in-Several
returns-in-Several c = left_is c.args.insn.now.name.0 c.args.insn.now.first c.args.insn.now.second c.args.insn.now.third sizes.Several c.in-Several.ensures
