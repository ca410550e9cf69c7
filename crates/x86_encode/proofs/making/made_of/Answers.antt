use Rattle.std.proofs.Common.{rules, ◌≡◌, ◌==◌, ◌∙◌, false}
use Rattle.x86_insn.specs.Views.{view_of}
use Rattle.x86_table.specs.declared.mnemonics.integers.TheConstants.{XCHG}
use Rattle.x86_parts.specs.Codes.{named}
use Rattle.x86_encode.proofs.Coded.{coding_plain}
use Rattle.x86_encode.proofs.Turning.{not_named}
use Rattle.x86_encode.proofs.making.made_of.Goals as goal

pub returns-else-name-eq-XCHG : goal.returns-else-name-eq-XCHG
returns-else-name-eq-XCHG c =
    let h : (c.args.name.0 == XCHG) ≡ false = search rules in
    let p = not_named c.args.name (view_of c.args.insn.now c.args.values.now) h in
    coding_plain (named c.args.name (view_of c.args.insn.now c.args.values.now)) p.0 p.1 ∙ c.made_here.ensures
