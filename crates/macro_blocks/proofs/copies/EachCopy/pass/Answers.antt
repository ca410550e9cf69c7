-- The others are whole.
use Rattle.macro_texts.specs.RepeatsSeen.{texts}
use Rattle.macro_blocks.proofs.CopyLemmas.{whole_behind}
use Rattle.macro_blocks.proofs.copies.EachCopy.pass.Goals as goal

pub invariant_of-self-clause-whole : goal.invariant_of-self-clause-whole
invariant_of-self-clause-whole c =
    let each = c.args.self.now in
    whole_behind each.line.name.items each.body.items each.number each.next (texts each.line.values.items) each.whole
