-- The value that stands next is put in.
use Rattle.std.proofs.Common.{◌≡◌, get_or, ap, ◌∙◌, arith, rules}
use Rattle.macro_blocks.specs.Levels.{put_value}
use Rattle.macro_blocks.proofs.CopyLemmas.{next_text}
use Rattle.macro_blocks.proofs.copies.EachCopy.next_text.Goals as goal

pub returns : goal.returns
returns c =
    let each = c.args.self.now in
    let value = c.index-value.result.now in
    let is : value ≡ get_or each.line.values.items each.next value = search rules in
    let made : c.in_ok-text.text.items ≡ put_value each.line.name.items each.number each.body.items value.items =
    c.in_ok-text.ensures ∙ ap (λ n. put_value n each.number c.deref.result.now c.deref-3.result.now) c.deref-2.ensures.value
    ∙ ap (λ b. put_value each.line.name.items each.number b c.deref-3.result.now) c.deref.ensures.value ∙ ap (put_value each.line.name.items each.number each.body.items) c.deref-3.ensures.value in
    next_text each value c.in_ok-text.text.items (omega arith) is made each.whole
