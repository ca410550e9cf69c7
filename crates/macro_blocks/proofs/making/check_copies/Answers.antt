-- A copy more is made, or has a fault.
use Rattle.std.proofs.Common.{◌≡◌, ◌<◌, ℕ, List, length, get_or, take, drop, suc, sym, ap, subst, ◌∙◌, rules}
use Rattle.asm_base.specs.declared.positions.Pos.{Pos}
use Rattle.asm_base.specs.Refusals.{Fails}
use Rattle.asm_lines.specs.NextStatements.{HasNoLineFault}
use Rattle.macro_texts.specs.RepeatsSeen.{texts}
use Rattle.macro_words.specs.Statements.{made_statements}
use Rattle.macro_blocks.specs.Levels.{put_value, each_copy}
use Rattle.macro_blocks.specs.Making.{AreMade}
use Rattle.macro_blocks.proofs.MadeCopies.{made_more, fault_made, texts_more, texts_at}
use Rattle.macro_blocks.proofs.making.check_copies.Goals as goal

pub returns-in-Err : goal.returns-in-Err
returns-in-Err c pos =
    let line = c.args.line.now in
    let value = c.value-item.result in
    let n = c.loop-value.value-index in
    let more : n < length line.values.items = search rules in
    let is : value ≡ get_or line.values.items n value = search rules in
    let made : c.new-text.result ≡ put_value line.name.items c.args.number c.args.body.now value.items =
    c.new-text.ensures ∙ c.in_ok-bytes.ensures ∙ ap (λ name. put_value name c.args.number c.args.body.now c.deref-in-loop-value.result.now) c.deref.ensures.value
    ∙ ap (put_value line.name.items c.args.number c.args.body.now) c.deref-in-loop-value.ensures.value in
    let F : List ℕ → Type 0 = λ text. (here : Pos) → Fails c.in-Err.refusal (made_statements here text) in
    let G : List (List ℕ) → Type 0 = λ values. Fails c.in-Err.refusal (each_copy pos line.name.items c.args.number c.args.body.now values) in
    subst G (sym (texts_at line.values.items n value more is)) (fault_made line.name.items c.args.body.now c.args.number c.in-Err.refusal (texts (take n line.values.items)) value.items (texts (drop (suc n) line.values.items)) c.loop-value.invariant (subst F made c.in-Err.ensures) pos)

pub loop-value-preserved : goal.loop-value-preserved
loop-value-preserved c =
    let line = c.args.line.now in
    let value = c.value-item.result in
    let n = c.loop-value.value-index in
    let more : n < length line.values.items = search rules in
    let is : value ≡ get_or line.values.items n value = search rules in
    let made : c.new-text.result ≡ put_value line.name.items c.args.number c.args.body.now value.items =
    c.new-text.ensures ∙ c.in_ok-bytes.ensures ∙ ap (λ name. put_value name c.args.number c.args.body.now c.deref-in-loop-value.result.now) c.deref.ensures.value
    ∙ ap (put_value line.name.items c.args.number c.args.body.now) c.deref-in-loop-value.ensures.value in
    let G : List (List ℕ) → Type 0 = λ values. AreMade line.name.items c.args.number c.args.body.now values in
    subst G (sym (texts_more line.values.items n value more is)) (made_more line.name.items c.args.body.now c.args.number (texts (take n line.values.items)) value.items c.loop-value.invariant (subst (HasNoLineFault 0) made c.in_default.ensures))
