-- What the slot leads to.
use Rattle.std.proofs.Common.{◌≡◌, None, Some, arith, slice_get, ap, sym, ◌∙◌}
use Rattle.std.specs.Option.{option_map}
use Rattle.std.proofs.lemmas.Option.{gets}
use Rattle.std.proofs.lemmas.Grind.{common_steps}
use Rattle.macro_words.specs.Words.{word_of}
use Rattle.macro_words.proofs.WordSlots.{there_if, not_there, nothing_there}
use Rattle.macro_words.proofs.words.slotted_word.Goals as goal

pub returns-then-is_word : goal.returns-then-is_word
unfolding word_of
returns-then-is_word c =
    let at : slice_get c.words.result.now c.word_number.result ≡ Some c.in-Some.row.now = grind (arith, common_steps, gets, c.in-Some.ensures.lookup) in
    ap (option_map (λ row. row.word)) (sym (there_if c.args.name.now c.word_number.result c.word_number.ensures
    c.in-Some.row.now (ap (λ rows. slice_get rows c.word_number.result) (sym c.words.ensures) ∙ at) (sym c.is_word.ensures ∙ c.if-is_word.true)))

pub returns-else-is_word : goal.returns-else-is_word
unfolding word_of
returns-else-is_word c =
    let at : slice_get c.words.result.now c.word_number.result ≡ Some c.in-Some.row.now = grind (arith, common_steps, gets, c.in-Some.ensures.lookup) in
    ap (option_map (λ row. row.word)) (sym (not_there c.args.name.now c.word_number.result c.word_number.ensures
    c.in-Some.row.now (ap (λ rows. slice_get rows c.word_number.result) (sym c.words.ensures) ∙ at) (sym c.is_word.ensures ∙ c.if-is_word.false)))

pub returns-in-None : goal.returns-in-None
unfolding word_of
returns-in-None c =
    let at : slice_get c.words.result.now c.word_number.result ≡ None = grind (arith, common_steps, gets, c.in-None.ensures.lookup) in
    ap (option_map (λ row. row.word)) (sym (nothing_there c.args.name.now c.word_number.result c.word_number.ensures
    (ap (λ rows. slice_get rows c.word_number.result) (sym c.words.ensures) ∙ at)))
