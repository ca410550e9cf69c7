-- The statement is its alignment.
use Rattle.std.proofs.Common.{map, sym, subst, ap, ◌∙◌}
use Rattle.asm_base.specs.Tokens.{spelled}
use Rattle.asm_base.specs.Refusals.{Gives}
use Rattle.asm_items.specs.Alignments.{place_align}
use Rattle.asm_values.specs.PlacedBy.{placed_by}
use Rattle.asm_place.proofs.BodyLemmas.{align_placed}
use Rattle.asm_place.proofs.watched.place_aligned.Goals as goal

pub returns-clause-placed : goal.returns-clause-placed
returns-clause-placed c =
    let tokens = map spelled c.args.tokens.now in
    let placed = placed_by c.args.assembler.now in
    let all = align_placed c.args.pos c.args.by tokens placed c.requires.bare c.requires.aligns in
    subst (λ answer. Gives (placed_by c.place_filled.new.assembler) c.place_filled.result answer)
    (ap (λ ts. place_align c.args.pos c.args.by ts placed) c.behind_first.ensures ∙ sym all) c.place_filled.ensures.placed
