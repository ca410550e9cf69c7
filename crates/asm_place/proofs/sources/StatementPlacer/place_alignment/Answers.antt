-- A statement that is refused.
use Rattle.std.proofs.Common.{map, subst}
use Rattle.asm_base.specs.Refusals.{Fails}
use Rattle.asm_base.specs.Tokens.{spelled}
use Rattle.asm_lines.specs.NextStatements.{TokenStatement}
use Rattle.asm_values.specs.PlacedBy.{placed_by}
use Rattle.asm_place.specs.Placing.{place_tokens}
use Rattle.asm_place.specs.Sources.{place}
use Rattle.asm_place.proofs.RemarkLemmas.{notes_stay, refused_in_place}
use Rattle.asm_place.proofs.sources.StatementPlacer.place_alignment.Goals as goal

pub returns-in-Err-clause-placed : goal.returns-in-Err-clause-placed
unfolding place
returns-in-Err-clause-placed c =
    let s : TokenStatement = record { file = c.args.pos.file; line = c.args.pos.line; tokens = map spelled c.args.tokens.now } in
    subst (λ placed. Fails c.refused.result (place s placed)) c.self.view_is
    (refused_in_place s c.self.inside.assembler.notes c.place_aligned.new.assembler.notes c.in-Err.refusal c.refused.result
    (place_tokens c.args.pos s.tokens (placed_by c.self.inside.assembler)) (notes_stay c.in-Err.refusal _ _ c.in-Err.ensures.kept) c.refused.ensures c.in-Err.ensures.placed)
