-- The steps of counting the bytes of a statement, by what stands at an offset.
use Rattle.std.proofs.Common.{◌≡◌, ℕ, ◌+◌, ◌<◌, ◌≤◌, true, List, length, refl, ap, subst, ◌⊎◌, inl, inr}
use Rattle.std.proofs.lemmas.List.{drop_more}
use Rattle.asm_base.specs.Pieces.{ends_statement}
use Rattle.asm_base.specs.declared.pieces.PieceKind.TheVariants as piece
use Rattle.asm_lexemes.specs.declared.lexemes.Lexeme.{Lexeme}
use Rattle.asm_lexemes.specs.declared.lexemes.Lexeme.TheVariants.{LineEnd, StatementEnd, LineComment, BlockComment, Unclosed}
use Rattle.asm_lines.specs.Intervals.{without_space_after}
use Rattle.asm_lines.specs.Scan.{pieces_at, first_interval}
use Rattle.asm_lexemes.specs.Lexemes.{FitsIn, StandsAt}
use Rattle.asm_lines.specs.StatementTokens.{all_close, own_behind}
use Rattle.asm_lines.proofs.Moves.{Moves, never_closes, over_comment, stops_at}
use Rattle.asm_lines.proofs.TokenSteps.{feed_one, one_length, semicolon_one}

-- where the statement ends, its length is known
pub length_known : (s : List ℕ) (at own passed : ℕ) (lexeme : Lexeme) → at < length s → (lexeme ≡ LineEnd) ⊎ ((lexeme ≡ StatementEnd) ⊎ (lexeme ≡ Unclosed)) → StandsAt s at lexeme → all_close (first_interval (pieces_at s at)) ≡ true
    → own_behind own passed (without_space_after (first_interval (pieces_at s at))) ≡ own
length_known s at own passed lexeme inside (inl is) stands closed =
    let kind = subst (StandsAt s at) is stands in
    (stops_at s at _ _ (drop_more s at 0 inside) (ap ends_statement kind) (one_length _ _ piece.LineFeed kind (feed_one _))).owns own passed
length_known s at own passed lexeme inside (inr (inl is)) stands closed =
    let kind = subst (StandsAt s at) is stands in
    (stops_at s at _ _ (drop_more s at 0 inside) (ap ends_statement kind) (one_length _ _ piece.Semicolon kind (semicolon_one _))).owns own passed
length_known s at own passed lexeme inside (inr (inr is)) stands closed =
    let open_piece = never_closes s at _ _ (drop_more s at 0 inside) (subst (StandsAt s at) is stands) in
    cc

-- a comment adds nothing
pub over_comments : (s : List ℕ) (at n most own passed : ℕ) (lexeme : Lexeme) → at < length s → (lexeme ≡ LineComment n) ⊎ (lexeme ≡ BlockComment n) → StandsAt s at lexeme → FitsIn most lexeme
    → Moves s at (at + n) 0 0 own passed own passed × (n ≤ most)
over_comments s at n most own passed lexeme inside (inl is) stands fits =
    let known = subst (StandsAt s at) is stands in
    let within = subst (FitsIn most) is fits in
    (over_comment s at _ _ n 0 own passed piece.LineComment (drop_more s at 0 inside) known.0 refl refl refl refl known.1 within.0, within.1)
over_comments s at n most own passed lexeme inside (inr is) stands fits =
    let known = subst (StandsAt s at) is stands in
    let within = subst (FitsIn most) is fits in
    (over_comment s at _ _ n 0 own passed piece.BlockComment (drop_more s at 0 inside) known.0 refl refl refl refl known.1 within.0, within.1)
