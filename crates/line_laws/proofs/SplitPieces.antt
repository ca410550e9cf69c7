-- Pieces that stand one behind the other, in two parts.
use Rattle.std.proofs.Common.{◌≡◌, ℕ, ◌-◌, List, [], ◌∷◌, ◌++◌, take, drop, refl, ap}
use Rattle.asm_base.specs.declared.places.Place.{Place}
use Rattle.asm_base.specs.declared.positions.Pos.{Pos}
use Rattle.asm_frags.specs.Writing.{LooseSection}
use Rattle.line_rows.specs.declared.sections.Gap.{Gap}
use Rattle.line_directives.specs.declared.sequences.Sequence.{Sequence}
use Rattle.line_table.specs.Sequences.{place_in, distance_in, gap_pieces, sequence_pieces}
use Rattle.table_pieces.specs.declared.ends.SectionEnd.{SectionEnd}
use Rattle.table_pieces.specs.Ends.{behind_piece, behind_pieces}
use Rattle.table_pieces.specs.Found.{PiecesStand}
use Rattle.table_pieces.specs.Pieces.{Piece, plain, address, leb128, Tables, piece_put, pieces_put}

-- both parts stand
pub stand_both : (held : LooseSection) (section : ℕ) (pos : Pos) (end : SectionEnd) (tables : Tables) (first second : List Piece)
    → PiecesStand held section pos end tables (first ++ second)
    → PiecesStand held section pos end tables first × PiecesStand held section pos (behind_pieces first end) (pieces_put section pos first tables) second
stand_both held section pos end tables [] second stand = (tt, stand)
stand_both held section pos end tables (piece ∷ first) second stand =
    let rest = stand_both held section pos (behind_piece piece end) (piece_put section pos piece tables) first second stand.1 in
    ((stand.0, rest.0), rest.1)

-- they are put one behind the other
pub put_both : (section : ℕ) (pos : Pos) (tables : Tables) (first second : List Piece)
    → pieces_put section pos (first ++ second) tables ≡ pieces_put section pos second (pieces_put section pos first tables)
put_both section pos tables [] second = refl
put_both section pos tables (piece ∷ first) second = put_both section pos (piece_put section pos piece tables) first second

-- and end behind the second
pub behind_both : (end : SectionEnd) (first second : List Piece) → behind_pieces (first ++ second) end ≡ behind_pieces second (behind_pieces first end)
behind_both end [] second = refl
behind_both end (piece ∷ first) second = behind_both (behind_piece piece end) first second

gaps_split : (section from : ℕ) (gaps : List Gap) (bytes : List ℕ) (pieces more : List Piece)
    → gap_pieces section from gaps bytes (pieces ++ more) ≡ gap_pieces section from gaps bytes pieces ++ more
gaps_split section from [] bytes pieces more = refl
gaps_split section from (gap ∷ gaps) bytes pieces more =
    ap (λ (rest : List Piece). plain (take (gap.at - from) bytes) ∷ leb128 (distance_in section gap.from gap.to) ∷ rest)
    (gaps_split section gap.at gaps (drop (gap.at - from) bytes) pieces more)

-- the pieces of a sequence stand before others
pub sequence_split : (section : ℕ) (end : Place) (sequence : Sequence) (pieces : List Piece)
    → sequence_pieces section end sequence pieces ≡ sequence_pieces section end sequence [] ++ pieces
sequence_split section end sequence pieces =
    ap (λ (rest : List Piece). plain (0x00 ∷ 0x09 ∷ 0x02 ∷ []) ∷ address (place_in section sequence.start) ∷ rest)
    (gaps_split section 0 sequence.rows.gaps sequence.rows.bytes
    (plain (0x02 ∷ []) ∷ leb128 (distance_in section sequence.last end) ∷ plain (0x00 ∷ 0x01 ∷ 0x01 ∷ []) ∷ []) pieces)
