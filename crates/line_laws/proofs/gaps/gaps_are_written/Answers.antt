use Rattle.line_laws.proofs.GapDigits.{gap_reads}
use Rattle.line_laws.proofs.gaps.gaps_are_written.Goals as goal

pub returns : goal.returns
returns c level distance small few fits rest =
    gap_reads c.numbers_read_back.ensures c.groups_hold_their_number.ensures.unsigned level distance rest small few fits
