-- The end is counted behind what the CIE begins with.
use Rattle.std.proofs.Common.{[], ap, ◌∙◌}
use Rattle.table_pieces.specs.Ends.{behind_pieces, end_of}
use Rattle.table_pieces.specs.Pieces.{Tables}
use Rattle.eh_frame.specs.Commons.{rest_pieces}
use Rattle.eh_frame.proofs.placing.put_first_common.Goals as goal

pub returns-clause-end : goal.returns-clause-end
returns-clause-end c =
    c.in-Some.ensures
    ∙ ap (behind_pieces (rest_pieces c.args.frame.now))
    (c.of-begun.ensures ∙ ap (λ (tables : Tables). end_of c.args.section tables.sections) (c.in_ok-put_common_head.ensures.ok []))
