-- All bytes stand for themselves.
use Rattle.std.proofs.Common.{◌∙◌, sym}
use Rattle.macro_texts.proofs.PuttingLemmas.{put_whole}
use Rattle.macro_texts.proofs.putting.has_backslash.Goals as goal

pub returns-clause-whole : goal.returns-clause-whole
returns-clause-whole c none arguments number = put_whole arguments number c.args.body.now (sym c.contains.ensures.value ∙ none)
