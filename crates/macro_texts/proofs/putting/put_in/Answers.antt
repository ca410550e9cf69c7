-- Piece by piece.
use Rattle.std.proofs.Common.{◌++◌, map, sym, ap, ◌∙◌, arith}
use Rattle.macro_texts.specs.ArgumentsSeen.{argument_seen}
use Rattle.macro_texts.specs.Putting.{put}
use Rattle.macro_texts.proofs.PuttingLemmas.{put_end, body_left, body_next, body_within}
use Rattle.macro_texts.proofs.putting.put_in.Goals as goal

pub loop-at-preserved : goal.loop-at-preserved
loop-at-preserved c =
    let all = c.args.body.now in
    let at = c.loop-at.at in
    let n = c.in_ok-at.field-0 in
    let arguments = map argument_seen c.args.arguments.now in
    record {
      made =
          ap (λ xs. c.push_piece.new.text.items ++ put arguments c.args.number xs) (sym (body_next all at n))
          ∙ c.in_ok-at.ensures.makes
          ∙ ap (λ xs. c.loop-at.text.items ++ put arguments c.args.number xs) (body_left all at)
          ∙ c.loop-at.invariant.made;
      within = body_within all at n c.loop-at.invariant.within c.in_ok-at.ensures.within;
    }

pub returns : goal.returns
returns c = put_end (map argument_seen c.args.arguments.now) c.args.number c.loop-at.text.items c.args.body.now c.loop-at.at (omega arith) c.loop-at.invariant.made
