-- One piece more.
use Rattle.std.proofs.Common.{rules, ◌+◌, map, refl, ap}
use Rattle.macro_texts.specs.ArgumentsSeen.{argument_seen}
use Rattle.macro_texts.specs.Putting.{PutAs}
use Rattle.macro_texts.specs.PuttingSeen.{put_text}
use Rattle.macro_texts.proofs.PuttingLemmas.{put_plain, put_backslash}
use Rattle.macro_texts.proofs.putting.push_piece.Goals as goal

pub returns-in_ok-push_put : goal.returns-in_ok-push_put
returns-in_ok-push_put c =
    put_backslash (map argument_seen c.args.arguments.now) c.args.number c.args.text.now.items c.push_put.new.text.items (put_text c.piece_at-piece.result.put) c.args.body.now c.piece_at-piece.result.taken (1 + c.piece_at-piece.result.taken) 0
    c.requires c.if-body-eq92.true (ap (λ (p : PutAs). p.text) c.piece_at-piece.ensures.value) (ap (λ (p : PutAs). p.taken) c.piece_at-piece.ensures.value) c.piece_at-piece.ensures.within c.in_ok-push_put.ensures refl

pub returns-in_ok-extend_from_slice : goal.returns-in_ok-extend_from_slice
returns-in_ok-extend_from_slice c =
    put_plain (map argument_seen c.args.arguments.now) c.args.number c.args.text.now.items c.extend_from_slice.new.self.items c.args.body.now c.plain_length-length.result 0
    c.requires c.if-body-eq92.false c.plain_length-length.ensures.within c.plain_length-length.ensures.value (search rules)
