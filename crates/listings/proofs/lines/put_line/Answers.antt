-- The text has grown by one line.
use Rattle.std.proofs.Common.{ℕ, ◌≤◌, List, Some, None, length, subst}
use Rattle.x86_decode.specs.Decoding.{Decodes}
use Rattle.x86_decode.specs.Views.{shown_front}
use Rattle.listings.proofs.Joins.{one_front, one_byte, take_one, rest_whole}
use Rattle.listings.proofs.lines.put_line.Goals as goal

pub returns-in_ok-put_insn-in-Some-clause-added : goal.returns-in_ok-put_insn-in-Some-clause-added
returns-in_ok-put_insn-in-Some-clause-added g c =
    let rest = rest_whole c.args.bytes.now c.args.at in
    one_front g.T.Texts.text c.args.bytes.now c.args.at c.in-Some.front c.args.text.now.items c.put_insn.new.text.items c.requires c.in-Some.ensures.some
    (subst (λ (bytes : List ℕ). c.in-Some.front.len ≤ length bytes) rest c.in-Some.ensures.within) c.in-Some.ensures.of_row
    (subst (λ (bytes : List ℕ). Decodes bytes (Some (shown_front c.in-Some.front))) rest c.in-Some.ensures.decodes) c.in_ok-put_insn-in-Some.ensures

pub returns-in_ok-put_byte-in-None-clause-added : goal.returns-in_ok-put_byte-in-None-clause-added
returns-in_ok-put_byte-in-None-clause-added g c =
    one_byte g.T.Texts.text c.args.bytes.now c.args.at _ c.args.text.now.items c.put_byte.new.text.items c.requires
    (take_one c.args.bytes.now c.args.at _ c.requires) (subst (λ (bytes : List ℕ). Decodes bytes None) (rest_whole c.args.bytes.now c.args.at) c.in-None.ensures.decodes) c.in_ok-put_byte-in-None.ensures
