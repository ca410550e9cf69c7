-- An instruction that was read is placed by its text, and a mnemonic that stands alone by its bytes.
use Rattle.std.proofs.Common.{map, subst, OnOk}
use Rattle.asm_base.specs.Refusals.{Gives}
use Rattle.asm_base.specs.Tokens.{spelled}
use Rattle.att_insns.specs.Reading as att
use Rattle.asm_values.specs.PlacedBy.{placed_by}
use Rattle.asm_place.specs.Coding.{place_either}
use Rattle.asm_place.specs.Effects.{ShowsAsked, view_coded}
use Rattle.asm_place.proofs.AmountTrees.{read_placed}
use Rattle.asm_place.proofs.EffectLemmas.{read_shown, lone_shown, shown_asked}
use Rattle.asm_place.proofs.instructions.place_att.Goals as goal

pub returns-in-None-clause-placed : goal.returns-in-None-clause-placed
returns-in-None-clause-placed c =
    let due = att.insn_of (map spelled c.args.tokens.now) in
    let placed = placed_by c.args.assembler.now in
    let made = placed_by c.place_insn.new.assembler in
    subst (λ lone. Gives made c.place_insn.result (place_either c.args.pos lone due placed)) c.in-None.ensures
    (read_placed c.args.pos c.in-Ok.insn due placed made c.place_insn.result c.in-Ok.ensures c.place_insn.ensures.placed c.place_insn.ensures.fits)

pub returns-in-None-clause-shows : goal.returns-in-None-clause-shows
returns-in-None-clause-shows c =
    let due = att.insn_of (map spelled c.args.tokens.now) in
    let placed = placed_by c.args.assembler.now in
    let asked = c.args.watch.now.asked in
    let effect = c.place_insn.new.watch.effect in
    subst (λ lone. OnOk c.place_insn.result (ShowsAsked asked (view_coded c.args.pos lone due placed) effect)) c.in-None.ensures
    (read_shown c.args.pos c.in-Ok.insn due placed asked effect c.place_insn.result c.in-Ok.ensures c.place_insn.ensures.fits c.place_insn.ensures.shows)

pub returns-in-Ok-clause-shows : goal.returns-in-Ok-clause-shows
returns-in-Ok-clause-shows c =
    let due = att.insn_of (map spelled c.args.tokens.now) in
    let placed = placed_by c.args.assembler.now in
    let asked = c.args.watch.now.asked in
    let effect = c.see_alone.new.self.effect in
    subst (λ lone. OnOk c.put_bytes.result (ShowsAsked asked (view_coded c.args.pos lone due placed) effect)) c.in-Some.ensures
    (shown_asked asked _ effect c.put_bytes.result (lone_shown c.in-Ok.insn due effect c.in-Ok.ensures c.see_alone.ensures))
