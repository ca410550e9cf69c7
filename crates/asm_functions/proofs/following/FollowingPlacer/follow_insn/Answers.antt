-- The instruction is placed, and its item recorded.
use Rattle.std.proofs.Common.{◌≡◌, map, Ok, sym, subst, ◌∙◌}
use Rattle.asm_base.specs.Tokens.{spelled}
use Rattle.asm_functions.specs.FollowedSource.{FollowedSource, at, with_functions, insn_followed}
use Rattle.asm_functions.proofs.ItemLemmas.{insn_recorded}
use Rattle.asm_functions.proofs.following.FollowingPlacer.follow_insn.Goals as goal

pub returns : goal.returns
returns c =
    let f : FollowedSource = record { placed = c.self.inside.statements; functions = c.self.inside.functions; ignored = c.self.inside.ignored; asked = c.self.inside.asked } in
    let tokens = map spelled c.args.tokens.now in
    subst (λ g. insn_followed (at c.args.pos tokens) g ≡ Ok (with_functions f c.place_watched.new.self c.add_insn.new.functions)) c.self.view_is
    (insn_recorded c.args.pos tokens f c.place_watched.new.self c.add_insn.new.functions c.in_ok-effect.effect c.current-number.result c.end_in-start.result
    c.fields_in-before.result c.fields_in-after.result c.in_ok-effect.ensures.placed c.in_ok-effect.ensures.shows c.current-number.ensures c.end_in-start.ensures
    c.fields_in-before.ensures c.fields_in-after.ensures (sym c.splits.ensures ∙ c.if-splits.false) c.in_ok-add_insn.ensures)
