use Rattle.std.proofs.Common.{rules, ◌≡◌, ◌&&◌, ◌∙◌, true, false}
use Rattle.x86_insn.specs.Views.{view_of}
use Rattle.x86_table.specs.Reads.{is_register, is_accumulator}
use Rattle.x86_parts.specs.Codes.{named}
use Rattle.x86_encode.proofs.Coded.{coding_plain, coding_back, coding_none}
use Rattle.x86_encode.proofs.Turning.{as_named, back_named}
use Rattle.x86_encode.proofs.making.exchanged.Goals as goal

pub returns-then-other : goal.returns-then-other
returns-then-other c =
    let view = view_of c.args.insn.now c.args.values.now in
    let own : (is_register view.first && is_accumulator view.second) ≡ true = search rules in
    let other : (is_register view.second && is_accumulator view.first) ≡ true = search rules in
    coding_back (named c.args.name view) (as_named c.args.name view true c.requires own) (back_named c.args.name view true c.requires other) ∙ c.made_back.ensures

pub returns-else-other : goal.returns-else-other
returns-else-other c =
    let view = view_of c.args.insn.now c.args.values.now in
    let own : (is_register view.first && is_accumulator view.second) ≡ true = search rules in
    let other : (is_register view.second && is_accumulator view.first) ≡ false = search rules in
    coding_none (named c.args.name view) (as_named c.args.name view true c.requires own) (back_named c.args.name view false c.requires other)

pub returns-else-other-2 : goal.returns-else-other-2
returns-else-other-2 c =
    let view = view_of c.args.insn.now c.args.values.now in
    let own : (is_register view.first && is_accumulator view.second) ≡ false = search rules in
    let other : (is_register view.second && is_accumulator view.first) ≡ false = search rules in
    coding_plain (named c.args.name view) (as_named c.args.name view false c.requires own) (back_named c.args.name view false c.requires other) ∙ c.made_here.ensures
