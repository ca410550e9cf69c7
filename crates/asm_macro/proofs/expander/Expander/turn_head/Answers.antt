-- With labels or without.
use Rattle.std.proofs.Common.{◌≡◌, ◌≢◌, ◌≤◌, ℕ, zero, suc, List, [], ◌∷◌, length, map, take, Ok, Err, refl, sym, ap, subst, ◌∙◌, arith}
use Rattle.std.proofs.lemmas.List.{take-map, length-map}
use Rattle.asm_base.specs.Tokens.{SpelledToken, spelled}
use Rattle.asm_lines.specs.NextStatements.{TokenStatement}
use Rattle.macro_blocks.specs.Frames.{level_of}
use Rattle.macro_words.specs.Statements.{labels_of}
use Rattle.asm_macro.specs.OpenParts.{AreFew}
use Rattle.asm_macro.specs.Running.{HandsOut}
use Rattle.asm_macro.specs.Turning.{state_of}
use Rattle.asm_macro.proofs.Turnings.{bare_runs, labelled_head, labels_fail}
use Rattle.asm_macro.proofs.expander.Expander.turn_head.Goals as goal

some_labels : (n : ℕ) (tokens labels : List SpelledToken) → n ≤ length tokens → n ≢ 0 → take n tokens ≡ labels → labels ≢ []
some_labels n [] labels within apart is none = apart (omega (arith, within))
some_labels zero (first ∷ rest) labels within apart is none = apart refl
some_labels (suc n) (first ∷ rest) labels within apart is none = cc

no_labels : (n : ℕ) (tokens labels : List SpelledToken) → n ≡ 0 → take n tokens ≡ labels → labels ≡ []
no_labels n tokens labels none is = sym is ∙ ap (λ k. take k tokens) none

pub returns-then-labels-eq0-clause-run : goal.returns-then-labels-eq0-clause-run
returns-then-labels-eq0-clause-run g c =
    let s : TokenStatement = record { file = c.args.pos.file; line = c.args.pos.line; tokens = map spelled c.args.tokens.now } in
    bare_runs g.P.Placer.placed g.P.KnowingPlacer.told (g.I.Inputs.contents c.args.ins.now) c.args.head.now s (level_of c.args.frame.now) (level_of c.rewrite.new.frame) (state_of c.args.self.now) (state_of c.rewrite.new.self) c.args.placer.now c.rewrite.result _ _
    c.requires.head (no_labels c.args.labels s.tokens (labels_of s.tokens) c.if-labels-eq0.true c.requires.labels) c.rewrite.ensures.turn c.rewrite.ensures.input

pub returns-in-Ok-clause-run : goal.returns-in-Ok-clause-run
returns-in-Ok-clause-run g c =
    let s : TokenStatement = record { file = c.args.pos.file; line = c.args.pos.line; tokens = map spelled c.args.tokens.now } in
    let labels = sym (take-map spelled c.args.labels c.args.tokens.now) ∙ c.requires.labels in
    let Handed : List SpelledToken → Type 0 = λ tokens. HandsOut g.P.Placer.placed (record { file = c.args.pos.file; line = c.args.pos.line; tokens = tokens }) (Ok c.in-Ok.field-0) (state_of c.args.self.now) c.args.placer.now (state_of c.hand_out.new.self) c.hand_out.new.placer in
    let some = some_labels c.args.labels s.tokens (labels_of s.tokens) (let h = c.requires.within in let e = length-map c.args.tokens.now spelled in omega (arith, h, e)) c.if-labels-eq0.false c.requires.labels in
    labelled_head g.P.Placer.placed g.P.KnowingPlacer.told (g.I.Inputs.contents c.args.ins.now) c.args.head.now s (level_of c.args.frame.now) (level_of c.rewrite-in-Ok.new.frame) (state_of c.args.self.now) (state_of c.hand_out.new.self) (state_of c.rewrite-in-Ok.new.self) c.args.placer.now c.hand_out.new.placer c.rewrite-in-Ok.result _ _
    c.requires.head some (subst Handed labels c.in-Ok.ensures.step) c.rewrite-in-Ok.ensures.turn c.rewrite-in-Ok.ensures.input

pub returns-in-Err-clause-run : goal.returns-in-Err-clause-run
returns-in-Err-clause-run g c =
    let s : TokenStatement = record { file = c.args.pos.file; line = c.args.pos.line; tokens = map spelled c.args.tokens.now } in
    let labels = sym (take-map spelled c.args.labels c.args.tokens.now) ∙ c.requires.labels in
    let Handed : List SpelledToken → Type 0 = λ tokens. HandsOut g.P.Placer.placed (record { file = c.args.pos.file; line = c.args.pos.line; tokens = tokens }) (Err c.in-Err.fault) (state_of c.args.self.now) c.args.placer.now (state_of c.hand_out.new.self) c.hand_out.new.placer in
    let some = some_labels c.args.labels s.tokens (labels_of s.tokens) (let h = c.requires.within in let e = length-map c.args.tokens.now spelled in omega (arith, h, e)) c.if-labels-eq0.false c.requires.labels in
    labels_fail g.P.Placer.placed g.P.KnowingPlacer.told (g.I.Inputs.contents c.args.ins.now) c.args.head.now s (level_of c.args.frame.now) (level_of c.args.frame.now) (state_of c.args.self.now) (state_of c.hand_out.new.self) c.args.placer.now c.hand_out.new.placer c.in-Err.fault _
    c.requires.head some (subst Handed labels c.in-Err.ensures.step)

pub returns-in-Ok-clause-few : goal.returns-in-Ok-clause-few
returns-in-Ok-clause-few g c = λ few.
    let levels = ap (λ m. m.levels) c.in-Ok.ensures.step.2 in
    c.rewrite-in-Ok.ensures.few (subst (λ below. AreFew (level_of c.args.frame.now ∷ below)) (sym levels) few)
