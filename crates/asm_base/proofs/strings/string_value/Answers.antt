-- Each byte, and each backslash with what belongs to it, adds the byte that it stands for.
use Rattle.std.proofs.Common.{◌≡◌, ◌∷◌, length, drop, sym, ap, ◌∙◌, arith}
use Rattle.std.proofs.lemmas.List.{length-drop, take_rest}
use Rattle.asm_base.proofs.StringLemmas.{read_plain, read_escaped, read_end}
use Rattle.asm_base.proofs.strings.string_value.Goals as goal

pub loop-first-preserved-then-first-eq92 : goal.loop-first-preserved-then-first-eq92
loop-first-preserved-then-first-eq92 c =
    let s = c.args.inner.now in
    let front : drop c.loop-first.at s ≡ c.in-Some.first.now ∷ c.in-Some.rest.now = sym (take_rest s c.loop-first.at) ∙ c.in-Some.ensures.cases.0 in
    let escape = c.read_escape-escape in
    record {
      within = omega (arith, length-drop c.loop-first.at s, ap length front, escape.ensures.within);
      all = read_escaped _ _ _ s _ _ _ _ _ front c.if-first-eq92.true escape.ensures.byte escape.ensures.length c.in_ok-push.ensures.items c.loop-first.invariant.all;
    }

pub loop-first-preserved : goal.loop-first-preserved
loop-first-preserved c =
    let s = c.args.inner.now in
    let front : drop c.loop-first.at s ≡ c.in-Some.first.now ∷ c.in-Some.rest.now = sym (take_rest s c.loop-first.at) ∙ c.in-Some.ensures.cases.0 in
    record {
      within = omega (arith, length-drop c.loop-first.at s, ap length front);
      all = read_plain _ _ _ s _ _ _ front c.if-first-eq92.false c.in_ok-push-2.ensures.items c.loop-first.invariant.all;
    }

pub returns : goal.returns
returns c =
    let s = c.args.inner.now in
    let nothing : length (drop c.loop-first.at s) ≡ 0 = rw take_rest at c.in_default.ensures.cases in
    read_end _ _ s c.loop-first.at (omega (arith, length-drop c.loop-first.at s)) c.loop-first.invariant.all
