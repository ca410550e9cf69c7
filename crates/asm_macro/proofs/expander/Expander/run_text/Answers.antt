-- Statement by statement.
use Rattle.std.proofs.Common.{◌≡◌, ◌-◌, ℕ, List, ◌∷◌, length, map, take, drop, Option, None, Some, Ok, Err, refl, sym, ap, subst, ◌∙◌, arith}
use Rattle.asm_base.specs.Tokens.{SpelledToken, spelled}
use Rattle.asm_base.specs.declared.tokens.Token.{Token}
use Rattle.asm_lines.specs.NextStatements.{TokenStatement}
use Rattle.macro_blocks.specs.declared.frames.Taken.{Taken}
use Rattle.macro_blocks.specs.Frames.{Takes, level_of}
use Rattle.macro_blocks.specs.Places.{read_at}
use Rattle.macro_blocks.specs.Levels.{with_statements}
use Rattle.macro_words.specs.declared.causes.MacroCause.TheVariants.{UnclosedBlock}
use Rattle.asm_macro.specs.declared.faults.ExpandFault.TheVariants.{Expansion, NoMemory}
use Rattle.asm_macro.specs.declared.heads.Head.{Head}
use Rattle.asm_macro.specs.declared.turned.Turned.TheVariants as turned
use Rattle.asm_macro.specs.Expansion.{MacroAs, under}
use Rattle.asm_macro.specs.Heads.{IsHead}
use Rattle.asm_macro.specs.OpenParts.{AreFew}
use Rattle.asm_macro.proofs.ShallowLists.{fewer_parts, same_parts}
use Rattle.asm_macro.specs.Readings.{input_by}
use Rattle.asm_macro.specs.Running.{RunsFrom, headed}
use Rattle.asm_macro.specs.Turning.{state_of}
use Rattle.asm_macro.proofs.FrontLemmas.{left_seen}
use Rattle.asm_macro.proofs.Texts.{runs_without, text_more, text_next, text_ends, text_unclosed, text_stays}
use Rattle.asm_macro.proofs.Turnings.{plain_fails}
use Rattle.asm_macro.proofs.Runs.{steps_none}
use Rattle.asm_macro.proofs.expander.Expander.run_text.Goals as goal

pub statements-init : goal.statements-init
statements-init g c = record { done = (0, steps_none g.P.Placer.placed g.P.KnowingPlacer.told (g.I.Inputs.contents c.args.ins.now) _ _); text = c.requires; copies = refl; files = refl; given = omega arith; turns = omega arith; ins = refl; parts = omega arith; shallow = λ few. few }

-- what was asked for behind the labels, of what stands behind them
of_behind : (found : Option Head) (macros : List MacroAs) (n : ℕ) (tokens : List Token) (behind : List SpelledToken) → drop n (map spelled tokens) ≡ behind → IsHead found (map spelled (take (length tokens - n) (drop n tokens))) macros → IsHead found behind macros
of_behind found macros n tokens behind same is =
    let Heads : List SpelledToken → Type 0 = λ these. IsHead found these macros in
    subst Heads (left_seen tokens n ∙ same) is

pub turn_head-requires-clause-head : goal.turn_head-requires-clause-head
turn_head-requires-clause-head g c =
    let Found : Option Head → Type 0 = λ found. IsHead found (map spelled (take (length (take c.in-Ok-Statement.count c.as_slice.result.now) - c.labels_length-labels.result) (drop c.labels_length-labels.result (take c.in-Ok-Statement.count c.as_slice.result.now)))) c.statements.self.macros in
    of_behind (Some c.in-Ok-Some.head) c.statements.self.macros c.labels_length-labels.result (take c.in-Ok-Statement.count c.as_slice.result.now) _ c.labels_length-labels.ensures.behind
    (subst Found c.in-Ok-Some.field-0-is c.in-Ok-Some.ensures)

pub returns-in-Err-clause-run : goal.returns-in-Err-clause-run
returns-in-Err-clause-run g c =
    let told = g.I.Inputs.contents c.args.ins.now in
    let input = λ (i : g.row.I.Denot). input_by g.I.Inputs.contents g.I.Inputs.rest g.I.Inputs.faults g.I.Inputs.missing g.I.Inputs.taken g.I.Inputs.history i in
    let start = under (level_of c.args.frame.now) (state_of c.args.self.now) in
    let Later : g.row.I.Denot → Type 0 = λ i. RunsFrom {F = g.row.P-Fault.Denot} g.P.Placer.placed g.P.KnowingPlacer.told told start c.args.placer.now (Err NoMemory) (level_of c.take.new.self) (state_of c.statements.self) c.statements.placer (input c.args.ins.now) (input i) in
    subst Later (sym c.statements.invariant.ins) (runs_without g.P.Placer.placed g.P.KnowingPlacer.told told start (state_of c.statements.self) c.args.placer.now c.statements.placer (level_of c.take.new.self) (input c.args.ins.now) c.statements.invariant.files)

pub returns-in-Err-head-clause-run : goal.returns-in-Err-head-clause-run
returns-in-Err-head-clause-run g c =
    let told = g.I.Inputs.contents c.args.ins.now in
    let input = λ (i : g.row.I.Denot). input_by g.I.Inputs.contents g.I.Inputs.rest g.I.Inputs.faults g.I.Inputs.missing g.I.Inputs.taken g.I.Inputs.history i in
    let start = under (level_of c.args.frame.now) (state_of c.args.self.now) in
    let Later : g.row.I.Denot → Type 0 = λ i. RunsFrom {F = g.row.P-Fault.Denot} g.P.Placer.placed g.P.KnowingPlacer.told told start c.args.placer.now (Err NoMemory) (level_of c.take.new.self) (state_of c.statements.self) c.statements.placer (input c.args.ins.now) (input i) in
    subst Later (sym c.statements.invariant.ins) (runs_without g.P.Placer.placed g.P.KnowingPlacer.told told start (state_of c.statements.self) c.args.placer.now c.statements.placer (level_of c.take.new.self) (input c.args.ins.now) c.statements.invariant.files)

pub returns-in-Ok-Some-clause-run : goal.returns-in-Ok-Some-clause-run
returns-in-Ok-Some-clause-run g c =
    let told = g.I.Inputs.contents c.args.ins.now in
    let input = λ (i : g.row.I.Denot). input_by g.I.Inputs.contents g.I.Inputs.rest g.I.Inputs.faults g.I.Inputs.missing g.I.Inputs.taken g.I.Inputs.history i in
    let start = under (level_of c.args.frame.now) (state_of c.args.self.now) in
    let s : TokenStatement = record { file = c.in-Ok-Statement.pos.file; line = c.in-Ok-Statement.pos.line; tokens = map spelled (take c.in-Ok-Statement.count c.as_slice.result.now) } in
    let Taking : Taken → Type 0 = λ taken. Takes taken c.take.new.tokens.items (level_of c.statements.frame) (level_of c.take.new.self) in
    let step = (subst Taking c.in-Ok-Statement.field-0-is c.in-Ok-Statement.ensures.next).1 in
    let Read : List Token → Type 0 = λ items. level_of c.statements.frame ≡ with_statements (read_at c.in-Ok-Statement.pos (take c.in-Ok-Statement.count items) ∷ (level_of c.take.new.self).statements) (level_of c.take.new.self) in
    let Later : g.row.I.Denot → Type 0 = λ i. RunsFrom {F = g.row.P-Fault.Denot} g.P.Placer.placed g.P.KnowingPlacer.told (g.I.Inputs.contents i) (headed s (level_of c.take.new.self) (state_of c.statements.self)) c.statements.placer c.turn_head.result (level_of c.turn_head.new.frame) (state_of c.turn_head.new.self) c.turn_head.new.placer (input i) (input c.turn_head.new.ins) in
    text_more g.P.Placer.placed g.P.KnowingPlacer.told told start c.args.placer.now c.statements.invariant.done.0 (level_of c.statements.frame) (level_of c.take.new.self) (level_of c.turn_head.new.frame) s (state_of c.statements.self) (state_of c.turn_head.new.self) c.statements.placer c.turn_head.new.placer c.turn_head.result (input c.args.ins.now) (input c.turn_head.new.ins)
    c.statements.invariant.done.1 (subst Read (sym c.as_slice.ensures.value) step) c.statements.invariant.files (subst Later c.statements.invariant.ins c.turn_head.ensures.run)

pub returns-in-Err-hand_out-clause-run : goal.returns-in-Err-hand_out-clause-run
returns-in-Err-hand_out-clause-run g c =
    let told = g.I.Inputs.contents c.args.ins.now in
    let input = λ (i : g.row.I.Denot). input_by g.I.Inputs.contents g.I.Inputs.rest g.I.Inputs.faults g.I.Inputs.missing g.I.Inputs.taken g.I.Inputs.history i in
    let start = under (level_of c.args.frame.now) (state_of c.args.self.now) in
    let s : TokenStatement = record { file = c.in-Ok-Statement.pos.file; line = c.in-Ok-Statement.pos.line; tokens = map spelled (take c.in-Ok-Statement.count c.as_slice.result.now) } in
    let Taking : Taken → Type 0 = λ taken. Takes taken c.take.new.tokens.items (level_of c.statements.frame) (level_of c.take.new.self) in
    let step = (subst Taking c.in-Ok-Statement.field-0-is c.in-Ok-Statement.ensures.next).1 in
    let Read : List Token → Type 0 = λ items. level_of c.statements.frame ≡ with_statements (read_at c.in-Ok-Statement.pos (take c.in-Ok-Statement.count items) ∷ (level_of c.take.new.self).statements) (level_of c.take.new.self) in
    let Found : Option Head → Type 0 = λ found. IsHead found (map spelled (take (length (take c.in-Ok-Statement.count c.as_slice.result.now) - c.labels_length-labels.result) (drop c.labels_length-labels.result (take c.in-Ok-Statement.count c.as_slice.result.now)))) c.statements.self.macros in
    let plain = of_behind None c.statements.self.macros c.labels_length-labels.result (take c.in-Ok-Statement.count c.as_slice.result.now) _ c.labels_length-labels.ensures.behind (subst Found c.in-Ok-None.field-0-is c.in-Ok-None.ensures) in
    let Later : g.row.I.Denot → Type 0 = λ i. RunsFrom {F = g.row.P-Fault.Denot} g.P.Placer.placed g.P.KnowingPlacer.told told start c.args.placer.now (Err c.in-Err-hand_out.fault) (level_of c.take.new.self) (state_of c.hand_out.new.self) c.hand_out.new.placer (input c.args.ins.now) (input i) in
    subst Later (sym c.statements.invariant.ins)
    (text_more g.P.Placer.placed g.P.KnowingPlacer.told told start c.args.placer.now c.statements.invariant.done.0 (level_of c.statements.frame) (level_of c.take.new.self) (level_of c.take.new.self) s (state_of c.statements.self) (state_of c.hand_out.new.self) c.statements.placer c.hand_out.new.placer (Err c.in-Err-hand_out.fault) (input c.args.ins.now) (input c.args.ins.now)
    c.statements.invariant.done.1 (subst Read (sym c.as_slice.ensures.value) step) c.statements.invariant.files
    (plain_fails g.P.Placer.placed g.P.KnowingPlacer.told told s (level_of c.take.new.self) (level_of c.take.new.self) (state_of c.statements.self) (state_of c.hand_out.new.self) c.statements.placer c.hand_out.new.placer c.in-Err-hand_out.fault (input c.args.ins.now) plain c.in-Err-hand_out.ensures.step))

pub statements-preserved : goal.statements-preserved
statements-preserved g c =
    let told = g.I.Inputs.contents c.args.ins.now in
    let start = under (level_of c.args.frame.now) (state_of c.args.self.now) in
    let s : TokenStatement = record { file = c.in-Ok-Statement.pos.file; line = c.in-Ok-Statement.pos.line; tokens = map spelled (take c.in-Ok-Statement.count c.as_slice.result.now) } in
    let Taking : Taken → Type 0 = λ taken. Takes taken c.take.new.tokens.items (level_of c.statements.frame) (level_of c.take.new.self) in
    let step = (subst Taking c.in-Ok-Statement.field-0-is c.in-Ok-Statement.ensures.next).1 in
    let Read : List Token → Type 0 = λ items. level_of c.statements.frame ≡ with_statements (read_at c.in-Ok-Statement.pos (take c.in-Ok-Statement.count items) ∷ (level_of c.take.new.self).statements) (level_of c.take.new.self) in
    let Found : Option Head → Type 0 = λ found. IsHead found (map spelled (take (length (take c.in-Ok-Statement.count c.as_slice.result.now) - c.labels_length-labels.result) (drop c.labels_length-labels.result (take c.in-Ok-Statement.count c.as_slice.result.now)))) c.statements.self.macros in
    let plain = of_behind None c.statements.self.macros c.labels_length-labels.result (take c.in-Ok-Statement.count c.as_slice.result.now) _ c.labels_length-labels.ensures.behind (subst Found c.in-Ok-None.field-0-is c.in-Ok-None.ensures) in
    let handed = c.in_default.ensures.step in
    let now = handed.2 in
    let given = ap (λ m. m.given) now in
    let before = c.statements.invariant.given in
    let turns = c.statements.invariant.turns in
    let turn = c.tick.ensures in
    let fewer = c.statements.invariant.parts in
    let parts = c.hand_out.ensures.parts in
    record {
      done = text_next g.P.Placer.placed g.P.KnowingPlacer.told told start c.args.placer.now c.statements.invariant.done.0 (level_of c.statements.frame) (level_of c.take.new.self) s (state_of c.statements.self) (state_of c.hand_out.new.self) c.statements.placer c.hand_out.new.placer c.statements.invariant.done.1 (subst Read (sym c.as_slice.ensures.value) step) plain handed;
      text = c.statements.invariant.text ∙ sym c.take.ensures.text;
      copies = c.take.ensures.copies ∙ c.statements.invariant.copies;
      files = ap (λ m. m.files) now ∙ c.statements.invariant.files;
      given = omega (arith, given, before);
      turns = omega (arith, given, turns, turn);
      ins = c.statements.invariant.ins;
      parts = omega (arith, fewer, parts);
      shallow = λ few. subst (λ below. AreFew (level_of c.take.new.self ∷ below)) (sym (ap (λ m. m.levels) now))
          (same_parts (level_of c.statements.frame) (level_of c.take.new.self) (state_of c.statements.self).levels (sym (ap (λ l. l.ends) step)) (c.statements.invariant.shallow few));
    }

pub returns-in-Ok-NextCopy-clause-run : goal.returns-in-Ok-NextCopy-clause-run
returns-in-Ok-NextCopy-clause-run g c =
    let told = g.I.Inputs.contents c.args.ins.now in
    let input = λ (i : g.row.I.Denot). input_by g.I.Inputs.contents g.I.Inputs.rest g.I.Inputs.faults g.I.Inputs.missing g.I.Inputs.taken g.I.Inputs.history i in
    let start = under (level_of c.args.frame.now) (state_of c.args.self.now) in
    let Taking : Taken → Type 0 = λ taken. Takes taken c.take.new.tokens.items (level_of c.statements.frame) (level_of c.take.new.self) in
    let same = subst Taking c.in-Ok-NextCopy.field-0-is c.in-Ok-NextCopy.ensures.next in
    let Later : g.row.I.Denot → Type 0 = λ i. RunsFrom {F = g.row.P-Fault.Denot} g.P.Placer.placed g.P.KnowingPlacer.told told start c.args.placer.now (Ok turned.Stays) (level_of c.begin_copy.new.self) (state_of c.statements.self) c.statements.placer (input c.args.ins.now) (input i) in
    subst Later (sym c.statements.invariant.ins)
    (text_stays g.P.Placer.placed g.P.KnowingPlacer.told told start c.args.placer.now c.statements.invariant.done.0 (level_of c.statements.frame) (level_of c.begin_copy.new.self) (state_of c.statements.self) c.statements.placer (input c.args.ins.now) c.statements.invariant.done.1
    (c.in_default-begin_copy.ensures.level ∙ same) c.statements.invariant.files)

pub returns-in-Err-begin_copy-clause-run : goal.returns-in-Err-begin_copy-clause-run
returns-in-Err-begin_copy-clause-run g c =
    let told = g.I.Inputs.contents c.args.ins.now in
    let input = λ (i : g.row.I.Denot). input_by g.I.Inputs.contents g.I.Inputs.rest g.I.Inputs.faults g.I.Inputs.missing g.I.Inputs.taken g.I.Inputs.history i in
    let start = under (level_of c.args.frame.now) (state_of c.args.self.now) in
    let Later : g.row.I.Denot → Type 0 = λ i. RunsFrom {F = g.row.P-Fault.Denot} g.P.Placer.placed g.P.KnowingPlacer.told told start c.args.placer.now (Err NoMemory) (level_of c.begin_copy.new.self) (state_of c.statements.self) c.statements.placer (input c.args.ins.now) (input i) in
    subst Later (sym c.statements.invariant.ins) (runs_without g.P.Placer.placed g.P.KnowingPlacer.told told start (state_of c.statements.self) c.args.placer.now c.statements.placer (level_of c.begin_copy.new.self) (input c.args.ins.now) c.statements.invariant.files)

pub returns-in-Some-clause-run : goal.returns-in-Some-clause-run
returns-in-Some-clause-run g c =
    let told = g.I.Inputs.contents c.args.ins.now in
    let input = λ (i : g.row.I.Denot). input_by g.I.Inputs.contents g.I.Inputs.rest g.I.Inputs.faults g.I.Inputs.missing g.I.Inputs.taken g.I.Inputs.history i in
    let start = under (level_of c.args.frame.now) (state_of c.args.self.now) in
    let Taking : Taken → Type 0 = λ taken. Takes taken c.take.new.tokens.items (level_of c.statements.frame) (level_of c.take.new.self) in
    let ends = subst Taking c.in-Ok-End.field-0-is c.in-Ok-End.ensures.next in
    let first = c.in-Some.ensures in
    let Later : g.row.I.Denot → Type 0 = λ i. RunsFrom {F = g.row.P-Fault.Denot} g.P.Placer.placed g.P.KnowingPlacer.told told start c.args.placer.now (Err (Expansion UnclosedBlock c.in-Some.first)) (level_of c.take.new.self) (state_of c.statements.self) c.statements.placer (input c.args.ins.now) (input i) in
    subst Later (sym c.statements.invariant.ins)
    (text_unclosed g.P.Placer.placed g.P.KnowingPlacer.told told start c.args.placer.now c.statements.invariant.done.0 (level_of c.statements.frame) (level_of c.take.new.self) (state_of c.statements.self) c.statements.placer (input c.args.ins.now) c.in-Some.first first.0 c.statements.invariant.done.1
    ends.1 (ap (λ l. l.open_at) (sym ends.0) ∙ first.1) c.statements.invariant.files)

pub returns-in-Ok-End-clause-run : goal.returns-in-Ok-End-clause-run
returns-in-Ok-End-clause-run g c =
    let told = g.I.Inputs.contents c.args.ins.now in
    let input = λ (i : g.row.I.Denot). input_by g.I.Inputs.contents g.I.Inputs.rest g.I.Inputs.faults g.I.Inputs.missing g.I.Inputs.taken g.I.Inputs.history i in
    let start = under (level_of c.args.frame.now) (state_of c.args.self.now) in
    let Taking : Taken → Type 0 = λ taken. Takes taken c.take.new.tokens.items (level_of c.statements.frame) (level_of c.take.new.self) in
    let ends = subst Taking c.in-Ok-End.field-0-is c.in-Ok-End.ensures.next in
    let Later : g.row.I.Denot → Type 0 = λ i. RunsFrom {F = g.row.P-Fault.Denot} g.P.Placer.placed g.P.KnowingPlacer.told told start c.args.placer.now (Ok turned.Leaves) (level_of c.take.new.self) (state_of c.statements.self) c.statements.placer (input c.args.ins.now) (input i) in
    subst Later (sym c.statements.invariant.ins)
    (text_ends g.P.Placer.placed g.P.KnowingPlacer.told told start c.args.placer.now c.statements.invariant.done.0 (level_of c.statements.frame) (level_of c.take.new.self) (state_of c.statements.self) c.statements.placer (input c.args.ins.now) c.statements.invariant.done.1
    ends.1 (ap (λ l. l.open_at) (sym ends.0) ∙ c.in_default-outermost.ensures) c.statements.invariant.files)

pub returns-in-Ok-Some-clause-few : goal.returns-in-Ok-Some-clause-few
returns-in-Ok-Some-clause-few g c = λ few.
    let Taking : Taken → Type 0 = λ taken. Takes taken c.take.new.tokens.items (level_of c.statements.frame) (level_of c.take.new.self) in
    let step = (subst Taking c.in-Ok-Statement.field-0-is c.in-Ok-Statement.ensures.next).1 in
    c.turn_head.ensures.few (same_parts (level_of c.statements.frame) (level_of c.take.new.self) (state_of c.statements.self).levels (sym (ap (λ l. l.ends) step)) (c.statements.invariant.shallow few))

pub returns-in-Ok-NextCopy-clause-few : goal.returns-in-Ok-NextCopy-clause-few
returns-in-Ok-NextCopy-clause-few g c = λ few.
    let Taking : Taken → Type 0 = λ taken. Takes taken c.take.new.tokens.items (level_of c.statements.frame) (level_of c.take.new.self) in
    let same = subst Taking c.in-Ok-NextCopy.field-0-is c.in-Ok-NextCopy.ensures.next in
    subst (λ level. AreFew (level ∷ (state_of c.statements.self).levels)) (sym (c.in_default-begin_copy.ensures.level ∙ same)) (c.statements.invariant.shallow few)

pub returns-in-Ok-End-clause-few : goal.returns-in-Ok-End-clause-few
returns-in-Ok-End-clause-few g c = λ few.
    fewer_parts (level_of c.statements.frame) (state_of c.statements.self).levels (c.statements.invariant.shallow few)
