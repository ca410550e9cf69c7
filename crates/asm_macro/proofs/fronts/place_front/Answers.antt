-- Statement by statement.
use Rattle.std.proofs.Common.{arith, rules, ◌≡◌, ◌+◌, ℕ, List, take, Result, Err, sym, ap, subst, ◌∙◌}
use Rattle.asm_base.specs.Refusals.{Fails}
use Rattle.asm_base.specs.declared.refusals.Refusal.{Refusal}
use Rattle.asm_base.specs.declared.refusals.Refusal.TheVariants as refusal
use Rattle.asm_base.specs.declared.tokens.Token.{Token}
use Rattle.asm_lines.specs.NextStatements.{StandsNext, TokenStatement, next_in_tokens}
use Rattle.macro_words.specs.Conditions.{Knowledge}
use Rattle.asm_macro.specs.declared.fronts.Stop.TheVariants as stop
use Rattle.asm_macro.specs.Fronts.{LeadsTo, StopsAt}
use Rattle.asm_macro.specs.Laws.{IsPlain}
use Rattle.asm_macro.specs.Placing.{refused}
use Rattle.asm_macro.proofs.FrontLemmas.{left_seen, plain_by, no_word, front_init, front_next, front_long, front_refused, front_ends, front_clean}
use Rattle.asm_macro.proofs.fronts.place_front.Goals as goal

pub statements-init : goal.statements-init
statements-init g c = record { front = front_init g.P.Placer.placed g.P.KnowingPlacer.told c.args.source.now c.args.placer.now; turns = omega arith }

pub returns-then-given-ge-MOST_GIVEN-clause-stops : goal.returns-then-given-ge-MOST_GIVEN-clause-stops
returns-then-given-ge-MOST_GIVEN-clause-stops g c =
    let step = (subst (StandsNext c.args.source.now c.statements.at c.next_statement.new.tokens.items) c.in-Ok-Statement.field-0-is c.in-Ok-Statement.ensures).1 in (
      c.statements.given + 1,
      front_long g.P.Placer.placed g.P.KnowingPlacer.told c.args.source.now c.args.placer.now c.statements.placer c.statements.at c.statements.line c.statements.given c.in-Ok-Statement.here c.in-Ok-Statement.next c.in-Ok-Statement.there (take c.in-Ok-Statement.count c.next_statement.new.tokens.items)
          c.statements.invariant.front step c.if-given-ge-MOST_GIVEN.true,
    )

-- a refusal of a statement
refused_stops : {S F : Type 0} (placed : S → TokenStatement → Result S F) (told : S → Knowledge) (source : List ℕ) (placer after : S) (x : Refusal F) (n : ℕ) (due : Result S F)
    → ((fault : F) → due ≡ Err fault → (m : ℕ) × LeadsTo placed told source placer m (λ files. refused files fault)) → Fails x due → StopsAt placed told source placer after (stop.Refused x)
refused_stops placed told source placer after (refusal.Fault fault) n due leads is = leads fault is
refused_stops placed told source placer after refusal.NoMemory n due leads is = tt

pub returns-in-Err-place-clause-stops : goal.returns-in-Err-place-clause-stops
returns-in-Err-place-clause-stops g c =
    let step = (subst (StandsNext c.args.source.now c.statements.at c.next_statement.new.tokens.items) c.in-Ok-Statement.field-0-is c.in-Ok-Statement.ensures).1 in
    let read = take c.in-Ok-Statement.count c.next_statement.new.tokens.items in
    let shown = take c.in-Ok-Statement.count c.as_slice.result.now in
    let same : shown ≡ read = ap (take c.in-Ok-Statement.count) c.as_slice.ensures.value in
    let word = plain_by (next_in_tokens 0 c.in-Ok-Statement.here shown) _ (left_seen shown c.labels_length-labels.result ∙ c.labels_length-labels.ensures.behind) (no_word c.word_of_head.result c.is_some.result _ c.is_some.ensures c.if-is_some.false c.word_of_head.ensures) in
    let Plain : List Token → Type 0 = λ these. IsPlain (next_in_tokens 0 c.in-Ok-Statement.here these) in
    let Refuses : List Token → Type 0 = λ these. Fails c.in-Err-place.refusal (g.P.Placer.placed c.statements.placer (next_in_tokens 0 c.in-Ok-Statement.here these)) in
    refused_stops g.P.Placer.placed g.P.KnowingPlacer.told c.args.source.now c.args.placer.now c.place.new.self c.in-Err-place.refusal c.statements.given (g.P.Placer.placed c.statements.placer (next_in_tokens 0 c.in-Ok-Statement.here read))
    (λ fault is. (c.statements.given + 1, front_refused g.P.Placer.placed g.P.KnowingPlacer.told c.args.source.now c.args.placer.now c.statements.placer fault c.statements.at c.statements.line c.statements.given c.in-Ok-Statement.here c.in-Ok-Statement.next c.in-Ok-Statement.there read c.statements.invariant.front step (subst Plain same word) c.if-given-ge-MOST_GIVEN.false is))
    (subst Refuses same c.in-Err-place.ensures)

pub statements-preserved : goal.statements-preserved
statements-preserved g c =
    let step = (subst (StandsNext c.args.source.now c.statements.at c.next_statement.new.tokens.items) c.in-Ok-Statement.field-0-is c.in-Ok-Statement.ensures).1 in
    let read = take c.in-Ok-Statement.count c.next_statement.new.tokens.items in
    let shown = take c.in-Ok-Statement.count c.as_slice.result.now in
    let same : shown ≡ read = ap (take c.in-Ok-Statement.count) c.as_slice.ensures.value in
    let word = plain_by (next_in_tokens 0 c.in-Ok-Statement.here shown) _ (left_seen shown c.labels_length-labels.result ∙ c.labels_length-labels.ensures.behind) (no_word c.word_of_head.result c.is_some.result _ c.is_some.ensures c.if-is_some.false c.word_of_head.ensures) in
    let Plain : List Token → Type 0 = λ these. IsPlain (next_in_tokens 0 c.in-Ok-Statement.here these) in
    record {
      turns = search rules;
      front = front_next g.P.Placer.placed g.P.KnowingPlacer.told c.args.source.now c.args.placer.now c.statements.placer c.place.new.self c.statements.at c.statements.line c.statements.given c.in-Ok-Statement.here c.in-Ok-Statement.next c.in-Ok-Statement.there read c.statements.invariant.front step (subst Plain same word) c.if-given-ge-MOST_GIVEN.false
          (ap (λ these. g.P.Placer.placed c.statements.placer (next_in_tokens 0 c.in-Ok-Statement.here these)) (sym same) ∙ c.in_default.ensures);
    }

pub returns-in-Ok-End-clause-stops : goal.returns-in-Ok-End-clause-stops
returns-in-Ok-End-clause-stops g c =
    let step = subst (StandsNext c.args.source.now c.statements.at c.next_statement.new.tokens.items) c.in-Ok-End.field-0-is c.in-Ok-End.ensures in (
      c.statements.given + 1 + 1,
      front_ends g.P.Placer.placed g.P.KnowingPlacer.told c.args.source.now c.args.placer.now c.statements.placer c.statements.at c.statements.line c.statements.given c.statements.invariant.front step,
      front_clean g.P.Placer.placed g.P.KnowingPlacer.told c.args.source.now c.args.placer.now c.statements.placer c.statements.at c.statements.line c.statements.given c.statements.invariant.front step,
    )
