-- The statement that stands next, or none is left.
use Rattle.std.proofs.Common.{ℕ, List, take, subst, sym, ap, ◌∙◌, ◌∷◌, refl}
use Rattle.asm_lines.specs.NextStatements.{StandsNext}
use Rattle.macro_blocks.specs.Places.{read_at, left_in}
use Rattle.macro_blocks.proofs.Lefts.{next_left, end_left}
use Rattle.macro_blocks.proofs.frames.Frame.read_next.Goals as goal

pub returns-in-Statement-clause-reads : goal.returns-in-Statement-clause-reads
returns-in-Statement-clause-reads c =
    let f = c.args.self.now in
    let tokens = c.next_statement.new.tokens.items in
    let read = take c.in-Statement.count tokens in
    let Stands : List ℕ → Type 0 = λ source. StandsNext source f.at tokens c.in_ok-line.field-0 in
    let step = subst (StandsNext f.text.value f.at tokens) c.in-Statement.is (subst Stands c.requires c.in_ok-line.ensures) in (
      step.0,
      next_left f.place f.text.value f.at read c.in-Statement.line c.in-Statement.next c.in-Statement.there step.1
          ∙ ap (λ pos. read_at pos read ∷ left_in f.place f.text.value c.in-Statement.next) (sym c.pos_in.ensures),
    )

pub returns-in-End-clause-reads : goal.returns-in-End-clause-reads
returns-in-End-clause-reads c =
    let f = c.args.self.now in
    let tokens = c.next_statement.new.tokens.items in
    let Stands : List ℕ → Type 0 = λ source. StandsNext source f.at tokens c.in_ok-line.field-0 in
    let step = subst (StandsNext f.text.value f.at tokens) c.in-End.is (subst Stands c.requires c.in_ok-line.ensures) in
    (end_left f.place f.text.value f.at step, refl)
