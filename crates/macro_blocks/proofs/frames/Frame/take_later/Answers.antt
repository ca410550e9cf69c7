-- The next copy of the text, or the next text, or the end.
use Rattle.std.proofs.Common.{◌≡◌, ◌≤◌, [], length, Option, refl, sym, ap, subst, ◌∙◌, arith}
use Rattle.std.proofs.lemmas.Bool.{ltb-false}
use Rattle.macro_blocks.specs.declared.copies.EachCopy.{EachCopy}
use Rattle.macro_blocks.specs.declared.frames.Read.{Read}
use Rattle.macro_blocks.specs.declared.frames.Taken.TheVariants.{Statement}
use Rattle.macro_blocks.specs.Levels.{Level}
use Rattle.macro_blocks.specs.Places.{left_in}
use Rattle.macro_blocks.specs.Frames.{level_of, Reads, Takes}
use Rattle.macro_blocks.proofs.Heads.{takes, reads_none, goes_later, none_alike, none_left}
use Rattle.macro_blocks.proofs.frames.Frame.take_later.Goals as goal

pub returns-in-Some-clause-next : goal.returns-in-Some-clause-next
returns-in-Some-clause-next c =
    let f = c.args.self.now in
    let again = c.restart.new.self in
    let tokens = c.read_next.new.tokens.items in
    let R : Option Read → Type 0 = λ read. Reads read tokens again c.read_next.new.self in
    let taken = takes again c.read_next.new.self c.in-Some.read tokens (subst R c.in-Some.is c.in_ok-read.ensures.reads) c.in_ok-read.ensures.same in
    let T : Level → Type 0 = λ level. Takes (Statement c.in-Some.read.pos c.in-Some.read.count) tokens level (level_of c.read_next.new.self) in
    subst T (sym (goes_later f again c.requires.none c.restart.ensures.statements c.restart.ensures.same)) taken

pub returns-in-None-clause-next : goal.returns-in-None-clause-next
returns-in-None-clause-next c =
    let f = c.args.self.now in
    let again = c.restart.new.self in
    let tokens = c.read_next.new.tokens.items in
    let R : Option Read → Type 0 = λ read. Reads read tokens again c.read_next.new.self in
    let reads = subst R c.in-None.is c.in_ok-read.ensures.reads in
    let goes = goes_later f again c.requires.none c.restart.ensures.statements c.restart.ensures.same in
    let alone = f.alone c.if-self-gt0.true in
    let here : length f.each.line.values.items ≤ f.each.next = omega (arith, alone) in
    let Past : EachCopy → Type 0 = λ each. length each.line.values.items ≤ each.next in
    let past = subst Past (sym c.restart.ensures.each) here in
    let nothing : left_in again.place again.text.value 0 ≡ [] = ap (left_in again.place again.text.value) (sym c.restart.ensures.at) ∙ reads.0 in
    (reads_none again c.read_next.new.self tokens reads c.in_ok-read.ensures.same ∙ sym goes, ap (λ (level : Level). level.statements) goes ∙ none_alike again reads.0 nothing past)

pub returns-else-is_left-clause-next : goal.returns-else-is_left-clause-next
returns-else-is_left-clause-next c =
    let f = c.args.self.now in
    let past = ltb-false f.each.next (length f.each.line.values.items) (sym c.is_left.ensures ∙ c.if-is_left.false) in
    (refl, none_left f c.requires.none (omega arith) past)
