-- A statement is read, or what is to come is left.
use Rattle.std.proofs.Common.{IfOk, Option, subst}
use Rattle.macro_blocks.specs.declared.frames.Read.{Read}
use Rattle.macro_blocks.specs.Levels.{Level}
use Rattle.macro_blocks.specs.Frames.{level_of, Reads, Takes}
use Rattle.macro_blocks.proofs.Heads.{takes, reads_none}
use Rattle.macro_blocks.proofs.frames.Frame.take.Goals as goal

pub returns-in-Some-clause-next : goal.returns-in-Some-clause-next
returns-in-Some-clause-next c =
    let f = c.args.self.now in
    let tokens = c.read_next.new.tokens.items in
    let R : Option Read → Type 0 = λ read. Reads read tokens f c.read_next.new.self in
    takes f c.read_next.new.self c.in-Some.read tokens (subst R c.in-Some.is c.in_ok-read.ensures.reads) c.in_ok-read.ensures.same

pub returns-in-None-clause-next : goal.returns-in-None-clause-next
returns-in-None-clause-next c =
    let f = c.args.self.now in
    let R : Option Read → Type 0 = λ read. Reads read c.read_next.new.tokens.items f c.read_next.new.self in
    let same = reads_none f c.read_next.new.self c.read_next.new.tokens.items (subst R c.in-None.is c.in_ok-read.ensures.reads) c.in_ok-read.ensures.same in
    let T : Level → Type 0 = λ level. IfOk c.take_later.result (λ taken. Takes taken c.take_later.new.tokens.items level (level_of c.take_later.new.self)) in
    subst T same c.take_later.ensures.next
