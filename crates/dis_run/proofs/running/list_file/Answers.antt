-- A file that is too large is refused.
use Rattle.std.proofs.Common.{List, Result, Err, ℕ, subst}
use Rattle.asm_base.specs.WholeFile.{ReadsName}
use Rattle.asm_base.specs.declared.reading.TextFault.{TextFault}
use Rattle.dis_words.specs.Invoked.{invoked}
use Rattle.dis_run.proofs.Answered.{refused_answers}
use Rattle.dis_run.proofs.running.list_file.Goals as goal

pub returns-in-Err-TooLarge-clause-answer : goal.returns-in-Err-TooLarge-clause-answer
returns-in-Err-TooLarge-clause-answer g c =
    refused_answers g.A.Texts.text g.B.Texts.text (invoked c.args.invocation) (g.I.Inputs.contents c.args.ins.now) c.refuse.result (g.I.Inputs.rest c.read_text.new.ins)
    (g.C.Console.said c.args.con.now) (g.C.Console.said c.refuse.new.con)
    (subst (λ (fault : TextFault). ReadsName (g.I.Inputs.contents c.args.ins.now) c.args.invocation.file.now (Err fault) (g.I.Inputs.rest c.read_text.new.ins)) c.in-Err-TooLarge.field-0-is c.in-Err-TooLarge.ensures.text)
    (c.refuse.ensures.answer g.A.Texts.text g.B.Texts.text)
