-- The bytes are written once more.
use Rattle.std.proofs.Common.{◌+◌, ◌-◌, arith, List, ℕ, option_map, sym, ap, ◌∙◌}
use Rattle.std.proofs.lemmas.Grind.{common_steps}
use Rattle.asm_base.specs.Output.{after_write}
use Rattle.item_contents.specs.Contents.{repeated}
use Rattle.elf_file.proofs.Repeats.{repeated_more, repeated_none}
use Rattle.elf_file.proofs.WritingLemmas.{written_none, written-append}
use Rattle.elf_file.proofs.ObjectLemmas.{front_written}
use Rattle.elf_file.proofs.PieceLemmas.{repeated_cut}
use Rattle.elf_file.proofs.writing.write_repeated.Goals as goal

pub loop-i-init : goal.loop-i-init
loop-i-init g c =
    let made = g.O.Output.made c.args.obj.now in record {
      made = sym (ap (λ (xs : List ℕ). option_map (after_write xs) made) (repeated_none c.args.bytes.now) ∙ written_none made);
      faults = grind (arith, common_steps);
    }

pub returns-in_err-write_bytes-clause-prefix : goal.returns-in_err-write_bytes-clause-prefix
returns-in_err-write_bytes-clause-prefix g c =
    let bytes = c.args.bytes.now in
    let i = c.loop-i.i in
    let front = c.write_bytes.ensures.prefix in
    front_written (repeated c.args.count bytes) (repeated i bytes) bytes (repeated (c.args.count - (i + 1)) bytes) front.0 _ _ _ (repeated_cut i c.args.count bytes c.loop-i-test.true) front.1
    c.loop-i.invariant.made front.2

pub loop-i-preserved : goal.loop-i-preserved
loop-i-preserved g c =
    let bytes = c.args.bytes.now in
    let i = c.loop-i.i in
    let before = g.O.Output.made c.args.obj.now in record {
      made = c.in_ok-write_bytes.ensures.ok ∙ ap (option_map (after_write bytes)) c.loop-i.invariant.made ∙ sym (written-append (repeated i bytes) bytes before)
          ∙ ap (λ (xs : List ℕ). option_map (after_write xs) before) (sym (repeated_more i bytes));
      faults = grind (arith, common_steps);
    }
