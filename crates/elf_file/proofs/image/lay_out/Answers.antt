-- A section more is laid out.
use Rattle.std.proofs.Common.{rules}
use Rattle.elf_file.proofs.LayingLemmas.{laid_step, numbers_step, numbers_end}
use Rattle.elf_file.proofs.image.lay_out.Goals as goal

pub loop-section-preserved : goal.loop-section-preserved
loop-section-preserved c =
    let more = laid_step c.args.names.now c.loop-section.index c.loop-section.laid.end c.put.new.self.end _ _ _ _ _ _ _ c.in-Some.section c.loop-section.section-iterator.rest.items c.next.new.self.rest.items
    (search rules) (search rules) c.loop-section.invariant.ends c.in_ok-put.ensures.ends c.in_ok-put.ensures.pieces c.in_ok-put.ensures.headers c.loop-section.invariant.pieces c.loop-section.invariant.headers in
    record {
      count = search rules;
      ends = c.in_ok-put.ensures.ends;
      pieces = more.0;
      headers = more.1;
      numbers = numbers_step c.in-Some.section c.loop-section.section-iterator.rest.items c.next.new.self.rest.items _ (search rules) c.in_ok-put.ensures.numbers
          c.loop-section.invariant.numbers;
    }

pub returns-clause-numbers : goal.returns-clause-numbers
returns-clause-numbers c = numbers_end c.loop-section.section-iterator.rest.items _ (search rules) c.loop-section.invariant.numbers
