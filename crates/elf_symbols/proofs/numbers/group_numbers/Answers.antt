-- One more number.
use Rattle.std.proofs.Common.{◌+◌, ◌≤◌, ap, ◌∙◌, arith}
use Rattle.elf_symbols.specs.SymbolTable.{is_signature_listed}
use Rattle.asm_frags.specs.Groups.{groups_of}
use Rattle.elf_symbols.specs.Numbers.{number_if, next_if}
use Rattle.elf_symbols.proofs.LoopSteps.{number_put}
use Rattle.elf_symbols.proofs.numbers.group_numbers.Goals as goal

pub loop-index-preserved : goal.loop-index-preserved
loop-index-preserved c =
    let below = c.loop-index.invariant.below in
    let within = c.next_if-next.ensures.within in
    record {
      below = omega (arith, below, within);
      left = number_put c.args.at.symbols.now c.args.standings.now c.args.numbers.now c.loop-index.next c.next_if-next.result c.number_if.result (groups_of c.args.at.sections.now) c.loop-index.index
          c.group.result.0.now c.group.result.1 c.loop-index.made.items c.push.new.self.items _ c.group.ensures
          (c.number_if.ensures ∙ ap (λ listed. number_if listed c.signature_number-own.result c.loop-index.next) c.is_signature_listed-listed.ensures
          ∙ ap (λ own. number_if (is_signature_listed c.args.at.symbols.now c.args.standings.now c.group.result.0.now) own c.loop-index.next) c.signature_number-own.ensures)
          (c.next_if-next.ensures.value ∙ ap (λ listed. next_if listed c.loop-index.next) c.is_signature_listed-listed.ensures) c.in_ok-push.ensures.items c.loop-index.invariant.left;
    }
