-- Step by step along the chain.
use Rattle.std.proofs.Common.{Some, sym, ap, ◌∙◌, option_map}
use Rattle.elf_symbols.specs.Aliases.{symbol_size}
use Rattle.elf_symbols.proofs.AliasLemmas.{along_step, along_found, along_end, along_done}
use Rattle.elf_symbols.proofs.aliases.symbol_size.Goals as goal

pub returns-in_default-symbol_at : goal.returns-in_default-symbol_at
returns-in_default-symbol_at c =
    along_end (λ s. s.size) c.args.symbols.now (symbol_size c.args.symbols.now c.args.symbol.now) c.loop-left.left c.loop-left.next
    c.loop-left-test.true (sym c.symbol_at.ensures ∙ ap (option_map (λ s. s.now)) c.in_default-symbol_at.is) c.loop-left.invariant

pub returns-in-Some-size : goal.returns-in-Some-size
returns-in-Some-size c =
    ap Some c.as_form-in-Some-size.ensures
    ∙ along_found (λ s. s.size) c.args.symbols.now (symbol_size c.args.symbols.now c.args.symbol.now) c.loop-left.left c.loop-left.next
    c.in-Some-symbol_at.found.now _ c.loop-left-test.true (sym c.symbol_at.ensures ∙ ap (option_map (λ s. s.now)) c.in-Some-symbol_at.is) c.in-Some-size.is c.loop-left.invariant

pub loop-left-preserved : goal.loop-left-preserved
loop-left-preserved c =
    along_step (λ s. s.size) c.args.symbols.now (symbol_size c.args.symbols.now c.args.symbol.now) c.loop-left.left c.loop-left.next
    c.alias_of-next-in-loop-left.result c.in-Some-symbol_at.found.now c.loop-left-test.true (sym c.symbol_at.ensures ∙ ap (option_map (λ s. s.now)) c.in-Some-symbol_at.is)
    c.in_default-size.is c.alias_of-next-in-loop-left.ensures c.loop-left.invariant

pub returns : goal.returns
returns c =
    along_done (λ s. s.size) c.args.symbols.now (symbol_size c.args.symbols.now c.args.symbol.now) c.loop-left.left c.loop-left.next
    c.loop-left-test.false c.loop-left.invariant
