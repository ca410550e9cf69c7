-- Step by step along the chain.
use Rattle.std.proofs.Common.{sym, ap, ◌∙◌, option_map}
use Rattle.elf_symbols.specs.Aliases.{symbol_kind}
use Rattle.elf_symbols.proofs.AliasLemmas.{along_step, along_found, along_end, along_done}
use Rattle.elf_symbols.proofs.aliases.symbol_kind.Goals as goal

pub returns-in_default-symbol_at : goal.returns-in_default-symbol_at
returns-in_default-symbol_at c =
    along_end (λ s. s.kind) c.args.symbols.now (symbol_kind c.args.symbols.now c.args.symbol.now) c.loop-left.left c.loop-left.next
    c.loop-left-test.true (sym c.symbol_at.ensures ∙ ap (option_map (λ s. s.now)) c.in_default-symbol_at.is) c.loop-left.invariant

pub returns-in-Some-kind : goal.returns-in-Some-kind
returns-in-Some-kind c =
    along_found (λ s. s.kind) c.args.symbols.now (symbol_kind c.args.symbols.now c.args.symbol.now) c.loop-left.left c.loop-left.next
    c.in-Some-symbol_at.found.now _ c.loop-left-test.true (sym c.symbol_at.ensures ∙ ap (option_map (λ s. s.now)) c.in-Some-symbol_at.is) c.in-Some-kind.is c.loop-left.invariant

pub loop-left-preserved : goal.loop-left-preserved
loop-left-preserved c =
    along_step (λ s. s.kind) c.args.symbols.now (symbol_kind c.args.symbols.now c.args.symbol.now) c.loop-left.left c.loop-left.next
    c.alias_of-next-in-loop-left.result c.in-Some-symbol_at.found.now c.loop-left-test.true (sym c.symbol_at.ensures ∙ ap (option_map (λ s. s.now)) c.in-Some-symbol_at.is)
    c.in_default-kind.is c.alias_of-next-in-loop-left.ensures c.loop-left.invariant

pub returns : goal.returns
returns c =
    along_done (λ s. s.kind) c.args.symbols.now (symbol_kind c.args.symbols.now c.args.symbol.now) c.loop-left.left c.loop-left.next
    c.loop-left-test.false c.loop-left.invariant
