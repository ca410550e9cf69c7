-- The symbol is written, and the count of its name raised.
use Rattle.std.proofs.Common.{◌≡◌, ◌∙◌, Ok, sym}
use Rattle.asm_base.specs.declared.refusals.Refusal.{Refusal}
use Rattle.asm_base.specs.declared.causes.SymCause.{SymCause}
use Rattle.asm_symbols.specs.Defining.{redefined}
use Rattle.asm_symbols.proofs.DefineLemmas.{there_before, define_sound, define_gives}
use Rattle.asm_symbols.proofs.symbol_map.Symbols.define.Goals as goal

pub invariant_of-self-2 : goal.invariant_of-self-2
invariant_of-self-2 c =
    let there = rw (← c.self.view_is, ← c.index-at.ensures) at c.requires in
    let is : redefined c.index.result.now.meaning c.args.what ≡ Ok c.in_ok-made.made = sym c.redefined.ensures ∙ there_before (Refusal SymCause) c.redefined.result c.in_ok-made.made c.in_ok-made.ensures.cases in
    define_sound c.self.inside.symbols.items c.index-at.result c.index.result.now c.index-2.result.now c.index_mut-symbol.result.now there c.index.ensures c.index-2.ensures c.index_mut-symbol.ensures.value
    c.args.what c.in_ok-made.made is c.self.inside.files.items c.self.inside.sizes c.self.inside.counts.entries c.raise.new.counts.entries c.in_ok-raise.ensures.ok
    c.self.inside.index c.self.inside.bytes c.self.invariant

pub returns-clause-value : goal.returns-clause-value
returns-clause-value c =
    let there = rw (← c.self.view_is, ← c.index-at.ensures) at c.requires in
    let is : redefined c.index.result.now.meaning c.args.what ≡ Ok c.in_ok-made.made = sym c.redefined.ensures ∙ there_before (Refusal SymCause) c.redefined.result c.in_ok-made.made c.in_ok-made.ensures.cases in
    rw (← c.self.view_is, ← c.index-at.ensures)
    (define_gives c.self.inside.symbols.items c.index-at.result c.index.result.now c.index-2.result.now c.index_mut-symbol.result.now there c.index.ensures c.index-2.ensures c.index_mut-symbol.ensures.value
    c.args.what c.in_ok-made.made is c.self.inside.files.items c.self.inside.sizes c.self.inside.counts.entries c.raise.new.counts.entries c.in_ok-raise.ensures.ok)
