-- The symbol that is written keeps its name, is no label, and the form does not lead back to it.
use Rattle.std.proofs.Common.{refl}
use Rattle.asm_symbols.specs.declared.entries.Meaning.TheVariants.{Assigned}
use Rattle.asm_symbols.specs.SymbolMap.{with_meaning}
use Rattle.asm_symbols.proofs.ForwardLemmas.{forward_written}
use Rattle.asm_symbols.proofs.WriteLemmas.{written, written_sound, keeps_none}
use Rattle.asm_symbols.proofs.symbol_map.Symbols.put_form.Goals as goal

pub invariant_of-self : goal.invariant_of-self
invariant_of-self c =
    let there = rw (← c.self.view_is, ← c.index.ensures) at c.requires.there in
    let plain = rw (← c.self.view_is, ← c.index.ensures) at c.requires.plain in
    let forward = rw (← c.self.view_is, ← c.index.ensures) at c.requires.forward in
    written_sound (with_meaning (Assigned c.args.form)) c.self.inside.symbols.items c.index.result c.index_mut-symbol.result.now there c.index_mut-symbol.ensures.value (λ _. refl)
    (keeps_none (with_meaning (Assigned c.args.form)) c.self.inside.symbols.items c.index.result plain)
    (forward_written c.self.inside.symbols.items c.index.result c.args.form forward)
    c.self.inside.index c.self.inside.files.items c.self.inside.counts.entries c.self.inside.bytes c.self.invariant

pub returns-clause-value : goal.returns-clause-value
returns-clause-value c =
    let there = rw (← c.self.view_is, ← c.index.ensures) at c.requires.there in
    let made = written (with_meaning (Assigned c.args.form)) c.self.inside.symbols.items c.index.result c.index_mut-symbol.result.now there c.index_mut-symbol.ensures.value c.self.inside.files.items c.self.inside.counts.entries c.self.inside.sizes in
    rw (← c.self.view_is, ← c.index.ensures, made)
