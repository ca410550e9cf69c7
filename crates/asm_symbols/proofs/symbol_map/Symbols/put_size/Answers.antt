-- The symbol that is written keeps its name and form, and stays a label if it is one.
use Rattle.std.proofs.Common.{refl}
use Rattle.asm_symbols.specs.Attributes.{with_size}
use Rattle.asm_symbols.proofs.ForwardLemmas.{forward_kept}
use Rattle.asm_symbols.proofs.WriteLemmas.{written_size, written_sound}
use Rattle.asm_symbols.proofs.symbol_map.Symbols.put_size.Goals as goal

pub invariant_of-self : goal.invariant_of-self
invariant_of-self c =
    let there = rw (← c.self.view_is, ← c.index.ensures) at c.requires in
    rw c.set_size.ensures
    (written_sound (with_size c.args.size c.in-Some.number) c.self.inside.symbols.items c.index.result c.index_mut.result.now there c.index_mut.ensures.value (λ _. refl) (λ _ _ is. is)
    (forward_kept (with_size c.args.size c.in-Some.number) c.self.inside.symbols.items c.index.result (λ _ _. refl))
    c.self.inside.index c.self.inside.files.items c.self.inside.counts.entries c.self.inside.bytes c.self.invariant)

pub returns-clause-value : goal.returns-clause-value
returns-clause-value c =
    let there = rw (← c.self.view_is, ← c.index.ensures) at c.requires in
    let made = written_size c.args.size c.self.inside.symbols.items c.index.result c.index_mut.result.now there c.index_mut.ensures.value
    c.self.inside.files.items c.self.inside.counts.entries c.self.inside.sizes c.in-Some.number c.in-Some.ensures.1 in
    rw (← c.self.view_is, ← c.index.ensures, c.set_size.ensures, made)
