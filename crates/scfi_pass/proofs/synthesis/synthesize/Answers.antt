use Rattle.std.proofs.Common.{◌≡◌, ℕ, List, length, sym, ap, ◌∙◌}
use Rattle.std.proofs.lemmas.List.{length-map}
use Rattle.asm_symbols.specs.SymbolMap.{SymbolMap}
use Rattle.asm_frags.specs.declared.fields.Field.{Field}
use Rattle.code_functions.specs.declared.items.CodeItem.{CodeItem}
use Rattle.flow_graph.specs.Nodes.{nodes_of}
use Rattle.scfi_pass.proofs.synthesis.synthesize.Goals as goal

-- a graph has a node for each item
as_many : (symbols : SymbolMap) (section : ℕ) (fields : List Field) (items : List CodeItem) → length items ≡ length (nodes_of symbols section fields items)
unfolding nodes_of
as_many symbols section fields items = simp length-map

pub analyze-requires : goal.analyze-requires
analyze-requires g c =
    as_many c.args.forms.now.symbols.now c.args.function.now.section c.args.forms.now.fields.now c.args.function.now.items.now ∙ ap length (sym c.in_ok-graph.ensures)
