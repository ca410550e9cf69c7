-- Nodes of items that look alike.
use Rattle.std.proofs.Common.{◌≡◌, ℕ, ◌==◌, Bool, if◌then◌else◌, Option, Some, None, List, [], ◌∷◌, map, slice_get, refl, sym, ap, ◌∙◌}
use Rattle.std.specs.Option.{option_and_then, option_map_or}
use Rattle.std.proofs.Math.Path.{fun_ext}
use Rattle.asm_base.specs.declared.places.Place.{Place}
use Rattle.asm_frags.specs.declared.fields.Field.{Field}
use Rattle.asm_symbols.specs.declared.entries.Meaning.{Meaning}
use Rattle.asm_symbols.specs.declared.entries.Meaning.TheVariants as meaning
use Rattle.asm_symbols.specs.SymbolMap.{SymbolMap}
use Rattle.assigned_forms.specs.Expanding.{expanded}
use Rattle.code_functions.specs.declared.items.CodeItem.{CodeItem}
use Rattle.flow_graph.specs.declared.nodes.Node.{Node}
use Rattle.flow_graph.specs.declared.targets.Target.{Target}
use Rattle.flow_graph.specs.declared.targets.Target.TheVariants.{Outside, Unknown}
use Rattle.flow_graph.specs.Targets.{same_place, later_of, item_at, lone_symbol, is_preemptible, label_target, meaning_target, symbol_target, field_target}
use Rattle.flow_graph.specs.Nodes.{node_by, nodes_of}
use Rattle.synthesis_laws.specs.Sights.{Sight, sight_of, LookAlike, NodesAreSeen}

-- the number of the last that begins at a place, by what is seen
seen_at : List Sight → Place → Option ℕ
seen_at [] place = None
seen_at (seen ∷ more) place = later_of (same_place seen.place place) (seen_at more place)

-- so it is of the items
at_seen : (items : List CodeItem) (place : Place) → item_at items place ≡ seen_at (map sight_of items) place
unfolding seen_at
at_seen [] place = refl
at_seen (item ∷ items) place = ap (later_of (same_place item.place place)) (at_seen items place)

-- the node of what is seen, by what the fields lead to
seen_node : (Field → Target) → List Field → Sight → Node
seen_node leads fields seen = node_by seen.flow (option_map_or leads (option_and_then (slice_get fields) seen.field) Unknown)

-- the nodes of items, by what the fields lead to
nodes_seen : (leads : Field → Target) (fields : List Field) (items : List CodeItem)
    → map (λ item. seen_node leads fields (sight_of item)) items ≡ map (seen_node leads fields) (map sight_of items)
nodes_seen leads fields [] = refl
nodes_seen leads fields (item ∷ items) = ap (λ rest. seen_node leads fields (sight_of item) ∷ rest) (nodes_seen leads fields items)

module _ (one other : List CodeItem) (alike : LookAlike one other) where
  -- the last item that begins at a place
  same_at : (place : Place) → item_at one place ≡ item_at other place
  same_at place = at_seen one place ∙ ap (λ seen. seen_at seen place) alike ∙ sym (at_seen other place)

  -- what a symbol of a meaning leads to
  same_meaning : (section : ℕ) (preemptible : Bool) (what : Meaning) → meaning_target section one preemptible what ≡ meaning_target section other preemptible what
  same_meaning section preemptible meaning.Undefined = refl
  same_meaning section preemptible (meaning.Label spot) =
      ap (λ found. if spot.place.section == section then label_target preemptible found else Outside) (same_at spot.place.place)
  same_meaning section preemptible (meaning.Common size align) = refl
  same_meaning section preemptible (meaning.Space spot) = refl
  same_meaning section preemptible (meaning.Assigned form) = refl

  -- what a symbol leads to
  same_symbol : (symbols : SymbolMap) (section : ℕ) (preemptible : Bool) (found : Option ℕ)
      → symbol_target symbols section one preemptible found ≡ symbol_target symbols section other preemptible found
  same_symbol symbols section preemptible None = refl
  same_symbol symbols section preemptible (Some index) =
      ap (λ leads. option_map_or (λ symbol. leads symbol.meaning) (slice_get symbols.symbols index) Unknown) (fun_ext (same_meaning section preemptible))

  -- what fields lead to
  same_field : (symbols : SymbolMap) (section : ℕ) → field_target symbols section one ≡ field_target symbols section other
  unfolding field_target
  same_field symbols section = fun_ext (λ field. same_symbol symbols section (is_preemptible symbols field) (lone_symbol (expanded symbols field.form)))

  -- the nodes
  same_nodes : (symbols : SymbolMap) (section : ℕ) (fields : List Field) → nodes_of symbols section fields one ≡ nodes_of symbols section fields other
  unfolding nodes_of seen_node
  same_nodes symbols section fields =
      nodes_seen (field_target symbols section one) fields one
      ∙ ap (map (seen_node (field_target symbols section one) fields)) alike
      ∙ sym (nodes_seen (field_target symbols section one) fields other)
      ∙ ap (λ leads. map (λ item. seen_node leads fields (sight_of item)) other) (same_field symbols section)

-- nodes of items that look alike
pub nodes_are_seen : NodesAreSeen
nodes_are_seen one other symbols section fields alike = same_nodes one other alike symbols section fields
