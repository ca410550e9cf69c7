-- Functions with their frame tables, in the bytes of their sections.
use Rattle.std.proofs.Common.{◌≡◌, ℕ, Bool, List, [], ◌∷◌, ◌++◌, All, map, length, Option, None, Some, Ok, refl, sym, ap, subst, ◌∙◌}
use Rattle.std.proofs.lemmas.List.{length-map}
use Rattle.std.specs.Prelude.{slice_get, unwrap_or, IsSomeAnd}
use Rattle.std.specs.Option.{option_map_or}
use Rattle.asm_base.specs.declared.places.Place.{Place}
use Rattle.asm_lines.specs.NextStatements.{TokenStatement}
use Rattle.asm_symbols.specs.SymbolMap.{SymbolMap}
use Rattle.asm_frags.specs.declared.fields.Field.{Field}
use Rattle.asm_relax.specs.Settling.{LaidSections}
use Rattle.cfi_directives.specs.declared.frames.Frame.{Frame}
use Rattle.cfi_directives.specs.Order.{NeverFall}
use Rattle.code_functions.specs.declared.items.CodeItem.{CodeItem}
use Rattle.code_functions.specs.Recorded.{Recorded}
use Rattle.code_functions.specs.Seen.{seen, mapped}
use Rattle.flow_graph.specs.declared.nodes.Node.{Node}
use Rattle.flow_graph.specs.Nodes.{node_of, nodes_of}
use Rattle.flow_graph.specs.Rules.{AreItems}
use Rattle.flow_graph.specs.Walks.{IsInside}
use Rattle.asm_functions.specs.Following.{end_of}
use Rattle.asm_functions.specs.FollowedSource.{FollowedSource, nothing_followed, follow_all, functions_at_end}
use Rattle.asm_functions.specs.Joined.{AreJoined, IsJoined}
use Rattle.scfi_pass.specs.declared.item_ops.ItemOp.{ItemOp}
use Rattle.scfi_pass.specs.Tables.{Analyzed}
use Rattle.synthesis_laws.specs.TableFrames.{place_of, ItemsStand}
use Rattle.scfi_laws.specs.Laid.{Kind, IsLaid}
use Rattle.scfi_laws.specs.Functions.{IsFunction}
use Rattle.scfi_laws.specs.TableLaws.{StandsWith, IsTabled, TablesRecover, TablesRestore}
use Rattle.code_laws.specs.Functions.{laid_place, JumpsAreLaid, FunctionsAreLaid}
use Rattle.code_laws.specs.Numbers.{NumbersAreKnown}
use Rattle.function_laws.specs.Tabled.{laid_address, starts_of, fields_of, IsLoadedFunction, IsSynthesized, FunctionsAreTabled}
use Rattle.function_laws.specs.Recovered.{FunctionTablesRecover}
use Rattle.function_laws.specs.Jumping.{FunctionJumpsAreLaid}
use Rattle.function_laws.proofs.Elements.{All-there, number_there, after_last}
use Rattle.function_laws.proofs.Ended.{all_ended}
use Rattle.function_laws.proofs.Rising.{Steps, place_up, joined_up, begins_there}

pub record Facts : Type 0 where
  pub joined : (statements : List TokenStatement) (no_warn asked : Bool) (f : FollowedSource) → follow_all statements (nothing_followed no_warn asked) ≡ Ok f
      → All (IsJoined statements (nothing_followed no_warn asked) f.placed.sections) (functions_at_end f)
  pub steps : Steps
  pub laid : FunctionsAreLaid
  pub numbers : NumbersAreKnown
  pub jumps : FunctionJumpsAreLaid
  pub inside : (symbols : SymbolMap) (section : ℕ) (fields : List Field) (items : List CodeItem) → AreItems symbols section fields items

nodes_long : (symbols : SymbolMap) (section : ℕ) (fields : List Field) (items : List CodeItem) → length (nodes_of symbols section fields items) ≡ length items
unfolding nodes_of
nodes_long symbols section fields items = length-map items (node_of symbols section fields items)

-- the place of what is there, whatever it would be else
some_place : (found : Option CodeItem) (one other : Place) (item : CodeItem) → found ≡ Some item
    → option_map_or (λ (x : CodeItem). x.place) found one ≡ option_map_or (λ (x : CodeItem). x.place) found other
some_place None one other item is = absurd (cc)
some_place (Some x) one other item is = refl

module _ (facts : Facts) (statements : List TokenStatement) (no_warn asked : Bool) (whole : FollowedSource) (number : ℕ) (symbols : SymbolMap) (laid : LaidSections) (code : List ℕ)
    (f : Recorded CodeItem) (a : Analyzed) (ops : List ItemOp) (frame : Frame) (is : IsLoadedFunction statements no_warn asked whole number symbols laid code f)
    (made : IsSynthesized whole.placed.table.symbols whole.placed.sections f a ops frame) where
  abbrev first : FollowedSource
  first = nothing_followed no_warn asked

  abbrev source : SymbolMap
  source = whole.placed.table.symbols

  abbrev fields : List Field
  fields = fields_of whole.placed.sections f.section

  abbrev stop : Place
  stop = unwrap_or f.stop f.start

  ended : (place : Place) × (f.stop ≡ Some place)
  ended = all_ended (end_of whole.placed.sections) whole.functions number (mapped seen f) is.there

  stop_is : (other : Place) → unwrap_or f.stop other ≡ ended.0
  stop_is other = ap (λ o. unwrap_or o other) ended.1

  joined : AreJoined statements first f.section (map seen f.items) f.start stop
  joined =
      subst (AreJoined statements first f.section (map seen f.items) f.start) (stop_is (end_of whole.placed.sections f.section) ∙ sym (stop_is f.start))
      (All-there (IsJoined statements first whole.placed.sections) (functions_at_end whole) number (mapped seen f) is.there (facts.joined statements no_warn asked whole is.is))

  lies : (kinds : ℕ → Kind) × IsLaid a kinds (starts_of laid f) code
  lies =
      let same = ap (λ (items : List CodeItem). λ (i : ℕ). laid_place laid f.section (option_map_or (λ (x : CodeItem). x.place) (slice_get items i) stop)) made.same_items in
      subst (λ (starts : ℕ → ℕ). (kinds : ℕ → Kind) × IsLaid a kinds starts code) same
      (facts.laid source symbols laid statements no_warn asked whole a f.section fields f.start stop code is.is
      (subst (λ (items : List CodeItem). AreJoined statements first f.section (map seen items) f.start stop) (sym made.same_items) joined)
      made.same_nodes is.loaded (facts.numbers statements no_warn asked is.spelled)
      (subst (λ (starts : ℕ → ℕ). JumpsAreLaid laid f.section statements first a starts code) (sym same)
      (facts.jumps statements no_warn asked whole number symbols laid code f a is.is is.there is.loaded is.resolved made.same_items made.same_nodes)))

  function : IsFunction a
  function = record {
    analyzed = made.analyzed;
    as_many = ap (λ (ns : List Node). length ns) made.same_nodes ∙ nodes_long source f.section fields a.items;
    inside = subst IsInside (sym made.same_nodes) (facts.inside source f.section fields a.items).inside;
  }

  items_stand : ItemsStand f
  items_stand =
      subst (λ (o : Option Place). IsSomeAnd o (λ place. NeverFall (f.start ∷ (map (λ (item : CodeItem). item.place) f.items ++ place ∷ [])))) (sym ended.1)
      (subst (λ (place : Place). NeverFall (f.start ∷ (map (λ (item : CodeItem). item.place) f.items ++ place ∷ []))) (stop_is f.start)
      (joined_up facts.steps statements no_warn asked f.section f.items f.start stop joined))

  stands : StandsWith f frame (laid_address laid) (starts_of laid f)
  stands = record {
    begins = ap (λ n. laid_place laid n frame.start) made.section
        ∙ ap (laid_place laid f.section) (made.frame_of.0 ∙ sym (begins_there facts.steps statements no_warn asked f.section f.items f.start stop joined));
    items = λ i few.
        let at = number_there f.items i few in
        ap (λ n. laid_place laid n (place_of f i)) made.section ∙ ap (laid_place laid f.section) (some_place (slice_get f.items i) f.start stop at.0 at.1);
    ends = ap (λ n. laid_place laid n (unwrap_or frame.stop frame.start)) made.section
        ∙ ap (laid_place laid f.section)
        (ap (λ o. unwrap_or o frame.start) made.frame_of.1 ∙ stop_is frame.start ∙ sym (stop_is f.start)
        ∙ ap (λ o. option_map_or (λ (x : CodeItem). x.place) o stop) (sym (after_last f.items)));
  }

  tabled : (kinds : ℕ → Kind) × IsTabled f a ops frame (laid_address laid) kinds (starts_of laid f) code
  tabled = (
    lies.0,
    record {
      function = function;
      same_items = made.same_items;
      old = made.old;
      new = made.new;
      table = made.table;
      in_order = items_stand;
      frame_of = made.frame_of;
      keeps_order = λ one other up. place_up laid frame.section one other up;
      stands = stands;
      laid = lies.1;
    },
  )

pub functions_are_tabled : Facts → FunctionsAreTabled
functions_are_tabled facts statements no_warn asked whole number symbols laid code f a ops frame is made =
    tabled facts statements no_warn asked whole number symbols laid code f a ops frame is made

pub tables_recover : FunctionsAreTabled → TablesRecover → TablesRestore → FunctionTablesRecover
tables_recover tabled_so recover restore statements no_warn asked whole number symbols laid code f a ops frame is made =
    let t = tabled_so statements no_warn asked whole number symbols laid code f a ops frame is made in
    record {
      kinds = t.0;
      lies = t.1.laid;
      recovers = λ start earlier now entry kept. recover f a ops frame (laid_address laid) t.0 (starts_of laid f) code start earlier now t.1 entry kept;
      restores = λ start earlier now i node entry kept. restore f a ops frame (laid_address laid) t.0 (starts_of laid f) code start earlier now t.1 entry kept i node;
    }
