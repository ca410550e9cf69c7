-- The direct jumps of the functions of a source are laid as their items.
use Rattle.std.proofs.Common.{◌≡◌, ℕ, ◌+◌, ◌≤◌, ◌^◌, Bool, List, [], ◌∷◌, length, map, Some, Ok, refl, sym, ap, subst, ◌∙◌}
use Rattle.std.specs.Prelude.{option_map, slice_get}
use Rattle.std.proofs.lemmas.Option.{same_Some, slice_get-map}
use Rattle.asm_base.specs.declared.places.Place.{Place}
use Rattle.asm_lines.specs.NextStatements.{TokenStatement}
use Rattle.asm_symbols.specs.SymbolMap.{SymbolMap}
use Rattle.asm_frags.specs.declared.fields.Field.{Field}
use Rattle.asm_frags.specs.Writing.{LooseSection}
use Rattle.asm_relax.specs.Settling.{LaidSections}
use Rattle.insn_effects.specs.Flows.{jumps}
use Rattle.insn_effects.specs.Followed.{flow_by}
use Rattle.asm_values.specs.State.{Placed, nothing_placed}
use Rattle.asm_place.specs.Bodies.{front, back}
use Rattle.asm_place.specs.Sources.{place_all}
use Rattle.code_functions.specs.declared.items.CodeItem.{CodeItem}
use Rattle.code_functions.specs.Recorded.{Recorded}
use Rattle.code_functions.specs.Seen.{seen, mapped}
use Rattle.flow_graph.specs.AddedLabels.{FormsAreThere}
use Rattle.flow_graph.specs.declared.nodes.Node.{Node}
use Rattle.flow_graph.specs.Nodes.{node_of, nodes_of}
use Rattle.asm_functions.specs.Following.{end_of}
use Rattle.asm_functions.specs.FollowedSource.{FollowedSource, nothing_followed, follow_all, functions_at_end, placed_part}
use Rattle.asm_functions.specs.Joined.{IsPutBy}
use Rattle.scfi_pass.specs.Tables.{Analyzed}
use Rattle.form_laws.specs.Forms.{FormsBeginThere, FormsStayThere}
use Rattle.scfi_laws.specs.Laid.{Kind, size, ReadsItem}
use Rattle.place_laws.specs.Ends.{place_in}
use Rattle.code_laws.specs.Sections.{IsLoadedLater, IsLaidBetween}
use Rattle.code_laws.specs.Functions.{laid_place, EndsArePlaces, IsLaidAt, IsPlacedBehind, ItemsArePlaced}
use Rattle.code_laws.specs.Jumps.{IsJumpWritten, JumpsAreWritten}
use Rattle.target_laws.specs.Jumps.{AreStarts}
use Rattle.function_laws.specs.Tabled.{starts_of, fields_of, IsResolved}
use Rattle.function_laws.specs.Addresses.{StartsAreAddresses}
use Rattle.function_laws.specs.Jumping.{FunctionJumpsAreLaid}
use Rattle.function_laws.proofs.JumpPuts.{Facts as PutFacts, statement_laid}
use Rattle.function_laws.proofs.Rising.{one_placed}

-- what is known of sources, and of the statements that put jumps
pub record Facts : Type 0 where
  pub starts : StartsAreAddresses
  pub following : (statements : List TokenStatement) (before f : FollowedSource) → follow_all statements before ≡ Ok f
      → place_all (map (placed_part before.asked) statements) before.placed ≡ Ok f.placed
  pub few : (statements : List TokenStatement) (no_warn : Bool) (placed : Placed) → place_all statements (nothing_placed no_warn) ≡ Ok placed
      → length placed.table.symbols.symbols ≤ 2 ^ 24
  pub placed : ItemsArePlaced
  pub ends : EndsArePlaces
  pub written : JumpsAreWritten
  pub forms_begin : FormsBeginThere
  pub forms_stay : FormsStayThere
  pub puts : PutFacts

module _ (facts : Facts) (statements : List TokenStatement) (no_warn asked : Bool) (whole : FollowedSource) (number : ℕ) (symbols : SymbolMap) (laid : LaidSections) (code : List ℕ)
    (f : Recorded CodeItem) (a : Analyzed) (is : follow_all statements (nothing_followed no_warn asked) ≡ Ok whole)
    (there : slice_get (functions_at_end whole) number ≡ Some (mapped seen f)) (l : IsLoadedLater symbols laid f.section whole.placed.sections code)
    (resolved : IsResolved whole.placed.table.symbols symbols l.later laid) (same_items : a.items ≡ f.items)
    (same_nodes : a.nodes ≡ nodes_of whole.placed.table.symbols f.section (fields_of whole.placed.sections f.section) a.items) where
  abbrev first : FollowedSource
  first = nothing_followed no_warn asked

  abbrev starts : ℕ → ℕ
  starts = starts_of laid f

  abbrev fields : List Field
  fields = fields_of whole.placed.sections f.section

  abbrev source : SymbolMap
  source = whole.placed.table.symbols

  few : length whole.placed.table.symbols.symbols ≤ 2 ^ 24
  few = facts.few (map (placed_part asked) statements) no_warn whole.placed (facts.following statements first whole is)

  begin : AreStarts laid f.section a.items starts
  begin index item at =
      facts.starts statements no_warn asked whole number symbols laid code f index item is there l (ap (λ (items : List CodeItem). slice_get items index) (sym same_items) ∙ at)

  module _ (i : ℕ) (item : CodeItem) (node : Node) (falls : Bool) (from to : Place) (item_there : slice_get a.items i ≡ Some item) (node_there : slice_get a.nodes i ≡ Some node)
      (goes : flow_by item.effect.role ≡ jumps falls) (put : IsPutBy statements first f.section (seen item) from to) where
    node_is : node ≡ node_of source f.section fields a.items item
    unfolding nodes_of
    node_is =
        let own = node_of source f.section fields a.items in
        same_Some node (own item)
        (sym node_there ∙ ap (λ (nodes : List Node). slice_get nodes i) same_nodes ∙ slice_get-map own a.items i ∙ ap (option_map own) item_there)

    -- what is so of the section of this number
    record IsAt (n : ℕ) : Type 0 where
      loaded : IsLoadedLater symbols laid n whole.placed.sections code
      known : IsResolved source symbols loaded.later laid
      begins : AreStarts laid n a.items starts
      own_node : node ≡ node_of source n fields a.items item
      own_fields : fields ≡ fields_of whole.placed.sections n

    at_own : IsAt f.section
    at_own = record { loaded = l; known = resolved; begins = begin; own_node = node_is; own_fields = refl }

    behind : IsPlacedBehind put.statement put.before.placed put.labels put.after.placed whole.placed
    behind = facts.placed statements no_warn asked whole f.section (seen item) from to is put

    abbrev labels : Placed
    labels = put.labels

    abbrev after : Placed
    after = put.after.placed

    -- behind the labels the forms of assigned symbols name symbols that are there
    forms_there : FormsAreThere labels.table.symbols
    forms_there =
        let before = put.before.placed in
        facts.forms_stay (front put.statement ∷ []) before labels (one_placed (front put.statement) before labels put.labels_are)
        (facts.forms_stay (map (placed_part asked) put.earlier) (nothing_placed no_warn) before (facts.following put.earlier first put.before put.before_is) (facts.forms_begin no_warn))

    written : IsJumpWritten (back put.statement) labels after f.section item
    written = facts.written (back put.statement) labels after f.section item falls behind.bare behind.placed put.put goes

    abbrev LaidIn : ℕ → Type 0
    LaidIn n = (kind : Kind) × IsLaidBetween laid n labels.sections after.sections starts code kind item node

    -- the statement puts into the section that is current
    laid_current : LaidIn labels.current
    laid_current =
        let at = subst IsAt (sym written.current) at_own in
        statement_laid facts.puts symbols laid (back put.statement) behind.later labels after whole.placed code fields a.items item node starts falls f.section
        behind.bare behind.placed behind.tokens behind.rest behind.within behind.stand behind.grows few at.loaded at.known forms_there at.begins at.own_node at.own_fields written goes

    from_is : place_in laid f.section labels.sections ≡ laid_place laid f.section from
    from_is =
        facts.ends laid f.section labels.sections ∙ ap (λ (sections : List LooseSection). laid_place laid f.section (end_of sections f.section)) behind.same
        ∙ ap (laid_place laid f.section) (sym put.start)

    to_is : place_in laid f.section after.sections ≡ laid_place laid f.section to
    to_is = facts.ends laid f.section after.sections ∙ ap (laid_place laid f.section) (sym put.stop)

    jump_laid : (kind : Kind) × IsLaidAt laid f.section starts code item node from to kind
    jump_laid =
        let got = subst LaidIn written.current laid_current in (
          got.0,
          record {
            placed = sym to_is ∙ got.1.placed ∙ ap (λ n. n + size got.0) from_is;
            fits = got.1.fits;
            reads_back = subst (λ n. ReadsItem starts code n got.0 item node) from_is got.1.reads_back;
          },
        )

pub function_jumps_are_laid : Facts → FunctionJumpsAreLaid
function_jumps_are_laid facts statements no_warn asked whole number symbols laid code f a is there l resolved same_items same_nodes i item node falls from to item_there node_there goes put =
    jump_laid facts statements no_warn asked whole number symbols laid code f a is there l resolved same_items same_nodes i item node falls from to item_there node_there goes put
