-- Functions whose items are put by statements lie in what is loaded.
use Rattle.std.proofs.Common.{◌≡◌, ℕ, zero, suc, ◌+◌, ◌<◌, Bool, List, [], ◌∷◌, Some, Ok, map, length, refl, sym, ap, subst, ◌∙◌, arith}
use Rattle.std.specs.Prelude.{option_map, slice_get}
use Rattle.std.proofs.lemmas.Option.{none-some, same_Some, slice_get-map}
use Rattle.asm_base.specs.declared.places.Place.{Place}
use Rattle.asm_lines.specs.NextStatements.{TokenStatement}
use Rattle.asm_symbols.specs.SymbolMap.{SymbolMap}
use Rattle.asm_frags.specs.declared.fields.Field.{Field}
use Rattle.asm_frags.specs.Writing.{LooseSection}
use Rattle.asm_relax.specs.Settling.{LaidSections}
use Rattle.insn_effects.specs.Flows.{Flow, onward, jumps, calls, through, returns, stops}
use Rattle.insn_effects.specs.Followed.{flow_by}
use Rattle.asm_place.specs.Bodies.{back}
use Rattle.code_functions.specs.declared.items.CodeItem.{CodeItem}
use Rattle.code_functions.specs.Seen.{seen}
use Rattle.flow_graph.specs.declared.nodes.Node.{Node}
use Rattle.flow_graph.specs.Nodes.{item_target, node_of, nodes_of}
use Rattle.asm_functions.specs.Following.{end_of}
use Rattle.asm_functions.specs.FollowedSource.{FollowedSource, nothing_followed, follow_all}
use Rattle.asm_functions.specs.Joined.{IsPutBy, AreJoined}
use Rattle.scfi_pass.specs.Tables.{Analyzed}
use Rattle.scfi_laws.specs.Laid.{Kind, inert, size, Fits, ReadsItem, IsLaid}
use Rattle.place_laws.specs.Ends.{place_in}
use Rattle.code_laws.specs.Sections.{IsLoadedLater}
use Rattle.code_laws.specs.Codes.{IsNoJump}
use Rattle.code_laws.specs.Statements.{StatementsAreLaid}
use Rattle.code_laws.specs.Functions.{laid_place, item_start, EndsArePlaces, starts_in, IsLaidAt, ItemsArePlaced, InsnsAreNumbered, JumpsAreLaid, FunctionsAreLaid}
use Rattle.code_laws.proofs.Placing.{grows_on}

-- what is known of statements
pub record Facts : Type 0 where
  pub laid : StatementsAreLaid
  pub placed : ItemsArePlaced
  pub ends : EndsArePlaces

-- ITEMS IN A ROW

shifted : Kind → (ℕ → Kind) → ℕ → Kind
shifted kind rest zero = kind
shifted kind rest (suc i) = rest i

module _ (statements : List TokenStatement) (first : FollowedSource) (number : ℕ) where
  start_is : (items : List CodeItem) (from stop : Place) → AreJoined statements first number (map seen items) from stop → item_start items stop 0 ≡ from
  start_is [] from stop joined = sym joined
  start_is (item ∷ items) from stop joined = joined.one.at

  -- each is laid where each step is
  all_laid : (items : List CodeItem) (from stop : Place) (P : ℕ → CodeItem → Place → Place → Kind → Type 0) → AreJoined statements first number (map seen items) from stop
      → ((i : ℕ) (item : CodeItem) (from to : Place) → slice_get items i ≡ Some item → IsPutBy statements first number (seen item) from to → (kind : Kind) × P i item from to kind)
      → (kinds : ℕ → Kind) × ((i : ℕ) (item : CodeItem) → slice_get items i ≡ Some item → P i item (item_start items stop i) (item_start items stop (suc i)) (kinds i))
  unfolding shifted
  all_laid [] from stop P joined step = ((λ i. inert 0), λ i item is. absurd (none-some item is))
  all_laid (one ∷ items) from stop P joined step =
      let here = step 0 one from joined.between refl joined.one in
      let later = all_laid items joined.between stop (λ i. P (suc i)) joined.other (λ i item from to is. step (suc i) item from to is) in
      let at = joined.one.at in
      let next = start_is items joined.between stop joined.other in
      (shifted here.0 later.0, λ i item is. by here.0 here.1 later.0 later.1 at next i item is)
    where
      by : (kind : Kind) → P 0 one from joined.between kind → (kinds : ℕ → Kind)
          → ((i : ℕ) (item : CodeItem) → slice_get items i ≡ Some item → P (suc i) item (item_start items stop i) (item_start items stop (suc i)) (kinds i))
          → one.place ≡ from → item_start items stop 0 ≡ joined.between → (i : ℕ) (item : CodeItem) → slice_get (one ∷ items) i ≡ Some item
          → P i item (item_start (one ∷ items) stop i) (item_start (one ∷ items) stop (suc i)) (shifted kind kinds i)
      by kind here kinds later at next zero item is =
          subst (λ (x : CodeItem). P 0 x one.place (item_start items stop 0) kind) (same_Some one item is)
          (subst (λ to. P 0 one one.place to kind) (sym next) (subst (λ f. P 0 one f joined.between kind) (sym at) here))
      by kind here kinds later at next (suc i) item is = later i item is

-- FUNCTIONS

get_some : {X : Type 0} (xs : List X) (i : ℕ) → i < length xs → (x : X) × (slice_get xs i ≡ Some x)
get_some [] i few = absurd (omega (arith, few))
get_some (x ∷ xs) zero few = (x, refl)
get_some (x ∷ xs) (suc i) few = get_some xs i (omega (arith, few))

module _ (facts : Facts) (traced symbols : SymbolMap) (laid : LaidSections) (statements : List TokenStatement) (no_warn asked : Bool) (whole : FollowedSource) (a : Analyzed) (number : ℕ)
    (fields : List Field) (from stop : Place) (code : List ℕ) (all : follow_all statements (nothing_followed no_warn asked) ≡ Ok whole)
    (joined : AreJoined statements (nothing_followed no_warn asked) number (map seen a.items) from stop) (nodes : a.nodes ≡ nodes_of traced number fields a.items)
    (l : IsLoadedLater symbols laid number whole.placed.sections code) (numbered : InsnsAreNumbered statements (nothing_followed no_warn asked))
    (jump : JumpsAreLaid laid number statements (nothing_followed no_warn asked) a (starts_in laid number a.items stop) code) where
  abbrev first : FollowedSource
  first = nothing_followed no_warn asked

  abbrev starts : ℕ → ℕ
  starts = starts_in laid number a.items stop

  abbrev own_node : CodeItem → Node
  own_node item = node_of traced number fields a.items item

  node_there : (i : ℕ) (item : CodeItem) → slice_get a.items i ≡ Some item → slice_get a.nodes i ≡ Some (own_node item)
  unfolding nodes_of
  node_there i item is =
      ap (λ (all : List Node). slice_get all i) nodes ∙ (slice_get-map own_node a.items i ∙ ap (option_map own_node) is)

  abbrev Laid : ℕ → CodeItem → Place → Place → Kind → Type 0
  Laid i item from to kind = IsLaidAt laid number starts code item (own_node item) from to kind

  -- one step that is no direct jump
  laid_step : (item : CodeItem) (from to : Place) → IsPutBy statements first number (seen item) from to → IsNoJump (flow_by item.effect.role)
      → (kind : Kind) × IsLaidAt laid number starts code item (own_node item) from to kind
  laid_step item from to put none =
      let s = put.statement in
      let labels = put.labels in
      let after = put.after.placed in
      let is = facts.placed statements no_warn asked whole number (seen item) from to all put in
      let loaded : IsLoadedLater symbols laid number after.sections code = record {
        later = l.later;
        grows = grows_on after.sections whole.placed.sections l.later is.grows l.grows;
        is = l.is;
        within = l.within;
        kept = l.kept;
        there = l.there;
        takes_bytes = l.takes_bytes;
        relocated = l.relocated;
        loaded = l.loaded;
      } in
      let got =
      facts.laid symbols laid (back s) labels after number code item (own_node item) (item_target traced number fields a.items item) starts is.bare is.placed is.within loaded
      put.put refl none (λ insn view. numbered put.earlier s put.later put.before labels insn put.all put.before_is put.labels_are view) in
      let from_is : place_in laid number labels.sections ≡ laid_place laid number from =
      facts.ends laid number labels.sections ∙ ap (λ (sections : List LooseSection). laid_place laid number (end_of sections number)) is.same
      ∙ ap (laid_place laid number) (sym put.start) in
      let to_is : place_in laid number after.sections ≡ laid_place laid number to =
      facts.ends laid number after.sections ∙ ap (laid_place laid number) (sym put.stop) in (
        got.kind,
        record {
          placed = sym to_is ∙ got.is.placed ∙ ap (λ n. n + size got.kind) from_is;
          fits = got.is.fits;
          reads_back = subst (λ n. ReadsItem starts code n got.kind item (own_node item)) from_is got.is.reads_back;
        },
      )

  -- any step
  step : (i : ℕ) (item : CodeItem) (from to : Place) → slice_get a.items i ≡ Some item → IsPutBy statements first number (seen item) from to
      → (kind : Kind) × IsLaidAt laid number starts code item (own_node item) from to kind
  step i item from to there put = by (flow_by item.effect.role) refl
    where
      by : (flow : Flow) → flow_by item.effect.role ≡ flow → (kind : Kind) × IsLaidAt laid number starts code item (own_node item) from to kind
      by (jumps falls) is = jump i item (own_node item) falls from to there (node_there i item there) is put
      by onward is = laid_step item from to put (subst IsNoJump (sym is) tt)
      by calls is = laid_step item from to put (subst IsNoJump (sym is) tt)
      by through is = laid_step item from to put (subst IsNoJump (sym is) tt)
      by returns is = laid_step item from to put (subst IsNoJump (sym is) tt)
      by stops is = laid_step item from to put (subst IsNoJump (sym is) tt)

  laid_all : (kinds : ℕ → Kind) × IsLaid a kinds starts code
  laid_all =
      let got = all_laid statements first number a.items from stop Laid joined step in (
        got.0,
        record {
          placed = λ i few.
              let item = get_some a.items i few in
              let next : suc i ≡ i + 1 = omega arith in
              ap starts (sym next) ∙ (got.1 i item.0 item.1).placed;
          fits = λ i item node there is.
              let same = same_Some (own_node item) node (sym (node_there i item there) ∙ is) in
              subst (λ (n : Node). Fits (got.0 i) item n) same (got.1 i item there).fits;
          reads_back = λ i item node there is.
              let same = same_Some (own_node item) node (sym (node_there i item there) ∙ is) in
              subst (λ (n : Node). ReadsItem starts code (starts i) (got.0 i) item n) same
              (got.1 i item there).reads_back;
        },
      )

pub functions_are_laid : Facts → FunctionsAreLaid
functions_are_laid facts traced symbols laid statements no_warn asked whole a number fields from stop code all joined nodes l numbered jump =
    laid_all facts traced symbols laid statements no_warn asked whole a number fields from stop code all joined nodes l numbered jump
