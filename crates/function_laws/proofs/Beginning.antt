-- Each item begins where its section ended before its statement, and so inside the section.
use Rattle.std.proofs.Common.{◌≡◌, ℕ, zero, suc, ◌%◌, ◌^◌, Bool, List, [], ◌∷◌, ◌++◌, All, map, None, Some, Result, Ok, Err, sym, ap, subst, ◌∙◌, arith}
use Rattle.std.specs.Prelude.{slice_get, unwrap_or}
use Rattle.std.specs.Option.{option_map_or}
use Rattle.std.proofs.lemmas.Option.{none-some, same_Some}
use Rattle.asm_base.specs.Refusals.{◌>>=◌}
use Rattle.asm_base.specs.declared.places.Place.{Place}
use Rattle.asm_lines.specs.NextStatements.{TokenStatement}
use Rattle.asm_symbols.specs.SymbolMap.{SymbolMap}
use Rattle.asm_frags.specs.Writing.{LooseSection}
use Rattle.asm_relax.specs.Final.{address_of}
use Rattle.asm_relax.specs.Settling.{LaidSections}
use Rattle.asm_place.specs.Instructions.{Grows}
use Rattle.asm_place.specs.declared.place_faults.FaultAt.{FaultAt}
use Rattle.code_functions.specs.declared.items.CodeItem.{CodeItem}
use Rattle.code_functions.specs.Recorded.{Recorded}
use Rattle.code_functions.specs.Seen.{SeenItem, seen, mapped}
use Rattle.asm_functions.specs.FollowedSource.{FollowedSource, nothing_followed, place_followed, follow_all, functions_at_end}
use Rattle.asm_functions.specs.Joined.{IsPutBy, AreJoined, IsJoined, stop_in}
use Rattle.place_laws.specs.Ends.{items_in, place_in, end_in}
use Rattle.place_laws.specs.Jumps.{SpotsAreAddresses}
use Rattle.place_laws.specs.Statements.{PlacesAreInside}
use Rattle.code_laws.specs.Functions.{laid_place}
use Rattle.code_laws.specs.Sections.{IsLoadedLater}
use Rattle.place_laws.specs.Low.{LayoutsAreLow}
use Rattle.function_laws.specs.Tabled.{starts_of}
use Rattle.function_laws.specs.Addresses.{StartsAreAddresses}
use Rattle.function_laws.proofs.Elements.{All-there}
use Rattle.function_laws.proofs.Growing.{grown_twice}
use Rattle.function_laws.proofs.Rising.{Steps, end_there, there_before}

pub record Facts : Type 0 where
  pub joined : (statements : List TokenStatement) (no_warn asked : Bool) (f : FollowedSource) → follow_all statements (nothing_followed no_warn asked) ≡ Ok f
      → All (IsJoined statements (nothing_followed no_warn asked) f.placed.sections) (functions_at_end f)
  pub steps : Steps
  pub inside : PlacesAreInside
  pub spots : SpotsAreAddresses
  pub low : LayoutsAreLow

-- both go on from the same answer
both_from : {P : Type 0} (answer : Result FollowedSource FaultAt) (one other : FollowedSource → Result FollowedSource FaultAt) (before last : FollowedSource)
    → ((f : FollowedSource) → one f ≡ Ok before → other f ≡ Ok last → P) → (answer >>= one) ≡ Ok before → (answer >>= other) ≡ Ok last → P
both_from (Ok f) one other before last leads is whole = leads f is whole
both_from (Err fault) one other before last leads is whole = absurd (cc)

-- the statements from one on are followed from where those before it lead
followed_from : (earlier rest : List TokenStatement) (first before last : FollowedSource) → follow_all earlier first ≡ Ok before
    → follow_all (earlier ++ rest) first ≡ Ok last → follow_all rest before ≡ Ok last
unfolding follow_all
followed_from [] rest first before last is whole = subst (λ (f : FollowedSource). follow_all rest f ≡ Ok last) (ap (λ r. elim r [ Ok f ↦ f | Err fault ↦ first ]) is) whole
followed_from (x ∷ xs) rest first before last is whole =
    both_from (place_followed x first) (follow_all xs) (follow_all (xs ++ rest)) before last (λ f led all. followed_from xs rest f before last led all) is whole

module _ (statements : List TokenStatement) (first : FollowedSource) (section : ℕ) where
  -- the end of its statement
  abbrev Put : SeenItem → Type 0
  Put item = (to : Place) × IsPutBy statements first section item item.place to

  item_put : (items : List SeenItem) (from to : Place) → AreJoined statements first section items from to → (i : ℕ) (item : SeenItem) → slice_get items i ≡ Some item → Put item
  item_put [] from to joined i item there = absurd (none-some item there)
  item_put (x ∷ rest) from to joined zero item there =
      subst Put (same_Some x item there) (joined.between, subst (λ (p : Place). IsPutBy statements first section x p joined.between) (sym joined.one.at) joined.one)
  item_put (x ∷ rest) from to joined (suc i) item there = item_put rest joined.between to joined.other i item there

get_mapped : {X Y : Type 0} (look : X → Y) (xs : List X) (i : ℕ) (x : X) → slice_get xs i ≡ Some x → slice_get (map look xs) i ≡ Some (look x)
get_mapped look [] i x there = absurd (none-some x there)
get_mapped look (y ∷ xs) zero x there = ap (λ found. Some (look (elim found [ None ↦ y | Some z ↦ z ]))) there
get_mapped look (y ∷ xs) (suc i) x there = get_mapped look xs i x there

module _ (facts : Facts) (statements : List TokenStatement) (no_warn asked : Bool) (whole : FollowedSource) (number : ℕ) (symbols : SymbolMap) (laid : LaidSections) (code : List ℕ)
    (f : Recorded CodeItem) (index : ℕ) (item : CodeItem) (is : follow_all statements (nothing_followed no_warn asked) ≡ Ok whole)
    (there : slice_get (functions_at_end whole) number ≡ Some (mapped seen f)) (l : IsLoadedLater symbols laid f.section whole.placed.sections code)
    (item_there : slice_get f.items index ≡ Some item) where
  abbrev first : FollowedSource
  first = nothing_followed no_warn asked

  put : (to : Place) × IsPutBy statements first f.section (seen item) item.place to
  put =
      item_put statements first f.section (map seen f.items) f.start (stop_in whole.placed.sections (mapped seen f))
      (All-there (IsJoined statements first whole.placed.sections) (functions_at_end whole) number (mapped seen f) there (facts.joined statements no_warn asked whole is))
      index (seen item) (get_mapped seen f.items index item item_there)

  abbrev before : List LooseSection
  before = put.1.before.placed.sections

  held : (section : LooseSection) × (slice_get before f.section ≡ Some section)
  held = there_before facts.steps statements no_warn asked f.section (seen item) item.place put.0 put.1

  grows : Grows before l.later
  grows =
      grown_twice before whole.placed.sections l.later
      (facts.steps.grow _ put.1.before.placed whole.placed
      (facts.steps.followed (put.1.statement ∷ put.1.later) put.1.before whole
      (followed_from put.1.earlier (put.1.statement ∷ put.1.later) first put.1.before whole put.1.before_is (subst (λ all. follow_all all first ≡ Ok whole) put.1.all is))))
      l.grows

  inside : place_in laid f.section before ≡ place_in laid f.section before % 2 ^ 64
  inside =
      let within = facts.inside before laid f.section held.0 l.kept (record { symbols = symbols; later = l.later; grows = grows; is = l.is }) held.1 l.there in
      let one = within.inside in
      let two = within.small in
      omega (arith, one, two)

  at_end : laid_place laid f.section item.place ≡ place_in laid f.section before
  at_end =
      ap (laid_place laid f.section) (put.1.start ∙ end_there before f.section held.0 held.1)
      ∙ sym (ap (λ o. option_map_or (end_in (items_in laid f.section)) o 0) held.1)

  begins : starts_of laid f index ≡ address_of laid f.section item.place.item item.place.offset
  begins =
      ap (λ o. laid_place laid f.section (option_map_or (λ (x : CodeItem). x.place) o (unwrap_or f.stop f.start))) item_there
      ∙ at_end ∙ inside
      ∙ sym (facts.spots symbols before laid f.section held.0 (record { later = l.later; grows = grows; is = l.is; low = facts.low.items symbols l.later laid l.is l.within }) held.1)
      ∙ ap (λ (p : Place). address_of laid f.section p.item p.offset) (sym put.1.start)

pub starts_are_addresses : Facts → StartsAreAddresses
starts_are_addresses facts statements no_warn asked whole number symbols laid code f index item is there l item_there =
    begins facts statements no_warn asked whole number symbols laid code f index item is there l item_there
