-- What a step adds to sections, and the procedures, whose places stand in order inside them, and to the line table.
use Rattle.std.proofs.Common.{◌≡◌, ℕ, ◌≤◌, List, [], ◌∷◌, All, length, take, drop, slice_get, Option, None, Some, Result, Ok, Err, refl, sym, ◌∙◌, subst, arith, length-append}
use Rattle.std.specs.Prelude.{IfSome, map}
use Rattle.std.specs.Option.{option_map_or}
use Rattle.std.proofs.lemmas.List.{take-append-le, drop-append-le, take_all, drop_all}
use Rattle.std.proofs.lemmas.List.Elements.{All-nil, All-cons, All-head, All-tail, All-append, All-pop, All-weaker}
use Rattle.std.proofs.lemmas.Result.{IfOk-at_ok}
use Rattle.asm_base.specs.Refusals.{◌>>=◌}
use Rattle.asm_frags.specs.declared.fields.Field.{Field}
use Rattle.asm_frags.specs.Writing.{LooseItem, LooseSection}
use Rattle.asm_uses.specs.Places.{spot_in, no_spot, spot_at}
use Rattle.asm_values.specs.State.{Placed, here}
use Rattle.asm_frames.specs.Keeping.{line_here}
use Rattle.cfi_directives.specs.declared.frames.Frame.{Frame}
use Rattle.cfi_directives.specs.declared.frames.PlacedOp.{PlacedOp}
use Rattle.cfi_directives.specs.declared.lines.CfiLine.{CfiLine}
use Rattle.asm_base.specs.declared.places.Place.{Place}
use Rattle.asm_base.specs.declared.places.SectionPlace.{SectionPlace}
use Rattle.cfi_directives.specs.Meant.{stop_of}
use Rattle.cfi_directives.specs.Order.{IsUpTo, last_place, IsInOrder, AreInOrder, IsReached}
use Rattle.cfi_directives.specs.Procedures.{Procedures, no_procedures, frames_of}
use Rattle.cfi_directives.specs.Sound.{IsWhole, AreSound}
use Rattle.cfi_directives.specs.Taking.{taken, taken_from}
use Rattle.asm_line_tables.specs.Keeping.{FitsHere as RowFits}
use Rattle.line_directives.specs.Taking.{LineTable, LineDirective, taken_from as rows_taken}
use Rattle.section_laws.specs.Within.{IsWithin, AreWithin, PutsStayWithin}
use Rattle.asm_place.specs.Instructions.{with_more, Grows}
use Rattle.asm_place.specs.ProcedurePlaces.{IsInside, StandsInside, StandInOrder}
use Rattle.asm_place.specs.SymbolPlaces.{ProcedureStands}
use Rattle.asm_place.proofs.GrowthLemmas.{Adds, All-there, adds_nothing, adds_on}
use Rattle.asm_place.proofs.LineSteps.{GoesOn, lines_stay, goes_on, rows_put}
use Rattle.asm_place.proofs.Walks.{Fine, made, refused, step}
use Rattle.asm_place.proofs.TakenPlaces.{HasPlaces, HavePlaces, last_has, taken_has, reached_there}

-- PLACES

-- what holds of everything holds of all
all_of : {X : Type 0} (P : X → Type 0) → ((x : X) → P x) → (xs : List X) → All P xs
all_of P holds [] = All-nil P
all_of P holds (x ∷ xs) = All-cons P x xs (holds x) (all_of P holds xs)

-- the place stands inside the section, or is the first, where there is none
abbrev Fits : Option LooseSection → Place → Type 0
Fits None place = (place.item ≡ 0) × (place.offset ≡ 0)
Fits (Some held) place = IsInside held place

-- the first place stands inside each section
first_inside : (held : LooseSection) (place : Place) → place.item ≡ 0 → place.offset ≡ 0 → IsInside held place
first_inside held place item offset = record {
  within = omega (arith, offset);
  enough = omega (arith, item);
  before = subst (λ (n : ℕ). All (λ (item : LooseItem). item.offset ≤ place.offset) (take n held.items)) (sym item) (All-nil _);
  behind = all_of (λ (item : LooseItem). place.offset ≤ item.offset) (λ item. omega (arith, offset)) (drop place.item held.items);
}

inside_more : (held : LooseSection) (bytes : List ℕ) (fields : List Field) (items : List LooseItem) → All (λ item. length held.bytes ≤ item.offset) items
    → (place : Place) → IsInside held place → IsInside (with_more held bytes fields items) place
inside_more held bytes fields items behind place inside =
    let within = inside.within in
    let enough = inside.enough in
    record {
      within = omega (arith, within, length-append held.bytes bytes);
      enough = omega (arith, enough, length-append held.items items);
      before = subst (All (λ (item : LooseItem). item.offset ≤ place.offset)) (sym (take-append-le place.item held.items items enough)) inside.before;
      behind = subst (All (λ (item : LooseItem). place.offset ≤ item.offset)) (sym (drop-append-le place.item held.items items enough))
          (All-append (λ (item : LooseItem). place.offset ≤ item.offset) (drop place.item held.items) items inside.behind
          (All-weaker (λ (item : LooseItem). length held.bytes ≤ item.offset) (λ (item : LooseItem). place.offset ≤ item.offset)
          (λ item far. omega (arith, within, far)) items behind));
    }

-- what a place fits it fits when that has grown
fits_later : (before after : List LooseSection) → Grows before after → (number : ℕ) (place : Place) → Fits (slice_get before number) place → Fits (slice_get after number) place
fits_later before after grows number place = by (slice_get before number) refl
  where
    first : (found : Option LooseSection) → (place.item ≡ 0) × (place.offset ≡ 0) → Fits found place
    first None is = is
    first (Some held) is = first_inside held place is.0 is.1

    by : (found : Option LooseSection) → slice_get before number ≡ found → Fits found place → Fits (slice_get after number) place
    by None is fits = first (slice_get after number) fits
    by (Some held) is fits =
        let more = grows.kept number held is in
        subst (λ (found : Option LooseSection). Fits found place) (sym more.there) (inside_more held more.bytes more.fields more.items more.items_behind place fits)

-- where the next statement puts: behind all bytes and items
abbrev end_by : ℕ → Option LooseSection → SectionPlace
end_by number found = (option_map_or (spot_in number) found (no_spot number)).place

end_section : (number : ℕ) (found : Option LooseSection) → (end_by number found).section ≡ number
end_section number None = refl
end_section number (Some held) = refl

end_fits : (number : ℕ) (found : Option LooseSection) → ((held : LooseSection) → found ≡ Some held → IsWithin held) → Fits found (end_by number found).place
end_fits number None within = (refl, refl)
end_fits number (Some held) within = record {
  within = omega arith;
  enough = omega arith;
  before = subst (All (λ (item : LooseItem). item.offset ≤ length held.bytes)) (sym (take_all (length held.items) held.items (omega arith))) (within held refl).items;
  behind = subst (All (λ (item : LooseItem). length held.bytes ≤ item.offset)) (sym (drop_all (length held.items) held.items (omega arith))) (All-nil _);
}

end_last : (number : ℕ) (found : Option LooseSection) (place : Place) → Fits found place → IsUpTo place (end_by number found).place
end_last number None place fits = (omega (arith, fits.0), omega (arith, fits.1))
end_last number (Some held) place fits = (fits.enough, fits.within)

-- PROCEDURES

-- what the laws of directives say: one more keeps procedures sound and in order
pub record DirectivesKeep : Type 0 where
  pub sound : (line : CfiLine) (at : SectionPlace) (procedures next : Procedures) → taken line at procedures ≡ Ok next → AreSound procedures → AreSound next
  pub order : (line : CfiLine) (at : SectionPlace) (procedures next : Procedures) → taken line at procedures ≡ Ok next → AreInOrder procedures → IsReached procedures at
      → AreInOrder next

-- the place fits the section of this number
abbrev FitsIn : List LooseSection → ℕ → Place → Type 0
FitsIn sections number place = Fits (slice_get sections number) place

-- procedures are sound and in order, and their places fit
pub record AreFit (sections : List LooseSection) (procedures : Procedures) : Type 0 where
  pub sound : AreSound procedures
  pub order : AreInOrder procedures
  pub places : HavePlaces (FitsIn sections) procedures

-- so are none
pub nothing_fit : (sections : List LooseSection) → AreFit sections no_procedures
nothing_fit sections = record {
  sound = record { closed = All-nil IsWhole; begun = tt };
  order = record { closed = All-nil IsInOrder; begun = tt };
  places = record { closed = All-nil (HasPlaces (FitsIn sections)); begun = tt };
}

frame_later : (before after : List LooseSection) → Grows before after → (frame : Frame) → HasPlaces (FitsIn before) frame → HasPlaces (FitsIn after) frame
frame_later before after grows frame has = record {
  start = fits_later before after grows frame.section frame.start has.start;
  stop = fits_later before after grows frame.section (stop_of frame) has.stop;
  ops = All-weaker (λ (placed : PlacedOp). FitsIn before frame.section placed.place) (λ (placed : PlacedOp). FitsIn after frame.section placed.place)
      (λ placed fits. fits_later before after grows frame.section placed.place fits) frame.ops has.ops;
}

if_weaker : {X : Type 0} (P Q : X → Type 0) → ((x : X) → P x → Q x) → (found : Option X) → IfSome found P → IfSome found Q
if_weaker P Q more None holds = tt
if_weaker P Q more (Some x) holds = more x holds

-- they are so when sections have grown
fit_later : (before after : List LooseSection) (procedures : Procedures) → Grows before after → AreFit before procedures → AreFit after procedures
fit_later before after procedures grows fit = record {
  sound = fit.sound;
  order = fit.order;
  places = record {
    closed = All-weaker (HasPlaces (FitsIn before)) (HasPlaces (FitsIn after)) (frame_later before after grows) procedures.closed fit.places.closed;
    begun = if_weaker (HasPlaces (FitsIn before)) (HasPlaces (FitsIn after)) (frame_later before after grows) procedures.begun fit.places.begun;
  };
}

-- a step that was taken, and what follows
came : {A B F : Type 0} (r : Result A F) (f : A → Result B F) (y : B) → (r >>= f) ≡ Ok y → (x : A) × (r ≡ Ok x) × (f x ≡ Ok y)
came (Ok x) f y is = (x, refl, is)
came (Err fault) f y is = absurd (let none : ⊥ = cc in none)

module _ (laws : DirectivesKeep) (placed : Placed) (within : AreWithin placed.sections) where
  abbrev at : SectionPlace
  at = (here placed).place

  abbrev FitsHere : ℕ → Place → Type 0
  FitsHere = FitsIn placed.sections

  at_section : at.section ≡ placed.current
  unfolding spot_at
  at_section = end_section placed.current (slice_get placed.sections placed.current)

  at_fits : FitsHere placed.current at.place
  unfolding spot_at
  at_fits =
      end_fits placed.current (slice_get placed.sections placed.current)
      (λ held is. All-there IsWithin placed.sections placed.current held is within)

  at_last : (place : Place) → FitsHere placed.current place → IsUpTo place at.place
  unfolding spot_at
  at_last place fits = end_last placed.current (slice_get placed.sections placed.current) place fits

  frame_before : (frame : Frame) → HasPlaces FitsHere frame → frame.section ≡ at.section → IsUpTo (last_place frame) at.place
  frame_before frame has same =
      at_last (last_place frame)
      (subst (λ (n : ℕ). FitsHere n (last_place frame)) (same ∙ at_section) (last_has (FitsHere frame.section) frame.start frame.ops has.start has.ops))

  line_fit : (line : CfiLine) (procedures next : Procedures) → taken line at procedures ≡ Ok next → AreFit placed.sections procedures → AreFit placed.sections next
  line_fit line procedures next is fit = record {
    sound = laws.sound line at procedures next is fit.sound;
    order = laws.order line at procedures next is fit.order
        (IfOk-at_ok (λ (made : Procedures). IsReached procedures at) is (reached_there at line procedures
        (if_weaker (HasPlaces FitsHere) (λ (frame : Frame). frame.section ≡ at.section → IsUpTo (last_place frame) at.place) frame_before procedures.begun fit.places.begun)).holds);
    places = IfOk-at_ok (HavePlaces FitsHere) is
        (taken_has FitsHere line at procedures (subst (λ (n : ℕ). FitsHere n at.place) (sym at_section) at_fits) fit.places).holds;
  }

  -- directives at one place keep procedures fit
  lines_fit : (lines : List CfiLine) (procedures last : Procedures) → taken_from procedures (map (line_here placed) lines) ≡ Ok last
      → AreFit placed.sections procedures → AreFit placed.sections last
  lines_fit [] procedures last is fit = subst (AreFit placed.sections) (let same : procedures ≡ last = cc in same) fit
  lines_fit (line ∷ lines) procedures last is fit =
      let first = came (taken line at procedures) (λ next. taken_from next (map (line_here placed) lines)) last is in
      lines_fit lines first.0 last first.2 (line_fit line procedures first.0 first.1 fit)

-- STEPS

-- sections are added to, procedures stay fit, and the line table goes on
pub record Leads (before : List LooseSection) (had : Procedures) (lined : LineTable) (after : List LooseSection) (has : Procedures) (lines : LineTable) : Type 0 where
  pub adds : Adds before after
  pub fit : DirectivesKeep → PutsStayWithin → AreWithin before → AreFit before had → AreFit after has
  pub rows : GoesOn before lined after lines

-- what was placed leads to more
abbrev pub Led : Placed → Placed → Type 0
Led before after = Leads before.sections before.procedures before.lines after.sections after.procedures after.lines

-- a step from what was placed before
abbrev pub Steps : {E : Type 0} → Placed → Result Placed E → Type 0
Steps before = Fine (Led before)

-- sections alone are added to
pub leads_by : (before after : List LooseSection) (procedures : Procedures) (lines : LineTable) → Adds before after → Leads before procedures lines after procedures lines
leads_by before after procedures lines adds =
    record { adds = adds; fit = λ laws law within fit. fit_later before after procedures adds.grows fit; rows = lines_stay before after lines adds.grows }

-- all stay
pub still : (placed : Placed) → Led placed placed
still placed = leads_by placed.sections placed.sections placed.procedures placed.lines (adds_nothing placed.sections)

-- directives of procedures are taken at one place
pub leads_lines : (placed : Placed) (lines : List CfiLine) (procedures : Procedures) → taken_from placed.procedures (map (line_here placed) lines) ≡ Ok procedures
    → Leads placed.sections placed.procedures placed.lines placed.sections procedures placed.lines
leads_lines placed lines procedures is = record {
  adds = adds_nothing placed.sections;
  fit = λ laws law within fit. lines_fit laws placed within lines placed.procedures procedures is fit;
  rows = lines_stay placed.sections placed.sections placed.lines (adds_nothing placed.sections).grows;
}

-- directives of the line table are taken there
pub leads_rows : (placed : Placed) (directives : List LineDirective) (lines : LineTable) → rows_taken placed.lines directives ≡ Ok lines
    → All (RowFits placed) directives → Leads placed.sections placed.procedures placed.lines placed.sections placed.procedures lines
leads_rows placed directives lines is fit =
    record { adds = adds_nothing placed.sections; fit = λ laws law within fit. fit; rows = rows_put placed directives lines is fit }

leads_on : (before between after : Placed) → Led before between → Led between after → Led before after
leads_on before between after first later = record {
  adds = adds_on before.sections between.sections after.sections first.adds later.adds;
  fit = λ laws law within fit. later.fit laws law (first.adds.within law within) (first.fit laws law within fit);
  rows = goes_on before.sections before.lines between.sections between.lines after.sections after.lines later.adds.grows first.rows later.rows;
}

-- what is led to leads on
pub on : {E : Type 0} (before between : Placed) (r : Result Placed E) → Led before between → Steps between r → Steps before r
on before between (Ok x) led later = made x (leads_on before between x led later.holds)
on before between (Err fault) led later = refused fault

pub grown : {E : Type 0} (before : Placed) {r : Result Placed E} {f : Placed → Result Placed E} → Steps before r → ((x : Placed) → Steps x (f x)) → Steps before (r >>= f)
grown before {f = f} first later = step first (λ x is. on before x (f x) is (later x))

-- WHAT STANDS

-- what fits the section that is there stands inside
there_inside : (sections : List LooseSection) (number : ℕ) (held : LooseSection) → slice_get sections number ≡ Some held → (place : Place) → FitsIn sections number place → IsInside held place
there_inside sections number held there place fits = subst (λ (found : Option LooseSection). Fits found place) there fits

frame_inside : (sections : List LooseSection) (frame : Frame) → ProcedureStands sections frame → HasPlaces (FitsIn sections) frame → StandsInside sections frame
frame_inside sections frame stands has =
    let held = stands.start.section in
    let there = stands.start.there in
    record {
      held = held;
      there = there;
      start = there_inside sections frame.section held there frame.start has.start;
      stop = there_inside sections frame.section held there (stop_of frame) has.stop;
      ops = All-weaker (λ (placed : PlacedOp). FitsIn sections frame.section placed.place) (λ (placed : PlacedOp). IsInside held placed.place)
          (λ placed fits. there_inside sections frame.section held there placed.place fits) frame.ops has.ops;
    }

-- what holds of each where two facts do
all_both : {X : Type 0} (P Q R : X → Type 0) → ((x : X) → P x → Q x → R x) → (xs : List X) → All P xs → All Q xs → All R xs
all_both P Q R both [] one other = All-nil R
all_both P Q R both (x ∷ xs) one other =
    All-cons R x xs (both x (All-head P x xs one) (All-head Q x xs other)) (all_both P Q R both xs (All-tail P x xs one) (All-tail Q x xs other))

if_both : {X : Type 0} (P Q R : X → Type 0) → ((x : X) → P x → Q x → R x) → (found : Option X) → IfSome found P → IfSome found Q → IfSome found R
if_both P Q R both None one other = tt
if_both P Q R both (Some x) one other = both x one other

-- procedures that are fit, and whose sections are there, stand in order
pub stand_in_order : (sections : List LooseSection) (procedures : Procedures) → All (ProcedureStands sections) (frames_of procedures) → AreFit sections procedures
    → StandInOrder sections procedures
stand_in_order sections procedures stand fit =
    let there = All-pop (ProcedureStands sections) (frames_of procedures) procedures.closed procedures.begun refl stand in
    record {
      sound = fit.sound;
      order = fit.order;
      closed = all_both (ProcedureStands sections) (HasPlaces (FitsIn sections)) (StandsInside sections) (frame_inside sections) procedures.closed there.0 fit.places.closed;
      begun = if_both (ProcedureStands sections) (HasPlaces (FitsIn sections)) (StandsInside sections) (frame_inside sections) procedures.begun there.1 fit.places.begun;
    }
