-- Symbols stand in the sections with the tables, and those that these bring are labels.
use Rattle.std.proofs.Common.{◌≡◌, ℕ, zero, suc, ◌<◌, List, Option, [], ◌∷◌, ◌++◌, All, Some, Ok, length, sym, ap, ◌∙◌, subst, arith, append_assoc, append-nil, length-append}
use Rattle.std.proofs.lemmas.List.Elements.{All-nil, All-head, All-tail, All-append, All-weaker}
use Rattle.std.proofs.lemmas.Option.{none-some}
use Rattle.asm_expr.specs.Forms.{Form}
use Rattle.asm_frags.specs.Writing.{LooseSection}
use Rattle.asm_symbols.specs.declared.entries.Meaning.{Meaning}
use Rattle.asm_symbols.specs.declared.entries.Meaning.TheVariants as meaning
use Rattle.asm_symbols.specs.declared.entries.Symbol.{Symbol}
use Rattle.asm_symbols.specs.Assigning.{form_of, form_at}
use Rattle.asm_symbols.specs.SymbolMap.{SymbolMap}
use Rattle.cfi_directives.specs.declared.frames.Frame.{Frame}
use Rattle.cfi_directives.specs.declared.frames.PlacedOp.{PlacedOp}
use Rattle.cfi_directives.specs.Procedures.{frames_of}
use Rattle.table_pieces.specs.Pieces.{Tables, tables_of}
use Rattle.eh_frame.specs.Placing.{placed}
use Rattle.table_pieces.specs.StandingPlaces.{HoldsItems, LabelStands, GetsStanding}
use Rattle.eh_frame.specs.StandingFrames.{FrameStands}
use Rattle.line_directives.specs.Meanings.{RowAt, rows_of}
use Rattle.asm_values.specs.State.{Placed}
use Rattle.section_laws.specs.Within.{AreWithin}
use Rattle.asm_place.specs.Instructions.{with_more, Grows}
use Rattle.asm_place.specs.SymbolPlaces.{HasItems, MeaningStands, SymbolStands, SymbolsStand, ProcedureStands}
use Rattle.frame_laws.specs.PlacedTables.{IsCovered}
use Rattle.readback_laws.specs.Origins.{procedures_by}
use Rattle.readback_laws.proofs.FramedSections.{TableFacts, ComesTo, all_continued, framed_by}
use Rattle.readback_laws.proofs.JumpFields.{StandUpTo}
use Rattle.readback_laws.proofs.StandingRows.{RowsStand}

-- THE PLACES OF PROCEDURES

pub holds_items : (sections : List LooseSection) (number items : ℕ) → HasItems sections number items → HoldsItems sections number items
holds_items sections number items has = record { held = has.section; there = has.there; enough = has.enough }

pub frame_stands : (sections : List LooseSection) (frame : Frame) → ProcedureStands sections frame → FrameStands sections frame
frame_stands sections frame stands = record {
  start = holds_items sections frame.section frame.start.item stands.start;
  stop = holds_items sections frame.section _ stands.stop;
  ops = All-weaker (λ (placed : PlacedOp). HasItems sections frame.section placed.place.item) (λ (placed : PlacedOp). HoldsItems sections frame.section placed.place.item)
      (λ placed has. holds_items sections frame.section placed.place.item has) frame.ops stands.ops;
}

-- the labels of a table stand
pub labels_by : TableFacts → (frames : List Frame) (tables after : Tables) → AreWithin tables.sections → All (FrameStands tables.sections) frames
    → placed frames tables ≡ Ok after → GetsStanding after.sections tables.symbols after.symbols
unfolding placed
labels_by facts [] tables after within stand is =
    let same : tables ≡ after = cc in
    subst (λ (t : Tables). GetsStanding t.sections tables.symbols t.symbols) same
    (record { labels = []; all = sym (append-nil tables.symbols.symbols); each = All-nil (LabelStands tables.sections) })
labels_by facts (frame ∷ frames) tables after within stand is = facts.labels frame frames tables after within stand is

-- what stands in its section does so behind more
holds_grow : (before after : List LooseSection) (number items : ℕ) → Grows before after → HoldsItems before number items → HoldsItems after number items
holds_grow before after number items grows has =
    let later = grows.kept number has.held has.there in
    let enough = has.enough in
    record { held = with_more has.held later.bytes later.fields later.items; there = later.there; enough = omega (arith, enough, length-append has.held.items later.items) }

-- so do those of the tables of what was placed
pub labels_framed : TableFacts → (whole : Placed) (tables : Tables) → AreWithin whole.sections → All (FrameStands whole.sections) (frames_of whole.procedures)
    → RowsStand whole.sections whole.lines → ComesTo whole tables → GetsStanding tables.sections whole.table.symbols tables.symbols
labels_framed facts whole tables within stand rows is =
    let start = tables_of whole.table.symbols whole.sections in
    let framed = is.framed in
    let table = framed_by facts (frames_of whole.procedures) start framed within is.frames in
    let more = all_continued framed.sections tables.sections (facts.others.stays whole.lines framed tables is.lines).grows in
    let first = labels_by facts (frames_of whole.procedures) start framed within stand is.frames in
    let second = facts.line_labels rows.directives whole.lines framed tables table.within rows.taken
    (λ section. All-weaker (λ (row : RowAt). HoldsItems whole.sections section row.0.item) (λ (row : RowAt). HoldsItems framed.sections section row.0.item)
    (λ row has. holds_grow whole.sections framed.sections section row.0.item table.grows has) (rows_of section rows.directives) (rows.stand section)) is.lines in
    record {
      labels = first.labels ++ second.labels;
      all = second.all ∙ ap (λ (symbols : List Symbol). symbols ++ second.labels) first.all ∙ append_assoc whole.table.symbols.symbols first.labels second.labels;
      each = All-append (LabelStands tables.sections) first.labels second.labels
          (All-weaker (LabelStands framed.sections) (LabelStands tables.sections)
          (λ label stands. (stands.0, stands.1, holds_grow framed.sections tables.sections _ _ more stands.2)) first.labels first.each) second.each;
    }

-- the procedures of what was placed, or the frames in place of them, cover places of their sections
abbrev pub AreCovered : Option (List Frame) → Placed → Type 0
AreCovered worked_out whole = All (IsCovered whole.sections) (frames_of (procedures_by worked_out whole.procedures))

-- so their places stand
pub covered_stand : (worked_out : Option (List Frame)) (whole : Placed) → AreCovered worked_out whole
    → All (FrameStands whole.sections) (frames_of (procedures_by worked_out whole.procedures))
covered_stand worked_out whole covered =
    All-weaker (IsCovered whole.sections) (FrameStands whole.sections) (λ frame covers. covers.stands) (frames_of (procedures_by worked_out whole.procedures)) covered

-- ALL SYMBOLS

items_grow : (before after : List LooseSection) (number items : ℕ) → Grows before after → HasItems before number items → HasItems after number items
items_grow before after number items grows has =
    let later = grows.kept number has.section has.there in
    let enough = has.enough in
    record { section = with_more has.section later.bytes later.fields later.items; there = later.there; enough = omega (arith, enough, length-append has.section.items later.items) }

meaning_grows : (before after : List LooseSection) (last : ℕ) → Grows before after → (meant : Meaning) → MeaningStands before last meant → MeaningStands after last meant
meaning_grows before after last grows meaning.Undefined stands = tt
meaning_grows before after last grows (meaning.Label spot) stands = items_grow before after spot.place.section spot.place.place.item grows stands
meaning_grows before after last grows (meaning.Common size align) stands = tt
meaning_grows before after last grows (meaning.Space spot) stands = items_grow before after spot.place.section spot.place.place.item grows stands
meaning_grows before after last grows (meaning.Assigned form) stands = stands

label_means : (sections : List LooseSection) (last : ℕ) (symbol : Symbol) → LabelStands sections symbol → MeaningStands sections last symbol.meaning
label_means sections last symbol label =
    subst (MeaningStands sections last) (sym label.1) (record { section = label.2.held; there = label.2.there; enough = label.2.enough })

-- all symbols stand, and forms name those that statements named, or the next one
pub symbols_framed : (before after : List LooseSection) (map labelled : SymbolMap) → Grows before after → SymbolsStand before map.symbols → GetsStanding after map labelled
    → StandUpTo (length map.symbols) after labelled.symbols
symbols_framed before after map labelled grows stand gets =
    let last = length map.symbols in
    subst (StandUpTo last after) (sym gets.all)
    (All-append (λ (symbol : Symbol). MeaningStands after last symbol.meaning) map.symbols gets.labels
    (All-weaker (SymbolStands before last) (λ (symbol : Symbol). MeaningStands after last symbol.meaning)
    (λ symbol was. meaning_grows before after last grows symbol.meaning was.0) map.symbols stand.each)
    (All-weaker (LabelStands after) (λ (symbol : Symbol). MeaningStands after last symbol.meaning) (label_means after last) gets.labels gets.each))

-- a label has no form
no_form : (sections : List LooseSection) (labels : List Symbol) (index : ℕ) (form : Form) → All (LabelStands sections) labels → form_at labels index ≡ Some form → ⊥
no_form sections [] index form each is = none-some form is
no_form sections (label ∷ labels) zero form each is =
    let own = All-head (LabelStands sections) label labels each in
    none-some form (sym (ap form_of own.1) ∙ is)
no_form sections (label ∷ labels) (suc index) form each is = no_form sections labels index form (All-tail (LabelStands sections) label labels each) is

form_before : (sections : List LooseSection) (symbols labels : List Symbol) (index : ℕ) (form : Form) → All (LabelStands sections) labels
    → form_at (symbols ++ labels) index ≡ Some form → index < length symbols
form_before sections [] labels index form each is = absurd (no_form sections labels index form each is)
form_before sections (symbol ∷ symbols) labels zero form each is = omega arith
form_before sections (symbol ∷ symbols) labels (suc index) form each is =
    let low = form_before sections symbols labels index form each is in omega (arith, low)

-- so an assigned symbol is one that a statement named
pub forms_framed : (sections : List LooseSection) (map labelled : SymbolMap) (index : ℕ) (form : Form) → GetsStanding sections map labelled
    → form_at labelled.symbols index ≡ Some form → index < length map.symbols
forms_framed sections map labelled index form gets is =
    form_before sections map.symbols gets.labels index form gets.each (sym (ap (λ symbols. form_at symbols index) gets.all) ∙ is)
