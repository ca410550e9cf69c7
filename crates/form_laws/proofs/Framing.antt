-- A frame table and a line table add labels alone to the symbols of a source.
use Rattle.std.proofs.Common.{◌≡◌, ℕ, Bool, true, false, cond, List, [], ◌∷◌, ◌++◌, length, Option, None, Some, Result, Ok, Err, sym, ap, subst, slice_get, ◌∙◌, append_assoc}
use Rattle.std.specs.Prelude.{codes}
use Rattle.std.proofs.lemmas.List.{append-nil}
use Rattle.std.proofs.lemmas.List.Elements.{All-nil, All-append, All-weaker}
use Rattle.asm_base.specs.declared.causes.FragCause.{FragCause}
use Rattle.asm_base.specs.declared.causes.FragCause.TheVariants.{BadSection}
use Rattle.asm_base.specs.declared.places.SectionPlace.{SectionPlace}
use Rattle.asm_base.specs.declared.positions.Pos.{Pos}
use Rattle.asm_frags.specs.SectionOf.{section_number}
use Rattle.asm_frags.specs.Writing.{LooseSection, takes_zeros_alone}
use Rattle.asm_symbols.specs.declared.entries.Symbol.{Symbol}
use Rattle.asm_symbols.specs.Attributes.{is_weak}
use Rattle.asm_symbols.specs.SymbolMap.{SymbolMap}
use Rattle.cfi_directives.specs.declared.frames.Frame.{Frame}
use Rattle.table_pieces.specs.Labels.{IsLabelAt, GetsLabels}
use Rattle.table_pieces.specs.Marks.{place_name}
use Rattle.table_pieces.specs.Pieces.{Tables, tables_of}
use Rattle.line_directives.specs.Taking.{LineTable}
use Rattle.line_table.specs.Additions.{OthersStay}
use Rattle.line_table.specs.Placing as line_table
use Rattle.eh_frame.specs.Placing.{table_put, new_table, placed_there, placed_in, placed}
use Rattle.flow_graph.specs.AddedLabels.{IsStrongLabel, AddsLabels}
use Rattle.form_laws.proofs.Steps.{err-ok, same_Ok}

-- labels of places are labels, and none is weak
gets_labels : (before after : SymbolMap) → GetsLabels before after → AddsLabels before after
gets_labels before after gets = record {
  labels = gets.labels;
  all = gets.all;
  each = All-weaker (λ (label : Symbol). (at : SectionPlace) × (label.name ≡ place_name at) × IsLabelAt at label) IsStrongLabel
      (λ label is. record { spot = is.2.spot; means = is.2.means; strong = ap is_weak is.2.unbound }) gets.labels gets.each;
}

none_added : (map : SymbolMap) → AddsLabels map map
none_added map = record { labels = []; all = sym (append-nil map.symbols); each = All-nil IsStrongLabel }

-- labels are added up
pub adds_on : (before middle after : SymbolMap) → AddsLabels before middle → AddsLabels middle after → AddsLabels before after
adds_on before middle after first last = record {
  labels = first.labels ++ last.labels;
  all = last.all ∙ ap (λ (symbols : List Symbol). symbols ++ last.labels) first.all ∙ append_assoc before.symbols first.labels last.labels;
  each = All-append IsStrongLabel first.labels last.labels first.each last.each;
}

-- a line table adds labels alone
pub lines_add : OthersStay → (lines : LineTable) (tables after : Tables) → line_table.placed lines tables ≡ Ok after → AddsLabels tables.symbols after.symbols
lines_add stay lines tables after is = gets_labels tables.symbols after.symbols (stay.stays lines tables after is).gets

-- the law of tables
abbrev pub TablesGetLabels : Type 0
TablesGetLabels = (section : ℕ) (first : Frame) (frames : List Frame) (tables : Tables) → GetsLabels tables.symbols (table_put section first frames tables).symbols

module _ (law : TablesGetLabels) where
  put_adds : (section : ℕ) (first : Frame) (frames : List Frame) (tables after : Tables) → (let made : Result Tables FragCause = Ok (table_put section first frames tables) in made ≡ Ok after)
      → AddsLabels tables.symbols after.symbols
  put_adds section first frames tables after is =
      subst (λ (made : Tables). AddsLabels tables.symbols made.symbols) (same_Ok (table_put section first frames tables) after is)
      (gets_labels tables.symbols (table_put section first frames tables).symbols (law section first frames tables))

  held_adds : (section : ℕ) (b : Bool) (first : Frame) (frames : List Frame) (tables after : Tables) → cond b (Err BadSection) (Ok (table_put section first frames tables)) ≡ Ok after
      → AddsLabels tables.symbols after.symbols
  held_adds section true first frames tables after is = err-ok BadSection after is
  held_adds section false first frames tables after is = put_adds section first frames tables after is

  there_adds : (section : ℕ) (found : Option LooseSection) (first : Frame) (frames : List Frame) (tables after : Tables) → placed_there section found first frames tables ≡ Ok after
      → AddsLabels tables.symbols after.symbols
  there_adds section None first frames tables after is = err-ok BadSection after is
  there_adds section (Some held) first frames tables after is = held_adds section (takes_zeros_alone held) first frames tables after is

  in_adds : (number : Option ℕ) (first : Frame) (frames : List Frame) (tables after : Tables) → placed_in number first frames tables ≡ Ok after → AddsLabels tables.symbols after.symbols
  in_adds (Some section) first frames tables after is = there_adds section (slice_get tables.sections section) first frames tables after is
  in_adds None first frames tables after is =
      put_adds (length tables.sections) first frames (tables_of tables.symbols (tables.sections ++ new_table ∷ [])) after is

  -- a table adds labels alone
  pub table_adds : (frames : List Frame) (tables after : Tables) → placed frames tables ≡ Ok after → AddsLabels tables.symbols after.symbols
  unfolding placed
  table_adds [] tables after is = subst (λ (made : Tables). AddsLabels tables.symbols made.symbols) (same_Ok tables after is) (none_added tables.symbols)
  table_adds (frame ∷ frames) tables after is = in_adds (section_number (codes ".eh_frame") tables.sections) frame (frame ∷ frames) tables after is
