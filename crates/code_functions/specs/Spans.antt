-- Functions as parts of the lists of their sections' items.
use Rattle.std.specs.Prelude.{◌≤◌, ◌<◌, ℕ, List, drop, length, slice_range, Option, None, Some, option_map}
use Rattle.code_functions.specs.declared.spans.SpanEnd.{SpanEnd}
use Rattle.code_functions.specs.declared.spans.FunctionSpan.{FunctionSpan}
use Rattle.code_functions.specs.Lists.{items_in}
use Rattle.code_functions.specs.Recorded.{Recorded}

-- the items from so many on to the end, or to the last one there so far
abbrev pub part_to : {A : Type 0} → List A → (from : ℕ) → Option SpanEnd → List A
part_to items from None = drop from items
part_to items from (Some stop) = slice_range items from stop.count

-- the function of a span, where its section has these items
abbrev pub recorded_in : {A : Type 0} → List A → FunctionSpan → Recorded A
recorded_in items span = record {
  symbol = span.symbol;
  pos = span.pos;
  section = span.section;
  start = span.start;
  stop = option_map (λ stop. stop.place) span.end;
  items = part_to items span.from span.end;
}

-- the function of a span
abbrev pub recorded : {A : Type 0} → List (List A) → FunctionSpan → Recorded A
recorded lists span = recorded_in (items_in lists span.section) span

-- the end is behind so many items, and before no more than these
abbrev pub EndsWithin : (from all : ℕ) → Option SpanEnd → Type 0
EndsWithin from all None = from ≤ all
EndsWithin from all (Some stop) = (from ≤ stop.count) × (stop.count ≤ all)

-- the section of the span has a list, and the span stands within it
pub record IsKept {A : Type 0} (lists : List (List A)) (span : FunctionSpan) : Type 0 where
  pub there : span.section < length lists
  pub within : EndsWithin span.from (length (items_in lists span.section)) span.end
