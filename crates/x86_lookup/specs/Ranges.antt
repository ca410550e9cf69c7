-- Where the rows of a name stand.
use Rattle.std.specs.Prelude.{◌≡◌, ◌≤◌, ◌+◌, ◌==◌, ◌&&◌, ◌||◌, ◌∷◌, [], ℕ, nat_lt, nat_le, List, Bool, true, false, not, Option, Some, None, slice_get, length, if◌then◌else◌}
use Rattle.x86_lookup.specs.declared.spans.TheConstants.{SPANS}
use Rattle.x86_lookup.specs.declared.spans.Span.{Span}
use Rattle.x86_lookup.specs.declared.ranges.RowRange.{RowRange}
use Rattle.x86_table.specs.declared.forms.Row.{Row}
use Rattle.x86_table.specs.Rows.{the_rows}
use Rattle.x86_table.specs.Heads.{span}

-- where the rows of all names stand, in the order of their numbers
unfoldable pub the_spans : List Span
the_spans = SPANS

-- no rows
abbrev pub no_span : Span
no_span = record { first = 0; sizeless_end = 0; byte_end = 0; word_end = 0; long_end = 0; quad_end = 0 }

-- the span, or none
abbrev pub span_or : Option Span → Span
span_or None = no_span
span_or (Some span) = span

-- where the rows of the name of this number stand
unfoldable pub span_of : ℕ → Span
span_of name = span_or (slice_get the_spans name)

-- from one index on, before another
abbrev pub range : ℕ → ℕ → RowRange
range start stop = record { start = start; stop = stop }

-- all rows of a span
abbrev pub by_name : Span → RowRange
by_name span = range span.first span.quad_end

-- those of a size
abbrev pub by_size : Span → ℕ → RowRange
by_size span size = if size == 0 then range span.first span.sizeless_end else (if size == 8 then range span.sizeless_end span.byte_end else (if size == 16 then range span.byte_end span.word_end
    else (if size == 32 then range span.word_end span.long_end else (if size == 64 then range span.long_end span.quad_end else range 0 0))))

-- the index lies in the range
abbrev pub is_in : RowRange → ℕ → Bool
is_in rows i = nat_le rows.start i && nat_lt i rows.stop

-- the range lies in the table
pub record IsWithin (rows : RowRange) : Type 0 where
  pub start : rows.start ≤ rows.stop
  pub stop : rows.stop ≤ length the_rows

-- the row has the name of this number
abbrev pub is_named : ℕ → Row → Bool
is_named name r = r.name.0 == name

-- and this size
abbrev pub is_sized : ℕ → ℕ → Row → Bool
is_sized name size r = (r.name.0 == name) && (r.size == size)

-- just the rows that pass the test have an index in the range
abbrev pub AreRowsOf : (Row → Bool) → RowRange → Type 0
AreRowsOf test rows = (i : ℕ) (r : Row) → slice_get the_rows i ≡ Some r → is_in rows i ≡ test r

-- both are true, or none
abbrev pub agree : Bool → Bool → Bool
agree true b = b
agree false b = not b

-- a size of operands in bits, or 0
abbrev pub is_size : ℕ → Bool
is_size size = size == 0 || (size == 8 || (size == 16 || (size == 32 || size == 64)))

-- of the parts of the span, the index lies in that of the size alone
abbrev pub is_by_size : ℕ → ℕ → Span → Bool
is_by_size i size span = agree (is_in (by_size span 0) i) (size == 0) && (agree (is_in (by_size span 8) i) (size == 8) && (agree (is_in (by_size span 16) i) (size == 16)
    && (agree (is_in (by_size span 32) i) (size == 32) && (agree (is_in (by_size span 64) i) (size == 64) && is_size size))))

-- each row, the first one's index being i, lies in its size's part of its name's span
abbrev pub all_spanned : ℕ → List Row → Bool
all_spanned i [] = true
all_spanned i (r ∷ rows) = is_by_size i r.size (span_of r.name.0) && all_spanned (i + 1) rows

-- the parts of a span follow each other
abbrev pub is_ordered : Span → Bool
is_ordered span = nat_le span.first span.sizeless_end && (nat_le span.sizeless_end span.byte_end && (nat_le span.byte_end span.word_end && (nat_le span.word_end span.long_end && nat_le span.long_end span.quad_end)))

-- the spans follow each other, from one index on and up to another, and the parts of each do
abbrev pub all_ordered : ℕ → ℕ → List Span → Bool
all_ordered start stop [] = nat_le start stop
all_ordered start stop (span ∷ spans) = nat_le start span.first && (is_ordered span && all_ordered span.quad_end stop spans)
