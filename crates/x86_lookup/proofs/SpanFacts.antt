-- What holds of the spans of all names, computed over them and the rows once: these facts alone are proved again where a row changes.
use Rattle.std.proofs.Common.{◌≡◌, length, true, refl}
use Rattle.x86_table.specs.Rows.{the_rows}
use Rattle.x86_lookup.specs.Ranges.{the_spans, span_of, all_spanned, all_ordered}

pub spanned : all_spanned 0 the_rows ≡ true
unfolding the_rows the_spans span_of
spanned = refl

pub ordered : all_ordered 0 (length the_rows) the_spans ≡ true
unfolding the_rows the_spans
ordered = refl
