-- What a `.loc`, and a `.file` with a number, change: the line table, and of the symbols what naming their expressions does.
use Rattle.std.proofs.Common.{◌≡◌, ℕ, ◌^◌, ◌<◌, Bool, true, false, cond, List, [], ◌∷◌, Option, None, Some, Result, Ok, Err, refl, ap, subst, length, slice_get, IfSome}
use Rattle.std.specs.Prelude.{◌&&◌, ◌||◌, nat_le, not, IsSomeAnd}
use Rattle.std.specs.Result.{IfOk}
use Rattle.std.proofs.lemmas.List.Elements.{All-cons, All-nil}
use Rattle.asm_base.specs.declared.positions.Pos.{Pos}
use Rattle.asm_base.specs.Refusals.{◌>>=◌}
use Rattle.asm_base.specs.Tokens.{SpelledToken}
use Rattle.asm_expr.specs.Trees.{Tree}
use Rattle.asm_frags.specs.Writing.{LooseSection, takes_zeros_alone}
use Rattle.asm_operands.specs.declared.place_faults.PlaceCause.{PlaceCause}
use Rattle.asm_operands.specs.declared.place_faults.PlaceCause.TheVariants.{BadSymbolUse, BadSection}
use Rattle.asm_operands.specs.Expressions.{expression_of, form_in, constant_in}
use Rattle.asm_operands.specs.Operands.{each}
use Rattle.asm_symbols.specs.Interning.{is_within_limits}
use Rattle.asm_uses.specs.declared.tables.Naming.{Naming}
use Rattle.asm_uses.specs.Tables.{Table, naming_of, allowed}
use Rattle.asm_values.specs.State.{Placed, with_table, with_names, here, known_here}
use Rattle.line_directives.specs.declared.faults.LineTableCause.{LineTableCause}
use Rattle.line_directives.specs.declared.loc_lines.LocLine.{LocLine}
use Rattle.line_directives.specs.Order.{IsLineInRange}
use Rattle.line_directives.specs.Taking.{LineTable, LineDirective, numbered_file, loc, located, filed, taken}
use Rattle.line_rows.specs.Tables.{IsPath}
use Rattle.asm_line_tables.specs.Keeping.{FitsHere, OnlyLines}
use Rattle.asm_line_tables.specs.Numbers.{loc_line}
use Rattle.asm_line_tables.specs.Parts.{front, behind_front}
use Rattle.asm_line_tables.specs.Placing.{of_lines, with_lines, end_taking, takes_rows, take_loc, known_numbers, place_loc_words, place_loc, take_file, file_number, place_file_words, place_numbered_file}
use Rattle.asm_line_tables.specs.Words.{LocWords, loc_words, FileWords, paths_of, file_words}
use Rattle.asm_line_tables.proofs.RangeLemmas.{Leaves, made, refused, after, after_holding, bounded, all_in_range, all_paths}

-- where names are allowed the table stays
same_table : (naming : Naming) (table next : Table) → allowed naming table ≡ Ok next → next ≡ table
unfolding allowed
same_table naming table next is = by (naming.meant && (nat_le (length table.symbols.symbols) naming.before || is_within_limits table.symbols)) is
  where
    by : (test : Bool) → cond test (Ok table) (Err BadSymbolUse) ≡ Ok next → next ≡ table
    by true same = cc
    by false same = cc

-- a section that takes rows is there, and takes more than zeros
rows_taken : (found : Option LooseSection) → takes_rows found ≡ true → IsSomeAnd found (λ held. takes_zeros_alone held ≡ false)
rows_taken None takes = absurd cc
rows_taken (Some held) takes = by (takes_zeros_alone held) takes
  where
    by : (test : Bool) → not test ≡ true → test ≡ false
    by true never = absurd cc
    by false is = refl

module _ (pos : Pos) (placed : Placed) (trees : List Tree) where
  named : Placed
  named = with_names pos trees placed

  naming : Naming
  naming = naming_of trees placed.table

  -- a directive that fits and is taken
  ends : (directive : LineDirective) → FitsHere placed directive → (lines : LineTable) → taken directive placed.lines ≡ Ok lines
      → Leaves (OnlyLines pos placed) (end_taking naming lines named)
  unfolding named naming
  ends directive fits lines took = by (allowed naming named.table) refl
    where
      by : (names : Result Table PlaceCause) → allowed naming named.table ≡ names
          → Leaves (OnlyLines pos placed) (names >>= λ table. Ok (with_lines (with_table named table) lines))
      by (Ok table) is =
          let same : table ≡ named.table = same_table naming named.table table is in
          made _ (record {
            trees = trees;
            directives = directive ∷ [];
            lines = lines;
            names = subst (λ (next : Table). allowed naming named.table ≡ Ok next) same is;
            fit = All-cons (FitsHere placed) directive [] fits (All-nil (FitsHere placed));
            taken = ap (λ (found : Result LineTable LineTableCause). found >>= λ next. Ok next) took;
            is = ap (λ (next : Table). with_lines (with_table named next) lines) same;
          })
      by (Err fault) is = refused fault

  row_keeps : (line : LocLine) → IsLineInRange line → Leaves (OnlyLines pos placed) (take_loc naming line named)
  unfolding take_loc named
  row_keeps line in_range = by (located line (here placed).place placed.lines) refl (takes_rows (slice_get placed.sections placed.current)) refl
    where
      by : (found : Result LineTable LineTableCause) → located line (here placed).place placed.lines ≡ found
          → (test : Bool) → takes_rows (slice_get placed.sections placed.current) ≡ test
          → Leaves (OnlyLines pos placed) (of_lines found >>= λ lines. cond test (end_taking naming lines named) (Err BadSection))
      by (Ok lines) took true takes = ends (loc line (here placed).place) (in_range, (refl, rows_taken (slice_get placed.sections placed.current) takes)) lines took
      by (Ok lines) took false takes = refused BadSection
      by (Err cause) took test takes = refused _

  file_keeps : (number : ℕ) (directory : Option (List ℕ)) (name : List ℕ) → number < 2 ^ 16 → IfSome directory IsPath → IsPath name
      → Leaves (OnlyLines pos placed) (take_file naming pos number directory name named)
  unfolding take_file named
  file_keeps number directory name less first path = by (filed pos number directory name placed.lines) refl
    where
      by : (found : Result LineTable LineTableCause) → filed pos number directory name placed.lines ≡ found
          → Leaves (OnlyLines pos placed) (of_lines found >>= λ lines. end_taking naming lines named)
      by (Ok lines) took = ends (numbered_file pos number directory name) ((less, first, path), tt) lines took
      by (Err cause) took = refused _

words_keep : (pos : Pos) (placed : Placed) (words : LocWords)
    → Leaves (OnlyLines pos placed) (place_loc_words (naming_of words.trees placed.table) words (with_names pos words.trees placed))
unfolding known_numbers named naming
words_keep pos placed words =
    after_holding (known_numbers (known_here (with_names pos words.trees placed)) words)
    (after (each (form_in (known_here (with_names pos words.trees placed))) words.trees) (λ forms. after (each constant_in forms) (λ values. all_in_range words.marks words.kinds values)))
    (λ numbers in_range. row_keeps pos placed words.trees (loc_line numbers words.marks) in_range)

-- `.loc`
pub only_loc : (pos : Pos) (tokens : List SpelledToken) (placed : Placed) → IfOk (place_loc pos tokens placed) (OnlyLines pos placed)
unfolding place_loc
only_loc pos tokens placed =
    (after {Q = OnlyLines pos placed} (loc_words tokens) {f = λ words. place_loc_words (naming_of words.trees placed.table) words (with_names pos words.trees placed)}
    (words_keep pos placed)).holds

HasPaths : FileWords → Type 0
HasPaths words = IfSome words.directory IsPath × IsPath words.name

has_paths : (tokens : List SpelledToken) → Leaves HasPaths (file_words tokens)
unfolding file_words HasPaths
has_paths tokens = after (expression_of (front tokens)) (λ tree. after_holding (paths_of (behind_front tokens)) (all_paths (behind_front tokens)) (λ paths are. made _ are))

file_words_keep : (pos : Pos) (placed : Placed) (words : FileWords) → HasPaths words
    → Leaves (OnlyLines pos placed) (place_file_words (naming_of (words.number ∷ []) placed.table) pos words (with_names pos (words.number ∷ []) placed))
unfolding HasPaths named naming
file_words_keep pos placed words paths =
    let known = known_here (with_names pos (words.number ∷ []) placed) in
    after_holding (file_number known words.number)
    (after (form_in known words.number) (λ form. after (constant_in form) (bounded (2 ^ 16))))
    (λ number less. file_keeps pos placed (words.number ∷ []) number words.directory words.name less paths.0 paths.1)

-- `.file` with a number
pub only_file : (pos : Pos) (tokens : List SpelledToken) (placed : Placed) → IfOk (place_numbered_file pos tokens placed) (OnlyLines pos placed)
unfolding place_numbered_file
only_file pos tokens placed =
    (after_holding {P = HasPaths} {Q = OnlyLines pos placed} (file_words tokens)
    {f = λ words. place_file_words (naming_of (words.number ∷ []) placed.table) pos words (with_names pos (words.number ∷ []) placed)}
    (has_paths tokens) (file_words_keep pos placed)).holds
