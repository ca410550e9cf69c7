-- A `.file` whose number is a number alone.
use Rattle.std.proofs.Common.{◌≡◌, ℕ, List, [], ◌∷◌, Option, Result, Ok, Err, refl, sym, ap, ◌∙◌}
use Rattle.asm_base.specs.declared.positions.Pos.{Pos}
use Rattle.asm_base.specs.Refusals.{◌>>=◌}
use Rattle.asm_base.specs.Tokens.{SpelledToken}
use Rattle.asm_expr.specs.Forms.{Form}
use Rattle.asm_expr.specs.Trees.{Tree}
use Rattle.asm_operands.specs.declared.place_faults.PlaceCause.{PlaceCause}
use Rattle.asm_operands.specs.Expressions.{constant_in}
use Rattle.asm_uses.specs.declared.tables.Naming.{Naming}
use Rattle.asm_uses.specs.Tables.{Table, naming_of}
use Rattle.asm_values.specs.ConstantOperands.{no_naming}
use Rattle.asm_values.specs.State.{Placed, with_table, with_names, known_here}
use Rattle.asm_line_tables.specs.Constants.{IsFrontNumber, place_file_number}
use Rattle.asm_line_tables.specs.Parts.{behind_front}
use Rattle.asm_line_tables.specs.Placing.{take_file, checked_number, place_file_words, place_numbered_file}
use Rattle.asm_line_tables.specs.Words.{FileWords, paths_of, file_words}
use Rattle.asm_line_tables.proofs.NumberLemmas.{nothing_named}

-- what is placed of these words
place : Pos → Placed → FileWords → Result Placed PlaceCause
place pos placed words = place_file_words (naming_of (words.number ∷ []) placed.table) pos words (with_names pos (words.number ∷ []) placed)

module _ (pos : Pos) (tokens behind : List SpelledToken) (value : ℕ) (placed : Placed) (one : IsFrontNumber tokens behind value) where
  words_so : (directory : Option (List ℕ)) (name : List ℕ) → place pos placed (record { number = one.tree; directory = directory; name = name })
      ≡ (checked_number value >>= λ number. take_file (no_naming placed.table) pos number directory name placed)
  unfolding place constant_in
  words_so directory name =
      let words : FileWords = record { number = one.tree; directory = directory; name = name } in
      ap (λ (naming : Naming). place_file_words naming pos words (with_names pos (one.tree ∷ []) placed)) (nothing_named (one.tree ∷ []) placed.table one.names)
      ∙ ap (λ (table : Table). place_file_words (no_naming placed.table) pos words (with_table placed table)) (one.names.names pos placed.table)
      ∙ ap (λ (made : Result Form PlaceCause). (made >>= λ form. constant_in form >>= checked_number) >>= λ number.
      take_file (no_naming placed.table) pos number directory name placed) (one.counts (known_here placed))

  pub file_so : place_file_number pos value behind placed ≡ place_numbered_file pos tokens placed
  unfolding place place_numbered_file file_words
  file_so = sym
      (ap (λ (read : Result Tree PlaceCause). (read >>= λ tree. paths_of (behind_front tokens) >>= λ paths.
      Ok (record { number = tree; directory = paths.0; name = paths.1 })) >>= place pos placed) one.reads
      ∙ ap (λ (rest : List SpelledToken). (paths_of rest >>= λ paths. Ok (record { number = one.tree; directory = paths.0; name = paths.1 })) >>= place pos placed) (sym one.rest)
      ∙ by (paths_of behind))
    where
      by : (paths : Result (Option (List ℕ) × List ℕ) PlaceCause)
          → ((paths >>= λ paths. Ok (record { number = one.tree; directory = paths.0; name = paths.1 })) >>= place pos placed)
          ≡ (paths >>= λ paths. checked_number value >>= λ number. take_file (no_naming placed.table) pos number paths.0 paths.1 placed)
      by (Ok paths) = words_so paths.0 paths.1
      by (Err fault) = refl
