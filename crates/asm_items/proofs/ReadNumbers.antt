-- One number that is read is all that the statement has.
use Rattle.std.proofs.Common.{◌≡◌, ℕ, Bool, false, List, [], ◌∷◌, Result, Ok, Err, refl, sym, ap, ◌∙◌}
use Rattle.asm_base.specs.declared.positions.Pos.{Pos}
use Rattle.asm_base.specs.Refusals.{◌>>=◌}
use Rattle.asm_base.specs.Tokens.{SpelledToken}
use Rattle.asm_expr.specs.Forms.{constant_form}
use Rattle.asm_expr.specs.Trees.{Tree}
use Rattle.asm_frags.specs.Sections.{put_into}
use Rattle.asm_frags.specs.Writing.{LooseSection, bytes_put}
use Rattle.asm_operands.specs.declared.place_faults.PlaceCause.{PlaceCause}
use Rattle.asm_operands.specs.Expressions.{expression_of, form_in}
use Rattle.asm_operands.specs.LayerFaults.{of_sections}
use Rattle.asm_operands.specs.Operands.{operands_of, each}
use Rattle.asm_operands.specs.Results.{all_steps}
use Rattle.asm_uses.specs.Places.{name_here}
use Rattle.asm_uses.specs.Tables.{Table, naming_of, allowed}
use Rattle.asm_values.specs.ConstantOperands.{no_naming, IsOnlyNumber}
use Rattle.asm_values.specs.State.{Placed, with_table, here, known_here, put_bytes, put_bytes_into}
use Rattle.item_bytes.specs.Leb128.{least_leb128}
use Rattle.asm_items.specs.Leb128Numbers.{put_number, put_numbers, put_leb128, leb128_of, leb128_read, some_expressions, place_leb128}

-- expressions that are read are some
some_read : (operands : List (List SpelledToken)) (tree : Tree) (trees : List Tree) → each expression_of operands ≡ Ok (tree ∷ trees)
    → some_expressions operands ≡ Ok (tree ∷ trees)
unfolding each
some_read [] tree trees is = cc
some_read (operand ∷ operands) tree trees is = is

-- one number that is read is placed
pub one_placed : (pos : Pos) (signed : Bool) (tokens : List SpelledToken) (tree : Tree) (placed : Placed) → each expression_of (operands_of tokens) ≡ Ok (tree ∷ [])
    → leb128_read pos signed (tree ∷ []) placed ≡ place_leb128 pos signed tokens placed
unfolding place_leb128
one_placed pos signed tokens tree placed is =
    sym (ap (λ read. read >>= λ trees. leb128_read pos signed trees placed) (some_read (operands_of tokens) tree [] is))

-- the only number is placed as its bytes
module _ (may : (table : Table) → allowed (no_naming table) table ≡ Ok table) (pos : Pos) (signed : Bool) (tokens : List SpelledToken) (value : ℕ) (placed : Placed)
    (one : IsOnlyNumber tokens value) where
  abbrev trees : List Tree
  trees = one.tree ∷ []

  -- it names nothing
  unnamed : leb128_read pos signed trees placed ≡ leb128_of pos signed trees (no_naming placed.table) placed
  unnamed =
      ap (λ table. leb128_of pos signed trees (naming_of trees placed.table) (with_table placed table)) (one.names.names pos placed.table)
      ∙ ap (λ meant. leb128_of pos signed trees (record { before = (no_naming placed.table).before; meant = meant }) placed) (one.names.meant placed.table.symbols.counts)

  -- its form is the number
  formed : leb128_of pos signed trees (no_naming placed.table) placed ≡ put_leb128 pos signed (no_naming placed.table) (constant_form value ∷ []) placed
  unfolding each
  formed =
      ap (λ form. (form >>= λ first. each (form_in (known_here placed)) [] >>= λ others. Ok (first ∷ others)) >>= λ forms.
      put_leb128 pos signed (no_naming placed.table) forms placed) (one.counts (known_here placed))

  ended : (put : Result (List LooseSection) PlaceCause)
      → (((put >>= λ sections. Ok (record placed { sections = sections })) >>= all_steps (put_number pos signed) []) >>= λ after.
      (allowed (no_naming placed.table) after.table >>= name_here pos (here placed) false) >>= λ table. Ok (with_table after table))
      ≡ (put >>= λ sections. Ok (record placed { sections = sections }))
  unfolding all_steps name_here
  ended (Ok sections) = ap (λ told. (told >>= name_here pos (here placed) false) >>= λ table. Ok (with_table (record placed { sections = sections }) table)) (may placed.table)
  ended (Err fault) = refl

  put : put_leb128 pos signed (no_naming placed.table) (constant_form value ∷ []) placed ≡ put_bytes pos (least_leb128 signed value) placed
  unfolding put_leb128 put_numbers all_steps name_here put_bytes_into
  put = ended (of_sections (put_into (bytes_put pos (least_leb128 signed value)) placed.sections placed.current))

  pub number_placed : put_bytes pos (least_leb128 signed value) placed ≡ place_leb128 pos signed tokens placed
  number_placed = sym (unnamed ∙ (formed ∙ put)) ∙ one_placed pos signed tokens one.tree placed one.reads
