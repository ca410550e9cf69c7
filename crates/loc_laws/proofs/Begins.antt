-- Plain bytes that are put begin where their section ended: a run that begins with them has no size.
use Rattle.std.proofs.Common.{◌≡◌, ℕ, zero, suc, ◌+◌, List, [], ◌∷◌, ◌++◌, length, Option, None, Some, Result, Ok, Err, set, refl, sym, ap, ◌∙◌}
use Rattle.std.specs.Prelude.{slice_get}
use Rattle.std.specs.Option.{option_map_or}
use Rattle.std.proofs.lemmas.Option.{none-some}
use Rattle.asm_base.specs.declared.notes.Noted.{Noted}
use Rattle.asm_base.specs.declared.positions.Pos.{Pos}
use Rattle.asm_lines.specs.NextStatements.{TokenStatement}
use Rattle.asm_frags.specs.SectionOf.{SectionOf}
use Rattle.asm_frags.specs.Writing.{LooseSection, with_run}
use Rattle.asm_operands.specs.declared.place_faults.PlaceCause.{PlaceCause}
use Rattle.asm_place.specs.Instructions.{run_end, next_item, next_offset, IsContinued, with_more}
use Rattle.asm_place.specs.JumpPlaces.{items_so_far}
use Rattle.asm_place.specs.Placing.{place_tokens}
use Rattle.asm_place.specs.Sources.{pos_at, located, place}
use Rattle.asm_relax.specs.Settling.{LaidItem, LaidSections}
use Rattle.asm_values.specs.State.{Placed}
use Rattle.elf_object.specs.Places.{moved}
use Rattle.line_table.specs.Sequences.{place_in}
use Rattle.piece_laws.specs.LaidTables.{place_address}
use Rattle.place_laws.specs.Alignments.{RunsMoveNothing}
use Rattle.place_laws.specs.Ends.{items_in, AreFirst}

-- THE STATEMENT AND ITS TOKENS

tokens_of : (s : TokenStatement) (notes : List Noted) (answer : Result Placed PlaceCause) (next : Placed) → located s notes answer ≡ Ok next → answer ≡ Ok next
tokens_of s notes (Ok more) next is = let same : more ≡ next = cc in ap Ok same
tokens_of s notes (Err cause) next is = absurd (let none : ⊥ = cc in none)

pub tokens_placed : (s : TokenStatement) (placed next : Placed) → place s placed ≡ Ok next → place_tokens (pos_at s.file s.line) s.tokens placed ≡ Ok next
unfolding place
tokens_placed s placed next is = tokens_of s placed.notes (place_tokens (pos_at s.file s.line) s.tokens placed) next is

-- ELEMENTS OF LISTS

module _ {X : Type 0} where
  -- what is there is there in front of more
  get_first : (xs ys : List X) (index : ℕ) (x : X) → slice_get xs index ≡ Some x → slice_get (xs ++ ys) index ≡ Some x
  get_first [] ys index x is = absurd (none-some x is)
  get_first (y ∷ xs) ys zero x is = is
  get_first (y ∷ xs) ys (suc index) x is = get_first xs ys index x is

  -- what is set is there
  pub get_set : (xs : List X) (index : ℕ) (old new : X) → slice_get xs index ≡ Some old → slice_get (set xs index new) index ≡ Some new
  get_set [] index old new there = absurd (none-some old there)
  get_set (x ∷ xs) zero old new there = refl
  get_set (x ∷ xs) (suc index) old new there = get_set xs index old new there

-- ITEMS AND WHERE THEY STAND

-- items that a layout has with more behind them it has
pub first_before : (section : LooseSection) (later : Option LooseSection) (more : IsContinued section later) (items : List LaidItem)
    → AreFirst (with_more section more.bytes more.fields more.items) items → AreFirst section items
first_before section later more items all = record { each = λ index item found. all.each index item (get_first section.items more.items index item found) }

-- a place of the section that statements put into, behind so many of its items
abbrev pub address_behind : LaidSections → Placed → ℕ → ℕ
address_behind laid placed item = place_address laid (place_in placed.current (record { item = item; offset = next_offset placed }))

-- a run that begins with plain bytes leaves them where the section ended
pub run_begins : RunsMoveNothing → (pos : Pos) (laid : LaidSections) (placed : Placed) (section : LooseSection) → slice_get placed.sections placed.current ≡ Some section
    → AreFirst (with_run pos section) (items_in laid placed.current) → address_behind laid placed (next_item placed) ≡ address_behind laid placed (items_so_far placed)
run_begins runs pos laid placed section there = by (slice_get laid placed.current)
  where
    by : (found : Option (SectionOf LaidItem)) → AreFirst (with_run pos section) (option_map_or (λ (kept : SectionOf LaidItem). kept.items) found [])
        → option_map_or (λ (kept : SectionOf LaidItem). moved kept.items (next_item placed) (next_offset placed)) found 0
        ≡ option_map_or (λ (kept : SectionOf LaidItem). moved kept.items (items_so_far placed) (next_offset placed)) found 0
    by None first = refl
    by (Some kept) first =
        ap (λ (found : Option LooseSection). moved kept.items (option_map_or run_end found 0) (next_offset placed)) there
        ∙ ap (λ (shift : ℕ). next_offset placed + shift) (runs pos section kept.items first)
        ∙ ap (λ (found : Option LooseSection). moved kept.items (option_map_or (λ (held : LooseSection). length held.items) found 0) (next_offset placed)) (sym there)
