-- Data of numbers: the operands that are numbers, alone or where the statement stands, and the bytes that they make.
use Rattle.std.specs.Prelude.{◌≡◌, ℕ, zero, suc, ◌+◌, ◌-◌, ◌≤◌, not, Bool, true, false, List, [], ◌∷◌, length, take, drop, Option, None, Some, Result, Ok, if◌then◌else◌}
use Rattle.std.specs.List.{list_any, count_by, position_or_len}
use Rattle.asm_base.specs.Tokens.{SpelledToken}
use Rattle.asm_base.specs.Refusals.{◌>>=◌}
use Rattle.asm_base.specs.declared.positions.Pos.{Pos}
use Rattle.asm_expr.specs.Forms.{Form, constant_form}
use Rattle.asm_expr.specs.Linear.{linear}
use Rattle.asm_expr.specs.Trees.{Tree}
use Rattle.expr_texts.specs.Reading.{read, reading}
use Rattle.asm_frags.specs.declared.fields.FieldSize.{FieldSize}
use Rattle.asm_frags.specs.Fields.{fits, low_bytes}
use Rattle.asm_operands.specs.Constants.{IsConstant}
use Rattle.asm_operands.specs.declared.place_faults.PlaceCause.{PlaceCause}
use Rattle.asm_values.specs.DataItems.{put_forms, is_cut, cut_notes}
use Rattle.asm_operands.specs.Expressions.{expression_of, form_in}
use Rattle.asm_values.specs.declared.constant_data.Constant.{Constant}
use Rattle.asm_operands.specs.Operands.{is_comma, operands_of, each}
use Rattle.asm_uses.specs.declared.places.View.{View}
use Rattle.asm_uses.specs.KnownIn.{known_in}
use Rattle.asm_uses.specs.Places.{uses_place}
use Rattle.asm_uses.specs.Tables.{with_tree, with_trees, is_meant, are_meant}
use Rattle.asm_values.specs.State.{Placed, known_here, with_notes, put_bytes}

-- how many of one value do not fit: one or none
abbrev pub cut_of : FieldSize → ℕ → ℕ
cut_of size value = if not (fits size value) then 1 else 0

-- plain bytes last in the current section, where there are any
abbrev pub put_any : Pos → List ℕ → Placed → Result Placed PlaceCause
put_any pos [] placed = Ok placed
put_any pos (byte ∷ bytes) placed = put_bytes pos (byte ∷ bytes) placed

-- an operand ends in front of this token: a comma is here, or nothing
unfoldable pub ends_at : List SpelledToken → ℕ → Bool
ends_at [] at = true
ends_at (token ∷ rest) zero = is_comma token
ends_at (token ∷ rest) (suc at) = ends_at rest at

-- the operand that begins at this token ends in front of the found one, and is this number
pub record IsNumberAt (IsNumber : List SpelledToken → ℕ → Type 0) (tokens : List SpelledToken) (at : ℕ) (found : Constant) : Type 0 where
  pub within : found.end ≤ length tokens
  pub begins : at ≤ found.end
  pub ends : found.end ≡ at + position_or_len is_comma (drop at tokens)
  pub one : IsNumber (take (found.end - at) (drop at tokens)) found.value

-- a number that is found is that of the operand; where none is found nothing is said
abbrev pub FindsNumberAt : (List SpelledToken → ℕ → Type 0) → List SpelledToken → ℕ → Option Constant → Type 0
FindsNumberAt IsNumber tokens at (Some found) = IsNumberAt IsNumber tokens at found
FindsNumberAt IsNumber tokens at None = Unit {0}

-- where the statement stands, the operand is one expression that counts this number, and each of its names has a symbol already
pub record IsNumberHere (placed : Placed) (operand : List SpelledToken) (value : ℕ) : Type 0 where
  pub tree : Tree
  pub reads : reading 1 0 operand ≡ Ok (read tree [])
  pub counts : linear (known_here placed) tree ≡ Ok (constant_form value)
  pub names : (pos : Pos) → with_tree pos tree placed.table ≡ placed.table
  pub meant : is_meant placed.table.symbols.counts tree ≡ true

-- from these bytes and this count on, the operands make those bytes and that count where the statement stands: all are numbers, and each name has a symbol already
pub record MakesData (placed : Placed) (size : FieldSize) (operands : List (List SpelledToken)) (before : List ℕ) (cut_before : ℕ) (after : List ℕ) (cut_after : ℕ) : Type 0 where
  pub trees : List Tree
  pub forms : List Form
  pub reads : each expression_of operands ≡ Ok trees
  pub counts : each (form_in (known_here placed)) trees ≡ Ok forms
  pub names : (pos : Pos) → with_trees pos trees placed.table ≡ placed.table
  pub meant : are_meant placed.table.symbols.counts trees ≡ true
  pub away : (place : ℕ) → list_any (uses_place place) forms ≡ false
  pub held : (pos : Pos) → (put_any pos before placed >>= put_forms pos size forms) ≡ put_any pos after placed
  pub cut : cut_before + count_by (is_cut size) forms ≡ cut_after

-- bytes and a count that are found are what the operands make wherever a statement stands, all of which are numbers; where none are found nothing is said
abbrev pub FindsData : FieldSize → List SpelledToken → List ℕ → Option ℕ → Type 0
FindsData size tokens bytes (Some cut) = (placed : Placed) → MakesData placed size (operands_of tokens) [] 0 bytes cut
FindsData size tokens bytes None = Unit {0}

-- the view is what is known where a statement stands
pub record IsViewOf (view : View) (placed : Placed) : Type 0 where
  pub symbols : view.symbols.now ≡ placed.table.symbols
  pub known : known_in view ≡ known_here placed

-- the same as above where a statement stands that this view is of
abbrev pub FindsKnownData : View → FieldSize → List SpelledToken → List ℕ → Option ℕ → Type 0
FindsKnownData view size tokens bytes (Some cut) = (placed : Placed) → IsViewOf view placed → MakesData placed size (operands_of tokens) [] 0 bytes cut
FindsKnownData view size tokens bytes None = Unit {0}

-- the tokens are one operand, which is this number
pub record IsLone (tokens : List SpelledToken) (value : ℕ) : Type 0 where
  pub operands : operands_of tokens ≡ tokens ∷ []
  pub one : IsConstant tokens value

-- a value that is found is that of the one operand; where none is found nothing is said
abbrev pub FindsLone : List SpelledToken → Option ℕ → Type 0
FindsLone tokens (Some value) = IsLone tokens value
FindsLone tokens None = Unit {0}

-- the bytes of one number, and a note where it does not fit
abbrev pub put_lone : Pos → FieldSize → ℕ → Placed → Result Placed PlaceCause
put_lone pos size value placed = put_bytes pos (low_bytes size value) placed >>= λ put. Ok (with_notes (cut_notes pos (cut_of size value)) put)

-- the bytes of numbers, and a note for each value that does not fit
abbrev pub put_constants : Pos → List ℕ → ℕ → Placed → Result Placed PlaceCause
put_constants pos bytes cut placed = put_any pos bytes placed >>= λ put. Ok (with_notes (cut_notes pos cut) put)
