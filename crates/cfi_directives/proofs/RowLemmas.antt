-- The CFA's offsets behind instructions, which stand for the rows.
use Rattle.std.proofs.Common.{◌≡◌, ℕ, ◌-◌, ◌<◌, ◌&&◌, nat_lt, Bool, true, false, List, [], ◌∷◌, ◌++◌, length, map, take, Option, None, Some, refl, sym, ◌∙◌, ap, arith, get_or}
use Rattle.std.specs.Prelude.{ℤ, slice_get, if◌then◌else◌}
use Rattle.std.specs.Option.{option_map, option_and_then}
use Rattle.std.proofs.lemmas.List.{length-map, map-append, take-map}
use Rattle.std.proofs.lemmas.Option.{slice_get-map, slice_get-get_or}
use Rattle.cfi_rows.specs.Rows.{Rows, rows_of, common_row, changed, with_rule, ruled, ops_after}
use Rattle.cfi_rows.specs.declared.rows.CfaRow.{CfaRow}
use Rattle.cfi_rows.specs.declared.rows.CfiOp.{CfiOp}
use Rattle.cfi_rows.specs.declared.rows.CfiOp.TheVariants.{DefCfa, DefCfaRegister, DefCfaOffset, Set, Restore, Remember, RestoreState}
use Rattle.cfi_rows.specs.declared.rows.Rule.{Rule}
use Rattle.cfi_rows.specs.declared.rows.Rule.TheVariants.{Unspecified}
use Rattle.cfi_directives.specs.declared.frames.PlacedOp.{PlacedOp}
use Rattle.cfi_directives.specs.Offsets.{Offsets, offsets_of, restored, moved}
use Rattle.cfi_directives.specs.Rows.{rows_after}
use Rattle.cfi_directives.specs.Writable.{is_writable, is_writable_rule}

-- instructions one behind the other
behind : (initial : CfaRow) (ops more : List CfiOp)
    → ((rows : Rows) → ops_after initial (ops ++ more) rows ≡ option_and_then (ops_after initial more) (ops_after initial ops rows))
    → (due : Option Rows) → option_and_then (ops_after initial (ops ++ more)) due
    ≡ option_and_then (ops_after initial more) (option_and_then (ops_after initial ops) due)
behind initial ops more below None = refl
behind initial ops more below (Some due) = below due

pub ops_after-append : (initial : CfaRow) (ops more : List CfiOp) (rows : Rows)
    → ops_after initial (ops ++ more) rows ≡ option_and_then (ops_after initial more) (ops_after initial ops rows)
ops_after-append initial [] more rows = refl
ops_after-append initial (op ∷ ops) more rows =
    behind initial ops more (ops_after-append initial ops more) (changed initial op rows)

-- one instruction more
last : (due : Option Rows) → option_and_then (ops_after common_row []) due ≡ due
last None = refl
last (Some rows) = refl

one_more : (op : CfiOp) (due : Option Rows) → option_and_then (ops_after common_row (op ∷ [])) due ≡ option_and_then (changed common_row op) due
one_more op None = refl
one_more op (Some rows) = last (changed common_row op rows)

pub rows_after-add : (ops : List PlacedOp) (placed : PlacedOp)
    → rows_after (ops ++ placed ∷ []) ≡ option_and_then (changed common_row placed.op) (rows_after ops)
rows_after-add ops placed =
    ap (λ all. ops_after common_row all (record { row = common_row; saved = [] })) (map-append (λ (placed : PlacedOp). placed.op) ops (placed ∷ []))
    ∙ ops_after-append common_row (map (λ placed. placed.op) ops) (placed.op ∷ []) (record { row = common_row; saved = [] })
    ∙ one_more placed.op (rows_after ops)

-- of two tests that both hold
left : (a b : Bool) → (a && b) ≡ true → a ≡ true
left true b both = refl
left false b both = both

below_64 : (number : ℕ) → nat_lt number 64 ≡ true → number < 64
below_64 number within = grind arith

-- a rule at a register keeps the offsets
ruled_moves : (rows : Rows) (number : ℕ) (rule : Rule) → nat_lt number 64 ≡ true
    → option_map offsets_of (ruled rows number (Some rule)) ≡ Some (offsets_of rows)
ruled_moves rows number rule within =
    ap (λ b. option_map offsets_of (if b then Some (record rows { row = with_rule rows.row number rule }) else None)) within

restore_moves : (rows : Rows) (number : ℕ) → nat_lt number 64 ≡ true
    → option_map offsets_of (ruled rows number (slice_get common_row.rules number)) ≡ Some (offsets_of rows)
restore_moves rows number within =
    ap (λ rule. option_map offsets_of (ruled rows number rule)) (slice_get-get_or common_row.rules number Unspecified (below_64 number within))
    ∙ ruled_moves rows number (get_or common_row.rules number Unspecified) within

abbrev pub offset_in : CfaRow → ℤ
offset_in row = row.offset

abbrev pub offsets_with : ℤ → List ℤ → Offsets
offsets_with offset remembered = record { current = offset; remembered = remembered }

-- a row more is remembered
remember_moves : (rows : Rows) (b : Bool)
    → option_map offsets_of (if b then Some (record rows { saved = rows.saved ++ rows.row ∷ [] }) else None)
    ≡ (if b then Some (offsets_with rows.row.offset (map offset_in rows.saved ++ rows.row.offset ∷ [])) else None)
remember_moves rows false = refl
remember_moves rows true = ap (λ all. Some (offsets_with rows.row.offset all)) (map-append offset_in rows.saved (rows.row ∷ []))

-- the last remembered row is in force again
restored_moves : (saved : List CfaRow) (count : ℕ) (got : Option CfaRow)
    → option_map offsets_of (option_map (λ row. rows_of row (take count saved)) got)
    ≡ option_map (λ offset. offsets_with offset (take count (map offset_in saved))) (option_map offset_in got)
restored_moves saved count None = refl
restored_moves saved count (Some row) = ap (λ all. Some (offsets_with row.offset all)) (sym (take-map offset_in count saved))

restore_state_moves : (saved : List CfaRow)
    → option_map offsets_of (option_map (λ row. rows_of row (take (length saved - 1) saved)) (slice_get saved (length saved - 1)))
    ≡ restored (map offset_in saved)
restore_state_moves saved =
    restored_moves saved (length saved - 1) (slice_get saved (length saved - 1))
    ∙ ap (option_map (λ offset. offsets_with offset (take (length saved - 1) (map offset_in saved)))) (sym (slice_get-map offset_in saved (length saved - 1)))
    ∙ ap (λ count. option_map (λ offset. offsets_with offset (take (count - 1) (map offset_in saved))) (slice_get (map offset_in saved) (count - 1))) (sym (length-map saved offset_in))

-- what an instruction makes of the rows, seen by the offsets
pub changed_moves : (op : CfiOp) (rows : Rows) → is_writable op ≡ true
    → option_map offsets_of (changed common_row op rows) ≡ moved op (offsets_of rows)
changed_moves (DefCfa number offset) rows writable = refl
changed_moves (DefCfaRegister number) rows writable = refl
changed_moves (DefCfaOffset offset) rows writable = refl
changed_moves (Set number rule) rows writable =
    ruled_moves rows number rule (left (nat_lt number 64) (is_writable_rule rule) writable)
changed_moves (Restore number) rows writable = restore_moves rows number writable
changed_moves Remember rows writable =
    remember_moves rows (nat_lt (length rows.saved) 16)
    ∙ ap (λ count. if nat_lt count 16 then Some (offsets_with rows.row.offset (map offset_in rows.saved ++ rows.row.offset ∷ [])) else None) (sym (length-map rows.saved offset_in))
changed_moves RestoreState rows writable = restore_state_moves rows.saved

-- the offsets of a procedure with an instruction more
pub tracked : (op : CfiOp) (due : Option Rows) (offsets : Offsets) → is_writable op ≡ true → option_map offsets_of due ≡ Some offsets
    → option_map offsets_of (option_and_then (changed common_row op) due) ≡ moved op offsets
tracked op None offsets writable known = grind arith
tracked op (Some rows) offsets writable known = changed_moves op rows writable ∙ ap (λ o. option_and_then (moved op) o) known
