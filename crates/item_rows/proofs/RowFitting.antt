-- Rows of items fit among the others, and can be laid out.
use Rattle.std.proofs.Common.{◌≡◌, ◌⊎◌, inl, inr, ℕ, ◌+◌, ◌-◌, ◌*◌, ◌^◌, ◌<◌, ◌≤◌, ◌&&◌, Bool, true, false, cond, List, [], ◌∷◌, ◌++◌, Option, None, Some, length, get_or, arith, sym, subst, length-append}
use Rattle.std.specs.Prelude.{All}
use Rattle.std.proofs.Math.Nat.{pow-le-pow_right, eq-or-lt_of_le, mul-le-mul}
use Rattle.std.proofs.Math.Seq.{get_or-append_seam}
use Rattle.std.proofs.lemmas.List.{get_or_append_left}
use Rattle.item_bytes.specs.Jumps.{is_conditional}
use Rattle.item_contents.specs.declared.kinds.Growth.{Growth}
use Rattle.item_contents.specs.declared.kinds.Growth.TheVariants as growth
use Rattle.asm_levels.specs.declared.distances.Distance.{Distance}
use Rattle.asm_levels.specs.declared.rows.RowSize.TheVariants.{Fixed, Align, Org, End}
use Rattle.asm_levels.specs.declared.rows.Row.{Row}
use Rattle.asm_levels.specs.Sizes.{most_bytes}
use Rattle.item_bytes.specs.Levels.{near_size}
use Rattle.asm_levels.specs.Standing.{RowStands, AllStand}
use Rattle.asm_expr.specs.Forms.{Form}
use Rattle.asm_symbols.specs.SymbolMap.{SymbolMap}
use Rattle.asm_frags.specs.declared.fields.Field.{Field}
use Rattle.asm_frags.specs.Fields.{is_distance}
use Rattle.row_distances.specs.declared.places.OwnPlace.{OwnPlace}
use Rattle.row_distances.specs.FormDistances.{NamesFew, distance_of}
use Rattle.item_rows.specs.Links.{is_linked}
use Rattle.item_rows.specs.ItemRows.{RowsIn, own_of, field_distance, grown_row}
use Rattle.item_rows.specs.RowBounds.{SizeFits, RowFits, AllFit}

pub fixed_fits : (count number bytes : ℕ) → bytes ≤ 2 ^ 34 → SizeFits count number (Fixed bytes)
unfolding most_bytes
fixed_fits count number bytes few = record { align = tt; org = tt; names = tt; few = few }

pub few_units : (count size : ℕ) → count ≤ 2 ^ 30 → size ≤ 8 → count * size ≤ 2 ^ 34
few_units count size few small = let all = mul-le-mul few small in omega arith

pub align_fits : (count number log most : ℕ) → log ≤ 30 → SizeFits count number (Align log most)
unfolding most_bytes
align_fits count number log most low = record {
  align = low;
  org = tt;
  names = tt;
  few = (let two : 0 < 2 = omega arith in let small : 2 ^ log ≤ 2 ^ 30 = pow-le-pow_right two low in omega arith);
}

pub org_fits : (count number between ahead behind : ℕ) → ahead ≤ 2 ^ 34 → SizeFits count number (Org (number - between) ahead behind)
unfolding most_bytes
org_fits count number between ahead behind few = record { align = tt; org = (let own : number - between < number + 1 = omega arith in own); names = tt; few = few }

near_few : (conditional : Bool) → near_size conditional ≤ 2 ^ 34
near_few true = omega arith
near_few false = omega arith

-- what grows names the rows of its distance
pub grown_fits : (count number : ℕ) (kind : Growth) (distance : Option Distance) → NamesFew count distance → SizeFits count number (grown_row kind distance)
unfolding most_bytes
grown_fits count number (growth.Jump condition) None names = fixed_fits count number (near_size (is_conditional condition)) (near_few (is_conditional condition))
grown_fits count number (growth.Jump condition) (Some distance) names = record { align = tt; org = tt; names = names; few = omega arith }
grown_fits count number (growth.Leb128 signed) None names = fixed_fits count number 1 (omega arith)
grown_fits count number (growth.Leb128 signed) (Some distance) names = record { align = tt; org = tt; names = names; few = omega arith }
grown_fits count number growth.Advance None names = fixed_fits count number 0 (omega arith)
grown_fits count number growth.Advance (Some distance) names = record { align = tt; org = tt; names = names; few = omega arith }

-- the distance of a field names rows that are there
pub field_names : (rows : RowsIn) (field : Field)
    → ((map : SymbolMap) (own : OwnPlace) (starts : List ℕ) (count : ℕ) (made : Form) → NamesFew count (distance_of map own starts count made))
    → NamesFew rows.count (field_distance rows field)
field_names rows field stands = by (is_distance field.role.kind && is_linked rows.map field)
  where
    by : (linked : Bool) → NamesFew rows.count (cond linked None (distance_of rows.map (own_of field) rows.starts rows.count field.form))
    by true = tt
    by false = stands rows.map (own_of field) rows.starts rows.count field.form

-- the end mark of a section
pub end_fits : (count number offset : ℕ) → offset ≤ 2 ^ 33 → RowFits count number (record { offset = offset; size = End })
unfolding most_bytes
end_fits count number offset small = record { size = record { align = tt; org = tt; names = tt; few = omega arith }; offset = small }

-- rows that fit among as many as there are can be laid out
pub rows_stand : (count : ℕ) (rows : List Row) → AllFit count rows → length rows ≡ count → AllStand rows
rows_stand count rows fit all index default inside =
    let one = fit.each index default inside in
    subst (λ (n : ℕ). RowStands n index (get_or rows index default)) (sym all) (record { align = one.size.align; org = one.size.org; names = one.size.names; offset = one.offset })

-- and have few bytes
pub rows_small : (count : ℕ) (rows : List Row) → AllFit count rows → All (λ row. most_bytes row.size ≤ 2 ^ 34) rows
rows_small count rows fit index default inside = (fit.each index default inside).size.few

-- a row more
pub fit_more : (count : ℕ) (rows all : List Row) (row : Row) → AllFit count rows → RowFits count (length rows) row → length rows + 1 < 2 ^ 28 → all ≡ rows ++ row ∷ [] → AllFit count all
fit_more count rows all row fit one few is = rw is (record {
  each = λ index default inside. at index default (omega (arith, length-append rows (row ∷ [])));
  few = omega (arith, length-append rows (row ∷ []));
})
  where
    by_order : (index : ℕ) (default : Row) → (index ≡ length rows) ⊎ (index < length rows) → RowFits count index (get_or (rows ++ row ∷ []) index default)
    by_order index default (inl last) = rw (last, get_or-append_seam rows row [] default) one
    by_order index default (inr before) = rw (get_or_append_left rows (row ∷ []) default index before) (fit.each index default before)

    at : (index : ℕ) (default : Row) → index < length rows + 1 → RowFits count index (get_or (rows ++ row ∷ []) index default)
    at index default inside = by_order index default (eq-or-lt_of_le (let within : index ≤ length rows = omega arith in within))

-- no rows
pub none_fit : (count : ℕ) (rows : List Row) → rows ≡ [] → AllFit count rows
none_fit count rows none = rw none (record { each = λ index default inside. absurd (omega arith); few = omega arith })
