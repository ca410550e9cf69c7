-- What holds of every item.
use Rattle.std.proofs.Common.{◌≡◌, ℕ, zero, suc, ◌+◌, ◌-◌, ◌*◌, ◌%◌, ◌^◌, ◌≤◌, ◌==◌, ◌&&◌, not, min, Bool, true, false, cond, List, [], ◌∷◌, length, take, replicate, refl, sym, ap, ◌∙◌, arith, length-append}
use Rattle.std.specs.Prelude.{Option, None, Some}
use Rattle.std.specs.Int.{w32, to_le_bytes}
use Rattle.std.specs.List.{list_all}
use Rattle.std.proofs.lemmas.Bool.Decides.{nat_tests}
use Rattle.std.proofs.lemmas.List.{length-take, length-replicate}
use Rattle.item_bytes.specs.Levels.{jump_size, advance_size}
use Rattle.item_bytes.specs.declared.jumps.Condition.{Condition}
use Rattle.item_bytes.specs.Jumps.{number_of, is_conditional, jump_bytes}
use Rattle.item_bytes.specs.Leb128.{leb128_bytes}
use Rattle.item_bytes.specs.Advances.{advance_bytes}
use Rattle.item_bytes.specs.NoOperations.{no_operation, no_operations}
use Rattle.item_contents.specs.declared.kinds.Padding.{Padding}
use Rattle.item_contents.specs.declared.kinds.Padding.TheVariants.{Byte, NoOperations}
use Rattle.item_contents.specs.declared.kinds.Growth.{Growth}
use Rattle.item_contents.specs.declared.kinds.Growth.TheVariants.{Jump, Leb128, Advance}
use Rattle.item_contents.specs.declared.contents.Content.{Content}
use Rattle.item_contents.specs.declared.contents.Content.TheVariants.{Run, Fill, Align, Org, Growing}
use Rattle.item_contents.specs.ItemParts.{FillOf}
use Rattle.item_contents.specs.Zeros.{is_zero}
use Rattle.item_contents.specs.Contents.{unit_of, padding_bytes, grown_bytes, MayGrowTo, MayHave, bytes_of, is_known_zeros}
use Rattle.item_contents.proofs.Repeats.{length-repeated, list_all-repeated, list_all-replicate}

length-unit : (fill : FillOf) → length (unit_of fill) ≡ fill.size
unfolding unit_of
length-unit fill =
    let low : length (take fill.size (to_le_bytes w32 (fill.value % 2 ^ 32))) ≡ min fill.size 4 = length-take fill.size (to_le_bytes w32 (fill.value % 2 ^ 32)) in
    let high : length {A = ℕ} (replicate (fill.size - 4) 0) ≡ fill.size - 4 = length-replicate (fill.size - 4) 0 in
    omega (arith, length-append (take fill.size (to_le_bytes w32 (fill.value % 2 ^ 32))) (replicate (fill.size - 4) 0))

-- the sizes of the bytes of each kind, as the crate below tells them
module _ (no_operations_sized : (size : ℕ) → length (no_operations size) ≡ size)
    (jumps_sized : (condition : Option Condition) (near : Bool) (distance : ℕ) → length (jump_bytes condition near distance) ≡ jump_size (is_conditional condition) (cond near 1 0))
    (groups_sized : (signed : Bool) (value groups : ℕ) → length (leb128_bytes signed value groups) ≡ groups)
    (advances_sized : (level distance : ℕ) → level ≤ 4 → length (advance_bytes level distance) ≡ advance_size level) where
  padding_sized : (padding : Padding) (size : ℕ) → length (padding_bytes padding size) ≡ size
  padding_sized (Byte fill) size = length-replicate size fill
  padding_sized NoOperations size = no_operations_sized size

  near_levels : (conditional : Bool) (level size : ℕ) → level ≤ 1 → size ≡ jump_size conditional level → jump_size conditional (cond (not (size == 2)) 1 0) ≡ size
  near_levels conditional zero size within is = rw is refl
  near_levels true (suc zero) size within is = rw is refl
  near_levels false (suc zero) size within is = rw is refl
  near_levels conditional (suc (suc level)) size within is = absurd (omega arith)

  advance_levels : (level size : ℕ) → level ≤ 4 → size ≡ advance_size level → min size 4 ≡ level
  advance_levels zero size within is = rw is refl
  advance_levels (suc zero) size within is = rw is refl
  advance_levels (suc (suc zero)) size within is = rw is refl
  advance_levels (suc (suc (suc zero))) size within is = rw is refl
  advance_levels (suc (suc (suc (suc zero)))) size within is = rw is refl
  advance_levels (suc (suc (suc (suc (suc level))))) size within is = absurd (omega arith)

  grown_sized : (kind : Growth) (size value : ℕ) → MayGrowTo kind size → length (grown_bytes kind size value) ≡ size
  grown_sized (Jump condition) size value (level, within, is) =
      jumps_sized condition (not (size == 2)) value ∙ near_levels (is_conditional condition) level size within is
  grown_sized (Leb128 signed) size value (level, within, is) = groups_sized signed value (min size 10) ∙ (let few : min size 10 ≡ size = omega arith in few)
  grown_sized Advance size value (level, within, is) =
      advances_sized (min size 4) value (omega arith) ∙ (ap (λ (n : ℕ). advance_size n) (advance_levels level size within is) ∙ sym is)

  pub all_sized : (content : Content) (size value : ℕ) → MayHave content size → length (bytes_of content size value) ≡ size
  all_sized Run size value has = sym has
  all_sized (Fill held) size value has = length-repeated held.count (unit_of held) ∙ ap (λ (n : ℕ). held.count * n) (length-unit held) ∙ sym has
  all_sized (Align held) size value has = padding_sized held.padding size
  all_sized (Org held) size value has = length-replicate size held.fill
  all_sized (Growing held) size value has = grown_sized held.kind size value has

known_padding : (padding : Padding) (size : ℕ) → is_known_zeros (Align (record { log = 0; most = 0; padding = padding })) ≡ true → list_all is_zero (padding_bytes padding size) ≡ true
known_padding (Byte fill) size known = list_all-replicate is_zero size fill known
known_padding NoOperations size known = absurd cc

-- what is known to be zeros is zeros
pub known_zeros : (content : Content) (size value : ℕ) → is_known_zeros content ≡ true → list_all is_zero (bytes_of content size value) ≡ true
known_zeros Run size value known = refl
known_zeros (Fill held) size value known = list_all-repeated is_zero held.count (unit_of held) ∙ known
known_zeros (Align held) size value known = known_padding held.padding size known
known_zeros (Org held) size value known = list_all-replicate is_zero size held.fill known
known_zeros (Growing held) size value known = absurd cc

-- the item may have this size, and then is not zeros with this value
abbrev pub IsOther : Content → Type 0
IsOther content = (size value : ℕ) × (MayHave content size) × (list_all is_zero (bytes_of content size value) ≡ false)

other_padding : (log most : ℕ) (padding : Padding) → is_known_zeros (Align (record { log = log; most = most; padding = padding })) ≡ false
    → IsOther (Align (record { log = log; most = most; padding = padding }))
unfolding no_operations no_operation
other_padding log most (Byte fill) other = (1, 0, tt, rw other refl)
other_padding log most NoOperations other = (1, 0, tt, refl)

second_other : (first : ℕ) → list_all is_zero (first ∷ 1 ∷ []) ≡ false
second_other first = by (is_zero first)
  where
    by : (b : Bool) → (b && (false && true)) ≡ false
    by true = refl
    by false = refl

other_growth : (kind : Growth) (field : ℕ) → IsOther (Growing (record { kind = kind; field = field }))
unfolding jump_bytes leb128_bytes advance_bytes
other_growth (Jump None) field = (2, 0, (0, omega arith, refl), refl)
other_growth (Jump (Some condition)) field = (2, 1, (0, omega arith, refl), second_other (0x70 + number_of condition))
other_growth (Leb128 signed) field = (1, 1, (0, omega arith, refl), refl)
other_growth Advance field = (1, 0, (1, omega arith, refl), refl)

-- and what is not known to be is not, at some size and with some value
pub other_zeros : (content : Content) → is_known_zeros content ≡ false → IsOther content
other_zeros Run other = absurd cc
other_zeros (Fill held) other = (held.count * held.size, 0, refl, list_all-repeated is_zero held.count (unit_of held) ∙ other)
other_zeros (Align held) other = other_padding held.log held.most held.padding other
other_zeros (Org held) other = (1, 0, tt, rw other refl)
other_zeros (Growing held) other = other_growth held.kind held.field
