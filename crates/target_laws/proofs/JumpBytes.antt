-- The bytes of jumps by the sizes of their items, and their values.
use Rattle.std.proofs.Common.{◌≡◌, ℕ, zero, suc, ◌%◌, ◌^◌, ◌<◌, ◌≤◌, not, Bool, true, false, cond, Option, Some, None, Ok, length, refl, sym, ap, ◌∙◌, subst, arith}
use Rattle.std.specs.Prelude.{◌==◌, option_map}
use Rattle.asm_symbols.specs.SymbolMap.{SymbolMap}
use Rattle.asm_frags.specs.declared.fields.Field.{Field}
use Rattle.asm_frags.specs.Fields.{is_distance}
use Rattle.item_bytes.specs.declared.jumps.Condition.{Condition}
use Rattle.item_bytes.specs.Jumps.{is_conditional, jump_bytes, jump_distance}
use Rattle.item_bytes.specs.Levels.{jump_size, IsSignedWithin}
use Rattle.item_contents.specs.declared.kinds.Growth.TheVariants.{Jump}
use Rattle.item_contents.specs.Contents.{level_size}
use Rattle.asm_expr.specs.Settled.{settled, constant_left}
use Rattle.asm_relax.specs.FieldValues.{less, counted_bytes, counted, told_in_field, held_value}
use Rattle.asm_relax.specs.ItemValues.{HasRoom}
use Rattle.asm_relax.specs.RangeChecks.{first_fault}
use Rattle.asm_relax.specs.Settling.{LaidSections, LooseSections, planned, unless, settled_sections, layout_of}

-- what is known of the bytes of jumps
pub record JumpCodes : Type 0 where
  pub sized : (condition : Option Condition) (near : Bool) (distance : ℕ) → length (jump_bytes condition near distance) ≡ jump_size (is_conditional condition) (cond near 1 0)
  pub short : (condition : Option Condition) (distance : ℕ) → distance < 2 ^ 64 → IsSignedWithin (2 ^ 7) distance
      → jump_distance false (jump_bytes condition false distance) ≡ distance
  pub near : (condition : Option Condition) (distance : ℕ) → distance < 2 ^ 64 → IsSignedWithin (2 ^ 31) distance
      → jump_distance true (jump_bytes condition true distance) ≡ distance

-- the size of a near jump is not that of a short one
pub not_short : (condition : Option Condition) (size level : ℕ) → size ≡ jump_size (is_conditional condition) (suc level) → not (size == 2) ≡ true
not_short None size level is = ap (λ n. not (n == 2)) is
not_short (Some condition) size level is = ap (λ n. not (n == 2)) is

-- the bytes of a jump are as many as the size of its level
pub length_is : JumpCodes → (condition : Option Condition) (size level value : ℕ) → size ≡ level_size (Jump condition) level
    → length (jump_bytes condition (not (size == 2)) value) ≡ size
length_is codes condition size zero value is =
    let near : not (size == 2) ≡ false = ap (λ n. not (n == 2)) is in
    codes.sized condition (not (size == 2)) value ∙ ap (λ b. jump_size (is_conditional condition) (cond b 1 0)) near ∙ sym is
length_is codes condition size (suc level) value is =
    let near = not_short condition size level is in
    codes.sized condition (not (size == 2)) value ∙ ap (λ b. jump_size (is_conditional condition) (cond b 1 0)) near ∙ sym is

-- a value for which there is room is held whole
pub value_held : JumpCodes → (condition : Option Condition) (size level value : ℕ) → value < 2 ^ 64 → IsSignedWithin (2 ^ 31) value → size ≡ level_size (Jump condition) level
    → HasRoom (Jump condition) level value → jump_distance (not (size == 2)) (jump_bytes condition (not (size == 2)) value) ≡ value
value_held codes condition size zero value low fits is room =
    let near : not (size == 2) ≡ false = ap (λ n. not (n == 2)) is in
    ap (λ b. jump_distance b (jump_bytes condition b value)) near ∙ codes.short condition value low (room refl)
value_held codes condition size (suc level) value low fits is room =
    let near = not_short condition size level is in
    ap (λ b. jump_distance b (jump_bytes condition b value)) near ∙ codes.near condition value low fits

-- a near jump has five bytes at least
pub near_long : (condition : Option Condition) (size : ℕ) → size ≡ level_size (Jump condition) 1 → 5 ≤ size
near_long None size is = omega (arith, is)
near_long (Some condition) size is = omega (arith, is)

-- THE VALUE OF ITS FIELD

wrapped_low : (n : ℕ) → n % 2 ^ 64 < 2 ^ 64
wrapped_low n = omega arith

counted_low : (distance : Bool) (value taken : ℕ) → distance ≡ true → cond distance (less value taken) value < 2 ^ 64
counted_low true value taken is = wrapped_low _
counted_low false value taken is = absurd cc

found_low : (field : Field) (found : Option ℕ) (value : ℕ) → is_distance field.role.kind ≡ true → option_map (counted field.size field.role) found ≡ Some value → value < 2 ^ 64
found_low field None value kind is = absurd cc
found_low field (Some n) value kind is =
    let same : counted field.size field.role n ≡ value = cc in
    subst (λ m. m < 2 ^ 64) same (counted_low (is_distance field.role.kind) n (counted_bytes field.size field.role) kind)

-- a distance is a number modulo 2^64
pub held_low : (symbols : SymbolMap) (laid : LaidSections) (field : Field) (value : ℕ) → is_distance field.role.kind ≡ true → held_value symbols laid field ≡ Some value → value < 2 ^ 64
unfolding held_value
held_low symbols laid field value kind is = found_low field (constant_left (settled (told_in_field symbols laid field) field.form)) value kind is

-- WHERE THERE IS A LAYOUT

unless_is : {A E : Type 0} (fault : Option E) (made answer : A) → unless fault made ≡ Ok answer → answer ≡ made
unless_is None made answer e = cc
unless_is (Some fault) made answer e = absurd cc

unless_none : {A E : Type 0} (fault : Option E) (made answer : A) → unless fault made ≡ Ok answer → fault ≡ None
unless_none None made answer e = refl
unless_none (Some fault) made answer e = absurd cc

-- it has no fault
pub layout_fine : (symbols : SymbolMap) (sections : LooseSections) (laid : LaidSections) → layout_of symbols sections ≡ Ok laid → first_fault symbols laid ≡ None
layout_fine symbols sections laid e =
    let all = settled_sections symbols (planned symbols sections) in
    ap (first_fault symbols) (unless_is (first_fault symbols all) all laid e) ∙ unless_none (first_fault symbols all) all laid e
