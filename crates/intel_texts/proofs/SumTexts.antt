-- What the brackets hold is a sum of the address and its displacement.
use Rattle.std.proofs.Common.{◌≡◌, ℕ, zero, suc, ◌+◌, ◌-◌, ◌^◌, ◌==◌, ◌&&◌, ◌||◌, ◌<◌, nat_lt, Bool, true, false, cond, List, [], ◌∷◌, ◌++◌, Option, Some, None, length, slice_get, drop, codes, refl, sym, ap, subst, ◌∙◌, arith}
use Rattle.std.proofs.lemmas.Bool.{eqb-true}
use Rattle.std.proofs.lemmas.Bool.Decides.{nat_tests}
use Rattle.std.specs.Fmt.{decimal, digits}
use Rattle.asm_base.specs.Digits.{digit_of, number_after}
use Rattle.asm_base.specs.declared.tokens.TokenKind.TheVariants.{Name, Digits, Operator}
use Rattle.asm_base.specs.Tokens.{SpelledToken}
use Rattle.expr_texts.specs.Numbers.{numeral, spelled_number}
use Rattle.x86_insn.specs.declared.registers.Class.TheVariants as class
use Rattle.x86_insn.specs.declared.insns.Segment.{Segment}
use Rattle.x86_insn.specs.declared.insns.Base.{Base}
use Rattle.x86_insn.specs.declared.insns.Base.TheVariants as base
use Rattle.x86_insn.specs.declared.insns.Index.{Index}
use Rattle.x86_insn.specs.declared.insns.Index.TheVariants as index
use Rattle.x86_insn.specs.declared.insns.Address.{Address}
use Rattle.att_operands.specs.declared.registers.NamedRegister.{NamedRegister}
use Rattle.att_operands.specs.declared.registers.NamedRegister.TheVariants as named
use Rattle.att_operands.specs.Marks.{mark_by}
use Rattle.att_operands.specs.Registers.{register_of, register_names}
use Rattle.att_operands.specs.Addresses.{scale_by}
use Rattle.att_operands.specs.Values.{ValueText}
use Rattle.att_operands.specs.OperandTexts.{no_displacement}
use Rattle.att_operands.specs.Spells.{IsMark, WritesValue, in_segment}
use Rattle.intel_sums.specs.declared.parts.Part.TheVariants.{Plain, Scaled}
use Rattle.intel_sums.specs.declared.parts.Parts.{Parts}
use Rattle.intel_sums.specs.declared.parts.Parts.TheVariants.{Nothing, One, Two}
use Rattle.intel_sums.specs.Parts.{part_ends, part_in, with_part, address_of}
use Rattle.intel_sums.specs.OtherRegisters.{is_other_register}
use Rattle.intel_sums.specs.Sums.{plus_at, is_loose, is_register}
use Rattle.intel_sums.specs.Spells.{WritesPart, alone, times, WritesSum, done, register_next, summand, other}
use Rattle.intel_operands.specs.Words.{is_word, bits_in}
use Rattle.intel_operands.specs.OperandTexts.{Outline, stands, moved, summed_at, in_memory}
use Rattle.intel_operands.specs.Spells.{HoldsValue, of_address, of_displacement}
use Rattle.att_texts.specs.Pieces.{PrintedPiece, word, mark, word_kind, made, tokens_in}
use Rattle.att_texts.specs.Numbers.{is_positive, number_pieces, number_tree, place_pieces, place_tree}
use Rattle.att_texts.specs.AttOperands.{register_text}
use Rattle.att_texts.specs.Printable.{IsWidth, sixty_four, IsNumbered, IsIndexed, IsAddressed}
use Rattle.intel_texts.specs.Operands.{quad_piece, index_pieces, more_pieces, added_pieces, sum_pieces}
use Rattle.intel_texts.specs.Instructions.{bare, moved_text}
use Rattle.intel_texts.proofs.SharedLaws.{SharedLaws, low_rest}
use Rattle.intel_texts.proofs.DigitTexts.{IsDigits, number_token}
use Rattle.intel_texts.proofs.TokenTexts.{marks, word_mark}

-- a mark before another text is no part of the address
no_part_mark : (byte offset : ℕ) (rest : List SpelledToken) → register_of (byte ∷ []) ≡ None → (mark_by (slice_get rest 0) == 42) ≡ false
    → part_in (made Operator (byte ∷ []) offset ∷ rest) ≡ None
unfolding part_in
no_part_mark byte offset rest none star = rw (none, star) refl

-- nor are digits alone
no_part_digits : (d : SpelledToken) → IsDigits d → part_in (d ∷ []) ≡ None
unfolding part_in mark_by
no_part_digits d is = let none = is.own in rw none refl

-- `.` and a mark
no_part_here : (byte offset : ℕ) (rest : List SpelledToken) → (byte == 42) ≡ false → part_in (made Name (codes ".") offset ∷ made Operator (byte ∷ []) (offset + 1) ∷ rest) ≡ None
unfolding part_in mark_by register_of register_names
no_part_here byte offset rest star = rw star refl

no_names : (register_of (43 ∷ []) ≡ None) × (register_of (45 ∷ []) ≡ None)
unfolding register_of register_names
no_names = (refl, refl)

-- digits stay in the text of a sum
digits_left : (parts : Parts) (d : SpelledToken) → IsDigits d → WritesSum true 0 parts parts (d ∷ []) (d ∷ [])
digits_left parts d is =
    let none = is.mark in
    let plain = is.register in
    let tight = is.loose in
    other true 0 0 d parts parts [] [] (rw none refl) (rw (plain, tight) refl) (rw none refl) (done parts)

-- so does `-`
minus_left : (parts : Parts) (offset : ℕ) (left behind : List SpelledToken) → WritesSum true 0 parts parts left behind
    → WritesSum true 0 parts parts (made Operator (45 ∷ []) offset ∷ left) (made Operator (45 ∷ []) offset ∷ behind)
unfolding mark_by is_register is_loose
minus_left parts offset left behind rest = other true 0 0 (made Operator (45 ∷ []) offset) parts parts left behind refl refl refl rest

-- and `.`
here_left : (parts : Parts) (offset : ℕ) (left behind : List SpelledToken) → WritesSum true 0 parts parts left behind
    → WritesSum true 0 parts parts (made Name (codes ".") offset ∷ left) (made Name (codes ".") offset ∷ behind)
unfolding mark_by is_register is_loose register_of register_names is_other_register
here_left parts offset left behind rest = other true 0 0 (made Name (codes ".") offset) parts parts left behind refl refl refl rest

-- a `+` before what is no part of the address
plus_left : (parts : Parts) (offset : ℕ) (left behind : List SpelledToken) → part_in behind ≡ None → WritesSum true 0 parts parts left behind
    → WritesSum true 0 parts parts (made Operator (43 ∷ []) offset ∷ left) (made Operator (43 ∷ []) offset ∷ behind)
unfolding mark_by
plus_left parts offset left behind none rest = summand true (made Operator (43 ∷ []) offset) parts parts left behind refl none rest

-- the `[`
bracket_left : (parts : Parts) (offset : ℕ) (left behind : List SpelledToken) → part_in behind ≡ None → WritesSum true 0 Nothing parts left behind
    → WritesSum false 0 Nothing parts (made Operator (43 ∷ []) offset ∷ left) (made Operator (91 ∷ []) offset ∷ behind)
unfolding mark_by
bracket_left parts offset left behind none rest = summand false (made Operator (91 ∷ []) offset) Nothing parts left behind refl none rest

-- a number or a place is no part of the address, and stays in the text of a sum
pub record IsLeft (text : List SpelledToken) : Type 0 where
  pub apart : part_in text ≡ None
  pub writes : (parts : Parts) → WritesSum true 0 parts parts text text
  pub unled : (mark_by (slice_get text 0) == 43) ≡ false
  pub pointer : (at : ℕ) → is_word (codes "ptr") (slice_get (text ++ (made Operator (93 ∷ []) at ∷ [])) 1) ≡ false

digits_are_left : (d : SpelledToken) → IsDigits d → IsLeft (d ∷ [])
unfolding is_word
digits_are_left d is =
    let none = is.mark in
    record { apart = no_part_digits d is; writes = λ parts. digits_left parts d is; unled = rw none refl; pointer = λ at. refl }

negative_are_left : (d : SpelledToken) (offset : ℕ) → IsDigits d → IsLeft (made Operator (45 ∷ []) offset ∷ d ∷ [])
negative_are_left d offset is =
    let none = is.mark in
    let minus = marks 45 offset in
    record {
      apart = no_part_mark 45 offset (d ∷ []) no_names.1 (rw none refl);
      writes = λ parts. minus_left parts offset (d ∷ []) (d ∷ []) (digits_left parts d is);
      unled = rw minus refl;
      pointer = λ at. is.pointer;
    }

-- a number in decimal with its sign
pub number_left : (value offset : ℕ) → value < 2 ^ 64 → IsLeft (tokens_in offset (number_pieces 64 value))
unfolding number_pieces
number_left value offset fits = by (is_positive 64 value) refl
  where
    by : (b : Bool) → is_positive 64 value ≡ b → IsLeft (tokens_in offset (cond b (word (decimal value) ∷ []) (mark 45 ∷ word (decimal (2 ^ 64 - value)) ∷ [])))
    by true is = digits_are_left _ (number_token value offset fits)
    by false is = negative_are_left _ offset (number_token (2 ^ 64 - value) (offset + 1) (low_rest 64 value sixty_four is))

-- a place
here_are_left : (byte offset : ℕ) (rest : List SpelledToken) → (byte == 42) ≡ false → is_word (codes "ptr") (Some (made Operator (byte ∷ []) (offset + 1))) ≡ false
    → ((parts : Parts) → WritesSum true 0 parts parts (made Operator (byte ∷ []) (offset + 1) ∷ rest) (made Operator (byte ∷ []) (offset + 1) ∷ rest))
    → IsLeft (made Name (codes ".") offset ∷ made Operator (byte ∷ []) (offset + 1) ∷ rest)
unfolding mark_by
here_are_left byte offset rest unscaled second rest_writes = record {
  apart = no_part_here byte offset rest unscaled;
  writes = λ parts. here_left parts offset _ _ (rest_writes parts);
  unled = refl;
  pointer = λ at. second;
}

pub place_left : (value offset : ℕ) → value < 2 ^ 64 → IsLeft (tokens_in offset (place_pieces value))
unfolding place_pieces is_word
place_left value offset fits = by (is_positive 64 value) refl
  where
    by : (b : Bool) → is_positive 64 value ≡ b
        → IsLeft (tokens_in offset (cond b (word (codes ".") ∷ mark 43 ∷ word (decimal value) ∷ []) (word (codes ".") ∷ mark 45 ∷ word (decimal (2 ^ 64 - value)) ∷ [])))
    by true is =
        let d = number_token value (offset + 1 + 1) fits in
        here_are_left 43 offset _ refl refl (λ parts. plus_left parts (offset + 1) _ _ (no_part_digits _ d) (digits_left parts _ d))
    by false is =
        let d = number_token (2 ^ 64 - value) (offset + 1 + 1) (low_rest 64 value sixty_four is) in
        here_are_left 45 offset _ refl refl (λ parts. minus_left parts (offset + 1) _ _ (digits_left parts _ d))

-- what is added to parts of an address: the text that is left, of which the value is
pub record IsAdded (parts : Parts) (value : ValueText) (text : List SpelledToken) : Type 0 where
  pub left : List SpelledToken
  pub writes : WritesSum true 0 parts parts left text
  pub ends : part_ends (slice_get text 0) ≡ true
  pub holds : (branch : Bool) (bits : ℕ) (address : Address) → HoldsValue branch (summed_at bits 91 address left) (in_memory bits address value)
  pub pointer : (at : ℕ) → is_word (codes "ptr") (slice_get (text ++ (made Operator (93 ∷ []) at ∷ [])) 0) ≡ false

-- a value that is left after a `+`
left_behind_plus : (parts : Parts) (value : ValueText) (offset : ℕ) (text : List SpelledToken) → IsLeft text → WritesValue value text → IsAdded parts value (made Operator (43 ∷ []) offset ∷ text)
unfolding part_ends mark_by is_word
left_behind_plus parts value offset text is writes = record {
  left = made Operator (43 ∷ []) offset ∷ text;
  writes = plus_left parts offset text text is.apart (is.writes parts);
  ends = refl;
  holds = λ branch bits address. of_displacement branch bits address value text writes;
  pointer = λ at. refl;
}

-- a negative number
left_negative : (parts : Parts) (value : ValueText) (offset : ℕ) (d : SpelledToken) → IsDigits d → WritesValue value (made Operator (45 ∷ []) offset ∷ d ∷ [])
    → IsAdded parts value (made Operator (45 ∷ []) offset ∷ d ∷ [])
unfolding part_ends mark_by is_word
left_negative parts value offset d is writes = record {
  left = made Operator (45 ∷ []) offset ∷ d ∷ [];
  writes = (negative_are_left d offset is).writes parts;
  ends = refl;
  holds = λ branch bits address. of_displacement branch bits address value _ writes;
  pointer = λ at. refl;
}

-- nothing
left_nothing : (parts : Parts) → IsAdded parts no_displacement []
unfolding part_ends is_word
left_nothing parts = record { left = []; writes = done parts; ends = refl; holds = λ branch bits address. of_address branch bits address; pointer = λ at. refl }

nothing_added : (parts : Parts) (value : ℕ) → (value == 0) ≡ true → IsAdded parts (bare (number_tree 64 value)) []
unfolding number_tree
nothing_added parts value is = subst (λ (n : ℕ). IsAdded parts (bare (number_tree 64 n)) []) (sym (eqb-true value 0 is)) (left_nothing parts)

negative_pieces : (value : ℕ) → is_positive 64 value ≡ false → number_pieces 64 value ≡ mark 45 ∷ word (decimal (2 ^ 64 - value)) ∷ []
unfolding number_pieces
negative_pieces value is = rw is refl

negative_added : SharedLaws → (parts : Parts) (value offset : ℕ) → value < 2 ^ 64 → is_positive 64 value ≡ false → IsAdded parts (bare (number_tree 64 value)) (tokens_in offset (number_pieces 64 value))
negative_added laws parts value offset fits is =
    let pieces = negative_pieces value is in
    let writes = subst (λ (ps : List PrintedPiece). WritesValue (bare (number_tree 64 value)) (tokens_in offset ps)) pieces (laws.number 64 value offset sixty_four fits) in
    subst (λ (ps : List PrintedPiece). IsAdded parts (bare (number_tree 64 value)) (tokens_in offset ps)) (sym pieces)
    (left_negative parts (bare (number_tree 64 value)) offset _ (number_token (2 ^ 64 - value) (offset + 1) (low_rest 64 value sixty_four is)) writes)

-- a displacement after parts of an address
pub added_spelled : SharedLaws → (parts : Parts) (value offset : ℕ) → value < 2 ^ 64 → IsAdded parts (bare (number_tree 64 value)) (tokens_in offset (added_pieces value))
added_spelled laws parts value offset fits = by (value == 0) (is_positive 64 value) refl refl
  where
    by : (z p : Bool) → (value == 0) ≡ z → is_positive 64 value ≡ p
        → IsAdded parts (bare (number_tree 64 value)) (tokens_in offset (cond z [] (cond p (mark 43 ∷ number_pieces 64 value) (number_pieces 64 value))))
    by true p zero_is is = nothing_added parts value zero_is
    by false true zero_is is = left_behind_plus parts (bare (number_tree 64 value)) offset _ (number_left value (offset + 1) fits) (laws.number 64 value (offset + 1) sixty_four fits)
    by false false zero_is is = negative_added laws parts value offset fits is

-- scales
scales : (scale offset : ℕ) → scale < 4 → scale_by (Some (made (word_kind (decimal (2 ^ scale))) (decimal (2 ^ scale)) offset)) ≡ Some scale
unfolding scale_by digits spelled_number numeral digit_of number_after
scales zero offset fits = refl
scales (suc zero) offset fits = refl
scales (suc (suc zero)) offset fits = refl
scales (suc (suc (suc zero))) offset fits = refl
scales (suc (suc (suc (suc scale)))) offset fits = absurd (omega arith)

abbrev quad : ℕ → NamedRegister
quad number = named.Plain (record { class = class.Quad; number = number })

-- a register, and one with a scale, as parts
base_part : SharedLaws → (number offset : ℕ) → number < 16 → WritesPart (Plain (quad number)) (tokens_in offset (quad_piece number ∷ []))
base_part laws number offset fits = alone (quad number) _ (laws.named class.Quad number fits)

index_part : SharedLaws → (number scale offset : ℕ) → number < 16 → scale < 4 → WritesPart (Scaled (quad number) scale) (tokens_in offset (index_pieces number scale))
index_part laws number scale offset fits low =
    let name = length (register_text class.Quad number) in
    times (quad number) scale _ _ _ (laws.named class.Quad number fits) (marks 42 (offset + name)) (scales scale (offset + name + 1) low)

not_four : (number : ℕ) → (number ≡ 4 → ⊥) → (number == 4) ≡ false
not_four number is = by (number == 4) refl
  where
    by : (b : Bool) → (number == 4) ≡ b → b ≡ false
    by true same = absurd (is (grind (arith, nat_tests)))
    by false same = refl

-- the addresses of these parts
index_address : (segment : Option Segment) (number scale : ℕ) → (number ≡ 4 → ⊥) → address_of segment (One (Scaled (quad number) scale)) ≡ Some (in_segment segment base.Absent (index.By number scale))
unfolding address_of
index_address segment number scale is = let four = not_four number is in rw four refl

base_address : (segment : Option Segment) (number : ℕ) → address_of segment (One (Plain (quad number))) ≡ Some (in_segment segment (base.Of number) index.Absent)
unfolding address_of
base_address segment number = refl

both_address : (segment : Option Segment) (own number scale : ℕ) → (number ≡ 4 → ⊥)
    → address_of segment (Two (Plain (quad own)) (Scaled (quad number) scale)) ≡ Some (in_segment segment (base.Of own) (index.By number scale))
unfolding address_of
both_address segment own number scale is = let four = not_four number is in rw four refl

rip_address : (segment : Option Segment) → address_of segment (One (Plain named.Rip)) ≡ Some (in_segment segment base.Rip index.Absent)
unfolding address_of
rip_address segment = refl

no_address : (segment : Option Segment) → address_of segment Nothing ≡ Some (in_segment segment base.Absent index.Absent)
unfolding address_of
no_address segment = refl

rip_named : register_of (codes "rip") ≡ Some named.Rip
unfolding register_names register_of
rip_named = refl

-- the text after a `[` at this offset writes the sum of an address and a displacement
pub record IsSum (b : Base) (i : Index) (value : ValueText) (offset : ℕ) (text : List SpelledToken) : Type 0 where
  pub parts : Parts
  pub left : List SpelledToken
  pub writes : WritesSum false 0 Nothing parts left (made Operator (91 ∷ []) offset ∷ text)
  pub address : (segment : Option Segment) → address_of segment parts ≡ Some (in_segment segment b i)
  pub holds : (branch : Bool) (bits : ℕ) (address : Address) → HoldsValue branch (summed_at bits 91 address left) (in_memory bits address value)
  pub pointer : (at : ℕ) → is_word (codes "ptr") (slice_get (text ++ (made Operator (93 ∷ []) at ∷ [])) 1) ≡ false

opens : (offset : ℕ) → (mark_by (Some (made Operator (91 ∷ []) offset)) == 91) ≡ true
opens offset = let is = marks 91 offset in rw is refl

adds : (offset : ℕ) → (mark_by (Some (made Operator (43 ∷ []) offset)) == 43) ≡ true
adds offset = let is = marks 43 offset in rw is refl

plus_ends : (offset : ℕ) → part_ends (Some (made Operator (43 ∷ []) offset)) ≡ true
unfolding part_ends
plus_ends offset = let is = marks 43 offset in rw is refl

-- a number alone
number_sum : SharedLaws → (value offset : ℕ) → value < 2 ^ 64 → IsSum base.Absent index.Absent (bare (number_tree 64 value)) offset (tokens_in (offset + 1) (number_pieces 64 value))
unfolding mark_by
number_sum laws value offset fits =
    let text = tokens_in (offset + 1) (number_pieces 64 value) in
    let is = number_left value (offset + 1) fits in
    record {
      parts = Nothing;
      left = made Operator (43 ∷ []) offset ∷ text;
      writes = bracket_left Nothing offset text text is.apart (is.writes Nothing);
      address = no_address;
      holds = λ branch bits address. of_displacement branch bits address (bare (number_tree 64 value)) text (laws.number 64 value (offset + 1) sixty_four fits);
      pointer = is.pointer;
    }

-- an index
index_sum : SharedLaws → (number scale value offset : ℕ) → number < 16 → (number ≡ 4 → ⊥) → scale < 4 → value < 2 ^ 64
    → IsSum base.Absent (index.By number scale) (bare (number_tree 64 value)) offset (tokens_in (offset + 1) (index_pieces number scale ++ added_pieces value))
unfolding is_word
index_sum laws number scale value offset fits is low small =
    let behind = offset + 1 + length (register_text class.Quad number) + 1 + length (decimal (2 ^ scale)) in
    let parts = One (Scaled (quad number) scale) in
    let added = added_spelled laws parts value behind small in
    record {
      parts = parts;
      left = added.left;
      writes = register_next false (made Operator (91 ∷ []) offset) (Scaled (quad number) scale) Nothing parts added.left
          (tokens_in (offset + 1) (index_pieces number scale)) (tokens_in behind (added_pieces value)) _ (opens offset) (index_part laws number scale (offset + 1) fits low) added.ends added.writes refl;
      address = λ segment. index_address segment number scale is;
      holds = added.holds;
      pointer = λ at. refl;
    }

-- a base
base_sum : SharedLaws → (number value offset : ℕ) → number < 16 → value < 2 ^ 64
    → IsSum (base.Of number) index.Absent (bare (number_tree 64 value)) offset (tokens_in (offset + 1) (quad_piece number ∷ added_pieces value))
base_sum laws number value offset fits small =
    let behind = offset + 1 + length (register_text class.Quad number) in
    let parts = One (Plain (quad number)) in
    let added = added_spelled laws parts value behind small in
    record {
      parts = parts;
      left = added.left;
      writes = register_next false (made Operator (91 ∷ []) offset) (Plain (quad number)) Nothing parts added.left
          (tokens_in (offset + 1) (quad_piece number ∷ [])) (tokens_in behind (added_pieces value)) _ (opens offset) (base_part laws number (offset + 1) fits) added.ends added.writes refl;
      address = λ segment. base_address segment number;
      holds = added.holds;
      pointer = added.pointer;
    }

-- a base and an index
both_sum : SharedLaws → (own number scale value offset : ℕ) → own < 16 → number < 16 → (number ≡ 4 → ⊥) → scale < 4 → value < 2 ^ 64
    → IsSum (base.Of own) (index.By number scale) (bare (number_tree 64 value)) offset (tokens_in (offset + 1) (quad_piece own ∷ (mark 43 ∷ (index_pieces number scale ++ added_pieces value))))
unfolding is_word
both_sum laws own number scale value offset own_fits fits is low small =
    let plus = offset + 1 + length (register_text class.Quad own) in
    let behind = plus + 1 + length (register_text class.Quad number) + 1 + length (decimal (2 ^ scale)) in
    let parts = Two (Plain (quad own)) (Scaled (quad number) scale) in
    let added = added_spelled laws parts value behind small in
    let indexed = register_next true (made Operator (43 ∷ []) plus) (Scaled (quad number) scale) (One (Plain (quad own))) parts added.left
    (tokens_in (plus + 1) (index_pieces number scale)) (tokens_in behind (added_pieces value)) (tokens_in plus (mark 43 ∷ (index_pieces number scale ++ added_pieces value)))
    (adds plus) (index_part laws number scale (plus + 1) fits low) added.ends added.writes refl in
    record {
      parts = parts;
      left = added.left;
      writes = register_next false (made Operator (91 ∷ []) offset) (Plain (quad own)) Nothing parts added.left
          (tokens_in (offset + 1) (quad_piece own ∷ [])) (tokens_in plus (mark 43 ∷ (index_pieces number scale ++ added_pieces value))) _ (opens offset) (base_part laws own (offset + 1) own_fits) (plus_ends plus) indexed refl;
      address = λ segment. both_address segment own number scale is;
      holds = added.holds;
      pointer = λ at. refl;
    }

-- rip and a place
rip_sum : SharedLaws → (value offset : ℕ) → value < 2 ^ 64 → IsSum base.Rip index.Absent (bare (place_tree value)) offset (tokens_in (offset + 1) (word (codes "rip") ∷ mark 43 ∷ place_pieces value))
unfolding is_word
rip_sum laws value offset fits =
    let plus = offset + 1 + 3 in
    let parts = One (Plain named.Rip) in
    let added = left_behind_plus parts (bare (place_tree value)) plus (tokens_in (plus + 1) (place_pieces value)) (place_left value (plus + 1) fits) (laws.place value (plus + 1) fits) in
    record {
      parts = parts;
      left = added.left;
      writes = register_next false (made Operator (91 ∷ []) offset) (Plain named.Rip) Nothing parts added.left
          (tokens_in (offset + 1) (word (codes "rip") ∷ [])) (tokens_in plus (mark 43 ∷ place_pieces value)) _ (opens offset) (alone named.Rip _ rip_named) added.ends added.writes refl;
      address = rip_address;
      holds = added.holds;
      pointer = λ at. refl;
    }

-- what the brackets hold
pub sum_spelled : SharedLaws → (b : Base) (i : Index) (value offset : ℕ) → value < 2 ^ 64 → IsAddressed b i → IsSum b i (moved_text b value) offset (tokens_in (offset + 1) (sum_pieces b i value))
sum_spelled laws base.Absent index.Absent value offset fits ok = number_sum laws value offset fits
sum_spelled laws base.Absent (index.By number scale) value offset fits ok = index_sum laws number scale value offset ok.0 ok.1.0 ok.1.1 fits
sum_spelled laws base.Rip index.Absent value offset fits ok = rip_sum laws value offset fits
sum_spelled laws base.Rip (index.By number scale) value offset fits ok = absurd ok
sum_spelled laws (base.Of own) index.Absent value offset fits ok = base_sum laws own value offset ok.0 fits
sum_spelled laws (base.Of own) (index.By number scale) value offset fits ok = both_sum laws own number scale value offset ok.0 ok.1.0 ok.1.1.0 ok.1.1.1 fits
