-- Numbers and places are spelled by their pieces.
use Rattle.std.proofs.Common.{◌≡◌, ℕ, ◌+◌, ◌-◌, ◌^◌, ◌<◌, ◌≤◌, ◌||◌, Bool, true, false, cond, List, [], ◌∷◌, Some, None, codes, refl, arith}
use Rattle.std.proofs.lemmas.Bool.{and_parts}
use Rattle.std.proofs.lemmas.Bool.Decides.{nat_tests}
use Rattle.std.specs.List.{list_all}
use Rattle.std.specs.Char.{is_ascii_digit}
use Rattle.std.specs.Fmt.{decimal}
use Rattle.asm_base.specs.ByteClasses.{is_name_start}
use Rattle.asm_base.specs.declared.tokens.TokenKind.TheVariants.{Name, Digits, Operator}
use Rattle.asm_expr.specs.declared.trees.UnaryOp.TheVariants.{Minus}
use Rattle.asm_expr.specs.declared.trees.BinaryOp.{BinaryOp}
use Rattle.asm_expr.specs.declared.trees.BinaryOp.TheVariants.{Add, Sub}
use Rattle.asm_expr.specs.Trees.{Tree, number, here, unary, binary, height}
use Rattle.expr_texts.specs.Operators.{prefix_by, operator_byte, operator_by, level_of}
use Rattle.expr_texts.specs.Leaves.{leaf_of}
use Rattle.expr_texts.specs.Grammar.{Writes, leaf, prefixed, between}
use Rattle.att_texts.proofs.DigitTexts.{Spells, decimal_spells, decimal_leaf, name_bytes_of_digits}
use Rattle.att_operands.specs.Values.{ValueText}
use Rattle.att_operands.specs.Spells.{WritesValue, plain}
use Rattle.att_texts.specs.Pieces.{word, mark, word_kind, made, tokens_in, is_word}
use Rattle.att_texts.specs.Numbers.{is_positive, number_pieces, number_tree, place_pieces, place_tree, bare}
use Rattle.att_texts.specs.Printable.{IsWidth, eight, sixteen, thirty_two, sixty_four}

-- the digits of a number are a word, and a token of digits
pub record IsNumber (text : List ℕ) : Type 0 where
  pub kind : word_kind text ≡ Digits
  pub word : is_word text ≡ true

or_is : (a b : Bool) → b ≡ true → (a || b) ≡ true
or_is true b is = refl
or_is false b is = is

digits_are : (n : ℕ) (text : List ℕ) → Spells n text → IsNumber text
digits_are n [] spells = absurd (let some = spells.some in omega arith)
digits_are n (first ∷ rest) spells =
    let parts = and_parts (is_ascii_digit first) (list_all is_ascii_digit rest) spells.ascii in
    let begins = or_is (is_name_start first) (is_ascii_digit first) parts.0 in
    let goes = name_bytes_of_digits rest parts.1 in
    record { kind = rw (parts.0) refl; word = rw (begins, goes) refl }

pub decimal_is : (n : ℕ) → n < 2 ^ 64 → IsNumber (decimal n)
decimal_is n fits = digits_are n (decimal n) (decimal_spells n fits)

number_writes : (most level n offset : ℕ) → n < 2 ^ 64 → Writes most (number n) level (made (word_kind (decimal n)) (decimal n) offset ∷ [])
unfolding leaf_of
number_writes most level n offset fits =
    let is = (decimal_is n fits).kind in
    leaf most level (number n) (made (word_kind (decimal n)) (decimal n) offset) (rw is (decimal_leaf n fits))

positive_writes : (n offset : ℕ) → n < 2 ^ 64 → WritesValue (bare (number n)) (tokens_in offset (word (decimal n) ∷ []))
unfolding height
positive_writes n offset fits = plain (number n) (tokens_in offset (word (decimal n) ∷ [])) (record { writes = number_writes 64 1 n offset fits; low = omega arith })

negative_writes : (n offset : ℕ) → n < 2 ^ 64 → WritesValue (bare (unary Minus (number n))) (tokens_in offset (mark 45 ∷ word (decimal n) ∷ []))
unfolding height prefix_by
negative_writes n offset fits =
    plain (unary Minus (number n)) (tokens_in offset (mark 45 ∷ word (decimal n) ∷ []))
    (record { writes = prefixed 63 1 Minus (number n) (made Operator (45 ∷ []) offset) (tokens_in (offset + 1) (word (decimal n) ∷ [])) refl (number_writes 63 7 n (offset + 1) fits); low = omega arith })

pub low_rest : (bits value : ℕ) → IsWidth bits → is_positive bits value ≡ false → 2 ^ bits - value < 2 ^ 64
low_rest _ value eight is = omega arith
low_rest _ value sixteen is = omega arith
low_rest _ value thirty_two is = omega arith
low_rest _ value sixty_four is = let above : 2 ^ 63 ≤ value = grind (arith, nat_tests) in omega arith

-- a number in decimal with its sign
pub number_spelled : (bits value offset : ℕ) → IsWidth bits → value < 2 ^ 64 → WritesValue (bare (number_tree bits value)) (tokens_in offset (number_pieces bits value))
unfolding number_tree number_pieces
number_spelled bits value offset width fits = by (is_positive bits value) refl
  where
    by : (b : Bool) → is_positive bits value ≡ b
        → WritesValue (bare (cond b (number value) (unary Minus (number (2 ^ bits - value))))) (tokens_in offset (cond b (word (decimal value) ∷ []) (mark 45 ∷ word (decimal (2 ^ bits - value)) ∷ [])))
    by true is = positive_writes value offset fits
    by false is = negative_writes (2 ^ bits - value) offset (low_rest bits value width is)

here_writes : (most level offset : ℕ) → Writes most here level (made Name (codes ".") offset ∷ [])
unfolding leaf_of
here_writes most level offset = leaf most level here (made Name (codes ".") offset) refl

-- a place before a number and after it
added_writes : (op : BinaryOp) (byte n offset : ℕ) → level_of op ≡ 4 → operator_byte byte ≡ Some op → n < 2 ^ 64
    → WritesValue (bare (binary op here (number n))) (tokens_in offset (word (codes ".") ∷ mark byte ∷ word (decimal n) ∷ []))
unfolding height operator_by
added_writes op byte n offset level is fits =
    plain (binary op here (number n)) (tokens_in offset (word (codes ".") ∷ mark byte ∷ word (decimal n) ∷ []))
    (record {
      writes =
          between 64 1 op here (number n) (made Operator (byte ∷ []) (offset + 1)) (made Name (codes ".") offset ∷ []) (tokens_in (offset + 1 + 1) (word (decimal n) ∷ []))
          (tokens_in offset (word (codes ".") ∷ mark byte ∷ word (decimal n) ∷ [])) (rw level (omega arith)) is (here_writes 64 (level_of op) offset)
          (number_writes 64 (level_of op + 1) n (offset + 1 + 1) fits) refl;
      low = omega arith;
    })

-- a place, as `.+n` or `.-n`
pub place_spelled : (value offset : ℕ) → value < 2 ^ 64 → WritesValue (bare (place_tree value)) (tokens_in offset (place_pieces value))
unfolding place_tree place_pieces level_of operator_byte
place_spelled value offset fits = by (is_positive 64 value) refl
  where
    by : (b : Bool) → is_positive 64 value ≡ b
        → WritesValue (bare (cond b (binary Add here (number value)) (binary Sub here (number (2 ^ 64 - value)))))
        (tokens_in offset (cond b (word (codes ".") ∷ mark 43 ∷ word (decimal value) ∷ []) (word (codes ".") ∷ mark 45 ∷ word (decimal (2 ^ 64 - value)) ∷ [])))
    by true is = added_writes Add 43 value offset refl refl fits
    by false is = added_writes Sub 45 (2 ^ 64 - value) offset refl refl (low_rest 64 value sixty_four is)
