-- Operands are spelled by their pieces, in Intel syntax.
use Rattle.std.proofs.Common.{◌≡◌, ℕ, ◌+◌, ◌-◌, ◌*◌, ◌^◌, ◌==◌, ◌&&◌, ◌||◌, ◌<◌, nat_lt, Bool, true, false, cond, List, [], ◌∷◌, ◌++◌, Option, Some, None, length, slice_get, drop, codes, is_some, refl, sym, ap, subst, ◌∙◌, arith}
use Rattle.std.specs.List.{list_all, list_any}
use Rattle.std.specs.Fmt.{decimal}
use Rattle.asm_base.specs.declared.tokens.TokenKind.TheVariants.{Name, Digits, Operator}
use Rattle.asm_base.specs.Tokens.{SpelledToken}
use Rattle.x86_insn.specs.declared.registers.Reg.{Reg}
use Rattle.x86_insn.specs.declared.insns.Segment.{Segment}
use Rattle.x86_insn.specs.declared.insns.Segment.TheVariants as segment
use Rattle.x86_insn.specs.declared.insns.Base.{Base}
use Rattle.x86_insn.specs.declared.insns.Base.TheVariants as base
use Rattle.x86_insn.specs.declared.insns.Index.{Index}
use Rattle.x86_insn.specs.declared.insns.Index.TheVariants as index
use Rattle.x86_insn.specs.declared.insns.Address.{Address}
use Rattle.att_operands.specs.declared.registers.NamedRegister.TheVariants as named
use Rattle.att_operands.specs.Marks.{mark_by, mark_at}
use Rattle.att_operands.specs.Registers.{register_of, register_names}
use Rattle.att_operands.specs.Values.{ValueText}
use Rattle.att_operands.specs.OperandTexts as operand
use Rattle.att_operands.specs.Spells.{WritesValue, in_segment}
use Rattle.intel_sums.specs.OtherRegisters.{is_other_register}
use Rattle.intel_sums.specs.Sums.{is_register, is_loose}
use Rattle.intel_operands.specs.Words.{is_word, bits_of, bits_by, bits_in, offset_words}
use Rattle.intel_operands.specs.Symbols.{is_symbol, has_symbol, is_numeric, are_numbers, names_place}
use Rattle.intel_operands.specs.OperandTexts.{SizedText, unsized, in_memory, Outline, summed_at, lone, bare as alone_value, has_register, has_bracket, segment_of, lone_register, is_memory, is_nested}
use Rattle.intel_operands.specs.Spells.{PlacesMemory, bracket, SegmentsMemory, plain, behind_segment, SizesMemory, unsaid, said, IsOutline, alone, place, value, HoldsValue, of_register, of_target, of_number, HasNoComma, SpellsOperand}
use Rattle.att_texts.specs.Pieces.{PrintedPiece, word, mark, word_kind, made, tokens_in}
use Rattle.att_texts.specs.Numbers.{is_positive, number_pieces, number_tree, place_pieces, place_tree, value_of}
use Rattle.att_texts.specs.AttOperands.{register_text}
use Rattle.att_texts.specs.Printable.{IsWidth, sixty_four, IsNumbered, IsIndexed, IsAddressed}
use Rattle.intel_texts.specs.Operands.{sized_by, size_pieces, segment_pieces, quad_piece, index_pieces, more_pieces, added_pieces, sum_pieces, bracket_pieces, memory_pieces}
use Rattle.intel_texts.specs.Instructions.{bare, moved_text}
use Rattle.intel_texts.proofs.SharedLaws.{SharedLaws, low_rest}
use Rattle.intel_texts.proofs.DigitTexts.{IsDigits, number_token}
use Rattle.intel_texts.proofs.TokenTexts.{marks, is_comma_free, no_commas, all_free}
use Rattle.intel_texts.proofs.SumTexts.{IsSum, sum_spelled}

-- REGISTERS

pub register_spelled : SharedLaws → (branch : Bool) (reg : Reg) (offset : ℕ) → IsNumbered reg.class reg.number
    → SpellsOperand branch (unsized (operand.register reg)) (tokens_in offset (word (register_text reg.class reg.number) ∷ []))
register_spelled laws branch reg offset fits = record {
  outline = lone reg;
  some = refl;
  apart = no_commas offset (word (register_text reg.class reg.number) ∷ []) refl;
  round = alone reg _ (laws.named reg.class reg.number fits);
  holds = of_register branch reg;
}

-- VALUES

-- a text is a value without a register
pub record IsBare (text : List SpelledToken) : Type 0 where
  pub some : nat_lt 0 (length text) ≡ true
  pub lone_one : lone_register text ≡ None
  pub offset : offset_words text ≡ 0
  pub memory : is_memory text ≡ false
  pub register : has_register text ≡ false

-- and without a symbol
pub record IsSymbolless (text : List SpelledToken) : Type 0 where
  pub place : names_place text ≡ false
  pub symbol : has_symbol text ≡ false

digits_bare : (d : SpelledToken) → IsDigits d → IsBare (d ∷ [])
unfolding lone_register is_word mark_by segment_of has_bracket has_register
digits_bare d is =
    let none = is.own in
    let first = is.offset in
    let mark = is.mark in
    let other = is.register in
    record { some = refl; lone_one = rw none refl; offset = rw first refl; memory = rw mark refl; register = rw other refl }

negative_bare : (d : SpelledToken) (offset : ℕ) → IsDigits d → IsBare (made Operator (45 ∷ []) offset ∷ d ∷ [])
unfolding lone_register is_word segment_of has_bracket has_register is_register
negative_bare d offset is =
    let pointer = is.pointer in
    let mark = is.mark in
    let minus = marks 45 offset in
    let other = is.register in
    record { some = refl; lone_one = refl; offset = refl; memory = rw (pointer, mark, minus) refl; register = rw other refl }

place_bare : (d : SpelledToken) (byte offset : ℕ) → IsDigits d → is_word (codes "ptr") (Some (made Operator (byte ∷ []) (offset + 1))) ≡ false → (byte == 58) ≡ false → (byte == 91) ≡ false
    → IsBare (made Name (codes ".") offset ∷ made Operator (byte ∷ []) (offset + 1) ∷ d ∷ [])
unfolding lone_register is_word mark_by segment_of has_bracket has_register is_register register_of register_names is_other_register
place_bare d byte offset is pointer colon bracketed =
    let mark = is.mark in
    let other = is.register in
    record { some = refl; lone_one = refl; offset = refl; memory = rw (pointer, colon, bracketed, mark) refl; register = rw other refl }

digits_symbolless : (d : SpelledToken) → IsDigits d → IsSymbolless (d ∷ [])
unfolding names_place has_symbol is_numeric
digits_symbolless d is =
    let symbol = is.symbol in
    let loose = is.loose in
    let mark = is.mark in
    record { place = rw (symbol, loose, mark) refl; symbol = rw symbol refl }

negative_symbolless : (d : SpelledToken) (offset : ℕ) → IsDigits d → IsSymbolless (made Operator (45 ∷ []) offset ∷ d ∷ [])
unfolding names_place has_symbol is_numeric is_symbol is_loose mark_by
negative_symbolless d offset is =
    let symbol = is.symbol in
    let loose = is.loose in
    let mark = is.mark in
    record { place = rw (symbol, loose, mark) refl; symbol = rw symbol refl }

pub record IsImmediate (text : List SpelledToken) : Type 0 where
  pub is_bare : IsBare text
  pub symbolless : IsSymbolless text
  pub apart : HasNoComma text

number_is : (bits held offset : ℕ) → IsWidth bits → held < 2 ^ 64 → IsImmediate (tokens_in offset (number_pieces bits held))
unfolding number_pieces is_word
number_is bits held offset width fits = by (is_positive bits held) refl
  where
    by : (b : Bool) → is_positive bits held ≡ b → IsImmediate (tokens_in offset (cond b (word (decimal held) ∷ []) (mark 45 ∷ word (decimal (2 ^ bits - held)) ∷ [])))
    by true is =
        let d = number_token held offset fits in
        record { is_bare = digits_bare _ d; symbolless = digits_symbolless _ d; apart = no_commas offset (word (decimal held) ∷ []) refl }
    by false is =
        let d = number_token (2 ^ bits - held) (offset + 1) (low_rest bits held width is) in
        record { is_bare = negative_bare _ offset d; symbolless = negative_symbolless _ offset d; apart = no_commas offset (mark 45 ∷ word (decimal (2 ^ bits - held)) ∷ []) refl }

pub immediate_spelled : SharedLaws → (bits held offset : ℕ) → IsWidth bits → held < 2 ^ 64
    → SpellsOperand false (unsized (operand.immediate (bare (number_tree bits held)))) (tokens_in offset (number_pieces bits held))
immediate_spelled laws bits held offset width fits =
    let text = tokens_in offset (number_pieces bits held) in
    let is = number_is bits held offset width fits in
    record {
      outline = alone_value text;
      some = is.is_bare.some;
      apart = is.apart;
      round = value text is.is_bare.lone_one is.is_bare.offset is.is_bare.memory is.is_bare.register;
      holds = of_number (bare (number_tree bits held)) text is.symbolless.place is.symbolless.symbol (laws.number bits held offset width fits);
    }

pub record IsTarget (text : List SpelledToken) : Type 0 where
  pub is_bare : IsBare text
  pub apart : HasNoComma text

place_is : (held offset : ℕ) → held < 2 ^ 64 → IsTarget (tokens_in offset (place_pieces held))
unfolding place_pieces is_word
place_is held offset fits = by (is_positive 64 held) refl
  where
    by : (b : Bool) → is_positive 64 held ≡ b
        → IsTarget (tokens_in offset (cond b (word (codes ".") ∷ mark 43 ∷ word (decimal held) ∷ []) (word (codes ".") ∷ mark 45 ∷ word (decimal (2 ^ 64 - held)) ∷ [])))
    by true is =
        let d = number_token held (offset + 1 + 1) fits in
        record { is_bare = place_bare _ 43 offset d refl refl refl; apart = no_commas offset (word (codes ".") ∷ mark 43 ∷ word (decimal held) ∷ []) refl }
    by false is =
        let d = number_token (2 ^ 64 - held) (offset + 1 + 1) (low_rest 64 held sixty_four is) in
        record { is_bare = place_bare _ 45 offset d refl refl refl; apart = no_commas offset (word (codes ".") ∷ mark 45 ∷ word (decimal (2 ^ 64 - held)) ∷ []) refl }

pub target_spelled : SharedLaws → (held offset : ℕ) → held < 2 ^ 64 → SpellsOperand true (unsized (operand.target (bare (place_tree held)))) (tokens_in offset (place_pieces held))
target_spelled laws held offset fits =
    let text = tokens_in offset (place_pieces held) in
    let is = place_is held offset fits in
    record {
      outline = alone_value text;
      some = is.is_bare.some;
      apart = is.apart;
      round = value text is.is_bare.lone_one is.is_bare.offset is.is_bare.memory is.is_bare.register;
      holds = of_target (bare (place_tree held)) text (laws.place held offset fits);
    }
