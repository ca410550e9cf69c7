-- Operands are spelled by their pieces, in AT&T syntax.
use Rattle.std.proofs.Common.{◌≡◌, ℕ, zero, suc, ◌+◌, ◌^◌, ◌<◌, ◌==◌, Bool, true, false, cond, List, [], ◌∷◌, ◌++◌, Option, Some, None, length, codes, refl, sym, ap, subst, ◌∙◌, arith}
use Rattle.std.proofs.lemmas.Bool.Decides.{nat_tests}
use Rattle.std.specs.Fmt.{decimal, digits}
use Rattle.asm_base.specs.declared.tokens.TokenKind.TheVariants.{Operator}
use Rattle.asm_base.specs.Tokens.{SpelledToken}
use Rattle.expr_texts.specs.Numbers.{numeral, spelled_number}
use Rattle.asm_base.specs.Digits.{digit_of, number_after}
use Rattle.x86_insn.specs.declared.registers.Class.TheVariants as class
use Rattle.x86_insn.specs.declared.registers.Reg.{Reg}
use Rattle.x86_insn.specs.declared.insns.Segment.{Segment}
use Rattle.x86_insn.specs.declared.insns.Segment.TheVariants as segment
use Rattle.x86_insn.specs.declared.insns.Base.{Base}
use Rattle.x86_insn.specs.declared.insns.Base.TheVariants as base
use Rattle.x86_insn.specs.declared.insns.Index.{Index}
use Rattle.x86_insn.specs.declared.insns.Index.TheVariants as index
use Rattle.x86_insn.specs.declared.insns.Address.{Address}
use Rattle.x86_insn.specs.Views.{Seen, absent, register, immediate, memory, target}
use Rattle.att_operands.specs.declared.registers.NamedRegister.TheVariants as named
use Rattle.att_operands.specs.Registers.{register_names, register_of}
use Rattle.att_operands.specs.Marks.{mark_by}
use Rattle.att_operands.specs.Addresses.{base_by, index_by, scale_by}
use Rattle.att_operands.specs.OperandTexts.{OperandText, no_displacement}
use Rattle.att_operands.specs.OperandTexts as operand
use Rattle.att_operands.specs.Spells as spells
use Rattle.att_operands.specs.Spells.{IsMark, in_segment, WritesIndex, WritesAddress, WritesValue, WritesMemory, SpellsPlace, SpellsOperand}
use Rattle.att_texts.specs.Pieces.{PrintedPiece, word, mark, blank, word_kind, made, tokens_in}
use Rattle.att_texts.specs.Numbers.{number_tree, place_tree, place_pieces, value_of}
use Rattle.att_texts.specs.AttOperands.{register_text, register_pieces, segment_pieces, index_pieces, address_pieces, is_left_out, displacement_pieces, displacement_text, place_of, memory_pieces, memory_text, star, operand_pieces}
use Rattle.att_texts.specs.Printable.{IsWidth, sixty_four, IsNumbered, IsIndexed, IsAddressed, IsPrintable}
use Rattle.att_texts.specs.Numbers.{bare}
use Rattle.att_texts.proofs.NumberTexts.{number_spelled, place_spelled}
use Rattle.att_texts.proofs.RegisterTexts.{register_named}

-- the offset after pieces
abbrev pub behind : ℕ → List PrintedPiece → ℕ
behind offset [] = offset
behind offset (word bytes ∷ pieces) = behind (offset + length bytes) pieces
behind offset (mark byte ∷ pieces) = behind (offset + 1) pieces
behind offset (blank ∷ pieces) = behind (offset + 1) pieces

-- tokens of pieces and of more
pub tokens_append : (offset : ℕ) (one other : List PrintedPiece) → tokens_in offset (one ++ other) ≡ tokens_in offset one ++ tokens_in (behind offset one) other
tokens_append offset [] other = refl
tokens_append offset (word bytes ∷ one) other = ap (λ (ts : List SpelledToken). made (word_kind bytes) bytes offset ∷ ts) (tokens_append (offset + length bytes) one other)
tokens_append offset (mark byte ∷ one) other = ap (λ (ts : List SpelledToken). made Operator (byte ∷ []) offset ∷ ts) (tokens_append (offset + 1) one other)
tokens_append offset (blank ∷ one) other = tokens_append (offset + 1) one other

marks : (byte offset : ℕ) → IsMark byte (made Operator (byte ∷ []) offset)
unfolding mark_by
marks byte offset = refl

-- scales
scales : (scale offset : ℕ) → scale < 4 → scale_by (Some (made (word_kind (decimal (2 ^ scale))) (decimal (2 ^ scale)) offset)) ≡ Some scale
unfolding scale_by digits spelled_number numeral digit_of number_after
scales zero offset fits = refl
scales (suc zero) offset fits = refl
scales (suc (suc zero)) offset fits = refl
scales (suc (suc (suc zero))) offset fits = refl
scales (suc (suc (suc (suc scale)))) offset fits = absurd (omega arith)

-- a base and an index by their names
base_named : (number : ℕ) → number < 16 → base_by (register_of (register_text class.Quad number)) ≡ Some (base.Of number)
base_named number fits = ap base_by (register_named class.Quad number fits).names

not_four : (number : ℕ) → (number ≡ 4 → ⊥) → (number == 4) ≡ false
not_four number is = by (number == 4) refl
  where
    by : (b : Bool) → (number == 4) ≡ b → b ≡ false
    by true same = absurd (is (grind (arith, nat_tests)))
    by false same = refl

index_named : (number : ℕ) → number < 16 → (number ≡ 4 → ⊥) → index_by (register_of (register_text class.Quad number)) ≡ Some number
index_named number fits other =
    let four = not_four number other in
    ap index_by (register_named class.Quad number fits).names ∙ (rw four refl)

index_written : (number scale offset : ℕ) → number < 16 → (number ≡ 4 → ⊥) → scale < 4
    → WritesIndex (index.By number scale) (tokens_in offset (register_pieces class.Quad number ++ (mark 44 ∷ word (decimal (2 ^ scale)) ∷ mark 41 ∷ [])))
index_written number scale offset fits other low =
    spells.scaled number scale _ _ _ _ _ (marks 37 offset) (index_named number fits other) (marks 44 (offset + 1 + length (register_text class.Quad number)))
    (scales scale (offset + 1 + length (register_text class.Quad number) + 1) low) (marks 41 (offset + 1 + length (register_text class.Quad number) + 1 + length (decimal (2 ^ scale))))

-- an address after its `(`
abbrev Inner : Base → Index → ℕ → Type 0
Inner base index offset = (rest : List PrintedPiece) × (address_pieces base index ≡ mark 40 ∷ rest) × WritesAddress base index (tokens_in (offset + 1) rest)

rip_named : base_by (register_of (codes "rip")) ≡ Some base.Rip
unfolding register_names register_of
rip_named = refl

of_base : (number : ℕ) (i : Index) (offset : ℕ) → number < 16 → IsIndexed i → Inner (base.Of number) i offset
of_base number index.Absent offset fits ok = (
  register_pieces class.Quad number ++ index_pieces index.Absent,
  refl,
  spells.based (base.Of number) _ _ _ (marks 37 (offset + 1)) (base_named number fits) (marks 41 (offset + 1 + 1 + length (register_text class.Quad number))),
)
of_base number (index.By own scale) offset fits ok = (
  register_pieces class.Quad number ++ index_pieces (index.By own scale),
  refl,
  spells.indexed (base.Of number) (index.By own scale) _ _ _ _ (marks 37 (offset + 1)) (base_named number fits) refl
      (marks 44 (offset + 1 + 1 + length (register_text class.Quad number)))
      (index_written own scale (offset + 1 + 1 + length (register_text class.Quad number) + 1) ok.0 ok.1.0 ok.1.1),
)

abbrev has_address : Base → Index → Bool
has_address base.Absent index.Absent = false
has_address base.Absent (index.By number scale) = true
has_address base.Rip i = true
has_address (base.Of number) i = true

inner : (b : Base) (i : Index) (offset : ℕ) → IsAddressed b i → has_address b i ≡ true → Inner b i offset
inner base.Absent index.Absent offset ok has = cc
inner base.Absent (index.By own scale) offset ok has =
    (index_pieces (index.By own scale), refl, spells.unbased (index.By own scale) _ _ (marks 44 (offset + 1)) (index_written own scale (offset + 1 + 1) ok.0 ok.1.0 ok.1.1))
inner base.Rip index.Absent offset ok has =
    (mark 37 ∷ word (codes "rip") ∷ mark 41 ∷ [], refl, spells.based base.Rip _ _ _ (marks 37 (offset + 1)) rip_named (marks 41 (offset + 1 + 1 + 3)))
inner base.Rip (index.By own scale) offset ok has = absurd ok
inner (base.Of number) i offset ok has = of_base number i offset ok.0 ok.1

displacement_written : (b : Base) (value offset : ℕ) → value < 2 ^ 64 → WritesValue (displacement_text b value) (tokens_in offset (displacement_pieces b value))
displacement_written base.Absent value offset fits = number_spelled 64 value offset sixty_four fits
displacement_written base.Rip value offset fits = place_spelled value offset fits
displacement_written (base.Of number) value offset fits = number_spelled 64 value offset sixty_four fits

-- memory after its segment
addressed : (s : Option Segment) (b : Base) (i : Index) (offset : ℕ) → Inner b i offset → WritesMemory s (operand.memory (in_segment s b i) no_displacement) (tokens_in offset (address_pieces b i))
addressed s b i offset it =
    subst (λ (pieces : List PrintedPiece). WritesMemory s (operand.memory (in_segment s b i) no_displacement) (tokens_in offset pieces)) (sym it.1)
    (spells.address s b i _ _ (marks 40 offset) it.2)

both_written : (s : Option Segment) (b : Base) (i : Index) (value offset : ℕ) → value < 2 ^ 64 → ((at : ℕ) → Inner b i at)
    → WritesMemory s (operand.memory (in_segment s b i) (displacement_text b value)) (tokens_in offset (displacement_pieces b value ++ address_pieces b i))
both_written s b i value offset fits it =
    let at = behind offset (displacement_pieces b value) in
    let here = it at in
    let pieces_are = ap (λ (ps : List PrintedPiece). tokens_in offset (displacement_pieces b value) ++ tokens_in at ps) here.1 in
    spells.both s b i (displacement_text b value) _ _ _ _ (displacement_written b value offset fits) (marks 40 at) here.2
    (tokens_append offset (displacement_pieces b value) (address_pieces b i) ∙ pieces_are)

append_nothing : {A : Type 0} (xs : List A) → xs ++ [] ≡ xs
append_nothing [] = refl
append_nothing (x ∷ xs) = ap (λ ys. x ∷ ys) (append_nothing xs)

alone_written : (s : Option Segment) (value offset : ℕ) → value < 2 ^ 64
    → WritesMemory s (operand.memory (in_segment s base.Absent index.Absent) (displacement_text base.Absent value)) (tokens_in offset (displacement_pieces base.Absent value ++ []))
alone_written s value offset fits =
    subst (λ (pieces : List PrintedPiece). WritesMemory s (operand.memory (in_segment s base.Absent index.Absent) (displacement_text base.Absent value)) (tokens_in offset pieces))
    (sym (append_nothing (displacement_pieces base.Absent value))) (spells.displacement s (displacement_text base.Absent value) _ (displacement_written base.Absent value offset fits))

-- by whether the displacement is left out
placed : (s : Option Segment) (b : Base) (i : Index) (value offset : ℕ) → value < 2 ^ 64 → IsAddressed b i → (h l : Bool) → has_address b i ≡ h → is_left_out b i value ≡ l
    → WritesMemory s (operand.memory (in_segment s b i) (cond l no_displacement (displacement_text b value))) (tokens_in offset (cond l (address_pieces b i) (displacement_pieces b value ++ address_pieces b i)))
placed s b i value offset fits ok true true has left = addressed s b i offset (inner b i offset ok has)
placed s b i value offset fits ok true false has left = both_written s b i value offset fits (λ at. inner b i at ok has)
placed s base.Absent index.Absent value offset fits ok false true has left = cc
placed s base.Absent index.Absent value offset fits ok false false has left = alone_written s value offset fits
placed s base.Absent (index.By own scale) value offset fits ok false l has left = cc
placed s base.Rip i value offset fits ok false l has left = cc
placed s (base.Of number) i value offset fits ok false l has left = cc

memory_written : (s : Option Segment) (b : Base) (i : Index) (value offset : ℕ) → value < 2 ^ 64 → IsAddressed b i
    → WritesMemory s (operand.memory (in_segment s b i) (memory_text (in_segment s b i) value)) (tokens_in offset (place_of b i value))
memory_written s b i value offset fits ok = placed s b i value offset fits ok (has_address b i) (is_left_out b i value) refl refl

segment_named : (register_of (codes "fs") ≡ Some (named.Segment segment.Fs)) × (register_of (codes "gs") ≡ Some (named.Segment segment.Gs))
unfolding register_names register_of
segment_named = (refl, refl)

memory_spelled : (place : Address) (value offset : ℕ) → value < 2 ^ 64 → IsAddressed place.base place.index
    → SpellsPlace (operand.memory place (memory_text place value)) (tokens_in offset (memory_pieces place value))
memory_spelled place value offset fits ok = by place.segment place.base place.index ok
  where
    by : (s : Option Segment) (b : Base) (i : Index) → IsAddressed b i
        → SpellsPlace (operand.memory (in_segment s b i) (memory_text (in_segment s b i) value)) (tokens_in offset (segment_pieces s ++ place_of b i value))
    by None b i ok = spells.unnamed _ _ (memory_written None b i value offset fits ok)
    by (Some segment.Fs) b i ok =
        spells.segmented segment.Fs _ _ _ _ _ (marks 37 offset) segment_named.0 (marks 58 (offset + 1 + 2)) (memory_written (Some segment.Fs) b i value (offset + 1 + 2 + 1) fits ok)
    by (Some segment.Gs) b i ok =
        spells.segmented segment.Gs _ _ _ _ _ (marks 37 offset) segment_named.1 (marks 58 (offset + 1 + 2)) (memory_written (Some segment.Gs) b i value (offset + 1 + 2 + 1) fits ok)

register_spelled : (reg : Reg) (offset : ℕ) → IsNumbered reg.class reg.number → SpellsPlace (operand.register reg) (tokens_in offset (register_pieces reg.class reg.number))
register_spelled reg offset fits = spells.plain reg _ _ (marks 37 offset) (register_named reg.class reg.number fits).names

-- a place, of a branch or of another instruction
place_spelled_so : (branch : Bool) (held : OperandText) (pieces : List PrintedPiece) (offset : ℕ) → ((at : ℕ) → SpellsPlace held (tokens_in at pieces))
    → SpellsOperand branch held (tokens_in offset (star branch ++ pieces))
place_spelled_so true held pieces offset it = spells.indirect held _ _ (marks 42 offset) (it (offset + 1))
place_spelled_so false held pieces offset it = spells.place held _ (it offset)

target_spelled : (branch : Bool) (value offset : ℕ) → value < 2 ^ 64 → branch ≡ true → SpellsOperand branch (operand.target (bare (place_tree value))) (tokens_in offset (place_pieces value))
target_spelled true value offset fits is = spells.target_of (bare (place_tree value)) _ (place_spelled value offset fits)
target_spelled false value offset fits is = cc

-- what an operand is as a text
abbrev pub SpellsSeen : Bool → ℕ → Seen → List SpelledToken → Type 0
SpellsSeen branch bits absent text = text ≡ []
SpellsSeen branch bits (register reg) text = SpellsOperand branch (operand.register reg) text
SpellsSeen branch bits (immediate value) text = SpellsOperand branch (operand.immediate (bare (number_tree bits (value_of value)))) text
SpellsSeen branch bits (memory place value) text = SpellsOperand branch (operand.memory place (memory_text place (value_of value))) text
SpellsSeen branch bits (target value) text = SpellsOperand branch (operand.target (bare (place_tree (value_of value)))) text

-- the pieces of an operand spell it
pub operand_spelled : (branch : Bool) (bits : ℕ) (seen : Seen) (offset : ℕ) → IsWidth bits → IsPrintable branch seen → SpellsSeen branch bits seen (tokens_in offset (operand_pieces branch bits seen))
operand_spelled branch bits absent offset width ok = refl
operand_spelled branch bits (register reg) offset width ok =
    place_spelled_so branch (operand.register reg) (register_pieces reg.class reg.number) offset (λ at. register_spelled reg at ok)
operand_spelled branch bits (immediate value) offset width ok =
    spells.immediate_of branch (bare (number_tree bits (value_of value))) _ _ (marks 36 offset) (number_spelled bits (value_of value) (offset + 1) width ok)
operand_spelled branch bits (memory place value) offset width ok =
    place_spelled_so branch (operand.memory place (memory_text place (value_of value))) (memory_pieces place (value_of value)) offset (λ at. memory_spelled place (value_of value) at ok.0 ok.1)
operand_spelled branch bits (target value) offset width ok = target_spelled branch (value_of value) offset ok.0 ok.1
