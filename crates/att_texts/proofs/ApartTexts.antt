-- No two words stand side by side in the pieces of an instruction.
use Rattle.std.proofs.Common.{◌≡◌, ℕ, zero, suc, ◌-◌, ◌^◌, ◌<◌, not, Bool, true, false, cond, List, [], ◌∷◌, ◌++◌, Option, Some, None, codes, refl, arith}
use Rattle.std.proofs.lemmas.Bool.{and_parts, and_from}
use Rattle.std.specs.Fmt.{decimal}
use Rattle.asm_base.specs.ByteClasses.{is_name_start, is_name_byte}
use Rattle.x86_insn.specs.declared.registers.Class.{Class}
use Rattle.x86_insn.specs.declared.registers.Class.TheVariants as class
use Rattle.x86_insn.specs.declared.insns.Prefix.{Prefix}
use Rattle.x86_insn.specs.declared.insns.Prefix.TheVariants as prefix
use Rattle.x86_insn.specs.declared.insns.Segment.{Segment}
use Rattle.x86_insn.specs.declared.insns.Segment.TheVariants as segment
use Rattle.x86_insn.specs.declared.insns.Base.{Base}
use Rattle.x86_insn.specs.declared.insns.Base.TheVariants as base
use Rattle.x86_insn.specs.declared.insns.Index.{Index}
use Rattle.x86_insn.specs.declared.insns.Index.TheVariants as index
use Rattle.x86_insn.specs.Views.{Seen, absent, register, immediate, memory, target, View}
use Rattle.x86_lookup.specs.declared.names.Named.{Named}
use Rattle.x86_lookup.specs.Names.{text_of}
use Rattle.att_insns.specs.Rules.{is_branch}
use Rattle.att_texts.specs.Pieces.{PrintedPiece, word, mark, blank, is_word, is_mark, goes_on, are_apart}
use Rattle.att_texts.specs.Numbers.{is_positive, number_pieces, place_pieces, value_of}
use Rattle.att_texts.specs.AttOperands.{register_text, register_pieces, segment_pieces, index_pieces, address_pieces, is_left_out, displacement_pieces, place_of, memory_pieces, star, operand_pieces}
use Rattle.att_texts.specs.AttTexts.{each_in, joined, operands_in, after_blank, prefix_pieces, insn_pieces}
use Rattle.att_texts.specs.Printable.{IsWidth, sixty_four, IsNumbered, IsIndexed, IsAddressed, IsPrintable, ArePrintable}
use Rattle.att_texts.proofs.NumberTexts.{decimal_is, low_rest}
use Rattle.att_texts.proofs.RegisterTexts.{register_named}

not_from : (b : Bool) → b ≡ false → not b ≡ true
not_from true is = cc
not_from false is = refl

not_to : (b : Bool) → not b ≡ true → b ≡ false
not_to true is = cc
not_to false is = refl

-- a word before what does not go on it
apart_word : (bytes : List ℕ) (pieces : List PrintedPiece) → is_word bytes ≡ true → goes_on pieces ≡ false → are_apart pieces ≡ true → are_apart (word bytes ∷ pieces) ≡ true
apart_word bytes pieces is ends apart = and_from (is_word bytes) _ is (and_from (not (goes_on pieces)) (are_apart pieces) (not_from (goes_on pieces) ends) apart)

apart_mark : (byte : ℕ) (pieces : List PrintedPiece) → is_mark byte ≡ true → are_apart pieces ≡ true → are_apart (mark byte ∷ pieces) ≡ true
apart_mark byte pieces is apart = and_from (is_mark byte) (are_apart pieces) is apart

goes_append : (one other : List PrintedPiece) → goes_on one ≡ false → goes_on other ≡ false → goes_on (one ++ other) ≡ false
goes_append [] other a b = b
goes_append (word bytes ∷ one) other a b = cc
goes_append (mark byte ∷ one) other a b = a
goes_append (blank ∷ one) other a b = refl

apart_append : (one other : List PrintedPiece) → are_apart one ≡ true → goes_on other ≡ false → are_apart other ≡ true → are_apart (one ++ other) ≡ true
apart_append [] other this ends that = that
apart_append (word bytes ∷ one) other this ends that =
    let a = and_parts (is_word bytes) _ this in
    let b = and_parts (not (goes_on one)) (are_apart one) a.1 in
    apart_word bytes (one ++ other) a.0 (goes_append one other (not_to (goes_on one) b.0) ends) (apart_append one other b.1 ends that)
apart_append (mark byte ∷ one) other this ends that =
    let a = and_parts (is_mark byte) (are_apart one) this in
    apart_mark byte (one ++ other) a.0 (apart_append one other a.1 ends that)
apart_append (blank ∷ one) other this ends that = apart_append one other this ends that

marks : (is_mark 36 ≡ true) × (is_mark 37 ≡ true) × (is_mark 40 ≡ true) × (is_mark 41 ≡ true) × (is_mark 42 ≡ true) × (is_mark 43 ≡ true) × (is_mark 44 ≡ true) × (is_mark 45 ≡ true) × (is_mark 58 ≡ true)
unfolding is_mark
marks = (refl, refl, refl, refl, refl, refl, refl, refl, refl)

words : (is_word (codes ".") ≡ true) × (is_word (codes "fs") ≡ true) × (is_word (codes "gs") ≡ true) × (is_word (codes "rip") ≡ true)
unfolding is_name_start is_name_byte
words = (refl, refl, refl, refl)

prefixes : (is_word (codes "lock") ≡ true) × (is_word (codes "rep") ≡ true) × (is_word (codes "repe") ≡ true) × (is_word (codes "repne") ≡ true) × (is_word (codes "notrack") ≡ true)
unfolding is_name_start is_name_byte
prefixes = (refl, refl, refl, refl, refl)

digits_apart : (n : ℕ) → n < 2 ^ 64 → are_apart (word (decimal n) ∷ []) ≡ true
digits_apart n fits = apart_word (decimal n) [] (decimal_is n fits).word refl refl

number_apart : (bits value : ℕ) → IsWidth bits → value < 2 ^ 64 → are_apart (number_pieces bits value) ≡ true
unfolding number_pieces
number_apart bits value width fits = by (is_positive bits value) refl
  where
    by : (b : Bool) → is_positive bits value ≡ b → are_apart (cond b (word (decimal value) ∷ []) (mark 45 ∷ word (decimal (2 ^ bits - value)) ∷ [])) ≡ true
    by true is = digits_apart value fits
    by false is = apart_mark 45 (word (decimal (2 ^ bits - value)) ∷ []) marks.7 (digits_apart (2 ^ bits - value) (low_rest bits value width is))

place_apart : (value : ℕ) → value < 2 ^ 64 → are_apart (place_pieces value) ≡ true
unfolding place_pieces
place_apart value fits = by (is_positive 64 value) refl
  where
    by : (b : Bool) → is_positive 64 value ≡ b
        → are_apart (cond b (word (codes ".") ∷ mark 43 ∷ word (decimal value) ∷ []) (word (codes ".") ∷ mark 45 ∷ word (decimal (2 ^ 64 - value)) ∷ [])) ≡ true
    by true is = apart_word (codes ".") (mark 43 ∷ word (decimal value) ∷ []) words.0 refl (apart_mark 43 (word (decimal value) ∷ []) marks.5 (digits_apart value fits))
    by false is =
        apart_word (codes ".") (mark 45 ∷ word (decimal (2 ^ 64 - value)) ∷ []) words.0 refl
        (apart_mark 45 (word (decimal (2 ^ 64 - value)) ∷ []) marks.7 (digits_apart (2 ^ 64 - value) (low_rest 64 value sixty_four is)))

register_apart : (c : Class) (number : ℕ) → IsNumbered c number → are_apart (register_pieces c number) ≡ true
register_apart c number fits = apart_mark 37 (word (register_text c number) ∷ []) marks.1 (apart_word (register_text c number) [] (register_named c number fits).word refl refl)

small_power : (scale : ℕ) → scale < 4 → 2 ^ scale < 2 ^ 64
small_power zero low = omega arith
small_power (suc zero) low = omega arith
small_power (suc (suc zero)) low = omega arith
small_power (suc (suc (suc zero))) low = omega arith
small_power (suc (suc (suc (suc scale)))) low = absurd (omega arith)

index_apart : (i : Index) → IsIndexed i → are_apart (index_pieces i) ≡ true
index_apart index.Absent ok = apart_mark 41 [] marks.3 refl
index_apart (index.By number scale) ok =
    apart_mark 44 (register_pieces class.Quad number ++ (mark 44 ∷ word (decimal (2 ^ scale)) ∷ mark 41 ∷ [])) marks.6
    (apart_append (register_pieces class.Quad number) (mark 44 ∷ word (decimal (2 ^ scale)) ∷ mark 41 ∷ []) (register_apart class.Quad number ok.0) refl
    (apart_mark 44 (word (decimal (2 ^ scale)) ∷ mark 41 ∷ []) marks.6
    (apart_word (decimal (2 ^ scale)) (mark 41 ∷ []) (decimal_is (2 ^ scale) (small_power scale ok.1.1)).word refl (apart_mark 41 [] marks.3 refl))))

index_ends : (i : Index) → goes_on (index_pieces i) ≡ false
index_ends index.Absent = refl
index_ends (index.By number scale) = refl

address_apart : (b : Base) (i : Index) → IsAddressed b i → are_apart (address_pieces b i) ≡ true
address_apart base.Absent index.Absent ok = refl
address_apart base.Absent (index.By number scale) ok = apart_mark 40 (index_pieces (index.By number scale)) marks.2 (index_apart (index.By number scale) ok)
address_apart base.Rip i ok =
    apart_mark 40 (mark 37 ∷ word (codes "rip") ∷ mark 41 ∷ []) marks.2 (apart_mark 37 (word (codes "rip") ∷ mark 41 ∷ []) marks.1
    (apart_word (codes "rip") (mark 41 ∷ []) words.3 refl (apart_mark 41 [] marks.3 refl)))
address_apart (base.Of number) i ok =
    apart_mark 40 (register_pieces class.Quad number ++ index_pieces i) marks.2 (apart_append (register_pieces class.Quad number) (index_pieces i) (register_apart class.Quad number ok.0) (index_ends i) (index_apart i ok.1))

address_ends : (b : Base) (i : Index) → goes_on (address_pieces b i) ≡ false
address_ends base.Absent index.Absent = refl
address_ends base.Absent (index.By number scale) = refl
address_ends base.Rip i = refl
address_ends (base.Of number) i = refl

displacement_apart : (b : Base) (value : ℕ) → value < 2 ^ 64 → are_apart (displacement_pieces b value) ≡ true
displacement_apart base.Absent value fits = number_apart 64 value sixty_four fits
displacement_apart base.Rip value fits = place_apart value fits
displacement_apart (base.Of number) value fits = number_apart 64 value sixty_four fits

place_of_apart : (b : Base) (i : Index) (value : ℕ) → value < 2 ^ 64 → IsAddressed b i → are_apart (place_of b i value) ≡ true
place_of_apart b i value fits ok = by (is_left_out b i value)
  where
    by : (l : Bool) → are_apart (cond l (address_pieces b i) (displacement_pieces b value ++ address_pieces b i)) ≡ true
    by true = address_apart b i ok
    by false = apart_append (displacement_pieces b value) (address_pieces b i) (displacement_apart b value fits) (address_ends b i) (address_apart b i ok)

memory_apart : (s : Option Segment) (pieces : List PrintedPiece) → are_apart pieces ≡ true → are_apart (segment_pieces s ++ pieces) ≡ true
unfolding is_mark is_name_start is_name_byte
memory_apart None pieces apart = apart
memory_apart (Some segment.Fs) pieces apart = apart
memory_apart (Some segment.Gs) pieces apart = apart

starred : (branch : Bool) (pieces : List PrintedPiece) → are_apart pieces ≡ true → are_apart (star branch ++ pieces) ≡ true
starred true pieces apart = apart_mark 42 pieces marks.4 apart
starred false pieces apart = apart

operand_apart : (branch : Bool) (bits : ℕ) (seen : Seen) → IsWidth bits → IsPrintable branch seen → are_apart (operand_pieces branch bits seen) ≡ true
operand_apart branch bits absent width ok = refl
operand_apart branch bits (register reg) width ok = starred branch (register_pieces reg.class reg.number) (register_apart reg.class reg.number ok)
operand_apart branch bits (immediate value) width ok = apart_mark 36 (number_pieces bits (value_of value)) marks.0 (number_apart bits (value_of value) width ok)
operand_apart branch bits (memory place value) width ok = starred branch (memory_pieces place (value_of value)) (memory_apart place.segment (place_of place.base place.index (value_of value)) (place_of_apart place.base place.index (value_of value) ok.0 ok.1))
operand_apart branch bits (target value) width ok = place_apart (value_of value) ok.0

abbrev AllApart : List (List PrintedPiece) → Type 0
AllApart [] = Unit {0}
AllApart (own ∷ owns) = (are_apart own ≡ true) × AllApart owns

all_append : (one other : List (List PrintedPiece)) → AllApart one → AllApart other → AllApart (one ++ other)
all_append [] other these those = those
all_append (own ∷ one) other these those = (these.0, all_append one other these.1 those)

each_apart : (branch : Bool) (bits : ℕ) (seen : Seen) → IsWidth bits → IsPrintable branch seen → AllApart (each_in branch bits seen)
each_apart branch bits absent width ok = tt
each_apart branch bits (register reg) width ok = (operand_apart branch bits (register reg) width ok, tt)
each_apart branch bits (immediate value) width ok = (operand_apart branch bits (immediate value) width ok, tt)
each_apart branch bits (memory place value) width ok = (operand_apart branch bits (memory place value) width ok, tt)
each_apart branch bits (target value) width ok = (operand_apart branch bits (target value) width ok, tt)

joined_apart : (pieces : List (List PrintedPiece)) → AllApart pieces → are_apart (joined pieces) ≡ true
joined_apart [] all = refl
joined_apart (one ∷ []) all = all.0
joined_apart (one ∷ other ∷ others) all = apart_append one (mark 44 ∷ joined (other ∷ others)) all.0 refl (apart_mark 44 (joined (other ∷ others)) marks.6 (joined_apart (other ∷ others) all.1))

blank_apart : (pieces : List (List PrintedPiece)) → AllApart pieces → (are_apart (after_blank pieces) ≡ true) × (goes_on (after_blank pieces) ≡ false)
blank_apart [] all = (refl, refl)
blank_apart (one ∷ others) all = (joined_apart (one ∷ others) all, refl)

prefix_apart : (lead : Prefix) (pieces : List PrintedPiece) → are_apart pieces ≡ true → are_apart (prefix_pieces lead ++ pieces) ≡ true
unfolding is_mark is_name_start is_name_byte
prefix_apart prefix.Absent pieces apart = apart
prefix_apart prefix.Lock pieces apart = apart
prefix_apart prefix.Rep pieces apart = apart
prefix_apart prefix.Repe pieces apart = apart
prefix_apart prefix.Repne pieces apart = apart
prefix_apart prefix.Notrack pieces apart = apart

-- no two words stand side by side in an instruction
pub insn_apart : (bits : ℕ) (insn : View) (named : Named) → IsWidth bits → ArePrintable (is_branch named.rule) insn → is_word (text_of named) ≡ true → are_apart (insn_pieces bits insn named) ≡ true
insn_apart bits insn named width ok name =
    let branch = is_branch named.rule in
    let all = all_append (each_in branch bits insn.third) (each_in branch bits insn.second ++ each_in branch bits insn.first) (each_apart branch bits insn.third width ok.third)
    (all_append (each_in branch bits insn.second) (each_in branch bits insn.first) (each_apart branch bits insn.second width ok.second) (each_apart branch bits insn.first width ok.first)) in
    let behind = blank_apart (operands_in branch bits insn) all in
    prefix_apart insn.«prefix» (word (text_of named) ∷ after_blank (operands_in branch bits insn)) (apart_word (text_of named) (after_blank (operands_in branch bits insn)) name behind.1 behind.0)
