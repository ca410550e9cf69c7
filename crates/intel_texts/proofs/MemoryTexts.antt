-- Memory is spelled by its pieces, in Intel syntax.
use Rattle.std.proofs.lemmas.Bool.Decides.{nat_tests}
use Rattle.std.proofs.Common.{◌≡◌, ℕ, suc, ◌+◌, ◌-◌, ◌*◌, ◌^◌, ◌==◌, ◌&&◌, ◌||◌, ◌<◌, nat_lt, Bool, true, false, cond, List, [], ◌∷◌, ◌++◌, Option, Some, None, length, slice_get, drop, codes, is_some, refl, sym, ap, subst, ◌∙◌, arith}
use Rattle.std.specs.List.{list_all, list_any}
use Rattle.std.specs.Fmt.{decimal}
use Rattle.asm_base.specs.declared.tokens.TokenKind.TheVariants.{Name, Digits, Operator}
use Rattle.asm_base.specs.Tokens.{SpelledToken}
use Rattle.x86_insn.specs.declared.insns.Segment.{Segment}
use Rattle.x86_insn.specs.declared.insns.Segment.TheVariants as segment
use Rattle.x86_insn.specs.declared.insns.Base.{Base}
use Rattle.x86_insn.specs.declared.insns.Base.TheVariants as base
use Rattle.x86_insn.specs.declared.insns.Index.{Index}
use Rattle.x86_insn.specs.declared.insns.Index.TheVariants as index
use Rattle.x86_insn.specs.declared.insns.Address.{Address}
use Rattle.att_operands.specs.declared.registers.NamedRegister.TheVariants as named
use Rattle.att_operands.specs.Marks.{mark_by, mark_at}
use Rattle.att_operands.specs.Addresses.{register_by}
use Rattle.att_operands.specs.Registers.{register_of, register_names}
use Rattle.att_operands.specs.Values.{ValueText}
use Rattle.att_operands.specs.Spells.{in_segment}
use Rattle.intel_operands.specs.Words.{is_word, bits_of, bits_by, bits_in, offset_words}
use Rattle.intel_operands.specs.OperandTexts.{in_memory, Outline, summed_at, only, register_in, segment_in, has_bracket, segment_of, lone_register, is_memory, is_nested}
use Rattle.intel_operands.specs.Spells.{PlacesMemory, bracket, SegmentsMemory, plain, behind_segment, SizesMemory, unsaid, said, IsOutline, place, HasNoComma, HoldsValue, SpellsOperand}
use Rattle.att_texts.specs.Pieces.{PrintedPiece, word, mark, word_kind, made, tokens_in}
use Rattle.att_texts.specs.Numbers.{is_positive, number_pieces, place_pieces}
use Rattle.att_texts.specs.Printable.{IsAddressed}
use Rattle.intel_texts.specs.Operands.{segment_pieces, added_pieces, sum_pieces, bracket_pieces, memory_pieces}
use Rattle.intel_texts.specs.Instructions.{moved_text}
use Rattle.intel_texts.specs.Printable.{IsMemorySize, uncounted, one, two, four, eight, sixteen}
use Rattle.intel_texts.proofs.SharedLaws.{SharedLaws}
use Rattle.intel_texts.proofs.TokenTexts.{marks, is_comma_free, no_commas, all_free}
use Rattle.intel_texts.proofs.PieceTokens.{behind, tokens_append}
use Rattle.intel_texts.proofs.SumTexts.{IsSum, sum_spelled}

-- memory has no comma
added_free : (value : ℕ) → list_all is_comma_free (added_pieces value) ≡ true
unfolding number_pieces
added_free value = by (value == 0) (is_positive 64 value)
  where
    by : (z p : Bool) → list_all is_comma_free (cond z [] (cond p (mark 43 ∷ cond p (word (decimal value) ∷ []) (mark 45 ∷ word (decimal (2 ^ 64 - value)) ∷ []))
        (cond p (word (decimal value) ∷ []) (mark 45 ∷ word (decimal (2 ^ 64 - value)) ∷ [])))) ≡ true
    by true p = refl
    by false true = refl
    by false false = refl

number_free : (value : ℕ) → list_all is_comma_free (number_pieces 64 value) ≡ true
unfolding number_pieces
number_free value = by (is_positive 64 value)
  where
    by : (p : Bool) → list_all is_comma_free (cond p (word (decimal value) ∷ []) (mark 45 ∷ word (decimal (2 ^ 64 - value)) ∷ [])) ≡ true
    by true = refl
    by false = refl

place_free : (value : ℕ) → list_all is_comma_free (place_pieces value) ≡ true
unfolding place_pieces
place_free value = by (is_positive 64 value)
  where
    by : (p : Bool) → list_all is_comma_free (cond p (word (codes ".") ∷ mark 43 ∷ word (decimal value) ∷ []) (word (codes ".") ∷ mark 45 ∷ word (decimal (2 ^ 64 - value)) ∷ [])) ≡ true
    by true = refl
    by false = refl

sum_free : (b : Base) (i : Index) (value : ℕ) → list_all is_comma_free (sum_pieces b i value) ≡ true
sum_free base.Absent index.Absent value = number_free value
sum_free base.Absent (index.By number scale) value = added_free value
sum_free base.Rip i value = place_free value
sum_free (base.Of own) index.Absent value = added_free value
sum_free (base.Of own) (index.By number scale) value = added_free value

bracket_free : (address : Address) (value : ℕ) → list_all is_comma_free (bracket_pieces address value) ≡ true
bracket_free address value = all_free (sum_pieces address.base address.index value) (mark 93 ∷ []) (sum_free address.base address.index value) refl

segment_free : (s : Option Segment) (pieces : List PrintedPiece) → list_all is_comma_free pieces ≡ true → list_all is_comma_free (segment_pieces s ++ pieces) ≡ true
segment_free None pieces all = all
segment_free (Some segment.Fs) pieces all = all
segment_free (Some segment.Gs) pieces all = all

memory_free : (bytes : ℕ) (address : Address) (value : ℕ) → IsMemorySize bytes → list_all is_comma_free (memory_pieces bytes address value) ≡ true
memory_free _ address value uncounted = segment_free address.segment (bracket_pieces address value) (bracket_free address value)
memory_free _ address value one = segment_free address.segment (bracket_pieces address value) (bracket_free address value)
memory_free _ address value two = segment_free address.segment (bracket_pieces address value) (bracket_free address value)
memory_free _ address value four = segment_free address.segment (bracket_pieces address value) (bracket_free address value)
memory_free _ address value eight = segment_free address.segment (bracket_pieces address value) (bracket_free address value)
memory_free _ address value sixteen = segment_free address.segment (bracket_pieces address value) (bracket_free address value)

-- the tokens of a `[`, a text and a `]`
abbrev pub enclosed : ℕ → ℕ → List SpelledToken → List SpelledToken
enclosed from to text = made Operator (91 ∷ []) from ∷ (text ++ (made Operator (93 ∷ []) to ∷ []))

either : {A : Type 0} (b : Bool) (x : A) → cond b x x ≡ x
either true x = refl
either false x = refl

either_or : (a b : Bool) → (a || (b || true)) ≡ true
either_or true b = refl
either_or false true = refl
either_or false false = refl

-- a bracket is no register and no segment
no_bracket_name : register_of (91 ∷ []) ≡ None
unfolding register_of register_names
no_bracket_name = refl

unsegmented : (from : ℕ) (rest : List SpelledToken) → segment_of (made Operator (91 ∷ []) from ∷ rest) ≡ None
unfolding segment_of
unsegmented from rest = let none = no_bracket_name in rw none (either (mark_at (made Operator (91 ∷ []) from ∷ rest) 1 == 58) None)

unsized_bracket : (from : ℕ) (rest : List SpelledToken) → bits_in (made Operator (91 ∷ []) from ∷ rest) ≡ 0
unfolding bits_of
unsized_bracket from rest = either (is_word (codes "ptr") (slice_get (made Operator (91 ∷ []) from ∷ rest) 1)) 0

bracket_is : (from : ℕ) (rest : List SpelledToken) → has_bracket (made Operator (91 ∷ []) from ∷ rest) ≡ true
unfolding has_bracket
bracket_is from rest = let is = marks 91 from in rw is refl

bracket_lone : (from : ℕ) (rest : List SpelledToken) → lone_register (made Operator (91 ∷ []) from ∷ rest) ≡ None
unfolding lone_register
bracket_lone from [] = let none = no_bracket_name in rw none refl
bracket_lone from (token ∷ rest) = refl

bracket_offset : (from : ℕ) (rest : List SpelledToken) → offset_words (made Operator (91 ∷ []) from ∷ rest) ≡ 0
unfolding is_word
bracket_offset from rest = refl

bracket_memory : (from : ℕ) (rest : List SpelledToken) → is_memory (made Operator (91 ∷ []) from ∷ rest) ≡ true
bracket_memory from rest =
    let text = made Operator (91 ∷ []) from ∷ rest in
    let is = bracket_is from rest in
    rw is (either_or (nat_lt 0 (bits_in text)) (is_some (segment_of text)))

bracket_nested : (from : ℕ) (rest : List SpelledToken) → is_word (codes "ptr") (slice_get rest 1) ≡ false → is_nested (made Operator (91 ∷ []) from ∷ rest) ≡ false
bracket_nested from rest pointer = let is = marks 91 from in rw (is, pointer) refl

positive : (n : ℕ) → nat_lt 0 (suc n) ≡ true
positive n = grind (arith, nat_tests)

-- memory after its size
pub record IsMemory (bits : ℕ) (place : Address) (held : ValueText) (text : List SpelledToken) : Type 0 where
  pub outline : Outline
  pub segments : SegmentsMemory bits outline text
  pub holds : (branch : Bool) → HoldsValue branch outline (in_memory bits place held)
  pub some : nat_lt 0 (length text) ≡ true
  pub lone : lone_register text ≡ None
  pub offset : offset_words text ≡ 0
  pub memory : is_memory text ≡ true
  pub nested : is_nested text ≡ false
  pub unsaid_size : bits_in text ≡ 0

-- memory in brackets, in a segment or in none
places : (bits : ℕ) (s : Option Segment) (b : Base) (i : Index) (held : ValueText) (from to : ℕ) (text : List SpelledToken) (sum : IsSum b i held from text)
    → PlacesMemory bits s (summed_at bits 91 (in_segment s b i) sum.left) (enclosed from to text)
places bits s b i held from to text sum =
    let is = marks 91 from in
    subst (λ (m : ℕ). PlacesMemory bits s (summed_at bits m (in_segment s b i) sum.left) (enclosed from to text)) is
    (bracket bits s (in_segment s b i) sum.parts (made Operator (93 ∷ []) to) sum.left (made Operator (91 ∷ []) from ∷ text) (enclosed from to text)
    (bracket_is from (text ++ (made Operator (93 ∷ []) to ∷ []))) sum.writes (sum.address s) (marks 93 to) refl)

unplaced : (bits : ℕ) (b : Base) (i : Index) (held : ValueText) (from to : ℕ) (text : List SpelledToken) → IsSum b i held from text → IsMemory bits (in_segment None b i) held (enclosed from to text)
unplaced bits b i held from to text sum =
    let rest = text ++ (made Operator (93 ∷ []) to ∷ []) in
    record {
      outline = summed_at bits 91 (in_segment None b i) sum.left;
      segments = plain bits _ _ (unsegmented from rest) (places bits None b i held from to text sum);
      holds = λ branch. sum.holds branch bits (in_segment None b i);
      some = positive _;
      lone = bracket_lone from rest;
      offset = bracket_offset from rest;
      memory = bracket_memory from rest;
      nested = bracket_nested from rest (sum.pointer to);
      unsaid_size = unsized_bracket from rest;
    }

segments_named : (register_of (codes "fs") ≡ Some (named.Segment segment.Fs)) × (register_of (codes "gs") ≡ Some (named.Segment segment.Gs))
unfolding register_names register_of
segments_named = (refl, refl)

in_fs : (bits : ℕ) (b : Base) (i : Index) (held : ValueText) (at from to : ℕ) (text : List SpelledToken) → IsSum b i held from text
    → IsMemory bits (in_segment (Some segment.Fs) b i) held (made Name (codes "fs") at ∷ made Operator (58 ∷ []) (at + 2) ∷ enclosed from to text)
unfolding lone_register is_word segment_of register_of register_names mark_by
in_fs bits b i held at from to text sum = record {
  outline = summed_at bits 91 (in_segment (Some segment.Fs) b i) sum.left;
  segments = behind_segment bits segment.Fs _ _ _ _ segments_named.0 (marks 58 (at + 2)) (places bits (Some segment.Fs) b i held from to text sum);
  holds = λ branch. sum.holds branch bits (in_segment (Some segment.Fs) b i);
  some = positive _;
  lone = refl;
  offset = refl;
  memory = refl;
  nested = refl;
  unsaid_size = refl;
}

in_gs : (bits : ℕ) (b : Base) (i : Index) (held : ValueText) (at from to : ℕ) (text : List SpelledToken) → IsSum b i held from text
    → IsMemory bits (in_segment (Some segment.Gs) b i) held (made Name (codes "gs") at ∷ made Operator (58 ∷ []) (at + 2) ∷ enclosed from to text)
unfolding lone_register is_word segment_of register_of register_names mark_by
in_gs bits b i held at from to text sum = record {
  outline = summed_at bits 91 (in_segment (Some segment.Gs) b i) sum.left;
  segments = behind_segment bits segment.Gs _ _ _ _ segments_named.1 (marks 58 (at + 2)) (places bits (Some segment.Gs) b i held from to text sum);
  holds = λ branch. sum.holds branch bits (in_segment (Some segment.Gs) b i);
  some = positive _;
  lone = refl;
  offset = refl;
  memory = refl;
  nested = refl;
  unsaid_size = refl;
}

-- the brackets and what they hold
closed : (p : Address) (value from : ℕ)
    → tokens_in from (bracket_pieces p value) ≡ enclosed from (behind (from + 1) (sum_pieces p.base p.index value)) (tokens_in (from + 1) (sum_pieces p.base p.index value))
closed p value from = ap (λ (ts : List SpelledToken). made Operator (91 ∷ []) from ∷ ts) (tokens_append (from + 1) (sum_pieces p.base p.index value) (mark 93 ∷ []))

-- memory in its segment
segments_spelled : SharedLaws → (bits : ℕ) (s : Option Segment) (b : Base) (i : Index) (value at : ℕ) → value < 2 ^ 64 → IsAddressed b i
    → IsMemory bits (in_segment s b i) (moved_text b value) (tokens_in at (segment_pieces s ++ bracket_pieces (in_segment s b i) value))
segments_spelled laws bits None b i value at fits ok =
    subst (IsMemory bits (in_segment None b i) (moved_text b value)) (sym (closed (in_segment None b i) value at))
    (unplaced bits b i (moved_text b value) at _ _ (sum_spelled laws b i value at fits ok))
segments_spelled laws bits (Some segment.Fs) b i value at fits ok =
    subst (λ (ts : List SpelledToken). IsMemory bits (in_segment (Some segment.Fs) b i) (moved_text b value) (made Name (codes "fs") at ∷ made Operator (58 ∷ []) (at + 2) ∷ ts))
    (sym (closed (in_segment (Some segment.Fs) b i) value (at + 2 + 1)))
    (in_fs bits b i (moved_text b value) at (at + 2 + 1) _ _ (sum_spelled laws b i value (at + 2 + 1) fits ok))
segments_spelled laws bits (Some segment.Gs) b i value at fits ok =
    subst (λ (ts : List SpelledToken). IsMemory bits (in_segment (Some segment.Gs) b i) (moved_text b value) (made Name (codes "gs") at ∷ made Operator (58 ∷ []) (at + 2) ∷ ts))
    (sym (closed (in_segment (Some segment.Gs) b i) value (at + 2 + 1)))
    (in_gs bits b i (moved_text b value) at (at + 2 + 1) _ _ (sum_spelled laws b i value (at + 2 + 1) fits ok))

-- a word of a size
pub record SaysSize (bits : ℕ) (text : List ℕ) : Type 0 where
  pub some : nat_lt 0 bits ≡ true
  pub says : bits_of text ≡ bits
  pub offset : (at : ℕ) → is_word (codes "offset") (Some (made Name text at)) ≡ false

-- what is round the value, of memory with a size or without
pub record IsRound (bits : ℕ) (place : Address) (held : ValueText) (text : List SpelledToken) : Type 0 where
  pub outline : Outline
  pub some : nat_lt 0 (length text) ≡ true
  pub round : IsOutline outline text
  pub holds : (branch : Bool) → HoldsValue branch outline (in_memory bits place held)

without_size : (address : Address) (held : ValueText) (text : List SpelledToken) → IsMemory 0 address held text → IsRound 0 address held text
without_size address held text is = record {
  outline = is.outline;
  some = is.some;
  round = place is.outline text is.lone is.offset is.memory is.nested (unsaid is.outline text is.unsaid_size is.segments);
  holds = is.holds;
}

with_size : (bits : ℕ) (size : List ℕ) (at to : ℕ) (address : Address) (held : ValueText) (text : List SpelledToken) → SaysSize bits size → IsMemory bits address held text
    → IsRound bits address held (made Name size at ∷ made Name (codes "PTR") to ∷ text)
unfolding lone_register is_word mark_by
with_size bits size at to address held text says is =
    let own = says.says in
    let some = says.some in
    let first = says.offset at in
    record {
      outline = is.outline;
      some = positive _;
      round = place is.outline _ refl (rw first refl) (rw (own, some) refl) refl (said bits is.outline (made Name size at) (made Name (codes "PTR") to) text own some refl is.segments);
      holds = is.holds;
    }

bytes_say : SaysSize 8 (codes "BYTE")
unfolding bits_of is_word
bytes_say = record { some = refl; says = refl; offset = λ at. refl }

words_say : SaysSize 16 (codes "WORD")
unfolding bits_of is_word
words_say = record { some = refl; says = refl; offset = λ at. refl }

longs_say : SaysSize 32 (codes "DWORD")
unfolding bits_of is_word
longs_say = record { some = refl; says = refl; offset = λ at. refl }

quads_say : SaysSize 64 (codes "QWORD")
unfolding bits_of is_word
quads_say = record { some = refl; says = refl; offset = λ at. refl }

vectors_say : SaysSize 128 (codes "XMMWORD")
unfolding bits_of is_word
vectors_say = record { some = refl; says = refl; offset = λ at. refl }

-- memory of so many bytes
rounds : SharedLaws → (bytes : ℕ) (address : Address) (value offset : ℕ) → IsMemorySize bytes → value < 2 ^ 64 → IsAddressed address.base address.index
    → IsRound (8 * bytes) address (moved_text address.base value) (tokens_in offset (memory_pieces bytes address value))
rounds laws _ address value offset uncounted fits ok =
    without_size address (moved_text address.base value) _ (segments_spelled laws 0 address.segment address.base address.index value offset fits ok)
rounds laws _ address value offset one fits ok =
    with_size 8 (codes "BYTE") offset _ address (moved_text address.base value) _ bytes_say (segments_spelled laws 8 address.segment address.base address.index value (offset + 4 + 1 + 3 + 1) fits ok)
rounds laws _ address value offset two fits ok =
    with_size 16 (codes "WORD") offset _ address (moved_text address.base value) _ words_say (segments_spelled laws 16 address.segment address.base address.index value (offset + 4 + 1 + 3 + 1) fits ok)
rounds laws _ address value offset four fits ok =
    with_size 32 (codes "DWORD") offset _ address (moved_text address.base value) _ longs_say (segments_spelled laws 32 address.segment address.base address.index value (offset + 5 + 1 + 3 + 1) fits ok)
rounds laws _ address value offset eight fits ok =
    with_size 64 (codes "QWORD") offset _ address (moved_text address.base value) _ quads_say (segments_spelled laws 64 address.segment address.base address.index value (offset + 5 + 1 + 3 + 1) fits ok)
rounds laws _ address value offset sixteen fits ok =
    with_size 128 (codes "XMMWORD") offset _ address (moved_text address.base value) _ vectors_say (segments_spelled laws 128 address.segment address.base address.index value (offset + 7 + 1 + 3 + 1) fits ok)

pub memory_spelled : SharedLaws → (branch : Bool) (bytes : ℕ) (address : Address) (value offset : ℕ) → IsMemorySize bytes → value < 2 ^ 64 → IsAddressed address.base address.index
    → SpellsOperand branch (in_memory (8 * bytes) address (moved_text address.base value)) (tokens_in offset (memory_pieces bytes address value))
memory_spelled laws branch bytes address value offset size fits ok =
    let is = rounds laws bytes address value offset size fits ok in
    record {
      outline = is.outline;
      some = is.some;
      apart = no_commas offset (memory_pieces bytes address value) (memory_free bytes address value size);
      round = is.round;
      holds = is.holds branch;
    }
