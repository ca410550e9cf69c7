-- An operand that is read is spelled.
use Rattle.std.proofs.Common.{◌≡◌, ℕ, ◌+◌, ◌==◌, ◌||◌, Bool, true, false, cond, List, [], ◌∷◌, ◌++◌, Option, Some, None, Result, Ok, Err, length, drop, slice_get, refl, sym, ap, subst, ◌∙◌, arith, length-append, append_assoc}
use Rattle.asm_base.specs.Tokens.{SpelledToken}
use Rattle.x86_insn.specs.declared.registers.Reg.{Reg}
use Rattle.x86_insn.specs.declared.insns.Segment.{Segment}
use Rattle.x86_insn.specs.declared.insns.Base.{Base}
use Rattle.x86_insn.specs.declared.insns.Index.{Index}
use Rattle.att_operands.specs.declared.faults.OperandCause.{OperandCause}
use Rattle.att_operands.specs.declared.faults.OperandCause.TheVariants.{BadOperand}
use Rattle.att_operands.specs.declared.registers.NamedRegister.{NamedRegister}
use Rattle.att_operands.specs.declared.registers.NamedRegister.TheVariants as named
use Rattle.att_operands.specs.declared.addresses.ReadAddress.{ReadAddress}
use Rattle.att_operands.specs.Registers.{register_of}
use Rattle.att_operands.specs.Marks.{mark_at, ends_by, ends_at}
use Rattle.att_operands.specs.Addresses.{register_by, read_address, address_at}
use Rattle.att_operands.specs.Values.{ValueText, ReadText, value_at, begun_at}
use Rattle.att_operands.specs.OperandTexts.{OperandText, register, immediate, memory, target, ReadPart, part, no_displacement, addressed, displaced, displaced_by, displaced_alone, opens_address, memory_at, named_place, place_at, immediate_by, target_by, target_at, other_by, operand_by, ended, operand_at}
use Rattle.att_operands.specs.Spells.{in_segment, WritesMemory, displacement, address, both, SpellsPlace, plain, unnamed, segmented, SpellsOperand, immediate_of, place, target_of, indirect, ends, IsSpelledIn}
use Rattle.att_operands.proofs.FrontReadings.{ReadsAreTexts}
use Rattle.att_operands.proofs.SpelledIsRead.{stands_at}
use Rattle.att_operands.proofs.ReadAddresses.{front_is, Marked, marked, two_stand, three_stand, moved_left, address_written}
use Rattle.att_operands.proofs.ReadValues.{ok_is, ValueRead, value_written, begun_written}

-- an operand that was read, with its text
pub record PartRead (Is : OperandText → List SpelledToken → Type 0) (tokens : List SpelledToken) (at : ℕ) (found : ReadPart) : Type 0 where
  pub text : List SpelledToken
  pub spells : Is found.operand text
  pub stands : drop at tokens ≡ text ++ drop (at + length text) tokens
  pub next : found.next ≡ at + length text

-- memory at an address that was read
at_address : (segment : Option Segment) (text : ValueText) (found : ReadAddress) (base : Base) (index : Index) (n : ℕ) (made : ReadPart) → found ≡ read_address base index n
    → addressed segment text (Some found) ≡ Ok made → part (memory (in_segment segment base index) text) n ≡ made
at_address segment text found base index n made is given = ok_is (sym (ap (λ (a : ReadAddress). addressed segment text (Some a)) is) ∙ given)

address_read : (tokens : List SpelledToken) (at : ℕ) (segment : Option Segment) (found : ReadPart) (read : Option ReadAddress) → Marked tokens at 40 → address_at tokens (at + 1) ≡ read
    → addressed segment no_displacement read ≡ Ok found → PartRead (WritesMemory segment) tokens at found
address_read tokens at segment found None opening reads is = cc
address_read tokens at segment found (Some read) opening reads is =
    let inner = address_written tokens (at + 1) read reads in
    let same = at_address segment no_displacement read inner.base inner.index ((at + 1) + length inner.text) found inner.is is in
    subst (PartRead (WritesMemory segment) tokens at) same (record {
      text = opening.token ∷ inner.text;
      spells = address segment inner.base inner.index opening.token inner.text opening.is inner.writes;
      stands = front_is tokens at opening.token opening.there
          ∙ ap (λ (ts : List SpelledToken). opening.token ∷ ts) (inner.stands ∙ moved_left tokens inner.text ((at + 1) + length inner.text) (at + length (opening.token ∷ inner.text)) (omega arith));
      next = omega arith;
    })

-- a displacement with an address behind it
both_read : (tokens : List SpelledToken) (at : ℕ) (segment : Option Segment) (found : ReadPart) (value : ReadText) (read : Option ReadAddress) → ValueRead tokens at value → Marked tokens value.next 40
    → address_at tokens (value.next + 1) ≡ read → addressed segment value.text read ≡ Ok found → PartRead (WritesMemory segment) tokens at found
both_read tokens at segment found value None before opening reads is = cc
both_read tokens at segment found value (Some read) before opening reads is =
    let inner = address_written tokens (value.next + 1) read reads in
    let same = at_address segment value.text read inner.base inner.index ((value.next + 1) + length inner.text) found inner.is is in
    let text = before.text ++ (opening.token ∷ inner.text) in
    let next = before.next in
    let count = length-append before.text (opening.token ∷ inner.text) in
    let end : (value.next + 1) + length inner.text ≡ at + length text = omega arith in
    let rest = front_is tokens value.next opening.token opening.there ∙ ap (λ (ts : List SpelledToken). opening.token ∷ ts) (inner.stands ∙ moved_left tokens inner.text ((value.next + 1) + length inner.text) (at + length text) end) in
    let behind : drop (at + length before.text) tokens ≡ opening.token ∷ (inner.text ++ drop (at + length text) tokens) = ap (λ (n : ℕ). drop n tokens) (sym next) ∙ rest in
    subst (PartRead (WritesMemory segment) tokens at) same (record {
      text = text;
      spells = both segment inner.base inner.index value.text opening.token before.text inner.text text before.writes opening.is inner.writes refl;
      stands = before.stands ∙ ap (λ (ts : List SpelledToken). before.text ++ ts) behind ∙ sym (append_assoc before.text (opening.token ∷ inner.text) (drop (at + length text) tokens));
      next = end;
    })

alone_read : (tokens : List SpelledToken) (at : ℕ) (segment : Option Segment) (value : ReadText) → ValueRead tokens at value → PartRead (WritesMemory segment) tokens at (displaced_alone segment value)
alone_read tokens at segment value read = record {
  text = read.text;
  spells = displacement segment value.text read.text read.writes;
  stands = read.stands;
  next = read.next;
}

displaced_read : (tokens : List SpelledToken) (at : ℕ) (segment : Option Segment) (found : ReadPart) (value : ReadText) (b : Bool) → ValueRead tokens at value → (mark_at tokens value.next == 40) ≡ b
    → cond b (addressed segment value.text (address_at tokens (value.next + 1))) (Ok (displaced_alone segment value)) ≡ Ok found → PartRead (WritesMemory segment) tokens at found
displaced_read tokens at segment found value true read test is = both_read tokens at segment found value (address_at tokens (value.next + 1)) read (marked tokens value.next 40 test refl) refl is
displaced_read tokens at segment found value false read test is = subst (PartRead (WritesMemory segment) tokens at) (ok_is is) (alone_read tokens at segment value read)

module _ (read_is_text : ReadsAreTexts) where
  unopened_read : (tokens : List SpelledToken) (at : ℕ) (segment : Option Segment) (found : ReadPart) (value : Result ReadText OperandCause) → begun_at tokens at ≡ value
      → displaced_by tokens segment value ≡ Ok found → PartRead (WritesMemory segment) tokens at found
  unfolding displaced
  unopened_read tokens at segment found (Err fault) reads is = cc
  unopened_read tokens at segment found (Ok value) reads is = displaced_read tokens at segment found value (mark_at tokens value.next == 40) (begun_written read_is_text tokens at value reads) refl is

  opening_mark : (tokens : List SpelledToken) (at : ℕ) (b rest : Bool) → (mark_at tokens at == 40) ≡ b → cond b rest false ≡ true → Marked tokens at 40
  opening_mark tokens at true rest test is = marked tokens at 40 test refl
  opening_mark tokens at false rest test is = cc

  memory_by : (tokens : List SpelledToken) (at : ℕ) (segment : Option Segment) (found : ReadPart) (b : Bool) → opens_address tokens at ≡ b
      → cond b (addressed segment no_displacement (address_at tokens (at + 1))) (displaced_by tokens segment (begun_at tokens at)) ≡ Ok found → PartRead (WritesMemory segment) tokens at found
  memory_by tokens at segment found true opens is =
      address_read tokens at segment found (address_at tokens (at + 1)) (opening_mark tokens at (mark_at tokens at == 40) (mark_at tokens (at + 1) == 37 || mark_at tokens (at + 1) == 44) refl opens) refl is
  memory_by tokens at segment found false opens is = unopened_read tokens at segment found (begun_at tokens at) refl is

  -- memory that is read is written
  memory_written : (tokens : List SpelledToken) (at : ℕ) (segment : Option Segment) (found : ReadPart) → memory_at tokens segment at ≡ Ok found → PartRead (WritesMemory segment) tokens at found
  unfolding memory_at
  memory_written tokens at segment found is = memory_by tokens at segment found (opens_address tokens at) refl is

  segment_read : (tokens : List SpelledToken) (at : ℕ) (found : ReadPart) (sign : Marked tokens at 37) (word : SpelledToken) (segment : Segment) (b : Bool) → slice_get tokens (at + 1) ≡ Some word
      → register_of word.bytes ≡ Some (named.Segment segment) → (mark_at tokens (at + 2) == 58) ≡ b → cond b (memory_at tokens (Some segment) ((at + 2) + 1)) (Err BadOperand) ≡ Ok found
      → PartRead SpellsPlace tokens at found
  segment_read tokens at found sign word segment false there names test is = cc
  segment_read tokens at found sign word segment true there names test is =
      let colon = marked tokens (at + 2) 58 test refl in
      let inner = memory_written tokens ((at + 2) + 1) (Some segment) found is in
      let three : (at + 2) + 1 ≡ at + 3 = omega arith in
      let text = sign.token ∷ word ∷ colon.token ∷ inner.text in
      let end : ((at + 2) + 1) + length inner.text ≡ at + length text = omega arith in
      let front = three_stand tokens at sign.token word colon.token sign.there there colon.there in
      let behind : drop (at + 3) tokens ≡ inner.text ++ drop (at + length text) tokens = ap (λ (n : ℕ). drop n tokens) (sym three) ∙ inner.stands ∙ moved_left tokens inner.text (((at + 2) + 1) + length inner.text) (at + length text) end in
      record {
        text = text;
        spells = segmented segment found.operand sign.token word colon.token inner.text sign.is names colon.is inner.spells;
        stands = front ∙ ap (λ (ts : List SpelledToken). sign.token ∷ word ∷ colon.token ∷ ts) behind;
        next = inner.next ∙ end;
      }

  register_read : (tokens : List SpelledToken) (at : ℕ) (sign : Marked tokens at 37) (word : SpelledToken) (reg : Reg) → slice_get tokens (at + 1) ≡ Some word
      → register_of word.bytes ≡ Some (named.Plain reg) → PartRead SpellsPlace tokens at (part (register reg) (at + 2))
  register_read tokens at sign word reg there names = record {
    text = sign.token ∷ word ∷ [];
    spells = plain reg sign.token word sign.is names;
    stands = two_stand tokens at sign.token word sign.there there;
    next = refl;
  }

  named_read : (tokens : List SpelledToken) (at : ℕ) (found : ReadPart) (word : Option SpelledToken) (reg : Option NamedRegister) → Marked tokens at 37 → slice_get tokens (at + 1) ≡ word
      → register_by word ≡ reg → named_place tokens reg (at + 2) ≡ Ok found → PartRead SpellsPlace tokens at found
  named_read tokens at found word None sign there names is = cc
  named_read tokens at found None (Some reg) sign there names is = cc
  named_read tokens at found (Some word) (Some named.Rip) sign there names is = cc
  named_read tokens at found (Some word) (Some (named.Plain reg)) sign there names is = subst (PartRead SpellsPlace tokens at) (ok_is is) (register_read tokens at sign word reg there names)
  named_read tokens at found (Some word) (Some (named.Segment segment)) sign there names is = segment_read tokens at found sign word segment (mark_at tokens (at + 2) == 58) there names refl is

  unnamed_read : (tokens : List SpelledToken) (at : ℕ) (found : ReadPart) → PartRead (WritesMemory None) tokens at found → PartRead SpellsPlace tokens at found
  unnamed_read tokens at found read = record { text = read.text; spells = unnamed found.operand read.text read.spells; stands = read.stands; next = read.next }

  place_by : (tokens : List SpelledToken) (at : ℕ) (found : ReadPart) (b : Bool) → (mark_at tokens at == 37) ≡ b
      → cond b (named_place tokens (register_by (slice_get tokens (at + 1))) (at + 2)) (memory_at tokens None at) ≡ Ok found → PartRead SpellsPlace tokens at found
  place_by tokens at found true test is = named_read tokens at found (slice_get tokens (at + 1)) (register_by (slice_get tokens (at + 1))) (marked tokens at 37 test refl) refl refl is
  place_by tokens at found false test is = unnamed_read tokens at found (memory_written tokens at None found is)

  -- a register or memory that is read is spelled
  place_written : (tokens : List SpelledToken) (at : ℕ) (found : ReadPart) → place_at tokens at ≡ Ok found → PartRead SpellsPlace tokens at found
  unfolding place_at
  place_written tokens at found is = place_by tokens at found (mark_at tokens at == 37) refl is

  immediate_read : (branch : Bool) (tokens : List SpelledToken) (at : ℕ) (found : ReadPart) (value : Result ReadText OperandCause) → Marked tokens at 36 → value_at tokens (at + 1) ≡ value → immediate_by value ≡ Ok found
      → PartRead (SpellsOperand branch) tokens at found
  immediate_read branch tokens at found (Err fault) sign reads is = cc
  immediate_read branch tokens at found (Ok value) sign reads is =
      let inner = value_written read_is_text tokens (at + 1) value reads in
      let end : (at + 1) + length inner.text ≡ at + length (sign.token ∷ inner.text) = omega arith in
      let made : PartRead (SpellsOperand branch) tokens at (part (immediate value.text) value.next) = record {
        text = sign.token ∷ inner.text;
        spells = immediate_of branch value.text sign.token inner.text sign.is inner.writes;
        stands = front_is tokens at sign.token sign.there
            ∙ ap (λ (ts : List SpelledToken). sign.token ∷ ts) (inner.stands ∙ moved_left tokens inner.text ((at + 1) + length inner.text) (at + length (sign.token ∷ inner.text)) end);
        next = inner.next ∙ end;
      } in
      subst (PartRead (SpellsOperand branch) tokens at) (ok_is is) made

  target_read : (tokens : List SpelledToken) (at : ℕ) (found : ReadPart) (value : Result ReadText OperandCause) → begun_at tokens at ≡ value → target_by value ≡ Ok found
      → PartRead (SpellsOperand true) tokens at found
  target_read tokens at found (Err fault) reads is = cc
  target_read tokens at found (Ok value) reads is =
      let inner = begun_written read_is_text tokens at value reads in
      let made : PartRead (SpellsOperand true) tokens at (part (target value.text) value.next) = record {
        text = inner.text;
        spells = target_of value.text inner.text inner.writes;
        stands = inner.stands;
        next = inner.next;
      } in
      subst (PartRead (SpellsOperand true) tokens at) (ok_is is) made

  indirect_read : (tokens : List SpelledToken) (at : ℕ) (found : ReadPart) → Marked tokens at 42 → PartRead SpellsPlace tokens (at + 1) found → PartRead (SpellsOperand true) tokens at found
  indirect_read tokens at found star inner =
      let end : (at + 1) + length inner.text ≡ at + length (star.token ∷ inner.text) = omega arith in
      record {
        text = star.token ∷ inner.text;
        spells = indirect found.operand star.token inner.text star.is inner.spells;
        stands = front_is tokens at star.token star.there
            ∙ ap (λ (ts : List SpelledToken). star.token ∷ ts) (inner.stands ∙ moved_left tokens inner.text ((at + 1) + length inner.text) (at + length (star.token ∷ inner.text)) end);
        next = inner.next ∙ end;
      }

  direct_read : (tokens : List SpelledToken) (at : ℕ) (found : ReadPart) → PartRead SpellsPlace tokens at found → PartRead (SpellsOperand false) tokens at found
  direct_read tokens at found read = record { text = read.text; spells = place found.operand read.text read.spells; stands = read.stands; next = read.next }

  unopened_target : (tokens : List SpelledToken) (at : ℕ) (found : ReadPart) (b : Bool) → cond b (Err BadOperand) (target_by (begun_at tokens at)) ≡ Ok found → PartRead (SpellsOperand true) tokens at found
  unopened_target tokens at found true is = cc
  unopened_target tokens at found false is = target_read tokens at found (begun_at tokens at) refl is

  of_branch : (tokens : List SpelledToken) (at : ℕ) (found : ReadPart) (b : Bool) → (mark_at tokens at == 42) ≡ b → cond b (place_at tokens (at + 1)) (target_at tokens at) ≡ Ok found
      → PartRead (SpellsOperand true) tokens at found
  of_branch tokens at found true test is = indirect_read tokens at found (marked tokens at 42 test refl) (place_written tokens (at + 1) found is)
  of_branch tokens at found false test is = unopened_target tokens at found (opens_address tokens at) is

  other_written : (tokens : List SpelledToken) (at : ℕ) (branch : Bool) (found : ReadPart) → other_by branch tokens at ≡ Ok found → PartRead (SpellsOperand branch) tokens at found
  other_written tokens at true found is = of_branch tokens at found (mark_at tokens at == 42) refl is
  other_written tokens at false found is = direct_read tokens at found (place_written tokens at found is)

  signed_by : (tokens : List SpelledToken) (at : ℕ) (branch : Bool) (found : ReadPart) (b : Bool) → (mark_at tokens at == 36) ≡ b
      → cond b (immediate_by (value_at tokens (at + 1))) (other_by branch tokens at) ≡ Ok found → PartRead (SpellsOperand branch) tokens at found
  signed_by tokens at branch found true test is = immediate_read branch tokens at found (value_at tokens (at + 1)) (marked tokens at 36 test refl) refl is
  signed_by tokens at branch found false test is = other_written tokens at branch found is

  operand_written : (tokens : List SpelledToken) (at : ℕ) (branch : Bool) (found : ReadPart) → operand_by branch tokens at ≡ Ok found → PartRead (SpellsOperand branch) tokens at found
  operand_written tokens at branch found is = signed_by tokens at branch found (mark_at tokens at == 36) refl is

  ended_by : (branch : Bool) (tokens : List SpelledToken) (at : ℕ) (found made : ReadPart) (b : Bool) → PartRead (SpellsOperand branch) tokens at made → ends_at tokens made.next ≡ b
      → cond b (Ok made) (Err BadOperand) ≡ Ok found → IsSpelledIn branch tokens at found
  ended_by branch tokens at found made false read ends_here is = cc
  ended_by branch tokens at found made true read ends_here is =
      let there = ap ends_by (stands_at 0 tokens (drop made.next tokens) made.next made.next refl (omega arith)) in
      let here : ends (drop made.next tokens) ≡ true = sym there ∙ ends_here in
      subst (IsSpelledIn branch tokens at) (ok_is is) (record {
        text = read.text;
        behind = drop (at + length read.text) tokens;
        stands = read.stands;
        next = read.next;
        spells = read.spells;
        ended = ap (λ (n : ℕ). ends (drop n tokens)) (sym read.next) ∙ here;
      })

  whole_by : (branch : Bool) (tokens : List SpelledToken) (at : ℕ) (found : ReadPart) (read : Result ReadPart OperandCause) → operand_by branch tokens at ≡ read → ended tokens read ≡ Ok found
      → IsSpelledIn branch tokens at found
  whole_by branch tokens at found (Err fault) reads is = cc
  whole_by branch tokens at found (Ok made) reads is = ended_by branch tokens at found made (ends_at tokens made.next) (operand_written tokens at branch made reads) refl is

  -- an operand that is read whole is spelled
  pub read_is_spelled : (branch : Bool) (tokens : List SpelledToken) (at : ℕ) (found : ReadPart) → operand_at branch tokens at ≡ Ok found → IsSpelledIn branch tokens at found
  unfolding operand_at
  read_is_spelled branch tokens at found is = whole_by branch tokens at found (operand_by branch tokens at) refl is
