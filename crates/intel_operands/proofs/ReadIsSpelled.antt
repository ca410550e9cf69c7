-- An operand that is read is spelled.
use Rattle.std.proofs.Common.{◌≡◌, ℕ, ◌+◌, ◌==◌, nat_lt, Bool, true, false, cond, List, [], ◌∷◌, Option, Some, None, Result, Ok, Err, length, take, drop, refl, sym, ap, subst, arith}
use Rattle.std.proofs.lemmas.Bool.{eqb-true, lt-ltb}
use Rattle.asm_base.specs.Tokens.{SpelledToken}
use Rattle.x86_insn.specs.declared.insns.Address.{Address}
use Rattle.att_operands.specs.declared.faults.OperandCause.{OperandCause}
use Rattle.att_operands.specs.declared.faults.OperandCause.TheVariants.{BadOperand}
use Rattle.att_operands.specs.Values.{ValueText, ReadText, value_at}
use Rattle.att_operands.specs.Spells.{WritesValue}
use Rattle.att_operands.specs.WholeValues.{ValuesAreWritten}
use Rattle.intel_sums.specs.SumLaws.{SumsAreWritten}
use Rattle.intel_operands.specs.Symbols.{has_symbol, names_place}
use Rattle.intel_operands.specs.OperandTexts.{SizedText, Outline, lone, held, bare, stands, moved, ending, value_of, as_immediate, as_memory, bare_operand, as_bare, with_value, outlined, outline_of, operand_of, up_to_comma, part, ReadPart, ended, operand_at}
use Rattle.intel_operands.specs.Spells.{HoldsValue, of_register, of_offset, of_target, of_symbol, of_number, of_address, of_displacement, SpellsOperand, HasNoComma, IsSpelledIn}
use Rattle.intel_operands.proofs.TextLemmas.{ok_is, front_of_tokens}
use Rattle.intel_operands.proofs.OutlineTexts.{outline_written}

ending_written : ValuesAreWritten → (text : List SpelledToken) (value : ValueText) (found : ReadText) (b : Bool) → value_at text 0 ≡ Ok found → (found.next == length text) ≡ b
    → cond b (Ok found.text) (Err BadOperand) ≡ Ok value → WritesValue value text
ending_written law text value found false reads whole is = cc
ending_written law text value found true reads whole is =
    subst (λ (v : ValueText). WritesValue v text) (ok_is is) (law text found reads (eqb-true found.next (length text) whole))

value_by : ValuesAreWritten → (text : List SpelledToken) (value : ValueText) (read : Result ReadText OperandCause) → value_at text 0 ≡ read → ending text read ≡ Ok value → WritesValue value text
value_by law text value (Err fault) reads is = cc
value_by law text value (Ok found) reads is = ending_written law text value found (found.next == length text) reads refl is

-- a value that is read from a whole text is written
pub value_written : ValuesAreWritten → (text : List SpelledToken) (value : ValueText) → value_of text ≡ Ok value → WritesValue value text
unfolding value_of
value_written law text value is = value_by law text value (value_at text 0) refl is

immediate_by : ValuesAreWritten → (branch : Bool) (text : List SpelledToken) (operand : SizedText) (read : Result ValueText OperandCause) → value_of text ≡ read → as_immediate read ≡ Ok operand
    → HoldsValue branch (held text) operand
immediate_by law branch text operand (Err fault) reads is = cc
immediate_by law branch text operand (Ok value) reads is =
    subst (HoldsValue branch (held text)) (ok_is is) (of_offset branch value text (value_written law text value reads))

bare_held : (branch : Bool) (text : List SpelledToken) (operand : SizedText) (value : ValueText) (place symbol : Bool) → names_place text ≡ place → has_symbol text ≡ symbol → WritesValue value text
    → bare_operand branch place symbol value ≡ Ok operand → HoldsValue branch (bare text) operand
bare_held true text operand value place symbol places names writes is = subst (HoldsValue true (bare text)) (ok_is is) (of_target value text writes)
bare_held false text operand value true symbol places names writes is = subst (HoldsValue false (bare text)) (ok_is is) (of_symbol value text places writes)
bare_held false text operand value false true places names writes is = cc
bare_held false text operand value false false places names writes is = subst (HoldsValue false (bare text)) (ok_is is) (of_number value text places names writes)

bare_by : ValuesAreWritten → (branch : Bool) (text : List SpelledToken) (operand : SizedText) (read : Result ValueText OperandCause) → value_of text ≡ read
    → as_bare branch (names_place text) (has_symbol text) read ≡ Ok operand → HoldsValue branch (bare text) operand
bare_by law branch text operand (Err fault) reads is = cc
bare_by law branch text operand (Ok value) reads is = bare_held branch text operand value (names_place text) (has_symbol text) refl refl (value_written law text value reads) is

memory_by : ValuesAreWritten → (branch : Bool) (bits : ℕ) (address : Address) (text : List SpelledToken) (operand : SizedText) (read : Result ValueText OperandCause) → value_of text ≡ read
    → as_memory bits address read ≡ Ok operand → HoldsValue branch (moved bits address text) operand
memory_by law branch bits address text operand (Err fault) reads is = cc
memory_by law branch bits address text operand (Ok value) reads is =
    subst (HoldsValue branch (moved bits address text)) (ok_is is) (of_displacement branch bits address value text (value_written law text value reads))

holds : ValuesAreWritten → (branch : Bool) (outline : Outline) (operand : SizedText) → with_value branch outline ≡ Ok operand → HoldsValue branch outline operand
holds law branch (lone reg) operand is = subst (HoldsValue branch (lone reg)) (ok_is is) (of_register branch reg)
holds law branch (held text) operand is = immediate_by law branch text operand (value_of text) refl is
holds law branch (bare text) operand is = bare_by law branch text operand (value_of text) refl is
holds law branch (stands bits address) operand is = subst (HoldsValue branch (stands bits address)) (ok_is is) (of_address branch bits address)
holds law branch (moved bits address text) operand is = memory_by law branch bits address text operand (value_of text) refl is

outlined_by : SumsAreWritten → ValuesAreWritten → (branch : Bool) (text : List SpelledToken) (operand : SizedText) (found : Option Outline) → nat_lt 0 (length text) ≡ true → HasNoComma text → outline_of text ≡ found
    → outlined branch found ≡ Ok operand → SpellsOperand branch operand text
outlined_by sums law branch text operand None some apart round is = cc
outlined_by sums law branch text operand (Some outline) some apart round is =
    record { outline = outline; some = some; apart = apart; round = outline_written sums outline text round; holds = holds law branch outline operand is }

-- an operand that is read from a whole text without a comma is spelled
pub text_spelled : SumsAreWritten → ValuesAreWritten → (branch : Bool) (text : List SpelledToken) (operand : SizedText) → HasNoComma text → operand_of branch text ≡ Ok operand → SpellsOperand branch operand text
unfolding operand_of
text_spelled sums law branch [] operand apart is = cc
text_spelled sums law branch (token ∷ rest) operand apart is =
    let some : nat_lt 0 (length (token ∷ rest)) ≡ true = lt-ltb 0 (length (token ∷ rest)) (omega arith) in
    outlined_by sums law branch (token ∷ rest) operand (outline_of (token ∷ rest)) some apart refl is

part_by : SumsAreWritten → ValuesAreWritten → (branch : Bool) (tokens : List SpelledToken) (at : ℕ) (found : ReadPart) (read : Result SizedText OperandCause)
    → operand_of branch (take (up_to_comma (drop at tokens)) (drop at tokens)) ≡ read → ended (at + up_to_comma (drop at tokens)) read ≡ Ok found → IsSpelledIn branch tokens at found
part_by sums law branch tokens at found (Err fault) reads is = cc
part_by sums law branch tokens at found (Ok operand) reads is =
    let front = front_of_tokens (drop at tokens) in
    let same : part (at + up_to_comma (drop at tokens)) operand ≡ found = ok_is is in
    subst (IsSpelledIn branch tokens at) same (record {
      text = take (up_to_comma (drop at tokens)) (drop at tokens);
      behind = front.behind;
      stands = front.stands;
      next = ap (λ (n : ℕ). at + n) (sym front.size);
      spells = text_spelled sums law branch (take (up_to_comma (drop at tokens)) (drop at tokens)) operand front.apart reads;
      ended = front.ended;
    })

-- an operand that is read is spelled
pub read_is_spelled : SumsAreWritten → ValuesAreWritten → (branch : Bool) (tokens : List SpelledToken) (at : ℕ) (found : ReadPart) → operand_at branch tokens at ≡ Ok found → IsSpelledIn branch tokens at found
unfolding operand_at
read_is_spelled sums law branch tokens at found is =
    part_by sums law branch tokens at found (operand_of branch (take (up_to_comma (drop at tokens)) (drop at tokens))) refl is
