-- The usual operands are what the reading gives.
use Rattle.std.proofs.Common.{◌≡◌, ℕ, ◌+◌, ◌==◌, ◌||◌, Bool, true, false, cond, List, Option, Some, None, Result, Ok, Err, slice_get, refl, sym, ap, subst, ◌∙◌, arith, inl, inr}
use Rattle.std.proofs.lemmas.Bool.{eqb-true, cases_Bool, both_ways}
use Rattle.asm_base.specs.Tokens.{SpelledToken}
use Rattle.asm_expr.specs.declared.faults.ExprCause.{ExprCause}
use Rattle.expr_texts.specs.Reading.{ReadTree, reading_of}
use Rattle.x86_insn.specs.declared.insns.Address.{Address}
use Rattle.x86_insn.specs.declared.amounts.Value.{Value}
use Rattle.att_operands.specs.declared.faults.OperandCause.{OperandCause}
use Rattle.att_operands.specs.declared.addresses.ReadAddress.{ReadAddress}
use Rattle.att_operands.specs.declared.values.ReadAmount.{ReadAmount}
use Rattle.att_operands.specs.Marks.{mark_by, mark_at, ends_by, ends_at, begins_by}
use Rattle.att_operands.specs.Addresses.{register_by, address_at}
use Rattle.att_operands.specs.Values.{GivesSo, IsValueOf, ReadText, ValueText, numbers_by, suffix_at, as_value, value_with, value_at, begun_at}
use Rattle.att_operands.specs.Amounts.{IsAmountRead, FindsRead}
use Rattle.att_operands.specs.Usual.{found_memory, memory_of, immediate_of}
use Rattle.att_operands.specs.OperandTexts.{immediate, memory, ReadPart, part, no_displacement, addressed, displaced, displaced_by, opens_address, memory_at, named_place, place_at, immediate_by, other_by, ended, operand_at, IsPartRead}
use Rattle.att_operands.proofs.SuffixPlaces.{unnumbered, quiet_suffix}

plain_value : (tokens : List SpelledToken) (at : ℕ) (read : Result ReadTree ExprCause) → suffix_at tokens at ≡ None → reading_of tokens at ≡ read → value_at tokens at ≡ as_value None 0 read
unfolding value_at
plain_value tokens at read quiet reads = ap (value_with tokens at) quiet ∙ ap (as_value None 0) reads

begun_unsigned : (found : Option SpelledToken) → begins_by found ≡ true → (mark_by found == 36) ≡ false
unfolding begins_by mark_by
begun_unsigned None begins = refl
begun_unsigned (Some token) begins = elim (cases_Bool (mark_by (Some token) == 36)) [
  | inl t ↦ absurd (let same = eqb-true (mark_by (Some token)) 36 t in let bad : begins_by (Some token) ≡ false = rw same refl in both_ways (begins_by (Some token)) bad begins)
  | inr f ↦ f
]

begun_unnamed : (found : Option SpelledToken) → begins_by found ≡ true → (mark_by found == 37) ≡ false
unfolding begins_by mark_by
begun_unnamed None begins = refl
begun_unnamed (Some token) begins = elim (cases_Bool (mark_by (Some token) == 37)) [
  | inl t ↦ absurd (let same = eqb-true (mark_by (Some token)) 37 t in let bad : begins_by (Some token) ≡ false = rw same refl in both_ways (begins_by (Some token)) bad begins)
  | inr f ↦ f
]

opened_by : (mark : ℕ) (rest b : Bool) → (mark == 40) ≡ b → cond b rest false ≡ true → mark ≡ 40
opened_by mark rest true test is = eqb-true mark 40 test
opened_by mark rest false test is = cc

opening_mark : (tokens : List SpelledToken) (at : ℕ) → opens_address tokens at ≡ true → mark_at tokens at ≡ 40
opening_mark tokens at opens = opened_by (mark_at tokens at) (mark_at tokens (at + 1) == 37 || mark_at tokens (at + 1) == 44) (mark_at tokens at == 40) refl opens

begun_so : (tokens : List SpelledToken) (at : ℕ) (due : ReadTree) → begins_by (slice_get tokens at) ≡ true → suffix_at tokens at ≡ None → reading_of tokens at ≡ Ok due
    → begun_at tokens at ≡ as_value None 0 (Ok due)
unfolding begun_at
begun_so tokens at due begins quiet reads = rw begins (plain_value tokens at (Ok due) quiet reads)

displaced_is : (tokens : List SpelledToken) (at : ℕ) (found : ReadAmount) (place : ReadAddress) (read : Result ReadTree ExprCause) → (mark_at tokens at == 36) ≡ false → (mark_at tokens at == 37) ≡ false
    → opens_address tokens at ≡ false → begins_by (slice_get tokens at) ≡ true → mark_at tokens (at + 1) ≡ 40 → found.next ≡ at + 1 → reading_of tokens at ≡ read
    → GivesSo IsAmountRead (Ok found) read → address_at tokens (at + 2) ≡ Some place → ends_at tokens place.next ≡ true
    → GivesSo IsPartRead (Ok (memory_of place found.amount)) (operand_at false tokens at)
unfolding operand_at place_at memory_at displaced
displaced_is tokens at found place (Err cause) unsigned unnamed unopened begins mark next reads given finds ends = absurd given
displaced_is tokens at found place (Ok due) unsigned unnamed unopened begins mark next reads given finds ends =
    let same = given.next in
    let quiet = quiet_suffix tokens at (rw mark refl) (rw mark refl) (unnumbered (slice_get tokens (at + 1)) (rw mark refl)) in
    let value = begun_so tokens at due begins quiet reads in
    let here : due.next + 0 ≡ at + 1 = omega arith in
    let text : ValueText = record { tree = due.tree; suffix = None } in
    let made : Address = record { segment = None; base = place.base; index = place.index } in
    let opened : (mark_at tokens (due.next + 0) == 40) ≡ true = rw (here, mark) refl in
    let behind : address_at tokens ((due.next + 0) + 1) ≡ Some place = ap (address_at tokens) (omega arith) ∙ finds in
    let is : operand_at false tokens at ≡ Ok (part (memory made text) place.next) =
    ap (λ (b : Bool). ended tokens (cond b (immediate_by (value_at tokens (at + 1))) (other_by false tokens at))) unsigned
    ∙ ap (λ (b : Bool). ended tokens (cond b (named_place tokens (register_by (slice_get tokens (at + 1))) (at + 2)) (memory_at tokens None at))) unnamed
    ∙ ap (λ (b : Bool). ended tokens (cond b (addressed None no_displacement (address_at tokens (at + 1))) (displaced_by tokens None (begun_at tokens at)))) unopened
    ∙ ap (λ (r : Result ReadText OperandCause). ended tokens (displaced_by tokens None r)) value
    ∙ (rw opened (ap (λ (a : Option ReadAddress). ended tokens (addressed None text a)) behind ∙ (rw ends refl))) in
    subst (λ (r : Result ReadPart OperandCause). GivesSo IsPartRead (Ok (memory_of place found.amount)) r) (sym is)
    (record { operand = record { address = refl; value = record { amount = given.amount; suffix = refl } }; next = refl })

-- memory at an address with a displacement of one token before it
pub displaced_memory_is : (tokens : List SpelledToken) (at : ℕ) (found : ReadAmount) (place : ReadAddress) → opens_address tokens at ≡ false → begins_by (slice_get tokens at) ≡ true
    → mark_at tokens (at + 1) ≡ 40 → found.next ≡ at + 1 → FindsRead tokens at (Some found) → address_at tokens (at + 2) ≡ Some place → ends_at tokens place.next ≡ true
    → GivesSo IsPartRead (Ok (memory_of place found.amount)) (operand_at false tokens at)
displaced_memory_is tokens at found place unopened begins mark next given finds ends =
    displaced_is tokens at found place (reading_of tokens at) (begun_unsigned (slice_get tokens at) begins) (begun_unnamed (slice_get tokens at) begins) unopened begins mark next refl given finds ends

-- memory at an address alone
pub bare_memory_is : (tokens : List SpelledToken) (at : ℕ) (place : ReadAddress) → opens_address tokens at ≡ true → address_at tokens (at + 1) ≡ Some place → ends_at tokens place.next ≡ true
    → (held : Value) → IsValueOf held no_displacement → GivesSo IsPartRead (Ok (found_memory place held)) (operand_at false tokens at)
unfolding operand_at place_at memory_at
bare_memory_is tokens at place opens finds ends held is_none =
    let mark = opening_mark tokens at opens in
    let made : Address = record { segment = None; base = place.base; index = place.index } in
    let unsigned : (mark_at tokens at == 36) ≡ false = rw mark refl in
    let unnamed : (mark_at tokens at == 37) ≡ false = rw mark refl in
    let is : operand_at false tokens at ≡ Ok (part (memory made no_displacement) place.next) =
    ap (λ (b : Bool). ended tokens (cond b (immediate_by (value_at tokens (at + 1))) (other_by false tokens at))) unsigned
    ∙ ap (λ (b : Bool). ended tokens (cond b (named_place tokens (register_by (slice_get tokens (at + 1))) (at + 2)) (memory_at tokens None at))) unnamed
    ∙ ap (λ (b : Bool). ended tokens (cond b (addressed None no_displacement (address_at tokens (at + 1))) (displaced_by tokens None (begun_at tokens at)))) opens
    ∙ ap (λ (a : Option ReadAddress). ended tokens (addressed None no_displacement a)) finds
    ∙ (rw ends refl) in
    subst (λ (r : Result ReadPart OperandCause). GivesSo IsPartRead (Ok (found_memory place held)) r) (sym is)
    (record { operand = record { address = refl; value = is_none }; next = refl })

-- behind one token at which an operand ends there is no suffix
ended_by : (tokens : List SpelledToken) (at : ℕ) (found : Option SpelledToken) → slice_get tokens (at + 1) ≡ found → ends_by found ≡ true → suffix_at tokens at ≡ None
unfolding ends_by mark_by numbers_by
ended_by tokens at None there ends = quiet_suffix tokens at (rw there refl) (rw there refl) (rw there refl)
ended_by tokens at (Some token) there ends =
    let same = eqb-true (mark_by (Some token)) 44 ends in
    quiet_suffix tokens at (rw (there, same) refl) (rw (there, same) refl) (rw there (unnumbered (Some token) (rw same refl)))

immediate_is : (tokens : List SpelledToken) (at : ℕ) (found : ReadAmount) (read : Result ReadTree ExprCause) → mark_at tokens at ≡ 36 → ends_at tokens (at + 2) ≡ true → found.next ≡ at + 2
    → reading_of tokens (at + 1) ≡ read → GivesSo IsAmountRead (Ok found) read → GivesSo IsPartRead (Ok (immediate_of found)) (operand_at false tokens at)
unfolding operand_at
immediate_is tokens at found (Err cause) mark ends next reads given = absurd given
immediate_is tokens at found (Ok due) mark ends next reads given =
    let same = given.next in
    let signed : (mark_at tokens at == 36) ≡ true = rw mark refl in
    let two : (at + 1) + 1 ≡ at + 2 = omega arith in
    let quiet = ended_by tokens (at + 1) (slice_get tokens ((at + 1) + 1)) refl (ap (ends_at tokens) two ∙ ends) in
    let value = plain_value tokens (at + 1) (Ok due) quiet reads in
    let here : due.next + 0 ≡ at + 2 = omega arith in
    let behind : ends_at tokens (due.next + 0) ≡ true = ap (ends_at tokens) here ∙ ends in
    let text : ValueText = record { tree = due.tree; suffix = None } in
    let is : operand_at false tokens at ≡ Ok (part (immediate text) (due.next + 0)) =
    ap (λ (b : Bool). ended tokens (cond b (immediate_by (value_at tokens (at + 1))) (other_by false tokens at))) signed
    ∙ ap (λ (r : Result ReadText OperandCause). ended tokens (immediate_by r)) value
    ∙ (rw behind refl) in
    subst (λ (r : Result ReadPart OperandCause). GivesSo IsPartRead (Ok (immediate_of found)) r) (sym is)
    (record { operand = record { amount = given.amount; suffix = refl }; next = omega arith })

-- an immediate of one token
pub whole_immediate_is : (tokens : List SpelledToken) (at : ℕ) (found : ReadAmount) → mark_at tokens at ≡ 36 → ends_at tokens (at + 2) ≡ true → found.next ≡ at + 2
    → FindsRead tokens (at + 1) (Some found) → GivesSo IsPartRead (Ok (immediate_of found)) (operand_at false tokens at)
whole_immediate_is tokens at found mark ends next given = immediate_is tokens at found (reading_of tokens (at + 1)) mark ends next refl given
