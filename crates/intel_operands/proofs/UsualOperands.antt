-- The usual operands are read so.
use Rattle.std.proofs.Common.{◌≡◌, ℕ, zero, suc, ◌+◌, ◌<◌, ◌==◌, nat_lt, Bool, true, false, List, [], ◌∷◌, ◌++◌, Some, None, Result, Ok, Err, length, take, drop, slice_get, get_or, codes, refl, sym, ap, subst, ◌∙◌, arith}
use Rattle.std.proofs.lemmas.Bool.{ltb-true}
use Rattle.asm_base.specs.Tokens.{SpelledToken}
use Rattle.x86_insn.specs.declared.registers.Reg.{Reg}
use Rattle.x86_insn.specs.declared.amounts.Value.{Value}
use Rattle.att_operands.specs.declared.faults.OperandCause.{OperandCause}
use Rattle.att_operands.specs.Marks.{mark_by, ends_by, ends_at}
use Rattle.att_operands.specs.Registers.{register_of}
use Rattle.att_operands.specs.Slots.{number_of, key_of, held_by}
use Rattle.att_operands.specs.Values.{GivesSo, ValueText, IsValueOf}
use Rattle.att_operands.specs.OperandTexts.{register}
use Rattle.intel_sums.specs.OtherRegisters.{is_other_register}
use Rattle.intel_sums.specs.Sums.{is_register}
use Rattle.intel_operands.specs.declared.operands.SizedOperand.{SizedOperand}
use Rattle.intel_operands.specs.Words.{is_word, offset_words}
use Rattle.intel_operands.specs.Symbols.{is_symbol, has_symbol, is_numeric, names_place}
use Rattle.intel_operands.specs.Usual.{NamesRegister, NamesNone, IsLoneWord, IsWordAt}
use Rattle.intel_operands.specs.OperandTexts.{SizedText, unsized, lone_register, segment_of, has_bracket, has_register, is_memory, value_of, bare_operand, as_bare, outlined, operand_of, is_no_comma, up_to_comma, ReadPart, part, ended, operand_at, IsSized, IsPartRead}
use Rattle.intel_operands.specs.Spells.{HasNoComma, ends}
use Rattle.intel_operands.proofs.TextLemmas.{all_before, taken}
use Rattle.intel_operands.proofs.OutlineTexts.{lone_outline, bare_outline}

pub front_is : (tokens : List SpelledToken) (at : ℕ) (token : SpelledToken) → slice_get tokens at ≡ Some token → drop at tokens ≡ token ∷ drop (at + 1) tokens
front_is [] at token is = cc
front_is (first ∷ tokens) zero token is = let same : first ≡ token = cc in rw same refl
front_is (first ∷ tokens) (suc at) token is = let next : suc at + 1 ≡ suc (at + 1) = omega arith in rw next (front_is tokens at token is)

pub behind_is : (tokens : List SpelledToken) (at : ℕ) → slice_get (drop at tokens) 0 ≡ slice_get tokens at
behind_is [] zero = refl
behind_is [] (suc at) = refl
behind_is (first ∷ tokens) zero = refl
behind_is (first ∷ tokens) (suc at) = behind_is tokens at

-- an operand up to a comma or the end
pub text_reads : (branch : Bool) (tokens : List SpelledToken) (at : ℕ) (text behind : List SpelledToken) → drop at tokens ≡ text ++ behind → HasNoComma text → ends behind ≡ true
    → operand_at branch tokens at ≡ ended (at + length text) (operand_of branch text)
unfolding operand_at
text_reads branch tokens at text behind stands apart finished =
    let count : up_to_comma (drop at tokens) ≡ length text = ap up_to_comma stands ∙ all_before text behind apart finished in
    let front : take (up_to_comma (drop at tokens)) (drop at tokens) ≡ text =
    ap (λ (n : ℕ). take n (drop at tokens)) count ∙ ap (take (length text)) stands ∙ taken text behind in
    ap (λ (n : ℕ). ended (at + n) (operand_of branch (take (up_to_comma (drop at tokens)) (drop at tokens)))) count
    ∙ ap (λ (ts : List SpelledToken). ended (at + length text) (operand_of branch ts)) front

-- an operand of one token
one_token : (branch : Bool) (tokens : List SpelledToken) (at : ℕ) (token : SpelledToken) → slice_get tokens at ≡ Some token → is_no_comma token ≡ true → ends_at tokens (at + 1) ≡ true
    → operand_at branch tokens at ≡ ended (at + 1) (operand_of branch (token ∷ []))
one_token branch tokens at token there own ended_here =
    let apart : HasNoComma (token ∷ []) = rw own refl in
    text_reads branch tokens at (token ∷ []) (drop (at + 1) tokens) (front_is tokens at token there) apart (ap ends_by (behind_is tokens (at + 1)) ∙ ended_here)

lone_of : (branch : Bool) (token : SpelledToken) (reg : Reg) → NamesRegister token reg → operand_of branch (token ∷ []) ≡ Ok (unsized (register reg))
unfolding operand_of
lone_of branch token reg is = ap (outlined branch) (lone_outline reg token is.names)

-- the name of a register, behind which an operand ends
pub register_is : (tokens : List SpelledToken) (at : ℕ) (token : SpelledToken) (reg : Reg) → slice_get tokens at ≡ Some token → NamesRegister token reg → ends_at tokens (at + 1) ≡ true
    → (branch : Bool) → operand_at branch tokens at ≡ Ok (part (at + 1) (unsized (register reg)))
register_is tokens at token reg there is ended_here branch = one_token branch tokens at token there is.apart ended_here ∙ ap (ended (at + 1)) (lone_of branch token reg is)

-- NUMBERS AND NAMES

-- what a text names as a register is in the slot of its lower-case bytes
abbrev pub RegistersHaveSlots : Type 0
RegistersHaveSlots = (text : List ℕ) → ((i : ℕ) → get_or text i 0 < 256) → held_by (key_of text) ≡ register_of text

-- a text that is shorter than all names of registers
pub short_none : RegistersHaveSlots → (text : List ℕ) → ((i : ℕ) → get_or text i 0 < 256) → nat_lt (length text) 2 ≡ true → NamesNone text
unfolding number_of is_other_register
short_none found [] fits is = record { own = sym (found [] fits); other = refl }
short_none found (a ∷ []) fits is = record { own = sym (found (a ∷ []) fits); other = refl }
short_none found (a ∷ b ∷ more) fits is = let under = ltb-true (length (a ∷ b ∷ more)) 2 is in absurd (omega arith)

-- a text that is longer than all names of registers
pub long_none : RegistersHaveSlots → (text : List ℕ) → ((i : ℕ) → get_or text i 0 < 256) → nat_lt 5 (length text) ≡ true → NamesNone text
unfolding number_of is_other_register
long_none found [] fits is = let over = ltb-true 5 0 is in absurd (omega arith)
long_none found (a ∷ []) fits is = let over = ltb-true 5 (length (a ∷ [])) is in absurd (omega arith)
long_none found (a ∷ b ∷ []) fits is = let over = ltb-true 5 (length (a ∷ b ∷ [])) is in absurd (omega arith)
long_none found (a ∷ b ∷ c ∷ []) fits is = let over = ltb-true 5 (length (a ∷ b ∷ c ∷ [])) is in absurd (omega arith)
long_none found (a ∷ b ∷ c ∷ d ∷ []) fits is = let over = ltb-true 5 (length (a ∷ b ∷ c ∷ d ∷ [])) is in absurd (omega arith)
long_none found (a ∷ b ∷ c ∷ d ∷ e ∷ []) fits is = let over = ltb-true 5 (length (a ∷ b ∷ c ∷ d ∷ e ∷ [])) is in absurd (omega arith)
long_none found (a ∷ b ∷ c ∷ d ∷ e ∷ f ∷ more) fits is = record { own = sym (found (a ∷ b ∷ c ∷ d ∷ e ∷ f ∷ more) fits); other = refl }

no_register : (token : SpelledToken) → register_of token.bytes ≡ None → lone_register (token ∷ []) ≡ None
unfolding lone_register
no_register token none = rw none refl

no_offset : (token : SpelledToken) → is_word (codes "offset") (Some token) ≡ false → offset_words (token ∷ []) ≡ 0
no_offset token shown = rw shown refl

no_pointer : is_word (codes "ptr") None ≡ false
unfolding is_word
no_pointer = refl

no_segment : (token : SpelledToken) → segment_of (token ∷ []) ≡ None
unfolding segment_of mark_by
no_segment token = refl

no_bracket : (token : SpelledToken) → (mark_by (Some token) == 91) ≡ false → has_bracket (token ∷ []) ≡ false
unfolding has_bracket
no_bracket token unopened = rw unopened refl

no_memory : (token : SpelledToken) → (mark_by (Some token) == 91) ≡ false → is_memory (token ∷ []) ≡ false
no_memory token unopened = rw (no_pointer, no_segment token, no_bracket token unopened) refl

no_name : (token : SpelledToken) → is_register token ≡ false → has_register (token ∷ []) ≡ false
unfolding has_register
no_name token wild = rw wild refl

not_numeric : (token : SpelledToken) → is_symbol token ≡ true → is_numeric token ≡ false
unfolding is_numeric
not_numeric token is = rw is refl

places_by : (token : SpelledToken) (symbol numeric : Bool) → is_symbol token ≡ symbol → is_numeric token ≡ numeric → names_place (token ∷ []) ≡ symbol
unfolding names_place
places_by token true numeric is counted = let none = not_numeric token is in rw (none, is) refl
places_by token false true is counted = rw counted refl
places_by token false false is counted = rw (counted, is) refl

holds_by : (token : SpelledToken) (symbol : Bool) → is_symbol token ≡ symbol → has_symbol (token ∷ []) ≡ symbol
unfolding has_symbol
holds_by token true is = rw is refl
holds_by token false is = rw is refl

word_of : (branch : Bool) (token : SpelledToken) → IsLoneWord token → is_word (codes "offset") (Some token) ≡ false
    → operand_of branch (token ∷ []) ≡ as_bare branch (is_symbol token) (is_symbol token) (value_of (token ∷ []))
unfolding operand_of
word_of branch token is shown =
    ap (outlined branch) (bare_outline (token ∷ []) (no_register token is.own) (no_offset token shown) (no_memory token is.unopened) (no_name token is.wild))
    ∙ ap (λ (b : Bool). as_bare branch b (has_symbol (token ∷ [])) (value_of (token ∷ []))) (places_by token (is_symbol token) (is_numeric token) refl refl)
    ∙ ap (λ (b : Bool). as_bare branch (is_symbol token) b (value_of (token ∷ []))) (holds_by token (is_symbol token) refl)

-- an operand that ends at this place
pub found_so : (sized : SizedOperand) (next : ℕ) (read : Result SizedText OperandCause) → GivesSo IsSized (Ok sized) read
    → GivesSo IsPartRead (Ok (record { operand = sized.operand; bits = sized.bits; next = next })) (ended next read)
found_so sized next (Ok due) is = record { operand = is.operand; bits = is.bits; next = refl }
found_so sized next (Err cause) is = absurd is

sized_so : (branch symbol : Bool) (held : Value) (sized : SizedOperand) (read : Result ValueText OperandCause) → GivesSo IsValueOf (Ok held) read
    → ((due : ValueText) → IsValueOf held due → GivesSo IsSized (Ok sized) (bare_operand branch symbol symbol due)) → GivesSo IsSized (Ok sized) (as_bare branch symbol symbol read)
sized_so branch symbol held sized (Ok due) is makes = makes due is
sized_so branch symbol held sized (Err cause) is makes = absurd is

-- a number or a name, behind which an operand ends
pub word_is : (branch : Bool) (tokens : List SpelledToken) (at : ℕ) (token : SpelledToken) (held : Value) (sized : SizedOperand) → IsWordAt tokens at token
    → GivesSo IsValueOf (Ok held) (value_of (take 1 (drop at tokens)))
    → ((due : ValueText) → IsValueOf held due → GivesSo IsSized (Ok sized) (bare_operand branch (is_symbol token) (is_symbol token) due))
    → GivesSo IsPartRead (Ok (record { operand = sized.operand; bits = sized.bits; next = at + 1 })) (operand_at branch tokens at)
word_is branch tokens at token held sized is holds makes =
    let front : take 1 (drop at tokens) ≡ token ∷ [] = ap (take 1) (front_is tokens at token is.stands) ∙ taken (token ∷ []) (drop (at + 1) tokens) in
    let given : GivesSo IsValueOf (Ok held) (value_of (token ∷ [])) = subst (λ (ts : List SpelledToken). GivesSo IsValueOf (Ok held) (value_of ts)) front holds in
    let reads : operand_at branch tokens at ≡ ended (at + 1) (as_bare branch (is_symbol token) (is_symbol token) (value_of (token ∷ []))) =
    one_token branch tokens at token is.stands is.alone.apart is.ended ∙ ap (ended (at + 1)) (word_of branch token is.alone is.shown) in
    subst (λ (r : Result ReadPart OperandCause). GivesSo IsPartRead (Ok (record { operand = sized.operand; bits = sized.bits; next = at + 1 })) r) (sym reads)
    (found_so sized (at + 1) (as_bare branch (is_symbol token) (is_symbol token) (value_of (token ∷ [])))
    (sized_so branch (is_symbol token) held sized (value_of (token ∷ [])) given makes))
