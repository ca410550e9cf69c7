-- An instruction by its fields, and what an operand makes of it.
use Rattle.std.proofs.Common.{◌≡◌, ℕ, ◌+◌, nat_lt, Bool, true, List, Result, Ok, Err, map, length, refl, sym, subst, ap, ◌∙◌}
use Rattle.std.proofs.lemmas.List.{length-map}
use Rattle.asm_base.specs.declared.refusals.Refusal.{Refusal}
use Rattle.asm_base.specs.declared.tokens.Token.{Token}
use Rattle.asm_base.specs.Tokens.{spelled}
use Rattle.x86_insn.specs.declared.registers.Reg.{Reg}
use Rattle.x86_insn.specs.declared.amounts.Value.{Value}
use Rattle.x86_insn.specs.declared.insns.Address.{Address}
use Rattle.x86_insn.specs.declared.insns.Slot.TheVariants as slot
use Rattle.x86_insn.specs.declared.insns.Insn.{Insn}
use Rattle.att_operands.specs.declared.operands.ReadOperand.TheVariants.{Register, Immediate, Memory, Target}
use Rattle.att_operands.specs.Values.{ValueText, IsValueOf, beside}
use Rattle.att_operands.specs.OperandTexts.{OperandText, IsOperandOf}
use Rattle.att_operands.specs.OperandTexts as operand
use Rattle.att_insns.specs.InsnTexts.{InsnText, has_immediate, has_displacement, IsInsnOf, text_of, HasTexts}
use Rattle.x86_lookup.specs.declared.names.Rule.{Rule}
use Rattle.att_operands.specs.declared.faults.OperandCause.{OperandCause}
use Rattle.att_insns.specs.Reading.{Makes}
use Rattle.att_insns.specs.Rules.{ruled}
use Rattle.intel_operands.specs.OperandTexts.{ReadPart}
use Rattle.intel_insns.specs.declared.filling.OperandEnd.{OperandEnd}
use Rattle.intel_insns.specs.InsnTexts.{FilledText, followed_by, with_text, with_operand, IsFilled}
use Rattle.intel_insns.specs.Rules.{meant_by}
use Rattle.intel_insns.specs.Reading.{operand_then, Fills, Puts}

as_text : (held : Insn) (due : InsnText) → IsInsnOf held due → text_of held due.immediate due.displacement ≡ due
as_text held due is =
    let a = is.name in
    let b = is.size in
    let c = is.«prefix» in
    let d = is.first in
    let e = is.second in
    let f = is.third in
    let g = is.address in
    rw (a, b, c, d, e, f, g) refl

-- what holds of the instruction's fields with any texts of its values holds of its text
pub by_fields : (P : InsnText → Type 0) (held : Insn) (due : InsnText) → IsInsnOf held due → ((i d : ValueText) → HasTexts held i d → P (text_of held i d)) → P due
by_fields P held due is all = subst P (as_text held due is) (all due.immediate due.displacement (record { immediate = is.immediate; displacement = is.displacement }))

as_filled : (bits : ℕ) (due : FilledText) → bits ≡ due.bits → (let again : FilledText = record { insn = due.insn; bits = bits } in again ≡ due)
as_filled bits due is = rw is refl

-- the same with the bits of memory that are said
pub by_filled : (P : FilledText → Type 0) (held : Insn) (bits : ℕ) (due : FilledText) → IsFilled held bits due
    → ((i d : ValueText) → HasTexts held i d → P (record { insn = text_of held i d; bits = bits })) → P due
by_filled P held bits due is all =
    subst P (as_filled bits due is.bits_are) (by_fields (λ (t : InsnText). P (record { insn = t; bits = bits })) held due.insn is.insn all)

-- an instruction has the text of its own fields
pub own_text : (held : Insn) (i d : ValueText) → HasTexts held i d → IsInsnOf held (text_of held i d)
own_text held i d has = record { name = refl; size = refl; «prefix» = refl; first = refl; second = refl; third = refl; address = refl; immediate = has.immediate; displacement = has.displacement }

-- a register is put behind the others
pub register_put : (made old : Insn) (reg : Reg) (i d : ValueText) (text : OperandText) → HasTexts made i d → text_of made i d ≡ followed_by (slot.Register reg) (text_of old i d)
    → IsOperandOf (Register reg) text → IsInsnOf made (with_text text (text_of old i d))
register_put made old reg i d (operand.register due) has behind is =
    subst (IsInsnOf made) (behind ∙ ap (λ (r : Reg). followed_by (slot.Register r) (text_of old i d)) is) (own_text made i d has)
register_put made old reg i d (operand.immediate held) has behind is = absurd is
register_put made old reg i d (operand.memory place held) has behind is = absurd is
register_put made old reg i d (operand.target held) has behind is = absurd is

-- a value takes in another one, if one of its kind is there
abbrev pub Holds : (there : Bool) → (before more after : Value) → Type 0
Holds there before more after = (one other : ValueText) → IsValueOf before one → IsValueOf more other → IsValueOf after (beside there one other)

-- an immediate is put behind the others
pub immediate_put : (made old : Insn) (value held : Value) (there : Bool) (i d : ValueText) (text : OperandText) → there ≡ has_immediate old.first old.second → Holds there made.immediate value held
    → HasTexts made i d → text_of made i d ≡ followed_by slot.Immediate (text_of old i d) → IsOperandOf (Immediate value) text
    → IsInsnOf (record made { immediate = held }) (with_text text (text_of old i d))
immediate_put made old value held there i d (operand.register due) same holds has behind is = absurd is
immediate_put made old value held there i d (operand.immediate text) same holds has behind is =
    subst (λ (t : InsnText). IsInsnOf (record made { immediate = held }) (record t { immediate = beside (has_immediate old.first old.second) i text })) behind
    (record {
      name = refl;
      size = refl;
      «prefix» = refl;
      first = refl;
      second = refl;
      third = refl;
      address = refl;
      immediate = subst (λ (b : Bool). IsValueOf held (beside b i text)) same (holds i text has.immediate is);
      displacement = has.displacement;
    })
immediate_put made old value held there i d (operand.memory place text) same holds has behind is = absurd is
immediate_put made old value held there i d (operand.target text) same holds has behind is = absurd is

-- memory is put behind the others
pub memory_put : (made old : Insn) (address : Address) (value held : Value) (there : Bool) (i d : ValueText) (text : OperandText) → there ≡ has_displacement old.first old.second
    → Holds there made.displacement value held → HasTexts made i d → text_of made i d ≡ followed_by slot.Memory (text_of old i d) → IsOperandOf (Memory address value) text
    → IsInsnOf (record made { address = address; displacement = held }) (with_text text (text_of old i d))
memory_put made old address value held there i d (operand.register due) same holds has behind is = absurd is
memory_put made old address value held there i d (operand.immediate text) same holds has behind is = absurd is
memory_put made old address value held there i d (operand.memory place text) same holds has behind is =
    subst (λ (t : InsnText). IsInsnOf (record made { address = address; displacement = held }) (record t { address = place; displacement = beside (has_displacement old.first old.second) d text })) behind
    (record {
      name = refl;
      size = refl;
      «prefix» = refl;
      first = refl;
      second = refl;
      third = refl;
      address = is.address;
      immediate = has.immediate;
      displacement = subst (λ (b : Bool). IsValueOf held (beside b d text)) same (holds d text has.displacement is.value);
    })
memory_put made old address value held there i d (operand.target text) same holds has behind is = absurd is

-- a branch target is put behind the others
pub target_put : (made old : Insn) (value held : Value) (there : Bool) (i d : ValueText) (text : OperandText) → there ≡ has_displacement old.first old.second
    → Holds there made.displacement value held → HasTexts made i d → text_of made i d ≡ followed_by slot.Target (text_of old i d) → IsOperandOf (Target value) text
    → IsInsnOf (record made { displacement = held }) (with_text text (text_of old i d))
target_put made old value held there i d (operand.register due) same holds has behind is = absurd is
target_put made old value held there i d (operand.immediate text) same holds has behind is = absurd is
target_put made old value held there i d (operand.memory place text) same holds has behind is = absurd is
target_put made old value held there i d (operand.target text) same holds has behind is =
    subst (λ (t : InsnText). IsInsnOf (record made { displacement = held }) (record t { displacement = beside (has_displacement old.first old.second) d text })) behind
    (record {
      name = refl;
      size = refl;
      «prefix» = refl;
      first = refl;
      second = refl;
      third = refl;
      address = refl;
      immediate = has.immediate;
      displacement = subst (λ (b : Bool). IsValueOf held (beside b d text)) same (holds d text has.displacement is);
    })

-- an instruction that gets a size has the text with it
pub sized_text : (held : Insn) (size : ℕ) (i d : ValueText) → HasTexts held i d → IsInsnOf (record held { size = size }) (record (text_of held i d) { size = size })
sized_text held size i d has = record { name = refl; size = refl; «prefix» = refl; first = refl; second = refl; third = refl; address = refl; immediate = has.immediate; displacement = has.displacement }

-- a rule that both syntaxes have
pub shared_by : {T : Type 0} (own rule : Rule) (made : Insn) (answer : Result T (Refusal OperandCause)) (filled : FilledText) → rule ≡ own → meant_by own filled ≡ Ok (ruled own filled.insn)
    → Makes made answer (Ok (ruled rule filled.insn)) → Makes made answer (meant_by rule filled)
shared_by own rule made answer filled is same makes =
    subst (Makes made answer) (sym (ap (λ (r : Rule). meant_by r filled) is ∙ same ∙ ap (λ (r : Rule). Ok (ruled r filled.insn)) (sym is))) makes

-- the operands behind one that was put
pub then_fills : (tokens : List Token) (others : ℕ → FilledText → Result FilledText OperandCause) (due : FilledText) (read : Result ReadPart OperandCause) (mid : Insn) (end : OperandEnd) (made : Insn)
    (answer : Result ℕ (Refusal OperandCause)) → Puts mid (Ok end) due read → nat_lt end.next (length tokens) ≡ true
    → ((more : FilledText) → IsFilled mid end.bits more → Fills made answer (others (end.next + 1) more)) → Fills made answer (operand_then (map spelled tokens) others due read)
then_fills tokens others due (Err fault) mid end made answer puts under fills = absurd puts
then_fills tokens others due (Ok found) mid end made answer puts under fills =
    let here : nat_lt found.next (length (map spelled tokens)) ≡ true =
    ap (λ (n : ℕ). nat_lt found.next n) (length-map tokens spelled) ∙ ap (λ (n : ℕ). nat_lt n (length tokens)) (sym puts.next) ∙ under in
    rw here (subst (λ (n : ℕ). Fills made answer (others (n + 1) (with_operand found.sized due))) puts.next (fills (with_operand found.sized due) puts.filled))
