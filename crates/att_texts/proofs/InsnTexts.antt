-- Instructions are spelled by their pieces, in AT&T syntax.
use Rattle.std.proofs.Common.{◌≡◌, ℕ, zero, suc, ◌+◌, ◌<◌, ◌≤◌, Bool, List, [], ◌∷◌, ◌++◌, Some, length, codes, refl, arith}
use Rattle.std.proofs.lemmas.List.{length-append}
use Rattle.asm_base.specs.declared.tokens.TokenKind.TheVariants.{Operator}
use Rattle.asm_base.specs.Tokens.{SpelledToken}
use Rattle.x86_insn.specs.declared.insns.Prefix.{Prefix}
use Rattle.x86_insn.specs.declared.insns.Prefix.TheVariants as prefix
use Rattle.x86_lookup.specs.declared.names.Named.{Named}
use Rattle.x86_lookup.specs.Names.{text_of}
use Rattle.att_operands.specs.Prefixes.{prefix_of}
use Rattle.x86_lookup.specs.Mnemonics.{att_mnemonic}
use Rattle.x86_insn.specs.Views.{Seen, absent, register, immediate, memory, target, View}
use Rattle.att_operands.specs.Marks.{mark_by}
use Rattle.att_operands.specs.OperandTexts.{OperandText}
use Rattle.att_operands.specs.Spells.{IsMark, SpellsOperand}
use Rattle.att_insns.specs.Spells.{WritesOperands, last, more, WritesAll, none, some, IsHead, bare, prefixed}
use Rattle.att_texts.specs.Pieces.{PrintedPiece, word, mark, made, tokens_in}
use Rattle.att_texts.specs.AttOperands.{operand_text}
use Rattle.att_texts.specs.AttTexts.{each_in, joined, operands_in, written, after_blank, prefix_pieces}
use Rattle.att_texts.specs.Printable.{IsWidth, IsPrintable, ArePrintable}
use Rattle.att_texts.proofs.OperandTexts.{behind, tokens_append, operand_spelled}

-- each operand is spelled by its pieces, wherever they stand
abbrev pub AllSpelled : Bool → List OperandText → List (List PrintedPiece) → Type 0
AllSpelled branch [] [] = Unit {0}
AllSpelled branch (one ∷ others) (own ∷ owns) = ((offset : ℕ) → SpellsOperand branch one (tokens_in offset own)) × AllSpelled branch others owns
AllSpelled branch _ _ = ⊥

all_append : (branch : Bool) (one other : List OperandText) (own rest : List (List PrintedPiece)) → AllSpelled branch one own → AllSpelled branch other rest → AllSpelled branch (one ++ other) (own ++ rest)
all_append branch [] other [] rest these those = those
all_append branch [] other (own ∷ owns) rest these those = absurd these
all_append branch (one ∷ ones) other [] rest these those = absurd these
all_append branch (one ∷ ones) other (own ∷ owns) rest these those = (these.0, all_append branch ones other owns rest these.1 those)

one_spelled : (branch : Bool) (bits : ℕ) (seen : Seen) → IsWidth bits → IsPrintable branch seen → AllSpelled branch (operand_text bits seen) (each_in branch bits seen)
one_spelled branch bits absent width ok = tt
one_spelled branch bits (register reg) width ok = (λ offset. operand_spelled branch bits (register reg) offset width ok, tt)
one_spelled branch bits (immediate value) width ok = (λ offset. operand_spelled branch bits (immediate value) offset width ok, tt)
one_spelled branch bits (memory place value) width ok = (λ offset. operand_spelled branch bits (memory place value) offset width ok, tt)
one_spelled branch bits (target value) width ok = (λ offset. operand_spelled branch bits (target value) offset width ok, tt)

comma : (offset : ℕ) → IsMark 44 (made Operator (44 ∷ []) offset)
unfolding mark_by
comma offset = refl

joined_spelled : (most : ℕ) (branch : Bool) (one : OperandText) (others : List OperandText) (own : List PrintedPiece) (owns : List (List PrintedPiece)) → AllSpelled branch (one ∷ others) (own ∷ owns)
    → length others < most → (offset : ℕ) → WritesOperands most branch (one ∷ others) (tokens_in offset (joined (own ∷ owns)))
joined_spelled zero branch one others own owns all few offset = absurd (omega arith)
joined_spelled (suc most) branch one [] own [] all few offset = last most branch one _ (all.0 offset)
joined_spelled (suc most) branch one [] own (other ∷ owns) all few offset = absurd all.1
joined_spelled (suc most) branch one (next ∷ others) own [] all few offset = absurd all.1
joined_spelled (suc most) branch one (next ∷ others) own (other ∷ owns) all few offset =
    more most branch one (next ∷ others) _ _ _ _ (all.0 offset) (comma (behind offset own))
    (joined_spelled most branch next others other owns all.1 (omega arith) (behind offset own + 1)) (tokens_append offset own (mark 44 ∷ joined (other ∷ owns)))

-- at most one operand is shown
few_shown : (bits : ℕ) (seen : Seen) → length (operand_text bits seen) ≤ 1
few_shown bits absent = omega arith
few_shown bits (register reg) = omega arith
few_shown bits (immediate value) = omega arith
few_shown bits (memory place value) = omega arith
few_shown bits (target value) = omega arith

operands_spelled : (branch : Bool) (bits : ℕ) (insn : View) → IsWidth bits → ArePrintable branch insn → AllSpelled branch (written bits insn) (operands_in branch bits insn)
operands_spelled branch bits insn width ok =
    all_append branch (operand_text bits insn.third) (operand_text bits insn.second ++ operand_text bits insn.first) (each_in branch bits insn.third) (each_in branch bits insn.second ++ each_in branch bits insn.first)
    (one_spelled branch bits insn.third width ok.third)
    (all_append branch (operand_text bits insn.second) (operand_text bits insn.first) (each_in branch bits insn.second) (each_in branch bits insn.first)
    (one_spelled branch bits insn.second width ok.second) (one_spelled branch bits insn.first width ok.first))

three_written : (bits : ℕ) (insn : View) → length (written bits insn) ≤ 3
three_written bits insn =
    omega (
      arith,
      few_shown bits insn.first,
      few_shown bits insn.second,
      few_shown bits insn.third,
      length-append (operand_text bits insn.third) (operand_text bits insn.second ++ operand_text bits insn.first),
      length-append (operand_text bits insn.second) (operand_text bits insn.first),
    )

all_written : (branch : Bool) (operands : List OperandText) (pieces : List (List PrintedPiece)) → AllSpelled branch operands pieces → length operands ≤ 3 → (offset : ℕ)
    → WritesAll branch operands (tokens_in offset (after_blank pieces))
all_written branch [] [] all few offset = none branch
all_written branch [] (own ∷ owns) all few offset = absurd all
all_written branch (one ∷ others) [] all few offset = absurd all
all_written branch (one ∷ others) (own ∷ owns) all few offset = some branch (one ∷ others) _ (joined_spelled 3 branch one others own owns all (omega arith) (offset + 1))

pub insn_written : (branch : Bool) (bits : ℕ) (insn : View) → IsWidth bits → ArePrintable branch insn → (offset : ℕ) → WritesAll branch (written bits insn) (tokens_in offset (after_blank (operands_in branch bits insn)))
insn_written branch bits insn width ok offset =
    all_written branch (written bits insn) (operands_in branch bits insn) (operands_spelled branch bits insn width ok) (three_written bits insn) offset

-- what is in front
pub record HasHead (named : Named) (lead : Prefix) (pieces : List PrintedPiece) (tokens : List SpelledToken) : Type 0 where
  pub at : ℕ
  pub is : IsHead named lead (tokens_in at pieces) tokens

words_are : (prefix_of (codes "lock") ≡ Some prefix.Lock) × (prefix_of (codes "rep") ≡ Some prefix.Rep) × (prefix_of (codes "repe") ≡ Some prefix.Repe) × (prefix_of (codes "repne") ≡ Some prefix.Repne) × (prefix_of (codes "notrack") ≡ Some prefix.Notrack)
words_are = (refl, refl, refl, refl, refl)

pub head_spelled : (lead : Prefix) (named : Named) (pieces : List PrintedPiece) (offset : ℕ) → att_mnemonic (text_of named) ≡ Some named
    → HasHead named lead pieces (tokens_in offset (prefix_pieces lead ++ (word (text_of named) ∷ pieces)))
head_spelled prefix.Absent named pieces offset is = record { at = offset + length (text_of named); is = bare named _ _ is }
head_spelled prefix.Lock named pieces offset is = record { at = offset + 4 + 1 + length (text_of named); is = prefixed named prefix.Lock _ _ _ words_are.0 is }
head_spelled prefix.Rep named pieces offset is = record { at = offset + 3 + 1 + length (text_of named); is = prefixed named prefix.Rep _ _ _ words_are.1 is }
head_spelled prefix.Repe named pieces offset is = record { at = offset + 4 + 1 + length (text_of named); is = prefixed named prefix.Repe _ _ _ words_are.2 is }
head_spelled prefix.Repne named pieces offset is = record { at = offset + 5 + 1 + length (text_of named); is = prefixed named prefix.Repne _ _ _ words_are.3 is }
head_spelled prefix.Notrack named pieces offset is = record { at = offset + 7 + 1 + length (text_of named); is = prefixed named prefix.Notrack _ _ _ words_are.4 is }
