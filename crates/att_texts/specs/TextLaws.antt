-- What holds of the texts of instructions.
use Rattle.std.specs.Prelude.{◌≡◌, ℕ, ◌<◌, ◌^◌, Bool, true, Some, Ok, slice_get}
use Rattle.asm_base.specs.Tokens.{tokens_of}
use Rattle.x86_insn.specs.Views.{View}
use Rattle.x86_table.specs.declared.forms.Pattern.{Pattern}
use Rattle.x86_table.specs.declared.forms.Row.{Row}
use Rattle.x86_table.specs.Fields.{Fields}
use Rattle.x86_table.specs.Fits.{fits}
use Rattle.x86_table.specs.Reads.{meaning, shown}
use Rattle.x86_lookup.specs.declared.names.Named.{Named}
use Rattle.x86_lookup.specs.Names.{the_att_names}
use Rattle.att_insns.specs.InsnTexts.{InsnText}
use Rattle.att_insns.specs.Rules.{is_branch}
use Rattle.att_insns.specs.Spells.{Spells}
use Rattle.x86_insn.specs.declared.registers.Class.{Class}
use Rattle.att_operands.specs.declared.registers.NamedRegister.TheVariants as named
use Rattle.att_operands.specs.Registers.{register_of}
use Rattle.att_operands.specs.Spells.{WritesValue}
use Rattle.att_texts.specs.Pieces.{text_in, tokens_in}
use Rattle.att_texts.specs.Numbers.{bare, number_pieces, number_tree, place_pieces, place_tree}
use Rattle.att_texts.specs.AttOperands.{register_text}
use Rattle.att_texts.specs.AttTexts.{insn_text, insn_pieces, may_name, read_after, mnemonic_for}
use Rattle.att_texts.specs.Printable.{IsWidth, IsNumbered, IsPrintable, IsTargetOf, ArePrintable, has_low, is_low}

-- what is written for an instruction spells it
abbrev pub AttTextsSpell : Type 0
AttTextsSpell = (bits : ℕ) (insn : View) (named : Named) → IsWidth bits → mnemonic_for (insn_text bits insn) ≡ Some named → ArePrintable (is_branch named.rule) insn
    → Spells (insn_text bits insn) (tokens_of (text_in (insn_pieces bits insn named)))

-- a mnemonic that may name the rows and is before the chosen one is read as another instruction, or as none
pub record IsChosen (insn : InsnText) (named : Named) : Type 0 where
  pub at : ℕ
  pub stands : slice_get the_att_names at ≡ Some named
  pub reads : read_after insn named ≡ Ok insn
  pub earlier : (i : ℕ) (other : Named) → i < at → slice_get the_att_names i ≡ Some other → may_name insn.name.0 other ≡ true → read_after insn other ≡ Ok insn → ⊥

-- numbers, places and registers, in either syntax
pub record PiecesSpell : Type 0 where
  pub numbers : (bits value offset : ℕ) → IsWidth bits → value < 2 ^ 64 → WritesValue (bare (number_tree bits value)) (tokens_in offset (number_pieces bits value))
  pub places : (value offset : ℕ) → value < 2 ^ 64 → WritesValue (bare (place_tree value)) (tokens_in offset (place_pieces value))
  pub registers : (of_class : Class) (number : ℕ) → IsNumbered of_class number → register_of (register_text of_class number) ≡ Some (named.Plain (record { class = of_class; number = number }))

-- what a row shows of fields that fit it can be printed; a branch target is printed with the mnemonic of a branch
abbrev pub FieldsPrint : Type 0
FieldsPrint = (r : Row) (p : Fields) (q : Pattern) (rex branch : Bool) (len : ℕ) → fits r p ≡ true → is_low q ≡ true → (IsTargetOf q → branch ≡ true)
    → IsPrintable branch (shown rex len p q)

-- so can all operands of the instruction that it shows
abbrev pub InstructionsPrint : Type 0
InstructionsPrint = (r : Row) (p : Fields) (branch : Bool) → fits r p ≡ true → has_low r ≡ true → (IsTargetOf r.first → branch ≡ true)
    → (IsTargetOf r.second → branch ≡ true) → (IsTargetOf r.third → branch ≡ true) → ArePrintable branch (meaning r p)
