-- The usual operands, by their parts.
use Rattle.std.specs.Prelude.{◌≡◌, ℕ, ◌+◌, ◌==◌, nat_lt, Bool, true, false, List, take, Some, None, Ok, slice_get, codes, if◌then◌else◌}
use Rattle.asm_base.specs.Tokens.{SpelledToken}
use Rattle.x86_insn.specs.declared.registers.Reg.{Reg}
use Rattle.att_operands.specs.declared.registers.NamedRegister.TheVariants as named
use Rattle.att_operands.specs.Registers.{register_of}
use Rattle.att_operands.specs.Marks.{mark_by, mark_at, ends_at}
use Rattle.x86_insn.specs.declared.insns.Base.{Base}
use Rattle.x86_insn.specs.declared.insns.Index.TheVariants as index
use Rattle.x86_insn.specs.declared.insns.Address.{Address}
use Rattle.att_operands.specs.declared.registers.NamedRegister.{NamedRegister}
use Rattle.att_operands.specs.Addresses.{register_by, base_by, scale_by}
use Rattle.intel_sums.specs.declared.parts.Part.TheVariants.{Plain, Scaled}
use Rattle.intel_sums.specs.declared.parts.Parts.TheVariants.{Two}
use Rattle.intel_sums.specs.Parts.{address_of}
use Rattle.intel_sums.specs.OtherRegisters.{is_other_register}
use Rattle.intel_sums.specs.Sums.{is_register}
use Rattle.intel_sums.specs.LoneSums.{is_calm_by}
use Rattle.intel_operands.specs.declared.usual.FoundAddress.{FoundAddress}
use Rattle.att_operands.specs.Values.{GivesSo}
use Rattle.att_operands.specs.Spells.{in_segment}
use Rattle.intel_operands.specs.declared.operands.SizedOperand.{SizedOperand}
use Rattle.intel_operands.specs.declared.operands.FoundOperand.{FoundOperand}
use Rattle.intel_operands.specs.Words.{is_word}
use Rattle.intel_operands.specs.OperandTexts.{summed_at, outlined, is_no_comma, IsSized}

-- the token is the name of the register, and no comma
pub record NamesRegister (token : SpelledToken) (reg : Reg) : Type 0 where
  pub apart : is_no_comma token ≡ true
  pub names : register_of token.bytes ≡ Some (named.Plain reg)

-- the text names no register, nor one that is no operand here
pub record NamesNone (text : List ℕ) : Type 0 where
  pub own : register_of text ≡ None
  pub other : is_other_register text ≡ false

-- the token is a number or a name, and no register
pub record IsLoneWord (token : SpelledToken) : Type 0 where
  pub apart : is_no_comma token ≡ true
  pub unopened : (mark_by (Some token) == 91) ≡ false
  pub own : register_of token.bytes ≡ None
  pub wild : is_register token ≡ false

-- such a token, which is not `OFFSET`, is the whole operand at this place
pub record IsWordAt (tokens : List SpelledToken) (at : ℕ) (token : SpelledToken) : Type 0 where
  pub stands : slice_get tokens at ≡ Some token
  pub alone : IsLoneWord token
  pub shown : is_word (codes "offset") (Some token) ≡ false
  pub ended : ends_at tokens (at + 1) ≡ true

-- A bracket opens behind so many tokens, which stay in the text of a sum.
pub data OpensBehind : (text : List SpelledToken) (before : ℕ) → Type 0 where
  bare_bracket : (text : List SpelledToken) → mark_at text 0 ≡ 91 → OpensBehind text 0
  one_before : (text : List SpelledToken) → is_calm_by (slice_get text 0) ≡ true → mark_at text 1 ≡ 91 → OpensBehind text 1
  two_before : (text : List SpelledToken) → is_calm_by (slice_get text 0) ≡ true → is_calm_by (slice_get text 1) ≡ true → mark_at text 2 ≡ 91 → OpensBehind text 2

-- the base alone stands behind this place, and a `]` behind it, where an operand ends
pub record ClosesAt (text : List SpelledToken) (at : ℕ) (base : Base) : Type 0 where
  pub word : mark_at text (at + 1) ≡ 0
  pub names : base_by (register_by (slice_get text (at + 1))) ≡ Some base
  pub closes : mark_at text (at + 2) ≡ 93
  pub ended : ends_at text (at + 3) ≡ true

-- two registers, which make the address, stand behind this place, and a `]` behind them, where an operand ends
pub record PairsAt (text : List SpelledToken) (at : ℕ) (first second : NamedRegister) (address : Address) : Type 0 where
  pub word : mark_at text (at + 1) ≡ 0
  pub names : register_by (slice_get text (at + 1)) ≡ Some first
  pub plus : mark_at text (at + 2) ≡ 43
  pub other : mark_at text (at + 3) ≡ 0
  pub renames : register_by (slice_get text (at + 3)) ≡ Some second
  pub closes : mark_at text (at + 4) ≡ 93
  pub ended : ends_at text (at + 5) ≡ true
  pub makes : address_of None (Two (Plain first) (Plain second)) ≡ Some address

-- the same with a scale of the second register
pub record ScalesAt (text : List SpelledToken) (at : ℕ) (first second : NamedRegister) (scale : ℕ) (address : Address) : Type 0 where
  pub word : mark_at text (at + 1) ≡ 0
  pub names : register_by (slice_get text (at + 1)) ≡ Some first
  pub plus : mark_at text (at + 2) ≡ 43
  pub other : mark_at text (at + 3) ≡ 0
  pub renames : register_by (slice_get text (at + 3)) ≡ Some second
  pub star : mark_at text (at + 4) ≡ 42
  pub digits : mark_at text (at + 5) ≡ 0
  pub scales : scale_by (slice_get text (at + 5)) ≡ Some scale
  pub closes : mark_at text (at + 6) ≡ 93
  pub ended : ends_at text (at + 7) ≡ true
  pub makes : address_of None (Two (Plain first) (Scaled second scale)) ≡ Some address

-- The address of one register or two stands in the brackets that open at this place, behind which an operand ends.
pub data HoldsAddress : (text : List SpelledToken) (at : ℕ) (found : FoundAddress) → Type 0 where
  of_base : (text : List SpelledToken) (at : ℕ) (base : Base) → ClosesAt text at base → HoldsAddress text at (record { address = in_segment None base index.Absent; next = at + 3 })
  of_pair : (text : List SpelledToken) (at : ℕ) (first second : NamedRegister) (address : Address) → PairsAt text at first second address
      → HoldsAddress text at (record { address = address; next = at + 5 })
  of_scaled : (text : List SpelledToken) (at : ℕ) (first second : NamedRegister) (scale : ℕ) (address : Address) → ScalesAt text at first second scale address
      → HoldsAddress text at (record { address = address; next = at + 7 })

-- the operand as it was found, without its place
abbrev pub sized_of : FoundOperand → SizedOperand
sized_of found = record { operand = found.operand; bits = found.bits }

-- memory of so many bits at an address stands in front of the text
pub record ShowsMemory (text : List SpelledToken) (bits : ℕ) (found : FoundOperand) : Type 0 where
  pub before : ℕ
  pub address : Address
  pub opens : OpensBehind text before
  pub apart : (mark_at text 1 == 58) ≡ false
  pub holds : HoldsAddress text before (record { address = address; next = found.next })
  pub reads : (branch : Bool) → GivesSo IsSized (Ok (sized_of found)) (outlined branch (Some (summed_at bits 0 address (take before text))))

-- so many tokens say that memory has so many bits
abbrev pub said_words : ℕ → ℕ
said_words bits = if nat_lt 0 bits then 2 else 0

-- the two words in front, if they say a size, are no marks
abbrev pub SaysPlainly : ℕ → List SpelledToken → Type 0
SaysPlainly bits text = nat_lt 0 bits ≡ true → (mark_at text 0 ≡ 0) × (mark_at text 1 ≡ 0)
