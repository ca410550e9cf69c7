-- How large numbers are in the forms of assigned symbols and of instructions.
use Rattle.std.specs.Prelude.{◌≡◌, ◌<◌, ◌^◌, ℕ, Bool, List, All, Some, Ok}
use Rattle.asm_base.specs.Tokens.{SpelledToken, tokens_of}
use Rattle.asm_base.specs.declared.positions.Pos.{Pos}
use Rattle.asm_expr.specs.Forms.{Form}
use Rattle.asm_lines.specs.NextStatements.{TokenStatement}
use Rattle.asm_symbols.specs.Assigning.{form_at}
use Rattle.asm_symbols.specs.SymbolMap.{SymbolMap}
use Rattle.att_insns.specs.InsnTexts.{InsnText}
use Rattle.asm_values.specs.State.{Placed, nothing_placed}
use Rattle.asm_place.specs.Coding.{forms_of, insn_by}
use Rattle.asm_place.specs.CodePlaces.{ValueForms, known_in}
use Rattle.asm_place.specs.Sources.{place_all}

-- the token is spelled in bytes
abbrev pub IsInBytes : SpelledToken → Type 0
IsInBytes token = All (λ byte. byte < 2 ^ 8) token.bytes

-- each token of the statement is
abbrev pub IsSpelled : TokenStatement → Type 0
IsSpelled s = All IsInBytes s.tokens

-- so is each that is read from bytes
abbrev pub TokensAreInBytes : Type 0
TokensAreInBytes = (bytes : List ℕ) → All (λ byte. byte < 2 ^ 8) bytes
    → All IsInBytes (tokens_of bytes)

-- the numbers in the forms of assigned symbols have 64 bits
abbrev pub FormsFit : SymbolMap → Type 0
FormsFit map = (index : ℕ) (form : Form) → form_at map.symbols index ≡ Some form
    → form.constant < 2 ^ 64

-- so it is at the beginning of a source
abbrev pub FormsBeginFitting : Type 0
FormsBeginFitting = (no_warn : Bool) → FormsFit (nothing_placed no_warn).table.symbols

-- and whatever statements are placed, it stays so
abbrev pub FormsStayFitting : Type 0
FormsStayFitting = (statements : List TokenStatement) (before placed : Placed)
    → All IsSpelled statements → place_all statements before ≡ Ok placed
    → FormsFit before.table.symbols → FormsFit placed.table.symbols

-- the numbers in the forms of an instruction's values have 64 bits
pub record AreValuesFitting (forms : ValueForms) : Type 0 where
  pub immediate : forms.immediate.constant < 2 ^ 64
  pub displacement : forms.displacement.constant < 2 ^ 64

-- so it is with each instruction that tokens are
abbrev pub ValuesFit : Type 0
ValuesFit = (pos : Pos) (tokens : List SpelledToken) (text : InsnText) (placed : Placed)
    (forms : ValueForms) → All IsInBytes tokens → FormsFit placed.table.symbols
    → insn_by placed.syntax tokens ≡ Ok text
    → forms_of (known_in pos text placed) text.immediate.tree text.displacement.tree ≡ Ok forms
    → AreValuesFitting forms
