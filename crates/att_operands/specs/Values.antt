-- The values of operands as they are written: an expression, and a suffix as `@PLT` behind the name that begins it, or that is added to its first number.
use Rattle.std.specs.Prelude.{◌≡◌, ℕ, ◌+◌, ◌^◌, ◌<◌, ◌==◌, Bool, true, false, not, All, List, ◌++◌, take, drop, Option, Some, None, Result, Ok, Err, slice_get, if◌then◌else◌, codes}
use Rattle.std.specs.Str.{bytes_eq, str_eq_ignore_ascii_case}
use Rattle.asm_base.specs.declared.refusals.Refusal.{Refusal}
use Rattle.asm_base.specs.Refusals.{Fails}
use Rattle.asm_base.specs.declared.tokens.TokenKind.{TokenKind}
use Rattle.asm_base.specs.declared.tokens.TokenKind.TheVariants.{Name, String, Digits}
use Rattle.asm_base.specs.Tokens.{SpelledToken}
use Rattle.asm_expr.specs.declared.faults.ExprCause.{ExprCause}
use Rattle.asm_expr.specs.declared.faults.ExprCause.TheVariants as cause
use Rattle.expr_texts.specs.Leaves.{is_numeric_label}
use Rattle.asm_expr.specs.declared.trees.BinaryOp.TheVariants.{Add}
use Rattle.asm_expr.specs.Trees.{Tree, number, binary, tree_of}
use Rattle.asm_expr.specs.Forms.{Form}
use Rattle.asm_expr.specs.Knowledge.{Told, constant, form, Knowledge}
use Rattle.asm_expr.specs.Linear.{linear}
use Rattle.asm_expr.specs.NamesOf.{names_of}
use Rattle.expr_texts.specs.Reading.{ReadTree, reading_of}
use Rattle.x86_insn.specs.declared.amounts.Amount.{Amount}
use Rattle.x86_insn.specs.declared.amounts.Amount.TheVariants as amount
use Rattle.x86_insn.specs.declared.amounts.Suffix.{Suffix}
use Rattle.x86_insn.specs.declared.amounts.Suffix.TheVariants.{Plt, GotPcRel, GotTpOff, TpOff}
use Rattle.x86_insn.specs.declared.amounts.Value.{Value}
use Rattle.x86_insn.specs.Amounts.{named_tree}
use Rattle.att_operands.specs.declared.faults.OperandCause.{OperandCause}
use Rattle.att_operands.specs.declared.faults.OperandCause.TheVariants.{BadExpression, NumberTooWide, ExpressionTooDeep, BadOperand}
use Rattle.att_operands.specs.Marks.{mark_at, begins_by}

-- the fault of an expression as one of the instruction
abbrev pub stated : ExprCause → OperandCause
stated cause.NumberTooWide = NumberTooWide
stated cause.ExpressionTooDeep = ExpressionTooDeep
stated _ = BadExpression

-- the call answers what stands so to the due value, or the due fault
abbrev pub GivesSo : {T A F : Type 0} → (T → A → Type 0) → Result T (Refusal F) → Result A F → Type 0
GivesSo Is (Ok value) (Ok due) = Is value due
GivesSo Is (Ok value) (Err fault) = ⊥
GivesSo Is (Err refusal) due = Fails refusal due

-- a number, and the constant of a form, is below 2^64
pub record IsFitting (told : Told) : Type 0 where
  pub number : (n : ℕ) → told ≡ constant n → n < 2 ^ 64
  pub made : (made : Form) → told ≡ form made → made.constant < 2 ^ 64

-- so is what is known of each name of the tree
abbrev pub KnowsFitting : Knowledge → Tree → Type 0
KnowsFitting known tree = All (λ written. IsFitting (known.told (known.meant written))) (names_of tree)

-- the trees count the same, whatever is known
abbrev pub CountAlike : Tree → Tree → Type 0
CountAlike one other = (known : Knowledge) → KnowsFitting known one → linear known one ≡ linear known other

-- the trees count the same, and have the same names in the same order
pub record IsLike (one other : Tree) : Type 0 where
  pub counts : CountAlike one other
  pub names : names_of one ≡ names_of other

-- the amount is that of the tree: a number, a sum or a tree that counts the same whatever is known, and has the same names
abbrev pub IsAmountOf : Amount → Tree → Type 0
IsAmountOf (amount.Number value) tree = IsLike (number value) tree
IsAmountOf (amount.Name bytes more) tree = IsLike (named_tree bytes.now more) tree
IsAmountOf (amount.Tree boxed) tree = IsLike (tree_of boxed.value) tree

-- the suffix that a word is, in either case
abbrev pub suffix_of : List ℕ → Option Suffix
suffix_of word =
    if str_eq_ignore_ascii_case word (codes "plt") then Some Plt
    else (if str_eq_ignore_ascii_case word (codes "gotpcrel") then Some GotPcRel
    else (if str_eq_ignore_ascii_case word (codes "gottpoff") then Some GotTpOff
    else (if str_eq_ignore_ascii_case word (codes "tpoff") then Some TpOff else None)))

-- the suffix that a token is
unfoldable pub suffix_by : Option SpelledToken → Option Suffix
suffix_by None = None
suffix_by (Some token) = suffix_of token.bytes

-- a word, a string and a numeric label are names; the place is none
abbrev pub is_name : TokenKind → List ℕ → Bool
is_name Name bytes = not (bytes_eq bytes (codes "."))
is_name String bytes = true
is_name Digits bytes = is_numeric_label bytes
is_name _ bytes = false

-- the token is a name
unfoldable pub names_by : Option SpelledToken → Bool
names_by None = false
names_by (Some token) = is_name token.kind token.bytes

-- digits that are no numeric label are a number
abbrev pub is_number : TokenKind → List ℕ → Bool
is_number Digits bytes = not (is_numeric_label bytes)
is_number _ bytes = false

-- the token is a number
unfoldable pub numbers_by : Option SpelledToken → Bool
numbers_by None = false
numbers_by (Some token) = is_number token.kind token.bytes

-- a number and a `+` stand at this place
abbrev pub adds_at : List SpelledToken → ℕ → Bool
adds_at tokens at = if mark_at tokens (at + 1) == 43 then numbers_by (slice_get tokens at) else false

-- so many tokens stand in a value before the name that its suffix belongs to: none, or a number and a `+`, or these and a `-` before them
unfoldable pub before_name : List SpelledToken → ℕ → ℕ
before_name tokens at = if adds_at tokens at then 2 else (if mark_at tokens at == 45 then (if adds_at tokens (at + 1) then 3 else 0) else 0)

-- the place of that name
abbrev pub suffixed_name : List SpelledToken → ℕ → ℕ
suffixed_name tokens at = at + before_name tokens at

-- the suffix behind the name at this place, if `@` and a suffix stand there
abbrev pub suffix_behind : List SpelledToken → ℕ → Option Suffix
suffix_behind tokens at =
    if mark_at tokens (at + 1) == 64 then (if names_by (slice_get tokens at) then suffix_by (slice_get tokens (at + 2)) else None) else None

-- the suffix of the value at this place
abbrev pub suffix_at : List SpelledToken → ℕ → Option Suffix
suffix_at tokens at = suffix_behind tokens (suffixed_name tokens at)

-- the tokens without the `@` and the word behind the name at this place
unfoldable pub without_suffix : List SpelledToken → ℕ → List SpelledToken
without_suffix tokens at = take (at + 1) tokens ++ drop (at + 3) tokens

-- a value as its text: the tree of its expression, and its suffix
pub record ValueText : Type 0 where
  pub tree : Tree
  pub suffix : Option Suffix

-- a value, with one of its kind that is there already: their sum, which has the fault of the first that has one
abbrev pub beside : (there : Bool) → ValueText → ValueText → ValueText
beside false one other = other
beside true one other = record { tree = binary Add one.tree other.tree; suffix = other.suffix }

-- a value that was read, and the place behind it
pub record ReadText : Type 0 where
  pub text : ValueText
  pub next : ℕ

-- what was read with this suffix, where so many tokens were left out
abbrev pub as_value : Option Suffix → ℕ → Result ReadTree ExprCause → Result ReadText OperandCause
as_value suffix more (Ok found) = Ok (record { text = record { tree = found.tree; suffix = suffix }; next = found.next + more })
as_value suffix more (Err fault) = Err (stated fault)

-- the value at this place, with this suffix
abbrev pub value_with : List SpelledToken → ℕ → Option Suffix → Result ReadText OperandCause
value_with tokens at None = as_value None 0 (reading_of tokens at)
value_with tokens at (Some suffix) = as_value (Some suffix) 2 (reading_of (without_suffix tokens (suffixed_name tokens at)) at)

-- the value at this place, where an expression is due
unfoldable pub value_at : List SpelledToken → ℕ → Result ReadText OperandCause
value_at tokens at = value_with tokens at (suffix_at tokens at)

-- the value at this place, where a mark of another operand may stand, which begins no value
unfoldable pub begun_at : List SpelledToken → ℕ → Result ReadText OperandCause
begun_at tokens at = if begins_by (slice_get tokens at) then value_at tokens at else Err BadOperand

-- the value has this text
pub record IsValueOf (held : Value) (text : ValueText) : Type 0 where
  pub amount : IsAmountOf held.amount text.tree
  pub suffix : held.suffix ≡ text.suffix
