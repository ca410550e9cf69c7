-- Which texts are mnemonics of AT&T syntax, and which rows they name (GNU as manual, "i386-Mnemonics").
use Rattle.std.specs.Prelude.{◌≡◌, ◌-◌, ◌==◌, ◌&&◌, ◌||◌, ◌∷◌, ◌++◌, [], ℕ, List, Bool, true, false, not, Option, Some, None, slice_get, take, length, if◌then◌else◌}
use Rattle.std.specs.List.{find}
use Rattle.std.specs.Char.{to_ascii_lowercase}
use Rattle.x86_table.specs.declared.forms.Row.{Row}
use Rattle.x86_table.specs.declared.mnemonics.integers.TheConstants.{MOV}
use Rattle.x86_table.specs.Rows.{the_rows}
use Rattle.x86_lookup.specs.declared.names.Rule.{Rule}
use Rattle.x86_lookup.specs.declared.names.Rule.TheVariants as rule
use Rattle.x86_lookup.specs.declared.names.Named.{Named}
use Rattle.x86_lookup.specs.Names.{text_of, has_text, has_rows, the_att_names}
use Rattle.x86_lookup.specs.BareInstructions.{is_row_of}

-- the operand size in bits that a small letter fixes, or 0
abbrev pub letter_size : ℕ → ℕ
letter_size letter = if letter == 98 then 8 else (if letter == 119 then 16 else (if letter == 108 then 32 else (if letter == 113 then 64 else 0)))

-- what a letter fixes, in either case, if there is one
abbrev pub fixed_by : Option ℕ → ℕ
fixed_by None = 0
fixed_by (Some letter) = letter_size (to_ascii_lowercase letter)

-- the operand size that the last letter of a text fixes, or 0
abbrev pub last_size : List ℕ → ℕ
last_size text = fixed_by (slice_get text (length text - 1))

-- the text without its last letter
abbrev pub stem : List ℕ → List ℕ
stem text = take (length text - 1) text

-- the mnemonic with this operand size
abbrev pub of_size : Named → ℕ → Named
of_size named size = record named { size = size }

-- the mnemonic that has this text, in either case
unfoldable pub whole_mnemonic : List ℕ → Option Named
whole_mnemonic text = find (has_text text) the_att_names

-- the mnemonic with the size that a letter fixes, if it fixes none itself
abbrev pub fixing : ℕ → Option Named → Option Named
fixing size None = None
fixing size (Some named) = if (size == 0) || not (named.size == 0) then None else Some (of_size named size)

-- the mnemonic of the text without its last letter, which fixes the operand size
abbrev pub lettered : List ℕ → Option Named
lettered text = fixing (last_size text) (whole_mnemonic (stem text))

-- this mnemonic, or else that without the last letter
abbrev pub or_lettered : List ℕ → Option Named → Option Named
or_lettered text None = lettered text
or_lettered text (Some named) = Some named

-- the mnemonic of a text, in either case: the one that has it whole, or else the one that has it without its last letter
unfoldable pub att_mnemonic : List ℕ → Option Named
att_mnemonic text = or_lettered text (whole_mnemonic text)

-- no mnemonic has the text whole
abbrev pub IsNoName : List ℕ → Type 0
IsNoName text = (i : ℕ) (named : Named) → slice_get the_att_names i ≡ Some named → has_text text named ≡ false

-- The text is one of the mnemonic: its own, or that of a mnemonic that fixes no operand size and a letter behind it, which fixes the size, if no mnemonic has it whole.
pub data IsText : (text : List ℕ) (named : Named) → Type 0 where
  whole : (text : List ℕ) (i : ℕ) (named : Named) → slice_get the_att_names i ≡ Some named → has_text text named ≡ true → IsText text named
  with_letter : (text short : List ℕ) (letter size i : ℕ) (named : Named) → IsNoName text → text ≡ short ++ (letter ∷ []) → letter_size (to_ascii_lowercase letter) ≡ size
      → (size == 0) ≡ false → slice_get the_att_names i ≡ Some named → has_text short named ≡ true → (named.size == 0) ≡ true → IsText text (of_size named size)

-- the mnemonic that is found is the one whose text it is
pub record IsTextExactly (text : List ℕ) (named : Named) : Type 0 where
  pub found : att_mnemonic text ≡ Some named → IsText text named
  pub is : IsText text named → att_mnemonic text ≡ Some named

-- both name the same rows
abbrev pub are_alike : Named → Option Named → Bool
are_alike named None = false
are_alike named (Some found) = (found.name.0 == named.name.0) && (found.size == named.size)

-- the rows that the mnemonic names in Intel syntax it names in AT&T syntax too, unless it is that of a string instruction of 32 bits: `stosd` is `stosl` there
abbrev pub is_known : Named → Bool
is_known named = (named.size == 32) || are_alike named (whole_mnemonic (text_of named))

-- where no row has such operands it is `mov` of 64 bits
abbrev pub is_or_move : Rule → Bool
is_or_move rule.OrMove = true
is_or_move other = false

-- the name is by the size of the source
abbrev pub is_by_source : Rule → Bool
is_by_source rule.BySource = true
is_by_source other = false

-- what was found names the rows of the mnemonic that have this size, if there are any
abbrev pub names_sized : Named → ℕ → Named → Bool
names_sized named size found = ((found.name.0 == named.name.0) && (found.size == size))
    || ((is_or_move found.rule && ((named.name.0 == MOV) && (size == 64))) || not (has_rows (of_size named size)))

-- the same, if something was found
abbrev pub is_sized_in : Named → ℕ → Option Named → Bool
is_sized_in named size None = false
is_sized_in named size (Some found) = names_sized named size found

-- a letter behind a mnemonic that fixes no operand size makes a mnemonic of the rows of that size
abbrev pub LettersFix : Type 0
LettersFix = (text : List ℕ) (letter : ℕ) (named : Named) → whole_mnemonic text ≡ Some named → (named.size == 0) ≡ true
    → (letter_size (to_ascii_lowercase letter) == 0) ≡ false → is_sized_in named (letter_size (to_ascii_lowercase letter)) (att_mnemonic (text ++ (letter ∷ []))) ≡ true

-- the mnemonic names the row: it has its name, and the size that it fixes, if that is not the one of a source; and `movq` names `mov` of 64 bits too
abbrev pub names_row : Named → Row → Bool
names_row named r = ((not (is_by_source named.rule) || (named.size == 0)) && is_row_of named r)
    || ((is_or_move named.rule && (named.size == 0)) && ((r.name.0 == MOV) && (r.size == 64)))

-- the text is a mnemonic that names the row
pub record NamesRow (text : List ℕ) (r : Row) : Type 0 where
  pub named : Named
  pub found : att_mnemonic text ≡ Some named
  pub names : names_row named r ≡ true

-- The text is a name of the row: one that the table has, or one of them that fixes no size and the letter of the row's size, which is not that of a source.
pub data IsNameOf : (text : List ℕ) (r : Row) → Type 0 where
  own_name : (text : List ℕ) (i : ℕ) (named : Named) (r : Row) → slice_get the_att_names i ≡ Some named → has_text text named ≡ true → names_row named r ≡ true → IsNameOf text r
  sized_name : (text short : List ℕ) (letter i : ℕ) (named : Named) (r : Row) → text ≡ short ++ (letter ∷ []) → slice_get the_att_names i ≡ Some named
      → has_text short named ≡ true → (named.size == 0) ≡ true → is_by_source named.rule ≡ false → (r.name.0 == named.name.0) ≡ true
      → (r.size == 0) ≡ false → letter_size (to_ascii_lowercase letter) ≡ r.size → IsNameOf text r

-- the text is a mnemonic of the row exactly where it is a name of it
pub record IsNamedExactly (text : List ℕ) (r : Row) : Type 0 where
  pub named : NamesRow text r → IsNameOf text r
  pub names : IsNameOf text r → NamesRow text r

-- so it is of each row of the table
abbrev pub RowsAreNamed : Type 0
RowsAreNamed = (at : ℕ) (text : List ℕ) (r : Row) → slice_get the_rows at ≡ Some r → IsNamedExactly text r
