-- The encoding of an instruction as a function: of the rows that take it, the first with the fewest bytes.
use Rattle.std.specs.Prelude.{◌≡◌, ◌-◌, ◌^◌, ◌==◌, ◌||◌, ◌&&◌, ◌∷◌, if◌then◌else◌, Bool, List, None, Option, Some, [], false, is_some, length, nat_lt, option_map, suc, true, ℕ, Result, Ok, Err}
use Rattle.x86_insn.specs.declared.amounts.Values.{Values}
use Rattle.x86_table.specs.declared.forms.Row.{Row}
use Rattle.x86_parts.specs.declared.encoded.Field.{Field}
use Rattle.x86_parts.specs.declared.encoded.Position.{Position}
use Rattle.x86_parts.specs.declared.encoded.Encoded.{Encoded}
use Rattle.x86_parts.specs.declared.encoded.EncodeFault.{EncodeFault}
use Rattle.x86_encode.specs.declared.making.Made.{Made}
use Rattle.x86_parts.specs.declared.encoded.EncodeFault.TheVariants as fault
use Rattle.x86_parts.specs.declared.encoded.Position.TheVariants as position
use Rattle.x86_insn.specs.Views.{Seen, View}
use Rattle.x86_table.specs.Bytes.{bytes_of}
use Rattle.x86_table.specs.Rows.{the_rows}
use Rattle.x86_parts.specs.Building.{built, takes}
use Rattle.x86_parts.specs.Codes.{meant}
use Rattle.x86_encode.specs.Exchanges.{turned, exchanges, at_most}
use Rattle.x86_parts.specs.Filling.{Coding, moved_field, held_field, in_memory, holds_number, position_by}
use Rattle.x86_parts.specs.Keys.{immediate_length}

-- THE ROW

-- a row with its index in the table
pub record RowAt : Type 0 where
  pub row : ℕ
  pub r : Row

-- how many bytes the instruction has by a row
abbrev pub size_by : View → Row → ℕ
size_by insn r = length (bytes_of r (built r insn))

-- the row, if it takes the instruction
abbrev pub row_if : Bool → RowAt → Option RowAt
row_if true x = Some x
row_if false x = None

-- the same of a row by whether it has the instruction's name: none of another name takes it
abbrev pub row_offered : Bool → View → RowAt → Option RowAt
row_offered true insn x = row_if (takes x.r insn) x
row_offered false insn x = None

-- of two rows the first, unless the second has fewer bytes
abbrev pub shorter : View → Option RowAt → Option RowAt → Option RowAt
shorter insn None b = b
shorter insn (Some a) None = Some a
shorter insn (Some a) (Some b) = Some (if nat_lt (size_by insn b.r) (size_by insn a.r) then b else a)

-- of the rows from an index on that take the instruction, the first with the fewest bytes
abbrev pub shortest_of : View → ℕ → List Row → Option RowAt
shortest_of insn i [] = None
shortest_of insn i (r ∷ rows) = shorter insn (row_offered (insn.name.0 == r.name.0) insn (record { row = i; r = r })) (shortest_of insn (suc i) rows)

-- that of all rows
unfoldable pub shortest_row : View → Option RowAt
shortest_row insn = shortest_of insn 0 the_rows

-- THE CODING

-- what is made of an instruction, and the index of its row
pub record RowCoding : Type 0 where
  pub row : ℕ
  pub coding : Coding

-- the position of the first operand that passes, or the third
abbrev pub position_of : (Seen → Bool) → View → Position
position_of test insn = position_by (test insn.first) (test insn.second)

-- the coding by a row: its bytes, and a field for each value that is not known
unfoldable pub coding_by : View → Row → Coding
coding_by insn r = record {
  bytes = bytes_of r (built r insn);
  displacement = moved_field (size_by insn r - immediate_length r.immediate - 4) (position_of in_memory insn) (built r insn).place;
  immediate = held_field (size_by insn r - immediate_length r.immediate) (position_of holds_number insn) r.immediate (built r insn).held;
}

-- the same with the row's index
abbrev pub coding_at : View → RowAt → RowCoding
coding_at insn x = record { row = x.row; coding = coding_by insn x.r }

-- that of the operands in the row's order
abbrev pub ordered_coding : View → Option RowCoding
ordered_coding insn = option_map (coding_at insn) (shortest_row insn)

-- the position in the other order
abbrev pub turned_position : Position → Position
turned_position position.First = position.Second
turned_position position.Second = position.First
turned_position position.Third = position.Third

-- a field of the other order
abbrev pub turned_field : Option Field → Option Field
turned_field None = None
turned_field (Some f) = Some (record { at = f.at; size = f.size; kind = f.kind; position = turned_position f.position })

-- a coding of the other order
abbrev pub turned_coding : RowCoding → RowCoding
turned_coding x = record {
  row = x.row;
  coding = record { bytes = x.coding.bytes; displacement = turned_field x.coding.displacement; immediate = turned_field x.coding.immediate };
}

-- the one comes before the other
abbrev pub is_earlier : RowCoding → RowCoding → Bool
is_earlier a b = nat_lt (length a.coding.bytes) (length b.coding.bytes) || ((length a.coding.bytes == length b.coding.bytes)
    && (nat_lt a.row b.row || ((a.row == b.row) && at_most a.coding.bytes b.coding.bytes)))

-- the earlier of two
abbrev pub earlier : Option RowCoding → Option RowCoding → Option RowCoding
earlier None b = b
earlier (Some a) None = Some a
earlier (Some a) (Some b) = Some (if is_earlier a b then a else b)

-- that of this order of the operands, unless `xchg` shows them in the other one
abbrev pub own_coding : Bool → View → Option RowCoding
own_coding true insn = None
own_coding false insn = ordered_coding insn

-- that of the other order, if `xchg` shows the operands in this one then
abbrev pub other_coding : Bool → View → Option RowCoding
other_coding true insn = option_map turned_coding (ordered_coding (turned insn))
other_coding false insn = None

-- what is made of an instruction: of `xchg` the earlier of what the two orders give
abbrev pub coding_of : View → Option RowCoding
coding_of insn = earlier (own_coding (exchanges insn) insn) (other_coding (exchanges (turned insn)) insn)

-- WHY THERE IS NONE

-- some bytes mean the instruction
abbrev pub is_coded : View → Bool
is_coded insn = is_some (coding_of insn)

-- some bytes mean the instruction with this immediate and the displacement 0, which is as good as any
abbrev pub is_coded_with : (Values → View) → Option ℕ → Bool
is_coded_with shape held = is_coded (meant (shape (record { immediate = held; displacement = Some 0 })))

-- some bytes mean it with some values: these two immediates are as good as all
abbrev pub is_form : (Values → View) → Bool
is_form shape = is_coded_with shape (Some 1) || is_coded_with shape (Some (2 ^ 63))

-- the fault where the immediate is not known, by whether some bytes mean the instruction so
abbrev pub unknown_fault : Bool → EncodeFault
unknown_fault true = fault.OutOfRange
unknown_fault false = fault.ValueNotKnown

-- the fault where some values have bytes
abbrev pub value_fault : (Values → View) → Option ℕ → EncodeFault
value_fault shape None = unknown_fault (is_coded_with shape None)
value_fault shape (Some v) = fault.OutOfRange

-- the fault, by whether some values have bytes
abbrev pub fault_by : Bool → (Values → View) → Option ℕ → EncodeFault
fault_by true shape held = value_fault shape held
fault_by false shape held = fault.NoSuchForm

-- why no bytes mean the instruction with these values
unfoldable pub fault_of : (Values → View) → Values → EncodeFault
fault_of shape values = fault_by (is_form shape) shape values.immediate

-- THE ENCODING

-- a coding, or a fault where there is none
abbrev pub encoding_by : (Values → View) → Values → Option RowCoding → Result Coding EncodeFault
encoding_by shape values None = Err (fault_of shape values)
encoding_by shape values (Some x) = Ok x.coding

-- the encoding of an instruction with these values
unfoldable pub encoding_of : (Values → View) → Values → Result Coding EncodeFault
encoding_of shape values = encoding_by shape values (coding_of (meant (shape values)))

-- THE PROGRAM'S ANSWER

-- what the program makes
abbrev pub made_coding : Encoded → Coding
made_coding made = record { bytes = made.bytes.items; displacement = made.displacement; immediate = made.immediate }

-- what it answers
abbrev pub answered : Result Encoded EncodeFault → Result Coding EncodeFault
answered (Ok made) = Ok (made_coding made)
answered (Err cause) = Err cause

-- it answers this encoding
abbrev pub EncodesAs : Result Encoded EncodeFault → Result Coding EncodeFault → Type 0
EncodesAs result due = due ≡ answered result

-- what it makes by a row
abbrev pub made_at : Made → RowCoding
made_at m = record { row = m.row; coding = made_coding m.encoded }

-- it makes this, if any
abbrev pub MakesAs : Option Made → Option RowCoding → Type 0
MakesAs result due = due ≡ option_map made_at result
