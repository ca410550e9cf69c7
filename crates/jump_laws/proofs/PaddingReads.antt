-- Padding reads as no-operations.
use Rattle.std.proofs.Common.{◌≡◌, ℕ, zero, suc, ◌<◌, ◌/◌, ◌%◌, ◌&&◌, inl, inr, not, Bool, true, false, List, [], ◌∷◌, ◌++◌, Some, None, replicate, refl, sym, ap, subst, arith, append-nil, append_assoc}
use Rattle.std.specs.Prelude.{◌==◌, ◌||◌, slice_get}
use Rattle.std.specs.List.{concat, list_all}
use Rattle.std.proofs.lemmas.Option.{none-some, same_Some}
use Rattle.item_bytes.specs.NoOperations.{no_operation, no_operations}
use Rattle.x86_insn.specs.declared.registers.Class.{Class}
use Rattle.x86_insn.specs.declared.registers.Class.TheVariants as class
use Rattle.x86_insn.specs.declared.insns.Prefix.TheVariants as prefix
use Rattle.x86_insn.specs.declared.insns.Base.TheVariants as base
use Rattle.x86_insn.specs.declared.insns.Index.{Index}
use Rattle.x86_insn.specs.declared.insns.Index.TheVariants as index
use Rattle.x86_insn.specs.Views.{Seen, absent, register, memory, View}
use Rattle.x86_table.specs.declared.forms.Repeat.TheVariants as repeat
use Rattle.x86_table.specs.declared.forms.Map.TheVariants as map
use Rattle.x86_table.specs.declared.forms.Rm.TheVariants as rm
use Rattle.x86_table.specs.declared.forms.Shape.TheVariants as shape
use Rattle.x86_table.specs.declared.forms.Pattern.TheVariants as pattern
use Rattle.x86_table.specs.declared.forms.Immediate.TheVariants as immediate
use Rattle.x86_table.specs.declared.forms.Words.TheVariants as words
use Rattle.x86_table.specs.declared.forms.Destinations.TheVariants as destinations
use Rattle.x86_table.specs.declared.forms.Implied.TheVariants as implied
use Rattle.x86_table.specs.declared.forms.StoreKind.TheVariants as store
use Rattle.x86_table.specs.declared.forms.Row.{Row}
use Rattle.x86_table.specs.declared.mnemonics.integers.TheConstants.{NOP, XCHG}
use Rattle.x86_table.specs.declared.parts.Width.{Width}
use Rattle.x86_table.specs.declared.parts.Width.TheVariants as width
use Rattle.x86_table.specs.Bytes.{bytes_of, rex_bits, rex_byte}
use Rattle.x86_table.specs.Fields.{Fields, Location, nowhere, based}
use Rattle.x86_table.specs.Fits.{fits, fields_fit}
use Rattle.x86_table.specs.Reads.{Reads, meaning}
use Rattle.x86_table.specs.Rows.{the_rows}
use Rattle.jump_laws.specs.PaddingReadings.{IsNoOperation, AreNoOperations, none, more, PaddingReads, writes_nothing, NopsWriteNothing}

-- `nop` of a size and an operand in memory
abbrev nop_of : ℕ → Seen → View
nop_of size first = record { name = record { 0 = NOP }; size = size; «prefix» = prefix.Absent; first = first; second = absent; third = absent }

-- memory at rax, with rax as an index or without
abbrev at_rax : Index → Seen
at_rax by = memory (record { segment = None; base = base.Of 0; index = by }) (Some 0)

-- the row of `nop` with an operand of 16 or of 32 bits
abbrev nop_row : ℕ → Bool → Class → ℕ → Row
nop_row size word of bytes = record {
  name = record { 0 = NOP };
  size = size;
  lead = record { operand_size = word; repeat = repeat.Absent; wide = false };
  map = map.Two;
  code = 0x1f;
  shape = shape.Digit 0 rm.Any;
  first = pattern.RegMem of bytes;
  second = pattern.Absent;
  third = pattern.Absent;
  immediate = immediate.Absent;
  words = words.Absent;
  outputs = record { destinations = destinations.Nothing; implied = implied.Absent; store = store.Absent };
}

-- the fields of an instruction with this place
abbrev placed : Location → Fields
placed place = record { «prefix» = prefix.Absent; segment = None; bare_rex = false; reg = 0; low = 0; place = place; held = Some 0 }

-- a displacement of this width at rax
abbrev plain : Width → Location
plain w = based 0 index.Absent false w (Some 0)

-- the same with a SIB byte, by which rax is the index too
abbrev doubled : Width → Location
doubled w = based 0 (index.By 0 0) true w (Some 0)

one : Reads (no_operation 1) (record { name = record { 0 = NOP }; size = 0; «prefix» = prefix.Absent; first = absent; second = absent; third = absent })
unfolding the_rows bytes_of rex_bits rex_byte fits fields_fit meaning no_operation
one = (
  164,
  record {
    name = record { 0 = NOP };
    size = 0;
    lead = record { operand_size = false; repeat = repeat.Absent; wide = false };
    map = map.One;
    code = 0x90;
    shape = shape.Plain;
    first = pattern.Absent;
    second = pattern.Absent;
    third = pattern.Absent;
    immediate = immediate.Absent;
    words = words.Absent;
    outputs = record { destinations = destinations.Nothing; implied = implied.Absent; store = store.Absent };
  },
  placed nowhere,
  record { found = refl; fit = refl; held_known = refl; place_known = refl; bytes_are = refl; insn_is = refl },
)

-- `xchg %ax, %ax`
abbrev exchanged : View
exchanged =
    let ax = register (record { class = class.Word; number = 0 }) in
    record { name = record { 0 = XCHG }; size = 16; «prefix» = prefix.Absent; first = ax; second = ax; third = absent }

two : Reads (no_operation 2) exchanged
unfolding the_rows bytes_of rex_bits rex_byte fits fields_fit meaning no_operation
two = (
  170,
  record {
    name = record { 0 = XCHG };
    size = 16;
    lead = record { operand_size = true; repeat = repeat.Absent; wide = false };
    map = map.One;
    code = 0x90;
    shape = shape.Low;
    first = pattern.Accumulator class.Word;
    second = pattern.Low class.Word;
    third = pattern.Absent;
    immediate = immediate.Absent;
    words = words.Absent;
    outputs = record { destinations = destinations.FirstAndSecond; implied = implied.Absent; store = store.Operand };
  },
  placed nowhere,
  record { found = refl; fit = refl; held_known = refl; place_known = refl; bytes_are = refl; insn_is = refl },
)

three : Reads (no_operation 3) (nop_of 32 (at_rax index.Absent))
unfolding the_rows bytes_of rex_bits rex_byte fits fields_fit meaning no_operation
three = (166, nop_row 32 false class.Long 4, placed (plain width.Absent), record { found = refl; fit = refl; held_known = refl; place_known = refl; bytes_are = refl; insn_is = refl })

four : Reads (no_operation 4) (nop_of 32 (at_rax index.Absent))
unfolding the_rows bytes_of rex_bits rex_byte fits fields_fit meaning no_operation
four = (166, nop_row 32 false class.Long 4, placed (plain width.Byte), record { found = refl; fit = refl; held_known = refl; place_known = refl; bytes_are = refl; insn_is = refl })

five : Reads (no_operation 5) (nop_of 32 (at_rax (index.By 0 0)))
unfolding the_rows bytes_of rex_bits rex_byte fits fields_fit meaning no_operation
five = (166, nop_row 32 false class.Long 4, placed (doubled width.Byte), record { found = refl; fit = refl; held_known = refl; place_known = refl; bytes_are = refl; insn_is = refl })

six : Reads (no_operation 6) (nop_of 16 (at_rax (index.By 0 0)))
unfolding the_rows bytes_of rex_bits rex_byte fits fields_fit meaning no_operation
six = (165, nop_row 16 true class.Word 2, placed (doubled width.Byte), record { found = refl; fit = refl; held_known = refl; place_known = refl; bytes_are = refl; insn_is = refl })

seven : Reads (no_operation 7) (nop_of 32 (at_rax index.Absent))
unfolding the_rows bytes_of rex_bits rex_byte fits fields_fit meaning no_operation
seven = (166, nop_row 32 false class.Long 4, placed (plain width.Long), record { found = refl; fit = refl; held_known = refl; place_known = refl; bytes_are = refl; insn_is = refl })

eight : Reads (no_operation 8) (nop_of 32 (at_rax (index.By 0 0)))
unfolding the_rows bytes_of rex_bits rex_byte fits fields_fit meaning no_operation
eight = (166, nop_row 32 false class.Long 4, placed (doubled width.Long), record { found = refl; fit = refl; held_known = refl; place_known = refl; bytes_are = refl; insn_is = refl })

nine : Reads (no_operation 9) (nop_of 16 (at_rax (index.By 0 0)))
unfolding the_rows bytes_of rex_bits rex_byte fits fields_fit meaning no_operation
nine = (165, nop_row 16 true class.Word 2, placed (doubled width.Long), record { found = refl; fit = refl; held_known = refl; place_known = refl; bytes_are = refl; insn_is = refl })

-- a no-operation alone
alone : (bytes : List ℕ) (insn : View) → Reads bytes insn → IsNoOperation insn → AreNoOperations bytes
alone bytes insn reads is = subst AreNoOperations (append-nil bytes) (more bytes [] insn reads is none)

few : (size : ℕ) → size < 9 → AreNoOperations (no_operation size)
unfolding no_operation
few zero low = none
few (suc zero) low = alone (no_operation 1) _ one (inl refl)
few (suc (suc zero)) low = alone (no_operation 2) exchanged two (inr (record { name = refl; size = refl; reg = record { class = class.Word; number = 0 }; first = refl; second = refl }))
few (suc (suc (suc zero))) low = alone (no_operation 3) _ three (inl refl)
few (suc (suc (suc (suc zero)))) low = alone (no_operation 4) _ four (inl refl)
few (suc (suc (suc (suc (suc zero))))) low = alone (no_operation 5) _ five (inl refl)
few (suc (suc (suc (suc (suc (suc zero)))))) low = alone (no_operation 6) _ six (inl refl)
few (suc (suc (suc (suc (suc (suc (suc zero))))))) low = alone (no_operation 7) _ seven (inl refl)
few (suc (suc (suc (suc (suc (suc (suc (suc zero)))))))) low = alone (no_operation 8) _ eight (inl refl)
few (suc (suc (suc (suc (suc (suc (suc (suc (suc size))))))))) low = absurd (omega arith)

-- so many of nine bytes, and others behind them
nines : (count : ℕ) (rest : List ℕ) → AreNoOperations rest → AreNoOperations (concat (replicate count (no_operation 9)) ++ rest)
nines zero rest are = are
nines (suc count) rest are =
    subst AreNoOperations (sym (append_assoc (no_operation 9) (concat (replicate count (no_operation 9))) rest))
    (more (no_operation 9) (concat (replicate count (no_operation 9)) ++ rest) _ nine (inl refl) (nines count rest are))

pub padding_reads : PaddingReads
unfolding no_operations
padding_reads size = nines (size / 9) (no_operation (size % 9)) (few (size % 9) (omega arith))

-- WHAT THEY WRITE

-- the row writes nothing if it has the name
nop_test : Row → Bool
nop_test r = not (r.name.0 == NOP) || writes_nothing r

nops_pass : list_all nop_test the_rows ≡ true
unfolding the_rows nop_test
nops_pass = refl

both : (a b : Bool) → (a && b) ≡ true → (a ≡ true) × (b ≡ true)
both true b is = (refl, is)
both false b is = absurd cc

all_pass : (test : Row → Bool) (rows : List Row) (i : ℕ) (r : Row) → list_all test rows ≡ true → slice_get rows i ≡ Some r → test r ≡ true
all_pass test [] i r pass there = absurd (none-some r there)
all_pass test (one ∷ rows) zero r pass there = subst (λ row. test row ≡ true) (same_Some one r there) (both (test one) (list_all test rows) pass).0
all_pass test (one ∷ rows) (suc i) r pass there = all_pass test rows i r (both (test one) (list_all test rows) pass).1 there

named : (name writes : Bool) → (not name || writes) ≡ true → name ≡ true → writes ≡ true
named true writes is name = is
named false writes is name = absurd cc

pub nops_write_nothing : NopsWriteNothing
unfolding nop_test
nops_write_nothing i r there name = named (r.name.0 == NOP) (writes_nothing r) (all_pass nop_test the_rows i r nops_pass there) name
