-- The bytes of each no-operation read as one, which writes no tracked register.
use Rattle.std.proofs.Common.{◌≡◌, ℕ, ◌==◌, ◌||◌, Bool, true, false, List, [], ◌∷◌, Some, None, refl, arith}
use Rattle.std.proofs.lemmas.Bool.Decides.{nat_tests}
use Rattle.item_bytes.specs.NoOperations.{no_operation}
use Rattle.x86_insn.specs.declared.insns.Base.TheVariants as base
use Rattle.x86_insn.specs.declared.insns.Index.{Index}
use Rattle.x86_insn.specs.declared.insns.Index.TheVariants as index
use Rattle.x86_insn.specs.declared.insns.Prefix.TheVariants as prefix
use Rattle.x86_insn.specs.declared.registers.Class.{Class}
use Rattle.x86_insn.specs.declared.registers.Class.TheVariants as class
use Rattle.x86_insn.specs.Views.{Seen, absent, register, memory, View}
use Rattle.x86_table.specs.declared.forms.Destinations.TheVariants as destinations
use Rattle.x86_table.specs.declared.forms.Immediate.TheVariants as immediate
use Rattle.x86_table.specs.declared.forms.Implied.TheVariants as implied
use Rattle.x86_table.specs.declared.forms.Map.TheVariants as map
use Rattle.x86_table.specs.declared.forms.Pattern.TheVariants as pattern
use Rattle.x86_table.specs.declared.forms.Repeat.TheVariants as repeat
use Rattle.x86_table.specs.declared.forms.Rm.TheVariants as rm
use Rattle.x86_table.specs.declared.forms.Row.{Row}
use Rattle.x86_table.specs.declared.forms.Shape.TheVariants as shape
use Rattle.x86_table.specs.declared.forms.StoreKind.TheVariants as store
use Rattle.x86_table.specs.declared.forms.Words.TheVariants as words
use Rattle.x86_table.specs.declared.mnemonics.integers.TheConstants.{NOP, XCHG}
use Rattle.x86_table.specs.declared.parts.Width.{Width}
use Rattle.x86_table.specs.declared.parts.Width.TheVariants as width
use Rattle.x86_table.specs.Bytes.{bytes_of, rex_bits, rex_byte}
use Rattle.x86_table.specs.Fields.{Fields, Location, based}
use Rattle.x86_table.specs.Fits.{fits, fields_fit}
use Rattle.x86_table.specs.Reads.{Reads, meaning}
use Rattle.x86_table.specs.Rows.{the_rows}
use Rattle.insn_effects.specs.Actions.{other, nowhere as nothing_stored}
use Rattle.insn_effects.specs.Decoding.{action_of}
use Rattle.insn_effects.specs.Listed.{admits_head, writes_by_head}
use Rattle.x86_steps.specs.Acts.{is_tracked}

-- an instruction with one operand or two
abbrev insn_of : ℕ → ℕ → Seen → Seen → View
insn_of name size first second =
    record { name = record { 0 = name }; size = size; «prefix» = prefix.Absent; first = first; second = second; third = absent }

-- memory at rax, with rax as an index or without
abbrev at_rax : Index → Seen
at_rax by = memory (record { segment = None; base = base.Of 0; index = by }) (Some 0)

abbrev ax : Seen
ax = register (record { class = class.Word; number = 0 })

-- the row of `nop` with an operand of 16 or of 32 bits
abbrev nop_row : ℕ → Bool → Class → ℕ → Row
nop_row size word of bytes = record {
  name = record { 0 = NOP };
  size = size;
  lead = record { operand_size = word; repeat = repeat.Absent; wide = false };
  map = map.Two;
  code = 0x1f;
  shape = shape.Digit 0 rm.Any;
  first = pattern.RegMem of bytes;
  second = pattern.Absent;
  third = pattern.Absent;
  immediate = immediate.Absent;
  words = words.Absent;
  outputs = record { destinations = destinations.Nothing; implied = implied.Absent; store = store.Absent };
}

-- the fields of an instruction with this place
abbrev placed : Location → Fields
placed place = record { «prefix» = prefix.Absent; segment = None; bare_rex = false; reg = 0; low = 0; place = place; held = Some 0 }

-- a displacement of this width at rax
abbrev plain : Width → Location
plain w = based 0 index.Absent false w (Some 0)

-- the same with a SIB byte, by which rax is the index too
abbrev doubled : Width → Location
doubled w = based 0 (index.By 0 0) true w (Some 0)

-- the bytes read as an instruction that writes no tracked register, and stores nothing
pub record IsNop (bytes : List ℕ) : Type 0 where
  pub insn : View
  pub written : ℕ → Bool
  pub reads : Reads bytes insn
  pub action : action_of insn ≡ other written nothing_stored
  pub none : (q : ℕ) → is_tracked q ≡ true → written q ≡ false

-- an exchange of ax with itself writes rax
abbrev rax : ℕ → Bool
rax q = (0 == q) || ((0 == q) || (false || false))

not_rax : (q : ℕ) → is_tracked q ≡ true → rax q ≡ false
not_rax q h = grind (arith, nat_tests)

plain_action : action_of (insn_of NOP 0 absent absent) ≡ other (λ q. false) nothing_stored
unfolding the_rows admits_head writes_by_head action_of
plain_action = refl

exchange_action : action_of (insn_of XCHG 16 ax ax) ≡ other rax nothing_stored
unfolding the_rows admits_head writes_by_head action_of
exchange_action = refl

word_action : (i : Index) → action_of (insn_of NOP 16 (at_rax i) absent) ≡ other (λ q. false) nothing_stored
unfolding the_rows admits_head writes_by_head action_of
word_action i = refl

long_action : (i : Index) → action_of (insn_of NOP 32 (at_rax i) absent) ≡ other (λ q. false) nothing_stored
unfolding the_rows admits_head writes_by_head action_of
long_action i = refl

pub single : Reads (0x90 ∷ []) (insn_of NOP 0 absent absent) → IsNop (0x90 ∷ [])
single reads = record { insn = insn_of NOP 0 absent absent; written = λ q. false; reads = reads; action = plain_action; none = λ q h. refl }

pub double : Reads (0x66 ∷ 0x90 ∷ []) (insn_of XCHG 16 ax ax) → IsNop (0x66 ∷ 0x90 ∷ [])
double reads = record { insn = insn_of XCHG 16 ax ax; written = rax; reads = reads; action = exchange_action; none = not_rax }

-- of 32 bits
long_nop : (i : Index) (bytes : List ℕ) → Reads bytes (insn_of NOP 32 (at_rax i) absent) → IsNop bytes
long_nop i bytes reads = record { insn = insn_of NOP 32 (at_rax i) absent; written = λ q. false; reads = reads; action = long_action i; none = λ q h. refl }

-- of 16 bits
word_nop : (i : Index) (bytes : List ℕ) → Reads bytes (insn_of NOP 16 (at_rax i) absent) → IsNop bytes
word_nop i bytes reads = record { insn = insn_of NOP 16 (at_rax i) absent; written = λ q. false; reads = reads; action = word_action i; none = λ q h. refl }

pub three : IsNop (no_operation 3)
unfolding the_rows bytes_of rex_bits rex_byte fits fields_fit meaning no_operation
three = long_nop index.Absent (no_operation 3)
    (166, nop_row 32 false class.Long 4, placed (plain width.Absent), record { found = refl; fit = refl; held_known = refl; place_known = refl; bytes_are = refl; insn_is = refl })

pub four : IsNop (no_operation 4)
unfolding the_rows bytes_of rex_bits rex_byte fits fields_fit meaning no_operation
four = long_nop index.Absent (no_operation 4)
    (166, nop_row 32 false class.Long 4, placed (plain width.Byte), record { found = refl; fit = refl; held_known = refl; place_known = refl; bytes_are = refl; insn_is = refl })

pub five : IsNop (no_operation 5)
unfolding the_rows bytes_of rex_bits rex_byte fits fields_fit meaning no_operation
five = long_nop (index.By 0 0) (no_operation 5)
    (166, nop_row 32 false class.Long 4, placed (doubled width.Byte), record { found = refl; fit = refl; held_known = refl; place_known = refl; bytes_are = refl; insn_is = refl })

pub six : IsNop (no_operation 6)
unfolding the_rows bytes_of rex_bits rex_byte fits fields_fit meaning no_operation
six = word_nop (index.By 0 0) (no_operation 6)
    (165, nop_row 16 true class.Word 2, placed (doubled width.Byte), record { found = refl; fit = refl; held_known = refl; place_known = refl; bytes_are = refl; insn_is = refl })

pub seven : IsNop (no_operation 7)
unfolding the_rows bytes_of rex_bits rex_byte fits fields_fit meaning no_operation
seven = long_nop index.Absent (no_operation 7)
    (166, nop_row 32 false class.Long 4, placed (plain width.Long), record { found = refl; fit = refl; held_known = refl; place_known = refl; bytes_are = refl; insn_is = refl })

pub eight : IsNop (no_operation 8)
unfolding the_rows bytes_of rex_bits rex_byte fits fields_fit meaning no_operation
eight = long_nop (index.By 0 0) (no_operation 8)
    (166, nop_row 32 false class.Long 4, placed (doubled width.Long), record { found = refl; fit = refl; held_known = refl; place_known = refl; bytes_are = refl; insn_is = refl })

pub nine : IsNop (no_operation 9)
unfolding the_rows bytes_of rex_bits rex_byte fits fields_fit meaning no_operation
nine = word_nop (index.By 0 0) (no_operation 9)
    (165, nop_row 16 true class.Word 2, placed (doubled width.Long), record { found = refl; fit = refl; held_known = refl; place_known = refl; bytes_are = refl; insn_is = refl })
