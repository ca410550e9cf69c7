-- The head of bytes that read is read off, and the map of their opcode.
use Rattle.std.proofs.Common.{◌≡◌, ℕ, ◌+◌, ◌%◌, ◌==◌, List, ◌∷◌, ◌++◌, false, refl, arith, ap, append_assoc, inl, inr}
use Rattle.std.proofs.lemmas.Bool.{cases_Bool, eqb-true}
use Rattle.x86_table.specs.declared.forms.Map.{Map}
use Rattle.x86_table.specs.declared.forms.Map.TheVariants as map
use Rattle.x86_table.specs.declared.forms.Row.{Row}
use Rattle.x86_table.specs.Fields.{Fields}
use Rattle.x86_table.specs.Bytes.{opt, first_byte, size_byte, repeat_byte, lock_byte, rex_bits, rex_byte, escape_byte, second_escape, modrm_bytes, immediate_bytes, bytes_of}
use Rattle.x86_table.specs.Heads.{rank}
use Rattle.x86_table.specs.Leads.{NeverLeads, Leads}
use Rattle.x86_decode.specs.Heads.{Head, head_of, map_in, past_escapes}
use Rattle.x86_decode.proofs.LeadingBytes.{Above, above, read_off, tests_first, tests_size, tests_repeat, tests_lock, tests_rex}

pub apart : (a b : ℕ) → (a ≡ b → ⊥) → (a == b) ≡ false
apart a b h = elim (cases_Bool (a == b)) [
  | inl t ↦ absurd (h (eqb-true a b t))
  | inr f ↦ f
]

-- what stands behind the opcode
unfoldable pub behind_opcode : Row → Fields → List ℕ
behind_opcode r p = modrm_bytes r.shape (p.reg % 8) p.place ++ immediate_bytes r.immediate p.held

-- an opcode with its escape, behind which these bytes stand
abbrev pub from_escape : Row → Fields → List ℕ → List ℕ
from_escape r p xs = opt (escape_byte r.map) ++ (opt (second_escape r.map) ++ ((r.code + p.low % 8) ∷ xs))

-- all bytes as a chain of bytes that may stand
abbrev chain : Row → Fields → List ℕ → List ℕ
chain r p xs = opt (first_byte p.segment p.«prefix») ++ (opt (size_byte r.lead.operand_size) ++ (opt (repeat_byte r.lead.repeat p.«prefix») ++ (opt (lock_byte p.«prefix»)
    ++ (opt (rex_byte (rex_bits r p) p.bare_rex) ++ from_escape r p xs))))

as_chain : (r : Row) (p : Fields) (xs : List ℕ) → bytes_of r p ++ xs ≡ chain r p (behind_opcode r p ++ xs)
unfolding bytes_of behind_opcode
as_chain r p xs = simp append_assoc

-- the head of a row and fields, behind which these bytes stand
abbrev pub head_with : Row → Fields → List ℕ → Head
head_with r p xs = record {
  first = first_byte p.segment p.«prefix»;
  size = size_byte r.lead.operand_size;
  repeat = repeat_byte r.lead.repeat p.«prefix»;
  lock = lock_byte p.«prefix»;
  rex = rex_byte (rex_bits r p) p.bare_rex;
  rest = from_escape r p xs;
}

opcode_above : (m : Map) (o : ℕ) (xs : List ℕ) → NeverLeads m o → Above 5 (opt (escape_byte m) ++ (opt (second_escape m) ++ (o ∷ xs)))
opcode_above map.One o xs n = omega arith
opcode_above map.Two o xs n = omega arith
opcode_above map.Three38 o xs n = omega arith
opcode_above map.Three3A o xs n = omega arith

chain_head : (r : Row) (p : Fields) (xs : List ℕ) → Leads r p → head_of (chain r p xs) ≡ head_with r p xs
unfolding head_of
chain_head r p xs l =
    let five = opcode_above r.map (r.code + p.low % 8) xs l.opcode in
    let four = above 5 4 (rex_byte (rex_bits r p) p.bare_rex) _ (omega arith) l.rex five in
    let three = above 4 3 (lock_byte p.«prefix») _ (omega arith) l.lock four in
    let two = above 3 2 (repeat_byte r.lead.repeat p.«prefix») _ (omega arith) l.repeat three in
    let one = above 2 1 (size_byte r.lead.operand_size) _ (omega arith) l.size two in
    let a = read_off _ 1 (first_byte p.segment p.«prefix») _ tests_first l.first one in
    let b = read_off _ 2 (size_byte r.lead.operand_size) _ tests_size l.size two in
    let c = read_off _ 3 (repeat_byte r.lead.repeat p.«prefix») _ tests_repeat l.repeat three in
    let d = read_off _ 4 (lock_byte p.«prefix») _ tests_lock l.lock four in
    let e = read_off _ 5 (rex_byte (rex_bits r p) p.bare_rex) _ tests_rex l.rex five in
    rw (a.0, a.1, b.0, b.1, c.0, c.1, d.0, d.1, e.0, e.1) refl

-- the head of bytes that read is that of their row and fields
pub head_read : (r : Row) (p : Fields) (more : List ℕ) → Leads r p → head_of (bytes_of r p ++ more) ≡ head_with r p (behind_opcode r p ++ more)
head_read r p more l = rw (as_chain r p more) (chain_head r p (behind_opcode r p ++ more) l)

-- the map of an opcode, and the bytes from the opcode on
pub record MapRead (m : Map) (bytes rest : List ℕ) : Type 0 where
  pub same : map_in bytes ≡ m
  pub past : past_escapes m bytes ≡ rest

pub map_read : (m : Map) (o : ℕ) (xs : List ℕ) → NeverLeads m o → MapRead m (opt (escape_byte m) ++ (opt (second_escape m) ++ (o ∷ xs))) (o ∷ xs)
map_read map.One o xs n = record { same = rw (apart o 15 (λ e. let r : rank o ≡ rank 15 = ap rank e in omega arith)) refl; past = refl }
map_read map.Two o xs n = record { same = rw (apart o 56 n.0, apart o 58 n.1) refl; past = refl }
map_read map.Three38 o xs n = record { same = refl; past = refl }
map_read map.Three3A o xs n = record { same = refl; past = refl }
