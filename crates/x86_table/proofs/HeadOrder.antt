-- What stands before an opcode is told from it, and rows by their heads.
use Rattle.std.proofs.Common.{◌≡◌, ◌<◌, ℕ, ◌+◌, ◌%◌, nat_le, [], true, Option, Some, None, inl, inr}
use Rattle.std.proofs.lemmas.Bool.{cases_order, both_ways, and_parts}
use Rattle.x86_table.specs.declared.forms.Map.{Map}
use Rattle.x86_table.specs.declared.forms.Map.TheVariants as map
use Rattle.x86_table.specs.Rows.{the_rows}
use Rattle.x86_table.specs.Bytes.{first_byte, size_byte, repeat_byte, lock_byte, rex_bits, rex_byte}
use Rattle.x86_table.specs.Heads.{span, share_head, opcode_stands}
use Rattle.x86_table.specs.Leads.{HasRank, NeverLeads, LeadsInOrder, FieldsAreNarrow, HeadsTellRows}
use Rattle.x86_table.proofs.TableFacts.{apart, stand}
use Rattle.x86_table.proofs.Peeling.{Guarded, last_one, no_escape, guard_size, guard_first, guard_rep, guard_lock, guard_rex}
use Rattle.x86_table.proofs.RowHeads.{fit_of_fields, reg_below, x_below, sum_of, low_width, bits_below}
use Rattle.x86_table.proofs.OneReading.{in_order, each}

ranked : (k : ℕ) (a : Option ℕ) → Guarded k a [] → HasRank k a
ranked k None g = tt
ranked k (Some v) g = g

never_leads : (m : Map) (o n k : ℕ) → opcode_stands m o n ≡ true → k < n → NeverLeads m (o + k)
never_leads map.One o n k h lt = last_one o n k h lt
never_leads map.Two o n k h lt = no_escape o n k h lt
never_leads map.Three38 o n k h lt = tt
never_leads map.Three3A o n k h lt = tt

pub leads : LeadsInOrder
leads i r p found fit =
    let f = fit_of_fields r p fit in
    let st = and_parts (opcode_stands r.map r.code (span r.shape)) (nat_le (r.code + span r.shape) 256) (each r the_rows i stand found) in
    record {
      first = ranked 1 (first_byte p.segment p.«prefix») (guard_first p.segment p.«prefix» [] tt);
      size = ranked 2 (size_byte r.lead.operand_size) (guard_size r.lead.operand_size [] tt);
      repeat = ranked 3 (repeat_byte r.lead.repeat p.«prefix») (guard_rep r.lead.repeat p.«prefix» [] tt);
      lock = ranked 4 (lock_byte p.«prefix») (guard_lock p.«prefix» [] tt);
      rex = ranked 5 (rex_byte (rex_bits r p) p.bare_rex) (guard_rex (rex_bits r p) p.bare_rex [] (bits_below r p f) tt);
      opcode = never_leads r.map r.code (span r.shape) (p.low % 8) st.0 (low_width r.shape p.low f.low);
    }

pub narrow : FieldsAreNarrow
narrow r p fit =
    let f = fit_of_fields r p fit in
    let s = sum_of r.shape p.place p.low f.low f.place in
    record {
      reg = reg_below r.shape p.reg f.reg;
      low = s.low_below;
      in_opcode = low_width r.shape p.low f.low;
      x = x_below r.shape p.place f.place;
      b = s.below;
    }

pub tell_rows : HeadsTellRows
tell_rows i j r s e f one other = elim (cases_order i j) [
  | inl same ↦ same
  | inr (inl lt) ↦ absurd (both_ways (share_head r s) (in_order r s the_rows i j apart lt e f) one)
  | inr (inr gt) ↦ absurd (both_ways (share_head s r) (in_order s r the_rows j i apart gt f e) other)
]
