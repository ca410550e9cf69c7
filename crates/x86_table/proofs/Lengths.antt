-- How many bytes an instruction has.
use Rattle.std.proofs.Common.{◌<◌, ◌≤◌, ℕ, List, length, length-append, arith, sym, subst, nat_le}
use Rattle.std.proofs.lemmas.Bool.{and_parts, leb-true}
use Rattle.x86_table.specs.declared.forms.Row.{Row}
use Rattle.x86_table.specs.Fields.{Fields}
use Rattle.x86_table.specs.Bytes.{bytes_of}
use Rattle.x86_table.specs.Fits.{fits, fields_fit}
use Rattle.x86_table.specs.Reads.{InstructionLength}

has_opcode : (r : Row) (p : Fields) → 0 < length (bytes_of r p)
unfolding bytes_of
has_opcode r p = simp length-append (omega arith)

pub within : InstructionLength
unfolding fits
within bytes insn (i, r, p, reads) =
    let short = (and_parts (fields_fit r p) (nat_le (length (bytes_of r p)) 15) reads.fit).1 in
    subst (λ (some : List ℕ). (0 < length some) × (length some ≤ 15)) (sym reads.bytes_are) (has_opcode r p, leb-true (length (bytes_of r p)) 15 short)
