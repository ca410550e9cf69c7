-- The shortest bytes of an instruction, as the encoding computes them.
use Rattle.std.proofs.Common.{◌≡◌, List, None, Option, Some, subst, ℕ}
use Rattle.x86_parts.specs.declared.encoded.Field.{Field}
use Rattle.x86_insn.specs.Views.{View}
use Rattle.x86_encode.specs.Encoding.{RowCoding, coding_of}
use Rattle.x86_encode.specs.Exchanges.{IsCode, HasNoCode}
use Rattle.x86_encode.proofs.Coded.{coding_answers}
use Rattle.x86_encode.proofs.Turning.{IsAnswer, Answers}

pub worked_code : (insn : View) (row : ℕ) (bytes : List ℕ) (moved held : Option Field)
    → coding_of insn ≡ Some (record { row = row; coding = record { bytes = bytes; displacement = moved; immediate = held } }) → IsCode bytes insn
worked_code insn row bytes moved held e =
    let k : IsAnswer insn (record { row = row; coding = record { bytes = bytes; displacement = moved; immediate = held } }) = subst (λ (o : Option RowCoding). Answers insn o) e (coding_answers insn) in (row, k.code)

pub worked_none : (insn : View) → coding_of insn ≡ None → HasNoCode insn
worked_none insn e = subst (λ (o : Option RowCoding). Answers insn o) e (coding_answers insn)
