-- A byte says one encoding, and each encoding has its byte.
use Rattle.std.proofs.Common.{◌≡◌, ℕ, ◌==◌, Bool, true, false, Option, None, Some, refl, ◌∙◌, ap, eqb-true}
use Rattle.std.specs.Prelude.{if◌then◌else◌}
use Rattle.std.proofs.lemmas.Option.{none-some, same_Some}
use Rattle.cfi_rows.specs.declared.pointers.PointerEncoding.{PointerEncoding}
use Rattle.cfi_rows.specs.declared.pointers.PointerEncoding.TheVariants.{Absolute8, Unsigned4, Signed4, Relative4, Indirect4, Relative8, Indirect8}
use Rattle.cfi_rows.specs.Pointers.{encoding_byte, encoding_of}

pub byte_says : (encoding : PointerEncoding) → encoding_of (encoding_byte encoding) ≡ Some encoding
unfolding encoding_of
byte_says Absolute8 = refl
byte_says Unsigned4 = refl
byte_says Signed4 = refl
byte_says Relative4 = refl
byte_says Indirect4 = refl
byte_says Relative8 = refl
byte_says Indirect8 = refl

-- a line of the table: the number is the byte of its encoding, or a later line says it
line : (number : ℕ) (due encoding : PointerEncoding) (later : Option PointerEncoding) → (later ≡ Some encoding → number ≡ encoding_byte encoding)
    → (if number == encoding_byte due then Some due else later) ≡ Some encoding → number ≡ encoding_byte encoding
line number due encoding later on = by (number == encoding_byte due) refl
  where
    by : (b : Bool) → (number == encoding_byte due) ≡ b → (if b then Some due else later) ≡ Some encoding → number ≡ encoding_byte encoding
    by true same is = eqb-true number (encoding_byte due) same ∙ ap encoding_byte (same_Some due encoding is)
    by false other is = on is

pub said_by_byte : (number : ℕ) (encoding : PointerEncoding) → encoding_of number ≡ Some encoding → number ≡ encoding_byte encoding
unfolding encoding_of
said_by_byte number encoding =
    line number Absolute8 encoding _ (line number Unsigned4 encoding _ (line number Signed4 encoding _ (line number Relative4 encoding _
    (line number Indirect4 encoding _ (line number Relative8 encoding _ (line number Indirect8 encoding None (λ none. absurd (none-some encoding none))))))))
