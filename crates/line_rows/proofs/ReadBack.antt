-- What is written steps as it was meant.
use Rattle.std.proofs.Common.{◌≡◌, ℕ, zero, suc, ◌+◌, ◌-◌, ◌*◌, ◌/◌, ◌%◌, ◌^◌, ◌<◌, ◌≤◌, ℤ, pos, negsuc, neg_ℤ, ◌≤ℤ◌, ◌<ℤ◌, Bool, true, false, length, take, drop, List, [], ◌∷◌, ◌++◌, None, Some, nat_lt, nat_le, ◌&&◌, if◌then◌else◌, refl, sym, ◌∙◌, ap, arith}
use Rattle.std.proofs.Math.Seq.{take-append_seam, drop-append_seam}
use Rattle.std.proofs.lemmas.List.{length-append, append-nil}
use Rattle.std.specs.Option.{option_map, option_and_then}
use Rattle.line_rows.specs.declared.rows.LineOp.{LineOp}
use Rattle.line_rows.specs.declared.rows.LineOp.TheVariants.{Copy, AdvancePc, AdvanceLine, SetFile, SetColumn, NegateStmt, SetBasicBlock, SetPrologueEnd, SetEpilogueBegin, SetIsa, EndSequence, SetAddress, SetDiscriminator}
use Rattle.leb128.specs.Digits.{uleb_digits, uleb_bytes, sleb_bytes}
use Rattle.leb128.specs.Numbers.{IsSigned64, NumbersReadBack}
use Rattle.leb128.specs.Reading.{uleb, uleb_above}
use Rattle.line_rows.specs.Ops.{next, of_length, extended, first_standard, second_standard, address_of, four_bytes_of}
use Rattle.line_rows.specs.Writing.{word_then}
use Rattle.line_rows.proofs.Comparisons.{is_below}

-- a number in one byte
uleb_one : (byte : ℕ) (rest : List ℕ) → byte < 128 → uleb (byte ∷ rest) ≡ Some (byte, rest)
uleb_one byte rest small = ap (λ b. if b then Some (byte, rest) else option_and_then (uleb_above byte) (uleb rest)) (is_below byte 128 small)

-- a code and its operands are this operation's, whatever follows them
abbrev pub IsCode : LineOp → ℕ → List ℕ → Type 0
IsCode op code operands = (rest : List ℕ) → next (code ∷ (operands ++ rest)) ≡ Some (op, rest)

pub copy_reads : IsCode Copy 0x01 []
unfolding first_standard
copy_reads rest = refl

pub advance_reads : (digits : List ℕ) (number : ℕ) → ((rest : List ℕ) → uleb (digits ++ rest) ≡ Some (number, rest)) → IsCode (AdvancePc number) 0x02 digits
unfolding first_standard
advance_reads digits number reads rest = ap (option_map (λ n. (AdvancePc n.0, n.1))) (reads rest)

pub line_reads : (numbers : NumbersReadBack) (number : ℤ) → IsSigned64 number → IsCode (AdvanceLine number) 0x03 (sleb_bytes number)
unfolding first_standard
line_reads numbers number short rest = ap (option_map (λ n. (AdvanceLine n.0, n.1))) (numbers.signed number rest short)

pub file_reads : (numbers : NumbersReadBack) (number : ℕ) → number < 2 ^ 64 → IsCode (SetFile number) 0x04 (uleb_bytes number)
unfolding first_standard
file_reads numbers number fits rest = ap (option_map (λ n. (SetFile n.0, n.1))) (numbers.unsigned number rest fits)

pub column_reads : (numbers : NumbersReadBack) (number : ℕ) → number < 2 ^ 64 → IsCode (SetColumn number) 0x05 (uleb_bytes number)
unfolding first_standard
column_reads numbers number fits rest = ap (option_map (λ n. (SetColumn n.0, n.1))) (numbers.unsigned number rest fits)

pub negate_reads : IsCode NegateStmt 0x06 []
unfolding second_standard
negate_reads rest = refl

pub block_reads : IsCode SetBasicBlock 0x07 []
unfolding second_standard
block_reads rest = refl

pub prologue_reads : IsCode SetPrologueEnd 0x0a []
unfolding second_standard
prologue_reads rest = refl

pub epilogue_reads : IsCode SetEpilogueBegin 0x0b []
unfolding second_standard
epilogue_reads rest = refl

pub isa_reads : (numbers : NumbersReadBack) (number : ℕ) → number < 2 ^ 64 → IsCode (SetIsa number) 0x0c (uleb_bytes number)
unfolding second_standard
isa_reads numbers number fits rest = ap (option_map (λ n. (SetIsa n.0, n.1))) (numbers.unsigned number rest fits)

-- an extended opcode behind its length
extended_reads : (op : LineOp) (size code : ℕ) (operands : List ℕ) → size ≡ length operands + 1 → size < 128 → extended code operands ≡ Some op
    → IsCode op 0x00 (size ∷ code ∷ operands)
extended_reads op size code operands counts short is rest =
    ap (option_and_then of_length) (uleb_one size (code ∷ (operands ++ rest)) short)
    ∙ ap (λ b. if b then option_map (λ op. (op, drop (size - 1) (operands ++ rest))) (extended code (take (size - 1) (operands ++ rest))) else None)
    (let long : length (operands ++ rest) ≡ length operands + length rest = length-append operands rest in
    let fits : (nat_lt 0 size && nat_le size (length (operands ++ rest) + 1)) ≡ true = grind (arith, counts, long) in fits)
    ∙ ap (λ n. option_map (λ op. (op, drop n (operands ++ rest))) (extended code (take n (operands ++ rest))))
    (let less : size - 1 ≡ length operands = omega (arith, counts) in less)
    ∙ ap (λ front. option_map (λ op. (op, drop (length operands) (operands ++ rest))) (extended code front)) (take-append_seam operands rest)
    ∙ ap (λ tail. option_map (λ op. (op, tail)) (extended code operands)) (drop-append_seam operands rest)
    ∙ ap (option_map (λ op. (op, rest))) is

pub end_reads : IsCode EndSequence 0x00 (0x01 ∷ 0x01 ∷ [])
unfolding extended
end_reads = extended_reads EndSequence 1 1 [] refl (omega arith) refl

-- a number in four bytes
pub word_reads : (number : ℕ) (rest : List ℕ) → number < 2 ^ 32 → four_bytes_of (word_then number rest) ≡ Some (number, rest)
word_reads number rest fits =
    ap (λ n. Some (n, rest))
    (let same : number % 256 + number / 256 % 256 * 256 + number / 65536 % 256 * 65536 + number / 16777216 * 16777216 ≡ number = omega arith in same)

address_is : (address : ℕ) → address < 2 ^ 64 → address_of (word_then (address % 2 ^ 32) (word_then (address / 2 ^ 32) [])) ≡ Some (SetAddress address)
address_is address fits =
    ap (option_and_then (λ low. option_map (λ high. SetAddress (low.0 + high.0 * 2 ^ 32)) (four_bytes_of low.1)))
    (word_reads (address % 2 ^ 32) (word_then (address / 2 ^ 32) []) (omega arith))
    ∙ ap (option_map (λ high. SetAddress (address % 2 ^ 32 + high.0 * 2 ^ 32))) (word_reads (address / 2 ^ 32) [] (omega arith))
    ∙ ap (λ n. Some (SetAddress n)) (let same : address % 2 ^ 32 + address / 2 ^ 32 * 2 ^ 32 ≡ address = omega arith in same)

pub address_reads : (address : ℕ) → address < 2 ^ 64
    → IsCode (SetAddress address) 0x00 (0x09 ∷ 0x02 ∷ word_then (address % 2 ^ 32) (word_then (address / 2 ^ 32) []))
unfolding extended
address_reads address fits =
    extended_reads (SetAddress address) 9 2 (word_then (address % 2 ^ 32) (word_then (address / 2 ^ 32) [])) refl (omega arith) (address_is address fits)

-- at most so many digits
few_if : (more number : ℕ) (b : Bool) → length (uleb_digits more (number / 128)) ≤ suc more
    → length (if b then number ∷ [] else (128 + number % 128) ∷ uleb_digits more (number / 128)) ≤ suc (suc more)
few_if more number true few = omega arith
few_if more number false few = omega (arith, few)

digits_few : (more number : ℕ) → length (uleb_digits more number) ≤ suc more
digits_few zero number = omega arith
digits_few (suc more) number = few_if more number (nat_lt number 128) (digits_few more (number / 128))

bytes_few : (number : ℕ) → length (uleb_bytes number) + 1 < 128
unfolding uleb_bytes
bytes_few number = let few = digits_few 9 number in omega (arith, few)

pub discriminator_reads : (numbers : NumbersReadBack) (number : ℕ) → number < 2 ^ 64 → IsCode (SetDiscriminator number) 0x00 ((length (uleb_bytes number) + 1) ∷ 0x04 ∷ uleb_bytes number)
unfolding extended
discriminator_reads numbers number fits =
    extended_reads (SetDiscriminator number) (length (uleb_bytes number) + 1) 4 (uleb_bytes number) refl (bytes_few number)
    (ap (option_map (λ n. SetDiscriminator n.0)) (ap uleb (sym (append-nil (uleb_bytes number))) ∙ numbers.unsigned number [] fits))

-- a line's step is short
pub short_of : (step : ℤ) → neg_ℤ (pos (2 ^ 63)) ≤ℤ step → step <ℤ pos (2 ^ 63) → IsSigned64 step
short_of (pos number) low high = let short : number < 2 ^ 63 = grind arith in short
short_of (negsuc number) low high = let short : number < 2 ^ 63 = grind arith in short
