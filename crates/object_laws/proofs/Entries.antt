-- What is read of the entry of a relocation is what was written.
use Rattle.std.proofs.Common.{◌≡◌, ℕ, ◌+◌, ◌%◌, ◌^◌, ◌<◌, List, [], ◌++◌, length, drop, refl, sym, ap, ◌∙◌, arith, append_assoc, append-nil, length-append}
use Rattle.std.proofs.lemmas.List.{drop_at}
use Rattle.byteorder.specs.Endian.{little_bytes, little_number}
use Rattle.byteorder.specs.Numbers.{length-bytes_low_first, little_number-reads_back}
use Rattle.elf_file.specs.Fields.{word, xword, word_at, xword_at}
use Rattle.elf_file.specs.Reader.{relocation_in}
use Rattle.elf_object.specs.declared.relocations.RelocationKind.{RelocationKind}
use Rattle.elf_object.specs.declared.relocations.RelocationKind.TheVariants.{Direct64, Pc32, Plt32, GotPcRel, Direct32, Signed32, Direct16, Pc16, Direct8, Pc8, GotTpOff, TpOff32, Pc64}
use Rattle.elf_object.specs.Relocations.{kind_number}
use Rattle.object_laws.specs.Entries.{EntriesTellTypes}

-- a number that was written behind other bytes
read_behind : (n x offset : ℕ) (front rest : List ℕ) → length front ≡ offset → x < 256 ^ n → little_number n (drop offset (front ++ (little_bytes n x ++ rest))) ≡ x
read_behind n x offset front rest long low = ap (little_number n) (drop_at front (little_bytes n x ++ rest) offset long) ∙ little_number-reads_back n x rest low

small : (kind : RelocationKind) → kind_number kind < 2 ^ 32
small Direct64 = omega arith
small Pc32 = omega arith
small Plt32 = omega arith
small GotPcRel = omega arith
small Direct32 = omega arith
small Signed32 = omega arith
small Direct16 = omega arith
small Pc16 = omega arith
small Direct8 = omega arith
small Pc8 = omega arith
small GotTpOff = omega arith
small TpOff32 = omega arith
small Pc64 = omega arith

cut : (n : ℕ) → n < 2 ^ 32 → n % 2 ^ 32 ≡ n
cut n low = omega arith

-- four fields, one behind the other
module _ (a b c d : ℕ) where
  abbrev whole : List ℕ
  whole = little_bytes 8 a ++ little_bytes 4 b ++ little_bytes 4 c ++ little_bytes 8 d

  in_front : whole ≡ little_bytes 8 a ++ (little_bytes 4 b ++ (little_bytes 4 c ++ little_bytes 8 d))
  in_front = append_assoc (little_bytes 8 a ++ little_bytes 4 b) (little_bytes 4 c) (little_bytes 8 d)
      ∙ append_assoc (little_bytes 8 a) (little_bytes 4 b) (little_bytes 4 c ++ little_bytes 8 d)

  in_middle : whole ≡ (little_bytes 8 a ++ little_bytes 4 b) ++ (little_bytes 4 c ++ little_bytes 8 d)
  in_middle = append_assoc (little_bytes 8 a ++ little_bytes 4 b) (little_bytes 4 c) (little_bytes 8 d)

  at_end : whole ≡ (little_bytes 8 a ++ little_bytes 4 b ++ little_bytes 4 c) ++ (little_bytes 8 d ++ [])
  at_end = ap (λ (xs : List ℕ). (little_bytes 8 a ++ little_bytes 4 b ++ little_bytes 4 c) ++ xs) (sym (append-nil (little_bytes 8 d)))

  first_two : length (little_bytes 8 a ++ little_bytes 4 b) ≡ 12
  first_two = length-append (little_bytes 8 a) (little_bytes 4 b) ∙ sum (length-bytes_low_first 0 8 a) (length-bytes_low_first 0 4 b)
    where
      sum : {m n : ℕ} → m ≡ 8 → n ≡ 4 → m + n ≡ 12
      sum one two = omega arith

  first_three : length (little_bytes 8 a ++ little_bytes 4 b ++ little_bytes 4 c) ≡ 16
  first_three = length-append (little_bytes 8 a ++ little_bytes 4 b) (little_bytes 4 c) ∙ sum first_two (length-bytes_low_first 0 4 c)
    where
      sum : {m n : ℕ} → m ≡ 12 → n ≡ 4 → m + n ≡ 16
      sum one two = omega arith

  first_read : a < 2 ^ 64 → little_number 8 whole ≡ a
  first_read low = ap (little_number 8) in_front ∙ little_number-reads_back 8 a (little_bytes 4 b ++ (little_bytes 4 c ++ little_bytes 8 d)) low

  second_read : b < 2 ^ 32 → little_number 4 (drop 8 whole) ≡ b
  second_read low = ap (λ (xs : List ℕ). little_number 4 (drop 8 xs)) in_front
      ∙ read_behind 4 b 8 (little_bytes 8 a) (little_bytes 4 c ++ little_bytes 8 d) (length-bytes_low_first 0 8 a) low

  third_read : c < 2 ^ 32 → little_number 4 (drop 12 whole) ≡ c
  third_read low = ap (λ (xs : List ℕ). little_number 4 (drop 12 xs)) in_middle
      ∙ read_behind 4 c 12 (little_bytes 8 a ++ little_bytes 4 b) (little_bytes 8 d) first_two low

  fourth_read : d < 2 ^ 64 → little_number 8 (drop 16 whole) ≡ d
  fourth_read low = ap (λ (xs : List ℕ). little_number 8 (drop 16 xs)) at_end
      ∙ read_behind 8 d 16 (little_bytes 8 a ++ little_bytes 4 b ++ little_bytes 4 c) [] first_three low

pub tell : EntriesTellTypes
unfolding relocation_in word xword word_at xword_at
tell symbol r low first last =
    let kind_so = cut (kind_number r.kind) (small r.kind) in
    let symbol_so = cut symbol low in
    rw (
      kind_so,
      symbol_so,
      first_read r.offset (kind_number r.kind) symbol r.addend first,
      second_read r.offset (kind_number r.kind) symbol r.addend (small r.kind),
      third_read r.offset (kind_number r.kind) symbol r.addend low,
      fourth_read r.offset (kind_number r.kind) symbol r.addend last,
    ) refl
