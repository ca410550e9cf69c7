-- The bytes of an entry tell its range, and lead back to the CIE.
use Rattle.std.proofs.Common.{◌≡◌, ℕ, ◌+◌, ◌-◌, ◌^◌, ◌%◌, ◌<◌, ◌≤◌, ◌&&◌, nat_lt, true, false, cond, List, [], ◌∷◌, ◌++◌, Some, None, length, drop, sym, ap, ◌∙◌, subst, arith, length-append}
use Rattle.std.specs.Prelude.{◌==◌, nat_le, Option, IsSomeAnd}
use Rattle.std.specs.Option.{option_and_then}
use Rattle.std.proofs.lemmas.Bool.Decides.{nat_tests}
use Rattle.asm_expr.specs.Forms.{wrapped}
use Rattle.asm_frags.specs.declared.fields.FieldSize.TheVariants.{Four}
use Rattle.asm_frags.specs.Fields.{low_bytes}
use Rattle.asm_base.specs.declared.places.SectionPlace.{SectionPlace}
use Rattle.cfi_directives.specs.declared.frames.Pointer.{Pointer}
use Rattle.cfi_rows.specs.declared.commons.CommonForm.{CommonForm}
use Rattle.cfi_entries.specs.Entries.{covered, after_back, after_length, entry_of}
use Rattle.cfi_rows.specs.Instructions.{four_bytes_of}
use Rattle.cfi_rows.specs.Pointers.{size_if}
use Rattle.eh_frame.specs.Commons.{encoding_if, with_pointer}
use Rattle.table_pieces.specs.declared.marks.Mark.TheVariants.{Here, At}
use Rattle.table_pieces.specs.Pieces.{Piece, number, pointer, plain}
use Rattle.table_pieces.specs.Made.{Made, pieces_bytes, AreMade}
use Rattle.std.proofs.lemmas.List.{drop_at}
use Rattle.frame_laws.proofs.SplitPointers.{split_pointer}
use Rattle.frame_laws.proofs.FourBytes.{four_long, four_told, four_behind}

-- a number that leads from one place to another is the distance between them
led : (value to from : ℕ) → value < 2 ^ 64 → wrapped (value + from) ≡ wrapped (to + 0) → from ≤ to → to < 2 ^ 32 → value % 2 ^ 32 + from ≡ to
led value to from within leads rises low = omega (arith, within, leads, rises, low)

-- a length counts from behind itself to the end
counted : (value here rest end : ℕ) → value < 2 ^ 64 → wrapped (value + here) ≡ wrapped (end + (2 ^ 64 - 4)) → end ≡ here + (4 + rest) → end < 2 ^ 32
    → value % 2 ^ 32 ≡ rest
counted value here rest end within leads ends low = omega (arith, within, leads, ends, low)

module _ (form : CommonForm) (one two three four : ℕ) (lsda code : List ℕ) (sized : length lsda ≡ size_if form.lsda) where
  abbrev last : List ℕ
  last = low_bytes Four four ++ (size_if form.lsda ∷ (lsda ++ code))

  abbrev third : List ℕ
  third = low_bytes Four three ++ last

  abbrev second : List ℕ
  second = low_bytes Four two ++ third

  -- the pointer to the LSDA is passed over
  lsda_passed : covered form (four % 2 ^ 32, size_if form.lsda ∷ (lsda ++ code)) ≡ Some (four % 2 ^ 32, code)
  lsda_passed =
      let long = length-append lsda code in
      let fits : size_if form.lsda ≤ length (lsda ++ code) = omega (arith, long, sized) in
      let test : ((size_if form.lsda == size_if form.lsda) && nat_le (size_if form.lsda) (length (lsda ++ code))) ≡ true = grind (arith, nat_tests) in
      ap (λ b. cond b (Some (four % 2 ^ 32, drop (size_if form.lsda) (lsda ++ code))) None) test
      ∙ ap (λ (code : List ℕ). Some (four % 2 ^ 32, code)) (drop_at lsda code (size_if form.lsda) sized)

  -- a length that counts what follows, and a distance back that is not 0, are those of an entry
  entry_is : one % 2 ^ 32 ≡ length second → length second < 0xfffffff0 → (two % 2 ^ 32 == 0) ≡ false
      → entry_of form (low_bytes Four one ++ second) ≡ Some (four % 2 ^ 32, code)
  entry_is count low back =
      let test : ((one % 2 ^ 32 == length second) && nat_lt (one % 2 ^ 32) 0xfffffff0) ≡ true = grind (arith, nat_tests) in
      ap (option_and_then (after_length form)) (four_told one second)
      ∙ ap (λ b. cond b (option_and_then (after_back form) (four_bytes_of second)) None) test
      ∙ ap (option_and_then (after_back form)) (four_told two third)
      ∙ ap (λ b. cond b None (option_and_then (λ (first : ℕ × List ℕ). option_and_then (covered form) (four_bytes_of first.1)) (four_bytes_of third))) back
      ∙ ap (option_and_then (λ (first : ℕ × List ℕ). option_and_then (covered form) (four_bytes_of first.1))) (four_told three last)
      ∙ ap (option_and_then (covered form)) (four_told four (size_if form.lsda ∷ (lsda ++ code)))
      ∙ lsda_passed

module _ (address : SectionPlace → ℕ) (end common start stop : SectionPlace) (form : CommonForm) (lsda : Option Pointer) (same : form.lsda ≡ encoding_if lsda)
    (pieces : List Piece) where
  abbrev entry : List Piece
  entry =
      number (record { to = At end; from = Here; plus = 2 ^ 64 - 4 }) ∷ number (record { to = Here; from = At common; plus = 0 }) ∷ pointer start
      ∷ number (record { to = At stop; from = At start; plus = 0 }) ∷ plain (size_if form.lsda ∷ []) ∷ with_pointer lsda pieces

  -- what an entry tells: its range, and the distance back
  pub record Tells (here : ℕ) (bytes : List ℕ) : Type 0 where
    pub whole : IsSomeAnd (entry_of form bytes) (λ read. read.0 ≡ address stop - address start)
    pub back : IsSomeAnd (four_bytes_of (drop 4 bytes)) (λ read. read.0 + address common ≡ here + 4)

  pub entry_tells : (here : ℕ) (mades : List Made) → AreMade address here entry mades → address common ≤ here
      → address end ≡ here + length (pieces_bytes entry mades) → address end < 2 ^ 31 → address start ≤ address stop → address stop < 2 ^ 32
      → Tells here (pieces_bytes entry mades)
  entry_tells here [] made behind ends low rises small = absurd made
  entry_tells here (one ∷ []) made behind ends low rises small = absurd made.1
  entry_tells here (one ∷ two ∷ []) made behind ends low rises small = absurd made.1.1
  entry_tells here (one ∷ two ∷ three ∷ []) made behind ends low rises small = absurd made.1.1.1
  entry_tells here (one ∷ two ∷ three ∷ four ∷ []) made behind ends low rises small = absurd made.1.1.1.1
  entry_tells here (one ∷ two ∷ three ∷ four ∷ five ∷ mades) made behind ends low rises small =
      let split = split_pointer address _ lsda pieces mades made.1.1.1.1.1 in
      let sized : length split.bytes ≡ size_if form.lsda = split.sized ∙ ap size_if (sym same) in
      let code = pieces_bytes pieces split.later in
      let rest = second form one.value two.value three.value four.value split.bytes code sized in
      let all : pieces_bytes entry (one ∷ two ∷ three ∷ four ∷ five ∷ mades) ≡ low_bytes Four one.value ++ rest =
      ap (λ bytes. low_bytes Four one.value ++ (low_bytes Four two.value ++ (low_bytes Four three.value ++ (low_bytes Four four.value ++ (size_if form.lsda ∷ bytes))))) split.all in
      let long : length (pieces_bytes entry (one ∷ two ∷ three ∷ four ∷ five ∷ mades)) ≡ 4 + length rest =
      ap length all ∙ length-append (low_bytes Four one.value) rest ∙ ap (λ n. n + length rest) (four_long one.value) in
      let ending : address end ≡ here + (4 + length rest) = omega (arith, ends, long) in
      let count = counted one.value here (length rest) (address end) made.0.within made.0.spans ending (omega (arith, low)) in
      let next : here + length (low_bytes Four one.value) ≡ here + 4 = (let size = four_long one.value in omega (arith, size)) in
      let leads : wrapped (two.value + address common) ≡ wrapped (here + 4 + 0) =
      subst (λ (at : ℕ). wrapped (two.value + address common) ≡ wrapped (at + 0)) next made.1.0.spans in
      let back = led two.value (here + 4) (address common) made.1.0.within leads (omega (arith, behind)) (omega (arith, ending, low)) in
      let range = led four.value (address stop) (address start) made.1.1.1.0.within made.1.1.1.0.spans rises small in
      let apart : (two.value % 2 ^ 32 == 0) ≡ false = grind (arith, nat_tests) in
      record {
        whole = subst (λ found. IsSomeAnd found (λ read. read.0 ≡ address stop - address start))
            (sym (ap (entry_of form) all ∙ entry_is form one.value two.value three.value four.value split.bytes code sized count (omega (arith, ending, low)) apart)) (omega (arith, range));
        back = subst (λ found. IsSomeAnd found (λ read. read.0 + address common ≡ here + 4))
            (sym (ap (λ bytes. four_bytes_of (drop 4 bytes)) all ∙ ap four_bytes_of (four_behind one.value rest)
            ∙ four_told two.value (third form one.value two.value three.value four.value split.bytes code sized))) back;
      }
