-- Pieces, and units that are repeated, in blocks.
use Rattle.std.proofs.Common.{◌≡◌, ℕ, zero, suc, ◌+◌, ◌-◌, ◌*◌, ◌/◌, ◌%◌, ◌<◌, ◌≤◌, Option, None, Some, IfSome, List, [], ◌∷◌, ◌++◌, length, take, get_or, replicate, refl, ap, sym, ◌∙◌, arith, append_assoc, append-nil, length-append, drop}
use Rattle.std.proofs.Math.Nat.{lt-div-mul-add, mod-lt, mul-le-mul_right}
use Rattle.std.proofs.Math.Seq.{take-append_seam}
use Rattle.std.proofs.lemmas.List.{length-take-le, take-take}
use Rattle.std.proofs.lemmas.Nat.{div-add-mod'}
use Rattle.item_contents.specs.Contents.{repeated}
use Rattle.elf_file.specs.declared.file_pieces.Piece.{Piece}
use Rattle.elf_file.specs.Pieces.{piece_bytes, flat}
use Rattle.elf_file.proofs.Repeats.{length-repeated, repeated_sum, repeated_alone}

-- a piece more
pub flat_push : (pieces : List Piece) (piece : Piece) → flat (pieces ++ piece ∷ []) ≡ flat pieces ++ piece_bytes piece
flat_push [] piece = append-nil (piece_bytes piece)
flat_push (first ∷ pieces) piece =
    ap (λ (xs : List ℕ). piece_bytes first ++ xs) (flat_push pieces piece) ∙ sym (append_assoc (piece_bytes first) (flat pieces) (piece_bytes piece))

-- count and size of the units give the length of a repetition
pub product_long : (made : Option ℕ) (count size : ℕ) (unit held : List ℕ) → repeated count (take size unit) ≡ held → size ≤ length unit
    → IfSome made (λ n. n ≡ count * size) → IfSome made (λ n. n ≡ length held)
product_long None count size unit held is fits product = product
product_long (Some n) count size unit held is fits product =
    product ∙ ap (λ m. count * m) (sym (length-take-le size unit fits)) ∙ sym (length-repeated count (take size unit)) ∙ ap (λ xs. length xs) is

-- two sizes give the length of both
pub sum_long : (made : Option ℕ) (one other first second all : ℕ) → one ≡ first → other ≡ second → all ≡ first + second
    → IfSome made (λ n. n ≡ one + other) → IfSome made (λ n. n ≡ all)
sum_long None one other first second all is also whole sum = tt
sum_long (Some n) one other first second all is also whole sum = omega arith

-- a block of one byte is units of it
pub filled_alone : (n count : ℕ) (block unit : List ℕ) → length unit ≡ 1 → n ≡ count * length unit → block ≡ replicate n (get_or unit 0 0) → block ≡ repeated count unit
filled_alone n count block unit alone long is =
    let same : n ≡ count = long ∙ ap (λ m. count * m) alone ∙ (let e : count * 1 ≡ count = omega arith in e) in
    is ∙ repeated_alone n unit alone ∙ ap (λ m. repeated m unit) same

-- a block of one unit
pub filled_once : (count : ℕ) (block unit : List ℕ) → count ≡ 1 → block ≡ unit → block ≡ repeated count unit
unfolding repeated
filled_once count block unit once is = rw once (is ∙ sym (append-nil unit))

-- blocks of units are so many units
repeated_blocks : (blocks size : ℕ) (unit : List ℕ) → repeated blocks (repeated size unit) ≡ repeated (blocks * size) unit
unfolding repeated
repeated_blocks zero size unit = let none : zero * size ≡ zero = omega arith in rw none refl
repeated_blocks (suc blocks) size unit =
    let next : suc blocks * size ≡ size + blocks * size = omega arith in
    rw next (ap (λ (bytes : List ℕ). repeated size unit ++ bytes) (repeated_blocks blocks size unit) ∙ sym (repeated_sum size (blocks * size) unit))

-- the front of a repetition is one of fewer units
front_units : (few units : ℕ) (unit : List ℕ) → few ≤ units → take (few * length unit) (repeated units unit) ≡ repeated few unit
front_units few units unit fewer =
    let split : units ≡ few + (units - few) = omega arith in
    let long : few * length unit ≡ length (repeated few unit) = sym (length-repeated few unit) in
    ap (λ n. take n (repeated units unit)) long ∙ ap (λ n. take (length (repeated few unit)) (repeated n unit)) split
    ∙ ap (λ xs. take (length (repeated few unit)) xs) (repeated_sum few (units - few) unit)
    ∙ take-append_seam (repeated few unit) (repeated (units - few) unit)

-- units in front are copied behind themselves
pub doubled : (done more front size : ℕ) (unit block new : List ℕ) → front ≡ done * length unit → size ≡ more * length unit → more ≤ done
    → take front block ≡ repeated done unit → new ≡ take front block ++ (take size block ++ drop (front + size) block)
    → take ((done + more) * length unit) new ≡ repeated (done + more) unit
doubled done more front size unit block new begins adds few stand is =
    let all = repeated (done + more) unit in
    let rest = drop (front + size) block in
    let below : more * length unit ≤ done * length unit = mul-le-mul_right (length unit) few in
    let within : size ≤ front = rw (begins, adds) below in
    let copy : take size block ≡ repeated more unit =
    sym (take-take size front block within) ∙ ap (take size) stand ∙ ap (λ n. take n (repeated done unit)) adds ∙ front_units more done unit few in
    let text : new ≡ all ++ rest =
    is ∙ ap (λ (xs : List ℕ). xs ++ (take size block ++ rest)) stand ∙ ap (λ (xs : List ℕ). repeated done unit ++ (xs ++ rest)) copy
    ∙ sym (append_assoc (repeated done unit) (repeated more unit) rest) ∙ ap (λ (xs : List ℕ). xs ++ rest) (sym (repeated_sum done more unit)) in
    ap (λ n. take n new) (sym (length-repeated (done + more) unit)) ∙ ap (take (length all)) text ∙ take-append_seam all rest

-- one unit in front
pub first_unit : (unit block : List ℕ) → take (length unit) block ≡ unit → take (1 * length unit) block ≡ repeated 1 unit
unfolding repeated
first_unit unit block is =
    let once : 1 * length unit ≡ length unit = omega arith in
    ap (λ n. take n block) once ∙ is ∙ sym (append-nil unit)

-- units that are there have room in a block of more units
pub units_fit : (done more count : ℕ) (unit block : List ℕ) → done + more ≤ count → length block ≡ count * length unit → done * length unit + more * length unit ≤ length block
units_fit done more count unit block few long =
    let below : (done + more) * length unit ≤ count * length unit = mul-le-mul_right (length unit) few in
    let split : (done + more) * length unit ≡ done * length unit + more * length unit =
    sym (length-repeated (done + more) unit) ∙ ap length (repeated_sum done more unit) ∙ length-append (repeated done unit) (repeated more unit)
    ∙ ap (λ n. n + length (repeated more unit)) (length-repeated done unit) ∙ ap (λ n. done * length unit + n) (length-repeated more unit) in
    omega arith

-- one unit stands between those before it and those behind it
pub repeated_cut : (i count : ℕ) (unit : List ℕ) → i < count → repeated count unit ≡ repeated i unit ++ (unit ++ repeated (count - (i + 1)) unit)
unfolding repeated
repeated_cut i count unit inside =
    let split : count ≡ i + suc (count - (i + 1)) = omega arith in
    ap (λ n. repeated n unit) split ∙ repeated_sum i (suc (count - (i + 1))) unit

-- a repetition is blocks of whole units, and then the front of a block
pub in_blocks : (count units size width : ℕ) (unit block : List ℕ) → 0 < units → width ≡ length unit → size ≡ units * length unit → take size block ≡ repeated units unit
    → repeated count unit ≡ repeated (count / units) (take size block) ++ take (count % units * width) block
in_blocks count units size width unit block some wide long is =
    let last = count % units in
    let fewer : last < units = mod-lt count some in
    let few : last ≤ units = omega arith in
    let within : last * length unit ≤ units * length unit = mul-le-mul_right (length unit) few in
    let below : last * length unit ≤ size = rw long within in
    let front : take (last * width) block ≡ repeated last unit =
    ap (λ n. take (last * n) block) wide ∙ sym (take-take (last * length unit) size block below) ∙ ap (take (last * length unit)) is ∙ front_units last units unit few in
    let all : count ≡ count / units * units + last = sym (div-add-mod' count units) in
    ap (λ n. repeated n unit) all ∙ repeated_sum (count / units * units) last unit
    ∙ ap (λ xs. xs ++ repeated last unit) (sym (repeated_blocks (count / units) units unit))
    ∙ ap (λ xs. repeated (count / units) xs ++ repeated last unit) (sym is) ∙ ap (λ xs. repeated (count / units) (take size block) ++ xs) (sym front)

some_units : (units size room : ℕ) → room < units * size + size → size ≤ room → 0 < units
some_units zero size room below few =
    let none : zero * size ≡ zero = omega arith in
    absurd (omega arith)
some_units (suc units) size room below few = omega arith

-- a block that begins with whole units gives the repetition
pub units_filled : (count size : ℕ) (unit block front rest : List ℕ) → 0 < size → size ≤ 10 → 10 ≤ length block → length unit ≡ size
    → (let units = length block / size in front ≡ repeated units unit
    → repeated count unit ≡ repeated (count / units) (take (units * size) (front ++ rest)) ++ take (count % units * size) (front ++ rest))
units_filled count size unit block front rest some short room long is =
    let units = length block / size in
    let there : 0 < units = some_units units size (length block) (lt-div-mul-add some) (omega arith) in
    let wide : length front ≡ units * size = ap length is ∙ length-repeated units unit ∙ ap (λ n. units * n) long in
    let filled : take (units * size) (front ++ rest) ≡ repeated units unit = ap (λ n. take n (front ++ rest)) (sym wide) ∙ take-append_seam front rest ∙ is in
    in_blocks count units (units * size) size unit (front ++ rest) there (sym long) (ap (λ n. units * n) (sym long)) filled
