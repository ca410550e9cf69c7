-- A signed number's bytes from the last one back.
use Rattle.std.proofs.Common.{◌≡◌, ℕ, zero, suc, ◌+◌, ◌-◌, ◌<◌, ◌≤◌, ℤ, pos, ◌-ℤ◌, nat_lt, length, List, [], ◌∷◌, drop, slice_index, None, Some, if◌then◌else◌, refl, ◌∙◌, ap, arith}
use Rattle.std.specs.Option.{option_map, option_and_then}
use Rattle.leb128.specs.Reading.{sleb, sleb_above, value_above}
use Rattle.leb128.proofs.ReadingLemmas.{is_below, is_from}
use Rattle.leb128.proofs.LongLemmas.{at_suc}

sleb_on : (byte : ℕ) (rest : List ℕ) → 128 ≤ byte → sleb (byte ∷ rest) ≡ option_and_then (sleb_above byte) (sleb rest)
sleb_on byte rest long =
    ap (λ b. if b then Some (pos byte, rest) else (if nat_lt byte 128 then Some (pos byte -ℤ pos 128, rest) else option_and_then (sleb_above byte) (sleb rest))) (is_from byte 64 (omega arith))
    ∙ ap (λ b. if b then Some (pos byte -ℤ pos 128, rest) else option_and_then (sleb_above byte) (sleb rest)) (is_from byte 128 long)

next_index : (i : ℕ) → suc i ≡ i + 1
next_index i = omega arith

unread : (i : ℕ) (bytes : List ℕ) → ((j : ℕ) → j < i → 128 ≤ slice_index bytes j) → i ≤ length bytes → sleb (drop i bytes) ≡ None → sleb bytes ≡ None
unread zero bytes long fits reads = reads
unread (suc i) [] long fits reads = refl
unread (suc i) (byte ∷ bytes) long fits reads =
    sleb_on byte bytes (long 0 (omega arith))
    ∙ ap (option_and_then (sleb_above byte)) (unread i bytes (λ j below. long (suc j) (omega arith)) (omega arith) reads)

up : (byte : ℕ) (rest : List ℕ) → byte < 64 → sleb (byte ∷ rest) ≡ Some (pos byte, rest)
up byte rest low = grind (arith, is_below byte 64 low)

down : (byte : ℕ) (rest : List ℕ) → 64 ≤ byte → byte < 128 → sleb (byte ∷ rest) ≡ Some (pos byte -ℤ pos 128, rest)
down byte rest low high =
    ap (λ b. if b then Some (pos byte, rest) else (if nat_lt byte 128 then Some (pos byte -ℤ pos 128, rest) else option_and_then (sleb_above byte) (sleb rest))) (is_from byte 64 low)
    ∙ ap (λ b. if b then Some (pos byte -ℤ pos 128, rest) else option_and_then (sleb_above byte) (sleb rest)) (is_below byte 128 high)

pub ends_up : (i : ℕ) (bytes : List ℕ) → i < length bytes → slice_index bytes i < 64 → sleb (drop i bytes) ≡ Some (pos (slice_index bytes i), drop (i + 1) bytes)
ends_up i bytes fits low =
    ap sleb (at_suc i bytes fits) ∙ up (slice_index bytes i) (drop (suc i) bytes) low
    ∙ ap (λ k. Some (pos (slice_index bytes i), drop k bytes)) (next_index i)

pub ends_down : (i : ℕ) (bytes : List ℕ) → i < length bytes → 64 ≤ slice_index bytes i → slice_index bytes i < 128
    → sleb (drop i bytes) ≡ Some (pos (slice_index bytes i) -ℤ pos 128, drop (i + 1) bytes)
ends_down i bytes fits low high =
    ap sleb (at_suc i bytes fits) ∙ down (slice_index bytes i) (drop (suc i) bytes) low high
    ∙ ap (λ k. Some (pos (slice_index bytes i) -ℤ pos 128, drop k bytes)) (next_index i)

back : (end done : ℕ) (value : ℤ) (bytes tail : List ℕ) → done < end → end < length bytes → ((j : ℕ) → j < end → 128 ≤ slice_index bytes j)
    → sleb (drop (end - done) bytes) ≡ Some (value, tail)
    → sleb (drop (end - 1 - done) bytes) ≡ sleb_above (slice_index bytes (end - 1 - done)) (value, tail)
back end done value bytes tail less fits long reads =
    ap sleb (at_suc (end - 1 - done) bytes (omega arith))
    ∙ sleb_on (slice_index bytes (end - 1 - done)) (drop (suc (end - 1 - done)) bytes) (long (end - 1 - done) (omega arith))
    ∙ ap (λ k. option_and_then (sleb_above (slice_index bytes (end - 1 - done))) (sleb (drop k bytes))) (let same : suc (end - 1 - done) ≡ end - done = omega arith in same)
    ∙ ap (option_and_then (sleb_above (slice_index bytes (end - 1 - done)))) reads

pub goes_on : (end done : ℕ) (value new : ℤ) (bytes tail : List ℕ) → done < end → end < length bytes → ((j : ℕ) → j < end → 128 ≤ slice_index bytes j)
    → value_above (slice_index bytes (end - 1 - done)) value ≡ Some new → sleb (drop (end - done) bytes) ≡ Some (value, tail)
    → sleb (drop (end - (done + 1)) bytes) ≡ Some (new, tail)
goes_on end done value new bytes tail less fits long gives reads =
    ap (λ k. sleb (drop k bytes)) (let same : end - (done + 1) ≡ end - 1 - done = omega arith in same)
    ∙ back end done value bytes tail less fits long reads
    ∙ ap (option_map (λ z. (z, tail))) gives

pub gives_up : (end done : ℕ) (value : ℤ) (bytes tail : List ℕ) → done < end → end < length bytes → ((j : ℕ) → j < end → 128 ≤ slice_index bytes j)
    → value_above (slice_index bytes (end - 1 - done)) value ≡ None → sleb (drop (end - done) bytes) ≡ Some (value, tail) → sleb bytes ≡ None
gives_up end done value bytes tail less fits long gives reads =
    unread (end - 1 - done) bytes (λ j below. long j (omega arith)) (omega arith)
    (back end done value bytes tail less fits long reads
    ∙ ap (option_map (λ z. (z, tail))) gives)

none_left : (bytes : List ℕ) → sleb (drop (length bytes) bytes) ≡ None
none_left [] = refl
none_left (byte ∷ bytes) = none_left bytes

pub never_ends : (end : ℕ) (bytes : List ℕ) → end ≡ length bytes → ((j : ℕ) → j < end → 128 ≤ slice_index bytes j) → sleb bytes ≡ None
never_ends end bytes all long = unread end bytes long (omega arith) (ap (λ k. sleb (drop k bytes)) all ∙ none_left bytes)
