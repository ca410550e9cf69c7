-- Two listings of one byte string.
use Rattle.std.proofs.Common.{◌≡◌, ℕ, ◌+◌, ◌<◌, ◌≤◌, List, [], ◌∷◌, ◌++◌, Option, None, Some, option_map, map, length, take, drop, refl, sym, ap, ap₂, ◌∙◌, subst, arith}
use Rattle.x86_decode.specs.declared.fronts.Front.{Front}
use Rattle.x86_decode.specs.Decoding.{Front as Decoded, Begins, Decodes}
use Rattle.x86_decode.specs.Views.{IsOfRow, shown_front}
use Rattle.listings.specs.Lines.{Line, IsLineAt, AreLines, line_length}
use Rattle.listings.specs.Listings.{IsListing, OneListing, Shown, shown_line}

-- bytes have one instruction
one_answer : (bytes : List ℕ) (one other : Option Decoded) → Decodes bytes one → Decodes bytes other → one ≡ other
one_answer bytes None None first second = refl
one_answer bytes None (Some front) first second = first.found front (second.reads front refl)
one_answer bytes (Some front) other first second = sym (second.found front (first.reads front refl))

-- so many bytes
abbrev shown_length : Option Decoded → ℕ
shown_length None = 1
shown_length (Some front) = front.len

length_shown : (front : Option Front) → line_length front ≡ shown_length (option_map shown_front front)
length_shown None = refl
length_shown (Some front) = refl

-- an offset has one line
one_line : (bytes : List ℕ) (at : ℕ) (line other : Line) → IsLineAt bytes at line → IsLineAt bytes at other → shown_line line ≡ shown_line other
one_line bytes at line other first second =
    let insn : option_map shown_front line.front ≡ option_map shown_front other.front =
    one_answer (drop at bytes) (option_map shown_front line.front) (option_map shown_front other.front) first.decodes second.decodes in
    let len : line_length line.front ≡ line_length other.front =
    length_shown line.front ∙ ap shown_length insn ∙ sym (length_shown other.front) in
    let own : line.bytes ≡ other.bytes = first.bytes ∙ ap (λ n. take n (drop at bytes)) len ∙ sym second.bytes in
    let place : line.offset ≡ other.offset = first.offset ∙ sym second.offset in
    cc

one_from : (bytes : List ℕ) (at : ℕ) (lines others : List Line) (end : ℕ) → AreLines bytes at lines end → AreLines bytes at others (length bytes)
    → map shown_line lines ≡ take (length lines) (map shown_line others)
one_from bytes at [] others end first second = refl
one_from bytes at (line ∷ lines) [] end first second = let inside = first.0.within in absurd (omega arith)
one_from bytes at (line ∷ lines) (other ∷ others) end first second =
    let same : shown_line line ≡ shown_line other = one_line bytes at line other first.0 second.0 in
    let long : length line.bytes ≡ length other.bytes = ap (λ shown. length shown.bytes) same in
    let rest : AreLines bytes (at + length line.bytes) others (length bytes) =
    subst (λ n. AreLines bytes (at + n) others (length bytes)) (sym long) second.1 in
    ap₂ (λ l ls. l ∷ ls) same (one_from bytes (at + length line.bytes) lines others end first.1 rest)

pub one_listing : OneListing
one_listing bytes lines others end first second = one_from bytes 0 lines others end first second
