-- What the encoding makes of an instruction: in the row's order, in the other one, and of both.
use Rattle.std.proofs.Common.{◌≡◌, ◌-◌, ◌∙◌, if◌then◌else◌, Bool, List, None, Option, Some, ap, false, option_map, refl, subst, sym, true, ℕ}
use Rattle.x86_table.specs.declared.forms.Row.{Row}
use Rattle.x86_table.specs.declared.parts.Parts.{Parts}
use Rattle.x86_table.specs.declared.parts.Place.{Place}
use Rattle.x86_table.specs.declared.parts.Place.TheVariants as place
use Rattle.x86_parts.specs.declared.found.Found.{Found}
use Rattle.x86_encode.specs.declared.making.Made.{Made}
use Rattle.x86_parts.specs.declared.encoded.Field.{Field}
use Rattle.x86_insn.specs.Views.{View}
use Rattle.x86_table.specs.Bytes.{bytes_of}
use Rattle.x86_table.specs.Fields.{Location, nowhere, direct, from_rip, bare, based, Fields, located, fields_of}
use Rattle.x86_table.specs.Rows.{the_rows}
use Rattle.x86_parts.specs.Building.{built}
use Rattle.x86_parts.specs.Codes.{HasNoOrderedCode}
use Rattle.x86_encode.specs.Exchanges.{turned, exchanges}
use Rattle.x86_parts.specs.Filling.{Coding, moved_field, held_field, in_memory, holds_number}
use Rattle.x86_parts.specs.Keys.{immediate_length}
use Rattle.x86_encode.specs.Encoding.{RowAt, size_by, shortest_row, RowCoding, turned_field, position_of, coding_by, coding_at, ordered_coding, turned_coding, is_earlier, earlier, own_coding, other_coding, coding_of, made_at, MakesAs}
use Rattle.x86_encode.proofs.Filled.{taking_fills, taking_notes}
use Rattle.x86_encode.proofs.Positions.{moved_placed, held_placed}
use Rattle.x86_encode.proofs.Search.{Taking, taking_code}
use Rattle.x86_encode.proofs.Shortest.{IsLeast, Least, found_at, least_before, least_none, least_row, taking_row, none_row}
use Rattle.x86_encode.proofs.Turning.{IsMade, Makes, IsMadeBack, MakesBack, IsAnswer, Answers, made_turned, plain, back, never, no_own, no_other, first_of, second_of}

-- THE PROGRAM'S FIELDS OF FIELDS

-- what a place names
abbrev place_in : Location → Place
place_in nowhere = place.Absent
place_in (direct n) = place.Direct n
place_in (from_rip d) = place.Rip
place_in (bare i d) = place.Bare i
place_in (based b i s w d) = place.Based b i s w

-- the displacement of a place
abbrev moved_in : Location → Option ℕ
moved_in nowhere = None
moved_in (direct n) = None
moved_in (from_rip d) = d
moved_in (bare i d) = d
moved_in (based b i s w d) = d

located_in : (p : Location) → located (moved_in p) (place_in p) ≡ p
located_in nowhere = refl
located_in (direct n) = refl
located_in (from_rip d) = refl
located_in (bare i d) = refl
located_in (based b i s w d) = refl

-- all fields, as the program has them
abbrev parts_of : Fields → Parts
parts_of p = record {
  «prefix» = p.«prefix»;
  segment = p.segment;
  bare_rex = p.bare_rex;
  reg = p.reg;
  low = p.low;
  place = place_in p.place;
  displacement = moved_in p.place;
  immediate = p.held;
}

fields_of_parts : (p : Fields) → fields_of (parts_of p) ≡ p
fields_of_parts p = rw (located_in p.place) refl

-- IN THE ROW'S ORDER

-- a row as the search finds it
abbrev found_of : View → RowAt → Found
found_of insn x = record { row = x.row; length = size_by insn x.r; parts = parts_of (built x.r insn) }

takes_row : (insn : View) (x : RowAt) → IsLeast insn 0 the_rows x → Taking insn (found_of insn x) x.r
takes_row insn x k = record {
  found = found_at insn x k;
  taken = k.taken;
  parts_are = fields_of_parts (built x.r insn);
  length_is = refl;
  least = least_before insn x k;
}

made_by : (insn : View) (x : RowAt) → IsLeast insn 0 the_rows x → IsMade insn (coding_at insn x)
unfolding coding_by
made_by insn x k =
    let t = takes_row insn x k in
    let m = coding_by insn x.r in
    let same = sym (fields_of_parts (built x.r insn)) in
    let n = size_by insn x.r - immediate_length x.r.immediate in
    let here = position_of in_memory insn in
    let there = position_of holds_number insn in
    let f : m.bytes ≡ bytes_of x.r (fields_of (parts_of (built x.r insn))) = ap (λ (p : Fields). bytes_of x.r p) same in
    let g : m.displacement ≡ moved_field (n - 4) here (fields_of (parts_of (built x.r insn))).place = ap (λ (p : Fields). moved_field (n - 4) here p.place) same in
    record {
      code = taking_code insn (found_of insn x) x.r m.bytes t f;
      fields = taking_fills insn (found_of insn x) x.r m.bytes here there m.displacement m.immediate t f g refl;
      notes = taking_notes insn (found_of insn x) x.r m here there t f g refl;
      moved = moved_placed (n - 4) insn (found_of insn x) x.r m.displacement t g;
      held = held_placed n insn (found_of insn x) x.r m.immediate t refl;
    }

made_if : (insn : View) (o : Option RowAt) → Least insn 0 the_rows o → Makes insn (option_map (coding_at insn) o)
made_if insn None k = least_none insn k
made_if insn (Some x) k = made_by insn x k

ordered_makes : (insn : View) → Makes insn (ordered_coding insn)
ordered_makes insn = made_if insn (shortest_row insn) (least_row insn)

-- IN BOTH

back_if : (insn : View) (o : Option RowCoding) → Makes (turned insn) o → MakesBack insn (option_map turned_coding o)
back_if insn None k = k
back_if insn (Some m) k = made_turned insn m k

back_makes : (insn : View) → MakesBack insn (option_map turned_coding (ordered_coding (turned insn)))
back_makes insn = back_if insn (ordered_coding (turned insn)) (ordered_makes (turned insn))

of_two : (insn : View) (a b : RowCoding) (t : Bool) → is_earlier a b ≡ t → exchanges insn ≡ false → exchanges (turned insn) ≡ true
    → IsMade insn a → IsMadeBack insn b → IsAnswer insn (if t then a else b)
of_two insn a b true t e h k l = first_of insn a b e t k l
of_two insn a b false t e h k l = second_of insn a b h t k l

of_either : (insn : View) (o p : Option RowCoding) → exchanges insn ≡ false → exchanges (turned insn) ≡ true → Makes insn o → MakesBack insn p
    → Answers insn (earlier o p)
of_either insn None p e h k l = no_own insn p h k l
of_either insn (Some a) None e h k l = no_other insn a e k l
of_either insn (Some a) (Some b) e h k l = of_two insn a b (is_earlier a b) refl e h k l

-- what is earlier than nothing
earlier_none : (o : Option RowCoding) → earlier o None ≡ o
earlier_none None = refl
earlier_none (Some a) = refl

by_orders : (insn : View) (a b : Bool) → exchanges insn ≡ a → exchanges (turned insn) ≡ b
    → Answers insn (earlier (own_coding a insn) (other_coding b insn))
by_orders insn true true e h = back insn _ e h (back_makes insn)
by_orders insn true false e h = never insn e h
by_orders insn false true e h = of_either insn _ _ e h (ordered_makes insn) (back_makes insn)
by_orders insn false false e h = subst (λ (o : Option RowCoding). Answers insn o) (sym (earlier_none (ordered_coding insn))) (plain insn (ordered_coding insn) e h (ordered_makes insn))

-- what the encoding makes of an instruction is what means it
pub coding_answers : (insn : View) → Answers insn (coding_of insn)
coding_answers insn = by_orders insn (exchanges insn) (exchanges (turned insn)) refl refl

-- WHAT THE PROGRAM MAKES

pub none_made : (insn : View) → HasNoOrderedCode insn → ordered_coding insn ≡ None
none_made insn h = ap (λ (o : Option RowAt). option_map (coding_at insn) o) (none_row insn h)

coding_with : List ℕ → Option Field → Option Field → Coding
coding_with bytes moved held = record { bytes = bytes; displacement = moved; immediate = held }

coding_is : (a b : List ℕ) (c d e f : Option Field) → a ≡ b → c ≡ d → e ≡ f → coding_with a c e ≡ coding_with b d f
coding_is a b c d e f x y z = rw (x, y, z) refl

-- the coding of the row that the search finds
pub taking_made : (insn : View) (x : Found) (r : Row) (bytes : List ℕ) (moved held : Option Field) → Taking insn x r
    → bytes ≡ bytes_of r (fields_of x.parts)
    → moved ≡ moved_field (x.length - immediate_length r.immediate - 4) (position_of in_memory insn) (located x.parts.displacement x.parts.place)
    → held ≡ held_field (x.length - immediate_length r.immediate) (position_of holds_number insn) r.immediate x.parts.immediate
    → ordered_coding insn ≡ Some (record { row = x.row; coding = record { bytes = bytes; displacement = moved; immediate = held } })
unfolding coding_by coding_with
taking_made insn x r bytes moved held t b mo he =
    let e : ordered_coding insn ≡ Some (record { row = x.row; coding = coding_by insn r }) = ap (λ (o : Option RowAt). option_map (coding_at insn) o) (taking_row insn x r t) in
    let p : built r insn ≡ fields_of x.parts = sym t.parts_are in
    let n : size_by insn r ≡ x.length = sym t.length_is in
    let f : bytes_of r (built r insn) ≡ bytes = ap (λ (q : Fields). bytes_of r q) p ∙ sym b in
    let g : moved_field (size_by insn r - immediate_length r.immediate - 4) (position_of in_memory insn) (built r insn).place ≡ moved =
    ap (λ (k : ℕ). moved_field (k - immediate_length r.immediate - 4) (position_of in_memory insn) (built r insn).place) n
    ∙ ap (λ (q : Fields). moved_field (x.length - immediate_length r.immediate - 4) (position_of in_memory insn) q.place) p ∙ sym mo in
    let h : held_field (size_by insn r - immediate_length r.immediate) (position_of holds_number insn) r.immediate (built r insn).held ≡ held =
    ap (λ (k : ℕ). held_field (k - immediate_length r.immediate) (position_of holds_number insn) r.immediate (built r insn).held) n
    ∙ ap (λ (q : Fields). held_field (x.length - immediate_length r.immediate) (position_of holds_number insn) r.immediate q.held) p ∙ sym he in
    e ∙ ap (λ (c : Coding). Some (record { row = x.row; coding = c })) (coding_is _ _ _ _ _ _ f g h)

-- where the operands are exchanged in neither order
pub coding_plain : (insn : View) → exchanges insn ≡ false → exchanges (turned insn) ≡ false → coding_of insn ≡ ordered_coding insn
coding_plain insn e h = rw (e, h) (earlier_none (ordered_coding insn))

-- in both
pub coding_back : (insn : View) → exchanges insn ≡ true → exchanges (turned insn) ≡ true
    → coding_of insn ≡ option_map turned_coding (ordered_coding (turned insn))
coding_back insn e h = rw (e, h) refl

-- in this one alone
pub coding_none : (insn : View) → exchanges insn ≡ true → exchanges (turned insn) ≡ false → coding_of insn ≡ None
coding_none insn e h = rw (e, h) refl

-- in the other one alone
pub coding_either : (insn : View) (one two : Option Made) → exchanges insn ≡ false → exchanges (turned insn) ≡ true
    → MakesAs one (ordered_coding insn) → MakesAs two (option_map turned_coding (ordered_coding (turned insn)))
    → coding_of insn ≡ earlier (option_map made_at one) (option_map made_at two)
coding_either insn one two e h k l = rw (e, h, k, l) refl

pub either_none : (insn : View) (two : Option Made) → exchanges insn ≡ false → exchanges (turned insn) ≡ true
    → MakesAs None (ordered_coding insn) → MakesAs two (option_map turned_coding (ordered_coding (turned insn))) → MakesAs two (coding_of insn)
either_none insn two e h k l = coding_either insn None two e h k l

pub either_one : (insn : View) (a : Made) → exchanges insn ≡ false → exchanges (turned insn) ≡ true → MakesAs (Some a) (ordered_coding insn)
    → MakesAs None (option_map turned_coding (ordered_coding (turned insn))) → MakesAs (Some a) (coding_of insn)
either_one insn a e h k l = coding_either insn (Some a) None e h k l

pub either_two : (insn : View) (a b : Made) (t : Bool) → is_earlier (made_at a) (made_at b) ≡ t → exchanges insn ≡ false
    → exchanges (turned insn) ≡ true → MakesAs (Some a) (ordered_coding insn)
    → MakesAs (Some b) (option_map turned_coding (ordered_coding (turned insn))) → coding_of insn ≡ Some (if t then made_at a else made_at b)
either_two insn a b t q e h k l = coding_either insn (Some a) (Some b) e h k l ∙ ap (λ (x : Bool). Some (if x then made_at a else made_at b)) q

-- the coding of the other order
pub back_is : (o : Option RowCoding) (m : Made) (bytes : List ℕ) (moved held : Option Field) → o ≡ Some (made_at m)
    → bytes ≡ m.encoded.bytes.items → moved ≡ turned_field m.encoded.displacement → held ≡ turned_field m.encoded.immediate
    → option_map turned_coding o ≡ Some (record { row = m.row; coding = record { bytes = bytes; displacement = moved; immediate = held } })
back_is o m bytes moved held e f g h = rw (e, f, g, h) refl
