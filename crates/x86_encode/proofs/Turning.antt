-- Codes of an instruction by those in the row's order.
use Rattle.std.proofs.Common.{◌≡◌, ◌==◌, ◌&&◌, ◌||◌, ◌∷◌, ◌∙◌, Bool, List, None, Option, Some, [], ap, arith, eq-eqb, false, inl, inr, length, nat_lt, refl, sym, true, ℕ}
use Rattle.std.proofs.lemmas.Bool.{cases_order, eqb-true, both_ways, ltb-true, and_parts, or_cases, ltb-false}
use Rattle.x86_insn.specs.declared.insns.Mnemonic.{Mnemonic}
use Rattle.x86_table.specs.declared.forms.Immediate.{Immediate}
use Rattle.x86_parts.specs.declared.encoded.Field.{Field}
use Rattle.x86_parts.specs.declared.encoded.Position.{Position}
use Rattle.x86_parts.specs.declared.encoded.Position.TheVariants as position
use Rattle.x86_insn.specs.Views.{Seen, View}
use Rattle.x86_table.specs.Fields.{Location, nowhere, direct, from_rip, bare, based}
use Rattle.x86_table.specs.Reads.{is_register, is_accumulator}
use Rattle.x86_encode.specs.Answers.{InOrder}
use Rattle.x86_parts.specs.Codes.{OrderedCodes, AtMost, Before, HasNoOrderedCode, named}
use Rattle.x86_encode.specs.Encoding.{RowCoding, turned_position, turned_field, turned_coding, is_earlier}
use Rattle.x86_encode.specs.Exchanges.{turned, exchanges, CodeAt, Codes, HasNoCode, OrderedAt, at_most}
use Rattle.x86_parts.specs.Filling.{FieldsFill, field_holds, filled, moved_field, held_field, in_memory, holds_number, operand_in, FieldAt, Noted}
use Rattle.x86_table.specs.declared.mnemonics.integers.TheConstants.{XCHG}

-- WHAT IS MADE

-- what is made of the operands in the row's order: the least bytes, their fields, and the operands that these are of
pub record IsMade (insn : View) (m : RowCoding) : Type 0 where
  pub code : OrderedAt m.row m.coding.bytes insn
  pub fields : FieldsFill insn m.coding
  pub notes : Noted insn m.coding
  pub moved : FieldAt in_memory insn m.coding.displacement
  pub held : FieldAt holds_number insn m.coding.immediate

-- the same where there may be none
abbrev pub Makes : View → Option RowCoding → Type 0
Makes insn None = HasNoOrderedCode insn
Makes insn (Some m) = IsMade insn m

-- the same of the other order, with the positions of this one
pub record IsMadeBack (insn : View) (m : RowCoding) : Type 0 where
  pub code : OrderedAt m.row m.coding.bytes (turned insn)
  pub fields : FieldsFill (turned insn) m.coding
  pub notes : Noted (turned insn) m.coding
  pub moved : FieldAt in_memory insn m.coding.displacement
  pub held : FieldAt holds_number insn m.coding.immediate

-- the same where there may be none
abbrev pub MakesBack : View → Option RowCoding → Type 0
MakesBack insn None = HasNoOrderedCode (turned insn)
MakesBack insn (Some m) = IsMadeBack insn m

-- what is made of the instruction
pub record IsAnswer (insn : View) (m : RowCoding) : Type 0 where
  pub code : CodeAt m.row m.coding.bytes insn
  pub fields : InOrder (λ v. FieldsFill v m.coding) insn
  pub notes : InOrder (λ v. Noted v m.coding) insn
  pub moved : FieldAt in_memory insn m.coding.displacement
  pub held : FieldAt holds_number insn m.coding.immediate

-- the same where there may be none
abbrev pub Answers : View → Option RowCoding → Type 0
Answers insn None = HasNoCode insn
Answers insn (Some m) = IsAnswer insn m

-- ORDER OF BYTES

at_most_all : (xs ys zs : List ℕ) → AtMost xs ys → AtMost ys zs → AtMost xs zs
at_most_all [] ys zs a b = tt
at_most_all (x ∷ xs) [] zs a b = absurd a
at_most_all (x ∷ xs) (y ∷ ys) [] a b = absurd b
at_most_all (x ∷ xs) (y ∷ ys) (z ∷ zs) (inl l) (inl m) = inl (omega arith)
at_most_all (x ∷ xs) (y ∷ ys) (z ∷ zs) (inl l) (inr m) = (let e = m.0 in inl (omega arith))
at_most_all (x ∷ xs) (y ∷ ys) (z ∷ zs) (inr l) (inl m) = (let e = l.0 in inl (omega arith))
at_most_all (x ∷ xs) (y ∷ ys) (z ∷ zs) (inr l) (inr m) = inr (l.0 ∙ m.0, at_most_all xs ys zs l.1 m.1)

before_all : (a b c : List ℕ) (i j k : ℕ) → Before a i b j → Before b j c k → Before a i c k
before_all a b c i j k (inl l) (inl m) = inl (omega arith)
before_all a b c i j k (inl l) (inr m) = (let e = m.0 in inl (omega arith))
before_all a b c i j k (inr l) (inl m) = (let e = l.0 in inl (omega arith))
before_all a b c i j k (inr (e, inl l)) (inr (f, inl m)) = inr (e ∙ f, inl (omega arith))
before_all a b c i j k (inr (e, inl l)) (inr (f, inr m)) = (let g = m.0 in inr (e ∙ f, inl (omega arith)))
before_all a b c i j k (inr (e, inr l)) (inr (f, inl m)) = (let g = l.0 in inr (e ∙ f, inl (omega arith)))
before_all a b c i j k (inr (e, inr l)) (inr (f, inr m)) = inr (e ∙ f, inr (l.0 ∙ m.0, at_most_all a b c l.1 m.1))

at_most_is : (xs ys : List ℕ) → at_most xs ys ≡ true → AtMost xs ys
at_most_is [] ys h = tt
at_most_is (x ∷ xs) [] h = cc
at_most_is (x ∷ xs) (y ∷ ys) h = elim (or_cases (nat_lt x y) ((x == y) && at_most xs ys) h) [
  | inl e ↦ inl (ltb-true x y e)
  | inr e ↦ let p = and_parts (x == y) (at_most xs ys) e in inr (eqb-true x y p.0, at_most_is xs ys p.1)
]

neither : (a b : Bool) → (a || b) ≡ false → (a ≡ false) × (b ≡ false)
neither true b h = cc
neither false b h = (refl, h)

not_both : (a b : Bool) → (a && b) ≡ false → a ≡ true → b ≡ false
not_both true b h e = h
not_both false b h e = cc

at_most_not : (xs ys : List ℕ) → at_most xs ys ≡ false → AtMost ys xs
at_most_not [] ys h = cc
at_most_not (x ∷ xs) [] h = tt
at_most_not (x ∷ xs) (y ∷ ys) h =
    let p = neither (nat_lt x y) ((x == y) && at_most xs ys) h in
    let l = ltb-false x y p.0 in
    elim (cases_order x y) [
      | inl e ↦ inr (sym e, at_most_not xs ys (not_both (x == y) (at_most xs ys) p.1 (eq-eqb x y e)))
      | inr (inl m) ↦ absurd (omega arith)
      | inr (inr m) ↦ inl m
    ]

before_is : (a b : List ℕ) (i j : ℕ) → (nat_lt (length a) (length b) || ((length a == length b) && (nat_lt i j || ((i == j) && at_most a b)))) ≡ true → Before a i b j
before_is a b i j h = elim (or_cases (nat_lt (length a) (length b)) ((length a == length b) && (nat_lt i j || ((i == j) && at_most a b))) h) [
  | inl e ↦ inl (ltb-true (length a) (length b) e)
  | inr e ↦ let p = and_parts (length a == length b) (nat_lt i j || ((i == j) && at_most a b)) e in
      inr (
        eqb-true (length a) (length b) p.0,
        elim (or_cases (nat_lt i j) ((i == j) && at_most a b) p.1) [
          | inl f ↦ inl (ltb-true i j f)
          | inr f ↦ let q = and_parts (i == j) (at_most a b) f in inr (eqb-true i j q.0, at_most_is a b q.1)
        ],
      )
]

before_not : (a b : List ℕ) (i j : ℕ) → (nat_lt (length a) (length b) || ((length a == length b) && (nat_lt i j || ((i == j) && at_most a b)))) ≡ false → Before b j a i
before_not a b i j h =
    let p = neither (nat_lt (length a) (length b)) ((length a == length b) && (nat_lt i j || ((i == j) && at_most a b))) h in
    let l = ltb-false (length a) (length b) p.0 in
    elim (cases_order (length a) (length b)) [
      | inl e ↦
          let q = neither (nat_lt i j) ((i == j) && at_most a b) (not_both (length a == length b) (nat_lt i j || ((i == j) && at_most a b)) p.1 (eq-eqb (length a) (length b) e)) in
          let m = ltb-false i j q.0 in
          inr (
            sym e,
            elim (cases_order i j) [
              | inl f ↦ inr (sym f, at_most_not a b (not_both (i == j) (at_most a b) q.1 (eq-eqb i j f)))
              | inr (inl g) ↦ absurd (omega arith)
              | inr (inr g) ↦ inl g
            ],
          )
      | inr (inl m) ↦ absurd (omega arith)
      | inr (inr m) ↦ inl m
    ]

-- ONE ORDER OR THE OTHER

pub own_codes : (insn : View) (bytes : List ℕ) (i : ℕ) → exchanges (turned insn) ≡ false → Codes bytes insn i → OrderedCodes bytes insn i
own_codes insn bytes i h (true, e, c) = absurd (both_ways (exchanges (turned insn)) h e)
own_codes insn bytes i h (false, e, c) = c

pub other_codes : (insn : View) (bytes : List ℕ) (i : ℕ) → exchanges insn ≡ true → Codes bytes insn i → OrderedCodes bytes (turned insn) i
other_codes insn bytes i h (true, e, c) = c
other_codes insn bytes i h (false, e, c) = absurd (both_ways (exchanges insn) e h)

pub plain : (insn : View) (made : Option RowCoding) → exchanges insn ≡ false → exchanges (turned insn) ≡ false → Makes insn made → Answers insn made
plain insn None e h k = λ bytes i c. k bytes i (own_codes insn bytes i h c)
plain insn (Some m) e h k = record {
  code = record { codes = (false, e, k.code.codes); least = λ other j c. k.code.least other j (own_codes insn other j h c) };
  fields = (false, e, k.fields);
  notes = (false, e, k.notes);
  moved = k.moved;
  held = k.held;
}

pub back : (insn : View) (made : Option RowCoding) → exchanges insn ≡ true → exchanges (turned insn) ≡ true → MakesBack insn made → Answers insn made
back insn None e h k = λ bytes i c. k bytes i (other_codes insn bytes i e c)
back insn (Some m) e h k = record {
  code = record { codes = (true, h, k.code.codes); least = λ other j c. k.code.least other j (other_codes insn other j e c) };
  fields = (true, h, k.fields);
  notes = (true, h, k.notes);
  moved = k.moved;
  held = k.held;
}

pub never : (insn : View) → exchanges insn ≡ true → exchanges (turned insn) ≡ false → HasNoCode insn
never insn e h bytes i (true, x, c) = both_ways (exchanges (turned insn)) h x
never insn e h bytes i (false, x, c) = both_ways (exchanges insn) x e

-- BOTH ORDERS

by_own : (insn : View) (m : RowCoding) → exchanges insn ≡ false → IsMade insn m → ((other : List ℕ) (j : ℕ) → OrderedCodes other (turned insn) j → Before m.coding.bytes m.row other j) → IsAnswer insn m
by_own insn m e k l = record {
  code = record { codes = (false, e, k.code.codes); least = λ other j c. least other j c };
  fields = (false, e, k.fields);
  notes = (false, e, k.notes);
  moved = k.moved;
  held = k.held;
}
  where
    least : (other : List ℕ) (j : ℕ) → Codes other insn j → Before m.coding.bytes m.row other j
    least other j (true, x, c) = l other j c
    least other j (false, x, c) = k.code.least other j c

by_other : (insn : View) (m : RowCoding) → exchanges (turned insn) ≡ true → IsMadeBack insn m → ((other : List ℕ) (j : ℕ) → OrderedCodes other insn j → Before m.coding.bytes m.row other j) → IsAnswer insn m
by_other insn m h k l = record {
  code = record { codes = (true, h, k.code.codes); least = λ other j c. least other j c };
  fields = (true, h, k.fields);
  notes = (true, h, k.notes);
  moved = k.moved;
  held = k.held;
}
  where
    least : (other : List ℕ) (j : ℕ) → Codes other insn j → Before m.coding.bytes m.row other j
    least other j (true, x, c) = k.code.least other j c
    least other j (false, x, c) = l other j c

pub no_own : (insn : View) (made : Option RowCoding) → exchanges (turned insn) ≡ true → HasNoOrderedCode insn → MakesBack insn made → Answers insn made
no_own insn None h n k = λ bytes i c. none bytes i c
  where
    none : (bytes : List ℕ) (i : ℕ) → Codes bytes insn i → ⊥
    none bytes i (true, x, c) = k bytes i c
    none bytes i (false, x, c) = n bytes i c
no_own insn (Some m) h n k = by_other insn m h k (λ other j c. absurd (n other j c))

pub no_other : (insn : View) (m : RowCoding) → exchanges insn ≡ false → IsMade insn m → HasNoOrderedCode (turned insn) → IsAnswer insn m
no_other insn m e k n = by_own insn m e k (λ other j c. absurd (n other j c))

pub first_of : (insn : View) (a b : RowCoding) → exchanges insn ≡ false → is_earlier a b ≡ true → IsMade insn a → IsMadeBack insn b → IsAnswer insn a
first_of insn a b e t k l = by_own insn a e k (λ other j c.
    before_all a.coding.bytes b.coding.bytes other a.row b.row j (before_is a.coding.bytes b.coding.bytes a.row b.row t) (l.code.least other j c))

pub second_of : (insn : View) (a b : RowCoding) → exchanges (turned insn) ≡ true → is_earlier a b ≡ false → IsMade insn a → IsMadeBack insn b → IsAnswer insn b
second_of insn a b h t k l = by_other insn b h l (λ other j c.
    before_all b.coding.bytes a.coding.bytes other b.row a.row j (before_not a.coding.bytes b.coding.bytes a.row b.row t) (k.code.least other j c))

-- FIELDS OF THE OTHER ORDER

at_turned : (test : Seen → Bool) (insn : View) (f : Option Field) → FieldAt test (turned insn) f → FieldAt test insn (turned_field f)
at_turned test insn None h = tt
at_turned test insn (Some f) h = at_position f.position h
  where
    at_position : (p : Position) → test (operand_in (turned insn) p) ≡ true → test (operand_in insn (turned_position p)) ≡ true
    at_position position.First h = h
    at_position position.Second h = h
    at_position position.Third h = h

filled_turned : (f : Option Field) (v : ℕ) (bytes : List ℕ) → filled (turned_field f) v bytes ≡ filled f v bytes
filled_turned None v bytes = refl
filled_turned (Some f) v bytes = refl

holds_turned : (f : Option Field) (v : ℕ) → field_holds (turned_field f) v ≡ field_holds f v
holds_turned None v = refl
holds_turned (Some f) v = refl

moved_turned : (at : ℕ) (here : Position) (p : Location) → turned_field (moved_field at here p) ≡ moved_field at (turned_position here) p
moved_turned at here nowhere = refl
moved_turned at here (direct n) = refl
moved_turned at here (from_rip None) = refl
moved_turned at here (from_rip (Some v)) = refl
moved_turned at here (bare i None) = refl
moved_turned at here (bare i (Some v)) = refl
moved_turned at here (based b i s w None) = refl
moved_turned at here (based b i s w (Some v)) = refl

held_turned : (at : ℕ) (here : Position) (i : Immediate) (d : Option ℕ) → turned_field (held_field at here i d) ≡ held_field at (turned_position here) i d
held_turned at here i None = refl
held_turned at here i (Some v) = refl

pub made_turned : (insn : View) (m : RowCoding) → IsMade (turned insn) m → IsMadeBack insn (turned_coding m)
made_turned insn m k = record {
  code = k.code;
  fields = λ v w a b. rw (filled_turned m.coding.displacement v m.coding.bytes, filled_turned m.coding.immediate w (filled m.coding.displacement v m.coding.bytes))
      (k.fields v w (sym (holds_turned m.coding.displacement v) ∙ a) (sym (holds_turned m.coding.immediate w) ∙ b));
  notes = record {
    row = k.notes.row;
    r = k.notes.r;
    p = k.notes.p;
    here = turned_position k.notes.here;
    there = turned_position k.notes.there;
    means = k.notes.means;
    moved = ap turned_field k.notes.moved ∙ moved_turned _ k.notes.here k.notes.p.place;
    held = ap turned_field k.notes.held ∙ held_turned _ k.notes.there k.notes.r.immediate k.notes.p.held;
  };
  moved = at_turned in_memory insn m.coding.displacement k.moved;
  held = at_turned holds_number insn m.coding.immediate k.held;
}

-- WHEN THE ORDERS COUNT

pub not_named : (name : Mnemonic) (insn : View) → (name.0 == XCHG) ≡ false → (exchanges (named name insn) ≡ false) × (exchanges (turned (named name insn)) ≡ false)
not_named name insn h = (rw h refl, rw h refl)

pub as_named : (name : Mnemonic) (insn : View) (b : Bool) → (name.0 == XCHG) ≡ true → (is_register insn.first && is_accumulator insn.second) ≡ b → exchanges (named name insn) ≡ b
as_named name insn b h e = rw h e

pub back_named : (name : Mnemonic) (insn : View) (b : Bool) → (name.0 == XCHG) ≡ true → (is_register insn.second && is_accumulator insn.first) ≡ b → exchanges (turned (named name insn)) ≡ b
back_named name insn b h e = rw h e
