-- An address that is read is written.
use Rattle.std.proofs.Common.{◌≡◌, ℕ, zero, suc, ◌+◌, ◌==◌, Bool, true, false, cond, List, [], ◌∷◌, ◌++◌, Option, Some, None, length, drop, slice_get, refl, sym, ap, subst, ◌∙◌, arith}
use Rattle.std.proofs.lemmas.Bool.{eqb-true}
use Rattle.asm_base.specs.Tokens.{SpelledToken}
use Rattle.x86_insn.specs.declared.insns.Base.{Base}
use Rattle.x86_insn.specs.declared.insns.Base.TheVariants as base
use Rattle.x86_insn.specs.declared.insns.Index.{Index}
use Rattle.x86_insn.specs.declared.insns.Index.TheVariants as index
use Rattle.att_operands.specs.declared.registers.NamedRegister.{NamedRegister}
use Rattle.att_operands.specs.declared.addresses.ReadAddress.{ReadAddress}
use Rattle.att_operands.specs.Registers.{register_of}
use Rattle.att_operands.specs.Marks.{mark_by, mark_at}
use Rattle.att_operands.specs.Addresses.{register_by, register_at, base_by, index_by, takes_index, scale_by, read_address, closed_at, scaled_by, indexed_by, index_at, based_by, lone_by, unbased_at, address_at}
use Rattle.att_operands.specs.Spells.{IsMark, WritesIndex, unscaled, scaled, WritesAddress, based, indexed, unbased, lone}

-- the token at a place stands in front of what is left there
pub front_is : (tokens : List SpelledToken) (at : ℕ) (token : SpelledToken) → slice_get tokens at ≡ Some token → drop at tokens ≡ token ∷ drop (at + 1) tokens
front_is [] at token is = cc
front_is (first ∷ tokens) zero token is = let same : first ≡ token = cc in rw same refl
front_is (first ∷ tokens) (suc at) token is = let next : suc at + 1 ≡ suc (at + 1) = omega arith in rw next (front_is tokens at token is)

-- a mark stands at the place
pub record Marked (tokens : List SpelledToken) (at byte : ℕ) : Type 0 where
  pub token : SpelledToken
  pub there : slice_get tokens at ≡ Some token
  pub is : IsMark byte token

marked_by : (tokens : List SpelledToken) (at byte : ℕ) (found : Option SpelledToken) → slice_get tokens at ≡ found → mark_by found ≡ byte → (byte == 0) ≡ false → Marked tokens at byte
unfolding mark_by
marked_by tokens at byte None there is some = absurd (let none : byte ≡ 0 = sym is in let bad : (byte == 0) ≡ true = rw none refl in cc)
marked_by tokens at byte (Some token) there is some = record { token = token; there = there; is = is }

pub marked : (tokens : List SpelledToken) (at byte : ℕ) → (mark_at tokens at == byte) ≡ true → (byte == 0) ≡ false → Marked tokens at byte
marked tokens at byte test some = marked_by tokens at byte (slice_get tokens at) refl (eqb-true (mark_at tokens at) byte test) some

-- a register's name stands behind its sign
pub record Registered (tokens : List SpelledToken) (at : ℕ) (reg : NamedRegister) : Type 0 where
  pub sign : Marked tokens at 37
  pub word : SpelledToken
  pub there : slice_get tokens (at + 1) ≡ Some word
  pub names : register_of word.bytes ≡ Some reg

registered_by : (tokens : List SpelledToken) (at : ℕ) (reg : NamedRegister) (found : Option SpelledToken) → Marked tokens at 37 → slice_get tokens (at + 1) ≡ found → register_by found ≡ Some reg
    → Registered tokens at reg
registered_by tokens at reg None sign there is = cc
registered_by tokens at reg (Some word) sign there is = record { sign = sign; word = word; there = there; names = is }

registered_at : (tokens : List SpelledToken) (at : ℕ) (reg : NamedRegister) (b : Bool) → (mark_at tokens at == 37) ≡ b → cond b (register_by (slice_get tokens (at + 1))) None ≡ Some reg
    → Registered tokens at reg
registered_at tokens at reg true test is = registered_by tokens at reg (slice_get tokens (at + 1)) (marked tokens at 37 test refl) refl is
registered_at tokens at reg false test is = cc

pub registered : (tokens : List SpelledToken) (at : ℕ) (reg : NamedRegister) → register_at tokens at ≡ Some reg → Registered tokens at reg
registered tokens at reg is = registered_at tokens at reg (mark_at tokens at == 37) refl is

-- where an address closes
pub record Closed (tokens : List SpelledToken) (base : Base) (index : Index) (at : ℕ) (found : ReadAddress) : Type 0 where
  pub closing : Marked tokens at 41
  pub is : found ≡ read_address base index (at + 1)

some_is : {A : Type 0} {m n : A} → Some m ≡ Some n → m ≡ n
some_is h = cc

closed_by : (tokens : List SpelledToken) (base : Base) (index : Index) (at : ℕ) (found : ReadAddress) (b : Bool) → (mark_at tokens at == 41) ≡ b
    → cond b (Some (read_address base index (at + 1))) None ≡ Some found → Closed tokens base index at found
closed_by tokens base index at found true test is = record { closing = marked tokens at 41 test refl; is = sym (some_is is) }
closed_by tokens base index at found false test is = cc

closed : (tokens : List SpelledToken) (base : Base) (index : Index) (at : ℕ) (found : ReadAddress) → closed_at tokens base index at ≡ Some found → Closed tokens base index at found
closed tokens base index at found is = closed_by tokens base index at found (mark_at tokens at == 41) refl is

-- an index that was read, with its text
pub record IndexRead (tokens : List SpelledToken) (base : Base) (at : ℕ) (found : ReadAddress) : Type 0 where
  pub index : Index
  pub text : List SpelledToken
  pub writes : WritesIndex index text
  pub stands : drop at tokens ≡ text ++ drop (at + length text) tokens
  pub is : found ≡ read_address base index (at + length text)

-- tokens one after the other
pub two_stand : (tokens : List SpelledToken) (at : ℕ) (one two : SpelledToken) → slice_get tokens at ≡ Some one → slice_get tokens (at + 1) ≡ Some two
    → drop at tokens ≡ one ∷ two ∷ drop (at + 2) tokens
two_stand tokens at one two first second =
    let next : (at + 1) + 1 ≡ at + 2 = omega arith in
    front_is tokens at one first ∙ ap (λ (ts : List SpelledToken). one ∷ ts) (rw next at (front_is tokens (at + 1) two second))

pub three_stand : (tokens : List SpelledToken) (at : ℕ) (one two three : SpelledToken) → slice_get tokens at ≡ Some one → slice_get tokens (at + 1) ≡ Some two → slice_get tokens (at + 2) ≡ Some three
    → drop at tokens ≡ one ∷ two ∷ three ∷ drop (at + 3) tokens
three_stand tokens at one two three first second third =
    let next : (at + 2) + 1 ≡ at + 3 = omega arith in
    two_stand tokens at one two first second ∙ ap (λ (ts : List SpelledToken). one ∷ two ∷ ts) (rw next at (front_is tokens (at + 2) three third))

-- the scale of an index
scale_read : (tokens : List SpelledToken) (base : Base) (at number : ℕ) (reg : NamedRegister) (found : ReadAddress) (digits : Option SpelledToken) (scale : Option ℕ)
    → Registered tokens at reg → index_by (Some reg) ≡ Some number → Marked tokens (at + 2) 44 → slice_get tokens ((at + 2) + 1) ≡ digits → scale_by digits ≡ scale
    → scaled_by tokens base number scale ((at + 2) + 2) ≡ Some found → IndexRead tokens base at found
unfolding scale_by
scale_read tokens base at number reg found digits None named counts comma there is gives = cc
scale_read tokens base at number reg found None (Some scale) named counts comma there is gives = cc
scale_read tokens base at number reg found (Some token) (Some scale) named counts comma there is gives =
    let end = closed tokens base (index.By number scale) ((at + 2) + 2) found gives in
    let d : (at + 2) + 1 ≡ at + 3 = omega arith in
    let c : (at + 2) + 2 ≡ (at + 3) + 1 = omega arith in
    let e : (at + 3) + 2 ≡ at + 5 = omega arith in
    let digits_there : slice_get tokens (at + 3) ≡ Some token = rw d at there in
    let closing_there : slice_get tokens ((at + 3) + 1) ≡ Some end.closing.token = subst (λ (n : ℕ). slice_get tokens n ≡ Some end.closing.token) c end.closing.there in
    let front = three_stand tokens at named.sign.token named.word comma.token named.sign.there named.there comma.there in
    let back = two_stand tokens (at + 3) token end.closing.token digits_there closing_there in
    record {
      index = index.By number scale;
      text = named.sign.token ∷ named.word ∷ comma.token ∷ token ∷ end.closing.token ∷ [];
      writes = scaled number scale named.sign.token named.word comma.token token end.closing.token named.sign.is (ap index_by named.names ∙ counts) comma.is is end.closing.is;
      stands = front ∙ ap (λ (ts : List SpelledToken). named.sign.token ∷ named.word ∷ comma.token ∷ ts) (rw e at back);
      is = end.is ∙ ap (read_address base (index.By number scale)) (omega arith);
    }

index_read_by : (tokens : List SpelledToken) (base : Base) (at number : ℕ) (reg : NamedRegister) (found : ReadAddress) (b : Bool)
    → Registered tokens at reg → index_by (Some reg) ≡ Some number → (mark_at tokens (at + 2) == 44) ≡ b
    → cond b (scaled_by tokens base number (scale_by (slice_get tokens ((at + 2) + 1))) ((at + 2) + 2)) (closed_at tokens base (index.By number 0) (at + 2)) ≡ Some found
    → IndexRead tokens base at found
index_read_by tokens base at number reg found true named counts test is =
    scale_read tokens base at number reg found (slice_get tokens ((at + 2) + 1)) (scale_by (slice_get tokens ((at + 2) + 1))) named counts (marked tokens (at + 2) 44 test refl) refl refl is
index_read_by tokens base at number reg found false named counts test is =
    let end = closed tokens base (index.By number 0) (at + 2) found is in
    record {
      index = index.By number 0;
      text = named.sign.token ∷ named.word ∷ end.closing.token ∷ [];
      writes = unscaled number named.sign.token named.word end.closing.token named.sign.is (ap index_by named.names ∙ counts) end.closing.is;
      stands = three_stand tokens at named.sign.token named.word end.closing.token named.sign.there named.there end.closing.there;
      is = end.is ∙ ap (read_address base (index.By number 0)) (omega arith);
    }

index_named : (tokens : List SpelledToken) (base : Base) (at : ℕ) (found : ReadAddress) (named : Option NamedRegister) (number : Option ℕ)
    → register_at tokens at ≡ named → index_by named ≡ number → indexed_by tokens base number (at + 2) ≡ Some found → IndexRead tokens base at found
index_named tokens base at found named None there counts is = cc
index_named tokens base at found None (Some number) there counts is = cc
index_named tokens base at found (Some reg) (Some number) there counts is =
    index_read_by tokens base at number reg found (mark_at tokens (at + 2) == 44) (registered tokens at reg there) counts refl is

-- an index that is read is written
pub index_written : (tokens : List SpelledToken) (base : Base) (at : ℕ) (found : ReadAddress) → index_at tokens base at ≡ Some found → IndexRead tokens base at found
unfolding index_at
index_written tokens base at found is = index_named tokens base at found (register_at tokens at) (index_by (register_at tokens at)) refl refl is

-- an address that was read, with its text
pub record AddressRead (tokens : List SpelledToken) (at : ℕ) (found : ReadAddress) : Type 0 where
  pub base : Base
  pub index : Index
  pub text : List SpelledToken
  pub writes : WritesAddress base index text
  pub stands : drop at tokens ≡ text ++ drop (at + length text) tokens
  pub is : found ≡ read_address base index (at + length text)

-- what is left behind more tokens
pub moved_left : (tokens text : List SpelledToken) (one other : ℕ) → one ≡ other → text ++ drop one tokens ≡ text ++ drop other tokens
moved_left tokens text one other is = ap (λ (n : ℕ). text ++ drop n tokens) is

indexed_written : (tokens : List SpelledToken) (at : ℕ) (reg : NamedRegister) (base : Base) (found : ReadAddress) (b : Bool)
    → Registered tokens at reg → base_by (Some reg) ≡ Some base → Marked tokens (at + 2) 44 → takes_index base ≡ b
    → cond b (index_at tokens base ((at + 2) + 1)) None ≡ Some found → AddressRead tokens at found
indexed_written tokens at reg base found false named counts comma takes is = cc
indexed_written tokens at reg base found true named counts comma takes is =
    let inner = index_written tokens base ((at + 2) + 1) found is in
    let three : (at + 2) + 1 ≡ at + 3 = omega arith in
    let front = three_stand tokens at named.sign.token named.word comma.token named.sign.there named.there comma.there in
    let stands : drop (at + 3) tokens ≡ inner.text ++ drop (((at + 2) + 1) + length inner.text) tokens = ap (λ (n : ℕ). drop n tokens) (sym three) ∙ inner.stands in
    record {
      base = base;
      index = inner.index;
      text = named.sign.token ∷ named.word ∷ comma.token ∷ inner.text;
      writes = indexed base inner.index named.sign.token named.word comma.token inner.text named.sign.is (ap base_by named.names ∙ counts) takes comma.is inner.writes;
      stands = front ∙ ap (λ (ts : List SpelledToken). named.sign.token ∷ named.word ∷ comma.token ∷ ts) (stands ∙ moved_left tokens inner.text (((at + 2) + 1) + length inner.text) (at + length (named.sign.token ∷ named.word ∷ comma.token ∷ inner.text)) (omega arith));
      is = inner.is ∙ ap (read_address base inner.index) (omega arith);
    }

based_written : (tokens : List SpelledToken) (at : ℕ) (reg : NamedRegister) (base : Base) (found : ReadAddress) (b : Bool)
    → Registered tokens at reg → base_by (Some reg) ≡ Some base → (mark_at tokens (at + 2) == 44) ≡ b
    → cond b (cond (takes_index base) (index_at tokens base ((at + 2) + 1)) None) (closed_at tokens base index.Absent (at + 2)) ≡ Some found → AddressRead tokens at found
based_written tokens at reg base found true named counts test is =
    indexed_written tokens at reg base found (takes_index base) named counts (marked tokens (at + 2) 44 test refl) refl is
based_written tokens at reg base found false named counts test is =
    let end = closed tokens base index.Absent (at + 2) found is in
    record {
      base = base;
      index = index.Absent;
      text = named.sign.token ∷ named.word ∷ end.closing.token ∷ [];
      writes = based base named.sign.token named.word end.closing.token named.sign.is (ap base_by named.names ∙ counts) end.closing.is;
      stands = three_stand tokens at named.sign.token named.word end.closing.token named.sign.there named.there end.closing.there;
      is = end.is ∙ ap (read_address base index.Absent) (omega arith);
    }

based_named : (tokens : List SpelledToken) (at : ℕ) (found : ReadAddress) (named : Option NamedRegister) (base : Option Base)
    → register_at tokens at ≡ named → base_by named ≡ base → based_by tokens base (at + 2) ≡ Some found → AddressRead tokens at found
based_named tokens at found named None there counts is = cc
based_named tokens at found None (Some base) there counts is = cc
based_named tokens at found (Some reg) (Some base) there counts is =
    based_written tokens at reg base found (mark_at tokens (at + 2) == 44) (registered tokens at reg there) counts refl is

-- the scale 1 alone
lone_scale : (tokens : List SpelledToken) (at scale : ℕ) (found : ReadAddress) (digits : SpelledToken) (b : Bool) → Marked tokens at 44 → slice_get tokens (at + 1) ≡ Some digits
    → scale_by (Some digits) ≡ Some scale → (scale == 0) ≡ b → cond b (closed_at tokens base.Absent index.Absent ((at + 1) + 1)) None ≡ Some found → AddressRead tokens at found
lone_scale tokens at scale found digits false comma there scales test is = cc
lone_scale tokens at scale found digits true comma there scales test is =
    let end = closed tokens base.Absent index.Absent ((at + 1) + 1) found is in
    let two : (at + 1) + 1 ≡ at + 2 = omega arith in
    let closing_there : slice_get tokens (at + 2) ≡ Some end.closing.token = subst (λ (n : ℕ). slice_get tokens n ≡ Some end.closing.token) two end.closing.there in
    record {
      base = base.Absent;
      index = index.Absent;
      text = comma.token ∷ digits ∷ end.closing.token ∷ [];
      writes = lone comma.token digits end.closing.token comma.is (scales ∙ ap (λ (n : ℕ). Some n) (eqb-true scale 0 test)) end.closing.is;
      stands = three_stand tokens at comma.token digits end.closing.token comma.there there closing_there;
      is = end.is ∙ ap (read_address base.Absent index.Absent) (omega arith);
    }

lone_read : (tokens : List SpelledToken) (at : ℕ) (found : ReadAddress) (digits : Option SpelledToken) (scale : Option ℕ) → Marked tokens at 44 → slice_get tokens (at + 1) ≡ digits
    → scale_by digits ≡ scale → lone_by tokens scale ((at + 1) + 1) ≡ Some found → AddressRead tokens at found
unfolding scale_by
lone_read tokens at found digits None comma there scales is = cc
lone_read tokens at found None (Some scale) comma there scales is = cc
lone_read tokens at found (Some token) (Some scale) comma there scales is = lone_scale tokens at scale found token (scale == 0) comma there scales refl is

unbased_read : (tokens : List SpelledToken) (at : ℕ) (found : ReadAddress) → Marked tokens at 44 → index_at tokens base.Absent (at + 1) ≡ Some found → AddressRead tokens at found
unbased_read tokens at found comma is =
    let inner = index_written tokens base.Absent (at + 1) found is in
    record {
      base = base.Absent;
      index = inner.index;
      text = comma.token ∷ inner.text;
      writes = unbased inner.index comma.token inner.text comma.is inner.writes;
      stands = front_is tokens at comma.token comma.there
          ∙ ap (λ (ts : List SpelledToken). comma.token ∷ ts) (inner.stands ∙ moved_left tokens inner.text ((at + 1) + length inner.text) (at + length (comma.token ∷ inner.text)) (omega arith));
      is = inner.is ∙ ap (read_address base.Absent inner.index) (omega arith);
    }

unbased_by : (tokens : List SpelledToken) (at : ℕ) (found : ReadAddress) (b : Bool) → Marked tokens at 44
    → cond b (index_at tokens base.Absent (at + 1)) (lone_by tokens (scale_by (slice_get tokens (at + 1))) ((at + 1) + 1)) ≡ Some found → AddressRead tokens at found
unbased_by tokens at found true comma is = unbased_read tokens at found comma is
unbased_by tokens at found false comma is = lone_read tokens at found (slice_get tokens (at + 1)) (scale_by (slice_get tokens (at + 1))) comma refl refl is

address_by : (tokens : List SpelledToken) (at : ℕ) (found : ReadAddress) (b : Bool) → (mark_at tokens at == 44) ≡ b
    → cond b (unbased_at tokens (at + 1)) (based_by tokens (base_by (register_at tokens at)) (at + 2)) ≡ Some found → AddressRead tokens at found
address_by tokens at found true test is = unbased_by tokens at found (mark_at tokens (at + 1) == 37) (marked tokens at 44 test refl) is
address_by tokens at found false test is = based_named tokens at found (register_at tokens at) (base_by (register_at tokens at)) refl refl is

-- an address that is read is written
pub address_written : (tokens : List SpelledToken) (at : ℕ) (found : ReadAddress) → address_at tokens at ≡ Some found → AddressRead tokens at found
unfolding address_at
address_written tokens at found is = address_by tokens at found (mark_at tokens at == 44) refl is
