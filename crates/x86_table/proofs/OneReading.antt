-- No two rows share a head, and a row is told its fields by their bytes.
use Rattle.std.proofs.Common.{◌≡◌, ◌<◌, ℕ, ◌+◌, ◌/◌, ◌%◌, nat_le, List, [], ◌∷◌, ◌++◌, Bool, true, false, not, Option, Some, slice_get, refl, arith, zero, suc, append_assoc, sym, ◌∙◌, inl, inr}
use Rattle.std.proofs.lemmas.Bool.{cases_order, eqb-true, not-true, both_ways, and_parts}
use Rattle.x86_insn.specs.Views.{View}
use Rattle.x86_insn.specs.declared.insns.Prefix.{Prefix}
use Rattle.x86_insn.specs.declared.insns.Segment.{Segment}
use Rattle.x86_table.specs.declared.forms.Shape.{Shape}
use Rattle.x86_table.specs.declared.forms.Shape.TheVariants as shape
use Rattle.x86_table.specs.declared.forms.Row.{Row}
use Rattle.x86_table.specs.Rows.{the_rows}
use Rattle.x86_table.specs.Fields.{Location, Fields}
use Rattle.x86_table.specs.Bytes.{place_x, place_b, place_bytes, modrm_bytes, immediate_bytes, bytes_of}
use Rattle.x86_table.specs.Fits.{some_place_fits, is_nowhere, place_fits, reg_fits, low_fits, fits}
use Rattle.x86_table.specs.Reads.{is_known, is_known_place, ReadsRow, Reads}
use Rattle.x86_table.specs.Heads.{span, share_head, is_apart_from, all_apart, opcode_stands, row_stands, all_stand}
use Rattle.x86_table.proofs.TableFacts.{apart, stand}
use Rattle.x86_table.proofs.Peeling.{prefix_same, first_same, word_same, byte_same}
use Rattle.x86_table.proofs.FieldBytes.{place_same, held_same}
use Rattle.x86_table.proofs.RowHeads.{fit_of, absent, no_x, tail_of, head_of, some_is, place_head, bits_of, shared}

from_row : (r s : Row) (rows : List Row) (j : ℕ) → is_apart_from r rows ≡ true → slice_get rows j ≡ Some s → share_head r s ≡ false
from_row r s [] j h e = cc
from_row r s (t ∷ rows) zero h e =
    let p = and_parts (not (share_head r t)) (is_apart_from r rows) h in
    let same : t ≡ s = cc in
    rw (← same) (not-true (share_head r t) p.0)
from_row r s (t ∷ rows) (suc j) h e = from_row r s rows j (and_parts (not (share_head r t)) (is_apart_from r rows) h).1 e

pub in_order : (r s : Row) (rows : List Row) (i j : ℕ) → all_apart rows ≡ true → i < j → slice_get rows i ≡ Some r → slice_get rows j ≡ Some s → share_head r s ≡ false
in_order r s [] i j h lt e f = cc
in_order r s (t ∷ rows) i zero h lt e f = absurd (omega arith)
in_order r s (t ∷ rows) zero (suc j) h lt e f =
    let p = and_parts (is_apart_from t rows) (all_apart rows) h in
    let same : t ≡ r = cc in
    rw (← same) (from_row t s rows j p.0 f)
in_order r s (t ∷ rows) (suc i) (suc j) h lt e f = in_order r s rows i j (and_parts (is_apart_from t rows) (all_apart rows) h).1 (omega arith) e f

pub each : (r : Row) (rows : List Row) (i : ℕ) → all_stand rows ≡ true → slice_get rows i ≡ Some r → row_stands r ≡ true
each r [] i h e = cc
each r (t ∷ rows) zero h e =
    let same : t ≡ r = cc in
    rw (← same) (and_parts (row_stands t) (all_stand rows) h).0
each r (t ∷ rows) (suc i) h e = each r rows i (and_parts (row_stands t) (all_stand rows) h).1 e

pub record Same (a b : Fields) (xs ys : List ℕ) : Type 0 where
  pub reg : a.reg ≡ b.reg
  pub low : a.low ≡ b.low
  pub place : a.place ≡ b.place
  pub rest : xs ≡ ys

placed : (a b : Fields) (xs ys : List ℕ) → a.low ≡ 0 → b.low ≡ 0 → some_place_fits a.place ≡ true → some_place_fits b.place ≡ true
    → is_known_place a.place ≡ true → is_known_place b.place ≡ true → a.reg / 8 ≡ b.reg / 8 → place_x a.place ≡ place_x b.place
    → place_b a.place + a.low / 8 ≡ place_b b.place + b.low / 8 → place_bytes (a.reg % 8) a.place ++ xs ≡ place_bytes (b.reg % 8) b.place ++ ys → Same a b xs ys
placed a b xs ys la lb f g k l r x c h =
    let hd = place_head a.place b.place (a.reg % 8) (b.reg % 8) xs ys f g (omega arith) (omega arith) h in
    let low_reg = hd.reg in
    let pl = place_same a.place b.place xs ys f g k l x (omega arith) hd.mode hd.rm hd.rest in
    record { reg = omega arith; low = la ∙ sym lb; place = pl.0; rest = pl.1 }

unplaced : (a b : Fields) (xs ys : List ℕ) → a.reg ≡ 0 → b.reg ≡ 0 → is_nowhere a.place ≡ true → is_nowhere b.place ≡ true
    → place_b a.place + a.low / 8 ≡ place_b b.place + b.low / 8 → a.low % 8 ≡ b.low % 8 → xs ≡ ys → Same a b xs ys
unplaced a b xs ys ra rb pa pb c w h =
    let ea = absent a.place pa in
    let eb = absent b.place pb in
    let za = no_x a.place pa in
    let zb = no_x b.place pb in
    record { reg = ra ∙ sym rb; low = omega arith; place = ea ∙ sym eb; rest = h }

fields_same : (m : Shape) (a b : Fields) (xs ys : List ℕ) → reg_fits m a.reg ≡ true → reg_fits m b.reg ≡ true → place_fits m a.place ≡ true → place_fits m b.place ≡ true
    → is_known_place a.place ≡ true → is_known_place b.place ≡ true → low_fits m a.low ≡ true → low_fits m b.low ≡ true → a.reg / 8 ≡ b.reg / 8 → place_x a.place ≡ place_x b.place
    → place_b a.place + a.low / 8 ≡ place_b b.place + b.low / 8 → a.low % 8 ≡ b.low % 8 → modrm_bytes m (a.reg % 8) a.place ++ xs ≡ modrm_bytes m (b.reg % 8) b.place ++ ys → Same a b xs ys
fields_same shape.Plain a b xs ys f g pa pb k l fa fb r x c w h = unplaced a b xs ys (eqb-true a.reg 0 f) (eqb-true b.reg 0 g) pa pb c w h
fields_same shape.Low a b xs ys f g pa pb k l fa fb r x c w h = unplaced a b xs ys (eqb-true a.reg 0 f) (eqb-true b.reg 0 g) pa pb c w h
fields_same shape.LowNotFirst a b xs ys f g pa pb k l fa fb r x c w h = unplaced a b xs ys (eqb-true a.reg 0 f) (eqb-true b.reg 0 g) pa pb c w h
fields_same (shape.Fixed d) a b xs ys f g pa pb k l fa fb r x c w h = unplaced a b xs ys (eqb-true a.reg 0 f) (eqb-true b.reg 0 g) pa pb c w (byte_same d d xs ys h).1
fields_same (shape.Digit d m) a b xs ys f g pa pb k l fa fb r x c w h =
    placed a b xs ys (eqb-true a.low 0 fa) (eqb-true b.low 0 fb) (and_parts _ _ pa).0 (and_parts _ _ pb).0 k l r x c h
fields_same (shape.Slash m) a b xs ys f g pa pb k l fa fb r x c w h =
    placed a b xs ys (eqb-true a.low 0 fa) (eqb-true b.low 0 fb) (and_parts _ _ pa).0 (and_parts _ _ pb).0 k l r x c h

made : Prefix → Option Segment → Bool → ℕ → ℕ → Location → Option ℕ → Fields
made q s l r w p i = record { «prefix» = q; segment = s; bare_rex = l; reg = r; low = w; place = p; held = i }

pub one_row : (r : Row) (a b : Fields) (p q : List ℕ) → row_stands r ≡ true → fits r a ≡ true → fits r b ≡ true → is_known a.held ≡ true → is_known b.held ≡ true
    → is_known_place a.place ≡ true → is_known_place b.place ≡ true → bytes_of r a ++ p ≡ bytes_of r b ++ q → (a ≡ b) × (p ≡ q)
unfolding made tail_of
one_row r a b p q st f g ki li kp lp h =
    let fa = fit_of r a f in
    let fb = fit_of r b g in
    let ok = (and_parts (opcode_stands r.map r.code (span r.shape)) (nat_le (r.code + span r.shape) 256) st).0 in
    let hd = head_of r r a b p q fa fb ok ok h in
    let bits = bits_of r r a b _ _ fa fb hd in
    let code = hd.code in
    let same = fields_same r.shape a b (immediate_bytes r.immediate a.held ++ p) (immediate_bytes r.immediate b.held ++ q) fa.reg fb.reg fa.place fb.place kp lp fa.low fb.low bits.r_bit bits.x bits.b_bit (omega arith) (simp append_assoc at hd.rest) in
    let im = held_same r.immediate a.held b.held p q ki li fa.imm fb.imm same.rest in
    let fs = first_same a.segment b.segment a.«prefix» b.«prefix» r.lead.repeat r.lead.repeat r.words r.words a.place b.place fa.words fb.words hd.first in
    let pw = word_same r.lead.repeat r.words a.«prefix» b.«prefix» a.segment b.segment a.place b.place fa.words fb.words hd.rep in
    let pr = prefix_same r.lead.repeat r.words a.«prefix» b.«prefix» a.segment b.segment a.place b.place fa.words fb.words fs.1 pw hd.lock in
    let whole : made a.«prefix» a.segment a.bare_rex a.reg a.low a.place a.held ≡ made b.«prefix» b.segment b.bare_rex b.reg b.low b.place b.held = rw (pr, fs.0, bits.bare_rex, same.reg, same.low, same.place, im.0) refl in
    (whole, im.1)

same_row : (x y p q : List ℕ) (a b : View) (i j : ℕ) (r s : Row) (u v : Fields) → ReadsRow x a i r u → ReadsRow y b j s v → i ≡ j → bytes_of r u ++ p ≡ bytes_of s v ++ q → (a ≡ b) × (x ≡ y)
same_row x y p q a b i j r s u v f g e h =
    let found : slice_get the_rows i ≡ Some s = rw (← e) at g.found in
    let rows : s ≡ r = some_is (sym found ∙ f.found) in
    let fits_v : fits r v ≡ true = rw rows at g.fit in
    let joined : bytes_of r u ++ p ≡ bytes_of r v ++ q = rw rows at h in
    let parts = one_row r u v p q (each r the_rows i stand f.found) f.fit fits_v f.held_known g.held_known f.place_known g.place_known joined in
    (f.insn_is ∙ rw (parts.0, ← rows) (sym g.insn_is), f.bytes_are ∙ rw (parts.0, ← rows) (sym g.bytes_are))

pub one_way : (x y p q : List ℕ) (a b : View) → Reads x a → Reads y b → x ++ p ≡ y ++ q → (a ≡ b) × (x ≡ y)
one_way x y p q a b (i, r, u, f) (j, s, v, g) h =
    let joined : bytes_of r u ++ p ≡ bytes_of s v ++ q = rw (f.bytes_are, g.bytes_are) at h in
    let stands_r = each r the_rows i stand f.found in
    let stands_s = each s the_rows j stand g.found in
    let one = shared r s u v p q (fit_of r u f.fit) (fit_of s v g.fit)
    (head_of r s u v p q (fit_of r u f.fit) (fit_of s v g.fit) (and_parts _ _ stands_r).0 (and_parts _ _ stands_s).0 joined) in
    let other = shared s r v u q p (fit_of s v g.fit) (fit_of r u f.fit)
    (head_of s r v u q p (fit_of s v g.fit) (fit_of r u f.fit) (and_parts _ _ stands_s).0 (and_parts _ _ stands_r).0 (sym joined)) in
    elim (cases_order i j) [
      | inl e ↦ same_row x y p q a b i j r s u v f g e joined
      | inr (inl lt) ↦ absurd (both_ways (share_head r s) (in_order r s the_rows i j apart lt f.found g.found) one)
      | inr (inr gt) ↦ absurd (both_ways (share_head s r) (in_order s r the_rows j i apart gt g.found f.found) other)
    ]
