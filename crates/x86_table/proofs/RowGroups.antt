-- Rows that share a head have one map and one octet of opcodes: so it is enough that the rows of each such group share none.
use Rattle.std.proofs.Common.{◌≡◌, ◌<◌, ℕ, ◌+◌, ◌*◌, ◌/◌, ◌%◌, ◌==◌, ◌&&◌, nat_lt, nat_le, List, [], ◌∷◌, Bool, true, false, not, if◌then◌else◌, refl, arith, zero, suc, eq-eqb, sym, inl, inr, subst}
use Rattle.std.proofs.lemmas.Bool.{eqb-true, ltb-true, leb-true, and_parts, and_from, both_ways, cases_Bool, cases_order}
use Rattle.x86_table.specs.declared.forms.Row.{Row}
use Rattle.x86_table.specs.Heads.{map_number, span, share_opcode, share_repeat, share_modrm, share_head, is_apart_from, all_apart, is_left_out}
use Rattle.x86_table.specs.Bytes.{bit}

-- the group of a row: its map, and its opcode without the low three bits
abbrev pub group_of : Row → ℕ
group_of r = 32 * map_number r.map + r.code / 8

-- the rows of a group, in order
abbrev pub group : ℕ → List Row → List Row
group k [] = []
group k (r ∷ rows) = if group_of r == k then (r ∷ group k rows) else (group k rows)

-- in each of so many groups no two rows share a head
abbrev pub groups_apart : ℕ → List Row → Bool
groups_apart zero rows = true
groups_apart (suc k) rows = all_apart (group k rows) && groups_apart k rows

-- the opcodes of the row stand in one octet, and its group is one of them
abbrev pub is_grouped : Row → Bool
is_grouped r = nat_le (r.code % 8 + span r.shape) 8 && nat_lt (group_of r) 160

-- those of all rows do
abbrev pub all_grouped : List Row → Bool
all_grouped [] = true
all_grouped (r ∷ rows) = is_grouped r && all_grouped rows

-- rows that share an opcode are of one group
opcode_group : (r s : Row) → is_grouped r ≡ true → is_grouped s ≡ true → share_opcode r s ≡ true → group_of r ≡ group_of s
opcode_group r s f g h =
    let a = leb-true (r.code % 8 + span r.shape) 8 (and_parts (nat_le (r.code % 8 + span r.shape) 8) (nat_lt (group_of r) 160) f).0 in
    let b = leb-true (s.code % 8 + span s.shape) 8 (and_parts (nat_le (s.code % 8 + span s.shape) 8) (nat_lt (group_of s) 160) g).0 in
    let p = and_parts (map_number r.map == map_number s.map)
    (nat_lt r.code (s.code + span s.shape) && (nat_lt s.code (r.code + span r.shape) && not (is_left_out r.shape s.shape && (r.code == s.code)))) h in
    let q = and_parts (nat_lt r.code (s.code + span s.shape)) (nat_lt s.code (r.code + span r.shape) && not (is_left_out r.shape s.shape && (r.code == s.code))) p.1 in
    let t = and_parts (nat_lt s.code (r.code + span r.shape)) (not (is_left_out r.shape s.shape && (r.code == s.code))) q.1 in
    let m = eqb-true (map_number r.map) (map_number s.map) p.0 in
    let x = ltb-true r.code (s.code + span s.shape) q.0 in
    let y = ltb-true s.code (r.code + span r.shape) t.0 in
    omega arith

-- so are rows that share a head
head_group : (r s : Row) → is_grouped r ≡ true → is_grouped s ≡ true → share_head r s ≡ true → group_of r ≡ group_of s
head_group r s f g h =
    let a = and_parts (bit r.lead.operand_size == bit s.lead.operand_size) ((bit r.lead.wide == bit s.lead.wide) && (share_opcode r s && (share_repeat r s && share_modrm r.shape s.shape))) h in
    let b = and_parts (bit r.lead.wide == bit s.lead.wide) (share_opcode r s && (share_repeat r s && share_modrm r.shape s.shape)) a.1 in
    let c = and_parts (share_opcode r s) (share_repeat r s && share_modrm r.shape s.shape) b.1 in
    opcode_group r s f g c.0

picked : (c : Bool) (r s : Row) (rows : List Row) → c ≡ true → is_apart_from r (if c then (s ∷ rows) else rows) ≡ true → is_apart_from r (s ∷ rows) ≡ true
picked true r s rows q h = h
picked false r s rows q h = cc

passed : (c : Bool) (r s : Row) (rows : List Row) → c ≡ false → is_apart_from r (if c then (s ∷ rows) else rows) ≡ true → is_apart_from r rows ≡ true
passed true r s rows q h = cc
passed false r s rows q h = h

-- a row that is apart from those of its group is apart from all
from_group : (r : Row) (rows : List Row) → is_grouped r ≡ true → all_grouped rows ≡ true → is_apart_from r (group (group_of r) rows) ≡ true → is_apart_from r rows ≡ true
from_group r [] f g h = refl
from_group r (s ∷ rows) f g h =
    let p = and_parts (is_grouped s) (all_grouped rows) g in
    elim (cases_Bool (group_of s == group_of r)) [
      | inl q ↦
          let t = and_parts (not (share_head r s)) (is_apart_from r (group (group_of r) rows)) (picked (group_of s == group_of r) r s (group (group_of r) rows) q h) in
          and_from _ _ t.0 (from_group r rows f p.1 t.1)
      | inr q ↦
          let rest = from_group r rows f p.1 (passed (group_of s == group_of r) r s (group (group_of r) rows) q h) in
          and_from _ _ (differ r s f p.0 q) rest
    ]
  where
    differ : (r s : Row) → is_grouped r ≡ true → is_grouped s ≡ true → (group_of s == group_of r) ≡ false → not (share_head r s) ≡ true
    differ r s f g q = elim (cases_Bool (share_head r s)) [
      | inl t ↦ absurd (both_ways (group_of s == group_of r) q (eq-eqb (group_of s) (group_of r) (sym (head_group r s f g t))))
      | inr n ↦ rw n refl
    ]

first_apart : (c : Bool) (r : Row) (rows : List Row) → c ≡ true → all_apart (if c then (r ∷ rows) else rows) ≡ true → is_apart_from r rows ≡ true
first_apart true r rows q h = (and_parts (is_apart_from r rows) (all_apart rows) h).0
first_apart false r rows q h = cc

rest_apart : (c : Bool) (r : Row) (rows : List Row) → all_apart (if c then (r ∷ rows) else rows) ≡ true → all_apart rows ≡ true
rest_apart true r rows h = (and_parts (is_apart_from r rows) (all_apart rows) h).1
rest_apart false r rows h = h

each_group : (n : ℕ) (rows : List Row) → groups_apart n rows ≡ true → (k : ℕ) → k < n → all_apart (group k rows) ≡ true
each_group zero rows h k l = absurd (omega arith)
each_group (suc n) rows h k l =
    let p = and_parts (all_apart (group n rows)) (groups_apart n rows) h in
    elim (cases_order k n) [
      | inl e ↦ subst (λ (x : ℕ). all_apart (group x rows) ≡ true) (sym e) p.0
      | inr (inl lt) ↦ each_group n rows p.1 k lt
      | inr (inr gt) ↦ absurd (omega arith)
    ]

from_groups : (rows : List Row) → all_grouped rows ≡ true → ((k : ℕ) → k < 160 → all_apart (group k rows) ≡ true) → all_apart rows ≡ true
from_groups [] g h = refl
from_groups (r ∷ rows) g h =
    let p = and_parts (is_grouped r) (all_grouped rows) g in
    let q = and_parts (nat_le (r.code % 8 + span r.shape) 8) (nat_lt (group_of r) 160) p.0 in
    let own = h (group_of r) (ltb-true (group_of r) 160 q.1) in
    let first = first_apart (group_of r == group_of r) r (group (group_of r) rows) (eq-eqb (group_of r) (group_of r) refl) own in
    and_from _ _ (from_group r rows p.0 p.1 first) (from_groups rows p.1 (λ k l. rest_apart (group_of r == k) r (group k rows) (h k l)))

-- where no two rows of a group share a head, no two rows do
pub whole_apart : (rows : List Row) → all_grouped rows ≡ true → groups_apart 160 rows ≡ true → all_apart rows ≡ true
whole_apart rows g h = from_groups rows g (each_group 160 rows h)
