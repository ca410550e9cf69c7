-- What fields that fit a row are known by.
use Rattle.std.proofs.Common.{◌≡◌, ◌<◌, ◌≤◌, ◌⊎◌, ℕ, ◌-◌, ◌^◌, ◌==◌, ◌&&◌, ◌||◌, nat_lt, nat_le, Bool, true, false, not, Some, slice_get, refl, arith, sym, inl, inr}
use Rattle.std.proofs.lemmas.Bool.{and_parts, or_cases, eqb-true, ltb-true, leb-true, lt-ltb}
use Rattle.x86_table.specs.declared.parts.Width.{Width}
use Rattle.x86_table.specs.declared.parts.Width.TheVariants as width
use Rattle.x86_table.specs.declared.forms.Row.{Row}
use Rattle.x86_table.specs.Rows.{the_rows}
use Rattle.x86_table.specs.Fields.{Location, Fields, nowhere, direct, from_rip, bare, based}
use Rattle.x86_table.specs.Bytes.{place_x, place_b, rex_bits, mode, mod_of, based_rm, rm_of}
use Rattle.x86_table.specs.Fits.{is_signed, some_place_fits, is_memory, is_nowhere, place_fits, reg_fits, low_fits, immediate_fits, wants_rex, rex_fits, segment_fits, prefix_fits, fields_fit, fits, FieldsHaveBytes}
use Rattle.x86_table.specs.Leads.{Leads, LeadsInOrder, AreNarrow, FieldsAreNarrow, HeadsTellRows}

-- what the table says of all its rows
pub record TableLaws : Type 0 where
  pub leads : LeadsInOrder
  pub narrow : FieldsAreNarrow
  pub bytes : FieldsHaveBytes
  pub tell : HeadsTellRows

-- the tests of what fits, and what follows from them
pub record Fit (r : Row) (p : Fields) : Type 0 where
  pub words : prefix_fits r.lead.repeat r.words p.«prefix» p.segment p.place ≡ true
  pub segment : segment_fits p.segment p.place ≡ true
  pub reg : reg_fits r.shape p.reg ≡ true
  pub low : low_fits r.shape p.low ≡ true
  pub place : place_fits r.shape p.place ≡ true
  pub imm : immediate_fits r.immediate p.held ≡ true
  pub rex : rex_fits r p ≡ true
  pub leads : Leads r p
  pub narrow : AreNarrow r p
  pub bits : rex_bits r p < 16

pub fit_of : TableLaws → (i : ℕ) (r : Row) (p : Fields) → slice_get the_rows i ≡ Some r → fits r p ≡ true → Fit r p
unfolding fits fields_fit
fit_of laws i r p found h =
    let a = and_parts _ _ h in
    let b = and_parts _ _ a.0 in
    let c = and_parts _ _ b.1 in
    let d = and_parts _ _ c.1 in
    let e = and_parts _ _ d.1 in
    let f = and_parts _ _ e.1 in
    let g = and_parts _ _ f.1 in
    record {
      words = b.0;
      segment = c.0;
      reg = d.0;
      low = e.0;
      place = f.0;
      imm = g.0;
      rex = g.1;
      leads = laws.leads i r p found a.0;
      narrow = laws.narrow r p a.0;
      bits = (laws.bytes i r p found a.0).bits;
    }

pub absent : (p : Location) → is_nowhere p ≡ true → p ≡ nowhere
absent nowhere h = refl
absent (direct n) h = cc
absent (from_rip d) h = cc
absent (bare i d) h = cc
absent (based b i s w d) h = cc

pub no_bits : (p : Location) → is_nowhere p ≡ true → (place_x p ≡ 0) × (place_b p ≡ 0)
no_bits nowhere h = (refl, refl)
no_bits (direct n) h = cc
no_bits (from_rip d) h = cc
no_bits (bare i d) h = cc
no_bits (based b i s w d) h = cc

-- mod and rm of a place
pub record Mod (p : Location) : Type 0 where
  pub mod_below : mod_of p < 4
  pub rm_below : rm_of p < 8
  pub memory : is_memory p ≡ nat_lt (mod_of p) 3

mode_below : (w : Width) → mode w < 3
mode_below width.Absent = omega arith
mode_below width.Byte = omega arith
mode_below width.Long = omega arith

based_rm_below : (s : Bool) (b : ℕ) → based_rm s b < 8
based_rm_below true b = omega arith
based_rm_below false b = omega arith

pub mod_of_place : (p : Location) → some_place_fits p ≡ true → Mod p
mod_of_place nowhere h = cc
mod_of_place (direct n) h = record { mod_below = omega arith; rm_below = omega arith; memory = refl }
mod_of_place (from_rip d) h = record { mod_below = omega arith; rm_below = omega arith; memory = refl }
mod_of_place (bare i d) h = record { mod_below = omega arith; rm_below = omega arith; memory = refl }
mod_of_place (based b i s w d) h =
    let l = mode_below w in
    let k = based_rm_below s b in
    record { mod_below = omega arith; rm_below = k; memory = sym (lt-ltb (mode w) 3 l) }

pub digit_of : (d reg : ℕ) → (reg == d && nat_lt d 8) ≡ true → (reg ≡ d) × (d < 8)
digit_of d reg h = let p = and_parts (reg == d) (nat_lt d 8) h in (eqb-true reg d p.0, ltb-true d 8 p.1)

pub rex_premise : (r : Row) (p : Fields) → rex_fits r p ≡ true → (not p.bare_rex || (rex_bits r p == 0)) ≡ true
rex_premise r p h = weaken (not p.bare_rex) (rex_bits r p == 0) (wants_rex p r.first || (wants_rex p r.second || wants_rex p r.third)) h
  where
    weaken : (a b c : Bool) → (a || (b && c)) ≡ true → (a || b) ≡ true
    weaken true b c h = refl
    weaken false b c h = (and_parts b c h).0

-- a sign-extended number is small, or above what its extension leaves
pub signed : (k n v : ℕ) → is_signed k n v ≡ true → (v < 2 ^ (k - 1)) ⊎ ((2 ^ n - 2 ^ (k - 1) ≤ v) × (v < 2 ^ n))
signed k n v h = elim (or_cases (nat_lt v (2 ^ (k - 1))) (nat_le (2 ^ n - 2 ^ (k - 1)) v && nat_lt v (2 ^ n)) h) [
  | inl l ↦ inl (ltb-true v (2 ^ (k - 1)) l)
  | inr r ↦ let p = and_parts (nat_le (2 ^ n - 2 ^ (k - 1)) v) (nat_lt v (2 ^ n)) r in inr (leb-true (2 ^ n - 2 ^ (k - 1)) v p.0, ltb-true v (2 ^ n) p.1)
]
