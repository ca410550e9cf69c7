-- The parts of what fits.
use Rattle.std.proofs.Common.{◌≡◌, length, nat_le, refl, true}
use Rattle.std.proofs.lemmas.Bool.{and_parts}
use Rattle.x86_table.specs.declared.forms.Row.{Row}
use Rattle.x86_table.specs.Bytes.{bytes_of}
use Rattle.x86_table.specs.Fields.{Location, nowhere, direct, from_rip, bare, based, Fields}
use Rattle.x86_table.specs.Fits.{is_nowhere, place_fits, reg_fits, low_fits, immediate_fits, rex_fits, segment_fits, prefix_fits, fields_fit, fits}

-- each test of what fits
pub record Fit (r : Row) (p : Fields) : Type 0 where
  pub words : prefix_fits r.lead.repeat r.words p.«prefix» p.segment p.place ≡ true
  pub segment : segment_fits p.segment p.place ≡ true
  pub reg : reg_fits r.shape p.reg ≡ true
  pub low : low_fits r.shape p.low ≡ true
  pub place : place_fits r.shape p.place ≡ true
  pub held : immediate_fits r.immediate p.held ≡ true
  pub rex : rex_fits r p ≡ true

pub fit_fields : (r : Row) (p : Fields) → fields_fit r p ≡ true → Fit r p
unfolding fields_fit
fit_fields r p h =
    let b = and_parts _ _ h in
    let c = and_parts _ _ b.1 in
    let d = and_parts _ _ c.1 in
    let e = and_parts _ _ d.1 in
    let f = and_parts _ _ e.1 in
    let g = and_parts _ _ f.1 in
    record { words = b.0; segment = c.0; reg = d.0; low = e.0; place = f.0; held = g.0; rex = g.1 }

pub fit_of : (r : Row) (p : Fields) → fits r p ≡ true → Fit r p
unfolding fits
fit_of r p h = fit_fields r p (and_parts _ _ h).0

pub fit_size : (r : Row) (p : Fields) → fits r p ≡ true → nat_le (length (bytes_of r p)) 15 ≡ true
unfolding fits
fit_size r p h = (and_parts _ _ h).1

-- there is no place
pub no_location : (p : Location) → is_nowhere p ≡ true → p ≡ nowhere
no_location nowhere h = refl
no_location (direct n) h = cc
no_location (from_rip d) h = cc
no_location (bare i d) h = cc
no_location (based b i s w d) h = cc
