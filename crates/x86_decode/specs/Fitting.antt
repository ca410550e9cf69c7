-- Fields that are read from bytes: of what fits a row, these need no test.
use Rattle.std.specs.Prelude.{◌≡◌, true}
use Rattle.x86_table.specs.declared.forms.Row.{Row}
use Rattle.x86_table.specs.Fields.{Fields}
use Rattle.x86_table.specs.Fits.{low_fits, place_fits, immediate_fits}

-- the register in the opcode, the place and the immediate fit
pub record AreRead (r : Row) (p : Fields) : Type 0 where
  pub low : low_fits r.shape p.low ≡ true
  pub place : place_fits r.shape p.place ≡ true
  pub held : immediate_fits r.immediate p.held ≡ true
