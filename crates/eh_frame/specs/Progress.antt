-- The CIEs as the code holds them, and what was put.
use Rattle.std.specs.Prelude.{List, map}
use Rattle.eh_frame.specs.declared.placing.KnownCommon.{KnownCommon}
use Rattle.eh_frame.specs.declared.placing.Progress.{Progress}
use Rattle.eh_frame.specs.Placing.{Common, Putting}
use Rattle.table_pieces.specs.Pieces.{Tables}

-- a CIE
abbrev pub common_in : KnownCommon → Common
common_in known = record { frame = known.frame.now; place = known.place }

-- CIEs
abbrev pub commons_in : List KnownCommon → List Common
commons_in commons = map common_in commons

-- what was put, where the symbols and the sections are these
abbrev pub putting_in : Progress → Tables → Putting
putting_in progress tables = record { commons = commons_in progress.commons.items; end = progress.end; tables = tables }
