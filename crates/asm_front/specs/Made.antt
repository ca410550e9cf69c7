-- What the object of a source is made of.
use Rattle.std.specs.Prelude.{◌≡◌, ℕ, List, Some, Ok}
use Rattle.asm_base.specs.Inputs.{Contents}
use Rattle.asm_lines.specs.Statements.{statements_of}
use Rattle.asm_macro.specs.Placing.{ended}
use Rattle.asm_values.specs.State.{nothing_placed}
use Rattle.asm_place.specs.Sources.{place_all}
use Rattle.asm_functions.specs.FollowedSource.{FollowedSource, follow_all}
use Rattle.asm_relax.specs.Settling.{LaidSections, layout_of}
use Rattle.table_pieces.specs.Pieces.{Tables}
use Rattle.line_table.specs.Placing as line_table
use Rattle.elf_object.specs.Objects.{object_of}
use Rattle.readback_laws.specs.Origins.{IsContinuedBy}
use Rattle.source_ends.specs.Synthesis.{IsMadeAt}
use Rattle.source_ends.specs.Ending.{Flags, framed, with_made}
use Rattle.asm_front.specs.Assembly.{main_file, nothing_yet, expansion_of, handed_by, handed_of}

-- the list of statements of a source came to its end: all of them are placed and followed, their
-- functions come to what synthesis makes of them, the frame table comes to that, the line table
-- behind it, all is laid out, and the object is that of the layout
pub record IsMadeOf (flags : Flags) (contents : Contents) (name source object : List ℕ) : Type 0 where
  pub whole : FollowedSource
  pub files : List (List ℕ)
  pub ends : expansion_of flags (Some contents) name source ≡ ended files whole
  pub follows : follow_all (handed_by flags contents name (statements_of main_file source))
      (nothing_yet flags) ≡ Ok whole
  pub places : place_all (handed_of flags contents name source) (nothing_placed flags.no_warn)
      ≡ Ok whole.placed
  pub comes : IsMadeAt flags.scfi whole
  pub framed_tables : Tables
  pub frames : framed (with_made flags.scfi whole.placed) ≡ Ok framed_tables
  pub tables : Tables
  pub lines : line_table.placed whole.placed.lines framed_tables ≡ Ok tables
  pub continued : IsContinuedBy whole.placed tables
  pub laid : LaidSections
  pub settles : layout_of tables.symbols tables.sections ≡ Ok laid
  pub is_object : object_of tables.symbols laid ≡ Ok object
