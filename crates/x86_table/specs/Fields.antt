-- What the bytes of an instruction hold.
use Rattle.std.specs.Prelude.{ℕ, Bool, Option}
use Rattle.x86_insn.specs.declared.insns.Prefix.{Prefix}
use Rattle.x86_insn.specs.declared.insns.Segment.{Segment}
use Rattle.x86_insn.specs.declared.insns.Index.{Index}
use Rattle.x86_table.specs.declared.parts.Width.{Width}
use Rattle.x86_table.specs.declared.parts.Place.{Place}
use Rattle.x86_table.specs.declared.parts.Place.TheVariants as place
use Rattle.x86_table.specs.declared.parts.Parts.{Parts}

-- what ModRM, SIB and displacement name: nothing, a register, an address from rip, one without base, or one with a base, an index, whether
-- a SIB byte stands, and the width of the displacement
pub data Location : Type 0 where
  nowhere : Location
  direct : ℕ → Location
  from_rip : Option ℕ → Location
  bare : Index → Option ℕ → Location
  based : ℕ → Index → Bool → Width → Option ℕ → Location

-- the fields of an instruction: numbers that are not known now are none
pub record Fields : Type 0 where
  pub «prefix» : Prefix
  pub segment : Option Segment
  pub bare_rex : Bool
  pub reg : ℕ
  pub low : ℕ
  pub place : Location
  pub held : Option ℕ

-- a place of the program and its displacement
abbrev pub located : Option ℕ → Place → Location
located moved place.Absent = nowhere
located moved (place.Direct n) = direct n
located moved place.Rip = from_rip moved
located moved (place.Bare i) = bare i moved
located moved (place.Based b i s w) = based b i s w moved

-- the fields of parts of the program
abbrev pub fields_of : Parts → Fields
fields_of parts = record {
  «prefix» = parts.«prefix»;
  segment = parts.segment;
  bare_rex = parts.bare_rex;
  reg = parts.reg;
  low = parts.low;
  place = located parts.displacement parts.place;
  held = parts.immediate;
}
