-- How many sections and symbols a source makes, and how long their names are.
use Rattle.std.specs.Prelude.{◌≡◌, ◌≢◌, ◌^◌, ◌≤◌, true, List, All, length}
use Rattle.asm_frags.specs.Groups.{HasShortSignature, counted, groups_of}
use Rattle.asm_frags.specs.Writing.{LooseSection}
use Rattle.asm_symbols.specs.Interning.{is_within_limits}
use Rattle.asm_values.specs.State.{Placed}

-- the name of the section has at most as many bytes as a statement
abbrev pub HasShortName : LooseSection → Type 0
HasShortName section = length section.name ≤ 2 ^ 16

-- the section has another type than that of a group of sections
abbrev pub IsNoGroup : LooseSection → Type 0
IsNoGroup section = section.kind ≢ 17

-- there are at most 30,003 sections and groups: 30,000 beside `.text`, `.data` and `.bss`; the names of sections and signatures of groups are short;
-- and no section has the type of a group
pub record AreFewSections (sections : List LooseSection) : Type 0 where
  pub few : counted sections ≤ 30003
  pub named : All HasShortName sections
  pub signatures : All HasShortSignature (groups_of sections)
  pub kinds : All IsNoGroup sections

-- so it is with the sections, and symbols and files are within the limits: at most 2^24 of them, with at most 2^31 bytes of names
pub record IsSmall (placed : Placed) : Type 0 where
  pub sections : AreFewSections placed.sections
  pub symbols : is_within_limits placed.table.symbols ≡ true
