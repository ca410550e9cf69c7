-- The mnemonic of each row of the table in Intel syntax: the first that names it (GNU as manual, "i386-Mnemonics").
use Rattle.std.specs.Prelude.{ℕ, ◌==◌, ◌&&◌, ◌||◌, Bool, false, Option}
use Rattle.std.specs.List.{find}
use Rattle.std.specs.Option.{option_or}
use Rattle.x86_table.specs.declared.forms.Row.{Row}
use Rattle.x86_lookup.specs.declared.names.Named.{Named}
use Rattle.x86_lookup.specs.declared.names.Rule.{Rule}
use Rattle.x86_lookup.specs.declared.names.Rule.TheVariants as rule
use Rattle.x86_lookup.specs.Names.{the_intel_names}
use Rattle.att_insns.specs.Sources.{word_name}

-- the row has the mnemonic's name, and the size that it fixes, if it fixes one
abbrev pub names_row : Row → Named → Bool
names_row r named = (named.name.0 == r.name.0) && ((named.size == 0) || (named.size == r.size))

-- the mnemonic means rows of other names: moves from a wider source, and string instructions of 32 bits
abbrev pub means_by : Rule → ℕ → Row → Bool
means_by rule.BySource name r = r.name.0 == word_name name
means_by (rule.OrString name) own r = (r.name.0 == name) && (r.size == 32)
means_by other name r = false

-- the row is one of these
abbrev pub means_row : Row → Named → Bool
means_row r named = means_by named.rule named.name.0 r

-- the first mnemonic that names the row, or else the first that means it
unfoldable pub mnemonic_of_row : Row → Option Named
mnemonic_of_row r = option_or (find (names_row r) the_intel_names) (find (means_row r) the_intel_names)
