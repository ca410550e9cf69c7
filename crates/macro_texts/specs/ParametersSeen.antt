-- Parameters of the program as the definitions have them.
use Rattle.std.specs.Prelude.{map}
use Rattle.macro_texts.specs.declared.parameters.Parameter.{Parameter}
use Rattle.macro_texts.specs.declared.parameters.MacroLine.{MacroLine}
use Rattle.macro_texts.specs.Parameters.{ParameterAs, MacroLineAs}

-- a parameter with its texts as lists of bytes
abbrev pub parameter_seen : Parameter → ParameterAs
parameter_seen parameter =
    record { name = parameter.name.items; kind = parameter.kind; default = parameter.default.items }

-- a line with its texts as lists of bytes
abbrev pub line_seen : MacroLine → MacroLineAs
line_seen line = record { name = line.name.items; parameters = map parameter_seen line.parameters.items }
