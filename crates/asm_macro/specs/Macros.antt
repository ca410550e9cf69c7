-- Macros of the program as the definitions have them.
use Rattle.std.specs.Prelude.{ℕ, List, map}
use Rattle.std.specs.Global.{Vec}
use Rattle.std.specs.declared.rc.Rc.{Rc}
use Rattle.std.specs.declared.alloc.Global.{Global}
use Rattle.macro_texts.specs.ParametersSeen.{parameter_seen}
use Rattle.asm_macro.specs.declared.macros.Macro.{Macro}
use Rattle.asm_macro.specs.Expansion.{MacroAs}

-- a macro of this name
abbrev pub seen_as : List ℕ → Macro → MacroAs
seen_as name one = record { name = name; parameters = map parameter_seen one.parameters.items; body = one.body.value }

-- a macro under its name
abbrev pub entry_seen : Vec ℕ × Rc Macro Global → MacroAs
entry_seen entry = seen_as entry.0.items entry.1.value
