-- The forms that are there for symbols, as they lie in memory.
use Rattle.std.specs.Prelude.{Option, None, Some}
use Rattle.asm_expr.specs.Forms.{Form}
use Rattle.assigned_forms.specs.declared.expanding.Expansion.{Expansion}
use Rattle.assigned_forms.specs.declared.expanding.Expansion.TheVariants.{Absent, Own, Made}

-- the expanded form of a symbol, where it is there
abbrev pub form_there : Expansion → Option Form
form_there Absent = None
form_there (Own form) = Some form.now
form_there (Made form) = Some form.value
