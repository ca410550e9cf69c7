-- Where the expanded forms of symbols are found.
use Rattle.std.specs.Prelude.{List, [], Option}
use Rattle.asm_expr.specs.Forms.{Form}
use Rattle.assigned_forms.specs.declared.expansions.Forms.{Forms}
use Rattle.assigned_forms.specs.declared.expansions.Forms.TheVariants.{Absent, Own, Made}
use Rattle.assigned_forms.specs.Expanding.{own_forms}

-- the forms that are there: none, those of the symbols themselves, or those that were made
abbrev pub forms_there : Forms → List (Option Form)
forms_there Absent = []
forms_there (Own symbols) = own_forms symbols.now.symbols
forms_there (Made forms) = forms
