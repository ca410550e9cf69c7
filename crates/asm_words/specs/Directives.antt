-- The table of directives, and the directive of a name.
use Rattle.std.specs.Prelude.{ℕ, ◌==◌, ◌&&◌, not, Bool, true, List, [], ◌∷◌, take, drop, find, Option, option_map}
use Rattle.std.specs.List.{list_all}
use Rattle.std.specs.Str.{bytes_eq}
use Rattle.asm_words.specs.declared.directives.Directive.{Directive}
use Rattle.asm_words.specs.declared.directives.DirectiveRow.{DirectiveRow}
use Rattle.asm_words.specs.declared.directives.TheConstants.{DIRECTIVES, DIRECTIVE_SLOTS}

-- the rows of the table
unfoldable pub the_directives : List DirectiveRow
the_directives = DIRECTIVES

-- what stands in the slots of names: the numbers of their rows, or 255
unfoldable pub the_directive_slots : List ℕ
the_directive_slots = DIRECTIVE_SLOTS

-- the row's name, without the spaces after it
abbrev pub directive_name : DirectiveRow → List ℕ
directive_name row = take row.length row.name

-- the row is that of this name
abbrev pub is_directive : List ℕ → DirectiveRow → Bool
is_directive name row = bytes_eq (directive_name row) name

-- the directive of this name
unfoldable pub directive_of : List ℕ → Option Directive
directive_of name = option_map (λ row. row.directive) (find (is_directive name) the_directives)

-- the name has no space, and nothing but spaces stands after it
abbrev pub has_whole_name : DirectiveRow → Bool
has_whole_name row = list_all (λ b. not (b == 32)) (directive_name row) && list_all (λ b. b == 32) (drop row.length row.name)

-- no two rows have one name
abbrev pub all_named_apart : List DirectiveRow → Bool
all_named_apart [] = true
all_named_apart (row ∷ rows) = list_all (λ other. not (is_directive (directive_name row) other)) rows && all_named_apart rows
