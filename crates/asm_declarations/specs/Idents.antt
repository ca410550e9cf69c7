-- Texts for `.comment`, and names of source files (GNU as manual, ".ident", ".file").
use Rattle.std.specs.Prelude.{ℕ, ◌==◌, List, [], ◌∷◌, ◌++◌, length, codes, Result, Ok, Err, slice_get, if◌then◌else◌}
use Rattle.std.specs.List.{list_any}
use Rattle.std.specs.Option.{option_map_or}
use Rattle.asm_operands.specs.declared.place_faults.PlaceCause.{PlaceCause}
use Rattle.asm_operands.specs.declared.place_faults.PlaceCause.TheVariants.{BadOperand}
use Rattle.asm_base.specs.declared.positions.Pos.{Pos}
use Rattle.asm_base.specs.Tokens.{SpelledToken}
use Rattle.asm_expr.specs.declared.naming.Name.TheVariants as naming
use Rattle.asm_frags.specs.Writing.{LooseSection}
use Rattle.asm_declarations.specs.declared.section_changes.Header.{Header}
use Rattle.asm_base.specs.Refusals.{◌>>=◌}
use Rattle.asm_uses.specs.Tables.{file_named}
use Rattle.asm_values.specs.State.{Placed, with_table, put_bytes_into}
use Rattle.asm_operands.specs.Operands.{operands_of, string_of, needed}
use Rattle.asm_operands.specs.Expressions.{no_more}
use Rattle.asm_declarations.specs.SectionChanges.{entered_as}

-- one string
unfoldable pub one_string : List SpelledToken → Result (List ℕ) PlaceCause
one_string tokens = needed string_of (operands_of tokens) >>= λ string. no_more string.1 string.0

-- how many items the section of this number has
abbrev pub items_in : List LooseSection → ℕ → ℕ
items_in sections number = option_map_or (λ section. length section.items) (slice_get sections number) 0

-- the text and the zero byte behind it; the first one stands behind a zero byte
abbrev pub comment_bytes : ℕ → List ℕ → List ℕ
comment_bytes items text = (if items == 0 then (0 ∷ []) else []) ++ (text ++ 0 ∷ [])

-- the strings of `.comment` may be merged
abbrev pub comment_header : Header
comment_header = record { flags = 48; kind = 1; entry_size = 1 }

-- `.ident`: the text goes into `.comment`, and a zero byte behind it
unfoldable pub place_ident : Pos → List SpelledToken → Placed → Result Placed PlaceCause
place_ident pos tokens placed =
    one_string tokens >>= λ text. entered_as placed.sections (codes ".comment") comment_header >>= λ pair.
    put_bytes_into pos pair.1 (comment_bytes (items_in pair.0 pair.1) text) (record placed { sections = pair.0 })

-- a string table can hold the name of a file, which may be empty
abbrev pub file_name : List ℕ → Result (List ℕ) PlaceCause
file_name name = if list_any (λ byte. byte == 0) name then Err BadOperand else Ok name

-- `.file`
unfoldable pub place_file : List SpelledToken → Placed → Result Placed PlaceCause
place_file tokens placed =
    one_string tokens >>= λ text. file_name text >>= λ name. file_named (naming.Plain name) placed.table >>= λ table. Ok (with_table placed table)
