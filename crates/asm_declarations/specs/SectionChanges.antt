-- Which section statements put into (GNU as manual, ".text", ".data", ".bss", ".section", ".pushsection", ".popsection", ".previous").
use Rattle.std.specs.Prelude.{ℕ, ◌-◌, ◌^◌, ◌==◌, nat_lt, Bool, true, false, List, [], ◌∷◌, ◌++◌, length, take, Option, None, Some, Result, Ok, Err, slice_get, option_and_then, if◌then◌else◌}
use Rattle.asm_operands.specs.declared.place_faults.PlaceCause.{PlaceCause}
use Rattle.asm_operands.specs.declared.place_faults.PlaceCause.TheVariants.{BadSection, OutOfRange, BadOperand}
use Rattle.asm_base.specs.declared.positions.Pos.{Pos}
use Rattle.asm_base.specs.Tokens.{SpelledToken}
use Rattle.asm_expr.specs.Knowledge.{Knowledge}
use Rattle.asm_expr.specs.Trees.{Tree}
use Rattle.asm_expr.specs.declared.naming.Name.TheVariants.{Plain}
use Rattle.asm_base.specs.declared.causes.FragCause.{FragCause}
use Rattle.asm_frags.specs.SectionOf.{section_number}
use Rattle.asm_frags.specs.Sections.{section_flags, entered, entered_in}
use Rattle.asm_uses.specs.declared.tables.Naming.{Naming}
use Rattle.asm_values.specs.declared.stacks.Entered.{Entered}
use Rattle.asm_declarations.specs.declared.section_changes.Header.{Header}
use Rattle.asm_base.specs.Refusals.{◌>>=◌}
use Rattle.asm_operands.specs.Results.{if_some}
use Rattle.asm_operands.specs.LayerFaults.{section_fault}
use Rattle.asm_uses.specs.Tables.{Table, naming_of, allowed, with_name}
use Rattle.asm_frags.specs.Writing.{LooseSection}
use Rattle.asm_values.specs.State.{Placed, with_table, with_names, known_here}
use Rattle.asm_operands.specs.Operands.{operands_of}
use Rattle.asm_operands.specs.Expressions.{form_in, constant_in}
use Rattle.asm_expr.specs.Arithmetic.{is_negative}
use Rattle.asm_words.specs.SectionWords.{SectionWords, says_merge, section_words, said_flags, said_kind, said_group}
use Rattle.asm_words.specs.SectionDefaults.{default_header}

-- statements put into the section of this number from now on
abbrev pub with_current : ℕ → Placed → Placed
with_current number placed = record placed { current = number; previous = placed.current }

-- the section of this name, where there is one
abbrev pub section_named : List LooseSection → List ℕ → Option LooseSection
section_named sections name = option_and_then (λ number. slice_get sections number) (section_number name sections)

-- flags that are not said are those of the section that is there, or else those of its name
abbrev pub flags_by : Option ℕ → Option LooseSection → List ℕ → ℕ
flags_by (Some flags) there name = flags
flags_by None (Some section) name = section.flags.0
flags_by None None name = (default_header name).flags

-- the type likewise
abbrev pub kind_by : Option ℕ → Option LooseSection → List ℕ → ℕ
kind_by (Some kind) there name = kind
kind_by None (Some section) name = section.kind
kind_by None None name = (default_header name).kind

-- a section that may be merged has entries of some size, which has to be said
abbrev pub merge_size : Bool → Option ℕ → Result ℕ PlaceCause
merge_size false size = Ok 0
merge_size true None = Err BadSection
merge_size true (Some size) = if size == 0 then Err BadSection else Ok size

-- the size of entries, where flags are said, or else that of the section that is there
abbrev pub entry_size_by : Option (List ℕ) → Option ℕ → Option LooseSection → Result ℕ PlaceCause
entry_size_by (Some letters) size there = merge_size (says_merge (Some letters)) size
entry_size_by None size (Some section) = Ok section.entry_size
entry_size_by None size None = Ok 0

-- a size of entries that is said
abbrev pub said_size : Option ℕ → Result (Option ℕ) PlaceCause
said_size None = Ok None
said_size (Some size) = if is_negative size then Err OutOfRange else Ok (Some size)

-- the value of the expression of the size of entries, where there is one
unfoldable pub entry_size_in : Knowledge → Option Tree → Result (Option ℕ) PlaceCause
entry_size_in known tree = if_some (form_in known) tree >>= λ form. if_some constant_in form >>= said_size

-- what the header of the section of these words says; its entries have this size where it is said
unfoldable pub header_by : List LooseSection → SectionWords → Option ℕ → Result Header PlaceCause
header_by sections words size =
    let there = section_named sections words.name in
    if_some said_flags words.flags >>= λ flags. if_some said_kind words.kind >>= λ kind.
    entry_size_by words.flags size there >>= λ entry_size.
    Ok (record { flags = flags_by flags there words.name; kind = kind_by kind there words.name; entry_size = entry_size })

-- the sections and the number of one
abbrev pub numbered : Result (ℕ × List LooseSection) FragCause → Result (List LooseSection × ℕ) PlaceCause
numbered (Ok pair) = Ok (pair.1, pair.0)
numbered (Err fault) = Err (section_fault fault)

-- the number of the section of this name and header, which is made if it is not there
abbrev pub entered_short : List LooseSection → List ℕ → Header → Result (List LooseSection × ℕ) PlaceCause
entered_short sections name header = numbered (entered sections name (section_flags header.flags) header.kind header.entry_size)

-- the same; a name has at most as many bytes as a statement
unfoldable pub entered_as : List LooseSection → List ℕ → Header → Result (List LooseSection × ℕ) PlaceCause
entered_as sections name header =
    if nat_lt (2 ^ 16) (length name) then Err BadSection
    else entered_short sections name header

-- the signature has more bytes than a statement
abbrev pub has_long_signature : Option (List ℕ × Bool) → Bool
has_long_signature None = false
has_long_signature (Some group) = nat_lt (2 ^ 16) (length group.0)

-- the same in the group of this signature, of which a linker may keep one alone, or in none; a signature has at most as many bytes as a statement
unfoldable pub entered_for : Option (List ℕ × Bool) → List LooseSection → List ℕ → Header → Result (List LooseSection × ℕ) PlaceCause
entered_for group sections name header =
    if nat_lt (2 ^ 16) (length name) then Err BadSection
    else (if has_long_signature group then Err BadSection
    else numbered (entered_in sections name (section_flags header.flags) header.kind header.entry_size group))

-- the table where the signature of a group, if there is one, is the name of a symbol
abbrev pub signed : Pos → Option (List ℕ) → Table → Table
signed pos None table = table
signed pos (Some signature) table = with_name pos (Plain signature) table

-- the signature of a group is the name of a symbol from now on
abbrev pub with_signature : Pos → Option (List ℕ) → Placed → Placed
with_signature pos signature placed = with_table placed (signed pos signature placed.table)

-- an expression that may be missing, as a list
abbrev pub option_trees : Option Tree → List Tree
option_trees None = []
option_trees (Some tree) = tree ∷ []

-- statements put into the section of these words, which is made if it is not there, and the names of its size of entries are allowed or refused
abbrev pub enter_named : SectionWords → Naming → Placed → Result Placed PlaceCause
enter_named words naming named =
    entry_size_in (known_here named) words.entry_size >>= λ size.
    header_by named.sections words size >>= λ header. said_group words >>= λ group. entered_for group named.sections words.name header >>= λ pair.
    allowed naming named.table >>= λ table.
    Ok (with_table (with_current pair.1 (record named { sections = pair.0 })) table)

-- the names of the size of entries and that of the group become symbols, and then the same
unfoldable pub enter_words : Pos → SectionWords → Placed → Result Placed PlaceCause
enter_words pos words placed =
    let trees = option_trees words.entry_size in
    enter_named words (naming_of trees placed.table) (with_signature pos words.signature (with_names pos trees placed))

-- `.section`
unfoldable pub place_section : Pos → List SpelledToken → Placed → Result Placed PlaceCause
place_section pos tokens placed = section_words (operands_of tokens) >>= λ words. enter_words pos words placed

-- the section that statements put into, and the one before it
abbrev pub entered_now : Placed → Entered
entered_now placed = record { current = placed.current; previous = placed.previous }

-- `.pushsection`: the same, and `.popsection` comes back
unfoldable pub place_pushed : Pos → List SpelledToken → Placed → Result Placed PlaceCause
place_pushed pos tokens placed =
    place_section pos tokens placed >>= λ made. Ok (record made { stack = made.stack ++ entered_now placed ∷ [] })

-- statements put where they put when the entry was pushed
abbrev pub back_to : Option Entered → Placed → Result Placed PlaceCause
back_to None placed = Err BadSection
back_to (Some entered) placed = Ok (record placed {
  current = entered.current;
  previous = entered.previous;
  stack = take (length placed.stack - 1) placed.stack;
})

-- `.popsection`
unfoldable pub popped : Placed → Result Placed PlaceCause
popped placed = back_to (slice_get placed.stack (length placed.stack - 1)) placed

-- a directive that stands alone
abbrev pub bare : List SpelledToken → Result Placed PlaceCause → Result Placed PlaceCause
bare [] answer = answer
bare (token ∷ rest) answer = Err BadOperand
