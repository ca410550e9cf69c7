-- The flags and the type of a section that are not said, by its name (gABI, chapter 4, "Special Sections").
use Rattle.std.specs.Prelude.{ℕ, ◌==◌, ◌&&◌, ◌||◌, Bool, true, List, [], ◌∷◌, drop, length, nat_eq, codes, if◌then◌else◌}
use Rattle.std.specs.List.{starts_with}
use Rattle.std.specs.Str.{bytes_eq}
use Rattle.asm_words.specs.declared.section_defaults.DefaultHeader.{DefaultHeader}

-- `sh_flags` and `sh_type`
abbrev pub header : ℕ → ℕ → DefaultHeader
header flags kind = record { flags = flags; kind = kind }

-- nothing, or a dot and more
abbrev pub is_dotted : List ℕ → Bool
is_dotted [] = true
is_dotted (byte ∷ rest) = byte == 46

-- the name, or the name with a dot and more behind it
abbrev pub is_under : List ℕ → List ℕ → Bool
is_under base name = starts_with nat_eq name base && is_dotted (drop (length base) name)

-- code
abbrev pub is_code : List ℕ → Bool
is_code name = is_under (codes ".text") name || is_under (codes ".init") name || is_under (codes ".fini") name

-- data that is only read
abbrev pub is_constant : List ℕ → Bool
is_constant name = is_under (codes ".rodata") name || is_under (codes ".eh_frame") name

-- the header of a section of notes, and of one whose name says nothing
unfoldable pub note_header : List ℕ → DefaultHeader
note_header name =
    if bytes_eq name (codes ".note.GNU-stack") then header 0 1
    else (if starts_with nat_eq name (codes ".note") then header 0 7
    else header 0 1)

-- the header of a section of addresses of functions; another may be one of notes
unfoldable pub array_header : List ℕ → DefaultHeader
array_header name =
    if is_under (codes ".init_array") name then header 3 14
    else (if is_under (codes ".fini_array") name then header 3 15
    else (if is_under (codes ".preinit_array") name then header 3 16
    else note_header name))

-- the header of a section of data of each thread; another may be one of addresses
unfoldable pub thread_header : List ℕ → DefaultHeader
thread_header name =
    if is_under (codes ".tdata") name then header 1027 1
    else (if is_under (codes ".tbss") name then header 1027 8
    else array_header name)

-- the header of a section of this name
unfoldable pub default_header : List ℕ → DefaultHeader
default_header name =
    if is_code name then header 6 1
    else (if is_under (codes ".data") name then header 3 1
    else (if is_under (codes ".bss") name then header 3 8
    else (if is_constant name then header 2 1
    else thread_header name)))
