-- Bytes and their texts in Intel syntax, worked out by hand (Intel SDM, volume 2, chapters 2 to 4).
use Rattle.std.specs.Prelude.{◌≡◌, ◌-◌, ◌&&◌, ◌∷◌, [], ℕ, List, Option, Some, None, codes, if◌then◌else◌}
use Rattle.std.specs.Str.{bytes_eq}
use Rattle.x86_table.specs.declared.forms.Map.{Map}
use Rattle.x86_table.specs.declared.forms.Row.{Row}
use Rattle.x86_table.specs.Rows.{the_rows}
use Rattle.x86_table.specs.Fields.{Fields}
use Rattle.x86_table.specs.Bytes.{bytes_of}
use Rattle.x86_table.specs.Fits.{fits}
use Rattle.x86_decode.specs.Heads.{Head, head_of, map_in, past_escapes}
use Rattle.x86_decode.specs.FieldReadings.{fields_in}
use Rattle.x86_decode.specs.Admitting.{admits}
use Rattle.x86_decode.specs.Decoding.{first_row}
use Rattle.intel_texts.specs.Texts.{intel_text}

-- the text of a row and fields, if these are the bytes
abbrev pub read_text : List ℕ → Row → Fields → Option (List ℕ)
read_text bytes r p = if fits r p && bytes_eq (bytes_of r p) bytes then Some (intel_text r p) else None

-- by the row
abbrev pub text_by_row : List ℕ → Head → ℕ → List ℕ → Option Row → Option (List ℕ)
text_by_row bytes h o tail None = None
text_by_row bytes h o tail (Some r) = read_text bytes r (fields_in r h o tail)

-- by the bytes from the opcode on
abbrev pub text_by_opcode : List ℕ → Head → Map → List ℕ → Option (List ℕ)
text_by_opcode bytes h m [] = None
text_by_opcode bytes h m (o ∷ tail) = text_by_row bytes h o tail (first_row (admits m h o tail) the_rows)

-- by the head
abbrev pub text_by_head : List ℕ → Head → Option (List ℕ)
text_by_head bytes h = text_by_opcode bytes h (map_in h.rest) (past_escapes (map_in h.rest) h.rest)

-- the bytes have this text
abbrev pub Shows : List ℕ → List ℕ → Type 0
Shows bytes text = text_by_head bytes (head_of bytes) ≡ Some text

-- the texts of these bytes
pub record WorkedTexts : Type 0 where
  pub nop : Shows (144 ∷ []) (codes "nop")
  pub exchanged_quads : Shows (72 ∷ 144 ∷ []) (codes "xchg rax, rax")
  pub exchanged_longs : Shows (135 ∷ 193 ∷ []) (codes "xchg eax, ecx")
  pub exchanged_bytes : Shows (64 ∷ 134 ∷ 196 ∷ []) (codes "xchg al, spl")
  pub widened : Shows (72 ∷ 15 ∷ 182 ∷ 196 ∷ []) (codes "movzx rax, spl")
  pub added : Shows (102 ∷ 131 ∷ 192 ∷ 255 ∷ []) (codes "add ax, -1")
  pub pushed : Shows (106 ∷ 255 ∷ []) (codes "push -1")
  pub wide : Shows (72 ∷ 184 ∷ 0 ∷ 0 ∷ 0 ∷ 0 ∷ 0 ∷ 0 ∷ 0 ∷ 128 ∷ []) (codes "movabs rax, -9223372036854775808")
  pub counted : Shows (192 ∷ 224 ∷ 255 ∷ []) (codes "shl al, 255")
  pub multiplied : Shows (107 ∷ 192 ∷ 5 ∷ []) (codes "imul eax, eax, 5")
  pub jumped : Shows (235 ∷ 128 ∷ []) (codes "jmp .-126")
  pub looped : Shows (226 ∷ 240 ∷ []) (codes "loop .-14")
  pub untracked : Shows (62 ∷ 255 ∷ 224 ∷ []) (codes "notrack jmp rax")
  pub loaded : Shows (139 ∷ 64 ∷ 0 ∷ []) (codes "mov eax, DWORD PTR [rax]")
  pub loaded_by_frame : Shows (139 ∷ 69 ∷ 0 ∷ []) (codes "mov eax, DWORD PTR [rbp]")
  pub loaded_from_rip : Shows (139 ∷ 5 ∷ 128 ∷ 0 ∷ 0 ∷ 0 ∷ []) (codes "mov eax, DWORD PTR [rip+.+134]")
  pub scaled : Shows (139 ∷ 4 ∷ 77 ∷ 8 ∷ 0 ∷ 0 ∷ 0 ∷ []) (codes "mov eax, DWORD PTR [rcx*2+8]")
  pub stored : Shows (199 ∷ 0 ∷ 0 ∷ 0 ∷ 0 ∷ 128 ∷ []) (codes "mov DWORD PTR [rax], -2147483648")
  pub trapped : Shows (204 ∷ []) (codes "int3")
  pub locked : Shows (240 ∷ 255 ∷ 0 ∷ []) (codes "lock inc DWORD PTR [rax]")
  pub scanned : Shows (242 ∷ 174 ∷ []) (codes "repne scasb")
  pub bit_set : Shows (15 ∷ 171 ∷ 200 ∷ []) (codes "bts eax, ecx")
  pub moved_if : Shows (15 ∷ 68 ∷ 193 ∷ []) (codes "cmove eax, ecx")
  pub widened_from_memory : Shows (102 ∷ 15 ∷ 190 ∷ 0 ∷ []) (codes "movsx ax, BYTE PTR [rax]")
  pub converted : Shows (242 ∷ 72 ∷ 15 ∷ 42 ∷ 0 ∷ []) (codes "cvtsi2sd xmm0, QWORD PTR [rax]")
  pub shuffled : Shows (102 ∷ 15 ∷ 112 ∷ 192 ∷ 27 ∷ []) (codes "pshufd xmm0, xmm0, 27")
  pub moved_from_vector : Shows (102 ∷ 15 ∷ 126 ∷ 192 ∷ []) (codes "movd eax, xmm0")
  pub extracted : Shows (102 ∷ 15 ∷ 58 ∷ 21 ∷ 0 ∷ 1 ∷ []) (codes "pextrw WORD PTR [rax], xmm0, 1")
  pub checked : Shows (102 ∷ 242 ∷ 15 ∷ 56 ∷ 241 ∷ 195 ∷ []) (codes "crc32 eax, bx")
  pub fenced : Shows (15 ∷ 174 ∷ 232 ∷ []) (codes "lfence")
  pub nothing_wide : Shows (15 ∷ 31 ∷ 64 ∷ 0 ∷ []) (codes "nop DWORD PTR [rax]")
