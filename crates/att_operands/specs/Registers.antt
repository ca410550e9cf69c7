-- The registers by their names (Intel SDM, volume 1, sections 3.4.1 and 10.2.2; volume 2, section 3.1.1.1).
use Rattle.std.specs.Prelude.{ℕ, ◌+◌, Bool, List, [], ◌∷◌, ◌++◌, Option, option_map, codes}
use Rattle.std.specs.List.{find}
use Rattle.std.specs.Str.{str_eq_ignore_ascii_case}
use Rattle.x86_insn.specs.declared.registers.Class.{Class}
use Rattle.x86_insn.specs.declared.registers.Class.TheVariants.{Byte, High, Word, Long, Quad, Xmm}
use Rattle.x86_insn.specs.declared.insns.Segment.TheVariants.{Fs, Gs}
use Rattle.att_operands.specs.declared.registers.NamedRegister.{NamedRegister}
use Rattle.att_operands.specs.declared.registers.NamedRegister.TheVariants.{Plain, Rip, Segment}

-- a text, and what it names
pub record RegisterName : Type 0 where
  pub text : List ℕ
  pub named : NamedRegister

-- a text that names this
abbrev pub names : List ℕ → NamedRegister → RegisterName
names text named = record { text = text; named = named }

-- the registers of a class by their texts, numbered from this number on
abbrev pub numbered : Class → ℕ → List (List ℕ) → List RegisterName
numbered class number [] = []
numbered class number (text ∷ texts) = names text (Plain (record { class = class; number = number })) ∷ numbered class (number + 1) texts

-- the 64-bit registers
abbrev pub quad_names : List RegisterName
quad_names = numbered Quad 0 (codes "rax" ∷ codes "rcx" ∷ codes "rdx" ∷ codes "rbx" ∷ codes "rsp" ∷ codes "rbp" ∷ codes "rsi" ∷ codes "rdi"
    ∷ codes "r8" ∷ codes "r9" ∷ codes "r10" ∷ codes "r11" ∷ codes "r12" ∷ codes "r13" ∷ codes "r14" ∷ codes "r15" ∷ [])

-- the 32-bit registers
abbrev pub long_names : List RegisterName
long_names = numbered Long 0 (codes "eax" ∷ codes "ecx" ∷ codes "edx" ∷ codes "ebx" ∷ codes "esp" ∷ codes "ebp" ∷ codes "esi" ∷ codes "edi"
    ∷ codes "r8d" ∷ codes "r9d" ∷ codes "r10d" ∷ codes "r11d" ∷ codes "r12d" ∷ codes "r13d" ∷ codes "r14d" ∷ codes "r15d" ∷ [])

-- the 16-bit registers
abbrev pub word_names : List RegisterName
word_names = numbered Word 0 (codes "ax" ∷ codes "cx" ∷ codes "dx" ∷ codes "bx" ∷ codes "sp" ∷ codes "bp" ∷ codes "si" ∷ codes "di"
    ∷ codes "r8w" ∷ codes "r9w" ∷ codes "r10w" ∷ codes "r11w" ∷ codes "r12w" ∷ codes "r13w" ∷ codes "r14w" ∷ codes "r15w" ∷ [])

-- the 8-bit registers
abbrev pub byte_names : List RegisterName
byte_names = numbered Byte 0 (codes "al" ∷ codes "cl" ∷ codes "dl" ∷ codes "bl" ∷ codes "spl" ∷ codes "bpl" ∷ codes "sil" ∷ codes "dil"
    ∷ codes "r8b" ∷ codes "r9b" ∷ codes "r10b" ∷ codes "r11b" ∷ codes "r12b" ∷ codes "r13b" ∷ codes "r14b" ∷ codes "r15b" ∷ [])

-- the second bytes of the first four registers
abbrev pub high_names : List RegisterName
high_names = numbered High 4 (codes "ah" ∷ codes "ch" ∷ codes "dh" ∷ codes "bh" ∷ [])

-- the 128-bit registers
abbrev pub xmm_names : List RegisterName
xmm_names = numbered Xmm 0 (codes "xmm0" ∷ codes "xmm1" ∷ codes "xmm2" ∷ codes "xmm3" ∷ codes "xmm4" ∷ codes "xmm5" ∷ codes "xmm6" ∷ codes "xmm7"
    ∷ codes "xmm8" ∷ codes "xmm9" ∷ codes "xmm10" ∷ codes "xmm11" ∷ codes "xmm12" ∷ codes "xmm13" ∷ codes "xmm14" ∷ codes "xmm15" ∷ [])

-- what stands in addresses alone
abbrev pub address_names : List RegisterName
address_names = names (codes "rip") Rip ∷ names (codes "fs") (Segment Fs) ∷ names (codes "gs") (Segment Gs) ∷ []

-- all names of registers
unfoldable pub register_names : List RegisterName
register_names = quad_names ++ (long_names ++ (word_names ++ (byte_names ++ (high_names ++ (xmm_names ++ address_names)))))

-- the name has this text, in either case
abbrev pub has_text : List ℕ → RegisterName → Bool
has_text text name = str_eq_ignore_ascii_case text name.text

-- what a text names, in either case
unfoldable pub register_of : List ℕ → Option NamedRegister
register_of text = option_map (λ name. name.named) (find (has_text text) register_names)
