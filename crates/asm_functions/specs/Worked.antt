-- Steps that were worked out by hand.
use Rattle.std.specs.Prelude.{◌≡◌, ℕ, true, false, List, [], ◌∷◌, None, Some}
use Rattle.asm_base.specs.declared.faults.Note.TheVariants.{CfiIgnored, ValueTruncated}
use Rattle.asm_base.specs.declared.notes.Noted.{Noted}
use Rattle.asm_base.specs.declared.places.Place.{Place}
use Rattle.asm_base.specs.declared.positions.Pos.{Pos}
use Rattle.asm_symbols.specs.declared.entries.Kind.TheVariants.{Function, Object}
use Rattle.insn_effects.specs.Flows.{onward, jumps, calls, through}
use Rattle.code_functions.specs.Recorded.{Recorded}
use Rattle.code_functions.specs.Seen.{SeenItem, data_item, padding_item, target_field}
use Rattle.asm_functions.specs.Following.{is_function, data_since, align_item}
use Rattle.asm_functions.specs.FollowedSource.{first_ignored, with_remark}

-- a line of the source
abbrev pub on_line : ℕ → Pos
on_line line = record { file = 0; line = line }

-- a place after so many plain bytes
abbrev pub at_byte : ℕ → Place
at_byte offset = record { item = 0; offset = offset }

-- the functions are `f` alone, of symbol 5, which begins in line 2 in section 0 and is open
abbrev pub f_open : List SeenItem → List (Recorded SeenItem)
f_open items = record { symbol = 5; pos = on_line 2; section = 0; start = at_byte 0; stop = None; items = items } ∷ []

-- the note of a value that was cut in this line
abbrev pub cut_in : ℕ → Noted
cut_in line = record { note = ValueTruncated; pos = on_line line }

-- the remark on a directive that was ignored in this line
abbrev pub remark_in : ℕ → Noted
remark_in line = record { note = CfiIgnored; pos = on_line line }

-- what statements do, and the notes
pub record WorkedSteps : Type 0 where
  -- `.type f,@function`, `.type f,@object`, and no `.type`
  pub said : is_function (Some Function) ≡ true
  pub object : is_function (Some Object) ≡ false
  pub silent : is_function None ≡ false
  -- f: .byte 1, which moves the end by a byte, and `.zero 0`, which may not
  pub byte : data_since true (on_line 2) 0 (at_byte 0) (at_byte 1) (f_open []) ≡ f_open (data_item (on_line 2) (at_byte 0) ∷ [])
  pub empty : data_since true (on_line 3) 0 (at_byte 4) (at_byte 4) (f_open []) ≡ f_open (data_item (on_line 3) (at_byte 4) ∷ [])
  -- `.byte` alone puts nothing, and data in another section are not of f
  pub bare : data_since false (on_line 3) 0 (at_byte 4) (at_byte 4) (f_open []) ≡ f_open []
  pub elsewhere : data_since true (on_line 3) 1 (at_byte 4) (at_byte 5) (f_open []) ≡ f_open []
  -- `.ident` where f is in `.comment`
  pub comment : data_since false (on_line 3) 0 (at_byte 4) (at_byte 9) (f_open []) ≡ f_open (data_item (on_line 3) (at_byte 4) ∷ [])
  -- `.p2align 3`, `.p2align 3,0x90` and `.p2align 3,0x190` in code, and the first elsewhere
  pub padding : align_item true None (on_line 3) (at_byte 1) ≡ padding_item (on_line 3) (at_byte 1)
  pub filled : align_item true (Some 144) (on_line 3) (at_byte 1) ≡ padding_item (on_line 3) (at_byte 1)
  pub whole : align_item true (Some 400) (on_line 3) (at_byte 1) ≡ data_item (on_line 3) (at_byte 1)
  pub in_data : align_item false None (on_line 3) (at_byte 1) ≡ data_item (on_line 3) (at_byte 1)
  -- the field of `call g`, `je g` and `jmp g` is the next one; `call *g(%rip)` and `mov g,%eax` have none of a target
  pub call : target_field calls 3 4 ≡ Some 3
  pub branch : target_field (jumps true) 0 1 ≡ Some 0
  pub jump : target_field (jumps false) 0 1 ≡ Some 0
  pub indirect : target_field through 3 4 ≡ None
  pub plain : target_field onward 3 4 ≡ None
  -- `.cfi_startproc` in line 2, behind one warning, and `.cfi_endproc` in line 6
  pub first : first_ignored (Some (record { pos = on_line 2; before = 1 })) (record { pos = on_line 6; before = 2 }) ≡ Some (record { pos = on_line 2; before = 1 })
  pub noted : with_remark false (Some (record { pos = on_line 2; before = 1 })) (cut_in 1 ∷ cut_in 4 ∷ []) ≡ cut_in 1 ∷ remark_in 2 ∷ cut_in 4 ∷ []
  pub quiet : with_remark true (Some (record { pos = on_line 2; before = 0 })) [] ≡ []
  pub unmarked : with_remark false None (cut_in 1 ∷ []) ≡ cut_in 1 ∷ []
