-- Functions that were worked out by hand: what statements do to them, with numbers in place of items.
use Rattle.std.specs.Prelude.{◌≡◌, ◌==◌, ℕ, true, false, List, [], ◌∷◌, Option, None, Some, if◌then◌else◌}
use Rattle.asm_base.specs.declared.places.Place.{Place}
use Rattle.asm_base.specs.declared.positions.Pos.{Pos}
use Rattle.code_functions.specs.Recorded.{Recorded, begun, added, is_split, all_closed, closed_of}

-- a line of the source
abbrev pub on_line : ℕ → Pos
on_line line = record { file = 0; line = line }

-- a place after so many plain bytes
abbrev pub at : ℕ → Place
at offset = record { item = 0; offset = offset }

-- where sections end: the first behind 6 bytes, all others behind 9
abbrev pub six_and_nine : ℕ → Place
six_and_nine section = if section == 0 then at 6 else at 9

-- the function of a symbol that begins at the first place of a section
abbrev pub shown : (symbol line section : ℕ) → Option Place → List ℕ → Recorded ℕ
shown symbol line section stop items =
    record { symbol = symbol; pos = on_line line; section = section; start = at 0; stop = stop; items = items }

-- f is symbol 5 and begins in line 2 in section 0
abbrev pub f_begun : List (Recorded ℕ)
f_begun = begun 5 (on_line 2) 0 (at 0) []

-- g is symbol 7, and begins in line 3 in a section, once the item 11 was put into section 0
abbrev pub g_begun : (section : ℕ) → List (Recorded ℕ)
g_begun section = begun 7 (on_line 3) section (at 0) (added 0 11 f_begun)

-- what statements do to functions
pub record WorkedFunctions : Type 0 where
  -- f: push %rbp; mov %rsp,%rbp; pop %rbp; ret; .size f,.-f; nop
  pub sized : added 0 15 (closed_of 5 six_and_nine (added 0 14 (added 0 13 (added 0 12 (added 0 11 f_begun)))))
      ≡ shown 5 2 0 (Some (at 6)) (11 ∷ 12 ∷ 13 ∷ 14 ∷ []) ∷ []
  -- a function without items
  pub empty : closed_of 5 six_and_nine f_begun ≡ shown 5 2 0 (Some (at 6)) [] ∷ []
  -- f: nop; .data; nop
  pub split : is_split 1 (added 0 11 f_begun) ≡ true
  pub unsplit : is_split 0 (added 0 11 f_begun) ≡ false
  -- f: nop; .size f,.-f; .data; nop
  pub sized_before : is_split 1 (closed_of 5 six_and_nine (added 0 11 f_begun)) ≡ false
  -- f: nop; .data; .byte 1
  pub data_elsewhere : added 1 21 (added 0 11 f_begun) ≡ shown 5 2 0 None (11 ∷ []) ∷ []
  -- f: nop; g: nop, where both were said to be functions before
  pub overlapping : added 0 12 (g_begun 0) ≡ shown 5 2 0 None (11 ∷ 12 ∷ []) ∷ shown 7 3 0 None (12 ∷ []) ∷ []
  -- the first of them ends
  pub one_sized : added 0 13 (closed_of 5 six_and_nine (added 0 12 (g_begun 0)))
      ≡ shown 5 2 0 (Some (at 6)) (11 ∷ 12 ∷ []) ∷ shown 7 3 0 None (12 ∷ 13 ∷ []) ∷ []
  -- `.type` of another function ends both, each where its section does
  pub said : added 1 22 (all_closed six_and_nine (added 1 21 (g_begun 1)))
      ≡ shown 5 2 0 (Some (at 6)) (11 ∷ []) ∷ shown 7 3 1 (Some (at 9)) (21 ∷ []) ∷ []
  -- a function ends once, and the size of another symbol ends none
  pub again : all_closed six_and_nine (closed_of 5 (λ section. at 4) f_begun) ≡ shown 5 2 0 (Some (at 4)) [] ∷ []
  pub another : closed_of 6 six_and_nine f_begun ≡ f_begun
