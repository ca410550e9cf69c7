-- The texts of parts and of sums: from what is in the brackets of memory to the tokens that spell it (GNU as manual, "Memory References").
use Rattle.std.specs.Prelude.{◌≡◌, ℕ, ◌==◌, ◌&&◌, ◌||◌, Bool, true, false, List, [], ◌∷◌, ◌++◌, Some, None, slice_get}
use Rattle.asm_base.specs.Tokens.{SpelledToken}
use Rattle.att_operands.specs.declared.registers.NamedRegister.{NamedRegister}
use Rattle.att_operands.specs.Registers.{register_of}
use Rattle.att_operands.specs.Marks.{mark_by}
use Rattle.att_operands.specs.Addresses.{scale_by}
use Rattle.att_operands.specs.Spells.{IsMark}
use Rattle.intel_sums.specs.declared.parts.Part.{Part}
use Rattle.intel_sums.specs.declared.parts.Part.TheVariants.{Plain, Scaled}
use Rattle.intel_sums.specs.declared.parts.Parts.{Parts}
use Rattle.intel_sums.specs.Parts.{part_ends, part_in, with_part}
use Rattle.intel_sums.specs.Sums.{plus_at, is_loose, is_register, depth_behind, adds}

-- The text writes a part of an address: a register, or a register times a scale.
pub data WritesPart : (part : Part) (text : List SpelledToken) → Type 0 where
  -- `register`
  alone : (named : NamedRegister) (word : SpelledToken) → register_of word.bytes ≡ Some named → WritesPart (Plain named) (word ∷ [])
  -- `register*scale`
  times : (named : NamedRegister) (scale : ℕ) (word star digits : SpelledToken) → register_of word.bytes ≡ Some named → IsMark 42 star
      → scale_by (Some digits) ≡ Some scale → WritesPart (Scaled named scale) (word ∷ star ∷ digits ∷ [])
  -- `scale*register`
  of_scale : (named : NamedRegister) (scale : ℕ) (digits star word : SpelledToken) → register_of digits.bytes ≡ None → scale_by (Some digits) ≡ Some scale
      → IsMark 42 star → register_of word.bytes ≡ Some named → WritesPart (Scaled named scale) (digits ∷ star ∷ word ∷ [])

-- The text, of which so many parentheses are open, writes a sum up to its `]`. Its registers are parts of the address, from these to those; the text without
-- them is left, and a `+` stands for the `[`. The bracket opens outside of parentheses; before it there is no register.
pub data WritesSum : (opened : Bool) (depth : ℕ) (from to : Parts) (left text : List SpelledToken) → Type 0 where
  -- nothing more
  done : (parts : Parts) → WritesSum true 0 parts parts [] []
  -- `[` or `+`, and a part of the address
  register_next : (opened : Bool) (sign : SpelledToken) (part : Part) (from to : Parts) (left written behind text : List SpelledToken)
      → adds opened (mark_by (Some sign)) ≡ true → WritesPart part written → part_ends (slice_get behind 0) ≡ true
      → WritesSum true 0 (with_part from part) to left behind → text ≡ sign ∷ (written ++ behind) → WritesSum opened 0 from to left text
  -- `[` or `+`, and no part of the address
  summand : (opened : Bool) (sign : SpelledToken) (from to : Parts) (left behind : List SpelledToken)
      → adds opened (mark_by (Some sign)) ≡ true → part_in behind ≡ None
      → WritesSum true 0 from to left behind → WritesSum opened 0 from to (plus_at sign ∷ left) (sign ∷ behind)
  -- another token, which is no register, and outside of parentheses binds no less tightly than `+`
  other : (opened : Bool) (depth next : ℕ) (token : SpelledToken) (from to : Parts) (left behind : List SpelledToken)
      → ((depth == 0) && adds opened (mark_by (Some token))) ≡ false → (is_register token || ((depth == 0) && is_loose token)) ≡ false
      → depth_behind depth (mark_by (Some token)) ≡ Some next
      → WritesSum opened next from to left behind → WritesSum opened depth from to (token ∷ left) (token ∷ behind)
