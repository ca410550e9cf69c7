-- The addresses of labels, and where direct jumps lead.
use Rattle.std.specs.Prelude.{◌≡◌, ◌<◌, ℕ, ◌+◌, ◌^◌, List, All, Option, Some, Ok, slice_get}
use Rattle.asm_base.specs.Tokens.{SpelledToken}
use Rattle.asm_base.specs.declared.positions.Pos.{Pos}
use Rattle.asm_expr.specs.Forms.{wrapped}
use Rattle.asm_symbols.specs.SymbolMap.{SymbolMap}
use Rattle.asm_frags.specs.declared.fields.Field.{Field}
use Rattle.asm_frags.specs.Substituting.{substituted_field}
use Rattle.asm_frags.specs.Writing.{LooseSection}
use Rattle.assigned_forms.specs.Linked.{linked}
use Rattle.item_bytes.specs.declared.jumps.Condition.{Condition}
use Rattle.asm_relax.specs.Final.{address_of}
use Rattle.asm_relax.specs.Settling.{LooseSections, LaidSections, layout_of}
use Rattle.asm_uses.specs.Places.{spot_at}
use Rattle.asm_values.specs.State.{Placed}
use Rattle.att_insns.specs.InsnTexts.{InsnText}
use Rattle.asm_place.specs.Instructions.{Grows}
use Rattle.asm_place.specs.JumpPlaces.{IsJumpPut, jump_form, items_so_far, jump_field}
use Rattle.place_laws.specs.Ends.{items_in, place_in, size_at}
use Rattle.place_laws.specs.Branches.{IsBranchTo, Leads}

-- the layout is one of later sections, which have grown from these, and whose items stand after
-- fewer than 2^64 plain bytes
pub record IsLowLater (symbols : SymbolMap) (sections : List LooseSection) (laid : LaidSections)
    : Type 0 where
  pub later : LooseSections
  pub grows : Grows sections later
  pub is : layout_of symbols later ≡ Ok laid
  pub low : All (λ section. All (λ item. item.offset < 2 ^ 64) section.items) later

-- a label that is put next into a section has the address of the place there
abbrev pub SpotsAreAddresses : Type 0
SpotsAreAddresses = (symbols : SymbolMap) (sections : List LooseSection) (laid : LaidSections)
    → (number : ℕ) (section : LooseSection) → IsLowLater symbols sections laid
    → slice_get sections number ≡ Some section
    → address_of laid number (spot_at sections number).place.place.item
    (spot_at sections number).place.place.offset
    ≡ wrapped (place_in laid number sections)

-- the field of a jump that was put, as it is in the layout
abbrev pub laid_jump_field : SymbolMap → (pos : Pos) (tokens : List SpelledToken) (text : InsnText)
    (condition : Option Condition) (before placed : Placed)
    → IsJumpPut pos tokens text condition before placed → Field
laid_jump_field symbols pos tokens text condition before placed put =
    substituted_field (linked symbols) (jump_field pos text (jump_form put.jump.forms) before)

-- the value of a direct jump to a label of its section, counted from the end of the jump, leads to
-- the label and the number after it
abbrev pub JumpsLead : Type 0
JumpsLead = (symbols : SymbolMap) (laid : LaidSections) (pos : Pos) (tokens : List SpelledToken)
    → (text : InsnText) (condition : Option Condition) (before placed : Placed)
    → (put : IsJumpPut pos tokens text condition before placed) (symbol number address : ℕ)
    → IsLowLater symbols placed.sections laid
    → IsBranchTo symbols laid
    (laid_jump_field symbols pos tokens text condition before placed put) symbol number address
    → Leads symbols laid (laid_jump_field symbols pos tokens text condition before placed put)
    (place_in laid before.current before.sections)
    (size_at (items_in laid before.current) (items_so_far before)) (address + number)
