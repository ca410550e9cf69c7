-- CIEs (common information entries) as pieces: one for the procedures whose pointers are written alike and that have one personality (psABI for AMD64,
-- section 4.2.4).
use Rattle.std.specs.Prelude.{◌-◌, ◌^◌, ◌==◌, ◌&&◌, Bool, true, false, List, [], ◌∷◌, Option, None, Some, if◌then◌else◌}
use Rattle.std.specs.Cmp.Lexicographic.{pointwise}
use Rattle.std.specs.Option.{option_map}
use Rattle.asm_expr.specs.declared.forms.Term.{Term}
use Rattle.asm_expr.specs.Forms.{Form, plus_times, symbol_form}
use Rattle.asm_frags.specs.declared.fields.FieldSize.{FieldSize}
use Rattle.asm_frags.specs.declared.fields.FieldSize.TheVariants.{Four, Eight}
use Rattle.asm_frags.specs.Fields.{own_place}
use Rattle.cfi_directives.specs.declared.frames.Frame.{Frame}
use Rattle.cfi_directives.specs.declared.frames.Pointer.{Pointer}
use Rattle.cfi_rows.specs.declared.commons.CommonForm.{CommonForm}
use Rattle.cfi_rows.specs.declared.pointers.PointerEncoding.{PointerEncoding}
use Rattle.cfi_rows.specs.Commons.{common_head, common_tail}
use Rattle.cfi_rows.specs.Pointers.{encoding_byte, is_relative, is_wide}
use Rattle.table_pieces.specs.Pieces.{Piece, plain, field}

-- how a pointer is written, where there is one
abbrev pub encoding_if : Option Pointer → Option PointerEncoding
encoding_if pointer = option_map (λ pointer. pointer.encoding) pointer

-- what the CIE of a procedure says
abbrev pub form_of : Frame → CommonForm
form_of frame = record { personality = encoding_if frame.personality; lsda = encoding_if frame.lsda }

-- the same symbol, as often
abbrev pub same_term : Term → Term → Bool
same_term one other = (one.symbol == other.symbol) && (one.coefficient == other.coefficient)

-- the same terms in the same order
abbrev pub same_terms : List Term → List Term → Bool
same_terms one other = pointwise same_term one other

-- the same form
abbrev pub same_form : Form → Form → Bool
same_form one other = (one.constant == other.constant) && same_terms one.terms other.terms

-- the same encoding, or none
abbrev pub same_encoding : Option PointerEncoding → Option PointerEncoding → Bool
same_encoding None None = true
same_encoding None (Some other) = false
same_encoding (Some one) None = false
same_encoding (Some one) (Some other) = encoding_byte one == encoding_byte other

-- both lead to the same, and are written alike
abbrev pub same_pointer : Option Pointer → Option Pointer → Bool
same_pointer None None = true
same_pointer None (Some other) = false
same_pointer (Some one) None = false
same_pointer (Some one) (Some other) = (encoding_byte one.encoding == encoding_byte other.encoding) && same_form one.target other.target

-- both procedures have one CIE: their pointers to LSDAs are written alike, and they have one personality
abbrev pub share_common : Frame → Frame → Bool
share_common one other =
    same_encoding (encoding_if one.lsda) (encoding_if other.lsda) && same_pointer one.personality other.personality

-- a pointer of this encoding has so many bytes
abbrev pub pointer_field : PointerEncoding → FieldSize
pointer_field encoding = if is_wide encoding then Eight else Four

-- the form of a pointer as it is written: less its own place, where it counts from there
abbrev pub pointer_form : Pointer → Form
pointer_form pointer =
    if is_relative pointer.encoding then plus_times pointer.target (2 ^ 64 - 1) (symbol_form own_place) else pointer.target

-- a pointer before other pieces, where there is one
abbrev pub with_pointer : Option Pointer → List Piece → List Piece
with_pointer None pieces = pieces
with_pointer (Some pointer) pieces = field (pointer_field pointer.encoding) (pointer_form pointer) ∷ pieces

-- what the CIE of a procedure begins with
abbrev pub head_piece : Frame → Piece
head_piece frame = plain (common_head (form_of frame))

-- the rest of it: the pointer to the personality, and what stands behind it
abbrev pub rest_pieces : Frame → List Piece
rest_pieces frame = with_pointer frame.personality (plain (common_tail (form_of frame)) ∷ [])

-- the CIE of a procedure
abbrev pub common_pieces : Frame → List Piece
common_pieces frame = head_piece frame ∷ rest_pieces frame
