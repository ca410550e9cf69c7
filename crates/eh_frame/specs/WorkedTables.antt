-- Frame tables worked out by hand, for sources that stand at the beginning of `.text`.
use Rattle.std.specs.Prelude.{◌≡◌, ℕ, ◌+◌, ◌-◌, pos, neg_ℤ, List, [], ◌∷◌, ◌++◌, codes, map, replicate, sum, take, Option, None, Some, Result, Ok, Err, slice_get}
use Rattle.std.specs.Option.{option_map, option_and_then}
use Rattle.asm_base.specs.declared.causes.FragCause.{FragCause}
use Rattle.asm_base.specs.declared.causes.FragCause.TheVariants.{BadSection}
use Rattle.asm_expr.specs.declared.forms.Term.{Term}
use Rattle.asm_expr.specs.declared.naming.Name.TheVariants.{Plain}
use Rattle.asm_expr.specs.Forms.{symbol_form}
use Rattle.asm_frags.specs.declared.fields.Field.{Field}
use Rattle.asm_frags.specs.Alignments.{alignment_of_all}
use Rattle.asm_frags.specs.SectionOf.{new_section}
use Rattle.asm_frags.specs.Sections.{section_flags}
use Rattle.asm_frags.specs.Writing.{LooseSection}
use Rattle.asm_symbols.specs.declared.entries.Meaning.{Meaning}
use Rattle.asm_symbols.specs.declared.entries.Meaning.TheVariants.{Label}
use Rattle.asm_symbols.specs.declared.entries.Symbol.{Symbol}
use Rattle.asm_symbols.specs.Interning.{with_name}
use Rattle.asm_symbols.specs.SymbolMap.{nothing_named}
use Rattle.cfi_directives.specs.declared.frames.Frame.{Frame}
use Rattle.cfi_directives.specs.declared.frames.PlacedOp.{PlacedOp}
use Rattle.asm_base.specs.declared.places.Place.{Place}
use Rattle.asm_base.specs.declared.places.SectionPlace.{SectionPlace}
use Rattle.cfi_rows.specs.declared.rows.CfiOp.{CfiOp}
use Rattle.cfi_rows.specs.declared.rows.CfiOp.TheVariants.{DefCfa, DefCfaRegister, DefCfaOffset, Set}
use Rattle.cfi_rows.specs.declared.rows.Rule.TheVariants.{Offset}
use Rattle.cfi_rows.specs.declared.pointers.PointerEncoding.TheVariants.{Relative4, Indirect4}
use Rattle.cfi_rows.specs.Commons.{common_bytes, common_entry}
use Rattle.table_pieces.specs.Made.{Made, pieces_bytes}
use Rattle.table_pieces.specs.Pieces.{Tables, tables_of}
use Rattle.eh_frame.specs.Commons.{form_of}
use Rattle.eh_frame.specs.Entries.{counted_pieces, length_piece}
use Rattle.eh_frame.specs.Placing.{placed}

-- a place of `.text`
abbrev pub at_place : ℕ → ℕ → Place
at_place item offset = record { item = item; offset = offset }

-- an instruction at a place
abbrev pub op_at : Place → CfiOp → PlacedOp
op_at place op = record { place = place; op = op }

-- a procedure from line 3 on
abbrev pub procedure : Place → List PlacedOp → Frame
procedure stop ops =
    record { pos = record { file = 0; line = 3 }; section = 0; start = at_place 0 0; stop = Some stop; personality = None; lsda = None; ops = ops }

-- .cfi_startproc; push %rbp; .cfi_def_cfa_offset 16; .cfi_offset 6,-16; mov %rsp,%rbp; .cfi_def_cfa_register 6; pop %rbp; .cfi_def_cfa 7,8; ret;
-- .cfi_endproc
abbrev pub framed : Frame
framed = procedure (at_place 1 6) (
    op_at (at_place 1 1) (DefCfaOffset (pos 16)) ∷ op_at (at_place 1 1) (Set 6 (Offset (neg_ℤ (pos 16)))) ∷ op_at (at_place 1 4) (DefCfaRegister 6)
    ∷ op_at (at_place 1 5) (DefCfa 7 (pos 8)) ∷ []
    )

-- .cfi_startproc; .zero 63 or .zero 64; .cfi_def_cfa_offset 16; .cfi_endproc
abbrev pub spaced : Frame
spaced = procedure (at_place 1 0) (op_at (at_place 1 0) (DefCfaOffset (pos 16)) ∷ [])

-- the same with a personality and an LSDA
abbrev pub pointed : Frame
pointed = record spaced {
  personality = Some (record { encoding = Indirect4; target = symbol_form 0 });
  lsda = Some (record { encoding = Relative4; target = symbol_form 0 });
}

-- .cfi_startproc; nop; .cfi_endproc
abbrev pub bare : Frame
bare = procedure (at_place 1 1) []

-- .cfi_startproc; .cfi_personality 0x9b, p; nop; .cfi_endproc
abbrev pub personal : Frame
personal = record bare { personality = Some (record { encoding = Indirect4; target = symbol_form 0 }) }

-- the CIE is first in the section, which has number 1
abbrev pub common_place : SectionPlace
common_place = record { section = 1; place = at_place 0 0 }

-- the only entry, as layout makes its pieces
abbrev pub entry_made : Frame → List Made → List ℕ
entry_made frame mades = pieces_bytes (length_piece common_place ∷ counted_pieces common_place 3 frame) mades

-- a piece that holds this value
abbrev pub valued : ℕ → Made
valued value = record { size = 0; value = value }

-- a piece whose bytes are known before layout
abbrev pub known : Made
known = valued 0

-- a piece of this size that holds this value
abbrev pub sized : ℕ → ℕ → Made
sized size value = record { size = size; value = value }

-- the section `.text` of a source that puts nothing
abbrev pub text : LooseSection
text = new_section (codes ".text") (section_flags 6) 1 0

-- no symbol, and `.text` with these sections behind it
abbrev pub tables_with : List LooseSection → Tables
tables_with others = tables_of nothing_named (text ∷ others)

-- an empty `.eh_frame` of this section type
abbrev pub table_of_type : ℕ → LooseSection
table_of_type kind = new_section (codes ".eh_frame") (section_flags 2) kind 0

-- something of section 1, where the table is placed
abbrev pub of_table : {A : Type 0} → (LooseSection → A) → Result Tables FragCause → Option A
of_table tell (Ok tables) = option_map tell (slice_get tables.sections 1)
of_table tell (Err fault) = None

-- what a section header says
abbrev pub header : LooseSection → List ℕ × ℕ × ℕ × ℕ
header held = (held.name, held.flags.0, held.kind, held.entry_size)

-- zeros where fields stand
abbrev pub fields_blank : List ℕ
fields_blank = replicate 16 0

-- three procedures, of which the second has a personality: two CIEs, where p is the only symbol
abbrev pub two_commons : Result Tables FragCause
two_commons = placed (bare ∷ personal ∷ bare ∷ []) (tables_of (with_name nothing_named (Plain (codes "p"))) (text ∷ []))

-- the sizes of their items: plain bytes take none, and each FDE is padded from 17 bytes to 20
abbrev pub padded : List ℕ
padded = 0 ∷ 3 ∷ 0 ∷ 3 ∷ 0 ∷ 3 ∷ []

-- how far this field stands behind a label of its section
abbrev pub behind_label : Field → Meaning → Option ℕ
behind_label field (Label spot) =
    Some (field.offset + sum (take field.item padded) - (spot.place.place.offset + sum (take spot.place.place.item padded)))
behind_label field meaning = None

-- the distance back that a field holds: from the label that its form takes away to its own place
abbrev pub distance_back : List Symbol → Field → List Term → Option ℕ
distance_back symbols field (own ∷ label ∷ []) = option_and_then (λ symbol. behind_label field symbol.meaning) (slice_get symbols label.symbol)
distance_back symbols field terms = None

-- what the field with this index in section 1 holds
abbrev pub back_at : Tables → ℕ → Option ℕ
back_at tables index =
    option_and_then (λ held. option_and_then (λ field. distance_back tables.symbols.symbols field field.form.terms) (slice_get held.fields index))
    (slice_get tables.sections 1)

-- the same of fields with these indices
abbrev pub backs : List ℕ → Result Tables FragCause → List (Option ℕ)
backs indices (Ok tables) = map (back_at tables) indices
backs indices (Err fault) = []

-- the bytes of entries, and the section that they are put into
pub record WorkedTables : Type 0 where
  pub framed_entry : entry_made framed (valued 28 ∷ valued 28 ∷ valued 0 ∷ valued 6 ∷ known ∷ sized 1 1 ∷ known ∷ known ∷ known ∷ known ∷ known ∷ known ∷ known ∷ sized 3 0 ∷ [])
      ≡ 0x1c ∷ 0 ∷ 0 ∷ 0 ∷ 0x1c ∷ 0 ∷ 0 ∷ 0 ∷ 0 ∷ 0 ∷ 0 ∷ 0 ∷ 6 ∷ 0 ∷ 0 ∷ 0 ∷ 0 ∷ 0x41 ∷ 0x0e ∷ 0x10 ∷ 0x86 ∷ 0x02 ∷ 0x43 ∷ 0x0d ∷ 0x06 ∷ 0x41 ∷ 0x0c ∷ 0x07 ∷ 0x08 ∷ 0 ∷ 0 ∷ 0 ∷ []
  pub after_63 : entry_made spaced (valued 20 ∷ valued 28 ∷ valued 0 ∷ valued 63 ∷ known ∷ sized 1 63 ∷ known ∷ sized 4 0 ∷ [])
      ≡ 0x14 ∷ 0 ∷ 0 ∷ 0 ∷ 0x1c ∷ 0 ∷ 0 ∷ 0 ∷ 0 ∷ 0 ∷ 0 ∷ 0 ∷ 63 ∷ 0 ∷ 0 ∷ 0 ∷ 0 ∷ 0x7f ∷ 0x0e ∷ 0x10 ∷ 0 ∷ 0 ∷ 0 ∷ 0 ∷ []
  pub after_64 : entry_made spaced (valued 20 ∷ valued 28 ∷ valued 0 ∷ valued 64 ∷ known ∷ sized 2 64 ∷ known ∷ sized 3 0 ∷ [])
      ≡ 0x14 ∷ 0 ∷ 0 ∷ 0 ∷ 0x1c ∷ 0 ∷ 0 ∷ 0 ∷ 0 ∷ 0 ∷ 0 ∷ 0 ∷ 64 ∷ 0 ∷ 0 ∷ 0 ∷ 0 ∷ 0x02 ∷ 0x40 ∷ 0x0e ∷ 0x10 ∷ 0 ∷ 0 ∷ 0 ∷ []
  pub nothing : placed [] (tables_with (table_of_type 8 ∷ [])) ≡ Ok (tables_with (table_of_type 8 ∷ []))
  pub refused : placed (framed ∷ []) (tables_with (table_of_type 8 ∷ [])) ≡ Err BadSection
  pub bytes : of_table (λ held. held.bytes) (placed (spaced ∷ []) (tables_with [])) ≡ Some (common_bytes ++ (fields_blank ++ (0x00 ∷ 0x0e ∷ 0x10 ∷ [])))
  pub offsets : of_table (λ held. map (λ field. field.offset) held.fields) (placed (spaced ∷ []) (tables_with [])) ≡ Some (24 ∷ 28 ∷ 32 ∷ 36 ∷ 41 ∷ [])
  pub items : of_table (λ held. map (λ item. item.offset) held.items) (placed (spaced ∷ []) (tables_with [])) ≡ Some (0 ∷ 41 ∷ 41 ∷ 43 ∷ [])
  pub aligned : of_table (λ held. alignment_of_all held.items) (placed (spaced ∷ []) (tables_with [])) ≡ Some 8
  pub made : of_table header (placed (spaced ∷ []) (tables_with [])) ≡ Some (codes ".eh_frame", 2, 1, 0)
  pub behind : of_table (λ held. held.bytes) (placed (spaced ∷ []) (tables_with (record (table_of_type 1) { bytes = 7 ∷ 0 ∷ [] } ∷ [])))
      ≡ Some (7 ∷ 0 ∷ common_bytes ++ (fields_blank ++ (0x00 ∷ 0x0e ∷ 0x10 ∷ [])))
  pub pointed_bytes : of_table (λ held. held.bytes) (placed (pointed ∷ []) (tables_with []))
      ≡ Some (common_entry (form_of pointed) (replicate 4 0) ++ (fields_blank ++ (0x04 ∷ (replicate 4 0 ++ (0x0e ∷ 0x10 ∷ [])))))
  pub pointed_offsets : of_table (λ held. map (λ field. field.offset) held.fields) (placed (pointed ∷ []) (tables_with []))
      ≡ Some (19 ∷ 32 ∷ 36 ∷ 40 ∷ 44 ∷ 49 ∷ 53 ∷ [])
  pub shared : of_table (λ held. held.bytes) (placed (spaced ∷ pointed ∷ spaced ∷ []) (tables_with []))
      ≡ Some (common_bytes ++ (fields_blank ++ (0x00 ∷ 0x0e ∷ 0x10 ∷ []))
      ++ (common_entry (form_of pointed) (replicate 4 0) ++ (fields_blank ++ (0x04 ∷ (replicate 4 0 ++ (0x0e ∷ 0x10 ∷ [])))))
      ++ (fields_blank ++ (0x00 ∷ 0x0e ∷ 0x10 ∷ [])))
  pub two_commons_bytes : of_table (λ held. held.bytes) two_commons
      ≡ Some (common_bytes ++ (fields_blank ++ 0 ∷ []) ++ (common_entry (form_of personal) (replicate 4 0) ++ (fields_blank ++ 0 ∷ [])) ++ (fields_blank ++ 0 ∷ []))
  pub two_commons_back : backs (1 ∷ 6 ∷ 10 ∷ []) two_commons ≡ Some 0x1c ∷ Some 0x20 ∷ Some 0x60 ∷ []
