-- The definitions, computed on small items and sections.
use Rattle.std.proofs.Common.{◌≡◌, ℕ, true, false, List, [], ◌∷◌, ◌++◌, None, Some, Result, Ok, Err, refl}
use Rattle.std.specs.Prelude.{codes}
use Rattle.asm_base.specs.Refusals.{◌>>=◌}
use Rattle.asm_base.specs.declared.positions.Pos.{Pos}
use Rattle.asm_expr.specs.Forms.{constant_form}
use Rattle.asm_base.specs.declared.causes.FragCause.{FragCause}
use Rattle.asm_base.specs.declared.causes.FragCause.TheVariants.{BadSection}
use Rattle.asm_frags.specs.declared.fields.FieldSize.TheVariants.{Two, Four}
use Rattle.item_contents.specs.declared.contents.Content.{Content}
use Rattle.item_contents.specs.declared.contents.Content.TheVariants.{Run, Fill, Align, Growing}
use Rattle.item_contents.specs.declared.kinds.Growth.TheVariants.{Leb128}
use Rattle.item_contents.specs.ItemParts.{zeros_up_to}
use Rattle.item_contents.specs.Contents.{unit_of}
use Rattle.asm_frags.specs.Alignments.{alignment_of_all}
use Rattle.asm_frags.specs.KnownExtents.{extent_of}
use Rattle.asm_frags.specs.SectionOf.{new_section}
use Rattle.x86_insn.specs.declared.amounts.FieldKind.TheVariants.{Number}
use Rattle.asm_frags.specs.Fields.{data_role}
use Rattle.asm_frags.specs.Writing.{LooseItem, LooseSection, new_item, item_behind, with_bytes, bytes_put, field_put, growing_put, item_put}
use Rattle.asm_frags.specs.Groups.{groups_of}
use Rattle.asm_frags.specs.Sections.{section_flags, first_sections, new_member, entered, entered_in, put_into}

fill : ℕ → ℕ → ℕ → Content
fill count size value = Fill (record { count = count; size = size; value = value })

align : ℕ → Content
align log = Align (zeros_up_to log)

on_line : ℕ → Pos
on_line line = record { file = 0; line = line }

item : ℕ → Content → LooseItem
item line content = new_item (on_line line) content

greatest : alignment_of_all (item 1 (align 3) ∷ item 2 Run ∷ item 3 (align 5) ∷ item 4 (align 0) ∷ []) ≡ 32
unfolding item align
greatest = refl

-- a fill counts on both sides of a break
known : extent_of (item 1 Run ∷ item 2 (fill 3 2 0) ∷ item 3 (align 4) ∷ item 4 (fill 1 8 0) ∷ []) ≡ record { breaks = 1; bytes = 14 }
unfolding item fill align extent_of
known = refl

text : LooseSection
text = new_section (codes ".text") (section_flags 6) 1 0

-- three bytes, a fill, a byte, and a field of two bytes, each of a line of its own
filled : Result LooseSection FragCause
filled = bytes_put (on_line 1) (1 ∷ 2 ∷ 3 ∷ []) text >>= bytes_put (on_line 2) (4 ∷ []) >>= item_put (item 3 (fill 5 1 9)) >>= bytes_put (on_line 4) (7 ∷ [])
    >>= field_put (on_line 5) 0 Two data_role (constant_form 8)

-- plain bytes go on with the run that is there, and a run begins behind the fill
filled_is : filled ≡ Ok (record {
  name = codes ".text";
  flags = section_flags 6;
  kind = 1;
  entry_size = 0;
  group = None;
  bytes = 1 ∷ 2 ∷ 3 ∷ 4 ∷ 7 ∷ 0 ∷ 0 ∷ [];
  fields = record { pos = on_line 5; item = 3; offset = 5; section = 0; size = Two; role = data_role; in_item = false; form = constant_form 8 } ∷ [];
  items = item_behind 0 (item 1 Run) ∷ item_behind 4 (item 3 (fill 5 1 9)) ∷ item_behind 4 (item 4 Run) ∷ [];
})
unfolding filled text item fill
filled_is = refl

-- a field begins a run too
field_first : field_put (on_line 1) 0 Four data_role (constant_form 0) text ≡ Ok (record text {
  bytes = 0 ∷ 0 ∷ 0 ∷ 0 ∷ [];
  fields = record { pos = on_line 1; item = 1; offset = 0; section = 0; size = Four; role = data_role; in_item = false; form = constant_form 0 } ∷ [];
  items = item 1 Run ∷ [];
})
unfolding text item
field_first = refl

-- a number that grows stands behind the bytes, and its field counts from its end
grown : Result LooseSection FragCause
grown = bytes_put (on_line 1) (7 ∷ []) text >>= growing_put (on_line 2) 0 (Leb128 false) None (constant_form 9)

grown_is : grown ≡ Ok (record text {
  bytes = 7 ∷ [];
  fields = record { pos = on_line 2; item = 2; offset = 1; section = 0; size = Four; role = record { kind = Number; suffix = None; behind = 0 }; in_item = true; form = constant_form 9 } ∷ [];
  items = item 1 Run ∷ item_behind 1 (item 2 (Growing (record { kind = Leb128 false; field = 0 }))) ∷ [];
})
unfolding grown text item
grown_is = refl

first : List LooseSection
first = first_sections

there : entered first (codes ".data") (section_flags 3) 1 0 ≡ Ok (1, first)
unfolding first first_sections
there = refl

one_more : entered first (codes "foo") (section_flags 2) 1 0 ≡ Ok (3, first ++ new_section (codes "foo") (section_flags 2) 1 0 ∷ [])
unfolding first first_sections groups_of
one_more = refl

other_flags : entered first (codes ".data") (section_flags 2) 1 0 ≡ Err BadSection
unfolding first first_sections
other_flags = refl

other_kind : entered first (codes ".bss") (section_flags 3) 1 0 ≡ Err BadSection
unfolding first first_sections
other_kind = refl

other_entry_size : entered first (codes ".text") (section_flags 6) 1 4 ≡ Err BadSection
unfolding first first_sections
other_entry_size = refl

-- `.text` of a group is another section, and so is that of another group
grouped : List LooseSection
grouped = first ++ new_member (record { signature = codes "f"; comdat = true }) (codes ".text") (section_flags 518) 1 0 ∷ []

in_group : entered_in first (codes ".text") (section_flags 518) 1 0 (Some (codes "f", true)) ≡ Ok (3, grouped)
unfolding first first_sections grouped groups_of
in_group = refl

in_group_again : entered_in grouped (codes ".text") (section_flags 518) 1 0 (Some (codes "f", true)) ≡ Ok (3, grouped)
unfolding first first_sections grouped groups_of
in_group_again = refl

said_otherwise : entered_in grouped (codes ".data") (section_flags 515) 1 0 (Some (codes "f", false)) ≡ Err BadSection
unfolding first first_sections grouped groups_of
said_otherwise = refl

in_other_group : entered_in grouped (codes ".text") (section_flags 518) 1 0 (Some (codes "g", true))
    ≡ Ok (4, grouped ++ new_member (record { signature = codes "g"; comdat = true }) (codes ".text") (section_flags 518) 1 0 ∷ [])
unfolding first first_sections grouped groups_of
in_other_group = refl

in_none : entered grouped (codes ".text") (section_flags 6) 1 0 ≡ Ok (0, grouped)
unfolding first first_sections grouped groups_of
in_none = refl

bytes_in_bss : put_into (bytes_put (on_line 1) (0 ∷ 1 ∷ [])) first 2 ≡ Err BadSection
unfolding first first_sections
bytes_in_bss = refl

field_in_bss : put_into (field_put (on_line 1) 2 Four data_role (constant_form 0)) first 2 ≡ Err BadSection
unfolding first first_sections
field_in_bss = refl

fill_in_bss : put_into (item_put (item 1 (fill 1 1 1))) first 2 ≡ Err BadSection
unfolding first first_sections item fill unit_of
fill_in_bss = refl

zeros_in_bss : put_into (bytes_put (on_line 1) (0 ∷ 0 ∷ [])) first 2 ≡ Ok (
    new_section (codes ".text") (section_flags 6) 1 0
    ∷ new_section (codes ".data") (section_flags 3) 1 0
    ∷ with_bytes (on_line 1) (0 ∷ 0 ∷ []) (new_section (codes ".bss") (section_flags 3) 8 0) ∷ [])
unfolding first first_sections
zeros_in_bss = refl

grown_in_bss : put_into (growing_put (on_line 1) 2 (Leb128 false) None (constant_form 0)) first 2 ≡ Err BadSection
unfolding first first_sections
grown_in_bss = refl
