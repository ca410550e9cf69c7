-- The relocations of fields (psABI for AMD64, section 4.4, "Relocation").
use Rattle.std.specs.Prelude.{ℕ, ◌+◌, ◌-◌, ◌^◌, ◌==◌, ◌&&◌, ◌||◌, not, Bool, true, false, List, [], ◌∷◌, Option, None, Some, slice_get, option_map, option_and_then, if◌then◌else◌}
use Rattle.asm_expr.specs.declared.forms.Term.{Term}
use Rattle.asm_expr.specs.Forms.{Form, wrapped}
use Rattle.asm_expr.specs.Knowledge.{Told, absent, constant, label, form}
use Rattle.asm_expr.specs.Settled.{settled}
use Rattle.asm_frags.specs.declared.fields.Field.{Field}
use Rattle.asm_frags.specs.declared.fields.FieldSize.{FieldSize}
use Rattle.asm_frags.specs.declared.fields.FieldSize.TheVariants.{One, Two, Four, Eight}
use Rattle.asm_frags.specs.declared.roles.FieldRole.{FieldRole}
use Rattle.asm_frags.specs.Fields.{width}
use Rattle.asm_frags.specs.SectionOf.{SectionOf}
use Rattle.asm_symbols.specs.declared.entries.Symbol.{Symbol}
use Rattle.asm_symbols.specs.declared.entries.Meaning.{Meaning}
use Rattle.asm_symbols.specs.declared.entries.Meaning.TheVariants as meaning
use Rattle.asm_symbols.specs.declared.entries.Spot.{Spot}
use Rattle.asm_symbols.specs.SymbolMap.{SymbolMap}
use Rattle.item_rows.specs.Links.{is_suffixed}
use Rattle.asm_relax.specs.FieldValues.{told_beside, told_in_field, less, counted}
use Rattle.asm_relax.specs.Final.{address_in, address_of}
use Rattle.asm_relax.specs.Settling.{LaidItem, LaidSections}
use Rattle.elf_object.specs.declared.relocations.RelocationKind.{RelocationKind}
use Rattle.elf_object.specs.declared.relocations.RelocationKind.TheVariants.{Direct64, Pc32, Plt32, GotPcRel, Direct32, Signed32, Direct16, Pc16, Direct8, Pc8, GotTpOff, TpOff32, Pc64}
use Rattle.elf_symbols.specs.declared.targets.Target.{Target}
use Rattle.elf_symbols.specs.declared.targets.Target.TheVariants.{OfSection, OfSymbol}
use Rattle.elf_object.specs.declared.relocations.Relocation.{Relocation}
use Rattle.x86_insn.specs.declared.amounts.FieldKind.{FieldKind}
use Rattle.x86_insn.specs.declared.amounts.FieldKind.TheVariants as field
use Rattle.x86_insn.specs.declared.amounts.Suffix.{Suffix}
use Rattle.x86_insn.specs.declared.amounts.Suffix.TheVariants as suffix
use Rattle.elf_object.specs.declared.references.Reference.{Reference}
use Rattle.elf_object.specs.declared.references.SymbolReference.{SymbolReference}
use Rattle.elf_file.specs.TableEntries.{elf_relocation}
use Rattle.elf_symbols.specs.SymbolValues.{binding_of, is_local, has_flag}

-- R_X86_64_64 and the others (psABI for AMD64, table 4.9)
abbrev pub kind_number : RelocationKind → ℕ
kind_number Direct64 = 1
kind_number Pc32 = 2
kind_number Plt32 = 4
kind_number GotPcRel = 9
kind_number Direct32 = 10
kind_number Signed32 = 11
kind_number Direct16 = 12
kind_number Pc16 = 13
kind_number Direct8 = 14
kind_number Pc8 = 15
kind_number GotTpOff = 22
kind_number TpOff32 = 23
kind_number Pc64 = 24

-- the kind by the size of the field, where the place of the field is taken from the sum and where it is not
abbrev pub sized_kind : Bool → FieldSize → RelocationKind
sized_kind false One = Direct8
sized_kind false Two = Direct16
sized_kind false Four = Direct32
sized_kind false Eight = Direct64
sized_kind true One = Pc8
sized_kind true Two = Pc16
sized_kind true Four = Pc32
sized_kind true Eight = Pc64

-- the same for a field that is sign-extended
abbrev pub signed_kind : Bool → FieldSize → RelocationKind
signed_kind false One = Direct8
signed_kind false Two = Direct16
signed_kind false Four = Signed32
signed_kind false Eight = Direct64
signed_kind true size = sized_kind true size

-- the same for the distance of a branch to a symbol that is local, or not: the linker may lead one that is not through the procedure linkage table
abbrev pub branch_kind : Bool → FieldSize → RelocationKind
branch_kind true size = sized_kind true size
branch_kind false One = Pc8
branch_kind false Two = Pc16
branch_kind false Four = Plt32
branch_kind false Eight = Pc64

-- the kind where there is no suffix: a distance always has the place taken from the sum
abbrev pub plain_kind : Bool → FieldKind → Bool → FieldSize → Option RelocationKind
plain_kind relative field.Plain local size = Some (sized_kind relative size)
plain_kind relative field.Signed local size = Some (signed_kind relative size)
plain_kind relative field.Address local size = if relative then Some (sized_kind true size) else None
plain_kind relative field.Branch local size = if relative then Some (branch_kind local size) else None
plain_kind relative field.Number local size = None

-- the field has 4 bytes
abbrev pub is_four : FieldSize → Bool
is_four One = false
is_four Two = false
is_four Four = true
is_four Eight = false

-- the distance from rip to an entry of the global offset table
abbrev pub entry_kind : Bool → FieldKind → FieldSize → RelocationKind → Option RelocationKind
entry_kind relative field.Plain size kind = None
entry_kind relative field.Signed size kind = None
entry_kind relative field.Address size kind = if relative && is_four size then Some kind else None
entry_kind relative field.Branch size kind = None
entry_kind relative field.Number size kind = None

-- the distance of a branch to an entry of the procedure linkage table
abbrev pub linkage_kind : Bool → FieldKind → FieldSize → Option RelocationKind
linkage_kind relative field.Plain size = None
linkage_kind relative field.Signed size = None
linkage_kind relative field.Address size = None
linkage_kind relative field.Branch size = if relative && is_four size then Some Plt32 else None
linkage_kind relative field.Number size = None

-- an offset from the thread pointer, which is no distance
abbrev pub offset_kind : Bool → FieldKind → FieldSize → Option RelocationKind
offset_kind relative field.Plain size = if not relative && is_four size then Some TpOff32 else None
offset_kind relative field.Signed size = if not relative && is_four size then Some TpOff32 else None
offset_kind relative field.Address size = None
offset_kind relative field.Branch size = None
offset_kind relative field.Number size = None

-- the kind by what stands behind the symbol
abbrev pub kind_by : Option Suffix → Bool → FieldKind → Bool → FieldSize → Option RelocationKind
kind_by None relative kind local size = plain_kind relative kind local size
kind_by (Some suffix.Plt) relative kind local size = linkage_kind relative kind size
kind_by (Some suffix.GotPcRel) relative kind local size = entry_kind relative kind size GotPcRel
kind_by (Some suffix.GotTpOff) relative kind local size = entry_kind relative kind size GotTpOff
kind_by (Some suffix.TpOff) relative kind local size = offset_kind relative kind size

-- the kind of a field of this role and size, if there is one: whether the place of the field is taken from the sum, and whether the symbol is local
abbrev pub kind_for : Bool → FieldRole → Bool → FieldSize → Option RelocationKind
kind_for relative role local size = kind_by role.suffix relative role.kind local size

-- SHF_MERGE: the linker may move what stands in the section (gABI, chapter 4, "Sections")
abbrev pub merge : ℕ
merge = 0x10

-- what a relocation names for a symbol, and what that lacks of the symbol's address; whether the symbol is local
abbrev pub symbol_reference : Bool → Target → ℕ → SymbolReference
symbol_reference local target addend = record { target = target; addend = addend; local = local }

-- a local symbol is named by its section, unless the linker may move what stands there, or is asked for something of the symbol itself
abbrev pub label_reference : Bool → LaidSections → ℕ → Bool → Spot → Option SymbolReference
label_reference itself sections index local spot =
    option_map (λ section. if local && not (itself || has_flag merge section)
    then symbol_reference local (OfSection spot.place.section) (address_of sections spot.place.section spot.place.place.item spot.place.place.offset)
    else symbol_reference local (OfSymbol index) 0) (slice_get sections spot.place.section)

-- what a relocation names for a symbol of this meaning; an assigned one that a field names is a weak alias, which the linker may find elsewhere
abbrev pub meaning_reference : Bool → LaidSections → ℕ → Bool → Meaning → Option SymbolReference
meaning_reference itself sections index local meaning.Undefined = Some (symbol_reference local (OfSymbol index) 0)
meaning_reference itself sections index local (meaning.Label spot) = label_reference itself sections index local spot
meaning_reference itself sections index local (meaning.Space spot) = label_reference itself sections index local spot
meaning_reference itself sections index local (meaning.Common size align) = Some (symbol_reference local (OfSymbol index) 0)
meaning_reference itself sections index local (meaning.Assigned made) = if local then None else Some (symbol_reference local (OfSymbol index) 0)

-- what a relocation names for the symbol at this index
abbrev pub reference_at : Bool → LaidSections → ℕ → Symbol → Option SymbolReference
reference_at itself sections index symbol = meaning_reference itself sections index (is_local (binding_of symbol.meaning symbol.binding)) symbol.meaning

-- what a relocation of the field names for the symbol at this index, if there is one; a suffix asks for something of the symbol itself
unfoldable pub reference_found : SymbolMap → LaidSections → Field → ℕ → Option SymbolReference
reference_found map sections field index = option_and_then (reference_at (is_suffixed field.role.suffix) sections index) (slice_get map.symbols index)

-- the address of a label of this section
abbrev pub own_address : ℕ → Told → Option ℕ
own_address number (label section address) = if section == number then Some address else None
own_address number absent = None
own_address number (constant other) = None
own_address number (form made) = None

-- a reference to a symbol, whose place is taken from the sum or not
abbrev pub reference : Bool → ℕ → SymbolReference → Reference
reference relative number at = record { target = at.target; relative = relative; local = at.local; addend = wrapped (number + at.addend) }

-- S + c
abbrev pub direct : SymbolMap → LaidSections → Field → ℕ → ℕ → Option Reference
direct map sections field symbol number = option_map (reference false number) (reference_found map sections field symbol)

-- S + c - L, where L is a label of the section of this number, in which the field stands at this place: from S the place is taken, and added to c
abbrev pub relative : SymbolMap → LaidSections → ℕ → ℕ → Field → ℕ → ℕ → ℕ → Option Reference
relative map sections number place field symbol from total =
    option_and_then (λ address. option_map (reference true (less (total + place) address)) (reference_found map sections field symbol))
    (own_address number (told_beside map sections field from))

-- the coefficient of a symbol that is taken away
abbrev pub minus_one : ℕ
minus_one = 2 ^ 64 - 1

-- the symbol stands once in the sum
abbrev pub is_plus : Term → Bool
is_plus term = term.coefficient == 1

-- the symbol is taken away
abbrev pub is_minus : Term → Bool
is_minus term = term.coefficient == minus_one

-- two terms and a number
abbrev pub pair : SymbolMap → LaidSections → ℕ → ℕ → Field → Term → Term → ℕ → Option Reference
pair map sections number place field one other total =
    if is_plus one && is_minus other then relative map sections number place field one.symbol other.symbol total
    else if is_minus one && is_plus other then relative map sections number place field other.symbol one.symbol total else None

-- the reference of a form: one symbol and a number, or a symbol less a place of this section
abbrev pub reference_by : SymbolMap → LaidSections → ℕ → ℕ → Field → List Term → ℕ → Option Reference
reference_by map sections number place field [] total = None
reference_by map sections number place field (term ∷ []) total = if is_plus term then direct map sections field term.symbol total else None
reference_by map sections number place field (one ∷ other ∷ []) total = pair map sections number place field one other total
reference_by map sections number place field (one ∷ other ∷ third ∷ more) total = None

-- what is left of the form of a field, at this place of the section of this number, where a relocation can say it
abbrev pub reference_of : SymbolMap → LaidSections → ℕ → ℕ → Field → Form → Option Reference
reference_of map sections number place field made = reference_by map sections number place field made.terms made.constant

-- the same, of the field's own form, in which labels may still cancel
abbrev pub final_reference : SymbolMap → LaidSections → ℕ → ℕ → Field → Option Reference
final_reference map sections number place field = reference_of map sections number place field (settled (told_in_field map sections field) field.form)

-- no label cancels in a form of these terms that has no value: a symbol alone, or one less another one
abbrev pub stays : List Term → Bool
stays [] = false
stays (term ∷ []) = is_plus term
stays (one ∷ other ∷ []) = is_plus one && is_minus other
stays (one ∷ other ∷ third ∷ more) = false

-- the relocation of this field and kind at this offset; a distance counts from the end of the instruction
abbrev pub relocation_with : ℕ → Field → Reference → RelocationKind → Relocation
relocation_with place field found kind = record { offset = place; kind = kind; target = found.target; addend = counted field.size field.role found.addend }

-- the relocation of this field at this offset, if it has a kind
abbrev pub relocation : ℕ → Field → Reference → Option Relocation
relocation place field found = option_map (relocation_with place field found) (kind_for found.relative field.role found.local field.size)

-- the address of a field in its section: that of its place, or, where the field stands in an item, of the last bytes of that, which end at its place
abbrev pub field_place : SectionOf LaidItem → Field → ℕ
field_place section field =
    if field.in_item then less (address_in section.items field.item field.offset) (width field.size) else address_in section.items field.item field.offset

-- the relocation of a field of the section of this number
unfoldable pub field_relocation : SymbolMap → LaidSections → ℕ → SectionOf LaidItem → Field → Option Relocation
field_relocation map sections number section field =
    option_and_then (relocation (field_place section field) field) (final_reference map sections number (field_place section field) field)

-- an entry of a section of relocations, where the target has this number in the symbol table (Elf64_Rela); r_info has the kind in
-- its low half, and the number in its high half
abbrev pub relocation_entry : ℕ → Relocation → List ℕ
relocation_entry number r = elf_relocation r.offset (kind_number r.kind) number r.addend
