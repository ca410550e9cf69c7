-- What is put into the current section changes no other.
use Rattle.std.proofs.Common.{◌≡◌, ◌≢◌, ℕ, nat_le, Bool, true, false, List, [], ◌∷◌, Option, None, Some, Result, Ok, Err, refl, sym, ap, ◌∙◌, slice_get}
use Rattle.std.specs.Prelude.{◌+◌, drop, unwrap_or, slice_range}
use Rattle.std.specs.List.{list_any, count_by}
use Rattle.asm_operands.specs.declared.place_faults.PlaceCause.{PlaceCause}
use Rattle.asm_base.specs.declared.causes.FragCause.{FragCause}
use Rattle.asm_base.specs.declared.positions.Pos.{Pos}
use Rattle.asm_base.specs.Tokens.{SpelledToken}
use Rattle.asm_expr.specs.declared.forms.Term.{Term}
use Rattle.asm_expr.specs.Forms.{Form}
use Rattle.asm_expr.specs.Trees.{Tree}
use Rattle.item_contents.specs.declared.contents.Content.{Content}
use Rattle.item_contents.specs.declared.kinds.Growth.{Growth}
use Rattle.item_contents.specs.declared.kinds.Growth.TheVariants.{Jump, Leb128}
use Rattle.item_bytes.specs.declared.jumps.Condition.{Condition}
use Rattle.item_bytes.specs.Leb128.{least_leb128}
use Rattle.asm_frags.specs.declared.fields.FieldSize.{FieldSize}
use Rattle.asm_frags.specs.declared.roles.FieldRole.{FieldRole}
use Rattle.asm_frags.specs.Fields.{width, data_role}
use Rattle.asm_frags.specs.Sections.{with_section_or_fault, put_into_there}
use Rattle.asm_frags.specs.Writing.{LooseSection, new_item, bytes_put, field_put, item_put, growing_put}
use Rattle.x86_insn.specs.declared.amounts.Suffix.{Suffix}
use Rattle.x86_encode.specs.Encoding.{encoding_of}
use Rattle.att_operands.specs.declared.faults.OperandCause.{OperandCause}
use Rattle.att_insns.specs.InsnTexts.{InsnText}
use Rattle.amount_forms.specs.Amounts.{in_text_order}
use Rattle.asm_words.specs.declared.directives.AlignedBy.{AlignedBy}
use Rattle.asm_words.specs.Paddings.{align_of, org_of}
use Rattle.asm_words.specs.Spaces.{space_of, units_of, unit_size}
use Rattle.asm_operands.specs.Operands.{operands_of, each, joined_strings}
use Rattle.asm_operands.specs.Expressions.{expression_of, form_in, constant_in, up_to_three_listed, up_to_three_trees, up_to_three_forms, up_to_three_constants}
use Rattle.asm_operands.specs.Results.{all_steps, if_some}
use Rattle.asm_operands.specs.LayerFaults.{of_sections}
use Rattle.asm_uses.specs.declared.tables.Naming.{Naming}
use Rattle.asm_uses.specs.Places.{uses_place, end_naming}
use Rattle.asm_uses.specs.Tables.{naming_of, allowed}
use Rattle.asm_values.specs.Data.{put_data, place_data, place_strings, put_space_by, with_filled, with_named, place_zero, place_skip, place_fill}
use Rattle.asm_values.specs.DataItems.{put_by, put_forms, is_cut, cut_notes}
use Rattle.asm_values.specs.KnownOperands.{KnownOperands, known_operands}
use Rattle.asm_values.specs.State.{Placed, with_table, with_notes, with_names, here, known_here, put_section, put_bytes_into, put_field_into, put_growing_into, push_into}
use Rattle.asm_items.specs.Alignments.{is_code, place_align}
use Rattle.asm_items.specs.Leb128Numbers.{put_number_by, put_numbers, put_leb128, some_expressions, place_leb128}
use Rattle.asm_items.specs.Orgs.{known_origin, origin_by, place_org}
use Rattle.asm_place.specs.declared.codes.InsnForms.{InsnForms}
use Rattle.asm_place.specs.declared.codes.CodeField.{CodeField}
use Rattle.asm_place.specs.Coding.{InsnShape, shape_in, forms_of, values_in, of_operands, of_code, fields_of, put_rest, put_code, keeps_place, put_coded, put_by_jump, put_insn, from_own_place, place_insn, place_read, lone_code, insn_by, place_coded, place_instruction}
use Rattle.asm_place.proofs.GrowthLemmas.{get_set_other}
use Rattle.asm_place.proofs.Walks.{Fine, made, refused, step, after}

-- the section of this number is this one
module _ (number : ℕ) (held : LooseSection) where
  abbrev pub Holds : List LooseSection → Type 0
  Holds sections = slice_get sections number ≡ Some held

  -- it is so in what is placed
  abbrev pub Kept : Placed → Type 0
  Kept placed = Holds placed.sections

  -- and statements put into the section of this number
  pub record Stays (current : ℕ) (placed : Placed) : Type 0 where
    pub there : Kept placed
    pub same : placed.current ≡ current

  -- what is put into another section keeps it
  module _ (put : LooseSection → Result LooseSection FragCause) (target : ℕ) (apart : target ≢ number) where
    replaced : (sections : List LooseSection) (new : Result LooseSection FragCause) → Holds sections → Fine Holds (of_sections (with_section_or_fault sections target new))
    replaced sections (Ok new) there = made _ (get_set_other sections target number new (λ same. apart (sym same)) ∙ there)
    replaced sections (Err fault) there = refused _

    found_keeps : (sections : List LooseSection) (found : Option LooseSection) → Holds sections → Fine Holds (of_sections (put_into_there put sections target found))
    found_keeps sections None there = refused _
    found_keeps sections (Some section) there = replaced sections (put section) there

    put_keeps : (current : ℕ) (placed : Placed) → Stays current placed → Fine (Stays current) (put_section put target placed)
    put_keeps current placed stays =
        step (found_keeps placed.sections (slice_get placed.sections target) stays.there)
        (λ sections there. made (record placed { sections = sections }) (record { there = there; same = stays.same }))

  -- so it is with bytes,
  pub bytes_keep : (pos : Pos) (target : ℕ) (bytes : List ℕ) (current : ℕ) (placed : Placed) → target ≢ number → Stays current placed
      → Fine (Stays current) (put_bytes_into pos target bytes placed)
  unfolding put_bytes_into
  bytes_keep pos target bytes current placed apart stays = put_keeps (bytes_put pos bytes) target apart current placed stays

  -- and with an item
  pub push_keeps : (pos : Pos) (target : ℕ) (item : Content) (current : ℕ) (placed : Placed) → target ≢ number → Stays current placed
      → Fine (Stays current) (push_into pos target item placed)
  unfolding push_into
  push_keeps pos target item current placed apart stays = put_keeps (item_put (new_item pos item)) target apart current placed stays

  -- INTO THE CURRENT SECTION

  module _ (current : ℕ) (apart : current ≢ number) where
    abbrev Keeps : Result Placed PlaceCause → Type 0
    Keeps answer = Fine (Stays current) answer

    here_apart : (placed : Placed) → Stays current placed → placed.current ≢ number
    here_apart placed stays same = apart (sym stays.same ∙ same)

    bytes_here : (pos : Pos) (bytes : List ℕ) (placed : Placed) → Stays current placed → Keeps (put_bytes_into pos placed.current bytes placed)
    bytes_here pos bytes placed stays = bytes_keep pos placed.current bytes current placed (here_apart placed stays) stays

    push_here : (pos : Pos) (item : Content) (placed : Placed) → Stays current placed → Keeps (push_into pos placed.current item placed)
    push_here pos item placed stays = push_keeps pos placed.current item current placed (here_apart placed stays) stays

    field_here : (pos : Pos) (size : FieldSize) (role : FieldRole) (form : Form) (placed : Placed) → Stays current placed
        → Keeps (put_field_into pos placed.current size role form placed)
    unfolding put_field_into
    field_here pos size role form placed stays =
        put_keeps (field_put pos placed.current size role form) placed.current (here_apart placed stays) current placed stays

    growing_here : (pos : Pos) (kind : Growth) (suffix : Option Suffix) (form : Form) (placed : Placed) → Stays current placed
        → Keeps (put_growing_into pos placed.current kind suffix form placed)
    unfolding put_growing_into
    growing_here pos kind suffix form placed stays =
        put_keeps (growing_put pos placed.current kind suffix form) placed.current (here_apart placed stays) current placed stays

    -- symbols are not looked at
    with_symbols : (placed more : Placed) → more.sections ≡ placed.sections → more.current ≡ placed.current → Stays current placed → Stays current more
    with_symbols placed more sections same stays = record { there = ap (λ all. slice_get all number) sections ∙ stays.there; same = same ∙ stays.same }

    -- INSTRUCTIONS

    rest_keeps : (pos : Pos) (bytes : List ℕ) (placed : Placed) → Stays current placed → Keeps (put_rest pos bytes placed)
    rest_keeps pos [] placed stays = made placed stays
    rest_keeps pos (byte ∷ bytes) placed stays = bytes_here pos (byte ∷ bytes) placed stays

    code_keeps : (pos : Pos) (bytes : List ℕ) (from : ℕ) (fields : List CodeField) (placed : Placed) → Stays current placed → Keeps (put_code pos bytes from fields placed)
    unfolding put_code
    code_keeps pos bytes from [] placed stays = rest_keeps pos (drop from bytes) placed stays
    code_keeps pos bytes from (field ∷ fields) placed stays =
        step (step (rest_keeps pos (slice_range bytes from field.at) placed stays) (λ put stays. field_here pos field.size field.role field.form put stays))
        (λ held stays. code_keeps pos bytes (field.at + width field.size) fields held stays)

    coded_keeps : (pos : Pos) (shape : InsnShape) (forms : InsnForms) (placed : Placed) → Stays current placed → Keeps (put_coded pos shape forms placed)
    unfolding put_coded
    coded_keeps pos shape forms placed stays =
        after (of_code (encoding_of shape.view (values_in forms))) (λ coding. code_keeps pos coding.bytes 0 (fields_of shape forms coding) placed stays)

    jump_keeps : (jump : Option (Option Condition)) (pos : Pos) (shape : InsnShape) (forms : InsnForms) (placed : Placed) → Stays current placed
        → Keeps (put_by_jump jump pos shape forms placed)
    jump_keeps None pos shape forms placed stays = coded_keeps pos shape forms placed stays
    jump_keeps (Some condition) pos shape forms placed stays = growing_here pos (Jump condition) shape.displacement (from_own_place forms.displacement) placed stays

    put_insn_keeps : (pos : Pos) (shape : InsnShape) (forms : InsnForms) (placed : Placed) → Stays current placed → Keeps (put_insn pos shape forms placed)
    unfolding put_insn
    put_insn_keeps pos shape forms placed stays = jump_keeps shape.jump pos shape forms placed stays

    insn_keeps : (pos : Pos) (shape : InsnShape) (own moved : Tree) (placed : Placed) → Stays current placed → Keeps (place_insn pos shape own moved placed)
    unfolding place_insn
    insn_keeps pos shape own moved placed stays =
        let trees = in_text_order placed.syntax own moved in
        let named = with_names pos trees placed in
        after (forms_of (known_here named) own moved)
        (λ forms. step (put_insn_keeps pos shape forms named (with_symbols placed named refl refl stays))
        (λ put stays. after (end_naming pos (naming_of trees placed.table) (here named) (keeps_place (known_here named).place forms) put.table)
        (λ table. made (with_table put table) (with_symbols put (with_table put table) refl refl stays))))

    read_keeps : (pos : Pos) (read : Result InsnText OperandCause) (placed : Placed) → Stays current placed → Keeps (place_read pos read placed)
    read_keeps pos read placed stays =
        after (of_operands read) (λ text. insn_keeps pos (shape_in text) text.immediate.tree text.displacement.tree placed stays)

    either_keeps : (pos : Pos) (code : Option (List ℕ)) (tokens : List SpelledToken) (placed : Placed) → Stays current placed → Keeps (place_coded pos code tokens placed)
    either_keeps pos None tokens placed stays = read_keeps pos (insn_by placed.syntax tokens) placed stays
    either_keeps pos (Some bytes) tokens placed stays = bytes_here pos bytes placed stays

    pub instruction_keeps : (pos : Pos) (tokens : List SpelledToken) (placed : Placed) → Stays current placed → Keeps (place_instruction pos tokens placed)
    unfolding place_instruction
    instruction_keeps pos tokens placed stays = either_keeps pos (lone_code placed.syntax tokens) tokens placed stays

    -- DATA AND SPACE

    form_keeps : (pos : Pos) (size : FieldSize) (terms : List Term) (form : Form) (placed : Placed) → Stays current placed → Keeps (put_by terms pos size form placed)
    form_keeps pos size [] form placed stays = bytes_here pos _ placed stays
    form_keeps pos size (term ∷ terms) form placed stays = field_here pos size data_role form placed stays

    forms_keep : (pos : Pos) (size : FieldSize) (forms : List Form) (placed : Placed) → Stays current placed → Keeps (put_forms pos size forms placed)
    unfolding put_forms all_steps
    forms_keep pos size [] placed stays = made placed stays
    forms_keep pos size (form ∷ forms) placed stays = step (form_keeps pos size form.terms form placed stays) (λ put stays. forms_keep pos size forms put stays)

    values_keep : (pos : Pos) (size : FieldSize) (naming : Naming) (forms : List Form) (placed : Placed) → Stays current placed → Keeps (put_data pos size naming forms placed)
    unfolding put_data
    values_keep pos size naming forms placed stays =
        step (forms_keep pos size forms placed stays)
        (λ put stays. after (end_naming pos naming (here placed) (list_any (uses_place (known_here placed).place) forms) put.table)
        (λ table. made (with_notes (cut_notes pos (count_by (is_cut size) forms)) (with_table put table)) (with_symbols put _ refl refl stays)))

    pub data_keeps : (pos : Pos) (size : FieldSize) (tokens : List SpelledToken) (placed : Placed) → Stays current placed → Keeps (place_data pos size tokens placed)
    unfolding place_data
    data_keeps pos size tokens placed stays =
        after (each expression_of (operands_of tokens))
        (λ trees. after (each (form_in (known_here (with_names pos trees placed))) trees)
        (λ forms. values_keep pos size (naming_of trees placed.table) forms (with_names pos trees placed) (with_symbols placed _ refl refl stays)))

    pub strings_keep : (pos : Pos) (ended : Bool) (tokens : List SpelledToken) (placed : Placed) → Stays current placed → Keeps (place_strings pos ended tokens placed)
    unfolding place_strings
    strings_keep pos ended tokens placed stays = after (joined_strings ended (operands_of tokens)) (λ bytes. bytes_here pos bytes placed stays)

    item_keeps : (pos : Pos) (naming : Naming) (item : Content) (placed : Placed) → Stays current placed → Keeps (with_named pos naming item placed)
    item_keeps pos naming item placed stays =
        step (push_here pos item placed stays)
        (λ pushed stays. after (allowed naming pushed.table) (λ table. made (with_table pushed table) (with_symbols pushed _ refl refl stays)))

    known_keep : (pos : Pos) (placed : Placed) (most : ℕ) (operands : List (List SpelledToken)) → Stays current placed
        → Fine (λ (given : KnownOperands). Stays current given.placed) (known_operands pos placed most operands)
    unfolding known_operands
    known_keep pos placed most operands stays =
        after (up_to_three_trees most operands)
        (λ trees. after (up_to_three_forms (known_here (with_names pos (up_to_three_listed trees) placed)) trees)
        (λ forms. after (up_to_three_constants forms) (λ values. made _ (with_symbols placed _ refl refl stays))))

    space_keeps : (few : Bool) (pos : Pos) (count value : ℕ) (placed : Placed) → Stays current placed → Keeps (put_space_by few pos count value placed)
    space_keeps true pos count value placed stays = bytes_here pos _ placed stays
    space_keeps false pos count value placed stays = after (space_of count value) (λ item. push_here pos item placed stays)

    filled_keeps : (pos : Pos) (given : KnownOperands) (count value : ℕ) → Stays current given.placed → Keeps (with_filled pos given count value)
    filled_keeps pos given count value stays =
        step (space_keeps (nat_le count 16) pos count value given.placed stays)
        (λ filled stays. after (allowed given.naming filled.table) (λ table. made (with_table filled table) (with_symbols filled _ refl refl stays)))

    pub zero_keeps : (pos : Pos) (tokens : List SpelledToken) (placed : Placed) → Stays current placed → Keeps (place_zero pos tokens placed)
    unfolding place_zero
    zero_keeps pos tokens placed stays =
        step (known_keep pos placed 1 (operands_of tokens) stays) (λ given stays. filled_keeps pos given given.values.first 0 stays)

    pub skip_keeps : (pos : Pos) (tokens : List SpelledToken) (placed : Placed) → Stays current placed → Keeps (place_skip pos tokens placed)
    unfolding place_skip
    skip_keeps pos tokens placed stays =
        step (known_keep pos placed 2 (operands_of tokens) stays) (λ given stays. filled_keeps pos given given.values.first (unwrap_or given.values.second 0) stays)

    pub fill_keeps : (pos : Pos) (tokens : List SpelledToken) (placed : Placed) → Stays current placed → Keeps (place_fill pos tokens placed)
    unfolding place_fill
    fill_keeps pos tokens placed stays =
        step (known_keep pos placed 3 (operands_of tokens) stays)
        (λ given stays. after (unit_size given.values.second) (λ size. after (units_of given.values.first size (unwrap_or given.values.third 0))
        (λ item. item_keeps pos given.naming item given.placed stays)))

    -- ALIGNMENTS, PLACES, NUMBERS IN GROUPS OF SEVEN BITS

    pub align_keeps : (pos : Pos) (by : AlignedBy) (tokens : List SpelledToken) (placed : Placed) → Stays current placed → Keeps (place_align pos by tokens placed)
    unfolding place_align
    align_keeps pos by tokens placed stays =
        step (known_keep pos placed 3 (operands_of tokens) stays)
        (λ given stays. after (align_of by (is_code given.placed.sections given.placed.current) given.values) (λ item. item_keeps pos given.naming item given.placed stays))

    pub org_keeps : (pos : Pos) (tokens : List SpelledToken) (placed : Placed) → Stays current placed → Keeps (place_org pos tokens placed)
    unfolding place_org
    org_keeps pos tokens placed stays =
        after (up_to_three_trees 2 (operands_of tokens))
        (λ trees. let named = with_names pos (up_to_three_listed trees) placed in
        after (up_to_three_forms (known_here named) trees)
        (λ forms. after (known_origin (origin_by named forms.first.terms))
        (λ origin. after (if_some constant_in forms.second)
        (λ fill. after (org_of origin.from origin.offset forms.first.constant (unwrap_or fill 0))
        (λ item. item_keeps pos (naming_of (up_to_three_listed trees) placed.table) item named (with_symbols placed named refl refl stays))))))

    number_keeps : (pos : Pos) (signed : Bool) (terms : List Term) (form : Form) (placed : Placed) → Stays current placed → Keeps (put_number_by terms pos signed form placed)
    number_keeps pos signed [] form placed stays = bytes_here pos (least_leb128 signed form.constant) placed stays
    number_keeps pos signed (term ∷ terms) form placed stays = growing_here pos (Leb128 signed) None form placed stays

    numbers_keep : (pos : Pos) (signed : Bool) (forms : List Form) (placed : Placed) → Stays current placed → Keeps (put_numbers pos signed forms placed)
    unfolding put_numbers all_steps
    numbers_keep pos signed [] placed stays = made placed stays
    numbers_keep pos signed (form ∷ forms) placed stays = step (number_keeps pos signed form.terms form placed stays) (λ put stays. numbers_keep pos signed forms put stays)

    put_leb128_keeps : (pos : Pos) (signed : Bool) (naming : Naming) (forms : List Form) (placed : Placed) → Stays current placed → Keeps (put_leb128 pos signed naming forms placed)
    unfolding put_leb128
    put_leb128_keeps pos signed naming forms placed stays =
        step (numbers_keep pos signed forms placed stays)
        (λ put stays. after (end_naming pos naming (here placed) (list_any (uses_place (known_here placed).place) forms) put.table)
        (λ table. made (with_table put table) (with_symbols put _ refl refl stays)))

    pub leb128_keeps : (pos : Pos) (signed : Bool) (tokens : List SpelledToken) (placed : Placed) → Stays current placed → Keeps (place_leb128 pos signed tokens placed)
    unfolding place_leb128
    leb128_keeps pos signed tokens placed stays =
        after (some_expressions (operands_of tokens))
        (λ trees. after (each (form_in (known_here (with_names pos trees placed))) trees)
        (λ forms. put_leb128_keeps pos signed (naming_of trees placed.table) forms (with_names pos trees placed) (with_symbols placed _ refl refl stays)))
