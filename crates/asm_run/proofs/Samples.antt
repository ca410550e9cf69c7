-- The definitions computed on command lines and sources written out.
use Rattle.std.specs.Prelude.{◌≡◌, ℕ, List, [], ◌∷◌, length, map, take, drop, codes, Option, None, Some, Result, Ok, Err, if◌then◌else◌, refl}
use Rattle.std.specs.Fmt.{digits}
use Rattle.std.specs.Str.{bytes_eq}
use Rattle.asm_base.specs.Inputs.{Contents}
use Rattle.asm_base.specs.ByteClasses.{is_blank, is_name_start, is_name_byte, is_operator_byte}
use Rattle.asm_base.specs.Digits.{digit_of, number_after}
use Rattle.asm_base.specs.Dividing.{comment_length, quoted_length, piece_kind, piece_length, pieces_from}
use Rattle.asm_base.specs.Strings.{string_value_from}
use Rattle.asm_base.specs.Tokens.{is_long_operator, token_kind, token_length, tokens_from}
use Rattle.asm_lines.specs.Faults.{nul_found, source_found}
use Rattle.asm_lines.specs.Statements.{statements_in, statements_of}
use Rattle.asm_lines.specs.Intervals.{trimmed}
use Rattle.asm_lines.specs.LineNumbers.{line_of}
use Rattle.expr_texts.specs.Numbers.{numeral, spelled_number}
use Rattle.expr_texts.specs.Leaves.{character_code, digits_leaf, leaf_of}
use Rattle.expr_texts.specs.Operators.{prefix_by, operator_byte, operator_bytes, operator_by, level_of}
use Rattle.asm_expr.specs.Trees.{height}
use Rattle.expr_texts.specs.Reading.{whole, operand_of, read_at, reading}
use Rattle.asm_expr.specs.Linear.{linear, unary_form, binary_form}
use Rattle.asm_expr.specs.Arithmetic.{combined}
use Rattle.asm_expr.specs.Forms.{with_term, with_terms}
use Rattle.asm_expr.specs.Raised.{raised}
use Rattle.asm_expr.specs.Settled.{put_all, settled}
use Rattle.asm_symbols.specs.SymbolMap.{changed}
use Rattle.asm_symbols.specs.Interning.{named}
use Rattle.asm_symbols.specs.Defining.{defined}
use Rattle.asm_symbols.specs.Attributes.{bound}
use Rattle.asm_frags.specs.Groups.{groups_of}
use Rattle.asm_frags.specs.Sections.{first_sections}
use Rattle.asm_frags.specs.KnownExtents.{extent_of}
use Rattle.asm_operands.specs.Results.{all_steps}
use Rattle.x86_table.specs.Rows.{the_rows}
use Rattle.x86_table.specs.Bytes.{bytes_of, rex_bits, rex_byte}
use Rattle.att_insns.specs.Heads.{head_of}
use Rattle.att_insns.specs.Reading.{insn_of}
use Rattle.x86_lookup.specs.Names.{the_att_names}
use Rattle.x86_lookup.specs.Mnemonics.{whole_mnemonic, att_mnemonic}
use Rattle.x86_lookup.specs.BareInstructions.{bare_instruction}
use Rattle.asm_operands.specs.Operands.{checked_name, symbol_name, name_of, each}
use Rattle.asm_uses.specs.Tables.{symbol_of, next_symbol, with_tree, with_trees, is_meant, are_meant, allowed}
use Rattle.asm_uses.specs.Places.{spot_at, name_here}
use Rattle.asm_values.specs.State.{put_bytes_into, put_field_into, push_into}
use Rattle.asm_operands.specs.Expressions.{expression_of, form_in}
use Rattle.asm_frags.specs.Fields.{fits, low_bytes}
use Rattle.asm_values.specs.DataItems.{put_forms}
use Rattle.asm_uses.specs.Attributes.{say_all}
use Rattle.asm_operands.specs.NamedTrees.{plain_of}
use Rattle.asm_declarations.specs.SymbolWords.{place_said}
use Rattle.asm_words.specs.Directives.{the_directives, directive_of}
use Rattle.asm_values.specs.Data.{put_data, place_data}
use Rattle.asm_place.specs.Coding.{place_instruction}
use Rattle.asm_place.specs.Placing.{place_by, place_directive, place_body, place_label, place_labelled, has_wide_label, place_tokens}
use Rattle.asm_uses.specs.Labels.{label_symbol}
use Rattle.asm_place.specs.Sources.{place, pos_at}
use Rattle.assigned_forms.specs.Expanding.{plus_terms, expanded_within, expanded}
use Rattle.assigned_forms.specs.Linked.{linked_map, linked}
use Rattle.item_rows.specs.ItemRows.{rows_of, levels_of}
use Rattle.asm_relax.specs.FieldValues.{told_beside, told_in_field, held_value}
use Rattle.asm_relax.specs.Final.{shift_in, section_size, address_of, final_told, laid_value, final_form}
use Rattle.asm_levels.specs.Sizes.{size_at}
use Rattle.asm_levels.specs.Shifts.{shift_behind, shifts_from, shifts_of}
use Rattle.asm_levels.specs.Needs.{top}
use Rattle.asm_relax.specs.Layout.{laid_by}
use Rattle.asm_relax.specs.RangeChecks.{first_fault}
use Rattle.asm_relax.specs.Settling.{planned, settled_sections}
use Rattle.elf_file.specs.Fields.{half, word, xword}
use Rattle.elf_file.specs.StringTable.{string_table_of, name_offsets}
use Rattle.elf_object.specs.Relocations.{reference_found, field_relocation}
use Rattle.elf_object.specs.Contents.{filled, interleaved, section_bytes}
use Rattle.elf_object.specs.Faults.{fields_fault, object_fault}
use Rattle.elf_object.specs.Naming.{named_of}
use Rattle.elf_symbols.specs.Aliases.{said_along, symbol_kind, symbol_size}
use Rattle.elf_symbols.specs.SymbolTable.{listed, table_of, symbol_names, symbol_table_of}
use Rattle.elf_file.specs.Sections.{section_names}
use Rattle.elf_file.specs.Image.{null_header, header_table, elf_header, file_of, all_names, with_names, file_with}
use Rattle.elf_object.specs.Image.{before_names, image_with, image_of}
use Rattle.source_ends.specs.Ending.{finished}
use Rattle.eh_frame.specs.Placing.{placed}
use Rattle.line_table.specs.Placing as line_table
use Rattle.source_ends.specs.Ending.{Flags}
use Rattle.asm_front.specs.Knowing.{value_told, definition_told, meant_among, is_defined_in}
use Rattle.asm_front.specs.Assembly.{Assembly, main_file, nothing_yet, placed_after, told_of, assembly_by}
use Rattle.asm_functions.specs.FollowedSource.{place_followed}
use Rattle.asm_lines.specs.Statements.{StatementAt}
use Rattle.asm_lines.specs.NextStatements.{in_tokens}
use Rattle.asm_lines.specs.declared.faults.LineCause.{LineCause}
use Rattle.macro_texts.specs.TokenTexts.{value_text}
use Rattle.macro_texts.specs.Parameters.{parameter_of, parameters_of}
use Rattle.macro_texts.specs.Arguments.{filled_once, call_arguments}
use Rattle.macro_texts.specs.Putting.{argument_named, put_by, put_from}
use Rattle.macro_words.specs.Words.{the_words, word_of}
use Rattle.macro_words.specs.Statements.{word_in, made_statements, line_cause}
use Rattle.macro_words.specs.Files.{file_statements, line_of_cause}
use Rattle.macro_words.specs.Branches.{verdict}
use Rattle.macro_words.specs.Conditions.{holds}
use Rattle.macro_blocks.specs.Blocks.{depth_behind, stops, cut}
use Rattle.asm_macro.specs.Expansion.{started, conditional, branch_end, conditional_end, repeat, each as each_copy_of, define, call, purge, after_call, exit, include, head, turn}
use Rattle.asm_macro.specs.Placing.{steps, fails}
use Rattle.clap.proofs.OnLiterals.{clap_on_literals}
use Rattle.run_words.specs.Words.{Invocation, as_app, asked_by, command_of, faults_of, invocation_of, rows_of_words, taken_of, usage_text}
use Rattle.source_runs.specs.Outcome.{Outcome, usage, missing, refused, object, flags_by, source_outcome}
use Rattle.asm_run.specs.Outcome.{outcome}
use Rattle.asm_relax.specs.Faults.{first_of}
use Rattle.asm_symbols.specs.Looking.{told}

usage_text-length : length usage_text ≡ 106
unfolding usage_text
usage_text-length = refl

-- the one file `x.s`
abbrev one_file : List ℕ → Contents
one_file source name = if bytes_eq name (codes "x.s") then Some source else None

abbrev one_source : List ℕ → Option Contents
one_source source = Some (one_file source)

-- more turns than the lists of these sources take
abbrev few_turns : ℕ
few_turns = 12

-- what a source of these lines stands for, by so many turns of its list
abbrev assembly_by_lines : Flags → Contents → Result (List StatementAt) LineCause → Assembly
assembly_by_lines flags contents (Ok statements) =
    assembly_by flags (codes "x.s")
    (steps placed_after told_of (Some contents) few_turns (started (codes "x.s" ∷ []) (map in_tokens statements)) (nothing_yet flags))
assembly_by_lines flags contents (Err cause) =
    assembly_by flags (codes "x.s") (fails (codes "x.s" ∷ []) (line_cause cause) (pos_at 0 (line_of_cause cause)) (nothing_yet flags))

-- what words stand for whose source is that file
abbrev outcome_by : Option Invocation → List ℕ → Option Outcome
outcome_by None source = Some usage
outcome_by (Some invocation) source = Some (source_outcome invocation (assembly_by_lines (flags_by invocation (Ok [])) (one_file source) (statements_of main_file source)))

abbrev outcome_of : List ℕ → Option Outcome
outcome_of source = outcome_by (command_of (codes "as" ∷ codes "x.s" ∷ [])) source

not_there : outcome (codes "as" ∷ codes "none.s" ∷ []) (Ok []) (one_source []) ≡ Some (missing [])
unfolding command_of asked_by faults_of rows_of_words taken_of invocation_of as_app clap_on_literals
not_there = refl

not_told : outcome (codes "as" ∷ codes "x.s" ∷ []) (Ok []) None ≡ None
unfolding command_of asked_by faults_of rows_of_words taken_of invocation_of as_app clap_on_literals
not_told = refl

usage_untold : outcome (codes "as" ∷ codes "--zap" ∷ []) (Ok []) None ≡ Some usage
unfolding command_of asked_by faults_of rows_of_words taken_of invocation_of as_app clap_on_literals
usage_untold = refl

-- the bytes of the object
abbrev object_bytes : Option Outcome → List ℕ
object_bytes None = []
object_bytes (Some usage) = []
object_bytes (Some (missing included)) = []
object_bytes (Some (refused messages included)) = []
object_bytes (Some (object name bytes messages summary included)) = bytes

-- its length, and the bytes of its `.text`, which stand behind the header
abbrev length_and_text : ℕ → Option Outcome → ℕ × List ℕ
length_and_text count o = (length (object_bytes o), take count (drop 64 (object_bytes o)))

-- what the run says
abbrev said_by : Option Outcome → List ℕ
said_by None = []
said_by (Some usage) = []
said_by (Some (missing included)) = []
said_by (Some (refused messages included)) = messages
said_by (Some (object name bytes messages summary included)) = messages

-- the flags
abbrev flagged : List ℕ → List ℕ → Option Outcome
flagged flag source = outcome_by (command_of (codes "as" ∷ flag ∷ codes "x.s" ∷ [])) source

-- sources with a fault: a mnemonic that is unknown, one behind two warnings, an open comment, and a warning that refuses
refused_rows : (outcome_of (codes "foo\nbar\n") ≡ Some (refused (codes "x.s: Assembler messages:\nx.s:1: Error: unknown mnemonic\n") []))
    × (outcome_of (codes ".byte 256\n.byte 1,511\nfoo") ≡ Some (refused (codes "x.s: Assembler messages:\nx.s:1: Warning: value is truncated\nx.s:2: Warning: value is truncated\nx.s:3: Error: unknown mnemonic\n") []))
    × (outcome_of (codes "nop\n/* x") ≡ Some (refused (codes "x.s: Assembler messages:\nx.s:2: Error: comment is not closed\n") []))
    × (flagged (codes "--fatal-warnings") (codes ".byte 256") ≡ Some (refused (codes "x.s: Assembler messages:\nx.s:1: Warning: value is truncated\nx.s:1: Error: warnings are treated as errors\n") []))
unfolding command_of asked_by faults_of rows_of_words taken_of invocation_of as_app clap_on_literals statements_of statements_in comment_length quoted_length piece_kind piece_length pieces_from line_of trimmed nul_found source_found is_blank is_name_start is_name_byte is_operator_byte is_long_operator token_kind token_length tokens_from digits place_followed place place_labelled has_wide_label place_tokens place_label label_symbol symbol_name checked_name string_value_from place_body place_directive directive_of the_directives place_by place_instruction bare_instruction insn_of head_of att_mnemonic whole_mnemonic the_att_names the_rows bytes_of rex_bits rex_byte put_data place_data place_said say_all plain_of name_of each all_steps symbol_of next_symbol named defined bound spot_at extent_of put_bytes_into put_field_into push_into first_sections with_trees with_tree are_meant is_meant allowed name_here numeral spelled_number character_code digits_leaf leaf_of prefix_by operator_byte operator_bytes operator_by level_of height whole operand_of read_at reading linear unary_form binary_form combined with_term with_terms raised put_all settled expression_of form_in number_after digit_of fits low_bytes put_forms changed finished placed line_table.placed planned linked linked_map expanded_within expanded plus_terms settled_sections laid_by rows_of levels_of top shifts_of shifts_from shift_behind size_at shift_in section_size address_of final_told laid_value held_value told_in_field told_beside first_fault object_fault fields_fault section_bytes interleaved filled reference_found field_relocation named_of listed symbol_kind symbol_size said_along table_of image_of image_with file_with with_names all_names before_names file_of elf_header null_header header_table half word xword section_names string_table_of name_offsets symbol_names symbol_table_of first_of final_form told head turn steps word_in word_of the_words conditional branch_end conditional_end repeat each_copy_of define call purge after_call exit include verdict holds depth_behind stops cut made_statements value_text parameter_of parameters_of filled_once call_arguments argument_named put_by put_from file_statements value_told definition_told meant_among is_defined_in
refused_rows = (refl, refl, refl, refl)

-- an empty source, an instruction, data with a label, a value that is cut and what is said of it, expressions, a value that just fits,
-- characters with comments and several statements on a line, and a name in quotes
object_rows : (length_and_text 0 (outcome_of []) ≡ (584, []))
    × (length_and_text 1 (outcome_of (codes "nop\n")) ≡ (592, 0x90 ∷ []))
    × (length_and_text 3 (outcome_of (codes ".globl f\nf: .byte 1, 0x41\nret\n")) ≡ (616, 0x01 ∷ 0x41 ∷ 0xc3 ∷ []))
    × (length_and_text 1 (outcome_of (codes ".byte 256")) ≡ (592, 0 ∷ []))
    × (said_by (outcome_of (codes ".byte 256")) ≡ codes "x.s: Assembler messages:\nx.s:1: Warning: value is truncated\n")
    × (said_by (flagged (codes "-W") (codes ".byte 256")) ≡ [])
    × (length_and_text 3 (outcome_of (codes ".byte (1+2)*4 >> 1, 'x, -1")) ≡ (592, 0x06 ∷ 0x78 ∷ 0xff ∷ []))
    × (length_and_text 1 (flagged (codes "--fatal-warnings") (codes ".byte 255")) ≡ (592, 255 ∷ []))
    × (length_and_text 4 (outcome_of (codes ".byte '/,'#;nop/*x*/;ret # c")) ≡ (592, 0x2f ∷ 0x23 ∷ 0x90 ∷ 0xc3 ∷ []))
    × (length_and_text 1 (outcome_of (codes "\"a b\": nop\n.globl \"a b\"")) ≡ (624, 0x90 ∷ []))
unfolding groups_of command_of asked_by faults_of rows_of_words taken_of invocation_of as_app clap_on_literals statements_of statements_in comment_length quoted_length piece_kind piece_length pieces_from line_of trimmed nul_found source_found is_blank is_name_start is_name_byte is_operator_byte is_long_operator token_kind token_length tokens_from digits place_followed place place_labelled has_wide_label place_tokens place_label label_symbol symbol_name checked_name string_value_from place_body place_directive directive_of the_directives place_by place_instruction bare_instruction insn_of head_of att_mnemonic whole_mnemonic the_att_names the_rows bytes_of rex_bits rex_byte put_data place_data place_said say_all plain_of name_of each all_steps symbol_of next_symbol named defined bound spot_at extent_of put_bytes_into put_field_into push_into first_sections with_trees with_tree are_meant is_meant allowed name_here numeral spelled_number character_code digits_leaf leaf_of prefix_by operator_byte operator_bytes operator_by level_of height whole operand_of read_at reading linear unary_form binary_form combined with_term with_terms raised put_all settled expression_of form_in number_after digit_of fits low_bytes put_forms changed finished placed line_table.placed planned linked linked_map expanded_within expanded plus_terms settled_sections laid_by rows_of levels_of top shifts_of shifts_from shift_behind size_at shift_in section_size address_of final_told laid_value held_value told_in_field told_beside first_fault object_fault fields_fault section_bytes interleaved filled reference_found field_relocation named_of listed symbol_kind symbol_size said_along table_of image_of image_with file_with with_names all_names before_names file_of elf_header null_header header_table half word xword section_names string_table_of name_offsets symbol_names symbol_table_of first_of final_form told head turn steps word_in word_of the_words conditional branch_end conditional_end repeat each_copy_of define call purge after_call exit include verdict holds depth_behind stops cut made_statements value_text parameter_of parameters_of filled_once call_arguments argument_named put_by put_from file_statements value_told definition_told meant_among is_defined_in
object_rows = (refl, refl, refl, refl, refl, refl, refl, refl, refl, refl)
