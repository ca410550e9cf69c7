-- Statements without labels, by what they are.
use Rattle.std.proofs.Common.{◌≡◌, Bool, true, false, cond, List, [], ◌∷◌, drop, Option, Some, Result, refl, sym, ap, ◌∙◌}
use Rattle.std.specs.Prelude.{◌&&◌, not}
use Rattle.asm_base.specs.declared.positions.Pos.{Pos}
use Rattle.asm_base.specs.Tokens.{SpelledToken}
use Rattle.asm_lines.specs.NextStatements.{TokenStatement}
use Rattle.asm_items.specs.Alignments.{place_align}
use Rattle.asm_operands.specs.declared.place_faults.PlaceCause.{PlaceCause}
use Rattle.asm_operands.specs.Operands.{is_name, names_symbol, is_assignment, begins_with_dot, begins_with_label}
use Rattle.asm_values.specs.State.{Placed}
use Rattle.asm_words.specs.declared.directives.AlignedBy.{AlignedBy}
use Rattle.asm_words.specs.declared.directives.Directive.{Directive}
use Rattle.asm_words.specs.declared.directives.Directive.TheVariants.{Align}
use Rattle.asm_words.specs.Directives.{directive_of}
use Rattle.asm_place.specs.declared.bodies.Body.{Body}
use Rattle.asm_place.specs.declared.bodies.Body.TheVariants.{Assignment, Directed, Instruction, Unknown}
use Rattle.asm_place.specs.Bodies.{body_of}
use Rattle.asm_place.specs.Coding.{place_instruction}
use Rattle.asm_place.specs.Placing.{place_by, place_found, place_directive, place_body, place_unlabelled, place_tokens}
use Rattle.asm_place.specs.Sources.{pos_at, located, place}
use Rattle.asm_place.proofs.LabelLemmas.{tokens_unlabelled}

abbrev body_by : (assigns named dotted : Bool) → Option Directive → Body
body_by assigns named dotted found = cond assigns Assignment (cond (not named) Unknown (cond dotted (Directed found) Instruction))

abbrev placed_by_tests : (assigns named dotted : Bool) → (assignment unnamed directive instruction : Result Placed PlaceCause) → Result Placed PlaceCause
placed_by_tests assigns named dotted assignment unnamed directive instruction =
    cond assigns assignment (cond (not named) unnamed (cond dotted directive instruction))

insn_test : (assigns named dotted : Bool) (found : Option Directive) (assignment unnamed directive instruction : Result Placed PlaceCause)
    → body_by assigns named dotted found ≡ Instruction
    → placed_by_tests assigns named dotted assignment unnamed directive instruction ≡ instruction
insn_test true named dotted found assignment unnamed directive instruction is = cc
insn_test false false dotted found assignment unnamed directive instruction is = cc
insn_test false true true found assignment unnamed directive instruction is = cc
insn_test false true false found assignment unnamed directive instruction is = refl

directive_test : (assigns named dotted : Bool) (found : Option Directive) (directed : Option Directive) (assignment unnamed directive instruction : Result Placed PlaceCause)
    → body_by assigns named dotted found ≡ Directed directed
    → (placed_by_tests assigns named dotted assignment unnamed directive instruction ≡ directive) × (found ≡ directed)
directive_test true named dotted found directed assignment unnamed directive instruction is = absurd (cc)
directive_test false false dotted found directed assignment unnamed directive instruction is = absurd (cc)
directive_test false true true found directed assignment unnamed directive instruction is = (refl, cc)
directive_test false true false found directed assignment unnamed directive instruction is = absurd (cc)

insn_body : (pos : Pos) (tokens : List SpelledToken) (placed : Placed) → body_of tokens ≡ Instruction
    → place_unlabelled pos tokens placed ≡ place_instruction pos tokens placed
unfolding place_unlabelled place_body
insn_body pos [] placed is = absurd (cc)
insn_body pos (first ∷ rest) placed is =
    insn_test (names_symbol first && is_assignment rest) (is_name first) (begins_with_dot first.bytes) (directive_of first.bytes) _ _ _ _ is

align_body : (pos : Pos) (by : AlignedBy) (tokens : List SpelledToken) (placed : Placed) → body_of tokens ≡ Directed (Some (Align by))
    → place_unlabelled pos tokens placed ≡ place_align pos by (drop 1 tokens) placed
unfolding place_unlabelled place_body place_directive place_by
align_body pos by [] placed is = absurd (cc)
align_body pos by (first ∷ rest) placed is =
    let parts = directive_test (names_symbol first && is_assignment rest) (is_name first) (begins_with_dot first.bytes) (directive_of first.bytes)
    (Some (Align by)) _ _ (place_directive pos first.bytes rest placed) _ is in
    parts.0 ∙ ap (λ found. place_found found pos rest placed) parts.1

-- an instruction without labels is placed as one
pub insn_placed : (pos : Pos) (tokens : List SpelledToken) (placed : Placed) → begins_with_label tokens ≡ false → body_of tokens ≡ Instruction
    → place_tokens pos tokens placed ≡ place_instruction pos tokens placed
insn_placed pos tokens placed bare is = sym (tokens_unlabelled pos tokens placed bare) ∙ insn_body pos tokens placed is

-- and so is an alignment
pub align_placed : (pos : Pos) (by : AlignedBy) (tokens : List SpelledToken) (placed : Placed) → begins_with_label tokens ≡ false
    → body_of tokens ≡ Directed (Some (Align by)) → place_tokens pos tokens placed ≡ place_align pos by (drop 1 tokens) placed
align_placed pos by tokens placed bare is = sym (tokens_unlabelled pos tokens placed bare) ∙ align_body pos by tokens placed is

-- the statement is placed as its tokens are
pub placed_as : (s : TokenStatement) (placed : Placed) (due : Result Placed PlaceCause) → place_tokens (pos_at s.file s.line) s.tokens placed ≡ due
    → place s placed ≡ located s placed.notes due
unfolding place
placed_as s placed due is = ap (located s placed.notes) is
