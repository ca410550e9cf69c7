-- Written instructions read back: those with operands stand in the object with their values.
use Rattle.std.proofs.Common.{◌≡◌, ℕ, Bool, false, List, Option, ◌∷◌, ◌++◌, drop, sym, ap, ◌∙◌}
use Rattle.std.specs.Prelude.{◌==◌}
use Rattle.std.specs.Option.{option_map_or}
use Rattle.asm_lines.specs.NextStatements.{TokenStatement}
use Rattle.asm_frags.specs.SectionOf.{SectionOf}
use Rattle.asm_relax.specs.Settling.{LaidItem}
use Rattle.elf_file.specs.Places.{PieceAt}
use Rattle.elf_file.specs.Sections.{no_bits}
use Rattle.elf_object.specs.Image.{image_of}
use Rattle.x86_table.specs.Reads.{ReadsOneWay}
use Rattle.x86_lookup.specs.BareInstructions.{BareCodesRead}
use Rattle.x86_encode.specs.EncodingLaws.{EncodingsFill}
use Rattle.x86_encode.specs.FieldPlaces.{EncodingsApart, EncodingsHoldUnknown}
use Rattle.cfi_directives.specs.declared.frames.Frame.{Frame}
use Rattle.frame_laws.specs.TableReads.{FrameTablesRead}
use Rattle.asm_values.specs.State.{nothing_placed}
use Rattle.asm_place.specs.Sources.{pos_at}
use Rattle.section_laws.specs.Within.{IsWithin}
use Rattle.asm_place.specs.Instructions.{next_item, next_offset}
use Rattle.asm_place.specs.CodePlaces.{field_in, code_fields}
use Rattle.readback_laws.specs.Origins.{Origin, with_worked_out}
use Rattle.readback_laws.specs.Instructions.{file_place, final_value, CodesReadBack}
use Rattle.readback_laws.specs.ReadsBack.{ReadsBack}
use Rattle.readback_laws.proofs.SmallForms.{final_small}
use Rattle.readback_laws.proofs.CodePieces.{all_hold, code_there}
use Rattle.readback_laws.proofs.CodeReads.{code_reads}
use Rattle.readback_laws.proofs.FramedSections.{TableFacts, is_framed, code_stays}
use Rattle.readback_laws.proofs.PlacedFacts.{PlaceFacts}
use Rattle.readback_laws.proofs.JumpsInObject.{JumpFacts, jumps_read_back}
use Rattle.readback_laws.proofs.Lists.{all_there}
use Rattle.readback_laws.proofs.SettledObjects.{AreSettled, drop_stands}
use Rattle.readback_laws.proofs.FramedSymbols.{AreCovered}
use Rattle.readback_laws.proofs.FramesInObject.{frames_read_back, few_symbols}
use Rattle.readback_laws.proofs.LinedSections.{LineFacts}
use Rattle.readback_laws.proofs.BareInObject.{bare_read_back}
use Rattle.readback_laws.proofs.ReachedStatements.{all_placed, are_reached}

-- what stands in the image begins what stands from its place on in the object
object_begins : (object image piece : List ℕ) (at : ℕ) → object ≡ image → (there : PieceAt image at piece) → drop at object ≡ piece ++ there.rest
object_begins object image piece at same there = ap (drop at) same ∙ drop_stands image at piece there

-- each instruction with operands that is handed out reads back
codes_read_back : AreSettled → ReadsOneWay → EncodingsFill → EncodingsApart → EncodingsHoldUnknown → TableFacts → PlaceFacts → (no_warn : Bool)
    (worked_out : Option (List Frame)) (handed : List TokenStatement) (object : List ℕ) (from : Origin no_warn worked_out handed object)
    → CodesReadBack no_warn handed object from.tables.symbols from.laid
codes_read_back settled one_way fills places unknown table facts no_warn worked_out handed object from s text placed reached written no_jump filed =
    let empty = nothing_placed no_warn in
    let begins = facts.begins no_warn in
    let before = reached.before in
    let after = reached.after in
    let whole = from.whole in
    let tables = from.tables in
    let laid = from.laid in
    let all = all_placed no_warn worked_out handed object from s placed reached in
    let insn = facts.code_stands before s after empty placed whole text begins reached.places all written no_jump in
    let symbols = tables.symbols in
    let pos = pos_at s.file s.line in
    let number = placed.current in
    let item = next_item placed in
    let offset = next_offset placed in
    let code = insn.coded.made.bytes in
    let fields = code_fields text insn.coded.forms insn.coded.made in
    let with_table = is_framed table (with_worked_out worked_out whole) tables (facts.within (before ++ s ∷ after) empty whole all begins)
    (record { framed = from.framed; frames = from.frames; lines = from.lines }) in
    let stands = code_stays whole.sections tables.sections number item offset pos code fields with_table.grows insn.stands in
    let section = stands.section in
    let within : IsWithin section = all_there IsWithin tables.sections number section stands.found with_table.within in
    let takes : (section.kind == 8) ≡ false =
    sym (ap (λ found. option_map_or (λ (kept : SectionOf LaidItem). kept.kind == no_bits) found false)
    (settled.layouts.section symbols tables.sections laid number section from.settles stands.found).1) ∙ filed in
    let there = code_there settled symbols tables.sections laid number item offset pos code fields from.settles stands within.apart takes in
    let at = file_place symbols laid number item offset in
    record {
      coded = insn.coded;
      reads =
          code_reads one_way fills places unknown text insn.coded.forms insn.coded.made
          (λ field. final_value symbols laid (field_in pos number item offset field)) object there.rest at
          insn.coded.coding insn.stands.apart (λ field small. final_small symbols laid (field_in pos number item offset field) small)
          (all_hold settled symbols tables.sections laid number item offset pos code fields from.settles stands within.apart takes)
          (object_begins object (image_of symbols laid) _ at from.image there);
    }

-- each instruction that is handed out reads back, and so does the frame table
pub reads_back : AreSettled → ReadsOneWay → BareCodesRead → EncodingsFill → EncodingsApart → EncodingsHoldUnknown → TableFacts → LineFacts → PlaceFacts → JumpFacts
    → FrameTablesRead → (no_warn : Bool) (worked_out : Option (List Frame)) (handed : List TokenStatement) (object : List ℕ) (from : Origin no_warn worked_out handed object)
    → AreCovered worked_out from.whole → ReadsBack no_warn worked_out handed object
reads_back settled one_way read fills places unknown table lined facts jumps tables_read no_warn worked_out handed object from covered = record {
  made = from;
  reached = are_reached no_warn worked_out handed object from;
  bare = bare_read_back settled one_way read table facts no_warn worked_out handed object from;
  coded = codes_read_back settled one_way fills places unknown table facts no_warn worked_out handed object from;
  jumps = jumps_read_back settled one_way table facts jumps no_warn worked_out handed object from covered;
  frames = frames_read_back settled table lined facts jumps no_warn worked_out handed object from covered tables_read;
  few = few_symbols settled table lined facts jumps no_warn worked_out handed object from covered tables_read;
}
