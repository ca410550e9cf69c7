-- Instructions without operands and prefix stand in the object, and read as they were written.
use Rattle.std.proofs.Common.{◌≡◌, ℕ, ◌+◌, ◌≤◌, ◌&&◌, not, Bool, true, false, cond, List, [], ◌∷◌, ◌++◌, Option, Some, None, Ok, length, drop, sym, ap, ◌∙◌, arith}
use Rattle.std.specs.Prelude.{slice_get}
use Rattle.asm_base.specs.Tokens.{SpelledToken}
use Rattle.asm_lines.specs.NextStatements.{TokenStatement}
use Rattle.asm_symbols.specs.SymbolMap.{SymbolMap}
use Rattle.asm_relax.specs.KeptSections.{kept_section}
use Rattle.asm_relax.specs.Settling.{LaidSections, layout_of}
use Rattle.x86_insn.specs.Views.{View}
use Rattle.x86_table.specs.Reads.{Reads, ReadsOneWay}
use Rattle.x86_lookup.specs.BareInstructions.{Coded, bare_instruction, BareCodesRead}
use Rattle.asm_operands.specs.Operands.{is_name, begins_with_dot}
use Rattle.asm_frags.specs.Writing.{LooseSection}
use Rattle.asm_values.specs.State.{nothing_placed}
use Rattle.asm_words.specs.declared.directives.Syntax.{Syntax}
use Rattle.asm_words.specs.declared.directives.Syntax.TheVariants.{Att, Intel}
use Rattle.cfi_directives.specs.declared.frames.Frame.{Frame}
use Rattle.asm_place.specs.Instructions.{behind_labels, instruction_written, next_item, next_offset, StandsAt}
use Rattle.elf_object.specs.Image.{image_of}
use Rattle.elf_file.specs.Places.{PieceAt}
use Rattle.elf_object.specs.Places.{IsFiled, IsBetween}
use Rattle.readback_laws.specs.Origins.{Origin, with_worked_out}
use Rattle.readback_laws.specs.Instructions.{ReadsAt, file_place, BareReadBack}
use Rattle.readback_laws.proofs.FramedSections.{TableFacts, is_framed, bytes_stay}
use Rattle.readback_laws.proofs.PlacedFacts.{PlaceFacts}
use Rattle.readback_laws.proofs.ReachedStatements.{all_placed}
use Rattle.readback_laws.proofs.SettledObjects.{AreSettled, drop_stands}

-- plain bytes that stand in a section stand in the object at their place
pub object_stands : AreSettled → (symbols : SymbolMap) (sections : List LooseSection) (laid : LaidSections) (n item offset : ℕ) (bytes : List ℕ) → layout_of symbols sections ≡ Ok laid
    → StandsAt sections n item offset bytes → PieceAt (image_of symbols laid) (file_place symbols laid n item offset) bytes
object_stands settled symbols sections laid n item offset bytes e holds =
    let got = settled.layouts.section symbols sections laid n holds.section e holds.found in
    let section = kept_section symbols got.0 holds.section in
    let there : slice_get laid n ≡ Some section = got.1 in
    let last = offset + length bytes in
    let filed : IsFiled laid n section = record {
      found = there;
      takes_bytes = holds.takes_bytes;
      laid = settled.layouts.placed symbols sections laid n section e there;
      sized = settled.layouts.sized symbols sections laid n section e there;
    } in
    let between : IsBetween section.items item offset last = record {
      before = settled.layouts.first offset item holds.section.items got.0 holds.before;
      behind = settled.layouts.others last item holds.section.items got.0 holds.behind;
    } in
    let within : last ≤ length holds.section.bytes = holds.within in
    let inside : offset ≤ length holds.section.bytes = omega arith in
    let stands = settled.bytes symbols laid n item offset section bytes filed inside holds.there
    (settled.layouts.beside symbols offset last holds.section.fields holds.free) between in
    rw there stands

written_of_one : (name plain : Bool) (found : Option Coded) (coded : Coded) → cond (name && plain) found None ≡ Some coded → found ≡ Some coded
written_of_one true true found coded e = e
written_of_one true false found coded e = absurd cc
written_of_one false plain found coded e = absurd cc

-- the bytes of the instruction that is written read as it
written_reads : BareCodesRead → (syntax : Syntax) (tokens : List SpelledToken) (coded : Coded) → instruction_written syntax tokens ≡ Some coded
    → Reads coded.bytes coded.insn
unfolding instruction_written
written_reads read Intel tokens coded e = absurd cc
written_reads read Att [] coded e = absurd cc
written_reads read Att (name ∷ []) coded e =
    read name.bytes coded (written_of_one (is_name name) (not (begins_with_dot name.bytes)) (bare_instruction name.bytes) coded e)
written_reads read Att (name ∷ operand ∷ rest) coded e = absurd cc

-- bytes that begin with those that read as an instruction read as it, and as no other
abbrev pub reads_code : ReadsOneWay → (bytes code rest : List ℕ) (at : ℕ) (insn : View) → drop at bytes ≡ code ++ rest → Reads code insn → ReadsAt bytes at insn
reads_code one_way bytes code rest at insn stands reads = record {
  code = code;
  rest = rest;
  stands = stands;
  reads = reads;
  only = λ front after other begins as_other.
      one_way front code after rest other insn as_other reads (sym begins ∙ stands);
}

-- each instruction without operands that is handed out reads back
pub bare_read_back : AreSettled → ReadsOneWay → BareCodesRead → TableFacts → PlaceFacts → (no_warn : Bool) (worked_out : Option (List Frame)) (handed : List TokenStatement)
    (object : List ℕ) (from : Origin no_warn worked_out handed object) → BareReadBack no_warn handed object from.tables.symbols from.laid
bare_read_back settled one_way read table facts no_warn worked_out handed object from s coded placed reached written =
    let empty = nothing_placed no_warn in
    let begins = facts.begins no_warn in
    let before = reached.before in
    let after = reached.after in
    let whole = from.whole in
    let tables = from.tables in
    let laid = from.laid in
    let all = all_placed no_warn worked_out handed object from s placed reached in
    let stands = facts.bare_stands before s after empty placed whole coded begins reached.places all written in
    let grows = (is_framed table (with_worked_out worked_out whole) tables (facts.within (before ++ s ∷ after) empty whole all begins)
    (record { framed = from.framed; frames = from.frames; lines = from.lines })).grows in
    let holds = bytes_stay whole.sections tables.sections placed.current (next_item placed) (next_offset placed) coded.bytes grows stands in
    let symbols = tables.symbols in
    let at = file_place symbols laid placed.current (next_item placed) (next_offset placed) in
    let there = object_stands settled symbols tables.sections laid placed.current (next_item placed) (next_offset placed) coded.bytes from.settles holds in
    reads_code one_way object coded.bytes there.rest at coded.insn (ap (drop at) from.image ∙ drop_stands (image_of symbols laid) at coded.bytes there)
    (written_reads read placed.syntax (behind_labels s.tokens) coded written)
