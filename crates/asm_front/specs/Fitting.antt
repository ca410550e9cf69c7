-- The numbers of the object that a source comes to fit their fields, and a reader finds its sections.
use Rattle.std.specs.Prelude.{◌≡◌, ℕ, List, Option, None, Some, Result, Ok, Err, OnOk}
use Rattle.asm_base.specs.Inputs.{Contents}
use Rattle.asm_base.specs.declared.refusals.Refusal.{Refusal}
use Rattle.asm_base.specs.declared.refusals.Refusal.TheVariants as refusal
use Rattle.asm_lines.specs.NextStatements.{TokenStatement}
use Rattle.asm_symbols.specs.SymbolMap.{SymbolMap}
use Rattle.asm_relax.specs.Settling.{LaidSections}
use Rattle.object_laws.specs.GroupReading.{AreGroupsRead, AreGroupHeaders, MembersFlagged}
use Rattle.object_laws.specs.ObjectLimits.{ObjectFits}
use Rattle.object_laws.specs.SmallSources.{HasFewHeaders}
use Rattle.object_laws.specs.SectionPlaces.{SectionsFound}
use Rattle.asm_macro.specs.Placing.{Step, ended}
use Rattle.asm_macro.specs.declared.faults.ExpandFault.{ExpandFault}
use Rattle.asm_place.specs.declared.place_faults.FaultAt.{FaultAt}
use Rattle.asm_functions.specs.FollowedSource.{FollowedSource}
use Rattle.source_ends.specs.Synthesis.{Synthesis, IsMadeAt}
use Rattle.source_ends.specs.Ending.{Flags, tabled, with_made, followed_end}
use Rattle.source_ends.specs.Fitting.{TablesFit}
use Rattle.asm_front.specs.Sources.{MainSource, name_of, source_in}
use Rattle.asm_front.specs.Outcome.{flags_asked}
use Rattle.asm_front.specs.Assembly.{expansion_of, handed_of}
use Rattle.asm_front.specs.ReadsBack.{Origin}
use Rattle.asm_front.specs.declared.answers.Asked.{Asked}
use Rattle.asm_front.specs.declared.answers.Assembled.{Assembled}
use Rattle.asm_front.specs.declared.answers.AsmFault.{AsmFault}
use Rattle.source_ends.specs.declared.ending.NotedObject.{NotedObject}

-- THE PROGRAM'S OWN NUMBERS

-- where the list came to its end and there is an object, the numbers of what was placed fit
abbrev pub AnswerFits : Flags → Result (Unit {0}) (ExpandFault FaultAt) → FollowedSource → Result Assembled AsmFault → Type 0
AnswerFits flags (Ok u) f (Ok made) = TablesFit (tabled (with_made flags.scfi f.placed))
AnswerFits flags (Ok u) f (Err fault) = Unit {0}
AnswerFits flags (Err stop) f result = Unit {0}

-- the object of all that was placed and followed, or the fault at the end, by what synthesis comes to
pub record EndsFollowed (asked : Asked) (f : FollowedSource) (answer : Result NotedObject FaultAt) : Type 0 where
  pub made : Synthesis
  pub comes : IsMadeAt (flags_asked asked made).scfi f
  pub answers : followed_end (flags_asked asked made) f ≡ answer
  pub fits : OnOk answer (TablesFit (tabled (with_made (flags_asked asked made).scfi f.placed)))

-- the call answers so
abbrev pub AnswersFollowed : Asked → FollowedSource → Result NotedObject (Refusal FaultAt) → Type 0
AnswersFollowed asked f (Ok made) = EndsFollowed asked f (Ok made)
AnswersFollowed asked f (Err (refusal.Fault at)) = EndsFollowed asked f (Err at)
AnswersFollowed asked f (Err refusal.NoMemory) = Unit {0}

-- where a list comes to its end, so do those of what it places
abbrev pub StepFits : Flags → Step FollowedSource FaultAt → Type 0
StepFits flags (ended files f) = TablesFit (tabled (with_made flags.scfi f.placed))
StepFits flags _ = Unit {0}

-- where there is an object, so do those of what the text of a source comes to
abbrev pub TextFits : Flags → Option Contents → List ℕ → List ℕ → Result Assembled AsmFault → Type 0
TextFits flags contents name text (Ok made) = StepFits flags (expansion_of flags contents name text)
TextFits flags contents name text (Err fault) = Unit {0}

-- WHAT A READER FINDS

-- all numbers of the object fit their fields, it has few headers, and each section is found by its header, with its bytes where they stand in the file; the
-- header of each group lists just the headers of its sections and of their relocations, just those have the flag, and no other header is that of a group
pub record IsReadable (symbols : SymbolMap) (laid : LaidSections) : Type 0 where
  pub fits : ObjectFits symbols laid
  pub few : HasFewHeaders symbols laid
  pub sections : SectionsFound symbols laid
  pub groups : AreGroupsRead symbols laid
  pub groups_found : AreGroupHeaders symbols laid
  pub members : MembersFlagged symbols laid

-- so it is with the layout that the object of these statements is made of
abbrev pub ObjectIsReadable : Flags → List TokenStatement → List ℕ → Type 0
ObjectIsReadable flags handed object = (made : Origin flags handed object) → IsReadable made.tables.symbols made.laid

-- where the file of the name is there, its object is readable
abbrev pub FileIsReadable : Flags → Contents → List ℕ → Option (List ℕ) → Result Assembled AsmFault → Type 0
FileIsReadable flags contents name None result = Unit {0}
FileIsReadable flags contents name (Some source) (Ok made) = ObjectIsReadable flags (handed_of flags contents name source) made.object
FileIsReadable flags contents name (Some source) (Err fault) = Unit {0}

-- where contents are known, the object of a main source is readable
abbrev pub SourceIsReadable : Flags → Option Contents → MainSource → Result Assembled AsmFault → Type 0
SourceIsReadable flags None main result = Unit {0}
SourceIsReadable flags (Some contents) main result = FileIsReadable flags contents (name_of main) (source_in contents main) result
