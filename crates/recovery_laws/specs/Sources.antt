-- The functions of a source whose frame tables are worked out, in the object of that source.
use Rattle.std.specs.Prelude.{◌≡◌, ℕ, List, [], ◌∷◌, Option, None, Some, Ok, Err}
use Rattle.asm_base.specs.Inputs.{Contents}
use Rattle.asm_symbols.specs.SymbolMap.{SymbolMap}
use Rattle.asm_relax.specs.Settling.{LaidSections}
use Rattle.asm_macro.specs.Placing.{Step, ended}
use Rattle.asm_place.specs.declared.place_faults.FaultAt.{FaultAt}
use Rattle.asm_functions.specs.FollowedSource.{FollowedSource}
use Rattle.expansion_laws.specs.Handing.{IsBytes, AreBytes}
use Rattle.source_ends.specs.Synthesis.{Synthesis}
use Rattle.source_ends.specs.Ending.{Flags}
use Rattle.asm_front.specs.Assembly.{assembled, assembly_of, expansion_of, handed_of, SourceIsMade}
use Rattle.asm_front.specs.ReadsBack.{Origin}
use Rattle.source_ends.specs.declared.ending.NotedObject.{NotedObject}
use Rattle.recovery_laws.specs.Recovered.{FunctionsRecover}

module _ (object : List ℕ) (map : SymbolMap) (laid : LaidSections) where
  -- where synthesis comes to frames, the functions of the source recover with them. Without
  -- functions there are none, and no frame table
  abbrev pub FramesRecover : Option Synthesis → FollowedSource → Type 0
  FramesRecover None source = Unit {0}
  FramesRecover (Some (Ok [])) source = Unit {0}
  FramesRecover (Some (Ok (frame ∷ frames))) source =
      FunctionsRecover object map laid source (frame ∷ frames)
  FramesRecover (Some (Err at)) source = Unit {0}

  -- the same where the statements of a source come to their end
  abbrev pub StepRecovers : Option Synthesis → Step FollowedSource FaultAt → Type 0
  StepRecovers made (ended files source) = FramesRecover made source
  StepRecovers made _ = Unit {0}

-- the functions of a source recover in its object: the rows of a function's entry in `.eh_frame`
-- recover the caller along each execution in which calls keep the registers, the return address
-- and the slots, and stores whose place is not followed leave these alone. The bytes executed are
-- those of the object but for relocated fields, which may hold anything; code in a section without
-- bytes in the file (SHT_NOBITS, of zeros) is left out. At exits the registers that calls keep are
-- as at entry. The symbols and the layout are those that the object is made of
abbrev pub SourceRecovers : Flags → Contents → (name source object : List ℕ) → Type 0
SourceRecovers flags contents name source object =
    (made : Origin flags (handed_of flags contents name source) object)
    → StepRecovers object made.tables.symbols made.laid flags.scfi
    (expansion_of flags (Some contents) name source)

-- so it is with each source that is assembled, where it and the files that it may include are
-- bytes
abbrev pub ObjectsRecover : Type 0
ObjectsRecover = (flags : Flags) (contents : Contents) (name source : List ℕ) (made : NotedObject)
    (files : List (List ℕ)) → AreBytes contents → IsBytes source
    → assembly_of flags contents name source ≡ assembled made files
    → SourceIsMade flags contents name source
    → SourceRecovers flags contents name source made.object
