-- The object of statements, read back: their instructions at their places, and the frame table.
use Rattle.std.specs.Prelude.{◌≡◌, ℕ, ◌+◌, ◌^◌, ◌≤◌, Bool, List, ◌∷◌, length, Option}
use Rattle.asm_lines.specs.NextStatements.{TokenStatement}
use Rattle.asm_symbols.specs.SymbolMap.{SymbolMap}
use Rattle.asm_relax.specs.Settling.{LaidSections}
use Rattle.cfi_directives.specs.declared.frames.Frame.{Frame}
use Rattle.cfi_directives.specs.Procedures.{frames_of}
use Rattle.frame_laws.specs.TableReads.{TableReads}
use Rattle.asm_values.specs.State.{Placed}
use Rattle.readback_laws.specs.Origins.{FramesAreReady, Origin, AreReached, with_worked_out}
use Rattle.readback_laws.specs.Instructions.{BareReadBack, CodesReadBack, JumpsReadBack}

-- where there are procedures, `.eh_frame` in the object has, of each in their order, its CIE where none before shares it, and then its FDE, which at each
-- distance from the procedure's beginning gives the row that its directives mean, and none from its end on. Functions whose frame tables are worked out
-- take the place of procedures
abbrev pub FramesReadBack : List ℕ → Placed → SymbolMap → LaidSections → Type 0
FramesReadBack object whole symbols laid =
    (frame : Frame) (frames : List Frame) → frames_of whole.procedures ≡ frame ∷ frames → TableReads object symbols laid (frame ∷ frames)

-- the object is made of what is handed out: each instruction of that reads back in it, where its section has bytes in the file, and so does the frame
-- table of all procedures. At most two labels a byte of the frame table, and one a byte of the line table, are symbols for them
pub record ReadsBack (no_warn : Bool) (worked_out : Option (List Frame)) (handed : List TokenStatement) (object : List ℕ) : Type 0 where
  pub made : Origin no_warn worked_out handed object
  pub reached : AreReached no_warn handed
  pub bare : BareReadBack no_warn handed object made.tables.symbols made.laid
  pub coded : CodesReadBack no_warn handed object made.tables.symbols made.laid
  pub jumps : JumpsReadBack no_warn handed object made.tables.symbols made.laid
  pub frames : FramesReadBack object (with_worked_out worked_out made.whole) made.tables.symbols made.laid
  pub few : length made.tables.symbols.symbols ≤ 2 ^ 24 + 2 ^ 31 + 2 ^ 30

-- so it is with each object of statements whose frames are ready
abbrev pub StatementsReadBack : Type 0
StatementsReadBack = (no_warn : Bool) (worked_out : Option (List Frame)) (handed : List TokenStatement) (object : List ℕ)
    → (origin : Origin no_warn worked_out handed object) → FramesAreReady worked_out origin.whole → ReadsBack no_warn worked_out handed object
