-- The object of an answer, read back.
use Rattle.std.specs.Prelude.{ℕ, List, Option, None, Some, Result, Ok, Err}
use Rattle.asm_base.specs.Inputs.{Contents}
use Rattle.asm_lines.specs.NextStatements.{TokenStatement}
use Rattle.readback_laws.specs.Origins as origins
use Rattle.readback_laws.specs.ReadsBack as statements
use Rattle.loc_laws.specs.Locs.{LocsRead}
use Rattle.source_ends.specs.Ending.{Flags, worked_out}
use Rattle.asm_front.specs.Sources.{MainSource, name_of, source_in}
use Rattle.asm_front.specs.Assembly.{handed_of}
use Rattle.asm_front.specs.declared.answers.Assembled.{Assembled}
use Rattle.asm_front.specs.declared.answers.AsmFault.{AsmFault}

-- what the object of the statements that are handed out is made of, with the frames that were worked out, if they were
abbrev pub Origin : Flags → List TokenStatement → List ℕ → Type 0
Origin flags handed object = origins.Origin flags.no_warn (worked_out flags.scfi) handed object

-- each instruction that is handed out reads back in the object, where its section has bytes in the file, and so does the frame table of all procedures, or
-- of the functions that stand in place of these; behind a `.loc` of its section the line table gives the row of the last one
pub record ReadsBack (flags : Flags) (handed : List TokenStatement) (object : List ℕ) : Type 0 where
  pub statements_read : statements.ReadsBack flags.no_warn (worked_out flags.scfi) handed object
  pub locs_read : LocsRead flags.no_warn handed object statements_read.made.tables.symbols statements_read.made.laid statements_read.made.whole.lines

-- ANSWERS

-- where the source is told, its object reads back as each statement that its expansion hands out
abbrev pub AnswerReadsBack : Flags → Contents → List ℕ → Option (List ℕ) → Result Assembled AsmFault → Type 0
AnswerReadsBack flags contents name None result = Unit {0}
AnswerReadsBack flags contents name (Some source) (Ok made) = ReadsBack flags (handed_of flags contents name source) made.object
AnswerReadsBack flags contents name (Some source) (Err fault) = Unit {0}

-- where contents are known, the object of a main source reads back as they
abbrev pub ReadsBackFrom : Flags → Option Contents → MainSource → Result Assembled AsmFault → Type 0
ReadsBackFrom flags None main result = Unit {0}
ReadsBackFrom flags (Some contents) main result = AnswerReadsBack flags contents (name_of main) (source_in contents main) result
