use Rattle.synthesis_laws.proofs.MeaningRows.{table_frames_mean_rows}
use Rattle.synthesis_laws.proofs.frames.table_frames_mean_rows.Goals as goal

-- src/frames.rt:44:1
pub returns : goal.returns
returns c = table_frames_mean_rows c.tables_give_rows.ensures
