use Rattle.synthesis_laws.proofs.SeenRecords.{seen_look_alike}
use Rattle.synthesis_laws.proofs.SeenTables.{tables_are_seen, faults_are_seen}
use Rattle.synthesis_laws.proofs.SeenNodes.{nodes_are_seen}
use Rattle.synthesis_laws.proofs.SeenAnswers.{answers_are_seen}
use Rattle.synthesis_laws.proofs.seen.synthesis_sees.Goals as goal

-- src/seen.rt:9:1
pub returns : goal.returns
returns c = record { seen = seen_look_alike; tables = tables_are_seen; faults = faults_are_seen; nodes = nodes_are_seen; answers = answers_are_seen }
