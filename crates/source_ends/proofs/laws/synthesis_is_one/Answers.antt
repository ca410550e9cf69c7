use Rattle.source_ends.proofs.OneSynthesis.{SynthesisFacts, one_synthesis}
use Rattle.source_ends.proofs.laws.synthesis_is_one.Goals as goal

pub returns : goal.returns
returns c =
    let facts : SynthesisFacts = record {
      tables = c.answers_are_one.ensures.tables;
      faults = c.answers_are_one.ensures.faults;
      apart = c.answers_are_one.ensures.apart;
      tables_seen = c.synthesis_sees.ensures.tables;
      faults_seen = c.synthesis_sees.ensures.faults;
      nodes_seen = c.synthesis_sees.ensures.nodes;
    } in
    one_synthesis facts
