use Rattle.std.proofs.Common.{refl}
use Rattle.x86_lookup.specs.Ranges.{the_spans, span_of}
use Rattle.x86_lookup.specs.Names.{the_att_names, the_intel_names}
use Rattle.x86_lookup.proofs.laws.mnemonics_have_rows.Goals as goal

pub returns-clause-att : goal.returns-clause-att
unfolding the_att_names the_spans span_of
returns-clause-att c = refl

pub returns-clause-intel : goal.returns-clause-intel
unfolding the_intel_names the_spans span_of
returns-clause-intel c = refl

pub returns-clause-att_texts : goal.returns-clause-att_texts
unfolding the_att_names
returns-clause-att_texts c = refl

pub returns-clause-intel_texts : goal.returns-clause-intel_texts
unfolding the_intel_names
returns-clause-intel_texts c = refl
