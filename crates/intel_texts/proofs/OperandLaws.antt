-- The texts of operands spell them.
use Rattle.att_texts.specs.TextLaws.{PiecesSpell}
use Rattle.intel_texts.specs.TextLaws.{OperandsSpell}
use Rattle.intel_texts.proofs.SharedLaws.{shared}
use Rattle.intel_texts.proofs.OperandTexts.{register_spelled, immediate_spelled, target_spelled}
use Rattle.intel_texts.proofs.MemoryTexts.{memory_spelled}

pub operands_spell : PiecesSpell → OperandsSpell
operands_spell laws = record {
  registers = register_spelled (shared laws);
  immediates = immediate_spelled (shared laws);
  memory = memory_spelled (shared laws);
  targets = target_spelled (shared laws);
}
