-- The lemmas, those that others cite first.
mod SharedLaws
mod PieceTokens
mod TokenTexts
mod DigitTexts
mod SumTexts
mod OperandTexts
mod MemoryTexts
mod OperandLaws
mod WorkedRows
