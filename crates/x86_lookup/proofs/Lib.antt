-- Lemmas on the rows of names, on mnemonics, and on what rows write.
mod SpanFacts
mod SpanLaws
mod RowLookups
mod RowWrites
mod NameLookups
mod MnemonicTexts
mod KeyFacts
mod PatternSorts
mod FormSizes
mod RowNames
mod BareLookups
mod BareReadings
