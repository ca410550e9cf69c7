-- What the words of directives say that the program has read.
use Rattle.std.specs.Prelude.{ℕ, List, Option, None, Some, option_map}
use Rattle.std.specs.Global.{Box}
use Rattle.asm_expr.specs.Trees.{tree_of}
use Rattle.asm_words.specs.declared.section_operands.GroupWords.{GroupWords}
use Rattle.asm_words.specs.declared.section_operands.SectionWords.{SectionWords as ReadWords}
use Rattle.asm_words.specs.SectionWords.{SectionWords}

-- the signature that was read, if one was
abbrev pub signature_in : Option (Box GroupWords) → Option (List ℕ)
signature_in None = None
signature_in (Some group) = group.value.signature

-- the word behind it, likewise
abbrev pub linkage_in : Option (Box GroupWords) → Option (List ℕ)
linkage_in None = None
linkage_in (Some group) = option_map (λ word. word.items) group.value.linkage

-- the operands of `.section` that were read
abbrev pub words_in : ReadWords → SectionWords
words_in words = record {
  name = words.name.items;
  flags = option_map (λ letters. letters.items) words.flags;
  kind = option_map (λ name. name.items) words.kind;
  entry_size = option_map tree_of words.entry_size;
  signature = signature_in words.group;
  linkage = linkage_in words.group;
}
