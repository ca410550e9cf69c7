-- The words that may stand before a mnemonic (GNU as manual, "Instruction Prefixes").
use Rattle.std.specs.Prelude.{ℕ, List, [], ◌∷◌, Option, option_map, codes}
use Rattle.std.specs.List.{find}
use Rattle.std.specs.Str.{str_eq_ignore_ascii_case}
use Rattle.x86_insn.specs.declared.insns.Prefix.{Prefix}
use Rattle.x86_insn.specs.declared.insns.Prefix.TheVariants.{Lock, Rep, Repe, Repne, Notrack}

-- a word, and the prefix that it is
pub record PrefixWord : Type 0 where
  pub text : List ℕ
  pub word : Prefix

-- a word that is this prefix
abbrev pub writes : List ℕ → Prefix → PrefixWord
writes text word = record { text = text; word = word }

-- all words
abbrev pub prefix_words : List PrefixWord
prefix_words =
    writes (codes "lock") Lock ∷ writes (codes "rep") Rep ∷ writes (codes "repe") Repe ∷ writes (codes "repz") Repe
    ∷ writes (codes "repne") Repne ∷ writes (codes "repnz") Repne ∷ writes (codes "notrack") Notrack ∷ []

-- the prefix that a text is, in either case
abbrev pub prefix_of : List ℕ → Option Prefix
prefix_of text = option_map (λ known. known.word) (find (λ known. str_eq_ignore_ascii_case text known.text) prefix_words)
