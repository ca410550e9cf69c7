-- What stands in front of the operands: a mnemonic, and a prefix before it (GNU as manual, "i386-Prefixes").
use Rattle.std.specs.Prelude.{ℕ, List, Option, Some, None, slice_get}
use Rattle.asm_base.specs.Tokens.{SpelledToken}
use Rattle.x86_insn.specs.declared.insns.Prefix.{Prefix}
use Rattle.x86_insn.specs.declared.insns.Prefix.TheVariants.{Absent}
use Rattle.x86_lookup.specs.declared.names.Named.{Named}
use Rattle.x86_lookup.specs.Mnemonics.{att_mnemonic}
use Rattle.att_operands.specs.Prefixes.{prefix_of}

-- a mnemonic and the prefix before it, and the place behind them
pub record Head : Type 0 where
  pub named : Named
  pub «prefix» : Prefix
  pub next : ℕ

-- a mnemonic, its prefix, and the place behind them
abbrev pub head : Named → Prefix → ℕ → Head
head named word next = record { named = named; «prefix» = word; next = next }

-- the mnemonic that the token is
abbrev pub mnemonic_by : Option SpelledToken → Option Named
mnemonic_by None = None
mnemonic_by (Some token) = att_mnemonic token.bytes

-- the prefix that the token is
abbrev pub prefix_by : Option SpelledToken → Option Prefix
prefix_by None = None
prefix_by (Some token) = prefix_of token.bytes

-- the mnemonic behind a prefix, if one stands there that has rows
abbrev pub headed : Prefix → ℕ → Option Named → Option Head
headed word next None = None
headed word next (Some named) = Some (head named word next)

-- the mnemonic behind the prefix in front
abbrev pub prefixed : List SpelledToken → Option Prefix → Option Head
prefixed tokens None = None
prefixed tokens (Some word) = headed word 2 (mnemonic_by (slice_get tokens 1))

-- the mnemonic in front, or behind a prefix
abbrev pub head_by : List SpelledToken → Option Named → Option Head
head_by tokens None = prefixed tokens (prefix_by (slice_get tokens 0))
head_by tokens (Some named) = Some (head named Absent 1)

-- what stands in front of the operands, if a mnemonic does that has rows
unfoldable pub head_of : List SpelledToken → Option Head
head_of tokens = head_by tokens (mnemonic_by (slice_get tokens 0))
