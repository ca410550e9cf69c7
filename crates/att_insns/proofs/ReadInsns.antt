-- An instruction that is read is spelled.
use Rattle.std.proofs.Common.{◌≡◌, ◌<◌, ℕ, zero, suc, ◌+◌, ◌-◌, nat_lt, Bool, true, false, cond, List, [], ◌∷◌, ◌++◌, Option, Some, None, Result, Ok, Err, length, drop, refl, sym, ap, subst, ◌∙◌, arith, length-append, length-drop}
use Rattle.std.proofs.lemmas.Bool.{ltb-true, ltb-false, eqb-true}
use Rattle.std.proofs.lemmas.List.{append-nil}
use Rattle.asm_base.specs.Refusals.{◌>>=◌}
use Rattle.asm_base.specs.Tokens.{SpelledToken}
use Rattle.x86_insn.specs.declared.insns.Prefix.{Prefix}
use Rattle.x86_lookup.specs.declared.names.Named.{Named}
use Rattle.x86_lookup.specs.Mnemonics.{att_mnemonic}
use Rattle.att_operands.specs.declared.faults.OperandCause.{OperandCause}
use Rattle.att_operands.specs.Marks.{mark_by, ends_by}
use Rattle.att_operands.specs.Prefixes.{prefix_of}
use Rattle.att_operands.specs.OperandTexts.{OperandText, ReadPart, operand_at}
use Rattle.att_operands.specs.Spells.{IsMark, ends, IsSpelledIn}
use Rattle.att_insns.specs.InsnTexts.{InsnText, blank, with_operand, with_operands}
use Rattle.att_insns.specs.Rules.{is_branch}
use Rattle.att_insns.specs.Sizes.{sized}
use Rattle.att_insns.specs.Sources.{meant_by}
use Rattle.att_insns.specs.Heads.{Head, headed, prefixed as behind_prefix, head_by, head_of}
use Rattle.att_insns.specs.Reading.{operand_then, operands_at, with_all, finished, insn_by, insn_of}
use Rattle.att_insns.specs.Spells.{WritesOperands, last, more, WritesAll, none, some, filled_by, IsHead, bare, prefixed, Spells, behind, OperandsAreSpelled}
use Rattle.att_insns.proofs.SizesFound.{size_has}
use Rattle.att_insns.proofs.SpelledInsns.{drop_more, drop_past}

some_is : {A : Type 0} {m n : A} → Some m ≡ Some n → m ≡ n
some_is h = cc

ok_is : (one other : InsnText) → (let given : Result InsnText OperandCause = Ok one in given ≡ Ok other) → one ≡ other
ok_is one other h = cc

-- operands that were read, with their text
record OperandsRead (most : ℕ) (branch : Bool) (tokens : List SpelledToken) (at : ℕ) (insn made : InsnText) : Type 0 where
  operands : List OperandText
  text : List SpelledToken
  stands : drop at tokens ≡ text
  writes : WritesOperands most branch operands text
  is : made ≡ with_operands operands insn

-- a comma stands behind an operand that is not the last
pub record Comma (rest : List SpelledToken) : Type 0 where
  pub comma : SpelledToken
  pub others : List SpelledToken
  pub is : rest ≡ comma ∷ others
  pub mark : IsMark 44 comma

pub comma_of : (rest : List SpelledToken) → ends rest ≡ true → 0 < length rest → Comma rest
unfolding ends_by
comma_of [] ended filled = absurd (omega arith)
comma_of (comma ∷ others) ended filled = record { comma = comma; others = others; is = refl; mark = eqb-true (mark_by (Some comma)) 44 ended }

nothing_left : (rest : List SpelledToken) → length rest ≡ 0 → rest ≡ []
nothing_left [] is = refl
nothing_left (token ∷ rest) is = absurd (omega arith)

-- an operand that is the last
last_read : (others : ℕ) (branch : Bool) (tokens : List SpelledToken) (at : ℕ) (insn made : InsnText) (found : ReadPart) → IsSpelledIn branch tokens at found
    → nat_lt found.next (length tokens) ≡ false → with_operand found.operand insn ≡ made → OperandsRead (suc others) branch tokens at insn made
last_read others branch tokens at insn made found read over is =
    let next = read.next in
    let sum : length read.text + length read.behind ≡ length tokens - at = sym (ap length read.stands ∙ length-append read.text read.behind) ∙ length-drop at tokens in
    let past = ltb-false found.next (length tokens) over in
    let left : read.behind ≡ [] = nothing_left read.behind (omega arith) in
    record {
      operands = found.operand ∷ [];
      text = read.text;
      stands = read.stands ∙ ap (λ (ts : List SpelledToken). read.text ++ ts) left ∙ append-nil read.text;
      writes = last others branch found.operand read.text read.spells;
      is = sym is;
    }

more_read : (others : ℕ) (branch : Bool) (tokens : List SpelledToken) (at : ℕ) (insn made : InsnText) (found : ReadPart) → IsSpelledIn branch tokens at found
    → nat_lt found.next (length tokens) ≡ true → OperandsRead others branch tokens (found.next + 1) (with_operand found.operand insn) made → OperandsRead (suc others) branch tokens at insn made
more_read others branch tokens at insn made found read under rest =
    let next = read.next in
    let sum : length read.text + length read.behind ≡ length tokens - at = sym (ap length read.stands ∙ length-append read.text read.behind) ∙ length-drop at tokens in
    let below = ltb-true found.next (length tokens) under in
    let comma = comma_of read.behind read.ended (omega arith) in
    let split : drop at tokens ≡ read.text ++ (comma.comma ∷ comma.others) = read.stands ∙ ap (λ (ts : List SpelledToken). read.text ++ ts) comma.is in
    let left : drop (found.next + 1) tokens ≡ comma.others =
    drop_more (length read.text + 1) tokens (read.text ++ (comma.comma ∷ comma.others)) at (found.next + 1) split (omega arith) ∙ drop_past read.text comma.comma comma.others (length read.text + 1) refl in
    let same : comma.others ≡ rest.text = sym left ∙ rest.stands in
    record {
      operands = found.operand ∷ rest.operands;
      text = read.text ++ (comma.comma ∷ rest.text);
      stands = split ∙ ap (λ (ts : List SpelledToken). read.text ++ (comma.comma ∷ ts)) same;
      writes = more others branch found.operand rest.operands comma.comma read.text rest.text (read.text ++ (comma.comma ∷ rest.text)) read.spells comma.mark rest.writes refl;
      is = rest.is;
    }

-- so many operands at a place are spelled where they are read
abbrev Rest : ℕ → Bool → List SpelledToken → Type 0
Rest most branch tokens = (at : ℕ) (insn made : InsnText) → operands_at most branch tokens at insn ≡ Ok made → OperandsRead most branch tokens at insn made

by_place : (others : ℕ) (branch : Bool) (tokens : List SpelledToken) (at : ℕ) (insn made : InsnText) (found : ReadPart) (b : Bool) → Rest others branch tokens → IsSpelledIn branch tokens at found
    → nat_lt found.next (length tokens) ≡ b → cond b (operands_at others branch tokens (found.next + 1) (with_operand found.operand insn)) (Ok (with_operand found.operand insn)) ≡ Ok made
    → OperandsRead (suc others) branch tokens at insn made
by_place others branch tokens at insn made found true rest read test is =
    more_read others branch tokens at insn made found read test (rest (found.next + 1) (with_operand found.operand insn) made is)
by_place others branch tokens at insn made found false rest read test is =
    last_read others branch tokens at insn made found read test (ok_is (with_operand found.operand insn) made is)

by_operand : OperandsAreSpelled → (others : ℕ) (branch : Bool) (tokens : List SpelledToken) (at : ℕ) (insn made : InsnText) (read : Result ReadPart OperandCause) → Rest others branch tokens
    → operand_at branch tokens at ≡ read → operand_then tokens (operands_at others branch tokens) insn read ≡ Ok made → OperandsRead (suc others) branch tokens at insn made
by_operand law others branch tokens at insn made (Err cause) rest reads is = cc
by_operand law others branch tokens at insn made (Ok found) rest reads is =
    by_place others branch tokens at insn made found (nat_lt found.next (length tokens)) rest (law branch tokens at found reads) refl is

operands_spelled : OperandsAreSpelled → (most : ℕ) (branch : Bool) (tokens : List SpelledToken) → Rest most branch tokens
operands_spelled law zero branch tokens at insn made given = cc
operands_spelled law (suc others) branch tokens at insn made given =
    by_operand law others branch tokens at insn made (operand_at branch tokens at) (operands_spelled law others branch tokens) refl given

-- all operands that were read, with their text
pub record AllRead (branch : Bool) (tokens : List SpelledToken) (at : ℕ) (insn made : InsnText) : Type 0 where
  pub operands : List OperandText
  pub writes : WritesAll branch operands (drop at tokens)
  pub is : made ≡ with_operands operands insn

all_by : OperandsAreSpelled → (branch : Bool) (tokens : List SpelledToken) (at : ℕ) (insn made : InsnText) (b : Bool) → nat_lt at (length tokens) ≡ b
    → cond b (operands_at 3 branch tokens at insn) (Ok insn) ≡ Ok made → AllRead branch tokens at insn made
all_by law branch tokens at insn made true test is =
    let read = operands_spelled law 3 branch tokens at insn made is in
    record {
      operands = read.operands;
      writes = subst (λ (ts : List SpelledToken). WritesAll branch read.operands ts) (sym read.stands) (some branch read.operands read.text read.writes);
      is = read.is;
    }
all_by law branch tokens at insn made false test is =
    let past = ltb-false at (length tokens) test in
    let count : length (drop at tokens) ≡ length tokens - at = length-drop at tokens in
    let empty : drop at tokens ≡ [] = nothing_left (drop at tokens) (omega arith) in
    record {
      operands = [];
      writes = subst (λ (ts : List SpelledToken). WritesAll branch [] ts) (sym empty) (none branch);
      is = sym (ok_is insn made is);
    }

pub all_spelled : OperandsAreSpelled → (branch : Bool) (tokens : List SpelledToken) (at : ℕ) (insn made : InsnText) → with_all branch tokens at insn ≡ Ok made → AllRead branch tokens at insn made
unfolding with_all
all_spelled law branch tokens at insn made given = all_by law branch tokens at insn made (nat_lt at (length tokens)) refl given

-- a head that was read stands in front
pub record HeadStands (tokens : List SpelledToken) (found : Head) : Type 0 where
  pub stands : IsHead found.named found.«prefix» (drop found.next tokens) tokens

second_by : (word : Prefix) (lead name : SpelledToken) (text : List SpelledToken) (found : Head) (named : Option Named) → prefix_of lead.bytes ≡ Some word
    → att_mnemonic name.bytes ≡ named → headed word 2 named ≡ Some found → HeadStands (lead ∷ name ∷ text) found
second_by word lead name text found None leads names is = cc
second_by word lead name text found (Some named) leads names is =
    subst (HeadStands (lead ∷ name ∷ text)) (some_is is) (record { stands = prefixed named word lead name text leads names })

behind_prefix_by : (lead : SpelledToken) (text : List SpelledToken) (found : Head) (word : Option Prefix) → prefix_of lead.bytes ≡ word
    → behind_prefix (lead ∷ text) word ≡ Some found → HeadStands (lead ∷ text) found
behind_prefix_by lead text found None leads is = cc
behind_prefix_by lead [] found (Some word) leads is = cc
behind_prefix_by lead (name ∷ text) found (Some word) leads is = second_by word lead name text found (att_mnemonic name.bytes) leads refl is

first_by : (name : SpelledToken) (text : List SpelledToken) (found : Head) (named : Option Named) → att_mnemonic name.bytes ≡ named
    → head_by (name ∷ text) named ≡ Some found → HeadStands (name ∷ text) found
first_by name text found None names is = behind_prefix_by name text found (prefix_of name.bytes) refl is
first_by name text found (Some named) names is = subst (HeadStands (name ∷ text)) (some_is is) (record { stands = bare named name text names })

pub head_stands : (tokens : List SpelledToken) (found : Head) → head_of tokens ≡ Some found → HeadStands tokens found
unfolding head_of
head_stands [] found is = cc
head_stands (name ∷ text) found is = first_by name text found (att_mnemonic name.bytes) refl is

-- what stands behind the head spells the rest
meant_so : (named : Named) (word : Prefix) (operands : List OperandText) (made : InsnText) (text tokens : List SpelledToken) (read : Result InsnText OperandCause) → IsHead named word text tokens
    → WritesAll (is_branch named.rule) operands text → meant_by named.rule (filled_by named word operands) ≡ read → (read >>= sized) ≡ Ok made → Spells made tokens
meant_so named word operands made text tokens (Err cause) heads writes means is = cc
meant_so named word operands made text tokens (Ok insn) heads writes means is =
    let size = size_has insn made is in
    subst (λ (i : InsnText). Spells i tokens) (sym size.is) (behind named word operands insn size.size text tokens heads writes means size.has)

filled_so : OperandsAreSpelled → (tokens : List SpelledToken) (found : Head) (made : InsnText) (read : Result InsnText OperandCause) → HeadStands tokens found
    → with_all (is_branch found.named.rule) tokens found.next (blank found.named.name found.named.size found.«prefix») ≡ read
    → (read >>= finished found.named.rule) ≡ Ok made → Spells made tokens
filled_so law tokens found made (Err cause) heads reads is = cc
filled_so law tokens found made (Ok insn) heads reads is =
    let all = all_spelled law (is_branch found.named.rule) tokens found.next (blank found.named.name found.named.size found.«prefix») insn reads in
    let own : finished found.named.rule (filled_by found.named found.«prefix» all.operands) ≡ Ok made = ap (finished found.named.rule) (sym all.is) ∙ is in
    meant_so found.named found.«prefix» all.operands made (drop found.next tokens) tokens (meant_by found.named.rule (filled_by found.named found.«prefix» all.operands)) heads.stands all.writes refl own

headed_by : OperandsAreSpelled → (tokens : List SpelledToken) (made : InsnText) (found : Option Head) → head_of tokens ≡ found → insn_by tokens found ≡ Ok made → Spells made tokens
headed_by law tokens made None heads is = cc
headed_by law tokens made (Some found) heads is =
    filled_so law tokens found made (with_all (is_branch found.named.rule) tokens found.next (blank found.named.name found.named.size found.«prefix»)) (head_stands tokens found heads) refl is

-- an instruction that is read is spelled
pub insn_spelled : OperandsAreSpelled → (insn : InsnText) (tokens : List SpelledToken) → insn_of tokens ≡ Ok insn → Spells insn tokens
unfolding insn_of
insn_spelled law insn tokens given = headed_by law tokens insn (head_of tokens) refl given
