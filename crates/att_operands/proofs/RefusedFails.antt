-- An operand is refused exactly where its expression fails, or where nothing is spelled.
use Rattle.std.proofs.Common.{◌≡◌, ℕ, ◌+◌, ◌-◌, ◌==◌, Bool, true, false, cond, List, ◌∷◌, Option, Some, None, Result, Ok, Err, length, drop, slice_get, refl, sym, ap, subst, ◌∙◌, inl, inr, ◌⊎◌, arith}
use Rattle.asm_base.specs.Tokens.{SpelledToken}
use Rattle.asm_base.specs.Refusals.{◌>>=◌}
use Rattle.asm_expr.specs.declared.faults.ExprCause.{ExprCause}
use Rattle.expr_texts.specs.Reading.{Read, reading, reading_of}
use Rattle.expr_texts.specs.Failing.{FailsAt, HasFaultExactly}
use Rattle.x86_insn.specs.declared.amounts.Suffix.{Suffix}
use Rattle.x86_insn.specs.declared.insns.Segment.{Segment}
use Rattle.att_operands.specs.declared.faults.OperandCause.{OperandCause}
use Rattle.att_operands.specs.declared.faults.OperandCause.TheVariants.{BadOperand}
use Rattle.att_operands.specs.declared.registers.NamedRegister.{NamedRegister}
use Rattle.att_operands.specs.declared.registers.NamedRegister.TheVariants as named
use Rattle.att_operands.specs.declared.addresses.ReadAddress.{ReadAddress}
use Rattle.att_operands.specs.Registers.{register_of}
use Rattle.att_operands.specs.Marks.{mark_at, ends_at, begins_by}
use Rattle.att_operands.specs.Addresses.{register_by, address_at}
use Rattle.att_operands.specs.Values.{ReadText, ValueText, stated, suffixed_name, suffix_at, without_suffix, as_value, value_with, value_at, begun_at}
use Rattle.att_operands.specs.OperandTexts.{ReadPart, no_displacement, addressed, displaced, displaced_by, displaced_alone, opens_address, memory_at, named_place, place_at, immediate_by, target_by, target_at, other_by, operand_by, ended, operand_at}
use Rattle.att_operands.specs.Failing.{expression_by, ValueFails, BegunFails, PlaceFails, unnamed, segmented, ExpressionFails, immediate_of, place, target_of, indirect}
use Rattle.att_operands.proofs.SpelledIsRead.{stands_at}
use Rattle.att_operands.proofs.SuffixPlaces.{same_suffix, same_expression}
use Rattle.att_operands.proofs.ReadAddresses.{front_is, Marked, marked, three_stand}

-- what is read at a place is read at the front of what is left there
pub here_is : (tokens : List SpelledToken) (at : ℕ) → slice_get tokens at ≡ slice_get (drop at tokens) 0
here_is tokens at = stands_at 0 tokens (drop at tokens) at at refl (omega arith)

pub same_opens : (tokens : List SpelledToken) (at : ℕ) → opens_address tokens at ≡ opens_address (drop at tokens) 0
same_opens tokens at =
    let g0 = here_is tokens at in
    let g1 : slice_get tokens (at + 1) ≡ slice_get (drop at tokens) 1 = stands_at 1 tokens (drop at tokens) at (at + 1) refl refl in
    rw (g0, g1) refl

-- the fault is that of an expression which fails
pub record Failed (Fails : ExprCause → Type 0) (cause : OperandCause) : Type 0 where
  pub own : ExprCause
  pub fails : Fails own
  pub is : cause ≡ stated own

pub err_is : {A : Type 0} {m n : OperandCause} → (let given : Result A OperandCause = Err m in given ≡ Err n) → m ≡ n
err_is h = cc

-- the fault is a bad operand, or that of an expression which fails
abbrev pub Refused : (ExprCause → Type 0) → OperandCause → Type 0
Refused Fails fault = (fault ≡ BadOperand) ⊎ Failed Fails fault

bad : {A : Type 0} (Fails : ExprCause → Type 0) (fault : OperandCause) → (let given : Result A OperandCause = Err BadOperand in given ≡ Err fault) → Refused Fails fault
bad Fails fault is = inl (sym (err_is is))

moved : (One Other : ExprCause → Type 0) (fault : OperandCause) → ((own : ExprCause) → One own → Other own) → Refused One fault → Refused Other fault
moved One Other fault moves (inl is) = inl is
moved One Other fault moves (inr failed) = inr (record { own = failed.own; fails = moves failed.own failed.fails; is = failed.is })

-- the reading has a fault exactly where an expression fails
abbrev pub FaultsAreKnown : Type 0
FaultsAreKnown = (tokens : List SpelledToken) (cause : ExprCause) → HasFaultExactly tokens cause

module _ (has_fault : FaultsAreKnown) where
  read_fails : (tokens text : List SpelledToken) (at more : ℕ) (suffix : Option Suffix) (fault : OperandCause) (read : Read) → drop at tokens ≡ text → reading 1 0 text ≡ read
      → as_value suffix more (read >>= (λ found. Ok (record { tree = found.tree; next = length tokens - length found.rest }))) ≡ Err fault → Failed (FailsAt text) fault
  read_fails tokens text at more suffix fault (Ok found) stands reads is = cc
  read_fails tokens text at more suffix fault (Err own) stands reads is = record { own = own; fails = (has_fault text own).fails reads; is = sym (err_is is) }

  placed_refused : (tokens text : List SpelledToken) (at more : ℕ) (suffix : Option Suffix) (fault : OperandCause) → drop at tokens ≡ text
      → as_value suffix more (reading_of tokens at) ≡ Err fault → Failed (FailsAt text) fault
  unfolding reading_of
  placed_refused tokens text at more suffix fault stands is =
      read_fails tokens text at more suffix fault (reading 1 0 text) stands refl
      (subst (λ (ts : List SpelledToken). as_value suffix more (reading 1 0 ts >>= (λ found. Ok (record { tree = found.tree; next = length tokens - length found.rest }))) ≡ Err fault) stands is)

  with_refused : (tokens : List SpelledToken) (at : ℕ) (fault : OperandCause) (suffix : Option Suffix) → value_with tokens at suffix ≡ Err fault
      → Failed (FailsAt (expression_by (drop at tokens) suffix)) fault
  with_refused tokens at fault None is = placed_refused tokens (drop at tokens) at 0 None fault refl is
  with_refused tokens at fault (Some suffix) is =
      placed_refused (without_suffix tokens (suffixed_name tokens at)) (expression_by (drop at tokens) (Some suffix)) at 2 (Some suffix) fault (same_expression tokens at) is

  pub value_refused : (tokens : List SpelledToken) (at : ℕ) (fault : OperandCause) → value_at tokens at ≡ Err fault → Failed (ValueFails (drop at tokens)) fault
  unfolding value_at
  value_refused tokens at fault is =
      subst (λ (s : Option Suffix). Failed (FailsAt (expression_by (drop at tokens) s)) fault) (sym (same_suffix tokens at)) (with_refused tokens at fault (suffix_at tokens at) is)

  begun_by : (tokens : List SpelledToken) (at : ℕ) (fault : OperandCause) (b : Bool) → begins_by (slice_get tokens at) ≡ b → opens_address tokens at ≡ false
      → cond b (value_at tokens at) (Err BadOperand) ≡ Err fault → Refused (BegunFails (drop at tokens)) fault
  begun_by tokens at fault false begins unopened is = bad (BegunFails (drop at tokens)) fault is
  begun_by tokens at fault true begins unopened is =
      let value = value_refused tokens at fault is in
      inr (record {
        own = value.own;
        fails = record { begins = sym (ap begins_by (here_is tokens at)) ∙ begins; unopened = sym (same_opens tokens at) ∙ unopened; fails = value.fails };
        is = value.is;
      })

  begun_refused : (tokens : List SpelledToken) (at : ℕ) (fault : OperandCause) → opens_address tokens at ≡ false → begun_at tokens at ≡ Err fault → Refused (BegunFails (drop at tokens)) fault
  unfolding begun_at
  begun_refused tokens at fault unopened is = begun_by tokens at fault (begins_by (slice_get tokens at)) refl unopened is

  -- an address fails as a bad operand
  addressed_bad : (Fails : ExprCause → Type 0) (fault : OperandCause) (segment : Option Segment) (text : ValueText) (read : Option ReadAddress) → addressed segment text read ≡ Err fault → Refused Fails fault
  addressed_bad Fails fault segment text None is = bad Fails fault is
  addressed_bad Fails fault segment text (Some found) is = cc

  displaced_bad : (Fails : ExprCause → Type 0) (tokens : List SpelledToken) (fault : OperandCause) (segment : Option Segment) (value : ReadText) (b : Bool)
      → cond b (addressed segment value.text (address_at tokens (value.next + 1))) (Ok (displaced_alone segment value)) ≡ Err fault → Refused Fails fault
  displaced_bad Fails tokens fault segment value true is = addressed_bad Fails fault segment value.text (address_at tokens (value.next + 1)) is
  displaced_bad Fails tokens fault segment value false is = cc

  displaced_refused : (tokens : List SpelledToken) (at : ℕ) (fault : OperandCause) (segment : Option Segment) (value : Result ReadText OperandCause) → opens_address tokens at ≡ false
      → begun_at tokens at ≡ value → displaced_by tokens segment value ≡ Err fault → Refused (BegunFails (drop at tokens)) fault
  unfolding displaced
  displaced_refused tokens at fault segment (Ok value) unopened reads is = displaced_bad (BegunFails (drop at tokens)) tokens fault segment value (mark_at tokens value.next == 40) is
  displaced_refused tokens at fault segment (Err own) unopened reads is = let same : own ≡ fault = err_is is in begun_refused tokens at fault unopened (rw same at reads)

  memory_by : (tokens : List SpelledToken) (at : ℕ) (fault : OperandCause) (segment : Option Segment) (b : Bool) → opens_address tokens at ≡ b
      → cond b (addressed segment no_displacement (address_at tokens (at + 1))) (displaced_by tokens segment (begun_at tokens at)) ≡ Err fault → Refused (BegunFails (drop at tokens)) fault
  memory_by tokens at fault segment true opens is = addressed_bad (BegunFails (drop at tokens)) fault segment no_displacement (address_at tokens (at + 1)) is
  memory_by tokens at fault segment false opens is = displaced_refused tokens at fault segment (begun_at tokens at) opens refl is

  memory_refused : (tokens : List SpelledToken) (at : ℕ) (fault : OperandCause) (segment : Option Segment) → memory_at tokens segment at ≡ Err fault → Refused (BegunFails (drop at tokens)) fault
  unfolding memory_at
  memory_refused tokens at fault segment is = memory_by tokens at fault segment (opens_address tokens at) refl is

  segment_refused : (tokens : List SpelledToken) (at : ℕ) (fault : OperandCause) (sign : Marked tokens at 37) (word : SpelledToken) (segment : Segment) (b : Bool) → slice_get tokens (at + 1) ≡ Some word
      → register_of word.bytes ≡ Some (named.Segment segment) → (mark_at tokens (at + 2) == 58) ≡ b → cond b (memory_at tokens (Some segment) ((at + 2) + 1)) (Err BadOperand) ≡ Err fault
      → Refused (PlaceFails (drop at tokens)) fault
  segment_refused tokens at fault sign word segment false there names test is = bad (PlaceFails (drop at tokens)) fault is
  segment_refused tokens at fault sign word segment true there names test is =
      let colon = marked tokens (at + 2) 58 test refl in
      let three : (at + 2) + 1 ≡ at + 3 = omega arith in
      let front = three_stand tokens at sign.token word colon.token sign.there there colon.there ∙ ap (λ (n : ℕ). sign.token ∷ word ∷ colon.token ∷ drop n tokens) (sym three) in
      moved (BegunFails (drop ((at + 2) + 1) tokens)) (PlaceFails (drop at tokens)) fault
      (λ own fails. subst (λ (ts : List SpelledToken). PlaceFails ts own) (sym front) (segmented segment sign.token word colon.token (drop ((at + 2) + 1) tokens) own sign.is names colon.is fails))
      (memory_refused tokens ((at + 2) + 1) fault (Some segment) is)

  named_refused : (tokens : List SpelledToken) (at : ℕ) (fault : OperandCause) (word : Option SpelledToken) (reg : Option NamedRegister) → Marked tokens at 37 → slice_get tokens (at + 1) ≡ word
      → register_by word ≡ reg → named_place tokens reg (at + 2) ≡ Err fault → Refused (PlaceFails (drop at tokens)) fault
  named_refused tokens at fault word None sign there names is = bad (PlaceFails (drop at tokens)) fault is
  named_refused tokens at fault None (Some reg) sign there names is = cc
  named_refused tokens at fault (Some word) (Some named.Rip) sign there names is = bad (PlaceFails (drop at tokens)) fault is
  named_refused tokens at fault (Some word) (Some (named.Plain reg)) sign there names is = cc
  named_refused tokens at fault (Some word) (Some (named.Segment segment)) sign there names is = segment_refused tokens at fault sign word segment (mark_at tokens (at + 2) == 58) there names refl is

  place_by : (tokens : List SpelledToken) (at : ℕ) (fault : OperandCause) (b : Bool) → (mark_at tokens at == 37) ≡ b
      → cond b (named_place tokens (register_by (slice_get tokens (at + 1))) (at + 2)) (memory_at tokens None at) ≡ Err fault → Refused (PlaceFails (drop at tokens)) fault
  place_by tokens at fault true test is = named_refused tokens at fault (slice_get tokens (at + 1)) (register_by (slice_get tokens (at + 1))) (marked tokens at 37 test refl) refl refl is
  place_by tokens at fault false test is =
      moved (BegunFails (drop at tokens)) (PlaceFails (drop at tokens)) fault (λ own fails. unnamed (drop at tokens) own fails) (memory_refused tokens at fault None is)

  place_refused : (tokens : List SpelledToken) (at : ℕ) (fault : OperandCause) → place_at tokens at ≡ Err fault → Refused (PlaceFails (drop at tokens)) fault
  unfolding place_at
  place_refused tokens at fault is = place_by tokens at fault (mark_at tokens at == 37) refl is

  immediate_refused : (branch : Bool) (tokens : List SpelledToken) (at : ℕ) (fault : OperandCause) (value : Result ReadText OperandCause) → Marked tokens at 36 → value_at tokens (at + 1) ≡ value
      → immediate_by value ≡ Err fault → Refused (ExpressionFails branch (drop at tokens)) fault
  immediate_refused branch tokens at fault (Ok value) sign reads is = cc
  immediate_refused branch tokens at fault (Err own) sign reads is =
      let same : own ≡ fault = err_is is in
      let value = value_refused tokens (at + 1) fault (rw same at reads) in
      inr (record {
        own = value.own;
        fails = subst (λ (ts : List SpelledToken). ExpressionFails branch ts value.own) (sym (front_is tokens at sign.token sign.there))
            (immediate_of branch sign.token (drop (at + 1) tokens) value.own sign.is value.fails);
        is = value.is;
      })

  target_of_value : (tokens : List SpelledToken) (at : ℕ) (fault : OperandCause) (value : Result ReadText OperandCause) → opens_address tokens at ≡ false → begun_at tokens at ≡ value
      → target_by value ≡ Err fault → Refused (ExpressionFails true (drop at tokens)) fault
  target_of_value tokens at fault (Ok value) unopened reads is = cc
  target_of_value tokens at fault (Err own) unopened reads is =
      let same : own ≡ fault = err_is is in
      moved (BegunFails (drop at tokens)) (ExpressionFails true (drop at tokens)) fault (λ own fails. target_of (drop at tokens) own fails) (begun_refused tokens at fault unopened (rw same at reads))

  target_refused : (tokens : List SpelledToken) (at : ℕ) (fault : OperandCause) (b : Bool) → opens_address tokens at ≡ b → cond b (Err BadOperand) (target_by (begun_at tokens at)) ≡ Err fault
      → Refused (ExpressionFails true (drop at tokens)) fault
  target_refused tokens at fault true opens is = bad (ExpressionFails true (drop at tokens)) fault is
  target_refused tokens at fault false opens is = target_of_value tokens at fault (begun_at tokens at) opens refl is

  of_branch : (tokens : List SpelledToken) (at : ℕ) (fault : OperandCause) (b : Bool) → (mark_at tokens at == 42) ≡ b → cond b (place_at tokens (at + 1)) (target_at tokens at) ≡ Err fault
      → Refused (ExpressionFails true (drop at tokens)) fault
  of_branch tokens at fault false test is = target_refused tokens at fault (opens_address tokens at) refl is
  of_branch tokens at fault true test is =
      let star = marked tokens at 42 test refl in
      moved (PlaceFails (drop (at + 1) tokens)) (ExpressionFails true (drop at tokens)) fault
      (λ own fails. subst (λ (ts : List SpelledToken). ExpressionFails true ts own) (sym (front_is tokens at star.token star.there)) (indirect star.token (drop (at + 1) tokens) own star.is fails))
      (place_refused tokens (at + 1) fault is)

  other_refused : (tokens : List SpelledToken) (at : ℕ) (branch : Bool) (fault : OperandCause) → other_by branch tokens at ≡ Err fault → Refused (ExpressionFails branch (drop at tokens)) fault
  other_refused tokens at true fault is = of_branch tokens at fault (mark_at tokens at == 42) refl is
  other_refused tokens at false fault is =
      moved (PlaceFails (drop at tokens)) (ExpressionFails false (drop at tokens)) fault (λ own fails. place (drop at tokens) own fails) (place_refused tokens at fault is)

  signed_refused : (tokens : List SpelledToken) (at : ℕ) (branch : Bool) (fault : OperandCause) (b : Bool) → (mark_at tokens at == 36) ≡ b
      → cond b (immediate_by (value_at tokens (at + 1))) (other_by branch tokens at) ≡ Err fault → Refused (ExpressionFails branch (drop at tokens)) fault
  signed_refused tokens at branch fault true test is = immediate_refused branch tokens at fault (value_at tokens (at + 1)) (marked tokens at 36 test refl) refl is
  signed_refused tokens at branch fault false test is = other_refused tokens at branch fault is

  ended_bad : (Fails : ExprCause → Type 0) (fault : OperandCause) (found : ReadPart) (b : Bool) → cond b (Ok found) (Err BadOperand) ≡ Err fault → Refused Fails fault
  ended_bad Fails fault found true is = cc
  ended_bad Fails fault found false is = bad Fails fault is

  ended_refused : (tokens : List SpelledToken) (at : ℕ) (branch : Bool) (fault : OperandCause) (read : Result ReadPart OperandCause) → operand_by branch tokens at ≡ read → ended tokens read ≡ Err fault
      → Refused (ExpressionFails branch (drop at tokens)) fault
  ended_refused tokens at branch fault (Ok found) reads is = ended_bad (ExpressionFails branch (drop at tokens)) fault found (ends_at tokens found.next) is
  ended_refused tokens at branch fault (Err own) reads is = let same : own ≡ fault = err_is is in signed_refused tokens at branch fault (mark_at tokens at == 36) refl (rw same at reads)

  -- an operand that is refused is a bad operand, or has an expression that fails
  pub operand_refused : (tokens : List SpelledToken) (at : ℕ) (branch : Bool) (fault : OperandCause) → operand_at branch tokens at ≡ Err fault → Refused (ExpressionFails branch (drop at tokens)) fault
  unfolding operand_at
  operand_refused tokens at branch fault is = ended_refused tokens at branch fault (operand_by branch tokens at) refl is
