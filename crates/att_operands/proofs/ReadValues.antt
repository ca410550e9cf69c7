-- A value that is read is written.
use Rattle.std.proofs.Common.{◌≡◌, ℕ, suc, ◌+◌, ◌<◌, ◌==◌, Bool, true, false, cond, List, [], ◌∷◌, ◌++◌, Option, Some, None, Result, Ok, Err, length, drop, slice_get, refl, sym, ap, subst, ◌∙◌, arith, length-drop, length-append, append_assoc}
use Rattle.std.proofs.Math.Seq.{drop-append_seam}
use Rattle.asm_base.specs.Tokens.{SpelledToken}
use Rattle.asm_expr.specs.declared.faults.ExprCause.{ExprCause}
use Rattle.asm_expr.specs.Trees.{Tree}
use Rattle.expr_texts.specs.Reading.{ReadTree, reading_of}
use Rattle.expr_texts.specs.Grammar.{IsTextOf}
use Rattle.x86_insn.specs.declared.amounts.Suffix.{Suffix}
use Rattle.att_operands.specs.declared.faults.OperandCause.{OperandCause}
use Rattle.att_operands.specs.declared.faults.OperandCause.TheVariants.{BadOperand}
use Rattle.att_operands.specs.Marks.{mark_at, begins_by}
use Rattle.att_operands.specs.Values.{ReadText, names_by, before_name, suffix_by, suffix_at, without_suffix, as_value, value_with, value_at, begun_at}
use Rattle.att_operands.specs.Spells.{WritesValue, plain, suffixed}
use Rattle.att_operands.proofs.FrontReadings.{ReadsAreTexts}
use Rattle.att_operands.proofs.SuffixLemmas.{joined_front}
use Rattle.att_operands.proofs.SuffixPlaces.{FrontRead, front_read}
use Rattle.att_operands.proofs.TextEnds.{parted, text_ends}
use Rattle.att_operands.proofs.SpelledOperands.{left_behind}
use Rattle.att_operands.proofs.ReadAddresses.{Marked, marked, three_stand}

-- a value that was read, with its text
pub record ValueRead (tokens : List SpelledToken) (at : ℕ) (found : ReadText) : Type 0 where
  pub text : List SpelledToken
  pub writes : WritesValue found.text text
  pub stands : drop at tokens ≡ text ++ drop (at + length text) tokens
  pub next : found.next ≡ at + length text

read_as : Option Suffix → Tree → ℕ → ReadText
read_as suffix tree next = record { text = record { tree = tree; suffix = suffix }; next = next }

pub ok_is : {A : Type 0} {m n : A} → (let given : Result A OperandCause = Ok m in given ≡ Ok n) → m ≡ n
ok_is h = cc

-- a text among these tokens begins with the first of them
pub record Begun (name : SpelledToken) (rest text behind : List SpelledToken) : Type 0 where
  pub more : List SpelledToken
  pub is : text ≡ name ∷ more
  pub left : rest ≡ more ++ behind

begun : (name : SpelledToken) (rest text behind : List SpelledToken) → 0 < length text → name ∷ rest ≡ text ++ behind → Begun name rest text behind
begun name rest [] behind some is = absurd (omega arith)
begun name rest (first ∷ more) behind some is =
    let same : name ≡ first = cc in
    let others : rest ≡ more ++ behind = cc in
    record { more = more; is = ap (λ (t : SpelledToken). t ∷ more) (sym same); left = others }

module _ (read_is_text : ReadsAreTexts) where
  -- without a suffix
  plain_read : (tokens : List SpelledToken) (at : ℕ) (found : ReadText) (read : Result ReadTree ExprCause) → reading_of tokens at ≡ read → as_value None 0 read ≡ Ok found → ValueRead tokens at found
  unfolding read_as
  plain_read tokens at found (Err fault) reads is = cc
  plain_read tokens at found (Ok tree) reads is =
      let in_tokens = read_is_text tokens at tree reads in
      let left : drop (at + length in_tokens.text) tokens ≡ in_tokens.behind = left_behind (length in_tokens.text) tokens (in_tokens.text ++ in_tokens.behind) at (at + length in_tokens.text) in_tokens.stands refl ∙ drop-append_seam in_tokens.text in_tokens.behind in
      let same : read_as None tree.tree (tree.next + 0) ≡ found = ok_is is in
      subst (ValueRead tokens at) same (record {
        text = in_tokens.text;
        writes = plain tree.tree in_tokens.text in_tokens.is_text;
        stands = in_tokens.stands ∙ ap (λ (ts : List SpelledToken). in_tokens.text ++ ts) (sym left);
        next = (let n = in_tokens.next in omega arith);
      })

  -- with a suffix
  suffixed_read : (tokens : List SpelledToken) (at n : ℕ) (found : ReadText) (suffix : Suffix) (name word : SpelledToken) (mark : Marked tokens ((at + n) + 1) 64) (read : Result ReadTree ExprCause)
      → FrontRead tokens at n → slice_get tokens (at + n) ≡ Some name → names_by (Some name) ≡ true → slice_get tokens ((at + n) + 2) ≡ Some word → suffix_by (Some word) ≡ Some suffix
      → reading_of (without_suffix tokens (at + n)) at ≡ read → as_value (Some suffix) 2 read ≡ Ok found → ValueRead tokens at found
  unfolding read_as
  suffixed_read tokens at n found suffix name word mark (Err fault) led here named there words reads is = cc
  suffixed_read tokens at n found suffix name word mark (Ok tree) led here named there words reads is =
      let rest = drop ((at + n) + 3) tokens in
      let behind_front = three_stand tokens (at + n) name mark.token word here mark.there there in
      let front : drop at tokens ≡ led.front ++ (name ∷ mark.token ∷ word ∷ rest) = led.stands ∙ ap (λ (ts : List SpelledToken). led.front ++ ts) behind_front in
      let many : (at + n) + 2 < length tokens = omega (arith, length-drop (at + n) tokens, ap length behind_front, length-drop ((at + n) + 3) tokens) in
      let all : drop at (without_suffix tokens (at + n)) ≡ led.front ++ (name ∷ rest) = joined_front tokens at n led.front name mark.token word rest led.is front many in
      let in_tokens = read_is_text (without_suffix tokens (at + n)) at tree reads in
      let split = parted led.front (name ∷ rest) in_tokens.text in_tokens.behind led.writes (text_ends 64 tree.tree 1 in_tokens.text in_tokens.is_text.writes) in_tokens.ends (sym in_tokens.stands ∙ all) in
      let parts = begun name rest split.more in_tokens.behind split.some split.left in
      let text_is : in_tokens.text ≡ led.front ++ (name ∷ parts.more) = split.is ∙ ap (λ (ts : List SpelledToken). led.front ++ ts) parts.is in
      let left : drop (((at + n) + 3) + length parts.more) tokens ≡ in_tokens.behind =
      left_behind (length parts.more) tokens (parts.more ++ in_tokens.behind) ((at + n) + 3) (((at + n) + 3) + length parts.more) parts.left refl ∙ drop-append_seam parts.more in_tokens.behind in
      let same : read_as (Some suffix) tree.tree (tree.next + 2) ≡ found = ok_is is in
      let written = led.front ++ (name ∷ mark.token ∷ word ∷ parts.more) in
      let counts = length-append led.front (name ∷ mark.token ∷ word ∷ parts.more) in
      let lead = led.is in
      let end : ((at + n) + 3) + length parts.more ≡ at + length written = omega arith in
      let count : length in_tokens.text ≡ length led.front + suc (length parts.more) = ap length text_is ∙ length-append led.front (name ∷ parts.more) in
      subst (ValueRead tokens at) same (record {
        text = written;
        writes = suffixed tree.tree suffix name mark.token word led.front parts.more written led.writes named mark.is words (subst (IsTextOf tree.tree) text_is in_tokens.is_text) refl;
        stands = front
            ∙ ap (λ (ts : List SpelledToken). led.front ++ (name ∷ mark.token ∷ word ∷ ts)) (parts.left ∙ ap (λ (ts : List SpelledToken). parts.more ++ ts) (sym left ∙ ap (λ (m : ℕ). drop m tokens) end))
            ∙ sym (append_assoc led.front (name ∷ mark.token ∷ word ∷ parts.more) (drop (at + length written) tokens));
        next = (let n = in_tokens.next in omega arith);
      })

  suffix_word : (tokens : List SpelledToken) (at n : ℕ) (found : ReadText) (suffix : Suffix) (name : SpelledToken) (word : Option SpelledToken) → Marked tokens ((at + n) + 1) 64 → FrontRead tokens at n
      → slice_get tokens (at + n) ≡ Some name → names_by (Some name) ≡ true → slice_get tokens ((at + n) + 2) ≡ word → suffix_by word ≡ Some suffix
      → as_value (Some suffix) 2 (reading_of (without_suffix tokens (at + n)) at) ≡ Ok found → ValueRead tokens at found
  unfolding suffix_by
  suffix_word tokens at n found suffix name None mark led here named there words is = cc
  suffix_word tokens at n found suffix name (Some word) mark led here named there words is =
      suffixed_read tokens at n found suffix name word mark (reading_of (without_suffix tokens (at + n)) at) led here named there words refl is

  suffix_name : (tokens : List SpelledToken) (at n : ℕ) (found : ReadText) (suffix : Suffix) (name : Option SpelledToken) (b : Bool) → Marked tokens ((at + n) + 1) 64 → FrontRead tokens at n
      → slice_get tokens (at + n) ≡ name → names_by name ≡ b → cond b (suffix_by (slice_get tokens ((at + n) + 2))) None ≡ Some suffix
      → as_value (Some suffix) 2 (reading_of (without_suffix tokens (at + n)) at) ≡ Ok found → ValueRead tokens at found
  unfolding names_by
  suffix_name tokens at n found suffix name false mark led here named words is = cc
  suffix_name tokens at n found suffix None true mark led here named words is = cc
  suffix_name tokens at n found suffix (Some name) true mark led here named words is =
      suffix_word tokens at n found suffix name (slice_get tokens ((at + n) + 2)) mark led here named refl words is

  suffix_mark : (tokens : List SpelledToken) (at n : ℕ) (found : ReadText) (suffix : Suffix) (b : Bool) → FrontRead tokens at n → (mark_at tokens ((at + n) + 1) == 64) ≡ b
      → cond b (cond (names_by (slice_get tokens (at + n))) (suffix_by (slice_get tokens ((at + n) + 2))) None) None ≡ Some suffix
      → as_value (Some suffix) 2 (reading_of (without_suffix tokens (at + n)) at) ≡ Ok found → ValueRead tokens at found
  suffix_mark tokens at n found suffix false led test words is = cc
  suffix_mark tokens at n found suffix true led test words is =
      suffix_name tokens at n found suffix (slice_get tokens (at + n)) (names_by (slice_get tokens (at + n))) (marked tokens ((at + n) + 1) 64 test refl) led refl refl words is

  value_by : (tokens : List SpelledToken) (at : ℕ) (found : ReadText) (suffix : Option Suffix) → suffix_at tokens at ≡ suffix → value_with tokens at suffix ≡ Ok found → ValueRead tokens at found
  value_by tokens at found None there is = plain_read tokens at found (reading_of tokens at) refl is
  value_by tokens at found (Some suffix) there is =
      suffix_mark tokens at (before_name tokens at) found suffix (mark_at tokens ((at + before_name tokens at) + 1) == 64) (front_read tokens at) refl there is

  -- a value that is read is written
  pub value_written : (tokens : List SpelledToken) (at : ℕ) (found : ReadText) → value_at tokens at ≡ Ok found → ValueRead tokens at found
  unfolding value_at
  value_written tokens at found is = value_by tokens at found (suffix_at tokens at) refl is

  begun_by : (tokens : List SpelledToken) (at : ℕ) (found : ReadText) (b : Bool) → cond b (value_at tokens at) (Err BadOperand) ≡ Ok found → ValueRead tokens at found
  begun_by tokens at found false is = cc
  begun_by tokens at found true is = value_written tokens at found is

  -- and so is one that is read where a mark of another operand may stand
  pub begun_written : (tokens : List SpelledToken) (at : ℕ) (found : ReadText) → begun_at tokens at ≡ Ok found → ValueRead tokens at found
  unfolding begun_at
  begun_written tokens at found is = begun_by tokens at found (begins_by (slice_get tokens at)) is
