-- Tokens without the two of a suffix.
use Rattle.std.proofs.Common.{◌≡◌, ℕ, suc, ◌+◌, ◌-◌, ◌≤◌, ◌<◌, false, List, [], ◌∷◌, ◌++◌, Result, Ok, Err, length, map, drop, take, refl, sym, ap, subst, ◌∙◌, arith, length-drop, length-append}
use Rattle.std.proofs.lemmas.List.{map-append, drop-map, length-map, drop-append-le, drop-take, length-take-le}
use Rattle.std.specs.List.{take-map}
use Rattle.asm_base.specs.declared.refusals.Refusal.{Refusal}
use Rattle.asm_base.specs.declared.refusals.Refusal.TheVariants.{Fault, NoMemory}
use Rattle.asm_base.specs.Refusals.{◌>>=◌, Fails}
use Rattle.asm_base.specs.declared.tokens.Token.{Token}
use Rattle.asm_base.specs.Tokens.{SpelledToken, spelled}
use Rattle.asm_expr.specs.declared.faults.ExprCause.{ExprCause}
use Rattle.asm_expr.specs.Trees.{Tree}
use Rattle.expr_texts.specs.Reading.{Reading, Read, read, reading, reading_of}
use Rattle.expr_texts.specs.Grammar.{operator_follows}
use Rattle.expr_texts.specs.Found.{spelled_from}
use Rattle.x86_insn.specs.declared.amounts.Amount.{Amount}
use Rattle.att_operands.specs.declared.faults.OperandCause.{OperandCause}
use Rattle.att_operands.specs.declared.values.ReadAmount.{ReadAmount}
use Rattle.att_operands.specs.Values.{GivesSo, IsAmountOf, without_suffix}
use Rattle.att_operands.specs.Amounts.{IsAmountRead, in_operand, GivesAmount}
use Rattle.att_operands.proofs.FrontReadings.{TextsAreRead, ReadsAreTexts, text_at, fewer_left, whole_is_text, left_at}
use Rattle.att_operands.proofs.AmountLemmas.{amount_is}

-- what is left at a place so many tokens before the name: these, the name, and all behind the suffix
pub joined_from : (tokens : List SpelledToken) (at name n : ℕ) → name ≡ at + n → name + 2 < length tokens
    → drop at (without_suffix tokens name) ≡ take (n + 1) (drop at tokens) ++ drop (name + 3) tokens
unfolding without_suffix
joined_from tokens at name n is within =
    let few = length-take-le (name + 1) tokens (omega arith) in
    let sum : name + 1 ≡ at + (n + 1) = omega arith in
    drop-append-le at (take (name + 1) tokens) (drop (name + 3) tokens) (omega arith)
    ∙ ap (λ (m : ℕ). drop at (take m tokens) ++ drop (name + 3) tokens) sum
    ∙ ap (λ (ts : List SpelledToken). ts ++ drop (name + 3) tokens) (drop-take at (n + 1) tokens)

pub joined : (tokens : List SpelledToken) (at : ℕ) → at + 2 < length tokens → drop at (without_suffix tokens at) ≡ take 1 (drop at tokens) ++ drop (at + 3) tokens
joined tokens at within = joined_from tokens at at 0 (omega arith) within

take_front : (front : List SpelledToken) (name : SpelledToken) (rest more : List SpelledToken) → take (length front + 1) (front ++ (name ∷ rest)) ++ more ≡ front ++ (name ∷ more)
take_front [] name rest more = refl
take_front (token ∷ front) name rest more =
    let one : length (token ∷ front) + 1 ≡ suc (length front + 1) = omega arith in
    rw one (ap (λ (ts : List SpelledToken). token ∷ ts) (take_front front name rest more))

-- the same, where these tokens are known
pub joined_front : (tokens : List SpelledToken) (at n : ℕ) (front : List SpelledToken) (name mark word : SpelledToken) (rest : List SpelledToken) → n ≡ length front
    → drop at tokens ≡ front ++ (name ∷ mark ∷ word ∷ rest) → (at + n) + 2 < length tokens → drop at (without_suffix tokens (at + n)) ≡ front ++ (name ∷ drop ((at + n) + 3) tokens)
joined_front tokens at n front name mark word rest is stands within =
    joined_from tokens at (at + n) n refl within
    ∙ ap (λ (ts : List SpelledToken). take (n + 1) ts ++ drop ((at + n) + 3) tokens) stands
    ∙ ap (λ (m : ℕ). take (m + 1) (front ++ (name ∷ mark ∷ word ∷ rest)) ++ drop ((at + n) + 3) tokens) is
    ∙ take_front front name (mark ∷ word ∷ rest) (drop ((at + n) + 3) tokens)

pub joined_length : (tokens : List SpelledToken) (at : ℕ) → at + 2 < length tokens → length (without_suffix tokens at) + 2 ≡ length tokens
unfolding without_suffix
joined_length tokens at within =
    let few = length-take-le (at + 1) tokens (omega arith) in
    omega (arith, length-append (take (at + 1) tokens) (drop (at + 3) tokens), length-drop (at + 3) tokens)

-- the name alone, where no operator stands behind the suffix
pub bare_is : TextsAreRead → ReadsAreTexts → (tokens : List Token) (at : ℕ) (tree : Tree) (held : Amount) → at + 2 < length tokens
    → reading 1 0 (map spelled (take ((at + 1) - at) (drop at tokens))) ≡ Ok (read tree []) → operator_follows (spelled_from tokens (at + 3)) ≡ false → IsAmountOf held tree
    → (let found : Result ReadAmount (Refusal ExprCause) = Ok (record { amount = held; next = at + 1 }) in GivesSo IsAmountRead found (reading_of (without_suffix (map spelled tokens) at) at))
bare_is text_is_read read_is_text tokens at tree held within is none of =
    let all = map spelled tokens in
    let more : at + 2 < length all = rw (length-map tokens spelled) within in
    let one : (at + 1) - at ≡ 1 = omega arith in
    let text = map spelled (take 1 (drop at tokens)) in
    let reads : reading 1 0 text ≡ Ok (read tree []) = subst (λ (n : ℕ). reading 1 0 (map spelled (take n (drop at tokens))) ≡ Ok (read tree [])) one is in
    let front : take 1 (drop at all) ≡ text = ap (λ (ts : List SpelledToken). take 1 ts) (drop-map spelled at tokens) ∙ take-map spelled 1 (drop at tokens) in
    let behind : drop (at + 3) all ≡ spelled_from tokens (at + 3) = drop-map spelled (at + 3) tokens in
    let stands : drop at (without_suffix all at) ≡ text ++ spelled_from tokens (at + 3) = joined all at more ∙ ap (λ (ts : List SpelledToken). ts ++ drop (at + 3) all) front ∙ ap (λ (ts : List SpelledToken). text ++ ts) behind in
    let left = length-drop at tokens in
    let long = length-take-le 1 (drop at tokens) (omega arith) in
    amount_is (without_suffix all at) at (at + 1) tree held
    (text_at text_is_read (without_suffix all at) at (at + 1) tree text (spelled_from tokens (at + 3)) stands (whole_is_text read_is_text tree text reads) none (omega (arith, length-map (take 1 (drop at tokens)) spelled))) of

-- the tokens up to the name, and all behind its suffix
pub joined_list : (tokens : List Token) (at name : ℕ) → at ≤ name → name + 2 < length tokens
    → map spelled (take ((name + 1) - at) (drop at tokens) ++ take (length tokens - (name + 3)) (drop (name + 3) tokens)) ≡ drop at (without_suffix (map spelled tokens) name)
joined_list tokens at name order within =
    let all = map spelled tokens in
    let more : name + 2 < length all = rw (length-map tokens spelled) within in
    let sum : name ≡ at + (name - at) = omega arith in
    let few : (name + 1) - at ≡ (name - at) + 1 = omega arith in
    map-append spelled (take ((name + 1) - at) (drop at tokens)) (take (length tokens - (name + 3)) (drop (name + 3) tokens))
    ∙ ap (λ (ts : List Token). map spelled (take ((name + 1) - at) (drop at tokens)) ++ map spelled ts) (left_at tokens (name + 3))
    ∙ sym (joined_from all at name (name - at) sum more
    ∙ ap (λ (ts : List SpelledToken). ts ++ drop (name + 3) all)
    (ap (λ (n : ℕ). take n (drop at all)) (sym few) ∙ ap (λ (ts : List SpelledToken). take ((name + 1) - at) ts) (drop-map spelled at tokens) ∙ take-map spelled ((name + 1) - at) (drop at tokens))
    ∙ ap (λ (ts : List SpelledToken). map spelled (take ((name + 1) - at) (drop at tokens)) ++ ts) (drop-map spelled (name + 3) tokens))

-- what is read of a list is read where the list is left
moved_by : ReadsAreTexts → (list tokens : List SpelledToken) (at : ℕ) (found : ReadAmount) (due : Read) → list ≡ drop at tokens → length tokens ≡ at + length list → reading 1 0 list ≡ due
    → (let held : Result ReadAmount (Refusal OperandCause) = Ok found in GivesSo IsAmountRead held (in_operand (due >>= (λ r. Ok (record { tree = r.tree; next = length list - length r.rest })))))
    → (let held : Result ReadAmount (Refusal OperandCause) = Ok (record { amount = found.amount; next = at + found.next }) in GivesSo IsAmountRead held (in_operand (due >>= (λ r. Ok (record { tree = r.tree; next = length tokens - length r.rest })))))
moved_by read_is_text list tokens at found (Ok r) left lengths is given =
    let few = fewer_left read_is_text list r is in
    let next = given.next in
    record { amount = given.amount; next = omega arith }
moved_by read_is_text list tokens at found (Err cause) left lengths is given = given

pub moved_gives : ReadsAreTexts → (list tokens : List SpelledToken) (at : ℕ) (found : ReadAmount) → list ≡ drop at tokens → length tokens ≡ at + length list
    → (let held : Result ReadAmount (Refusal OperandCause) = Ok found in GivesAmount list 0 held)
    → (let held : Result ReadAmount (Refusal OperandCause) = Ok (record { amount = found.amount; next = at + found.next }) in GivesAmount tokens at held)
unfolding reading_of
moved_gives read_is_text list tokens at found left lengths given =
    subst (λ (ts : List SpelledToken). (let held : Result ReadAmount (Refusal OperandCause) = Ok (record { amount = found.amount; next = at + found.next }) in
    GivesSo IsAmountRead held (in_operand (reading 1 0 ts >>= (λ r. Ok (record { tree = r.tree; next = length tokens - length r.rest })))))) left
    (moved_by read_is_text list tokens at found (reading 1 0 list) left lengths refl given)

fault_moved : (due : Read) (one other : Reading → ℕ) (cause : OperandCause) → in_operand (due >>= (λ r. Ok (record { tree = r.tree; next = one r }))) ≡ Err cause
    → in_operand (due >>= (λ r. Ok (record { tree = r.tree; next = other r }))) ≡ Err cause
fault_moved (Ok r) one other cause is = cc
fault_moved (Err fault) one other cause is = is

pub moved_fails : (list tokens : List SpelledToken) (at : ℕ) (refusal : Refusal OperandCause) → list ≡ drop at tokens → Fails refusal (in_operand (reading_of list 0)) → Fails refusal (in_operand (reading_of tokens at))
unfolding reading_of
moved_fails list tokens at (Fault cause) left is =
    subst (λ (ts : List SpelledToken). in_operand (reading 1 0 ts >>= (λ r. Ok (record { tree = r.tree; next = length tokens - length r.rest }))) ≡ Err cause) left
    (fault_moved (reading 1 0 list) (λ r. length list - length r.rest) (λ r. length tokens - length r.rest) cause is)
moved_fails list tokens at NoMemory left is = tt

pub left_length : (tokens : List SpelledToken) (at name : ℕ) → at ≤ name → name + 2 < length tokens → length (without_suffix tokens name) ≡ at + length (drop at (without_suffix tokens name))
left_length tokens at name order within = let all = joined_length tokens name within in omega (arith, length-drop at (without_suffix tokens name))
