-- What was found from an index on, as the expression that begins there.
use Rattle.std.proofs.Common.{◌≡◌, ℕ, ◌-◌, ◌≤◌, List, Result, Ok, length, map, drop, ap, ◌∙◌, arith, length-drop}
use Rattle.std.proofs.lemmas.List.{drop-map, length-map}
use Rattle.asm_base.specs.declared.tokens.Token.{Token}
use Rattle.asm_base.specs.Tokens.{SpelledToken, spelled}
use Rattle.asm_base.specs.declared.refusals.Refusal.{Refusal}
use Rattle.asm_base.specs.Refusals.{◌>>=◌, Fails}
use Rattle.asm_expr.specs.declared.faults.ExprCause.{ExprCause}
use Rattle.expr_texts.specs.declared.parsing.Found.{Found}
use Rattle.asm_expr.specs.Trees.{tree_of}
use Rattle.expr_texts.specs.Reading.{Reading, Read, ReadTree, reading, reading_of}
use Rattle.expr_texts.specs.Found.{spelled_from, read_tree, IsFound}
use Rattle.expr_texts.proofs.Steps.{fails_after}

placing : List SpelledToken → Reading → Result ReadTree ExprCause
placing tokens found = Ok (record { tree = found.tree; next = length tokens - length found.rest })

from_is : (list : List Token) (tokens : List SpelledToken) (at : ℕ) → map spelled list ≡ tokens → reading 1 0 (drop at tokens) ≡ reading 1 0 (spelled_from list at)
from_is list tokens at is = rw (← is) (ap (reading 1 0) (drop-map spelled at list))

next_is : (list : List Token) (tokens : List SpelledToken) (next : ℕ) → map spelled list ≡ tokens → next ≤ length list → length tokens - length (spelled_from list next) ≡ next
next_is list tokens next is within =
    let all = length-map list spelled in
    let rest = length-map (drop next list) spelled in
    let left = length-drop next list in
    rw (← is, all, rest) (omega arith)

pub read_tree_found : (list : List Token) (tokens : List SpelledToken) (at : ℕ) (found : Found) → map spelled list ≡ tokens → IsFound list at (reading 1 0 (spelled_from list at)) found
    → reading_of tokens at ≡ Ok (read_tree (found.expr, found.next))
unfolding reading_of placing
read_tree_found list tokens at found is finds =
    ap (λ (r : Read). r >>= placing tokens) (from_is list tokens at is ∙ finds.value)
    ∙ ap (λ n. Ok (record { tree = tree_of found.expr; next = n })) (next_is list tokens found.next is finds.within)

pub read_tree_fails : (list : List Token) (tokens : List SpelledToken) (at : ℕ) (refusal : Refusal ExprCause) → map spelled list ≡ tokens → Fails refusal (reading 1 0 (spelled_from list at))
    → Fails refusal (reading_of tokens at)
unfolding reading_of placing
read_tree_fails list tokens at refusal is fails =
    fails_after refusal (reading 1 0 (spelled_from list at)) (placing tokens) (reading_of tokens at) (ap (λ (r : Read). r >>= placing tokens) (from_is list tokens at is)) fails
