-- A search goes on from statement to statement.
use Rattle.std.proofs.Common.{◌≡◌, ℕ, ◌==◌, ◌&&◌, Bool, true, false, List, [], ◌∷◌, drop, Option, Some, None, Result, refl, sym, ap, ◌∙◌}
use Rattle.asm_base.specs.Tokens.{SpelledToken}
use Rattle.asm_lines.specs.NextStatements.{TokenStatement}
use Rattle.macro_words.specs.declared.causes.MacroCause.{MacroCause}
use Rattle.macro_words.specs.declared.words.Word.{Word}
use Rattle.macro_words.specs.Statements.{behind_labels, named_by, word_named, word_in, operands_in}
use Rattle.macro_blocks.specs.declared.blocks.Block.{Block}
use Rattle.macro_blocks.specs.declared.searching.Search.{Search}
use Rattle.macro_blocks.specs.Blocks.{depth_by, depth_behind, stops}
use Rattle.macro_blocks.specs.Searches.{Verdict, verdict_by, stops_by, stops_at, EndsBy, IsPassed, kept_with, found_from, PassesOne}

module _ (b : Block) (stop : TokenStatement → Bool) (keeps : Bool) where
  pub found_here : (deep : ℕ) (text : List ℕ) (s : TokenStatement) (rest : List TokenStatement) → stops stop deep s ≡ true
      → found_from b stop keeps deep text (s ∷ rest) ≡ Some (record { text = text; stop = s; rest = rest })
  unfolding found_from
  found_here deep text s rest is = rw is refl

  pub found_later : (deep : ℕ) (text : List ℕ) (s : TokenStatement) (rest : List TokenStatement) → stops stop deep s ≡ false
      → found_from b stop keeps deep text (s ∷ rest) ≡ found_from b stop keeps (depth_behind b deep s) (kept_with keeps text s.tokens) rest
  unfolding found_from
  found_later deep text s rest is = rw is refl

  pub found_nothing : (deep : ℕ) (text : List ℕ) → found_from b stop keeps deep text [] ≡ None
  unfolding found_from
  found_nothing deep text = refl

-- the word of a statement
word_here : (s : TokenStatement) (tokens head : List SpelledToken) (one : Option Word) → s.tokens ≡ tokens → head ≡ behind_labels tokens → one ≡ word_named (named_by head) → one ≡ word_in s
unfolding word_in
word_here s tokens head one these here is = is ∙ ap (λ h. word_named (named_by h)) (here ∙ ap behind_labels (sym these))

-- its operands
operands_here : (s : TokenStatement) (tokens head operands : List SpelledToken) → s.tokens ≡ tokens → head ≡ behind_labels tokens → operands ≡ drop 1 head → operands ≡ operands_in s
operands_here s tokens head operands these here is = is ∙ ap (drop 1) (here ∙ ap behind_labels (sym these))

-- the search ends at a statement
pub ends_at : (verdict : Verdict) (search : Search) (tokens head operands : List SpelledToken) (one : Option Word) (answer : Result Bool MacroCause) → head ≡ behind_labels tokens → one ≡ word_named (named_by head) → operands ≡ drop 1 head
    → EndsBy search verdict one operands (Some answer) → PassesOne verdict search search tokens (Some answer)
unfolding stops
ends_at verdict search tokens head operands one answer here is behind ends s these =
    let word = word_here s tokens head one these here is in
    let rest_of = operands_here s tokens head operands these here behind in
    let stopped : stops_at search.block verdict s ≡ true = ap (λ w. stops_by search.block verdict w (operands_in s)) (sym word) ∙ ap (stops_by search.block verdict one) (sym rest_of) ∙ ends.1.0 in
    let given : verdict_by search.block verdict (word_in s) (operands_in s) ≡ answer = ap (λ w. verdict_by search.block verdict w (operands_in s)) (sym word) ∙ ap (verdict_by search.block verdict one) (sym rest_of) ∙ ends.1.1 in
    let at : stops (stops_at search.block verdict) search.deep s ≡ true = ap (λ d. d == 0 && stops_at search.block verdict s) ends.0 ∙ stopped in
    record { found = λ rest. found_here search.block (stops_at search.block verdict) search.keeps search.deep search.text.items s rest at; answers = given }

-- a statement is passed
pub passes : (verdict : Verdict) (before after : Search) (tokens head operands : List SpelledToken) (one : Option Word) → head ≡ behind_labels tokens → one ≡ word_named (named_by head) → operands ≡ drop 1 head
    → EndsBy before verdict one operands None → IsPassed before after one tokens → PassesOne verdict before after tokens None
unfolding stops depth_behind
passes verdict before after tokens head operands one here is behind goes passed s these rest =
    let word = word_here s tokens head one these here is in
    let rest_of = operands_here s tokens head operands these here behind in
    let not_stopped : stops (stops_at before.block verdict) before.deep s ≡ false = ap (λ w. before.deep == 0 && stops_by before.block verdict w (operands_in s)) (sym word) ∙ ap (λ o. before.deep == 0 && stops_by before.block verdict one o) (sym rest_of) ∙ goes in
    let deep : depth_by before.block before.deep (word_in s) ≡ after.deep = ap (depth_by before.block before.deep) (sym word) ∙ sym passed.deep in
    let text : kept_with before.keeps before.text.items s.tokens ≡ after.text.items = ap (kept_with before.keeps before.text.items) these ∙ sym passed.text in
    found_later before.block (stops_at before.block verdict) before.keeps before.deep before.text.items s rest not_stopped
    ∙ ap (λ d. found_from before.block (stops_at before.block verdict) before.keeps d (kept_with before.keeps before.text.items s.tokens) rest) deep
    ∙ ap (λ t. found_from before.block (stops_at before.block verdict) before.keeps after.deep t rest) text
    ∙ ap (λ k. found_from before.block (stops_at before.block verdict) k after.deep after.text.items rest) (sym passed.keeps)
    ∙ ap (λ b. found_from b (stops_at b verdict) after.keeps after.deep after.text.items rest) (sym passed.block)
