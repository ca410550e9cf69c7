-- The front of a source, statement by statement.
use Rattle.std.proofs.Common.{◌≡◌, ℕ, ◌+◌, ◌<◌, ◌≤◌, Bool, false, is_some, true≢false, List, [], ◌∷◌, map, Option, None, Some, Result, Ok, Err, length, take, drop, ◌-◌, refl, sym, ap, ◌∙◌, arith}
use Rattle.std.proofs.lemmas.List.{drop-map, take_rest}
use Rattle.asm_base.specs.Inputs.{Contents}
use Rattle.asm_base.specs.Tokens.{SpelledToken, spelled}
use Rattle.asm_base.specs.declared.tokens.Token.{Token}
use Rattle.asm_lines.specs.LineNumbers.{line_of}
use Rattle.asm_lines.specs.NextStatements.{TokenStatement, IsNext, IsEnd, in_tokens, next_in_tokens, found_left}
use Rattle.macro_blocks.specs.Levels.{level_with}
use Rattle.macro_blocks.specs.declared.blocks.Ending.TheVariants as ending
use Rattle.macro_words.specs.declared.causes.MacroCause.TheVariants.{ExpansionTooLong}
use Rattle.macro_words.specs.declared.words.Word.{Word}
use Rattle.macro_words.specs.Conditions.{Knowledge}
use Rattle.macro_words.specs.Statements.{word_in, word_named, named_by, behind_labels}
use Rattle.asm_macro.specs.Expansion as list
use Rattle.asm_macro.specs.Expansion.{State, started, most_given, turn}
use Rattle.asm_macro.specs.Placing.{Step, goes, ended, fails, refused, with_placed, placed_by_turn}
use Rattle.asm_macro.specs.Laws.{IsPlain}
use Rattle.asm_macro.specs.Fronts.{IsPlaced, LeadsTo, plain, rest_at}
use Rattle.asm_macro.proofs.Runs.{steps_none, steps_one, steps_more}
use Rattle.asm_macro.proofs.Turns.{plain_turn}
use Rattle.asm_macro.proofs.HeadTurns.{long_turn}

-- what stands behind the labels, as the program hands it on
pub left_seen : (tokens : List Token) (at : ℕ) → map spelled (take (length tokens - at) (drop at tokens)) ≡ drop at (map spelled tokens)
left_seen tokens at = ap (map spelled) (take_rest tokens at) ∙ sym (drop-map spelled at tokens)

-- the word of a statement by what stands behind its labels
pub plain_by : (s : TokenStatement) (tokens : List SpelledToken) → tokens ≡ behind_labels s.tokens → word_named (named_by tokens) ≡ None → IsPlain s
unfolding word_in
plain_by s tokens same none = ap (λ these. word_named (named_by these)) (sym same) ∙ none

-- a word that is none
pub no_word : (found : Option Word) (some : Bool) (due : Option Word) → some ≡ is_some found → some ≡ false → found ≡ due → due ≡ None
no_word None some due test is same = sym same
no_word (Some word) some due test is same = absurd (true≢false (sym test ∙ is))

emptied : (known : Knowledge) (contents : Option Contents) (files : List (List ℕ)) (given : ℕ) → turn known contents (plain files given []) ≡ list.goes (record { levels = []; macros = []; begun = 0; given = given; files = files })
unfolding turn
emptied known contents files given = refl

at_end : (known : Knowledge) (contents : Option Contents) (files : List (List ℕ)) (given : ℕ) → turn known contents (record { levels = []; macros = []; begun = 0; given = given; files = files }) ≡ list.ended
unfolding turn
at_end known contents files given = refl

module _ {S F : Type 0} (placed : S → TokenStatement → Result S F) (told : S → Knowledge) (source : List ℕ) (placer : S) where
  -- nothing is placed so far
  pub front_init : IsPlaced placed told source placer placer 0 1 0
  unfolding line_of
  front_init =
      record { leads = λ contents files. steps_none placed told contents (started files (rest_at source 0)) placer; faults = refl; line_there = refl; within = omega arith; few = omega arith }

  -- one turn more
  more : (given : ℕ) (after : S) (left : List TokenStatement) (x : List (List ℕ) → Step S F)
      → LeadsTo placed told source placer given (λ files. goes (plain files given left) after)
      → ((contents : Option Contents) (files : List (List ℕ)) → placed_by_turn placed files after (turn (told after) contents (plain files given left)) ≡ x files)
      → LeadsTo placed told source placer (given + 1) x
  more given after left x leads here contents files =
      steps_more placed told contents given 1 (started files (rest_at source 0)) placer (plain files given left) after (leads contents files)
      ∙ steps_one placed told contents (plain files given left) after ∙ here contents files

  -- the list that is left, with the statement that stands next
  leads_next : (after : S) (at line given : ℕ) (s : TokenStatement) (next : ℕ) → IsPlaced placed told source placer after at line given → rest_at source at ≡ s ∷ rest_at source next
      → LeadsTo placed told source placer given (λ files. goes (plain files given (s ∷ rest_at source next)) after)
  leads_next after at line given s next is left contents files = is.leads contents files ∙ ap (λ rest. goes (plain files given rest) after) left

  pub front_next : (after other : S) (at line given here next there : ℕ) (read : List Token) → IsPlaced placed told source placer after at line given → IsNext source at read here next there
      → IsPlain (next_in_tokens 0 here read) → given < most_given → placed after (next_in_tokens 0 here read) ≡ Ok other
      → IsPlaced placed told source placer other next there (given + 1)
  front_next after other at line given here next there read is stands word few put =
      let s : TokenStatement = next_in_tokens 0 here read in
      let left = stands.statements 0 in
      record {
        leads = more given after (s ∷ rest_at source next) (λ files. goes (plain files (given + 1) (rest_at source next)) other) (leads_next after at line given s next is left)
            (λ contents files. ap (placed_by_turn placed files after) (plain_turn (told after) contents files given s (rest_at source next) word few) ∙ ap (with_placed (plain files (given + 1) (rest_at source next))) put);
        faults = sym stands.faults ∙ is.faults;
        line_there = stands.there;
        within = stands.within;
        few = omega (arith, few);
      }

  pub front_long : (after : S) (at line given here next there : ℕ) (read : List Token) → IsPlaced placed told source placer after at line given → IsNext source at read here next there
      → most_given ≤ given → LeadsTo placed told source placer (given + 1) (λ files. fails files ExpansionTooLong (record { file = 0; line = here }) after)
  front_long after at line given here next there read is stands many =
      let s : TokenStatement = next_in_tokens 0 here read in
      more given after (s ∷ rest_at source next) _ (leads_next after at line given s next is (stands.statements 0))
      (λ contents files. ap (placed_by_turn placed files after) (long_turn (told after) contents s (level_with None ending.File (rest_at source next)) (record { levels = []; macros = []; begun = 0; given = given; files = files }) many))

  pub front_refused : (after : S) (fault : F) (at line given here next there : ℕ) (read : List Token) → IsPlaced placed told source placer after at line given → IsNext source at read here next there
      → IsPlain (next_in_tokens 0 here read) → given < most_given → placed after (next_in_tokens 0 here read) ≡ Err fault
      → LeadsTo placed told source placer (given + 1) (λ files. refused files fault)
  front_refused after fault at line given here next there read is stands word few put =
      let s : TokenStatement = next_in_tokens 0 here read in
      more given after (s ∷ rest_at source next) _ (leads_next after at line given s next is (stands.statements 0))
      (λ contents files. ap (placed_by_turn placed files after) (plain_turn (told after) contents files given s (rest_at source next) word few) ∙ ap (with_placed (plain files (given + 1) (rest_at source next))) put)

  pub front_ends : (after : S) (at line given : ℕ) → IsPlaced placed told source placer after at line given → IsEnd source at
      → LeadsTo placed told source placer (given + 1 + 1) (λ files. ended files after)
  front_ends after at line given is ends contents files =
      let none = ap (map in_tokens) (ends.statements 0) in
      let closed = more given after [] (λ names. goes (record { levels = []; macros = []; begun = 0; given = given; files = names }) after)
      (λ told_of names. is.leads told_of names ∙ ap (λ rest. goes (plain names given rest) after) none)
      (λ told_of names. ap (placed_by_turn placed names after) (emptied (told after) told_of names given)) in
      steps_more placed told contents (given + 1) 1 (started files (rest_at source 0)) placer (record { levels = []; macros = []; begun = 0; given = given; files = files }) after (closed contents files)
      ∙ steps_one placed told contents (record { levels = []; macros = []; begun = 0; given = given; files = files }) after ∙ ap (placed_by_turn placed files after) (at_end (told after) contents files given)

  pub front_clean : (after : S) (at line given : ℕ) → IsPlaced placed told source placer after at line given → IsEnd source at → found_left source 0 ≡ None
  front_clean after at line given is ends = sym is.faults ∙ ends.faults
