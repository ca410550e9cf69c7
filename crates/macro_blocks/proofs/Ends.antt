-- What a search finds in a part of the list is what is cut off that.
use Rattle.std.proofs.Common.{◌≡◌, ℕ, ◌==◌, ◌&&◌, Bool, true, false, List, [], ◌∷◌, Option, Some, None, Ok, refl, sym, ap, ◌∙◌, inl, inr}
use Rattle.std.specs.Prelude.{if◌then◌else◌}
use Rattle.std.specs.Option.{option_map}
use Rattle.asm_base.specs.Tokens.{SpelledToken}
use Rattle.asm_lines.specs.NextStatements.{TokenStatement}
use Rattle.macro_words.specs.declared.words.Word.{Word}
use Rattle.macro_words.specs.declared.words.Word.TheVariants as word
use Rattle.macro_words.specs.Statements.{pos_of, word_in, operands_in}
use Rattle.macro_words.specs.Conditions.{Knowledge}
use Rattle.macro_words.specs.Branches as branches
use Rattle.macro_words.specs.Branches.{verdict}
use Rattle.macro_blocks.specs.declared.blocks.Block.{Block}
use Rattle.macro_blocks.specs.declared.blocks.Block.TheVariants as block
use Rattle.macro_blocks.specs.declared.frames.Branch.{Branch}
use Rattle.macro_blocks.specs.declared.frames.Frame.{Frame}
use Rattle.macro_blocks.specs.declared.searching.Search.{Search}
use Rattle.macro_blocks.specs.Blocks.{Cut, ends, of_word, ends_at, depth_behind, stops, with_first, cut, cut_block, ends_branch, cut_branch}
use Rattle.macro_blocks.specs.Levels.{with_statements}
use Rattle.macro_blocks.specs.Searches.{Verdict, verdict_by, stops_at, FoundAs, found_by, found_from}
use Rattle.macro_blocks.specs.Frames.{level_of, IsSamePart, PassesBlock, TakesBody, PassesBranch}
use Rattle.macro_blocks.specs.Passing.{EndsBefore, EndsIn}
use Rattle.macro_blocks.proofs.Cuts.{either, cut_stops, cut_goes, cut_nothing}
use Rattle.macro_blocks.proofs.Heads.{levels_same}
use Rattle.macro_blocks.proofs.FoundCuts.{seen, kept_all, none_seen, found_is_cut}

-- no branch begins anywhere
abbrev pub no_branch : Verdict
no_branch one operands = Ok false

is_itself : (test : Bool) → (if test then true else false) ≡ test
is_itself true = refl
is_itself false = refl

-- a search that begins no branch ends at the end of its block
pub ends_block : (b : Block) (s : TokenStatement) → stops_at b no_branch s ≡ ends_at b s
ends_block b s = is_itself (of_word (ends b) (word_in s))

-- a search for a branch ends where a branch ends
pub ends_at_branch : (known : Knowledge) (s : TokenStatement) → stops_at block.Conditional (branches.verdict_by known) s ≡ ends_branch known s
unfolding verdict
ends_at_branch known s = refl

-- the end of a conditional begins no branch that is chosen
end_verdict : (known : Knowledge) (one : Option Word) (operands : List SpelledToken) → verdict_by block.Conditional (branches.verdict_by known) one operands ≡ branches.verdict_by known one operands
end_verdict known None operands = refl
end_verdict known (Some word.EndIf) operands = refl
end_verdict known (Some _) operands = refl

stops_same : (stop other : TokenStatement → Bool) → ((s : TokenStatement) → stop s ≡ other s) → (deep : ℕ) (s : TokenStatement) → stops stop deep s ≡ stops other deep s
unfolding stops
stops_same stop other same deep s = ap (λ t. deep == 0 && t) (same s)

cut_same : (b : Block) (stop other : TokenStatement → Bool) → ((s : TokenStatement) → stop s ≡ other s) → (deep : ℕ) (statements : List TokenStatement) → cut b stop deep statements ≡ cut b other deep statements
cut_same b stop other same deep [] = cut_nothing b stop deep ∙ sym (cut_nothing b other deep)
cut_same b stop other same deep (s ∷ rest) =
    elim (either (stops stop deep s)) [
      | inl is ↦ cut_stops b stop deep s rest is ∙ sym (cut_stops b other deep s rest (sym (stops_same stop other same deep s) ∙ is))
      | inr is ↦
          cut_goes b stop deep s rest is ∙ ap (with_first s) (cut_same b stop other same (depth_behind b deep s) rest)
          ∙ sym (cut_goes b other deep s rest (sym (stops_same stop other same deep s) ∙ is))
    ]

-- what a search that begins finds
pub finds_cut : (verdict : Verdict) (search : Search) (b : Block) (keeps : Bool) (stop : TokenStatement → Bool) (statements : List TokenStatement) → search.block ≡ b → search.keeps ≡ keeps → search.deep ≡ 0 → search.text.items ≡ []
    → ((s : TokenStatement) → stops_at b verdict s ≡ stop s) → found_by verdict search statements ≡ option_map (seen keeps []) (cut b stop 0 statements)
finds_cut verdict search b keeps stop statements block keeps_is deep text same =
    ap (λ one. found_from one (stops_at one verdict) search.keeps search.deep search.text.items statements) block
    ∙ ap (λ k. found_from b (stops_at b verdict) k search.deep search.text.items statements) keeps_is
    ∙ ap (λ d. found_from b (stops_at b verdict) keeps d search.text.items statements) deep
    ∙ ap (λ t. found_from b (stops_at b verdict) keeps 0 t statements) text
    ∙ found_is_cut b (stops_at b verdict) keeps 0 [] statements
    ∙ ap (option_map (seen keeps [])) (cut_same b (stops_at b verdict) stop same 0 statements)

-- a cut that is seen so
record CutSeen (keeps : Bool) (found : Option Cut) (text : List ℕ) (stop : TokenStatement) (rest : List TokenStatement) : Type 0 where
  cut : Cut
  is : found ≡ Some cut
  keeps_text : kept_all keeps [] cut.inside ≡ text
  stops_there : cut.stop ≡ stop
  leaves : cut.rest ≡ rest

cut_seen : (keeps : Bool) (found : Option Cut) (text : List ℕ) (stop : TokenStatement) (rest : List TokenStatement) → option_map (seen keeps []) found ≡ Some (record { text = text; stop = stop; rest = rest }) → CutSeen keeps found text stop rest
cut_seen keeps None text stop rest is = absurd cc
cut_seen keeps (Some c) text stop rest is =
    let same : seen keeps [] c ≡ record { text = text; stop = stop; rest = rest } = cc in
    record { cut = c; is = refl; keeps_text = ap (λ (f : FoundAs). f.text) same; stops_there = ap (λ (f : FoundAs). f.stop) same; leaves = ap (λ (f : FoundAs). f.rest) same }

-- the part goes on behind these statements
level_behind : (before now : Frame) (rest : List TokenStatement) → (level_of now).statements ≡ rest → IsSamePart before now → level_of now ≡ with_statements rest (level_of before)
unfolding level_of
level_behind before now rest is same = levels_same _ _ _ _ _ _ _ _ is same.ends same.opened same.number

-- a block is passed
pub passes_block : (first after : Search) (b : Block) (before now : Frame) (branch : Branch) → first.block ≡ b → first.keeps ≡ false → first.deep ≡ 0 → first.text.items ≡ []
    → EndsBefore no_branch first after (level_of before).statements (level_of now).statements branch → IsSamePart before now → PassesBlock b true (level_of before) (level_of now)
passes_block first after b before now branch block keeps deep text ends same =
    let all = finds_cut no_branch first b false (ends_at b) (level_of before).statements block keeps deep text (ends_block b) in
    let found = cut_seen false (cut_block b (level_of before).statements) after.text.items ends.statement (level_of now).statements (sym all ∙ ends.found) in
    record { cut = found.cut; is = found.is; behind = level_behind before now found.cut.rest (sym found.leaves) same }

pub no_block : (first : Search) (b : Block) (keeps : Bool) (statements : List TokenStatement) → first.block ≡ b → first.keeps ≡ keeps → first.deep ≡ 0 → first.text.items ≡ [] → found_by no_branch first statements ≡ None → cut_block b statements ≡ None
no_block first b keeps statements block keeps_is deep text none =
    let all = finds_cut no_branch first b keeps (ends_at b) statements block keeps_is deep text (ends_block b) in
    none_seen keeps [] (cut_block b statements) (sym all ∙ none)

-- a body is taken off
pub takes_body : (first after : Search) (b : Block) (before now : Frame) (branch : Branch) → first.block ≡ b → first.keeps ≡ true → first.deep ≡ 0 → first.text.items ≡ []
    → EndsBefore no_branch first after (level_of before).statements (level_of now).statements branch → IsSamePart before now → TakesBody b (Some after.text.items) (level_of before) (level_of now)
takes_body first after b before now branch block keeps deep text ends same =
    let all = finds_cut no_branch first b true (ends_at b) (level_of before).statements block keeps deep text (ends_block b) in
    let found = cut_seen true (cut_block b (level_of before).statements) after.text.items ends.statement (level_of now).statements (sym all ∙ ends.found) in
    record { cut = found.cut; is = found.is; behind = level_behind before now found.cut.rest (sym found.leaves) same; inside = sym found.keeps_text }

-- a branch is passed
passes_branch : (known : Knowledge) (first after : Search) (before now : Frame) (branch : Branch) → first.block ≡ block.Conditional → first.keeps ≡ false → first.deep ≡ 0 → first.text.items ≡ []
    → EndsBefore (branches.verdict_by known) first after (level_of before).statements (level_of now).statements branch → IsSamePart before now → PassesBranch known (Some branch) (level_of before) (level_of now)
unfolding verdict
passes_branch known first after before now branch here keeps deep text ends same =
    let all = finds_cut (branches.verdict_by known) first block.Conditional false (ends_branch known) (level_of before).statements here keeps deep text (ends_at_branch known) in
    let found = cut_seen false (cut_branch known (level_of before).statements) after.text.items ends.statement (level_of now).statements (sym all ∙ ends.found) in
    let s = ends.statement in
    record {
      cut = found.cut;
      is = found.is;
      behind = level_behind before now found.cut.rest (sym found.leaves) same;
      pos = ends.pos ∙ ap pos_of (sym found.stops_there);
      verdict = ap (λ (one : TokenStatement). branches.verdict_by known (word_in one) (operands_in one)) found.stops_there ∙ sym (end_verdict known (word_in s) (operands_in s))
          ∙ ap (λ b. verdict_by b (branches.verdict_by known) (word_in s) (operands_in s)) (sym here) ∙ ends.answers;
    }

pub ends_branch_so : (known : Knowledge) (first after : Search) (before now : Frame) (branch : Option Branch) → first.block ≡ block.Conditional → first.keeps ≡ false → first.deep ≡ 0 → first.text.items ≡ []
    → EndsIn (branches.verdict_by known) first after (level_of before).statements (level_of now).statements branch → IsSamePart before now → PassesBranch known branch (level_of before) (level_of now)
ends_branch_so known first after before now (Some branch) here keeps deep text ends same = passes_branch known first after before now branch here keeps deep text ends same
ends_branch_so known first after before now None here keeps deep text none same =
    let all = finds_cut (branches.verdict_by known) first block.Conditional false (ends_branch known) (level_of before).statements here keeps deep text (ends_at_branch known) in
    none_seen false [] (cut_branch known (level_of before).statements) (sym all ∙ none)
