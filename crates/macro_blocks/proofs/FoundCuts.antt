-- Where a search ends is where the block is cut.
use Rattle.std.proofs.Common.{◌≡◌, ℕ, zero, suc, ◌+◌, Bool, true, false, List, [], ◌∷◌, ◌++◌, Option, Some, None, refl, sym, ap, ◌∙◌, arith, inl, inr}
use Rattle.std.specs.Option.{option_map}
use Rattle.std.proofs.lemmas.List.{append_assoc, append-nil}
use Rattle.asm_lines.specs.NextStatements.{TokenStatement}
use Rattle.macro_words.specs.Statements.{body_text}
use Rattle.macro_blocks.specs.declared.blocks.Block.{Block}
use Rattle.macro_blocks.specs.declared.searching.Search.{Search}
use Rattle.macro_blocks.specs.Blocks.{Cut, depth_behind, stops, with_first, cut, repeated}
use Rattle.macro_blocks.specs.Laws.{StopsAtEnds}
use Rattle.macro_blocks.specs.Searches.{Verdict, stops_at, kept_with, FoundAs, found_from, found_by}
use Rattle.macro_blocks.proofs.Cuts.{either, cut_stops, cut_goes, cut_nothing, front_open, copies_open}
use Rattle.macro_blocks.proofs.Searches.{found_here, found_later, found_nothing}

-- the text with these statements more, where it is kept
abbrev pub kept_all : Bool → List ℕ → List TokenStatement → List ℕ
kept_all true text inside = text ++ body_text inside
kept_all false text inside = text

-- a cut as a search finds it
abbrev pub seen : Bool → List ℕ → Cut → FoundAs
seen keeps text c = record { text = kept_all keeps text c.inside; stop = c.stop; rest = c.rest }

kept_none : (keeps : Bool) (text : List ℕ) → text ≡ kept_all keeps text []
kept_none true text = sym (append-nil text)
kept_none false text = refl

kept_more : (keeps : Bool) (text : List ℕ) (s : TokenStatement) (inside : List TokenStatement) → kept_all keeps (kept_with keeps text s.tokens) inside ≡ kept_all keeps text (s ∷ inside)
kept_more true text s inside = append_assoc text _ (body_text inside)
kept_more false text s inside = refl

seen_more : (keeps : Bool) (text : List ℕ) (s : TokenStatement) (found : Option Cut) → option_map (seen keeps (kept_with keeps text s.tokens)) found ≡ option_map (seen keeps text) (with_first s found)
seen_more keeps text s None = refl
seen_more keeps text s (Some c) = ap (λ t. Some (record { text = t; stop = c.stop; rest = c.rest })) (kept_more keeps text s c.inside)

module _ (b : Block) (stop : TokenStatement → Bool) (keeps : Bool) where
  pub found_is_cut : (deep : ℕ) (text : List ℕ) (statements : List TokenStatement) → found_from b stop keeps deep text statements ≡ option_map (seen keeps text) (cut b stop deep statements)
  found_is_cut deep text [] = found_nothing b stop keeps deep text ∙ ap (option_map (seen keeps text)) (sym (cut_nothing b stop deep))
  found_is_cut deep text (s ∷ rest) =
      elim (either (stops stop deep s)) [
        | inl is ↦ found_here b stop keeps deep text s rest is ∙ ap (λ t. Some (record { text = t; stop = s; rest = rest })) (kept_none keeps text) ∙ ap (option_map (seen keeps text)) (sym (cut_stops b stop deep s rest is))
        | inr is ↦
            found_later b stop keeps deep text s rest is ∙ found_is_cut (depth_behind b deep s) (kept_with keeps text s.tokens) rest
            ∙ seen_more keeps text s (cut b stop (depth_behind b deep s) rest) ∙ ap (option_map (seen keeps text)) (sym (cut_goes b stop deep s rest is))
      ]

pub none_seen : (keeps : Bool) (text : List ℕ) (found : Option Cut) → option_map (seen keeps text) found ≡ None → found ≡ None
none_seen keeps text None is = refl
none_seen keeps text (Some c) is = absurd cc

-- a search ends at the end of its block
closes : (b : Block) (verdict : Verdict) → StopsAtEnds b (stops_at b verdict)
closes b verdict s is = rw is refl

repeated_add : (n m : ℕ) (copy : List TokenStatement) → repeated (n + m) copy ≡ repeated n copy ++ repeated m copy
repeated_add zero m copy = let same : zero + m ≡ m = omega arith in ap (λ k. repeated k copy) same
repeated_add (suc n) m copy = let more : suc n + m ≡ suc (n + m) = omega arith in ap (λ k. repeated k copy) more ∙ ap (λ l. copy ++ l) (repeated_add n m copy) ∙ sym (append_assoc copy (repeated n copy) (repeated m copy))

-- what one copy's length does not end from a place in a copy on
front_of_copies : (n : ℕ) (front back : List TokenStatement) (b : Block) (stop : TokenStatement → Bool) → cut b stop 0 (back ++ (repeated n (front ++ back) ++ front)) ≡ None → cut b stop 0 (back ++ front) ≡ None
front_of_copies zero front back b stop none = none
front_of_copies (suc n) front back b stop none =
    let parts : back ++ (((front ++ back) ++ repeated n (front ++ back)) ++ front) ≡ (back ++ front) ++ (back ++ (repeated n (front ++ back) ++ front)) = simp append_assoc in
    front_open b stop (back ++ front) (back ++ (repeated n (front ++ back) ++ front)) 0 (sym (ap (cut b stop 0) parts) ∙ none)

module _ (verdict : Verdict) where
  pub found_none : (search : Search) → found_by verdict search [] ≡ None
  found_none search = found_nothing search.block (stops_at search.block verdict) search.keeps search.deep search.text.items

  -- copies of the text that were passed, and those that are to come
  pub record CopiesPassed (copy : List TokenStatement) (before now : Search) (all left : ℕ) : Type 0 where
    pub done : ℕ
    pub passed : (ys : List TokenStatement) → found_by verdict before (repeated done copy ++ ys) ≡ found_by verdict now ys
    pub count : done + left ≡ all

  pub copies_left_of : (copy : List TokenStatement) (before now : Search) (all left : ℕ) (others : List TokenStatement) → CopiesPassed copy before now all left
      → found_by verdict before (repeated all copy ++ others) ≡ found_by verdict now (repeated left copy ++ others)
  copies_left_of copy before now all left others so_far =
      ap (λ n. found_by verdict before (repeated n copy ++ others)) (sym so_far.count) ∙ ap (λ l. found_by verdict before (l ++ others)) (repeated_add so_far.done left copy)
      ∙ ap (found_by verdict before) (append_assoc (repeated so_far.done copy) (repeated left copy) others) ∙ so_far.passed (repeated left copy ++ others)

  pub copy_more : (copy : List TokenStatement) (before now after : Search) (all left more : ℕ) → CopiesPassed copy before now all left → more + 1 ≡ left → ((ys : List TokenStatement) → found_by verdict now (copy ++ ys) ≡ found_by verdict after ys)
      → CopiesPassed copy before after all more
  copy_more copy before now after all left more so_far one passes = record {
    done = so_far.done + 1;
    passed = λ ys.
        ap (λ l. found_by verdict before (l ++ ys)) (repeated_add so_far.done 1 copy ∙ ap (λ l. repeated so_far.done copy ++ l) (append-nil copy))
        ∙ ap (found_by verdict before) (append_assoc (repeated so_far.done copy) copy ys) ∙ so_far.passed (copy ++ ys) ∙ passes ys;
    count = omega (arith, so_far.count, one);
  }

  -- where one copy's length is passed, no further copy ends the search
  pub copies_stay_open : (first before now after : Search) (copy front back : List TokenStatement) (all left : ℕ) → first.deep ≡ 0 → ((ys : List TokenStatement) → found_by verdict first (back ++ ys) ≡ found_by verdict before ys)
      → CopiesPassed copy before now all left → copy ≡ front ++ back → ((ys : List TokenStatement) → found_by verdict now (front ++ ys) ≡ found_by verdict after ys) → (n : ℕ) → found_by verdict before (repeated n copy) ≡ None
  copies_stay_open first before now after copy front back all left begins passed_back so_far is passed_front n =
      let b = first.block in
      let stop = stops_at b verdict in
      let text = first.text.items in
      let at_0 : (xs : List TokenStatement) → found_by verdict first xs ≡ option_map (seen first.keeps text) (cut b stop 0 xs) =
      λ xs. ap (λ d. found_from b stop first.keeps d text xs) begins ∙ found_is_cut b stop first.keeps 0 text xs in
      let nothing : found_by verdict first (back ++ (repeated so_far.done copy ++ front)) ≡ None =
      passed_back (repeated so_far.done copy ++ front) ∙ ap (λ l. found_by verdict before (repeated so_far.done copy ++ l)) (sym (append-nil front)) ∙ so_far.passed (front ++ []) ∙ passed_front [] ∙ found_none after in
      let open_front = none_seen first.keeps text (cut b stop 0 (back ++ (repeated so_far.done copy ++ front))) (sym (at_0 (back ++ (repeated so_far.done copy ++ front))) ∙ nothing) in
      let one = front_of_copies so_far.done front back b stop (ap (λ c. cut b stop 0 (back ++ (repeated so_far.done c ++ front))) (sym is) ∙ open_front) in
      let all_open = copies_open b stop (closes b verdict) front back n one in
      sym (passed_back (repeated n copy)) ∙ at_0 (back ++ repeated n copy) ∙ ap (λ c. option_map (seen first.keeps text) (cut b stop 0 (back ++ repeated n c))) is ∙ ap (option_map (seen first.keeps text)) all_open
