-- Copies that are made one after the other.
use Rattle.std.proofs.Common.{◌≡◌, ℕ, suc, ◌+◌, ◌<◌, true, false, ◌&&◌, Bool, List, [], ◌∷◌, ◌++◌, length, take, drop, get_or, Result, Ok, Err, refl, sym, ap, ◌∙◌}
use Rattle.std.specs.Global.{Vec}
use Rattle.std.proofs.Math.Seq.{drop-cons}
use Rattle.std.proofs.lemmas.List.{append_assoc, append-nil, take_more, take-append-drop}
use Rattle.std.proofs.lemmas.Simd.{map-map}
use Rattle.asm_base.specs.declared.refusals.Refusal.{Refusal}
use Rattle.asm_base.specs.declared.refusals.Refusal.TheVariants.{Fault, NoMemory}
use Rattle.asm_base.specs.declared.positions.Pos.{Pos}
use Rattle.asm_base.specs.Refusals.{◌>>=◌, Fails}
use Rattle.asm_lines.specs.NextStatements.{TokenStatement, in_tokens, statements_left, HasNoLineFault}
use Rattle.macro_texts.specs.RepeatsSeen.{texts}
use Rattle.macro_words.specs.declared.causes.MacroCause.{MacroCause}
use Rattle.macro_words.specs.Statements.{standing_at, made_by, made_statements}
use Rattle.macro_blocks.specs.declared.places.Place.TheVariants.{At}
use Rattle.macro_blocks.specs.Levels.{put_value, each_copy}
use Rattle.macro_blocks.specs.Places.{left_in, each_left, none_found, is_whole, all_whole}
use Rattle.macro_blocks.specs.Making.{AreMade}

-- a text without a fault makes what is left of it at its beginning
pub whole_made : (pos : Pos) (text : List ℕ) → HasNoLineFault 0 text → made_statements pos text ≡ Ok (left_in (At pos) text 0)
unfolding made_statements left_in
whole_made pos text is = ap (made_by pos) is.statements ∙ ap (λ (s : List TokenStatement). Ok s) (sym (map-map (standing_at pos) in_tokens (statements_left 0 text 0)))

pub is_whole_text : (text : List ℕ) → HasNoLineFault 0 text → is_whole text 0 ≡ true
is_whole_text text is = ap none_found is.faults

-- these statements before those that are made
abbrev before_made : List TokenStatement → Result (List TokenStatement) MacroCause → Result (List TokenStatement) MacroCause
before_made front made = made >>= λ others. Ok (front ++ others)

fails_behind : (refusal : Refusal MacroCause) (front : List TokenStatement) (made all : Result (List TokenStatement) MacroCause) → Fails refusal made → all ≡ before_made front made → Fails refusal all
fails_behind (Fault cause) front made all fails is = is ∙ ap (before_made front) fails
fails_behind NoMemory front made all fails is = tt

fails_first : (refusal : Refusal MacroCause) (made : Result (List TokenStatement) MacroCause) (more : List TokenStatement → Result (List TokenStatement) MacroCause) → Fails refusal made → Fails refusal (made >>= more)
fails_first (Fault cause) made more fails = ap (λ (m : Result (List TokenStatement) MacroCause). m >>= more) fails
fails_first NoMemory made more fails = tt

made_twice : (first front : List TokenStatement) (made : Result (List TokenStatement) MacroCause) → before_made first (before_made front made) ≡ before_made (first ++ front) made
made_twice first front (Ok others) = ap (λ (s : List TokenStatement). Ok s) (sym (append_assoc first front others))
made_twice first front (Err cause) = refl

before_none : (made : Result (List TokenStatement) MacroCause) → made ≡ before_made [] made
before_none (Ok others) = refl
before_none (Err cause) = refl

-- one copy more before others
one_more : (made front all last : Result (List TokenStatement) MacroCause) → all ≡ (front >>= λ (these : List TokenStatement). before_made these last)
    → (made >>= λ (first : List TokenStatement). all >>= λ (others : List TokenStatement). Ok (first ++ others))
    ≡ ((made >>= λ (first : List TokenStatement). front >>= λ (others : List TokenStatement). Ok (first ++ others)) >>= λ (these : List TokenStatement). before_made these last)
one_more (Err cause) front all last is = refl
one_more (Ok first) (Ok front) all last is = ap (before_made first) is ∙ made_twice first front last
one_more (Ok first) (Err cause) all last is = ap (before_made first) is

module _ (name body : List ℕ) (number : ℕ) where
  -- what all copies make is what the first ones and the others make
  made_in_two : (pos : Pos) (values others : List (List ℕ)) → each_copy pos name number body (values ++ others) ≡ (each_copy pos name number body values >>= λ (these : List TokenStatement). before_made these (each_copy pos name number body others))
  made_in_two pos [] others = before_none (each_copy pos name number body others)
  made_in_two pos (value ∷ values) others =
      one_more (made_statements pos (put_value name number body value)) (each_copy pos name number body values) (each_copy pos name number body (values ++ others)) (each_copy pos name number body others) (made_in_two pos values others)

  left_in_two : (pos : Pos) (values : List (List ℕ)) (value : List ℕ) → each_left (At pos) name number body (values ++ value ∷ []) ≡ each_left (At pos) name number body values ++ left_in (At pos) (put_value name number body value) 0
  left_in_two pos [] value = append-nil (left_in (At pos) (put_value name number body value) 0)
  left_in_two pos (first ∷ values) value =
      ap (λ l. left_in (At pos) (put_value name number body first) 0 ++ l) (left_in_two pos values value)
      ∙ sym (append_assoc (left_in (At pos) (put_value name number body first) 0) (each_left (At pos) name number body values) (left_in (At pos) (put_value name number body value) 0))

  whole_in_two : (values : List (List ℕ)) (value : List ℕ) → all_whole name number body values ≡ true → is_whole (put_value name number body value) 0 ≡ true → all_whole name number body (values ++ value ∷ []) ≡ true
  whole_in_two [] value all one = ap (λ b. b && true) one
  whole_in_two (first ∷ values) value all one = by_first (is_whole (put_value name number body first) 0) all (whole_in_two values value)
    where
      by_first : (b : Bool) → (b && all_whole name number body values) ≡ true → (all_whole name number body values ≡ true → is_whole (put_value name number body value) 0 ≡ true → all_whole name number body (values ++ value ∷ []) ≡ true)
          → (b && all_whole name number body (values ++ value ∷ [])) ≡ true
      by_first true is more = more is one
      by_first false is more = is

  -- a copy more is made
  pub made_more : (values : List (List ℕ)) (value : List ℕ) → AreMade name number body values → HasNoLineFault 0 (put_value name number body value) → AreMade name number body (values ++ value ∷ [])
  made_more values value are is = record {
    whole = whole_in_two values value are.whole (is_whole_text (put_value name number body value) is);
    made = λ pos.
        made_in_two pos values (value ∷ [])
        ∙ ap (λ (front : Result (List TokenStatement) MacroCause). front >>= λ (these : List TokenStatement). before_made these (each_copy pos name number body (value ∷ []))) (are.made pos)
        ∙ ap (λ (m : Result (List TokenStatement) MacroCause). before_made (each_left (At pos) name number body values) (m >>= λ (first : List TokenStatement). Ok (first ++ []))) (whole_made pos (put_value name number body value) is)
        ∙ ap (λ l. Ok (each_left (At pos) name number body values ++ l)) (append-nil (left_in (At pos) (put_value name number body value) 0))
        ∙ ap (λ (s : List TokenStatement). Ok s) (sym (left_in_two pos values value));
  }

  -- the next copy has a fault
  pub fault_made : (refusal : Refusal MacroCause) (values : List (List ℕ)) (value : List ℕ) (others : List (List ℕ)) → AreMade name number body values
      → ((pos : Pos) → Fails refusal (made_statements pos (put_value name number body value))) → (pos : Pos) → Fails refusal (each_copy pos name number body (values ++ value ∷ others))
  fault_made refusal values value others are fails pos =
      fails_behind refusal (each_left (At pos) name number body values) (each_copy pos name number body (value ∷ others)) (each_copy pos name number body (values ++ value ∷ others))
      (fails_first refusal (made_statements pos (put_value name number body value)) (λ (first : List TokenStatement). each_copy pos name number body others >>= λ (rest : List TokenStatement). Ok (first ++ rest)) (fails pos))
      (made_in_two pos values (value ∷ others) ∙ ap (λ (front : Result (List TokenStatement) MacroCause). front >>= λ (these : List TokenStatement). before_made these (each_copy pos name number body (value ∷ others))) (are.made pos))

-- the values up to the next one
pub texts_more : (values : List (Vec ℕ)) (n : ℕ) (value : Vec ℕ) → n < length values → value ≡ get_or values n value → texts (take (n + 1) values) ≡ texts (take n values) ++ value.items ∷ []
texts_more values n value more is = ap texts (take_more values n value more ∙ ap (λ v. take n values ++ v ∷ []) (sym is)) ∙ texts_append (take n values) value
  where
    texts_append : (front : List (Vec ℕ)) (last : Vec ℕ) → texts (front ++ last ∷ []) ≡ texts front ++ last.items ∷ []
    texts_append [] last = refl
    texts_append (first ∷ front) last = ap (λ l. first.items ∷ l) (texts_append front last)

-- all values, cut at the next one
pub texts_at : (values : List (Vec ℕ)) (n : ℕ) (value : Vec ℕ) → n < length values → value ≡ get_or values n value → texts values ≡ texts (take n values) ++ value.items ∷ texts (drop (suc n) values)
texts_at values n value more is =
    ap texts (sym (take-append-drop n values) ∙ ap (λ l. take n values ++ l) (drop-cons values n value more ∙ ap (λ v. v ∷ drop (suc n) values) (sym is))) ∙ texts_append (take n values) (value ∷ drop (suc n) values)
  where
    texts_append : (front back : List (Vec ℕ)) → texts (front ++ back) ≡ texts front ++ texts back
    texts_append [] back = refl
    texts_append (first ∷ front) back = ap (λ l. first.items ∷ l) (texts_append front back)
