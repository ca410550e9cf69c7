-- Statements that are followed are placed, as without it but for directives of frame tables.
use Rattle.std.proofs.Common.{◌≡◌, Bool, true, false, cond, List, [], ◌∷◌, fold, map, Option, None, Some, Result, Ok, Err, refl, sym, ap, subst, ◌∙◌}
use Rattle.std.specs.Prelude.{drop}
use Rattle.std.proofs.lemmas.Result.{IfErr-at_err}
use Rattle.asm_base.specs.Refusals.{◌>>=◌}
use Rattle.asm_base.specs.declared.positions.Pos.{Pos}
use Rattle.asm_lines.specs.NextStatements.{TokenStatement}
use Rattle.asm_lines.specs.Placing.{placed_next, placed_in_order}
use Rattle.asm_words.specs.declared.directives.Directive.{Directive}
use Rattle.asm_values.specs.State.{Placed}
use Rattle.asm_place.specs.declared.bodies.Body.{Body}
use Rattle.asm_place.specs.declared.bodies.Body.TheVariants as body
use Rattle.asm_place.specs.declared.place_faults.FaultAt.{FaultAt}
use Rattle.asm_place.specs.Bodies.{body_of, labels_of, front, back}
use Rattle.asm_place.specs.Faults.{is_file_too_large}
use Rattle.asm_place.specs.Instructions.{behind_labels}
use Rattle.asm_place.specs.Sources.{place, place_all}
use Rattle.code_functions.specs.Recorded.{Recorded}
use Rattle.code_functions.specs.Seen.{SeenItem}
use Rattle.asm_functions.specs.Following.{labels_begun, follow_directive, follow_insn}
use Rattle.asm_functions.specs.FollowedSource.{FollowedSource, with_placed, with_functions, remarked, ignored_by, place_of, stepped, is_frame, unless_split, insn_followed, body_followed, labels_followed, statement_followed, place_followed, follow_all, is_frame_body, placed_part}

-- ANSWERS

module _ {A E : Type 0} where
  err-ok : {C : Type 0} (fault : E) (x : A) → ◌≡◌ {A = Result A E} (Err fault) (Ok x) → C
  err-ok fault x is = absurd (cc)

  pub same_Ok : (x y : A) → ◌≡◌ {A = Result A E} (Ok x) (Ok y) → x ≡ y
  same_Ok x y is = ap (λ (r : Result A E). elim r [ Ok made ↦ made | Err fault ↦ x ]) is

module _ {A B E C : Type 0} where
  pub both_ok : (r : Result A E) (f : A → Result B E) (y : B) → (r >>= f) ≡ Ok y → ((x : A) → r ≡ Ok x → f x ≡ Ok y → C) → C
  both_ok (Ok x) f y is go = go x refl is
  both_ok (Err fault) f y is go = err-ok fault y is

-- WHAT IS PLACED

-- placing answered what the one state has of the other
record Leads (answer : Result Placed FaultAt) (f g : FollowedSource) : Type 0 where
  placed : answer ≡ Ok g.placed
  asked : g.asked ≡ f.asked

led : (answer : Result Placed FaultAt) (f g h : FollowedSource) → answer ≡ Ok h.placed → h.asked ≡ f.asked → h ≡ g → Leads answer f g
led answer f g h placed asked is = subst (λ x. Leads answer f x) is (record { placed = placed; asked = asked })

stepped_by : (answer : Result Placed FaultAt) (change : Placed → List (Recorded SeenItem)) (f g : FollowedSource)
    → (answer >>= (λ after. Ok (with_functions f after (change after)))) ≡ Ok g → Leads answer f g
stepped_by (Ok after) change f g is = led (Ok after) f g (with_functions f after (change after)) refl refl (same_Ok _ g is)
stepped_by (Err fault) change f g is = err-ok fault g is

split_by : (pos : Pos) (answer : Result Placed FaultAt) (functions : Option (List (Recorded SeenItem))) (f g : FollowedSource) (after : Placed)
    → answer ≡ Ok after → unless_split pos f after functions ≡ Ok g → Leads answer f g
split_by pos answer (Some functions) f g after is got = led answer f g (with_functions f after functions) is refl (same_Ok _ g got)
split_by pos answer None f g after is got = err-ok _ g got

insn_led : (s : TokenStatement) (f g : FollowedSource) → insn_followed s f ≡ Ok g → Leads (place s f.placed) f g
insn_led s f g is =
    both_ok (place s f.placed) _ g is (λ after placed. split_by (place_of s) (place s f.placed) (follow_insn (place_of s) s.tokens f.placed after f.functions) f g after placed)

-- what is placed of a statement without labels
abbrev body_placed : (frame : Bool) → TokenStatement → Placed → Result Placed FaultAt
body_placed frame s placed = cond frame (Ok placed) (place s placed)

directive_led : (frame : Bool) (found : Directive) (s : TokenStatement) (f g : FollowedSource)
    → cond frame (Ok (ignored_by (place_of s) f)) (stepped s (follow_directive found (place_of s) (drop 1 s.tokens)) f) ≡ Ok g
    → Leads (body_placed frame s f.placed) f g
directive_led true found s f g is = led (Ok f.placed) f g (ignored_by (place_of s) f) refl refl (same_Ok _ g is)
directive_led false found s f g is = stepped_by (place s f.placed) _ f g is

body_led : (kind : Body) (s : TokenStatement) (f g : FollowedSource) → body_followed kind s f ≡ Ok g → Leads (body_placed (is_frame_body kind) s f.placed) f g
body_led body.Nothing s f g is = stepped_by (place s f.placed) _ f g is
body_led body.Assignment s f g is = stepped_by (place s f.placed) _ f g is
body_led (body.Directed None) s f g is = stepped_by (place s f.placed) _ f g is
body_led (body.Directed (Some found)) s f g is = directive_led (is_frame found) found s f g is
body_led body.Instruction s f g is = insn_led s f g is
body_led body.Unknown s f g is = stepped_by (place s f.placed) _ f g is

-- ALL STATEMENTS

pub remarked_ok : (f g : FollowedSource) (answer : Result FollowedSource FaultAt) → remarked f answer ≡ Ok g → answer ≡ Ok g
remarked_ok f g (Ok more) is = is
remarked_ok f g (Err stop) is = err-ok _ g is

module _ (split : (s : TokenStatement) (placed : Placed) → place s placed ≡ (place (front s) placed >>= place (back s))) where
  -- the labels, and what is placed behind them
  both_led : (frame : Bool) (s : TokenStatement) (f there g : FollowedSource) → Leads (place (front s) f.placed) f there → Leads (body_placed frame (back s) there.placed) there g
      → Leads (place (cond frame (front s) s) f.placed) f g
  both_led true s f there g labels rest =
      record { placed = labels.placed ∙ rest.placed; asked = rest.asked ∙ labels.asked }
  both_led false s f there g labels rest =
      record { placed = split s f.placed ∙ ap (λ r. r >>= place (back s)) labels.placed ∙ rest.placed; asked = rest.asked ∙ labels.asked }

  statement_led : (s : TokenStatement) (f g : FollowedSource) → statement_followed s f ≡ Ok g → Leads (place (placed_part true s) f.placed) f g
  unfolding statement_followed
  statement_led s f g is =
      let kind = body_of (behind_labels s.tokens) in
      both_ok (labels_followed s f) (body_followed kind (back s)) g is (λ there labels rest.
      both_led (is_frame_body kind) s f there g (stepped_by (place (front s) f.placed) _ f there labels) (body_led kind (back s) there g rest))

  followed_by : (asked : Bool) (s : TokenStatement) (f g : FollowedSource) → f.asked ≡ asked
      → cond asked (remarked f (statement_followed s f)) (place s f.placed >>= (λ after. Ok (with_placed f after))) ≡ Ok g → Leads (place (placed_part asked s) f.placed) f g
  followed_by true s f g asked is = statement_led s f g (remarked_ok f g (statement_followed s f) is)
  followed_by false s f g asked is = stepped_by (place s f.placed) (λ after. f.functions) f g is

  followed_led : (s : TokenStatement) (f g : FollowedSource) → place_followed s f ≡ Ok g → Leads (place (placed_part f.asked s) f.placed) f g
  unfolding place_followed
  followed_led s f g is = followed_by f.asked s f g refl is

  all_led : (asked : Bool) (statements : List TokenStatement) (f g : FollowedSource) → f.asked ≡ asked → follow_all statements f ≡ Ok g
      → Leads (place_all (map (placed_part asked) statements) f.placed) f g
  unfolding follow_all place_all
  all_led asked [] f g same is = led (Ok f.placed) f g f refl refl (same_Ok f g is)
  all_led asked (s ∷ later) f g same is =
      both_ok (place_followed s f) (follow_all later) g is (λ there first rest.
      let one = followed_led s f there first in
      let more = all_led asked later there g (one.asked ∙ same) rest in
      record {
        placed = ap (λ r. r >>= place_all (map (placed_part asked) later)) (ap (λ b. place (placed_part b s) f.placed) (sym same) ∙ one.placed) ∙ more.placed;
        asked = more.asked ∙ one.asked;
      })

  -- what is placed of statements that are followed
  pub all_placed : (statements : List TokenStatement) (f g : FollowedSource) → follow_all statements f ≡ Ok g
      → place_all (map (placed_part f.asked) statements) f.placed ≡ Ok g.placed
  all_placed statements f g is = (all_led f.asked statements f g refl is).placed

  -- and functions stay asked for, or not
  pub all_asked : (statements : List TokenStatement) (f g : FollowedSource) → follow_all statements f ≡ Ok g → g.asked ≡ f.asked
  all_asked statements f g is = (all_led f.asked statements f g refl is).asked

-- WHERE NOTHING IS ASKED

unasked_step : (answer : Result Placed FaultAt) (f : FollowedSource) (later : List TokenStatement)
    → ((x : Placed) → follow_all later (with_placed f x) ≡ (place_all later x >>= (λ after. Ok (with_placed f after))))
    → ((answer >>= (λ after. Ok (with_placed f after))) >>= follow_all later) ≡ ((answer >>= place_all later) >>= (λ after. Ok (with_placed f after)))
unasked_step (Ok x) f later again = again x
unasked_step (Err fault) f later again = refl

-- where functions are not asked for, statements are placed, and nothing else
pub unasked : (statements : List TokenStatement) (f : FollowedSource) → f.asked ≡ false
    → follow_all statements f ≡ (place_all statements f.placed >>= (λ after. Ok (with_placed f after)))
unfolding follow_all place_all place_followed
unasked [] f none = refl
unasked (s ∷ later) f none =
    ap (λ b. cond b (remarked f (statement_followed s f)) (place s f.placed >>= (λ after. Ok (with_placed f after))) >>= follow_all later) none
    ∙ unasked_step (place s f.placed) f later (λ x. unasked later (with_placed f x) none)

-- IN ORDER

module _ {S F : Type 0} (step : S → TokenStatement → Result S F) where
  stopped : (fault : F) (statements : List TokenStatement) → fold (placed_next step) (Err fault) statements ≡ Err fault
  stopped fault [] = refl
  stopped fault (s ∷ later) = stopped fault later

behind_one : (answer : Result FollowedSource FaultAt) (later : List TokenStatement)
    → ((x : FollowedSource) → placed_in_order (λ f s. place_followed s f) x later ≡ follow_all later x)
    → fold (placed_next (λ f s. place_followed s f)) answer later ≡ (answer >>= follow_all later)
unfolding placed_in_order
behind_one (Ok x) later in_turn = in_turn x
behind_one (Err fault) later in_turn = stopped (λ f s. place_followed s f) fault later

-- statements that are followed as they are handed out are followed in order
pub in_order : (statements : List TokenStatement) (before : FollowedSource) → placed_in_order (λ f s. place_followed s f) before statements ≡ follow_all statements before
unfolding placed_in_order follow_all
in_order [] before = refl
in_order (s ∷ later) before = behind_one (place_followed s before) later (in_order later)

-- FAULTS

-- the fault is not that a file is too large
abbrev Apart : FaultAt → Type 0
Apart stop = is_file_too_large stop.fault ≡ false

-- nor is that of an answer
abbrev IsApart : {A : Type 0} → Result A FaultAt → Type 0
IsApart answer = (stop : FaultAt) → answer ≡ Err stop → Apart stop

ok_apart : {A : Type 0} (x : A) → IsApart (Ok x)
ok_apart x stop is = cc

then_apart : {A B : Type 0} (r : Result A FaultAt) (f : A → Result B FaultAt) → IsApart r → ((x : A) → IsApart (f x)) → IsApart (r >>= f)
then_apart (Ok x) f first later stop is = later x stop is
then_apart (Err fault) f first later stop is = IfErr-at_err Apart is (first fault refl)

remarked_apart : (f : FollowedSource) (answer : Result FollowedSource FaultAt) → IsApart answer → IsApart (remarked f answer)
remarked_apart f (Ok more) apart stop is = cc
remarked_apart f (Err fault) apart stop is = IfErr-at_err Apart is (apart fault refl)

module _ (placing : (statements : List TokenStatement) (before : Placed) (stop : FaultAt) → place_all statements before ≡ Err stop → is_file_too_large stop.fault ≡ false) where
  alone : (s : TokenStatement) (before : Placed) (stop : FaultAt) → place s before ≡ Err stop → place_all (s ∷ []) before ≡ Err stop
  unfolding place_all
  alone s before stop is = ap (λ r. r >>= place_all []) is

  place_apart : (s : TokenStatement) (before : Placed) → IsApart (place s before)
  place_apart s before stop is = placing (s ∷ []) before stop (alone s before stop is)

  stepped_apart : (s : TokenStatement) (change : Placed → Placed → List (Recorded SeenItem) → List (Recorded SeenItem)) (f : FollowedSource) → IsApart (stepped s change f)
  stepped_apart s change f =
      then_apart (place s f.placed) (λ after. Ok (with_functions f after (change f.placed after f.functions))) (place_apart s f.placed)
      (λ after. ok_apart (with_functions f after (change f.placed after f.functions)))

  split_apart : (pos : Pos) (f : FollowedSource) (after : Placed) (functions : Option (List (Recorded SeenItem))) → IsApart (unless_split pos f after functions)
  split_apart pos f after (Some functions) stop is = ok_apart (with_functions f after functions) stop is
  split_apart pos f after None stop is = IfErr-at_err Apart is refl

  directive_apart : (frame : Bool) (found : Directive) (s : TokenStatement) (f : FollowedSource)
      → IsApart (cond frame (Ok (ignored_by (place_of s) f)) (stepped s (follow_directive found (place_of s) (drop 1 s.tokens)) f))
  directive_apart true found s f = ok_apart (ignored_by (place_of s) f)
  directive_apart false found s f = stepped_apart s (follow_directive found (place_of s) (drop 1 s.tokens)) f

  body_apart : (kind : Body) (s : TokenStatement) (f : FollowedSource) → IsApart (body_followed kind s f)
  body_apart body.Nothing s f = stepped_apart s (λ there after functions. functions) f
  body_apart body.Assignment s f = stepped_apart s (λ there after functions. functions) f
  body_apart (body.Directed None) s f = stepped_apart s (λ there after functions. functions) f
  body_apart (body.Directed (Some found)) s f = directive_apart (is_frame found) found s f
  body_apart body.Instruction s f =
      then_apart (place s f.placed) (λ after. unless_split (place_of s) f after (follow_insn (place_of s) s.tokens f.placed after f.functions)) (place_apart s f.placed) (λ after. split_apart (place_of s) f after (follow_insn (place_of s) s.tokens f.placed after f.functions))
  body_apart body.Unknown s f = stepped_apart s (λ there after functions. functions) f

  statement_apart : (s : TokenStatement) (f : FollowedSource) → IsApart (statement_followed s f)
  unfolding statement_followed
  statement_apart s f =
      let kind = body_of (behind_labels s.tokens) in
      then_apart (labels_followed s f) (body_followed kind (back s))
      (stepped_apart (front s) (λ before there. labels_begun (place_of s) (labels_of s.tokens) before) f) (λ there. body_apart kind (back s) there)

  followed_apart : (asked : Bool) (s : TokenStatement) (f : FollowedSource)
      → IsApart (cond asked (remarked f (statement_followed s f)) (place s f.placed >>= (λ after. Ok (with_placed f after))))
  followed_apart true s f = remarked_apart f (statement_followed s f) (statement_apart s f)
  followed_apart false s f = then_apart (place s f.placed) (λ after. Ok (with_placed f after)) (place_apart s f.placed) (λ after. ok_apart (with_placed f after))

  -- no fault of one statement says that a file is too large
  pub one_apart : (s : TokenStatement) (f : FollowedSource) (stop : FaultAt) → place_followed s f ≡ Err stop → is_file_too_large stop.fault ≡ false
  unfolding place_followed
  one_apart s f stop is = followed_apart f.asked s f stop is

  -- nor does any of following
  pub all_apart : (statements : List TokenStatement) (f : FollowedSource) (stop : FaultAt) → follow_all statements f ≡ Err stop → is_file_too_large stop.fault ≡ false
  unfolding follow_all place_followed
  all_apart [] f stop is = cc
  all_apart (s ∷ later) f stop is =
      then_apart (place_followed s f) (follow_all later) (followed_apart f.asked s f) (λ there. all_apart later there) stop is
