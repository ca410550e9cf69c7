-- States of a placer: those that statements come to, and those behind a fault.
use Rattle.std.proofs.Common.{◌≡◌, inl, inr, Bool, true, false, cond, List, [], ◌∷◌, ◌++◌, All, Result, Ok, Err, refl, sym, ap, ◌∙◌, subst}
use Rattle.std.proofs.lemmas.List.Elements.{All-nil}
use Rattle.asm_base.specs.Refusals.{◌>>=◌}
use Rattle.asm_lines.specs.NextStatements.{TokenStatement}
use Rattle.asm_place.specs.Sources.{place}
use Rattle.asm_place.specs.declared.place_faults.FaultAt.{FaultAt}
use Rattle.asm_values.specs.State.{Placed}
use Rattle.asm_functions.specs.FollowedSource.{FollowedSource, nothing_followed, with_placed, place_followed, follow_all}
use Rattle.asm_functions.specs.Standing.{StandsInOrder}
use Rattle.code_functions.specs.Recorded.{Recorded}
use Rattle.code_functions.specs.Seen.{all_seen}
use Rattle.code_functions.specs.declared.items.CodeItem.{CodeItem}
use Rattle.source_ends.specs.Synthesis.{FunctionsAreReady, IsReady}
use Rattle.asm_front.specs.PlacerStates.{IsOrdered}

-- nothing is placed yet
pub first_ordered : (no_warn asked : Bool) → IsOrdered (nothing_followed no_warn asked)
unfolding follow_all
first_ordered no_warn asked = inl (record { no_warn = no_warn; asked = asked; statements = []; comes = refl })

split_step : (answer : Result FollowedSource FaultAt) (xs ys : List TokenStatement) → ((f : FollowedSource) → follow_all (xs ++ ys) f ≡ (follow_all xs f >>= follow_all ys))
    → (answer >>= follow_all (xs ++ ys)) ≡ ((answer >>= follow_all xs) >>= follow_all ys)
split_step (Ok f) xs ys later = later f
split_step (Err fault) xs ys later = refl

-- all statements are the first ones and then the others
all_split : (xs ys : List TokenStatement) (f : FollowedSource) → follow_all (xs ++ ys) f ≡ (follow_all xs f >>= follow_all ys)
unfolding follow_all
all_split [] ys f = refl
all_split (s ∷ xs) ys f = split_step (place_followed s f) xs ys (all_split xs ys)

-- one statement more
one_more : (statements : List TokenStatement) (s : TokenStatement) (first f g : FollowedSource) → follow_all statements first ≡ Ok f → place_followed s f ≡ Ok g
    → follow_all (statements ++ s ∷ []) first ≡ Ok g
unfolding follow_all
one_more statements s first f g is next =
    all_split statements (s ∷ []) first ∙ ap (λ answer. answer >>= follow_all (s ∷ [])) is ∙ ap (λ answer. answer >>= follow_all []) next

-- where nothing is followed, nothing comes to be
still_none : (f g : FollowedSource) (answer : Result Placed FaultAt) → (answer >>= λ after. Ok (with_placed f after)) ≡ Ok g → f.asked ≡ false → f.functions ≡ []
    → (g.asked ≡ false) × (g.functions ≡ [])
still_none f g (Ok after) is unasked none =
    let same : with_placed f after ≡ g = cc in
    (sym (ap (λ (one : FollowedSource). one.asked) same) ∙ unasked, sym (ap (λ (one : FollowedSource). one.functions) same) ∙ none)
still_none f g (Err fault) is unasked none = absurd cc

not_asked : (asked : Bool) (followed placed : Result FollowedSource FaultAt) (g : FollowedSource) → cond asked followed placed ≡ Ok g → asked ≡ false → placed ≡ Ok g
not_asked true followed placed g is unasked = absurd cc
not_asked false followed placed g is unasked = is

-- each statement keeps it so
pub next_ordered : (s : TokenStatement) (f g : FollowedSource) → IsOrdered f → place_followed s f ≡ Ok g → IsOrdered g
unfolding place_followed
next_ordered s f g (inl come) next =
    inl (record {
      no_warn = come.no_warn;
      asked = come.asked;
      statements = come.statements ++ s ∷ [];
      comes = one_more come.statements s (nothing_followed come.no_warn come.asked) f g come.comes next;
    })
next_ordered s f g (inr none) next =
    inr (still_none f g (place s f.placed) (not_asked f.asked _ (place s f.placed >>= λ after. Ok (with_placed f after)) g next none.0) none.0 none.1)

-- the functions of each state are ready to be analyzed
abbrev pub StandAtEnd : Type 0
StandAtEnd = (statements : List TokenStatement) (no_warn asked : Bool) (f : FollowedSource) → follow_all statements (nothing_followed no_warn asked) ≡ Ok f
    → All (StandsInOrder f.placed.sections) f.functions

pub ordered_ready : FunctionsAreReady → StandAtEnd → (f : FollowedSource) (functions : List (Recorded CodeItem)) → IsOrdered f → all_seen functions ≡ f.functions → All (IsReady f.placed.sections) functions
ordered_ready ready stand f functions (inl come) is =
    ready f.placed.sections functions
    (subst (All (StandsInOrder f.placed.sections)) (sym is) (stand come.statements come.no_warn come.asked f come.comes))
ordered_ready ready stand f functions (inr none) is =
    ready f.placed.sections functions (subst (All (StandsInOrder f.placed.sections)) (sym (is ∙ none.1)) (All-nil (StandsInOrder f.placed.sections)))
