use Rattle.std.proofs.Common.{◌≡◌, ℕ, Bool, List, length, refl, sym, subst, ap, ◌∙◌}
use Rattle.number_sets.specs.Trees.{has_in, listed, IsShaped}
use Rattle.number_sets.proofs.ListedLemmas.{fewer_both, both_listed, within_listed, length_listed}
use Rattle.number_sets.proofs.sets.NumberSet.meet_same.Goals as goal

-- lists that are as long as one another list as many
same_width : (one other : ℕ → Bool) (n m : ℕ) (xs ys : List Bool) → listed one n ≡ xs → listed other m ≡ ys → length xs ≡ length ys → n ≡ m
same_width one other n m xs ys e f same = sym (length_listed one n) ∙ ap length e ∙ same ∙ ap length (sym f) ∙ length_listed other m

pub is_within-requires-clause-other : goal.is_within-requires-clause-other
is_within-requires-clause-other c =
    let one = c.self.inside in
    let other = c.other.inside in
    let same = same_width (has_in one.root.value one.width) (has_in other.root.value other.width) one.width other.width c.args.self.now c.args.other.now c.self.view_is c.other.view_is c.requires in
    subst (IsShaped other.root.value) (sym same) c.other.invariant

pub both-requires-clause-other : goal.both-requires-clause-other
both-requires-clause-other c =
    let one = c.self.inside in
    let other = c.other.inside in
    let same = same_width (has_in one.root.value one.width) (has_in other.root.value other.width) one.width other.width c.args.self.now c.args.other.now c.self.view_is c.other.view_is c.requires in
    subst (IsShaped other.root.value) (sym same) c.other.invariant

pub returns-then-is_within-clause-both : goal.returns-then-is_within-clause-both
returns-then-is_within-clause-both c = λ k.
    let one = c.self.inside in
    let other = c.other.inside in
    let same = same_width (has_in one.root.value one.width) (has_in other.root.value other.width) one.width other.width c.args.self.now c.args.other.now c.self.view_is c.other.view_is c.requires in
    let is : listed (has_in other.root.value one.width) one.width ≡ c.args.other.now = ap (λ n. listed (has_in other.root.value n) n) same ∙ c.other.view_is in
    rw (← c.self.view_is, ← is) (within_listed (has_in one.root.value one.width) (has_in other.root.value one.width) one.width one.width k refl (c.is_within.ensures.within c.if-is_within.true))

pub returns-clause-both : goal.returns-clause-both
returns-clause-both c = λ k.
    let one = c.self.inside in
    let other = c.other.inside in
    let new = c.in_ok-self-inside.field-0.value in
    let same = same_width (has_in one.root.value one.width) (has_in other.root.value other.width) one.width other.width c.args.self.now c.args.other.now c.self.view_is c.other.view_is c.requires in
    let is : listed (has_in other.root.value one.width) one.width ≡ c.args.other.now = ap (λ n. listed (has_in other.root.value n) n) same ∙ c.other.view_is in
    rw (← c.self.view_is, ← is) (both_listed (has_in one.root.value one.width) (has_in other.root.value one.width) (has_in new one.width) one.width one.width k refl c.in_ok-self-inside.ensures.each)

pub returns-clause-less : goal.returns-clause-less
returns-clause-less c = λ t.
    let one = c.self.inside in
    let other = c.other.inside in
    let new = c.in_ok-self-inside.field-0.value in
    rw (← c.self.view_is) (fewer_both (has_in one.root.value one.width) (has_in other.root.value one.width) (has_in new one.width) one.width c.in_ok-self-inside.ensures.each (c.is_within.ensures.beyond c.if-is_within.false))
