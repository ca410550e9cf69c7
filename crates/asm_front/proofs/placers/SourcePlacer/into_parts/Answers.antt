-- The functions are in order, as each state is one that statements come to.
use Rattle.std.proofs.Common.{◌≡◌, All, ap, ◌∙◌, sym, subst}
use Rattle.code_functions.specs.Seen.{all_seen}
use Rattle.asm_values.specs.State.{Placed}
use Rattle.asm_functions.specs.FollowedSource.{FollowedSource}
use Rattle.source_ends.specs.Synthesis.{IsReady}
use Rattle.asm_front.specs.declared.placers.SourcePlacer.TheInside.{Inside}
use Rattle.asm_front.proofs.OrderedStates.{ordered_ready}
use Rattle.asm_front.proofs.placers.SourcePlacer.into_parts.Goals as goal

pub returns-clause-ready : goal.returns-clause-ready
returns-clause-ready c =
    let f : FollowedSource = c.self.inside.following in
    let seen : all_seen c.functions.inside.functions ≡ f.functions =
    subst (λ (inside : Inside). all_seen c.functions.inside.functions ≡ inside.following.functions) c.self-inside.view_is c.functions.view_is in
    let same : c.into_parts-sections.result.sections ≡ f.placed.sections =
    subst (λ (inside : Inside). c.into_parts-sections.result.sections ≡ inside.following.placed.sections) c.self-inside.view_is
    (c.into_parts-sections.ensures.sections ∙ ap (λ (placed : Placed). placed.sections) c.statements.view_is) in
    subst (λ sections. All (IsReady sections) c.functions.inside.functions) (sym same)
    (ordered_ready c.functions_are_ready.ensures c.functions_stand_in_order.ensures.so_far f c.functions.inside.functions c.self.invariant seen)
