use Rattle.std.proofs.Common.{◌≡◌, ◌<◌, Some, false, true, length, sym, ap, subst, ◌∙◌, arith}
use Rattle.std.specs.Prelude.{is_some, slice_get}
use Rattle.std.proofs.lemmas.List.{length-map}
use Rattle.std.proofs.lemmas.Option.{slice_get-get_or, get_or_from_slice_get}
use Rattle.code_functions.specs.Lists.{items_in}
use Rattle.code_functions.specs.Recorded.{closed_at}
use Rattle.code_functions.specs.Spans.{recorded}
use Rattle.code_functions.proofs.SpanLemmas.{still_ended_by, ended_by}
use Rattle.code_functions.proofs.spans.Spans.end.Goals as goal

pub returns-then-is_some : goal.returns-then-is_some
returns-then-is_some g c =
    let ends = g.E.SectionEnds.ends c.args.ends.now in
    let spans = c.self.inside.all.items in
    let within : c.args.number < length spans = omega (arith, c.requires, ap length c.self.view_is, length-map spans (recorded c.self.inside.lists)) in
    let there : slice_get spans c.args.number ≡ Some c.index.result.now = slice_get-get_or spans c.args.number c.index.result.now within ∙ ap Some (sym c.index.ensures) in
    subst (λ fs. fs ≡ closed_at ends c.args.number fs) c.self.view_is
    (still_ended_by c.self.inside.lists ends spans c.args.number c.index.result.now there (sym c.is_some.ensures ∙ c.if-is_some.true))

pub returns : goal.returns
returns g c =
    let ends = g.E.SectionEnds.ends c.args.ends.now in
    let lists = c.self.inside.lists in
    let spans = c.self.inside.all.items in
    let span = c.index_mut.result.now in
    let within : c.args.number < length spans = omega (arith, c.requires, ap length c.self.view_is, length-map spans (recorded lists)) in
    let there : slice_get spans c.args.number ≡ Some span = slice_get-get_or spans c.args.number span within ∙ ap Some (sym c.index_mut.ensures.value) in
    let first : c.index.result.now ≡ span = c.index.ensures ∙ get_or_from_slice_get spans c.args.number span c.index.result.now there in
    let second : c.index-2.result.now ≡ span = c.index-2.ensures ∙ get_or_from_slice_get spans c.args.number span c.index-2.result.now there in
    let none : is_some span.end ≡ false = ap (λ s. is_some s.end) (sym first) ∙ sym c.is_some.ensures ∙ c.if-is_some.false in
    ended_by lists ends spans c.args.number span c.end_of-place.result (length c.as_slice-count.result.now) there none
    (c.end_of-place.ensures ∙ ap (λ s. ends s.section) second)
    (ap length (c.as_slice-count.ensures.items ∙ c.items.ensures) ∙ ap (λ s. length (items_in lists s.section)) second)
    ∙ ap (closed_at ends c.args.number) c.self.view_is
