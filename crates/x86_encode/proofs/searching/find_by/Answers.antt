use Rattle.std.proofs.Common.{rules, ◌≡◌, ◌∙◌, sym, subst, true, false, refl, arith}
use Rattle.x86_insn.specs.Views.{view_of}
use Rattle.x86_table.specs.Fields.{fields_of}
use Rattle.x86_table.specs.Fits.{fields_fit}
use Rattle.x86_parts.specs.Building.{shows}
use Rattle.x86_parts.specs.Codes.{named}
use Rattle.x86_parts.specs.Keys.{is_reached}
use Rattle.x86_encode.proofs.Search.{built_named, no_fit, too_long, not_shown, offered, steps_not, steps_longer, steps_shorter, steps_reached}
use Rattle.x86_encode.proofs.searching.find_by.Goals as goal

pub returns-then-is_reached : goal.returns-then-is_reached
returns-then-is_reached c = steps_reached (named c.args.name (view_of c.args.insn.now c.args.values.now)) c.args.row.now c.args.index c.args.found.now
    (subst (λ x. is_reached c.args.found.now x ≡ true) c.requires.keyed (sym c.is_reached.ensures ∙ c.if-is_reached.true))

pub returns-then-not-parts_fit : goal.returns-then-not-parts_fit
returns-then-not-parts_fit c =
    let e = c.built-parts.ensures ∙ sym (built_named c.args.name c.args.row.now (view_of c.args.insn.now c.args.values.now)) in
    let f : fields_fit c.args.row.now (fields_of c.built-parts.result) ≡ false = search rules in
    steps_not (named c.args.name (view_of c.args.insn.now c.args.values.now)) c.args.row.now c.args.index c.args.found.now (no_fit c.args.row.now (named c.args.name (view_of c.args.insn.now c.args.values.now)) (fields_of c.built-parts.result) e f)

pub returns-then-length-gt15 : goal.returns-then-length-gt15
returns-then-length-gt15 c =
    let e = c.built-parts.ensures ∙ sym (built_named c.args.name c.args.row.now (view_of c.args.insn.now c.args.values.now)) in
    steps_not (named c.args.name (view_of c.args.insn.now c.args.values.now)) c.args.row.now c.args.index c.args.found.now (too_long c.args.row.now (named c.args.name (view_of c.args.insn.now c.args.values.now)) (fields_of c.built-parts.result) c.length_of-length.result e c.length_of-length.ensures.value (omega arith))

pub returns-then-is_reached-2 : goal.returns-then-is_reached-2
returns-then-is_reached-2 c =
    let e = c.built-parts.ensures ∙ sym (built_named c.args.name c.args.row.now (view_of c.args.insn.now c.args.values.now)) in
    steps_longer (named c.args.name (view_of c.args.insn.now c.args.values.now)) c.args.row.now c.args.index c.args.found.now (fields_of c.built-parts.result) c.length_of-length.result e c.length_of-length.ensures.value (sym c.is_reached-2.ensures ∙ c.if-is_reached-2.true)

pub returns-then-shows : goal.returns-then-shows
returns-then-shows c =
    let e = c.built-parts.ensures ∙ sym (built_named c.args.name c.args.row.now (view_of c.args.insn.now c.args.values.now)) in
    let f : fields_fit c.args.row.now (fields_of c.built-parts.result) ≡ true = search rules in
    let s : shows c.args.row.now (fields_of c.built-parts.result) (named c.args.name (view_of c.args.insn.now c.args.values.now)) ≡ true = search rules in
    steps_shorter (named c.args.name (view_of c.args.insn.now c.args.values.now)) c.args.row.now c.args.index c.args.found.now _
    (offered c.args.row.now (named c.args.name (view_of c.args.insn.now c.args.values.now)) c.args.index _ (fields_of c.built-parts.result) c.length_of-length.result refl refl refl e c.length_of-length.ensures.value f (omega arith) s)
    (sym c.is_reached-2.ensures ∙ c.if-is_reached-2.false)

pub returns-else-shows : goal.returns-else-shows
returns-else-shows c =
    let e = c.built-parts.ensures ∙ sym (built_named c.args.name c.args.row.now (view_of c.args.insn.now c.args.values.now)) in
    let s : shows c.args.row.now (fields_of c.built-parts.result) (named c.args.name (view_of c.args.insn.now c.args.values.now)) ≡ false = search rules in
    steps_not (named c.args.name (view_of c.args.insn.now c.args.values.now)) c.args.row.now c.args.index c.args.found.now (not_shown c.args.row.now (named c.args.name (view_of c.args.insn.now c.args.values.now)) (fields_of c.built-parts.result) e s)
