use Rattle.std.proofs.Common.{◌≡◌, ◌∙◌, ap₂, rules}
use Rattle.std.proofs.lemmas.Result.{IfOk-weaker}
use Rattle.clap.specs.Words.{rule_of, with_rule}
use Rattle.run_words.specs.Words.{as_app, no_warn_rule, object_rule}
use Rattle.run_words.proofs.words.as_command.Goals as goal

pub returns : goal.returns
unfolding as_app
returns c =
    let object : rule_of c.short-object.result ≡ object_rule = rw c.short-object.ensures (search (rules, c.new.ensures.rule)) in
    let no_warn : rule_of c.short-no_warn.result ≡ no_warn_rule = rw c.short-no_warn.ensures (search (rules, c.flag.ensures.rule)) in
    let one = c.in_ok-arg.ensures.shape (rw c.short-object.ensures c.new.ensures.optional.1) ∙ ap₂ with_rule c.new-2.ensures.app object in
    let two = c.in_ok-arg-2.ensures.shape c.flag-wide.ensures.local ∙ ap₂ with_rule one c.flag-wide.ensures.rule in
    let three = c.in_ok-arg-3.ensures.shape c.scfi_option-scfi.ensures.local ∙ ap₂ with_rule two c.scfi_option-scfi.ensures.rule in
    let four = c.in_ok-arg-4.ensures.shape (rw c.short-no_warn.ensures c.flag.ensures.local) ∙ ap₂ with_rule three no_warn in
    let five = c.in_ok-arg-5.ensures.shape c.flag-fatal_warnings.ensures.local ∙ ap₂ with_rule four c.flag-fatal_warnings.ensures.rule in
    let six = c.in_ok-arg-6.ensures.shape c.self_load_option-self_load.ensures.local ∙ ap₂ with_rule five c.self_load_option-self_load.ensures.rule in
    IfOk-weaker c.arg-7.result _ _ (λ r added. added.shape c.new-file.ensures.optional.1 ∙ ap₂ with_rule six c.new-file.ensures.rule) c.arg-7.ensures
