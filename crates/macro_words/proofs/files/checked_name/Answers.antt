-- Bytes that are UTF-8 are a name, and others are none.
use Rattle.std.proofs.Common.{◌≡◌, true, ap, sym, ◌∙◌, subst, Ok, string_bytes}
use Rattle.std.specs.Str.{IsUtf8}
use Rattle.std.proofs.lemmas.Bool.{false≢true}
use Rattle.std.proofs.lemmas.Str.{IsUtf8-string_bytes}
use Rattle.macro_words.specs.Files.{may_name}
use Rattle.macro_words.proofs.FileNames.{text_names, no_text_names}
use Rattle.macro_words.proofs.files.checked_name.Goals as goal

pub returns-in-Ok : goal.returns-in-Ok
returns-in-Ok c =
    let same : string_bytes c.in-Ok.name ≡ c.args.name.items = ap (λ bytes. bytes.items) c.in-Ok.ensures.ok in
    let may : may_name c.args.name.items ≡ true = ap may_name (sym c.deref.ensures.value) ∙ sym c.may_name.ensures ∙ c.if-not-may_name.false in
    text_names c.args.name.items may (subst IsUtf8 same (IsUtf8-string_bytes c.in-Ok.name)) ∙ ap Ok (sym same)

pub returns : goal.returns
returns c = no_text_names c.args.name.items (λ text. false≢true (c.in-Err.ensures.succeeds text))
