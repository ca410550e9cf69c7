-- The file was read, or is too large.
use Rattle.std.proofs.Common.{◌≡◌, inl, inr, length, List, [], ◌∷◌, ℕ, Option, Ok, Err, refl, sym, ap, ◌∙◌, subst, append-nil, string_bytes}
use Rattle.asm_base.specs.History.{happened, whole_file}
use Rattle.asm_base.specs.WholeFile.{HasReadCause, ReadsName, TakesBytes}
use Rattle.asm_base.specs.declared.reading.TextFault.{TextFault}
use Rattle.asm_base.specs.declared.reading.TextFault.TheVariants.{TooLarge}
use Rattle.asm_lines.specs.Statements.{statements_of}
use Rattle.macro_words.specs.declared.causes.MacroCause.TheVariants.{FileTooLarge}
use Rattle.macro_words.specs.Files.{in_file}
use Rattle.macro_blocks.specs.Frames.{level_of}
use Rattle.asm_macro.specs.Expansion.{under}
use Rattle.asm_macro.specs.declared.faults.ExpandFault.TheVariants.{Expansion, Read, NoMemory}
use Rattle.asm_macro.specs.Readings.{input_by}
use Rattle.asm_macro.specs.Turning.{IsOpened, state_of}
use Rattle.asm_macro.proofs.FileFronts.{all_begun, one_begun}
use Rattle.asm_macro.proofs.FilesGrow.{name_starts}
use Rattle.asm_macro.proofs.Opened.{opened, opened_uses, read_one, text_stopped, read_becomes, too_large_becomes, breaks_so}
use Rattle.asm_macro.proofs.expander.Expander.read_file.Goals as goal

pub returns-in-Ok-add-clause-turn : goal.returns-in-Ok-add-clause-turn
returns-in-Ok-add-clause-turn g c =
    let state = state_of c.args.self.now in
    let level = level_of c.args.frame.now in
    let name = string_bytes c.args.name in
    let told = g.I.Inputs.contents c.args.ins.now in
    let rest = g.I.Inputs.rest c.read_text.new.ins in
    let Reads : List ℕ → Type 0 = λ n. ReadsName told n (Ok c.in-Ok.text) rest in
    let Opens : ℕ → Type 0 = λ n. IsOpened c.open_file.result level.call_number n (in_file (statements_of n c.in-Ok.text)) in
    let number : c.call_number.result ≡ level.call_number = c.call_number.ensures in
    let Opened : Option ℕ → Type 0 = λ n. IsOpened c.open_file.result n c.len-file.result (in_file (statements_of c.len-file.result c.in-Ok.text)) in
    opened c.open_file.result level.call_number (in_file (statements_of (length state.files) c.in-Ok.text)) _ name level state _
    (subst Opens c.len-file.ensures (subst Opened number c.open_file.ensures))
    (read_becomes level.call_number told name c.in-Ok.text rest (under level state) (subst Reads c.deref.ensures c.in-Ok.ensures.text))
    (ap (λ files. record state { files = files }) c.in-Ok-add.ensures.ok)

pub returns-in-Ok-add-2-clause-turn : goal.returns-in-Ok-add-2-clause-turn
returns-in-Ok-add-2-clause-turn g c =
    let state = state_of c.args.self.now in
    let level = level_of c.args.frame.now in
    let name = string_bytes c.args.name in
    let told = g.I.Inputs.contents c.args.ins.now in
    let rest = g.I.Inputs.rest c.read_text.new.ins in
    let Reads : List ℕ → Type 0 = λ n. ReadsName told n (Err TooLarge) rest in
    let Faults : TextFault → Type 0 = λ fault. ReadsName told c.deref.result.now (Err fault) rest in
    breaks_so _ name (record { cause = FileTooLarge; line = 1 }) state.files _ FileTooLarge (record { file = c.len-file.result; line = 1 })
    (too_large_becomes (level_of c.args.frame.now).call_number told name rest (under level state) (subst Reads c.deref.ensures (subst Faults c.in-Err-TooLarge.field-0-is c.in-Err-TooLarge.ensures.text)))
    refl
    (ap (λ n. record { file = n; line = 1 }) (sym c.len-file.ensures))
    c.in-Ok-add-2.ensures.ok

pub returns-in-Ok-add-clause-input : goal.returns-in-Ok-add-clause-input
returns-in-Ok-add-clause-input g c =
    let level = level_of c.args.frame.now in
    let state = under level (state_of c.args.self.now) in
    let name = string_bytes c.args.name in
    let told = g.I.Inputs.contents c.args.ins.now in
    opened_uses c.open_file.result c.call_number.result c.len-file.result (statements_of c.len-file.result c.in-Ok.text) _ c.args.self.now.files _ name
    (input_by g.I.Inputs.contents g.I.Inputs.rest g.I.Inputs.faults g.I.Inputs.missing g.I.Inputs.taken g.I.Inputs.history c.args.ins.now)
    (input_by g.I.Inputs.contents g.I.Inputs.rest g.I.Inputs.faults g.I.Inputs.missing g.I.Inputs.taken g.I.Inputs.history c.read_text.new.ins)
    c.open_file.ensures (name_starts level.call_number name told state) c.in-Ok-add.ensures.ok
    (read_one name c.deref.result.now (Ok c.in-Ok.text) _ _ c.deref.ensures c.in-Ok.ensures.contents c.in-Ok.ensures.taken c.in-Ok.ensures.front)
    (subst (λ n. g.I.Inputs.history c.read_text.new.ins ≡ happened (g.I.Inputs.history c.args.ins.now) (whole_file n)) c.deref.ensures c.in-Ok.ensures.history)
    c.in-Ok.ensures.cause (elim c.in-Ok.ensures.unchanged [ inl e ↦ absurd cc | inr same ↦ same ]) c.in-Ok.ensures.whole

pub returns-in-Err-clause-input : goal.returns-in-Err-clause-input
returns-in-Err-clause-input g c =
    let level = level_of c.args.frame.now in
    let state = under level (state_of c.args.self.now) in
    let name = string_bytes c.args.name in
    let told = g.I.Inputs.contents c.args.ins.now in
    text_stopped NoMemory (Ok c.in-Ok.text) level.call_number told state _ [] name c.deref.result.now
    (input_by g.I.Inputs.contents g.I.Inputs.rest g.I.Inputs.faults g.I.Inputs.missing g.I.Inputs.taken g.I.Inputs.history c.args.ins.now)
    (input_by g.I.Inputs.contents g.I.Inputs.rest g.I.Inputs.faults g.I.Inputs.missing g.I.Inputs.taken g.I.Inputs.history c.read_text.new.ins)
    c.deref.ensures (one_begun name) (c.in-Err.ensures.err ∙ sym (append-nil c.args.self.now.files)) c.in-Ok.ensures.contents c.in-Ok.ensures.taken c.in-Ok.ensures.front c.in-Ok.ensures.missing
    c.in-Ok.ensures.cause (elim c.in-Ok.ensures.unchanged [ inl e ↦ absurd cc | inr same ↦ same ]) tt

pub returns-in-Ok-add-2-clause-input : goal.returns-in-Ok-add-2-clause-input
returns-in-Ok-add-2-clause-input g c =
    let level = level_of c.args.frame.now in
    let state = under level (state_of c.args.self.now) in
    let name = string_bytes c.args.name in
    let told = g.I.Inputs.contents c.args.ins.now in
    text_stopped (Expansion FileTooLarge (record { file = c.len-file.result; line = 1 })) (Err c.in-Err-TooLarge.field-0) level.call_number told state _ (name ∷ []) name c.deref.result.now
    (input_by g.I.Inputs.contents g.I.Inputs.rest g.I.Inputs.faults g.I.Inputs.missing g.I.Inputs.taken g.I.Inputs.history c.args.ins.now)
    (input_by g.I.Inputs.contents g.I.Inputs.rest g.I.Inputs.faults g.I.Inputs.missing g.I.Inputs.taken g.I.Inputs.history c.read_text.new.ins)
    c.deref.ensures (all_begun (name ∷ [])) c.in-Ok-add-2.ensures.ok c.in-Err-TooLarge.ensures.contents c.in-Err-TooLarge.ensures.taken c.in-Err-TooLarge.ensures.front c.in-Err-TooLarge.ensures.missing
    (subst (λ f. HasReadCause {T = List ℕ} (Err f) (g.I.Inputs.faults c.args.ins.now) (g.I.Inputs.faults c.read_text.new.ins)) c.in-Err-TooLarge.field-0-is c.in-Err-TooLarge.ensures.cause) (elim c.in-Err-TooLarge.ensures.unchanged [ inl e ↦ let is = c.in-Err-TooLarge.field-0-is in absurd cc | inr same ↦ same ]) (λ e. (subst (λ f. TakesBytes (Err f) (g.I.Inputs.taken c.args.ins.now) (g.I.Inputs.taken c.read_text.new.ins)) c.in-Err-TooLarge.field-0-is c.in-Err-TooLarge.ensures.taken).0)

pub returns-in-Err-add-clause-input : goal.returns-in-Err-add-clause-input
returns-in-Err-add-clause-input g c =
    let level = level_of c.args.frame.now in
    let state = under level (state_of c.args.self.now) in
    let name = string_bytes c.args.name in
    let told = g.I.Inputs.contents c.args.ins.now in
    text_stopped NoMemory (Err c.in-Err-TooLarge.field-0) level.call_number told state _ [] name c.deref.result.now
    (input_by g.I.Inputs.contents g.I.Inputs.rest g.I.Inputs.faults g.I.Inputs.missing g.I.Inputs.taken g.I.Inputs.history c.args.ins.now)
    (input_by g.I.Inputs.contents g.I.Inputs.rest g.I.Inputs.faults g.I.Inputs.missing g.I.Inputs.taken g.I.Inputs.history c.read_text.new.ins)
    c.deref.ensures (one_begun name) (c.in-Err-add.ensures.err ∙ sym (append-nil c.args.self.now.files)) c.in-Err-TooLarge.ensures.contents c.in-Err-TooLarge.ensures.taken c.in-Err-TooLarge.ensures.front c.in-Err-TooLarge.ensures.missing
    (subst (λ f. HasReadCause {T = List ℕ} (Err f) (g.I.Inputs.faults c.args.ins.now) (g.I.Inputs.faults c.read_text.new.ins)) c.in-Err-TooLarge.field-0-is c.in-Err-TooLarge.ensures.cause) (elim c.in-Err-TooLarge.ensures.unchanged [ inl e ↦ let is = c.in-Err-TooLarge.field-0-is in absurd cc | inr same ↦ same ]) tt

pub returns-in-Err-Read-clause-input : goal.returns-in-Err-Read-clause-input
returns-in-Err-Read-clause-input g c =
    let level = level_of c.args.frame.now in
    let state = under level (state_of c.args.self.now) in
    let name = string_bytes c.args.name in
    let told = g.I.Inputs.contents c.args.ins.now in
    text_stopped Read (Err c.in-Err-Read.field-0) level.call_number told state _ [] name c.deref.result.now
    (input_by g.I.Inputs.contents g.I.Inputs.rest g.I.Inputs.faults g.I.Inputs.missing g.I.Inputs.taken g.I.Inputs.history c.args.ins.now)
    (input_by g.I.Inputs.contents g.I.Inputs.rest g.I.Inputs.faults g.I.Inputs.missing g.I.Inputs.taken g.I.Inputs.history c.read_text.new.ins)
    c.deref.ensures (one_begun name) (sym (append-nil c.args.self.now.files)) c.in-Err-Read.ensures.contents c.in-Err-Read.ensures.taken c.in-Err-Read.ensures.front c.in-Err-Read.ensures.missing
    (subst (λ f. HasReadCause {T = List ℕ} (Err f) (g.I.Inputs.faults c.args.ins.now) (g.I.Inputs.faults c.read_text.new.ins)) c.in-Err-Read.field-0-is c.in-Err-Read.ensures.cause) tt tt

pub returns-in-Err-NoMemory-clause-input : goal.returns-in-Err-NoMemory-clause-input
returns-in-Err-NoMemory-clause-input g c =
    let level = level_of c.args.frame.now in
    let state = under level (state_of c.args.self.now) in
    let name = string_bytes c.args.name in
    let told = g.I.Inputs.contents c.args.ins.now in
    text_stopped NoMemory (Err c.in-Err-NoMemory.field-0) level.call_number told state _ [] name c.deref.result.now
    (input_by g.I.Inputs.contents g.I.Inputs.rest g.I.Inputs.faults g.I.Inputs.missing g.I.Inputs.taken g.I.Inputs.history c.args.ins.now)
    (input_by g.I.Inputs.contents g.I.Inputs.rest g.I.Inputs.faults g.I.Inputs.missing g.I.Inputs.taken g.I.Inputs.history c.read_text.new.ins)
    c.deref.ensures (one_begun name) (sym (append-nil c.args.self.now.files)) c.in-Err-NoMemory.ensures.contents c.in-Err-NoMemory.ensures.taken c.in-Err-NoMemory.ensures.front c.in-Err-NoMemory.ensures.missing
    (subst (λ f. HasReadCause {T = List ℕ} (Err f) (g.I.Inputs.faults c.args.ins.now) (g.I.Inputs.faults c.read_text.new.ins)) c.in-Err-NoMemory.field-0-is c.in-Err-NoMemory.ensures.cause) (elim c.in-Err-NoMemory.ensures.unchanged [ inl e ↦ let is = c.in-Err-NoMemory.field-0-is in absurd cc | inr same ↦ same ]) tt
