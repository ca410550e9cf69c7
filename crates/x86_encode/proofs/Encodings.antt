-- The encoding of an instruction gives the least bytes that mean it, their fields, and why there are none.
use Rattle.std.proofs.Common.{◌≡◌, ◌^◌, ◌||◌, ◌∙◌, Bool, None, Option, Some, ap, false, is_some, refl, subst, sym, true, ℕ, Result}
use Rattle.x86_insn.specs.declared.insns.Mnemonic.{Mnemonic}
use Rattle.x86_insn.specs.declared.insns.Insn.{Insn}
use Rattle.x86_insn.specs.declared.amounts.Values.{Values}
use Rattle.x86_parts.specs.declared.encoded.EncodeFault.{EncodeFault}
use Rattle.x86_insn.specs.Views.{View, view_of}
use Rattle.x86_table.specs.Reads.{is_known}
use Rattle.x86_encode.specs.Answers.{Encodes, Fills, Notes, Placed}
use Rattle.x86_parts.specs.Codes.{named, name_meant, meant}
use Rattle.x86_encode.specs.Encoding.{RowCoding, coding_of, is_coded, is_coded_with, is_form, unknown_fault, value_fault, fault_by, fault_of, encoding_by, encoding_of}
use Rattle.x86_encode.specs.Faults.{with_values, Coded, HasForm, Causes, HasCause}
use Rattle.x86_parts.specs.Filling.{Coding}
use Rattle.x86_encode.proofs.Coded.{coding_answers}
use Rattle.x86_encode.proofs.Forms.{form_by, none_unknown}
use Rattle.x86_encode.proofs.Search.{meant_is}
use Rattle.x86_encode.proofs.Turning.{Answers}

-- WHAT IT GIVES

encodes_by : (shape : Values → View) (values : Values) (insn : View) (o : Option RowCoding) → Answers insn o
    → Encodes insn (encoding_by shape values o)
encodes_by shape values insn None k = k
encodes_by shape values insn (Some m) k = (m.row, k.code)

fills_by : (shape : Values → View) (values : Values) (insn : View) (o : Option RowCoding) → Answers insn o → Fills insn (encoding_by shape values o)
fills_by shape values insn None k = tt
fills_by shape values insn (Some m) k = k.fields

notes_by : (shape : Values → View) (values : Values) (insn : View) (o : Option RowCoding) → Answers insn o → Notes insn (encoding_by shape values o)
notes_by shape values insn None k = tt
notes_by shape values insn (Some m) k = k.notes

placed_by : (shape : Values → View) (values : Values) (insn : View) (o : Option RowCoding) → Answers insn o → Placed insn (encoding_by shape values o)
placed_by shape values insn None k = tt
placed_by shape values insn (Some m) k = (k.moved, k.held)

pub encodes : (shape : Values → View) (values : Values) → Encodes (meant (shape values)) (encoding_of shape values)
unfolding encoding_of
encodes shape values = encodes_by shape values (meant (shape values)) (coding_of (meant (shape values))) (coding_answers (meant (shape values)))

pub fills : (shape : Values → View) (values : Values) → Fills (meant (shape values)) (encoding_of shape values)
unfolding encoding_of
fills shape values = fills_by shape values (meant (shape values)) (coding_of (meant (shape values))) (coding_answers (meant (shape values)))

pub notes : (shape : Values → View) (values : Values) → Notes (meant (shape values)) (encoding_of shape values)
unfolding encoding_of
notes shape values = notes_by shape values (meant (shape values)) (coding_of (meant (shape values))) (coding_answers (meant (shape values)))

pub placed : (shape : Values → View) (values : Values) → Placed (meant (shape values)) (encoding_of shape values)
unfolding encoding_of
placed shape values = placed_by shape values (meant (shape values)) (coding_of (meant (shape values))) (coding_answers (meant (shape values)))

-- WHY THERE IS NONE

coded_by : (insn : View) (o : Option RowCoding) → Answers insn o → Coded (is_some o) insn
coded_by insn None k = k
coded_by insn (Some m) k = (m.coding.bytes, m.row, k.code.codes)

is_coded_so : (insn : View) → Coded (is_coded insn) insn
is_coded_so insn = coded_by insn (coding_of insn) (coding_answers insn)

coded_so : (insn : Insn) (held : Option ℕ) → Coded (is_coded_with (view_of insn) held) (with_values insn held (Some 0))
coded_so insn held = is_coded_so (with_values insn held (Some 0))

either_form : (insn : Insn) (a b : Bool) → Coded a (with_values insn (Some 1) (Some 0)) → Coded b (with_values insn (Some (2 ^ 63)) (Some 0))
    → HasForm (a || b) insn
either_form insn true b h k = (Some 1, Some 0, refl, h)
either_form insn false b h k = form_by b insn k h

form_so : (insn : Insn) → HasForm (is_form (view_of insn)) insn
form_so insn = either_form insn (is_coded_with (view_of insn) (Some 1)) (is_coded_with (view_of insn) (Some (2 ^ 63))) (coded_so insn (Some 1)) (coded_so insn (Some (2 ^ 63)))

unknown_cause : (insn : Insn) (values : Values) (b : Bool) → values.immediate ≡ None → HasForm true insn
    → Coded b (with_values insn None (Some 0)) → Causes insn values (unknown_fault b)
unknown_cause insn values true e f k = (None, Some 0, sym (ap is_known e), k)
unknown_cause insn values false e f k = (e, (f, none_unknown insn k))

value_cause : (insn : Insn) (values : Values) (held : Option ℕ) → values.immediate ≡ held → HasForm true insn
    → Causes insn values (value_fault (view_of insn) held)
value_cause insn values None e f = unknown_cause insn values (is_coded_with (view_of insn) None) e f (coded_so insn None)
value_cause insn values (Some v) e f = (f.0, f.1, f.2 ∙ sym (ap is_known e), f.3)

cause_by : (insn : Insn) (values : Values) (b : Bool) → HasForm b insn → Causes insn values (fault_by b (view_of insn) values.immediate)
cause_by insn values true f = value_cause insn values values.immediate refl f
cause_by insn values false f = f

fault_cause : (insn : Insn) (values : Values) → Causes insn values (fault_of (view_of insn) values)
unfolding fault_of
fault_cause insn values = cause_by insn values (is_form (view_of insn)) (form_so insn)

has_cause_by : (insn : Insn) (values : Values) (o : Option RowCoding) → HasCause insn values (encoding_by (view_of insn) values o)
has_cause_by insn values None = fault_cause insn values
has_cause_by insn values (Some m) = tt

pub has_cause : (insn : Insn) (values : Values) → HasCause insn values (encoding_of (view_of insn) values)
unfolding encoding_of
has_cause insn values = has_cause_by insn values (coding_of (meant (view_of insn values)))

-- THE PROGRAM'S ANSWER

-- what is made of the instruction by the name that is meant is its encoding
pub encoding_is : (shape : Values → View) (values : Values) (name : Mnemonic) (o : Option RowCoding) → name.0 ≡ name_meant (shape values)
    → coding_of (named name (shape values)) ≡ o
    → encoding_of shape values ≡ encoding_by shape values o
unfolding encoding_of
encoding_is shape values name o e h = ap (λ (v : View). encoding_by shape values (coding_of v)) (sym (meant_is name (shape values) e)) ∙ ap (λ (x : Option RowCoding). encoding_by shape values x) h

-- whether some bytes mean it
pub is_coded_by : (name : Mnemonic) (insn : View) (o : Option RowCoding) → name.0 ≡ name_meant insn → coding_of (named name insn) ≡ o
    → is_coded (meant insn) ≡ is_some o
is_coded_by name insn o e h = ap (λ (v : View). is_some (coding_of v)) (sym (meant_is name insn e)) ∙ ap (λ (x : Option RowCoding). is_some x) h

-- what is so of an answer
pub record Answered (insn : Insn) (values : Values) (answer : Result Coding EncodeFault) : Type 0 where
  pub code : Encodes (meant (view_of insn values)) answer
  pub fields : Fills (meant (view_of insn values)) answer
  pub positions : Placed (meant (view_of insn values)) answer
  pub notes : Notes (meant (view_of insn values)) answer
  pub cause : HasCause insn values answer

-- it is so of the encoding
pub answered_so : (insn : Insn) (values : Values) (answer : Result Coding EncodeFault) → encoding_of (view_of insn) values ≡ answer
    → Answered insn values answer
answered_so insn values answer e = subst (λ (a : Result Coding EncodeFault). Answered insn values a) e (record {
  code = encodes (view_of insn) values;
  fields = fills (view_of insn) values;
  positions = placed (view_of insn) values;
  notes = notes (view_of insn) values;
  cause = has_cause insn values;
})
