-- The codes by mnemonics are the bytes of rows without operands, and these read as their instructions.
use Rattle.std.proofs.Common.{◌≡◌, ℕ, ◌&&◌, List, [], ◌∷◌, map, Bool, Option, Some, None, option_map, slice_get, refl, sym, ap, ◌∙◌, inl, inr}
use Rattle.std.proofs.lemmas.Bool.{cases_Bool}
use Rattle.std.proofs.lemmas.Option.{slice_get-map}
use Rattle.std.specs.List.{find, filter}
use Rattle.x86_table.specs.declared.forms.Row.{Row}
use Rattle.x86_table.specs.Rows.{the_rows}
use Rattle.x86_table.specs.Bytes.{bytes_of, rex_bits, rex_byte}
use Rattle.x86_lookup.specs.declared.names.Named.{Named}
use Rattle.x86_lookup.specs.Names.{the_att_names, the_att_slots, has_text, if_text, name_at, mixed, slot_at}
use Rattle.x86_lookup.specs.BareInstructions.{takes_no_operand, is_row_of, bare_row, bare_bytes, bare_coded, bare_of, bare_instruction, bare_code}
use Rattle.x86_lookup.specs.BareCodes.{the_codes, the_att_codes, code_of_number, code_of, code_if, code_at, code_by}
use Rattle.x86_lookup.proofs.NameLookups.{att_found}

some_is : {A : Type 0} {m n : A} → Some m ≡ Some n → m ≡ n
some_is h = cc

-- a search by two tests is one among what passes the first
find-filter : {X : Type 0} (p q : X → Bool) (xs : List X) → find (λ x. p x && q x) xs ≡ find q (filter p xs)
find-filter p q [] = refl
find-filter p q (x ∷ xs) = elim (cases_Bool (p x)) [
  | inl t ↦ (elim (cases_Bool (q x)) [ inl s ↦ rw (t, s) refl | inr s ↦ rw (t, s) (find-filter p q xs) ])
  | inr f ↦ rw f (find-filter p q xs)
]

-- of each mnemonic the bytes of its row among these
abbrev codes_among : List Row → List Named → List (Option (List ℕ))
codes_among rows names = map (λ named. option_map bare_bytes (find (is_row_of named) rows)) names

codes_computed : map code_of_number the_att_codes ≡ codes_among (filter takes_no_operand the_rows) the_att_names
unfolding the_codes the_att_codes the_att_names the_rows bytes_of rex_bits rex_byte
codes_computed = refl

-- the bytes of the mnemonic's row
abbrev due : Named → Option (List ℕ)
due named = option_map (λ coded. coded.bytes) (option_map bare_coded (bare_row named))

bytes_due : (found : Option Row) → option_map bare_bytes found ≡ option_map (λ coded. coded.bytes) (option_map bare_coded found)
bytes_due None = refl
bytes_due (Some r) = refl

code_due : (named : Named) → option_map bare_bytes (find (is_row_of named) (filter takes_no_operand the_rows)) ≡ due named
code_due named = ap (option_map bare_bytes) (sym (find-filter takes_no_operand (is_row_of named) the_rows)) ∙ bytes_due (bare_row named)

code_there : (i : ℕ) (named : Named) (number : Option ℕ) → slice_get the_att_names i ≡ Some named → slice_get the_att_codes i ≡ number → code_of number ≡ due named
code_there i named number there at =
    let both : option_map code_of_number (slice_get the_att_codes i) ≡ option_map (λ n. option_map bare_bytes (find (is_row_of n) (filter takes_no_operand the_rows))) (slice_get the_att_names i) =
    sym (slice_get-map code_of_number the_att_codes i) ∙ ap (λ (codes : List (Option (List ℕ))). slice_get codes i) codes_computed
    ∙ slice_get-map (λ n. option_map bare_bytes (find (is_row_of n) (filter takes_no_operand the_rows))) the_att_names i in
    let one : option_map code_of_number number ≡ Some (option_map bare_bytes (find (is_row_of named) (filter takes_no_operand the_rows))) =
    ap (option_map code_of_number) (sym at) ∙ both ∙ ap (option_map (λ n. option_map bare_bytes (find (is_row_of n) (filter takes_no_operand the_rows)))) there in
    is_code number (option_map bare_bytes (find (is_row_of named) (filter takes_no_operand the_rows))) one ∙ code_due named
  where
    is_code : (number : Option ℕ) (bytes : Option (List ℕ)) → option_map code_of_number number ≡ Some bytes → code_of number ≡ bytes
    is_code None bytes h = cc
    is_code (Some n) bytes h = some_is h

code_tested : (text : List ℕ) (i : ℕ) (named : Option Named) → slice_get the_att_names i ≡ named → code_if (if_text text named) i ≡ option_map (λ coded. coded.bytes) (bare_of (if_text text named))
code_tested text i None there = refl
code_tested text i (Some named) there = elim (cases_Bool (has_text text named)) [
  | inl t ↦ rw t (code_there i named (slice_get the_att_codes i) there refl)
  | inr f ↦ rw f refl
]

code_from : (text : List ℕ) (slot : Option ℕ) → code_at text slot ≡ option_map (λ coded. coded.bytes) (bare_of (name_at the_att_names text slot))
code_from text None = refl
code_from text (Some i) = code_tested text i (slice_get the_att_names i) refl

-- what is looked up is what the table has
pub code_found : (text : List ℕ) → code_by text ≡ bare_code text
unfolding bare_instruction
code_found text =
    code_from text (slot_at the_att_slots (mixed 0 text))
    ∙ ap (λ (named : Option Named). option_map (λ coded. coded.bytes) (bare_of named)) (att_found text)
