-- A text is a mnemonic of a row exactly where it is one of the row's names, or one that fixes no size and the letter of the row's.
use Rattle.std.proofs.Common.{◌≡◌, ◌<◌, ◌≤◌, ℕ, ◌==◌, ◌&&◌, ◌||◌, nat_lt, nat_le, List, [], ◌∷◌, ◌++◌, Bool, true, false, not, Option, Some, None, slice_get, refl, arith, sym, ap, subst, ◌∙◌, inl, inr}
use Rattle.std.proofs.lemmas.Bool.{and_parts, and_from, or_cases, or_right, both_ways, not-true, eqb-true, eq-eqb, ltb-true, leb-true, lt-ltb, cond-false}
use Rattle.std.specs.Char.{to_ascii_lowercase}
use Rattle.std.specs.List.{list_all}
use Rattle.x86_table.specs.declared.forms.Row.{Row}
use Rattle.x86_table.specs.declared.mnemonics.integers.TheConstants.{MOV}
use Rattle.x86_table.specs.Rows.{the_rows}
use Rattle.x86_lookup.specs.declared.names.Named.{Named}
use Rattle.x86_lookup.specs.declared.ranges.RowRange.{RowRange}
use Rattle.x86_lookup.specs.Ranges.{span_of, by_size, is_in}
use Rattle.x86_lookup.specs.Names.{the_att_names, has_text, has_rows}
use Rattle.x86_lookup.specs.BareInstructions.{is_row_of}
use Rattle.x86_lookup.specs.Mnemonics.{letter_size, of_size, whole_mnemonic, IsText, whole, with_letter, is_by_source, is_or_move, names_sized, names_row, NamesRow, IsNameOf, own_name, sized_name, RowsAreNamed}
use Rattle.x86_lookup.proofs.SpanLaws.{size_rows}
use Rattle.x86_lookup.proofs.MnemonicTexts.{holds_at, whole_at, whole_found, no_name, is_text, text_found, fixed_in}

-- a mnemonic of the table that names rows of other names too fixes no size
ruled_unfixed : list_all (λ named. not (is_by_source named.rule || is_or_move named.rule) || (named.size == 0)) the_att_names ≡ true
unfolding the_att_names
ruled_unfixed = refl

by_source_so : (a b c : Bool) → (not (a || b) || c) ≡ true → (not a || c) ≡ true
by_source_so true b c h = h
by_source_so false b c h = refl

or_move_so : (a b c : Bool) → (not (a || b) || c) ≡ true → b ≡ true → c ≡ true
or_move_so true b c h t = h
or_move_so false true c h t = h
or_move_so false false c h t = cc

ruled_at : (i : ℕ) (named : Named) → slice_get the_att_names i ≡ Some named → (not (is_by_source named.rule || is_or_move named.rule) || (named.size == 0)) ≡ true
ruled_at i named e = holds_at (λ one. not (is_by_source one.rule || is_or_move one.rule) || (one.size == 0)) the_att_names i named ruled_unfixed e

-- a row of the name and the size shows that there are such
rows_there : (named : Named) (size i : ℕ) (r : Row) → slice_get the_rows i ≡ Some r → (size == 0) ≡ false → (r.name.0 == named.name.0) ≡ true → (r.size == size) ≡ true
    → has_rows (of_size named size) ≡ true
rows_there named size i r e fixes names sizes =
    let rows : RowRange = by_size (span_of named.name.0) size in
    let inside : is_in rows i ≡ true =
    size_rows named.name.0 size (span_of named.name.0) rows refl refl i r e ∙ and_from (r.name.0 == named.name.0) (r.size == size) names sizes in
    let both = and_parts (nat_le rows.start i) (nat_lt i rows.stop) inside in
    let above : rows.start ≤ i = leb-true rows.start i both.0 in
    let below : i < rows.stop = ltb-true i rows.stop both.1 in
    cond-false (size == 0) (nat_lt (span_of named.name.0).first (span_of named.name.0).quad_end) (nat_lt rows.start rows.stop) fixes
    ∙ lt-ltb rows.start rows.stop (omega arith)

-- FROM THE MNEMONIC

letter_parts : (source move fixed name size other : Bool) → fixed ≡ false → (((not source || fixed) && (name && (fixed || size))) || ((move && fixed) && other)) ≡ true
    → (source ≡ false) × (name ≡ true) × (size ≡ true)
letter_parts source move true name size other f h = cc
letter_parts true true false name size other f h = cc
letter_parts true false false name size other f h = cc
letter_parts false true false true true other f h = (refl, refl, refl)
letter_parts false true false true false other f h = cc
letter_parts false true false false size other f h = cc
letter_parts false false false true true other f h = (refl, refl, refl)
letter_parts false false false true false other f h = cc
letter_parts false false false false size other f h = cc

named_so : (text : List ℕ) (named : Named) (r : Row) → IsText text named → names_row named r ≡ true → IsNameOf text r
named_so _ _ r (whole text i named e t) names = own_name text i named r e t names
named_so _ _ r (with_letter text short letter size i named none is says fixes e t unfixed) names =
    let part = letter_parts (is_by_source named.rule) (is_or_move named.rule) (size == 0) (r.name.0 == named.name.0) (r.size == size) ((r.name.0 == MOV) && (r.size == 64)) fixes names in
    let same : r.size ≡ size = eqb-true r.size size part.2 in
    sized_name text short letter i named r is e t unfixed part.0 part.1 (subst (λ (n : ℕ). (n == 0) ≡ false) (sym same) fixes) (says ∙ sym same)

row_named : (text : List ℕ) (r : Row) → NamesRow text r → IsNameOf text r
row_named text r names = named_so text names.named r (text_found text names.named names.found) names.names

-- FROM THE NAME

letter_names : (source move fixed name size other : Bool) → source ≡ false → name ≡ true → size ≡ true
    → (((not source || fixed) && (name && (fixed || size))) || ((move && fixed) && other)) ≡ true
letter_names true move fixed name size other a b c = cc
letter_names false move fixed false size other a b c = cc
letter_names false move fixed true false other a b c = cc
letter_names false move true true true other a b c = refl
letter_names false move false true true other a b c = refl

table_names : (open_so fixed name size other : Bool) → open_so ≡ true → name ≡ true → size ≡ true → ((open_so && (name && (fixed || size))) || other) ≡ true
table_names false fixed name size other a b c = cc
table_names true fixed false size other a b c = cc
table_names true fixed true false other a b c = cc
table_names true true true true other a b c = refl
table_names true false true true other a b c = refl

-- what the table has at the name and the letter names the row
names_taken : (at i : ℕ) (named one : Named) (r : Row) → slice_get the_rows at ≡ Some r → slice_get the_att_names i ≡ Some one → (r.name.0 == named.name.0) ≡ true → (r.size == 0) ≡ false
    → names_sized named r.size one ≡ true → names_row one r ≡ true
names_taken at i named one r stands e same fixes names =
    let name : r.name.0 ≡ named.name.0 = eqb-true r.name.0 named.name.0 same in
    let first : Bool = (one.name.0 == named.name.0) && (one.size == r.size) in
    let second : Bool = is_or_move one.rule && ((named.name.0 == MOV) && (r.size == 64)) in
    elim (or_cases first (second || not (has_rows (of_size named r.size))) names) [
      | inl h ↦
          let part = and_parts (one.name.0 == named.name.0) (one.size == r.size) h in
          table_names (not (is_by_source one.rule) || (one.size == 0)) (one.size == 0) (r.name.0 == one.name.0) (r.size == one.size)
          ((is_or_move one.rule && (one.size == 0)) && ((r.name.0 == MOV) && (r.size == 64)))
          (by_source_so (is_by_source one.rule) (is_or_move one.rule) (one.size == 0) (ruled_at i one e))
          (eq-eqb r.name.0 one.name.0 (name ∙ sym (eqb-true one.name.0 named.name.0 part.0))) (eq-eqb r.size one.size (sym (eqb-true one.size r.size part.1)))
      | inr h ↦ elim (or_cases second (not (has_rows (of_size named r.size))) h) [
        | inl s ↦
            let part = and_parts (is_or_move one.rule) ((named.name.0 == MOV) && (r.size == 64)) s in
            let move = and_parts (named.name.0 == MOV) (r.size == 64) part.1 in
            let open_so : (one.size == 0) ≡ true = or_move_so (is_by_source one.rule) (is_or_move one.rule) (one.size == 0) (ruled_at i one e) part.0 in
            or_right ((not (is_by_source one.rule) || (one.size == 0)) && is_row_of one r) ((is_or_move one.rule && (one.size == 0)) && ((r.name.0 == MOV) && (r.size == 64)))
            (and_from (is_or_move one.rule && (one.size == 0)) ((r.name.0 == MOV) && (r.size == 64)) (and_from (is_or_move one.rule) (one.size == 0) part.0 open_so)
            (and_from (r.name.0 == MOV) (r.size == 64) (eq-eqb r.name.0 MOV (name ∙ eqb-true named.name.0 MOV move.0)) move.1))
        | inr none ↦ absurd (both_ways (has_rows (of_size named r.size)) (not-true (has_rows (of_size named r.size)) none)
            (rows_there named r.size at r stands fixes same (eq-eqb r.size r.size refl)))
      ]
    ]

by_found : (at : ℕ) (text short : List ℕ) (letter i : ℕ) (named : Named) (r : Row) (found : Option Named) → slice_get the_rows at ≡ Some r → text ≡ short ++ (letter ∷ [])
    → slice_get the_att_names i ≡ Some named → has_text short named ≡ true → (named.size == 0) ≡ true → is_by_source named.rule ≡ false → (r.name.0 == named.name.0) ≡ true
    → (r.size == 0) ≡ false → letter_size (to_ascii_lowercase letter) ≡ r.size → whole_mnemonic text ≡ found → NamesRow text r
by_found at text short letter i named r None stands is e t unfixed unsourced same fixes says missing = record {
  named = of_size named r.size;
  found = is_text text (of_size named r.size) (with_letter text short letter r.size i named (no_name text missing) is says fixes e t unfixed);
  names = letter_names (is_by_source named.rule) (is_or_move named.rule) (r.size == 0) (r.name.0 == named.name.0) (r.size == r.size) ((r.name.0 == MOV) && (r.size == 64)) unsourced same (eq-eqb r.size r.size refl);
}
by_found at text short letter i named r (Some one) stands is e t unfixed unsourced same fixes says found =
    let place = whole_found text one found in
    let fixed : (letter_size (to_ascii_lowercase letter) == 0) ≡ false = subst (λ (n : ℕ). (n == 0) ≡ false) (sym says) fixes in
    let names : names_sized named (letter_size (to_ascii_lowercase letter)) one ≡ true =
    fixed_in short letter named (Some one) (whole_at i named short e t) unfixed fixed (sym (ap whole_mnemonic is) ∙ found) in
    record {
      named = one;
      found = is_text text one (whole text place.0 one place.1 place.2);
      names = names_taken at place.0 named one r stands place.1 same fixes (subst (λ (n : ℕ). names_sized named n one ≡ true) says names);
    }

name_names : (at : ℕ) (text : List ℕ) (r : Row) → slice_get the_rows at ≡ Some r → IsNameOf text r → NamesRow text r
name_names at _ _ stands (own_name text i named r e t names) = record { named = named; found = is_text text named (whole text i named e t); names = names }
name_names at _ _ stands (sized_name text short letter i named r is e t unfixed unsourced same fixes says) =
    by_found at text short letter i named r (whole_mnemonic text) stands is e t unfixed unsourced same fixes says refl

pub rows_named : RowsAreNamed
rows_named at text r stands = record { named = row_named text r; names = name_names at text r stands }
