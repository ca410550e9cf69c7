-- Names are read from their table.
use Rattle.std.proofs.Common.{◌≡◌, ℕ, zero, suc, ◌+◌, ◌&&◌, Bool, true, false, List, [], ◌∷◌, ◌++◌, Some, length, take, drop, refl, sym, ap, ◌∙◌, arith, append_assoc, length-append}
use Rattle.std.proofs.lemmas.List.{drop_at}
use Rattle.std.specs.Prelude.{slice_get, slice_index_or}
use Rattle.std.specs.List.{list_all, prefix_len}
use Rattle.elf_file.specs.FileLaws.{NamesStand}
use Rattle.elf_file.specs.StringTable.{is_no_end, string_at, ended_name, strings, string_table_of, name_offset_after, name_offsets_after, name_offsets}

-- what stands before the first zero byte
cut_here : (name rest : List ℕ) → list_all is_no_end name ≡ true → take (prefix_len is_no_end (name ++ 0 ∷ rest)) (name ++ 0 ∷ rest) ≡ name
cut_here [] rest all = refl
cut_here (c ∷ cs) rest all =
    let (first, others) = both_so (is_no_end c) (list_all is_no_end cs) all in
    let n = prefix_len is_no_end (cs ++ 0 ∷ rest) in
    let one : 1 + n ≡ suc n = omega arith in
    rw first (ap (λ m. take m (c ∷ (cs ++ 0 ∷ rest))) one ∙ ap (λ (xs : List ℕ). c ∷ xs) (cut_here cs rest others))
  where
    both_so : (a b : Bool) → (a && b) ≡ true → (a ≡ true) × (b ≡ true)
    both_so true b e = (refl, e)
    both_so false b e = absurd cc

-- the table behind its first byte
behind : (before rest : List ℕ) → List ℕ
behind before rest = 0 ∷ (before ++ rest)

name_read : (before : List ℕ) (name : List ℕ) (more : List (List ℕ)) → list_all is_no_end name ≡ true
    → string_at (name_offset_after (suc (length before)) name) (0 ∷ (before ++ strings (name ∷ more))) ≡ name
name_read before [] more all = refl
name_read before (c ∷ cs) more all =
    let bytes = (c ∷ cs) ++ 0 ∷ [] in
    let there : drop (suc (length before)) (0 ∷ (before ++ (bytes ++ strings more))) ≡ (c ∷ cs) ++ 0 ∷ strings more =
    drop_at before (bytes ++ strings more) (length before) refl ∙ append_assoc (c ∷ cs) (0 ∷ []) (strings more) in
    ap (λ (xs : List ℕ). take (prefix_len is_no_end xs) xs) there ∙ cut_here (c ∷ cs) (strings more) all

names_read : (before : List ℕ) (names : List (List ℕ)) (index : ℕ) (name : List ℕ) → slice_get names index ≡ Some name → list_all is_no_end name ≡ true
    → string_at (slice_index_or (name_offsets_after (suc (length before)) names) index 0) (0 ∷ (before ++ strings names)) ≡ name
names_read before [] index name is all = absurd cc
names_read before (n ∷ names) zero name is all =
    let same : n ≡ name = cc in
    rw (← same) (name_read before n names (ap (list_all is_no_end) same ∙ all))
names_read before (n ∷ names) (suc index) name is all =
    let next = before ++ ended_name n in
    let long : suc (length before) + length (ended_name n) ≡ suc (length next) = omega (arith, length-append before (ended_name n)) in
    let row : 0 ∷ (before ++ (ended_name n ++ strings names)) ≡ 0 ∷ (next ++ strings names) = ap (λ (xs : List ℕ). 0 ∷ xs) (sym (append_assoc before (ended_name n) (strings names))) in
    ap (λ m. string_at (slice_index_or (name_offsets_after m names) index 0) (0 ∷ (before ++ (ended_name n ++ strings names)))) long
    ∙ ap (string_at (slice_index_or (name_offsets_after (suc (length next)) names) index 0)) row ∙ names_read next names index name is all

pub names_stand : NamesStand
unfolding string_table_of name_offsets
names_stand names index name is all = names_read [] names index name is all
