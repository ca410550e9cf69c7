-- Loops over lists that put what they make of each element behind what they have.
use Rattle.std.proofs.Common.{◌≡◌, ℕ, zero, suc, add-one, slice_get, ◌+◌, ◌<◌, ◌≤◌, Bool, true, false, cond, List, [], ◌∷◌, ◌++◌, length, get_or, drop, map, Option, None, Some, All, refl, sym, ap, subst, ◌∙◌, append-nil, append_assoc}
use Rattle.std.proofs.lemmas.List.{at_drop_all, at_drop_more}
use Rattle.std.proofs.lemmas.List.Elements.{All-cons}
use Rattle.asm_symbols.specs.declared.entries.Symbol.{Symbol}
use Rattle.asm_symbols.specs.SymbolMap.{SymbolMap}
use Rattle.asm_relax.specs.Settling.{LaidSections}
use Rattle.elf_symbols.specs.declared.numbers.Standing.{Standing}
use Rattle.asm_frags.specs.declared.groups.Group.{Group}
use Rattle.elf_symbols.specs.Numbers.{signature_number, number_if, next_if, group_numbers}
use Rattle.elf_symbols.specs.SymbolTable.{SymbolEntry, is_bound, part, PutsPart, listed, listed_by, standing_of, is_signature_listed, signature_if, signature_entries}

-- what is left begins with the element
pub next_is : {X Y : Type 0} (f : List X → Y) (xs : List X) (i : ℕ) (x : X) → i < length xs → x ≡ get_or xs i x → f (drop i xs) ≡ f (x ∷ drop (i + 1) xs)
next_is f xs i x inside is = at_drop_more f xs i x inside ∙ ap (λ y. f (y ∷ drop (i + 1) xs)) (sym is)

-- one more entry is listed
pub listed_next : (symbols : SymbolMap) (sections : LaidSections) (marks threads : List Bool) (all : List Symbol) (i : ℕ) (mark thread : Bool) (symbol : Symbol)
    → length marks ≡ length all → length threads ≡ length all → i < length all → mark ≡ get_or marks i mark → thread ≡ get_or threads i thread → symbol ≡ get_or all i symbol
    → listed_by symbols sections (drop i marks) (drop i threads) (drop i all)
    ≡ listed symbols sections mark thread symbol ∷ listed_by symbols sections (drop (i + 1) marks) (drop (i + 1) threads) (drop (i + 1) all)
listed_next symbols sections marks threads all i mark thread symbol long also inside first second third =
    let there : i < length marks = rw long inside in
    let beside : i < length threads = rw also inside in
    next_is (λ ms. listed_by symbols sections ms (drop i threads) (drop i all)) marks i mark there first
    ∙ next_is (λ ts. listed_by symbols sections (mark ∷ drop (i + 1) marks) ts (drop i all)) threads i thread beside second
    ∙ next_is (λ ss. listed_by symbols sections (mark ∷ drop (i + 1) marks) (thread ∷ drop (i + 1) threads) ss) all i symbol inside third

-- no entry is left
pub listed_none : (symbols : SymbolMap) (sections : LaidSections) (marks threads : List Bool) (all : List Symbol) (i : ℕ) → length marks ≡ length all → length all ≤ i
    → listed_by symbols sections (drop i marks) (drop i threads) (drop i all) ≡ []
listed_none symbols sections marks threads all i long end =
    let past : length marks ≤ i = rw long end in
    at_drop_all (λ ms. listed_by symbols sections ms (drop i threads) (drop i all)) marks i past

-- all is pushed
pub all_pushed : {Y : Type 0} (out rest whole : List Y) → rest ≡ [] → out ++ rest ≡ whole → out ≡ whole
all_pushed out rest whole none before = sym (append-nil out) ∙ ap (λ ys. out ++ ys) (sym none) ∙ before

-- a part of the entries of one symbol and more is that of the one and that of the others
part_front : (local : Bool) (one : Option SymbolEntry) (more : List (Option SymbolEntry)) → part local (one ∷ more) ≡ part local (one ∷ []) ++ part local more
part_front local None more = refl
part_front local (Some entry) more = by_bound (is_bound local entry)
  where
    by_bound : (bound : Bool) → cond bound (entry ∷ part local more) (part local more) ≡ cond bound (entry ∷ []) [] ++ part local more
    by_bound true = refl
    by_bound false = refl

-- the part of one more entry is put last
pub part_put : (local : Bool) (out more : List SymbolEntry) (one : Option SymbolEntry) (rest next : List (Option SymbolEntry)) (whole : List SymbolEntry)
    → PutsPart local (one ∷ []) out more → rest ≡ one ∷ next → out ++ part local rest ≡ whole → more ++ part local next ≡ whole
part_put local out more one rest next whole put front before =
    ap (λ xs. xs ++ part local next) put ∙ append_assoc out (part local (one ∷ [])) (part local next)
    ∙ ap (λ ys. out ++ ys) (sym (part_front local one next)) ∙ ap (λ ys. out ++ part local ys) (sym front) ∙ before

-- where one more symbol stands is pushed
pub standing_put : (out more : List Standing) (standing : Standing) (one : Option SymbolEntry) (rest next : List (Option SymbolEntry)) (whole : List Standing)
    → standing ≡ standing_of one → more ≡ out ++ standing ∷ [] → rest ≡ one ∷ next → out ++ map standing_of rest ≡ whole → more ++ map standing_of next ≡ whole
standing_put out more standing one rest next whole is put front before =
    ap (λ xs. xs ++ map standing_of next) put ∙ append_assoc out (standing ∷ []) (map standing_of next)
    ∙ ap (λ z. out ++ (z ∷ map standing_of next)) is ∙ ap (λ ys. out ++ map standing_of ys) (sym front) ∙ before

-- where what holds of all that are left makes it hold of all, what holds of those after the next one does
pub holds_next : {X Y : Type 0} (view : X → Y) (P : Y → Type 0) (xs : List X) (i : ℕ) (d : X) → i < length xs → P (view (get_or xs i d))
    → (All P (map view (drop i xs)) → All P (map view xs)) → All P (map view (drop (i + 1) xs)) → All P (map view xs)
holds_next view P xs i d inside one before later =
    before (subst (λ (rest : List _). All P (map view rest)) (sym (at_drop_more (λ rest. rest) xs i d inside))
    (All-cons P (view (get_or xs i d)) (map view (drop (i + 1) xs)) one later))

-- what is left of groups begins with the one of the index
group_left : (groups : List Group) (index : ℕ) (group : Group) → slice_get groups index ≡ Some group → drop index groups ≡ group ∷ drop (suc index) groups
group_left [] index group is = absurd cc
group_left (g ∷ groups) zero group is = let same : g ≡ group = cc in ap (λ one. one ∷ groups) same
group_left (g ∷ groups) (suc index) group is = group_left groups index group is

-- the entry of one more signature is put last
pub signature_put : (symbols : SymbolMap) (all : List Standing) (groups : List Group) (index : ℕ) (signature : List ℕ) (comdat : Bool) (out more whole : List SymbolEntry)
    → slice_get groups index ≡ Some (record { signature = signature; comdat = comdat }) → more ≡ out ++ signature_if symbols all index signature
    → out ++ signature_entries symbols all index (drop index groups) ≡ whole → more ++ signature_entries symbols all (index + 1) (drop (index + 1) groups) ≡ whole
signature_put symbols all groups index signature comdat out more whole is put before =
    let group : Group = record { signature = signature; comdat = comdat } in
    let left : drop index groups ≡ group ∷ drop (index + 1) groups = group_left groups index group is ∙ ap (λ n. group ∷ drop n groups) (sym (add-one index)) in
    ap (λ xs. xs ++ signature_entries symbols all (index + 1) (drop (index + 1) groups)) put
    ∙ append_assoc out (signature_if symbols all index signature) (signature_entries symbols all (index + 1) (drop (index + 1) groups))
    ∙ ap (λ gs. out ++ signature_entries symbols all index gs) (sym left) ∙ before

-- the number of one more signature is pushed
pub number_put : (symbols : SymbolMap) (all : List Standing) (numbers : List ℕ) (next after number : ℕ) (groups : List Group) (index : ℕ) (signature : List ℕ) (comdat : Bool) (made more whole : List ℕ)
    → slice_get groups index ≡ Some (record { signature = signature; comdat = comdat }) → number ≡ number_if (is_signature_listed symbols all signature) (signature_number symbols numbers signature) next
    → after ≡ next_if (is_signature_listed symbols all signature) next → more ≡ made ++ number ∷ []
    → made ++ group_numbers symbols all numbers next (drop index groups) ≡ whole → more ++ group_numbers symbols all numbers after (drop (index + 1) groups) ≡ whole
number_put symbols all numbers next after number groups index signature comdat made more whole is own behind put before =
    let group : Group = record { signature = signature; comdat = comdat } in
    let left : drop index groups ≡ group ∷ drop (index + 1) groups = group_left groups index group is ∙ ap (λ n. group ∷ drop n groups) (sym (add-one index)) in
    ap (λ xs. xs ++ group_numbers symbols all numbers after (drop (index + 1) groups)) put
    ∙ append_assoc made (number ∷ []) (group_numbers symbols all numbers after (drop (index + 1) groups))
    ∙ ap (λ n. made ++ (n ∷ group_numbers symbols all numbers after (drop (index + 1) groups))) own
    ∙ ap (λ n. made ++ (number_if (is_signature_listed symbols all signature) (signature_number symbols numbers signature) next ∷ group_numbers symbols all numbers n (drop (index + 1) groups))) behind
    ∙ ap (λ gs. made ++ group_numbers symbols all numbers next gs) (sym left) ∙ before
