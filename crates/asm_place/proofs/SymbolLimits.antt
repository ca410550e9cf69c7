-- The limits of symbols and names of files: changes of symbols keep them, and one more name that there is room for.
use Rattle.std.proofs.Common.{◌≡◌, ℕ, zero, suc, ◌+◌, ◌≤◌, ◌++◌, Bool, true, length, List, [], ◌∷◌, map, refl, ap, ◌∙◌, arith, length-append}
use Rattle.std.specs.Prelude.{◌^◌, ◌&&◌, nat_le, nat_lt, sum_by, slice_get, Some}
use Rattle.std.proofs.lemmas.Bool.{and_parts, ltb-true, leb-true, le-leb}
use Rattle.std.proofs.lemmas.List.{map-append}
use Rattle.std.proofs.lemmas.List.Sums.{sum_by_push}
use Rattle.asm_expr.specs.declared.naming.Name.{Name}
use Rattle.asm_symbols.specs.declared.entries.Symbol.{Symbol}
use Rattle.asm_symbols.specs.Interning.{name_size, names_size, is_within_limits, has_room, undefined, with_name}
use Rattle.asm_symbols.specs.SymbolMap.{SymbolMap, names, changed}

-- there are at most 2^24 symbols and files, and at most 2^31 bytes of names
abbrev pub AreFit : SymbolMap → Type 0
AreFit map = is_within_limits map ≡ true

-- the limits of so many symbols with these names, and of these files
abbrev limits : ℕ → List Name → List Name → Bool
limits count named files = nat_le (count + length files) (2 ^ 24) && nat_le (sum_by name_size named + sum_by name_size files) (2 ^ 31)

-- maps with the same names are alike fit
pub fit_alike : (before after : SymbolMap) → length after.symbols ≡ length before.symbols → names after.symbols ≡ names before.symbols → after.files ≡ before.files
    → AreFit before → AreFit after
fit_alike before after long named files fit =
    ap (λ (n : ℕ). limits n (names after.symbols) after.files) long
    ∙ (ap (λ (own : List Name). limits (length before.symbols) own after.files) named
    ∙ (ap (λ (own : List Name). limits (length before.symbols) (names before.symbols) own) files ∙ fit))

-- a change of one symbol keeps their number,
pub changed_long : (change : Symbol → Symbol) (symbols : List Symbol) (index : ℕ) → length (changed change symbols index) ≡ length symbols
unfolding changed
changed_long change [] index = refl
changed_long change (symbol ∷ rest) zero = refl
changed_long change (symbol ∷ rest) (suc index) = ap suc (changed_long change rest index)

-- and their names, where it keeps its own
pub changed_names : (change : Symbol → Symbol) → ((symbol : Symbol) → (change symbol).name ≡ symbol.name) → (symbols : List Symbol) (index : ℕ)
    → names (changed change symbols index) ≡ names symbols
unfolding changed
changed_names change same [] index = refl
changed_names change same (symbol ∷ rest) zero = ap (λ (own : Name). own ∷ names rest) (same symbol)
changed_names change same (symbol ∷ rest) (suc index) = ap (λ (own : List Name). symbol.name ∷ own) (changed_names change same rest index)

-- what is put last is there
pub put_last : (symbols : List Symbol) (last : Symbol) → slice_get (symbols ++ last ∷ []) (length symbols) ≡ Some last
put_last [] last = refl
put_last (symbol ∷ symbols) last = put_last symbols last

-- a change of the symbol that is last
pub changed_last : (change : Symbol → Symbol) (symbols : List Symbol) (last : Symbol) → changed change (symbols ++ last ∷ []) (length symbols) ≡ symbols ++ change last ∷ []
unfolding changed
changed_last change [] last = refl
changed_last change (symbol ∷ symbols) last = ap (λ rest. symbol ∷ rest) (changed_last change symbols last)

-- what holds of both tests holds of the two
both_true : (one other : Bool) → one ≡ true → other ≡ true → (one && other) ≡ true
both_true one other is too = ap (λ (b : Bool). b && other) is ∙ too

-- one more name that there is room for, among symbols or files
fit_more : (map after : SymbolMap) (name : Name) → has_room map name ≡ true
    → length after.symbols + length after.files ≡ length map.symbols + length map.files + 1 → names_size after ≡ names_size map + name_size name → AreFit after
fit_more map after name room long size =
    let tests = and_parts (nat_lt (length map.symbols + length map.files) (2 ^ 24)) (nat_le (names_size map + name_size name) (2 ^ 31)) room in
    let few = ltb-true (length map.symbols + length map.files) (2 ^ 24) tests.0 in
    let small = leb-true (names_size map + name_size name) (2 ^ 31) tests.1 in
    both_true (nat_le (length after.symbols + length after.files) (2 ^ 24)) (nat_le (names_size after) (2 ^ 31))
    (le-leb (length after.symbols + length after.files) (2 ^ 24) (omega (arith, few, long)))
    (le-leb (names_size after) (2 ^ 31) (omega (arith, small, size)))

-- a symbol more
pub fit_symbol : (map : SymbolMap) (name : Name) → has_room map name ≡ true → AreFit (with_name map name)
fit_symbol map name room =
    let named = ap (sum_by name_size) (map-append (λ (symbol : Symbol). symbol.name) map.symbols (undefined name ∷ [])) ∙ sum_by_push name_size (names map.symbols) name in
    fit_more map (with_name map name) name room (omega (arith, length-append map.symbols (undefined name ∷ []))) (omega (arith, named))

-- a file more
pub fit_file : (map : SymbolMap) (name : Name) → has_room map name ≡ true → AreFit (record map { files = map.files ++ name ∷ [] })
fit_file map name room =
    fit_more map (record map { files = map.files ++ name ∷ [] }) name room (omega (arith, length-append map.files (name ∷ []))) (omega (arith, sum_by_push name_size map.files name))

-- so there are at most 2^24 symbols
pub fit_few : (map : SymbolMap) → AreFit map → length map.symbols ≤ 2 ^ 24
fit_few map fit =
    let few = leb-true (length map.symbols + length map.files) (2 ^ 24) (and_parts (nat_le (length map.symbols + length map.files) (2 ^ 24)) (nat_le (names_size map) (2 ^ 31)) fit).0 in
    omega (arith, few)
