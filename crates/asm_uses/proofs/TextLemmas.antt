-- The symbol of a name: the name becomes a symbol's whatever room there is, and is refused where it was new and the limits are not kept.
use Rattle.std.proofs.Common.{◌≡◌, ℕ, ◌+◌, ◌^◌, ◌&&◌, nat_lt, nat_le, Bool, true, false, List, [], ◌∷◌, ◌++◌, length, Option, None, Some, Result, Ok, Err, if◌then◌else◌, refl, sym, ap, ◌∙◌, arith, length-append}
use Rattle.std.specs.List.{sum_by}
use Rattle.std.proofs.lemmas.Bool.Decides.{nat_tests}
use Rattle.std.proofs.lemmas.List.Sums.{sum_by-append}
use Rattle.asm_base.specs.Refusals.{◌>>=◌}
use Rattle.asm_base.specs.declared.positions.Pos.{Pos}
use Rattle.asm_expr.specs.declared.naming.Name.{Name}
use Rattle.asm_base.specs.declared.causes.SymCause.{SymCause}
use Rattle.asm_base.specs.declared.causes.SymCause.TheVariants as symbol
use Rattle.asm_operands.specs.declared.place_faults.PlaceCause.{PlaceCause}
use Rattle.asm_operands.specs.declared.place_faults.PlaceCause.TheVariants.{BadSymbolUse}
use Rattle.asm_symbols.specs.Interning.{undefined, name_size, names_size, is_within_limits, has_room, with_name, named, interned, number_of}
use Rattle.asm_symbols.specs.SymbolMap.{SymbolMap, names, index_of}
use Rattle.asm_uses.specs.declared.tables.Naming.{Naming}
use Rattle.asm_uses.specs.Tables.{Table, symbol_of, allowed, named_in, found_in}
use Rattle.asm_uses.specs.Tables as tables
use Rattle.asm_uses.proofs.InternLemmas.{names-push}

-- the bytes of all names with one more
size_one : (names : List Name) (name : Name) → sum_by name_size (names ++ name ∷ []) ≡ sum_by name_size names + name_size name
size_one names name = sum_by-append name_size names (name ∷ []) ∙ omega arith

size_more : (old : SymbolMap) (name : Name) → names_size (with_name old name) ≡ names_size old + name_size name
size_more old name =
    let one : sum_by name_size (names (old.symbols ++ undefined name ∷ [])) ≡ sum_by name_size (names old.symbols) + name_size name =
    ap (sum_by name_size) (names-push old.symbols name) ∙ size_one (names old.symbols) name in
    omega arith

-- there is room for a name where the limits are kept with it
room_kept : (old : SymbolMap) (name : Name) → has_room old name ≡ is_within_limits (with_name old name)
room_kept old name = both
    (nat_lt (length old.symbols + length old.files) (2 ^ 24)) (nat_le (length (old.symbols ++ undefined name ∷ []) + length old.files) (2 ^ 24))
    (nat_le (names_size old + name_size name) (2 ^ 31)) (nat_le (names_size (with_name old name)) (2 ^ 31))
    (grind (arith, nat_tests, length-append old.symbols (undefined name ∷ []))) (ap (λ size. nat_le size (2 ^ 31)) (sym (size_more old name)))
  where
    both : (a b c d : Bool) → a ≡ b → c ≡ d → (a && c) ≡ (b && d)
    both a b c d one other = rw (one, other) refl

module _ (pos : Pos) (name : Name) (table : Table) where
  naming : Naming
  naming = record { before = length table.symbols.symbols; meant = true }

  kept : ℕ → Table → Result (Table × ℕ) PlaceCause
  kept id made = allowed naming made >>= λ table. Ok (table, id)

  added_if : Bool → Result (SymbolMap × ℕ) SymCause
  added_if room = if room then Ok (with_name table.symbols name, length table.symbols.symbols) else Err symbol.BadSymbolUse

  named_if : Bool → Result Table PlaceCause
  named_if room = if room then Ok (named_in pos table (with_name table.symbols name)) else Err BadSymbolUse

  numbered : ℕ → Result Table PlaceCause → Result (Table × ℕ) PlaceCause
  numbered id made = made >>= λ table. Ok (table, id)

  new_by : (room : Bool) → found_in pos table (added_if room) ≡ numbered (length table.symbols.symbols) (named_if room)
  unfolding added_if named_if numbered
  new_by true = refl
  new_by false = refl

  here_by : (found : Option ℕ) → index_of name (names table.symbols.symbols) ≡ found
      → symbol_of pos name table ≡ kept (number_of table.symbols name) (tables.with_name pos name table)
  unfolding kept naming symbol_of named tables.with_name interned number_of allowed added_if named_if numbered
  here_by (Some at) is =
      let same : nat_le (length table.symbols.symbols) (length table.symbols.symbols) ≡ true = grind (arith, nat_tests) in
      rw (is, same) refl
  here_by None is =
      let longer : nat_le (length (table.symbols.symbols ++ undefined name ∷ [])) (length table.symbols.symbols) ≡ false =
      grind (arith, nat_tests, length-append table.symbols.symbols (undefined name ∷ [])) in
      rw (is, longer) (ap (λ room. found_in pos table (added_if room)) (room_kept table.symbols name) ∙ new_by (is_within_limits (with_name table.symbols name)))

  -- the symbol of the name is the name's where the limits are kept
  pub text_symbol : (new : Table) (id : ℕ) → new ≡ tables.with_name pos name table → id ≡ number_of table.symbols name
      → symbol_of pos name table ≡ (allowed (record { before = length table.symbols.symbols; meant = true }) new >>= λ made. Ok (made, id))
  unfolding kept naming
  text_symbol new id is number =
      here_by (index_of name (names table.symbols.symbols)) refl
      ∙ (ap (λ n. kept n (tables.with_name pos name table)) (sym number) ∙ ap (kept id) (sym is))
