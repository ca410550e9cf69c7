-- Which sources have a fault of their lines.
use Rattle.std.proofs.Common.{◌≡◌, ℕ, suc, ◌+◌, ◌==◌, ◌||◌, Bool, true, false, not, cond, List, [], ◌∷◌, length, nat_lt, Option, Some, None, Ok, refl, sym, ap, ◌∙◌, arith}
use Rattle.std.specs.List.{filter_map, list_any}
use Rattle.std.proofs.lemmas.Bool.{le-ltb, lt-ltb, ltb-true, ltb-false}
use Rattle.asm_base.specs.Dividing.{pieces_of}
use Rattle.asm_lines.specs.declared.faults.Found.{Found}
use Rattle.asm_lines.specs.declared.faults.LineCause.TheVariants.{NulByte}
use Rattle.asm_lines.specs.Intervals.{intervals_of}
use Rattle.asm_lines.specs.LineNumbers.{line_of}
use Rattle.asm_lines.specs.Faults.{earlier, first_long, first_open, found_at, nul_found, nul_offset, source_found}
use Rattle.asm_lines.specs.Statements.{StatementAt, statement_in, statements_in, statements_of, unless_found}
use Rattle.asm_lines.specs.NextStatements.{HasNoLineFault, statements_left, found_left}
use Rattle.asm_lines.proofs.Skipping.{IsSome, one_earlier, other_earlier}

both_more : (n m : ℕ) → nat_lt (1 + n) (suc m) ≡ nat_lt n m
both_more n m = by_order (nat_lt n m) refl
  where
    by_order : (less : Bool) → nat_lt n m ≡ less → nat_lt (1 + n) (suc m) ≡ less
    by_order true is = let h = ltb-true n m is in lt-ltb (1 + n) (suc m) (omega arith)
    by_order false is = let h = ltb-false n m is in le-ltb (1 + n) (suc m) (omega arith)

-- a byte 0 is found where there is one
pub nul_is_found : (source : List ℕ) → list_any (λ byte. byte == 0) source ≡ nat_lt (nul_offset source) (length source)
nul_is_found [] = refl
nul_is_found (byte ∷ rest) = by_class (byte == 0) (nul_is_found rest)
  where
    by_class : (nul : Bool) → list_any (λ b. b == 0) rest ≡ nat_lt (nul_offset rest) (length rest) → (nul || list_any (λ b. b == 0) rest) ≡ nat_lt (cond (not nul) (1 + nul_offset rest) 0) (suc (length rest))
    by_class true later = sym (lt-ltb 0 (suc (length rest)) (omega arith))
    by_class false later = later ∙ sym (both_more (nul_offset rest) (length rest))

-- the statements of a source without a fault
no_nul : (source : List ℕ) → nat_lt (nul_offset source) (length source) ≡ false → nul_found source ≡ None
unfolding nul_found
no_nul source past = ap (λ b. cond b (Some (found_at (nul_offset source) (NulByte (line_of source (nul_offset source))))) None) past

pub statements_all : (file : ℕ) (source : List ℕ) → nat_lt (nul_offset source) (length source) ≡ false → found_left source 0 ≡ None → statements_of file source ≡ Ok (statements_left file source 0)
unfolding statements_of statements_in source_found statements_left found_left
statements_all file source past none =
    ap (λ nul. unless_found (earlier nul (earlier (first_open source (pieces_of source)) (first_long source (intervals_of (pieces_of source))))) (filter_map (statement_in file source) (intervals_of (pieces_of source)))) (no_nul source past)
    ∙ ap (λ found. unless_found found (filter_map (statement_in file source) (intervals_of (pieces_of source)))) none

-- where a fault is found there are no statements
never_ok : (found : Option Found) (these statements : List StatementAt) → IsSome found → unless_found found these ≡ Ok statements → ⊥
never_ok None these statements some is = let e = some.1 in cc
never_ok (Some found) these statements some is = cc

pub found_never_ok : (file : ℕ) (source : List ℕ) (statements : List StatementAt) → IsSome (found_left source 0) → statements_of file source ≡ Ok statements → ⊥
unfolding statements_of statements_in source_found found_left
found_never_ok file source statements some is =
    never_ok (source_found source (pieces_of source)) _ statements (other_earlier (nul_found source) (earlier (first_open source (pieces_of source)) (first_long source (intervals_of (pieces_of source)))) some) is

pub nul_never_ok : (file : ℕ) (source : List ℕ) (statements : List StatementAt) → nat_lt (nul_offset source) (length source) ≡ true → statements_of file source ≡ Ok statements → ⊥
unfolding statements_of statements_in source_found nul_found
nul_never_ok file source statements inside is =
    let nul : IsSome (nul_found source) = (found_at (nul_offset source) (NulByte (line_of source (nul_offset source))), ap (λ b. cond b (Some (found_at (nul_offset source) (NulByte (line_of source (nul_offset source))))) None) inside) in
    never_ok (source_found source (pieces_of source)) _ statements (one_earlier (nul_found source) (earlier (first_open source (pieces_of source)) (first_long source (intervals_of (pieces_of source)))) nul) is

-- the lines of a source have a fault where a byte 0 stands in it, and else where one is found
pub faulty_by_nul : (file : ℕ) (source : List ℕ) → nat_lt (nul_offset source) (length source) ≡ true → HasNoLineFault file source → ⊥
faulty_by_nul file source inside is = nul_never_ok file source (statements_left file source 0) inside is.statements

pub clean_without_fault : (file : ℕ) (source : List ℕ) → nat_lt (nul_offset source) (length source) ≡ false → found_left source 0 ≡ None → HasNoLineFault file source
clean_without_fault file source past none = record { statements = statements_all file source past none; faults = none }
