-- The numbers of what is read are in their ranges, and its paths have no zero byte.
use Rattle.std.proofs.Common.{◌≡◌, ◌<◌, ◌^◌, ℕ, Bool, true, false, cond, nat_lt, List, [], ◌∷◌, Option, Result, Ok, Err, refl, arith, ◌==◌, IfSome}
use Rattle.std.specs.Prelude.{◌||◌, ◌≢◌}
use Rattle.std.specs.List.{list_any}
use Rattle.std.specs.Result.{IfOk}
use Rattle.std.proofs.lemmas.Bool.{ltb-true}
use Rattle.std.proofs.lemmas.Bool.Decides.{nat_tests}
use Rattle.asm_base.specs.Refusals.{◌>>=◌}
use Rattle.asm_base.specs.Tokens.{SpelledToken}
use Rattle.asm_operands.specs.declared.place_faults.PlaceCause.{PlaceCause}
use Rattle.asm_operands.specs.declared.place_faults.PlaceCause.TheVariants.{BadOperand, OutOfRange}
use Rattle.asm_operands.specs.Operands.{string_of}
use Rattle.line_directives.specs.Order.{IsLineInRange}
use Rattle.line_rows.specs.Tables.{IsPath}
use Rattle.asm_line_tables.specs.declared.words.LocMarks.{LocMarks}
use Rattle.asm_line_tables.specs.declared.words.LocNumbers.{LocNumbers}
use Rattle.asm_line_tables.specs.declared.words.LocValue.{LocValue}
use Rattle.asm_line_tables.specs.declared.words.LocValue.TheVariants.{File, Line, Column, IsStmt, Isa, Discriminator}
use Rattle.asm_line_tables.specs.Numbers.{no_numbers, below, with_number, with_numbers, loc_line}
use Rattle.asm_line_tables.specs.Words.{checked_path, path_of, paths_of}

-- what holds of all that a step makes
pub record Leaves {A E : Type 0} (P : A → Type 0) (result : Result A E) : Type 0 where
  pub holds : IfOk result P

pub made : {A E : Type 0} {P : A → Type 0} (x : A) → P x → Leaves {E = E} P (Ok x)
made x is = record { holds = is }

pub refused : {A E : Type 0} {P : A → Type 0} (fault : E) → Leaves {A = A} P (Err fault)
refused fault = record { holds = tt }

-- a step after another
pub after : {A B E : Type 0} {Q : B → Type 0} (r : Result A E) {f : A → Result B E} → ((x : A) → Leaves Q (f x)) → Leaves Q (r >>= f)
after (Ok x) later = later x
after (Err fault) later = refused fault

-- the same where something holds of what the first step makes
pub after_holding : {A B E : Type 0} {P : A → Type 0} {Q : B → Type 0} (r : Result A E) {f : A → Result B E} → Leaves P r → ((x : A) → P x → Leaves Q (f x)) → Leaves Q (r >>= f)
after_holding (Ok x) holds later = later x holds.holds
after_holding (Err fault) holds later = refused fault

-- NUMBERS

-- a number that is looked at is below its bound
pub bounded : (bound value : ℕ) → Leaves {E = PlaceCause} (λ number. number < bound) (below bound value)
bounded bound value = by (nat_lt value bound) refl
  where
    by : (test : Bool) → nat_lt value bound ≡ test → Leaves {E = PlaceCause} (λ number. number < bound) (cond test (Ok value) (Err OutOfRange))
    by true less = made value (ltb-true value bound less)
    by false more = refused OutOfRange

module _ (marks : LocMarks) where
  InRange : LocNumbers → Type 0
  InRange numbers = IsLineInRange (loc_line numbers marks)

  one_in_range : (kind : LocValue) (value : ℕ) (numbers : LocNumbers) → InRange numbers → Leaves InRange (with_number kind value numbers)
  unfolding InRange
  one_in_range File value numbers in_range = after_holding (below (2 ^ 16) value) (bounded (2 ^ 16) value) (λ number less. made _
      (record { file = less; number = in_range.number; column = in_range.column; isa = in_range.isa; discriminator = in_range.discriminator }))
  one_in_range Line value numbers in_range = after_holding (below (2 ^ 31) value) (bounded (2 ^ 31) value) (λ number less. made _
      (record { file = in_range.file; number = less; column = in_range.column; isa = in_range.isa; discriminator = in_range.discriminator }))
  one_in_range Column value numbers in_range = after_holding (below (2 ^ 31) value) (bounded (2 ^ 31) value) (λ number less. made _
      (record { file = in_range.file; number = in_range.number; column = less; isa = in_range.isa; discriminator = in_range.discriminator }))
  one_in_range IsStmt value numbers in_range = after_holding (below 2 value) (bounded 2 value) (λ number less. made _
      (record { file = in_range.file; number = in_range.number; column = in_range.column; isa = in_range.isa; discriminator = in_range.discriminator }))
  one_in_range Isa value numbers in_range = after_holding (below (2 ^ 31) value) (bounded (2 ^ 31) value) (λ number less. made _
      (record { file = in_range.file; number = in_range.number; column = in_range.column; isa = less; discriminator = in_range.discriminator }))
  one_in_range Discriminator value numbers in_range = after_holding (below (2 ^ 31) value) (bounded (2 ^ 31) value) (λ number less. made _
      (record { file = in_range.file; number = in_range.number; column = in_range.column; isa = in_range.isa; discriminator = less }))

  more_in_range : (kinds : List LocValue) (values : List ℕ) (numbers : LocNumbers) → InRange numbers → Leaves InRange (with_numbers kinds values numbers)
  more_in_range [] values numbers in_range = made numbers in_range
  more_in_range (kind ∷ kinds) [] numbers in_range = made numbers in_range
  more_in_range (kind ∷ kinds) (value ∷ values) numbers in_range =
      after_holding (with_number kind value numbers) (one_in_range kind value numbers in_range) (λ next. more_in_range kinds values next)

  -- the numbers of a row are in their ranges
  pub all_in_range : (kinds : List LocValue) (values : List ℕ) → Leaves (λ numbers. IsLineInRange (loc_line numbers marks)) (with_numbers kinds values no_numbers)
  unfolding InRange
  all_in_range kinds values = more_in_range kinds values no_numbers
      (record { file = omega arith; number = omega arith; column = omega arith; isa = tt; discriminator = omega arith })

-- PATHS

no_zero : (path : List ℕ) → list_any (λ byte. byte == 0) path ≡ false → IsPath path
no_zero [] none = tt
no_zero (byte ∷ path) none = by (byte == 0) refl none (no_zero path)
  where
    by : (test : Bool) → (byte == 0) ≡ test → (test || list_any (λ byte. byte == 0) path) ≡ false → (list_any (λ byte. byte == 0) path ≡ false → IsPath path)
        → (byte ≢ 0) × IsPath path
    by true zero none later = absurd cc
    by false some none later = ((λ is. grind (arith, nat_tests)), later none)

checked : (path : List ℕ) → Leaves {E = PlaceCause} IsPath (checked_path path)
checked path = by (list_any (λ byte. byte == 0) path) refl
  where
    by : (test : Bool) → list_any (λ byte. byte == 0) path ≡ test → Leaves {E = PlaceCause} IsPath (cond test (Err BadOperand) (Ok path))
    by true some = refused BadOperand
    by false none = made path (no_zero path none)

one_path : (operand : List SpelledToken) → Leaves IsPath (path_of operand)
unfolding path_of
one_path operand = after (string_of operand) checked

-- the directory and the name of a file
pub all_paths : (tokens : List SpelledToken) → Leaves (λ (paths : Option (List ℕ) × List ℕ). IfSome paths.0 IsPath × IsPath paths.1) (paths_of tokens)
all_paths [] = refused BadOperand
all_paths (name ∷ []) = after_holding (path_of (name ∷ [])) (one_path (name ∷ [])) (λ path is. made _ (tt, is))
all_paths (directory ∷ name ∷ []) = after_holding (path_of (directory ∷ [])) (one_path (directory ∷ []))
    (λ first one. after_holding (path_of (name ∷ [])) (one_path (name ∷ [])) (λ path is. made _ (one, is)))
all_paths (one ∷ two ∷ three ∷ rest) = refused BadOperand
