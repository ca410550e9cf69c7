-- The tests of names decide whether two are one.
use Rattle.std.proofs.Common.{◌≡◌, ℕ, ◌==◌, Bool, true, false, ◌&&◌, List, refl, ap, eq-eqb}
use Rattle.std.proofs.lemmas.Bool.{eqb-true}
use Rattle.std.specs.Str.{bytes_eq}
use Rattle.std.specs.Cmp.Lexicographic.{bytes_decides}
use Rattle.asm_expr.specs.declared.naming.Name.{Name}
use Rattle.asm_expr.specs.declared.naming.Name.TheVariants as naming
use Rattle.asm_expr.specs.Names.{same_name}

both : (a b : Bool) → (a && b) ≡ true → (a ≡ true) × (b ≡ true)
both true true is = (refl, refl)
both true false is = cc
both false b is = cc

-- the bytes of two texts
pub same_bytes : (a b : List ℕ) → bytes_eq a b ≡ true → a ≡ b
same_bytes a b = (bytes_decides a b).0

pub own_bytes : (a : List ℕ) → bytes_eq a a ≡ true
own_bytes a = (bytes_decides a a).1 refl

own_pair : (a b : ℕ) → (a == a && b == b) ≡ true
own_pair a b = rw (eq-eqb a a refl, eq-eqb b b refl)

own_three : (a b c : ℕ) → (a == a && b == b && c == c) ≡ true
own_three a b c = rw (eq-eqb a a refl, eq-eqb b b refl, eq-eqb c c refl)

-- all names
pub same_from_test : (a b : Name) → same_name a b ≡ true → a ≡ b
same_from_test (naming.Plain a) (naming.Plain b) is = ap naming.Plain (same_bytes a b is)
same_from_test (naming.Numeric a b) (naming.Numeric c d) is = let parts = both (a == c) (b == d) is in let one = eqb-true a c parts.0 in let other = eqb-true b d parts.1 in cc
same_from_test (naming.Place a b o) (naming.Place c d p) is = let parts = both (a == c && b == d) (o == p) is in let pair = both (a == c) (b == d) parts.0 in let one = eqb-true a c pair.0 in let other = eqb-true b d pair.1 in let last = eqb-true o p parts.1 in cc
same_from_test (naming.Plain a) (naming.Numeric c d) is = cc
same_from_test (naming.Plain a) (naming.Place c d p) is = cc
same_from_test (naming.Numeric a b) (naming.Plain c) is = cc
same_from_test (naming.Numeric a b) (naming.Place c d p) is = cc
same_from_test (naming.Place a b o) (naming.Plain c) is = cc
same_from_test (naming.Place a b o) (naming.Numeric c d) is = cc

pub own_name : (a : Name) → same_name a a ≡ true
own_name (naming.Plain a) = own_bytes a
own_name (naming.Numeric a b) = own_pair a b
own_name (naming.Place a b o) = own_three a b o
