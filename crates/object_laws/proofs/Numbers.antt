-- The numbers of types, and the suffixes that they stand for.
use Rattle.std.proofs.Common.{◌≡◌, ◌≢◌, ◌⊎◌, ℕ, ◌==◌, Bool, true, false, Option, None, Some, refl, subst, inl, inr, ⊎_elim, arith}
use Rattle.std.specs.Prelude.{◌↔◌}
use Rattle.std.proofs.lemmas.Bool.Decides.{nat_tests}
use Rattle.elf_object.specs.declared.relocations.RelocationKind.{RelocationKind}
use Rattle.elf_object.specs.declared.relocations.RelocationKind.TheVariants as kind
use Rattle.elf_object.specs.Relocations.{kind_number}
use Rattle.x86_insn.specs.declared.amounts.Suffix.{Suffix}
use Rattle.x86_insn.specs.declared.amounts.Suffix.TheVariants.{Plt, GotPcRel, GotTpOff, TpOff}
use Rattle.object_laws.specs.RelocationTypes.{Operand, symbol_address, linkage_entry, table_entry, thread_entry, thread_offset}
use Rattle.object_laws.specs.Suffixes.{operand_by, IsAsked}
use Rattle.object_laws.proofs.Types.{row_of}

-- the numbers of the types with this operand
abbrev Numbers : Operand → ℕ → Type 0
Numbers symbol_address n = (n ≢ 4) × (n ≢ 9) × (n ≢ 22) × (n ≢ 23)
Numbers linkage_entry n = n ≡ 4
Numbers table_entry n = n ≡ 9
Numbers thread_entry n = n ≡ 22
Numbers thread_offset n = n ≡ 23

apart : (n m : ℕ) → (n == m) ≡ false → n ≢ m
apart n m e = λ same. absurd (grind (arith, nat_tests))

kind_numbers : (found : RelocationKind) → Numbers (row_of found).operand (kind_number found)
kind_numbers kind.Direct64 = (apart 1 4 refl, apart 1 9 refl, apart 1 22 refl, apart 1 23 refl)
kind_numbers kind.Pc32 = (apart 2 4 refl, apart 2 9 refl, apart 2 22 refl, apart 2 23 refl)
kind_numbers kind.Plt32 = refl
kind_numbers kind.GotPcRel = refl
kind_numbers kind.Direct32 = (apart 10 4 refl, apart 10 9 refl, apart 10 22 refl, apart 10 23 refl)
kind_numbers kind.Signed32 = (apart 11 4 refl, apart 11 9 refl, apart 11 22 refl, apart 11 23 refl)
kind_numbers kind.Direct16 = (apart 12 4 refl, apart 12 9 refl, apart 12 22 refl, apart 12 23 refl)
kind_numbers kind.Pc16 = (apart 13 4 refl, apart 13 9 refl, apart 13 22 refl, apart 13 23 refl)
kind_numbers kind.Direct8 = (apart 14 4 refl, apart 14 9 refl, apart 14 22 refl, apart 14 23 refl)
kind_numbers kind.Pc8 = (apart 15 4 refl, apart 15 9 refl, apart 15 22 refl, apart 15 23 refl)
kind_numbers kind.GotTpOff = refl
kind_numbers kind.TpOff32 = refl
kind_numbers kind.Pc64 = (apart 24 4 refl, apart 24 9 refl, apart 24 22 refl, apart 24 23 refl)

-- two facts that hold, and two that do not
both : {A B : Type 0} → A → B → A ↔ B
both a b = (λ _. b, λ _. a)

neither : {A B : Type 0} → (A → ⊥) → (B → ⊥) → A ↔ B
neither a b = (λ x. absurd (a x), λ y. absurd (b y))

-- the number is this one and no other
other : (n m k : ℕ) → n ≡ m → (m == k) ≡ false → n ≢ k
other n m k is e = λ same. absurd (grind (arith, nat_tests))

-- no branch is led where there is another suffix
unled : (behind : Option Suffix) (led : Bool) → (behind ≡ Some Plt → ⊥) → (behind ≡ None → ⊥) → (behind ≡ Some Plt) ⊎ ((behind ≡ None) × (led ≡ true)) → ⊥
unled behind led plt absent e = ⊎_elim plt (λ both. absent both.0) e

asked_by : (behind : Option Suffix) (led : Bool) (n : ℕ) → Numbers (operand_by behind led) n → IsAsked behind led n
asked_by None false n (four, nine, two, three) = record {
  by_linkage = neither four (⊎_elim (λ e. absurd cc) (λ e. let led = e.1 in absurd cc));
  by_table = neither nine (λ e. absurd cc);
  by_thread_entry = neither two (λ e. absurd cc);
  by_thread_offset = neither three (λ e. absurd cc);
}
asked_by None true n is = record {
  by_linkage = both is (inr (refl, refl));
  by_table = neither (other n 4 9 is refl) (λ e. absurd cc);
  by_thread_entry = neither (other n 4 22 is refl) (λ e. absurd cc);
  by_thread_offset = neither (other n 4 23 is refl) (λ e. absurd cc);
}
asked_by (Some Plt) led n is = record {
  by_linkage = both is (inl refl);
  by_table = neither (other n 4 9 is refl) (λ e. absurd cc);
  by_thread_entry = neither (other n 4 22 is refl) (λ e. absurd cc);
  by_thread_offset = neither (other n 4 23 is refl) (λ e. absurd cc);
}
asked_by (Some GotPcRel) led n is = record {
  by_linkage = neither (other n 9 4 is refl) (unled (Some GotPcRel) led (λ e. absurd cc) (λ e. absurd cc));
  by_table = both is refl;
  by_thread_entry = neither (other n 9 22 is refl) (λ e. absurd cc);
  by_thread_offset = neither (other n 9 23 is refl) (λ e. absurd cc);
}
asked_by (Some GotTpOff) led n is = record {
  by_linkage = neither (other n 22 4 is refl) (unled (Some GotTpOff) led (λ e. absurd cc) (λ e. absurd cc));
  by_table = neither (other n 22 9 is refl) (λ e. absurd cc);
  by_thread_entry = both is refl;
  by_thread_offset = neither (other n 22 23 is refl) (λ e. absurd cc);
}
asked_by (Some TpOff) led n is = record {
  by_linkage = neither (other n 23 4 is refl) (unled (Some TpOff) led (λ e. absurd cc) (λ e. absurd cc));
  by_table = neither (other n 23 9 is refl) (λ e. absurd cc);
  by_thread_entry = neither (other n 23 22 is refl) (λ e. absurd cc);
  by_thread_offset = both is refl;
}

-- a kind with the operand that the suffix asks for has its number
pub asked : (behind : Option Suffix) (led : Bool) (found : RelocationKind) → (row_of found).operand ≡ operand_by behind led → IsAsked behind led (kind_number found)
asked behind led found e = asked_by behind led (kind_number found) (subst (λ (operand : Operand). Numbers operand (kind_number found)) e (kind_numbers found))
