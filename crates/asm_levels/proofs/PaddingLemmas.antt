-- Padding takes an address to the next multiple of an alignment.
use Rattle.std.proofs.Common.{◌≡◌, ℕ, zero, suc, ◌+◌, ◌-◌, ◌%◌, ◌<◌, ◌≤◌, inl, inr, sym, ap, ◌∙◌, arith}
use Rattle.std.proofs.Math.Nat.{mod-add-mod, add-mod-mod, mod_self, mod-lt, mod-eq_of_lt}
use Rattle.std.proofs.lemmas.Bool.{cases_lt}
use Rattle.asm_levels.specs.Sizes.{padding}

pub multiple : (alignment address : ℕ) → 0 < alignment → (address + padding alignment address) % alignment ≡ 0
multiple alignment address positive =
    let below : address % alignment < alignment = mod-lt address positive in
    let whole : address % alignment + (alignment - address % alignment) ≡ alignment = omega arith in
    add-mod-mod address (alignment - address % alignment) alignment ∙ sym (mod-add-mod address alignment (alignment - address % alignment))
    ∙ ap (λ (n : ℕ). n % alignment) whole ∙ mod_self alignment

least_behind : (alignment rest more : ℕ) → 0 < alignment → rest < alignment → (rest + more) % alignment ≡ 0 → (alignment - rest) % alignment ≤ more
least_behind alignment zero more positive below is =
    let none : (alignment - 0) % alignment ≡ 0 = ap (λ (n : ℕ). n % alignment) (let same : alignment - 0 ≡ alignment = omega arith in same) ∙ mod_self alignment in
    omega arith
least_behind alignment (suc rest) more positive below is =
    let own : (alignment - suc rest) % alignment ≡ alignment - suc rest = mod-eq_of_lt (omega arith) in
    elim (cases_lt more (alignment - suc rest)) [
      | inl under ↦
          let same : (suc rest + more) % alignment ≡ suc rest + more = mod-eq_of_lt (omega arith) in
          absurd (omega arith)
      | inr reached ↦ omega arith
    ]

pub least : (alignment address more : ℕ) → 0 < alignment → (address + more) % alignment ≡ 0 → padding alignment address ≤ more
least alignment address more positive is =
    least_behind alignment (address % alignment) more positive (mod-lt address positive) (mod-add-mod address alignment more ∙ is)
