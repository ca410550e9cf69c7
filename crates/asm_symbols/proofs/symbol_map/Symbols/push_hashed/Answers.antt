-- The fields hold a symbol more.
use Rattle.std.proofs.Common.{◌≡◌, ℕ, ◌+◌, ◌^◌, ◌<◌, Bool, true, false, cond, length, None, Some, arith, sum_by}
use Rattle.std.proofs.lemmas.List.{length-map}
use Rattle.asm_symbols.specs.SymbolMap.{names}
use Rattle.asm_symbols.specs.Interning.{name_size}
use Rattle.asm_symbols.proofs.SoundLemmas.{IsSound-name}
use Rattle.asm_symbols.proofs.symbol_map.Symbols.push_hashed.Goals as goal

fitting : (fits : Bool) (bytes sum : ℕ) → Some bytes ≡ cond fits (Some sum) None → bytes ≡ sum
fitting true bytes sum is = cc
fitting false bytes sum is = cc

pub invariant_of-self-2 : goal.invariant_of-self-2
invariant_of-self-2 c =
    let new = rw (← c.self.view_is) at c.requires.new in
    let total : c.self.inside.bytes ≡ sum_by name_size (names c.self.inside.symbols.items) + sum_by name_size c.self.inside.files.items = c.self.invariant.within.total in
    let sum = fitting _ c.in-Some.bytes (sum_by name_size (names c.self.inside.symbols.items) + sum_by name_size c.self.inside.files.items + name_size c.args.name) (rw (← c.self.view_is) at c.in-Some.ensures) in
    let own : c.in-Some.bytes ≡ c.self.inside.bytes + name_size c.args.name = omega (arith, sum) in
    let few : length c.self.inside.symbols.items + 1 < 2 ^ 32 = omega (arith, c.if-place.false) in
    rw (c.in_ok-push.ensures.ok, c.push_reserved.ensures.items, c.reserve.ensures.items, c.undefined.ensures, own)
    (IsSound-name c.self.inside.index c.self.inside.symbols.items c.self.inside.files.items c.self.inside.counts.entries c.self.inside.bytes c.args.name c.args.hash c.requires.own c.self.invariant new few)

pub push-requires : goal.push-requires
push-requires c =
    let long : length (names c.self.inside.symbols.items) ≡ length c.self.inside.symbols.items = simp length-map in
    let hashes : length c.self.inside.index ≡ length (names c.self.inside.symbols.items) = c.self.invariant.indexed.hashed.long in
    omega (arith, c.if-place.false)
