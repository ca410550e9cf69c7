-- The search goes down the chain of the hash.
use Rattle.std.proofs.Common.{◌≡◌, ℕ, ◌+◌, ◌-◌, ◌<◌, ◌≤◌, List, length, get_or, Some, refl, sym, ap, ◌∙◌, arith, slice_get}
use Rattle.std.specs.Option.{option_map}
use Rattle.std.proofs.lemmas.Option.{slice_get-map, slice_get-get_or, slice_get_read}
use Rattle.std.proofs.lemmas.List.{length-map}
use Rattle.asm_symbols.specs.declared.entries.Symbol.{Symbol}
use Rattle.asm_symbols.specs.declared.name_chains.Link.{Link}
use Rattle.asm_symbols.specs.SymbolMap.{names}
use Rattle.asm_symbols.specs.NameChains.{chain_of, hashes_of, sought_name}
use Rattle.asm_symbols.proofs.ChainLemmas.{search_begins, searching_none, search_on, search_smaller, search_found}
use Rattle.asm_symbols.proofs.name_chains.NameChains.find.Goals as goal

pub chain-init : goal.chain-init
chain-init c =
    let hashed = rw (← c.self.view_is) at c.requires.hashed in
    let long : length (hashes_of c.self.inside.links.items) ≡ length c.self.inside.links.items = simp length-map in
    let fit : length c.self.inside.links.items ≤ length c.self.inside.heads.items = c.self.invariant.0.fit in
    let all : length (hashes_of c.self.inside.links.items) + (length c.self.inside.heads.items - length c.self.inside.links.items) ≡ length c.self.inside.heads.items = omega (arith, long, fit) in
    let head : slice_get c.as_slice-heads.result.now c.chain_of.result ≡ Some (get_or c.as_slice-heads.result.now c.chain_of.result 0) =
    slice_get-get_or c.as_slice-heads.result.now c.chain_of.result 0 c.chain_of.ensures.within in
    let same : chain_of (length c.self.inside.heads.items) c.args.hash ≡ c.chain_of.result =
    ap (λ (hs : List ℕ). chain_of (length hs) c.args.hash) (sym c.as_slice-heads.ensures.value) ∙ sym c.chain_of.ensures.value in
    let there : slice_get c.self.inside.heads.items (chain_of (length c.self.inside.heads.items) c.args.hash) ≡ Some (get_or c.as_slice-heads.result.now c.chain_of.result 0) =
    ap (slice_get c.self.inside.heads.items) same ∙ ap (λ (hs : List ℕ). slice_get hs c.chain_of.result) (sym c.as_slice-heads.ensures.value) ∙ head in
    rw (← c.self.view_is)
    (search_begins c.self.inside.heads.items c.self.inside.links.items c.self.invariant.0 (names c.args.symbols.now) (sought_name c.args.sought) c.args.hash
    (length (hashes_of c.self.inside.links.items) + (length c.self.inside.heads.items - length c.self.inside.links.items)) (get_or c.as_slice-heads.result.now c.chain_of.result 0)
    c.requires.own hashed all there)

pub returns-then-is_found : goal.returns-then-is_found
returns-then-is_found c =
    let search = rw (← c.self.view_is) at c.chain.invariant in
    let hashed = rw (← c.self.view_is) at c.requires.hashed in
    let within : c.chain.number ≤ length (hashes_of c.self.inside.links.items) = search.within in
    let long : length (hashes_of c.self.inside.links.items) ≡ length c.self.inside.links.items = simp length-map in
    let fit : length c.self.inside.links.items ≤ length c.self.inside.heads.items = c.self.invariant.0.fit in
    let all : length (hashes_of c.self.inside.links.items) + (length c.self.inside.heads.items - length c.self.inside.links.items) ≡ length c.self.inside.heads.items = omega (arith, long, fit) in
    let as_many : length c.as_slice-links.result.now ≡ length c.self.inside.links.items = ap length c.as_slice-links.ensures.value in
    let some : 0 < c.chain.number = c.chain-test.true in
    let inside : c.chain.number - 1 < length c.as_slice-links.result.now = omega (arith, some, within, long, as_many) in
    let link : Link = get_or c.as_slice-links.result.now (c.chain.number - 1) (record { hash = 0; before = 0 }) in
    let read : slice_get c.as_slice-links.result.now (c.chain.number - 1) ≡ Some link = slice_get-get_or c.as_slice-links.result.now (c.chain.number - 1) (record { hash = 0; before = 0 }) inside in
    let there : slice_get c.self.inside.links.items (c.chain.number - 1) ≡ Some link = ap (λ (ls : List Link). slice_get ls (c.chain.number - 1)) (sym c.as_slice-links.ensures.value) ∙ read in
    let named : length (hashes_of c.self.inside.links.items) ≡ length (names c.args.symbols.now) = hashed.long in
    let symbols : length (names c.args.symbols.now) ≡ length c.args.symbols.now = simp length-map in
    let symbol : slice_get c.args.symbols.now (c.chain.number - 1) ≡ Some c.index-symbols-at.result =
    slice_get_read c.args.symbols.now (length c.args.symbols.now) (c.chain.number - 1) c.index-symbols-at.result refl (omega (arith, some, within, named, symbols)) c.index-symbols-at.is in
    let here : slice_get (names c.args.symbols.now) (c.chain.number - 1) ≡ Some c.index-symbols-at.result.name =
    slice_get-map (λ (s : Symbol). s.name) c.args.symbols.now (c.chain.number - 1) ∙ ap (option_map (λ (s : Symbol). s.name)) symbol in
    search_found c.self.inside.heads.items c.self.inside.links.items c.self.invariant.0 (names c.args.symbols.now) (sought_name c.args.sought) c.args.hash
    (length (hashes_of c.self.inside.links.items) + (length c.self.inside.heads.items - length c.self.inside.links.items)) c.chain.number c.index-symbols-at.result.name link
    c.requires.own hashed all some there here c.requires.apart (sym c.is_found.ensures ∙ c.if-is_found.true)

pub chain-smaller : goal.chain-smaller
chain-smaller c =
    let search = rw (← c.self.view_is) at c.chain.invariant in
    let hashed = rw (← c.self.view_is) at c.requires.hashed in
    let within : c.chain.number ≤ length (hashes_of c.self.inside.links.items) = search.within in
    let long : length (hashes_of c.self.inside.links.items) ≡ length c.self.inside.links.items = simp length-map in
    let fit : length c.self.inside.links.items ≤ length c.self.inside.heads.items = c.self.invariant.0.fit in
    let all : length (hashes_of c.self.inside.links.items) + (length c.self.inside.heads.items - length c.self.inside.links.items) ≡ length c.self.inside.heads.items = omega (arith, long, fit) in
    let as_many : length c.as_slice-links.result.now ≡ length c.self.inside.links.items = ap length c.as_slice-links.ensures.value in
    let some : 0 < c.chain.number = c.chain-test.true in
    let inside : c.chain.number - 1 < length c.as_slice-links.result.now = omega (arith, some, within, long, as_many) in
    let link : Link = get_or c.as_slice-links.result.now (c.chain.number - 1) (record { hash = 0; before = 0 }) in
    let read : slice_get c.as_slice-links.result.now (c.chain.number - 1) ≡ Some link = slice_get-get_or c.as_slice-links.result.now (c.chain.number - 1) (record { hash = 0; before = 0 }) inside in
    let there : slice_get c.self.inside.links.items (c.chain.number - 1) ≡ Some link = ap (λ (ls : List Link). slice_get ls (c.chain.number - 1)) (sym c.as_slice-links.ensures.value) ∙ read in
    let named : length (hashes_of c.self.inside.links.items) ≡ length (names c.args.symbols.now) = hashed.long in
    let symbols : length (names c.args.symbols.now) ≡ length c.args.symbols.now = simp length-map in
    let symbol : slice_get c.args.symbols.now (c.chain.number - 1) ≡ Some c.index-symbols-at.result =
    slice_get_read c.args.symbols.now (length c.args.symbols.now) (c.chain.number - 1) c.index-symbols-at.result refl (omega (arith, some, within, named, symbols)) c.index-symbols-at.is in
    let here : slice_get (names c.args.symbols.now) (c.chain.number - 1) ≡ Some c.index-symbols-at.result.name =
    slice_get-map (λ (s : Symbol). s.name) c.args.symbols.now (c.chain.number - 1) ∙ ap (option_map (λ (s : Symbol). s.name)) symbol in
    search_smaller c.self.inside.heads.items c.self.inside.links.items c.self.invariant.0 (names c.args.symbols.now) (sought_name c.args.sought) c.args.hash
    (length (hashes_of c.self.inside.links.items) + (length c.self.inside.heads.items - length c.self.inside.links.items)) c.chain.number c.index-symbols-at.result.name link
    c.requires.own hashed all some there here search

pub chain-preserved : goal.chain-preserved
chain-preserved c =
    let search = rw (← c.self.view_is) at c.chain.invariant in
    let hashed = rw (← c.self.view_is) at c.requires.hashed in
    let within : c.chain.number ≤ length (hashes_of c.self.inside.links.items) = search.within in
    let long : length (hashes_of c.self.inside.links.items) ≡ length c.self.inside.links.items = simp length-map in
    let fit : length c.self.inside.links.items ≤ length c.self.inside.heads.items = c.self.invariant.0.fit in
    let all : length (hashes_of c.self.inside.links.items) + (length c.self.inside.heads.items - length c.self.inside.links.items) ≡ length c.self.inside.heads.items = omega (arith, long, fit) in
    let as_many : length c.as_slice-links.result.now ≡ length c.self.inside.links.items = ap length c.as_slice-links.ensures.value in
    let some : 0 < c.chain.number = c.chain-test.true in
    let inside : c.chain.number - 1 < length c.as_slice-links.result.now = omega (arith, some, within, long, as_many) in
    let link : Link = get_or c.as_slice-links.result.now (c.chain.number - 1) (record { hash = 0; before = 0 }) in
    let read : slice_get c.as_slice-links.result.now (c.chain.number - 1) ≡ Some link = slice_get-get_or c.as_slice-links.result.now (c.chain.number - 1) (record { hash = 0; before = 0 }) inside in
    let there : slice_get c.self.inside.links.items (c.chain.number - 1) ≡ Some link = ap (λ (ls : List Link). slice_get ls (c.chain.number - 1)) (sym c.as_slice-links.ensures.value) ∙ read in
    let named : length (hashes_of c.self.inside.links.items) ≡ length (names c.args.symbols.now) = hashed.long in
    let symbols : length (names c.args.symbols.now) ≡ length c.args.symbols.now = simp length-map in
    let symbol : slice_get c.args.symbols.now (c.chain.number - 1) ≡ Some c.index-symbols-at.result =
    slice_get_read c.args.symbols.now (length c.args.symbols.now) (c.chain.number - 1) c.index-symbols-at.result refl (omega (arith, some, within, named, symbols)) c.index-symbols-at.is in
    let here : slice_get (names c.args.symbols.now) (c.chain.number - 1) ≡ Some c.index-symbols-at.result.name =
    slice_get-map (λ (s : Symbol). s.name) c.args.symbols.now (c.chain.number - 1) ∙ ap (option_map (λ (s : Symbol). s.name)) symbol in
    rw (← c.self.view_is) (search_on c.self.inside.heads.items c.self.inside.links.items c.self.invariant.0 (names c.args.symbols.now) (sought_name c.args.sought) c.args.hash
    (length (hashes_of c.self.inside.links.items) + (length c.self.inside.heads.items - length c.self.inside.links.items)) c.chain.number c.index-symbols-at.result.name link
    c.requires.own hashed all some there here search (sym c.is_found.ensures ∙ c.if-is_found.false))

pub returns : goal.returns
returns c =
    let none : c.chain.number ≡ 0 = omega (arith, c.chain-test.false) in
    sym (searching_none (names c.args.symbols.now) c.args.self.now.hashes (length c.args.self.now.hashes + c.args.self.now.room) (sought_name c.args.sought) c.args.hash c.chain.number c.chain.invariant none)
