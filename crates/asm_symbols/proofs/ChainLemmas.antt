-- Chains of places by the hashes of what stands there.
use Rattle.std.proofs.Common.{◌≡◌, ◌≢◌, true≢false, ℕ, zero, suc, ◌+◌, ◌-◌, ◌^◌, ◌==◌, ◌<◌, ◌≤◌, ◌⊎◌, inl, inr, Bool, true, false, cond, ◌&&◌, List, [], ◌∷◌, ◌++◌, length, set, replicate, Option, None, Some, refl, sym, ap, ◌∙◌, arith, eq-eqb, slice_get, length-append}
use Rattle.std.specs.Option.{option_map}
use Rattle.std.proofs.lemmas.Bool.{eqb-true}
use Rattle.std.proofs.lemmas.List.{length-map, map-append}
use Rattle.std.proofs.lemmas.Option.{slice_get-map, slice_get_within, same_Some}
use Rattle.std.proofs.lemmas.Nat.{and_le_r}
use Rattle.asm_expr.specs.declared.naming.Name.{Name}
use Rattle.asm_expr.specs.declared.naming.Name.TheVariants as naming
use Rattle.asm_symbols.specs.declared.name_chains.Link.{Link}
use Rattle.asm_expr.specs.Names.{same_name}
use Rattle.asm_symbols.specs.SymbolMap.{index_of}
use Rattle.asm_symbols.specs.NameChains.{HasHash, chain_of, is_in, last_in, hashes_of, AreChained, AreHashed}
use Rattle.asm_symbols.specs.Sound.{AreFound}
use Rattle.asm_symbols.proofs.SameNames.{own_name, same_from_test}
use Rattle.asm_symbols.proofs.IndexLemmas.{slice_get-index_of}

both : (a b : Bool) → (a && b) ≡ true → (a ≡ true) × (b ≡ true)
both true true is = (refl, refl)
both true false is = cc
both false b is = cc

-- a chain is one of so many
pub chain_within : (count hash : ℕ) → 0 < count → chain_of count hash < count
unfolding chain_of
chain_within count hash some = omega (arith, and_le_r hash (count - 1))

-- what stands in a list with one more is one of the list, or the one more
pub one_of_more : {X : Type 0} (xs : List X) (x y : X) (at : ℕ) → slice_get (xs ++ x ∷ []) at ≡ Some y → (slice_get xs at ≡ Some y) ⊎ ((at ≡ length xs) × (y ≡ x))
one_of_more [] x y zero is = inr (refl, cc)
one_of_more [] x y (suc at) is = inl is
one_of_more (first ∷ xs) x y zero is = inl is
one_of_more (first ∷ xs) x y (suc at) is = elim (one_of_more xs x y at is) [ inl there ↦ inl there | inr last ↦ inr (ap suc last.0, last.1) ]

-- what stands in a list stands there with more behind it
pub slice_get-before : {X : Type 0} (xs ys : List X) (at : ℕ) → at < length xs → slice_get (xs ++ ys) at ≡ slice_get xs at
slice_get-before [] ys at inside = absurd (omega arith)
slice_get-before (x ∷ xs) ys zero inside = refl
slice_get-before (x ∷ xs) ys (suc at) inside = slice_get-before xs ys at (omega arith)

pub slice_get-last : {X : Type 0} (xs : List X) (x : X) → slice_get (xs ++ x ∷ []) (length xs) ≡ Some x
slice_get-last [] x = refl
slice_get-last (first ∷ xs) x = slice_get-last xs x

-- a write keeps the length
pub length-set : {X : Type 0} (xs : List X) (at : ℕ) (x : X) → length (set xs at x) ≡ length xs
length-set [] at x = refl
length-set (y ∷ xs) zero x = refl
length-set (y ∷ xs) (suc at) x = ap suc (length-set xs at x)

-- what a list holds where one of its elements was written
pub slice_get-set_here : {X : Type 0} (xs : List X) (at : ℕ) (x : X) → at < length xs → slice_get (set xs at x) at ≡ Some x
slice_get-set_here [] at x inside = absurd (omega arith)
slice_get-set_here (y ∷ xs) zero x inside = refl
slice_get-set_here (y ∷ xs) (suc at) x inside = slice_get-set_here xs at x (omega arith)

pub slice_get-set_other : {X : Type 0} (xs : List X) (at other : ℕ) (x : X) → at ≢ other → slice_get (set xs at x) other ≡ slice_get xs other
slice_get-set_other [] at other x apart = refl
slice_get-set_other (y ∷ xs) zero zero x apart = absurd (apart refl)
slice_get-set_other (y ∷ xs) zero (suc other) x apart = refl
slice_get-set_other (y ∷ xs) (suc at) zero x apart = refl
slice_get-set_other (y ∷ xs) (suc at) (suc other) x apart = slice_get-set_other xs at other x (λ same. apart (ap suc same))

differ_from : (a b : ℕ) → (a == b) ≡ false → a ≢ b
differ_from a b is = λ same. true≢false (sym (eq-eqb a b same) ∙ is)

module _ (count chain : ℕ) where
  -- the last place of a chain is one of the places
  last_by : (b : Bool) (hashes : List ℕ) (n : ℕ) → last_in count chain hashes n ≤ n → cond b (suc n) (last_in count chain hashes n) ≤ suc n
  last_by true hashes n few = omega arith
  last_by false hashes n few = omega arith

  pub last_within : (hashes : List ℕ) (n : ℕ) → last_in count chain hashes n ≤ n
  unfolding last_in
  last_within hashes zero = omega arith
  last_within hashes (suc n) = last_by (is_in count chain (slice_get hashes n)) hashes n (last_within hashes n)

  -- its hash is of the chain
  is_last : (b : Bool) (hashes : List ℕ) (n at hash : ℕ) → is_in count chain (slice_get hashes n) ≡ b
      → (last_in count chain hashes n ≡ suc at → chain_of count hash ≡ chain) → cond b (suc n) (last_in count chain hashes n) ≡ suc at
      → slice_get hashes at ≡ Some hash → chain_of count hash ≡ chain
  is_last true hashes n at hash is later last there =
      let same : n ≡ at = omega (arith, last) in
      eqb-true (chain_of count hash) chain (rw (same, there) at is)
  is_last false hashes n at hash is later last there = later last

  pub last_is_in : (hashes : List ℕ) (n at hash : ℕ) → last_in count chain hashes n ≡ suc at → slice_get hashes at ≡ Some hash → chain_of count hash ≡ chain
  unfolding last_in
  last_is_in hashes zero at hash last there = cc
  last_is_in hashes (suc n) at hash last there =
      is_last (is_in count chain (slice_get hashes n)) hashes n at hash refl (λ is. last_is_in hashes n at hash is there) last there

  -- no place behind it is in the chain
  none_at : (hashes : List ℕ) (n at hash : ℕ) (c : Bool) → (at == n) ≡ c → is_in count chain (slice_get hashes n) ≡ false → slice_get hashes at ≡ Some hash → chain_of count hash ≡ chain → at < suc n → at < n
  none_at hashes n at hash true same is there own inside =
      let is_n : at ≡ n = eqb-true at n same in
      absurd (true≢false (sym (eq-eqb (chain_of count hash) chain own) ∙ rw (← is_n, there) at is))
  none_at hashes n at hash false apart is there own inside = omega (arith, differ_from at n apart)

  none_by : (b : Bool) (hashes : List ℕ) (n at hash : ℕ) → is_in count chain (slice_get hashes n) ≡ b → (last_in count chain hashes n ≤ at → at < n → ⊥)
      → cond b (suc n) (last_in count chain hashes n) ≤ at → at < suc n → slice_get hashes at ≡ Some hash → chain_of count hash ≡ chain → ⊥
  none_by true hashes n at hash is later behind inside there own = omega arith
  none_by false hashes n at hash is later behind inside there own = later behind (none_at hashes n at hash (at == n) refl is there own inside)

  pub none_behind_last : (hashes : List ℕ) (n at hash : ℕ) → last_in count chain hashes n ≤ at → at < n → slice_get hashes at ≡ Some hash → chain_of count hash ≡ chain → ⊥
  unfolding last_in
  none_behind_last hashes zero at hash behind inside there own = omega arith
  none_behind_last hashes (suc n) at hash behind inside there own =
      none_by (is_in count chain (slice_get hashes n)) hashes n at hash refl (λ before less. none_behind_last hashes n at hash before less there own) behind inside there own

  -- places behind do not count
  pub last_in-before : (hashes more : List ℕ) (n : ℕ) → n ≤ length hashes → last_in count chain (hashes ++ more) n ≡ last_in count chain hashes n
  unfolding last_in
  last_in-before hashes more zero few = refl
  last_in-before hashes more (suc n) few = rw (slice_get-before hashes more n (omega arith), last_in-before hashes more n (omega arith)) refl

-- a name has one hash
pub one_hash : (name : Name) (hash other : ℕ) → HasHash name hash → HasHash name other → hash ≡ other
one_hash (naming.Plain text) hash other one two = let same : one.start ≡ two.start = one.begins ∙ sym two.begins in one.value ∙ rw same (sym two.value)
one_hash (naming.Numeric number instance) hash other one two = one ∙ sym two
one_hash (naming.Place section item offset) hash other one two = one ∙ sym two

-- one of two numbers is the smaller, or they are one
number_before : (a b : ℕ) → (a < b) ⊎ (b ≤ a)
number_before zero zero = inr (omega arith)
number_before zero (suc b) = inl (omega arith)
number_before (suc a) zero = inr (omega arith)
number_before (suc a) (suc b) = elim (number_before a b) [ inl less ↦ inl (omega arith) | inr more ↦ inr (omega arith) ]

-- what is known of a search for a name from the place of a number on
pub record IsSearching (ns : List Name) (hashes : List ℕ) (count : ℕ) (name : Name) (hash number : ℕ) : Type 0 where
  pub within : number ≤ length hashes
  pub chained : (at : ℕ) (other : ℕ) → number ≡ suc at → slice_get hashes at ≡ Some other → chain_of count other ≡ chain_of count hash
  pub absent : (at : ℕ) → number ≤ at → slice_get ns at ≡ Some name → ⊥

module _ (links : List Link) (ns : List Name) (count : ℕ) (name : Name) (hash : ℕ) (own : HasHash name hash) (hashed : AreHashed (hashes_of links) ns) where
  -- from the last of the first places of its chain on
  absent_last : (n number : ℕ) → number ≡ last_in count (chain_of count hash) (hashes_of links) n → (at : ℕ) → number ≤ at → at < n → slice_get ns at ≡ Some name → ⊥
  absent_last n number is at behind inside there =
      let held = hashed.each at name there in
      let same : held.hash ≡ hash = one_hash name held.hash hash held.own own in
      none_behind_last count (chain_of count hash) (hashes_of links) n at held.hash (rw (← is) behind) inside held.there (ap (chain_of count) same)

  pub searching_from : (n number : ℕ) → number ≡ last_in count (chain_of count hash) (hashes_of links) n → n ≤ length links
      → ((at : ℕ) → n ≤ at → slice_get ns at ≡ Some name → ⊥) → IsSearching ns (hashes_of links) count name hash number
  searching_from n number is few later =
      let long : length (hashes_of links) ≡ length links = simp length-map in
      let before : last_in count (chain_of count hash) (hashes_of links) n ≤ n = last_within count (chain_of count hash) (hashes_of links) n in
      record {
        within = omega arith;
        chained = λ at other next there. last_is_in count (chain_of count hash) (hashes_of links) n at other (sym is ∙ next) there;
        absent = λ at behind there. by at (number_before at n) behind there;
      }
    where
      by : (at : ℕ) → (at < n) ⊎ (n ≤ at) → number ≤ at → slice_get ns at ≡ Some name → ⊥
      by at (inl inside) behind there = absent_last n number is at behind inside there
      by at (inr past) behind there = later at past there

module _ (heads : List ℕ) (links : List Link) (chained : AreChained heads links) (ns : List Name) (name : Name) (hash : ℕ) (own : HasHash name hash) (hashed : AreHashed (hashes_of links) ns) where
  past_all : (at : ℕ) → length links ≤ at → slice_get ns at ≡ Some name → ⊥
  past_all at past there =
      let long : length (hashes_of links) ≡ length links = simp length-map in
      let inside = slice_get_within ns at name there in
      let all = hashed.long in
      omega arith

  -- the search begins at the head of the chain
  pub searching_head : (number : ℕ) → slice_get heads (chain_of (length heads) hash) ≡ Some number → IsSearching ns (hashes_of links) (length heads) name hash number
  searching_head number there =
      searching_from links ns (length heads) name hash own hashed (length links) number (chained.last (chain_of (length heads) hash) number there) (omega arith) past_all

  -- and goes on at the place before, where the name is not at this one
  pub searching_next : (at : ℕ) (link : Link) → IsSearching ns (hashes_of links) (length heads) name hash (suc at) → slice_get links at ≡ Some link
      → (slice_get ns at ≡ Some name → ⊥) → IsSearching ns (hashes_of links) (length heads) name hash link.before
  searching_next at link search there other =
      let held : slice_get (hashes_of links) at ≡ Some link.hash = slice_get-map (λ (l : Link). l.hash) links at ∙ ap (option_map (λ (l : Link). l.hash)) there in
      let same : chain_of (length heads) link.hash ≡ chain_of (length heads) hash = search.chained at link.hash refl held in
      let inside = slice_get_within links at link there in
      searching_from links ns (length heads) name hash own hashed at link.before (rw same at (chained.before at link there)) (omega arith)
      (λ place behind is. by place (number_before at place) behind is)
    where
      by : (place : ℕ) → (at < place) ⊎ (place ≤ at) → at ≤ place → slice_get ns place ≡ Some name → ⊥
      by place (inl past) behind is = search.absent place (omega arith) is
      by place (inr before) behind is = let same : place ≡ at = omega arith in other (rw same at is)

-- a name that stands nowhere is not found
pub searching_none : (ns : List Name) (hashes : List ℕ) (count : ℕ) (name : Name) (hash number : ℕ) → IsSearching ns hashes count name hash number → number ≡ 0 → index_of name ns ≡ None
searching_none ns hashes count name hash number search none = by (index_of name ns) refl
  where
    by : (o : Option ℕ) → index_of name ns ≡ o → o ≡ None
    by None is = refl
    by (Some at) is = absurd (search.absent at (omega arith) (slice_get-index_of name ns at is))

-- the search begins at the head of the chain
pub search_begins : (heads : List ℕ) (links : List Link) → AreChained heads links → (ns : List Name) (name : Name) (hash count number : ℕ) → HasHash name hash → AreHashed (hashes_of links) ns
    → count ≡ length heads → slice_get heads (chain_of (length heads) hash) ≡ Some number → IsSearching ns (hashes_of links) count name hash number
search_begins heads links chained ns name hash count number own hashed all there = rw all (searching_head heads links chained ns name hash own hashed number there)

-- a step of the search, at the place before a number
module _ (heads : List ℕ) (links : List Link) (chained : AreChained heads links) (ns : List Name) (name : Name) (hash count number : ℕ) (stands : Name) (link : Link)
    (own : HasHash name hash) (hashed : AreHashed (hashes_of links) ns) (all : count ≡ length heads) (some : 0 < number)
    (there : slice_get links (number - 1) ≡ Some link) (here : slice_get ns (number - 1) ≡ Some stands) where
  -- where the name does not stand there, it goes on
  not_there : (link.hash == hash && same_name name stands) ≡ false → slice_get ns (number - 1) ≡ Some name → ⊥
  not_there test is =
      let held = hashed.each (number - 1) name is in
      let own_name_is : stands ≡ name = same_Some _ _ (sym here ∙ is) in
      let link_is : slice_get (hashes_of links) (number - 1) ≡ Some link.hash = slice_get-map (λ (l : Link). l.hash) links (number - 1) ∙ ap (option_map (λ (l : Link). l.hash)) there in
      let hash_is : link.hash ≡ held.hash = same_Some _ _ (sym link_is ∙ held.there) in
      let same : link.hash ≡ hash = hash_is ∙ one_hash name held.hash hash held.own own in
      true≢false (sym (rw (own_name_is, eq-eqb link.hash hash same) (own_name name)) ∙ test)

  pub search_on : IsSearching ns (hashes_of links) count name hash number → (link.hash == hash && same_name name stands) ≡ false → IsSearching ns (hashes_of links) count name hash link.before
  search_on search test =
      let one : number ≡ suc (number - 1) = omega arith in
      rw all (searching_next heads links chained ns name hash own hashed (number - 1) link (rw (← one, ← all) search) there (not_there test))

  pub search_smaller : IsSearching ns (hashes_of links) count name hash number → link.before < number
  search_smaller search =
      let before = chained.before (number - 1) link there in
      let few = last_within (length heads) (chain_of (length heads) link.hash) (hashes_of links) (number - 1) in
      omega (arith, before, few)

  -- where it stands there, it is found
  pub search_found : AreFound ns → (link.hash == hash && same_name name stands) ≡ true → Some (number - 1) ≡ index_of name ns
  search_found apart test =
      let same = (both (link.hash == hash) (same_name name stands) test).1 in
      sym (apart (number - 1) name (here ∙ ap Some (sym (same_from_test name stands same))))

-- one place more in the chain of its hash
module _ (heads : List ℕ) (links : List Link) (chained : AreChained heads links) (link : Link) where
  more_hashes : hashes_of (links ++ link ∷ []) ≡ hashes_of links ++ link.hash ∷ []
  more_hashes = map-append (λ (l : Link). l.hash) links (link ∷ [])

  abbrev chain : ℕ
  chain = chain_of (length heads) link.hash

  -- the last place of each chain with one place more
  last_more : (other : ℕ) (b : Bool) → (chain == other) ≡ b → last_in (length heads) other (hashes_of links ++ link.hash ∷ []) (suc (length links))
      ≡ cond b (suc (length links)) (last_in (length heads) other (hashes_of links) (length links))
  unfolding last_in
  last_more other b is =
      let long : length (hashes_of links) ≡ length links = simp length-map in
      let there : slice_get (hashes_of links ++ link.hash ∷ []) (length links) ≡ Some link.hash = rw (← long) (slice_get-last (hashes_of links) link.hash) in
      rw (there, is) (ap (cond b (suc (length links))) (last_in-before (length heads) other (hashes_of links) (link.hash ∷ []) (length links) (omega arith)))

  module _ (few : length links + 1 < 2 ^ 32) (room : length links < length heads) (head : slice_get heads chain ≡ Some link.before) where
    last_by_place : (other number : ℕ) (b : Bool) → (chain == other) ≡ b → slice_get (set heads chain (suc (length links))) other ≡ Some number
        → number ≡ cond b (suc (length links)) (last_in (length heads) other (hashes_of links) (length links))
    last_by_place other number true is there =
        let same : chain ≡ other = eqb-true chain other is in
        let here = slice_get-set_here heads chain (suc (length links)) (slice_get_within heads chain link.before head) in
        let some : Some number ≡ Some (suc (length links)) = sym there ∙ rw (← same) here in
        cc
    last_by_place other number false is there =
        chained.last other number (sym (slice_get-set_other heads chain other (suc (length links)) (differ_from chain other is)) ∙ there)

    last_pushed : (other number : ℕ) → slice_get (set heads chain (suc (length links))) other ≡ Some number
        → number ≡ last_in (length heads) other (hashes_of links ++ link.hash ∷ []) (suc (length links))
    last_pushed other number there = last_by_place other number (chain == other) refl there ∙ sym (last_more other (chain == other) refl)

    before_by : (at : ℕ) (some : Link) → (slice_get links at ≡ Some some) ⊎ ((at ≡ length links) × (some ≡ link))
        → some.before ≡ last_in (length heads) (chain_of (length heads) some.hash) (hashes_of links ++ link.hash ∷ []) at
    before_by at some (inl there) =
        let inside = slice_get_within links at some there in
        let long : length (hashes_of links) ≡ length links = simp length-map in
        chained.before at some there ∙ sym (last_in-before (length heads) (chain_of (length heads) some.hash) (hashes_of links) (link.hash ∷ []) at (omega arith))
    before_by at some (inr last) =
        let long : length (hashes_of links) ≡ length links = simp length-map in
        rw (last.0, last.1) (chained.last chain link.before head ∙ sym (last_in-before (length heads) chain (hashes_of links) (link.hash ∷ []) (length links) (omega arith)))

    -- the links are chained with it
    pub AreChained-push : AreChained (set heads chain (suc (length links))) (links ++ link ∷ [])
    AreChained-push =
        let as_many : length (set heads chain (suc (length links))) ≡ length heads = length-set heads chain (suc (length links)) in
        let one : length (links ++ link ∷ []) ≡ suc (length links) = length-append links (link ∷ []) ∙ omega arith in
        record {
          few = omega (arith, one);
          fit = omega (arith, one, as_many);
          last = λ other number there. rw (as_many, one, more_hashes) (last_pushed other number there);
          before = λ at some there. rw (as_many, more_hashes) (before_by at some (one_of_more links link some at there));
        }

-- where there are no places each head is 0
is_zero : (n chain number : ℕ) → slice_get (replicate n 0) chain ≡ Some number → number ≡ 0
is_zero zero chain number there = cc
is_zero (suc n) zero number there = cc
is_zero (suc n) (suc chain) number there = is_zero n chain number there

no_place : (n chain : ℕ) → last_in n chain [] 0 ≡ 0
unfolding last_in
no_place n _ = refl

pub AreChained-none : (count : ℕ) → AreChained (replicate count 0) []
AreChained-none count = record {
  few = omega arith;
  fit = omega arith;
  last = λ chain number there. is_zero count chain number there ∙ sym (no_place (length (replicate count 0)) chain);
  before = λ at link there. cc;
}
