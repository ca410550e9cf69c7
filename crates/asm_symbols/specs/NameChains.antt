-- Where names stand in a list: chains of places by the hashes of what stands there.
use Rattle.std.specs.Prelude.{◌≡◌, ℕ, zero, suc, ◌+◌, ◌-◌, ◌*◌, ◌/◌, ◌%◌, ◌^◌, ◌==◌, ◌<◌, ◌≤◌, Bool, false, List, length, map, Option, None, Some, slice_get, if◌then◌else◌}
use Rattle.std.specs.Int.RustNames.{bit_and}
use Rattle.std.specs.contracts.prelude.FoldHasherHasher.TheImpl as hashing
use Rattle.std.specs.contracts.prelude.FoldHasherDefault.TheImpl as beginning
use Rattle.std.specs.declared.hash.FoldHasher.{FoldHasher}
use Rattle.asm_expr.specs.declared.naming.Name.{Name}
use Rattle.asm_expr.specs.declared.naming.Name.TheVariants as naming
use Rattle.asm_symbols.specs.declared.name_chains.Link.{Link}
use Rattle.asm_symbols.specs.declared.name_chains.Sought.{Sought}
use Rattle.asm_symbols.specs.declared.name_chains.Sought.TheVariants as sought

-- the hash is that of the text, by a hasher as each begins
pub record IsHashOf (text : List ℕ) (hash : ℕ) : Type 0 where
  pub start : FoldHasher
  pub begins : beginning.is_default-value.it start
  pub value : hash ≡ hashing.finish-value.it (hashing.write-value.it start text) / 2 ^ 32

-- an odd number whose multiples spread over 32 bits
abbrev pub spreading : ℕ
spreading = 2654435761

-- the hash of an instance of a numeric label
unfoldable pub numeric_hash : ℕ → ℕ → ℕ
numeric_hash number instance = (number * spreading + instance) % 2 ^ 32

-- the hash of the place of a section behind so many items and plain bytes
unfoldable pub place_hash : ℕ → ℕ → ℕ → ℕ
place_hash section item offset = (section * spreading + item * 2 + offset / 16) % 2 ^ 32

-- the hash is that of the name
abbrev pub HasHash : Name → ℕ → Type 0
HasHash (naming.Plain text) hash = IsHashOf text hash
HasHash (naming.Numeric number instance) hash = hash ≡ numeric_hash number instance
HasHash (naming.Place section item offset) hash = hash ≡ place_hash section item offset

-- the hash of this name stands at the place
pub record IsHashedAt (hashes : List ℕ) (at : ℕ) (name : Name) : Type 0 where
  pub hash : ℕ
  pub there : slice_get hashes at ≡ Some hash
  pub own : HasHash name hash

-- each name has its hash
pub record AreHashed (hashes : List ℕ) (ns : List Name) : Type 0 where
  pub long : length hashes ≡ length ns
  pub each : (at : ℕ) (name : Name) → slice_get ns at ≡ Some name → IsHashedAt hashes at name

-- the name that is looked for
abbrev pub sought_name : Sought → Name
sought_name (sought.Text text) = naming.Plain text.now
sought_name (sought.Numeric number instance) = naming.Numeric number instance
sought_name (sought.Place section item offset) = naming.Place section item offset

-- the hashes of what stands at the places, and how many places more there is room for
pub record HashedPlaces : Type 0 where
  pub hashes : List ℕ
  pub room : ℕ

-- the chain of a hash among so many
unfoldable pub chain_of : ℕ → ℕ → ℕ
chain_of count hash = bit_and hash (count - 1)

-- whether the hash, if there is one, is of the chain among so many
abbrev pub is_in : ℕ → ℕ → Option ℕ → Bool
is_in count chain None = false
is_in count chain (Some hash) = chain_of count hash == chain

-- the number of the last of the first places that is in the chain, from 1; 0 where none is
unfoldable pub last_in : ℕ → ℕ → List ℕ → ℕ → ℕ
last_in count chain hashes zero = 0
last_in count chain hashes (suc n) = if is_in count chain (slice_get hashes n) then suc n else last_in count chain hashes n

-- the hashes of links
abbrev pub hashes_of : List Link → List ℕ
hashes_of links = map (λ link. link.hash) links

-- each head is the last place of its chain, and each link leads to the place before it in its own chain
pub record AreChained (heads : List ℕ) (links : List Link) : Type 0 where
  pub few : length links < 2 ^ 32
  pub fit : length links ≤ length heads
  pub last : (chain number : ℕ) → slice_get heads chain ≡ Some number → number ≡ last_in (length heads) chain (hashes_of links) (length links)
  pub before : (at : ℕ) (link : Link) → slice_get links at ≡ Some link → link.before ≡ last_in (length heads) (chain_of (length heads) link.hash) (hashes_of links) at
