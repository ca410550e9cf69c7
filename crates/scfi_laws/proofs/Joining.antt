-- Executions over bytes are executions from item to item.
use Rattle.std.proofs.Common.{◌≡◌, ◌+◌, ◌-◌, ◌<◌, ◌⊎◌, ℕ, zero, suc, true, false, List, [], ◌∷◌, length, sum, Option, Some, None, slice_get, refl, sym, ap, subst, inl, inr, arith, ◌∙◌}
use Rattle.std.proofs.lemmas.List.Sums.{sum_by-cons}
use Rattle.std.proofs.Math.Nat.{eq-or-lt_of_le}
use Rattle.insn_effects.specs.Followed.{Followed, followed_by, unsupported_by, is_padding, is_data}
use Rattle.code_functions.specs.declared.items.CodeItem.{CodeItem}
use Rattle.flow_graph.specs.declared.nodes.Node.{Node}
use Rattle.scfi_pass.specs.Tables.{Analyzed}
use Rattle.x86_steps.specs.States.{State, IsRanged}
use Rattle.x86_steps.specs.Readings.{IsReading}
use Rattle.scfi_laws.specs.Performing.{Performs, SameFollowed}
use Rattle.scfi_laws.specs.Executions.{Keeps, IsStart, KeptStep, KeptExecution}
use Rattle.scfi_laws.specs.Functions.{IsFunction, AreTraced}
use Rattle.scfi_laws.specs.ItemLaws.{passed}
use Rattle.scfi_laws.specs.Laid.{Kind, plain, directed, padding, inert, size, Holds, IsTarget, Arrives, Stays, IsTraced, Moves, IsCovered, IsIdle, ReadsOnly, ReadsPadding, ReadsItem, IsInstruction, Fits, IsLaid}
use Rattle.scfi_laws.specs.ByteExecutions.{at, ByteStep, KeepsHeld, KeptByBytes, IsEntry, Stands}
use Rattle.scfi_laws.specs.ByteLaws.{BytesAreItems}
use Rattle.scfi_laws.proofs.Elements.{element}
use Rattle.scfi_laws.proofs.DistanceLemmas.{walked}
use Rattle.scfi_laws.proofs.Returning.{not_true}
use Rattle.scfi_laws.proofs.SuccessorLemmas.{target_next, falls_next}
use Rattle.scfi_laws.proofs.Placing.{performs_at, keeps_elsewhere, same_self, same_on, idle_performs, idle_keeps}

-- the next item is one where it begins before the end
inside_next : (starts : ℕ → ℕ) (n i : ℕ) → i < n → starts (i + 1) < starts n → i + 1 < n
inside_next starts n i h b = by (eq-or-lt_of_le {n = i + 1} {m = n} (omega arith))
  where
    by : ((i + 1 ≡ n) ⊎ (i + 1 < n)) → i + 1 < n
    by (inl e) = let s = ap starts e in absurd (omega arith)
    by (inr l) = l

-- an execution from item to item, and where it is in the bytes of the item
abbrev pub Within : (code : List ℕ) → Kind → (begins ends : ℕ) → (core now : State) → Type 0
Within code (plain n) begins ends core now = (now.place ≡ begins) × (now ≡ at now.place core)
Within code (directed n) begins ends core now = (now.place ≡ begins) × (now ≡ at now.place core)
Within code (padding lengths) begins ends core now = ((rest : List ℕ) × ReadsPadding code rest now.place × (now.place + sum rest ≡ ends)) × SameFollowed core now
Within code (inert n) begins ends core now = ⊥

module _ (a : Analyzed) (kinds : ℕ → Kind) (starts : ℕ → ℕ) (code : List ℕ) (start : State) (function : IsFunction a) (traced : AreTraced a) (laid : IsLaid a kinds starts code)
    (begun : IsStart a (at 0 start)) where
  abbrev count : ℕ
  count = length a.items

  abbrev end : ℕ
  end = starts (length a.items)

  abbrev Kept : List State → State → Type 0
  Kept earlier now = KeptExecution a (at 0 start) earlier now

  abbrev Step : (i j : ℕ) → State → State → Type 0
  Step i j s t = KeptStep a (at 0 start) (at i s) (at j t)

  -- the item of a number, and its node
  record Here (i : ℕ) : Type 0 where
    item : CodeItem
    node : Node
    there : slice_get a.items i ≡ Some item
    known : slice_get a.nodes i ≡ Some node

  here : (i : ℕ) → i < length a.items → Here i
  here i low =
      let item = element a.items i low in
      let node = element a.nodes i (let many = function.as_many in omega arith) in
      record { item = item.0; node = node.0; there = item.1; known = node.1 }

  pub record Standing (now : State) : Type 0 where
    pub number : ℕ
    pub core : State
    pub earlier : List State
    pub holds : Holds starts (length a.items) number now.place
    pub execution : Kept earlier (at number core)
    pub within : Within code (kinds number) (starts number) (starts (number + 1)) core now
    pub range : IsRanged now

  -- an item to which an execution comes is followed
  traced_at : (earlier : List State) (i : ℕ) (c : State) → Kept earlier (at i c) → (x : Here i) → IsTraced x.item x.node
  traced_at earlier i c e x =
      let reached : a.reached i ≡ true = (function.analyzed.reached i).1 (passed earlier, walked a (at 0 start) begun earlier (at i c) e) in
      record {
        target = not_true x.node.untraced (λ is. traced.jumps i x.item x.node reached x.there x.known is);
        insn = not_true (is_data x.item.effect.role) (λ is. traced.instructions i x.item x.node reached x.there x.known is);
        usage = not_true (unsupported_by x.item.effect.role) (λ is. traced.uses i x.item x.node reached x.there x.known is);
      }

  -- padding is passed with the registers and memory that it found
  idle_step : (i : ℕ) (x : Here i) (s t : State) → is_padding x.item.effect.role ≡ true → x.node.falls ≡ true → i + 1 < length a.items → IsRanged t → SameFollowed s t → Step i (i + 1) s t
  idle_step i x s t idles falls low range same =
      let here_same : SameFollowed (at i s) (at (i + 1) t) = record { registers = same.registers; memory = same.memory } in
      record {
        item = x.item;
        there = x.there;
        next = falls_next a.nodes i x.node x.known falls (let many = function.as_many in omega arith);
        performs = idle_performs x.item.effect (at i s) (at (i + 1) t) idles here_same;
        range = range;
        keeps = idle_keeps x.item.effect a (at 0 start) (at i s) (at (i + 1) t) idles here_same;
      }

  -- from an item's beginning over the items of no bytes to the one that holds the place
  stand_or_pass : (i : ℕ) (c : State) (earlier : List State) → i < length a.items → starts i < starts (length a.items) → IsRanged c → Kept earlier (at i c) → (x : Here i)
      → (kind : Kind) → kinds i ≡ kind → Fits kind x.item x.node → ReadsItem starts code (starts i) kind x.item x.node → starts (i + 1) ≡ starts i + size kind
      → (starts (i + 1) < starts (length a.items) → Kept (at i c ∷ earlier) (at (i + 1) c) → Standing (at (starts (i + 1)) c)) → Standing (at (starts i) c)
  stand_or_pass i c earlier h b r e x kind is fits reads sized again = by kind is fits reads sized
    where
      stands : (y : Kind) → kinds i ≡ y → starts i < starts (i + 1) → Within code y (starts i) (starts (i + 1)) c (at (starts i) c) → Standing (at (starts i) c)
      stands y w l within = record {
        number = i;
        core = c;
        earlier = earlier;
        holds = record { inside = h; begins = omega arith; ends = l };
        execution = e;
        within = subst (λ z. Within code z (starts i) (starts (i + 1)) c (at (starts i) c)) (sym w) within;
        range = r;
      }

      by_sum : (lengths : List ℕ) → kinds i ≡ padding lengths → (is_padding x.item.effect.role ≡ true) × (x.node.falls ≡ true) → ReadsPadding code lengths (starts i)
          → starts (i + 1) ≡ starts i + sum lengths → (n : ℕ) → sum lengths ≡ n → Standing (at (starts i) c)
      by_sum lengths w idles padded l zero z =
          let stays : starts (i + 1) ≡ starts i = omega arith in
          let below : starts (i + 1) < starts (length a.items) = omega arith in
          subst (λ p. Standing (at p c)) stays (again below (e, idle_step i x c c idles.0 idles.1 (inside_next starts (length a.items) i h below) r (same_self c)))
      by_sum lengths w idles padded l (suc n) z = stands (padding lengths) w (omega arith) ((lengths, padded, sym l), record { registers = λ q low. refl; memory = λ p. refl })

      by : (y : Kind) → kinds i ≡ y → Fits y x.item x.node → ReadsItem starts code (starts i) y x.item x.node → starts (i + 1) ≡ starts i + size y → Standing (at (starts i) c)
      by (plain n) w f reading l = let p = f.some in stands (plain n) w (omega arith) (refl, refl)
      by (directed n) w f reading l = let p = f.0.some in stands (directed n) w (omega arith) (refl, refl)
      by (padding lengths) w f reading l = by_sum lengths w f reading l (sum lengths) refl
      by (inert n) w f reading l = absurd (let t = (traced_at earlier i c e x).insn in let none : ⊥ = cc in none)

  landed : (k i : ℕ) (c : State) (earlier : List State) → i + k ≡ length a.items → starts i < starts (length a.items) → IsRanged c → Kept earlier (at i c) → Standing (at (starts i) c)
  landed zero i c earlier l b r e = let s : starts i ≡ starts (length a.items) = ap starts {x = i} {y = length a.items} (omega arith) in absurd (omega arith)
  landed (suc k) i c earlier l b r e =
      let h : i < length a.items = omega arith in
      let x = here i h in
      stand_or_pass i c earlier h b r e x (kinds i) refl (laid.fits i x.item x.node x.there x.known) (laid.reads_back i x.item x.node x.there x.known) (laid.placed i h)
      (λ below f. landed k (i + 1) c (at i c ∷ earlier) (omega arith) below r f)

  -- one step by bytes: on to another item, or on in padding
  abbrev Landing : ℕ → State → State → Type 0
  Landing i c now = (j : ℕ) → j < length a.items → starts j ≡ now.place → Step i j c now → Standing now

  abbrev StepBy : State → State → Type 0
  StepBy s now = ByteStep a kinds starts code s now

  by_padding : (s now : State) (i : ℕ) (c : State) (earlier : List State) (x : Here i) (lengths rest : List ℕ) (step : StepBy s now) → IsRanged s → kinds i ≡ padding lengths
      → (is_padding x.item.effect.role ≡ true) × (x.node.falls ≡ true) → Holds starts (length a.items) i s.place → Kept earlier (at i c) → ReadsPadding code rest s.place
      → s.place + sum rest ≡ starts (i + 1) → SameFollowed c s → Landing i c now → Standing now
  by_padding s now i c earlier x lengths [] step range is idles holds e reads rests same land = let b = holds.ends in absurd (omega arith)
  by_padding s now i c earlier x lengths (n ∷ rest) step range is idles holds e reads rests same land = by_sum (sum rest) refl
    where
      idle : IsIdle s.place n step.reading
      idle = reads.0.1 step.reading step.reads

      moved_on : now.place ≡ s.place + n
      moved_on = let b = idle.long in let g = idle.goes s now refl range step.does in omega arith

      after : SameFollowed c now
      after = same_on c s now same (idle.same s now refl range step.does)

      sums : s.place + (n + sum rest) ≡ starts (i + 1)
      sums = ap (λ m. s.place + m) (sym (sum_by-cons (λ (m : ℕ). m) n rest)) ∙ rests

      by_sum : (m : ℕ) → sum rest ≡ m → Standing now
      by_sum zero z =
          let t = sums in
          let p = moved_on in
          let under = step.inside in
          let low = inside_next starts (length a.items) i holds.inside (omega arith) in
          land (i + 1) low (omega arith) (idle_step i x c now idles.0 idles.1 low step.range after)
      by_sum (suc m) z =
          let t = sums in
          let p = moved_on in
          let b = holds.begins in
          let left : now.place + sum rest ≡ starts (i + 1) = omega arith in
          record {
            number = i;
            core = c;
            earlier = earlier;
            holds = record { inside = holds.inside; begins = omega arith; ends = omega arith };
            execution = e;
            within = subst (λ y. Within code y (starts i) (starts (i + 1)) c now) (sym is) ((rest, subst (ReadsPadding code rest) (sym p) reads.1, left), after);
            range = step.range;
          }

  module _ (s now : State) (i : ℕ) (c : State) (earlier : List State) (x : Here i) (step : StepBy s now) (kind : Kind) (range : IsRanged s) (is : kinds i ≡ kind)
      (insn : IsInstruction (size kind) x.item x.node) (holds : Holds starts (length a.items) i s.place) (e : Kept earlier (at i c)) (place : s.place ≡ starts i)
      (exact : s ≡ at s.place c) (covered : IsCovered starts s.place kind x.item x.node step.reading) (sized : starts (i + 1) ≡ starts i + size kind)
      (kept : Keeps (followed_by x.item.effect) a (at 0 start) (at i s) (at (i + 1) now)) (land : Landing i c now) where
    abbrev effect : Followed
    effect = followed_by x.item.effect

    moved : Moves starts x.item x.node (s.place + step.reading.bytes) s now
    moved = covered.covers s now (traced_at earlier i c e x) refl range step.does
        (subst (λ y. Stays starts y x.node (s.place + step.reading.bytes) now.place) is (step.stays i x.node holds x.known))

    next_is : s.place + step.reading.bytes ≡ starts (i + 1)
    next_is = let b = covered.bytes in omega arith

    performs : (j : ℕ) → Performs effect (at i c) (at j now)
    performs j = performs_at effect.calls effect i j (at s.place c) now (subst (λ y. Performs effect y now) exact moved.performs)

    keeps : Keeps effect a (at 0 start) (at i c) (at (i + 1) now)
    keeps = subst (λ y. Keeps effect a (at 0 start) (at i y) (at (i + 1) now)) exact kept

    to_target : (o : Option ℕ) → x.node.target ≡ o → IsTarget starts o now.place → Standing now
    to_target None t arrives = absurd arrives
    to_target (Some k) t arrives =
        let next = target_next a.nodes i k x.node x.known t in
        let inside = function.inside i k next in
        let calls : effect.calls ≡ false = not_true effect.calls (λ call. let none = insn.calls call in let fails : ⊥ = cc in fails) in
        land k (let many = function.as_many in omega arith) (sym arrives) (record {
          item = x.item;
          there = x.there;
          next = next;
          performs = performs k;
          range = step.range;
          keeps = keeps_elsewhere effect.calls effect a (at 0 start) i (i + 1) k c now calls keeps;
        })

    to_next : x.node.falls ≡ true → now.place ≡ s.place + step.reading.bytes → Standing now
    to_next falls arrives =
        let there = next_is in
        let under = step.inside in
        let low = inside_next starts (length a.items) i holds.inside (omega arith) in
        land (i + 1) low (omega arith) (record {
          item = x.item;
          there = x.there;
          next = falls_next a.nodes i x.node x.known falls (let many = function.as_many in omega arith);
          performs = performs (i + 1);
          range = step.range;
          keeps = keeps;
        })

    by_arrival : Arrives starts x.node (s.place + step.reading.bytes) now.place → Standing now
    by_arrival (inl arrives) = to_target x.node.target refl arrives
    by_arrival (inr arrives) = to_next arrives.0 arrives.1

    by_covered : Standing now
    by_covered = by_arrival moved.arrives

  covered_there : (s now : State) (i : ℕ) (x : Here i) (kind : Kind) (step : StepBy s now) → s.place ≡ starts i → ReadsOnly starts code (starts i) kind x.item x.node
      → IsCovered starts s.place kind x.item x.node step.reading
  covered_there s now i x kind step place reads =
      subst (λ p. IsCovered starts p kind x.item x.node step.reading) (sym place) (reads step.reading (subst (λ p. IsReading code p step.reading) place step.reads))

  stepped : (s now : State) (i : ℕ) (c : State) (earlier : List State) (x : Here i) (step : StepBy s now) (kind : Kind) → IsRanged s → kinds i ≡ kind → Fits kind x.item x.node
      → Holds starts (length a.items) i s.place → Kept earlier (at i c) → Within code kind (starts i) (starts (i + 1)) c s → ReadsItem starts code (starts i) kind x.item x.node
      → starts (i + 1) ≡ starts i + size kind → Keeps (followed_by x.item.effect) a (at 0 start) (at i s) (at (i + 1) now) → Landing i c now → Standing now
  stepped s now i c earlier x step (plain n) range is fits holds e within reads sized kept land =
      by_covered s now i c earlier x step (plain n) range is fits holds e within.0 within.1 (covered_there s now i x (plain n) step within.0 reads.1) sized kept land
  stepped s now i c earlier x step (directed n) range is fits holds e within reads sized kept land =
      by_covered s now i c earlier x step (directed n) range is fits.0 holds e within.0 within.1 (covered_there s now i x (directed n) step within.0 reads.1) sized kept land
  stepped s now i c earlier x step (padding lengths) range is fits holds e within reads sized kept land =
      by_padding s now i c earlier x lengths within.0.0 step range is fits holds e within.0.1 within.0.2 within.1 land
  stepped s now i c earlier x step (inert n) range is fits holds e within reads sized kept land = absurd within

  advanced : (s now : State) → Standing s → StepBy s now → KeepsHeld a starts start s now → Standing now
  advanced s now at_s step kept =
      stepped s now i at_s.core at_s.earlier x step (kinds i) at_s.range refl (laid.fits i x.item x.node x.there x.known) at_s.holds at_s.execution at_s.within
      (laid.reads_back i x.item x.node x.there x.known) (laid.placed i at_s.holds.inside) (kept i x.item at_s.holds x.there) land
    where
      i : ℕ
      i = at_s.number

      x : Here i
      x = here i at_s.holds.inside

      land : Landing i at_s.core now
      land j l same moves =
          let b = step.inside in
          subst (λ p. Standing (at p now)) same (landed (length a.items - j) j now (at i at_s.core ∷ at_s.earlier) (omega arith) (omega arith) step.range (at_s.execution, moves))

  pub followed_on : (earlier : List State) (now : State) → IsEntry a starts start → KeptByBytes a kinds starts code start earlier now → Standing now
  followed_on [] now entry e =
      let b = entry.inside in
      let p = entry.place in
      subst Standing (sym e) (subst (λ q. Standing (at q start)) (sym p) (landed (length a.items) 0 start [] (omega arith) (omega arith) entry.range refl))
  followed_on (s ∷ earlier) now entry e = advanced s now (followed_on earlier s entry e.0) e.1 e.2

  same_within : (kind : Kind) (begins ends : ℕ) (c now : State) → Within code kind begins ends c now → SameFollowed c now
  same_within (plain n) begins ends c now w = subst (SameFollowed c) (sym w.1) (record { registers = λ q low. refl; memory = λ p. refl })
  same_within (directed n) begins ends c now w = subst (SameFollowed c) (sym w.1) (record { registers = λ q low. refl; memory = λ p. refl })
  same_within (padding lengths) begins ends c now w = w.1
  same_within (inert n) begins ends c now w = absurd w

  pub stands_at : (now : State) → Standing now → Stands a starts start now
  stands_at now s = record {
    number = s.number;
    holds = s.holds;
    core = s.core;
    earlier = s.earlier;
    execution = s.execution;
    same = same_within (kinds s.number) (starts s.number) (starts (s.number + 1)) s.core now s.within;
  }

-- where an execution begins, there is an item
pub begins : (a : Analyzed) (starts : ℕ → ℕ) (start : State) → IsFunction a → IsEntry a starts start → IsStart a (at 0 start)
begins a starts start function entry = record { place = refl; some = some (length a.items) refl; range = entry.range }
  where
    some : (n : ℕ) → length a.items ≡ n → 0 < length a.nodes
    some zero is =
        let p = entry.place in
        let b = entry.inside in
        let end : starts (length a.items) ≡ starts 0 = ap starts is in
        absurd (let none : ⊥ = omega arith in none)
    some (suc n) is = let many = function.as_many in omega arith

pub bytes_are_items : BytesAreItems
bytes_are_items a kinds starts code start earlier now function traced laid entry e =
    let begun = begins a starts start function entry in
    stands_at a kinds starts code start function traced laid begun now (followed_on a kinds starts code start function traced laid begun earlier now entry e)
