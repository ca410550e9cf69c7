use Rattle.std.proofs.Common.{◌≡◌, ℕ, zero, suc, ◌+◌, ◌<◌, ◌≤◌, ◌≢◌, ◌⊎◌, Bool, true, false, List, [], ◌∷◌, ◌++◌, length, get_or, Contains, Option, Some, None, refl, sym, ap, subst, inl, inr, arith, ◌∙◌, length-set, get_or-set_same, get_or-set_other}
use Rattle.std.proofs.lemmas.Bool.{cases_eq, cases_Bool}
use Rattle.std.proofs.lemmas.List.Elements.{Contains-push, Contains-push_cases, Contains-append_left}
use Rattle.work_lists.specs.Graphs.{row, IsWalk}
use Rattle.work_lists.specs.Exact.{Fact, Rules, look, carries, carried_from, IsExactAt, AreExact}
use Rattle.work_lists.specs.Search.{Carried, left, IsDone, Searching}

-- after the state at entry was carried into item 0
pub search_begins : {S : Type 0} (rules : Rules S) (graph : List (List ℕ)) (old new : List (Option S)) (waiting : List ℕ) (out : S) → length old ≡ length graph → 0 < length graph → ((k : ℕ) → look old k ≡ None) → ((f : Fact) → rules.holds out f ≡ rules.given f) → Carried rules old new [] waiting 0 out → Searching rules graph new waiting
search_begins {S} rules graph old new waiting out e some none given c = record {
  long = ap length c.set ∙ length-set old 0 (Some c.state) ∙ e;
  inside = inside c.pays;
  entered = (c.state, here, λ f h. sym (given f) ∙ c.under f h);
  reached = λ j s g. reached_at j s g (cases_eq j 0);
  lost = λ j s f g h. lost_at j s f g h (cases_eq j 0);
  done = λ j s g. done_at j s g (cases_eq j 0) c.pays;
}
  where
    here : look new 0 ≡ Some c.state
    here = let l : 0 < length old = omega arith in ap (λ x. look x 0) c.set ∙ get_or-set_same old 0 (Some c.state) None l

    other : (m : ℕ) → m ≢ 0 → look new m ≡ None
    other m h = ap (λ x. look x m) c.set ∙ get_or-set_other old 0 m (Some c.state) None h ∙ none m

    inside : ((waiting ≡ []) × (look old 0 ≡ Some c.state)) ⊎ ((waiting ≡ [] ++ 0 ∷ []) × (rules.weight c.state + 1 ≤ left rules (look old 0))) → (m : ℕ) → Contains waiting m → m < length graph
    inside (inl (w, u)) m h = let n = none 0 in cc
    inside (inr (w, u)) m h = let P : List ℕ → Type 0 = λ x. Contains x m in by_case (Contains-push_cases [] 0 m (subst P w h))
      where
        by_case : Contains [] m ⊎ (0 ≡ m) → m < length graph
        by_case (inl g) = absurd (let l = g.1 in omega arith)
        by_case (inr same) = omega arith

    reached_at : (j : ℕ) (s : S) → look new j ≡ Some s → (j ≡ 0) ⊎ (j ≡ 0 → ⊥) → (w : List ℕ) × IsWalk graph w j
    reached_at j s g (inl same) = ([], same)
    reached_at j s g (inr m) = let n = other j m in cc

    lost_at : (j : ℕ) (s : S) (f : Fact) → look new j ≡ Some s → rules.holds s f ≡ false → (j ≡ 0) ⊎ (j ≡ 0 → ⊥) → (w : List ℕ) × IsWalk graph w j × (carries rules w f ≡ false)
    lost_at j s f g h (inr m) = let n = other j m in cc
    lost_at j s f g h (inl same) = by_loss (c.lost f (ap (λ x. rules.holds x f) is_s ∙ h))
      where
        is_s : c.state ≡ s
        is_s = let at : look new 0 ≡ Some s = ap (λ x. look new x) (sym same) ∙ g in let k = here in cc

        by_loss : (rules.holds out f ≡ false) ⊎ ((x : S) × (look old 0 ≡ Some x) × (rules.holds x f ≡ false)) → (w : List ℕ) × IsWalk graph w j × (carries rules w f ≡ false)
        by_loss (inl l) = ([], same, sym (given f) ∙ l)
        by_loss (inr (x, u, l)) = let n = none 0 in cc

    done_at : (j : ℕ) (s : S) → look new j ≡ Some s → (j ≡ 0) ⊎ (j ≡ 0 → ⊥) → ((waiting ≡ []) × (look old 0 ≡ Some c.state)) ⊎ ((waiting ≡ [] ++ 0 ∷ []) × (rules.weight c.state + 1 ≤ left rules (look old 0))) → Contains waiting j ⊎ IsDone rules graph new j s
    done_at j s g (inr m) p = let n = other j m in cc
    done_at j s g (inl same) (inl (w, u)) = let n = none 0 in cc
    done_at j s g (inl same) (inr (w, u)) =
        let P : ℕ → Type 0 = λ x. Contains waiting x in let Q : List ℕ → Type 0 = λ x. Contains x 0 in
        inl (subst P (sym same) (subst Q (sym w) (Contains-push [] 0)))

-- an item that waits without a state is passed over
pub passed_over : {S : Type 0} (rules : Rules S) (graph : List (List ℕ)) (states : List (Option S)) (todo rest : List ℕ) (i : ℕ) → Searching rules graph states todo → todo ≡ rest ++ i ∷ [] → look states i ≡ None → Searching rules graph states rest
passed_over {S} rules graph states todo rest i b e none = record {
  long = b.long;
  inside = λ m h. let P : List ℕ → Type 0 = λ w. Contains w m in b.inside m (subst P (sym e) (Contains-append_left rest (i ∷ []) m h));
  entered = b.entered;
  reached = b.reached;
  lost = b.lost;
  done = λ m s g. done_at m s g (b.done m s g);
}
  where
    done_at : (m : ℕ) (s : S) → look states m ≡ Some s → Contains todo m ⊎ IsDone rules graph states m s → Contains rest m ⊎ IsDone rules graph states m s
    done_at m s g (inr d) = inr d
    done_at m s g (inl h) = let P : List ℕ → Type 0 = λ w. Contains w m in by_case (Contains-push_cases rest i m (subst P e h))
      where
        by_case : Contains rest m ⊎ (i ≡ m) → Contains rest m ⊎ IsDone rules graph states m s
        by_case (inl k) = inl k
        by_case (inr same) = let x : look states i ≡ Some s = ap (λ x. look states x) same ∙ g in cc

-- a fact that comes from one that a weaker set has
weaker : (a b : Fact → Bool) (o : Option Fact) → ((f : Fact) → a f ≡ true → b f ≡ true) → carried_from a o ≡ true → carried_from b o ≡ true
weaker a b None h g = g
weaker a b (Some f) h g = h f g

-- an item has a state that has no more facts than a walk to it carries
abbrev IsReached : {S : Type 0} → Rules S → List (Option S) → List ℕ → ℕ → Type 0
IsReached {S} rules states w j = (s : S) × (look states j ≡ Some s) × ((f : Fact) → rules.holds s f ≡ true → carries rules w f ≡ true)

-- one edge more
reach_step : {S : Type 0} (rules : Rules S) (graph : List (List ℕ)) (states : List (Option S)) → Searching rules graph states [] → (w : List ℕ) (i j : ℕ) → Contains (row graph i) j → IsReached rules states w i → IsReached rules states (i ∷ w) j
reach_step {S} rules graph states b w i j on was = by_done (b.done i was.0 was.1)
  where
    by_done : Contains [] i ⊎ IsDone rules graph states i was.0 → IsReached rules states (i ∷ w) j
    by_done (inl h) = absurd (let l = h.1 in omega arith)
    by_done (inr d) = let t = d j on in (t.0, t.1, λ f h. weaker (rules.holds was.0) (carries rules w) (rules.source i f) was.2 (t.2 f h))

-- each walk leads to an item with such a state
reaches : {S : Type 0} (rules : Rules S) (graph : List (List ℕ)) (states : List (Option S)) → Searching rules graph states [] → (w : List ℕ) (j : ℕ) → IsWalk graph w j → IsReached rules states w j
reaches rules graph states b [] j walk = (b.entered.0, ap (λ x. look states x) walk ∙ b.entered.1, b.entered.2)
reaches rules graph states b (i ∷ w) j walk = reach_step rules graph states b w i j walk.0 (reaches rules graph states b w i walk.1)

-- where no item waits, the states are exact
pub search_ends : {S : Type 0} (rules : Rules S) (graph : List (List ℕ)) (states : List (Option S)) (todo : List ℕ) → todo ≡ [] → Searching rules graph states todo → AreExact rules graph states
search_ends {S} rules graph states todo e b = (b.long, λ j. exact j (look states j) refl)
  where
    all : Searching rules graph states []
    all = let P : List ℕ → Type 0 = λ w. Searching rules graph states w in subst P e b

    exact : (j : ℕ) (o : Option S) → look states j ≡ o → IsExactAt rules graph j o
    exact j None at = λ w walk. let r = reaches rules graph states all w j walk in cc (r.1)
    exact j (Some s) at = (b.reached j s at, λ f. (forth f, λ h. back f h (cases_Bool (rules.holds s f))))
      where
        forth : (f : Fact) → rules.holds s f ≡ true → (w : List ℕ) → IsWalk graph w j → carries rules w f ≡ true
        forth f h w walk =
            let r = reaches rules graph states all w j walk in
            let same : s ≡ r.0 = cc (r.1) in
            r.2 f (ap (λ x. rules.holds x f) (sym same) ∙ h)

        back : (f : Fact) → ((w : List ℕ) → IsWalk graph w j → carries rules w f ≡ true) → (rules.holds s f ≡ true) ⊎ (rules.holds s f ≡ false) → rules.holds s f ≡ true
        back f h (inl t) = t
        back f h (inr u) = let l = b.lost j s f at u in let x = h l.0 l.1 in cc (l.2)

-- one item more without a state
pub none_more : {S : Type 0} (xs : List (Option S)) → ((k : ℕ) → get_or xs k None ≡ None) → (k : ℕ) → get_or (xs ++ None ∷ []) k None ≡ None
none_more [] h zero = refl
none_more [] h (suc k) = refl
none_more (x ∷ xs) h zero = h 0
none_more (x ∷ xs) h (suc k) = none_more xs (λ m. h (suc m)) k

-- what waits is an item
pub waiting_inside : {S : Type 0} (rules : Rules S) (graph : List (List ℕ)) (states : List (Option S)) (todo rest : List ℕ) (i : ℕ) → Searching rules graph states todo → todo ≡ rest ++ i ∷ [] → i < length graph
waiting_inside rules graph states todo rest i b e = let P : List ℕ → Type 0 = λ w. Contains w i in b.inside i (subst P (sym e) (Contains-push rest i))
