use Rattle.std.proofs.Common.{◌≡◌, ℕ, ◌+◌, ◌<◌, ◌≤◌, ◌≢◌, ◌⊎◌, true, false, List, [], ◌∷◌, ◌++◌, length, get_or, Contains, Option, Some, None, refl, sym, ap, subst, inl, inr, arith, ◌∙◌, length-set, get_or-set_same, get_or-set_other}
use Rattle.std.proofs.lemmas.Bool.{cases_eq, cases_lt}
use Rattle.std.proofs.lemmas.List.{get_or_read}
use Rattle.std.proofs.lemmas.List.Elements.{Contains-get_or, Contains-append_left, Contains-push, Contains-push_cases}
use Rattle.work_lists.specs.Graphs.{row, IsWalk, IsInside}
use Rattle.work_lists.specs.Exact.{Fact, Rules, look, carries, carried_from}
use Rattle.work_lists.specs.Search.{Carried, left, IsDone, Searching, Spreading}

-- all that waited waits still
abbrev Waits : List ℕ → List ℕ → Type 0
Waits todo waiting = (m : ℕ) → Contains todo m → Contains waiting m

-- an item that waited waits still
waits : {S : Type 0} (rules : Rules S) (old new : List (Option S)) (todo waiting : List ℕ) (j : ℕ) (out : S) → Carried rules old new todo waiting j out → Waits todo waiting
waits rules old new todo waiting j out c m h = by_pay c.pays
  where
    by_pay : ((waiting ≡ todo) × (look old j ≡ Some c.state)) ⊎ ((waiting ≡ todo ++ j ∷ []) × (rules.weight c.state + 1 ≤ left rules (look old j))) → Contains waiting m
    by_pay (inl (e, u)) = let P : List ℕ → Type 0 = λ w. Contains w m in subst P (sym e) h
    by_pay (inr (e, u)) = let P : List ℕ → Type 0 = λ w. Contains w m in subst P (sym e) (Contains-append_left todo (j ∷ []) m h)

-- the state that was carried stands there
look_here : {S : Type 0} (rules : Rules S) (old new : List (Option S)) (todo waiting : List ℕ) (j : ℕ) (out : S) (c : Carried rules old new todo waiting j out) → j < length old → look new j ≡ Some c.state
look_here rules old new todo waiting j out c h = ap (λ x. look x j) c.set ∙ get_or-set_same old j (Some c.state) None h

-- the other states stay
look_other : {S : Type 0} (rules : Rules S) (old new : List (Option S)) (todo waiting : List ℕ) (j : ℕ) (out : S) (c : Carried rules old new todo waiting j out) (m : ℕ) → m ≢ j → look new m ≡ look old m
look_other rules old new todo waiting j out c m h = ap (λ x. look x m) c.set ∙ get_or-set_other old j m (Some c.state) None h

-- what was there has no less than what is there now
shrinks : {S : Type 0} (rules : Rules S) (old new : List (Option S)) (todo waiting : List ℕ) (j : ℕ) (out : S) → Carried rules old new todo waiting j out → j < length old → (m : ℕ) (t : S) → look old m ≡ Some t → (u : S) × (look new m ≡ Some u) × ((f : Fact) → rules.holds u f ≡ true → rules.holds t f ≡ true)
shrinks {S} rules old new todo waiting j out c h m t e = by_place (cases_eq m j)
  where
    by_place : (m ≡ j) ⊎ (m ≡ j → ⊥) → (u : S) × (look new m ≡ Some u) × ((f : Fact) → rules.holds u f ≡ true → rules.holds t f ≡ true)
    by_place (inl same) = (c.state, ap (λ x. look new x) same ∙ look_here rules old new todo waiting j out c h, λ f. c.kept t f (ap (λ x. look old x) (sym same) ∙ e))
    by_place (inr other) = (t, look_other rules old new todo waiting j out c m other ∙ e, λ f g. g)

-- an item whose edges were gone over is so still
done_stays : {S : Type 0} (rules : Rules S) (graph : List (List ℕ)) (old new : List (Option S)) (todo waiting : List ℕ) (j : ℕ) (out : S) → Carried rules old new todo waiting j out → j < length old → (m : ℕ) (s : S) → IsDone rules graph old m s → IsDone rules graph new m s
done_stays rules graph old new todo waiting j out c h m s d x on =
    let was = d x on in
    let now = shrinks rules old new todo waiting j out c h x was.0 was.1 in
    (now.0, now.1, λ f g. was.2 f (now.2 f g))

-- an item whose state stayed, or that waits now
stays_or_waits : {S : Type 0} (rules : Rules S) (old new : List (Option S)) (todo waiting : List ℕ) (j : ℕ) (out : S) → Carried rules old new todo waiting j out → j < length old → (m : ℕ) (s : S) → look new m ≡ Some s → Contains waiting m ⊎ (look old m ≡ Some s)
stays_or_waits {S} rules old new todo waiting j out c h m s e = by_place (cases_eq m j)
  where
    by_pay : m ≡ j → ((waiting ≡ todo) × (look old j ≡ Some c.state)) ⊎ ((waiting ≡ todo ++ j ∷ []) × (rules.weight c.state + 1 ≤ left rules (look old j))) → Contains waiting m ⊎ (look old m ≡ Some s)
    by_pay same (inl (w, u)) = inr (ap (λ x. look old x) same ∙ u ∙ sym (look_here rules old new todo waiting j out c h) ∙ ap (λ x. look new x) (sym same) ∙ e)
    by_pay same (inr (w, u)) = let P : ℕ → Type 0 = λ x. Contains waiting x in let Q : List ℕ → Type 0 = λ x. Contains x j in inl (subst P (sym same) (subst Q (sym w) (Contains-push todo j)))

    by_place : (m ≡ j) ⊎ (m ≡ j → ⊥) → Contains waiting m ⊎ (look old m ≡ Some s)
    by_place (inl same) = by_pay same c.pays
    by_place (inr other) = inr (sym (look_other rules old new todo waiting j out c m other) ∙ e)

-- one edge more was gone over
pub spread_step : {S : Type 0} (rules : Rules S) (graph : List (List ℕ)) (old new : List (Option S)) (todo waiting : List ℕ) (i j : ℕ) (out : S) (k : ℕ) → IsInside graph → Spreading rules graph old todo i out k → k < length (row graph i) → j ≡ get_or (row graph i) k 0 → Carried rules old new todo waiting j out → Spreading rules graph new waiting i out (k + 1)
spread_step {S} rules graph old new todo waiting i j out k fits b short is_j c = record {
  long = ap length c.set ∙ length-set old j (Some c.state) ∙ b.long;
  inside = inside;
  entered = entered;
  reached = λ m s e. reached_at m (cases_eq m j) s e;
  lost = λ m s f e h. lost_at m (cases_eq m j) s f e h;
  done = λ m s other e. done_at m s other (stays_or_waits rules old new todo waiting j out c place m s e);
  current = λ s e. current_at s (stays_or_waits rules old new todo waiting j out c place i s e);
  spread = spread;
  walked = b.walked;
  out_lost = b.out_lost;
}
  where
    on : Contains (row graph i) j
    on = let P : ℕ → Type 0 = λ x. Contains (row graph i) x in subst P (sym is_j) (Contains-get_or (row graph i) k 0 short)

    place : j < length old
    place = let u = fits i j on in let l = b.long in omega arith

    inside : (m : ℕ) → Contains waiting m → m < length graph
    inside m h = by_pay c.pays
      where
        by_pay : ((waiting ≡ todo) × (look old j ≡ Some c.state)) ⊎ ((waiting ≡ todo ++ j ∷ []) × (rules.weight c.state + 1 ≤ left rules (look old j))) → m < length graph
        by_pay (inl (e, u)) = let P : List ℕ → Type 0 = λ w. Contains w m in b.inside m (subst P e h)
        by_pay (inr (e, u)) = let P : List ℕ → Type 0 = λ w. Contains w m in by_case (Contains-push_cases todo j m (subst P e h))
          where
            by_case : Contains todo m ⊎ (j ≡ m) → m < length graph
            by_case (inl t) = b.inside m t
            by_case (inr same) = let Q : ℕ → Type 0 = λ x. x < length graph in subst Q same (fits i j on)

    entered : (s : S) × (look new 0 ≡ Some s) × ((f : Fact) → rules.holds s f ≡ true → rules.given f ≡ true)
    entered =
        let now = shrinks rules old new todo waiting j out c place 0 b.entered.0 b.entered.1 in
        (now.0, now.1, λ f g. b.entered.2 f (now.2 f g))

    reached_at : (m : ℕ) → (m ≡ j) ⊎ (m ≡ j → ⊥) → (s : S) → look new m ≡ Some s → (w : List ℕ) × IsWalk graph w m
    reached_at m (inl same) s e = let P : ℕ → Type 0 = λ x. Contains (row graph i) x in (i ∷ b.walked.0, (subst P (sym same) on, b.walked.1))
    reached_at m (inr other) s e = b.reached m s (sym (look_other rules old new todo waiting j out c m other) ∙ e)

    lost_at : (m : ℕ) → (m ≡ j) ⊎ (m ≡ j → ⊥) → (s : S) (f : Fact) → look new m ≡ Some s → rules.holds s f ≡ false → (w : List ℕ) × IsWalk graph w m × (carries rules w f ≡ false)
    lost_at m (inr other) s f e h = b.lost m s f (sym (look_other rules old new todo waiting j out c m other) ∙ e) h
    lost_at m (inl same) s f e h = by_loss (c.lost f (ap (λ x. rules.holds x f) is_s ∙ h))
      where
        here : look new j ≡ Some s
        here = ap (λ x. look new x) (sym same) ∙ e

        is_s : c.state ≡ s
        is_s = let g = look_here rules old new todo waiting j out c place in cc

        by_loss : (rules.holds out f ≡ false) ⊎ ((x : S) × (look old j ≡ Some x) × (rules.holds x f ≡ false)) → (w : List ℕ) × IsWalk graph w m × (carries rules w f ≡ false)
        by_loss (inl l) = let w = b.out_lost f l in let P : ℕ → Type 0 = λ x. Contains (row graph i) x in (i ∷ w.0, (subst P (sym same) on, w.1), w.2)
        by_loss (inr (x, u, l)) = let P : ℕ → Type 0 = λ y. (w : List ℕ) × IsWalk graph w y × (carries rules w f ≡ false) in subst P (sym same) (b.lost j x f u l)

    done_at : (m : ℕ) (s : S) → m ≢ i → Contains waiting m ⊎ (look old m ≡ Some s) → Contains waiting m ⊎ IsDone rules graph new m s
    done_at m s other (inl h) = inl h
    done_at m s other (inr e) = by_case (b.done m s other e)
      where
        by_case : Contains todo m ⊎ IsDone rules graph old m s → Contains waiting m ⊎ IsDone rules graph new m s
        by_case (inl h) = inl (waits rules old new todo waiting j out c m h)
        by_case (inr d) = inr (done_stays rules graph old new todo waiting j out c place m s d)

    current_at : (s : S) → Contains waiting i ⊎ (look old i ≡ Some s) → Contains waiting i ⊎ ((f : Fact) → rules.holds out f ≡ true → carried_from (rules.holds s) (rules.source i f) ≡ true)
    current_at s (inl h) = inl h
    current_at s (inr e) = by_case (b.current s e)
      where
        by_case : Contains todo i ⊎ ((f : Fact) → rules.holds out f ≡ true → carried_from (rules.holds s) (rules.source i f) ≡ true) → Contains waiting i ⊎ ((f : Fact) → rules.holds out f ≡ true → carried_from (rules.holds s) (rules.source i f) ≡ true)
        by_case (inl h) = inl (waits rules old new todo waiting j out c i h)
        by_case (inr d) = inr d

    spread : (m : ℕ) → m < k + 1 → (t : S) × (look new (get_or (row graph i) m 0) ≡ Some t) × ((f : Fact) → rules.holds t f ≡ true → rules.holds out f ≡ true)
    spread m h = by_case (cases_lt m k)
      where
        by_case : (m < k) ⊎ (k ≤ m) → (t : S) × (look new (get_or (row graph i) m 0) ≡ Some t) × ((f : Fact) → rules.holds t f ≡ true → rules.holds out f ≡ true)
        by_case (inl l) =
            let was = b.spread m l in
            let now = shrinks rules old new todo waiting j out c place (get_or (row graph i) m 0) was.0 was.1 in
            (now.0, now.1, λ f g. was.2 f (now.2 f g))
        by_case (inr l) =
            let same : m ≡ k = omega arith in
            let at : get_or (row graph i) m 0 ≡ j = ap (λ x. get_or (row graph i) x 0) same ∙ sym is_j in
            (c.state, ap (λ x. look new x) at ∙ look_here rules old new todo waiting j out c place, c.under)

-- an item is taken off, and its state after is worked out
pub spread_begins : {S : Type 0} (rules : Rules S) (graph : List (List ℕ)) (states : List (Option S)) (todo rest : List ℕ) (i : ℕ) (s out : S) → Searching rules graph states todo → todo ≡ rest ++ i ∷ [] → look states i ≡ Some s → ((f : Fact) → rules.holds out f ≡ carried_from (rules.holds s) (rules.source i f)) → Spreading rules graph states rest i out 0
spread_begins {S} rules graph states todo rest i s out b e here after = record {
  long = b.long;
  inside = λ m h. let P : List ℕ → Type 0 = λ w. Contains w m in b.inside m (subst P (sym e) (Contains-append_left rest (i ∷ []) m h));
  entered = b.entered;
  reached = b.reached;
  lost = b.lost;
  done = λ m x other g. done_at m x other (b.done m x g);
  current = λ x g. let same : s ≡ x = cc in let P : S → Type 0 = λ y. (f : Fact) → rules.holds out f ≡ true → carried_from (rules.holds y) (rules.source i f) ≡ true in inr (subst P same (λ f h. sym (after f) ∙ h));
  spread = λ m h. absurd (omega arith);
  walked = b.reached i s here;
  out_lost = λ f h. out_lost f (rules.source i f) (sym (after f) ∙ h);
}
  where
    done_at : (m : ℕ) (x : S) → m ≢ i → Contains todo m ⊎ IsDone rules graph states m x → Contains rest m ⊎ IsDone rules graph states m x
    done_at m x other (inr d) = inr d
    done_at m x other (inl h) = let P : List ℕ → Type 0 = λ w. Contains w m in by_case (Contains-push_cases rest i m (subst P e h))
      where
        by_case : Contains rest m ⊎ (i ≡ m) → Contains rest m ⊎ IsDone rules graph states m x
        by_case (inl g) = inl g
        by_case (inr same) = absurd (other (sym same))

    out_lost : (f : Fact) (o : Option Fact) → carried_from (rules.holds s) o ≡ false → (w : List ℕ) × IsWalk graph w i × (carried_from (carries rules w) o ≡ false)
    out_lost f None h = let w = b.reached i s here in (w.0, w.1, refl)
    out_lost f (Some g) h = b.lost i s g here h

-- all edges were gone over
pub spread_ends : {S : Type 0} (rules : Rules S) (graph : List (List ℕ)) (states : List (Option S)) (todo : List ℕ) (i : ℕ) (out : S) (k : ℕ) → Spreading rules graph states todo i out k → k ≡ length (row graph i) → Searching rules graph states todo
spread_ends {S} rules graph states todo i out k b all = record {
  long = b.long;
  inside = b.inside;
  entered = b.entered;
  reached = b.reached;
  lost = b.lost;
  done = λ m s e. done_at m s e (cases_eq m i);
}
  where
    at_current : (s : S) → Contains todo i ⊎ ((f : Fact) → rules.holds out f ≡ true → carried_from (rules.holds s) (rules.source i f) ≡ true) → Contains todo i ⊎ IsDone rules graph states i s
    at_current s (inl h) = inl h
    at_current s (inr d) = inr (λ j on.
        let at = get_or_read (row graph i) on.0 j on.1 (sym on.2) 0 in
        let short : on.0 < k = let u = on.1 in omega arith in
        let was = b.spread on.0 short in
        (was.0, ap (λ x. look states x) at ∙ was.1, λ f g. d f (was.2 f g)))

    done_at : (m : ℕ) (s : S) → look states m ≡ Some s → (m ≡ i) ⊎ (m ≡ i → ⊥) → Contains todo m ⊎ IsDone rules graph states m s
    done_at m s e (inr other) = b.done m s other e
    done_at m s e (inl same) = let P : ℕ → Type 0 = λ x. Contains todo x ⊎ IsDone rules graph states x s in subst P (sym same) (at_current s (b.current s (ap (λ x. look states x) (sym same) ∙ e)))

-- an edge leads to an item
pub target_inside : {S : Type 0} (rules : Rules S) (graph : List (List ℕ)) (old : List (Option S)) (todo : List ℕ) (i j : ℕ) (out : S) (k : ℕ) → IsInside graph → Spreading rules graph old todo i out k → k < length (row graph i) → j ≡ get_or (row graph i) k 0 → j < length old
target_inside rules graph old todo i j out k fits b short is_j =
    let P : ℕ → Type 0 = λ x. Contains (row graph i) x in
    let u = fits i j (subst P (sym is_j) (Contains-get_or (row graph i) k 0 short)) in
    let l = b.long in
    omega arith
