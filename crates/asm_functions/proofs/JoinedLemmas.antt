-- Items that are joined: where an item is put, where a function ends and where one begins.
use Rattle.std.proofs.Common.{◌≡◌, ◌≢◌, ℕ, zero, suc, Bool, true, false, cond, List, [], ◌∷◌, ◌++◌, All, map, set, Option, None, Some, refl, sym, ap, subst, ◌∙◌, arith}
use Rattle.std.specs.Prelude.{◌==◌, ◌&&◌, ◌||◌, not, slice_get, unwrap_or}
use Rattle.std.specs.Option.{is_none, option_map_or}
use Rattle.std.proofs.lemmas.Bool.{false≢true}
use Rattle.std.proofs.lemmas.Bool.Decides.{nat_tests}
use Rattle.std.proofs.lemmas.List.Elements.{All-nil, All-cons, All-head, All-tail, All-push, All-set, All-weaker}
use Rattle.asm_base.specs.declared.places.Place.{Place}
use Rattle.asm_base.specs.declared.positions.Pos.{Pos}
use Rattle.asm_lines.specs.NextStatements.{TokenStatement}
use Rattle.asm_frags.specs.Writing.{LooseSection}
use Rattle.asm_values.specs.State.{Placed}
use Rattle.asm_place.specs.Instructions.{Grows}
use Rattle.code_functions.specs.Recorded.{Recorded, is_open, is_open_in, begun, with_item, added, closed_by, all_closed, closed_at, last_of, closed_of}
use Rattle.code_functions.specs.Seen.{SeenItem, data_item}
use Rattle.asm_functions.specs.Following.{end_of, same_place, with_data, with_moved}
use Rattle.asm_functions.specs.FollowedSource.{FollowedSource}
use Rattle.asm_functions.specs.Joined.{PutItem, data_put, moved_put, IsPutBy, AreJoined, stop_in, IsJoined}

both : (a b : Bool) → (a && b) ≡ true → (a ≡ true) × (b ≡ true)
both true b is = (refl, is)
both false b is = absurd (false≢true is)

pub same_number : (one other : ℕ) → (one == other) ≡ true → one ≡ other
same_number one other is = grind (arith, nat_tests)

pub other_number : (one other : ℕ) → (one == other) ≡ false → other ≢ one
other_number one other is = λ same. grind (arith, nat_tests)

not_not : (test : Bool) → not test ≡ false → test ≡ true
not_not true is = refl
not_not false is = absurd (false≢true (sym is))

-- where a statement without operands is no data, its section ends where it did
pub same_end : (operands : Bool) (start stop : Place) → (operands || not (same_place start stop)) ≡ false → stop ≡ start
same_end true start stop none = absurd (false≢true (sym none))
same_end false start stop none = places (both (start.item == stop.item) (start.offset == stop.offset) (not_not (same_place start stop) none)) where
  places : ((start.item == stop.item) ≡ true) × ((start.offset == stop.offset) ≡ true) → stop ≡ start
  places tests =
      ap (λ (item : ℕ). record { item = item; offset = stop.offset }) (sym (same_number start.item stop.item tests.0))
      ∙ ap (λ (offset : ℕ). record { item = start.item; offset = offset }) (sym (same_number start.offset stop.offset tests.1))

-- EACH OF A LIST

module _ {X : Type 0} (P Q : X → Type 0) (change : X → X) (leads : (x : X) → P x → Q (change x)) where
  pub each_led : (xs : List X) → All P xs → All Q (map change xs)
  each_led [] all = All-nil Q
  each_led (x ∷ xs) all = All-cons Q (change x) (map change xs) (leads x (All-head P x xs all)) (each_led xs (All-tail P x xs all))

-- where a function ends is where its section does, while it is open
open_stop : (stop : Option Place) (end : Place) → is_none stop ≡ true → unwrap_or stop end ≡ end
open_stop None end is = refl
open_stop (Some place) end is = absurd (false≢true is)

-- and does not move once it has ended
closed_stop : (stop : Option Place) (one other : Place) → is_none stop ≡ false → unwrap_or stop one ≡ unwrap_or stop other
closed_stop None one other is = absurd (false≢true (sym is))
closed_stop (Some place) one other is = refl

-- of the sections that are there that of this number alone may end elsewhere than before
abbrev pub OnlyMoves : (before after : List LooseSection) → Option ℕ → Type 0
OnlyMoves before after target = (number : ℕ) (held : LooseSection) → slice_get before number ≡ Some held → target ≢ Some number → end_of after number ≡ end_of before number

module _ (statements : List TokenStatement) (first : FollowedSource) where
  -- an item more
  push_joined : (section : ℕ) (items : List SeenItem) (item : SeenItem) (from at to : Place) → AreJoined statements first section items from at
      → IsPutBy statements first section item at to → AreJoined statements first section (items ++ item ∷ []) from to
  push_joined section [] item from at to joined put =
      record { between = to; one = subst (λ (place : Place). IsPutBy statements first section item place to) (sym joined) put; other = refl }
  push_joined section (one ∷ items) item from at to joined put =
      record { between = joined.between; one = joined.one; other = push_joined section items item joined.between at to joined.other put }

  -- the items of the function are joined, and its section is there
  pub record IsSound (sections : List LooseSection) (f : Recorded SeenItem) : Type 0 where
    pub joined : IsJoined statements first sections f
    pub held : LooseSection
    pub there : slice_get sections f.section ≡ Some held

  -- all functions are sound
  abbrev pub AreSound : List LooseSection → List (Recorded SeenItem) → Type 0
  AreSound sections functions = All (IsSound sections) functions

  -- ENDS

  module _ (sections : List LooseSection) where
    closed_by_test : (still : Bool) (f : Recorded SeenItem) → is_none f.stop ≡ still → IsSound sections f
        → IsSound sections (cond still (record f { stop = Some (end_of sections f.section) }) f)
    closed_by_test true f is sound = record {
      joined = subst (AreJoined statements first f.section f.items f.start) (open_stop f.stop (end_of sections f.section) is) sound.joined;
      held = sound.held;
      there = sound.there;
    }
    closed_by_test false f is sound = sound

    closed_sound : (f : Recorded SeenItem) → IsSound sections f → IsSound sections (closed_by (end_of sections) f)
    closed_sound f sound = closed_by_test (is_none f.stop) f refl sound

    -- all that are open end
    pub all_closed_sound : (functions : List (Recorded SeenItem)) → AreSound sections functions → AreSound sections (all_closed (end_of sections) functions)
    all_closed_sound functions sound = each_led (IsSound sections) (IsSound sections) (closed_by (end_of sections)) closed_sound functions sound

    found_sound : (functions : List (Recorded SeenItem)) (number : ℕ) (f : Recorded SeenItem) → slice_get functions number ≡ Some f → AreSound sections functions → IsSound sections f
    found_sound [] number f is sound = absurd (cc)
    found_sound (one ∷ rest) zero f is sound = subst (IsSound sections) (ap (λ o. elim o [ None ↦ one | Some x ↦ x ]) is) (All-head (IsSound sections) one rest sound)
    found_sound (one ∷ rest) (suc number) f is sound = found_sound rest number f is (All-tail (IsSound sections) one rest sound)

    closed_at_by : (functions : List (Recorded SeenItem)) (number : ℕ) (found : Option (Recorded SeenItem)) → slice_get functions number ≡ found → AreSound sections functions
        → AreSound sections (option_map_or (λ f. set functions number (closed_by (end_of sections) f)) found functions)
    closed_at_by functions number None is sound = sound
    closed_at_by functions number (Some f) is sound =
        All-set (IsSound sections) functions number (closed_by (end_of sections) f) (closed_sound f (found_sound functions number f is sound)) sound

    closed_of_by : (functions : List (Recorded SeenItem)) (found : Option ℕ) → AreSound sections functions
        → AreSound sections (option_map_or (λ number. closed_at (end_of sections) number functions) found functions)
    closed_of_by functions None sound = sound
    closed_of_by functions (Some number) sound = closed_at_by functions number (slice_get functions number) refl sound

    -- that of one symbol ends
    pub closed_of_sound : (symbol : ℕ) (functions : List (Recorded SeenItem)) → AreSound sections functions → AreSound sections (closed_of symbol (end_of sections) functions)
    closed_of_sound symbol functions sound = closed_of_by functions (last_of symbol functions) sound

    -- one begins
    pub begun_sound : (symbol : ℕ) (pos : Pos) (number : ℕ) (held : LooseSection) (functions : List (Recorded SeenItem)) → slice_get sections number ≡ Some held
        → AreSound sections functions → AreSound sections (begun symbol pos number (end_of sections number) functions)
    begun_sound symbol pos number held functions there sound =
        All-push (IsSound sections) functions (record { symbol = symbol; pos = pos; section = number; start = end_of sections number; stop = None; items = [] })
        sound (record { joined = refl; held = held; there = there })

  -- A STATEMENT WITHOUT LABELS

  module _ (before after : List LooseSection) (grows : Grows before after) where
    moved_to : (f : Recorded SeenItem) → stop_in after f ≡ stop_in before f → IsSound before f → IsSound after f
    moved_to f same sound =
        let more = grows.kept f.section sound.held sound.there in
        record { joined = subst (AreJoined statements first f.section f.items f.start) (sym same) sound.joined; held = _; there = more.there }

    -- where no section moves,
    still_one : (f : Recorded SeenItem) → end_of after f.section ≡ end_of before f.section → IsSound before f → IsSound after f
    still_one f same sound = moved_to f (ap (unwrap_or f.stop) same) sound

    pub still : (functions : List (Recorded SeenItem)) → OnlyMoves before after None → AreSound before functions → AreSound after functions
    still functions moves sound =
        All-weaker (IsSound before) (IsSound after) (λ f sound. still_one f (moves f.section sound.held sound.there (λ same. absurd (cc))) sound) functions sound

    -- where the one that may does not,
    stays_by : (number : ℕ) (f : Recorded SeenItem) (here : Bool) → (f.section == number) ≡ here → OnlyMoves before after (Some number) → end_of after number ≡ end_of before number
        → IsSound before f → IsSound after f
    stays_by number f true is moves same sound =
        let at = same_number f.section number is in
        still_one f (ap (end_of after) at ∙ (same ∙ ap (end_of before) (sym at))) sound
    stays_by number f false is moves same sound =
        still_one f (moves f.section sound.held sound.there (λ one. other_number f.section number is (some_is number f.section one))) sound
      where
        some_is : (one other : ℕ) → Some one ≡ Some other → one ≡ other
        some_is one other same = cc

    stays : (number : ℕ) (functions : List (Recorded SeenItem)) → OnlyMoves before after (Some number) → end_of after number ≡ end_of before number → AreSound before functions → AreSound after functions
    stays number functions moves same sound =
        All-weaker (IsSound before) (IsSound after) (λ f sound. stays_by number f (f.section == number) refl moves same sound) functions sound

    -- and where an item is put there
    module _ (number : ℕ) (item : SeenItem) (moves : OnlyMoves before after (Some number)) (put : IsPutBy statements first number item (end_of before number) (end_of after number)) where
      one_by : (here : Bool) (f : Recorded SeenItem) → is_open_in number f ≡ here → IsSound before f → IsSound after (cond here (record f { items = f.items ++ item ∷ [] }) f)
      one_by true f is sound =
          let tests = both (is_open f) (f.section == number) is in
          let at : number ≡ f.section = sym (same_number f.section number tests.1) in
          let more = grows.kept f.section sound.held sound.there in
          let here : IsPutBy statements first f.section item (end_of before f.section) (end_of after f.section) =
          subst (λ (n : ℕ). IsPutBy statements first n item (end_of before n) (end_of after n)) at put in
          record {
            joined = subst (AreJoined statements first f.section (f.items ++ item ∷ []) f.start) (sym (open_stop f.stop (end_of after f.section) tests.0))
                (push_joined f.section f.items item f.start (end_of before f.section) (end_of after f.section)
                (subst (AreJoined statements first f.section f.items f.start) (open_stop f.stop (end_of before f.section) tests.0) sound.joined) here);
            held = _;
            there = more.there;
          }
      one_by false f is sound = aside (is_open f) refl where
        aside : (opened : Bool) → is_open f ≡ opened → IsSound after f
        aside false closed = moved_to f (closed_stop f.stop (end_of after f.section) (end_of before f.section) closed) sound
        aside true opened =
            still_one f (moves f.section sound.held sound.there
            (λ one. other_number f.section number (sym (ap (λ b. b && (f.section == number)) opened) ∙ is) (some_is number f.section one))) sound
          where
            some_is : (one other : ℕ) → Some one ≡ Some other → one ≡ other
            some_is one other same = cc

      pub put_sound : (functions : List (Recorded SeenItem)) → AreSound before functions → AreSound after (added number item functions)
      put_sound functions sound =
          each_led (IsSound before) (IsSound after) (with_item number item) (λ f sound. one_by (is_open_in number f) f refl sound) functions sound

  -- DATA

  -- the item that is due, if there is one, is put
  abbrev pub Puts : (there after : Placed) → Option PutItem → Type 0
  Puts there after due = (number : ℕ) (item : SeenItem) → due ≡ Some (record { section = number; item = item }) → item.place ≡ end_of there.sections number
      → IsPutBy statements first number item (end_of there.sections number) (end_of after.sections number)

  module _ (pos : Pos) (there after : Placed) (grows : Grows there.sections after.sections) (functions : List (Recorded SeenItem)) (sound : AreSound there.sections functions) where
    data_by : (test : Bool) (number : ℕ) → (test ≡ false → end_of after.sections number ≡ end_of there.sections number)
        → OnlyMoves there.sections after.sections (Some number)
        → Puts there after (cond test (Some (record { section = number; item = data_item pos (end_of there.sections number) })) None)
        → AreSound after.sections (cond test (added number (data_item pos (end_of there.sections number)) functions) functions)
    data_by true number same moves puts =
        put_sound there.sections after.sections grows number (data_item pos (end_of there.sections number)) moves (puts number (data_item pos (end_of there.sections number)) refl refl) functions sound
    data_by false number same moves puts = stays there.sections after.sections grows number functions moves (same refl) sound

    pub data_sound : (operands : Bool) (number : ℕ) → OnlyMoves there.sections after.sections (Some number) → Puts there after (data_put operands pos number there after)
        → AreSound after.sections (with_data operands pos number there after functions)
    data_sound operands number moves puts =
        data_by (operands || not (same_place (end_of there.sections number) (end_of after.sections number))) number
        (λ none. same_end operands (end_of there.sections number) (end_of after.sections number) none) moves puts

    pub moved_sound : (number : Option ℕ) → OnlyMoves there.sections after.sections number → Puts there after (moved_put pos number there after)
        → AreSound after.sections (with_moved pos number there after functions)
    moved_sound None moves puts = still there.sections after.sections grows functions moves sound
    moved_sound (Some number) moves puts = data_sound false number moves puts
