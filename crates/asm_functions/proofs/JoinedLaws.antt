-- The items of functions are joined, whatever the statements are.
use Rattle.std.proofs.Common.{◌≡◌, ◌≢◌, ℕ, Bool, true, false, cond, List, [], ◌∷◌, ◌++◌, All, Option, None, Some, Result, Ok, Err, refl, sym, ap, subst, ◌∙◌, append_assoc}
use Rattle.std.specs.Prelude.{drop, codes, slice_get}
use Rattle.std.specs.Option.{option_map_or}
use Rattle.std.proofs.lemmas.List.Elements.{All-nil, All-weaker}
use Rattle.asm_base.specs.declared.places.Place.{Place}
use Rattle.asm_base.specs.declared.positions.Pos.{Pos}
use Rattle.asm_base.specs.Refusals.{◌>>=◌}
use Rattle.asm_base.specs.Tokens.{SpelledToken}
use Rattle.asm_lines.specs.NextStatements.{TokenStatement}
use Rattle.asm_frags.specs.SectionOf.{section_number}
use Rattle.asm_frags.specs.Writing.{LooseSection}
use Rattle.asm_operands.specs.declared.place_faults.PlaceCause.{PlaceCause}
use Rattle.asm_operands.specs.Operands.{begins_with_label, name_of, needed, operands_of}
use Rattle.asm_uses.specs.Places.{spot_in, no_spot, spot_at}
use Rattle.asm_words.specs.declared.directives.Directive.{Directive}
use Rattle.asm_words.specs.declared.directives.Directive.TheVariants as directive
use Rattle.asm_words.specs.declared.symbol_kinds.NamedKind.{NamedKind}
use Rattle.asm_words.specs.SymbolKinds.{named_kind}
use Rattle.asm_values.specs.State.{Placed, nothing_placed}
use Rattle.asm_declarations.specs.Commons.{bss}
use Rattle.asm_place.specs.declared.bodies.Body.{Body}
use Rattle.asm_place.specs.declared.bodies.Body.TheVariants as body
use Rattle.asm_place.specs.declared.place_faults.FaultAt.{FaultAt}
use Rattle.asm_place.specs.Bodies.{body_of, labels_of, front, back, AreLabels}
use Rattle.asm_place.specs.Effects.{insn_view, fill_said}
use Rattle.asm_place.specs.Instructions.{behind_labels, Grows}
use Rattle.asm_place.specs.PutSections.{section_of_directive, section_put}
use Rattle.asm_place.specs.Sources.{place, place_all}
use Rattle.asm_place.specs.SymbolPlaces.{PlacesStand}
use Rattle.x86_insn.specs.Views.{View}
use Rattle.code_functions.specs.Recorded.{Recorded, is_split}
use Rattle.code_functions.specs.Seen.{SeenItem}
use Rattle.asm_functions.specs.Following.{end_of, fields_in, function_label, begun_by, labels_begun, with_data, has_operands, plain_item, with_align, is_function, ended, with_kind, ended_of, with_size, follow_directive, item_seen, with_insn}
use Rattle.asm_functions.specs.FollowedSource.{FollowedSource, nothing_followed, functions_at_end, with_placed, with_functions, ignored_by, place_of, stepped, is_frame, unless_split, body_followed, labels_followed, statement_followed, place_followed, follow_all, remarked}
use Rattle.asm_functions.specs.Joined.{body_put, data_put, directive_put, align_put, insn_put, IsPutBy, IsJoined}
use Rattle.asm_functions.proofs.FollowingLaws.{both_ok, same_Ok, remarked_ok, unasked}
use Rattle.asm_functions.proofs.JoinedLemmas.{AreSound, IsSound, OnlyMoves, Puts, still, put_sound, data_sound, moved_sound, all_closed_sound, closed_of_sound, begun_sound}

-- a section that is what it was ends where it did
pub end_by : (before after : List LooseSection) (number : ℕ) → slice_get after number ≡ slice_get before number → end_of after number ≡ end_of before number
unfolding spot_at
end_by before after number same = ap (λ o. (option_map_or (spot_in number) o (no_spot number)).place.place) same

-- what a step made: what it placed, and what it did to the functions
record IsStep (answer : Result Placed FaultAt) (change : Placed → List (Recorded SeenItem)) (f g : FollowedSource) : Type 0 where
  after : Placed
  placed : answer ≡ Ok after
  is : with_functions f after (change after) ≡ g

step_made : (answer : Result Placed FaultAt) (change : Placed → List (Recorded SeenItem)) (f g : FollowedSource)
    → (answer >>= (λ after. Ok (with_functions f after (change after)))) ≡ Ok g → IsStep answer change f g
step_made (Ok after) change f g is = record { after = after; placed = refl; is = same_Ok _ g is }
step_made (Err fault) change f g is = absurd (cc)

-- statements, and one more
follow_one_more : (s : TokenStatement) (earlier : List TokenStatement) (first f g : FollowedSource) → follow_all earlier first ≡ Ok f → place_followed s f ≡ Ok g
    → follow_all (earlier ++ s ∷ []) first ≡ Ok g
unfolding follow_all
follow_one_more s [] first f g so_far followed =
    ap (λ r. r >>= follow_all []) (subst (λ (state : FollowedSource). place_followed s state ≡ Ok g) (sym (same_Ok first f so_far)) followed)
follow_one_more s (one ∷ rest) first f g so_far followed =
    both_ok (place_followed one first) (follow_all rest) f so_far
    (λ next placed more. ap (λ r. r >>= follow_all (rest ++ s ∷ [])) placed ∙ follow_one_more s rest next f g more followed)

module _ (statements : List TokenStatement) (first : FollowedSource) where
  abbrev Sound : List LooseSection → List (Recorded SeenItem) → Type 0
  Sound sections functions = AreSound statements first sections functions

  -- LABELS

  module _ (pos : Pos) (before : Placed) (stands : PlacesStand before) where
    begun_by_sound : (found : Option ℕ) (functions : List (Recorded SeenItem)) → Sound before.sections functions → Sound before.sections (begun_by found pos before functions)
    begun_by_sound None functions sound = sound
    begun_by_sound (Some symbol) functions sound =
        begun_sound statements first before.sections symbol pos before.current stands.current.section functions stands.current.there sound

    labels_sound : (tokens : List SpelledToken) (functions : List (Recorded SeenItem)) → Sound before.sections functions → Sound before.sections (labels_begun pos tokens before functions)
    unfolding labels_begun
    labels_sound [] functions sound = sound
    labels_sound (name ∷ []) functions sound = sound
    labels_sound (name ∷ colon ∷ rest) functions sound =
        labels_sound rest (begun_by (function_label before.table.symbols name) pos before functions) (begun_by_sound (function_label before.table.symbols name) functions sound)

  -- STATEMENTS WITHOUT LABELS

  module _ (pos : Pos) (there after : Placed) (grows : Grows there.sections after.sections) (functions : List (Recorded SeenItem)) (sound : Sound there.sections functions) where
    abbrev Moves : Option ℕ → Type 0
    Moves target = OnlyMoves there.sections after.sections target

    stays : Moves None → Sound after.sections functions
    stays moves = still statements first there.sections after.sections grows functions moves sound

    plain_place : (padding : Bool) (at : Place) → (plain_item padding pos at).place ≡ at
    plain_place true at = refl
    plain_place false at = refl

    align_sound : (fill : Option ℕ) → Moves (Some there.current) → Puts statements first there after (align_put fill pos there)
        → Sound after.sections (with_align fill pos there functions)
    align_sound fill moves puts =
        put_sound statements first there.sections after.sections grows there.current _ moves
        (puts there.current _ refl (plain_place _ (end_of there.sections there.current))) functions sound

    item_place : (view : Option View) (at : Place) (fields more : ℕ) → (item_seen view pos at fields more).place ≡ at
    item_place None at fields more = refl
    item_place (Some view) at fields more = refl

    insn_sound : (tokens : List SpelledToken) → Moves (Some there.current) → Puts statements first there after (insn_put pos tokens there after)
        → Sound after.sections (with_insn pos tokens there after functions)
    insn_sound tokens moves puts =
        put_sound statements first there.sections after.sections grows there.current _ moves
        (puts there.current _ refl (item_place (insn_view pos tokens there) (end_of there.sections there.current) (fields_in there.sections there.current) (fields_in after.sections there.current)))
        functions sound

    kind_by : (test : Bool) → Moves None → Sound after.sections (cond test (ended after functions) functions)
    kind_by true moves = all_closed_sound statements first after.sections functions (stays moves)
    kind_by false moves = stays moves

    kind_sound : (read : Result NamedKind PlaceCause) → Moves None → Sound after.sections (with_kind read after functions)
    kind_sound (Err cause) moves = stays moves
    kind_sound (Ok words) moves = kind_by (is_function (Some words.kind)) moves

    ended_of_sound : (found : Option ℕ) → Moves None → Sound after.sections (ended_of found after functions)
    ended_of_sound None moves = stays moves
    ended_of_sound (Some symbol) moves = closed_of_sound statements first after.sections symbol functions (stays moves)

    size_sound : (read : Result (List ℕ × List (List SpelledToken)) PlaceCause) → Moves None → Sound after.sections (with_size read after functions)
    size_sound (Err cause) moves = stays moves
    size_sound (Ok name) moves = ended_of_sound _ moves

    put_data : (operands : Bool) (number : ℕ) → Moves (Some number) → Puts statements first there after (data_put operands pos number there after)
        → Sound after.sections (with_data operands pos number there after functions)
    put_data operands number moves puts = data_sound statements first pos there after grows functions sound operands number moves puts

    directive_sound : (found : Directive) (tokens : List SpelledToken) → Moves (section_of_directive found there)
        → Puts statements first there after (directive_put found pos tokens there after)
        → Sound after.sections (follow_directive found pos tokens there after functions)
    unfolding follow_directive
    directive_sound (directive.Data size) tokens moves puts = put_data (has_operands tokens) there.current moves puts
    directive_sound (directive.Strings terminated) tokens moves puts = put_data (has_operands tokens) there.current moves puts
    directive_sound (directive.Leb128 signed) tokens moves puts = put_data (has_operands tokens) there.current moves puts
    directive_sound directive.Zero tokens moves puts = put_data (has_operands tokens) there.current moves puts
    directive_sound directive.Skip tokens moves puts = put_data (has_operands tokens) there.current moves puts
    directive_sound directive.Fill tokens moves puts = put_data (has_operands tokens) there.current moves puts
    directive_sound directive.Org tokens moves puts = put_data (has_operands tokens) there.current moves puts
    directive_sound (directive.Align by) tokens moves puts = align_sound (fill_said pos tokens there) moves puts
    directive_sound (directive.Enter initial) tokens moves puts = stays moves
    directive_sound directive.Section tokens moves puts = stays moves
    directive_sound directive.PushSection tokens moves puts = stays moves
    directive_sound directive.PopSection tokens moves puts = stays moves
    directive_sound directive.Previous tokens moves puts = stays moves
    directive_sound (directive.Say attribute) tokens moves puts = stays moves
    directive_sound directive.Type tokens moves puts = kind_sound (named_kind (operands_of tokens)) moves
    directive_sound directive.Size tokens moves puts = size_sound (needed name_of (operands_of tokens)) moves
    directive_sound (directive.Assign once) tokens moves puts = stays moves
    directive_sound directive.Comm tokens moves puts = put_data false bss moves puts
    directive_sound directive.Lcomm tokens moves puts = put_data false bss moves puts
    directive_sound directive.Ident tokens moves puts =
        moved_sound statements first pos there after grows functions sound (section_number (codes ".comment") there.sections) moves puts
    directive_sound directive.File tokens moves puts = stays moves
    directive_sound directive.Loc tokens moves puts = stays moves
    directive_sound (directive.Error said) tokens moves puts = stays moves
    directive_sound directive.Warning tokens moves puts = stays moves
    directive_sound (directive.Syntax syntax) tokens moves puts = stays moves
    directive_sound directive.Code64 tokens moves puts = stays moves
    directive_sound (directive.Frame frame) tokens moves puts = stays moves

  -- ONE STATEMENT

  -- functions are asked for, all are sound, and the current section is there
  record IsFit (f : FollowedSource) : Type 0 where
    asked : f.asked ≡ true
    places : PlacesStand f.placed
    sound : Sound f.placed.sections f.functions

  module _ (grow : (statements : List TokenStatement) (before placed : Placed) → place_all statements before ≡ Ok placed → Grows before.sections placed.sections)
      (stand : (statements : List TokenStatement) (before placed : Placed) → place_all statements before ≡ Ok placed → PlacesStand before → PlacesStand placed)
      (label : (s : TokenStatement) (before after : Placed) → place (front s) before ≡ Ok after → AreLabels before after)
      (bare : (tokens : List SpelledToken) → begins_with_label (behind_labels tokens) ≡ false)
      (one_section : (s : TokenStatement) (before after : Placed) (number : ℕ) (held : LooseSection) → begins_with_label s.tokens ≡ false → place s before ≡ Ok after
      → slice_get before.sections number ≡ Some held → section_put (body_of s.tokens) before ≢ Some number → slice_get after.sections number ≡ Some held) where
    -- what one statement places is what it does as the only one
    alone : (s : TokenStatement) (before after : Placed) → place s before ≡ Ok after → place_all (s ∷ []) before ≡ Ok after
    unfolding place_all
    alone s before after is = ap (λ r. r >>= place_all []) is

    module _ (s : TokenStatement) (earlier later : List TokenStatement) (all : statements ≡ earlier ++ s ∷ later) (f g : FollowedSource) (so_far : follow_all earlier first ≡ Ok f)
        (followed : place_followed s f ≡ Ok g) (fit : IsFit f) (labels : Placed) (labels_are : place (front s) f.placed ≡ Ok labels) where
      -- what the statement puts is put by it
      put_by : (h : FollowedSource) → g ≡ h → (number : ℕ) (item : SeenItem)
          → body_put (body_of (behind_labels s.tokens)) (place_of s) (behind_labels s.tokens) labels h.placed ≡ Some (record { section = number; item = item })
          → item.place ≡ end_of labels.sections number → IsPutBy statements first number item (end_of labels.sections number) (end_of h.placed.sections number)
      put_by h same number item is at = record {
        earlier = earlier;
        statement = s;
        later = later;
        all = all;
        before = f;
        before_is = so_far;
        after = h;
        after_is = followed ∙ ap Ok same;
        labels = labels;
        labels_are = labels_are;
        put = is;
        at = at;
        start = ap (λ sections. end_of sections number) (label s f.placed labels labels_are).sections;
        stop = refl;
      }

      -- the state once its labels are placed, and functions begun at them
      module _ (begun_now : List (Recorded SeenItem)) (begun_are : Sound labels.sections begun_now) where
        abbrev there : FollowedSource
        there = with_functions f labels begun_now

        labels_fit : PlacesStand labels
        labels_fit = stand (front s ∷ []) f.placed labels (alone (front s) f.placed labels labels_are) fit.places

        fit_after : (after : Placed) (functions : List (Recorded SeenItem)) → place (back s) labels ≡ Ok after
            → (Grows labels.sections after.sections → Sound after.sections functions) → with_functions there after functions ≡ g → IsFit g
        fit_after after functions placed sound is =
            let only = alone (back s) labels after placed in
            subst IsFit is (record {
              asked = fit.asked;
              places = stand (back s ∷ []) labels after only labels_fit;
              sound = sound (grow (back s ∷ []) labels after only);
            })

        -- by what stands behind the labels
        abbrev PutsBy : Body → Type 0
        PutsBy kind = (h : FollowedSource) → g ≡ h → Puts statements first labels h.placed (body_put kind (place_of s) (behind_labels s.tokens) labels h.placed)

        abbrev MovesBy : Body → Type 0
        MovesBy kind = (after : Placed) → place (back s) labels ≡ Ok after → OnlyMoves labels.sections after.sections (section_put kind labels)

        other_fit : stepped (back s) (λ there after functions. functions) there ≡ Ok g → ((after : Placed) → place (back s) labels ≡ Ok after → OnlyMoves labels.sections after.sections None)
            → IsFit g
        other_fit is moves =
            let made = step_made (place (back s) labels) (λ after. begun_now) there g is in
            fit_after made.after begun_now made.placed
            (λ grows. stays (place_of s) labels made.after grows begun_now begun_are (moves made.after made.placed)) made.is

        directive_fit : (frame : Bool) (found : Directive)
            → cond frame (Ok (ignored_by (place_of s) there)) (stepped (back s) (follow_directive found (place_of s) (drop 1 (behind_labels s.tokens))) there) ≡ Ok g
            → PutsBy (body.Directed (Some found)) → MovesBy (body.Directed (Some found)) → IsFit g
        directive_fit true found is puts moves =
            subst IsFit (same_Ok (ignored_by (place_of s) there) g is) (record { asked = fit.asked; places = labels_fit; sound = begun_are })
        directive_fit false found is puts moves =
            let change : Placed → List (Recorded SeenItem) = λ after. follow_directive found (place_of s) (drop 1 (behind_labels s.tokens)) labels after begun_now in
            let made = step_made (place (back s) labels) change there g is in
            fit_after made.after (change made.after) made.placed
            (λ grows. directive_sound (place_of s) labels made.after grows begun_now begun_are found (drop 1 (behind_labels s.tokens)) (moves made.after made.placed)
            (puts (with_functions there made.after (change made.after)) (sym made.is))) made.is

        split_fit : (split : Bool) (after : Placed) → place (back s) labels ≡ Ok after
            → unless_split (place_of s) there after (cond split None (Some (with_insn (place_of s) (behind_labels s.tokens) labels after begun_now))) ≡ Ok g
            → PutsBy body.Instruction → MovesBy body.Instruction → IsFit g
        split_fit true after placed is puts moves = absurd (cc)
        split_fit false after placed is puts moves =
            let functions : List (Recorded SeenItem) = with_insn (place_of s) (behind_labels s.tokens) labels after begun_now in
            let same = same_Ok (with_functions there after functions) g is in
            fit_after after functions placed
            (λ grows. insn_sound (place_of s) labels after grows begun_now begun_are (behind_labels s.tokens) (moves after placed)
            (puts (with_functions there after functions) (sym same))) same

        body_fit : (kind : Body) → body_followed kind (back s) there ≡ Ok g → PutsBy kind → MovesBy kind → IsFit g
        body_fit body.Nothing is puts moves = other_fit is moves
        body_fit body.Assignment is puts moves = other_fit is moves
        body_fit (body.Directed None) is puts moves = other_fit is moves
        body_fit (body.Directed (Some found)) is puts moves = directive_fit (is_frame found) found is puts moves
        body_fit body.Instruction is puts moves =
            both_ok (place (back s) labels) _ g is (λ after placed got. split_fit (is_split labels.current begun_now) after placed got puts moves)
        body_fit body.Unknown is puts moves = other_fit is moves

        -- the section that it may put into is by what it is
        moves_by : MovesBy (body_of (behind_labels s.tokens))
        moves_by after placed number held at other =
            end_by labels.sections after.sections number (one_section (back s) labels after number held (bare s.tokens) placed at other ∙ sym at)

        back_fit : body_followed (body_of (behind_labels s.tokens)) (back s) there ≡ Ok g → IsFit g
        back_fit is = body_fit (body_of (behind_labels s.tokens)) is put_by moves_by

    -- a statement keeps the state fit
    one_fit : (s : TokenStatement) (earlier later : List TokenStatement) → statements ≡ earlier ++ s ∷ later → (f g : FollowedSource) → follow_all earlier first ≡ Ok f
        → place_followed s f ≡ Ok g → statement_followed s f ≡ Ok g → IsFit f → IsFit g
    unfolding statement_followed
    one_fit s earlier later all f g so_far followed is fit =
        both_ok (labels_followed s f) (body_followed (body_of (behind_labels s.tokens)) (back s)) g is (λ there begun rest.
        let change : Placed → List (Recorded SeenItem) = λ after. labels_begun (place_of s) (labels_of s.tokens) f.placed f.functions in
        let made = step_made (place (front s) f.placed) change f there begun in
        let sections = (label s f.placed made.after made.placed).sections in
        back_fit s earlier later all f g so_far followed fit made.after made.placed (change made.after)
        (subst (λ (sections : List LooseSection). Sound sections (change made.after)) (sym sections)
        (labels_sound (place_of s) f.placed fit.places (labels_of s.tokens) f.functions fit.sound))
        (subst (λ (there : FollowedSource). body_followed (body_of (behind_labels s.tokens)) (back s) there ≡ Ok g) (sym made.is) rest))

    -- where functions are asked for it is followed
    followed_as : (s : TokenStatement) (f g : FollowedSource) → f.asked ≡ true → place_followed s f ≡ Ok g → statement_followed s f ≡ Ok g
    unfolding place_followed
    followed_as s f g asked is =
        remarked_ok f g (statement_followed s f)
        (sym (ap (λ b. cond b (remarked f (statement_followed s f)) (place s f.placed >>= (λ after. Ok (with_placed f after)))) asked) ∙ is)

    all_fit : (later earlier : List TokenStatement) (f g : FollowedSource) → statements ≡ earlier ++ later → follow_all earlier first ≡ Ok f → IsFit f → follow_all later f ≡ Ok g → IsFit g
    unfolding follow_all
    all_fit [] earlier f g all so_far fit is = subst IsFit (same_Ok f g is) fit
    all_fit (s ∷ rest) earlier f g all so_far fit is =
        both_ok (place_followed s f) (follow_all rest) g is (λ there one more.
        all_fit rest (earlier ++ s ∷ []) there g (all ∙ sym (append_assoc earlier (s ∷ []) rest)) (follow_one_more s earlier first f there so_far one)
        (one_fit s earlier rest all f there so_far one (followed_as s f there fit.asked one) fit) more)

    -- all statements do
    all_sound : (asked : first.asked ≡ true) → PlacesStand first.placed → first.functions ≡ [] → (g : FollowedSource) → follow_all statements first ≡ Ok g → Sound g.placed.sections g.functions
    unfolding follow_all
    all_sound asked places none g is =
        (all_fit statements [] first g refl refl (record { asked = asked; places = places; sound = subst (Sound first.placed.sections) (sym none) (All-nil (IsSound statements first first.placed.sections)) }) is).sound

  -- where functions are not asked for there are none
  none_placed : (answer : Result Placed FaultAt) (g : FollowedSource) → (answer >>= (λ after. Ok (with_placed first after))) ≡ Ok g → g.functions ≡ first.functions
  none_placed (Ok after) g is = sym (ap (λ (state : FollowedSource). state.functions) (same_Ok (with_placed first after) g is))
  none_placed (Err fault) g is = absurd (cc)

  none_asked : first.asked ≡ false → first.functions ≡ [] → (g : FollowedSource) → follow_all statements first ≡ Ok g → g.functions ≡ []
  none_asked asked none g is = none_placed (place_all statements first.placed) g (sym (unasked statements first asked) ∙ is) ∙ none

module _ (grow : (statements : List TokenStatement) (before placed : Placed) → place_all statements before ≡ Ok placed → Grows before.sections placed.sections)
    (begins : (no_warn : Bool) → PlacesStand (nothing_placed no_warn))
    (stand : (statements : List TokenStatement) (before placed : Placed) → place_all statements before ≡ Ok placed → PlacesStand before → PlacesStand placed)
    (label : (s : TokenStatement) (before after : Placed) → place (front s) before ≡ Ok after → AreLabels before after)
    (bare : (tokens : List SpelledToken) → begins_with_label (behind_labels tokens) ≡ false)
    (one_section : (s : TokenStatement) (before after : Placed) (number : ℕ) (held : LooseSection) → begins_with_label s.tokens ≡ false → place s before ≡ Ok after
    → slice_get before.sections number ≡ Some held → section_put (body_of s.tokens) before ≢ Some number → slice_get after.sections number ≡ Some held) where
  -- all functions are sound, whether they are asked for or not
  from_nothing : (statements : List TokenStatement) (no_warn asked : Bool) (f : FollowedSource) → follow_all statements (nothing_followed no_warn asked) ≡ Ok f
      → AreSound statements (nothing_followed no_warn asked) f.placed.sections f.functions
  from_nothing statements no_warn true f is =
      all_sound statements (nothing_followed no_warn true) grow stand label bare one_section refl (begins no_warn) refl f is
  from_nothing statements no_warn false f is =
      subst (AreSound statements (nothing_followed no_warn false) f.placed.sections) (sym (none_asked statements (nothing_followed no_warn false) refl refl f is))
      (All-nil (IsSound statements (nothing_followed no_warn false) f.placed.sections))

  -- so the items of each are joined,
  pub all_joined : (statements : List TokenStatement) (no_warn asked : Bool) (f : FollowedSource) → follow_all statements (nothing_followed no_warn asked) ≡ Ok f
      → All (IsJoined statements (nothing_followed no_warn asked) f.placed.sections) f.functions
  all_joined statements no_warn asked f is =
      All-weaker (IsSound statements (nothing_followed no_warn asked) f.placed.sections) (IsJoined statements (nothing_followed no_warn asked) f.placed.sections)
      (λ one sound. sound.joined) f.functions (from_nothing statements no_warn asked f is)

  -- and so they are once all have ended
  pub joined_at_end : (statements : List TokenStatement) (no_warn asked : Bool) (f : FollowedSource) → follow_all statements (nothing_followed no_warn asked) ≡ Ok f
      → All (IsJoined statements (nothing_followed no_warn asked) f.placed.sections) (functions_at_end f)
  joined_at_end statements no_warn asked f is =
      All-weaker (IsSound statements (nothing_followed no_warn asked) f.placed.sections) (IsJoined statements (nothing_followed no_warn asked) f.placed.sections)
      (λ one sound. sound.joined) (functions_at_end f)
      (all_closed_sound statements (nothing_followed no_warn asked) f.placed.sections f.functions (from_nothing statements no_warn asked f is))
