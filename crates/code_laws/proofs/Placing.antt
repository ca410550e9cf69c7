-- Statements that put items are placed behind their labels.
use Rattle.std.proofs.Common.{◌≡◌, ℕ, ◌≤◌, ◌&&◌, Bool, true, false, cond, List, [], ◌∷◌, ◌++◌, Option, Some, None, Result, Ok, Err, map, length, refl, sym, ap, subst, ◌∙◌, arith, append_assoc, length-append}
use Rattle.std.specs.Prelude.{slice_get}
use Rattle.std.specs.Option.{option_map_or}
use Rattle.std.proofs.lemmas.List.Elements.{All-append, All-weaker}
use Rattle.std.proofs.lemmas.Option.{none-some}
use Rattle.asm_base.specs.Refusals.{◌>>=◌}
use Rattle.asm_base.specs.declared.notes.Noted.{Noted}
use Rattle.asm_lines.specs.NextStatements.{TokenStatement}
use Rattle.asm_frags.specs.declared.fields.Field.{Field}
use Rattle.asm_frags.specs.Writing.{LooseItem, LooseSection}
use Rattle.section_laws.specs.Within.{AreWithin}
use Rattle.asm_relax.specs.Settling.{LaidSections}
use Rattle.asm_uses.specs.Places.{spot_at, spot_in, no_spot}
use Rattle.asm_operands.specs.declared.place_faults.PlaceCause.{PlaceCause}
use Rattle.asm_operands.specs.Operands.{begins_with_label}
use Rattle.asm_words.specs.declared.directives.Directive.{Directive}
use Rattle.asm_words.specs.declared.directives.Directive.TheVariants as directive
use Rattle.asm_values.specs.State.{Placed, nothing_placed}
use Rattle.asm_place.specs.declared.bodies.Body.{Body}
use Rattle.asm_place.specs.declared.bodies.Body.TheVariants as body
use Rattle.asm_place.specs.declared.place_faults.FaultAt.{FaultAt}
use Rattle.asm_place.specs.Bodies.{body_of, front, back, place_in_two, AreLabels}
use Rattle.asm_place.specs.Instructions.{behind_labels, with_more, IsContinued, Grows}
use Rattle.asm_place.specs.Placing.{place_tokens}
use Rattle.asm_place.specs.Sources.{pos_at, located, place, place_all}
use Rattle.asm_place.specs.SymbolPlaces.{PlacesStand}
use Rattle.asm_functions.specs.FollowedSource.{FollowedSource, nothing_followed, place_followed, follow_all, is_frame_body, placed_part}
use Rattle.asm_functions.specs.Joined.{PutItem, body_put}
use Rattle.place_laws.specs.Ends.{end_in, items_in}
use Rattle.code_laws.specs.Functions.{laid_place, EndsArePlaces, ItemsArePlaced}

-- what is known of statements
pub record Facts : Type 0 where
  pub grow : (statements : List TokenStatement) (before placed : Placed) → place_all statements before ≡ Ok placed → Grows before.sections placed.sections
  pub begins : (no_warn : Bool) → AreWithin (nothing_placed no_warn).sections
  pub kept : (statements : List TokenStatement) (before placed : Placed) → place_all statements before ≡ Ok placed → AreWithin before.sections → AreWithin placed.sections
  pub stand_first : (no_warn : Bool) → PlacesStand (nothing_placed no_warn)
  pub stand : (statements : List TokenStatement) (before placed : Placed) → place_all statements before ≡ Ok placed → PlacesStand before → PlacesStand placed
  pub following : (statements : List TokenStatement) (before f : FollowedSource) → follow_all statements before ≡ Ok f
      → place_all (map (placed_part before.asked) statements) before.placed ≡ Ok f.placed
  pub labels : (s : TokenStatement) (before after : Placed) → place (front s) before ≡ Ok after → AreLabels before after
  pub bare : (tokens : _) → begins_with_label (behind_labels tokens) ≡ false
  pub two : (s : TokenStatement) (placed : Placed) → place s placed ≡ place_in_two s placed

-- ONE STATEMENT

pub err-ok : {A E C : Type 0} (fault : E) (x : A) → ◌≡◌ {A = Result A E} (Err fault) (Ok x) → C
err-ok fault x is = absurd (cc)

pub same_Ok : {A E : Type 0} (x y : A) → ◌≡◌ {A = Result A E} (Ok x) (Ok y) → x ≡ y
same_Ok x y is = ap (λ r. elim r [ Ok made ↦ made | Err fault ↦ x ]) is

located_ok : (s : TokenStatement) (notes : List Noted) (answer : Result Placed PlaceCause) (placed : Placed) → located s notes answer ≡ Ok placed → answer ≡ Ok placed
located_ok s notes (Ok more) placed is = ap Ok (same_Ok more placed is)
located_ok s notes (Err cause) placed is = err-ok _ placed is

pub tokens_placed : (s : TokenStatement) (before placed : Placed) → place s before ≡ Ok placed → place_tokens (pos_at s.file s.line) s.tokens before ≡ Ok placed
unfolding place
tokens_placed s before placed is = located_ok s before.notes (place_tokens (pos_at s.file s.line) s.tokens before) placed is

pub one_placed : (s : TokenStatement) (before placed : Placed) → place s before ≡ Ok placed → place_all (s ∷ []) before ≡ Ok placed
unfolding place_all
one_placed s before placed is = ap (λ answer. answer >>= place_all []) is

-- STATEMENTS THAT ARE FOLLOWED

first_ok : {A E : Type 0} (answer : Result A E) (made : A) → (answer >>= (λ x. Ok x)) ≡ Ok made → answer ≡ Ok made
first_ok (Ok x) made is = is
first_ok (Err fault) made is = err-ok fault made is

-- what follows the first statements
rest_follows : (earlier later : List TokenStatement) (first before whole : FollowedSource) → follow_all earlier first ≡ Ok before → follow_all (earlier ++ later) first ≡ Ok whole
    → follow_all later before ≡ Ok whole
unfolding follow_all
rest_follows [] later first before whole is all = ap (follow_all later) (sym (same_Ok first before is)) ∙ all
rest_follows (s ∷ earlier) later first before whole is all =
    by (place_followed s first) (λ next. rest_follows earlier later next before whole) is all
  where
    by : (answer : Result FollowedSource FaultAt)
        → ((next : FollowedSource) → follow_all earlier next ≡ Ok before → follow_all (earlier ++ later) next ≡ Ok whole → follow_all later before ≡ Ok whole)
        → (answer >>= follow_all earlier) ≡ Ok before → (answer >>= follow_all (earlier ++ later)) ≡ Ok whole → follow_all later before ≡ Ok whole
    by (Ok next) go is all = go next is all
    by (Err fault) go is all = err-ok fault before is

one_follows : (s : TokenStatement) (before after : FollowedSource) → place_followed s before ≡ Ok after → follow_all (s ∷ []) before ≡ Ok after
unfolding follow_all
one_follows s before after is = ap (λ answer. answer >>= follow_all []) is

more_follows : (s : TokenStatement) (later : List TokenStatement) (before after whole : FollowedSource) → place_followed s before ≡ Ok after → follow_all (s ∷ later) before ≡ Ok whole
    → follow_all later after ≡ Ok whole
more_follows s later before after whole is all = rest_follows (s ∷ []) later before after whole (one_follows s before after is) all

-- no statement of a frame table puts an item
no_frame : (found : Body) (pos : _) (tokens : _) (there after : Placed) (put : PutItem) → body_put found pos tokens there after ≡ Some put → is_frame_body found ≡ false
no_frame body.Nothing pos tokens there after put is = refl
no_frame body.Assignment pos tokens there after put is = refl
no_frame (body.Directed None) pos tokens there after put is = refl
no_frame body.Instruction pos tokens there after put is = refl
no_frame body.Unknown pos tokens there after put is = refl
no_frame (body.Directed (Some found)) pos tokens there after put is = by found is
  where
    by : (found : Directive) → body_put (body.Directed (Some found)) pos tokens there after ≡ Some put → is_frame_body (body.Directed (Some found)) ≡ false
    by (directive.Frame frame) is = absurd (none-some put is)
    by (directive.Data size) is = refl
    by (directive.Strings ended) is = refl
    by (directive.Leb128 signed) is = refl
    by directive.Zero is = refl
    by directive.Skip is = refl
    by directive.Fill is = refl
    by (directive.Align aligned) is = refl
    by directive.Org is = refl
    by (directive.Enter initial) is = refl
    by directive.Section is = refl
    by directive.PushSection is = refl
    by directive.PopSection is = refl
    by directive.Previous is = refl
    by (directive.Say attribute) is = refl
    by directive.Type is = refl
    by directive.Size is = refl
    by (directive.Assign once) is = refl
    by directive.Comm is = refl
    by directive.Lcomm is = refl
    by directive.Ident is = refl
    by directive.File is = refl
    by directive.Loc is = refl
    by (directive.Error said) is = refl
    by directive.Warning is = refl
    by (directive.Syntax syntax) is = refl
    by directive.Code64 is = refl

part_is : (asked frame : Bool) (s : TokenStatement) → frame ≡ false → cond (asked && frame) (front s) s ≡ s
part_is true frame s none = ap (λ b. cond b (front s) s) none
part_is false frame s none = refl

place_one : (s : TokenStatement) (before placed : Placed) → place_all (s ∷ []) before ≡ Ok placed → place s before ≡ Ok placed
unfolding place_all
place_one s before placed is = first_ok (place s before) placed is

-- SECTIONS THAT GROW

continued_on : (section : LooseSection) (middle last : Option LooseSection) → (one : IsContinued section middle)
    → IsContinued (with_more section one.bytes one.fields one.items) last → IsContinued section last
continued_on section middle last one two =
    let count = length-append section.bytes one.bytes in
    record {
      bytes = one.bytes ++ two.bytes;
      fields = one.fields ++ two.fields;
      items = one.items ++ two.items;
      there = two.there ∙ ap (λ (bytes : List ℕ). Some (record section {
        bytes = bytes;
        fields = (section.fields ++ one.fields) ++ two.fields;
        items = (section.items ++ one.items) ++ two.items;
      })) (append_assoc section.bytes one.bytes two.bytes)
          ∙ ap (λ (fields : List Field). Some (record section {
            bytes = section.bytes ++ (one.bytes ++ two.bytes);
            fields = fields;
            items = (section.items ++ one.items) ++ two.items;
          })) (append_assoc section.fields one.fields two.fields)
          ∙ ap (λ (items : List LooseItem). Some (record section {
            bytes = section.bytes ++ (one.bytes ++ two.bytes);
            fields = section.fields ++ (one.fields ++ two.fields);
            items = items;
          })) (append_assoc section.items one.items two.items);
      fields_behind =
          All-append (λ (field : Field). length section.bytes ≤ field.offset) one.fields two.fields one.fields_behind
          (All-weaker (λ (field : Field). length (section.bytes ++ one.bytes) ≤ field.offset) (λ (field : Field). length section.bytes ≤ field.offset)
          (λ field high. omega (arith, high, count)) two.fields two.fields_behind);
      items_behind =
          All-append (λ (item : LooseItem). length section.bytes ≤ item.offset) one.items two.items one.items_behind
          (All-weaker (λ (item : LooseItem). length (section.bytes ++ one.bytes) ≤ item.offset) (λ (item : LooseItem). length section.bytes ≤ item.offset)
          (λ item high. omega (arith, high, count)) two.items two.items_behind);
    }

pub grows_on : (before middle after : List LooseSection) → Grows before middle → Grows middle after → Grows before after
grows_on before middle after one two = record {
  kept = λ number section there.
      let first = one.kept number section there in
      continued_on section (slice_get middle number) (slice_get after number) first
      (two.kept number (with_more section first.bytes first.fields first.items) first.there);
}

-- PLACES

spot_gives : (laid : LaidSections) (number : ℕ) (found : Option LooseSection)
    → option_map_or (end_in (items_in laid number)) found 0 ≡ laid_place laid number (option_map_or (spot_in number) found (no_spot number)).place.place
spot_gives laid number None = refl
spot_gives laid number (Some section) = refl

pub ends_are_places : EndsArePlaces
unfolding spot_at
ends_are_places laid number sections = spot_gives laid number (slice_get sections number)

-- THE STATEMENT OF AN ITEM

pub items_are_placed : Facts → ItemsArePlaced
items_are_placed facts statements no_warn asked whole number item from to all put =
    let first = nothing_followed no_warn asked in
    let s = put.statement in
    let before = put.before in
    let after = put.after in
    let labels = put.labels in
    let earlier = facts.following put.earlier first before put.before_is in
    let tail = rest_follows put.earlier (s ∷ put.later) first before whole put.before_is (ap (λ (all : List TokenStatement). follow_all all first) (sym put.all) ∙ all) in
    let rest = facts.following put.later after whole (more_follows s put.later before after whole put.after_is tail) in
    let frame = no_frame (body_of (behind_labels s.tokens)) _ (behind_labels s.tokens) labels after.placed _ put.put in
    let part = part_is before.asked (is_frame_body (body_of (behind_labels s.tokens))) s frame in
    let placed : place s before.placed ≡ Ok after.placed =
    subst (λ (t : TokenStatement). place t before.placed ≡ Ok after.placed) part
    (place_one (placed_part before.asked s) before.placed after.placed (facts.following (s ∷ []) before after (one_follows s before after put.after_is))) in
    let behind : place (back s) labels ≡ Ok after.placed =
    sym (ap (λ answer. answer >>= place (back s)) put.labels_are) ∙ (sym (facts.two s before.placed) ∙ placed) in
    let same = (facts.labels s before.placed labels put.labels_are).sections in
    record {
      bare = facts.bare s.tokens;
      placed = behind;
      tokens = tokens_placed (back s) labels after.placed behind;
      same = same;
      within = subst AreWithin (sym same) (facts.kept _ (nothing_placed no_warn) before.placed earlier (facts.begins no_warn));
      stand = facts.stand (front s ∷ []) before.placed labels (one_placed (front s) before.placed labels put.labels_are)
          (facts.stand _ (nothing_placed no_warn) before.placed earlier (facts.stand_first no_warn));
      later = map (placed_part after.asked) put.later;
      rest = rest;
      grows = facts.grow _ after.placed whole.placed rest;
    }
