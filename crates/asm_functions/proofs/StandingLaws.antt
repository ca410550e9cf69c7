-- Functions stand in order in their sections behind each statement, and so behind all.
use Rattle.std.proofs.Common.{◌≡◌, ℕ, Bool, true, false, cond, List, [], ◌∷◌, All, Option, None, Some, Result, Ok, Err, refl, ap, subst}
use Rattle.std.specs.Prelude.{◌||◌, not, codes, drop}
use Rattle.asm_base.specs.Refusals.{◌>>=◌}
use Rattle.asm_base.specs.Tokens.{SpelledToken}
use Rattle.asm_base.specs.declared.places.Place.{Place}
use Rattle.asm_base.specs.declared.positions.Pos.{Pos}
use Rattle.asm_lines.specs.NextStatements.{TokenStatement}
use Rattle.asm_frags.specs.SectionOf.{section_number}
use Rattle.asm_frags.specs.Writing.{LooseSection}
use Rattle.asm_operands.specs.declared.place_faults.PlaceCause.{PlaceCause}
use Rattle.asm_operands.specs.Operands.{name_of, needed, operands_of}
use Rattle.asm_words.specs.declared.directives.Directive.{Directive}
use Rattle.asm_words.specs.declared.directives.Directive.TheVariants as directive
use Rattle.asm_words.specs.declared.symbol_kinds.NamedKind.{NamedKind}
use Rattle.asm_words.specs.SymbolKinds.{named_kind}
use Rattle.asm_declarations.specs.Commons.{bss}
use Rattle.asm_values.specs.State.{Placed}
use Rattle.asm_place.specs.declared.bodies.Body.{Body}
use Rattle.asm_place.specs.declared.bodies.Body.TheVariants as body
use Rattle.asm_place.specs.declared.place_faults.FaultAt.{FaultAt}
use Rattle.asm_place.specs.Bodies.{body_of, labels_of, front, back}
use Rattle.asm_place.specs.Effects.{insn_view, fill_said}
use Rattle.section_laws.specs.Within.{AreWithin}
use Rattle.asm_place.specs.Instructions.{behind_labels, Grows}
use Rattle.asm_place.specs.Sources.{place, place_all}
use Rattle.asm_place.specs.SymbolPlaces.{PlacesStand}
use Rattle.x86_insn.specs.Views.{View}
use Rattle.code_functions.specs.Recorded.{Recorded, added, is_split}
use Rattle.code_functions.specs.Seen.{SeenItem, data_item}
use Rattle.asm_functions.specs.Following.{end_of, fields_in, same_place, function_label, begun_by, labels_begun, with_data, with_moved, has_operands, plain_item, with_align, is_function, ended, with_kind, ended_of, with_size, follow_directive, item_seen, with_insn}
use Rattle.asm_functions.specs.FollowedSource.{FollowedSource, with_placed, with_functions, remarked, ignored_by, place_of, stepped, is_frame, unless_split, body_followed, labels_followed, statement_followed, place_followed, follow_all}
use Rattle.asm_functions.specs.Standing.{StandsInOrder}
use Rattle.asm_functions.proofs.StandingLemmas.{all_grown, added_stand, all_closed_stand, closed_of_stand, begun_stand}

-- all functions stand in order
abbrev Stand : List LooseSection → List (Recorded SeenItem) → Type 0
Stand sections functions = All (StandsInOrder sections) functions

-- A STATEMENT WITHOUT LABELS

module _ (pos : Pos) (there after : Placed) (grows : Grows there.sections after.sections) (within : AreWithin there.sections) (later : AreWithin after.sections)
    (functions : List (Recorded SeenItem)) (stand : Stand there.sections functions) where
  still : Stand after.sections functions
  still = all_grown there.sections after.sections grows functions stand

  put : (number : ℕ) (item : SeenItem) → item.place ≡ end_of there.sections number → Stand after.sections (added number item functions)
  put number item at = all_grown there.sections after.sections grows (added number item functions) (added_stand there.sections within number item functions at stand)

  data_by : (test : Bool) (number : ℕ) → Stand after.sections (cond test (added number (data_item pos (end_of there.sections number)) functions) functions)
  data_by true number = put number (data_item pos (end_of there.sections number)) refl
  data_by false number = still

  data_stand : (operands : Bool) (number : ℕ) → Stand after.sections (with_data operands pos number there after functions)
  data_stand operands number = data_by (operands || not (same_place (end_of there.sections number) (end_of after.sections number))) number

  moved_stand : (number : Option ℕ) → Stand after.sections (with_moved pos number there after functions)
  moved_stand None = still
  moved_stand (Some number) = data_stand false number

  plain_place : (padding : Bool) (at : Place) → (plain_item padding pos at).place ≡ at
  plain_place true at = refl
  plain_place false at = refl

  align_stand : (fill : Option ℕ) → Stand after.sections (with_align fill pos there functions)
  align_stand fill = put there.current _ (plain_place _ (end_of there.sections there.current))

  kind_by : (test : Bool) → Stand after.sections (cond test (ended after functions) functions)
  kind_by true = all_closed_stand after.sections later functions still
  kind_by false = still

  kind_stand : (read : Result NamedKind PlaceCause) → Stand after.sections (with_kind read after functions)
  kind_stand (Err cause) = still
  kind_stand (Ok words) = kind_by (is_function (Some words.kind))

  ended_of_stand : (found : Option ℕ) → Stand after.sections (ended_of found after functions)
  ended_of_stand None = still
  ended_of_stand (Some symbol) = closed_of_stand after.sections later symbol functions still

  size_stand : (read : Result (List ℕ × List (List SpelledToken)) PlaceCause) → Stand after.sections (with_size read after functions)
  size_stand (Err cause) = still
  size_stand (Ok name) = ended_of_stand _

  directive_stand : (found : Directive) (tokens : List SpelledToken) → Stand after.sections (follow_directive found pos tokens there after functions)
  unfolding follow_directive
  directive_stand (directive.Data size) tokens = data_stand (has_operands tokens) there.current
  directive_stand (directive.Strings ended) tokens = data_stand (has_operands tokens) there.current
  directive_stand (directive.Leb128 signed) tokens = data_stand (has_operands tokens) there.current
  directive_stand directive.Zero tokens = data_stand (has_operands tokens) there.current
  directive_stand directive.Skip tokens = data_stand (has_operands tokens) there.current
  directive_stand directive.Fill tokens = data_stand (has_operands tokens) there.current
  directive_stand directive.Org tokens = data_stand (has_operands tokens) there.current
  directive_stand (directive.Align by) tokens = align_stand (fill_said pos tokens there)
  directive_stand (directive.Enter initial) tokens = still
  directive_stand directive.Section tokens = still
  directive_stand directive.PushSection tokens = still
  directive_stand directive.PopSection tokens = still
  directive_stand directive.Previous tokens = still
  directive_stand (directive.Say attribute) tokens = still
  directive_stand directive.Type tokens = kind_stand (named_kind (operands_of tokens))
  directive_stand directive.Size tokens = size_stand (needed name_of (operands_of tokens))
  directive_stand (directive.Assign once) tokens = still
  directive_stand directive.Comm tokens = data_stand false bss
  directive_stand directive.Lcomm tokens = data_stand false bss
  directive_stand directive.Ident tokens = moved_stand (section_number (codes ".comment") there.sections)
  directive_stand directive.File tokens = still
  directive_stand directive.Loc tokens = still
  directive_stand (directive.Error said) tokens = still
  directive_stand directive.Warning tokens = still
  directive_stand (directive.Syntax syntax) tokens = still
  directive_stand directive.Code64 tokens = still
  directive_stand (directive.Frame frame) tokens = still

  item_place : (view : Option View) (at : Place) (fields more : ℕ) → (item_seen view pos at fields more).place ≡ at
  item_place None at fields more = refl
  item_place (Some view) at fields more = refl

  insn_stand : (tokens : List SpelledToken) → Stand after.sections (with_insn pos tokens there after functions)
  insn_stand tokens =
      put there.current _ (item_place (insn_view pos tokens there) (end_of there.sections there.current) (fields_in there.sections there.current) (fields_in after.sections there.current))

-- LABELS

module _ (pos : Pos) (before : Placed) (within : AreWithin before.sections) (stands : PlacesStand before) where
  begun_by_stand : (found : Option ℕ) (functions : List (Recorded SeenItem)) → Stand before.sections functions → Stand before.sections (begun_by found pos before functions)
  begun_by_stand None functions stand = stand
  begun_by_stand (Some symbol) functions stand =
      begun_stand before.sections within symbol pos before.current stands.current.section functions stands.current.there stand

  labels_stand : (tokens : List SpelledToken) (functions : List (Recorded SeenItem)) → Stand before.sections functions → Stand before.sections (labels_begun pos tokens before functions)
  unfolding labels_begun
  labels_stand [] functions stand = stand
  labels_stand (name ∷ []) functions stand = stand
  labels_stand (name ∷ colon ∷ rest) functions stand =
      labels_stand rest (begun_by (function_label before.table.symbols name) pos before functions) (begun_by_stand (function_label before.table.symbols name) functions stand)

-- ALL STATEMENTS

-- a state in which they do
record Sound (f : FollowedSource) : Type 0 where
  within : AreWithin f.placed.sections
  places : PlacesStand f.placed
  stand : Stand f.placed.sections f.functions

-- an answer keeps it so
abbrev Keeps : Result FollowedSource FaultAt → Type 0
Keeps answer = (g : FollowedSource) → answer ≡ Ok g → Sound g

same_Ok : {A E : Type 0} (x y : A) → ◌≡◌ {A = Result A E} (Ok x) (Ok y) → x ≡ y
same_Ok x y is = ap (λ r. elim r [ Ok made ↦ made | Err fault ↦ x ]) is

ok_keeps : (f : FollowedSource) → Sound f → Keeps (Ok f)
ok_keeps f sound g is = subst Sound (same_Ok f g is) sound

err_keeps : (stop : FaultAt) → Keeps (Err stop)
err_keeps stop g is = absurd (cc)

then_keeps : {A : Type 0} (r : Result A FaultAt) (next : A → Result FollowedSource FaultAt) → ((x : A) → r ≡ Ok x → Keeps (next x)) → Keeps (r >>= next)
then_keeps (Ok x) next later = later x refl
then_keeps (Err stop) next later = err_keeps stop

module _ (grows : (statements : List TokenStatement) (before placed : Placed) → place_all statements before ≡ Ok placed → Grows before.sections placed.sections)
    (withins : (statements : List TokenStatement) (before placed : Placed) → place_all statements before ≡ Ok placed → AreWithin before.sections → AreWithin placed.sections)
    (stands : (statements : List TokenStatement) (before placed : Placed) → place_all statements before ≡ Ok placed → PlacesStand before → PlacesStand placed) where
  -- what one statement places is what it does as the only one
  alone : (s : TokenStatement) (before after : Placed) → place s before ≡ Ok after → place_all (s ∷ []) before ≡ Ok after
  unfolding place_all
  alone s before after is = ap (λ r. r >>= place_all []) is

  -- behind a statement that is placed functions stand that stood before, or that it changed so
  behind : (s : TokenStatement) (f : FollowedSource) (after : Placed) (functions : List (Recorded SeenItem)) → Sound f → place s f.placed ≡ Ok after
      → (Grows f.placed.sections after.sections → AreWithin after.sections → Stand after.sections functions) → Sound (with_functions f after functions)
  behind s f after functions sound is changed =
      let only = alone s f.placed after is in
      let within = withins (s ∷ []) f.placed after only sound.within in
      record { within = within; places = stands (s ∷ []) f.placed after only sound.places; stand = changed (grows (s ∷ []) f.placed after only) within }

  stepped_keeps : (s : TokenStatement) (change : Placed → Placed → List (Recorded SeenItem) → List (Recorded SeenItem)) (f : FollowedSource) → Sound f
      → ((after : Placed) → Grows f.placed.sections after.sections → AreWithin after.sections → Stand after.sections (change f.placed after f.functions))
      → Keeps (stepped s change f)
  stepped_keeps s change f sound changed =
      then_keeps (place s f.placed) _ (λ after is. ok_keeps _ (behind s f after (change f.placed after f.functions) sound is (changed after)))

  other_keeps : (s : TokenStatement) (f : FollowedSource) → Sound f → Keeps (stepped s (λ there after functions. functions) f)
  other_keeps s f sound =
      stepped_keeps s (λ there after functions. functions) f sound (λ after more later. still (place_of s) f.placed after more sound.within later f.functions sound.stand)

  directive_keeps : (frame : Bool) (found : Directive) (s : TokenStatement) (f : FollowedSource) → Sound f
      → Keeps (cond frame (Ok (ignored_by (place_of s) f)) (stepped s (follow_directive found (place_of s) (drop 1 s.tokens)) f))
  directive_keeps true found s f sound = ok_keeps (ignored_by (place_of s) f) (record { within = sound.within; places = sound.places; stand = sound.stand })
  directive_keeps false found s f sound =
      stepped_keeps s (follow_directive found (place_of s) (drop 1 s.tokens)) f sound
      (λ after more later. directive_stand (place_of s) f.placed after more sound.within later f.functions sound.stand found (drop 1 s.tokens))

  split_keeps : (split : Bool) (s : TokenStatement) (f : FollowedSource) (after : Placed) → Sound f → place s f.placed ≡ Ok after
      → Keeps (unless_split (place_of s) f after (cond split None (Some (with_insn (place_of s) s.tokens f.placed after f.functions))))
  split_keeps true s f after sound is = err_keeps _
  split_keeps false s f after sound is =
      ok_keeps _ (behind s f after (with_insn (place_of s) s.tokens f.placed after f.functions) sound is
      (λ more later. insn_stand (place_of s) f.placed after more sound.within later f.functions sound.stand s.tokens))

  body_keeps : (kind : Body) (s : TokenStatement) (f : FollowedSource) → Sound f → Keeps (body_followed kind s f)
  body_keeps body.Nothing s f sound = other_keeps s f sound
  body_keeps body.Assignment s f sound = other_keeps s f sound
  body_keeps (body.Directed None) s f sound = other_keeps s f sound
  body_keeps (body.Directed (Some found)) s f sound = directive_keeps (is_frame found) found s f sound
  body_keeps body.Instruction s f sound =
      then_keeps (place s f.placed) _ (λ after is. split_keeps (is_split f.placed.current f.functions) s f after sound is)
  body_keeps body.Unknown s f sound = other_keeps s f sound

  labels_keep : (s : TokenStatement) (f : FollowedSource) → Sound f → Keeps (labels_followed s f)
  labels_keep s f sound =
      stepped_keeps (front s) (λ before there. labels_begun (place_of s) (labels_of s.tokens) before) f sound
      (λ after more later. all_grown f.placed.sections after.sections more _
      (labels_stand (place_of s) f.placed sound.within sound.places (labels_of s.tokens) f.functions sound.stand))

  statement_keeps : (s : TokenStatement) (f : FollowedSource) → Sound f → Keeps (statement_followed s f)
  unfolding statement_followed
  statement_keeps s f sound =
      then_keeps (labels_followed s f) _ (λ there is. body_keeps (body_of (behind_labels s.tokens)) (back s) there (labels_keep s f sound there is))

  remarked_keeps : (f : FollowedSource) (answer : Result FollowedSource FaultAt) → Keeps answer → Keeps (remarked f answer)
  remarked_keeps f (Ok more) keeps = keeps
  remarked_keeps f (Err stop) keeps = err_keeps _

  placed_keeps : (s : TokenStatement) (f : FollowedSource) → Sound f → Keeps (place s f.placed >>= (λ after. Ok (with_placed f after)))
  placed_keeps s f sound = other_keeps s f sound

  followed_keeps : (asked : Bool) (s : TokenStatement) (f : FollowedSource) → Sound f
      → Keeps (cond asked (remarked f (statement_followed s f)) (place s f.placed >>= (λ after. Ok (with_placed f after))))
  followed_keeps true s f sound = remarked_keeps f (statement_followed s f) (statement_keeps s f sound)
  followed_keeps false s f sound = placed_keeps s f sound

  all_keep : (statements : List TokenStatement) (f : FollowedSource) → Sound f → Keeps (follow_all statements f)
  unfolding follow_all place_followed
  all_keep [] f sound = ok_keeps f sound
  all_keep (s ∷ later) f sound = then_keeps (place_followed s f) (follow_all later) (λ there is. all_keep later there (followed_keeps f.asked s f sound there is))

  -- functions that stand in order stand so behind all statements
  pub all_stand : (statements : List TokenStatement) (f g : FollowedSource) → AreWithin f.placed.sections → PlacesStand f.placed → All (StandsInOrder f.placed.sections) f.functions
      → follow_all statements f ≡ Ok g → All (StandsInOrder g.placed.sections) g.functions
  all_stand statements f g within places stand is = (all_keep statements f (record { within = within; places = places; stand = stand }) g is).stand

  -- and fields and items stand within their sections
  pub all_within : (statements : List TokenStatement) (f g : FollowedSource) → AreWithin f.placed.sections → PlacesStand f.placed → All (StandsInOrder f.placed.sections) f.functions
      → follow_all statements f ≡ Ok g → AreWithin g.placed.sections
  all_within statements f g within places stand is = (all_keep statements f (record { within = within; places = places; stand = stand }) g is).within
