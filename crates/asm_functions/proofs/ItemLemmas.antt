-- What is seen of an instruction's item is what is seen of the instruction.
use Rattle.std.proofs.Common.{◌≡◌, ℕ, Bool, true, false, cond, List, Option, None, Some, Ok, Err, refl, sym, ap, ◌∙◌}
use Rattle.asm_base.specs.Refusals.{◌>>=◌, Fails}
use Rattle.asm_base.specs.Tokens.{SpelledToken}
use Rattle.asm_base.specs.declared.places.Place.{Place}
use Rattle.asm_base.specs.declared.positions.Pos.{Pos}
use Rattle.asm_base.specs.declared.refusals.Refusal.{Refusal}
use Rattle.asm_base.specs.declared.refusals.Refusal.TheVariants as refusal
use Rattle.asm_values.specs.State.{Placed}
use Rattle.x86_insn.specs.Views.{View}
use Rattle.insn_effects.specs.declared.effects.Effect.{Effect}
use Rattle.asm_place.specs.Effects.{ShowsInsn, insn_view}
use Rattle.asm_place.specs.Sources.{place}
use Rattle.asm_place.specs.declared.place_faults.FaultAt.{FaultAt}
use Rattle.code_functions.specs.Recorded.{Recorded, added, is_split}
use Rattle.code_functions.specs.Seen.{SeenItem}
use Rattle.asm_functions.specs.Following.{end_of, fields_in, item_seen, effect_item, with_insn, follow_insn}
use Rattle.asm_functions.specs.FollowedSource.{FollowedSource, at, with_functions, unless_split, insn_followed}
use Rattle.asm_functions.specs.Refusals.{IsSplitFault}

insn_seen : (view : Option View) (effect : Effect) (pos : Pos) (place : Place) (before after : ℕ) → ShowsInsn view effect
    → effect_item effect pos place before after ≡ item_seen view pos place before after
insn_seen None effect pos place before after shows = ap (λ e. effect_item e pos place before after) shows
insn_seen (Some view) effect pos place before after shows = rw (shows.effect, shows.flow, shows.supported, shows.no_padding, shows.no_data) refl

module _ (pos : Pos) (tokens : List SpelledToken) (f : FollowedSource) where
  -- what comes of an instruction that is placed
  placed_so : (after : Placed) (split : Bool) → place (at pos tokens) f.placed ≡ Ok after → is_split f.placed.current f.functions ≡ split
      → insn_followed (at pos tokens) f ≡ unless_split pos f after (cond split None (Some (with_insn pos tokens f.placed after f.functions)))
  placed_so after split is splits =
      ap (λ r. r >>= (λ then_placed. unless_split pos f then_placed (follow_insn pos tokens f.placed then_placed f.functions))) is
      ∙ ap (λ b. unless_split pos f after (cond b None (Some (with_insn pos tokens f.placed after f.functions)))) splits

  -- its item is recorded
  pub insn_added : (after : Placed) (functions : List (Recorded SeenItem)) (effect : Effect) → place (at pos tokens) f.placed ≡ Ok after
      → is_split f.placed.current f.functions ≡ false → ShowsInsn (insn_view pos tokens f.placed) effect
      → functions ≡ added f.placed.current (effect_item effect pos (end_of f.placed.sections f.placed.current) (fields_in f.placed.sections f.placed.current)
      (fields_in after.sections f.placed.current)) f.functions
      → insn_followed (at pos tokens) f ≡ Ok (with_functions f after functions)
  insn_added after functions effect is splits shows recorded =
      placed_so after false is splits
      ∙ ap (λ all. Ok (with_functions f after all))
      (sym (recorded ∙ ap (λ item. added f.placed.current item f.functions)
      (insn_seen (insn_view pos tokens f.placed) effect pos (end_of f.placed.sections f.placed.current) (fields_in f.placed.sections f.placed.current) (fields_in after.sections f.placed.current) shows)))

  -- or it splits a function
  pub insn_split : (after : Placed) (raised : Refusal FaultAt) → place (at pos tokens) f.placed ≡ Ok after → is_split f.placed.current f.functions ≡ true
      → IsSplitFault pos after.notes raised → Fails raised (insn_followed (at pos tokens) f)
  insn_split after refusal.NoMemory is splits split = tt
  insn_split after (refusal.Fault raised) is splits split = placed_so after true is splits ∙ ap Err (sym split)

  -- or it is not placed
  pub insn_refused : (raised : Refusal FaultAt) → Fails raised (place (at pos tokens) f.placed) → Fails raised (insn_followed (at pos tokens) f)
  insn_refused refusal.NoMemory fails = tt
  insn_refused (refusal.Fault raised) fails =
      ap (λ r. r >>= (λ after. unless_split pos f after (follow_insn pos tokens f.placed after f.functions))) fails

  -- the same of what was told before and behind it
  pub insn_recorded : (after : Placed) (functions : List (Recorded SeenItem)) (effect : Effect) (number : ℕ) (start : Place) (before more : ℕ)
      → place (at pos tokens) f.placed ≡ Ok after → ShowsInsn (insn_view pos tokens f.placed) effect → number ≡ f.placed.current
      → start ≡ end_of f.placed.sections number → before ≡ fields_in f.placed.sections number → more ≡ fields_in after.sections number
      → is_split number f.functions ≡ false → functions ≡ added number (effect_item effect pos start before more) f.functions
      → insn_followed (at pos tokens) f ≡ Ok (with_functions f after functions)
  insn_recorded after functions effect number start before more is shows number_is start_is before_is more_is splits recorded =
      insn_added after functions effect is (ap (λ n. is_split n f.functions) (sym number_is) ∙ splits) shows
      (recorded
      ∙ ap (λ s. added number (effect_item effect pos s before more) f.functions) start_is
      ∙ ap (λ b. added number (effect_item effect pos (end_of f.placed.sections number) b more) f.functions) before_is
      ∙ ap (λ m. added number (effect_item effect pos (end_of f.placed.sections number) (fields_in f.placed.sections number) m) f.functions) more_is
      ∙ ap (λ n. added n (effect_item effect pos (end_of f.placed.sections n) (fields_in f.placed.sections n) (fields_in after.sections n)) f.functions) number_is)
