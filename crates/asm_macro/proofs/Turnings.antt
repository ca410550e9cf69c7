-- What became of the head, as what comes of the list in some turns.
use Rattle.std.proofs.Common.{◌≡◌, ◌≢◌, inl, inr, ℕ, ◌≤◌, ◌<◌, List, [], ◌∷◌, ◌++◌, Option, None, Some, Result, Ok, Err, refl, sym, ap, subst, ◌∙◌, arith}
use Rattle.asm_base.specs.Inputs.{Contents}
use Rattle.asm_base.specs.Tokens.{SpelledToken}
use Rattle.asm_base.specs.declared.positions.Pos.{Pos}
use Rattle.asm_lines.specs.NextStatements.{TokenStatement}
use Rattle.macro_blocks.specs.Levels.{Level}
use Rattle.macro_words.specs.declared.causes.MacroCause.{MacroCause}
use Rattle.macro_words.specs.declared.causes.MacroCause.TheVariants.{ExpansionTooLong, FileTooLarge}
use Rattle.macro_words.specs.Conditions.{Knowledge}
use Rattle.macro_words.specs.Statements.{pos_of, with_tokens, labels_of, behind_labels}
use Rattle.asm_macro.specs.declared.faults.ExpandFault.{ExpandFault}
use Rattle.asm_macro.specs.declared.faults.ExpandFault.TheVariants.{Lines, Expansion, Placing, Read, NoMemory}
use Rattle.asm_macro.specs.declared.heads.Head.{Head}
use Rattle.asm_macro.specs.declared.turned.Turned.{Turned}
use Rattle.asm_macro.specs.declared.turned.Turned.TheVariants as turned
use Rattle.asm_macro.specs.Expansion as list
use Rattle.asm_macro.specs.Expansion.{State, Turn, MacroAs, under, turn, most_given}
use Rattle.asm_macro.specs.Placing.{Step, goes, fails, refused, untold, with_placed, placed_by_turn, steps, in_next_file}
use Rattle.asm_macro.specs.Starts.{StartedFiles, unknown, files_of, files_after}
use Rattle.asm_macro.specs.Expanding.{Comes}
use Rattle.asm_macro.specs.Heads.{IsHead, turned_head}
use Rattle.asm_macro.specs.Readings.{InputAs, CountsMissed, HasStopped, Uses}
use Rattle.asm_macro.specs.Running.{Runs, RunsFrom, Steps, HandsOut, headed, counted}
use Rattle.asm_macro.specs.Turning.{Becomes, FailsSo, IsRewriting}
use Rattle.asm_macro.proofs.FilesGrow.{files_grow, same_files}
use Rattle.asm_macro.proofs.HeadTurns.{plain_turn, long_turn, labels_turn, bare_turn, no_more_labels, same_behind}
use Rattle.asm_macro.proofs.Runs.{steps_one, after_turns}
use Rattle.asm_macro.proofs.Wholes.{stopped_by, stopped_placing, stopped_without}

-- where nothing is told, all that may come may come
later_count : (wanted : StartedFiles) (before now : ℕ) → CountsMissed wanted before now → before ≤ now
later_count wanted before now (inl same) = omega (arith, same)
later_count wanted before now (inr (inl met)) = met.1
later_count wanted before now (inr (inr met)) = met.1

pub untold_uses : {T F : Type 0} (wanted : StartedFiles) (result : Result T (ExpandFault F)) (old new : List (List ℕ)) (before now : InputAs) → Uses result wanted old new before now → Uses result unknown old new before now
untold_uses wanted (Ok answer) old new before now is = is
untold_uses wanted (Err fault) old new before now is =
    record {
      more = is.more;
      names = is.names;
      contents = is.contents;
      cause = is.cause;
      missing = inr (inr (refl, later_count wanted before.missing now.missing is.missing));
      found = is.found;
      later = is.later;
      begun = is.begun;
      started = is.started;
      first = tt;
      reads = is.reads;
      too_large = is.too_large;
    }

untold_steps : {S F : Type 0} (result : Result Turned (ExpandFault F)) (wanted : Step S F) (level : Level) (now : State) (placer : S) → Steps result wanted level now placer → Steps result untold level now placer
untold_steps (Ok turned.Stays) wanted level now placer is = inr refl
untold_steps (Ok (turned.Enters inner)) wanted level now placer is = inr refl
untold_steps (Ok turned.Leaves) wanted level now placer is = inr refl
untold_steps (Err (Lines cause)) wanted level now placer is = is
untold_steps (Err (Expansion cause pos)) wanted level now placer is = inr refl
untold_steps (Err (Placing fault)) wanted level now placer is = inr refl
untold_steps (Err Read) wanted level now placer is = tt
untold_steps (Err NoMemory) wanted level now placer is = tt

pub untold_runs : {S F : Type 0} (result : Result Turned (ExpandFault F)) (wanted : Step S F) (level : Level) (now : State) (placer : S) (old : List (List ℕ)) (before after : InputAs)
    → Runs result wanted level now placer old before after → Runs result untold level now placer old before after
untold_runs result wanted level now placer old before after is =
    record { comes = untold_steps result wanted level now placer is.comes; uses = untold_uses _ result old now.files before after is.uses }

module _ {S F : Type 0} (placed : S → TokenStatement → Result S F) where
  comes_by : (old : List (List ℕ)) (placer : S) (t got : Turn) → Becomes t got → Comes (placed_by_turn placed old placer t) (placed_by_turn placed old placer got)
  comes_by old placer t got (inl e) = inl (ap (placed_by_turn placed old placer) e)
  comes_by old placer t got (inr e) = inr (ap (placed_by_turn placed old placer) e)

  fails_by : (old new : List (List ℕ)) (placer : S) (t : Turn) (cause : MacroCause) (pos : Pos) → FailsSo t old cause pos new → Comes (placed_by_turn placed old placer t) (fails new cause pos placer)
  fails_by old new placer (list.fails c p) cause pos is = inl (ap (λ x. fails old x p placer) is.0 ∙ ap (λ x. fails old cause x placer) is.1 ∙ ap (λ x. fails x cause pos placer) (sym is.2))
  fails_by old new placer (list.breaks name fault) cause pos is =
      inl (ap (λ x. fails (old ++ name ∷ []) x (in_next_file old fault.line) placer) is.0 ∙ ap (λ x. fails (old ++ name ∷ []) cause x placer) is.1 ∙ ap (λ x. fails x cause pos placer) (sym is.2))
  fails_by old new placer list.untold cause pos is = inr refl
  fails_by old new placer (list.hands s state) cause pos is = absurd is
  fails_by old new placer (list.goes state) cause pos is = absurd is
  fails_by old new placer list.ended cause pos is = absurd is
  fails_by old new placer (list.misses name) cause pos is = absurd is

  rewriting_steps : (result : Result Turned (ExpandFault F)) (t : Turn) (level : Level) (old : List (List ℕ)) (now : State) (placer : S) → IsRewriting result t level old now
      → Steps result (placed_by_turn placed old placer t) level now placer
  rewriting_steps (Ok turned.Stays) t level old now placer is = comes_by old placer t _ is
  rewriting_steps (Ok (turned.Enters inner)) t level old now placer is = comes_by old placer t _ is
  rewriting_steps (Ok turned.Leaves) t level old now placer is = comes_by old placer t _ is
  rewriting_steps (Err (Lines cause)) t level old now placer is = is
  rewriting_steps (Err (Expansion cause pos)) t level old now placer is = fails_by old now.files placer t cause pos is
  rewriting_steps (Err (Placing fault)) t level old now placer is = absurd is
  rewriting_steps (Err Read) t level old now placer is = tt
  rewriting_steps (Err NoMemory) t level old now placer is = tt

  rewriting_runs : (result : Result Turned (ExpandFault F)) (t : Turn) (level : Level) (old : List (List ℕ)) (now : State) (placer : S) (before after : InputAs) → IsRewriting result t level old now
      → Uses result (files_after old t) old now.files before after → Runs result (placed_by_turn placed old placer t) level now placer old before after
  rewriting_runs result t level old now placer before after is used =
      record { comes = rewriting_steps result t level old now placer is; uses = subst (λ files. Uses result files old now.files before after) (sym (same_files placed old placer t)) used }

  module _ (known : S → Knowledge) (contents : Option Contents) where
    -- a word or a call without labels
    pub bare_runs : (one : Head) (s : TokenStatement) (level left : Level) (state now : State) (placer : S) (result : Result Turned (ExpandFault F)) (before after : InputAs)
        → IsHead (Some one) (behind_labels s.tokens) state.macros → labels_of s.tokens ≡ []
        → IsRewriting result (turned_head (known placer) contents one (pos_of s) level state) left state.files now
        → Uses result (files_after state.files (turned_head (known placer) contents one (pos_of s) level state)) state.files now.files before after
        → RunsFrom placed known contents (headed s level state) placer result left now placer before after
    bare_runs one s level left state now placer result before after is none rewrites used =
        let here = bare_turn (known placer) contents one s level state is none in
        let run = rewriting_runs result (turned_head (known placer) contents one (pos_of s) level state) left state.files now placer before after rewrites used in
        let P : Step S F → Type 0 = λ x. Runs result x left now placer state.files before after in
        (1, subst P (ap (placed_by_turn placed state.files placer) (sym here) ∙ sym (steps_one placed known contents (headed s level state) placer)) run)

    -- behind labels that were placed
    pub labelled_runs : (one : Head) (s : TokenStatement) (level left : Level) (state middle now : State) (placer between other : S) (result : Result Turned (ExpandFault F)) (before after : InputAs)
        → IsHead (Some one) (behind_labels s.tokens) state.macros → labels_of s.tokens ≢ []
        → HandsOut {F = F} placed (with_tokens (labels_of s.tokens) s) (Ok tt) state placer middle between
        → RunsFrom placed known contents (headed (with_tokens (behind_labels s.tokens) s) level middle) between result left now other before after
        → RunsFrom placed known contents (headed s level state) placer result left now other before after
    labelled_runs one s level left state middle now placer between other result before after is some handed later =
        let here = labels_turn (known placer) contents one s level state handed.0 is some in
        let first = steps_one placed known contents (headed s level state) placer ∙ ap (placed_by_turn placed state.files placer) here
        ∙ ap (with_placed (headed (with_tokens (behind_labels s.tokens) s) level (counted state))) handed.1
        ∙ ap (λ m. goes (headed (with_tokens (behind_labels s.tokens) s) level m) between) (sym handed.2) in
        let P : Step S F → Type 0 = λ x. Runs result x left now other state.files before after in
        let names = ap (λ m. m.files) handed.2 in
        let Q : List (List ℕ) → Type 0 = λ old. (k : ℕ) × Runs result (steps placed known contents k (headed (with_tokens (behind_labels s.tokens) s) level middle) between) left now other old before after in
        let further : Q state.files = subst Q names later in
        after_turns placed known contents P 1 (headed s level state) placer (headed (with_tokens (behind_labels s.tokens) s) level middle) between (inl first)
        (untold_runs result _ left now other state.files before after further.1) further

    -- a statement that is handed out
    pub handed_runs : (s : TokenStatement) (level : Level) (state now : State) (placer after : S)
        → IsHead None (behind_labels s.tokens) state.macros → HandsOut {F = F} placed s (Ok tt) state placer now after
        → steps placed known contents 1 (headed s level state) placer ≡ goes (under level now) after
    handed_runs s level state now placer after is handed =
        let here = plain_turn (known placer) contents s level state handed.0 is in
        steps_one placed known contents (headed s level state) placer ∙ ap (placed_by_turn placed state.files placer) here
        ∙ ap (with_placed (under level (counted state))) handed.1 ∙ ap (λ m. goes (under level m) after) (sym handed.2)

    -- behind labels that were placed, by what became of the bare head
    pub labelled_head : (one : Head) (s : TokenStatement) (level left : Level) (state middle now : State) (placer between : S) (result : Result Turned (ExpandFault F)) (before after : InputAs)
        → IsHead (Some one) (behind_labels s.tokens) state.macros → labels_of s.tokens ≢ []
        → HandsOut {F = F} placed (with_tokens (labels_of s.tokens) s) (Ok tt) state placer middle between
        → IsRewriting result (turned_head (known between) contents one (pos_of s) level middle) left middle.files now
        → Uses result (files_after middle.files (turned_head (known between) contents one (pos_of s) level middle)) middle.files now.files before after
        → RunsFrom placed known contents (headed s level state) placer result left now between before after
    labelled_head one s level left state middle now placer between result before after is some handed rewrites used =
        let Heads : List SpelledToken → Type 0 = λ tokens. IsHead (Some one) tokens state.macros in
        let Knows : List MacroAs → Type 0 = λ macros. IsHead (Some one) (behind_labels (behind_labels s.tokens)) macros in
        let bare = subst Knows (sym (ap (λ m. m.macros) handed.2)) (subst Heads (sym (same_behind s.tokens)) is) in
        labelled_runs one s level left state middle now placer between between result before after is some handed
        (bare_runs one (with_tokens (behind_labels s.tokens) s) level left middle now between result before after bare (no_more_labels s.tokens) rewrites used)

    -- a statement that would be handed out is refused
    pub handed_fails : (s : TokenStatement) (level : Level) (start next state now : State) (placer after : S) (fault : ExpandFault F) (input : InputAs)
        → start.files ≡ state.files → next.files ≡ state.files
        → (state.given < most_given → turn (known placer) contents start ≡ list.hands s next)
        → (most_given ≤ state.given → turn (known placer) contents start ≡ list.fails ExpansionTooLong (pos_of s))
        → HandsOut placed s (Err fault) state placer now after
        → RunsFrom placed known contents start placer (Err fault) level now after input input
    handed_fails s level start next state now placer after (Lines cause) input same files hands long is = absurd is
    handed_fails s level start next state now placer after (Expansion cause pos) input same files hands long is =
        let here = long is.0 in
        let first = steps_one placed known contents start placer ∙ ap (placed_by_turn placed start.files placer) here in
        let told : steps placed known contents 1 start placer ≡ fails now.files cause pos after =
        first ∙ ap (λ x. fails start.files x (pos_of s) placer) (sym is.1) ∙ ap (λ x. fails start.files cause x placer) (sym is.2)
        ∙ ap (λ x. fails x cause pos placer) (same ∙ sym (ap (λ m. m.files) is.3)) ∙ ap (λ x. fails now.files cause pos x) (sym is.4) in
        let own : cause ≢ FileTooLarge = λ e. let both = is.1 in absurd cc in
        (1, record { comes = inl told; uses = subst (λ names. HasStopped {F = F} (Expansion cause pos) (files_of (steps placed known contents 1 start placer)) start.files names input input) (same ∙ sym (ap (λ m. m.files) is.3)) (stopped_by cause pos _ start.files input (files_grow placed known contents 1 start placer) own) })
    handed_fails s level start next state now placer after (Placing fault) input same files hands long is =
        let here = hands is.0 in
        let told : steps placed known contents 1 start placer ≡ refused now.files fault =
        steps_one placed known contents start placer ∙ ap (placed_by_turn placed start.files placer) here ∙ ap (with_placed next) is.1
        ∙ ap (λ x. refused x fault) (files ∙ sym (ap (λ m. m.files) is.2)) in
        (1, record { comes = inl told; uses = subst (λ names. HasStopped {F = F} (Placing fault) (files_of (steps placed known contents 1 start placer)) start.files names input input) (same ∙ sym (ap (λ m. m.files) is.2)) (stopped_placing fault _ start.files input (files_grow placed known contents 1 start placer)) })
    handed_fails s level start next state now placer after Read input same files hands long is = absurd is
    handed_fails s level start next state now placer after NoMemory input same files hands long is =
        (0, record { comes = tt; uses = subst (λ names. HasStopped {F = F} NoMemory (files_of (steps placed known contents 0 start placer)) start.files names input input) (same ∙ sym (ap (λ m. m.files) is)) (stopped_without _ start.files input (files_grow placed known contents 0 start placer)) })

    -- labels that are refused
    pub labels_fail : (one : Head) (s : TokenStatement) (level left : Level) (state now : State) (placer after : S) (fault : ExpandFault F) (input : InputAs)
        → IsHead (Some one) (behind_labels s.tokens) state.macros → labels_of s.tokens ≢ []
        → HandsOut placed (with_tokens (labels_of s.tokens) s) (Err fault) state placer now after
        → RunsFrom placed known contents (headed s level state) placer (Err fault) left now after input input
    labels_fail one s level left state now placer after fault input is some handed =
        handed_fails (with_tokens (labels_of s.tokens) s) left (headed s level state) (headed (with_tokens (behind_labels s.tokens) s) level (counted state)) state now placer after fault input refl refl
        (λ few. labels_turn (known placer) contents one s level state few is some) (λ many. long_turn (known placer) contents s level state many) handed

    -- a statement without a word or a call that is refused
    pub plain_fails : (s : TokenStatement) (level left : Level) (state now : State) (placer after : S) (fault : ExpandFault F) (input : InputAs)
        → IsHead None (behind_labels s.tokens) state.macros → HandsOut placed s (Err fault) state placer now after
        → RunsFrom placed known contents (headed s level state) placer (Err fault) left now after input input
    plain_fails s level left state now placer after fault input is handed =
        handed_fails s left (headed s level state) (under level (counted state)) state now placer after fault input refl refl
        (λ few. plain_turn (known placer) contents s level state few is) (λ many. long_turn (known placer) contents s level state many) handed
