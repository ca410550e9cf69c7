-- A statement is its labels, and then what stands behind them.
use Rattle.std.proofs.Common.{◌≡◌, ℕ, ◌+◌, ◌-◌, Bool, true, false, cond, List, [], ◌∷◌, ◌++◌, length, suc, map, take, drop, Result, Ok, Err, refl, sym, ap, ◌∙◌, subst, slice_get, arith, length-append}
use Rattle.std.specs.Prelude.{◌&&◌, ◌||◌}
use Rattle.std.proofs.lemmas.Bool.{false≢true}
use Rattle.std.proofs.lemmas.List.{append_cancel_right, drop-drop, drop-map, map-append, take-append-drop}
use Rattle.asm_base.specs.Refusals.{◌>>=◌}
use Rattle.asm_base.specs.Tokens.{SpelledToken, spelled}
use Rattle.asm_base.specs.declared.tokens.Token.{Token}
use Rattle.asm_base.specs.declared.causes.SymCause.{SymCause}
use Rattle.asm_base.specs.declared.causes.SymCause.TheVariants as symbol
use Rattle.asm_base.specs.declared.faults.Fault.TheVariants.{Statement}
use Rattle.asm_base.specs.declared.faults.StatementFault.TheVariants as statement
use Rattle.asm_base.specs.declared.notes.Noted.{Noted}
use Rattle.asm_base.specs.declared.positions.Pos.{Pos}
use Rattle.asm_base.specs.declared.tokens.TokenKind.{TokenKind}
use Rattle.asm_base.specs.declared.tokens.TokenKind.TheVariants.{Name, String, Digits}
use Rattle.asm_expr.specs.declared.faults.ExprCause.{ExprCause}
use Rattle.asm_expr.specs.declared.faults.ExprCause.TheVariants as expr
use Rattle.asm_expr.specs.declared.naming.Name.TheVariants as naming
use Rattle.asm_base.specs.Strings.{string_value}
use Rattle.asm_lines.specs.NextStatements.{TokenStatement}
use Rattle.asm_operands.specs.declared.place_faults.PlaceCause.{PlaceCause}
use Rattle.asm_operands.specs.declared.place_faults.PlaceCause.TheVariants.{NumberTooWide, ErrorDirective, BadOperand}
use Rattle.asm_operands.specs.ExprFaults.{in_statement}
use Rattle.asm_operands.specs.LayerFaults.{of_symbols}
use Rattle.asm_operands.specs.Operands.{is_label, is_dot, begins_with_label, name_by_kind, symbol_name, checked_name}
use Rattle.expr_texts.specs.Leaves.{between_quotes, is_symbol_name}
use Rattle.expr_texts.specs.Numbers.{numeral}
use Rattle.asm_symbols.specs.declared.entries.Definition.TheVariants.{Label}
use Rattle.asm_symbols.specs.Defining.{defined}
use Rattle.asm_symbols.specs.Counting.{next_named}
use Rattle.asm_symbols.specs.Interning.{named}
use Rattle.asm_symbols.specs.SymbolMap.{SymbolMap}
use Rattle.asm_uses.specs.Labels.{named_symbol, label_by, label_symbol}
use Rattle.asm_uses.specs.Tables.{Table, with_map, changed_by, found_in, symbol_of, next_symbol}
use Rattle.asm_values.specs.State.{Placed, with_table, unless_dot, here}
use Rattle.asm_place.specs.Bodies.{labels_of, front, back, AreLabels}
use Rattle.asm_place.specs.CodePlaces.{labelled}
use Rattle.asm_place.specs.Faults.{statement_fault}
use Rattle.asm_place.specs.Instructions.{behind_labels}
use Rattle.asm_place.specs.Placing.{place_label, place_unlabelled, place_labelled, is_too_wide, has_wide_label, place_tokens}
use Rattle.asm_place.specs.Remarks.{string_in, last_string}
use Rattle.asm_place.specs.Sources.{pos_at, fault_at, located, place}
use Rattle.asm_place.proofs.LabelLemmas.{label_two, tokens_unlabelled}
use Rattle.asm_place.proofs.InstructionLaws.{wide_ok, located_ok}
use Rattle.asm_place.proofs.CodeLaws.{labels_split, labels_keep}

-- THE TOKENS

first_by : (test : Bool) (one other : SpelledToken) (rest : List SpelledToken) → labels_of rest ++ behind_labels rest ≡ rest
    → cond test (one ∷ other ∷ labels_of rest) [] ++ cond test (behind_labels rest) (one ∷ other ∷ rest) ≡ one ∷ other ∷ rest
first_by true one other rest again = ap (λ ts. one ∷ other ∷ ts) again
first_by false one other rest again = refl

-- the labels stand first,
pub labels_first : (tokens : List SpelledToken) → labels_of tokens ++ behind_labels tokens ≡ tokens
unfolding labels_of behind_labels
labels_first [] = refl
labels_first (one ∷ []) = refl
labels_first (one ∷ other ∷ rest) = first_by (is_label one other) one other rest (labels_first rest)

bare_by : (test : Bool) (one other : SpelledToken) (rest : List SpelledToken) → is_label one other ≡ test → begins_with_label (behind_labels rest) ≡ false
    → begins_with_label (cond test (behind_labels rest) (one ∷ other ∷ rest)) ≡ false
bare_by true one other rest is again = again
bare_by false one other rest is again = is

-- and none of them behind the others
pub no_label_behind : (tokens : List SpelledToken) → begins_with_label (behind_labels tokens) ≡ false
unfolding behind_labels
no_label_behind [] = refl
no_label_behind (one ∷ []) = refl
no_label_behind (one ∷ other ∷ rest) = bare_by (is_label one other) one other rest refl (no_label_behind rest)

two_less : (tokens : List Token) (at : ℕ) → drop 2 (map spelled (drop at tokens)) ≡ map spelled (drop (at + 2) tokens)
two_less tokens at = drop-map spelled 2 (drop at tokens) ∙ ap (map spelled) (drop-drop 2 at tokens)

-- where a label stands in front, what stands behind the two tokens of it has the same behind its labels
behind_two : (tokens : List SpelledToken) → begins_with_label tokens ≡ true → behind_labels tokens ≡ behind_labels (drop 2 tokens)
unfolding behind_labels
behind_two [] is = absurd (false≢true is)
behind_two (one ∷ []) is = absurd (false≢true is)
behind_two (one ∷ other ∷ rest) is = ap (λ test. cond test (behind_labels rest) (one ∷ other ∷ rest)) is

pub behind_step : (tokens : List Token) (at : ℕ) → begins_with_label (map spelled (drop at tokens)) ≡ true
    → behind_labels (map spelled (drop (at + 2) tokens)) ≡ behind_labels (map spelled (drop at tokens))
behind_step tokens at is = sym (behind_two (map spelled (drop at tokens)) is ∙ ap behind_labels (two_less tokens at))

-- where none does, nothing is taken away
pub behind_none : (tokens : List SpelledToken) → begins_with_label tokens ≡ false → behind_labels tokens ≡ tokens
unfolding behind_labels
behind_none [] is = refl
behind_none (one ∷ []) is = refl
behind_none (one ∷ other ∷ rest) is = ap (λ test. cond test (behind_labels rest) (one ∷ other ∷ rest)) is

-- what stands before is the labels
pub front_is : (tokens : List Token) (at : ℕ) → map spelled (drop at tokens) ≡ behind_labels (map spelled tokens)
    → map spelled (take at tokens) ≡ labels_of (map spelled tokens)
front_is tokens at back =
    append_cancel_right (map spelled (take at tokens)) (labels_of (map spelled tokens)) (behind_labels (map spelled tokens))
    (ap (λ ts. map spelled (take at tokens) ++ ts) (sym back)
    ∙ (sym (map-append spelled (take at tokens) (drop at tokens))
    ∙ (ap (map spelled) (take-append-drop at tokens) ∙ sym (labels_first (map spelled tokens)))))

-- WHAT THEY PLACE

wide_by : (test : Bool) (one other : SpelledToken) (rest : List SpelledToken) → is_label one other ≡ test
    → has_wide_label (labels_of rest) ≡ has_wide_label rest
    → has_wide_label (cond test (one ∷ other ∷ labels_of rest) []) ≡ (test && (is_too_wide one || has_wide_label rest))
unfolding has_wide_label
wide_by true one other rest is again =
    ap (λ b. b && (is_too_wide one || has_wide_label (labels_of rest))) is ∙ ap (λ b. is_too_wide one || b) again
wide_by false one other rest is again = refl

-- the numbers of labels are those in front
wide_front : (tokens : List SpelledToken) → has_wide_label (labels_of tokens) ≡ has_wide_label tokens
unfolding labels_of has_wide_label
wide_front [] = refl
wide_front (one ∷ []) = refl
wide_front (one ∷ other ∷ rest) =
    wide_by (is_label one other) one other rest refl (wide_front rest)

-- the same steps give the same
same_steps : {A B E : Type 0} (r : Result A E) (f g : A → Result B E) → ((x : A) → f x ≡ g x) → (r >>= f) ≡ (r >>= g)
same_steps (Ok x) f g same = same x
same_steps (Err fault) f g same = refl

front_by : (test : Bool) (pos : Pos) (one other : SpelledToken) (rest : List SpelledToken) (placed : Placed) → is_label one other ≡ test
    → ((labels : Placed) → place_labelled pos (labels_of rest) labels ≡ labelled pos rest labels)
    → place_labelled pos (cond test (one ∷ other ∷ labels_of rest) []) placed
    ≡ cond test (place_label pos one placed >>= (λ labels. labelled pos rest labels)) (Ok placed)
unfolding place_labelled
front_by true pos one other rest placed is again =
    label_two pos one other (labels_of rest) placed is
    ∙ same_steps (place_label pos one placed) (λ labels. place_labelled pos (labels_of rest) labels) (λ labels. labelled pos rest labels) again
front_by false pos one other rest placed is again = refl

front_placed : (pos : Pos) (tokens : List SpelledToken) (placed : Placed) → place_labelled pos (labels_of tokens) placed ≡ labelled pos tokens placed
unfolding labels_of place_labelled labelled
front_placed pos [] placed = refl
front_placed pos (one ∷ []) placed = refl
front_placed pos (one ∷ other ∷ rest) placed = front_by (is_label one other) pos one other rest placed refl (front_placed pos rest)

-- the labels alone
front_tokens : (pos : Pos) (tokens : List SpelledToken) (placed : Placed)
    → place_tokens pos (labels_of tokens) placed ≡ cond (has_wide_label tokens) (Err NumberTooWide) (labelled pos tokens placed)
unfolding place_tokens
front_tokens pos tokens placed =
    ap (λ wide. cond wide (Err NumberTooWide) (place_labelled pos (labels_of tokens) placed)) (wide_front tokens)
    ∙ ap (λ answer. cond (has_wide_label tokens) (Err NumberTooWide) answer) (front_placed pos tokens placed)

split_by : {A B : Type 0} (wide : Bool) (r : Result A PlaceCause) (f g : A → Result B PlaceCause) → ((x : A) → f x ≡ g x)
    → cond wide (Err NumberTooWide) (r >>= f) ≡ (cond wide (Err NumberTooWide) r >>= g)
split_by true r f g same = refl
split_by false r f g same = same_steps r f g same

whole_tokens : (pos : Pos) (tokens : List SpelledToken) (placed : Placed)
    → place_tokens pos tokens placed
    ≡ cond (has_wide_label tokens) (Err NumberTooWide) (labelled pos tokens placed >>= place_unlabelled pos (behind_labels tokens))
unfolding place_tokens
whole_tokens pos tokens placed = ap (λ answer. cond (has_wide_label tokens) (Err NumberTooWide) answer) (labels_split pos tokens placed)

-- a statement's tokens place what its labels do, and then what those behind them do
pub tokens_split : (pos : Pos) (tokens : List SpelledToken) (placed : Placed)
    → place_tokens pos tokens placed ≡ (place_tokens pos (labels_of tokens) placed >>= place_tokens pos (behind_labels tokens))
tokens_split pos tokens placed =
    whole_tokens pos tokens placed
    ∙ (split_by (has_wide_label tokens) (labelled pos tokens placed) (place_unlabelled pos (behind_labels tokens)) (place_tokens pos (behind_labels tokens))
    (λ labels. tokens_unlabelled pos (behind_labels tokens) labels (no_label_behind tokens))
    ∙ ap (λ r. r >>= place_tokens pos (behind_labels tokens)) (sym (front_tokens pos tokens placed)))

-- FAULTS

-- the fault is one that a source asks for
abbrev is_asked_for : PlaceCause → Bool
is_asked_for ErrorDirective = true
is_asked_for _ = false

-- there is no such fault
abbrev Unasked : {A : Type 0} → Result A PlaceCause → Type 0
Unasked (Ok made) = Unit {0}
Unasked (Err fault) = is_asked_for fault ≡ false

then_unasked : {A B : Type 0} (r : Result A PlaceCause) (f : A → Result B PlaceCause) → Unasked r → ((x : A) → Unasked (f x)) → Unasked (r >>= f)
then_unasked (Ok x) f first later = later x
then_unasked (Err fault) f first later = first

found_unasked : (pos : Pos) (table : Table) (found : Result (SymbolMap × ℕ) SymCause) → Unasked (found_in pos table found)
found_unasked pos table (Ok pair) = tt
found_unasked pos table (Err symbol.SymbolAlreadyDefined) = refl
found_unasked pos table (Err symbol.BadSymbolUse) = refl

changed_unasked : (table : Table) (changed : Result SymbolMap SymCause) → Unasked (of_symbols changed >>= λ map. Ok (with_map table map))
changed_unasked table (Ok map) = tt
changed_unasked table (Err symbol.SymbolAlreadyDefined) = refl
changed_unasked table (Err symbol.BadSymbolUse) = refl

numbers_unasked : {A : Type 0} (r : Result A ExprCause) → Unasked (in_statement r)
numbers_unasked (Ok made) = tt
numbers_unasked (Err expr.BadExpression) = refl
numbers_unasked (Err expr.NumberTooWide) = refl
numbers_unasked (Err expr.ExpressionTooDeep) = refl
numbers_unasked (Err expr.DivisionByZero) = refl
numbers_unasked (Err expr.ValueNotKnown) = refl
numbers_unasked (Err expr.NotASumOfSymbols) = refl

checked_unasked : (test : Bool) (name : List ℕ) → Unasked (cond test (Ok name) (Err BadOperand))
checked_unasked true name = tt
checked_unasked false name = refl

names_unasked : (kind : TokenKind) (bytes : List ℕ) → Unasked (name_by_kind kind bytes)
unfolding checked_name
names_unasked Name bytes = tt
names_unasked String bytes = checked_unasked (is_symbol_name (string_value (between_quotes bytes))) (string_value (between_quotes bytes))
names_unasked _ bytes = refl

named_unasked : (pos : Pos) (token : SpelledToken) (table : Table) → Unasked (named_symbol pos token table)
unfolding symbol_name symbol_of
named_unasked pos token table =
    then_unasked (name_by_kind token.kind token.bytes) (λ name. symbol_of pos (naming.Plain name) table) (names_unasked token.kind token.bytes)
    (λ name. found_unasked pos table (named table.symbols (naming.Plain name)))

label_by_unasked : (kind : TokenKind) (pos : Pos) (token : SpelledToken) (table : Table) → Unasked (label_by kind pos token table)
unfolding next_symbol
label_by_unasked Digits pos token table =
    then_unasked (in_statement (numeral 10 token.bytes)) (λ number. next_symbol pos number table) (numbers_unasked (numeral 10 token.bytes))
    (λ number. found_unasked pos table (next_named table.symbols number))
label_by_unasked _ pos token table = named_unasked pos token table

dot_unasked : (dot : Bool) (placed : Placed) → Unasked (unless_dot dot placed)
dot_unasked true placed = refl
dot_unasked false placed = tt

-- no label has a fault that a source asks for
label_unasked : (pos : Pos) (token : SpelledToken) (placed : Placed) → Unasked (place_label pos token placed)
unfolding place_label label_symbol
label_unasked pos token placed =
    let define : Table × ℕ → Result Table PlaceCause = changed_by (λ map index. defined map index (Label (here placed))) in
    then_unasked (label_by token.kind pos token placed.table >>= define) (λ table. unless_dot (is_dot token) (with_table placed table))
    (then_unasked (label_by token.kind pos token placed.table) define (label_by_unasked token.kind pos token placed.table)
    (λ found. changed_unasked found.0 (defined found.0.symbols found.1 (Label (here placed)))))
    (λ table. dot_unasked (is_dot token) (with_table placed table))

labelled_by : (test : Bool) (pos : Pos) (one : SpelledToken) (rest : List SpelledToken) (placed : Placed)
    → ((labels : Placed) → Unasked (labelled pos rest labels))
    → Unasked (cond test (place_label pos one placed >>= (λ labels. labelled pos rest labels)) (Ok placed))
labelled_by true pos one rest placed again = then_unasked (place_label pos one placed) (λ labels. labelled pos rest labels) (label_unasked pos one placed) again
labelled_by false pos one rest placed again = tt

labelled_unasked : (pos : Pos) (tokens : List SpelledToken) (placed : Placed) → Unasked (labelled pos tokens placed)
unfolding labelled
labelled_unasked pos [] placed = tt
labelled_unasked pos (one ∷ []) placed = tt
labelled_unasked pos (one ∷ other ∷ rest) placed = labelled_by (is_label one other) pos one rest placed (labelled_unasked pos rest)

wide_unasked : {A : Type 0} (wide : Bool) (r : Result A PlaceCause) → Unasked r → Unasked (cond wide (Err NumberTooWide) r)
wide_unasked true r other = refl
wide_unasked false r other = other

front_unasked : (pos : Pos) (tokens : List SpelledToken) (placed : Placed) → Unasked (place_tokens pos (labels_of tokens) placed)
front_unasked pos tokens placed =
    subst (λ (r : Result Placed PlaceCause). Unasked r) (sym (front_tokens pos tokens placed))
    (wide_unasked (has_wide_label tokens) (labelled pos tokens placed) (labelled_unasked pos tokens placed))

-- any fault but one that a source asks for has no text of the statement
fault_same : (tokens others : List SpelledToken) (cause : PlaceCause) → (is_asked_for cause ≡ true → last_string tokens ≡ last_string others)
    → statement_fault tokens cause ≡ statement_fault others cause
fault_same tokens others ErrorDirective same = ap (λ text. statement.ErrorDirective text) (same refl)
fault_same tokens others _ same = refl

located_same : (s : TokenStatement) (tokens : List SpelledToken) (notes : List Noted) (r : Result Placed PlaceCause)
    → ((cause : PlaceCause) → r ≡ Err cause → is_asked_for cause ≡ true → last_string s.tokens ≡ last_string tokens)
    → located s notes r ≡ located (record s { tokens = tokens }) notes r
located_same s tokens notes (Ok placed) same = refl
located_same s tokens notes (Err cause) same =
    ap (λ fault. Err (fault_at (Statement fault) (pos_at s.file s.line) notes)) (fault_same s.tokens tokens cause (same cause refl))

-- THE STATEMENT

got_behind : (first others : List SpelledToken) (n : ℕ) → slice_get (first ++ others) (length first + n) ≡ slice_get others n
got_behind [] others n = let at : 0 + n ≡ n = omega arith in ap (slice_get others) at
got_behind (one ∷ first) others n =
    let at : length (one ∷ first) + n ≡ suc (length first + n) = omega arith in
    ap (slice_get (one ∷ (first ++ others))) at ∙ got_behind first others n

-- the last token of a statement is that of what stands behind its labels, where anything does
last_behind : (first : List SpelledToken) (one : SpelledToken) (rest : List SpelledToken) → last_string (first ++ one ∷ rest) ≡ last_string (one ∷ rest)
last_behind first one rest =
    let at : length (first ++ one ∷ rest) - 1 ≡ length first + (length (one ∷ rest) - 1) = omega (arith, length-append first (one ∷ rest)) in
    ap (λ n. string_in (slice_get (first ++ one ∷ rest) n)) at ∙ ap string_in (got_behind first (one ∷ rest) (length (one ∷ rest) - 1))

body_located : (s : TokenStatement) (first tokens : List SpelledToken) (notes : List Noted) (placed : Placed) → first ++ tokens ≡ s.tokens
    → located s notes (place_tokens (pos_at s.file s.line) tokens placed)
    ≡ located (record s { tokens = tokens }) notes (place_tokens (pos_at s.file s.line) tokens placed)
unfolding place_tokens place_labelled has_wide_label
body_located s first [] notes placed whole = refl
body_located s first (one ∷ rest) notes placed whole =
    located_same s (one ∷ rest) notes (place_tokens (pos_at s.file s.line) (one ∷ rest) placed)
    (λ cause is asked. sym (ap last_string whole) ∙ last_behind first one rest)

split_located : (s : TokenStatement) (placed : Placed) (r : Result Placed PlaceCause) (g : Placed → Result Placed PlaceCause) → Unasked r
    → ((labels : Placed) → r ≡ Ok labels → labels.notes ≡ placed.notes)
    → ((labels : Placed) → located s placed.notes (g labels) ≡ located (back s) placed.notes (g labels))
    → located s placed.notes (r >>= g) ≡ (located (front s) placed.notes r >>= λ labels. located (back s) labels.notes (g labels))
split_located s placed (Ok labels) g unasked kept same =
    same labels ∙ ap (λ notes. located (back s) notes (g labels)) (sym (kept labels refl))
split_located s placed (Err cause) g unasked kept same =
    ap (λ fault. Err (fault_at (Statement fault) (pos_at s.file s.line) placed.notes))
    (fault_same s.tokens (labels_of s.tokens) cause (λ asked. absurd (false≢true (sym unasked ∙ asked))))

-- labels change symbols alone
front_changes : (pos : Pos) (tokens : List SpelledToken) (before after : Placed) → place_tokens pos (labels_of tokens) before ≡ Ok after
    → AreLabels before after
front_changes pos tokens before after is =
    labels_keep pos tokens before after
    (wide_ok (has_wide_label tokens) (labelled pos tokens before) after (sym (front_tokens pos tokens before) ∙ is))

pub front_keeps : (s : TokenStatement) (before after : Placed) → place (front s) before ≡ Ok after → AreLabels before after
unfolding place
front_keeps s before after is =
    front_changes (pos_at s.file s.line) s.tokens before after
    (located_ok (front s) before.notes (place_tokens (pos_at s.file s.line) (labels_of s.tokens) before) after is)

-- a statement is its labels, and then what stands behind them
pub statement_split : (s : TokenStatement) (placed : Placed) → place s placed ≡ (place (front s) placed >>= place (back s))
unfolding place
statement_split s placed =
    let pos = pos_at s.file s.line in
    ap (located s placed.notes) (tokens_split pos s.tokens placed)
    ∙ split_located s placed (place_tokens pos (labels_of s.tokens) placed) (place_tokens pos (behind_labels s.tokens)) (front_unasked pos s.tokens placed)
    (λ labels is. (front_changes pos s.tokens placed labels is).notes)
    (λ labels. body_located s (labels_of s.tokens) (behind_labels s.tokens) placed.notes labels (labels_first s.tokens))
