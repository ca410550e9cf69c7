-- The head of what is left is taken off, in one copy or the next.
use Rattle.std.proofs.Common.{◌≡◌, ℕ, ◌+◌, ◌≤◌, List, [], ◌∷◌, ◌++◌, length, take, drop, Option, Some, None, refl, sym, ap, ◌∙◌}
use Rattle.asm_base.specs.declared.positions.Pos.{Pos}
use Rattle.asm_base.specs.declared.tokens.Token.{Token}
use Rattle.asm_lines.specs.NextStatements.{TokenStatement}
use Rattle.macro_texts.specs.declared.repeats.EachLine.{EachLine}
use Rattle.macro_texts.specs.RepeatsSeen.{texts}
use Rattle.macro_blocks.specs.declared.blocks.Ending.{Ending}
use Rattle.macro_blocks.specs.declared.copies.EachCopy.{EachCopy}
use Rattle.macro_blocks.specs.declared.frames.Frame.{Frame}
use Rattle.macro_blocks.specs.declared.frames.Read.{Read}
use Rattle.macro_blocks.specs.declared.frames.Taken.TheVariants.{Statement}
use Rattle.macro_blocks.specs.declared.places.Place.{Place}
use Rattle.macro_blocks.specs.Blocks.{repeated}
use Rattle.macro_blocks.specs.Levels.{Level}
use Rattle.macro_blocks.specs.Places.{read_at, left_in, each_left}
use Rattle.macro_blocks.specs.Copies.{each_of, later_of, IsNextText}
use Rattle.macro_blocks.specs.Frames.{level_of, IsSamePart, IsSameText, Reads, Takes}
use Rattle.macro_blocks.proofs.CopyLemmas.{no_statements, none_each}

pub levels_same : (s t : List TokenStatement) (e f : Ending) (o p : List Pos) (n m : Option ℕ) → s ≡ t → e ≡ f → o ≡ p → n ≡ m
    → ◌≡◌ {A = Level} (record { statements = s; ends = e; open_at = o; call_number = n }) (record { statements = t; ends = f; open_at = p; call_number = m })
levels_same s t e f o p n m ss es os ns = rw (ss, es, os, ns) refl

-- with the same text the same is to come
pub same_later : (before now : Frame) → IsSameText before now → later_of now.place now.text.value now.alike now.each ≡ later_of before.place before.text.value before.alike before.each
same_later before now same =
    ap (λ p. later_of p now.text.value now.alike now.each) same.same.place ∙ ap (λ t. later_of before.place t now.alike now.each) same.text
    ∙ ap (λ n. later_of before.place before.text.value n now.each) same.alike ∙ ap (later_of before.place before.text.value before.alike) same.each

-- what is left from an offset on in the same text
pub same_left : (before now : Frame) (at : ℕ) → IsSameText before now → now.at ≡ at → left_in now.place now.text.value now.at ≡ left_in before.place before.text.value at
same_left before now at same there =
    ap (λ p. left_in p now.text.value now.at) same.same.place ∙ ap (λ t. left_in before.place t now.at) same.text ∙ ap (left_in before.place before.text.value) there

-- a statement is read
pub takes : (before now : Frame) (one : Read) (tokens : List Token) → Reads (Some one) tokens before now → IsSameText before now → Takes (Statement one.pos one.count) tokens (level_of before) (level_of now)
unfolding level_of
takes before now one tokens reads same =
    let head = read_at one.pos (take one.count tokens) in
    let left = ap (λ l. l ++ later_of before.place before.text.value before.alike before.each) reads.1 in
    let rest = ap (λ l. l ++ later_of before.place before.text.value before.alike before.each) (sym (same_left before now now.at same refl)) ∙ ap (λ l. left_in now.place now.text.value now.at ++ l) (sym (same_later before now same)) in
    (reads.0, levels_same _ (head ∷ (left_in now.place now.text.value now.at ++ later_of now.place now.text.value now.alike now.each)) _ _ _ _ _ _ (left ∙ ap (λ l. head ∷ l) rest) (sym same.same.ends) (sym same.same.opened) (sym same.same.number))

-- nothing is read
pub reads_none : (before now : Frame) (tokens : List Token) → Reads None tokens before now → IsSameText before now → level_of now ≡ level_of before
unfolding level_of
reads_none before now tokens reads same =
    levels_same _ _ _ _ _ _ _ _ (ap (λ l. l ++ later_of now.place now.text.value now.alike now.each) (same_left before now before.at same reads.1) ∙ ap (λ l. left_in before.place before.text.value before.at ++ l) (same_later before now same)) same.same.ends same.same.opened same.same.number

-- where no statement is left in a text, what is to come is left
pub goes_later : (before now : Frame) → left_in before.place before.text.value before.at ≡ [] → (level_of now).statements ≡ later_of before.place before.text.value before.alike before.each → IsSamePart before now → level_of before ≡ level_of now
unfolding level_of
goes_later before now none is same =
    levels_same _ _ _ _ _ _ _ _ (ap (λ l. l ++ later_of before.place before.text.value before.alike before.each) none ∙ sym is) (sym same.ends) (sym same.opened) (sym same.number)

-- nothing is left of copies without a statement
pub none_alike : (frame : Frame) → left_in frame.place frame.text.value frame.at ≡ [] → left_in frame.place frame.text.value 0 ≡ [] → length frame.each.line.values.items ≤ frame.each.next → (level_of frame).statements ≡ []
unfolding level_of
none_alike frame none nothing past =
    ap (λ l. l ++ later_of frame.place frame.text.value frame.alike frame.each) none ∙ ap (λ l. repeated frame.alike l ++ each_of frame.place frame.each) nothing
    ∙ ap (λ l. l ++ each_of frame.place frame.each) (no_statements frame.alike) ∙ none_each frame.place frame.each past

-- nor where no copy is to come
pub none_left : (frame : Frame) → left_in frame.place frame.text.value frame.at ≡ [] → frame.alike ≡ 0 → length frame.each.line.values.items ≤ frame.each.next → (level_of frame).statements ≡ []
unfolding level_of
none_left frame none last past =
    ap (λ l. l ++ later_of frame.place frame.text.value frame.alike frame.each) none ∙ ap (λ n. repeated n (left_in frame.place frame.text.value 0) ++ each_of frame.place frame.each) last
    ∙ none_each frame.place frame.each past

-- the text of the next copy is left
pub next_statements : (place : Place) (text : List ℕ) (alike : ℕ) (each next : EachCopy) → alike ≡ 0 → IsNextText each text → next.next ≡ each.next + 1 → next.body.items ≡ each.body.items → next.line ≡ each.line → next.number ≡ each.number
    → left_in place text 0 ++ later_of place text alike next ≡ each_of place each
next_statements place text alike each next none is more body line number =
    ap (λ n. left_in place text 0 ++ (repeated n (left_in place text 0) ++ each_of place next)) none
    ∙ ap (λ l. left_in place text 0 ++ l)
    (ap (λ n. each_left place next.line.name.items next.number next.body.items (drop n (texts next.line.values.items))) more
    ∙ ap (λ b. each_left place next.line.name.items next.number b (drop (each.next + 1) (texts next.line.values.items))) body
    ∙ ap (λ (l : EachLine). each_left place l.name.items next.number each.body.items (drop (each.next + 1) (texts l.values.items))) line
    ∙ ap (λ n. each_left place each.line.name.items n each.body.items (drop (each.next + 1) (texts each.line.values.items))) number)
    ∙ sym (is.statements place)

-- where a copy with a text of its own stands next, it is what is to come
pub goes_next : (before now : Frame) → left_in before.place before.text.value before.at ≡ [] → before.alike ≡ 0 → (level_of now).statements ≡ each_of before.place before.each → IsSamePart before now → level_of now ≡ level_of before
goes_next before now none last is same =
    sym (goes_later before now none (is ∙ sym (ap (λ n. repeated n (left_in before.place before.text.value 0) ++ each_of before.place before.each) last)) same)
