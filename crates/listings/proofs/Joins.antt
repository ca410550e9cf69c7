-- Lines one after the other, and their texts.
use Rattle.std.proofs.Common.{◌≡◌, ℕ, zero, suc, get_or, ◌+◌, ◌-◌, ◌<◌, ◌≤◌, List, [], ◌∷◌, ◌++◌, Option, None, Some, IfSome, option_map, length, take, drop, refl, sym, ap, ◌∙◌, subst, append_assoc, append-nil, arith, length-take, length-drop, length-append}
use Rattle.std.proofs.lemmas.Grind.{common_steps}
use Rattle.std.proofs.lemmas.List.Concat.{flat_map-append}
use Rattle.x86_table.specs.Reads.{InstructionLength}
use Rattle.x86_decode.specs.declared.fronts.Front.{Front}
use Rattle.x86_decode.specs.Decoding.{Front as Decoded, Begins, Decodes}
use Rattle.x86_decode.specs.Views.{IsOfRow, shown_front}
use Rattle.listings.specs.Lines.{Line, IsLineAt, AreLines, line_length}
use Rattle.listings.specs.LineTexts.{line_text, lines_text}
use Rattle.listings.specs.Listings.{Adds}

-- HOW MANY BYTES AN INSTRUCTION HAS

-- an instruction that bytes begin with has at least one, at most 15, and no more than there are
pub record HasBytes (bytes : List ℕ) (len : ℕ) : Type 0 where
  pub some : 0 < len
  pub few : len ≤ 15
  pub within : len ≤ length bytes

begun : InstructionLength → (bytes : List ℕ) (front : Decoded) → Begins bytes front → HasBytes bytes front.len
begun bounds bytes front begins =
    let own = bounds begins.own front.insn begins.reads in
    let whole : length bytes ≡ length begins.own + length begins.more = ap length begins.parted ∙ length-append begins.own begins.more in
    let some : 0 < front.len = let counted = begins.counted in let first = own.0 in omega arith in
    let few : front.len ≤ 15 = let counted = begins.counted in let most = own.1 in omega arith in
    let within : front.len ≤ length bytes = let counted = begins.counted in omega arith in
    record { some = some; few = few; within = within }

pub front_bytes : InstructionLength → (bytes : List ℕ) (front : Front) → Decodes bytes (Some (shown_front front)) → HasBytes bytes front.len
front_bytes bounds bytes front decodes = begun bounds bytes (shown_front front) (decodes.reads (shown_front front) refl)

pub has_some : InstructionLength → (bytes : List ℕ) (answer : Option Front) → Decodes bytes (option_map shown_front answer) → IfSome answer (λ front. 0 < front.len)
has_some bounds bytes None decodes = tt
has_some bounds bytes (Some front) decodes = (front_bytes bounds bytes front decodes).some

pub has_few : InstructionLength → (bytes : List ℕ) (answer : Option Front) → Decodes bytes (option_map shown_front answer) → IfSome answer (λ front. front.len ≤ 15)
has_few bounds bytes None decodes = tt
has_few bounds bytes (Some front) decodes = (front_bytes bounds bytes front decodes).few

pub is_within : InstructionLength → (bytes : List ℕ) (answer : Option Front) → Decodes bytes (option_map shown_front answer) → IfSome answer (λ front. front.len ≤ length bytes)
is_within bounds bytes None decodes = tt
is_within bounds bytes (Some front) decodes = (front_bytes bounds bytes front decodes).within

-- the byte at a place
pub take_one : (xs : List ℕ) (n d : ℕ) → n < length xs → take 1 (drop n xs) ≡ get_or xs n d ∷ []
take_one [] n d low = absurd (omega arith)
take_one (x ∷ xs) zero d low = refl
take_one (x ∷ xs) (suc n) d low = take_one xs n d (omega (arith, low))

take_all : (xs : List ℕ) → take (length xs) xs ≡ xs
take_all [] = refl
take_all (x ∷ xs) = ap (λ (ys : List ℕ). x ∷ ys) (take_all xs)

-- what is left from a place on is all of it
pub rest_whole : (xs : List ℕ) (n : ℕ) → take (length xs - n) (drop n xs) ≡ drop n xs
rest_whole xs n = ap (λ (k : ℕ). take k (drop n xs)) (let long = length-drop n xs in omega arith) ∙ take_all (drop n xs)

-- LINES

-- lines after lines
lines_joined : (bytes : List ℕ) (at : ℕ) (lines : List Line) (mid : ℕ) (more : List Line) (end : ℕ) → AreLines bytes at lines mid → AreLines bytes mid more end
    → AreLines bytes at (lines ++ more) end
lines_joined bytes at [] mid more end first rest = subst (λ m. AreLines bytes m more end) first rest
lines_joined bytes at (line ∷ lines) mid more end first rest =
    (first.0, lines_joined bytes (at + length line.bytes) lines mid more end first.1 rest)

module _ (text : Front → List ℕ) (bytes : List ℕ) where
  -- no line
  pub none : (at : ℕ) (old : List ℕ) → Adds text bytes at at old old
  none at old = record { lines = []; listed = refl; added = sym (append-nil old) }

  -- a text that grows twice
  pub joined : (at mid end : ℕ) (old more new : List ℕ) → Adds text bytes at mid old more → Adds text bytes mid end more new → Adds text bytes at end old new
  joined at mid end old more new first rest = record {
    lines = first.lines ++ rest.lines;
    listed = lines_joined bytes at first.lines mid rest.lines end first.listed rest.listed;
    added = rest.added ∙ ap (λ l. l ++ lines_text text rest.lines) first.added ∙ append_assoc old (lines_text text first.lines) (lines_text text rest.lines)
        ∙ ap (λ l. old ++ l) (sym (flat_map-append (line_text text) first.lines rest.lines));
  }

  -- one line
  one : (at end : ℕ) (line : Line) (old new : List ℕ) → IsLineAt bytes at line → end ≡ at + length line.bytes → new ≡ old ++ line_text text line
      → Adds text bytes at end old new
  one at end line old new is ends grows = record {
    lines = line ∷ [];
    listed = (is, ends);
    added = grows ∙ ap (λ l. old ++ l) (sym (append-nil (line_text text line)));
  }

  -- that of an instruction
  pub one_front : (at : ℕ) (front : Front) (old new : List ℕ) → at < length bytes → 0 < front.len → front.len ≤ length (drop at bytes) → IsOfRow front
      → Decodes (drop at bytes) (Some (shown_front front))
      → new ≡ old ++ line_text text (record { offset = at; bytes = take front.len (drop at bytes); front = Some front })
      → Adds text bytes at (at + front.len) old new
  one_front at front old new inside some within of_row decodes grows =
      let own : length (take front.len (drop at bytes)) ≡ front.len = let cut = length-take front.len (drop at bytes) in omega arith in
      one at (at + front.len) (record { offset = at; bytes = take front.len (drop at bytes); front = Some front }) old new
      (record { within = inside; offset = refl; bytes = refl; decodes = decodes; of_row = of_row }) (omega arith) grows

  -- that of a byte at which nothing reads
  pub one_byte : (at byte : ℕ) (old new : List ℕ) → at < length bytes → take 1 (drop at bytes) ≡ byte ∷ [] → Decodes (drop at bytes) None
      → new ≡ old ++ line_text text (record { offset = at; bytes = byte ∷ []; front = None })
      → Adds text bytes at (at + 1) old new
  one_byte at byte old new inside first decodes grows =
      one at (at + 1) (record { offset = at; bytes = byte ∷ []; front = None }) old new
      (record { within = inside; offset = refl; bytes = sym first; decodes = decodes; of_row = tt }) refl grows
