-- Lines that are said, one after the other.
use Rattle.std.proofs.Common.{◌≡◌, ℕ, suc, ◌+◌, ◌≤◌, List, [], ◌∷◌, ◌++◌, Option, None, Some, option_map, length, take, refl, sym, ap, ◌∙◌, subst, append_assoc, append-nil, arith, length-append}
use Rattle.std.proofs.lemmas.List.Concat.{flat_map-append}
use Rattle.asm_base.specs.Console.{Said, after_say}
use Rattle.asm_base.specs.declared.outside.Channel.TheVariants as channel
use Rattle.x86_decode.specs.declared.fronts.Front.{Front}
use Rattle.listings.specs.Lines.{Line, AreLines}
use Rattle.listings.specs.LineTexts.{line_text, lines_text}
use Rattle.listings.specs.Listings.{Adds}
use Rattle.dis_run.specs.Saying.{Says, SaysFront, SaysLines, SaysLinesInPart}

-- WHAT IS SAID ON STANDARD OUTPUT

-- nothing
says_nothing : (s : Option Said) → Says channel.Out [] s s
says_nothing None = refl
says_nothing (Some said) = ap (λ out. Some (record { out = out; err = said.err })) (sym (append-nil said.out))

-- one text after the other
says_both : (one other : List ℕ) (before mid after : Option Said) → Says channel.Out one before mid → Says channel.Out other mid after
    → Says channel.Out (one ++ other) before after
says_both one other None mid after first second = second ∙ ap (λ m. option_map (after_say channel.Out other) m) first
says_both one other (Some said) mid after first second =
    second ∙ ap (λ m. option_map (after_say channel.Out other) m) first
    ∙ ap (λ out. Some (record { out = out; err = said.err })) (append_assoc said.out one other)

-- a front of the latter
take_after : (one other : List ℕ) (n : ℕ) → take (length one + n) (one ++ other) ≡ one ++ take n other
take_after [] other n = let same : length (let none : List ℕ = [] in none) + n ≡ n = omega arith in ap (λ (m : ℕ). take m other) same
take_after (byte ∷ one) other n =
    let same : length (byte ∷ one) + n ≡ suc (length one + n) = omega arith in
    ap (λ (m : ℕ). take m (byte ∷ (one ++ other))) same ∙ ap (λ (l : List ℕ). byte ∷ l) (take_after one other n)

-- LINES

lines_joined : (bytes : List ℕ) (at : ℕ) (lines : List Line) (mid : ℕ) (more : List Line) (end : ℕ) → AreLines bytes at lines mid → AreLines bytes mid more end
    → AreLines bytes at (lines ++ more) end
lines_joined bytes at [] mid more end first rest = subst (λ m. AreLines bytes m more end) first rest
lines_joined bytes at (line ∷ lines) mid more end first rest =
    (first.0, lines_joined bytes (at + length line.bytes) lines mid more end first.1 rest)

module _ (text : Front → List ℕ) (bytes : List ℕ) where
  -- no line
  pub none_listed : (at : ℕ) (s : Option Said) → SaysLines text bytes at at s s
  none_listed at s = record { lines = []; listed = refl; said = says_nothing s }

  pub none_said : (at : ℕ) (before after : Option Said) → after ≡ before → SaysLinesInPart text bytes at before after
  none_said at before after same = record {
    lines = [];
    end = at;
    listed = refl;
    said = (0, omega arith, same ∙ says_nothing before);
  }

  -- the lines of a piece that was said
  pub lines_said : (at end : ℕ) (piece : List ℕ) (before after : Option Said) → Adds text bytes at end [] piece → Says channel.Out piece before after
      → SaysLines text bytes at end before after
  lines_said at end piece before after adds says = record {
    lines = adds.lines;
    listed = adds.listed;
    said = subst (λ l. Says channel.Out l before after) adds.added says;
  }

  -- or of which a front was said
  pub lines_cut : (at end : ℕ) (piece : List ℕ) (before after : Option Said) → Adds text bytes at end [] piece → SaysFront channel.Out piece before after
      → SaysLinesInPart text bytes at before after
  lines_cut at end piece before after adds says = record {
    lines = adds.lines;
    end = end;
    listed = adds.listed;
    said = subst (λ l. SaysFront channel.Out l before after) adds.added says;
  }

  -- after lines that were said
  pub said_on : (at mid end : ℕ) (before between after : Option Said) → SaysLines text bytes at mid before between → SaysLines text bytes mid end between after
      → SaysLines text bytes at end before after
  said_on at mid end before between after first rest = record {
    lines = first.lines ++ rest.lines;
    listed = lines_joined bytes at first.lines mid rest.lines end first.listed rest.listed;
    said = subst (λ l. Says channel.Out l before after) (sym (flat_map-append (line_text text) first.lines rest.lines))
        (says_both (lines_text text first.lines) (lines_text text rest.lines) before between after first.said rest.said);
  }

  pub cut_on : (at mid : ℕ) (before between after : Option Said) → SaysLines text bytes at mid before between → SaysLinesInPart text bytes mid between after
      → SaysLinesInPart text bytes at before after
  cut_on at mid before between after first rest =
      let one = lines_text text first.lines in
      let other = lines_text text rest.lines in
      let n = rest.said.0 in
      let few : n ≤ length other = rest.said.1 in
      let whole : lines_text text (first.lines ++ rest.lines) ≡ one ++ other = flat_map-append (line_text text) first.lines rest.lines in
      let within : length one + n ≤ length (one ++ other) = let long = length-append one other in omega arith in
      let both : Says channel.Out (one ++ take n other) before after = says_both one (take n other) before between after first.said rest.said.2 in
      record {
        lines = first.lines ++ rest.lines;
        end = rest.end;
        listed = lines_joined bytes at first.lines mid rest.lines rest.end first.listed rest.listed;
        said = subst (λ l. SaysFront channel.Out l before after) (sym whole)
            (length one + n, within, subst (λ l. Says channel.Out l before after) (sym (take_after one other n)) both);
      }
