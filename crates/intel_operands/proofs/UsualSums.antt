-- Usual memory by the parts of its text: what stands before its brackets, and the sum in them.
use Rattle.std.proofs.Common.{◌≡◌, ℕ, zero, suc, ◌+◌, ◌==◌, ◌&&◌, nat_lt, true, false, List, [], ◌∷◌, ◌++◌, Option, Some, None, length, take, drop, slice_get, codes, refl, sym, ap, ◌∙◌, arith}
use Rattle.std.proofs.lemmas.Bool.{and_from}
use Rattle.std.specs.List.{list_all}
use Rattle.asm_base.specs.declared.tokens.TokenKind.{TokenKind}
use Rattle.asm_base.specs.declared.tokens.TokenKind.TheVariants as kind
use Rattle.asm_base.specs.Tokens.{SpelledToken}
use Rattle.x86_insn.specs.declared.insns.Base.{Base}
use Rattle.x86_insn.specs.declared.insns.Index.TheVariants as index
use Rattle.x86_insn.specs.declared.insns.Address.{Address}
use Rattle.att_operands.specs.declared.registers.NamedRegister.{NamedRegister}
use Rattle.att_operands.specs.Registers.{register_of}
use Rattle.att_operands.specs.Marks.{mark_byte, mark_by, mark_at, ends_by, ends_at}
use Rattle.att_operands.specs.Addresses.{register_by, base_by, scale_by}
use Rattle.att_operands.specs.Spells.{in_segment}
use Rattle.intel_sums.specs.declared.parts.Part.{Part}
use Rattle.intel_sums.specs.declared.parts.Part.TheVariants.{Plain, Scaled}
use Rattle.intel_sums.specs.declared.parts.Parts.{Parts}
use Rattle.intel_sums.specs.declared.parts.Parts.TheVariants.{Nothing, One, Two}
use Rattle.intel_sums.specs.Parts.{part_ends, address_of}
use Rattle.intel_sums.specs.Sums.{adds}
use Rattle.intel_sums.specs.Spells.{WritesPart, alone, times, WritesSum, done, register_next}
use Rattle.intel_sums.specs.LoneSums.{is_calm, is_calm_by}
use Rattle.intel_operands.specs.declared.usual.FoundAddress.{FoundAddress}
use Rattle.intel_operands.specs.Words.{is_word}
use Rattle.intel_operands.specs.OperandTexts.{is_no_comma}
use Rattle.intel_operands.specs.Spells.{HasNoComma, ends}
use Rattle.intel_operands.specs.Usual.{OpensBehind, bare_bracket, one_before, two_before, ClosesAt, HoldsAddress, of_base, of_pair, of_scaled}
use Rattle.intel_operands.proofs.UsualOperands.{front_is, behind_is}

pub behind_none : (text : List SpelledToken) → mark_at text 0 ≡ 91 → OpensBehind text 0
behind_none text opens = bare_bracket text opens

pub behind_one : (text : List SpelledToken) → is_calm_by (slice_get text 0) ≡ true → mark_at text 1 ≡ 91 → OpensBehind text 1
behind_one text calm opens = one_before text calm opens

pub behind_two : (text : List SpelledToken) → is_calm_by (slice_get text 0) ≡ true → is_calm_by (slice_get text 1) ≡ true → mark_at text 2 ≡ 91 → OpensBehind text 2
behind_two text calm also opens = two_before text calm also opens

-- THE PARTS OF THE TEXT

pub base_holds : (text : List SpelledToken) (at : ℕ) (base : Base) → ClosesAt text at base → HoldsAddress text at (record { address = in_segment None base index.Absent; next = at + 3 })
base_holds text at base is = of_base text at base is

pub pair_holds : (text : List SpelledToken) (at : ℕ) (first second : NamedRegister) (address : Address) → mark_at text (at + 1) ≡ 0 → register_by (slice_get text (at + 1)) ≡ Some first
    → mark_at text (at + 2) ≡ 43 → mark_at text (at + 3) ≡ 0 → register_by (slice_get text (at + 3)) ≡ Some second → mark_at text (at + 4) ≡ 93 → ends_at text (at + 5) ≡ true
    → address_of None (Two (Plain first) (Plain second)) ≡ Some address → HoldsAddress text at (record { address = address; next = at + 5 })
pair_holds text at first second address word names plus unmarked renames closes finish makes =
    of_pair text at first second address (record { word = word; names = names; plus = plus; other = unmarked; renames = renames; closes = closes; ended = finish; makes = makes })

pub scaled_holds : (text : List SpelledToken) (at : ℕ) (first second : NamedRegister) (scale : ℕ) (address : Address) → mark_at text (at + 1) ≡ 0 → register_by (slice_get text (at + 1)) ≡ Some first
    → mark_at text (at + 2) ≡ 43 → mark_at text (at + 3) ≡ 0 → register_by (slice_get text (at + 3)) ≡ Some second → mark_at text (at + 4) ≡ 42 → mark_at text (at + 5) ≡ 0
    → scale_by (slice_get text (at + 5)) ≡ Some scale → mark_at text (at + 6) ≡ 93 → ends_at text (at + 7) ≡ true
    → address_of None (Two (Plain first) (Scaled second scale)) ≡ Some address → HoldsAddress text at (record { address = address; next = at + 7 })
scaled_holds text at first second scale address word names plus unmarked renames star digits scales closes finish makes =
    of_scaled text at first second scale address
    (record { word = word; names = names; plus = plus; other = unmarked; renames = renames; star = star; digits = digits; scales = scales; closes = closes; ended = finish; makes = makes })

-- a token with this mark at a place
pub record Stands (text : List SpelledToken) (at mark : ℕ) : Type 0 where
  pub token : SpelledToken
  pub is : slice_get text at ≡ Some token
  pub marks : mark_by (Some token) ≡ mark

pub no_mark : (mark : ℕ) → mark_by None ≡ mark → nat_lt 0 mark ≡ true → ⊥
unfolding mark_by
no_mark mark is some = let none : mark ≡ 0 = sym is in let bad : nat_lt 0 0 ≡ true = rw none at some in cc

pub stands_by : (text : List SpelledToken) (at mark : ℕ) (found : Option SpelledToken) → slice_get text at ≡ found → mark_by found ≡ mark → nat_lt 0 mark ≡ true → Stands text at mark
stands_by text at mark None is marks some = absurd (no_mark mark marks some)
stands_by text at mark (Some token) is marks some = record { token = token; is = is; marks = marks }

pub stands : (text : List SpelledToken) (at mark : ℕ) → mark_at text at ≡ mark → nat_lt 0 mark ≡ true → Stands text at mark
stands text at mark marks some = stands_by text at mark (slice_get text at) refl marks some

-- a register at a place
pub record Names (text : List SpelledToken) (at : ℕ) (named : NamedRegister) : Type 0 where
  pub token : SpelledToken
  pub is : slice_get text at ≡ Some token
  pub marks : mark_by (Some token) ≡ 0
  pub names : register_of token.bytes ≡ Some named

pub names_by : (text : List SpelledToken) (at : ℕ) (named : NamedRegister) (found : Option SpelledToken) → slice_get text at ≡ found → mark_by found ≡ 0 → register_by found ≡ Some named → Names text at named
names_by text at named None is marks names = cc
names_by text at named (Some token) is marks names = record { token = token; is = is; marks = marks; names = names }

pub names : (text : List SpelledToken) (at : ℕ) (named : NamedRegister) → mark_at text at ≡ 0 → register_by (slice_get text at) ≡ Some named → Names text at named
names text at named marks is = names_by text at named (slice_get text at) refl marks is

-- a scale at a place
pub record WritesScale (text : List SpelledToken) (at scale : ℕ) : Type 0 where
  pub token : SpelledToken
  pub is : slice_get text at ≡ Some token
  pub marks : mark_by (Some token) ≡ 0
  pub scales : scale_by (Some token) ≡ Some scale

pub scales_by : (text : List SpelledToken) (at scale : ℕ) (found : Option SpelledToken) → slice_get text at ≡ found → mark_by found ≡ 0 → scale_by found ≡ Some scale → WritesScale text at scale
unfolding scale_by
scales_by text at scale None is marks scales = cc
scales_by text at scale (Some token) is marks scales = record { token = token; is = is; marks = marks; scales = scales }

pub next_is : (text : List SpelledToken) (at next : ℕ) (token : SpelledToken) (rest : List SpelledToken) → slice_get text at ≡ Some token → at + 1 ≡ next → drop next text ≡ rest → drop at text ≡ token ∷ rest
next_is text at next token rest is same behind =
    front_is text at token is ∙ ap (λ (ts : List SpelledToken). token ∷ ts) (ap (λ (n : ℕ). drop n text) same ∙ behind)

pub split_at : (text : List SpelledToken) (at : ℕ) → text ≡ take at text ++ drop at text
split_at text zero = refl
split_at [] (suc at) = refl
split_at (token ∷ text) (suc at) = ap (λ (ts : List SpelledToken). token ∷ ts) (split_at text at)

pub taken_size : (text : List SpelledToken) (at : ℕ) (token : SpelledToken) → slice_get text at ≡ Some token → length (take at text) ≡ at
taken_size text zero token is = refl
taken_size [] (suc at) token is = cc
taken_size (first ∷ text) (suc at) token is = ap suc (taken_size text at token is)

pub calm_before : (text : List SpelledToken) (count : ℕ) → OpensBehind text count → list_all is_calm (take count text) ≡ true
calm_before _ _ (bare_bracket text opens) = refl
calm_before _ _ (one_before [] calm opens) = refl
calm_before _ _ (one_before (a ∷ rest) calm opens) = and_from (is_calm a) true calm refl
calm_before _ _ (two_before [] calm also opens) = refl
calm_before _ _ (two_before (a ∷ []) calm also opens) = and_from (is_calm a) true calm refl
calm_before _ _ (two_before (a ∷ b ∷ rest) calm also opens) = and_from (is_calm a) (is_calm b && true) calm (and_from (is_calm b) true also refl)

pub opened : (text : List SpelledToken) (count : ℕ) → OpensBehind text count → mark_at text count ≡ 91
opened _ _ (bare_bracket text opens) = opens
opened _ _ (one_before text calm opens) = opens
opened _ _ (two_before text calm also opens) = opens

-- what stands in the brackets: a register and these tokens more
pub record Inside (opening word : SpelledToken) (more : List SpelledToken) (address : Address) : Type 0 where
  pub unmarked : mark_by (Some word) ≡ 0
  pub plain : HasNoComma more
  pub parts : Parts
  pub writes : WritesSum false 0 Nothing parts [] (opening ∷ word ∷ more)
  pub makes : address_of None parts ≡ Some address

-- the text with its brackets apart
pub record Parted (text : List SpelledToken) (count : ℕ) (address : Address) (next : ℕ) : Type 0 where
  pub opening : SpelledToken
  pub word : SpelledToken
  pub more : List SpelledToken
  pub closing : SpelledToken
  pub behind : List SpelledToken
  pub splits : drop count text ≡ opening ∷ word ∷ (more ++ (closing ∷ behind))
  pub size : length (take count text) ≡ count
  pub calm : list_all is_calm (take count text) ≡ true
  pub opens : mark_by (Some opening) ≡ 91
  pub inside : Inside opening word more address
  pub wordless : is_word (codes "ptr") (slice_get (more ++ (closing ∷ [])) 0) ≡ false
  pub closes : mark_by (Some closing) ≡ 93
  pub ended : ends behind ≡ true
  pub ends_there : next ≡ count + 3 + length more

-- THE SUM

pub no_less : nat_lt 0 0 ≡ true → ⊥
no_less is = cc

pub none_is : {A : Type 0} (mark : ℕ) → 0 ≡ mark → nat_lt 0 mark ≡ true → A
none_is mark is some = let none : mark ≡ 0 = sym is in let bad : nat_lt 0 0 ≡ true = rw none at some in absurd (no_less bad)

pub one_byte : (mark : ℕ) (bytes : List ℕ) → nat_lt 0 mark ≡ true → mark_byte bytes ≡ mark → bytes ≡ mark ∷ []
one_byte mark [] some is = none_is mark is some
one_byte mark (byte ∷ []) some is = ap (λ (b : ℕ). b ∷ []) is
one_byte mark (first ∷ second ∷ rest) some is = none_is mark is some

pub bytes_by : (mark : ℕ) (kind : TokenKind) (bytes : List ℕ) (start : ℕ) → nat_lt 0 mark ≡ true
    → (let token : SpelledToken = record { kind = kind; bytes = bytes; start = start } in mark_by (Some token) ≡ mark) → bytes ≡ mark ∷ []
unfolding mark_by
bytes_by mark kind.Name bytes start some is = none_is mark is some
bytes_by mark kind.Digits bytes start some is = none_is mark is some
bytes_by mark kind.Character bytes start some is = none_is mark is some
bytes_by mark kind.String bytes start some is = none_is mark is some
bytes_by mark kind.Operator bytes start some is = one_byte mark bytes some is
bytes_by mark kind.Other bytes start some is = none_is mark is some

pub bracket_no_word : (token : SpelledToken) → mark_by (Some token) ≡ 93 → is_word (codes "ptr") (Some token) ≡ false
unfolding is_word
bracket_no_word token is = let own = bytes_by 93 token.kind token.bytes token.start refl is in rw own refl

pub plus_no_word : (token : SpelledToken) → mark_by (Some token) ≡ 43 → is_word (codes "ptr") (Some token) ≡ false
unfolding is_word
plus_no_word token is = let own = bytes_by 43 token.kind token.bytes token.start refl is in rw own refl

-- the register that is the base
pub record NamesBase (found : Option NamedRegister) (base : Base) : Type 0 where
  pub named : NamedRegister
  pub is : found ≡ Some named
  pub based : base_by (Some named) ≡ Some base

pub named_base : (found : Option NamedRegister) (base : Base) → base_by found ≡ Some base → NamesBase found base
named_base None base is = cc
named_base (Some named) base is = record { named = named; is = refl; based = is }

pub addresses : (named : NamedRegister) (base : Base) → base_by (Some named) ≡ Some base → address_of None (One (Plain named)) ≡ Some (in_segment None base index.Absent)
unfolding address_of
addresses named base is = rw is refl

pub plus_ends : (token : SpelledToken) → mark_by (Some token) ≡ 43 → part_ends (Some token) ≡ true
unfolding part_ends
plus_ends token is = rw is refl

nothing_ends : part_ends None ≡ true
unfolding part_ends
nothing_ends = refl

-- one register
one_write : (opening word : SpelledToken) (named : NamedRegister) → mark_by (Some opening) ≡ 91 → register_of word.bytes ≡ Some named
    → WritesSum false 0 Nothing (One (Plain named)) [] (opening ∷ word ∷ [])
one_write opening word named opens names =
    let signs : adds false (mark_by (Some opening)) ≡ true = rw opens refl in
    register_next false opening (Plain named) Nothing (One (Plain named)) [] (word ∷ []) [] (opening ∷ word ∷ []) signs (alone named word names) nothing_ends (done (One (Plain named))) refl

-- two registers, of which the second is written so
pub two_write : (opening word plus : SpelledToken) (first : NamedRegister) (part : Part) (written : List SpelledToken) → mark_by (Some opening) ≡ 91 → register_of word.bytes ≡ Some first
    → mark_by (Some plus) ≡ 43 → WritesPart part written → written ++ [] ≡ written
    → WritesSum false 0 Nothing (Two (Plain first) part) [] (opening ∷ word ∷ plus ∷ written)
two_write opening word plus first part written opens named adds_it writes whole =
    let signs : adds false (mark_by (Some opening)) ≡ true = rw opens refl in
    let again : adds true (mark_by (Some plus)) ≡ true = rw adds_it refl in
    let stands_so : plus ∷ written ≡ plus ∷ (written ++ []) = ap (λ (ts : List SpelledToken). plus ∷ ts) (sym whole) in
    let tail : WritesSum true 0 (One (Plain first)) (Two (Plain first) part) [] (plus ∷ written) =
    register_next true plus part (One (Plain first)) (Two (Plain first) part) [] written [] (plus ∷ written) again writes nothing_ends (done (Two (Plain first) part)) stands_so in
    register_next false opening (Plain first) Nothing (Two (Plain first) part) [] (word ∷ []) (plus ∷ written) (opening ∷ word ∷ plus ∷ written) signs (alone first word named) (plus_ends plus adds_it) tail refl

pub unmarked_comma : (token : SpelledToken) (mark : ℕ) → mark_by (Some token) ≡ mark → (mark == 44) ≡ false → is_no_comma token ≡ true
unfolding is_no_comma
unmarked_comma token mark is differs = rw (is, differs) refl

pub comma_behind : (token : SpelledToken) (mark : ℕ) (rest : List SpelledToken) → mark_by (Some token) ≡ mark → (mark == 44) ≡ false → HasNoComma rest → HasNoComma (token ∷ rest)
comma_behind token mark rest is differs apart = and_from (is_no_comma token) (list_all is_no_comma rest) (unmarked_comma token mark is differs) apart

pub finished : (text : List SpelledToken) (at : ℕ) → ends_at text at ≡ true → ends (drop at text) ≡ true
finished text at is = ap ends_by (behind_is text at) ∙ is

pub parted : (text : List SpelledToken) (count : ℕ) (found : FoundAddress) → OpensBehind text count → HoldsAddress text count found → Parted text count found.address found.next
parted text count _ opens (of_base _ _ base is) =
    let first = stands text count 91 (opened text count opens) refl in
    let register = named_base (register_by (slice_get text (count + 1))) base is.names in
    let word = names text (count + 1) register.named is.word register.is in
    let last = stands text (count + 2) 93 is.closes refl in
    let behind = drop (count + 3) text in
    record {
      opening = first.token;
      word = word.token;
      more = [];
      closing = last.token;
      behind = behind;
      splits = next_is text count (count + 1) first.token (word.token ∷ last.token ∷ behind) first.is refl
          (next_is text (count + 1) (count + 2) word.token (last.token ∷ behind) word.is (omega arith) (next_is text (count + 2) (count + 3) last.token behind last.is (omega arith) refl));
      size = taken_size text count first.token first.is;
      calm = calm_before text count opens;
      opens = first.marks;
      inside = record {
        unmarked = word.marks;
        plain = refl;
        parts = One (Plain register.named);
        writes = one_write first.token word.token register.named first.marks word.names;
        makes = addresses register.named base register.based;
      };
      wordless = bracket_no_word last.token last.marks;
      closes = last.marks;
      ended = finished text (count + 3) is.ended;
      ends_there = omega arith;
    }
parted text count _ opens (of_pair _ _ one two address is) =
    let first = stands text count 91 (opened text count opens) refl in
    let word = names text (count + 1) one is.word is.names in
    let plus = stands text (count + 2) 43 is.plus refl in
    let other_word = names text (count + 3) two is.other is.renames in
    let last = stands text (count + 4) 93 is.closes refl in
    let behind = drop (count + 5) text in
    record {
      opening = first.token;
      word = word.token;
      more = plus.token ∷ other_word.token ∷ [];
      closing = last.token;
      behind = behind;
      splits = next_is text count (count + 1) first.token (word.token ∷ plus.token ∷ other_word.token ∷ last.token ∷ behind) first.is refl
          (next_is text (count + 1) (count + 2) word.token (plus.token ∷ other_word.token ∷ last.token ∷ behind) word.is (omega arith)
          (next_is text (count + 2) (count + 3) plus.token (other_word.token ∷ last.token ∷ behind) plus.is (omega arith)
          (next_is text (count + 3) (count + 4) other_word.token (last.token ∷ behind) other_word.is (omega arith) (next_is text (count + 4) (count + 5) last.token behind last.is (omega arith) refl))));
      size = taken_size text count first.token first.is;
      calm = calm_before text count opens;
      opens = first.marks;
      inside = record {
        unmarked = word.marks;
        plain = comma_behind plus.token 43 (other_word.token ∷ []) plus.marks refl (comma_behind other_word.token 0 [] other_word.marks refl refl);
        parts = Two (Plain one) (Plain two);
        writes = two_write first.token word.token plus.token one (Plain two) (other_word.token ∷ []) first.marks word.names plus.marks (alone two other_word.token other_word.names) refl;
        makes = is.makes;
      };
      wordless = plus_no_word plus.token plus.marks;
      closes = last.marks;
      ended = finished text (count + 5) is.ended;
      ends_there = omega arith;
    }
parted text count _ opens (of_scaled _ _ one two scale address is) =
    let first = stands text count 91 (opened text count opens) refl in
    let word = names text (count + 1) one is.word is.names in
    let plus = stands text (count + 2) 43 is.plus refl in
    let other_word = names text (count + 3) two is.other is.renames in
    let star = stands text (count + 4) 42 is.star refl in
    let digits = scales_by text (count + 5) scale (slice_get text (count + 5)) refl is.digits is.scales in
    let last = stands text (count + 6) 93 is.closes refl in
    let behind = drop (count + 7) text in
    record {
      opening = first.token;
      word = word.token;
      more = plus.token ∷ other_word.token ∷ star.token ∷ digits.token ∷ [];
      closing = last.token;
      behind = behind;
      splits = next_is text count (count + 1) first.token (word.token ∷ plus.token ∷ other_word.token ∷ star.token ∷ digits.token ∷ last.token ∷ behind) first.is refl
          (next_is text (count + 1) (count + 2) word.token (plus.token ∷ other_word.token ∷ star.token ∷ digits.token ∷ last.token ∷ behind) word.is (omega arith)
          (next_is text (count + 2) (count + 3) plus.token (other_word.token ∷ star.token ∷ digits.token ∷ last.token ∷ behind) plus.is (omega arith)
          (next_is text (count + 3) (count + 4) other_word.token (star.token ∷ digits.token ∷ last.token ∷ behind) other_word.is (omega arith)
          (next_is text (count + 4) (count + 5) star.token (digits.token ∷ last.token ∷ behind) star.is (omega arith)
          (next_is text (count + 5) (count + 6) digits.token (last.token ∷ behind) digits.is (omega arith) (next_is text (count + 6) (count + 7) last.token behind last.is (omega arith) refl))))));
      size = taken_size text count first.token first.is;
      calm = calm_before text count opens;
      opens = first.marks;
      inside = record {
        unmarked = word.marks;
        plain = comma_behind plus.token 43 (other_word.token ∷ star.token ∷ digits.token ∷ []) plus.marks refl
            (comma_behind other_word.token 0 (star.token ∷ digits.token ∷ []) other_word.marks refl
            (comma_behind star.token 42 (digits.token ∷ []) star.marks refl (comma_behind digits.token 0 [] digits.marks refl refl)));
        parts = Two (Plain one) (Scaled two scale);
        writes = two_write first.token word.token plus.token one (Scaled two scale) (other_word.token ∷ star.token ∷ digits.token ∷ []) first.marks word.names plus.marks
            (times two scale other_word.token star.token digits.token other_word.names star.marks digits.scales) refl;
        makes = is.makes;
      };
      wordless = plus_no_word plus.token plus.marks;
      closes = last.marks;
      ended = finished text (count + 7) is.ended;
      ends_there = omega arith;
    }

-- no tokens stand behind the brackets of this text
abbrev pub text_in : (text : List SpelledToken) (count : ℕ) (address : Address) (next : ℕ) → Parted text count address next → List SpelledToken
text_in text count address next apart = take count text ++ (apart.opening ∷ apart.word ∷ (apart.more ++ (apart.closing ∷ [])))

pub whole_in : (text : List SpelledToken) (count : ℕ) (address : Address) (next : ℕ) (apart : Parted text count address next)
    → text ≡ take count text ++ (apart.opening ∷ apart.word ∷ (apart.more ++ (apart.closing ∷ apart.behind)))
whole_in text count address next apart = split_at text count ∙ ap (λ (ts : List SpelledToken). take count text ++ ts) apart.splits
