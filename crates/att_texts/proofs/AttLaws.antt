-- The texts of instructions spell them, in AT&T syntax.
use Rattle.std.proofs.Common.{◌≡◌, ℕ, zero, suc, ◌<◌, ◌==◌, ◌&&◌, ◌||◌, not, Bool, true, false, List, [], ◌∷◌, Option, Some, slice_get, Ok, refl, sym, ap, subst, ◌∙◌, arith, inl, inr}
use Rattle.std.proofs.lemmas.Bool.{and_parts, cases_Bool}
use Rattle.std.specs.List.{find, list_all}
use Rattle.asm_base.specs.ByteClasses.{is_name_start, is_name_byte}
use Rattle.asm_base.specs.Tokens.{SpelledToken, tokens_of}
use Rattle.x86_insn.specs.Views.{View}
use Rattle.x86_lookup.specs.declared.names.Named.{Named}
use Rattle.x86_lookup.specs.Names.{the_att_names, text_of, has_text}
use Rattle.std.specs.Str.{str_to_ascii_lowercase}
use Rattle.std.specs.Cmp.Lexicographic.{bytes_decides}
use Rattle.att_insns.specs.InsnTexts.{InsnText, blank}
use Rattle.att_insns.specs.Rules.{ruled, is_branch}
use Rattle.x86_lookup.specs.Mnemonics.{att_mnemonic, is_by_source, IsTextExactly, IsText, whole}
use Rattle.att_insns.specs.Sources.{meant_by}
use Rattle.att_insns.specs.Spells.{HasSize, with_size, filled_by, Spells, behind as spelled_behind}
use Rattle.att_texts.proofs.FoundSizes.{size_has}
use Rattle.att_texts.specs.Pieces.{PrintedPiece, is_word, are_apart, text_in, tokens_in}
use Rattle.att_texts.specs.AttTexts.{may_name, is_or_move, is_insn, read_after, written, insn_text, names_it, mnemonic_for, operands_in, after_blank, insn_pieces}
use Rattle.att_texts.specs.Printable.{IsWidth, ArePrintable}
use Rattle.att_texts.specs.TextLaws.{AttTextsSpell, IsChosen, PiecesSpell}
use Rattle.att_texts.proofs.NumberTexts.{number_spelled, place_spelled}
use Rattle.att_texts.proofs.RegisterTexts.{register_named}
use Rattle.att_texts.proofs.ApartTexts.{insn_apart}
use Rattle.att_texts.proofs.Decided.{with_head, headed, decided, passes_if_read}
use Rattle.att_texts.proofs.InsnTexts.{insn_written, head_spelled}

-- what is found is in the list, passes, and is the first that does
pub record IsFirst (p : Named → Bool) (names : List Named) (named : Named) : Type 0 where
  pub at : ℕ
  pub stands : slice_get names at ≡ Some named
  pub passes : p named ≡ true
  pub earlier : (i : ℕ) (other : Named) → i < at → slice_get names i ≡ Some other → p other ≡ false

some_is : (one other : Named) → (let given : Option Named = Some one in given ≡ Some other) → one ≡ other
some_is one other is = cc

earlier_by : (p : Named → Bool) (names : List Named) (one named : Named) (rest : IsFirst p names named) → p one ≡ false
    → (i : ℕ) (other : Named) → i < suc rest.at → slice_get (one ∷ names) i ≡ Some other → p other ≡ false
earlier_by p names one named rest f zero other low it = subst (λ (n : Named). p n ≡ false) (some_is one other it) f
earlier_by p names one named rest f (suc i) other low it = rest.earlier i other (omega (arith, low)) it

pub first_found : (p : Named → Bool) (names : List Named) (named : Named) → find p names ≡ Some named → IsFirst p names named
first_found p [] named is = cc
first_found p (one ∷ names) named is = elim (cases_Bool (p one)) [
  | inl t ↦
      let same : one ≡ named = some_is one named (rw t at is) in
      record { at = 0; stands = ap Some same; passes = subst (λ (n : Named). p n ≡ true) same t; earlier = λ i other low it. absurd (omega (arith, low)) }
  | inr f ↦
      let rest = first_found p names named (rw f at is) in
      record { at = suc rest.at; stands = rest.stands; passes = rest.passes; earlier = earlier_by p names one named rest f }
]

-- what holds of all mnemonics holds of one
all_hold : (q : Named → Bool) (names : List Named) (i : ℕ) (named : Named) → list_all q names ≡ true → slice_get names i ≡ Some named → q named ≡ true
all_hold q [] i named all it = cc
all_hold q (one ∷ names) zero named all it = subst (λ (n : Named). q n ≡ true) (some_is one named it) (and_parts (q one) (list_all q names) all).0
all_hold q (one ∷ names) (suc i) named all it = all_hold q names i named (and_parts (q one) (list_all q names) all).1 it

-- the text of each mnemonic is a word
names_are_words : list_all (λ named. is_word (text_of named)) the_att_names ≡ true
unfolding the_att_names is_name_start is_name_byte
names_are_words = refl

-- the source of an instruction does not decide what a mnemonic that names it means
not_is : (b : Bool) → not b ≡ true → b ≡ false
not_is true is = cc
not_is false is = refl

not_by_source : (insn : InsnText) (named : Named) → names_it insn named ≡ true → is_by_source named.rule ≡ false
unfolding names_it
not_by_source insn named passes =
    let may = and_parts (may_name insn.name.0 named) (is_insn insn (read_after insn named)) passes in
    not_is (is_by_source named.rule) (and_parts (not (is_by_source named.rule)) ((named.name.0 == insn.name.0) || is_or_move named.rule) may.0).0

-- a mnemonic has its own text
own_text : (named : Named) → has_text (text_of named) named ≡ true
own_text named = (bytes_decides (str_to_ascii_lowercase (text_of named)) (str_to_ascii_lowercase (text_of named))).1 refl

-- the tokens of the text spell the instruction
pub att_spells : ((pieces : List PrintedPiece) → are_apart pieces ≡ true → tokens_of (text_in pieces) ≡ tokens_in 0 pieces)
    → ((i : ℕ) (named : Named) → slice_get the_att_names i ≡ Some named → att_mnemonic (text_of named) ≡ Some named)
    → (bits : ℕ) (insn : View) (named : Named) → IsWidth bits → mnemonic_for (insn_text bits insn) ≡ Some named → ArePrintable (is_branch named.rule) insn
    → Spells (insn_text bits insn) (tokens_of (text_in (insn_pieces bits insn named)))
unfolding mnemonic_for
att_spells pieces_are found bits insn named width chosen ok =
    let first = first_found (names_it (insn_text bits insn)) the_att_names named chosen in
    let read = decided (insn_text bits insn) named first.passes in
    let sized = size_has (ruled named.rule (headed (insn_text bits insn) named)) (insn_text bits insn) read in
    let same : ruled named.rule (filled_by named insn.«prefix» (written bits insn)) ≡ ruled named.rule (headed (insn_text bits insn) named) =
    ap (ruled named.rule) (with_head (written bits insn) (blank insn.name insn.size insn.«prefix») named.name named.size) in
    let head = head_spelled insn.«prefix» named (after_blank (operands_in (is_branch named.rule) bits insn)) 0 (found first.at named first.stands) in
    let has = subst (λ (i : InsnText). HasSize i sized.size) (sym same) sized.has in
    let plain = not_by_source (insn_text bits insn) named first.passes in
    let meant : meant_by named.rule (filled_by named insn.«prefix» (written bits insn)) ≡ Ok (ruled named.rule (filled_by named insn.«prefix» (written bits insn))) = rw plain refl in
    let spells = spelled_behind named insn.«prefix» (written bits insn) _ sized.size _ _ head.is (insn_written (is_branch named.rule) bits insn width ok head.at) meant has in
    let tokens = pieces_are (insn_pieces bits insn named) (insn_apart bits insn named width ok (all_hold (λ one. is_word (text_of one)) the_att_names first.at named names_are_words first.stands)) in
    subst (λ (ts : List SpelledToken). Spells (insn_text bits insn) ts) (sym tokens)
    (subst (λ (i : InsnText). Spells i (tokens_in 0 (insn_pieces bits insn named))) (sym (sized.is ∙ ap (λ (i : InsnText). with_size i sized.size) (sym same))) spells)

-- no earlier mnemonic of these rows does for it: a suffix is only where it has to
pub earlier_fails : (insn : InsnText) (named : Named) → mnemonic_for insn ≡ Some named → IsFirst (names_it insn) the_att_names named
unfolding mnemonic_for
earlier_fails insn named chosen = first_found (names_it insn) the_att_names named chosen

found_by_text : ((text : List ℕ) (named : Named) → IsTextExactly text named) → (i : ℕ) (named : Named) → slice_get the_att_names i ≡ Some named → att_mnemonic (text_of named) ≡ Some named
found_by_text exactly i named it = (exactly (text_of named) named).is (whole (text_of named) i named it (own_text named))

-- the tokens of the text spell the instruction
pub att_text_spells : ((pieces : List PrintedPiece) → are_apart pieces ≡ true → tokens_of (text_in pieces) ≡ tokens_in 0 pieces)
    → ((text : List ℕ) (named : Named) → IsTextExactly text named) → AttTextsSpell
att_text_spells pieces_are exactly bits insn named width chosen ok = att_spells pieces_are (found_by_text exactly) bits insn named width chosen ok

pub chosen_is : (insn : InsnText) (named : Named) → mnemonic_for insn ≡ Some named → IsChosen insn named
chosen_is insn named chosen =
    let first = earlier_fails insn named chosen in
    record {
      at = first.at;
      stands = first.stands;
      reads = decided insn named first.passes;
      earlier = λ i other low it may read.
          let passes = passes_if_read insn other may read in
          let fails = first.earlier i other low it in
          cc;
    }

-- what both syntaxes share
pub pieces_spell : PiecesSpell
pieces_spell = record { numbers = number_spelled; places = place_spelled; registers = λ of_class number fits. (register_named of_class number fits).names }
