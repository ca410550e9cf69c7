-- An instruction that is spelled is read.
use Rattle.std.proofs.Common.{◌≡◌, ◌<◌, ℕ, zero, suc, ◌+◌, ◌-◌, nat_lt, Bool, true, false, List, [], ◌∷◌, ◌++◌, Option, Some, None, option_map, Result, Ok, Err, length, map, drop, slice_get, refl, sym, ap, ◌∙◌, arith, length-append, length-drop, inl, inr, codes}
use Rattle.std.proofs.lemmas.Bool.{lt-ltb, le-ltb, cases_Bool}
use Rattle.std.proofs.lemmas.List.{append-nil, length-map}
use Rattle.std.proofs.lemmas.Option.{slice_get-map}
use Rattle.std.specs.Char.{to_ascii_lowercase}
use Rattle.std.specs.List.{find}
use Rattle.std.specs.Str.{str_eq_ignore_ascii_case, str_to_ascii_lowercase, bytes_eq}
use Rattle.std.specs.Cmp.Lexicographic.{bytes_decides}
use Rattle.asm_base.specs.Refusals.{◌>>=◌}
use Rattle.asm_base.specs.Tokens.{SpelledToken}
use Rattle.x86_insn.specs.declared.insns.Prefix.{Prefix}
use Rattle.x86_lookup.specs.declared.names.Named.{Named}
use Rattle.x86_lookup.specs.Names.{the_att_names, text_of}
use Rattle.x86_lookup.specs.Mnemonics.{letter_size, fixed_by, last_size, stem, whole_mnemonic, fixing, or_lettered, att_mnemonic}
use Rattle.att_operands.specs.declared.faults.OperandCause.{OperandCause}
use Rattle.att_operands.specs.declared.faults.OperandCause.TheVariants.{BadOperand}
use Rattle.att_operands.specs.Marks.{mark_by, ends_by, begins_by}
use Rattle.att_operands.specs.Prefixes.{prefix_of}
use Rattle.att_operands.specs.Values.{begun_at}
use Rattle.att_operands.specs.OperandTexts.{OperandText, ReadPart, part, memory_at, place_at, operand_at}
use Rattle.att_operands.specs.Spells.{IsMark, SpellsOperand, ends}
use Rattle.att_insns.specs.InsnTexts.{InsnText, blank, with_operand, with_operands}
use Rattle.att_insns.specs.Rules.{is_branch}
use Rattle.att_insns.specs.Sizes.{sized}
use Rattle.att_insns.specs.Sources.{meant_by}
use Rattle.att_insns.specs.Heads.{head, head_of}
use Rattle.att_insns.specs.Reading.{operand_then, operands_at, with_all, finished, headed_insn, insn_by, insn_of}
use Rattle.att_insns.specs.Spells.{WritesOperands, last, more, WritesAll, none, some, HasSize, with_size, filled_by, IsHead, bare, prefixed, Spells, behind, OperandsAreRead}
use Rattle.att_insns.proofs.SizesFound.{size_reads}

drop_none : (n : ℕ) → (let nothing : List SpelledToken = [] in drop n nothing ≡ nothing)
drop_none zero = refl
drop_none (suc n) = refl

-- what stands some tokens on
pub drop_more : (n : ℕ) (tokens text : List SpelledToken) (at m : ℕ) → drop at tokens ≡ text → m ≡ at + n → drop m tokens ≡ drop n text
drop_more n tokens text zero m stands is = let same : m ≡ n = omega arith in rw same (ap (λ (ts : List SpelledToken). drop n ts) stands)
drop_more n [] text (suc at) zero stands is = absurd (omega arith)
drop_more n [] text (suc at) (suc m) stands is = sym (drop_none n) ∙ ap (λ (ts : List SpelledToken). drop n ts) stands
drop_more n (token ∷ tokens) text (suc at) zero stands is = absurd (omega arith)
drop_more n (token ∷ tokens) text (suc at) (suc m) stands is = drop_more n tokens text at m stands (omega arith)

-- what stands behind the token after a text
pub drop_past : (before : List SpelledToken) (token : SpelledToken) (rest : List SpelledToken) (n : ℕ) → n ≡ length before + 1 → drop n (before ++ (token ∷ rest)) ≡ rest
drop_past [] token rest n is = rw is refl
drop_past (one ∷ before) token rest zero is = absurd (omega arith)
drop_past (one ∷ before) token rest (suc n) is = drop_past before token rest n (omega arith)

nothing_ends : ends [] ≡ true
unfolding ends_by
nothing_ends = refl

pub comma_ends : (comma : SpelledToken) (rest : List SpelledToken) → IsMark 44 comma → ends (comma ∷ rest) ≡ true
unfolding ends_by
comma_ends comma rest is = rw is refl

no_part : (found : ReadPart) → (let read : Result ReadPart OperandCause = Err BadOperand in read ≡ Ok found) → ⊥
no_part found is = cc

-- no operand has an empty text
not_empty : OperandsAreRead → (branch : Bool) (operand : OperandText) → SpellsOperand branch operand [] → ⊥
unfolding operand_at place_at memory_at begun_at mark_by begins_by
not_empty law true operand spells = no_part (part operand 0) (law true operand [] 0 [] [] spells refl nothing_ends)
not_empty law false operand spells = no_part (part operand 0) (law false operand [] 0 [] [] spells refl nothing_ends)

some_stands : OperandsAreRead → (most : ℕ) (branch : Bool) (operands : List OperandText) (text : List SpelledToken) → WritesOperands most branch operands text → 0 < length text
some_stands law _ _ _ _ (last others branch operand [] spells) = absurd (not_empty law branch operand spells)
some_stands law _ _ _ _ (last others branch operand (token ∷ text) spells) = omega arith
some_stands law _ _ _ text (more others branch operand operands comma before rest _ spells comma_is writes is) =
    let count : length text ≡ length before + suc (length rest) = ap length is ∙ length-append before (comma ∷ rest) in
    omega arith

-- operands that are written are read
operands_read : OperandsAreRead → (most : ℕ) (branch : Bool) (operands : List OperandText) (text tokens : List SpelledToken) (at : ℕ) (insn : InsnText)
    → WritesOperands most branch operands text → drop at tokens ≡ text → operands_at most branch tokens at insn ≡ Ok (with_operands operands insn)
operands_read law _ _ _ text tokens at insn (last others branch operand _ spells) stands =
    let reads = law branch operand tokens at text [] spells (stands ∙ sym (append-nil text)) nothing_ends in
    let count : length text ≡ length tokens - at = sym (ap length stands) ∙ length-drop at tokens in
    let over : nat_lt (at + length text) (length tokens) ≡ false = le-ltb (at + length text) (length tokens) (omega arith) in
    ap (operand_then tokens (operands_at others branch tokens) insn) reads ∙ (rw over refl)
operands_read law _ _ _ text tokens at insn (more others branch operand operands comma before rest _ spells comma_is writes is) stands =
    let split : drop at tokens ≡ before ++ (comma ∷ rest) = stands ∙ is in
    let reads = law branch operand tokens at before (comma ∷ rest) spells split (comma_ends comma rest comma_is) in
    let sum : length before + suc (length rest) ≡ length tokens - at = sym (ap length split ∙ length-append before (comma ∷ rest)) ∙ length-drop at tokens in
    let under : nat_lt (at + length before) (length tokens) ≡ true = lt-ltb (at + length before) (length tokens) (omega arith) in
    let left : drop ((at + length before) + 1) tokens ≡ rest =
    drop_more (length before + 1) tokens (before ++ (comma ∷ rest)) at ((at + length before) + 1) split (omega arith) ∙ drop_past before comma rest (length before + 1) refl in
    ap (operand_then tokens (operands_at others branch tokens) insn) reads
    ∙ (rw under (operands_read law others branch operands rest tokens ((at + length before) + 1) (with_operand operand insn) writes left))

pub all_read : OperandsAreRead → (branch : Bool) (operands : List OperandText) (text tokens : List SpelledToken) (at : ℕ) (insn : InsnText)
    → WritesAll branch operands text → drop at tokens ≡ text → with_all branch tokens at insn ≡ Ok (with_operands operands insn)
unfolding with_all
all_read law _ _ _ tokens at insn (none branch) stands =
    let count : 0 ≡ length tokens - at = sym (ap length stands) ∙ length-drop at tokens in
    let over : nat_lt at (length tokens) ≡ false = le-ltb at (length tokens) (omega arith) in
    rw over refl
all_read law _ operands text tokens at insn (some branch _ _ writes) stands =
    let filled = some_stands law 3 branch operands text writes in
    let count : length text ≡ length tokens - at = sym (ap length stands) ∙ length-drop at tokens in
    let under : nat_lt at (length tokens) ≡ true = lt-ltb at (length tokens) (omega arith) in
    rw under (operands_read law 3 branch operands text tokens at insn writes stands)

-- what stands behind the mnemonic gives the instruction
headed_read : OperandsAreRead → (named : Named) (word : Prefix) (operands : List OperandText) (insn : InsnText) (size next : ℕ) (text tokens : List SpelledToken)
    → WritesAll (is_branch named.rule) operands text → meant_by named.rule (filled_by named word operands) ≡ Ok insn → HasSize insn size → drop next tokens ≡ text
    → headed_insn tokens (head named word next) ≡ Ok (with_size insn size)
headed_read law named word operands insn size next text tokens writes means has stands =
    ap (λ (read : Result InsnText OperandCause). read >>= finished named.rule) (all_read law (is_branch named.rule) operands text tokens next (blank named.name named.size word) writes stands)
    ∙ ap (λ (read : Result InsnText OperandCause). read >>= sized) means
    ∙ size_reads insn size has

-- the mnemonic that has a text in lower case whole
abbrev folded_mnemonic : List ℕ → Option Named
folded_mnemonic low = find (λ named. bytes_eq low (str_to_ascii_lowercase (text_of named))) the_att_names

folded_whole : (text word : List ℕ) → str_to_ascii_lowercase text ≡ str_to_ascii_lowercase word → folded_mnemonic (str_to_ascii_lowercase word) ≡ None → whole_mnemonic text ≡ None
unfolding whole_mnemonic
folded_whole text word low missing = ap folded_mnemonic low ∙ missing

-- the operand size that the last letter of a text in lower case fixes
abbrev size_of : Option ℕ → ℕ
size_of None = 0
size_of (Some letter) = letter_size letter

-- the operand size that a text in lower case fixes
abbrev folded_size : List ℕ → ℕ
folded_size low = size_of (slice_get low (length low - 1))

lower_fixes : (letter : Option ℕ) → fixed_by letter ≡ size_of (option_map to_ascii_lowercase letter)
lower_fixes None = refl
lower_fixes (Some letter) = refl

last_folded : (text : List ℕ) → last_size text ≡ folded_size (str_to_ascii_lowercase text)
last_folded text =
    lower_fixes (slice_get text (length text - 1)) ∙ ap size_of (sym (slice_get-map to_ascii_lowercase text (length text - 1)))
    ∙ ap (λ (n : ℕ). size_of (slice_get (map to_ascii_lowercase text) (n - 1))) (sym (length-map text to_ascii_lowercase))

none_fixed : (found : Option Named) → fixing 0 found ≡ None
none_fixed None = refl
none_fixed (Some named) = refl

folded : (text word : List ℕ) → str_eq_ignore_ascii_case text word ≡ true → folded_mnemonic (str_to_ascii_lowercase word) ≡ None → folded_size (str_to_ascii_lowercase word) ≡ 0
    → att_mnemonic text ≡ None
unfolding att_mnemonic
folded text word same missing unfixed =
    let low = (bytes_decides (str_to_ascii_lowercase text) (str_to_ascii_lowercase word)).0 same in
    let size : last_size text ≡ 0 = last_folded text ∙ ap folded_size low ∙ unfixed in
    ap (or_lettered text) (folded_whole text word low missing) ∙ ap (λ (n : ℕ). fixing n (whole_mnemonic (stem text))) size ∙ none_fixed (whole_mnemonic (stem text))

lock_names_none : folded_mnemonic (str_to_ascii_lowercase (codes "lock")) ≡ None
unfolding the_att_names
lock_names_none = refl

rep_names_none : folded_mnemonic (str_to_ascii_lowercase (codes "rep")) ≡ None
unfolding the_att_names
rep_names_none = refl

repe_names_none : folded_mnemonic (str_to_ascii_lowercase (codes "repe")) ≡ None
unfolding the_att_names
repe_names_none = refl

repz_names_none : folded_mnemonic (str_to_ascii_lowercase (codes "repz")) ≡ None
unfolding the_att_names
repz_names_none = refl

repne_names_none : folded_mnemonic (str_to_ascii_lowercase (codes "repne")) ≡ None
unfolding the_att_names
repne_names_none = refl

repnz_names_none : folded_mnemonic (str_to_ascii_lowercase (codes "repnz")) ≡ None
unfolding the_att_names
repnz_names_none = refl

notrack_names_none : folded_mnemonic (str_to_ascii_lowercase (codes "notrack")) ≡ None
unfolding the_att_names
notrack_names_none = refl

-- a word that is a prefix is no mnemonic
no_mnemonic : (text : List ℕ) (word : Prefix) → prefix_of text ≡ Some word → att_mnemonic text ≡ None
no_mnemonic text word is = elim (cases_Bool (str_eq_ignore_ascii_case text (codes "lock"))) [
  | inl t ↦ folded text (codes "lock") t lock_names_none refl
  | inr a ↦ elim (cases_Bool (str_eq_ignore_ascii_case text (codes "rep"))) [
    | inl t ↦ folded text (codes "rep") t rep_names_none refl
    | inr b ↦ elim (cases_Bool (str_eq_ignore_ascii_case text (codes "repe"))) [
      | inl t ↦ folded text (codes "repe") t repe_names_none refl
      | inr c ↦ elim (cases_Bool (str_eq_ignore_ascii_case text (codes "repz"))) [
        | inl t ↦ folded text (codes "repz") t repz_names_none refl
        | inr d ↦ elim (cases_Bool (str_eq_ignore_ascii_case text (codes "repne"))) [
          | inl t ↦ folded text (codes "repne") t repne_names_none refl
          | inr e ↦ elim (cases_Bool (str_eq_ignore_ascii_case text (codes "repnz"))) [
            | inl t ↦ folded text (codes "repnz") t repnz_names_none refl
            | inr f ↦ elim (cases_Bool (str_eq_ignore_ascii_case text (codes "notrack"))) [
              | inl t ↦ folded text (codes "notrack") t notrack_names_none refl
              | inr g ↦ (let without : prefix_of text ≡ None = rw (a, b, c, d, e, f, g) refl in let bad : None ≡ Some word = sym without ∙ is in cc)
            ]
          ]
        ]
      ]
    ]
  ]
]

-- the head that is read
pub record HeadRead (named : Named) (word : Prefix) (text tokens : List SpelledToken) : Type 0 where
  pub next : ℕ
  pub is : head_of tokens ≡ Some (head named word next)
  pub stands : drop next tokens ≡ text

-- a head that stands in front is read
pub head_reads : (named : Named) (word : Prefix) (text tokens : List SpelledToken) → IsHead named word text tokens → HeadRead named word text tokens
unfolding head_of
head_reads _ _ _ _ (bare named name text names) = record { next = 1; is = rw names refl; stands = refl }
head_reads _ _ _ _ (prefixed named word lead name text leads names) =
    let none_here = no_mnemonic lead.bytes word leads in
    record { next = 2; is = rw (none_here, leads, names) refl; stands = refl }

-- an instruction that is spelled is read
pub insn_reads : OperandsAreRead → (insn : InsnText) (tokens : List SpelledToken) → Spells insn tokens → insn_of tokens ≡ Ok insn
unfolding insn_of
insn_reads law _ tokens (behind named word operands insn size text _ heads writes means has) =
    let front = head_reads named word text tokens heads in
    ap (insn_by tokens) front.is ∙ headed_read law named word operands insn size front.next text tokens writes means has front.stands

same_insn : (one other : InsnText) → (let read : Result InsnText OperandCause = Ok one in read ≡ Ok other) → one ≡ other
same_insn one other is = cc

-- tokens spell one instruction
pub one_insn : OperandsAreRead → (one other : InsnText) (tokens : List SpelledToken) → Spells one tokens → Spells other tokens → one ≡ other
one_insn law one other tokens spells also = same_insn one other (sym (insn_reads law one tokens spells) ∙ insn_reads law other tokens also)
