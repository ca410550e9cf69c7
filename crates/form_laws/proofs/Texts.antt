-- Instructions as texts whose numbers have 64 bits, and what the rules of their mnemonics make of them.
use Rattle.std.proofs.Common.{◌≡◌, ℕ, Bool, true, false, cond, List, [], ◌∷◌, Option, None, Some, Result, Ok, refl, sym, subst, ◌∙◌, arith}
use Rattle.std.specs.Prelude.{◌==◌, ◌&&◌, ◌||◌, not, nat_lt}
use Rattle.std.specs.List.{find, list_all}
use Rattle.std.proofs.lemmas.Bool.{and_parts, ltb-true}
use Rattle.std.proofs.lemmas.Option.{none-some, same_Some}
use Rattle.x86_insn.specs.declared.insns.Prefix.{Prefix}
use Rattle.x86_insn.specs.declared.insns.Mnemonic.{Mnemonic}
use Rattle.x86_table.specs.declared.forms.Row.{Row}
use Rattle.x86_table.specs.Rows.{the_rows}
use Rattle.x86_lookup.specs.declared.names.Named.{Named}
use Rattle.x86_lookup.specs.declared.names.Rule.{Rule}
use Rattle.x86_lookup.specs.declared.names.Rule.TheVariants as rule
use Rattle.x86_lookup.specs.Names.{has_text, the_att_names, the_intel_names}
use Rattle.x86_lookup.specs.Forms.{is_form}
use Rattle.x86_lookup.specs.Mnemonics.{of_size, whole_mnemonic, fixing, or_lettered, last_size, stem, att_mnemonic}
use Rattle.att_operands.specs.declared.faults.OperandCause.{OperandCause}
use Rattle.att_operands.specs.OperandTexts.{OperandText}
use Rattle.att_operands.specs.OperandTexts as operand
use Rattle.att_operands.specs.Values.{ValueText, beside}
use Rattle.att_insns.specs.InsnTexts.{InsnText, blank}
use Rattle.att_insns.specs.Rules.{is_quad, is_xmm, is_accumulator, is_xmm0, has, ruled}
use Rattle.att_insns.specs.Slots.{is_absent, is_register, is_immediate, is_memory}
use Rattle.att_insns.specs.Sources.{word_name, renamed, source_name, unless_form, from_unsized, by_bits}
use Rattle.intel_insns.specs.Heads.{mnemonic_of}
use Rattle.form_laws.proofs.Fitting.{Fits, NumbersFit}
use Rattle.form_laws.proofs.Steps.{err-ok, same_Ok}

-- the numbers of both values fit
pub record IsFitting (insn : InsnText) : Type 0 where
  pub immediate : NumbersFit insn.immediate.tree
  pub displacement : NumbersFit insn.displacement.tree

-- so do those of the operand
abbrev pub OperandFits : OperandText → Type 0
OperandFits (operand.register reg) = Unit {0}
OperandFits (operand.immediate held) = NumbersFit held.tree
OperandFits (operand.memory place held) = NumbersFit held.tree
OperandFits (operand.target held) = NumbersFit held.tree

-- a value beside another of its kind
pub beside_fits : (there : Bool) (one other : ValueText) → NumbersFit one.tree → NumbersFit other.tree → NumbersFit (beside there one other).tree
beside_fits true one other first second = (first, second)
beside_fits false one other first second = second

-- an instruction without operands
pub blank_fits : (name : Mnemonic) (size : ℕ) (word : Prefix) → IsFitting (blank name size word)
blank_fits name size word = record { immediate = omega arith; displacement = omega arith }

-- LISTS

pub found_passes : {X : Type 0} (p q : X → Bool) (xs : List X) (x : X) → find p xs ≡ Some x → list_all q xs ≡ true → q x ≡ true
found_passes p q [] x is all = absurd (none-some x is)
found_passes p q (first ∷ rest) x is all = by (p first) (found_passes p q rest x) is
  where
    by : (b : Bool) → (find p rest ≡ Some x → list_all q rest ≡ true → q x ≡ true) → cond b (Some first) (find p rest) ≡ Some x → q x ≡ true
    by true later has = subst (λ y. q y ≡ true) (same_Some first x has) (and_parts (q first) (list_all q rest) all).0
    by false later has = later has (and_parts (q first) (list_all q rest) all).1

-- MNEMONICS

-- the number that a rule gives an instruction is a byte
abbrev is_small : Rule → Bool
is_small (rule.Predicate value) = nat_lt value 256
is_small other = true

-- it has 64 bits
abbrev pub RuleFits : Rule → Type 0
RuleFits (rule.Predicate value) = Fits value
RuleFits other = Unit {0}

small_fits : (by_rule : Rule) → is_small by_rule ≡ true → RuleFits by_rule
small_fits rule.Plain is = tt
small_fits (rule.Predicate value) is = let low = ltb-true value 256 is in omega (arith, low)
small_fits rule.ByOne is = tt
small_fits rule.ByCl is = tt
small_fits rule.OneForTwo is = tt
small_fits rule.MemoryFirst is = tt
small_fits rule.AccumulatorFirst is = tt
small_fits rule.WithXmm0 is = tt
small_fits rule.Branch is = tt
small_fits rule.QuadIsMovq is = tt
small_fits rule.LongMemory is = tt
small_fits rule.OrMove is = tt
small_fits rule.BySource is = tt
small_fits (rule.OrString name) is = tt

-- of each mnemonic of both syntaxes
small_att : list_all (λ named. is_small named.rule) the_att_names ≡ true
unfolding the_att_names
small_att = refl

small_intel : list_all (λ named. is_small named.rule) the_intel_names ≡ true
unfolding the_intel_names
small_intel = refl

whole_small : (text : List ℕ) (named : Named) → whole_mnemonic text ≡ Some named → is_small named.rule ≡ true
unfolding whole_mnemonic
whole_small text named is = found_passes (has_text text) (λ (one : Named). is_small one.rule) the_att_names named is small_att

fixed_small : (size : ℕ) (found : Option Named) (named : Named) → ((one : Named) → found ≡ Some one → is_small one.rule ≡ true) → fixing size found ≡ Some named
    → is_small named.rule ≡ true
fixed_small size None named small is = absurd (none-some named is)
fixed_small size (Some one) named small is = by ((size == 0) || not (one.size == 0)) is
  where
    by : (b : Bool) → cond b None (Some (of_size one size)) ≡ Some named → is_small named.rule ≡ true
    by true has = absurd (none-some named has)
    by false has = subst (λ (n : Named). is_small n.rule ≡ true) (same_Some (of_size one size) named has) (small one refl)

either_small : (text : List ℕ) (found : Option Named) (named : Named) → whole_mnemonic text ≡ found → or_lettered text found ≡ Some named → is_small named.rule ≡ true
either_small text None named whole is = fixed_small (last_size text) (whole_mnemonic (stem text)) named (whole_small (stem text)) is
either_small text (Some one) named whole is = whole_small text named (whole ∙ is)

pub att_rule_fits : (text : List ℕ) (named : Named) → att_mnemonic text ≡ Some named → RuleFits named.rule
unfolding att_mnemonic
att_rule_fits text named is = small_fits named.rule (either_small text (whole_mnemonic text) named refl is)

pub intel_rule_fits : (text : List ℕ) (named : Named) → mnemonic_of text ≡ Some named → RuleFits named.rule
unfolding mnemonic_of
intel_rule_fits text named is = small_fits named.rule (found_passes (has_text text) (λ (one : Named). is_small one.rule) the_intel_names named is small_intel)

-- WHAT RULES MAKE

pub choice_fits : (b : Bool) (one other : InsnText) → IsFitting one → IsFitting other → IsFitting (cond b one other)
choice_fits true one other first second = first
choice_fits false one other first second = second

-- the same values
pub as_fits : (one other : InsnText) → other.immediate ≡ one.immediate → other.displacement ≡ one.displacement → IsFitting one → IsFitting other
as_fits one other own moved fits = record {
  immediate = subst (λ (v : ValueText). NumbersFit v.tree) (sym own) fits.immediate;
  displacement = subst (λ (v : ValueText). NumbersFit v.tree) (sym moved) fits.displacement;
}

-- another number as the immediate
given_fits : (one other : InsnText) (value : ℕ) → Fits value → NumbersFit other.immediate.tree → other.displacement ≡ one.displacement → IsFitting one → IsFitting other
given_fits one other value low own moved fits = record {
  immediate = own;
  displacement = subst (λ (v : ValueText). NumbersFit v.tree) (sym moved) fits.displacement;
}

pub ruled_fits : (by_rule : Rule) (insn : InsnText) → RuleFits by_rule → IsFitting insn → IsFitting (ruled by_rule insn)
ruled_fits rule.Plain insn small fits = fits
ruled_fits (rule.Predicate value) insn small fits = choice_fits (is_absent insn.third) _ _ (given_fits insn _ value small small refl fits) (as_fits insn _ refl refl fits)
ruled_fits rule.ByOne insn small fits = let one : Fits 1 = omega arith in choice_fits (is_absent insn.second && not (is_absent insn.first)) _ _ (given_fits insn _ 1 one one refl fits) fits
ruled_fits rule.ByCl insn small fits = choice_fits (is_absent insn.third && not (is_absent insn.second)) _ _ (as_fits insn _ refl refl fits) fits
ruled_fits rule.OneForTwo insn small fits = choice_fits (is_register insn.first && (is_immediate insn.second && is_absent insn.third)) _ _ (as_fits insn _ refl refl fits) fits
ruled_fits rule.MemoryFirst insn small fits = choice_fits (is_register insn.first && is_memory insn.second) _ _ (as_fits insn _ refl refl fits) fits
ruled_fits rule.AccumulatorFirst insn small fits = choice_fits (is_register insn.first && (is_memory insn.second || is_accumulator insn.second)) _ _ (as_fits insn _ refl refl fits) fits
ruled_fits rule.WithXmm0 insn small fits = choice_fits (is_xmm0 insn.third) _ _ (as_fits insn _ refl refl fits) fits
ruled_fits rule.Branch insn small fits = fits
ruled_fits rule.QuadIsMovq insn small fits = choice_fits (has is_quad insn) _ _ (as_fits insn _ refl refl fits) fits
ruled_fits rule.LongMemory insn small fits = choice_fits (has is_memory insn && (insn.size == 0)) _ _ (as_fits insn _ refl refl fits) fits
ruled_fits rule.OrMove insn small fits = choice_fits (has is_xmm insn || not (insn.size == 0)) _ _ fits (as_fits insn _ refl refl fits)
ruled_fits rule.BySource insn small fits = fits
ruled_fits (rule.OrString name) insn small fits = fits

-- an instruction that is read
pub ok_fits : (one made : InsnText) → IsFitting one → (let given : Result InsnText OperandCause = Ok one in given ≡ Ok made) → IsFitting made
ok_fits one made fits is = subst IsFitting (same_Ok one made is) fits

unless_fits : (insn made : InsnText) (found : Option Row) → IsFitting insn → unless_form insn found ≡ Ok made → IsFitting made
unless_fits insn made None fits is = ok_fits insn made fits is
unless_fits insn made (Some row) fits is = err-ok _ made is

unsized_fits : (insn made : InsnText) → IsFitting insn → from_unsized insn ≡ Ok made → IsFitting made
unfolding from_unsized
unsized_fits insn made fits is = unless_fits insn made (find (is_form (word_name insn.name.0) insn.first insn.second insn.third) the_rows) fits is

pub bits_fit : (insn made : InsnText) (bits : ℕ) → IsFitting insn → by_bits insn bits ≡ Ok made → IsFitting made
bits_fit insn made bits fits is = by (bits == 0) is
  where
    by : (b : Bool) → cond b (from_unsized insn) (Ok (renamed insn (source_name bits insn.name.0))) ≡ Ok made → IsFitting made
    by true has = unsized_fits insn made fits has
    by false has = ok_fits (renamed insn (source_name bits insn.name.0)) made (as_fits insn _ refl refl fits) has
