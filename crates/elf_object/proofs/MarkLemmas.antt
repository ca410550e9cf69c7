-- Marks, one for each number.
use Rattle.std.proofs.Common.{◌≡◌, ℕ, zero, suc, ◌+◌, ◌<◌, ◌≤◌, ◌||◌, Bool, true, false, List, [], ◌∷◌, length, get_or, drop, map, refl, sym, ap, ◌∙◌, arith}
use Rattle.std.specs.List.{list_any}
use Rattle.std.proofs.lemmas.List.{at_drop_all}
use Rattle.elf_object.specs.declared.contents.HeldSection.{HeldSection}
use Rattle.elf_object.specs.declared.relocations.Relocation.{Relocation}
use Rattle.elf_symbols.specs.declared.targets.Target.TheVariants.{OfSymbol}
use Rattle.elf_symbols.specs.Targets.{NamedOf}
use Rattle.elf_object.specs.Naming.{is_named, is_thread_named, marks_from, named_of}
use Rattle.elf_object.specs.Marking.{mark_at}
use Rattle.elf_object.specs.Views.{relocations_in}
use Rattle.elf_object.proofs.LoopSteps.{next_is}

or_false : (b : Bool) → (b || false) ≡ b
or_false true = refl
or_false false = refl

pub length-marks : (is_so : ℕ → Bool) (from count : ℕ) → length (marks_from is_so from count) ≡ count
length-marks is_so from zero = refl
length-marks is_so from (suc count) = ap suc (length-marks is_so (from + 1) count)

or_assoc : (a b c : Bool) → ((a || b) || c) ≡ (a || (b || c))
or_assoc true b c = refl
or_assoc false b c = refl

both_same : (a b : Bool) (more others : List Bool) → a ≡ b → more ≡ others → a ∷ more ≡ b ∷ others
both_same a b more others e es = rw (e, es) refl

-- marks that tell of each number are those of the numbers
marks_are : (is_so : ℕ → Bool) (marks : List Bool) (from count : ℕ) → length marks ≡ count → ((i : ℕ) → i < count → mark_at marks i ≡ is_so (from + i))
    → marks ≡ marks_from is_so from count
marks_are is_so [] from zero long tells = refl
marks_are is_so [] from (suc count) long tells = absurd cc
marks_are is_so (mark ∷ marks) from zero long tells = absurd cc
marks_are is_so (mark ∷ marks) from (suc count) long tells =
    let first : mark ≡ is_so from = tells 0 (omega arith) ∙ ap is_so (let e : from + 0 ≡ from = omega arith in e) in
    let others : marks ≡ marks_from is_so (from + 1) count = marks_are is_so marks (from + 1) count (let e : length marks ≡ count = cc in e)
    (λ i low. tells (suc i) (omega arith) ∙ ap is_so (let e : from + suc i ≡ from + 1 + i = omega arith in e)) in
    both_same mark (is_so from) marks (marks_from is_so (from + 1) count) first others

-- where nothing is left to mark, the marks tell of each number
pub all_marked : {X : Type 0} (is_so : ℕ → Bool) (left : ℕ → List X → Bool) (these : List X) (at : ℕ) (marks : List Bool) (count : ℕ) → length marks ≡ count
    → length these ≤ at → ((i : ℕ) → left i [] ≡ false) → ((i : ℕ) → i < count → (mark_at marks i || left i (drop at these)) ≡ is_so i) → marks ≡ marks_from is_so 0 count
all_marked is_so left these at marks count long end none tells =
    marks_are is_so marks 0 count long (λ i low. sym (or_false (mark_at marks i))
    ∙ ap (λ b. mark_at marks i || b) (sym (at_drop_all (left i) these at end ∙ none i)) ∙ tells i low ∙ ap is_so (let e : i ≡ 0 + i = omega arith in e))

pub named_are : (named : NamedOf) (sections symbols threads : List Bool) → named.sections ≡ sections → named.symbols ≡ symbols → named.thread_locals ≡ threads
    → named ≡ record { sections = sections; symbols = symbols; thread_locals = threads }
named_are named sections symbols threads first second third = rw (← first, ← second, ← third) refl

-- there is a mark for each symbol
pub named_long : (named : NamedOf) (found : List (List Relocation)) (count : ℕ) → named ≡ named_of found count → length named.symbols ≡ count
unfolding named_of
named_long named found count is = ap (λ (n : NamedOf). length n.symbols) is ∙ length-marks (λ i. is_named found (OfSymbol i)) 0 count

-- and one for each as thread-local
pub threads_long : (named : NamedOf) (found : List (List Relocation)) (count : ℕ) → named ≡ named_of found count → length named.thread_locals ≡ count
unfolding named_of
threads_long named found count is = ap (λ (n : NamedOf). length n.thread_locals) is ∙ length-marks (λ i. is_thread_named found (OfSymbol i)) 0 count

-- the marks of one more section are set
pub mark_step : (names : List Relocation → Bool) (held : List HeldSection) (i : ℕ) (section : HeldSection) (found : List Relocation) (before after whole : Bool) → i < length held
    → section ≡ get_or held i section → found ≡ section.relocations.items → after ≡ (before || names found)
    → (before || list_any names (map relocations_in (drop i held))) ≡ whole → (after || list_any names (map relocations_in (drop (i + 1) held))) ≡ whole
mark_step names held i section found before after whole inside is own put so_far =
    let rest = list_any names (map relocations_in (drop (i + 1) held)) in
    ap (λ b. b || rest) (put ∙ ap (λ rs. before || names rs) own) ∙ or_assoc before (names section.relocations.items) rest
    ∙ ap (λ b. before || b) (sym (next_is (λ (hs : List HeldSection). list_any names (map relocations_in hs)) held i section inside is)) ∙ so_far
