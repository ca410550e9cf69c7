-- From what `clap` says of a parse to the command.
use Rattle.std.proofs.Common.{◌≡◌, ◌∙◌, ℕ, true, List, [], ◌∷◌, Option, None, Some, ap, ap₂, inl, inr, refl, sym}
use Rattle.clap.specs.Words.{App, HasKind, HasMatchesOf, Kinds, Row, fault_of, first_of, first_value, found_of, is_simple, is_simple_and_free, kind_of, matches_of, rows_of}
use Rattle.clap.specs.declared.error.Error.{Error}
use Rattle.clap.specs.declared.error.kind.ErrorKind.TheVariants as kind
use Rattle.clap.specs.declared.parser.matches.ArgMatches.{ArgMatches}
use Rattle.clap.specs.declared.parser.matches.Found.{Found}
use Rattle.clap.proofs.WalkLemmas.{first_value-rows}
use Rattle.dis_words.specs.Words.{Invocation, asdis_app, asked_by, faults_of, rows_of_words, invocation_of, unless_fault}

-- a getter's value, by the rows
pub first_text : (f : Found) (id : List ℕ) → first_value f id ≡ first_of id (rows_of f)
first_text = first_value-rows

asdis_app-simple : is_simple asdis_app ≡ true
unfolding asdis_app
asdis_app-simple = refl

asdis_app-free : is_simple_and_free asdis_app ≡ true
unfolding asdis_app
asdis_app-free = refl

rows_read : (app : App) (words : List (List ℕ)) (m : ArgMatches) → app ≡ asdis_app → HasMatchesOf app words m → rows_of (found_of m) ≡ rows_of_words words
unfolding rows_of_words
rows_read app words m is has = (has (ap is_simple is ∙ asdis_app-simple)).0 ∙ ap₂ matches_of is refl

faults_read : (app : App) (words : List (List ℕ)) → app ≡ asdis_app → fault_of app words ≡ faults_of words
unfolding faults_of
faults_read app words is = ap₂ fault_of is refl

is_free : (app : App) → app ≡ asdis_app → is_simple_and_free app ≡ true
is_free app is = ap is_simple_and_free is ∙ asdis_app-free

taken : (words : List (List ℕ)) (rows : List Row) → rows ≡ rows_of_words words → faults_of words ≡ [] → Some (invocation_of rows) ≡ asked_by words
unfolding asked_by
taken words rows is none = rw (is, none) refl

refused_by : (kinds : Kinds) (invocation : Invocation) (e : Error) → (kind_of e ≡ kind.OutOfMemory → ⊥) → HasKind kinds e → None ≡ unless_fault kinds invocation
refused_by [] invocation e other (inl memory) = absurd (other memory)
refused_by [] invocation e other (inr none) = absurd none
refused_by (k ∷ ks) invocation e other has = refl

refused : (words : List (List ℕ)) (e : Error) → (kind_of e ≡ kind.OutOfMemory → ⊥) → HasKind (faults_of words) e → None ≡ asked_by words
unfolding asked_by
refused words e other has = refused_by (faults_of words) _ e other has

-- an answer with matches
pub answer_taken : (app : App) (words : List (List ℕ)) (m : ArgMatches) → app ≡ asdis_app → HasMatchesOf app words m
    → (is_simple_and_free app ≡ true → fault_of app words ≡ []) → Some (invocation_of (rows_of (found_of m))) ≡ asked_by words
answer_taken app words m is has fails = taken words _ (rows_read app words m is has) (sym (faults_read app words is) ∙ fails (is_free app is))

-- an answer with an error that is not for want of memory
pub answer_refused : (app : App) (words : List (List ℕ)) (e : Error) → app ≡ asdis_app → (kind_of e ≡ kind.OutOfMemory → ⊥)
    → (is_simple_and_free app ≡ true → HasKind (fault_of app words) e) → None ≡ asked_by words
answer_refused app words e is other fails = refused words e other (rw (faults_read app words is) at (fails (is_free app is)))
