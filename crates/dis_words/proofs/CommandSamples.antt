-- The command computed on words written out.
use Rattle.std.specs.Prelude.{◌≡◌, List, [], ◌∷◌, ℕ, Bool, true, false, codes, None, Some, refl}
use Rattle.clap.proofs.OnLiterals.{clap_on_literals}
use Rattle.dis_words.specs.Words.{Invocation, asdis_app, asked_by, command_of, faults_of, invocation_of, rows_of_words}

-- what is asked for
abbrev asked : List ℕ → Bool → Invocation
asked file intel = record { file = file; intel = intel }

row_nothing : command_of ([]) ≡ None
unfolding command_of asked_by faults_of rows_of_words invocation_of asdis_app clap_on_literals
row_nothing = refl

row_alone : command_of (codes "asdis" ∷ []) ≡ Some (asked [] false)
unfolding command_of asked_by faults_of rows_of_words invocation_of asdis_app clap_on_literals
row_alone = refl

row_file : command_of (codes "asdis" ∷ codes "x.o" ∷ []) ≡ Some (asked (codes "x.o") false)
unfolding command_of asked_by faults_of rows_of_words invocation_of asdis_app clap_on_literals
row_file = refl

row_dash : command_of (codes "asdis" ∷ codes "-" ∷ []) ≡ Some (asked [] false)
unfolding command_of asked_by faults_of rows_of_words invocation_of asdis_app clap_on_literals
row_dash = refl

row_empty : command_of (codes "asdis" ∷ [] ∷ []) ≡ Some (asked [] false)
unfolding command_of asked_by faults_of rows_of_words invocation_of asdis_app clap_on_literals
row_empty = refl

row_intel : command_of (codes "asdis" ∷ codes "--intel" ∷ codes "x.o" ∷ []) ≡ Some (asked (codes "x.o") true)
unfolding command_of asked_by faults_of rows_of_words invocation_of asdis_app clap_on_literals
row_intel = refl

row_intel_last : command_of (codes "asdis" ∷ codes "x.o" ∷ codes "--intel" ∷ []) ≡ Some (asked (codes "x.o") true)
unfolding command_of asked_by faults_of rows_of_words invocation_of asdis_app clap_on_literals
row_intel_last = refl

row_after_dashes : command_of (codes "asdis" ∷ codes "--" ∷ codes "--intel" ∷ []) ≡ Some (asked (codes "--intel") false)
unfolding command_of asked_by faults_of rows_of_words invocation_of asdis_app clap_on_literals
row_after_dashes = refl

row_twice : command_of (codes "asdis" ∷ codes "--intel" ∷ codes "--intel" ∷ []) ≡ None
unfolding command_of asked_by faults_of rows_of_words invocation_of asdis_app clap_on_literals
row_twice = refl

row_valued : command_of (codes "asdis" ∷ codes "--intel=true" ∷ []) ≡ None
unfolding command_of asked_by faults_of rows_of_words invocation_of asdis_app clap_on_literals
row_valued = refl

row_two_files : command_of (codes "asdis" ∷ codes "a" ∷ codes "b" ∷ []) ≡ None
unfolding command_of asked_by faults_of rows_of_words invocation_of asdis_app clap_on_literals
row_two_files = refl

row_unknown : command_of (codes "asdis" ∷ codes "--att" ∷ []) ≡ None
unfolding command_of asked_by faults_of rows_of_words invocation_of asdis_app clap_on_literals
row_unknown = refl

row_help : command_of (codes "asdis" ∷ codes "--help" ∷ []) ≡ None
unfolding command_of asked_by faults_of rows_of_words invocation_of asdis_app clap_on_literals
row_help = refl
