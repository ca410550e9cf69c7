-- The command computed on words written out.
use Rattle.std.specs.Prelude.{◌≡◌, List, [], ◌∷◌, ℕ, true, false, codes, None, Some, refl}
use Rattle.std.specs.Fmt.{digits}
use Rattle.clap.proofs.OnLiterals.{clap_on_literals}
use Rattle.run_words.specs.Functions.{functions_of}
use Rattle.run_words.specs.Words.{Invocation, as_app, asked_by, command_of, faults_of, invocation_of, rows_of_words, taken_of}

-- the invocation of `x.s` with no flag
abbrev x_to : List ℕ → Invocation
x_to name = record { file = codes "x.s"; self_load = None; object = name; scfi = false; no_warn = false; fatal_warnings = false }

row_object : command_of (codes "as" ∷ codes "-o" ∷ codes "y.o" ∷ codes "x.s" ∷ []) ≡ Some (x_to (codes "y.o"))
unfolding command_of asked_by faults_of rows_of_words taken_of invocation_of as_app clap_on_literals
row_object = refl

row_attached : command_of (codes "as" ∷ codes "-oy.o" ∷ codes "x.s" ∷ []) ≡ Some (x_to (codes "y.o"))
unfolding command_of asked_by faults_of rows_of_words taken_of invocation_of as_app clap_on_literals
row_attached = refl

row_no_value : command_of (codes "as" ∷ codes "-o" ∷ []) ≡ None
unfolding command_of asked_by faults_of rows_of_words taken_of invocation_of as_app clap_on_literals
row_no_value = refl

row_two_files : command_of (codes "as" ∷ codes "a" ∷ codes "b" ∷ []) ≡ None
unfolding command_of asked_by faults_of rows_of_words taken_of invocation_of as_app clap_on_literals
row_two_files = refl

row_twice : command_of (codes "as" ∷ codes "--64" ∷ codes "--64" ∷ codes "x.s" ∷ []) ≡ None
unfolding command_of asked_by faults_of rows_of_words taken_of invocation_of as_app clap_on_literals
row_twice = refl

row_no_warn_twice : command_of (codes "as" ∷ codes "-W" ∷ codes "--no-warn" ∷ codes "x.s" ∷ []) ≡ None
unfolding command_of asked_by faults_of rows_of_words taken_of invocation_of as_app clap_on_literals
row_no_warn_twice = refl

row_help : command_of (codes "as" ∷ codes "--help" ∷ codes "x.s" ∷ []) ≡ None
unfolding command_of asked_by faults_of rows_of_words taken_of invocation_of as_app clap_on_literals
row_help = refl

row_unknown : command_of (codes "as" ∷ codes "--scfi=other" ∷ codes "x.s" ∷ []) ≡ None
unfolding command_of asked_by faults_of rows_of_words taken_of invocation_of as_app clap_on_literals
row_unknown = refl

row_scfi : command_of (codes "as" ∷ codes "--scfi=experimental" ∷ codes "x.s" ∷ []) ≡ Some (record (x_to (codes "a.out")) { scfi = true })
unfolding command_of asked_by faults_of rows_of_words taken_of invocation_of as_app clap_on_literals
row_scfi = refl

row_scfi_apart : command_of (codes "as" ∷ codes "--scfi" ∷ codes "experimental" ∷ codes "x.s" ∷ []) ≡ Some (record (x_to (codes "a.out")) { scfi = true })
unfolding command_of asked_by faults_of rows_of_words taken_of invocation_of as_app clap_on_literals
row_scfi_apart = refl

row_scfi_alone : command_of (codes "as" ∷ codes "x.s" ∷ codes "--scfi" ∷ []) ≡ None
unfolding command_of asked_by faults_of rows_of_words taken_of invocation_of as_app clap_on_literals
row_scfi_alone = refl

row_scfi_twice : command_of (codes "as" ∷ codes "--scfi=experimental" ∷ codes "--scfi=experimental" ∷ codes "x.s" ∷ []) ≡ None
unfolding command_of asked_by faults_of rows_of_words taken_of invocation_of as_app clap_on_literals
row_scfi_twice = refl

row_scfi_longer : command_of (codes "as" ∷ codes "--scfi=experimental2" ∷ codes "x.s" ∷ []) ≡ None
unfolding command_of asked_by faults_of rows_of_words taken_of invocation_of as_app clap_on_literals
row_scfi_longer = refl

row_scfi_word : command_of (codes "as" ∷ codes "--scfi" ∷ codes "x.s" ∷ []) ≡ None
unfolding command_of asked_by faults_of rows_of_words taken_of invocation_of as_app clap_on_literals
row_scfi_word = refl

row_scfi_flags : command_of (codes "as" ∷ codes "x.s" ∷ codes "-Woy.o" ∷ codes "--scfi=experimental" ∷ codes "--fatal-warnings" ∷ []) ≡ Some (record { file = codes "x.s"; self_load = None; object = codes "y.o"; scfi = true; no_warn = true; fatal_warnings = true })
unfolding command_of asked_by faults_of rows_of_words taken_of invocation_of as_app clap_on_literals
row_scfi_flags = refl

row_trailing : command_of (codes "as" ∷ codes "--" ∷ codes "x.s" ∷ []) ≡ Some (x_to (codes "a.out"))
unfolding command_of asked_by faults_of rows_of_words taken_of invocation_of as_app clap_on_literals
row_trailing = refl

row_dash_object : command_of (codes "as" ∷ codes "-o" ∷ codes "-" ∷ codes "x.s" ∷ []) ≡ Some (x_to (codes "-"))
unfolding command_of asked_by faults_of rows_of_words taken_of invocation_of as_app clap_on_literals
row_dash_object = refl

row_flags : command_of (codes "as" ∷ codes "--64" ∷ codes "-W" ∷ codes "-o" ∷ codes "z.o" ∷ codes "-" ∷ []) ≡ Some (record { file = []; self_load = None; object = codes "z.o"; scfi = false; no_warn = true; fatal_warnings = false })
unfolding command_of asked_by faults_of rows_of_words taken_of invocation_of as_app clap_on_literals
row_flags = refl

row_alone : command_of (codes "as" ∷ []) ≡ Some (record { file = []; self_load = None; object = codes "a.out"; scfi = false; no_warn = false; fatal_warnings = false })
unfolding command_of asked_by faults_of rows_of_words taken_of invocation_of as_app clap_on_literals
row_alone = refl

row_help_short : command_of (codes "as" ∷ codes "-h" ∷ []) ≡ None
unfolding command_of asked_by faults_of rows_of_words taken_of invocation_of as_app clap_on_literals
row_help_short = refl

row_version : command_of (codes "as" ∷ codes "--version" ∷ []) ≡ None
unfolding command_of asked_by faults_of rows_of_words taken_of invocation_of as_app clap_on_literals
row_version = refl

row_version_short : command_of (codes "as" ∷ codes "-V" ∷ []) ≡ None
unfolding command_of asked_by faults_of rows_of_words taken_of invocation_of as_app clap_on_literals
row_version_short = refl

row_help_word : command_of (codes "as" ∷ codes "--" ∷ codes "--help" ∷ []) ≡ Some (record { file = codes "--help"; self_load = None; object = codes "a.out"; scfi = false; no_warn = false; fatal_warnings = false })
unfolding command_of asked_by faults_of rows_of_words taken_of invocation_of as_app clap_on_literals
row_help_word = refl

row_all_flags : command_of (codes "as" ∷ codes "x.s" ∷ codes "--no-warn" ∷ codes "--fatal-warnings" ∷ codes "-o" ∷ [] ∷ []) ≡ Some (record { file = codes "x.s"; self_load = None; object = []; scfi = false; no_warn = true; fatal_warnings = true })
unfolding command_of asked_by faults_of rows_of_words taken_of invocation_of as_app clap_on_literals
row_all_flags = refl

row_empty_file : command_of (codes "as" ∷ [] ∷ []) ≡ Some (record { file = []; self_load = None; object = codes "a.out"; scfi = false; no_warn = false; fatal_warnings = false })
unfolding command_of asked_by faults_of rows_of_words taken_of invocation_of as_app clap_on_literals
row_empty_file = refl

row_equals : command_of (codes "as" ∷ codes "-o=y.o" ∷ codes "x.s" ∷ []) ≡ Some (x_to (codes "y.o"))
unfolding command_of asked_by faults_of rows_of_words taken_of invocation_of as_app clap_on_literals
row_equals = refl

row_bundle : command_of (codes "as" ∷ codes "-Woy.o" ∷ codes "x.s" ∷ []) ≡ Some (record { file = codes "x.s"; self_load = None; object = codes "y.o"; scfi = false; no_warn = true; fatal_warnings = false })
unfolding command_of asked_by faults_of rows_of_words taken_of invocation_of as_app clap_on_literals
row_bundle = refl

row_flag_value : command_of (codes "as" ∷ codes "--64=1" ∷ []) ≡ None
unfolding command_of asked_by faults_of rows_of_words taken_of invocation_of as_app clap_on_literals
row_flag_value = refl

row_object_twice : command_of (codes "as" ∷ codes "-oa" ∷ codes "-ob" ∷ []) ≡ None
unfolding command_of asked_by faults_of rows_of_words taken_of invocation_of as_app clap_on_literals
row_object_twice = refl

-- the invocation of a source that is made, with no flag
abbrev pub load_of : ℕ → Invocation
load_of count = record { file = []; self_load = Some count; object = codes "a.out"; scfi = true; no_warn = false; fatal_warnings = false }

row_load : command_of (codes "as" ∷ codes "--self-load" ∷ codes "7" ∷ []) ≡ Some (load_of 7)
unfolding command_of asked_by faults_of rows_of_words taken_of invocation_of functions_of as_app digits clap_on_literals
row_load = refl

row_load_most : command_of (codes "as" ∷ codes "--self-load=100000" ∷ []) ≡ Some (load_of 100000)
unfolding command_of asked_by faults_of rows_of_words taken_of invocation_of functions_of as_app digits clap_on_literals
row_load_most = refl

row_load_object : command_of (codes "as" ∷ codes "--self-load" ∷ codes "1" ∷ codes "-of.o" ∷ codes "--scfi=experimental" ∷ []) ≡ Some (record (load_of 1) { object = codes "f.o" })
unfolding command_of asked_by faults_of rows_of_words taken_of invocation_of functions_of as_app digits clap_on_literals
row_load_object = refl

-- no number of functions: too few, too many, no digits, a 0 or a sign before them, a blank behind them, none
row_load_refused : (command_of (codes "as" ∷ codes "--self-load=0" ∷ []) ≡ None)
    × (command_of (codes "as" ∷ codes "--self-load=100001" ∷ []) ≡ None)
    × (command_of (codes "as" ∷ codes "--self-load=x" ∷ []) ≡ None)
    × (command_of (codes "as" ∷ codes "--self-load=05" ∷ []) ≡ None)
    × (command_of (codes "as" ∷ codes "--self-load=+5" ∷ []) ≡ None)
    × (command_of (codes "as" ∷ codes "--self-load" ∷ codes "1 " ∷ []) ≡ None)
    × (command_of (codes "as" ∷ codes "--self-load" ∷ [] ∷ []) ≡ None)
    × (command_of (codes "as" ∷ codes "--self-load" ∷ []) ≡ None)
unfolding command_of asked_by faults_of rows_of_words taken_of invocation_of functions_of as_app digits clap_on_literals
row_load_refused = (refl, refl, refl, refl, refl, refl, refl, refl)

-- a source beside it, if only standard input, and the option twice
row_load_beside : (command_of (codes "as" ∷ codes "--self-load=1" ∷ codes "x.s" ∷ []) ≡ None)
    × (command_of (codes "as" ∷ codes "-" ∷ codes "--self-load=1" ∷ []) ≡ None)
    × (command_of (codes "as" ∷ codes "--self-load=1" ∷ codes "--self-load=1" ∷ []) ≡ None)
unfolding command_of asked_by faults_of rows_of_words taken_of invocation_of functions_of as_app digits clap_on_literals
row_load_beside = (refl, refl, refl)

row_no_word : command_of [] ≡ None
unfolding command_of
row_no_word = refl
