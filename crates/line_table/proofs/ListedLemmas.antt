-- The files that directives give stay under their numbers, and the header lists them.
use Rattle.std.proofs.Common.{◌≡◌, ◌≢◌, inl, inr, ℕ, ◌<◌, Bool, true, false, ◌==◌, ◌&&◌, List, [], ◌∷◌, ◌++◌, length, Option, None, Some, Result, Ok, Err, is_some, option_map, unwrap_or, if◌then◌else◌, slice_get, eqb-true, refl, sym, ap, ◌∙◌, subst, arith}
use Rattle.std.specs.Option.{option_and_then}
use Rattle.std.specs.Str.{bytes_eq}
use Rattle.std.proofs.lemmas.Option.{slice_get_within, slice_get-map, same_Some}
use Rattle.std.proofs.lemmas.Slice.Eq.{bytes_eq-Decides}
use Rattle.asm_base.specs.declared.positions.Pos.{Pos}
use Rattle.asm_base.specs.Refusals.{◌>>=◌}
use Rattle.line_directives.specs.declared.faults.LineTableCause.{LineTableCause}
use Rattle.line_directives.specs.declared.faults.LineTableCause.TheVariants.{UnassignedFileNumber}
use Rattle.line_directives.specs.declared.source_files.SourceFile.{SourceFile}
use Rattle.line_directives.specs.Rows.{row_with}
use Rattle.line_directives.specs.SourceFiles.{FileTable, no_files, place_of, place_in, file_in, with_directory_of, same_directory, same_file, file_of, is_given, with_file}
use Rattle.line_directives.specs.Taking.{LineTable, no_lines, LineDirective, numbered_file, loc, file_taken, filed, with_line, taken, taken_from, table_of}
use Rattle.line_table.proofs.UnderLemmas.{put_here, put_other}
use Rattle.line_table.specs.Header.{first_directory, directories_of, directory_number, least, nameless, entry_or, text_of}
use Rattle.line_table.specs.ListedFiles.{IsNumberOf, IsListed, FilesAreListed}
use Rattle.line_table.proofs.DirectoryLemmas.{AreApart, apart_at, IsPlace, IsSeen, is_seen, place_is, placed_among, apart_among}

-- WHAT DIRECTIVES KEEP

-- the files of a directive's table: those before, or with one under a number that had none
data Takes (old new : FileTable) : Type 0 where
  as_before : new ≡ old → Takes old new
  one_more : (number : ℕ) (directory : Option (List ℕ)) (name : List ℕ) → file_of number old ≡ None → new ≡ with_file number directory name old → Takes old new

file_takes : (pos : Pos) (number : ℕ) (directory : Option (List ℕ)) (name : List ℕ) (table next : LineTable) (found : Option SourceFile) (given : Option Bool)
    → file_of number table.files ≡ found → given ≡ option_map (λ file. same_file file (file_in directory name table.files.directories)) found
    → file_taken given pos number directory name table ≡ Ok next → Takes table.files next.files
file_takes pos number directory name table next None None there given is =
    let made : record table { first = Some (unwrap_or table.first pos); files = with_file number directory name table.files } ≡ next = cc in
    one_more number directory name there (ap (λ (t : LineTable). t.files) (sym made))
file_takes pos number directory name table next (Some file) None there given is = absurd (let none : ⊥ = cc in none)
file_takes pos number directory name table next found (Some true) there given is =
    let kept : table ≡ next = cc in as_before (ap (λ (t : LineTable). t.files) (sym kept))
file_takes pos number directory name table next found (Some false) there given is = absurd (let none : ⊥ = cc in none)

line_takes : (b : Bool) (made next : LineTable) (old : FileTable) → made.files ≡ old → (if b then Ok made else Err UnassignedFileNumber) ≡ Ok next → Takes old next.files
line_takes true made next old kept is = let done : made ≡ next = cc in as_before (ap (λ (t : LineTable). t.files) (sym done) ∙ kept)
line_takes false made next old kept is = absurd (let none : ⊥ = cc in none)

takes : (directive : LineDirective) (table next : LineTable) → taken directive table ≡ Ok next → Takes table.files next.files
takes (numbered_file pos number directory name) table next is =
    file_takes pos number directory name table next (file_of number table.files) (is_given number directory name table.files) refl refl is
takes (loc line at) table next is =
    line_takes (is_some (file_of line.file table.files)) (with_line at (row_with table.is_stmt table.isa line) table) next table.files refl is

bound : (due : Result LineTable LineTableCause) (directives : List LineDirective) (after : LineTable)
    → (due >>= λ next. taken_from next directives) ≡ Ok after
    → (next : LineTable) × (due ≡ Ok next) × (taken_from next directives ≡ Ok after)
bound (Ok next) directives after is = (next, refl, is)
bound (Err cause) directives after is = absurd (let none : ⊥ = cc in none)

other_than : (a b : ℕ) → (a == b) ≡ false → a ≢ b
other_than a b is same = let none : ⊥ = grind (arith, is, same) in none

-- what a file under a number that had none leaves true, directives do
module _ (P : FileTable → Type 0)
    (step : (files : FileTable) (number : ℕ) (directory : Option (List ℕ)) (name : List ℕ) → file_of number files ≡ None → P files → P (with_file number directory name files)) where
  takes_keep : (old new : FileTable) → Takes old new → P old → P new
  takes_keep old new (as_before is) holds = subst P (sym is) holds
  takes_keep old new (one_more number directory name none is) holds = subst P (sym is) (step old number directory name none holds)

  pub all_keep : (directives : List LineDirective) (table after : LineTable) → taken_from table directives ≡ Ok after → P table.files → P after.files
  all_keep [] table after is holds = let done : table ≡ after = cc in subst (λ (t : LineTable). P t.files) done holds
  all_keep (directive ∷ directives) table after is holds =
      let next = bound (taken directive table) directives after is in
      all_keep directives next.0 after next.2 (takes_keep table.files next.0.files (takes directive table next.0 next.1) holds)

-- the table before directives that stand behind others
between : (before rest : List LineDirective) (table after : LineTable) → taken_from table (before ++ rest) ≡ Ok after
    → (middle : LineTable) × (taken_from table before ≡ Ok middle) × (taken_from middle rest ≡ Ok after)
between [] rest table after is = (table, refl, is)
between (directive ∷ before) rest table after is =
    let next = bound (taken directive table) (before ++ rest) after is in
    let middle = between before rest next.0 after next.2 in
    (middle.0, ap (λ due. due >>= λ next. taken_from next before) next.1 ∙ middle.1, middle.2)

-- THE FILES

-- no directory stands twice, and that of each file is there
record AreSound (files : FileTable) : Type 0 where
  pub apart : AreApart files.directories
  pub within : (number place : ℕ) (file : SourceFile) → file_of number files ≡ Some file → file.directory ≡ Some place
      → (text : List ℕ) × (slice_get files.directories place ≡ Some text)

none_sound : AreSound no_files
none_sound = record { apart = tt; within = λ number place file there is. absurd (let none : ⊥ = cc in none) }

-- a directory's place, if there is one, is that of the text
abbrev IsIn : Option (List ℕ) → Option ℕ → List (List ℕ) → Type 0
IsIn None None directories = Unit {0}
IsIn (Some text) (Some place) directories = slice_get directories place ≡ Some text
IsIn _ _ directories = ⊥

-- the file of this name in this directory is under the number
record HasFile (number : ℕ) (directory : Option (List ℕ)) (name : List ℕ) (files : FileTable) : Type 0 where
  pub file : SourceFile
  pub there : file_of number files ≡ Some file
  pub named : file.name ≡ name
  pub inside : IsIn directory file.directory files.directories

still_in : (directory : Option (List ℕ)) (place : Option ℕ) (seen : Option (List ℕ)) (old new : List (List ℕ)) → IsSeen seen old new
    → IsIn directory place old → IsIn directory place new
still_in None None seen old new more inside = tt
still_in (Some text) (Some place) seen old new more inside = more.kept place text inside
still_in None (Some place) seen old new more inside = absurd inside
still_in (Some text) None seen old new more inside = absurd inside

now_in : (directory : Option (List ℕ)) (old new : List (List ℕ)) → IsSeen directory old new → IsIn directory (place_in directory old) new
now_in None old new more = tt
now_in (Some text) old new more = more.here

given_in : (directory : Option (List ℕ)) (place : Option ℕ) (directories : List (List ℕ))
    → ((at : ℕ) → place ≡ Some at → (text : List ℕ) × (slice_get directories at ≡ Some text))
    → same_directory place (place_in directory directories) ≡ true → IsIn directory place directories
given_in None None directories within is = tt
given_in None (Some at) directories within is = absurd (let none : ⊥ = cc in none)
given_in (Some text) None directories within is = absurd (let none : ⊥ = cc in none)
given_in (Some text) (Some at) directories within is = by (place_is text directories)
  where
    same_place : at ≡ place_of text directories
    same_place = eqb-true at (place_of text directories) is

    by : IsPlace text directories (place_of text directories) → slice_get directories at ≡ Some text
    by (inl there) = ap (slice_get directories) same_place ∙ there
    by (inr (behind, lacks)) =
        let held = within at refl in
        let less : at < length directories = slice_get_within directories at held.0 held.1 in
        absurd (let none : ⊥ = omega (arith, less, same_place, behind) in none)

-- A FILE MORE

other_number : (number other : ℕ) (file : SourceFile) (files : FileTable) → file_of other files ≡ Some file → file_of number files ≡ None → other ≢ number
other_number number other file files there none same =
    let here : file_of other files ≡ None = ap (λ n. file_of n files) same ∙ none in let none : ⊥ = cc in none

has_step : (number : ℕ) (directory : Option (List ℕ)) (name : List ℕ) (files : FileTable) (more : ℕ) (seen : Option (List ℕ)) (title : List ℕ)
    → file_of more files ≡ None → HasFile number directory name files → HasFile number directory name (with_file more seen title files)
has_step number directory name files more seen title none has = record {
  file = has.file;
  there = put_other more number (file_in seen title files.directories) files.by_number (other_number more number has.file files has.there none) ∙ has.there;
  named = has.named;
  inside = still_in directory has.file.directory seen files.directories (with_directory_of seen files.directories) (is_seen seen files.directories) has.inside;
}

-- the directory of the new file is there
new_within : (directory : Option (List ℕ)) (place : ℕ) (old new : List (List ℕ)) → IsSeen directory old new → place_in directory old ≡ Some place
    → (text : List ℕ) × (slice_get new place ≡ Some text)
new_within None place old new more is = absurd (let none : ⊥ = cc in none)
new_within (Some text) place old new more is = (text, ap (slice_get new) (sym (same_Some (place_of text old) place is)) ∙ more.here)

sound_step : (files : FileTable) (more : ℕ) (seen : Option (List ℕ)) (title : List ℕ) → file_of more files ≡ None → AreSound files
    → AreSound (with_file more seen title files)
sound_step files more seen title none sound = record {
  apart = all.apart sound.apart;
  within = λ number place file there is. by number place file (number == more) refl there is;
}
  where
    all : IsSeen seen files.directories (with_directory_of seen files.directories)
    all = is_seen seen files.directories

    by : (number place : ℕ) (file : SourceFile) (b : Bool) → (number == more) ≡ b → file_of number (with_file more seen title files) ≡ Some file
        → file.directory ≡ Some place → (text : List ℕ) × (slice_get (with_directory_of seen files.directories) place ≡ Some text)
    by number place file true same there is =
        let one : number ≡ more = eqb-true number more same in
        let put : file_of more (with_file more seen title files) ≡ Some (file_in seen title files.directories) = put_here more (file_in seen title files.directories) files.by_number in
        let new : file_in seen title files.directories ≡ file = same_Some (file_in seen title files.directories) file (sym put ∙ ap (λ n. file_of n (with_file more seen title files)) (sym one) ∙ there) in
        new_within seen place files.directories (with_directory_of seen files.directories) all (ap (λ (f : SourceFile). f.directory) new ∙ is)
    by number place file false same there is =
        let other : number ≢ more = other_than number more same in
        let stays : file_of number files ≡ Some file = sym (put_other more number (file_in seen title files.directories) files.by_number other) ∙ there in
        let held = sound.within number place file stays is in
        (held.0, all.kept place held.0 held.1)

-- THE FILE OF A DIRECTIVE

both : (a b : Bool) → (a && b) ≡ true → (a ≡ true) × (b ≡ true)
both true true is = (refl, refl)
both true false is = absurd (let none : ⊥ = cc in none)
both false b is = absurd (let none : ⊥ = cc in none)

module _ (pos : Pos) (number : ℕ) (directory : Option (List ℕ)) (name : List ℕ) (table next : LineTable) (sound : AreSound table.files) where
  new_here : HasFile number directory name (with_file number directory name table.files)
  new_here = record {
    file = file_in directory name table.files.directories;
    there = put_here number (file_in directory name table.files.directories) table.files.by_number;
    named = refl;
    inside = now_in directory table.files.directories (with_directory_of directory table.files.directories) (is_seen directory table.files.directories);
  }

  given_here : (file : SourceFile) → file_of number table.files ≡ Some file → same_file file (file_in directory name table.files.directories) ≡ true
      → HasFile number directory name table.files
  given_here file there is =
      let parts = both (same_directory file.directory (place_in directory table.files.directories)) (bytes_eq file.name name) is in
      record {
        file = file;
        there = there;
        named = (bytes_eq-Decides file.name name).0 parts.1;
        inside = given_in directory file.directory table.files.directories (λ at here. sound.within number at file there here) parts.0;
      }

  by_given : (file : SourceFile) (b : Bool) → file_of number table.files ≡ Some file → same_file file (file_in directory name table.files.directories) ≡ b
      → file_taken (Some b) pos number directory name table ≡ Ok next → HasFile number directory name next.files
  by_given file true there given is =
      let kept : table ≡ next = cc in subst (λ (t : LineTable). HasFile number directory name t.files) kept (given_here file there given)
  by_given file false there given is = absurd (let none : ⊥ = cc in none)

  by_found : (found : Option SourceFile) → file_of number table.files ≡ found
      → file_taken (option_map (λ file. same_file file (file_in directory name table.files.directories)) found) pos number directory name table ≡ Ok next
      → HasFile number directory name next.files
  by_found None there is =
      let made : record table { first = Some (unwrap_or table.first pos); files = with_file number directory name table.files } ≡ next = cc in
      subst (λ (t : LineTable). HasFile number directory name t.files) made new_here
  by_found (Some file) there is = by_given file (same_file file (file_in directory name table.files.directories)) there refl is

  has_here : filed pos number directory name table ≡ Ok next → HasFile number directory name next.files
  has_here is = by_found (file_of number table.files) refl is

-- THE HEADER

at_number : (found : Option (Option SourceFile)) (file : SourceFile) → option_and_then (λ item. item) found ≡ Some file → found ≡ Some (Some file)
at_number None file is = absurd (let none : ⊥ = cc in none)
at_number (Some item) file is = ap Some is

numbered_by : (files : FileTable) (directory : Option (List ℕ)) (place : Option ℕ) → IsIn directory place files.directories
    → IsNumberOf files directory (directory_number files place)
numbered_by files None None inside = refl
numbered_by files None (Some place) inside = absurd inside
numbered_by files (Some text) None inside = absurd inside
numbered_by files (Some text) (Some place) inside =
    let same : text ≡ text_of files (Some place) = sym (ap (λ found. unwrap_or found []) inside) in
    subst (λ words. slice_get (directories_of files) (place_of words (directories_of files)) ≡ Some text) same
    (placed_among (first_directory files) text files.directories place inside)

listed_by : (number : ℕ) (directory : Option (List ℕ)) (name : List ℕ) (files : FileTable) → HasFile number directory name files → IsListed files number directory name
listed_by number directory name files has =
    let other : SourceFile = unwrap_or (least files.by_number) nameless in
    let at : ℕ = directory_number files has.file.directory in
    record {
      at = at;
      entry =
          slice_get-map (entry_or files other) files.by_number number
          ∙ ap (option_map (entry_or files other)) (at_number (slice_get files.by_number number) has.file has.there)
          ∙ ap (λ (name : List ℕ). Some (name, at)) has.named;
      numbered = numbered_by files directory has.file.directory has.inside;
    }

all_sound : (directives : List LineDirective) (lines : LineTable) → table_of directives ≡ Ok lines → AreSound lines.files
all_sound directives lines is = all_keep AreSound sound_step directives no_lines lines is none_sound

all_listed : (before after : List LineDirective) (lines : LineTable) (pos : Pos) (number : ℕ) (directory : Option (List ℕ)) (name : List ℕ)
    → table_of (before ++ numbered_file pos number directory name ∷ after) ≡ Ok lines → IsListed lines.files number directory name
all_listed before after lines pos number directory name is =
    let middle = between before (numbered_file pos number directory name ∷ after) no_lines lines is in
    let next = bound (filed pos number directory name middle.0) after lines middle.2 in
    let here : HasFile number directory name next.0.files = has_here pos number directory name middle.0 next.0 (all_sound before middle.0 middle.1) next.1 in
    listed_by number directory name lines.files
    (all_keep (HasFile number directory name) (has_step number directory name) after next.0 lines next.2 here)

pub files_are_listed : FilesAreListed
files_are_listed = record {
  listed = all_listed;
  apart = λ directives lines first second text is one two.
      apart_at (directories_of lines.files) first second text
      (apart_among (first_directory lines.files) lines.files.directories (all_sound directives lines is).apart) one two;
}
