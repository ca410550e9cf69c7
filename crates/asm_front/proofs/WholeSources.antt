-- From the reading of the source and the answer for its text to the answer of `assemble`.
use Rattle.std.proofs.Common.{◌≡◌, ℕ, ◌<◌, ◌≤◌, inl, true, false, cond, nat_lt, List, [], length, Option, None, Some, Result, Ok, Err, refl, sym, ap, ◌∙◌, subst, arith}
use Rattle.std.proofs.lemmas.Bool.Decides.{nat_tests}
use Rattle.asm_base.specs.Inputs.{Contents, CountsFile, CountsMissing}
use Rattle.asm_base.specs.WholeFile.{most_bytes, ReadsFile, ReadsName}
use Rattle.asm_base.specs.declared.reading.TextFault.TheVariants.{TooLarge}
use Rattle.asm_macro.specs.Placing.{Step, goes, ended, fails, refused, misses, untold}
use Rattle.asm_place.specs.declared.place_faults.FaultAt.{FaultAt}
use Rattle.asm_functions.specs.FollowedSource.{FollowedSource}
use Rattle.source_ends.specs.Ending.{Flags}
use Rattle.asm_front.specs.Sources.{MainSource, file, given, name_of, source_in}
use Rattle.asm_front.specs.Assembly.{Assembly, faulty, shown_files, main_file, too_large, assembly_by, known_by, expansion_of, assembly_of, given_assembly}
use Rattle.asm_front.specs.Answering.{IsAnswered, text_assembly, AssemblesText, CountsText}
use Rattle.asm_front.specs.Outcome.{AssemblesAs, AssemblesFile, AssemblesKnown, Assembles, CountsKnown, CountsMissingFiles, CountsMisses}
use Rattle.asm_front.specs.declared.answers.Assembled.{Assembled}
use Rattle.asm_front.specs.declared.answers.AsmFault.{AsmFault}
use Rattle.asm_front.proofs.AnswerLemmas.{answered, never_falls}

-- THE ASSEMBLY

-- a source that is not too large is assembled by its text
small_source : (flags : Flags) (contents : Contents) (name source : List ℕ) → length source ≤ most_bytes
    → assembly_by flags name (expansion_of flags (Some contents) name source) ≡ assembly_of flags contents name source
unfolding assembly_of
small_source flags contents name source few =
    let test : nat_lt most_bytes (length source) ≡ false = grind (arith, nat_tests) in
    ap (λ b. cond b (faulty (too_large main_file) (shown_files name [])) (assembly_by flags name (expansion_of flags (Some contents) name source))) (sym test)

large_source : (flags : Flags) (contents : Contents) (name source : List ℕ) → most_bytes < length source
    → assembly_of flags contents name source ≡ faulty (too_large main_file) (shown_files name [])
unfolding assembly_of
large_source flags contents name source much =
    let test : nat_lt most_bytes (length source) ≡ true = grind (arith, nat_tests) in
    ap (λ b. cond b (faulty (too_large main_file) (shown_files name [])) (assembly_by flags name (expansion_of flags (Some contents) name source))) test

-- what comes of a source is known unless it is untold
known_is : (flags : Flags) (name : List ℕ) (came : Step FollowedSource FaultAt) → (came ≡ untold → ⊥) → known_by flags name came ≡ Some (assembly_by flags name came)
known_is flags name (ended files f) never = refl
known_is flags name (fails files cause pos f) never = refl
known_is flags name (refused files fault) never = refl
known_is flags name (misses files) never = refl
known_is flags name (goes state f) never = refl
known_is flags name untold never = absurd (never refl)

-- where contents are known, no source is untold
abbrev pub Never : Type 0
Never = (flags : Flags) (contents : Contents) (name source : List ℕ) → expansion_of flags (Some contents) name source ≡ untold → ⊥

-- the text that was read whole is that of the file
pub text_of_file : Never → (flags : Flags) (contents : Contents) (name text bytes : List ℕ) → text ≡ bytes → length bytes ≤ most_bytes
    → text_assembly flags (Some contents) name text ≡ Some (assembly_of flags contents name bytes)
text_of_file never flags contents name text bytes same few =
    known_is flags name (expansion_of flags (Some contents) name text) (never flags contents name text)
    ∙ ap Some (ap (λ t. assembly_by flags name (expansion_of flags (Some contents) name t)) same ∙ small_source flags contents name bytes few)

-- a text that is given is assembled by what comes of it, unless it is too large
pub small_given : (flags : Flags) (text : List ℕ) → length text ≤ most_bytes → text_assembly flags None [] text ≡ given_assembly flags text
unfolding given_assembly
small_given flags text few =
    let test : nat_lt most_bytes (length text) ≡ false = grind (arith, nat_tests) in
    ap (λ b. cond b (Some (faulty (too_large main_file) (shown_files [] []))) (text_assembly flags None [] text)) (sym test)

large_given : (flags : Flags) (text : List ℕ) → most_bytes < length text → given_assembly flags text ≡ Some (faulty (too_large main_file) (shown_files [] []))
unfolding given_assembly
large_given flags text much =
    let test : nat_lt most_bytes (length text) ≡ true = grind (arith, nat_tests) in
    ap (λ b. cond b (Some (faulty (too_large main_file) (shown_files [] []))) (text_assembly flags None [] text)) test

-- this is the whole text of a main source, where that is known
abbrev pub IsRead : Option Contents → MainSource → List ℕ → Option (List ℕ) → Type 0
IsRead (Some contents) main text rest = ReadsFile (source_in contents main) (Ok text) rest
IsRead None (file name) text rest = Unit {0}
IsRead None (given bytes) text rest = (text ≡ bytes) × (length bytes ≤ most_bytes)

-- of a file that was read
pub file_is_read : (contents : Option Contents) (name text : List ℕ) (rest : Option (List ℕ)) → ReadsName contents name (Ok text) rest → IsRead contents (file name) text rest
file_is_read None name text rest read = tt
file_is_read (Some contents) name text rest read = read

-- of a text that is given
pub given_is_read : (contents : Option Contents) (text : List ℕ) → length text ≤ most_bytes → IsRead contents (given text) text (Some [])
given_is_read None text few = (refl, few)
given_is_read (Some contents) text few = (refl, few, refl)

file_read : Never → (flags : Flags) (contents : Contents) (name : List ℕ) (source : Option (List ℕ)) (text : List ℕ) (rest : Option (List ℕ)) (result : Result Assembled AsmFault)
    → ReadsFile source (Ok text) rest → AssemblesText flags (Some contents) name text result → AssemblesFile flags contents name source result
file_read never flags contents name None text rest result read so = absurd read
file_read never flags contents name (Some bytes) text rest result read so =
    subst (λ known. AssemblesKnown known result) (text_of_file never flags contents name text bytes read.0 read.1) so

given_read : (flags : Flags) (bytes text : List ℕ) (result : Result Assembled AsmFault) → text ≡ bytes → length bytes ≤ most_bytes → AssemblesText flags None [] text result
    → AssemblesKnown (given_assembly flags bytes) result
given_read flags bytes text result same few so =
    subst (λ known. AssemblesKnown known result) (small_given flags bytes few) (subst (λ t. AssemblesText flags None [] t result) same so)

-- a text that was read whole is assembled
pub text_read : Never → (flags : Flags) (contents : Option Contents) (main : MainSource) (text : List ℕ) (rest : Option (List ℕ)) (result : Result Assembled AsmFault)
    → IsRead contents main text rest → AssemblesText flags contents (name_of main) text result → Assembles flags contents main result
text_read never flags None (file name) text rest result read so = tt
text_read never flags None (given bytes) text rest result read so = given_read flags bytes text result read.0 read.1 so
text_read never flags (Some contents) main text rest result read so = file_read never flags contents (name_of main) (source_in contents main) text rest result read so

file_too_large : (flags : Flags) (contents : Contents) (name : List ℕ) (source : Option (List ℕ)) (rest : Option (List ℕ)) (result : Result Assembled AsmFault)
    → ReadsFile source (Err TooLarge) rest → IsAnswered (faulty (too_large main_file) (shown_files name [])) result → AssemblesFile flags contents name source result
file_too_large flags contents name None rest result read so = absurd read
file_too_large flags contents name (Some bytes) rest result read so =
    subst (λ assembly. AssemblesAs assembly result) (sym (large_source flags contents name bytes read)) (answered _ result so)

-- a main source is too large, where that is known
abbrev pub IsLarge : Option Contents → MainSource → Option (List ℕ) → Type 0
IsLarge (Some contents) main rest = ReadsFile (source_in contents main) (Err TooLarge) rest
IsLarge None (file name) rest = Unit {0}
IsLarge None (given text) rest = most_bytes < length text

pub file_is_large : (contents : Option Contents) (name : List ℕ) (rest : Option (List ℕ)) → ReadsName contents name (Err TooLarge) rest → IsLarge contents (file name) rest
file_is_large None name rest read = tt
file_is_large (Some contents) name rest read = read

pub given_is_large : (contents : Option Contents) (text : List ℕ) → most_bytes < length text → IsLarge contents (given text) None
given_is_large None text much = much
given_is_large (Some contents) text much = much

-- a main source that is too large is refused so
pub text_too_large : (flags : Flags) (contents : Option Contents) (main : MainSource) (rest : Option (List ℕ)) (result : Result Assembled AsmFault)
    → IsLarge contents main rest → IsAnswered (faulty (too_large main_file) (shown_files (name_of main) [])) result → Assembles flags contents main result
text_too_large flags None (file name) rest result large so = tt
text_too_large flags None (given text) rest result large so =
    subst (λ known. AssemblesKnown known result) (sym (large_given flags text large)) (answered (faulty (too_large main_file) (shown_files [] [])) result so)
text_too_large flags (Some contents) main rest result large so = file_too_large flags contents (name_of main) (source_in contents main) rest result large so

-- FILES THAT ARE NOT THERE

file_not_there : (flags : Flags) (contents : Contents) (name : List ℕ) (source : Option (List ℕ)) (before now : ℕ) → CountsFile source before now → CountsMissingFiles flags contents name source before now
file_not_there flags contents name None before now counts = counts
file_not_there flags contents name (Some source) before now counts = inl counts

-- where the source alone was started, the count is that of its start
pub source_missed : (flags : Flags) (contents : Option Contents) (name : List ℕ) (before now : ℕ) → CountsMissing contents name before now → CountsMisses flags contents (file name) before now
source_missed flags None name before now counts = counts
source_missed flags (Some contents) name before now counts = file_not_there flags contents name (contents name) before now counts

of_text : (known whole : Option Assembly) (before between now : ℕ) → known ≡ whole → between ≡ before → CountsKnown known between now → CountsKnown whole before now
of_text known whole before between now is same counts = subst (λ a. CountsKnown a before now) is (subst (λ n. CountsKnown known n now) same counts)

file_missed : Never → (flags : Flags) (contents : Contents) (name : List ℕ) (source : Option (List ℕ)) (text : List ℕ) (rest : Option (List ℕ)) (before between now : ℕ)
    → ReadsFile source (Ok text) rest → CountsFile source before between → CountsText flags (Some contents) name text between now → CountsMissingFiles flags contents name source before now
file_missed never flags contents name None text rest before between now read first counts = absurd read
file_missed never flags contents name (Some bytes) text rest before between now read first counts =
    of_text _ (Some (assembly_of flags contents name bytes)) before between now (text_of_file never flags contents name text bytes read.0 read.1) first counts

-- behind the start of the source, files that it starts count too
pub text_missed_there : Never → (flags : Flags) (contents : Option Contents) (name text : List ℕ) (rest : Option (List ℕ)) (before between now : ℕ)
    → ReadsName contents name (Ok text) rest → CountsMissing contents name before between → CountsText flags contents name text between now → CountsMisses flags contents (file name) before now
text_missed_there never flags None name text rest before between now read first counts =
    let later : between ≤ now = never_falls (text_assembly flags None name text) between now counts in omega (arith, first, later)
text_missed_there never flags (Some contents) name text rest before between now read first counts =
    file_missed never flags contents name (contents name) text rest before between now read first counts

-- so do those that a text starts that is given
pub given_missed : Never → (flags : Flags) (contents : Option Contents) (text : List ℕ) (before now : ℕ) → length text ≤ most_bytes → CountsText flags contents [] text before now
    → CountsMisses flags contents (given text) before now
given_missed never flags None text before now few counts = of_text _ (given_assembly flags text) before before now (small_given flags text few) refl counts
given_missed never flags (Some contents) text before now few counts =
    of_text _ (Some (assembly_of flags contents [] text)) before before now (text_of_file never flags contents [] text text refl few) refl counts
