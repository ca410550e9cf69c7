-- The files that a source starts: on every answer the first of them were read.
use Rattle.std.proofs.Common.{◌≡◌, ℕ, suc, ◌+◌, ◌≤◌, List, [], ◌∷◌, ◌++◌, drop, length, take, Option, None, Some, Result, Ok, Err, refl, sym, ap, ◌∙◌, subst, append_assoc, append-nil, arith}
use Rattle.asm_base.specs.History.{FileEvent, HappensInFront, happened, whole_file, whole_files}
use Rattle.asm_base.specs.Inputs.{Contents}
use Rattle.asm_base.specs.WholeFile.{most_bytes, ReadsFile, ReadsName, TakesBytes}
use Rattle.asm_base.specs.declared.reading.TextFault.{TextFault}
use Rattle.asm_base.specs.declared.reading.TextFault.TheVariants as reading
use Rattle.asm_lines.specs.Statements.{statements_of}
use Rattle.asm_macro.specs.Expanding.{StartsIncludes}
use Rattle.asm_macro.specs.Placing.{Step, goes, ended, fails, refused, misses, untold, expansion}
use Rattle.asm_macro.specs.Starts.{AreFirst, IsFront, ReadsFront, files_of}
use Rattle.asm_place.specs.declared.place_faults.FaultAt.{FaultAt}
use Rattle.asm_functions.specs.FollowedSource.{FollowedSource}
use Rattle.asm_front.specs.Sources.{file, given, name_of, source_in, MainSource}
use Rattle.asm_front.specs.Answering.{text_assembly, StartsIncluded, StartsTexts}
use Rattle.asm_front.specs.Assembly.{Assembly, included_by, shown_files, main_file, placed_after, told_of, nothing_yet, ended_by, known_by, expansion_of, assembly_of, main_assembly}
use Rattle.source_ends.specs.Ending.{Flags, followed_end}
use Rattle.asm_front.specs.Outcome.{StartsFiles, StartsFirst, StartsKnown, StartsThese}
use Rattle.source_ends.specs.declared.ending.NotedObject.{NotedObject}
use Rattle.asm_front.proofs.WholeSources.{Never, small_given, text_of_file}

-- THE SOURCE ALONE

-- no files are the first of all
none_first : (flags : Flags) (contents : Contents) (name : List ℕ) (source : Option (List ℕ)) → StartsFirst flags contents name source []
none_first flags contents name None = refl
none_first flags contents name (Some source) = (included_by (assembly_of flags contents name source), refl)

none_known : (known : Option Assembly) → StartsKnown known []
none_known None = tt
none_known (Some assembly) = (included_by assembly, refl)

none_included : (flags : Flags) (contents : Option Contents) (main : MainSource) → StartsThese flags contents main []
none_included flags None main = none_known (main_assembly flags None main)
none_included flags (Some contents) main = none_first flags contents (name_of main) (source_in contents main)

most_taken : (result : Result (List ℕ) TextFault) (before now : ℕ) → TakesBytes result before now → now ≤ before + (most_bytes + 1)
most_taken (Ok source) before now takes = takes.1
most_taken (Err reading.TooLarge) before now takes = takes.2
most_taken (Err reading.Read) before now takes = takes.1
most_taken (Err reading.NoMemory) before now takes = takes.1

-- the source was read, perhaps in part
pub source_starts : (flags : Flags) (contents : Option Contents) (name shown : List ℕ) (result : Result (List ℕ) TextFault) (before now : Option (List FileEvent)) (taken after : ℕ) → shown ≡ name
    → HappensInFront (whole_file shown) before now → TakesBytes result taken after → StartsFiles flags contents (file name) before now taken after
source_starts flags contents name shown result before now taken after same front takes =
    let most = most_taken result taken after takes in
    record {
      included = [];
      these = none_included flags contents (file name);
      reads = record { front = subst (λ n. HappensInFront (whole_file n) before now) same front; whole = omega arith; at_most = omega (arith, most) };
    }

-- THE FILES OF ITS TEXT

front_dropped : (front all : List (List ℕ)) → IsFront front all → IsFront (drop 1 front) (drop 1 all)
front_dropped [] all is = (drop 1 all, refl)
front_dropped (first ∷ rest) all is = (is.0, ap (drop 1) is.1)

by_end : (name : List ℕ) (front files : List (List ℕ)) (answer : Result NotedObject FaultAt) → IsFront front files → IsFront (drop 1 front) (included_by (ended_by (shown_files name files) answer))
by_end name front files (Ok made) is = front_dropped front files is
by_end name front files (Err fault) is = front_dropped front files is

-- the first of the files that a list starts are those of its assembly
first_included : (flags : Flags) (name : List ℕ) (front : List (List ℕ)) (wanted : Step FollowedSource FaultAt) → AreFirst front (files_of wanted)
    → StartsKnown (known_by flags name wanted) (drop 1 front)
first_included flags name front (ended files f) is = by_end name front files (followed_end flags f) is
first_included flags name front (fails files cause pos placed) is = front_dropped front files is
first_included flags name front (refused files fault) is = front_dropped front files is
first_included flags name front (misses files) is = front_dropped front files is
first_included flags name front (goes state placed) is = front_dropped front state.files is
first_included flags name front untold is = tt

module _ (flags : Flags) (name : List ℕ) (text : List ℕ) where
  -- the files that expansion started
  pub text_starts : (contents : Option Contents) (begun files : List (List ℕ)) (start : FollowedSource) (before now : Option (List FileEvent)) (taken after : ℕ) → begun ≡ name ∷ [] → start ≡ nothing_yet flags
      → StartsIncludes (expansion placed_after told_of contents begun start (statements_of main_file text)) 1 files before now taken after → StartsIncluded flags contents name text before now taken after
  unfolding expansion_of
  text_starts contents begun files start before now taken after named empty is =
      let First : List (List ℕ) → FollowedSource → Type 0 = λ names placed. AreFirst is.begun (files_of (expansion placed_after told_of contents names placed (statements_of main_file text))) in
      let first = subst (λ placed. First (name ∷ []) placed) empty (subst (λ names. First names start) named is.first) in
      record {
        included = drop 1 is.begun;
        these = first_included flags name is.begun (expansion placed_after told_of contents (name ∷ []) (nothing_yet flags) (statements_of main_file text)) first;
        reads = is.reads;
      }

  nothing_happened : (known : Option (List FileEvent)) → known ≡ happened known []
  nothing_happened None = refl
  nothing_happened (Some events) = ap Some (sym (append-nil events))

  -- nothing was read
  pub none_starts : (contents : Option Contents) (known : Option (List FileEvent)) (taken : ℕ) → StartsIncluded flags contents name text known known taken taken
  none_starts contents known taken =
      record { included = []; these = none_known (text_assembly flags contents name text); reads = record { front = (0, nothing_happened known); whole = omega arith; at_most = omega arith } }

  -- THE SOURCE WITH THEM

  both_happened : (before : Option (List FileEvent)) (one other : List FileEvent) → happened (happened before one) other ≡ happened before (one ++ other)
  both_happened None one other = refl
  both_happened (Some known) one other = ap Some (append_assoc known one other)

  reads_behind : (names : List (List ℕ)) (before between now : Option (List FileEvent)) (taken middle after : ℕ) → between ≡ happened before (whole_file name) → middle ≤ taken + (most_bytes + 1)
      → ReadsFront names between now middle after → ReadsFront (name ∷ names) before now taken after
  reads_behind names before between now taken middle after first low reads =
      let n = reads.front.0 in
      let few = reads.whole in
      let most = reads.at_most in
      record {
        front = (suc (suc n), reads.front.1 ∙ ap (λ known. happened known (take n (whole_files names))) first ∙ both_happened before (whole_file name) (take n (whole_files names)));
        whole = omega (arith, few);
        at_most = omega (arith, low, most);
      }

  these_of_file : Never → (contents : Contents) (source : Option (List ℕ)) (rest : Option (List ℕ)) (included : List (List ℕ)) → ReadsFile source (Ok text) rest → StartsTexts flags (Some contents) name text included
      → StartsFirst flags contents name source included
  these_of_file never contents None rest included read is = absurd read
  these_of_file never contents (Some bytes) rest included read is =
      subst (λ known. StartsKnown known included) (text_of_file never flags contents name text bytes read.0 read.1) is

  these_of : Never → (contents : Option Contents) (rest : Option (List ℕ)) (included : List (List ℕ)) → ReadsName contents name (Ok text) rest → StartsTexts flags contents name text included
      → StartsThese flags contents (file name) included
  these_of never None rest included read is = tt
  these_of never (Some contents) rest included read is = these_of_file never contents (contents name) rest included read is

  -- the source was read whole, and then the files that it started
  pub all_start : Never → (contents : Option Contents) (rest : Option (List ℕ)) (before between now : Option (List FileEvent)) (taken middle after : ℕ) → ReadsName contents name (Ok text) rest
      → between ≡ happened before (whole_file name) → TakesBytes (Ok text) taken middle → StartsIncluded flags contents name text between now middle after
      → StartsFiles flags contents (file name) before now taken after
  all_start never contents rest before between now taken middle after read first takes is =
      record {
        included = is.included;
        these = these_of never contents rest is.included read is.these;
        reads = reads_behind is.included before between now taken middle after first takes.1 is.reads;
      }

-- TEXTS THAT ARE GIVEN

module _ (flags : Flags) (text : List ℕ) where
  given_these : Never → (contents : Option Contents) (included : List (List ℕ)) → length text ≤ most_bytes → StartsTexts flags contents [] text included
      → StartsThese flags contents (given text) included
  given_these never None included few is = subst (λ known. StartsKnown known included) (small_given flags text few) is
  given_these never (Some contents) included few is = subst (λ known. StartsKnown known included) (text_of_file never flags contents [] text text refl few) is

  -- nothing is started for the text itself
  pub given_start : Never → (contents : Option Contents) (before now : Option (List FileEvent)) (taken after : ℕ) → length text ≤ most_bytes
      → StartsIncluded flags contents [] text before now taken after → StartsFiles flags contents (given text) before now taken after
  given_start never contents before now taken after few is = record { included = is.included; these = given_these never contents is.included few is.these; reads = is.reads }
