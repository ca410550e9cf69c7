-- No section is entered with the type of a group of sections.
use Rattle.std.proofs.Common.{◌≡◌, ◌≢◌, ℕ, Bool, true, false, cond, List, Option, None, Some, All, codes, arith, refl, slice_get, option_and_then}
use Rattle.std.specs.Str.{bytes_eq}
use Rattle.std.specs.List.{starts_with}
use Rattle.std.specs.Prelude.{nat_eq}
use Rattle.asm_operands.specs.declared.place_faults.PlaceCause.TheVariants.{BadSection}
use Rattle.asm_operands.specs.Results.{if_some}
use Rattle.asm_frags.specs.SectionOf.{section_number}
use Rattle.asm_frags.specs.Writing.{LooseSection}
use Rattle.asm_words.specs.declared.section_defaults.DefaultHeader.{DefaultHeader}
use Rattle.asm_words.specs.SectionDefaults.{is_under, is_code, is_constant, note_header, array_header, thread_header, default_header}
use Rattle.asm_words.specs.SectionWords.{SectionWords, said_flags, said_kind}
use Rattle.asm_declarations.specs.SectionChanges.{section_named, flags_by, kind_by, entry_size_by, header_by}
use Rattle.asm_place.specs.SourceSizes.{IsNoGroup}
use Rattle.asm_place.proofs.GrowthLemmas.{All-there}
use Rattle.asm_place.proofs.Walks.{Fine, made, refused, step, after, either}

-- the type that is said by its name
kind_said : (name : List ℕ) → Fine (λ kind. kind ≢ 17) (said_kind name)
unfolding said_kind
kind_said name =
    either (bytes_eq name (codes "progbits")) (made 1 (λ same. omega (arith, same)))
    (either (bytes_eq name (codes "note")) (made 7 (λ same. omega (arith, same)))
    (either (bytes_eq name (codes "nobits")) (made 8 (λ same. omega (arith, same)))
    (either (bytes_eq name (codes "init_array")) (made 14 (λ same. omega (arith, same)))
    (either (bytes_eq name (codes "fini_array")) (made 15 (λ same. omega (arith, same)))
    (either (bytes_eq name (codes "preinit_array")) (made 16 (λ same. omega (arith, same))) (refused BadSection))))))

-- of a type that may be missing
abbrev IsOther : Option ℕ → Type 0
IsOther None = Unit {0}
IsOther (Some kind) = kind ≢ 17

said_if : (name : Option (List ℕ)) → Fine IsOther (if_some said_kind name)
said_if None = made None tt
said_if (Some name) = step (kind_said name) (λ kind other. made (Some kind) other)

-- either of two headers
by_test : (test : Bool) (one last : DefaultHeader) → one.kind ≢ 17 → last.kind ≢ 17 → (cond test one last).kind ≢ 17
by_test true one last is other = is
by_test false one last is other = other

-- the type that the name says
by_name : (name : List ℕ) → (default_header name).kind ≢ 17
unfolding default_header thread_header array_header note_header
by_name name =
    by_test (is_code name) _ _ (λ same. omega (arith, same))
    (by_test (is_under (codes ".data") name) _ _ (λ same. omega (arith, same))
    (by_test (is_under (codes ".bss") name) _ _ (λ same. omega (arith, same))
    (by_test (is_constant name) _ _ (λ same. omega (arith, same))
    (by_test (is_under (codes ".tdata") name) _ _ (λ same. omega (arith, same))
    (by_test (is_under (codes ".tbss") name) _ _ (λ same. omega (arith, same))
    (by_test (is_under (codes ".init_array") name) _ _ (λ same. omega (arith, same))
    (by_test (is_under (codes ".fini_array") name) _ _ (λ same. omega (arith, same))
    (by_test (is_under (codes ".preinit_array") name) _ _ (λ same. omega (arith, same))
    (by_test (bytes_eq name (codes ".note.GNU-stack")) _ _ (λ same. omega (arith, same))
    (by_test (starts_with nat_eq name (codes ".note")) _ _ (λ same. omega (arith, same)) (λ same. omega (arith, same))))))))))))

-- the section of a name, if it is there
abbrev IsOtherThere : Option LooseSection → Type 0
IsOtherThere None = Unit {0}
IsOtherThere (Some section) = IsNoGroup section

at_number : (sections : List LooseSection) (number : ℕ) (found : Option LooseSection) → slice_get sections number ≡ found → All IsNoGroup sections → IsOtherThere found
at_number sections number None there all = tt
at_number sections number (Some section) there all = All-there IsNoGroup sections number section there all

at_name : (sections : List LooseSection) (number : Option ℕ) → All IsNoGroup sections → IsOtherThere (option_and_then (λ n. slice_get sections n) number)
at_name sections None all = tt
at_name sections (Some number) all = at_number sections number (slice_get sections number) refl all

-- the type of a header
by_either : (kind : Option ℕ) (there : Option LooseSection) (name : List ℕ) → IsOther kind → IsOtherThere there → kind_by kind there name ≢ 17
by_either (Some kind) there name said was = said
by_either None (Some section) name said was = was
by_either None None name said was = by_name name

pub headed : (sections : List LooseSection) (words : SectionWords) (size : Option ℕ)
    → Fine (λ header. All IsNoGroup sections → header.kind ≢ 17) (header_by sections words size)
unfolding header_by
headed sections words size =
    let there = section_named sections words.name in
    after (if_some said_flags words.flags) (λ flags. step (said_if words.kind)
    (λ kind other. after (entry_size_by words.flags size there)
    (λ entry_size. made (record { flags = flags_by flags there words.name; kind = kind_by kind there words.name; entry_size = entry_size })
    (λ all. by_either kind there words.name other (at_name sections (section_number words.name sections) all)))))
