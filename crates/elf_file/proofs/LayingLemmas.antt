-- Sections, laid out one behind the other.
use Rattle.std.proofs.Common.{◌≡◌, ℕ, ◌+◌, ◌-◌, ◌*◌, ◌<◌, ◌≤◌, All, List, [], ◌∷◌, ◌++◌, map, length, get_or, drop, refl, sym, ap, ◌∙◌, subst, arith, append_assoc, length-append}
use Rattle.std.proofs.lemmas.List.{drop_more, length-map}
use Rattle.std.proofs.lemmas.List.Elements.{All-nil, All-cons, All-head, All-tail}
use Rattle.std.specs.Global.{Vec}
use Rattle.std.specs.Prelude.{codes}
use Rattle.item_contents.specs.Contents.{repeated}
use Rattle.elf_file.proofs.Repeats.{repeated-one, length-repeated}
use Rattle.elf_file.specs.declared.sections.FileSection.{FileSection}
use Rattle.elf_file.specs.Fields.{half, word, xword}
use Rattle.elf_file.specs.Image.{null_header, next_multiple, gap, body_from, bodies_from, header_from, headers_from, header_end, header_table, elf_header, file_of, all_names, with_names, file_with}
use Rattle.elf_file.specs.Limits.{EntryFits}
use Rattle.elf_file.specs.Sections.{SectionEntry, string_section}
use Rattle.elf_file.specs.StringTable.{name_offsets, string_table_of}
use Rattle.elf_file.specs.Views.{section_view}

-- zeros up to a multiple are a gap
pub gap_put : (old new : List ℕ) (alignment at end : ℕ) → new ≡ old ++ repeated (end - at) (0 ∷ []) → end ≡ next_multiple alignment at → new ≡ old ++ gap alignment at
gap_put old new alignment at end put is = rw (put, is, repeated-one) refl

-- where the gap ends
pub gap_ends : (old new : List ℕ) (at end : ℕ) → at ≤ end → at ≡ header_end + length old → new ≡ old ++ repeated (end - at) (0 ∷ []) → end ≡ header_end + length new
gap_ends old new at end behind begins put =
    let long : length new ≡ length old + (end - at) * 1 = ap length put ∙ length-append old (repeated (end - at) (0 ∷ [])) ∙ ap (λ n. length old + n) (length-repeated (end - at) (0 ∷ [])) in
    omega arith

-- where the body ends
end_of : (old new body : List ℕ) (at end : ℕ) → at ≡ header_end + length old → end ≡ header_end + length new → new ≡ old ++ body → end ≡ at + length body
end_of old new body at end begins ends more =
    let long : length new ≡ length old + length body = ap length more ∙ length-append old body in
    omega arith

-- the body of the first section stands, and the others are left
body_step : (old new whole : List ℕ) (at end : ℕ) (s : SectionEntry) (ss : List SectionEntry) → at ≡ header_end + length old → end ≡ header_end + length new
    → new ≡ old ++ body_from at s → old ++ bodies_from at (s ∷ ss) ≡ whole → new ++ bodies_from end ss ≡ whole
body_step old new whole at end s ss begins ends more left =
    let body = body_from at s in
    let there : end ≡ at + length body = end_of old new body at end begins ends more in
    rw (there, more) (append_assoc old body (bodies_from (at + length body) ss)) ∙ left

header_step : (old new oldh newh whole : List ℕ) (at end name : ℕ) (names : List ℕ) (s : SectionEntry) (ss : List SectionEntry) → at ≡ header_end + length old
    → end ≡ header_end + length new → new ≡ old ++ body_from at s → newh ≡ oldh ++ header_from at name s → oldh ++ headers_from at (name ∷ names) (s ∷ ss) ≡ whole
    → newh ++ headers_from end names ss ≡ whole
header_step old new oldh newh whole at end name names s ss begins ends more written left =
    let body = body_from at s in
    let there : end ≡ at + length body = end_of old new body at end begins ends more in
    rw (there, written) (append_assoc oldh (header_from at name s) (headers_from (at + length body) names ss)) ∙ left

-- a section of the program is laid out
pub laid_step : (names : List ℕ) (index at end d : ℕ) (old new oldh newh whole wholeh : List ℕ) (section : FileSection) (rest more : List FileSection)
    → rest ≡ section ∷ more → index < length names → at ≡ header_end + length old → end ≡ header_end + length new
    → new ≡ old ++ body_from at (section_view section) → newh ≡ oldh ++ header_from at (get_or names index d) (section_view section)
    → old ++ bodies_from at (map section_view rest) ≡ whole → oldh ++ headers_from at (drop index names) (map section_view rest) ≡ wholeh
    → (new ++ bodies_from end (map section_view more) ≡ whole) × (newh ++ headers_from end (drop (index + 1) names) (map section_view more) ≡ wholeh)
laid_step names index at end d old new oldh newh whole wholeh section rest more is inside begins ends body header left lefth =
    let first : old ++ bodies_from at (section_view section ∷ map section_view more) ≡ whole = ap (λ (ss : List FileSection). old ++ bodies_from at (map section_view ss)) (sym is) ∙ left in
    let second : oldh ++ headers_from at (get_or names index d ∷ drop (index + 1) names) (section_view section ∷ map section_view more) ≡ wholeh =
    ap (λ (ns : List ℕ). oldh ++ headers_from at ns (section_view section ∷ map section_view more)) (sym (drop_more names index d inside))
    ∙ ap (λ (ss : List FileSection). oldh ++ headers_from at (drop index names) (map section_view ss)) (sym is) ∙ lefth in (
      body_step old new whole at end (section_view section) (map section_view more) begins ends body first,
      header_step old new oldh newh wholeh at end (get_or names index d) (drop (index + 1) names) (section_view section) (map section_view more) begins ends body header second,
    )

-- the file by its parts
file_parts : (names : List ℕ) (entries : List SectionEntry) (header bodies table : List ℕ) (end count : ℕ) → header ≡ elf_header end count → end ≡ header_end + length bodies
    → count ≡ 1 + length entries → bodies ≡ bodies_from header_end entries → table ≡ header_table names entries → header ++ (bodies ++ table) ≡ file_of names entries
unfolding file_of elf_header header_table half word xword null_header
file_parts names entries header bodies table end count is ends counts filled listed = rw (is, ends, counts, filled, listed) refl

pub map_push : (sections : List FileSection) (last : FileSection) → map section_view (sections ++ last ∷ []) ≡ map section_view sections ++ section_view last ∷ []
map_push [] last = refl
map_push (s ∷ ss) last = ap (λ (xs : List SectionEntry). section_view s ∷ xs) (map_push ss last)

-- the file of sections, and last the table of their names
pub file_made : (sections shown pushed : List FileSection) (last : FileSection) (names header bytes pieces all : List ℕ) (table : Vec ℕ) (end count : ℕ)
    → shown ≡ sections → bytes ≡ string_table_of (all_names (map section_view shown)) → names ≡ name_offsets (all_names (map section_view shown))
    → section_view last ≡ string_section (codes ".shstrtab") bytes → pushed ≡ sections ++ last ∷ [] → count ≡ length pushed + 1 → header ≡ elf_header end count
    → end ≡ header_end + length pieces → pieces ≡ bodies_from header_end (map section_view pushed) → table.items ≡ header_table names (map section_view pushed)
    → all ≡ pieces ++ table.items → header ++ all ≡ file_with (map section_view sections)
unfolding with_names file_with
file_made sections shown pushed last names header bytes pieces all table end count same texts offsets names_last more counts begins ends bodies headers put =
    let entries = map section_view pushed in
    let before = map section_view sections in
    let view : map section_view shown ≡ before = ap (map section_view) same in
    let text : bytes ≡ string_table_of (all_names before) = texts ∙ ap (λ (ss : List SectionEntry). string_table_of (all_names ss)) view in
    let place : names ≡ name_offsets (all_names before) = offsets ∙ ap (λ (ss : List SectionEntry). name_offsets (all_names ss)) view in
    let whole : entries ≡ with_names before =
    ap (λ (xs : List FileSection). map section_view xs) more ∙ map_push sections last
    ∙ ap (λ (s : SectionEntry). before ++ s ∷ []) (names_last ∙ ap (λ (bs : List ℕ). string_section (codes ".shstrtab") bs) text) in
    let long : length entries ≡ length pushed = length-map pushed section_view in
    let first : header ++ all ≡ header ++ (pieces ++ table.items) = ap (λ (xs : List ℕ). header ++ xs) put in
    let second : header ++ (pieces ++ table.items) ≡ file_of names entries =
    file_parts names entries header pieces table.items end count begins ends (omega arith) bodies headers in
    let third : file_of names entries ≡ file_of (name_offsets (all_names before)) (with_names before) =
    ap (λ (ns : List ℕ). file_of ns entries) place ∙ ap (λ (ss : List SectionEntry). file_of (name_offsets (all_names before)) ss) whole in
    first ∙ second ∙ third

-- where the numbers of a section fit, and those of the sections after it, so do those of all that are left
pub numbers_step : (section : FileSection) (rest more all : List FileSection) → rest ≡ section ∷ more → EntryFits (section_view section)
    → (All EntryFits (map section_view rest) → All EntryFits (map section_view all)) → All EntryFits (map section_view more) → All EntryFits (map section_view all)
numbers_step section rest more all is one before later =
    before (subst (λ (ss : List FileSection). All EntryFits (map section_view ss)) (sym is) (All-cons EntryFits (section_view section) (map section_view more) one later))

-- no section is left
pub numbers_end : (rest all : List FileSection) → length rest ≡ 0 → (All EntryFits (map section_view rest) → All EntryFits (map section_view all)) → All EntryFits (map section_view all)
numbers_end [] all none before = before (All-nil EntryFits)
numbers_end (s ∷ ss) all none before = absurd (omega arith)

-- the numbers of the sections before the last one fit
pub numbers_before : (sections pushed : List FileSection) (last : FileSection) → pushed ≡ sections ++ last ∷ [] → All EntryFits (map section_view pushed)
    → All EntryFits (map section_view sections)
numbers_before sections pushed last more all = front sections (subst (λ (ss : List FileSection). All EntryFits (map section_view ss)) more all)
  where
    front : (ss : List FileSection) → All EntryFits (map section_view (ss ++ last ∷ [])) → All EntryFits (map section_view ss)
    front [] fit = All-nil EntryFits
    front (s ∷ ss) fit =
        let rest = map section_view (ss ++ last ∷ []) in
        All-cons EntryFits (section_view s) (map section_view ss) (All-head EntryFits (section_view s) rest fit) (front ss (All-tail EntryFits (section_view s) rest fit))
