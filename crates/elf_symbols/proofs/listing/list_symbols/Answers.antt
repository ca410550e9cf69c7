-- The parts of the table are counted.
use Rattle.std.proofs.Common.{◌≡◌, ◌+◌, ◌<◌, ◌++◌, true, List, length, map, ◌∙◌, ap, sym, refl, arith, rules, length-append}
use Rattle.std.proofs.lemmas.List.{length-map}
use Rattle.asm_frags.specs.Groups.{groups_of}
use Rattle.elf_symbols.specs.Numbers.{first_section_symbol, first_local, first_signature, first_other, section_numbers, symbol_numbers, symbol_numbers_of, group_numbers}
use Rattle.elf_symbols.specs.SymbolTable.{file_entry, section_entries, part, listed_all, standings, own_signatures}
use Rattle.elf_symbols.specs.Views.{symbol_view, named_view}
use Rattle.elf_symbols.proofs.listing.list_symbols.Goals as goal

pub group_numbers-requires : goal.group_numbers-requires
group_numbers-requires c =
    let small = c.put_symbols.new.locals.small in
    let count = c.len-first_signature.ensures in
    omega (arith, small, count)

other_is : (c : goal.After-drop-others-2) → 1 + c.len-first_other.result ≡ first_other c.args.at.symbols.now c.args.at.sections.now (named_view c.args.named.now)
other_is c =
    let symbols = c.args.at.symbols.now in
    let sections = c.args.at.sections.now in
    let named = named_view c.args.named.now in
    let all = listed_all symbols sections named in
    let files = map file_entry symbols.files in
    let own = section_entries 0 named.sections in
    let whole : map symbol_view c.put_signatures.new.out.items ≡ files ++ own ++ part true all ++ own_signatures symbols sections named = search rules in
    let long = sym (length-map c.put_signatures.new.out.items symbol_view) ∙ ap length whole in
    let count = c.len-first_other.ensures in
    omega (
      arith,
      long,
      count,
      length-append (files ++ own ++ part true all) (own_signatures symbols sections named),
      length-append (files ++ own) (part true all),
      length-append files own,
      length-map symbols.files file_entry,
    )

signature_is : (c : goal.After-drop-others-2) → 1 + c.len-first_signature.result ≡ first_signature c.args.at.symbols.now c.args.at.sections.now (named_view c.args.named.now)
signature_is c =
    let symbols = c.args.at.symbols.now in
    let sections = c.args.at.sections.now in
    let named = named_view c.args.named.now in
    let all = listed_all symbols sections named in
    let files = map file_entry symbols.files in
    let own = section_entries 0 named.sections in
    let whole : map symbol_view c.put_symbols.new.locals.items ≡ files ++ own ++ part true all = search rules in
    let long = sym (length-map c.put_symbols.new.locals.items symbol_view) ∙ ap length whole in
    let count = c.len-first_signature.ensures in
    omega (arith, long, count, length-append (files ++ own) (part true all), length-append files own, length-map symbols.files file_entry)

section_is : (c : goal.After-drop-others-2) → 1 + c.len-first_section.result ≡ first_section_symbol c.args.at.symbols.now
section_is c =
    let symbols = c.args.at.symbols.now in
    let whole : map symbol_view c.put_files.new.out.items ≡ map file_entry symbols.files = search rules in
    let long = sym (length-map c.put_files.new.out.items symbol_view) ∙ ap length whole in
    let count = c.len-first_section.ensures in
    omega (arith, long, count, length-map symbols.files file_entry)

local_is : (c : goal.After-drop-others-2) → 1 + c.len-first_local.result ≡ first_local c.args.at.symbols.now (named_view c.args.named.now)
local_is c =
    let symbols = c.args.at.symbols.now in
    let named = named_view c.args.named.now in
    let files = map file_entry symbols.files in
    let own = section_entries 0 named.sections in
    let whole : map symbol_view c.put_sections.new.out.items ≡ files ++ own = search rules in
    let long = sym (length-map c.put_sections.new.out.items symbol_view) ∙ ap length whole in
    let count = c.len-first_local.ensures in
    omega (arith, long, count, length-append files own, length-map symbols.files file_entry)

pub returns-clause-first_other : goal.returns-clause-first_other
returns-clause-first_other c = other_is c

pub returns-clause-numbers : goal.returns-clause-numbers
returns-clause-numbers c =
    let symbols = c.args.at.symbols.now in
    let sections = c.args.at.sections.now in
    let named = named_view c.args.named.now in
    let stand : c.in_ok-standings.standings.items ≡ standings symbols sections named = search rules in
    let section_made : c.in_ok-section_numbers.field-0.items ≡ section_numbers (1 + c.len-first_section.result) named.sections = search rules in
    let section_ones = section_made ∙ ap (λ n. section_numbers n named.sections) (section_is c) in
    let symbol_made : c.in_ok-own_numbers.own_numbers.items ≡ symbol_numbers (1 + c.len-first_local.result) (1 + c.len-first_other.result) c.in_ok-standings.standings.items = search rules in
    let symbol_ones : c.in_ok-own_numbers.own_numbers.items ≡ symbol_numbers_of symbols sections named =
    symbol_made ∙ ap (λ n. symbol_numbers n (1 + c.len-first_other.result) c.in_ok-standings.standings.items) (local_is c)
    ∙ ap (λ n. symbol_numbers (first_local symbols named) n c.in_ok-standings.standings.items) (other_is c)
    ∙ ap (symbol_numbers (first_local symbols named) (first_other symbols sections named)) stand in
    let group_made : c.in_ok-groups.groups.items
    ≡ group_numbers symbols c.in_ok-standings.standings.items c.in_ok-own_numbers.own_numbers.items (1 + c.len-first_signature.result) (groups_of sections) = search rules in
    let group_ones = group_made ∙ ap (λ all. group_numbers symbols all c.in_ok-own_numbers.own_numbers.items (1 + c.len-first_signature.result) (groups_of sections)) stand
    ∙ ap (λ ns. group_numbers symbols (standings symbols sections named) ns (1 + c.len-first_signature.result) (groups_of sections)) symbol_ones
    ∙ ap (λ n. group_numbers symbols (standings symbols sections named) (symbol_numbers_of symbols sections named) n (groups_of sections)) (signature_is c) in
    rw (section_ones, symbol_ones, group_ones) refl
