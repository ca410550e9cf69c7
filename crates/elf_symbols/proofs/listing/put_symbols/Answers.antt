-- One more entry.
use Rattle.std.proofs.Common.{◌≡◌, ◌+◌, true, false, ap, [], ◌∷◌, Option, get_or, drop, map, option_map, subst, rules}
use Rattle.elf_symbols.specs.declared.numbers.Standing.{Standing}
use Rattle.elf_symbols.specs.SymbolTable.{standing_of, SymbolEntry, PutsPart, listed, listed_by, part}
use Rattle.elf_symbols.specs.Views.{symbol_view}
use Rattle.elf_symbols.proofs.LoopSteps.{all_pushed, listed_next, listed_none, part_put, standing_put}
use Rattle.elf_symbols.proofs.listing.put_symbols.Goals as goal

pub loop-index-preserved : goal.loop-index-preserved
loop-index-preserved c =
    let symbols = c.args.at.symbols.now in
    let sections = c.args.at.sections.now in
    let marks = c.args.marks.now in
    let threads = c.args.threads.now in
    let all = c.args.symbols.now in
    let i = c.loop-index.index in
    let mark = get_or marks i false in
    let thread = get_or threads i false in
    let symbol = c.index-symbols-index.result in
    let one = listed symbols sections mark thread symbol in
    let left = listed_by symbols sections (drop i marks) (drop i threads) (drop i all) in
    let next = listed_by symbols sections (drop (i + 1) marks) (drop (i + 1) threads) (drop (i + 1) all) in
    let front = listed_next symbols sections marks threads all i mark thread symbol c.requires.marks c.requires.threads c.loop-index-test.true (search rules) (search rules) c.index-symbols-index.is in
    let locals = c.loop-index.locals.items in
    let others = c.loop-index.others.items in
    let locals_put = subst (λ (o : Option SymbolEntry). PutsPart true (o ∷ []) (map symbol_view locals) (map symbol_view c.put_listed.new.locals.items)) c.in_ok-one.ensures
    c.in_ok-put_listed.ensures.locals in
    let others_put = subst (λ (o : Option SymbolEntry). PutsPart false (o ∷ []) (map symbol_view others) (map symbol_view c.put_listed.new.others.items)) c.in_ok-one.ensures
    c.in_ok-put_listed.ensures.others in
    let standing = subst (λ (o : Option SymbolEntry). c.in_ok-put_listed.field-0 ≡ standing_of o) c.in_ok-one.ensures c.in_ok-put_listed.ensures.standing in
    record {
      locals = part_put true (map symbol_view locals) (map symbol_view c.put_listed.new.locals.items) one left next _ locals_put front c.loop-index.invariant.locals;
      others = part_put false (map symbol_view others) (map symbol_view c.put_listed.new.others.items) one left next _ others_put front c.loop-index.invariant.others;
      standings =
          standing_put c.loop-index.standings.items c.push.new.self.items c.in_ok-put_listed.field-0 one left next _ standing c.in_ok-push.ensures.items front
          c.loop-index.invariant.standings;
    }

pub returns : goal.returns
returns c =
    let symbols = c.args.at.symbols.now in
    let sections = c.args.at.sections.now in
    let marks = c.args.marks.now in
    let threads = c.args.threads.now in
    let all = c.args.symbols.now in
    let i = c.loop-index.index in
    let left = listed_by symbols sections (drop i marks) (drop i threads) (drop i all) in
    let none = listed_none symbols sections marks threads all i c.requires.marks c.loop-index-test.false in
    record {
      locals = all_pushed (map symbol_view c.loop-index.locals.items) (part true left) _ (ap (part true) none) c.loop-index.invariant.locals;
      others = all_pushed (map symbol_view c.loop-index.others.items) (part false left) _ (ap (part false) none) c.loop-index.invariant.others;
      standings = all_pushed c.loop-index.standings.items (map standing_of left) _ (ap (map standing_of) none) c.loop-index.invariant.standings;
    }
