-- Behind the blocks stands the front of one.
use Rattle.std.proofs.Common.{◌++◌, [], List, ℕ, take, sym, ap, ◌∙◌, append-nil}
use Rattle.item_contents.specs.Contents.{repeated}
use Rattle.elf_file.proofs.ObjectLemmas.{front_written}
use Rattle.elf_file.proofs.writing.write_repetition.Goals as goal

pub returns-clause-prefix : goal.returns-clause-prefix
returns-clause-prefix g c =
    let block = c.fill-size.new.block in
    let blocks = repeated c.fill-size.result.count (take c.fill-size.result.size block) in
    let last = take c.fill-size.result.rest block in
    let front = c.write_bytes.ensures.prefix in
    front_written c.args.held.now blocks last [] front.0 _ _ _ (c.fill-size.ensures.bytes ∙ ap (λ (xs : List ℕ). blocks ++ xs) (sym (append-nil last))) front.1
    c.in_ok-write_repeated.ensures.ok front.2
