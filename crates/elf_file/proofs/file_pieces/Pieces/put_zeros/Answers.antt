-- No zeros are no bytes.
use Rattle.std.proofs.Common.{[], ◌∷◌, ◌++◌, List, ℕ, sym, ap, ◌∙◌, append-nil}
use Rattle.item_contents.specs.Contents.{repeated}
use Rattle.elf_file.proofs.Repeats.{repeated_none}
use Rattle.elf_file.proofs.file_pieces.Pieces.put_zeros.Goals as goal

pub returns-then-count-eq0 : goal.returns-then-count-eq0
returns-then-count-eq0 c =
    sym (ap (λ n. c.args.self.now ++ repeated n (0 ∷ [])) c.if-count-eq0.true ∙ ap (λ (xs : List ℕ). c.args.self.now ++ xs) (repeated_none (0 ∷ [])) ∙ append-nil c.args.self.now)
