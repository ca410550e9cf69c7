-- A name and the byte that ends it.
use Rattle.std.proofs.Common.{◌≡◌, ◌==◌, ℕ, false, List, [], ◌∷◌, ◌++◌, length, sym, ap, ◌∙◌, append_assoc}
use Rattle.elf_file.specs.StringTable.{ended_name}
use Rattle.elf_file.proofs.string_table.put_name.Goals as goal

named : (old name middle new : List ℕ) → (length name == 0) ≡ false → middle ≡ old ++ name → new ≡ middle ++ 0 ∷ [] → new ≡ old ++ ended_name name
named old [] middle new some first last = absurd cc
named old (c ∷ cs) middle new some first last = last ∙ ap (λ xs. xs ++ 0 ∷ []) first ∙ append_assoc old (c ∷ cs) (0 ∷ [])

pub returns-clause-bytes : goal.returns-clause-bytes
returns-clause-bytes c =
    named c.args.bytes.now.items c.args.name.now c.extend_from_slice.new.self.items c.push.new.self.items (sym c.is_empty.ensures ∙ c.if-is_empty.false)
    c.in_ok-extend_from_slice.ensures.items c.in_ok-push.ensures.items
