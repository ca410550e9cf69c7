-- What is held stands behind all repetitions.
use Rattle.std.proofs.Common.{◌≡◌, ◌≤◌, ◌++◌, ℕ, List, length, subst, arith, rules}
use Rattle.std.specs.Prelude.{OnOk}
use Rattle.std.proofs.lemmas.List.{nil_from_length}
use Rattle.elf_file.specs.Pieces.{mixed, held_before}
use Rattle.elf_object.proofs.MixedLemmas.{held_more}
use Rattle.elf_object.proofs.TakenBytes.{nothing_more}
use Rattle.elf_object.proofs.mixing.Mixing.hold.Goals as goal

pub returns-then-is_empty : goal.returns-then-is_empty
returns-then-is_empty c =
    let none : length c.args.bytes.now ≡ 0 = search rules in
    nothing_more c.args.self.now c.args.bytes.now (nil_from_length c.args.bytes.now none)

pub returns : goal.returns
returns c =
    let inside = c.self.inside in
    let few : held_before inside.between.items ≤ length inside.held.items = (let last = c.self.invariant.0 in let low = c.self.invariant.1 in omega arith) in
    subst (λ (before : List ℕ). OnOk c.extend_from_slice.result (mixed c.extend_from_slice.new.self.items inside.between.items ≡ before ++ c.args.bytes.now)) c.self.view_is
    (held_more c.extend_from_slice.result inside.held.items c.args.bytes.now c.extend_from_slice.new.self.items inside.between.items few c.extend_from_slice.ensures.items)
