-- A repetition stands behind all held bytes.
use Rattle.std.proofs.Common.{◌≡◌, ◌+◌, ◌-◌, ◌++◌, ℕ, List, length, ap, ◌∙◌, subst, arith, rules}
use Rattle.item_contents.specs.Contents.{repeated}
use Rattle.elf_file.specs.declared.file_pieces.Between.{Between}
use Rattle.elf_file.specs.Pieces.{mixed, held_before}
use Rattle.elf_object.proofs.MixedLemmas.{mixed_last}
use Rattle.elf_object.proofs.mixing.Mixing.repeat.Goals as goal

pub returns : goal.returns
returns c =
    let inside = c.self.inside in
    let held = inside.held.items in
    let between = inside.between.items in
    let units = repeated c.args.count c.args.unit.now in
    let one : Between = record { held = c.len-held.result - inside.last; repetition = c.new.result } in
    let long : c.len-held.result ≡ length held = search rules in
    let all : held_before between + one.held ≡ length held = (let last = c.self.invariant.0 in let low = c.self.invariant.1 in omega arith) in
    let made : mixed held c.push.new.self.items ≡ mixed held between ++ units =
    ap (mixed held) c.in_ok-push.ensures.items ∙ mixed_last held between one all ∙ ap (λ (bytes : List ℕ). mixed held between ++ bytes) c.new.ensures in
    subst (λ (before : List ℕ). mixed held c.push.new.self.items ≡ before ++ units) c.self.view_is made
