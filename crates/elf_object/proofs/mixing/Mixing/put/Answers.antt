-- A unit stands once, or nothing is there to put.
use Rattle.std.proofs.Common.{◌≡◌, ◌++◌, ℕ, List, length, sym, ap, ◌∙◌, subst, rules}
use Rattle.std.specs.Prelude.{OnOk}
use Rattle.item_contents.specs.Contents.{repeated}
use Rattle.elf_object.proofs.TakenBytes.{nothing_more, empty_unit, no_unit, unit_once}
use Rattle.elf_object.proofs.mixing.Mixing.put.Goals as goal

pub returns-then-count-eq1 : goal.returns-then-count-eq1
returns-then-count-eq1 c =
    let unit = c.args.unit.now in
    let once : unit ≡ repeated c.args.count unit = sym (ap (λ n. repeated n unit) c.if-count-eq1.true ∙ unit_once unit) in
    subst (λ (bytes : List ℕ). OnOk c.hold.result (c.hold.new.self ≡ c.args.self.now ++ bytes)) once c.hold.ensures

pub returns-then-is_empty : goal.returns-then-is_empty
returns-then-is_empty c =
    let none : length c.args.unit.now ≡ 0 = search rules in
    nothing_more c.args.self.now (repeated c.args.count c.args.unit.now) (empty_unit c.args.count c.args.unit.now none)

pub returns-then-count-eq0 : goal.returns-then-count-eq0
returns-then-count-eq0 c = nothing_more c.args.self.now (repeated c.args.count c.args.unit.now) (no_unit c.args.count c.args.unit.now c.if-count-eq0.true)
