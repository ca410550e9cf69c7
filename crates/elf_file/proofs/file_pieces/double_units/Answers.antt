-- Twice as many units stand in front.
use Rattle.std.proofs.Common.{◌≡◌, ◌+◌, ◌*◌, ◌≤◌, ◌++◌, length, take, drop, ℕ, List, refl, ap, ◌∙◌, arith, length-append, length-drop}
use Rattle.std.proofs.Math.Nat.{mul-le-mul_right}
use Rattle.std.proofs.Math.Seq.{take-append_seam}
use Rattle.elf_file.proofs.PieceLemmas.{doubled, first_unit, units_fit}
use Rattle.elf_file.proofs.file_pieces.double_units.Goals as goal

pub units-init : goal.units-init
units-init c =
    let unit = c.args.unit.now in
    let block = c.args.block.now in
    let rest = drop (length unit) block in
    let front = c.copy_from_slice.new.self in
    let once : 1 ≤ c.args.count = omega (arith, c.requires.some) in
    let below : 1 * length unit ≤ c.args.count * length unit = mul-le-mul_right (length unit) once in
    let inside : length unit ≤ length block = omega (arith, c.requires.room) in
    let wide : length front ≡ length unit = ap length c.copy_from_slice.ensures.after in record {
      some = omega arith;
      few = once;
      kept = omega (arith, length-append front rest, length-drop (length unit) block);
      units = first_unit unit (front ++ rest) (ap (λ (xs : List ℕ). take (length unit) (xs ++ rest)) c.copy_from_slice.ensures.after ∙ take-append_seam unit rest);
    }

pub copy_front-requires-clause-room : goal.copy_front-requires-clause-room
copy_front-requires-clause-room c =
    let few : c.units.done + c.min-more.result ≤ c.args.count = grind arith in
    units_fit c.units.done c.min-more.result c.args.count c.args.unit.now c.units.block few (c.units.invariant.kept ∙ c.requires.room)

pub units-preserved : goal.units-preserved
units-preserved c =
    let done = c.units.done in
    let more = c.min-more.result in
    let unit = c.args.unit.now in record {
      some = grind arith;
      few = grind arith;
      kept = c.copy_front.auto.block ∙ c.units.invariant.kept;
      units = doubled done more (done * length unit) (more * length unit) unit c.units.block c.copy_front.new.block refl refl (grind arith) c.units.invariant.units c.copy_front.ensures;
    }
