-- No copy is to come.
use Rattle.std.proofs.Common.{refl}
use Rattle.macro_blocks.specs.declared.places.Place.TheVariants.{File}
use Rattle.macro_blocks.specs.Places.{left_in}
use Rattle.macro_blocks.specs.Frames.{level_of}
use Rattle.macro_blocks.proofs.Lefts.{file_left, none_later}
use Rattle.macro_blocks.proofs.frames.Frame.file.Goals as goal

pub returns-clause-level : goal.returns-clause-level
unfolding level_of
returns-clause-level c =
    let own = file_left c.args.file c.args.text.value c.args.at in
    let alone = none_later (File c.args.file) c.args.text.value c.none.result (left_in (File c.args.file) c.args.text.value c.args.at) c.none.ensures.values c.none.ensures.next in
    rw (alone, own, c.new.ensures.items) refl
