-- What items hold.
use Rattle.std.specs.Prelude.{ℕ, ◌^◌}
use Rattle.item_contents.specs.declared.kinds.Padding.{Padding}
use Rattle.item_contents.specs.declared.kinds.Padding.TheVariants.{Byte}

-- `count` units of `size` bytes: the low 4 bytes of the value, then zeros
pub record FillOf : Type 0 where
  pub count : ℕ
  pub size : ℕ
  pub value : ℕ

-- padding up to the next multiple of 2 ^ log, and none where that takes more bytes than `most`
pub record AlignOf : Type 0 where
  pub log : ℕ
  pub most : ℕ
  pub padding : Padding

-- zeros up to the next multiple of 2 ^ log, however many that takes
abbrev pub zeros_up_to : ℕ → AlignOf
zeros_up_to log = record { log = log; most = 2 ^ log; padding = Byte 0 }

-- bytes of the value `fill` up to the place `ahead` bytes past the beginning of the section and `behind` bytes before that, moved as the first
-- plain byte behind `from` items of the section is
pub record OrgOf : Type 0 where
  pub from : ℕ
  pub ahead : ℕ
  pub behind : ℕ
  pub fill : ℕ
