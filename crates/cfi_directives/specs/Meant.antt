-- The row that the directives of a procedure mean so far from its beginning, wherever places stand.
use Rattle.std.specs.Prelude.{◌≡◌, ℕ, ◌-◌, ◌<◌, ◌≤◌, List, [], ◌∷◌, ◌++◌, All, nat_lt, nat_le, Option, None, if◌then◌else◌}
use Rattle.std.specs.Option.{option_map, unwrap_or}
use Rattle.cfi_rows.specs.declared.rows.CfaRow.{CfaRow}
use Rattle.cfi_directives.specs.declared.frames.Frame.{Frame}
use Rattle.cfi_directives.specs.declared.frames.PlacedOp.{PlacedOp}
use Rattle.asm_base.specs.declared.places.Place.{Place}
use Rattle.asm_base.specs.declared.places.SectionPlace.{SectionPlace}
use Rattle.cfi_directives.specs.Order.{IsUpTo}
use Rattle.cfi_directives.specs.Rows.{rows_after}

-- the place in the section of this number
abbrev pub place_in : ℕ → Place → SectionPlace
place_in section place = record { section = section; place = place }

-- the end of a procedure
abbrev pub stop_of : Frame → Place
stop_of frame = unwrap_or frame.stop frame.start

module _ (address : SectionPlace → ℕ) where
  -- where a place of a section stands
  abbrev pub stands_at : ℕ → Place → ℕ
  stands_at section place = address (place_in section place)

  -- how far a place stands from the beginning of its procedure
  abbrev pub from_start : Frame → Place → ℕ
  from_start frame place = stands_at frame.section place - stands_at frame.section frame.start

  -- the instructions before the first that stands farther than this from the beginning of the procedure
  abbrev pub ops_up_to : Frame → ℕ → List PlacedOp → List PlacedOp
  ops_up_to frame at [] = []
  ops_up_to frame at (placed ∷ ops) = if nat_le (from_start frame placed.place) at then placed ∷ ops_up_to frame at ops else []

  -- the row that a procedure's directives mean so far from its beginning: that behind the instructions that stand up to there; none where the procedure
  -- has ended
  abbrev pub row_meant : Frame → ℕ → Option CfaRow
  row_meant frame at =
      if nat_lt at (from_start frame (stop_of frame)) then option_map (λ rows. rows.row) (rows_after (ops_up_to frame at frame.ops)) else None

  -- the instructions are those up to so far from the beginning of the procedure, and behind them those past it
  pub record AreSplit (frame : Frame) (at : ℕ) (before past : List PlacedOp) : Type 0 where
    pub all : frame.ops ≡ before ++ past
    pub up_to : All (λ placed. from_start frame placed.place ≤ at) before
    pub beyond : All (λ placed. at < from_start frame placed.place) past

  -- where no fewer items and bytes stand before a place of the section, it does not stand before
  abbrev pub KeepsOrder : ℕ → Type 0
  KeepsOrder section = (first second : Place) → IsUpTo first second → stands_at section first ≤ stands_at section second
