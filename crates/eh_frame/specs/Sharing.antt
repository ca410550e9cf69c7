-- What a frame table has, one entry behind the other: for each procedure its CIE, unless an earlier procedure shares one, then its FDE.
use Rattle.std.specs.Prelude.{◌≡◌, ◌↔◌, ℕ, Bool, true, false, List, [], ◌∷◌, ◌++◌, None}
use Rattle.std.specs.List.{list_any}
use Rattle.cfi_directives.specs.declared.frames.Frame.{Frame}
use Rattle.table_pieces.specs.Pieces.{Tables}
use Rattle.eh_frame.specs.Commons.{form_of, share_common}
use Rattle.eh_frame.specs.Placing.{Common, Putting, place_of, common_put, entry_put, common_place, frame_put, common_begun, table_put}

-- THE ENTRIES

-- an entry of a table: the CIE that is put for a procedure, or the FDE of a procedure
pub data TableEntry : Type 0 where
  cie : Frame → TableEntry
  fde : Frame → TableEntry

-- one of these procedures shares its CIE with this one
abbrev pub is_shared : List Frame → Frame → Bool
is_shared earlier frame = list_any (λ one. share_common one frame) earlier

-- the CIE of a procedure before other entries, unless it is shared
abbrev pub with_cie : Bool → Frame → List TableEntry → List TableEntry
with_cie true frame entries = entries
with_cie false frame entries = cie frame ∷ entries

-- for each procedure behind earlier ones its CIE, unless an earlier one shares one, then its FDE
abbrev pub entries_behind : List Frame → List Frame → List TableEntry
entries_behind earlier [] = []
entries_behind earlier (frame ∷ frames) = with_cie (is_shared earlier frame) frame (fde frame ∷ entries_behind (earlier ++ frame ∷ []) frames)

-- all entries of the table of procedures
abbrev pub table_entries : List Frame → List TableEntry
table_entries frames = entries_behind [] frames

-- WHERE THEY ARE PUT

-- the last entry is padded to a multiple of 8, and each other one to a multiple of 4
abbrev pub entry_log : List TableEntry → ℕ
entry_log [] = 3
entry_log (entry ∷ entries) = 2

-- entries behind what is put: each CIE where that ends, and each FDE, whose CIE stands among those that are put
abbrev pub all_put : ℕ → List TableEntry → Putting → Putting
all_put section [] putting = putting
all_put section (cie frame ∷ entries) putting = all_put section entries (common_put section frame None putting)
all_put section (fde frame ∷ entries) putting =
    all_put section entries (entry_put section (entry_log entries) (common_place section frame putting) frame putting)

-- the entries of a table, of which the first is a CIE, behind what the section has
abbrev pub listed_put : ℕ → List TableEntry → Tables → Tables
listed_put section [] tables = tables
listed_put section (fde frame ∷ entries) tables = tables
listed_put section (cie frame ∷ entries) tables = (all_put section entries (common_begun section frame tables)).tables

-- the table of procedures is put as its list of entries says
abbrev pub TablesAreListed : Type 0
TablesAreListed = (section : ℕ) (frame : Frame) (frames : List Frame) (tables : Tables)
    → table_put section frame (frame ∷ frames) tables ≡ listed_put section (table_entries (frame ∷ frames)) tables

-- WHICH CIE IS SHARED

-- procedures share a CIE exactly where they have one personality, and their pointers are written alike
abbrev pub SharingIsEquality : Type 0
SharingIsEquality = (one other : Frame) → (share_common one other ≡ true) ↔ ((one.personality ≡ other.personality) × (form_of one ≡ form_of other))

-- of each procedure both lists of CIEs, by procedures and places, say where its CIE stands, or both say nothing
abbrev pub TellAlike : List Common → List Common → Type 0
TellAlike commons others = (frame : Frame) → place_of frame commons ≡ place_of frame others

-- a procedure and the place of its CIE, behind the earlier ones with theirs
abbrev pub with_frame : ℕ → Frame → Putting → List Common → List Common
with_frame section frame putting earlier = earlier ++ record { frame = frame; place = common_place section frame putting } ∷ []

-- the CIE of a procedure is that of the first earlier procedure that shares it, or its own: the CIEs that are put tell the same as all procedures so far, each
-- with the place of its CIE
pub record CommonsAreFirst : Type 0 where
  pub first : (section log : ℕ) (frame : Frame) (tables : Tables)
      → TellAlike (frame_put section log frame (common_begun section frame tables)).commons (with_frame section frame (common_begun section frame tables) [])
  pub next : (section log : ℕ) (frame : Frame) (putting : Putting) (earlier : List Common) → TellAlike putting.commons earlier
      → TellAlike (frame_put section log frame putting).commons (with_frame section frame putting earlier)
