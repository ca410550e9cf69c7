-- CIEs that are looked through one after the other, and entries that are put so.
use Rattle.std.proofs.Common.{◌≡◌, ℕ, ◌+◌, ◌<◌, true, false, List, [], ◌∷◌, length, drop, None, Some, refl, sym, ◌∙◌, ap, slice_index_or}
use Rattle.std.specs.Prelude.{if◌then◌else◌}
use Rattle.std.specs.List.{find}
use Rattle.std.specs.Option.{option_map}
use Rattle.std.proofs.lemmas.List.{drop_more}
use Rattle.cfi_directives.specs.declared.frames.Frame.{Frame}
use Rattle.eh_frame.specs.declared.placing.KnownCommon.{KnownCommon}
use Rattle.eh_frame.specs.Commons.{share_common}
use Rattle.table_pieces.specs.Pieces.{Tables}
use Rattle.eh_frame.specs.Placing.{Common, Putting, padded_log, place_of, frame_put, entries_put}
use Rattle.eh_frame.specs.Progress.{common_in, commons_in}

-- where the CIE stands that is first here, or among the others
place_at : (commons : List KnownCommon) (frame : Frame) (i : ℕ) (d : KnownCommon) → i < length commons
    → place_of frame (commons_in (drop i commons))
    ≡ option_map (λ (common : Common). common.place) (if share_common (slice_index_or commons i d).frame.now frame then Some (common_in (slice_index_or commons i d))
    else find (λ (common : Common). share_common common.frame frame) (commons_in (drop (i + 1) commons)))
place_at commons frame i d within = ap (λ (rest : List KnownCommon). place_of frame (commons_in rest)) (drop_more commons i d within)

pub place_here : (commons : List KnownCommon) (frame : Frame) (i : ℕ) (d : KnownCommon) → i < length commons
    → place_of frame (commons_in commons) ≡ place_of frame (commons_in (drop i commons)) → share_common (slice_index_or commons i d).frame.now frame ≡ true
    → Some (slice_index_or commons i d).place ≡ place_of frame (commons_in commons)
place_here commons frame i d within so_far shared =
    sym (so_far ∙ place_at commons frame i d within
    ∙ ap (λ b. option_map (λ (common : Common). common.place) (if b then Some (common_in (slice_index_or commons i d))
    else find (λ (common : Common). share_common common.frame frame) (commons_in (drop (i + 1) commons)))) shared)

pub place_on : (commons : List KnownCommon) (frame : Frame) (i : ℕ) (d : KnownCommon) → i < length commons
    → place_of frame (commons_in commons) ≡ place_of frame (commons_in (drop i commons)) → share_common (slice_index_or commons i d).frame.now frame ≡ false
    → place_of frame (commons_in commons) ≡ place_of frame (commons_in (drop (i + 1) commons))
place_on commons frame i d within so_far apart =
    so_far ∙ place_at commons frame i d within
    ∙ ap (λ b. option_map (λ (common : Common). common.place) (if b then Some (common_in (slice_index_or commons i d))
    else find (λ (common : Common). share_common common.frame frame) (commons_in (drop (i + 1) commons)))) apart

drop_all : (commons : List KnownCommon) → drop (length commons) commons ≡ []
drop_all [] = refl
drop_all (one ∷ rest) = drop_all rest

pub place_none : (commons : List KnownCommon) (frame : Frame) → place_of frame (commons_in commons) ≡ place_of frame (commons_in (drop (length commons) commons))
    → None ≡ place_of frame (commons_in commons)
place_none commons frame so_far = sym (so_far ∙ ap (λ (rest : List KnownCommon). place_of frame (commons_in rest)) (drop_all commons))

-- an entry more is put, and the rest behind it
pub entries_more : (section i log : ℕ) (frames : List Frame) (frame : Frame) (old new : Putting) (all : Tables) → i < length frames
    → frame ≡ slice_index_or frames i frame → log ≡ padded_log (drop (i + 1) frames) → new ≡ frame_put section log frame old
    → (entries_put section (drop i frames) old).tables ≡ all → (entries_put section (drop (i + 1) frames) new).tables ≡ all
entries_more section i log frames frame old new all within at padded put so_far =
    ap (λ (putting : Putting). (entries_put section (drop (i + 1) frames) putting).tables) put
    ∙ ap (λ (log : ℕ). (entries_put section (drop (i + 1) frames) (frame_put section log frame old)).tables) padded
    ∙ ap (λ (frame : Frame). (entries_put section (frame ∷ drop (i + 1) frames) old).tables) at
    ∙ ap (λ (rest : List Frame). (entries_put section rest old).tables) (sym (drop_more frames i frame within))
    ∙ so_far
