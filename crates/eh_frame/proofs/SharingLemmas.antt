-- A table is put as its list of entries says, and each FDE leads to the CIE of the first procedure that shares it.
use Rattle.std.proofs.Common.{◌≡◌, ℕ, ◌||◌, Bool, true, false, List, [], ◌∷◌, ◌++◌, Option, None, Some, cond, refl, sym, ap, ◌∙◌}
use Rattle.std.specs.Prelude.{map, is_some}
use Rattle.std.specs.List.{find}
use Rattle.std.specs.Option.{option_map, unwrap_or}
use Rattle.std.proofs.lemmas.List.{map-append}
use Rattle.asm_base.specs.declared.places.SectionPlace.{SectionPlace}
use Rattle.cfi_directives.specs.declared.frames.Frame.{Frame}
use Rattle.table_pieces.specs.Ends.{end_place}
use Rattle.table_pieces.specs.Pieces.{Tables}
use Rattle.eh_frame.specs.Commons.{share_common}
use Rattle.eh_frame.specs.Placing.{Common, Putting, padded_log, place_of, common_put, entry_put, common_place, frame_put, entries_put, common_begun}
use Rattle.eh_frame.specs.Sharing.{TableEntry, fde, is_shared, with_cie, entries_behind, entry_log, all_put, TablesAreListed, TellAlike, with_frame, CommonsAreFirst}
use Rattle.eh_frame.proofs.SharedCommons.{shared_alike, shared_self}

-- WHERE THE CIE OF A PROCEDURE STANDS

-- the first place, or the other
abbrev or_place : Option SectionPlace → Option SectionPlace → Option SectionPlace
or_place (Some place) other = Some place
or_place None other = other

-- the place of the last CIE, if it is that of the procedure
abbrev last_place : Common → Frame → Option SectionPlace
last_place common frame = cond (share_common common.frame frame) (Some common.place) None

place_push : (commons : List Common) (common : Common) (frame : Frame) → place_of frame (commons ++ common ∷ []) ≡ or_place (place_of frame commons) (last_place common frame)
place_push [] common frame = by (share_common common.frame frame)
  where
    by : (shared : Bool) → option_map (λ (common : Common). common.place) (cond shared (Some common) None) ≡ cond shared (Some common.place) None
    by true = refl
    by false = refl
place_push (one ∷ commons) common frame = by (share_common one.frame frame) (place_push commons common frame)
  where
    by : (shared : Bool) → place_of frame (commons ++ common ∷ []) ≡ or_place (place_of frame commons) (last_place common frame)
        → option_map (λ (common : Common). common.place) (cond shared (Some one) (find (λ (common : Common). share_common common.frame frame) (commons ++ common ∷ [])))
        ≡ or_place (option_map (λ (common : Common). common.place) (cond shared (Some one) (find (λ (common : Common). share_common common.frame frame) commons)))
        (last_place common frame)
    by true rest = refl
    by false rest = rest

-- that of procedures that share it stands at one place
place_alike : (commons : List Common) (frame other : Frame) → share_common frame other ≡ true → place_of frame commons ≡ place_of other commons
place_alike [] frame other shared = refl
place_alike (one ∷ commons) frame other shared =
    ap (λ (b : Bool). option_map (λ (common : Common). common.place) (cond b (Some one) (find (λ (common : Common). share_common common.frame frame) commons)))
    (shared_alike one.frame frame other shared)
    ∙ by (share_common one.frame other) (place_alike commons frame other shared)
  where
    by : (b : Bool) → place_of frame commons ≡ place_of other commons
        → option_map (λ (common : Common). common.place) (cond b (Some one) (find (λ (common : Common). share_common common.frame frame) commons))
        ≡ option_map (λ (common : Common). common.place) (cond b (Some one) (find (λ (common : Common). share_common common.frame other) commons))
    by true rest = refl
    by false rest = rest

module _ (section log : ℕ) (frame : Frame) (putting : Putting) (earlier : List Common) (tells : TellAlike putting.commons earlier) where
  -- one that is put tells the same as its procedure
  told_new : (other : Frame) → place_of other (common_put section frame None putting).commons
      ≡ place_of other (earlier ++ record { frame = frame; place = end_place section putting.end } ∷ [])
  told_new other =
      let common : Common = record { frame = frame; place = end_place section putting.end } in
      place_push putting.commons common other ∙ ap (λ (found : Option SectionPlace). or_place found (last_place common other)) (tells other) ∙ sym (place_push earlier common other)

  -- and a procedure that shares one tells nothing more
  told_old : (place : SectionPlace) → place_of frame putting.commons ≡ Some place → (other : Frame) (shared : Bool) → share_common frame other ≡ shared
      → place_of other putting.commons ≡ or_place (place_of other putting.commons) (cond shared (Some place) None)
  told_old place is other true shared =
      let there : place_of other putting.commons ≡ Some place = sym (place_alike putting.commons frame other shared) ∙ is in
      there ∙ sym (ap (λ (found : Option SectionPlace). or_place found (Some place)) there)
  told_old place is other false shared = by (place_of other putting.commons)
    where
      by : (found : Option SectionPlace) → found ≡ or_place found None
      by None = refl
      by (Some place) = refl

  tell_next : (found : Option SectionPlace) → place_of frame putting.commons ≡ found → (other : Frame) → place_of other (common_put section frame found putting).commons
      ≡ place_of other (earlier ++ record { frame = frame; place = unwrap_or found (end_place section putting.end) } ∷ [])
  tell_next None is other = told_new other
  tell_next (Some place) is other =
      let common : Common = record { frame = frame; place = place } in
      told_old place is other (share_common frame other) refl
      ∙ ap (λ (found : Option SectionPlace). or_place found (last_place common other)) (tells other) ∙ sym (place_push earlier common other)

  pub tells_next : TellAlike (frame_put section log frame putting).commons (with_frame section frame putting earlier)
  tells_next other = tell_next (place_of frame putting.commons) refl other

-- the own CIE of a procedure is found
own_place : (frame : Frame) (place : SectionPlace) → place_of frame (record { frame = frame; place = place } ∷ []) ≡ Some place
own_place frame place =
    ap (λ (b : Bool). option_map (λ (common : Common). common.place) (cond b (Some (record { frame = frame; place = place })) None)) (shared_self frame)

first_tells : (section log : ℕ) (frame : Frame) (tables : Tables)
    → TellAlike (frame_put section log frame (common_begun section frame tables)).commons (with_frame section frame (common_begun section frame tables) [])
first_tells section log frame tables other =
    let begun : Putting = common_begun section frame tables in
    ap (λ (found : Option SectionPlace). place_of other (common_put section frame found begun).commons) (own_place frame _)
    ∙ sym (ap (λ (found : Option SectionPlace). place_of other (record { frame = frame; place = unwrap_or found (end_place section begun.end) } ∷ [])) (own_place frame _))

pub commons_are_first : CommonsAreFirst
commons_are_first = record { first = first_tells; next = tells_next }

-- THE LIST OF ENTRIES

-- a CIE is there where an earlier procedure shares it
shared_there : (earlier : List Common) (frame : Frame) → is_some (place_of frame earlier) ≡ is_shared (map (λ (common : Common). common.frame) earlier) frame
shared_there [] frame = refl
shared_there (one ∷ earlier) frame = by (share_common one.frame frame) (shared_there earlier frame)
  where
    by : (b : Bool) → is_some (place_of frame earlier) ≡ is_shared (map (λ (common : Common). common.frame) earlier) frame
        → is_some (option_map (λ (common : Common). common.place) (cond b (Some one) (find (λ (common : Common). share_common common.frame frame) earlier)))
        ≡ (b || is_shared (map (λ (common : Common). common.frame) earlier) frame)
    by true later = refl
    by false later = later

-- the last entry is that of the last procedure
same_log : (earlier frames : List Frame) → padded_log frames ≡ entry_log (entries_behind earlier frames)
same_log earlier [] = refl
same_log earlier (frame ∷ frames) = by (is_shared earlier frame)
  where
    by : (shared : Bool) → 2 ≡ entry_log (with_cie shared frame (fde frame ∷ entries_behind (earlier ++ frame ∷ []) frames))
    by true = refl
    by false = refl

-- a procedure is put as its entries say
one_listed : (section log : ℕ) (frame : Frame) (found : Option SectionPlace) (shared : Bool) (entries : List TableEntry) (putting : Putting)
    → place_of frame putting.commons ≡ found → is_some found ≡ shared → log ≡ entry_log entries
    → all_put section entries (entry_put section log (unwrap_or found (end_place section putting.end)) frame (common_put section frame found putting))
    ≡ all_put section (with_cie shared frame (fde frame ∷ entries)) putting
one_listed section log frame (Some place) false entries putting is there padded = absurd (let none : ⊥ = cc in none)
one_listed section log frame None true entries putting is there padded = absurd (let none : ⊥ = cc in none)
one_listed section log frame (Some place) true entries putting is there padded =
    ap (λ (log : ℕ). all_put section entries (entry_put section log place frame putting)) padded
    ∙ sym (ap (λ (found : Option SectionPlace). all_put section entries (entry_put section (entry_log entries) (unwrap_or found (end_place section putting.end)) frame putting)) is)
one_listed section log frame None false entries putting is there padded =
    let made : Putting = common_put section frame None putting in
    let common : Common = record { frame = frame; place = end_place section putting.end } in
    let own : place_of frame made.commons ≡ Some (end_place section putting.end) =
    place_push putting.commons common frame
    ∙ ap (λ (found : Option SectionPlace). or_place found (last_place common frame)) is
    ∙ ap (λ (b : Bool). cond b (Some (end_place section putting.end)) None) (shared_self frame) in
    ap (λ (log : ℕ). all_put section entries (entry_put section log (end_place section putting.end) frame made)) padded
    ∙ sym (ap (λ (found : Option SectionPlace). all_put section entries (entry_put section (entry_log entries) (unwrap_or found (end_place section made.end)) frame made)) own)

all_listed : (section : ℕ) (frames : List Frame) (putting : Putting) (earlier : List Common) → TellAlike putting.commons earlier
    → entries_put section frames putting ≡ all_put section (entries_behind (map (λ (common : Common). common.frame) earlier) frames) putting
all_listed section [] putting earlier tells = refl
all_listed section (frame ∷ frames) putting earlier tells =
    let log = padded_log frames in
    let before : List Frame = map (λ (common : Common). common.frame) earlier in
    let found : Option SectionPlace = place_of frame putting.commons in
    let next : Putting = frame_put section log frame putting in
    let entries : List TableEntry = entries_behind (before ++ frame ∷ []) frames in
    all_listed section frames next (with_frame section frame putting earlier) (tells_next section log frame putting earlier tells)
    ∙ ap (λ (before : List Frame). all_put section (entries_behind before frames) next)
    (map-append (λ (common : Common). common.frame) earlier (record { frame = frame; place = common_place section frame putting } ∷ []))
    ∙ one_listed section log frame found (is_shared before frame) entries putting refl (ap is_some (tells frame) ∙ shared_there earlier frame)
    (same_log (before ++ frame ∷ []) frames)

pub tables_are_listed : TablesAreListed
tables_are_listed section frame frames tables =
    let begun : Putting = common_begun section frame tables in
    let log = padded_log frames in
    ap (λ (putting : Putting). putting.tables)
    (all_listed section frames (frame_put section log frame begun) (with_frame section frame begun []) (first_tells section log frame tables)
    ∙ one_listed section log frame (place_of frame begun.commons) true (entries_behind (frame ∷ []) frames) begun refl (ap is_some (own_place frame _))
    (same_log (frame ∷ []) frames))
