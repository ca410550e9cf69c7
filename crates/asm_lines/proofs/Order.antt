-- The pieces of a source stand in order, and so do their faults.
use Rattle.std.proofs.Common.{◌≡◌, ℕ, zero, suc, ◌-◌, ◌<◌, ◌≤◌, Bool, true, false, cond, List, [], ◌∷◌, Option, Some, None, refl, arith, subst, ◌∙◌}
use Rattle.std.specs.List.{AllByRecursion, onto_first}
use Rattle.std.specs.Option.{option_or}
use Rattle.asm_base.specs.Pieces.{Piece, ends_statement, is_space}
use Rattle.asm_base.specs.Dividing.{piece_kind, piece_length, pieces_from}
use Rattle.asm_base.specs.declared.pieces.PieceKind.{PieceKind}
use Rattle.asm_base.specs.declared.pieces.PieceKind.TheVariants.{LineFeed, Semicolon, Blank, LineComment, BlockComment, OpenComment, Character, String, OpenString, Other}
use Rattle.asm_lines.specs.declared.faults.Found.{Found}
use Rattle.asm_lines.specs.Intervals.{before_others, intervals_of, own_length, trimmed, without_space_after, without_space_before}
use Rattle.asm_lines.specs.Faults.{earlier, first_long, first_open, long_found, longest_statement, open_by, open_found}
use Rattle.asm_lines.specs.Scan.{first_interval, later_pieces}
use Rattle.std.proofs.Common.{nat_lt}

pub each_weaker : (P Q : Piece → Type 0) → ((piece : Piece) → P piece → Q piece) → (pieces : List Piece) → AllByRecursion P pieces → AllByRecursion Q pieces
each_weaker P Q weaker [] all = tt
each_weaker P Q weaker (piece ∷ pieces) all = (weaker piece all.0, each_weaker P Q weaker pieces all.1)

-- of the earlier of two faults none is found: neither is
pub neither_found : (one other : Option Found) → earlier one other ≡ None → (one ≡ None) × (other ≡ None)
neither_found None None none = (refl, refl)
neither_found None (Some found) none = cc
neither_found (Some found) None none = cc
neither_found (Some found) (Some other) none = cc

-- the pieces from an offset on begin there or later
pub from_start : (left_out start : ℕ) (bytes : List ℕ) → AllByRecursion (λ piece. start ≤ piece.start) (pieces_from left_out start bytes)
unfolding pieces_from
from_start left_out start [] = tt
from_start (suc n) start (byte ∷ rest) = each_weaker (λ piece. suc start ≤ piece.start) (λ piece. start ≤ piece.start) (λ piece h. omega arith) (pieces_from n (suc start) rest) (from_start n (suc start) rest)
from_start zero start (byte ∷ rest) =
    let n = piece_length (piece_kind byte rest) rest - 1 in
    (omega arith, each_weaker (λ piece. suc start ≤ piece.start) (λ piece. start ≤ piece.start) (λ piece h. omega arith) (pieces_from n (suc start) rest) (from_start n (suc start) rest))

-- what holds of all pieces holds of those of the first interval, and of the later ones
pub in_first : (P : Piece → Type 0) (pieces : List Piece) → AllByRecursion P pieces → AllByRecursion P (first_interval pieces)
in_first P [] all = tt
in_first P (piece ∷ pieces) all = elim (ends_statement piece.kind) as (λ end. AllByRecursion P (cond end [] (piece ∷ first_interval pieces))) [ true ↦ tt | false ↦ (all.0, in_first P pieces all.1) ]

pub in_later : (P : Piece → Type 0) (pieces : List Piece) → AllByRecursion P pieces → AllByRecursion P (later_pieces pieces)
in_later P [] all = tt
in_later P (piece ∷ pieces) all = elim (ends_statement piece.kind) as (λ end. AllByRecursion P (cond end pieces (later_pieces pieces))) [ true ↦ all.1 | false ↦ in_later P pieces all.1 ]

-- all pieces of the first interval stand before all later ones
pub in_order : (left_out start : ℕ) (bytes : List ℕ) → AllByRecursion (λ piece. AllByRecursion (λ later. piece.start < later.start) (later_pieces (pieces_from left_out start bytes))) (first_interval (pieces_from left_out start bytes))
unfolding pieces_from
in_order left_out start [] = tt
in_order (suc n) start (byte ∷ rest) = in_order n (suc start) rest
in_order zero start (byte ∷ rest) =
    let n = piece_length (piece_kind byte rest) rest - 1 in
    let pieces = pieces_from n (suc start) rest in
    elim (ends_statement (piece_kind byte rest)) as (λ end. AllByRecursion (λ piece. AllByRecursion (λ later. piece.start < later.start) (cond end pieces (later_pieces pieces))) (cond end [] (Rattle.asm_base.specs.Dividing.first_piece start byte rest ∷ first_interval pieces))) [
      | true ↦ tt
      | false ↦ (each_weaker (λ piece. suc start ≤ piece.start) (λ later. start < later.start) (λ piece h. omega arith) (later_pieces pieces) (in_later (λ piece. suc start ≤ piece.start) pieces (from_start n (suc start) rest)), in_order n (suc start) rest)
    ]

-- what holds of all pieces holds of those of each interval
pub all_in : (P : Piece → Type 0) (pieces : List Piece) → AllByRecursion P pieces → AllByRecursion (AllByRecursion P) (intervals_of pieces)
all_in P [] all = (tt, tt)
all_in P (piece ∷ pieces) all =
    elim (ends_statement piece.kind) as (λ end. AllByRecursion (AllByRecursion P) (cond end ([] ∷ intervals_of pieces) (onto_first piece (intervals_of pieces)))) [
      | true ↦ (tt, all_in P pieces all.1)
      | false ↦ onto (intervals_of pieces) (all_in P pieces all.1)
    ]
  where
    onto : (intervals : List (List Piece)) → AllByRecursion (AllByRecursion P) intervals → AllByRecursion (AllByRecursion P) (onto_first piece intervals)
    onto [] each = ((all.0, tt), tt)
    onto (interval ∷ later) each = ((all.0, each.0), each.1)

in_trimmed_front : (P : Piece → Type 0) (pieces : List Piece) → AllByRecursion P pieces → AllByRecursion P (without_space_before pieces)
in_trimmed_front P [] all = tt
in_trimmed_front P (piece ∷ pieces) all = elim (is_space piece.kind) as (λ space. AllByRecursion P (cond space (without_space_before pieces) (piece ∷ pieces))) [ true ↦ in_trimmed_front P pieces all.1 | false ↦ all ]

in_before_others : (P : Piece → Type 0) (piece : Piece) (others : List Piece) → P piece → AllByRecursion P others → AllByRecursion P (before_others piece others)
in_before_others P piece [] one all = elim (is_space piece.kind) as (λ space. AllByRecursion P (cond space [] (piece ∷ []))) [ true ↦ tt | false ↦ (one, tt) ]
in_before_others P piece (next ∷ others) one all = (one, all)

in_trimmed_back : (P : Piece → Type 0) (pieces : List Piece) → AllByRecursion P pieces → AllByRecursion P (without_space_after pieces)
in_trimmed_back P [] all = tt
in_trimmed_back P (piece ∷ pieces) all = in_before_others P piece (without_space_after pieces) all.0 (in_trimmed_back P pieces all.1)

pub in_trimmed : (P : Piece → Type 0) (pieces : List Piece) → AllByRecursion P pieces → AllByRecursion P (trimmed pieces)
unfolding trimmed
in_trimmed P pieces all = in_trimmed_back P (without_space_before pieces) (in_trimmed_front P pieces all)

some_offset : (P : ℕ → Type 0) (one found : Found) → P one.offset → Some one ≡ Some found → P found.offset
some_offset P one found holds is = let same : one ≡ found = cc in let At : Found → Type 0 = λ f. P f.offset in subst At same holds

-- what holds of where all pieces begin holds of where a fault of theirs stands
open_at : (source : List ℕ) (P : ℕ → Type 0) (kind : PieceKind) (start : ℕ) (found : Found) → P start → open_by source kind start ≡ Some found → P found.offset
open_at source P LineFeed start found one is = cc
open_at source P Semicolon start found one is = cc
open_at source P Blank start found one is = cc
open_at source P LineComment start found one is = cc
open_at source P BlockComment start found one is = cc
open_at source P OpenComment start found one is = some_offset P _ found one is
open_at source P Character start found one is = cc
open_at source P String start found one is = cc
open_at source P OpenString start found one is = some_offset P _ found one is
open_at source P Other start found one is = cc

pub first_open_at : (source : List ℕ) (P : ℕ → Type 0) (pieces : List Piece) (found : Found) → AllByRecursion (λ piece. P piece.start) pieces → first_open source pieces ≡ Some found → P found.offset
first_open_at source P [] found all is = cc
first_open_at source P (piece ∷ pieces) found all is = by_first (open_found source piece) refl is (first_open_at source P pieces found all.1)
  where
    by_first : (one : Option Found) → open_found source piece ≡ one → option_or one (first_open source pieces) ≡ Some found → (first_open source pieces ≡ Some found → P found.offset) → P found.offset
    by_first None one_is is later = later is
    by_first (Some one) one_is is later = open_at source P piece.kind piece.start found all.0 (one_is ∙ is)

long_of : (source : List ℕ) (P : ℕ → Type 0) (pieces : List Piece) (found : Found) → AllByRecursion (λ piece. P piece.start) pieces → long_found source pieces ≡ Some found → P found.offset
long_of source P [] found all is = cc
long_of source P (first ∷ others) found all is = by_length (nat_lt longest_statement (own_length (first ∷ others))) is
  where
    by_length : (long : Bool) → cond long (Some (Rattle.asm_lines.specs.Faults.found_at first.start (Rattle.asm_lines.specs.declared.faults.LineCause.TheVariants.StatementTooLong (Rattle.asm_lines.specs.LineNumbers.line_of source first.start)))) None ≡ Some found → P found.offset
    by_length true is = some_offset P _ found all.0 is
    by_length false is = cc

pub long_found_at : (source : List ℕ) (P : ℕ → Type 0) (interval : List Piece) (found : Found) → AllByRecursion (λ piece. P piece.start) interval → long_found source (trimmed interval) ≡ Some found → P found.offset
long_found_at source P interval found all is = long_of source P (trimmed interval) found (in_trimmed (λ piece. P piece.start) interval all) is

pub first_long_at : (source : List ℕ) (P : ℕ → Type 0) (intervals : List (List Piece)) (found : Found) → AllByRecursion (AllByRecursion (λ piece. P piece.start)) intervals → first_long source intervals ≡ Some found → P found.offset
first_long_at source P [] found all is = cc
first_long_at source P (interval ∷ later) found all is = by_first (long_found source (trimmed interval)) refl is (first_long_at source P later found all.1)
  where
    by_first : (one : Option Found) → long_found source (trimmed interval) ≡ one → option_or one (first_long source later) ≡ Some found → (first_long source later ≡ Some found → P found.offset) → P found.offset
    by_first None one_is is later_at = later_at is
    by_first (Some one) one_is is later_at = long_found_at source P interval found all.0 (one_is ∙ is)
