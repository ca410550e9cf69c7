-- Sections in which a table is put.
use Rattle.std.proofs.Common.{◌≡◌, ℕ, suc, zero, ◌<◌, ◌≤◌, Bool, true, false, not, ◌&&◌, List, [], ◌∷◌, ◌++◌, length, Option, None, Some, get_or, ◌==◌, refl, sym, ap, subst, ◌∙◌, arith, eq-eqb}
use Rattle.std.specs.Prelude.{All, IsSomeAnd}
use Rattle.std.specs.List.{slice_get}
use Rattle.std.specs.Option.{option_map_or}
use Rattle.std.proofs.lemmas.Bool.{eqb-true}
use Rattle.std.proofs.lemmas.List.Elements.{All-nil}
use Rattle.std.proofs.lemmas.Option.{slice_get-get_or, slice_get_within, get_or_from_slice_get}
use Rattle.asm_frags.specs.declared.fields.Field.{Field}
use Rattle.asm_frags.specs.PlainBytes.{field_end}
use Rattle.asm_frags.specs.Writing.{LooseItem, LooseSection, ends_in_run, takes_zeros_alone}
use Rattle.section_laws.specs.Within.{IsWithin}
use Rattle.table_pieces.specs.declared.ends.SectionEnd.{SectionEnd}
use Rattle.table_pieces.specs.Ends.{run_end, no_end, end_of}
use Rattle.table_pieces.specs.Found.{IsReadyAt, IsReady}
use Rattle.table_pieces.specs.Pieces.{Takes}
use Rattle.table_pieces.specs.Standing.{OneExtends}
use Rattle.line_table.specs.Placing.{nothing_put, new_table, is_free}
use Rattle.line_table.specs.Sequences.{end_in}

-- LISTS

pub get_last : (xs : List LooseSection) (x : LooseSection) → slice_get (xs ++ x ∷ []) (length xs) ≡ Some x
get_last [] x = refl
get_last (y ∷ xs) x = get_last xs x

pub get_first : (xs ys : List LooseSection) (i : ℕ) (x : LooseSection) → slice_get xs i ≡ Some x → slice_get (xs ++ ys) i ≡ Some x
get_first [] ys i x is = absurd (let none : ⊥ = cc in none)
get_first (y ∷ xs) ys zero x is = is
get_first (y ∷ xs) ys (suc i) x is = get_first xs ys i x is

pub of_all : (xs : List LooseSection) (i : ℕ) (x : LooseSection) → slice_get xs i ≡ Some x → All IsWithin xs → IsWithin x
of_all xs i x there low = subst IsWithin (get_or_from_slice_get xs i x x there) (low i x (slice_get_within xs i x there))

list_nil : {A : Type 0} → (xs : List A) → length xs ≡ 0 → xs ≡ []
list_nil [] long = refl
list_nil (x ∷ xs) long = absurd (omega (arith, long))

-- FREE SECTIONS

both : (a b : Bool) → (a && b) ≡ true → (a ≡ true) × (b ≡ true)
both true b is = (refl, is)
both false b is = absurd (let none : ⊥ = cc in none)

not_true : (a : Bool) → not a ≡ true → a ≡ false
not_true true is = absurd (let none : ⊥ = cc in none)
not_true false is = refl

-- what a free section is
pub record IsFree (held : LooseSection) : Type 0 where
  pub filled : takes_zeros_alone held ≡ false
  pub items : length held.items ≡ 0
  pub bytes : length held.bytes ≡ 0

pub free_is : (held : LooseSection) → is_free held ≡ true → IsFree held
free_is held free =
    let outer = both (not (takes_zeros_alone held) && (length held.items == 0)) (length held.bytes == 0) free in
    let inner = both (not (takes_zeros_alone held)) (length held.items == 0) outer.0 in
    record {
      filled = not_true (takes_zeros_alone held) inner.0;
      items = eqb-true (length held.items) 0 inner.1;
      bytes = eqb-true (length held.bytes) 0 outer.1;
    }

-- it has no end yet
pub free_ready : (section : ℕ) (sections : List LooseSection) (held : LooseSection) → slice_get sections section ≡ Some held → IsFree held → IsWithin held
    → IsReady section sections nothing_put
free_ready section sections held there free low =
    subst (λ (found : Option LooseSection). IsSomeAnd found (IsReadyAt nothing_put)) (sym there) (record {
      reaches = record {
        items = free.items;
        bytes = free.bytes;
        in_run = ap (λ (items : List LooseItem). ends_in_run items) (list_nil held.items free.items);
      };
      low = low;
    })

pub takes_at : (section : ℕ) (sections : List LooseSection) (held : LooseSection) → slice_get sections section ≡ Some held → takes_zeros_alone held ≡ false → Takes section sections
takes_at section sections held there filled = record {
  within = slice_get_within sections section held there;
  filled = subst (λ (found : Option LooseSection). IsSomeAnd found (λ held. takes_zeros_alone held ≡ false)) (sym there) filled;
}

pub new_low : IsWithin new_table
new_low = record {
  items = All-nil (λ (item : LooseItem). item.offset ≤ 0);
  fields = All-nil (λ (field : Field). field_end field ≤ 0);
  apart = tt;
  counted = All-nil _;
}

-- ENDS

-- the end of a section that is there
pub end_there : (section : ℕ) (sections : List LooseSection) (held : LooseSection) → slice_get sections section ≡ Some held → end_of section sections ≡ run_end held
unfolding end_of
end_there section sections held is = ap (λ found. option_map_or run_end found no_end) is

-- other sections end where they ended
pub ends_stay : (table section : ℕ) (first after : List LooseSection) → OneExtends table first after → (section ≡ table → ⊥) → end_in section after ≡ end_in section first
unfolding end_of
ends_stay table section first after extends other =
    ap (λ (found : Option LooseSection). let end : SectionEnd = option_map_or run_end found no_end in record { item = end.items; offset = end.bytes }) (extends.others section other)

-- WITHIN

pub both_made : {X : Type 0} (P Q R : X → Type 0) (o : Option X) → ((x : X) → P x → Q x → R x) → IsSomeAnd o P → IsSomeAnd o Q → IsSomeAnd o R
both_made P Q R None make p q = absurd p
both_made P Q R (Some x) make p q = make x p q

-- the section stays within its bytes
pub within_of : (section : ℕ) (sections : List LooseSection) (end : SectionEnd) → IsReady section sections end → IsSomeAnd (slice_get sections section) IsWithin
within_of section sections end = by (slice_get sections section)
  where
    by : (found : Option LooseSection) → IsSomeAnd found (IsReadyAt end) → IsSomeAnd found IsWithin
    by None ready = absurd ready
    by (Some held) ready = ready.low

-- all sections stay within their bytes where one is extended that does
pub all_within : (section : ℕ) (before after : List LooseSection) → All IsWithin before → OneExtends section before after
    → IsSomeAnd (slice_get after section) IsWithin → All IsWithin after
all_within section before after low extends one = λ k d within. by k d within (k == section) refl
  where
    of_found : (k : ℕ) (d : LooseSection) (found : Option LooseSection) → slice_get after k ≡ found → IsSomeAnd found IsWithin → IsWithin (get_or after k d)
    of_found k d None is is_within = absurd is_within
    of_found k d (Some held) is is_within = subst IsWithin (sym (get_or_from_slice_get after k held d is)) is_within

    by : (k : ℕ) (d : LooseSection) → k < length after → (same : Bool) → (k == section) ≡ same → IsWithin (get_or after k d)
    by k d within true is =
        of_found k d (slice_get after k) refl
        (subst (λ (n : ℕ). IsSomeAnd (slice_get after n) IsWithin) (sym (eqb-true k section is)) one)
    by k d within false is =
        let inside : k < length before = subst (λ (n : ℕ). k < n) extends.count within in
        let there : slice_get before k ≡ Some (get_or before k d) = slice_get-get_or before k d inside in
        subst IsWithin (sym (get_or_from_slice_get after k (get_or before k d) d (extends.others k (λ same. absurd (let none : ⊥ = cc (is, eq-eqb k section same) in none)) ∙ there)))
        (low k d inside)
