-- With values in their fields, the bytes read as the instruction with these values.
use Rattle.std.proofs.Common.{◌≡◌, ◌-◌, ◌∙◌, List, Option, Some, ap, length, refl, slice_get, subst, sym, true, ℕ}
use Rattle.std.proofs.lemmas.Bool.{and_parts}
use Rattle.x86_table.specs.declared.forms.Row.{Row}
use Rattle.x86_table.specs.declared.forms.Pattern.{Pattern}
use Rattle.x86_parts.specs.declared.found.Found.{Found}
use Rattle.x86_parts.specs.declared.encoded.Field.{Field}
use Rattle.x86_parts.specs.declared.encoded.Position.{Position}
use Rattle.x86_insn.specs.Views.{Seen, View}
use Rattle.x86_table.specs.Bytes.{has_rex, bytes_of}
use Rattle.x86_table.specs.Fields.{Fields, located, fields_of}
use Rattle.x86_table.specs.Fits.{fits}
use Rattle.x86_table.specs.Reads.{shown}
use Rattle.x86_table.specs.Rows.{the_rows}
use Rattle.x86_parts.specs.Codes.{normal, Means}
use Rattle.x86_encode.specs.Faults.{kind_fits, kinds_fit}
use Rattle.x86_parts.specs.Filling.{Coding, field_holds, filled, valued, exact, Shows, ReadsAs, moved_field, held_field, Noted}
use Rattle.x86_parts.specs.Keys.{immediate_length}
use Rattle.x86_encode.proofs.Complete.{taken}
use Rattle.x86_encode.proofs.FilledBytes.{filled_bytes}
use Rattle.x86_encode.proofs.FilledFields.{lowered, fill, fill_rex, fill_same_length, fill_fits, known_held, known_place}
use Rattle.x86_encode.proofs.FilledOperands.{slot_valued}
use Rattle.x86_encode.proofs.Fitted.{fit_of}
use Rattle.x86_encode.proofs.Search.{Taking}
use Rattle.x86_encode.proofs.Values.{kinds_at}

shows_filled : (at : ℕ) (there : Position) (v w : ℕ) (r : Row) (p : Fields) (insn : View) → kinds_fit r ≡ true → Means r p insn → fits r p ≡ true → field_holds (held_field at there r.immediate p.held) w ≡ true
    → Shows r (fill v (lowered r.immediate w) p) insn.name.0 insn.size insn.«prefix» (valued (length (bytes_of r p)) v w insn.first) (valued (length (bytes_of r p)) v w insn.second) (valued (length (bytes_of r p)) v w insn.third)
shows_filled at there v w r p insn g m h k =
    let f = fit_of r p h in
    let n = length (bytes_of r p) in
    let x = lowered r.immediate w in
    let kinds = and_parts _ _ (and_parts _ _ g).0 in
    let others = and_parts _ _ kinds.1 in
    let slot : (q : Pattern) (o : Seen) → kind_fits r.immediate q ≡ true → normal r.immediate q o ≡ shown (has_rex r p) n p q → exact r.immediate q (valued n v w o) ≡ shown (has_rex r (fill v x p)) (length (bytes_of r (fill v x p))) (fill v x p) q =
    λ q o z e. slot_valued at there (has_rex r p) n v w r.immediate p q o f.held k z e ∙ sym (rw (fill_rex v x r p, fill_same_length v x r p) refl) in
    record {
      name_is = m.name;
      size_is = m.size;
      prefix_is = m.words;
      first_is = slot r.first insn.first kinds.0 m.first;
      second_is = slot r.second insn.second others.0 m.second;
      third_is = slot r.third insn.third others.1 m.third;
    }

pub reads_filled : (n i : ℕ) (here there : Position) (v w : ℕ) (r : Row) (p : Fields) (insn : View) (moved held : Option Field) (bytes : List ℕ) → slice_get the_rows i ≡ Some r → fits r p ≡ true → Means r p insn
    → bytes ≡ bytes_of r p → n ≡ length bytes → moved ≡ moved_field (n - immediate_length r.immediate - 4) here p.place → held ≡ held_field (n - immediate_length r.immediate) there r.immediate p.held
    → field_holds moved v ≡ true → field_holds held w ≡ true → ReadsAs (filled held w (filled moved v bytes)) insn
    (valued (length bytes) v w insn.first) (valued (length bytes) v w insn.second) (valued (length bytes) v w insn.third)
reads_filled n i here there v w r p insn moved held bytes s h m b e mo he kv kw =
    let x = lowered r.immediate w in
    let at = n - immediate_length r.immediate in
    let len : n ≡ length (bytes_of r p) = e ∙ ap (λ (y : List ℕ). length y) b in
    let kv2 : field_holds (moved_field (at - 4) here p.place) v ≡ true = subst (λ (f : Option Field). field_holds f v ≡ true) mo kv in
    let kw2 : field_holds (held_field at there r.immediate p.held) w ≡ true = subst (λ (f : Option Field). field_holds f w ≡ true) he kw in
    let same : filled held w (filled moved v bytes) ≡ bytes_of r (fill v x p) =
    rw (mo, he, b) (filled_bytes n here there v w r p len h) in
    record {
      row = i;
      r = r;
      p = fill v x p;
      reads = record {
        found = s;
        fit = fill_fits (at - 4) at here there v w r p h kv2 kw2;
        held_known = known_held x p.held;
        place_known = known_place v p.place;
        bytes_are = same;
        insn_is = refl;
      };
      shows = subst (λ (l : List ℕ). Shows r (fill v x p) insn.name.0 insn.size insn.«prefix» (valued (length l) v w insn.first) (valued (length l) v w insn.second) (valued (length l) v w insn.third)) (sym b)
          (shows_filled at there v w r p insn (kinds_at i r s) m h kw2);
    }

taken_at : (insn : View) (x : Found) (r : Row) → Taking insn x r → (fits r (fields_of x.parts) ≡ true) × Means r (fields_of x.parts) insn
taken_at insn x r t = subst (λ (y : Fields). (fits r y ≡ true) × Means r y insn) (sym t.parts_are) (taken r insn t.taken)

pub taking_fills : (insn : View) (x : Found) (r : Row) (bytes : List ℕ) (here there : Position) (moved held : Option Field) → Taking insn x r → bytes ≡ bytes_of r (fields_of x.parts)
    → moved ≡ moved_field (x.length - immediate_length r.immediate - 4) here (located x.parts.displacement x.parts.place) → held ≡ held_field (x.length - immediate_length r.immediate) there r.immediate x.parts.immediate
    → (v w : ℕ) → field_holds moved v ≡ true → field_holds held w ≡ true → ReadsAs (filled held w (filled moved v bytes)) insn
    (valued (length bytes) v w insn.first) (valued (length bytes) v w insn.second) (valued (length bytes) v w insn.third)
taking_fills insn x r bytes here there moved held t b mo he v w kv kw =
    let a = taken_at insn x r t in
    let n : x.length ≡ length bytes = t.length_is ∙ ap (λ (y : Fields). length (bytes_of r y)) (sym t.parts_are) ∙ ap (λ (y : List ℕ). length y) (sym b) in
    reads_filled x.length x.row here there v w r (fields_of x.parts) insn moved held bytes t.found a.0 a.1 b n mo he kv kw

-- the fields of what is found
pub taking_notes : (insn : View) (x : Found) (r : Row) (made : Coding) (here there : Position) → Taking insn x r → made.bytes ≡ bytes_of r (fields_of x.parts)
    → made.displacement ≡ moved_field (x.length - immediate_length r.immediate - 4) here (located x.parts.displacement x.parts.place)
    → made.immediate ≡ held_field (x.length - immediate_length r.immediate) there r.immediate x.parts.immediate → Noted insn made
taking_notes insn x r made here there t b mo he =
    let a = taken_at insn x r t in
    let n : x.length ≡ length made.bytes = t.length_is ∙ ap (λ (y : Fields). length (bytes_of r y)) (sym t.parts_are) ∙ ap (λ (y : List ℕ). length y) (sym b) in
    record {
      row = x.row;
      r = r;
      p = fields_of x.parts;
      here = here;
      there = there;
      means = record { found = t.found; fit = a.0; means = a.1; bytes_are = b };
      moved = mo ∙ ap (λ (k : ℕ). moved_field (k - immediate_length r.immediate - 4) here (located x.parts.displacement x.parts.place)) n;
      held = he ∙ ap (λ (k : ℕ). held_field (k - immediate_length r.immediate) there r.immediate x.parts.immediate) n;
    }
