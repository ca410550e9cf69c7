-- What is kept where items come to address 0, and where the forms of fields are substituted.
use Rattle.std.proofs.Common.{◌≡◌, ℕ, zero, suc, ◌+◌, ◌<◌, ◌≤◌, max, Bool, List, [], ◌∷◌, ◌++◌, length, map, take, drop, refl, sym, ap, ◌∙◌, subst, arith, add-one, get_or, set}
use Rattle.std.specs.List.{fold}
use Rattle.std.proofs.lemmas.List.{length-map, append-nil, take_all, drop_all}
use Rattle.std.proofs.lemmas.Simd.{map-map}
use Rattle.std.proofs.lemmas.List.Elements.{All-map}
use Rattle.asm_expr.specs.Forms.{Form}
use Rattle.asm_frags.specs.declared.phases.Laid.{Laid}
use Rattle.asm_frags.specs.declared.fields.Field.{Field}
use Rattle.asm_frags.specs.declared.items.Frag.{Frag}
use Rattle.asm_frags.specs.declared.known_extents.KnownExtent.{KnownExtent}
use Rattle.item_contents.specs.Contents.{alignment_of}
use Rattle.asm_frags.specs.PlainBytes.{field_end, FieldsStand, AreBytes}
use Rattle.asm_frags.specs.Alignments.{alignment_of_all}
use Rattle.asm_frags.specs.KnownExtents.{advanced, extent_of}
use Rattle.asm_frags.specs.declared.groups.Group.{Group}
use Rattle.asm_frags.specs.declared.section_keys.MemberKey.{MemberKey}
use Rattle.asm_frags.specs.Sound.{AreNamed, heading_of}
use Rattle.asm_frags.specs.Writing.{LooseItem, LooseSection, ends_in_run}
use Rattle.asm_frags.specs.SoundItems.{AreItems, AreBehind}
use Rattle.asm_frags.specs.Substituting.{substituted_field, laid_item, laid_section}

-- the elements before an index are changed, and the others are not
abbrev pub front_changed : {X : Type 0} → (X → X) → List X → ℕ → List X
front_changed change all count = map change (take count all) ++ drop count all

-- the element at the index is changed too
pub front_changed_more : {X : Type 0} (change : X → X) (all : List X) (count : ℕ) (there : X) → count < length all → there ≡ get_or (front_changed change all count) count there
    → set (front_changed change all count) count (change there) ≡ front_changed change all (suc count)
front_changed_more change [] count there within is = absurd (omega arith)
front_changed_more change (x ∷ all) zero there within is = ap (λ y. change y ∷ all) is
front_changed_more change (x ∷ all) (suc count) there within is = ap (λ ys. change x ∷ ys) (front_changed_more change all count there (omega arith) is)

-- a vector whose elements were lent has the changed ones and nothing else
pub all_back : {X : Type 0} (change : X → X) (before after : List X) (count : ℕ) → length before ≡ count → after ≡ map change before
    → take count (after ++ drop (length after) before) ≡ map change before
all_back change before after count long is =
    let same : length after ≡ length before = ap length is ∙ length-map before change in
    let none : drop (length after) before ≡ [] = drop_all (length after) before (omega arith) in
    ap (λ ys. take count (after ++ ys)) none ∙ ap (take count) (append-nil after) ∙ take_all count after (omega arith) ∙ is

alignment-laid : (items : List LooseItem) → alignment_of_all (map laid_item items) ≡ alignment_of_all items
alignment-laid [] = refl
alignment-laid (item ∷ items) = ap (max (alignment_of item.content)) (alignment-laid items)

extent-laid : (extent : KnownExtent) (items : List LooseItem) → fold advanced extent (map laid_item items) ≡ fold advanced extent items
extent-laid extent [] = refl
extent-laid extent (item ∷ items) = extent-laid (advanced extent item) items

end-laid : (items : List LooseItem) → ends_in_run (map laid_item items) ≡ ends_in_run items
end-laid [] = refl
end-laid (item ∷ []) = refl
end-laid (item ∷ next ∷ items) = end-laid (next ∷ items)

-- what is kept of items looks at no address
pub items_at_zero : (items : List LooseItem) (all : List (Frag Laid ℕ)) (alignment : ℕ) (extent : KnownExtent) (in_run : Bool) → AreItems items alignment extent in_run
    → all ≡ map laid_item items → AreItems all alignment extent in_run
unfolding extent_of
items_at_zero items all alignment extent in_run sound is =
    let long : length (map laid_item items) ≡ length items = simp length-map in
    rw is (record {
      few = rw long sound.few;
      aligned = sound.aligned ∙ sym (alignment-laid items);
      known = sound.known ∙ sym (extent-laid (record { breaks = 0; bytes = 0 }) items);
      breaks = rw long sound.breaks;
      bytes = rw long sound.bytes;
      last = sound.last ∙ sym (end-laid items);
    })

-- the items stand where they stood
pub behind_at_zero : (bytes : ℕ) (items : List LooseItem) (all : List (Frag Laid ℕ)) → AreBehind bytes items → all ≡ map laid_item items → AreBehind bytes all
behind_at_zero bytes items all sound is = rw is (All-map (λ (item : Frag Laid ℕ). item.offset ≤ bytes) laid_item items sound)

module _ (substitute : Form → Form) where
  -- the field at the index has its substituted form
  pub field_more : (all fields : List Field) (count : ℕ) (there old new : Field) → count < length all
      → fields ≡ front_changed (substituted_field substitute) all count → there ≡ get_or fields count old → old ≡ there → new ≡ substituted_field substitute there
      → set fields count new ≡ front_changed (substituted_field substitute) all (count + 1)
  field_more all fields count there old new within held is same made =
      let found : there ≡ get_or (front_changed (substituted_field substitute) all count) count there =
      is ∙ ap (get_or fields count) same ∙ ap (λ (fs : List Field). get_or fs count there) held in
      rw add-one (ap (λ (fs : List Field). set fs count new) held
      ∙ ap (λ (f : Field). set (front_changed (substituted_field substitute) all count) count f) made
      ∙ front_changed_more (substituted_field substitute) all count there within found)

  stand-substituted : (bytes : List ℕ) (from : ℕ) (fields : List Field) → FieldsStand bytes from fields → FieldsStand bytes from (map (substituted_field substitute) fields)
  stand-substituted bytes from [] stand = tt
  stand-substituted bytes from (field ∷ fields) stand =
      (stand.0, record { within = stand.1.within; zeros = stand.1.zeros }, stand-substituted bytes (field_end field) fields stand.2)

  -- the fields stand where they stood
  pub fields_substituted : (bytes : List ℕ) (fields all : List Field) → AreBytes bytes fields → all ≡ map (substituted_field substitute) fields → AreBytes bytes all
  fields_substituted bytes fields all sound is = rw is (record { small = sound.small; stand = stand-substituted bytes 0 fields sound.stand })

  headings-substituted : (sections : List LooseSection) → map heading_of (map (laid_section substitute) sections) ≡ map heading_of sections
  headings-substituted sections = map-map heading_of (laid_section substitute) sections

  -- the sections keep their headings
  pub named_substituted : (names : List (List ℕ × ℕ)) (members : List (MemberKey × ℕ)) (groups : List Group) (sections : List LooseSection) (all : List _)
      → AreNamed names members groups (map heading_of sections) → all ≡ map (laid_section substitute) sections → AreNamed names members groups (map heading_of all)
  named_substituted names members groups sections all sound is = rw is (subst (AreNamed names members groups) (sym (headings-substituted sections)) sound)
