-- What is put into sections, and which are entered: each symbol that has a place stands in its section.
use Rattle.std.proofs.Common.{◌≡◌, ℕ, List, [], ◌∷◌, ◌++◌, length, Option, None, Some, Result, Ok, Err, inl, inr, refl, ap, ◌∙◌, slice_get}
use Rattle.std.specs.Prelude.{◌&&◌, All, not}
use Rattle.std.specs.List.{list_all}
use Rattle.asm_operands.specs.declared.place_faults.PlaceCause.{PlaceCause}
use Rattle.asm_base.specs.declared.notes.Noted.{Noted}
use Rattle.asm_base.specs.declared.positions.Pos.{Pos}
use Rattle.asm_base.specs.Tokens.{SpelledToken}
use Rattle.asm_expr.specs.Forms.{Form}
use Rattle.item_contents.specs.declared.contents.Content.{Content}
use Rattle.asm_base.specs.declared.causes.FragCause.{FragCause}
use Rattle.asm_frags.specs.declared.fields.FieldSize.{FieldSize}
use Rattle.item_contents.specs.Zeros.{is_zero}
use Rattle.item_contents.specs.Contents.{is_known_zeros}
use Rattle.asm_frags.specs.declared.roles.FieldRole.{FieldRole}
use Rattle.x86_insn.specs.declared.amounts.Suffix.{Suffix}
use Rattle.item_contents.specs.declared.kinds.Growth.{Growth}
use Rattle.asm_frags.specs.Writing.{LooseSection, new_item, takes_zeros_alone, with_item, with_bytes, with_field, with_growing, bytes_put, field_put, item_put, growing_put}
use Rattle.asm_values.specs.declared.stacks.Entered.{Entered}
use Rattle.asm_base.specs.Refusals.{◌>>=◌}
use Rattle.asm_operands.specs.Operands.{operands_of}
use Rattle.asm_uses.specs.Places.{spot_at}
use Rattle.asm_values.specs.State.{Placed, with_table, with_notes, with_names, known_here, put_section, put_bytes_into, put_field_into, put_growing_into, push_into}
use Rattle.asm_words.specs.SectionWords.{SectionWords, section_words, said_group}
use Rattle.asm_words.specs.declared.directives.Syntax.{Syntax}
use Rattle.asm_place.specs.SyntaxWords.{with_syntax}
use Rattle.asm_declarations.specs.SectionChanges.{with_current, option_trees, signed, with_signature, enter_words, place_section, entered_now, place_pushed, back_to, popped, entry_size_in}
use Rattle.asm_expr.specs.Trees.{Tree}
use Rattle.asm_place.specs.Instructions.{Grows}
use Rattle.asm_place.proofs.EnteredSections.{IsEntered, for_entered}
use Rattle.asm_place.proofs.SectionKinds.{headed}
use Rattle.asm_place.proofs.GrowthLemmas.{Adds, IsAdded, adds_nothing, item_added, bytes_added, field_added, growing_added}
use Rattle.asm_place.proofs.Walks.{Fine, made, refused, weaker, step, after, either}
use Rattle.asm_uses.specs.Tables.{naming_of, allowed}
use Rattle.std.proofs.Common.{◌-◌, ◌≤◌, arith, length-append}
use Rattle.std.proofs.lemmas.List.Elements.{All-push, All-take, All-weaker}
use Rattle.asm_symbols.specs.declared.entries.Meaning.{Meaning}
use Rattle.asm_symbols.specs.declared.entries.Meaning.TheVariants as meaning
use Rattle.asm_uses.specs.Tables.{Table, with_trees}
use Rattle.asm_place.specs.Instructions.{with_more}
use Rattle.cfi_directives.specs.declared.frames.Frame.{Frame}
use Rattle.cfi_directives.specs.declared.frames.PlacedOp.{PlacedOp}
use Rattle.cfi_directives.specs.Meant.{stop_of}
use Rattle.cfi_directives.specs.Procedures.{frames_of}
use Rattle.x86_insn.specs.declared.amounts.FieldKind.TheVariants.{Branch}
use Rattle.asm_frags.specs.Fields.{growth_role}
use Rattle.asm_place.specs.SymbolPlaces.{HasItems, HoldsTarget, FieldsAreOwn, MeaningStands, SymbolStands, ProcedureStands, PlacesStand}
use Rattle.asm_place.proofs.GrowthLemmas.{All-there, continued_on}
use Rattle.asm_place.proofs.OwnFields.{KeepsOwn, fields_more, there_fields, bytes_own, field_own, growing_own, is_fields}
use Rattle.asm_place.proofs.SectionSteps.{there_adds, is_added}
use Rattle.asm_place.proofs.SymbolLimits.{AreFit}
use Rattle.asm_place.proofs.SymbolTables.{Names, Tables, Allows, named_both, trees_stand, signed_stand, allowed_stand}

-- WHAT IS KEPT

-- how many symbols there are
abbrev pub count : Placed → ℕ
count placed = length placed.table.symbols.symbols

-- sections and the list of symbols only grow, all places stand, and where no symbol comes all are within the limits if they were
pub record Gains (before after : Placed) : Type 0 where
  pub grows : Grows before.sections after.sections
  pub more : count before ≤ count after
  pub stands : PlacesStand after
  pub alike : count after ≤ count before → AreFit before.table.symbols → AreFit after.table.symbols

-- and symbols and files are within the limits where they were
pub record Stays (before after : Placed) : Type 0 where
  pub grows : Grows before.sections after.sections
  pub more : count before ≤ count after
  pub stands : PlacesStand after
  pub fits : AreFit before.table.symbols → AreFit after.table.symbols

-- where names were asked for since there were so many symbols, all are within the limits in the end if they were with no more symbols than that
pub record Closes (base : ℕ) (before after : Placed) : Type 0 where
  pub grows : Grows before.sections after.sections
  pub more : count before ≤ count after
  pub stands : PlacesStand after
  pub few : (count before ≤ base → AreFit before.table.symbols) → AreFit after.table.symbols

-- steps that keep it so
abbrev pub Walks : {E : Type 0} → Placed → Result Placed E → Type 0
Walks before = Fine (Stays before)

-- sections that stay
pub not_grown : (sections : List LooseSection) → Grows sections sections
not_grown sections = (adds_nothing sections).grows

-- sections that grow twice
pub grown_twice : (one two three : List LooseSection) → Grows one two → Grows two three → Grows one three
grown_twice one two three first last =
    record { kept = λ number section there. continued_on section _ _ (first.kept number section there) (λ s is. last.kept number s is) }

-- a step behind another
pub stays_on : {E : Type 0} (before between : Placed) (r : Result Placed E) → Stays before between → Walks between r → Walks before r
stays_on before between (Ok x) stays later =
    let first = stays.more in
    let last = later.holds.more in
    record {
      holds = record {
        grows = grown_twice before.sections between.sections x.sections stays.grows later.holds.grows;
        more = omega (arith, first, last);
        stands = later.holds.stands;
        fits = λ fit. later.holds.fits (stays.fits fit);
      };
    }
stays_on before between (Err fault) stays later = refused fault

-- steps before those that close a statement
pub closes_on : {E : Type 0} (base : ℕ) (before between : Placed) (r : Result Placed E) → Stays before between → Fine (Closes base between) r → Fine (Closes base before) r
closes_on base before between (Ok x) stays later =
    let first = stays.more in
    let last = later.holds.more in
    record {
      holds = record {
        grows = grown_twice before.sections between.sections x.sections stays.grows later.holds.grows;
        more = omega (arith, first, last);
        stands = later.holds.stands;
        few = λ old. later.holds.few (λ le. stays.fits (old (omega (arith, le, first))));
      };
    }
closes_on base before between (Err fault) stays later = refused fault

-- a statement that asks for names, and closes
pub closed : {E : Type 0} (before named : Placed) (r : Result Placed E) → Gains before named → Fine (Closes (count before) named) r → Walks before r
closed before named (Ok x) gains later =
    let first = gains.more in
    let last = later.holds.more in
    record {
      holds = record {
        grows = grown_twice before.sections named.sections x.sections gains.grows later.holds.grows;
        more = omega (arith, first, last);
        stands = later.holds.stands;
        fits = λ fit. later.holds.few (λ le. gains.alike le fit);
      };
    }
closed before named (Err fault) gains later = refused fault

-- the same of steps one after the other
pub walked : {E : Type 0} (before : Placed) {r : Result Placed E} {f : Placed → Result Placed E} → Walks before r → ((x : Placed) → PlacesStand x → Walks x (f x)) → Walks before (r >>= f)
walked before {f = f} first later = step first (λ x stays. stays_on before x (f x) stays (later x stays.stands))

-- what two laws say of one answer
pub both_fine : {A E : Type 0} {P Q : A → Type 0} (r : Result A E) → Fine P r → Fine Q r → Fine (λ x. P x × Q x) r
both_fine (Ok x) one other = made x (one.holds, other.holds)
both_fine (Err fault) one other = refused fault

-- nothing is placed
pub unmoved : (placed : Placed) → PlacesStand placed → Stays placed placed
unmoved placed stands = record { grows = not_grown placed.sections; more = omega arith; stands = stands; fits = λ fit. fit }

-- what stands in sections stands there when they have grown
pub items_grow : (before after : List LooseSection) (number items : ℕ) → Grows before after → HasItems before number items → HasItems after number items
items_grow before after number items grows has =
    let later = grows.kept number has.section has.there in
    let enough = has.enough in
    record { section = with_more has.section later.bytes later.fields later.items; there = later.there; enough = omega (arith, enough, length-append has.section.items later.items) }

-- what a symbol is stands where sections have grown
meaning_grows : (before after : List LooseSection) (last : ℕ) → Grows before after → (meant : Meaning) → MeaningStands before last meant → MeaningStands after last meant
meaning_grows before after last grows meaning.Undefined stands = tt
meaning_grows before after last grows (meaning.Label spot) stands = items_grow before after spot.place.section spot.place.place.item grows stands
meaning_grows before after last grows (meaning.Common size align) stands = tt
meaning_grows before after last grows (meaning.Space spot) stands = items_grow before after spot.place.section spot.place.place.item grows stands
meaning_grows before after last grows (meaning.Assigned form) stands = stands

-- procedures stand where they stood
pub procedures_grow : (before after : List LooseSection) → Grows before after → (frames : List Frame) → All (ProcedureStands before) frames → All (ProcedureStands after) frames
procedures_grow before after grows frames stand =
    All-weaker (ProcedureStands before) (ProcedureStands after) (λ frame was. record {
      start = items_grow before after frame.section frame.start.item grows was.start;
      stop = items_grow before after frame.section (stop_of frame).item grows was.stop;
      ops = All-weaker (λ (placed : PlacedOp). HasItems before frame.section placed.place.item) (λ (placed : PlacedOp). HasItems after frame.section placed.place.item)
          (λ placed has. items_grow before after frame.section placed.place.item grows has) frame.ops was.ops;
    }) frames stand

-- sections that are entered and come back to
abbrev pub EntryStands : List LooseSection → Entered → Type 0
EntryStands sections entered = HasItems sections entered.current 0 × HasItems sections entered.previous 0

-- sections alone grow
pub sections_stay : (placed : Placed) (sections : List LooseSection) → Grows placed.sections sections → (FieldsAreOwn (count placed) placed.sections → FieldsAreOwn (count placed) sections)
    → PlacesStand placed → Stays placed (record placed { sections = sections })
sections_stay placed sections grows keeps stands = record {
  grows = grows;
  more = omega arith;
  stands = record {
    current = items_grow placed.sections sections placed.current 0 grows stands.current;
    previous = items_grow placed.sections sections placed.previous 0 grows stands.previous;
    stack = All-weaker (EntryStands placed.sections) (EntryStands sections)
        (λ entered was. (items_grow placed.sections sections entered.current 0 grows was.0, items_grow placed.sections sections entered.previous 0 grows was.1))
        placed.stack stands.stack;
    first = λ number few. items_grow placed.sections sections number 0 grows (stands.first number few);
    symbols = record {
      each = All-weaker (SymbolStands placed.sections (count placed)) (SymbolStands sections (count placed))
          (λ symbol was. (meaning_grows placed.sections sections (count placed) grows symbol.meaning was.0, was.1)) placed.table.symbols.symbols stands.symbols.each;
      forward = stands.symbols.forward;
    };
    procedures = procedures_grow placed.sections sections grows (frames_of placed.procedures) stands.procedures;
    fields = keeps stands.fields;
  };
  fits = λ fit. fit;
}

-- symbols alone change
pub table_stays : (placed : Placed) (table : Table) → Tables placed.sections placed.table table → PlacesStand placed → Stays placed (with_table placed table)
table_stays placed table kept stands = record {
  grows = not_grown placed.sections;
  more = kept.more;
  stands = record {
    current = stands.current;
    previous = stands.previous;
    stack = stands.stack;
    first = stands.first;
    symbols = kept.kept stands.symbols;
    procedures = stands.procedures;
    fields = fields_more (count placed) (length table.symbols.symbols) kept.more placed.sections stands.fields;
  };
  fits = kept.fits;
}

-- names alone come
pub table_gains : (placed : Placed) (table : Table) → Names placed.sections placed.table.symbols table.symbols → PlacesStand placed → Gains placed (with_table placed table)
table_gains placed table kept stands = record {
  grows = not_grown placed.sections;
  more = kept.more;
  stands = record {
    current = stands.current;
    previous = stands.previous;
    stack = stands.stack;
    first = stands.first;
    symbols = kept.kept stands.symbols;
    procedures = stands.procedures;
    fields = fields_more (count placed) (length table.symbols.symbols) kept.more placed.sections stands.fields;
  };
  alike = kept.alike;
}

-- names are allowed
pub table_closes : (base : ℕ) (placed : Placed) (table : Table) → Allows placed.sections base placed.table table → PlacesStand placed → Closes base placed (with_table placed table)
table_closes base placed table kept stands = record {
  grows = not_grown placed.sections;
  more = kept.more;
  stands = record {
    current = stands.current;
    previous = stands.previous;
    stack = stands.stack;
    first = stands.first;
    symbols = kept.kept stands.symbols;
    procedures = stands.procedures;
    fields = fields_more (count placed) (length table.symbols.symbols) kept.more placed.sections stands.fields;
  };
  few = kept.few;
}

-- another section is entered
pub current_stays : (number : ℕ) (placed : Placed) → HasItems placed.sections number 0 → PlacesStand placed → Stays placed (with_current number placed)
current_stays number placed there stands = record {
  grows = not_grown placed.sections;
  more = omega arith;
  stands = record { current = there; previous = stands.current; stack = stands.stack; first = stands.first; symbols = stands.symbols; procedures = stands.procedures; fields = stands.fields };
  fits = λ fit. fit;
}

-- notes change nothing of it, behind what closes a statement,
pub notes_close : (notes : List Noted) (base : ℕ) (before placed : Placed) → Closes base before placed → Closes base before (with_notes notes placed)
notes_close notes base before placed closes = record {
  grows = closes.grows;
  more = closes.more;
  stands = record { current = closes.stands.current; previous = closes.stands.previous; stack = closes.stands.stack; first = closes.stands.first; symbols = closes.stands.symbols; procedures = closes.stands.procedures; fields = closes.stands.fields };
  few = closes.few;
}

-- nor alone
pub notes_stay : (notes : List Noted) (placed : Placed) → PlacesStand placed → Stays placed (with_notes notes placed)
notes_stay notes placed stands = record {
  grows = not_grown placed.sections;
  more = omega arith;
  stands = record { current = stands.current; previous = stands.previous; stack = stands.stack; first = stands.first; symbols = stands.symbols; procedures = stands.procedures; fields = stands.fields };
  fits = λ fit. fit;
}

-- nor does the syntax
pub syntax_stays : (syntax : Syntax) (placed : Placed) → PlacesStand placed → Stays placed (with_syntax syntax placed)
syntax_stays syntax placed stands = record {
  grows = not_grown placed.sections;
  more = omega arith;
  stands = record { current = stands.current; previous = stands.previous; stack = stands.stack; first = stands.first; symbols = stands.symbols; procedures = stands.procedures; fields = stands.fields };
  fits = λ fit. fit;
}

-- the names of expressions become symbols
pub names_gain : (pos : Pos) (trees : List Tree) (placed : Placed) → PlacesStand placed → Gains placed (with_names pos trees placed)
names_gain pos trees placed stands = table_gains placed (with_trees pos trees placed.table) (trees_stand placed.sections pos trees placed.table) stands

-- the place of a statement stands
pub spot_stands : (sections : List LooseSection) (number : ℕ) → HasItems sections number 0 → HasItems sections (spot_at sections number).place.section (spot_at sections number).place.place.item
unfolding spot_at
spot_stands sections number has =
    rw has.there (record { section = has.section; there = has.there; enough = omega arith })

-- the table that a step makes on what is placed
pub table_walk : (placed : Placed) (r : Result Table PlaceCause) → PlacesStand placed → Fine (Tables placed.sections placed.table) r → Walks placed (r >>= λ table. Ok (with_table placed table))
table_walk placed r stands fine = step fine (λ table kept. made (with_table placed table) (table_stays placed table kept stands))

-- the table that closes a statement
pub table_close : (base : ℕ) (placed : Placed) (r : Result Table PlaceCause) → PlacesStand placed → Fine (Allows placed.sections base placed.table) r
    → Fine (Closes base placed) (r >>= λ table. Ok (with_table placed table))
table_close base placed r stands fine = step fine (λ table kept. made (with_table placed table) (table_closes base placed table kept stands))

-- WHAT IS PUT

-- something is put into a section
put_walk : (put : LooseSection → Result LooseSection FragCause) → ((section : LooseSection) → Fine (IsAdded section) (put section)) → (number : ℕ) (placed : Placed)
    → ((section : LooseSection) → Fine (KeepsOwn (count placed) number section) (put section)) → PlacesStand placed → Walks placed (put_section put number placed)
put_walk put puts number placed owns stands =
    step (both_fine _ (there_adds put puts placed.sections number (slice_get placed.sections number) refl)
    (there_fields (count placed) put placed.sections number (slice_get placed.sections number) refl owns))
    (λ sections both. made (record placed { sections = sections }) (sections_stay placed sections both.0.grows both.1 stands))

-- bytes
pub bytes_walk : (pos : Pos) (number : ℕ) (bytes : List ℕ) (placed : Placed) → PlacesStand placed → Walks placed (put_bytes_into pos number bytes placed)
unfolding put_bytes_into
bytes_walk pos number bytes placed stands =
    put_walk (bytes_put pos bytes)
    (λ section. either (takes_zeros_alone section && not (list_all is_zero bytes)) (refused _) (made (with_bytes pos bytes section) (bytes_added pos bytes section)))
    number placed
    (λ section. either (takes_zeros_alone section && not (list_all is_zero bytes)) (refused _)
    (made (with_bytes pos bytes section) (bytes_own (count placed) pos number bytes section))) stands

-- a field
pub field_walk : (pos : Pos) (number : ℕ) (size : FieldSize) (role : FieldRole) (form : Form) (placed : Placed) → PlacesStand placed
    → Walks placed (put_field_into pos number size role form placed)
unfolding put_field_into
field_walk pos number size role form placed stands =
    put_walk (field_put pos number size role form)
    (λ section. either (takes_zeros_alone section) (refused _)
    (made (with_field pos number size role form section) (field_added pos number size role form section))) number placed
    (λ section. either (takes_zeros_alone section) (refused _)
    (made (with_field pos number size role form section) (field_own (count placed) pos number size role form section))) stands

-- an item
pub push_walk : (pos : Pos) (number : ℕ) (item : Content) (placed : Placed) → PlacesStand placed → Walks placed (push_into pos number item placed)
unfolding push_into
push_walk pos number item placed stands =
    put_walk (item_put (new_item pos item))
    (λ section. either (takes_zeros_alone section && not (is_known_zeros item)) (refused _)
    (made (with_item (new_item pos item) section) (item_added (new_item pos item) section))) number placed
    (λ section. either (takes_zeros_alone section && not (is_known_zeros item)) (refused _) (made (with_item (new_item pos item) section) (λ own. own))) stands

-- an item that grows
pub growing_walk : (pos : Pos) (number : ℕ) (kind : Growth) (suffix : Option Suffix) (form : Form) (placed : Placed)
    → ((growth_role kind suffix).kind ≡ Branch → HoldsTarget (count placed) form) → PlacesStand placed → Walks placed (put_growing_into pos number kind suffix form placed)
unfolding put_growing_into
growing_walk pos number kind suffix form placed target stands =
    put_walk (growing_put pos number kind suffix form)
    (λ section. either (takes_zeros_alone section) (refused _)
    (made (with_growing pos number kind suffix form section) (growing_added pos number kind suffix form section))) number placed
    (λ section. either (takes_zeros_alone section) (refused _)
    (made (with_growing pos number kind suffix form section) (growing_own (count placed) pos number kind suffix form section target))) stands

-- SECTIONS THAT ARE ENTERED

-- the section of this number is there
abbrev IsThere : List LooseSection × ℕ → Type 0
IsThere pair = HasItems pair.0 pair.1 0

-- what is put last is there
last_there : (sections : List LooseSection) (new : LooseSection) → slice_get (sections ++ new ∷ []) (length sections) ≡ Some new
last_there [] new = refl
last_there (section ∷ sections) new = last_there sections new

-- a section that is entered is there, and where it is new it has no fields and no items
is_there : (sections : List LooseSection) (pair : List LooseSection × ℕ) → IsEntered sections pair → IsThere pair
is_there sections pair is = elim is [
  | inl old ↦ record { section = old.section; there = ap (λ all. slice_get all pair.1) old.same ∙ old.there; enough = omega arith }
  | inr new ↦ record {
    section = new.section;
    there = ap (λ all. slice_get all pair.1) new.last ∙ (ap (slice_get (sections ++ new.section ∷ [])) new.number ∙ last_there sections new.section);
    enough = omega arith;
  }
]

-- the names of a statement of `.section` become symbols
signed_gain : (pos : Pos) (trees : List Tree) (signature : Option (List ℕ)) (placed : Placed) → PlacesStand placed
    → Gains placed (with_signature pos signature (with_names pos trees placed))
signed_gain pos trees signature placed stands =
    let one = with_trees pos trees placed.table in
    table_gains placed (signed pos signature one)
    (named_both placed.sections placed.table.symbols one.symbols (signed pos signature one).symbols (trees_stand placed.sections pos trees placed.table)
    (signed_stand placed.sections pos signature one)) stands

-- what is known of sections where one is entered
record IsGrown (last : ℕ) (sections : List LooseSection) (pair : List LooseSection × ℕ) : Type 0 where
  adds : Adds sections pair.0
  there : IsThere pair
  fields : FieldsAreOwn last sections → FieldsAreOwn last pair.0

is_grown : (last : ℕ) (sections : List LooseSection) (pair : List LooseSection × ℕ) → IsEntered sections pair → IsGrown last sections pair
is_grown last sections pair is = record { adds = is_added sections pair is; there = is_there sections pair is; fields = is_fields last sections pair is }

-- `.section` by its words
enter_walk : (pos : Pos) (words : SectionWords) (placed : Placed) → PlacesStand placed → Walks placed (enter_words pos words placed)
unfolding enter_words
enter_walk pos words placed stands =
    let trees = option_trees words.entry_size in
    let named = with_signature pos words.signature (with_names pos trees placed) in
    let names = signed_gain pos trees words.signature placed stands in
    closed placed named _ names
    (after (entry_size_in (known_here named) words.entry_size)
    (λ size. step (headed placed.sections words size)
    (λ header other. after (said_group words)
    (λ group. step (weaker (for_entered placed.sections group words.name header other) (λ pair is. is_grown (count named) placed.sections pair is))
    (λ pair has. let more = sections_stay named pair.0 has.adds.grows has.fields names.stands in
    let there = current_stays pair.1 (record named { sections = pair.0 }) has.there more.stands in
    closes_on (count placed) named (record named { sections = pair.0 }) _ more
    (closes_on (count placed) (record named { sections = pair.0 }) (with_current pair.1 (record named { sections = pair.0 })) _ there
    (table_close (count placed) (with_current pair.1 (record named { sections = pair.0 })) (allowed (naming_of trees placed.table) named.table) there.stands
    (allowed_stand pair.0 (naming_of trees placed.table) named.table))))))))

-- and by its tokens
pub section_walk : (pos : Pos) (tokens : List SpelledToken) (placed : Placed) → PlacesStand placed → Walks placed (place_section pos tokens placed)
unfolding place_section
section_walk pos tokens placed stands = after (section_words (operands_of tokens)) (λ words. enter_walk pos words placed stands)

-- `.pushsection`
pub pushed_walk : (pos : Pos) (tokens : List SpelledToken) (placed : Placed) → PlacesStand placed → Walks placed (place_pushed pos tokens placed)
unfolding place_pushed
pushed_walk pos tokens placed stands =
    step (section_walk pos tokens placed stands)
    (λ entered stays. made _ (record {
      grows = stays.grows;
      more = stays.more;
      stands = record {
        current = stays.stands.current;
        previous = stays.stands.previous;
        stack = All-push (EntryStands entered.sections) entered.stack (entered_now placed) stays.stands.stack
            (items_grow placed.sections entered.sections placed.current 0 stays.grows stands.current, items_grow placed.sections entered.sections placed.previous 0 stays.grows stands.previous);
        first = stays.stands.first;
        symbols = stays.stands.symbols;
        procedures = stays.stands.procedures;
        fields = stays.stands.fields;
      };
      fits = stays.fits;
    }))

-- a section that is come back to
back_walk : (entered : Option Entered) (placed : Placed) → slice_get placed.stack (length placed.stack - 1) ≡ entered → PlacesStand placed → Walks placed (back_to entered placed)
back_walk None placed is stands = refused _
back_walk (Some entered) placed is stands =
    let entry = All-there (EntryStands placed.sections) placed.stack (length placed.stack - 1) entered is stands.stack in
    made _ (record {
      grows = not_grown placed.sections;
      more = omega arith;
      stands = record {
        current = entry.0;
        previous = entry.1;
        stack = All-take (EntryStands placed.sections) (length placed.stack - 1) placed.stack stands.stack;
        first = stands.first;
        symbols = stands.symbols;
        procedures = stands.procedures;
        fields = stands.fields;
      };
      fits = λ fit. fit;
    })

-- `.popsection`
pub popped_walk : (placed : Placed) → PlacesStand placed → Walks placed (popped placed)
unfolding popped
popped_walk placed stands = back_walk _ placed refl stands
