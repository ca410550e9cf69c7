-- Statements of any kind but direct jumps are laid as their items.
use Rattle.std.proofs.Common.{◌≡◌, ℕ, ◌%◌, ◌^◌, ◌==◌, ◌&&◌, ◌||◌, is_some, List, [], ◌∷◌, cond, Bool, true, false, drop, Option, Some, None, Result, Ok, Err, refl, sym, ap, ◌∙◌, subst, arith}
use Rattle.std.specs.Prelude.{not, codes}
use Rattle.std.proofs.lemmas.Bool.Decides.{nat_tests}
use Rattle.std.proofs.lemmas.Option.{none-some, same_Some}
use Rattle.asm_base.specs.Refusals.{◌>>=◌}
use Rattle.asm_base.specs.Tokens.{SpelledToken}
use Rattle.asm_base.specs.declared.positions.Pos.{Pos}
use Rattle.asm_lines.specs.NextStatements.{TokenStatement}
use Rattle.asm_symbols.specs.SymbolMap.{SymbolMap}
use Rattle.asm_frags.specs.SectionOf.{section_number}
use Rattle.section_laws.specs.Within.{AreWithin}
use Rattle.asm_relax.specs.Settling.{LaidSections}
use Rattle.asm_operands.specs.declared.place_faults.PlaceCause.{PlaceCause}
use Rattle.asm_operands.specs.Operands.{begins_with_label, is_name, names_symbol, is_assignment, begins_with_dot}
use Rattle.asm_words.specs.declared.directives.AlignedBy.{AlignedBy}
use Rattle.asm_words.specs.declared.directives.Directive.{Directive}
use Rattle.asm_words.specs.declared.directives.Directive.TheVariants as directive
use Rattle.asm_words.specs.Directives.{directive_of}
use Rattle.asm_words.specs.Paddings.{padding_of}
use Rattle.asm_items.specs.Alignments.{is_code, place_align}
use Rattle.asm_values.specs.State.{Placed}
use Rattle.asm_declarations.specs.Commons.{bss}
use Rattle.x86_insn.specs.Views.{View}
use Rattle.insn_effects.specs.Flows.{flow_of}
use Rattle.insn_effects.specs.Followed.{flow_by, is_data, is_padding}
use Rattle.asm_place.specs.declared.bodies.Body.{Body}
use Rattle.asm_place.specs.declared.bodies.Body.TheVariants as body
use Rattle.asm_place.specs.Bodies.{body_of}
use Rattle.asm_place.specs.CodePlaces.{BeginsAsInstruction}
use Rattle.asm_place.specs.Effects.{insn_view, fill_said}
use Rattle.asm_place.specs.Instructions.{Grows}
use Rattle.asm_place.specs.Placing.{place_by, place_found, place_directive, place_body, place_unlabelled, place_label, place_labelled, has_wide_label, place_tokens}
use Rattle.asm_place.specs.Sources.{pos_at, place, place_all}
use Rattle.code_functions.specs.declared.items.CodeItem.{CodeItem}
use Rattle.code_functions.specs.Seen.{seen, data_item}
use Rattle.flow_graph.specs.declared.nodes.Node.{Node}
use Rattle.flow_graph.specs.declared.targets.Target.{Target}
use Rattle.flow_graph.specs.Nodes.{node_by}
use Rattle.asm_functions.specs.Following.{end_of, fields_in, same_place, fills_with_code, plain_item, item_seen}
use Rattle.asm_functions.specs.Joined.{PutItem, moved_put, insn_put, directive_put, body_put}
use Rattle.scfi_laws.specs.Laid.{plain, padding, inert}
use Rattle.scfi_laws.specs.LaidLaws.{NodesSuitItems}
use Rattle.item_readings.specs.Items.{IsItemOf}
use Rattle.code_laws.specs.Sections.{IsLoadedLater}
use Rattle.code_laws.specs.Codes.{AreNumbered, IsNoJump}
use Rattle.code_laws.specs.Instructions.{InstructionsAreLaid}
use Rattle.code_laws.specs.Padding.{PadsCode, FillsWithNoOperations, AlignmentsAreLaid, DataAreLaid}
use Rattle.code_laws.specs.Statements.{IsLaidIn, StatementsAreLaid}
use Rattle.code_laws.proofs.Placing.{err-ok, tokens_placed, one_placed}

-- what is known of each kind of item
pub record Facts : Type 0 where
  pub insns : InstructionsAreLaid
  pub aligns : AlignmentsAreLaid
  pub inerts : DataAreLaid
  pub suit : NodesSuitItems
  pub grow : (statements : List TokenStatement) (before placed : Placed) → place_all statements before ≡ Ok placed → Grows before.sections placed.sections
  pub seen : (s : TokenStatement) (before placed : Placed) → begins_with_label s.tokens ≡ false → body_of s.tokens ≡ body.Instruction → place s before ≡ Ok placed
      → is_some (insn_view (pos_at s.file s.line) s.tokens before) ≡ true

-- PLACING

no_wide : (test : Bool) (fault : PlaceCause) (answer : Result Placed PlaceCause) (placed : Placed) → cond test (Err fault) answer ≡ Ok placed → answer ≡ Ok placed
no_wide true fault answer placed is = err-ok fault placed is
no_wide false fault answer placed is = is

labelled_as : (pos : Pos) (tokens : List SpelledToken) (placed : Placed) → begins_with_label tokens ≡ false → place_labelled pos tokens placed ≡ place_unlabelled pos tokens placed
unfolding place_labelled place_unlabelled
labelled_as pos [] placed is = refl
labelled_as pos (first ∷ []) placed is = refl
labelled_as pos (first ∷ second ∷ rest) placed is =
    ap (λ b. cond b (place_label pos first placed >>= (λ labels. place_labelled pos rest labels)) (place_body pos first (second ∷ rest) placed)) is

unlabelled : (pos : Pos) (tokens : List SpelledToken) (before placed : Placed) → begins_with_label tokens ≡ false → place_tokens pos tokens before ≡ Ok placed
    → place_unlabelled pos tokens before ≡ Ok placed
unfolding place_tokens
unlabelled pos tokens before placed none is =
    sym (labelled_as pos tokens before none) ∙ no_wide (has_wide_label tokens) _ (place_labelled pos tokens before) placed is

abbrev body_by : (assigns named dotted : Bool) → Option Directive → Body
body_by assigns named dotted found = cond assigns body.Assignment (cond (not named) body.Unknown (cond dotted (body.Directed found) body.Instruction))

directive_test : (assigns named dotted : Bool) (found directed : Option Directive) (assignment unnamed directive instruction : Result Placed PlaceCause)
    → body_by assigns named dotted found ≡ body.Directed directed
    → (cond assigns assignment (cond (not named) unnamed (cond dotted directive instruction)) ≡ directive) × (found ≡ directed)
directive_test true named dotted found directed assignment unnamed directive instruction is = absurd (cc)
directive_test false false dotted found directed assignment unnamed directive instruction is = absurd (cc)
directive_test false true true found directed assignment unnamed directive instruction is = (refl, cc)
directive_test false true false found directed assignment unnamed directive instruction is = absurd (cc)

align_body : (pos : Pos) (by : AlignedBy) (tokens : List SpelledToken) (placed : Placed) → body_of tokens ≡ body.Directed (Some (directive.Align by))
    → place_unlabelled pos tokens placed ≡ place_align pos by (drop 1 tokens) placed
unfolding place_unlabelled place_body place_directive place_by
align_body pos by [] placed is = absurd (cc)
align_body pos by (first ∷ rest) placed is =
    let parts = directive_test (names_symbol first && is_assignment rest) (is_name first) (begins_with_dot first.bytes) (directive_of first.bytes)
    (Some (directive.Align by)) _ _ (place_directive pos first.bytes rest placed) _ is in
    parts.0 ∙ ap (λ found. place_found found pos rest placed) parts.1

insn_test : (assigns named dotted : Bool) (found : Option Directive) → body_by assigns named dotted found ≡ body.Instruction
    → (assigns ≡ false) × (named ≡ true) × (dotted ≡ false)
insn_test true named dotted found is = absurd (cc)
insn_test false false dotted found is = absurd (cc)
insn_test false true true found is = absurd (cc)
insn_test false true false found is = (refl, refl, refl)

-- the tokens of an instruction
pub record Begins (tokens : List SpelledToken) : Type 0 where
  pub first : SpelledToken
  pub rest : List SpelledToken
  pub are : tokens ≡ first ∷ rest
  pub begins : BeginsAsInstruction first rest

pub begins_so : (tokens : List SpelledToken) → body_of tokens ≡ body.Instruction → Begins tokens
begins_so [] is = absurd (cc)
begins_so (first ∷ rest) is =
    let parts = insn_test (names_symbol first && is_assignment rest) (is_name first) (begins_with_dot first.bytes) (directive_of first.bytes) is in
    record { first = first; rest = rest; are = refl; begins = record { name = parts.1; no_directive = parts.2; no_assignment = parts.0 } }

-- ITEMS

tested : (test : Bool) (due put : PutItem) → cond test (Some due) None ≡ Some put → due ≡ put
tested true due put is = same_Some due put is
tested false due put is = absurd (none-some put is)

equal : (a b : ℕ) → (a == b) ≡ true → a ≡ b
equal a b is = grind (arith, nat_tests)

-- an alignment that is padding fills with no-operations
pads : (code : Bool) (fill : Option ℕ) → (code && fills_with_code fill) ≡ true → FillsWithNoOperations (padding_of code fill)
pads true None is = tt
pads false None is = absurd (cc)
pads true (Some fill) is = let same : fill ≡ 144 = equal fill 144 is in ap (λ n. n % 2 ^ 8) same
pads false (Some fill) is = absurd (cc)

pub some_of : {X : Type 0} (found : Option X) → is_some found ≡ true → (x : X) × (found ≡ Some x)
some_of None is = absurd (cc)
some_of (Some x) is = (x, refl)

module _ (facts : Facts) (symbols : SymbolMap) (laid : LaidSections) (s : TokenStatement) (before placed : Placed) (number : ℕ) (code : List ℕ)
    (item : CodeItem) (node : Node) (target : Target) (starts : ℕ → ℕ) (no_label : begins_with_label s.tokens ≡ false) (is : place s before ≡ Ok placed)
    (within : AreWithin before.sections) (l : IsLoadedLater symbols laid number placed.sections code)
    (node_is : node ≡ node_by (flow_by item.effect.role) target) (none : IsNoJump (flow_by item.effect.role))
    (numbered : (insn : View) → insn_view (pos_at s.file s.line) s.tokens before ≡ Some insn → AreNumbered insn) where
  abbrev pos : Pos
  pos = pos_at s.file s.line

  abbrev Laid : Type 0
  Laid = IsLaidIn laid number before.sections placed.sections starts code item node

  abbrev put : PutItem
  put = record { section = number; item = seen item }

  -- data
  as_data : is_data item.effect.role ≡ true → Laid
  as_data role =
      let got = facts.inerts laid number before.sections placed.sections code item node starts (facts.grow (s ∷ []) before placed (one_placed s before placed is)) role in
      record { kind = inert got.bytes; is = got.is }

  data_by : (test : Bool) (n : ℕ) → cond test (Some (record { section = n; item = data_item pos (end_of before.sections n) })) None ≡ Some put → Laid
  data_by test n due = as_data (ap (λ (p : PutItem). p.item.no_insn) (sym (tested test _ put due)))

  moved_by : (n : Option ℕ) → moved_put pos n before placed ≡ Some put → Laid
  moved_by None due = absurd (none-some put due)
  moved_by (Some n) due = data_by (false || not (same_place (end_of before.sections n) (end_of placed.sections n))) n due

  -- an alignment
  as_padding : (by : AlignedBy) → body_of s.tokens ≡ body.Directed (Some (directive.Align by)) → before.current ≡ number → is_padding item.effect.role ≡ true
      → PadsCode pos (drop 1 s.tokens) before → Laid
  as_padding by kind current role fills =
      let placed_so = sym (align_body pos by s.tokens before kind) ∙ unlabelled pos s.tokens before placed no_label (tokens_placed s before placed is) in
      let falls = ap (λ (n : Node). n.falls) node_is ∙ (facts.suit item target).padded role in
      let got =
      facts.aligns symbols laid pos by (drop 1 s.tokens) before placed code item node starts placed_so within
      (subst (λ n. IsLoadedLater symbols laid n placed.sections code) (sym current) l) fills role falls in
      subst (λ n. IsLaidIn laid n before.sections placed.sections starts code item node) current (record { kind = padding got.lengths; is = got.is })

  align_by : (by : AlignedBy) → body_of s.tokens ≡ body.Directed (Some (directive.Align by)) → (test : Bool)
      → (is_code before.sections before.current && fills_with_code (fill_said pos (drop 1 s.tokens) before)) ≡ test
      → Some (record { section = before.current; item = plain_item test pos (end_of before.sections before.current) }) ≡ Some put → Laid
  align_by by kind true fills due =
      let same = same_Some _ put due in
      as_padding by kind (ap (λ (p : PutItem). p.section) same) (ap (λ (p : PutItem). p.item.padding) (sym same))
      (pads (is_code before.sections before.current) (fill_said pos (drop 1 s.tokens) before) fills)
  align_by by kind false fills due = as_data (ap (λ (p : PutItem). p.item.no_insn) (sym (same_Some _ put due)))

  -- a directive
  directed : (found : Directive) → body_of s.tokens ≡ body.Directed (Some found) → directive_put found pos (drop 1 s.tokens) before placed ≡ Some put → Laid
  directed (directive.Data size) kind due = data_by _ before.current due
  directed (directive.Strings ended) kind due = data_by _ before.current due
  directed (directive.Leb128 signed) kind due = data_by _ before.current due
  directed directive.Zero kind due = data_by _ before.current due
  directed directive.Skip kind due = data_by _ before.current due
  directed directive.Fill kind due = data_by _ before.current due
  directed (directive.Align by) kind due = align_by by kind _ refl due
  directed directive.Org kind due = data_by _ before.current due
  directed (directive.Enter initial) kind due = absurd (none-some put due)
  directed directive.Section kind due = absurd (none-some put due)
  directed directive.PushSection kind due = absurd (none-some put due)
  directed directive.PopSection kind due = absurd (none-some put due)
  directed directive.Previous kind due = absurd (none-some put due)
  directed (directive.Say attribute) kind due = absurd (none-some put due)
  directed directive.Type kind due = absurd (none-some put due)
  directed directive.Size kind due = absurd (none-some put due)
  directed (directive.Assign once) kind due = absurd (none-some put due)
  directed directive.Comm kind due = data_by _ bss due
  directed directive.Lcomm kind due = data_by _ bss due
  directed directive.Ident kind due = moved_by (section_number (codes ".comment") before.sections) due
  directed directive.File kind due = absurd (none-some put due)
  directed directive.Loc kind due = absurd (none-some put due)
  directed (directive.Error said) kind due = absurd (none-some put due)
  directed directive.Warning kind due = absurd (none-some put due)
  directed (directive.Syntax syntax) kind due = absurd (none-some put due)
  directed directive.Code64 kind due = absurd (none-some put due)
  directed (directive.Frame frame) kind due = absurd (none-some put due)

  -- an instruction
  as_insn : (insn : View) → insn_view pos s.tokens before ≡ Some insn → body_of s.tokens ≡ body.Instruction
      → Some (record {
        section = before.current;
        item = item_seen (Some insn) pos (end_of before.sections before.current) (fields_in before.sections before.current) (fields_in placed.sections before.current);
      }) ≡ Some put → Laid
  as_insn insn view kind due =
      let same = same_Some _ put due in
      let current : before.current ≡ number = ap (λ (p : PutItem). p.section) same in
      let back = sym same in
      let flow : flow_by item.effect.role ≡ flow_of insn = ap (λ (p : PutItem). p.item.flow) back in
      let of_item : IsItemOf insn item node = record {
        shows = record {
          effect = ap (λ (p : PutItem). p.item.effect) back;
          flow = flow;
          supported = ap (λ (p : PutItem). p.item.unsupported) back;
          no_padding = ap (λ (p : PutItem). p.item.padding) back;
          no_data = ap (λ (p : PutItem). p.item.no_insn) back;
        };
        target = target;
        node_is = node_is ∙ ap (λ f. node_by f target) flow;
      } in
      let words = begins_so s.tokens kind in
      let got =
      facts.insns symbols laid pos words.first words.rest before placed code insn item node starts
      (subst (λ tokens. begins_with_label tokens ≡ false) words.are no_label) words.begins
      (subst (λ tokens. place_tokens pos tokens before ≡ Ok placed) words.are (tokens_placed s before placed is)) within
      (subst (λ n. IsLoadedLater symbols laid n placed.sections code) (sym current) l)
      (subst (λ tokens. insn_view pos tokens before ≡ Some insn) words.are view) (numbered insn view) of_item (subst IsNoJump flow none) in
      subst (λ n. IsLaidIn laid n before.sections placed.sections starts code item node) current (record { kind = plain got.bytes; is = got.is })

  insn_by : body_of s.tokens ≡ body.Instruction → insn_put pos s.tokens before placed ≡ Some put → Laid
  insn_by kind due =
      let view = some_of (insn_view pos s.tokens before) (facts.seen s before placed no_label kind is) in
      as_insn view.0 view.1 kind
      (ap (λ found. Some (record {
        section = before.current;
        item = item_seen found pos (end_of before.sections before.current) (fields_in before.sections before.current) (fields_in placed.sections before.current);
      })) (sym view.1) ∙ due)

  by_body : (found : Body) → body_of s.tokens ≡ found → body_put found pos s.tokens before placed ≡ Some put → Laid
  by_body body.Nothing kind due = absurd (none-some put due)
  by_body body.Assignment kind due = absurd (none-some put due)
  by_body (body.Directed None) kind due = absurd (none-some put due)
  by_body (body.Directed (Some found)) kind due = directed found kind due
  by_body body.Instruction kind due = insn_by kind due
  by_body body.Unknown kind due = absurd (none-some put due)

pub statements_are_laid : Facts → StatementsAreLaid
statements_are_laid facts symbols laid s before placed number code item node target starts no_label is within l due node_is none numbered =
    by_body facts symbols laid s before placed number code item node target starts no_label is within l node_is none numbered (body_of s.tokens) refl due
