-- What a statement puts an item into is a section that is there.
use Rattle.std.proofs.Common.{◌≡◌, ℕ, Bool, true, false, cond, List, Option, None, Some, refl, ap, subst, arith}
use Rattle.std.specs.Prelude.{◌||◌, not, slice_get, codes, drop}
use Rattle.std.proofs.lemmas.Option.{none-some, same_Some}
use Rattle.asm_base.specs.Tokens.{SpelledToken}
use Rattle.asm_base.specs.declared.positions.Pos.{Pos}
use Rattle.asm_frags.specs.SectionOf.{section_number, is_section_named}
use Rattle.asm_frags.specs.Writing.{LooseSection}
use Rattle.asm_words.specs.declared.directives.Directive.{Directive}
use Rattle.asm_words.specs.declared.directives.Directive.TheVariants as directive
use Rattle.asm_values.specs.State.{Placed}
use Rattle.asm_declarations.specs.Commons.{bss}
use Rattle.asm_place.specs.declared.bodies.Body.{Body}
use Rattle.asm_place.specs.declared.bodies.Body.TheVariants as body
use Rattle.asm_place.specs.SymbolPlaces.{PlacesStand}
use Rattle.code_functions.specs.Seen.{SeenItem}
use Rattle.asm_functions.specs.Following.{end_of, same_place}
use Rattle.asm_functions.specs.Joined.{PutItem, data_put, moved_put, directive_put, body_put}
use Rattle.function_laws.proofs.Elements.{found_there}

module _ (pos : Pos) (there after : Placed) (stand : PlacesStand there) (number : ℕ) (item : SeenItem) where
  abbrev Found : ℕ → Type 0
  Found n = (section : LooseSection) × (slice_get there.sections n ≡ Some section)

  abbrev put : PutItem
  put = record { section = number; item = item }

  same_section : (other : PutItem) → Found other.section → other ≡ put → Found number
  same_section other found is = subst Found (ap (λ (p : PutItem). p.section) is) found

  tested : (test : Bool) (other : PutItem) → Found other.section → cond test (Some other) None ≡ Some put → Found number
  tested true other found is = same_section other found (same_Some other put is)
  tested false other found is = absurd (none-some put is)

  current : Found there.current
  current = (stand.current.section, stand.current.there)

  in_bss : Found bss
  in_bss = let has = stand.first 2 (omega arith) in (has.section, has.there)

  data_found : (operands : Bool) (n : ℕ) → Found n → data_put operands pos n there after ≡ Some put → Found number
  data_found operands n found is = tested (operands || not (same_place (end_of there.sections n) (end_of after.sections n))) _ found is

  moved_found : (n : Option ℕ) → section_number (codes ".comment") there.sections ≡ n → moved_put pos n there after ≡ Some put → Found number
  moved_found None named is = absurd (none-some put is)
  moved_found (Some n) named is = data_found false n (found_there (is_section_named (codes ".comment")) there.sections n named) is

  directive_found : (found : Directive) (tokens : List SpelledToken) → directive_put found pos tokens there after ≡ Some put → Found number
  directive_found (directive.Data size) tokens is = data_found _ there.current current is
  directive_found (directive.Strings ended) tokens is = data_found _ there.current current is
  directive_found (directive.Leb128 signed) tokens is = data_found _ there.current current is
  directive_found directive.Zero tokens is = data_found _ there.current current is
  directive_found directive.Skip tokens is = data_found _ there.current current is
  directive_found directive.Fill tokens is = data_found _ there.current current is
  directive_found (directive.Align by) tokens is = same_section _ current (same_Some _ put is)
  directive_found directive.Org tokens is = data_found _ there.current current is
  directive_found (directive.Enter initial) tokens is = absurd (none-some put is)
  directive_found directive.Section tokens is = absurd (none-some put is)
  directive_found directive.PushSection tokens is = absurd (none-some put is)
  directive_found directive.PopSection tokens is = absurd (none-some put is)
  directive_found directive.Previous tokens is = absurd (none-some put is)
  directive_found (directive.Say attribute) tokens is = absurd (none-some put is)
  directive_found directive.Type tokens is = absurd (none-some put is)
  directive_found directive.Size tokens is = absurd (none-some put is)
  directive_found (directive.Assign once) tokens is = absurd (none-some put is)
  directive_found directive.Comm tokens is = data_found false bss in_bss is
  directive_found directive.Lcomm tokens is = data_found false bss in_bss is
  directive_found directive.Ident tokens is = moved_found (section_number (codes ".comment") there.sections) refl is
  directive_found directive.File tokens is = absurd (none-some put is)
  directive_found directive.Loc tokens is = absurd (none-some put is)
  directive_found (directive.Error said) tokens is = absurd (none-some put is)
  directive_found directive.Warning tokens is = absurd (none-some put is)
  directive_found (directive.Syntax syntax) tokens is = absurd (none-some put is)
  directive_found directive.Code64 tokens is = absurd (none-some put is)
  directive_found (directive.Frame frame) tokens is = absurd (none-some put is)

  -- the section that a statement puts an item into is there
  pub section_found : (found : Body) (tokens : List SpelledToken) → body_put found pos tokens there after ≡ Some put → Found number
  section_found body.Nothing tokens is = absurd (none-some put is)
  section_found body.Assignment tokens is = absurd (none-some put is)
  section_found (body.Directed None) tokens is = absurd (none-some put is)
  section_found (body.Directed (Some found)) tokens is = directive_found found (drop 1 tokens) is
  section_found body.Instruction tokens is = same_section _ current (same_Some _ put is)
  section_found body.Unknown tokens is = absurd (none-some put is)
