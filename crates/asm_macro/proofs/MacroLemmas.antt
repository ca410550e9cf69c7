-- Macros by their names.
use Rattle.std.proofs.Common.{◌≡◌, ℕ, Bool, true, false, cond, ◌||◌, is_some, List, [], ◌∷◌, ◌++◌, Some, None, map, true≢false, refl, ap, ◌∙◌}
use Rattle.std.specs.Global.{Vec}
use Rattle.std.specs.declared.rc.Rc.{Rc}
use Rattle.std.specs.declared.alloc.Global.{Global}
use Rattle.std.specs.Map.{lookup, remove_entry}
use Rattle.std.specs.Option.{option_map}
use Rattle.std.specs.List.{find, list_any}
use Rattle.std.specs.Str.{bytes_eq}
use Rattle.std.proofs.lemmas.List.{map-append}
use Rattle.std.proofs.lemmas.Slice.Eq.{bytes_eq-Decides}
use Rattle.asm_macro.specs.declared.macros.Macro.{Macro}
use Rattle.asm_macro.specs.Expansion.{is_called, without}
use Rattle.asm_macro.specs.Macros.{seen_as, entry_seen}

-- the macro that is found has the name that was asked for
pub found_macro : (name : List ℕ) (entries : List (Vec ℕ × Rc Macro Global)) → option_map (λ one. seen_as name one.value) (lookup (λ key. bytes_eq name key.items) entries) ≡ find (is_called name) (map entry_seen entries)
found_macro name [] = refl
found_macro name (entry ∷ entries) = by_name (bytes_eq name entry.0.items) refl (found_macro name entries)
  where
    by_name : (test : Bool) → bytes_eq name entry.0.items ≡ test
        → option_map (λ one. seen_as name one.value) (lookup (λ key. bytes_eq name key.items) entries) ≡ find (is_called name) (map entry_seen entries)
        → option_map (λ one. seen_as name one.value) (cond test (Some entry.1) (lookup (λ key. bytes_eq name key.items) entries)) ≡ cond test (Some (entry_seen entry)) (find (is_called name) (map entry_seen entries))
    by_name true is more = ap (λ one. Some (seen_as one entry.1.value)) ((bytes_eq-Decides name entry.0.items).0 is)
    by_name false is more = more

pub any_macro : (name : List ℕ) (entries : List (Vec ℕ × Rc Macro Global)) → is_some (lookup (λ key. bytes_eq name key.items) entries) ≡ list_any (is_called name) (map entry_seen entries)
any_macro name [] = refl
any_macro name (entry ∷ entries) = by_name (bytes_eq name entry.0.items) (any_macro name entries)
  where
    by_name : (test : Bool) → is_some (lookup (λ key. bytes_eq name key.items) entries) ≡ list_any (is_called name) (map entry_seen entries)
        → is_some (cond test (Some entry.1) (lookup (λ key. bytes_eq name key.items) entries)) ≡ (test || list_any (is_called name) (map entry_seen entries))
    by_name true more = refl
    by_name false more = more

pub removed_macro : (name : List ℕ) (entries : List (Vec ℕ × Rc Macro Global)) → map entry_seen (remove_entry (λ key. bytes_eq name key.items) entries) ≡ without name (map entry_seen entries)
removed_macro name [] = refl
removed_macro name (entry ∷ entries) = by_name (bytes_eq name entry.0.items) (removed_macro name entries)
  where
    by_name : (test : Bool) → map entry_seen (remove_entry (λ key. bytes_eq name key.items) entries) ≡ without name (map entry_seen entries)
        → map entry_seen (cond test entries (entry ∷ remove_entry (λ key. bytes_eq name key.items) entries)) ≡ cond test (map entry_seen entries) (entry_seen entry ∷ without name (map entry_seen entries))
    by_name true more = refl
    by_name false more = ap (λ rest. entry_seen entry ∷ rest) more

-- a name that is not known is put last
pub absent_macro : (name : List ℕ) (entries : List (Vec ℕ × Rc Macro Global)) → list_any (is_called name) (map entry_seen entries) ≡ false → lookup (λ key. bytes_eq name key.items) entries ≡ None
absent_macro name [] none = refl
absent_macro name (entry ∷ entries) none = by_name (bytes_eq name entry.0.items) none (absent_macro name entries)
  where
    by_name : (test : Bool) → (test || list_any (is_called name) (map entry_seen entries)) ≡ false → (list_any (is_called name) (map entry_seen entries) ≡ false → lookup (λ key. bytes_eq name key.items) entries ≡ None)
        → cond test (Some entry.1) (lookup (λ key. bytes_eq name key.items) entries) ≡ None
    by_name true is more = absurd (true≢false is)
    by_name false is more = more is

pub put_last : (entries : List (Vec ℕ × Rc Macro Global)) (name : Vec ℕ) (shared : Rc Macro Global) (one : Macro) → shared.value ≡ one
    → map entry_seen (entries ++ (name, shared) ∷ []) ≡ map entry_seen entries ++ seen_as name.items one ∷ []
put_last entries name shared one same = map-append entry_seen entries ((name, shared) ∷ []) ∙ ap (λ value. map entry_seen entries ++ seen_as name.items value ∷ []) same
