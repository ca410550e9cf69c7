-- The name of a file, by whether its bytes are UTF-8.
use Rattle.std.proofs.Common.{◌≡◌, ◌&&◌, Bool, true, false, cond, ℕ, List, Ok, Err, refl}
use Rattle.std.specs.Str.{IsUtf8, is_utf8}
use Rattle.std.proofs.lemmas.Str.{IsUtf8-from_is_utf8, is_utf8-from_IsUtf8}
use Rattle.macro_words.specs.declared.causes.MacroCause.TheVariants.{BadFileName}
use Rattle.macro_words.specs.Files.{may_name, checked_name}

false_by : (b : Bool) → (b ≡ true → ⊥) → b ≡ false
false_by true never = absurd (never refl)
false_by false never = refl

named : (a b : Bool) (name : List ℕ) → a ≡ true → b ≡ true → cond (a && b) (Ok name) (Err BadFileName) ≡ Ok name
named a b name one other = rw (one, other) refl

unnamed : (a b : Bool) (name : List ℕ) → b ≡ false → cond (a && b) (Ok name) (Err BadFileName) ≡ Err BadFileName
unnamed true b name is = rw is refl
unnamed false b name is = refl

pub text_names : (name : List ℕ) → may_name name ≡ true → IsUtf8 name → checked_name name ≡ Ok name
text_names name may text = named (may_name name) (is_utf8 name) name may (is_utf8-from_IsUtf8 name text)

pub no_text_names : (name : List ℕ) → (IsUtf8 name → ⊥) → checked_name name ≡ Err BadFileName
no_text_names name never = unnamed (may_name name) (is_utf8 name) name (false_by (is_utf8 name) (λ is. never (IsUtf8-from_is_utf8 name is)))
