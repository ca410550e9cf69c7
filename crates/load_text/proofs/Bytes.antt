-- The text is of bytes.
use Rattle.std.proofs.Common.{◌≡◌, ◌<◌, ◌/◌, ◌%◌, ◌+◌, ◌*◌, ℕ, zero, suc, ◌==◌, nat_lt, Bool, true, false, cond, List, [], ◌∷◌, ◌++◌, All, codes, decimal, refl, arith}
use Rattle.std.specs.Prelude.{◌^◌}
use Rattle.std.specs.List.{list_all}
use Rattle.std.specs.Fmt.{digits, digits_onto, digit_glyph}
use Rattle.std.proofs.lemmas.Bool.{and_parts, ltb-true}
use Rattle.std.proofs.lemmas.List.Elements.{All-nil, All-cons, All-append}
use Rattle.load_text.specs.Load.{before_call, before_label, before_size, entry_text, first_functions, function_text, load_text, numbered, rest_text}

-- the number is a byte
abbrev pub IsByte : ℕ → Type 0
IsByte byte = byte < 2 ^ 8

abbrev pub IsBytes : List ℕ → Type 0
IsBytes text = All IsByte text

-- a text of which each byte is one by a test
tested : (text : List ℕ) → list_all (λ byte. nat_lt byte 256) text ≡ true → IsBytes text
tested [] all = All-nil IsByte
tested (byte ∷ rest) all =
    let both = and_parts (nat_lt byte 256) (list_all (λ b. nat_lt b 256) rest) all in
    All-cons IsByte byte rest (ltb-true byte 256 both.0) (tested rest both.1)

either : (test : Bool) (one other : List ℕ) → IsBytes one → IsBytes other → IsBytes (cond test one other)
either true one other first second = first
either false one other first second = second

glyph_is_byte : (digit : ℕ) → digit < 10 → IsByte (digit_glyph false digit)
glyph_is_byte digit low = by (nat_lt digit 10)
  where
    by : (b : Bool) → IsByte (cond b (48 + digit) (87 + digit))
    by true = omega arith
    by false = omega arith

digits_in_bytes : (turns n : ℕ) (text : List ℕ) → IsBytes text → IsBytes (digits_onto turns 10 false n text)
digits_in_bytes zero n text all = all
digits_in_bytes (suc turns) n text all =
    let more = All-cons IsByte (digit_glyph false (n % 10)) text (glyph_is_byte (n % 10) (omega arith)) all in
    either (n / 10 == 0) (digit_glyph false (n % 10) ∷ text) (digits_onto turns 10 false (n / 10) (digit_glyph false (n % 10) ∷ text))
    more (digits_in_bytes turns (n / 10) (digit_glyph false (n % 10) ∷ text) more)

decimal_in_bytes : (n : ℕ) → IsBytes (decimal n)
unfolding digits
decimal_in_bytes n = digits_in_bytes 64 n [] (All-nil IsByte)

numbered_in_bytes : (piece : List ℕ) (n : ℕ) → IsBytes piece → IsBytes (numbered piece n)
unfolding numbered
numbered_in_bytes piece n all = All-append IsByte piece (decimal n) all (decimal_in_bytes n)

label_in_bytes : IsBytes before_label
unfolding before_label
label_in_bytes = tested (codes ",@function\nf") refl

call_in_bytes : IsBytes before_call
unfolding before_call
call_in_bytes = tested (codes ": push %rbp\nmov %rsp,%rbp\npush %rbx\nmov %edi,%ebx\ntest %ebx,%ebx\nje 1f\ncall f") refl

size_in_bytes : IsBytes before_size
unfolding before_size
size_in_bytes = tested (codes "\nmov $4096,%eax\n.endr\n1: pop %rbx\npop %rbp\nret\n.size f") refl

entry_in_bytes : (i next : ℕ) → IsBytes (entry_text i next)
unfolding entry_text
entry_in_bytes i next =
    let type_line = numbered (codes ".type f") i in
    let label = numbered before_label i in
    All-append IsByte (type_line ++ label) (numbered before_call next)
    (All-append IsByte type_line label (numbered_in_bytes (codes ".type f") i (tested (codes ".type f") refl)) (numbered_in_bytes before_label i label_in_bytes))
    (numbered_in_bytes before_call next call_in_bytes)

rest_in_bytes : (i count : ℕ) → IsBytes (rest_text i count)
unfolding rest_text
rest_in_bytes i count =
    let repeated = numbered (codes "\n.rept ") count in
    let left = numbered before_size i in
    let name = numbered (codes ",.-f") i in
    All-append IsByte (repeated ++ left ++ name) (codes "\n")
    (All-append IsByte (repeated ++ left) name
    (All-append IsByte repeated left (numbered_in_bytes (codes "\n.rept ") count (tested (codes "\n.rept ") refl)) (numbered_in_bytes before_size i size_in_bytes))
    (numbered_in_bytes (codes ",.-f") i (tested (codes ",.-f") refl)))
    (tested (codes "\n") refl)

function_in_bytes : (n i : ℕ) → IsBytes (function_text n i)
unfolding function_text
function_in_bytes n i =
    All-append IsByte (entry_text i ((i + 1) % n)) (rest_text i ((5 * i + n) % 28)) (entry_in_bytes i ((i + 1) % n)) (rest_in_bytes i ((5 * i + n) % 28))

first_in_bytes : (n count : ℕ) → IsBytes (first_functions n count)
first_in_bytes n zero = All-nil IsByte
first_in_bytes n (suc i) = All-append IsByte (first_functions n i) (function_text n i) (first_in_bytes n i) (function_in_bytes n i)

-- the text of so many functions
pub load_in_bytes : (n : ℕ) → IsBytes (load_text n)
unfolding load_text
load_in_bytes n = All-append IsByte (codes ".text\n") (first_functions n n) (tested (codes ".text\n") refl) (first_in_bytes n n)
