-- The table of classes is the definition of the classes, byte by byte.
use Rattle.std.proofs.Common.{◌≡◌, ℕ, zero, suc, ◌+◌, ◌<◌, Bool, true, false, not, ◌&&◌, ◌==◌, length, get_or, refl, ap, ◌∙◌, arith}
use Rattle.std.specs.Char.{is_ascii_digit}
use Rattle.asm_base.specs.ByteClasses.{is_blank, is_name_start, is_name_byte, is_operator_byte}
use Rattle.asm_lexemes.specs.declared.classes.ByteClass.{ByteClass}
use Rattle.asm_lexemes.specs.declared.classes.ByteClass.TheVariants.{LineFeed, Semicolon, Blank, Hash, Slash, NameStart, Digit, Dollar, LongOperator, Operator, Other}
use Rattle.asm_base.specs.Dividing.{is_plain}
use Rattle.asm_lexemes.specs.Classes.{is_long_class, begins_token, continues_name, begins_long_operator, plain_class_of, class_of, classes_from, the_classes}

pub table_is : the_classes ≡ classes_from 256 0
unfolding the_classes classes_from class_of plain_class_of begins_long_operator is_blank is_name_start is_operator_byte
table_is = refl

classes_from-at : (n byte i : ℕ) (unless : ByteClass) → i < n → get_or (classes_from n byte) i unless ≡ class_of (byte + i)
unfolding classes_from
classes_from-at zero byte i unless within = absurd (omega arith)
classes_from-at (suc n) byte zero unless within = let e : byte ≡ byte + 0 = omega arith in ap class_of e
classes_from-at (suc n) byte (suc i) unless within = let e : suc byte + i ≡ byte + suc i = omega arith in classes_from-at n (suc byte) i unless (omega arith) ∙ ap class_of e

pub class_found : (byte : ℕ) (unless : ByteClass) → byte < 256 → get_or the_classes byte unless ≡ class_of byte
class_found byte unless within = let e : 0 + byte ≡ byte = omega arith in ap (λ l. get_or l byte unless) table_is ∙ classes_from-at 256 0 byte unless within ∙ ap class_of e

classes_from-length : (n byte : ℕ) → length (classes_from n byte) ≡ n
unfolding classes_from
classes_from-length zero byte = refl
classes_from-length (suc n) byte = ap suc (classes_from-length n (suc byte))

pub table_length : length the_classes ≡ 256
table_length = ap length table_is ∙ classes_from-length 256 0

-- both are true, or neither
same : Bool → Bool → Bool
same true b = b
same false b = not b

same-equal : (a b : Bool) → same a b ≡ true → a ≡ b
unfolding same
same-equal true true e = refl
same-equal true false e = cc
same-equal false true e = cc
same-equal false false e = refl

pub both : (a b : Bool) → (a && b) ≡ true → (a ≡ true) × (b ≡ true)
both true b e = (refl, e)
both false b e = cc

-- the test holds of so many bytes from this one on
unfoldable pub holds_from : (ℕ → Bool) → ℕ → ℕ → Bool
holds_from test zero byte = true
holds_from test (suc n) byte = test byte && holds_from test n (suc byte)

holds_at : (test : ℕ → Bool) (n byte i : ℕ) → holds_from test n byte ≡ true → i < n → test (byte + i) ≡ true
unfolding holds_from
holds_at test zero byte i all within = absurd (omega arith)
holds_at test (suc n) byte zero all within = let e : byte + 0 ≡ byte = omega arith in ap test e ∙ (both (test byte) (holds_from test n (suc byte)) all).0
holds_at test (suc n) byte (suc i) all within =
    let e : byte + suc i ≡ suc byte + i = omega arith in
    ap test e ∙ holds_at test n (suc byte) i (both (test byte) (holds_from test n (suc byte)) all).1 (omega arith)

-- what is computed of all bytes holds of each
pub of_byte : (test : ℕ → Bool) (byte : ℕ) → byte < 256 → holds_from test 256 0 ≡ true → test byte ≡ true
of_byte test byte within all = let e : byte ≡ 0 + byte = omega arith in ap test e ∙ holds_at test 256 0 byte all within

pub name_byte_class : (byte : ℕ) → byte < 256 → is_name_byte byte ≡ continues_name (class_of byte)
unfolding holds_from same class_of plain_class_of begins_long_operator is_blank is_name_start is_name_byte is_operator_byte
name_byte_class byte within = same-equal _ _ (of_byte (λ b. same (is_name_byte b) (continues_name (class_of b))) byte within refl)

-- what the class says of its byte alone
abbrev pub said_by : ByteClass → ℕ → Bool
said_by LineFeed byte = byte == 10
said_by Semicolon byte = byte == 59
said_by Blank byte = is_blank byte
said_by Hash byte = byte == 35
said_by Slash byte = byte == 47
said_by NameStart byte = is_plain byte && is_name_start byte
said_by Digit byte = is_plain byte && (not (is_name_start byte) && is_ascii_digit byte)
said_by Dollar byte = is_plain byte && (not (is_name_start byte) && (not (is_ascii_digit byte) && (is_operator_byte byte && not (begins_long_operator byte))))
said_by Operator byte = is_plain byte && (not (is_name_start byte) && (not (is_ascii_digit byte) && (is_operator_byte byte && not (begins_long_operator byte))))
said_by LongOperator byte = is_plain byte && (not (is_name_start byte) && (not (is_ascii_digit byte) && is_operator_byte byte))
said_by Other byte = is_plain byte && (not (is_name_start byte) && (not (is_ascii_digit byte) && not (is_operator_byte byte)))
said_by _ byte = not (is_name_start byte) && (not (is_ascii_digit byte) && not (begins_long_operator byte))

pub said : (byte : ℕ) → byte < 256 → said_by (class_of byte) byte ≡ true
unfolding holds_from class_of plain_class_of begins_long_operator is_blank is_name_start is_operator_byte is_plain
said byte within = of_byte (λ b. said_by (class_of b) b) byte within refl

-- what begins a token whatever follows it is plain
pub plain_class : (byte : ℕ) → byte < 256 → is_plain byte ≡ begins_token (class_of byte)
unfolding holds_from same class_of plain_class_of begins_long_operator is_blank is_name_start is_operator_byte is_plain
plain_class byte within = same-equal _ _ (of_byte (λ b. same (is_plain b) (begins_token (class_of b))) byte within refl)

-- the class says whether an operator of two bytes may begin
pub long_class : (byte : ℕ) → byte < 256 → begins_long_operator byte ≡ is_long_class (class_of byte)
unfolding holds_from same class_of plain_class_of begins_long_operator is_blank is_name_start is_operator_byte is_plain
long_class byte within = same-equal _ _ (of_byte (λ b. same (begins_long_operator b) (is_long_class (class_of b))) byte within refl)
