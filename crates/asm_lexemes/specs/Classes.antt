-- The classes of bytes: what a byte may begin (GNU as manual, chapter 3, "Syntax").
use Rattle.std.specs.Prelude.{ℕ, zero, suc, Bool, true, false, ◌||◌, ◌==◌, List, [], ◌∷◌, if◌then◌else◌}
use Rattle.std.specs.Char.{is_ascii_digit}
use Rattle.asm_base.specs.ByteClasses.{is_feed, is_blank, is_name_start, is_operator_byte}
use Rattle.asm_lexemes.specs.declared.classes.ByteClass.{ByteClass}
use Rattle.asm_lexemes.specs.declared.classes.ByteClass.TheVariants.{LineFeed, Semicolon, Blank, CarriageReturn, Hash, Slash, Quote, DoubleQuote, NameStart, Digit, Dollar, LongOperator, Operator, Other}
use Rattle.asm_lexemes.specs.declared.classes.TheConstants.{CLASSES}

-- an operator of two bytes may begin with the byte: one of `<`, `>`, `=`, `!`, `&` and `|`
unfoldable pub begins_long_operator : ℕ → Bool
begins_long_operator byte = 60 == byte || 62 == byte || 61 == byte || 33 == byte || 38 == byte || 124 == byte

-- the class of a byte that begins no space, no comment and no text in quotes, and ends no statement
unfoldable pub plain_class_of : ℕ → ByteClass
plain_class_of byte =
    if is_name_start byte then NameStart
    else (if is_ascii_digit byte then Digit
    else (if byte == 36 then Dollar
    else (if begins_long_operator byte then LongOperator
    else (if is_operator_byte byte then Operator
    else Other))))

-- the class of a byte; the tests are in the order of those of the pieces
unfoldable pub class_of : ℕ → ByteClass
class_of byte =
    if is_feed byte then LineFeed
    else (if byte == 59 then Semicolon
    else (if is_blank byte then Blank
    else (if byte == 13 then CarriageReturn
    else (if byte == 35 then Hash
    else (if byte == 47 then Slash
    else (if byte == 39 then Quote
    else (if byte == 34 then DoubleQuote
    else plain_class_of byte)))))))

-- a byte of the class continues a name
abbrev pub continues_name : ByteClass → Bool
continues_name NameStart = true
continues_name Digit = true
continues_name Dollar = true
continues_name _ = false

-- an operator of two bytes may begin with a byte of the class
abbrev pub is_long_class : ByteClass → Bool
is_long_class LongOperator = true
is_long_class _ = false

-- a byte of the class is the first of a token, whatever follows it
abbrev pub begins_token : ByteClass → Bool
begins_token NameStart = true
begins_token Digit = true
begins_token Dollar = true
begins_token LongOperator = true
begins_token Operator = true
begins_token Other = true
begins_token _ = false

-- the classes of so many bytes from this one on
unfoldable pub classes_from : ℕ → ℕ → List ByteClass
classes_from zero byte = []
classes_from (suc n) byte = class_of byte ∷ classes_from n (suc byte)

-- the table of the program
unfoldable pub the_classes : List ByteClass
the_classes = CLASSES
