-- The name of each register names it, and is a word.
use Rattle.std.proofs.Common.{◌≡◌, ℕ, zero, suc, ◌<◌, ◌≤◌, true, Some, refl, arith}
use Rattle.asm_base.specs.ByteClasses.{is_name_start, is_name_byte}
use Rattle.x86_insn.specs.declared.registers.Class.{Class}
use Rattle.x86_insn.specs.declared.registers.Class.TheVariants as class
use Rattle.att_operands.specs.declared.registers.NamedRegister.TheVariants as named
use Rattle.att_operands.specs.Registers.{register_names, register_of}
use Rattle.att_texts.specs.Pieces.{is_word}
use Rattle.att_texts.specs.AttOperands.{register_text}
use Rattle.att_texts.specs.Printable.{IsNumbered}

-- the text names the register, and is a word
pub record IsNamed (of_class : Class) (number : ℕ) : Type 0 where
  pub names : register_of (register_text of_class number) ≡ Some (named.Plain (record { class = of_class; number = number }))
  pub word : is_word (register_text of_class number) ≡ true

byte_named : (number : ℕ) → number < 16 → IsNamed class.Byte number
unfolding register_names register_of register_text is_name_start is_name_byte
byte_named zero fits = record { names = refl; word = refl }
byte_named (suc zero) fits = record { names = refl; word = refl }
byte_named (suc (suc zero)) fits = record { names = refl; word = refl }
byte_named (suc (suc (suc zero))) fits = record { names = refl; word = refl }
byte_named (suc (suc (suc (suc zero)))) fits = record { names = refl; word = refl }
byte_named (suc (suc (suc (suc (suc zero))))) fits = record { names = refl; word = refl }
byte_named (suc (suc (suc (suc (suc (suc zero)))))) fits = record { names = refl; word = refl }
byte_named (suc (suc (suc (suc (suc (suc (suc zero))))))) fits = record { names = refl; word = refl }
byte_named (suc (suc (suc (suc (suc (suc (suc (suc zero)))))))) fits = record { names = refl; word = refl }
byte_named (suc (suc (suc (suc (suc (suc (suc (suc (suc zero))))))))) fits = record { names = refl; word = refl }
byte_named (suc (suc (suc (suc (suc (suc (suc (suc (suc (suc zero)))))))))) fits = record { names = refl; word = refl }
byte_named (suc (suc (suc (suc (suc (suc (suc (suc (suc (suc (suc zero))))))))))) fits = record { names = refl; word = refl }
byte_named (suc (suc (suc (suc (suc (suc (suc (suc (suc (suc (suc (suc zero)))))))))))) fits = record { names = refl; word = refl }
byte_named (suc (suc (suc (suc (suc (suc (suc (suc (suc (suc (suc (suc (suc zero))))))))))))) fits = record { names = refl; word = refl }
byte_named (suc (suc (suc (suc (suc (suc (suc (suc (suc (suc (suc (suc (suc (suc zero)))))))))))))) fits = record { names = refl; word = refl }
byte_named (suc (suc (suc (suc (suc (suc (suc (suc (suc (suc (suc (suc (suc (suc (suc zero))))))))))))))) fits = record { names = refl; word = refl }
byte_named (suc (suc (suc (suc (suc (suc (suc (suc (suc (suc (suc (suc (suc (suc (suc (suc number)))))))))))))))) fits = absurd (omega arith)

word_named : (number : ℕ) → number < 16 → IsNamed class.Word number
unfolding register_names register_of register_text is_name_start is_name_byte
word_named zero fits = record { names = refl; word = refl }
word_named (suc zero) fits = record { names = refl; word = refl }
word_named (suc (suc zero)) fits = record { names = refl; word = refl }
word_named (suc (suc (suc zero))) fits = record { names = refl; word = refl }
word_named (suc (suc (suc (suc zero)))) fits = record { names = refl; word = refl }
word_named (suc (suc (suc (suc (suc zero))))) fits = record { names = refl; word = refl }
word_named (suc (suc (suc (suc (suc (suc zero)))))) fits = record { names = refl; word = refl }
word_named (suc (suc (suc (suc (suc (suc (suc zero))))))) fits = record { names = refl; word = refl }
word_named (suc (suc (suc (suc (suc (suc (suc (suc zero)))))))) fits = record { names = refl; word = refl }
word_named (suc (suc (suc (suc (suc (suc (suc (suc (suc zero))))))))) fits = record { names = refl; word = refl }
word_named (suc (suc (suc (suc (suc (suc (suc (suc (suc (suc zero)))))))))) fits = record { names = refl; word = refl }
word_named (suc (suc (suc (suc (suc (suc (suc (suc (suc (suc (suc zero))))))))))) fits = record { names = refl; word = refl }
word_named (suc (suc (suc (suc (suc (suc (suc (suc (suc (suc (suc (suc zero)))))))))))) fits = record { names = refl; word = refl }
word_named (suc (suc (suc (suc (suc (suc (suc (suc (suc (suc (suc (suc (suc zero))))))))))))) fits = record { names = refl; word = refl }
word_named (suc (suc (suc (suc (suc (suc (suc (suc (suc (suc (suc (suc (suc (suc zero)))))))))))))) fits = record { names = refl; word = refl }
word_named (suc (suc (suc (suc (suc (suc (suc (suc (suc (suc (suc (suc (suc (suc (suc zero))))))))))))))) fits = record { names = refl; word = refl }
word_named (suc (suc (suc (suc (suc (suc (suc (suc (suc (suc (suc (suc (suc (suc (suc (suc number)))))))))))))))) fits = absurd (omega arith)

long_named : (number : ℕ) → number < 16 → IsNamed class.Long number
unfolding register_names register_of register_text is_name_start is_name_byte
long_named zero fits = record { names = refl; word = refl }
long_named (suc zero) fits = record { names = refl; word = refl }
long_named (suc (suc zero)) fits = record { names = refl; word = refl }
long_named (suc (suc (suc zero))) fits = record { names = refl; word = refl }
long_named (suc (suc (suc (suc zero)))) fits = record { names = refl; word = refl }
long_named (suc (suc (suc (suc (suc zero))))) fits = record { names = refl; word = refl }
long_named (suc (suc (suc (suc (suc (suc zero)))))) fits = record { names = refl; word = refl }
long_named (suc (suc (suc (suc (suc (suc (suc zero))))))) fits = record { names = refl; word = refl }
long_named (suc (suc (suc (suc (suc (suc (suc (suc zero)))))))) fits = record { names = refl; word = refl }
long_named (suc (suc (suc (suc (suc (suc (suc (suc (suc zero))))))))) fits = record { names = refl; word = refl }
long_named (suc (suc (suc (suc (suc (suc (suc (suc (suc (suc zero)))))))))) fits = record { names = refl; word = refl }
long_named (suc (suc (suc (suc (suc (suc (suc (suc (suc (suc (suc zero))))))))))) fits = record { names = refl; word = refl }
long_named (suc (suc (suc (suc (suc (suc (suc (suc (suc (suc (suc (suc zero)))))))))))) fits = record { names = refl; word = refl }
long_named (suc (suc (suc (suc (suc (suc (suc (suc (suc (suc (suc (suc (suc zero))))))))))))) fits = record { names = refl; word = refl }
long_named (suc (suc (suc (suc (suc (suc (suc (suc (suc (suc (suc (suc (suc (suc zero)))))))))))))) fits = record { names = refl; word = refl }
long_named (suc (suc (suc (suc (suc (suc (suc (suc (suc (suc (suc (suc (suc (suc (suc zero))))))))))))))) fits = record { names = refl; word = refl }
long_named (suc (suc (suc (suc (suc (suc (suc (suc (suc (suc (suc (suc (suc (suc (suc (suc number)))))))))))))))) fits = absurd (omega arith)

quad_named : (number : ℕ) → number < 16 → IsNamed class.Quad number
unfolding register_names register_of register_text is_name_start is_name_byte
quad_named zero fits = record { names = refl; word = refl }
quad_named (suc zero) fits = record { names = refl; word = refl }
quad_named (suc (suc zero)) fits = record { names = refl; word = refl }
quad_named (suc (suc (suc zero))) fits = record { names = refl; word = refl }
quad_named (suc (suc (suc (suc zero)))) fits = record { names = refl; word = refl }
quad_named (suc (suc (suc (suc (suc zero))))) fits = record { names = refl; word = refl }
quad_named (suc (suc (suc (suc (suc (suc zero)))))) fits = record { names = refl; word = refl }
quad_named (suc (suc (suc (suc (suc (suc (suc zero))))))) fits = record { names = refl; word = refl }
quad_named (suc (suc (suc (suc (suc (suc (suc (suc zero)))))))) fits = record { names = refl; word = refl }
quad_named (suc (suc (suc (suc (suc (suc (suc (suc (suc zero))))))))) fits = record { names = refl; word = refl }
quad_named (suc (suc (suc (suc (suc (suc (suc (suc (suc (suc zero)))))))))) fits = record { names = refl; word = refl }
quad_named (suc (suc (suc (suc (suc (suc (suc (suc (suc (suc (suc zero))))))))))) fits = record { names = refl; word = refl }
quad_named (suc (suc (suc (suc (suc (suc (suc (suc (suc (suc (suc (suc zero)))))))))))) fits = record { names = refl; word = refl }
quad_named (suc (suc (suc (suc (suc (suc (suc (suc (suc (suc (suc (suc (suc zero))))))))))))) fits = record { names = refl; word = refl }
quad_named (suc (suc (suc (suc (suc (suc (suc (suc (suc (suc (suc (suc (suc (suc zero)))))))))))))) fits = record { names = refl; word = refl }
quad_named (suc (suc (suc (suc (suc (suc (suc (suc (suc (suc (suc (suc (suc (suc (suc zero))))))))))))))) fits = record { names = refl; word = refl }
quad_named (suc (suc (suc (suc (suc (suc (suc (suc (suc (suc (suc (suc (suc (suc (suc (suc number)))))))))))))))) fits = absurd (omega arith)

xmm_named : (number : ℕ) → number < 16 → IsNamed class.Xmm number
unfolding register_names register_of register_text is_name_start is_name_byte
xmm_named zero fits = record { names = refl; word = refl }
xmm_named (suc zero) fits = record { names = refl; word = refl }
xmm_named (suc (suc zero)) fits = record { names = refl; word = refl }
xmm_named (suc (suc (suc zero))) fits = record { names = refl; word = refl }
xmm_named (suc (suc (suc (suc zero)))) fits = record { names = refl; word = refl }
xmm_named (suc (suc (suc (suc (suc zero))))) fits = record { names = refl; word = refl }
xmm_named (suc (suc (suc (suc (suc (suc zero)))))) fits = record { names = refl; word = refl }
xmm_named (suc (suc (suc (suc (suc (suc (suc zero))))))) fits = record { names = refl; word = refl }
xmm_named (suc (suc (suc (suc (suc (suc (suc (suc zero)))))))) fits = record { names = refl; word = refl }
xmm_named (suc (suc (suc (suc (suc (suc (suc (suc (suc zero))))))))) fits = record { names = refl; word = refl }
xmm_named (suc (suc (suc (suc (suc (suc (suc (suc (suc (suc zero)))))))))) fits = record { names = refl; word = refl }
xmm_named (suc (suc (suc (suc (suc (suc (suc (suc (suc (suc (suc zero))))))))))) fits = record { names = refl; word = refl }
xmm_named (suc (suc (suc (suc (suc (suc (suc (suc (suc (suc (suc (suc zero)))))))))))) fits = record { names = refl; word = refl }
xmm_named (suc (suc (suc (suc (suc (suc (suc (suc (suc (suc (suc (suc (suc zero))))))))))))) fits = record { names = refl; word = refl }
xmm_named (suc (suc (suc (suc (suc (suc (suc (suc (suc (suc (suc (suc (suc (suc zero)))))))))))))) fits = record { names = refl; word = refl }
xmm_named (suc (suc (suc (suc (suc (suc (suc (suc (suc (suc (suc (suc (suc (suc (suc zero))))))))))))))) fits = record { names = refl; word = refl }
xmm_named (suc (suc (suc (suc (suc (suc (suc (suc (suc (suc (suc (suc (suc (suc (suc (suc number)))))))))))))))) fits = absurd (omega arith)

high_named : (number : ℕ) → (4 ≤ number) × (number < 8) → IsNamed class.High number
unfolding register_names register_of register_text is_name_start is_name_byte
high_named zero fits = absurd (let low = fits.0 in let high = fits.1 in omega arith)
high_named (suc zero) fits = absurd (let low = fits.0 in let high = fits.1 in omega arith)
high_named (suc (suc zero)) fits = absurd (let low = fits.0 in let high = fits.1 in omega arith)
high_named (suc (suc (suc zero))) fits = absurd (let low = fits.0 in let high = fits.1 in omega arith)
high_named (suc (suc (suc (suc zero)))) fits = record { names = refl; word = refl }
high_named (suc (suc (suc (suc (suc zero))))) fits = record { names = refl; word = refl }
high_named (suc (suc (suc (suc (suc (suc zero)))))) fits = record { names = refl; word = refl }
high_named (suc (suc (suc (suc (suc (suc (suc zero))))))) fits = record { names = refl; word = refl }
high_named (suc (suc (suc (suc (suc (suc (suc (suc number)))))))) fits = absurd (let low = fits.0 in let high = fits.1 in omega arith)

pub register_named : (of_class : Class) (number : ℕ) → IsNumbered of_class number → IsNamed of_class number
register_named class.Byte number fits = byte_named number fits
register_named class.High number fits = high_named number fits
register_named class.Word number fits = word_named number fits
register_named class.Long number fits = long_named number fits
register_named class.Quad number fits = quad_named number fits
register_named class.Xmm number fits = xmm_named number fits
