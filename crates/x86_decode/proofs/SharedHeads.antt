-- Rows that admit one head share it.
use Rattle.std.proofs.Common.{◌≡◌, ◌<◌, ◌≤◌, ℕ, ◌+◌, ◌-◌, ◌/◌, ◌%◌, ◌==◌, ◌&&◌, ◌||◌, List, [], ◌∷◌, Bool, true, false, not, if◌then◌else◌, Option, Some, None, is_some, refl, arith, sym, ◌∙◌, eq-eqb}
use Rattle.std.proofs.lemmas.Bool.{eqb-true, eqb-false, not-true, ltb-true, leb-true, lt-ltb, and_parts, and_from}
use Rattle.x86_table.specs.declared.forms.Map.{Map}
use Rattle.x86_table.specs.declared.forms.Repeat.{Repeat}
use Rattle.x86_table.specs.declared.forms.Rm.{Rm}
use Rattle.x86_table.specs.declared.forms.Rm.TheVariants as rm
use Rattle.x86_table.specs.declared.forms.Words.{Words}
use Rattle.x86_table.specs.declared.forms.Shape.{Shape}
use Rattle.x86_table.specs.declared.forms.Shape.TheVariants as shape
use Rattle.x86_table.specs.declared.forms.Row.{Row}
use Rattle.x86_table.specs.Bytes.{bit}
use Rattle.x86_table.specs.Fits.{takes_none}
use Rattle.x86_table.specs.Heads.{takes_f2, takes_f3, map_number, span, is_left_out, share_rm, share_fixed, share_modrm, share_head}
use Rattle.x86_decode.specs.Heads.{Head}
use Rattle.x86_decode.specs.FieldReadings.{rex_value}
use Rattle.x86_decode.specs.Admitting.{takes_mode, takes_fixed, takes_digit, takes_slash, takes_tail, takes_repeat, admits}

-- what a row that admits a head has of it
pub record Admitted (m : Map) (h : Head) (o : ℕ) (bytes : List ℕ) (r : Row) : Type 0 where
  pub map : map_number r.map ≡ map_number m
  pub least : r.code ≤ o
  pub most : o < r.code + span r.shape
  pub size : bit r.lead.operand_size ≡ bit (is_some h.size)
  pub wide : bit r.lead.wide ≡ rex_value h.rex / 8
  pub repeat : takes_repeat r.lead.repeat r.words h.repeat ≡ true
  pub tail : takes_tail r.shape (o - r.code) (rex_value h.rex % 2) bytes ≡ true

pub admitted : (m : Map) (h : Head) (o : ℕ) (bytes : List ℕ) (r : Row) → admits m h o bytes r ≡ true → Admitted m h o bytes r
unfolding admits
admitted m h o bytes r f =
    let a = and_parts _ _ f in
    let b = and_parts _ _ a.0 in
    let c = and_parts _ _ b.1 in
    let d = and_parts _ _ a.1 in
    let e = and_parts _ _ d.1 in
    let g = and_parts _ _ e.1 in
    record {
      map = eqb-true _ _ b.0;
      least = leb-true _ _ c.0;
      most = ltb-true _ _ c.1;
      size = eqb-true _ _ d.0;
      wide = eqb-true _ _ e.0;
      repeat = g.0;
      tail = g.1;
    }

rm_one : (m n : Rm) (b : ℕ) → takes_mode m b ≡ true → takes_mode n b ≡ true → share_rm m n ≡ true
rm_one rm.Any n b f g = refl
rm_one rm.Memory rm.Any b f g = refl
rm_one rm.Memory rm.Memory b f g = refl
rm_one rm.Memory rm.Register b f g = let x = ltb-true b 192 f in let y = leb-true 192 b g in absurd (omega arith)
rm_one rm.Register rm.Any b f g = refl
rm_one rm.Register rm.Memory b f g = let x = leb-true 192 b f in let y = ltb-true b 192 g in absurd (omega arith)
rm_one rm.Register rm.Register b f g = refl

fixed_one : (b d : ℕ) (n : Rm) → (b / 8 % 8 == d) ≡ true → takes_mode n b ≡ true → share_fixed b d n ≡ true
fixed_one b d rm.Any e f = e
fixed_one b d rm.Memory e f = and_from _ _ e f
fixed_one b d rm.Register e f = and_from _ _ e f

fixed_digit : (b d : ℕ) (n : Rm) (xs : List ℕ) → takes_fixed b xs ≡ true → takes_digit d n xs ≡ true → share_fixed b d n ≡ true
fixed_digit b d n [] f g = cc
fixed_digit b d n (m ∷ xs) f g =
    let e = eqb-true m b f in
    let p = and_parts (m / 8 % 8 == d) (takes_mode n m) g in
    fixed_one b d n (rw (← e) p.0) (rw (← e) p.1)

both_fixed : (a b : ℕ) (xs : List ℕ) → takes_fixed a xs ≡ true → takes_fixed b xs ≡ true → (a == b) ≡ true
both_fixed a b [] f g = cc
both_fixed a b (m ∷ xs) f g = eq-eqb a b (sym (eqb-true m a f) ∙ eqb-true m b g)

both_digit : (d e : ℕ) (m n : Rm) (xs : List ℕ) → takes_digit d m xs ≡ true → takes_digit e n xs ≡ true → (d == e && share_rm m n) ≡ true
both_digit d e m n [] f g = cc
both_digit d e m n (b ∷ xs) f g =
    let p = and_parts (b / 8 % 8 == d) (takes_mode m b) f in
    let q = and_parts (b / 8 % 8 == e) (takes_mode n b) g in
    and_from _ _ (eq-eqb d e (sym (eqb-true (b / 8 % 8) d p.0) ∙ eqb-true (b / 8 % 8) e q.0)) (rm_one m n b p.1 q.1)

digit_slash : (d : ℕ) (m n : Rm) (xs : List ℕ) → takes_digit d m xs ≡ true → takes_slash n xs ≡ true → share_rm m n ≡ true
digit_slash d m n [] f g = cc
digit_slash d m n (b ∷ xs) f g = rm_one m n b (and_parts (b / 8 % 8 == d) (takes_mode m b) f).1 g

slash_digit : (d : ℕ) (m n : Rm) (xs : List ℕ) → takes_slash m xs ≡ true → takes_digit d n xs ≡ true → share_rm m n ≡ true
slash_digit d m n [] f g = cc
slash_digit d m n (b ∷ xs) f g = rm_one m n b f (and_parts (b / 8 % 8 == d) (takes_mode n b) g).1

both_slash : (m n : Rm) (xs : List ℕ) → takes_slash m xs ≡ true → takes_slash n xs ≡ true → share_rm m n ≡ true
both_slash m n [] f g = cc
both_slash m n (b ∷ xs) f g = rm_one m n b f g

pub modrm_one : (m n : Shape) (a b v : ℕ) (xs : List ℕ) → takes_tail m a v xs ≡ true → takes_tail n b v xs ≡ true → share_modrm m n ≡ true
modrm_one (shape.Fixed c) (shape.Fixed d) a b v xs f g = both_fixed c d xs f g
modrm_one (shape.Fixed c) (shape.Digit d n) a b v xs f g = fixed_digit c d n xs f g
modrm_one (shape.Digit d n) (shape.Fixed c) a b v xs f g = fixed_digit c d n xs g f
modrm_one (shape.Digit d m) (shape.Digit e n) a b v xs f g = both_digit d e m n xs f g
modrm_one (shape.Digit d m) (shape.Slash n) a b v xs f g = digit_slash d m n xs f g
modrm_one (shape.Slash m) (shape.Digit e n) a b v xs f g = slash_digit e m n xs f g
modrm_one (shape.Slash m) (shape.Slash n) a b v xs f g = both_slash m n xs f g
modrm_one shape.Plain n a b v xs f g = refl
modrm_one shape.Low n a b v xs f g = refl
modrm_one shape.LowNotFirst n a b v xs f g = refl
modrm_one (shape.Fixed c) shape.Plain a b v xs f g = refl
modrm_one (shape.Fixed c) shape.Low a b v xs f g = refl
modrm_one (shape.Fixed c) shape.LowNotFirst a b v xs f g = refl
modrm_one (shape.Fixed c) (shape.Slash n) a b v xs f g = refl
modrm_one (shape.Digit d m) shape.Plain a b v xs f g = refl
modrm_one (shape.Digit d m) shape.Low a b v xs f g = refl
modrm_one (shape.Digit d m) shape.LowNotFirst a b v xs f g = refl
modrm_one (shape.Slash m) shape.Plain a b v xs f g = refl
modrm_one (shape.Slash m) shape.Low a b v xs f g = refl
modrm_one (shape.Slash m) shape.LowNotFirst a b v xs f g = refl
modrm_one (shape.Slash m) (shape.Fixed c) a b v xs f g = refl

-- one opcode is not left out of the one row and that of the other
left_in : (m n : Shape) (a b v : ℕ) (xs : List ℕ) (same : Bool) → (same ≡ true → a ≡ b) → a < span m → b < span n → takes_tail m a v xs ≡ true → takes_tail n b v xs ≡ true
    → not (is_left_out m n && same) ≡ true
left_in shape.Plain shape.LowNotFirst a b v xs true e la lb f g =
    let z = eqb-true v 0 f in
    let s = e refl in
    absurd (eqb-false (b + v) 0 (not-true (b + v == 0) g) (omega arith))
left_in shape.LowNotFirst shape.Plain a b v xs true e la lb f g =
    let z = eqb-true v 0 g in
    let s = e refl in
    absurd (eqb-false (a + v) 0 (not-true (a + v == 0) f) (omega arith))
left_in shape.Plain shape.LowNotFirst a b v xs false e la lb f g = refl
left_in shape.LowNotFirst shape.Plain a b v xs false e la lb f g = refl
left_in shape.Plain shape.Plain a b v xs s e la lb f g = refl
left_in shape.Plain shape.Low a b v xs s e la lb f g = refl
left_in shape.Plain (shape.Fixed c) a b v xs s e la lb f g = refl
left_in shape.Plain (shape.Digit c n) a b v xs s e la lb f g = refl
left_in shape.Plain (shape.Slash n) a b v xs s e la lb f g = refl
left_in shape.LowNotFirst shape.Low a b v xs s e la lb f g = refl
left_in shape.LowNotFirst shape.LowNotFirst a b v xs s e la lb f g = refl
left_in shape.LowNotFirst (shape.Fixed c) a b v xs s e la lb f g = refl
left_in shape.LowNotFirst (shape.Digit c n) a b v xs s e la lb f g = refl
left_in shape.LowNotFirst (shape.Slash n) a b v xs s e la lb f g = refl
left_in shape.Low n a b v xs s e la lb f g = refl
left_in (shape.Fixed c) n a b v xs s e la lb f g = refl
left_in (shape.Digit c m) n a b v xs s e la lb f g = refl
left_in (shape.Slash m) n a b v xs s e la lb f g = refl

repeat_some : (c : Bool) (e f : Repeat) (a b : Words) → (if c then takes_f3 e a else takes_f2 e a) ≡ true → (if c then takes_f3 f b else takes_f2 f b) ≡ true
    → (takes_none e && takes_none f || (takes_f2 e a && takes_f2 f b || takes_f3 e a && takes_f3 f b)) ≡ true
repeat_some true e f a b g h = or_last (takes_none e && takes_none f) (takes_f2 e a && takes_f2 f b) (takes_f3 e a && takes_f3 f b) (and_from _ _ g h)
  where
    or_last : (x y z : Bool) → z ≡ true → (x || (y || z)) ≡ true
    or_last true y z h = refl
    or_last false true z h = refl
    or_last false false z h = h
repeat_some false e f a b g h = or_middle (takes_none e && takes_none f) (takes_f2 e a && takes_f2 f b) (takes_f3 e a && takes_f3 f b) (and_from _ _ g h)
  where
    or_middle : (x y z : Bool) → y ≡ true → (x || (y || z)) ≡ true
    or_middle true y z h = refl
    or_middle false y z h = rw h refl

repeat_one : (e f : Repeat) (a b : Words) (o : Option ℕ) → takes_repeat e a o ≡ true → takes_repeat f b o ≡ true
    → (takes_none e && takes_none f || (takes_f2 e a && takes_f2 f b || takes_f3 e a && takes_f3 f b)) ≡ true
repeat_one e f a b None g h = rw (g, h) refl
repeat_one e f a b (Some c) g h = repeat_some (c == 243) e f a b g h

-- rows that admit one head share a head
pub admit_one : (m : Map) (h : Head) (o : ℕ) (bytes : List ℕ) (r s : Row) → admits m h o bytes r ≡ true → admits m h o bytes s ≡ true → share_head r s ≡ true
admit_one m h o bytes r s f g =
    let a = admitted m h o bytes r f in
    let b = admitted m h o bytes s g in
    let la = a.least in let ma = a.most in let lb = b.least in let mb = b.most in
    let out = left_in r.shape s.shape (o - r.code) (o - s.code) (rex_value h.rex % 2) bytes (r.code == s.code) (λ e. let c = eqb-true r.code s.code e in omega arith) (omega arith) (omega arith) a.tail b.tail in
    and_from _ _ (eq-eqb _ _ (a.size ∙ sym b.size)) (and_from _ _ (eq-eqb _ _ (a.wide ∙ sym b.wide))
    (and_from _ _ (and_from _ _ (eq-eqb _ _ (a.map ∙ sym b.map)) (and_from _ _ (lt-ltb r.code (s.code + span s.shape) (omega arith)) (and_from _ _ (lt-ltb s.code (r.code + span r.shape) (omega arith)) out)))
    (and_from _ _ (repeat_one r.lead.repeat s.lead.repeat r.words s.words h.repeat a.repeat b.repeat) (modrm_one r.shape s.shape (o - r.code) (o - s.code) (rex_value h.rex % 2) bytes a.tail b.tail))))

span_small : (m : Shape) → span m < 9
span_small shape.Plain = omega arith
span_small shape.Low = omega arith
span_small shape.LowNotFirst = omega arith
span_small (shape.Fixed b) = omega arith
span_small (shape.Digit d m) = omega arith
span_small (shape.Slash m) = omega arith

-- an opcode is less than eight above that of a row that admits it
pub near : (m : Map) (h : Head) (o : ℕ) (bytes : List ℕ) (r : Row) → admits m h o bytes r ≡ true → o - r.code < 8
near m h o bytes r f =
    let a = admitted m h o bytes r f in
    let least = a.least in
    let most = a.most in
    let small = span_small r.shape in
    omega arith
