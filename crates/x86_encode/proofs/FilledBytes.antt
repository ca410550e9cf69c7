-- The bytes of fields with values in place of those that are not known.
use Rattle.std.proofs.Common.{◌≡◌, ◌≤◌, ◌+◌, ◌-◌, ◌*◌, ◌%◌, ◌^◌, ◌&&◌, ◌∷◌, ◌++◌, ◌∙◌, Bool, List, None, Option, Some, [], ap, append_assoc, arith, drop, length, nat_lt, refl, suc, sym, take, true, zero, ℕ}
use Rattle.std.proofs.lemmas.Bool.{and_parts}
use Rattle.std.proofs.Math.ListN.{length-append}
use Rattle.x86_insn.specs.declared.insns.Index.{Index}
use Rattle.x86_table.specs.declared.forms.Row.{Row}
use Rattle.x86_table.specs.declared.forms.Immediate.{Immediate}
use Rattle.x86_table.specs.declared.forms.Shape.{Shape}
use Rattle.x86_table.specs.declared.parts.Width.{Width}
use Rattle.x86_parts.specs.declared.encoded.Position.{Position}
use Rattle.x86_table.specs.declared.forms.Immediate.TheVariants as immediate
use Rattle.x86_table.specs.declared.forms.Shape.TheVariants as shape
use Rattle.x86_table.specs.declared.parts.Width.TheVariants as width
use Rattle.x86_table.specs.Bytes.{opt, first_byte, size_byte, repeat_byte, lock_byte, rex_bits, rex_byte, escape_byte, second_escape, long, displacement_bytes, mod_of, rm_of, sib_bytes, place_displacement, modrm_bytes, immediate_bytes, bytes_of}
use Rattle.x86_table.specs.Fields.{Location, nowhere, direct, from_rip, bare, based, Fields}
use Rattle.x86_table.specs.Fits.{displacement_fits, index_fits, sib_fits, mode_fits, some_place_fits, rm_fits, is_nowhere, place_fits, immediate_fits, fits}
use Rattle.x86_parts.specs.Filling.{low_bytes, filled, known_as, moved_field, held_field}
use Rattle.x86_parts.specs.Keys.{immediate_length}
use Rattle.x86_encode.proofs.FilledFields.{fill_place, lowered, fill, fill_bits}
use Rattle.x86_encode.proofs.Fitted.{fit_of}
use Rattle.x86_encode.proofs.Length.{immediate_is}

-- what stands before the displacement behind the opcode
abbrev pub modrm_head : Shape → ℕ → Location → List ℕ
modrm_head shape.Plain reg p = []
modrm_head shape.Low reg p = []
modrm_head shape.LowNotFirst reg p = []
modrm_head (shape.Fixed b) reg p = b ∷ []
modrm_head (shape.Digit d m) reg p = (64 * mod_of p + 8 * reg + rm_of p) ∷ sib_bytes p
modrm_head (shape.Slash m) reg p = (64 * mod_of p + 8 * reg + rm_of p) ∷ sib_bytes p

-- the displacement
abbrev pub modrm_tail : Shape → Location → List ℕ
modrm_tail shape.Plain p = []
modrm_tail shape.Low p = []
modrm_tail shape.LowNotFirst p = []
modrm_tail (shape.Fixed b) p = []
modrm_tail (shape.Digit d m) p = place_displacement p
modrm_tail (shape.Slash m) p = place_displacement p

modrm_split : (m : Shape) (reg : ℕ) (p : Location) → modrm_bytes m reg p ≡ modrm_head m reg p ++ modrm_tail m p
modrm_split shape.Plain reg p = refl
modrm_split shape.Low reg p = refl
modrm_split shape.LowNotFirst reg p = refl
modrm_split (shape.Fixed b) reg p = refl
modrm_split (shape.Digit d m) reg p = refl
modrm_split (shape.Slash m) reg p = refl

-- all before the displacement
unfoldable front : Row → Fields → List ℕ
front r p = opt (first_byte p.segment p.«prefix») ++ (opt (size_byte r.lead.operand_size) ++ (opt (repeat_byte r.lead.repeat p.«prefix») ++ (opt (lock_byte p.«prefix»)
    ++ (opt (rex_byte (rex_bits r p) p.bare_rex) ++ (opt (escape_byte r.map) ++ (opt (second_escape r.map) ++ ((r.code + p.low % 8) ∷ modrm_head r.shape (p.reg % 8) p.place)))))))

joined : (a b c d e f g h : List ℕ) (x : ℕ) (t i : List ℕ) → (a ++ (b ++ (c ++ (d ++ (e ++ (f ++ (g ++ (x ∷ h)))))))) ++ (t ++ i) ≡ a ++ (b ++ (c ++ (d ++ (e ++ (f ++ (g ++ (x ∷ ((h ++ t) ++ i))))))))
joined a b c d e f g h x t i = simp append_assoc

split : (r : Row) (p : Fields) → bytes_of r p ≡ front r p ++ (modrm_tail r.shape p.place ++ immediate_bytes r.immediate p.held)
unfolding bytes_of front
split r p = rw (modrm_split r.shape (p.reg % 8) p.place) (sym (joined (opt (first_byte p.segment p.«prefix»)) (opt (size_byte r.lead.operand_size)) (opt (repeat_byte r.lead.repeat p.«prefix»)) (opt (lock_byte p.«prefix»))
    (opt (rex_byte (rex_bits r p) p.bare_rex)) (opt (escape_byte r.map)) (opt (second_escape r.map)) (modrm_head r.shape (p.reg % 8) p.place) (r.code + p.low % 8)
    (modrm_tail r.shape p.place) (immediate_bytes r.immediate p.held)))

mod_fill : (v : ℕ) (p : Location) → mod_of (fill_place v p) ≡ mod_of p
mod_fill v nowhere = refl
mod_fill v (direct n) = refl
mod_fill v (from_rip d) = refl
mod_fill v (bare i d) = refl
mod_fill v (based b i s w d) = refl

rm_of_fill : (v : ℕ) (p : Location) → rm_of (fill_place v p) ≡ rm_of p
rm_of_fill v nowhere = refl
rm_of_fill v (direct n) = refl
rm_of_fill v (from_rip d) = refl
rm_of_fill v (bare i d) = refl
rm_of_fill v (based b i s w d) = refl

sib_fill : (v : ℕ) (p : Location) → sib_bytes (fill_place v p) ≡ sib_bytes p
sib_fill v nowhere = refl
sib_fill v (direct n) = refl
sib_fill v (from_rip d) = refl
sib_fill v (bare i d) = refl
sib_fill v (based b i s w d) = refl

head_fill : (v : ℕ) (m : Shape) (reg : ℕ) (p : Location) → modrm_head m reg (fill_place v p) ≡ modrm_head m reg p
head_fill v shape.Plain reg p = refl
head_fill v shape.Low reg p = refl
head_fill v shape.LowNotFirst reg p = refl
head_fill v (shape.Fixed b) reg p = refl
head_fill v (shape.Digit d m) reg p = rw (mod_fill v p, rm_of_fill v p, sib_fill v p) refl
head_fill v (shape.Slash m) reg p = rw (mod_fill v p, rm_of_fill v p, sib_fill v p) refl

front_fill : (v w : ℕ) (r : Row) (p : Fields) → front r (fill v w p) ≡ front r p
unfolding front
front_fill v w r p = rw (head_fill v r.shape (p.reg % 8) p.place, fill_bits v w r p) refl

-- PUTTING BYTES

take_front : (f t : List ℕ) (n : ℕ) → n ≡ length f → take n (f ++ t) ≡ f
take_front [] t n e = rw e refl
take_front (x ∷ f) t zero e = absurd (omega arith)
take_front (x ∷ f) t (suc n) e = ap (λ (y : List ℕ). x ∷ y) (take_front f t n (omega arith))

drop_front : (f t : List ℕ) (n : ℕ) → n ≡ length f → drop n (f ++ t) ≡ t
drop_front [] t n e = rw e refl
drop_front (x ∷ f) t zero e = absurd (omega arith)
drop_front (x ∷ f) t (suc n) e = drop_front f t n (omega arith)

drop_two : (f x t : List ℕ) (n : ℕ) → n ≡ length f + length x → drop n (f ++ (x ++ t)) ≡ t
drop_two f x t n e = rw (← append_assoc f x t) (drop_front (f ++ x) t n (e ∙ sym (length-append f x)))

put : (f x y t : List ℕ) (n k : ℕ) → n ≡ length f → k ≡ length x → take n (f ++ (x ++ t)) ++ (y ++ drop (n + k) (f ++ (x ++ t))) ≡ f ++ (y ++ t)
put f x y t n k e g = rw (take_front f (x ++ t) n e, drop_two f x t (n + k) (omega arith)) refl

append_nil : (y : List ℕ) → y ++ [] ≡ y
append_nil [] = refl
append_nil (x ∷ y) = ap (λ (z : List ℕ). x ∷ z) (append_nil y)

pub drop_all : (f : List ℕ) (n : ℕ) → length f ≤ n → drop n f ≡ []
drop_all [] zero e = refl
drop_all [] (suc n) e = refl
drop_all (x ∷ f) zero e = absurd (omega arith)
drop_all (x ∷ f) (suc n) e = drop_all f n (omega arith)

put_last : (f x y : List ℕ) (n k : ℕ) → n ≡ length f → k ≡ length x → take n (f ++ x) ++ (y ++ drop (n + k) (f ++ x)) ≡ f ++ y
put_last f x y n k e g =
    let l = length-append f x in
    rw (take_front f x n e, drop_all (f ++ x) (n + k) (omega arith), append_nil y) refl

-- THE DISPLACEMENT

nowhere_put : (at : ℕ) (here : Position) (v : ℕ) (p : Location) (b : List ℕ) → is_nowhere p ≡ true → filled (moved_field at here p) v b ≡ b
nowhere_put at here v nowhere b h = refl
nowhere_put at here v (direct n) b h = cc
nowhere_put at here v (from_rip d) b h = cc
nowhere_put at here v (bare i d) b h = cc
nowhere_put at here v (based c i s w d) b h = cc

rip_put : (at : ℕ) (here : Position) (v : ℕ) (d : Option ℕ) (f t : List ℕ) → at ≡ length f → filled (moved_field at here (from_rip d)) v (f ++ (long d ++ t)) ≡ f ++ (long (known_as v d) ++ t)
rip_put at here v None f t e = put f (long None) (long (Some v)) t at 4 e refl
rip_put at here v (Some x) f t e = refl

bare_put : (at : ℕ) (here : Position) (v : ℕ) (i : Index) (d : Option ℕ) (f t : List ℕ) → at ≡ length f → filled (moved_field at here (bare i d)) v (f ++ (long d ++ t)) ≡ f ++ (long (known_as v d) ++ t)
bare_put at here v i None f t e = put f (long None) (long (Some v)) t at 4 e refl
bare_put at here v i (Some x) f t e = refl

based_put : (at : ℕ) (here : Position) (v b : ℕ) (i : Index) (s : Bool) (w : Width) (d : Option ℕ) (f t : List ℕ) → displacement_fits w d ≡ true → (length (displacement_bytes w d) ≡ 4 → at ≡ length f)
    → filled (moved_field at here (based b i s w d)) v (f ++ (displacement_bytes w d ++ t)) ≡ f ++ (displacement_bytes w (known_as v d) ++ t)
based_put at here v b i s width.Absent None f t h e = cc
based_put at here v b i s width.Byte None f t h e = cc
based_put at here v b i s width.Long None f t h e = put f (long None) (long (Some v)) t at 4 (e refl) refl
based_put at here v b i s w (Some x) f t h e = refl

offset_put : (at : ℕ) (here : Position) (v : ℕ) (p : Location) (f t : List ℕ) → some_place_fits p ≡ true → (length (place_displacement p) ≡ 4 → at ≡ length f)
    → filled (moved_field at here p) v (f ++ (place_displacement p ++ t)) ≡ f ++ (place_displacement (fill_place v p) ++ t)
offset_put at here v nowhere f t h e = refl
offset_put at here v (direct n) f t h e = refl
offset_put at here v (from_rip d) f t h e = rip_put at here v d f t (e refl)
offset_put at here v (bare i d) f t h e = bare_put at here v i d f t (e refl)
offset_put at here v (based b i s w d) f t h e =
    let p = and_parts (nat_lt b 16) (index_fits i && (sib_fits s i b && (mode_fits w b && displacement_fits w d))) h in
    let q = and_parts (index_fits i) (sib_fits s i b && (mode_fits w b && displacement_fits w d)) p.1 in
    let r = and_parts (sib_fits s i b) (mode_fits w b && displacement_fits w d) q.1 in
    let u = and_parts (mode_fits w b) (displacement_fits w d) r.1 in
    based_put at here v b i s w d f t u.1 e

moved_put : (m : Shape) (at : ℕ) (here : Position) (v : ℕ) (p : Location) (f t : List ℕ) → place_fits m p ≡ true → (length (modrm_tail m p) ≡ 4 → at ≡ length f)
    → filled (moved_field at here p) v (f ++ (modrm_tail m p ++ t)) ≡ f ++ (modrm_tail m (fill_place v p) ++ t)
moved_put shape.Plain at here v p f t h e = nowhere_put at here v p (f ++ ([] ++ t)) h
moved_put shape.Low at here v p f t h e = nowhere_put at here v p (f ++ ([] ++ t)) h
moved_put shape.LowNotFirst at here v p f t h e = nowhere_put at here v p (f ++ ([] ++ t)) h
moved_put (shape.Fixed b) at here v p f t h e = nowhere_put at here v p (f ++ ([] ++ t)) h
moved_put (shape.Digit d m) at here v p f t h e = offset_put at here v p f t (and_parts (some_place_fits p) (rm_fits m p) h).0 e
moved_put (shape.Slash m) at here v p f t h e = offset_put at here v p f t (and_parts (some_place_fits p) (rm_fits m p) h).0 e

width_fill : (v : ℕ) (w : Width) (d : Option ℕ) → length (displacement_bytes w (known_as v d)) ≡ length (displacement_bytes w d)
width_fill v width.Absent d = refl
width_fill v width.Byte d = refl
width_fill v width.Long d = refl

offset_fill : (v : ℕ) (p : Location) → length (place_displacement (fill_place v p)) ≡ length (place_displacement p)
offset_fill v nowhere = refl
offset_fill v (direct n) = refl
offset_fill v (from_rip d) = refl
offset_fill v (bare i d) = refl
offset_fill v (based b i s w d) = width_fill v w d

tail_fill : (v : ℕ) (m : Shape) (p : Location) → length (modrm_tail m (fill_place v p)) ≡ length (modrm_tail m p)
tail_fill v shape.Plain p = refl
tail_fill v shape.Low p = refl
tail_fill v shape.LowNotFirst p = refl
tail_fill v (shape.Fixed b) p = refl
tail_fill v (shape.Digit d m) p = offset_fill v p
tail_fill v (shape.Slash m) p = offset_fill v p

-- THE IMMEDIATE

twice_byte : (w : ℕ) → w % 2 ^ 8 % 256 ≡ w % 256
twice_byte w = omega arith

twice_word : (w : ℕ) → w % 2 ^ 16 % 2 ^ 16 ≡ w % 2 ^ 16
twice_word w = omega arith

twice_long : (w : ℕ) → w % 2 ^ 32 % 2 ^ 32 ≡ w % 2 ^ 32
twice_long w = omega arith

-- the bytes of what an immediate holds of a value are the value's low bytes
low_held : (i : Immediate) (w : ℕ) → immediate_fits i None ≡ true → low_bytes (immediate_length i) w ≡ immediate_bytes i (Some (lowered i w))
low_held immediate.Absent w h = cc
low_held immediate.Byte w h = rw (twice_byte w) refl
low_held immediate.Count w h = cc
low_held immediate.Sext16 w h = cc
low_held immediate.Sext32 w h = cc
low_held immediate.Sext64 w h = cc
low_held immediate.Word w h = rw (twice_word w) refl
low_held immediate.Long w h = rw (twice_long w) refl
low_held immediate.LongSext w h = refl
low_held immediate.Quad w h = refl
low_held immediate.Rel8 w h = refl
low_held immediate.Short w h = cc
low_held immediate.Rel32 w h = refl

held_put : (at : ℕ) (here : Position) (w : ℕ) (i : Immediate) (d : Option ℕ) (g : List ℕ) → immediate_fits i d ≡ true → at ≡ length g
    → filled (held_field at here i d) w (g ++ immediate_bytes i d) ≡ g ++ immediate_bytes i (known_as (lowered i w) d)
held_put at here w i (Some x) g f e = refl
held_put at here w i None g f e =
    put_last g (immediate_bytes i None) (low_bytes (immediate_length i) w) at (immediate_length i) e (sym (immediate_is i None)) ∙ ap (λ (y : List ℕ). g ++ y) (low_held i w f)

-- the bytes with values in their fields are those of the filled fields
pub filled_bytes : (n : ℕ) (here there : Position) (v w : ℕ) (r : Row) (p : Fields) → n ≡ length (bytes_of r p) → fits r p ≡ true
    → filled (held_field (n - immediate_length r.immediate) there r.immediate p.held) w (filled (moved_field (n - immediate_length r.immediate - 4) here p.place) v (bytes_of r p)) ≡ bytes_of r (fill v (lowered r.immediate w) p)
filled_bytes n here there v w r p e h =
    let fit = fit_of r p h in
    let f = front r p in
    let t = modrm_tail r.shape p.place in
    let t2 = modrm_tail r.shape (fill_place v p.place) in
    let i = immediate_bytes r.immediate p.held in
    let li : length i ≡ immediate_length r.immediate = immediate_is r.immediate p.held in
    let lt : length t2 ≡ length t = tail_fill v r.shape p.place in
    let ln : length (bytes_of r p) ≡ length (f ++ (t ++ i)) = ap (λ (y : List ℕ). length y) (split r p) in
    let l1 = length-append f (t ++ i) in
    let l2 = length-append t i in
    let l3 = length-append f t2 in
    let first : filled (moved_field (n - immediate_length r.immediate - 4) here p.place) v (bytes_of r p) ≡ (f ++ t2) ++ i =
    ap (λ (y : List ℕ). filled (moved_field (n - immediate_length r.immediate - 4) here p.place) v y) (split r p)
    ∙ moved_put r.shape (n - immediate_length r.immediate - 4) here v p.place f i fit.place (λ z. omega arith)
    ∙ sym (append_assoc f t2 i) in
    let second : filled (held_field (n - immediate_length r.immediate) there r.immediate p.held) w ((f ++ t2) ++ i) ≡ (f ++ t2) ++ immediate_bytes r.immediate (known_as (lowered r.immediate w) p.held) =
    held_put (n - immediate_length r.immediate) there w r.immediate p.held (f ++ t2) fit.held (omega arith) in
    let third : bytes_of r (fill v (lowered r.immediate w) p) ≡ f ++ (t2 ++ immediate_bytes r.immediate (known_as (lowered r.immediate w) p.held)) =
    split r (fill v (lowered r.immediate w) p) ∙ ap (λ (y : List ℕ). y ++ (t2 ++ immediate_bytes r.immediate (known_as (lowered r.immediate w) p.held))) (front_fill v (lowered r.immediate w) r p) in
    ap (λ (y : List ℕ). filled (held_field (n - immediate_length r.immediate) there r.immediate p.held) w y) first ∙ second ∙ append_assoc f t2 (immediate_bytes r.immediate (known_as (lowered r.immediate w) p.held)) ∙ sym third
