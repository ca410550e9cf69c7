-- Bytes that go to an output, and wait before they are written.
use Rattle.std.proofs.Common.{◌≡◌, ℕ, ◌+◌, ◌≤◌, List, [], ◌++◌, length, take, drop, Option, Result, Ok, Err, OnOk, OnErr, refl, sym, subst, ap, ◌∙◌, arith, append_assoc, append-nil, length-append, option_map}
use Rattle.std.proofs.Math.Seq.{take-append_seam}
use Rattle.std.proofs.lemmas.List.{take-append-drop}
use Rattle.asm_base.specs.Output.{Made, after_write}
use Rattle.elf_file.specs.Waiting.{Sends, SendsFront}
use Rattle.elf_file.proofs.WritingLemmas.{written-append, written_none}

-- all bytes wait
pub waits : (before now : Option Made) (all rest : List ℕ) → now ≡ before → rest ≡ all → Sends before now all rest
waits before now all rest same whole = record { sent = []; made = same ∙ sym (written_none before); whole = whole }

-- bytes are taken, and then more of those that were left
pub sends_on : {before mid now : Option Made} {all left rest : List ℕ} → Sends before mid all left → Sends mid now left rest → Sends before now all rest
sends_on {before} {mid} {now} {all} {left} {rest} first second = record {
  sent = first.sent ++ second.sent;
  made = second.made ∙ ap (option_map (after_write second.sent)) first.made ∙ sym (written-append first.sent second.sent before);
  whole = append_assoc first.sent second.sent rest ∙ ap (λ (xs : List ℕ). first.sent ++ xs) second.whole ∙ first.whole;
}

-- bytes behind them are left too
pub sends_more : {before now : Option Made} {all rest : List ℕ} (more : List ℕ) → Sends before now all rest → Sends before now (all ++ more) (rest ++ more)
sends_more {before} {now} {all} {rest} more sends = record {
  sent = sends.sent;
  made = sends.made;
  whole = sym (append_assoc sends.sent rest more) ∙ ap (λ (xs : List ℕ). xs ++ more) sends.whole;
}

-- a front of what was left is taken
pub front_on : {before mid now : Option Made} {all left : List ℕ} → Sends before mid all left → SendsFront mid now left → SendsFront before now all
front_on first second = record { rest = second.rest; sends = sends_on first second.sends }

pub front_more : {before now : Option Made} {all : List ℕ} (more : List ℕ) → SendsFront before now all → SendsFront before now (all ++ more)
front_more more front = record { rest = front.rest ++ more; sends = sends_more more front.sends }

-- all bytes are taken
pub all_sent : (before now : Option Made) (all : List ℕ) → now ≡ option_map (after_write all) before → Sends before now all []
all_sent before now all made = record { sent = all; made = made; whole = append-nil all }

-- so many of the bytes are taken
pub some_sent : (before now : Option Made) (all : List ℕ) → (n : ℕ) × (n ≤ length all) × (now ≡ option_map (after_write (take n all)) before) → SendsFront before now all
some_sent before now all front = record {
  rest = drop front.0 all;
  sends = record { sent = take front.0 all; made = front.2; whole = take-append-drop front.0 all };
}

-- a front has a length
pub front_long : (before now : Option Made) (all : List ℕ) → SendsFront before now all
    → (n : ℕ) × (n ≤ length all) × (now ≡ option_map (after_write (take n all)) before)
front_long before now all front =
    let sent = front.sends.sent in
    let long : length all ≡ length sent + length front.rest = ap length (sym front.sends.whole) ∙ length-append sent front.rest in (
      length sent,
      omega arith,
      front.sends.made ∙ ap (λ (xs : List ℕ). option_map (after_write xs) before) (sym (ap (take (length sent)) (sym front.sends.whole) ∙ take-append_seam sent front.rest)),
    )

-- those that waited are taken
flushed : {before mid : Option Made} (waiting more : List ℕ) → mid ≡ option_map (after_write waiting) before → Sends before mid (waiting ++ more) more
flushed waiting more made = record { sent = waiting; made = made; whole = refl }

-- those that waited are taken, and then those behind them
pub flushed_sent : {before mid now : Option Made} (waiting bytes left : List ℕ) → mid ≡ option_map (after_write waiting) before → left ≡ []
    → now ≡ option_map (after_write bytes) mid → Sends before now (waiting ++ bytes) left
flushed_sent {before} {mid} {now} waiting bytes left first none second =
    subst (λ (xs : List ℕ). Sends before now (waiting ++ bytes) xs) (sym none) (sends_on (flushed waiting bytes first) (all_sent mid now bytes second))

pub flushed_front : {before mid now : Option Made} (waiting bytes : List ℕ) → mid ≡ option_map (after_write waiting) before
    → (n : ℕ) × (n ≤ length bytes) × (now ≡ option_map (after_write (take n bytes)) mid) → SendsFront before now (waiting ++ bytes)
flushed_front {before} {mid} {now} waiting bytes first front = front_on (flushed waiting bytes first) (some_sent mid now bytes front)

-- bytes go behind those that wait, and then others
pub both_sent : {before mid now : Option Made} (waiting bytes more left rest : List ℕ) → Sends before mid (waiting ++ bytes) left → Sends mid now (left ++ more) rest
    → Sends before now (waiting ++ (bytes ++ more)) rest
both_sent {before} {mid} {now} waiting bytes more left rest first second =
    subst (λ (xs : List ℕ). Sends before now xs rest) (append_assoc waiting bytes more) (sends_on (sends_more more first) second)

pub both_front : {before mid now : Option Made} (waiting bytes more left : List ℕ) → Sends before mid (waiting ++ bytes) left → SendsFront mid now (left ++ more)
    → SendsFront before now (waiting ++ (bytes ++ more))
both_front {before} {mid} {now} waiting bytes more left first second =
    subst (λ (xs : List ℕ). SendsFront before now xs) (append_assoc waiting bytes more) (front_on (sends_more more first) second)

pub first_front : {before now : Option Made} (waiting bytes more : List ℕ) → SendsFront before now (waiting ++ bytes) → SendsFront before now (waiting ++ (bytes ++ more))
first_front {before} {now} waiting bytes more front = subst (λ (xs : List ℕ). SendsFront before now xs) (append_assoc waiting bytes more) (front_more more front)

-- the next of the bytes that are left go behind those that wait
pub step_sent : {before mid now : Option Made} {whole : List ℕ} (waiting bytes more left rest : List ℕ) → Sends before mid whole (waiting ++ left) → left ≡ bytes ++ more
    → Sends mid now (waiting ++ bytes) rest → Sends before now whole (rest ++ more)
step_sent {before} {mid} {now} {whole} waiting bytes more left rest first is second =
    sends_on (subst (λ (xs : List ℕ). Sends before mid whole xs) (ap (λ (xs : List ℕ). waiting ++ xs) is ∙ sym (append_assoc waiting bytes more)) first) (sends_more more second)

pub step_front : {before mid now : Option Made} {whole : List ℕ} (waiting bytes more left : List ℕ) → Sends before mid whole (waiting ++ left) → left ≡ bytes ++ more
    → SendsFront mid now (waiting ++ bytes) → SendsFront before now whole
step_front {before} {mid} {now} {whole} waiting bytes more left first is second =
    front_on (subst (λ (xs : List ℕ). Sends before mid whole xs) (ap (λ (xs : List ℕ). waiting ++ xs) is ∙ sym (append_assoc waiting bytes more)) first) (front_more more second)

-- the last of the bytes that are left
pub last_sent : {before mid now : Option Made} {whole : List ℕ} (waiting bytes left rest : List ℕ) → Sends before mid whole (waiting ++ left) → left ≡ bytes
    → Sends mid now (waiting ++ bytes) rest → Sends before now whole rest
last_sent {before} {mid} {now} {whole} waiting bytes left rest first is second =
    sends_on (subst (λ (xs : List ℕ). Sends before mid whole (waiting ++ xs)) is first) second

pub last_front : {before mid now : Option Made} {whole : List ℕ} (waiting bytes left : List ℕ) → Sends before mid whole (waiting ++ left) → left ≡ bytes
    → SendsFront mid now (waiting ++ bytes) → SendsFront before now whole
last_front {before} {mid} {now} {whole} waiting bytes left first is second =
    front_on (subst (λ (xs : List ℕ). Sends before mid whole (waiting ++ xs)) is first) second

-- where none waited at the beginning a front has a length
pub begun_long : {before now : Option Made} (waiting bytes : List ℕ) → waiting ≡ [] → SendsFront before now (waiting ++ bytes)
    → (n : ℕ) × (n ≤ length bytes) × (now ≡ option_map (after_write (take n bytes)) before)
begun_long {before} {now} waiting bytes none front =
    front_long before now bytes (subst (λ (xs : List ℕ). SendsFront before now (xs ++ bytes)) none front)

-- all bytes are a front of them
pub all_front : {before now : Option Made} (bytes : List ℕ) → now ≡ option_map (after_write bytes) before → SendsFront before now bytes
all_front {before} {now} bytes made = record { rest = []; sends = all_sent before now bytes made }

-- what follows where a call succeeds, and where it fails
pub on_ok : {T E A B : Type 0} (r : Result T E) → (A → B) → OnOk r A → OnOk r B
on_ok (Ok x) f a = f a
on_ok (Err e) f a = tt

pub on_err : {T E A B : Type 0} (r : Result T E) → (A → B) → OnErr r A → OnErr r B
on_err (Ok x) f a = tt
on_err (Err e) f a = f a

pub on_any : {T E A B C : Type 0} (r : Result T E) → (A → C) → (B → C) → OnOk r A → OnErr r B → C
on_any (Ok x) f g a b = f a
on_any (Err e) f g a b = g b

pub err_of : {T E A : Type 0} (r : Result T E) → A → OnErr r A
err_of (Ok x) a = tt
err_of (Err e) a = a
