-- The steps of the loop over a statement.
use Rattle.std.proofs.Common.{◌≡◌, ◌∷◌, ◌+◌, ◌-◌, length, take, drop, refl, sym, ap, ◌∙◌, arith}
use Rattle.std.proofs.lemmas.Bool.{false≢true}
use Rattle.std.proofs.lemmas.List.{length-drop, take_rest}
use Rattle.asm_base.specs.Pieces.{is_space}
use Rattle.asm_base.specs.Dividing.{piece_length}
use Rattle.asm_base.specs.Tokens.{token_kind_by, token_kind, token_length}
use Rattle.asm_base.proofs.ReadingTokens.{read_space, read_token, read_end, one_more}
use Rattle.asm_base.proofs.tokens.Tokens.read.Goals as goal

pub loop-first-preserved-then-is_space : goal.loop-first-preserved-then-is_space
loop-first-preserved-then-is_space c =
    let s = c.args.statement.now in
    let front : drop c.loop-first.at s ≡ c.in-Some.first.now ∷ c.in-Some.rest.now = sym (take_rest s c.loop-first.at) ∙ c.in-Some.ensures.cases.0 in
    let piece = c.first_piece-piece in
    let space = ap is_space (sym piece.ensures.kind) ∙ sym c.is_space.ensures ∙ c.if-is_space.true in
    record {
      within = omega (arith, length-drop c.loop-first.at s, ap length front, piece.ensures.within);
      room = c.loop-first.invariant.room;
      all = read_space _ _ s c.loop-first.at c.in-Some.first.now c.in-Some.rest.now _ front space (piece.ensures.length ∙ ap (λ k. piece_length k c.in-Some.rest.now) piece.ensures.kind) c.loop-first.invariant.all;
    }

pub token_length-requires-clause-class : goal.token_length-requires-clause-class
unfolding token_kind
token_length-requires-clause-class c =
    c.token_kind-kind.ensures ∙ ap (token_kind_by c.in-Some.first.now) c.first_piece-piece.ensures.kind

pub returns-in_err-push-clause-memory : goal.returns-in_err-push-clause-memory
returns-in_err-push-clause-memory c = λ few.
    let s = c.args.statement.now in
    let front : drop c.loop-first.at s ≡ c.in-Some.first.now ∷ c.in-Some.rest.now = sym (take_rest s c.loop-first.at) ∙ c.in-Some.ensures.cases.0 in
    let not_space = ap is_space (sym c.first_piece-piece.ensures.kind) ∙ sym c.is_space.ensures ∙ c.if-is_space.false in
    let more = one_more c.loop-first.list.items _ s c.loop-first.at c.in-Some.first.now c.in-Some.rest.now front not_space c.loop-first.invariant.all in
    let room = c.loop-first.invariant.room in
    absurd (false≢true (c.in_err-push.ensures.succeeds (omega arith)))

pub loop-first-preserved : goal.loop-first-preserved
unfolding token_kind
loop-first-preserved c =
    let s = c.args.statement.now in
    let front : drop c.loop-first.at s ≡ c.in-Some.first.now ∷ c.in-Some.rest.now = sym (take_rest s c.loop-first.at) ∙ c.in-Some.ensures.cases.0 in
    let not_space = ap is_space (sym c.first_piece-piece.ensures.kind) ∙ sym c.is_space.ensures ∙ c.if-is_space.false in
    let kind = c.token_kind-kind.ensures ∙ ap (token_kind_by c.in-Some.first.now) c.first_piece-piece.ensures.kind in
    let length_is = c.token_length.ensures.value ∙ ap (λ k. token_length k c.in-Some.first.now c.in-Some.rest.now) kind in
    let part : take (c.loop-first.at + c.token_length.result - c.loop-first.at) (drop c.loop-first.at s) ≡ take c.token_length.result (drop c.loop-first.at s) =
    ap (λ n. take n (drop c.loop-first.at s)) (omega arith) in
    record {
      within = omega (arith, length-drop c.loop-first.at s, ap length front);
      room = omega (arith, c.push.ensures.capacity);
      all = read_token _ _ _ s c.loop-first.at c.in-Some.first.now c.in-Some.rest.now c.token_length.result _ front not_space length_is c.in_ok-push.ensures.ok kind part refl c.loop-first.invariant.all;
    }

pub returns-clause-value : goal.returns-clause-value
returns-clause-value c =
    let s = c.args.statement.now in
    let nothing : length (drop c.loop-first.at s) ≡ 0 = rw take_rest at c.in_default.ensures.cases in
    read_end _ _ s c.loop-first.at (omega (arith, length-drop c.loop-first.at s)) c.loop-first.invariant.all
