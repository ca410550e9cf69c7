-- The bodies of blocks, and copies of them.
use Rattle.std.proofs.Common.{ℕ, zero, suc, Bool, true, false, cond, List, [], ◌∷◌, ◌++◌, Option, None, Some, Result, Ok, Err, IfSome, IfOk, All}
use Rattle.std.proofs.lemmas.List.Elements.{All-nil, All-cons, All-head, All-tail, All-append}
use Rattle.asm_base.specs.declared.positions.Pos.{Pos}
use Rattle.asm_lines.specs.NextStatements.{TokenStatement}
use Rattle.macro_words.specs.Statements.{made_statements}
use Rattle.macro_words.specs.declared.causes.MacroCause.{MacroCause}
use Rattle.macro_blocks.specs.declared.blocks.Block.{Block}
use Rattle.macro_blocks.specs.Blocks.{Cut, cut, depth_behind, repeated, stops, with_first}
use Rattle.macro_blocks.specs.Levels.{copies_of, each_copy, put_value}
use Rattle.form_laws.specs.Numbers.{IsSpelled, TokensAreInBytes}
use Rattle.expansion_laws.specs.Handing.{IsBytes}
use Rattle.expansion_laws.proofs.Elements.{step_ok}
use Rattle.expansion_laws.proofs.Lines.{made_spelled}
use Rattle.expansion_laws.proofs.Texts.{IsArgument, put_in_bytes}

-- the statements are spelled in bytes
abbrev pub AllSpelled : List TokenStatement → Type 0
AllSpelled statements = All IsSpelled statements

-- what is inside a block and what stands behind it is spelled in bytes
pub record IsCut (c : Cut) : Type 0 where
  pub inside : AllSpelled c.inside
  pub rest : AllSpelled c.rest

with_first_spelled : (statement : TokenStatement) (found : Option Cut) → IsSpelled statement → IfSome found IsCut → IfSome (with_first statement found) IsCut
with_first_spelled statement None is all = tt
with_first_spelled statement (Some c) is all = record { inside = All-cons IsSpelled statement c.inside is all.inside; rest = all.rest }

either_cut : (test : Bool) (one other : Option Cut) → IfSome one IsCut → IfSome other IsCut → IfSome (cond test one other) IsCut
either_cut true one other first second = first
either_cut false one other first second = second

pub cut_spelled : (b : Block) (stop : TokenStatement → Bool) (deep : ℕ) (statements : List TokenStatement) → AllSpelled statements → IfSome (cut b stop deep statements) IsCut
unfolding cut
cut_spelled b stop deep [] all = tt
cut_spelled b stop deep (statement ∷ rest) all =
    let later = All-tail IsSpelled statement rest all in
    either_cut (stops stop deep statement) (Some (record { inside = []; stop = statement; rest = rest })) _ (record { inside = All-nil IsSpelled; rest = later })
    (with_first_spelled statement (cut b stop (depth_behind b deep statement) rest) (All-head IsSpelled statement rest all) (cut_spelled b stop (depth_behind b deep statement) rest later))

repeated_spelled : (count : ℕ) (statements : List TokenStatement) → AllSpelled statements → AllSpelled (repeated count statements)
repeated_spelled zero statements all = All-nil IsSpelled
repeated_spelled (suc count) statements all = All-append IsSpelled statements (repeated count statements) all (repeated_spelled count statements all)

pub copies_spelled : (count : ℕ) (made : Result (List TokenStatement) MacroCause) → IfOk made AllSpelled → IfOk (copies_of count made) AllSpelled
copies_spelled count (Ok statements) all = repeated_spelled count statements all
copies_spelled count (Err cause) all = tt

put_value_in_bytes : (name : List ℕ) (number : ℕ) (body text : List ℕ) → IsBytes body → IsBytes text → IsBytes (put_value name number body text)
put_value_in_bytes name number body text all is =
    put_in_bytes (record { name = name; text = text } ∷ []) number 0 body (All-cons IsArgument (record { name = name; text = text }) [] is (All-nil IsArgument)) all

pub each_spelled : TokensAreInBytes → (pos : Pos) (name : List ℕ) (number : ℕ) (body : List ℕ) (texts : List (List ℕ)) → IsBytes body → All IsBytes texts
    → IfOk (each_copy pos name number body texts) AllSpelled
each_spelled read pos name number body [] all values = All-nil IsSpelled
each_spelled read pos name number body (text ∷ texts) all values =
    let later = each_spelled read pos name number body texts all (All-tail IsBytes text texts values) in
    step_ok AllSpelled AllSpelled (made_statements pos (put_value name number body text)) _
    (made_spelled read pos (put_value name number body text) (put_value_in_bytes name number body text all (All-head IsBytes text texts values))) (λ first is.
    step_ok AllSpelled AllSpelled (each_copy pos name number body texts) (λ others. Ok (first ++ others)) later (λ others rest. All-append IsSpelled first others is rest))
