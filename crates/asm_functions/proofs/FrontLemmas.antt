-- Statements without labels.
use Rattle.std.proofs.Common.{◌≡◌, List, [], ◌∷◌, length, map, Ok, refl, arith}
use Rattle.asm_base.specs.declared.positions.Pos.{Pos}
use Rattle.asm_base.specs.declared.tokens.Token.{Token}
use Rattle.asm_base.specs.Tokens.{spelled}
use Rattle.asm_place.specs.Placing.{place_tokens, place_labelled, has_wide_label}
use Rattle.asm_place.specs.Sources.{place}
use Rattle.asm_functions.specs.Following.{labels_begun}
use Rattle.asm_functions.specs.FollowedSource.{FollowedSource, at, stepped}

-- no labels: nothing is placed, and no function begins
pub no_labels : (pos : Pos) (tokens : List Token) (f : FollowedSource) → length tokens ≡ 0
    → stepped (at pos (map spelled tokens)) (λ before there. labels_begun pos (map spelled tokens) before) f ≡ Ok f
unfolding place place_tokens has_wide_label place_labelled labels_begun
no_labels pos [] f none = refl
no_labels pos (token ∷ tokens) f none = absurd (omega arith)
