-- A visitor that gathers part by part gathers the names of the whole.
use Rattle.std.proofs.Common.{◌≡◌, List, [], ◌++◌, Ok, Err, refl, sym, ap, ◌∙◌, append_assoc}
use Rattle.asm_base.specs.declared.refusals.Refusal.{Refusal}
use Rattle.asm_base.specs.declared.refusals.Refusal.TheVariants.{NoMemory}
use Rattle.asm_base.specs.Refusals.{◌>>=◌}
use Rattle.asm_expr.specs.declared.faults.ExprCause.{ExprCause}
use Rattle.asm_expr.specs.declared.trees.Written.{Written}
use Rattle.asm_expr.specs.Trees.{Tree, number, name, here, unary, binary}
use Rattle.asm_expr.specs.Folds.{Folds}
use Rattle.asm_expr.specs.NamesOf.{names_of, Gathered, Gathers, NumGathers, NameGathers, HereGathers, UnaryGathers, BinaryGathers}

joins : (first second third : List Written) (left right answer : Gathered) (one other : List Written)
    → Gathers first left second one → Gathers second right third other → answer ≡ (left >>= (λ _. right)) → Gathers first answer third (one ++ other)
joins first second third (Ok a) (Ok b) answer one other is also step = rw step (also ∙ ap (λ (ws : List Written). ws ++ other) is ∙ append_assoc first one other)
joins first second third (Ok a) (Err fault) answer one other is also step = rw step also
joins first second third (Err fault) right answer one other is also step = rw step is

same_behind : (first second third : List Written) (answer other : Gathered) (more : List Written) → third ≡ second → other ≡ answer → Gathers first answer second more → Gathers first other third more
same_behind first second third answer other more is same gathers = rw (is, same) gathers

module _ {V : Type 0} (has : V → List Written) where
  pub folds_gather : (tree : Tree) (first : V) (answer : Gathered) (last : V)
      → Folds (NumGathers has) (NameGathers has) (HereGathers has) (UnaryGathers has) (BinaryGathers has) tree first answer last
      → Gathers (has first) answer (has last) (names_of tree)
  folds_gather (number value) first answer last folds = folds
  folds_gather (name written) first answer last folds = folds
  folds_gather here first answer last folds = folds
  folds_gather (unary op operand) first answer last folds =
      same_behind (has first) (has folds.0) (has last) folds.1 answer (names_of operand) folds.3.0 folds.3.1 (folds_gather operand first folds.1 folds.0 folds.2)
  folds_gather (binary op left right) first answer last folds =
      let one = folds_gather left first folds.2 folds.0 folds.4 in
      let other = folds_gather right folds.0 folds.3 folds.1 folds.5 in
      let both = joins (has first) (has folds.0) (has folds.1) folds.2 folds.3 (folds.2 >>= (λ _. folds.3)) (names_of left) (names_of right) one other refl in
      same_behind (has first) (has folds.1) (has last) (folds.2 >>= (λ _. folds.3)) answer (names_of left ++ names_of right) folds.6.0 folds.6.1 both

pub all_gathered : (before : List Written) (answer : Gathered) (after more : List Written) {done : Unit {0}} → before ≡ [] → answer ≡ Ok done → Gathers before answer after more → after ≡ more
all_gathered before (Ok done) after more empty is gathers = rw empty at gathers
all_gathered before (Err fault) after more empty is gathers = cc

pub only_memory : (before : List Written) (answer : Gathered) (after more : List Written) (refusal : Refusal ExprCause) → answer ≡ Err refusal → Gathers before answer after more → refusal ≡ NoMemory
only_memory before (Ok done) after more refusal is gathers = cc
only_memory before (Err other) after more refusal is gathers = let same : other ≡ refusal = cc in sym same ∙ gathers
