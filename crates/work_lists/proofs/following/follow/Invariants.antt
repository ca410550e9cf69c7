use Rattle.std.proofs.Common.{◌+◌, ◌≤◌, ◌++◌, ◌∷◌, [], length}
use Rattle.work_lists.specs.Search.{Searching, owed, with_next, ended}
use Rattle.work_lists.proofs.following.follow.Given as goal

abbrev pub invariant-loop-next : goal.invariant-loop-next
invariant-loop-next g l =
    record {
      searching : Searching (g.A.Analysis.rules l.analysis) (g.G.Edges.rows l.graph) l.states.items (with_next l.todo.items l.next);
      paid : l.steps + owed (g.A.Analysis.rules l.analysis) length (g.G.Edges.rows l.graph) l.states.items (with_next l.todo.items l.next)
          ≤ l.fn.steps + owed (g.A.Analysis.rules l.analysis) length (g.G.Edges.rows l.graph) l.fn.states.items (l.fn.todo.items ++ l.fn.first ∷ []);
      fewer : owed (g.A.Analysis.rules l.analysis) (λ _. 1) (g.G.Edges.rows l.graph) l.states.items (with_next l.todo.items l.next) + ended l.next
          ≤ owed (g.A.Analysis.rules l.analysis) (λ _. 1) (g.G.Edges.rows l.graph) l.fn.states.items (l.fn.todo.items ++ l.fn.first ∷ []);
    }

abbrev pub decreases-loop-next : goal.decreases-loop-next
decreases-loop-next g l = owed (g.A.Analysis.rules l.analysis) (λ _. 1) (g.G.Edges.rows l.graph) l.states.items (with_next l.todo.items l.next)
