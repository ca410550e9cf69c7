use Rattle.std.proofs.Common.{◌+◌, ◌≤◌, length}
use Rattle.work_lists.specs.Search.{Spreading, owed}
use Rattle.work_lists.proofs.spreading.spread.Given as goal

abbrev pub invariant-loop-j : goal.invariant-loop-j
invariant-loop-j g l =
    record {
      begun : Spreading (g.A.Analysis.rules l.analysis) (g.G.Edges.rows l.graph) l.states.items l.todo.items l.i l.out l.j-index;
      paid : l.steps + owed (g.A.Analysis.rules l.analysis) length (g.G.Edges.rows l.graph) l.states.items l.todo.items
          ≤ l.fn.steps + owed (g.A.Analysis.rules l.analysis) length (g.G.Edges.rows l.graph) l.fn.states.items l.fn.todo.items + l.j-index;
      fewer : owed (g.A.Analysis.rules l.analysis) (λ _. 1) (g.G.Edges.rows l.graph) l.states.items l.todo.items
          ≤ owed (g.A.Analysis.rules l.analysis) (λ _. 1) (g.G.Edges.rows l.graph) l.fn.states.items l.fn.todo.items;
    }
