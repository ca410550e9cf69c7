use Rattle.std.proofs.Common.{◌+◌, ◌*◌, ◌≤◌, length}
use Rattle.work_lists.specs.Graphs.{edges}
use Rattle.work_lists.specs.Search.{Searching, owed}
use Rattle.work_lists.proofs.flowing.flow.Given as goal

abbrev pub invariant-loop-i : goal.invariant-loop-i
invariant-loop-i g l =
    record {
      searching : Searching (g.A.Analysis.rules l.analysis) (g.G.Edges.rows l.graph) l.states.items l.todo.items;
      paid : l.steps + owed (g.A.Analysis.rules l.analysis) length (g.G.Edges.rows l.graph) l.states.items l.todo.items
          ≤ l.fn.steps + (((g.A.Analysis.rules l.analysis).limit + 1) * edges (g.G.Edges.rows l.graph) + 1);
    }

abbrev pub decreases-loop-i : goal.decreases-loop-i
decreases-loop-i g l = owed (g.A.Analysis.rules l.analysis) (λ _. 1) (g.G.Edges.rows l.graph) l.states.items l.todo.items
