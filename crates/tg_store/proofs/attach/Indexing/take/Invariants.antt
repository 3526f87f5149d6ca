-- what was taken of the piece so far was noted
use Rattle.std.proofs.Common.{◌≡◌, ◌++◌, ℕ, List, length}
use Rattle.tg_store.specs.Attaching.{IsAlong}
use Rattle.tg_store.proofs.attach.Indexing.take.Given as goal

abbrev pub invariant-loop-rest : goal.invariant-loop-rest
invariant-loop-rest l = record {
  along : (fed : List ℕ) → IsAlong l.fn.self.reader l.fn.self.found.places.entries fed
      → (done : List ℕ) × (done ++ l.rest ≡ fed ++ l.fn.piece) × IsAlong l.self.reader l.self.found.places.entries done;
  end : l.self.found.end ≡ l.fn.self.found.end;
}

abbrev pub decreases-loop-rest : goal.decreases-loop-rest
decreases-loop-rest l = length l.rest
