-- what was taken of the piece so far
use Rattle.std.proofs.Common.{◌≡◌, ◌≤◌, ◌+◌, ◌++◌, ◌-◌, ℕ, List, None, Some, length, take}
use Rattle.std.specs.Prelude.{IfSome}
use Rattle.tg_client.specs.Body.{IsBody}
use Rattle.tg_client.specs.Keeping.{WentOnKeeping}
use Rattle.tg_model.specs.Dag.{Section}
use Rattle.tg_model.specs.Stores.{KeepingQuiet, kept_in}
use Rattle.tg_streams.specs.Streams.{OutputQuiet, into}
use Rattle.tg_client.proofs.body.CarBody.feed_keep.Given as goal

abbrev pub invariant-loop-at : goal.invariant-loop-at
invariant-loop-at g l = record {
  query : l.self.verifier.left.query ≡ l.fn.self.verifier.left.query;
  limits : l.self.verifier.limits ≡ l.fn.self.verifier.limits;
  unrefused : l.self.refused ≡ None;
  most : l.self.most ≡ l.fn.self.most;
  within : l.at ≤ length l.piece;
  heard : l.fn.self.heard ≤ l.fn.self.most → (l.self.heard ≡ l.fn.self.heard + l.at) × (l.self.heard ≤ l.self.most);
  cause : l.fn.self.verifier.refused ≡ None → (l.self.verifier.refused ≡ None) × OutputQuiet (into g.S.Sink.sink l.fn.out l.out);
  quiet : KeepingQuiet (kept_in g.K.Keep.keeper l.fn.keep l.keep);
  told : IfSome l.fn.self.verifier.terminal (λ t. l.self.verifier.terminal ≡ Some t);
  kept : (heard : List ℕ) (sections : List Section) (written : List ℕ) → IsBody l.fn.self heard sections written
      → WentOnKeeping l.self (heard ++ take l.at l.piece) sections written (into g.S.Sink.sink l.fn.out l.out) (kept_in g.K.Keep.keeper l.fn.keep l.keep);
}

abbrev pub decreases-loop-at : goal.decreases-loop-at
decreases-loop-at g l = length l.piece - l.at
