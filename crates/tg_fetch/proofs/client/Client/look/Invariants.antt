use Rattle.std.proofs.Common.{◌≡◌, ◌++◌, ◌+◌, ◌≤◌, ℕ, List, None, Some, length}
use Rattle.std.specs.Prelude.{IfSome}
use Rattle.tg_fetch.specs.Clients.{FedMore, IsOpen}
use Rattle.tg_fetch.specs.declared.client.Stage.TheVariants as stages
use Rattle.tg_fetch.specs.Keeping.{StandIn}
use Rattle.tg_fetch.specs.KeepingSteps.{StandsKeeping}
use Rattle.tg_fetch.specs.Telling.{Tells, terminal_of}
use Rattle.tg_model.specs.Dag.{Section}
use Rattle.tg_model.specs.Stores.{KeepingQuiet, kept_in}
use Rattle.tg_streams.specs.Streams.{OutputQuiet, into}
use Rattle.tg_fetch.proofs.client.Client.look.Given as goal

-- the bytes before the rest were taken, and the client goes on
abbrev pub invariant-loop-taken : goal.invariant-loop-taken
invariant-loop-taken g l = record {
  query : l.self.query ≡ l.fn.self.query;
  limits : l.self.limits ≡ l.fn.self.limits;
  unrefused : l.self.refused ≡ None;
  front : List ℕ;
  bytes_are : l.bytes ≡ front ++ l.rest;
  goes : (heard written : List ℕ) → IsOpen l.fn.self heard written → length heard + length l.bytes ≤ l.fn.self.limits.received
      → FedMore l.self (heard ++ front) written (into g.S.Sink.sink l.fn.out l.out) × OutputQuiet (into g.S.Sink.sink l.fn.out l.out)
      × KeepingQuiet (kept_in g.K.Keep.keeper l.fn.keep l.keep);
  keeps : (heard written : List ℕ) (before : List Section) → IsOpen l.fn.self heard written → length heard + length l.bytes ≤ l.fn.self.limits.received
      → StandIn l.fn.self.query l.fn.self.limits heard before
      → StandsKeeping l.fn.self.query l.fn.self.limits (heard ++ front) before (kept_in g.K.Keep.keeper l.fn.keep l.keep);
  tells : (heard written : List ℕ) → IsOpen l.fn.self heard written → length heard + length l.bytes ≤ l.fn.self.limits.received → Tells l.fn.self heard
      → Tells l.self (heard ++ front);
  told : IfSome (terminal_of l.fn.self) (λ t. terminal_of l.self ≡ Some t);
  still : l.fn.self.stage ≡ stages.Done → (l.self ≡ l.fn.self) × (l.keep ≡ l.fn.keep) × (l.out ≡ l.fn.out);
}

abbrev pub decreases-loop-taken : goal.decreases-loop-taken
decreases-loop-taken g l = length l.rest
