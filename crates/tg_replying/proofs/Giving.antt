-- Bytes that are given, and then others.
use Rattle.std.proofs.Common.{Err, List, Ok, append_assoc, subst, sym, ℕ, ◌++◌, ◌≡◌}
use Rattle.std.specs.Prelude.{Result, ⊤}
use Rattle.std.specs.Result.{OnErr, OnOk}
use Rattle.tg_faults.specs.declared.calls.Failed.{Failed}
use Rattle.tg_replying.specs.Bodies.{FailsIn, GiveEnds, Gives, Giving, giving_in}
use Rattle.tg_streams.specs.Gathering.{gave_front, gave_gave}
use Rattle.tg_streams.specs.Joining.{SinkJoins, put_front_more}
use Rattle.tg_streams.specs.Streams.{PutFront, SinkMeaning, into}

-- what `give` says
pub give_ends : (giving : Giving) (bytes : List ℕ) (result : Result ⊤ Failed) → OnOk result (Gives giving bytes)
    → OnErr result (FailsIn giving bytes) → GiveEnds giving bytes result
give_ends giving bytes (Ok done) gave failed = gave
give_ends giving bytes (Err fault) gave failed = failed

-- bytes given, and then others
pub gives_gives : {S : Type 0} (m : SinkMeaning S) (a b c : S) (g0 g1 g2 u v : List ℕ) → SinkJoins S m
    → Gives (giving_in m g0 g1 a b) u → Gives (giving_in m g1 g2 b c) v → Gives (giving_in m g0 g2 a c) (u ++ v)
gives_gives m a b c g0 g1 g2 u v joins first next = gave_gave _ m a b c u v g0 g1 g2 joins first next

-- and out failed in the others
pub gives_fails : {S : Type 0} (m : SinkMeaning S) (a b c : S) (g0 g1 g2 u v : List ℕ) → SinkJoins S m
    → Gives (giving_in m g0 g1 a b) u → FailsIn (giving_in m g1 g2 b c) v → FailsIn (giving_in m g0 g2 a c) (u ++ v)
gives_fails m a b c g0 g1 g2 u v joins first next = gave_front _ m a b c u v g0 g1 joins first next

-- out failed in the first, so that it failed in all of them
pub fails_more : {S : Type 0} (m : SinkMeaning S) (a b : S) (g0 g1 u v : List ℕ) → FailsIn (giving_in m g0 g1 a b) u
    → FailsIn (giving_in m g0 g1 a b) (u ++ v)
fails_more m a b g0 g1 u v front =
    subst (λ (bytes : List ℕ). PutFront bytes (into m a b)) (append_assoc g0 u v)
    (put_front_more _ m a b (g0 ++ u) v front)

-- the same, where what is gathered behind it and the sink go by other names
pub gives_same : {S : Type 0} (m : SinkMeaning S) (a b c : S) (g0 g1 g2 u : List ℕ) → g2 ≡ g1 → c ≡ b
    → Gives (giving_in m g0 g1 a b) u → Gives (giving_in m g0 g2 a c) u
gives_same {S} m a b c g0 g1 g2 u e f given =
    subst (λ (s : S). Gives (giving_in m g0 g2 a s) u) (sym f)
    (subst (λ (gathered : List ℕ). Gives (giving_in m g0 gathered a b) u) (sym e) given)

-- the others given, or out failed in them
pub gives_then : {S : Type 0} (m : SinkMeaning S) (a b c : S) (g0 g1 g2 u v : List ℕ) (result : Result ⊤ Failed)
    → SinkJoins S m → Gives (giving_in m g0 g1 a b) u → GiveEnds (giving_in m g1 g2 b c) v result
    → GiveEnds (giving_in m g0 g2 a c) (u ++ v) result
gives_then m a b c g0 g1 g2 u v (Ok done) joins first next = gives_gives m a b c g0 g1 g2 u v joins first next
gives_then m a b c g0 g1 g2 u v (Err fault) joins first next = gives_fails m a b c g0 g1 g2 u v joins first next
