-- Three pieces that are gathered before they are put.
use Rattle.std.proofs.Common.{Err, List, Ok, [], append_assoc, subst, ℕ, ◌++◌, ◌≡◌}
use Rattle.std.specs.Prelude.{Result, ⊤}
use Rattle.std.specs.Result.{OnErr, OnOk}
use Rattle.tg_faults.specs.declared.calls.Failed.{Failed}
use Rattle.tg_streams.specs.Gathering.{Gave, gave_front, gave_front_out, gave_gave}
use Rattle.tg_streams.specs.Joining.{SinkJoins, put_front_more}
use Rattle.tg_streams.specs.Streams.{PutFront, SinkMeaning, into}

-- each is given
pub gives_three : {S : Type 0} (m : SinkMeaning S) (a b c d : S) (u v w g0 g1 g2 g3 : List ℕ) (result : Result ⊤ Failed) → SinkJoins S m → g0 ≡ []
    → Gave u g0 g1 (into m a b) → Gave v g1 g2 (into m b c) → OnOk result (Gave w g2 g3 (into m c d)) → OnOk result (Gave (u ++ (v ++ w)) [] g3 (into m a d))
gives_three m a b c d u v w g0 g1 g2 g3 (Ok done) joins none first second third =
    subst (λ (before : List ℕ). Gave (u ++ (v ++ w)) before g3 (into m a d)) none
    (gave_gave _ m a b d u (v ++ w) g0 g1 g3 joins first (gave_gave _ m b c d v w g1 g2 g3 joins second third))
gives_three m a b c d u v w g0 g1 g2 g3 (Err fault) joins none first second third = third

-- out failed in what was gathered and in this one
fails_in : {S : Type 0} (m : SinkMeaning S) (a b c : S) (u v g0 g1 : List ℕ) → SinkJoins S m → g0 ≡ [] → Gave u g0 g1 (into m a b) → PutFront (g1 ++ v) (into m b c) → PutFront (u ++ v) (into m a c)
fails_in m a b c u v g0 g1 joins none first front =
    subst (λ (before : List ℕ). PutFront (before ++ (u ++ v)) (into m a c)) none (gave_front _ m a b c u v g0 g1 joins first front)

-- in the second
pub fails_second : {S : Type 0} (m : SinkMeaning S) (a b c : S) (u v w g0 g1 : List ℕ) (result : Result ⊤ Failed) → SinkJoins S m → g0 ≡ [] → Gave u g0 g1 (into m a b)
    → PutFront (g1 ++ v) (into m b c) → OnErr result (PutFront (u ++ (v ++ w)) (into m a c))
fails_second m a b c u v w g0 g1 (Ok done) joins none first front = tt
fails_second m a b c u v w g0 g1 (Err fault) joins none first front =
    subst (λ (bytes : List ℕ). PutFront bytes (into m a c)) (append_assoc u v w) (put_front_more _ m a c (u ++ v) w (fails_in m a b c u v g0 g1 joins none first front))

-- in the third
pub fails_third : {S : Type 0} (m : SinkMeaning S) (a b c d : S) (u v w g0 g1 g2 : List ℕ) (result : Result ⊤ Failed) → SinkJoins S m → g0 ≡ [] → Gave u g0 g1 (into m a b) → Gave v g1 g2 (into m b c)
    → OnErr result (PutFront (g2 ++ w) (into m c d)) → OnErr result (PutFront (u ++ (v ++ w)) (into m a d))
fails_third m a b c d u v w g0 g1 g2 (Ok done) joins none first second front = front
fails_third m a b c d u v w g0 g1 g2 (Err fault) joins none first second front =
    subst (λ (bytes : List ℕ). PutFront bytes (into m a d)) (append_assoc u v w)
    (fails_in m a c d (u ++ v) w g0 g2 joins none (gave_gave _ m a b c u v g0 g1 g2 joins first second) front)

-- or in all that was gathered
pub fails_behind : {S : Type 0} (m : SinkMeaning S) (a b c : S) (u g1 : List ℕ) (result : Result ⊤ Failed) → SinkJoins S m → Gave u [] g1 (into m a b) → OnErr result (PutFront g1 (into m b c))
    → OnErr result (PutFront u (into m a c))
fails_behind m a b c u g1 (Ok done) joins first front = front
fails_behind m a b c u g1 (Err fault) joins first front = gave_front_out _ m a b c u [] g1 joins first front
