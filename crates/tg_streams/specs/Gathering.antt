-- Bytes that are gathered before they are put.
use Rattle.std.specs.Prelude.{◌≡◌, ℕ, List, [], ◌++◌, length, take, refl}
use Rattle.std.proofs.Common.{◌∙◌, ap, sym, subst, append-nil, append_assoc}
use Rattle.std.proofs.Math.Seq.{take-append_seam}
use Rattle.tg_streams.specs.Joining.{SinkJoins, put_nothing, put_put, put_put_front}
use Rattle.tg_streams.specs.Streams.{Output, OutputQuiet, Put, PutFront, SinkMeaning, into}

-- how many bytes are gathered at most
abbrev pub gathering_room : ℕ
gathering_room = 32768

-- bytes were given: a front of what was gathered and of these was put, with no fault, and the rest is gathered
pub record Gave (bytes old new : List ℕ) (out : Output) : Type 0 where
  pub front : List ℕ
  pub put : Put front out
  pub quiet : OutputQuiet out
  pub whole : old ++ bytes ≡ front ++ new

-- nothing given at all
pub gave_nothing : (S : Type 0) (m : SinkMeaning S) (a : S) (old : List ℕ) → m.wrote a a []
    → Gave [] old old (into m a a)
gave_nothing S m a old rests = record {
  front = [];
  put = put_nothing S m a rests;
  quiet = refl;
  whole = append-nil old;
}

-- bytes given, and then others
pub gave_gave : (S : Type 0) (m : SinkMeaning S) (a b c : S) (u v g0 g1 g2 : List ℕ) → SinkJoins S m
    → Gave u g0 g1 (into m a b) → Gave v g1 g2 (into m b c) → Gave (u ++ v) g0 g2 (into m a c)
gave_gave S m a b c u v g0 g1 g2 joins first next = record {
  front = first.front ++ next.front;
  put = put_put S m a b c first.front next.front joins first.put next.put;
  quiet = next.quiet ∙ first.quiet;
  whole = sym (append_assoc g0 u v) ∙ ap (λ bytes. bytes ++ v) first.whole ∙ append_assoc first.front g1 v
      ∙ ap (λ bytes. first.front ++ bytes) next.whole ∙ sym (append_assoc first.front next.front g2);
}

-- bytes given, and then what is gathered put
pub gave_put : (S : Type 0) (m : SinkMeaning S) (a b c : S) (u g0 g1 : List ℕ) → SinkJoins S m
    → Gave u g0 g1 (into m a b) → Put g1 (into m b c) → OutputQuiet (into m b c)
    → Put (g0 ++ u) (into m a c) × OutputQuiet (into m a c)
gave_put S m a b c u g0 g1 joins first next quiet = (
  subst (λ (bytes : List ℕ). Put bytes (into m a c)) (sym first.whole)
      (put_put S m a b c first.front g1 joins first.put next),
  quiet ∙ first.quiet,
)

-- bytes given, and then a front put of what is gathered and of others, with a fault
pub gave_front : (S : Type 0) (m : SinkMeaning S) (a b c : S) (u v g0 g1 : List ℕ) → SinkJoins S m
    → Gave u g0 g1 (into m a b) → PutFront (g1 ++ v) (into m b c) → PutFront (g0 ++ (u ++ v)) (into m a c)
gave_front S m a b c u v g0 g1 joins first next =
    let same : first.front ++ (g1 ++ v) ≡ g0 ++ (u ++ v) = sym (append_assoc first.front g1 v)
    ∙ ap (λ bytes. bytes ++ v) (sym first.whole) ∙ append_assoc g0 u v in
    subst (λ (bytes : List ℕ). PutFront bytes (into m a c)) same
    (put_put_front S m a b c first.front (g1 ++ v) joins first.put first.quiet next)

-- bytes given, and then a front put of what is gathered, with a fault
pub gave_front_out : (S : Type 0) (m : SinkMeaning S) (a b c : S) (u g0 g1 : List ℕ) → SinkJoins S m
    → Gave u g0 g1 (into m a b) → PutFront g1 (into m b c) → PutFront (g0 ++ u) (into m a c)
gave_front_out S m a b c u g0 g1 joins first next =
    subst (λ (bytes : List ℕ). PutFront bytes (into m a c)) (sym first.whole)
    (put_put_front S m a b c first.front g1 joins first.put first.quiet next)

-- what was put of what was given is a front
pub gave_part : (S : Type 0) (m : SinkMeaning S) (a b : S) (u g0 g1 : List ℕ) → Gave u g0 g1 (into m a b)
    → (n : ℕ) × Put (take n (g0 ++ u)) (into m a b) × OutputQuiet (into m a b)
gave_part S m a b u g0 g1 gave =
    let front : take (length gave.front) (g0 ++ u) ≡ gave.front =
    ap (λ bytes. take (length gave.front) bytes) gave.whole ∙ take-append_seam gave.front g1 in
    (length gave.front, subst (λ (bytes : List ℕ). Put bytes (into m a b)) (sym front) gave.put, gave.quiet)
