-- One move of a stream after another is a move: how what went through a source or a sink between two moments, and then
-- between the second and a third, went through it between the first and the third.
use Rattle.std.specs.Prelude.{ℕ, ◌+◌, ◌<◌, List, [], ◌++◌, length, take, refl}
use Rattle.std.proofs.Common.{◌∙◌, ap, sym, subst, append-nil, length-append, add-lt-add_of_le_of_lt, lt_of_lt_of_le}
use Rattle.std.proofs.Common.{le-add_right, le_refl, le_of_lt}
use Rattle.std.proofs.Math.Seq.{take-append-add, take-append-le}
use Rattle.tg_bytes.specs.Told.{after_front, grown}
use Rattle.tg_faults.specs.Faults.{Rose}
use Rattle.tg_bytes.specs.ToldLaws.{after_front-after_front, after_front-nothing, grown-grown, grown-nothing}
use Rattle.tg_streams.specs.Streams.{SourceMeaning, SinkMeaning, through, into, OutputQuiet, OutputRose, Took, Untaken}
use Rattle.tg_streams.specs.Streams.{Put, Unput, PutFront}

-- the law of sources, and that of sinks: one step after another is a step
abbrev pub SourceJoins : (S : Type 0) → SourceMeaning S → Type 0
SourceJoins S m = (a b c : S) (u v : List ℕ) → m.took a b u → m.took b c v → m.took a c (u ++ v)

abbrev pub SinkJoins : (S : Type 0) → SinkMeaning S → Type 0
SinkJoins S m = (a b c : S) (u v : List ℕ) → m.wrote a b u → m.wrote b c v → m.wrote a c (u ++ v)

-- nothing taken at all
pub took_nothing : (S : Type 0) (m : SourceMeaning S) (a : S) → m.took a a [] → Took [] (through m a a)
took_nothing S m a rests = record { moved = rests; left = after_front-nothing (m.left a) }

-- bytes taken, and then others
pub took_took : (S : Type 0) (m : SourceMeaning S) (a b c : S) (u v : List ℕ) → SourceJoins S m
    → Took u (through m a b) → Took v (through m b c) → Took (u ++ v) (through m a c)
took_took S m a b c u v joins first next = record {
  moved = joins a b c u v first.moved next.moved;
  left = first.left ∙ ap (after_front u) next.left ∙ after_front-after_front u v (m.left c);
}

-- bytes taken, and then nothing
pub took_untaken : (S : Type 0) (m : SourceMeaning S) (a b c : S) (u : List ℕ) → SourceJoins S m
    → Took u (through m a b) → Untaken (through m b c) → Took u (through m a c)
took_untaken S m a b c u joins first next = record {
  moved = subst (m.took a c) (append-nil u) (joins a b c u [] first.moved next.moved);
  left = first.left ∙ ap (after_front u) (sym next.left);
}

-- nothing put at all
pub put_nothing : (S : Type 0) (m : SinkMeaning S) (a : S) → m.wrote a a [] → Put [] (into m a a)
put_nothing S m a rests = record { moved = rests; held = grown-nothing (m.held a) }

-- bytes put, and then others
pub put_put : (S : Type 0) (m : SinkMeaning S) (a b c : S) (u v : List ℕ) → SinkJoins S m
    → Put u (into m a b) → Put v (into m b c) → Put (u ++ v) (into m a c)
put_put S m a b c u v joins first next = record {
  moved = joins a b c u v first.moved next.moved;
  held = next.held ∙ ap (λ held. grown held v) first.held ∙ grown-grown (m.held a) u v;
}

-- bytes put, and then nothing
pub put_unput : (S : Type 0) (m : SinkMeaning S) (a b c : S) (u : List ℕ) → SinkJoins S m
    → Put u (into m a b) → Unput (into m b c) → Put u (into m a c)
put_unput S m a b c u joins first next = record {
  moved = subst (m.wrote a c) (append-nil u) (joins a b c u [] first.moved next.moved);
  held = next.held ∙ first.held;
}

-- bytes put with no fault, and then a front of others with one
pub put_put_front : (S : Type 0) (m : SinkMeaning S) (a b c : S) (u v : List ℕ) → SinkJoins S m
    → Put u (into m a b) → OutputQuiet (into m a b) → PutFront v (into m b c) → PutFront (u ++ v) (into m a c)
put_put_front S m a b c u v joins first quiet next = record {
  count = length u + next.count;
  within = subst (λ (n : ℕ). length u + next.count < n) (sym (length-append u v)) (add-lt-add_of_le_of_lt (le_refl (length u)) next.within);
  put = subst (λ (bytes : List ℕ). Put bytes (into m a c)) (sym (take-append-add u v next.count)) (put_put S m a b c u (take next.count v) joins first next.put);
  rose = subst (λ (before : ℕ). Rose before (m.faults c)) quiet next.rose;
}

-- a front of these bytes put with no fault, not all, and then nothing with one
pub put_unput_front : (S : Type 0) (m : SinkMeaning S) (a b c : S) (n : ℕ) (bytes : List ℕ) → SinkJoins S m
    → n < length bytes
    → Put (take n bytes) (into m a b) → OutputQuiet (into m a b) → Unput (into m b c) → OutputRose (into m b c) → PutFront bytes (into m a c)
put_unput_front S m a b c n bytes joins within first quiet next rose = record {
  count = n;
  within = within;
  put = put_unput S m a b c (take n bytes) joins first next;
  rose = subst (λ (before : ℕ). Rose before (m.faults c)) quiet rose;
}

-- a front of bytes is a front of more bytes
pub put_front_more : (S : Type 0) (m : SinkMeaning S) (a b : S) (u v : List ℕ) → PutFront u (into m a b)
    → PutFront (u ++ v) (into m a b)
put_front_more S m a b u v front = record {
  count = front.count;
  within = subst (λ (n : ℕ). front.count < n) (sym (length-append u v)) (lt_of_lt_of_le front.within (le-add_right (length u) (length v)));
  put = subst (λ (bytes : List ℕ). Put bytes (into m a b)) (sym (take-append-le front.count u v (le_of_lt front.within))) front.put;
  rose = front.rose;
}
