-- Finished texts are put from the first on.
use Rattle.std.proofs.Common.{List, None, Option, Some, [], add-one, ap, append_assoc, append-nil, arith, drop, length, min, refl, suc}
use Rattle.std.proofs.Common.{subst, sym, ℕ, ◌++◌, ◌+◌, ◌-◌, ◌<◌, ◌^◌, ◌∙◌, ◌∷◌, ◌≡◌}
use Rattle.std.specs.List.{slice_get}
use Rattle.tg_swarm.proofs.Keeping.{first_put}
use Rattle.tg_swarm.proofs.Places.{moved_back, moved_length, texts_moved}
use Rattle.tg_parts.specs.Connections.{AreAnswers, more}
use Rattle.tg_swarm.specs.Jobs.{HasFailed, HasOpened, IsAlmost, JobsState, moved_up, text_count}
use Rattle.tg_swarm.specs.Swarms.{AnswersJob, Asked}
use Rattle.tg_streams.specs.Joining.{SinkJoins, put_nothing, put_put, put_put_front}
use Rattle.tg_streams.specs.Streams.{Output, OutputQuiet, Put, PutFront, SinkMeaning, into}

-- what stands once this text was put
pub record HasMoved {C : Type 0} (answers : ℕ → List ℕ → Type 0) (old s : JobsState C) (written text : List ℕ) : Type 0 where
  pub texts : AreAnswers answers s.written (written ++ text)
  pub almost : IsAlmost answers s
  pub opened : HasOpened old s

pub record IsPutting {C : Type 0} (old s : JobsState C) (out : Output) : Type 0 where
  pub text : List ℕ
  pub put : Put text out
  pub quiet : OutputQuiet out
  pub peers : s.peers ≡ old.peers
  pub count : s.count ≡ old.count
  pub window : length s.parts ≡ length old.parts
  pub moved : (a : Asked) (written : List ℕ) → IsAlmost (AnswersJob a) old → AreAnswers (AnswersJob a) old.written written
      → HasMoved (AnswersJob a) old s written text

-- the first is put
abbrev after_first : {C : Type 0} → JobsState C → ℕ → JobsState C
after_first s written = record s { written = written; parts = drop 1 s.parts ++ None ∷ [] }

opened_more : {C : Type 0} (old s : JobsState C) (text : List ℕ) → HasOpened old s → slice_get s.parts 0 ≡ Some (Some text)
    → HasOpened old (after_first s (s.written + 1))
opened_more old s text h first = record {
  grown = omega (arith, h.grown);
  same = moved_length s.parts text first ∙ h.same;
  finished = omega (arith, texts_moved s.parts text first, h.finished);
  opened = λ job below o. h.opened job below (record {
    place = o.place + 1;
    is_at = omega (arith, o.is_at);
    within = o.within;
    unfinished = moved_back s.parts o.place (omega (arith, below, h.grown, h.same, o.is_at)) o.unfinished;
  });
}

module _ {C : Type 0} (answers : ℕ → List ℕ → Type 0) (old s : JobsState C) (written before text : List ℕ) (h : HasMoved answers old s written before)
    (first : slice_get s.parts 0 ≡ Some (Some text)) where
  -- its text is the answer for one job more
  pub answers_more : AreAnswers answers (s.written + 1) (written ++ (before ++ text))
  answers_more =
      let done = h.almost.done 0 text first in
      let zero_is : s.written + 0 ≡ s.written = omega arith in
      let mine : answers s.written text = subst (λ (n : ℕ). answers n text) zero_is done.1 in
      let longer : AreAnswers answers (suc s.written) ((written ++ before) ++ text) = more s.written (written ++ before) text h.texts mine in
      subst (λ (n : ℕ). AreAnswers answers n (written ++ (before ++ text))) (sym (add-one s.written))
      (subst (AreAnswers answers (suc s.written)) (append_assoc written before text) longer)

  pub within_more : s.written + 1 < s.count + 1
  within_more = omega (arith, (h.almost.done 0 text first).0)

  pub moved_more : (next : ℕ) → (s.written + 1 < 2 ^ 64 → next ≡ s.written + 1) → HasMoved answers old (after_first s next) written (before ++ text)
  moved_more next step =
      let same : next ≡ s.written + 1 = step (omega (arith, within_more, h.almost.fits)) in
      let after : HasMoved answers old (after_first s (s.written + 1)) written (before ++ text) = record {
        texts = answers_more;
        almost = first_put answers s text h.almost first;
        opened = opened_more old s text h.opened first;
      } in
      subst (λ (n : ℕ). HasMoved answers old (after_first s n) written (before ++ text)) (sym same) after

-- nothing was put yet
pub putting_none : {C : Type 0} (S : Type 0) (m : SinkMeaning S) (s : JobsState C) (a : S) → m.wrote a a [] → IsPutting s s (into m a a)
putting_none S m s a rests = record {
  text = [];
  put = put_nothing S m a rests;
  quiet = refl;
  peers = refl;
  count = refl;
  window = refl;
  moved = λ asked written almost answers. record {
    texts = subst (AreAnswers (AnswersJob asked) s.written) (sym (append-nil written)) answers;
    almost = almost;
    opened = record { grown = omega arith; same = refl; finished = refl; opened = λ job below o. o };
  };
}

module _ {C : Type 0} (S : Type 0) (m : SinkMeaning S) (joins : SinkJoins S m) (old s moved : JobsState C) (a b c : S) (text bytes : List ℕ)
    (p : IsPutting old s (into m a b)) (first : slice_get s.parts 0 ≡ Some (Some text)) (up : moved ≡ moved_up s) (is : bytes ≡ text) where
  -- the first is
  pub putting_step : (new : JobsState C) → new ≡ record moved { written = min (moved.written + 1) (2 ^ 64 - 1) } → Put bytes (into m b c)
      → OutputQuiet (into m b c) → IsPutting old new (into m a c)
  putting_step new one put quiet =
      let up_is : new ≡ after_first s (min (s.written + 1) (2 ^ 64 - 1)) =
      one ∙ ap (λ (t : JobsState C). record t { written = min (t.written + 1) (2 ^ 64 - 1) }) up in
      let stepped : IsPutting old (after_first s (min (s.written + 1) (2 ^ 64 - 1))) (into m a c) = record {
        text = p.text ++ text;
        put = put_put S m a b c p.text text joins p.put (subst (λ (x : List ℕ). Put x (into m b c)) is put);
        quiet = quiet ∙ p.quiet;
        peers = p.peers;
        count = p.count;
        window = moved_length s.parts text first ∙ p.window;
        moved = λ asked written almost answers. moved_more (AnswersJob asked) old s written p.text text (p.moved asked written almost answers) first
            (min (s.written + 1) (2 ^ 64 - 1)) (λ h. omega (arith, h));
      } in
      subst (λ (t : JobsState C). IsPutting old t (into m a c)) (sym up_is) stepped

  -- or out fails in it
  pub putting_fails : PutFront bytes (into m b c) → (asked : Asked) (written : List ℕ) → IsAlmost (AnswersJob asked) old
      → AreAnswers (AnswersJob asked) old.written written → HasFailed (AnswersJob asked) moved written (into m a c)
  putting_fails front asked written almost answers =
      let h = p.moved asked written almost answers in
      let count : moved.count ≡ s.count = ap (λ (t : JobsState C). t.count) up in
      record {
        text = p.text ++ text;
        front = put_put_front S m a b c p.text text joins p.put p.quiet (subst (λ (x : List ℕ). PutFront x (into m b c)) is front);
        job = s.written + 1;
        within = omega (arith, count, within_more (AnswersJob asked) old s written p.text text h first);
        answers = answers_more (AnswersJob asked) old s written p.text text h first;
      }

-- fewer texts are kept
pub finished_step : {C : Type 0} (s moved new : JobsState C) (written : ℕ) (text : List ℕ) → slice_get s.parts 0 ≡ Some (Some text)
    → moved ≡ moved_up s → new ≡ record moved { written = written } → text_count new.parts < text_count s.parts
finished_step {C} s moved new written text first up one =
    let e : new.parts ≡ drop 1 s.parts ++ None ∷ [] = ap (λ (t : JobsState C). t.parts) one ∙ ap (λ (t : JobsState C). t.parts) up in
    subst (λ (xs : List (Option (List ℕ))). text_count xs < text_count s.parts) (sym e) (omega (arith, texts_moved s.parts text first))
