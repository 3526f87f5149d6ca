-- What stands of the jobs stays.
use Rattle.std.proofs.Common.{List, None, Some, [], ap, arith, drop, inl, inr, length, length-append, length-set, refl, subst, sym, ℕ, ◌++◌}
use Rattle.std.proofs.Common.{◌+◌, ◌-◌, ◌<◌, ◌∙◌, ◌∷◌, ◌≡◌, ◌≢◌, ◌⊎◌}
use Rattle.std.proofs.lemmas.Bool.{cases_eq}
use Rattle.std.proofs.lemmas.Option.{slice_get_within}
use Rattle.std.specs.List.{slice_get}
use Rattle.std.specs.Prelude.{slice_set}
use Rattle.tg_swarm.proofs.PeerJobs.{job_at}
use Rattle.tg_swarm.proofs.Places.{get_set_other, get_set_same, moved_done, moved_open}
use Rattle.tg_swarm.specs.Jobs.{HasOpened, IsAlmost, IsOpen, JobsState, with_part}
use Rattle.tg_swarm.specs.Peers.{HasJob, IsAsked, job_of}
use Rattle.tg_swarm.specs.declared.peers.Call.{Call}
use Rattle.tg_swarm.specs.declared.peers.Peer.{Peer}
use Rattle.tg_swarm.specs.declared.peers.Peer.TheVariants as kinds

module _ {C : Type 0} (answers : ℕ → List ℕ → Type 0) (s : JobsState C) where
  -- with other peers, of which no more is asked
  pub peers_kept : (peers : List (Peer C)) → ((i job : ℕ) → HasJob peers i job → HasJob s.peers i job)
      → IsAlmost answers s → IsAlmost answers (record s { peers = peers })
  peers_kept peers fewer a = record {
    within = a.within;
    fits = a.fits;
    room = a.room;
    jobs = λ i job h.
        let o = a.jobs i job (fewer i job h) in
        record { place = o.place; is_at = o.is_at; within = o.within; unfinished = o.unfinished };
    one = λ i j job h g. a.one i j job (fewer i job h) (fewer j job g);
    done = a.done;
  }

  module _ (at : ℕ) (within : at < length s.peers) (a : IsAlmost answers s) where
    -- a peer of which nothing is asked any more
    pub left_alone : (peer : Peer C) → ((job : ℕ) → job_of peer ≡ Some job → ⊥)
        → IsAlmost answers (record s { peers = slice_set s.peers at peer })
    left_alone peer none = peers_kept (slice_set s.peers at peer)
        (λ i job h. elim (job_at s.peers at peer within i job h) [
          | inl (same, has) ↦ absurd (none job has)
          | inr (differs, before) ↦ before
        ])
        a

    -- and none has its job any more
    pub none_has : (call : Call C) (peer : Peer C) → slice_get s.peers at ≡ Some (kinds.Busy call) → ((job : ℕ) → job_of peer ≡ Some job → ⊥)
        → (i : ℕ) → HasJob (slice_set s.peers at peer) i call.job → ⊥
    none_has call peer busy none i h = elim (job_at s.peers at peer within i call.job h) [
      | inl (same, has) ↦ none call.job has
      | inr (differs, before) ↦ differs (a.one i at call.job before (kinds.Busy call, busy, refl))
    ]

    -- a peer that goes on with its job
    pub busy_again : (old new : Call C) → slice_get s.peers at ≡ Some (kinds.Busy old) → new.job ≡ old.job
        → IsAlmost answers (record s { peers = slice_set s.peers at (kinds.Busy new) })
    busy_again old new busy same = peers_kept (slice_set s.peers at (kinds.Busy new))
        (λ i job h. elim (job_at s.peers at (kinds.Busy new) within i job h) [
          | inl (here, has) ↦
              let j : old.job ≡ job = let e : Some new.job ≡ Some job = has in let f : new.job ≡ job = cc in sym same ∙ f in
              (kinds.Busy old, ap (slice_get s.peers) here ∙ busy, ap (λ (n : ℕ). Some n) j)
          | inr (differs, before) ↦ before
        ])
        a

    -- a peer of which a job is asked that waits
    pub asked_too : (call : Call C) → IsOpen s call.job → (IsAsked s.peers call.job → ⊥)
        → IsAlmost answers (record s { peers = slice_set s.peers at (kinds.Busy call) })
    asked_too call open_job waits = record {
      within = a.within;
      fits = a.fits;
      room = a.room;
      jobs = λ i job h. elim (job_at s.peers at (kinds.Busy call) within i job h) [
        | inl (here, has) ↦
            let j : call.job ≡ job = let e : Some call.job ≡ Some job = has in cc in
            record {
              place = open_job.place;
              is_at = sym j ∙ open_job.is_at;
              within = subst (λ (n : ℕ). n < s.count) j open_job.within;
              unfinished = open_job.unfinished;
            }
        | inr (differs, before) ↦
            let o = a.jobs i job before in
            record { place = o.place; is_at = o.is_at; within = o.within; unfinished = o.unfinished }
      ];
      one = λ i j job h g. both i j job (job_at s.peers at (kinds.Busy call) within i job h) (job_at s.peers at (kinds.Busy call) within j job g);
      done = a.done;
    }
      where
        mine : (j job : ℕ) → job_of (kinds.Busy call) ≡ Some job → HasJob s.peers j job → ⊥
        mine j job has before = let e : call.job ≡ job = cc in waits (j, subst (HasJob s.peers j) (sym e) before)

        both : (i j job : ℕ) → ((i ≡ at) × (job_of (kinds.Busy call) ≡ Some job)) ⊎ ((i ≢ at) × HasJob s.peers i job)
            → ((j ≡ at) × (job_of (kinds.Busy call) ≡ Some job)) ⊎ ((j ≢ at) × HasJob s.peers j job) → i ≡ j
        both i j job (inl (here, has)) (inl (there, too)) = here ∙ sym there
        both i j job (inl (here, has)) (inr (differs, before)) = absurd (mine j job has before)
        both i j job (inr (differs, before)) (inl (there, too)) = absurd (mine i job too before)
        both i j job (inr (differs, before)) (inr (apart, other)) = a.one i j job before other

  -- a job that none of the peers has is finished
  pub part_kept : (job place : ℕ) (text : List ℕ) → IsAlmost answers s → job ≡ s.written + place → job < s.count → slice_get s.parts place ≡ Some None
      → ((i : ℕ) → HasJob s.peers i job → ⊥) → answers job text → IsAlmost answers (with_part s place text)
  part_kept job place text a is_at below unfinished nobody answer = record {
    within = a.within;
    fits = a.fits;
    room = omega (arith, a.room, length-set s.parts place (Some text));
    jobs = λ i other h. let o = a.jobs i other h in record {
      place = o.place;
      is_at = o.is_at;
      within = o.within;
      unfinished = get_set_other s.parts place o.place (Some text) (apart i other o.place o.is_at h) ∙ o.unfinished;
    };
    one = a.one;
    done = λ k other h. elim (cases_eq k place) [
      | inl same ↦ here k other same h
      | inr differs ↦ a.done k other (sym (get_set_other s.parts place k (Some text) differs) ∙ h)
    ];
  }
    where
      apart : (i other at : ℕ) → other ≡ s.written + at → HasJob s.peers i other → at ≢ place
      apart i other at is h same =
          let e : other ≡ job = is ∙ ap (λ n. s.written + n) same ∙ sym is_at in nobody i (subst (HasJob s.peers i) e h)

      here : (k : ℕ) (other : List ℕ) → k ≡ place → slice_get (slice_set s.parts place (Some text)) k ≡ Some (Some other)
          → (s.written + k < s.count) × answers (s.written + k) other
      here k other same h =
          let at : slice_get (slice_set s.parts place (Some text)) place ≡ Some (Some text) =
          get_set_same s.parts place (Some text) (slice_get_within s.parts place None unfinished) in
          let there : slice_get (slice_set s.parts place (Some text)) place ≡ Some (Some other) =
          ap (slice_get (slice_set s.parts place (Some text))) (sym same) ∙ h in
          let both : Some (Some text) ≡ Some (Some other) = sym at ∙ there in
          let is : text ≡ other = cc in
          let j : job ≡ s.written + k = is_at ∙ ap (λ n. s.written + n) (sym same) in (
            subst (λ (n : ℕ). n < s.count) j below,
            subst (λ (t : List ℕ). answers (s.written + k) t) is (subst (λ (n : ℕ). answers n text) j answer),
          )

  -- the first is put
  pub first_put : (text : List ℕ) → IsAlmost answers s → slice_get s.parts 0 ≡ Some (Some text)
      → IsAlmost answers (record s { written = s.written + 1; parts = drop 1 s.parts ++ None ∷ [] })
  first_put text a first = record {
    within = omega (arith, (a.done 0 text first).0);
    fits = a.fits;
    room = omega (arith, length-append (drop 1 s.parts) (None ∷ []));
    jobs = λ i job h.
        let o = a.jobs i job h in
        let up = moved_open s.parts o.place text first o.unfinished in
        record { place = up.0; is_at = o.is_at ∙ omega (arith, up.1); within = o.within; unfinished = up.2 };
    one = a.one;
    done = λ k t h.
        let before = a.done (k + 1) t (moved_done s.parts k text t first h) in
        let e : s.written + (k + 1) ≡ s.written + 1 + k = omega arith in
        (subst (λ (n : ℕ). n < s.count) e before.0, subst (λ (n : ℕ). answers n t) e before.1);
  }

  -- the same at its place
  pub part_finished : (job : ℕ) (text : List ℕ) → IsAlmost answers s → IsOpen s job → ((i : ℕ) → HasJob s.peers i job → ⊥) → answers job text
      → IsAlmost answers (with_part s (job - s.written) text)
  part_finished job text a o nobody answer =
      let place : job - s.written ≡ o.place = omega (arith, o.is_at) in
      subst (λ (p : ℕ). IsAlmost answers (with_part s p text)) (sym place) (part_kept job o.place text a o.is_at o.within o.unfinished nobody answer)

-- and a job that is finished isn't open any more
pub kept_closes : {C : Type 0} (old new : JobsState C) (job : ℕ) (text : List ℕ) → IsOpen old job
    → HasOpened (with_part old (job - old.written) text) new
    → IsOpen new job → ⊥
kept_closes old new job text was opened o =
    let at : job - old.written < length old.parts = omega (arith, was.is_at, slice_get_within old.parts was.place None was.unfinished) in
    let back : IsOpen (with_part old (job - old.written) text) job = opened.opened job
    (omega (arith, at, was.is_at, length-set old.parts (job - old.written) (Some text))) o in
    let same : job - old.written ≡ back.place = omega (arith, back.is_at) in
    let set : slice_get (slice_set old.parts (job - old.written) (Some text)) (job - old.written) ≡ Some (Some text) =
    get_set_same old.parts (job - old.written) (Some text) at in
    let free : slice_get (slice_set old.parts (job - old.written) (Some text)) (job - old.written) ≡ Some None =
    ap (slice_get (slice_set old.parts (job - old.written) (Some text))) same ∙ back.unfinished in
    let both : Some (Some text) ≡ Some None = sym set ∙ free in
    absurd (cc both)
