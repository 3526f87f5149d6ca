-- How many links are to come, are open, and were given back.
use Rattle.std.proofs.Common.{Err, List, None, Ok, Option, Some, [], ap, arith, inl, inr, length, length-append, length-set, refl, replicate, slice_set, subst, suc, sym, zero, ℕ, ◌+◌, ◌++◌, ◌<◌, ◌∙◌, ◌∷◌, ◌≡◌, ◌⊎◌}
use Rattle.std.proofs.lemmas.Bool.{cases_eq}
use Rattle.std.proofs.lemmas.List.Sums.{sum-map, sum_by-cons}
use Rattle.std.proofs.lemmas.Option.{slice_get_within}
use Rattle.std.specs.List.{slice_get}
use Rattle.tg_dials.specs.Dials.{DialMeaning, DialRose, IsDialled, IsHungUp, KeepsCalls, KeepsComing, at_dial}
use Rattle.tg_faults.specs.declared.calls.Failed.{Failed}
use Rattle.tg_links.specs.Views.{IsFirst, LinkView, and_call, told_call}
use Rattle.tg_links.specs.declared.call.Call.{Call}
use Rattle.tg_swarm.specs.Swarms.{SwarmState}
use Rattle.tg_swarm.specs.declared.peers.Peer.TheVariants as kinds
use Rattle.tg_swarming.proofs.Lists.{get_set_other, get_set_same}
use Rattle.tg_swarming.specs.Counts.{KeepsCount, count_of, one_if_open, open_count}
use Rattle.tg_swarming.specs.Rounds.{HasAddr, IsRunning, Meanings, moment_of}

-- ---- the links that are open

module _ {L : Type 0} where
  open_cons : (x : Option L) (links : List (Option L)) → open_count (x ∷ links) ≡ one_if_open x + open_count links
  open_cons x links =
      sum-map one_if_open (x ∷ links) ∙ sum_by-cons one_if_open x links ∙ ap (λ (n : ℕ). one_if_open x + n) (sym (sum-map one_if_open links))

  open_behind : (links : List (Option L)) → open_count (None ∷ links) ≡ open_count links
  open_behind links = let more = open_cons None links in omega (arith, more)

  -- one place is another
  open_set : (links : List (Option L)) (at : ℕ) (x y : Option L) → slice_get links at ≡ Some x
      → open_count (slice_set links at y) + one_if_open x ≡ open_count links + one_if_open y
  open_set [] at x y is = absurd (cc is)
  open_set (z ∷ links) zero x y is =
      let e : z ≡ x = cc in
      let one = ap one_if_open e in
      let old = open_cons z links in
      let new = open_cons y links in
      let set : open_count (y ∷ links) + one_if_open x ≡ open_count (z ∷ links) + one_if_open y = omega (arith, one, old, new) in
      set
  open_set (z ∷ links) (suc at) x y is =
      let more = open_set links at x y is in
      let old = open_cons z links in
      let new = open_cons z (slice_set links at y) in
      let set : open_count (z ∷ slice_set links at y) + one_if_open x ≡ open_count (z ∷ links) + one_if_open y = omega (arith, more, old, new) in
      set

  -- a link is taken out of its place, put into an empty one, or another put where one was; and where none is none is taken
  pub open_less : (links : List (Option L)) (at : ℕ) (link : L) → slice_get links at ≡ Some (Some link) → open_count links ≡ suc (open_count (slice_set links at None))
  open_less links at link is = let set = open_set links at (Some link) None is in omega (arith, set)

  pub open_more : (links : List (Option L)) (at : ℕ) (link : L) → slice_get links at ≡ Some None → open_count (slice_set links at (Some link)) ≡ suc (open_count links)
  open_more links at link is = let set = open_set links at None (Some link) is in omega (arith, set)

  pub open_other : (links : List (Option L)) (at : ℕ) (link next : L) → slice_get links at ≡ Some (Some link) → open_count (slice_set links at (Some next)) ≡ open_count links
  open_other links at link next is = let set = open_set links at (Some link) (Some next) is in omega (arith, set)

  pub open_untaken : (links : List (Option L)) (at : ℕ) (taken : Option L) → slice_get links at ≡ Some taken → ((link : L) → taken ≡ Some link → ⊥)
      → open_count (slice_set links at None) ≡ open_count links
  open_untaken links at (Some link) is none = absurd (none link refl)
  open_untaken links at None is none = let set = open_set links at None None is in omega (arith, set)

  pub open_new : (links : List (Option L)) (n : ℕ) → links ≡ replicate n None → open_count links ≡ 0
  open_new links zero is = ap open_count is
  open_new links (suc n) is = ap open_count is ∙ open_behind (replicate n None) ∙ open_new (replicate n None) n refl

  -- none is there
  pub open_none : (links : List (Option L)) → ((at : ℕ) (link : L) → slice_get links at ≡ Some (Some link) → ⊥) → open_count links ≡ 0
  open_none [] none = refl
  open_none (None ∷ links) none = open_behind links ∙ open_none links (λ at. none (suc at))
  open_none (Some link ∷ links) none = absurd (none zero link refl)

  pub empty_place : (links : List (Option L)) (at : ℕ) → at < length links → ((link : L) → slice_get links at ≡ Some (Some link) → ⊥) → slice_get links at ≡ Some None
  empty_place [] at lt none = absurd (omega (arith, lt))
  empty_place (None ∷ links) zero lt none = refl
  empty_place (Some link ∷ links) zero lt none = absurd (none link refl)
  empty_place (x ∷ links) (suc at) lt none = empty_place links at (omega (arith, lt)) none

  -- behind one more that is taken
  pub none_before : (links : List (Option L)) (end : ℕ) → ((at : ℕ) (link : L) → at < end → slice_get links at ≡ Some (Some link) → ⊥)
      → (at : ℕ) (link : L) → at < end + 1 → slice_get (slice_set links end None) at ≡ Some (Some link) → ⊥
  none_before links end none at link lt is = elim (cases_eq at end) [
    | inl e ↦
        let within = slice_get_within (slice_set links end None) at (Some link) is in
        let size = length-set links end None in
        let there = get_set_same links end None (omega (arith, within, size, e)) in
        let here = subst (λ (n : ℕ). slice_get (slice_set links end None) n ≡ Some (Some link)) e is in
        let no : ⊥ = cc (there, here) in no
    | inr ne ↦ none at link (omega (arith, lt, ne)) (sym (get_set_other links end at None ne) ∙ is)
  ]

-- a peer that is idle has no link
pub unlinked_place : {D L S : Type 0} (m : Meanings D L S) (old : SwarmState) (links : List (Option L)) (a : D) (s : S) (peer : ℕ) (addr : List ℕ)
    → IsRunning m (HasAddr peer addr) (moment_of old links a s) → slice_get old.jobs.peers peer ≡ Some kinds.Idle → slice_get links peer ≡ Some None
unlinked_place {L = L} m old links a s peer addr h idle =
    let lt = slice_get_within h.setup.addrs peer addr h.is_which in
    let number = h.runs.number in
    empty_place links peer (omega (arith, lt, number)) none
  where
    none : (link : L) → slice_get links peer ≡ Some (Some link) → ⊥
    none link is = let here = sym (h.runs.lines peer link is).busy ∙ idle in cc

-- ---- what a dial tells

same_count : (coming_old coming_new : Option (List (List ℕ))) (calls_old calls_new : Option (List Call)) → coming_new ≡ coming_old → calls_new ≡ calls_old
    → (links : ℕ) → count_of coming_old calls_old links ≡ count_of coming_new calls_new links
same_count coming_old coming_new calls_old calls_new coming calls links =
    ap (λ (c : Option (List (List ℕ))). count_of c calls_old links) (sym coming) ∙ ap (λ (c : Option (List Call)). count_of coming_new c links) (sym calls)

untold : (coming : Option (List (List ℕ))) (links : ℕ) → count_of coming None links ≡ None
untold (Some coming) links = refl
untold None links = refl

made_count : (coming_old coming_new : Option (List (List ℕ))) (calls_old calls_new : Option (List Call)) (left : Option (List ℕ)) → IsFirst coming_old coming_new left
    → calls_new ≡ calls_old → (links n : ℕ) → count_of coming_new calls_new (suc links) ≡ Some n → count_of coming_old calls_old links ≡ Some n
made_count None coming_new calls_old calls_new left first calls links n e =
    let no : None ≡ Some n = ap (λ (c : Option (List (List ℕ))). count_of c calls_new (suc links)) (sym first) ∙ e in absurd (cc no)
made_count (Some []) coming_new calls_old calls_new left first calls links n e = absurd first
made_count (Some (x ∷ more)) coming_new None calls_new left first calls links n e =
    let no : None ≡ Some n = same_count (Some more) coming_new None calls_new first.0 calls (suc links) ∙ e in absurd (cc no)
made_count (Some (x ∷ more)) coming_new (Some told) calls_new left first calls links n e =
    let number : links + (suc (length more) + length told) ≡ suc links + (length more + length told) = omega arith in
    ap Some number ∙ same_count (Some more) coming_new (Some told) calls_new first.0 calls (suc links) ∙ e

back_count : (coming_old coming_new : Option (List (List ℕ))) (calls_old calls_new : Option (List Call)) (call : Option Call) → coming_new ≡ coming_old
    → calls_new ≡ and_call calls_old call → (links n : ℕ) → count_of coming_new calls_new links ≡ Some n → count_of coming_old calls_old (suc links) ≡ Some n
back_count coming_old coming_new calls_old calls_new call coming calls links n e =
    by coming_old calls_old call (same_count coming_old coming_new (and_call calls_old call) calls_new coming calls links ∙ e)
  where
    by : (c : Option (List (List ℕ))) (k : Option (List Call)) (one : Option Call) → count_of c (and_call k one) links ≡ Some n → count_of c k (suc links) ≡ Some n
    by c None one is = let no : None ≡ Some n = sym (untold c links) ∙ is in absurd (cc no)
    by c (Some told) None is = let no : None ≡ Some n = sym (untold c links) ∙ is in absurd (cc no)
    by None (Some told) (Some one) is = absurd (cc is)
    by (Some coming) (Some told) (Some one) is =
        let size : length (told ++ one ∷ []) ≡ length told + 1 = length-append told (one ∷ []) in
        let number : suc links + (length coming + length told) ≡ links + (length coming + length (told ++ one ∷ [])) = omega (arith, size) in
        ap Some number ∙ is

module _ {D : Type 0} (d : DialMeaning D) where
  pub keeps_both : (a b c : D) (k l m : ℕ) → KeepsCount d a k b l → KeepsCount d b l c m → KeepsCount d a k c m
  keeps_both a b c k l m one other n e = one n (other n e)

  pub keeps_as : (a b : D) (k l m : ℕ) → m ≡ l → KeepsCount d a k b l → KeepsCount d a k b m
  keeps_as a b k l m same one = subst (λ (n : ℕ). KeepsCount d a k b n) (sym same) one

  -- a link was made, or none
  pub keeps_made : (a b : D) (link : LinkView) → IsDialled (at_dial d a b) (Ok link) → KeepsCalls (at_dial d a b) → (links : ℕ) → KeepsCount d a links b (suc links)
  keeps_made a b link dialled calls links n e =
      let (new, missed, quiet, first) = dialled in
      made_count (d.coming a) (d.coming b) (d.calls a) (d.calls b) link.left first calls links n e

  pub keeps_missed : (a b : D) (fault : Failed) → IsDialled (at_dial d a b) (Err fault) → KeepsCalls (at_dial d a b) → (links : ℕ) → KeepsCount d a links b links
  keeps_missed a b fault dialled calls links n e =
      let (missed, rose, coming) = dialled in
      same_count (d.coming a) (d.coming b) (d.calls a) (d.calls b) coming calls links ∙ e

  -- a link was given back
  pub keeps_back : (a b : D) (link : LinkView) → IsHungUp link (at_dial d a b) → KeepsComing (at_dial d a b) → (links : ℕ) → KeepsCount d a (suc links) b links
  keeps_back a b link hung coming links n e = by hung.calls
    where
      by : (d.calls b ≡ and_call (d.calls a) (told_call link)) ⊎ ((d.calls b ≡ None) × DialRose (at_dial d a b)) → count_of (d.coming a) (d.calls a) (suc links) ≡ Some n
      by (inl calls) = back_count (d.coming a) (d.coming b) (d.calls a) (d.calls b) (told_call link) coming calls links n e
      by (inr (none, rose)) =
          let no : None ≡ Some n = sym (untold (d.coming b) links) ∙ ap (λ (c : Option (List Call)). count_of (d.coming b) c links) (sym none) ∙ e in absurd (cc no)

  -- the link at a place was given back
  pub keeps_less : {L : Type 0} (a b : D) (links : List (Option L)) (at : ℕ) (x : L) → slice_get links at ≡ Some (Some x)
      → (link : LinkView) → IsHungUp link (at_dial d a b) → KeepsComing (at_dial d a b) → KeepsCount d a (open_count links) b (open_count (slice_set links at None))
  keeps_less a b links at x is link hung coming =
      let l = open_count (slice_set links at None) in
      subst (λ (n : ℕ). KeepsCount d a n b l) (sym (open_less links at x is)) (keeps_back a b link hung coming l)

  -- one was made and given back at once
  pub keeps_unput : (a b c : D) (link next : LinkView) → IsDialled (at_dial d a b) (Ok link) → KeepsCalls (at_dial d a b) → IsHungUp next (at_dial d b c)
      → KeepsComing (at_dial d b c) → (links : ℕ) → KeepsCount d a links c links
  keeps_unput a b c link next dialled calls hung coming links =
      keeps_both a b c links (suc links) links (keeps_made a b link dialled calls links) (keeps_back b c next hung coming links)
