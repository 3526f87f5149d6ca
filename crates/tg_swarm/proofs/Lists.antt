-- Loops over the peers, and places of them.
use Rattle.std.proofs.Common.{Bool, Err, IsTrue, List, Ok, OnErr, Result, Some, ap, arith, get_or, inl, inr, length, refl, subst, sym, ℕ, ◌+◌, ◌<◌, ◌∙◌, ◌≡◌, ◌≤◌, ◌↔◌}
use Rattle.std.proofs.lemmas.Bool.{cases_lt}
use Rattle.std.proofs.lemmas.Option.{slice_get_read, slice_get_within}
use Rattle.std.proofs.lemmas.List.{set-get_or, set-set}
use Rattle.std.specs.List.{slice_get}
use Rattle.std.specs.Prelude.{slice_set}
use Rattle.tg_swarm.specs.Peers.{AreRefused, HasJob, IsAsked, IsRefusedPeer, job_of}
use Rattle.tg_swarm.specs.declared.peers.Call.{Call}
use Rattle.tg_swarm.specs.declared.peers.Peer.{Peer}
use Rattle.tg_swarm.specs.declared.peers.Peer.TheVariants.{Busy}

module _ {C : Type 0} (peers : List (Peer C)) where
  -- none of the first ones has the job
  abbrev pub NoneHas : ℕ → ℕ → Type 0
  NoneHas job k = (i : ℕ) → i < k → HasJob peers i job → ⊥

  pub none_has_more : (job k : ℕ) (peer : Peer C) → NoneHas job k → slice_get peers k ≡ Some peer → (job_of peer ≡ Some job → ⊥) → NoneHas job (k + 1)
  none_has_more job k peer before at not i below h = elim (cases_lt i k) [
    | inl less ↦ before i less h
    | inr most ↦
        let same : i ≡ k = omega (arith, below, most) in
        let both : Some h.0 ≡ Some peer = sym h.1 ∙ ap (slice_get peers) same ∙ at in
        let is : h.0 ≡ peer = cc in
        not (subst (λ (p : Peer C). job_of p ≡ Some job) is h.2)
  ]

  pub none_has_all : (job k : ℕ) → NoneHas job k → length peers ≤ k → IsAsked peers job → ⊥
  none_has_all job k none all (i, h) = none i (omega (arith, all, slice_get_within peers i h.0 h.1)) h

  -- each of the first ones was refused
  abbrev pub FirstRefused : ℕ → Type 0
  FirstRefused k = (i : ℕ) (peer : Peer C) → i < k → slice_get peers i ≡ Some peer → IsRefusedPeer peer

  pub refused_all : (k : ℕ) → FirstRefused k → length peers ≤ k → AreRefused peers
  refused_all k first all i peer h = first i peer (omega (arith, all, slice_get_within peers i peer h)) h

-- an element that is put back
pub put_back : {X : Type 0} (xs : List X) (i : ℕ) (x y : X) → x ≡ get_or xs i x → slice_set (slice_set xs i y) i x ≡ xs
put_back xs i x y is = set-set xs i y x ∙ ap (slice_set xs i) is ∙ set-get_or xs i x

-- what an element is, where it is the one at a place
pub at_place : {X : Type 0} (xs : List X) (i : ℕ) (x y : X) → i < length xs → x ≡ get_or xs i x → slice_get xs i ≡ Some y → x ≡ y
at_place xs i x y within is h =
    let both : Some x ≡ Some y = sym (slice_get_read xs (length xs) i x refl within is) ∙ h in cc

-- a busy peer at a place
pub busy_there : {C : Type 0} (xs ys : List (Peer C)) (at : ℕ) (peer : Peer C) (r : Bool) → xs ≡ ys → at < length xs → peer ≡ get_or xs at peer
    → (IsTrue r ↔ ((call : Call C) × (peer ≡ Busy call))) → IsTrue r ↔ ((call : Call C) × (slice_get ys at ≡ Some (Busy call)))
busy_there {C} xs ys at peer r e within is iff = (
  λ t. let b = iff.0 t in (
    b.0,
    ap (λ (zs : List (Peer C)). slice_get zs at) (sym e)
        ∙ slice_get_read xs (length xs) at peer refl within is ∙ ap (λ (p : Peer C). Some p) b.1,
  ),
  λ h. iff.1 (h.0, at_place xs at peer (Busy h.0) within is (ap (λ (zs : List (Peer C)). slice_get zs at) e ∙ h.1)),
)

pub no_busy : {C : Type 0} (xs ys : List (Peer C)) (at : ℕ) → xs ≡ ys → length xs ≤ at → ((call : Call C) × (slice_get ys at ≡ Some (Busy call))) → ⊥
no_busy {C} xs ys at e past h =
    omega (arith, past, slice_get_within xs at (Busy h.0) (ap (λ (zs : List (Peer C)). slice_get zs at) e ∙ h.1))

-- the same of equal lists
pub asked_moved : {C : Type 0} (xs ys : List (Peer C)) (a b : ℕ) → xs ≡ ys → a ≡ b → IsAsked xs a → IsAsked ys b
asked_moved {C} xs ys a b e f h = subst (λ (n : ℕ). IsAsked ys n) f (subst (λ (zs : List (Peer C)). IsAsked zs a) e h)

-- what is said of an error
pub on_err : {A E P : Type 0} (r : Result A E) → P → OnErr r P
on_err (Ok x) p = tt
on_err (Err e) p = p
