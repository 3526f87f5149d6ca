-- How many peers were refused.
use Rattle.std.proofs.Common.{List, Some, [], ap, arith, length, refl, suc, zero, ℕ, ◌+◌, ◌∙◌, ◌∷◌, ◌≡◌, ◌≤◌}
use Rattle.std.specs.List.{slice_get}
use Rattle.tg_fetch.specs.declared.fault.FetchFault.{FetchFault}
use Rattle.tg_swarm.specs.Jobs.{OthersStay}
use Rattle.tg_swarm.specs.Peers.{AreRefused, IsRefusedPeer, and_refusal, refusals_of}
use Rattle.tg_swarm.specs.declared.peers.Peer.{Peer}
use Rattle.tg_swarm.specs.declared.peers.Peer.TheVariants as kinds

-- ---- one peer more

and_most : {C : Type 0} (peer : Peer C) (faults : List FetchFault) → length (and_refusal peer faults) ≤ length faults + 1
and_most kinds.Idle faults = omega arith
and_most (kinds.Busy call) faults = omega arith
and_most (kinds.Refused fault) faults = omega arith

and_least : {C : Type 0} (peer : Peer C) (faults : List FetchFault) → length faults ≤ length (and_refusal peer faults)
and_least kinds.Idle faults = omega arith
and_least (kinds.Busy call) faults = omega arith
and_least (kinds.Refused fault) faults = omega arith

and_more : {C : Type 0} (peer : Peer C) (xs ys : List FetchFault) (n : ℕ) → length xs ≤ length ys + n → length (and_refusal peer xs) ≤ length (and_refusal peer ys) + n
and_more kinds.Idle xs ys n le = le
and_more (kinds.Busy call) xs ys n le = le
and_more (kinds.Refused fault) xs ys n le = omega (arith, le)

and_same : {C : Type 0} (peer : Peer C) (faults : List FetchFault) → ((fault : FetchFault) → peer ≡ kinds.Refused fault → ⊥) → length (and_refusal peer faults) ≡ length faults
and_same kinds.Idle faults not = refl
and_same (kinds.Busy call) faults not = refl
and_same (kinds.Refused fault) faults not = absurd (not fault refl)

-- ---- peers

-- the same peers
same_refusals : {C : Type 0} (old new : List (Peer C)) → length new ≡ length old → ((i : ℕ) → slice_get new i ≡ slice_get old i)
    → refusals_of new ≡ refusals_of old
same_refusals [] [] size same = refl
same_refusals [] (n ∷ new) size same = absurd (omega (arith, size))
same_refusals (o ∷ old) [] size same = absurd (omega (arith, size))
same_refusals (o ∷ old) (n ∷ new) size same =
    let head : n ≡ o = let e : Some n ≡ Some o = same 0 in cc in
    let tail = same_refusals old new (omega (arith, size)) (λ i. same (suc i)) in
    ap (λ (peer : Peer _). and_refusal peer (refusals_of new)) head ∙ ap (and_refusal o) tail

-- one more is refused at most, where one changed
pub refused_most : {C : Type 0} (old new : List (Peer C)) (at : ℕ) → length new ≡ length old → OthersStay old new at
    → length (refusals_of new) ≤ length (refusals_of old) + 1
refused_most [] [] at size others = omega arith
refused_most [] (n ∷ new) at size others = absurd (omega (arith, size))
refused_most (o ∷ old) [] at size others = absurd (omega (arith, size))
refused_most (o ∷ old) (n ∷ new) zero size others =
    let tail = ap length (same_refusals old new (omega (arith, size)) (λ i. others (suc i) (λ e. omega (arith, e)))) in
    let most = and_most n (refusals_of new) in
    let least = and_least o (refusals_of old) in
    omega (arith, tail, most, least)
refused_most (o ∷ old) (n ∷ new) (suc at) size others =
    let head : n ≡ o = let e : Some n ≡ Some o = others 0 (λ e. omega (arith, e)) in cc in
    let tail = refused_most old new at (omega (arith, size)) (λ i ne. others (suc i) (λ e. ne (omega (arith, e)))) in
    let more = and_more o (refusals_of new) (refusals_of old) 1 tail in
    let same = ap (λ (peer : Peer _). length (and_refusal peer (refusals_of new))) head in
    omega (arith, more, same)

-- and none, where that one isn't
pub refused_same : {C : Type 0} (old new : List (Peer C)) (at : ℕ) → length new ≡ length old → OthersStay old new at
    → ((fault : FetchFault) → slice_get new at ≡ Some (kinds.Refused fault) → ⊥) → length (refusals_of new) ≤ length (refusals_of old)
refused_same [] [] at size others not = omega arith
refused_same [] (n ∷ new) at size others not = absurd (omega (arith, size))
refused_same (o ∷ old) [] at size others not = absurd (omega (arith, size))
refused_same (o ∷ old) (n ∷ new) zero size others not =
    let tail = ap length (same_refusals old new (omega (arith, size)) (λ i. others (suc i) (λ e. omega (arith, e)))) in
    let most = and_same n (refusals_of new) (λ fault e. not fault (ap Some e)) in
    let least = and_least o (refusals_of old) in
    omega (arith, tail, most, least)
refused_same (o ∷ old) (n ∷ new) (suc at) size others not =
    let head : n ≡ o = let e : Some n ≡ Some o = others 0 (λ e. omega (arith, e)) in cc in
    let tail = refused_same old new at (omega (arith, size)) (λ i ne. others (suc i) (λ e. ne (omega (arith, e)))) not in
    let more = and_more o (refusals_of new) (refusals_of old) 0 (omega (arith, tail)) in
    let same = ap (λ (peer : Peer _). length (and_refusal peer (refusals_of new))) head in
    omega (arith, more, same)

all_one : {C : Type 0} (peer : Peer C) (faults : List FetchFault) → IsRefusedPeer peer → length (and_refusal peer faults) ≡ suc (length faults)
all_one kinds.Idle faults is = absurd is
all_one (kinds.Busy call) faults is = absurd is
all_one (kinds.Refused fault) faults is = refl

-- all are
pub all_refused : {C : Type 0} (peers : List (Peer C)) → AreRefused peers → length (refusals_of peers) ≡ length peers
all_refused [] all = refl
all_refused (peer ∷ peers) all =
    let one = all_one peer (refusals_of peers) (all 0 peer refl) in
    let more = all_refused peers (λ i other is. all (suc i) other is) in
    omega (arith, one, more)
