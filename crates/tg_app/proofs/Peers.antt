-- The refusals of a swarm's peers, from one peer on.
use Rattle.std.proofs.Common.{List, None, Option, Some, [], append_assoc, append-nil, ap, arith, drop, length, refl, subst, suc, sym, zero, ℕ, ◌+◌, ◌++◌, ◌<◌, ◌∙◌, ◌∷◌, ◌≡◌, ◌≤◌}
use Rattle.std.proofs.lemmas.List.{at_drop_all}
use Rattle.std.specs.List.{slice_get}
use Rattle.tg_app.specs.Swarms.{fetch_word, words_of}
use Rattle.tg_bytes.specs.Ascii.{space}
use Rattle.tg_fetch.specs.declared.fault.FetchFault.{FetchFault}
use Rattle.tg_swarm.specs.Peers.{refusal_of, refusals_of}
use Rattle.tg_swarm.specs.declared.peers.Peer.{Peer}
use Rattle.tg_swarm.specs.declared.peers.Peer.TheVariants.{Busy, Idle, Refused}

-- this is told of the peer at a place
abbrev pub IsToldAt : {C : Type 0} → List (Peer C) → ℕ → Option FetchFault → Type 0
IsToldAt {C} peers at told = (peer : Peer C) → slice_get peers at ≡ Some peer → told ≡ refusal_of peer

some_here : {C : Type 0} (peers : List (Peer C)) (at : ℕ) (fault : FetchFault) → at < length peers → IsToldAt peers at (Some fault)
    → refusals_of (drop at peers) ≡ fault ∷ refusals_of (drop (suc at) peers)
some_here [] at fault within told = absurd (omega (arith, within))
some_here (Idle ∷ peers) zero fault within told = let is = told Idle refl in cc
some_here (Busy call ∷ peers) zero fault within told = let is = told (Busy call) refl in cc
some_here (Refused other ∷ peers) zero fault within told = let is = told (Refused other) refl in cc
some_here (peer ∷ peers) (suc at) fault within told = some_here peers at fault (omega (arith, within)) told

none_here : {C : Type 0} (peers : List (Peer C)) (at : ℕ) → at < length peers → IsToldAt peers at None → refusals_of (drop at peers) ≡ refusals_of (drop (suc at) peers)
none_here [] at within told = absurd (omega (arith, within))
none_here (Idle ∷ peers) zero within told = refl
none_here (Busy call ∷ peers) zero within told = refl
none_here (Refused fault ∷ peers) zero within told = let is = told (Refused fault) refl in cc
none_here (peer ∷ peers) (suc at) within told = none_here peers at (omega (arith, within)) told

module _ {C : Type 0} (peers : List (Peer C)) (at : ℕ) (told : Option FetchFault) (within : at < length peers) (tells : IsToldAt peers at told) where
  behind : refusals_of (drop (suc at) peers) ≡ refusals_of (drop (at + 1) peers)
  behind = let next : suc at ≡ at + 1 = omega arith in ap (λ n. refusals_of (drop n peers)) next

  pub some_at : (fault : FetchFault) → told ≡ Some fault → refusals_of (drop at peers) ≡ fault ∷ refusals_of (drop (at + 1) peers)
  some_at fault is = some_here peers at fault within (subst (IsToldAt peers at) is tells) ∙ ap (λ faults. fault ∷ faults) behind

  pub none_at : told ≡ None → refusals_of (drop at peers) ≡ refusals_of (drop (at + 1) peers)
  none_at is = none_here peers at within (subst (IsToldAt peers at) is tells) ∙ behind

-- the words of the refusals from a place on follow those of the ones before it
abbrev pub AreWordsTo : {C : Type 0} → List (Peer C) → ℕ → List ℕ → Type 0
AreWordsTo peers at words = words ++ words_of (refusals_of (drop at peers)) ≡ words_of (refusals_of peers)

module _ {C : Type 0} (peers : List (Peer C)) (at : ℕ) (words : List ℕ) (are : AreWordsTo peers at words) where
  pub one_more : (fault : FetchFault) → refusals_of (drop at peers) ≡ fault ∷ refusals_of (drop (at + 1) peers) → AreWordsTo peers (at + 1) ((words ++ (space ∷ [])) ++ fetch_word fault)
  one_more fault is =
      append_assoc (words ++ (space ∷ [])) (fetch_word fault) (words_of (refusals_of (drop (at + 1) peers)))
      ∙ append_assoc words (space ∷ []) (fetch_word fault ++ words_of (refusals_of (drop (at + 1) peers)))
      ∙ ap (λ faults. words ++ words_of faults) (sym is) ∙ are

  pub none_more : refusals_of (drop at peers) ≡ refusals_of (drop (at + 1) peers) → AreWordsTo peers (at + 1) words
  none_more is = ap (λ faults. words ++ words_of faults) (sym is) ∙ are

  pub all_words : length peers ≤ at → words ≡ words_of (refusals_of peers)
  all_words all = sym (append-nil words) ∙ sym (ap (λ rest. words ++ rest) (at_drop_all (λ last. words_of (refusals_of last)) peers at all)) ∙ are
