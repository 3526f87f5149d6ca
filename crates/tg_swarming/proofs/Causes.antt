-- Why peers were refused, and how many, from one moment to the next.
use Rattle.std.proofs.Common.{Contains, List, Some, arith, inl, inr, length, subst, sym, ℕ, ◌+◌, ◌<◌, ◌∙◌, ◌≡◌, ◌≤◌, ◌⊎◌}
use Rattle.std.proofs.lemmas.Bool.{cases_eq}
use Rattle.std.specs.List.{slice_get}
use Rattle.tg_dials.specs.Dials.{Dialling}
use Rattle.tg_fetch.specs.declared.client.Client.{Client}
use Rattle.tg_fetch.specs.declared.fault.FetchFault.{FetchFault}
use Rattle.tg_fetch.specs.declared.fault.FetchFault.TheVariants.{PeerFault}
use Rattle.tg_swarming.proofs.Refusals.{refused_most, refused_same}
use Rattle.tg_swarm.specs.Jobs.{OthersStay}
use Rattle.tg_swarm.specs.Peers.{refusals_of}
use Rattle.tg_swarming.specs.Rounds.{AreCaused, IsRefusedFor, Over, Setup, spoilt_count}
use Rattle.tg_swarm.specs.declared.peers.Peer.{Peer}
use Rattle.tg_swarm.specs.declared.peers.Peer.TheVariants as kinds

-- each peer that was refused has a cause, and no more were than dials were missed and links spoilt
abbrev pub AreCounted : Setup → Dialling → List Over → ℕ → List (Peer Client) → Type 0
AreCounted setup dial overs missed peers = AreCaused setup dial overs missed peers × (length (refusals_of peers) ≤ missed + spoilt_count overs)

-- with further links, and as many dials missed or more
module _ (setup : Setup) (a b : Dialling) (on : (addr : List ℕ) → a.dialled addr → b.dialled addr) (overs later : List Over) (missed more : ℕ)
    (stay : (o : Over) → Contains overs o → Contains later o) (le : missed ≤ more) where
  refused_on : (peer : ℕ) (fault : FetchFault) → IsRefusedFor setup a overs missed peer fault → IsRefusedFor setup b later more peer fault
  refused_on peer fault h = record { addr = h.addr; addr_is = h.addr_is; dialled = on h.addr h.dialled; why = by h.why }
    where
      by : ((0 < missed) × (fault ≡ PeerFault)) ⊎ ((o : Over) × Contains overs o × (o.addr ≡ h.addr) × (o.refusal ≡ Some fault))
          → ((0 < more) × (fault ≡ PeerFault)) ⊎ ((o : Over) × Contains later o × (o.addr ≡ h.addr) × (o.refusal ≡ Some fault))
      by (inl (some, is)) = inl (omega (arith, some, le), is)
      by (inr (o, among, at, is)) = inr (o, stay o among, at, is)

  pub caused_stay : (peers : List (Peer Client)) → AreCaused setup a overs missed peers → AreCaused setup b later more peers
  caused_stay peers all peer fault is = refused_on peer fault (all peer fault is)

  -- where one peer changed
  module _ (old new : List (Peer Client)) (at : ℕ) (size : length new ≡ length old) (others : OthersStay old new at) (was : AreCounted setup a overs missed old) where
    caused_on : ((fault : FetchFault) → slice_get new at ≡ Some (kinds.Refused fault) → IsRefusedFor setup b later more at fault) → AreCaused setup b later more new
    caused_on mine peer fault is = elim (cases_eq peer at) [
      | inl e ↦
          subst (λ (n : ℕ). IsRefusedFor setup b later more n fault) (sym e)
          (mine fault (subst (λ (n : ℕ). slice_get new n ≡ Some (kinds.Refused fault)) e is))
      | inr ne ↦ refused_on peer fault (was.0 peer fault (sym (others peer ne) ∙ is))
    ]

    -- which isn't refused
    pub counted_same : missed + spoilt_count overs ≤ more + spoilt_count later → ((fault : FetchFault) → slice_get new at ≡ Some (kinds.Refused fault) → ⊥)
        → AreCounted setup b later more new
    counted_same few not =
        let less = refused_same old new at size others not in
        let number = was.1 in
        (caused_on (λ fault is. absurd (not fault is)), omega (arith, less, number, few))

    -- which is, with a cause
    pub counted_more : missed + spoilt_count overs + 1 ≤ more + spoilt_count later
        → ((fault : FetchFault) → slice_get new at ≡ Some (kinds.Refused fault) → IsRefusedFor setup b later more at fault) → AreCounted setup b later more new
    counted_more few mine =
        let most = refused_most old new at size others in
        let number = was.1 in
        (caused_on mine, omega (arith, most, number, few))
