-- Links that are given back at the end.
use Rattle.std.proofs.Common.{List, None, Option, Some, [], append-nil, append_assoc, inl, inr, length, length-set, slice_get, slice_set, subst, sym, ℕ, ◌++◌, ◌<◌, ◌∙◌, ◌∷◌, ◌≡◌}
use Rattle.std.proofs.lemmas.Bool.{cases_eq}
use Rattle.std.proofs.lemmas.List.Elements.{All-nil, All-push}
use Rattle.std.proofs.lemmas.Option.{slice_get_within}
use Rattle.tg_dials.specs.Dials.{DialMeaning, IsHungUp, KeepsMissed, at_dial}
use Rattle.tg_links.specs.Links.{LinkMeaning}
use Rattle.tg_links.specs.Views.{LinkView, view_of}
use Rattle.tg_streams.specs.Streams.{SourceMeaning}
use Rattle.tg_swarming.proofs.Lists.{get_set_other, get_set_same}
use Rattle.tg_swarming.proofs.Telling.{DialledStay, over_on, overs_on, tells_back}
use Rattle.tg_swarming.specs.Rounds.{AreLeft, DialTells, HasHungUp, IsLeft, IsOver, Over, Setup, over_with}

module _ {D : Type 0} (d : DialMeaning D) (setup : Setup) (first : D) (overs : List Over) (missed : ℕ) where
  pub hung_none : (now : D) → DialTells (at_dial d first now) overs missed → HasHungUp setup (at_dial d first now) overs missed
  hung_none now tells = record {
    more = [];
    tells = subst (λ (os : List Over). DialTells (at_dial d first now) os missed) (sym (append-nil overs)) tells;
    overs_are = All-nil (IsOver setup (d.dialled first now));
  }

  pub hung_one : (b c : D) (link : LinkView) → IsLeft setup (d.dialled first b) link → IsHungUp link (at_dial d b c) → KeepsMissed (at_dial d b c) → DialledStay d b c
      → HasHungUp setup (at_dial d first b) overs missed → HasHungUp setup (at_dial d first c) overs missed
  hung_one b c link (query, limits, addr, left) hung keeps stay h =
      let o = over_with query limits addr link in
      record {
        more = h.more ++ o ∷ [];
        tells = subst (λ (os : List Over). DialTells (at_dial d first c) os missed) (append_assoc overs h.more (o ∷ []))
            (tells_back d first b c (overs ++ h.more) missed h.tells o hung keeps);
        overs_are = All-push (IsOver setup (d.dialled first c)) h.more o (overs_on setup (d.dialled first b) (d.dialled first c) (stay first) h.more h.overs_are)
            (over_on setup (d.dialled first b) (d.dialled first c) (stay first) o left);
      }

module _ {L : Type 0} (m : LinkMeaning L) (source : SourceMeaning L) (setup : Setup) (links : List (Option L)) where
  pub left_on : (old new : List ℕ → Type 0) → ((addr : List ℕ) → old addr → new addr) → AreLeft m source setup old links → AreLeft m source setup new links
  left_on old new on left peer link is =
      let (query, limits, addr, one) = left peer link is in
      (query, limits, addr, over_on setup old new on (over_with query limits addr (view_of m source link)) one)

  -- without one of them
  pub left_less : (dialled : List ℕ → Type 0) (at : ℕ) → AreLeft m source setup dialled links → AreLeft m source setup dialled (slice_set links at None)
  left_less dialled at left peer link is = elim (cases_eq peer at) [
    | inl e ↦
        let lt = slice_get_within (slice_set links at None) peer (Some link) is in
        let there = get_set_same links at None (subst (λ (n : ℕ). n < length links) e (subst (λ (n : ℕ). peer < n) (length-set links at None) lt)) in
        let here = subst (λ (n : ℕ). slice_get (slice_set links at None) n ≡ Some (Some link)) e is in
        let no : ⊥ = cc (there, here) in absurd no
    | inr ne ↦ left peer link (sym (get_set_other links at peer None ne) ∙ is)
  ]
