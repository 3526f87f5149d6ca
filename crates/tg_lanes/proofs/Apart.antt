-- A lane that wasn't broken has written the replies to its own bytes.
use Rattle.std.proofs.Common.{◌≡◌, ℕ, Option, Some, None, List, ◌⊎◌, take, inl, inr, refl, sym, ap, ◌∙◌}
use Rattle.tg_gateway.specs.Laws.{SessionsStandInFull}
use Rattle.tg_gateway.specs.declared.fault.GatewayFault.{GatewayFault}
use Rattle.tg_gateway.specs.declared.fault.GatewayFault.TheVariants as faults
use Rattle.tg_lanes.proofs.Replies.{fails_by}
use Rattle.tg_lanes.specs.History.{Fed, HasRisen, HasStoreRisen, WritesBy, fed_in, own_of, written_in}
use Rattle.tg_lanes.specs.Laws.{BreaksByItsOwn, IsUnbrokenBy, LaneWritesReplies, LanesAreApart, LanesDifferByTheirOwn}
use Rattle.tg_model.specs.Stores.{Store}
use Rattle.tg_reply.specs.Sent.{Sent}
use Rattle.tg_reply.specs.SentLaws.{FailedAreCounted, SentAsReplies}
use Rattle.tg_reply.specs.Sessions.{SessionState}
use Rattle.tg_reply.specs.Written.{replies_for}

by_refused : SentAsReplies → SessionsStandInFull → (store : Store) (refused : Option GatewayFault) (session : SessionState) (since now : ℕ) (own : List Fed) (sent : List Sent)
    → WritesBy refused session (Some store) since now own sent → IsUnbrokenBy refused session
    → written_in own ≡ replies_for store (take session.most (fed_in own))
by_refused as_replies in_full store None session since now own sent h none =
    let all = in_full session (Some store) (fed_in own) sent since now h.stands in
    h.written_is ∙ (as_replies store _ all.0 sent all.1 (sym h.stands.numbers.failed_are ∙ none)).1
by_refused as_replies in_full store (Some (faults.Limit number)) session since now own sent h none =
    h.written_is
    ∙ (as_replies store (take number (fed_in own)) h.up_to.rest sent h.up_to.sent_is (sym h.up_to.numbers.failed_are ∙ none)).1
    ∙ ap (λ (n : ℕ). replies_for store (take n (fed_in own))) h.up_to.number_is
by_refused as_replies in_full store (Some faults.LinkFault) session since now own sent h none = absurd none
by_refused as_replies in_full store (Some faults.OutOfMemory) session since now own sent h none = absurd none

pub lane_writes : SentAsReplies → SessionsStandInFull → LaneWritesReplies
lane_writes as_replies in_full store session since now own h unbroken =
    by_refused as_replies in_full store session.refused session.state since now own h.sent h.writes unbroken

-- any other
broken_by : (store : Store) (refused : Option GatewayFault) (session : SessionState) (since now : ℕ) (own : List Fed) (sent : List Sent)
    → WritesBy refused session (Some store) since now own sent → (session.failed ≡ 0) ⊎ HasStoreRisen own
    → IsUnbrokenBy refused session ⊎ (HasRisen own ⊎ (refused ≡ Some faults.OutOfMemory))
broken_by store None session since now own sent h (inl e) = inl e
broken_by store None session since now own sent h (inr r) = inr (inl (inl r))
broken_by store (Some (faults.Limit number)) session since now own sent h (inl e) = inl e
broken_by store (Some (faults.Limit number)) session since now own sent h (inr r) = inr (inl (inl r))
broken_by store (Some faults.LinkFault) session since now own sent h f = inr (inl (inr h.1))
broken_by store (Some faults.OutOfMemory) session since now own sent h f = inr (inr refl)

pub breaks_by : FailedAreCounted → BreaksByItsOwn
breaks_by counted store session since now own h =
    broken_by store session.refused session.state since now own h.sent h.writes (fails_by counted store session since now own h)

pub lanes_apart : SentAsReplies → SessionsStandInFull → LanesAreApart
lanes_apart as_replies in_full store one other since now begun later moves others lane a b h k at beside most same ua ub =
    lane_writes as_replies in_full store a _ now (own_of lane moves) (h lane a at) ua
    ∙ ap (λ (n : ℕ). replies_for store (take n (fed_in (own_of lane moves)))) most
    ∙ ap (λ (l : List ℕ). replies_for store (take b.state.most l)) same
    ∙ sym (lane_writes as_replies in_full store b _ later (own_of lane others) (k lane b beside) ub)

pub lanes_differ : SentAsReplies → SessionsStandInFull → FailedAreCounted → LanesDifferByTheirOwn
lanes_differ as_replies in_full counted store one other since now begun later moves others lane a b h k at beside most same =
    elim (breaks_by counted store a _ now (own_of lane moves) (h lane a at)) [
      | inl ua ↦
          elim (breaks_by counted store b _ later (own_of lane others) (k lane b beside)) [
            | inl ub ↦
                inl
                (lanes_apart as_replies in_full store one other since now begun later moves others lane a b h k at beside most same ua ub)
            | inr failed ↦ inr (inr failed)
          ]
      | inr failed ↦ inr (inl failed)
    ]
