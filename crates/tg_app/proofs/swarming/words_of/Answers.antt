use Rattle.std.proofs.Common.{[], ap, arith, refl, subst, sym, ◌++◌, ◌+◌, ◌∙◌, ◌∷◌, ◌≡◌}
use Rattle.tg_app.proofs.Peers.{AreWordsTo, all_words, none_at, none_more, one_more, some_at}
use Rattle.tg_app.specs.Swarms.{fetch_word}
use Rattle.tg_bytes.specs.Ascii.{space}
use Rattle.tg_app.proofs.swarming.words_of.Goals.{in-Some+in_ok-push_all+in_ok-push_all-2, in_default}
use Rattle.tg_app.proofs.swarming.words_of.Goals as goal

pub loop-peer-init : goal.loop-peer-init
loop-peer-init c = (c.peer_count-peer-end.ensures, subst (AreWordsTo c.args.swarm.now.jobs.peers 0) (sym c.new-words.ensures) refl)

pub loop-peer-preserved : goal.loop-peer-preserved
loop-peer-preserved c =
    let peers = c.args.swarm.now.jobs.peers in
    let at = c.loop-peer.peer in
    elim c.match-refusal.branch [
      | in-Some+in_ok-push_all+in_ok-push_all-2 w ↦
          let fault = w.in-Some.fault in
          let is = some_at peers at c.refusal.result (omega (arith, c.loop-peer-test.true, c.loop-peer.invariant.0)) c.refusal.ensures fault w.in-Some.is in
          let put : c.match-refusal.words ≡ (c.loop-peer.words ++ (space ∷ [])) ++ fetch_word fault =
          w.words-is ∙ w.in_ok-push_all-2.ensures.ok ∙ ap (λ front. front ++ w.fetch_word.result.now) w.in_ok-push_all.ensures.ok
          ∙ ap (λ word. (c.loop-peer.words ++ (space ∷ [])) ++ word) w.fetch_word.ensures in
          (c.loop-peer.invariant.0, subst (AreWordsTo peers (at + 1)) (sym put) (one_more peers at c.loop-peer.words c.loop-peer.invariant.1 fault is))
      | in_default w ↦
          let same = none_at peers at c.refusal.result (omega (arith, c.loop-peer-test.true, c.loop-peer.invariant.0)) c.refusal.ensures w.in_default.is in
          (c.loop-peer.invariant.0, subst (AreWordsTo peers (at + 1)) (sym w.words-is) (none_more peers at c.loop-peer.words c.loop-peer.invariant.1 same))
    ]

pub returns : goal.returns
returns c = all_words c.args.swarm.now.jobs.peers c.loop-peer.peer c.loop-peer.words c.loop-peer.invariant.1 (omega (arith, c.loop-peer-test.false, c.loop-peer.invariant.0))
