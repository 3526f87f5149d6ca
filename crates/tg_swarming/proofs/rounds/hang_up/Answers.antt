use Rattle.std.proofs.Common.{List, None, Option, Some, ap, arith, length, length-set, slice_set, subst, sym, ℕ, ◌+◌, ◌<◌, ◌∙◌, ◌≡◌}
use Rattle.std.proofs.lemmas.Option.{slice_get_within}
use Rattle.std.specs.List.{slice_get}
use Rattle.tg_swarming.proofs.Counting.{keeps_as, keeps_both, keeps_less, none_before, open_none, open_untaken}
use Rattle.tg_swarming.proofs.Hanging.{hung_none, hung_one, left_less, left_on}
use Rattle.tg_swarming.specs.Counts.{KeepsCount, open_count}
use Rattle.tg_swarming.specs.Rounds.{AreLeft, Setup}
use Rattle.tg_swarming.proofs.rounds.hang_up.Goals as goal
use Rattle.tg_swarming.proofs.rounds.hang_up.Goals.{in-Some, in_default}

pub loop-peer-init : goal.loop-peer-init
loop-peer-init g c = record {
  number = search;
  dialled = λ first addr is. is;
  tells = λ setup first overs missed left tells. hung_none g.D.Dial.dial setup first overs missed c.args.dial.now tells;
  left = λ setup first left. left;
  count = λ n e. e;
  none = λ at link lt is. omega (arith, lt);
}

pub loop-peer-preserved : goal.loop-peer-preserved
loop-peer-preserved g c =
    let d = g.D.Dial.dial in
    let m = g.D.Link.Link.link in
    let source = g.D.Link.Source.source in
    let so = c.loop-peer.invariant in
    let links = c.take_link.ensures.links in
    let less : (setup : Setup) (dialled : List ℕ → Type 0) → AreLeft m source setup dialled c.loop-peer.lines → AreLeft m source setup dialled c.take_link.new.self =
    λ setup dialled left. subst (λ (ls : List (Option g.row.D-Link.Denot)). AreLeft m source setup dialled ls) (sym links)
    (left_less m source setup c.loop-peer.lines dialled c.loop-peer.peer left) in
    let none = subst (λ (ls : List (Option g.row.D-Link.Denot)). (at : ℕ) (link : g.row.D-Link.Denot) → at < c.loop-peer.peer + 1 → slice_get ls at ≡ Some (Some link) → ⊥)
    (sym links) (none_before c.loop-peer.lines c.loop-peer.peer so.none) in
    let now : (b : g.row.D.Denot) → KeepsCount d c.loop-peer.dial (open_count c.loop-peer.lines) b (open_count (slice_set c.loop-peer.lines c.loop-peer.peer None))
    → KeepsCount d c.args.dial.now (open_count c.args.lines.now) b (open_count c.take_link.new.self) =
    λ b one. keeps_as d c.args.dial.now b (open_count c.args.lines.now) (open_count (slice_set c.loop-peer.lines c.loop-peer.peer None)) (open_count c.take_link.new.self)
    (ap open_count links) (keeps_both d c.args.dial.now c.loop-peer.dial b (open_count c.args.lines.now) (open_count c.loop-peer.lines) (open_count (slice_set c.loop-peer.lines c.loop-peer.peer None)) so.count one) in
    elim c.match-take_link.branch [
      | in-Some w ↦ rw w.dial-is (record {
        number = ap length links ∙ length-set _ _ _ ∙ so.number;
        dialled = λ first addr is. w.done.ensures.address first addr (so.dialled first addr is);
        tells = λ setup first overs missed left tells.
            hung_one d setup first overs missed c.loop-peer.dial w.done.new.self _
            (so.left setup first left c.loop-peer.peer w.in-Some.link (c.take_link.ensures.taken ∙ ap Some w.in-Some.is))
            w.done.ensures.done w.done.ensures.missed w.done.ensures.address (so.tells setup first overs missed left tells);
        left = λ setup first left. less setup (d.dialled first w.done.new.self)
            (left_on m source setup c.loop-peer.lines (d.dialled first c.loop-peer.dial) (d.dialled first w.done.new.self) (w.done.ensures.address first)
            (so.left setup first left));
        count = now w.done.new.self (keeps_less d c.loop-peer.dial w.done.new.self c.loop-peer.lines c.loop-peer.peer w.in-Some.link
            (c.take_link.ensures.taken ∙ ap Some w.in-Some.is) _ w.done.ensures.done w.done.ensures.coming);
        none = none;
      })
      | in_default w ↦ rw w.dial-is (record {
        number = ap length links ∙ length-set _ _ _ ∙ so.number;
        dialled = so.dialled;
        tells = so.tells;
        left = λ setup first left. less setup (d.dialled first c.loop-peer.dial) (so.left setup first left);
        count = now c.loop-peer.dial (keeps_as d c.loop-peer.dial c.loop-peer.dial _ (open_count c.loop-peer.lines) _
            (open_untaken c.loop-peer.lines c.loop-peer.peer c.take_link.result c.take_link.ensures.taken w.in_default.not-Some) (λ n e. e));
        none = none;
      })
    ]

pub returns-clause-count : goal.returns-clause-count
returns-clause-count g c = c.loop-peer.invariant.count

pub returns-clause-none : goal.returns-clause-none
returns-clause-none g c =
    let so = c.loop-peer.invariant in
    let end = c.loop-peer-test.false in
    let size = c.len-peer-end.ensures in
    let view = ap length c.lines.view_is in
    let number = so.number in
    open_none c.loop-peer.lines (λ at link is.
    let lt = slice_get_within c.loop-peer.lines at (Some link) is in
    so.none at link (omega (arith, end, size, view, number, lt)) is)
