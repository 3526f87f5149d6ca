use Rattle.std.proofs.Common.{false, map, refl, rules, string_bytes, sym, true, ◌≡◌}
use denote.Enum.Bare.{same_true, sameb}
use Rattle.tg_verify.specs.contracts.verifier.Progress.{the_type}
use Rattle.std.proofs.lemmas.Result.{err_from_is_err_and}
use Rattle.tg_swarming.proofs.Counting.{keeps_both}
use Rattle.tg_swarming.proofs.Listening.{ends_whole}
use Rattle.tg_swarming.proofs.Moments.{go_both, running_on, stop_behind}
use Rattle.tg_swarming.specs.Counts.{open_count}
use Rattle.tg_swarming.specs.Rounds.{HasAddrs, meanings, moment_of}
use Rattle.tg_verify.specs.declared.verifier.Progress.{Progress}
use Rattle.tg_verify.specs.declared.verifier.Progress.TheVariants as progresses
use Rattle.tg_swarming.proofs.rounds.rounds.Goals as goal

is_done : (told : Progress) → true ≡ sameb the_type told progresses.Done → told ≡ progresses.Done
is_done told e = same_true the_type (search rules) told progresses.Done (sym e)

goes_on : (told : Progress) → false ≡ sameb the_type told progresses.Done → told ≡ progresses.More
goes_on progresses.More e = refl
goes_on progresses.Done e = absurd (let no : false ≡ true = e in cc)

pub loop-watch-init : goal.loop-watch-init
loop-watch-init g c = record {
  goes = λ setup first start is runs. runs;
  count = λ n e. e;
  unended = c.requires.unended;
  linked = c.requires.linked;
}

pub round-requires-clause-unended : goal.round-requires-clause-unended
round-requires-clause-unended g c = c.loop-watch.invariant.unended

pub round-requires-clause-linked : goal.round-requires-clause-linked
round-requires-clause-linked g c = c.loop-watch.invariant.linked

pub round-requires-clause-addrs : goal.round-requires-clause-addrs
round-requires-clause-addrs g c = c.requires.addrs

pub round-requires-clause-runs : goal.round-requires-clause-runs
round-requires-clause-runs g c =
    let m = meanings g.D.Dial.dial g.D.Link.Link.link g.D.Link.Source.source g.S.Sink.sink in
    let w = HasAddrs (map string_bytes c.args.addrs.now) in
    let x = moment_of c.args.swarm.now c.args.lines.now c.args.dial.now c.args.out.now in
    let y = moment_of c.loop-watch.swarm c.loop-watch.lines c.loop-watch.dial c.loop-watch.out in
    running_on m w x y c.requires.runs c.loop-watch.invariant.goes

pub returns-in_err-round : goal.returns-in_err-round
returns-in_err-round g c =
    let p = err_from_is_err_and c.from_residual.result c.from_residual.ensures.1 in
    let m = meanings g.D.Dial.dial g.D.Link.Link.link g.D.Link.Source.source g.S.Sink.sink in
    let w = HasAddrs (map string_bytes c.args.addrs.now) in
    let x = moment_of c.args.swarm.now c.args.lines.now c.args.dial.now c.args.out.now in
    let y = moment_of c.loop-watch.swarm c.loop-watch.lines c.loop-watch.dial c.loop-watch.out in
    let z = moment_of c.round.new.swarm c.round.new.lines c.round.new.dial c.round.new.out in
    rw (p.1, p.2) (record { ends = stop_behind m w x y z c.in_err-round.field-0.0 c.loop-watch.invariant.goes c.in_err-round.ensures.goes; count = keeps_both g.D.Dial.dial c.args.dial.now c.loop-watch.dial c.round.new.dial _ (open_count c.loop-watch.lines) _ c.loop-watch.invariant.count c.round.ensures.count })

pub returns-then-eq : goal.returns-then-eq
returns-then-eq g c =
    let m = meanings g.D.Dial.dial g.D.Link.Link.link g.D.Link.Source.source g.S.Sink.sink in
    let w = HasAddrs (map string_bytes c.args.addrs.now) in
    let x = moment_of c.args.swarm.now c.args.lines.now c.args.dial.now c.args.out.now in
    let y = moment_of c.loop-watch.swarm c.loop-watch.lines c.loop-watch.dial c.loop-watch.out in
    let z = moment_of c.round.new.swarm c.round.new.lines c.round.new.dial c.round.new.out in
    record {
      ends = λ setup first start is runs.
          ends_whole m setup first start c.round.new.swarm c.round.new.lines c.round.new.dial c.round.new.out
          (go_both m w x y z c.loop-watch.invariant.goes c.in_ok-round.ensures.goes setup first start is runs)
          (c.in_ok-round.ensures.whole (is_done c.in_ok-round.field-0 c.if-eq.ensures));
      count = keeps_both g.D.Dial.dial c.args.dial.now c.loop-watch.dial c.round.new.dial _ (open_count c.loop-watch.lines) _ c.loop-watch.invariant.count c.round.ensures.count;
    }

pub loop-watch-preserved : goal.loop-watch-preserved
loop-watch-preserved g c =
    let m = meanings g.D.Dial.dial g.D.Link.Link.link g.D.Link.Source.source g.S.Sink.sink in
    let w = HasAddrs (map string_bytes c.args.addrs.now) in
    let x = moment_of c.args.swarm.now c.args.lines.now c.args.dial.now c.args.out.now in
    let y = moment_of c.loop-watch.swarm c.loop-watch.lines c.loop-watch.dial c.loop-watch.out in
    let z = moment_of c.round.new.swarm c.round.new.lines c.round.new.dial c.round.new.out in
    record {
      goes = go_both m w x y z c.loop-watch.invariant.goes c.in_ok-round.ensures.goes;
      count = keeps_both g.D.Dial.dial c.args.dial.now c.loop-watch.dial c.round.new.dial _ (open_count c.loop-watch.lines) _ c.loop-watch.invariant.count c.round.ensures.count;
      unended = (c.in_ok-round.ensures.steps (goes_on c.in_ok-round.field-0 c.if-eq.ensures)).unended;
      linked = c.in_ok-round.ensures.linked;
    }

pub loop-watch-smaller : goal.loop-watch-smaller
loop-watch-smaller g c = (c.in_ok-round.ensures.steps (goes_on c.in_ok-round.field-0 c.if-eq.ensures)).shorter
