use Rattle.std.proofs.Common.{Err, None, ap, length, map, refl, replicate, string_bytes, subst, sym, ℕ, ◌<◌, ◌∙◌}
use Rattle.std.proofs.lemmas.List.{length-map}
use Rattle.std.proofs.lemmas.Result.{err_from_is_err_and}
use Rattle.tg_swarming.proofs.Beginning.{begins, ends_over, ends_unbegun}
use Rattle.tg_swarming.proofs.Counting.{keeps_as, keeps_both, open_new}
use Rattle.tg_swarming.proofs.Serving.{ServedLaws, right, served}
use Rattle.tg_swarming.proofs.Vouching.{sound_laws, vouched}
use Rattle.tg_dials.specs.Dials.{at_dial}
use Rattle.tg_streams.specs.Streams.{into}
use Rattle.tg_swarm.specs.declared.fault.SwarmFault.TheVariants.{OutOfMemory}
use Rattle.tg_swarming.specs.Counts.{AllBack, KeepsCount, open_count}
use Rattle.tg_swarming.specs.Rounds.{HasAddrs, SwarmEnds, meanings, setup_of}
use Rattle.tg_swarming.proofs.rounds.run_swarm.Given as given
use Rattle.tg_swarming.proofs.Stepping.{new_linked, new_unended}
use Rattle.tg_swarming.proofs.rounds.run_swarm.Goals as goal

pub returns-in_err-lines-clause-ends : goal.returns-in_err-lines-clause-ends
returns-in_err-lines-clause-ends g c =
    let p = err_from_is_err_and c.from_residual.result c.from_residual.ensures.1 in
    let m = meanings g.D.Dial.dial g.D.Link.Link.link g.D.Link.Source.source g.S.Sink.sink in
    let setup = setup_of c.args.swarm.now (map string_bytes c.args.addrs.now) in
    rw (p.1, p.2)
    (subst (λ d. SwarmEnds setup c.args.swarm.now (at_dial g.D.Dial.dial d c.hurry.new.self) (into g.S.Sink.sink c.args.out.now c.args.out.now) (Err OutOfMemory)) c.hurry.ensures
    (ends_unbegun m c.args.swarm.now (map string_bytes c.args.addrs.now) c.requires.new c.hurry.new.self c.args.out.now (g.met.S.Sink.rests c.args.out.now)))

pub rounds-end-requires-clause-addrs : goal.rounds-end-requires-clause-addrs
rounds-end-requires-clause-addrs g c = c.requires.addrs

pub rounds-end-requires-clause-runs : goal.rounds-end-requires-clause-runs
rounds-end-requires-clause-runs g c =
    let addrs = map string_bytes c.args.addrs.now in
    let m = meanings g.D.Dial.dial g.D.Link.Link.link g.D.Link.Source.source g.S.Sink.sink in
    let runs = begins m c.args.swarm.now addrs c.requires.new c.hurry.new.self c.args.out.now (g.met.S.Sink.rests c.args.out.now) c.in_ok-lines.lines
    (c.in_ok-lines.ensures ∙ ap (λ n. replicate n None) (sym (length-map c.args.addrs.now string_bytes))) in
    record { setup = setup_of c.args.swarm.now addrs; first = c.hurry.new.self; start = c.args.out.now; is_which = refl; runs = runs }

pub returns-clause-ends : goal.returns-clause-ends
returns-clause-ends g c =
    let addrs = map string_bytes c.args.addrs.now in
    let m = meanings g.D.Dial.dial g.D.Link.Link.link g.D.Link.Source.source g.S.Sink.sink in
    let setup = setup_of c.args.swarm.now addrs in
    let runs = begins m c.args.swarm.now addrs c.requires.new c.hurry.new.self c.args.out.now (g.met.S.Sink.rests c.args.out.now) c.in_ok-lines.lines
    (c.in_ok-lines.ensures ∙ ap (λ n. replicate n None) (sym (length-map c.args.addrs.now string_bytes))) in
    subst (λ d. SwarmEnds setup c.rounds-end.new.swarm (at_dial g.D.Dial.dial d c.hang_up.new.dial) (into g.S.Sink.sink c.args.out.now c.rounds-end.new.out) c.rounds-end.result) c.hurry.ensures
    (ends_over m setup c.hurry.new.self c.rounds-end.new.dial c.hang_up.new.dial c.args.out.now c.rounds-end.new.out
    c.rounds-end.new.swarm c.rounds-end.new.lines c.hang_up.ensures.back c.hang_up.ensures.dialled (HasAddrs addrs) c.args.swarm.now c.in_ok-lines.lines
    c.rounds-end.result refl runs c.rounds-end.ensures.ends)

-- ---- what that says of each sound DAG, of one that is served, and of one that a peer serves

pub returns-in_err-lines-clause-sound : goal.returns-in_err-lines-clause-sound
returns-in_err-lines-clause-sound g c =
    let swarms = c.sound_swarms.ensures in
    let roots = c.accepted_roots.ensures in
    vouched (sound_laws swarms.fronts swarms.stands roots.read roots.total) _ _ _ _ _ (returns-in_err-lines-clause-ends g c) c.requires.part

served_laws : (g : given.Over) (c : goal.After-drop-lines-inside-2 g) → ServedLaws
served_laws g c =
    let swarms = c.sound_swarms.ensures in
    let roots = c.accepted_roots.ensures in
    record {
      sound = sound_laws swarms.fronts swarms.stands roots.read roots.total;
      taken = c.carried_replies.ensures.taken;
      answered = c.carried_replies.ensures.answer;
      no_peer = c.refused_replies.ensures;
      fits = c.own_sections.ensures;
      counted = c.against_every_peer.ensures.counted;
      blocks = c.own_blocks.ensures.sent;
    }

pub returns-clause-sound : goal.returns-clause-sound
returns-clause-sound g c = vouched (served_laws g c).sound _ _ _ _ _ (returns-clause-ends g c) c.requires.part

pub returns-clause-own : goal.returns-clause-own
returns-clause-own g c =
    served (served_laws g c) _ _ _ _ _ (returns-clause-ends g c) c.requires.part (subst (λ (n : ℕ). 0 < n) (sym (length-map c.args.addrs.now string_bytes)) c.requires.some)

pub returns-clause-right : goal.returns-clause-right
returns-clause-right g c = right (served_laws g c) _ _ _ _ _ (returns-clause-ends g c)

-- ---- a new one

pub rounds-end-requires-clause-unended : goal.rounds-end-requires-clause-unended
rounds-end-requires-clause-unended g c =
    new_unended c.args.swarm.now (map string_bytes c.args.addrs.now) c.requires.new
    (subst (λ (n : ℕ). 0 < n) (sym (length-map c.args.addrs.now string_bytes)) c.requires.some)

pub rounds-end-requires-clause-linked : goal.rounds-end-requires-clause-linked
rounds-end-requires-clause-linked g c =
    new_linked c.args.swarm.now (map string_bytes c.args.addrs.now) c.in_ok-lines.lines c.requires.new

-- ---- how many links there are

pub returns-in_err-lines-clause-back : goal.returns-in_err-lines-clause-back
returns-in_err-lines-clause-back g c =
    subst (λ d. AllBack (at_dial g.D.Dial.dial d c.hurry.new.self)) c.hurry.ensures (λ n e. e)

pub returns-clause-back : goal.returns-clause-back
returns-clause-back g c =
    let d = g.D.Dial.dial in
    let a = c.hurry.new.self in
    let b = c.rounds-end.new.dial in
    let z = c.hang_up.new.dial in
    let k = open_count c.rounds-end.new.lines in
    let run = keeps_both d a b z (open_count c.in_ok-lines.lines) k _ c.rounds-end.ensures.count c.hang_up.ensures.count in
    let none = open_new c.in_ok-lines.lines (length c.args.addrs.now) c.in_ok-lines.ensures in
    subst (λ old. KeepsCount d old 0 z 0) c.hurry.ensures
    (subst (λ (l : ℕ). KeepsCount d a l z 0) none (keeps_as d a z (open_count c.in_ok-lines.lines) (open_count c.hang_up.new.lines) 0 (sym c.hang_up.ensures.none) run))
