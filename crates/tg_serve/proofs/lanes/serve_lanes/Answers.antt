use Rattle.std.proofs.Common.{◌≡◌, None, [], ap, arith, length, refl, subst, sym, ℕ, ◌<◌, ◌∙◌}
use Rattle.std.proofs.lemmas.List.{length-replicate}
use Rattle.std.proofs.lemmas.List.Elements.{All-nil}
use Rattle.std.specs.Prelude.{List, replicate}
use Rattle.tg_gateway.specs.Sessions.{SessionView, new_session}
use Rattle.tg_lanes.specs.History.{LanesStandFor}
use Rattle.tg_serve.proofs.Runs.{looks_both}
use Rattle.tg_serve.proofs.Turning.{go_begins, go_ends, go_on_as}
use Rattle.tg_serve.proofs.Weights.{busy_replicate, free_at}
use Rattle.tg_serve.specs.Turns.{busy_in, moment_of}
use Rattle.tg_serve.proofs.lanes.serve_lanes.Goals as goal

pub loop-turns-init : goal.loop-turns-init
loop-turns-init g c =
    let told = g.B.Blocks.blocks.stored c.args.lanes.now.blocks in
    let number : length c.args.turns.links.items ≡ length c.args.lanes.now.sessions =
    ap length c.requires.free ∙ length-replicate (length c.args.lanes.now.sessions) None in
    record {
      lanes = record {
        as_many = sym number;
        some = let some = c.requires.some in omega (arith, number, some);
        most = let most = c.requires.most_lanes in omega (arith, number, most);
        counted = c.requires.idle ∙ sym (ap busy_in c.requires.free ∙ busy_replicate _ (length c.args.lanes.now.sessions));
        marked = c.requires.ready_are ∙ sym number;
        place = c.requires.place;
      };
      number = number;
      most = refl;
      goes = go_begins g.L.Door.door g.L.Link.Link.link g.L.Link.Source.source told c.args.lanes.now.most c.args.turns.left
          (g.B.Blocks.blocks.faults c.args.lanes.now.blocks) c.args.door.now c.args.lanes.now.sessions c.args.turns.links.items (length c.args.lanes.now.sessions)
          c.args.turns.happened
          (λ since now le. subst (λ (s : List SessionView). LanesStandFor s told since now []) (sym c.requires.new)
          (c.lanes_begin.ensures told (length c.args.lanes.now.sessions) c.args.lanes.now.most since now le))
          refl c.requires.free c.requires.has_happened;
      asks = λ before asked was. was;
      looked = record { cids = []; looked = record { moved = g.met.B.Blocks.rests _; stored = refl }; hashed = All-nil _ };
    }

pub loop-turns-preserved : goal.loop-turns-preserved
loop-turns-preserved g c =
    let so = c.loop-turns.invariant in
    record {
      lanes = c.turn.ensures.lanes;
      number = c.turn.ensures.number ∙ so.number;
      most = c.turn.ensures.most ∙ so.most;
      goes = (go_on_as g.L.Door.door g.L.Link.Link.link g.L.Link.Source.source (g.B.Blocks.blocks.stored c.loop-turns.lanes.blocks) (g.B.Blocks.blocks.stored c.args.lanes.now.blocks)
          c.loop-turns.lanes.most c.args.lanes.now.most
          (moment_of g.B.Blocks.blocks c.loop-turns.lanes c.loop-turns.turns.links.items c.loop-turns.turns.left c.loop-turns.turns.happened c.loop-turns.door)
          (moment_of g.B.Blocks.blocks c.turn.new.lanes c.turn.new.turns.links.items c.turn.new.turns.left c.turn.new.turns.happened c.turn.new.door)
          so.looked.looked.stored so.most c.turn.ensures.goes c.args.door.now c.args.turns.left (g.B.Blocks.blocks.faults c.args.lanes.now.blocks) so.goes).0;
      asks = λ before asked was. c.turn.ensures.asks before asked (so.asks before asked was);
      looked = looks_both g.B.Blocks.blocks _ _ _ g.met.B.Blocks.joins so.looked c.turn.ensures.looked;
    }

pub loop-turns-smaller : goal.loop-turns-smaller
loop-turns-smaller g c =
    let so = c.loop-turns.invariant in
    let less = (go_on_as g.L.Door.door g.L.Link.Link.link g.L.Link.Source.source (g.B.Blocks.blocks.stored c.loop-turns.lanes.blocks) (g.B.Blocks.blocks.stored c.args.lanes.now.blocks)
    c.loop-turns.lanes.most c.args.lanes.now.most
    (moment_of g.B.Blocks.blocks c.loop-turns.lanes c.loop-turns.turns.links.items c.loop-turns.turns.left c.loop-turns.turns.happened c.loop-turns.door)
    (moment_of g.B.Blocks.blocks c.turn.new.lanes c.turn.new.turns.links.items c.turn.new.turns.left c.turn.new.turns.happened c.turn.new.door)
    so.looked.looked.stored so.most c.turn.ensures.goes c.args.door.now c.args.turns.left (g.B.Blocks.blocks.faults c.args.lanes.now.blocks) so.goes).1 in
    rw (c.turn.ensures.most, so.most) less

pub returns-clause-serves : goal.returns-clause-serves
returns-clause-serves g c =
    let so = c.loop-turns.invariant in
    let none : c.loop-turns.turns.left ≡ 0 = let a = c.if-turns-gt0.false in omega (arith, a) in
    let idle : busy_in c.loop-turns.turns.links.items ≡ 0 = let a = c.if-turns-gt0-2.false in let b = so.lanes.counted in omega (arith, a, b) in
    go_ends g.L.Door.door g.L.Link.Link.link g.L.Link.Source.source (g.B.Blocks.blocks.stored c.args.lanes.now.blocks) c.args.lanes.now.most c.args.turns.left
    (g.B.Blocks.blocks.faults c.args.lanes.now.blocks) c.args.door.now c.loop-turns.door c.loop-turns.lanes.sessions c.loop-turns.turns.links.items
    (g.B.Blocks.blocks.faults c.loop-turns.lanes.blocks) (length c.args.lanes.now.sessions) c.loop-turns.turns.happened so.number
    (free_at c.loop-turns.turns.links.items idle) (rw none at so.goes)
