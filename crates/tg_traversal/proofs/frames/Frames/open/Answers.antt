use Rattle.std.proofs.Common.{refl, rules, sym, ◌++◌, ◌∙◌}
use Rattle.tg_traversal.specs.Left.{missed_tasks, wanted_at}
use Rattle.tg_traversal.proofs.FewerBlocks.{fewer_left, fewer_read}
use Rattle.tg_traversal.proofs.Opened.{read_there}
use Rattle.tg_traversal.proofs.OpenedPlaces.{not_block, parted_on_path, parted_one, stepped_left, terminal_left}
use Rattle.tg_traversal.proofs.frames.Frames.open.Goals as goal

pub step_from-stepped-requires-clause-read : goal.step_from-stepped-requires-clause-read
step_from-stepped-requires-clause-read c = (
  c.requires.here.1,
  c.requires.here.2,
  read_there c.self.inside.query c.in-Segment.position (sym c.take.ensures.value ∙ c.in-Some.is) c.self.view_is c.self.invariant.1 c.in-Segment.is refl c.requires.here.3,
)

pub node_frame-requires-in-Node-clause-read : goal.node_frame-requires-in-Node-clause-read
node_frame-requires-in-Node-clause-read c = (
  c.requires.here.1,
  c.requires.here.2,
  read_there c.self.inside.query c.in-Node.position (sym c.take.ensures.value ∙ c.in-Some.is) c.self.view_is c.self.invariant.1 c.in-Node.is refl c.requires.here.3,
  c.requires.here.4,
)

pub returns-in_ok-frame-in-Terminal-clause-opened : goal.returns-in_ok-frame-in-Terminal-clause-opened
returns-in_ok-frame-in-Terminal-clause-opened c =
    terminal_left c.self.inside.query c.self.inside.wanted c.take.new.self c.in-Some.field-0 c.self.inside.missed c.self.inside.stack c.push.new.self c.args.self.now
    c.in_ok-reach-in-Terminal.reach _ c.push.result c.args.found c.args.block.now (sym c.take.ensures.value ∙ c.in-Some.is) c.take.ensures.after c.in-Terminal.is c.self.invariant.0 (not_block _ c.scope.result c.is_block.result c.scope.ensures c.is_block.ensures c.if-is_block.false) c.self.view_is
    c.in_ok-reach-in-Terminal.ensures c.in_ok-frame-in-Terminal.ensures.tasks c.push.ensures.ok

pub invariant_of-self : goal.invariant_of-self
invariant_of-self c =
    let read = read_there c.self.inside.query c.in-Segment.position (sym c.take.ensures.value ∙ c.in-Some.is) c.self.view_is c.self.invariant.1 c.in-Segment.is refl c.requires.here.3 in (
      parted_one c.step_from-stepped.result c.parted-wanted.result.0 c.parted-wanted.result.1 c.parted-wanted.ensures,
      parted_on_path c.self.inside.query c.in-Segment.index c.in-Segment.position c.in-Some.field-0.depth c.requires.here.1 c.requires.here.2 c.step_from-stepped.result
          c.parted-wanted.result.0 c.parted-wanted.result.1 (c.step_from-stepped.ensures c.requires.here.1 c.requires.here.2 read) c.parted-wanted.ensures,
    )

pub returns-in-Segment-clause-opened : goal.returns-in-Segment-clause-opened
returns-in-Segment-clause-opened c at section kind here is =
    let wanted_is = sym c.take.ensures.value ∙ c.in-Some.is in
    stepped_left c.self.inside.query c.self.inside.wanted c.in-Some.field-0 c.in-Segment.index c.in-Segment.position c.self.inside.missed c.self.inside.stack c.args.self.now
    c.step_from-stepped.result c.parted-wanted.result.0 c.parted-wanted.result.1 c.args.found
    wanted_is c.in-Segment.is c.self.invariant.0 c.self.view_is c.step_from-stepped.ensures c.parted-wanted.ensures
    (λ at section kind here. read_there c.self.inside.query c.in-Segment.position wanted_is c.self.view_is c.self.invariant.1 c.in-Segment.is refl here) at section kind here

pub returns-in_ok-frame-in-Node-clause-opened : goal.returns-in_ok-frame-in-Node-clause-opened
returns-in_ok-frame-in-Node-clause-opened c = search rules

pub returns-then-is_block-clause-opened : goal.returns-then-is_block-clause-opened
returns-then-is_block-clause-opened c = search rules

pub returns-in_ok-frame-in-Node-clause-fewer : goal.returns-in_ok-frame-in-Node-clause-fewer
returns-in_ok-frame-in-Node-clause-fewer c =
    fewer_left c.args.self.now
    (record { query = c.self.inside.query; wanted = wanted_at c.self.inside.query.path c.take.new.self; later = missed_tasks c.self.inside.missed ++ c.push-in-Node.new.self })
    c.args.found c.push-in-Node.result c.link_count-links.result c.link_count-links.ensures.count c.link_count-links.ensures.few c.requires.here.0 c.requires.here.1 c.requires.here.2 c.requires.here.3
    (returns-in_ok-frame-in-Node-clause-opened c c.requires.here.0 c.requires.here.1 c.requires.here.2 c.requires.here.3 c.requires.here.4)

pub returns-in_ok-frame-in-Terminal-clause-fewer : goal.returns-in_ok-frame-in-Terminal-clause-fewer
returns-in_ok-frame-in-Terminal-clause-fewer c =
    fewer_left c.args.self.now
    (record { query = c.self.inside.query; wanted = wanted_at c.self.inside.query.path c.take.new.self; later = missed_tasks c.self.inside.missed ++ c.push.new.self })
    c.args.found c.push.result c.link_count-links.result c.link_count-links.ensures.count c.link_count-links.ensures.few c.requires.here.0 c.requires.here.1 c.requires.here.2 c.requires.here.3
    (returns-in_ok-frame-in-Terminal-clause-opened c c.requires.here.0 c.requires.here.1 c.requires.here.2 c.requires.here.3 c.requires.here.4)

pub returns-then-is_block-clause-fewer : goal.returns-then-is_block-clause-fewer
returns-then-is_block-clause-fewer c =
    fewer_read c.args.self.now
    (record { query = c.self.inside.query; wanted = wanted_at c.self.inside.query.path c.take.new.self; later = missed_tasks c.self.inside.missed ++ c.self.inside.stack })
    c.args.found c.link_count-links.result c.link_count-links.ensures.count c.link_count-links.ensures.few c.requires.here.0 c.requires.here.1 c.requires.here.2 c.requires.here.3
    (returns-then-is_block-clause-opened c c.requires.here.0 c.requires.here.1 c.requires.here.2 c.requires.here.3 c.requires.here.4)

pub returns-in-Segment-clause-fewer : goal.returns-in-Segment-clause-fewer
returns-in-Segment-clause-fewer c =
    fewer_read c.args.self.now
    (record { query = c.self.inside.query; wanted = wanted_at c.self.inside.query.path c.parted-wanted.result.0; later = missed_tasks c.parted-wanted.result.1 ++ c.self.inside.stack })
    c.args.found c.link_count-links.result c.link_count-links.ensures.count c.link_count-links.ensures.few c.requires.here.0 c.requires.here.1 c.requires.here.2 c.requires.here.3
    (returns-in-Segment-clause-opened c c.requires.here.0 c.requires.here.1 c.requires.here.2 c.requires.here.3 c.requires.here.4)
