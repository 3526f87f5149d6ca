use Rattle.std.proofs.Common.{◌+◌, subst}
use Rattle.tg_traversal.proofs.Reaches.{basic_kind, basic_tasks, file_here, file_kind, file_tasks}
use Rattle.tg_traversal.specs.Frames.{children_left}
use Rattle.tg_traversal.specs.Places.{reach_of, standing_of}
use Rattle.tg_model.specs.Placed.{StandsForKind}
use Rattle.tg_model.specs.declared.placed.PlacedKind.{PlacedKind}
use Rattle.tg_traversal.proofs.opening.node_frame.Goals as goal

pub parts_left-requires : goal.parts_left-requires
parts_left-requires c =
    let section = c.requires.read.0 in
    let kind = c.requires.read.1 in
    let file = file_kind section.block c.in-File.places kind (subst (λ (found : PlacedKind). StandsForKind section.block found kind) c.in-File.is c.requires.read.2.stands) in
    (file.inline, file.filesize, file.parts, file_here section c.in-File.places c.args.block.now kind c.requires.read.2.reads file c.requires.read.3)

pub returns-in_ok-children-in-File-clause-tasks : goal.returns-in_ok-children-in-File-clause-tasks
returns-in_ok-children-in-File-clause-tasks c = λ section kind read is.
    let file = file_kind section.block c.in-File.places kind (subst (λ (found : PlacedKind). StandsForKind section.block found kind) c.in-File.is read.stands) in
    file_tasks (reach_of c.args.reach) (standing_of c.args.position) c.args.depth kind file.inline file.filesize file.parts
    (children_left (c.args.depth + 1) c.in_ok-children-in-File.children) c.is_bundled-line.result file.kind_is
    (c.in_ok-children-in-File.ensures.tasks (c.args.depth + 1) file.inline file.filesize file.parts (file_here section c.in-File.places c.args.block.now kind read.reads file is))
    c.is_bundled-line.ensures

pub returns-in-Basic-clause-tasks : goal.returns-in-Basic-clause-tasks
returns-in-Basic-clause-tasks c = λ section kind read is.
    basic_tasks (reach_of c.args.reach) (standing_of c.args.position) c.args.depth kind c.in-Basic.entries (children_left (c.args.depth + 1) c.entries_left.result)
    (basic_kind section.block c.in-Basic.entries kind (subst (λ (found : PlacedKind). StandsForKind section.block found kind) c.in-Basic.is read.stands))
    (c.entries_left.ensures.tasks (c.args.depth + 1))
