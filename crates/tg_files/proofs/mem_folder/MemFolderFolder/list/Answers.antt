use Rattle.std.proofs.Common.{rules, ◌≡◌, Some, IfOk, [], ap, subst}
use Rattle.std.specs.Option.{MatchOption}
use Rattle.tg_tree.specs.Tree.{NamesDiffer, items_of, tree_at}
use Rattle.tg_files.proofs.Places.{listed_lead}
use Rattle.tg_files.proofs.mem_folder.MemFolderFolder.list.Goals as goal

pub returns-clause-leads : goal.returns-clause-leads
returns-clause-leads c =
    let listed : IfOk c.match-at.result (λ items. MatchOption (tree_at (Some c.args.self.now.tree) c.args.path.now) (items ≡ []) (λ found. items ≡ items_of found)) = search rules in
    let differ : NamesDiffer c.args.self.now.tree = subst NamesDiffer (ap (λ f. f.tree) c.self.view_is) c.self.invariant.1 in
    listed_lead c.args.self.now.tree c.args.path.now c.match-at.result differ listed
