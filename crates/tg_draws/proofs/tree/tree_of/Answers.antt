use Rattle.std.proofs.Common.{[], codes, refl}
use Rattle.tg_draws.proofs.Trees.{drawn_differ, file_is, folder_is, one_put}
use Rattle.tg_tree.specs.declared.tree.Tree.{File, Folder}
use Rattle.tg_draws.proofs.tree.tree_of.Goals as goal

pub returns-clause-tree : goal.returns-clause-tree
returns-clause-tree c =
    let s1 = one_put (codes "big") _ (File c.args.drawn.big) _ [] _ c.new-entries.ensures.items c.in_ok-push.ensures.items c.in_ok-of.ensures in
    let s2 = one_put (codes "many") _ (Folder c.in_ok-many.many) _ _ _ s1 c.in_ok-push-2.ensures.items c.in_ok-of-2.ensures in
    let s3 = one_put (codes "empty") _ (Folder c.new.result) _ _ _ s2 c.in_ok-push-3.ensures.items c.in_ok-of-3.ensures in
    let s4 = one_put (codes "none") _ (File c.new-2.result) _ _ _ s3 c.in_ok-push-4.ensures.items c.in_ok-of-4.ensures in
    record {
      big = File c.args.drawn.big;
      many = Folder c.in_ok-many.many;
      empty = Folder c.new.result;
      none = File c.new-2.result;
      is_folder = folder_is _ _ s4;
      big_is = file_is _ _ refl;
      files = c.in_ok-many.many.items;
      files_are = c.in_ok-many.ensures;
      many_is = folder_is _ _ refl;
      empty_is = folder_is _ _ c.new.ensures.items;
      none_is = file_is _ _ c.new-2.ensures;
    }

pub returns-clause-folder : goal.returns-clause-folder
returns-clause-folder c = drawn_differ _ _ (returns-clause-tree c) c.requires
