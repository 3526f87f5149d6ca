use Rattle.std.proofs.Common.{◌∙◌}
use Rattle.tg_extract.proofs.Counting.{file_counted, folder_counted}
use Rattle.tg_extract.proofs.extract.make.Goals as goal

pub returns-in_ok-make_folder-in-Folder-clause-counts : goal.returns-in_ok-make_folder-in-Folder-clause-counts
returns-in_ok-make_folder-in-Folder-clause-counts g c =
    let m = g.T.NewTree.new_tree in
    c.folder.ensures
    ∙ folder_counted (m.made c.args.tree.now) (m.made c.make_folder.new.self) c.as_slice.result.now c.args.counts.now c.in_ok-make_folder-in-Folder.ensures.made.made c.requires

pub returns-in_ok-make_file-in-File-clause-counts : goal.returns-in_ok-make_file-in-File-clause-counts
returns-in_ok-make_file-in-File-clause-counts g c =
    let m = g.T.NewTree.new_tree in
    c.file.ensures
    ∙ file_counted (m.made c.args.tree.now) (m.made c.make_file.new.self) c.as_slice-in-File.result.now c.args.counts.now c.in_ok-make_file-in-File.ensures.made.made c.requires
