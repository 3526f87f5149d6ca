-- What was made of a tree by now.
use Rattle.std.specs.Prelude.{List, [], ◌++◌, ◌∷◌}
use Rattle.tg_new_tree.specs.Noted.{added_last}
use Rattle.tg_new_tree.specs.declared.made.Made.{Made}
use Rattle.tg_new_tree.specs.declared.made.Made.TheVariants.{File, Folder}
use Rattle.tg_new_tree.specs.declared.noted.Now.{Now}
use Rattle.tg_new_tree.specs.declared.noted.Now.TheVariants as nows

-- what was made by now
abbrev pub made_now : Now → List Made
made_now nows.Nothing = []
made_now (nows.Folder before path) = before.now.made ++ Folder path.now ∷ []
made_now (nows.File before path) = before.now.made ++ File path.now [] ∷ []
made_now (nows.More before bytes) = added_last before.now.made bytes.now
