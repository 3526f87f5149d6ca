use Rattle.std.proofs.Common.{Contains, take}
use Rattle.tg_new_tree.specs.declared.made.Made.TheVariants.{Folder as a_folder}
use Rattle.tg_new_tree.proofs.mem_new_tree.has_folder.Given as goal

-- the folder isn't among what was passed
abbrev pub invariant-loop-one : goal.invariant-loop-one
invariant-loop-one l = Contains (take l.one-index l.made) (a_folder l.path) → ⊥
