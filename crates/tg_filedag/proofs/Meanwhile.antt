-- The forest of a file while sections are kept.
use Rattle.std.specs.Prelude.{List, ℕ, ◌++◌}
use Rattle.tg_filedag.proofs.Closings.{IsOpen}
use Rattle.tg_filedag.specs.State.{IsGrowing}
use Rattle.tg_filedag.specs.declared.subtree.Subtree.{Subtree}
use Rattle.tg_model.specs.Dag.{Section}
use Rattle.tg_model.specs.Stores.{KeepMeaning, kept_in}
use Rattle.tg_node_writing.specs.Keeping.{Keeps}

-- sections were kept since then, and the subtrees stand for them too
pub record Raised {S : Type 0} (m : KeepMeaning S) (before now : S) (width : ℕ) (subtrees : List Subtree) (chunks : List (List ℕ)) (kept : List Section) : Type 0 where
  pub sections : List Section
  pub keeps : Keeps sections (kept_in m before now)
  pub forest : IsGrowing width subtrees chunks (kept ++ sections)

pub record Closed {S : Type 0} (m : KeepMeaning S) (before now : S) (width : ℕ) (subtrees : List Subtree) (chunks : List (List ℕ)) (kept : List Section) : Type 0 where
  pub sections : List Section
  pub keeps : Keeps sections (kept_in m before now)
  pub forest : IsOpen width subtrees chunks (kept ++ sections)
