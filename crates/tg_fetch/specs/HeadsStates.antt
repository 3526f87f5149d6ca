-- What contracts see of the heads of a reply while they come.
use Rattle.std.specs.Prelude.{List, ℕ}

-- how many interim heads came, and the bytes of the head that isn't whole
pub record HeadsState : Type 0 where
  pub interims : ℕ
  pub came : List ℕ
