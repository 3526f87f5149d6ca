-- What is written.
use Rattle.std.specs.Prelude.{ℕ, List, [], ◌∷◌}
use Rattle.tg_cid.specs.Cid.{CidParts}
use Rattle.tg_cid.specs.Spelling.{CidBytes}
use Rattle.tg_car.specs.CarText.{HeaderText}

-- the header whose one root is the CID in its version 1 form, behind a zero byte
abbrev pub HeaderOf : CidParts → List ℕ → Type 0
HeaderOf root bytes = (name : List ℕ) × CidBytes (record root { version = 1 }) name × HeaderText ((0 ∷ name) ∷ []) bytes
