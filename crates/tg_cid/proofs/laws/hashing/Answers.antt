use Rattle.std.proofs.Common.{◌≡◌, refl}
use Rattle.tg_cid.proofs.laws.hashing.Goals as goal

pub returns : goal.returns
returns c = λ a b h. let e : a ≡ b = (c.equality.ensures a b).0 h in rw e refl
