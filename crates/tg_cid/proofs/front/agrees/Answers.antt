use Rattle.std.proofs.Common.{◌≡◌, ℕ, Bool, IsTrue, ◌↔◌, List, length, min, take, bytes_eq, sym, subst}
use Rattle.std.proofs.lemmas.Slice.Eq.{bytes_eq-Decides}
use Rattle.tg_cid.specs.Fewest.{Agrees}
use Rattle.tg_cid.proofs.Heads.{fronts_agree}
use Rattle.tg_cid.proofs.front.agrees.Goals as goal

told : (a b : List ℕ) (n : ℕ) → n ≡ min (length a) (length b) → IsTrue (bytes_eq (take n a) (take n b)) ↔ Agrees a b
told a b n e =
    let same = fronts_agree a b in
    let test = bytes_eq-Decides (take n a) (take n b) in (
      λ t. same.0 (subst (λ (n : ℕ). take n a ≡ take n b) e (test.0 t)),
      λ h. test.1 (subst (λ (n : ℕ). take n a ≡ take n b) (sym e) (same.1 h)),
    )

pub returns : goal.returns
returns c =
    subst (λ (t : Bool). IsTrue t ↔ Agrees c.args.bytes.now c.args.head.now) (sym c.eq.ensures)
    (told c.args.bytes.now c.args.head.now c.min-count.result c.min-count.ensures)
