use Rattle.std.proofs.Common.{◌≡◌, ◌≢◌, ℕ, List, [], ◌∷◌, ◌++◌, length, take, ap, ◌∙◌, sym, refl, arith}
use Rattle.std.proofs.Math.ListN.{set}
use Rattle.std.proofs.lemmas.Grind.{common_steps}
use Rattle.tg_streams_tests.proofs.two_way.SevensSource.take.Goals as goal

-- the one byte that was written into a buffer with room
set_first : (xs : List ℕ) (x : ℕ) → length xs ≢ 0 → take 1 (set xs 0 x) ≡ x ∷ []
set_first [] x h = absurd (h refl)
set_first (y ∷ ys) x h = refl

pub returns-clause-took : goal.returns-clause-took
returns-clause-took c =
    let room : length c.args.buf.now ≢ 0 = grind (arith, common_steps) in
    let grew : c.push_all.new.self ≡ c.args.self.now.heard ++ 7 ∷ [] = grind (arith, common_steps) in
    record {
      moved = (grew ∙ ap (λ xs. c.args.self.now.heard ++ xs) (sym (set_first c.args.buf.now 7 room)), refl);
      left = refl;
    }
