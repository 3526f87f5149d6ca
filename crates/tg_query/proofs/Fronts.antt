-- Texts that begin with a front.
use Rattle.std.proofs.Common.{List, None, Option, Some, [], ap, refl, ℕ, ◌++◌, ◌==◌, ◌∙◌, ◌∷◌, ◌≡◌}
use Rattle.std.specs.Prelude.{◌↔◌}
use Rattle.std.proofs.lemmas.Bool.{cond-true, cond_both, eq-eqb, eqb-true}
use Rattle.tg_query.specs.Cuts.{behind_front}

pub front_found : (front rest : List ℕ) → behind_front front (front ++ rest) ≡ Some rest
front_found [] rest = refl
front_found (f ∷ front) rest = cond-true (f == f) (behind_front front (front ++ rest)) None (eq-eqb f f refl) ∙ front_found front rest

pub front_told : (front text rest : List ℕ) → behind_front front text ≡ Some rest → text ≡ front ++ rest
front_told [] text rest = λ e. cc
front_told (f ∷ front) [] rest = λ e. absurd cc
front_told (f ∷ front) (b ∷ text) rest =
    cond_both (b == f) (behind_front front text) None (λ (o : Option (List ℕ)). o ≡ Some rest → b ∷ text ≡ f ∷ (front ++ rest))
    (λ t e.
    let first : b ≡ f = eqb-true b f t in
    let more : text ≡ front ++ rest = front_told front text rest e in
    cc)
    (λ c e. absurd cc)

pub front_law : (front text rest : List ℕ) → (behind_front front text ≡ Some rest) ↔ (text ≡ front ++ rest)
front_law front text rest = (front_told front text rest, λ e. ap (behind_front front) e ∙ front_found front rest)
