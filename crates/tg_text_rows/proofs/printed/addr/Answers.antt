use Rattle.std.proofs.Common.{All, List, [], ◌∷◌, arith, codes, refl, true, ℕ, ◌≡◌, ◌≤◌}
use Rattle.std.specs.List.{list_all}
use Rattle.std.specs.Prelude.{nat_le, ◌&&◌}
use Rattle.std.proofs.lemmas.Bool.{and_parts, leb-true}
use Rattle.std.proofs.lemmas.List.Elements.{All-cons, All-nil}
use Rattle.tg_text_rows.proofs.printed.addr.Goals as goal

visible : (bytes : List ℕ) → list_all (λ b. nat_le 33 b && nat_le b 126) bytes ≡ true → All (λ (b : ℕ). (33 ≤ b) × (b ≤ 126)) bytes
visible [] t = All-nil (λ (b : ℕ). (33 ≤ b) × (b ≤ 126))
visible (b ∷ bytes) t =
    let both = and_parts (nat_le 33 b && nat_le b 126) (list_all (λ b. nat_le 33 b && nat_le b 126) bytes) t in
    let ends = and_parts (nat_le 33 b) (nat_le b 126) both.0 in
    All-cons (λ (b : ℕ). (33 ≤ b) × (b ≤ 126)) b bytes (leb-true 33 b ends.0, leb-true b 126 ends.1) (visible bytes both.1)

pub returns : goal.returns
returns c = record {
  few = omega arith;
  enough = omega arith;
  visible = visible (codes "localhost:8080") refl;
  host = codes "localhost";
  port = codes "8080";
  whole = refl;
  digits = (omega arith, (omega arith, (omega arith, (omega arith, (omega arith, tt)))));
  at_most_five = omega arith;
  not_zero = omega arith;
  fits = omega arith;
}
