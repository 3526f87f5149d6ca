-- The three parts, and what is left of the zeros.
use Rattle.std.proofs.Common.{◌≡◌, ℕ, ◌+◌, ◌-◌, ◌<◌, List, ◌++◌, length, take, drop, replicate, append_assoc, sym, ap, ◌∙◌, arith}
use Rattle.std.proofs.lemmas.List.{drop_at, drop-replicate, length-append, take_at}
use Rattle.std.proofs.lemmas.List.Elements.{All-from_get_or}
use Rattle.tg_cid.proofs.room.in_longest.Goals as goal

whole : (a b d tail : List ℕ) → a ++ (b ++ (d ++ tail)) ≡ (a ++ (b ++ d)) ++ tail
whole a b d tail = sym (append_assoc a (b ++ d) tail ∙ ap (λ (l : List ℕ). a ++ l) (append_assoc b d tail))

long : (a b d : List ℕ) → length (a ++ (b ++ d)) ≡ length a + length b + length d
long a b d = omega (arith, length-append a (b ++ d), length-append b d)

zeros : (a b d : ℕ) → drop d (drop b (drop a (replicate {A = ℕ} 133 0))) ≡ replicate {A = ℕ} (133 - (a + b + d)) 0
zeros a b d =
    let few : 133 - a - b - d ≡ 133 - (a + b + d) = omega arith in
    ap (λ (l : List ℕ). drop d (drop b l)) (drop-replicate a 133 0)
    ∙ ap (λ (l : List ℕ). drop d l) (drop-replicate b (133 - a) 0)
    ∙ drop-replicate d (133 - a - b) 0
    ∙ ap (λ (n : ℕ). replicate {A = ℕ} n 0) few

pub returns-clause-front : goal.returns-clause-front
returns-clause-front c =
    let codes = c.args.codes.now in
    let size = c.args.size.now in
    let digest = c.args.digest.now in
    let n = length codes + length size + length digest in
    ap (λ (l : List ℕ). take n l) (c.fill_parts.ensures ∙ whole codes size digest _)
    ∙ take_at (codes ++ (size ++ digest)) _ n (long codes size digest)

pub returns-clause-rest : goal.returns-clause-rest
returns-clause-rest c =
    let codes = c.args.codes.now in
    let size = c.args.size.now in
    let digest = c.args.digest.now in
    let n = length codes + length size + length digest in
    ap (λ (l : List ℕ). drop n l) (c.fill_parts.ensures ∙ whole codes size digest _)
    ∙ drop_at (codes ++ (size ++ digest)) _ n (long codes size digest)
    ∙ zeros (length codes) (length size) (length digest)

pub returns-clause-are_bytes : goal.returns-clause-are_bytes
returns-clause-are_bytes c = All-from_get_or (λ b. b < 256) c.args.digest.now 0 (λ i l. omega (arith, c.type_inv.digest i))
