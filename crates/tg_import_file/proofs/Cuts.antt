-- The chunks of a file.
use Rattle.std.proofs.Common.{◌≡◌, ◌<◌, ◌≤◌, ℕ, List, [], ◌∷◌, length, sym, subst, ◌∙◌, arith}
use Rattle.std.specs.Prelude.{true, false, ◌==◌}
use Rattle.std.proofs.lemmas.Bool.{eqb-true}
use Rattle.std.proofs.lemmas.List.{length-append, nil_from_length}
use Rattle.std.proofs.lemmas.List.Elements.{All-head, All-tail}
use Rattle.tg_bytes.specs.Lists.{joined}
use Rattle.tg_filedag.specs.Chunks.{AllFull}

-- full chunks are no more than their bytes
pub full_count : (size : ℕ) (chunks : List (List ℕ)) → 1 ≤ size → AllFull size chunks → length chunks ≤ length (joined chunks)
full_count size [] one all = omega arith
full_count size (x ∷ xs) one all =
    let P = λ (c : List ℕ). length c ≡ size in
    let first : length x ≡ size = All-head P x xs all in
    let rest = full_count size xs one (All-tail P x xs all) in
    let whole = length-append x (joined xs) in
    omega arith

-- whether bytes are empty
pub are_none : (bytes : List ℕ) → (length bytes == 0) ≡ true → bytes ≡ []
are_none bytes e = nil_from_length bytes (eqb-true (length bytes) 0 e)

are_some : (bytes : List ℕ) → (length bytes == 0) ≡ false → 0 < length bytes
are_some [] e = absurd (cc)
are_some (x ∷ xs) e = omega arith

-- bytes that aren't empty are not empty when they are told once more
pub still_some : (first again bytes : List ℕ) → first ≡ bytes → again ≡ bytes → (length first == 0) ≡ false → 0 < length again
still_some first again bytes one two test = subst (λ (l : List ℕ). 0 < length l) (one ∙ sym two) (are_some first test)
