-- A test that holds of each number below a size, by computing.
use Rattle.std.proofs.Common.{ℕ, ◌<◌, true, subst, ◌≡◌, ◌∙◌, arith, zero-add, Bool}
use Rattle.std.specs.List.{list_all, range_with_len}
use Rattle.std.proofs.lemmas.List.Elements.{All-get_or}
use Rattle.std.proofs.lemmas.List.FromFn.{get_or-range_with_len, length-range_with_len}
use Rattle.std.proofs.lemmas.List.Sums.{AllPass-from_list_all}

pub by_table : (test : ℕ → Bool) (size : ℕ) → list_all test (range_with_len 0 size) ≡ true → (b : ℕ) → b < size
    → test b ≡ true
by_table test size all b below =
    let numbers = range_with_len 0 size in
    subst (λ (n : ℕ). test n ≡ true) (get_or-range_with_len 0 size b 0 below ∙ zero-add b)
    (All-get_or (λ (n : ℕ). test n ≡ true) numbers b 0 (omega (arith, length-range_with_len 0 size)) (AllPass-from_list_all test numbers all))
