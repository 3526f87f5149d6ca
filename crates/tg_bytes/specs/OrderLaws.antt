-- What holds of the order of bytes.
use Rattle.std.proofs.Common.{◌≡◌, ◌≢◌, ℕ, false, List, refl, sym, ap, ◌∙◌}
use Rattle.std.proofs.lemmas.Map.Lookups.{exact_bytes}
use Rattle.std.specs.Cmp.Lexicographic.{nat_list_cmp_total}
use Rattle.std.specs.Ordering.{is_lt, ordering_reverse}
use Rattle.std.specs.declared.cmp.Ordering.{Ordering}
use Rattle.std.specs.declared.cmp.Ordering.TheVariants.{Less, Equal, Greater}
use Rattle.tg_bytes.specs.Order.{bytes_cmp}

-- bytes that come before others aren't theirs
pub less_apart : (a b : List ℕ) → bytes_cmp a b ≡ Less → a ≢ b
less_apart a b less same =
    let turned : bytes_cmp a a ≡ Less = ap (bytes_cmp a) same ∙ less in
    let other : Less ≡ Greater = sym turned ∙ nat_list_cmp_total.antisymm a a ∙ ap ordering_reverse turned in
    absurd (cc)

-- where one neither comes before the other nor is equal, the other comes before it
pub reversed : (o r : Ordering) → is_lt o ≡ false → (o ≡ Equal → ⊥) → r ≡ ordering_reverse o → r ≡ Less
reversed Less r not_less differ is = absurd (cc)
reversed Equal r not_less differ is = absurd (differ refl)
reversed Greater r not_less differ is = is

-- of two that differ, the second is below the first, where the first isn't below the second
pub other_way : (a b : List ℕ) → a ≢ b → is_lt (bytes_cmp a b) ≡ false → bytes_cmp b a ≡ Less
other_way a b differ not_less = reversed (bytes_cmp a b) (bytes_cmp b a) not_less (λ e. differ (exact_bytes a b e)) (nat_list_cmp_total.antisymm b a)
