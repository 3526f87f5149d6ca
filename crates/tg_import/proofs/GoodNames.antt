-- What the test of a name gives of the name of an item.
use Rattle.std.proofs.Common.{sym, subst, ◌∙◌, ◌≡◌, ℕ, Bool, true, false, List}
use Rattle.std.specs.Bool.{Decides}
use Rattle.tg_model.specs.Computed.{is_good_name}
use Rattle.tg_model.specs.EntryNames.{IsGoodName}

pub is_good : (slice name : List ℕ) (r : Bool) → Decides (is_good_name slice) (IsGoodName slice)
    → slice ≡ name → r ≡ is_good_name slice → r ≡ true → IsGoodName name
is_good slice name r law same is passes = subst IsGoodName same (law.0 (sym is ∙ passes))

pub not_good : (slice name : List ℕ) (r : Bool) → Decides (is_good_name slice) (IsGoodName slice)
    → slice ≡ name → r ≡ is_good_name slice → r ≡ false → IsGoodName name → ⊥
not_good slice name r law same is fails good =
    let passes : is_good_name slice ≡ true = law.1 (subst IsGoodName (sym same) good) in
    absurd (cc)
