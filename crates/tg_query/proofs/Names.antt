-- Names of a path: the test on them says what the relation says.
use Rattle.std.proofs.Common.{All, List, length, refl, ℕ, ◌≤◌}
use Rattle.std.specs.Bool.{Decides}
use Rattle.std.specs.List.{list_all}
use Rattle.std.specs.Prelude.{nat_le}
use Rattle.std.proofs.lemmas.Bool.{le-leb, leb-true}
use Rattle.std.proofs.lemmas.Bool.Decides.{Decides-and, Decides-by_and}
use Rattle.tg_model.specs.Computed.{is_good_name}
use Rattle.tg_model.specs.EntryNames.{IsGoodName}
use Rattle.tg_query.specs.Paths.{are_names}

-- the test of a name says whether it is good: a law of tg_model
abbrev pub NameLaw : Type 0
NameLaw = (name : List ℕ) → Decides (is_good_name name) (IsGoodName name)

all_good : NameLaw → (names : List (List ℕ)) → Decides (list_all is_good_name names) (All IsGoodName names)
all_good good names = Decides-by_and is_good_name IsGoodName (λ (xs : List (List ℕ)). list_all is_good_name xs) good refl (λ _ _. refl) names

pub names_decide : NameLaw → (names : List (List ℕ)) → Decides (are_names names) (All IsGoodName names × (length names ≤ 128))
names_decide good names =
    Decides-and (list_all is_good_name names) (nat_le (length names) 128) (all_good good names) (leb-true (length names) 128, le-leb (length names) 128)
