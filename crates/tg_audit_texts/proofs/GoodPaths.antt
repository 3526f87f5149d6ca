-- Names whose test holds are good.
use Rattle.std.proofs.Common.{All, Bool, Bor, List, [], ap, arith, false, length, subst, sym, true, ℕ, ◌∙◌, ◌∷◌, ◌≡◌, ◌≤◌}
use Rattle.std.proofs.lemmas.List.{length-map}
use Rattle.std.proofs.lemmas.List.Elements.{All-cons, All-nil}
use Rattle.std.specs.Bool.{Decides}
use Rattle.std.specs.List.{list_all}
use Rattle.std.specs.Prelude.{map, ◌&&◌}
use Rattle.tg_model.specs.Computed.{is_good_name}
use Rattle.tg_model.specs.EntryNames.{IsGoodName}

both : (a b : Bool) → a && b ≡ true → (a ≡ true) × (b ≡ true)
both true true h = (cc, cc)
both true false h = absurd (cc)
both false b h = absurd (cc)

abbrev pub shown : Bor (List ℕ) → List ℕ
shown name = name.now

good_names : (names : List (Bor (List ℕ))) → ((name : List ℕ) → Decides (is_good_name name) (IsGoodName name))
    → list_all (λ name. is_good_name (shown name)) names ≡ true → All IsGoodName (map shown names)
good_names [] tests h = All-nil IsGoodName
good_names (n ∷ names) tests h =
    let two = both (is_good_name n.now) (list_all (λ name. is_good_name (shown name)) names) h in
    All-cons IsGoodName n.now (map shown names) ((tests n.now).0 two.0) (good_names names tests two.1)

-- the path of names whose test holds
pub good_path : (names : List (Bor (List ℕ))) (path : List (List ℕ)) → ((name : List ℕ) → Decides (is_good_name name) (IsGoodName name))
    → list_all (λ name. is_good_name (shown name)) names ≡ true → path ≡ map shown names → All IsGoodName path
good_path names path tests h is = subst (λ (l : List (List ℕ)). All IsGoodName l) (sym is) (good_names names tests h)

pub few_names : (names : List (Bor (List ℕ))) (path : List (List ℕ)) → length names ≤ 128 → path ≡ map shown names → length path ≤ 128
few_names names path h is = let size = ap length is ∙ length-map names shown in omega arith
