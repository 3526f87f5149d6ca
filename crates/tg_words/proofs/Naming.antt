-- What well-formed names of options give, and what a look-up among names and options finds.
use Rattle.std.proofs.Common.{◌≡◌, ◌≢◌, ℕ, suc, zero, ◌<◌, inl, inr, ◌⊎◌, List, [], ◌∷◌, length, true, false, not, Bool, refl, sym, ap, ◌∙◌, arith, true≢false}
use Rattle.std.specs.Prelude.{Contains, get_or, nat_lt, ◌==◌}
use Rattle.std.specs.List.{list_all, list_any}
use Rattle.std.specs.Str.{bytes_eq}
use Rattle.std.proofs.lemmas.Bool.{and_parts, not-true}
use Rattle.std.proofs.lemmas.List.Elements.{All-contains}
use Rattle.std.proofs.lemmas.List.Folds.{list_any-from_Any}
use Rattle.std.proofs.lemmas.List.Sums.{AllPass-from_list_all}
use Rattle.std.proofs.lemmas.Map.Views.{Contains-from_any}
use Rattle.std.proofs.lemmas.Slice.Eq.{bytes_eq-Decides}
use Rattle.tg_bytes.specs.Lists.{neither}
use Rattle.tg_words.specs.Words.{Names, are_names, is_name}
use Rattle.tg_words.proofs.Readings.{AreNames, LacksEquals}

pub first_or_later : {X : Type 0} (y x : X) (ys : List X) → Contains (y ∷ ys) x → (y ≡ x) ⊎ Contains ys x
first_or_later y x ys (zero, below, is) = inl is
first_or_later y x ys (suc k, below, is) = inr (k, omega (arith, below), is)

pub at_first : {X : Type 0} (y x : X) (ys : List X) → y ≡ x → Contains (y ∷ ys) x
at_first y x ys is = (0, omega arith, is)

pub later_too : {X : Type 0} (y x : X) (ys : List X) → Contains ys x → Contains (y ∷ ys) x
later_too y x ys (k, below, is) = (suc k, omega (arith, below), is)

pub each : {X : Type 0} (p : X → Bool) (xs : List X) (x : X) → list_all p xs ≡ true → Contains xs x → p x ≡ true
each p xs x all among = All-contains (λ x. p x ≡ true) xs x (AllPass-from_list_all p xs all) among

pub among_passes : {X : Type 0} (p : X → Bool) (xs : List X) (x : X) → Contains xs x → p x ≡ true → list_any p xs ≡ true
among_passes p xs x among passes = list_any-from_Any p xs (among.0, x, among.1, among.2, passes)

pub any_among : (ns : List (List ℕ)) (name : List ℕ) → list_any (λ n. bytes_eq n name) ns ≡ true → Contains ns name
any_among ns name e = Contains-from_any {eq = λ a b. bytes_eq b a} (λ a b same. sym ((bytes_eq-Decides b a).0 same)) name ns e

lacks_place : (x : ℕ) (xs : List ℕ) (i : ℕ) → i < suc (length xs) → (x == 61) ≡ false → LacksEquals xs → get_or (x ∷ xs) i 0 ≢ 61
lacks_place x xs zero below other later at = absurd (let bad : (61 == 61) ≡ false = ap (λ y. y == 61) (sym at) ∙ other in true≢false bad)
lacks_place x xs (suc i) below other later at = later i (omega (arith, below)) at

lacks : (text : List ℕ) → list_any (λ letter. letter == 61) text ≡ false → LacksEquals text
lacks [] none = λ i below. absurd (omega (arith, below))
lacks (x ∷ xs) none =
    let p = neither (x == 61) (list_any (λ letter. letter == 61) xs) none in
    λ i below. lacks_place x xs i below p.0 (lacks xs p.1)

some_text : (text : List ℕ) → nat_lt 0 (length text) ≡ true → text ≢ []
some_text text some none = absurd (let bad : nat_lt 0 0 ≡ true = ap (λ t. nat_lt 0 (length t)) (sym none) ∙ some in cc)

pub bytes_same : (a : List ℕ) → bytes_eq a a ≡ true
bytes_same a = (bytes_eq-Decides a a).1 refl

pub are_by : (names : Names) → are_names names ≡ true → AreNames names
are_by names e =
    let parts = and_parts (list_all is_name names.valued) _ e in
    let more = and_parts (list_all is_name names.flags) _ parts.1 in
    let name_parts = λ (name : List ℕ) (is : is_name name ≡ true). and_parts (nat_lt 0 (length name)) _ is in
    record {
      valued_some = λ name among. some_text name (name_parts name (each is_name names.valued name parts.0 among)).0;
      flags_some = λ name among. some_text name (name_parts name (each is_name names.flags name more.0 among)).0;
      valued_lack = λ name among. lacks name (not-true _ (name_parts name (each is_name names.valued name parts.0 among)).1);
      flags_lack = λ name among. lacks name (not-true _ (name_parts name (each is_name names.flags name more.0 among)).1);
      apart = λ name valued flag.
          let fails : list_any (λ n. bytes_eq n name) names.valued ≡ false = not-true _ (each (λ f. not (list_any (λ n. bytes_eq n f) names.valued)) names.flags name more.1 flag) in
          true≢false (sym (among_passes (λ n. bytes_eq n name) names.valued name valued (bytes_same name)) ∙ fails);
    }
