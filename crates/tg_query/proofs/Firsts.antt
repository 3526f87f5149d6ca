-- The first of the values that elements give, an element after the other.
use Rattle.std.proofs.Common.{◌≡◌, Bool, Bor, ℕ, ◌+◌, ◌<◌, ◌≤◌, List, [], ◌∷◌, ◌++◌, Option, Some, None, get_or, length, drop, refl, sym, ap, ◌∙◌}
use Rattle.std.specs.List.{filter_map, cons_option}
use Rattle.std.specs.Prelude.{find}
use Rattle.std.specs.Option.{option_or, unwrap_or}
use Rattle.std.proofs.lemmas.List.{drop_all, drop_more, length_push}
use Rattle.std.proofs.lemmas.List.Elements.{filter_map-append}
use Rattle.std.proofs.lemmas.List.Folds.{find-append}
use Rattle.tg_http.specs.Fields.{first as first_of}
use Rattle.tg_model.specs.declared.queries.Form.{Form}
use Rattle.tg_query.specs.Cuts.{cut_at, cut_first}
use Rattle.tg_query.specs.Accepts.{first_car, first_form, first_param, form_of_range, is_car_form, param_of, params_in, ranges_of}

-- the element at n and those behind it
drop_here : (xs : List (List ℕ)) (n : ℕ) (x : List ℕ) → (n < length xs) × (x ≡ get_or xs n x) → drop n xs ≡ x ∷ drop (n + 1) xs
drop_here xs n x h = drop_more xs n x h.0 ∙ ap (λ (y : List ℕ). y ∷ drop (n + 1) xs) (sym h.1)

pub first_passed : {A : Type 0} (h : List ℕ → Option A) (xs : List (List ℕ)) (n : ℕ) (x : List ℕ) → (n < length xs) × (x ≡ get_or xs n x) → h x ≡ None
    → first_of (filter_map h (drop n xs)) ≡ first_of (filter_map h (drop (n + 1) xs))
first_passed h xs n x here none =
    ap (λ (l : List (List ℕ)). first_of (filter_map h l)) (drop_here xs n x here) ∙ ap (λ o. first_of (cons_option o (filter_map h (drop (n + 1) xs)))) none

pub first_here : {A : Type 0} (h : List ℕ → Option A) (xs : List (List ℕ)) (n : ℕ) (x : List ℕ) (v : A) → (n < length xs) × (x ≡ get_or xs n x) → h x ≡ Some v
    → first_of (filter_map h (drop n xs)) ≡ Some v
first_here h xs n x v here some =
    ap (λ (l : List (List ℕ)). first_of (filter_map h l)) (drop_here xs n x here) ∙ ap (λ o. first_of (cons_option o (filter_map h (drop (n + 1) xs)))) some

pub first_nowhere : {A : Type 0} (h : List ℕ → Option A) (xs : List (List ℕ)) (n : ℕ) → length xs ≤ n → first_of (filter_map h (drop n xs)) ≡ None
first_nowhere h xs n past = ap (λ (l : List (List ℕ)). first_of (filter_map h l)) (drop_all n xs past)

-- ---- the media ranges of fields

first_none : {A : Type 0} (xs ys : List A) → first_of xs ≡ None → first_of (xs ++ ys) ≡ first_of ys
first_none [] ys e = refl
first_none (x ∷ xs) ys e = absurd cc

first_some : {A : Type 0} (xs ys : List A) (v : A) → first_of xs ≡ Some v → first_of (xs ++ ys) ≡ Some v
first_some [] ys v e = absurd cc
first_some (x ∷ xs) ys v e = e

value_here : (values : List (List ℕ)) (i : ℕ) (value : List ℕ) → i < length values → value ≡ get_or values i value
    → ranges_of (drop i values) ≡ cut_at 44 value ++ ranges_of (drop (i + 1) values)
value_here values i value within is = ap ranges_of (drop_here values i value (within, is))

pub form_passed : (values : List (List ℕ)) (i : ℕ) (value : List ℕ) → i < length values → value ≡ get_or values i value → first_form (cut_at 44 value) ≡ None
    → first_form (ranges_of (drop i values)) ≡ first_form (ranges_of (drop (i + 1) values))
form_passed values i value within is none =
    let own = cut_at 44 value in
    let rest = ranges_of (drop (i + 1) values) in
    ap first_form (value_here values i value within is) ∙ ap first_of (filter_map-append form_of_range own rest)
    ∙ first_none (filter_map form_of_range own) (filter_map form_of_range rest) none

pub form_here : (values : List (List ℕ)) (i : ℕ) (value : List ℕ) (form : Form) → i < length values → value ≡ get_or values i value
    → first_form (cut_at 44 value) ≡ Some form → first_form (ranges_of (drop i values)) ≡ Some form
form_here values i value form within is some =
    let own = cut_at 44 value in
    let rest = ranges_of (drop (i + 1) values) in
    ap first_form (value_here values i value within is) ∙ ap first_of (filter_map-append form_of_range own rest)
    ∙ first_some (filter_map form_of_range own) (filter_map form_of_range rest) form some

abbrev is_car : List ℕ → Bool
is_car range = is_car_form (form_of_range range)

pub car_passed : (values : List (List ℕ)) (i : ℕ) (value : List ℕ) → i < length values → value ≡ get_or values i value → first_car (cut_at 44 value) ≡ None
    → first_car (ranges_of (drop i values)) ≡ first_car (ranges_of (drop (i + 1) values))
car_passed values i value within is none =
    let own = cut_at 44 value in
    let rest = ranges_of (drop (i + 1) values) in
    ap first_car (value_here values i value within is) ∙ find-append is_car own rest ∙ ap (λ o. option_or o (find is_car rest)) none

pub car_here : (values : List (List ℕ)) (i : ℕ) (value range : List ℕ) → i < length values → value ≡ get_or values i value
    → first_car (cut_at 44 value) ≡ Some range → first_car (ranges_of (drop i values)) ≡ Some range
car_here values i value range within is some =
    let own = cut_at 44 value in
    let rest = ranges_of (drop (i + 1) values) in
    ap first_car (value_here values i value within is) ∙ find-append is_car own rest ∙ ap (λ o. option_or o (find is_car rest)) some

-- ---- one item more of a loop

pub one_more : {A : Type 0} (h : List ℕ → Option A) (xs : List (List ℕ)) (seen : List (Bor (List ℕ))) (x : Bor (List ℕ))
    → first_of (filter_map h (drop (length seen + 1) xs)) ≡ first_of (filter_map h (drop (length (seen ++ x ∷ [])) xs))
one_more h xs seen x = ap (λ (n : ℕ). first_of (filter_map h (drop n xs))) (sym (length_push seen x))

-- ---- a parameter of a media range, or its default

pub param_read : (range name default : List ℕ) (rest found : Option (List ℕ)) → rest ≡ (cut_first 59 range).1 → found ≡ first_param name (params_in rest)
    → unwrap_or found default ≡ param_of range name default
unfolding param_of
param_read range name default rest found is own =
    ap (λ (o : Option (List ℕ)). unwrap_or o default) own ∙ ap (λ (o : Option (List ℕ)). unwrap_or (first_param name (params_in o)) default) is
