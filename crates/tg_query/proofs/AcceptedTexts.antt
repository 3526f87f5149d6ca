-- `Accept` fields: what is computed is what the grammar says.
use Rattle.std.proofs.Common.{Bool, List, None, Option, Some, [], ap, false, refl, subst, sym, true, ℕ, ◌++◌, ◌∙◌, ◌∷◌, ◌≡◌}
use Rattle.httparse.specs.Grammar.{trim_ows}
use Rattle.std.specs.List.{cons_option, filter_map}
use Rattle.std.specs.Option.{unwrap_or}
use Rattle.std.specs.Prelude.{All, bytes_eq, codes, if◌then◌else◌, option_map, ◌↔◌}
use Rattle.std.specs.Str.{str_eq_ignore_ascii_case, str_to_ascii_lowercase}
use Rattle.std.proofs.lemmas.Bool.{cond-false, cond-true}
use Rattle.std.proofs.lemmas.List.Elements.{All-cons, All-head, All-nil, All-tail}
use Rattle.std.proofs.lemmas.Slice.Eq.{bytes_eq-Decides}
use Rattle.tg_http.specs.Fields.{first as first_of}
use Rattle.tg_model.specs.declared.queries.Form.{Form}
use Rattle.tg_model.specs.declared.queries.Form.TheVariants.{Car, Raw}
use Rattle.tg_query.specs.Cuts.{IsCut, cut_first}
use Rattle.tg_query.specs.Accepts.{accepted_of, car_type, choice_of, first_car, first_form, first_param, form_of_range, form_of_type, is_car_form, param_in, param_of, param_value, params_in, ranges_of, raw_type}
use Rattle.tg_query.specs.AcceptTexts.{AcceptText, AsksFor, CarText, FirstSaid, ParamOr, ParamText, RangeText, SaysNothing, type_of}
use Rattle.tg_query.specs.Requests.{dups_word}
use Rattle.tg_query.specs.Targets.{or_empty}
use Rattle.tg_query.specs.Types.{HasType, TypeText}
use Rattle.tg_query.specs.declared.accepts.Accepted.{Accepted}
use Rattle.tg_query.specs.declared.accepts.CarChoice.{CarChoice}

abbrev pub CutLaw : Type 0
CutLaw = (byte : ℕ) (text front : List ℕ) (rest : Option (List ℕ)) → (cut_first byte text ≡ (front, rest)) ↔ IsCut byte text front rest

-- ---- the first element that says something, where what an element says is computed

module _ {X A : Type 0} (h : X → Option A) (Says : A → X → Type 0) (tells : (x : X) (a : A) → h x ≡ Some a → Says a x) (told : (x : X) (a : A) → Says a x → h x ≡ Some a) where
  one_more : (x : X) (xs : List X) → SaysNothing Says x → (o : Option A) → FirstSaid Says xs o → FirstSaid Says (x ∷ xs) o
  one_more x xs nothing None all = All-cons (SaysNothing Says) x xs nothing all
  one_more x xs nothing (Some a) f = record {
    before = x ∷ f.before;
    first = f.first;
    after = f.after;
    whole = ap (λ (l : List X). x ∷ l) f.whole;
    others = All-cons (SaysNothing Says) x f.before nothing f.others;
    says = f.says;
  }

  by_first : (x : X) (xs : List X) → ((o : Option A) → first_of (filter_map h xs) ≡ o → FirstSaid Says xs o) → (t : Option A) → h x ≡ t
      → (o : Option A) → first_of (cons_option t (filter_map h xs)) ≡ o → FirstSaid Says (x ∷ xs) o
  by_first x xs rest None none o e = one_more x xs (λ a says. let some : h x ≡ Some a = told x a says in let both : None ≡ Some a = sym none ∙ some in absurd cc) o (rest o e)
  by_first x xs rest (Some b) some None e = absurd cc
  by_first x xs rest (Some b) some (Some a) e =
      let same : b ≡ a = cc in
      record { before = []; first = x; after = xs; whole = refl; others = All-nil (SaysNothing Says); says = tells x a (some ∙ ap Some same) }

  said : (xs : List X) (o : Option A) → first_of (filter_map h xs) ≡ o → FirstSaid Says xs o
  said [] None e = All-nil (SaysNothing Says)
  said [] (Some a) e = absurd cc
  said (x ∷ xs) o e = by_first x xs (said xs) (h x) refl o e

  silent : (x : X) → SaysNothing Says x → (t : Option A) → h x ≡ t → h x ≡ None
  silent x nothing None e = e
  silent x nothing (Some a) e = absurd (nothing a (tells x a e))

  none_said : (xs : List X) → All (SaysNothing Says) xs → first_of (filter_map h xs) ≡ None
  none_said [] all = refl
  none_said (x ∷ xs) all =
      ap (λ (o : Option A). first_of (cons_option o (filter_map h xs))) (silent x (All-head (SaysNothing Says) x xs all) (h x) refl)
      ∙ none_said xs (All-tail (SaysNothing Says) x xs all)

  one_said : (before : List X) (x : X) (after : List X) (a : A) → All (SaysNothing Says) before → Says a x → first_of (filter_map h (before ++ x ∷ after)) ≡ Some a
  one_said [] x after a all says = ap (λ (o : Option A). first_of (cons_option o (filter_map h after))) (told x a says)
  one_said (y ∷ before) x after a all says =
      ap (λ (o : Option A). first_of (cons_option o (filter_map h (before ++ x ∷ after)))) (silent y (All-head (SaysNothing Says) y before all) (h y) refl)
      ∙ one_said before x after a (All-tail (SaysNothing Says) y before all) says

  pub first_said : (xs : List X) (o : Option A) → (first_of (filter_map h xs) ≡ o) ↔ FirstSaid Says xs o
  first_said xs o = (said xs o, back o)
    where
      back : (o : Option A) → FirstSaid Says xs o → first_of (filter_map h xs) ≡ o
      back None all = none_said xs all
      back (Some a) f = ap (λ (l : List X). first_of (filter_map h l)) f.whole ∙ one_said f.before f.first f.after a f.others f.says

-- ---- a parameter

module _ (cuts : CutLaw) (name : List ℕ) where
  by_name : (param a written : List ℕ) (given : Option (List ℕ)) → IsCut 61 (trim_ows param) written given → (t : Bool) → str_eq_ignore_ascii_case written name ≡ t
      → (if t then Some (or_empty given) else None) ≡ Some a → ParamText name a param
  by_name param a written given cut true is e = let same : or_empty given ≡ a = cc in record { written = written; given = given; cut = cut; name_is = is; value_is = sym same }
  by_name param a written given cut false is e = absurd cc

  param_tells : (param a : List ℕ) → param_in name param ≡ Some a → ParamText name a param
  param_tells param a e =
      let parts = cut_first 61 (trim_ows param) in
      by_name param a parts.0 parts.1 ((cuts 61 (trim_ows param) parts.0 parts.1).0 refl) (str_eq_ignore_ascii_case parts.0 name) refl e

  param_told : (param a : List ℕ) → ParamText name a param → param_in name param ≡ Some a
  param_told param a p =
      ap (param_value name) ((cuts 61 (trim_ows param) p.written p.given).1 p.cut)
      ∙ cond-true (str_eq_ignore_ascii_case p.written name) (Some (or_empty p.given)) None p.name_is ∙ ap Some (sym p.value_is)

  pub param_law : (params : List (List ℕ)) (o : Option (List ℕ)) → (first_param name params ≡ o) ↔ FirstSaid (ParamText name) params o
  param_law params o = first_said (param_in name) (ParamText name) param_tells param_told params o

-- ---- a media range

-- a type that is the CAR's isn't the raw one
not_raw : (type : List ℕ) → str_eq_ignore_ascii_case type car_type ≡ true → str_eq_ignore_ascii_case type raw_type ≡ false
not_raw type is =
    let same : str_to_ascii_lowercase type ≡ str_to_ascii_lowercase car_type = (bytes_eq-Decides (str_to_ascii_lowercase type) (str_to_ascii_lowercase car_type)).0 is in
    ap (λ (l : List ℕ). bytes_eq l (str_to_ascii_lowercase raw_type)) same

type_told : (type : List ℕ) (form : Form) → str_eq_ignore_ascii_case type (type_of form) ≡ true → form_of_type type ≡ Some form
type_told type Raw is = cond-true (str_eq_ignore_ascii_case type raw_type) (Some Raw) _ is
type_told type Car is = cond-false (str_eq_ignore_ascii_case type raw_type) (Some Raw) _ (not_raw type is) ∙ cond-true (str_eq_ignore_ascii_case type car_type) (Some Car) None is

by_types : (type : List ℕ) (form : Form) (r c : Bool) → str_eq_ignore_ascii_case type raw_type ≡ r → str_eq_ignore_ascii_case type car_type ≡ c
    → (if r then Some Raw else (if c then Some Car else None)) ≡ Some form → str_eq_ignore_ascii_case type (type_of form) ≡ true
by_types type form true c raw car e = let same : Raw ≡ form = cc in subst (λ (f : Form). str_eq_ignore_ascii_case type (type_of f) ≡ true) same raw
by_types type form false true raw car e = let same : Car ≡ form = cc in subst (λ (f : Form). str_eq_ignore_ascii_case type (type_of f) ≡ true) same car
by_types type form false false raw car e = absurd cc

module _ (cuts : CutLaw) where
  pub range_tells : (range : List ℕ) (form : Form) → form_of_range range ≡ Some form → RangeText form (cut_first 59 range).1 range
  unfolding form_of_range
  range_tells range form e =
      let type = trim_ows (cut_first 59 range).0 in
      record {
        type = (cut_first 59 range).0;
        cut = (cuts 59 range (cut_first 59 range).0 (cut_first 59 range).1).0 refl;
        type_is = by_types type form (str_eq_ignore_ascii_case type raw_type) (str_eq_ignore_ascii_case type car_type) refl refl e;
      }

  pub range_told : (range : List ℕ) (form : Form) (params : Option (List ℕ)) → RangeText form params range
      → (form_of_range range ≡ Some form) × ((cut_first 59 range).1 ≡ params)
  unfolding form_of_range
  range_told range form params r =
      let parts : ◌≡◌ {A = List ℕ × Option (List ℕ)} (cut_first 59 range) (r.type, params) = (cuts 59 range r.type params).1 r.cut in
      (ap (λ (p : List ℕ × Option (List ℕ)). form_of_type (trim_ows p.0)) parts ∙ type_told (trim_ows r.type) form r.type_is, ap (λ (p : List ℕ × Option (List ℕ)). p.1) parts)

  pub form_law : (ranges : List (List ℕ)) (o : Option Form) → (first_form ranges ≡ o) ↔ FirstSaid AsksFor ranges o
  form_law ranges o =
      first_said form_of_range AsksFor (λ range form e. ((cut_first 59 range).1, range_tells range form e)) (λ range form asks. (range_told range form asks.0 asks.1).0) ranges o

  -- ---- a CAR

  param_or : (range name default : List ℕ) → ParamOr name default (params_in (cut_first 59 range).1) (param_of range name default)
  unfolding param_of
  param_or range name default =
      let params = params_in (cut_first 59 range).1 in
      (first_param name params, (param_law cuts name params (first_param name params)).0 refl, refl)

  param_is : (range name default value : List ℕ) → ParamOr name default (params_in (cut_first 59 range).1) value → param_of range name default ≡ value
  unfolding param_of
  param_is range name default value p =
      ap (λ (o : Option (List ℕ)). unwrap_or o default) ((param_law cuts name (params_in (cut_first 59 range).1) p.0).1 p.1) ∙ sym p.2

  abbrev car_in : List ℕ → Option CarChoice
  car_in range = if is_car_form (form_of_range range) then Some (choice_of range) else None

  car_form : (o : Option Form) → is_car_form o ≡ true → o ≡ Some Car
  car_form None e = absurd cc
  car_form (Some Raw) e = absurd cc
  car_form (Some Car) e = refl

  car_text : (range : List ℕ) → form_of_range range ≡ Some Car → CarText (choice_of range) range
  car_text range e = record {
    params = (cut_first 59 range).1;
    is_car = range_tells range Car e;
    version = param_or range (codes "version") (codes "1");
    order = param_or range (codes "order") (codes "dfs");
    dups = param_or range (codes "dups") (codes "y");
  }

  by_car : (range : List ℕ) (choice : CarChoice) (t : Bool) → is_car_form (form_of_range range) ≡ t → (if t then Some (choice_of range) else None) ≡ Some choice
      → CarText choice range
  by_car range choice true is e =
      let same : choice_of range ≡ choice = cc in
      subst (λ (c : CarChoice). CarText c range) same (car_text range (car_form (form_of_range range) is))
  by_car range choice false is e = absurd cc

  same_choice : (a b : CarChoice) → a.version ≡ b.version → a.order ≡ b.order → a.dups ≡ b.dups → a ≡ b
  same_choice a b version order dups =
      let s = subst (λ v. a ≡ record a { version = v }) version refl in
      let t = subst (λ o. a ≡ record a { version = b.version; order = o }) order s in
      subst (λ d. a ≡ record { version = b.version; order = b.order; dups = d }) dups t

  -- the parameters are those that the text has
  by_choice : (range : List ℕ) (choice : CarChoice) → CarText choice range → choice_of range ≡ choice
  by_choice range choice car =
      let is = range_told range Car car.params car.is_car in
      let at : (name default value : List ℕ) → ParamOr name default (params_in car.params) value → param_of range name default ≡ value =
      λ name default value p. param_is range name default value (subst (λ (o : Option (List ℕ)). ParamOr name default (params_in o) value) (sym is.1) p) in
      same_choice (choice_of range) choice (at (codes "version") (codes "1") choice.version car.version)
      (at (codes "order") (codes "dfs") choice.order car.order) (at (codes "dups") (codes "y") choice.dups car.dups)

  car_told : (range : List ℕ) (choice : CarChoice) → CarText choice range → car_in range ≡ Some choice
  car_told range choice car =
      cond-true (is_car_form (form_of_range range)) (Some (choice_of range)) None (ap is_car_form (range_told range Car car.params car.is_car).0)
      ∙ ap Some (by_choice range choice car)

  -- the type of an answer
  pub type_law : (form : Form) (repeats : Bool) (kind : List ℕ) → HasType form repeats kind ↔ TypeText form repeats kind
  type_law Raw repeats kind = (λ e. ((cut_first 59 kind).1, range_tells kind Raw e), λ text. (range_told kind Raw text.0 text.1).0)
  type_law Car repeats kind =
      let asked : CarChoice = record { version = codes "1"; order = codes "dfs"; dups = dups_word repeats } in (
        λ is. subst (λ (choice : CarChoice). CarText choice kind) (same_choice (choice_of kind) asked is.version is.order is.dups) (car_text kind is.form),
        λ text.
            let same = by_choice kind asked text in
            record {
              form = (range_told kind Car text.params text.is_car).0;
              version = ap (λ (choice : CarChoice). choice.version) same;
              order = ap (λ (choice : CarChoice). choice.order) same;
              dups = ap (λ (choice : CarChoice). choice.dups) same;
            },
      )

  -- the first CAR and its parameters are found in one step
  found_at_once : (ranges : List (List ℕ)) → option_map choice_of (first_car ranges) ≡ first_of (filter_map car_in ranges)
  found_at_once [] = refl
  found_at_once (range ∷ ranges) = by_test (is_car_form (form_of_range range)) (found_at_once ranges)
    where
      by_test : (t : Bool) → option_map choice_of (first_car ranges) ≡ first_of (filter_map car_in ranges)
          → option_map choice_of (if t then Some range else first_car ranges) ≡ first_of (cons_option (if t then Some (choice_of range) else None) (filter_map car_in ranges))
      by_test true rest = refl
      by_test false rest = rest

  pub car_law : (ranges : List (List ℕ)) (o : Option CarChoice) → (option_map choice_of (first_car ranges) ≡ o) ↔ FirstSaid CarText ranges o
  car_law ranges o =
      let law = first_said car_in CarText (λ range choice e. by_car range choice (is_car_form (form_of_range range)) refl e) car_told ranges o in
      (λ e. law.0 (sym (found_at_once ranges) ∙ e), λ said. found_at_once ranges ∙ law.1 said)

  -- ---- the fields

  same_accepted : (a b : Accepted) → a.first ≡ b.first → a.car ≡ b.car → a ≡ b
  same_accepted a b first car =
      let s = subst (λ f. a ≡ record a { first = f }) first refl in
      subst (λ c. a ≡ record { first = b.first; car = c }) car s

  pub accept_law : (values : List (List ℕ)) (accepted : Accepted) → (accepted_of values ≡ accepted) ↔ AcceptText values accepted
  accept_law values accepted = (
    λ e. record {
      first = (form_law (ranges_of values) accepted.first).0 (ap (λ (a : Accepted). a.first) e);
      car = (car_law (ranges_of values) accepted.car).0 (ap (λ (a : Accepted). a.car) e);
    },
    λ text. same_accepted (accepted_of values) accepted ((form_law (ranges_of values) accepted.first).1 text.first) ((car_law (ranges_of values) accepted.car).1 text.car),
  )
