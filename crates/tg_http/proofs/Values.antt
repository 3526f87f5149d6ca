-- The values of one name, a field more.
use Rattle.std.proofs.Common.{◌≡◌, ℕ, ◌+◌, ◌<◌, Bool, true, false, List, [], ◌∷◌, ◌++◌, length, take, drop, get_or, map, refl, sym, ap, ◌∙◌, subst, Option, Some, None}
use Rattle.std.specs.Prelude.{not, find, codes, ◌||◌}
use Rattle.std.specs.List.{cons_option, list_any}
use Rattle.std.specs.Option.{option_or, option_to_list}
use Rattle.std.proofs.lemmas.List.{map_more, map-append, take-append-drop, append-nil, append_assoc}
use Rattle.std.proofs.lemmas.List.Elements.{filter_map-append}
use Rattle.std.proofs.lemmas.List.Folds.{find-append, list_any-append}
use Rattle.std.proofs.lemmas.Bool.{cond-true, cond-false}
use Rattle.httparse.specs.Spans.{header_bytes}
use Rattle.httparse.specs.declared.spans.HeaderSpan.{HeaderSpan}
use Rattle.tg_http.specs.declared.fields.FieldValue.{FieldValue}
use Rattle.tg_http.specs.Fields.{AreValues, value_under, values, first as first_of, coding_of, is_identity, lists_token}

pub find_push : (p : List ℕ → Bool) (xs : List (List ℕ)) (v : List ℕ) → find p xs ≡ None → p v ≡ false → find p (xs ++ v ∷ []) ≡ None
find_push p xs v none other = find-append p xs (v ∷ []) ∙ ap (λ o. option_or o (find p (v ∷ []))) none ∙ cond-false _ _ _ other

pub find_at : (p : List ℕ → Bool) (xs ys : List (List ℕ)) (v : List ℕ) → find p xs ≡ None → p v ≡ true → find p (xs ++ v ∷ ys) ≡ Some v
find_at p xs ys v none holds = find-append p xs (v ∷ ys) ∙ ap (λ o. option_or o (find p (v ∷ ys))) none ∙ cond-true _ _ _ holds

pub any_push : (p : List ℕ → Bool) (xs : List (List ℕ)) (v : List ℕ) → list_any p xs ≡ false → p v ≡ false → list_any p (xs ++ v ∷ []) ≡ false
any_push p xs v none other = rw (list_any-append p xs (v ∷ []), none, other) refl

pub any_at : (p : List ℕ → Bool) (xs ys : List (List ℕ)) (v : List ℕ) → p v ≡ true → list_any p (xs ++ v ∷ ys) ≡ true
any_at p xs ys v holds = rw (list_any-append p xs (v ∷ ys), holds) (by_test (list_any p xs))
  where
    by_test : (t : Bool) → (t || true) ≡ true
    by_test true = refl
    by_test false = refl

abbrev pub is_coded : List ℕ → Bool
is_coded value = not (is_identity value)

abbrev pub has_token : List ℕ → Bool
has_token value = lists_token (codes "close") value

module _ (name text : List ℕ) (fields : List HeaderSpan) (i : ℕ) (d : HeaderSpan) (inside : i < length fields) where
  abbrev pub seen : ℕ → List (List ℕ)
  seen n = values name (map (header_bytes text) (take n fields))

  abbrev pub here : Option (List ℕ)
  here = value_under name (header_bytes text (get_or fields i d))

  pub values_more : seen (i + 1) ≡ seen i ++ option_to_list here
  values_more =
      ap (values name) (map_more (header_bytes text) fields i d inside)
      ∙ filter_map-append (value_under name) (map (header_bytes text) (take i fields)) (header_bytes text (get_or fields i d) ∷ [])
      ∙ ap (λ (s : List (List ℕ)). seen i ++ s) (single here)
    where
      single : (o : Option (List ℕ)) → cons_option o [] ≡ option_to_list o
      single None = refl
      single (Some v) = refl

  pub values_none : None ≡ here → seen (i + 1) ≡ seen i
  values_none none = values_more ∙ ap (λ (o : Option (List ℕ)). seen i ++ option_to_list o) (sym none) ∙ append-nil (seen i)

  pub values_some : (v : List ℕ) → Some v ≡ here → seen (i + 1) ≡ seen i ++ v ∷ []
  values_some v some = values_more ∙ ap (λ (o : Option (List ℕ)). seen i ++ option_to_list o) (sym some)

  pub values_found : (v : List ℕ) → Some v ≡ here
      → values name (map (header_bytes text) fields) ≡ seen i ++ v ∷ values name (map (header_bytes text) (drop (i + 1) fields))
  values_found v some =
      let rest = values name (map (header_bytes text) (drop (i + 1) fields)) in
      ap (λ (s : List HeaderSpan). values name (map (header_bytes text) s)) (sym (take-append-drop (i + 1) fields))
      ∙ ap (values name) (map-append (header_bytes text) (take (i + 1) fields) (drop (i + 1) fields))
      ∙ filter_map-append (value_under name) (map (header_bytes text) (take (i + 1) fields)) (map (header_bytes text) (drop (i + 1) fields))
      ∙ ap (λ (s : List (List ℕ)). s ++ rest) (values_some v some)
      ∙ append_assoc (seen i) (v ∷ []) rest

  -- the values of all of the fields
  abbrev pub all_values : List (List ℕ)
  all_values = values name (map (header_bytes text) fields)

  abbrev pub later : List (List ℕ)
  later = values name (map (header_bytes text) (drop (i + 1) fields))

  pub first_found : (v : List ℕ) → seen i ≡ [] → Some v ≡ here → Some v ≡ first_of all_values
  first_found v none some = sym (ap first_of (values_found v some ∙ ap (λ (s : List (List ℕ)). s ++ v ∷ later) none))

  pub coding_at : (v : List ℕ) → find is_coded (seen i) ≡ None → Some v ≡ here → is_identity v ≡ false → Some v ≡ coding_of all_values
  coding_at v none some other =
      let found : find is_coded all_values ≡ Some v = ap (find is_coded) (values_found v some) ∙ find_at is_coded (seen i) later v none (ap not other) in
      ap (λ (o : Option (List ℕ)). option_or o (first_of all_values)) (sym found)

  pub coding_none : find is_coded (seen i) ≡ None → None ≡ here → find is_coded (seen (i + 1)) ≡ None
  coding_none none absent = ap (find is_coded) (values_none absent) ∙ none

  pub coding_same : (v : List ℕ) → find is_coded (seen i) ≡ None → Some v ≡ here → is_identity v ≡ true → find is_coded (seen (i + 1)) ≡ None
  coding_same v none some same = ap (find is_coded) (values_some v some) ∙ find_push is_coded (seen i) v none (ap not same)

  pub close_at : (v : List ℕ) → Some v ≡ here → has_token v ≡ true → true ≡ list_any has_token all_values
  close_at v some holds = sym (ap (list_any has_token) (values_found v some) ∙ any_at has_token (seen i) later v holds)

  pub close_none : list_any has_token (seen i) ≡ false → None ≡ here → list_any has_token (seen (i + 1)) ≡ false
  close_none none absent = ap (list_any has_token) (values_none absent) ∙ none

  pub close_other : (v : List ℕ) → list_any has_token (seen i) ≡ false → Some v ≡ here → has_token v ≡ false → list_any has_token (seen (i + 1)) ≡ false
  close_other v none some other = ap (list_any has_token) (values_some v some) ∙ any_push has_token (seen i) v none other

  pub are_more : (v : List ℕ) (next found : FieldValue) → Some v ≡ here → found ≡ next → AreValues (seen i ++ v ∷ []) next → AreValues (seen (i + 1)) found
  are_more v next found some is are = subst (AreValues (seen (i + 1))) (sym is) (subst (λ (s : List (List ℕ)). AreValues s next) (sym (values_some v some)) are)

  pub are_same : (old found : FieldValue) → None ≡ here → found ≡ old → AreValues (seen i) old → AreValues (seen (i + 1)) found
  are_same old found absent is are = subst (AreValues (seen (i + 1))) (sym is) (subst (λ (s : List (List ℕ)). AreValues s old) (sym (values_none absent)) are)
