-- Options that stand at most once, and the look-up of one.
use Rattle.std.proofs.Common.{◌≡◌, ◌≢◌, ℕ, suc, zero, ◌<◌, ◌≤◌, inl, inr, ◌⊎◌, List, [], ◌∷◌, ◌++◌, length, map, true, false, Bool, cond, refl, sym, ap, ◌∙◌, subst, arith, append_assoc, drop, drop-cons, drop_of_length-le, Some, None}
use Rattle.std.specs.Prelude.{Contains, slice_get, slice_index_or, find, option_map}
use Rattle.std.specs.Str.{bytes_eq}
use Rattle.tg_words.specs.Words.{Given, StandOnce}
use Rattle.tg_words.specs.Operands.{given, givens}
use Rattle.tg_words.specs.declared.operands.GivenOption.{GivenOption}
use Rattle.tg_words.proofs.Naming.{at_first, later_too}

pub once_none : StandOnce []
once_none = λ i j a b below first second. absurd (cc)

get_more : {X : Type 0} (xs : List X) (y a : X) (i : ℕ) → slice_get (xs ++ y ∷ []) i ≡ Some a → ((slice_get xs i ≡ Some a) × (i < length xs)) ⊎ ((a ≡ y) × (i ≡ length xs))
get_more [] y a zero e = let is : y ≡ a = cc in inr (sym is, refl)
get_more [] y a (suc i) e = absurd (cc)
get_more (x ∷ xs) y a zero e = inl (e, omega arith)
get_more (x ∷ xs) y a (suc i) e = elim (get_more xs y a i e) [
  | inl p ↦ inl (p.0, omega (arith, p.1))
  | inr p ↦ inr (p.0, omega (arith, p.1))
]

get_contains : {X : Type 0} (xs : List X) (a : X) (i : ℕ) → slice_get xs i ≡ Some a → Contains xs a
get_contains [] a i e = absurd (cc)
get_contains (x ∷ xs) a zero e = let is : x ≡ a = cc in at_first x a xs is
get_contains (x ∷ xs) a (suc i) e = later_too x a xs (get_contains xs a i e)

contains_get : {X : Type 0} (xs ys : List X) (x : X) (k : ℕ) → k < length xs → slice_index_or xs k x ≡ x → slice_get (xs ++ ys) k ≡ Some x
contains_get [] ys x k below is = absurd (omega (arith, below))
contains_get (y ∷ xs) ys x zero below is = ap (λ z. Some z) is
contains_get (y ∷ xs) ys x (suc k) below is = contains_get xs ys x k (omega (arith, below)) is

get_at : {X : Type 0} (xs ys : List X) (y : X) → slice_get (xs ++ (y ∷ ys)) (length xs) ≡ Some y
get_at [] ys y = refl
get_at (x ∷ xs) ys y = get_at xs ys y

-- one more option, of a name that none has
pub once_more : (options : List Given) (one : Given) → StandOnce options → ((o : Given) → Contains options o → o.0 ≢ one.0) → StandOnce (options ++ one ∷ [])
once_more options one once new = λ i j a b below first second.
    elim (get_more options one b j second) [
      | inl in_j ↦ elim (get_more options one a i first) [
        | inl in_i ↦ once i j a b below in_i.0 in_j.0
        | inr at_i ↦ absurd (omega (arith, below, in_j.1, at_i.1))
      ]
      | inr at_j ↦ elim (get_more options one a i first) [
        | inl in_i ↦ λ same. new a (get_contains options a i in_i.0) (same ∙ ap (λ (o : Given). o.0) at_j.0)
        | inr at_i ↦ absurd (omega (arith, below, at_j.1, at_i.1))
      ]
    ]

-- one more option, of a name that one has
pub stands_twice : (options others : List Given) (one o : Given) → Contains options o → o.0 ≡ one.0 → StandOnce ((options ++ one ∷ []) ++ others) → ⊥
stands_twice options others one o among same once =
    let all : StandOnce (options ++ (one ∷ others)) = subst StandOnce (append_assoc options (one ∷ []) others) once in
    all among.0 (length options) o one among.1 (contains_get options (one ∷ others) o among.0 among.1 among.2) (get_at options others one) same

pub found_among : {X : Type 0} (p : X → Bool) (xs : List X) (x : X) → find p xs ≡ Some x → Contains xs x × (p x ≡ true)
found_among p [] x e = absurd (cc)
found_among p (y ∷ ys) x e = go (p y) refl (λ at. found_among p ys x at)
  where
    go : (b : Bool) → p y ≡ b → (find p ys ≡ Some x → Contains ys x × (p x ≡ true)) → Contains (y ∷ ys) x × (p x ≡ true)
    go true holds again =
        let here : cond (p y) (Some y) (find p ys) ≡ Some x = e in
        let is : y ≡ x = let f : Some y ≡ Some x = rw holds at here in cc in
        (at_first y x ys is, subst (λ z. p z ≡ true) is holds)
    go false fails again =
        let here : cond (p y) (Some y) (find p ys) ≡ Some x = e in
        let later = again (rw fails at here) in
        (later_too y x ys later.0, later.1)

-- a look-up that goes through options
find-map : {X Y : Type 0} (p : Y → Bool) (f : X → Y) (xs : List X) → option_map f (find (λ x. p (f x)) xs) ≡ find p (map f xs)
find-map p f [] = refl
find-map p f (x ∷ xs) = go (p (f x)) (find-map p f xs)
  where
    go : (b : Bool) → option_map f (find (λ y. p (f y)) xs) ≡ find p (map f xs)
        → option_map f (cond b (Some x) (find (λ y. p (f y)) xs)) ≡ cond b (Some (f x)) (find p (map f xs))
    go true e = refl
    go false e = e

abbrev pub by_name : List ℕ → GivenOption → Bool
by_name name option = bytes_eq option.name.now name

pub found_here : (options : List GivenOption) (name : List ℕ) (i : ℕ) (d : GivenOption) → i < length options → by_name name (slice_index_or options i d) ≡ true
    → find (by_name name) (drop i options) ≡ find (by_name name) options → Some (given (slice_index_or options i d)) ≡ find (λ (o : Given). bytes_eq o.0 name) (givens options)
found_here options name i d below hit same =
    let here : find (by_name name) (slice_index_or options i d ∷ drop (suc i) options) ≡ Some (slice_index_or options i d) = rw hit refl in
    let found : Some (slice_index_or options i d) ≡ find (by_name name) options = sym here ∙ sym (ap (find (by_name name)) (drop-cons options i d below)) ∙ same in
    ap (option_map given) found ∙ find-map (λ (o : Given). bytes_eq o.0 name) given options

pub not_here : (options : List GivenOption) (name : List ℕ) (i j : ℕ) (d : GivenOption) → i < length options → by_name name (slice_index_or options i d) ≡ false
    → find (by_name name) (drop i options) ≡ find (by_name name) options → j ≡ suc i → find (by_name name) (drop j options) ≡ find (by_name name) options
not_here options name i j d below miss same next =
    let here : find (by_name name) (slice_index_or options i d ∷ drop (suc i) options) ≡ find (by_name name) (drop (suc i) options) = rw miss refl in
    ap (λ k. find (by_name name) (drop k options)) next ∙ sym here ∙ sym (ap (find (by_name name)) (drop-cons options i d below)) ∙ same

pub none_left : (options : List GivenOption) (name : List ℕ) (i : ℕ) → length options ≤ i → find (by_name name) (drop i options) ≡ find (by_name name) options
    → None ≡ find (λ (o : Given). bytes_eq o.0 name) (givens options)
none_left options name i past same =
    ap (option_map given) (sym (ap (find (by_name name)) (drop_of_length-le options past)) ∙ same) ∙ find-map (λ (o : Given). bytes_eq o.0 name) given options
