-- What lanes may receive still, where something changes at a lane.
use Rattle.std.proofs.Common.{◌≡◌, ℕ, zero, suc, ◌+◌, ◌-◌, ◌<◌, ◌≤◌, Option, Some, None, List, [], ◌∷◌, ap, arith, length, refl, sym, ◌∙◌}
use Rattle.std.specs.Prelude.{is_some, replicate, slice_get, slice_set, true}
use Rattle.tg_gateway.specs.Sessions.{SessionView}
use Rattle.tg_serve.specs.Turns.{busy_in, number_at, weights}

-- what one lane may
abbrev pub weight_at : {K : Type 0} → SessionView → Option K → ℕ
weight_at session None = 0
weight_at session (Some link) = session.state.most - session.state.received + 1

weights_cons : {K : Type 0} (session : SessionView) (link : Option K) (sessions : List SessionView) (links : List (Option K))
    → weights (session ∷ sessions) (link ∷ links) ≡ weight_at session link + weights sessions links
weights_cons session None sessions links = omega arith
weights_cons session (Some link) sessions links = refl

pub weights_set : {K : Type 0} (sessions : List SessionView) (links : List (Option K)) (lane : ℕ) (was is : SessionView) (had has : Option K)
    → slice_get sessions lane ≡ Some was → slice_get links lane ≡ Some had
    → weights (slice_set sessions lane is) (slice_set links lane has) + weight_at was had ≡ weights sessions links + weight_at is has
weights_set [] links lane was is had has at here = absurd (let e = at in cc)
weights_set (s ∷ sessions) [] lane was is had has at here = absurd (let e = here in cc)
weights_set (s ∷ sessions) (l ∷ links) zero was is had has at here =
    let e : s ≡ was = let p : Some s ≡ Some was = at in cc in
    let f : l ≡ had = let p : Some l ≡ Some had = here in cc in
    let one = weights_cons is has sessions links in
    let other = weights_cons s l sessions links ∙ ap (λ (x : SessionView). weight_at x l + weights sessions links) e
    ∙ ap (λ (x : Option _). weight_at was x + weights sessions links) f in
    omega (arith, one, other)
weights_set (s ∷ sessions) (l ∷ links) (suc lane) was is had has at here =
    let more = weights_set sessions links lane was is had has at here in
    let one = weights_cons s l (slice_set sessions lane is) (slice_set links lane has) in
    let other = weights_cons s l sessions links in
    omega (arith, more, one, other)

-- ---- lists of lanes

-- what is there is set
pub set_same : {X : Type 0} (xs : List X) (i : ℕ) (x : X) → slice_get xs i ≡ Some x → slice_set xs i x ≡ xs
set_same [] i x at = refl
set_same (y ∷ xs) zero x at = ap (λ (z : _). z ∷ xs) (let p : Some y ≡ Some x = at in let e : x ≡ y = cc in e)
set_same (y ∷ xs) (suc i) x at = ap (λ (l : List _). y ∷ l) (set_same xs i x at)

busy_cons : {K : Type 0} (link : Option K) (links : List (Option K)) → busy_in (link ∷ links) ≡ number_at (Some link) + busy_in links
busy_cons None links = omega arith
busy_cons (Some link) links = omega arith

pub busy_set : {K : Type 0} (links : List (Option K)) (lane : ℕ) (had has : Option K) → slice_get links lane ≡ Some had
    → busy_in (slice_set links lane has) + number_at (Some had) ≡ busy_in links + number_at (Some has)
busy_set [] lane had has here = absurd (let e = here in cc)
busy_set (l ∷ links) zero had has here =
    let f : l ≡ had = let p : Some l ≡ Some had = here in cc in
    let one = busy_cons has links in
    let other = busy_cons l links ∙ ap (λ (x : Option _). number_at (Some x) + busy_in links) f in
    omega (arith, one, other)
busy_set (l ∷ links) (suc lane) had has here =
    let more = busy_set links lane had has here in
    let one = busy_cons l (slice_set links lane has) in
    let other = busy_cons l links in
    omega (arith, more, one, other)

pub busy_most : {K : Type 0} (links : List (Option K)) → busy_in links ≤ length links
busy_most [] = omega arith
busy_most (None ∷ links) = let more = busy_most links in omega (arith, more)
busy_most (Some link ∷ links) = let more = busy_most links in omega (arith, more)

-- where no lane is free each is busy, and the other way round
pub all_busy : {K : Type 0} (links : List (Option K)) → ((lane : ℕ) → lane < length links → slice_get links lane ≡ Some None → ⊥) → busy_in links ≡ length links
all_busy [] none = refl
all_busy (None ∷ links) none = absurd (none 0 (omega arith) refl)
all_busy (Some link ∷ links) none =
    let more = all_busy links (λ lane lt at. none (suc lane) (omega (arith, lt)) at) in omega (arith, more)

pub none_busy : {K : Type 0} (links : List (Option K)) → ((lane : ℕ) → lane < length links → slice_get links lane ≡ Some None) → busy_in links ≡ 0
none_busy [] free = refl
none_busy (None ∷ links) free = none_busy links (λ lane lt. free (suc lane) (omega (arith, lt)))
none_busy (Some link ∷ links) free = absurd (let e = free 0 (omega arith) in cc)

pub free_at : {K : Type 0} (links : List (Option K)) → busy_in links ≡ 0 → (lane : ℕ) → number_at (slice_get links lane) ≡ 0
free_at [] none lane = refl
free_at (None ∷ links) none zero = refl
free_at (None ∷ links) none (suc lane) = free_at links none lane
free_at (Some link ∷ links) none lane = absurd (let no : ⊥ = omega (arith, none) in no)

pub busy_replicate : (K : Type 0) (n : ℕ) → busy_in {K = K} (replicate n None) ≡ 0
busy_replicate K zero = refl
busy_replicate K (suc n) = busy_replicate K n

pub free_replicate : (K : Type 0) (n lane : ℕ) → number_at {K = K} (slice_get (replicate n None) lane) ≡ 0
free_replicate K zero lane = refl
free_replicate K (suc n) zero = refl
free_replicate K (suc n) (suc lane) = free_replicate K n lane

pub number_of_some : {K : Type 0} (link : Option K) → is_some link ≡ true → number_at (Some link) ≡ 1
number_of_some None is = absurd (cc is)
number_of_some (Some link) is = refl
