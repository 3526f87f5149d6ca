-- Links that came, one more of them, and one that is given back.
use Rattle.std.proofs.Common.{◌≡◌, ℕ, zero, suc, ◌+◌, ◌≤◌, Bool, Option, Some, None, true, false, List, [], ◌∷◌, ◌++◌, append-nil, append_assoc, ap, arith, eq-eqb, eqb-true, length, length-append, refl, subst, sym, ◌==◌, ◌∙◌}
use Rattle.std.proofs.lemmas.List.Sorted.{IsPermutation-append_left, IsPermutation-cons, IsPermutation-middle, IsPermutation-refl, IsPermutation-sym, IsPermutation-to_front, IsPermutation-trans}
use Rattle.std.specs.Option.{option_map}
use Rattle.std.specs.Prelude.{IsPermutation, drop, if◌then◌else◌, map}
use Rattle.tg_links.specs.Steps.{IsHeardOf}
use Rattle.tg_serve.specs.Serving.{AreHeardOf, LinkRun}
use Rattle.tg_serve.specs.Turns.{Admission, AreFirst, AreOf, given_back, in_lane, last_in, number_in, runs_in}

-- ---- one more came

number_more : (lane other : ℕ) (left : Option (List ℕ)) (all : List Admission)
    → number_in lane (all ++ in_lane other left ∷ []) ≡ (if other == lane then number_in lane all + 1 else number_in lane all)
number_more lane other left [] = refl
number_more lane other left (given_back run ∷ all) = number_more lane other left all
number_more lane other left (in_lane third said ∷ all) = by (third == lane) (other == lane) (number_more lane other left all)
  where
    by : (b c : Bool) → number_in lane (all ++ in_lane other left ∷ []) ≡ (if c then number_in lane all + 1 else number_in lane all)
        → (if b then number_in lane (all ++ in_lane other left ∷ []) + 1 else number_in lane (all ++ in_lane other left ∷ []))
        ≡ (if c then (if b then number_in lane all + 1 else number_in lane all) + 1 else (if b then number_in lane all + 1 else number_in lane all))
    by true true h = ap (λ (n : ℕ). n + 1) h
    by true false h = ap (λ (n : ℕ). n + 1) h
    by false true h = h
    by false false h = h

pub number_here : (lane : ℕ) (left : Option (List ℕ)) (all : List Admission) → number_in lane (all ++ in_lane lane left ∷ []) ≡ number_in lane all + 1
number_here lane left all =
    number_more lane lane left all ∙ ap (λ (b : Bool). if b then number_in lane all + 1 else number_in lane all) (eq-eqb lane lane refl)

pub number_elsewhere : (lane other : ℕ) (left : Option (List ℕ)) (all : List Admission) → (other == lane) ≡ false
    → number_in lane (all ++ in_lane other left ∷ []) ≡ number_in lane all
number_elsewhere lane other left all apart =
    number_more lane other left all ∙ ap (λ (b : Bool). if b then number_in lane all + 1 else number_in lane all) apart

pub number_back : (lane : ℕ) (run : LinkRun) (all : List Admission) → number_in lane (all ++ given_back run ∷ []) ≡ number_in lane all
number_back lane run [] = refl
number_back lane run (given_back r ∷ all) = number_back lane run all
number_back lane run (in_lane other left ∷ all) = ap (λ (n : ℕ). if other == lane then n + 1 else n) (number_back lane run all)

pub of_more : (lane other : ℕ) (left said : Option (List ℕ)) (all : List Admission) → AreOf lane left all → (other ≡ lane → said ≡ left)
    → AreOf lane left (all ++ in_lane other said ∷ [])
of_more lane other left said [] h is = (is, tt)
of_more lane other left said (given_back run ∷ all) h is = of_more lane other left said all h is
of_more lane other left said (in_lane third third_said ∷ all) h is = (h.0, of_more lane other left said all h.1 is)

pub of_back : (lane : ℕ) (left : Option (List ℕ)) (run : LinkRun) (all : List Admission) → AreOf lane left all → AreOf lane left (all ++ given_back run ∷ [])
of_back lane left run [] h = tt
of_back lane left run (given_back r ∷ all) h = of_back lane left run all h
of_back lane left run (in_lane other said ∷ all) h = (h.0, of_back lane left run all h.1)

-- of none that stands in the lane it is said
pub of_none : (lane : ℕ) (left : Option (List ℕ)) (all : List Admission) → number_in lane all ≡ 0 → AreOf lane left all
of_none lane left [] none = tt
of_none lane left (given_back run ∷ all) none = of_none lane left all none
of_none lane left (in_lane other said ∷ all) none = by (of_none lane left all) (other == lane) refl none
  where
    by : (number_in lane all ≡ 0 → AreOf lane left all) → (b : Bool) → (other == lane) ≡ b → (if b then number_in lane all + 1 else number_in lane all) ≡ 0
        → (other ≡ lane → said ≡ left) × AreOf lane left all
    by more true here none = absurd (let no : ⊥ = omega (arith, none) in no)
    by more false apart none =
        (λ e. absurd (let f : true ≡ false = sym (eq-eqb other lane e) ∙ apart in let no : ⊥ = cc in no), more none)

pub runs_more : (lane : ℕ) (left : Option (List ℕ)) (all : List Admission) → runs_in (all ++ in_lane lane left ∷ []) ≡ runs_in all
runs_more lane left [] = refl
runs_more lane left (in_lane other said ∷ all) = runs_more lane left all
runs_more lane left (given_back run ∷ all) = ap (λ (l : List LinkRun). run ∷ l) (runs_more lane left all)

pub runs_back : (run : LinkRun) (all : List Admission) → runs_in (all ++ given_back run ∷ []) ≡ runs_in all ++ run ∷ []
runs_back run [] = refl
runs_back run (in_lane other said ∷ all) = runs_back run all
runs_back run (given_back r ∷ all) = ap (λ (l : List LinkRun). r ∷ l) (runs_back run all)

-- it is the next that was to come
pub first_more : (old : Option (List (List ℕ))) (all : List Admission) (one : Admission) → AreFirst old all
    → AreFirst (option_map (drop (length all)) old) (one ∷ []) → AreFirst old (all ++ one ∷ [])
first_more None all one before last = tt
first_more (Some coming) [] one before last = last
first_more (Some []) (first ∷ all) one before last = absurd before
first_more (Some (said ∷ coming)) (in_lane lane left ∷ all) one before last = (before.0, first_more (Some coming) all one before.1 last)
first_more (Some (said ∷ coming)) (given_back run ∷ all) one before last = (before.0, first_more (Some coming) all one before.1 last)

-- ---- one is given back

-- it, in the place of that which stands in the lane
abbrev pub replaced : ℕ → LinkRun → List Admission → List Admission
replaced lane run [] = []
replaced lane run (in_lane other left ∷ all) = (if other == lane then given_back run else in_lane other left) ∷ replaced lane run all
replaced lane run (given_back r ∷ all) = given_back r ∷ replaced lane run all

pub replaced_length : (lane : ℕ) (run : LinkRun) (all : List Admission) → length (replaced lane run all) ≡ length all
replaced_length lane run [] = refl
replaced_length lane run (in_lane other left ∷ all) = let e = replaced_length lane run all in omega (arith, e)
replaced_length lane run (given_back r ∷ all) = let e = replaced_length lane run all in omega (arith, e)

-- none stands in the lane then
pub replaced_here : (lane : ℕ) (run : LinkRun) (all : List Admission) → number_in lane (replaced lane run all) ≡ 0
replaced_here lane run [] = refl
replaced_here lane run (given_back r ∷ all) = replaced_here lane run all
replaced_here lane run (in_lane other left ∷ all) = by (replaced_here lane run all) (other == lane) refl
  where
    by : number_in lane (replaced lane run all) ≡ 0 → (b : Bool) → (other == lane) ≡ b
        → number_in lane ((if b then given_back run else in_lane other left) ∷ replaced lane run all) ≡ 0
    by more true here = more
    by more false apart =
        ap (λ (b : Bool). if b then number_in lane (replaced lane run all) + 1 else number_in lane (replaced lane run all)) apart ∙ more

pub replaced_elsewhere : (lane other : ℕ) (run : LinkRun) (all : List Admission) → (lane == other) ≡ false
    → number_in other (replaced lane run all) ≡ number_in other all
replaced_elsewhere lane other run [] apart = refl
replaced_elsewhere lane other run (given_back r ∷ all) apart = replaced_elsewhere lane other run all apart
replaced_elsewhere lane other run (in_lane third left ∷ all) apart = by (replaced_elsewhere lane other run all apart) (third == lane) refl
  where
    by : number_in other (replaced lane run all) ≡ number_in other all → (b : Bool) → (third == lane) ≡ b
        → number_in other ((if b then given_back run else in_lane third left) ∷ replaced lane run all)
        ≡ (if third == other then number_in other all + 1 else number_in other all)
    by more true here =
        let one : third ≡ lane = eqb-true third lane here in
        more
        ∙ sym (ap (λ (b : Bool). if b then number_in other all + 1 else number_in other all) (ap (λ (n : ℕ). n == other) one ∙ apart))
    by more false apart_too = ap (λ (n : ℕ). if third == other then n + 1 else n) more

pub replaced_of : (lane other : ℕ) (left : Option (List ℕ)) (run : LinkRun) (all : List Admission) → AreOf other left all
    → AreOf other left (replaced lane run all)
replaced_of lane other left run [] h = tt
replaced_of lane other left run (given_back r ∷ all) h = replaced_of lane other left run all h
replaced_of lane other left run (in_lane third said ∷ all) h = by (replaced_of lane other left run all h.1) (third == lane)
  where
    by : AreOf other left (replaced lane run all) → (b : Bool) → AreOf other left ((if b then given_back run else in_lane third said) ∷ replaced lane run all)
    by more true = more
    by more false = (h.0, more)

-- where none stands in the lane nothing is replaced
replaced_none : (lane : ℕ) (run : LinkRun) (all : List Admission) → number_in lane all ≡ 0 → replaced lane run all ≡ all
replaced_none lane run [] none = refl
replaced_none lane run (given_back r ∷ all) none = ap (λ (l : List Admission). given_back r ∷ l) (replaced_none lane run all none)
replaced_none lane run (in_lane other left ∷ all) none = by (replaced_none lane run all) (other == lane) refl none
  where
    by : (number_in lane all ≡ 0 → replaced lane run all ≡ all) → (b : Bool) → (other == lane) ≡ b → (if b then number_in lane all + 1 else number_in lane all) ≡ 0
        → (if b then given_back run else in_lane other left) ∷ replaced lane run all ≡ in_lane other left ∷ all
    by more true here none = absurd (let no : ⊥ = omega (arith, none) in no)
    by more false apart none = ap (λ (l : List Admission). in_lane other left ∷ l) (more none)

-- those that were given back are one more
pub replaced_runs : (lane : ℕ) (run : LinkRun) (all : List Admission) → number_in lane all ≡ 1
    → IsPermutation (runs_in (replaced lane run all)) (run ∷ runs_in all)
replaced_runs lane run [] one = absurd (let no : ⊥ = omega (arith, one) in no)
replaced_runs lane run (given_back r ∷ all) one =
    IsPermutation-trans _ (r ∷ (run ∷ runs_in all)) _ (IsPermutation-cons r _ _ (replaced_runs lane run all one))
    (IsPermutation-middle (r ∷ []) run (runs_in all))
replaced_runs lane run (in_lane other left ∷ all) one = by (replaced_runs lane run all) (other == lane) refl one
  where
    by : (number_in lane all ≡ 1 → IsPermutation (runs_in (replaced lane run all)) (run ∷ runs_in all)) → (b : Bool) → (other == lane) ≡ b → (if b then number_in lane all + 1 else number_in lane all) ≡ 1
        → IsPermutation (runs_in ((if b then given_back run else in_lane other left) ∷ replaced lane run all)) (run ∷ runs_in all)
    by more true here one =
        subst (λ (l : List Admission). IsPermutation (run ∷ runs_in l) (run ∷ runs_in all)) (sym (replaced_none lane run all (omega (arith, one))))
        (IsPermutation-refl (run ∷ runs_in all))
    by more false apart one = more one

-- what its peer says is heard of the link that stood in the lane
pub replaced_first : (coming : Option (List (List ℕ))) (lane : ℕ) (left : Option (List ℕ)) (run : LinkRun) (all : List Admission) → AreFirst coming all
    → AreOf lane left all → ((first : List ℕ) → left ≡ Some first → IsHeardOf first run.heard run.over) → AreFirst coming (replaced lane run all)
replaced_first None lane left run all h are heard = tt
replaced_first (Some coming) lane left run [] h are heard = tt
replaced_first (Some []) lane left run (one ∷ all) h are heard = absurd h
replaced_first (Some (first ∷ coming)) lane left run (given_back r ∷ all) h are heard =
    (h.0, replaced_first (Some coming) lane left run all h.1 are heard)
replaced_first (Some (first ∷ coming)) lane left run (in_lane other said ∷ all) h are heard =
    by (replaced_first (Some coming) lane left run all h.1 are.1 heard) (other == lane) refl
  where
    by : AreFirst (Some coming) (replaced lane run all) → (b : Bool) → (other == lane) ≡ b
        → AreFirst (Some (first ∷ coming)) ((if b then given_back run else in_lane other said) ∷ replaced lane run all)
    by more true here = (heard first (sym (are.0 (eqb-true other lane here)) ∙ h.0), more)
    by more false apart = (h.0, more)

-- it is given back behind the others
pub order_more : (lane : ℕ) (run : LinkRun) (all : List Admission) (runs : List LinkRun) → number_in lane all ≡ 1 → IsPermutation (runs_in all) runs
    → IsPermutation (runs_in (replaced lane run all)) (runs ++ run ∷ [])
order_more lane run all runs one order =
    IsPermutation-trans _ (run ∷ runs_in all) _ (replaced_runs lane run all one)
    (IsPermutation-trans _ (runs_in all ++ run ∷ []) _ (IsPermutation-sym _ _ (IsPermutation-to_front (runs_in all) run))
    (IsPermutation-append_left (run ∷ []) (runs_in all) runs order))

-- ---- all were given back

-- where none stands in a lane
pub all_back : (all : List Admission) → ((lane : ℕ) → number_in lane all ≡ 0) → all ≡ map given_back (runs_in all)
all_back [] none = refl
all_back (given_back run ∷ all) none = ap (λ (l : List Admission). given_back run ∷ l) (all_back all none)
all_back (in_lane lane left ∷ all) none =
    absurd (let one = none lane in let here = ap (λ (b : Bool). if b then number_in lane all + 1 else number_in lane all) (eq-eqb lane lane refl) in
    let no : ⊥ = omega (arith, one, here) in no)

pub runs_of_back : (runs : List LinkRun) → runs_in (map given_back runs) ≡ runs
runs_of_back [] = refl
runs_of_back (run ∷ runs) = ap (λ (l : List LinkRun). run ∷ l) (runs_of_back runs)

pub back_length : (runs : List LinkRun) → length (map given_back runs) ≡ length runs
back_length [] = refl
back_length (run ∷ runs) = let e = back_length runs in omega (arith, e)

pub back_first : (coming : Option (List (List ℕ))) (runs : List LinkRun) → AreFirst coming (map given_back runs) → AreHeardOf coming runs
back_first None runs h = tt
back_first (Some coming) [] h = tt
back_first (Some []) (run ∷ runs) h = absurd h
back_first (Some (first ∷ coming)) (run ∷ runs) h = (h.0, back_first (Some coming) runs h.1)

-- ---- one lane

number_of_back : (runs : List LinkRun) (more : List Admission) → number_in 0 (map given_back runs ++ more) ≡ number_in 0 more
number_of_back [] more = refl
number_of_back (run ∷ runs) more = number_of_back runs more

-- the last stands in it where one does
pub last_number : (runs : List LinkRun) (last : Option (Option (List ℕ))) → number_in 0 (map given_back runs ++ last_in last) ≡ number_in 0 (last_in last)
last_number runs last = number_of_back runs (last_in last)

replaced_back : (lane : ℕ) (run : LinkRun) (runs : List LinkRun) (more : List Admission)
    → replaced lane run (map given_back runs ++ more) ≡ map given_back runs ++ replaced lane run more
replaced_back lane run [] more = refl
replaced_back lane run (r ∷ runs) more = ap (λ (l : List Admission). given_back r ∷ l) (replaced_back lane run runs more)

back_more : (run : LinkRun) (runs : List LinkRun) → map given_back runs ++ given_back run ∷ [] ≡ map given_back (runs ++ run ∷ [])
back_more run [] = refl
back_more run (r ∷ runs) = ap (λ (l : List Admission). given_back r ∷ l) (back_more run runs)

pub replaced_last : (run : LinkRun) (runs : List LinkRun) (left : Option (List ℕ))
    → replaced 0 run (map given_back runs ++ last_in (Some left)) ≡ map given_back (runs ++ run ∷ []) ++ last_in None
replaced_last run runs left =
    replaced_back 0 run runs (last_in (Some left)) ∙ back_more run runs ∙ sym (append-nil (map given_back (runs ++ run ∷ [])))

pub last_back : (run : LinkRun) (runs : List LinkRun) → (map given_back runs ++ last_in None) ++ given_back run ∷ [] ≡ map given_back (runs ++ run ∷ []) ++ last_in None
last_back run runs =
    ap (λ (l : List Admission). l ++ given_back run ∷ []) (append-nil (map given_back runs)) ∙ back_more run runs
    ∙ sym (append-nil (map given_back (runs ++ run ∷ [])))

pub last_comes : (left : Option (List ℕ)) (runs : List LinkRun)
    → (map given_back runs ++ last_in None) ++ in_lane 0 left ∷ [] ≡ map given_back runs ++ last_in (Some left)
last_comes left runs = ap (λ (l : List Admission). l ++ in_lane 0 left ∷ []) (append-nil (map given_back runs))
