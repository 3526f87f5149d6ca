-- The tests on names say what the relations on names say: a name is good, and names differ.
use Rattle.std.proofs.Common.{◌≡◌, ◌≢◌, ℕ, ◌+◌, ◌<◌, Bool, true, false, Option, Some, None, List, [], ◌∷◌, length, refl, sym, ◌∙◌, arith}
use Rattle.std.specs.List.{AllByRecursion, IsDistinct, list_any, list_all}
use Rattle.std.specs.Bool.{Decides, one_answer}
use Rattle.std.specs.Prelude.{All, bytes_eq, if◌then◌else◌, not, ◌&&◌, ◌==◌}
use Rattle.std.proofs.lemmas.Bool.{or_parts, or_from}
use Rattle.std.proofs.lemmas.Bool.Decides.{Decides-and, Decides-by_and, Decides-eqb, Decides-like, Decides-not}
use Rattle.std.proofs.lemmas.Slice.Eq.{bytes_eq-Decides}
use Rattle.tg_model.specs.Computed.{first_from, doubled_from, is_good_name}
use Rattle.tg_model.specs.EntryNames.{IsGoodName}

-- ---- good names

-- no byte of a name is a slash or zero
abbrev IsInner : ℕ → Type 0
IsInner b = (b ≢ 47) × (b ≢ 0)

-- the test on one byte
abbrev is_inner : ℕ → Bool
is_inner b = not (b == 47) && not (b == 0)

-- it says whether the byte is neither
inner_decides : (b : ℕ) → Decides (is_inner b) (IsInner b)
inner_decides b = Decides-and (not (b == 47)) (not (b == 0)) (Decides-not (b == 47) (Decides-eqb b 47)) (Decides-not (b == 0) (Decides-eqb b 0))

-- the test on all bytes does so of each
all_inner : (name : List ℕ) → Decides (list_all is_inner name) (All IsInner name)
all_inner name = Decides-by_and is_inner IsInner (λ (xs : List ℕ). list_all is_inner xs) inner_decides refl (λ _ _. refl) name

-- a name that isn't the empty one has bytes
not_empty : (name : List ℕ) → name ≢ [] → 0 < length name
not_empty [] other = absurd (other refl)
not_empty (b ∷ name) other = omega arith

-- the four parts of the test
abbrev Parts : List ℕ → Type 0
Parts name = (name ≢ []) × (All IsInner name × ((name ≢ 46 ∷ []) × (name ≢ 46 ∷ 46 ∷ [])))

-- the test on another name says whether the name differs from it
other_decides : (name other : List ℕ) → Decides (not (bytes_eq name other)) (name ≢ other)
other_decides name other = Decides-not (bytes_eq name other) (bytes_eq-Decides name other)

-- the whole test says whether the four parts hold
parts_decide : (name : List ℕ) → Decides (is_good_name name) (Parts name)
parts_decide name =
    Decides-and (not (bytes_eq name [])) (list_all is_inner name && (not (bytes_eq name (46 ∷ [])) && not (bytes_eq name (46 ∷ 46 ∷ []))))
    (other_decides name [])
    (Decides-and (list_all is_inner name) (not (bytes_eq name (46 ∷ [])) && not (bytes_eq name (46 ∷ 46 ∷ []))) (all_inner name)
    (Decides-and (not (bytes_eq name (46 ∷ []))) (not (bytes_eq name (46 ∷ 46 ∷ []))) (other_decides name (46 ∷ [])) (other_decides name (46 ∷ 46 ∷ []))))

-- the four parts are what a good name has
good_from_parts : (name : List ℕ) → Parts name → IsGoodName name
good_from_parts name p = record {
  not_empty = not_empty name p.0;
  no_slash = λ k d l. (p.1.0 k d l).0;
  no_zero = λ k d l. (p.1.0 k d l).1;
  not_here = p.1.1.0;
  not_above = p.1.1.1;
}

-- a list of some length isn't empty
some_bytes : (name : List ℕ) → 0 < length name → name ≢ []
some_bytes [] l e = absurd (omega arith)
some_bytes (b ∷ name) l e = cc

-- and the converse
parts_from_good : (name : List ℕ) → IsGoodName name → Parts name
parts_from_good name g = (some_bytes name g.not_empty, ((λ k d l. (g.no_slash k d l, g.no_zero k d l)), (g.not_here, g.not_above)))

-- the test on a name says whether it is good
pub good_decides : (name : List ℕ) → Decides (is_good_name name) (IsGoodName name)
good_decides name = Decides-like (is_good_name name) (good_from_parts name) (parts_from_good name) (parts_decide name)

-- ---- the first value at which a test holds

-- one value more, at which the test gives b
none_step : {A : Type 0} (test : A → Bool) (at : ℕ) (x : A) (xs : List A) (b : Bool) → test x ≡ b
    → (first_from test (at + 1) xs ≡ None → AllByRecursion (λ y. test y ≡ false) xs)
    → (if b then Some at else first_from test (at + 1) xs) ≡ None → AllByRecursion (λ y. test y ≡ false) (x ∷ xs)
none_step test at x xs true e rest h = absurd (cc)
none_step test at x xs false e rest h = (e, rest h)

-- where no first value is found, the test holds at none
pub none_first : {A : Type 0} (test : A → Bool) (at : ℕ) (xs : List A) → first_from test at xs ≡ None → AllByRecursion (λ y. test y ≡ false) xs
none_first test at [] h = tt
none_first test at (x ∷ xs) h = none_step test at x xs (test x) refl (none_first test (at + 1) xs) h

-- one value more, at which the test fails
no_first_step : (at : ℕ) (rest : Option ℕ) (b : Bool) → b ≡ false → rest ≡ None → (if b then Some at else rest) ≡ None
no_first_step at rest true e h = absurd (cc)
no_first_step at rest false e h = h

-- and the converse
pub no_first : {A : Type 0} (test : A → Bool) (at : ℕ) (xs : List A) → AllByRecursion (λ y. test y ≡ false) xs → first_from test at xs ≡ None
no_first test at [] all = refl
no_first test at (x ∷ xs) all = no_first_step at (first_from test (at + 1) xs) (test x) all.0 (no_first test (at + 1) xs all.1)

-- ---- names that differ

-- bytes are equal in either order
pub bytes_eq_comm : (a b : List ℕ) → bytes_eq a b ≡ bytes_eq b a
bytes_eq_comm a b =
    let there = bytes_eq-Decides a b in
    let back = bytes_eq-Decides b a in
    one_answer {P = a ≡ b} (bytes_eq a b) (bytes_eq b a) there (λ t. sym (back.0 t), λ e. back.1 (sym e))

-- none of the names stands before
abbrev AreNew : List (List ℕ) → List (List ℕ) → Type 0
AreNew before names = AllByRecursion (λ name. list_any (bytes_eq name) before ≡ false) names

-- names are new behind one more name where they differ from it and are new behind the others
new_parts : (before : List (List ℕ)) (name : List ℕ) (names : List (List ℕ)) → AreNew (name ∷ before) names
    → AllByRecursion (λ other. bytes_eq name other ≡ false) names × AreNew before names
new_parts before name [] new = (tt, tt)
new_parts before name (other ∷ names) new =
    let here = or_parts (bytes_eq other name) (list_any (bytes_eq other) before) new.0 in
    let rest = new_parts before name names new.1 in
    ((bytes_eq_comm name other ∙ here.0, rest.0), (here.1, rest.1))

-- and the converse
new_from_parts : (before : List (List ℕ)) (name : List ℕ) (names : List (List ℕ)) → AllByRecursion (λ other. bytes_eq name other ≡ false) names
    → AreNew before names → AreNew (name ∷ before) names
new_from_parts before name [] differ new = tt
new_from_parts before name (other ∷ names) differ new = (
  or_from (bytes_eq other name) (list_any (bytes_eq other) before) (bytes_eq_comm other name ∙ differ.0) new.0,
  new_from_parts before name names differ.1 new.1,
)

-- one name more, of which the test whether it stands before gives b
differ_step : (before : List (List ℕ)) (at : ℕ) (name : List ℕ) (names : List (List ℕ)) (b : Bool) → list_any (bytes_eq name) before ≡ b
    → (doubled_from (at + 1) (name ∷ before) names ≡ None → AreNew (name ∷ before) names × IsDistinct bytes_eq names)
    → (if b then Some at else doubled_from (at + 1) (name ∷ before) names) ≡ None → AreNew before (name ∷ names) × IsDistinct bytes_eq (name ∷ names)
unfolding IsDistinct
differ_step before at name names true e rest h = absurd (cc)
differ_step before at name names false e rest h =
    let (new, distinct) = rest h in
    let (differ, old) = new_parts before name names new in
    ((e, old), (differ, distinct))

-- where no name is found that stands before, none does, and they differ
none_doubled_behind : (at : ℕ) (before names : List (List ℕ)) → doubled_from at before names ≡ None → AreNew before names × IsDistinct bytes_eq names
unfolding IsDistinct
none_doubled_behind at before [] h = (tt, tt)
none_doubled_behind at before (name ∷ names) h =
    differ_step before at name names (list_any (bytes_eq name) before) refl (none_doubled_behind (at + 1) (name ∷ before) names) h

-- where no name is found that stands before, they differ
pub none_doubled : (names : List (List ℕ)) → doubled_from 0 [] names ≡ None → IsDistinct bytes_eq names
none_doubled names h = (none_doubled_behind 0 [] names h).1

-- and the converse
distinct_behind : (at : ℕ) (before names : List (List ℕ)) → AreNew before names → IsDistinct bytes_eq names → doubled_from at before names ≡ None
unfolding IsDistinct
distinct_behind at before [] new distinct = refl
distinct_behind at before (name ∷ names) new distinct =
    no_first_step at (doubled_from (at + 1) (name ∷ before) names) (list_any (bytes_eq name) before) new.0
    (distinct_behind (at + 1) (name ∷ before) names (new_from_parts before name names distinct.0 new.1) distinct.1)

-- names are new where none stands before
new_behind_none : (names : List (List ℕ)) → AreNew [] names
new_behind_none [] = tt
new_behind_none (name ∷ names) = (refl, new_behind_none names)

-- and the converse
pub no_doubled : (names : List (List ℕ)) → IsDistinct bytes_eq names → doubled_from 0 [] names ≡ None
no_doubled names distinct = distinct_behind 0 [] names (new_behind_none names) distinct
