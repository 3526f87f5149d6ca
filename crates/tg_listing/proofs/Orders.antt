-- A list that is sorted by a test, and in which elements that tie keep their order, is the one that an insertion sort gives.
use Rattle.std.proofs.Common.{◌≡◌, ℕ, suc, ◌<◌, ◌≤◌, Bool, true, false, List, [], ◌∷◌, length, get_or, refl, ap, ap₂, sym, ◌∙◌, arith}
use Rattle.std.specs.Cmp.{IsStrictWeakOrder}
use Rattle.std.specs.List.{filter}
use Rattle.std.specs.List.Sorted.{IsSortedBy, IsStableBy, ties}
use Rattle.std.specs.Ordering.{is_lt}
use Rattle.std.specs.Prelude.{⊤, if◌then◌else◌, map, not, ◌&&◌}
use Rattle.std.proofs.lemmas.List.Sorted.{sorted_far}
use Rattle.tg_bytes.specs.Order.{bytes_cmp}
use Rattle.tg_model.specs.NameOrder.{before_is_less}
use Rattle.tg_listing.specs.Listings.{line_of}
use Rattle.tg_listing.specs.declared.line.ListingLine.{ListingLine}
use Rattle.tg_model.specs.Texts.{Named, inserted, is_before, sorted}

-- ---- sorts by a test

module _ {X : Type 0} (lt : X → X → Bool) where
  abbrev insert_by : X → List X → List X
  insert_by x [] = x ∷ []
  insert_by x (y ∷ ys) = if lt y x then y ∷ insert_by x ys else x ∷ y ∷ ys

  abbrev pub sort_by : List X → List X
  sort_by [] = []
  sort_by (x ∷ xs) = insert_by x (sort_by xs)

  -- no element of a list is less than x
  abbrev Above : X → List X → Type 0
  Above x [] = ⊤
  Above x (y ∷ ys) = (lt y x ≡ false) × Above x ys

  -- no element is less than one before it
  abbrev Up : List X → Type 0
  Up [] = ⊤
  Up (x ∷ xs) = Above x xs × Up xs

  above_of : (x : X) (xs : List X) → ((k : ℕ) → k < length xs → lt (get_or xs k x) x ≡ false) → Above x xs
  above_of x [] h = tt
  above_of x (y ∷ ys) h = (h 0 (omega arith), above_of x ys (λ k p. h (suc k) (omega arith)))

  up_of : (xs : List X) → ((i j : ℕ) (d : X) → i ≤ j → j < length xs → lt (get_or xs j d) (get_or xs i d) ≡ false) → Up xs
  up_of [] h = tt
  up_of (x ∷ xs) h = (above_of x xs (λ k p. h 0 (suc k) x (omega arith) (omega arith)), up_of xs (λ i j d p q. h (suc i) (suc j) d (omega arith) (omega arith)))

  ties_from : (x y : X) → lt x y ≡ false → lt y x ≡ false → ties lt x y ≡ true
  ties_from x y p q = ap₂ (λ (a b : Bool). not a && not b) p q

  not_both : (a b : Bool) → not a && not b ≡ true → (a ≡ false) × (b ≡ false)
  not_both false false h = (refl, refl)
  not_both false true h = absurd (cc)
  not_both true b h = absurd (cc)

  module _ (o : IsStrictWeakOrder lt) where
    one_side : (x : X) (b : Bool) → lt x x ≡ b → b ≡ false
    one_side x false e = refl
    one_side x true e = absurd (let no = o.one_way x x e in cc)

    itself : (x : X) → lt x x ≡ false
    itself x = one_side x (lt x x) refl

    -- the insertion of an element keeps a list sorted
    above_trans : (x y : X) (l : List X) → lt y x ≡ false → Above y l → Above x l
    above_trans x y [] h up = tt
    above_trans x y (z ∷ l) h up = (o.chain z y x up.0 h, above_trans x y l h up.1)

    above_if : (b : Bool) (x a y : X) (l r : List X) → lt a x ≡ false → Above x (y ∷ l) → Above x r → Above x (if b then y ∷ r else a ∷ y ∷ l)
    above_if true x a y l r h up above = (up.0, above)
    above_if false x a y l r h up above = (h, up)

    above_insert : (x a : X) (l : List X) → lt a x ≡ false → Above x l → Above x (insert_by a l)
    above_insert x a [] h up = (h, tt)
    above_insert x a (y ∷ l) h up = above_if (lt y a) x a y l (insert_by a l) h up (above_insert x a l h up.1)

    up_if : (b : Bool) (a y : X) (l r : List X) → lt y a ≡ b → Up (y ∷ l) → (lt a y ≡ false → Above y r) → Up r → Up (if b then y ∷ r else a ∷ y ∷ l)
    up_if true a y l r e up above rises = (above (o.one_way y a e), rises)
    up_if false a y l r e up above rises = ((e, above_trans a y l e up.0), up)

    up_insert : (a : X) (l : List X) → Up l → Up (insert_by a l)
    up_insert a [] up = (tt, tt)
    up_insert a (y ∷ l) up = up_if (lt y a) a y l (insert_by a l) refl up (λ h. above_insert y a l h up.0) (up_insert a l up.1)

    up_sort : (xs : List X) → Up (sort_by xs)
    up_sort [] = tt
    up_sort (x ∷ xs) = up_insert x (sort_by xs) (up_sort xs)

    -- it goes behind those before it, and before those that tie with it
    ties_apart : (x a y : X) → ties lt x a ≡ true → ties lt x y ≡ true → lt y a ≡ false
    ties_apart x a y p q = o.chain y x a (not_both (lt x y) (lt y x) q).1 (not_both (lt x a) (lt a x) p).0

    exchanged : (t u : Bool) (a y : X) (l : List X) → (t ≡ true → u ≡ true → ⊥)
        → (if u then y ∷ (if t then a ∷ l else l) else (if t then a ∷ l else l)) ≡ (if t then a ∷ (if u then y ∷ l else l) else (if u then y ∷ l else l))
    exchanged true true a y l differ = absurd (differ refl refl)
    exchanged true false a y l differ = refl
    exchanged false true a y l differ = refl
    exchanged false false a y l differ = refl

    stable_if : (b : Bool) (x a y : X) (l r : List X) → lt y a ≡ b → filter (ties lt x) r ≡ filter (ties lt x) (a ∷ l)
        → filter (ties lt x) (if b then y ∷ r else a ∷ y ∷ l) ≡ filter (ties lt x) (a ∷ y ∷ l)
    stable_if false x a y l r e same = refl
    stable_if true x a y l r e same =
        ap (λ (k : List X). if ties lt x y then y ∷ k else k) same
        ∙ exchanged (ties lt x a) (ties lt x y) a y (filter (ties lt x) l) (λ p q. let no = ties_apart x a y p q in absurd (cc))

    stable_insert : (x a : X) (l : List X) → filter (ties lt x) (insert_by a l) ≡ filter (ties lt x) (a ∷ l)
    stable_insert x a [] = refl
    stable_insert x a (y ∷ l) = stable_if (lt y a) x a y l (insert_by a l) refl (stable_insert x a l)

    stable_sort : (x : X) (xs : List X) → filter (ties lt x) (sort_by xs) ≡ filter (ties lt x) xs
    stable_sort x [] = refl
    stable_sort x (y ∷ xs) = stable_insert x y (sort_by xs) ∙ ap (λ (r : List X). if ties lt x y then y ∷ r else r) (stable_sort x xs)

    -- two sorted lists in which elements that tie stand in one order are one list
    not_less_if : (b : Bool) (y z w : X) (k r : List X) → lt w z ≡ false → (k ≡ y ∷ r → lt y z ≡ false) → (if b then w ∷ k else k) ≡ y ∷ r → lt y z ≡ false
    not_less_if true y z w k r here later e = let same : w ≡ y = cc in ap (λ (v : X). lt v z) (sym same) ∙ here
    not_less_if false y z w k r here later e = later e

    not_less : (t : X → Bool) (y z : X) (l r : List X) → Above z l → filter t l ≡ y ∷ r → lt y z ≡ false
    not_less t y z [] r up e = absurd (cc)
    not_less t y z (w ∷ l) r up e = not_less_if (t w) y z w (filter t l) r up.0 (λ h. not_less t y z l r up.1 h) e

    first_kept : (y : X) (l : List X) → filter (ties lt y) (y ∷ l) ≡ y ∷ filter (ties lt y) l
    first_kept y l = ap (λ (b : Bool). if b then y ∷ filter (ties lt y) l else filter (ties lt y) l) (ties_from y y (itself y) (itself y))

    first_same : (y z : X) (ys zs : List X) → Above y ys → Above z zs → ((x : X) → filter (ties lt x) (y ∷ ys) ≡ filter (ties lt x) (z ∷ zs)) → y ≡ z
    first_same y z ys zs above_y above_z same =
        let down = not_less (ties lt y) y z (z ∷ zs) (filter (ties lt y) ys) (itself z, above_z) (sym (same y) ∙ first_kept y ys) in
        let up = not_less (ties lt z) z y (y ∷ ys) (filter (ties lt z) zs) (itself y, above_y) (same z ∙ first_kept z zs) in
        let kept : filter (ties lt y) (z ∷ zs) ≡ z ∷ filter (ties lt y) zs = ap (λ (b : Bool). if b then z ∷ filter (ties lt y) zs else filter (ties lt y) zs) (ties_from y z down up) in
        let both : y ∷ filter (ties lt y) ys ≡ z ∷ filter (ties lt y) zs = sym (first_kept y ys) ∙ same y ∙ kept in
        cc

    rest_same : (b : Bool) (y : X) (u v : List X) → (if b then y ∷ u else u) ≡ (if b then y ∷ v else v) → u ≡ v
    rest_same true y u v e = cc
    rest_same false y u v e = e

    one_order : (ys zs : List X) → Up ys → Up zs → ((x : X) → filter (ties lt x) ys ≡ filter (ties lt x) zs) → ys ≡ zs
    one_order [] [] p q same = refl
    one_order [] (z ∷ zs) p q same = let e = same z ∙ first_kept z zs in absurd (cc)
    one_order (y ∷ ys) [] p q same = let e = sym (same y) ∙ first_kept y ys in absurd (cc)
    one_order (y ∷ ys) (z ∷ zs) p q same =
        let e = first_same y z ys zs p.0 q.0 same in
        ap₂ (λ (w : X) (l : List X). w ∷ l) e
        (one_order ys zs p.1 q.1 (λ x. rest_same (ties lt x y) y (filter (ties lt x) ys) (filter (ties lt x) zs)
        (same x ∙ ap (λ (w : X). filter (ties lt x) (w ∷ zs)) (sym e))))

    pub stably_sorted : (xs ys : List X) → IsSortedBy lt ys → IsStableBy lt xs ys → ys ≡ sort_by xs
    stably_sorted xs ys rises stable =
        one_order ys (sort_by xs) (up_of ys (sorted_far lt o ys rises)) (up_sort xs) (λ x. stable x ∙ sym (stable_sort x xs))

-- ---- lines

abbrev pub less_name : ListingLine → ListingLine → Bool
less_name a b = is_lt (bytes_cmp a.name b.name)

map_if : (b : Bool) (x y : Named) (ys r : List Named) (lines : List ListingLine) → lines ≡ map line_of r
    → (if b then line_of y ∷ lines else line_of x ∷ line_of y ∷ map line_of ys) ≡ map line_of (if b then y ∷ r else x ∷ y ∷ ys)
map_if true x y ys r lines same = ap (λ (l : List ListingLine). line_of y ∷ l) same
map_if false x y ys r lines same = refl

map_insert : (x : Named) (ys : List Named) → insert_by less_name (line_of x) (map line_of ys) ≡ map line_of (inserted x ys)
map_insert x [] = refl
map_insert x (y ∷ ys) =
    ap (λ (b : Bool). if b then line_of y ∷ insert_by less_name (line_of x) (map line_of ys) else line_of x ∷ line_of y ∷ map line_of ys) (before_is_less y.name x.name)
    ∙ map_if (is_before y.name x.name) x y ys (inserted x ys) (insert_by less_name (line_of x) (map line_of ys)) (map_insert x ys)

map_sort : (xs : List Named) → sort_by less_name (map line_of xs) ≡ map line_of (sorted xs)
map_sort [] = refl
map_sort (x ∷ xs) = ap (insert_by less_name (line_of x)) (map_sort xs) ∙ map_insert x (sorted xs)

pub names_sorted : (entries : List Named) (xs ys : List ListingLine) → IsStrictWeakOrder less_name → IsSortedBy less_name ys → IsStableBy less_name xs ys
    → xs ≡ map line_of entries → ys ≡ map line_of (sorted entries)
names_sorted entries xs ys o rises stable same = stably_sorted less_name o xs ys rises stable ∙ ap (sort_by less_name) same ∙ map_sort entries
