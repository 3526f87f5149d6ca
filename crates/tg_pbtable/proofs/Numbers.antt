-- The numbers of fields: how many of one there are, and in which order they stand.
use Rattle.std.proofs.Common.{◌≡◌, ℕ, ◌+◌, ◌-◌, ◌<◌, ◌≤◌, ◌≢◌, Bool, true, false, cond, Option, Some, None, List, [], ◌∷◌, ◌++◌, length, take, get_or, refl, sym, ap, ◌∙◌, subst, inl, inr, arith}
use Rattle.std.specs.Prelude.{Any, Contains, ◌==◌}
use Rattle.std.specs.Option.{option_eq}
use Rattle.std.specs.List.Sorted.{IsNonDecreasing}
use Rattle.std.proofs.lemmas.Bool.Decides.{Decides-eqb}
use Rattle.std.proofs.lemmas.Bool.{cases_lt, cases_eq, eq-eqb, ne_eqb, ltb-false}
use Rattle.std.proofs.lemmas.List.{length-append, get_or_push, get_or_at, get_or_append_left, take_more, take_all, map-append, get_or_default}
use Rattle.std.proofs.lemmas.List.Elements.{Contains-append_right}
use Rattle.std.proofs.lemmas.List.Sums.{sum_by-cons, sum_by-append, sum_by_push}
use Rattle.std.proofs.lemmas.Map.Made.{Contains-tail}
use Rattle.tg_bytes.specs.Lists.{rises}
use Rattle.tg_pbtable.specs.declared.table.Field.{Field}
use Rattle.tg_pbtable.specs.declared.table.Order.{Order}
use Rattle.tg_pbtable.specs.declared.table.Order.TheVariants.{Ascending, Runs}
use Rattle.tg_pbtable.specs.Message.{count_of, numbers_of, StandTogether, IsInOrder}
use Rattle.tg_pbtable.specs.Faults.{BreaksOrder}
use Rattle.tg_pbtable.specs.Cursor.{EndsIn, IsLast, has_number}

-- ---- counts

abbrev as_number : Bool → ℕ
as_number b = cond b 1 0

one_if : (a b : ℕ) → a ≡ b → as_number (a == b) ≡ 1
one_if a b e = ap as_number (eq-eqb a b e)

none_if : (a b : ℕ) → a ≢ b → as_number (a == b) ≡ 0
none_if a b e = ap as_number (ne_eqb a b e)

pub count_cons : (f : Field) (fs : List Field) (n : ℕ) → count_of (f ∷ fs) n ≡ cond (f.number == n) 1 0 + count_of fs n
count_cons f fs n = sum_by-cons (λ (x : Field). cond (x.number == n) 1 0) f fs

count_append : (xs ys : List Field) (n : ℕ) → count_of (xs ++ ys) n ≡ count_of xs n + count_of ys n
count_append xs ys n = sum_by-append (λ (x : Field). cond (x.number == n) 1 0) xs ys

pub count_push_same : (fs : List Field) (f : Field) (n : ℕ) → f.number ≡ n → count_of (fs ++ f ∷ []) n ≡ count_of fs n + 1
count_push_same fs f n e = sum_by_push (λ (x : Field). cond (x.number == n) 1 0) fs f ∙ ap (λ (k : ℕ). count_of fs n + k) (one_if f.number n e)

pub count_push_other : (fs : List Field) (f : Field) (n : ℕ) → f.number ≢ n → count_of (fs ++ f ∷ []) n ≡ count_of fs n
count_push_other fs f n e = sum_by_push (λ (x : Field). cond (x.number == n) 1 0) fs f ∙ ap (λ (k : ℕ). count_of fs n + k) (none_if f.number n e) ∙ omega arith

pub contains_count : (fs : List Field) (n : ℕ) → Contains (numbers_of fs) n → 0 < count_of fs n
contains_count [] n h = let k = h.0 in let l : k < 0 = h.1 in absurd (omega arith)
contains_count (f ∷ fs) n h = elim (cases_eq f.number n) [
  | inl e ↦ omega (arith, count_cons f fs n, one_if f.number n e)
  | inr e ↦ omega (arith, count_cons f fs n, contains_count fs n (Contains-tail f.number (numbers_of fs) n e h))
]

pub count_contains : (fs : List Field) (n : ℕ) → 0 < count_of fs n → Contains (numbers_of fs) n
count_contains [] n h = let none : 0 < 0 = h in absurd (omega arith)
count_contains (f ∷ fs) n h = elim (cases_eq f.number n) [
  | inl e ↦ (0, omega arith, e)
  | inr e ↦ Contains-append_right (f.number ∷ []) (numbers_of fs) n (count_contains fs n (omega (arith, count_cons f fs n, none_if f.number n e)))
]

pub none_counted : (fields : List Field) (n : ℕ) → has_number fields n ≡ false → count_of fields n ≡ 0
none_counted fields n e = let none : count_of fields n ≤ 0 = ltb-false 0 (count_of fields n) e in omega arith

pub count_twice : (fs gs : List Field) (f : Field) (n : ℕ) → f.number ≡ n → Contains (numbers_of fs) n → 2 ≤ count_of (fs ++ f ∷ gs) n
count_twice fs gs f n e h = omega (arith, count_append fs (f ∷ gs) n, count_cons f gs n, one_if f.number n e, contains_count fs n h)

-- ---- the last number

pub ends_in_last : (ns : List ℕ) (n : ℕ) → 0 < length ns → get_or ns (length ns - 1) 0 ≡ n → EndsIn ns n
ends_in_last ns n some e =
    let last = length ns - 1 in
    let all : last + 1 ≡ length ns = omega arith in (
      take last ns,
      sym (take_all (length ns) ns (omega arith)) ∙ ap (λ (k : ℕ). take k ns) (sym all) ∙ take_more ns last 0 (omega arith) ∙ ap (λ (k : ℕ). take last ns ++ k ∷ []) e,
    )

pub last_of : (ns : List ℕ) (n : ℕ) → EndsIn ns n → (0 < length ns) × (get_or ns (length ns - 1) 0 ≡ n)
last_of ns n h =
    let size : length ns ≡ length h.0 + 1 = ap length h.1 ∙ length-append h.0 (n ∷ []) ∙ omega arith in
    let last : length h.0 ≡ length ns - 1 = omega arith in
    (omega arith, ap (λ (t : List ℕ). get_or t (length ns - 1) 0) h.1 ∙ get_or_push h.0 n 0 (length ns - 1) last)

pub ends_contains : (ns : List ℕ) (n : ℕ) → EndsIn ns n → Contains ns n
ends_contains ns n h =
    let last = last_of ns n h in
    let some : 0 < length ns = last.0 in
    (length ns - 1, omega arith, get_or_default ns (length ns - 1) n 0 (omega arith) ∙ last.1)

-- ---- order

at_left : (ns ms : List ℕ) (n k : ℕ) → k < length ns → get_or (ns ++ n ∷ ms) k 0 ≡ get_or ns k 0
at_left ns ms n k l = get_or_append_left ns (n ∷ ms) 0 k l

at_new : (ns ms : List ℕ) (n : ℕ) → get_or (ns ++ n ∷ ms) (length ns) 0 ≡ n
at_new ns ms n = get_or_at ns n ms 0 (length ns) refl

within : (ns ms : List ℕ) (n : ℕ) → length ns < length (ns ++ n ∷ ms)
within ns ms n = omega (arith, length-append ns (n ∷ ms))

-- where equal numbers stand together, a number that goes on is the last one
pub together_last : (ns ms : List ℕ) (n : ℕ) → StandTogether (ns ++ n ∷ ms) → Contains ns n → EndsIn ns n
together_last ns ms n h c =
    let k = c.0 in
    let lt : k < length ns = c.1 in
    let here : get_or ns k 0 ≡ n = get_or_default ns k 0 n lt ∙ c.2 in
    let last = length ns - 1 in
    elim (cases_lt k last) [
      | inl before ↦
          let ends : last < length ns = omega arith in
          let same : get_or (ns ++ n ∷ ms) k 0 ≡ get_or (ns ++ n ∷ ms) (length ns) 0 = at_left ns ms n k lt ∙ here ∙ sym (at_new ns ms n) in
          let mid = h k last (length ns) before ends (within ns ms n) same in
          ends_in_last ns n (omega arith) (sym (at_left ns ms n last ends) ∙ mid ∙ at_left ns ms n k lt ∙ here)
      | inr past ↦
          let e : k ≡ last = omega arith in
          ends_in_last ns n (omega arith) (ap (λ (i : ℕ). get_or ns i 0) (sym e) ∙ here)
    ]

pub no_break : (order : Order) (ns ms : List ℕ) (n : ℕ) → IsInOrder order (ns ++ n ∷ ms) → BreaksOrder order ns n → ⊥
no_break Ascending ns ms n h b =
    let k = b.0 in
    let lt : k < length ns = b.2 in
    let here : get_or (ns ++ n ∷ ms) k 0 ≡ b.1 = at_left ns ms n k lt ∙ get_or_default ns k 0 b.1 lt ∙ b.3 in
    let new : get_or (ns ++ n ∷ ms) (length ns) 0 ≡ n = at_new ns ms n in
    let le : get_or (ns ++ n ∷ ms) k 0 ≤ get_or (ns ++ n ∷ ms) (length ns) 0 = h k (length ns) 0 (omega arith) (within ns ms n) in
    omega (arith, b.4)
no_break Runs ns ms n h b = let last = together_last ns ms n h b.0 in b.1 last.0 last.1

pub break_last : (order : Order) (ns : List ℕ) (n : ℕ) → IsInOrder order ns → BreaksOrder order ns n → EndsIn ns n → ⊥
break_last Ascending ns n h b e =
    let last = last_of ns n e in
    let k = b.0 in
    let lt : k < length ns = b.2 in
    let here : get_or ns k 0 ≡ b.1 = get_or_default ns k 0 b.1 lt ∙ b.3 in
    let ends : get_or ns (length ns - 1) 0 ≡ n = last.1 in
    let le : get_or ns k 0 ≤ get_or ns (length ns - 1) 0 = h k (length ns - 1) 0 (omega arith) (omega arith) in
    omega (arith, b.4)
break_last Runs ns n h b e = b.1 e.0 e.1

-- a number that stands in order behind these and isn't the last of them isn't among them
pub none_before : (order : Order) (ns : List ℕ) (n : ℕ) → IsInOrder order (ns ++ n ∷ []) → (EndsIn ns n → ⊥) → Contains ns n → ⊥
none_before Ascending ns n h not_last c =
    let k = c.0 in
    let lt : k < length ns = c.1 in
    let here : get_or (ns ++ n ∷ []) k 0 ≡ n = at_left ns [] n k lt ∙ get_or_default ns k 0 n lt ∙ c.2 in
    let last = length ns - 1 in
    let ends : get_or (ns ++ n ∷ []) last 0 ≡ get_or ns last 0 = at_left ns [] n last (omega arith) in
    let new : get_or (ns ++ n ∷ []) (length ns) 0 ≡ n = at_new ns [] n in
    let low : get_or (ns ++ n ∷ []) k 0 ≤ get_or (ns ++ n ∷ []) last 0 = h k last 0 (omega arith) (omega (arith, within ns [] n)) in
    let high : get_or (ns ++ n ∷ []) last 0 ≤ get_or (ns ++ n ∷ []) (length ns) 0 = h last (length ns) 0 (omega arith) (within ns [] n) in
    not_last (ends_in_last ns n (omega arith) (omega arith))
none_before Runs ns n h not_last c = not_last (together_last ns [] n h c)

pub new_run : (ns : List ℕ) (n : ℕ) → StandTogether ns → (Contains ns n → ⊥) → StandTogether (ns ++ n ∷ [])
new_run ns n h new i j k ij jk kl e =
    let size : length (ns ++ n ∷ []) ≡ length ns + 1 = length-append ns (n ∷ []) ∙ omega arith in
    elim (cases_lt k (length ns)) [
      | inl lt ↦
          let il : i < length ns = omega arith in
          let jl : j < length ns = omega arith in
          at_left ns [] n j jl ∙ h i j k ij jk lt (sym (at_left ns [] n i il) ∙ e ∙ at_left ns [] n k lt) ∙ sym (at_left ns [] n i il)
      | inr ge ↦
          let is : k ≡ length ns = omega arith in
          let il : i < length ns = omega arith in
          absurd (new (i, il, get_or_default ns i n 0 il ∙ sym (at_left ns [] n i il) ∙ e ∙ ap (λ (x : ℕ). get_or (ns ++ n ∷ []) x 0) is ∙ at_new ns [] n))
    ]

pub same_run : (ns : List ℕ) (n : ℕ) → StandTogether ns → EndsIn ns n → StandTogether (ns ++ n ∷ [])
same_run ns n h ends i j k ij jk kl e =
    let size : length (ns ++ n ∷ []) ≡ length ns + 1 = length-append ns (n ∷ []) ∙ omega arith in
    let last = last_of ns n ends in
    let il : i < length ns = omega arith in
    let jl : j < length ns = omega arith in
    elim (cases_lt k (length ns)) [
      | inl lt ↦
          at_left ns [] n j jl ∙ h i j k ij jk lt (sym (at_left ns [] n i il) ∙ e ∙ at_left ns [] n k lt) ∙ sym (at_left ns [] n i il)
      | inr ge ↦
          let is : k ≡ length ns = omega arith in
          let here : get_or ns i 0 ≡ n = sym (at_left ns [] n i il) ∙ e ∙ ap (λ (x : ℕ). get_or (ns ++ n ∷ []) x 0) is ∙ at_new ns [] n in
          elim (cases_lt j (length ns - 1)) [
            | inl before ↦ at_left ns [] n j jl ∙ h i j (length ns - 1) ij before (omega arith) (here ∙ sym last.1) ∙ sym (at_left ns [] n i il)
            | inr past ↦
                let end : j ≡ length ns - 1 = omega arith in
                at_left ns [] n j jl ∙ ap (λ (x : ℕ). get_or ns x 0) end ∙ last.1 ∙ sym here ∙ sym (at_left ns [] n i il)
          ]
    ]

pub numbers_push : (fs : List Field) (f : Field) (gs : List Field) → numbers_of (fs ++ f ∷ gs) ≡ numbers_of fs ++ f.number ∷ numbers_of gs
numbers_push fs f gs = map-append (λ (x : Field). x.number) fs (f ∷ gs)

-- ---- a number behind the last one

pub falls : (ns : List ℕ) (last n : ℕ) → EndsIn ns last → n < last → Any (λ (m : ℕ). n < m) ns
falls ns last n e lt =
    let h = last_of ns last e in
    let some : 0 < length ns = h.0 in
    (length ns - 1, last, omega arith, get_or_default ns (length ns - 1) last 0 (omega arith) ∙ h.1, lt)

pub rises_after : (ns : List ℕ) (last n : ℕ) → IsNonDecreasing ns → EndsIn ns last → last ≤ n → IsNonDecreasing (ns ++ n ∷ [])
rises_after ns last n h e le = rises ns n h (λ _. let is : get_or ns (length ns - 1) 0 ≡ last = (last_of ns last e).1 in omega arith)

pub rises_alone : (ns : List ℕ) (n : ℕ) → IsNonDecreasing ns → ns ≡ [] → IsNonDecreasing (ns ++ n ∷ [])
rises_alone ns n h e = rises ns n h (λ p. let none : length ns ≡ 0 = ap length e in absurd (omega arith))

-- a list has one last number
pub one_last : (ns : List ℕ) (last n : ℕ) → EndsIn ns last → EndsIn ns n → last ≡ n
one_last ns last n a b = sym (last_of ns last a).1 ∙ (last_of ns n b).1

pub none_ends : (ns : List ℕ) (n : ℕ) → ns ≡ [] → EndsIn ns n → ⊥
none_ends ns n e ends =
    let none : length ns ≡ 0 = ap length e in
    let some : 0 < length ns = (last_of ns n ends).0 in
    omega arith

pub same_last : (ns : List ℕ) (last : Option ℕ) (n : ℕ) → IsLast ns last → (option_eq ◌==◌ last (Some n) ≡ true → EndsIn ns n) × (EndsIn ns n → option_eq ◌==◌ last (Some n) ≡ true)
same_last ns None n h = (λ e. absurd (cc), λ ends. absurd (none_ends ns n h ends))
same_last ns (Some m) n h = (λ e. subst (λ (k : ℕ). EndsIn ns k) ((Decides-eqb m n).0 e) h, λ ends. (Decides-eqb m n).1 (one_last ns m n h ends))
