-- What holds of groups of seven bits: the number that they spell, where they end, and that exactly one of four stands
-- at the front of bytes.
use Rattle.std.proofs.Common.{◌≡◌, ℕ, ◌+◌, ◌*◌, ◌^◌, ◌<◌, ◌≤◌, List, [], ◌∷◌, ◌++◌, length, take, drop, get_or, All}
use Rattle.std.proofs.Common.{refl, ap, ap₂, sym, ◌∙◌, subst, inl, inr, arith}
use Rattle.std.proofs.Math.Nat.{pow-succ', pow-le-pow_right, mul-le-mul_left}
use Rattle.std.proofs.lemmas.Bool.{cases_lt}
use Rattle.std.proofs.lemmas.List.{append_assoc, get_or_at, get_or-take, length-take-le, length_push, take-append-drop}
use Rattle.std.proofs.lemmas.List.{drop_more, take_all, take_more}
use Rattle.std.proofs.lemmas.List.Elements.{All-cons, All-head, All-nil, All-tail, All-take, All-get_or}
use Rattle.tg_varint.specs.Varint.{number_of, AllGoOn, Groups, GroupsInside, GroupsPast, GroupsInZero}

-- ---- the number

-- the groups of the second part weigh 128 ^ the length of the first
pub number_append : (a b : List ℕ) → number_of (a ++ b) ≡ number_of a + 128 ^ length a * number_of b
number_append [] b = omega arith
number_append (x ∷ a) b =
    let ih : number_of (a ++ b) ≡ number_of a + 128 ^ length a * number_of b = number_append a b in
    let p : 128 ^ length (x ∷ a) ≡ 128 * 128 ^ length a = pow-succ' 128 (length a) in
    rw p (omega arith)

-- each group is below 128
pub number_below : (a : List ℕ) → number_of a < 128 ^ length a
number_below [] = omega arith
number_below (x ∷ a) =
    let ih : number_of a < 128 ^ length a = number_below a in
    let p : 128 ^ length (x ∷ a) ≡ 128 * 128 ^ length a = pow-succ' 128 (length a) in
    omega arith

-- a number whose last group isn't zero isn't zero
pub last_counts : (front : List ℕ) (last : ℕ) → 0 < last → last < 128 → 0 < number_of (front ++ last ∷ [])
last_counts [] last some low = omega arith
last_counts (x ∷ front) last some low = omega (arith, last_counts front last some low)

-- ---- the first byte without the high bit

-- it is the same, and so is what stands before and behind it, however the bytes are parted there
pub first_stop : (f g : List ℕ) (l m : ℕ) (r s : List ℕ) → AllGoOn f → l < 128 → AllGoOn g → m < 128
    → f ++ l ∷ r ≡ g ++ m ∷ s → (f ≡ g) × (l ≡ m) × (r ≡ s)
first_stop [] [] l m r s p a q b e = (refl, cc, cc)
first_stop [] (y ∷ g) l m r s p a q b e =
    let high : 128 ≤ y = All-head (λ (b : ℕ). 128 ≤ b) y g q in
    let same : l ≡ y = cc in
    absurd (omega arith)
first_stop (x ∷ f) [] l m r s p a q b e =
    let high : 128 ≤ x = All-head (λ (b : ℕ). 128 ≤ b) x f p in
    let same : x ≡ m = cc in
    absurd (omega arith)
first_stop (x ∷ f) (y ∷ g) l m r s p a q b e =
    let same : x ≡ y = cc in
    let rest : f ++ l ∷ r ≡ g ++ m ∷ s = cc in
    let h = first_stop f g l m r s (All-tail (λ (b : ℕ). 128 ≤ b) x f p) a (All-tail (λ (b : ℕ). 128 ≤ b) y g q) b rest in
    (ap₂ (λ (c : ℕ) (cs : List ℕ). c ∷ cs) same h.0, h.1, h.2)

-- where one stands, not all bytes go on
pub no_stop : (front : List ℕ) (last : ℕ) (rest : List ℕ) → AllGoOn (front ++ last ∷ rest) → last < 128 → ⊥
no_stop [] last rest g low = let high : 128 ≤ last = All-head (λ (b : ℕ). 128 ≤ b) last rest g in omega arith
no_stop (x ∷ front) last rest g low =
    no_stop front last rest (All-tail (λ (b : ℕ). 128 ≤ b) x (front ++ last ∷ rest) g) low

-- nor do the first bytes, where it is one of them
pub no_stop_within : {most : ℕ} (front : List ℕ) (last : ℕ) (rest : List ℕ) → length front < most → last < 128
    → GroupsPast most (front ++ last ∷ rest) → ⊥
no_stop_within {most} front last rest few low past =
    let bytes = front ++ last ∷ rest in
    let size : length (take most bytes) ≡ most = length-take-le most bytes past.enough in
    let high : 128 ≤ get_or (take most bytes) (length front) 0 =
    All-get_or (λ (b : ℕ). 128 ≤ b) (take most bytes) (length front) 0 (omega arith) past.goes_on in
    let here : get_or (take most bytes) (length front) 0 ≡ last =
    get_or-take most bytes (length front) 0 few ∙ get_or_at front last rest 0 (length front) refl in
    omega arith

-- ---- one of four stands at the front

-- groups and what follows them, split before the last group
pub group_whole : {most : ℕ} (n : ℕ) (a r : List ℕ) (g : Groups most n a) → a ++ r ≡ g.front ++ g.last ∷ r
group_whole n a r g = ap (λ (t : List ℕ). t ++ r) g.whole ∙ append_assoc g.front (g.last ∷ []) r

pub one_group : {most : ℕ} (m n : ℕ) (a b r s : List ℕ) → Groups most m a → Groups most n b → a ++ r ≡ b ++ s
    → (m ≡ n) × (a ≡ b) × (r ≡ s)
one_group m n a b r s g h e =
    let both : g.front ++ g.last ∷ r ≡ h.front ++ h.last ∷ s = sym (group_whole m a r g) ∙ e ∙ group_whole n b s h in
    let same = first_stop g.front h.front g.last h.last r s g.goes_on g.ends h.goes_on h.ends both in
    let bytes : a ≡ b = g.whole ∙ ap₂ (λ (f : List ℕ) (l : ℕ). f ++ l ∷ []) same.0 same.1 ∙ sym h.whole in
    (g.spells ∙ ap number_of bytes ∙ sym h.spells, bytes, same.2)

pub inside_group : {most : ℕ} (n : ℕ) (a r bytes : List ℕ) → GroupsInside most bytes → Groups most n a → bytes ≡ a ++ r
    → ⊥
inside_group n a r bytes i g e = no_stop g.front g.last r (subst AllGoOn (e ∙ group_whole n a r g) i.goes_on) g.ends

pub past_group : {most : ℕ} (n : ℕ) (a r bytes : List ℕ) → GroupsPast most bytes → Groups most n a → bytes ≡ a ++ r → ⊥
past_group {most} n a r bytes p g e =
    no_stop_within g.front g.last r g.at_most g.ends (subst (λ (t : List ℕ). GroupsPast most t) (e ∙ group_whole n a r g) p)

pub zero_group : {most : ℕ} (n : ℕ) (a r bytes : List ℕ) → GroupsInZero most bytes → Groups most n a → bytes ≡ a ++ r
    → ⊥
zero_group n a r bytes z g e =
    let low : 0 < 128 = omega arith in
    let same = first_stop z.front g.front 0 g.last z.rest r z.goes_on low g.goes_on g.ends (sym z.whole ∙ e ∙ group_whole n a r g) in
    let last : 0 ≡ g.last = same.1 in
    let size : length z.front ≡ length g.front = ap length same.0 in
    let some : 0 < g.last = g.shortest (omega (arith, z.not_alone)) in
    omega arith

pub inside_past : {most : ℕ} (bytes : List ℕ) → GroupsInside most bytes → GroupsPast most bytes → ⊥
inside_past bytes i p = omega (arith, i.fewer, p.enough)

pub inside_zero : {most : ℕ} (bytes : List ℕ) → GroupsInside most bytes → GroupsInZero most bytes → ⊥
inside_zero bytes i z = no_stop z.front 0 z.rest (subst AllGoOn z.whole i.goes_on) (omega arith)

pub past_zero : {most : ℕ} (bytes : List ℕ) → GroupsPast most bytes → GroupsInZero most bytes → ⊥
past_zero {most} bytes p z =
    no_stop_within z.front 0 z.rest z.at_most (omega arith) (subst (λ (t : List ℕ). GroupsPast most t) z.whole p)

-- ---- what stands there, as bytes are read one by one

-- the bytes before a place, the byte there and those behind it
pub parted_at : (bytes : List ℕ) (at : ℕ) → at < length bytes
    → bytes ≡ take at bytes ++ get_or bytes at 0 ∷ drop (at + 1) bytes
parted_at bytes at within =
    sym (take-append-drop at bytes) ∙ ap (λ (t : List ℕ). take at bytes ++ t) (drop_more bytes at 0 within)

pub group_at : (most : ℕ) (bytes : List ℕ) (at number : ℕ) → All (λ b. b < 256) bytes → at < length bytes → at < most
    → AllGoOn (take at bytes) → get_or bytes at 0 < 128 → (0 < at → 0 < get_or bytes at 0)
    → number ≡ number_of (take (at + 1) bytes) → Groups most number (take (at + 1) bytes)
group_at most bytes at number are within few on low some spells =
    let size : length (take at bytes) ≡ at = length-take-le at bytes (omega arith) in
    record {
      front = take at bytes;
      last = get_or bytes at 0;
      whole = take_more bytes at 0 within;
      are_bytes = All-take (λ (b : ℕ). b < 256) (at + 1) bytes are;
      goes_on = on;
      ends = low;
      shortest = λ more. some (omega arith);
      at_most = omega arith;
      spells = spells;
    }

pub zero_at : (most : ℕ) (bytes : List ℕ) (at : ℕ) → at < length bytes → at < most → AllGoOn (take at bytes)
    → get_or bytes at 0 ≡ 0
    → 0 < at → GroupsInZero most bytes
zero_at most bytes at within few on zero more =
    let size : length (take at bytes) ≡ at = length-take-le at bytes (omega arith) in
    record {
      front = take at bytes;
      rest = drop (at + 1) bytes;
      whole = parted_at bytes at within ∙ ap (λ (b : ℕ). take at bytes ++ b ∷ drop (at + 1) bytes) zero;
      goes_on = on;
      not_alone = omega arith;
      at_most = omega arith;
    }

pub inside_at : (most : ℕ) (bytes : List ℕ) (at : ℕ) → length bytes ≤ at → at < most → AllGoOn (take at bytes)
    → GroupsInside most bytes
inside_at most bytes at past few on =
    record { goes_on = subst AllGoOn (take_all at bytes past) on; fewer = omega arith }

-- ---- a number has one spelling

-- a number below 128 is spelled by one byte, itself
pub one_byte : (most n : ℕ) → 0 < most → n < 128 → Groups most n (n ∷ [])
one_byte most n some low = record {
  front = [];
  last = n;
  whole = refl;
  are_bytes = All-cons (λ (b : ℕ). b < 256) n [] (omega arith) (All-nil (λ (b : ℕ). b < 256));
  goes_on = All-nil (λ (b : ℕ). 128 ≤ b);
  ends = low;
  shortest = λ more. absurd (omega arith);
  at_most = some;
  spells = omega arith;
}

pub not_empty : {most : ℕ} (n : ℕ) (a : List ℕ) → Groups most n a → 0 < length a
not_empty n a g = omega (arith, ap length g.whole, length_push g.front g.last)

pub most_bytes : {most : ℕ} (n : ℕ) (a : List ℕ) → Groups most n a → length a ≤ most
most_bytes n a g = omega (arith, g.at_most, ap length g.whole, length_push g.front g.last)

-- a number below 128 ^ k has at most k bytes
pub few_bytes : {most : ℕ} (n k : ℕ) (a : List ℕ) → 0 < k → n < 128 ^ k → Groups most n a → length a ≤ k
few_bytes n k a some below g = elim (cases_lt (length g.front) k) [
  | inl less ↦ omega (arith, ap length g.whole, length_push g.front g.last)
  | inr more ↦
      let parts : number_of (g.front ++ g.last ∷ []) ≡ number_of g.front + 128 ^ length g.front * number_of (g.last ∷ []) =
      number_append g.front (g.last ∷ []) in
      let spells : n ≡ number_of (g.front ++ g.last ∷ []) = g.spells ∙ ap number_of g.whole in
      let last : 0 < g.last = g.shortest (omega arith) in
      let low : g.last < 128 = g.ends in
      let power : 128 ^ k ≤ 128 ^ length g.front = pow-le-pow_right (omega arith) more in
      let group : 1 ≤ number_of (g.last ∷ []) = omega arith in
      let product : 128 ^ length g.front * 1 ≤ 128 ^ length g.front * number_of (g.last ∷ []) = mul-le-mul_left (128 ^ length g.front) group in
      absurd (omega arith)
]

pub one_long : {most : ℕ} (n : ℕ) (a : List ℕ) → n < 128 → Groups most n a → length a ≡ 1
one_long n a low g = omega (arith, few_bytes n 1 a (omega arith) (omega arith) g, not_empty n a g)

-- by the division by 128: the first byte is the remainder, and what is left has one spelling
one_list : (a b : List ℕ) (x y : ℕ) → AllGoOn a → AllGoOn b
    → All (λ n. n < 256) (a ++ x ∷ []) → All (λ n. n < 256) (b ++ y ∷ []) → x < 128 → y < 128
    → (0 < length a → 0 < x) → (0 < length b → 0 < y) → number_of (a ++ x ∷ []) ≡ number_of (b ++ y ∷ [])
    → a ++ x ∷ [] ≡ b ++ y ∷ []
one_list [] [] x y g h i j l m p q e =
    let same : x ≡ y = omega arith in
    ap (λ n. n ∷ []) same
one_list [] (w ∷ b) x y g h i j l m p q e =
    let rest : 0 < number_of (b ++ y ∷ []) = last_counts b y (q (omega arith)) m in
    absurd (omega arith)
one_list (z ∷ a) [] x y g h i j l m p q e =
    let rest : 0 < number_of (a ++ x ∷ []) = last_counts a x (p (omega arith)) l in
    absurd (omega arith)
one_list (z ∷ a) (w ∷ b) x y g h i j l m p q e =
    let z_high : 128 ≤ z = All-head (λ n. 128 ≤ n) z a g in
    let w_high : 128 ≤ w = All-head (λ n. 128 ≤ n) w b h in
    let z_byte : z < 256 = All-head (λ n. n < 256) z (a ++ x ∷ []) i in
    let w_byte : w < 256 = All-head (λ n. n < 256) w (b ++ y ∷ []) j in
    let tails : number_of (a ++ x ∷ []) ≡ number_of (b ++ y ∷ []) = omega arith in
    let heads : z ≡ w = omega arith in
    ap₂ (λ n ns. n ∷ ns) heads (one_list a b x y (All-tail (λ n. 128 ≤ n) z a g) (All-tail (λ n. 128 ≤ n) w b h)
    (All-tail (λ n. n < 256) z (a ++ x ∷ []) i) (All-tail (λ n. n < 256) w (b ++ y ∷ []) j) l m
    (λ _. p (omega arith)) (λ _. q (omega arith)) tails)

pub same_groups : {most : ℕ} (n : ℕ) (a b : List ℕ) → Groups most n a → Groups most n b → a ≡ b
same_groups n a b g h =
    let P : List ℕ → Type 0 = λ ns. All (λ n. n < 256) ns in
    g.whole ∙ (one_list g.front h.front g.last h.last g.goes_on h.goes_on (subst P g.whole g.are_bytes)
    (subst P h.whole h.are_bytes) g.ends h.ends g.shortest h.shortest
    (ap number_of (sym g.whole) ∙ (sym g.spells ∙ (h.spells ∙ ap number_of h.whole))) ∙ sym h.whole)
