-- Lines at the front of bytes: there is one.
use Rattle.std.proofs.Common.{◌≡◌, ◌≢◌, ℕ, List, [], ◌∷◌, ◌++◌, refl, sym, ap, ◌∙◌, arith, append_assoc}
use Rattle.std.proofs.lemmas.List.Elements.{All-head, All-tail, All-nil, All-cons}
use Rattle.httparse.specs.Grammar.{LineEnd, print_end, crlf, lf}
use Rattle.tg_http.specs.HeadText.{HasNoFeed, IsLine}

-- a line feed behind bytes that have none stands at one place
same_fronts : (a b : List ℕ) (r q : List ℕ) → HasNoFeed a → HasNoFeed b → a ++ 10 ∷ r ≡ b ++ 10 ∷ q → (a ≡ b) × (r ≡ q)
same_fronts [] [] r q f g e = (refl, cc)
same_fronts [] (y ∷ b) r q f g e = absurd (All-head (λ b. b ≢ 10) y b g (cc))
same_fronts (x ∷ a) [] r q f g e = absurd (All-head (λ b. b ≢ 10) x a f (cc))
same_fronts (x ∷ a) (y ∷ b) r q f g e =
    let tails : a ++ 10 ∷ r ≡ b ++ 10 ∷ q = cc in
    let same = same_fronts a b r q (All-tail (λ b. b ≢ 10) x a f) (All-tail (λ b. b ≢ 10) y b g) tails in
    let heads : x ≡ y = cc in
    (cc (same.0, heads), same.1)

-- a line at the front is the first
pub one_line : (a b : List ℕ) (r q : List ℕ) → IsLine a → IsLine b → a ++ r ≡ b ++ q → (a ≡ b) × (r ≡ q)
one_line a b r q l m e =
    let left : a ++ r ≡ l.front ++ 10 ∷ r = rw l.whole (append_assoc l.front (10 ∷ []) r) in
    let right : b ++ q ≡ m.front ++ 10 ∷ q = rw m.whole (append_assoc m.front (10 ∷ []) q) in
    let same = same_fronts l.front m.front r q l.inside m.inside (sym left ∙ e ∙ right) in
    (l.whole ∙ ap (λ (t : List ℕ). t ++ 10 ∷ []) same.0 ∙ sym m.whole, same.1)

-- an empty line is a line
pub end_line : (end : LineEnd) → IsLine (print_end end)
end_line crlf = record { front = 13 ∷ []; inside = All-cons (λ b. b ≢ 10) 13 [] (λ e. omega (arith, e)) (All-nil (λ b. b ≢ 10)); whole = refl }
end_line lf = record { front = []; inside = All-nil (λ b. b ≢ 10); whole = refl }

-- where a line ends there is a line feed
pub feed_in_line : (a : List ℕ) (r : List ℕ) → IsLine a → HasNoFeed (a ++ r) → ⊥
feed_in_line a r l none = feed l.front r (rw (l.whole, append_assoc l.front (10 ∷ []) r) at none)
  where
    feed : (front r : List ℕ) → HasNoFeed (front ++ 10 ∷ r) → ⊥
    feed [] r none = All-head (λ b. b ≢ 10) 10 r none refl
    feed (x ∷ front) r none = feed front r (All-tail (λ b. b ≢ 10) x (front ++ 10 ∷ r) none)
