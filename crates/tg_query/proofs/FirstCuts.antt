-- Texts that are cut at the first place of a byte.
use Rattle.std.proofs.Common.{◌≡◌, ◌≢◌, ℕ, ◌+◌, ◌-◌, ◌<◌, ◌≤◌, ltb, Option, Some, None, List, [], ◌∷◌, ◌++◌, All, get_or, length, take, drop, refl, sym, ap, ◌∙◌, subst, arith}
use Rattle.std.specs.List.{position, position_or_len}
use Rattle.std.specs.Prelude.{◌==◌, ◌↔◌}
use Rattle.std.proofs.lemmas.Bool.{cond-false, cond-true, cond_both, eq-eqb, eqb-false, eqb-true, ltb-false, ne_eqb}
use Rattle.std.proofs.lemmas.List.{append-nil, drop_more, get_or-take, length-drop, length-take-le, take-append-drop, take_all}
use Rattle.std.proofs.lemmas.List.Elements.{All-cons, All-from_get_or, All-head, All-nil, All-tail}
use Rattle.std.proofs.lemmas.List.Quantifiers.{position-Some}
use Rattle.std.proofs.lemmas.List.Sums.{fails_before_first}
use Rattle.tg_query.specs.Cuts.{IsCut, behind, cut_first, in_front}

abbrev pub Parts : Type 0
Parts = List ℕ × Option (List ℕ)

-- a front without the byte is what stands before it
front_cut : (byte : ℕ) (front : List ℕ) (rest : Option (List ℕ)) → All (λ (b : ℕ). b ≢ byte) front
    → ◌≡◌ {A = Parts} (cut_first byte (front ++ behind byte rest)) (front, rest)
front_cut byte [] None all = refl
front_cut byte [] (Some rest) all = cond-true (byte == byte) ([], Some rest) (in_front byte (cut_first byte rest)) (eq-eqb byte byte refl)
front_cut byte (b ∷ front) rest all =
    cond-false (b == byte) ([], Some (front ++ behind byte rest)) (in_front b (cut_first byte (front ++ behind byte rest))) (ne_eqb b byte (All-head (λ (b : ℕ). b ≢ byte) b front all))
    ∙ ap (in_front b) (front_cut byte front rest (All-tail (λ (b : ℕ). b ≢ byte) b front all))

pub cut_found : (byte : ℕ) (text front : List ℕ) (rest : Option (List ℕ)) → IsCut byte text front rest
    → ◌≡◌ {A = Parts} (cut_first byte text) (front, rest)
cut_found byte text front rest h = ap (cut_first byte) h.whole ∙ front_cut byte front rest h.none

-- and what is computed is such a cut
pub cut_told : (byte : ℕ) (text : List ℕ) → IsCut byte text (cut_first byte text).0 (cut_first byte text).1
cut_told byte [] = record { whole = refl; none = All-nil (λ (b : ℕ). b ≢ byte) }
cut_told byte (b ∷ text) =
    cond_both (b == byte) ([], Some text) (in_front b (cut_first byte text)) (λ (p : Parts). IsCut byte (b ∷ text) p.0 p.1)
    (λ t. record { whole = ap (λ (n : ℕ). n ∷ text) (eqb-true b byte t); none = All-nil (λ (b : ℕ). b ≢ byte) })
    (λ f.
    let rest = cut_told byte text in
    record { whole = ap (λ (l : List ℕ). b ∷ l) rest.whole; none = All-cons (λ (b : ℕ). b ≢ byte) b (cut_first byte text).0 (eqb-false b byte f) rest.none })

-- ---- by the place at which the byte stands first

no_byte : (byte : ℕ) (text : List ℕ) (at : ℕ) → at ≤ position_or_len (λ (b : ℕ). b == byte) text → (k : ℕ) → k < at → get_or text k 0 ≢ byte
no_byte byte text at h k below = eqb-false (get_or text k 0) byte (fails_before_first (λ (b : ℕ). b == byte) text k 0 (omega arith))

pub cut_at_place : (byte : ℕ) (text : List ℕ) (at : ℕ) → at ≡ position_or_len (λ (b : ℕ). b == byte) text → at < length text → get_or text at 0 ≡ byte
    → ◌≡◌ {A = Parts} (take at text, Some (drop (at + 1) text)) (cut_first byte text)
cut_at_place byte text at is within here =
    let front : All (λ (b : ℕ). b ≢ byte) (take at text) =
    All-from_get_or (λ (b : ℕ). b ≢ byte) (take at text) 0
    (λ i inside.
    let below : i < at = omega (arith, length-take-le at text (omega arith)) in
    subst (λ (n : ℕ). n ≢ byte) (sym (get_or-take at text i 0 below)) (no_byte byte text at (omega arith) i below)) in
    let whole : text ≡ take at text ++ byte ∷ drop (at + 1) text =
    sym (take-append-drop at text)
    ∙ ap (λ (l : List ℕ). take at text ++ l) (drop_more text at 0 within ∙ ap (λ (n : ℕ). n ∷ drop (at + 1) text) here) in
    sym (cut_found byte text (take at text) (Some (drop (at + 1) text)) (record { whole = whole; none = front }))

pub cut_nowhere : (byte : ℕ) (text : List ℕ) → length text ≤ position_or_len (λ (b : ℕ). b == byte) text
    → ◌≡◌ {A = Parts} (text, None) (cut_first byte text)
cut_nowhere byte text h =
    sym
    (cut_found byte text text None
    (record { whole = sym (append-nil text); none = All-from_get_or (λ (b : ℕ). b ≢ byte) text 0 (no_byte byte text (length text) h) }))

-- ---- by what the search for the byte finds

place_is : (byte : ℕ) (text : List ℕ) (at : ℕ) → position (λ (b : ℕ). b == byte) text ≡ Some at → at ≡ position_or_len (λ (b : ℕ). b == byte) text
place_is byte text at = cond_both (ltb (position_or_len (λ (b : ℕ). b == byte) text) (length text)) (Some (position_or_len (λ (b : ℕ). b == byte) text)) None
    (λ (o : Option ℕ). o ≡ Some at → at ≡ position_or_len (λ (b : ℕ). b == byte) text)
    (λ t e. cc)
    (λ f e. absurd cc)

pub cut_here : (byte : ℕ) (text : List ℕ) (at : ℕ) → position (λ (b : ℕ). b == byte) text ≡ Some at
    → ◌≡◌ {A = Parts} (take at text, Some (take (length text - (at + 1)) (drop (at + 1) text))) (cut_first byte text)
cut_here byte text at e =
    let found = position-Some (λ (b : ℕ). b == byte) text at 0 e in
    let all : take (length text - (at + 1)) (drop (at + 1) text) ≡ drop (at + 1) text =
    take_all (length text - (at + 1)) (drop (at + 1) text) (omega (arith, length-drop (at + 1) text)) in
    ap (λ (l : List ℕ). (take at text, Some l)) all ∙ cut_at_place byte text at (place_is byte text at e) found.0 (eqb-true (get_or text at 0) byte found.1)

pub cut_none : (byte : ℕ) (text : List ℕ) → position (λ (b : ℕ). b == byte) text ≡ None → ◌≡◌ {A = Parts} (text, None) (cut_first byte text)
cut_none byte text = cond_both (ltb (position_or_len (λ (b : ℕ). b == byte) text) (length text)) (Some (position_or_len (λ (b : ℕ). b == byte) text)) None
    (λ (o : Option ℕ). o ≡ None → ◌≡◌ {A = Parts} (text, None) (cut_first byte text))
    (λ t e. absurd cc)
    (λ f e. cut_nowhere byte text (ltb-false _ _ f))

pub cut_law : (byte : ℕ) (text front : List ℕ) (rest : Option (List ℕ)) → (◌≡◌ {A = Parts} (cut_first byte text) (front, rest)) ↔ IsCut byte text front rest
cut_law byte text front rest =
    (λ e. subst (λ (p : Parts). IsCut byte text p.0 p.1) e (cut_told byte text), cut_found byte text front rest)
