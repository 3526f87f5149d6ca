-- Numbers that are spelled one after another: there is one at a place, and a list of them is read from the front.
use Rattle.std.proofs.Common.{◌≡◌, ℕ, ◌+◌, ◌≤◌, ◌⊎◌, List, [], ◌∷◌, ◌++◌, length, drop, refl, ap, sym, ◌∙◌, inl, inr, arith}
use Rattle.std.proofs.lemmas.List.{append_assoc, drop-drop, drop_at, length-append}
use Rattle.tg_varint.specs.Varint.{EndsInside, PassesNine, EndsInZero}
use Rattle.tg_varint.specs.Laws.{SpellingLaws, Begins}
use Rattle.tg_varint.specs.Laws.VarintFront.{spelled, inside, too_long, not_shortest}
use Rattle.tg_cid.specs.Faults.{Follows}
use Rattle.tg_cid.specs.Reading.{NumberAt, NoNumberAt}
use Rattle.tg_cid.specs.Spelling.{Varints}
use Rattle.tg_cid.specs.declared.fault.CidFault.{CidFault}
use Rattle.tg_cid.specs.CodeLaws.{varints_push}

pub one_number : SpellingLaws → {bytes : List ℕ} {at m n x y : ℕ} → NumberAt bytes at m x → NumberAt bytes at n y → (m ≡ n) × (x ≡ y)
one_number laws {bytes} {at} {m} {n} a b =
    let one = laws.no_front m n a.spelling b.spelling a.rest b.rest a.spelled b.spelled (sym a.whole ∙ b.whole) in
    (one.1, a.next_is ∙ (ap (λ s. at + length s) one.0 ∙ sym b.next_is))

pub not_both : SpellingLaws → (bytes : List ℕ) (at number next : ℕ) (fault : CidFault) → NumberAt bytes at number next → NoNumberAt bytes at fault → ⊥
not_both laws bytes at number next fault a h =
    let here : Begins (drop at bytes) (spelled number a.spelling) = (a.rest, a.whole, a.spelled) in
    elim h [
      | inl p ↦ let same : spelled number a.spelling ≡ inside = laws.one_front (drop at bytes) (spelled number a.spelling) inside here p.1 in cc
      | inr p ↦ elim p.1 [
        | inl q ↦ let same : spelled number a.spelling ≡ too_long = laws.one_front (drop at bytes) (spelled number a.spelling) too_long here q in cc
        | inr q ↦ let same : spelled number a.spelling ≡ not_shortest = laws.one_front (drop at bytes) (spelled number a.spelling) not_shortest here q in cc
      ]
    ]

-- bytes that end inside a spelling don't break it
not_broken : SpellingLaws → (rest : List ℕ) → EndsInside rest → PassesNine rest ⊎ EndsInZero rest → ⊥
not_broken laws rest i (inl p) = let same : inside ≡ too_long = laws.one_front rest inside too_long i p in cc
not_broken laws rest i (inr p) = let same : inside ≡ not_shortest = laws.one_front rest inside not_shortest i p in cc

pub one_fault : SpellingLaws → (bytes : List ℕ) (at : ℕ) (a b : CidFault) → NoNumberAt bytes at a → NoNumberAt bytes at b → a ≡ b
one_fault laws bytes at a b (inl p) (inl q) = p.0 ∙ sym q.0
one_fault laws bytes at a b (inl p) (inr q) = absurd (not_broken laws (drop at bytes) p.1 q.1)
one_fault laws bytes at a b (inr p) (inl q) = absurd (not_broken laws (drop at bytes) q.1 p.1)
one_fault laws bytes at a b (inr p) (inr q) = p.0 ∙ sym q.0

-- behind a number the rest begins
pub drop_number : {bytes : List ℕ} {at number next : ℕ} (a : NumberAt bytes at number next) → drop next bytes ≡ a.rest
drop_number {bytes} {at} a =
    ap (λ n. drop n bytes) a.next_is
    ∙ (sym (drop-drop (length a.spelling) at bytes)
    ∙ (ap (λ l. drop (length a.spelling) l) a.whole ∙ drop_at a.spelling a.rest (length a.spelling) refl))

pub follows_none : (bytes : List ℕ) → Follows [] bytes 0 (drop 0 bytes)
follows_none bytes = record { front = []; whole = refl; at_is = refl; spelled = refl }

pub follows_more : {numbers bytes : List ℕ} {at number next : ℕ} → Follows numbers bytes at (drop at bytes) → NumberAt bytes at number next
    → Follows (numbers ++ number ∷ []) bytes next (drop next bytes)
follows_more {numbers} {bytes} {at} {number} {next} f a = record {
  front = f.front ++ a.spelling;
  whole =
      f.whole ∙ (ap (λ l. f.front ++ l) (a.whole ∙ ap (λ l. a.spelling ++ l) (sym (drop_number a)))
      ∙ sym (append_assoc f.front a.spelling (drop next bytes)));
  at_is = a.next_is ∙ (ap (λ n. n + length a.spelling) f.at_is ∙ sym (length-append f.front a.spelling));
  spelled = varints_push numbers f.front number a.spelling f.spelled a.spelled;
}

-- the varints of the numbers stand from one place to another, and the rest follows them
pub record Stand (numbers bytes : List ℕ) (from at : ℕ) (rest : List ℕ) : Type 0 where
  pub front : List ℕ
  pub whole : drop from bytes ≡ front ++ rest
  pub at_is : at ≡ from + length front
  pub within : at ≤ length bytes
  pub spelled : Varints numbers front

pub stand : {numbers bytes : List ℕ} {at : ℕ} {rest : List ℕ} → Follows numbers bytes at rest → Stand numbers bytes 0 at rest
stand {numbers} {bytes} {at} {rest} f = record {
  front = f.front;
  whole = f.whole;
  at_is = let e : at ≡ length f.front = f.at_is in omega arith;
  within =
      let e : at ≡ length f.front = f.at_is in
      let l : length bytes ≡ length f.front + length rest = ap length f.whole ∙ length-append f.front rest in
      omega arith;
  spelled = f.spelled;
}

-- the first number is at the first place, and the others stand behind it
pub record First (number : ℕ) (numbers bytes : List ℕ) (from at : ℕ) (rest : List ℕ) : Type 0 where
  pub next : ℕ
  pub here : NumberAt bytes from number next
  pub others : Stand numbers bytes next at rest

pub first : {number : ℕ} {numbers bytes : List ℕ} {from at : ℕ} {rest : List ℕ} → Stand (number ∷ numbers) bytes from at rest
    → First number numbers bytes from at rest
first {number} {numbers} {bytes} {from} {at} {rest} s =
    let v = s.spelled in
    let whole : drop from bytes ≡ v.0 ++ (v.1 ++ rest) = s.whole ∙ (ap (λ l. l ++ rest) v.2 ∙ append_assoc v.0 v.1 rest) in
    let long : length s.front ≡ length v.0 + length v.1 = ap length v.2 ∙ length-append v.0 v.1 in
    let end : at ≡ from + length s.front = s.at_is in
    let fits : at ≤ length bytes = s.within in
    let here : NumberAt bytes from number (from + length v.0) =
    record { spelling = v.0; rest = v.1 ++ rest; whole = whole; next_is = refl; within = omega arith; spelled = v.3 } in
    record {
      next = from + length v.0;
      here = here;
      others = record { front = v.1; whole = drop_number here; at_is = omega arith; within = fits; spelled = v.4 };
    }

-- no number stands between a place and itself
pub none_stand : {bytes : List ℕ} {from at : ℕ} {rest : List ℕ} → Stand [] bytes from at rest → at ≡ from
none_stand {bytes} {from} {at} s =
    let none : length s.front ≡ 0 = ap length s.spelled in
    let end : at ≡ from + length s.front = s.at_is in
    omega arith

pub rest_is : {numbers bytes : List ℕ} {at : ℕ} {rest : List ℕ} → Follows numbers bytes at rest → rest ≡ drop at bytes
rest_is {numbers} {bytes} {at} {rest} f =
    sym (ap (λ l. drop at l) f.whole ∙ drop_at f.front rest at (sym f.at_is))
