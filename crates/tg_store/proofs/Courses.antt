-- How bytes are divided into a header and sections.
use Rattle.std.proofs.Common.{◌≡◌, ◌≤◌, ℕ, List, [], ◌∷◌, ◌++◌, length, All, refl, ap, ap₂, sym, subst, ◌∙◌, arith}
use Rattle.std.proofs.lemmas.List.{append-nil, append_assoc, append_cancel_left, length-append}
use Rattle.std.proofs.lemmas.List.Elements.{All-head, All-tail}
use Rattle.tg_car.specs.CarText.{HeaderText, SectionText, SectionsText}
use Rattle.tg_car.specs.Fronts.{IsInSection, Reaches}
use Rattle.tg_car.specs.Laws.{CarLaws}
use Rattle.tg_car.specs.declared.section.Section.{Section}
use Rattle.tg_cid.specs.Limits.{max_block_len}
use Rattle.tg_car.specs.LawLemmas.{none_in_section}

-- ---- sections

-- a section of these begins the bytes, and at least so many are behind it
pub record Begins (Q : Section → Type 0) (bytes : List ℕ) (least : ℕ) : Type 0 where
  pub section : Section
  pub text : List ℕ
  pub more : List ℕ
  pub whole : bytes ≡ text ++ more
  pub text_is : SectionText section text
  pub holds : Q section
  pub left : least ≤ length more

-- of two divisions of the same bytes
pub data Compared (Q : Section → Type 0) (ss ts : List Section) (r q : List ℕ) : Type 0 where
  same : ss ≡ ts → r ≡ q → Compared Q ss ts r q
  left_goes_on : Begins Q r (length q) → Compared Q ss ts r q
  right_goes_on : Begins Q q (length r) → Compared Q ss ts r q

pub compare : CarLaws → (Q : Section → Type 0) (ss ts : List Section) (u v r q : List ℕ) → SectionsText ss u → SectionsText ts v → All Q ss → All Q ts
    → u ++ r ≡ v ++ q → Compared Q ss ts r q
compare laws Q [] [] u v r q h k p p' e = same refl (ap (λ (l : List ℕ). l ++ r) (sym h) ∙ (e ∙ ap (λ (l : List ℕ). l ++ q) k))
compare laws Q [] (t ∷ ts) u v r q h k p p' e = left_goes_on (record {
  section = t;
  text = k.0;
  more = k.1 ++ q;
  whole = ap (λ (l : List ℕ). l ++ r) (sym h) ∙ (e ∙ (ap (λ (l : List ℕ). l ++ q) k.2 ∙ append_assoc k.0 k.1 q));
  text_is = k.3;
  holds = All-head Q t ts p';
  left = omega (arith, length-append k.1 q);
})
compare laws Q (s ∷ ss) [] u v r q h k p p' e = right_goes_on (record {
  section = s;
  text = h.0;
  more = h.1 ++ r;
  whole = ap (λ (l : List ℕ). l ++ q) (sym k) ∙ (sym e ∙ (ap (λ (l : List ℕ). l ++ r) h.2 ∙ append_assoc h.0 h.1 r));
  text_is = h.3;
  holds = All-head Q s ss p;
  left = omega (arith, length-append h.1 r);
})
compare laws Q (s ∷ ss) (t ∷ ts) u v r q h k p p' e =
    let both : h.0 ++ (h.1 ++ r) ≡ k.0 ++ (k.1 ++ q) =
    sym (ap (λ (l : List ℕ). l ++ r) h.2 ∙ append_assoc h.0 h.1 r) ∙ (e ∙ (ap (λ (l : List ℕ). l ++ q) k.2 ∙ append_assoc k.0 k.1 q)) in
    let one = laws.one_section s t h.0 k.0 (h.1 ++ r) (k.1 ++ q) h.3 k.3 both in
    let rests : h.1 ++ r ≡ k.1 ++ q = append_cancel_left k.0 (h.1 ++ r) (k.1 ++ q) (ap (λ (l : List ℕ). l ++ (h.1 ++ r)) (sym one.0) ∙ both) in
    elim (compare laws Q ss ts h.1 k.1 r q h.4 k.4 (All-tail Q s ss p) (All-tail Q t ts p') rests) [
      | same ends left ↦ same (ap₂ (λ (x : Section) (l : List Section). x ∷ l) one.1 ends) left
      | left_goes_on b ↦ left_goes_on b
      | right_goes_on b ↦ right_goes_on b
    ]

-- ---- what was reached

-- two headers at the front of the same bytes
pub record SameHeader (roots other : List (List ℕ)) (rest behind : List ℕ) : Type 0 where
  pub roots_are : roots ≡ other
  pub rests : rest ≡ behind

pub same_header : CarLaws → (roots other : List (List ℕ)) (u v x y : List ℕ) → HeaderText roots u → HeaderText other v → u ++ x ≡ v ++ y → SameHeader roots other x y
same_header laws roots other u v x y h k e =
    let one = laws.one_header roots other u v x y h k e in
    record { roots_are = one.1; rests = append_cancel_left v x y (ap (λ (l : List ℕ). l ++ x) (sym one.0) ∙ e) }

-- two readings of bytes that end inside a section
pub record SameReach (roots other : List (List ℕ)) (ss ts : List Section) (r q : List ℕ) : Type 0 where
  pub roots_are : roots ≡ other
  pub sections_are : ss ≡ ts
  pub rests : r ≡ q

abbrev pub IsSmall : Section → Type 0
IsSmall section = length section.block ≤ max_block_len

pub same_reach : CarLaws → (bytes : List ℕ) (ss ts : List Section) (r q : List ℕ) → (a : Reaches max_block_len bytes ss r) → (b : Reaches max_block_len bytes ts q)
    → IsInSection r → IsInSection q → SameReach a.roots b.roots ss ts r q
same_reach laws bytes ss ts r q a b inside within =
    let head = same_header laws a.roots b.roots a.header b.header (a.done ++ r) (b.done ++ q) a.header_is b.header_is (sym a.whole ∙ b.whole) in
    elim (compare laws IsSmall ss ts a.done b.done r q a.sections_are b.sections_are a.within b.within head.rests) [
      | same sections rests ↦ record { roots_are = head.roots_are; sections_are = sections; rests = rests }
      | left_goes_on g ↦ absurd (none_in_section laws g.section g.text g.more r g.text_is (sym g.whole) inside)
      | right_goes_on g ↦ absurd (none_in_section laws g.section g.text g.more q g.text_is (sym g.whole) within)
    ]

-- ---- sections appended

pub sections_join : (ss ts : List Section) (u v : List ℕ) → SectionsText ss u → SectionsText ts v → SectionsText (ss ++ ts) (u ++ v)
sections_join [] ts u v h k = subst (λ (l : List ℕ). SectionsText ts l) (ap (λ (l : List ℕ). l ++ v) (sym h)) k
sections_join (s ∷ ss) ts u v h k = (h.0, h.1 ++ v, ap (λ (l : List ℕ). l ++ v) h.2 ∙ append_assoc h.0 h.1 v, h.3, sections_join ss ts h.1 v h.4 k)

pub one_text : (section : Section) (text : List ℕ) → SectionText section text → SectionsText (section ∷ []) text
one_text section text h = (text, [], sym (append-nil text), h, refl)
