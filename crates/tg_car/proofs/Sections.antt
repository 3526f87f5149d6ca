-- No section begins another, and bytes have one division into sections.
use Rattle.std.proofs.Common.{◌≡◌, ℕ, ◌+◌, ◌^◌, ◌<◌, ◌≤◌, List, [], ◌∷◌, ◌++◌, length, take, refl, ap, ap₂, sym, ◌∙◌, subst, arith}
use Rattle.std.proofs.lemmas.List.{append_assoc, append-nil, append_cancel_left, length-append, take_at}
use Rattle.tg_car.specs.TextLaws.{TextLaws}
use Rattle.tg_varint.specs.GroupLaws.{most_bytes}
use Rattle.tg_varint.specs.Varint.{VarintSpelling}
use Rattle.tg_car.specs.declared.section.Section.{Section}
use Rattle.tg_car.specs.CarText.{SectionText, SectionsText}
use Rattle.tg_car.specs.declared.event.Event.{Event}
use Rattle.tg_car.specs.declared.event.Event.TheVariants as events
use Rattle.tg_car.specs.Faults.{shown}
use Rattle.tg_car.specs.Fronts.{IsInSection}
use Rattle.tg_car.specs.History.{ArePlaced}
use Rattle.tg_car.specs.Heads.{HeadText}
use Rattle.tg_car.proofs.Heads.{one_head}

-- the length and the CID of a section
pub section_head : (s : Section) (a : List ℕ) → (t : SectionText s a) → HeadText s.cid (length s.block) (t.size ++ t.name)
section_head s a t = record { size = t.size; name = t.name; whole = refl; size_is = t.size_is; name_is = t.name_is }

pub section_whole : (s : Section) (a : List ℕ) → (t : SectionText s a) → a ≡ (t.size ++ t.name) ++ s.block
section_whole s a t = t.whole ∙ sym (append_assoc t.size t.name s.block)

pub one_section : TextLaws → (s t : Section) (u v x y : List ℕ) → SectionText s u → SectionText t v → u ++ x ≡ v ++ y → (u ≡ v) × (s ≡ t)
one_section laws s t u v x y h k e =
    let a = h.size ++ h.name in
    let b = k.size ++ k.name in
    let left : u ++ x ≡ a ++ (s.block ++ x) = ap (λ (l : List ℕ). l ++ x) (section_whole s u h) ∙ append_assoc a s.block x in
    let right : v ++ y ≡ b ++ (t.block ++ y) = ap (λ (l : List ℕ). l ++ y) (section_whole t v k) ∙ append_assoc b t.block y in
    let both : a ++ (s.block ++ x) ≡ b ++ (t.block ++ y) = sym left ∙ (e ∙ right) in
    let same = one_head laws s.cid t.cid (length s.block) (length t.block) a b (s.block ++ x) (t.block ++ y) (section_head s u h) (section_head t v k) both in
    let rests : s.block ++ x ≡ t.block ++ y =
    append_cancel_left b (s.block ++ x) (t.block ++ y) (ap (λ (l : List ℕ). l ++ (s.block ++ x)) (sym same.bytes) ∙ both) in
    let blocks : s.block ≡ t.block =
    sym (take_at s.block x (length s.block) refl)
    ∙ (ap₂ (λ (n : ℕ) (l : List ℕ). take n l) same.numbers rests ∙ take_at t.block y (length t.block) refl) in
    let sections : s ≡ t = ap₂ (λ c b. record { cid = c; block = b }) same.cids blocks in (
      section_whole s u h ∙ (ap₂ (λ (p q : List ℕ). p ++ q) same.bytes blocks ∙ sym (section_whole t v k)),
      sections,
    )

-- no whole section stands at the front of bytes inside a section
pub none_inside : TextLaws → (t : Section) (f x r : List ℕ) → SectionText t f → f ++ x ≡ r → IsInSection r → ⊥
none_inside laws t f x r text e inside =
    let whole : f ++ (x ++ inside.more) ≡ (r ++ inside.more) ++ [] =
    sym (append_assoc f x inside.more) ∙ (ap (λ (l : List ℕ). l ++ inside.more) e ∙ sym (append-nil (r ++ inside.more))) in
    let same = one_section laws t inside.section f (r ++ inside.more) (x ++ inside.more) [] text inside.text whole in
    let lengths : length f ≡ length (r ++ inside.more) = ap length same.0 in
    let parts : length (f ++ x) ≡ length r = ap length e in
    let some : 0 < length inside.more = inside.not_whole in
    omega (arith, length-append f x, length-append r inside.more)

-- of two divisions the one that ends inside a section goes on from the other
pub record Onward (ss ts : List Section) (d e q r : List ℕ) : Type 0 where
  pub sections : List Section
  pub middle : List ℕ
  pub sections_are : ss ≡ ts ++ sections
  pub text : SectionsText sections middle
  pub rest : q ≡ middle ++ r

pub onward : TextLaws → (ts ss : List Section) (d e q r : List ℕ) → SectionsText ts e → SectionsText ss d → IsInSection r → d ++ r ≡ e ++ q
    → Onward ss ts d e q r
onward laws [] ss d e q r h k inside same = record {
  sections = ss;
  middle = d;
  sections_are = refl;
  text = k;
  rest = ap (λ (l : List ℕ). l ++ q) (sym h) ∙ sym same;
}
onward laws (t ∷ ts) [] d e q r h k inside same =
    let whole : h.0 ++ (h.1 ++ q) ≡ r =
    sym (append_assoc h.0 h.1 q) ∙ (ap (λ (l : List ℕ). l ++ q) (sym h.2) ∙ (sym same ∙ ap (λ (l : List ℕ). l ++ r) k)) in
    absurd (none_inside laws t h.0 (h.1 ++ q) r h.3 whole inside)
onward laws (t ∷ ts) (s ∷ ss) d e q r h k inside same =
    let left : d ++ r ≡ k.0 ++ (k.1 ++ r) = ap (λ (l : List ℕ). l ++ r) k.2 ∙ append_assoc k.0 k.1 r in
    let right : e ++ q ≡ h.0 ++ (h.1 ++ q) = ap (λ (l : List ℕ). l ++ q) h.2 ∙ append_assoc h.0 h.1 q in
    let both : k.0 ++ (k.1 ++ r) ≡ h.0 ++ (h.1 ++ q) = sym left ∙ (same ∙ right) in
    let one = one_section laws s t k.0 h.0 (k.1 ++ r) (h.1 ++ q) k.3 h.3 both in
    let rests : k.1 ++ r ≡ h.1 ++ q =
    append_cancel_left h.0 (k.1 ++ r) (h.1 ++ q) (ap (λ (l : List ℕ). l ++ (k.1 ++ r)) (sym one.0) ∙ both) in
    let rest = onward laws ts ss k.1 h.1 q r h.4 k.4 inside rests in
    record {
      sections = rest.sections;
      middle = rest.middle;
      sections_are = ap₂ (λ x (xs : List Section). x ∷ xs) one.1 rest.sections_are;
      text = rest.text;
      rest = rest.rest;
    }

pub push_section : (ss : List Section) (s : Section) (d f : List ℕ) → SectionsText ss d → SectionText s f → SectionsText (ss ++ s ∷ []) (d ++ f)
push_section [] s d f h k = (f, [], ap (λ (l : List ℕ). l ++ f) h ∙ sym (append-nil f), k, refl)
push_section (t ∷ ss) s d f h k =
    (h.0, h.1 ++ f, ap (λ (l : List ℕ). l ++ f) h.2 ∙ append_assoc h.0 h.1 f, h.3, push_section ss s h.1 f h.4 k)

-- one more section behind those that are given
pub push_placed : (at : ℕ) (ss : List Section) (s : Section) (d f : List ℕ) (given : List Event) (place size : ℕ) → ArePlaced at ss d given
    → SectionText s f → place ≡ shown (at + length d) → size ≡ length f
    → ArePlaced at (ss ++ s ∷ []) (d ++ f) (given ++ events.Section place size s ∷ [])
push_placed at [] s d f given place size h k p q =
    let here : at + length d ≡ at = ap (λ (l : List ℕ). at + length l) h.0 ∙ omega arith in (
      f,
      [],
      [],
      ap (λ (l : List ℕ). l ++ f) h.0 ∙ sym (append-nil f),
      k,
      ap (λ (l : List Event). l ++ events.Section place size s ∷ []) h.1
          ∙ ap₂ (λ (m n : ℕ). events.Section m n s ∷ []) (p ∙ ap shown here) q,
      (refl, refl),
    )
push_placed at (t ∷ ss) s d f given place size h k p q =
    let long : length d ≡ length h.0 + length h.1 = ap length h.3 ∙ length-append h.0 h.1 in
    let there : at + length d ≡ (at + length h.0) + length h.1 = omega arith in (
      h.0,
      h.1 ++ f,
      h.2 ++ events.Section place size s ∷ [],
      ap (λ (l : List ℕ). l ++ f) h.3 ∙ append_assoc h.0 h.1 f,
      h.4,
      ap (λ (l : List Event). l ++ events.Section place size s ∷ []) h.5,
      push_placed (at + length h.0) ss s h.1 f h.2 place size h.6 k (p ∙ ap shown there) q,
    )

-- the sections of bytes are given in one way
pub same_placed : TextLaws → (at : ℕ) (ss : List Section) (d e x y : List ℕ) (given other : List Event) → ArePlaced at ss d given → ArePlaced at ss e other
    → d ++ x ≡ e ++ y → given ≡ other
same_placed laws at [] d e x y given other h k same = h.1 ∙ sym k.1
same_placed laws at (s ∷ ss) d e x y given other h k same =
    let left : d ++ x ≡ h.0 ++ (h.1 ++ x) = ap (λ (l : List ℕ). l ++ x) h.3 ∙ append_assoc h.0 h.1 x in
    let right : e ++ y ≡ k.0 ++ (k.1 ++ y) = ap (λ (l : List ℕ). l ++ y) k.3 ∙ append_assoc k.0 k.1 y in
    let both : h.0 ++ (h.1 ++ x) ≡ k.0 ++ (k.1 ++ y) = sym left ∙ (same ∙ right) in
    let one = one_section laws s s h.0 k.0 (h.1 ++ x) (k.1 ++ y) h.4 k.4 both in
    let rests : h.1 ++ x ≡ k.1 ++ y = append_cancel_left k.0 (h.1 ++ x) (k.1 ++ y) (ap (λ (l : List ℕ). l ++ (h.1 ++ x)) (sym one.0) ∙ both) in
    let behind : ArePlaced (at + length h.0) ss k.1 k.2 = subst (λ (l : List ℕ). ArePlaced (at + length l) ss k.1 k.2) (sym one.0) k.6 in
    let more : h.2 ≡ k.2 = same_placed laws (at + length h.0) ss h.1 k.1 x y h.2 k.2 h.6 behind rests in
    h.5 ∙ (ap₂ (λ (l : List ℕ) (m : List Event). events.Section (shown at) (length l) s ∷ m) one.0 more ∙ sym k.5)

-- a section has one text
pub section_text : TextLaws → (s : Section) (u v : List ℕ) → SectionText s u → SectionText s v → u ≡ v
section_text laws s u v h k =
    let names : h.name ≡ k.name = laws.cids.one_bytes s.cid h.name k.name h.name_is k.name_is in
    let sized : VarintSpelling (length k.name + length s.block) h.size =
    subst (λ (l : List ℕ). VarintSpelling (length l + length s.block) h.size) names h.size_is in
    let sizes : h.size ≡ k.size = laws.varints.one_spelling (length k.name + length s.block) h.size k.size sized k.size_is in
    h.whole ∙ (ap₂ (λ (p q : List ℕ). p ++ (q ++ s.block)) sizes names ∙ sym k.whole)

-- a section has fewer than 2 ^ 63 + 9 bytes
pub section_long : TextLaws → (s : Section) (bytes : List ℕ) → SectionText s bytes → length bytes < 2 ^ 63 + 9
section_long laws s bytes h =
    let below : length h.name + length s.block < 2 ^ 63 = laws.varints.below (length h.name + length s.block) h.size h.size_is in
    let size : length h.size ≤ 9 = most_bytes (length h.name + length s.block) h.size h.size_is in
    let whole : length bytes ≡ length (h.size ++ (h.name ++ s.block)) = ap length h.whole in
    omega (arith, length-append h.size (h.name ++ s.block), length-append h.name s.block)
