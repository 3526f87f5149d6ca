-- What follows from the laws of CARs.
use Rattle.std.proofs.Common.{◌≡◌, ℕ, ◌<◌, List, [], ◌++◌, length, ap, sym, ◌∙◌, arith}
use Rattle.std.proofs.lemmas.List.{append_assoc, append-nil, length-append}
use Rattle.tg_car.specs.CarText.{HeaderText, SectionText}
use Rattle.tg_car.specs.Fronts.{IsInHeader, IsInSection}
use Rattle.tg_car.specs.Laws.{CarLaws}
use Rattle.tg_car.specs.declared.section.Section.{Section}

-- the bytes with those that are to come, behind a text at their front
with_more : (text rest bytes more : List ℕ) → text ++ rest ≡ bytes → text ++ (rest ++ more) ≡ (bytes ++ more) ++ []
with_more text rest bytes more e =
    sym (append_assoc text rest more) ∙ (ap (λ (l : List ℕ). l ++ more) e ∙ sym (append-nil (bytes ++ more)))

too_long : (text rest bytes more : List ℕ) → text ++ rest ≡ bytes → text ≡ bytes ++ more → 0 < length more → ⊥
too_long text rest bytes more e same some =
    let lengths : length text ≡ length (bytes ++ more) = ap length same in
    let parts : length (text ++ rest) ≡ length bytes = ap length e in
    omega (arith, length-append text rest, length-append bytes more)

-- no whole header stands at the front of bytes inside a header
pub none_in_header : CarLaws → (roots : List (List ℕ)) (header rest bytes : List ℕ) → HeaderText roots header
    → header ++ rest ≡ bytes → IsInHeader bytes → ⊥
none_in_header laws roots header rest bytes text e inside =
    let same = laws.one_header roots inside.roots header (bytes ++ inside.more) (rest ++ inside.more) [] text inside.text (with_more header rest bytes inside.more e) in
    too_long header rest bytes inside.more e same.0 inside.not_whole

-- and no whole section at the front of bytes inside a section
pub none_in_section : CarLaws → (section : Section) (text rest bytes : List ℕ) → SectionText section text
    → text ++ rest ≡ bytes → IsInSection bytes → ⊥
none_in_section laws section text rest bytes text_is e inside =
    let same = laws.one_section section inside.section text (bytes ++ inside.more) (rest ++ inside.more) [] text_is inside.text (with_more text rest bytes inside.more e) in
    too_long text rest bytes inside.more e same.0 inside.not_whole
