-- What a front of bytes gives, the bytes give too.
use Rattle.std.proofs.Common.{◌≡◌, ℕ, List, [], ◌∷◌, ◌++◌, map, refl, ap, ap₂, sym, ◌∙◌, inl, inr}
use Rattle.std.proofs.lemmas.List.{append_assoc, append_cancel_left, map-append}
use Rattle.tg_car.specs.CarText.{HeaderText, SectionsText}
use Rattle.tg_car.specs.Fronts.{IsInSection}
use Rattle.tg_car.specs.History.{GoesOn}
use Rattle.tg_car.specs.Laws.{CarLaws}
use Rattle.tg_car.specs.declared.event.Event.{Event}
use Rattle.tg_car.specs.declared.section.Section.{Section as CarSection}
use Rattle.tg_model.specs.Dag.{Section}
use Rattle.tg_car.specs.LawLemmas.{none_in_header, none_in_section}
use Rattle.tg_client.specs.Received.{HasReceived, IsCarOf, in_car, out_of_car, sections_given}
use Rattle.tg_client.proofs.Sections.{back_again, among_sections}

-- the sections at the front of bytes are the first of those with which the bytes go on to the inside of a section
onward : CarLaws → (some all : List CarSection) (d e q r : List ℕ) → SectionsText some e → SectionsText all d → IsInSection r → d ++ r ≡ e ++ q
    → (rest : List CarSection) × (all ≡ some ++ rest)
onward laws [] all d e q r h k inside same = (all, refl)
onward laws (s ∷ some) [] d e q r h k inside same =
    let whole : h.0 ++ (h.1 ++ q) ≡ r =
    sym (append_assoc h.0 h.1 q) ∙ (ap (λ (l : List ℕ). l ++ q) (sym h.2) ∙ (sym same ∙ ap (λ (l : List ℕ). l ++ r) k)) in
    absurd (none_in_section laws s h.0 (h.1 ++ q) r h.3 whole inside)
onward laws (s ∷ some) (t ∷ all) d e q r h k inside same =
    let left : d ++ r ≡ k.0 ++ (k.1 ++ r) = ap (λ (l : List ℕ). l ++ r) k.2 ∙ append_assoc k.0 k.1 r in
    let right : e ++ q ≡ h.0 ++ (h.1 ++ q) = ap (λ (l : List ℕ). l ++ q) h.2 ∙ append_assoc h.0 h.1 q in
    let both : k.0 ++ (k.1 ++ r) ≡ h.0 ++ (h.1 ++ q) = sym left ∙ (same ∙ right) in
    let one = laws.one_section t s k.0 h.0 (k.1 ++ r) (h.1 ++ q) k.3 h.3 both in
    let rests : k.1 ++ r ≡ h.1 ++ q =
    append_cancel_left h.0 (k.1 ++ r) (h.1 ++ q) (ap (λ (l : List ℕ). l ++ (k.1 ++ r)) (sym one.0) ∙ both) in
    let behind = onward laws some all k.1 h.1 q r h.4 k.4 inside rests in
    (behind.0, ap₂ (λ (x : CarSection) (xs : List CarSection). x ∷ xs) one.1 behind.1)

-- bytes that begin with a header and sections give these sections first
begun : CarLaws → (limit : ℕ) (bytes : List ℕ) (given : List Event) (roots : List (List ℕ)) (header e q : List ℕ) (some : List CarSection)
    → HeaderText roots header → SectionsText some e → bytes ≡ header ++ (e ++ q) → GoesOn limit bytes given
    → (rest : List Section) × (sections_given given ≡ map out_of_car some ++ rest)
begun laws limit bytes given roots header e q some text h whole (inl b) =
    absurd (none_in_header laws roots header (e ++ q) bytes text (sym whole) b.inside)
begun laws limit bytes given roots header e q some text h whole (inr a) =
    let own = a.1.reaches in
    let both : own.header ++ (own.done ++ a.0) ≡ header ++ (e ++ q) = sym own.whole ∙ whole in
    let headers = laws.one_header own.roots roots own.header header (own.done ++ a.0) (e ++ q) own.header_is text both in
    let rests : own.done ++ a.0 ≡ e ++ q =
    append_cancel_left header (own.done ++ a.0) (e ++ q) (ap (λ (l : List ℕ). l ++ (own.done ++ a.0)) (sym headers.0) ∙ both) in
    let behind = onward laws some a.1.sections own.done e q a.0 h own.sections_are a.1.inside rests in
    (map out_of_car behind.0, among_sections limit bytes given a.0 a.1 ∙ (ap (map out_of_car) behind.1 ∙ map-append out_of_car some behind.0))

going_on : CarLaws → (limit : ℕ) (heard more : List ℕ) (given other : List Event) → GoesOn limit heard given → GoesOn limit (heard ++ more) other
    → (rest : List Section) × (sections_given other ≡ sections_given given ++ rest)
going_on laws limit heard more given other (inl b) on =
    (sections_given other, ap (λ (l : List Section). l ++ sections_given other) (sym (ap sections_given b.nothing_given)))
going_on laws limit heard more given other (inr a) on =
    let own = a.1.reaches in
    let whole : heard ++ more ≡ own.header ++ (own.done ++ (a.0 ++ more)) =
    ap (λ (l : List ℕ). l ++ more) own.whole
    ∙ (append_assoc own.header (own.done ++ a.0) more ∙ ap (λ (l : List ℕ). own.header ++ l) (append_assoc own.done a.0 more)) in
    let first = begun laws limit (heard ++ more) other own.roots own.header own.done (a.0 ++ more) a.1.sections own.header_is own.sections_are whole on in
    (first.0, first.1 ∙ ap (λ (l : List Section). l ++ first.0) (sym (among_sections limit heard given a.0 a.1)))

pub front : CarLaws → (limit : ℕ) (heard more : List ℕ) (some sections : List Section) → HasReceived limit heard some
    → HasReceived limit (heard ++ more) sections → (rest : List Section) × (sections ≡ some ++ rest)
front laws limit heard more some sections a b =
    let on = going_on laws limit heard more a.given b.given a.goes_on b.goes_on in
    (on.0, sym b.sections_are ∙ (on.1 ∙ ap (λ (l : List Section). l ++ on.0) a.sections_are))

pub behind : CarLaws → (limit : ℕ) (car more : List ℕ) (sections all : List Section) → IsCarOf car sections → HasReceived limit (car ++ more) all
    → (rest : List Section) × (all ≡ sections ++ rest)
behind laws limit car more sections all c b =
    let text = c.1 in
    let whole : car ++ more ≡ text.header ++ (text.rest ++ more) =
    ap (λ (l : List ℕ). l ++ more) text.whole ∙ append_assoc text.header text.rest more in
    let first = begun laws limit (car ++ more) b.given c.0 text.header text.rest more (map in_car sections) text.header_is text.sections_are whole b.goes_on in
    (first.0, sym b.sections_are ∙ (first.1 ∙ ap (λ (l : List Section). l ++ first.0) (back_again sections)))
