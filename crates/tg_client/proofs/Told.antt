-- An input that tells its bytes: those that were heard are a front of them.
use Rattle.std.proofs.Common.{◌≡◌, ℕ, ◌<◌, ◌≤◌, max, List, [], ◌∷◌, ◌++◌, length, map, All, Option, Some, None, refl, ap, sym, ◌∙◌, inl, inr, append-nil, append_assoc, arith}
use Rattle.std.proofs.lemmas.List.{length-append}
use Rattle.std.proofs.lemmas.List.Elements.{All-nil, All-cons}
use Rattle.tg_bytes.specs.Told.{IsNothing, after_front}
use Rattle.tg_car.specs.CarText.{SectionsText}
use Rattle.tg_car.specs.History.{GoesOn}
use Rattle.tg_car.specs.LawLemmas.{none_in_header}
use Rattle.tg_car.specs.Laws.{CarLaws}
use Rattle.tg_car.specs.declared.section.Section.{Section as CarSection}
use Rattle.tg_model.specs.Counts.{greatest}
use Rattle.tg_model.specs.Dag.{Dag, Section}
use Rattle.tg_model.specs.LimitNumbers.{LimitNumbers}
use Rattle.tg_model.specs.Queries.{QueryParts}
use Rattle.tg_model.specs.Traversal.{block_list}
use Rattle.tg_streams.specs.Streams.{Ended, Input, Took}
use Rattle.tg_verify.specs.Laws.{IsWithinLimits}
use Rattle.tg_client.specs.Received.{HasHeader, IsCarOf, in_car}
use Rattle.std.proofs.lemmas.List.{append_cancel_left}

-- what is left
pub record IsLeft (bytes heard unheard : List ℕ) (input : Input) : Type 0 where
  pub left : List ℕ
  pub whole : bytes ≡ heard ++ (unheard ++ left)
  pub ends : Ended input → left ≡ []

left_by : (bytes front : List ℕ) (told : Option (List ℕ)) → Some bytes ≡ after_front front told → (left : List ℕ) × (bytes ≡ front ++ left) × (IsNothing told → left ≡ [])
left_by bytes front None e = absurd (cc e)
left_by bytes front (Some left) e = (left, cc e, λ none. none)

pub left_of : (bytes heard unheard : List ℕ) (input : Input) → input.left_old ≡ Some bytes → Took (heard ++ unheard) input → IsLeft bytes heard unheard input
left_of bytes heard unheard input told took =
    let (left, whole, none) = left_by bytes (heard ++ unheard) input.left_new (sym told ∙ took.left) in
    record { left = left; whole = whole ∙ append_assoc heard unheard left; ends = λ ended. none ended.nothing }

-- all of them were heard
pub all_heard : (bytes heard unheard : List ℕ) (input : Input) → (l : IsLeft bytes heard unheard input) → unheard ≡ [] → Ended input → heard ≡ bytes
all_heard bytes heard unheard input l none ended =
    sym (l.whole ∙ (ap (λ (u : List ℕ). heard ++ (u ++ l.left)) none ∙ (ap (λ (x : List ℕ). heard ++ x) (l.ends ended) ∙ append-nil heard)))

-- ---- the blocks of a DAG within its limits

small_each : (limit : ℕ) (sections : List Section) → greatest (map (λ section. length section.block) sections) ≤ limit → All (λ section. length section.block ≤ limit) sections
small_each limit [] h = All-nil (λ (s : Section). length s.block ≤ limit)
small_each limit (s ∷ sections) h =
    let most = greatest (map (λ (section : Section). length section.block) sections) in
    let both : max (length s.block) most ≤ limit = h in
    All-cons (λ (s : Section). length s.block ≤ limit) s sections (omega (arith, both)) (small_each limit sections (omega (arith, both)))

pub blocks_small : (q : QueryParts) (limits : LimitNumbers) (d : Dag) → IsWithinLimits q limits d → All (λ section. length section.block ≤ limits.block) (block_list q d)
blocks_small q limits d within = small_each limits.block (block_list q d) within.block

-- ---- sections have one text

texts_same : CarLaws → (sections : List CarSection) (d e r : List ℕ) → SectionsText sections d → SectionsText sections e → d ≡ e ++ r → r ≡ []
texts_same laws [] d e r h k same =
    let none : length (e ++ r) ≡ 0 = ap length (sym same ∙ h) in nothing r (omega (arith, none, length-append e r))
  where
    nothing : (r : List ℕ) → length r ≡ 0 → r ≡ []
    nothing [] e = refl
    nothing (x ∷ r) e = absurd (omega (arith, e))
texts_same laws (s ∷ sections) d e r h k same =
    let right : e ++ r ≡ k.0 ++ (k.1 ++ r) = ap (λ (l : List ℕ). l ++ r) k.2 ∙ append_assoc k.0 k.1 r in
    let both : h.0 ++ h.1 ≡ k.0 ++ (k.1 ++ r) = sym h.2 ∙ (same ∙ right) in
    let one = laws.one_section s s h.0 k.0 h.1 (k.1 ++ r) h.3 k.3 both in
    let rests : h.1 ≡ k.1 ++ r = append_cancel_left k.0 h.1 (k.1 ++ r) (ap (λ (l : List ℕ). l ++ h.1) (sym one.0) ∙ both) in
    texts_same laws sections h.1 k.1 r h.4 k.4 rests

-- a CAR of the same sections doesn't go on
pub car_once : CarLaws → (sections : List Section) (bytes car more : List ℕ) → IsCarOf bytes sections → IsCarOf car sections → bytes ≡ car ++ more → 0 < length more → ⊥
car_once laws sections bytes car more (roots, a) (others, b) same some =
    let right : car ++ more ≡ b.header ++ (b.rest ++ more) = ap (λ (l : List ℕ). l ++ more) b.whole ∙ append_assoc b.header b.rest more in
    let both : a.header ++ a.rest ≡ b.header ++ (b.rest ++ more) = sym a.whole ∙ (same ∙ right) in
    let one = laws.one_header roots others a.header b.header a.rest (b.rest ++ more) a.header_is b.header_is both in
    let rests : a.rest ≡ b.rest ++ more = append_cancel_left b.header a.rest (b.rest ++ more) (ap (λ (l : List ℕ). l ++ a.rest) (sym one.0) ∙ both) in
    let none : length more ≡ 0 = ap length (texts_same laws (map in_car sections) a.rest b.rest more a.sections_are b.sections_are rests) in
    absurd (omega (arith, none, some))

-- ---- a header that isn't whole

pub no_header : CarLaws → (limit : ℕ) (sections : List Section) (car more bytes : List ℕ) → IsCarOf car sections → bytes ≡ car ++ more → GoesOn limit bytes [] → ⊥
no_header laws limit sections car more bytes (roots, text) same (inl b) =
    let whole : text.header ++ (text.rest ++ more) ≡ bytes = sym (same ∙ (ap (λ (l : List ℕ). l ++ more) text.whole ∙ append_assoc text.header text.rest more)) in
    none_in_header laws roots text.header (text.rest ++ more) bytes text.header_is whole b.inside
no_header laws limit sections car more bytes is_car same (inr (rest, a)) = let is = a.given_is in absurd (cc is)

pub header_inside : CarLaws → (limit : ℕ) (heard more bytes : List ℕ) → HasHeader limit heard → bytes ≡ heard ++ more → GoesOn limit bytes [] → ⊥
header_inside laws limit heard more bytes h same (inr (rest, a)) = let is = a.given_is in absurd (cc is)
header_inside laws limit heard more bytes h same (inl b) = by h.goes_on
  where
    by : GoesOn limit heard (h.event ∷ h.given) → ⊥
    by (inl none) = let e = none.nothing_given in absurd (cc e)
    by (inr (rest, a)) =
        let own = a.reaches in
        let whole : own.header ++ ((own.done ++ rest) ++ more) ≡ bytes = sym (same ∙ (ap (λ (l : List ℕ). l ++ more) own.whole ∙ append_assoc own.header (own.done ++ rest) more)) in
        none_in_header laws own.roots own.header ((own.done ++ rest) ++ more) bytes own.header_is whole b.inside
