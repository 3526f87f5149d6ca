-- What was heard carries one list of sections.
use Rattle.std.proofs.Common.{◌≡◌, ℕ, ◌<◌, Bool, true, false, List, [], ◌∷◌, ◌++◌, length, map, refl, sym, ap, ap₂, subst, ◌∙◌, arith}
use Rattle.std.proofs.lemmas.List.{append-nil, append_cancel_left, length-append}
use Rattle.tg_body.specs.Bodies.{BodyText}
use Rattle.tg_body.specs.Laws.{OneWholeBody}
use Rattle.tg_car.specs.CarText.{CarText, SectionText, SectionsText}
use Rattle.tg_car.specs.Laws.{CarLaws}
use Rattle.tg_car.specs.declared.section.Section.{Section as CarSection}
use Rattle.tg_client.specs.Received.{in_car, out_of_car}
use Rattle.tg_http.specs.Heads.{ReplyStays}
use Rattle.tg_http.specs.declared.framing.Framing.{Framing}
use Rattle.tg_http.specs.declared.framing.Framing.TheVariants as framings
use Rattle.tg_http.specs.declared.reply.ReplyHead.{ReplyHead}
use Rattle.tg_model.specs.Dag.{Section}
use Rattle.tg_model.specs.Queries.{QueryParts}
use Rattle.tg_model.specs.declared.queries.Form.{Form}
use Rattle.tg_model.specs.declared.queries.Form.TheVariants as forms
use Rattle.tg_varint.specs.GroupLaws.{not_empty}
use Rattle.tg_heard.specs.Carried.{BodyCarries, CarriesBehind, IsAbsenceHead, IsAnswerHead}
use Rattle.tg_heard.specs.FinalHeads.{FinalHead}
use Rattle.std.specs.Prelude.{⊤}
use Rattle.tg_heard.specs.Laws.{NotBoth, OneCarried, OneCarriedBy}
use Rattle.tg_heard.proofs.Heads.{final_longer, same_final}

-- ---- one body

-- of two whole bodies behind one another's rest: where they go on until the link closes, nothing follows them
pub one_body : OneWholeBody → (framing : Framing) (body other rest left x y : List ℕ) → BodyText framing body rest → BodyText framing other left → rest ++ x ≡ left ++ y
    → (framing ≡ framings.UntilClose → (x ≡ []) × (y ≡ [])) → body ≡ other
one_body whole (framings.Length n) body other rest left x y b d e closed = (whole (framings.Length n) body other rest left x y (λ same. no_close same) b d e).0
  where
    no_close : framings.Length n ≡ framings.UntilClose → ⊥
    no_close same = cc
one_body whole framings.Chunked body other rest left x y b d e closed = (whole framings.Chunked body other rest left x y (λ same. no_close same) b d e).0
  where
    no_close : framings.Chunked ≡ framings.UntilClose → ⊥
    no_close same = cc
one_body whole framings.UntilClose body other rest left x y b d e closed =
    let none_more = closed refl in
    b ∙ sym (append-nil rest) ∙ ap (λ (l : List ℕ). rest ++ l) (sym none_more.0) ∙ e ∙ ap (λ (l : List ℕ). left ++ l) none_more.1 ∙ append-nil left ∙ sym d
one_body whole framings.Broken body other rest left x y b d e closed = absurd b

-- ---- one list of sections

-- a section is not empty
some_section : (section : CarSection) (bytes : List ℕ) → SectionText section bytes → 0 < length bytes
some_section section bytes t =
    omega (arith, not_empty _ t.size t.size_is, ap length t.whole, length-append t.size (t.name ++ section.block))

-- bytes are of one list of sections
one_sections : CarLaws → (s t : List CarSection) (bytes : List ℕ) → SectionsText s bytes → SectionsText t bytes → s ≡ t
one_sections laws [] [] bytes h k = refl
one_sections laws [] (b ∷ t) bytes h k =
    absurd (omega (arith, some_section b k.0 k.3, ap length k.2, length-append k.0 k.1, ap length h))
one_sections laws (a ∷ s) [] bytes h k =
    absurd (omega (arith, some_section a h.0 h.3, ap length h.2, length-append h.0 h.1, ap length k))
one_sections laws (a ∷ s) (b ∷ t) bytes h k =
    let one = laws.one_section a b h.0 k.0 h.1 k.1 h.3 k.3 (sym h.2 ∙ k.2) in
    let rest = append_cancel_left k.0 h.1 k.1 (ap (λ (l : List ℕ). l ++ h.1) (sym one.0) ∙ sym h.2 ∙ k.2) in
    ap₂ (λ (x : CarSection) (l : List CarSection). x ∷ l) one.1 (one_sections laws s t k.1 (subst (SectionsText s) rest h.4) k.4)

-- a CAR is of one list of sections
one_car : CarLaws → (r q : List (List ℕ)) (s t : List CarSection) (bytes : List ℕ) → CarText r s bytes → CarText q t bytes → s ≡ t
one_car laws r q s t bytes h k =
    let one = laws.one_header r q h.header k.header h.rest k.rest h.header_is k.header_is (sym h.whole ∙ k.whole) in
    let rest = append_cancel_left k.header h.rest k.rest (ap (λ (l : List ℕ). l ++ h.rest) (sym one.0) ∙ sym h.whole ∙ k.whole) in
    one_sections laws s t k.rest (subst (SectionsText s) rest h.sections_are) k.sections_are

-- sections as a CAR has them are the same sections
plain_again : (sections : List Section) → map out_of_car (map in_car sections) ≡ sections
plain_again [] = refl
plain_again (s ∷ sections) = ap (λ (l : List Section). s ∷ l) (plain_again sections)

-- a body carries one list of sections
one_carried_in : CarLaws → (form : Form) (q : QueryParts) (body other : List ℕ) (s t : List Section) → BodyCarries form q body s → BodyCarries form q other t → body ≡ other → s ≡ t
one_carried_in laws forms.Raw q body other s t h k e =
    h ∙ ap (λ (l : List ℕ). record { cid = q.root; block = l } ∷ []) e ∙ sym k
one_carried_in laws forms.Car q body other s t h k e =
    let same = one_car laws h.0 k.0 (map in_car s) (map in_car t) other (subst (CarText h.0 (map in_car s)) e h.1) k.1 in
    sym (plain_again s) ∙ ap (map out_of_car) same ∙ plain_again t

-- ---- what is carried is one

-- behind whichever heads, sections are carried behind one final head
same_head : ReplyStays → (IsHead IsOther : ReplyHead → Type 0) (heard : List ℕ) (ended later : Bool) (q : QueryParts) (sections others : List Section)
    → (a : CarriesBehind IsHead heard ended q sections) (b : CarriesBehind IsOther heard later q others)
    → (a.head ≡ b.head) × (a.rest ++ a.more ≡ b.rest ++ b.more)
same_head stays IsHead IsOther heard ended later q sections others a b =
    let x : FinalHead heard a.head (a.rest ++ a.more) =
    subst (λ (l : List ℕ). FinalHead l a.head (a.rest ++ a.more)) (sym a.heard_is) (final_longer stays a.front a.more a.rest a.head a.final) in
    let y : FinalHead heard b.head (b.rest ++ b.more) =
    subst (λ (l : List ℕ). FinalHead l b.head (b.rest ++ b.more)) (sym b.heard_is) (final_longer stays b.front b.more b.rest b.head b.final) in
    same_final heard (a.rest ++ a.more) (b.rest ++ b.more) a.head b.head x y

module _ (stays : ReplyStays) (laws : CarLaws) (whole : OneWholeBody) (IsHead IsOther : ReplyHead → Type 0) (heard : List ℕ) (ended later : Bool) (q : QueryParts)
    (sections others : List Section) (a : CarriesBehind IsHead heard ended q sections) (b : CarriesBehind IsOther heard later q others) where
  -- behind whichever heads one list of sections is carried
  one_behind : sections ≡ others
  one_behind =
      let same = same_head stays IsHead IsOther heard ended later q sections others a b in
      let framing : a.head.framing ≡ b.head.framing = ap (λ (h : ReplyHead). h.framing) same.0 in
      let body = one_body whole b.head.framing a.body b.body a.rest b.rest a.more b.more (subst (λ (f : Framing). BodyText f a.body a.rest) framing a.body_is) b.body_is same.1
      (λ e. ((a.closed (framing ∙ e)).1, (b.closed e).1)) in
      one_carried_in laws q.form q a.body b.body sections others a.carries b.carries body

-- in the words of the laws
pub one_carried : ReplyStays → CarLaws → OneWholeBody → OneCarried
one_carried stays laws whole heard ended later q sections others a b =
    one_behind stays laws whole (λ head. ⊤) (λ head. ⊤) heard ended later q sections others a b

-- for an answer and for an absence
pub one_carried_by : ReplyStays → CarLaws → OneWholeBody → OneCarriedBy
one_carried_by stays laws whole true true heard ended later q sections others a b =
    one_behind stays laws whole (IsAnswerHead q) (IsAnswerHead q) heard ended later q sections others a b
one_carried_by stays laws whole true false heard ended later q sections others a b =
    one_behind stays laws whole (IsAnswerHead q) (IsAbsenceHead q) heard ended later q sections others a b
one_carried_by stays laws whole false true heard ended later q sections others a b =
    one_behind stays laws whole (IsAbsenceHead q) (IsAnswerHead q) heard ended later q sections others a b
one_carried_by stays laws whole false false heard ended later q sections others a b =
    one_behind stays laws whole (IsAbsenceHead q) (IsAbsenceHead q) heard ended later q sections others a b

-- an answer and an absence have other statuses
pub not_both : ReplyStays → NotBoth
not_both stays heard ended later q sections others a b =
    let same = same_head stays (IsAnswerHead q) (IsAbsenceHead q) heard ended later q sections others a b in
    omega (arith, a.is_head.status, b.is_head.status, ap (λ (h : ReplyHead). h.status) same.0)
