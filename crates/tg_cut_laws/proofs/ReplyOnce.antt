-- The bytes of a reply have one answer, however they are cut.
use Rattle.std.proofs.Common.{◌≡◌, ℕ, ◌<◌, ◌≤◌, Bool, true, false, List, [], ◌++◌, length, refl, sym, ap, subst, ◌∙◌, inl, inr, arith}
use Rattle.std.proofs.lemmas.List.{append-nil, length-append}
use Rattle.std.specs.Prelude.{◌⊎◌}
use Rattle.tg_bytes.specs.Lists.{longer}
use Rattle.tg_cut_laws.proofs.ReplyPairs.{answer_once, behind_answer, behind_once, behind_open, open_once, whole_open}
use Rattle.tg_cut_laws.proofs.ReplyPlaces.{OpenAt, Place, RefusedBehind, WholeAt}
use Rattle.tg_cut_laws.proofs.ReplyViews.{AnsweredAfter, IsSeen, RefusedBefore, answered_after, open_here, seen, total}
use Rattle.tg_cut_laws.specs.Bodies.{BodyCutLaws, IsAnswerBody, IsDueFault}
use Rattle.tg_cut_laws.specs.Replies.{IsOpenIn, ReplyCutLaws}
use Rattle.tg_fetch.specs.Replies.{IsOpenBefore, IsShortBehind}
use Rattle.tg_fetch.specs.declared.fault.FetchFault.{FetchFault}
use Rattle.tg_heard.specs.FinalHeads.{FinalHead, HasBadHead, IsOpenHead}
use Rattle.tg_heard.specs.FrontLaws.{BodyPieceLaws, HeadLaws, IsShort}
use Rattle.tg_http.specs.declared.framing.Framing.TheVariants as framings
use Rattle.tg_http.specs.declared.reply.ReplyHead.{ReplyHead}
use Rattle.tg_model.specs.LimitNumbers.{LimitNumbers}
use Rattle.tg_model.specs.Queries.{QueryParts}

-- ---- all bytes go on behind a final head

-- a body of stated length isn't whole in them
pub record OpenAfter (q : QueryParts) (limits : LimitNumbers) (bytes text : List ℕ) : Type 0 where
  pub head : ReplyHead
  pub rest : List ℕ
  pub final : FinalHead bytes head rest
  pub there : OpenAt q limits bytes head rest text
  pub none_left : there.place.left ≡ []
  pub short : IsShort head.framing there.place.came

-- or the final head isn't whole
abbrev IsOpenAll : QueryParts → LimitNumbers → List ℕ → List ℕ → Type 0
IsOpenAll q limits bytes text = (IsOpenHead bytes × (text ≡ [])) ⊎ OpenAfter q limits bytes text

-- where something is refused, it is so at a place
place_of : (q : QueryParts) (limits : LimitNumbers) (bytes : List ℕ) (head : ReplyHead) (rest : List ℕ) (ended : Bool) (text : List ℕ) (fault : FetchFault)
    → RefusedBehind q limits bytes head rest ended text fault → Place limits bytes head rest
place_of q limits bytes head rest ended text fault (RefusedBehind.at_head place stops none) = place
place_of q limits bytes head rest ended text fault (RefusedBehind.in_body s) = s.place
place_of q limits bytes head rest ended text fault (RefusedBehind.at_end s closed) = s.whole.place
place_of q limits bytes head rest ended text fault (RefusedBehind.is_open o why) = o.place

module _ (heads : HeadLaws) (pieces : BodyPieceLaws) (laws : BodyCutLaws) (q : QueryParts) (limits : LimitNumbers) (bytes : List ℕ) where
  -- bytes whose front begins no reply begin none
  bad_all : (heard left : List ℕ) → bytes ≡ heard ++ left → HasBadHead heard → HasBadHead bytes
  bad_all heard left whole bad = subst HasBadHead (sym whole) (heads.bad_stays heard left bad)

  -- ---- before the final head is whole

  -- no final head is whole where all that may be received was heard without one
  none_before : (heard left rest : List ℕ) (head : ReplyHead) → bytes ≡ heard ++ left → length heard ≡ limits.received → IsOpenHead heard → Place limits bytes head rest → ⊥
  none_before heard left rest head whole full open_head place =
      let l = longer place.heard heard place.left left (sym place.whole ∙ whole) (omega (arith, full, place.within)) in
      heads.open_not_final heard (place.came ++ l.middle) head open_head
      (subst (λ (b : List ℕ). FinalHead b head (place.came ++ l.middle)) (sym l.first) (heads.final_stays place.heard l.middle place.came head place.final))

  -- so bytes that are refused there have no place behind one
  before_place : (ended : Bool) (x : List ℕ) (f : FetchFault) (head : ReplyHead) (rest : List ℕ) → RefusedBefore limits bytes ended x f → FinalHead bytes head rest
      → Place limits bytes head rest → ⊥
  before_place ended x f head rest (RefusedBefore.bad is none heard left whole within bad) final place = heads.bad_not_final bytes rest head (bad_all heard left whole bad) final
  before_place ended x f head rest (RefusedBefore.cut is none end within open_head) final place = heads.open_not_final bytes rest head open_head final
  before_place ended x f head rest (RefusedBefore.past is none heard left whole full some open_head) final place =
      none_before heard left rest head whole full open_head place

  -- bytes with which no reply begins are no front of a head that isn't whole
  bad_past : (heard left came more : List ℕ) → bytes ≡ heard ++ left → length heard ≤ limits.received → HasBadHead heard → bytes ≡ came ++ more → length came ≡ limits.received
      → IsOpenHead came → ⊥
  bad_past heard left came more whole within bad also full open_head =
      let l = longer heard came left more (sym whole ∙ also) (omega (arith, within, full)) in
      heads.bad_not_open came (subst HasBadHead (sym l.first) (heads.bad_stays heard l.middle bad)) open_head

  -- bytes that are more than may be received aren't within
  all_past : (heard left : List ℕ) → bytes ≡ heard ++ left → length heard ≡ limits.received → 0 < length left → length bytes ≤ limits.received → ⊥
  all_past heard left whole full some within = omega (arith, full, some, within, ap length whole, length-append heard left)

  -- two refusals there are one
  before_once : (ended end : Bool) (x y : List ℕ) (f g : FetchFault) → RefusedBefore limits bytes ended x f → RefusedBefore limits bytes end y g → (x ≡ y) × (f ≡ g)
  before_once ended end x y f g (RefusedBefore.bad is none heard left whole within bad) (RefusedBefore.bad also nor came more all few has) = (none ∙ sym nor, is ∙ sym also)
  before_once ended end x y f g (RefusedBefore.bad is none heard left whole within bad) (RefusedBefore.cut also nor over few open_head) = (none ∙ sym nor, is ∙ sym also)
  before_once ended end x y f g (RefusedBefore.bad is none heard left whole within bad) (RefusedBefore.past also nor came more all full some open_head) =
      absurd (bad_past heard left came more whole within bad all full open_head)
  before_once ended end x y f g (RefusedBefore.cut is none over few open_head) (RefusedBefore.bad also nor came more all within has) = (none ∙ sym nor, is ∙ sym also)
  before_once ended end x y f g (RefusedBefore.cut is none over few open_head) (RefusedBefore.cut also nor gone less other) = (none ∙ sym nor, is ∙ sym also)
  before_once ended end x y f g (RefusedBefore.cut is none over few open_head) (RefusedBefore.past also nor came more all full some other) =
      absurd (all_past came more all full some few)
  before_once ended end x y f g (RefusedBefore.past is none heard left whole full some open_head) (RefusedBefore.bad also nor came more all few has) =
      absurd (bad_past came more heard left all few has whole full open_head)
  before_once ended end x y f g (RefusedBefore.past is none heard left whole full some open_head) (RefusedBefore.cut also nor over few other) =
      absurd (all_past heard left whole full some few)
  before_once ended end x y f g (RefusedBefore.past is none heard left whole full some open_head) (RefusedBefore.past also nor came more all most any other) =
      (none ∙ sym nor, is ∙ sym also)

  -- ---- two views

  -- a refusal behind a final head is one behind that final head as another has it
  moved : (ended : Bool) (x : List ℕ) (f : FetchFault) (head other : ReplyHead) (rest left : List ℕ) → FinalHead bytes head rest → FinalHead bytes other left
      → RefusedBehind q limits bytes head rest ended x f → RefusedBehind q limits bytes other left ended x f
  moved ended x f head other rest left a b r =
      let same = heads.one_final bytes rest left head other a b in
      subst (λ (l : List ℕ). RefusedBehind q limits bytes other l ended x f) same.1 (subst (λ (h : ReplyHead). RefusedBehind q limits bytes h rest ended x f) same.0 r)

  -- two refusals are one
  seen_once : (ended end : Bool) (x y : List ℕ) (f g : FetchFault) → IsDueFault f → IsDueFault g → IsSeen q limits bytes ended x f → IsSeen q limits bytes end y g
      → (x ≡ y) × (f ≡ g)
  seen_once ended end x y f g due also (inl a) (inl b) = before_once ended end x y f g a b
  seen_once ended end x y f g due also (inl a) (inr b) =
      absurd (before_place ended x f b.head b.rest a b.final (place_of q limits bytes b.head b.rest end y g b.refused))
  seen_once ended end x y f g due also (inr a) (inl b) =
      absurd (before_place end y g a.head a.rest b a.final (place_of q limits bytes a.head a.rest ended x f a.refused))
  seen_once ended end x y f g due also (inr a) (inr b) =
      behind_once heads pieces laws q limits bytes b.head b.rest ended end x y f g due also (moved ended x f a.head b.head a.rest b.rest a.final b.final a.refused) b.refused

  -- the answer is refused by none
  seen_answer : (ended end : Bool) (x y : List ℕ) (f : FetchFault) → IsDueFault f → IsSeen q limits bytes ended x f → AnsweredAfter q limits bytes end y → ⊥
  seen_answer ended end x y f due (inl a) n = before_place ended x f n.head n.rest a n.final n.whole.place
  seen_answer ended end x y f due (inr a) n =
      behind_answer heads pieces laws q limits bytes n.head n.rest ended x y f n.sections due (moved ended x f a.head n.head a.rest n.rest a.final n.final a.refused)
      n.whole n.answer

  -- and is one
  two_answers : (ended end : Bool) (x y : List ℕ) → AnsweredAfter q limits bytes ended x → AnsweredAfter q limits bytes end y → x ≡ y
  two_answers ended end x y a b =
      let same = heads.one_final bytes a.rest b.rest a.head b.head a.final b.final in
      by_place b.head b.rest same.0 same.1 b.whole b.answer
    where
      by_place : (head : ReplyHead) (rest : List ℕ) → a.head ≡ head → a.rest ≡ rest → (w : WholeAt limits bytes head rest) → IsAnswerBody q limits head w.body b.sections y → x ≡ y
      by_place head rest e d w answer =
          subst (λ (h : ReplyHead). (w : WholeAt limits bytes h rest) → IsAnswerBody q limits h w.body b.sections y → x ≡ y) e
          (subst (λ (l : List ℕ). (w : WholeAt limits bytes a.head l) → IsAnswerBody q limits a.head w.body b.sections y → x ≡ y) d
          (λ w answer. answer_once heads pieces laws q limits bytes a.head a.rest x y a.sections b.sections a.whole w a.answer answer)) w answer

  -- ---- where all bytes go on

  -- while the link had not ended
  never : false ≡ true → ⊥
  never e = cc

  -- bytes that go on do so before or behind a final head
  open_all : (y : List ℕ) → IsOpenIn q limits bytes y → IsOpenAll q limits bytes y
  open_all y o = by_kind o.is_open
    where
      by_kind : IsOpenBefore bytes o.sections y ⊎ IsShortBehind q limits bytes o.sections y → IsOpenAll q limits bytes y
      by_kind (inl b) = inl (b.is_open, b.no_text)
      by_kind (inr s) =
          let whole : bytes ≡ bytes ++ [] = sym (append-nil bytes) in
          inr (record {
            head = s.behind.head;
            rest = s.behind.rest ++ [];
            final = total heads q limits bytes bytes [] whole o.within s.behind.head s.behind.rest s.behind.final;
            there = open_here heads q limits bytes bytes [] whole o.within o.sections y s.behind;
            none_left = refl;
            short = s.short;
          })

  -- no front is refused before the final head is whole
  before_open : (ended : Bool) (x y : List ℕ) (f : FetchFault) → ended ≡ false → length bytes ≤ limits.received → RefusedBefore limits bytes ended x f → IsOpenHead bytes → ⊥
  before_open ended x y f on within (RefusedBefore.bad is none heard left whole few bad) open_head = heads.bad_not_open bytes (bad_all heard left whole bad) open_head
  before_open ended x y f on within (RefusedBefore.cut is none end few other) open_head = never (sym on ∙ end)
  before_open ended x y f on within (RefusedBefore.past is none heard left whole full some other) open_head = all_past heard left whole full some within

  -- nor anywhere
  seen_open : (ended : Bool) (x y : List ℕ) (f : FetchFault) → ended ≡ false → IsDueFault f → length bytes ≤ limits.received → IsSeen q limits bytes ended x f
      → IsOpenAll q limits bytes y → ⊥
  seen_open ended x y f on due within (inl a) (inl b) = before_open ended x y f on within a b.0
  seen_open ended x y f on due within (inl a) (inr o) = before_place ended x f o.head o.rest a o.final o.there.place
  seen_open ended x y f on due within (inr a) (inl b) = heads.open_not_final bytes a.rest a.head b.0 a.final
  seen_open ended x y f on due within (inr a) (inr o) =
      behind_open heads pieces laws q limits bytes o.head o.rest ended x y f on due (moved ended x f a.head o.head a.rest o.rest a.final o.final a.refused) o.there o.none_left
      o.short

  -- none of them is the answer
  answer_open : (ended : Bool) (x y : List ℕ) → ended ≡ false → AnsweredAfter q limits bytes ended x → IsOpenAll q limits bytes y → ⊥
  answer_open ended x y on a (inl b) = heads.open_not_final bytes a.rest a.head b.0 a.final
  answer_open ended x y on a (inr o) =
      let same = heads.one_final bytes o.rest a.rest o.head a.head o.final a.final in
      by_place a.head a.rest same.0 same.1 a.whole a.closed
    where
      by_place : (head : ReplyHead) (rest : List ℕ) → o.head ≡ head → o.rest ≡ rest → WholeAt limits bytes head rest → (head.framing ≡ framings.UntilClose → ended ≡ true) → ⊥
      by_place head rest e d w closed =
          subst (λ (h : ReplyHead). WholeAt limits bytes h rest → (h.framing ≡ framings.UntilClose → ended ≡ true) → ⊥) e
          (subst (λ (l : List ℕ). WholeAt limits bytes o.head l → (o.head.framing ≡ framings.UntilClose → ended ≡ true) → ⊥) d
          (λ w closed. whole_open heads pieces laws q limits bytes o.head o.rest y ended on w closed o.there o.none_left o.short)) w closed

  -- and what is written for them is one
  two_open : (x y : List ℕ) → IsOpenAll q limits bytes x → IsOpenAll q limits bytes y → x ≡ y
  two_open x y (inl a) (inl b) = a.1 ∙ sym b.1
  two_open x y (inl a) (inr p) = absurd (heads.open_not_final bytes p.rest p.head a.0 p.final)
  two_open x y (inr o) (inl b) = absurd (heads.open_not_final bytes o.rest o.head b.0 o.final)
  two_open x y (inr o) (inr p) =
      let same = heads.one_final bytes o.rest p.rest o.head p.head o.final p.final in
      by_place p.head p.rest same.0 same.1 p.there p.none_left
    where
      by_place : (head : ReplyHead) (rest : List ℕ) → o.head ≡ head → o.rest ≡ rest → (there : OpenAt q limits bytes head rest y) → there.place.left ≡ [] → x ≡ y
      by_place head rest e d there none =
          subst (λ (h : ReplyHead). (t : OpenAt q limits bytes h rest y) → t.place.left ≡ [] → x ≡ y) e
          (subst (λ (l : List ℕ). (t : OpenAt q limits bytes o.head l y) → t.place.left ≡ [] → x ≡ y) d
          (λ t none. open_once heads pieces laws q limits bytes o.head o.rest x y o.there t o.none_left none)) there none

-- ---- the laws

-- in the words of the contract
pub replies_once : HeadLaws → BodyPieceLaws → BodyCutLaws → ReplyCutLaws
replies_once heads pieces laws = record {
  refused = λ q limits bytes x y f g due also r s.
      seen_once heads pieces laws q limits bytes r.ended s.ended x y f g due also (seen heads q limits bytes x f due r) (seen heads q limits bytes y g also s);
  refused_answer = λ q limits bytes x y f due r a.
      seen_answer heads pieces laws q limits bytes r.ended a.ended x y f due (seen heads q limits bytes x f due r) (answered_after heads q limits bytes y a);
  answered = λ q limits bytes x y a b.
      two_answers heads pieces laws q limits bytes a.ended b.ended x y (answered_after heads q limits bytes x a) (answered_after heads q limits bytes y b);
  refused_open = λ q limits bytes x y f due r on o.
      seen_open heads pieces laws q limits bytes r.ended x y f on due o.within (seen heads q limits bytes x f due r)
      (open_all heads pieces laws q limits bytes y o);
  answered_open = λ q limits bytes x y a on o.
      answer_open heads pieces laws q limits bytes a.ended x y on (answered_after heads q limits bytes x a)
      (open_all heads pieces laws q limits bytes y o);
  is_open = λ q limits bytes x y a b.
      two_open heads pieces laws q limits bytes x y (open_all heads pieces laws q limits bytes x a)
      (open_all heads pieces laws q limits bytes y b);
}
