-- The sections received so far are determined by what was heard, and they grow with it.
use Rattle.std.proofs.Common.{◌≡◌, ℕ, ◌≤◌, ◌⊎◌, Bool, List, [], ◌∷◌, ◌++◌, length, refl, sym, ap, ◌∙◌, subst, inl, inr}
use Rattle.std.specs.Prelude.{All}
use Rattle.tg_body.specs.Laws.{BodyLaws}
use Rattle.tg_client.specs.Received.{HasReceived}
use Rattle.tg_client.specs.ReceivedLaws.{ReceivedLaws}
use Rattle.tg_http.specs.Heads.{ReplyStays}
use Rattle.tg_http.specs.declared.reply.ReplyHead.{ReplyHead}
use Rattle.tg_model.specs.Dag.{Section}
use Rattle.tg_model.specs.Queries.{QueryParts}
use Rattle.tg_model.specs.declared.queries.Form.{Form}
use Rattle.tg_model.specs.declared.queries.Form.TheVariants as forms
use Rattle.tg_heard.specs.Carried.{BodyCarries, CarriesBehind, IsAbsenceHead, IsAnswerHead}
use Rattle.tg_heard.specs.FinalHeads.{FinalHead}
use Rattle.tg_heard.specs.Got.{HasBodySoFar, HasGot, HasWholeBody, IsTakenHead, car, no_head, not_taken, raw_open, raw_whole}
use Rattle.tg_heard.specs.GotLaws.{CarriedIsGot, GotFronts, OneGot}
use Rattle.tg_heard.proofs.BodiesSoFar.{grows, one_so_far, stays_whole}
use Rattle.tg_heard.proofs.Heads.{final_longer, same_final}

-- a query has one form
two_forms : (form : Form) → form ≡ forms.Car → form ≡ forms.Raw → ⊥
two_forms form a b = cc

-- the section of a raw block
abbrev raw_section : QueryParts → List ℕ → List Section
raw_section q body = record { cid = q.root; block = body } ∷ []

-- of a raw block nothing, where it isn't whole, or the one section
abbrev RawGot : Bool → QueryParts → ReplyHead → List ℕ → List Section → Type 0
RawGot ended q head rest sections =
    ((sections ≡ []) × ((body : List ℕ) → HasWholeBody ended head.framing rest body → ⊥))
    ⊎ ((body : List ℕ) × HasWholeBody ended head.framing rest body × (sections ≡ raw_section q body))

module _ (limit : ℕ) (heard : List ℕ) (ended : Bool) (q : QueryParts) where
  -- what is heard without a final head
  got_no_head : (sections : List Section) → HasGot limit heard ended q sections → ((head : ReplyHead) (rest : List ℕ) → FinalHead heard head rest → ⊥) → sections ≡ []
  got_no_head sections (no_head f) none = refl
  got_no_head sections (not_taken head rest final f) none = refl
  got_no_head sections (car head rest body s final taken form far received) none = absurd (none head rest final)
  got_no_head sections (raw_open head rest final taken form f) none = refl
  got_no_head sections (raw_whole head rest body final taken form whole) none = absurd (none head rest final)

  module _ (head : ReplyHead) (rest : List ℕ) (final : FinalHead heard head rest) where
    -- the head and what follows it are these
    abbrev Same : ReplyHead → List ℕ → Type 0
    Same other left = (other ≡ head) × (left ≡ rest)

    -- each final head of what was heard is this one, and this follows it
    same : (other : ReplyHead) (left : List ℕ) → FinalHead heard other left → Same other left
    same other left f = same_final heard left rest other head f final

    -- so its body is taken
    taken_same : (other : ReplyHead) (left : List ℕ) → FinalHead heard other left → IsTakenHead q other → IsTakenHead q head
    taken_same other left f t = subst (IsTakenHead q) (same other left f).0 t

    -- and whole
    whole_same : (other : ReplyHead) (left body : List ℕ) → FinalHead heard other left → HasWholeBody ended other.framing left body → HasWholeBody ended head.framing rest body
    whole_same other left body f w =
        let e = same other left f in
        subst (λ (h : ReplyHead). HasWholeBody ended h.framing rest body) e.0 (subst (λ (l : List ℕ). HasWholeBody ended other.framing l body) e.1 w)

    -- and the other's is whole where this one's is
    whole_back : (other : ReplyHead) (left body : List ℕ) → FinalHead heard other left → HasWholeBody ended head.framing rest body → HasWholeBody ended other.framing left body
    whole_back other left body f w =
        let e = same other left f in
        subst (λ (h : ReplyHead). HasWholeBody ended h.framing left body) (sym e.0) (subst (λ (l : List ℕ). HasWholeBody ended head.framing l body) (sym e.1) w)

    -- and what came of it is what came of this one's
    far_same : (other : ReplyHead) (left body : List ℕ) → FinalHead heard other left → HasBodySoFar ended other.framing left body → HasBodySoFar ended head.framing rest body
    far_same other left body f w =
        let e = same other left f in
        subst (λ (h : ReplyHead). HasBodySoFar ended h.framing rest body) e.0 (subst (λ (l : List ℕ). HasBodySoFar ended other.framing l body) e.1 w)

    -- behind a head that isn't taken
    got_not_taken : (sections : List Section) → HasGot limit heard ended q sections → (IsTakenHead q head → ⊥) → sections ≡ []
    got_not_taken sections (no_head f) untaken = refl
    got_not_taken sections (not_taken other left g f) untaken = refl
    got_not_taken sections (car other left body s g taken form far received) untaken = absurd (untaken (taken_same other left g taken))
    got_not_taken sections (raw_open other left g taken form f) untaken = refl
    got_not_taken sections (raw_whole other left body g taken form whole) untaken = absurd (untaken (taken_same other left g taken))

    -- of a CAR
    got_car : (sections : List Section) → HasGot limit heard ended q sections → IsTakenHead q head → q.form ≡ forms.Car
        → (body : List ℕ) × HasBodySoFar ended head.framing rest body × HasReceived limit body sections
    got_car sections (no_head f) taken form = absurd (f head rest final)
    got_car sections (not_taken other left g f) taken form = absurd (f (subst (IsTakenHead q) (sym (same other left g).0) taken))
    got_car sections (car other left body s g t form_is far received) taken form = (body, far_same other left body g far, received)
    got_car sections (raw_open other left g t raw f) taken form = absurd (two_forms q.form form raw)
    got_car sections (raw_whole other left body g t raw whole) taken form = absurd (two_forms q.form form raw)

    -- of a raw block
    got_raw : (sections : List Section) → HasGot limit heard ended q sections → IsTakenHead q head → q.form ≡ forms.Raw
        → RawGot ended q head rest sections
    got_raw sections (no_head f) taken form = absurd (f head rest final)
    got_raw sections (not_taken other left g f) taken form = absurd (f (subst (IsTakenHead q) (sym (same other left g).0) taken))
    got_raw sections (car other left body s g t form_is far received) taken form = absurd (two_forms q.form form_is form)
    got_raw sections (raw_open other left g t raw f) taken form = inl (refl, λ body w. f body (whole_back other left body g w))
    got_raw sections (raw_whole other left body g t raw whole) taken form = inr (body, whole_same other left body g whole, refl)

module _ (stays : ReplyStays) (bodies : BodyLaws) (received : ReceivedLaws) where
  -- ---- one list

  -- a raw block that is whole is the one section
  same_raw : (ended : Bool) (q : QueryParts) (head : ReplyHead) (rest body : List ℕ) (other : List Section) → HasWholeBody ended head.framing rest body
      → RawGot ended q head rest other
      → raw_section q body ≡ other
  same_raw ended q head rest body other w (inl h) = absurd (h.1 body w)
  same_raw ended q head rest body other w (inr h) =
      ap (raw_section q) (one_so_far bodies ended head.framing rest body h.0 (inl w) (inl h.1)) ∙ sym h.2

  -- and one that isn't whole is none
  none_raw : (ended : Bool) (q : QueryParts) (head : ReplyHead) (rest : List ℕ) (other : List Section) → ((body : List ℕ) → HasWholeBody ended head.framing rest body → ⊥)
      → RawGot ended q head rest other
      → other ≡ []
  none_raw ended q head rest other none (inl h) = h.0
  none_raw ended q head rest other none (inr h) = absurd (none h.0 h.1)

  -- by what is heard: no final head, one that isn't taken, a CAR, a raw block
  pub one_got : OneGot
  one_got limit heard ended q sections other (no_head f) g = sym (got_no_head limit heard ended q other g f)
  one_got limit heard ended q sections other (not_taken head rest final f) g = sym (got_not_taken limit heard ended q head rest final other g f)
  one_got limit heard ended q sections other (car head rest body s final taken form far got) g =
      let h = got_car limit heard ended q head rest final other g taken form in
      received.one limit h.0 sections other (subst (λ (b : List ℕ). HasReceived limit b sections) (one_so_far bodies ended head.framing rest body h.0 far h.1) got) h.2
  one_got limit heard ended q sections other (raw_open head rest final taken form f) g =
      sym (none_raw ended q head rest other f (got_raw limit heard ended q head rest final other g taken form))
  one_got limit heard ended q sections other (raw_whole head rest body final taken form w) g =
      same_raw ended q head rest body other w (got_raw limit heard ended q head rest final other g taken form)

  -- ---- fronts

  -- with more bytes the head stays, and the body grows
  pub got_fronts : GotFronts
  got_fronts limit heard tail ended q some sections (no_head f) g = (sections, refl)
  got_fronts limit heard tail ended q some sections (not_taken head rest final f) g = (sections, refl)
  got_fronts limit heard tail ended q some sections (car head rest body s final taken form far got) g =
      let later = final_longer stays heard tail rest head final in
      let h = got_car limit (heard ++ tail) ended q head (rest ++ tail) later sections g taken form in
      let more = grows bodies ended head.framing rest tail body h.0 far h.1 in
      received.front limit body more.0 some sections got (subst (λ (b : List ℕ). HasReceived limit b sections) more.1 h.2)
  got_fronts limit heard tail ended q some sections (raw_open head rest final taken form f) g = (sections, refl)
  got_fronts limit heard tail ended q some sections (raw_whole head rest body final taken form w) g =
      let later = final_longer stays heard tail rest head final in
      let same = same_raw ended q head (rest ++ tail) body sections (stays_whole bodies ended head.framing rest tail body w)
      (got_raw limit (heard ++ tail) ended q head (rest ++ tail) later sections g taken form) in
      ([], sym same)

  -- ---- what is carried

  module _ (limit : ℕ) (heard : List ℕ) (ended : Bool) (q : QueryParts) (sections : List Section) (small : All (λ section. length section.block ≤ limit) sections)
      (IsHead : ReplyHead → Type 0) (is_taken : (head : ReplyHead) → IsHead head → IsTakenHead q head) (c : CarriesBehind IsHead heard ended q sections) where
    -- the head is final in all that was heard
    final : FinalHead heard c.head (c.rest ++ c.more)
    final = subst (λ (l : List ℕ). FinalHead l c.head (c.rest ++ c.more)) (sym c.heard_is) (final_longer stays c.front c.more c.rest c.head c.final)

    -- and the body is whole behind it
    whole : HasWholeBody ended c.head.framing (c.rest ++ c.more) c.body
    whole = record { front = c.rest; more = c.more; rest_is = refl; closed = c.closed; body_is = c.body_is }

    -- so its sections are received
    by_form : (form : Form) → q.form ≡ form → BodyCarries form q c.body sections → HasGot limit heard ended q sections
    by_form forms.Raw e carries =
        subst (HasGot limit heard ended q) (sym carries) (raw_whole c.head (c.rest ++ c.more) c.body final (is_taken c.head c.is_head) e whole)
    by_form forms.Car e carries =
        car c.head (c.rest ++ c.more) c.body sections final (is_taken c.head c.is_head) e (inl whole) (received.whole limit c.body sections carries small)

    -- whatever the form
    got : HasGot limit heard ended q sections
    got = by_form q.form refl c.carries

  -- of an answer and of an absence
  pub carried_is_got : CarriedIsGot
  carried_is_got limit heard ended q sections small = (
    λ c. got limit heard ended q sections small (IsAnswerHead q) (λ head h. inl h) c,
    λ c. got limit heard ended q sections small (IsAbsenceHead q) (λ head h. inr h) c,
  )
