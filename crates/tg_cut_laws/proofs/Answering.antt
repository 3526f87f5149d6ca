-- What a client answered, by the bytes of the reply.
use Rattle.std.proofs.Common.{Bool, Err, List, Ok, [], append-nil, append_assoc, ap, false, refl, subst, sym, true, ℕ, ◌++◌, ◌∙◌, ◌∷◌, ◌≡◌}
use Rattle.std.specs.Prelude.{Result, ⊤}
use Rattle.tg_cut_laws.specs.Clients.{AnsweredOnce, AnswersIn, ArePutAlike, IsDueResult, accepts, called, ends, refuses}
use Rattle.tg_cut_laws.specs.Replies.{IsAnsweredIn, IsRefusedIn, ReplyCutLaws}
use Rattle.tg_fetch.specs.Calls.{HeardAnswer, HeardBy, HeardRefused}
use Rattle.tg_fetch.specs.Clients.{EndEnds, EndedWhole, FedAll}
use Rattle.tg_fetch.specs.Replies.{IsRefused}
use Rattle.tg_fetch.specs.declared.fault.FetchFault.{FetchFault}
use Rattle.tg_fetch.specs.declared.fault.FetchFault.TheVariants as faults
use Rattle.tg_model.specs.LimitNumbers.{LimitNumbers}
use Rattle.tg_model.specs.Queries.{QueryParts}
use Rattle.tg_streams.specs.Streams.{Output, Put}

-- in the bytes it is accepted or refused, and a text was put
pub record AcceptsIn (q : QueryParts) (limits : LimitNumbers) (bytes written : List ℕ) (out : Output) : Type 0 where
  pub text : List ℕ
  pub put : Put text out
  pub answered : IsAnsweredIn q limits bytes (written ++ text)

pub record RefusesIn (q : QueryParts) (limits : LimitNumbers) (bytes written : List ℕ) (out : Output) (fault : FetchFault) : Type 0 where
  pub text : List ℕ
  pub put : Put text out
  pub refused : IsRefusedIn q limits bytes (written ++ text) fault

abbrev EndsIn : QueryParts → LimitNumbers → List ℕ → List ℕ → Output → Result ⊤ FetchFault → Type 0
EndsIn q limits bytes written out (Ok done) = AcceptsIn q limits bytes written out
EndsIn q limits bytes written out (Err fault) = RefusesIn q limits bytes written out fault

false_true : false ≡ true → ⊥
false_true e = absurd (cc e)

-- ---- a piece

behind : (bytes heard piece more front left : List ℕ) → bytes ≡ heard ++ (piece ++ more) → piece ≡ front ++ left → bytes ≡ (heard ++ front) ++ (left ++ more)
behind bytes heard piece more front left e p =
    e ∙ ap (λ (l : List ℕ). heard ++ (l ++ more)) p ∙ ap (λ (l : List ℕ). heard ++ l) (append_assoc front left more) ∙ sym (append_assoc heard front (left ++ more))

fed_all : (q : QueryParts) (limits : LimitNumbers) (bytes heard piece more written : List ℕ) (out : Output) → bytes ≡ heard ++ (piece ++ more) → FedAll q limits heard piece written out
    → AcceptsIn q limits bytes written out
fed_all q limits bytes heard piece more written out e f = record {
  text = f.text;
  put = f.put;
  answered = record {
    heard = heard ++ f.front;
    more = f.more ++ more;
    whole = behind bytes heard piece more f.front f.more e f.whole;
    ended = false;
    is_over = λ e. absurd (false_true e);
    sections = f.sections;
    answered = f.answered;
  };
}

fed_refused : (q : QueryParts) (limits : LimitNumbers) (bytes heard piece more written : List ℕ) (ended : Bool) (out : Output) (fault : FetchFault) → bytes ≡ heard ++ (piece ++ more)
    → (ended ≡ true → piece ++ more ≡ []) → IsRefused q limits heard piece ended written out fault → RefusesIn q limits bytes written out fault
fed_refused q limits bytes heard piece more written ended out fault e over r = record {
  text = r.text;
  put = r.put;
  refused = record {
    heard = heard ++ r.front;
    unheard = r.more;
    more = more;
    whole = behind bytes heard piece more r.front r.more e r.whole;
    within = r.within;
    ended = ended;
    is_over = λ yes. none_behind r.front (r.more ++ more) (sym (append_assoc r.front r.more more) ∙ ap (λ (l : List ℕ). l ++ more) (sym r.whole) ∙ over yes);
    sections = r.sections;
    refused = r.refused;
  };
}
  where
    none_behind : (front left : List ℕ) → front ++ left ≡ [] → left ≡ []
    none_behind [] left none = none
    none_behind (n ∷ front) left none = absurd (cc none)

-- ---- the link ended, or a call

ended_whole : (q : QueryParts) (limits : LimitNumbers) (bytes written : List ℕ) (out : Output) → EndedWhole q limits bytes written out → AcceptsIn q limits bytes written out
ended_whole q limits bytes written out f = record {
  text = f.text;
  put = f.put;
  answered = record {
    heard = bytes;
    more = [];
    whole = sym (append-nil bytes);
    ended = true;
    is_over = λ e. refl;
    sections = f.sections;
    answered = f.answered;
  };
}

heard_answer : (q : QueryParts) (limits : LimitNumbers) (bytes heard left : List ℕ) (over : Bool) (out : Output) → bytes ≡ heard ++ left → (over ≡ true → left ≡ [])
    → HeardAnswer q limits heard over out → AcceptsIn q limits bytes [] out
heard_answer q limits bytes heard left over out e none h = record {
  text = h.text;
  put = h.put;
  answered = record {
    heard = h.front;
    more = h.more ++ left;
    whole = e ∙ ap (λ (l : List ℕ). l ++ left) h.whole ∙ append_assoc h.front h.more left;
    ended = h.ended;
    is_over = λ yes. ap (λ (l : List ℕ). l ++ left) (h.is_over yes).1 ∙ none (h.is_over yes).0;
    sections = h.sections;
    answered = h.answered;
  };
}

heard_refused : (q : QueryParts) (limits : LimitNumbers) (bytes heard left : List ℕ) (over : Bool) (out : Output) (fault : FetchFault) → bytes ≡ heard ++ left → (over ≡ true → left ≡ [])
    → HeardRefused q limits heard over out fault → RefusesIn q limits bytes [] out fault
heard_refused q limits bytes heard left over out fault e none h = record {
  text = h.text;
  put = h.put;
  refused = record {
    heard = h.front;
    unheard = h.more;
    more = left;
    whole = e ∙ ap (λ (l : List ℕ). l ++ left) h.whole ∙ append_assoc h.front h.more left;
    within = h.within;
    ended = h.ended;
    is_over = λ yes. ap (λ (l : List ℕ). l ++ left) (h.is_over yes).1 ∙ none (h.is_over yes).0;
    sections = h.sections;
    refused = h.refused;
  };
}

heard_by : (q : QueryParts) (limits : LimitNumbers) (bytes heard left : List ℕ) (over : Bool) (out : Output) (result : Result ⊤ FetchFault) → IsDueResult result → bytes ≡ heard ++ left
    → (over ≡ true → left ≡ []) → HeardBy q limits heard over out result → EndsIn q limits bytes [] out result
heard_by q limits bytes heard left over out (Ok done) due e none h = heard_answer q limits bytes heard left over out e none h
heard_by q limits bytes heard left over out (Err faults.PeerFault) due e none h = absurd due
heard_by q limits bytes heard left over out (Err fault) due e none h = heard_refused q limits bytes heard left over out fault e none h

end_by : (q : QueryParts) (limits : LimitNumbers) (bytes written : List ℕ) (out : Output) (result : Result ⊤ FetchFault) → EndEnds q limits bytes written out result
    → EndsIn q limits bytes written out result
end_by q limits bytes written out (Ok done) h = ended_whole q limits bytes written out h
end_by q limits bytes written out (Err fault) h =
    fed_refused q limits bytes bytes [] [] written true out fault (sym (append-nil bytes)) (λ e. refl) h

-- ---- each

ends_in : (q : QueryParts) (limits : LimitNumbers) (bytes written : List ℕ) (out : Output) (result : Result ⊤ FetchFault) → IsDueResult result → AnswersIn q limits bytes written out result
    → EndsIn q limits bytes written out result
ends_in q limits bytes written out result due (accepts client heard piece more query most e h is) =
    subst (λ (r : Result ⊤ FetchFault). EndsIn q limits bytes written out r) (sym is)
    (fed_all q limits bytes heard piece more written out e
    (subst (λ (l : LimitNumbers). FedAll q l heard piece written out) most (subst (λ (p : QueryParts). FedAll p client.limits heard piece written out) query h.0)))
ends_in q limits bytes written out result due (refuses client heard piece more fault query most e h is) =
    subst (λ (r : Result ⊤ FetchFault). EndsIn q limits bytes written out r) (sym is)
    (fed_refused q limits bytes heard piece more written false out fault e (λ yes. absurd (false_true yes))
    (subst (λ (l : LimitNumbers). IsRefused q l heard piece false written out fault) most
    (subst (λ (p : QueryParts). IsRefused p client.limits heard piece false written out fault) query h)))
ends_in q limits bytes written out result due (ends h) = end_by q limits bytes written out result h
ends_in q limits bytes written out result due (called heard left over e none first h) =
    subst (λ (w : List ℕ). EndsIn q limits bytes w out result) (sym first) (heard_by q limits bytes heard left over out result due e none h)

module _ (laws : ReplyCutLaws) (q : QueryParts) (limits : LimitNumbers) (bytes x y : List ℕ) (out other : Output) where
  both : (result answer : Result ⊤ FetchFault) → IsDueResult result → IsDueResult answer → EndsIn q limits bytes x out result → EndsIn q limits bytes y other answer
      → (result ≡ answer) × ArePutAlike x out y other
  both (Ok done) (Ok ended) due too a b = (
    refl,
    record { text = a.text; put = a.put; other_text = b.text; other_put = b.put; same = laws.answered q limits bytes (x ++ a.text) (y ++ b.text) a.answered b.answered },
  )
  both (Ok done) (Err g) due too a b = absurd (laws.refused_answer q limits bytes (y ++ b.text) (x ++ a.text) g too b.refused a.answered)
  both (Err f) (Ok done) due too a b = absurd (laws.refused_answer q limits bytes (x ++ a.text) (y ++ b.text) f due a.refused b.answered)
  both (Err f) (Err g) due too a b =
      let (same, is) = laws.refused q limits bytes (x ++ a.text) (y ++ b.text) f g due too a.refused b.refused in
      (ap (λ (fault : FetchFault). Err fault) is, record { text = a.text; put = a.put; other_text = b.text; other_put = b.put; same = same })

pub answered_once : ReplyCutLaws → (out other : Output) → AnsweredOnce out other
answered_once laws out other q limits bytes x y result answer due too a b =
    both laws q limits bytes x y out other result answer due too (ends_in q limits bytes x out result due a) (ends_in q limits bytes y other answer too b)
