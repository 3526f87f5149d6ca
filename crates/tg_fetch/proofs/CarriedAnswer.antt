-- Of a reply that carries sections which fit, their text is put.
use Rattle.std.proofs.Common.{◌≡◌, ℕ, Bool, true, List, [], ◌++◌, refl, ap, ap₂, subst, ◌∙◌, append_assoc}
use Rattle.std.specs.Prelude.{⊤}
use Rattle.tg_fetch.proofs.Carriers.{IsCarrier, carrier}
use Rattle.tg_fetch.specs.Laws.{CarriedIsAnswer}
use Rattle.tg_heard.specs.Carried.{CarriesBehind, IsAnswerHead}
use Rattle.tg_heard.specs.Laws.{OneCarried}
use Rattle.tg_http.specs.declared.reply.ReplyHead.{ReplyHead}
use Rattle.tg_model.specs.Dag.{Dag, Section}
use Rattle.tg_model.specs.Fits.{Fits}
use Rattle.tg_model.specs.LimitNumbers.{LimitNumbers}
use Rattle.tg_model.specs.Queries.{QueryParts}
use Rattle.tg_verify.specs.Laws.{AnswerLaws}
use Rattle.tg_verify.specs.Taken.{IsThrough}

-- sections fit with one text
abbrev pub FitOnce : Type 0
FitOnce = (q : QueryParts) (sections : List Section) (a b : Dag) (x y : List ℕ) → Fits a q sections x → Fits b q sections y → (a ≡ b) × (x ≡ y)

-- what a front of the bytes carries they carry
pub longer_carries : (IsHead : ReplyHead → Type 0) (q : QueryParts) (heard more : List ℕ) (ended : Bool) (sections : List Section) → (ended ≡ true → more ≡ [])
    → CarriesBehind IsHead heard ended q sections → CarriesBehind IsHead (heard ++ more) ended q sections
longer_carries IsHead q heard more ended sections none c = record {
  front = c.front;
  more = c.more ++ more;
  heard_is = ap (λ (l : List ℕ). l ++ more) c.heard_is ∙ append_assoc c.front c.more more;
  head = c.head;
  rest = c.rest;
  final = c.final;
  is_head = c.is_head;
  body = c.body;
  body_is = c.body_is;
  closed = λ e. let close = c.closed e in (close.0, ap₂ (λ (a b : List ℕ). a ++ b) close.1 (none close.0));
  carries = c.carries;
}

-- behind whichever head
any_head : (IsHead : ReplyHead → Type 0) (q : QueryParts) (heard : List ℕ) (ended : Bool) (sections : List Section) → CarriesBehind IsHead heard ended q sections
    → CarriesBehind (λ head. ⊤) heard ended q sections
any_head IsHead q heard ended sections c = record {
  front = c.front;
  more = c.more;
  heard_is = c.heard_is;
  head = c.head;
  rest = c.rest;
  final = c.final;
  is_head = tt;
  body = c.body;
  body_is = c.body_is;
  closed = c.closed;
  carries = c.carries;
}

pub carrier_carries : (IsHead : ReplyHead → Type 0) (q : QueryParts) (limits : LimitNumbers) (bytes : List ℕ) (sections : List Section) → IsCarrier IsHead q limits bytes sections
    → CarriesBehind IsHead bytes true q sections
carrier_carries IsHead q limits bytes sections n = record {
  front = n.text;
  more = n.tail;
  heard_is = n.whole;
  head = n.head;
  rest = n.rest;
  final = n.final;
  is_head = n.is_head;
  body = n.body;
  body_is = n.body_is;
  closed = λ e. (refl, n.closed e);
  carries = n.carries;
}

pub carried_is_answer : OneCarried → AnswerLaws → FitOnce → CarriedIsAnswer
carried_is_answer one answers once q limits d all answer heard more ended over sections text fits carries none a =
    let bytes = heard ++ more in
    let same = one bytes ended true q sections all (any_head (IsAnswerHead q) q bytes ended sections (longer_carries (IsAnswerHead q) q heard more ended sections none a.carries))
    (any_head (IsAnswerHead q) q bytes true all (carrier_carries (IsAnswerHead q) q limits bytes all (carrier (IsAnswerHead q) q limits bytes over all carries))) in
    let fit = answers.through q limits all text (subst (λ (s : List Section). IsThrough q limits s text) same a.through) in
    (same, (once q all fit.s d text answer fit.fits fits).1)
