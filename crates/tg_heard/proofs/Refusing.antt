-- A refusal carries nothing: its text has the type of no answer.
use Rattle.std.proofs.Common.{◌≡◌, ℕ, ◌≤◌, Bool, true, false, List, ◌++◌, Some, length, sym, ap, subst, ◌∙◌, arith}
use Rattle.httparse.specs.Grammar.{trim_ows}
use Rattle.tg_http.specs.Heads.{ReplyStays}
use Rattle.tg_http.specs.declared.framing.Framing.TheVariants as framings
use Rattle.tg_http.specs.declared.reply.ReplyHead.{ReplyHead}
use Rattle.tg_http.specs.declared.request.RequestHead.{RequestHead}
use Rattle.tg_model.specs.Dag.{Section}
use Rattle.tg_model.specs.Queries.{QueryParts}
use Rattle.tg_model.specs.declared.queries.Form.{Form}
use Rattle.tg_model.specs.declared.queries.Form.TheVariants as forms
use Rattle.tg_query.specs.Accepts.{form_of_range}
use Rattle.tg_query.specs.Types.{HasType}
use Rattle.tg_reply.specs.Asked.{is_head}
use Rattle.tg_reply.specs.Heads.{text_of, text_type}
use Rattle.tg_reply.specs.Laws.{number_of}
use Rattle.tg_reply.specs.Readings.{RefusalsRead}
use Rattle.tg_reply.specs.Refusals.{status_of}
use Rattle.tg_reply.specs.Replies.{refused_request, reply_bytes}
use Rattle.tg_reply.specs.declared.refusal.Refusal.{Refusal}
use Rattle.tg_reply.specs.declared.status.Status.{Status}
use Rattle.tg_reply.specs.declared.status.Status.TheVariants as statuses
use Rattle.tg_heard.specs.Carried.{CarriesBehind, HasAskedType, IsAbsenceHead, IsAnswerHead}
use Rattle.tg_heard.specs.FinalHeads.{FinalHead}
use Rattle.tg_heard.specs.Laws.{RefusalsCarryNothing}
use Rattle.tg_heard.proofs.Carrying.{final_read}
use Rattle.tg_heard.proofs.Heads.{final_longer, one_final_head}

-- the type of a text is that of no form
text_form : (form : Form) → form_of_range text_type ≡ Some form → ⊥
unfolding form_of_range trim_ows
text_form form e = cc

-- and so of no answer
text_not_asked : (form : Form) (repeats : Bool) → HasType form repeats text_type → ⊥
text_not_asked forms.Raw repeats h = text_form forms.Raw h
text_not_asked forms.Car repeats h = text_form forms.Car h.form

-- no status of a reply is an interim one
high_status : (status : Status) → 200 ≤ number_of status
high_status statuses.Ok = omega arith
high_status statuses.BadRequest = omega arith
high_status statuses.NotFound = omega arith
high_status statuses.MethodNotAllowed = omega arith
high_status statuses.NotAcceptable = omega arith
high_status statuses.FieldsTooLarge = omega arith
high_status statuses.ServerError = omega arith

module _ (stays : ReplyStays) (refusals : RefusalsRead) (head : RequestHead) (refusal : Refusal) (q : QueryParts) (some : List Section) (more : List ℕ) (ended : Bool)
    (get : is_head head.method ≡ false) where
  -- behind a head of the type that is asked a refusal carries nothing
  none_behind : (IsHead : ReplyHead → Type 0) → ((told : ReplyHead) → IsHead told → HasAskedType q told)
      → CarriesBehind IsHead (reply_bytes (refused_request head refusal) ++ more) ended q some → ⊥
  none_behind IsHead asked a =
      let r = refused_request head refusal in
      let found = final_read r.head r.body text_type (number_of r.status) (framings.Length (length (text_of refusal))) (high_status (status_of refusal)) (refusals head refusal get).head in
      let x : FinalHead (reply_bytes r ++ more) a.head (a.rest ++ a.more) =
      subst (λ (l : List ℕ). FinalHead l a.head (a.rest ++ a.more)) (sym a.heard_is) (final_longer stays a.front a.more a.rest a.head a.final) in
      let same = one_final_head stays (reply_bytes r) more r.body (a.rest ++ a.more) found.0 a.head found.1 x in
      let has = asked a.head a.is_head in
      let kind : has.kind ≡ text_type = same_some has.kind text_type (sym has.kind_is ∙ ap (λ (h : ReplyHead). h.kind) (sym same.0) ∙ found.2.kind_is) in
      text_not_asked q.form q.dups (subst (HasType q.form q.dups) kind has.type_is)
    where
      same_some : (a b : List ℕ) → Some a ≡ Some b → a ≡ b
      same_some a b e = cc

-- be it an answer that is looked for or an absence
pub refusals_carry_nothing : ReplyStays → RefusalsRead → RefusalsCarryNothing
refusals_carry_nothing stays refusals true head refusal q some more ended get c =
    none_behind stays refusals head refusal q some more ended get (IsAnswerHead q) (λ told h. h.type_is) c
refusals_carry_nothing stays refusals false head refusal q some more ended get c =
    none_behind stays refusals head refusal q some more ended get (IsAbsenceHead q) (λ told h. h.type_is) c
