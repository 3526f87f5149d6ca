-- The replies for what is asked carry their sections.
use Rattle.std.proofs.Common.{◌≡◌, ◌≤◌, ℕ, false, List, inl, inr, length, refl, ap, subst, ◌∙◌, arith}
use Rattle.tg_http.specs.declared.framing.Framing.{Framing}
use Rattle.tg_http.specs.declared.reply.ReplyHead.{ReplyHead}
use Rattle.tg_http.specs.declared.request.RequestHead.{RequestHead}
use Rattle.tg_model.specs.Dag.{Dag, Section}
use Rattle.tg_model.specs.PathWalk.{PathEnd, Stop, not_folder, not_reached, not_there, path_walk, terminal}
use Rattle.tg_model.specs.Queries.{QueryParts}
use Rattle.tg_model.specs.StoreView.{store_view}
use Rattle.tg_model.specs.Stores.{Store}
use Rattle.tg_model.specs.Traversal.{block_list}
use Rattle.tg_model.specs.declared.queries.Form.{Form}
use Rattle.tg_model.specs.declared.queries.Form.TheVariants as forms
use Rattle.tg_query.specs.Requests.{car_with_dups}
use Rattle.tg_reply.specs.AskedReadings.{AskedRepliesRead, CarIsRead, EndIsRead, FoundIsRead, IsAskedByGet, IsByteStore, car_framing}
use Rattle.tg_reply.specs.Laws.{Tells, number_of}
use Rattle.tg_reply.specs.Replies.{LeadsNowhere, Reply, absence_reply, found_reply, reply, reply_at, reply_to, sent_dag}
use Rattle.tg_heard.specs.Carried.{CarriesBehind, IsAbsenceHead, IsAnswerHead}
use Rattle.tg_heard.specs.Laws.{AskedAbsencesCarry, AskedAnswersCarry, CarriesBy}
use Rattle.tg_heard.proofs.Carrying.{absence_head, answer_head, in_chunks, until_close}

-- a reply that is read as a CAR carries its sections, in the framing of the request's version
by_minor : (IsHead : ReplyHead → Type 0) (minor : ℕ) (r : Reply) (q : QueryParts) (sections : List Section) → q.form ≡ forms.Car → 200 ≤ number_of r.status
    → ((framing : Framing) (head : ReplyHead) → Tells (length r.head) (number_of r.status) (car_with_dups q.dups) framing head → IsHead head)
    → CarIsRead r q sections (car_framing minor) → CarriesBy (λ heard ended. CarriesBehind IsHead heard ended) minor r q sections
by_minor IsHead minor r q sections form high is_head c = (
  λ e more ended.
      let read = subst (λ (n : ℕ). CarIsRead r q sections (car_framing n)) e c in
      in_chunks IsHead r q sections form high is_head read.car read.reads more ended,
  λ e.
      let read = subst (λ (n : ℕ). CarIsRead r q sections (car_framing n)) e c in
      until_close IsHead r q sections form high is_head read.car read.reads,
)

module _ (reads : AskedRepliesRead) (store : Store) (head : RequestHead) (q : QueryParts) (s : IsByteStore store) (a : IsAskedByGet store head q)
    (form : q.form ≡ forms.Car) (uncut : (reply store head).cut ≡ false) where
  -- the sections of the query over what the store sends
  abbrev sections : List Section
  sections = block_list q (sent_dag store q.root)

  -- what is read at the end of the path
  end_read : (end : PathEnd) → (path_walk q.path (store_view store q.root)).end ≡ end → EndIsRead store head q end
  end_read end w = subst (λ (e : PathEnd). EndIsRead store head q e) w (reads store head q s a)

  -- the reply is the one at the end of the path
  at_end : (end : PathEnd) → (path_walk q.path (store_view store q.root)).end ≡ end → reply store head ≡ reply_at store head q end
  at_end end w = ap (reply_to store head) a.asked_is ∙ ap (reply_at store head q) w

  -- the status of the reply is that of what it is
  status_is : (number : ℕ) (r : Reply) → reply store head ≡ r → number_of r.status ≡ number → number_of (reply store head).status ≡ number
  status_is number r e n = ap (λ (x : Reply). number_of x.status) e ∙ n

  -- the answer behind a path that leads to a terminal
  answered : (d : Dag) → (path_walk q.path (store_view store q.root)).end ≡ terminal d
      → CarriesBy (λ heard ended. CarriesBehind (IsAnswerHead q) heard ended) head.minor (reply store head) q sections
  answered d w =
      let by_car : FoundIsRead store head q d forms.Car = subst (λ (f : Form). FoundIsRead store head q d f) form (end_read (terminal d) w) in
      let ok : number_of (reply store head).status ≡ 200 = status_is 200 (found_reply store head q d forms.Car) (at_end (terminal d) w ∙ ap (found_reply store head q d) form) refl in
      by_minor (IsAnswerHead q) head.minor (reply store head) q sections form (omega (arith, ok))
      (λ framing told says. answer_head q (length (reply store head).head) form framing told (subst (λ (n : ℕ). Tells (length (reply store head).head) n (car_with_dups q.dups) framing told) ok says))
      (by_car uncut)

  -- an absence that is read as a CAR
  missed : reply store head ≡ absence_reply store head q → CarIsRead (reply store head) q sections (car_framing head.minor)
      → CarriesBy (λ heard ended. CarriesBehind (IsAbsenceHead q) heard ended) head.minor (reply store head) q sections
  missed e read =
      let gone : number_of (reply store head).status ≡ 404 = status_is 404 (absence_reply store head q) e refl in
      by_minor (IsAbsenceHead q) head.minor (reply store head) q sections form (omega (arith, gone))
      (λ framing told says. absence_head q (length (reply store head).head) form framing told (subst (λ (n : ℕ). Tells (length (reply store head).head) n (car_with_dups q.dups) framing told) gone says))
      read

  -- behind a path that leads nowhere
  absent : (stop : Stop) → (path_walk q.path (store_view store q.root)).end ≡ not_reached stop → LeadsNowhere stop
      → CarriesBy (λ heard ended. CarriesBehind (IsAbsenceHead q) heard ended) head.minor (reply store head) q sections
  absent stop w (inl there) =
      let v : (path_walk q.path (store_view store q.root)).end ≡ not_reached (not_there there.0) = w ∙ ap not_reached there.1 in
      missed (at_end (not_reached (not_there there.0)) v) (end_read (not_reached (not_there there.0)) v uncut)
  absent stop w (inr folder) =
      let v : (path_walk q.path (store_view store q.root)).end ≡ not_reached (not_folder folder.0) = w ∙ ap not_reached folder.1 in
      missed (at_end (not_reached (not_folder folder.0)) v) (end_read (not_reached (not_folder folder.0)) v uncut)

-- of a path that leads to a terminal
pub asked_answers_carry : AskedRepliesRead → AskedAnswersCarry
asked_answers_carry reads store head q d s a form w uncut = answered reads store head q s a form uncut d w

-- and of one that leads nowhere
pub asked_absences_carry : AskedRepliesRead → AskedAbsencesCarry
asked_absences_carry reads store head q stop s a form w nowhere uncut = absent reads store head q s a form uncut stop w nowhere
