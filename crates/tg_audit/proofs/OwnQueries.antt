-- A query that is asked over a store that holds the blocks of a sound DAG has the DAG's answer.
use Rattle.std.proofs.Common.{Bool, Contains, List, None, Option, Some, [], ap, append-nil, arith, false, inl, inr, length, refl, subst, subst₂, sym, true, ℕ, ◌+◌, ◌++◌, ◌∙◌, ◌∷◌, ◌≡◌, ◌≤◌, ◌⊎◌}
use Rattle.std.proofs.lemmas.List.Elements.{All-contains, Contains-append_left, Contains-append_right, Contains-push}
use Rattle.tg_answering.specs.OwnReplies.{AsksForHeld, OwnAbsences, OwnAnswers, OwnRaws}
use Rattle.tg_audit.specs.Asking.{IsHeardAnswer, IsHeardRefusal, IsReplied, IsUnanswered, audit_addr}
use Rattle.tg_audit.specs.Own.{IsAnsweredWith, IsMissOrMemory, IsOwnQuery, IsRefusedFor}
use Rattle.tg_audit.specs.declared.fault.AuditFault.{AuditFault}
use Rattle.tg_audit.specs.declared.fault.AuditFault.TheVariants as audits
use Rattle.tg_audit_texts.specs.Hashing.{IsHashOf}
use Rattle.tg_audit_texts.specs.declared.hashing.Hashed.{Hashed}
use Rattle.tg_fetch.specs.Laws.{AbsenceIsNoAnswer, AbsenceIsTold, CarriedIsAnswer, CarriedIsTaken, CarriesAbsenceWithin, CarriesWithin, CarriesWithinBy, IsNowhereIn, IsOwnFault}
use Rattle.tg_fetch.specs.Laws.{IsMissOrMemory as IsMissHeard}
use Rattle.tg_fetch.specs.declared.fault.FetchFault.{FetchFault}
use Rattle.tg_fetch.specs.declared.fault.FetchFault.TheVariants as fetches
use Rattle.tg_heard.specs.Carried.{Carries, CarriesAbsence, CarriesBehind, IsAbsenceHead, IsAnswerHead}
use Rattle.tg_heard.specs.Exchanges.{HasOneBlockEach as HasOneBlock, IsCarried, IsOwnHead, OwnReplyCarries, PrintedIsRead, is_answer, own_reply}
use Rattle.tg_heard.specs.Laws.{CarriedBy}
use Rattle.tg_http.specs.declared.reply.ReplyHead.{ReplyHead}
use Rattle.tg_http.specs.declared.request.RequestHead.{RequestHead}
use Rattle.tg_model.specs.Answer.{answer, answer_at, node_text}
use Rattle.tg_model.specs.Counts.{counts, counts_of, output_count}
use Rattle.tg_model.specs.Dag.{Children, Dag, Section, bare, blocks, blocks_of_children, no_child, node, root_cid, unopened, with_child}
use Rattle.tg_model.specs.Ends.{EndsAlike}
use Rattle.tg_model.specs.Fits.{CollisionPair, Fits, HasOneBlockEach, IfOnce, IsOpenedFor}
use Rattle.tg_model.specs.LimitNumbers.{AreWithin, LimitNumbers, standard}
use Rattle.tg_model.specs.Lookup.{LookupEnd, lookup_path}
use Rattle.tg_model.specs.Lookup as lookup
use Rattle.tg_model.specs.PathWalk.{PathEnd, Stop, not_reached, path_walk, stopped, terminal}
use Rattle.tg_model.specs.PathWalk as walk
use Rattle.tg_model.specs.Queries.{QueryParts}
use Rattle.tg_model.specs.Sound.{IsSound}
use Rattle.tg_model.specs.Stores.{Store, as_v1}
use Rattle.tg_model.specs.Traversal.{Traversal, block_list, from_end, opened_list, sections_of, sent as sent_of, traversal, walk_places}
use Rattle.tg_model.specs.declared.queries.Form.{Form}
use Rattle.tg_model.specs.declared.queries.Form.TheVariants as forms
use Rattle.tg_model_laws.specs.OpenedSections.{Opened, OpenedChildren, traversal_opened}
use Rattle.tg_model_laws.specs.SentSections.{sent_held}
use Rattle.tg_model_laws.specs.Tasks.{Miss, stop_of}
use Rattle.tg_query.specs.Requests.{request_text}
use Rattle.tg_reply.specs.Replies.{Reply, asks_close, car_reply, reply, reply_bytes}
use Rattle.tg_reply.specs.Sent.{SentFor, SentInFull, sent_bytes}
use Rattle.tg_reply.specs.SentLaws.{SentAsReplies}
use Rattle.tg_reply.specs.Streams.{OneWriting, Replies, closes}
use Rattle.tg_verify.specs.Absences.{path_limits, path_query}
use Rattle.tg_verify.specs.Laws.{IsWithinLimits}

-- ---- the laws

abbrev OwnFits : Type 0
OwnFits = (q : QueryParts) (d : Dag) (text : List ℕ) → IsSound d → root_cid d ≡ q.root → IfOnce q.dups (HasOneBlockEach (opened_list q d)) → answer q d ≡ Some text
    → (s : Dag) × Fits s q (block_list q d) text

abbrev OpenedCounts : Type 0
OpenedCounts = (q : QueryParts) (d s : Dag) → IsSound d → root_cid d ≡ q.root → IsOpenedFor s q → AreWithin (counts q d) (counts q s) ⊎ CollisionPair (block_list q s) d

abbrev LeadsNowhere : Type 0
LeadsNowhere = (q : QueryParts) (d : Dag) (stop : Stop) → IsSound d → (traversal q d).end ≡ stopped stop
    → ((path_walk q.path d).end ≡ not_reached stop) × (answer q d ≡ None)

abbrev OwnOpened : Type 0
OwnOpened = (q : QueryParts) (d : Dag) (stop : Stop) → IsSound d → root_cid d ≡ q.root → IfOnce q.dups (HasOneBlockEach (opened_list q d)) → (traversal q d).end ≡ stopped stop
    → (s : Dag) × IsOpenedFor s q × (traversal q s ≡ traversal q d)

pub record QueryLaws : Type 0 where
  pub requests : PrintedIsRead
  pub answers : OwnAnswers
  pub absences : OwnAbsences
  pub raws : OwnRaws
  pub alike : (d : Dag) (path : List (List ℕ)) → IsSound d → EndsAlike (path_walk path d).end (lookup_path path d)
  pub carries : OwnReplyCarries
  pub one : OneWriting
  pub replies : SentAsReplies
  pub taken : CarriedIsTaken
  pub answer_is : CarriedIsAnswer
  pub told : AbsenceIsTold
  pub no_answer : AbsenceIsNoAnswer
  pub fits : OwnFits
  pub counted : OpenedCounts
  pub nowhere : LeadsNowhere
  pub opened : OwnOpened

-- ---- the blocks that are opened are the DAG's

module _ (P : Section → Type 0) where
  mutual
    opened_each : (d : Dag) → ((x : Section) → Contains (blocks d) x → P x) → Opened P d
    opened_each (unopened cid) h = tt
    opened_each (bare section fault) h = h section (Contains-push [] section)
    opened_each (node section kind children) h = (
      h section (Contains-append_left (section ∷ []) (blocks_of_children children) section (Contains-push [] section)),
      children_each children (λ x c. h x (Contains-append_right (section ∷ []) (blocks_of_children children) x c)),
    )

    children_each : (children : Children) → ((x : Section) → Contains (blocks_of_children children) x → P x) → OpenedChildren P children
    children_each no_child h = tt
    children_each (with_child d children) h = (
      opened_each d (λ x c. h x (Contains-append_left (blocks d) (blocks_of_children children) x c)),
      children_each children (λ x c. h x (Contains-append_right (blocks d) (blocks_of_children children) x c)),
    )

if_once : (dups : Bool) (P : Type 0) → P → IfOnce dups P
if_once true P h = tt
if_once false P h = h

-- of a query that is opened
pub held_of : (q : QueryParts) (d : Dag) (x : Section) → Contains (opened_list q d) x → Contains (blocks d) x
held_of q d x c = All-contains (Contains (blocks d)) (opened_list q d) x (traversal_opened (Contains (blocks d)) q d (opened_each (Contains (blocks d)) d (λ y h. h))) c

-- and that are sent
pub sent_of_dag : (q : QueryParts) (d : Dag) (x : Section) → Contains (block_list q d) x → Contains (blocks d) x
sent_of_dag q d x c = held_of q d x (sent_held q (opened_list q d) x c)

module _ (q : QueryParts) (d : Dag) (one : HasOneBlock d) where
  one_opened : HasOneBlockEach (opened_list q d)
  one_opened a b in_a in_b e = one a b (held_of q d a in_a) (held_of q d b in_b) (ap as_v1 e)

  one_each : IfOnce q.dups (HasOneBlockEach (opened_list q d))
  one_each = if_once q.dups (HasOneBlockEach (opened_list q d)) one_opened

  no_pair : CollisionPair (block_list q d) d → ⊥
  no_pair p = p.differ (one p.received p.held (sent_of_dag q d p.received p.is_received) p.is_held (ap as_v1 p.same_cid))

-- ---- limits

within_both : (most some n : LimitNumbers) → AreWithin most some → AreWithin some n → AreWithin most n
within_both most some n a b = record {
  block = omega (arith, a.block, b.block);
  depth = omega (arith, a.depth, b.depth);
  entries = omega (arith, a.entries, b.entries);
  names = omega (arith, a.names, b.names);
  received = omega (arith, a.received, b.received);
  output = omega (arith, a.output, b.output);
  seen_blocks = omega (arith, a.seen_blocks, b.seen_blocks);
  seen_bytes = omega (arith, a.seen_bytes, b.seen_bytes);
  reused = omega (arith, a.reused, b.reused);
}

fitting_within : (q : QueryParts) (d s : Dag) (text : List ℕ) → HasOneBlock d → IsWithinLimits q standard d → Fits s q (block_list q d) text
    → AreWithin (counts q d) (counts q s) ⊎ CollisionPair (block_list q s) d → IsWithinLimits q standard s
fitting_within q d s text one within fits (inl fewer) = within_both standard (counts q d) (counts q s) within fewer
fitting_within q d s text one within fits (inr pair) =
    absurd (no_pair q d one (subst (λ (l : List Section). CollisionPair l d) fits.list pair))

-- ---- the reply over the store

module _ (laws : QueryLaws) (store : Store) (q : QueryParts) (d : Dag) (own : IsOwnQuery store q d) where
  asks : (head : RequestHead) → IsOwnHead q head → AsksForHeld store d q head
  asks head h = record { sound = own.sound; root = own.root; holds = own.holds; shallow = own.within.shallow; asked_is = h.asked_is }

  by_end : (head : RequestHead) → IsOwnHead q head → (end : PathEnd) (other : LookupEnd) → (path_walk q.path d).end ≡ end → lookup_path q.path d ≡ other
      → EndsAlike end other → q.form ≡ forms.Car → reply store head ≡ own_reply head q d forms.Car
  by_end head h (terminal t) (lookup.found u) e o alike f =
      laws.answers store d q head (node_text q.scope q.span u) (asks head h) f (ap (answer_at q) o)
      ∙ sym (ap (λ (x : LookupEnd). car_reply head (is_answer (answer_at q x)) q (block_list q d) false) o)
  by_end head h (not_reached (walk.not_there i)) (lookup.not_there j) e o alike f =
      laws.absences store d q head (walk.not_there i) (asks head h) f e (inl (i, refl))
      ∙ sym (ap (λ (x : LookupEnd). car_reply head (is_answer (answer_at q x)) q (block_list q d) false) o)
  by_end head h (not_reached (walk.not_folder i)) (lookup.not_folder j) e o alike f =
      laws.absences store d q head (walk.not_folder i) (asks head h) f e (inr (i, refl))
      ∙ sym (ap (λ (x : LookupEnd). car_reply head (is_answer (answer_at q x)) q (block_list q d) false) o)
  by_end head h _ _ e o alike f = absurd alike

  by_form : (head : RequestHead) → IsOwnHead q head → (form : Form) → q.form ≡ form → reply store head ≡ own_reply head q d form
  by_form head h forms.Raw f = laws.raws store d q head (asks head h) f
  by_form head h forms.Car f = by_end head h (path_walk q.path d).end (lookup_path q.path d) refl refl (laws.alike d q.path own.sound) f

  close_asked : (head : RequestHead) → IsOwnHead q head → asks_close head ≡ true
  close_asked head h = rw (h.minor, h.close) refl

  reply_closes : (head : RequestHead) (form : Form) → IsOwnHead q head → (own_reply head q d form).closes ≡ true
  reply_closes head forms.Raw h = close_asked head h
  reply_closes head forms.Car h = rw (close_asked head h) refl

  -- it carries the sections of the DAG's own traversal
  carried_by : (bytes : List ℕ) → Replies store (request_text q audit_addr ++ []) bytes → IsCarried q standard d bytes
  carried_by bytes writes =
      let read = laws.requests q audit_addr [] own.printable in
      let head = read.0.0 in
      let h = (read.1 head [] read.0.1).0 in
      let same : reply store head ≡ own_reply head q d q.form = by_form head h q.form refl in
      let is : bytes ≡ reply_bytes (own_reply head q d q.form) =
      laws.one store (request_text q audit_addr ++ []) bytes (reply_bytes (reply store head)) writes
      (closes (request_text q audit_addr ++ []) [] head read.0.1 (ap (λ (r : Reply). r.closes) same ∙ reply_closes head q.form h))
      ∙ ap reply_bytes same in
      subst (IsCarried q standard d) (sym is)
      (laws.carries q d standard audit_addr head own.sound own.root own.spelled own.within own.printable h)

  carried : (bytes : List ℕ) → IsReplied (Some store) q bytes → IsCarried q standard d bytes
  carried bytes r =
      let full = subst (λ (l : List ℕ). SentInFull (SentFor store) l r.sent r.rest) (sym (append-nil (request_text q audit_addr))) r.sent_is in
      subst (IsCarried q standard d) (sym r.reply_is)
      (carried_by (sent_bytes r.sent) (laws.replies store (request_text q audit_addr ++ []) r.rest r.sent full r.unbroken).0)

  -- the request is short
  short : (number : ℕ) → IsUnanswered (Some store) q (audits.Limit number) → ⊥
  short number h = omega (arith, h.1, own.printable.fits)

  -- ---- what a client hears of it

  -- a front of no bytes alone
  first_none : (a b : List ℕ) → a ++ b ≡ [] → a ≡ []
  first_none [] b e = refl
  first_none (x ∷ a) b e = absurd (cc e)

  last_none : (a b : List ℕ) → a ++ b ≡ [] → b ≡ []
  last_none [] b e = e
  last_none (x ∷ a) b e = absurd (cc e)

  -- bytes that carry sections, whether or not the link ended
  all_within : (IsHead : ReplyHead → Type 0) (bytes other : List ℕ) (sections : List Section) (over : Bool) → length bytes ≤ standard.received
      → CarriesBehind IsHead bytes false q sections → bytes ≡ other → CarriesWithinBy IsHead q standard other over sections
  all_within IsHead bytes other sections over few carries same = record {
    front = bytes;
    more = [];
    whole = sym same ∙ sym (append-nil bytes);
    few = few;
    ended = false;
    is_over = λ e. absurd (cc e);
    carries = carries;
  }

  module _ (text : List ℕ) (is : answer q d ≡ Some text) where
    fitted : (s : Dag) × Fits s q (block_list q d) text
    fitted = laws.fits q d text own.sound own.root (one_each q d own.within.one_block) is

    small : IsWithinLimits q standard fitted.0
    small =
        fitting_within q d fitted.0 text own.within.one_block own.within.counts_are fitted.1
        (laws.counted q d fitted.0 own.sound own.root fitted.1.right)

    carries_answer : (bytes : List ℕ) → IsReplied (Some store) q bytes → Carries bytes false q (block_list q d)
    carries_answer bytes r =
        subst (λ (l : List ℕ). Carries l false q (block_list q d)) (append-nil bytes)
        (subst (λ (a : Option (List ℕ)). CarriedBy (is_answer a) (bytes ++ []) false q (block_list q d)) is ((carried bytes r).carries [] false))

    within_answer : (bytes other : List ℕ) (over : Bool) → IsReplied (Some store) q bytes → bytes ≡ other → CarriesWithin q standard other over (block_list q d)
    within_answer bytes other over r same = all_within (IsAnswerHead q) bytes other (block_list q d) over (carried bytes r).few (carries_answer bytes r) same

    answer_text : (bytes : List ℕ) (hashed : Hashed) → IsReplied (Some store) q bytes → IsHeardAnswer q standard bytes hashed → IsHashOf text hashed
    answer_text bytes hashed r a =
        let same = (laws.answer_is q standard fitted.0 (block_list q d) text a.front a.more a.ended a.ended a.sections a.text fitted.1
        (within_answer bytes (a.front ++ a.more) a.ended r a.whole) a.over a.answered).1 in
        subst (λ (l : List ℕ). IsHashOf l hashed) same a.hash

    not_refused : (bytes : List ℕ) (fault : FetchFault) → IsReplied (Some store) q bytes → IsHeardRefusal q standard bytes fault → ⊥
    not_refused bytes fault r h =
        h.of_reply
        (laws.taken q standard fitted.0 (block_list q d) text h.front h.next h.more h.ended h.ended h.sections h.text fault fitted.1 small
        (within_answer bytes (h.front ++ (h.next ++ h.more)) h.ended r h.whole)
        (λ e. (e, first_none h.next h.more (h.over e), last_none h.next h.more (h.over e))) h.refused)

    no_fault : (fault : AuditFault) → IsUnanswered (Some store) q fault → fault ≡ audits.OutOfMemory
    no_fault (audits.Client fault) h = absurd (not_refused h.reply fault h.replied h.refusal)
    no_fault (audits.Limit number) h = absurd (short number h)
    no_fault (audits.Import fault) h = absurd h
    no_fault (audits.Pack fault) h = absurd h
    no_fault (audits.Differs at) h = absurd h
    no_fault audits.SinkFault h = absurd h
    no_fault audits.OutOfMemory h = refl

    pub own_answered : IsAnsweredWith store q text
    own_answered = record { answered = λ hashed a. answer_text a.reply hashed a.replied a.answer; unanswered = no_fault }

  -- ---- where a segment leads nowhere

  module _ (miss : Miss) (car : q.form ≡ forms.Car) (end : (traversal q d).end ≡ stopped (stop_of miss)) where
    leads : (path_walk q.path d).end ≡ not_reached (stop_of miss)
    leads = (laws.nowhere q d (stop_of miss) own.sound end).0

    none : answer q d ≡ None
    none = (laws.nowhere q d (stop_of miss) own.sound end).1

    -- from the end of the path on
    abbrev from_path : QueryParts → List Section → PathEnd → Traversal
    from_path p way end =
        let below = from_end end p.scope p.span (length way + 1) in
        record { places = walk_places 1 way ++ below.places; text = below.text; met = below.met; end = below.end }

    abbrev on_path : List Section → Stop → Traversal
    on_path way stop = record { places = walk_places 1 way ++ []; text = []; met = []; end = stopped stop }

    stops_so : (p : QueryParts) → (path_walk p.path d).end ≡ not_reached (stop_of miss) → traversal p d ≡ on_path (path_walk p.path d).sections (stop_of miss)
    stops_so p e = ap (from_path p (path_walk p.path d).sections) e

    same_traversal : traversal (path_query q) d ≡ traversal q d
    same_traversal = stops_so (path_query q) leads ∙ sym (stops_so q leads)

    same_sent : (sections : List Section) → sent_of q sections ≡ sent_of (path_query q) sections
    same_sent sections = ap (λ (f : Form). sent_of (record q { form = f }) sections) car

    same_counts : (t : Traversal) → counts_of q t ≡ counts_of (path_query q) t
    same_counts t = ap (λ (f : Form). counts_of (record q { form = f }) t) car

    path_within : (n : LimitNumbers) → AreWithin standard n → n.output ≡ 0 → AreWithin (path_limits standard) n
    path_within n w zero_is = record {
      block = w.block;
      depth = w.depth;
      entries = w.entries;
      names = w.names;
      received = w.received;
      output = omega (arith, zero_is);
      seen_blocks = w.seen_blocks;
      seen_bytes = w.seen_bytes;
      reused = w.reused;
    }

    shown : (s : Dag) × IsNowhereIn q standard s miss × (block_list q d ≡ block_list (path_query q) s)
    shown =
        let path_end : (traversal (path_query q) d).end ≡ stopped (stop_of miss) = ap (λ (t : Traversal). t.end) same_traversal ∙ end in
        let (s, right, same) = laws.opened (path_query q) d (stop_of miss) own.sound own.root (one_each (path_query q) d own.within.one_block) path_end in
        let both : traversal (path_query q) s ≡ traversal q d = same ∙ same_traversal in
        let count : counts q d ≡ counts (path_query q) s = same_counts (traversal q d) ∙ ap (counts_of (path_query q)) (sym both) in
        let zero_out : (counts q d).output ≡ 0 = ap output_count (stops_so q leads) in
        let nowhere : IsNowhereIn q standard s miss = record {
          opened = right;
          ends = ap (λ (t : Traversal). t.end) both ∙ end;
          within = path_within (counts (path_query q) s) (subst (AreWithin standard) count own.within.counts_are)
              (subst (λ (n : LimitNumbers). n.output ≡ 0) count zero_out);
        } in
        (s, nowhere, same_sent (opened_list q d) ∙ ap (λ (t : Traversal). sent_of (path_query q) (sections_of t.places)) (sym both))

    carries_absence : (bytes : List ℕ) → IsReplied (Some store) q bytes → CarriesAbsence bytes false q (block_list (path_query q) shown.0)
    carries_absence bytes r =
        subst₂ (λ (l : List ℕ) (sections : List Section). CarriesAbsence l false q sections) (append-nil bytes) shown.2
        (subst (λ (a : Option (List ℕ)). CarriedBy (is_answer a) (bytes ++ []) false q (block_list q d)) none ((carried bytes r).carries [] false))

    within_absence : (bytes other : List ℕ) (over : Bool) → IsReplied (Some store) q bytes → bytes ≡ other
        → CarriesAbsenceWithin q standard other over (block_list (path_query q) shown.0)
    within_absence bytes other over r same =
        all_within (IsAbsenceHead q) bytes other (block_list (path_query q) shown.0) over (carried bytes r).few (carries_absence bytes r) same

    no_text : (bytes : List ℕ) (hashed : Hashed) → IsReplied (Some store) q bytes → IsHeardAnswer q standard bytes hashed → ⊥
    no_text bytes hashed r a =
        laws.no_answer q standard shown.0 miss a.front a.more a.ended a.ended a.sections a.text shown.1
        (within_absence bytes (a.front ++ a.more) a.ended r a.whole) a.over a.answered

    missed : (bytes : List ℕ) (fault : FetchFault) → IsReplied (Some store) q bytes → IsHeardRefusal q standard bytes fault → IsMissHeard miss fault
    missed bytes fault r h =
        (laws.told q standard shown.0 miss h.front h.next h.more h.ended h.ended h.sections h.text fault shown.1
        (within_absence bytes (h.front ++ (h.next ++ h.more)) h.ended r h.whole)
        (λ e. (e, first_none h.next h.more (h.over e), last_none h.next h.more (h.over e))) h.refused).0

    -- want of memory isn't of the reply
    miss_of : (fault : FetchFault) → IsMissHeard miss fault → (IsOwnFault fault → ⊥) → IsMissOrMemory miss (audits.Client fault)
    miss_of (fetches.Refused refusal) h not = h
    miss_of fetches.OutOfMemory h not = absurd (not tt)
    miss_of fetches.PeerFault h not = absurd h
    miss_of fetches.KeepFault h not = absurd h
    miss_of (fetches.Status status) h not = absurd h
    miss_of fetches.BadType h not = absurd h
    miss_of fetches.BadReplyHead h not = absurd h
    miss_of fetches.BadFraming h not = absurd h
    miss_of (fetches.BadCar car_fault) h not = absurd h

    miss_fault : (fault : AuditFault) → IsUnanswered (Some store) q fault → IsMissOrMemory miss fault
    miss_fault (audits.Client fault) h = miss_of fault (missed h.reply fault h.replied h.refusal) h.refusal.of_reply
    miss_fault (audits.Limit number) h = absurd (short number h)
    miss_fault (audits.Import fault) h = absurd h
    miss_fault (audits.Pack fault) h = absurd h
    miss_fault (audits.Differs at) h = absurd h
    miss_fault audits.SinkFault h = absurd h
    miss_fault audits.OutOfMemory h = tt

    pub own_refused : IsRefusedFor store q miss
    own_refused = record { unanswered = λ hashed a. no_text a.reply hashed a.replied a.answer; refused = miss_fault }
