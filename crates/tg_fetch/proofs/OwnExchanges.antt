-- What a gateway's session sends for a client's request is accepted by it, piece by piece, where the query has an answer.
use Rattle.std.proofs.Common.{◌≡◌, ℕ, ◌≤◌, Bool, true, false, Contains, Err, Ok, Result, Some, List, [], ◌∷◌, ◌++◌, length, refl, sym, ap, subst, subst₂, ◌∙◌, inl, inr, append-nil, append_assoc, arith}
use Rattle.std.specs.Prelude.{◌⊎◌}
use Rattle.std.proofs.lemmas.List.Elements.{All-contains, Contains-append_left, Contains-append_right, Contains-push}
use Rattle.tg_client.specs.Body.{BodyStands}
use Rattle.tg_heard.specs.Exchanges.{HasOneBlockEach as HasOneBlock, IsHeld, IsWithin, is_answer}
use Rattle.tg_heard.specs.Sessions.{SentCarries}
use Rattle.tg_fetch.proofs.Carriers.{carrier_behind, not_open}
use Rattle.tg_fetch.proofs.Feeding.{at_open}
use Rattle.tg_fetch.proofs.HearingOn.{refused_not}
use Rattle.tg_fetch.specs.Clients.{IsAt, IsShortAt}
use Rattle.tg_fetch.specs.Laws.{CarriedIsAnswer, CarriedIsTaken, CarriesWithin, CarriesWithinBy, IsOwnFault}
use Rattle.tg_fetch.specs.Own.{AnswerIsFed, IsFed, IsOutOrMemory}
use Rattle.tg_fetch.specs.Replies.{IsAnswered, RefusedBy}
use Rattle.tg_fetch.specs.declared.client.Client.{Client}
use Rattle.tg_fetch.specs.declared.client.Stage.{Stage}
use Rattle.tg_fetch.specs.declared.fault.FetchFault.{FetchFault}
use Rattle.tg_fetch.specs.declared.fault.FetchFault.TheVariants as faults
use Rattle.tg_heard.specs.Carried.{Carries, CarriesBehind, IsAnswerHead}
use Rattle.tg_heard.specs.FrontLaws.{BodyPieceLaws, HeadLaws}
use Rattle.tg_heard.specs.Laws.{CarriedBy, OneFinalHead}
use Rattle.tg_http.specs.declared.framing.Framing.{Framing}
use Rattle.tg_http.specs.declared.framing.Framing.TheVariants as framings
use Rattle.tg_http.specs.declared.reply.ReplyHead.{ReplyHead}
use Rattle.tg_model.specs.Answer.{answer}
use Rattle.tg_model.specs.Counts.{counts}
use Rattle.tg_model.specs.Dag.{Children, Dag, Section, bare, blocks, blocks_of_children, no_child, node, root_cid, unopened, with_child}
use Rattle.tg_model.specs.Fits.{CollisionPair, Fits, HasOneBlockEach, IfOnce, IsOpenedFor}
use Rattle.tg_model.specs.LimitNumbers.{AreWithin, LimitNumbers}
use Rattle.tg_model.specs.Queries.{QueryParts}
use Rattle.tg_model.specs.Sound.{IsSound}
use Rattle.tg_model.specs.Stores.{Store, as_v1}
use Rattle.tg_model.specs.Traversal.{block_list, opened_list}
use Rattle.tg_model_laws.specs.OpenedSections.{Opened, OpenedChildren, traversal_opened}
use Rattle.tg_model_laws.specs.SentSections.{sent_held}
use Rattle.tg_query.specs.Laws.{IsPrintable}
use Rattle.tg_query.specs.Requests.{request_text}
use Rattle.tg_reply.specs.Sent.{Sent, SentFor, SentInFull, failed_in, sent_bytes}
use Rattle.tg_streams.specs.Streams.{Output}
use Rattle.tg_verify.specs.Laws.{IsWithinLimits}
use Rattle.tg_verify.specs.declared.fault.Refusal.TheVariants as refusals
use Rattle.tg_verify.specs.declared.verifier.Progress.{Progress}
use Rattle.tg_verify.specs.declared.verifier.Progress.TheVariants as progresses

-- ---- the blocks that are opened for a query are the DAG's

-- what holds of each block of a DAG
module _ (P : Section → Type 0) where
  mutual
    opened_each : (d : Dag) → ((x : Section) → Contains (blocks d) x → P x) → Opened P d
    opened_each (unopened cid) h = tt
    opened_each (bare section fault) h = h section (Contains-push [] section)
    opened_each (node section kind children) h = (
      h section (Contains-append_left (section ∷ []) (blocks_of_children children) section (Contains-push [] section)),
      children_each children (λ x c. h x (Contains-append_right (section ∷ []) (blocks_of_children children) x c)),
    )

    children_each : (children : Children) → ((x : Section) → Contains (blocks_of_children children) x → P x) → OpenedChildren P children
    children_each no_child h = tt
    children_each (with_child d children) h = (
      opened_each d (λ x c. h x (Contains-append_left (blocks d) (blocks_of_children children) x c)),
      children_each children (λ x c. h x (Contains-append_right (blocks d) (blocks_of_children children) x c)),
    )

if_once : (dups : Bool) (P : Type 0) → P → IfOnce dups P
if_once true P h = tt
if_once false P h = h

module _ (q : QueryParts) (d : Dag) (one : HasOneBlock d) where
  held : (x : Section) → Contains (opened_list q d) x → Contains (blocks d) x
  held x c = All-contains (Contains (blocks d)) (opened_list q d) x (traversal_opened (Contains (blocks d)) q d (opened_each (Contains (blocks d)) d (λ y h. h))) c

  -- so one stands under each CID
  one_opened : HasOneBlockEach (opened_list q d)
  one_opened a b in_a in_b e = one a b (held a in_a) (held b in_b) (ap as_v1 e)

  pub one_each : IfOnce q.dups (HasOneBlockEach (opened_list q d))
  one_each = if_once q.dups (HasOneBlockEach (opened_list q d)) one_opened

  -- and there is no collision pair
  no_pair : CollisionPair (block_list q d) d → ⊥
  no_pair p = p.differ (one p.received p.held (held p.received (sent_held q (opened_list q d) p.received p.is_received)) p.is_held (ap as_v1 p.same_cid))

-- ---- limits

within_both : (most some n : LimitNumbers) → AreWithin most some → AreWithin some n → AreWithin most n
within_both most some n a b = record {
  block = omega (arith, a.block, b.block);
  depth = omega (arith, a.depth, b.depth);
  entries = omega (arith, a.entries, b.entries);
  names = omega (arith, a.names, b.names);
  received = omega (arith, a.received, b.received);
  output = omega (arith, a.output, b.output);
  seen_blocks = omega (arith, a.seen_blocks, b.seen_blocks);
  seen_bytes = omega (arith, a.seen_bytes, b.seen_bytes);
  reused = omega (arith, a.reused, b.reused);
}

-- the sections of a sound DAG's own traversal fit, and what they open counts no more than the DAG, or there is a pair
abbrev pub OwnFits : Type 0
OwnFits = (q : QueryParts) (d : Dag) (text : List ℕ) → IsSound d → root_cid d ≡ q.root → IfOnce q.dups (HasOneBlockEach (opened_list q d)) → answer q d ≡ Some text
    → (s : Dag) × Fits s q (block_list q d) text

abbrev pub OpenedCounts : Type 0
OpenedCounts = (q : QueryParts) (d s : Dag) → IsSound d → root_cid d ≡ q.root → IsOpenedFor s q → AreWithin (counts q d) (counts q s) ⊎ CollisionPair (block_list q s) d

pub fitting_within : (q : QueryParts) (limits : LimitNumbers) (d s : Dag) (text : List ℕ) → HasOneBlock d → IsWithinLimits q limits d → Fits s q (block_list q d) text
    → AreWithin (counts q d) (counts q s) ⊎ CollisionPair (block_list q s) d → IsWithinLimits q limits s
fitting_within q limits d s text one within fits (inl fewer) = within_both limits (counts q d) (counts q s) within fewer
fitting_within q limits d s text one within fits (inr pair) =
    absurd (no_pair q d one (subst (λ (l : List Section). CollisionPair l d) fits.list pair))

-- ---- what is sent

-- it carries the sections of the DAG's own traversal, which fit, and is no longer than may be received
pub record IsOwnAnswer (q : QueryParts) (limits : LimitNumbers) (d : Dag) (bytes text : List ℕ) : Type 0 where
  pub s : Dag
  pub fits : Fits s q (block_list q d) text
  pub small : IsWithinLimits q limits s
  pub carries : Carries bytes false q (block_list q d)
  pub few : length bytes ≤ limits.received

pub own_answer : SentCarries → OwnFits → OpenedCounts → (store : Store) (q : QueryParts) (d : Dag) (limits : LimitNumbers) (addr next rest : List ℕ) (sent : List Sent) → IsHeld store q d
    → IsWithin q limits d → IsPrintable q addr → SentInFull (SentFor store) (request_text q addr ++ next) sent rest → failed_in sent ≡ 0
    → (text : List ℕ) → answer q d ≡ Some text → IsOwnAnswer q limits d (sent_bytes sent) text
own_answer sends own counted store q d limits addr next rest sent held within printable full unfailed text is =
    let carried = sends store q d limits addr next rest sent held within printable full unfailed in
    let (s, fits) = own q d text held.sound held.root (one_each q d within.one_block) is in
    let behind : Carries (sent_bytes sent ++ []) false q (block_list q d) =
    subst (λ (b : Bool). CarriedBy b (sent_bytes sent ++ []) false q (block_list q d)) (ap is_answer is) (carried.carries [] false) in
    record {
      s = s;
      fits = fits;
      small = fitting_within q limits d s text within.one_block within.counts_are fits (counted q d s held.sound held.root fits.right);
      carries = subst (λ (l : List ℕ). Carries l false q (block_list q d)) (append-nil (sent_bytes sent)) behind;
      few = carried.few;
    }

-- ---- it is fed to the client

-- a fault that is one's own, and not the peer's
out_or_memory : (fault : FetchFault) → IsOwnFault fault → (fault ≡ faults.PeerFault → ⊥) → IsOutOrMemory fault
out_or_memory (faults.Refused refusals.SinkFault) own not_peer = tt
out_or_memory faults.KeepFault own not_peer = tt
out_or_memory faults.OutOfMemory own not_peer = tt
out_or_memory faults.PeerFault own not_peer = absurd (not_peer refl)
out_or_memory _ own not_peer = absurd own

-- the link didn't end
pub no_end : {A : Type 0} → false ≡ true → A
no_end e = absurd (cc e)

-- it isn't without an end that the connection closes alone
pub no_close : (framing : Framing) (more : List ℕ) → (framing ≡ framings.UntilClose → (false ≡ true) × (more ≡ [])) → framing ≡ framings.UntilClose → ⊥
no_close framing more closed e = let no : false ≡ true = (closed e).0 in cc no

-- a front of a piece, and what is behind it
pub behind_front : (bytes heard piece more front left : List ℕ) → bytes ≡ heard ++ (piece ++ more) → piece ≡ front ++ left → bytes ≡ (heard ++ front) ++ (left ++ more)
behind_front bytes heard piece more front left same whole =
    same ∙ (ap (λ (l : List ℕ). heard ++ (l ++ more)) whole ∙ (ap (λ (l : List ℕ). heard ++ l) (append_assoc front left more) ∙ sym (append_assoc heard front (left ++ more))))

-- nothing is left behind a piece that is the last
pub none_behind : (bytes heard piece more : List ℕ) → bytes ≡ heard ++ (piece ++ more) → more ≡ [] → bytes ≡ (heard ++ piece) ++ ([] ++ [])
none_behind bytes heard piece more same none =
    same ∙ (ap (λ (l : List ℕ). heard ++ (piece ++ l)) none ∙ sym (append_assoc heard piece []))

-- bytes that carry sections, whether or not the link ended
pub all_within : (IsHead : ReplyHead → Type 0) (q : QueryParts) (limits : LimitNumbers) (bytes other : List ℕ) (sections : List Section) → length bytes ≤ limits.received
    → CarriesBehind IsHead bytes false q sections → bytes ≡ other → CarriesWithinBy IsHead q limits other false sections
all_within IsHead q limits bytes other sections few carries same = record {
  front = bytes;
  more = [];
  whole = sym same ∙ sym (append-nil bytes);
  few = few;
  ended = false;
  is_over = no_end;
  carries = carries;
}

module _ (heads : HeadLaws) (one_head : OneFinalHead) (pieces : BodyPieceLaws) (standing : BodyStands) where
  -- where all of a reply came that carries sections the client doesn't stand open
  pub closed_there : (IsHead : ReplyHead → Type 0) (q : QueryParts) (limits : LimitNumbers) (all : List Section) (bytes : List ℕ) (stage : Stage) (heard written : List ℕ) → length bytes ≤ limits.received
      → CarriesBehind IsHead bytes false q all → bytes ≡ heard ++ ([] ++ []) → IsAt q limits stage heard written → IsShortAt q limits stage heard → ⊥
  closed_there IsHead q limits all bytes stage heard written few c same at short =
      let n = carrier_behind IsHead q limits (heard ++ ([] ++ [])) all bytes [] false (sym (same) ∙ sym (append-nil bytes)) few no_end c in
      let o = at_open standing q limits stage heard written at short in
      not_open heads one_head pieces IsHead q limits all heard [] [] n n.tail (sym (append-nil heard) ∙ n.whole) (no_close c.head.framing c.more c.closed) o.sections written o.is_open

  module _ (taken : CarriedIsTaken) (answered : CarriedIsAnswer) (q : QueryParts) (limits : LimitNumbers) (d : Dag) (bytes text : List ℕ) (own : IsOwnAnswer q limits d bytes text) where
    own_within : (other : List ℕ) → bytes ≡ other → CarriesWithin q limits other false (block_list q d)
    own_within other same = all_within (IsAnswerHead q) q limits bytes other (block_list q d) own.few own.carries same

    pub answer_fed : (client : Client) (heard piece more written : List ℕ) (out : Output) (result : Result Progress FetchFault) → client.query ≡ q → client.limits ≡ limits
        → bytes ≡ heard ++ (piece ++ more) → IsFed client heard piece written out result → AnswerIsFed text written more out result
    answer_fed client heard piece more written out (Ok progresses.More) query limits_are same fed = λ none.
        let open_at : IsAt q limits client.stage (heard ++ piece) (written ++ fed.ends.text) =
        subst₂ (λ (p : QueryParts) (l : LimitNumbers). IsAt p l client.stage (heard ++ piece) (written ++ fed.ends.text)) query limits_are fed.ends.is_open.at in
        let short : IsShortAt q limits client.stage (heard ++ piece) =
        subst₂ (λ (p : QueryParts) (l : LimitNumbers). IsShortAt p l client.stage (heard ++ piece)) query limits_are (fed.short refl) in
        closed_there (IsAnswerHead q) q limits (block_list q d) bytes client.stage (heard ++ piece) (written ++ fed.ends.text) own.few own.carries
        (none_behind bytes heard piece more same none) open_at short
    answer_fed client heard piece more written out (Ok progresses.Done) query limits_are same fed =
        let a = fed.ends.0 in
        let is : IsAnswered q limits (heard ++ a.front) false a.sections (written ++ a.text) =
        subst₂ (λ (p : QueryParts) (l : LimitNumbers). IsAnswered p l (heard ++ a.front) false a.sections (written ++ a.text)) query limits_are a.answered in
        let carries = own_within ((heard ++ a.front) ++ (a.more ++ more)) (behind_front bytes heard piece more a.front a.more same a.whole) in
        (a.text, a.put, (answered q limits own.s (block_list q d) text (heard ++ a.front) (a.more ++ more) false false a.sections (written ++ a.text) own.fits carries no_end is).1)
    answer_fed client heard piece more written out (Err fault) query limits_are same fed =
        let r = fed.ends in
        let is : RefusedBy q limits (heard ++ r.front) r.more false r.sections (written ++ r.text) fault =
        subst₂ (λ (p : QueryParts) (l : LimitNumbers). RefusedBy p l (heard ++ r.front) r.more false r.sections (written ++ r.text) fault) query limits_are r.refused in
        let carries = own_within ((heard ++ r.front) ++ (r.more ++ more)) (behind_front bytes heard piece more r.front r.more same r.whole) in
        out_or_memory fault
        (taken q limits own.s (block_list q d) text (heard ++ r.front) r.more more false false r.sections (written ++ r.text) fault own.fits own.small carries no_end is)
        (λ peer. refused_not q limits fault peer (heard ++ r.front) r.more false r.sections (written ++ r.text) is)
