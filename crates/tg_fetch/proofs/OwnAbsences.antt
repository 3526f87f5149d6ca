-- What a gateway's session sends for a client's request whose path leads nowhere is refused by it for that segment alone.
use Rattle.std.proofs.Common.{◌≡◌, ℕ, ◌+◌, ◌≤◌, Bool, false, Err, Ok, Result, List, [], ◌∷◌, ◌++◌, length, refl, sym, ap, subst, subst₂, ◌∙◌, inl, inr, append-nil, append_assoc, arith}
use Rattle.std.specs.Prelude.{◌⊎◌}
use Rattle.tg_client.specs.Body.{BodyStands}
use Rattle.tg_heard.specs.Exchanges.{IsHeld, IsWithin, is_answer}
use Rattle.tg_heard.specs.Sessions.{SentCarries}
use Rattle.tg_fetch.proofs.Feeding.{at_open}
use Rattle.tg_fetch.proofs.OwnExchanges.{all_within, behind_front, closed_there, no_end, none_behind, one_each}
use Rattle.tg_fetch.proofs.PathCounts.{OwnNowhere, same_counts}
use Rattle.tg_fetch.specs.Clients.{IsAt, IsShortAt}
use Rattle.tg_fetch.specs.Laws.{AbsenceIsNoAnswer, AbsenceIsTold, CarriesAbsenceWithin, IsMissOrMemory, IsNowhereIn, IsOwnNowhere}
use Rattle.tg_fetch.specs.Own.{IsFed, NowhereIsFed, WritesNothing}
use Rattle.tg_fetch.specs.Replies.{IsAnswered, IsOpenBefore, IsOpenReply, IsShortBehind, RefusedBy}
use Rattle.tg_fetch.specs.declared.client.Client.{Client}
use Rattle.tg_fetch.specs.declared.fault.FetchFault.{FetchFault}
use Rattle.tg_fetch.specs.declared.fault.FetchFault.TheVariants as faults
use Rattle.tg_heard.specs.Carried.{CarriesAbsence, IsAbsenceHead}
use Rattle.tg_heard.specs.FrontLaws.{BodyPieceLaws, HeadLaws}
use Rattle.tg_heard.specs.Laws.{CarriedBy, OneFinalHead}
use Rattle.tg_model.specs.Counts.{counts, counts_of, output_count}
use Rattle.tg_model.specs.Dag.{Dag, Section, root_cid}
use Rattle.tg_model.specs.Fits.{HasOneBlockEach, IfOnce, IsOpenedFor}
use Rattle.tg_model.specs.LimitNumbers.{AreWithin, LimitNumbers}
use Rattle.tg_model.specs.PathWalk.{PathEnd, Stop, not_reached, path_walk, stopped}
use Rattle.tg_model.specs.Queries.{QueryParts}
use Rattle.tg_model.specs.Sound.{IsSound}
use Rattle.tg_model.specs.Stores.{Store}
use Rattle.tg_model.specs.Traversal.{Traversal, block_list, from_end, opened_list, sections_of, sent as sent_of, traversal, walk_places}
use Rattle.tg_model.specs.declared.queries.Form.{Form}
use Rattle.tg_model.specs.declared.queries.Form.TheVariants as forms
use Rattle.tg_query.specs.Laws.{IsPrintable}
use Rattle.tg_query.specs.Requests.{request_text}
use Rattle.tg_reply.specs.Sent.{Sent, SentFor, SentInFull, failed_in, sent_bytes}
use Rattle.tg_streams.specs.Streams.{Output, Put}
use Rattle.tg_model_laws.specs.Tasks.{Miss, stop_of}
use Rattle.tg_verify.specs.Absences.{path_limits, path_query}
use Rattle.tg_verify.specs.declared.verifier.Progress.{Progress}
use Rattle.tg_verify.specs.declared.verifier.Progress.TheVariants as progresses

-- ---- lists

-- nothing is made of nothing alone
first_none : (a b : List ℕ) → a ++ b ≡ [] → a ≡ []
first_none [] b e = refl
first_none (x ∷ a) b e = absurd (cc e)

last_none : (a b : List ℕ) → a ++ b ≡ [] → b ≡ []
last_none [] b e = e
last_none (x ∷ a) b e = absurd (cc e)

-- what is open, whether or not a body of stated length is whole
any_open : (q : QueryParts) (limits : LimitNumbers) (heard : List ℕ) (sections : List Section) (text : List ℕ) → IsOpenBefore heard sections text ⊎ IsShortBehind q limits heard sections text
    → IsOpenReply q limits heard sections text
any_open q limits heard sections text (inl before) = inl before
any_open q limits heard sections text (inr s) = inr s.behind

-- ---- the blocks on the path, for the query and for its path alone

-- for a CAR the same sections are sent
same_sent : (q : QueryParts) (sections : List Section) → q.form ≡ forms.Car → sent_of q sections ≡ sent_of (path_query q) sections
same_sent q sections e = ap (λ (f : Form). sent_of (record q { form = f }) sections) e

-- from the end of the path on
abbrev from_path : QueryParts → List Section → PathEnd → Traversal
from_path q way end =
    let below = from_end end q.scope q.span (length way + 1) in
    record { places = walk_places 1 way ++ below.places; text = below.text; met = below.met; end = below.end }

-- a traversal that stops on the path
abbrev on_path : List Section → Stop → Traversal
on_path way stop = record { places = walk_places 1 way ++ []; text = []; met = []; end = stopped stop }

-- where the path leads nowhere the traversal is one
stops_so : (q : QueryParts) (d : Dag) (stop : Stop) → (path_walk q.path d).end ≡ not_reached stop → traversal q d ≡ on_path (path_walk q.path d).sections stop
stops_so q d stop e = ap (from_path q (path_walk q.path d).sections) e

same_traversal : (q : QueryParts) (d : Dag) (stop : Stop) → (path_walk q.path d).end ≡ not_reached stop → traversal (path_query q) d ≡ traversal q d
same_traversal q d stop e = stops_so (path_query q) d stop e ∙ sym (stops_so q d stop e)

-- and nothing is put for it
none_put : (q : QueryParts) (d : Dag) (stop : Stop) → (path_walk q.path d).end ≡ not_reached stop → output_count (traversal q d) ≡ 0
none_put q d stop e = ap output_count (stops_so q d stop e)

-- so the limits of the path's query hold
path_within : (limits n : LimitNumbers) → AreWithin limits n → n.output ≡ 0 → AreWithin (path_limits limits) n
path_within limits n w none = record {
  block = w.block;
  depth = w.depth;
  entries = w.entries;
  names = w.names;
  received = w.received;
  output = omega (arith, none);
  seen_blocks = w.seen_blocks;
  seen_bytes = w.seen_bytes;
  reused = w.reused;
}

-- ---- the blocks on the path of a sound DAG

abbrev pub OwnOpened : Type 0
OwnOpened = (q : QueryParts) (d : Dag) (stop : Stop) → IsSound d → root_cid d ≡ q.root → IfOnce q.dups (HasOneBlockEach (opened_list q d)) → (traversal q d).end ≡ stopped stop
    → (s : Dag) × IsOpenedFor s q × (traversal q s ≡ traversal q d)

-- they open a partial DAG in which the segment leads nowhere too
pub own_shown : OwnNowhere → OwnOpened → (q : QueryParts) (limits : LimitNumbers) (d : Dag) (miss : Miss) → IsOwnNowhere q limits d miss
    → (s : Dag) × IsNowhereIn q limits s miss × (block_list q d ≡ block_list (path_query q) s)
own_shown nowhere opened q limits d miss own =
    let leads = (nowhere q d (stop_of miss) own.sound own.ends).0 in
    let one = same_traversal q d (stop_of miss) leads in
    let path_end : (traversal (path_query q) d).end ≡ stopped (stop_of miss) = ap (λ (t : Traversal). t.end) one ∙ own.ends in
    let (s, right, same) = opened (path_query q) d (stop_of miss) own.sound own.root (one_each (path_query q) d own.one_each) path_end in
    let both : traversal (path_query q) s ≡ traversal q d = same ∙ one in
    let count : counts q d ≡ counts (path_query q) s = same_counts q (traversal q d) own.car ∙ ap (counts_of (path_query q)) (sym both) in
    let none : (counts q d).output ≡ 0 = none_put q d (stop_of miss) leads in
    let shown : IsNowhereIn q limits s miss = record {
      opened = right;
      ends = ap (λ (t : Traversal). t.end) both ∙ own.ends;
      within = path_within limits (counts (path_query q) s) (subst (AreWithin limits) count own.within) (subst (λ (n : LimitNumbers). n.output ≡ 0) count none);
    } in
    (s, shown, same_sent q (opened_list q d) own.car ∙ ap (λ (t : Traversal). sent_of (path_query q) (sections_of t.places)) (sym both))

-- ---- what is sent

-- it carries the sections of a partial DAG in which the segment leads nowhere, and is no longer than may be received
pub record IsOwnAbsence (q : QueryParts) (limits : LimitNumbers) (miss : Miss) (bytes : List ℕ) : Type 0 where
  pub s : Dag
  pub shown : IsNowhereIn q limits s miss
  pub carries : CarriesAbsence bytes false q (block_list (path_query q) s)
  pub few : length bytes ≤ limits.received

pub own_absence : SentCarries → OwnNowhere → OwnOpened → (store : Store) (q : QueryParts) (d : Dag) (limits : LimitNumbers) (addr next rest : List ℕ) (sent : List Sent) → IsHeld store q d
    → IsWithin q limits d → IsPrintable q addr → SentInFull (SentFor store) (request_text q addr ++ next) sent rest → failed_in sent ≡ 0
    → (miss : Miss) → q.form ≡ forms.Car → (traversal q d).end ≡ stopped (stop_of miss) → IsOwnAbsence q limits miss (sent_bytes sent)
own_absence sends nowhere opened store q d limits addr next rest sent held within printable full unfailed miss car end =
    let carried = sends store q d limits addr next rest sent held within printable full unfailed in
    let none = (nowhere q d (stop_of miss) held.sound end).1 in
    let own : IsOwnNowhere q limits d miss =
    record { sound = held.sound; root = held.root; car = car; ends = end; one_each = within.one_block; within = within.counts_are } in
    let (s, shown, list) = own_shown nowhere opened q limits d miss own in
    let behind : CarriesAbsence (sent_bytes sent ++ []) false q (block_list q d) =
    subst (λ (b : Bool). CarriedBy b (sent_bytes sent ++ []) false q (block_list q d)) (ap is_answer none) (carried.carries [] false) in
    record {
      s = s;
      shown = shown;
      carries = subst₂ (λ (l : List ℕ) (sections : List Section). CarriesAbsence l false q sections) (append-nil (sent_bytes sent)) list behind;
      few = carried.few;
    }

-- ---- it is fed to the client

module _ (heads : HeadLaws) (one_head : OneFinalHead) (pieces : BodyPieceLaws) (standing : BodyStands) (told : AbsenceIsTold) (none : AbsenceIsNoAnswer) (q : QueryParts)
    (limits : LimitNumbers) (miss : Miss) (bytes : List ℕ) (own : IsOwnAbsence q limits miss bytes) where
  abbrev sections_sent : List Section
  sections_sent = block_list (path_query q) own.s

  own_within : (other : List ℕ) → bytes ≡ other → CarriesAbsenceWithin q limits other false sections_sent
  own_within other same = all_within (IsAbsenceHead q) q limits bytes other sections_sent own.few own.carries same

  -- a front is refused for the segment, with nothing written
  own_told : (heard unheard more : List ℕ) (sections : List Section) (text : List ℕ) (fault : FetchFault) → bytes ≡ heard ++ (unheard ++ more)
      → RefusedBy q limits heard unheard false sections text fault → IsMissOrMemory miss fault × (text ≡ [])
  own_told heard unheard more sections text fault same r =
      told q limits own.s miss heard unheard more false false sections text fault own.shown (own_within (heard ++ (unheard ++ more)) same) no_end r

  -- what was put is nothing where nothing is written behind it
  writes_nothing : (written text : List ℕ) (out : Output) → Put text out → written ++ text ≡ [] → WritesNothing written out
  writes_nothing written text out put none = record {
    before = first_none written text none;
    now = subst (λ (l : List ℕ). Put l out) (last_none written text none) put;
  }

  pub absence_fed : (client : Client) (heard piece more written : List ℕ) (out : Output) (result : Result Progress FetchFault) → client.query ≡ q → client.limits ≡ limits
      → bytes ≡ heard ++ (piece ++ more) → IsFed client heard piece written out result → NowhereIsFed miss more result × WritesNothing written out
  absence_fed client heard piece more written out (Ok progresses.More) query limits_are same fed =
      let text = fed.ends.text in
      let at : IsAt q limits client.stage (heard ++ piece) (written ++ text) =
      subst₂ (λ (p : QueryParts) (l : LimitNumbers). IsAt p l client.stage (heard ++ piece) (written ++ text)) query limits_are fed.ends.is_open.at in
      let short : IsShortAt q limits client.stage (heard ++ piece) =
      subst₂ (λ (p : QueryParts) (l : LimitNumbers). IsShortAt p l client.stage (heard ++ piece)) query limits_are (fed.short refl) in
      let o = at_open standing q limits client.stage (heard ++ piece) (written ++ text) at short in
      -- memory could be wanted there, which says what is written where it is open
      let (_, no_text) = own_told (heard ++ piece) [] more o.sections (written ++ text) faults.OutOfMemory (same ∙ sym (append_assoc heard piece more))
      (RefusedBy.memory refl (any_open q limits (heard ++ piece) o.sections (written ++ text) o.is_open)) in (
        λ last. closed_there heads one_head pieces standing (IsAbsenceHead q) q limits sections_sent bytes client.stage (heard ++ piece) (written ++ text) own.few own.carries
            (none_behind bytes heard piece more same last) at short,
        writes_nothing written text out fed.ends.put no_text,
      )
  absence_fed client heard piece more written out (Ok progresses.Done) query limits_are same fed =
      let a = fed.ends.0 in
      let is : IsAnswered q limits (heard ++ a.front) false a.sections (written ++ a.text) =
      subst₂ (λ (p : QueryParts) (l : LimitNumbers). IsAnswered p l (heard ++ a.front) false a.sections (written ++ a.text)) query limits_are a.answered in
      let carries = own_within ((heard ++ a.front) ++ (a.more ++ more)) (behind_front bytes heard piece more a.front a.more same a.whole) in
      absurd (none q limits own.s miss (heard ++ a.front) (a.more ++ more) false false a.sections (written ++ a.text) own.shown carries no_end is)
  absence_fed client heard piece more written out (Err fault) query limits_are same fed =
      let r = fed.ends in
      let is : RefusedBy q limits (heard ++ r.front) r.more false r.sections (written ++ r.text) fault =
      subst₂ (λ (p : QueryParts) (l : LimitNumbers). RefusedBy p l (heard ++ r.front) r.more false r.sections (written ++ r.text) fault) query limits_are r.refused in
      let (fault_is, no_text) = own_told (heard ++ r.front) r.more more r.sections (written ++ r.text) fault (behind_front bytes heard piece more r.front r.more same r.whole) is in
      (fault_is, writes_nothing written r.text out r.put no_text)
