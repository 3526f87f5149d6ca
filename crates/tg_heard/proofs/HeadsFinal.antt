-- Bytes in which a final head stands, with which no reply begins, or in which the final head isn't whole: no two of these hold, and
-- the first two stay with more bytes.
use Rattle.std.proofs.Common.{ℕ, ◌<◌, ◌≤◌, List, [], ◌++◌, length, sym, ap, subst, arith}
use Rattle.std.proofs.lemmas.List.{length-append}
use Rattle.httparse.specs.Grammar.{ReadsResponse}
use Rattle.tg_heard.proofs.Heads.{final_longer, interim_same, interims_longer, one_reply, same_final}
use Rattle.tg_heard.specs.FinalHeads.{BeginsReply, FinalHead, HasBadHead, Interims, IsInterim, IsOpenHead, more, none}
use Rattle.tg_heard.specs.FrontLaws.{HeadLaws}
use Rattle.tg_http.specs.Heads.{HasHeadCause, IsNoReply, IsWaiting, ReplyStays}
use Rattle.tg_http.specs.OneHead.{limit_not_waiting, limit_only, one_beginning}
use Rattle.tg_http.specs.declared.fault.HttpFault.{HttpFault}
use Rattle.tg_http.specs.declared.fault.HttpFault.TheVariants as https
use Rattle.tg_http.specs.declared.reply.ReplyHead.{ReplyHead}

-- ---- a head at the front

-- bytes with a head at their front hold no cause of a refusal
no_cause : (bytes rest : List ℕ) (head : ReplyHead) (fault : HttpFault) → BeginsReply bytes head rest → HasHeadCause IsNoReply bytes fault → ⊥
no_cause bytes rest head https.HeadLimit h c = limit_only bytes h.text h.is_reply.count c h.is_reply.begins h.is_reply.few
no_cause bytes rest head https.BadHead h c =
    let text = (one_beginning bytes h.text c.0 h.is_reply.count c.1 h.is_reply.begins c.2).0 in
    c.4 h.tree (subst (λ (l : List ℕ). ReadsResponse l h.tree []) text h.is_reply.reads)
no_cause bytes rest head https.BadFraming h c = c
no_cause bytes rest head https.OutOfMemory h c = c

-- and don't wait for one
no_waiting : (bytes rest : List ℕ) (head : ReplyHead) → BeginsReply bytes head rest → IsWaiting bytes → ⊥
no_waiting bytes rest head h w = w.none h.text h.is_reply.count h.is_reply.begins

-- bytes that wait for a head hold no cause of a refusal
cause_waits : (bytes : List ℕ) (fault : HttpFault) → HasHeadCause IsNoReply bytes fault → IsWaiting bytes → ⊥
cause_waits bytes https.HeadLimit c w = limit_not_waiting bytes c w
cause_waits bytes https.BadHead c w = w.none c.0 c.1 c.2
cause_waits bytes https.BadFraming c w = c
cause_waits bytes https.OutOfMemory c w = c

-- ---- behind interim heads

-- where no head follows some interim heads, no final head follows others
module _ (No : List ℕ → Type 0) (never : (bytes rest : List ℕ) (head : ReplyHead) → BeginsReply bytes head rest → No bytes → ⊥) where
  none_there : (n m : ℕ) (bytes a b rest : List ℕ) (head : ReplyHead) → Interims n bytes a → Interims m bytes b → No a → BeginsReply b head rest
      → (IsInterim head → ⊥) → ⊥
  none_there n m bytes a b rest head (none x) (none y) has h f = never bytes rest head h has
  none_there n m bytes a b rest head (none x) (more j y r z first begins interim below) has h f = never bytes r first begins has
  none_there n m bytes a b rest head (more i x r z first begins interim below) (none y) has h f =
      f (interim_same first head (sym (one_reply bytes rest r head first h begins).0) interim)
  none_there n m bytes a b rest head (more i x r z first begins interim below) (more j y s w next starts inside under) has h f =
      let same = (one_reply bytes r s first next begins starts).1 in
      none_there i j s a b rest head (subst (λ (l : List ℕ). Interims i l a) same below) under has h f

  -- nor are others followed by bytes that wait for one
  none_waits : ((bytes : List ℕ) → No bytes → IsWaiting bytes → ⊥) → (n m : ℕ) (bytes a b : List ℕ) → Interims n bytes a → Interims m bytes b → No a → IsWaiting b → ⊥
  none_waits clash n m bytes a b (none x) (none y) has waits = clash bytes has waits
  none_waits clash n m bytes a b (none x) (more j y r z first begins interim below) has waits = never bytes r first begins has
  none_waits clash n m bytes a b (more i x r z first begins interim below) (none y) has waits = no_waiting bytes r first begins waits
  none_waits clash n m bytes a b (more i x r z first begins interim below) (more j y s w next starts inside under) has waits =
      let same = (one_reply bytes r s first next begins starts).1 in
      none_waits clash i j s a b (subst (λ (l : List ℕ). Interims i l a) same below) under has waits

-- no more interim heads stand at the front than before a final head
too_many : (n m : ℕ) (bytes a b rest : List ℕ) (head : ReplyHead) → Interims n bytes a → Interims m bytes b → m < n → BeginsReply b head rest
    → (IsInterim head → ⊥) → ⊥
too_many n m bytes a b rest head (none x) k less h f = omega (arith, less)
too_many n m bytes a b rest head (more i x r z first begins interim below) (none y) less h f =
    f (interim_same first head (sym (one_reply bytes rest r head first h begins).0) interim)
too_many n m bytes a b rest head (more i x r z first begins interim below) (more j y s w next starts inside under) less h f =
    let same = (one_reply bytes r s first next begins starts).1 in
    too_many i j s a b rest head (subst (λ (l : List ℕ). Interims i l a) same below) under (omega (arith, less)) h f

-- nor than before bytes that wait for one
too_many_wait : (n m : ℕ) (bytes a b : List ℕ) → Interims n bytes a → Interims m bytes b → m < n → IsWaiting b → ⊥
too_many_wait n m bytes a b (none x) k less waits = omega (arith, less)
too_many_wait n m bytes a b (more i x r z first begins interim below) (none y) less waits = no_waiting bytes r first begins waits
too_many_wait n m bytes a b (more i x r z first begins interim below) (more j y s w next starts inside under) less waits =
    let same = (one_reply bytes r s first next begins starts).1 in
    too_many_wait i j s a b (subst (λ (l : List ℕ). Interims i l a) same below) under (omega (arith, less)) waits

-- ---- no reply begins with them

-- with more bytes behind them neither
bad_longer : ReplyStays → (bytes tail : List ℕ) → HasBadHead bytes → HasBadHead (bytes ++ tail)
bad_longer stays bytes tail (HasBadHead.no_head count behind fault interims few cause) =
    HasBadHead.no_head count (behind ++ tail) fault (interims_longer stays tail count bytes behind interims) few (stays.1 behind tail fault cause)
bad_longer stays bytes tail (HasBadHead.too_many behind interims) = HasBadHead.too_many (behind ++ tail) (interims_longer stays tail 17 bytes behind interims)

-- then no final head stands in them
bad_not_final : (bytes rest : List ℕ) (head : ReplyHead) → HasBadHead bytes → FinalHead bytes head rest → ⊥
bad_not_final bytes rest head (HasBadHead.no_head count behind fault interims few cause) f =
    none_there (λ (b : List ℕ). HasHeadCause IsNoReply b fault) (λ b r h begins c. no_cause b r h fault begins c) count f.count bytes behind f.behind
    rest head interims f.interims cause f.begins f.final
bad_not_final bytes rest head (HasBadHead.too_many behind interims) f =
    too_many 17 f.count bytes behind f.behind rest head interims f.interims (omega (arith, f.few)) f.begins f.final

-- nor where it isn't whole
open_not_final : (bytes rest : List ℕ) (head : ReplyHead) → IsOpenHead bytes → FinalHead bytes head rest → ⊥
open_not_final bytes rest head h f =
    none_there IsWaiting no_waiting h.count f.count bytes h.behind f.behind rest head h.interims f.interims h.waiting f.begins f.final

-- and no bytes are both
bad_not_open : (bytes : List ℕ) → HasBadHead bytes → IsOpenHead bytes → ⊥
bad_not_open bytes (HasBadHead.no_head count behind fault interims few cause) h =
    none_waits (λ (b : List ℕ). HasHeadCause IsNoReply b fault) (λ b r k begins c. no_cause b r k fault begins c) (λ b c w. cause_waits b fault c w)
    count h.count bytes behind h.behind interims h.interims cause h.waiting
bad_not_open bytes (HasBadHead.too_many behind interims) h =
    too_many_wait 17 h.count bytes behind h.behind interims h.interims (omega (arith, h.few)) h.waiting

-- what follows interim heads is no longer than all
behind_fits : (n : ℕ) (bytes behind : List ℕ) → Interims n bytes behind → length behind ≤ length bytes
behind_fits n bytes behind (none b) = omega arith
behind_fits n bytes behind (more i b r z head begins interim below) =
    omega (arith, behind_fits i r z below, ap length begins.whole, length-append begins.text r)

-- nor is what follows the final one
rest_fits : (bytes rest : List ℕ) (head : ReplyHead) → FinalHead bytes head rest → length rest ≤ length bytes
rest_fits bytes rest head f =
    omega (arith, behind_fits f.count bytes f.behind f.interims, ap length f.begins.whole, length-append f.begins.text rest)

-- ---- in the words of the laws

pub head_laws : ReplyStays → HeadLaws
head_laws stays = record {
  interims_stay = λ count bytes behind tail i. interims_longer stays tail count bytes behind i;
  final_stays = final_longer stays;
  bad_stays = bad_longer stays;
  one_final = same_final;
  bad_not_final = bad_not_final;
  open_not_final = open_not_final;
  bad_not_open = bad_not_open;
  rest_fits = rest_fits;
}
