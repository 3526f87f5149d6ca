-- What is sent for a head is determined by what happened.
use Rattle.std.proofs.Common.{◌≡◌, ℕ, refl, sym, ap, ap₂}
use Rattle.std.specs.Prelude.{Ok}
use Rattle.tg_http.specs.declared.request.RequestHead.{RequestHead}
use Rattle.tg_model.specs.Queries.{QueryParts}
use Rattle.tg_model.specs.Stores.{Store}
use Rattle.tg_reply.specs.Asked.{asked}
use Rattle.tg_reply.specs.Replies.{Reply, reply}
use Rattle.tg_reply.specs.Sent.{Course, Happening, Sent, SentFor, as_stored, before_head, behind_sections, broken_before, broken_behind, broken_reply, exact, happening_of, quiet}

-- ---- the parts of what happened

-- one course
same_course : (h k : Happening) → h ≡ k → h.course ≡ k.course
same_course h k e = ap (λ (x : Happening). x.course) e

-- one count before
pub same_before : (h k : Happening) → h ≡ k → h.faults_before ≡ k.faults_before
same_before h k e = ap (λ (x : Happening). x.faults_before) e

-- and one behind
same_now : (h k : Happening) → h ≡ k → h.faults_now ≡ k.faults_now
same_now h k e = ap (λ (x : Happening). x.faults_now) e

-- where all was given the store didn't break off before the head
pub stored_not_before : as_stored ≡ broken_before → ⊥
stored_not_before e = cc

-- nor behind it
pub stored_not_behind : (count : ℕ) → as_stored ≡ broken_behind count → ⊥
stored_not_behind count e = cc

-- these two differ
before_not_behind : (count : ℕ) → broken_before ≡ broken_behind count → ⊥
before_not_behind count e = cc

-- it broke off behind one number of sections
one_count : (count other : ℕ) → broken_behind count ≡ broken_behind other → count ≡ other
one_count count other e = cc

-- ---- what is sent

-- a head asks for one query
one_query : (head : RequestHead) (q p : QueryParts) → asked head ≡ Ok q → asked head ≡ Ok p → q ≡ p
one_query head q p a b = cc

-- what is sent by its parts
abbrev made : Reply → Course → ℕ → ℕ → Sent
made reply course before now = record { reply = reply; course = course; faults_before = before; faults_now = now }

-- of the same parts
made_same : (r s : Reply) (c d : Course) (i j m n : ℕ) → r ≡ s → c ≡ d → i ≡ j → m ≡ n → made r c i m ≡ made s d j n
made_same r s c d i j m n er ec ei em = rw (er, ec, ei, em) refl

-- what is sent for a head at which the same happened is one
pub one_sent_for : (store : Store) (head : RequestHead) (s t : Sent) → SentFor store head s → SentFor store head t → happening_of s ≡ happening_of t → s ≡ t
one_sent_for store head s t (exact i) (exact j) e = ap (λ (n : ℕ). quiet (reply store head) n) (same_before (happening_of s) (happening_of t) e)
one_sent_for store head s t (exact i) (before_head q j n a r) e = absurd (stored_not_before (same_course (happening_of s) (happening_of t) e))
one_sent_for store head s t (exact i) (behind_sections q count j n b r) e =
    absurd (stored_not_behind count (same_course (happening_of s) (happening_of t) e))
one_sent_for store head s t (before_head q i m a r) (exact j) e =
    absurd (stored_not_before (sym (same_course (happening_of s) (happening_of t) e)))
one_sent_for store head s t (before_head q i m a r) (before_head p j n b o) e =
    made_same s.reply t.reply broken_before broken_before i j m n refl refl (same_before (happening_of s) (happening_of t) e)
    (same_now (happening_of s) (happening_of t) e)
one_sent_for store head s t (before_head q i m a r) (behind_sections p count j n b o) e =
    absurd (before_not_behind count (same_course (happening_of s) (happening_of t) e))
one_sent_for store head s t (behind_sections q count i m a r) (exact j) e =
    absurd (stored_not_behind count (sym (same_course (happening_of s) (happening_of t) e)))
one_sent_for store head s t (behind_sections q count i m a r) (before_head p j n b o) e =
    absurd (before_not_behind count (sym (same_course (happening_of s) (happening_of t) e)))
one_sent_for store head s t (behind_sections q count i m a r) (behind_sections p number j n b o) e =
    let course = same_course (happening_of s) (happening_of t) e in
    made_same (broken_reply store head q count) (broken_reply store head p number) (broken_behind count) (broken_behind number) i j m n
    (ap₂ (λ (x : QueryParts) (k : ℕ). broken_reply store head x k) (one_query head q p a.asked_is b.asked_is) (one_count count number course))
    course (same_before (happening_of s) (happening_of t) e) (same_now (happening_of s) (happening_of t) e)
