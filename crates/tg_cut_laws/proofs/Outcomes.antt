-- What comes of a section that is shown where sections were taken: one thing.
use Rattle.std.proofs.Common.{◌≡◌, ◌⊎◌, ◌++◌, ◌∷◌, ℕ, Bool, List, Option, [], true, inl, inr, sym, ap, ◌∙◌, subst}
use Rattle.tg_cid.specs.Cid.{CidParts}
use Rattle.tg_cut_laws.proofs.Causes.{PlaceCause, ReceiptCause, no_place, no_receipt, one_kind, one_place, one_receipt}
use Rattle.tg_cut_laws.proofs.Passed.{none_first, one_first}
use Rattle.tg_cut_laws.proofs.Presented.{Comes, one_comes, one_next}
use Rattle.tg_cut_laws.specs.Sections.{BeginOne}
use Rattle.tg_traversal.specs.Left.{WantedAt}
use Rattle.tg_model.specs.Dag.{Section}
use Rattle.tg_model.specs.LimitNumbers.{LimitNumbers, number_of}
use Rattle.tg_model.specs.Queries.{QueryParts}
use Rattle.tg_model.specs.declared.kinds.Kind.{Kind}
use Rattle.tg_model.specs.declared.limits.LimitKind.{LimitKind}
use Rattle.tg_model_laws.specs.Stages.{Given}
use Rattle.tg_model_laws.specs.Tasks.{Miss, Task, no_directory, no_entry, stop_at, tasks_then}
use Rattle.tg_model_laws.specs.Verified.{written_whole}
use Rattle.tg_verify.specs.Counting.{AreUnpassed, IsFirstPassed, counts_given}
use Rattle.tg_verify.specs.Opening.{PassesAs, given_with, tasks_behind}
use Rattle.tg_verify.specs.Reached.{Stage, stage_of}
use Rattle.tg_verify.specs.Refusals.{IsWantedBlock}
use Rattle.tg_verify.specs.State.{count_of}
use Rattle.tg_verify.specs.declared.fault.Refusal.{Refusal}
use Rattle.tg_verify.specs.declared.fault.Refusal.TheVariants as refusals

-- another stage, or a refusal with what is written
pub data Outcome : Type 0 where
  goes_on : Stage → Outcome
  refused : Refusal → List ℕ → Outcome

-- ---- behind a block that passes

-- the tasks from the next place on
abbrev pub tasks_next : QueryParts → List (Task CidParts) → WantedAt → Section → Option Kind → List (Task CidParts)
tasks_next q later at section kind = tasks_then (tasks_behind q at section kind ++ later)

-- the path leads on
abbrev pub HasNoStop : List (Task CidParts) → Type 0
HasNoStop tasks = (miss : Miss) (more : List (Task CidParts)) → tasks ≡ stop_at miss ∷ more → ⊥

-- the refusal where a segment leads nowhere
abbrev pub refusal_of : Miss → Refusal
refusal_of (no_entry segment) = refusals.NotThere segment
refusal_of (no_directory segment) = refusals.NotFolder segment

-- a limit is passed, a segment leads nowhere, or it goes on
pub data Behind (q : QueryParts) (limits : LimitNumbers) (given : Given) (later : List (Task CidParts)) (at : WantedAt) (section : Section) (shown : List Section) (kind : Option Kind) (outcome : Outcome) : Type 0 where
  over : HasNoStop (tasks_next q later at section kind) → (limit : LimitKind) → IsFirstPassed limits (counts_given q (given_with q given later at section kind)) limit
      → outcome ≡ refused (refusals.Limit limit (number_of limit limits)) given.text → Behind q limits given later at section shown kind outcome
  misses : (miss : Miss) (more : List (Task CidParts)) → tasks_next q later at section kind ≡ stop_at miss ∷ more
      → outcome ≡ refused (refusal_of miss) (given_with q given later at section kind).text → Behind q limits given later at section shown kind outcome
  on : HasNoStop (tasks_next q later at section kind) → AreUnpassed limits (counts_given q (given_with q given later at section kind))
      → outcome ≡ goes_on (stage_of shown (given_with q given later at section kind) (tasks_next q later at section kind)) → Behind q limits given later at section shown kind outcome

-- one of these, and one alone
one_behind : (q : QueryParts) (limits : LimitNumbers) (given : Given) (later : List (Task CidParts)) (at : WantedAt) (section : Section) (shown : List Section) (kind : Option Kind) (o p : Outcome)
    → Behind q limits given later at section shown kind o → Behind q limits given later at section shown kind p → o ≡ p
one_behind q limits given later at section shown kind o p (over n l a e) (over m k b d) =
    e ∙ ap (λ (limit : LimitKind). refused (refusals.Limit limit (number_of limit limits)) given.text)
    (one_first limits (counts_given q (given_with q given later at section kind)) l k a b) ∙ sym d
one_behind q limits given later at section shown kind o p (over n l a e) (misses miss more b d) = absurd (n miss more b)
one_behind q limits given later at section shown kind o p (over n l a e) (on m b d) = absurd (none_first limits (counts_given q (given_with q given later at section kind)) l b a)
one_behind q limits given later at section shown kind o p (misses miss more a e) (over m k b d) = absurd (m miss more a)
one_behind q limits given later at section shown kind o p (misses miss more a e) (misses other others b d) =
    let same : miss ≡ other = cc in
    e ∙ ap (λ (m : Miss). refused (refusal_of m) (given_with q given later at section kind).text) same ∙ sym d
one_behind q limits given later at section shown kind o p (misses miss more a e) (on m b d) = absurd (m miss more a)
one_behind q limits given later at section shown kind o p (on n a e) (over m k b d) = absurd (none_first limits (counts_given q (given_with q given later at section kind)) k a b)
one_behind q limits given later at section shown kind o p (on n a e) (misses miss more b d) = absurd (n miss more b)
one_behind q limits given later at section shown kind o p (on n a e) (on m b d) = e ∙ sym d

-- ---- of a block that comes

-- a section isn't the wanted one, the block isn't opened at its place, or it is
pub data Verdict (q : QueryParts) (limits : LimitNumbers) (given : Given) (later : List (Task CidParts)) (at : WantedAt) (section : Section) (sends : Bool) (shown : List Section) (outcome : Outcome) : Type 0 where
  unreceived : sends ≡ true → (fault : Refusal) → ReceiptCause limits at section fault → outcome ≡ refused fault given.text → Verdict q limits given later at section sends shown outcome
  unplaced : (sends ≡ true → IsWantedBlock limits at section) → (fault : Refusal) → PlaceCause q limits at section fault → outcome ≡ refused fault given.text
      → Verdict q limits given later at section sends shown outcome
  placed : (sends ≡ true → IsWantedBlock limits at section) → (kind : Option Kind) → PassesAs q limits at section kind → Behind q limits given later at section shown kind outcome
      → Verdict q limits given later at section sends shown outcome

-- one of these, and one alone
one_verdict : (q : QueryParts) (limits : LimitNumbers) (given : Given) (later : List (Task CidParts)) (at : WantedAt) (section : Section) (sends : Bool) (shown : List Section) (o p : Outcome)
    → Verdict q limits given later at section sends shown o → Verdict q limits given later at section sends shown p → o ≡ p
one_verdict q limits given later at section sends shown o p (unreceived s f a e) (unreceived t g b d) =
    e ∙ ap (λ (fault : Refusal). refused fault given.text) (one_receipt limits at section f g a b) ∙ sym d
one_verdict q limits given later at section sends shown o p (unreceived s f a e) (unplaced t g b d) = absurd (no_receipt limits at section f (t s) a)
one_verdict q limits given later at section sends shown o p (unreceived s f a e) (placed t kind b h) = absurd (no_receipt limits at section f (t s) a)
one_verdict q limits given later at section sends shown o p (unplaced s f a e) (unreceived t g b d) = absurd (no_receipt limits at section g (s t) b)
one_verdict q limits given later at section sends shown o p (unplaced s f a e) (unplaced t g b d) =
    e ∙ ap (λ (fault : Refusal). refused fault given.text) (one_place q limits at section f g a b) ∙ sym d
one_verdict q limits given later at section sends shown o p (unplaced s f a e) (placed t kind b h) = absurd (no_place q limits at section kind f b a)
one_verdict q limits given later at section sends shown o p (placed s kind a h) (unreceived t g b d) = absurd (no_receipt limits at section g (s t) b)
one_verdict q limits given later at section sends shown o p (placed s kind a h) (unplaced t g b d) = absurd (no_place q limits at section kind g a b)
one_verdict q limits given later at section sends shown o p (placed s kind a h) (placed t other b g) =
    let same = one_kind q limits at section kind other a b in
    one_behind q limits given later at section shown other o p (subst (λ (k : Option Kind). Behind q limits given later at section shown k o) same h) g

-- ---- and of a stage

-- a block comes, and this of it
pub record ByBlock (q : QueryParts) (limits : LimitNumbers) (stage : Stage) (shown : List Section) (outcome : Outcome) : Type 0 where
  pub at : WantedAt
  pub later : List (Task CidParts)
  pub section : Section
  pub sends : Bool
  pub comes : Comes q stage at later section sends shown
  pub verdict : Verdict q limits stage.given later at section sends shown outcome

-- all came, and one more
pub record BySurplus (q : QueryParts) (stage : Stage) (shown : List Section) (outcome : Outcome) : Type 0 where
  pub none : stage.tasks ≡ []
  pub section : Section
  pub shown_are : shown ≡ stage.sections ++ section ∷ []
  pub outcome_is : outcome ≡ refused (refusals.Extra (count_of stage.sections)) (written_whole q stage.given)

-- either
abbrev pub Leaves : QueryParts → LimitNumbers → Stage → List Section → Outcome → Type 0
Leaves q limits stage shown outcome = ByBlock q limits stage shown outcome ⊎ BySurplus q stage shown outcome

-- no block is wanted where all came
pub none_wanted : (q : QueryParts) (limits : LimitNumbers) (stage : Stage) (shown : List Section) (o : Outcome) → stage.tasks ≡ [] → ByBlock q limits stage shown o → ⊥
none_wanted q limits stage shown o e h = let wanted = h.comes.wanted in absurd (cc (sym e ∙ wanted))

-- the same sections were shown, and the same comes of them
pub one_outcome : (q : QueryParts) (limits : LimitNumbers) (stage : Stage) (shown seen : List Section) (o p : Outcome) → Leaves q limits stage shown o → Leaves q limits stage seen p
    → BeginOne shown seen → (shown ≡ seen) × (o ≡ p)
one_outcome q limits stage shown seen o p (inl a) (inr b) one = absurd (none_wanted q limits stage shown o b.none a)
one_outcome q limits stage shown seen o p (inr a) (inl b) one = absurd (none_wanted q limits stage seen p a.none b)
one_outcome q limits stage shown seen o p (inr a) (inr b) one =
    let begins = subst (λ (l : List Section). BeginOne l (stage.sections ++ b.section ∷ [])) a.shown_are (subst (λ (l : List Section). BeginOne shown l) b.shown_are one) in
    let same = one_next stage.sections a.section b.section begins in (
      a.shown_are ∙ ap (λ (s : Section). stage.sections ++ s ∷ []) same ∙ sym b.shown_are,
      a.outcome_is ∙ sym b.outcome_is,
    )
one_outcome q limits stage shown seen o p (inl a) (inl b) one =
    let same = one_comes q stage a.at b.at a.later b.later a.section b.section a.sends b.sends shown seen a.comes b.comes one in
    let given = stage.given in
    let at = subst (λ (w : WantedAt). Verdict q limits given a.later w a.section a.sends shown o) same.at_is a.verdict in
    let later = subst (λ (l : List (Task CidParts)). Verdict q limits given l b.at a.section a.sends shown o) same.later_is at in
    let section = subst (λ (s : Section). Verdict q limits given b.later b.at s a.sends shown o) same.section_is later in
    let sends = subst (λ (s : Bool). Verdict q limits given b.later b.at b.section s shown o) same.sends_is section in
    let all = subst (λ (l : List Section). Verdict q limits given b.later b.at b.section b.sends l o) same.shown_is sends in
    (same.shown_is, one_verdict q limits given b.later b.at b.section b.sends seen o p all b.verdict)
