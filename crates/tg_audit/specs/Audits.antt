-- An audit: a folder that a seed draws is imported, and what a gateway answers of it is compared with what is expected by
-- what was drawn alone (this project's own).
use Rattle.std.specs.Prelude.{Err, List, Ok, Option, Result, [], length, ⊤, ℕ, ◌+◌, ◌++◌, ◌∷◌, ◌≡◌, ◌≢◌, ◌⊎◌}
use Rattle.tg_audit.specs.Asking.{IsAnsweredBy, IsRefusedBy, IsUnanswered}
use Rattle.tg_audit.specs.Complete.{HasCauseIfDenied, IsAuditTree}
use Rattle.tg_audit.specs.Packing.{CauseIn, IsPackedOf, IsUnpacked}
use Rattle.tg_audit.specs.declared.fault.AuditFault.{AuditFault}
use Rattle.tg_audit.specs.declared.fault.AuditFault.TheVariants as audits
use Rattle.tg_audit.specs.declared.packing.Packed.{Packed}
use Rattle.tg_audit_texts.specs.Queries.{absent_query, answer_queries}
use Rattle.tg_audit_texts.specs.Summary.{summary_text}
use Rattle.tg_audit_texts.specs.declared.hashing.Hashed.{Hashed}
use Rattle.tg_fetch.specs.declared.fault.FetchFault.{FetchFault}
use Rattle.tg_fetch.specs.declared.fault.FetchFault.TheVariants as fetches
use Rattle.tg_model.specs.Queries.{QueryParts}
use Rattle.tg_model.specs.Stores.{Store}
use Rattle.tg_store.specs.AttachedPacks.{IsAttachedIn}
use Rattle.tg_streams.specs.Streams.{Output, OutputQuiet, Put, PutFront, Unput}
use Rattle.tg_tree.specs.declared.tree.Tree.{Tree}
use Rattle.tg_verify.specs.declared.fault.Refusal.TheVariants as refusals

-- ---- the queries with an answer

-- each has the answer that is expected of it
abbrev pub AreAnswered : Option Store → List QueryParts → List Hashed → Type 0
AreAnswered told [] expected = expected ≡ []
AreAnswered told (q ∷ queries) [] = ⊥
AreAnswered told (q ∷ queries) (one ∷ expected) = IsAnsweredBy told q one × AreAnswered told queries expected

-- the query with this number has another answer, or none
abbrev pub IsUnexpected : Option Store → QueryParts → Hashed → ℕ → AuditFault → Type 0
IsUnexpected told q one number (audits.Differs at) = (at ≡ number) × ((other : Hashed) × IsAnsweredBy told q other × (other ≢ one))
IsUnexpected told q one number fault = IsUnanswered told q fault

-- one of them has, and each before it has the answer that is expected
pub record StopsAt (told : Option Store) (queries : List QueryParts) (expected : List Hashed) (fault : AuditFault) : Type 0 where
  pub before : List QueryParts
  pub q : QueryParts
  pub behind : List QueryParts
  pub queries_are : queries ≡ before ++ q ∷ behind
  pub hashes : List Hashed
  pub one : Hashed
  pub more : List Hashed
  pub expected_are : expected ≡ hashes ++ one ∷ more
  pub answered : AreAnswered told before hashes
  pub unexpected : IsUnexpected told q one (length before + 1) fault

-- ---- the query of a name that isn't there

abbrev pub not_there : FetchFault
not_there = fetches.Refused (refusals.NotThere 0)

-- the client is shown that the first segment leads nowhere
abbrev pub IsAbsent : Option Store → QueryParts → Type 0
IsAbsent told q = IsRefusedBy told q not_there

-- it has an answer, or another refusal
abbrev pub IsUnabsent : Option Store → QueryParts → AuditFault → Type 0
IsUnabsent told q (audits.Differs at) = (at ≡ 9) × ((hashed : Hashed) × IsAnsweredBy told q hashed)
IsUnabsent told q (audits.Client fault) = IsRefusedBy told q fault × (fault ≢ not_there)
IsUnabsent told q fault = IsUnanswered told q fault

-- ---- the whole

-- the pack is attached as a store, over which every answer is the expected one and the name that isn't there is absent, and this
-- is the text that says so
pub record IsAnsweredAs (packed : Packed) (expected : List Hashed) (text : List ℕ) : Type 0 where
  pub told : Option Store
  pub attached : IsAttachedIn packed.pack.content told
  pub answered : AreAnswered told (answer_queries packed.root) expected
  pub absent : IsAbsent told (absent_query packed.root)
  pub text_is : text ≡ summary_text packed.root packed.summary expected

-- or an answer is another one, or is refused
pub record IsDeniedAs (packed : Packed) (expected : List Hashed) (fault : AuditFault) : Type 0 where
  pub told : Option Store
  pub attached : IsAttachedIn packed.pack.content told
  pub cause : StopsAt told (answer_queries packed.root) expected fault
      ⊎ (AreAnswered told (answer_queries packed.root) expected × IsUnabsent told (absent_query packed.root) fault)

-- why there is no such text; want of memory is free
abbrev pub IsUnansweredAs : Packed → List Hashed → AuditFault → Type 0
IsUnansweredAs packed expected (audits.Pack fault) = CauseIn packed.pack.content (audits.Pack fault)
IsUnansweredAs packed expected (audits.Client fault) = IsDeniedAs packed expected (audits.Client fault)
IsUnansweredAs packed expected (audits.Limit number) = IsDeniedAs packed expected (audits.Limit number)
IsUnansweredAs packed expected (audits.Differs query) = IsDeniedAs packed expected (audits.Differs query)
IsUnansweredAs packed expected audits.OutOfMemory = ⊤
IsUnansweredAs packed expected (audits.Import fault) = ⊥
IsUnansweredAs packed expected audits.SinkFault = ⊥

-- it is imported, and this holds of the pack
pub record IsImportedSo (seed files : ℕ) (holds : Packed → List Hashed → Type 0) : Type 0 where
  pub tree : Tree
  pub expected : List Hashed
  pub drawn : IsAuditTree seed files tree expected
  pub packed : Packed
  pub packed_is : IsPackedOf tree packed
  pub is_so : holds packed expected

abbrev pub IsAudited : ℕ → ℕ → List ℕ → Type 0
IsAudited seed files text = IsImportedSo seed files (λ packed expected. IsAnsweredAs packed expected text)

-- it can't be imported
pub record IsUnimported (seed files : ℕ) (fault : AuditFault) : Type 0 where
  pub tree : Tree
  pub expected : List Hashed
  pub drawn : IsAuditTree seed files tree expected
  pub cause : IsUnpacked tree fault

-- why an audit ends before its text; want of memory is free
abbrev pub IsUnaudited : ℕ → ℕ → AuditFault → Type 0
IsUnaudited seed files audits.OutOfMemory = ⊤
IsUnaudited seed files (audits.Import fault) = IsUnimported seed files (audits.Import fault)
IsUnaudited seed files fault = IsImportedSo seed files (λ packed expected. IsUnansweredAs packed expected fault)

-- ---- what it tells

-- the text was put, with no fault of out
pub record Audited (seed files : ℕ) (out : Output) : Type 0 where
  pub text : List ℕ
  pub text_is : IsAudited seed files text
  pub put : Put text out
  pub quiet : OutputQuiet out

-- out failed in the text
pub record AuditedInPart (seed files : ℕ) (out : Output) : Type 0 where
  pub text : List ℕ
  pub text_is : IsAudited seed files text
  pub front : PutFront text out

-- nothing was put; and a query that is refused, or has another answer, has a cause in the folder's DAG
pub record Unaudited (seed files : ℕ) (out : Output) (fault : AuditFault) : Type 0 where
  pub cause : IsUnaudited seed files fault
  pub denial : HasCauseIfDenied seed files fault
  pub unput : Unput out
  pub quiet : OutputQuiet out

-- how an audit ends
abbrev pub AuditEnds : ℕ → ℕ → Output → Result ⊤ AuditFault → Type 0
AuditEnds seed files out (Ok done) = Audited seed files out
AuditEnds seed files out (Err audits.SinkFault) = AuditedInPart seed files out
AuditEnds seed files out (Err fault) = Unaudited seed files out fault
