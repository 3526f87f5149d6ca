-- What comes of a query that is asked over a store that holds the blocks of a sound DAG: the DAG's answer (RFC 9112; Trustless
-- Gateway specification; Path Gateway specification, Path Resolution).
use Rattle.std.specs.Prelude.{All, List, Some, ⊤, ℕ, ◌≡◌}
use Rattle.tg_audit.specs.Asking.{IsAnsweredBy, IsUnanswered, audit_addr}
use Rattle.tg_audit.specs.declared.fault.AuditFault.{AuditFault}
use Rattle.tg_audit.specs.declared.fault.AuditFault.TheVariants as audits
use Rattle.tg_audit_texts.specs.Hashing.{IsHashOf}
use Rattle.tg_audit_texts.specs.declared.hashing.Hashed.{Hashed}
use Rattle.tg_fetch.specs.declared.fault.FetchFault.TheVariants as fetches
use Rattle.tg_heard.specs.Exchanges.{IsWithin}
use Rattle.tg_model.specs.Answer.{answer}
use Rattle.tg_model.specs.Dag.{Dag, root_cid}
use Rattle.tg_model.specs.LimitNumbers.{standard}
use Rattle.tg_model.specs.PathWalk.{stopped}
use Rattle.tg_model.specs.Queries.{QueryParts}
use Rattle.tg_model.specs.Sound.{IsSound}
use Rattle.tg_model.specs.Stores.{Store}
use Rattle.tg_model.specs.Traversal.{block_list, traversal}
use Rattle.tg_model.specs.declared.queries.Form.TheVariants as forms
use Rattle.tg_model_laws.specs.Stores.{Holds}
use Rattle.tg_model_laws.specs.Tasks.{Miss, stop_of}
use Rattle.tg_query.specs.Laws.{IsPrintable}
use Rattle.tg_reply.specs.Bodies.{IsSpelled}
use Rattle.tg_verify.specs.Laws.{IsMissOf}

-- a store holds the blocks of a sound DAG with the query's root, of which those that are asked for are spelled; the query is
-- within the standard limits; and its request can be printed
pub record IsOwnQuery (store : Store) (q : QueryParts) (d : Dag) : Type 0 where
  pub sound : IsSound d
  pub root : root_cid d ≡ q.root
  pub holds : Holds store d
  pub spelled : All IsSpelled (block_list q d)
  pub within : IsWithin q standard d
  pub printable : IsPrintable q audit_addr

-- what is told is the length and the digest of the text; or memory is wanted
pub record IsAnsweredWith (store : Store) (q : QueryParts) (text : List ℕ) : Type 0 where
  pub answered : (hashed : Hashed) → IsAnsweredBy (Some store) q hashed → IsHashOf text hashed
  pub unanswered : (fault : AuditFault) → IsUnanswered (Some store) q fault → fault ≡ audits.OutOfMemory

-- the client's refusal of this segment, or want of memory
abbrev pub IsMissOrMemory : Miss → AuditFault → Type 0
IsMissOrMemory miss (audits.Client (fetches.Refused refusal)) = IsMissOf miss refusal
IsMissOrMemory miss audits.OutOfMemory = ⊤
IsMissOrMemory miss other = ⊥

-- there is no answer, and the refusal is of this segment; or memory is wanted
pub record IsRefusedFor (store : Store) (q : QueryParts) (miss : Miss) : Type 0 where
  pub unanswered : (hashed : Hashed) → IsAnsweredBy (Some store) q hashed → ⊥
  pub refused : (fault : AuditFault) → IsUnanswered (Some store) q fault → IsMissOrMemory miss fault

-- where the DAG has an answer it is that
abbrev pub OwnIsAnswered : Type 0
OwnIsAnswered = (store : Store) (q : QueryParts) (d : Dag) (text : List ℕ) → IsOwnQuery store q d → answer q d ≡ Some text → IsAnsweredWith store q text

-- and where a segment of the path leads nowhere it is refused for that
abbrev pub OwnIsRefused : Type 0
OwnIsRefused = (store : Store) (q : QueryParts) (d : Dag) (miss : Miss) → IsOwnQuery store q d → q.form ≡ forms.Car → (traversal q d).end ≡ stopped (stop_of miss)
    → IsRefusedFor store q miss
