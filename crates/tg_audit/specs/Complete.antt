-- How an audit ends by the DAG of its folder: a query is refused, or has another answer than the expected one, only where two
-- different blocks of that DAG have one SHA-256, or where the directory `many` has more shards than its listing may remember.
use Rattle.std.specs.Prelude.{List, ⊤, ℕ, ◌≡◌, ◌⊎◌}
use Rattle.tg_audit.specs.Holding.{TwoBlocksCollide}
use Rattle.tg_audit.specs.Names.{TwoNamesCollide}
use Rattle.tg_audit.specs.Packing.{HoldsImported}
use Rattle.tg_audit.specs.Shards.{HasManyShards}
use Rattle.tg_audit.specs.declared.fault.AuditFault.{AuditFault}
use Rattle.tg_audit.specs.declared.fault.AuditFault.TheVariants as audits
use Rattle.tg_audit_texts.specs.Expected.{AreExpected}
use Rattle.tg_audit_texts.specs.declared.hashing.Hashed.{Hashed}
use Rattle.tg_draws.specs.Draws.{IsDrawn}
use Rattle.tg_draws.specs.Trees.{IsTreeOf, file_name}
use Rattle.tg_draws.specs.declared.drawing.Drawn.{Drawn}
use Rattle.tg_import.specs.declared.fault.ImportFault.{ImportFault}
use Rattle.tg_import.specs.declared.fault.ImportFault.TheVariants as imports
use Rattle.tg_model.specs.Dag.{Dag}
use Rattle.tg_tree.specs.declared.tree.Tree.{Tree}

-- the folder that a seed draws, with so many files in `many`, and the answers that are expected of it
pub record IsAuditTree (seed files : ℕ) (tree : Tree) (expected : List Hashed) : Type 0 where
  pub drawn : Drawn
  pub drawn_is : IsDrawn seed files drawn
  pub tree_is : IsTreeOf drawn tree
  pub expected_are : AreExpected drawn expected

-- the DAG of the folder that a seed draws, in a pack, and the answers that are expected of it
pub record IsAuditDag (seed files : ℕ) (expected : List Hashed) (d : Dag) : Type 0 where
  pub tree : Tree
  pub drawn : IsAuditTree seed files tree expected
  pub content : List ℕ
  pub holds : HoldsImported tree d content

-- two different blocks of the folder's DAG have one SHA-256, or `many` has more shards than its listing may remember
pub record HasDenialCause (seed files : ℕ) : Type 0 where
  pub d : Dag
  pub expected : List Hashed
  pub dag : IsAuditDag seed files expected d
  pub cause : TwoBlocksCollide d ⊎ HasManyShards files d

-- two files of `many` have names with one hash, and the fault shows these names
pub record HaveOneHash (files : ℕ) (fault : ImportFault) : Type 0 where
  pub two : TwoNamesCollide files
  pub fault_is : fault ≡ imports.SameHash (file_name two.one) (file_name two.other)

-- a client's refusal, another answer, a request that is too long, and a pack that isn't attached come only with such a cause, and a
-- folder that can't be imported only with such names
abbrev pub HasCauseIfDenied : ℕ → ℕ → AuditFault → Type 0
HasCauseIfDenied seed files (audits.Client fault) = HasDenialCause seed files
HasCauseIfDenied seed files (audits.Limit number) = HasDenialCause seed files
HasCauseIfDenied seed files (audits.Differs query) = HasDenialCause seed files
HasCauseIfDenied seed files (audits.Pack fault) = HasDenialCause seed files
HasCauseIfDenied seed files (audits.Import fault) = HaveOneHash files fault
HasCauseIfDenied seed files audits.SinkFault = ⊤
HasCauseIfDenied seed files audits.OutOfMemory = ⊤
