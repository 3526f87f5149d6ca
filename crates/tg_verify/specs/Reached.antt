-- What was opened on the way, one block after another, within the limits.
use Rattle.std.specs.Prelude.{List, Option, [], true, ◌++◌, ◌∷◌, ◌≡◌, ◌≤◌, length}
use Rattle.tg_cid.specs.Cid.{CidParts}
use Rattle.tg_model.specs.Dag.{Section}
use Rattle.tg_model.specs.LimitNumbers.{LimitNumbers}
use Rattle.tg_model.specs.Queries.{QueryParts}
use Rattle.tg_model.specs.Traversal.{is_sent_behind}
use Rattle.tg_model.specs.declared.kinds.Kind.{Kind}
use Rattle.tg_model_laws.specs.SentSections.{taken_as}
use Rattle.tg_traversal.specs.Left.{WantedAt}
use Rattle.tg_model_laws.specs.Stages.{Given, nothing_given}
use Rattle.tg_model_laws.specs.Tasks.{Miss, Task, open_block, start, stop_at, tasks_then}
use Rattle.tg_model_laws.specs.Verified.{IsKnown, Verified}
use Rattle.tg_verify.specs.Counting.{AreUnpassed, counts_given}
use Rattle.tg_verify.specs.Opening.{IsNamed, PassesAs, given_with, tasks_behind}

-- these sections were taken, this was given for them, and these tasks are left
pub record Stage : Type 0 where
  pub sections : List Section
  pub given : Given
  pub tasks : List (Task CidParts)

abbrev pub stage_of : List Section → Given → List (Task CidParts) → Stage
stage_of sections given tasks = record { sections = sections; given = given; tasks = tasks }

-- before the first block
abbrev pub first : QueryParts → Stage
first q = stage_of [] nothing_given (start q q.root)

-- a block passes at the place that is wanted: a section that is sent behind the others, none larger than the limit, or else
-- one that is had; it is opened there, and what comes before the next place is given
pub record IsOpenedAt (q : QueryParts) (limits : LimitNumbers) (before after : Stage) : Type 0 where
  pub at : WantedAt
  pub later : List (Task CidParts)
  pub wanted : before.tasks ≡ open_block at.want at.cid ∷ later
  pub verified : Verified q before.sections before.given before.tasks
  pub section : Section
  pub same : section.cid ≡ at.cid
  pub is_named : IsNamed section
  pub known : IsKnown q before.sections section
  pub small : is_sent_behind q before.sections section.cid ≡ true → length section.block ≤ limits.block
  pub kind : Option Kind
  pub passes : PassesAs q limits at section kind
  pub sections_are : after.sections ≡ taken_as q before.sections section
  pub given_is : after.given ≡ given_with q before.given later at section kind
  pub tasks_are : after.tasks ≡ tasks_then (tasks_behind q at section kind ++ later)

-- no limit is passed by what was given, and no segment of the path leads nowhere there
pub record LeadsOn (q : QueryParts) (limits : LimitNumbers) (stage : Stage) : Type 0 where
  pub within : AreUnpassed limits (counts_given q stage.given)
  pub no_stop : (miss : Miss) (more : List (Task CidParts)) → stage.tasks ≡ stop_at miss ∷ more → ⊥

-- from one stage to another, through these
abbrev pub Leads : QueryParts → LimitNumbers → Stage → List Stage → Stage → Type 0
Leads q limits from [] to = from ≡ to
Leads q limits from (next ∷ stages) to = IsOpenedAt q limits from next × LeadsOn q limits next × Leads q limits next stages to

-- all that was opened up to a stage was within the limits
pub record IsReached (q : QueryParts) (limits : LimitNumbers) (to : Stage) : Type 0 where
  pub stages : List Stage
  pub leads : Leads q limits (first q) stages to

-- all but the block that was opened last, of which no more is said than that it passed
pub record IsReachedBefore (q : QueryParts) (limits : LimitNumbers) (to : Stage) : Type 0 where
  pub before : Stage
  pub reached : IsReached q limits before
  pub opened : IsOpenedAt q limits before to
