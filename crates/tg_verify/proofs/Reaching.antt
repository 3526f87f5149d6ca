-- One block more on the way.
use Rattle.std.proofs.Common.{List, None, Option, Some, [], refl, subst, sym, ◌++◌, ◌∷◌, ◌≡◌}
use Rattle.tg_cid.specs.Cid.{CidParts}
use Rattle.tg_model.specs.LimitNumbers.{LimitNumbers}
use Rattle.tg_model.specs.Queries.{QueryParts}
use Rattle.tg_traversal.specs.Left.{LeftState, WantedAt, tasks_left, wanted_tasks}
use Rattle.tg_model_laws.specs.Tasks.{Miss, Task, stop_at}
use Rattle.tg_verify.specs.Reached.{IsOpenedAt, IsReached, Leads, LeadsOn, Stage, first}

module _ (q : QueryParts) (limits : LimitNumbers) where
  leads_more : (from : Stage) (stages : List Stage) (to next : Stage) → Leads q limits from stages to → IsOpenedAt q limits to next → LeadsOn q limits next
      → Leads q limits from (stages ++ next ∷ []) next
  leads_more from [] to next e o l = (subst (λ (s : Stage). IsOpenedAt q limits s next) (sym e) o, l, refl)
  leads_more from (stage ∷ stages) to next (opened, leads, rest) o l = (opened, leads, leads_more stage stages to next rest o l)

  pub reached_next : (before after : Stage) → IsReached q limits before → IsOpenedAt q limits before after → LeadsOn q limits after → IsReached q limits after
  reached_next before after r o l = record { stages = r.stages ++ after ∷ []; leads = leads_more (first q) r.stages before after r.leads o l }

-- what is left begins with a place
stops_by : (wanted : Option WantedAt) (later more : List (Task CidParts)) (miss : Miss) → (wanted ≡ None → later ≡ []) → wanted_tasks wanted ++ later ≡ stop_at miss ∷ more → ⊥
stops_by None later more miss last e = let both : [] ≡ stop_at miss ∷ more = subst (λ (l : List (Task CidParts)). l ≡ stop_at miss ∷ more) (last refl) e in absurd (cc both)
stops_by (Some at) later more miss last e = absurd (cc e)

pub never_stops : (left : LeftState) → (left.wanted ≡ None → left.later ≡ []) → (miss : Miss) (more : List (Task CidParts)) → tasks_left left ≡ stop_at miss ∷ more → ⊥
never_stops left last miss more e = stops_by left.wanted left.later more miss last e
