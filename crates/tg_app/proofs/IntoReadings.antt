-- What was made of what went into an extract.
use Rattle.std.proofs.Common.{IfSome, List, None, Option, Some, [], ap, append-nil, inl, inr, refl, subst, sym, ℕ, ◌++◌, ◌∙◌, ◌≡◌, ◌⊎◌}
use Rattle.std.specs.Prelude.{Err, Ok, Result, ⊤}
use Rattle.tg_app.specs.Intos.{FinishEnds, IsBegun, IsFinished, IsFolderFront, IsLinkRefusal, IsPathBegun, IsPathMade, IsStopOf, IsStopRefusal}
use Rattle.tg_bundles.specs.Records.{Record}
use Rattle.tg_commands.specs.Verify.{IsNoAnswer}
use Rattle.tg_commands.specs.declared.fault.CommandFault.{CommandFault}
use Rattle.tg_commands.specs.declared.fault.CommandFault.TheVariants as refusals
use Rattle.tg_extract.specs.Answers.{BadAnswers, FrontAnswers, FrontTrees, IsAllMade, IsFrontMade, IsMeasured, LinkAnswers, MadeAt, WholeAnswers, WholeTrees}
use Rattle.tg_extract.specs.Extracts.{ExtractState, Grows, IsAtStage, IsBad, IsRead, IsStoppedAt, IsStuck, kind_of, link_at, text_of, text_read}
use Rattle.tg_extract.specs.Laws.{HasFirstBad, HasFirstLink}
use Rattle.tg_extract.specs.declared.extract.Stage.{Stage}
use Rattle.tg_extract.specs.declared.extract.Stage.TheVariants as stages
use Rattle.tg_extract.specs.declared.fault.ExtractFault.{ExtractFault}
use Rattle.tg_extract.specs.declared.fault.ExtractFault.TheVariants as extracts
use Rattle.tg_faults.specs.declared.calls.Failed.{Failed}
use Rattle.tg_model.specs.Answer.{answer}
use Rattle.tg_model.specs.Dag.{Dag}
use Rattle.tg_model.specs.Fits.{IsFrontOfAnswer}
use Rattle.tg_model.specs.Queries.{QueryParts}
use Rattle.tg_model.specs.Sound.{IsSound}
use Rattle.tg_model.specs.declared.queries.Scope.TheVariants as scopes
use Rattle.tg_new_tree.specs.NewTrees.{NewTreeMeaning}
use Rattle.tg_new_tree.specs.declared.made.Made.{Made}
use Rattle.tg_verify.specs.Terminals.{IsTerminalOf}
use Rattle.tg_verify.specs.declared.terminal.Terminal.{Terminal}

-- the laws of tg_extract
pub record MadeLaws : Type 1 where
  pub whole : WholeAnswers
  pub front : FrontAnswers
  pub link : LinkAnswers
  pub bad : BadAnswers
  pub whole_trees : WholeTrees
  pub front_trees : FrontTrees

-- ---- the text, and where it stands

module _ {T : Type 0} (m : NewTreeMeaning T) (path text : List ℕ) (old begun called new : ExtractState T) (finished : Result ⊤ Failed) (begins : IsBegun m path old begun)
    (grows : Grows m begun called text) (finish : FinishEnds m called new finished) where
  pub text_is : text_of m new ≡ text
  text_is = finish.text.grows.text ∙ append-nil (text_of m called) ∙ grows.text ∙ ap (λ (l : List ℕ). l ++ text) begins.text

  pub place_is : m.place new.tree ≡ Some path
  place_is = finish.text.grows.place ∙ grows.place ∙ begins.at.place

-- ---- where nothing is told nothing is made

none_made : (made : List Made) (stage : Stage) → IsAtStage made stage → kind_of stage ≡ None → made ≡ []
none_made made (stages.Waiting held) at e = at
none_made made (stages.Told terminal held) at e = at
none_made made stages.File at e = absurd (cc e)
none_made made (stages.Line line) at e = absurd (cc e)
none_made made (stages.Content left) at e = absurd (cc e)
none_made made (stages.Link size path) at e = absurd (cc e)
none_made made (stages.Bad line) at e = absurd (cc e)
none_made made (stages.Unended byte) at e = absurd (cc e)

no_link : (stage : Stage) → kind_of stage ≡ None → link_at stage ≡ None
no_link (stages.Waiting held) e = refl
no_link (stages.Told terminal held) e = absurd (cc e)
no_link stages.File e = refl
no_link (stages.Line line) e = refl
no_link (stages.Content left) e = refl
no_link (stages.Link size path) e = absurd (cc e)
no_link (stages.Bad line) e = refl
no_link (stages.Unended byte) e = refl

no_bad : (stage : Stage) → kind_of stage ≡ None → IsBad stage → ⊥
no_bad (stages.Waiting held) e h = h
no_bad (stages.Told terminal held) e h = h
no_bad stages.File e h = h
no_bad (stages.Line line) e h = h
no_bad (stages.Content left) e h = h
no_bad (stages.Link size path) e h = h
no_bad (stages.Bad line) e h = absurd (cc e)
no_bad (stages.Unended byte) e h = absurd (cc e)

-- ---- beside a sound DAG

path_made : MadeLaws → (q : QueryParts) (d : Dag) (made : List Made) → MadeAt q d (IsAllMade made) → IsPathMade q d made
path_made laws q d made (at, found, all) = record { at = at; found = found; all = all; tree = λ tree shows. laws.whole_trees at tree made shows all }

path_begun : MadeLaws → (q : QueryParts) (d : Dag) (made : List Made) → MadeAt q d (IsFrontMade made) → IsPathBegun q d made
path_begun laws q d made (at, found, front) = record { at = at; found = found; front = front; tree = λ tree shows. laws.front_trees at tree made shows front }

module _ (laws : MadeLaws) (q : QueryParts) (d : Dag) (sound : IsSound d) (measured : IsMeasured d) (scope : q.scope ≡ scopes.All)
    (made : List Made) (stage : Stage) (unread : List ℕ) (at : IsAtStage made stage) where
  pub front_made : (t : Option Terminal) → kind_of stage ≡ t → IfSome t (IsTerminalOf d q.path) → IsFrontOfAnswer (text_read made stage ++ unread) (answer q d) → IsFolderFront q d made
  front_made None told leads front = inl (none_made made stage at told)
  front_made (Some t) told leads front = inr (path_begun laws q d made (laws.front q d made stage unread t sound measured scope at told leads front))

  link_made : (t : Option Terminal) (link : Option (List (List ℕ))) → kind_of stage ≡ t → link_at stage ≡ link → IfSome t (IsTerminalOf d q.path) → IsFrontOfAnswer (text_read made stage ++ unread) (answer q d)
      → (refusal : CommandFault) → IsLinkRefusal link refusal → IsStopOf q d made (Some refusal)
  link_made None link told is leads front refusal h = absurd (subst (λ (l : Option (List (List ℕ))). IsLinkRefusal l refusal) (sym is ∙ no_link stage told) h)
  link_made (Some t) None told is leads front refusal h = absurd h
  link_made (Some t) (Some path) told is leads front refusal (inl e) =
      let next = subst (λ (l : Option (List (List ℕ))). IfSome l (λ path. MadeAt q d (HasFirstLink made path))) is (laws.link q d made stage unread t sound measured scope at told leads front) in
      subst (λ (r : CommandFault). IsStopOf q d made (Some r)) (sym e) (path, refl, next)
  link_made (Some t) (Some path) told is leads front refusal (inr e) = subst (λ (r : CommandFault). IsStopOf q d made (Some r)) (sym e) tt

  bad_made : (t : Option Terminal) → kind_of stage ≡ t → IfSome t (IsTerminalOf d q.path) → IsFrontOfAnswer (text_read made stage ++ unread) (answer q d) → IsBad stage → MadeAt q d (HasFirstBad made)
  bad_made None told leads front bad = absurd (no_bad stage told bad)
  bad_made (Some t) told leads front bad = laws.bad q d made stage unread t sound measured scope at told leads front bad

  pub stop_made : (t : Option Terminal) → kind_of stage ≡ t → IfSome t (IsTerminalOf d q.path) → IsFrontOfAnswer (text_read made stage ++ unread) (answer q d)
      → (refused : Option ExtractFault) (refusal : CommandFault) → IfSome refused (IsStoppedAt stage) → IsStopRefusal stage refused refusal → IsStopOf q d made (Some refusal)
  stop_made t told leads front None refusal stopped h = subst (λ (r : CommandFault). IsStopOf q d made (Some r)) (sym h) tt
  stop_made t told leads front (Some extracts.Tree) refusal stopped h = subst (λ (r : CommandFault). IsStopOf q d made (Some r)) (sym h) tt
  stop_made t told leads front (Some extracts.NotPlain) refusal stopped h = link_made t (link_at stage) told refl leads front refusal h
  stop_made t told leads front (Some extracts.BadText) refusal stopped h =
      subst (λ (r : CommandFault). IsStopOf q d made (Some r)) (sym h) (bad_made t told leads front stopped)
  stop_made t told leads front (Some extracts.OutOfMemory) refusal stopped h = subst (λ (r : CommandFault). IsStopOf q d made (Some r)) (sym h) tt

  pub path_whole : (t : Option Terminal) → (t ≡ None → ⊥) → kind_of stage ≡ t → IfSome t (IsTerminalOf d q.path) → IsRead stage → (IsStuck stage → ⊥)
      → answer q d ≡ Some (text_read made stage) → IsPathMade q d made
  path_whole None some told leads read going whole = absurd (some refl)
  path_whole (Some t) some told leads read going whole = path_made laws q d made (laws.whole q d made stage t sound measured scope at told leads read going whole)

  pub link_next : (t : Option Terminal) → kind_of stage ≡ t → IfSome t (IsTerminalOf d q.path) → IsFrontOfAnswer (text_read made stage ++ unread) (answer q d)
      → (path : List (List ℕ)) → link_at stage ≡ Some path → MadeAt q d (HasFirstLink made path)
  link_next None told leads front path is = let none = sym (no_link stage told) ∙ is in absurd (cc none)
  link_next (Some t) told leads front path is =
      subst (λ (l : Option (List (List ℕ))). IfSome l (λ path. MadeAt q d (HasFirstLink made path))) is (laws.link q d made stage unread t sound measured scope at told leads front)

  pub bad_next : (t : Option Terminal) → kind_of stage ≡ t → IfSome t (IsTerminalOf d q.path) → IsFrontOfAnswer (text_read made stage ++ unread) (answer q d) → IsBad stage
      → MadeAt q d (HasFirstBad made)
  bad_next t told leads front bad = bad_made t told leads front bad
