-- What was made of an answer, beside a sound DAG.
use Rattle.std.proofs.Common.{All, IfSome, List, None, Option, Some, [], ap, append-nil, arith, false, inl, inr, length, nat_eq, refl, subst, sym, ℕ, ◌+◌, ◌++◌, ◌<◌, ◌∙◌, ◌∷◌, ◌≡◌, ◌≢◌, ◌⊎◌}
use Rattle.std.proofs.lemmas.List.Elements.{All-head}
use Rattle.std.specs.Prelude.{Err, IsSomeAnd, Ok, Result, ⊤, ◌^◌}
use Rattle.tg_app.proofs.IntoReadings.{MadeLaws, bad_next, front_made, link_next, path_whole, stop_made, text_is}
use Rattle.tg_app.proofs.IntoStatuses.{IsOther, all_done, inner_has}
use Rattle.tg_app.proofs.Statuses.{IsOwn}
use Rattle.tg_app.specs.Intos.{AreMadeAt, FinishEnds, IntoEnds, IsBegun, IsFinished, IsFolderFront, IsLinkRefusal, IsMade, IsPathMade, IsStopOf, IsStopRefusal, StopEnds, VouchedFolder, counts_line, into_extract}
use Rattle.tg_app.specs.Makings.{Making}
use Rattle.tg_bundles.specs.Records.{Record, file, folder, link, records_of}
use Rattle.tg_bytes.specs.Lists.{All-split}
use Rattle.tg_commands.specs.Lines.{PutEnds, Says, exit_status, status_of}
use Rattle.tg_commands.specs.Verify.{IsNoAnswer}
use Rattle.tg_commands.specs.declared.fault.CommandFault.{CommandFault}
use Rattle.tg_commands.specs.declared.fault.CommandFault.TheVariants as refusals
use Rattle.tg_extract.specs.Answers.{IsMeasured, MadeAt}
use Rattle.tg_extract.specs.Counts.{counts_of}
use Rattle.tg_extract.specs.Extracts.{ExtractState, Grows, IsGoodRecord, IsStoppedAt, IsTreeCause, grows_joins, kind_of, link_at, records_made, text_of, text_read}
use Rattle.tg_extract.specs.Laws.{HasFirstBad, HasFirstLink}
use Rattle.tg_extract.specs.declared.fault.ExtractFault.{ExtractFault}
use Rattle.tg_extract.specs.declared.fault.ExtractFault.TheVariants as extracts
use Rattle.tg_faults.specs.Faults.{Rose}
use Rattle.tg_faults.specs.declared.calls.Failed.{Failed}
use Rattle.tg_model.specs.Answer.{answer}
use Rattle.tg_model.specs.Dag.{Dag}
use Rattle.tg_model.specs.Fits.{IsFrontOfAnswer}
use Rattle.tg_model.specs.Lookup.{lookup_path}
use Rattle.tg_model.specs.Lookup as lookups
use Rattle.tg_model.specs.Queries.{QueryParts}
use Rattle.tg_model.specs.Sound.{IsSound}
use Rattle.tg_model.specs.declared.queries.Scope.TheVariants as scopes
use Rattle.tg_new_tree.specs.NewTrees.{NewTreeMeaning, new_tree_step}
use Rattle.tg_new_tree.specs.declared.made.Made.{Made}
use Rattle.tg_streams.specs.Streams.{Output, OutputRose}
use Rattle.tg_verify.specs.Terminals.{IsTerminalOf}
use Rattle.tg_verify.specs.declared.terminal.Terminal.{Terminal}

-- what has a cause is some refusal
some_stop : (P : ExtractFault → Type 0) (refused : Option ExtractFault) → IsSomeAnd refused P → refused ≡ None → ⊥
some_stop P None h e = h
some_stop P (Some fault) h e = absurd (cc e)

-- a refusal that isn't told of what comes next in a folder
abbrev pub IsNoStop : CommandFault → Type 0
IsNoStop (refusals.NotPlain path) = ⊥
IsNoStop refusals.TooDeep = ⊥
IsNoStop other = ⊤

-- what went into an extract, what it was told, how that ended, and what a sound DAG has to do with it
pub record Went {T : Type 0} (m : NewTreeMeaning T) (q : QueryParts) (d : Dag) (Pair : Type 0) (begun called : ExtractState T) (inner : Option CommandFault) : Type 0 where
  pub text : List ℕ
  pub grows : Grows m begun called text
  pub terminal : Option Terminal
  pub kind : kind_of called.stage ≡ terminal
  pub leads : IfSome terminal (IsTerminalOf d q.path) ⊎ Pair
  pub front : IsFrontOfAnswer text (answer q d) ⊎ Pair
  pub whole : inner ≡ None → (answer q d ≡ Some text) ⊎ Pair
  pub told : inner ≡ None → terminal ≢ None
  pub nowhere : exit_status inner ≡ 9 → IsNoAnswer q d ⊎ Pair
  pub plain : (refusal : CommandFault) → inner ≡ Some refusal → IsNoStop refusal
  pub own : (refusal : CommandFault) → inner ≡ Some refusal → IsOwn refusal

-- what isn't told of what comes next says nothing of it
unstopped : (q : QueryParts) (d : Dag) (made : List Made) (refusal : CommandFault) → IsNoStop refusal → IsStopOf q d made (Some refusal)
unstopped q d made (refusals.NotPlain path) h = absurd h
unstopped q d made refusals.TooDeep h = absurd h
unstopped q d made refusal h = tt

-- where the path leads nowhere it leads to no node
no_node : (q : QueryParts) (d x : Dag) → IsNoAnswer q d → lookup_path q.path d ≡ lookups.found x → ⊥
no_node q d x (inl (i, e)) found = absurd (cc (sym e ∙ found))
no_node q d x (inr (i, e)) found = absurd (cc (sym e ∙ found))

none_made_at : (q : QueryParts) (d : Dag) (made : List Made) → IsNoAnswer q d → IsFolderFront q d made → made ≡ []
none_made_at q d made nowhere (inl none) = none
none_made_at q d made nowhere (inr begun) = absurd (no_node q d begun.at nowhere begun.found)

nine : IsOther 9
nine = record { zero = refl; six = refl; seven = refl; eight = refl }

module _ {T : Type 0} (laws : MadeLaws) (m : NewTreeMeaning T) (q : QueryParts) (d : Dag) (Pair : Type 0) (path : List ℕ) (old begun called new : ExtractState T)
    (inner : Option CommandFault) (finished : Result ⊤ Failed) (out : Output) (end : Option CommandFault)
    (sound : IsSound d) (measured : IsMeasured d) (scope : q.scope ≡ scopes.All)
    (begins : IsBegun m path old begun) (went : Went m q d Pair begun called inner) (finish : FinishEnds m called new finished)
    (ends : IntoEnds m new inner finished out end) where
  abbrev pub made : List Made
  made = m.made new.tree

  text_new : text_read made new.stage ++ new.unread ≡ went.text
  text_new = text_is m path went.text old begun called new finished begins went.grows finish

  kind_new : kind_of new.stage ≡ went.terminal
  kind_new = finish.text.kind ∙ went.kind

  -- what the extract was told is so in the DAG, and the text is a front of its answer
  abbrev pub Beside : Type 0
  Beside = IfSome went.terminal (IsTerminalOf d q.path) × IsFrontOfAnswer (text_read made new.stage ++ new.unread) (answer q d)

  beside : Beside ⊎ Pair
  beside = elim went.leads [
    | inl leads ↦ elim went.front [
      | inl front ↦ inl (leads, subst (λ (l : List ℕ). IsFrontOfAnswer l (answer q d)) (sym text_new) front)
      | inr pair ↦ inr pair
    ]
    | inr pair ↦ inr pair
  ]

  begun_so : Beside → IsFolderFront q d made
  begun_so b = front_made laws q d sound measured scope made new.stage new.unread finish.at went.terminal kind_new b.0 b.1

  stopped_so : Beside → StopEnds new out end → IsStopOf q d made end
  stopped_so b h =
      subst (IsStopOf q d made) (sym h.end_is)
      (stop_made laws q d sound measured scope made new.stage new.unread finish.at went.terminal kind_new b.0 b.1 new.refused h.refusal finish.stopped h.tells)

  put_so : (text : List ℕ) (e : Option CommandFault) → PutEnds text out e → IsStopOf q d made e
  put_so text None h = tt
  put_so text (Some refusals.SinkFault) h = tt
  put_so text (Some refusal) h = absurd h

  stop_so : (i : Option CommandFault) (f : Result ⊤ Failed) → ((refusal : CommandFault) → i ≡ Some refusal → IsNoStop refusal) → IntoEnds m new i f out end → Beside → IsStopOf q d made end
  stop_so None (Ok done) plain h b = put_so (counts_line (counts_of made)) end h
  stop_so None (Err failed) plain h b = stopped_so b h
  stop_so (Some refusals.SinkFault) f plain h b = stopped_so b h
  stop_so (Some refusal) f plain h b = subst (IsStopOf q d made) (sym h.0) (unstopped q d made refusal (plain refusal refl))

  -- all is made
  whole_so : inner ≡ None → IsFinished m called new → IsPathMade q d made ⊎ Pair
  whole_so accepted is = elim went.leads [
    | inl leads ↦ elim (went.whole accepted) [
      | inl whole ↦ inl (path_whole laws q d sound measured scope made new.stage new.unread finish.at went.terminal (went.told accepted) kind_new leads is.read is.going
          (whole ∙ ap Some (sym text_new ∙ ap (λ (l : List ℕ). text_read made new.stage ++ l) is.all ∙ append-nil (text_read made new.stage))))
      | inr pair ↦ inr pair
    ]
    | inr pair ↦ inr pair
  ]

  finished_so : (done : ⊤) → finished ≡ Ok done → IsFinished m called new
  finished_so done is = (subst (FinishEnds m called new) is finish).ends

  pub vouched_by : (err : Output) (status : ℕ) (making : Making) → status ≡ exit_status end → Says end err
      → (place : making.meaning.place making.new.tree ≡ Some path) → (is : making.meaning.made making.new.tree ≡ made) → VouchedFolder q d path Pair making err status
  vouched_by err status making e line place is = record {
    place = place;
    whole = λ zero.
        let did = all_done m new out end inner finished went.own (sym e ∙ zero) ends in
        elim (whole_so did.accepted (finished_so did.done did.is_finished)) [
          | inl made_is ↦ inl (subst (IsPathMade q d) (sym is) made_is)
          | inr pair ↦ inr pair
        ];
    front = elim beside [ inl b ↦ inl (subst (IsFolderFront q d) (sym is) (begun_so b)) | inr pair ↦ inr pair ];
    nowhere = λ status_nine. elim beside [
      | inl b ↦ elim (went.nowhere (inner_has m new out end 9 inner finished nine (sym e ∙ status_nine) ends)) [
        | inl none ↦ inl (none, is ∙ none_made_at q d made none (begun_so b))
        | inr pair ↦ inr pair
      ]
      | inr pair ↦ inr pair
    ];
    end = end;
    status_is = e;
    line = line;
    stop = elim beside [ inl b ↦ inl (subst (λ (l : List Made). IsStopOf q d l end) (sym is) (stop_so inner finished went.plain ends b)) | inr pair ↦ inr pair ];
  }

  -- ---- of what is made all is, but for counted faults and want of memory

  apart_at : (at other : Dag) → lookup_path q.path d ≡ lookups.found at → lookup_path q.path d ≡ lookups.found other → other ≡ at
  apart_at at other e f = cc (sym f ∙ e)

  next_made : (fit : AreMadeAt q d) (records more : List Record) (next : Record) (other : Dag) → lookup_path q.path d ≡ lookups.found other → records_of [] other ≡ records ++ next ∷ more → IsMade next
  next_made fit records more next other found are =
      let same = ap (records_of []) (apart_at fit.at other fit.found found) in
      let all : All IsMade (records ++ next ∷ more) = subst (All IsMade) (sym same ∙ are) fit.are in
      All-head IsMade next more (All-split IsMade records (next ∷ more) all).1

  no_link_next : (fit : AreMadeAt q d) (at_path : List (List ℕ)) → MadeAt q d (HasFirstLink made at_path) → ⊥
  no_link_next fit at_path (other, found, h) = next_made fit (records_made made) h.more (link at_path h.target) other found h.are

  is_good : (next : Record) → IsMade next → IsGoodRecord next
  is_good (folder at_path) h = h
  is_good (file at_path bytes) h = h
  is_good (link at_path target) h = absurd h

  no_bad_next : (fit : AreMadeAt q d) → MadeAt q d (HasFirstBad made) → ⊥
  no_bad_next fit (other, found, h) = h.bad (is_good h.next (next_made fit (records_made made) h.more h.next other found h.are))

  joined : Grows m begun new (went.text ++ [])
  joined = grows_joins m begun called new went.text [] went.grows finish.text.grows

  -- a fault of the tree is counted from the begin on
  tree_rose : new.refused ≡ Some extracts.Tree → Rose (m.faults old.tree) (m.faults new.tree)
  tree_rose is =
      let cause = subst (λ (r : Option ExtractFault). IfSome r (IsTreeCause (new_tree_step m begun.tree new.tree))) is (joined.cause begins.refused) in
      subst (λ (n : ℕ). Rose n (m.faults new.tree)) begins.quiet cause.rose

  -- why an extract stopped that makes all, with no fault of the tree: memory was wanted, or there is a pair
  link_none : (next : Option (List (List ℕ))) (refusal : CommandFault) → link_at new.stage ≡ next → ((at_path : List (List ℕ)) → next ≡ Some at_path → ⊥) → IsLinkRefusal next refusal
      → status_of refusal ≡ 8
  link_none None refusal is none h = absurd h
  link_none (Some at_path) refusal is none h = absurd (none at_path refl)

  next_link : AreMadeAt q d → Beside → (next : Option (List (List ℕ))) → link_at new.stage ≡ next → (at_path : List (List ℕ)) → next ≡ Some at_path → ⊥
  next_link fit b next is at_path e =
      no_link_next fit at_path (link_next laws q d sound measured scope made new.stage new.unread finish.at went.terminal kind_new b.0 b.1 at_path (is ∙ e))

  stopped_8 : (fit : AreMadeAt q d) → (Rose (m.faults old.tree) (m.faults new.tree) → ⊥) → (refused : Option ExtractFault) (refusal : CommandFault) → new.refused ≡ refused
      → (refused ≡ None → ⊥) → IsStopRefusal new.stage refused refusal → (status_of refusal ≡ 8) ⊎ Pair
  stopped_8 fit no_tree None refusal is some h = absurd (some refl)
  stopped_8 fit no_tree (Some extracts.Tree) refusal is some h = absurd (no_tree (tree_rose is))
  stopped_8 fit no_tree (Some extracts.NotPlain) refusal is some h = elim beside [
    | inl b ↦ inl (link_none (link_at new.stage) refusal refl (next_link fit b (link_at new.stage) refl) h)
    | inr pair ↦ inr pair
  ]
  stopped_8 fit no_tree (Some extracts.BadText) refusal is some h = elim beside [
    | inl b ↦ absurd (no_bad_next fit
        (bad_next laws q d sound measured scope made new.stage new.unread finish.at went.terminal kind_new b.0 b.1 (subst (λ (r : Option ExtractFault). IfSome r (IsStoppedAt new.stage)) is finish.stopped)))
    | inr pair ↦ inr pair
  ]
  stopped_8 fit no_tree (Some extracts.OutOfMemory) refusal is some h = inl (ap status_of h)

  stop_8 : (fit : AreMadeAt q d) → (Rose (m.faults old.tree) (m.faults new.tree) → ⊥) → (new.refused ≡ None → ⊥) → StopEnds new out end → (exit_status end ≡ 8) ⊎ Pair
  stop_8 fit no_tree some h = elim (stopped_8 fit no_tree new.refused h.refusal refl some h.tells) [
    | inl eight ↦ inl (ap exit_status h.end_is ∙ eight)
    | inr pair ↦ inr pair
  ]

  put_8 : (text : List ℕ) (e : Option CommandFault) → (OutputRose out → ⊥) → PutEnds text out e → exit_status e ≡ 0
  put_8 text None no_out h = refl
  put_8 text (Some refusals.SinkFault) no_out h = absurd (no_out h.rose)
  put_8 text (Some refusal) no_out h = absurd h

  -- where a call to finish failed it has stopped
  stopped_now : (failed : Failed) → finished ≡ Err failed → new.refused ≡ None → ⊥
  stopped_now failed is none =
      let ends = (subst (FinishEnds m called new) is finish).ends in
      some_stop _ new.refused (ends.now (finish.text.grows.going none)) none

  -- and so it has where a call to put failed
  stopped_before : OutputRose (into_extract m begun called) → new.refused ≡ None → ⊥
  stopped_before rose none =
      let calm = went.grows.calm (finish.text.grows.going none) ∙ begins.calls in
      let small : called.faults + 1 < 2 ^ 64 = subst (λ (n : ℕ). n + 1 < 2 ^ 64) (sym calm) (omega arith) in
      let up : begun.faults < called.faults = rose small in
      omega (arith, calm, up)

  -- the answer was accepted; or memory was wanted for it; or the extract failed
  abbrev pub IsTaken : Option CommandFault → Type 0
  IsTaken i = (i ≡ None) ⊎ ((i ≡ Some refusals.OutOfMemory) ⊎ ((i ≡ Some refusals.SinkFault) × OutputRose (into_extract m begun called)))

  abbrev pub IsAnswered : Type 0
  IsAnswered = (exit_status end ≡ 8) ⊎ (((exit_status end ≡ 0) × IsPathMade q d made) ⊎ Pair)

  stop_answers : (exit_status end ≡ 8) ⊎ Pair → IsAnswered
  stop_answers (inl eight) = inl eight
  stop_answers (inr pair) = inr (inr pair)

  accepted_by : (fit : AreMadeAt q d) → (Rose (m.faults old.tree) (m.faults new.tree) → ⊥) → (OutputRose out → ⊥) → inner ≡ None → (f : Result ⊤ Failed) → finished ≡ f → IntoEnds m new None f out end → IsAnswered
  accepted_by fit no_tree no_out accepted (Ok done) is h = elim (whole_so accepted (finished_so done is)) [
    | inl made_is ↦ inr (inl (put_8 (counts_line (counts_of made)) end no_out h, made_is))
    | inr pair ↦ inr (inr pair)
  ]
  accepted_by fit no_tree no_out accepted (Err failed) is h = stop_answers (stop_8 fit no_tree (stopped_now failed is) h)

  pub answered_by : (fit : AreMadeAt q d) → (Rose (m.faults old.tree) (m.faults new.tree) → ⊥) → (OutputRose out → ⊥) → IsTaken inner → IsAnswered
  answered_by fit no_tree no_out (inl accepted) =
      accepted_by fit no_tree no_out accepted finished refl (subst (λ (i : Option CommandFault). IntoEnds m new i finished out end) accepted ends)
  answered_by fit no_tree no_out (inr (inl memory)) =
      let h = subst (λ (i : Option CommandFault). IntoEnds m new i finished out end) memory ends in
      inl (ap exit_status h.0)
  answered_by fit no_tree no_out (inr (inr (sink, rose))) =
      stop_answers (stop_8 fit no_tree (stopped_before rose) (subst (λ (i : Option CommandFault). IntoEnds m new i finished out end) sink ends))
