-- What comes of a stage, where a block was opened there, and where a section, or a block that none brings, was refused.
use Rattle.std.proofs.Common.{◌≡◌, ◌⊎◌, ◌≤◌, ◌∷◌, ℕ, All, Bool, List, [], true, false, length, inl, inr, refl, sym, ap, ap₂, ◌∙◌, subst, arith}
use Rattle.std.proofs.lemmas.List.Elements.{All-push}
use Rattle.tg_cid.specs.Cid.{CidParts}
use Rattle.tg_cut_laws.proofs.Causes.{PlaceCause, bad, missized, receipt_cause, too_deep}
use Rattle.tg_cut_laws.proofs.Outcomes.{HasNoStop, Leaves, goes_on, misses, on, over, placed, refusal_of, refused, unplaced, unreceived}
use Rattle.tg_cut_laws.proofs.Presented.{Comes, ComesIf}
use Rattle.tg_cut_laws.specs.Sections.{IsDue}
use Rattle.tg_traversal.specs.Left.{WantedAt}
use Rattle.tg_model.specs.Dag.{Section}
use Rattle.tg_model.specs.LimitNumbers.{LimitNumbers}
use Rattle.tg_model.specs.Queries.{QueryParts}
use Rattle.tg_model.specs.Traversal.{is_sent_behind}
use Rattle.tg_model.specs.declared.limits.LimitKind.TheVariants as kinds
use Rattle.tg_model.specs.declared.limits.LimitKind.{LimitKind}
use Rattle.tg_model_laws.specs.SentSections.{taken_if}
use Rattle.tg_model_laws.specs.Stages.{Given}
use Rattle.tg_model_laws.specs.Tasks.{Miss, Task, no_directory, no_entry, open_block, stop_at}
use Rattle.tg_model_laws.specs.Verified.{IsKnownIf}
use Rattle.tg_verify.specs.Counting.{AreUnpassed, counts_given}
use Rattle.tg_verify.specs.Reached.{IsOpenedAt, IsReached, LeadsOn, Stage, stage_of}
use Rattle.tg_verify.specs.Refusals.{HasPlaceCause, HasRefused, HasSectionCause, IsOver, IsRefusedAt, IsRefusedBehind, IsSurplus, IsWantedBlock}
use Rattle.tg_verify.specs.Taken.{IsNowhere}
use Rattle.tg_verify.specs.declared.fault.Refusal.{Refusal}
use Rattle.tg_verify.specs.declared.fault.Refusal.TheVariants as refusals

-- ---- a block that was opened

-- it came, and where a section brought it this is the wanted one
pub record HasCome (q : QueryParts) (limits : LimitNumbers) (before after : Stage) (at : WantedAt) (later : List (Task CidParts)) (section : Section) : Type 0 where
  pub sends : Bool
  pub comes : Comes q before at later section sends after.sections
  pub received : sends ≡ true → IsWantedBlock limits at section

-- of each block that was opened
pub has_come : (q : QueryParts) (limits : LimitNumbers) (before after : Stage) (h : IsOpenedAt q limits before after) → HasCome q limits before after h.at h.later h.section
has_come q limits before after h = by (is_sent_behind q before.sections h.section.cid) refl h.known h.sections_are
  where
    by : (b : Bool) → is_sent_behind q before.sections h.section.cid ≡ b → IsKnownIf b before.sections h.section → after.sections ≡ taken_if b before.sections h.section
        → HasCome q limits before after h.at h.later h.section
    by true e known are =
        record {
          sends = true;
          comes = record { wanted = h.wanted; verified = h.verified; sends_is = ap (is_sent_behind q before.sections) (sym h.same) ∙ e; comes = are };
          received = λ t. record { block = record { small = h.small e; named = h.is_named.named }; same = h.same };
        }
    by false e known are =
        record {
          sends = false;
          comes = record {
            wanted = h.wanted;
            verified = h.verified;
            sends_is = ap (is_sent_behind q before.sections) (sym h.same) ∙ e;
            comes = record { shown_are = are; same = h.same; had = known; named = h.is_named.named };
          };
          received = λ t. absurd (cc t);
        }

-- so the next stage comes of the one before it
pub on_leaves : (q : QueryParts) (limits : LimitNumbers) (before after : Stage) → IsOpenedAt q limits before after → LeadsOn q limits after
    → Leaves q limits before after.sections (goes_on after)
on_leaves q limits before after h leads =
    let come = has_come q limits before after h in
    let no_stop = subst (λ (tasks : List (Task CidParts)). HasNoStop tasks) h.tasks_are leads.no_stop in
    let within = subst (λ (given : Given). AreUnpassed limits (counts_given q given)) h.given_is leads.within in
    inl (record {
      at = h.at;
      later = h.later;
      section = h.section;
      sends = come.sends;
      comes = come.comes;
      verdict = placed come.received h.kind h.passes
          (on no_stop within (λ i. goes_on (record { sections = after.sections; given = h.given_is i; tasks = h.tasks_are i })));
    })

-- and of sections none larger than the limit come such
pub small_next : (q : QueryParts) (limits : LimitNumbers) (before after : Stage) → IsOpenedAt q limits before after → All (λ section. length section.block ≤ limits.block) before.sections
    → All (λ section. length section.block ≤ limits.block) after.sections
small_next q limits before after h small = let come = has_come q limits before after h in by come.sends come.comes.comes come.received
  where
    by : (b : Bool) → ComesIf b before.sections h.at h.section after.sections → (b ≡ true → IsWantedBlock limits h.at h.section)
        → All (λ (section : Section). length section.block ≤ limits.block) after.sections
    by true are received =
        subst (λ (l : List Section). All (λ (section : Section). length section.block ≤ limits.block) l) (sym are)
        (All-push (λ (section : Section). length section.block ≤ limits.block) before.sections h.section small (received refl).block.small)
    by false had received = subst (λ (l : List Section). All (λ (section : Section). length section.block ≤ limits.block) l) (sym had.shown_are) small

-- ---- a refusal

-- it comes of a stage that was reached
pub record IsStop (q : QueryParts) (limits : LimitNumbers) (sections : List Section) (written : List ℕ) (fault : Refusal) : Type 0 where
  pub stage : Stage
  pub reached : IsReached q limits stage
  pub leaves : Leaves q limits stage sections (refused fault written)

-- a limit is passed behind the block
record IsOverAt (q : QueryParts) (limits : LimitNumbers) (given : Given) (later : List (Task CidParts)) (at : WantedAt) (section : Section) (fault : Refusal) : Type 0 where
  limit : LimitKind
  number : ℕ
  is_over : IsOver q limits given later at section limit number
  fault_is : fault ≡ refusals.Limit limit number

-- each cause at a place
place_cause : (q : QueryParts) (limits : LimitNumbers) (given : Given) (later : List (Task CidParts)) (at : WantedAt) (section : Section) (fault : Refusal) → IsDue fault
    → HasPlaceCause q limits given later at section fault → PlaceCause q limits at section fault ⊎ IsOverAt q limits given later at section fault
place_cause q limits given later at section (refusals.Limit kinds.Block number) due h = absurd h
place_cause q limits given later at section (refusals.Limit kinds.Received number) due h = absurd h
place_cause q limits given later at section (refusals.Limit kinds.Depth number) due h =
    let deep = h.deep in
    let e = h.number_is in
    inl (too_deep (omega (arith, deep, e)) (ap (refusals.Limit kinds.Depth) e))
place_cause q limits given later at section (refusals.Limit limit number) due h = inr (record { limit = limit; number = number; is_over = h; fault_is = refl })
place_cause q limits given later at section (refusals.BadBlock cid fault) due h = inl (bad fault h.1 (ap (λ (c : CidParts). refusals.BadBlock c fault) h.0))
place_cause q limits given later at section (refusals.BadSize declared actual) due h = inl (missized (record { declared = declared; actual = actual }) h refl)
place_cause q limits given later at section refusals.OutOfMemory due h = absurd due
place_cause q limits given later at section other due h = absurd h

-- of a block that came and has a cause there
by_place : (q : QueryParts) (limits : LimitNumbers) (stage : Stage) (at : WantedAt) (later : List (Task CidParts)) (section : Section) (sends : Bool) (shown : List Section)
    (written : List ℕ) (fault : Refusal) → IsDue fault → Comes q stage at later section sends shown → (sends ≡ true → IsWantedBlock limits at section)
    → HasPlaceCause q limits stage.given later at section fault → written ≡ stage.given.text → Leaves q limits stage shown (refused fault written)
by_place q limits stage at later section sends shown written fault due comes received cause text = by (place_cause q limits stage.given later at section fault due cause)
  where
    by : PlaceCause q limits at section fault ⊎ IsOverAt q limits stage.given later at section fault → Leaves q limits stage shown (refused fault written)
    by (inl place) =
        inl (record { at = at; later = later; section = section; sends = sends; comes = comes; verdict = unplaced received fault place (ap (refused fault) text) })
    by (inr h) =
        let passed = h.is_over in
        inl (record {
          at = at;
          later = later;
          section = section;
          sends = sends;
          comes = comes;
          verdict = placed received passed.kind passed.passes
              (over passed.no_stop h.limit passed.over (ap₂ refused (h.fault_is ∙ ap (refusals.Limit h.limit) passed.number_is) text));
        })

-- the last section was refused
at_last : (q : QueryParts) (limits : LimitNumbers) (sections : List Section) (written : List ℕ) (fault : Refusal) → IsDue fault
    → IsRefusedAt q limits sections written (λ given later at section. HasSectionCause q limits given later at section fault) → IsStop q limits sections written fault
at_last q limits sections written fault due h =
    record { stage = stage; reached = h.up_to.reached; leaves = by h.cause }
  where
    stage : Stage
    stage = stage_of h.taken h.up_to.given (open_block h.at.want h.at.cid ∷ h.up_to.later)

    comes : Comes q stage h.at h.up_to.later h.section true sections
    comes = record { wanted = refl; verified = h.up_to.verified; sends_is = h.up_to.sends; comes = h.received }

    by : HasSectionCause q limits h.up_to.given h.up_to.later h.at h.section fault → Leaves q limits stage sections (refused fault written)
    by (inl cause) =
        inl (record {
          at = h.at;
          later = h.up_to.later;
          section = h.section;
          sends = true;
          comes = comes;
          verdict = unreceived refl fault (receipt_cause limits h.at h.section fault cause) (ap (refused fault) h.up_to.text);
        })
    by (inr (wanted, cause)) = by_place q limits stage h.at h.up_to.later h.section true sections written fault due comes (λ t. wanted) cause h.up_to.text

-- a block that no section brings was refused
behind_last : (q : QueryParts) (limits : LimitNumbers) (sections : List Section) (written : List ℕ) (fault : Refusal) → IsDue fault → IsRefusedBehind q limits sections written fault
    → IsStop q limits sections written fault
behind_last q limits sections written fault due h =
    record {
      stage = stage;
      reached = h.reached;
      leaves = by_place q limits stage h.at h.later h.section false sections written fault due comes (λ t. absurd (cc t)) h.cause h.text;
    }
  where
    stage : Stage
    stage = stage_of sections h.given (open_block h.at.want h.at.cid ∷ h.later)

    comes : Comes q stage h.at h.later h.section false sections
    comes = record {
      wanted = refl;
      verified = h.verified;
      sends_is = h.known;
      comes = record { shown_are = refl; same = h.same; had = h.had; named = h.is_named.named };
    }

-- a segment leads nowhere behind a block that was opened
at_miss : (q : QueryParts) (limits : LimitNumbers) (sections : List Section) (written : List ℕ) (miss : Miss) → IsNowhere q limits sections written miss
    → IsStop q limits sections written (refusal_of miss)
at_miss q limits sections written miss h =
    let reached = h.reached in
    let opened = reached.opened in
    let come = has_come q limits reached.before (stage_of sections h.given (stop_at miss ∷ h.later)) opened in
    record {
      stage = reached.before;
      reached = reached.reached;
      leaves = inl (record {
        at = opened.at;
        later = opened.later;
        section = opened.section;
        sends = come.sends;
        comes = come.comes;
        verdict = placed come.received opened.kind opened.passes
            (misses miss h.later (sym opened.tasks_are) (ap (refused (refusal_of miss)) (h.text ∙ ap (λ (given : Given). given.text) opened.given_is)));
      });
    }

-- all came before the last section
at_surplus : (q : QueryParts) (limits : LimitNumbers) (sections : List Section) (written : List ℕ) (number : ℕ) → IsSurplus q limits sections written number
    → IsStop q limits sections written (refusals.Extra number)
at_surplus q limits sections written number h =
    record {
      stage = stage_of h.taken h.through.given [];
      reached = h.through.reached;
      leaves = inr (record { none = refl; section = h.section; shown_are = h.received; outcome_is = ap₂ (λ (n : ℕ) (text : List ℕ). refused (refusals.Extra n) text) h.number_is h.through.text });
    }

-- each refusal of what the sections are
pub is_stop : (q : QueryParts) (limits : LimitNumbers) (sections : List Section) (written : List ℕ) (fault : Refusal) → IsDue fault → HasRefused q limits sections written fault
    → IsStop q limits sections written fault
is_stop q limits sections written (refusals.Extra number) due h = at_surplus q limits sections written number h
is_stop q limits sections written (refusals.NotFolder segment) due h = at_miss q limits sections written (no_directory segment) h
is_stop q limits sections written (refusals.NotThere segment) due h = at_miss q limits sections written (no_entry segment) h
is_stop q limits sections written (refusals.Truncated want number) due h = absurd due
is_stop q limits sections written refusals.SinkFault due h = absurd due
is_stop q limits sections written refusals.OutOfMemory due h = absurd due
is_stop q limits sections written fault due (inl h) = at_last q limits sections written fault due h
is_stop q limits sections written fault due (inr h) = behind_last q limits sections written fault due h
