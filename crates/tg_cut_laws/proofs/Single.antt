-- A list of sections has one answer for a query and limits.
use Rattle.std.proofs.Common.{◌≡◌, ◌<◌, ◌≤◌, ◌++◌, ◌∷◌, ℕ, Bool, List, [], true, false, length, inl, inr, refl, sym, ap, ◌∙◌, subst, arith, append-nil}
use Rattle.std.proofs.lemmas.List.{length_push}
use Rattle.tg_cut_laws.proofs.Outcomes.{Leaves, Outcome, goes_on, none_wanted, one_outcome, refused}
use Rattle.tg_cut_laws.proofs.Presented.{ComesIf}
use Rattle.tg_cut_laws.proofs.Stops.{IsStop, is_stop}
use Rattle.tg_cut_laws.proofs.Ways.{LeadsFurther, Ways, all_small, begins_same, fronts, further_leaves, leads_begin, leaves_begin, no_longer, not_refused, other_way, ways}
use Rattle.tg_cut_laws.specs.Sections.{BeginOne, IsOneMore, RefusedIsNotUpTo, RefusedIsOneMore, RefusedOnce, SectionLaws, ThroughIsNotUpTo, ThroughOnce, UpToOnce}
use Rattle.tg_traversal.specs.Left.{WantedAt}
use Rattle.tg_model.specs.Dag.{Section}
use Rattle.tg_model.specs.LimitNumbers.{LimitNumbers}
use Rattle.tg_model.specs.Queries.{QueryParts}
use Rattle.tg_model.specs.Traversal.{is_sent_behind}
use Rattle.tg_model_laws.specs.Tasks.{open_block}
use Rattle.tg_model_laws.specs.Verified.{written_whole}
use Rattle.tg_verify.specs.Reached.{Stage, stage_of}
use Rattle.tg_verify.specs.Taken.{IsThrough, IsUpTo}
use Rattle.tg_verify.specs.declared.fault.Refusal.{Refusal}

-- ---- stages where a section is wanted, or where all came

-- the stage of sections behind which one is wanted
abbrev up_to_stage : (q : QueryParts) (limits : LimitNumbers) (sections : List Section) (written : List ℕ) (at : WantedAt) → IsUpTo q limits sections written at → Stage
up_to_stage q limits sections written at h = stage_of sections h.given (open_block at.want at.cid ∷ h.later)

-- the stage where all came
abbrev through_stage : (q : QueryParts) (limits : LimitNumbers) (sections : List Section) (written : List ℕ) → IsThrough q limits sections written → Stage
through_stage q limits sections written h = stage_of sections h.given []

-- where a section is wanted, more sections are shown where anything comes of it
more_shown : (q : QueryParts) (limits : LimitNumbers) (sections : List Section) (written : List ℕ) (at : WantedAt) (h : IsUpTo q limits sections written at) (shown : List Section) (o : Outcome)
    → Leaves q limits (up_to_stage q limits sections written at h) shown o → length sections < length shown
more_shown q limits sections written at h shown o (inr surplus) = let e = surplus.none in absurd (cc e)
more_shown q limits sections written at h shown o (inl block) = by block.sends block.comes.sends_is block.comes.comes
  where
    cid : at.cid ≡ block.at.cid
    cid = let e = block.comes.wanted in cc

    by : (b : Bool) → is_sent_behind q sections block.at.cid ≡ b → ComesIf b sections block.at block.section shown → length sections < length shown
    by false e had = absurd (cc (sym h.sends ∙ ap (is_sent_behind q sections) cid ∙ e))
    by true e are =
        let longer = length_push sections block.section in
        let same = ap (λ (l : List Section). length l) are in
        omega (arith, longer, same)

-- so it leads further to more sections alone
more_further : (q : QueryParts) (limits : LimitNumbers) (sections : List Section) (written : List ℕ) (at : WantedAt) (h : IsUpTo q limits sections written at) (to : Stage)
    → LeadsFurther q limits (up_to_stage q limits sections written at h) to → length sections < length to.sections
more_further q limits sections written at h to further =
    let stage = up_to_stage q limits sections written at h in
    let more = more_shown q limits sections written at h further.next.sections (goes_on further.next) (further_leaves q limits stage to further) in
    let least = no_longer further.next.sections to.sections (leads_begin q limits further.next further.stages to further.leads) in
    omega (arith, more, least)

-- and where all came it doesn't
none_further : (q : QueryParts) (limits : LimitNumbers) (from to : Stage) → from.tasks ≡ [] → LeadsFurther q limits from to → ⊥
none_further q limits from to e further = let wanted = further.opened.wanted in absurd (cc (sym e ∙ wanted))

-- ---- each law

-- the sections of the stage where a refusal comes begin one list with all that those that were shown do
stop_begins : (q : QueryParts) (limits : LimitNumbers) (a c : List Section) (x : List ℕ) (f : Refusal) (stop : IsStop q limits a x f) → BeginOne a c
    → BeginOne stop.stage.sections c
stop_begins q limits a c x f stop one =
    fronts stop.stage.sections c a c (leaves_begin q limits stop.stage a (refused f x) stop.leaves) (begins_same c c refl) one

-- a list begins one with itself, and with each that begins with it
begin_more : (a rest b : List Section) → a ++ rest ≡ b → BeginOne a b
begin_more a rest b e = record { a_more = rest; b_more = []; one = e ∙ sym (append-nil b) }

-- two refusals are one
pub refused_once : RefusedOnce
refused_once q limits a b x y f g one due too h k = stops (is_stop q limits a x f due h) (is_stop q limits b y g too k)
  where
    stops : IsStop q limits a x f → IsStop q limits b y g → (a ≡ b) × (x ≡ y) × (f ≡ g)
    stops s t = by (ways q limits s.stage t.stage s.reached t.reached (other_way t.stage.sections s.stage.sections behind))
      where
        before : BeginOne s.stage.sections b
        before = stop_begins q limits a b x f s one

        after : BeginOne t.stage.sections a
        after = stop_begins q limits b a y g t (other_way a b one)

        behind : BeginOne t.stage.sections s.stage.sections
        behind = stop_begins q limits b s.stage.sections y g t (other_way s.stage.sections b before)

        by : Ways q limits s.stage t.stage → (a ≡ b) × (x ≡ y) × (f ≡ g)
        by (inl same) =
            let leaves = subst (λ (u : Stage). Leaves q limits u b (refused g y)) (sym same) t.leaves in
            let both = one_outcome q limits s.stage a b (refused f x) (refused g y) s.leaves leaves one in
            let e = both.1 in
            (both.0, cc, cc)
        by (inr (inl further)) = absurd (not_refused q limits s.stage t.stage a f x s.leaves further (other_way t.stage.sections a after))
        by (inr (inr further)) = absurd (not_refused q limits t.stage s.stage b g y t.leaves further (other_way s.stage.sections b before))

-- where one comes nothing is wanted behind it
pub refused_up_to : RefusedIsNotUpTo
refused_up_to q limits a rest b x y f at e due h up = stops (is_stop q limits a x f due h)
  where
    shorter : length a ≤ length b
    shorter = no_longer a b (rest, sym e)

    stops : IsStop q limits a x f → ⊥
    stops s = by (ways q limits s.stage (up_to_stage q limits b y at up) s.reached up.reached (stop_begins q limits a b x f s (begin_more a rest b e)))
      where
        by : Ways q limits s.stage (up_to_stage q limits b y at up) → ⊥
        by (inl same) =
            let longer = more_shown q limits b y at up a (refused f x) (subst (λ (u : Stage). Leaves q limits u a (refused f x)) same s.leaves) in
            omega (arith, shorter, longer)
        by (inr (inl further)) = not_refused q limits s.stage (up_to_stage q limits b y at up) a f x s.leaves further (begin_more a rest b e)
        by (inr (inr further)) =
            let longer = more_further q limits b y at up s.stage further in
            let least = no_longer s.stage.sections a (leaves_begin q limits s.stage a (refused f x) s.leaves) in
            omega (arith, shorter, longer, least)

-- and where all came it is that of one more
pub refused_through : RefusedIsOneMore
refused_through q limits a b x y f one due h through = stops (is_stop q limits a x f due h)
  where
    surplus : Leaves q limits (through_stage q limits b y through) a (refused f x) → IsOneMore a b f × (x ≡ y)
    surplus (inl block) = absurd (none_wanted q limits (through_stage q limits b y through) a (refused f x) refl block)
    surplus (inr more) =
        let e = more.outcome_is in
        let text : x ≡ written_whole q through.given = cc in
        (record { section = more.section; more = more.shown_are; fault_is = cc }, text ∙ sym through.text)

    stops : IsStop q limits a x f → IsOneMore a b f × (x ≡ y)
    stops s = by (ways q limits s.stage (through_stage q limits b y through) s.reached through.reached (stop_begins q limits a b x f s one))
      where
        by : Ways q limits s.stage (through_stage q limits b y through) → IsOneMore a b f × (x ≡ y)
        by (inl same) = surplus (subst (λ (u : Stage). Leaves q limits u a (refused f x)) same s.leaves)
        by (inr (inl further)) = absurd (not_refused q limits s.stage (through_stage q limits b y through) a f x s.leaves further one)
        by (inr (inr further)) = absurd (none_further q limits (through_stage q limits b y through) s.stage refl further)

-- one place is wanted behind sections
pub up_to_once : UpToOnce
up_to_once q limits sections x y at other h k =
    by (ways q limits (up_to_stage q limits sections x at h) (up_to_stage q limits sections y other k) h.reached k.reached (begin_more sections [] sections (append-nil sections)))
  where
    by : Ways q limits (up_to_stage q limits sections x at h) (up_to_stage q limits sections y other k) → (x ≡ y) × (at ≡ other)
    by (inl same) =
        let tasks = ap (λ (s : Stage). s.tasks) same in
        let want : at.want ≡ other.want = cc in
        let cid : at.cid ≡ other.cid = cc in
        (h.text ∙ ap (λ (s : Stage). s.given.text) same ∙ sym k.text, λ i. record { want = want i; cid = cid i })
    by (inr (inl further)) =
        let longer = more_further q limits sections x at h (up_to_stage q limits sections y other k) further in
        absurd (omega (arith, longer))
    by (inr (inr further)) =
        let longer = more_further q limits sections y other k (up_to_stage q limits sections x at h) further in
        absurd (omega (arith, longer))

-- all that come are told by the query
pub through_once : ThroughOnce
through_once q limits a b x y one h k = by (ways q limits (through_stage q limits a x h) (through_stage q limits b y k) h.reached k.reached one)
  where
    by : Ways q limits (through_stage q limits a x h) (through_stage q limits b y k) → (a ≡ b) × (x ≡ y)
    by (inl same) = (ap (λ (s : Stage). s.sections) same, h.text ∙ ap (λ (s : Stage). written_whole q s.given) same ∙ sym k.text)
    by (inr (inl further)) = absurd (none_further q limits (through_stage q limits a x h) (through_stage q limits b y k) refl further)
    by (inr (inr further)) = absurd (none_further q limits (through_stage q limits b y k) (through_stage q limits a x h) refl further)

-- where all came nothing is wanted
pub through_up_to : ThroughIsNotUpTo
through_up_to q limits a rest b x y at e h k =
    by (ways q limits (through_stage q limits a x h) (up_to_stage q limits b y at k) h.reached k.reached (begin_more a rest b e))
  where
    by : Ways q limits (through_stage q limits a x h) (up_to_stage q limits b y at k) → ⊥
    by (inl same) = let tasks : [] ≡ open_block at.want at.cid ∷ k.later = ap (λ (s : Stage). s.tasks) same in absurd cc
    by (inr (inl further)) = none_further q limits (through_stage q limits a x h) (up_to_stage q limits b y at k) refl further
    by (inr (inr further)) =
        let longer = more_further q limits b y at k (through_stage q limits a x h) further in
        let shorter = no_longer a b (rest, sym e) in
        omega (arith, longer, shorter)

-- ---- and all of them

pub sections_once : SectionLaws
sections_once = record {
  refused = refused_once;
  refused_up_to = refused_up_to;
  refused_through = refused_through;
  up_to = up_to_once;
  through = through_once;
  through_up_to = through_up_to;
  small = λ q limits sections x h. all_small q limits (through_stage q limits sections x h) h.reached;
}
