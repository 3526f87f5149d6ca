-- Of two stages that were reached with sections that begin one list, the one leads to the other.
use Rattle.std.proofs.Common.{◌≡◌, ◌⊎◌, ◌≤◌, ◌++◌, ◌∷◌, ℕ, All, Bool, List, [], true, false, length, inl, inr, refl, sym, ap, ◌∙◌, subst, arith, append_assoc, append-nil}
use Rattle.std.proofs.lemmas.List.{length-append}
use Rattle.std.proofs.lemmas.List.Elements.{All-nil}
use Rattle.tg_cut_laws.proofs.Outcomes.{Leaves, Outcome, goes_on, one_outcome, refused}
use Rattle.tg_cut_laws.proofs.Presented.{ComesIf}
use Rattle.tg_cut_laws.proofs.Stops.{on_leaves, small_next}
use Rattle.tg_cut_laws.specs.Sections.{BeginOne}
use Rattle.tg_model.specs.Dag.{Section}
use Rattle.tg_model.specs.LimitNumbers.{LimitNumbers}
use Rattle.tg_model.specs.Queries.{QueryParts}
use Rattle.tg_verify.specs.Reached.{IsOpenedAt, IsReached, Leads, LeadsOn, Stage, first}
use Rattle.tg_verify.specs.declared.fault.Refusal.{Refusal}

-- ---- lists that begin with others

-- the second begins with the first
abbrev pub Begins : {X : Type 0} → List X → List X → Type 0
Begins {X} a b = (rest : List X) × (b ≡ a ++ rest)

-- each with itself
pub begins_same : {X : Type 0} (a b : List X) → a ≡ b → Begins a b
begins_same {X} a b e = ([], sym e ∙ sym (append-nil a))

-- one with another through a third
pub begins_through : {X : Type 0} (a b c : List X) → Begins a b → Begins b c → Begins a c
begins_through {X} a b c (r, e) (s, d) = (r ++ s, d ∙ ap (λ (l : List X). l ++ s) e ∙ append_assoc a r s)

-- fronts of lists that begin one list begin it
pub fronts : {X : Type 0} (a b c d : List X) → Begins a c → Begins b d → BeginOne c d → BeginOne a b
fronts {X} a b c d (r, e) (s, f) h =
    record {
      a_more = r ++ h.a_more;
      b_more = s ++ h.b_more;
      one = sym (append_assoc a r h.a_more) ∙ ap (λ (l : List X). l ++ h.a_more) (sym e) ∙ h.one ∙ ap (λ (l : List X). l ++ h.b_more) f ∙ append_assoc b s h.b_more;
    }

-- so do the lists the other way round
pub other_way : {X : Type 0} (a b : List X) → BeginOne a b → BeginOne b a
other_way a b h = record { a_more = h.b_more; b_more = h.a_more; one = sym h.one }

-- a front is no longer
pub no_longer : {X : Type 0} (a b : List X) → Begins a b → length a ≤ length b
no_longer {X} a b (r, e) =
    let both = length-append a r in
    let same = ap (λ (l : List X). length l) e in
    omega (arith, both, same)

-- ---- from stage to stage

-- what is shown where a stage leaves begins with what was taken
pub leaves_begin : (q : QueryParts) (limits : LimitNumbers) (stage : Stage) (shown : List Section) (o : Outcome) → Leaves q limits stage shown o → Begins stage.sections shown
leaves_begin q limits stage shown o (inr h) = (h.section ∷ [], h.shown_are)
leaves_begin q limits stage shown o (inl h) = by h.sends h.comes.comes
  where
    by : (b : Bool) → ComesIf b stage.sections h.at h.section shown → Begins stage.sections shown
    by true are = (h.section ∷ [], are)
    by false had = begins_same stage.sections shown (sym had.shown_are)

-- sections of the next stage begin with those of the one before
next_begins : (q : QueryParts) (limits : LimitNumbers) (before after : Stage) → IsOpenedAt q limits before after → LeadsOn q limits after → Begins before.sections after.sections
next_begins q limits before after h on = leaves_begin q limits before after.sections (goes_on after) (on_leaves q limits before after h on)

-- and so do those of each later stage
pub leads_begin : (q : QueryParts) (limits : LimitNumbers) (from : Stage) (stages : List Stage) (to : Stage) → Leads q limits from stages to → Begins from.sections to.sections
leads_begin q limits from [] to h = begins_same from.sections to.sections (ap (λ (s : Stage). s.sections) h)
leads_begin q limits from (next ∷ stages) to (opened, on, leads) =
    begins_through from.sections next.sections to.sections (next_begins q limits from next opened on) (leads_begin q limits next stages to leads)

-- ---- ways

-- one stage leads to the other through a next one
pub record LeadsFurther (q : QueryParts) (limits : LimitNumbers) (from to : Stage) : Type 0 where
  pub next : Stage
  pub opened : IsOpenedAt q limits from next
  pub on : LeadsOn q limits next
  pub stages : List Stage
  pub leads : Leads q limits next stages to

-- they are one, or one leads to the other
abbrev pub Ways : QueryParts → LimitNumbers → Stage → Stage → Type 0
Ways q limits a b = (a ≡ b) ⊎ (LeadsFurther q limits a b ⊎ LeadsFurther q limits b a)

-- the stages that a stage leads on to with sections that begin one list are one
one_step : (q : QueryParts) (limits : LimitNumbers) (from a b : Stage) → IsOpenedAt q limits from a → LeadsOn q limits a → IsOpenedAt q limits from b → LeadsOn q limits b
    → BeginOne a.sections b.sections → a ≡ b
one_step q limits from a b x on y leads h =
    let same = one_outcome q limits from a.sections b.sections (goes_on a) (goes_on b) (on_leaves q limits from a x on) (on_leaves q limits from b y leads) h in
    let e = same.1 in
    cc

-- from one stage
ways_from : (q : QueryParts) (limits : LimitNumbers) (from : Stage) (stages others : List Stage) (a b : Stage) → Leads q limits from stages a → Leads q limits from others b
    → BeginOne a.sections b.sections → Ways q limits a b
ways_from q limits from [] [] a b h g one = inl (sym h ∙ g)
ways_from q limits from [] (next ∷ others) a b h (opened, on, leads) one =
    inr (inl (record { next = next; opened = subst (λ (s : Stage). IsOpenedAt q limits s next) h opened; on = on; stages = others; leads = leads }))
ways_from q limits from (next ∷ stages) [] a b (opened, on, leads) g one =
    inr (inr (record { next = next; opened = subst (λ (s : Stage). IsOpenedAt q limits s next) g opened; on = on; stages = stages; leads = leads }))
ways_from q limits from (next ∷ stages) (other ∷ others) a b (opened, on, leads) (opens, goes, way) one =
    let begin = fronts next.sections other.sections a.sections b.sections (leads_begin q limits next stages a leads) (leads_begin q limits other others b way) one in
    let same = one_step q limits from next other opened on opens goes begin in
    ways_from q limits next stages others a b leads (subst (λ (s : Stage). Leads q limits s others b) (sym same) way) one

-- of all that were reached
pub ways : (q : QueryParts) (limits : LimitNumbers) (a b : Stage) → IsReached q limits a → IsReached q limits b → BeginOne a.sections b.sections → Ways q limits a b
ways q limits a b h g one = ways_from q limits (first q) h.stages g.stages a b h.leads g.leads one

-- what comes of a stage that leads further
pub further_leaves : (q : QueryParts) (limits : LimitNumbers) (a b : Stage) (h : LeadsFurther q limits a b) → Leaves q limits a h.next.sections (goes_on h.next)
further_leaves q limits a b h = on_leaves q limits a h.next h.opened h.on

-- nothing is refused there with sections that begin one list with those of the other
pub not_refused : (q : QueryParts) (limits : LimitNumbers) (a b : Stage) (shown : List Section) (fault : Refusal) (text : List ℕ) → Leaves q limits a shown (refused fault text)
    → LeadsFurther q limits a b → BeginOne shown b.sections → ⊥
not_refused q limits a b shown fault text h further one =
    let begin = fronts shown further.next.sections shown b.sections (begins_same shown shown refl) (leads_begin q limits further.next further.stages b further.leads) one in
    let same = one_outcome q limits a shown further.next.sections (refused fault text) (goes_on further.next) h (further_leaves q limits a b further) begin in
    let e = same.1 in
    absurd (cc e)

-- ---- sections that were taken are small

-- from stage to stage
small_from : (q : QueryParts) (limits : LimitNumbers) (from : Stage) (stages : List Stage) (to : Stage) → Leads q limits from stages to
    → All (λ section. length section.block ≤ limits.block) from.sections → All (λ section. length section.block ≤ limits.block) to.sections
small_from q limits from [] to h small = subst (λ (s : Stage). All (λ (section : Section). length section.block ≤ limits.block) s.sections) h small
small_from q limits from (next ∷ stages) to (opened, on, leads) small = small_from q limits next stages to leads (small_next q limits from next opened small)

-- of all that were reached
pub all_small : (q : QueryParts) (limits : LimitNumbers) (to : Stage) → IsReached q limits to → All (λ section. length section.block ≤ limits.block) to.sections
all_small q limits to h = small_from q limits (first q) h.stages to h.leads (All-nil (λ (section : Section). length section.block ≤ limits.block))
