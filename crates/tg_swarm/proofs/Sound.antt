-- What a swarm wrote, beside each sound DAG of its root.
use Rattle.std.proofs.Common.{List, Ok, [], append-nil, arith, inl, inr, refl, subst, suc, sym, zero, ℕ, ◌<◌, ◌∙◌, ◌≡◌, ◌≤◌, ◌⊎◌}
use Rattle.tg_cid.specs.Cid.{CidParts}
use Rattle.tg_fetch.specs.declared.client.Client.{Client}
use Rattle.tg_model.specs.Computed.{read}
use Rattle.tg_model.specs.Content.{content}
use Rattle.tg_model.specs.Dag.{Children, Dag, Section, bare, no_child, node, root_cid, unopened, with_child}
use Rattle.tg_model.specs.Fits.{CollisionPair}
use Rattle.tg_model.specs.Sound.{IsSound}
use Rattle.tg_model.specs.declared.kinds.Kind.{Kind}
use Rattle.tg_model.specs.declared.kinds.Kind.TheVariants.{Raw}
use Rattle.tg_model_laws.specs.FileSizes.{HasFileRoot}
use Rattle.tg_parts.specs.Connections.{AreAnswers, Connection, IsRootBlock, all_sections}
use Rattle.tg_parts.specs.Connections as connected
use Rattle.tg_parts.specs.PartLaws.{IsFrontByParts, PartsAreContent, RootIs, RootIsRead, SaysRoot}
use Rattle.tg_parts.specs.Parts.{part_count}
use Rattle.tg_swarm.specs.Jobs.{JobsState}
use Rattle.tg_swarm.specs.Laws.{FrontsAreSound, IsFrontOfFile, IsPlannedFor, SaysOfSwarm, SwarmsAreSound}
use Rattle.tg_swarm.specs.Swarms.{AnswersFor, Asked, IsPlanned, StandsFor, SwarmState, asked_of}
use Rattle.tg_swarm.specs.declared.swarm.Plan.{Plan}
use Rattle.tg_swarm.specs.declared.swarm.Plan.TheVariants as plans

-- nothing is a front of each
nothing_is : (d : Dag) → IsFrontOfFile [] d
nothing_is d = record { front = λ file. (content d, refl); none = λ no. refl }

-- the DAG is a file, and this is all of it
abbrev IsWhole : List ℕ → Dag → Type 0
IsWhole written d = HasFileRoot d × (written ≡ content d)

whole_front : (written : List ℕ) (d : Dag) → IsWhole written d → IsFrontOfFile written d
whole_front written d w = record { front = λ file. ([], sym w.1 ∙ sym (append-nil written)); none = λ no. absurd (no w.0) }

-- a raw root's block is the file
raw_content : (section : Section) (children : Children) → content (node section Raw children) ≡ section.block
raw_content section no_child = append-nil section.block
raw_content section (with_child d children) = append-nil section.block

raw_is : (block : List ℕ) (d : Dag) → RootIs Raw block d → IsWhole block d
raw_is block (unopened cid) is = absurd is
raw_is block (bare section fault) is = absurd is
raw_is block (node section kind children) is =
    subst (λ (k : Kind). IsWhole block (node section k children)) is.0 (tt, sym (raw_content section children ∙ is.1))

-- a front of the file, and all of it where this holds
abbrev SaysWhere : Type 0 → List ℕ → Dag → Type 0
SaysWhere Done written d = IsFrontOfFile written d × (Done → IsWhole written d)

-- ---- the root's block

raw_says : (root : CidParts) (connections : List Connection) (block : List ℕ) (d : Dag) (done : Type 0) → read root block ≡ Ok Raw
    → SaysRoot root block d ⊎ CollisionPair (all_sections connections) d
    → SaysWhere done block d ⊎ CollisionPair (all_sections connections) d
raw_says root connections block d done raw (inl says) =
    let whole : IsWhole block d = raw_is block d (says.read_as Raw raw) in
    inl (whole_front block d whole, λ e. whole)
raw_says root connections block d done raw (inr pair) = inr pair

root_written : RootIsRead → (root : CidParts) (connections : List Connection) (n : ℕ) (written : List ℕ) (d : Dag) → n ≤ 1
    → (n ≡ 1 → read root written ≡ Ok Raw) → AreAnswers (λ k text. IsRootBlock root connections text) n written → IsSound d
    → root_cid d ≡ root → SaysWhere (n ≡ 1) written d ⊎ CollisionPair (all_sections connections) d
root_written law root connections zero written d few raw connected.none sound named =
    inl (nothing_is d, λ e. absurd (omega (arith, e)))
root_written law root connections (suc zero) written d few raw (connected.more m before text connected.none block) sound named =
    raw_says root connections text d (suc zero ≡ 1) (raw refl) (law root connections text d block sound named)
root_written law root connections (suc (suc n)) written d few raw answers sound named = absurd (omega (arith, few))

-- ---- parts

parts_say : (root : CidParts) (connections : List Connection) (part total n : ℕ) (written : List ℕ) (d : Dag)
    → IsFrontByParts part total n written d ⊎ CollisionPair (all_sections connections) d
    → SaysWhere (n ≡ part_count part total) written d ⊎ CollisionPair (all_sections connections) d
parts_say root connections part total n written d (inl says) = inl (
  record { front = λ file. (says.rest, says.front); none = λ no. absurd (no says.says.file) },
  λ e. (says.says.file, says.all (omega (arith, e))),
)
parts_say root connections part total n written d (inr pair) = inr pair

-- ---- both

abbrev AreAll : ℕ → Plan → ℕ → Type 0
AreAll part plans.Root n = n ≡ 1
AreAll part (plans.Parts total) n = n ≡ part_count part total

by_plan : RootIsRead → PartsAreContent → (a : Asked) (plan : Plan) (n : ℕ) (written : List ℕ) (d : Dag) → 0 < a.part
    → IsPlannedFor a n written plan → AreAnswers (AnswersFor a.root a.part plan a.connections) n written → IsSound d → root_cid d ≡ a.root
    → SaysWhere (AreAll a.part plan n) written d ⊎ CollisionPair (all_sections a.connections) d
by_plan roots parts a plans.Root n written d some planned answers sound named =
    root_written roots a.root a.connections n written d planned.0 planned.1 answers sound named
by_plan roots parts a (plans.Parts total) n written d some planned answers sound named =
    parts_say a.root a.connections a.part total n written d
    (parts a.root a.part total n a.connections written d some planned answers sound named)

front_of : (sections : List Section) (done : Type 0) (written : List ℕ) (d : Dag) → SaysWhere done written d ⊎ CollisionPair sections d
    → IsFrontOfFile written d ⊎ CollisionPair sections d
front_of sections done written d (inl says) = inl says.0
front_of sections done written d (inr pair) = inr pair

pub fronts_are_sound : RootIsRead → PartsAreContent → FrontsAreSound
fronts_are_sound roots parts a n written d some planned answers sound named =
    front_of (all_sections a.connections) (AreAll a.part a.plan n) written d
    (by_plan roots parts a a.plan n written d some planned answers sound named)

-- ---- a swarm that stands for this

planned_for : (a : Asked) (plan : Plan) (jobs : JobsState Client) (written : List ℕ) → jobs.written ≤ jobs.count
    → IsPlanned a.root a.part plan jobs a.connections written → IsPlannedFor a jobs.written written plan
planned_for a plans.Root jobs written within planned = (omega (arith, within, planned.0), planned.2)
planned_for a (plans.Parts total) jobs written within planned = planned.0

all_done : (a : Asked) (plan : Plan) (jobs : JobsState Client) (written : List ℕ)
    → IsPlanned a.root a.part plan jobs a.connections written → jobs.written ≡ jobs.count → AreAll a.part plan jobs.written
all_done a plans.Root jobs written planned done = done ∙ planned.0
all_done a (plans.Parts total) jobs written planned done = done ∙ planned.1

swarm_says : (s : SwarmState) (connections : List Connection) (written : List ℕ) (d : Dag) → StandsFor s connections written
    → SaysWhere (AreAll s.part s.plan s.jobs.written) written d ⊎ CollisionPair (all_sections connections) d
    → SaysOfSwarm s written d ⊎ CollisionPair (all_sections connections) d
swarm_says s connections written d h (inl says) = inl (record {
  front = says.0;
  whole = λ done. says.1 (all_done (asked_of s connections) s.plan s.jobs written h.planned done);
})
swarm_says s connections written d h (inr pair) = inr pair

pub swarms_are_sound : RootIsRead → PartsAreContent → SwarmsAreSound
swarms_are_sound roots parts s connections written d some h sound named =
    swarm_says s connections written d h
    (by_plan roots parts (asked_of s connections) s.plan s.jobs.written written d some
    (planned_for (asked_of s connections) s.plan s.jobs written h.jobs.almost.within h.planned) h.answers sound named)
