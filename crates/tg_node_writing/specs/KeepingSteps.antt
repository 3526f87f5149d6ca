-- Steps of a store that keeps blocks, one behind another: what was kept in both, and what a fault leaves.
use Rattle.std.proofs.Common.{◌≡◌, ◌≤◌, ℕ, List, Option, None, Some, Result, Err, [], ◌++◌, refl, ◌∙◌, subst}
use Rattle.tg_cid.specs.declared.cid.Codec.{Codec}
use Rattle.tg_node_writing.specs.Keeping.{IsCountedBy, Keeps, KeepsBlock, StopsAfter}
use Rattle.tg_model_laws.specs.Stores.{KeepingJoins}
use Rattle.tg_model.specs.Dag.{Section}
use Rattle.tg_model.specs.Stores.{AreKeptAs, KeepMeaning, Keeping, KeepingQuiet, KeepingRose, KeptNothing, KeptSame}
use Rattle.tg_model.specs.Stores.{Store, kept_in}
use Rattle.tg_model.specs.declared.kinds.Made.{Made}
use Rattle.tg_model.specs.declared.stores.KeepFault.{KeepFault}
use Rattle.tg_model.specs.declared.stores.KeepFault.TheVariants as faults

-- steps of a keeper join
abbrev pub Joins : {S : Type 0} → KeepMeaning S → Type 0
Joins {S} m = (a b c : S) (u v : List Section) → m.kept a b u → m.kept b c v → m.kept a c (u ++ v)

pub keeps_both : {S : Type 0} → (m : KeepMeaning S) → Joins m → KeepingJoins → (a b c : S) (u v : List Section)
    → Keeps u (kept_in m a b) → Keeps v (kept_in m b c) → Keeps (u ++ v) (kept_in m a c)
keeps_both m joins stores a b c u v p q = record {
  kept = record {
    moved = joins a b c u v p.kept.moved q.kept.moved;
    stored = stores (m.stored a) (m.stored b) (m.stored c) u v p.kept.stored q.kept.stored;
  };
  quiet = q.quiet ∙ p.quiet;
}

-- a count of a fault behind what was kept quietly
pub counted_on : (fault : KeepFault) (a b c : ℕ) → b ≡ a → IsCountedBy fault b c → IsCountedBy fault a c
counted_on fault a b c e h = subst (λ (n : ℕ). IsCountedBy fault n c) e h

pub stops_behind : {S : Type 0} → (m : KeepMeaning S) → Joins m → KeepingJoins
    → (a b c : S) (u v : List Section) (fault : KeepFault)
    → Keeps u (kept_in m a b) → StopsAfter v fault (kept_in m b c) → StopsAfter (u ++ v) fault (kept_in m a c)
stops_behind m joins stores a b c u v fault p q = record {
  moved = joins a b c u v p.kept.moved q.moved;
  between = q.between;
  stored = stores (m.stored a) (m.stored b) q.between u v p.kept.stored q.stored;
  left = q.left;
  counted = counted_on fault (m.faults a) (m.faults b) (m.faults c) p.quiet q.counted;
}

-- nothing kept
nothing_as : (told : Option Store) → AreKeptAs told told []
nothing_as None = refl
nothing_as (Some store) = refl

pub keeps_nothing : {S : Type 0} → (m : KeepMeaning S) → ((s : S) → m.kept s s []) → (s : S) → Keeps [] (kept_in m s s)
keeps_nothing m rests s = record { kept = record { moved = rests s; stored = nothing_as (m.stored s) }; quiet = refl }

-- a count that rose behind what was kept quietly
pub counted_behind : (a b c : ℕ) → b ≡ a → b ≤ c → a ≤ c
counted_behind a b c e h = subst (λ (n : ℕ). n ≤ c) e h

-- a fault of one call
failed_stops : (keeping : Keeping) → KeepingRose keeping → KeptNothing keeping → StopsAfter [] faults.Failed keeping
failed_stops keeping rose nothing = record { moved = nothing.moved; between = keeping.stored_old; stored = nothing_as keeping.stored_old; left = nothing.stored; counted = rose }

pub memory_stops : (keeping : Keeping) → KeptSame keeping → KeepingQuiet keeping
    → StopsAfter [] faults.OutOfMemory keeping
memory_stops keeping same quiet = record { moved = same.moved; between = keeping.stored_old; stored = nothing_as keeping.stored_old; left = same.stored; counted = quiet }

pub call_stops : {T : Type 0} → (keeping : Keeping) (fault : KeepFault)
    → (◌≡◌ {A = Result T KeepFault} (Err fault) (Err faults.Failed) → KeepingRose keeping)
    → (◌≡◌ {A = Result T KeepFault} (Err fault) (Err faults.OutOfMemory) → KeptSame keeping × KeepingQuiet keeping) → KeptNothing keeping → StopsAfter [] fault keeping
call_stops keeping faults.Failed failed memory nothing = failed_stops keeping (failed refl) nothing
call_stops keeping faults.OutOfMemory failed memory nothing = let h = memory refl in memory_stops keeping h.0 h.1

pub same_stops : {S : Type 0} → (m : KeepMeaning S) → ((s : S) → m.kept s s []) → (s : S)
    → StopsAfter [] faults.OutOfMemory (kept_in m s s)
same_stops m rests s = memory_stops (kept_in m s s) (record { moved = rests s; stored = refl }) refl

-- a block that was kept, under equal numbers
pub keeps_as : (codec : Codec) (made : Made) (keeping : Keeping) (text block : List ℕ) (content content' tsizes tsizes' : ℕ) → text ≡ block → content ≡ content' → tsizes ≡ tsizes'
    → KeepsBlock codec text content tsizes made keeping → KeepsBlock codec block content' tsizes' made keeping
keeps_as codec made keeping text block content content' tsizes tsizes' p q r h =
    subst (λ (t : List ℕ). KeepsBlock codec t content' tsizes' made keeping) p
    (subst (λ (n : ℕ). KeepsBlock codec text n tsizes' made keeping) q (subst (λ (n : ℕ). KeepsBlock codec text content n made keeping) r h))
