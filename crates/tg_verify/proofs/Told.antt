-- What sections lead to is so in each sound DAG with the query's root.
use Rattle.std.proofs.Common.{[], Err, List, None, Ok, Option, Some, ap, inl, inr, length, refl, subst, suc, sym, zero, ℕ, ◌+◌, ◌++◌, ◌∙◌, ◌∷◌, ◌≡◌}
use Rattle.std.specs.Prelude.{IfOk, IfSome, Result, ⊤}
use Rattle.tg_cid.specs.Cid.{CidParts}
use Rattle.tg_model.specs.Dag.{AreWhole, Children, Dag, IsWhole, Section, bare, no_child, node, unopened, with_child}
use Rattle.tg_model.specs.Ends.{EndsAlike}
use Rattle.tg_model.specs.Lookup.{LookupEnd, lookup_path}
use Rattle.tg_model.specs.Lookup as lookups
use Rattle.tg_model.specs.PathWalk.{PathEnd, PathWalk, Spot, StepTo, absent, not_folder_here, not_reached, path_walk, spot_at, step_of, terminal, to_child, to_entry, unless_misfit, walk_child, walk_from, walk_step, whole}
use Rattle.tg_model.specs.Queries.{QueryParts}
use Rattle.tg_model.specs.Reading.{Reads}
use Rattle.tg_model.specs.Sound.{AreCheckedAt, IsCheckedAt, IsSound, Position, passed, position_fault, positions, top}
use Rattle.tg_model.specs.Traversal.{Place, Traversal, from_end, traversal, walk_places}
use Rattle.tg_model.specs.declared.fault.BlockFault.{BlockFault}
use Rattle.tg_model.specs.declared.kinds.Kind.{Kind}
use Rattle.tg_model.specs.declared.queries.Scope.{Scope}
use Rattle.tg_model.specs.declared.queries.Scope.TheVariants as scopes
use Rattle.tg_model_laws.specs.BesideSound.{BesideLaws, IsBeside}
use Rattle.tg_model_laws.specs.Stages.{Given, ending}
use Rattle.tg_model_laws.specs.Tasks.{Task}
use Rattle.tg_model_laws.specs.Verified.{VerifiedLaws}
use Rattle.tg_traversal.specs.Left.{WantedAt, wanted_tasks}
use Rattle.tg_verify.proofs.Fronts.{pair_more}
use Rattle.tg_verify.proofs.Misread.{Computes}
use Rattle.tg_verify.specs.History.{IsProgress, StandsAfter}
use Rattle.tg_verify.specs.State.{VerifierState}
use Rattle.tg_verify.specs.Taken.{IsWrittenAt}
use Rattle.tg_verify.specs.Terminals.{IsTerminalIn, IsTerminalOf, IsTerminalTold, IsToldIn, IsToldThen, LeadsTo, TerminalsTold, block_query, terminal_kind}
use Rattle.tg_verify.specs.declared.fault.Refusal.{Refusal}
use Rattle.tg_verify.specs.declared.terminal.Terminal.{Terminal}
use Rattle.tg_verify.specs.declared.verifier.Progress.{Progress}
use Rattle.tg_verify.specs.declared.verifier.Progress.TheVariants as progresses

-- ---- the last of a list

none_pushed : {A : Type 0} (ys : List A) (y : A) → [] ≡ ys ++ y ∷ [] → ⊥
none_pushed [] y e = cc e
none_pushed (b ∷ ys) y e = cc e

last_same : {A : Type 0} (xs ys : List A) (x y : A) → xs ++ x ∷ [] ≡ ys ++ y ∷ [] → x ≡ y
last_same [] [] x y e = cc
last_same {A} [] (b ∷ ys) x y e = let rest : [] ≡ ys ++ y ∷ [] = cc in absurd (none_pushed ys y rest)
last_same {A} (a ∷ xs) [] x y e = let rest : [] ≡ xs ++ x ∷ [] = cc in absurd (none_pushed xs x rest)
last_same (a ∷ xs) (b ∷ ys) x y e = let rest : xs ++ x ∷ [] ≡ ys ++ y ∷ [] = cc in last_same xs ys x y rest

-- ---- the terminal of a walk over a sound DAG

-- a part of a DAG, all opened and right, wherever it stands
record IsPart (d : Dag) : Type 0 where
  whole : IsWhole d
  position : Position
  checked : IsCheckedAt position d

record AreParts (children : Children) : Type 0 where
  whole : AreWhole children
  places : List Position
  checked : AreCheckedAt places children

first_part : (d : Dag) (children : Children) → AreParts (with_child d children) → IsPart d
first_part d children p = by p.places p.checked
  where
    by : (places : List Position) → AreCheckedAt places (with_child d children) → IsPart d
    by [] c = absurd c
    by (position ∷ places) c = record { whole = p.whole.0; position = position; checked = c.0 }

other_parts : (d : Dag) (children : Children) → AreParts (with_child d children) → AreParts children
other_parts d children p = by p.places p.checked
  where
    by : (places : List Position) → AreCheckedAt places (with_child d children) → AreParts children
    by [] c = absurd c
    by (position ∷ places) c = record { whole = p.whole.1; places = places; checked = c.1 }

abbrev EndIsPart : PathEnd → Type 0
EndIsPart (terminal d) = IsPart d
EndIsPart (not_reached stop) = ⊤

fitting : (section : Section) (spot : Spot) (fault : Option BlockFault) (walk : PathWalk) → EndIsPart walk.end → EndIsPart (unless_misfit section spot fault walk).end
fitting section spot None walk p = p
fitting section spot (Some fault) walk p = tt

stepped : (i : ℕ) (entry_walk child_walk : ℕ → PathWalk) (step : StepTo) → ((k : ℕ) → EndIsPart (entry_walk k).end) → ((k : ℕ) → EndIsPart (child_walk k).end)
    → EndIsPart (walk_step i entry_walk child_walk step).end
stepped i entry_walk child_walk (to_entry k) e c = e k
stepped i entry_walk child_walk (to_child k) e c = c k
stepped i entry_walk child_walk absent e c = tt
stepped i entry_walk child_walk not_folder_here e c = tt

mutual
  walk_part : (i : ℕ) (position : Position) (depth : ℕ) (path : List (List ℕ)) (d : Dag) → IsPart d → EndIsPart (walk_from i position depth path d).end
  walk_part i position depth path (unopened cid) p = tt
  walk_part i position depth path (bare section fault) p = absurd p.whole
  walk_part i position depth [] (node section kind children) p = p
  walk_part i position depth (name ∷ path) (node section kind children) p =
      let below : AreParts children = record { whole = p.whole; places = positions p.position kind; checked = p.checked.1 } in
      fitting section (spot_at section.cid depth position) (position_fault position kind) _
      (stepped i _ _ (step_of kind (length (passed position)) name)
      (λ k. child_part k (i + 1) top (depth + 1) path children below)
      (λ k. child_part k i _ (depth + 1) (name ∷ path) children below))

  child_part : (k i : ℕ) (position : Position) (depth : ℕ) (path : List (List ℕ)) (children : Children) → AreParts children → EndIsPart (walk_child k i position depth path children).end
  child_part k i position depth path no_child p = tt
  child_part zero i position depth path (with_child d children) p = walk_part i position depth path d (first_part d children p)
  child_part (suc k) i position depth path (with_child d children) p = child_part k i position depth path children (other_parts d children p)

-- ---- what is told of it

-- a path walk and a look-up end alike
abbrev pub EndAlike : Type 0
EndAlike = (d : Dag) (path : List (List ℕ)) → IsSound d → EndsAlike (path_walk path d).end (lookup_path path d)

found_there : (x : Dag) (end : LookupEnd) → EndsAlike (terminal x) end → end ≡ lookups.found x
found_there x (lookups.found other) e = ap lookups.found (sym e)
found_there x (lookups.not_there i) e = absurd e
found_there x (lookups.not_folder i) e = absurd e

module _ (v : VerifiedLaws) (b : BesideLaws) (computes : Computes) (alike : EndAlike) (q : QueryParts) (sections : List Section) (t : Terminal) (h : LeadsTo q sections t) (d : Dag) (sound : IsSound d) where
  -- the same block is read as one kind
  same_kind : (section : Section) (kind : Kind) → section ≡ h.last.section → Reads section.cid section.block kind → t ≡ terminal_kind kind
  same_kind section kind e reads =
      let here : Reads h.last.section.cid h.last.section.block kind = subst (λ (s : Section). Reads s.cid s.block kind) e reads in
      let ok : Ok kind ≡ Ok h.kind = sym ((computes h.last.section.cid h.last.section.block kind h.is_named.are_bytes).1 here) ∙ h.reads in
      let same : kind ≡ h.kind = cc in
      h.told ∙ sym (ap terminal_kind same)

  abbrev walk : PathWalk
  walk = path_walk q.path d

  -- what comes at the end of the walk
  abbrev below : PathEnd → Traversal
  below end = from_end end scopes.Block q.span (length walk.sections + 1)

  by_terminal : (x : Dag) → walk.end ≡ terminal x → IsPart x → walk_places 1 walk.sections ++ (below (terminal x)).places ≡ h.given.places → IsTerminalOf d q.path t
  by_terminal (unopened cid) e p places = absurd p.whole
  by_terminal (bare section fault) e p places = absurd p.whole
  by_terminal (node section kind children) e p places =
      let place : Place = record { section = section; depth = length walk.sections + 1 } in
      let last : place ≡ h.last = last_same (walk_places 1 walk.sections) h.before place h.last (places ∙ h.places) in (
        node section kind children,
        found_there (node section kind children) (lookup_path q.path d) (subst (λ (end : PathEnd). EndsAlike end (lookup_path q.path d)) e (alike d q.path sound)),
        same_kind section kind (ap (λ (p : Place). p.section) last) p.checked.0.reads,
      )

  by_end : (end : PathEnd) → walk.end ≡ end → EndIsPart end → walk_places 1 walk.sections ++ (below end).places ≡ h.given.places → (below end).end ≡ whole → IsTerminalOf d q.path t
  by_end (terminal x) e p places came = by_terminal x e p places
  by_end (not_reached stop) e p places came = absurd (cc came)

  told_beside : IsBeside (block_query q) d h.given [] → IsTerminalOf d q.path t
  told_beside beside =
      let ends : traversal (block_query q) d ≡ ending h.given whole = b.done (block_query q) d h.given beside in
      by_end walk.end refl (walk_part 0 top 1 q.path d (record { whole = sound.whole; position = top; checked = sound.checked })) (ap (λ (t : Traversal). t.places) ends)
      (ap (λ (t : Traversal). t.end) ends)

pub terminals_told : VerifiedLaws → BesideLaws → Computes → EndAlike → TerminalsTold
terminals_told v b computes alike q sections t h d sound root = elim (v.beside (block_query q) d h.front h.given [] sound root h.verified) [
  | inl beside ↦ inl (told_beside v b computes alike q sections t h d sound beside)
  | inr pair ↦ inr (pair_more v.pair_of_some h.front sections h.rest d h.whole pair)
]

-- of what may be told
pub any_told : TerminalsTold → (q : QueryParts) (sections : List Section) (t : Option Terminal) → IfSome t (LeadsTo q sections) → IsTerminalTold q sections t
any_told law q sections None h = tt
any_told law q sections (Some t) h = law q sections t h

-- ---- once all came

reached_in : (scope : Scope) (q : QueryParts) (sections : List Section) (given : Given) (tasks : List (Task CidParts)) (t : Option Terminal) → tasks ≡ [] → IsTerminalIn scope q sections given tasks t
    → IsToldIn scope t
reached_in scopes.Block q sections given tasks t none h = tt
reached_in scopes.Entity q sections given tasks t none h =
    λ e. (subst (λ (o : Option Terminal). IsTerminalIn scopes.Entity q sections given [] o) e (subst (λ (ts : List (Task CidParts)). IsTerminalIn scopes.Entity q sections given ts t) none h)).1
reached_in scopes.All q sections given tasks t none h =
    λ e. (subst (λ (o : Option Terminal). IsTerminalIn scopes.All q sections given [] o) e (subst (λ (ts : List (Task CidParts)). IsTerminalIn scopes.All q sections given ts t) none h)).1

pub told_then : (state : VerifierState) (sections : List Section) (written : List ℕ) (result : Result Progress Refusal) → StandsAfter result state sections written
    → IfOk result (λ progress. IsProgress progress state) → IsToldThen state.left.query state.terminal result
told_then state sections written (Ok progresses.More) h progress = tt
told_then state sections written (Ok progresses.Done) h progress =
    let writes = subst (λ (w : Option WantedAt). IsWrittenAt state h.given written w) progress h.writes in
    let none = ap (λ (w : Option WantedAt). wanted_tasks w ++ state.left.later) progress ∙ writes.0 in
    reached_in state.left.query.scope state.left.query sections h.given _ state.terminal none h.terminal
told_then state sections written (Err fault) h progress = tt
