-- The block at the wanted place, as it is opened.
use Rattle.std.proofs.Common.{List, None, Option, Some, ap, arith, refl, subst, sym, ℕ, ◌+◌, ◌++◌, ◌<◌, ◌^◌, ◌∙◌, ◌≡◌, ◌≤◌}
use Rattle.tg_traversal.specs.Left.{IsReadHere, LeftState, WantedAt, tasks_left}
use Rattle.tg_traversal.specs.PlaceTexts.{IsBlockHere}
use Rattle.tg_model.specs.Dag.{Section, links_of}
use Rattle.tg_model.specs.Placed.{StandsForKind}
use Rattle.tg_model.specs.declared.kinds.Kind.{Kind}
use Rattle.tg_model.specs.declared.placed.PlacedKind.{PlacedKind}
use Rattle.tg_model_laws.specs.Tasks.{depth_of, tasks_of, text_at}
use Rattle.tg_verify.specs.State.{OpenerState}
use Rattle.tg_verify.specs.Opening.{tasks_behind, text_of}
use Rattle.tg_verify.specs.Steps.{IsOpenedHere, IsPassingHere}

-- what passes as this kind
pub record IsHere (state : OpenerState) (at : WantedAt) (section : Section) (kind : Option Kind) (found : PlacedKind) (block : List ℕ) : Type 0 where
  pub as_kind : Kind
  pub is_kind : kind ≡ Some as_kind
  pub here : IsBlockHere state.left at section as_kind found block
  pub reads : IsReadHere state.left at section as_kind found
  pub shallow : depth_of at.want ≤ state.limits.depth

pub is_here : (state : OpenerState) (at : WantedAt) (section : Section) (kind : Option Kind) (found : PlacedKind) (block : List ℕ) → section.block ≡ block
    → IsPassingHere state at section kind (Some found) → IsHere state at section kind found block
is_here state at section None found block e here = absurd here.passing.stands
is_here state at section (Some kind) found block e here =
    let p = here.passing.passes.0 in
    record {
      as_kind = kind;
      is_kind = refl;
      here = record {
        wanted = here.wanted;
        fits = p.fits;
        block_at = record { block_is = e; stands = subst (λ (b : List ℕ). StandsForKind b found kind) e here.passing.stands };
      };
      reads = record { wanted = here.wanted; cid = here.same; reads = p.reads; fits = p.fits; stands = here.passing.stands };
      shallow = p.shallow;
    }

-- ---- what is asked of a found kind

-- what may be opened there
abbrev pub IsOneHere : OpenerState → Option PlacedKind → List ℕ → Type 0
IsOneHere state found block = (at : WantedAt) × (section : Section) × (kind : Option Kind) × IsPassingHere state at section kind found × (section.block ≡ block)

module _ (state : OpenerState) (given : Option PlacedKind) (found : PlacedKind) (block : List ℕ) (is_found : given ≡ Some found) where
  pub is_found_here : (at : WantedAt) (section : Section) (kind : Option Kind) → section.block ≡ block → IsPassingHere state at section kind given → IsHere state at section kind found block
  is_found_here at section kind e here = is_here state at section kind found block e (subst (λ (f : Option PlacedKind). IsPassingHere state at section kind f) is_found here)

  pub may_tell : IsOneHere state given block → (at : WantedAt) × (section : Section) × (kind : Kind) × IsBlockHere state.left at section kind found block
  may_tell (at, section, kind, here, e) = let h = is_found_here at section kind e here in (at, section, h.as_kind, h.here)

  pub may_open : state.limits.depth ≤ 512 → IsOneHere state given block
      → (at : WantedAt) × (section : Section) × (kind : Kind) × IsReadHere state.left at section kind found × (section.block ≡ block) × (depth_of at.want + 1 < 2 ^ 64)
  may_open most (at, section, kind, here, e) =
      let h = is_found_here at section kind e here in
      let shallow = h.shallow in
      (at, section, h.as_kind, h.reads, e, omega (arith, shallow, most))

-- ---- what it says, and what it leaves

-- the text that is told for it, and the tasks that are left behind it
abbrev pub Tells : LeftState → PlacedKind → List ℕ → List ℕ → Type 0
Tells state found block text = (at : WantedAt) (section : Section) (kind : Kind) → IsBlockHere state at section kind found block → text ≡ text_at state.query at.want section kind

abbrev pub Leaves : LeftState → PlacedKind → List ℕ → LeftState → Type 0
Leaves state found block new =
    (at : WantedAt) (section : Section) (kind : Kind) → IsReadHere state at section kind found → section.block ≡ block
    → tasks_left new ≡ tasks_of state.query at.want section kind (links_of kind) ++ state.later

pub read_here : (old new : OpenerState) (given : Option PlacedKind) (found : PlacedKind) (block text : List ℕ) → given ≡ Some found → Tells old.left found block text
    → Leaves old.left found block new.left → (at : WantedAt) (section : Section) (kind : Option Kind) → IsPassingHere old at section kind given → section.block ≡ block
    → IsOpenedHere old at section kind text new
read_here old new given found block text is_found tells leaves at section kind here e =
    let h = is_found_here old given found block is_found at section kind e here in
    record {
      said_is = tells at section h.as_kind h.here ∙ sym (ap (λ (k : Option Kind). text_of old.left.query at section k) h.is_kind);
      left = leaves at section h.as_kind h.reads e ∙ sym (ap (λ (k : Option Kind). tasks_behind old.left.query at section k ++ old.left.later) h.is_kind);
    }
