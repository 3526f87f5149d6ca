-- The block at the wanted place, as a walk opens it.
use Rattle.std.proofs.Common.{Err, List, Ok, Result, Some, ap, arith, inl, inr, refl, subst, sym, true, ℕ, ◌+◌, ◌<◌, ◌^◌, ◌∙◌, ◌≡◌, ◌≤◌, ◌⊎◌}
use Rattle.std.proofs.lemmas.Option.{same_Some}
use Rattle.tg_cid.specs.Cid.{CidParts}
use Rattle.tg_traversal.specs.Left.{IsReadAs, IsReadHere, LeftState, WantedAt}
use Rattle.tg_traversal.specs.SaidFaults.{either_said}
use Rattle.tg_walk.specs.Walks.{IsBadThere, IsWantedHere, fault_of_block}
use Rattle.tg_walk.specs.declared.fault.WalkFault.{WalkFault}
use Rattle.tg_walk.specs.declared.fault.WalkFault.TheVariants as faults
use Rattle.tg_model.specs.Dag.{Section}
use Rattle.tg_model.specs.declared.fault.BlockFault.{BlockFault}
use Rattle.tg_model.specs.declared.kinds.Kind.{Kind}
use Rattle.tg_model.specs.declared.placed.PlacedKind.{PlacedKind}
use Rattle.tg_model_laws.specs.StoreWalks.{section_of}
use Rattle.tg_model_laws.specs.Tasks.{depth_of, is_read_at}

-- what reading gives of the block there, in the wanted place's own words
abbrev pub Reading : LeftState → List ℕ → Result PlacedKind BlockFault → Type 0
Reading state block result = (at : WantedAt) → state.wanted ≡ Some at → is_read_at state.query at.want ≡ true → IsReadAs state.query at block result

same_cid : (state : LeftState) (cid : CidParts) (here : IsWantedHere state cid) (at : WantedAt) → state.wanted ≡ Some at → cid ≡ at.cid
same_cid state cid here at e = sym here.cid_is ∙ ap (λ (w : WantedAt). w.cid) (same_Some here.at at (sym here.wanted ∙ e))

bad_of : (state : LeftState) (at : WantedAt) (block : List ℕ) (fault : BlockFault) (given : WalkFault) → is_read_at state.query at.want ≡ true → given ≡ fault_of_block at.cid fault
    → IsReadAs state.query at block (Err fault) → (given ≡ faults.OutOfMemory) ⊎ ((bad : BlockFault) × (given ≡ faults.BadBlock at.cid bad) × IsBadThere state at block bad)
bad_of state at block fault given r g (inl e) = inl (g ∙ ap (fault_of_block at.cid) e)
bad_of state at block fault given r g (inr cause) = told (either_said faults.OutOfMemory faults.BadBlock at.cid fault)
  where
    told : (fault_of_block at.cid fault ≡ faults.OutOfMemory) ⊎ (fault_of_block at.cid fault ≡ faults.BadBlock at.cid fault)
        → (given ≡ faults.OutOfMemory) ⊎ ((bad : BlockFault) × (given ≡ faults.BadBlock at.cid bad) × IsBadThere state at block bad)
    told (inl e) = inl (g ∙ e)
    told (inr e) = inr (fault, g ∙ e, record { is_read = r; cause = cause })

pub bad_here : (state : LeftState) (cid : CidParts) (block : List ℕ) (fault : BlockFault) (result : Result PlacedKind BlockFault) (given : WalkFault)
    → IsWantedHere state cid → Reading state block result → ((at : WantedAt) → state.wanted ≡ Some at → is_read_at state.query at.want ≡ true) → result ≡ Err fault → given ≡ fault_of_block cid fault
    → (at : WantedAt) → state.wanted ≡ Some at → (given ≡ faults.OutOfMemory) ⊎ ((bad : BlockFault) × (given ≡ faults.BadBlock at.cid bad) × IsBadThere state at block bad)
bad_here state cid block fault result given here reads read e g at w =
    bad_of state at block fault given (read at w) (g ∙ ap (λ (c : CidParts). fault_of_block c fault) (same_cid state cid here at w))
    (subst (IsReadAs state.query at block) e (reads at w (read at w)))

-- it may be opened there
abbrev pub MayOpen : LeftState → PlacedKind → List ℕ → Type 0
MayOpen state found block = (at : WantedAt) × (section : Section) × (kind : Kind) × IsReadHere state at section kind found × (section.block ≡ block) × (depth_of at.want + 1 < 2 ^ 64)

may_open_at : (state : LeftState) (at : WantedAt) (block : List ℕ) (found : PlacedKind) → state.wanted ≡ Some at → depth_of at.want ≤ 1100
    → IsReadAs state.query at block (Ok found) → MayOpen state found block
may_open_at state at block found w d (kind, reads, fits, stands) =
    (at, section_of at.cid block, kind, record { wanted = w; cid = refl; reads = reads; fits = fits; stands = stands }, refl, omega (arith, d))

pub may_open : (state : LeftState) (cid : CidParts) (block : List ℕ) (found : PlacedKind) (result : Result PlacedKind BlockFault)
    → IsWantedHere state cid → Reading state block result → ((at : WantedAt) → state.wanted ≡ Some at → is_read_at state.query at.want ≡ true)
    → result ≡ Ok found → MayOpen state found block
may_open state cid block found result here reads read e =
    may_open_at state here.at block found here.wanted here.shallow (subst (IsReadAs state.query here.at block) e (reads here.at here.wanted (read here.at here.wanted)))
