-- Once all sections that fit, or are in progress, were taken.
use Rattle.std.proofs.Common.{◌≡◌, ◌++◌, ◌∷◌, ℕ, List, [], None, Option, Some, refl, sym, subst, true, ap, ◌∙◌, append-nil}
use Rattle.tg_cid.specs.Cid.{CidParts}
use Rattle.tg_traversal.specs.Left.{WantedAt, tasks_left, wanted_tasks}
use Rattle.tg_model.specs.Dag.{Dag, Section}
use Rattle.tg_model.specs.Fits.{Fits, IsInProgress, output_so_far}
use Rattle.tg_model.specs.Queries.{QueryParts}
use Rattle.tg_model.specs.Traversal.{is_sent_behind}
use Rattle.tg_model.specs.PathWalk.{Spot, TraversalEnd, gone, stopped, whole}
use Rattle.tg_model_laws.specs.Stages.{Given, up_to_next}
use Rattle.tg_model_laws.specs.Tasks.{Miss, Task, Want, no_directory, no_entry, open_block, spot_of, stop_of, tasks_then}
use Rattle.tg_model_laws.specs.Verified.{AreSettled, VerifiedLaws, WantsAt, written_whole}
use Rattle.tg_verify.specs.State.{VerifierState}
use Rattle.tg_verify.specs.Taken.{IsGoing, IsSentFor, IsWrittenAt}

-- ---- a segment that leads nowhere is neither of these ends

pub not_whole : (end : TraversalEnd) → end ≡ whole → (miss : Miss) → end ≡ stopped (stop_of miss) → ⊥
not_whole end e miss h = let both : whole ≡ stopped (stop_of miss) = sym e ∙ h in absurd (cc both)

pub not_gone : (end : TraversalEnd) (spot : Spot) → end ≡ stopped (gone spot) → (miss : Miss) → end ≡ stopped (stop_of miss) → ⊥
not_gone end spot e (no_entry i) h = let both : stopped (gone spot) ≡ stopped (stop_of (no_entry i)) = sym e ∙ h in absurd (cc both)
not_gone end spot e (no_directory i) h = let both : stopped (gone spot) ≡ stopped (stop_of (no_directory i)) = sym e ∙ h in absurd (cc both)

-- ---- a wanted block is sent

pub place_settled : (q : QueryParts) (sections : List Section) (w : Want) (cid : CidParts) (later : List (Task CidParts)) → is_sent_behind q sections cid ≡ true
    → AreSettled q sections (open_block w cid ∷ later)
place_settled q sections w cid later sends other that more e =
    let same : cid ≡ that = cc in
    subst (λ (one : CidParts). is_sent_behind q sections one ≡ true) same sends

-- or none is wanted
pub none_settled : (q : QueryParts) (sections : List Section) → AreSettled q sections []
none_settled q sections w cid more e = absurd (cc e)

-- ---- by the wanted place

-- nothing is given before it
same_given : (given : Given) → up_to_next {X = CidParts} [] given ≡ given
same_given given i = record { places = given.places; text = append-nil given.text i; met = append-nil given.met i }

module _ (state : VerifierState) (given : Given) (written : List ℕ) where
  abbrev left_at : Option WantedAt → List (Task CidParts)
  left_at wanted = wanted_tasks wanted ++ state.left.later

  ends_by : (wanted : Option WantedAt) (text : List ℕ) → state.left.wanted ≡ wanted → IsWrittenAt state given written wanted → tasks_then (left_at wanted) ≡ []
      → text ≡ written_whole state.left.query (up_to_next (left_at wanted) given) → (state.left.wanted ≡ None) × (written ≡ text)
  ends_by (Some at) text is h e t = absurd (cc e)
  ends_by None text is (none, all) e t =
      let whole_is : text ≡ written_whole state.left.query given =
      t ∙ ap (λ (tasks : List (Task CidParts)). written_whole state.left.query (up_to_next tasks given)) none ∙ ap (written_whole state.left.query) (same_given given) in
      (is, all ∙ sym whole_is)

  waits_by : (wanted : Option WantedAt) (spot : Spot) (text : List ℕ) → state.left.wanted ≡ wanted → IsWrittenAt state given written wanted → WantsAt (left_at wanted) spot
      → text ≡ (up_to_next (left_at wanted) given).text → (at : WantedAt) × (state.left.wanted ≡ Some at) × (spot_of at.want at.cid ≡ spot) × (written ≡ text)
  waits_by (Some at) spot text is (here, kept) h t =
      let e = h.then_is in
      let want : at.want ≡ h.want = cc in
      let cid : at.cid ≡ h.cid = cc in
      let same : spot_of at.want at.cid ≡ spot_of h.want h.cid = cc in
      (at, is, same ∙ h.spot_is, here ∙ sym (t ∙ append-nil given.text))
  waits_by None spot text is (none, all) h t =
      let e : tasks_then state.left.later ≡ open_block h.want h.cid ∷ h.more = h.then_is in
      let nothing : tasks_then state.left.later ≡ [] = ap (λ (tasks : List (Task CidParts)). tasks_then tasks) none in
      let both : open_block h.want h.cid ∷ h.more ≡ [] = sym e ∙ nothing in
      absurd (cc both)

  settled_by : (sections : List Section) (wanted : Option WantedAt) → IsSentFor state.left.query sections wanted → IsWrittenAt state given written wanted
      → AreSettled state.left.query sections (left_at wanted)
  settled_by sections (Some at) sends h = place_settled state.left.query sections at.want at.cid state.left.later sends
  settled_by sections None sends h =
      subst (λ (tasks : List (Task CidParts)). AreSettled state.left.query sections tasks) (sym h.0) (none_settled state.left.query sections)

module _ (v : VerifiedLaws) (state : VerifierState) (d : Dag) (sections : List Section) (written : List ℕ) (h : IsGoing state sections written) where
  is_settled : AreSettled state.left.query sections (tasks_left state.left)
  is_settled = settled_by state h.given written sections state.left.wanted h.sends h.writes

  pub fit_ends : (text : List ℕ) → Fits d state.left.query sections text → (state.left.wanted ≡ None) × (written ≡ text)
  fit_ends text fits =
      let (none, is) = v.fitting_ends state.left.query d sections text h.given (tasks_left state.left) is_settled fits h.verified in
      ends_by state h.given written state.left.wanted text refl h.writes none is

  pub progress_waits : (wanted : Spot) → IsInProgress d state.left.query sections wanted
      → (at : WantedAt) × (state.left.wanted ≡ Some at) × (spot_of at.want at.cid ≡ wanted) × (written ≡ output_so_far state.left.query d)
  progress_waits wanted progress =
      let (wants, is) = v.in_progress_ends state.left.query d sections wanted h.given (tasks_left state.left) is_settled progress h.verified in
      waits_by state h.given written state.left.wanted wanted (output_so_far state.left.query d) refl h.writes wants is
