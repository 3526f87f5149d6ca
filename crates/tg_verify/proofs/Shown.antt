-- What was taken of a query's sections, what is written for them, and both beside a sound DAG.
use Rattle.std.proofs.Common.{◌≡◌, ◌⊎◌, ◌++◌, ◌∷◌, ℕ, List, [], Some, inl, inr, ⊎_elim, refl, sym, ap, ◌∙◌, subst}
use Rattle.tg_cid.specs.Cid.{CidParts}
use Rattle.tg_traversal.specs.Left.{WantedAt}
use Rattle.tg_model_laws.specs.PartialDags.{WriteFronts}
use Rattle.tg_model.specs.Answer.{answer}
use Rattle.tg_model.specs.Dag.{Dag, Section, root_cid}
use Rattle.tg_model.specs.Ends.{StopsAlike}
use Rattle.tg_model.specs.Fits.{CollisionPair, Fits, IsFrontOfAnswer, IsInProgress, IsOpenedFor, output_so_far}
use Rattle.tg_model.specs.Lookup.{LookupEnd, lookup_path}
use Rattle.tg_model.specs.Lookup as lookups
use Rattle.tg_model.specs.PathWalk.{Spot, not_folder, not_there, stopped}
use Rattle.tg_model.specs.Queries.{QueryParts}
use Rattle.tg_model.specs.Sound.{IsSound}
use Rattle.tg_model.specs.Traversal.{Traversal, block_list, traversal}
use Rattle.tg_model_laws.specs.Stages.{Given, up_to_next}
use Rattle.tg_model_laws.specs.TakenBlocks.{opened_by}
use Rattle.tg_model.specs.LimitNumbers.{LimitNumbers}
use Rattle.tg_model_laws.specs.Tasks.{Miss, Task, Want, no_directory, no_entry, open_block, spot_of, stop_at, tasks_then, text_now}
use Rattle.tg_model_laws.specs.Verified.{GoesOn, IsAccepted, LeadsNowhere, Then, Verified, VerifiedLaws, listing_at_end, then_block, then_none, then_stop, written_whole}
use Rattle.tg_verify.proofs.EachAsked.{each_asked, each_verified}
use Rattle.tg_verify.proofs.Fronts.{front_of_front, whole_is_front}
use Rattle.tg_verify.specs.Laws.{IsFitOf, IsNowhereOf, IsProgressOf}
use Rattle.tg_verify.specs.Sound.{IsItsAnswer, IsItsFront}
use Rattle.tg_verify.specs.Taken.{IsFrontWritten, IsNowhere, IsThrough, IsUnlisted, IsUpTo, most_text}

-- of sections against every peer
pub record PeerLaws : Type 0 where
  pub accepted : (q : QueryParts) (d s : Dag) (sections : List Section) (out : List ℕ) → IsSound d → root_cid d ≡ q.root → Fits s q sections out
      → ((sections ≡ block_list q d) × (answer q d ≡ Some out)) ⊎ CollisionPair sections d
  pub written : WriteFronts
  pub meanwhile : (q : QueryParts) (d s : Dag) (sections : List Section) (wanted : Spot) → IsSound d → root_cid d ≡ q.root → IsInProgress s q sections wanted
      → IsFrontOfAnswer (output_so_far q s) (answer q d) ⊎ CollisionPair sections d
  pub absent : (q : QueryParts) (d s : Dag) (i : ℕ) → IsSound d → root_cid d ≡ q.root → IsOpenedFor s q → (traversal q s).end ≡ stopped (not_there i)
      → StopsAlike (not_there i) (lookup_path q.path d) ⊎ CollisionPair (block_list q s) d
  pub not_folder : (q : QueryParts) (d s : Dag) (i : ℕ) → IsSound d → root_cid d ≡ q.root → IsOpenedFor s q → (traversal q s).end ≡ stopped (not_folder i)
      → StopsAlike (not_folder i) (lookup_path q.path d) ⊎ CollisionPair (block_list q s) d

-- ---- an answer is a front of itself

pub answer_front : (q : QueryParts) (d : Dag) (sections : List Section) (written : List ℕ) → IsItsAnswer q d sections written → IsItsFront q d sections written
answer_front q d sections written (inl e) = inl (whole_is_front (answer q d) written e)
answer_front q d sections written (inr pair) = inr pair

module _ (v : VerifiedLaws) where
  -- ---- what the sections are

  pub up_to_progress : (q : QueryParts) {limits : LimitNumbers} (sections : List Section) (written : List ℕ) (at : WantedAt) → IsUpTo q limits sections written at
      → IsProgressOf q sections written (spot_of at.want at.cid)
  up_to_progress q sections written at h =
      let goes : GoesOn q sections h.given (spot_of at.want at.cid) = v.goes q sections h.given at.want at.cid h.later h.sends h.verified in
      record { s = goes.s; progress = goes.progress; output = goes.output ∙ sym h.text }

  fits_whole : (q : QueryParts) (sections : List Section) (written : List ℕ) (given : Given) → Verified q sections given [] → written ≡ written_whole q given → IsFitOf q sections written
  fits_whole q sections written given verified text =
      let accepted : IsAccepted q sections given = v.fits q sections given verified in
      record { s = accepted.s; fits = subst (Fits accepted.s q sections) (sym text) accepted.fits }

  pub through_fits : (q : QueryParts) {limits : LimitNumbers} (sections : List Section) (written : List ℕ) → IsThrough q limits sections written → IsFitOf q sections written
  through_fits q sections written h = fits_whole q sections written h.given h.verified h.text

  stops_nowhere : (q : QueryParts) (sections : List Section) (written : List ℕ) (miss : Miss) (given : Given) (later : List (Task CidParts)) → Verified q sections given (stop_at miss ∷ later)
      → written ≡ given.text → IsNowhereOf q sections written miss
  stops_nowhere q sections written miss given later verified text =
      let leads : LeadsNowhere q sections given miss = v.misses q sections given miss later verified in
      record { s = leads.s; opened = leads.right; list = leads.list; end = ap (λ (t : Traversal). t.end) leads.gives; output = leads.output ∙ sym text }

  pub nowhere_leads : (q : QueryParts) {limits : LimitNumbers} (sections : List Section) (written : List ℕ) (miss : Miss) → IsNowhere q limits sections written miss → IsNowhereOf q sections written miss
  nowhere_leads q sections written miss h = stops_nowhere q sections written miss h.given h.later h.verified h.text

  -- ---- beside a sound DAG

  module _ (p : PeerLaws) (q : QueryParts) (d : Dag) (sound : IsSound d) (root : root_cid d ≡ q.root) (sections : List Section) where
    -- where a block is wanted, whether a section brings it or not: the same sections are in progress for a query for each
    -- block, which has the same answer
    pub given_front : (given : Given) (w : Want) (cid : CidParts) (later : List (Task CidParts)) → Verified q sections given (open_block w cid ∷ later)
        → IsItsFront q d sections given.text
    given_front given w cid later h =
        let all = each_asked q in
        let goes : GoesOn all (opened_by given) given (spot_of w cid) =
        v.goes all (opened_by given) given w cid later refl (each_verified q sections given (open_block w cid ∷ later) h) in
        ⊎_elim
        (λ front. inl (subst (λ (out : List ℕ). IsFrontOfAnswer out (answer q d)) goes.output front))
        (λ pair. inr (v.pair_had (opened_by given) sections d h.received pair))
        (p.meanwhile all d goes.s (opened_by given) (spot_of w cid) sound root goes.progress)

    pub up_to_sound : {limits : LimitNumbers} → (written : List ℕ) (at : WantedAt) → IsUpTo q limits sections written at → IsItsFront q d sections written
    up_to_sound written at h =
        subst (λ (out : List ℕ). IsItsFront q d sections out) (sym h.text) (given_front h.given at.want at.cid h.later h.verified)

    fit_sound : (written : List ℕ) → IsFitOf q sections written → IsItsAnswer q d sections written
    fit_sound written fit = ⊎_elim (λ both. inl both.1) (λ pair. inr pair) (p.accepted q d fit.s sections written sound root fit.fits)

    pub through_sound : {limits : LimitNumbers} → (written : List ℕ) → IsThrough q limits sections written → IsItsAnswer q d sections written
    through_sound written h = fit_sound written (through_fits q sections written h)

    -- where a segment leads nowhere

    module _ (written : List ℕ) (miss : Miss) (leads : IsNowhereOf q sections written miss) where
      -- what was sent are those sections
      of_sections : CollisionPair (block_list q leads.s) d → CollisionPair sections d
      of_sections pair = subst (λ (some : List Section). CollisionPair some d) leads.list pair

      nowhere_front_of : IsItsFront q d sections written
      nowhere_front_of = ⊎_elim
          (λ front. inl (subst (λ (out : List ℕ). IsFrontOfAnswer out (answer q d)) leads.output front))
          (λ pair. inr (of_sections pair))
          (p.written q d leads.s sound root leads.opened)

    pub nowhere_front : {limits : LimitNumbers} → (written : List ℕ) (miss : Miss) → IsNowhere q limits sections written miss → IsItsFront q d sections written
    nowhere_front written miss h = nowhere_front_of written miss (nowhere_leads q sections written miss h)

    not_there_alike : (i : ℕ) (end : LookupEnd) → StopsAlike (not_there i) end → end ≡ lookups.not_there i
    not_there_alike i (lookups.found t) h = absurd h
    not_there_alike i (lookups.not_there j) h = ap lookups.not_there (sym h)
    not_there_alike i (lookups.not_folder j) h = absurd h

    not_folder_alike : (i : ℕ) (end : LookupEnd) → StopsAlike (not_folder i) end → end ≡ lookups.not_folder i
    not_folder_alike i (lookups.found t) h = absurd h
    not_folder_alike i (lookups.not_there j) h = absurd h
    not_folder_alike i (lookups.not_folder j) h = ap lookups.not_folder (sym h)

    pub no_entry_says : {limits : LimitNumbers} → (written : List ℕ) (i : ℕ) → IsNowhere q limits sections written (no_entry i) → (lookup_path q.path d ≡ lookups.not_there i) ⊎ CollisionPair sections d
    no_entry_says written i h =
        let led : IsNowhereOf q sections written (no_entry i) = nowhere_leads q sections written (no_entry i) h in
        ⊎_elim
        (λ alike. inl (not_there_alike i (lookup_path q.path d) alike))
        (λ pair. inr (of_sections written (no_entry i) led pair))
        (p.absent q d led.s i sound root led.opened led.end)

    pub no_directory_says : {limits : LimitNumbers} → (written : List ℕ) (i : ℕ) → IsNowhere q limits sections written (no_directory i) → (lookup_path q.path d ≡ lookups.not_folder i) ⊎ CollisionPair sections d
    no_directory_says written i h =
        let led : IsNowhereOf q sections written (no_directory i) = nowhere_leads q sections written (no_directory i) h in
        ⊎_elim
        (λ alike. inl (not_folder_alike i (lookup_path q.path d) alike))
        (λ pair. inr (of_sections written (no_directory i) led pair))
        (p.not_folder q d led.s i sound root led.opened led.end)

    -- ---- a front of what the sections say

    shorter : (out written rest : List ℕ) → out ≡ written ++ rest → IsItsFront q d sections out → IsItsFront q d sections written
    shorter out written rest e (inl front) = inl (front_of_front (answer q d) out written rest e front)
    shorter out written rest e (inr pair) = inr pair

    -- by what comes next

    front_by : (given : Given) (tasks : List (Task CidParts)) → Verified q sections (up_to_next tasks given) (tasks_then tasks) → Then tasks
        → IsItsFront q d sections (given.text ++ text_now tasks)
    front_by given tasks verified (then_none e) =
        let next = up_to_next tasks given in
        let fit : IsFitOf q sections (written_whole q next) =
        fits_whole q sections (written_whole q next) next (subst (λ (xs : List (Task CidParts)). Verified q sections next xs) e verified) refl in
        shorter (written_whole q next) (given.text ++ text_now tasks) (listing_at_end q.scope next.met) refl
        (answer_front q d sections (written_whole q next) (fit_sound (written_whole q next) fit))
    front_by given tasks verified (then_block w cid more e) =
        given_front (up_to_next tasks given) w cid more (subst (λ (xs : List (Task CidParts)). Verified q sections (up_to_next tasks given) xs) e verified)
    front_by given tasks verified (then_stop miss more e) =
        let next = up_to_next tasks given in
        nowhere_front_of (given.text ++ text_now tasks) miss
        (stops_nowhere q sections (given.text ++ text_now tasks) miss next more (subst (λ (xs : List (Task CidParts)). Verified q sections next xs) e verified) refl)

    most_by : (given : Given) (tasks : List (Task CidParts)) → Verified q sections given tasks → IsItsFront q d sections (most_text q given tasks)
    most_by given [] verified =
        answer_front q d sections (written_whole q given) (fit_sound (written_whole q given) (fits_whole q sections (written_whole q given) given verified refl))
    most_by given (task ∷ tasks) verified =
        let all = task ∷ tasks in
        shorter (given.text ++ text_now all) given.text (text_now all) refl (front_by given all (v.up_to_next q sections given all verified) (v.how_then all))

    pub unlisted_front : (written : List ℕ) → IsUnlisted q sections written → IsItsFront q d sections written
    unlisted_front written h =
        shorter (written_whole q h.given) written (listing_at_end q.scope h.given.met) (ap (λ (t : List ℕ). t ++ listing_at_end q.scope h.given.met) (sym h.text)) (most_by h.given [] h.verified)

    pub written_front : (written : List ℕ) → IsFrontWritten q sections written → IsItsFront q d sections written
    written_front written h = shorter (most_text q h.given h.tasks) written h.rest h.text (most_by h.given h.tasks h.verified)
