-- The sections of a sound DAG's own traversal are taken, and give its answer.
use Rattle.std.proofs.Common.{◌≡◌, ℕ, List, Some, refl, subst, sym, ◌∷◌}
use Rattle.tg_model.specs.Answer.{answer, answer_at}
use Rattle.tg_model.specs.Dag.{Dag, Section, root_cid}
use Rattle.tg_model.specs.Ends.{EndsAlike}
use Rattle.tg_model.specs.Fits.{Fits, HasOneBlockEach, IfOnce}
use Rattle.tg_model.specs.Lookup.{LookupEnd, lookup_path}
use Rattle.tg_model.specs.Lookup as lookup
use Rattle.tg_model.specs.PathWalk.{PathEnd, not_reached, path_walk, terminal, whole}
use Rattle.tg_model.specs.PathWalk as walk
use Rattle.tg_model.specs.Queries.{QueryParts}
use Rattle.tg_model.specs.Sound.{IsSound}
use Rattle.tg_model.specs.Traversal.{block_list, opened_list, traversal}
use Rattle.tg_model_laws.specs.Openings.{IsSettledAt}
use Rattle.tg_model_laws.specs.BesideSound.{BesideLaws}
use Rattle.tg_model_laws.specs.Tasks.{open_block}
use Rattle.tg_model_laws.specs.Verified.{IsOther, VerifiedLaws}
use Rattle.tg_verify.proofs.Endings.{fit_ends, not_whole}
use Rattle.tg_verify.proofs.Misread.{Computes}
use Rattle.tg_verify.proofs.Passing.{is_own_fault}
use Rattle.tg_verify.specs.Own.{OwnIsTaken, OwnIsThrough, OwnLaws}

-- of sound DAGs
pub record SoundLaws : Type 0 where
  pub alike : (d : Dag) (path : List (List ℕ)) → IsSound d → EndsAlike (path_walk path d).end (lookup_path path d)
  pub through : (q : QueryParts) (d t : Dag) → IsSound d → (path_walk q.path d).end ≡ terminal t → (traversal q d).end ≡ whole
  pub own : (q : QueryParts) (d : Dag) (text : List ℕ) → IsSound d → root_cid d ≡ q.root → IfOnce q.dups (HasOneBlockEach (opened_list q d)) → answer q d ≡ Some text
      → (s : Dag) × Fits s q (block_list q d) text

-- where there is an answer the path leads to a terminal
reaches : (q : QueryParts) (text : List ℕ) (end : PathEnd) (other : LookupEnd) → EndsAlike end other → answer_at q other ≡ Some text → (t : Dag) × (end ≡ terminal t)
reaches q text (terminal t) other alike e = (t, refl)
reaches q text (not_reached (walk.not_there i)) (lookup.not_there j) alike e = absurd (cc e)
reaches q text (not_reached (walk.not_folder i)) (lookup.not_folder j) alike e = absurd (cc e)
reaches q text _ _ alike e = absurd alike

module _ (laws : SoundLaws) (q : QueryParts) (d : Dag) (text : List ℕ) (sound : IsSound d) (root : root_cid d ≡ q.root) (is : answer q d ≡ Some text) where
  -- so the traversal comes through
  own_whole : (traversal q d).end ≡ whole
  own_whole = let (t, e) = reaches q text (path_walk q.path d).end (lookup_path q.path d) (laws.alike d q.path sound) is in laws.through q d t sound e

  -- the DAG is as one that sections have opened, and its sections fit
  module _ (one : IfOnce q.dups (HasOneBlockEach (opened_list q d))) where
    own_other : IsOther q d
    own_other = record {
      checked = sound.checked;
      root = root;
      one_each = one;
      settled = subst (IsSettledAt q (block_list q d)) (sym own_whole) tt;
    }

    own_fits : (s : Dag) × Fits s q (block_list q d) text
    own_fits = laws.own q d text sound root one is

module _ (v : VerifiedLaws) (b : BesideLaws) (computes : Computes) (laws : SoundLaws) where
  own_taken : OwnIsTaken
  own_taken q limits d sections rest written text fault sound root one is list within refused =
      let (s, fits) = own_fits laws q d text sound root is one in
      is_own_fault v b computes q limits d (own_other laws q d text sound root is one) within
      (λ front behind next given tasks settled whole verified.
      v.fitting q s front behind next text given tasks settled (subst (λ (all : List Section). Fits s q all text) whole fits) verified)
      (λ front behind known given w tasks unsent had whole verified.
      v.fitting_again q s front behind known text given w tasks (open_block w known.cid ∷ tasks) refl unsent had (subst (λ (all : List Section). Fits s q all text) whole fits) verified)
      sections rest list written (not_whole _ (own_whole laws q d text sound root is)) fault refused

  own_through : OwnIsThrough
  own_through state d written text sound root one is h =
      let (s, fits) = own_fits laws state.left.query d text sound root is one in
      fit_ends v state s (block_list state.left.query d) written h text fits

  pub own_laws : OwnLaws
  own_laws = record { taken = own_taken; through = own_through }
