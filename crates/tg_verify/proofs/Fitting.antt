-- No front of sections that fit, that are in progress, or that show that a segment of the path leads nowhere, is refused
-- for what it is.
use Rattle.std.proofs.Common.{List, refl, subst, sym, true, ℕ, ◌++◌, ◌∙◌, ◌∷◌, ◌≡◌, ◌⊎◌, inl, inr}
use Rattle.tg_model.specs.Dag.{Dag, Section}
use Rattle.tg_model.specs.Fits.{Fits, HasOneBlockEach, IfOnce, IsInProgress, IsOpenedFor}
use Rattle.tg_model.specs.PathWalk.{Spot, TraversalEnd, stopped}
use Rattle.tg_model.specs.Queries.{QueryParts}
use Rattle.tg_model.specs.Traversal.{block_list, is_sent_behind, traversal}
use Rattle.tg_model_laws.specs.Openings.{IsSettledAt}
use Rattle.tg_model_laws.specs.SentSections.{not_among}
use Rattle.tg_model_laws.specs.BesideSound.{BesideLaws}
use Rattle.tg_model_laws.specs.Tasks.{Miss, no_directory, no_entry, open_block, stop_of}
use Rattle.tg_model_laws.specs.Verified.{IsOther, VerifiedLaws}
use Rattle.tg_verify.proofs.Endings.{not_gone, not_whole}
use Rattle.tg_verify.proofs.Misread.{Computes}
use Rattle.tg_verify.proofs.Passing.{IsEndOf, is_end_or_own, is_own_fault}
use Rattle.tg_verify.specs.Laws.{FitIsTaken, IsMissOf, IsOwnFault, NowhereIsTaken, ProgressIsTaken}
use Rattle.tg_verify.specs.declared.fault.Refusal.{Refusal}

-- ---- what was opened for a query is a DAG as others

opened_other : (q : QueryParts) (d : Dag) → IsOpenedFor d q → IsSettledAt q (block_list q d) (traversal q d).end → IsOther q d
opened_other q d right settled = record {
  checked = right.checked;
  root = right.root;
  one_each = subst (λ (all : List Section). IfOnce q.dups (HasOneBlockEach all)) right.opened right.one_each;
  settled = settled;
}

-- ---- with other names for its sections

fits_as : (q : QueryParts) (d : Dag) (some sections : List Section) (text : List ℕ) → block_list q d ≡ sections → Fits d q some text → Fits d q sections text
fits_as q d some sections text list h = record { right = h.right; list = list; end = h.end; text = h.text }

progress_as : (q : QueryParts) (d : Dag) (some sections : List Section) (wanted : Spot) → block_list q d ≡ sections → IsInProgress d q some wanted → IsInProgress d q sections wanted
progress_as q d some sections wanted list h =
    subst (λ (all : List Section). IsInProgress d q all wanted) (sym h.list ∙ list) h

-- ---- a traversal that ends at a segment

-- two segments at which it ends are one
one_miss : (miss other : Miss) (fault : Refusal) → stopped (stop_of other) ≡ stopped (stop_of miss) → IsMissOf other fault → IsMissOf miss fault
one_miss (no_entry i) (no_entry j) fault e h = let same : j ≡ i = cc in subst (λ (n : ℕ). IsMissOf (no_entry n) fault) same h
one_miss (no_entry i) (no_directory j) fault e h = absurd (cc e)
one_miss (no_directory i) (no_entry j) fault e h = absurd (cc e)
one_miss (no_directory i) (no_directory j) fault e h = let same : j ≡ i = cc in subst (λ (n : ℕ). IsMissOf (no_directory n) fault) same h

ends_so : (end : TraversalEnd) (miss : Miss) (fault : Refusal) → end ≡ stopped (stop_of miss) → IsEndOf end fault ⊎ IsOwnFault fault → IsMissOf miss fault ⊎ IsOwnFault fault
ends_so end miss fault e (inl h) = inl (one_miss miss h.miss fault (sym h.ends ∙ e) h.is_miss)
ends_so end miss fault e (inr own) = inr own

miss_settled : (q : QueryParts) (sections : List Section) (miss : Miss) → IsSettledAt q sections (stopped (stop_of miss))
miss_settled q sections (no_entry i) = tt
miss_settled q sections (no_directory i) = tt

module _ (v : VerifiedLaws) (b : BesideLaws) (computes : Computes) where
  pub fit_taken : FitIsTaken
  fit_taken q limits d sections rest written text fault h within refused =
      is_own_fault v b computes q limits d (opened_other q d h.right (subst (IsSettledAt q (block_list q d)) (sym h.end) tt)) within
      (λ front behind next given tasks settled list verified. v.fitting q d front behind next text given tasks settled (fits_as q d _ _ text list h) verified)
      (λ front behind known given w tasks unsent had list verified.
      v.fitting_again q d front behind known text given w tasks (open_block w known.cid ∷ tasks) refl unsent had (fits_as q d _ _ text list h) verified)
      sections rest h.list written (not_whole _ h.end) fault refused

  pub progress_taken : ProgressIsTaken
  progress_taken q limits d sections rest written wanted fault h within refused =
      let sends : is_sent_behind q (block_list q d) wanted.cid ≡ true =
      subst (λ (all : List Section). is_sent_behind q all wanted.cid ≡ true) (sym h.list) (not_among q (sections ++ rest) wanted.cid h.asked h.not_seen) in
      is_own_fault v b computes q limits d (opened_other q d h.right (subst (IsSettledAt q (block_list q d)) (sym h.end) sends)) within
      (λ front behind next given tasks settled list verified. v.in_progress q d front behind next wanted given tasks settled (progress_as q d _ _ wanted list h) verified)
      (λ front behind known given w tasks unsent had list verified.
      v.in_progress_again q d front behind known wanted given w tasks (open_block w known.cid ∷ tasks) refl unsent had (progress_as q d _ _ wanted list h) verified)
      sections rest h.list written (not_gone _ wanted h.end) fault refused

  pub nowhere_taken : NowhereIsTaken
  nowhere_taken q limits d sections rest written miss fault right all end within refused =
      ends_so (traversal q d).end miss fault end
      (is_end_or_own v b computes q limits d (opened_other q d right (subst (IsSettledAt q (block_list q d)) (sym end) (miss_settled q (block_list q d) miss))) within
      (λ front behind next given tasks settled list verified. v.nowhere q d front behind next miss given tasks settled right list end verified)
      (λ front behind known given w tasks unsent had list verified.
      v.nowhere_again q d front behind known miss given w tasks (open_block w known.cid ∷ tasks) refl unsent had right list end verified)
      sections rest all written fault refused)
