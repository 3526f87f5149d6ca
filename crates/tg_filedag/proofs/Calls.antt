-- What calls give, in the words of the steps.
use Rattle.std.proofs.Common.{◌≡◌, ◌≢◌, ◌+◌, ◌-◌, ◌<◌, ◌≤◌, ℕ, List, [], ◌∷◌, length, get_or, refl, sym, ap, ◌∙◌, subst, inl, inr, arith}
use Rattle.std.specs.Prelude.{slice_index}
use Rattle.std.specs.List.{sum_by}
use Rattle.std.proofs.lemmas.Bool.{cases_lt}
use Rattle.tg_cid.specs.declared.cid.Codec.TheVariants.{DagPb, Raw}
use Rattle.tg_filedag.proofs.Closings.{BeginsAt, MayClose}
use Rattle.tg_filedag.proofs.Meanwhile.{Closed, Raised}
use Rattle.tg_filedag.proofs.Runs.{close_needs, raise_needs}
use Rattle.tg_filedag.proofs.Steps.{height_at}
use Rattle.tg_filedag.specs.Linking.{HasFullLevel, IsKeptNode}
use Rattle.tg_filedag.specs.State.{heights}
use Rattle.tg_filedag.specs.Trees.{IsFileBlock, content_in, leaf_made, tsize_in}
use Rattle.tg_filedag.specs.declared.subtree.Subtree.{Subtree}
use Rattle.tg_model.specs.Dag.{Section}
use Rattle.tg_model.specs.Stores.{KeepMeaning, Keeping}
use Rattle.tg_model.specs.declared.kinds.Made.{Made}
use Rattle.tg_node_writing.specs.Keeping.{Keeps, KeepsBlock, section_of}

abbrev leaf_of_size : List ℕ → ℕ → Made
leaf_of_size chunk n = record { cid = (section_of Raw chunk).cid; content = length chunk; tsize = n }

-- the leaf that is kept
pub leaf_kept : (chunk : List ℕ) (made : Made) (keeping : Keeping) → KeepsBlock Raw chunk (length chunk) 0 made keeping → (made ≡ leaf_made chunk) × Keeps (section_of Raw chunk ∷ []) keeping
leaf_kept chunk made keeping h =
    let none : length chunk + 0 ≡ length chunk = omega arith in
    (h.made_is ∙ ap (λ (n : ℕ). leaf_of_size chunk n) none, h.keeps)

-- the node that is kept
pub node_kept : (links : List Subtree) (block : List ℕ) (made : Made) (keeping : Keeping) → IsFileBlock links block → length block ≤ 524288
    → KeepsBlock DagPb block (sum_by content_in links) (sum_by tsize_in links) made keeping → IsKeptNode links made keeping
node_kept links block made keeping written small h = record { block = block; written = written; small = small; made_is = h.made_is; keeps = h.keeps }

-- the height of a subtree that is read
pub read_height : (ss : List Subtree) (i j : ℕ) (s : Subtree) → i ≡ j → j < length ss → s ≡ get_or ss i s → s.height ≡ slice_index (heights ss) j
read_height ss i j s e lt is =
    ap (λ (x : Subtree). x.height) is ∙ sym (height_at ss i s (omega arith)) ∙ ap (λ (n : ℕ). slice_index (heights ss) n) e

-- where the lowest level begins
begins_at : (ss : List Subtree) (start height : ℕ) → 0 < length ss → height ≡ slice_index (heights ss) (length ss - 1)
    → ((i : ℕ) → i < start → slice_index (heights ss) i ≢ height) → (start < length ss → slice_index (heights ss) start ≡ height) → BeginsAt ss start
begins_at ss start height some is before found =
    elim (cases_lt start (length ss)) [
      | inl inside ↦ record {
        inside = inside;
        before = λ i lt. subst (λ (h : ℕ). slice_index (heights ss) i ≢ h) is (before i lt);
        same = found inside ∙ is;
      }
      | inr outside ↦ absurd (before (length ss - 1) (omega arith) (sym is))
    ]

pub begins : (view ss : List Subtree) (start height : ℕ) → view ≡ ss → 0 < length ss → height ≡ slice_index (heights ss) (length ss - 1)
    → ((i : ℕ) → i < start → slice_index (heights view) i ≢ height) → (start < length view → slice_index (heights view) start ≡ height) → BeginsAt ss start
begins view ss start height e some is before found =
    begins_at ss start height some is
    (subst (λ (t : List Subtree). (i : ℕ) → i < start → slice_index (heights t) i ≢ height) e before)
    (subst (λ (t : List Subtree). start < length t → slice_index (heights t) start ≡ height) e found)

-- the lowest level, whose height is the last subtree's
pub lowest : (view ss : List Subtree) (start last : ℕ) (s : Subtree) → view ≡ ss → last + 1 ≡ length ss → s ≡ get_or ss last s
    → ((i : ℕ) → i < start → slice_index (heights view) i ≢ s.height) → (start < length view → slice_index (heights view) start ≡ s.height)
    → BeginsAt ss start × (s.height ≡ slice_index (heights ss) (length ss - 1))
lowest view ss start last s e at is before found =
    let height = read_height ss last (length ss - 1) s (omega arith) (omega arith) is in
    (begins view ss start s.height e (omega arith) height before found, height)

-- the height of a full level
pub level_read : (width len : ℕ) (ss : List Subtree) (s : Subtree) → HasFullLevel width ss → 2 ≤ width → len ≡ length ss → s ≡ get_or ss (len - width) s
    → s.height ≡ slice_index (heights ss) (len - width)
level_read width len ss s full low e is =
    let enough = full.enough in
    read_height ss (len - width) (len - width) s refl (omega arith) is

-- what the lowest level and a full level need to be closed
pub close_at : {S : Type 0} → (m : KeepMeaning S) (a b : S) (width : ℕ) (view ss : List Subtree) (start last : ℕ) (s : Subtree) (chunks : List (List ℕ)) (kept : List Section)
    → Closed m a b width ss chunks kept → view ≡ ss → last + 1 ≡ length ss → 1 < length ss → s ≡ get_or ss last s
    → ((i : ℕ) → i < start → slice_index (heights view) i ≢ s.height) → (start < length view → slice_index (heights view) start ≡ s.height)
    → BeginsAt ss start × (s.height < 1099511627776) × MayClose ss start
close_at m a b width view ss start last s chunks kept r e at many is before found =
    let low = lowest view ss start last s e at is before found in
    let needs = close_needs m a b width start s.height ss chunks kept r low.0 many low.1 in
    (low.0, needs.0, needs.1)

pub raise_at : {S : Type 0} → (m : KeepMeaning S) (a b : S) (width : ℕ) (ss : List Subtree) (len : ℕ) (s : Subtree) (chunks : List (List ℕ)) (kept : List Section)
    → Raised m a b width ss chunks kept → HasFullLevel width ss → len ≡ length ss → s ≡ get_or ss (len - width) s
    → (len - width < length ss) × (s.height < 1099511627776) × MayClose ss (len - width)
raise_at m a b width ss len s chunks kept r full e is =
    let enough = full.enough in
    let low = r.forest.low in
    let needs = raise_needs m a b width (len - width) s.height ss chunks kept r full (omega arith) (level_read width len ss s full low e is) in
    (omega arith, needs.0, needs.1)
