-- A log that a section is added to, and what is found in one.
use Rattle.std.proofs.Common.{◌≡◌, ◌<◌, ◌+◌, ℕ, Bool, true, false, cond, List, [], ◌∷◌, ◌++◌, length, map, drop, get_or, Option, Some, refl, sym, ap, ap₂, ◌∙◌}
use Rattle.std.proofs.lemmas.List.{map-append}
use Rattle.tg_cid.specs.Cid.{CidParts}
use Rattle.tg_model.specs.Dag.{Section}
use Rattle.tg_model.specs.Stores.{AreKeptAs, as_v1}
use Rattle.tg_bytes.specs.Lists.{drop_from}
use Rattle.tg_model.specs.SameForm.{is_same_v1, same_v1, same_v1_is}
use Rattle.tg_block_log.specs.BlockLog.{Logged, first_block, section_v1}
use Rattle.tg_block_log.specs.BlockLogLaws.{log_adds}
use Rattle.tg_block_log.specs.LoggedBlocks.{section_of}
use Rattle.tg_block_log.specs.declared.logged_block.LoggedBlock.{LoggedBlock}
use Rattle.std.proofs.lemmas.Bool.{cond-true}

-- a log with one block more
more : (old new : List LoggedBlock) (held : LoggedBlock) (cid : CidParts) (block : List ℕ) → new ≡ old ++ held ∷ [] → held.cid ≡ as_v1 cid → held.block ≡ block
    → map section_of new ≡ map section_of old ++ section_v1 (record { cid = cid; block = block }) ∷ []
more old new held cid block e c b =
    let same : section_of held ≡ section_v1 (record { cid = cid; block = block }) =
    ap₂ (λ (cid : CidParts) (block : List ℕ). let section : Section = record { cid = cid; block = block } in section) c b in
    ap (λ (blocks : List LoggedBlock). map section_of blocks) e ∙ map-append section_of old (held ∷ []) ∙ ap (λ (section : Section). map section_of old ++ section ∷ []) same

-- has logged it
pub logged_one : (number : ℕ) (old new : List LoggedBlock) (held : LoggedBlock) (cid : CidParts) (block : List ℕ) → new ≡ old ++ held ∷ [] → held.cid ≡ as_v1 cid → held.block ≡ block
    → Logged number number (map section_of old) (map section_of new) (record { cid = cid; block = block } ∷ [])
logged_one number old new held cid block e c b = record { number = refl; more = more old new held cid block e c b }

-- and tells it
pub told_one : (old new : List LoggedBlock) (held : LoggedBlock) (cid : CidParts) (block : List ℕ) → new ≡ old ++ held ∷ [] → held.cid ≡ as_v1 cid → held.block ≡ block
    → AreKeptAs (Some (first_block (map section_of old))) (Some (first_block (map section_of new))) (record { cid = cid; block = block } ∷ [])
told_one old new held cid block e c b =
    let all : List Section = map section_of old ++ section_v1 (record { cid = cid; block = block }) ∷ [] in
    (first_block all, log_adds (map section_of old) cid block, ap first_block (more old new held cid block e c b))

-- ---- what is found

-- what is found from an index on, by the block there
found_from : (blocks : List LoggedBlock) (i : ℕ) (held : LoggedBlock) (cid : CidParts) → held ≡ get_or blocks i held → i < length blocks
    → first_block (map section_of (drop i blocks)) cid ≡ cond (same_v1 cid held.cid) (Some held.block) (first_block (map section_of (drop (i + 1) blocks)) cid)
found_from blocks i held cid is within = ap (λ (blocks : List LoggedBlock). first_block (map section_of blocks) cid) (drop_from blocks i held is within)

-- and where the test fails
not_chosen : (test : Bool) (one other : Option (List ℕ)) → (test ≡ true → ⊥) → cond test one other ≡ other
not_chosen true one other h = absurd (h refl)
not_chosen false one other h = refl

-- it is this block
pub found_here : (blocks : List LoggedBlock) (i : ℕ) (held : LoggedBlock) (cid : CidParts) → held ≡ get_or blocks i held → i < length blocks → as_v1 held.cid ≡ as_v1 cid
    → first_block (map section_of (drop i blocks)) cid ≡ Some held.block
found_here blocks i held cid is within same =
    found_from blocks i held cid is within ∙ cond-true (same_v1 cid held.cid) (Some held.block) (first_block (map section_of (drop (i + 1) blocks)) cid) (is_same_v1 cid held.cid (sym same))

-- or one behind it
pub found_behind : (blocks : List LoggedBlock) (i : ℕ) (held : LoggedBlock) (cid : CidParts) → held ≡ get_or blocks i held → i < length blocks → (as_v1 held.cid ≡ as_v1 cid → ⊥)
    → first_block (map section_of (drop i blocks)) cid ≡ first_block (map section_of (drop (i + 1) blocks)) cid
found_behind blocks i held cid is within other =
    found_from blocks i held cid is within
    ∙ not_chosen (same_v1 cid held.cid) (Some held.block) (first_block (map section_of (drop (i + 1) blocks)) cid) (λ same. other (sym (same_v1_is cid held.cid same)))
