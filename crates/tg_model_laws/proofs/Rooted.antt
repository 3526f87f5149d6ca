-- Tasks over nodes, by the tasks over their CIDs.
use Rattle.std.proofs.Common.{◌≡◌, List, [], ◌∷◌, ◌++◌, refl, ap, ap₂, ◌∙◌, append_assoc, sym}
use Rattle.std.specs.Prelude.{ℕ}
use Rattle.tg_cid.specs.Cid.{CidParts}
use Rattle.tg_model.specs.Dag.{Dag, Section, blocks, root_cid, unopened}
use Rattle.tg_model.specs.Traversal.{ListedEntry}
use Rattle.tg_model_laws.specs.TakenBlocks.{AreBelow, EachPlace, IsRightAt, blocks_at, root_cids_at}
use Rattle.tg_model_laws.specs.Tasks.{Miss, Task, Want, entries_then, give_entries, give_text, mapped, node_want, open_block, segment_want, stop_at, terminal_want, text_last}

-- ---- the first of them

pub no_task : (nodes : List (Task Dag)) → root_cids_at nodes ≡ [] → nodes ≡ []
no_task [] e = refl
no_task (open_block w d ∷ nodes) e = absurd (cc)
no_task (give_text text ∷ nodes) e = absurd (cc)
no_task (give_entries met ∷ nodes) e = absurd (cc)
no_task (stop_at miss ∷ nodes) e = absurd (cc)

pub at_block : (w : Want) (cid : CidParts) (tasks : List (Task CidParts)) (nodes : List (Task Dag)) → root_cids_at nodes ≡ open_block w cid ∷ tasks
    → (d : Dag) × (rest : List (Task Dag)) × (nodes ≡ open_block w d ∷ rest) × (root_cid d ≡ cid) × (root_cids_at rest ≡ tasks)
at_block w cid tasks [] e = absurd (cc)
at_block w cid tasks (open_block v d ∷ rest) e = let same : v ≡ w = cc in (d, rest, ap (λ (w : Want). open_block w d ∷ rest) same, cc, cc)
at_block w cid tasks (give_text text ∷ rest) e = absurd (cc)
at_block w cid tasks (give_entries met ∷ rest) e = absurd (cc)
at_block w cid tasks (stop_at miss ∷ rest) e = absurd (cc)

pub at_text : (text : List ℕ) (tasks : List (Task CidParts)) (nodes : List (Task Dag)) → root_cids_at nodes ≡ give_text text ∷ tasks
    → (rest : List (Task Dag)) × (nodes ≡ give_text text ∷ rest) × (root_cids_at rest ≡ tasks)
at_text text tasks [] e = absurd (cc)
at_text text tasks (open_block w d ∷ rest) e = absurd (cc)
at_text text tasks (give_text other ∷ rest) e = let same : other ≡ text = cc in (rest, ap (λ (text : List ℕ). give_text text ∷ rest) same, cc)
at_text text tasks (give_entries met ∷ rest) e = absurd (cc)
at_text text tasks (stop_at miss ∷ rest) e = absurd (cc)

pub at_entries : (met : List ListedEntry) (tasks : List (Task CidParts)) (nodes : List (Task Dag)) → root_cids_at nodes ≡ give_entries met ∷ tasks
    → (rest : List (Task Dag)) × (nodes ≡ give_entries met ∷ rest) × (root_cids_at rest ≡ tasks)
at_entries met tasks [] e = absurd (cc)
at_entries met tasks (open_block w d ∷ rest) e = absurd (cc)
at_entries met tasks (give_text text ∷ rest) e = absurd (cc)
at_entries met tasks (give_entries other ∷ rest) e = let same : other ≡ met = cc in (rest, ap (λ (met : List ListedEntry). give_entries met ∷ rest) same, cc)
at_entries met tasks (stop_at miss ∷ rest) e = absurd (cc)

pub at_stop : (miss : Miss) (tasks : List (Task CidParts)) (nodes : List (Task Dag)) → root_cids_at nodes ≡ stop_at miss ∷ tasks
    → (rest : List (Task Dag)) × (nodes ≡ stop_at miss ∷ rest) × (root_cids_at rest ≡ tasks)
at_stop miss tasks [] e = absurd (cc)
at_stop miss tasks (open_block w d ∷ rest) e = absurd (cc)
at_stop miss tasks (give_text text ∷ rest) e = absurd (cc)
at_stop miss tasks (give_entries met ∷ rest) e = absurd (cc)
at_stop miss tasks (stop_at other ∷ rest) e = let same : other ≡ miss = cc in (rest, ap (λ (miss : Miss). stop_at miss ∷ rest) same, cc)

-- behind entries, where there are any
pub under_entries : (met : List ListedEntry) (tasks : List (Task CidParts)) (nodes : List (Task Dag)) → root_cids_at nodes ≡ entries_then met tasks
    → (rest : List (Task Dag)) × (nodes ≡ entries_then met rest) × (root_cids_at rest ≡ tasks)
under_entries [] tasks nodes e = (nodes, refl, e)
under_entries (m ∷ met) tasks nodes e = at_entries (m ∷ met) tasks nodes e

-- a last text
pub is_last : (text : List ℕ) (nodes : List (Task Dag)) → root_cids_at nodes ≡ text_last text → nodes ≡ text_last text
is_last [] nodes e = no_task nodes e
is_last (b ∷ text) nodes e =
    let (rest, is, later) = at_text (b ∷ text) [] nodes e in
    is ∙ ap (λ (rest : List (Task Dag)). give_text (b ∷ text) ∷ rest) (no_task rest later)

-- ---- some of them, and those behind

pub split : (xs ys : List (Task CidParts)) (nodes : List (Task Dag)) → root_cids_at nodes ≡ xs ++ ys
    → (new : List (Task Dag)) × (others : List (Task Dag)) × (nodes ≡ new ++ others) × (root_cids_at new ≡ xs) × (root_cids_at others ≡ ys)
split [] ys nodes e = ([], nodes, refl, refl, e)
split (open_block w cid ∷ xs) ys nodes e =
    let (d, rest, is, root, later) = at_block w cid (xs ++ ys) nodes e in
    let (new, others, both, fit, left) = split xs ys rest later in (
      open_block w d ∷ new,
      others,
      is ∙ ap (λ (nodes : List (Task Dag)). open_block w d ∷ nodes) both,
      ap₂ (λ (cid : CidParts) (tasks : List (Task CidParts)). open_block w cid ∷ tasks) root fit,
      left,
    )
split (give_text text ∷ xs) ys nodes e =
    let (rest, is, later) = at_text text (xs ++ ys) nodes e in
    let (new, others, both, fit, left) = split xs ys rest later in
    (give_text text ∷ new, others, is ∙ ap (λ (nodes : List (Task Dag)). give_text text ∷ nodes) both, ap (λ (tasks : List (Task CidParts)). give_text text ∷ tasks) fit, left)
split (give_entries met ∷ xs) ys nodes e =
    let (rest, is, later) = at_entries met (xs ++ ys) nodes e in
    let (new, others, both, fit, left) = split xs ys rest later in
    (give_entries met ∷ new, others, is ∙ ap (λ (nodes : List (Task Dag)). give_entries met ∷ nodes) both, ap (λ (tasks : List (Task CidParts)). give_entries met ∷ tasks) fit, left)
split (stop_at miss ∷ xs) ys nodes e =
    let (rest, is, later) = at_stop miss (xs ++ ys) nodes e in
    let (new, others, both, fit, left) = split xs ys rest later in
    (stop_at miss ∷ new, others, is ∙ ap (λ (nodes : List (Task Dag)). stop_at miss ∷ nodes) both, ap (λ (tasks : List (Task CidParts)). stop_at miss ∷ tasks) fit, left)

pub blocks_both : (xs ys : List (Task Dag)) → blocks_at (xs ++ ys) ≡ blocks_at xs ++ blocks_at ys
blocks_both [] ys = refl
blocks_both (open_block w d ∷ xs) ys = ap (λ (sections : List Section). blocks d ++ sections) (blocks_both xs ys) ∙ sym (append_assoc (blocks d) (blocks_at xs) (blocks_at ys))
blocks_both (give_text text ∷ xs) ys = blocks_both xs ys
blocks_both (give_entries met ∷ xs) ys = blocks_both xs ys
blocks_both (stop_at miss ∷ xs) ys = blocks_both xs ys

pub each_both : (P : Want → Dag → Type 0) (xs ys : List (Task Dag)) → EachPlace P xs → EachPlace P ys → EachPlace P (xs ++ ys)
each_both P [] ys h g = g
each_both P (open_block w d ∷ xs) ys h g = (h.0, each_both P xs ys h.1 g)
each_both P (give_text text ∷ xs) ys h g = each_both P xs ys h g
each_both P (give_entries met ∷ xs) ys h g = each_both P xs ys h g
each_both P (stop_at miss ∷ xs) ys h g = each_both P xs ys h g

pub each_first : (P : Want → Dag → Type 0) (xs ys : List (Task Dag)) → EachPlace P (xs ++ ys) → EachPlace P xs
each_first P [] ys h = tt
each_first P (open_block w d ∷ xs) ys h = (h.0, each_first P xs ys h.1)
each_first P (give_text text ∷ xs) ys h = each_first P xs ys h
each_first P (give_entries met ∷ xs) ys h = each_first P xs ys h
each_first P (stop_at miss ∷ xs) ys h = each_first P xs ys h

pub each_later : (P : Want → Dag → Type 0) (xs ys : List (Task Dag)) → EachPlace P (xs ++ ys) → EachPlace P ys
each_later P [] ys h = h
each_later P (open_block w d ∷ xs) ys h = each_later P xs ys h.1
each_later P (give_text text ∷ xs) ys h = each_later P xs ys h
each_later P (give_entries met ∷ xs) ys h = each_later P xs ys h
each_later P (stop_at miss ∷ xs) ys h = each_later P xs ys h

pub below_both : (xs ys : List (Task Dag)) → AreBelow xs → AreBelow ys → AreBelow (xs ++ ys)
below_both [] ys h g = g
below_both (open_block (segment_want i position name path depth) d ∷ xs) ys h g = absurd h
below_both (open_block (terminal_want depth) d ∷ xs) ys h g = absurd h
below_both (open_block (node_want reach position depth) d ∷ xs) ys h g = below_both xs ys h g
below_both (give_text text ∷ xs) ys h g = below_both xs ys h g
below_both (give_entries met ∷ xs) ys h g = below_both xs ys h g
below_both (stop_at miss ∷ xs) ys h g = absurd h

-- entries, and a last text
pub blocks_entries : (met : List ListedEntry) (xs : List (Task Dag)) → blocks_at (entries_then met xs) ≡ blocks_at xs
blocks_entries [] xs = refl
blocks_entries (m ∷ met) xs = refl

pub each_entries : (P : Want → Dag → Type 0) (met : List ListedEntry) (xs : List (Task Dag)) → EachPlace P (entries_then met xs) → EachPlace P xs
each_entries P [] xs h = h
each_entries P (m ∷ met) xs h = h

pub entries_each : (P : Want → Dag → Type 0) (met : List ListedEntry) (xs : List (Task Dag)) → EachPlace P xs → EachPlace P (entries_then met xs)
entries_each P [] xs h = h
entries_each P (m ∷ met) xs h = h

pub entries_below : (met : List ListedEntry) (xs : List (Task Dag)) → AreBelow xs → AreBelow (entries_then met xs)
entries_below [] xs h = h
entries_below (m ∷ met) xs h = h

pub blocks_last : (text : List ℕ) → blocks_at (text_last text) ≡ []
blocks_last [] = refl
blocks_last (b ∷ text) = refl

pub last_each : (P : Want → Dag → Type 0) (text : List ℕ) → EachPlace P (text_last text)
last_each P [] = tt
last_each P (b ∷ text) = tt

pub last_below : (text : List ℕ) → AreBelow {X = Dag} (text_last text)
last_below [] = tt
last_below (b ∷ text) = tt

-- ---- no place is opened

abbrev pub unopened_at : List (Task CidParts) → List (Task Dag)
unopened_at tasks = mapped (λ w cid. unopened cid) tasks

pub unopened_roots : (tasks : List (Task CidParts)) → root_cids_at (unopened_at tasks) ≡ tasks
unopened_roots [] = refl
unopened_roots (open_block w cid ∷ tasks) = ap (λ (tasks : List (Task CidParts)). open_block w cid ∷ tasks) (unopened_roots tasks)
unopened_roots (give_text text ∷ tasks) = ap (λ (tasks : List (Task CidParts)). give_text text ∷ tasks) (unopened_roots tasks)
unopened_roots (give_entries met ∷ tasks) = ap (λ (tasks : List (Task CidParts)). give_entries met ∷ tasks) (unopened_roots tasks)
unopened_roots (stop_at miss ∷ tasks) = ap (λ (tasks : List (Task CidParts)). stop_at miss ∷ tasks) (unopened_roots tasks)

pub unopened_blocks : (tasks : List (Task CidParts)) → blocks_at (unopened_at tasks) ≡ []
unopened_blocks [] = refl
unopened_blocks (open_block w cid ∷ tasks) = unopened_blocks tasks
unopened_blocks (give_text text ∷ tasks) = unopened_blocks tasks
unopened_blocks (give_entries met ∷ tasks) = unopened_blocks tasks
unopened_blocks (stop_at miss ∷ tasks) = unopened_blocks tasks

pub unopened_right : (tasks : List (Task CidParts)) → EachPlace IsRightAt (unopened_at tasks)
unopened_right [] = tt
unopened_right (open_block w cid ∷ tasks) = (tt, unopened_right tasks)
unopened_right (give_text text ∷ tasks) = unopened_right tasks
unopened_right (give_entries met ∷ tasks) = unopened_right tasks
unopened_right (stop_at miss ∷ tasks) = unopened_right tasks
