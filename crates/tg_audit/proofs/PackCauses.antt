-- A pack with a folder's DAG of which no block is too large has no cause for which it isn't attached.
use Rattle.std.proofs.Common.{All, Bool, List, [], ap, arith, false, inr, length, refl, subst, true, ℕ, ◌++◌, ◌<◌, ◌∙◌, ◌∷◌, ◌≡◌, ◌≤◌}
use Rattle.std.proofs.lemmas.List.Elements.{All-cons, All-contains, All-contains_itself, All-head, All-map, All-nil, All-replicate, All-tail}
use Rattle.std.specs.Prelude.{cond, map, replicate, ◌≢◌, ◌||◌}
use Rattle.tg_audit.proofs.DagEntries.{directory_of}
use Rattle.tg_audit.proofs.Holding.{named_each}
use Rattle.tg_audit.proofs.DrawnAnswers.{bundle_query}
use Rattle.tg_audit.specs.Packing.{HoldsImported}
use Rattle.tg_car.specs.declared.section.Section.{Section as CarSection}
use Rattle.tg_cid.specs.Cid.{CidParts}
use Rattle.tg_cid.specs.Laws.{OneSpelling}
use Rattle.tg_cid.specs.Limits.{max_block_len}
use Rattle.tg_cid.specs.Names.{Names}
use Rattle.tg_cid.specs.Spelling.{CidBytes}
use Rattle.tg_cid.specs.declared.cid.Codec.{Codec}
use Rattle.tg_cid.specs.declared.cid.Codec.TheVariants as codecs
use Rattle.tg_model.specs.Counts.{counts, greatest}
use Rattle.tg_model.specs.Dag.{Dag, IsWhole, Section, bare, blocks, node, root_cid, unopened}
use Rattle.tg_model.specs.ImportLayout.{HasPlainCid}
use Rattle.tg_model.specs.PathWalk.{path_walk, terminal}
use Rattle.tg_model.specs.Queries.{QueryParts}
use Rattle.tg_model.specs.Reading.{ReadsUnder}
use Rattle.tg_model.specs.ShowsTree.{Shows}
use Rattle.tg_model.specs.Sound.{IsSound, top}
use Rattle.tg_model.specs.Traversal.{asked, is_asked, is_hashed, is_raw, opened_list}
use Rattle.tg_model.specs.declared.kinds.Kind.{Kind}
use Rattle.tg_model.specs.declared.kinds.Kind.TheVariants.{Basic, File, Raw, Shard, Symlink}
use Rattle.tg_model.specs.declared.queries.Scope.TheVariants as scopes
use Rattle.tg_store.specs.Attaching.{HasPackCause, IsAttached, IsNamed, IsSmall, first_block}
use Rattle.tg_store.specs.Entries.{first_of_each, is_held, new_beside}
use Rattle.tg_store.specs.Finishing.{unfinished_cid}
use Rattle.tg_store.specs.Keys.{key_of}
use Rattle.tg_store.specs.Packs.{in_car, unfinished_root}
use Rattle.tg_store.specs.declared.fault.PackFault.{PackFault}
use Rattle.tg_store.specs.declared.key.Key.{Key}
use Rattle.tg_model.specs.Stores.{Store}
use Rattle.tg_tree.specs.Tree.{sort_of}
use Rattle.tg_tree.specs.declared.items.Sort.TheVariants as sorts
use Rattle.tg_tree.specs.declared.tree.Tree.{Tree}
use Rattle.tg_varint.specs.Laws.{SpellingLaws}

-- ---- the root isn't that of a pack that isn't finished

unfinished_spelled : SpellingLaws → CidBytes unfinished_cid (1 ∷ 0x55 ∷ 0x12 ∷ 0x20 ∷ replicate 32 0)
unfinished_spelled laws = inr (record {
  version = refl;
  size = refl;
  are_bytes = All-replicate (λ (b : ℕ). b < 256) 32 0 (omega arith);
  head = 1 ∷ 0x55 ∷ 0x12 ∷ 0x20 ∷ [];
  numbers = (
    1 ∷ [],
    0x55 ∷ 0x12 ∷ 0x20 ∷ [],
    refl,
    laws.one_byte 1 (omega arith),
    (
      0x55 ∷ [],
      0x12 ∷ 0x20 ∷ [],
      refl,
      laws.one_byte 0x55 (omega arith),
      (0x12 ∷ [], 0x20 ∷ [], refl, laws.one_byte 0x12 (omega arith), (0x20 ∷ [], [], refl, laws.one_byte 0x20 (omega arith), refl)),
    ),
  );
  whole = refl;
})

other_roots : SpellingLaws → OneSpelling → (root : CidParts) (name : List ℕ) → CidBytes root name → root ≢ unfinished_cid → (0 ∷ name) ∷ [] ≢ unfinished_root ∷ []
other_roots laws cids root name spelled other e =
    let unfinished : List ℕ = 1 ∷ 0x55 ∷ 0x12 ∷ 0x20 ∷ replicate 32 0 in
    let roots : 0 ∷ name ≡ unfinished_root = cc e in
    let names : name ≡ unfinished = cc roots in
    other (cids.no_front root unfinished_cid name unfinished [] [] spelled (unfinished_spelled laws) (ap (λ (l : List ℕ). l ++ []) names)).1

-- what is read as a directory has the codec of its nodes
not_raw : (codec : Codec) (block : List ℕ) (kind : Kind) → ReadsUnder codec block kind → kind ≢ Raw → codec ≢ codecs.Raw
not_raw codecs.Raw block kind h other e = other h
not_raw codecs.DagPb block kind h other e = cc e

root_codec : (tree : Tree) (d : Dag) → sort_of tree ≡ sorts.Folder → IsSound d → Shows d tree → (root_cid d).codec ≢ codecs.Raw
root_codec tree (unopened cid) s sound h = absurd h
root_codec tree (bare section fault) s sound h = absurd h
root_codec tree (node section Raw children) s sound h = absurd (cc (directory_of tree (node section Raw children) s h).directory)
root_codec tree (node section (File inline filesize parts) children) s sound h = not_raw section.cid.codec section.block _ sound.checked.0.reads (λ e. cc e)
root_codec tree (node section (Basic es) children) s sound h = not_raw section.cid.codec section.block _ sound.checked.0.reads (λ e. cc e)
root_codec tree (node section (Shard slots) children) s sound h = not_raw section.cid.codec section.block _ sound.checked.0.reads (λ e. cc e)
root_codec tree (node section (Symlink target) children) s sound h = not_raw section.cid.codec section.block _ sound.checked.0.reads (λ e. cc e)

-- ---- the first section under each CID is one of them

all_beside : (P : Section → Type 0) (keys : List Key) (sections : List Section) → All P sections → All P (new_beside keys sections)
all_beside P keys [] h = All-nil P
all_beside P keys (s ∷ sections) h =
    by (is_held keys s.cid) (all_beside P keys sections (All-tail P s sections h)) (all_beside P (keys ++ key_of s.cid ∷ []) sections (All-tail P s sections h))
  where
    by : (b : Bool) → All P (new_beside keys sections) → All P (new_beside (keys ++ key_of s.cid ∷ []) sections)
        → All P (cond b (new_beside keys sections) (s ∷ new_beside (keys ++ key_of s.cid ∷ []) sections))
    by true past here = past
    by false past here = All-cons P s (new_beside (keys ++ key_of s.cid ∷ []) sections) (All-head P s sections h) here

abbrev pub IsFew : Section → Type 0
IsFew s = length s.block ≤ max_block_len

-- ---- no cause

abbrev pub NoneCaused : Type 0
NoneCaused = (content : List ℕ) (store : Store) (fault : PackFault) → IsAttached content store → HasPackCause content fault → ⊥

module _ (none : NoneCaused) (laws : SpellingLaws) (cids : OneSpelling) (tree : Tree) (folder : sort_of tree ≡ sorts.Folder) (d : Dag) (content : List ℕ)
    (holds : HoldsImported tree d content) (small : All IsFew (blocks d)) where
  abbrev cars : List CarSection
  cars = map in_car (first_of_each holds.sections)

  -- what holds of each block of the DAG holds of each section that is kept
  kept : (P : Section → Type 0) → All P (blocks d) → All P (first_of_each holds.sections)
  kept P h =
      all_beside P [] holds.sections
      (λ k other less. All-contains P (blocks d) _ h ((holds.all _).1 (All-contains_itself holds.sections k other less)))

  attached : IsAttached content (first_block cars)
  attached = record {
    roots = (0 ∷ holds.car.name) ∷ [];
    sections = cars;
    text = holds.car.text;
    finished = other_roots laws cids (root_cid d) holds.car.name holds.car.spelled
        (λ e. root_codec tree d folder holds.imported.sound holds.imported.shows (ap (λ (c : CidParts). c.codec) e));
    named = All-map IsNamed in_car (first_of_each holds.sections)
        (kept (λ x. Names x.cid x.block) (named_each top d holds.imported.sound.whole holds.imported.sound.checked));
    small = All-map IsSmall in_car (first_of_each holds.sections) (kept IsFew small);
    stored = λ cid. refl;
  }

  pub no_pack_cause : (fault : PackFault) → HasPackCause content fault → ⊥
  no_pack_cause fault h = none content (first_block cars) fault attached h

-- ---- where the bundle is within the limits no block is too large

abbrev pub Everything : Type 0
Everything = (q : QueryParts) (d t : Dag) → IsSound d → (path_walk q.path d).end ≡ terminal t → q.scope ≡ scopes.All → opened_list q d ≡ (path_walk q.path d).sections ++ blocks t

at_root : (d : Dag) → IsWhole d → ((path_walk [] d).end ≡ terminal d) × ((path_walk [] d).sections ≡ [])
at_root (unopened cid) w = absurd w
at_root (bare section fault) w = absurd w
at_root (node section kind children) w = (refl, refl)

all_asked : (q : QueryParts) (sections : List Section) → All HasPlainCid sections → asked q sections ≡ sections
all_asked q [] h = refl
all_asked q (s ∷ sections) h =
    let hash = (All-head HasPlainCid s sections h).1 in
    let is : is_asked q s.cid ≡ true = ap (λ k. is_raw q.form || is_hashed k) hash ∙ or_true (is_raw q.form) in
    rw is (ap (λ (l : List Section). s ∷ l) (all_asked q sections (All-tail HasPlainCid s sections h)))
  where
    or_true : (b : Bool) → (b || true) ≡ true
    or_true true = refl
    or_true false = refl

below_greatest : (numbers : List ℕ) (most : ℕ) → greatest numbers ≤ most → All (λ n. n ≤ most) numbers
below_greatest [] most h = All-nil (λ n. n ≤ most)
below_greatest (n ∷ numbers) most h =
    All-cons (λ n. n ≤ most) n numbers (omega (arith, h)) (below_greatest numbers most (omega (arith, h)))

sizes_few : (sections : List Section) → All (λ n. n ≤ max_block_len) (map (λ section. length section.block) sections) → All IsFew sections
sizes_few [] h = All-nil IsFew
sizes_few (s ∷ sections) h =
    All-cons IsFew s sections (All-head (λ n. n ≤ max_block_len) (length s.block) (map (λ section. length section.block) sections) h)
    (sizes_few sections (All-tail (λ n. n ≤ max_block_len) (length s.block) (map (λ section. length section.block) sections) h))

pub few_blocks : Everything → (d : Dag) → IsSound d → All HasPlainCid (blocks d) → (counts (bundle_query (root_cid d)) d).block ≤ max_block_len → All IsFew (blocks d)
few_blocks everything d sound plain within =
    let q = bundle_query (root_cid d) in
    let (end, way) = at_root d sound.whole in
    let opened : opened_list q d ≡ blocks d = everything q d d sound end refl ∙ ap (λ (l : List Section). l ++ blocks d) way in
    let sent : asked q (opened_list q d) ≡ blocks d = ap (asked q) opened ∙ all_asked q (blocks d) plain in
    sizes_few (blocks d)
    (subst (λ (l : List Section). All (λ n. n ≤ max_block_len) (map (λ section. length section.block) l)) sent
    (below_greatest (map (λ section. length section.block) (asked q (opened_list q d))) max_block_len within))
