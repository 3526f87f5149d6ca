-- The file that was made of what was taken.
use Rattle.std.proofs.Common.{Err, Ok, Result, ◌≡◌, ◌<◌, ◌≤◌, ℕ, List, Some, [], ◌∷◌, ◌++◌, length, sym, ap, ◌∙◌, subst, inl, inr, arith, append_assoc}
use Rattle.std.specs.Prelude.{Contains, IfErr}
use Rattle.std.proofs.lemmas.List.{append-nil}
use Rattle.std.proofs.lemmas.List.Elements.{Contains-append_cases, Contains-append_left, Contains-append_right}
use Rattle.tg_filedag.specs.Chunks.{AreChunks, ChunkerState}
use Rattle.tg_filedag.specs.MadeFile.{IsMadeFile, leaves_for}
use Rattle.tg_filedag.specs.State.{BalancedState, IsFrontFor, KeptInOrder, StandsFor}
use Rattle.tg_filedag.specs.Trees.{AreOfFileParts, bottom_up, bottom_up_of_children}
use Rattle.tg_node_writing.specs.BlockOrder.{AreBehindLinks}
use Rattle.tg_node_writing.specs.KeepingSteps.{Joins, keeps_both, stops_behind}
use Rattle.tg_import_file.specs.Files.{AreBlocksOf, IsFileOf}
use Rattle.tg_import_file.specs.Taking.{HasLinked, LinksLast, MakesFile, Stops}
use Rattle.tg_model_laws.specs.Contents.{no_content}
use Rattle.tg_model_laws.specs.Stores.{KeepingJoins}
use Rattle.tg_model.specs.Content.{content}
use Rattle.tg_model.specs.Dag.{Children, Dag, IsWhole, Section, bare, blocks, blocks_of_children, no_child, node, unopened, with_child}
use Rattle.tg_model.specs.ImportLayout.{leaves}
use Rattle.tg_model.specs.ShowsTree.{Shows}
use Rattle.tg_model.specs.Stores.{KeepMeaning, Keeping, kept_in}
use Rattle.tg_model.specs.declared.kinds.Kind.TheVariants.{Basic, File, Raw, Shard, Symlink}
use Rattle.tg_model.specs.declared.kinds.Made.{Made}
use Rattle.tg_model.specs.declared.stores.KeepFault.{KeepFault}
use Rattle.tg_tree.specs.Tree.{bytes_of}
use Rattle.tg_tree.specs.declared.tree.Tree.{Tree}
use Rattle.tg_node_writing.specs.Keeping.{Keeps, StopsAfter}

-- ---- what is kept are the blocks

mutual
  kept_block : (d : Dag) (section : Section) → Contains (blocks d) section → Contains (bottom_up d) section
  kept_block (unopened cid) section h = h
  kept_block (bare own fault) section h = h
  kept_block (node own kind children) section h = elim (Contains-append_cases (own ∷ []) (blocks_of_children children) section h) [
    | inl here ↦ Contains-append_right (bottom_up_of_children children) (own ∷ []) section here
    | inr below ↦ Contains-append_left (bottom_up_of_children children) (own ∷ []) section (kept_below children section below)
  ]

  kept_below : (children : Children) (section : Section) → Contains (blocks_of_children children) section → Contains (bottom_up_of_children children) section
  kept_below no_child section h = h
  kept_below (with_child d children) section h = elim (Contains-append_cases (blocks d) (blocks_of_children children) section h) [
    | inl here ↦ Contains-append_left (bottom_up d) (bottom_up_of_children children) section (kept_block d section here)
    | inr more ↦ Contains-append_right (bottom_up d) (bottom_up_of_children children) section (kept_below children section more)
  ]

mutual
  block_kept : (d : Dag) (section : Section) → Contains (bottom_up d) section → Contains (blocks d) section
  block_kept (unopened cid) section h = h
  block_kept (bare own fault) section h = h
  block_kept (node own kind children) section h = elim (Contains-append_cases (bottom_up_of_children children) (own ∷ []) section h) [
    | inl below ↦ Contains-append_right (own ∷ []) (blocks_of_children children) section (below_kept children section below)
    | inr here ↦ Contains-append_left (own ∷ []) (blocks_of_children children) section here
  ]

  below_kept : (children : Children) (section : Section) → Contains (bottom_up_of_children children) section → Contains (blocks_of_children children) section
  below_kept no_child section h = h
  below_kept (with_child d children) section h = elim (Contains-append_cases (bottom_up d) (bottom_up_of_children children) section h) [
    | inl here ↦ Contains-append_left (blocks d) (blocks_of_children children) section (block_kept d section here)
    | inr more ↦ Contains-append_right (blocks d) (blocks_of_children children) section (below_kept children section more)
  ]

pub are_blocks : (d : Dag) → AreBlocksOf d (bottom_up d)
are_blocks d section = (kept_block d section, block_kept d section)

-- ---- what a file shows

some_leaf : (chunks : List (List ℕ)) → 0 < length (leaves_for chunks)
some_leaf [] = omega arith
some_leaf (chunk ∷ chunks) = omega arith

no_leaf : {X : Type 0} (chunks : List (List ℕ)) → ◌≡◌ {A = List (List ℕ)} [] (leaves_for chunks) → X
no_leaf chunks e =
    let some = some_leaf chunks in
    let count : 0 ≡ length (leaves_for chunks) = ap length e in
    absurd (omega arith)

shows_file : (d : Dag) (chunks : List (List ℕ)) (tree : Tree) → IsWhole d → leaves d ≡ leaves_for chunks → bytes_of (Some tree) ≡ Some (content d) → Shows d tree
shows_file (unopened cid) chunks tree whole are is = absurd whole
shows_file (bare section fault) chunks tree whole are is = absurd whole
shows_file (node section Raw children) chunks tree whole are is =
    is ∙ ap (λ (t : List ℕ). Some (section.block ++ t)) (no_content children) ∙ ap Some (append-nil section.block)
shows_file (node section (File inline filesize parts) children) chunks tree whole are is = is
shows_file (node section (Basic es) children) chunks tree whole are is = no_leaf chunks are
shows_file (node section (Shard slots) children) chunks tree whole are is = no_leaf chunks are
shows_file (node section (Symlink target) children) chunks tree whole are is = no_leaf chunks are

-- ---- the file

pub file_of : (size width : ℕ) (chunks : List (List ℕ)) (b : BalancedState) (bytes : List ℕ) (kept : List Section) (made : Made) (d : Dag) → 1 ≤ size
    → (linked : HasLinked size b bytes kept) → IsMadeFile width linked.chunks d made → IsFileOf size width (Some bytes) made d
file_of size width chunks b bytes kept made d one linked h = record {
  sound = h.sound;
  laid = λ options c w. h.laid options w (subst (λ (n : ℕ). 1 ≤ n) (sym c) one) (subst (λ (n : ℕ). AreChunks n linked.chunks) (sym c) linked.are);
  plain = h.plain;
  content_is = h.content_is ∙ linked.bytes_are;
  shows = λ tree is. shows_file d linked.chunks tree h.sound.whole h.leaves_are is;
  cid = h.made_of.cid;
  size = h.made_of.content_len;
  tsize = h.made_of.tsize;
}

-- what linking all gives
abbrev pub Finishes : ℕ → BalancedState → Made → Keeping → Type 0
Finishes width b made keeping = (chunks : List (List ℕ)) (kept : List Section) → StandsFor b chunks kept
    → (sections : List Section) × (d : Dag) × Keeps sections keeping × IsMadeFile width chunks d made × (kept ++ sections ≡ bottom_up d)
    × AreBehindLinks [] (kept ++ sections)

pub makes_file : {S : Type 0} → (m : KeepMeaning S) → Joins m → KeepingJoins → (x y z : S) (c : ChunkerState) (b b' : BalancedState) (made : Made) → b'.width ≡ b.width
    → LinksLast c b b' (kept_in m x y) → Finishes b'.width b' made (kept_in m y z) → MakesFile c b made (kept_in m x z)
makes_file m joins stores x y z c b b' made width last finishes bytes kept h =
    let first = last bytes kept h in
    let linked = first.2 in
    let rest = finishes linked.chunks (kept ++ first.0) linked.stands in
    let room = h.room in (
      first.0 ++ rest.0,
      rest.1,
      keeps_both m joins stores x y z first.0 rest.0 first.1 rest.2,
      file_of c.size b.width linked.chunks b' bytes (kept ++ first.0) made rest.1 (omega arith) linked (subst (λ (n : ℕ). IsMadeFile n linked.chunks rest.1 made) width rest.3),
      sym (append_assoc kept first.0 rest.0) ∙ rest.4,
      subst (AreBehindLinks []) (append_assoc kept first.0 rest.0) rest.5,
    )

-- linking all stops with a fault
abbrev pub StopsFinishing : BalancedState → KeepFault → Keeping → List (List ℕ) → List Section → Type 0
StopsFinishing b fault keeping chunks kept = (sections : List Section) × StopsAfter sections fault keeping × IsFrontFor b.width chunks kept sections

pub stops_last : KeptInOrder → {S : Type 0} → (m : KeepMeaning S) → Joins m → KeepingJoins → (x y z : S) (c : ChunkerState) (b b' : BalancedState) (r : Result Made KeepFault)
    → LinksLast c b b' (kept_in m x y)
    → ((chunks : List (List ℕ)) (kept : List Section) → StandsFor b' chunks kept → IfErr r (λ fault. StopsFinishing b' fault (kept_in m y z) chunks kept))
    → IfErr r (λ fault. Stops c b fault (kept_in m x z))
stops_last order m joins stores x y z c b b' (Ok made) last stops = tt
stops_last order m joins stores x y z c b b' (Err fault) last stops = λ bytes kept h.
    let first = last bytes kept h in
    let linked = first.2 in
    let stop = stops linked.chunks (kept ++ first.0) linked.stands in (
      first.0 ++ stop.0,
      stops_behind m joins stores x y z first.0 stop.0 fault first.1 stop.1,
      subst AreOfFileParts (append_assoc kept first.0 stop.0)
          (order.front b' linked.chunks linked.chunks (kept ++ first.0) stop.0 linked.stands stop.2),
    )
