-- The DAG of a file: what it shows at its place, and what it counts.
use Rattle.std.proofs.Common.{inr, ◌≡◌, ℕ, List, [], ◌++◌, Option, Some, None, length, refl, ap, sym, ◌∙◌, subst}
use Rattle.std.specs.Prelude.{IfSome, option_map}
use Rattle.std.proofs.lemmas.List.{append-nil}
use Rattle.tg_import.specs.Counting.{counts_of, one_file, plus}
use Rattle.tg_import.specs.Imported.{layout}
use Rattle.tg_import.specs.Refused.{IsTooLong, PassesTotal}
use Rattle.tg_import.specs.Steps.{ImportsAs}
use Rattle.tg_import.specs.declared.summary.Options.{Options}
use Rattle.tg_import.specs.declared.summary.Summary.{Summary}
use Rattle.tg_import_file.specs.Files.{KeepsFile}
use Rattle.tg_model_laws.specs.Contents.{no_content}
use Rattle.tg_model.specs.Stores.{Keeping}
use Rattle.tg_model.specs.Content.{content, content_of_children}
use Rattle.tg_model.specs.Dag.{Children, Dag, IsWhole, bare, node, unopened}
use Rattle.tg_model.specs.ShowsTree.{Shows, target_within}
use Rattle.tg_model.specs.declared.kinds.Kind.TheVariants.{Basic, File, Raw, Shard, Symlink}
use Rattle.tg_model.specs.declared.kinds.Made.{Made}
use Rattle.tg_tree.specs.Tree.{HasFileAt, below, bytes_of, bytes_within, sort_of, sort_within, tree_at}
use Rattle.tg_tree.specs.declared.items.Sort.TheVariants as sorts
use Rattle.tg_tree.specs.declared.tree.Tree.TheOpen as trees
use Rattle.tg_tree.specs.declared.tree.Tree.{Tree, Tree-F, out-Tree, roll-Tree}

-- ---- what stands at the place of a file

bytes_are : (o : Tree-F Tree) → sort_within o ≡ sorts.File → (bytes : List ℕ) × (bytes_within o ≡ Some bytes)
bytes_are (trees.File bytes) e = (bytes, refl)
bytes_are (trees.Folder entries) e = absurd (cc)
bytes_are (trees.Symlink target) e = absurd (cc)
bytes_are trees.Other e = absurd (cc)

shown_where : (d : Dag) (found : Option Tree) → option_map sort_of found ≡ Some sorts.File → IfSome (bytes_of found) (λ bytes. content d ≡ bytes)
    → ((tree : Tree) → bytes_of (Some tree) ≡ Some (content d) → Shows d tree) → IfSome found (Shows d)
shown_where d None at has shows = tt
shown_where d (Some tree) at has shows =
    let sort : sort_of tree ≡ sorts.File = cc in
    let bytes = bytes_are (out-Tree tree) sort in
    let same : content d ≡ bytes.0 = subst (λ (o : Option (List ℕ)). IfSome o (λ bytes. content d ≡ bytes)) bytes.1 has in
    shows tree (bytes.1 ∙ ap (λ (b : List ℕ). Some b) (sym same))

pub file_shown : (told : Option Tree) (path : List (List ℕ)) (d : Dag) → HasFileAt told path → IfSome (bytes_of (tree_at told path)) (λ bytes. content d ≡ bytes)
    → ((tree : Tree) → bytes_of (Some tree) ≡ Some (content d) → Shows d tree) → IfSome (tree_at told path) (Shows d)
file_shown None path d at has shows = tt
file_shown (Some root) path d at has shows = shown_where d (below root path) at has shows

-- ---- what it counts

-- a file without a byte isn't shown by what is no file
abbrev empty_file : Tree
empty_file = roll-Tree (trees.File [])

opened : out-Tree empty_file ≡ trees.File []
unfolding out-Tree denote.Hole.Carrier.out roll-Tree denote.Hole.Carrier.roll
opened = refl

empty_is : (children : Children) → bytes_of (Some empty_file) ≡ Some (content_of_children [] children)
empty_is children = ap bytes_within opened ∙ ap (λ (b : List ℕ). Some b) (sym (no_content children))

pub file_counts : (d : Dag) → ((tree : Tree) → bytes_of (Some tree) ≡ Some (content d) → Shows d tree) → IsWhole d → counts_of d ≡ one_file (length (content d))
file_counts (unopened cid) shows whole = absurd whole
file_counts (bare section fault) shows whole = absurd whole
file_counts (node section Raw children) shows whole =
    ap (λ (bytes : List ℕ). one_file (length bytes)) (sym (ap (λ (more : List ℕ). section.block ++ more) (no_content children) ∙ append-nil section.block))
file_counts (node section (File inline filesize parts) children) shows whole = refl
file_counts (node section (Basic es) children) shows whole =
    let shown = shows empty_file (empty_is children) in
    let wrong : sorts.File ≡ sorts.Folder = sym (ap sort_within opened) ∙ shown.0.folder in
    absurd (cc)
file_counts (node section (Shard slots) children) shows whole =
    let shown = shows empty_file (empty_is children) in
    let wrong : sorts.File ≡ sorts.Folder = sym (ap sort_within opened) ∙ shown.0.folder in
    absurd (cc)
file_counts (node section (Symlink target) children) shows whole =
    let shown = shows empty_file (empty_is children) in
    let wrong : None ≡ Some target = sym (ap target_within opened) ∙ shown in
    absurd (cc)

-- a file that was kept was imported
pub file_imports : (options : Options) (told : Option Tree) (path at : List (List ℕ)) (chunk width : ℕ) (counted : Summary) (made : Made) (summary : Summary) (keeping : Keeping)
    → at ≡ path → chunk ≡ options.chunk → width ≡ options.width → HasFileAt told path → KeepsFile chunk width (bytes_of (tree_at told at)) made keeping
    → summary ≡ plus counted (one_file made.content) → ImportsAs options told path counted made summary keeping
file_imports options told path at chunk width counted made summary keeping here chunk_is width_is is_file kept summary_is =
    let file = kept.file in
    let has = subst (λ (p : List (List ℕ)). IfSome (bytes_of (tree_at told p)) (λ bytes. content kept.d ≡ bytes)) here file.content_is in
    record {
      d = kept.d;
      kept = record {
        imported = record {
          sound = file.sound;
          laid = file.laid (layout options) (sym chunk_is) (sym width_is);
          plain = file.plain;
          shows = file_shown told path kept.d is_file has file.shows;
        };
        sections = kept.sections;
        keeps = kept.keeps;
        all = kept.all;
        order = kept.order;
      };
      cid = file.cid;
      tsize = file.tsize;
      summary_is = summary_is ∙ ap (λ (n : ℕ). plus counted (one_file n)) file.size
          ∙ ap (plus counted) (sym (file_counts kept.d file.shows file.sound.whole));
    }

-- ---- a file with which a number would pass its limit

pub passes_total : (bytes : Option (List ℕ)) (counted : Summary) (chunk width : ℕ) (made : Made) (keeping : Keeping) → KeepsFile chunk width bytes made keeping → PassesTotal (plus counted (one_file made.content))
    → IfSome bytes (λ bytes. IsTooLong counted (length bytes))
passes_total None counted chunk width made keeping kept h = tt
passes_total (Some bytes) counted chunk width made keeping kept h =
    inr (subst (λ (n : ℕ). PassesTotal (plus counted (one_file n))) (kept.file.size ∙ ap length kept.file.content_is) h)
