-- Why an import of a folder stops, from why one of its steps did.
use Rattle.std.proofs.Common.{Result, Ok, Err, Some, None, ◌≡◌, ◌≢◌, ◌⊎◌, inl, inr, ⊎_elim, ℕ, zero, suc, ◌+◌, ◌-◌, ◌<◌, cond, List, Option, [], ◌∷◌, ◌++◌, length, get_or, take, drop, refl, ap, sym, ◌∙◌, subst, arith, map-id}
use Rattle.std.specs.Prelude.{Contains, IfOk, OnOk, nat_lt}
use Rattle.std.proofs.lemmas.List.{append-nil}
use Rattle.std.proofs.lemmas.List.Elements.{All-contains}
use Rattle.std.proofs.lemmas.List.Sorted.{All-permutation}
use Rattle.std.specs.Iterator.{Yields}
use Rattle.std.specs.Vec.Iter.{into_iter_items, into_iter_len, into_iter_steps}
use Rattle.std.specs.declared.vec.IntoIter.{IntoIter}
use Rattle.std.proofs.lemmas.Iterator.{YieldsList}
use Rattle.std.proofs.lemmas.Iterator.Adapters.{YieldsList-from_vec}
use Rattle.std.proofs.lemmas.Iterator.Consumers.{YieldsList-end, YieldsList-so_far, YieldsList-turn}
use Rattle.tg_files.specs.Folders.{FolderMeaning, FolderQuiet, Leads, SameFolder, folder_step}
use Rattle.tg_import.proofs.FoldersMade.{folder_blocks, folder_counts, folder_imported, sound_all, tsizes_listed}
use Rattle.tg_dir.specs.Made.{IsMadeBy, MakesDirectory}
use Rattle.tg_import.proofs.NamesInOrder.{around}
use Rattle.tg_model.specs.declared.kinds.Made.{Made}
use Rattle.tg_tree.specs.Tree.{HasFolderAt, IsAt}
use Rattle.tg_node_writing.specs.KeepingSteps.{Joins, counted_behind, counted_on, keeps_both, keeps_nothing, same_stops, stops_behind}
use Rattle.tg_import.proofs.SoFar.{IsSoFar, entries_behind, weights}
use Rattle.tg_import.specs.Counting.{counts_of_children, one_folder, one_sharded, plus}
use Rattle.tg_import.specs.Imported.{AreEntryNames, AreItemsOf}
use Rattle.tg_import.specs.Refused.{HasDirectoryFault, HasItemFault, HasNameFault, IsCauseBy, IsCrowdedFault, IsFileFault, IsImportCause, KeepsRefused, KeepsSome, PassesTotal, Refusal, RefusesFolder, StopsSome, item_names, max_total, own_count, sort_fault, weight_of_items}
use Rattle.tg_import.specs.Steps.{ImportsAs, IsEntriesCause, IsListCause, IsWriterFor, own_count_for, tsizes_for}
use Rattle.tg_import.specs.declared.fault.ImportFault.TheVariants as faults
use Rattle.tg_import.specs.declared.fault.ImportFault.{ImportFault}
use Rattle.tg_import.specs.declared.folder.Importer.{Importer}
use Rattle.tg_import.specs.declared.summary.Options.{Options}
use Rattle.tg_import.specs.declared.summary.Summary.{Summary}
use Rattle.tg_import_file.specs.Files.{FileWriterState}
use Rattle.tg_model_laws.specs.Stores.{KeepingJoins}
use Rattle.tg_model.specs.Dag.{Section}
use Rattle.tg_model.specs.Stores.{KeepMeaning, kept_in}
use Rattle.tg_model.specs.declared.kinds.NewEntry.{NewEntry}
use Rattle.tg_model.specs.declared.stores.KeepFault.TheVariants as keep_faults
use Rattle.tg_model.specs.declared.stores.KeepFault.{KeepFault}
use Rattle.tg_tree.specs.declared.items.Item.{Item}
use Rattle.tg_tree.specs.declared.items.Sort.TheVariants as sorts
use Rattle.tg_tree.specs.declared.items.Sort.{Sort}
use Rattle.tg_tree.specs.declared.tree.Tree.{Tree}
use Rattle.tg_node_writing.specs.BlockOrder.{AreBehindLinks}
use Rattle.tg_node_writing.specs.BlockOrderLaws.{behind_apart, behind_nothing}
use Rattle.tg_node_writing.specs.Keeping.{Keeps}

-- ---- a step behind others

module _ {S T : Type 0} (m : KeepMeaning S) (f : FolderMeaning T) (joins : Joins m) (stores : KeepingJoins) (k0 k1 k2 : S) (t0 t1 t2 : T) (u : List Section) (quiet : f.faults t1 ≡ f.faults t0)
    (keeps : Keeps u (kept_in m k0 k1)) (order : AreBehindLinks [] u) where
  some_behind : KeepsSome (kept_in m k1 k2) → KeepsSome (kept_in m k0 k2)
  some_behind some = (u ++ some.0, keeps_both m joins stores k0 k1 k2 u some.0 keeps some.1, behind_apart u some.0 order some.2)

  stop_behind : (fault : KeepFault) → StopsSome fault (kept_in m k1 k2) → StopsSome fault (kept_in m k0 k2)
  stop_behind fault some = (u ++ some.0, stops_behind m joins stores k0 k1 k2 u some.0 fault keeps some.1, behind_apart u some.0 order some.2)

  refused_behind : (Refused Wider : List Section → Type 0) → ((kept : List Section) → Refused kept → Wider (u ++ kept))
      → FolderQuiet (folder_step f t1 t2) × KeepsRefused Refused (kept_in m k1 k2) → FolderQuiet (folder_step f t0 t2) × KeepsRefused Wider (kept_in m k0 k2)
  refused_behind Refused Wider wider h =
      let some = h.1 in
      (h.0 ∙ quiet, (u ++ some.0, keeps_both m joins stores k0 k1 k2 u some.0 keeps some.1, behind_apart u some.0 order some.2, wider some.0 some.3))

  pub cause_behind : (Refused Wider : List Section → ImportFault → Type 0) (fault : ImportFault) → ((kept : List Section) → Refused kept fault → Wider (u ++ kept) fault)
      → IsCauseBy Refused fault (folder_step f t1 t2) (kept_in m k1 k2) → IsCauseBy Wider fault (folder_step f t0 t2) (kept_in m k0 k2)
  cause_behind Refused Wider faults.Folder wider h =
      (record { rose = counted_on keep_faults.Failed (f.faults t0) (f.faults t1) (f.faults t2) quiet h.0.rose; counted = counted_behind (f.faults t0) (f.faults t1) (f.faults t2) quiet h.0.counted }, some_behind h.1)
  cause_behind Refused Wider faults.Keep wider h = (h.0 ∙ quiet, stop_behind keep_faults.Failed h.1)
  cause_behind Refused Wider faults.OutOfMemory wider h = (h.0 ∙ quiet, stop_behind keep_faults.OutOfMemory h.1)
  cause_behind Refused Wider (faults.TooDeep at) wider h = refused_behind (λ kept. Refused kept (faults.TooDeep at)) (λ kept. Wider kept (faults.TooDeep at)) wider h
  cause_behind Refused Wider (faults.BadName at) wider h = refused_behind (λ kept. Refused kept (faults.BadName at)) (λ kept. Wider kept (faults.BadName at)) wider h
  cause_behind Refused Wider (faults.LongName at) wider h = refused_behind (λ kept. Refused kept (faults.LongName at)) (λ kept. Wider kept (faults.LongName at)) wider h
  cause_behind Refused Wider (faults.SameHash a b) wider h = refused_behind (λ kept. Refused kept (faults.SameHash a b)) (λ kept. Wider kept (faults.SameHash a b)) wider h
  cause_behind Refused Wider (faults.NotPlain at) wider h = refused_behind (λ kept. Refused kept (faults.NotPlain at)) (λ kept. Wider kept (faults.NotPlain at)) wider h
  cause_behind Refused Wider (faults.TooBig at) wider h = refused_behind (λ kept. Refused kept (faults.TooBig at)) (λ kept. Wider kept (faults.TooBig at)) wider h

-- nothing was kept, and memory is wanted
pub memory_cause : {S T : Type 0} → (m : KeepMeaning S) (f : FolderMeaning T) → ((s : S) → m.kept s s []) → (k : S) (t0 t1 : T) (Refused : List Section → ImportFault → Type 0) → f.faults t1 ≡ f.faults t0
    → IsCauseBy Refused faults.OutOfMemory (folder_step f t0 t1) (kept_in m k k)
memory_cause m f rests k t0 t1 Refused quiet = (quiet, ([], same_stops m rests k, behind_nothing []))

-- a folder that lies too deep, of which nothing was kept
pub deep_cause : {S T : Type 0} → (m : KeepMeaning S) (f : FolderMeaning T) → ((s : S) → m.kept s s []) → (k : S) (t0 : T) (levels : ℕ) (options : Options) (path at : List (List ℕ)) (counted : Summary)
    → levels ≡ 0 → at ≡ path → IsImportCause levels options (f.tree t0) path counted (faults.TooDeep at) (folder_step f t0 t0) (kept_in m k k)
deep_cause m f rests k t0 zero options path at counted none here = (refl, ([], keeps_nothing m rests k, behind_nothing [], (refl, here)))
deep_cause m f rests k t0 (suc levels) options path at counted none here = absurd (omega (arith, none))

-- ---- the folder's fault

module _ (options : Options) (told : Option Tree) (path : List (List ℕ)) (counted : Summary) (kept : List Section) (fault : ImportFault) (items : List Item) where
  abbrev Inner : ℕ → List (List ℕ) → Summary → List Section → ImportFault → Type 0
  Inner levels = λ path counted kept fault. RefusesFolder levels options told path counted kept fault

  abbrev Below : ℕ → Type 0
  Below levels = ((kept ≡ []) × IsCrowdedFault path items fault) ⊎ (((kept ≡ []) × HasNameFault path items fault) ⊎ (AreEntryNames (item_names items)
      × (HasItemFault (Inner levels) options told path counted items kept fault ⊎ HasDirectoryFault options told path counted items kept fault)))

  pub deeper : (levels : ℕ) → levels ≢ 0 → AreItemsOf told path items → Below (levels - 1) → RefusesFolder levels options told path counted kept fault
  deeper zero some of h = absurd (some refl)
  deeper (suc levels) some of h = (items, of, (let e : suc levels - 1 ≡ levels = omega arith in subst Below e h))

  listing : (levels : ℕ) → kept ≡ [] → IsCrowdedFault path items fault ⊎ HasNameFault path items fault → Below levels
  listing levels none h = ⊎_elim (λ (x : IsCrowdedFault path items fault). inl (none, x)) (λ (x : HasNameFault path items fault). inr (inl (none, x))) h

-- why a folder isn't listed
listed_refused : {S T : Type 0} → (m : KeepMeaning S) (f : FolderMeaning T) → ((s : S) → m.kept s s []) → (k : S) (t0 t1 : T) (levels : ℕ) (options : Options) (path : List (List ℕ)) (counted : Summary) (fault : ImportFault)
    → levels ≢ 0 → FolderQuiet (folder_step f t0 t1) × ((items : List Item) × AreItemsOf (f.tree t0) path items × (IsCrowdedFault path items fault ⊎ HasNameFault path items fault))
    → FolderQuiet (folder_step f t0 t1) × KeepsRefused (λ kept. RefusesFolder levels options (f.tree t0) path counted kept fault) (kept_in m k k)
listed_refused m f rests k t0 t1 levels options path counted fault some h =
    let found = h.1 in (
      h.0,
      (
        [],
        keeps_nothing m rests k,
        behind_nothing [],
        deeper options (f.tree t0) path counted [] fault found.0 levels some found.1
            (listing options (f.tree t0) path counted [] fault found.0 (levels - 1) refl found.2),
      ),
    )

pub list_cause : {S T : Type 0} → (m : KeepMeaning S) (f : FolderMeaning T) → ((s : S) → m.kept s s []) → (k : S) (t0 t1 : T) (levels : ℕ) (options : Options) (path : List (List ℕ)) (counted : Summary) (fault : ImportFault)
    → levels ≢ 0 → IsListCause (f.tree t0) path fault (folder_step f t0 t1) → IsImportCause levels options (f.tree t0) path counted fault (folder_step f t0 t1) (kept_in m k k)
list_cause m f rests k t0 t1 levels options path counted faults.Folder some h = (h, ([], keeps_nothing m rests k, behind_nothing []))
list_cause m f rests k t0 t1 levels options path counted faults.Keep some h =
    absurd (⊎_elim (λ (x : IsCrowdedFault path h.1.0 faults.Keep). x) (λ (x : HasNameFault path h.1.0 faults.Keep). x.is) h.1.2)
list_cause m f rests k t0 t1 levels options path counted faults.OutOfMemory some h = (h, ([], same_stops m rests k, behind_nothing []))
list_cause m f rests k t0 t1 levels options path counted (faults.TooDeep at) some h = listed_refused m f rests k t0 t1 levels options path counted (faults.TooDeep at) some h
list_cause m f rests k t0 t1 levels options path counted (faults.BadName at) some h = listed_refused m f rests k t0 t1 levels options path counted (faults.BadName at) some h
list_cause m f rests k t0 t1 levels options path counted (faults.LongName at) some h = listed_refused m f rests k t0 t1 levels options path counted (faults.LongName at) some h
list_cause m f rests k t0 t1 levels options path counted (faults.SameHash a b) some h = listed_refused m f rests k t0 t1 levels options path counted (faults.SameHash a b) some h
list_cause m f rests k t0 t1 levels options path counted (faults.NotPlain at) some h = listed_refused m f rests k t0 t1 levels options path counted (faults.NotPlain at) some h
list_cause m f rests k t0 t1 levels options path counted (faults.TooBig at) some h = listed_refused m f rests k t0 t1 levels options path counted (faults.TooBig at) some h

-- ---- an entry's fault

pub split_at : (items taken : List Item) (item : Item) → length taken < length items → item ≡ get_or items (length taken) item → taken ≡ take (length taken) items
    → items ≡ taken ++ item ∷ drop (length taken + 1) items
split_at items taken item lt is front =
    around items (length taken) item lt is ∙ ap (λ (l : List Item). l ++ item ∷ drop (length taken + 1) items) (sym front)

-- what is at fault in the entry at its place
pub item_refused : {S T : Type 0} → (m : KeepMeaning S) (f : FolderMeaning T) (k0 k1 : S) (t0 t1 : T) (options : Options) (path : List (List ℕ)) (counted : Summary) (options_now : Options) (writer : FileWriterState)
    (summary : Summary) (taken items : List Item) (item : Item) (entries : List NewEntry) (levels : ℕ) (fault : ImportFault)
    → (so_far : IsSoFar m f k0 k1 t0 t1 options path counted options_now writer summary taken entries)
    → levels ≢ 0 → AreItemsOf (f.tree t0) path items → AreEntryNames (item_names items) → length taken < length items → item ≡ get_or items (length taken) item → taken ≡ take (length taken) items
    → (rest : List Section)
    → sort_fault (λ path counted kept fault. RefusesFolder (levels - 1) options_now (f.tree t1) path counted kept fault) (f.tree t1) (path ++ item.name ∷ []) summary item.sort rest fault
    → RefusesFolder levels options (f.tree t0) path counted (so_far.sections ++ rest) fault
item_refused m f k0 k1 t0 t1 options path counted options_now writer summary taken items item entries levels fault so_far some of names lt is front rest refused =
    deeper options (f.tree t0) path counted (so_far.sections ++ rest) fault items levels some of (inr (inr (
      names,
      inl (record {
        before = taken;
        item = item;
        after = drop (length taken + 1) items;
        whole = split_at items taken item lt is front;
        children = so_far.children;
        imported = so_far.imported;
        first = so_far.sections;
        rest = rest;
        kept_are = refl;
        all = so_far.all;
        is = subst (λ (s : Summary). sort_fault (λ path counted kept fault. RefusesFolder (levels - 1) options (f.tree t0) path counted kept fault) (f.tree t0) (path ++ item.name ∷ []) s item.sort rest fault) so_far.summary_is
            (subst (λ (o : Options). sort_fault (λ path counted kept fault. RefusesFolder (levels - 1) o (f.tree t0) path counted kept fault) (f.tree t0) (path ++ item.name ∷ []) summary item.sort rest fault) so_far.options_are
            (subst (λ (told : Option Tree). sort_fault (λ path counted kept fault. RefusesFolder (levels - 1) options_now told path counted kept fault) told (path ++ item.name ∷ []) summary item.sort rest fault) so_far.same.tree refused));
      }),
    )))

module _ (FolderFault : Refusal) (told : Option Tree) (path at : List (List ℕ)) (counted : Summary) (sort : Sort) (kept : List Section) (fault : ImportFault) (here : at ≡ path) where
  pub file_sort : sort ≡ sorts.File → IsFileFault told at counted kept fault → sort_fault FolderFault told path counted sort kept fault
  file_sort is h =
      subst (λ (s : Sort). sort_fault FolderFault told path counted s kept fault) (sym is) (subst (λ (p : List (List ℕ)). IsFileFault told p counted kept fault) here h)

  pub folder_sort : sort ≡ sorts.Folder → FolderFault at counted kept fault → sort_fault FolderFault told path counted sort kept fault
  folder_sort is h =
      subst (λ (s : Sort). sort_fault FolderFault told path counted s kept fault) (sym is) (subst (λ (p : List (List ℕ)). FolderFault p counted kept fault) here h)

pub plain_sort : (FolderFault : Refusal) (told : Option Tree) (path at : List (List ℕ)) (counted : Summary) (sort : Sort) → at ≡ path
    → (sort ≡ sorts.Symlink) ⊎ (sort ≡ sorts.Other) → sort_fault FolderFault told path counted sort [] (faults.NotPlain at)
plain_sort FolderFault told path at counted sort here which = ⊎_elim
    (λ (is : sort ≡ sorts.Symlink). subst (λ (s : Sort). sort_fault FolderFault told path counted s [] (faults.NotPlain at)) (sym is) (here, refl))
    (λ (is : sort ≡ sorts.Other). subst (λ (s : Sort). sort_fault FolderFault told path counted s [] (faults.NotPlain at)) (sym is) (here, refl))
    which

-- ---- the directory's fault

-- nothing more was kept
kept_on : {S : Type 0} → (m : KeepMeaning S) → Joins m → KeepingJoins → (k0 k1 k2 : S) (u : List Section) → Keeps u (kept_in m k0 k1) → Keeps [] (kept_in m k1 k2)
    → Keeps u (kept_in m k0 k2)
kept_on m joins stores k0 k1 k2 u keeps none =
    subst (λ (l : List Section). Keeps l (kept_in m k0 k2)) (append-nil u) (keeps_both m joins stores k0 k1 k2 u [] keeps none)

-- what is counted with the directory itself
total_as : {S T : Type 0} → (m : KeepMeaning S) (f : FolderMeaning T) (k0 k1 : S) (t0 t1 : T) (options : Options) (path : List (List ℕ)) (counted : Summary) (options_now : Options)
    (writer : FileWriterState) (summary : Summary) (items : List Item) (entries : List NewEntry) → (so_far : IsSoFar m f k0 k1 t0 t1 options path counted options_now writer summary items entries)
    → plus summary (own_count_for options_now.shard entries) ≡ plus (plus counted (counts_of_children so_far.children)) (own_count options items)
total_as m f k0 k1 t0 t1 options path counted options_now writer summary items entries so_far =
    ap (λ (s : Summary). plus s (own_count_for options_now.shard entries)) so_far.summary_is
    ∙ ap (λ (n : ℕ). plus (plus counted (counts_of_children so_far.children)) (cond (nat_lt options_now.shard n) one_sharded one_folder)) (weights entries items so_far.names so_far.sized)
    ∙ ap (λ (o : Options). plus (plus counted (counts_of_children so_far.children)) (cond (nat_lt o.shard (weight_of_items items)) one_sharded one_folder)) so_far.options_are

-- the directory of the entries, all of which were imported, isn't made
pub entries_cause : {S T : Type 0} → (m : KeepMeaning S) (f : FolderMeaning T) → Joins m → KeepingJoins → (k0 k1 k2 : S) (t0 t1 : T) (options : Options) (path : List (List ℕ)) (counted : Summary) (options_now : Options)
    (writer : FileWriterState) (summary : Summary) (items : List Item) (entries : List NewEntry) (levels : ℕ) (fault : ImportFault) → IsSoFar m f k0 k1 t0 t1 options path counted options_now writer summary items entries
    → levels ≢ 0 → AreItemsOf (f.tree t0) path items → AreEntryNames (item_names items) → IsEntriesCause options_now.shard path summary entries fault (kept_in m k1 k2)
    → IsImportCause levels options (f.tree t0) path counted fault (folder_step f t0 t1) (kept_in m k0 k2)
entries_cause m f joins stores k0 k1 k2 t0 t1 options path counted options_now writer summary items entries levels (faults.TooBig at) so_far some of names h = (
  so_far.quiet,
  (
    so_far.sections,
    kept_on m joins stores k0 k1 k2 so_far.sections so_far.keeps h.0,
    so_far.order,
    deeper options (f.tree t0) path counted so_far.sections (faults.TooBig at) items levels some of (inr (inr (
      names,
      inr (record {
        children = so_far.children;
        imported = so_far.imported;
        all = so_far.all;
        is = (
          h.1,
          ⊎_elim
              (λ (x : max_total < tsizes_for entries). inl (subst (λ (n : ℕ). max_total < n) (tsizes_listed entries so_far.children so_far.lead) x))
              (λ (x : PassesTotal (plus summary (own_count_for options_now.shard entries))).
              inr (subst PassesTotal (total_as m f k0 k1 t0 t1 options path counted options_now writer summary items entries so_far) x))
              h.2,
        );
      }),
    ))),
  ),
)
entries_cause m f joins stores k0 k1 k2 t0 t1 options path counted options_now writer summary items entries levels (faults.SameHash a b) so_far some of names h = (
  so_far.quiet,
  (
    so_far.sections,
    kept_on m joins stores k0 k1 k2 so_far.sections so_far.keeps h.0,
    so_far.order,
    deeper options (f.tree t0) path counted so_far.sections (faults.SameHash a b) items levels some of (inr (inr (
      names,
      inr (record {
        children = so_far.children;
        imported = so_far.imported;
        all = so_far.all;
        is = (
          subst (λ (o : Options). o.shard < weight_of_items items) so_far.options_are (subst (λ (n : ℕ). options_now.shard < n) (weights entries items so_far.names so_far.sized) h.1),
          record {
            first_in = subst (λ (l : List (List ℕ)). Contains l a) so_far.names h.2.first_in;
            second_in = subst (λ (l : List (List ℕ)). Contains l b) so_far.names h.2.second_in;
            before = h.2.before;
            same = h.2.same;
          },
          λ large. h.3 (subst (λ (n : ℕ). max_total < n) (sym (tsizes_listed entries so_far.children so_far.lead)) large),
          λ passes. h.4 (subst PassesTotal (sym (total_as m f k0 k1 t0 t1 options path counted options_now writer summary items entries so_far)) passes),
        );
      }),
    ))),
  ),
)
entries_cause m f joins stores k0 k1 k2 t0 t1 options path counted options_now writer summary items entries levels faults.Keep so_far some of names h = (
  so_far.quiet,
  (
    so_far.sections ++ h.0,
    stops_behind m joins stores k0 k1 k2 so_far.sections h.0 keep_faults.Failed so_far.keeps h.1,
    entries_behind m f k0 k1 t0 t1 options path counted options_now writer summary items entries so_far h.0 h.2,
  ),
)
entries_cause m f joins stores k0 k1 k2 t0 t1 options path counted options_now writer summary items entries levels faults.OutOfMemory so_far some of names h = (
  so_far.quiet,
  (
    so_far.sections ++ h.0,
    stops_behind m joins stores k0 k1 k2 so_far.sections h.0 keep_faults.OutOfMemory so_far.keeps h.1,
    entries_behind m f k0 k1 t0 t1 options path counted options_now writer summary items entries so_far h.0 h.2,
  ),
)
entries_cause m f joins stores k0 k1 k2 t0 t1 options path counted options_now writer summary items entries levels faults.Folder so_far some of names h = absurd h
entries_cause m f joins stores k0 k1 k2 t0 t1 options path counted options_now writer summary items entries levels (faults.TooDeep at) so_far some of names h = absurd h
entries_cause m f joins stores k0 k1 k2 t0 t1 options path counted options_now writer summary items entries levels (faults.BadName at) so_far some of names h = absurd h
entries_cause m f joins stores k0 k1 k2 t0 t1 options path counted options_now writer summary items entries levels (faults.LongName at) so_far some of names h = absurd h
entries_cause m f joins stores k0 k1 k2 t0 t1 options path counted options_now writer summary items entries levels (faults.NotPlain at) so_far some of names h = absurd h

-- ---- the folder

-- the directory of the entries, all of which were imported
pub folder_imports : {S T : Type 0} → (m : KeepMeaning S) (f : FolderMeaning T) → Joins m → KeepingJoins → (k0 k1 k2 : S) (t0 t1 : T) (options : Options) (path : List (List ℕ)) (counted : Summary) (options_now : Options)
    (writer : FileWriterState) (summary summary_later : Summary) (items : List Item) (entries : List NewEntry) (made : Made) → IsSoFar m f k0 k1 t0 t1 options path counted options_now writer summary items entries
    → HasFolderAt (f.tree t0) path → AreItemsOf (f.tree t0) path items → MakesDirectory options_now.shard entries made (kept_in m k1 k2)
    → summary_later ≡ plus summary (own_count_for options_now.shard entries)
    → ImportsAs options (f.tree t0) path counted made summary_later (kept_in m k0 k2)
folder_imports m f joins stores k0 k1 k2 t0 t1 options path counted options_now writer summary summary_later items entries made so_far at of makes later =
    let sound = sound_all options (f.tree t0) path items so_far.children so_far.imported in
    let found = makes.directory so_far.children so_far.lead sound in
    let d = found.0 in
    let m_by : IsMadeBy options.shard entries so_far.children made makes.sections d =
    subst (λ (o : Options). IsMadeBy o.shard entries so_far.children made makes.sections d) so_far.options_are found.1 in
    record {
      d = d;
      kept = record {
        imported = folder_imported options (f.tree t0) path items entries so_far.children made makes.sections d at of so_far.lead so_far.names so_far.imported m_by;
        sections = so_far.sections ++ makes.sections;
        keeps = keeps_both m joins stores k0 k1 k2 so_far.sections makes.sections so_far.keeps makes.keeps;
        all = folder_blocks options.shard entries so_far.children made so_far.sections makes.sections d so_far.lead m_by so_far.all;
        order = entries_behind m f k0 k1 t0 t1 options path counted options_now writer summary items entries so_far makes.sections makes.order;
      };
      cid = m_by.directory.cid;
      tsize = m_by.directory.tsize;
      summary_is = folder_counts options.shard entries so_far.children made makes.sections d counted summary_later so_far.lead m_by
          (subst (λ (o : Options). summary_later ≡ plus (plus counted (counts_of_children so_far.children)) (own_count_for o.shard entries)) so_far.options_are
          (later ∙ ap (λ (s : Summary). plus s (own_count_for options_now.shard entries)) so_far.summary_is));
    }

-- ---- an item in its turn

pub record IsTurn (items taken : List Item) (item : Item) : Type 0 where
  pub below : length taken < length items
  pub is : item ≡ get_or items (length taken) item
  pub front : taken ≡ take (length taken) items

-- the items of a list that is taken apart
module _ {Z : Type 0} (start : IntoIter Item Z) (items list : List Item) (len : ℕ) (gives : into_iter_items start ≡ list) (counts : into_iter_len start ≡ len) (whole : len ≡ length list) (same : list ≡ items) where
  all_items : YieldsList (into_iter_steps {X = Item} {Z = Z}) (λ (x : Item). x) start items
  all_items = YieldsList-from_vec {s = start} items (gives ∙ same) (counts ∙ whole ∙ ap length same)

  -- one comes in its turn
  pub turn_at : (taken : List Item) (now : IntoIter Item Z) → Yields (into_iter_steps {X = Item} {Z = Z}) start taken now → (next : Option Item) (after : IntoIter Item Z) (item : Item)
      → next ≡ Some item → into_iter_steps now next after → IsTurn items taken item
  turn_at taken now by next after item is step =
      let at = YieldsList-turn all_items taken now by next after item is step in
      record { below = at.0; is = at.1; front = sym (map-id taken) ∙ YieldsList-so_far all_items taken now by }

  -- none comes behind the last
  pub taken_whole : (taken : List Item) (now : IntoIter Item Z) → Yields (into_iter_steps {X = Item} {Z = Z}) start taken now → (next : Option Item) (after : IntoIter Item Z)
      → next ≡ None → into_iter_steps now next after → taken ≡ items
  taken_whole taken now by next after none step = sym (map-id taken) ∙ (YieldsList-end all_items taken now by next after none step).0

-- what the item's name leads to
pub led_at : {S T : Type 0} → (m : KeepMeaning S) (f : FolderMeaning T) (k0 k1 : S) (t0 t1 : T) (options : Options) (path at : List (List ℕ)) (counted : Summary) (options_now : Options) (writer : FileWriterState)
    (summary : Summary) (taken items : List Item) (item : Item) (entries : List NewEntry) (sort : Sort) → IsSoFar m f k0 k1 t0 t1 options path counted options_now writer summary taken entries
    → AreItemsOf (f.tree t0) path items → IsTurn items taken item → at ≡ path ++ item.name ∷ [] → item.sort ≡ sort → IsAt sort (f.tree t1) at
led_at m f k0 k1 t0 t1 options path at counted options_now writer summary taken items item entries sort so_far of turn here is =
    let leads = All-permutation (Leads (f.tree t0) path) of.listed items of.same of.leads in
    let lead = All-contains (Leads (f.tree t0) path) items item leads (length taken, turn.below, sym turn.is) in
    subst (λ (told : Option Tree). IsAt sort told at) (sym so_far.same.tree)
    (subst (λ (p : List (List ℕ)). IsAt sort (f.tree t0) p) (sym here) (subst (λ (s : Sort). IsAt s (f.tree t0) (path ++ item.name ∷ [])) is lead))

-- one of the steps that import an entry
pub record IsDone {S T : Type 0} (m : KeepMeaning S) (f : FolderMeaning T) (k1 k2 : S) (t1 t2 : T) (options_now options_later : Options) (writer : FileWriterState) (at : List (List ℕ)) (summary summary_later : Summary)
    (made : Made) : Type 0 where
  pub same : SameFolder (folder_step f t1 t2)
  pub quiet : f.faults t2 ≡ f.faults t1
  pub options_are : options_later ≡ options_now
  pub ready : IsWriterFor options_now writer
  pub imports : ImportsAs options_now (f.tree t1) at summary made summary_later (kept_in m k1 k2)

-- memory is wanted behind it
pub memory_behind : {S T : Type 0} → (m : KeepMeaning S) (f : FolderMeaning T) → Joins m → ((s : S) → m.kept s s []) → KeepingJoins → (k0 k1 k2 : S) (t0 t1 t2 : T) (options : Options) (path at : List (List ℕ)) (counted : Summary)
    (options_now options_later : Options) (writer writer_later : FileWriterState) (summary summary_later : Summary) (taken : List Item) (entries : List NewEntry) (made : Made) (Refused : List Section → ImportFault → Type 0)
    → IsSoFar m f k0 k1 t0 t1 options path counted options_now writer summary taken entries
    → IsDone m f k1 k2 t1 t2 options_now options_later writer_later at summary summary_later made → IsCauseBy Refused faults.OutOfMemory (folder_step f t0 t2) (kept_in m k0 k2)
memory_behind m f joins rests stores k0 k1 k2 t0 t1 t2 options path at counted options_now options_later writer writer_later summary summary_later taken entries made Refused so_far done =
    let kept = done.imports.kept in
    let both = keeps_both m joins stores k0 k1 k2 so_far.sections kept.sections so_far.keeps kept.keeps in (
      done.quiet ∙ so_far.quiet,
      (
        (so_far.sections ++ kept.sections) ++ [],
        stops_behind m joins stores k0 k2 k2 (so_far.sections ++ kept.sections) [] keep_faults.OutOfMemory both (same_stops m rests k2),
        behind_apart (so_far.sections ++ kept.sections) [] (behind_apart so_far.sections kept.sections so_far.order kept.order) (behind_nothing []),
      ),
    )

-- ---- answers

pub ok_both : {X E : Type 0} {P Q : X → Type 0} {C : Type 0} → (r : Result X E) → ((x : X) → P x → C → Q x) → IfOk r P → OnOk r C → IfOk r Q
ok_both (Ok x) f h c = f x h c
ok_both (Err e) f h c = tt

pub so_far_whole : {S T : Type 0} {m : KeepMeaning S} {f : FolderMeaning T} {k0 k1 : S} {t0 t1 : T} {options : Options} {path : List (List ℕ)} {counted : Summary} {options_now : Options} {writer : FileWriterState}
    {summary : Summary} {taken items : List Item} {entries : List NewEntry} → taken ≡ items → IsSoFar m f k0 k1 t0 t1 options path counted options_now writer summary taken entries
    → IsSoFar m f k0 k1 t0 t1 options path counted options_now writer summary items entries
so_far_whole {S} {T} {m} {f} {k0} {k1} {t0} {t1} {options} {path} {counted} {options_now} {writer} {summary} {taken} {items} {entries} whole so_far =
    subst (λ (l : List Item). IsSoFar m f k0 k1 t0 t1 options path counted options_now writer summary l entries) whole so_far

pub done_of : {S T : Type 0} → (m : KeepMeaning S) (f : FolderMeaning T) (k1 k2 : S) (t1 t2 : T) (options_now options_later : Options) (writer : FileWriterState) (at place : List (List ℕ)) (summary summary_later : Summary)
    (made : Made) → at ≡ place → SameFolder (folder_step f t1 t2) → f.faults t2 ≡ f.faults t1 → options_later ≡ options_now → IsWriterFor options_now writer
    → ImportsAs options_now (f.tree t1) at summary made summary_later (kept_in m k1 k2) → IsDone m f k1 k2 t1 t2 options_now options_later writer place summary summary_later made
done_of m f k1 k2 t1 t2 options_now options_later writer at place summary summary_later made here same quiet options_are ready imports = record {
  same = same;
  quiet = quiet;
  options_are = options_are;
  ready = ready;
  imports = subst (λ (p : List (List ℕ)). ImportsAs options_now (f.tree t1) p summary made summary_later (kept_in m k1 k2)) here imports;
}

-- the same, of values that are these
pub done_as : {S T : Type 0} → (m : KeepMeaning S) (f : FolderMeaning T) (k1 k2 k : S) (t1 t2 t : T) (options_now : Options) (place : List (List ℕ)) (summary : Summary) (self2 self : Importer) (made2 made : Made)
    → k ≡ k2 → t ≡ t2 → self ≡ self2 → made ≡ made2
    → IsDone m f k1 k2 t1 t2 options_now self2.options self2.writer place summary self2.summary made2
    → IsDone m f k1 k t1 t options_now self.options self.writer place summary self.summary made
done_as m f k1 k2 k t1 t2 t options_now place summary self2 self made2 made a b c d done =
    subst (λ (x : Made). IsDone m f k1 k t1 t options_now self.options self.writer place summary self.summary x) (sym d)
    (subst (λ (x : Importer). IsDone m f k1 k t1 t options_now x.options x.writer place summary x.summary made2) (sym c)
    (subst (λ x. IsDone m f k1 k t1 x options_now self2.options self2.writer place summary self2.summary made2) (sym b)
    (subst (λ x. IsDone m f k1 x t1 t2 options_now self2.options self2.writer place summary self2.summary made2) (sym a) done)))

pub writer_now : {S T : Type 0} → (m : KeepMeaning S) (f : FolderMeaning T) (k0 k1 : S) (t0 t1 : T) (options : Options) (path : List (List ℕ)) (counted : Summary) (options_now : Options) (writer : FileWriterState)
    (summary : Summary) (taken : List Item) (entries : List NewEntry) → IsSoFar m f k0 k1 t0 t1 options path counted options_now writer summary taken entries → IsWriterFor options_now writer
writer_now m f k0 k1 t0 t1 options path counted options_now writer summary taken entries so_far = subst (λ (o : Options). IsWriterFor o writer) (sym so_far.options_are) so_far.ready
