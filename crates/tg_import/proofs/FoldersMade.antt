-- The directory of entries that were all imported is what was asked for.
use Rattle.std.proofs.Common.{◌≡◌, ◌⊎◌, inl, inr, ⊎_elim, ℕ, ◌<◌, ◌≤◌, Bool, true, false, cond, List, None, Option, Some, [], ◌∷◌, ◌++◌, get_or, refl, ap, sym, ◌∙◌, subst, arith, drop, ◌+◌}
use Rattle.std.specs.List.Sorted.{IsPermutation}
use Rattle.std.specs.List.{sum_by}
use Rattle.std.specs.Map.{keys_of}
use Rattle.std.specs.Option.{option_and_then}
use Rattle.std.specs.Prelude.{All, Contains, IfSome, map, nat_lt, option_map, ◌↔◌}
use Rattle.std.proofs.lemmas.Bool.{cases_lt, ltb-false, ltb-true}
use Rattle.std.proofs.lemmas.List.Elements.{All-append, All-contains, All-contains_itself, All-nil, All-weaker, Contains-append_cases, Contains-append_left, Contains-append_right}
use Rattle.std.proofs.lemmas.List.Sorted.{All-permutation, Contains-permutation, IsPermutation-map, IsPermutation-sym, sum_by-IsPermutation}
use Rattle.std.proofs.lemmas.List.Sums.{sum_by-cons}
use Rattle.tg_dir.specs.Made.{IsBasic, IsMadeBy, IsSharded}
use Rattle.tg_dir.specs.Weights.{weight_for}
use Rattle.tg_files.specs.Folders.{Leads, Lists}
use Rattle.tg_files.specs.PathLaws.{below_more}
use Rattle.tg_hamt.specs.Directories.{AreLaidOut, AreSound, listed_for}
use Rattle.tg_bytes.specs.Lists.{none_in}
use Rattle.tg_import.proofs.Listings.{IsShown, counted_in, entries_show, entry_blocks, first_is, named_counts, only_one, same_summary, slots_counts, slots_show}
use Rattle.tg_import.specs.Counting.{counts_of, counts_of_children, nothing, one_folder, one_sharded, plus}
use Rattle.tg_import.specs.Imported.{AreImported, AreItemsOf, IsImported, layout}
use Rattle.tg_import.specs.Refused.{item_names}
use Rattle.tg_import.specs.Steps.{tsizes_for}
use Rattle.tg_import.specs.declared.summary.Options.{Options}
use Rattle.tg_import.specs.declared.summary.Summary.{Summary}
use Rattle.tg_model.specs.Content.{DirEntry, entries}
use Rattle.tg_model.specs.Dag.{Children, Dag, Section, bare, blocks, blocks_of_children, no_child, node, unopened, with_child}
use Rattle.tg_model.specs.ImportLayout.{HasPlainCid, tsizes_of}
use Rattle.tg_model.specs.ShowsTree.{HasNamesOf, Shows}
use Rattle.tg_model.specs.Sound.{IsSound}
use Rattle.tg_model.specs.declared.kinds.Entry.{Entry}
use Rattle.tg_model.specs.declared.kinds.Kind.TheVariants.{Basic, File, Raw, Shard, Symlink}
use Rattle.tg_model.specs.declared.kinds.Made.{Made}
use Rattle.tg_model.specs.declared.kinds.NewEntry.{NewEntry}
use Rattle.tg_model.specs.declared.kinds.Slot.{Slot}
use Rattle.tg_tree.specs.Tree.{HasFolderAt, IsAt, below, child, entries_of, item_of, items_of, sort_of, tree_at}
use Rattle.tg_tree.specs.declared.items.Item.{Item}
use Rattle.tg_tree.specs.declared.items.Sort.TheVariants as sorts
use Rattle.tg_tree.specs.declared.items.Sort.{Sort}
use Rattle.tg_tree.specs.declared.tree.Tree.{Tree}
use Rattle.tg_node_writing.specs.Nodes.{LeadTo}

-- ---- the entries

pub sound_all : (options : Options) (told : Option Tree) (path : List (List ℕ)) (items : List Item) (children : Children) → AreImported options told path items children → AreSound children
sound_all options told path [] no_child h = tt
sound_all options told path [] (with_child d children) h = absurd h
sound_all options told path (item ∷ items) no_child h = absurd h
sound_all options told path (item ∷ items) (with_child d children) h = (h.0.sound, sound_all options told path items children h.1)

laid_all : (options : Options) (told : Option Tree) (path : List (List ℕ)) (items : List Item) (children : Children) → AreImported options told path items children → AreLaidOut (layout options) children
laid_all options told path [] no_child h = tt
laid_all options told path [] (with_child d children) h = absurd h
laid_all options told path (item ∷ items) no_child h = absurd h
laid_all options told path (item ∷ items) (with_child d children) h = (h.0.laid, laid_all options told path items children h.1)

plain_all : (options : Options) (told : Option Tree) (path : List (List ℕ)) (items : List Item) (children : Children) → AreImported options told path items children → All HasPlainCid (blocks_of_children children)
plain_all options told path [] no_child h = All-nil HasPlainCid
plain_all options told path [] (with_child d children) h = absurd h
plain_all options told path (item ∷ items) no_child h = absurd h
plain_all options told path (item ∷ items) (with_child d children) h =
    All-append HasPlainCid (blocks d) (blocks_of_children children) h.0.plain (plain_all options told path items children h.1)

-- an item of an entry, and that it was imported
pub record IsOfItem (options : Options) (told : Option Tree) (path : List (List ℕ)) (items : List Item) (e : DirEntry) : Type 0 where
  pub item : Item
  pub among : Contains items item
  pub named : item.name ≡ e.name
  pub imported : IsImported options told (path ++ e.name ∷ []) e.dag

pub head_is : {x y : List ℕ} {xs ys : List (List ℕ)} → x ∷ xs ≡ y ∷ ys → x ≡ y
head_is {x} e = ap (λ (list : List (List ℕ)). get_or list 0 x) e

pub tail_is : {x y : List ℕ} {xs ys : List (List ℕ)} → x ∷ xs ≡ y ∷ ys → xs ≡ ys
tail_is e = ap (drop 1) e

pub of_items : (options : Options) (told : Option Tree) (path : List (List ℕ)) (new : List NewEntry) (items : List Item) (children : Children) → AreImported options told path items children
    → LeadTo new children → map (λ (e : NewEntry). e.name) new ≡ item_names items → (e : DirEntry) → Contains (listed_for new children) e → IsOfItem options told path items e
of_items options told path [] items children h lead names e has = absurd (none_in e has)
of_items options told path (entry ∷ new) items no_child h lead names e has = absurd lead
of_items options told path (entry ∷ new) [] (with_child d children) h lead names e has = absurd h
of_items options told path (entry ∷ new) (item ∷ items) (with_child d children) h lead names e has = ⊎_elim
    (λ (here : Contains (record { name = entry.name; dag = d } ∷ []) e).
    let same = only_one (record { name = entry.name; dag = d }) e here in
    let named : item.name ≡ e.name = sym (head_is names) ∙ ap (λ (x : DirEntry). x.name) same in
    record {
      item = item;
      among = first_is item items;
      named = named;
      imported = subst (λ (n : List ℕ). IsImported options told (path ++ n ∷ []) e.dag) named
          (subst (λ (x : Dag). IsImported options told (path ++ item.name ∷ []) x) (ap (λ (x : DirEntry). x.dag) same) h.0);
    })
    (λ (there : Contains (listed_for new children) e).
    let rest = of_items options told path new items children h.1 lead.2 (tail_is names) e there in
    record {
      item = rest.item;
      among = Contains-append_right (item ∷ []) items rest.item rest.among;
      named = rest.named;
      imported = rest.imported;
    })
    (Contains-append_cases (record { name = entry.name; dag = d } ∷ []) (listed_for new children) e has)

names_listed : (new : List NewEntry) (children : Children) → LeadTo new children → map (λ (e : DirEntry). e.name) (listed_for new children) ≡ map (λ (e : NewEntry). e.name) new
names_listed [] children lead = refl
names_listed (entry ∷ new) no_child lead = absurd lead
names_listed (entry ∷ new) (with_child d children) lead = ap (λ (l : List (List ℕ)). entry.name ∷ l) (names_listed new children lead.2)

counts_listed : (new : List NewEntry) (children : Children) → LeadTo new children → counted_in (listed_for new children) ≡ counts_of_children children
counts_listed [] no_child lead = refl
counts_listed [] (with_child d children) lead = absurd lead
counts_listed (entry ∷ new) no_child lead = absurd lead
counts_listed (entry ∷ new) (with_child d children) lead = ap (plus (counts_of d)) (counts_listed new children lead.2)

pub tsizes_listed : (new : List NewEntry) (children : Children) → LeadTo new children → tsizes_for new ≡ tsizes_of children
tsizes_listed [] no_child lead = refl
tsizes_listed [] (with_child d children) lead = absurd lead
tsizes_listed (entry ∷ new) no_child lead = absurd lead
tsizes_listed (entry ∷ new) (with_child d children) lead =
    let rest = tsizes_listed new children lead.2 in
    let here = lead.1 in
    let sums = sum_by-cons (λ (e : NewEntry). e.tsize) entry new in
    omega (arith, rest, here, sums)

-- ---- what they count, in any order

-- one of the numbers, of all
counted_sum : (number : Summary → ℕ) → number nothing ≡ 0 → ((a b : Summary) → number (plus a b) ≡ number a + number b) → (l : List DirEntry)
    → number (counted_in l) ≡ sum_by (λ (e : DirEntry). number (counts_of e.dag)) l
counted_sum number none both [] = none
counted_sum number none both (e ∷ l) =
    both (counts_of e.dag) (counted_in l) ∙ ap (λ (n : ℕ). number (counts_of e.dag) + n) (counted_sum number none both l)
    ∙ sym (sum_by-cons (λ (x : DirEntry). number (counts_of x.dag)) e l)

same_number : (number : Summary → ℕ) → number nothing ≡ 0 → ((a b : Summary) → number (plus a b) ≡ number a + number b) → (a b : List DirEntry) → IsPermutation a b
    → number (counted_in b) ≡ number (counted_in a)
same_number number none both a b p =
    counted_sum number none both b ∙ sum_by-IsPermutation (λ (e : DirEntry). number (counts_of e.dag)) a b p ∙ sym (counted_sum number none both a)

counted_permutation : (a b : List DirEntry) → IsPermutation a b → counted_in b ≡ counted_in a
counted_permutation a b p =
    same_summary (counted_in b) (counted_in a)
    (same_number (λ (s : Summary). s.files) refl (λ x y. refl) a b p)
    (same_number (λ (s : Summary). s.folders) refl (λ x y. refl) a b p)
    (same_number (λ (s : Summary). s.shards) refl (λ x y. refl) a b p)
    (same_number (λ (s : Summary). s.bytes) refl (λ x y. refl) a b p)

-- ---- the directory

directory_shows : (d : Dag) (tree : Tree) → IsSound d → IsSharded d ⊎ IsBasic d → HasNamesOf (entries d) tree → ((e : DirEntry) → Contains (entries d) e → IsShown tree e) → Shows d tree
directory_shows (unopened cid) tree sound which names shown = absurd sound.whole
directory_shows (bare section fault) tree sound which names shown = absurd sound.whole
directory_shows (node section Raw children) tree sound which names shown = absurd (⊎_elim (λ (h : IsSharded (node section Raw children)). (let e = h.3 in cc)) (λ (h : IsBasic (node section Raw children)). (let e = h.3 in cc)) which)
directory_shows (node section (File inline filesize parts) children) tree sound which names shown =
    absurd (⊎_elim (λ (h : IsSharded (node section (File inline filesize parts) children)). (let e = h.3 in cc)) (λ (h : IsBasic (node section (File inline filesize parts) children)). (let e = h.3 in cc)) which)
directory_shows (node section (Basic es) children) tree sound which names shown = (names, entries_show es children tree shown)
directory_shows (node section (Shard slots) children) tree sound which names shown = (names, slots_show [] slots children tree sound.whole sound.checked.1 shown)
directory_shows (node section (Symlink target) children) tree sound which names shown =
    absurd (⊎_elim (λ (h : IsSharded (node section (Symlink target) children)). (let e = h.3 in cc)) (λ (h : IsBasic (node section (Symlink target) children)). (let e = h.3 in cc)) which)

not_basic : (section : Section) (slots : List Slot) (children : Children) → IsBasic (node section (Shard slots) children) → ⊥
not_basic section slots children h = (let e = h.3 in absurd (cc))

not_sharded : (section : Section) (es : List Entry) (children : Children) → IsSharded (node section (Basic es) children) → ⊥
not_sharded section es children h = (let e = h.3 in absurd (cc))

directory_counts : (d : Dag) (sharded : Bool) → IsSound d → (sharded ≡ true → IsSharded d) → (sharded ≡ false → IsBasic d) → counts_of d ≡ plus (cond sharded one_sharded one_folder) (counted_in (entries d))
directory_counts (unopened cid) sharded sound is_sharded is_basic = absurd sound.whole
directory_counts (bare section fault) sharded sound is_sharded is_basic = absurd sound.whole
directory_counts (node section Raw children) true sound is_sharded is_basic = (let e = (is_sharded refl).3 in absurd (cc))
directory_counts (node section Raw children) false sound is_sharded is_basic = (let e = (is_basic refl).3 in absurd (cc))
directory_counts (node section (File inline filesize parts) children) true sound is_sharded is_basic = (let e = (is_sharded refl).3 in absurd (cc))
directory_counts (node section (File inline filesize parts) children) false sound is_sharded is_basic = (let e = (is_basic refl).3 in absurd (cc))
directory_counts (node section (Basic es) children) true sound is_sharded is_basic = absurd (not_sharded section es children (is_sharded refl))
directory_counts (node section (Basic es) children) false sound is_sharded is_basic = ap (plus one_folder) (named_counts es children sound.checked.1)
directory_counts (node section (Shard slots) children) true sound is_sharded is_basic = ap (plus one_sharded) (slots_counts [] slots children sound.whole sound.checked.1)
directory_counts (node section (Shard slots) children) false sound is_sharded is_basic = absurd (not_basic section slots children (is_basic refl))
directory_counts (node section (Symlink target) children) true sound is_sharded is_basic = (let e = (is_sharded refl).3 in absurd (cc))
directory_counts (node section (Symlink target) children) false sound is_sharded is_basic = (let e = (is_basic refl).3 in absurd (cc))

-- ---- what it shows

led_to : (sort : Sort) (found : Option Tree) → option_map sort_of found ≡ Some sort → (t : Tree) × (found ≡ Some t)
led_to sort None e = absurd (cc)
led_to sort (Some t) e = (t, refl)

-- the name of an item leads on from the folder
child_is : (root tree : Tree) (path : List (List ℕ)) (name : List ℕ) → below root path ≡ Some tree → below root (path ++ name ∷ []) ≡ child tree name
child_is root tree path name here = below_more root path name ∙ ap (option_and_then (λ (found : Tree). child found name)) here

entry_shown : (options : Options) (root tree : Tree) (path : List (List ℕ)) (items : List Item) (e : DirEntry) → below root path ≡ Some tree → All (Leads (Some root) path) items
    → IsOfItem options (Some root) path items e → IsShown tree e
entry_shown options root tree path items e here leads of_item =
    let lead : IsAt of_item.item.sort (Some root) (path ++ of_item.item.name ∷ []) = All-contains (Leads (Some root) path) items of_item.item leads of_item.among in
    let named = subst (λ (n : List ℕ). IsAt of_item.item.sort (Some root) (path ++ n ∷ [])) of_item.named lead in
    let found = led_to of_item.item.sort (below root (path ++ e.name ∷ [])) named in (
      found.0,
      sym (child_is root tree path e.name here) ∙ found.1,
      subst (λ (o : Option Tree). IfSome o (Shows e.dag)) found.1 of_item.imported.shows,
    )

keys_items : (l : List (List ℕ × Tree)) → keys_of l ≡ map (λ (item : Item). item.name) (map item_of l)
keys_items [] = refl
keys_items (x ∷ l) = ap (λ (k : List (List ℕ)). x.0 ∷ k) (keys_items l)

folder_sort : (root tree : Tree) (path : List (List ℕ)) → below root path ≡ Some tree → HasFolderAt (Some root) path → sort_of tree ≡ sorts.Folder
folder_sort root tree path here at =
    let sorted : option_map sort_of (Some tree) ≡ Some sorts.Folder = sym (ap (option_map sort_of) here) ∙ at in
    cc

has_names : (tree : Tree) (listed items : List Item) (new : List NewEntry) (children : Children) (d : Dag) → sort_of tree ≡ sorts.Folder → IsPermutation (items_of tree) listed → IsPermutation listed items
    → LeadTo new children → map (λ (e : NewEntry). e.name) new ≡ item_names items → IsPermutation (listed_for new children) (entries d) → HasNamesOf (entries d) tree
has_names tree listed items new children d folder lists same lead names made =
    let a = IsPermutation-map (λ (item : Item). item.name) (items_of tree) listed lists in
    let b = IsPermutation-map (λ (item : Item). item.name) listed items same in
    let c = IsPermutation-map (λ (e : DirEntry). e.name) (listed_for new children) (entries d) made in
    let keys = keys_items (entries_of tree) in
    let between : map (λ (e : DirEntry). e.name) (listed_for new children) ≡ item_names items = names_listed new children lead ∙ names in
    record {
      folder = folder;
      names = λ name. (
        λ has.
            let one = subst (λ (l : List (List ℕ)). Contains l name) between (Contains-permutation _ _ name (IsPermutation-sym _ _ c) has) in
            subst (λ (l : List (List ℕ)). Contains l name) (sym keys)
            (Contains-permutation (map (λ (item : Item). item.name) listed) (map (λ (item : Item). item.name) (items_of tree)) name (IsPermutation-sym _ _ a)
            (Contains-permutation (item_names items) (map (λ (item : Item). item.name) listed) name (IsPermutation-sym _ _ b) one)),
        λ has.
            let one = subst (λ (l : List (List ℕ)). Contains l name) keys has in
            let two = Contains-permutation (map (λ (item : Item). item.name) listed) (item_names items) name b
            (Contains-permutation (map (λ (item : Item). item.name) (items_of tree)) (map (λ (item : Item). item.name) listed) name a one) in
            Contains-permutation (map (λ (e : DirEntry). e.name) (listed_for new children)) (map (λ (e : DirEntry). e.name) (entries d)) name c
            (subst (λ (l : List (List ℕ)). Contains l name) (sym between) two),
      );
    }

shown_found : (options : Options) (root : Tree) (found : Option Tree) (path : List (List ℕ)) (listed items : List Item) (new : List NewEntry) (children : Children) (d : Dag)
    → below root path ≡ found → HasFolderAt (Some root) path → Lists found listed → All (Leads (Some root) path) items → IsPermutation listed items
    → LeadTo new children → map (λ (e : NewEntry). e.name) new ≡ item_names items → AreImported options (Some root) path items children
    → IsPermutation (listed_for new children) (entries d) → IsSound d → IsSharded d ⊎ IsBasic d → IfSome found (Shows d)
shown_found options root None path listed items new children d here at lists leads same lead names imported made sound which = tt
shown_found options root (Some tree) path listed items new children d here at lists leads same lead names imported made sound which =
    directory_shows d tree sound which
    (has_names tree listed items new children d (folder_sort root tree path here at) lists same lead names made)
    (λ e has. entry_shown options root tree path items e here leads
    (of_items options (Some root) path new items children imported lead names e (Contains-permutation (entries d) (listed_for new children) e (IsPermutation-sym _ _ made) has)))

folder_shown : (options : Options) (told : Option Tree) (path : List (List ℕ)) (items : List Item) (new : List NewEntry) (children : Children) (d : Dag)
    → HasFolderAt told path → AreItemsOf told path items → LeadTo new children → map (λ (e : NewEntry). e.name) new ≡ item_names items
    → AreImported options told path items children → IsPermutation (listed_for new children) (entries d) → IsSound d → IsSharded d ⊎ IsBasic d → IfSome (tree_at told path) (Shows d)
folder_shown options None path items new children d at of lead names imported made sound which = tt
folder_shown options (Some root) path items new children d at of lead names imported made sound which =
    shown_found options root (below root path) path of.listed items new children d refl at of.lists
    (All-permutation (Leads (Some root) path) of.listed items of.same of.leads) of.same lead names imported made sound which

-- ---- all of it

around : (a b c : Summary) → plus (plus a b) c ≡ plus a (plus c b)
around a b c = same_summary (plus (plus a b) c) (plus a (plus c b)) (omega arith) (omega arith) (omega arith) (omega arith)

-- a block of an entry's DAG is one of the directory's
listed_blocks : (new : List NewEntry) (children : Children) (s : Section) → LeadTo new children → Contains (blocks_of_children children) s
    → (e : DirEntry) × Contains (listed_for new children) e × Contains (blocks e.dag) s
listed_blocks [] no_child s lead has = absurd (none_in s has)
listed_blocks [] (with_child d children) s lead has = absurd lead
listed_blocks (entry ∷ new) no_child s lead has = absurd lead
listed_blocks (entry ∷ new) (with_child d children) s lead has = ⊎_elim
    (λ (here : Contains (blocks d) s). (record { name = entry.name; dag = d }, first_is (record { name = entry.name; dag = d }) (listed_for new children), here))
    (λ (there : Contains (blocks_of_children children) s).
    let rest = listed_blocks new children s lead.2 there in
    (rest.0, Contains-append_right (record { name = entry.name; dag = d } ∷ []) (listed_for new children) rest.0 rest.1, rest.2))
    (Contains-append_cases (blocks d) (blocks_of_children children) s has)

children_blocks : (new : List NewEntry) (children : Children) (d : Dag) → LeadTo new children → IsPermutation (listed_for new children) (entries d)
    → (s : Section) → Contains (blocks_of_children children) s → Contains (blocks d) s
children_blocks new children d lead lists s has =
    let found = listed_blocks new children s lead has in
    entry_blocks d found.0 s (Contains-permutation (listed_for new children) (entries d) found.0 lists found.1) found.2

pub made_which : (threshold weight : ℕ) (d : Dag) → (threshold < weight → IsSharded d) → (weight ≤ threshold → IsBasic d) → IsSharded d ⊎ IsBasic d
made_which threshold weight d sharded basic =
    ⊎_elim (λ (h : threshold < weight). inl (sharded h)) (λ (h : weight ≤ threshold). inr (basic h)) (cases_lt threshold weight)

pub folder_imported : (options : Options) (told : Option Tree) (path : List (List ℕ)) (items : List Item) (new : List NewEntry) (children : Children) (made : Made) (sections : List Section) (d : Dag)
    → HasFolderAt told path → AreItemsOf told path items → LeadTo new children → map (λ (e : NewEntry). e.name) new ≡ item_names items → AreImported options told path items children
    → IsMadeBy options.shard new children made sections d → IsImported options told path d
folder_imported options told path items new children made sections d at of lead names imported m =
    let plain_below = plain_all options told path items children imported in
    record {
      sound = m.directory.sound;
      laid = m.laid (layout options) refl (laid_all options told path items children imported);
      plain = All-weaker (Contains (blocks d)) HasPlainCid
          (λ s has. ⊎_elim
          (λ (own : Contains sections s). All-contains HasPlainCid sections s m.directory.plain own)
          (λ (below : Contains (blocks_of_children children) s). All-contains HasPlainCid (blocks_of_children children) s plain_below below)
          (m.directory.blocks_are s has))
          (blocks d) (All-contains_itself (blocks d));
      shows = folder_shown options told path items new children d at of lead names imported m.directory.lists m.directory.sound
          (made_which options.shard (weight_for new) d m.sharded m.basic);
    }

pub folder_counts : (threshold : ℕ) (new : List NewEntry) (children : Children) (made : Made) (sections : List Section) (d : Dag) (counted summary : Summary) → LeadTo new children
    → IsMadeBy threshold new children made sections d → summary ≡ plus (plus counted (counts_of_children children)) (cond (nat_lt threshold (weight_for new)) one_sharded one_folder)
    → summary ≡ plus counted (counts_of d)
folder_counts threshold new children made sections d counted summary lead m is =
    let own = cond (nat_lt threshold (weight_for new)) one_sharded one_folder in
    let here : counts_of d ≡ plus own (counts_of_children children) =
    directory_counts d (nat_lt threshold (weight_for new)) m.directory.sound
    (λ e. m.sharded (ltb-true threshold (weight_for new) e)) (λ e. m.basic (ltb-false threshold (weight_for new) e))
    ∙ ap (plus own) (counted_permutation (listed_for new children) (entries d) m.directory.lists ∙ counts_listed new children lead) in
    is ∙ around counted (counts_of_children children) own ∙ ap (plus counted) (sym here)

-- its blocks are those of the entries' DAGs and its own
pub folder_blocks : (threshold : ℕ) (new : List NewEntry) (children : Children) (made : Made) (before sections : List Section) (d : Dag) → LeadTo new children → IsMadeBy threshold new children made sections d
    → ((s : Section) → (Contains (blocks_of_children children) s ↔ Contains before s)) → (s : Section) → (Contains (blocks d) s ↔ Contains (before ++ sections) s)
folder_blocks threshold new children made before sections d lead m all s = (
  λ has. ⊎_elim
      (λ (own : Contains sections s). Contains-append_right before sections s own)
      (λ (below : Contains (blocks_of_children children) s). Contains-append_left before sections s ((all s).0 below))
      (m.directory.blocks_are s has),
  λ has. ⊎_elim
      (λ (below : Contains before s). children_blocks new children d lead m.directory.lists s ((all s).1 below))
      (λ (own : Contains sections s). m.directory.own_blocks s own)
      (Contains-append_cases before sections s has),
)
