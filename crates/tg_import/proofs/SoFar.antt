-- A folder's entries while they are imported, in the order of their names.
use Rattle.std.proofs.Common.{◌≡◌, ⊎_elim, ℕ, ◌+◌, ◌<◌, List, Option, [], ◌∷◌, ◌++◌, length, refl, ap, sym, ◌∙◌, subst, arith, append_assoc}
use Rattle.std.specs.List.{IsDistinct}
use Rattle.std.specs.Prelude.{All, Contains, bytes_eq, map, suc, ◌↔◌, ◌^◌}
use Rattle.std.proofs.lemmas.List.Sums.{sum_by-cons}
use Rattle.std.proofs.lemmas.List.{append-nil, length-map, map-append}
use Rattle.std.proofs.lemmas.List.Elements.{All-cons, All-head, All-nil, All-push, All-tail, Contains-append_cases, Contains-append_left, Contains-append_right}
use Rattle.tg_files.specs.Folders.{FolderMeaning, SameFolder, folder_step}
use Rattle.tg_node_writing.specs.KeepingSteps.{Joins, keeps_both, keeps_nothing}
use Rattle.tg_cid.specs.Cid.{CidParts}
use Rattle.tg_cid.specs.CodeLaws.{v1_length}
use Rattle.tg_cid.specs.Computed.{v1_bytes}
use Rattle.tg_cid.specs.Spelling.{IsDigestSize}
use Rattle.tg_dir.specs.Weights.{weight_for, weight_in}
use Rattle.tg_hamt.specs.Order.{IsGoodEntry}
use Rattle.tg_import.proofs.DirectoryRoots.{root_plain}
use Rattle.tg_import.proofs.FoldersMade.{head_is, tail_is}
use Rattle.tg_bytes.specs.Lists.{none_in}
use Rattle.tg_import.proofs.Listings.{first_is, only_one, plus_assoc, plus_nothing, same_summary}
use Rattle.tg_import.specs.Counting.{counts_of, counts_of_children, nothing, plus}
use Rattle.tg_import.specs.Imported.{AreEntryNames, AreImported, IsEntryName, IsImported}
use Rattle.tg_import.specs.Refused.{entry_limit, item_names, weight_of_items}
use Rattle.tg_import.specs.Steps.{AreNewEntries, ImportsAs, IsWriterFor}
use Rattle.tg_import.specs.declared.summary.Options.{Options}
use Rattle.tg_import.specs.declared.summary.Summary.{Summary}
use Rattle.tg_import_file.specs.Files.{FileWriterState}
use Rattle.tg_model_laws.specs.Stores.{KeepingJoins}
use Rattle.tg_model.specs.Dag.{Children, Dag, IsWhole, Section, bare, blocks, blocks_of_children, no_child, node, root_cid, unopened, with_child}
use Rattle.tg_model.specs.ImportLayout.{tsize_of}
use Rattle.tg_model.specs.Stores.{KeepMeaning, kept_in}
use Rattle.tg_model.specs.declared.kinds.Made.{Made}
use Rattle.tg_model.specs.declared.kinds.NewEntry.{NewEntry}
use Rattle.tg_tree.specs.declared.items.Item.{Item}
use Rattle.tg_tree.specs.declared.tree.Tree.{Tree}
use Rattle.tg_node_writing.specs.BlockOrder.{AreBehindLinks, cids_of, entry_cids}
use Rattle.tg_node_writing.specs.BlockOrderLaws.{behind_apart, behind_known, behind_nothing, cid_among}
use Rattle.tg_node_writing.specs.DigestLaws.{digest_is}
use Rattle.tg_node_writing.specs.Keeping.{Keeps}
use Rattle.tg_node_writing.specs.Nodes.{LeadTo}

-- the CID has 36 bytes in version 1
pub record HasPlainLength (entry : NewEntry) : Type 0 where
  pub length_is : length (v1_bytes entry.cid) ≡ 36

-- the state of an import of a folder whose first entries were imported
pub record IsSoFar {S T : Type 0} (m : KeepMeaning S) (f : FolderMeaning T) (keep_before keep_now : S) (before now : T) (options : Options) (path : List (List ℕ)) (counted : Summary)
    (options_now : Options) (writer : FileWriterState) (summary : Summary) (taken : List Item) (entries : List NewEntry) : Type 0 where
  pub same : SameFolder (folder_step f before now)
  pub quiet : f.faults now ≡ f.faults before
  pub options_are : options_now ≡ options
  pub ready : IsWriterFor options writer
  pub sections : List Section
  pub keeps : Keeps sections (kept_in m keep_before keep_now)
  pub children : Children
  pub imported : AreImported options (f.tree before) path taken children
  pub lead : LeadTo entries children
  pub names : map (λ entry. entry.name) entries ≡ item_names taken
  pub sized : All HasPlainLength entries
  pub all : (section : Section) → (Contains (blocks_of_children children) section ↔ Contains sections section)
  pub summary_is : summary ≡ plus counted (counts_of_children children)
  pub order : AreBehindLinks [] sections

pub so_far_none : {S T : Type 0} → (m : KeepMeaning S) (f : FolderMeaning T) → ((s : S) → m.kept s s []) → (keep : S) (before now : T) (options : Options) (path : List (List ℕ)) (writer : FileWriterState)
    (summary : Summary) (entries : List NewEntry) → SameFolder (folder_step f before now) → f.faults now ≡ f.faults before → IsWriterFor options writer → entries ≡ []
    → IsSoFar m f keep keep before now options path summary options writer summary [] entries
so_far_none m f rests keep before now options path writer summary entries same quiet ready none = record {
  same = same;
  quiet = quiet;
  options_are = refl;
  ready = ready;
  sections = [];
  keeps = keeps_nothing m rests keep;
  children = no_child;
  imported = tt;
  lead = subst (λ (l : List NewEntry). LeadTo l no_child) (sym none) tt;
  names = ap (λ (l : List NewEntry). map (λ (entry : NewEntry). entry.name) l) none;
  sized = subst (All HasPlainLength) (sym none) (All-nil HasPlainLength);
  all = λ section. (λ h. h, λ h. h);
  summary_is = sym (plus_nothing summary);
  order = behind_nothing [];
}

-- ---- one child more

plus_swap : (a b : Summary) → plus a b ≡ plus b a
plus_swap a b = same_summary (plus a b) (plus b a) (omega arith) (omega arith) (omega arith) (omega arith)

few_new : (m n : ℕ) → m ≡ n → n < 4294967296 → m < 2 ^ 32
few_new m n e h = (let small : m < 4294967296 = omega arith in small)

weight_more : (a b w rest_a rest_b whole_a whole_b : ℕ) → a ≡ b → w ≡ 36 → rest_a ≡ rest_b → whole_a ≡ (a + w) + rest_a → whole_b ≡ (b + 36) + rest_b → whole_a ≡ whole_b
weight_more a b w rest_a rest_b whole_a whole_b e f g h i = omega arith

abbrev pub with_last : Children → Dag → Children
with_last no_child d = with_child d no_child
with_last (with_child first children) d = with_child first (with_last children d)

imported_more : (options : Options) (told : Option Tree) (path : List (List ℕ)) (items : List Item) (children : Children) (item : Item) (d : Dag) → AreImported options told path items children
    → IsImported options told (path ++ item.name ∷ []) d → AreImported options told path (items ++ item ∷ []) (with_last children d)
imported_more options told path [] no_child item d h more = (more, tt)
imported_more options told path [] (with_child first children) item d h more = absurd h
imported_more options told path (x ∷ items) no_child item d h more = absurd h
imported_more options told path (x ∷ items) (with_child first children) item d h more = (h.0, imported_more options told path items children item d h.1 more)

lead_more : (entries : List NewEntry) (children : Children) (entry : NewEntry) (d : Dag) → LeadTo entries children → entry.cid ≡ root_cid d → entry.tsize ≡ tsize_of d
    → LeadTo (entries ++ entry ∷ []) (with_last children d)
lead_more [] no_child entry d h cid tsize = (cid, tsize, tt)
lead_more [] (with_child first children) entry d h cid tsize = absurd h
lead_more (x ∷ entries) no_child entry d h cid tsize = absurd h
lead_more (x ∷ entries) (with_child first children) entry d h cid tsize = (h.0, h.1, lead_more entries children entry d h.2 cid tsize)

blocks_more : (children : Children) (d : Dag) → blocks_of_children (with_last children d) ≡ blocks_of_children children ++ blocks d
blocks_more no_child d = append-nil (blocks d)
blocks_more (with_child first children) d = ap (λ (l : List Section). blocks first ++ l) (blocks_more children d) ∙ sym (append_assoc (blocks first) (blocks_of_children children) (blocks d))

counts_more : (children : Children) (d : Dag) → counts_of_children (with_last children d) ≡ plus (counts_of_children children) (counts_of d)
counts_more no_child d = plus_swap (counts_of d) nothing
counts_more (with_child first children) d = ap (plus (counts_of first)) (counts_more children d) ∙ sym (plus_assoc (counts_of first) (counts_of_children children) (counts_of d))

-- ---- one entry more

pub so_far_next : {S T : Type 0} → (m : KeepMeaning S) (f : FolderMeaning T) → Joins m → KeepingJoins → (keep0 keep1 keep2 : S) (before now later : T) (options : Options) (path at : List (List ℕ)) (counted : Summary)
    (options_now options_later : Options) (writer writer_later : FileWriterState) (summary summary_later : Summary) (taken : List Item) (item : Item) (entries entries_later : List NewEntry) (made : Made)
    → IsSoFar m f keep0 keep1 before now options path counted options_now writer summary taken entries
    → ImportsAs options_now (f.tree now) at summary made summary_later (kept_in m keep1 keep2)
    → IsDigestSize made.cid.hash (length made.cid.digest)
    → at ≡ path ++ item.name ∷ [] → SameFolder (folder_step f now later) → f.faults later ≡ f.faults now → options_later ≡ options_now → IsWriterFor options_now writer_later
    → entries_later ≡ entries ++ record { name = item.name; cid = made.cid; tsize = made.tsize } ∷ []
    → IsSoFar m f keep0 keep2 before later options path counted options_later writer_later summary_later (taken ++ item ∷ []) entries_later
so_far_next m f joins stores keep0 keep1 keep2 before now later options path at counted options_now options_later writer writer_later summary summary_later taken item entries entries_later made so_far new size here
    same quiet options_same ready pushed =
    let imported = subst (λ (o : Options). IsImported o (f.tree before) (path ++ item.name ∷ []) new.d) so_far.options_are
    (subst (λ (told : Option Tree). IsImported options_now told (path ++ item.name ∷ []) new.d) so_far.same.tree
    (subst (λ (p : List (List ℕ)). IsImported options_now (f.tree now) p new.d) here new.kept.imported)) in
    let entry : NewEntry = record { name = item.name; cid = made.cid; tsize = made.tsize } in
    record {
      same = record { tree = same.tree ∙ so_far.same.tree; place = same.place ∙ so_far.same.place };
      quiet = quiet ∙ so_far.quiet;
      options_are = options_same ∙ so_far.options_are;
      ready = subst (λ (o : Options). IsWriterFor o writer_later) so_far.options_are ready;
      sections = so_far.sections ++ new.kept.sections;
      keeps = keeps_both m joins stores keep0 keep1 keep2 so_far.sections new.kept.sections so_far.keeps new.kept.keeps;
      children = with_last so_far.children new.d;
      imported = imported_more options (f.tree before) path taken so_far.children item new.d so_far.imported imported;
      lead = subst (λ (l : List NewEntry). LeadTo l (with_last so_far.children new.d)) (sym pushed) (lead_more entries so_far.children entry new.d so_far.lead new.cid new.tsize);
      names = ap (λ (l : List NewEntry). map (λ (e : NewEntry). e.name) l) pushed ∙ map-append (λ (e : NewEntry). e.name) entries (entry ∷ [])
          ∙ ap (λ (l : List (List ℕ)). l ++ item.name ∷ []) so_far.names ∙ sym (map-append (λ (x : Item). x.name) taken (item ∷ []));
      sized = subst (All HasPlainLength) (sym pushed) (All-push HasPlainLength entries entry so_far.sized (record { length_is = v1_length made.cid (digest_is made.cid.hash (length made.cid.digest) (ap (λ (c : CidParts). c.hash) new.cid ∙ (root_plain new.d new.kept.imported.sound.whole new.kept.imported.plain).1) size) }));
      all = λ s. (
        λ has. ⊎_elim
            (λ (h : Contains (blocks_of_children so_far.children) s). Contains-append_left so_far.sections new.kept.sections s ((so_far.all s).0 h))
            (λ (h : Contains (blocks new.d) s). Contains-append_right so_far.sections new.kept.sections s ((new.kept.all s).0 h))
            (Contains-append_cases (blocks_of_children so_far.children) (blocks new.d) s (subst (λ (l : List Section). Contains l s) (blocks_more so_far.children new.d) has)),
        λ has. subst (λ (l : List Section). Contains l s) (sym (blocks_more so_far.children new.d))
            (⊎_elim
            (λ (h : Contains so_far.sections s). Contains-append_left (blocks_of_children so_far.children) (blocks new.d) s ((so_far.all s).1 h))
            (λ (h : Contains new.kept.sections s). Contains-append_right (blocks_of_children so_far.children) (blocks new.d) s ((new.kept.all s).1 h))
            (Contains-append_cases so_far.sections new.kept.sections s has)),
      );
      summary_is = new.summary_is ∙ ap (λ (x : Summary). plus x (counts_of new.d)) so_far.summary_is ∙ plus_assoc counted (counts_of_children so_far.children) (counts_of new.d)
          ∙ ap (plus counted) (sym (counts_more so_far.children new.d));
      order = behind_apart so_far.sections new.kept.sections so_far.order new.kept.order;
    }

-- ---- the CIDs of the entries are those of sections that were kept

root_section : (d : Dag) → IsWhole d → (s : Section) × (s.cid ≡ root_cid d) × Contains (blocks d) s
root_section (unopened cid) whole = absurd whole
root_section (bare section fault) whole = absurd whole
root_section (node section kind children) whole = (section, refl, first_is section (blocks_of_children children))

entries_among : (options : Options) (told : Option Tree) (path : List (List ℕ)) (items : List Item) (entries : List NewEntry) (children : Children) (sections : List Section)
    → AreImported options told path items children → LeadTo entries children → ((s : Section) → Contains (blocks_of_children children) s → Contains sections s)
    → (cid : CidParts) → Contains (entry_cids entries) cid → Contains (cids_of sections) cid
entries_among options told path items [] children sections h lead all cid has = absurd (none_in cid has)
entries_among options told path items (entry ∷ entries) no_child sections h lead all cid has = absurd lead
entries_among options told path [] (entry ∷ entries) (with_child d children) sections h lead all cid has = absurd h
entries_among options told path (item ∷ items) (entry ∷ entries) (with_child d children) sections h lead all cid has =
    ⊎_elim
    (λ (here : Contains (entry.cid ∷ []) cid).
    let root = root_section d h.0.sound.whole in
    subst (Contains (cids_of sections)) (root.1 ∙ sym lead.0 ∙ only_one entry.cid cid here)
    (cid_among sections root.0 (all root.0 (Contains-append_left (blocks d) (blocks_of_children children) root.0 root.2))))
    (λ (there : Contains (entry_cids entries) cid).
    entries_among options told path items entries children sections h.1 lead.2
    (λ s inside. all s (Contains-append_right (blocks d) (blocks_of_children children) s inside)) cid there)
    (Contains-append_cases (entry.cid ∷ []) (entry_cids entries) cid has)

-- what links to the entries stands behind what was kept of them
pub entries_behind : {S T : Type 0} → (m : KeepMeaning S) (f : FolderMeaning T) (keep0 keep1 : S) (before now : T) (options : Options) (path : List (List ℕ)) (counted : Summary)
    (options_now : Options) (writer : FileWriterState) (summary : Summary) (taken : List Item) (entries : List NewEntry)
    → (so_far : IsSoFar m f keep0 keep1 before now options path counted options_now writer summary taken entries) → (sections : List Section)
    → AreBehindLinks (entry_cids entries) sections → AreBehindLinks [] (so_far.sections ++ sections)
entries_behind m f keep0 keep1 before now options path counted options_now writer summary taken entries so_far sections h =
    behind_known (entry_cids entries) so_far.sections sections
    (entries_among options (f.tree before) path taken entries so_far.children so_far.sections so_far.imported so_far.lead (λ s has. (so_far.all s).0 has))
    so_far.order h

-- ---- the entries of the directory

good_entries : (options : Options) (told : Option Tree) (path : List (List ℕ)) (entries : List NewEntry) (items : List Item) (children : Children) → AreImported options told path items children → LeadTo entries children
    → map (λ (e : NewEntry). e.name) entries ≡ item_names items → All IsEntryName (item_names items) → All IsGoodEntry entries
good_entries options told path [] items children h lead names each = All-nil IsGoodEntry
good_entries options told path (entry ∷ entries) items no_child h lead names each = absurd lead
good_entries options told path (entry ∷ entries) [] (with_child d children) h lead names each = absurd h
good_entries options told path (entry ∷ entries) (item ∷ items) (with_child d children) h lead names each =
    let here = subst IsEntryName (sym (head_is names)) (All-head IsEntryName item.name (item_names items) each) in
    All-cons IsGoodEntry entry entries
    (record { name = here.good; short = here.short; plain = ap (λ (c : CidParts). c.hash) lead.0 ∙ (root_plain d h.0.sound.whole h.0.plain).1 })
    (good_entries options told path entries items children h.1 lead.2 (tail_is names) (All-tail IsEntryName item.name (item_names items) each))

pub new_entries : (options : Options) (told : Option Tree) (path : List (List ℕ)) (entries : List NewEntry) (items : List Item) (children : Children) → AreImported options told path items children → LeadTo entries children
    → map (λ (e : NewEntry). e.name) entries ≡ item_names items → AreEntryNames (item_names items) → length items < entry_limit → AreNewEntries entries
new_entries options told path entries items children h lead names good few =
    let a = ap length names in
    let b = length-map entries (λ (e : NewEntry). e.name) in
    let c = length-map items (λ (x : Item). x.name) in
    let small : length items < 4294967296 = few in
    record {
      each = good_entries options told path entries items children h lead names good.each;
      differ = subst (IsDistinct bytes_eq) (sym names) good.differ;
      few = few_new (length entries) (length items) (sym b ∙ a ∙ c) small;
    }

pub weights : (entries : List NewEntry) (items : List Item) → map (λ (e : NewEntry). e.name) entries ≡ item_names items → All HasPlainLength entries
    → weight_for entries ≡ weight_of_items items
weights [] [] names sized = refl
weights [] (item ∷ items) names sized = absurd (let f : 0 ≡ suc (length (item_names items)) = ap length names in omega arith)
weights (entry ∷ entries) [] names sized = absurd (let f : suc (length (map (λ (e : NewEntry). e.name) entries)) ≡ 0 = ap length names in omega arith)
weights (entry ∷ entries) (item ∷ items) names sized =
    let rest = weights entries items (tail_is names) (All-tail HasPlainLength entry entries sized) in
    let here = (All-head HasPlainLength entry entries sized).length_is in
    let name = ap length (head_is names) in
    let one = sum_by-cons weight_in entry entries in
    let two = sum_by-cons (λ (x : Item). length x.name + 36) item items in
    weight_more (length entry.name) (length item.name) (length (v1_bytes entry.cid)) (weight_for entries) (weight_of_items items) (weight_for (entry ∷ entries)) (weight_of_items (item ∷ items)) name here rest one two
