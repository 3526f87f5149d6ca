-- A directory in one block or sharded, by its weight.
use Rattle.std.proofs.Common.{◌≡◌, inl, inr, ⊎_elim, ℕ, ◌+◌, ◌<◌, ◌≤◌, List, [], ◌∷◌, length, refl, ap, sym, ◌∙◌, subst, arith}
use Rattle.std.specs.List.{IsDistinct, sum_by}
use Rattle.std.specs.List.Sorted.{IsPermutation, IsSortedByKey}
use Rattle.std.specs.Prelude.{All, Contains, bytes_eq, map}
use Rattle.std.proofs.lemmas.List.Elements.{All-cons, All-map, All-nil, All-weaker, Contains-append_cases, Contains-append_left}
use Rattle.std.proofs.lemmas.List.Sorted.{All-permutation, Contains-permutation, IsPermutation-map, IsPermutation-sym, sum_by-IsPermutation}
use Rattle.std.proofs.lemmas.List.Sums.{sum-map, sum_by-cons}
use Rattle.std.proofs.lemmas.Map.Keys.{IsDistinct-IsPermutation}
use Rattle.std.specs.Cmp.Lexicographic.{nat_list_eq_equiv}
use Rattle.tg_bytes.specs.Order.{bytes_cmp}
use Rattle.tg_cid.specs.Computed.{v1_bytes}
use Rattle.tg_dir.proofs.OneBlock.{all_listed, all_tsizes, basic_dag, basic_laid, basic_sound}
use Rattle.tg_dir.proofs.Orders.{entries_sorted}
use Rattle.tg_dir.proofs.Pairs.{EntryDag, IsInOrder, IsLed, all_laid, all_led, block_in, children_are, children_in, entries_are, entries_in, in_order, listed, listed_are, of_pair, pairs_of}
use Rattle.tg_dir.specs.Basic.{MakesBasic}
use Rattle.tg_dir.specs.Made.{IsBasicCause, IsMadeBy, MakesDirectory, StopsInOrder}
use Rattle.tg_dir.specs.Weights.{weight_for, weight_in}
use Rattle.tg_hamt.specs.declared.fault.HamtFault.{HamtFault}
use Rattle.tg_hamt.specs.declared.fault.HamtFault.TheVariants as faults
use Rattle.tg_hamt.specs.Directories.{AreGoodEntries, AreSound, IsCause, IsMadeDirectory, MakesSharded, listed_for}
use Rattle.tg_hamt.specs.Order.{IsGoodEntry}
use Rattle.tg_model.specs.Content.{DirEntry, entries}
use Rattle.tg_model.specs.Dag.{Children, blocks_of_children, no_child, root_cid, with_child}
use Rattle.tg_model.specs.EntryNames.{IsGoodName}
use Rattle.tg_model.specs.ImportLayout.{HasPlainCid, IsLaidAt, basic_unix, weight_of}
use Rattle.tg_model.specs.Sound.{top}
use Rattle.tg_model.specs.Stores.{Keeping}
use Rattle.tg_model.specs.declared.kinds.Made.{Made}
use Rattle.tg_model.specs.declared.kinds.NewEntry.{NewEntry}
use Rattle.tg_node_writing.specs.Nodes.{IsNodeOf, LeadTo, NodeLaws}
use Rattle.tg_node_writing.specs.BlockOrder.{AreBehindLinks, LinksOfNodes, entry_cids}
use Rattle.tg_node_writing.specs.BlockOrderLaws.{behind_nothing, behind_one, links_wider}
use Rattle.tg_node_writing.specs.Keeping.{section_of}
use Rattle.tg_cid.specs.declared.cid.Codec.TheVariants.{DagPb}

-- ---- weights

abbrev weight_listed : DirEntry → ℕ
weight_listed entry = length entry.name + length (v1_bytes (root_cid entry.dag))

listed_weight : (es : List NewEntry) (children : Children) → LeadTo es children → sum_by weight_listed (listed_for es children) ≡ weight_for es
listed_weight [] children lead = refl
listed_weight (e ∷ es) no_child lead = absurd lead
listed_weight (e ∷ es) (with_child d children) lead =
    let here : length (v1_bytes e.cid) ≡ length (v1_bytes (root_cid d)) = ap (λ c. length (v1_bytes c)) lead.0 in
    let rest = listed_weight es children lead.2 in
    let left = sum_by-cons weight_listed (record { name = e.name; dag = d }) (listed_for es children) in
    let right = sum_by-cons weight_in e es in
    omega (arith, here, rest, left, right)

-- the weight of what is listed in any order
weight_is : (es : List NewEntry) (children : Children) (found : List DirEntry) → LeadTo es children → IsPermutation (listed_for es children) found → weight_of found ≡ weight_for es
weight_is es children found lead lists =
    sum-map weight_listed found ∙ sum_by-IsPermutation weight_listed (listed_for es children) found lists ∙ listed_weight es children lead

-- ---- a sharded directory

pub sharded_made : (threshold : ℕ) (new : List NewEntry) (made : Made) (keeping : Keeping) → threshold < weight_for new → MakesSharded new made keeping
    → MakesDirectory threshold new made keeping
sharded_made threshold new made keeping heavy makes = record {
  sections = makes.sections;
  keeps = makes.keeps;
  order = makes.order;
  directory = λ children lead sound.
      let found = makes.directory children lead sound in
      let m = found.1 in (
        found.0,
        record {
          directory = m.directory;
          sharded = λ h. (m.section, m.slots, m.below, m.sharded);
          basic = λ light. absurd (omega (arith, heavy, light));
          laid = λ options is laid.
              let weight = weight_is new children (entries found.0) lead m.directory.lists in
              m.laid options laid (omega (arith, is, weight, heavy));
        },
      );
}

-- ---- a directory in one block

names_good : (es : List NewEntry) → All IsGoodEntry es → All IsGoodName (map (λ (e : NewEntry). e.name) es)
names_good es good = All-map IsGoodName (λ (e : NewEntry). e.name) es (All-weaker IsGoodEntry (λ (e : NewEntry). IsGoodName e.name) (λ e h. h.name) es good)

names_differ : (new es : List NewEntry) → IsPermutation new es → IsDistinct bytes_eq (map (λ (e : NewEntry). e.name) new) → IsDistinct bytes_eq (map (λ (e : NewEntry). e.name) es)
names_differ new es same differ =
    IsDistinct-IsPermutation bytes_eq (λ x y. nat_list_eq_equiv.symm x y) (map (λ (e : NewEntry). e.name) new) (map (λ (e : NewEntry). e.name) es)
    (IsPermutation-map (λ (e : NewEntry). e.name) new es same) differ

-- over the entries' DAGs in the order of the names
module _ (laws : NodeLaws) (threshold : ℕ) (new : List NewEntry) (children : Children) (made : Made) (keeping : Keeping) (good : AreGoodEntries new) (light : weight_for new ≤ threshold)
    (lead : LeadTo new children) (sound : AreSound children) (m : MakesBasic new made keeping) (o : IsInOrder (pairs_of new children) m.sorted) where
  led : All IsLed o.moved
  led = All-permutation IsLed (pairs_of new children) o.moved o.permutation (all_led new children lead sound)

  written : IsNodeOf (entries_in o.moved) basic_unix m.kept.block
  written = subst (λ (l : List NewEntry). IsNodeOf l basic_unix m.kept.block) (sym o.entries) m.kept.written

  permuted : IsPermutation new (entries_in o.moved)
  permuted = subst (IsPermutation new) (sym o.entries) m.permutation

  differ : IsDistinct bytes_eq (map (λ (e : NewEntry). e.name) (entries_in o.moved))
  differ = names_differ new (entries_in o.moved) permuted good.differ

  lists : IsPermutation (listed_for new children) (entries (basic_dag o.moved m.kept.block))
  lists = subst (λ (l : List DirEntry). IsPermutation l (entries (basic_dag o.moved m.kept.block))) (listed_are new children)
      (subst (IsPermutation (map listed (pairs_of new children))) (sym (all_listed o.moved)) (IsPermutation-map listed (pairs_of new children) o.moved o.permutation))

  pub directory_basic : IsMadeDirectory new children made (section_of DagPb m.kept.block ∷ []) (basic_dag o.moved m.kept.block)
  directory_basic = record {
    sound = basic_sound laws o.moved m.kept.block written led
        (names_good (entries_in o.moved) (All-permutation IsGoodEntry new (entries_in o.moved) permuted good.each)) differ;
    lists = lists;
    blocks_are = λ b has. ⊎_elim
        (λ (here : Contains (section_of DagPb m.kept.block ∷ []) b). inl here)
        (λ (there : Contains (blocks_of_children (children_in o.moved)) b).
        let found = of_pair o.moved b there in
        let among = Contains-permutation o.moved (pairs_of new children) found.pair (IsPermutation-sym (pairs_of new children) o.moved o.permutation) found.among in
        inr (subst (λ (c : Children). Contains (blocks_of_children c) b) (children_are new children lead) (block_in (pairs_of new children) found.pair b among found.has)))
        (Contains-append_cases (section_of DagPb m.kept.block ∷ []) (blocks_of_children (children_in o.moved)) b has);
    own_blocks = λ b has. Contains-append_left (section_of DagPb m.kept.block ∷ []) (blocks_of_children (children_in o.moved)) b has;
    plain = All-cons HasPlainCid (section_of DagPb m.kept.block) [] (refl, refl) (All-nil HasPlainCid);
    cid = m.kept.cid_is;
    content_is = m.kept.content_is;
    tsize = m.kept.tsize_is
        ∙ ap (λ (n : ℕ). length m.kept.block + n) (ap (λ (l : List NewEntry). sum_by (λ (e : NewEntry). e.tsize) l) (sym o.entries) ∙ all_tsizes o.moved led);
  }

  pub made_basic : IsMadeBy threshold new children made (section_of DagPb m.kept.block ∷ []) (basic_dag o.moved m.kept.block)
  made_basic = record {
    directory = directory_basic;
    sharded = λ heavy. absurd (omega (arith, heavy, light));
    basic = λ h. (section_of DagPb m.kept.block, _, children_in o.moved, refl);
    laid = λ options is laid.
        let weight = weight_is new children (entries (basic_dag o.moved m.kept.block)) lead lists in
        basic_laid laws options o.moved m.kept.block written led
        (entries_sorted (entries_in o.moved) (subst (λ (l : List NewEntry). IsSortedByKey (λ (e : NewEntry). e.name) bytes_cmp l) (sym o.entries) m.rises) differ)
        (omega (arith, weight, light, is))
        (All-permutation (λ (pair : EntryDag). IsLaidAt options top pair.dag) (pairs_of new children) o.moved o.permutation (all_laid options new children laid));
  }

basic_order : LinksOfNodes → (new : List NewEntry) (made : Made) (keeping : Keeping) → (m : MakesBasic new made keeping)
    → AreBehindLinks (entry_cids new) (section_of DagPb m.kept.block ∷ [])
basic_order law new made keeping m =
    let f = λ (e : NewEntry). e.cid in
    let section = section_of DagPb m.kept.block in
    behind_one (entry_cids new) section
    (links_wider (entry_cids m.sorted) (entry_cids new) section
    (λ cid has. Contains-permutation (entry_cids m.sorted) (entry_cids new) cid (IsPermutation-sym (entry_cids new) (entry_cids m.sorted) (IsPermutation-map f new m.sorted m.permutation)) has)
    (law m.sorted basic_unix section m.kept.written))

pub basic_made : NodeLaws → LinksOfNodes → (threshold : ℕ) (new : List NewEntry) (made : Made) (keeping : Keeping) → AreGoodEntries new → weight_for new ≤ threshold → MakesBasic new made keeping
    → MakesDirectory threshold new made keeping
basic_made laws links_law threshold new made keeping good light m = record {
  sections = section_of DagPb m.kept.block ∷ [];
  keeps = m.kept.keeps;
  order = basic_order links_law new made keeping m;
  directory = λ children lead sound.
      let o = in_order (pairs_of new children) m.sorted (subst (λ (l : List NewEntry). IsPermutation l m.sorted) (sym (entries_are new children lead)) m.permutation) in
      (basic_dag o.moved m.kept.block, made_basic laws threshold new children made keeping good light lead sound m o);
}

-- ---- before a fault

pub sharded_stops : (new : List NewEntry) (fault : HamtFault) (keeping : Keeping) → IsCause new fault keeping → StopsInOrder new fault keeping
sharded_stops new (faults.SameHash first second) keeping h = h.1
sharded_stops new (faults.Keep fault) keeping h = (h.1.sections, h.1.stops, h.1.order)
sharded_stops new faults.OutOfMemory keeping h = (h.sections, h.stops, h.order)

pub basic_stops : (new : List NewEntry) (fault : HamtFault) (keeping : Keeping) → IsBasicCause fault keeping → StopsInOrder new fault keeping
basic_stops new (faults.SameHash first second) keeping h = absurd h
basic_stops new (faults.Keep fault) keeping h = ([], h.1, behind_nothing (entry_cids new))
basic_stops new faults.OutOfMemory keeping h = ([], h, behind_nothing (entry_cids new))
